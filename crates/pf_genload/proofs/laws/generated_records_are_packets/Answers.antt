use Rattle.pf_gen.specs.Draws.{after}
use Rattle.pf_genload.proofs.Records.{are_packets}
use Rattle.pf_genload.proofs.laws.generated_records_are_packets.Goals as goal

pub returns : goal.returns
returns c = λ number. are_packets c.printed_texts_read_back.ensures.address (after number 14000) 5000
