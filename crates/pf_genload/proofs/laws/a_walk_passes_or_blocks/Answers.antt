use Rattle.pf_genload.proofs.Deciding.{answer_decides, none_skipped}
use Rattle.pf_genload.proofs.laws.a_walk_passes_or_blocks.Goals as goal

pub returns : goal.returns
returns c = record { decided = answer_decides; unskipped = none_skipped }
