use Rattle.std.proofs.Common.{map, string_bytes, refl}
use Rattle.pf_words.specs.Said.{words_read}
use Rattle.pfctl.proofs.Tasks.{no_read_fault, no_write_fault}
use Rattle.pfctl.proofs.program.run_surely.Goals as goal

pub returns-clause-reads : goal.returns-clause-reads
returns-clause-reads c = no_read_fault (words_read (map string_bytes c.args.words.now)) _ _ c.run.result refl refl c.run.ensures.cause

pub returns-clause-writes : goal.returns-clause-writes
returns-clause-writes c = no_write_fault (words_read (map string_bytes c.args.words.now)) _ _ c.run.result refl refl c.run.ensures.cause
