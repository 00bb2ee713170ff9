use Rattle.std.proofs.Common.{map, string_bytes}
use Rattle.pf_words.specs.Said.{words_read}
use Rattle.pfctl.specs.Program.{outside}
use Rattle.pfctl.proofs.Tasks.{idle_cause, idle_means}
use Rattle.pfctl.proofs.program.run.Goals as goal

pub returns-in-Err-NoMemory-clause-means : goal.returns-in-Err-NoMemory-clause-means
returns-in-Err-NoMemory-clause-means g c =
    idle_means (words_read (map string_bytes c.args.words.now)) (outside (g.F.Files.tells c.args.files.now) (g.S.Source.tells c.args.input.now) (g.W.Sink.tells c.args.out.now))

pub returns-in-Err-NoMemory-clause-cause : goal.returns-in-Err-NoMemory-clause-cause
returns-in-Err-NoMemory-clause-cause g c =
    idle_cause (words_read (map string_bytes c.args.words.now)) (outside (g.F.Files.tells c.args.files.now) (g.S.Source.tells c.args.input.now) (g.W.Sink.tells c.args.out.now))
