use Rattle.std.specs.Option.{option_copied}
use Rattle.pf_base.specs.Path.{bytes_behind}
use Rattle.pf_base.proofs.PathReads.{ReadSoFar}
use Rattle.pf_base.proofs.path_text.read_names.Given as goal

abbrev pub invariant-loop-next : goal.invariant-loop-next
invariant-loop-next l = ReadSoFar l.any l.text l.path l.count (option_copied l.next)

abbrev pub decreases-loop-next : goal.decreases-loop-next
decreases-loop-next l = bytes_behind (option_copied l.next)
