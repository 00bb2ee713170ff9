use Rattle.std.proofs.Common.{◌≡◌, take}
use Rattle.pf_shelf.specs.Change.{changed}
use Rattle.pf_shelf.specs.declared.change.ChangeKind.TheVariants.{Delete}
use Rattle.pf_shelf.proofs.words.remove_each.Given as goal

abbrev pub invariant-loop-word : goal.invariant-loop-word
invariant-loop-word l = l.table ≡ changed Delete (take l.word-index l.words) l.initial.table
