use Rattle.std.proofs.Common.{◌≡◌, true, length}
use Rattle.std.specs.List.{list_all}
use Rattle.pf_tree.specs.Meaning.{is_prepared}
use Rattle.pf_state.specs.Commits.{paths_of}
use Rattle.pf_state.specs.Outlines.{with_shelves}
use Rattle.pf_state.proofs.commit.install_all.Given as goal

abbrev pub invariant-loop-part : goal.invariant-loop-part
invariant-loop-part l = record {
  each : length l.shelves.items ≡ length l.parts.items;
  left : with_shelves l.tree.payloads l.parts.items l.shelves.items ≡ with_shelves l.initial.tree.payloads l.initial.parts.items l.initial.shelves.items;
  all : list_all (λ path. is_prepared l.tree path) (paths_of l.parts.items) ≡ true;
  prepared : l.tree.prepared ≡ l.initial.tree.prepared;
}

abbrev pub decreases-loop-part : goal.decreases-loop-part
decreases-loop-part l = length l.parts.items
