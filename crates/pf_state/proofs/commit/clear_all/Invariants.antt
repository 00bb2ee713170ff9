use Rattle.std.proofs.Common.{◌≡◌, drop}
use Rattle.pf_state.proofs.Clearing.{cleared_by}
use Rattle.pf_state.proofs.commit.clear_all.Given as goal

abbrev pub invariant-loop-part : goal.invariant-loop-part
invariant-loop-part l = record {
  payloads : cleared_by (drop l.part-index l.parts) l.tree.payloads ≡ cleared_by l.parts l.initial.tree.payloads;
  prepared : l.tree.prepared ≡ l.initial.tree.prepared;
}
