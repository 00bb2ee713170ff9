use Rattle.std.proofs.Common.{◌≡◌, ℕ, ◌+◌, List, length, drop, sym, ap, ◌∙◌, arith}
use Rattle.pf_state.specs.declared.ready.Staged.{Staged}
use Rattle.pf_state.proofs.Clearing.{cleared, cleared_by}
use Rattle.pf_state.proofs.Lists.{left, none_left}
use Rattle.pf_state.proofs.commit.clear_all.Goals as goal

pub loop-part-preserved : goal.loop-part-preserved
loop-part-preserved c = record {
  payloads = ap (cleared_by (drop (c.loop-part.part-index + 1) c.args.parts.now)) c.clear_under.ensures.payloads
      ∙ ap (λ (ps : List Staged). cleared_by ps c.loop-part.tree.payloads) (sym (left c.args.parts.now c.loop-part.part-index c.part-item.result c.loop-part-test.true c.part-item.is))
      ∙ c.loop-part.invariant.payloads;
  prepared = c.clear_under.ensures.prepared ∙ c.loop-part.invariant.prepared;
}

pub returns-clause-payloads : goal.returns-clause-payloads
returns-clause-payloads c =
    ap (λ (ps : List Staged). cleared_by ps c.loop-part.tree.payloads) (sym (none_left c.args.parts.now c.loop-part.part-index (omega arith)))
    ∙ c.loop-part.invariant.payloads
    ∙ cleared c.args.parts.now c.args.tree.now.payloads
