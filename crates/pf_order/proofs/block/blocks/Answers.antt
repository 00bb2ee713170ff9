use Rattle.std.proofs.Common.{◌≡◌, ℕ, List, Bool, ◌+◌, ◌-◌, ◌<◌, length, drop, sym, ap, ◌∙◌, arith}
use Rattle.pf_order.specs.Blocks.{joins, runs_of, spans_from}
use Rattle.pf_order.specs.BlockSteps.{ends_block, with_place}
use Rattle.pf_order.specs.declared.block.Span.{Span}
use Rattle.pf_rule.specs.declared.rule.Rule.{Rule}
use Rattle.pf_order.proofs.Blocking.{span_step}
use Rattle.pf_order.proofs.Gaining.{from_place, to_end}
use Rattle.pf_order.proofs.block.blocks.Goals as goal

pub loop-place-preserved : goal.loop-place-preserved
loop-place-preserved c =
    let rules = c.args.rules.now in
    let p = c.loop-place.place - 1 in
    let rule = c.index-rules-place.result in
    let inside : p < length rules = omega arith in
    let next : p + 1 ≡ c.loop-place.place = omega arith in
    let at = from_place rules p rule inside c.index-rules-place.is in
    let rest = drop (p + 1) rules in
    record {
      within = omega arith;
      found =
          c.in_ok-put_before.ensures
          ∙ ap (λ (t : List Span). with_place c.ends_block-alone.result p t) (c.loop-place.invariant.found ∙ sym (ap (λ (n : ℕ). spans_from n (runs_of joins (drop n rules))) next))
          ∙ ap (λ (b : Bool). with_place b p (spans_from (p + 1) (runs_of joins rest)))
          (c.ends_block-alone.ensures ∙ ap (λ (t : List Rule). ends_block rule t) (to_end rules (p + 1)))
          ∙ sym (span_step p rule rest)
          ∙ sym (ap (λ (t : List Rule). spans_from p (runs_of joins t)) at);
    }
