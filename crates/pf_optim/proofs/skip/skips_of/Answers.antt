use Rattle.std.proofs.Common.{◌≡◌, ◌+◌, ◌-◌, ◌<◌, length, reverse, sym, ap, ◌∙◌, arith}
use Rattle.pf_optim.specs.SkipSteps.{first_row, row_of}
use Rattle.pf_optim.proofs.Skipping.{from_place, rows_more, to_end}
use Rattle.pf_optim.proofs.skip.skips_of.Goals as goal

pub loop-place-preserved : goal.loop-place-preserved
loop-place-preserved c =
    let rules = c.args.rules.now in
    let p = c.loop-place.place - 1 in
    let rule = c.index-rules-place.result in
    let inside : p < length rules = omega arith in
    let next : p + 1 ≡ c.loop-place.place = omega arith in
    let at = from_place rules p rule inside c.index-rules-place.is in
    let row = c.row_at-next.ensures ∙ ap (row_of p rule) (to_end rules (p + 1)) in
    record {
      within = omega arith;
      next = row ∙ sym (ap (first_row p) at);
      found = ap reverse c.in_ok-push.ensures.items ∙ rows_more c.loop-place.rows.items c.row_at-next.result rules p c.loop-place.place rule next at row c.loop-place.invariant.found;
    }
