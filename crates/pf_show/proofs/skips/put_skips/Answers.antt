use Rattle.std.proofs.Common.{ℕ, List, ◌∷◌, [], ◌++◌, length, ap, sym, ◌∙◌}
use Rattle.std.specs.List.{range_with_len}
use Rattle.pf_optim.specs.Ruleset.{form_of}
use Rattle.pf_rule.specs.declared.rule.Rule.{Rule}
use Rattle.pf_show.specs.Lines.{shown_by}
use Rattle.pf_show.specs.Skipping.{skip_line}
use Rattle.pf_show.proofs.Showing.{extends_then, lines_of_map, place_more, places_done}
use Rattle.pf_show.proofs.skips.put_skips.Goals as goal

pub loop-place-preserved : goal.loop-place-preserved
loop-place-preserved c =
    let rules = (form_of c.args.rules.now).rules in
    let count = length c.fast.result.now in
    record {
      whole = place_more (λ (place : ℕ). skip_line rules place ++ 10 ∷ []) count c.loop-place.place c.loop-place.out.items c.put_skip_line.new.out.items (c.args.out.now.items ++ shown_by (skip_line rules) (range_with_len 0 count)) c.loop-place-test.true c.loop-place.invariant.whole c.in_ok-put_skip_line.ensures.ok;
      kept = extends_then c.loop-place.invariant.kept c.in_ok-put_skip_line.ensures.kept;
    }

pub returns-clause-ok : goal.returns-clause-ok
returns-clause-ok c =
    let rules = (form_of c.args.rules.now).rules in
    let count = length c.fast.result.now in
    places_done (λ (place : ℕ). skip_line rules place ++ 10 ∷ []) count c.loop-place.place c.loop-place.out.items (c.args.out.now.items ++ shown_by (skip_line rules) (range_with_len 0 count)) c.loop-place-test.false c.loop-place.invariant.whole
    ∙ ap (λ (t : List ℕ). c.args.out.now.items ++ t) (ap (λ (rs : List Rule). shown_by (skip_line rules) (range_with_len 0 (length rs))) c.fast.ensures.rules ∙ sym (lines_of_map (skip_line rules) (range_with_len 0 (length rules))))
