use Rattle.std.proofs.Common.{ℕ, ◌++◌}
use Rattle.std.specs.List.{flat_map, range_with_len}
use Rattle.pf_optim.specs.Ruleset.{form_of}
use Rattle.pf_optim.specs.Skips.{skip}
use Rattle.pf_show.specs.Skipping.{place_text}
use Rattle.pf_show.proofs.Showing.{extends_then, place_more, places_done}
use Rattle.pf_show.proofs.skips.put_fields.Goals as goal

pub loop-field-preserved : goal.loop-field-preserved
loop-field-preserved c =
    let text = λ (field : ℕ). place_text (skip (form_of c.args.rules.now).rules c.args.place field) in
    record {
      whole = place_more text 8 c.loop-field.field c.loop-field.out.items c.put_skip.new.out.items (c.args.out.now.items ++ flat_map text (range_with_len 0 8)) c.loop-field-test.true c.loop-field.invariant.whole c.in_ok-put_skip.ensures.ok;
      kept = extends_then c.loop-field.invariant.kept c.in_ok-put_skip.ensures.kept;
    }

pub returns-clause-ok : goal.returns-clause-ok
returns-clause-ok c =
    let text = λ (field : ℕ). place_text (skip (form_of c.args.rules.now).rules c.args.place field) in
    places_done text 8 c.loop-field.field c.loop-field.out.items (c.args.out.now.items ++ flat_map text (range_with_len 0 8)) c.loop-field-test.false c.loop-field.invariant.whole
