use Rattle.std.proofs.Common.{◌≡◌, ◌+◌, length, ap, ◌∙◌}
use Rattle.pf_state.specs.Limits.{first_of, limits, planned_entries, planned_rules}
use Rattle.pf_state.specs.declared.session.Amount.{Amount}
use Rattle.pf_state.proofs.machine.Machine.open_refusal.Goals as goal

pub returns : goal.returns
returns c =
    let more : Amount → Amount = λ a. record {
      rules = a.rules + planned_rules c.args.ready.now;
      rulesets = a.rulesets + length c.args.ready.now.parts;
      entries = a.entries + planned_entries c.args.ready.now;
    } in
    c.limit_refusal.ensures ∙ ap (λ (a : Amount). first_of (limits a.rules a.rulesets a.entries)) (c.in_ok-amount.ensures ∙ ap more c.in_ok-before.ensures)
