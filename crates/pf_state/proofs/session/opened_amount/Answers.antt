use Rattle.std.proofs.Common.{◌≡◌, ℕ, ◌+◌, List, length, map, sym, ap, ◌∙◌}
use Rattle.std.specs.BTreeMap.{values}
use Rattle.std.specs.FinMap as finite
use Rattle.std.specs.Map.Iter.{deref}
use Rattle.std.proofs.lemmas.Map.Iter.{iter_end}
use Rattle.pf_state.specs.Limits.{planned_entries, planned_rules}
use Rattle.pf_state.specs.declared.ready.Opened.{Opened}
use Rattle.pf_state.specs.declared.session.Amount.{Amount}
use Rattle.pf_state.proofs.Opening.{sum_all, sum_more}
use Rattle.pf_state.proofs.session.opened_amount.Goals as goal

abbrev rules_of : Opened → ℕ
rules_of opened = planned_rules opened.ready

abbrev rulesets_of : Opened → ℕ
rulesets_of opened = length opened.ready.parts

abbrev entries_of : Opened → ℕ
entries_of opened = planned_entries opened.ready

pub loop-opened-preserved : goal.loop-opened-preserved
loop-opened-preserved c = record {
  rules = sum_more rules_of c.loop-opened.yielded c.in-Some.opened c.loop-opened.amount.rules _ c.loop-opened.invariant.rules (ap (λ (a : Amount). a.rules) c.in_ok-amount.ensures);
  rulesets = sum_more rulesets_of c.loop-opened.yielded c.in-Some.opened c.loop-opened.amount.rulesets _ c.loop-opened.invariant.rulesets (ap (λ (a : Amount). a.rulesets) c.in_ok-amount.ensures);
  entries = sum_more entries_of c.loop-opened.yielded c.in-Some.opened c.loop-opened.amount.entries _ c.loop-opened.invariant.entries (ap (λ (a : Amount). a.entries) c.in_ok-amount.ensures);
}

pub returns : goal.returns
returns c =
    let inside = c.sessions.inside.values in
    let whole = (iter_end deref (values inside) c.loop-opened.yielded c.into_iter-opened-iterator.result c.loop-opened.opened-iterator c.next.new.self c.next.result (c.into_iter-opened-iterator.ensures.into_iter_gives ∙ c.values-opened-items.ensures.rest) c.loop-opened.yielded_by c.in-None.is c.next.ensures.steps).0 in
    let listed = ap finite.entries (sym c.sessions.view_is) ∙ c.name_map_laws.ensures.listed inside c.values-opened-items.ensures.ordered in
    λ i. record {
      rules = sum_all rules_of inside c.args.sessions.now c.loop-opened.yielded c.loop-opened.amount.rules whole listed c.loop-opened.invariant.rules i;
      rulesets = sum_all rulesets_of inside c.args.sessions.now c.loop-opened.yielded c.loop-opened.amount.rulesets whole listed c.loop-opened.invariant.rulesets i;
      entries = sum_all entries_of inside c.args.sessions.now c.loop-opened.yielded c.loop-opened.amount.entries whole listed c.loop-opened.invariant.entries i;
    }
