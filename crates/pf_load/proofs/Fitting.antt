-- What is laid on a fit draft leaves it fit, and at the end of its units a fit plan is made of it.
use Rattle.std.proofs.Common.{◌≡◌, ℕ, ◌≤◌, Bool, true, false, List, [], ◌∷◌, ◌++◌, length, map, Option, Some, None, Result, Ok, Err, refl, sym, ap, ◌∙◌, subst, arith}
use Rattle.std.specs.Prelude.{◌&&◌, nat_le, nat_lt, if◌then◌else◌, is_none, IfOk}
use Rattle.std.specs.List.{list_all}
use Rattle.std.proofs.lemmas.List.Folds.{list_all-append}
use Rattle.std.proofs.lemmas.Bool.Decides.{nat_tests}
use Rattle.pf_base.specs.declared.fault.FaultKind.{FaultKind}
use Rattle.pf_base.specs.declared.fault.FaultKind.TheVariants as kinds
use Rattle.pf_base.specs.declared.fault.Place.{Place}
use Rattle.pf_base.specs.declared.kind.Level.{Level}
use Rattle.pf_decl.specs.declared.form.OptionLine.{OptionLine}
use Rattle.pf_decl.specs.declared.form.Queue.{Queue}
use Rattle.pf_expand.specs.Expansion.{Expands}
use Rattle.pf_expand.specs.Written.{has_no_auto}
use Rattle.pf_expand.specs.declared.order.Defaults.{Defaults}
use Rattle.pf_expand.specs.declared.order.Order.{Order}
use Rattle.pf_form.specs.declared.form.Draft.{Draft as Said}
use Rattle.pf_form.specs.declared.form.Head.{Head}
use Rattle.pf_form.specs.declared.form.Head.TheVariants as heads
use Rattle.pf_form.specs.declared.form.RuleForm.{RuleForm}
use Rattle.pf_grammar.specs.Late.{late_of}
use Rattle.pf_host.specs.Facts.{HostFacts}
use Rattle.pf_parts.specs.declared.call.Call.{Call}
use Rattle.pf_parts.specs.declared.params.Queues.{Queues}
use Rattle.pf_plan.specs.Anchors.{closed, closed_in, counted, next_unit, opened, with_load}
use Rattle.pf_lexer.specs.Stages.{LexerState}
use Rattle.pf_plan.specs.Drafts.{begun_draft, most_rules, with_lines, with_queue, with_rules, with_table}
use Rattle.pf_plan.specs.Ends.{HasEndFault, end_fault, or_else, overfull, part_of, plan_of, queue_fault, rulesets_of, too_many, unclosed}
use Rattle.pf_fault.specs.Order.{fault_at, first_of}
use Rattle.pf_fault.specs.Stops.{UnlessShort}
use Rattle.pf_plan.specs.declared.draft.Draft.{Draft}
use Rattle.pf_plan.specs.declared.draft.Filling.{Filling}
use Rattle.pf_plan.specs.declared.draft.Ruleset.{Ruleset}
use Rattle.pf_fault.specs.declared.fault.Fault.{Fault}
use Rattle.pf_fault.specs.declared.fault.Stop.{Stop}
use Rattle.pf_plan.specs.declared.plan.Part.{Part}
use Rattle.pf_rule.specs.declared.rule.Rule.{Rule}
use Rattle.pf_shelf.specs.declared.decl.TableDecl.{TableDecl}
use Rattle.pf_token.specs.declared.token.Token.{Token}
use Rattle.pf_load.specs.Anchors.{awaiting, call_of, call_of_rules, entered, load_fault, named_call, no_call, reach_fault, reach_of}
use Rattle.pf_load.specs.Fit.{IsDraftFit, IsNextFit, StaysFit, are_written, is_filling_written, is_part_fit, is_plan_fit, is_ruleset_written}
use Rattle.pf_load.specs.Answers.{next_of}
use Rattle.pf_load.specs.Statements.{Expanded, RuleComes, SaidComes, close_in, defaults_of, fault_in, is_said, late_at, load_laid, no_rule, order_of, rules_in, rules_laid, stop_of, unless}
use Rattle.pf_load.specs.declared.reach.Reach.{Reach}
use Rattle.pf_load.specs.declared.reach.Reach.TheVariants.{Nowhere, Here, Into}

both : (a b : Bool) → a ≡ true → b ≡ true → (a && b) ≡ true
both a b h k = rw (h, k) refl

left_of : (a b : Bool) → (a && b) ≡ true → a ≡ true
left_of true b h = refl
left_of false b h = absurd cc

right_of : (a b : Bool) → (a && b) ≡ true → b ≡ true
right_of true b h = h
right_of false b h = absurd cc

all_behind : {A : Type 0} (p : A → Bool) (xs ys : List A) → list_all p xs ≡ true → list_all p ys ≡ true → list_all p (xs ++ ys) ≡ true
all_behind p xs ys h k = list_all-append p xs ys ∙ both (list_all p xs) (list_all p ys) h k

filling_with : (filling : Filling) (rules : List Rule) → is_filling_written filling ≡ true → are_written rules ≡ true → is_filling_written (record filling { own = record filling.own { rules = filling.own.rules ++ rules } }) ≡ true
filling_with filling rules h k =
    both (are_written (filling.own.rules ++ rules)) (list_all is_ruleset_written filling.inside)
    (all_behind has_no_auto filling.own.rules rules (left_of (is_ruleset_written filling.own) (list_all is_ruleset_written filling.inside) h) k)
    (right_of (is_ruleset_written filling.own) (list_all is_ruleset_written filling.inside) h)

pub fit_begun : (path : List (List ℕ)) (place : Place) → IsDraftFit (begun_draft path place)
fit_begun path place = record { parts = refl; here = refl; outer = refl }

fit_rules : (draft : Draft) (rules : List Rule) (queues : Option Queues) (place : Place) → are_written rules ≡ true → IsDraftFit draft → IsDraftFit (with_rules draft rules queues place)
fit_rules draft rules queues place k h = record { parts = h.parts; here = filling_with draft.here rules h.here k; outer = h.outer }

counted_written : (filling : Filling) (nameless : Bool) → is_filling_written filling ≡ true → is_filling_written (counted filling nameless) ≡ true
counted_written filling true h = h
counted_written filling false h = h

fit_opened : (draft : Draft) (path : List (List ℕ)) (place : Place) (nameless : Bool) → IsDraftFit draft → IsDraftFit (opened draft path place nameless)
fit_opened draft path place nameless h = record {
  parts = h.parts;
  here = refl;
  outer = both (is_filling_written (counted draft.here nameless)) (list_all is_filling_written draft.outer) (counted_written draft.here nameless h.here) h.outer;
}

fit_closed_in : (draft : Draft) (outer : List Filling) → list_all is_filling_written outer ≡ true → IsDraftFit draft → IsDraftFit (closed_in draft outer)
fit_closed_in draft [] k h = h
fit_closed_in draft (filling ∷ outer) k h =
    let first : is_filling_written filling ≡ true = left_of (is_filling_written filling) (list_all is_filling_written outer) k in
    record {
      parts = h.parts;
      here = both (is_ruleset_written filling.own) (list_all is_ruleset_written (filling.inside ++ rulesets_of draft.here)) (left_of (is_ruleset_written filling.own) (list_all is_ruleset_written filling.inside) first)
          (all_behind is_ruleset_written filling.inside (rulesets_of draft.here) (right_of (is_ruleset_written filling.own) (list_all is_ruleset_written filling.inside) first) h.here);
      outer = right_of (is_filling_written filling) (list_all is_filling_written outer) k;
    }

pub fit_closed : (draft : Draft) → IsDraftFit draft → IsDraftFit (closed draft)
fit_closed draft h = fit_closed_in draft draft.outer h.outer h

-- the ends of units

first_none : (one other : Option Fault) → or_else one other ≡ None → one ≡ None
first_none None other h = refl
first_none (Some fault) other h = cc

other_none : (one other : Option Fault) → or_else one other ≡ None → other ≡ None
other_none None other h = h
other_none (Some fault) other h = absurd cc

few_rules : (n : ℕ) (many : Bool) (fault : Fault) → nat_lt most_rules n ≡ many → ◌≡◌ {A = Option Fault} (if many then Some fault else None) None → nat_le n most_rules ≡ true
few_rules n true fault h k = absurd cc
few_rules n false fault h k = grind (arith, nat_tests)

rulesets_fit : (rulesets : List Ruleset) → overfull rulesets ≡ None → list_all is_ruleset_written rulesets ≡ true → list_all is_part_fit (map part_of rulesets) ≡ true
rulesets_fit [] h k = refl
rulesets_fit (filled ∷ rulesets) h k =
    both (is_part_fit (part_of filled)) (list_all is_part_fit (map part_of rulesets))
    (both (nat_le (length filled.rules) most_rules) (are_written filled.rules)
    (few_rules (length filled.rules) (nat_lt most_rules (length filled.rules)) (fault_at (kinds.TooManyRules 16385) filled.place) refl (first_none (too_many filled) (overfull rulesets) h))
    (left_of (is_ruleset_written filled) (list_all is_ruleset_written rulesets) k))
    (rulesets_fit rulesets (other_none (too_many filled) (overfull rulesets) h) (right_of (is_ruleset_written filled) (list_all is_ruleset_written rulesets) k))

parts_fit : (draft : Draft) → HasEndFault draft None → IsDraftFit draft → list_all is_part_fit (draft.parts ++ map part_of (rulesets_of draft.here)) ≡ true
parts_fit draft has h =
    all_behind is_part_fit draft.parts (map part_of (rulesets_of draft.here)) h.parts
    (rulesets_fit (rulesets_of draft.here)
    (other_none (queue_fault has.queues) (overfull (rulesets_of draft.here)) (other_none (unclosed draft.outer draft.here.own) (or_else (queue_fault has.queues) (overfull (rulesets_of draft.here))) (sym has.is)))
    h.here)

pub fit_unit : (draft : Draft) (path : List (List ℕ)) (place : Place) → HasEndFault draft None → IsDraftFit draft → IsDraftFit (next_unit draft path place)
fit_unit draft path place has h = record { parts = parts_fit draft has h; here = refl; outer = refl }

pub fit_plan : (given : Option Level) (draft : Draft) → HasEndFault draft None → IsDraftFit draft → is_plan_fit (plan_of given draft) ≡ true
fit_plan given draft has h = parts_fit draft has h

-- rules

unless_ok : (fault : Option Fault) (draft new : Draft) → ◌≡◌ {A = Result Draft Stop} (Ok new) (unless fault draft) → draft ≡ new
unless_ok None draft new h = cc
unless_ok (Some fault) draft new h = absurd cc

-- the law of the expansion below
abbrev pub RulesWritten : Type 0
RulesWritten = (form : RuleForm) (call : Call) (order : Order) (facts : HostFacts) (defaults : Defaults) (room : ℕ) (rules : List Rule) → Expands form call order facts defaults room (Ok rules) → list_all has_no_auto rules ≡ true

fit_entered : (draft : Draft) (reach : Reach) (place : Place) (nameless : Bool) → IsDraftFit draft → IsDraftFit (entered draft reach place nameless)
fit_entered draft Nowhere place nameless h = h
fit_entered draft Here place nameless h = h
fit_entered draft (Into path) place nameless h = fit_opened draft path place nameless h

fit_awaiting : (draft : Draft) (reach : Reach) (file : List ℕ) → IsDraftFit draft → IsDraftFit (awaiting draft reach file)
fit_awaiting draft Nowhere file h = h
fit_awaiting draft Here file h = h
fit_awaiting draft (Into path) file h = record { parts = h.parts; here = h.here; outer = h.outer }

module _ (law : RulesWritten) (facts : HostFacts) (draft new : Draft) (fit : IsDraftFit draft) where
  written_in : (form : RuleForm) (call : Call) (order : Order) (defaults : Defaults) (room : ℕ) (rules : Result (List Rule) FaultKind) → Expands form call order facts defaults room rules → are_written (rules_in rules) ≡ true
  written_in form call order defaults room (Ok rules) h = law form call order facts defaults room rules h
  written_in form call order defaults room (Err kind) h = refl

  fit_expanded : (said : Said) (place : Place) (call : Call) (reach : Reach) (nameless : Bool) → Expanded facts draft said place call reach nameless (Ok new) → IsDraftFit new
  fit_expanded said place call reach nameless h =
      subst IsDraftFit
      (unless_ok (first_of (first_of (late_at (late_of said) place) (fault_in h.rules place)) (reach_fault reach place)) (entered (with_rules draft (rules_in h.rules) said.form.params.queue place) reach place nameless) new h.gives)
      (fit_entered (with_rules draft (rules_in h.rules) said.form.params.queue place) reach place nameless
      (fit_rules draft (rules_in h.rules) said.form.params.queue place (written_in said.form call (order_of said) (defaults_of draft.policies) _ h.rules h.expands) fit))

  fit_said : (said : Said) (place : Place) (head : Head) → SaidComes facts draft said place head (Ok new) → IsDraftFit new
  fit_said said place heads.Pass h = fit_expanded said place no_call Here false h
  fit_said said place (heads.Block kind) h = fit_expanded said place no_call Here false h
  fit_said said place heads.Match h = fit_expanded said place no_call Here false h
  fit_said said place heads.Antispoof h = fit_expanded said place no_call Here false h
  fit_said said place (heads.Anchor name body) h = fit_expanded said place (call_of_rules (call_of draft name)) (reach_of draft body (call_of draft name)) (is_none name) h
  fit_said said place (heads.LoadAnchor name file) h =
      subst IsDraftFit (unless_ok (first_of (load_fault draft place) (reach_fault (reach_of draft true (named_call name)) place)) (awaiting draft (reach_of draft true (named_call name)) file) new h)
      (fit_awaiting draft (reach_of draft true (named_call name)) file fit)

  -- a rule, an anchor or the load of one leaves a fit draft
  pub fit_rule : (tokens : List Token) (body : Bool) → RuleComes facts tokens body draft (Ok new) → IsDraftFit new
  fit_rule tokens body (is_said said is h) = fit_said said _ said.form.head h
  fit_rule tokens body (no_rule fault out is) = absurd cc

-- the same of what the calls answer

rule_stays : RulesWritten → (facts : HostFacts) (draft : Draft) (tokens : List Token) (body : Bool) (r : Result Draft Stop) → UnlessShort (RuleComes facts tokens body draft) r → IfOk r (StaysFit draft)
rule_stays law facts draft tokens body (Ok new) h = λ fit. fit_rule law facts draft new fit tokens body h
rule_stays law facts draft tokens body (Err stop) h = tt

pub rules_stay : RulesWritten → (facts : HostFacts) (draft : Draft) (tokens : List Token) (body : Bool) (r : Result Draft Stop) → UnlessShort (RuleComes facts tokens body draft) r → IfOk r (StaysFit draft)
rules_stay law facts draft tokens body r h = rule_stays law facts draft tokens body r h

closed_stays : (draft new : Draft) (place : Place) (b : Bool) → ◌≡◌ {A = Result Draft Stop} (Ok new) (close_in b draft place) → StaysFit draft new
closed_stays draft new place true h = λ fit. let same : closed draft ≡ new = cc in subst IsDraftFit same (fit_closed draft fit)
closed_stays draft new place false h = absurd cc

pub close_stays : (draft : Draft) (place : Place) (b : Bool) (r : Result Draft Stop) → UnlessShort (λ answer. answer ≡ close_in b draft place) r → IfOk r (StaysFit draft)
close_stays draft place b (Ok new) h = closed_stays draft new place b h
close_stays draft place b (Err stop) h = tt

pub table_stays : (draft new : Draft) (table : TableDecl) → new ≡ with_table draft table → StaysFit draft new
table_stays draft new table is h = subst IsDraftFit (sym is) (record { parts = h.parts; here = h.here; outer = h.outer })

pub lines_stay : (draft new : Draft) (lines : List OptionLine) → new ≡ with_lines draft lines → StaysFit draft new
lines_stay draft new lines is h = subst IsDraftFit (sym is) (record { parts = h.parts; here = h.here; outer = h.outer })

pub queue_stays : (draft new : Draft) (queue : Queue) → new ≡ with_queue draft queue → StaysFit draft new
queue_stays draft new queue is h = subst IsDraftFit (sym is) (record { parts = h.parts; here = h.here; outer = h.outer })

pub unit_stays : (draft new : Draft) (path : List (List ℕ)) (place : Place) → HasEndFault draft None → new ≡ next_unit draft path place → StaysFit draft new
unit_stays draft new path place has is h = subst IsDraftFit (sym is) (fit_unit draft path place has h)

pub behind_fit : (draft : Draft) (lexer : LexerState) (taken : Result Draft Stop) → IfOk taken (StaysFit draft) → IsDraftFit draft → IfOk (next_of lexer taken) IsNextFit
behind_fit draft lexer (Ok new) h fit = h fit
behind_fit draft lexer (Err stop) h fit = tt
