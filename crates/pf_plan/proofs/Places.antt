-- In which files the places of drafts and of faults stand.
use Rattle.std.proofs.Common.{◌≡◌, ℕ, ◌<◌, ◌==◌, ap, ◌∙◌, arith, drop, eq-eqb, get_or, not, Bool, true, false, cond, List, [], ◌∷◌, ◌++◌, Option, Some, None, Result, Ok, Err, refl, sym, subst}
use Rattle.std.specs.Prelude.{All, IfSome, slice_get, nat_lt, length}
use Rattle.std.proofs.lemmas.Bool.{eqb-true}
use Rattle.std.proofs.lemmas.List.Elements.{All-append, All-cons, All-head, All-nil, All-push, All-tail}
use Rattle.std.proofs.lemmas.Option.{get_or_from_slice_get, slice_get_within}
use Rattle.pf_base.specs.declared.fault.FaultKind.TheVariants as kinds
use Rattle.pf_base.specs.declared.fault.Place.{Place}
use Rattle.pf_parts.specs.declared.params.Queues.{Queues}
use Rattle.pf_rule.specs.declared.rule.Rule.{Rule}
use Rattle.pf_decl.specs.Checks.{Judged, fine, orphan, twice, unknown}
use Rattle.pf_decl.specs.declared.check.QueueFault.{QueueFault}
use Rattle.pf_decl.specs.declared.check.UsedQueue.{UsedQueue}
use Rattle.pf_decl.specs.declared.form.OptionLine.{OptionLine}
use Rattle.pf_decl.specs.declared.form.Queue.{Queue}
use Rattle.pf_shelf.specs.declared.decl.TableDecl.{TableDecl}
use Rattle.pf_plan.specs.Anchors.{closed, closed_in, counted, next_unit, opened, with_inside, with_load}
use Rattle.pf_plan.specs.Drafts.{begun_draft, is_empty, is_in_body, most_rules, second_use, uses_at, uses_in, with_lines, with_queue, with_rules, with_table}
use Rattle.pf_plan.specs.Ends.{HasEndFault, end_fault, or_else, overfull, queue_fault, rulesets_of, too_many, unclosed}
use Rattle.pf_plan.specs.Numbered.{FillingWithin, PlacesWithin}
use Rattle.pf_fault.specs.Order.{fault_at}
use Rattle.pf_plan.specs.declared.draft.Draft.{Draft}
use Rattle.pf_plan.specs.declared.draft.Filling.{Filling}
use Rattle.pf_plan.specs.declared.draft.Ruleset.{Ruleset}
use Rattle.pf_fault.specs.declared.fault.Fault.{Fault}

pub at_index : {A : Type 0} (P : A → Type 0) (xs : List A) (i : ℕ) (x : A) → slice_get xs i ≡ Some x → All P xs → P x
at_index P xs i x here all = subst P (get_or_from_slice_get xs i x x here) (all i x (slice_get_within xs i x here))

-- what is laid on a draft

pub begun_within : (path : List (List ℕ)) (place : Place) (count : ℕ) → place.file < count → PlacesWithin count (begun_draft path place)
begun_within path place count h = record {
  here = record { own = h; inside = All-nil (λ (filled : Ruleset). filled.place.file < count) };
  outer = All-nil (FillingWithin count);
  queues = All-nil (λ (queue : Queue). queue.place.file < count);
  used = All-nil (λ (one : UsedQueue). one.place.file < count);
}

second_within : (second : Option (List ℕ)) (place : Place) (count : ℕ) → place.file < count → All (λ (one : UsedQueue). one.place.file < count) (second_use second place)
second_within None place count h = All-nil (λ (one : UsedQueue). one.place.file < count)
second_within (Some name) place count h = All-cons (λ (one : UsedQueue). one.place.file < count) (record { name = name; place = place }) [] h (All-nil (λ (one : UsedQueue). one.place.file < count))

uses_within : (is_main : Bool) (queues : Option Queues) (place : Place) (count : ℕ) → place.file < count → All (λ (one : UsedQueue). one.place.file < count) (uses_in is_main queues place)
uses_within false queues place count h = All-nil (λ (one : UsedQueue). one.place.file < count)
uses_within true None place count h = All-nil (λ (one : UsedQueue). one.place.file < count)
uses_within true (Some queues) place count h =
    All-cons (λ (one : UsedQueue). one.place.file < count) (record { name = queues.first; place = place }) (second_use queues.second place) h (second_within queues.second place count h)

pub rules_within : (draft : Draft) (rules : List Rule) (queues : Option Queues) (place : Place) (count : ℕ) → PlacesWithin count draft → place.file < count → PlacesWithin count (with_rules draft rules queues place)
rules_within draft rules queues place count so h = record {
  here = record { own = so.here.own; inside = so.here.inside };
  outer = so.outer;
  queues = so.queues;
  used = All-append (λ (one : UsedQueue). one.place.file < count) draft.used (uses_in draft.is_main queues place) so.used (uses_within draft.is_main queues place count h);
}

pub table_within : (draft : Draft) (table : TableDecl) (count : ℕ) → PlacesWithin count draft → PlacesWithin count (with_table draft table)
table_within draft table count so = record {
  here = record { own = so.here.own; inside = so.here.inside };
  outer = so.outer;
  queues = so.queues;
  used = so.used;
}

pub lines_within : (draft : Draft) (lines : List OptionLine) (count : ℕ) → PlacesWithin count draft → PlacesWithin count (with_lines draft lines)
lines_within draft lines count so = record { here = so.here; outer = so.outer; queues = so.queues; used = so.used }

pub queue_within : (draft : Draft) (queue : Queue) (count : ℕ) → PlacesWithin count draft → queue.place.file < count → PlacesWithin count (with_queue draft queue)
queue_within draft queue count so h = record {
  here = so.here;
  outer = so.outer;
  queues = All-push (λ (one : Queue). one.place.file < count) draft.queues queue so.queues h;
  used = so.used;
}

-- what anchors do to a draft

counted_within : (filling : Filling) (nameless : Bool) (count : ℕ) → FillingWithin count filling → FillingWithin count (counted filling nameless)
counted_within filling true count so = record { own = so.own; inside = so.inside }
counted_within filling false count so = so

pub opened_within : (draft : Draft) (path : List (List ℕ)) (place : Place) (nameless : Bool) (count : ℕ) → PlacesWithin count draft → place.file < count → PlacesWithin count (opened draft path place nameless)
opened_within draft path place nameless count so h = record {
  here = record { own = h; inside = All-nil (λ (filled : Ruleset). filled.place.file < count) };
  outer = All-cons (FillingWithin count) (counted draft.here nameless) draft.outer (counted_within draft.here nameless count so.here) so.outer;
  queues = so.queues;
  used = so.used;
}

closed_among : (draft : Draft) (outer : List Filling) (count : ℕ) → PlacesWithin count draft → All (FillingWithin count) outer → PlacesWithin count (closed_in draft outer)
closed_among draft [] count so all = so
closed_among draft (filling ∷ outer) count so all =
    let first = All-head (FillingWithin count) filling outer all in
    record {
      here = record {
        own = first.own;
        inside = All-append (λ (filled : Ruleset). filled.place.file < count) filling.inside (rulesets_of draft.here) first.inside
            (All-cons (λ (filled : Ruleset). filled.place.file < count) draft.here.own draft.here.inside so.here.own so.here.inside);
      };
      outer = All-tail (FillingWithin count) filling outer all;
      queues = so.queues;
      used = so.used;
    }

pub closed_within : (draft : Draft) (count : ℕ) → PlacesWithin count draft → PlacesWithin count (closed draft)
closed_within draft count so = closed_among draft draft.outer count so so.outer

pub load_within : (draft : Draft) (path : List (List ℕ)) (file : List ℕ) (count : ℕ) → PlacesWithin count draft → PlacesWithin count (with_load draft path file)
load_within draft path file count so = record { here = so.here; outer = so.outer; queues = so.queues; used = so.used }

pub unit_within : (draft : Draft) (path : List (List ℕ)) (place : Place) (count : ℕ) → PlacesWithin count draft → place.file < count → PlacesWithin count (next_unit draft path place)
unit_within draft path place count so h = record {
  here = record { own = h; inside = All-nil (λ (filled : Ruleset). filled.place.file < count) };
  outer = All-nil (FillingWithin count);
  queues = so.queues;
  used = All-nil (λ (one : UsedQueue). one.place.file < count);
}

-- the fault of a unit's end

abbrev IsIn : ℕ → Option Fault → Type 0
IsIn count fault = IfSome fault (λ one. one.place.file < count)

either_in : (count : ℕ) (a b : Option Fault) → IsIn count a → IsIn count b → IsIn count (or_else a b)
either_in count None b h k = k
either_in count (Some fault) b h k = h

some_unless : (count : ℕ) (b : Bool) (fault : Fault) → fault.place.file < count → IsIn count (cond b None (Some fault))
some_unless count true fault h = tt
some_unless count false fault h = h

some_where : (count : ℕ) (b : Bool) (fault : Fault) → fault.place.file < count → IsIn count (cond b (Some fault) None)
some_where count true fault h = h
some_where count false fault h = tt

overfull_in : (count : ℕ) (rulesets : List Ruleset) → All (λ (filled : Ruleset). filled.place.file < count) rulesets → IsIn count (overfull rulesets)
overfull_in count [] all = tt
overfull_in count (filled ∷ rulesets) all =
    either_in count (too_many filled) (overfull rulesets)
    (some_where count (nat_lt most_rules (length filled.rules)) (fault_at (kinds.TooManyRules 16385) filled.place) (All-head (λ (one : Ruleset). one.place.file < count) filled rulesets all))
    (overfull_in count rulesets (All-tail (λ (one : Ruleset). one.place.file < count) filled rulesets all))

queues_in : (count : ℕ) (queues : List Queue) (used : List UsedQueue) (answer : Result (Unit {0}) QueueFault) → Judged queues used answer
    → All (λ (queue : Queue). queue.place.file < count) queues → All (λ (one : UsedQueue). one.place.file < count) used → IsIn count (queue_fault answer)
queues_in count queues used _ (twice {queue = queue} first) q u = at_index (λ (one : Queue). one.place.file < count) queues first.index queue first.here q
queues_in count queues used _ (orphan {queue = queue} none first) q u = at_index (λ (one : Queue). one.place.file < count) queues first.index queue first.here q
queues_in count queues used _ (unknown {one = one} none differ first) q u = at_index (λ (other : UsedQueue). other.place.file < count) used first.index one first.here u
queues_in count queues used _ (fine none differ never) q u = tt

pub end_in : (count : ℕ) (draft : Draft) (fault : Option Fault) → HasEndFault draft fault → PlacesWithin count draft → IsIn count fault
end_in count draft fault has so =
    subst (IsIn count) (sym has.is) (
    either_in count (unclosed draft.outer draft.here.own) (or_else (queue_fault has.queues) (overfull (rulesets_of draft.here)))
    (some_unless count (is_empty draft.outer) (fault_at kinds.UnclosedBody draft.here.own.place) so.here.own)
    (either_in count (queue_fault has.queues) (overfull (rulesets_of draft.here))
    (queues_in count draft.queues draft.used has.queues has.judged so.queues so.used)
    (overfull_in count (rulesets_of draft.here) (All-cons (λ (filled : Ruleset). filled.place.file < count) draft.here.own draft.here.inside so.here.own so.here.inside))))

-- the innermost of the bodies that are open

none_open : (draft : Draft) (outer : List Filling) → is_empty outer ≡ true → closed_in draft outer ≡ draft
none_open draft [] none = refl
none_open draft (filling ∷ outer) none = let zero_long : length (filling ∷ outer) ≡ 0 = eqb-true (length (filling ∷ outer)) 0 none in absurd (omega arith)

first_open : (draft : Draft) (outer : List Filling) (filling : Filling) → 0 < length outer → filling ≡ get_or outer 0 filling → closed_in draft outer ≡ record draft { here = with_inside filling draft.here; outer = drop 1 outer }
first_open draft [] filling some is = absurd (omega arith)
first_open draft (first ∷ outer) filling some is = ap (λ (f : Filling). record draft { here = with_inside f draft.here; outer = outer }) (sym is)

pub closed_first : (draft : Draft) (filling : Filling) → 0 < length draft.outer → filling ≡ get_or draft.outer 0 filling → closed draft ≡ record draft { here = with_inside filling draft.here; outer = drop 1 draft.outer }
closed_first draft filling some is = first_open draft draft.outer filling some is

pub body_open : (draft : Draft) → is_in_body draft ≡ true → 0 < length draft.outer
body_open draft open_one = let some : length draft.outer ≡ 0 → ⊥ = λ none. let same : (length draft.outer == 0) ≡ true = eq-eqb (length draft.outer) 0 none in let not_same : not (length draft.outer == 0) ≡ false = ap not same in (let both : true ≡ false = sym open_one ∙ not_same in absurd cc) in omega arith
