-- Where paths and calls are taken away, no rank rises.
use Rattle.std.proofs.Common.{◌≡◌, ℕ, zero, suc, Bool, true, false, List, [], ◌∷◌, ◌++◌, Option, Some, None, sym, ◌∙◌, subst, inl, inr, ◌⊎◌}
use Rattle.std.specs.Prelude.{Contains}
use Rattle.std.proofs.lemmas.Map.Made.{is_member-Decides}
use Rattle.std.specs.FinMap as fin
use Rattle.std.specs.List.{flat_map}
use Rattle.pf_calls.specs.Calls.{called, child_on, children_of, led_to}
use Rattle.pf_calls.specs.CallLaws.{paths_decide}
use Rattle.pf_calls.specs.Graph.{Graph, IsShallow}
use Rattle.pf_calls.specs.GraphLaws.{in_cons, in_or_out, is_within, later_in, none_in, not_within_zero, now_in, pass_all, pass_each, rank_by, ranked_no_cycle, ranked_within, ranking_by, within_inside, within_outside, within_ranked}
use Rattle.pf_eval.proofs.Lists.{given, gives, in_flat}
use Rattle.pf_eval.specs.Rows.{CallsNoMore}
use Rattle.pf_eval.specs.Rulesets.{Rulesets, calls_in, graph_in, written_in}
use Rattle.pf_parts.specs.CallTarget.{target_of}

module _ {A : Type 0} (g h : Graph A) (has : (a : A) → g.has a ≡ true → h.has a ≡ true) (steps : (a b : A) → Contains (g.steps a) b → Contains (h.steps a) b) where
  within_less : (n : ℕ) (a : A) → is_within h n a ≡ true → is_within g n a ≡ true
  within_less zero a within =
      elim (in_or_out g a) [
        | inr out ↦ within_outside g zero a out
        | inl here ↦ absurd (not_within_zero h a (has a here) within)
      ]
  within_less (suc n) a within =
      elim (in_or_out g a) [
        | inr out ↦ within_outside g (suc n) a out
        | inl here ↦
            within_inside g n a here
            ∙ pass_all (is_within g n) (g.steps a) (λ b leads.
            within_less n b (pass_each (is_within h n) (h.steps a) (sym (within_inside h n a (has a here)) ∙ within) b (steps a b leads)))
      ]

  pub shallow_less : (most : ℕ) → IsShallow h most → IsShallow g most
  shallow_less most is =
      let within : (a : A) → is_within g most a ≡ true = λ a. within_less most a (ranked_within h is.rank is.ranking most a (is.no_deep a)) in
      let ranking = ranking_by g most within in
      record {
        no_cycle = ranked_no_cycle g (rank_by g most) ranking;
        rank = rank_by g most;
        ranking = ranking;
        no_deep = λ a. within_ranked g (rank_by g most) ranking most a (within a);
      }

-- an item of a list that gives an item of what all give
record FromFlat {X Y : Type 0} (f : X → List Y) (xs : List X) (y : Y) : Type 0 where
  pub item : X
  pub among : Contains xs item
  pub there : Contains (f item) y

in_either : {A : Type 0} (xs ys : List A) (a : A) → Contains (xs ++ ys) a → Contains xs a ⊎ Contains ys a
in_either [] ys a within = inr within
in_either (x ∷ xs) ys a within =
    elim (in_cons x (xs ++ ys) a within) [
      | inl same ↦ inl (subst (λ z. Contains (x ∷ xs) z) same (now_in x xs))
      | inr later ↦ elim (in_either xs ys a later) [ inl front ↦ inl (later_in x xs a front) | inr back ↦ inr back ]
    ]

from_flat : {X Y : Type 0} (f : X → List Y) (xs : List X) (y : Y) → Contains (flat_map f xs) y → FromFlat f xs y
from_flat f [] y within = absurd (none_in y within)
from_flat f (x ∷ xs) y within =
    elim (in_either (f x) (flat_map f xs) y within) [
      | inl here ↦ record { item = x; among = now_in x xs; there = here }
      | inr later ↦ let rest = from_flat f xs y later in record { item = rest.item; among = later_in x xs rest.item rest.among; there = rest.there }
    ]

module _ (few many : List (List (List ℕ))) (within : (at : List (List ℕ)) → Contains few at → Contains many at) where
  more_children : (at to : List (List ℕ)) → Contains (children_of few at) to → Contains (children_of many at) to
  more_children at to child =
      let from = given (child_on at) few to child in
      gives (child_on at) many from.item to (within from.item from.among) from.so

  more_led : (children : Bool) (target : Option (List (List ℕ))) (to : List (List ℕ)) → Contains (led_to few children target) to → Contains (led_to many children target) to
  more_led true None to leads = leads
  more_led false None to leads = leads
  more_led false (Some target) to leads = leads
  more_led true (Some target) to leads = more_children target to leads

module _ (less more : Rulesets) (fewer : CallsNoMore less more) where
  has_more : (at : List (List ℕ)) → (graph_in less).has at ≡ true → (graph_in more).has at ≡ true
  has_more at here =
      (is_member-Decides paths_decide (fin.keys more) at).1 (fewer.paths at ((is_member-Decides paths_decide (fin.keys less) at).0 here))

  steps_more : (at to : List (List ℕ)) → Contains ((graph_in less).steps at) to → Contains ((graph_in more).steps at) to
  steps_more at to leads =
      let from = from_flat (called (fin.keys less) at) (calls_in (written_in (fin.get less at))) to leads in
      in_flat (called (fin.keys more) at) (calls_in (written_in (fin.get more at))) from.item to
      (fewer.calls at from.item from.among)
      (more_led (fin.keys less) (fin.keys more) fewer.paths from.item.children (target_of from.item at) to from.there)

  pub stays_shallow : (most : ℕ) → IsShallow (graph_in more) most → IsShallow (graph_in less) most
  stays_shallow most shallow = shallow_less (graph_in less) (graph_in more) has_more steps_more most shallow
