-- Laws of call graphs: what a list of calls leads to, and when two paths are one.
use Rattle.std.specs.Prelude.{◌≡◌, ℕ, true, List, [], ◌∷◌, Contains, Option, Some, None}
use Rattle.std.proofs.Common.{sym, ap, ◌∙◌, subst, inl, inr}
use Rattle.std.specs.List.{cons_option, filter_map, flat_map}
use Rattle.std.specs.Bool.{Decides}
use Rattle.std.specs.Cmp.Lexicographic.{pointwise_decides}
use Rattle.std.proofs.lemmas.Slice.Eq.{bytes_eq-Decides}
use Rattle.std.proofs.lemmas.List.Elements.{Contains-append_left, Contains-append_right}
use Rattle.pf_parts.specs.declared.call.Call.{Call}
use Rattle.pf_calls.specs.Graph.{IsStep}
use Rattle.pf_calls.specs.GraphLaws.{in_cons, later_in, none_in, now_in}
use Rattle.pf_calls.specs.Calls.{call_graph, called, path_eq}

module _ {X Y : Type 0} (f : X → Option Y) where
  behind : (o : Option Y) (ys : List Y) (y : Y) → Contains ys y → Contains (cons_option o ys) y
  behind None ys y within = within
  behind (Some z) ys y within = later_in z ys y within

  first : (o : Option Y) (ys : List Y) (y : Y) → o ≡ Some y → Contains (cons_option o ys) y
  first o ys y e = subst (λ (o : Option Y). Contains (cons_option o ys) y) (sym e) (now_in y ys)

  -- what an item of a list gives is among what all give
  pub gives : (xs : List X) (x : X) (y : Y) → Contains xs x → f x ≡ Some y → Contains (filter_map f xs) y
  gives [] x y within e = absurd (none_in x within)
  gives (z ∷ xs) x y within e =
      elim (in_cons z xs x within) [
        | inl same ↦ first (f z) (filter_map f xs) y (ap f same ∙ e)
        | inr later ↦ behind (f z) (filter_map f xs) y (gives xs x y later e)
      ]

among_all : {X Y : Type 0} (f : X → List Y) (xs : List X) (x : X) (y : Y) → Contains xs x → Contains (f x) y → Contains (flat_map f xs) y
among_all f [] x y within h = absurd (none_in x within)
among_all f (z ∷ xs) x y within h =
    elim (in_cons z xs x within) [
      | inl same ↦ Contains-append_left (f z) (flat_map f xs) y (subst (λ x. Contains (f x) y) (sym same) h)
      | inr later ↦ Contains-append_right (f z) (flat_map f xs) y (among_all f xs x y later h)
    ]

module _ (paths : List (List (List ℕ))) where
  -- a rule with a call, at a path of the map, makes a step to each path that the call leads to
  pub call_steps : (calls : List (List ℕ) → List Call) (at : List (List ℕ)) (call : Call) (to : List (List ℕ)) → (call_graph paths calls).has at ≡ true → Contains (calls at) call → Contains (called paths at call) to → IsStep (call_graph paths calls) at to
  call_steps calls at call to here among leads = record { inside = here; leads = among_all (called paths at) (calls at) call to among leads }

pub paths_decide : (p q : List (List ℕ)) → Decides (path_eq p q) (p ≡ q)
paths_decide = pointwise_decides bytes_eq-Decides
