-- Children that a wildcard leads to.
use Rattle.std.proofs.Common.{◌≡◌, ℕ, Bool, true, false, List, [], ◌∷◌, ◌++◌, Option, Some, None, refl, sym, ap, ◌∙◌, if◌then◌else◌, inl, inr, arith, length, length-append, not, Decides}
use Rattle.std.specs.Prelude.{Contains}
use Rattle.std.specs.List.{cons_option, filter_map}
use Rattle.std.specs.Option.{option_and_then}
use Rattle.std.proofs.lemmas.Bool.{false≢true}
use Rattle.std.proofs.lemmas.List.{append_cancel_left}
use Rattle.std.proofs.lemmas.Slice.Eq.{bytes_eq-Decides}
use Rattle.pf_base.specs.Path.{is_reserved}
use Rattle.pf_tree.specs.Paths.{name_behind}
use Rattle.pf_calls.specs.Calls.{child_on, children_of, named_below}
use Rattle.pf_calls.specs.CallLaws.{gives}
use Rattle.pf_calls.specs.GraphLaws.{in_cons, now_in, later_in, none_in}
use Rattle.pf_calls.specs.Links.{IsChild}

unwrapped : {A : Type 0} (x y : A) → Some x ≡ Some y → x ≡ y
unwrapped x y e = cc

named_is : (at : List (List ℕ)) (name : List ℕ) (q : List (List ℕ)) → named_below at name ≡ Some q → IsChild at q
named_is at name q =
    elim (is_reserved name) as (λ b. is_reserved name ≡ b → (if b then None else Some (at ++ name ∷ [])) ≡ Some q → IsChild at q) [
      | true ↦ λ r e. cc
      | false ↦ λ r e. record { name = name; is = sym (unwrapped _ _ e); named = r }
    ] refl

pub child_is : (at p q : List (List ℕ)) → child_on at p ≡ Some q → IsChild at q
child_is at p q =
    elim (name_behind at p) as (λ o. option_and_then (named_below at) o ≡ Some q → IsChild at q) [ None ↦ λ e. cc | Some name ↦ λ e. named_is at name q e ]

behind_is : (at : List (List ℕ)) (name : List ℕ) → name_behind at (at ++ name ∷ []) ≡ Some name
behind_is [] name = refl
behind_is (first ∷ at) name =
    ap (λ b. if b then name_behind at (at ++ name ∷ []) else None) ((bytes_eq-Decides first first).1 refl) ∙ behind_is at name

pub child_of : (at q : List (List ℕ)) → IsChild at q → child_on at q ≡ Some q
child_of at q child =
    ap (child_on at) child.is
    ∙ ap (option_and_then (named_below at)) (behind_is at child.name)
    ∙ ap (λ b. if b then None else Some (at ++ child.name ∷ [])) child.named
    ∙ ap Some (sym child.is)

module _ {X Y : Type 0} (f : X → Option Y) where
  pub record GivenBy (xs : List X) (y : Y) : Type 0 where
    pub item : X
    pub among : Contains xs item
    pub gives : f item ≡ Some y

  given_later : (x : X) (xs : List X) (y : Y) → GivenBy xs y → GivenBy (x ∷ xs) y
  given_later x xs y by = record { item = by.item; among = later_in x xs by.item by.among; gives = by.gives }

  pub given_by : (xs : List X) (y : Y) → Contains (filter_map f xs) y → GivenBy xs y
  given_by [] y within = absurd (none_in y within)
  given_by (x ∷ xs) y within =
      elim (f x) as (λ o. f x ≡ o → Contains (cons_option o (filter_map f xs)) y → GivenBy (x ∷ xs) y) [
        | None ↦ λ e within. given_later x xs y (given_by xs y within)
        | Some z ↦ λ e within. elim (in_cons z (filter_map f xs) y within) [
          | inl same ↦ record { item = x; among = now_in x xs; gives = e ∙ ap Some same }
          | inr later ↦ given_later x xs y (given_by xs y later)
        ]
      ] refl within

front_same : {A : Type 0} (xs ys : List A) (x y : A) → xs ++ x ∷ [] ≡ ys ++ y ∷ [] → xs ≡ ys
front_same [] [] x y e = refl
front_same [] (b ∷ ys) x y e = absurd (let n = ap length e in let m = length-append ys (y ∷ []) in omega arith)
front_same (a ∷ xs) [] x y e = absurd (let n = ap length e in let m = length-append xs (x ∷ []) in omega arith)
front_same (a ∷ xs) (b ∷ ys) x y e =
    let first : a ≡ b = cc in
    let rest : xs ++ x ∷ [] ≡ ys ++ y ∷ [] = cc in
    λ i. first i ∷ front_same xs ys x y rest i

last_same : {A : Type 0} (xs : List A) (x y : A) → xs ++ x ∷ [] ≡ xs ++ y ∷ [] → x ≡ y
last_same xs x y e = let tails = append_cancel_left xs (x ∷ []) (y ∷ []) e in cc

unreserved : (b : Bool) → not b ≡ true → b ≡ false
unreserved true h = absurd (false≢true h)
unreserved false h = refl

-- a path whose front is another's names is its child where the last name is no nameless anchor's
pub told_named : (at path front : List (List ℕ)) (name : List ℕ) → path ≡ front ++ name ∷ [] → front ≡ at → Decides (not (is_reserved name)) (IsChild at path)
told_named at path front name is same = (
  λ h. record { name = name; is = is ∙ ap (λ f. f ++ name ∷ []) same; named = unreserved (is_reserved name) h },
  λ child. (
      let one = last_same at name child.name (sym (is ∙ ap (λ f. f ++ name ∷ []) same) ∙ child.is) in
      ap not (ap is_reserved one ∙ child.named)),
)

pub told_apart : (at path front : List (List ℕ)) (name : List ℕ) → path ≡ front ++ name ∷ [] → (front ≡ at → ⊥) → IsChild at path → ⊥
told_apart at path front name is apart child = apart (front_same front at name child.name (sym is ∙ child.is))

pub children_are : (paths : List (List (List ℕ))) (at q : List (List ℕ)) → Contains (children_of paths at) q → IsChild at q
children_are paths at q within = let by = given_by (child_on at) paths q within in child_is at by.item q by.gives

pub are_children : (paths : List (List (List ℕ))) (at q : List (List ℕ)) → IsChild at q → Contains paths q → Contains (children_of paths at) q
are_children paths at q child within = gives (child_on at) paths q q within (child_of at q child)
