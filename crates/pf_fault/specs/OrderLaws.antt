-- The first of several faults.
use Rattle.std.proofs.Common.{◌≡◌, ℕ, ◌<◌, ◌≤◌, Bool, true, false, List, [], ◌∷◌, ◌++◌, Option, Some, None, refl, sym, ap, ◌∙◌, arith}
use Rattle.std.specs.Prelude.{nat_lt}
use Rattle.std.proofs.lemmas.Bool.{ltb-true, ltb-false}
use Rattle.pf_fault.specs.Order.{decided, first_of, rank}
use Rattle.pf_fault.specs.declared.fault.Fault.{Fault}

pub first-none : (a : Option Fault) → first_of a None ≡ a
first-none None = refl
first-none (Some one) = refl

falls : (x y z : ℕ) → nat_lt y x ≡ true → nat_lt z y ≡ true → nat_lt z x ≡ false → ⊥
falls x y z h k l = let a : y < x = ltb-true y x h in let b : z < y = ltb-true z y k in let c : x ≤ z = ltb-false z x l in omega arith

rises : (x y z : ℕ) → nat_lt y x ≡ false → nat_lt z y ≡ false → nat_lt z x ≡ true → ⊥
rises x y z h k l = let a : x ≤ y = ltb-false y x h in let b : y ≤ z = ltb-false z y k in let c : z < x = ltb-true z x l in omega arith

three : (x y z : Fault) (p q r : Bool) → nat_lt (rank y.kind) (rank x.kind) ≡ p → nat_lt (rank z.kind) (rank y.kind) ≡ q → nat_lt (rank z.kind) (rank x.kind) ≡ r
    → first_of (first_of (Some x) (Some y)) (Some z) ≡ first_of (Some x) (first_of (Some y) (Some z))
three x y z true true true h k l = simp (h, k, l)
three x y z true true false h k l = absurd (falls (rank x.kind) (rank y.kind) (rank z.kind) h k l)
three x y z true false r h k l = simp (h, k)
three x y z false true r h k l = simp (h, k)
three x y z false false true h k l = absurd (rises (rank x.kind) (rank y.kind) (rank z.kind) h k l)
three x y z false false false h k l = simp (h, k, l)

pub first-assoc : (a b c : Option Fault) → first_of (first_of a b) c ≡ first_of a (first_of b c)
first-assoc None b c = refl
first-assoc (Some x) None c = refl
first-assoc (Some x) (Some y) None = first-none (first_of (Some x) (Some y))
first-assoc (Some x) (Some y) (Some z) = three x y z _ _ _ refl refl refl

pub decided-append : (xs ys : List Fault) → decided (xs ++ ys) ≡ first_of (decided xs) (decided ys)
decided-append [] ys = refl
decided-append (x ∷ xs) ys = ap (first_of (Some x)) (decided-append xs ys) ∙ sym (first-assoc (Some x) (decided xs) (decided ys))
