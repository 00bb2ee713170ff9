-- What runs of neighbours are.
use Rattle.std.specs.Prelude.{List, [], ◌∷◌, Bool, true, false, ◌&&◌, not}

-- each item joins the next
abbrev pub is_linked : {X : Type 0} → (X → X → Bool) → List X → Bool
is_linked joins [] = true
is_linked joins (x ∷ []) = true
is_linked joins (x ∷ (y ∷ ys)) = joins x y && is_linked joins (y ∷ ys)

-- the last item of the first list doesn't join the first item of the second
abbrev pub is_cut : {X : Type 0} → (X → X → Bool) → List X → List X → Bool
is_cut joins [] others = true
is_cut joins (x ∷ []) [] = true
is_cut joins (x ∷ []) (y ∷ ys) = not (joins x y)
is_cut joins (x ∷ (y ∷ ys)) others = is_cut joins (y ∷ ys) others

-- no list of a row could be joined to the next
abbrev pub are_cut : {X : Type 0} → (X → X → Bool) → List (List X) → Bool
are_cut joins [] = true
are_cut joins (run ∷ []) = true
are_cut joins (run ∷ (next ∷ runs)) = is_cut joins run next && are_cut joins (next ∷ runs)

-- some item stands in the list
abbrev pub is_filled : {X : Type 0} → List X → Bool
is_filled [] = false
is_filled (x ∷ xs) = true
