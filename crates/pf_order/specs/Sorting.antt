-- The stable sort, by any test that says whether one item belongs before another.
use Rattle.std.specs.Prelude.{ℕ, List, [], ◌∷◌, Bool, true, false, ◌&&◌, ◌||◌, nat_lt, ◌==◌, if◌then◌else◌}

-- an item before the first one that doesn't belong before it
abbrev pub placed_in : {X : Type 0} → (X → X → Bool) → X → List X → List X
placed_in before x [] = x ∷ []
placed_in before x (y ∷ ys) = if before y x then y ∷ placed_in before x ys else x ∷ (y ∷ ys)

-- Sorted: what belongs before another stands before it, and the others stay in their order.
abbrev pub sorted_by : {X : Type 0} → (X → X → Bool) → List X → List X
sorted_by before [] = []
sorted_by before (x ∷ xs) = placed_in before x (sorted_by before xs)

-- lists of numbers in the order of words: by the first place in which they differ, and one that ends first stands first
abbrev pub is_before : List ℕ → List ℕ → Bool
is_before [] [] = false
is_before [] (n ∷ ns) = true
is_before (m ∷ ms) [] = false
is_before (m ∷ ms) (n ∷ ns) = nat_lt m n || ((m == n) && is_before ms ns)
