-- Graphs: where steps lead, cycles, and ranks.
use Rattle.std.specs.Prelude.{◌≡◌, ℕ, zero, suc, ◌+◌, ◌≤◌, Bool, true, List, [], ◌∷◌, map, Contains, IsTrue, if◌then◌else◌}
use Rattle.std.specs.declared.cmp.Ordering.{Ordering}
use Rattle.std.specs.Ordering.{is_le}
use Prim.Native.Nat.{max}

-- what is in it, and where steps lead from each of these
pub record Graph (A : Type 0) : Type 0 where
  pub has : A → Bool
  pub steps : A → List A

-- the greatest of numbers, 0 where there is none
abbrev pub greatest : List ℕ → ℕ
greatest [] = 0
greatest (n ∷ numbers) = max n (greatest numbers)

module _ {A : Type 0} (g : Graph A) where
  -- one step
  pub record IsStep (from to : A) : Type 0 where
    pub inside : g.has from ≡ true
    pub leads : Contains (g.steps from) to

  -- so many steps
  abbrev pub LeadsOver : ℕ → A → A → Type 0
  LeadsOver zero from to = from ≡ to
  LeadsOver (suc more) from to = (next : A) × IsStep from next × LeadsOver more next to

  -- one or more steps lead back
  pub record OnCycle (a : A) : Type 0 where
    pub more : ℕ
    pub leads : LeadsOver (suc more) a a

  -- A rank is 0 for what isn't in the graph. Else it is one more than the greatest rank of those to which steps lead, and 1
  -- where there is none.
  pub record IsRanking (rank : A → ℕ) : Type 0 where
    pub is : (a : A) → rank a ≡ (if g.has a then greatest (map rank (g.steps a)) + 1 else 0)

  -- it has no cycle, and no rank is over so much
  pub record IsShallow (most : ℕ) : Type 0 where
    pub no_cycle : (a : A) → OnCycle a → ⊥
    pub rank : A → ℕ
    pub ranking : IsRanking rank
    pub no_deep : (a : A) → rank a ≤ most

  -- it has no cycle, and its greatest rank is this
  pub record IsDeep (depth : ℕ) : Type 0 where
    pub no_cycle : (a : A) → OnCycle a → ⊥
    pub rank : A → ℕ
    pub ranking : IsRanking rank
    pub deepest : A
    pub there : rank deepest ≡ depth
    pub no_deeper : (a : A) → rank a ≤ depth

  -- it is on a cycle, and nothing that is on one stands before it
  pub record IsFirstOnCycle (cmp : A → A → Ordering) (a : A) : Type 0 where
    pub there : OnCycle a
    pub first : (b : A) → OnCycle b → IsTrue (is_le (cmp a b))

  -- all that it has stands in a list
  pub record IsListed (points : List A) : Type 0 where
    pub all : (a : A) → g.has a ≡ true → Contains points a
