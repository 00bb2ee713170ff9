-- Laws of graphs: ranks are unique, along a step they fall, and what has no cycle has them.
use Rattle.std.specs.Prelude.{◌≡◌, ℕ, zero, suc, ◌+◌, ◌<◌, ◌≤◌, ◌⊎◌, Bool, true, false, not, ◌||◌, ◌&&◌, List, [], ◌∷◌, length, map, Contains, if◌then◌else◌, refl}
use Rattle.std.proofs.Common.{sym, ap, ◌∙◌, inl, inr, arith}
use Rattle.std.specs.List.{list_all, AllByRecursion, IsDistinct}
use Rattle.std.specs.Set.{is_member}
use Rattle.std.specs.Bool.{Decides}
use Rattle.std.specs.Cmp.{IsEquivalence}
use Rattle.std.proofs.lemmas.Map.Made.{is_member-Decides, length-le_from_is_member}
use Rattle.std.proofs.lemmas.Bool.{false≢true}
use Prim.Native.Nat.{max}
use Rattle.pf_calls.specs.Graph.{Graph, greatest, IsStep, LeadsOver, OnCycle, IsRanking, IsListed}

module _ {A : Type 0} where
  pub in_cons : (x : A) (xs : List A) (y : A) → Contains (x ∷ xs) y → (x ≡ y) ⊎ Contains xs y
  in_cons x xs y (zero, lt, e) = inl e
  in_cons x xs y (suc k, lt, e) = inr (k, omega arith, e)

  pub now_in : (x : A) (xs : List A) → Contains (x ∷ xs) x
  now_in x xs = (0, omega arith, refl)

  pub later_in : (x : A) (xs : List A) (y : A) → Contains xs y → Contains (x ∷ xs) y
  later_in x xs y (k, lt, e) = (suc k, omega arith, e)

  pub none_in : (y : A) → Contains [] y → ⊥
  none_in y (k, lt, e) = omega arith

  -- a test that all of a list pass
  pub pass_each : (p : A → Bool) (xs : List A) → list_all p xs ≡ true → (y : A) → Contains xs y → p y ≡ true
  pass_each p [] h y within = absurd (none_in y within)
  pass_each p (x ∷ xs) h y within =
      elim (p x) as (λ b. p x ≡ b → (b && list_all p xs) ≡ true → p y ≡ true) [
        | true ↦ λ is h. elim (in_cons x xs y within) [ inl e ↦ ap p (sym e) ∙ is | inr later ↦ pass_each p xs h y later ]
        | false ↦ λ is h. absurd (false≢true h)
      ] refl h

  pub pass_all : (p : A → Bool) (xs : List A) → ((y : A) → Contains xs y → p y ≡ true) → list_all p xs ≡ true
  pass_all p [] h = refl
  pass_all p (x ∷ xs) h = rw (h x (now_in x xs), pass_all p xs (λ y within. h y (later_in x xs y within))) refl

  -- no number of a list is over the greatest
  pub below_greatest : (rank : A → ℕ) (xs : List A) (y : A) → Contains xs y → rank y ≤ greatest (map rank xs)
  below_greatest rank [] y within = absurd (none_in y within)
  below_greatest rank (x ∷ xs) y within =
      elim (in_cons x xs y within) [
        | inl e ↦ let same = ap rank e in omega arith
        | inr later ↦ let more = below_greatest rank xs y later in omega arith
      ]

  pub greatest_within : (rank : A → ℕ) (xs : List A) (most : ℕ) → ((y : A) → Contains xs y → rank y ≤ most) → greatest (map rank xs) ≤ most
  greatest_within rank [] most h = omega arith
  greatest_within rank (x ∷ xs) most h =
      let here = h x (now_in x xs) in
      let more = greatest_within rank xs most (λ y within. h y (later_in x xs y within)) in
      omega arith

  pub same_greatest : (r s : A → ℕ) (xs : List A) → ((y : A) → Contains xs y → r y ≡ s y) → greatest (map r xs) ≡ greatest (map s xs)
  same_greatest r s [] h = refl
  same_greatest r s (x ∷ xs) h = λ i. max (h x (now_in x xs) i) (same_greatest r s xs (λ y within. h y (later_in x xs y within)) i)

module _ {A : Type 0} (g : Graph A) where
  -- The rank of what isn't in the graph, and of what is

  pub rank_outside : (rank : A → ℕ) → IsRanking g rank → (a : A) → g.has a ≡ false → rank a ≡ 0
  rank_outside rank r a out = r.is a ∙ ap (λ b. if b then greatest (map rank (g.steps a)) + 1 else 0) out

  pub rank_inside : (rank : A → ℕ) → IsRanking g rank → (a : A) → g.has a ≡ true → rank a ≡ greatest (map rank (g.steps a)) + 1
  rank_inside rank r a within = r.is a ∙ ap (λ b. if b then greatest (map rank (g.steps a)) + 1 else 0) within

  -- along a step the rank falls
  pub rank_falls : (rank : A → ℕ) → IsRanking g rank → (a b : A) → IsStep g a b → rank b < rank a
  rank_falls rank r a b step =
      let here = rank_inside rank r a step.inside in
      let next = below_greatest rank (g.steps a) b step.leads in
      omega arith

  pub rank_falls_over : (rank : A → ℕ) → IsRanking g rank → (n : ℕ) (a b : A) → LeadsOver g n a b → rank b + n ≤ rank a
  rank_falls_over rank r zero a b h = let same = ap rank h in omega arith
  rank_falls_over rank r (suc n) a b h =
      let first = rank_falls rank r a h.0 h.1 in
      let rest = rank_falls_over rank r n h.0 b h.2 in
      omega arith

  -- what has ranks has no cycle
  pub ranked_no_cycle : (rank : A → ℕ) → IsRanking g rank → (a : A) → OnCycle g a → ⊥
  ranked_no_cycle rank r a cycle = let falls = rank_falls_over rank r (suc cycle.more) a a cycle.leads in omega arith

  -- whether the rank is at most so much
  abbrev pub is_within : ℕ → A → Bool
  is_within zero a = not (g.has a)
  is_within (suc n) a = not (g.has a) || list_all (is_within n) (g.steps a)

  -- the rank where it is at most so much
  abbrev pub rank_by : ℕ → A → ℕ
  rank_by zero a = 0
  rank_by (suc n) a = if g.has a then greatest (map (rank_by n) (g.steps a)) + 1 else 0

  pub within_outside : (n : ℕ) (a : A) → g.has a ≡ false → is_within n a ≡ true
  within_outside zero a out = ap not out
  within_outside (suc n) a out = ap (λ b. not b || list_all (is_within n) (g.steps a)) out

  pub within_inside : (n : ℕ) (a : A) → g.has a ≡ true → is_within (suc n) a ≡ list_all (is_within n) (g.steps a)
  within_inside n a here = ap (λ b. not b || list_all (is_within n) (g.steps a)) here

  pub not_within_zero : (a : A) → g.has a ≡ true → is_within 0 a ≡ true → ⊥
  not_within_zero a here h = false≢true (ap not (sym here) ∙ h)

  -- inside or not
  pub in_or_out : (a : A) → (g.has a ≡ true) ⊎ (g.has a ≡ false)
  in_or_out a = elim (g.has a) as (λ b. (b ≡ true) ⊎ (b ≡ false)) [ true ↦ inl refl | false ↦ inr refl ]

  -- a greater bound does too
  pub within_more : (n : ℕ) (a : A) → is_within n a ≡ true → is_within (suc n) a ≡ true
  within_more zero a h =
      elim (in_or_out a) [
        | inr out ↦ within_outside 1 a out
        | inl here ↦ absurd (not_within_zero a here h)
      ]
  within_more (suc n) a h =
      elim (in_or_out a) [
        | inr out ↦ within_outside (suc (suc n)) a out
        | inl here ↦
            within_inside (suc n) a here
            ∙ pass_all (is_within (suc n)) (g.steps a) (λ b leads. within_more n b (pass_each (is_within n) (g.steps a) (sym (within_inside n a here) ∙ h) b leads))
      ]

  pub ranked_within : (rank : A → ℕ) → IsRanking g rank → (n : ℕ) (a : A) → rank a ≤ n → is_within n a ≡ true
  ranked_within rank r zero a h =
      elim (in_or_out a) [
        | inr out ↦ within_outside zero a out
        | inl here ↦ absurd (let is = rank_inside rank r a here in omega arith)
      ]
  ranked_within rank r (suc n) a h =
      elim (in_or_out a) [
        | inr out ↦ within_outside (suc n) a out
        | inl here ↦
            within_inside n a here
            ∙ pass_all (is_within n) (g.steps a) (λ b leads.
            let is = rank_inside rank r a here in
            let below = below_greatest rank (g.steps a) b leads in
            ranked_within rank r n b (omega arith))
      ]

  pub within_ranked : (rank : A → ℕ) → IsRanking g rank → (n : ℕ) (a : A) → is_within n a ≡ true → rank a ≤ n
  within_ranked rank r zero a h =
      elim (in_or_out a) [
        | inr out ↦ let is = rank_outside rank r a out in omega arith
        | inl here ↦ absurd (not_within_zero a here h)
      ]
  within_ranked rank r (suc n) a h =
      elim (in_or_out a) [
        | inr out ↦ let is = rank_outside rank r a out in omega arith
        | inl here ↦
            let is = rank_inside rank r a here in
            let most = greatest_within rank (g.steps a) n (λ b leads. within_ranked rank r n b (pass_each (is_within n) (g.steps a) (sym (within_inside n a here) ∙ h) b leads)) in
            omega arith
      ]

  -- there is one ranking at most
  pub rank_unique : (r s : A → ℕ) → IsRanking g r → IsRanking g s → (a : A) → r a ≡ s a
  rank_unique r s first second a =
      let up = within_ranked r first (s a) a (ranked_within s second (s a) a (omega arith)) in
      let down = within_ranked s second (r a) a (ranked_within r first (r a) a (omega arith)) in
      omega arith

  rank_more : (n : ℕ) (a : A) → is_within n a ≡ true → rank_by (suc n) a ≡ rank_by n a
  rank_more zero a h =
      elim (in_or_out a) [
        | inr out ↦ ap (λ b. if b then greatest (map (rank_by 0) (g.steps a)) + 1 else 0) out
        | inl here ↦ absurd (not_within_zero a here h)
      ]
  rank_more (suc n) a h =
      elim (in_or_out a) [
        | inr out ↦
            ap (λ b. if b then greatest (map (rank_by (suc n)) (g.steps a)) + 1 else 0) out
            ∙ sym (ap (λ b. if b then greatest (map (rank_by n) (g.steps a)) + 1 else 0) out)
        | inl here ↦
            ap (λ m. if g.has a then m + 1 else 0)
            (same_greatest (rank_by (suc n)) (rank_by n) (g.steps a) (λ b leads. rank_more n b (pass_each (is_within n) (g.steps a) (sym (within_inside n a here) ∙ h) b leads)))
      ]

  -- where all ranks are at most so much, they are those
  pub ranking_by : (n : ℕ) → ((a : A) → is_within n a ≡ true) → IsRanking g (rank_by n)
  ranking_by n all = record { is = λ a. sym (rank_more n a (all a)) }

  -- the points of a way, behind its first
  abbrev IsWay : A → List A → Type 0
  IsWay a [] = g.has a ≡ true
  IsWay a (b ∷ rest) = IsStep g a b × IsWay b rest

  pub record Way (n : ℕ) (a : A) : Type 0 where
    pub rest : List A
    pub long : length rest ≡ n
    pub is : IsWay a rest

  pub record WayOn (n : ℕ) (xs : List A) : Type 0 where
    pub next : A
    pub leads : Contains xs next
    pub way : Way n next

  -- of a list all have a rank of at most so much, or from one of them a way leads over so many steps
  scan : (n : ℕ) → ((a : A) → (is_within n a ≡ true) ⊎ Way n a) → (xs : List A) → (list_all (is_within n) xs ≡ true) ⊎ WayOn n xs
  scan n each [] = inl refl
  scan n each (x ∷ xs) =
      elim (each x) [
        | inr way ↦ inr (record { next = x; leads = now_in x xs; way = way })
        | inl here ↦ elim (scan n each xs) [
          | inl all ↦ inl (rw (here, all) refl)
          | inr on ↦ inr (record { next = on.next; leads = later_in x xs on.next on.leads; way = on.way })
        ]
      ]

  longer : (n : ℕ) (a : A) → g.has a ≡ true → WayOn n (g.steps a) → Way (suc n) a
  longer n a here on = record {
    rest = on.next ∷ on.way.rest;
    long = (let long = on.way.long in omega arith);
    is = (record { inside = here; leads = on.leads }, on.way.is);
  }

  within_or_way : (n : ℕ) (a : A) → (is_within n a ≡ true) ⊎ Way n a
  within_or_way zero a =
      elim (in_or_out a) [
        | inr out ↦ inl (within_outside zero a out)
        | inl here ↦ inr (record { rest = []; long = refl; is = here })
      ]
  within_or_way (suc n) a =
      elim (in_or_out a) [
        | inr out ↦ inl (within_outside (suc n) a out)
        | inl here ↦ elim (scan n (λ b. within_or_way n b) (g.steps a)) [ inl all ↦ inl (within_inside n a here ∙ all) | inr on ↦ inr (longer n a here on) ]
      ]

  pub record SomeCycle : Type 0 where
    pub at : A
    pub cycle : OnCycle g at

  module _ (eq : A → A → Bool) (decides : (a b : A) → Decides (eq a b) (a ≡ b)) (laws : IsEquivalence eq) where
    pub record LeadsThere (a b : A) : Type 0 where
      pub over : ℕ
      pub leads : LeadsOver g over a b

    -- a way leads to each of its points
    way_to : (a : A) (rest : List A) → IsWay a rest → (b : A) → is_member eq (a ∷ rest) b ≡ true → LeadsThere a b
    way_to a [] way b h =
        elim (eq b a) as (λ t. eq b a ≡ t → (t || false) ≡ true → LeadsThere a b) [
          | true ↦ λ e h. record { over = 0; leads = sym ((decides b a).0 e) }
          | false ↦ λ e h. absurd (false≢true h)
        ] refl h
    way_to a (c ∷ rest) way b h =
        elim (eq b a) as (λ t. eq b a ≡ t → (t || is_member eq (c ∷ rest) b) ≡ true → LeadsThere a b) [
          | true ↦ λ e h. record { over = 0; leads = sym ((decides b a).0 e) }
          | false ↦ λ e h. (let on = way_to c rest way.1 b h in record { over = suc on.over; leads = (c, way.0, on.leads) })
        ] refl h

    apart : (a : A) (xs : List A) → is_member eq xs a ≡ false → AllByRecursion (λ y. eq a y ≡ false) xs
    apart a [] h = tt
    apart a (x ∷ xs) h =
        elim (eq a x) as (λ t. eq a x ≡ t → (t || is_member eq xs a) ≡ false → AllByRecursion (λ y. eq a y ≡ false) (x ∷ xs)) [
          | true ↦ λ e h. absurd (false≢true (sym h))
          | false ↦ λ e h. (e, apart a xs h)
        ] refl h

    -- the points of a way differ, or there is a cycle
    distinct_or_cycle : (a : A) (rest : List A) → IsWay a rest → IsDistinct eq (a ∷ rest) ⊎ SomeCycle
    unfolding IsDistinct
    distinct_or_cycle a [] way = inl (tt, tt)
    distinct_or_cycle a (b ∷ rest) way =
        elim (distinct_or_cycle b rest way.1) [
          | inr cycle ↦ inr cycle
          | inl apart_below ↦ elim (is_member eq (b ∷ rest) a) as (λ t. is_member eq (b ∷ rest) a ≡ t → IsDistinct eq (a ∷ b ∷ rest) ⊎ SomeCycle) [
            | true ↦ λ h. (let back = way_to b rest way.1 a h in inr (record { at = a; cycle = record { more = back.over; leads = (b, way.0, back.leads) } }))
            | false ↦ λ h. inl (apart a (b ∷ rest) h, apart_below)
          ] refl
        ]

    has_each : (points : List A) → IsListed g points → (a : A) (rest : List A) → IsWay a rest → (q : A) → is_member eq (a ∷ rest) q ≡ true → is_member eq points q ≡ true
    has_each points listed a [] way q h =
        elim (eq q a) as (λ t. eq q a ≡ t → (t || false) ≡ true → is_member eq points q ≡ true) [
          | true ↦ λ e h. (is_member-Decides decides points q).1 (listed.all q (ap g.has ((decides q a).0 e) ∙ way))
          | false ↦ λ e h. absurd (false≢true h)
        ] refl h
    has_each points listed a (b ∷ rest) way q h =
        elim (eq q a) as (λ t. eq q a ≡ t → (t || is_member eq (b ∷ rest) q) ≡ true → is_member eq points q ≡ true) [
          | true ↦ λ e h. (is_member-Decides decides points q).1 (listed.all q (ap g.has ((decides q a).0 e) ∙ way.0.inside))
          | false ↦ λ e h. has_each points listed b rest way.1 q h
        ] refl h

    -- over the points that are listed, a rank is at most their number, or there is a cycle
    pub within_or_cycle : (points : List A) → IsListed g points → (a : A) → (is_within (length points) a ≡ true) ⊎ SomeCycle
    within_or_cycle points listed a =
        elim (within_or_way (length points) a) [
          | inl within ↦ inl within
          | inr way ↦ elim (distinct_or_cycle a way.rest way.is) [
            | inr cycle ↦ inr cycle
            | inl distinct ↦ absurd (let few = length-le_from_is_member laws (a ∷ way.rest) points distinct (has_each points listed a way.rest way.is) in let long = way.long in omega arith)
          ]
        ]

    -- what has no cycle has a rank
    pub no_cycle_within : (points : List A) → IsListed g points → ((a : A) → OnCycle g a → ⊥) → (a : A) → is_within (length points) a ≡ true
    no_cycle_within points listed none a =
        elim (within_or_cycle points listed a) [ inl within ↦ within | inr some ↦ absurd (none some.at some.cycle) ]

    pub no_cycle_ranked : (points : List A) → IsListed g points → ((a : A) → OnCycle g a → ⊥) → (rank : A → ℕ) × IsRanking g rank
    no_cycle_ranked points listed none = (rank_by (length points), ranking_by (length points) (no_cycle_within points listed none))
