-- Which points of a graph lead to which, over a list of all its points; and so which is the first on a cycle.
use Rattle.std.proofs.Common.{◌≡◌, ℕ, zero, suc, ◌⊎◌, Bool, true, List, [], ◌∷◌, refl, sym, ap, subst, ◌∙◌, inl, inr}
use Rattle.std.specs.Prelude.{◌||◌, ◌&&◌, Contains, IsTrue}
use Rattle.std.specs.declared.cmp.Ordering.{Ordering}
use Rattle.std.specs.declared.cmp.Ordering.TheVariants.{Less, Equal, Greater}
use Rattle.std.specs.Bool.{Decides}
use Rattle.std.specs.Cmp.{IsTotalOrder, alike_right, tied_itself}
use Rattle.std.specs.Ordering.{is_le, ordering_reverse}
use Rattle.std.specs.Set.{is_member}
use Rattle.std.proofs.lemmas.Bool.{and_from, and_parts, cases_Bool, false≢true, or_cases, or_left, or_right}
use Rattle.std.proofs.lemmas.Map.Made.{is_member-Decides}
use Rattle.pf_calls.specs.Graph.{Graph, IsListed, IsStep, LeadsOver, OnCycle}
use Rattle.pf_calls.specs.GraphLaws.{in_cons, none_in}

way_over : (a b c : Bool) → b ≡ true → c ≡ true → (a || (b && c)) ≡ true
way_over a b c h k = or_right a (b && c) (and_from b c h k)

module _ {A : Type 0} (g : Graph A) where
  -- one or more steps lead from one to another
  pub record Leads (from to : A) : Type 0 where
    pub more : ℕ
    pub over : LeadsOver g (suc more) from to

  leads_on : (n : ℕ) (a b c : A) → LeadsOver g n a b → Leads b c → Leads a c
  leads_on zero a b c e on = subst (λ x. Leads x c) (sym e) on
  leads_on (suc n) a b c h on = let rest = leads_on n h.0 b c h.2 on in record { more = suc rest.more; over = (h.0, h.1, rest.over) }

  one_step : (a b : A) → IsStep g a b → Leads a b
  one_step a b step = record { more = 0; over = (b, step, refl) }

module _ {A : Type 0} (g : Graph A) (eq : A → A → Bool) where
  -- one or more steps lead from one to another, and between them over none but these
  abbrev pub leads : List A → A → A → Bool
  leads [] from to = g.has from && is_member eq (g.steps from) to
  leads (x ∷ xs) from to = leads xs from to || (leads xs from x && leads xs x to)

  module _ (decides : (a b : A) → Decides (eq a b) (a ≡ b)) where
    pub lead : (xs : List A) (a b : A) → leads xs a b ≡ true → Leads g a b
    lead [] a b h =
        let steps = and_parts (g.has a) (is_member eq (g.steps a) b) h in
        one_step g a b (record { inside = steps.0; leads = (is_member-Decides decides (g.steps a) b).0 steps.1 })
    lead (x ∷ xs) a b h =
        elim (or_cases (leads xs a b) (leads xs a x && leads xs x b) h) [
          | inl straight ↦ lead xs a b straight
          | inr over ↦ let parts = and_parts (leads xs a x) (leads xs x b) over in let first = lead xs a x parts.0 in leads_on g (suc first.more) a x b first.over (lead xs x b parts.1)
        ]

    by_step : (xs : List A) (a b : A) → IsStep g a b → leads xs a b ≡ true
    by_step [] a b step = and_from (g.has a) (is_member eq (g.steps a) b) step.inside ((is_member-Decides decides (g.steps a) b).1 step.leads)
    by_step (x ∷ xs) a b step = or_left (leads xs a b) (leads xs a x && leads xs x b) (by_step xs a b step)

  to_first : (xs : List A) (x a : A) → leads (x ∷ xs) a x ≡ true → leads xs a x ≡ true
  to_first xs x a h = elim (or_cases (leads xs a x) (leads xs a x && leads xs x x) h) [ inl straight ↦ straight | inr over ↦ (and_parts (leads xs a x) (leads xs x x) over).0 ]

  from_first : (xs : List A) (x b : A) → leads (x ∷ xs) x b ≡ true → leads xs x b ≡ true
  from_first xs x b h = elim (or_cases (leads xs x b) (leads xs x x && leads xs x b) h) [ inl straight ↦ straight | inr over ↦ (and_parts (leads xs x x) (leads xs x b) over).1 ]

  -- two ways that meet in one of these
  joined : (xs : List A) (a c b : A) → Contains xs c → leads xs a c ≡ true → leads xs c b ≡ true → leads xs a b ≡ true
  joined [] a c b within h k = absurd (none_in c within)
  joined (x ∷ xs) a c b within h k =
      elim (in_cons x xs c within) [
        | inl same ↦
            way_over (leads xs a b) (leads xs a x) (leads xs x b)
            (to_first xs x a (subst (λ c. leads (x ∷ xs) a c ≡ true) (sym same) h))
            (from_first xs x b (subst (λ c. leads (x ∷ xs) c b ≡ true) (sym same) k))
        | inr later ↦ elim (or_cases (leads xs a c) (leads xs a x && leads xs x c) h) [
          | inl there ↦ elim (or_cases (leads xs c b) (leads xs c x && leads xs x b) k) [
            | inl on ↦ or_left (leads xs a b) (leads xs a x && leads xs x b) (joined xs a c b later there on)
            | inr over ↦ let parts = and_parts (leads xs c x) (leads xs x b) over in way_over (leads xs a b) (leads xs a x) (leads xs x b) (joined xs a c x later there parts.0) parts.1
          ]
          | inr over ↦ let parts = and_parts (leads xs a x) (leads xs x c) over in elim (or_cases (leads xs c b) (leads xs c x && leads xs x b) k) [
            | inl on ↦ way_over (leads xs a b) (leads xs a x) (leads xs x b) parts.0 (joined xs x c b later parts.1 on)
            | inr last ↦ way_over (leads xs a b) (leads xs a x) (leads xs x b) parts.0 (and_parts (leads xs c x) (leads xs x b) last).1
          ]
        ]
      ]

  module _ (decides : (a b : A) → Decides (eq a b) (a ≡ b)) (points : List A) (listed : IsListed g points) where
    -- over all points each way is found
    found : (n : ℕ) (a b : A) → LeadsOver g (suc n) a b → leads points a b ≡ true
    found zero a b h = by_step decides points a b (subst (λ x. IsStep g a x) h.2 h.1)
    found (suc n) a b h =
        joined points a h.0 b (listed.all h.0 (h.2.1.inside)) (by_step decides points a h.0 h.1) (found n h.0 b h.2)

    pub cycle_or_not : (a : A) → OnCycle g a ⊎ (OnCycle g a → ⊥)
    cycle_or_not a =
        elim (cases_Bool (leads points a a)) [
          | inl is ↦ (let way = lead decides points a a is in inl (record { more = way.more; leads = way.over }))
          | inr isnt ↦ inr (λ cycle. false≢true (sym isnt ∙ found cycle.more a a cycle.leads))
        ]

le_or : (o r : Ordering) → o ≡ ordering_reverse r → IsTrue (is_le o) ⊎ IsTrue (is_le r)
le_or o Less e = inr refl
le_or o Equal e = inr refl
le_or o Greater e = inl (ap is_le e)

module _ {A : Type 0} (cmp : A → A → Ordering) (total : IsTotalOrder cmp) where
  le_by : (x y z : A) (o r : Ordering) → cmp x y ≡ o → cmp y z ≡ r → is_le o ≡ true → is_le r ≡ true → IsTrue (is_le (cmp x z))
  le_by x y z Less Less e f h k = ap is_le (total.trans x y z e f)
  le_by x y z Less Equal e f h k = ap is_le (sym (alike_right total y z x f) ∙ e)
  le_by x y z Less Greater e f h k = absurd (false≢true k)
  le_by x y z Equal r e f h k = ap is_le (total.congr x y z e ∙ f) ∙ k
  le_by x y z Greater r e f h k = absurd (false≢true h)

  -- not after itself, and what isn't after the one isn't after the other
  pub le_itself : (x : A) → IsTrue (is_le (cmp x x))
  le_itself x = ap is_le (tied_itself total x)

  pub le_chain : (x y z : A) → IsTrue (is_le (cmp x y)) → IsTrue (is_le (cmp y z)) → IsTrue (is_le (cmp x z))
  le_chain x y z h k = le_by x y z (cmp x y) (cmp y z) refl refl h k

  -- of a list none has a property, or there is a first that has it
  pub record FirstOf (Has : A → Type 0) (xs : List A) : Type 0 where
    pub at : A
    pub there : Has at
    pub first : (b : A) → Contains xs b → Has b → IsTrue (is_le (cmp at b))

  module _ (Has : A → Type 0) (each : (a : A) → Has a ⊎ (Has a → ⊥)) where
    -- one before those of a list
    before : (x : A) (xs : List A) → Has x → FirstOf Has xs → FirstOf Has (x ∷ xs)
    before x xs has rest =
        elim (le_or (cmp x rest.at) (cmp rest.at x) (total.antisymm x rest.at)) [
          | inl le ↦ record {
            at = x;
            there = has;
            first = λ b within is. elim (in_cons x xs b within) [ inl same ↦ subst (λ b. IsTrue (is_le (cmp x b))) same (le_itself x) | inr later ↦ le_chain x rest.at b le (rest.first b later is) ];
          }
          | inr ge ↦ record {
            at = rest.at;
            there = rest.there;
            first = λ b within is. elim (in_cons x xs b within) [ inl same ↦ subst (λ b. IsTrue (is_le (cmp rest.at b))) same ge | inr later ↦ rest.first b later is ];
          }
        ]

    pub none_or_first : (xs : List A) → ((b : A) → Contains xs b → Has b → ⊥) ⊎ FirstOf Has xs
    none_or_first [] = inl (λ b within has. none_in b within)
    none_or_first (x ∷ xs) =
        elim (each x) [
          | inl has ↦ elim (none_or_first xs) [
            | inl none ↦ inr (record {
              at = x;
              there = has;
              first = λ b within is. elim (in_cons x xs b within) [ inl same ↦ subst (λ b. IsTrue (is_le (cmp x b))) same (le_itself x) | inr later ↦ absurd (none b later is) ];
            })
            | inr rest ↦ inr (before x xs has rest)
          ]
          | inr hasnt ↦ elim (none_or_first xs) [
            | inl none ↦ inl (λ b within is. elim (in_cons x xs b within) [ inl same ↦ hasnt (subst Has (sym same) is) | inr later ↦ none b later is ])
            | inr rest ↦ inr (record {
              at = rest.at;
              there = rest.there;
              first = λ b within is. elim (in_cons x xs b within) [ inl same ↦ absurd (hasnt (subst Has (sym same) is)) | inr later ↦ rest.first b later is ];
            })
          ]
        ]
