-- Ranks and cycles of a graph that stands for another.
use Rattle.std.proofs.Common.{◌≡◌, ℕ, zero, suc, true, refl, sym, ap, ◌∙◌, subst, inl, inr}
use Rattle.pf_calls.specs.Graph.{Graph, LeadsOver, OnCycle}
use Rattle.pf_calls.specs.GraphLaws.{in_or_out, is_within, not_within_zero, pass_all, pass_each, within_inside, within_outside}
use Rattle.pf_calls.specs.Numbered.{IsCopy}

module _ {A B : Type 0} (g : Graph A) (h : Graph B) (name : A → B) (copy : IsCopy g h name) where
  pub within_forth : (n : ℕ) (a : A) → g.has a ≡ true → is_within g n a ≡ true → is_within h n (name a) ≡ true
  within_forth zero a here w = absurd (not_within_zero g a here w)
  within_forth (suc n) a here w =
      within_inside h n (name a) (copy.inside a here)
      ∙ pass_all (is_within h n) (h.steps (name a)) (λ d leads. elim (in_or_out h d) [
        | inr out ↦ within_outside h n d out
        | inl there ↦
            let step = copy.back a d here (record { inside = copy.inside a here; leads = leads }) there in
            let below = pass_each (is_within g n) (g.steps a) (sym (within_inside g n a here) ∙ w) step.0 step.1.leads in
            subst (λ d. is_within h n d ≡ true) step.2 (within_forth n step.0 (copy.forth a step.0 step.1).0 below)
      ])

  pub within_back : (n : ℕ) (a : A) → g.has a ≡ true → is_within h n (name a) ≡ true → is_within g n a ≡ true
  within_back zero a here w = absurd (not_within_zero h (name a) (copy.inside a here) w)
  within_back (suc n) a here w =
      within_inside g n a here
      ∙ pass_all (is_within g n) (g.steps a) (λ c leads.
      let step = copy.forth a c (record { inside = here; leads = leads }) in
      within_back n c step.0 (pass_each (is_within h n) (h.steps (name a)) (sym (within_inside h n (name a) (copy.inside a here)) ∙ w) (name c) step.1.leads))

  -- where all points of the one are within a bound, so are all of the other
  pub all_within : (n : ℕ) → ((a : A) → g.has a ≡ true → is_within g n a ≡ true) → (b : B) → is_within h n b ≡ true
  all_within n all b =
      elim (in_or_out h b) [
        | inr out ↦ within_outside h n b out
        | inl there ↦ (let point = copy.named b there in subst (λ b. is_within h n b ≡ true) point.2 (within_forth n point.0 point.1 (all point.0 point.1)))
      ]

  leads_forth : (n : ℕ) (a c : A) → LeadsOver g n a c → LeadsOver h n (name a) (name c)
  leads_forth zero a c e = ap name e
  leads_forth (suc n) a c leads = (name leads.0, (copy.forth a leads.0 leads.1).1, leads_forth n leads.0 c leads.2)

  pub cycle_forth : (a : A) → OnCycle g a → OnCycle h (name a)
  cycle_forth a cycle = record { more = cycle.more; leads = leads_forth (suc cycle.more) a a cycle.leads }

  -- where steps lead, unless they leave the graph
  first_inside : (n : ℕ) (b d : B) → LeadsOver h n b d → h.has d ≡ true → h.has b ≡ true
  first_inside zero b d e there = ap h.has e ∙ there
  first_inside (suc n) b d leads there = leads.1.inside

  leads_back : (n : ℕ) (a : A) (d : B) → g.has a ≡ true → LeadsOver h n (name a) d → h.has d ≡ true → (c : A) × LeadsOver g n a c × (g.has c ≡ true) × (name c ≡ d)
  leads_back zero a d here e there = (a, refl, here, e)
  leads_back (suc n) a d here leads there =
      let next = copy.back a leads.0 here leads.1 (first_inside n leads.0 d leads.2 there) in
      let inside = (copy.forth a next.0 next.1).0 in
      let rest = leads_back n next.0 d inside (subst (λ b. LeadsOver h n b d) (sym next.2) leads.2) there in
      (rest.0, (next.0, next.1, rest.1), rest.2, rest.3)

  pub cycle_back : (b : B) → OnCycle h b → (a : A) × (g.has a ≡ true) × OnCycle g a × (name a ≡ b)
  cycle_back b cycle =
      let there = cycle.leads.1.inside in
      let point = copy.named b there in
      let back = leads_back (suc cycle.more) point.0 b point.1 (subst (λ c. LeadsOver h (suc cycle.more) c b) (sym point.2) cycle.leads) there in
      let same = copy.apart back.0 point.0 back.2 point.1 (back.3 ∙ sym point.2) in
      (point.0, point.1, record { more = cycle.more; leads = subst (LeadsOver g (suc cycle.more) point.0) same back.1 }, point.2)
