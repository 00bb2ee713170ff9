-- Walks through lists of rules, for any kind of walk and of rule.
use Rattle.std.proofs.Common.{◌≡◌, ℕ, zero, suc, ◌+◌, ◌≤◌, length, Bool, true, false, cond, ◌||◌, List, [], ◌∷◌, ◌++◌, All, refl, ap, sym, ◌∙◌, arith}
use Rattle.pf_rule.specs.Walking.{DoAlike, OneEffect, Walking, once, reached_through, some_hits, walked_past, walked_through}

-- what holds of all elements holds of the first
pub first_of_all : {A : Type 0} → (P : A → Type 0) (x : A) (xs : List A) → All P (x ∷ xs) → P x
first_of_all P x xs all = all zero x (omega arith)

-- and of all behind it
pub rest_of_all : {A : Type 0} → (P : A → Type 0) (x : A) (xs : List A) → All P (x ∷ xs) → All P xs
rest_of_all P x xs all = λ k d few. all (suc k) d (omega arith)

reached_at : (stop : Bool) (more most : ℕ) → more ≤ most → cond stop 0 (1 + more) ≤ suc most
reached_at true more most few = omega arith
reached_at false more most few = omega arith

module _ {W R : Type 0} (on : Walking W R) where
  -- a walk that has stopped stays as it is
  pub stopped_stays : (rules : List R) (walk : W) → on.stopped walk ≡ true → walked_through on rules walk ≡ walk
  stopped_stays [] walk stopped = refl
  stopped_stays (rule ∷ rules) walk stopped =
      ap (λ b. cond b walk (walked_through on rules (walked_past on rule walk))) stopped

  -- any other goes on behind the first rule
  pub goes_on : (rule : R) (rules : List R) (walk : W) → on.stopped walk ≡ false
      → walked_through on (rule ∷ rules) walk ≡ walked_through on rules (walked_past on rule walk)
  goes_on rule rules walk going = ap (λ b. cond b walk (walked_through on rules (walked_past on rule walk))) going

  -- a walk through two lists is a walk through the second after one through the first
  pub joined : (front back : List R) (walk : W)
      → walked_through on (front ++ back) walk ≡ walked_through on back (walked_through on front walk)
  joined [] back walk = refl
  joined (rule ∷ front) back walk =
      elim (on.stopped walk) as (λ b. on.stopped walk ≡ b → cond b walk (walked_through on (front ++ back) (walked_past on rule walk)) ≡ walked_through on back (cond b walk (walked_through on front (walked_past on rule walk)))) [
        | true ↦ (λ stopped. sym (stopped_stays back walk stopped))
        | false ↦ (λ going. joined front back (walked_past on rule walk))
      ] refl

  -- a walk that has stopped reaches no rule
  pub stopped_reaches_none : (rules : List R) (walk : W) → on.stopped walk ≡ true → reached_through on rules walk ≡ 0
  stopped_reaches_none [] walk stopped = refl
  stopped_reaches_none (rule ∷ rules) walk stopped =
      ap (λ b. cond b 0 (1 + reached_through on rules (walked_past on rule walk))) stopped

  -- each rule is reached at most once
  pub reached_few : (rules : List R) (walk : W) → reached_through on rules walk ≤ length rules
  reached_few [] walk = omega arith
  reached_few (rule ∷ rules) walk =
      reached_at (on.stopped walk) (reached_through on rules (walked_past on rule walk)) (length rules) (reached_few rules (walked_past on rule walk))

  past_alone : (hit : Bool) (done walk : W) → done ≡ walk → cond hit done walk ≡ walk
  past_alone true done walk same = same
  past_alone false done walk same = refl

  -- a walk that an effect leaves as it is, rules of that effect leave as it is
  left_alone : (effect : W → W) (rules : List R) (walk : W) → All (λ rule. (w : W) → on.deed rule w ≡ effect w) rules
      → effect walk ≡ walk → walked_through on rules walk ≡ walk
  left_alone effect [] walk one same = refl
  left_alone effect (rule ∷ rules) walk one same =
      elim (on.stopped walk) as (λ b. cond b walk (walked_through on rules (walked_past on rule walk)) ≡ walk) [
        | true ↦ refl
        | false ↦
            ap (walked_through on rules) (past_alone (on.hits rule walk) (on.deed rule walk) walk (first_of_all (λ r. (w : W) → on.deed r w ≡ effect w) rule rules one walk ∙ same))
            ∙ left_alone effect rules walk (rest_of_all (λ r. (w : W) → on.deed r w ≡ effect w) rule rules one) same
      ]

  -- rules of one effect have it once, where some of them hits
  pub one_effect_once : (effect : W → W) (rules : List R) (walk : W) → OneEffect on effect rules
      → walked_through on rules walk ≡ once on effect rules walk
  one_effect_once effect [] walk block = elim (on.stopped walk) as (λ b. walk ≡ cond b walk walk) [ true ↦ refl | false ↦ refl ]
  one_effect_once effect (rule ∷ rules) walk block =
      let Same : R → Type 0 = λ r. (w : W) → on.deed r w ≡ effect w in
      let here : on.deed rule walk ≡ effect walk = first_of_all Same rule rules block.one walk in
      let rest : OneEffect on effect rules = record { one = rest_of_all Same rule rules block.one; twice = block.twice } in
      let twice : effect (effect walk) ≡ effect walk = block.twice walk in
      let behind : walked_through on rules walk ≡ once on effect rules walk = one_effect_once effect rules walk rest in
      elim (on.stopped walk) as (λ b. on.stopped walk ≡ b → cond b walk (walked_through on rules (walked_past on rule walk)) ≡ cond b walk (cond (some_hits on (rule ∷ rules) walk) (effect walk) walk)) [
        | true ↦ (λ stopped. refl)
        | false ↦ (λ going.
            elim (on.hits rule walk) as (λ hit. walked_through on rules (cond hit (on.deed rule walk) walk) ≡ cond (hit || some_hits on rules walk) (effect walk) walk) [
              | true ↦ ap (walked_through on rules) here ∙ left_alone effect rules (effect walk) rest.one twice
              | false ↦ behind ∙ ap (λ b. cond b walk (cond (some_hits on rules walk) (effect walk) walk)) going
            ])
      ] refl

past_alike : {W : Type 0} → (hit hit' : Bool) (done done' walk : W) → hit ≡ hit' → (hit ≡ true → done ≡ done')
    → cond hit done walk ≡ cond hit' done' walk
past_alike true hit' done done' walk same alike = alike refl ∙ ap (λ b. cond b done' walk) same
past_alike false hit' done done' walk same alike = ap (λ b. cond b done' walk) same

-- walkings that do alike with the rules walk alike
pub alike_walks : {W R : Type 0} → (one other : Walking W R) (rules : List R) (walk : W) → DoAlike one other rules
    → walked_through one rules walk ≡ walked_through other rules walk
alike_walks one other [] walk alike = refl
alike_walks {W} {R} one other (rule ∷ rules) walk alike =
    let Hits : R → Type 0 = λ r. (w : W) → one.stopped w ≡ false → one.hits r w ≡ other.hits r w in
    let Deeds : R → Type 0 = λ r. (w : W) → one.stopped w ≡ false → one.hits r w ≡ true → one.deed r w ≡ other.deed r w in
    let rest : DoAlike one other rules = record { stops = alike.stops; hits = rest_of_all Hits rule rules alike.hits; deeds = rest_of_all Deeds rule rules alike.deeds } in
    let same_hit : one.stopped walk ≡ false → one.hits rule walk ≡ other.hits rule walk = first_of_all Hits rule rules alike.hits walk in
    let same_deed : one.stopped walk ≡ false → one.hits rule walk ≡ true → one.deed rule walk ≡ other.deed rule walk = first_of_all Deeds rule rules alike.deeds walk in
    let behind : walked_through one rules (walked_past one rule walk) ≡ walked_through other rules (walked_past one rule walk) = alike_walks one other rules (walked_past one rule walk) rest in
    elim (one.stopped walk) as (λ b. one.stopped walk ≡ b → cond b walk (walked_through one rules (walked_past one rule walk)) ≡ walked_through other (rule ∷ rules) walk) [
      | true ↦ (λ stopped. sym (stopped_stays other (rule ∷ rules) walk (sym (alike.stops walk) ∙ stopped)))
      | false ↦ (λ going.
          behind
          ∙ ap (walked_through other rules) (past_alike (one.hits rule walk) (other.hits rule walk) (one.deed rule walk) (other.deed rule walk) walk (same_hit going) (same_deed going))
          ∙ sym (goes_on other rule rules walk (sym (alike.stops walk) ∙ going)))
    ] refl
