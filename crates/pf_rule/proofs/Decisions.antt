-- Which rule has decided at the end of a walk.
use Rattle.std.proofs.Common.{◌≡◌, Bool, true, false, cond, List, [], ◌∷◌, ◌++◌, refl, ap, sym, ◌∙◌, append_assoc}
use Rattle.std.specs.Prelude.{◌||◌}
use Rattle.pf_rule.specs.Around.{Around}
use Rattle.pf_rule.specs.Deciding.{Decides, NoneDecides}
use Rattle.pf_rule.specs.Effect.{decision_of, effect_on, is_deciding}
use Rattle.pf_rule.specs.Hit.{hits_at}
use Rattle.pf_rule.specs.Walk.{own_effect, walked, walked_one, walking_by}
use Rattle.pf_rule.specs.declared.rule.Rule.{Rule}
use Rattle.pf_rule.specs.declared.walk.Walk.{Walk}
use Rattle.pf_rule.proofs.AnyWalks as any
use Rattle.pf_rule.proofs.Effects.{decides_last, quick_stops, rests_last}
use Rattle.pf_rule.proofs.Walks.{walked_on, walked_stopped}

-- a walk through two lists is a walk through the second after one through the first
pub walked_append : (around : Around) (front back : List Rule) (walk : Walk)
    → walked around (front ++ back) walk ≡ walked around back (walked around front walk)
walked_append around front back walk = any.joined (walking_by own_effect around) front back walk

-- a rule that hits has its effect
takes : (around : Around) (rule : Rule) (walk : Walk) → hits_at around rule walk ≡ true → walked_one around rule walk ≡ effect_on rule.effect walk
takes around rule walk hit = ap (λ b. cond b (effect_on rule.effect walk) walk) hit

-- one that doesn't is passed over
passes_over : (around : Around) (rule : Rule) (walk : Walk) → hits_at around rule walk ≡ false → walked_one around rule walk ≡ walk
passes_over around rule walk missed = ap (λ b. cond b (effect_on rule.effect walk) walk) missed

-- behind a rule that decides, the walk is its effect on the walk before it
decided_walk : (around : Around) (front : List Rule) (rule : Rule) (walk : Walk) → Decides around front rule walk
    → walked around (front ++ rule ∷ []) walk ≡ effect_on rule.effect (walked around front walk)
decided_walk around front rule walk d =
    walked_append around front (rule ∷ []) walk
    ∙ (walked_on around rule [] (walked around front walk) d.reached
    ∙ takes around rule (walked around front walk) d.hit)

-- one more rule in front of a list whose rules don't decide
none_behind : (around : Around) (rule : Rule) (rules : List Rule) (walk : Walk) → walk.stop ≡ false
    → NoneDecides around (rule ∷ rules) walk → NoneDecides around rules (walked_one around rule walk)
none_behind around rule rules walk going none =
    λ front back later e d.
    let same : walked around (rule ∷ front) walk ≡ walked around front (walked_one around rule walk) = walked_on around rule front walk going in
    none (rule ∷ front) back later (ap (λ rs. rule ∷ rs) e) (record {
      decides = d.decides;
      reached = ap (λ (w : Walk). w.stop) same ∙ d.reached;
      hit = ap (hits_at around later) same ∙ d.hit;
    })

-- a rule that doesn't decide leaves the decision
passed_last : (hit deciding : Bool) (around : Around) (rule : Rule) (walk : Walk)
    → hits_at around rule walk ≡ hit → is_deciding rule.effect.action ≡ deciding
    → ¬ ((hit ≡ true) × (deciding ≡ true)) → (walked_one around rule walk).last ≡ walk.last
passed_last false deciding around rule walk is_hit is_decided none = ap (λ (w : Walk). w.last) (passes_over around rule walk is_hit)
passed_last true false around rule walk is_hit is_decided none =
    ap (λ (w : Walk). w.last) (takes around rule walk is_hit) ∙ rests_last rule.effect walk is_decided
passed_last true true around rule walk is_hit is_decided none = absurd (none (refl, refl))

-- where no rule decides, the decision stays
pub none_last : (around : Around) (rules : List Rule) (walk : Walk) → NoneDecides around rules walk → (walked around rules walk).last ≡ walk.last
none_last around [] walk none = refl
none_last around (rule ∷ rules) walk none =
    elim walk.stop as (λ b. walk.stop ≡ b → (cond b walk (walked around rules (walked_one around rule walk))).last ≡ walk.last) [
      | true ↦ (λ stopped. refl)
      | false ↦ (λ going.
          none_last around rules (walked_one around rule walk) (none_behind around rule rules walk going none)
          ∙ passed_last (hits_at around rule walk) (is_deciding rule.effect.action) around rule walk refl refl
          (λ both. none [] rules rule refl (record { decides = both.1; reached = going; hit = both.0 })))
    ] refl

-- a walk through a list is one through its back after one through its front
pub parted : (around : Around) (front : List Rule) (rule : Rule) (back : List Rule) (walk : Walk)
    → walked around (front ++ rule ∷ back) walk ≡ walked around back (walked around (front ++ rule ∷ []) walk)
parted around front rule back walk =
    ap (λ rs. walked around rs walk) (sym (append_assoc front (rule ∷ []) back)) ∙ walked_append around (front ++ rule ∷ []) back walk

-- a quick rule decides
pub quick_walk : (around : Around) (front : List Rule) (rule : Rule) (back : List Rule) (walk : Walk)
    → Decides around front rule walk → rule.effect.quick ≡ true
    → walked around (front ++ rule ∷ back) walk ≡ walked around (front ++ rule ∷ []) walk
quick_walk around front rule back walk d quick =
    let end : Walk = walked around (front ++ rule ∷ []) walk in
    let stopped : end.stop ≡ true =
    ap (λ (w : Walk). w.stop) (decided_walk around front rule walk d)
    ∙ (quick_stops rule.effect (walked around front walk) d.decides
    ∙ (ap (λ b. b || rule.effect.quick) d.reached ∙ quick)) in
    parted around front rule back walk ∙ walked_stopped around back end stopped

-- what a rule that decides has decided
pub decided_last : (around : Around) (front : List Rule) (rule : Rule) (walk : Walk) → Decides around front rule walk
    → (walked around (front ++ rule ∷ []) walk).last ≡ decision_of rule.effect
decided_last around front rule walk d =
    ap (λ (w : Walk). w.last) (decided_walk around front rule walk d) ∙ decides_last rule.effect (walked around front walk) d.decides

-- the last one that hits decides
pub last_walk : (around : Around) (front : List Rule) (rule : Rule) (back : List Rule) (walk : Walk)
    → Decides around front rule walk → NoneDecides around back (walked around (front ++ rule ∷ []) walk)
    → (walked around back (walked around (front ++ rule ∷ []) walk)).last ≡ decision_of rule.effect
last_walk around front rule back walk d none =
    none_last around back (walked around (front ++ rule ∷ []) walk) none ∙ decided_last around front rule walk d
