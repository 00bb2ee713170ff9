-- The walk of a packet, one rule at a time.
use Rattle.std.proofs.Common.{◌≡◌, ℕ, ◌≤◌, length, drop, true, false, List, ◌∷◌, ap}
use Rattle.std.proofs.lemmas.List.{drop_all}
use Rattle.pf_rule.specs.Around.{Around}
use Rattle.pf_rule.specs.Walk.{own_effect, reached, walked, walked_one, walking_by}
use Rattle.pf_rule.specs.declared.rule.Rule.{Rule}
use Rattle.pf_rule.specs.declared.walk.Walk.{Walk}
use Rattle.pf_rule.proofs.AnyWalks as any

-- a walk that has stopped stays as it is
pub walked_stopped : (around : Around) (rules : List Rule) (walk : Walk) → walk.stop ≡ true → walked around rules walk ≡ walk
walked_stopped around rules walk stopped = any.stopped_stays (walking_by own_effect around) rules walk stopped

-- any other goes on behind the first rule
pub walked_on : (around : Around) (rule : Rule) (rules : List Rule) (walk : Walk) → walk.stop ≡ false → walked around (rule ∷ rules) walk ≡ walked around rules (walked_one around rule walk)
walked_on around rule rules walk going = any.goes_on (walking_by own_effect around) rule rules walk going

-- behind the last rule nothing is left
pub walked_all : (around : Around) (rules : List Rule) (walk : Walk) (n : ℕ) → length rules ≤ n → walked around (drop n rules) walk ≡ walk
walked_all around rules walk n past = ap (λ rest. walked around rest walk) (drop_all n rules past)

-- a walk that has stopped reaches no rule
pub reached_stopped : (around : Around) (rules : List Rule) (walk : Walk) → walk.stop ≡ true → reached around rules walk ≡ 0
reached_stopped around rules walk stopped = any.stopped_reaches_none (walking_by own_effect around) rules walk stopped

-- behind the last rule none is reached
pub reached_all : (around : Around) (rules : List Rule) (walk : Walk) (n : ℕ) → length rules ≤ n → reached around (drop n rules) walk ≡ 0
reached_all around rules walk n past = ap (λ rest. reached around rest walk) (drop_all n rules past)

-- each rule is reached at most once
pub reached_few : (around : Around) (rules : List Rule) (walk : Walk) → reached around rules walk ≤ length rules
reached_few around rules walk = any.reached_few (walking_by own_effect around) rules walk
