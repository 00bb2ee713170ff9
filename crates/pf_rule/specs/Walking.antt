-- The walk through a list of rules, in order (pf.conf(5), PACKET FILTERING), for any kind of walk and of rule: only the
-- three functions of a `Walking` look into them.
use Rattle.std.specs.Prelude.{◌≡◌, ℕ, ◌+◌, Bool, false, true, List, [], ◌∷◌, if◌then◌else◌, All}
use Rattle.std.specs.List.{list_any}

-- what is asked of walks W and rules R
pub record Walking (W R : Type 0) : Type 0 where
  -- no other rule is evaluated
  pub stopped : W → Bool
  -- the rule matches at the walk
  pub hits : R → W → Bool
  -- the walk after a rule that matches
  pub deed : R → W → W

-- one rule: its deed where it hits, and nothing elsewhere
abbrev pub walked_past : {W R : Type 0} → Walking W R → R → W → W
walked_past on rule walk = if on.hits rule walk then on.deed rule walk else walk

-- the rules in their order, up to the end or to a walk that has stopped
abbrev pub walked_through : {W R : Type 0} → Walking W R → List R → W → W
walked_through on [] walk = walk
walked_through on (rule ∷ rules) walk =
    if on.stopped walk then walk else walked_through on rules (walked_past on rule walk)

-- how many rules of the list the walk reaches
abbrev pub reached_through : {W R : Type 0} → Walking W R → List R → W → ℕ
reached_through on [] walk = 0
reached_through on (rule ∷ rules) walk =
    if on.stopped walk then 0 else 1 + reached_through on rules (walked_past on rule walk)

-- some rule of the list hits at the walk
abbrev pub some_hits : {W R : Type 0} → Walking W R → List R → W → Bool
some_hits on rules walk = list_any (λ rule. on.hits rule walk) rules

-- the effect once where some rule of the list hits, and nothing elsewhere
abbrev pub once : {W R : Type 0} → Walking W R → (W → W) → List R → W → W
once on effect rules walk =
    if on.stopped walk then walk else (if some_hits on rules walk then effect walk else walk)

-- two walkings that do alike with these rules: where the one hasn't stopped, a rule hits in both or in none, and where it
-- hits it does the same
pub record DoAlike {W R : Type 0} (one other : Walking W R) (rules : List R) : Type 0 where
  pub stops : (walk : W) → one.stopped walk ≡ other.stopped walk
  pub hits : All (λ rule. (walk : W) → one.stopped walk ≡ false → one.hits rule walk ≡ other.hits rule walk) rules
  pub deeds : All (λ rule. (walk : W) → one.stopped walk ≡ false → one.hits rule walk ≡ true → one.deed rule walk ≡ other.deed rule walk) rules

-- a list of rules of one effect, which twice is the effect once
pub record OneEffect {W R : Type 0} (on : Walking W R) (effect : W → W) (rules : List R) : Type 0 where
  pub one : All (λ rule. (walk : W) → on.deed rule walk ≡ effect walk) rules
  pub twice : (walk : W) → effect (effect walk) ≡ effect walk
