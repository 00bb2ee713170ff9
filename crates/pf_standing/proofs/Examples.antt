-- Small cases, computed with the definitions.
use Rattle.std.proofs.Common.{◌≡◌, ℕ, false, List, [], ◌∷◌, None, refl}
use Rattle.pf_base.specs.declared.kind.Level.TheVariants as levels
use Rattle.pf_optim.specs.Node.{is_bare}
use Rattle.pf_optim.specs.Ruleset.{written_of}
use Rattle.pf_rule.specs.declared.rule.Rule.{Rule}
use Rattle.pf_shelf.specs.Shelf.{Tables}
use Rattle.pf_state.specs.Limits.{planned_rules}
use Rattle.pf_standing.specs.Standing.{IsPlain}

-- at whatever level rules are loaded, without any there is no level and no weight
no_rules : IsPlain (written_of [] levels.Profile (3 ∷ []))
no_rules = record { level = λ none. refl; weights = λ none. refl }

-- a level without rules isn't plain
level_alone : IsPlain (record { rules = []; level = levels.Basic; weights = [] }) → ⊥
level_alone plain = absurd (basic_none (plain.level refl))
  where
    basic_none : levels.Basic ≡ levels.None → ⊥
    basic_none e = cc

-- a ruleset with one rule is shown, whatever its tables
one_rule : (rule : Rule) (tables : Tables) → is_bare (written_of (rule ∷ []) levels.Basic (1 ∷ [])) tables ≡ false
one_rule rule tables = refl

-- a plan's rules are those of all its rulesets
two_rulesets : (path other : List (List ℕ)) (a b c : Rule)
    → planned_rules (record { parts = record { path = path; rules = written_of (a ∷ []) levels.Basic []; tables = [] } ∷ record { path = other; rules = written_of (b ∷ c ∷ []) levels.None []; tables = [] } ∷ []; whole = None }) ≡ 3
two_rulesets path other a b c = refl
