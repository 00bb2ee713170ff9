-- What stands between two script lines says something: a ruleset has a rule or a declared table.
use Rattle.std.specs.Prelude.{◌≡◌, ℕ, false, List, [], Contains, Some}
use Rattle.std.specs.FinMap as finite
use Rattle.pf_base.specs.declared.kind.Level.TheVariants.{None as at_no_level}
use Rattle.pf_optim.specs.Node.{is_bare}
use Rattle.pf_optim.specs.Ruleset.{Written}
use Rattle.pf_optim.specs.declared.node.Node.{Node}
use Rattle.pf_state.specs.declared.machine.Machine.{Machine}
use Rattle.pf_state.specs.declared.ready.Opened.{Opened}
use Rattle.pf_state.specs.declared.ready.Ready.{Ready}
use Rattle.pf_state.specs.declared.ready.Staged.{Staged}

-- where there is no rule there is no level to optimise by, and no weight
pub record IsPlain (written : Written) : Type 0 where
  pub level : written.rules ≡ [] → written.level ≡ at_no_level
  pub weights : written.rules ≡ [] → written.weights ≡ []

-- a ruleset with some rule or some declared table
pub record SaysSomething (node : Node) : Type 0 where
  pub something : is_bare node.rules node.shelf ≡ false
  pub plain : IsPlain node.rules

-- the rulesets of a plan; they may be bare, since such a load takes away the rules at their paths, and the tables without persist
abbrev pub IsPlanPlain : Ready → Type 0
IsPlanPlain ready = (part : Staged) → Contains ready.parts part → IsPlain part.rules

-- Each ruleset that stands says something, and where a plan waits for its commit it has no level and no weights without rules either.
pub record StandsPlain (machine : Machine) : Type 0 where
  pub rulesets : (path : List (List ℕ)) (node : Node) → finite.get machine.rulesets path ≡ Some node → SaysSomething node
  pub sessions : (name : List ℕ) (session : Opened) → finite.get machine.sessions name ≡ Some session → IsPlanPlain session.ready
