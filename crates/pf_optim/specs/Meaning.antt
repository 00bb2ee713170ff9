-- What the optimiser keeps: a walk through the optimised rules ends as the walk through the written ones.
use Rattle.std.specs.Prelude.{◌≡◌, ℕ, List, length, Bool, true, false, All}
use Rattle.std.specs.List.{list_all}
use Rattle.pf_addr.specs.declared.addr.Addr.{Addr}
use Rattle.pf_addr.specs.declared.ifaces.DynIf.{DynIf}
use Rattle.pf_auto.specs.Standing.{StandFor, names_none}
use Rattle.pf_optim.specs.Optimised.{optimised}
use Rattle.pf_base.specs.declared.kind.Level.{Level}
use Rattle.pf_rule.specs.Around.{Around}
use Rattle.pf_rule.specs.Effect.{effect_on, is_anchor}
use Rattle.pf_rule.specs.Hit.{hits_at}
use Rattle.pf_rule.specs.Walk.{walked_by}
use Rattle.pf_rule.specs.Walking.{Walking, walked_through}
use Rattle.pf_rule.specs.declared.criteria.AddrSet.TheVariants.{Table}
use Rattle.pf_rule.specs.declared.effect.Effect.{Effect}
use Rattle.pf_rule.specs.declared.rule.Rule.{Rule}
use Rattle.pf_rule.specs.declared.walk.Walk.{Walk}

-- rules as they can be written, which name no automatic table
abbrev pub are_written : List Rule → Bool
are_written rules = list_all names_none rules

-- two surroundings of rules that agree on declared tables, groups and interfaces; automatic tables may differ
pub record AgreeOnDeclared (one other : Around) : Type 0 where
  pub tables : (name : List ℕ) (addr : Addr) → one.member (Table name) addr ≡ other.member (Table name) addr
  pub groups : (name iface : List ℕ) → one.in_group name iface ≡ other.in_group name iface
  pub dynamic : (what : DynIf) (addr : Addr) → one.dynamic what addr ≡ other.dynamic what addr

-- A way of walking through rules by walks of any kind, of each of which the packet's walk can be seen: in these surroundings
-- a rule hits where it hits at what is seen, and what a rule does that is no anchor is told by its effect, and twice is once.
pub record WalksRules {W : Type 0} (on : Walking W Rule) (view : W → Walk) (act : Effect → W → W) (around : Around) : Type 0 where
  pub hits : (rule : Rule) (walk : W) → on.hits rule walk ≡ hits_at around rule (view walk)
  pub deeds : (rule : Rule) (walk : W) → is_anchor rule.effect.action ≡ false → on.deed rule walk ≡ act rule.effect walk
  pub twice : (effect : Effect) (walk : W) → is_anchor effect.action ≡ false → act effect (act effect walk) ≡ act effect walk

-- two ways of walking that end a walk alike, and in which each of these rules that hits does the same, anchors too
pub record ActAlike {W : Type 0} (one other : Walking W Rule) (rules : List Rule) : Type 0 where
  pub stops : (walk : W) → one.stopped walk ≡ other.stopped walk
  pub deeds : All (λ rule. (walk : W) → one.stopped walk ≡ false → one.hits rule walk ≡ true → one.deed rule walk ≡ other.deed rule walk) rules

-- Two ways of walking, of which the one meets the optimised rules and the other the written ones. They act alike at the
-- written rules, and their surroundings agree on all that these name.
pub record StandBeside {W : Type 0} (on other : Walking W Rule) (view : W → Walk) (act : Effect → W → W) (around before : Around) (rules : List Rule) : Type 0 where
  pub walks : WalksRules on view act around
  pub others : WalksRules other view act before
  pub alike : ActAlike on other rules
  pub agree : AgreeOnDeclared around before

-- The walk through the optimised rules is that through the written ones, from every walk of any kind, where the automatic
-- tables have their entries.
abbrev pub KeepsWalks : {W : Type 0} → Walking W Rule → Walking W Rule → (W → Walk) → (Effect → W → W) → Around → Around → Level → List Rule → List ℕ → Type 0
KeepsWalks {W} on other view act around before level rules weights =
    length rules ≡ length weights → are_written rules ≡ true → StandBeside on other view act around before rules →
    StandFor around (optimised level rules weights).tables →
    (walk : W) → walked_through on (optimised level rules weights).rules walk ≡ walked_through other rules walk

-- what a rule that hits does to a packet's walk: an anchor rule anything, and every other rule the effect that its words name
abbrev pub ActsByEffect : (Rule → Walk → Walk) → Type 0
ActsByEffect deed =
    (rule : Rule) (walk : Walk) → is_anchor rule.effect.action ≡ false → deed rule walk ≡ effect_on rule.effect walk

-- The same of a packet's walk: whatever anchor rules do, and in every state of tables and interfaces in which the automatic
-- tables have their entries.
abbrev pub KeepsTheWalk : Level → List Rule → List ℕ → Type 0
KeepsTheWalk level rules weights =
    length rules ≡ length weights → are_written rules ≡ true →
    (deed : Rule → Walk → Walk) (around before : Around) → ActsByEffect deed → AgreeOnDeclared around before →
    StandFor around (optimised level rules weights).tables →
    (walk : Walk) → walked_by deed around (optimised level rules weights).rules walk ≡ walked_by deed before rules walk
