-- -g: a generated configuration is loaded into the empty machine, and generated records are answered (pfctl(8)).
use Rattle.std.specs.Prelude.{◌≡◌, ℕ, Bool, true, false, not, ◌&&◌, List, [], ◌∷◌, ◌++◌, length, codes, decimal, Result, Ok, Err}
use Rattle.std.specs.List.{filter}
use Rattle.pf_base.specs.declared.kind.Level.{Level}
use Rattle.pf_base.specs.declared.kind.Level.TheVariants as levels
use Rattle.pf_gen.specs.Texts.{records_of}
use Rattle.pf_genload.specs.Generated.{generated_disk}
use Rattle.pf_record.specs.Record.{IsReadAs}
use Rattle.pf_record.specs.declared.field.PacketFault.{PacketFault}
use Rattle.pf_rule.specs.declared.effect.Action.{Action}
use Rattle.pf_rule.specs.declared.effect.Action.TheVariants as actions
use Rattle.pf_rule.specs.declared.packet.Packet.{Packet}
use Rattle.pf_rule.specs.declared.walk.Answer.{Answer}
use Rattle.pf_runs.specs.Runs.{Stepped}
use Rattle.pf_engine.specs.Step.{step}
use Rattle.pf_engine.specs.TestLines.{asked}
use Rattle.pf_script.specs.Grammar.{level_word}
use Rattle.pf_state.specs.Machine.{empty_machine}
use Rattle.pf_state.specs.declared.machine.Machine.{Machine}
use Rattle.pf_state.specs.Rulesets.{count_rules}
use Rattle.pfctl.specs.declared.generating.Summary.{Summary}
use Rattle.pfctl.specs.declared.generating.Verdict.{Verdict}
use Rattle.pfctl.specs.declared.generating.Verdict.TheVariants.{Passed, Blocked}

abbrev pub is_pass : Action → Bool
is_pass actions.Pass = true
is_pass action = false

abbrev pub is_block : Action → Bool
is_block (actions.Block kind) = true
is_block action = false

-- an answer that lets the packet pass, and one that blocks it; on a skipped interface it does neither
abbrev pub passes : Answer → Bool
passes answer = not answer.skip && is_pass answer.decision.action

abbrev pub blocks : Answer → Bool
blocks answer = not answer.skip && is_block answer.decision.action

abbrev pub says : Verdict → Answer → Bool
says Passed answer = passes answer
says Blocked answer = blocks answer

-- a record that is a packet has such an answer of the machine
abbrev pub is_answered : (Answer → Bool) → Machine → Result Packet PacketFault → Bool
is_answered which machine (Ok packet) = which (asked machine packet)
is_answered which machine (Err fault) = false

-- one where it is so, else none
abbrev pub one_if : Bool → ℕ
one_if true = 1
one_if false = 0

-- what each of the records is read as
abbrev pub AreReadAs : List (List ℕ) → List (Result Packet PacketFault) → Type 0
AreReadAs [] [] = Unit {0}
AreReadAs (text ∷ texts) (read ∷ reads) = IsReadAs text read × AreReadAs texts reads
AreReadAs texts reads = ⊥

-- So many of these records have such an answer of the machine.
pub record Counted (which : Answer → Bool) (machine : Machine) (records : List (List ℕ)) (count : ℕ) : Type 0 where
  pub reads : List (Result Packet PacketFault)
  pub are : AreReadAs records reads
  pub is : count ≡ length (filter (is_answered which machine) reads)

-- the line that loads the generated configuration
abbrev pub load_line : Level → List ℕ
load_line level = codes "load -o " ++ level_word level ++ codes " generated"

-- The configuration of a number is loaded at this level into the empty machine, which is done. Behind it the machine has so many
-- rules as they are written, and lets so many of the records pass and blocks so many.
pub record Summed (number : ℕ) (level : Level) (summary : Summary) : Type 0 where
  pub loaded : Stepped Machine
  pub loads : step (generated_disk number) empty_machine (load_line level) loaded
  pub done : loaded.refused ≡ false
  pub rules : summary.rules ≡ count_rules loaded.machine.rulesets
  pub passed : Counted passes loaded.machine (records_of number) summary.pass
  pub blocked : Counted blocks loaded.machine (records_of number) summary.block

abbrev pub summary_line : ℕ → Summary → List ℕ
summary_line number summary =
    codes "gen " ++ decimal number ++ codes " rules=" ++ decimal summary.rules ++ codes " pass=" ++ decimal summary.pass ++ codes " block=" ++ decimal summary.block

-- what the run of a number comes to: the line of what it comes to at the level `basic`
pub record Generates (number : ℕ) (reply : List (List ℕ)) : Type 0 where
  pub summary : Summary
  pub sums : Summed number levels.Basic summary
  pub is : reply ≡ summary_line number summary ∷ []

-- whether a record has such an answer of the machine
pub record IsJudged (which : Answer → Bool) (machine : Machine) (record_text : List ℕ) (is : Bool) : Type 0 where
  pub read : Result Packet PacketFault
  pub reads : IsReadAs record_text read
  pub judged : is ≡ is_answered which machine read
