-- The lines that load a file: `load`, `check` and `open` (pfctl(8), -f, -n; pf(4), DIOCXBEGIN). The profile is read first, then
-- the file with all that it includes; what they come to may be put in place, or has a refusal.
use Rattle.std.specs.Prelude.{◌≡◌, ℕ, nat_lt, Bool, true, false, List, [], length, Option, Some, None, Result, Ok, Err}
use Rattle.std.specs.List.{sum_by}
use Rattle.pf_host.specs.Facts.{HostFacts}
use Rattle.pf_load.specs.Load.{Loads, Outcome}
use Rattle.pf_load.specs.declared.loading.LoadFault.{LoadFault}
use Rattle.pf_load.specs.declared.loading.LoadFault.TheVariants.{File, CannotRead, NoMemory}
use Rattle.pf_load.specs.declared.loading.LoadOptions.{LoadOptions}
use Rattle.pf_optim.specs.Profile.{IsFaultAt, IsProfileText}
use Rattle.pf_optim.specs.declared.rows.Row.{Row}
use Rattle.pf_plan.specs.declared.plan.Plan.{Plan}
use Rattle.pf_reply.specs.declared.refusal.Refusal.{Refusal}
use Rattle.pf_reply.specs.declared.refusal.Refusal.TheVariants as refusals
use Rattle.pf_reply.specs.declared.reply.Filled.{Filled}
use Rattle.pf_reply.specs.declared.reply.Reply.TheVariants.{Loaded, Checked, Opened}
use Rattle.pf_runs.specs.Runs.{Stepped}
use Rattle.pf_script.specs.declared.command.LoadLine.{LoadLine}
use Rattle.pf_source.specs.Disk.{Disk}
use Rattle.pf_state.specs.Commits.{loaded, ready_of}
use Rattle.pf_state.specs.Judging.{LoadJudged}
use Rattle.pf_state.specs.Limits.{planned_rules}
use Rattle.pf_state.specs.Sessions.{entry_refusal, open_refusal, opened}
use Rattle.pf_state.specs.declared.machine.Machine.{Machine}
use Rattle.pf_state.specs.declared.ready.Ready.{Ready}
use Rattle.pf_state.specs.declared.ready.Staged.{Staged}
use Rattle.pf_engine.specs.Steps.{done_unless, refused}

-- a profile, a facts file or a file of rules has at most so many bytes
abbrev pub most_bytes : ℕ
most_bytes = 4194304

-- what the text of a profile comes to: its rows, or its first line that is outside the form
abbrev pub ProfileSays : List ℕ → Result (List Row) Refusal → Type 0
ProfileSays text (Ok rows) = IsProfileText text rows
ProfileSays text (Err (refusals.ProfileFault line)) = IsFaultAt text line
ProfileSays text (Err refusal) = ⊥

-- the same of a text that may be too large; line 0 stands for the whole file
abbrev pub ProfileSized : Bool → List ℕ → Result (List Row) Refusal → Type 0
ProfileSized true text answer = answer ≡ Err (refusals.ProfileFault 0)
ProfileSized false text answer = ProfileSays text answer

-- what a file comes to that may be absent
abbrev pub ProfileIn : List ℕ → Option (List ℕ) → Result (List Row) Refusal → Type 0
ProfileIn name None answer = answer ≡ Err (refusals.CannotRead name)
ProfileIn name (Some text) answer = ProfileSized (nat_lt most_bytes (length text)) text answer

-- without a profile no row tells of anything
abbrev pub ProfileReads : Disk → Option (List ℕ) → Result (List Row) Refusal → Type 0
ProfileReads disk None answer = answer ≡ Ok []
ProfileReads disk (Some name) answer = ProfileIn name (disk name) answer

-- how the line says that the file is loaded
abbrev pub options_of : LoadLine → LoadOptions
options_of line = record { level = line.level; path = line.path; defines = line.defines }

-- what a load comes to, with the rows of a profile; want of memory is nothing that it comes to over a disk
abbrev pub ready_by : List Row → Outcome → Option (Result Ready Refusal)
ready_by rows (Ok plan) = Some (Ok (ready_of rows plan))
ready_by rows (Err (File kind place name)) = Some (Err (refusals.LoadFault kind name place.line))
ready_by rows (Err (CannotRead name)) = Some (Err (refusals.CannotRead name))
ready_by rows (Err NoMemory) = None

pub record FileComes (disk : Disk) (facts : HostFacts) (options : LoadOptions) (file : List ℕ) (rows : List Row) (answer : Result Ready Refusal) : Type 0 where
  pub outcome : Outcome
  pub loads : Loads disk facts options file outcome
  pub is : ready_by rows outcome ≡ Some answer

-- a refusal of the profile comes first, and then no other file is read
abbrev pub ComesBehind : Disk → HostFacts → LoadLine → Result (List Row) Refusal → Result Ready Refusal → Type 0
ComesBehind disk facts line (Err refusal) answer = answer ≡ Err refusal
ComesBehind disk facts line (Ok rows) answer = FileComes disk facts (options_of line) line.file rows answer

-- what the files of the line come to
pub record LineComes (disk : Disk) (facts : HostFacts) (line : LoadLine) (answer : Result Ready Refusal) : Type 0 where
  pub profile : Result (List Row) Refusal
  pub reads : ProfileReads disk line.profile profile
  pub comes : ComesBehind disk facts line profile answer

-- how much a plan fills: rulesets, rules as they are written, and declared tables
abbrev pub filled_of : Ready → Filled
filled_of ready = record {
  rulesets = length ready.parts;
  rules = planned_rules ready;
  tables = sum_by (λ (part : Staged). length part.tables) ready.parts;
}

-- `load`: the plan is put in place, unless the tree as it would stand then has a refusal
pub record PutsInPlace (machine : Machine) (ready : Ready) (does : Stepped Machine) : Type 0 where
  pub refusal : Option Refusal
  pub judged : LoadJudged machine ready refusal
  pub is : does ≡ done_unless refusal machine (loaded ready machine) (Loaded (filled_of ready))

abbrev pub Loading : Machine → Result Ready Refusal → Stepped Machine → Type 0
Loading machine (Err refusal) does = does ≡ refused machine refusal
Loading machine (Ok ready) does = PutsInPlace machine ready does

pub record LoadDoes (disk : Disk) (machine : Machine) (line : LoadLine) (does : Stepped Machine) : Type 0 where
  pub answer : Result Ready Refusal
  pub comes : LineComes disk machine.facts line answer
  pub loading : Loading machine answer does

-- `check`: the same refusals, and nothing changes
pub record PutsNothing (machine : Machine) (ready : Ready) (does : Stepped Machine) : Type 0 where
  pub refusal : Option Refusal
  pub judged : LoadJudged machine ready refusal
  pub is : does ≡ done_unless refusal machine machine (Checked (filled_of ready))

abbrev pub Checking : Machine → Result Ready Refusal → Stepped Machine → Type 0
Checking machine (Err refusal) does = does ≡ refused machine refusal
Checking machine (Ok ready) does = PutsNothing machine ready does

pub record CheckDoes (disk : Disk) (machine : Machine) (line : LoadLine) (does : Stepped Machine) : Type 0 where
  pub answer : Result Ready Refusal
  pub comes : LineComes disk machine.facts line answer
  pub checking : Checking machine answer does

-- `open`: the plan is kept for its commit, with a ticket for its rulesets
abbrev pub Opening : Machine → List ℕ → Result Ready Refusal → Stepped Machine → Type 0
Opening machine name (Err refusal) does = does ≡ refused machine refusal
Opening machine name (Ok ready) does = does ≡ done_unless (open_refusal machine ready) machine (opened name ready machine) (Opened name machine.next)

pub record OpensWith (disk : Disk) (machine : Machine) (name : List ℕ) (line : LoadLine) (does : Stepped Machine) : Type 0 where
  pub answer : Result Ready Refusal
  pub comes : LineComes disk machine.facts line answer
  pub opening : Opening machine name answer does

-- where a session of the name is open, or as many as may be, no file is read
abbrev pub OpenBehind : Option Refusal → Disk → Machine → List ℕ → LoadLine → Stepped Machine → Type 0
OpenBehind (Some refusal) disk machine name line does = does ≡ refused machine refusal
OpenBehind None disk machine name line does = OpensWith disk machine name line does

abbrev pub OpenDoes : Disk → Machine → List ℕ → LoadLine → Stepped Machine → Type 0
OpenDoes disk machine name line does = OpenBehind (entry_refusal machine name) disk machine name line does
