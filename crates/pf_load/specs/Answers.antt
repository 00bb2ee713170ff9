-- What the calls of a load may answer: what comes over the disk; a file that can't be read is as if absent, and that for the whole
-- call; memory may be short.
use Rattle.std.specs.Prelude.{◌≡◌, ℕ, ◌+◌, ◌-◌, ◌*◌, ◌^◌, ◌<◌, ◌≤◌, Bool, true, List, length, Result, Ok, Err, Some}
use Rattle.pf_base.specs.declared.fault.Place.{Place}
use Rattle.pf_decl.specs.declared.form.Decl.{Decl}
use Rattle.pf_decl.specs.declared.form.Decl.TheVariants as decls
use Rattle.pf_decl.specs.declared.form.TableForm.{TableForm}
use Rattle.pf_host.specs.Facts.{HostFacts}
use Rattle.pf_lexer.specs.ReadSoFar.{ReadSoFar}
use Rattle.pf_lexer.specs.declared.deed.Statement.{Statement}
use Rattle.pf_plan.specs.Drafts.{is_in_body}
use Rattle.pf_entries.specs.Tables.{has_words}
use Rattle.pf_plan.specs.declared.draft.Draft.{Draft}
use Rattle.pf_fault.specs.declared.fault.Stop.{Stop}
use Rattle.pf_fault.specs.declared.fault.Stop.TheVariants as stops
use Rattle.pf_source.specs.Disk.{AreAbsent, Disk, without}
use Rattle.pf_token.specs.declared.token.Token.{Token}
use Rattle.pf_plan.specs.Numbered.{PlacesWithin}
use Rattle.pf_plan.specs.declared.plan.Plan.{Plan}
use Rattle.pf_token.specs.Macros.{Table}
use Rattle.pf_lexer.specs.Calls.{IsGoing, unread_in as lexer_unread}
use Rattle.pf_lexer.specs.Going.{stage_weight}
use Rattle.pf_lexer.specs.Stages.{LexerState, Stage}
use Rattle.pf_lexer.specs.Units.{Answer, Leads}
use Rattle.pf_load.specs.Load.{AtEnd, Begins, Loads, LoadsOn, Outcome, Turn, Turns, further, outcome_of, over, unit_at}
use Rattle.pf_load.specs.declared.loading.LoadFault.TheVariants.{CannotRead}
use Rattle.pf_load.specs.declared.loading.LoadOptions.{LoadOptions}
use Rattle.pf_load.specs.declared.loading.Next.{Next}
use Rattle.pf_load.specs.declared.loading.Next.TheVariants.{Reading, Finished}
use Rattle.pf_load.specs.Statements.{DeclComes, DeclStands, StatementComes, TableStands}

-- What comes over a disk: an answer, and what was read then. A file that can't be read is named, whatever was read before it.
pub record Somewhere (Comes : Disk → Result Draft Stop → ReadSoFar → Type 0) (disk : Disk) (result : Result Draft Stop) : Type 0 where
  pub at : ReadSoFar
  pub comes : Comes disk result at

abbrev pub May : (Disk → Result Draft Stop → ReadSoFar → Type 0) → Disk → Result Draft Stop → ReadSoFar → Type 0
May Comes disk (Ok draft) later = Comes disk (Ok draft) later
May Comes disk (Err (stops.Fault fault)) later = Comes disk (Err (stops.Fault fault)) later
May Comes disk (Err (stops.Unread name)) later = Somewhere Comes (without (Some name) disk) (Err (stops.Unread name))
May Comes disk (Err stops.NoMemory) later = Unit {0}

abbrev pub TableMay : Disk → HostFacts → Draft → TableForm → Place → ReadSoFar → Result Draft Stop → ReadSoFar → Type 0
TableMay disk facts draft form place reads result later =
    May (λ d. TableStands d facts draft form place reads (is_in_body draft)) disk result later

-- the words of a table have bytes
abbrev pub DeclHasWords : Decl → Type 0
DeclHasWords (decls.Table form) = has_words form ≡ true
DeclHasWords (decls.Set lines) = Unit {0}
DeclHasWords (decls.Queue queue) = Unit {0}

abbrev pub DeclStandsMay : Disk → HostFacts → Draft → Place → ReadSoFar → Decl → Result Draft Stop → ReadSoFar → Type 0
DeclStandsMay disk facts draft place reads decl result later = May (λ d. DeclStands d facts draft place reads decl) disk result later

abbrev pub DeclMay : Disk → HostFacts → List Token → Bool → Draft → ReadSoFar → Result Draft Stop → ReadSoFar → Type 0
DeclMay disk facts tokens body draft reads result later = May (λ d. DeclComes d facts tokens body draft reads) disk result later

abbrev pub StatementMay : Disk → HostFacts → Statement → Draft → ReadSoFar → Result Draft Stop → ReadSoFar → Type 0
StatementMay disk facts statement draft reads result later = May (λ d. StatementComes d facts statement draft reads) disk result later

-- what a load comes to from where it stands: a fault is told with the name of its file
abbrev pub LoadMay : Disk → HostFacts → LoadOptions → Turn → Result Plan Stop → ReadSoFar → Type 0
LoadMay disk facts options turn (Ok plan) later = LoadsOn disk facts options turn (Ok plan)
LoadMay disk facts options turn (Err (stops.Fault fault)) later =
    (outcome : Outcome) → outcome_of later.names (Err (stops.Fault fault)) ≡ Some outcome → LoadsOn disk facts options turn outcome
LoadMay disk facts options turn (Err (stops.Unread name)) later = LoadsOn (without (Some name) disk) facts options turn (Err (CannotRead name))
LoadMay disk facts options turn (Err stops.NoMemory) later = Unit {0}

-- how a load stands where a call went on so
abbrev pub turn_in : ReadSoFar → Next → Turn
turn_in later (Reading lexer draft) = further lexer.stage later draft
turn_in later (Finished plan) = over later (Ok plan)

-- the end of a unit: a file that can't be read is as if absent, and memory may be short
abbrev pub EndMay : Disk → LoadOptions → Draft → ReadSoFar → Result Next Stop → ReadSoFar → Type 0
EndMay disk options draft reads (Ok next) later = AtEnd disk options draft reads (turn_in later next)
EndMay disk options draft reads (Err (stops.Fault fault)) later = AtEnd disk options draft reads (over later (Err (stops.Fault fault)))
EndMay disk options draft reads (Err (stops.Unread name)) later = AtEnd (without (Some name) disk) options draft reads (over later (Err (stops.Unread name)))
EndMay disk options draft reads (Err stops.NoMemory) later = Unit {0}

-- the begin of a unit: the same
abbrev pub UnitMay : Disk → Table → List ℕ → ReadSoFar → (Place → Draft) → Result LexerState Stop → ReadSoFar → Type 0
UnitMay disk values file reads draft_at (Ok lexer) later = Begins disk values file reads draft_at (further lexer.stage later (draft_at (unit_at later.names file)))
UnitMay disk values file reads draft_at (Err (stops.Fault fault)) later = Begins disk values file reads draft_at (over later (Err (stops.Fault fault)))
UnitMay disk values file reads draft_at (Err (stops.Unread name)) later = Begins (without (Some name) disk) values file reads draft_at (over later (Err (stops.Unread name)))
UnitMay disk values file reads draft_at (Err stops.NoMemory) later = Unit {0}

-- how many files of `load anchor` are still to be read
abbrev pub files_left : Draft → ℕ
files_left draft = length draft.loads - draft.begun

-- a statement leaves at most one file more to be read
pub record AwaitsMore (old new : Draft) : Type 0 where
  pub more : length new.loads ≤ length old.loads + 1
  pub same : new.begun ≡ old.begun

-- what is true of a lexer that was begun, and of the draft of its unit
pub record IsReady (lexer : LexerState) (draft : Draft) (reads : ReadSoFar) : Type 0 where
  pub known : lexer.known ≤ length reads.names
  pub goes : IsGoing lexer.stage
  pub places : PlacesWithin (length reads.names) draft

abbrev pub IfReady : Next → ReadSoFar → Type 0
IfReady (Reading lexer draft) reads = IsReady lexer draft reads
IfReady (Finished plan) reads = Unit {0}

-- a unit weighs no more than what might be read, and one file less is still to be read
pub record IsLighter (old new : Draft) (stage : Stage) (reads later : ReadSoFar) : Type 0 where
  pub weight : stage_weight stage later ≤ 2 ^ 65 * reads.left
  pub fewer : files_left new < files_left old

abbrev pub IfLighter : Draft → Next → ReadSoFar → ReadSoFar → Type 0
IfLighter old (Reading lexer draft) reads later = IsLighter old draft lexer.stage reads later
IfLighter old (Finished plan) reads later = Unit {0}

-- a load as a whole
abbrev pub UnitsMay : Disk → HostFacts → LoadOptions → List ℕ → Result Plan Stop → ReadSoFar → Type 0
UnitsMay disk facts options file (Ok plan) later = Loads disk facts options file (Ok plan)
UnitsMay disk facts options file (Err (stops.Fault fault)) later =
    (outcome : Outcome) → outcome_of later.names (Err (stops.Fault fault)) ≡ Some outcome → Loads disk facts options file outcome
UnitsMay disk facts options file (Err (stops.Unread name)) later = Loads (without (Some name) disk) facts options file (Err (CannotRead name))
UnitsMay disk facts options file (Err stops.NoMemory) later = Unit {0}

-- One turn of a load: an answer of the lexer, and where it leads.
pub record Goes (disk : Disk) (facts : HostFacts) (options : LoadOptions) (stage : Stage) (reads : ReadSoFar) (draft : Draft) (turn : Turn) : Type 0 where
  pub answer : Answer
  pub next : Stage
  pub later : ReadSoFar
  pub leads : Leads disk stage reads answer next later
  pub absent : AreAbsent disk (lexer_unread answer)
  pub turns : Turns disk facts options answer next draft later turn

-- a turn: a file that can't be read is as if absent, and memory may be short
abbrev pub TurnMay : Disk → HostFacts → LoadOptions → Stage → ReadSoFar → Draft → Result Next Stop → ReadSoFar → Type 0
TurnMay disk facts options stage reads draft (Ok next) later = Goes disk facts options stage reads draft (turn_in later next)
TurnMay disk facts options stage reads draft (Err (stops.Fault fault)) later = Goes disk facts options stage reads draft (over later (Err (stops.Fault fault)))
TurnMay disk facts options stage reads draft (Err (stops.Unread name)) later = LoadsOn (without (Some name) disk) facts options (further stage reads draft) (Err (CannotRead name))
TurnMay disk facts options stage reads draft (Err stops.NoMemory) later = Unit {0}

-- where a load goes on behind a statement
abbrev pub next_of : LexerState → Result Draft Stop → Result Next Stop
next_of lexer (Ok draft) = Ok (Reading lexer draft)
next_of lexer (Err stop) = Err stop

-- how much a load has left to do: a statement makes its unit lighter and leaves at most one file more to be read
abbrev pub work_left : Stage → ReadSoFar → Draft → ℕ
work_left stage reads draft = 2 * stage_weight stage reads + files_left draft

abbrev pub IfLess : ℕ → Next → ReadSoFar → Type 0
IfLess work (Reading lexer draft) reads = work_left lexer.stage reads draft < work
IfLess work (Finished plan) reads = Unit {0}
