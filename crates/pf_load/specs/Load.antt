-- A load: the plan of a file, of the files that it includes and of those that it loads into anchors, or the first fault
-- (pfctl(8), `-f`; pf.conf(5), ANCHORS).
use Rattle.std.specs.Prelude.{◌≡◌, ℕ, List, [], ◌∷◌, Option, Some, None, Result, Ok, Err, slice_get}
use Rattle.std.specs.Option.{option_map}
use Rattle.pf_base.specs.declared.fault.FaultKind.{FaultKind}
use Rattle.pf_base.specs.declared.fault.FaultKind.TheVariants as kinds
use Rattle.pf_base.specs.declared.fault.Place.{Place}
use Rattle.pf_host.specs.Facts.{HostFacts}
use Rattle.pf_source.specs.Disk.{AreAbsent, Disk, without}
use Rattle.pf_token.specs.Macros.{Table, values_of}
use Rattle.pf_token.specs.declared.cell.Cell.{Cell}
use Rattle.pf_lexer.specs.Calls.{unread_by, unread_in}
use Rattle.pf_lexer.specs.ReadSoFar.{ReadSoFar}
use Rattle.pf_lexer.specs.Reads.{number_of}
use Rattle.pf_lexer.specs.Stages.{Stage}
use Rattle.pf_lexer.specs.Units.{Answer, Leads, Opens, start_in}
use Rattle.pf_lexer.specs.declared.deed.Statement.{Statement}
use Rattle.pf_lexer.specs.declared.fault.LexFault.{LexFault}
use Rattle.pf_lexer.specs.declared.fault.LexFault.TheVariants as lexical
use Rattle.pf_plan.specs.Anchors.{next_load, next_unit}
use Rattle.pf_plan.specs.Drafts.{begun_draft}
use Rattle.pf_plan.specs.Ends.{HasEndFault, plan_of}
use Rattle.pf_plan.specs.declared.draft.AnchorFile.{AnchorFile}
use Rattle.pf_plan.specs.declared.draft.Draft.{Draft}
use Rattle.pf_fault.specs.declared.fault.Fault.{Fault}
use Rattle.pf_fault.specs.declared.fault.Stop.{Stop}
use Rattle.pf_fault.specs.declared.fault.Stop.TheVariants as stops
use Rattle.pf_plan.specs.declared.plan.Plan.{Plan}
use Rattle.pf_load.specs.Statements.{StatementComes, stop_at}
use Rattle.pf_load.specs.declared.loading.LoadFault.{LoadFault}
use Rattle.pf_load.specs.declared.loading.LoadFault.TheVariants.{File, CannotRead, NoMemory}
use Rattle.pf_load.specs.declared.loading.LoadOptions.{LoadOptions}

-- what a load comes to: its plan, or why it has none
abbrev pub Outcome : Type 0
Outcome = Result Plan LoadFault

-- before a load nothing is read, and it may read this many bytes
abbrev pub nothing_read : ReadSoFar
nothing_read = record { names = []; left = 16777216 }

-- a lexical fault stops the load
abbrev pub stopped_by : LexFault → Stop
stopped_by (lexical.BadByte place) = stop_at kinds.BadByte place
stopped_by (lexical.Unterminated place) = stop_at kinds.Unterminated place
stopped_by (lexical.MacroUndefined place name) = stop_at (kinds.MacroUndefined name) place
stopped_by (lexical.MacroName place) = stop_at kinds.MacroName place
stopped_by (lexical.IncludeDepth place) = stop_at kinds.IncludeDepth place
stopped_by (lexical.TooLarge place) = stop_at kinds.TooLarge place
stopped_by (lexical.Syntax place) = stop_at kinds.Syntax place
stopped_by (lexical.CannotRead name) = stops.Unread name
stopped_by lexical.NoMemory = stops.NoMemory

-- a fault at a place, with the name of the file that the place names
abbrev pub told_at : List (List ℕ) → FaultKind → Place → Option LoadFault
told_at names kind place = option_map (λ name. File kind place name) (slice_get names place.file)

-- what stops a load, as it is told
abbrev pub told_of : List (List ℕ) → Stop → Option LoadFault
told_of names (stops.Fault fault) = told_at names fault.kind fault.place
told_of names (stops.Unread name) = Some (CannotRead name)
told_of names stops.NoMemory = None

abbrev pub outcome_of : List (List ℕ) → Result Plan Stop → Option Outcome
outcome_of names (Ok plan) = Some (Ok plan)
outcome_of names (Err stop) = option_map (λ fault. Err fault) (told_of names stop)

-- a unit as a whole: line 0 of its file
abbrev pub unit_at : List (List ℕ) → List ℕ → Place
unit_at names file = record { file = number_of names file; line = 0 }

-- How a load stands: in a unit, behind some of its statements, with what was read and the draft so far; or it is over.
pub data Turn : Type 0 where
  further : Stage → ReadSoFar → Draft → Turn
  over : ReadSoFar → Result Plan Stop → Turn

-- The first file of a unit is read, in which these macros stand for their values, and a ruleset is begun for it at this file's
-- line 0; or it isn't read. A file that can't be read isn't on the disk.
pub data Begins (disk : Disk) (values : Table) (file : List ℕ) (reads : ReadSoFar) (draft_at : Place → Draft) (turn : Turn) : Type 0 where
  begun : (cells : List Cell) (later : ReadSoFar)
      → Opens disk file reads (Ok cells) later
      → turn ≡ further (start_in values cells) later (draft_at (unit_at later.names file))
      → Begins disk values file reads draft_at turn
  unopened : (fault : LexFault) (later : ReadSoFar)
      → Opens disk file reads (Err fault) later
      → AreAbsent disk (unread_by fault)
      → turn ≡ over later (Err (stopped_by fault))
      → Begins disk values file reads draft_at turn

abbrev pub turn_of : Stage → ReadSoFar → Result Draft Stop → Turn
turn_of stage reads (Ok draft) = further stage reads draft
turn_of stage reads (Err stop) = over reads (Err stop)

-- at a statement, behind which the unit stands so
pub record AtStatement (disk : Disk) (facts : HostFacts) (statement : Statement) (next : Stage) (draft : Draft) (reads : ReadSoFar) (turn : Turn) : Type 0 where
  pub result : Result Draft Stop
  pub later : ReadSoFar
  pub comes : StatementComes disk facts statement draft reads result later
  pub gives : turn ≡ turn_of next later result

-- Behind the fault of a unit's end nothing is read. Behind a unit without one the next file is begun, in which the macros of the
-- options alone stand for something; behind the last one the plan is made.
abbrev pub GoesOn : Disk → LoadOptions → Draft → ReadSoFar → Option Fault → Option AnchorFile → Turn → Type 0
GoesOn disk options draft reads (Some fault) next turn = turn ≡ over reads (Err (stops.Fault fault))
GoesOn disk options draft reads None None turn = turn ≡ over reads (Ok (plan_of options.level draft))
GoesOn disk options draft reads None (Some next) turn = Begins disk (values_of options.defines) next.file reads (next_unit draft next.path) turn

-- at the end of a unit
pub record AtEnd (disk : Disk) (options : LoadOptions) (draft : Draft) (reads : ReadSoFar) (turn : Turn) : Type 0 where
  pub fault : Option Fault
  pub has : HasEndFault draft fault
  pub goes : GoesOn disk options draft reads fault (next_load draft) turn

-- where an answer of the lexer leads
abbrev pub Turns : Disk → HostFacts → LoadOptions → Answer → Stage → Draft → ReadSoFar → Turn → Type 0
Turns disk facts options (Ok (Some statement)) next draft reads turn = AtStatement disk facts statement next draft reads turn
Turns disk facts options (Ok None) next draft reads turn = AtEnd disk options draft reads turn
Turns disk facts options (Err fault) next draft reads turn = turn ≡ over reads (Err (stopped_by fault))

-- What a load comes to from where it stands: statement by statement and unit by unit, up to the end of the last unit or the first
-- fault. A file that can't be read isn't on the disk.
pub data LoadsOn (disk : Disk) (facts : HostFacts) (options : LoadOptions) : Turn → Outcome → Type 0 where
  ends : {reads : ReadSoFar} {last : Result Plan Stop} {outcome : Outcome}
      → outcome_of reads.names last ≡ Some outcome
      → LoadsOn disk facts options (over reads last) outcome
  goes_on : {stage next : Stage} {reads later : ReadSoFar} {answer : Answer} {draft : Draft} {turn : Turn} {outcome : Outcome}
      → Leads disk stage reads answer next later
      → AreAbsent disk (unread_in answer)
      → Turns disk facts options answer next draft later turn
      → LoadsOn disk facts options turn outcome
      → LoadsOn disk facts options (further stage reads draft) outcome

-- What the load of a file comes to over a disk, with these facts of the host: the file is the first unit.
pub record Loads (disk : Disk) (facts : HostFacts) (options : LoadOptions) (file : List ℕ) (outcome : Outcome) : Type 0 where
  pub turn : Turn
  pub begins : Begins disk (values_of options.defines) file nothing_read (begun_draft options.path) turn
  pub on : LoadsOn disk facts options turn outcome

-- A load comes to something: it can't be that nothing is what it comes to.
abbrev pub ComesToSomething : Disk → HostFacts → LoadOptions → List ℕ → Type 0
ComesToSomething disk facts options file = ((outcome : Outcome) → Loads disk facts options file outcome → ⊥) → ⊥

-- What a call may answer, by what comes over a disk. A file that can't be read is as if absent, and that for the whole
-- call: where a file is read twice and its second read fails, the answer is what comes over the disk without it, which is
-- that it can't be read at the first place already. Memory may be short.
abbrev pub MayBe : Disk → (Disk → Outcome → Type 0) → Outcome → Type 0
MayBe disk Comes (Ok plan) = Comes disk (Ok plan)
MayBe disk Comes (Err (File kind place name)) = Comes disk (Err (File kind place name))
MayBe disk Comes (Err (CannotRead name)) = Comes (without (Some name) disk) (Err (CannotRead name))
MayBe disk Comes (Err NoMemory) = Unit {0}

-- the name of the file that can't be read
abbrev pub unread_in_load : Outcome → List (List ℕ)
unread_in_load (Ok plan) = []
unread_in_load (Err (File kind place name)) = []
unread_in_load (Err (CannotRead name)) = name ∷ []
unread_in_load (Err NoMemory) = []

-- this fault, unless memory is short
abbrev pub Tells : Option LoadFault → LoadFault → Type 0
Tells told (File kind place name) = told ≡ Some (File kind place name)
Tells told (CannotRead name) = told ≡ Some (CannotRead name)
Tells told NoMemory = Unit {0}
