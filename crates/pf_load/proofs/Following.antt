-- A load goes on from statement to statement and from unit to unit.
use Rattle.std.proofs.Common.{◌≡◌, ℕ, List, [], ◌∷◌, Option, Some, None, Result, Ok, Err, refl, inl, inr}
use Rattle.pf_host.specs.Facts.{HostFacts}
use Rattle.pf_source.specs.Disk.{AreAbsent, Disk, without}
use Rattle.pf_source.specs.DiskLaws.{is_absent}
use Rattle.pf_lexer.specs.Calls.{StopsWith, unread_by, unread_in}
use Rattle.pf_lexer.specs.Outages.{LeadsWithout, StopsAt}
use Rattle.pf_lexer.specs.ReadSoFar.{ReadSoFar}
use Rattle.pf_lexer.specs.Stages.{LexerState, Stage}
use Rattle.pf_lexer.specs.Units.{Answer, Leads}
use Rattle.pf_lexer.specs.declared.deed.Statement.{Statement}
use Rattle.pf_lexer.specs.declared.fault.LexFault.{LexFault}
use Rattle.pf_lexer.specs.declared.fault.LexFault.TheVariants as lexical
use Rattle.pf_plan.specs.declared.draft.Draft.{Draft}
use Rattle.pf_fault.specs.declared.fault.Fault.{Fault}
use Rattle.pf_fault.specs.declared.fault.Stop.{Stop}
use Rattle.pf_fault.specs.declared.fault.Stop.TheVariants as stops
use Rattle.pf_plan.specs.declared.plan.Plan.{Plan}
use Rattle.pf_load.specs.Answers.{EndMay, Goes, LoadMay, StatementMay, TurnMay, next_of}
use Rattle.pf_load.specs.Load.{LoadsOn, Outcome, Turn, Turns, ends, further, goes_on, over, stopped_by}
use Rattle.pf_load.specs.Statements.{StatementComes}
use Rattle.pf_load.specs.declared.loading.LoadFault.TheVariants.{CannotRead}
use Rattle.pf_load.specs.declared.loading.LoadOptions.{LoadOptions}
use Rattle.pf_load.specs.declared.loading.Next.{Next}
use Rattle.pf_load.specs.declared.loading.Next.TheVariants.{Reading, Finished}
use Rattle.pf_load.proofs.Losing.{OpenWithout, TurnLost, stay_absent, turns_without}
use Rattle.pf_load.proofs.OneStatement.{TablesWithout}

-- the lexer's law: without one file the same comes next, or that file can't be read
abbrev pub LeadWithout : Type 0
LeadWithout = (disk : Disk) (gone : List ℕ) (stage next : Stage) (reads later : ReadSoFar) (answer : Answer) → Leads disk stage reads answer next later → LeadsWithout disk gone stage reads answer next later

-- What holds behind some turns: what the rest comes to is what the whole comes to. The same without any one file, where the rest is
-- that it can't be read.
pub record SoFar (disk : Disk) (facts : HostFacts) (options : LoadOptions) (start turn : Turn) : Type 0 where
  pub on : (outcome : Outcome) → LoadsOn disk facts options turn outcome → LoadsOn disk facts options start outcome
  pub lost : (name : List ℕ) → LoadsOn (without (Some name) disk) facts options turn (Err (CannotRead name)) → LoadsOn (without (Some name) disk) facts options start (Err (CannotRead name))

pub nothing_so_far : (disk : Disk) (facts : HostFacts) (options : LoadOptions) (start : Turn) → SoFar disk facts options start start
nothing_so_far disk facts options start = record { on = λ outcome h. h; lost = λ name h. h }

lost_here : (disk : Disk) (facts : HostFacts) (options : LoadOptions) (name : List ℕ) (stage : Stage) (reads : ReadSoFar) (draft : Draft) → StopsAt disk name stage reads
    → LoadsOn (without (Some name) disk) facts options (further stage reads draft) (Err (CannotRead name))
lost_here disk facts options name stage reads draft h = goes_on h.leads (is_absent disk name, tt) refl (ends refl)

-- one turn, from what its calls answer
module _ (law : LeadWithout) (disk : Disk) (facts : HostFacts) (options : LoadOptions) (stage : Stage) (reads : ReadSoFar) (draft : Draft) where
  -- a turn that is lost without that file
  lose : (next : Stage) (later latest : ReadSoFar) (answer : Answer) (name : List ℕ) → Leads disk stage reads answer next later → AreAbsent disk (unread_in answer)
      → Turns (without (Some name) disk) facts options answer next draft later (over latest (Err (stops.Unread name))) → LoadsOn (without (Some name) disk) facts options (further stage reads draft) (Err (CannotRead name))
  lose next later latest answer name leads absent turns = elim (law disk name stage next reads later answer leads) [
    | inl same ↦ goes_on same (stay_absent disk name (unread_in answer) absent) turns (ends refl)
    | inr gone ↦ lost_here disk facts options name stage reads draft gone
  ]

  stopped_at : (next : Stage) (later latest : ReadSoFar) (said : Statement) (stop : Stop) → Leads disk stage reads (Ok (Some said)) next later → StatementMay disk facts said draft later (Err stop) latest
      → TurnMay disk facts options stage reads draft (Err stop) latest
  stopped_at next later latest said (stops.Fault fault) leads comes =
      record { answer = Ok (Some said); next = next; later = later; leads = leads; absent = tt; turns = record { result = Err (stops.Fault fault); later = latest; comes = comes; gives = refl } }
  stopped_at next later latest said (stops.Unread name) leads comes =
      lose next later comes.at (Ok (Some said)) name leads tt (record { result = Err (stops.Unread name); later = comes.at; comes = comes.comes; gives = refl })
  stopped_at next later latest said stops.NoMemory leads comes = tt

  -- behind a statement
  pub at_statement : (lexer : LexerState) (later latest : ReadSoFar) (said : Statement) (taken : Result Draft Stop) → Leads disk stage reads (Ok (Some said)) lexer.stage later → StatementMay disk facts said draft later taken latest
      → TurnMay disk facts options stage reads draft (next_of lexer taken) latest
  at_statement lexer later latest said (Ok new) leads comes =
      record { answer = Ok (Some said); next = lexer.stage; later = later; leads = leads; absent = tt; turns = record { result = Ok new; later = latest; comes = comes; gives = refl } }
  at_statement lexer later latest said (Err stop) leads comes = stopped_at lexer.stage later latest said stop leads comes

  -- at the end of a unit
  pub at_end : (next : Stage) (later latest : ReadSoFar) (result : Result Next Stop) → Leads disk stage reads (Ok None) next later → EndMay disk options draft later result latest
      → TurnMay disk facts options stage reads draft result latest
  at_end next later latest (Ok behind) leads comes = record { answer = Ok None; next = next; later = later; leads = leads; absent = tt; turns = comes }
  at_end next later latest (Err (stops.Fault fault)) leads comes = record { answer = Ok None; next = next; later = later; leads = leads; absent = tt; turns = comes }
  at_end next later latest (Err (stops.Unread name)) leads comes = lose next later latest (Ok None) name leads tt comes
  at_end next later latest (Err stops.NoMemory) leads comes = tt

  at_fault_told : (next : Stage) (later : ReadSoFar) (fault : LexFault) → AreAbsent disk (unread_by fault) → Leads disk stage reads (Err fault) next later → Goes disk facts options stage reads draft (over later (Err (stopped_by fault)))
  at_fault_told next later fault absent leads = record { answer = Err fault; next = next; later = later; leads = leads; absent = absent; turns = refl }

  -- at a fault of the lexer
  pub at_fault : (next : Stage) (later : ReadSoFar) (fault : LexFault) → StopsWith disk stage reads fault next later → TurnMay disk facts options stage reads draft (Err (stopped_by fault)) later
  at_fault next later (lexical.BadByte place) leads = at_fault_told next later (lexical.BadByte place) tt leads
  at_fault next later (lexical.Unterminated place) leads = at_fault_told next later (lexical.Unterminated place) tt leads
  at_fault next later (lexical.MacroUndefined place name) leads = at_fault_told next later (lexical.MacroUndefined place name) tt leads
  at_fault next later (lexical.MacroName place) leads = at_fault_told next later (lexical.MacroName place) tt leads
  at_fault next later (lexical.IncludeDepth place) leads = at_fault_told next later (lexical.IncludeDepth place) tt leads
  at_fault next later (lexical.TooLarge place) leads = at_fault_told next later (lexical.TooLarge place) tt leads
  at_fault next later (lexical.Syntax place) leads = at_fault_told next later (lexical.Syntax place) tt leads
  at_fault next later (lexical.CannotRead name) leads = elim (law disk name stage next reads later (Err (lexical.CannotRead name)) leads) [
    | inl same ↦ goes_on same (is_absent disk name, tt) refl (ends refl)
    | inr gone ↦ lost_here disk facts options name stage reads draft gone
  ]
  at_fault next later lexical.NoMemory leads = tt

-- turn by turn
module _ (law : LeadWithout) (opens : OpenWithout) (tables : TablesWithout) (disk : Disk) (facts : HostFacts) (options : LoadOptions) (start : Turn) where
  -- one more turn
  one_more : (stage : Stage) (reads : ReadSoFar) (draft : Draft) (turn : Turn) → SoFar disk facts options start (further stage reads draft) → Goes disk facts options stage reads draft turn → SoFar disk facts options start turn
  one_more stage reads draft turn h goes = record {
    on = λ outcome k. h.on outcome (goes_on goes.leads goes.absent goes.turns k);
    lost = λ name k. h.lost name (elim (law disk name stage goes.next reads goes.later goes.answer goes.leads) [
      | inl same ↦ elim (turns_without opens disk name options tables facts goes.answer goes.next draft goes.later turn goes.turns) [
        | inl kept ↦ goes_on same (stay_absent disk name (unread_in goes.answer) goes.absent) kept k
        | inr lost ↦ goes_on same (stay_absent disk name (unread_in goes.answer) goes.absent) lost.gives (ends refl)
      ]
      | inr gone ↦ lost_here disk facts options name stage reads draft gone
    ]);
  }

  -- the load goes on
  pub goes_further : (stage : Stage) (reads later : ReadSoFar) (draft : Draft) (lexer : LexerState) (new : Draft) → SoFar disk facts options start (further stage reads draft)
      → TurnMay disk facts options stage reads draft (Ok (Reading lexer new)) later → SoFar disk facts options start (further lexer.stage later new)
  goes_further stage reads later draft lexer new h goes = one_more stage reads draft (further lexer.stage later new) h goes

  -- its last unit ended
  pub finishes : (stage : Stage) (reads later : ReadSoFar) (draft : Draft) (plan : Plan) → SoFar disk facts options start (further stage reads draft)
      → TurnMay disk facts options stage reads draft (Ok (Finished plan)) later → LoadMay disk facts options start (Ok plan) later
  finishes stage reads later draft plan h goes = (one_more stage reads draft (over later (Ok plan)) h goes).on (Ok plan) (ends refl)

  -- it is stopped
  pub stops_with : (stage : Stage) (reads later : ReadSoFar) (draft : Draft) (stop : Stop) → SoFar disk facts options start (further stage reads draft)
      → TurnMay disk facts options stage reads draft (Err stop) later → LoadMay disk facts options start (Err stop) later
  stops_with stage reads later draft (stops.Fault fault) h goes = λ outcome is. (one_more stage reads draft (over later (Err (stops.Fault fault))) h goes).on outcome (ends is)
  stops_with stage reads later draft (stops.Unread name) h goes = h.lost name goes
  stops_with stage reads later draft stops.NoMemory h goes = tt
