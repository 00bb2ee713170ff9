-- A unit from its beginning, a load from its first unit, and what stops it as it is told.
use Rattle.std.proofs.Common.{◌≡◌, ℕ, List, Option, Some, None, Result, Ok, Err, refl, sym, ap, subst, ◌∙◌, inl, inr}
use Rattle.std.specs.Prelude.{slice_get}
use Rattle.std.specs.Option.{option_map}
use Rattle.pf_base.specs.declared.fault.FaultKind.{FaultKind}
use Rattle.pf_base.specs.declared.fault.Place.{Place}
use Rattle.pf_host.specs.Facts.{HostFacts}
use Rattle.pf_source.specs.Disk.{Disk, without}
use Rattle.pf_source.specs.DiskLaws.{is_absent}
use Rattle.pf_token.specs.Macros.{Table, values_of}
use Rattle.pf_token.specs.declared.cell.Cell.{Cell}
use Rattle.pf_lexer.specs.Calls.{IsUnopened}
use Rattle.pf_lexer.specs.ReadSoFar.{ReadSoFar}
use Rattle.pf_lexer.specs.Stages.{LexerState, Stage}
use Rattle.pf_lexer.specs.Units as lexer
use Rattle.pf_lexer.specs.Units.{unread}
use Rattle.pf_lexer.specs.declared.fault.LexFault.{LexFault}
use Rattle.pf_lexer.specs.declared.fault.LexFault.TheVariants as lexical
use Rattle.pf_plan.specs.Anchors.{next_load, next_unit}
use Rattle.pf_plan.specs.Drafts.{begun_draft}
use Rattle.pf_plan.specs.Ends.{HasEndFault}
use Rattle.pf_plan.specs.declared.draft.AnchorFile.{AnchorFile}
use Rattle.pf_plan.specs.declared.draft.Draft.{Draft}
use Rattle.pf_fault.specs.declared.fault.Stop.{Stop}
use Rattle.pf_fault.specs.declared.fault.Stop.TheVariants as stops
use Rattle.pf_plan.specs.declared.plan.Plan.{Plan}
use Rattle.pf_load.specs.Answers.{EndMay, LoadMay, UnitMay, UnitsMay}
use Rattle.pf_load.specs.Load.{AtEnd, Begins, GoesOn, Loads, LoadsOn, MayBe, Outcome, Tells, Turn, begun, ends, further, nothing_read, outcome_of, over, stopped_by, told_at, told_of, unit_at, unopened}
use Rattle.pf_load.specs.declared.loading.LoadFault.{LoadFault}
use Rattle.pf_load.specs.declared.loading.LoadFault.TheVariants.{File, CannotRead, NoMemory}
use Rattle.pf_load.specs.declared.loading.LoadOptions.{LoadOptions}
use Rattle.pf_load.specs.declared.loading.Next.TheVariants.{Reading}
use Rattle.pf_load.proofs.Losing.{OpenWithout, begins_without}

-- a unit whose first file was read
pub unit_begun : (disk : Disk) (values : Table) (file : List ℕ) (reads later : ReadSoFar) (state : LexerState) → lexer.Begins disk values file reads state.stage later
    → (draft_at : Place → Draft) → UnitMay disk values file reads draft_at (Ok state) later
unit_begun disk values file reads later state h draft_at = begun h.cells later h.opens (ap (λ (s : Stage). further s later (draft_at (unit_at later.names file))) h.starts)

unread_again : (disk other : Disk) (name file : List ℕ) {reads later : ReadSoFar} {found : Result (List Cell) LexFault} → lexer.Opens disk file reads found later → found ≡ Err (lexical.CannotRead name)
    → lexer.Opens other name reads (Err (lexical.CannotRead name)) later
unread_again disk other name file (lexer.opened is) e = absurd cc
unread_again disk other name file (lexer.large is) e = absurd cc
unread_again disk other name file unread e = unread

-- and one whose first file wasn't
pub unit_unopened : (disk : Disk) (values : Table) (file : List ℕ) (reads later : ReadSoFar) (fault : LexFault) → IsUnopened disk file reads fault later
    → ((other : List ℕ) → fault ≡ lexical.CannotRead other → file ≡ other)
    → (draft_at : Place → Draft) → UnitMay disk values file reads draft_at (Err (stopped_by fault)) later
unit_unopened disk values file reads later (lexical.BadByte place) h asked draft_at = unopened (lexical.BadByte place) later h tt refl
unit_unopened disk values file reads later (lexical.Unterminated place) h asked draft_at = unopened (lexical.Unterminated place) later h tt refl
unit_unopened disk values file reads later (lexical.MacroUndefined place name) h asked draft_at = unopened (lexical.MacroUndefined place name) later h tt refl
unit_unopened disk values file reads later (lexical.MacroName place) h asked draft_at = unopened (lexical.MacroName place) later h tt refl
unit_unopened disk values file reads later (lexical.IncludeDepth place) h asked draft_at = unopened (lexical.IncludeDepth place) later h tt refl
unit_unopened disk values file reads later (lexical.TooLarge place) h asked draft_at = unopened (lexical.TooLarge place) later h tt refl
unit_unopened disk values file reads later (lexical.Syntax place) h asked draft_at = unopened (lexical.Syntax place) later h tt refl
unit_unopened disk values file reads later (lexical.CannotRead name) h asked draft_at =
    subst (λ (n : List ℕ). Begins (without (Some name) disk) values n reads draft_at (over later (Err (stops.Unread name)))) (sym (asked name refl))
    (unopened (lexical.CannotRead name) later (unread_again disk (without (Some name) disk) name file h refl) (is_absent disk name, tt) refl)
unit_unopened disk values file reads later lexical.NoMemory h asked draft_at = tt

module _ (disk : Disk) (facts : HostFacts) (options : LoadOptions) (file : List ℕ) where
  -- a load whose first unit began, from what its units come to
  pub load_begun : OpenWithout → (turn : Turn) (last : Result Plan Stop) (latest : ReadSoFar) → Begins disk (values_of options.defines) file nothing_read (begun_draft options.path) turn
      → LoadMay disk facts options turn last latest → UnitsMay disk facts options file last latest
  load_begun law turn (Ok plan) latest h on = record { turn = turn; begins = h; on = on }
  load_begun law turn (Err (stops.Fault fault)) latest h on = λ outcome is. record { turn = turn; begins = h; on = on outcome is }
  load_begun law turn (Err (stops.Unread name)) latest h on = elim (begins_without law disk name (values_of options.defines) file nothing_read (begun_draft options.path) turn h) [
    | inl same ↦ record { turn = turn; begins = same; on = on }
    | inr lost ↦ record { turn = over lost.at (Err (stops.Unread name)); begins = lost.gives; on = ends refl }
  ]
  load_begun law turn (Err stops.NoMemory) latest h on = tt

  -- a load whose first unit didn't begin
  pub load_unopened : (stop : Stop) (latest : ReadSoFar) → UnitMay disk (values_of options.defines) file nothing_read (begun_draft options.path) (Err stop) latest → UnitsMay disk facts options file (Err stop) latest
  load_unopened (stops.Fault fault) latest h = λ outcome is. record { turn = over latest (Err (stops.Fault fault)); begins = h; on = ends is }
  load_unopened (stops.Unread name) latest h = record { turn = over latest (Err (stops.Unread name)); begins = h; on = ends refl }
  load_unopened stops.NoMemory latest h = tt

  outcome_told : (names : List (List ℕ)) (stop : Stop) (fault : LoadFault) → told_of names stop ≡ Some fault → outcome_of names (Err stop) ≡ Some (Err fault)
  outcome_told names stop fault h = ap (option_map (λ (f : LoadFault). Err f)) h

  no_other : (names : List (List ℕ)) (kind : FaultKind) (place : Place) (name : List ℕ) → told_at names kind place ≡ Some (CannotRead name) → ⊥
  no_other names kind place name h =
      elim (slice_get names place.file) as (λ o. option_map (λ (n : List ℕ). File kind place n) o ≡ Some (CannotRead name) → ⊥) [
        | None ↦ λ k. cc
        | Some n ↦ λ k. cc
      ] h

  -- what stops a load, as it is told
  pub load_told : (names : ReadSoFar) (stop : Stop) (fault : LoadFault) → UnitsMay disk facts options file (Err stop) names → Tells (told_of names.names stop) fault → MayBe disk (λ d. Loads d facts options file) (Err fault)
  load_told reads (stops.Fault one) (File kind place name) h told = h (Err (File kind place name)) (outcome_told reads.names (stops.Fault one) (File kind place name) told)
  load_told reads (stops.Fault one) (CannotRead name) h told = absurd (no_other reads.names one.kind one.place name told)
  load_told reads (stops.Unread other) (File kind place name) h told = absurd cc
  load_told reads (stops.Unread other) (CannotRead name) h told =
      let same : other ≡ name = cc in
      subst (λ (n : List ℕ). Loads (without (Some n) disk) facts options file (Err (CannotRead n))) same h
  load_told reads stops.NoMemory (File kind place name) h told = absurd cc
  load_told reads stops.NoMemory (CannotRead name) h told = absurd cc
  load_told reads stop NoMemory h told = tt

-- the next unit, behind one without a fault
module _ (disk : Disk) (options : LoadOptions) (draft : Draft) (reads : ReadSoFar) (file : AnchorFile) (ended : HasEndFault draft None) (is_next : next_load draft ≡ Some file) where
  behind_unit : (turn : Turn) → (d : Disk) → Begins d (values_of options.defines) file.file reads (next_unit draft file.path) turn → AtEnd d options draft reads turn
  behind_unit turn d h = record { fault = None; has = ended; goes = subst (λ (f : Option AnchorFile). GoesOn d options draft reads None f turn) (sym is_next) h }

  -- its file wasn't read
  pub next_stopped : (stop : Stop) (later : ReadSoFar) → UnitMay disk (values_of options.defines) file.file reads (next_unit draft file.path) (Err stop) later → EndMay disk options draft reads (Err stop) later
  next_stopped (stops.Fault fault) later h = behind_unit (over later (Err (stops.Fault fault))) disk h
  next_stopped (stops.Unread name) later h = behind_unit (over later (Err (stops.Unread name))) (without (Some name) disk) h
  next_stopped stops.NoMemory later h = tt

  -- its file was read, and it began
  pub next_begun : (state : LexerState) (later : ReadSoFar) (new : Draft) → UnitMay disk (values_of options.defines) file.file reads (next_unit draft file.path) (Ok state) later
      → new ≡ next_unit draft file.path (unit_at later.names file.file) → EndMay disk options draft reads (Ok (Reading state new)) later
  next_begun state later new h is =
      subst (λ (d : Draft). AtEnd disk options draft reads (further state.stage later d)) (sym is) (behind_unit (further state.stage later (next_unit draft file.path (unit_at later.names file.file))) disk h)
