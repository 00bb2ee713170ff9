-- Each load comes to something: it can't be that nothing is what it comes to. A unit ends, and so do the units: each file that isn't
-- empty takes from the bytes that may be read, and one that is empty has no statement, so that one file less is left.
use Rattle.std.proofs.Common.{◌≡◌, ℕ, zero, suc, ◌+◌, ◌-◌, ◌*◌, ◌<◌, ◌≤◌, Bool, true, false, List, [], ◌∷◌, length, get_or, Option, Some, None, Result, Ok, Err, refl, sym, ap, ◌∙◌, subst, arith}
use Rattle.std.specs.Prelude.{min, nat_le, slice_get, if◌then◌else◌}
use Rattle.std.specs.Option.{option_map}
use Rattle.std.proofs.lemmas.Option.{slice_get-get_or, slice_get_within}
use Rattle.std.proofs.lemmas.Bool.Decides.{nat_tests}
use Rattle.pf_base.specs.declared.fault.FaultKind.TheVariants as kinds
use Rattle.pf_base.specs.declared.fault.Place.{Place}
use Rattle.pf_host.specs.Facts.{HostFacts}
use Rattle.pf_source.specs.Disk.{AreAbsent, Disk}
use Rattle.pf_token.specs.Cells.{are_in, cells_from}
use Rattle.pf_token.specs.Macros.{Table, values_of}
use Rattle.pf_token.specs.declared.cell.Cell.{Cell}
use Rattle.pf_lexer.specs.Calls.{IsGoing, IsKnown, IsNumbered, StandsIn, unread_in}
use Rattle.pf_lexer.specs.Coming.{Finishes, HasLead, LeadsWithin, OpensWithin, behind}
use Rattle.pf_lexer.specs.ReadSoFar.{ReadSoFar}
use Rattle.pf_lexer.specs.Reads.{Look, given, has_numbered, has_read, look_of, look_up, number_of, read_limit, too_large}
use Rattle.pf_lexer.specs.Stages.{Stage, Standing, going, failed}
use Rattle.pf_lexer.specs.Units.{Answer, Leads, Opens, large, opened, start_in, unread}
use Rattle.pf_lexer.specs.declared.deed.Statement.{Statement}
use Rattle.pf_lexer.specs.declared.fault.LexFault.{LexFault}
use Rattle.pf_lexer.specs.declared.fault.LexFault.TheVariants as lexical
use Rattle.pf_plan.specs.Anchors.{next_load, next_unit}
use Rattle.pf_plan.specs.Drafts.{begun_draft}
use Rattle.pf_plan.specs.Ends.{HasEndFault, plan_of}
use Rattle.pf_plan.specs.Numbered.{PlacesWithin}
use Rattle.pf_plan.specs.declared.draft.AnchorFile.{AnchorFile}
use Rattle.pf_plan.specs.declared.draft.Draft.{Draft}
use Rattle.pf_fault.specs.declared.fault.Fault.{Fault}
use Rattle.pf_fault.specs.declared.fault.Stop.{Stop}
use Rattle.pf_fault.specs.declared.fault.Stop.TheVariants as stops
use Rattle.pf_plan.specs.declared.plan.Plan.{Plan}
use Rattle.pf_load.specs.Answers.{files_left}
use Rattle.pf_load.specs.Load.{AtEnd, Begins, GoesOn, Loads, LoadsOn, Outcome, Turn, begun, ends, further, goes_on, nothing_read, outcome_of, over, stopped_by, turn_of, unit_at, unopened}
use Rattle.pf_load.specs.Statements.{StatementComes}
use Rattle.pf_load.specs.declared.loading.LoadFault.TheVariants.{File, CannotRead}
use Rattle.pf_load.specs.declared.loading.LoadOptions.{LoadOptions}
use Rattle.pf_load.proofs.Growing.{Grows, known_more, leads_grow, numbered_within, opens_grow}
use Rattle.pf_load.proofs.Saying.{DraftWell, SayingLaws, StaysIn, StopWell, statement_somehow}
use Rattle.pf_load.proofs.Standing.{places_grow}

abbrev LastWell : ℕ → Result Plan Stop → Type 0
LastWell count (Ok plan) = Unit {0}
LastWell count (Err stop) = StopWell count stop

record IsTold (names : List (List ℕ)) (last : Result Plan Stop) : Type 0 where
  outcome : Outcome
  is : outcome_of names last ≡ Some outcome

told_somehow : (names : List (List ℕ)) (last : Result Plan Stop) → LastWell (length names) last → IsTold names last
told_somehow names (Ok plan) h = record { outcome = Ok plan; is = refl }
told_somehow names (Err (stops.Fault fault)) h = record {
  outcome = Err (File fault.kind fault.place (get_or names fault.place.file []));
  is = ap (λ (o : Option (List ℕ)). option_map (λ f. Err f) (option_map (λ (name : List ℕ). File fault.kind fault.place name) o)) (slice_get-get_or names fault.place.file [] h);
}
told_somehow names (Err (stops.Unread name)) h = record { outcome = Err (CannotRead name); is = refl }
told_somehow names (Err stops.NoMemory) h = absurd h

lexical_well : (count : ℕ) (fault : LexFault) → IsNumbered count fault → (fault ≡ lexical.NoMemory → ⊥) → StopWell count (stopped_by fault)
lexical_well count (lexical.BadByte place) h enough = h
lexical_well count (lexical.Unterminated place) h enough = h
lexical_well count (lexical.MacroUndefined place name) h enough = h
lexical_well count (lexical.MacroName place) h enough = h
lexical_well count (lexical.IncludeDepth place) h enough = h
lexical_well count (lexical.TooLarge place) h enough = h
lexical_well count (lexical.Syntax place) h enough = h
lexical_well count (lexical.CannotRead name) h enough = tt
lexical_well count lexical.NoMemory h enough = enough refl

-- Laws of the crates below.
pub record UnitLaws : Type 0 where
  pub leads : (disk : Disk) (unit : Standing) (reads : ReadSoFar) → HasLead disk unit reads
  pub lead_within : (disk : Disk) (unit : Standing) (next : Stage) (reads later : ReadSoFar) (answer : Answer) → Leads disk (going unit) reads answer next later → StandsIn (length reads.names) unit → LeadsWithin answer next later
  pub open_within : (disk : Disk) (name : List ℕ) (reads later : ReadSoFar) (result : Result (List Cell) LexFault) → Opens disk name reads result later → OpensWithin result later
  pub finish : (disk : Disk) (stage : Stage) (reads : ReadSoFar) → Finishes disk stage reads
  pub empty : (disk : Disk) (values : Table) (reads later : ReadSoFar) (next : Stage) (statement : Statement) → Leads disk (start_in values []) reads (Ok (Some statement)) next later → ⊥
  pub ends : (draft : Draft) → ((fault : Option Fault) → HasEndFault draft fault → ⊥) → ⊥
  pub end_within : (count : ℕ) (draft : Draft) (fault : Fault) → HasEndFault draft (Some fault) → PlacesWithin count draft → fault.place.file < count
  pub next_within : (count : ℕ) (draft : Draft) (path : List (List ℕ)) (place : Place) → PlacesWithin count draft → place.file < count → PlacesWithin count (next_unit draft path place)
  pub begun_within : (count : ℕ) (path : List (List ℕ)) (place : Place) → place.file < count → PlacesWithin count (begun_draft path place)

-- How a unit begins: it isn't read, its file is empty, or it takes from the bytes that may be read.
data Starts (disk : Disk) (values : Table) (file : List ℕ) (reads : ReadSoFar) (draft_at : Place → Draft) : Type 0 where
  not_read : (later : ReadSoFar) (stop : Stop) → Begins disk values file reads draft_at (over later (Err stop)) → StopWell (length later.names) stop → Starts disk values file reads draft_at
  empty : (later : ReadSoFar) → Begins disk values file reads draft_at (further (start_in values []) later (draft_at (unit_at later.names file))) → Grows reads later → number_of later.names file < length later.names
      → Starts disk values file reads draft_at
  full : (cells : List Cell) (later : ReadSoFar) → Begins disk values file reads draft_at (further (start_in values cells) later (draft_at (unit_at later.names file))) → Grows reads later → later.left < reads.left
      → number_of later.names file < length later.names → are_in (length later.names) cells ≡ true → Starts disk values file reads draft_at

no_cells : (place : Place) → cells_from place [] ≡ []
unfolding cells_from
no_cells place = refl

fits_left : (n left : ℕ) → nat_le n (read_limit left) ≡ true → n ≤ left
fits_left n left h = grind (arith, nat_tests)

module _ (laws : UnitLaws) (disk : Disk) where
  numbered_stop : (later : ReadSoFar) (fault : LexFault) → OpensWithin (Err fault) later → StopWell (length later.names) (stopped_by fault)
  numbered_stop later fault h = lexical_well (length later.names) fault h.within (λ e. h.enough (ap (λ (f : LexFault). Err f) e))

  starts_with : (values : Table) (file : List ℕ) (reads : ReadSoFar) (draft_at : Place → Draft) (bytes : List ℕ) → look_up disk reads file ≡ given (number_of reads.names file) bytes → length bytes ≤ reads.left → Starts disk values file reads draft_at
  starts_with values file reads draft_at [] is le =
      empty (has_read reads file []) (begun [] (has_read reads file []) (subst (λ (cells : List Cell). Opens disk file reads (Ok cells) (has_read reads file [])) (no_cells (record { file = number_of reads.names file; line = 1 })) (opened is)) refl) (opens_grow disk file (opened is)) (numbered_within reads.names file)
  starts_with values file reads draft_at (byte ∷ bytes) is le =
      let later : ReadSoFar = has_read reads file (byte ∷ bytes) in
      let cells : List Cell = cells_from (record { file = number_of reads.names file; line = 1 }) (byte ∷ bytes) in
      full cells later (begun cells later (opened is) refl) (opens_grow disk file (opened is)) (omega arith) (numbered_within reads.names file) (laws.open_within disk file reads later (Ok cells) (opened is)).within

  starts_held : (values : Table) (file : List ℕ) (reads : ReadSoFar) (draft_at : Place → Draft) (bytes : List ℕ) → disk file ≡ Some bytes → (fits : Bool) → nat_le (length bytes) (read_limit reads.left) ≡ fits → Starts disk values file reads draft_at
  starts_held values file reads draft_at bytes is true fits =
      starts_with values file reads draft_at bytes
      (ap (look_of reads file) is ∙ ap (λ (b : Bool). if b then given (number_of reads.names file) bytes else too_large (number_of reads.names file)) fits) (fits_left (length bytes) reads.left fits)
  starts_held values file reads draft_at bytes is false fits =
      let look : look_up disk reads file ≡ too_large (number_of reads.names file) = ap (look_of reads file) is ∙ ap (λ (b : Bool). if b then given (number_of reads.names file) bytes else too_large (number_of reads.names file)) fits in
      let later : ReadSoFar = has_numbered reads file in
      let fault : LexFault = lexical.TooLarge (record { file = number_of reads.names file; line = 0 }) in
      not_read later (stopped_by fault) (unopened fault later (large look) tt refl) (numbered_stop later fault (laws.open_within disk file reads later (Err fault) (large look)))

  starts : (values : Table) (file : List ℕ) (reads : ReadSoFar) (draft_at : Place → Draft) (held : Option (List ℕ)) → disk file ≡ held → Starts disk values file reads draft_at
  starts values file reads draft_at None is = not_read reads (stops.Unread file) (unopened (lexical.CannotRead file) reads unread (is, tt) refl) tt
  starts values file reads draft_at (Some bytes) is = starts_held values file reads draft_at bytes is (nat_le (length bytes) (read_limit reads.left)) refl

  module _ (saying : SayingLaws) (facts : HostFacts) (options : LoadOptions) where
    abbrev Somehow : Turn → Type 0
    Somehow turn = ((outcome : Outcome) → LoadsOn disk facts options turn outcome → ⊥) → ⊥

    over_somehow : (reads : ReadSoFar) (last : Result Plan Stop) → LastWell (length reads.names) last → Somehow (over reads last)
    over_somehow reads last h none = let told = told_somehow reads.names last h in none told.outcome (ends told.is)

    -- a unit that ended goes on somehow
    abbrev EndsSomehow : Draft → ReadSoFar → Type 0
    EndsSomehow draft reads = ((turn : Turn) → AtEnd disk options draft reads turn → Somehow turn → ⊥) → ⊥

    -- each unit that ends with so many bytes left does
    abbrev AllEnd : ℕ → Type 0
    AllEnd n = (draft : Draft) (reads : ReadSoFar) → reads.left ≤ n → PlacesWithin (length reads.names) draft → EndsSomehow draft reads

    -- what stands in its files behind a statement goes on somehow
    abbrev GoesSomehow : ℕ → Stage → ReadSoFar → Type 0
    GoesSomehow n stage reads = (draft : Draft) → IsGoing stage → IsKnown (length reads.names) stage → PlacesWithin (length reads.names) draft → reads.left ≤ n → Somehow (further stage reads draft)

    behind_result : (n : ℕ) (next : Stage) (latest : ReadSoFar) (result : Result Draft Stop) → GoesSomehow n next latest → IsGoing next → IsKnown (length latest.names) next → latest.left ≤ n → DraftWell (length latest.names) result
        → Somehow (turn_of next latest result)
    behind_result n next latest (Ok draft) again goes known le well = again draft goes known well le
    behind_result n next latest (Err stop) again goes known le well = over_somehow latest (Err stop) well

    by_answer : (n : ℕ) (unit : Standing) (next : Stage) (reads later : ReadSoFar) (draft : Draft) (answer : Answer) → AllEnd n
        → ((statement : Statement) (latest : ReadSoFar) → Leads disk (going unit) reads (Ok (Some statement)) next later → latest.left ≤ later.left → GoesSomehow n next latest)
        → Leads disk (going unit) reads answer next later → AreAbsent disk (unread_in answer) → LeadsWithin answer next later → PlacesWithin (length reads.names) draft → reads.left ≤ n
        → Somehow (further (going unit) reads draft)
    by_answer n unit next reads later draft (Err fault) below again leads gone within places le none =
        over_somehow later (Err (stopped_by fault)) (lexical_well (length later.names) fault within.numbered (λ e. within.enough (ap (λ (f : LexFault). Err f) e)))
        (λ outcome on. none outcome (goes_on leads gone refl on))
    by_answer n unit next reads later draft (Ok None) below again leads gone within places le none =
        let grows = leads_grow disk leads in
        below draft later (omega (arith, grows.left)) (places_grow (length reads.names) (length later.names) draft grows.names places) (λ turn at somehow. somehow (λ outcome on. none outcome (goes_on leads tt at on)))
    by_answer n unit next reads later draft (Ok (Some said)) below again leads gone within places le none =
        let grows = leads_grow disk leads in
        statement_somehow saying disk facts said draft later within.numbered (places_grow (length reads.names) (length later.names) draft grows.names places) (λ result latest comes stays.
        behind_result n next latest result (again said latest leads stays.grows.left) within.goes (known_more (length later.names) (length latest.names) next stays.grows.names within.known) (omega (arith, grows.left, stays.grows.left)) stays.well
        (λ outcome on. none outcome (goes_on leads tt (record { result = result; later = latest; comes = comes; gives = refl }) on)))

    -- a unit goes on somehow, where what is behind its end does
    unit_somehow : (n : ℕ) → AllEnd n → {stage : Stage} {reads : ReadSoFar} → Finishes disk stage reads → GoesSomehow n stage reads
    unit_somehow n below {stage = going unit} {reads = reads} (behind rest) draft goes known places le =
        let lead = laws.leads disk unit reads in
        by_answer n unit lead.next reads lead.later draft lead.answer below
        (λ statement latest leads fewer. unit_somehow n below (rest statement lead.next lead.later latest leads fewer))
        lead.leads lead.is_true (laws.lead_within disk unit lead.next reads lead.later lead.answer lead.leads known) places le
    unit_somehow n below {stage = failed fault} {reads = reads} (behind rest) draft goes known places le = absurd goes

    -- each unit that ends with fewer bytes left goes on somehow
    abbrev FewerEnd : ℕ → Type 0
    FewerEnd n = (draft : Draft) (reads : ReadSoFar) → reads.left < n → PlacesWithin (length reads.names) draft → EndsSomehow draft reads

    -- and so does each with no more bytes left and fewer files
    abbrev FilesEnd : ℕ → ℕ → Type 0
    FilesEnd n m = (draft : Draft) (reads : ReadSoFar) → files_left draft < m → reads.left ≤ n → PlacesWithin (length reads.names) draft → EndsSomehow draft reads

    -- a unit whose file is empty
    by_empty : (n m : ℕ) (values : Table) (next : Stage) (reads later : ReadSoFar) (draft : Draft) (answer : Answer) → FilesEnd n m → files_left draft < m → reads.left ≤ n
        → Leads disk (start_in values []) reads answer next later → AreAbsent disk (unread_in answer) → LeadsWithin answer next later → PlacesWithin (length reads.names) draft → Somehow (further (start_in values []) reads draft)
    by_empty n m values next reads later draft (Err fault) below few le leads gone within places none =
        over_somehow later (Err (stopped_by fault)) (lexical_well (length later.names) fault within.numbered (λ e. within.enough (ap (λ (f : LexFault). Err f) e)))
        (λ outcome on. none outcome (goes_on leads gone refl on))
    by_empty n m values next reads later draft (Ok None) below few le leads gone within places none =
        let grows = leads_grow disk leads in
        below draft later few (omega (arith, grows.left)) (places_grow (length reads.names) (length later.names) draft grows.names places) (λ turn at somehow. somehow (λ outcome on. none outcome (goes_on leads tt at on)))
    by_empty n m values next reads later draft (Ok (Some said)) below few le leads gone within places none = absurd (laws.empty disk values reads later next said leads)

    empty_somehow : (n m : ℕ) (values : Table) (reads : ReadSoFar) (draft : Draft) → FilesEnd n m → files_left draft < m → reads.left ≤ n → PlacesWithin (length reads.names) draft → Somehow (further (start_in values []) reads draft)
    empty_somehow n m values reads draft below few le places =
        let unit : Standing = record { macros = values; top = []; below = [] } in
        let lead = laws.leads disk unit reads in
        by_empty n m values lead.next reads lead.later draft lead.answer below few le lead.leads lead.is_true (laws.lead_within disk unit lead.next reads lead.later lead.answer lead.leads (record { top = refl; below = tt })) places

    full_somehow : (n : ℕ) (values : Table) (cells : List Cell) (reads : ReadSoFar) (draft : Draft) → FewerEnd n → reads.left < n → are_in (length reads.names) cells ≡ true → PlacesWithin (length reads.names) draft → Somehow (further (start_in values cells) reads draft)
    full_somehow n values cells reads draft below lt inside places =
        unit_somehow reads.left (λ other later le. below other later (omega (arith, le, lt))) (laws.finish disk (start_in values cells) reads) draft tt (record { top = inside; below = tt }) places (omega arith)

    at_next : (draft : Draft) (reads : ReadSoFar) (file : AnchorFile) (turn : Turn) → next_load draft ≡ Some file → Begins disk (values_of options.defines) file.file reads (next_unit draft file.path) turn
        → GoesOn disk options draft reads None (next_load draft) turn
    at_next draft reads file turn is begins = subst (λ (f : Option AnchorFile). GoesOn disk options draft reads None f turn) (sym is) begins

    -- the file that comes next, behind a unit without a fault
    by_next : (n m : ℕ) (draft : Draft) (reads : ReadSoFar) (file : AnchorFile) → HasEndFault draft None → next_load draft ≡ Some file → FewerEnd n → FilesEnd n m → files_left draft ≤ m → reads.left ≤ n → PlacesWithin (length reads.names) draft
        → Starts disk (values_of options.defines) file.file reads (next_unit draft file.path) → EndsSomehow draft reads
    by_next n m draft reads file has is below files few le places (not_read later stop begins well) none =
        none (over later (Err stop)) (record { fault = None; has = has; goes = at_next draft reads file (over later (Err stop)) is begins }) (over_somehow later (Err stop) well)
    by_next n m draft reads file has is below files few le places (empty later begins grows numbered) none =
        let new : Draft = next_unit draft file.path (unit_at later.names file.file) in
        none (further (start_in (values_of options.defines) []) later new) (record { fault = None; has = has; goes = at_next draft reads file (further (start_in (values_of options.defines) []) later new) is begins })
        (empty_somehow n m (values_of options.defines) later new files (omega (arith, few, slice_get_within draft.loads draft.begun file is)) (omega (arith, grows.left, le))
        (laws.next_within (length later.names) draft file.path (unit_at later.names file.file) (places_grow (length reads.names) (length later.names) draft grows.names places) numbered))
    by_next n m draft reads file has is below files few le places (full cells later begins grows lt numbered inside) none =
        let new : Draft = next_unit draft file.path (unit_at later.names file.file) in
        none (further (start_in (values_of options.defines) cells) later new) (record { fault = None; has = has; goes = at_next draft reads file (further (start_in (values_of options.defines) cells) later new) is begins })
        (full_somehow n (values_of options.defines) cells later new below (omega (arith, lt, le)) inside
        (laws.next_within (length later.names) draft file.path (unit_at later.names file.file) (places_grow (length reads.names) (length later.names) draft grows.names places) numbered))

    by_load : (n m : ℕ) (draft : Draft) (reads : ReadSoFar) (next : Option AnchorFile) → HasEndFault draft None → next_load draft ≡ next → FewerEnd n → FilesEnd n m → files_left draft ≤ m → reads.left ≤ n → PlacesWithin (length reads.names) draft
        → EndsSomehow draft reads
    by_load n m draft reads None has is below files few le places none =
        none (over reads (Ok (plan_of options.level draft)))
        (record { fault = None; has = has; goes = subst (λ (f : Option AnchorFile). GoesOn disk options draft reads None f (over reads (Ok (plan_of options.level draft)))) (sym is) refl }) (over_somehow reads (Ok (plan_of options.level draft)) tt)
    by_load n m draft reads (Some file) has is below files few le places none =
        by_next n m draft reads file has is below files few le places (starts (values_of options.defines) file.file reads (next_unit draft file.path) (disk file.file) refl) none

    by_fault : (n m : ℕ) (draft : Draft) (reads : ReadSoFar) (fault : Option Fault) → HasEndFault draft fault → FewerEnd n → FilesEnd n m → files_left draft ≤ m → reads.left ≤ n → PlacesWithin (length reads.names) draft → EndsSomehow draft reads
    by_fault n m draft reads (Some fault) has below files few le places none =
        none (over reads (Err (stops.Fault fault))) (record { fault = Some fault; has = has; goes = refl }) (over_somehow reads (Err (stops.Fault fault)) (laws.end_within (length reads.names) draft fault has places))
    by_fault n m draft reads None has below files few le places none = by_load n m draft reads (next_load draft) has refl below files few le places none

    files_end : (n m : ℕ) → FewerEnd n → FilesEnd n m
    files_end n zero below draft reads few le places none = absurd (omega (arith, few))
    files_end n (suc m) below draft reads few le places none =
        laws.ends draft (λ fault has. by_fault n m draft reads fault has below (files_end n m below) (omega (arith, few)) le places none)

    all_end : (n : ℕ) → AllEnd n
    all_end zero draft reads le places = files_end zero (suc (files_left draft)) (λ other later lt. absurd (omega (arith, lt))) draft reads (omega arith) le places
    all_end (suc n) draft reads le places = files_end (suc n) (suc (files_left draft)) (λ other later lt. all_end n other later (omega (arith, lt))) draft reads (omega arith) le places

    by_start : (file : List ℕ) → Starts disk (values_of options.defines) file nothing_read (begun_draft options.path) → ((outcome : Outcome) → Loads disk facts options file outcome → ⊥) → ⊥
    by_start file (not_read later stop begins well) none =
        over_somehow later (Err stop) well (λ outcome on. none outcome (record { turn = over later (Err stop); begins = begins; on = on }))
    by_start file (empty later begins grows numbered) none =
        let draft : Draft = begun_draft options.path (unit_at later.names file) in
        unit_somehow later.left (all_end later.left) (laws.finish disk (start_in (values_of options.defines) []) later) draft tt (record { top = refl; below = tt }) (laws.begun_within (length later.names) options.path (unit_at later.names file) numbered) (omega arith)
        (λ outcome on. none outcome (record { turn = further (start_in (values_of options.defines) []) later draft; begins = begins; on = on }))
    by_start file (full cells later begins grows lt numbered inside) none =
        let draft : Draft = begun_draft options.path (unit_at later.names file) in
        unit_somehow later.left (all_end later.left) (laws.finish disk (start_in (values_of options.defines) cells) later) draft tt (record { top = inside; below = tt }) (laws.begun_within (length later.names) options.path (unit_at later.names file) numbered) (omega arith)
        (λ outcome on. none outcome (record { turn = further (start_in (values_of options.defines) cells) later draft; begins = begins; on = on }))

    pub load_somehow : (file : List ℕ) → ((outcome : Outcome) → Loads disk facts options file outcome → ⊥) → ⊥
    load_somehow file none = by_start file (starts (values_of options.defines) file nothing_read (begun_draft options.path) (disk file) refl) none
