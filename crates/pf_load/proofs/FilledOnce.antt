-- Over a disk a load fills each of its rulesets once.
use Rattle.std.proofs.Common.{◌≡◌, ℕ, Bool, true, false, List, [], ◌∷◌, length, Option, Some, None, Result, Ok, Err, refl, sym, ap, ◌∙◌, subst, arith}
use Rattle.std.specs.Prelude.{if◌then◌else◌, is_none}
use Rattle.std.specs.Option.{option_map}
use Rattle.std.proofs.lemmas.Bool.{eqb-true}
use Rattle.pf_base.specs.declared.fault.FaultKind.TheVariants as kinds
use Rattle.pf_base.specs.declared.fault.Place.{Place}
use Rattle.pf_decl.specs.declared.form.Decl.{Decl}
use Rattle.pf_decl.specs.declared.form.Decl.TheVariants.{Set, Table, Queue}
use Rattle.pf_decl.specs.declared.form.OptionLine.{OptionLine}
use Rattle.pf_decl.specs.declared.form.Queue.{Queue as AnyQueue}
use Rattle.pf_decl.specs.declared.form.TableForm.{TableForm}
use Rattle.pf_fault.specs.Order.{fault_at, first_of}
use Rattle.pf_fault.specs.declared.fault.Fault.{Fault}
use Rattle.pf_fault.specs.declared.fault.Stop.{Stop}
use Rattle.pf_form.specs.declared.form.Draft.{Draft as Said}
use Rattle.pf_form.specs.declared.form.Head.{Head}
use Rattle.pf_form.specs.declared.form.Head.TheVariants as heads
use Rattle.pf_grammar.specs.Late.{late_of}
use Rattle.pf_host.specs.Facts.{HostFacts}
use Rattle.pf_lexer.specs.ReadSoFar.{ReadSoFar}
use Rattle.pf_lexer.specs.Stages.{Stage}
use Rattle.pf_lexer.specs.Units.{Answer}
use Rattle.pf_lexer.specs.declared.deed.Statement.{Statement}
use Rattle.pf_parts.specs.declared.call.Call.{Call}
use Rattle.pf_parts.specs.declared.params.Queues.{Queues}
use Rattle.pf_plan.specs.Anchors.{closed, next_load, next_unit}
use Rattle.pf_plan.specs.Drafts.{begun_draft, is_empty, is_in_body, is_in_main, with_lines, with_queue, with_rules, with_table}
use Rattle.pf_plan.specs.Ends.{HasEndFault, or_else, overfull, plan_of, queue_fault, rulesets_of, unclosed}
use Rattle.pf_plan.specs.declared.draft.AnchorFile.{AnchorFile}
use Rattle.pf_plan.specs.declared.draft.Draft.{Draft}
use Rattle.pf_plan.specs.declared.draft.Filling.{Filling}
use Rattle.pf_plan.specs.declared.plan.Plan.{Plan}
use Rattle.pf_rule.specs.declared.rule.Rule.{Rule}
use Rattle.pf_shelf.specs.declared.decl.TableDecl.{TableDecl}
use Rattle.pf_source.specs.Disk.{Disk}
use Rattle.pf_token.specs.Macros.{Table as Macros, values_of}
use Rattle.pf_token.specs.declared.token.Token.{Token}
use Rattle.pf_load.specs.Anchors.{awaiting, call_of, call_of_rules, entered, load_fault, named_call, no_call, reach_fault, reach_of}
use Rattle.pf_load.specs.Load.{AtEnd, Begins, GoesOn, Loads, LoadsOn, Outcome, Turn, Turns, begun, ends, further, goes_on, outcome_of, over, told_of, turn_of, unit_at, unopened}
use Rattle.pf_load.specs.Paths.{FillsOnce}
use Rattle.pf_load.specs.Statements.{Comes, DeclComes, DeclStands, Expanded, RuleComes, SaidComes, StatementComes, TableStands, close_in, fault_in, in_main, is_declared, is_said, late_at, no_decl, no_rule, queue_at, rules_in, stop_of, table_laid, unless, way_of}
use Rattle.pf_load.specs.declared.loading.LoadFault.{LoadFault}
use Rattle.pf_load.specs.declared.loading.LoadOptions.{LoadOptions}
use Rattle.pf_load.specs.declared.reach.Reach.{Reach}
use Rattle.pf_load.specs.declared.reach.Reach.TheVariants.{Nowhere, Here, Into}
use Rattle.pf_load.specs.declared.way.Way.{Way}
use Rattle.pf_load.specs.declared.way.Way.TheVariants.{Nothing, Closes, Declares, Rules}
use Rattle.pf_load.proofs.Apart.{Apart, apart_begun, apart_closed, apart_load, apart_opened, apart_plan, apart_unit}
use Rattle.pf_load.proofs.Called.{LeadsBelow, anchor_leads, load_leads}

-- a statement that leads into a ruleset leads below its own, into one that is new
abbrev Leads : Draft → Reach → Type 0
Leads draft reach = (path : List (List ℕ)) → reach ≡ Into path → LeadsBelow draft path

leads_nowhere : (draft : Draft) → Leads draft Here
leads_nowhere draft path is = absurd cc

unless_ok : (fault : Option Fault) (draft new : Draft) → ◌≡◌ {A = Result Draft Stop} (Ok new) (unless fault draft) → draft ≡ new
unless_ok None draft new h = cc
unless_ok (Some fault) draft new h = absurd cc

in_main_ok : (b : Bool) (place : Place) (draft new : Draft) → ◌≡◌ {A = Result Draft Stop} (Ok new) (in_main b place draft) → draft ≡ new
in_main_ok true place draft new h = cc
in_main_ok false place draft new h = absurd cc

module _ (at : List (List ℕ)) where
  -- what is laid on a draft beside rulesets
  laid_rules : (draft : Draft) (rules : List Rule) (queues : Option Queues) (place : Place) → Apart at draft → Apart at (with_rules draft rules queues place)
  laid_rules draft rules queues place h = record { first = h.first; once = h.once; below = h.below; known = h.known; begun = h.begun }

  laid_table : (draft : Draft) (table : TableDecl) → Apart at draft → Apart at (with_table draft table)
  laid_table draft table h = record { first = h.first; once = h.once; below = h.below; known = h.known; begun = h.begun }

  laid_lines : (draft : Draft) (lines : List OptionLine) → Apart at draft → Apart at (with_lines draft lines)
  laid_lines draft lines h = record { first = h.first; once = h.once; below = h.below; known = h.known; begun = h.begun }

  laid_queue : (draft : Draft) (queue : AnyQueue) → Apart at draft → Apart at (with_queue draft queue)
  laid_queue draft queue h = record { first = h.first; once = h.once; below = h.below; known = h.known; begun = h.begun }

  apart_entered : (draft : Draft) (reach : Reach) (place : Place) (nameless : Bool) → Leads draft reach → Apart at draft → Apart at (entered draft reach place nameless)
  apart_entered draft Nowhere place nameless leads h = h
  apart_entered draft Here place nameless leads h = h
  apart_entered draft (Into path) place nameless leads h = apart_opened at draft path place nameless (leads path refl) h

  apart_awaiting : (draft : Draft) (reach : Reach) (file : List ℕ) → Leads draft reach → Apart at draft → Apart at (awaiting draft reach file)
  apart_awaiting draft Nowhere file leads h = h
  apart_awaiting draft Here file leads h = h
  apart_awaiting draft (Into path) file leads h = apart_load at draft path file (leads path refl) h

  -- rules don't change where a statement leads
  leads_still : (draft : Draft) (rules : List Rule) (queues : Option Queues) (place : Place) (reach : Reach) → Leads draft reach → Leads (with_rules draft rules queues place) reach
  leads_still draft rules queues place reach leads path is = let one = leads path is in record { names = one.names; some = one.some; is = one.is; new = one.new }

  module _ (facts : HostFacts) (draft new : Draft) (h : Apart at draft) where
    apart_expanded : (said : Said) (place : Place) (call : Call) (reach : Reach) (nameless : Bool) → Leads draft reach → Expanded facts draft said place call reach nameless (Ok new) → Apart at new
    apart_expanded said place call reach nameless leads e =
        let laid : Draft = with_rules draft (rules_in e.rules) said.form.params.queue place in
        subst (Apart at)
        (unless_ok (first_of (first_of (late_at (late_of said) place) (fault_in e.rules place)) (reach_fault reach place)) (entered laid reach place nameless) new e.gives)
        (apart_entered laid reach place nameless (leads_still draft (rules_in e.rules) said.form.params.queue place reach leads) (laid_rules draft (rules_in e.rules) said.form.params.queue place h))

    apart_said : (said : Said) (place : Place) (head : Head) → SaidComes facts draft said place head (Ok new) → Apart at new
    apart_said said place heads.Pass e = apart_expanded said place no_call Here false (leads_nowhere draft) e
    apart_said said place (heads.Block kind) e = apart_expanded said place no_call Here false (leads_nowhere draft) e
    apart_said said place heads.Match e = apart_expanded said place no_call Here false (leads_nowhere draft) e
    apart_said said place heads.Antispoof e = apart_expanded said place no_call Here false (leads_nowhere draft) e
    apart_said said place (heads.Anchor name body) e =
        apart_expanded said place (call_of_rules (call_of draft name)) (reach_of draft body (call_of draft name)) (is_none name) (anchor_leads draft body name) e
    apart_said said place (heads.LoadAnchor name file) e =
        let reach : Reach = reach_of draft true (named_call name) in
        subst (Apart at) (unless_ok (first_of (load_fault draft place) (reach_fault reach place)) (awaiting draft reach file) new e) (apart_awaiting draft reach file (load_leads draft name) h)

    apart_rule : (tokens : List Token) (body : Bool) → RuleComes facts tokens body draft (Ok new) → Apart at new
    apart_rule tokens body (is_said said is e) = apart_said said _ said.form.head e
    apart_rule tokens body (no_rule fault out is) = absurd cc

    apart_tabled : (table : Result TableDecl Stop) → ◌≡◌ {A = Result Draft Stop} (Ok new) (table_laid draft table) → Apart at new
    apart_tabled (Ok table) is = let same : with_table draft table ≡ new = cc in subst (Apart at) same (laid_table draft table h)
    apart_tabled (Err stop) is = absurd cc

    apart_stands : (disk : Disk) (form : TableForm) (place : Place) (reads later : ReadSoFar) (inside : Bool) → TableStands disk facts draft form place reads inside (Ok new) later → Apart at new
    apart_stands disk form place reads later true e = absurd (let is = e.0 in cc)
    apart_stands disk form place reads later false e = apart_tabled e.table e.gives

    apart_decl : (disk : Disk) (place : Place) (reads later : ReadSoFar) (decl : Decl) → DeclStands disk facts draft place reads decl (Ok new) later → Apart at new
    apart_decl disk place reads later (Set lines) e = subst (Apart at) (in_main_ok (is_in_main draft) place (with_lines draft lines) new e.0) (laid_lines draft lines h)
    apart_decl disk place reads later (Queue queue) e = subst (Apart at) (in_main_ok (is_in_main draft) place (with_queue draft (queue_at place queue)) new e.0) (laid_queue draft (queue_at place queue) h)
    apart_decl disk place reads later (Table form) e = apart_stands disk form place reads later (is_in_body draft) e

    apart_declared : (disk : Disk) (tokens : List Token) (body : Bool) (reads later : ReadSoFar) → DeclComes disk facts tokens body draft reads (Ok new) later → Apart at new
    apart_declared disk tokens body reads later (is_declared decl is e) = apart_decl disk _ reads later decl e
    apart_declared disk tokens body reads later (no_decl fault out e) = absurd (let is = e.0 in cc)

    apart_close : (b : Bool) (place : Place) → ◌≡◌ {A = Result Draft Stop} (Ok new) (close_in b draft place) → Apart at new
    apart_close true place is = let same : closed draft ≡ new = cc in subst (Apart at) same (apart_closed at draft h)
    apart_close false place is = absurd cc

    apart_way : (disk : Disk) (way : Way) (tokens : List Token) (body : Bool) (reads later : ReadSoFar) → Comes disk facts way tokens body draft reads (Ok new) later → Apart at new
    apart_way disk Nothing tokens body reads later e = let is = e.0 in let same : draft ≡ new = cc in subst (Apart at) same h
    apart_way disk Closes tokens body reads later e = apart_close (is_in_body draft) _ e.0
    apart_way disk Declares tokens body reads later e = apart_declared disk tokens body reads later e
    apart_way disk Rules tokens body reads later e = apart_rule tokens body e.0

  -- how a load stands
  abbrev pub TurnApart : Turn → Type 0
  TurnApart (further stage reads draft) = Apart at draft
  TurnApart (over reads (Ok plan)) = FillsOnce at plan
  TurnApart (over reads (Err stop)) = Unit {0}

  behind_statement : (disk : Disk) (facts : HostFacts) (statement : Statement) (next : Stage) (draft : Draft) (reads later : ReadSoFar) (result : Result Draft Stop) → StatementComes disk facts statement draft reads result later → Apart at draft → TurnApart (turn_of next later result)
  behind_statement disk facts statement next draft reads later (Ok new) comes h = apart_way facts draft new h disk (way_of statement.tokens) statement.tokens statement.body reads later comes
  behind_statement disk facts statement next draft reads later (Err stop) comes h = tt

  begins_apart : (disk : Disk) (values : Macros) (file : List ℕ) (reads : ReadSoFar) (draft_at : Place → Draft) (turn : Turn) → Begins disk values file reads draft_at turn → ((place : Place) → Apart at (draft_at place)) → TurnApart turn
  begins_apart disk values file reads draft_at turn (begun cells later opens is) h = subst TurnApart (sym is) (h (unit_at later.names file))
  begins_apart disk values file reads draft_at turn (unopened fault later opens gone is) h = subst TurnApart (sym is) tt

  -- where a unit ends without a fault, no body is open
  none_open : (outer : List Filling) → is_empty outer ≡ true → outer ≡ []
  none_open [] h = refl
  none_open (filling ∷ outer) h = let zero_long : length (filling ∷ outer) ≡ 0 = eqb-true (length (filling ∷ outer)) 0 h in absurd (omega arith)

  shut : (b : Bool) (fault : Fault) (other : Option Fault) → ◌≡◌ {A = Option Fault} None (or_else (if b then None else Some fault) other) → b ≡ true
  shut true fault other h = refl
  shut false fault other h = absurd cc

  all_closed : (draft : Draft) → HasEndFault draft None → draft.outer ≡ []
  all_closed draft has = none_open draft.outer (shut (is_empty draft.outer) (fault_at kinds.UnclosedBody draft.here.own.place) (or_else (queue_fault has.queues) (overfull (rulesets_of draft.here))) has.is)

  behind_end : (disk : Disk) (options : LoadOptions) (draft : Draft) (reads : ReadSoFar) (fault : Option Fault) (next : Option AnchorFile) (turn : Turn) → HasEndFault draft fault → next_load draft ≡ next → GoesOn disk options draft reads fault next turn → Apart at draft → TurnApart turn
  behind_end disk options draft reads (Some fault) next turn has is goes h = subst TurnApart (sym goes) tt
  behind_end disk options draft reads None None turn has is goes h = subst TurnApart (sym goes) (apart_plan at options.level draft (all_closed draft has) h)
  behind_end disk options draft reads None (Some next) turn has is goes h =
      begins_apart disk (values_of options.defines) next.file reads (next_unit draft next.path) turn goes (λ place. apart_unit at draft next place (all_closed draft has) is h)

  behind_answer : (disk : Disk) (facts : HostFacts) (options : LoadOptions) (answer : Answer) (next : Stage) (draft : Draft) (reads : ReadSoFar) (turn : Turn) → Turns disk facts options answer next draft reads turn → Apart at draft → TurnApart turn
  behind_answer disk facts options (Ok (Some statement)) next draft reads turn e h = subst TurnApart (sym e.gives) (behind_statement disk facts statement next draft reads e.later e.result e.comes h)
  behind_answer disk facts options (Ok None) next draft reads turn e h = behind_end disk options draft reads e.fault (next_load draft) turn e.has refl e.goes h
  behind_answer disk facts options (Err fault) next draft reads turn e h = subst TurnApart (sym e) tt

  failed : (o : Option LoadFault) (plan : Plan) → ◌≡◌ {A = Option Outcome} (option_map (λ (f : LoadFault). Err f) o) (Some (Ok plan)) → ⊥
  failed None plan h = cc
  failed (Some fault) plan h = cc

  planned : (reads : ReadSoFar) (last : Result Plan Stop) (plan : Plan) → outcome_of reads.names last ≡ Some (Ok plan) → TurnApart (over reads last) → FillsOnce at plan
  planned reads (Ok other) plan is h = let same : other ≡ plan = cc in subst (FillsOnce at) same h
  planned reads (Err stop) plan is h = absurd (failed (told_of reads.names stop) plan is)

  fills_on : (disk : Disk) (facts : HostFacts) (options : LoadOptions) {turn : Turn} {outcome : Outcome} → LoadsOn disk facts options turn outcome → (plan : Plan) → outcome ≡ Ok plan → TurnApart turn → FillsOnce at plan
  fills_on disk facts options (ends {reads = reads} {last = last} is) plan e h = planned reads last plan (is ∙ ap (λ (o : Outcome). Some o) e) h
  fills_on disk facts options (goes_on {next = next} {later = later} {answer = answer} {draft = draft} {turn = turn} lead gone turns on) plan e h =
      fills_on disk facts options on plan e (behind_answer disk facts options answer next draft later turn turns h)

pub fills_once : (disk : Disk) (facts : HostFacts) (options : LoadOptions) (file : List ℕ) (plan : Plan) → Loads disk facts options file (Ok plan) → FillsOnce options.path plan
fills_once disk facts options file plan loads =
    fills_on options.path disk facts options loads.on plan refl
    (begins_apart options.path disk (values_of options.defines) file _ (begun_draft options.path) loads.turn loads.begins (λ place. apart_begun options.path place))
