-- Where the fault stands that decides, and what a statement leaves of a draft's places and files.
use Rattle.std.proofs.Common.{◌≡◌, ℕ, ◌+◌, ◌-◌, ◌<◌, ◌≤◌, Bool, true, false, List, [], ◌∷◌, ◌++◌, length, Option, Some, None, Result, Ok, Err, refl, sym, ap, ◌∙◌, subst, arith, length-append}
use Rattle.std.specs.Prelude.{IfOk, IfSome, nat_lt, slice_get, if◌then◌else◌}
use Rattle.std.proofs.lemmas.Option.{slice_get_within}
use Rattle.pf_base.specs.declared.fault.FaultKind.{FaultKind}
use Rattle.pf_base.specs.declared.fault.FaultKind.TheVariants as kinds
use Rattle.pf_base.specs.declared.fault.Place.{Place}
use Rattle.pf_plan.specs.Anchors.{next_load, next_unit, with_load}
use Rattle.pf_plan.specs.Drafts.{is_in_body}
use Rattle.pf_fault.specs.Order.{first_of, rank}
use Rattle.pf_entries.specs.Tables.{where_so}
use Rattle.pf_plan.specs.declared.draft.AnchorFile.{AnchorFile}
use Rattle.pf_plan.specs.declared.draft.Draft.{Draft}
use Rattle.pf_fault.specs.declared.fault.Fault.{Fault}
use Rattle.pf_rule.specs.declared.rule.Rule.{Rule}
use Rattle.pf_syntax.specs.declared.fault.FormFault.{FormFault}
use Rattle.pf_syntax.specs.declared.fault.FormFault.TheVariants as outside
use Rattle.pf_load.specs.Anchors.{load_fault, reach_fault}
use Rattle.pf_load.specs.Answers.{AwaitsMore, files_left}
use Rattle.pf_load.specs.Statements.{fault_in, late_at}
use Rattle.pf_load.specs.declared.reach.Reach.{Reach}
use Rattle.pf_load.specs.declared.reach.Reach.TheVariants.{Nowhere, Here, Into}

abbrev pub FaultIn : ℕ → Option Fault → Type 0
FaultIn count fault = IfSome fault (λ one. one.place.file < count)

chosen_in : (count : ℕ) (b : Bool) (one other : Fault) → one.place.file < count → other.place.file < count → FaultIn count (if b then Some other else Some one)
chosen_in count true one other h k = k
chosen_in count false one other h k = h

-- of two faults in some files the one that decides is in them
pub first_in : (count : ℕ) (one other : Option Fault) → FaultIn count one → FaultIn count other → FaultIn count (first_of one other)
first_in count None other h k = k
first_in count (Some one) None h k = h
first_in count (Some one) (Some other) h k = chosen_in count (nat_lt (rank other.kind) (rank one.kind)) one other h k

pub late_in : (count : ℕ) (late : Option FormFault) (place : Place) → place.file < count → FaultIn count (late_at late place)
late_in count None place h = tt
late_in count (Some outside.Syntax) place h = h
late_in count (Some (outside.Unsupported word)) place h = h
late_in count (Some outside.StateOptions) place h = h
late_in count (Some outside.AnchorEffect) place h = h
late_in count (Some outside.BadFlags) place h = h
late_in count (Some outside.NoMemory) place h = tt

pub expansion_in : (count : ℕ) (rules : Result (List Rule) FaultKind) (place : Place) → place.file < count → FaultIn count (fault_in rules place)
expansion_in count (Ok rules) place h = tt
expansion_in count (Err kind) place h = h

pub reach_in : (count : ℕ) (reach : Reach) (place : Place) → place.file < count → FaultIn count (reach_fault reach place)
reach_in count Nowhere place h = h
reach_in count Here place h = tt
reach_in count (Into path) place h = tt

pub where_in : (count : ℕ) (b : Bool) (kind : FaultKind) (place : Place) → place.file < count → FaultIn count (where_so b kind place)
where_in count true kind place h = h
where_in count false kind place h = tt

-- the fault that refuses rules
pub rules_stop : (count : ℕ) (late : Option FormFault) (place : Place) (fault : Option Fault) (reach : Reach) (found : Fault) → place.file < count → FaultIn count fault
    → Some found ≡ first_of (first_of (late_at late place) fault) (reach_fault reach place) → found.place.file < count
rules_stop count late place fault reach found le of is =
    let all : FaultIn count (first_of (first_of (late_at late place) fault) (reach_fault reach place)) =
    first_in count (first_of (late_at late place) fault) (reach_fault reach place) (first_in count (late_at late place) fault (late_in count late place le) of) (reach_in count reach place le) in
    subst (FaultIn count) (sym is) all

-- the fault that refuses the load of a file
pub load_stop : (count : ℕ) (draft : Draft) (place : Place) (reach : Reach) (found : Fault) → place.file < count → Some found ≡ first_of (load_fault draft place) (reach_fault reach place) → found.place.file < count
load_stop count draft place reach found le is =
    let all : FaultIn count (first_of (load_fault draft place) (reach_fault reach place)) =
    first_in count (load_fault draft place) (reach_fault reach place) (where_in count (is_in_body draft) kinds.NotInAnchor place le) (reach_in count reach place le) in
    subst (FaultIn count) (sym is) all

-- what holds of a value that is so
pub if_ok : {A E : Type 0} (P Q : A → Type 0) → ((x : A) → P x → Q x) → (r : Result A E) → IfOk r P → IfOk r Q
if_ok P Q f (Ok x) h = f x h
if_ok P Q f (Err e) h = tt

-- one file more is awaited
awaits_one : (draft : Draft) (path : List (List ℕ)) (file : List ℕ) → AwaitsMore draft (with_load draft path file)
awaits_one draft path file = record { more = omega (arith, length-append draft.loads (record { path = path; file = file } ∷ [])); same = refl }

pub awaits_load : {E : Type 0} (draft : Draft) (path : List (List ℕ)) (file : List ℕ) (r : Result Draft E) → IfOk r (λ new. new ≡ with_load draft path file) → IfOk r (AwaitsMore draft)
awaits_load draft path file r h = if_ok (λ new. new ≡ with_load draft path file) (AwaitsMore draft) (λ new is. subst (AwaitsMore draft) (sym is) (awaits_one draft path file)) r h

-- the next file was awaited, and then it isn't
pub awaited : (draft : Draft) (file : AnchorFile) → next_load draft ≡ Some file → draft.begun < length draft.loads
awaited draft file is = slice_get_within draft.loads draft.begun file is

pub one_less : (draft new : Draft) (path : List (List ℕ)) (place : Place) → draft.begun < length draft.loads → new ≡ next_unit draft path place → files_left new < files_left draft
one_less draft new path place lt is = subst (λ (d : Draft). files_left d < files_left draft) (sym is) (omega (arith, lt))
