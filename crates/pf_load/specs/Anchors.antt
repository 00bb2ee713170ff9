-- Where the name of an anchor leads (pf.conf(5), ANCHORS): the ruleset that its rule calls, and the one that its body or its file
-- fills.
use Rattle.std.specs.Prelude.{ℕ, ◌+◌, Bool, true, false, ◌&&◌, not, nat_lt, List, [], ◌∷◌, length, Option, Some, None, Result, Ok, Err, if◌then◌else◌}
use Rattle.pf_base.specs.declared.path_fault.PathFault.{PathFault}
use Rattle.pf_base.specs.declared.fault.FaultKind.TheVariants as kinds
use Rattle.pf_base.specs.declared.fault.Place.{Place}
use Rattle.pf_parts.specs.CallTarget.{target_of}
use Rattle.pf_parts.specs.CallText.{read_call}
use Rattle.pf_parts.specs.declared.call.Base.{Base}
use Rattle.pf_parts.specs.declared.call.Base.TheVariants.{Below, Up, Root}
use Rattle.pf_parts.specs.declared.call.Call.{Call}
use Rattle.pf_plan.specs.Anchors.{is_filled, nameless_name, opened, with_load}
use Rattle.pf_plan.specs.Drafts.{is_in_body}
use Rattle.pf_fault.specs.Order.{fault_at}
use Rattle.pf_entries.specs.Tables.{where_so}
use Rattle.pf_plan.specs.declared.draft.Draft.{Draft}
use Rattle.pf_fault.specs.declared.fault.Fault.{Fault}
use Rattle.pf_load.specs.declared.reach.Reach.{Reach}
use Rattle.pf_load.specs.declared.reach.Reach.TheVariants.{Nowhere, Here, Into}

-- what stands as the call of rules that call nothing: no anchor rule has it
abbrev pub no_call : Call
no_call = record { base = Below; path = []; children = false }

-- what the text of an anchor's name calls; a name that begins with `_` is no such text
abbrev pub call_in : Result Call PathFault → Option Call
call_in (Ok call) = Some call
call_in (Err fault) = None

abbrev pub named_call : List ℕ → Option Call
named_call text = call_in (read_call text)

-- the nth anchor without a name calls the ruleset `_n` below its own
abbrev pub nameless_call : ℕ → Call
nameless_call n = record { base = Below; path = nameless_name n ∷ []; children = false }

-- what an anchor statement calls: without a name the ruleset of the next number
abbrev pub call_of : Draft → Option (List ℕ) → Option Call
call_of draft None = Some (nameless_call (draft.here.nameless + 1))
call_of draft (Some text) = named_call text

-- the rules of a statement have its call; where it has none, it is refused
abbrev pub call_of_rules : Option Call → Call
call_of_rules None = no_call
call_of_rules (Some call) = call

-- a path of no more than 8 names; the `*` of a wildcard counts as one
abbrev pub has_room : Bool → Option (List (List ℕ)) → Bool
has_room children None = false
has_room false (Some path) = true
has_room true (Some path) = nat_lt (length path) 8

-- an anchor rule without a body may call any ruleset with such a path
abbrev pub called : Draft → Call → Reach
called draft call = if has_room call.children (target_of call draft.here.own.path) then Here else Nowhere

-- a body and a file fill one ruleset below their own, by its names alone
abbrev pub is_below : Base → Bool
is_below Below = true
is_below (Up n) = false
is_below Root = false

abbrev pub names_one : Call → Bool
names_one call = is_below call.base && not call.children

-- no body and no file of the load fills it already
abbrev pub unless_filled : Draft → Option (List (List ℕ)) → Reach
unless_filled draft None = Nowhere
unless_filled draft (Some path) = if is_filled draft path then Nowhere else Into path

abbrev pub filling : Draft → Call → Reach
filling draft call = if names_one call then unless_filled draft (target_of call draft.here.own.path) else Nowhere

-- where an anchor statement leads, with a body or without one
abbrev pub reach_of : Draft → Bool → Option Call → Reach
reach_of draft body None = Nowhere
reach_of draft false (Some call) = called draft call
reach_of draft true (Some call) = filling draft call

abbrev pub reach_fault : Reach → Place → Option Fault
reach_fault Nowhere place = Some (fault_at kinds.AnchorName place)
reach_fault Here place = None
reach_fault (Into path) place = None

-- the draft where what follows goes to the ruleset that a statement leads into
abbrev pub entered : Draft → Reach → Place → Bool → Draft
entered draft Nowhere place nameless = draft
entered draft Here place nameless = draft
entered draft (Into path) place nameless = opened draft path place nameless

-- the draft where a file fills that ruleset later
abbrev pub awaiting : Draft → Reach → List ℕ → Draft
awaiting draft Nowhere file = draft
awaiting draft Here file = draft
awaiting draft (Into path) file = with_load draft path file

-- no body may load a file
abbrev pub load_fault : Draft → Place → Option Fault
load_fault draft place = where_so (is_in_body draft) kinds.NotInAnchor place
