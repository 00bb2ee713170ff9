-- Refusals of judging are for no file, and what was judged is kept.
use Rattle.std.proofs.Common.{◌≡◌, ℕ, ◌+◌, ◌<◌, ◌≤◌, lit<, true, false, List, [], ◌∷◌, length, map, Option, Some, None, refl, sym, ap, ◌∙◌, subst, arith}
use Rattle.std.specs.Prelude.{◌==◌, nat_lt, nat_le, is_some, if◌then◌else◌}
use Rattle.std.specs.FinMap as finite
use Rattle.std.specs.List.{sum_by}
use Rattle.std.specs.Option.{option_map, option_or}
use Rattle.std.proofs.lemmas.Bool.Decides.{nat_tests}
use Rattle.pf_calls.specs.Graph.{IsShallow}
use Rattle.pf_calls.specs.declared.row.CallFault.{CallFault}
use Rattle.pf_calls.specs.declared.row.CallFault.TheVariants.{Cycle, Deep}
use Rattle.pf_optim.specs.declared.node.Node.{Node}
use Rattle.pf_reply.specs.Refusals.{unread_of}
use Rattle.pf_reply.specs.declared.refusal.Overfull.TheVariants.{Rules, Rulesets as Nodes}
use Rattle.pf_reply.specs.declared.refusal.Refusal.{Refusal}
use Rattle.pf_reply.specs.declared.refusal.Refusal.TheVariants as refusals
use Rattle.pf_shelf.specs.Shelf.{total}
use Rattle.pf_tree.specs.Order.{path_cmp}
use Rattle.pf_state.specs.Commits.{committed, loaded, paths_of}
use Rattle.pf_state.specs.Judging.{CommitJudged, Judged, LoadJudged, call_refusal}
use Rattle.pf_state.specs.Limits.{first_of, limits, most_entries, most_rules, most_rulesets, over, planned_entries, planned_rules, plans_of, tree_limits}
use Rattle.pf_state.specs.Rulesets.{Rulesets, count_entries, count_rules, graph_in}
use Rattle.pf_state.specs.Machine.{empty_machine}
use Rattle.pf_state.specs.Flushes.{flushed}
use Rattle.pf_state.specs.Sessions.{entry_refusal, finished, most_sessions, open_refusal, opened}
use Rattle.pf_state.specs.Tickets.{Tickets, stale, ticket_at}
use Rattle.pf_state.specs.declared.machine.Machine.{Machine}
use Rattle.pf_state.specs.declared.ready.Opened.{Opened}
use Rattle.pf_state.specs.declared.ready.Ready.{Ready}
use Rattle.pf_engine.specs.Kept.{IsKept}
use Rattle.pf_engine.proofs.Asking.{ReadsNothing}
use Rattle.pf_engine.proofs.FewerEntries.{flushed_fewer}
use Rattle.pf_engine.proofs.Shallow.{FewerStays, empty_shallow, flush_shallow}

pub or_nothing : (a b : Option Refusal) → ReadsNothing a → ReadsNothing b → ReadsNothing (option_or a b)
or_nothing None b h k = k
or_nothing (Some refusal) b h k = h

pub over_nothing : (most count : ℕ) (refusal : Refusal) → unread_of refusal ≡ [] → ReadsNothing (over most count refusal)
over_nothing most count refusal none = elim (nat_lt most count) as (λ b. ReadsNothing (if b then Some refusal else None)) [ true ↦ none | false ↦ tt ]

limits_nothing : (rules rulesets entries : ℕ) → ReadsNothing (first_of (limits rules rulesets entries))
limits_nothing rules rulesets entries =
    or_nothing _ _ (over_nothing most_rules rules _ refl)
    (or_nothing _ _ (over_nothing most_rulesets rulesets _ refl) (or_nothing _ None (over_nothing most_entries entries _ refl) tt))

calls_nothing : (calls : Option CallFault) → ReadsNothing (option_map call_refusal calls)
calls_nothing None = tt
calls_nothing (Some (Cycle path)) = refl
calls_nothing (Some (Deep depth)) = refl

judged_nothing : (first : List (Option Refusal)) (rulesets : Rulesets) (refusal : Option Refusal) → ReadsNothing (first_of first) → Judged first rulesets refusal → ReadsNothing refusal
judged_nothing first rulesets refusal none judged =
    subst ReadsNothing (sym judged.is)
    (or_nothing (first_of first) (first_of (option_map call_refusal judged.calls ∷ tree_limits rulesets)) none
    (or_nothing (option_map call_refusal judged.calls) (first_of (tree_limits rulesets)) (calls_nothing judged.calls)
    (limits_nothing (count_rules rulesets) (finite.len rulesets) (count_entries rulesets))))

pub load_nothing : (machine : Machine) (ready : Ready) (refusal : Option Refusal) → LoadJudged machine ready refusal → ReadsNothing refusal
load_nothing machine ready refusal judged = judged_nothing [] (committed ready.parts machine.rulesets) refusal tt judged

stale_nothing : (tickets : Tickets) (held : ℕ) (paths : List (List (List ℕ))) → ReadsNothing (stale tickets held paths)
stale_nothing tickets held [] = tt
stale_nothing tickets held (path ∷ paths) =
    elim (held == ticket_at tickets path) as (λ b. ReadsNothing (if b then stale tickets held paths else Some (refusals.Stale path held (ticket_at tickets path)))) [
      | true ↦ stale_nothing tickets held paths
      | false ↦ refl
    ]

pub commit_nothing : (machine : Machine) (session : Opened) (refusal : Option Refusal) → CommitJudged machine session refusal → ReadsNothing refusal
commit_nothing machine session refusal judged =
    judged_nothing (stale machine.tickets session.ticket (paths_of session.ready.parts) ∷ []) (committed session.ready.parts machine.rulesets) refusal (or_nothing (stale machine.tickets session.ticket (paths_of session.ready.parts)) None (stale_nothing machine.tickets session.ticket (paths_of session.ready.parts)) tt) judged

pub open_nothing : (machine : Machine) (ready : Ready) → ReadsNothing (open_refusal machine ready)
open_nothing machine ready = limits_nothing
    (sum_by (λ (opened : Opened). planned_rules opened.ready) (plans_of machine.sessions) + planned_rules ready)
    (sum_by (λ (opened : Opened). length opened.ready.parts) (plans_of machine.sessions) + length ready.parts)
    (sum_by (λ (opened : Opened). planned_entries opened.ready) (plans_of machine.sessions) + planned_entries ready)

pub entry_nothing : (machine : Machine) (name : List ℕ) → ReadsNothing (entry_refusal machine name)
entry_nothing machine name =
    or_nothing _ _
    (elim (is_some (finite.get machine.sessions name)) as (λ b. ReadsNothing (if b then Some (refusals.SessionOpen name) else None)) [ true ↦ refl | false ↦ tt ])
    (or_nothing _ None
    (elim (nat_le most_sessions (finite.len machine.sessions)) as (λ b. ReadsNothing (if b then Some refusals.SessionsFull else None)) [ true ↦ refl | false ↦ tt ]) tt)

-- none of several refusals
none_first : (a b : Option Refusal) → option_or a b ≡ None → a ≡ None
none_first None b e = refl
none_first (Some refusal) b e = e

none_behind : (a b : Option Refusal) → option_or a b ≡ None → b ≡ None
none_behind None b e = e
none_behind (Some refusal) b e = cc

no_call_fault : (calls : Option CallFault) → option_map call_refusal calls ≡ None → calls ≡ None
no_call_fault None e = refl
no_call_fault (Some fault) e = cc

not_over : (most count : ℕ) (refusal : Refusal) → over most count refusal ≡ None → count ≤ most
not_over most count refusal =
    elim (nat_lt most count) as (λ b. nat_lt most count ≡ b → (if b then Some refusal else None) ≡ None → count ≤ most) [
      | true ↦ λ is e. cc
      | false ↦ λ is e. grind (arith, nat_tests)
    ] refl

-- rulesets without a refusal
pub record Fit (rulesets : Rulesets) : Type 0 where
  pub entries : count_entries rulesets ≤ most_entries
  pub shallow : IsShallow (graph_in rulesets) 64

pub judged_fit : (first : List (Option Refusal)) (rulesets : Rulesets) → Judged first rulesets None → Fit rulesets
judged_fit first rulesets judged =
    let calls = option_map call_refusal judged.calls in
    let rules = over most_rules (count_rules rulesets) (refusals.TreeFull Rules (count_rules rulesets)) in
    let nodes = over most_rulesets (finite.len rulesets) (refusals.TreeFull Nodes (finite.len rulesets)) in
    let entries = over most_entries (count_entries rulesets) (refusals.TablesFull (count_entries rulesets)) in
    let behind = none_behind (first_of first) (option_or calls (option_or rules (option_or nodes (option_or entries None)))) (sym judged.is) in
    let bounds = none_behind calls (option_or rules (option_or nodes (option_or entries None))) behind in
    let last = none_behind nodes (option_or entries None) (none_behind rules (option_or nodes (option_or entries None)) bounds) in
    record {
      entries = not_over most_entries (count_entries rulesets) (refusals.TablesFull (count_entries rulesets)) (none_first entries None last);
      shallow = judged.are.none.0 (no_call_fault judged.calls (none_first calls (option_or rules (option_or nodes (option_or entries None))) behind));
    }

-- the machine after a load, a commit and an open
pub loaded_kept : (machine : Machine) (ready : Ready) → IsKept machine → LoadJudged machine ready None → IsKept (loaded ready machine)
loaded_kept machine ready kept judged =
    let fit = judged_fit [] (committed ready.parts machine.rulesets) judged in
    let drawn = kept.drawn in
    record { entries = fit.entries; drawn = omega arith; shallow = fit.shallow }

pub finished_kept : (machine : Machine) (name : List ℕ) (session : Opened) → IsKept machine → CommitJudged machine session None → IsKept (finished name session machine)
finished_kept machine name session kept judged =
    let fit = judged_fit (stale machine.tickets session.ticket (paths_of session.ready.parts) ∷ []) (committed session.ready.parts machine.rulesets) judged in
    record { entries = fit.entries; drawn = kept.drawn; shallow = fit.shallow }

pub opened_kept : (machine : Machine) (name : List ℕ) (ready : Ready) → IsKept machine → IsKept (opened name ready machine)
opened_kept machine name ready kept = let drawn = kept.drawn in record { entries = kept.entries; drawn = omega arith; shallow = kept.shallow }

-- the empty machine
none_at_all : {A : Type 0} (xs : List A) → length xs ≡ 0 → xs ≡ []
none_at_all [] e = refl
none_at_all (x ∷ xs) e = absurd (omega arith)

no_entries : count_entries empty_machine.rulesets ≤ most_entries
no_entries =
    let none : finite.entries empty_machine.rulesets ≡ [] = none_at_all (finite.entries empty_machine.rulesets) (sym (finite.len-entries empty_machine.rulesets) ∙ finite.len-empty path_cmp Node) in
    let count : count_entries empty_machine.rulesets ≡ 0 = ap (λ (es : List (List (List ℕ) × Node)). sum_by (λ (node : Node). total node.shelf) (map (λ (e : List (List ℕ) × Node). e.1) es)) none in
    omega (arith, count)

pub empty_kept : IsKept empty_machine
empty_kept = record { entries = no_entries; drawn = lit< tt; shallow = empty_shallow }

-- a flush
pub flushed_kept : (stays : FewerStays) (machine : Machine) (path : List (List ℕ)) → IsKept machine → IsKept (flushed path machine)
flushed_kept stays machine path kept =
    let drawn = kept.drawn in let before = kept.entries in let few = flushed_fewer path machine.rulesets in record { entries = omega arith; drawn = omega arith; shallow = flush_shallow stays machine.rulesets path kept.shallow }
