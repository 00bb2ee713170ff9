-- No ticket is 0: so it is at first, and each line keeps it.
use Rattle.std.proofs.Common.{◌≡◌, ℕ, ◌+◌, ◌<◌, Bool, true, false, cond, List, [], ◌∷◌, Option, Some, None, sym, subst, ◌∙◌, arith}
use Rattle.std.specs.FinMap as finite
use Rattle.std.specs.Ordering.{eq_by_cmp}
use Rattle.pf_shelf.specs.Shelf.{name_cmp}
use Rattle.pf_state.specs.Commits.{paths_of}
use Rattle.pf_state.specs.Machine.{empty_machine}
use Rattle.pf_state.specs.Tickets.{Tickets, given}
use Rattle.pf_state.specs.declared.machine.Machine.{Machine}
use Rattle.pf_state.specs.declared.ready.Opened.{Opened}
use Rattle.pf_tree.specs.GrownLaws.{name_total, path_total}
use Rattle.pf_tree.specs.Order.{path_cmp}
use Rattle.pf_standing.specs.Numbers.{AreNumbers, TicketsAreNumbers}
use Rattle.pf_standing.proofs.Carrying.{Keeps}
use Rattle.pf_standing.proofs.Finding.{none_some, same_some}

one_more : (n : ℕ) → 0 < n + 1
one_more n = omega arith

one_given : (tickets : Tickets) (at : List (List ℕ)) (n : ℕ) → 0 < n → AreNumbers tickets → AreNumbers (finite.insert tickets at n)
one_given tickets at n more each path ticket found = from (eq_by_cmp path_cmp path at) (sym (finite.get-insert path_total tickets at n path) ∙ found)
  where
    from : (b : Bool) → cond b (Some n) (finite.get tickets path) ≡ Some ticket → 0 < ticket
    from true e = subst (λ (m : ℕ). 0 < m) (same_some n ticket e) more
    from false e = each path ticket e

all_given : (n : ℕ) (paths : List (List (List ℕ))) (tickets : Tickets) → 0 < n → AreNumbers tickets → AreNumbers (given n paths tickets)
all_given n [] tickets more each = each
all_given n (at ∷ paths) tickets more each = all_given n paths (finite.insert tickets at n) more (one_given tickets at n more each)

abbrev HaveNumbers : finite.FinMap name_cmp Opened → Type 0
HaveNumbers sessions = (name : List ℕ) (session : Opened) → finite.get sessions name ≡ Some session → 0 < session.ticket

one_opened : (sessions : finite.FinMap name_cmp Opened) (name : List ℕ) (session : Opened) → 0 < session.ticket → HaveNumbers sessions → HaveNumbers (finite.insert sessions name session)
one_opened sessions name session more each other found is = from (eq_by_cmp name_cmp other name) (sym (finite.get-insert name_total sessions name session other) ∙ is)
  where
    from : (b : Bool) → cond b (Some session) (finite.get sessions other) ≡ Some found → 0 < found.ticket
    from true e = subst (λ (one : Opened). 0 < one.ticket) (same_some session found e) more
    from false e = each other found e

one_closed : (sessions : finite.FinMap name_cmp Opened) (name : List ℕ) → HaveNumbers sessions → HaveNumbers (finite.remove sessions name)
one_closed sessions name each other found is = from (eq_by_cmp name_cmp other name) (sym (finite.get-remove name_total sessions name other) ∙ is)
  where
    from : (b : Bool) → cond b None (finite.get sessions other) ≡ Some found → 0 < found.ticket
    from true e = absurd (none_some found e)
    from false e = each other found e

pub empty_numbers : TicketsAreNumbers empty_machine
empty_numbers = record {
  next = one_more 0;
  paths = λ path ticket found. absurd (none_some ticket (sym (finite.get-empty path_cmp path) ∙ found));
  sessions = λ name session found. absurd (none_some session (sym (finite.get-empty name_cmp name) ∙ found));
}

pub keeps_numbers : Keeps TicketsAreNumbers
keeps_numbers = record {
  loads = λ machine ready plain fits are. record { next = one_more machine.next; paths = all_given machine.next (paths_of ready.parts) machine.tickets are.next are.paths; sessions = are.sessions };
  opens = λ machine name ready plain enters fits are. record {
    next = one_more machine.next;
    paths = all_given machine.next (paths_of ready.parts) machine.tickets are.next are.paths;
    sessions = one_opened machine.sessions name (record { ready = ready; ticket = machine.next }) are.next are.sessions;
  };
  closes = λ machine name are. record { next = are.next; paths = are.paths; sessions = one_closed machine.sessions name are.sessions };
  commits = λ machine name session there fits are. record { next = are.next; paths = are.paths; sessions = one_closed machine.sessions name are.sessions };
  flushes = λ machine path are. record { next = one_more machine.next; paths = all_given machine.next (path ∷ []) machine.tickets are.next are.paths; sessions = are.sessions };
  changes = λ machine path name kind entries allowed are. record { next = are.next; paths = are.paths; sessions = are.sessions };
  facts = λ machine facts are. record { next = are.next; paths = are.paths; sessions = are.sessions };
}
