-- Tickets that are given to paths, and what is true of drawn tickets behind that.
use Rattle.std.proofs.Common.{◌≡◌, ℕ, ◌+◌, ◌<◌, ◌≤◌, ◌⊎◌, Bool, true, false, cond, List, [], ◌∷◌, Option, Some, None, refl, sym, ap, ◌∙◌, subst, inl, inr, arith}
use Rattle.std.specs.Prelude.{Contains}
use Rattle.std.specs.Cmp.{Equal-is, tied_itself}
use Rattle.std.specs.Cmp.Lexicographic.{nat_list_cmp_total}
use Rattle.std.specs.FinMap as finite
use Rattle.std.specs.Option.{option_map_or}
use Rattle.std.specs.Ordering.{eq_by_cmp, is_eq}
use Rattle.std.specs.Set.{is_member}
use Rattle.std.proofs.lemmas.Bool.{cases_Bool, false≢true}
use Rattle.std.proofs.lemmas.Map.Made.{is_member-Decides}
use Rattle.pf_calls.specs.CallLaws.{paths_decide}
use Rattle.pf_calls.specs.Calls.{path_eq}
use Rattle.pf_calls.specs.GraphLaws.{in_cons, later_in, none_in, now_in}
use Rattle.pf_shelf.specs.Shelf.{name_cmp}
use Rattle.pf_tree.specs.GrownLaws.{name_same, path_same, path_total}
use Rattle.pf_tree.specs.Order.{path_cmp}
use Rattle.pf_state.specs.Commits.{paths_of}
use Rattle.pf_state.specs.Machine.{empty_machine}
use Rattle.pf_state.specs.Sessions.{opened}
use Rattle.pf_state.specs.Tickets.{Tickets, given, ticket_at}
use Rattle.pf_state.specs.declared.machine.Machine.{Machine}
use Rattle.pf_state.specs.declared.ready.Opened.{Opened}
use Rattle.pf_state.specs.declared.ready.Ready.{Ready}
use Rattle.pf_engine.specs.Anew.{IsDrawn, IsNew, TicketsAreDrawn}

abbrev pub Path : Type 0
Path = List (List ℕ)

-- ---- numbers

lt_same : (t u n m : ℕ) → u ≡ t → m ≡ n → t < n → u < m
lt_same t u n m e f h = omega arith

lt_more : (t u n m : ℕ) → u ≡ t → m ≡ n + 1 → t < n → u < m
lt_more t u n m e f h = omega arith

lt_new : (u n m : ℕ) → u ≡ n → m ≡ n + 1 → u < m
lt_new u n m e f = omega arith

le_same : (s t u : ℕ) → u ≡ t → s ≤ t → s ≤ u
le_same s t u e h = omega arith

le_new : (s u n : ℕ) → u ≡ n → s < n → s ≤ u
le_new s u n e h = omega arith

le_own : (s u n : ℕ) → s ≡ n → u ≡ n → s ≤ u
le_own s u n e f = omega arith

zero_below : (u : ℕ) → u ≡ 0 → u < 1
zero_below u e = omega arith

pub not_below : (t n : ℕ) → t < n → t ≡ n → ⊥
not_below t n h e = omega arith

-- ---- paths

tie_is : (a b : Path) → eq_by_cmp path_cmp a b ≡ true → a ≡ b
tie_is a b h = path_same a b ((Equal-is (path_cmp a b)).0 h)

tied : (a : Path) → eq_by_cmp path_cmp a a ≡ true
tied a = ap is_eq (tied_itself path_total a)

same_or_other : (a b : Path) → (a ≡ b) ⊎ (a ≡ b → ⊥)
same_or_other a b =
    elim (cases_Bool (eq_by_cmp path_cmp a b)) [
      | inl is ↦ inl (tie_is a b is)
      | inr isnt ↦ inr (λ e. false≢true (sym isnt ∙ ap (λ (x : Path). eq_by_cmp path_cmp a x) (sym e) ∙ tied a))
    ]

untied : (a b : Path) → (a ≡ b → ⊥) → eq_by_cmp path_cmp a b ≡ false
untied a b other = elim (cases_Bool (eq_by_cmp path_cmp a b)) [ inl is ↦ absurd (other (tie_is a b is)) | inr isnt ↦ isnt ]

pub within_or_not : (paths : List Path) (path : Path) → Contains paths path ⊎ (Contains paths path → ⊥)
within_or_not paths path =
    elim (cases_Bool (is_member path_eq paths path)) [
      | inl is ↦ inl ((is_member-Decides paths_decide paths path).0 is)
      | inr isnt ↦ inr (λ within. false≢true (sym isnt ∙ (is_member-Decides paths_decide paths path).1 within))
    ]

-- ---- tickets that are given

abbrev number : Option ℕ → ℕ
number ticket = option_map_or (λ ticket. ticket) ticket 0

inserted : (tickets : Tickets) (at : Path) (n : ℕ) (path : Path) → finite.get (finite.insert tickets at n) path ≡ cond (eq_by_cmp path_cmp path at) (Some n) (finite.get tickets path)
inserted tickets at n path = finite.get-insert path_total tickets at n path

at_own : (tickets : Tickets) (path : Path) (n : ℕ) → ticket_at (finite.insert tickets path n) path ≡ n
at_own tickets path n = ap number (inserted tickets path n path ∙ ap (λ (b : Bool). cond b (Some n) (finite.get tickets path)) (tied path))

at_other : (tickets : Tickets) (at : Path) (n : ℕ) (path : Path) → (path ≡ at → ⊥) → ticket_at (finite.insert tickets at n) path ≡ ticket_at tickets path
at_other tickets at n path other = ap number (inserted tickets at n path ∙ ap (λ (b : Bool). cond b (Some n) (finite.get tickets path)) (untied path at other))

given_kept : (n : ℕ) (paths : List Path) (tickets : Tickets) (path : Path) → ticket_at tickets path ≡ n → ticket_at (given n paths tickets) path ≡ n
given_kept n [] tickets path is = is
given_kept n (at ∷ paths) tickets path is =
    given_kept n paths (finite.insert tickets at n) path
    (elim (same_or_other path at) [
      | inl same ↦ subst (λ (q : Path). ticket_at (finite.insert tickets at n) q ≡ n) (sym same) (at_own tickets at n)
      | inr other ↦ at_other tickets at n path other ∙ is
    ])

-- each of the paths has the ticket
pub given_within : (n : ℕ) (paths : List Path) (tickets : Tickets) (path : Path) → Contains paths path → ticket_at (given n paths tickets) path ≡ n
given_within n [] tickets path within = absurd (none_in path within)
given_within n (at ∷ paths) tickets path within =
    elim (in_cons at paths path within) [
      | inl same ↦ given_kept n paths (finite.insert tickets at n) path (subst (λ (q : Path). ticket_at (finite.insert tickets at n) q ≡ n) same (at_own tickets at n))
      | inr later ↦ given_within n paths (finite.insert tickets at n) path later
    ]

-- all others have theirs
pub given_outside : (n : ℕ) (paths : List Path) (tickets : Tickets) (path : Path) → (Contains paths path → ⊥) → ticket_at (given n paths tickets) path ≡ ticket_at tickets path
given_outside n [] tickets path outside = refl
given_outside n (at ∷ paths) tickets path outside =
    given_outside n paths (finite.insert tickets at n) path (λ within. outside (later_in at paths path within))
    ∙ at_other tickets at n path (λ same. outside (subst (λ (q : Path). Contains (at ∷ paths) q) (sym same) (now_in at paths)))

-- ---- what a line may do with tickets and sessions

-- no ticket is drawn, and each open session was open before
pub record Keeps (before after : Machine) : Type 0 where
  pub tickets : after.tickets ≡ before.tickets
  pub next : after.next ≡ before.next
  pub sessions : (name : List ℕ) (session : Opened) → finite.get after.sessions name ≡ Some session → finite.get before.sessions name ≡ Some session

-- a session for these paths has the ticket that was next
pub record IsFor (paths : List Path) (before : Machine) (session : Opened) : Type 0 where
  pub ticket : session.ticket ≡ before.next
  pub plan : paths_of session.ready.parts ≡ paths

-- the next ticket is drawn for these paths, and each open session was open before or has it
pub record Draws (paths : List Path) (before after : Machine) : Type 0 where
  pub tickets : after.tickets ≡ given before.next paths before.tickets
  pub next : after.next ≡ before.next + 1
  pub sessions : (name : List ℕ) (session : Opened) → finite.get after.sessions name ≡ Some session → (finite.get before.sessions name ≡ Some session) ⊎ IsFor paths before session

pub kept_ticket : (before after : Machine) → Keeps before after → (path : Path) → ticket_at after.tickets path ≡ ticket_at before.tickets path
kept_ticket before after keeps path = ap (λ (tickets : Tickets). ticket_at tickets path) keeps.tickets

pub drawn_ticket : (paths : List Path) (before after : Machine) → Draws paths before after → (path : Path) → Contains paths path → ticket_at after.tickets path ≡ before.next
drawn_ticket paths before after draws path within =
    ap (λ (tickets : Tickets). ticket_at tickets path) draws.tickets ∙ given_within before.next paths before.tickets path within

pub other_ticket : (paths : List Path) (before after : Machine) → Draws paths before after → (path : Path) → (Contains paths path → ⊥) → ticket_at after.tickets path ≡ ticket_at before.tickets path
other_ticket paths before after draws path outside =
    ap (λ (tickets : Tickets). ticket_at tickets path) draws.tickets ∙ given_outside before.next paths before.tickets path outside

-- ---- drawn tickets stay drawn

pub keeps_drawn : (before after : Machine) → Keeps before after → TicketsAreDrawn before → TicketsAreDrawn after
keeps_drawn before after keeps drawn = record {
  paths = λ path. lt_same (ticket_at before.tickets path) (ticket_at after.tickets path) before.next after.next (kept_ticket before after keeps path) keeps.next (drawn.paths path);
  sessions = λ name session there. let was = drawn.sessions name session (keeps.sessions name session there) in record {
    drawn = lt_same session.ticket session.ticket before.next after.next refl keeps.next was.drawn;
    rulesets = λ path part. le_same session.ticket (ticket_at before.tickets path) (ticket_at after.tickets path) (kept_ticket before after keeps path) (was.rulesets path part);
  };
}

module _ (paths : List Path) (before after : Machine) (draws : Draws paths before after) where
  path_drawn : (path : Path) → ticket_at before.tickets path < before.next → ticket_at after.tickets path < after.next
  path_drawn path was =
      elim (within_or_not paths path) [
        | inl within ↦ lt_new (ticket_at after.tickets path) before.next after.next (drawn_ticket paths before after draws path within) draws.next
        | inr outside ↦ lt_more (ticket_at before.tickets path) (ticket_at after.tickets path) before.next after.next (other_ticket paths before after draws path outside) draws.next was
      ]

  -- a session that was open before
  older : (session : Opened) → IsDrawn before session → IsDrawn after session
  older session was = record {
    drawn = lt_more session.ticket session.ticket before.next after.next refl draws.next was.drawn;
    rulesets = λ path part. elim (within_or_not paths path) [
      | inl within ↦ le_new session.ticket (ticket_at after.tickets path) before.next (drawn_ticket paths before after draws path within) was.drawn
      | inr outside ↦ le_same session.ticket (ticket_at before.tickets path) (ticket_at after.tickets path) (other_ticket paths before after draws path outside) (was.rulesets path part)
    ];
  }

  -- the one for which the ticket was drawn
  newer : (session : Opened) → IsFor paths before session → IsDrawn after session
  newer session is = record {
    drawn = lt_new session.ticket before.next after.next is.ticket draws.next;
    rulesets = λ path part.
        le_own session.ticket (ticket_at after.tickets path) before.next is.ticket
        (drawn_ticket paths before after draws path (subst (λ (ps : List Path). Contains ps path) is.plan part));
  }

  pub draws_drawn : TicketsAreDrawn before → TicketsAreDrawn after
  draws_drawn drawn = record {
    paths = λ path. path_drawn path (drawn.paths path);
    sessions = λ name session there. elim (draws.sessions name session there) [
      | inl was ↦ older session (drawn.sessions name session was)
      | inr is ↦ newer session is
    ];
  }

pub none_open : (session : Opened) → None ≡ Some session → ⊥
none_open session e = Prim.cc

pub empty_drawn : TicketsAreDrawn empty_machine
empty_drawn = record {
  paths = λ path. zero_below (ticket_at empty_machine.tickets path) (ap number (finite.get-empty path_cmp path));
  sessions = λ name session there. absurd (none_open session (sym (finite.get-empty name_cmp name) ∙ there));
}

pub next_new : (machine : Machine) → TicketsAreDrawn machine → IsNew machine machine.next
next_new machine drawn = record {
  paths = λ path. not_below (ticket_at machine.tickets path) machine.next (drawn.paths path);
  sessions = λ name session there. not_below session.ticket machine.next (drawn.sessions name session there).drawn;
}

-- ---- sessions that are closed and opened

kept_open : (b : Bool) (found : Option Opened) (session : Opened) → cond b None found ≡ Some session → found ≡ Some session
kept_open true found session e = absurd (none_open session e)
kept_open false found session e = e

pub still_open : (machine : Machine) (name other : List ℕ) (session : Opened) → finite.get (finite.remove machine.sessions name) other ≡ Some session → finite.get machine.sessions other ≡ Some session
still_open machine name other session there =
    kept_open (eq_by_cmp name_cmp other name) (finite.get machine.sessions other) session (sym (finite.get-remove nat_list_cmp_total machine.sessions name other) ∙ there)

-- the session that an `open` adds
abbrev pub new_session : Machine → Ready → Opened
new_session machine ready = record { ready = ready; ticket = machine.next }

pub there_now : (machine : Machine) (name : List ℕ) (ready : Ready) → finite.get (opened name ready machine).sessions name ≡ Some (new_session machine ready)
there_now machine name ready =
    finite.get-insert nat_list_cmp_total machine.sessions name (new_session machine ready) name
    ∙ ap (λ (b : Bool). cond b (Some (new_session machine ready)) (finite.get machine.sessions name)) (ap is_eq (tied_itself nat_list_cmp_total name))

pub inside : {A : Type 0} (x y : A) → Some x ≡ Some y → x ≡ y
inside x y e = Prim.cc

-- the session of another name was open before, and that of this name is the new one
pub record IsNewest (name other : List ℕ) (new session : Opened) : Type 0 where
  pub named : other ≡ name
  pub is : new ≡ session

newest_or_older : (b : Bool) (name other : List ℕ) (new : Opened) (found : Option Opened) (session : Opened) → (b ≡ true → other ≡ name) → cond b (Some new) found ≡ Some session → (found ≡ Some session) ⊎ IsNewest name other new session
newest_or_older true name other new found session tie e = inr (record { named = tie refl; is = inside new session e })
newest_or_older false name other new found session tie e = inl e

pub opened_or_older : (machine : Machine) (name : List ℕ) (ready : Ready) (other : List ℕ) (session : Opened) → finite.get (opened name ready machine).sessions other ≡ Some session → (finite.get machine.sessions other ≡ Some session) ⊎ IsNewest name other (new_session machine ready) session
opened_or_older machine name ready other session there =
    newest_or_older (eq_by_cmp name_cmp other name) name other (new_session machine ready) (finite.get machine.sessions other) session
    (λ tie. name_same other name ((Equal-is (name_cmp other name)).0 tie))
    (sym (finite.get-insert nat_list_cmp_total machine.sessions name (new_session machine ready) other) ∙ there)
