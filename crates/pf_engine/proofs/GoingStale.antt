-- A session goes stale exactly where one of its rulesets is begun anew, and its commit tells so.
use Rattle.std.proofs.Common.{◌≡◌, ℕ, ◌<◌, ◌≤◌, ◌⊎◌, ◌↔◌, Bool, true, false, get_or, List, [], ◌∷◌, ◌++◌, Option, Some, None, refl, sym, ap, subst, ◌∙◌, inl, inr, le_refl, le_trans, lt_of_lt_of_le, arith, if◌then◌else◌}
use Rattle.std.specs.Prelude.{◌==◌, Contains, nat_eq, nat_lt}
use Rattle.std.specs.FinMap as finite
use Rattle.std.specs.Option.{option_map, option_or}
use Rattle.std.proofs.lemmas.Bool.{cases_Bool, eqb-false, eqb-true, false≢true}
use Rattle.pf_calls.specs.GraphLaws.{in_cons, later_in, none_in, now_in}
use Rattle.pf_calls.specs.declared.row.CallFault.{CallFault}
use Rattle.pf_calls.specs.declared.row.CallFault.TheVariants.{Cycle, Deep}
use Rattle.pf_reply.specs.Refusals.{refusal_text}
use Rattle.pf_reply.specs.Replies.{reply_text}
use Rattle.pf_reply.specs.declared.refusal.Overfull.TheVariants.{Rules, Rulesets as Nodes}
use Rattle.pf_reply.specs.declared.refusal.Refusal.{Refusal}
use Rattle.pf_reply.specs.declared.refusal.Refusal.TheVariants as refusals
use Rattle.pf_reply.specs.declared.reply.Reply.TheVariants as replies
use Rattle.pf_runs.specs.Runs.{Event, Follow, Stepped, machine_after}
use Rattle.pf_script.specs.Command.{command_of}
use Rattle.pf_script.specs.declared.command.Command.TheVariants as commands
use Rattle.pf_source.specs.Disk.{Disk, without}
use Rattle.pf_state.specs.Commits.{committed, paths_of}
use Rattle.pf_state.specs.Judging.{call_refusal}
use Rattle.pf_state.specs.Limits.{first_of, limits, most_entries, most_rules, most_rulesets, over, tree_limits}
use Rattle.pf_state.specs.Machine.{empty_machine}
use Rattle.pf_state.specs.Rulesets.{count_entries, count_rules}
use Rattle.pf_state.specs.Sessions.{closed, finished}
use Rattle.pf_state.specs.Tickets.{Tickets, stale, ticket_at}
use Rattle.pf_shelf.specs.Shelf.{name_cmp}
use Rattle.pf_state.specs.declared.machine.Machine.{Machine}
use Rattle.pf_state.specs.declared.ready.Opened.{Opened}
use Rattle.pf_engine.specs.Anew.{Begins, BeginsAmong, IsBegunAnew, IsDrawn, IsStaleSince, OpensSession, RefusesStale, TellsStale, TicketsAreDrawn}
use Rattle.pf_engine.specs.Reached.{IsReached}
use Rattle.pf_engine.specs.SessionLines.{Commits}
use Rattle.pf_engine.specs.Step.{step}
use Rattle.pf_engine.specs.Steps.{done_unless}
use Rattle.pf_engine.specs.Waiting.{IsStale}
use Rattle.pf_engine.proofs.Beginning.{IsOpenedNow, begun_or_kept, next_rises, open_or_opened, opened_anew, stays_drawn}
use Rattle.pf_engine.proofs.Drawing.{Path, empty_drawn, inside, none_open, not_below}
use Rattle.pf_engine.proofs.Waits.{commits}

-- ---- numbers

le_is : (t u : ℕ) → u ≡ t → t ≤ u
le_is t u e = omega arith

le_of_lt : (t u n : ℕ) → u ≡ n → t < n → t ≤ u
le_of_lt t u n e h = omega arith

lt_le : (t n u v : ℕ) → t < n → u ≡ n → u ≤ v → t < v
lt_le t n u v h e k = omega arith

between : (s b a : ℕ) → s ≤ b → b ≤ a → s ≡ a → s ≡ b
between s b a h k e = omega arith

-- ---- runs

pub run_drawn : (disk : Disk) (machine : Machine) (events : List (Event Machine)) → TicketsAreDrawn machine → Follow step disk machine events → TicketsAreDrawn (machine_after machine events)
run_drawn disk machine [] drawn follow = drawn
run_drawn disk machine (event ∷ events) drawn follow =
    run_drawn disk event.does.machine events (stays_drawn (without event.outage disk) machine event.line event.does drawn follow.0) follow.2

pub reached_drawn : (machine : Machine) → IsReached machine → TicketsAreDrawn machine
reached_drawn machine reached = subst TicketsAreDrawn (sym reached.is) (run_drawn reached.disk empty_machine reached.events empty_drawn reached.follow)

-- each ruleset has the ticket that it had, or one of the events begins it
kept_or_begun : (disk : Disk) (machine : Machine) (events : List (Event Machine)) → Follow step disk machine events → (path : Path)
    → (ticket_at (machine_after machine events).tickets path ≡ ticket_at machine.tickets path) ⊎ BeginsAmong disk machine events path
kept_or_begun disk machine [] follow path = inl refl
kept_or_begun disk machine (event ∷ events) follow path =
    elim (begun_or_kept (without event.outage disk) machine event.line event.does path follow.0) [
      | inl begins ↦ inr (inl begins)
      | inr same ↦ elim (kept_or_begun disk event.does.machine events follow.2 path) [ inl later ↦ inl (later ∙ same) | inr begins ↦ inr (inr begins) ]
    ]

-- what lines say of rulesets that they begin
abbrev pub HasNext : Type 0
HasNext = (disk : Disk) (machine : Machine) (line : List ℕ) (does : Stepped Machine) (path : List (List ℕ)) → step disk machine line does → Begins disk machine line does path → ticket_at does.machine.tickets path ≡ machine.next

module _ (has_next : HasNext) where
  -- no ticket of a ruleset falls
  rises : (disk : Disk) (machine : Machine) (line : List ℕ) (does : Stepped Machine) → TicketsAreDrawn machine → step disk machine line does → (path : Path) → ticket_at machine.tickets path ≤ ticket_at does.machine.tickets path
  rises disk machine line does drawn steps path =
      elim (begun_or_kept disk machine line does path steps) [
        | inl begins ↦ le_of_lt (ticket_at machine.tickets path) (ticket_at does.machine.tickets path) machine.next (has_next disk machine line does path steps begins) (drawn.paths path)
        | inr same ↦ le_is (ticket_at machine.tickets path) (ticket_at does.machine.tickets path) same
      ]

  rises_on : (disk : Disk) (machine : Machine) (events : List (Event Machine)) → TicketsAreDrawn machine → Follow step disk machine events → (path : Path) → ticket_at machine.tickets path ≤ ticket_at (machine_after machine events).tickets path
  rises_on disk machine [] drawn follow path = le_refl (ticket_at machine.tickets path)
  rises_on disk machine (event ∷ events) drawn follow path =
      le_trans
      (rises (without event.outage disk) machine event.line event.does drawn follow.0 path)
      (rises_on disk event.does.machine events (stays_drawn (without event.outage disk) machine event.line event.does drawn follow.0) follow.2 path)

  -- a ruleset that one of the events begins has a later ticket than those that were drawn before
  begun_later : (disk : Disk) (machine : Machine) (events : List (Event Machine)) (held : ℕ) → TicketsAreDrawn machine → held < machine.next → Follow step disk machine events → (path : Path) → BeginsAmong disk machine events path
      → held < ticket_at (machine_after machine events).tickets path
  begun_later disk machine [] held drawn below follow path begins = absurd begins
  begun_later disk machine (event ∷ events) held drawn below follow path begins =
      let stays = stays_drawn (without event.outage disk) machine event.line event.does drawn follow.0 in
      elim begins [
        | inl now ↦ lt_le held machine.next (ticket_at event.does.machine.tickets path) (ticket_at (machine_after event.does.machine events).tickets path) below
            (has_next (without event.outage disk) machine event.line event.does path follow.0 now) (rises_on disk event.does.machine events stays follow.2 path)
        | inr later ↦ begun_later disk event.does.machine events held stays
            (lt_of_lt_of_le below (next_rises (without event.outage disk) machine event.line event.does follow.0)) follow.2 path later
      ]

  module _ (disk : Disk) (machine : Machine) (session : Opened) (events : List (Event Machine)) (drawn : TicketsAreDrawn machine) (is : IsDrawn machine session) (follow : Follow step disk machine events) where
    stale_before : IsStale (machine_after machine events) session → IsStale machine session ⊎ IsBegunAnew disk machine events session
    stale_before stale =
        elim (kept_or_begun disk machine events follow stale.path) [
          | inl same ↦ inl (record { path = stale.path; part = stale.part; other = λ held. stale.other (held ∙ sym same) })
          | inr begins ↦ inr (record { path = stale.path; part = stale.part; begins = begins })
        ]

    still_stale : IsStale machine session → IsStale (machine_after machine events) session
    still_stale stale = record {
      path = stale.path;
      part = stale.part;
      other = λ held. stale.other
          (between session.ticket (ticket_at machine.tickets stale.path) (ticket_at (machine_after machine events).tickets stale.path)
          (is.rulesets stale.path stale.part) (rises_on disk machine events drawn follow stale.path) held);
    }

    stale_since : IsBegunAnew disk machine events session → IsStale (machine_after machine events) session
    stale_since anew = record {
      path = anew.path;
      part = anew.part;
      other = λ held. not_below session.ticket (ticket_at (machine_after machine events).tickets anew.path)
          (begun_later disk machine events session.ticket drawn is.drawn follow anew.path anew.begins) held;
    }

    stale_exactly : IsStale (machine_after machine events) session ↔ (IsStale machine session ⊎ IsBegunAnew disk machine events session)
    stale_exactly = (stale_before, λ either. elim either [ inl stale ↦ still_stale stale | inr anew ↦ stale_since anew ])

  pub goes_stale : (disk : Disk) (machine : Machine) (name : List ℕ) (session : Opened) (events : List (Event Machine)) → TicketsAreDrawn machine → finite.get machine.sessions name ≡ Some session → Follow step disk machine events
      → IsStale (machine_after machine events) session ↔ (IsStale machine session ⊎ IsBegunAnew disk machine events session)
  goes_stale disk machine name session events drawn there follow = stale_exactly disk machine session events drawn (drawn.sessions name session there) follow

-- ---- what a commit tells

-- the first of these paths that has another ticket
record HasFirst (tickets : Tickets) (held : ℕ) (paths : List Path) : Type 0 where
  path : Path
  part : Contains paths path
  before : List Path
  behind : List Path
  are : paths ≡ before ++ path ∷ behind
  kept : (earlier : Path) → Contains before earlier → held ≡ ticket_at tickets earlier
  other : held ≡ ticket_at tickets path → ⊥
  told : stale tickets held paths ≡ Some (refusals.Stale path held (ticket_at tickets path))

-- none of them has
record HasNone (tickets : Tickets) (held : ℕ) (paths : List Path) : Type 0 where
  kept : (path : Path) → Contains paths path → held ≡ ticket_at tickets path
  told : stale tickets held paths ≡ None

module _ (tickets : Tickets) (held : ℕ) where
  -- a path with the ticket stands in front of others
  agrees : (first : Path) (earlier : List Path) → held ≡ ticket_at tickets first → ((path : Path) → Contains earlier path → held ≡ ticket_at tickets path) → (path : Path) → Contains (first ∷ earlier) path → held ≡ ticket_at tickets path
  agrees first earlier same kept path within =
      elim (in_cons first earlier path within) [ inl e ↦ same ∙ ap (ticket_at tickets) e | inr later ↦ kept path later ]

  abbrev tell : Path → List Path → Bool → Option Refusal
  tell first paths b = if b then stale tickets held paths else Some (refusals.Stale first held (ticket_at tickets first))

  in_front : (first : Path) (paths : List Path) → held ≡ ticket_at tickets first → (held == ticket_at tickets first) ≡ true → HasFirst tickets held paths → HasFirst tickets held (first ∷ paths)
  in_front first paths same is rest = record {
    path = rest.path;
    part = later_in first paths rest.path rest.part;
    before = first ∷ rest.before;
    behind = rest.behind;
    are = ap (λ (ps : List Path). first ∷ ps) rest.are;
    kept = agrees first rest.before same rest.kept;
    other = rest.other;
    told = ap (tell first paths) is ∙ rest.told;
  }

  at_front : (first : Path) (paths : List Path) → (held == ticket_at tickets first) ≡ false → HasFirst tickets held (first ∷ paths)
  at_front first paths isnt = record {
    path = first;
    part = now_in first paths;
    before = [];
    behind = paths;
    are = refl;
    kept = λ earlier within. absurd (none_in earlier within);
    other = eqb-false held (ticket_at tickets first) isnt;
    told = ap (tell first paths) isnt;
  }

  none_in_front : (first : Path) (paths : List Path) → held ≡ ticket_at tickets first → (held == ticket_at tickets first) ≡ true → HasNone tickets held paths → HasNone tickets held (first ∷ paths)
  none_in_front first paths same is rest = record { kept = agrees first paths same rest.kept; told = ap (tell first paths) is ∙ rest.told }

  first_or_none : (paths : List Path) → HasFirst tickets held paths ⊎ HasNone tickets held paths
  first_or_none [] = inr (record { kept = λ path within. absurd (none_in path within); told = refl })
  first_or_none (first ∷ paths) =
      elim (cases_Bool (held == ticket_at tickets first)) [
        | inr isnt ↦ inl (at_front first paths isnt)
        | inl is ↦ elim (first_or_none paths) [
          | inl rest ↦ inl (in_front first paths (eqb-true held (ticket_at tickets first) is) is rest)
          | inr rest ↦ inr (none_in_front first paths (eqb-true held (ticket_at tickets first) is) is rest)
        ]
      ]

-- a refusal with another number
abbrev IsAnother : Option Refusal → Type 0
IsAnother None = Unit {0}
IsAnother (Some refusal) = nat_eq (get_or (refusal_text refusal) 8 0) 52 ≡ false

another_or : (a b : Option Refusal) → IsAnother a → IsAnother b → IsAnother (option_or a b)
another_or None b h k = k
another_or (Some refusal) b h k = h

another_over : (most count : ℕ) (refusal : Refusal) → nat_eq (get_or (refusal_text refusal) 8 0) 52 ≡ false → IsAnother (over most count refusal)
another_over most count refusal is = elim (nat_lt most count) as (λ b. IsAnother (if b then Some refusal else None)) [ true ↦ is | false ↦ tt ]

another_limit : (rules rulesets entries : ℕ) → IsAnother (first_of (limits rules rulesets entries))
another_limit rules rulesets entries =
    another_or _ _ (another_over most_rules rules (refusals.TreeFull Rules rules) refl)
    (another_or _ _ (another_over most_rulesets rulesets (refusals.TreeFull Nodes rulesets) refl) (another_or _ None (another_over most_entries entries (refusals.TablesFull entries) refl) tt))

another_call : (fault : Option CallFault) → IsAnother (option_map call_refusal fault)
another_call None = tt
another_call (Some (Cycle path)) = refl
another_call (Some (Deep depth)) = refl

inner : (x y : List ℕ) → x ∷ [] ≡ y ∷ [] → x ≡ y
inner x y e = Prim.cc

-- so the reply tells of no stale session
tells_another : (refusal : Option Refusal) (before after : Machine) (name : List ℕ) (does : Stepped Machine) → IsAnother refusal → does ≡ done_unless refusal before after (replies.Committed name) → TellsStale does → ⊥
tells_another None before after name does is e tells =
    let text = inner (reply_text (replies.Committed name)) (refusal_text (refusals.Stale tells.path tells.held tells.now)) (sym (ap (λ (d : Stepped Machine). d.reply) e) ∙ tells.is) in
    false≢true (ap (λ (bytes : List ℕ). nat_eq (get_or bytes 0 0) 114) text)
tells_another (Some refusal) before after name does is e tells =
    let text = inner (refusal_text refusal) (refusal_text (refusals.Stale tells.path tells.held tells.now)) (sym (ap (λ (d : Stepped Machine). d.reply) e) ∙ tells.is) in
    false≢true (sym is ∙ ap (λ (bytes : List ℕ). nat_eq (get_or bytes 8 0) 52) text)

module _ (machine : Machine) (name : List ℕ) (session : Opened) (does : Stepped Machine) (commit : Commits machine name session does) where
  abbrev paths : List Path
  paths = paths_of session.ready.parts

  -- what a commit is refused for, by the stale ruleset in front
  abbrev judged_by : Option Refusal → Option Refusal
  judged_by front = first_of (first_of (front ∷ []) ∷ option_map call_refusal commit.judged.calls ∷ tree_limits (committed session.ready.parts machine.rulesets))

  refuses_first : HasFirst machine.tickets session.ticket paths → RefusesStale machine name session does
  refuses_first found =
      let refusal : commit.refusal ≡ Some (refusals.Stale found.path session.ticket (ticket_at machine.tickets found.path)) = commit.judged.is ∙ ap judged_by found.told in
      record {
        path = found.path;
        first = record { before = found.before; behind = found.behind; are = found.are; kept = found.kept; other = found.other };
        is = commit.is ∙ ap (λ (told : Option Refusal). done_unless told (closed name machine) (finished name session machine) (replies.Committed name)) refusal;
      }

  pub refuses_stale : IsStale machine session → RefusesStale machine name session does
  refuses_stale is =
      elim (first_or_none machine.tickets session.ticket paths) [
        | inl found ↦ refuses_first found
        | inr none ↦ absurd (is.other (none.kept is.path is.part))
      ]

  another : HasNone machine.tickets session.ticket paths → IsAnother commit.refusal
  another none =
      let refusal : commit.refusal ≡ judged_by None = commit.judged.is ∙ ap judged_by none.told in
      subst IsAnother (sym refusal)
      (another_or (option_map call_refusal commit.judged.calls) (first_of (tree_limits (committed session.ready.parts machine.rulesets))) (another_call commit.judged.calls)
      (another_limit (count_rules (committed session.ready.parts machine.rulesets)) (finite.len (committed session.ready.parts machine.rulesets)) (count_entries (committed session.ready.parts machine.rulesets))))

  pub only_stale : TellsStale does → IsStale machine session
  only_stale tells =
      elim (first_or_none machine.tickets session.ticket paths) [
        | inl found ↦ record { path = found.path; part = found.part; other = found.other }
        | inr none ↦ absurd (tells_another commit.refusal (closed name machine) (finished name session machine) name does (another none) commit.is tells)
      ]

pub tells : (machine : Machine) (name : List ℕ) (session : Opened) (does : Stepped Machine) → RefusesStale machine name session does → TellsStale does
tells machine name session does refuses = record {
  path = refuses.path;
  held = session.ticket;
  now = ticket_at machine.tickets refuses.path;
  is = ap (λ (d : Stepped Machine). d.reply) refuses.is;
}

pub commit_refuses : (disk : Disk) (machine : Machine) (line name : List ℕ) (session : Opened) (does : Stepped Machine) → command_of line ≡ Some (commands.Commit name) → finite.get machine.sessions name ≡ Some session → step disk machine line does
    → IsStale machine session → RefusesStale machine name session does
commit_refuses disk machine line name session does is there steps stale = refuses_stale machine name session does (commits disk machine line name session does is there steps) stale

pub commit_tells : (disk : Disk) (machine : Machine) (line name : List ℕ) (session : Opened) (does : Stepped Machine) → command_of line ≡ Some (commands.Commit name) → finite.get machine.sessions name ≡ Some session → step disk machine line does
    → TellsStale does ↔ IsStale machine session
commit_tells disk machine line name session does is there steps = (
  only_stale machine name session does (commits disk machine line name session does is there steps),
  λ stale. tells machine name session does (commit_refuses disk machine line name session does is there steps stale),
)

-- ---- runs with a commit

-- the events of a run that opened a session, and those since then
record WasOpened (events : List (Event Machine)) (name : List ℕ) (session : Opened) : Type 0 where
  before : List (Event Machine)
  opening : Event Machine
  since : List (Event Machine)
  are : events ≡ before ++ opening ∷ since
  opens : OpensSession opening name session

was_opened_later : (event : Event Machine) (events : List (Event Machine)) (name : List ℕ) (session : Opened) → WasOpened events name session → WasOpened (event ∷ events) name session
was_opened_later event events name session was = record {
  before = event ∷ was.before;
  opening = was.opening;
  since = was.since;
  are = ap (λ (es : List (Event Machine)). event ∷ es) was.are;
  opens = was.opens;
}

was_opened_first : (event : Event Machine) (events : List (Event Machine)) (name : List ℕ) (session : Opened) → IsOpenedNow event.line name event.does → finite.get event.does.machine.sessions name ≡ Some session → WasOpened (event ∷ events) name session
was_opened_first event events name session now there = record {
  before = [];
  opening = event;
  since = events;
  are = refl;
  opens = record { options = now.options; opens = now.is; done = now.done; there = there };
}

open_or_was_opened : (disk : Disk) (machine : Machine) (events : List (Event Machine)) (name : List ℕ) (session : Opened) → Follow step disk machine events → finite.get (machine_after machine events).sessions name ≡ Some session
    → (finite.get machine.sessions name ≡ Some session) ⊎ WasOpened events name session
open_or_was_opened disk machine [] name session follow there = inl there
open_or_was_opened disk machine (event ∷ events) name session follow there =
    elim (open_or_was_opened disk event.does.machine events name session follow.2 there) [
      | inr was ↦ inr (was_opened_later event events name session was)
      | inl still ↦ elim (open_or_opened (without event.outage disk) machine event.line name session event.does follow.0 still) [
        | inl older ↦ inl older
        | inr now ↦ inr (was_opened_first event events name session now still)
      ]
    ]

was_opened : (disk : Disk) (events : List (Event Machine)) (name : List ℕ) (session : Opened) → Follow step disk empty_machine events → finite.get (machine_after empty_machine events).sessions name ≡ Some session → WasOpened events name session
was_opened disk events name session follow there =
    elim (open_or_was_opened disk empty_machine events name session follow there) [
      | inl first ↦ absurd (none_open session (sym (finite.get-empty name_cmp name) ∙ first))
      | inr was ↦ was
    ]

-- events one after the other
front_follows : (disk : Disk) (machine : Machine) (events more : List (Event Machine)) → Follow step disk machine (events ++ more) → Follow step disk machine events
front_follows disk machine [] more follow = tt
front_follows disk machine (event ∷ events) more follow = (follow.0, follow.1, front_follows disk event.does.machine events more follow.2)

rest_follows : (disk : Disk) (machine : Machine) (events more : List (Event Machine)) → Follow step disk machine (events ++ more) → Follow step disk (machine_after machine events) more
rest_follows disk machine [] more follow = follow
rest_follows disk machine (event ∷ events) more follow = rest_follows disk event.does.machine events more follow.2

after_both : (machine : Machine) (events : List (Event Machine)) (opening : Event Machine) (since : List (Event Machine)) → machine_after machine (events ++ opening ∷ since) ≡ machine_after opening.does.machine since
after_both machine [] opening since = refl
after_both machine (event ∷ events) opening since = after_both event.does.machine events opening since

module _ (has_next : HasNext) where
  -- a session that was just opened
  since_opened : (disk : Disk) (machine : Machine) (opening : Event Machine) (since : List (Event Machine)) (name : List ℕ) (session : Opened) → TicketsAreDrawn machine → OpensSession opening name session → Follow step disk machine (opening ∷ since)
      → IsStale (machine_after opening.does.machine since) session ↔ IsBegunAnew disk opening.does.machine since session
  since_opened disk machine opening since name session drawn opens follow =
      let anew = opened_anew (without opening.outage disk) machine opening.line name opens.options opening.does opens.opens follow.0 opens.done in
      let same : anew.session ≡ session = inside anew.session session (sym anew.there ∙ opens.there) in
      let stays = stays_drawn (without opening.outage disk) machine opening.line opening.does drawn follow.0 in
      let exactly = goes_stale has_next disk opening.does.machine name session since stays opens.there follow.2 in (
        λ stale. elim (exactly.0 stale) [ inl first ↦ absurd (anew.anew (subst (IsStale opening.does.machine) (sym same) first)) | inr begun ↦ begun ],
        λ begun. exactly.1 (inr begun),
      )

  run_exactly : (disk : Disk) (events : List (Event Machine)) (commit : Event Machine) (name : List ℕ) (session : Opened) → Follow step disk empty_machine events → step (without commit.outage disk) (machine_after empty_machine events) commit.line commit.does
      → command_of commit.line ≡ Some (commands.Commit name) → finite.get (machine_after empty_machine events).sessions name ≡ Some session → WasOpened events name session → IsStaleSince disk events name session commit.does
  run_exactly disk events commit name session follow steps is there was =
      let follows : Follow step disk empty_machine (was.before ++ was.opening ∷ was.since) = subst (λ (es : List (Event Machine)). Follow step disk empty_machine es) was.are follow in
      let drawn = run_drawn disk empty_machine was.before empty_drawn (front_follows disk empty_machine was.before (was.opening ∷ was.since) follows) in
      let since = since_opened disk (machine_after empty_machine was.before) was.opening was.since name session drawn was.opens (rest_follows disk empty_machine was.before (was.opening ∷ was.since) follows) in
      let after : machine_after empty_machine events ≡ machine_after was.opening.does.machine was.since =
      ap (λ (es : List (Event Machine)). machine_after empty_machine es) was.are ∙ after_both empty_machine was.before was.opening was.since in
      let says = commit_tells (without commit.outage disk) (machine_after empty_machine events) commit.line name session commit.does is there steps in
      record {
        before = was.before;
        opening = was.opening;
        since = was.since;
        are = was.are;
        opens = was.opens;
        exactly = (
          λ tells. since.0 (subst (λ (machine : Machine). IsStale machine session) after (says.0 tells)),
          λ begun. says.1 (subst (λ (machine : Machine). IsStale machine session) (sym after) (since.1 begun)),
        );
      }

  pub commit_in_run : (disk : Disk) (events : List (Event Machine)) (commit : Event Machine) (name : List ℕ) (session : Opened) → Follow step disk empty_machine (events ++ commit ∷ []) → command_of commit.line ≡ Some (commands.Commit name)
      → finite.get (machine_after empty_machine events).sessions name ≡ Some session → IsStaleSince disk events name session commit.does
  commit_in_run disk events commit name session follow is there =
      let front = front_follows disk empty_machine events (commit ∷ []) follow in
      let last = rest_follows disk empty_machine events (commit ∷ []) follow in
      run_exactly disk events commit name session front last.0 is there (was_opened disk events name session front there)
