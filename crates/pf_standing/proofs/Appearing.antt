-- A plan that is accepted appears whole, and nothing else changes with it.
use Rattle.std.proofs.Common.{◌≡◌, ℕ, ◌⊎◌, Bool, true, false, cond, List, [], ◌∷◌, Option, Some, None, Result, Ok, Err, refl, sym, ap, subst, ◌∙◌, inl, inr, if◌then◌else◌}
use Rattle.std.specs.Prelude.{◌==◌, Contains}
use Rattle.std.specs.Cmp.{Equal-is, tied_itself}
use Rattle.std.specs.FinMap as finite
use Rattle.std.specs.Option.{option_map, option_map_or}
use Rattle.std.specs.Ordering.{eq_by_cmp, is_eq}
use Rattle.std.proofs.lemmas.Bool.{cases_Bool, false≢true}
use Rattle.std.proofs.lemmas.Bool.Decides.{Decides-eqb}
use Rattle.pf_calls.specs.GraphLaws.{in_cons, later_in, none_in, now_in}
use Rattle.pf_reply.specs.declared.refusal.Refusal.{Refusal}
use Rattle.pf_reply.specs.declared.refusal.Refusal.TheVariants.{NoSession}
use Rattle.pf_reply.specs.declared.refusal.Refusal.TheVariants as refusals
use Rattle.pf_reply.specs.declared.reply.Reply.{Reply}
use Rattle.pf_reply.specs.declared.reply.Reply.TheVariants as replies
use Rattle.pf_runs.specs.Runs.{Stepped}
use Rattle.pf_script.specs.Command.{command_of}
use Rattle.pf_script.specs.declared.command.Command.{Command}
use Rattle.pf_script.specs.declared.command.Command.TheVariants as commands
use Rattle.pf_script.specs.declared.command.LoadLine.{LoadLine}
use Rattle.pf_source.specs.Disk.{Disk}
use Rattle.pf_state.specs.Commits.{committed, loaded, paths_of}
use Rattle.pf_state.specs.Judging.{CommitJudged, call_refusal}
use Rattle.pf_state.specs.Limits.{first_of, tree_limits}
use Rattle.pf_state.specs.Sessions.{closed, finished}
use Rattle.pf_state.specs.Tickets.{Tickets, given, stale, ticket_at}
use Rattle.pf_state.specs.declared.machine.Machine.{Machine}
use Rattle.pf_state.specs.declared.ready.Opened.{Opened}
use Rattle.pf_state.specs.declared.ready.Ready.{Ready}
use Rattle.pf_tree.specs.GrownLaws.{name_total, path_same, path_total}
use Rattle.pf_tree.specs.Order.{path_cmp}
use Rattle.pf_engine.specs.LoadLines.{LineComes, LoadDoes, Loading, filled_of}
use Rattle.pf_engine.specs.SessionLines.{CommitOf}
use Rattle.pf_engine.specs.Step.{LineDoes, step}
use Rattle.pf_engine.specs.Steps.{done_unless, refused}
use Rattle.pf_standing.specs.Appearing.{AppearsByCommit, AppearsByLoad}
use Rattle.pf_standing.proofs.Carrying.{no_first}
use Rattle.pf_standing.proofs.Finding.{name_tied, name_untied, none_some}
use Rattle.pf_standing.proofs.Saying.{IsOneReplacement}

abbrev Path : Type 0
Path = List (List ℕ)

-- ---- paths

tie_is : (a b : Path) → eq_by_cmp path_cmp a b ≡ true → a ≡ b
tie_is a b h = path_same a b ((Equal-is (path_cmp a b)).0 h)

tied : (a : Path) → eq_by_cmp path_cmp a a ≡ true
tied a = ap is_eq (tied_itself path_total a)

same_or_other : (a b : Path) → (a ≡ b) ⊎ (a ≡ b → ⊥)
same_or_other a b =
    elim (cases_Bool (eq_by_cmp path_cmp a b)) [
      | inl is ↦ inl (tie_is a b is)
      | inr isnt ↦ inr (λ e. false≢true (sym isnt ∙ ap (λ (x : Path). eq_by_cmp path_cmp a x) (sym e) ∙ tied a))
    ]

untied : (a b : Path) → (a ≡ b → ⊥) → eq_by_cmp path_cmp a b ≡ false
untied a b other = elim (cases_Bool (eq_by_cmp path_cmp a b)) [ inl is ↦ absurd (other (tie_is a b is)) | inr isnt ↦ isnt ]

-- ---- tickets that are given

abbrev number : Option ℕ → ℕ
number ticket = option_map_or (λ ticket. ticket) ticket 0

inserted : (tickets : Tickets) (at : Path) (n : ℕ) (path : Path) → finite.get (finite.insert tickets at n) path ≡ cond (eq_by_cmp path_cmp path at) (Some n) (finite.get tickets path)
inserted tickets at n path = finite.get-insert path_total tickets at n path

at_own : (tickets : Tickets) (path : Path) (n : ℕ) → ticket_at (finite.insert tickets path n) path ≡ n
at_own tickets path n = ap number (inserted tickets path n path ∙ ap (λ (b : Bool). cond b (Some n) (finite.get tickets path)) (tied path))

at_other : (tickets : Tickets) (at : Path) (n : ℕ) (path : Path) → (path ≡ at → ⊥) → ticket_at (finite.insert tickets at n) path ≡ ticket_at tickets path
at_other tickets at n path other = ap number (inserted tickets at n path ∙ ap (λ (b : Bool). cond b (Some n) (finite.get tickets path)) (untied path at other))

given_kept : (n : ℕ) (paths : List Path) (tickets : Tickets) (path : Path) → ticket_at tickets path ≡ n → ticket_at (given n paths tickets) path ≡ n
given_kept n [] tickets path is = is
given_kept n (at ∷ paths) tickets path is =
    given_kept n paths (finite.insert tickets at n) path
    (elim (same_or_other path at) [
      | inl same ↦ subst (λ (q : Path). ticket_at (finite.insert tickets at n) q ≡ n) (sym same) (at_own tickets at n)
      | inr other ↦ at_other tickets at n path other ∙ is
    ])

-- each of the paths has the ticket
pub given_within : (n : ℕ) (paths : List Path) (tickets : Tickets) (path : Path) → Contains paths path → ticket_at (given n paths tickets) path ≡ n
given_within n [] tickets path within = absurd (none_in path within)
given_within n (at ∷ paths) tickets path within =
    elim (in_cons at paths path within) [
      | inl same ↦ given_kept n paths (finite.insert tickets at n) path (subst (λ (q : Path). ticket_at (finite.insert tickets at n) q ≡ n) same (at_own tickets at n))
      | inr later ↦ given_within n paths (finite.insert tickets at n) path later
    ]

-- all others have theirs
pub given_outside : (n : ℕ) (paths : List Path) (tickets : Tickets) (path : Path) → (Contains paths path → ⊥) → ticket_at (given n paths tickets) path ≡ ticket_at tickets path
given_outside n [] tickets path outside = refl
given_outside n (at ∷ paths) tickets path outside =
    given_outside n paths (finite.insert tickets at n) path (λ within. outside (later_in at paths path within))
    ∙ at_other tickets at n path (λ same. outside (subst (λ (q : Path). Contains (at ∷ paths) q) (sym same) (now_in at paths)))

-- where none is stale, each of the paths has the ticket that is held
all_held : (tickets : Tickets) (held : ℕ) (paths : List Path) → stale tickets held paths ≡ None → (path : Path) → Contains paths path → ticket_at tickets path ≡ held
all_held tickets held [] none path within = absurd (none_in path within)
all_held tickets held (at ∷ paths) none path within =
    from (λ rest later. all_held tickets held paths rest path later) (held == ticket_at tickets at) refl none (in_cons at paths path within)
  where
    from : (stale tickets held paths ≡ None → Contains paths path → ticket_at tickets path ≡ held) → (b : Bool) → (held == ticket_at tickets at) ≡ b
        → (if b then stale tickets held paths else Some (refusals.Stale at held (ticket_at tickets at))) ≡ None → (at ≡ path) ⊎ Contains paths path → ticket_at tickets path ≡ held
    from on true same rest (inl here) = subst (λ (q : Path). ticket_at tickets q ≡ held) here (sym ((Decides-eqb held (ticket_at tickets at)).0 same))
    from on true same rest (inr later) = on rest later
    from on false other e place = absurd (none_some _ (sym e))

-- ---- lines that are done

finished_by : (refusal : Option Refusal) (before after : Machine) (reply : Reply) (does : Stepped Machine) → does ≡ done_unless refusal before after reply → does.refused ≡ false → does.machine ≡ after
finished_by None before after reply does e h = ap (λ (d : Stepped Machine). d.machine) e
finished_by (Some refusal) before after reply does e h = absurd (false≢true (sym h ∙ ap (λ (d : Stepped Machine). d.refused) e))

none_told : (refusal : Option Refusal) (before after : Machine) (reply : Reply) (does : Stepped Machine) → does ≡ done_unless refusal before after reply → does.refused ≡ false → refusal ≡ None
none_told None before after reply does e h = refl
none_told (Some refusal) before after reply does e h = absurd (false≢true (sym h ∙ ap (λ (d : Stepped Machine). d.refused) e))

none_stale : (machine : Machine) (session : Opened) (refusal : Option Refusal) → CommitJudged machine session refusal → refusal ≡ None → stale machine.tickets session.ticket (paths_of session.ready.parts) ≡ None
none_stale machine session refusal judged none =
    (no_first (stale machine.tickets session.ticket (paths_of session.ready.parts)) None
    (no_first (first_of (stale machine.tickets session.ticket (paths_of session.ready.parts) ∷ [])) (first_of (option_map call_refusal judged.calls ∷ tree_limits (committed session.ready.parts machine.rulesets))) (sym judged.is ∙ none)).0).0

not_refused : (machine : Machine) (refusal : Refusal) (does : Stepped Machine) → does ≡ refused machine refusal → does.refused ≡ false → ⊥
not_refused machine refusal does e h = false≢true (sym h ∙ ap (λ (d : Stepped Machine). d.refused) e)

module _ (law : IsOneReplacement) where
  finished_appears : (machine : Machine) (name : List ℕ) (session : Opened) → finite.get machine.sessions name ≡ Some session → stale machine.tickets session.ticket (paths_of session.ready.parts) ≡ None → AppearsByCommit name machine (finished name session machine)
  finished_appears machine name session there none = record {
    session = session;
    was_open = there;
    fresh = all_held machine.tickets session.ticket (paths_of session.ready.parts) none;
    appears = record { rulesets = law session.ready.parts machine.rulesets; whole = refl; facts = refl };
    closed = finite.get-remove name_total machine.sessions name name ∙ ap (λ (b : Bool). cond b None (finite.get machine.sessions name)) (name_tied name);
    others = λ other apart. finite.get-remove name_total machine.sessions name other ∙ ap (λ (b : Bool). cond b None (finite.get machine.sessions other)) (name_untied other name apart);
    tickets = refl;
    next = refl;
  }

  loaded_appears : (disk : Disk) (line : LoadLine) (machine : Machine) (ready : Ready) → LineComes disk machine.facts line (Ok ready) → AppearsByLoad disk line machine (loaded ready machine)
  loaded_appears disk line machine ready comes = record {
    ready = ready;
    comes = comes;
    appears = record { rulesets = law ready.parts machine.rulesets; whole = refl; facts = refl };
    sessions = refl;
    drawn = given_within machine.next (paths_of ready.parts) machine.tickets;
    others = given_outside machine.next (paths_of ready.parts) machine.tickets;
    next = refl;
  }

  by_commit : (session : Option Opened) (machine : Machine) (name : List ℕ) (does : Stepped Machine) → finite.get machine.sessions name ≡ session → does.refused ≡ false → CommitOf session machine name does → AppearsByCommit name machine does.machine
  by_commit None machine name does there accepted e = absurd (not_refused machine (NoSession name) does e accepted)
  by_commit (Some session) machine name does there accepted commits =
      subst (λ (after : Machine). AppearsByCommit name machine after)
      (sym (finished_by commits.refusal (closed name machine) (finished name session machine) (replies.Committed name) does commits.is accepted))
      (finished_appears machine name session there (none_stale machine session commits.refusal commits.judged (none_told commits.refusal (closed name machine) (finished name session machine) (replies.Committed name) does commits.is accepted)))

  by_load : (disk : Disk) (line : LoadLine) (machine : Machine) (answer : Result Ready Refusal) (does : Stepped Machine) → does.refused ≡ false → LineComes disk machine.facts line answer → Loading machine answer does → AppearsByLoad disk line machine does.machine
  by_load disk line machine (Err refusal) does accepted comes e = absurd (not_refused machine refusal does e accepted)
  by_load disk line machine (Ok ready) does accepted comes puts =
      subst (λ (after : Machine). AppearsByLoad disk line machine after)
      (sym (finished_by puts.refusal machine (loaded ready machine) (replies.Loaded (filled_of ready)) does puts.is accepted))
      (loaded_appears disk line machine ready comes)

  pub commit_appears : (disk : Disk) (machine : Machine) (line name : List ℕ) (does : Stepped Machine) → command_of line ≡ Some (commands.Commit name) → step disk machine line does → does.refused ≡ false → AppearsByCommit name machine does.machine
  unfolding step
  commit_appears disk machine line name does is steps accepted =
      by_commit (finite.get machine.sessions name) machine name does refl accepted (subst (λ (command : Option Command). LineDoes disk machine command does) is steps)

  pub load_appears : (disk : Disk) (machine : Machine) (line : List ℕ) (options : LoadLine) (does : Stepped Machine) → command_of line ≡ Some (commands.Load options) → step disk machine line does → does.refused ≡ false → AppearsByLoad disk options machine does.machine
  unfolding step
  load_appears disk machine line options does is steps accepted =
      let load : LoadDoes disk machine options does = subst (λ (command : Option Command). LineDoes disk machine command does) is steps in
      by_load disk options machine load.answer does accepted load.comes load.loading
