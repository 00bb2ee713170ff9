-- The laws of lines at some lines: none of them speaks of nothing.
use Rattle.std.proofs.Common.{◌≡◌, ℕ, false, List, [], ◌∷◌, Option, Some, None, refl, sym, ap, subst, ◌∙◌, arith, if◌then◌else◌}
use Rattle.std.specs.Prelude.{◌==◌, Contains, codes, is_some}
use Rattle.std.specs.Cmp.Lexicographic.{nat_list_cmp_total}
use Rattle.std.specs.FinMap as finite
use Rattle.std.specs.Option.{option_map, option_map_or}
use Rattle.std.proofs.lemmas.Map.Made.{is_member-Decides}
use Rattle.pf_base.specs.Path.{read_path}
use Rattle.pf_base.specs.Text.{words_of}
use Rattle.pf_base.specs.declared.kind.Level.TheVariants.{None as at_no_level}
use Rattle.pf_token.specs.Bytes.{is_name_byte}
use Rattle.pf_calls.specs.CallLaws.{call_steps, paths_decide}
use Rattle.pf_calls.specs.Graph.{IsShallow, OnCycle}
use Rattle.pf_calls.specs.GraphLaws.{now_in}
use Rattle.pf_optim.specs.Ruleset.{written_of}
use Rattle.pf_optim.specs.declared.node.Node.{Node}
use Rattle.pf_parts.specs.CallTarget.{target_of}
use Rattle.pf_parts.specs.declared.call.Base.TheVariants.{Root}
use Rattle.pf_parts.specs.declared.call.Call.{Call}
use Rattle.pf_reply.specs.declared.refusal.Refusal.{Refusal}
use Rattle.pf_reply.specs.declared.refusal.Refusal.TheVariants as refusals
use Rattle.pf_reply.specs.declared.reply.Reply.TheVariants.{Flushed}
use Rattle.pf_script.specs.Command.{command_of, keyword_of}
use Rattle.pf_shelf.specs.Shelf.{name_cmp}
use Rattle.pf_source.specs.Disk.{Disk}
use Rattle.pf_state.specs.Flushes.{flushed}
use Rattle.pf_state.specs.Judging.{Judged, call_refusal}
use Rattle.pf_state.specs.Limits.{first_of, tree_limits}
use Rattle.pf_state.specs.Machine.{empty_machine}
use Rattle.pf_state.specs.Rulesets.{Rulesets, calls_in, graph_in, written_in}
use Rattle.pf_state.specs.Sessions.{closed, opened}
use Rattle.pf_state.specs.declared.machine.Machine.{Machine}
use Rattle.pf_state.specs.declared.ready.Opened.{Opened}
use Rattle.pf_state.specs.declared.ready.Staged.{Staged}
use Rattle.pf_tree.specs.GrownLaws.{path_total}
use Rattle.pf_tree.specs.Order.{path_cmp}
use Rattle.pf_engine.specs.Anew.{Begins}
use Rattle.pf_engine.specs.SessionLines.{CommitOf, rolled_back, step_flush, step_rollback}
use Rattle.pf_engine.specs.Step.{step}
use Rattle.pf_engine.specs.Steps.{done, refused}
use Rattle.pf_engine.specs.Waiting.{IsStale}
use Rattle.pf_engine.proofs.Drawing.{given_within}
use Rattle.pf_engine.proofs.Shallow.{key_of}
use Rattle.pf_engine.proofs.SomeThing.{some_calls}

abbrev no_files : Disk
no_files name = None

-- ---- lines that are refused

unknown : step no_files empty_machine (codes "reload /") (refused empty_machine refusals.BadCommand)
unfolding step command_of keyword_of words_of
unknown = refl

-- no session is open
not_open : step no_files empty_machine (codes "rollback s") (refused empty_machine (refusals.NoSession (codes "s")))
unfolding step command_of keyword_of words_of is_name_byte step_rollback
not_open = sym (ap (λ (session : Option Opened). rolled_back session empty_machine (codes "s")) (finite.get-empty name_cmp (codes "s")))

-- a session for the main ruleset, which has another ticket than the session
abbrev emptied : Staged
emptied = record { path = []; rules = written_of [] at_no_level []; tables = [] }

abbrev session : Opened
session = record { ready = record { parts = emptied ∷ []; whole = None }; ticket = 1 }

abbrev with_session : Machine
with_session = record empty_machine { sessions = finite.insert finite.empty (codes "s") session }

-- a refusal in front is the first
in_front : (first : List (Option Refusal)) (rulesets : Rulesets) (refusal : Refusal) → first_of first ≡ Some refusal → Judged first rulesets (Some refusal)
in_front first rulesets refusal is =
    let calls = some_calls rulesets in
    record { calls = calls.0; are = calls.1; is = sym (ap (λ (told : Option Refusal). first_of (told ∷ option_map call_refusal calls.0 ∷ tree_limits rulesets)) is) }

abbrev held_as : Option ℕ → ℕ
held_as ticket = option_map_or (λ ticket. ticket) ticket 0

abbrev stale_by : Option ℕ → Option Refusal
stale_by ticket = if 1 == held_as ticket then None else Some (refusals.Stale [] 1 (held_as ticket))

-- its commit is refused, and closes it
closes : step no_files with_session (codes "commit s") (refused (closed (codes "s") with_session) (refusals.Stale [] 1 0))
unfolding step command_of keyword_of words_of is_name_byte
closes =
    subst (λ (found : Option Opened). CommitOf found with_session (codes "s") (refused (closed (codes "s") with_session) (refusals.Stale [] 1 0)))
    (sym (finite.get-insert nat_list_cmp_total finite.empty (codes "s") session (codes "s")))
    (record {
      refusal = Some (refusals.Stale [] 1 0);
      judged = in_front _ _ (refusals.Stale [] 1 0) (ap (λ (ticket : Option ℕ). first_of (stale_by ticket ∷ [])) (finite.get-empty path_cmp []));
      is = refl;
    })

-- ---- rulesets that are begun anew

-- a session for the main ruleset that was just opened isn't stale
abbrev just_opened : Machine
just_opened = opened (codes "s") session.ready empty_machine

not_stale : IsStale just_opened session → ⊥
not_stale stale = stale.other (sym (given_within 1 ([] ∷ []) finite.empty stale.path stale.part))

-- a flush begins that ruleset, and the session is stale then
flushes : step no_files just_opened (codes "flush rules /") (done (flushed [] just_opened) (Flushed []))
unfolding step command_of keyword_of words_of read_path step_flush
flushes = refl

begins_main : Begins no_files just_opened (codes "flush rules /") (done (flushed [] just_opened) (Flushed [])) []
unfolding command_of keyword_of words_of read_path
begins_main = record { done = refl; begins = refl }

one_or_two : ◌≡◌ {A = ℕ} 1 2 → ⊥
one_or_two e = omega arith

stale_then : IsStale (flushed [] just_opened) session
stale_then = record { path = []; part = now_in [] []; other = λ held. one_or_two (held ∙ given_within 2 ([] ∷ []) just_opened.tickets [] (now_in [] [])) }

-- ---- rulesets that aren't shallow

abbrev to_main : Call
to_main = record { base = Root; path = []; children = false }

module _ (node : Node) (calls : Contains (calls_in node.rules.rules) to_main) where
  abbrev looped : Rulesets
  looped = finite.insert finite.empty [] node

  found : finite.get looped [] ≡ Some node
  found = finite.get-insert path_total finite.empty [] node []

  itself : OnCycle (graph_in looped) []
  unfolding target_of
  itself = record {
    more = 0;
    leads = (
      [],
      call_steps (finite.keys looped) (λ at. calls_in (written_in (finite.get looped at))) [] to_main []
          ((is_member-Decides paths_decide (finite.keys looped) []).1 (key_of looped [] (ap is_some found)))
          (subst (λ (node : Option Node). Contains (calls_in (written_in node)) to_main) (sym found) calls)
          (now_in [] []),
      refl,
    );
  }

  -- a ruleset that calls itself
  not_shallow : IsShallow (graph_in looped) 64 → ⊥
  not_shallow shallow = shallow.no_cycle [] itself
