-- Rows of small scripts, computed with the definitions.
use Rattle.std.proofs.Common.{◌≡◌, ℕ, List, ◌∷◌, Option, Some, None, Err, refl, subst, inl, inr}
use Rattle.std.specs.Prelude.{codes}
use Rattle.std.specs.Fmt.{digits}
use Rattle.pf_calls.specs.declared.row.CallFault.TheVariants.{Cycle}
use Rattle.pf_reply.specs.declared.refusal.Overfull.TheVariants.{Rulesets as Nodes}
use Rattle.pf_reply.specs.declared.refusal.Refusal.TheVariants as refusals
use Rattle.pf_reply.specs.declared.reply.Reply.TheVariants as told
use Rattle.pf_runs.specs.Runs.{reply_text}
use Rattle.pf_script.specs.declared.command.LoadLine.{LoadLine}
use Rattle.pf_state.specs.Judging.{call_refusal}
use Rattle.pf_state.specs.Limits.{first_of, limits}
use Rattle.pf_state.specs.Tickets.{stale}
use Rattle.pf_state.specs.declared.machine.Machine.{Machine}
use Rattle.pf_engine.specs.Answering.{cannot_read_line}
use Rattle.pf_engine.specs.HostLines.{FactsIn, FactsMayCome}
use Rattle.pf_engine.specs.LoadLines.{ProfileIn}
use Rattle.pf_engine.specs.SessionLines.{CommitOf}
use Rattle.pf_engine.specs.Steps.{done, done_unless, refused}
use Rattle.pf_engine.specs.Whatever.{IsOfProfile, LineMayCome}

-- a stale ruleset is told before a circle of calls, and that before the limits
stale_first : (path other : List (List ℕ)) → first_of (Some (refusals.Stale path 1 2) ∷ Some (call_refusal (Cycle other)) ∷ limits 131073 0 0) ≡ Some (refusals.Stale path 1 2)
stale_first path other = refl

circle_next : (path : List (List ℕ)) → first_of (None ∷ Some (call_refusal (Cycle path)) ∷ limits 131073 0 0) ≡ Some (refusals.CallCycle path)
circle_next path = refl

-- the limits themselves may be reached, and of those that are passed the first counts
within_limits : first_of (limits 131072 4096 262144) ≡ None
within_limits = refl

too_many_rulesets : first_of (limits 131072 4097 262145) ≡ Some (refusals.TreeFull Nodes 4097)
too_many_rulesets = refl

too_many_entries : first_of (limits 131072 4096 262145) ≡ Some (refusals.TablesFull 262145)
too_many_entries = refl

-- what is refused changes nothing; what was done is told
nothing_changes : (before after : Machine) → done_unless (Some (refusals.TablesFull 262145)) before after (told.Committed (codes "s")) ≡ refused before (refusals.TablesFull 262145)
nothing_changes before after = refl

is_done : (before after : Machine) → done_unless None before after (told.Committed (codes "s")) ≡ done after (told.Committed (codes "s"))
is_done before after = refl

-- a commit or a rollback of no session
no_session : (machine : Machine) → CommitOf None machine (codes "s") (refused machine (refusals.NoSession (codes "s")))
no_session machine = refl

-- lines as they are told
session_line : (machine : Machine) → reply_text (refused machine (refusals.NoSession (codes "s"))).reply ≡ codes "refused 6 NoSession s\n"
session_line machine = refl

file_line : cannot_read_line (codes "/etc/pf.conf") ≡ codes "refused 3 CannotRead /etc/pf.conf\n"
file_line = refl

opened_line : (machine : Machine) → reply_text (done machine (told.Opened (codes "s") 12)).reply ≡ codes "ok open s ticket=12\n"
unfolding digits
opened_line machine = refl

loaded_line : (machine : Machine) → reply_text (done machine (told.Loaded (record { rulesets = 2; rules = 10; tables = 1 }))).reply ≡ codes "ok load rulesets=2 rules=10 tables=1\n"
unfolding digits
loaded_line machine = refl

-- an absent profile, and no read where a session of the name is open
absent_profile : ProfileIn (codes "p") None (Err (refusals.CannotRead (codes "p")))
absent_profile = refl

absent_facts : FactsIn (codes "f") None (Err (refusals.CannotRead (codes "f")))
absent_facts = refl

-- whatever the files of a line hold, no limit of the tree is told for them
profile_fills_nothing : (profile : Option (List ℕ)) (count : ℕ) → IsOfProfile profile (refusals.TablesFull count) → ⊥
profile_fills_nothing None count h = h
profile_fills_nothing (Some name) count h = h

files_fill_nothing : (line : LoadLine) (count : ℕ) → LineMayCome line (Err (refusals.TablesFull count)) → ⊥
files_fill_nothing line count (inl h) = profile_fills_nothing line.profile count h
files_fill_nothing line count (inr h) = h

facts_fill_nothing : (file : List ℕ) (count : ℕ) → FactsMayCome file (Err (refusals.TablesFull count)) → ⊥
facts_fill_nothing file count h = h

-- nor a fault of a profile where the line names none
no_profile_no_fault : (line : LoadLine) (at : ℕ) → line.profile ≡ None → LineMayCome line (Err (refusals.ProfileFault at)) → ⊥
no_profile_no_fault line at none (inl h) = subst (λ (profile : Option (List ℕ)). IsOfProfile profile (refusals.ProfileFault at)) none h
no_profile_no_fault line at none (inr h) = h
