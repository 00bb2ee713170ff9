-- `commit` and `rollback` (pf(4), DIOCXCOMMIT and DIOCXROLLBACK), and `flush rules` (pfctl(8), -F).
use Rattle.std.specs.Prelude.{◌≡◌, ℕ, List, Option, Some, None}
use Rattle.std.specs.FinMap as finite
use Rattle.pf_reply.specs.declared.refusal.Refusal.{Refusal}
use Rattle.pf_reply.specs.declared.refusal.Refusal.TheVariants.{NoSession}
use Rattle.pf_reply.specs.declared.reply.Reply.TheVariants.{Committed, RolledBack, Flushed}
use Rattle.pf_runs.specs.Runs.{Stepped}
use Rattle.pf_state.specs.Flushes.{flushed}
use Rattle.pf_state.specs.Judging.{CommitJudged}
use Rattle.pf_state.specs.Sessions.{closed, finished}
use Rattle.pf_state.specs.declared.machine.Machine.{Machine}
use Rattle.pf_state.specs.declared.ready.Opened.{Opened}
use Rattle.pf_engine.specs.Steps.{done, done_unless, refused}

-- a commit of an open session: its plan is put in place, or not; the session is closed in any case
pub record Commits (machine : Machine) (name : List ℕ) (session : Opened) (does : Stepped Machine) : Type 0 where
  pub refusal : Option Refusal
  pub judged : CommitJudged machine session refusal
  pub is : does ≡ done_unless refusal (closed name machine) (finished name session machine) (Committed name)

abbrev pub CommitOf : Option Opened → Machine → List ℕ → Stepped Machine → Type 0
CommitOf None machine name does = does ≡ refused machine (NoSession name)
CommitOf (Some session) machine name does = Commits machine name session does

abbrev pub CommitDoes : Machine → List ℕ → Stepped Machine → Type 0
CommitDoes machine name does = CommitOf (finite.get machine.sessions name) machine name does

-- a session is given up
abbrev pub rolled_back : Option Opened → Machine → List ℕ → Stepped Machine
rolled_back None machine name = refused machine (NoSession name)
rolled_back (Some session) machine name = done (closed name machine) (RolledBack name)

unfoldable pub step_rollback : Machine → List ℕ → Stepped Machine
step_rollback machine name = rolled_back (finite.get machine.sessions name) machine name

unfoldable pub step_flush : Machine → List (List ℕ) → Stepped Machine
step_flush machine path = done (flushed path machine) (Flushed path)
