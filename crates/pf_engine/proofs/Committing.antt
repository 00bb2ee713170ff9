-- What a line does with a session that is open, or isn't.
use Rattle.std.proofs.Common.{◌≡◌, ℕ, true, false, List, Option, Some, None, refl, sym, subst}
use Rattle.std.specs.Prelude.{IsSome, is_some}
use Rattle.std.proofs.lemmas.Bool.{false≢true}
use Rattle.std.specs.FinMap as finite
use Rattle.pf_reply.specs.declared.refusal.Refusal.{Refusal}
use Rattle.pf_reply.specs.declared.refusal.Refusal.TheVariants.{NoSession}
use Rattle.pf_reply.specs.declared.reply.Reply.TheVariants.{Committed, RolledBack}
use Rattle.pf_shelf.specs.Shelf.{Tables}
use Rattle.pf_state.specs.Sessions.{closed, finished_as}
use Rattle.pf_state.specs.declared.commit.Verdict.{Verdict}
use Rattle.pf_state.specs.declared.commit.Verdict.TheVariants.{Fits, Refused}
use Rattle.pf_state.specs.declared.machine.Machine.{Machine}
use Rattle.pf_state.specs.declared.ready.Opened.{Opened}
use Rattle.pf_engine.specs.Kept.{IsKept}
use Rattle.pf_engine.specs.SessionLines.{CommitOf, rolled_back, step_rollback}
use Rattle.pf_engine.specs.SessionsJudged.{SessionJudged}
use Rattle.pf_engine.specs.Steps.{done, refused}
use Rattle.pf_engine.proofs.Judged.{finished_kept}

-- none is open
pub none_commits : (machine : Machine) (name : List ℕ) (held : Option Opened) → SessionJudged machine held None → CommitOf held machine name (refused machine (NoSession name))
none_commits machine name None judged = refl
none_commits machine name (Some session) judged = absurd judged

none_back : (machine : Machine) (name : List ℕ) (held : Option Opened) → is_some held ≡ false → refused machine (NoSession name) ≡ rolled_back held machine name
none_back machine name None e = refl
none_back machine name (Some session) e = absurd (false≢true (sym e))

pub none_given_up : (machine : Machine) (name : List ℕ) → is_some (finite.get machine.sessions name) ≡ false → refused machine (NoSession name) ≡ step_rollback machine name
unfolding step_rollback
none_given_up machine name e = none_back machine name (finite.get machine.sessions name) e

-- one is open, and its plan fits
pub is_open : (machine : Machine) (held : Option Opened) (verdict : Verdict) → SessionJudged machine held (Some verdict) → IsSome held
is_open machine None verdict judged = absurd judged
is_open machine (Some session) verdict judged = refl

done_with : (machine : Machine) (name : List ℕ) (held : Option Opened) (shelves : List Tables) → SessionJudged machine held (Some (Fits shelves)) → CommitOf held machine name (done (finished_as name held machine) (Committed name))
done_with machine name None shelves judged = absurd judged
done_with machine name (Some session) shelves judged = record { refusal = None; judged = judged.judged; is = refl }

pub done_commits : (machine after : Machine) (name : List ℕ) (held : Option Opened) (shelves : List Tables) → SessionJudged machine held (Some (Fits shelves)) → after ≡ finished_as name held machine → CommitOf held machine name (done after (Committed name))
done_commits machine after name held shelves judged is =
    subst (λ (m : Machine). CommitOf held machine name (done m (Committed name))) (sym is) (done_with machine name held shelves judged)

kept_with : (machine : Machine) (name : List ℕ) (held : Option Opened) (shelves : List Tables) → IsKept machine → SessionJudged machine held (Some (Fits shelves)) → IsKept (finished_as name held machine)
kept_with machine name None shelves kept judged = absurd judged
kept_with machine name (Some session) shelves kept judged = finished_kept machine name session kept judged.judged

pub commit_kept : (machine after : Machine) (name : List ℕ) (held : Option Opened) (shelves : List Tables) → IsKept machine → SessionJudged machine held (Some (Fits shelves)) → after ≡ finished_as name held machine → IsKept after
commit_kept machine after name held shelves kept judged is = subst (λ (m : Machine). IsKept m) (sym is) (kept_with machine name held shelves kept judged)

-- one is open, and its plan is refused
pub refused_commits : (machine : Machine) (name : List ℕ) (held : Option Opened) (refusal : Refusal) → SessionJudged machine held (Some (Refused refusal)) → CommitOf held machine name (refused (closed name machine) refusal)
refused_commits machine name None refusal judged = absurd judged
refused_commits machine name (Some session) refusal judged = record { refusal = Some refusal; judged = judged.judged; is = refl }

-- one is open, and is given up
one_back : (machine : Machine) (name : List ℕ) (held : Option Opened) → is_some held ≡ true → done (closed name machine) (RolledBack name) ≡ rolled_back held machine name
one_back machine name None e = absurd (false≢true e)
one_back machine name (Some session) e = refl

pub given_up : (machine : Machine) (name : List ℕ) → is_some (finite.get machine.sessions name) ≡ true → done (closed name machine) (RolledBack name) ≡ step_rollback machine name
unfolding step_rollback
given_up machine name e = one_back machine name (finite.get machine.sessions name) e
