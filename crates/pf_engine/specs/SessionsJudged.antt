-- What comes of judging the plan of a session, where it is open.
use Rattle.std.specs.Prelude.{◌≡◌, map, Option, Some, None}
use Rattle.pf_state.specs.Commits.{shelf_of}
use Rattle.pf_state.specs.Judging.{CommitJudged}
use Rattle.pf_state.specs.Verdicts.{HasShelves, refusal_in}
use Rattle.pf_state.specs.declared.commit.Verdict.{Verdict}
use Rattle.pf_state.specs.declared.machine.Machine.{Machine}
use Rattle.pf_state.specs.declared.ready.Opened.{Opened}

pub record IsVerdict (machine : Machine) (session : Opened) (verdict : Verdict) : Type 0 where
  pub judged : CommitJudged machine session (refusal_in verdict)
  pub shelves : HasShelves (map (shelf_of machine.rulesets) session.ready.parts) verdict

-- none where it isn't open
abbrev pub SessionJudged : Machine → Option Opened → Option Verdict → Type 0
SessionJudged machine None None = Unit {0}
SessionJudged machine None (Some verdict) = ⊥
SessionJudged machine (Some session) None = ⊥
SessionJudged machine (Some session) (Some verdict) = IsVerdict machine session verdict
