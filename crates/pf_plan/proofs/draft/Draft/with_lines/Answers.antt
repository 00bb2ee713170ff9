use Rattle.pf_plan.proofs.Places.{lines_within}
use Rattle.pf_plan.proofs.draft.Draft.with_lines.Goals as goal

pub returns-clause-within : goal.returns-clause-within
returns-clause-within c = λ count so. rw (c.in_ok-options.ensures, c.policies_behind-policies.ensures, c.items.ensures) (lines_within c.args.self c.args.lines count so)
