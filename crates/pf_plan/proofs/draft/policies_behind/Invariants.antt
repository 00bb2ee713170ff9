use Rattle.std.proofs.Common.{◌≡◌, drop}
use Rattle.pf_plan.specs.Drafts.{policies_behind}
use Rattle.pf_plan.proofs.draft.policies_behind.Given as goal

-- the lines that are left lead to what all lines lead to
abbrev pub invariant-loop-line : goal.invariant-loop-line
invariant-loop-line l = policies_behind l.policies (drop l.line-index l.lines) ≡ policies_behind l.initial.policies l.lines
