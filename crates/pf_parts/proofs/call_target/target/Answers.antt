use Rattle.std.proofs.Common.{ap, ◌∙◌, ◌++◌}
use Rattle.std.specs.Option.{option_and_then}
use Rattle.std.specs.Result.{result_ok}
use Rattle.pf_parts.specs.CallTarget.{target_of, within}
use Rattle.pf_parts.proofs.CallTargets.{joined_within}
use Rattle.pf_parts.proofs.call_target.target.Goals as goal

pub returns : goal.returns
unfolding target_of
returns c =
    c.ok.ensures.value
    ∙ ap result_ok c.join.ensures
    ∙ joined_within c.in_ok-start.start c.args.call.now.path
    ∙ ap (option_and_then (λ start. within (start ++ c.args.call.now.path))) c.in_ok-start.ensures
