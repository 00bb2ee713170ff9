-- What stands behind the `$`, and the rest of the file behind it.
use Rattle.std.proofs.Common.{◌≡◌, ◌≤◌, sym, ap, ◌∙◌, arith}
use Rattle.pf_token.specs.Bytes.{is_name_byte, is_word_byte}
use Rattle.pf_token.specs.Macros.{value_of}
use Rattle.pf_token.specs.Reading.{left_after, weight}
use Rattle.pf_token.proofs.Weights.{weight_beyond, use_lighter, use_is}
use Rattle.pf_token.proofs.uses.read_use.Goals as goal
use Rattle.pf_token.proofs.uses.read_use.Goals.{In_ok-found, in-Refused, in-Value}

pub returns-clause-step : goal.returns-clause-step
returns-clause-step c = λ place.
    let left : c.match-found.file ≡ left_after c.in_ok-found.found c.take_name.new.self =
    elim c.match-found.branch [
      | in-Refused w ↦ w.file-is ∙ w.skip_word.ensures ∙ ap (λ found. left_after found c.take_name.new.self) (sym w.in-Refused.is)
      | in-Value w ↦ w.file-is ∙ ap (λ found. left_after found c.take_name.new.self) (sym w.in-Value.is)
    ] in
    use_is (value_of c.args.macros.now) place c.args.file.now c.take_name.new.self c.match-found.file c.deref.result.now c.in_ok-found.found
    (c.deref.ensures.value ∙ c.in_ok-name.ensures.name) c.in_ok-name.ensures.rest c.in_ok-found.ensures.found left

pub returns-clause-lighter : goal.returns-clause-lighter
returns-clause-lighter c = λ place.
    let rest = weight_beyond is_name_byte c.args.file.now in
    let name = ap weight c.in_ok-name.ensures.rest in
    let left : weight c.match-found.file ≤ weight c.args.file.now =
    elim c.match-found.branch [
      | in-Refused w ↦ omega (arith, ap weight (w.file-is ∙ w.skip_word.ensures), weight_beyond is_word_byte c.take_name.new.self)
      | in-Value w ↦ omega (arith, ap weight w.file-is)
    ] in
    use_lighter c.in_ok-found.found place c.match-found.file c.args.file.now c.in_ok-found.ensures.plain left
