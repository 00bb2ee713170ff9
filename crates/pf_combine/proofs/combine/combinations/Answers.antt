use Rattle.std.proofs.Common.{◌≡◌, ◌++◌, Option, true, false, take, sym, ap, ◌∙◌}
use Rattle.std.specs.Option.{option_to_list}
use Rattle.std.proofs.Math.Seq.{take-nil}
use Rattle.pf_base.specs.declared.kind.Family.{Family}
use Rattle.pf_combine.specs.Combinations.{combined, is_one}
use Rattle.pf_combine.proofs.Combined.{combined_from_first, none_of_two}
use Rattle.pf_combine.proofs.combine.combinations.Goals as goal

pub returns-then-not-are_one : goal.returns-then-not-are_one
returns-then-not-are_one c =
    let two : is_one c.args.families.now ≡ false = cc (c.if-not-are_one.true, c.are_one.ensures) in
    c.new-found.ensures ∙ sym (ap (take c.args.room) (none_of_two c.args.families.now c.args.start.now c.args.lists.now two) ∙ take-nil c.args.room)

pub returns : goal.returns
returns c =
    let one : is_one c.args.families.now ≡ true = cc (c.if-not-are_one.false, c.are_one.ensures) in
    c.in_ok-combine.ensures
    ∙ ap (λ found. take c.args.room (found ++ combined (option_to_list c.first_family.result) c.args.start.now c.args.lists.now)) c.new-found.ensures
    ∙ ap (λ (family : Option Family). take c.args.room (combined (option_to_list family) c.args.start.now c.args.lists.now)) c.first_family.ensures
    ∙ ap (take c.args.room) (sym (combined_from_first c.args.families.now c.args.start.now c.args.lists.now one))
