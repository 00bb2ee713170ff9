use Rattle.std.proofs.Common.{◌≡◌, sym, ap, ◌∙◌}
use Rattle.std.specs.Option.{option_or}
use Rattle.pf_expand.proofs.Firsts.{four_before}
use Rattle.pf_expand.proofs.faults.first_fault.Goals as goal

pub returns : goal.returns
returns c =
    let address = c.not_an_address.ensures in
    let mask = c.mask_too_long.ensures in
    let family = c.family_mismatch.ensures in
    let none = c.no_combination.ensures in
    let later = c.name_fault.ensures in
    c.or-4.ensures ∙ ap (λ x. option_or x c.name_fault.result) (c.or-3.ensures ∙ ap (λ x. option_or x c.no_combination.result) (c.or-2.ensures ∙ ap (λ x. option_or x c.family_mismatch.result) (c.or.ensures)))
    ∙ four_before c.not_an_address.result c.mask_too_long.result c.family_mismatch.result c.no_combination.result c.name_fault.result
    ∙ (λ i. option_or (address i) (option_or (mask i) (option_or (family i) (option_or (none i) (later i)))))
