use Rattle.std.proofs.Common.{◌≡◌, sym, ap, ◌∙◌}
use Rattle.std.specs.Option.{option_or}
use Rattle.pf_expand.proofs.Firsts.{five_before, last_one}
use Rattle.pf_expand.specs.Faults as says
use Rattle.pf_expand.proofs.faults.protocol_fault.Goals as goal

pub returns : goal.returns
returns c =
    let icmp = c.icmp_needs.ensures ∙ ap (λ x. says.icmp_needs x c.args.protos.now) c.items.ensures in
    let kind = c.bad_icmp_type.ensures in
    let flags = c.flags_need.ensures in
    let user = c.unknown_user.ensures in
    let reset = c.reset_needs.ensures in
    let table = c.table_name.ensures ∙ sym (last_one (says.table_name c.args.form.now)) in
    c.or-5.ensures ∙ ap (λ x. option_or x c.table_name.result) (c.or-4.ensures ∙ ap (λ x. option_or x c.reset_needs.result) (c.or-3.ensures ∙ ap (λ x. option_or x c.unknown_user.result) (c.or-2.ensures ∙ ap (λ x. option_or x c.flags_need.result) (c.or.ensures))))
    ∙ five_before c.icmp_needs.result c.bad_icmp_type.result c.flags_need.result c.unknown_user.result c.reset_needs.result c.table_name.result
    ∙ (λ i. option_or (icmp i) (option_or (kind i) (option_or (flags i) (option_or (user i) (option_or (reset i) (table i))))))
