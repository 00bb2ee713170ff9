use Rattle.std.proofs.Common.{◌≡◌, ap, ◌∙◌}
use Rattle.pf_word.specs.Kinds.{icmps, protos}
use Rattle.pf_word.specs.Numbers.{id_tests}
use Rattle.pf_word.specs.declared.number.IdKind.TheVariants as ids
use Rattle.pf_expand.proofs.readings.read_kinds.Goals as goal

pub returns : goal.returns
returns c =
    let protos_are = c.in_ok-protos.ensures ∙ ap protos c.items.ensures in
    let icmp_are = c.in_ok-icmp.ensures ∙ ap icmps c.items-2.ensures in
    let users_are = c.in_ok-users.ensures ∙ ap (id_tests c.args.facts.now ids.User) c.items-3.ensures in
    let groups_are = c.in_ok-groups.ensures ∙ ap (id_tests c.args.facts.now ids.Group) c.items-4.ensures in
    (protos_are, (icmp_are, (users_are, groups_are)))
