use Rattle.std.proofs.Common.{◌≡◌, ℕ, Bool, List, ◌==◌, not, refl, ◌∙◌}
use Rattle.std.specs.List.{list_any}
use Rattle.pf_base.specs.declared.kind.Family.{Family}
use Rattle.pf_base.specs.declared.kind.Family.TheVariants.{Inet, Inet6}
use Rattle.pf_syntax.specs.declared.form.IcmpItem.{IcmpItem}
use Rattle.pf_expand.specs.Faults.{by_family, icmp_proto, only_for}
use Rattle.pf_expand.proofs.faults.some_lack_proto.Goals as goal

abbrev lacks : List ℕ → Family → Bool
lacks protos family = not (only_for (λ proto. proto == icmp_proto family) protos)

of_each : (protos : List ℕ) (family : Family) → by_family family (lacks protos Inet) (lacks protos Inet6) ≡ lacks protos family
of_each protos Inet = refl
of_each protos Inet6 = refl

pub returns : goal.returns
returns c =
    let protos = c.args.protos.now in
    let items = c.args.items.now in
    c.some_lack.ensures
    ∙ (λ i. list_any (λ (item : IcmpItem). by_family item.family (c.lacks_proto-inet.ensures i) (c.lacks_proto-inet6.ensures i)) items)
    ∙ (λ i. list_any (λ (item : IcmpItem). of_each protos item.family i) items)
