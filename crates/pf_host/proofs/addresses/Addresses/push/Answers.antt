use Rattle.std.proofs.Common.{refl}
use Rattle.pf_host.proofs.Found.{kept_more, kept_names}
use Rattle.pf_host.proofs.addresses.Addresses.push.Goals as goal

pub invariant_of-self : goal.invariant_of-self
invariant_of-self c = kept_names c.self.inside.rows c.self.inside.ifaces c.keep.new.self c.keep.ensures.others c.self.invariant

pub invariant_of-self-in_err-push : goal.invariant_of-self-in_err-push
invariant_of-self-in_err-push c =
    rw c.in_err-push.ensures.err (kept_names c.self.inside.rows c.self.inside.ifaces c.keep.new.self c.keep.ensures.others c.self.invariant)

pub invariant_of-self-2 : goal.invariant_of-self-2
invariant_of-self-2 c =
    rw c.in_ok-push.ensures.ok
    (kept_more c.self.inside.rows c.keep.new.self _ c.has_beside-first.result (kept_names c.self.inside.rows c.self.inside.ifaces c.keep.new.self c.keep.ensures.others c.self.invariant)
    c.in_ok-keep.ensures.kept c.has_beside-first.ensures refl)
