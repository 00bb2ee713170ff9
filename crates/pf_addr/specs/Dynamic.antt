-- When two dynamic addresses are one.
use Rattle.std.specs.Prelude.{refl}
use Rattle.pf_base.specs.Equality.{Equality, lists, made_of, numbers, pairs, truths}
use Rattle.pf_addr.specs.declared.ifaces.DynIf.{DynIf}

-- one name, and the same two questions
abbrev pub dynamics : Equality DynIf
dynamics =
    made_of (λ what. (what.name, (what.network, what.first))) (λ parts. record { name = parts.0; network = parts.1.0; first = parts.1.1 }) (λ _. refl)
    (pairs (lists numbers) (pairs truths truths))
