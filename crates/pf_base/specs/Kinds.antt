-- When two places or families are one.
use Rattle.std.specs.Prelude.{◌≡◌, Bool, true, false, refl}
use Rattle.pf_base.specs.Equality.{Equality, made_of, numbers, pairs, truths}
use Rattle.pf_base.specs.declared.fault.Place.{Place}
use Rattle.pf_base.specs.declared.kind.Family.{Family}
use Rattle.pf_base.specs.declared.kind.Family.TheVariants.{Inet, Inet6}

-- places of one file and one line
abbrev pub places : Equality Place
places = made_of (λ place. (place.file, place.line)) (λ parts. record { file = parts.0; line = parts.1 }) (λ _. refl) (pairs numbers numbers)

abbrev pub is_inet6 : Family → Bool
is_inet6 Inet = false
is_inet6 Inet6 = true

abbrev pub family_of : Bool → Family
family_of false = Inet
family_of true = Inet6

pub family_back : (family : Family) → family_of (is_inet6 family) ≡ family
family_back Inet = refl
family_back Inet6 = refl

abbrev pub families : Equality Family
families = made_of is_inet6 family_of family_back truths
