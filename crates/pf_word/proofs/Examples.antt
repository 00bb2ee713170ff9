-- Words and what they mean, computed.
use Rattle.std.proofs.Common.{◌≡◌, ℕ, Bool, true, false, List, [], ◌∷◌, Ok, Err, Some, None, codes, refl}
use Rattle.pf_base.specs.Decimal.{decimal_of}
use Rattle.pf_base.specs.declared.fault.FaultKind.TheVariants as kinds
use Rattle.pf_addr.specs.declared.addr.Addr.TheVariants.{V4, V6}
use Rattle.pf_addr.specs.Prefix.{whole}
use Rattle.pf_host.specs.Facts.{HostFacts, no_facts}
use Rattle.pf_ops.specs.Operator.{set_of}
use Rattle.pf_ops.specs.declared.numbers.Numbers.TheVariants as numbers
use Rattle.pf_ops.specs.declared.operator.OpKind.TheVariants.{Equal, Within, Between}
use Rattle.pf_word.specs.Hosts.{fault_of_name, meaning_of_name}
use Rattle.pf_word.specs.Numbers.{port_of, port_test}
use Rattle.pf_word.specs.Suffixes.{taken_apart}
use Rattle.pf_word.specs.Tables.{is_table_name}
use Rattle.pf_word.specs.Words.{failed, found}

-- an interface, a service and a host
some_facts : HostFacts
some_facts = record no_facts {
  interfaces = codes "em0" ∷ codes "lo0" ∷ [];
  members = (record { name = codes "em0"; value = codes "egress" }) ∷ [];
  hosts = (record { name = codes "www"; value = V4 3221225985 }) ∷ [];
  services = (record { name = codes "ssh"; value = 22 }) ∷ [];
}

both_ends : taken_apart (codes "em0:0:network") ≡ record { name = codes "em0"; network = true; first = true }
unfolding taken_apart
both_ends = refl

-- each is taken off once
one_end_each : taken_apart (codes "em0:0:0") ≡ record { name = codes "em0:0"; network = false; first = true }
unfolding taken_apart
one_end_each = refl

-- a group without addresses means no address, and that is a meaning
no_address_left : meaning_of_name some_facts (codes "egress:network") ≡ Ok []
unfolding meaning_of_name taken_apart some_facts
no_address_left = refl

a_host : meaning_of_name some_facts (codes "www") ≡ Ok (whole (V4 3221225985) ∷ [])
unfolding meaning_of_name taken_apart some_facts
a_host = refl

unknown_interface : meaning_of_name some_facts (codes "em9:network") ≡ Err (kinds.UnknownInterface (codes "em9:network"))
unfolding meaning_of_name taken_apart some_facts
unknown_interface = refl

host_with_an_end : meaning_of_name some_facts (codes "www:network") ≡ Err (kinds.UnknownInterface (codes "www:network"))
unfolding meaning_of_name taken_apart some_facts
host_with_an_end = refl

no_meaning : meaning_of_name some_facts (codes "no-route") ≡ Err (kinds.NotAnAddress (codes "no-route"))
unfolding meaning_of_name taken_apart some_facts
no_meaning = refl

a_service : port_test some_facts (record { kind = Equal; low = codes "ssh"; high = [] }) ≡ found (numbers.One (record { low = 22; high = 22 }))
unfolding port_of decimal_of set_of some_facts
a_service = refl

a_range_that_falls : port_test some_facts (record { kind = Within; low = codes "90"; high = codes "80" }) ≡ failed kinds.BadPort
unfolding port_of decimal_of some_facts
a_range_that_falls = refl

-- with its ends swapped `a><b` holds of nothing, which is no fault
an_empty_set : port_test some_facts (record { kind = Between; low = codes "90"; high = codes "80" }) ≡ found numbers.Empty
unfolding port_of decimal_of set_of some_facts
an_empty_set = refl

too_great : port_test some_facts (record { kind = Equal; low = codes "70000"; high = [] }) ≡ failed kinds.BadPort
unfolding port_of decimal_of some_facts
too_great = refl

no_service : port_test some_facts (record { kind = Within; low = codes "80"; high = codes "smtp" }) ≡ failed (kinds.UnknownService (codes "80:smtp"))
unfolding port_of decimal_of some_facts
no_service = refl

a_table : is_table_name (codes "bad_hosts-1.x") ≡ true
unfolding is_table_name
a_table = refl

the_optimisers : is_table_name (codes "__automatic_0") ≡ false
unfolding is_table_name
the_optimisers = refl
