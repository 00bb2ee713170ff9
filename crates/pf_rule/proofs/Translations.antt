-- Translations of packets.
use Rattle.std.proofs.Common.{◌≡◌, ℕ, Bool, true, false, cond, eqb, Option, Some, None, refl, ap, sym, ◌∙◌, eq-eqb}
use Rattle.std.specs.Option.{option_or}
use borrow.Author.Tests.{eqb-true}
use Rattle.pf_addr.specs.Addr.{same_family, width}
use Rattle.pf_addr.specs.declared.addr.Addr.{Addr}
use Rattle.pf_rule.specs.Criteria.{is_tcp_or_udp}
use Rattle.pf_rule.specs.Translation.{port_behind, source_changed, suits, target_changed, target_over, translated}
use Rattle.pf_rule.specs.declared.packet.Packet.{Packet}
use Rattle.pf_rule.specs.declared.translation.Target.{Target}

-- what replaces twice replaces once
pub or_twice : {T : Type 0} → (new old : Option T) → option_or new (option_or new old) ≡ option_or new old
or_twice None old = refl
or_twice (Some x) old = refl

-- a translation laid twice over another is it laid once
pub target_over_twice : (new old : Option Target) → target_over new (target_over new old) ≡ target_over new old
target_over_twice None old = refl
target_over_twice (Some new) None = ap (λ port. Some (record { addr = new.addr; port = port })) (or_itself new.port)
  where
    or_itself : (port : Option ℕ) → option_or port port ≡ port
    or_itself None = refl
    or_itself (Some n) = refl
target_over_twice (Some new) (Some old) = ap (λ port. Some (record { addr = new.addr; port = port })) (or_twice new.port old.port)

-- an address is of its own family
own_family : (addr : Addr) → same_family addr addr ≡ true
own_family addr = eq-eqb (width addr) (width addr) refl

-- where two are of one family, a third is of the family of both or of none
family_through : (third one other : Addr) → same_family one other ≡ true → same_family third one ≡ same_family third other
family_through third one other same = ap (λ w. eqb (width third) w) (eqb-true (width one) (width other) same)

port_at_twice : (has : Bool) (new old : Option ℕ) → cond has (option_or new (cond has (option_or new old) old)) (cond has (option_or new old) old) ≡ cond has (option_or new old) old
port_at_twice true new old = or_twice new old
port_at_twice false new old = refl

port_twice : (new : Target) (packet : Packet) (port : Option ℕ) → port_behind new packet (port_behind new packet port) ≡ port_behind new packet port
port_twice new packet port = port_at_twice (is_tcp_or_udp packet.proto) new.port port

-- the packet with a new source
with_source : Target → Packet → Packet
with_source new packet = record packet { source = new.addr; source_port = port_behind new packet packet.source_port }

-- the packet with a new target
with_target : Target → Packet → Packet
with_target new packet = record packet { target = new.addr; target_port = port_behind new packet packet.target_port }

source_is : (new : Target) (packet : Packet) (b : Bool) → suits new packet ≡ b → source_changed new packet ≡ cond b (with_source new packet) packet
unfolding source_changed with_source
source_is new packet b e = ap (λ b. cond b (with_source new packet) packet) e

target_is : (new : Target) (packet : Packet) (b : Bool) → suits new packet ≡ b → target_changed new packet ≡ cond b (with_target new packet) packet
unfolding target_changed with_target
target_is new packet b e = ap (λ b. cond b (with_target new packet) packet) e

source_at_twice : (new : Target) (packet : Packet) (b : Bool) → suits new packet ≡ b → source_changed new (source_changed new packet) ≡ source_changed new packet
unfolding with_source
source_at_twice new packet true e =
    ap (source_changed new) (source_is new packet true e)
    ∙ source_is new (with_source new packet) true (own_family new.addr)
    ∙ ap (λ port. record packet { source = new.addr; source_port = port }) (port_twice new packet packet.source_port)
    ∙ sym (source_is new packet true e)
source_at_twice new packet false e = ap (source_changed new) (source_is new packet false e)

-- a source changed twice is changed once
pub source_twice : (new : Target) (packet : Packet) → source_changed new (source_changed new packet) ≡ source_changed new packet
source_twice new packet = source_at_twice new packet (suits new packet) refl

target_at_twice : (new : Target) (packet : Packet) (b : Bool) → suits new packet ≡ b → target_changed new (target_changed new packet) ≡ target_changed new packet
unfolding with_target
target_at_twice new packet true e =
    ap (target_changed new) (target_is new packet true e)
    ∙ target_is new (with_target new packet) true e
    ∙ ap (λ port. record packet { target = new.addr; target_port = port }) (port_twice new packet packet.target_port)
    ∙ sym (target_is new packet true e)
target_at_twice new packet false e = ap (target_changed new) (target_is new packet false e)

-- and so a target
pub target_twice : (new : Target) (packet : Packet) → target_changed new (target_changed new packet) ≡ target_changed new packet
target_twice new packet = target_at_twice new packet (suits new packet) refl

apart_at : (nat rdr : Target) (packet : Packet) (s t : Bool) → suits nat packet ≡ s → suits rdr packet ≡ t
    → source_changed nat (target_changed rdr packet) ≡ target_changed rdr (source_changed nat packet)
unfolding with_source with_target
apart_at nat rdr packet true true e f =
    ap (source_changed nat) (target_is rdr packet true f)
    ∙ source_is nat (with_target rdr packet) true e
    ∙ sym (target_is rdr (with_source nat packet) true (family_through rdr.addr nat.addr packet.source e ∙ f))
    ∙ ap (target_changed rdr) (sym (source_is nat packet true e))
apart_at nat rdr packet true false e f =
    ap (source_changed nat) (target_is rdr packet false f)
    ∙ source_is nat packet true e
    ∙ sym (target_is rdr (with_source nat packet) false (family_through rdr.addr nat.addr packet.source e ∙ f))
    ∙ ap (target_changed rdr) (sym (source_is nat packet true e))
apart_at nat rdr packet false true e f =
    ap (source_changed nat) (target_is rdr packet true f)
    ∙ source_is nat (with_target rdr packet) false e
    ∙ sym (target_is rdr packet true f)
    ∙ ap (target_changed rdr) (sym (source_is nat packet false e))
apart_at nat rdr packet false false e f =
    ap (source_changed nat) (target_is rdr packet false f)
    ∙ source_is nat packet false e
    ∙ sym (target_is rdr packet false f)
    ∙ ap (target_changed rdr) (sym (source_is nat packet false e))

-- the source and the target may be changed in either order
pub changes_apart : (nat rdr : Target) (packet : Packet) → source_changed nat (target_changed rdr packet) ≡ target_changed rdr (source_changed nat packet)
changes_apart nat rdr packet = apart_at nat rdr packet (suits nat packet) (suits rdr packet) refl refl

-- both translations twice are both once
pub translated_twice : (nat rdr : Option Target) (packet : Packet) → translated nat rdr (translated nat rdr packet) ≡ translated nat rdr packet
unfolding translated
translated_twice None None packet = refl
translated_twice None (Some rdr) packet = target_twice rdr packet
translated_twice (Some nat) None packet = source_twice nat packet
translated_twice (Some nat) (Some rdr) packet =
    ap (target_changed rdr) (changes_apart nat rdr (source_changed nat packet) ∙ ap (target_changed rdr) (source_twice nat packet))
    ∙ target_twice rdr (source_changed nat packet)
