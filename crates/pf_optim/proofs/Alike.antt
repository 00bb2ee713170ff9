-- A written rule hits alike in surroundings that differ in automatic tables alone.
use Rattle.std.proofs.Common.{◌≡◌, ℕ, Bool, true, ◌&&◌, List, [], ◌∷◌, nat_le, nat_lt, refl, ap, ◌∙◌, arith}
use Rattle.std.proofs.lemmas.Bool.{and_parts, ltb-true}
use Rattle.pf_addr.specs.declared.addr.Addr.{Addr}
use Rattle.pf_auto.specs.Standing.{names_none, test_names_between}
use Rattle.pf_optim.specs.Meaning.{AgreeOnDeclared}
use Rattle.pf_parts.specs.declared.matching.IfTest.{IfTest}
use Rattle.pf_parts.specs.declared.matching.IfTest.TheVariants as interface
use Rattle.pf_rule.specs.Around.{Around}
use Rattle.pf_rule.specs.Criteria.{address_holds, direction_holds, family_holds, in_set, on_interface, proto_holds, source_port_holds, target_port_holds, turned}
use Rattle.pf_rule.specs.Hit.{all_hold, hits, hits_at, other_tests}
use Rattle.pf_rule.specs.declared.criteria.AddrSet.{AddrSet}
use Rattle.pf_rule.specs.declared.criteria.AddrSet.TheVariants.{Prefix, Range, Table, Dynamic, Auto}
use Rattle.pf_rule.specs.declared.criteria.AddrTest.{AddrTest}
use Rattle.pf_rule.specs.declared.criteria.AddrTest.TheVariants.{Any, Test}
use Rattle.pf_rule.specs.declared.rule.Rule.{Rule}
use Rattle.pf_rule.specs.declared.walk.Walk.{Walk}

set_alike : (one other : Around) → AgreeOnDeclared one other → (negated : Bool) (what : AddrSet) (addr : Addr) → test_names_between 0 0 (Test negated what) ≡ true → in_set one what addr ≡ in_set other what addr
set_alike one other d negated (Prefix prefix) addr w = refl
set_alike one other d negated (Range range) addr w = refl
set_alike one other d negated (Table name) addr w = d.tables name addr
set_alike one other d negated (Dynamic what) addr w = d.dynamic what addr
set_alike one other d negated (Auto number) addr w = absurd (omega (arith, ltb-true number 0 (and_parts (nat_le 0 number) (nat_lt number 0) w).1))

test_alike : (one other : Around) → AgreeOnDeclared one other → (test : AddrTest) (addr : Addr) → test_names_between 0 0 test ≡ true → address_holds one test addr ≡ address_holds other test addr
test_alike one other d Any addr w = refl
test_alike one other d (Test negated what) addr w = ap (turned negated) (set_alike one other d negated what addr w)

interface_alike : (one other : Around) → AgreeOnDeclared one other → (test : IfTest) (iface : List ℕ) → on_interface one.in_group test iface ≡ on_interface other.in_group test iface
interface_alike one other d interface.Any iface = refl
interface_alike one other d (interface.On name negated) iface = ap (turned negated) (d.groups name iface)

pub hits_alike : (one other : Around) → AgreeOnDeclared one other → (rule : Rule) (walk : Walk) → names_none rule ≡ true → hits_at one rule walk ≡ hits_at other rule walk
unfolding hits
hits_alike one other d rule walk w =
    let c = rule.criteria in
    let parts = and_parts (test_names_between 0 0 c.source) (test_names_between 0 0 c.target) w in
    let first = interface_alike one other d c.iface walk.packet.iface in
    let source = test_alike one other d c.source walk.packet.source parts.0 in
    let target = test_alike one other d c.target walk.packet.target parts.1 in
    ap (λ (a : Bool). all_hold (a ∷ direction_holds c walk.packet ∷ family_holds c walk.packet ∷ proto_holds c walk.packet ∷ address_holds one c.source walk.packet.source ∷ source_port_holds c walk.packet ∷ address_holds one c.target walk.packet.target ∷ target_port_holds c walk.packet ∷ []) && all_hold (other_tests c walk.packet walk.tag)) first
    ∙ (ap (λ (a : Bool). all_hold (on_interface other.in_group c.iface walk.packet.iface ∷ direction_holds c walk.packet ∷ family_holds c walk.packet ∷ proto_holds c walk.packet ∷ a ∷ source_port_holds c walk.packet ∷ address_holds one c.target walk.packet.target ∷ target_port_holds c walk.packet ∷ []) && all_hold (other_tests c walk.packet walk.tag)) source
    ∙ ap (λ (a : Bool). all_hold (on_interface other.in_group c.iface walk.packet.iface ∷ direction_holds c walk.packet ∷ family_holds c walk.packet ∷ proto_holds c walk.packet ∷ address_holds other c.source walk.packet.source ∷ source_port_holds c walk.packet ∷ a ∷ target_port_holds c walk.packet ∷ []) && all_hold (other_tests c walk.packet walk.tag)) target)
