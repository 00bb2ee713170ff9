-- Rules that are equal in a skip field.
use Rattle.std.proofs.Common.{◌≡◌, ℕ, zero, suc, ◌+◌, ◌≤◌, Bool, true, false, not, ◌&&◌, Some, unwrap_or, List, [], ◌∷◌, slice_get, refl, ap, sym, ◌∙◌, arith, zero-add}
use Rattle.std.specs.List.{position_from}
use Rattle.pf_addr.specs.Addr.{is_of_family}
use Rattle.pf_rule.specs.Around.{Around}
use Rattle.pf_rule.specs.Criteria.{address_holds, if_given, number_holds, on_interface, same_direction, same_number}
use Rattle.pf_rule.specs.Fields.{AgreeIn}
use Rattle.pf_rule.specs.Hit.{all_hold, failing_field, fails_at, hits, hits_at, other_tests, skip_tests}
use Rattle.pf_rule.specs.declared.criteria.Criteria.{Criteria}
use Rattle.pf_rule.specs.declared.packet.Packet.{Packet}
use Rattle.pf_rule.specs.declared.rule.Rule.{Rule}
use Rattle.pf_rule.specs.declared.walk.Walk.{Walk}

-- criteria that are equal in a skip field hold or fail it alike
pub tested_alike : (around : Around) (one other : Criteria) (packet : Packet) (field : ℕ) → AgreeIn field one other
    → slice_get (skip_tests around one packet) field ≡ slice_get (skip_tests around other packet) field
tested_alike around one other packet zero agree =
    let same : one.iface ≡ other.iface = cc in
    ap (λ test. Some (on_interface around.in_group test packet.iface)) same
tested_alike around one other packet (suc zero) agree =
    let same : one.direction ≡ other.direction = cc in
    ap (λ given. Some (if_given given (λ direction. same_direction direction packet.direction))) same
tested_alike around one other packet (suc (suc zero)) agree =
    let same : one.family ≡ other.family = cc in
    ap (λ given. Some (if_given given (λ family. is_of_family family packet.source))) same
tested_alike around one other packet (suc (suc (suc zero))) agree =
    let same : one.proto ≡ other.proto = cc in
    ap (λ given. Some (same_number given packet.proto)) same
tested_alike around one other packet (suc (suc (suc (suc zero)))) agree =
    let same : one.source ≡ other.source = cc in
    ap (λ test. Some (address_holds around test packet.source)) same
tested_alike around one other packet (suc (suc (suc (suc (suc zero))))) agree =
    let same : one.source_port ≡ other.source_port = cc in
    ap (λ test. Some (number_holds test packet packet.source_port)) same
tested_alike around one other packet (suc (suc (suc (suc (suc (suc zero)))))) agree =
    let same : one.target ≡ other.target = cc in
    ap (λ test. Some (address_holds around test packet.target)) same
tested_alike around one other packet (suc (suc (suc (suc (suc (suc (suc zero))))))) agree =
    let same : one.target_port ≡ other.target_port = cc in
    ap (λ test. Some (number_holds test packet packet.target_port)) same
tested_alike around one other packet (suc (suc (suc (suc (suc (suc (suc (suc more)))))))) agree = refl

-- a search from a place on finds none before it
fails_from : (tests : List Bool) (n field : ℕ) → position_from not n tests ≡ Some field → n ≤ field
fails_from [] n field some = cc
fails_from (true ∷ tests) n field some = omega (arith, fails_from tests (n + 1) field some)
fails_from (false ∷ tests) n field some =
    let here : n ≡ field = ap (λ o. unwrap_or o n) some in
    omega arith

-- the test that is found to fail fails
fails_there : (tests : List Bool) (n k : ℕ) → position_from not n tests ≡ Some (n + k) → slice_get tests k ≡ Some false
fails_there [] n k some = cc
fails_there (true ∷ tests) n zero some =
    let past : n + 1 ≤ n + 0 = fails_from tests (n + 1) (n + 0) some in
    absurd (omega arith)
fails_there (true ∷ tests) n (suc k) some =
    let same : n + suc k ≡ (n + 1) + k = omega arith in
    fails_there tests (n + 1) k (some ∙ ap Some same)
fails_there (false ∷ tests) n zero some = refl
fails_there (false ∷ tests) n (suc k) some =
    let here : n ≡ n + suc k = ap (λ o. unwrap_or o n) some in
    absurd (omega arith)

-- where one test fails, not all hold
one_fails : (tests : List Bool) (k : ℕ) → slice_get tests k ≡ Some false → all_hold tests ≡ false
one_fails [] k fails = cc
one_fails (true ∷ tests) zero fails = cc
one_fails (true ∷ tests) (suc k) fails = one_fails tests k fails
one_fails (false ∷ tests) k fails = refl

-- where a rule fails a field, a rule that is equal in it doesn't hit
pub missed_alike : (around : Around) (one other : Rule) (walk : Walk) (field : ℕ) → fails_at around one walk ≡ Some field
    → AgreeIn field one.criteria other.criteria → hits_at around other walk ≡ false
unfolding failing_field hits
missed_alike around one other walk field fails agree =
    let there : slice_get (skip_tests around one.criteria walk.packet) field ≡ Some false =
    fails_there (skip_tests around one.criteria walk.packet) 0 field (fails ∙ ap Some (sym (zero-add field))) in
    let here : slice_get (skip_tests around other.criteria walk.packet) field ≡ Some false =
    sym (tested_alike around one.criteria other.criteria walk.packet field agree) ∙ there in
    ap (λ b. b && all_hold (other_tests other.criteria walk.packet walk.tag)) (one_fails (skip_tests around other.criteria walk.packet) field here)
