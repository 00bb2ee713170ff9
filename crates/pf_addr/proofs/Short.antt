-- Short IPv4 addresses.
use Rattle.std.proofs.Common.{◌≡◌, ℕ, zero, suc, ◌+◌, ◌-◌, ◌*◌, ◌≤◌, List, ◌++◌, length, take, Option, Some, None, refl, sym, ap, subst, ◌∙◌, arith, length-append}
use Rattle.std.specs.Option.{MatchOption}
use Rattle.std.proofs.Math.Seq.{take-append-add}
use Rattle.std.proofs.lemmas.List.{take_at, take-take}
use Rattle.std.proofs.lemmas.Slice.{take-put_mid}
use borrow.Rule.Slice.PartMut.{put_mid}
use Rattle.pf_addr.specs.Grammar.{IsIpv4, zeros, IsShortIpv4}
use Rattle.pf_addr.proofs.Texts.{dot_count, missing_is}

pub with_zeros_is : (text first second rest : List ℕ) (k : ℕ) → first ≡ text → second ≡ zeros 3 → take (length text + 6) (put_mid (length text) k (first ++ rest) second) ≡ text ++ zeros 3
with_zeros_is text first second rest k e f =
    let within : length text ≤ length (text ++ rest) = omega (arith, length-append text rest) in
    rw (e, f) (take-put_mid (length text) k (text ++ rest) (zeros 3) (length text + 6) refl within ∙ ap (λ (t : List ℕ). t ++ zeros 3) (take_at text rest (length text) refl))

take-zeros : (k : ℕ) → k ≤ 3 → take (2 * k) (zeros 3) ≡ zeros k
take-zeros zero h = refl
take-zeros (suc zero) h = refl
take-zeros (suc (suc zero)) h = refl
take-zeros (suc (suc (suc zero))) h = refl
take-zeros (suc (suc (suc (suc k)))) h = absurd (omega arith)

cut : (text whole : List ℕ) (k : ℕ) → k ≤ 3 → take (length text + 6) whole ≡ text ++ zeros 3 → take (length text + 2 * k) whole ≡ text ++ zeros k
cut text whole k few e =
    sym (take-take (length text + 2 * k) (length text + 6) whole (omega arith)) ∙ ap (take (length text + 2 * k)) e
    ∙ take-append-add text (zeros 3) (2 * k) ∙ ap (λ (t : List ℕ). text ++ t) (take-zeros k few)

-- what was read of the text with its missing numbers
pub short_from : (text whole : List ℕ) (dots : ℕ) (r : Option ℕ) → dots ≡ dot_count text → dots ≤ 3 → take (length text + 6) whole ≡ text ++ zeros 3
    → MatchOption r ((n : ℕ) → IsIpv4 (take (length text + 2 * (3 - dots)) whole) n → ⊥) (IsIpv4 (take (length text + 2 * (3 - dots)) whole))
    → MatchOption r ((n : ℕ) → IsShortIpv4 text n → ⊥) (IsShortIpv4 text)
short_from text whole dots None is few e h =
    let part = cut text whole (3 - dots) (omega arith) e in
    λ n short.
    let same : short.missing ≡ 3 - dots = omega (arith, missing_is text n short) in
    h n (rw part (subst (λ (t : ℕ). IsIpv4 (text ++ zeros t) n) same short.filled))
short_from text whole dots (Some x) is few e h =
    let part = cut text whole (3 - dots) (omega arith) e in
    record { missing = 3 - dots; few = omega arith; filled = subst (λ (t : List ℕ). IsIpv4 t x) part h }
