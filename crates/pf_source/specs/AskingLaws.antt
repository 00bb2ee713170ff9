-- Counts and failed reads, from call to call.
use Rattle.std.proofs.Common.{ℕ, ◌+◌, List, [], ◌++◌, Option, Some, None, refl, sym, ap, ◌∙◌, append_assoc, append-nil, arith}
use Rattle.std.specs.Option.{option_map}
use Rattle.pf_source.specs.Asks.{AddsNames, Asks}
use Rattle.pf_source.specs.Causes.{CountsOn, RoseBy}
use Rattle.pf_source.specs.Told.{FilesTold}

pub RoseBy-none : (n : ℕ) → RoseBy 0 n n
RoseBy-none n = record { later = omega arith; by = omega arith }

pub RoseBy-more : (a b x y z : ℕ) → RoseBy a x y → RoseBy b y z → RoseBy (a + b) x z
RoseBy-more a b x y z h k =
    let h_later = h.later in let h_by = h.by in let k_later = k.later in let k_by = k.by in
    record { later = omega arith; by = omega arith }

pub CountsOn-none : (n : ℕ) → CountsOn 0 n n
CountsOn-none n = record { later = omega arith; exact = λ below. omega arith }

pub CountsOn-more : (a b x y z : ℕ) → CountsOn a x y → CountsOn b y z → CountsOn (a + b) x z
CountsOn-more a b x y z h k =
    let h_later = h.later in let h_exact = h.exact in let k_later = k.later in let k_exact = k.exact in
    record { later = omega arith; exact = λ below. omega arith }

pub AddsNames-none : (names : Option (List (List ℕ))) → AddsNames [] names names
AddsNames-none None = refl
AddsNames-none (Some names) = ap (λ ns. Some ns) (sym (append-nil names))

pub AddsNames-more : (xs ys : List (List ℕ)) (a b c : Option (List (List ℕ))) → AddsNames xs a b → AddsNames ys b c → AddsNames (xs ++ ys) a c
AddsNames-more xs ys None b c h k = k ∙ ap (λ o. option_map (λ ns. ns ++ ys) o) h
AddsNames-more xs ys (Some first) b c h k = k ∙ (ap (λ o. option_map (λ ns. ns ++ ys) o) h ∙ ap (λ ns. Some ns) (append_assoc first xs ys))

-- nothing was asked
pub nothing_asked : (files : FilesTold) → Asks [] files files
nothing_asked files = record {
  held = record { held = refl; steady = refl };
  counted = RoseBy-none files.faults;
  named = AddsNames-none files.failed;
  steady = λ steady. record { at = λ held is. tt };
}

-- the reads of one call succeeded, and then another call asked
pub asked_on : (names : List (List ℕ)) (a b c : FilesTold) → Asks [] a b → Asks names b c → Asks names a c
asked_on names a b c h k = record {
  held = record { held = k.held.held ∙ h.held.held; steady = k.held.steady ∙ h.held.steady };
  counted = let one = h.counted.later in let two = k.counted.later in let three = k.counted.by in record { later = omega arith; by = omega arith };
  named = AddsNames-more [] names a.failed b.failed c.failed h.named k.named;
  steady = λ steady. record { at = λ held is. (k.steady (h.held.steady ∙ steady)).at held (h.held.held ∙ is) };
}
