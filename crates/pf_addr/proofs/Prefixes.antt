-- What a text says of a prefix, from what it writes.
use Rattle.std.proofs.Common.{◌≡◌, ℕ, ◌<◌, ◌≤◌, List, Result, Ok, Err, sym, ap, subst, ◌∙◌, arith, inl, inr}
use Rattle.std.specs.Prelude.{◌↔◌}
use Rattle.std.specs.Result.{IfOk, IsOkAnd}
use Rattle.std.proofs.lemmas.Bool.{cases_lt}
use Rattle.pf_addr.specs.declared.addr.Addr.{Addr}
use Rattle.pf_addr.specs.declared.prefix.Prefix.{Prefix}
use Rattle.pf_addr.specs.declared.parse.AddrFault.{AddrFault}
use Rattle.pf_addr.specs.declared.parse.Masked.{Masked}
use Rattle.pf_addr.specs.declared.parse.AddrFault.TheVariants.{MaskTooLong}
use Rattle.pf_addr.specs.Addr.{width, network}
use Rattle.pf_addr.specs.Grammar.{IsMasked, Writes}
use Rattle.pf_addr.specs.PrefixText.{IsMaskTooLong, IsMaskedText, IsNetworkOf, IsPrefixText, IsTooLong}
use Rattle.pf_addr.specs.PrefixOrder.{Prefix-same}
use Rattle.pf_addr.proofs.Texts.{Writes-unique}

module _ (text : List ℕ) (a : Addr) (n : ℕ) (r : Result Prefix AddrFault) (writes : Writes text a n)
    (ok : n ≤ width a → IsOkAnd r (IsNetworkOf a n)) (over : width a < n → r ≡ Err (MaskTooLong n)) where
  network_is : (p q : Prefix) → IsPrefixText text p → IsNetworkOf a n q → q ≡ p
  network_is p q h k =
      let same = Writes-unique text a h.addr n p.len writes h.writes in
      Prefix-same q p
      (k.addr ∙ ap (λ (t : Addr). network t n) same.0 ∙ ap (network h.addr) same.1 ∙ sym h.cleared)
      (k.len ∙ same.1)

  pub prefix_found : IfOk r (IsPrefixText text)
  prefix_found =
      elim (cases_lt (width a) n) [
        | inl lt ↦ subst (λ (s : Result Prefix AddrFault). IfOk s (IsPrefixText text)) (sym (over lt)) tt
        | inr le ↦ at_ok le r (ok le)
      ]
    where
      at_ok : n ≤ width a → (s : Result Prefix AddrFault) → IsOkAnd s (IsNetworkOf a n) → IfOk s (IsPrefixText text)
      at_ok le (Ok q) k = record {
        addr = a;
        writes = subst (λ (t : ℕ). Writes text a t) (sym k.len) writes;
        fits = rw k.len le;
        cleared = k.addr ∙ ap (network a) (sym k.len);
      }
      at_ok le (Err f) k = tt

  short_enough : (p : Prefix) → IsPrefixText text p → n ≤ width a
  short_enough p h =
      let same = Writes-unique text a h.addr n p.len writes h.writes in
      rw (same.0, same.1) h.fits

  pub prefix_only : (p : Prefix) → IsPrefixText text p → r ≡ Ok p
  prefix_only p h = at_ok r (ok (short_enough p h))
    where
      at_ok : (s : Result Prefix AddrFault) → IsOkAnd s (IsNetworkOf a n) → s ≡ Ok p
      at_ok (Ok q) k = ap Ok (network_is p q h k)
      at_ok (Err f) k = absurd k

  not_err : (s : Result Prefix AddrFault) (f : AddrFault) → IsOkAnd s (IsNetworkOf a n) → s ≡ Err f → 0 < 0
  not_err (Ok q) f k e = absurd cc
  not_err (Err g) f k e = absurd k

  pub prefix_too_long : (m : ℕ) → (r ≡ Err (MaskTooLong m)) ↔ IsTooLong text m
  prefix_too_long m = (
    λ e. elim (cases_lt (width a) n) [
      | inl lt ↦
          let both : ◌≡◌ {A = Result Prefix AddrFault} (Err (MaskTooLong n)) (Err (MaskTooLong m)) = sym (over lt) ∙ e in
          let same : n ≡ m = cc in
          record { addr = a; writes = subst (λ (t : ℕ). Writes text a t) same writes; over = omega arith }
      | inr le ↦ absurd (omega (arith, not_err r (MaskTooLong m) (ok le) e))
    ],
    λ h.
        let same = Writes-unique text a h.addr n m writes h.writes in
        let wide : width a < n = rw (same.0, same.1) h.over in
        over wide ∙ ap (λ (t : ℕ). Err (MaskTooLong t)) same.1,
  )

-- a text writes one prefix
pub IsPrefixText-unique : (text : List ℕ) (p q : Prefix) → IsPrefixText text p → IsPrefixText text q → p ≡ q
IsPrefixText-unique text p q h k =
    let same = Writes-unique text h.addr k.addr p.len q.len h.writes k.writes in
    Prefix-same p q (h.cleared ∙ ap (λ (t : Addr). network t p.len) same.0 ∙ ap (network k.addr) same.1 ∙ sym k.cleared) same.1

-- an address with its network is the two
Masked-same : (m n : Masked) → m.addr ≡ n.addr → m.network ≡ n.network → m ≡ n
Masked-same m n e f = λ i. record { addr = e i; network = f i }

-- a text writes one address with one network
pub IsMaskedText-unique : (text : List ℕ) (m n : Masked) → IsMaskedText text m → IsMaskedText text n → m ≡ n
IsMaskedText-unique text m n h k =
    let same = Writes-unique text m.addr n.addr m.network.len n.network.len (inr h.masked) (inr k.masked) in
    let prefix : (l : Masked) → IsMaskedText text l → IsPrefixText text l.network = λ l w. record { addr = l.addr; writes = inr w.masked; fits = w.fits; cleared = w.cleared } in
    Masked-same m n same.0 (IsPrefixText-unique text m.network n.network (prefix m h) (prefix n k))

module _ (text : List ℕ) (a : Addr) (n : ℕ) (r : Result Masked AddrFault) (masked : IsMasked text a n)
    (ok : n ≤ width a → IsOkAnd r (λ m. (m.addr ≡ a) × IsNetworkOf a n m.network)) (over : width a < n → r ≡ Err (MaskTooLong n)) where
  is_text : (m : Masked) → n ≤ width a → (m.addr ≡ a) × IsNetworkOf a n m.network → IsMaskedText text m
  is_text m le h = record {
    masked = subst (λ (t : ℕ). IsMasked text m.addr t) (sym h.1.len) (subst (λ (t : Addr). IsMasked text t n) (sym h.0) masked);
    fits = rw (h.0, h.1.len) le;
    cleared = h.1.addr ∙ ap (λ (t : Addr). network t n) (sym h.0) ∙ ap (network m.addr) (sym h.1.len);
  }

  same_as : (b : Addr) (m : ℕ) → IsMasked text b m → (a ≡ b) × (n ≡ m)
  same_as b m h = Writes-unique text a b n m (inr masked) (inr h)

  pub masked_only : (m : Masked) → IsMaskedText text m → r ≡ Ok m
  masked_only m h = at_ok r (ok le)
    where
      le : n ≤ width a
      le = let same = same_as m.addr m.network.len h.masked in rw (same.0, same.1) h.fits

      at_ok : (s : Result Masked AddrFault) → IsOkAnd s (λ m. (m.addr ≡ a) × IsNetworkOf a n m.network) → s ≡ Ok m
      at_ok (Ok q) k = ap Ok (IsMaskedText-unique text q m (is_text q le k) h)
      at_ok (Err f) k = absurd k

  never_err : (s : Result Masked AddrFault) (f : AddrFault) → IsOkAnd s (λ m. (m.addr ≡ a) × IsNetworkOf a n m.network) → s ≡ Err f → 0 < 0
  never_err (Ok q) f k e = absurd cc
  never_err (Err g) f k e = absurd k

  pub masked_too_long : (m : ℕ) → (r ≡ Err (MaskTooLong m)) ↔ IsMaskTooLong text m
  masked_too_long m = (
    λ e. elim (cases_lt (width a) n) [
      | inl lt ↦
          let both : ◌≡◌ {A = Result Masked AddrFault} (Err (MaskTooLong n)) (Err (MaskTooLong m)) = sym (over lt) ∙ e in
          let same : n ≡ m = cc in
          record { addr = a; masked = subst (λ (t : ℕ). IsMasked text a t) same masked; over = omega arith }
      | inr le ↦ absurd (omega (arith, never_err r (MaskTooLong m) (ok le) e))
    ],
    λ h.
        let same = same_as h.addr m h.masked in
        let wide : width a < n = rw (same.0, same.1) h.over in
        over wide ∙ ap (λ (t : ℕ). Err (MaskTooLong t)) same.1,
  )
