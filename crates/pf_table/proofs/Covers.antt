-- Prefixes that cover each other.
use Rattle.std.proofs.Common.{◌≡◌, ℕ, ◌<◌, ◌≤◌, IsTrue, refl, sym, ◌∙◌, subst, arith, eq-eqb}
use Rattle.std.proofs.lemmas.Bool.{and_parts, and_from, eqb-true, le-leb, leb-true}
use Rattle.pf_addr.specs.declared.addr.Addr.{Addr}
use Rattle.pf_addr.specs.declared.prefix.Prefix.{Prefix}
use Rattle.pf_addr.specs.Prefix.{contains, covers, whole}
use Rattle.pf_table.specs.Bits.{side, Covers, Above}
use Rattle.pf_table.proofs.Leading.{leading-fewer, side-same, prefix-same}

pub covers-itself : (p : Prefix) → Covers p p
covers-itself p = record { family = refl; short = omega arith; bits = refl }

pub covers-trans : (p q r : Prefix) → Covers p q → Covers q r → Covers p r
covers-trans p q r h k = record {
  family = h.family ∙ k.family;
  short = let a = h.short in let b = k.short in omega arith;
  bits = h.bits ∙ leading-fewer q.addr r.addr p.len q.len k.family h.short k.bits;
}

-- of two that cover a third the shorter covers the longer
pub covers-joint : (p q r : Prefix) → Covers p r → Covers q r → p.len ≤ q.len → Covers p q
covers-joint p q r h k le = record {
  family = h.family ∙ sym k.family;
  short = le;
  bits = h.bits ∙ sym (leading-fewer q.addr r.addr p.len q.len k.family le k.bits);
}

pub above-joint : (p q r : Prefix) → Covers p r → Covers q r → p.len < q.len → Above p q
above-joint p q r h k lt = record { over = covers-joint p q r h k (omega arith); shorter = lt }

pub covers-same : (p q : Prefix) → Covers p q → p.len ≡ q.len → p ≡ q
covers-same p q h l = prefix-same p q h.family l h.bits

-- a prefix that covers another one has its bits
pub covers-side : (p q : Prefix) (k : ℕ) → Covers p q → k < p.len → side p.addr k ≡ side q.addr k
covers-side p q k h lt = side-same p.addr q.addr k p.len h.family lt h.bits

pub contains-covers : (p : Prefix) (a : Addr) → IsTrue (contains p a) → Covers p (whole a)
contains-covers p a h =
    let parts = and_parts _ _ h in
    let same = eqb-true _ _ parts.0 in
    record { family = same; short = subst (λ (t : ℕ). p.len ≤ t) same p.fits; bits = eqb-true _ _ parts.1 }

pub covers-contains : (p : Prefix) (a : Addr) → Covers p (whole a) → IsTrue (contains p a)
covers-contains p a h = and_from _ _ (eq-eqb _ _ h.family) (eq-eqb _ _ h.bits)

pub true-covers : (p q : Prefix) → IsTrue (covers p q) → Covers p q
true-covers p q h =
    let parts = and_parts _ _ h in
    let at = and_parts _ _ parts.0 in
    record { family = eqb-true _ _ at.0; short = leb-true _ _ parts.1; bits = eqb-true _ _ at.1 }

pub covers-true : (p q : Prefix) → Covers p q → IsTrue (covers p q)
covers-true p q h = and_from _ _ (and_from _ _ (eq-eqb _ _ h.family) (eq-eqb _ _ h.bits)) (le-leb _ _ h.short)
