-- Known bytes that grow, or are consumed, piece by piece.
use Rattle.std.proofs.Common.{◌≡◌, ◌≤◌, ◌+◌, ◌-◌, ℕ, zero, suc, List, [], ◌++◌, length, take, drop, Option, Some, None, refl, sym, ap, subst, ◌∙◌, append_assoc, append-nil, length-append, arith}
use Rattle.std.proofs.lemmas.List.{take-append-drop, take_all, length-drop}
use Rattle.std.proofs.Math.Seq.{take-append_seam}
use Rattle.std.specs.Io.KnownBytes.{Appends, Consumes, Keeps}
use Rattle.pf_source.specs.Streams.{WritesFront}

pub Keeps-same : (written : Option (List ℕ)) → Keeps written written
Keeps-same None = tt
Keeps-same (Some bytes) = refl

pub Appends-nothing : (written : Option (List ℕ)) → Appends written written []
Appends-nothing None = tt
Appends-nothing (Some bytes) = sym (append-nil bytes)

pub Appends-more : (a b c : Option (List ℕ)) (xs ys : List ℕ) → Appends a b xs → Appends b c ys → Appends a c (xs ++ ys)
Appends-more None b c xs ys h k = tt
Appends-more (Some first) None c xs ys h k = absurd h
Appends-more (Some first) (Some second) None xs ys h k = absurd k
Appends-more (Some first) (Some second) (Some third) xs ys h k = k ∙ (ap (λ rest. rest ++ ys) h ∙ append_assoc first xs ys)

pub Appends-then-keeps : (a b c : Option (List ℕ)) (xs : List ℕ) → Appends a b xs → Keeps b c → Appends a c xs
Appends-then-keeps None b c xs h k = tt
Appends-then-keeps (Some first) None c xs h k = absurd h
Appends-then-keeps (Some first) (Some second) None xs h k = absurd k
Appends-then-keeps (Some first) (Some second) (Some third) xs h k = k ∙ h

pub Consumes-nothing : (left : Option (List ℕ)) → Consumes left left []
Consumes-nothing None = tt
Consumes-nothing (Some bytes) = refl

pub Consumes-more : (a b c : Option (List ℕ)) (xs ys : List ℕ) → Consumes a b xs → Consumes b c ys → Consumes a c (xs ++ ys)
Consumes-more None b c xs ys h k = tt
Consumes-more (Some first) None c xs ys h k = absurd h
Consumes-more (Some first) (Some second) None xs ys h k = absurd k
Consumes-more (Some first) (Some second) (Some third) xs ys h k = h ∙ (ap (λ rest. xs ++ rest) k ∙ sym (append_assoc xs ys third))

pub Keeps-is : (b c : Option (List ℕ)) → Keeps b c → Consumes b c []
Keeps-is None c h = tt
Keeps-is (Some second) None h = absurd h
Keeps-is (Some second) (Some third) h = sym h

-- Of a piece a front was written, and this is left.
pub record WrittenSoFar (old new : Option (List ℕ)) (piece rest : List ℕ) : Type 0 where
  pub front : List ℕ
  pub is : piece ≡ front ++ rest
  pub written : Appends old new front

-- a front of the rest was written too
pub written_on : (a b c : Option (List ℕ)) (piece rest : List ℕ) (count : ℕ) → WrittenSoFar a b piece rest → Appends b c (take count rest) → WrittenSoFar a c piece (drop count rest)
written_on a b c piece rest count h more = record {
  front = h.front ++ take count rest;
  is = h.is ∙ (ap (λ bytes. h.front ++ bytes) (sym (take-append-drop count rest)) ∙ sym (append_assoc h.front (take count rest) (drop count rest)));
  written = Appends-more a b c h.front (take count rest) h.written more;
}

-- no more of it was written
pub written_front : (a b c : Option (List ℕ)) (piece rest : List ℕ) → WrittenSoFar a b piece rest → Keeps b c → WritesFront a c piece
written_front a b c piece rest h keeps =
    let long : length piece ≡ length h.front + length rest = ap length h.is ∙ length-append h.front rest in
    let front : h.front ≡ take (length h.front) piece = sym (ap (take (length h.front)) h.is ∙ take-append_seam h.front rest) in
    record {
      taken = length h.front;
      within = omega arith;
      written = subst (λ (bytes : List ℕ). Appends a c bytes) front (Appends-then-keeps a b c h.front h.written keeps);
    }

-- the same, where what is left is cut as a slice
pub written_more : (a b c : Option (List ℕ)) (piece rest : List ℕ) (count : ℕ) → WrittenSoFar a b piece rest → count ≤ length rest → Appends b c (take count rest) → WrittenSoFar a c piece (take (length rest - count) (drop count rest))
written_more a b c piece rest count h within more =
    let whole : take (length rest - count) (drop count rest) ≡ drop count rest = take_all (length rest - count) (drop count rest) (rw (length-drop count rest) (omega arith)) in
    subst (λ (bytes : List ℕ). WrittenSoFar a c piece bytes) (sym whole) (written_on a b c piece rest count h more)

-- a write that took nothing
pub Appends-none : (b c : Option (List ℕ)) (bytes : List ℕ) (count : ℕ) → count ≤ 0 → Appends b c (take count bytes) → Keeps b c
Appends-none None c bytes zero few h = tt
Appends-none (Some second) None bytes zero few h = h
Appends-none (Some second) (Some third) bytes zero few h = h ∙ append-nil second
Appends-none None c bytes (suc n) few h = absurd (omega arith)
Appends-none (Some second) None bytes (suc n) few h = absurd (omega arith)
Appends-none (Some second) (Some third) bytes (suc n) few h = absurd (omega arith)
