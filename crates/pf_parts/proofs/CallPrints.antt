-- Pieces that are printed one behind the other.
use Rattle.std.proofs.Common.{◌≡◌, ℕ, suc, ◌+◌, ◌-◌, ◌<◌, Bool, true, false, nat_lt, List, [], ◌∷◌, ◌++◌, codes, refl, sym, ap, ◌∙◌, append_assoc, arith}
use Rattle.std.specs.List.{join_with_byte}
use Rattle.std.proofs.lemmas.Bool.{lt-ltb}
use Rattle.std.proofs.lemmas.List.{append-nil}
use Rattle.pf_parts.specs.CallPieces.{piece_text, pieces_text, some_behind}
use Rattle.pf_parts.specs.CallText.{climb}

behind_some : (pieces : List (List ℕ)) → some_behind true pieces ≡ true
behind_some [] = refl
behind_some (piece ∷ pieces) = refl

-- pieces and others behind them
pieces_append : (some : Bool) (front back : List (List ℕ)) → pieces_text some (front ++ back) ≡ pieces_text some front ++ pieces_text (some_behind some front) back
pieces_append some [] back = refl
pieces_append some (piece ∷ front) back =
    ap (λ rest. piece_text some piece ++ rest) (pieces_append true front back)
    ∙ sym (append_assoc (piece_text some piece) (pieces_text true front) (pieces_text (some_behind true front) back))
    ∙ ap (λ s. (piece_text some piece ++ pieces_text true front) ++ pieces_text s back) (behind_some front)

pieces_joined : (pieces : List (List ℕ)) → pieces_text false pieces ≡ join_with_byte 47 pieces
pieces_joined [] = refl
pieces_joined (piece ∷ []) = append-nil piece
pieces_joined (piece ∷ next ∷ pieces) = ap (λ rest. piece ++ 47 ∷ rest) (pieces_joined (next ∷ pieces))

-- three lists of pieces in a row
pub all_joined : (old a b new : List ℕ) (base names last : List (List ℕ)) (some behind : Bool) → a ≡ old ++ pieces_text false base → some ≡ some_behind false base → b ≡ a ++ pieces_text some names → behind ≡ some_behind some names → new ≡ b ++ pieces_text behind last → new ≡ old ++ join_with_byte 47 (base ++ (names ++ last))
all_joined old a b new base names last some behind ha hs hb hbehind h =
    let two : pieces_text some names ++ pieces_text behind last ≡ pieces_text some (names ++ last) = ap (λ s. pieces_text some names ++ pieces_text s last) hbehind ∙ sym (pieces_append some names last) in
    let three : pieces_text false base ++ pieces_text some (names ++ last) ≡ join_with_byte 47 (base ++ (names ++ last)) = ap (λ s. pieces_text false base ++ pieces_text s (names ++ last)) hs ∙ sym (pieces_append false base (names ++ last)) ∙ pieces_joined (base ++ (names ++ last)) in
    h
    ∙ ap (λ t. t ++ pieces_text behind last) hb
    ∙ append_assoc a (pieces_text some names) (pieces_text behind last)
    ∙ (λ i. ha i ++ two i)
    ∙ append_assoc old (pieces_text false base) (pieces_text some (names ++ last))
    ∙ ap (λ t. old ++ t) three

-- one `..` more
pub ups_more : (out new whole : List ℕ) (step ups : ℕ) → step < ups → out ++ pieces_text (nat_lt 0 step) (climb (ups - step)) ≡ whole → new ≡ out ++ piece_text (nat_lt 0 step) (codes "..") → new ++ pieces_text (nat_lt 0 (step + 1)) (climb (ups - (step + 1))) ≡ whole
ups_more out new whole step ups more so put =
    let left : ups - step ≡ suc (ups - (step + 1)) = omega arith in
    let some : nat_lt 0 (step + 1) ≡ true = lt-ltb 0 (step + 1) (omega arith) in
    (λ i. put i ++ pieces_text (some i) (climb (ups - (step + 1))))
    ∙ append_assoc out (piece_text (nat_lt 0 step) (codes "..")) (pieces_text true (climb (ups - (step + 1))))
    ∙ ap (λ n. out ++ pieces_text (nat_lt 0 step) (climb n)) (sym left)
    ∙ so
