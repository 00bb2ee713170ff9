-- The groups of an IPv6 address, as they are printed.
use Rattle.std.proofs.Common.{◌≡◌, ℕ, zero, suc, ◌+◌, ◌<◌, ◌≤◌, List, [], ◌∷◌, ◌++◌, length, take, drop, get_or, flat_map, refl, sym, ap, ◌∙◌, arith, append_assoc, add-one, inl, inr}
use Rattle.std.specs.Net.Text.{hex, groups_text, longest_zero_run, compressed_text, hex_groups_text}
use Rattle.std.proofs.lemmas.Bool.{lt-ltb, le-ltb}
use Rattle.std.proofs.lemmas.List.{append-nil, take_more}
use Rattle.std.specs.List.{between}
use Rattle.std.proofs.lemmas.Slice.{between_to_end}
use Rattle.std.proofs.lemmas.Grind.{flat_map-append}
use Rattle.pf_addr.proofs.Digits.{Adds}

pub first_group : (gs : List ℕ) (i : ℕ) → i < length gs → i ≡ 0 → groups_text (take (i + 1) gs) ≡ hex (get_or gs i 0)
first_group [] i lt e = absurd (omega arith)
first_group (g ∷ gs) zero lt e = append-nil (hex g)
first_group (g ∷ gs) (suc i) lt e = absurd (omega arith)

pub next_group : (gs : List ℕ) (i : ℕ) → i < length gs → 0 < i → groups_text (take (i + 1) gs) ≡ groups_text (take i gs) ++ 58 ∷ hex (get_or gs i 0)
next_group [] i lt pos = absurd (omega arith)
next_group (g ∷ gs) zero lt pos = absurd (omega arith)
next_group (g ∷ gs) (suc i) lt pos =
    let rest : flat_map (λ t. 58 ∷ hex t) (take (i + 1) gs) ≡ flat_map (λ t. 58 ∷ hex t) (take i gs) ++ 58 ∷ hex (get_or gs i 0) =
    ap (flat_map (λ t. 58 ∷ hex t)) (take_more gs i 0 (omega arith)) ∙ flat_map-append (λ t. 58 ∷ hex t) (take i gs) (get_or gs i 0 ∷ [])
    ∙ ap (λ (t : List ℕ). flat_map (λ t. 58 ∷ hex t) (take i gs) ++ 58 ∷ t) (append-nil (hex (get_or gs i 0))) in
    rw add-one (ap (λ (t : List ℕ). hex g ++ t) (rw add-one at rest) ∙ sym (append_assoc (hex g) _ _))

-- one group more
pub add_group : (gs : List ℕ) (i : ℕ) (l a b r : List ℕ) → i < length gs → a ≡ l ++ groups_text (take i gs) → Adds (0 < i) (i ≤ 0) a b 58 → r ≡ b ++ hex (get_or gs i 0) → r ≡ l ++ groups_text (take (i + 1) gs)
add_group gs i l a b r lt e (inl p) f = rw (f, p.1, e, next_group gs i lt p.0) (simp append_assoc)
add_group gs i l a b r lt e (inr p) f =
    let none : i ≡ 0 = omega (arith, p.0) in
    let empty : groups_text (take i gs) ≡ [] = ap (λ (t : ℕ). groups_text (take t gs)) none in
    rw (f, p.1, e, empty, append-nil, first_group gs i lt none) refl

-- the text where a run is long enough, and where none is
pub shortened_text : (gs : List ℕ) (start len : ℕ) → (start, len) ≡ longest_zero_run gs → 1 < len → hex_groups_text gs ≡ groups_text (take start gs) ++ 58 ∷ 58 ∷ groups_text (drop (start + len) gs)
unfolding hex_groups_text
shortened_text gs start len e lt =
    let both : compressed_text gs (start, len) ≡ compressed_text gs (longest_zero_run gs) = ap (compressed_text gs) e in
    sym both ∙ rw (lt-ltb 1 len lt) (append_assoc (groups_text (take start gs)) (58 ∷ 58 ∷ []) _)

pub whole_text : (gs : List ℕ) (start len : ℕ) → (start, len) ≡ longest_zero_run gs → len ≤ 1 → hex_groups_text gs ≡ groups_text gs
unfolding hex_groups_text
whole_text gs start len e le =
    let both : compressed_text gs (start, len) ≡ compressed_text gs (longest_zero_run gs) = ap (compressed_text gs) e in
    sym both ∙ rw (le-ltb 1 len le) refl

pub shortened_line : (gs l a b d r : List ℕ) (start len : ℕ) → (start, len) ≡ longest_zero_run gs → 1 < len → length gs ≡ 8 → a ≡ l ++ groups_text (take start gs) → b ≡ a ++ 58 ∷ []
    → d ≡ b ++ 58 ∷ [] → r ≡ d ++ groups_text (between (start + len) 8 gs) → r ≡ l ++ hex_groups_text gs
shortened_line gs l a b d r start len e lt eight p q s t =
    rw (t, s, q, p, shortened_text gs start len e lt, between_to_end gs (start + len) 8 (omega (arith, eight))) (simp append_assoc)
