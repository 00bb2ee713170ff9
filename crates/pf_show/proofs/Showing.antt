-- Lines of items, those shown so far and those still to be shown.
use Rattle.std.proofs.Common.{◌≡◌, ℕ, ◌+◌, ◌-◌, ◌<◌, ◌≤◌, suc, List, [], ◌∷◌, ◌++◌, map, refl, sym, ap, ◌∙◌, append_assoc, arith}
use Rattle.std.specs.List.{flat_map, range_with_len}
use Rattle.pf_parts.specs.Appending.{Extends}
use Rattle.pf_show.specs.Lines.{lines_text, shown_by}

-- a buffer that is appended to again
pub extends_then : {old mid new : List ℕ} → Extends old mid → Extends mid new → Extends old new
extends_then {old} h g = record {
  more = h.more ++ g.more;
  joined = g.joined ∙ ap (λ (t : List ℕ). t ++ g.more) h.joined ∙ append_assoc old h.more g.more;
}

pub lines_of_map : {A : Type 0} (line : A → List ℕ) (items : List A) → lines_text (map line items) ≡ shown_by line items
lines_of_map line [] = refl
lines_of_map line (item ∷ items) = ap (λ (rest : List ℕ). (line item ++ 10 ∷ []) ++ rest) (lines_of_map line items)

none_more : (text : List ℕ) → text ++ [] ≡ text
none_more [] = refl
none_more (byte ∷ text) = ap (λ (rest : List ℕ). byte ∷ rest) (none_more text)

-- the places from one on
places_on : (n place : ℕ) → place < n → range_with_len place (n - place) ≡ place ∷ range_with_len (place + 1) (n - (place + 1))
places_on n place h = let e : n - place ≡ suc (n - (place + 1)) = omega arith in ap (range_with_len place) e

-- one place more
pub place_more : (text : ℕ → List ℕ) (n place : ℕ) (before now all : List ℕ) → place < n → before ++ flat_map text (range_with_len place (n - place)) ≡ all → now ≡ before ++ text place → now ++ flat_map text (range_with_len (place + 1) (n - (place + 1))) ≡ all
place_more text n place before now all inside h k =
    ap (λ (out : List ℕ). out ++ flat_map text (range_with_len (place + 1) (n - (place + 1)))) k
    ∙ (append_assoc before (text place) (flat_map text (range_with_len (place + 1) (n - (place + 1))))
    ∙ (ap (λ (places : List ℕ). before ++ flat_map text places) (sym (places_on n place inside)) ∙ h))

-- behind the last place
pub places_done : (text : ℕ → List ℕ) (n place : ℕ) (now all : List ℕ) → n ≤ place → now ++ flat_map text (range_with_len place (n - place)) ≡ all → now ≡ all
places_done text n place now all done h =
    let e : n - place ≡ 0 = omega arith in
    sym (none_more now) ∙ (ap (λ (count : ℕ). now ++ flat_map text (range_with_len place count)) (sym e) ∙ h)
