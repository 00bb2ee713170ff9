-- The cells of a text, one at a time.
use Rattle.std.proofs.Common.{◌≡◌, ℕ, ◌+◌, ◌<◌, ◌≤◌, true, false, List, [], ◌∷◌, length, drop, get_or, Some, refl, ap, sym, ◌∙◌, arith}
use Rattle.std.proofs.lemmas.List.{drop_more, drop_all, drop-drop, length-drop}
use Rattle.pf_base.specs.declared.fault.Place.{Place}
use Rattle.pf_token.specs.Cells.{cells_from, below, place_after, first_cell, is_continued, CountsLines}

-- the first cell of a text, where no continuation stands
cells_here : (place : Place) (byte : ℕ) (rest : List ℕ) → is_continued (byte ∷ rest) ≡ false → cells_from place (byte ∷ rest) ≡ record { byte = byte; place = place } ∷ cells_from (place_after place byte) rest
unfolding cells_from
cells_here place byte [] e = refl
cells_here place byte (next ∷ rest) e = rw e refl

-- a continuation makes no cell
cells_past : (place : Place) (text : List ℕ) → is_continued text ≡ true → cells_from place text ≡ cells_from (below place) (drop 2 text)
unfolding cells_from
cells_past place [] e = cc
cells_past place (byte ∷ []) e = cc
cells_past place (byte ∷ next ∷ rest) e = rw e refl

continued_long : (text : List ℕ) → is_continued text ≡ true → 2 ≤ length text
continued_long [] e = absurd cc
continued_long (byte ∷ []) e = absurd cc
continued_long (byte ∷ next ∷ rest) e = omega arith

module _ (text : List ℕ) (at : ℕ) where
  -- past a continuation
  pub same_past : (place : Place) → is_continued (drop at text) ≡ true → cells_from (below place) (drop (at + 2) text) ≡ cells_from place (drop at text)
  same_past place e = ap (cells_from (below place)) (sym (drop-drop 2 at text)) ∙ sym (cells_past place (drop at text) e)

  pub CountsLines-past : (line : ℕ) → CountsLines text at line → is_continued (drop at text) ≡ true → CountsLines text (at + 2) (line + 1)
  CountsLines-past line counts e =
      let long = continued_long (drop at text) e in
      let in_text = counts.in_text in
      let few = counts.few in
      record { in_text = omega (arith, length-drop at text); few = omega (arith, length-drop at text) }

  -- the next cell, and those after it
  cells_next : (place : Place) → at < length text → is_continued (drop at text) ≡ false
      → cells_from place (drop at text) ≡ record { byte = get_or text at 0; place = place } ∷ cells_from (place_after place (get_or text at 0)) (drop (at + 1) text)
  cells_next place in_text e =
      let here = drop_more text at 0 in_text in
      ap (cells_from place) here ∙ cells_here place (get_or text at 0) (drop (at + 1) text) (ap is_continued (sym here) ∙ e)

  pub first_next : (place : Place) → at < length text → is_continued (drop at text) ≡ false → first_cell (cells_from place (drop at text)) ≡ Some (record { byte = get_or text at 0; place = place })
  first_next place in_text e = ap first_cell (cells_next place in_text e)

  pub rest_next : (place : Place) → at < length text → is_continued (drop at text) ≡ false → drop 1 (cells_from place (drop at text)) ≡ cells_from (place_after place (get_or text at 0)) (drop (at + 1) text)
  rest_next place in_text e = ap (drop 1) (cells_next place in_text e)

  pub none_left : (place : Place) → length text ≤ at → cells_from place (drop at text) ≡ []
  unfolding cells_from
  none_left place over = ap (cells_from place) (drop_all at text over)
