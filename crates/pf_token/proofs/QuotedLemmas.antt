-- What stands behind an opening quote is what the code finds there.
use Rattle.std.proofs.Common.{◌≡◌, ℕ, Bool, true, false, List, [], ◌∷◌, ◌++◌, drop, Some, None, refl, ap, sym, ◌∙◌, subst, ⊎_elim, append-nil}
use Rattle.std.specs.Prelude.{◌&&◌, ◌||◌, ◌==◌}
use Rattle.std.proofs.lemmas.Bool.{and_parts, and_from, and_right, or_cases, eqb-true, ne_eqb}
use Rattle.pf_token.specs.declared.byte.ByteClass.TheVariants.{Quote}
use Rattle.pf_token.specs.declared.cell.Cell.{Cell}
use Rattle.pf_token.specs.Bytes.{class_of, is_known}
use Rattle.pf_token.specs.Cells.{first_cell}
use Rattle.pf_token.specs.Pieces.{Between, nothing, escaped, dropped, kept, is_escape, is_escapable}
use Rattle.pf_token.specs.Reading.{Quoted, quoted_from, prepended}

-- a quote is no backslash and no newline
pub record IsQuoteByte (quote : ℕ) : Type 0 where
  pub no_slash : (92 == quote) ≡ false
  pub no_newline : (10 == quote) ≡ false

pub IsQuoteByte-from_class : (quote : ℕ) → class_of quote ≡ Quote → IsQuoteByte quote
unfolding class_of
IsQuoteByte-from_class quote is = record {
  no_slash = ne_eqb 92 quote (λ e. let other = ap class_of e ∙ is in cc);
  no_newline = ne_eqb 10 quote (λ e. let other = ap class_of e ∙ is in cc);
}

abbrev closed_here : List Cell → Quoted
closed_here cells = record { text = []; known = true; closed = true; after = cells }

pub quoted_closed : (quote : ℕ) (cell : Cell) (cells : List Cell) → (cell.byte == quote) ≡ true → quoted_from quote (cell ∷ cells) ≡ closed_here cells
unfolding quoted_from
quoted_closed quote cell [] e = rw e refl
quoted_closed quote cell (next ∷ cells) e = rw e refl

pub quoted_dropped : (quote : ℕ) (cell : Cell) (cells : List Cell) → (cell.byte == quote) ≡ false → (cell.byte == 10) ≡ true → quoted_from quote (cell ∷ cells) ≡ quoted_from quote cells
unfolding quoted_from
quoted_dropped quote cell [] e n = rw (e, n) refl
quoted_dropped quote cell (next ∷ cells) e n = rw (e, n) refl

pub quoted_escaped : (quote : ℕ) (slash cell : Cell) (cells : List Cell) → (slash.byte == quote) ≡ false → (slash.byte == 10) ≡ false → is_escape quote (slash ∷ cell ∷ []) ≡ true
    → quoted_from quote (slash ∷ cell ∷ cells) ≡ prepended (cell.byte ∷ []) true (quoted_from quote cells)
unfolding quoted_from
quoted_escaped quote slash cell cells e n s = rw (e, n, s) refl

pub quoted_kept : (quote : ℕ) (cell : Cell) (cells : List Cell) → (cell.byte == quote) ≡ false → (cell.byte == 10) ≡ false → is_escape quote (cell ∷ cells) ≡ false
    → quoted_from quote (cell ∷ cells) ≡ prepended (cell.byte ∷ []) (is_known (class_of cell.byte)) (quoted_from quote cells)
unfolding quoted_from
quoted_kept quote cell [] e n s = rw (e, n) refl
quoted_kept quote cell (next ∷ cells) e n s = rw (e, n, s) refl

-- a backslash that is no quote and no newline
slash_tests : (quote : ℕ) (slash cell : Cell) → IsQuoteByte quote → is_escape quote (slash ∷ cell ∷ []) ≡ true → ((slash.byte == quote) ≡ false) × ((slash.byte == 10) ≡ false)
slash_tests quote slash cell q s =
    let is : slash.byte ≡ 92 = eqb-true _ _ (and_parts _ _ s).0 in
    (ap (λ b. b == quote) is ∙ q.no_slash, ap (λ b. b == 10) is)

-- a newline that is no quote
newline_test : (quote byte : ℕ) → IsQuoteByte quote → (byte == 10) ≡ true → (byte == quote) ≡ false
newline_test quote byte q n = ap (λ b. b == quote) (eqb-true _ _ n) ∙ q.no_newline

-- what stands between is found, whatever the string ends with
pub between_is : {quote : ℕ} {cells rest : List Cell} {text : List ℕ} {known : Bool} → Between quote cells rest text known
    → IsQuoteByte quote → (closed : Bool) (after : List Cell) → quoted_from quote rest ≡ record { text = []; known = true; closed = closed; after = after }
    → quoted_from quote (cells ++ rest) ≡ record { text = text; known = known; closed = closed; after = after }
between_is nothing q closed after end = end
between_is {quote} (escaped {slash = slash} {cell = cell} {cells = cells} {rest = rest} s between) q closed after end =
    let tests = slash_tests quote slash cell q s in
    quoted_escaped quote slash cell (cells ++ rest) tests.0 tests.1 s ∙ ap (prepended (cell.byte ∷ []) true) (between_is between q closed after end)
between_is {quote} (dropped {cell = cell} {cells = cells} {rest = rest} n between) q closed after end =
    quoted_dropped quote cell (cells ++ rest) (newline_test quote cell.byte q n) n ∙ between_is between q closed after end
between_is {quote} (kept {cell = cell} {cells = cells} {rest = rest} e n s between) q closed after end =
    quoted_kept quote cell (cells ++ rest) e n s ∙ ap (prepended (cell.byte ∷ []) (is_known (class_of cell.byte))) (between_is between q closed after end)

-- a closing quote, or nothing
abbrev pub EndsWith : ℕ → Bool → List Cell → List Cell → Type 0
EndsWith quote true rest after = (closing : Cell) × (rest ≡ closing ∷ after) × ((closing.byte == quote) ≡ true)
EndsWith quote false rest after = (rest ≡ []) × (after ≡ [])

-- what is found stands between
pub record IsBetween (quote : ℕ) (cells : List Cell) (quoted : Quoted) : Type 0 where
  pub inner : List Cell
  pub rest : List Cell
  pub joined : cells ≡ inner ++ rest
  pub between : Between quote inner rest quoted.text quoted.known
  pub ends : EndsWith quote quoted.closed rest quoted.after

module _ (quote : ℕ) (q : IsQuoteByte quote) where
  keep : (cell : Cell) (cells : List Cell) (quoted : Quoted) → (cell.byte == quote) ≡ false → (cell.byte == 10) ≡ false → is_escape quote (cell ∷ cells) ≡ false
      → IsBetween quote cells quoted → IsBetween quote (cell ∷ cells) (prepended (cell.byte ∷ []) (is_known (class_of cell.byte)) quoted)
  keep cell cells quoted e n s found = record {
    inner = cell ∷ found.inner;
    rest = found.rest;
    joined = ap (λ t. cell ∷ t) found.joined;
    between = kept e n (ap (λ t. is_escape quote (cell ∷ t)) (sym found.joined) ∙ s) found.between;
    ends = found.ends;
  }

  -- a cell that begins no escape
  one_more : (cell : Cell) (cells : List Cell) → is_escape quote (cell ∷ cells) ≡ false → IsBetween quote cells (quoted_from quote cells) → IsBetween quote (cell ∷ cells) (quoted_from quote (cell ∷ cells))
  one_more cell cells s found = by_quote (cell.byte == quote) (cell.byte == 10) refl refl where
    by_quote : (a b : Bool) → (cell.byte == quote) ≡ a → (cell.byte == 10) ≡ b → IsBetween quote (cell ∷ cells) (quoted_from quote (cell ∷ cells))
    by_quote true b e n =
        subst (IsBetween quote (cell ∷ cells)) (sym (quoted_closed quote cell cells e))
        (record { inner = []; rest = cell ∷ cells; joined = refl; between = nothing; ends = (cell, refl, e) })
    by_quote false true e n =
        subst (IsBetween quote (cell ∷ cells)) (sym (quoted_dropped quote cell cells e n))
        (record { inner = cell ∷ found.inner; rest = found.rest; joined = ap (λ t. cell ∷ t) found.joined; between = dropped n found.between; ends = found.ends })
    by_quote false false e n =
        subst (IsBetween quote (cell ∷ cells)) (sym (quoted_kept quote cell cells e n s)) (keep cell cells _ e n s found)

  escape : (slash cell : Cell) (cells : List Cell) → is_escape quote (slash ∷ cell ∷ []) ≡ true → IsBetween quote cells (quoted_from quote cells) → IsBetween quote (slash ∷ cell ∷ cells) (quoted_from quote (slash ∷ cell ∷ cells))
  escape slash cell cells s found =
      let tests = slash_tests quote slash cell q s in
      subst (IsBetween quote (slash ∷ cell ∷ cells)) (sym (quoted_escaped quote slash cell cells tests.0 tests.1 s))
      (record { inner = slash ∷ cell ∷ found.inner; rest = found.rest; joined = ap (λ t. slash ∷ cell ∷ t) found.joined; between = escaped s found.between; ends = found.ends })

  empty : IsBetween quote [] (quoted_from quote [])
  unfolding quoted_from
  empty = record { inner = []; rest = []; joined = refl; between = nothing; ends = (refl, refl) }

  pub found_between : (cells : List Cell) → IsBetween quote cells (quoted_from quote cells)
  found_between [] = empty
  found_between (cell ∷ []) = one_more cell [] refl empty
  found_between (cell ∷ next ∷ cells) = by_escape (is_escape quote (cell ∷ next ∷ [])) refl (found_between cells) (found_between (next ∷ cells)) where
    by_escape : (b : Bool) → is_escape quote (cell ∷ next ∷ []) ≡ b → IsBetween quote cells (quoted_from quote cells) → IsBetween quote (next ∷ cells) (quoted_from quote (next ∷ cells)) → IsBetween quote (cell ∷ next ∷ cells) (quoted_from quote (cell ∷ next ∷ cells))
    by_escape true s two one = escape cell next cells s two
    by_escape false s two one = one_more cell (next ∷ cells) s one

-- what is no escape
pub no_slash : (quote : ℕ) (cell : Cell) (cells : List Cell) → (cell.byte == 92) ≡ false → is_escape quote (cell ∷ cells) ≡ false
no_slash quote cell [] e = refl
no_slash quote cell (next ∷ cells) e = rw e refl

pub no_escapable : (quote : ℕ) (cell next : Cell) (cells : List Cell) → Some next ≡ first_cell cells → is_escapable quote next.byte ≡ false → is_escape quote (cell ∷ cells) ≡ false
no_escapable quote cell next [] e fails = refl
no_escapable quote cell next (first ∷ cells) e fails =
    let same : next ≡ first = cc in
    and_right (cell.byte == 92) (is_escapable quote first.byte) (ap (λ (c : Cell). is_escapable quote c.byte) (sym same) ∙ fails)

pub no_next : (quote : ℕ) (cell : Cell) (cells : List Cell) → None ≡ first_cell cells → is_escape quote (cell ∷ cells) ≡ false
no_next quote cell [] e = refl
no_next quote cell (first ∷ cells) e = absurd cc

-- an escaped byte may stand in a string
known_at : (byte other : ℕ) → (byte == other) ≡ true → is_known (class_of other) ≡ true → is_known (class_of byte) ≡ true
known_at byte other e known = ap (λ n. is_known (class_of n)) (eqb-true byte other e) ∙ known

escapable_known : (quote byte : ℕ) → class_of quote ≡ Quote → is_escapable quote byte ≡ true → is_known (class_of byte) ≡ true
unfolding class_of
escapable_known quote byte is e = ⊎_elim
    (λ first. ⊎_elim (λ a. known_at byte quote a (ap is_known is)) (λ b. known_at byte 32 b refl) (or_cases (byte == quote) (byte == 32) first))
    (λ c. known_at byte 9 c refl)
    (or_cases (byte == quote || byte == 32) (byte == 9) e)

pub escape_goes_on : (quote : ℕ) (slash next : Cell) (cells : List Cell) → class_of quote ≡ Quote → (slash.byte == 92) ≡ true → Some next ≡ first_cell cells → is_escapable quote next.byte ≡ true
    → quoted_from quote (slash ∷ cells) ≡ prepended (next.byte ∷ []) (is_known (class_of next.byte)) (quoted_from quote (drop 1 cells))
escape_goes_on quote slash next [] is s e passes = absurd cc
escape_goes_on quote slash next (first ∷ cells) is s e passes =
    let same : next ≡ first = cc in
    let escapes = and_from (slash.byte == 92) (is_escapable quote first.byte) s (ap (λ (c : Cell). is_escapable quote c.byte) (sym same) ∙ passes) in
    let tests = slash_tests quote slash first (IsQuoteByte-from_class quote is) escapes in
    quoted_escaped quote slash first cells tests.0 tests.1 escapes
    ∙ ap (λ (c : Cell). prepended (c.byte ∷ []) true (quoted_from quote cells)) (sym same)
    ∙ ap (λ known. prepended (next.byte ∷ []) known (quoted_from quote cells)) (sym (escapable_known quote next.byte is passes))

and_true : (known : Bool) → (known && true) ≡ known
and_true true = refl
and_true false = refl

-- where nothing is left, what was found so far is all
pub cut_off_is : (quote : ℕ) (cells : List Cell) (text : List ℕ) (known : Bool) (whole : Quoted) → None ≡ first_cell cells → prepended text known (quoted_from quote cells) ≡ whole
    → whole ≡ record { text = text; known = known; closed = false; after = cells }
unfolding quoted_from
cut_off_is quote [] text known whole e so_far = sym so_far ∙ (λ i. record { text = append-nil text i; known = and_true known i; closed = false; after = [] })
cut_off_is quote (first ∷ cells) text known whole e so_far = absurd cc
