-- The next token of a text is one, so its list of tokens is one. How the code's steps lead to it.
use Rattle.std.proofs.Common.{◌≡◌, ℕ, List, [], ◌∷◌, ◌++◌, drop, Option, Some, None, refl, ap, sym, ◌∙◌, subst}
use Rattle.pf_token.specs.declared.cell.Cell.{Cell}
use Rattle.pf_token.specs.declared.token.Lexeme.{Lexeme}
use Rattle.pf_token.specs.Cells.{first_cell}
use Rattle.pf_token.specs.Pieces.{Piece, Next, NoMore, Reads}
use Rattle.pf_token.specs.Reading.{Step, step}
use Rattle.pf_token.proofs.DollarLemmas.{cells_are}
use Rattle.pf_token.proofs.PieceSteps.{step_is, IsFirst, first_is}

some_parts : {a b : Lexeme} {x y : List Cell} → ◌≡◌ {A = Step} (Some a, x) (Some b, y) → (a ≡ b) × (x ≡ y)
some_parts e = let first = ap (λ (p : Step). p.0) e in (cc, ap (λ (p : Step). p.1) e)

some_none : {a : Lexeme} {x y : List Cell} → ◌≡◌ {A = Step} (Some a, x) (None, y) → ⊥
some_none e = let first = ap (λ (p : Step). p.0) e in cc

none_part : {x y : List Cell} → ◌≡◌ {A = Step} (None, x) (None, y) → x ≡ y
none_part e = ap (λ (p : Step). p.1) e

module _ (values : List ℕ → Option (List ℕ)) where
  stepped : {cells spelled rest next : List Cell} {found : Option Lexeme} → cells ≡ spelled ++ rest → Piece values spelled rest found next → step values cells ≡ (found, next)
  stepped joined piece = ap (step values) joined ∙ step_is values piece

  -- what the code's steps give
  next_here : (cell : Cell) (cells after : List Cell) (lexeme : Lexeme) → step values (cell ∷ cells) ≡ (Some lexeme, after) → Next values (cell ∷ cells) lexeme after
  next_here cell cells after lexeme e =
      let first = subst (IsFirst values (cell ∷ cells)) e (first_is values cell cells) in
      Next.here first.joined first.piece

  next_passed : (cell : Cell) (cells next after : List Cell) (lexeme : Lexeme) → step values (cell ∷ cells) ≡ (None, next) → Next values next lexeme after → Next values (cell ∷ cells) lexeme after
  next_passed cell cells next after lexeme e more =
      let first = subst (IsFirst values (cell ∷ cells)) e (first_is values cell cells) in
      Next.passed first.joined first.piece more

  no_more_passed : (cell : Cell) (cells next : List Cell) → step values (cell ∷ cells) ≡ (None, next) → NoMore values next → NoMore values (cell ∷ cells)
  no_more_passed cell cells next e more =
      let first = subst (IsFirst values (cell ∷ cells)) e (first_is values cell cells) in
      NoMore.passed first.joined first.piece more

  -- the same where the cells are known by their first
  pub here_at : (cells : List Cell) (cell : Cell) (after : List Cell) (lexeme : Lexeme) → Some cell ≡ first_cell cells → step values cells ≡ (Some lexeme, after) → Next values cells lexeme after
  here_at cells cell after lexeme first e =
      let are = cells_are cells cell first in
      subst (λ t. Next values t lexeme after) (sym are) (next_here cell (drop 1 cells) after lexeme (ap (step values) (sym are) ∙ e))

  pub passed_at : (cells : List Cell) (cell : Cell) (next : List Cell) → Some cell ≡ first_cell cells → step values cells ≡ (None, next) → (after : List Cell) (lexeme : Lexeme) → Next values next lexeme after → Next values cells lexeme after
  passed_at cells cell next first e after lexeme more =
      let are = cells_are cells cell first in
      subst (λ t. Next values t lexeme after) (sym are) (next_passed cell (drop 1 cells) next after lexeme (ap (step values) (sym are) ∙ e) more)

  pub no_more_at : (cells : List Cell) (cell : Cell) (next : List Cell) → Some cell ≡ first_cell cells → step values cells ≡ (None, next) → NoMore values next → NoMore values cells
  no_more_at cells cell next first e more =
      let are = cells_are cells cell first in
      subst (NoMore values) (sym are) (no_more_passed cell (drop 1 cells) next (ap (step values) (sym are) ∙ e) more)

  pub ended_at : (cells : List Cell) → None ≡ first_cell cells → NoMore values cells × (cells ≡ [])
  ended_at [] e = (NoMore.ended, refl)
  ended_at (cell ∷ cells) e = absurd cc

  after_some : {cells other : List Cell} {found : Lexeme} → Next values cells found other → (lexeme : Lexeme) (after : List Cell) → step values cells ≡ (Some lexeme, after) → (lexeme ≡ found) × (after ≡ other)
  after_some (Next.here joined piece) lexeme after e = some_parts (sym e ∙ stepped joined piece)
  after_some (Next.passed joined piece more) lexeme after e = absurd (some_none (sym e ∙ stepped joined piece))

  after_none : {cells other : List Cell} {found : Lexeme} → Next values cells found other → (next : List Cell) → step values cells ≡ (None, next) → Next values next found other
  after_none (Next.here joined piece) next e = absurd (some_none (sym (stepped joined piece) ∙ e))
  after_none {other = other} {found = found} (Next.passed joined piece more) next e = subst (λ t. Next values t found other) (none_part (sym (stepped joined piece) ∙ e)) more

  -- the next token is one
  pub next_one : {cells after other : List Cell} {lexeme found : Lexeme} → Next values cells lexeme after → Next values cells found other → (lexeme ≡ found) × (after ≡ other)
  next_one {after = after} {lexeme = lexeme} (Next.here joined piece) other = after_some other lexeme after (stepped joined piece)
  next_one (Next.passed {next = next} joined piece more) other = next_one more (after_none other next (stepped joined piece))

  at_end : {cells after : List Cell} {lexeme : Lexeme} → Next values cells lexeme after → cells ≡ [] → ⊥
  unfolding step
  at_end (Next.here joined piece) e = some_none (sym (stepped joined piece) ∙ ap (step values) e)
  at_end (Next.passed joined piece more) e = at_end more (none_part (sym (stepped joined piece) ∙ ap (step values) e))

  -- where no token comes any more, none comes
  pub no_next : {cells after : List Cell} {lexeme : Lexeme} → NoMore values cells → Next values cells lexeme after → ⊥
  no_next NoMore.ended other = at_end other refl
  no_next (NoMore.passed {next = next} joined piece more) other = no_next more (after_none other next (stepped joined piece))

  at_none : {cells : List Cell} {lexemes : List Lexeme} → Reads values cells lexemes → NoMore values cells → [] ≡ lexemes
  at_none (Reads.ended none) no_more = refl
  at_none (Reads.next one rest) no_more = absurd (no_next no_more one)

  at_next : {cells after : List Cell} {lexeme : Lexeme} {lexemes others : List Lexeme} → Reads values cells others → Next values cells lexeme after → ((them : List Lexeme) → Reads values after them → lexemes ≡ them) → lexeme ∷ lexemes ≡ others
  at_next (Reads.ended none) one same = absurd (no_next none one)
  at_next (Reads.next {lexemes = them} other rest) one same =
      let both = next_one one other in
      (λ i. both.0 i ∷ same them (subst (λ t. Reads values t them) (sym both.1) rest) i)

  -- the tokens of a text are one list
  pub reads_one : {cells : List Cell} {lexemes others : List Lexeme} → Reads values cells lexemes → Reads values cells others → lexemes ≡ others
  reads_one (Reads.ended none) other = at_none other none
  reads_one (Reads.next one rest) other = at_next other one (λ them read. reads_one rest read)
