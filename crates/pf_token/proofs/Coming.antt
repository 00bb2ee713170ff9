-- Something comes next of any cells: each piece leaves less.
use Rattle.std.proofs.Common.{◌≡◌, ℕ, ◌+◌, ◌<◌, ◌≤◌, true, false, zero, suc, List, [], ◌∷◌, ◌++◌, length, length-append, Option, Some, None, refl, sym, subst, inl, inr, arith}
use Rattle.std.specs.Prelude.{◌==◌}
use Rattle.std.proofs.lemmas.Bool.{or_parts}
use Rattle.pf_base.specs.declared.fault.Place.{Place}
use Rattle.pf_token.specs.declared.cell.Cell.{Cell}
use Rattle.pf_token.specs.declared.token.Lexeme.{Lexeme}
use Rattle.pf_token.specs.Cells.{cells_at, has_dollar}
use Rattle.pf_token.specs.Coming.{Comes, Descends, HasTokens, IsBelow, IsLess, below, dollars, none, one}
use Rattle.pf_token.specs.Pieces.{Piece, blank, comment, newline, sign, string, unterminated, word, bad, used, unnamed, undefined, nested, Next, NoMore, Reads}
use Rattle.pf_token.specs.Reading.{step}
use Rattle.pf_token.proofs.DollarLemmas.{class_dollar}
use Rattle.pf_token.proofs.PieceSteps.{IsFirst, first_is}

-- a descent ends: by the first number, and where that stays by the second
within : (c : ℕ) → ((a b : ℕ) → a < c → Descends a b) → (most a b : ℕ) → a ≤ c → b < most → Descends a b
within c less zero a b p q = absurd (omega arith)
within c less (suc most) a b p q = below (by_cases (within c less most)) where
  by_cases : ((a b : ℕ) → a ≤ c → b < most → Descends a b) → (x y : ℕ) → IsBelow x y a b → Descends x y
  by_cases more x y (inl lower) = less x y (omega arith)
  by_cases more x y (inr same) = more x y (omega (arith, same.0)) (omega (arith, same.1))

under : (c a b : ℕ) → a < c → Descends a b
under zero a b p = absurd (omega arith)
under (suc c) a b p = within c (under c) (suc b) a b (omega arith) (omega arith)

pub descent_ends : (a b : ℕ) → Descends a b
descent_ends a b = under (suc a) a b (omega arith)

pub less_than_both : (a b c : List Cell) → IsLess a b → IsLess b c → IsLess a c
less_than_both a b c (inl p) (inl q) = inl (omega arith)
less_than_both a b c (inl p) (inr q) = inl (omega (arith, q.0))
less_than_both a b c (inr p) (inl q) = inl (omega (arith, p.0))
less_than_both a b c (inr p) (inr q) = inr (omega (arith, p.0, q.0), omega (arith, p.1, q.1))

less_at : (after cells : List Cell) (a b : ℕ) → dollars cells ≡ a → length cells ≡ b → IsLess after cells → IsBelow (dollars after) (length after) a b
less_at after cells a b p q less = subst (λ n. IsBelow (dollars after) (length after) n b) p (subst (λ n. IsBelow (dollars after) (length after) (dollars cells) n) q less)

dollars_append : (a b : List Cell) → dollars (a ++ b) ≡ dollars a + dollars b
dollars_append [] b = omega arith
dollars_append (cell ∷ a) b = let rest = dollars_append a b in omega arith

-- what follows a piece is less
rest_less : (cell : Cell) (cells rest : List Cell) → IsLess rest ((cell ∷ cells) ++ rest)
rest_less cell cells rest = inr (omega (arith, dollars_append cells rest), omega (arith, length-append cells rest))

-- a value that is put in has no `$`
value_dollars : (place : Place) (value : List ℕ) (rest : List Cell) → has_dollar value ≡ false → dollars (cells_at place value ++ rest) ≡ dollars rest
value_dollars place [] rest plain = refl
value_dollars place (byte ∷ value) rest plain =
    let parts = or_parts (byte == 36) (has_dollar value) plain in
    let more = value_dollars place value rest parts.1 in
    rw parts.0 (omega arith)

-- and takes the place of one
used_less : (dollar : Cell) (name : List Cell) (value : List ℕ) (rest : List Cell) → (dollar.byte == 36) ≡ true → has_dollar value ≡ false → IsLess (cells_at dollar.place value ++ rest) ((dollar ∷ name) ++ rest)
used_less dollar name value rest is plain =
    let put = value_dollars dollar.place value rest plain in
    let gone = dollars_append name rest in
    inl (rw is (omega arith))

piece_less : {values : List ℕ → Option (List ℕ)} {spelled rest after : List Cell} {found : Option Lexeme} → Piece values spelled rest found after → IsLess after (spelled ++ rest)
piece_less (blank {cell = cell} {rest = rest} is) = rest_less cell [] rest
piece_less (comment {hash = hash} {cells = cells} {rest = rest} is run) = rest_less hash cells rest
piece_less (newline {cell = cell} {rest = rest} is) = rest_less cell [] rest
piece_less (sign {cell = cell} {rest = rest} is) = rest_less cell [] rest
piece_less (string {opening = opening} {closing = closing} {cells = cells} {rest = rest} is between closes) = rest_less opening (cells ++ closing ∷ []) rest
piece_less (unterminated {opening = opening} {cells = cells} is between) = rest_less opening cells []
piece_less (word {first = first} {cells = cells} {rest = rest} is run) = rest_less first cells rest
piece_less (bad {cell = cell} {rest = rest} is) = rest_less cell [] rest
piece_less (used {dollar = dollar} {first = first} {name = name} {rest = rest} {value = value} is run stands plain) = used_less dollar (first ∷ name) value rest (class_dollar dollar.byte is) plain
piece_less (unnamed {dollar = dollar} {cells = cells} {rest = rest} is run none_named) = rest_less dollar cells rest
piece_less (undefined {dollar = dollar} {first = first} {name = name} {others = others} {rest = rest} is run stands more) = rest_less dollar (first ∷ (name ++ others)) rest
piece_less (nested {dollar = dollar} {first = first} {name = name} {others = others} {rest = rest} is run stands has more) = rest_less dollar (first ∷ (name ++ others)) rest

module _ (values : List ℕ → Option (List ℕ)) where
  -- behind a piece that makes no token
  passed : (cells spelled rest next : List Cell) → cells ≡ spelled ++ rest → Piece values spelled rest None next → IsLess next cells → Comes values next → Comes values cells
  passed cells spelled rest next joined piece less (one {after = after} comes lower) = one (Next.passed joined piece comes) (less_than_both after next cells lower less)
  passed cells spelled rest next joined piece less (none over) = none (NoMore.passed joined piece over)

  by_found : (cells : List Cell) (found : Option Lexeme) (next : List Cell) → IsFirst values cells (found, next) → (IsLess next cells → Comes values next) → Comes values cells
  by_found cells (Some lexeme) next first more = one (Next.here first.joined first.piece) (subst (λ t. IsLess next t) (sym first.joined) (piece_less first.piece))
  by_found cells None next first more =
      let less : IsLess next cells = subst (λ t. IsLess next t) (sym first.joined) (piece_less first.piece) in
      passed cells first.spelled first.rest next first.joined first.piece less (more less)

  comes_by : {a b : ℕ} → Descends a b → (cells : List Cell) → dollars cells ≡ a → length cells ≡ b → Comes values cells
  comes_by (below lower) [] p q = none NoMore.ended
  comes_by {a} {b} (below lower) (cell ∷ cells) p q =
      let next : List Cell = (step values (cell ∷ cells)).1 in
      by_found (cell ∷ cells) (step values (cell ∷ cells)).0 next (first_is values cell cells)
      (λ less. comes_by (lower (dollars next) (length next) (less_at next (cell ∷ cells) a b p q less)) next refl refl)

  -- something comes next
  pub something_comes : (cells : List Cell) → Comes values cells
  something_comes cells = comes_by (descent_ends (dollars cells) (length cells)) cells refl refl

  tokens_from : (cells : List Cell) → ((after : List Cell) → IsLess after cells → HasTokens values after) → Comes values cells → HasTokens values cells
  tokens_from cells more (none over) = record { lexemes = []; reads = Reads.ended over }
  tokens_from cells more (one {lexeme = lexeme} {after = after} comes less) = let rest = more after less in record { lexemes = lexeme ∷ rest.lexemes; reads = Reads.next comes rest.reads }

  tokens_by : {a b : ℕ} → Descends a b → (cells : List Cell) → dollars cells ≡ a → length cells ≡ b → HasTokens values cells
  tokens_by {a} {b} (below lower) cells p q =
      tokens_from cells
      (λ after less. tokens_by (lower (dollars after) (length after) (less_at after cells a b p q less)) after refl refl)
      (something_comes cells)

  -- a text has tokens
  pub has_tokens : (cells : List Cell) → HasTokens values cells
  has_tokens cells = tokens_by (descent_ends (dollars cells) (length cells)) cells refl refl
