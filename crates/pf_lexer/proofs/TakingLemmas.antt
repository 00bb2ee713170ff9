-- What each kind of token makes of a statement.
use Rattle.std.proofs.Common.{◌≡◌, ℕ, ◌+◌, ◌-◌, ◌<◌, ◌≤◌, Bool, true, false, cond, List, [], ◌∷◌, ◌++◌, Option, Some, None, length, fold, refl, ap, ◌∙◌, length-append, arith}
use Rattle.std.specs.Prelude.{◌&&◌, OnSome}
use Rattle.pf_token.specs.Reading.{weight}
use Rattle.std.proofs.lemmas.Bool.{and_parts, both_ways}
use Rattle.pf_token.specs.declared.cell.Cell.{Cell}
use Rattle.pf_lexer.specs.declared.statement.Close.TheVariants.{Line, Body, Long}
use Rattle.pf_lexer.specs.declared.statement.Turn.TheVariants.{Closed, Seen}
use Rattle.pf_token.specs.declared.token.TokenKind.{TokenKind}
use Rattle.pf_token.specs.declared.token.TokenKind.TheVariants.{Word, Quoted, Sign, Newline}
use Rattle.pf_token.specs.declared.token.Lexeme.{Lexeme}
use Rattle.pf_token.specs.declared.token.Lexeme.TheVariants.{Token, Fault}
use Rattle.pf_token.specs.Pieces.{Next}
use Rattle.pf_lexer.specs.Statements.{at_newline, skipped, at_body, too_long, taken, NoNewline, begins_anchor, depth_after, depth_of, most_tokens}
use Rattle.pf_token.specs.Kinds.{is_byte, is_newline, is_newline_kind, is_sign, is_sign_kind}
use Rattle.pf_lexer.specs.Taking.{Views, IsTurn, is_newline_view, view_weight}

-- no more list braces are open than there are tokens
depth_fold : (depth : ℕ) (lexemes : List Lexeme) → fold depth_after depth lexemes ≤ depth + length lexemes
depth_fold depth [] = omega arith
depth_fold depth (lexeme ∷ lexemes) = by_signs (is_sign 123 lexeme) (is_sign 125 lexeme) (λ d. depth_fold d lexemes) where
  by_signs : (a b : Bool) → ((d : ℕ) → fold depth_after d lexemes ≤ d + length lexemes) → fold depth_after (cond a (depth + 1) (cond b (depth - 1) depth)) lexemes ≤ depth + length (lexeme ∷ lexemes)
  by_signs true b rest = let bound = rest (depth + 1) in omega arith
  by_signs false true rest = let bound = rest (depth - 1) in omega arith
  by_signs false false rest = let bound = rest depth in omega arith

pub depth_bound : (lexemes : List Lexeme) → depth_of lexemes ≤ length lexemes
depth_bound lexemes = let bound = depth_fold 0 lexemes in omega arith

kind_no_newline : (kind : TokenKind) → is_sign_kind kind ≡ true → is_newline_kind kind ≡ false
kind_no_newline Word e = refl
kind_no_newline Quoted e = refl
kind_no_newline Sign e = refl
kind_no_newline Newline e = absurd cc

-- a sign is no newline
pub sign_no_newline : (byte : ℕ) (lexeme : Lexeme) → is_sign byte lexeme ≡ true → is_newline lexeme ≡ false
sign_no_newline byte (Token token) e = kind_no_newline token.kind (and_parts (is_sign_kind token.kind) (is_byte byte token.text) e).0
sign_no_newline byte (Fault fault) e = refl

-- no other token comes next than the one in view
abbrev pub SeesOnly : (List ℕ → Option (List ℕ)) → List Cell → Option Lexeme → Type 0
SeesOnly values cells view = (lexeme : Lexeme) (after : List Cell) → Next values cells lexeme after → view ≡ Some lexeme

module _ (values : List ℕ → Option (List ℕ)) (before : List Lexeme) (lexeme : Lexeme) (cells after : List Cell) where
  pub turn_line : is_newline lexeme ≡ true → depth_of before ≡ 0 → IsTurn values before before lexeme cells (Closed Line) cells
  turn_line newline none = λ start comes. at_newline comes newline none

  pub turn_skipped : is_newline lexeme ≡ true → 0 < depth_of before → (view : Option Lexeme) → Views values cells view after → IsTurn values before before lexeme cells (Seen view) after
  turn_skipped newline some view views = λ start comes. record {
    next = cells;
    views = views;
    goes = λ lexemes close rest ends. skipped comes newline some ends;
  }

  -- a token in view says whether a newline comes
  newline_comes : (view : Option Lexeme) → Views values cells view after → is_newline_view view ≡ true → (newline : Lexeme) × Next values cells newline after × (is_newline newline ≡ true)
  newline_comes None views is = absurd cc
  newline_comes (Some newline) views is = (newline, views, is)

  no_newline_comes : (view : Option Lexeme) → SeesOnly values cells view → is_newline_view view ≡ false → NoNewline values cells
  no_newline_comes None only is = λ other rest next. let none = only other rest next in absurd cc
  no_newline_comes (Some seen) only is = λ other rest next. let same = only other rest next in let one : other ≡ seen = cc in ap is_newline one ∙ is

  pub turn_body : begins_anchor before ≡ true → is_sign 123 lexeme ≡ true → (view : Option Lexeme) → Views values cells view after → is_newline_view view ≡ true → IsTurn values before before lexeme cells (Closed Body) after
  turn_body anchor brace view views is = λ start comes.
      let newline = newline_comes view views is in
      at_body anchor comes brace newline.1 newline.2

  -- a token that opens no body
  no_body_seen : (view : Option Lexeme) → SeesOnly values cells view → is_newline_view view ≡ false → (begins_anchor before && is_sign 123 lexeme) ≡ true → NoNewline values cells
  no_body_seen view only is opens = no_newline_comes view only is

  no_body_here : (begins_anchor before && is_sign 123 lexeme) ≡ false → (begins_anchor before && is_sign 123 lexeme) ≡ true → NoNewline values cells
  no_body_here closed opens = absurd (both_ways (begins_anchor before && is_sign 123 lexeme) closed opens)

  turn_long : is_newline lexeme ≡ false → ((begins_anchor before && is_sign 123 lexeme) ≡ true → NoNewline values cells) → (rest : List Cell) → length before ≡ most_tokens
      → IsTurn values before (before ++ lexeme ∷ []) lexeme cells (Closed Long) rest
  turn_long newline no_body rest many = λ start comes. too_long (record { comes = comes; no_newline = newline; no_body = no_body }) many

  turn_taken : is_newline lexeme ≡ false → ((begins_anchor before && is_sign 123 lexeme) ≡ true → NoNewline values cells) → length before < most_tokens → (view : Option Lexeme) → Views values cells view after
      → IsTurn values before (before ++ lexeme ∷ []) lexeme cells (Seen view) after
  turn_taken newline no_body few view views = λ start comes. record {
    next = cells;
    views = views;
    goes = λ lexemes close rest ends. taken (record { comes = comes; no_newline = newline; no_body = no_body }) few ends;
  }

  -- a `{` with no newline next to it
  pub brace_long : is_newline lexeme ≡ false → (view : Option Lexeme) → SeesOnly values cells view → is_newline_view view ≡ false → length before ≡ most_tokens → IsTurn values before (before ++ lexeme ∷ []) lexeme cells (Closed Long) after
  brace_long newline view only is many = turn_long newline (no_body_seen view only is) after many

  pub brace_taken : is_newline lexeme ≡ false → (view : Option Lexeme) → Views values cells view after → SeesOnly values cells view → is_newline_view view ≡ false → length before < most_tokens → IsTurn values before (before ++ lexeme ∷ []) lexeme cells (Seen view) after
  brace_taken newline view views only is few = turn_taken newline (no_body_seen view only is) few view views

  -- any other token
  pub token_long : is_newline lexeme ≡ false → (begins_anchor before && is_sign 123 lexeme) ≡ false → length before ≡ most_tokens → IsTurn values before (before ++ lexeme ∷ []) lexeme cells (Closed Long) cells
  token_long newline closed many = turn_long newline (no_body_here closed) cells many

  pub token_taken : is_newline lexeme ≡ false → (begins_anchor before && is_sign 123 lexeme) ≡ false → length before < most_tokens → (view : Option Lexeme) → Views values cells view after → IsTurn values before (before ++ lexeme ∷ []) lexeme cells (Seen view) after
  token_taken newline closed few view views = turn_taken newline (no_body_here closed) few view views

-- what is left with the token in view weighs no more than at the start, and less behind a token
abbrev pub IsLighter : List Lexeme → ℕ → ℕ → Type 0
IsLighter [] now start = now ≤ start
IsLighter (first ∷ rest) now start = now < start

-- one token over the most, or none
pub one_over : (before now : List Lexeme) (lexeme : Lexeme) → length before ≤ most_tokens → now ≡ before ++ lexeme ∷ [] → most_tokens < length now → length before ≡ most_tokens
one_over before now lexeme few is over = omega (arith, ap length is, length-append before (lexeme ∷ []))

pub not_over : (before now : List Lexeme) (lexeme : Lexeme) → now ≡ before ++ lexeme ∷ [] → length now ≤ most_tokens → length before < most_tokens
not_over before now lexeme is few = omega (arith, ap length is, length-append before (lexeme ∷ []))

-- the token in view and what follows it weigh no more than the cells that they come from
pub view_lighter : (view : Option Lexeme) (now start : List Cell) (values : List ℕ → Option (List ℕ)) → Views values start view now → OnSome view (weight now < weight start) → view_weight view now ≤ weight start
view_lighter None now start values views less = omega (arith, ap weight views.1)
view_lighter (Some lexeme) now start values views less = omega arith
