-- A statement has one end.
use Rattle.std.proofs.Common.{◌≡◌, ℕ, ◌<◌, true, false, List, [], ◌∷◌, ◌++◌, Option, length, refl, ap, sym, ◌∙◌, subst, arith}
use Rattle.std.proofs.lemmas.Bool.{and_from, both_ways}
use Rattle.pf_token.specs.declared.cell.Cell.{Cell}
use Rattle.pf_lexer.specs.declared.statement.Close.{Close}
use Rattle.pf_lexer.specs.declared.statement.Close.TheVariants.{End, Line, Body, Long}
use Rattle.pf_token.specs.declared.token.Lexeme.{Lexeme}
use Rattle.pf_token.specs.Pieces.{Next, NextIsOne, NoMore}
use Rattle.pf_lexer.specs.Statements.{Ends, at_end, at_newline, skipped, at_body, too_long, taken, IsTaken, begins_anchor, depth_of, most_tokens}
use Rattle.pf_token.specs.Kinds.{is_newline, is_sign}
use Rattle.pf_lexer.proofs.TakingLemmas.{sign_no_newline}

-- the same tokens, the same end and the same rest
pub record Same (a b : List Lexeme) (c d : Close) (r s : List Cell) : Type 0 where
  pub lexemes : a ≡ b
  pub close : c ≡ d
  pub rest : r ≡ s

module _ (values : List ℕ → Option (List ℕ)) (law : NextIsOne values) where
  no_newline_here : {cells r s : List Cell} {l m : Lexeme} → Next values cells l r → Next values cells m s → is_newline l ≡ true → is_newline m ≡ false → ⊥
  no_newline_here {m = m} one other is isnt = both_ways (is_newline m) isnt (ap is_newline (sym (law.one one other).0) ∙ is)

  no_sign_here : {cells r s : List Cell} {l m : Lexeme} → Next values cells l r → Next values cells m s → is_newline l ≡ true → is_sign 123 m ≡ true → ⊥
  no_sign_here {m = m} one other is sign = no_newline_here one other is (sign_no_newline 123 m sign)

  -- a token that opens a body is not taken
  no_body_here : {before : List Lexeme} {cells r s t : List Cell} {brace newline m : Lexeme} → begins_anchor before ≡ true → Next values cells brace r → is_sign 123 brace ≡ true → Next values r newline t → is_newline newline ≡ true
      → IsTaken values before cells m s → ⊥
  no_body_here {before = before} {t = t} {brace = brace} {newline = newline} {m = m} anchor comes sign follows is token =
      let same = law.one comes token.comes in
      let opens = and_from (begins_anchor before) (is_sign 123 m) anchor (ap (is_sign 123) (sym same.0) ∙ sign) in
      both_ways (is_newline newline) (token.no_body opens newline t (subst (λ c. Next values c newline t) same.1 follows)) is

  end_at_end : {before lexemes : List Lexeme} {cells after : List Cell} {close : Close} → Ends values before cells lexemes close after → NoMore values cells → Same before lexemes End close [] after
  end_at_end (at_end none) over = record { lexemes = refl; close = refl; rest = refl }
  end_at_end (at_newline next is depth) over = absurd (law.none over next)
  end_at_end (skipped next is depth ends) over = absurd (law.none over next)
  end_at_end (at_body anchor next sign newline is) over = absurd (law.none over next)
  end_at_end (too_long token many) over = absurd (law.none over token.comes)
  end_at_end (taken token few ends) over = absurd (law.none over token.comes)

  end_at_newline : {before lexemes : List Lexeme} {cells after rest : List Cell} {close : Close} {newline : Lexeme} → Ends values before cells lexemes close after → Next values cells newline rest → is_newline newline ≡ true → depth_of before ≡ 0 → Same before lexemes Line close rest after
  end_at_newline (at_end none) comes newline zero = absurd (law.none none comes)
  end_at_newline (at_newline next is depth) comes newline zero = record { lexemes = refl; close = refl; rest = (law.one comes next).1 }
  end_at_newline (skipped next is depth ends) comes newline zero = absurd (omega arith)
  end_at_newline (at_body anchor next sign follows is) comes newline zero = absurd (no_sign_here comes next newline sign)
  end_at_newline (too_long token many) comes newline zero = absurd (no_newline_here comes token.comes newline token.no_newline)
  end_at_newline (taken token few ends) comes newline zero = absurd (no_newline_here comes token.comes newline token.no_newline)

  end_skipped : {before lexemes : List Lexeme} {cells after rest : List Cell} {close : Close} {newline : Lexeme} → Ends values before cells lexemes close after → Next values cells newline rest → is_newline newline ≡ true → 0 < depth_of before → Ends values before rest lexemes close after
  end_skipped (at_end none) comes newline some = absurd (law.none none comes)
  end_skipped (at_newline next is depth) comes newline some = absurd (omega arith)
  end_skipped {before = before} {lexemes = lexemes} {after = after} {close = close} (skipped next is depth ends) comes newline some = subst (λ c. Ends values before c lexemes close after) (sym (law.one comes next).1) ends
  end_skipped (at_body anchor next sign follows is) comes newline some = absurd (no_sign_here comes next newline sign)
  end_skipped (too_long token many) comes newline some = absurd (no_newline_here comes token.comes newline token.no_newline)
  end_skipped (taken token few ends) comes newline some = absurd (no_newline_here comes token.comes newline token.no_newline)

  end_at_body : {before lexemes : List Lexeme} {cells next after rest : List Cell} {close : Close} {brace newline : Lexeme} → Ends values before cells lexemes close after → begins_anchor before ≡ true → Next values cells brace next → is_sign 123 brace ≡ true → Next values next newline rest → is_newline newline ≡ true
      → Same before lexemes Body close rest after
  end_at_body (at_end none) anchor comes sign follows newline = absurd (law.none none comes)
  end_at_body (at_newline other is depth) anchor comes sign follows newline = absurd (no_sign_here other comes is sign)
  end_at_body (skipped other is depth ends) anchor comes sign follows newline = absurd (no_sign_here other comes is sign)
  end_at_body {rest = rest} {newline = newline} (at_body again other is_brace more is) anchor comes sign follows is_newline =
      record { lexemes = refl; close = refl; rest = (law.one (subst (λ c. Next values c newline rest) (law.one comes other).1 follows) more).1 }
  end_at_body (too_long token many) anchor comes sign follows newline = absurd (no_body_here anchor comes sign follows newline token)
  end_at_body (taken token few ends) anchor comes sign follows newline = absurd (no_body_here anchor comes sign follows newline token)

  end_too_long : {before lexemes : List Lexeme} {cells next after : List Cell} {close : Close} {lexeme : Lexeme} → Ends values before cells lexemes close after → IsTaken values before cells lexeme next → length before ≡ most_tokens → Same (before ++ lexeme ∷ []) lexemes Long close [] after
  end_too_long (at_end none) token many = absurd (law.none none token.comes)
  end_too_long (at_newline other is depth) token many = absurd (no_newline_here other token.comes is token.no_newline)
  end_too_long (skipped other is depth ends) token many = absurd (no_newline_here other token.comes is token.no_newline)
  end_too_long (at_body anchor other sign follows is) token many = absurd (no_body_here anchor other sign follows is token)
  end_too_long {before = before} (too_long other also) token many = record { lexemes = ap (λ l. before ++ l ∷ []) (law.one token.comes other.comes).0; close = refl; rest = refl }
  end_too_long (taken other few ends) token many = absurd (omega arith)

  end_taken : {before lexemes : List Lexeme} {cells next after : List Cell} {close : Close} {lexeme : Lexeme} → Ends values before cells lexemes close after → IsTaken values before cells lexeme next → length before < most_tokens → Ends values (before ++ lexeme ∷ []) next lexemes close after
  end_taken (at_end none) token few = absurd (law.none none token.comes)
  end_taken (at_newline other is depth) token few = absurd (no_newline_here other token.comes is token.no_newline)
  end_taken (skipped other is depth ends) token few = absurd (no_newline_here other token.comes is token.no_newline)
  end_taken (at_body anchor other sign follows is) token few = absurd (no_body_here anchor other sign follows is token)
  end_taken (too_long other many) token few = absurd (omega arith)
  end_taken {before = before} {lexemes = lexemes} {next = next} {after = after} {close = close} (taken {next = again} {lexeme = found} other also ends) token few =
      let same = law.one token.comes other.comes in
      subst (λ l. Ends values (before ++ l ∷ []) next lexemes close after) (sym same.0) (subst (λ c. Ends values (before ++ found ∷ []) c lexemes close after) (sym same.1) ends)

  -- a statement has one end
  pub ends_one : {before lexemes others : List Lexeme} {cells after rest : List Cell} {close other : Close} → Ends values before cells lexemes close after → Ends values before cells others other rest → Same lexemes others close other after rest
  ends_one (at_end none) second = end_at_end second none
  ends_one (at_newline next is depth) second = end_at_newline second next is depth
  ends_one (skipped next is depth ends) second = ends_one ends (end_skipped second next is depth)
  ends_one (at_body anchor next sign follows is) second = end_at_body second anchor next sign follows is
  ends_one (too_long token many) second = end_too_long second token many
  ends_one (taken token few ends) second = ends_one ends (end_taken second token few)
