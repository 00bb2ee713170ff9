-- Each statement ends, and does something.
use Rattle.std.proofs.Common.{◌≡◌, ℕ, ◌<◌, ◌≤◌, Bool, true, false, zero, suc, List, [], ◌∷◌, ◌++◌, Option, Some, None, length, length-append, refl, ap, sym, ◌∙◌, subst, inl, inr, arith}
use Rattle.std.specs.Prelude.{◌⊎◌, ◌&&◌}
use Rattle.std.proofs.Math.Nat.{eq-or-lt_of_le}
use Rattle.std.proofs.lemmas.Bool.{and_parts, both_ways}
use Rattle.pf_token.specs.declared.cell.Cell.{Cell}
use Rattle.pf_token.specs.declared.token.Fault.{Fault as FaultOf}
use Rattle.pf_token.specs.declared.token.Lexeme.{Lexeme}
use Rattle.pf_token.specs.Coming.{Comes, Descends, IsBelow, IsLess, below, dollars, none, one}
use Rattle.pf_token.specs.Kinds.{is_newline, is_sign}
use Rattle.pf_token.specs.Macros.{Table, value_of}
use Rattle.pf_token.specs.Pieces.{Next, NextIsOne}
use Rattle.pf_lexer.specs.declared.deed.Deed.{Deed}
use Rattle.pf_lexer.specs.declared.deed.Deed.TheVariants as deeds
use Rattle.pf_lexer.specs.declared.statement.Close.{Close}
use Rattle.pf_lexer.specs.declared.statement.Close.TheVariants.{End, Line, Body, Long}
use Rattle.pf_lexer.specs.Coming.{HasStatement}
use Rattle.pf_lexer.specs.Deeds.{Does}
use Rattle.pf_lexer.specs.Faults.{IncludeParts, Parts, decided, definition_of, faults_of, include_of}
use Rattle.pf_lexer.specs.Statements.{Ends, IsStatement, IsTaken, at_end, at_newline, skipped, at_body, too_long, taken, begins_anchor, depth_of, most_tokens}

-- less than less
pub less_than_both : (a b c : List Cell) → IsLess a b → IsLess b c → IsLess a c
less_than_both a b c (inl p) (inl q) = inl (omega arith)
less_than_both a b c (inl p) (inr q) = inl (omega (arith, q.0))
less_than_both a b c (inr p) (inl q) = inl (omega (arith, p.0))
less_than_both a b c (inr p) (inr q) = inr (omega (arith, p.0, q.0), omega (arith, p.1, q.1))

-- nothing is less than what is more than something
none_less : (after cells : List Cell) → IsLess after cells → IsLess [] cells
none_less after cells (inl p) = inl (omega arith)
none_less after cells (inr p) = inr (omega arith, omega (arith, p.1))

abbrev IsRest : List Cell → List Cell → Type 0
IsRest after cells = (after ≡ []) ⊎ IsLess after cells

rest_less : (after next cells : List Cell) → IsRest after next → IsLess next cells → IsLess after cells
rest_less after next cells (inl is) less = subst (λ (t : List Cell). IsLess t cells) (sym is) (none_less next cells less)
rest_less after next cells (inr lower) less = less_than_both after next cells lower less

-- a body is opened behind a token, and a statement that is too long has some
abbrev IsFine : List Lexeme → Close → Type 0
IsFine [] End = Unit {0}
IsFine [] Line = Unit {0}
IsFine [] Body = ⊥
IsFine [] Long = ⊥
IsFine (first ∷ rest) close = Unit {0}

fine_more : (before : List Lexeme) (lexeme : Lexeme) (close : Close) → IsFine (before ++ lexeme ∷ []) close
fine_more [] lexeme close = tt
fine_more (first ∷ before) lexeme close = tt

fine_end : (before : List Lexeme) → IsFine before End
fine_end [] = tt
fine_end (first ∷ before) = tt

fine_line : (before : List Lexeme) → IsFine before Line
fine_line [] = tt
fine_line (first ∷ before) = tt

fine_body : (before : List Lexeme) → begins_anchor before ≡ true → IsFine before Body
fine_body [] is = cc
fine_body (first ∷ before) is = tt

-- The end of a statement that begins with these tokens.
record Found (values : List ℕ → Option (List ℕ)) (before : List Lexeme) (cells : List Cell) : Type 0 where
  lexemes : List Lexeme
  close : Close
  after : List Cell
  is : Ends values before cells lexemes close after
  rest : IsRest after cells
  fine : IsFine lexemes close

module _ (values : List ℕ → Option (List ℕ)) (law : NextIsOne values) (comes : (cells : List Cell) → Comes values cells) where
  -- behind a token that is one of the statement's
  take : (before : List Lexeme) (cells next : List Cell) (lexeme : Lexeme) → length before ≤ most_tokens → IsTaken values before cells lexeme next → IsLess next cells
      → ((more : List Lexeme) → length more ≤ most_tokens → Found values more next) → Found values before cells
  take before cells next lexeme few token less more = by_length (eq-or-lt_of_le few) where
    by_length : (length before ≡ most_tokens) ⊎ (length before < most_tokens) → Found values before cells
    by_length (inl all) = record { lexemes = before ++ lexeme ∷ []; close = Long; after = []; is = too_long token all; rest = inl refl; fine = fine_more before lexeme Long }
    by_length (inr some) =
        let rest = more (before ++ lexeme ∷ []) (omega (arith, length-append before (lexeme ∷ []))) in
        record { lexemes = rest.lexemes; close = rest.close; after = rest.after; is = taken token some rest.is; rest = inr (rest_less rest.after next cells rest.rest less); fine = rest.fine }

  -- at a newline
  newline_at : (before : List Lexeme) (cells next : List Cell) (newline : Lexeme) → Next values cells newline next → is_newline newline ≡ true → IsLess next cells
      → Found values before next → (depth : ℕ) → depth_of before ≡ depth → Found values before cells
  newline_at before cells next newline at is less rest zero depth_is = record { lexemes = before; close = Line; after = next; is = at_newline at is depth_is; rest = inr less; fine = fine_line before }
  newline_at before cells next newline at is less rest (suc depth) depth_is =
      record { lexemes = rest.lexemes; close = rest.close; after = rest.after; is = skipped at is (omega (arith, depth_is)) rest.is; rest = inr (rest_less rest.after next cells rest.rest less); fine = rest.fine }

  -- no newline comes next
  no_newline_next : (next after : List Cell) (lexeme : Lexeme) → Next values next lexeme after → is_newline lexeme ≡ false → (other : Lexeme) (rest : List Cell) → Next values next other rest → is_newline other ≡ false
  no_newline_next next after lexeme at isnt other rest follows = ap is_newline (law.one follows at).0 ∙ isnt

  -- at any other token
  token_at : (before : List Lexeme) (cells next : List Cell) (lexeme : Lexeme) → length before ≤ most_tokens → Next values cells lexeme next → is_newline lexeme ≡ false → IsLess next cells
      → ((more : List Lexeme) → length more ≤ most_tokens → Found values more next) → Found values before cells
  token_at before cells next lexeme few at isnt less more = by_brace (begins_anchor before && is_sign 123 lexeme) refl where
    by_newline : (newline : Lexeme) (after : List Cell) → Next values next newline after → IsLess after next → (begins_anchor before && is_sign 123 lexeme) ≡ true → (b : Bool) → is_newline newline ≡ b → Found values before cells
    by_newline newline after follows lower opens true is =
        let parts = and_parts (begins_anchor before) (is_sign 123 lexeme) opens in
        record { lexemes = before; close = Body; after = after; is = at_body parts.0 at parts.1 follows is; rest = inr (less_than_both after next cells lower less); fine = fine_body before parts.0 }
    by_newline newline after follows lower opens false other =
        take before cells next lexeme few (record { comes = at; no_newline = isnt; no_body = λ brace. no_newline_next next after newline follows other }) less more

    by_view : Comes values next → (begins_anchor before && is_sign 123 lexeme) ≡ true → Found values before cells
    by_view (none over) opens = take before cells next lexeme few (record { comes = at; no_newline = isnt; no_body = λ brace other rest follows. absurd (law.none over follows) }) less more
    by_view (one {lexeme = newline} {after = after} follows lower) opens = by_newline newline after follows lower opens (is_newline newline) refl

    by_brace : (b : Bool) → (begins_anchor before && is_sign 123 lexeme) ≡ b → Found values before cells
    by_brace true opens = by_view (comes next) opens
    by_brace false plain = take before cells next lexeme few (record { comes = at; no_newline = isnt; no_body = λ opens. absurd (both_ways (begins_anchor before && is_sign 123 lexeme) plain opens) }) less more

  next_at : (before : List Lexeme) (cells next : List Cell) (lexeme : Lexeme) → length before ≤ most_tokens → Next values cells lexeme next → IsLess next cells
      → ((more : List Lexeme) → length more ≤ most_tokens → Found values more next) → (b : Bool) → is_newline lexeme ≡ b → Found values before cells
  next_at before cells next lexeme few at less more true is = newline_at before cells next lexeme at is less (more before few) (depth_of before) refl
  next_at before cells next lexeme few at less more false isnt = token_at before cells next lexeme few at isnt less more

  found_from : (before : List Lexeme) (cells : List Cell) → length before ≤ most_tokens → ((next : List Cell) → IsLess next cells → (more : List Lexeme) → length more ≤ most_tokens → Found values more next) → Comes values cells → Found values before cells
  found_from before cells few more (none over) = record { lexemes = before; close = End; after = []; is = at_end over; rest = inl refl; fine = fine_end before }
  found_from before cells few more (one {lexeme = lexeme} {after = next} at less) = next_at before cells next lexeme few at less (more next less) (is_newline lexeme) refl

  less_at : (next cells : List Cell) (a b : ℕ) → dollars cells ≡ a → length cells ≡ b → IsLess next cells → IsBelow (dollars next) (length next) a b
  less_at next cells a b p q less = subst (λ n. IsBelow (dollars next) (length next) n b) p (subst (λ n. IsBelow (dollars next) (length next) (dollars cells) n) q less)

  found_by : {a b : ℕ} → Descends a b → (cells : List Cell) → dollars cells ≡ a → length cells ≡ b → (before : List Lexeme) → length before ≤ most_tokens → Found values before cells
  found_by {a} {b} (below lower) cells p q before few =
      found_from before cells few
      (λ next less. found_by (lower (dollars next) (length next) (less_at next cells a b p q less)) next refl refl)
      (comes cells)

  -- a statement ends
  found : (descends : (a b : ℕ) → Descends a b) (cells : List Cell) → Found values [] cells
  found descends cells = found_by (descends (dollars cells) (length cells)) cells refl refl [] (omega arith)

  pub has_statement : (descends : (a b : ℕ) → Descends a b) (cells : List Cell) → HasStatement values cells
  has_statement descends cells = let one = found descends cells in record { lexemes = one.lexemes; close = one.close; after = one.after; is = one.is }

-- less is left behind a statement, unless the file ends or the statement has a fault
abbrev pub Lessens : Deed → List Cell → List Cell → Type 0
Lessens deeds.Nothing after cells = IsLess after cells
Lessens (deeds.Hands statement) after cells = IsLess after cells
Lessens (deeds.Includes name) after cells = IsLess after cells
Lessens deeds.Ends after cells = Unit {0}
Lessens (deeds.Fails fault) after cells = Unit {0}

-- What the next statement of some cells does.
pub record HasDeed (includes : ℕ) (macros : Table) (cells : List Cell) : Type 0 where
  pub deed : Deed
  pub changed : Table
  pub after : List Cell
  pub does : Does includes macros cells deed changed after
  pub less : Lessens deed after cells

module _ (law : (values : List ℕ → Option (List ℕ)) → NextIsOne values) (comes : (values : List ℕ → Option (List ℕ)) (cells : List Cell) → Comes values cells) (descends : (a b : ℕ) → Descends a b)
    (includes : ℕ) (macros : Table) (cells : List Cell) where
  abbrev IsHere : List Lexeme → Close → List Cell → Type 0
  IsHere lexemes close after = IsStatement (value_of macros) cells lexemes close after

  plain : (lexemes : List Lexeme) (close : Close) (after : List Cell) → IsHere lexemes close after → decided (faults_of includes lexemes close) ≡ None → definition_of lexemes ≡ None → include_of lexemes ≡ None
      → IsFine lexemes close → IsLess after cells → HasDeed includes macros cells
  plain [] End after is whole other unnamed fine less = record { deed = deeds.Ends; changed = macros; after = after; does = Does.ends is; less = tt }
  plain [] Line after is whole other unnamed fine less = record { deed = deeds.Nothing; changed = macros; after = after; does = Does.nothing is; less = less }
  plain [] Body after is whole other unnamed fine less = absurd fine
  plain [] Long after is whole other unnamed fine less = absurd fine
  plain (first ∷ rest) close after is whole other unnamed fine less = record { deed = _; changed = macros; after = after; does = Does.hands is whole other unnamed refl; less = less }

  by_include : (lexemes : List Lexeme) (close : Close) (after : List Cell) → IsHere lexemes close after → decided (faults_of includes lexemes close) ≡ None → definition_of lexemes ≡ None
      → IsFine lexemes close → IsLess after cells → (parts : Option IncludeParts) → include_of lexemes ≡ parts → HasDeed includes macros cells
  by_include lexemes close after is whole other fine less None unnamed = plain lexemes close after is whole other unnamed fine less
  by_include lexemes close after is whole other fine less (Some parts) named = record { deed = _; changed = macros; after = after; does = Does.names is whole named; less = less }

  by_definition : (lexemes : List Lexeme) (close : Close) (after : List Cell) → IsHere lexemes close after → decided (faults_of includes lexemes close) ≡ None
      → IsFine lexemes close → IsLess after cells → (parts : Option Parts) → definition_of lexemes ≡ parts → HasDeed includes macros cells
  by_definition lexemes close after is whole fine less None other = by_include lexemes close after is whole other fine less (include_of lexemes) refl
  by_definition lexemes close after is whole fine less (Some parts) defines = record { deed = deeds.Nothing; changed = _; after = after; does = Does.defines is whole defines; less = less }

  by_fault : (lexemes : List Lexeme) (close : Close) (after : List Cell) → IsHere lexemes close after
      → IsFine lexemes close → IsLess after cells → (fault : Option FaultOf) → decided (faults_of includes lexemes close) ≡ fault → HasDeed includes macros cells
  by_fault lexemes close after is fine less None whole = by_definition lexemes close after is whole fine less (definition_of lexemes) refl
  by_fault lexemes close after is fine less (Some fault) faulty = record { deed = deeds.Fails fault; changed = macros; after = []; does = Does.fails is faulty; less = tt }

  by_view : Comes (value_of macros) cells → HasDeed includes macros cells
  by_view (none over) = record { deed = deeds.Ends; changed = macros; after = []; does = Does.ends (at_end over); less = tt }
  by_view (one {after = next} at less) =
      let here = found (value_of macros) (law (value_of macros)) (comes (value_of macros)) descends cells in
      by_fault here.lexemes here.close here.after here.is here.fine (rest_here here.after here.rest) (decided (faults_of includes here.lexemes here.close)) refl where
        rest_here : (after : List Cell) → IsRest after cells → IsLess after cells
        rest_here after (inl is) = subst (λ (t : List Cell). IsLess t cells) (sym is) (none_less next cells less)
        rest_here after (inr lower) = lower

  -- a statement does something
  pub has_deed : HasDeed includes macros cells
  has_deed = by_view (comes (value_of macros) cells)
