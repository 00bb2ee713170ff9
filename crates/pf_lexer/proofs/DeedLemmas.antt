-- What a statement does.
use Rattle.std.proofs.Common.{◌≡◌, ℕ, ◌-◌, Bool, true, false, List, [], ◌∷◌, ◌++◌, Option, Some, None, length, refl, ap, sym, ◌∙◌, subst, length-append, arith}
use Rattle.std.proofs.lemmas.Bool.{ne_eqb}
use Rattle.pf_token.specs.declared.cell.Cell.{Cell}
use Rattle.pf_lexer.specs.declared.statement.Close.{Close}
use Rattle.pf_lexer.specs.declared.statement.Close.TheVariants.{End, Line, Body, Long}
use Rattle.pf_token.specs.declared.token.Token.{Token as TokenOf}
use Rattle.pf_token.specs.declared.token.Fault.{Fault as FaultOf}
use Rattle.pf_token.specs.declared.token.Lexeme.{Lexeme}
use Rattle.pf_token.specs.declared.token.Lexeme.TheVariants.{Token, Fault}
use Rattle.std.specs.Prelude.{option_map, slice_get, if◌then◌else◌, ◌==◌}
use Rattle.pf_token.specs.declared.token.Cause.TheVariants.{TooLarge}
use Rattle.pf_lexer.specs.Closes.{is_body, is_end, is_long}
use Rattle.pf_lexer.specs.Faults.{IncludeParts, Parts, file_named, include_faults, include_of, is_nothing, joined, decided, definition_faults, definition_of, faults_of, length_fault, or_earlier, token_faults, too_large_at}
use Rattle.pf_token.specs.Kinds.{place_of}
use Rattle.pf_lexer.specs.Statements.{Ends as EndsAt, at_end, at_newline, skipped, at_body, too_long, taken, begins_anchor, IsStatement}
use Rattle.pf_lexer.specs.Taking.{rest_after}
use Rattle.pf_lexer.specs.declared.deed.Statement.{Statement}
use Rattle.pf_token.specs.Macros.{Table, value_of, with_definition}
use Rattle.pf_lexer.specs.declared.deed.Deed.TheVariants.{Nothing, Hands, Includes, Ends, Fails}
use Rattle.pf_lexer.specs.Deeds.{tokens_in, Does}
use Rattle.pf_lexer.proofs.FaultLemmas.{decided-append}

pub tokens_in_token : (lexemes : List Lexeme) (token : TokenOf) → tokens_in (lexemes ++ Token token ∷ []) ≡ tokens_in lexemes ++ token ∷ []
tokens_in_token [] token = refl
tokens_in_token (Token first ∷ lexemes) token = ap (λ t. first ∷ t) (tokens_in_token lexemes token)
tokens_in_token (Fault first ∷ lexemes) token = tokens_in_token lexemes token

pub tokens_in_fault : (lexemes : List Lexeme) (fault : FaultOf) → tokens_in lexemes ≡ tokens_in (lexemes ++ Fault fault ∷ [])
tokens_in_fault [] fault = refl
tokens_in_fault (Token first ∷ lexemes) fault = ap (λ t. first ∷ t) (tokens_in_fault lexemes fault)
tokens_in_fault (Fault first ∷ lexemes) fault = tokens_in_fault lexemes fault

nothing_front : {X : Type 0} (xs : List X) (x : X) → xs ++ x ∷ [] ≡ [] → ⊥
nothing_front [] x e = cc
nothing_front (y ∷ xs) x e = cc

-- a statement without tokens is ended by the file's end or by a newline
pub nothing_ended : {values : List ℕ → Option (List ℕ)} {before lexemes : List Lexeme} {cells after : List Cell} {close : Close} → EndsAt values before cells lexemes close after → lexemes ≡ [] → is_end close ≡ false → close ≡ Line
nothing_ended (at_end none) e other = absurd cc
nothing_ended (at_newline next newline depth) e other = refl
nothing_ended (skipped next newline depth ends) e other = nothing_ended ends e other
nothing_ended (at_body anchor brace open_sign newline is) e other = let none = ap begins_anchor e in absurd cc
nothing_ended (too_long {before = before} {lexeme = lexeme} token many) e other = absurd (nothing_front before lexeme e)
nothing_ended (taken token few ends) e other = nothing_ended ends e other

-- a statement that is too long has a last token
last_of : {values : List ℕ → Option (List ℕ)} {before lexemes : List Lexeme} {cells after : List Cell} {close : Close} → EndsAt values before cells lexemes close after → is_long close ≡ true → (front : List Lexeme) × (last : Lexeme) × (lexemes ≡ front ++ last ∷ [])
last_of (at_end none) long = absurd cc
last_of (at_newline next newline depth) long = absurd cc
last_of (skipped next newline depth ends) long = last_of ends long
last_of (at_body anchor brace open_sign newline is) long = absurd cc
last_of (too_long {before = before} {lexeme = lexeme} token many) long = (before, lexeme, refl)
last_of (taken token few ends) long = last_of ends long

slice_get_last : {X : Type 0} (front : List X) (last : X) → slice_get (front ++ last ∷ []) (length front) ≡ Some last
slice_get_last [] last = refl
slice_get_last (first ∷ front) last = slice_get_last front last

some_earlier : (a : Option FaultOf) (fault : FaultOf) → or_earlier a (Some fault) ≡ None → ⊥
some_earlier None fault e = cc
some_earlier (Some first) fault e = cc

-- so it has a fault
long_fails : (includes : ℕ) (lexemes front : List Lexeme) (last : Lexeme) (close : Close) → lexemes ≡ front ++ last ∷ [] → is_long close ≡ true → decided (faults_of includes lexemes close) ≡ None → ⊥
long_fails includes lexemes front last close is long none =
    let others = definition_faults (definition_of lexemes) close ++ include_faults includes (include_of lexemes) ++ token_faults lexemes in
    let at_last : slice_get lexemes (length lexemes - 1) ≡ Some last =
    ap (λ l. slice_get l (length l - 1)) is ∙ ap (slice_get (front ++ last ∷ [])) (omega (arith, length-append front (last ∷ []))) ∙ slice_get_last front last in
    let fault : (if is_long close then length_fault lexemes else []) ≡ record { cause = TooLarge; place = place_of last } ∷ [] =
    ap (λ b. if b then length_fault lexemes else []) long ∙ ap too_large_at at_last in
    some_earlier (decided others) (record { cause = TooLarge; place = place_of last })
    (sym (decided-append others (record { cause = TooLarge; place = place_of last } ∷ [])) ∙ ap (λ f. decided (others ++ f)) (sym fault) ∙ none)

-- a statement without a fault is not too long, so what is left behind it is what the reader has
rest_is : {values : List ℕ → Option (List ℕ)} {lexemes : List Lexeme} {cells : List Cell} {close : Close} (includes : ℕ) (after : List Cell) → IsStatement values cells lexemes close (rest_after close after) → decided (faults_of includes lexemes close) ≡ None → IsStatement values cells lexemes close after
rest_is {values = values} {lexemes = lexemes} {cells = cells} {close = close} includes after ends none = by_close close refl ends where
  by_close : (c : Close) → close ≡ c → IsStatement values cells lexemes c (rest_after c after) → IsStatement values cells lexemes c after
  by_close End e ends = ends
  by_close Line e ends = ends
  by_close Body e ends = ends
  by_close Long e ends = let long = last_of ends refl in absurd (long_fails includes lexemes long.0 long.1 Long long.2 refl (ap (λ c. decided (faults_of includes lexemes c)) (sym e) ∙ none))

-- how many tokens there are says whether there are any
pub is_nothing_is : (lexemes : List Lexeme) (count : ℕ) (answer : Bool) → count ≡ length lexemes → answer ≡ (count == 0) → is_nothing lexemes ≡ answer
is_nothing_is [] count answer is e = sym (e ∙ ap (λ n. n == 0) is)
is_nothing_is (first ∷ rest) count answer is e = sym (e ∙ ne_eqb count 0 (λ zero. omega arith))

nothing_is : (lexemes : List Lexeme) → is_nothing lexemes ≡ true → lexemes ≡ []
nothing_is [] e = refl
nothing_is (first ∷ rest) e = absurd cc

-- the name of an include's file
named_parts : (parts : Option IncludeParts) (name : List ℕ) → Some name ≡ option_map file_named parts → (found : IncludeParts) × (parts ≡ Some found) × (name ≡ file_named found)
named_parts None name e = absurd cc
named_parts (Some found) name e = (found, refl, cc)

no_parts : (parts : Option IncludeParts) → None ≡ option_map file_named parts → parts ≡ None
no_parts None e = refl
no_parts (Some found) e = absurd cc

module _ (includes : ℕ) (macros : Table) (cells new : List Cell) (lexemes : List Lexeme) (close : Close) (ends : IsStatement (value_of macros) cells lexemes close (rest_after close new)) where
  pub does_fails : (fault : FaultOf) → Some fault ≡ decided (faults_of includes lexemes close) → Does includes macros cells (Fails fault) macros []
  does_fails fault e = Does.fails ends (sym e)

  module _ (none : None ≡ decided (faults_of includes lexemes close)) where
    rest : IsStatement (value_of macros) cells lexemes close new
    rest = rest_is includes new ends (sym none)

    pub does_defines : (parts : Parts) (changed : Table) → Some parts ≡ definition_of lexemes → changed ≡ with_definition macros parts.name.text (joined parts.values) → Does includes macros cells Nothing changed new
    does_defines parts changed defined is = subst (λ (m : Table). Does includes macros cells Nothing m new) (sym is) (Does.defines rest (sym none) (sym defined))

    pub does_names : (name : List ℕ) → Some name ≡ option_map file_named (include_of lexemes) → Does includes macros cells (Includes name) macros new
    does_names name e =
        let parts = named_parts (include_of lexemes) name e in
        subst (λ (n : List ℕ). Does includes macros cells (Includes n) macros new) (sym parts.2) (Does.names rest (sym none) parts.1)

    pub does_hands : (tokens : List TokenOf) (body : Bool) → None ≡ definition_of lexemes → None ≡ option_map file_named (include_of lexemes) → is_nothing lexemes ≡ false → tokens ≡ tokens_in lexemes → body ≡ is_body close
        → Does includes macros cells (Hands (record { tokens = tokens; body = body })) macros new
    does_hands tokens body other names_none some tokens_are body_is =
        subst (λ (s : Statement). Does includes macros cells (Hands s) macros new) (λ i. record { tokens = sym tokens_are i; body = sym body_is i })
        (Does.hands rest (sym none) (sym other) (no_parts (include_of lexemes) names_none) some)

    pub does_ends : is_nothing lexemes ≡ true → is_end close ≡ true → Does includes macros cells Ends macros new
    does_ends nothing end = Does.ends (at_the_end close lexemes (nothing_is lexemes nothing) end rest) where
      at_the_end : (c : Close) (l : List Lexeme) → l ≡ [] → is_end c ≡ true → IsStatement (value_of macros) cells l c new → IsStatement (value_of macros) cells [] End new
      at_the_end End l e end is = subst (λ (t : List Lexeme). IsStatement (value_of macros) cells t End new) e is
      at_the_end Line l e end is = absurd cc
      at_the_end Body l e end is = absurd cc
      at_the_end Long l e end is = absurd cc

    pub does_nothing : is_nothing lexemes ≡ true → is_end close ≡ false → Does includes macros cells Nothing macros new
    does_nothing nothing more =
        let empty = nothing_is lexemes nothing in
        let line = nothing_ended rest empty more in
        Does.nothing (subst (λ (c : Close). IsStatement (value_of macros) cells [] c new) line (subst (λ (t : List Lexeme). IsStatement (value_of macros) cells t close new) empty rest))
