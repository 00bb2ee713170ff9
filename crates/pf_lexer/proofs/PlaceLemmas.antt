-- What a statement does stands in the files of the cells that it is made of.
use Rattle.std.proofs.Common.{◌≡◌, ℕ, ◌<◌, ◌-◌, Bool, true, false, List, [], ◌∷◌, ◌++◌, Option, Some, None, length, zero, suc, refl, ◌∙◌, subst}
use Rattle.std.specs.Prelude.{◌&&◌, nat_lt, nat_le, codes, if◌then◌else◌, slice_get}
use Rattle.std.specs.List.{list_all}
use Rattle.std.proofs.lemmas.Bool.{and_parts, and_from, ltb-true}
use Rattle.std.proofs.lemmas.List.Folds.{list_all-append}
use Rattle.pf_base.specs.declared.fault.Place.{Place}
use Rattle.pf_token.specs.declared.cell.Cell.{Cell}
use Rattle.pf_token.specs.declared.token.Cause.{Cause}
use Rattle.pf_token.specs.declared.token.Cause.TheVariants.{MacroName, IncludeDepth, TooLarge, Syntax}
use Rattle.pf_token.specs.declared.token.Fault.{Fault as FaultOf}
use Rattle.pf_token.specs.declared.token.Lexeme.{Lexeme}
use Rattle.pf_token.specs.declared.token.Lexeme.TheVariants.{Token, Fault}
use Rattle.pf_token.specs.Cells.{are_in}
use Rattle.pf_token.specs.Kinds.{is_bare, is_sign, is_word_kind, place_of, rank}
use Rattle.pf_token.specs.Macros.{Table, value_of}
use Rattle.pf_token.specs.Pieces.{Next, StaysIn}
use Rattle.pf_lexer.specs.declared.statement.Close.{Close}
use Rattle.pf_lexer.specs.declared.deed.Deed.{Deed}
use Rattle.pf_lexer.specs.Calls.{AreNumbered}
use Rattle.pf_lexer.specs.Closes.{is_long}
use Rattle.pf_lexer.specs.Deeds.{Does, tokens_in}
use Rattle.pf_lexer.specs.Faults.{IncludeParts, Parts, decided, definition_faults, definition_of, earlier, faults_of, has_form, include_among, include_faults, include_of, is_macro_name, length_fault, most_includes, names_file, token_faults, too_large_at, unless, unless_defines}
use Rattle.pf_lexer.specs.Going.{DeedStaysIn}
use Rattle.pf_lexer.specs.Statements.{Ends, at_end, at_newline, skipped, at_body, too_long, taken}

module _ (count : ℕ) where
  abbrev is_in : Place → Bool
  is_in place = nat_lt place.file count

  abbrev lexemes_in : List Lexeme → Bool
  lexemes_in lexemes = list_all (λ l. is_in (place_of l)) lexemes

  abbrev faults_in : List FaultOf → Bool
  faults_in faults = list_all (λ (f : FaultOf). is_in f.place) faults

  -- two lists of faults
  both_in : (xs ys : List FaultOf) → faults_in xs ≡ true → faults_in ys ≡ true → faults_in (xs ++ ys) ≡ true
  both_in xs ys p q = list_all-append (λ (f : FaultOf). is_in f.place) xs ys ∙ and_from (faults_in xs) (faults_in ys) p q

  unless_in : (test : Bool) (cause : Cause) (place : Place) → is_in place ≡ true → faults_in (unless test cause place) ≡ true
  unless_in true cause place e = refl
  unless_in false cause place e = and_from (is_in place) true e refl

  abbrev PartsIn : Option Parts → Type 0
  PartsIn None = Unit {0}
  PartsIn (Some parts) = is_in parts.name.place ≡ true

  abbrev IncludeIn : Option IncludeParts → Type 0
  IncludeIn None = Unit {0}
  IncludeIn (Some parts) = is_in parts.place ≡ true

  definition_in : (lexemes : List Lexeme) → lexemes_in lexemes ≡ true → PartsIn (definition_of lexemes)
  definition_in [] e = tt
  definition_in (first ∷ []) e = tt
  definition_in (Fault fault ∷ sign ∷ rest) e = tt
  definition_in (Token name ∷ sign ∷ rest) e = by_test (is_word_kind name.kind && is_sign 61 sign) (and_parts (is_in name.place) (lexemes_in (sign ∷ rest)) e).0 where
    by_test : (b : Bool) → is_in name.place ≡ true → PartsIn (if b then Some (record { name = name; values = rest }) else None)
    by_test true e = e
    by_test false e = tt

  among_in : (lexemes : List Lexeme) → lexemes_in lexemes ≡ true → IncludeIn (include_among lexemes)
  among_in [] e = tt
  among_in (first ∷ rest) e = by_test (is_bare (codes "include") first) (and_parts (is_in (place_of first)) (lexemes_in rest) e).0 where
    by_test : (b : Bool) → is_in (place_of first) ≡ true → IncludeIn (if b then Some (record { place = place_of first; names = rest }) else None)
    by_test true e = e
    by_test false e = tt

  unless_defines_in : (defined : Option Parts) (parts : Option IncludeParts) → IncludeIn parts → IncludeIn (unless_defines defined parts)
  unless_defines_in None parts e = e
  unless_defines_in (Some defined) parts e = tt

  definition_faults_in : (parts : Option Parts) (close : Close) → PartsIn parts → faults_in (definition_faults parts close) ≡ true
  definition_faults_in None close e = refl
  definition_faults_in (Some parts) close e =
      both_in (unless (is_macro_name parts.name.text) MacroName parts.name.place ++ unless _ TooLarge parts.name.place) (unless (has_form parts.values close) Syntax parts.name.place)
      (both_in (unless (is_macro_name parts.name.text) MacroName parts.name.place) (unless _ TooLarge parts.name.place) (unless_in _ MacroName parts.name.place e) (unless_in _ TooLarge parts.name.place e))
      (unless_in _ Syntax parts.name.place e)

  include_faults_in : (includes : ℕ) (parts : Option IncludeParts) → IncludeIn parts → faults_in (include_faults includes parts) ≡ true
  include_faults_in includes None e = refl
  include_faults_in includes (Some parts) e =
      both_in (unless (nat_lt includes most_includes) IncludeDepth parts.place) (unless (names_file parts.names) Syntax parts.place) (unless_in _ IncludeDepth parts.place e) (unless_in _ Syntax parts.place e)

  token_faults_in : (lexemes : List Lexeme) → lexemes_in lexemes ≡ true → faults_in (token_faults lexemes) ≡ true
  token_faults_in [] e = refl
  token_faults_in (Token token ∷ rest) e = token_faults_in rest (and_parts (is_in token.place) (lexemes_in rest) e).1
  token_faults_in (Fault fault ∷ rest) e = let parts = and_parts (is_in fault.place) (lexemes_in rest) e in and_from (is_in fault.place) (faults_in (token_faults rest)) parts.0 (token_faults_in rest parts.1)

  at_in : (lexemes : List Lexeme) (index : ℕ) → lexemes_in lexemes ≡ true → faults_in (too_large_at (slice_get lexemes index)) ≡ true
  at_in [] index e = refl
  at_in (first ∷ rest) zero e = and_from (is_in (place_of first)) true (and_parts (is_in (place_of first)) (lexemes_in rest) e).0 refl
  at_in (first ∷ rest) (suc index) e = at_in rest index (and_parts (is_in (place_of first)) (lexemes_in rest) e).1

  long_in : (long : Bool) (lexemes : List Lexeme) → lexemes_in lexemes ≡ true → faults_in (if long then length_fault lexemes else []) ≡ true
  long_in true lexemes e = at_in lexemes (length lexemes - 1) e
  long_in false lexemes e = refl

  all_in : (includes : ℕ) (lexemes : List Lexeme) (close : Close) → lexemes_in lexemes ≡ true → faults_in (faults_of includes lexemes close) ≡ true
  all_in includes lexemes close e =
      both_in (definition_faults (definition_of lexemes) close ++ include_faults includes (include_of lexemes) ++ token_faults lexemes) (if is_long close then length_fault lexemes else [])
      (both_in (definition_faults (definition_of lexemes) close ++ include_faults includes (include_of lexemes)) (token_faults lexemes)
      (both_in (definition_faults (definition_of lexemes) close) (include_faults includes (include_of lexemes)) (definition_faults_in (definition_of lexemes) close (definition_in lexemes e))
      (include_faults_in includes (include_of lexemes) (unless_defines_in (definition_of lexemes) (include_among lexemes) (among_in lexemes e))))
      (token_faults_in lexemes e))
      (long_in (is_long close) lexemes e)

  abbrev FaultIn : Option FaultOf → Type 0
  FaultIn None = Unit {0}
  FaultIn (Some fault) = is_in fault.place ≡ true

  earlier_in : (fault : FaultOf) (later : Option FaultOf) → is_in fault.place ≡ true → FaultIn later → is_in (earlier fault later).place ≡ true
  earlier_in fault None e f = e
  earlier_in fault (Some later) e f = elim (nat_le (rank fault.cause) (rank later.cause)) as (λ (b : Bool). is_in (if b then fault else later).place ≡ true) [ true ↦ e | false ↦ f ]

  decided_in : (faults : List FaultOf) → faults_in faults ≡ true → FaultIn (decided faults)
  decided_in [] e = tt
  decided_in (fault ∷ faults) e = let parts = and_parts (is_in fault.place) (faults_in faults) e in earlier_in fault (decided faults) parts.0 (decided_in faults parts.1)

  tokens_numbered : (lexemes : List Lexeme) → lexemes_in lexemes ≡ true → AreNumbered count (tokens_in lexemes)
  tokens_numbered [] e = tt
  tokens_numbered (Token token ∷ rest) e = let parts = and_parts (is_in token.place) (lexemes_in rest) e in (ltb-true token.place.file count parts.0, tokens_numbered rest parts.1)
  tokens_numbered (Fault fault ∷ rest) e = tokens_numbered rest (and_parts (is_in fault.place) (lexemes_in rest) e).1

  more_in : (before : List Lexeme) (lexeme : Lexeme) → lexemes_in before ≡ true → is_in (place_of lexeme) ≡ true → lexemes_in (before ++ lexeme ∷ []) ≡ true
  more_in before lexeme e f = list_all-append (λ l. is_in (place_of l)) before (lexeme ∷ []) ∙ and_from (lexemes_in before) (lexemes_in (lexeme ∷ [])) e (and_from (is_in (place_of lexeme)) true f refl)

  module _ (values : List ℕ → Option (List ℕ)) (law : (cells after : List Cell) (lexeme : Lexeme) → Next values cells lexeme after → are_in count cells ≡ true → StaysIn count lexeme after) where
    ends_in : {before lexemes : List Lexeme} {cells after : List Cell} {close : Close} → Ends values before cells lexemes close after → lexemes_in before ≡ true → are_in count cells ≡ true → (lexemes_in lexemes ≡ true) × (are_in count after ≡ true)
    ends_in (at_end none) e f = (e, refl)
    ends_in (at_newline {cells = cells} {after = after} {newline = newline} next is depth) e f = (e, (law cells after newline next f).after_in)
    ends_in (skipped {cells = cells} {next = behind} {newline = newline} next is depth ends) e f = ends_in ends e (law cells behind newline next f).after_in
    ends_in (at_body {cells = cells} {next = behind} {after = after} {brace = brace} {newline = newline} anchor next sign follows is) e f =
        (e, (law behind after newline follows (law cells behind brace next f).after_in).after_in)
    ends_in (too_long {before = before} {cells = cells} {next = behind} {lexeme = lexeme} token many) e f = (more_in before lexeme e (law cells behind lexeme token.comes f).lexeme_in, refl)
    ends_in (taken {before = before} {cells = cells} {next = behind} {lexeme = lexeme} token few ends) e f =
        let stays = law cells behind lexeme token.comes f in
        ends_in ends (more_in before lexeme e stays.lexeme_in) stays.after_in

fault_numbered : (count : ℕ) (found : Option FaultOf) (fault : FaultOf) → FaultIn count found → found ≡ Some fault → fault.place.file < count
fault_numbered count found fault e is = ltb-true fault.place.file count (subst (FaultIn count) is e)

-- what a statement does stands in the files of its cells
pub does_in : (law : (values : List ℕ → Option (List ℕ)) (count : ℕ) (cells after : List Cell) (lexeme : Lexeme) → Next values cells lexeme after → are_in count cells ≡ true → StaysIn count lexeme after)
    → {includes : ℕ} {macros changed : Table} {cells after : List Cell} {deed : Deed} → Does includes macros cells deed changed after → (count : ℕ) → are_in count cells ≡ true → DeedStaysIn count deed after
does_in law {macros = macros} (Does.nothing one) count e = record { deed_in = tt; after_in = (ends_in count (value_of macros) (law (value_of macros) count) one refl e).1 }
does_in law {macros = macros} (Does.defines one none is) count e = record { deed_in = tt; after_in = (ends_in count (value_of macros) (law (value_of macros) count) one refl e).1 }
does_in law {macros = macros} (Does.names one none is) count e = record { deed_in = tt; after_in = (ends_in count (value_of macros) (law (value_of macros) count) one refl e).1 }
does_in law {macros = macros} (Does.hands {lexemes = lexemes} one none is other some) count e =
    let found = ends_in count (value_of macros) (law (value_of macros) count) one refl e in
    record { deed_in = tokens_numbered count lexemes found.0; after_in = found.1 }
does_in law {macros = macros} (Does.ends one) count e = record { deed_in = tt; after_in = (ends_in count (value_of macros) (law (value_of macros) count) one refl e).1 }
does_in law {includes = includes} {macros = macros} (Does.fails {lexemes = lexemes} {close = close} {fault = fault} one is) count e =
    let found = ends_in count (value_of macros) (law (value_of macros) count) one refl e in
    record { deed_in = fault_numbered count (decided (faults_of includes lexemes close)) fault (decided_in count (faults_of includes lexemes close) (all_in count includes lexemes close found.0)) is; after_in = refl }
