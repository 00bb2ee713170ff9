-- The pieces of a text are those that the code finds, so a text has one list of tokens.
use Rattle.std.proofs.Common.{◌≡◌, ℕ, Bool, true, false, List, [], ◌∷◌, ◌++◌, Option, Some, None, refl, ap, sym, ◌∙◌, subst, append_assoc}
use Rattle.std.specs.Prelude.{take, ◌==◌, if◌then◌else◌}
use Rattle.pf_base.specs.declared.fault.Place.{Place}
use Rattle.pf_token.specs.declared.byte.ByteClass.{ByteClass}
use Rattle.pf_token.specs.declared.byte.ByteClass.TheVariants.{Blank, Newline, Sign, Quote, Hash, Dollar, Plain, Bad}
use Rattle.pf_token.specs.declared.cell.Cell.{Cell}
use Rattle.pf_token.specs.declared.token.TokenKind.TheVariants as kinds
use Rattle.pf_token.specs.declared.token.Cause.TheVariants as causes
use Rattle.pf_token.specs.declared.token.Lexeme.{Lexeme}
use Rattle.pf_token.specs.Bytes.{class_of, is_word_byte, is_name_byte}
use Rattle.pf_token.specs.Cells.{cells_at, bytes_of, stops, has_dollar}
use Rattle.pf_token.specs.Pieces.{Piece, blank, comment, newline, sign, string, unterminated, word, bad, used, unnamed, undefined, nested, token, fault, is_in_line, string_of, cut_off, Between, IsLongestRun}
use Rattle.pf_token.specs.Reading.{Step, Quoted, step, step_by, front, beyond, quoted_from, quoted_step, macro_step, named_step, value_step}
use Rattle.pf_token.proofs.Runs.{joined, longest, front_is, beyond_is}
use Rattle.pf_token.proofs.QuotedLemmas.{IsQuoteByte-from_class, between_is, found_between, quoted_closed, IsBetween, EndsWith}

module _ (values : List ℕ → Option (List ℕ)) where
  -- the step at a cell of a known class
  step_at : (cell : Cell) (cells : List Cell) (class : ByteClass) → class_of cell.byte ≡ class → step values (cell ∷ cells) ≡ step_by class values cell cells
  unfolding step
  step_at cell cells class is = ap (λ c. step_by c values cell cells) is

  -- a string is found whole
  string_is : (opening closing : Cell) (cells rest : List Cell) (text : List ℕ) (known : Bool) → class_of opening.byte ≡ Quote → Between opening.byte cells (closing ∷ rest) text known → (closing.byte == opening.byte) ≡ true
      → quoted_from opening.byte ((cells ++ closing ∷ []) ++ rest) ≡ record { text = text; known = known; closed = true; after = rest }
  string_is opening closing cells rest text known is between closes =
      rw append_assoc (between_is between (IsQuoteByte-from_class opening.byte is) true rest (quoted_closed opening.byte closing rest closes))

  cut_is : (opening : Cell) (cells : List Cell) (text : List ℕ) (known : Bool) → class_of opening.byte ≡ Quote → Between opening.byte cells [] text known
      → quoted_from opening.byte (cells ++ []) ≡ record { text = text; known = known; closed = false; after = [] }
  unfolding quoted_from
  cut_is opening cells text known is between = between_is between (IsQuoteByte-from_class opening.byte is) false [] refl

  -- behind `$`: the name that is found, and what follows it
  macro_is : (place : Place) (name rest : List Cell) → IsLongestRun is_name_byte name rest → macro_step values place (name ++ rest) ≡ named_step place (bytes_of name) (values (bytes_of name)) rest
  unfolding macro_step
  macro_is place name rest run =
      (λ i. named_step place (bytes_of (front_is is_name_byte name rest run i)) (values (bytes_of (front_is is_name_byte name rest run i))) (beyond_is is_name_byte name rest run i))

  -- no name is found where none stands
  unnamed_is : (place : Place) (cells rest : List Cell) → IsLongestRun is_word_byte cells rest → stops is_name_byte (cells ++ rest) ≡ true → macro_step values place (cells ++ rest) ≡ (Some (fault causes.MacroName place), rest)
  unnamed_is place cells rest run none =
      let here : IsLongestRun is_name_byte [] (cells ++ rest) = record { each = refl; ends = none } in
      macro_is place [] (cells ++ rest) here ∙ ap (λ t. (Some (fault causes.MacroName place), t)) (beyond_is is_word_byte cells rest run)

  -- a piece is the step that the code takes
  pub step_is : {spelled rest next : List Cell} {found : Option Lexeme} → Piece values spelled rest found next → step values (spelled ++ rest) ≡ (found, next)
  step_is (blank {cell = cell} {rest = rest} is) = step_at cell rest Blank is
  step_is (comment {hash = hash} {cells = cells} {rest = rest} is run) =
      step_at hash (cells ++ rest) Hash is ∙ ap (λ t. (None, t)) (beyond_is is_in_line cells rest run)
  step_is (newline {cell = cell} {rest = rest} is) = step_at cell rest Newline is
  step_is (sign {cell = cell} {rest = rest} is) = step_at cell rest Sign is
  step_is (string {opening = opening} {closing = closing} {cells = cells} {rest = rest} {text = text} {known = known} is between closes) =
      step_at opening _ Quote is ∙ ap (quoted_step opening.place) (string_is opening closing cells rest text known is between closes)
  step_is (unterminated {opening = opening} {cells = cells} {text = text} {known = known} is between) =
      step_at opening _ Quote is ∙ ap (quoted_step opening.place) (cut_is opening cells text known is between)
  step_is (word {first = first} {cells = cells} {rest = rest} is run) =
      step_at first (cells ++ rest) Plain is ∙ (λ i. (Some (token kinds.Word (first.byte ∷ bytes_of (front_is is_word_byte cells rest run i)) first.place), beyond_is is_word_byte cells rest run i))
  step_is (bad {cell = cell} {rest = rest} is) = step_at cell rest Bad is
  step_is (used {dollar = dollar} {first = first} {name = name} {rest = rest} {value = value} is run stands plain) =
      step_at dollar ((first ∷ name) ++ rest) Dollar is ∙ macro_is dollar.place (first ∷ name) rest run ∙ ap (λ v. named_step dollar.place (bytes_of (first ∷ name)) v rest) stands ∙ rw plain refl
  step_is (unnamed {dollar = dollar} {cells = cells} {rest = rest} is run none) =
      step_at dollar (cells ++ rest) Dollar is ∙ unnamed_is dollar.place cells rest run none
  step_is (undefined {dollar = dollar} {first = first} {name = name} {others = others} {rest = rest} is run stands more) =
      step_at dollar (((first ∷ name) ++ others) ++ rest) Dollar is
      ∙ ap (macro_step values dollar.place) (append_assoc (first ∷ name) others rest)
      ∙ macro_is dollar.place (first ∷ name) (others ++ rest) run
      ∙ ap (λ v. named_step dollar.place (bytes_of (first ∷ name)) v (others ++ rest)) stands
      ∙ ap (λ t. (Some (fault (causes.MacroUndefined (take 63 (bytes_of (first ∷ name)))) dollar.place), t)) (beyond_is is_word_byte others rest more)
  step_is (nested {dollar = dollar} {first = first} {name = name} {others = others} {rest = rest} {value = value} is run stands has more) =
      step_at dollar (((first ∷ name) ++ others) ++ rest) Dollar is
      ∙ ap (macro_step values dollar.place) (append_assoc (first ∷ name) others rest)
      ∙ macro_is dollar.place (first ∷ name) (others ++ rest) run
      ∙ ap (λ v. named_step dollar.place (bytes_of (first ∷ name)) v (others ++ rest)) stands
      ∙ rw has (ap (λ t. (Some (fault causes.Syntax dollar.place), t)) (beyond_is is_word_byte others rest more))

-- a step is a piece of the cells
pub record IsFirst (values : List ℕ → Option (List ℕ)) (cells : List Cell) (found : Step) : Type 0 where
  pub spelled : List Cell
  pub rest : List Cell
  pub joined : cells ≡ spelled ++ rest
  pub piece : Piece values spelled rest found.0 found.1

module _ (values : List ℕ → Option (List ℕ)) where
  one_cell : (cell : Cell) (cells : List Cell) (found : Step) → Piece values (cell ∷ []) cells found.0 found.1 → IsFirst values (cell ∷ cells) found
  one_cell cell cells found piece = record { spelled = cell ∷ []; rest = cells; joined = refl; piece = piece }

  -- the step at a string
  first_string : (opening : Cell) (cells : List Cell) → class_of opening.byte ≡ Quote → (quoted : Quoted) → IsBetween opening.byte cells quoted → IsFirst values (opening ∷ cells) (quoted_step opening.place quoted)
  first_string opening cells is quoted found = by_closed quoted.closed refl found.ends where
    by_closed : (closed : Bool) → quoted.closed ≡ closed → EndsWith opening.byte closed found.rest quoted.after → IsFirst values (opening ∷ cells) (Some (if closed then string_of quoted.known quoted.text opening.place else cut_off quoted.known opening.place), quoted.after)
    by_closed true e (closing, rest_is, closes) = record {
      spelled = opening ∷ (found.inner ++ closing ∷ []);
      rest = quoted.after;
      joined = ap (λ t. opening ∷ t) (found.joined ∙ ap (λ t. found.inner ++ t) rest_is ∙ sym (append_assoc found.inner (closing ∷ []) quoted.after));
      piece = string is (subst (λ t. Between opening.byte found.inner t quoted.text quoted.known) rest_is found.between) closes;
    }
    by_closed false e (rest_is, after_is) = record {
      spelled = opening ∷ found.inner;
      rest = [];
      joined = ap (λ t. opening ∷ t) (found.joined ∙ ap (λ t. found.inner ++ t) rest_is);
      piece = subst (λ t. Piece values (opening ∷ found.inner) [] (Some (cut_off quoted.known opening.place)) t) (sym after_is)
          (unterminated is (subst (λ t. Between opening.byte found.inner t quoted.text quoted.known) rest_is found.between));
    }

  -- the step at a macro with a value
  first_value : (dollar first : Cell) (name rest : List Cell) (value : List ℕ) → class_of dollar.byte ≡ Dollar → IsLongestRun is_name_byte (first ∷ name) rest → values (bytes_of (first ∷ name)) ≡ Some value
      → IsFirst values (dollar ∷ first ∷ (name ++ rest)) (value_step dollar.place value rest)
  first_value dollar first name rest value is run stands = by_dollar (has_dollar value) refl where
    by_dollar : (has : Bool) → has_dollar value ≡ has → IsFirst values (dollar ∷ first ∷ (name ++ rest)) (if has then (Some (fault causes.Syntax dollar.place), beyond is_word_byte rest) else (None, cells_at dollar.place value ++ rest))
    by_dollar true has = record {
      spelled = dollar ∷ first ∷ (name ++ front is_word_byte rest);
      rest = beyond is_word_byte rest;
      joined = ap (λ t. dollar ∷ first ∷ t) (ap (λ t. name ++ t) (joined is_word_byte rest) ∙ sym (append_assoc name (front is_word_byte rest) (beyond is_word_byte rest)));
      piece = nested is (subst (IsLongestRun is_name_byte (first ∷ name)) (joined is_word_byte rest) run) stands has (longest is_word_byte rest);
    }
    by_dollar false has = record {
      spelled = dollar ∷ first ∷ name;
      rest = rest;
      joined = refl;
      piece = used is run stands has;
    }

  first_named : (dollar : Cell) (name rest : List Cell) (value : Option (List ℕ)) → class_of dollar.byte ≡ Dollar → IsLongestRun is_name_byte name rest → values (bytes_of name) ≡ value
      → IsFirst values (dollar ∷ (name ++ rest)) (named_step dollar.place (bytes_of name) value rest)
  first_named dollar [] rest value is run stands = record {
    spelled = dollar ∷ front is_word_byte rest;
    rest = beyond is_word_byte rest;
    joined = ap (λ t. dollar ∷ t) (joined is_word_byte rest);
    piece = unnamed is (longest is_word_byte rest) (ap (stops is_name_byte) (sym (joined is_word_byte rest)) ∙ run.ends);
  }
  first_named dollar (first ∷ name) rest None is run stands = record {
    spelled = dollar ∷ first ∷ (name ++ front is_word_byte rest);
    rest = beyond is_word_byte rest;
    joined = ap (λ t. dollar ∷ first ∷ t) (ap (λ t. name ++ t) (joined is_word_byte rest) ∙ sym (append_assoc name (front is_word_byte rest) (beyond is_word_byte rest)));
    piece = undefined is (subst (IsLongestRun is_name_byte (first ∷ name)) (joined is_word_byte rest) run) stands (longest is_word_byte rest);
  }
  first_named dollar (first ∷ name) rest (Some value) is run stands = first_value dollar first name rest value is run stands

  first_macro : (dollar : Cell) (cells : List Cell) → class_of dollar.byte ≡ Dollar → IsFirst values (dollar ∷ cells) (macro_step values dollar.place cells)
  unfolding macro_step
  first_macro dollar cells is =
      subst (λ t. IsFirst values (dollar ∷ t) (macro_step values dollar.place cells)) (sym (joined is_name_byte cells))
      (first_named dollar (front is_name_byte cells) (beyond is_name_byte cells) (values (bytes_of (front is_name_byte cells))) is (longest is_name_byte cells) refl)

  first_by : (class : ByteClass) (cell : Cell) (cells : List Cell) → class_of cell.byte ≡ class → IsFirst values (cell ∷ cells) (step_by class values cell cells)
  first_by Blank cell cells is = one_cell cell cells _ (blank is)
  first_by Hash cell cells is = record {
    spelled = cell ∷ front is_in_line cells;
    rest = beyond is_in_line cells;
    joined = ap (λ t. cell ∷ t) (joined is_in_line cells);
    piece = comment is (longest is_in_line cells);
  }
  first_by Newline cell cells is = one_cell cell cells _ (newline is)
  first_by Sign cell cells is = one_cell cell cells _ (sign is)
  first_by Quote cell cells is = first_string cell cells is (quoted_from cell.byte cells) (found_between cell.byte (IsQuoteByte-from_class cell.byte is) cells)
  first_by Plain cell cells is = record {
    spelled = cell ∷ front is_word_byte cells;
    rest = beyond is_word_byte cells;
    joined = ap (λ t. cell ∷ t) (joined is_word_byte cells);
    piece = word is (longest is_word_byte cells);
  }
  first_by Dollar cell cells is = first_macro cell cells is
  first_by Bad cell cells is = one_cell cell cells _ (bad is)

  -- what the code finds is a piece
  pub first_is : (cell : Cell) (cells : List Cell) → IsFirst values (cell ∷ cells) (step values (cell ∷ cells))
  unfolding step
  first_is cell cells = first_by (class_of cell.byte) cell cells refl
