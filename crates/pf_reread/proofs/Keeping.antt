-- What a production says of the symbols of a file's tokens holds of its value, and the symbols that it leaves are such.
use Rattle.std.proofs.Common.{◌≡◌, ℕ, zero, suc, Bool, true, ◌&&◌, List, [], ◌∷◌, ◌++◌, Option, Some, None, refl, subst, ◌∙◌}
use Rattle.std.specs.List.{list_all}
use Rattle.std.proofs.lemmas.Bool.{and_parts, and_from}
use Rattle.std.proofs.lemmas.List.Folds.{list_all-append}
use Rattle.pf_syntax.specs.Symbols.{Symbol, Symbols, bare, quoted, mark, line_end, symbol_of, symbol_of_kind, symbols}
use Rattle.pf_syntax.specs.Productions.{Production, Given, given, One, one, Then, Chosen, there, otherwise, Repeated, ended, further}
use Rattle.pf_syntax.specs.Grammar.{Grammar}
use Rattle.pf_syntax.specs.Lists.{with_comma, list_of, in_brackets}
use Rattle.pf_decl.specs.ReadBack.{is_string_byte}
use Rattle.pf_token.specs.declared.token.Token.{Token}
use Rattle.pf_token.specs.declared.token.TokenKind.{TokenKind}
use Rattle.pf_token.specs.declared.token.TokenKind.TheVariants as kinds
use Rattle.pf_reread.specs.TokenText.{are_read_tokens, is_read_token, is_text_of, is_word_text}

-- a symbol that a file's token can be
abbrev pub is_read_symbol : Symbol → Bool
is_read_symbol (bare text) = is_word_text text
is_read_symbol (quoted text) = list_all is_string_byte text
is_read_symbol (mark text) = true
is_read_symbol line_end = true

abbrev pub are_read_symbols : Symbols → Bool
are_read_symbols symbols = list_all is_read_symbol symbols

symbol_read : (kind : TokenKind) (text : List ℕ) → is_text_of kind text ≡ true → is_read_symbol (symbol_of_kind kind text) ≡ true
symbol_read kinds.Word text is = is
symbol_read kinds.Quoted text is = is
symbol_read kinds.Sign text is = refl
symbol_read kinds.Newline text is = refl

-- the symbols of a file's tokens
pub symbols_read : (tokens : List Token) → are_read_tokens tokens ≡ true → are_read_symbols (symbols tokens) ≡ true
symbols_read [] is = refl
symbols_read (token ∷ tokens) is =
    let parts = and_parts (is_read_token token) (are_read_tokens tokens) is in
    and_from (is_read_symbol (symbol_of token)) (are_read_symbols (symbols tokens)) (symbol_read token.kind token.text parts.0) (symbols_read tokens parts.1)

pub record Kept {A : Type 0} (Holds : A → Type 0) (value : A) (rest : Symbols) : Type 0 where
  pub holds : Holds value
  pub left : are_read_symbols rest ≡ true

pub record Keeps {A : Type 0} (Holds : A → Type 0) (derives : Production A) : Type 0 where
  pub kept : (start : Symbols) (value : A) (rest : Symbols) → are_read_symbols start ≡ true → derives start value rest → Kept Holds value rest

-- nothing is said of the value
abbrev pub Anything : {A : Type 0} → A → Type 0
Anything value = Unit {0}

given_kept : {A : Type 0} (Holds : A → Type 0) (offered : Option A) → ((value : A) → offered ≡ Some value → Holds value)
    → (start : Symbols) (value : A) (rest : Symbols) → are_read_symbols start ≡ true → Given offered start value rest → Kept Holds value rest
given_kept Holds offered each start value rest file (given is) = record { holds = each value is; left = file }

pub from_keeps : {A : Type 0} {Holds : A → Type 0} {offered : Option A} → ((value : A) → offered ≡ Some value → Holds value) → Keeps Holds (Given offered)
from_keeps {Holds = Holds} {offered = offered} each = record { kept = given_kept Holds offered each }

abbrev pub HoldsIn : {A : Type 0} → (A → Type 0) → Option A → Type 0
HoldsIn Holds None = Unit {0}
HoldsIn Holds (Some value) = Holds value

pub value_keeps : {A : Type 0} {Holds : A → Type 0} {value : A} → Holds value → Keeps Holds (Given (Some value))
value_keeps {A = A} {Holds = Holds} {value = value} holds =
    let P : Option A → Type 0 = HoldsIn Holds in from_keeps (λ other is. subst P is holds)

pub none_keeps : {A : Type 0} {offered : Option A} → Keeps Anything (Given offered)
none_keeps = from_keeps (λ value is. tt)

one_kept : {A : Type 0} (Holds : A → Type 0) (says : Symbol → Option A) → ((symbol : Symbol) (value : A) → is_read_symbol symbol ≡ true → says symbol ≡ Some value → Holds value)
    → (start : Symbols) (value : A) (rest : Symbols) → are_read_symbols start ≡ true → One says start value rest → Kept Holds value rest
one_kept Holds says each start value rest file (one {symbol = symbol} is) =
    let parts = and_parts (is_read_symbol symbol) (are_read_symbols rest) file in record { holds = each symbol value parts.0 is; left = parts.1 }

pub one_keeps : {A : Type 0} {Holds : A → Type 0} {says : Symbol → Option A}
    → ((symbol : Symbol) (value : A) → is_read_symbol symbol ≡ true → says symbol ≡ Some value → Holds value) → Keeps Holds (One says)
one_keeps {Holds = Holds} {says = says} each = record { kept = one_kept Holds says each }

pub any_keeps : {A : Type 0} {says : Symbol → Option A} → Keeps Anything (One says)
any_keeps = one_keeps (λ symbol value file is. tt)

then_kept : {A B : Type 0} (First : A → Type 0) (Holds : B → Type 0) (first : Production A) (second : A → Production B)
    → Keeps First first → ((part : A) → First part → Keeps Holds (second part))
    → (start : Symbols) (value : B) (rest : Symbols) → are_read_symbols start ≡ true → Then first second start value rest → Kept Holds value rest
then_kept First Holds first second front back start value rest file parts =
    let one_way = front.kept start parts.part parts.between file parts.front in
    (back parts.part one_way.holds).kept parts.between value rest one_way.left parts.back

pub then_keeps : {A B : Type 0} {First : A → Type 0} {Holds : B → Type 0} {first : Production A} {second : A → Production B}
    → Keeps First first → ((part : A) → First part → Keeps Holds (second part)) → Keeps Holds (Then first second)
then_keeps {First = First} {Holds = Holds} {first = first} {second = second} front back = record { kept = then_kept First Holds first second front back }

chosen_kept : {A : Type 0} (Holds : A → Type 0) (test : Symbols → Bool) (first second : Production A) → Keeps Holds first → Keeps Holds second
    → (start : Symbols) (value : A) (rest : Symbols) → are_read_symbols start ≡ true → Chosen test first second start value rest → Kept Holds value rest
chosen_kept Holds test first second one_way other_way start value rest file (there is holds) = one_way.kept start value rest file holds
chosen_kept Holds test first second one_way other_way start value rest file (otherwise is holds) = other_way.kept start value rest file holds

pub chosen_keeps : {A : Type 0} {Holds : A → Type 0} {test : Symbols → Bool} {first second : Production A} → Keeps Holds first → Keeps Holds second → Keeps Holds (Chosen test first second)
chosen_keeps {Holds = Holds} {test = test} {first = first} {second = second} one_way other_way = record { kept = chosen_kept Holds test first second one_way other_way }

repeated_kept : {A : Type 0} (Holds : A → Type 0) (ends : Symbols → Bool) (step : A → Production A) → ((before : A) → Holds before → Keeps Holds (step before))
    → (most : ℕ) (before : A) → Holds before
    → (start : Symbols) (value : A) (rest : Symbols) → are_read_symbols start ≡ true → Repeated ends step most before start value rest → Kept Holds value rest
repeated_kept Holds ends step each zero before holds start value rest file (ended is) = record { holds = holds; left = file }
repeated_kept Holds ends step each (suc most) before holds start value rest file (ended is) = record { holds = holds; left = file }
repeated_kept Holds ends step each (suc most) before holds start value rest file (further {next = next} {between = between} is front back) =
    let one_way = (each before holds).kept start next between file front in
    repeated_kept Holds ends step each most next one_way.holds between value rest one_way.left back

pub until_keeps : {A : Type 0} {Holds : A → Type 0} {ends : Symbols → Bool} {step : A → Production A} {most : Symbols → ℕ} {value : A}
    → ((before : A) → Holds before → Keeps Holds (step before)) → Holds value → Keeps Holds (λ start. Repeated ends step (most start) value start)
until_keeps {Holds = Holds} {ends = ends} {step = step} {most = most} {value = value} each holds =
    record { kept = λ start last rest file. repeated_kept Holds ends step each (most start) value holds start last rest file }

-- one part of which nothing is said, and behind it another
pub row : {A B : Type 0} {Holds : B → Type 0} {first : Production A} {second : A → Production B}
    → Keeps Anything first → ((part : A) → Keeps Holds (second part)) → Keeps Holds (Then first second)
row front back = then_keeps front (λ part holds. back part)

-- behind a keyword or a sign where it stands next, else without it
pub on_keeps : {A B : Type 0} {Holds : A → Type 0} {test : Symbols → Bool} {says : Symbol → Option B} {first second : Production A}
    → Keeps Holds first → Keeps Holds second → Keeps Holds (Chosen test (Then (One says) (λ part. first)) second)
on_keeps one_way other_way = chosen_keeps (row any_keeps (λ part. one_way)) other_way

pub perhaps_keeps : {A B : Type 0} {test : Symbols → Bool} {says : Symbol → Option B} {one other : Option A}
    → Keeps Anything (Chosen test (Then (One says) (λ part. Given one)) (Given other))
perhaps_keeps = on_keeps none_keeps none_keeps

pub refuse_keeps : {A : Type 0} {Holds : A → Type 0} → Keeps Holds (Given None)
refuse_keeps = from_keeps (λ value is. absurd (cc))

pub comma_keeps : {A : Type 0} {Holds : A → Type 0} (item : Grammar A) → Keeps Holds item.derives → Keeps Holds (with_comma item).derives
comma_keeps item each = then_keeps each (λ value holds. row perhaps_keeps (λ comma. value_keeps holds))

pub list_keeps : {A : Type 0} {Holds : A → Type 0} {All : List A → Type 0} (item : Grammar A)
    → ((only : A) → Holds only → All (only ∷ [])) → ((items : List A) (next : A) → All items → Holds next → All (items ++ next ∷ []))
    → Keeps Holds item.derives → Keeps All (list_of item).derives
list_keeps {All = All} item single more each =
    on_keeps
    (then_keeps (comma_keeps item each) (λ first holds.
    then_keeps {First = All} (until_keeps (λ before held. then_keeps (comma_keeps item each) (λ next kept. value_keeps (more before next held kept))) (single first holds))
    (λ items held. row any_keeps (λ closed. value_keeps held))))
    (then_keeps each (λ only holds. value_keeps (single only holds)))

pub all_keep : {A : Type 0} (test : A → Bool) (item : Grammar A) → Keeps (λ value. test value ≡ true) item.derives → Keeps (λ items. list_all test items ≡ true) (list_of item).derives
all_keep test item each =
    list_keeps item (λ only holds. and_from (test only) true holds refl)
    (λ items next held holds. list_all-append test items (next ∷ []) ∙ and_from (list_all test items) (test next && true) held (and_from (test next) true holds refl))
    each

pub list_rest : {A : Type 0} (item : Grammar A) → Keeps Anything item.derives → Keeps Anything (list_of item).derives
list_rest item each = list_keeps item (λ only holds. tt) (λ items next held holds. tt) each

-- parts in brackets, each of which keeps it
pub brackets_keep : {A : Type 0} {Holds : A → Type 0} (part : A → Grammar A) (none : A) → ((before : A) → Holds before → Keeps Holds (part before).derives) → Holds none → Keeps Holds (in_brackets part none).derives
brackets_keep {Holds = Holds} part none each start =
    row any_keeps (λ opened. then_keeps (each none start) (λ first one.
    then_keeps {First = Holds} (until_keeps (λ before held. row perhaps_keeps (λ comma. each before held)) one)
    (λ last held. row any_keeps (λ closed. value_keeps held))))
