-- The settings that statements of files make.
use Rattle.std.proofs.Common.{◌≡◌, ℕ, Bool, true, false, List, [], ◌∷◌, ◌++◌, length, Option, Some, None, refl, sym, subst, arith}
use Rattle.std.specs.Prelude.{◌&&◌, nat_le, codes, All, if◌then◌else◌}
use Rattle.std.specs.List.{list_all}
use Rattle.std.specs.Option.{option_and_then}
use Rattle.std.specs.Str.{bytes_eq}
use Rattle.std.proofs.lemmas.Bool.{and_from, and_parts}
use Rattle.std.proofs.lemmas.List.Elements.{All-append}
use Rattle.pf_base.specs.Decimal.{decimal_of, digits_after, is_decimal}
use Rattle.pf_base.specs.declared.fault.Place.{Place}
use Rattle.pf_parts.specs.declared.block.BlockKind.{BlockKind}
use Rattle.pf_parts.specs.declared.block.BlockKind.TheVariants as blocks
use Rattle.pf_syntax.specs.Fault.{is_one_of, timeouts}
use Rattle.pf_syntax.specs.Grammar.{Grammar}
use Rattle.pf_syntax.specs.Lists.{at_sign, list_of, more_items, more_step, with_comma}
use Rattle.pf_syntax.specs.Productions.{Production, Given, given, One, one, Then, Chosen, there, otherwise, Repeated, ended, further}
use Rattle.pf_syntax.specs.Symbols.{Symbol, Symbols, bare, quoted, mark, line_end, symbol_of_kind, symbols}
use Rattle.pf_syntax.specs.Words.{bare_text, in_range, is_name, meaning_in, name, name_of, name_where, number, perhaps_sign, word_as}
use Rattle.pf_token.specs.declared.token.Token.{Token}
use Rattle.pf_token.specs.declared.token.TokenKind.{TokenKind}
use Rattle.pf_token.specs.declared.token.TokenKind.TheVariants as kinds
use Rattle.pf_decl.specs.declared.form.Decl.{Decl}
use Rattle.pf_decl.specs.declared.form.Decl.TheVariants as decls
use Rattle.pf_decl.specs.declared.form.OptionLine.{OptionLine}
use Rattle.pf_decl.specs.declared.form.SetForm.{SetForm}
use Rattle.pf_decl.specs.declared.form.SetForm.TheVariants.{Skip, BlockPolicy, StatePolicy, RulesetOptimization, Timeout, Limit, Optimization, Debug, Reassemble, LogInterface, Fingerprints}
use Rattle.pf_decl.specs.declared.keyword.DeclWord.{DeclWord}
use Rattle.pf_decl.specs.declared.keyword.DeclWord.TheVariants as firsts
use Rattle.pf_decl.specs.declared.keyword.SetWord.{SetWord}
use Rattle.pf_decl.specs.declared.keyword.SetWord.TheVariants as words
use Rattle.pf_decl.specs.Decls.{IsDecl, declaration, decl_behind, place_of}
use Rattle.pf_decl.specs.Lines.{line_of}
use Rattle.pf_decl.specs.ReadBack.{ReadsAs, are_file_tokens, is_file_name, is_file_token, is_made, is_number, is_policy, is_string_byte}
use Rattle.pf_decl.specs.Settings.{listed, one_of, line, one_line, setting, set_behind, skip, timeout, limit, block_policy, block_policies, state_policy, ruleset_optimization, optimization, debug, reassemble, log_interface, fingerprints, limits, optimizations, debug_levels}
use Rattle.pf_decl.proofs.ReadingBack.{lines_read_back}

-- symbols of a file
abbrev pub is_file_symbol : Symbol → Bool
is_file_symbol (bare text) = list_all is_string_byte text
is_file_symbol (quoted text) = list_all is_string_byte text
is_file_symbol (mark text) = true
is_file_symbol line_end = true

abbrev pub are_file_symbols : Symbols → Bool
are_file_symbols = list_all is_file_symbol

-- what was said has this, and what is left is still of a file
pub record Said {A : Type 0} (P : A → Type 0) (value : A) (rest : Symbols) : Type 0 where
  pub holds : P value
  pub left : are_file_symbols rest ≡ true

-- whatever a production says of symbols of a file has this
pub record Says {A : Type 0} (P : A → Type 0) (derives : Production A) : Type 0 where
  pub each : (start : Symbols) (value : A) (rest : Symbols) → are_file_symbols start ≡ true → derives start value rest → Said P value rest

abbrev pub anything : {A : Type 0} → A → Type 0
anything value = Unit {0}

given_each : {A : Type 0} (P : A → Type 0) (offered : Option A) → ((value : A) → offered ≡ Some value → P value)
    → (start : Symbols) (value : A) (rest : Symbols) → are_file_symbols start ≡ true → Given offered start value rest → Said P value rest
given_each P offered all start value rest file (given is) = record { holds = all value is; left = file }

pub says_given : {A : Type 0} (P : A → Type 0) (offered : Option A) → ((value : A) → offered ≡ Some value → P value) → Says P (Given offered)
says_given P offered all = record { each = given_each P offered all }

abbrev HoldsOf : {A : Type 0} → (A → Type 0) → Option A → Type 0
HoldsOf P None = Unit {0}
HoldsOf P (Some value) = P value

-- what holds of a value holds of an equal one
pub of_some : {A : Type 0} (P : A → Type 0) (value other : A) → Some value ≡ Some other → P value → P other
of_some P value other same holds = subst (HoldsOf P) same holds

pub says_give : {A : Type 0} (P : A → Type 0) (value : A) → P value → Says P (Given (Some value))
says_give P value holds = says_given P (Some value) (λ other same. of_some P value other same holds)

one_each : {A : Type 0} (P : A → Type 0) (says : Symbol → Option A) → ((symbol : Symbol) (value : A) → is_file_symbol symbol ≡ true → says symbol ≡ Some value → P value)
    → (start : Symbols) (value : A) (rest : Symbols) → are_file_symbols start ≡ true → One says start value rest → Said P value rest
one_each P says all start value rest file (one {symbol = symbol} is) =
    let p = and_parts (is_file_symbol symbol) (are_file_symbols rest) file in
    record { holds = all symbol value p.0 is; left = p.1 }

pub says_one : {A : Type 0} (P : A → Type 0) (says : Symbol → Option A) → ((symbol : Symbol) (value : A) → is_file_symbol symbol ≡ true → says symbol ≡ Some value → P value) → Says P (One says)
says_one P says all = record { each = one_each P says all }

pub says_any : {A : Type 0} (says : Symbol → Option A) → Says anything (One says)
says_any says = says_one anything says (λ symbol value file is. tt)

pub says_then : {A B : Type 0} (P : A → Type 0) (Q : B → Type 0) (first : Production A) (second : A → Production B)
    → Says P first → ((part : A) → P part → Says Q (second part)) → Says Q (Then first second)
says_then P Q first second front back = record {
  each = λ start value rest file parts.
      let said = front.each start parts.part parts.between file parts.front in
      (back parts.part said.holds).each parts.between value rest said.left parts.back;
}

chosen_each : {A : Type 0} (P : A → Type 0) (test : Symbols → Bool) (first second : Production A) → Says P first → Says P second
    → (start : Symbols) (value : A) (rest : Symbols) → are_file_symbols start ≡ true → Chosen test first second start value rest → Said P value rest
chosen_each P test first second front back start value rest file (there is said) = front.each start value rest file said
chosen_each P test first second front back start value rest file (otherwise is said) = back.each start value rest file said

pub says_chosen : {A : Type 0} (P : A → Type 0) (test : Symbols → Bool) (first second : Production A) → Says P first → Says P second → Says P (Chosen test first second)
says_chosen P test first second front back = record { each = chosen_each P test first second front back }

repeated_each : {A : Type 0} (P : A → Type 0) (ends : Symbols → Bool) (step : A → Production A) → ((before : A) → P before → Says P (step before))
    → (most : ℕ) (before : A) → P before → (start : Symbols) (value : A) (rest : Symbols) → are_file_symbols start ≡ true → Repeated ends step most before start value rest → Said P value rest
repeated_each P ends step each most before holds start value rest file (ended is) = record { holds = holds; left = file }
repeated_each P ends step each most before holds start value rest file (further {most = fewer} {next = next} {between = between} is front back) =
    let said = (each before holds).each start next between file front in
    repeated_each P ends step each fewer next said.holds between value rest said.left back

-- a list of items each of which has it
abbrev says_list : {A : Type 0} → (A → Type 0) → Grammar A → Type 0
says_list P item = Says (All P) (list_of item).derives

all_one : {A : Type 0} (P : A → Type 0) (item : A) → P item → All P (item ∷ [])
all_one P item holds = λ k d below. let first : k ≡ 0 = omega arith in rw first holds

says_with_comma : {A : Type 0} (P : A → Type 0) (item : Grammar A) → Says P item.derives → Says P (with_comma item).derives
says_with_comma P item says =
    says_then P P item.derives _ says (λ value holds.
    says_then anything P (perhaps_sign (codes ",")).derives _
    (says_chosen anything _ _ _
    (says_then anything anything _ _ (says_any _) (λ part said. says_give anything true tt)) (says_give anything false tt))
    (λ comma said. says_give P value holds))

says_more : {A : Type 0} (P : A → Type 0) (item : Grammar A) → Says P item.derives → (items : List A) → All P items → Says (All P) (more_items item items).derives
says_more P item says items holds = record {
  each = λ start. repeated_each (All P) (at_sign (codes "}")) (λ before. (more_step item before).derives)
      (λ before all. says_then P (All P) (with_comma item).derives _ (says_with_comma P item says)
      (λ next each. says_give (All P) (before ++ next ∷ []) (All-append P before (next ∷ []) all (all_one P next each))))
      (length start) items holds start;
}

pub says_list_of : {A : Type 0} (P : A → Type 0) (item : Grammar A) → Says P item.derives → says_list P item
says_list_of P item says =
    says_chosen (All P) _ _ _
    (says_then anything (All P) _ _ (says_any _) (λ opened said.
    says_then P (All P) (with_comma item).derives _ (says_with_comma P item says) (λ first each.
    says_then (All P) (All P) (more_items item (first ∷ [])).derives _ (says_more P item says (first ∷ []) (all_one P first each)) (λ items all.
    says_then anything (All P) _ _ (says_any _) (λ closed last. says_give (All P) items all)))))
    (says_then P (All P) item.derives _ says (λ only each. says_give (All P) (only ∷ []) (all_one P only each)))

-- a setting that a file can make
abbrev pub IsMade : SetForm → Type 0
IsMade form = is_made form ≡ true

-- the line of one
pub record IsMadeLine (line : OptionLine) : Type 0 where
  pub form : SetForm
  pub made : is_made form ≡ true
  pub shows : line ≡ line_of form

says_line : (form : Grammar SetForm) → Says IsMade form.derives → Says IsMadeLine (line form).derives
says_line form says = says_then IsMade IsMadeLine form.derives _ says (λ said made.
    says_give IsMadeLine (line_of said) (record { form = said; made = made; shows = refl }))

says_one_line : (form : Grammar SetForm) → Says IsMade form.derives → Says (All IsMadeLine) (one_line form).derives
says_one_line form says = says_then IsMadeLine (All IsMadeLine) (line form).derives _ (says_line form says) (λ only each.
    says_give (All IsMadeLine) (only ∷ []) (all_one IsMadeLine only each))

-- names, words and numbers
where_name : (b : Bool) (text value : List ℕ) → is_name text ≡ b → name_where b text ≡ Some value → list_all is_string_byte text ≡ true → is_file_name value ≡ true
where_name true text value named same file =
    let holds : is_file_name text ≡ true = rw (named, file) refl in
    of_some (λ name. is_file_name name ≡ true) text value same holds
where_name false text value named same file = absurd (cc)

named : (symbol : Symbol) (value : List ℕ) → is_file_symbol symbol ≡ true → name_of symbol ≡ Some value → is_file_name value ≡ true
unfolding name_of
named (bare text) value file same = where_name (is_name text) text value refl same file
named (quoted text) value file same = where_name (is_name text) text value refl same file
named (mark text) value file same = absurd (cc)
named line_end value file same = absurd (cc)

says_name : Says (λ text. is_file_name text ≡ true) name.derives
says_name = says_one _ name_of named

-- what a bare word means
word_means : {A : Type 0} (P : A → Type 0) (means : List ℕ → Option A) → ((text : List ℕ) (value : A) → means text ≡ Some value → P value)
    → (symbol : Symbol) (value : A) → is_file_symbol symbol ≡ true → option_and_then means (bare_text symbol) ≡ Some value → P value
word_means P means all (bare text) value file same = all text value same
word_means P means all (quoted text) value file same = absurd (cc)
word_means P means all (mark text) value file same = absurd (cc)
word_means P means all line_end value file same = absurd (cc)

says_word_as : {A : Type 0} (P : A → Type 0) (means : List ℕ → Option A) → ((text : List ℕ) (value : A) → means text ≡ Some value → P value) → Says P (word_as means).derives
says_word_as P means all = says_one P _ (word_means P means all)

if_listed : (b : Bool) (words : List (List ℕ)) (text value : List ℕ) → is_one_of words text ≡ b → (if b then Some text else None) ≡ Some value → is_one_of words value ≡ true
if_listed true words text value is same = of_some (λ word. is_one_of words word ≡ true) text value same is
if_listed false words text value is same = absurd (cc)

says_one_of : (words : List (List ℕ)) → Says (λ word. is_one_of words word ≡ true) (one_of words).derives
says_one_of words = says_word_as _ (listed words) (λ text value same. if_listed (is_one_of words text) words text value refl same)

if_least : (c : Bool) (n value : ℕ) → nat_le n 4294967295 ≡ true → (if c then Some n else None) ≡ Some value → is_number value ≡ true
if_least true n value fits same = of_some (λ k. is_number k ≡ true) n value same fits
if_least false n value fits same = absurd (cc)

if_number : (a b : Bool) (n value : ℕ) → nat_le n 4294967295 ≡ b → in_range 0 (if a && b then Some n else None) ≡ Some value → is_number value ≡ true
if_number true true n value fits same = if_least (nat_le 0 n) n value fits same
if_number true false n value fits same = absurd (cc)
if_number false b n value fits same = absurd (cc)

numbers : (text : List ℕ) (value : ℕ) → in_range 0 (decimal_of 4294967295 text) ≡ Some value → is_number value ≡ true
unfolding decimal_of
numbers text value same = if_number (is_decimal text) (nat_le (digits_after 0 text) 4294967295) (digits_after 0 text) value refl same

says_number : Says (λ n. is_number n ≡ true) (number 0 4294967295).derives
says_number = says_word_as _ _ numbers

says_skip : Says IsMade skip.derives
unfolding skip is_made
says_skip = says_then _ IsMade _ _ says_name (λ iface named. says_give IsMade (Skip iface) named)

says_log_interface : Says IsMade log_interface.derives
unfolding log_interface is_made
says_log_interface = says_then _ IsMade _ _ says_name (λ iface named. says_give IsMade (LogInterface iface) named)

says_fingerprints : Says IsMade fingerprints.derives
unfolding fingerprints is_made
says_fingerprints = says_then _ IsMade _ _ says_name (λ file named. says_give IsMade (Fingerprints file) named)

says_timeout : Says IsMade timeout.derives
unfolding timeout is_made
says_timeout = says_then _ IsMade _ _ (says_one_of timeouts) (λ which is.
    says_then _ IsMade _ _ says_number (λ value fits. says_give IsMade (Timeout which value) (and_from (is_one_of timeouts which) (is_number value) is fits)))

says_limit : Says IsMade limit.derives
unfolding limit is_made
says_limit = says_then _ IsMade _ _ (says_one_of limits) (λ which is.
    says_then _ IsMade _ _ says_number (λ most fits. says_give IsMade (Limit which most) (and_from (is_one_of limits which) (is_number most) is fits)))

says_optimization : Says IsMade optimization.derives
unfolding optimization is_made
says_optimization = says_then _ IsMade _ _ (says_one_of optimizations) (λ which is. says_give IsMade (Optimization which) is)

says_debug : Says IsMade debug.derives
unfolding debug is_made
says_debug = says_then _ IsMade _ _ (says_one_of debug_levels) (λ which is. says_give IsMade (Debug which) is)

if_policy : (a b : Bool) (kind : BlockKind) → (if a then Some blocks.Drop else (if b then Some blocks.Return else None)) ≡ Some kind → is_policy kind ≡ true
if_policy true b kind same = of_some (λ kind. is_policy kind ≡ true) blocks.Drop kind same refl
if_policy false true kind same = of_some (λ kind. is_policy kind ≡ true) blocks.Return kind same refl
if_policy false false kind same = absurd (cc)

policies : (text : List ℕ) (kind : BlockKind) → meaning_in block_policies text ≡ Some kind → is_policy kind ≡ true
unfolding block_policies
policies text kind same = if_policy (bytes_eq text (codes "drop")) (bytes_eq text (codes "return")) kind same

says_block_policy : Says IsMade block_policy.derives
unfolding block_policy is_made
says_block_policy = says_then _ IsMade _ _ (says_word_as _ (meaning_in block_policies) policies) (λ kind is. says_give IsMade (BlockPolicy kind) is)

says_state_policy : Says IsMade state_policy.derives
unfolding state_policy is_made
says_state_policy = says_then anything IsMade _ _ (says_any _) (λ bound said. says_give IsMade (StatePolicy bound) refl)

says_ruleset_optimization : Says IsMade ruleset_optimization.derives
unfolding ruleset_optimization is_made
says_ruleset_optimization = says_then anything IsMade _ _ (says_any _) (λ level said. says_give IsMade (RulesetOptimization level) refl)

says_reassemble : Says IsMade reassemble.derives
unfolding reassemble is_made
says_reassemble = says_then anything IsMade _ _ (says_any _) (λ yes said.
    says_then anything IsMade _ _
    (says_chosen anything _ _ _ (says_then anything anything _ _ (says_any _) (λ part more. says_give anything true tt)) (says_give anything false tt))
    (λ no_df more. says_give IsMade (Reassemble yes no_df) refl))

says_set_behind : (which : SetWord) → Says (All IsMadeLine) (set_behind which).derives
unfolding set_behind
says_set_behind words.Skip = says_then anything (All IsMadeLine) _ _ (says_any _) (λ on said. says_list_of IsMadeLine (line skip) (says_line skip says_skip))
says_set_behind words.BlockPolicy = says_one_line block_policy says_block_policy
says_set_behind words.StatePolicy = says_one_line state_policy says_state_policy
says_set_behind words.RulesetOptimization = says_one_line ruleset_optimization says_ruleset_optimization
says_set_behind words.Timeout = says_list_of IsMadeLine (line timeout) (says_line timeout says_timeout)
says_set_behind words.Limit = says_list_of IsMadeLine (line limit) (says_line limit says_limit)
says_set_behind words.Optimization = says_one_line optimization says_optimization
says_set_behind words.Debug = says_one_line debug says_debug
says_set_behind words.Reassemble = says_one_line reassemble says_reassemble
says_set_behind words.LogInterface = says_one_line log_interface says_log_interface
says_set_behind words.Fingerprints = says_one_line fingerprints says_fingerprints

says_setting : Says (All IsMadeLine) setting.derives
unfolding setting
says_setting = says_then anything (All IsMadeLine) _ _ (says_any _) (λ which said. says_set_behind which)

-- the lines of a declaration
abbrev LinesMade : Decl → Type 0
LinesMade (decls.Set lines) = All IsMadeLine lines
LinesMade (decls.Table form) = Unit {0}
LinesMade (decls.Queue queue) = Unit {0}

given_is : {A : Type 0} (offered : Option A) (start : Symbols) (value : A) (rest : Symbols) → Given offered start value rest → offered ≡ Some value
given_is offered start value rest (given is) = is

behind_made : (which : DeclWord) (place : Place) (start : Symbols) (decl : Decl) (rest : Symbols) → are_file_symbols start ≡ true
    → (decl_behind which place).derives start decl rest → LinesMade decl
unfolding decl_behind
behind_made firsts.Set place start decl rest file parts =
    of_some LinesMade (decls.Set parts.part) decl (given_is _ _ _ _ parts.back) (says_setting.each start parts.part parts.between file parts.front).holds
behind_made firsts.Table place start decl rest file parts = of_some LinesMade (decls.Table parts.part) decl (given_is _ _ _ _ parts.back) tt
behind_made firsts.Queue place start decl rest file parts = of_some LinesMade (decls.Queue parts.part) decl (given_is _ _ _ _ parts.back) tt

pub decl_made : (body : Bool) (place : Place) (start : Symbols) (decl : Decl) (rest : Symbols) → are_file_symbols start ≡ true
    → (declaration body place).derives start decl rest → LinesMade decl
unfolding declaration
decl_made body place start decl rest file parts =
    let bare = (says_given anything _ (λ value same. tt)).each start parts.part parts.between file parts.front in
    let word = (says_any _).each parts.between parts.back.part parts.back.between bare.left parts.back.front in
    behind_made parts.back.part place parts.back.between decl rest word.left parts.back.back

symbol_file : (kind : TokenKind) (text : List ℕ) → list_all is_string_byte text ≡ true → is_file_symbol (symbol_of_kind kind text) ≡ true
symbol_file kinds.Word text file = file
symbol_file kinds.Quoted text file = file
symbol_file kinds.Sign text file = refl
symbol_file kinds.Newline text file = refl

symbols_file : (tokens : List Token) → are_file_tokens tokens ≡ true → are_file_symbols (symbols tokens) ≡ true
symbols_file [] file = refl
symbols_file (token ∷ rest) file =
    let p = and_parts (is_file_token token) (are_file_tokens rest) file in
    and_from (is_file_symbol (symbol_of_kind token.kind token.text)) (are_file_symbols (symbols rest)) (symbol_file token.kind token.text p.0) (symbols_file rest p.1)

-- each line of a declaration of a file is read back
pub declared_lines_read_back : (values : List ℕ → Option (List ℕ)) (place : Place) (tokens : List Token) (body : Bool) (lines : List OptionLine)
    → are_file_tokens tokens ≡ true → IsDecl tokens body (decls.Set lines) → All (λ shown. ReadsAs values place shown.text (decls.Set (shown ∷ []))) lines
declared_lines_read_back values place tokens body lines file is = λ k d below.
    let made = decl_made body (place_of tokens) (symbols tokens) (decls.Set lines) [] (symbols_file tokens file) is k d below in
    let back = lines_read_back values place made.form made.made in
    subst (λ (shown : OptionLine). ReadsAs values place shown.text (decls.Set (shown ∷ []))) (sym made.shows) back
