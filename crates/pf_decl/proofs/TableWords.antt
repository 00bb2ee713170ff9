-- The words in the braces of the tables that tokens declare, production by production.
use Rattle.std.proofs.Common.{◌≡◌, ℕ, Bool, true, List, [], Option, Some, None, refl, subst, ◌∙◌}
use Rattle.std.specs.List.{list_all}
use Rattle.std.proofs.lemmas.Bool.{and_from}
use Rattle.std.proofs.lemmas.List.Folds.{list_all-append}
use Rattle.pf_base.specs.declared.fault.Place.{Place}
use Rattle.pf_token.specs.declared.token.Token.{Token}
use Rattle.pf_syntax.specs.Hosts.{table_name}
use Rattle.pf_syntax.specs.Symbols.{Symbol, bare, quoted, mark, line_end, symbols}
use Rattle.pf_syntax.specs.Words.{any_word, bare_text}
use Rattle.pf_decl.specs.declared.form.Decl.{Decl}
use Rattle.pf_decl.specs.declared.form.Decl.TheVariants as decls
use Rattle.pf_decl.specs.declared.form.TableForm.{TableForm}
use Rattle.pf_decl.specs.declared.form.TableItem.{TableItem}
use Rattle.pf_decl.specs.declared.keyword.DeclWord.{DeclWord}
use Rattle.pf_decl.specs.declared.keyword.DeclWord.TheVariants.{Set, Table, Queue}
use Rattle.pf_decl.specs.declared.keyword.TableWord.{TableWord}
use Rattle.pf_decl.specs.declared.keyword.TableWord.TheVariants.{Persist, Const, Counters, File}
use Rattle.pf_decl.specs.Bytes.{entries_in, entries_of, entry_has_bytes, has_bytes, mask_has_bytes, symbol_has_bytes, symbols_have_bytes, text_has_bytes}
use Rattle.pf_decl.specs.Decls.{IsDecl, decl_behind, declaration, place_of}
use Rattle.pf_decl.specs.Tables.{braces, entries, entry, joined, mask, table, table_behind, table_option, table_part}
use Rattle.pf_decl.proofs.Keeping.{Anything, HoldsIn, Keeps, Says, all_keep, any_keeps, chosen_keeps, keeps_says, made_says, none_keeps, on_keeps, one_keeps, perhaps_keeps, row, then_keeps, then_says, until_keeps, value_keeps}

-- a word, which has a byte
abbrev Full : List ℕ → Type 0
Full word = has_bytes word ≡ true

word_full : (symbol : Symbol) (value : List ℕ) → symbol_has_bytes symbol ≡ true → bare_text symbol ≡ Some value → Full value
word_full (bare text) value full is = let P : Option (List ℕ) → Type 0 = HoldsIn Full in subst P is full
word_full (quoted text) value full is = absurd (cc)
word_full (mark text) value full is = absurd (cc)
word_full line_end value full is = absurd (cc)

word_keeps : Keeps Full any_word.derives
word_keeps = one_keeps word_full

mask_keeps : Keeps (λ bits. text_has_bytes bits ≡ true) mask.derives
unfolding mask
mask_keeps = on_keeps (then_keeps word_keeps (λ bits full. value_keeps full)) (value_keeps refl)

entry_word_keeps : Keeps (λ item. entry_has_bytes item ≡ true) entry.derives
unfolding entry
entry_word_keeps = row perhaps_keeps (λ negated. then_keeps word_keeps (λ word full. then_keeps mask_keeps (λ bits more. value_keeps full)))

entry_mask_keeps : Keeps (λ item. mask_has_bytes item ≡ true) entry.derives
unfolding entry
entry_mask_keeps = row perhaps_keeps (λ negated. then_keeps word_keeps (λ word full. then_keeps mask_keeps (λ bits more. value_keeps more)))

table_name_keeps : Keeps Anything table_name.derives
unfolding table_name
table_name_keeps = row any_keeps (λ word. row any_keeps (λ closed. none_keeps))

-- what holds of each entry holds of each entry in the braces of a table
module _ (test : TableItem → Bool) (each : Keeps (λ item. test item ≡ true) entry.derives) where
  abbrev AllHave : Option (List TableItem) → Type 0
  AllHave items = list_all test (entries_in items) ≡ true

  abbrev TableHas : TableForm → Type 0
  TableHas form = AllHave form.items

  joined_has : (items : Option (List TableItem)) (more : List TableItem) → AllHave items → list_all test more ≡ true → list_all test (joined items more) ≡ true
  joined_has None more before behind = behind
  joined_has (Some items) more before behind = list_all-append test items more ∙ and_from (list_all test items) (list_all test more) before behind

  entries_keep : Keeps (λ items. list_all test items ≡ true) entries.derives
  unfolding entries
  entries_keep = chosen_keeps (row any_keeps (λ opened. row any_keeps (λ closed. value_keeps refl))) (all_keep test entry each)

  braces_keep : (before : TableForm) → TableHas before → Keeps TableHas (braces before).derives
  braces_keep before holds = then_keeps entries_keep (λ more full. value_keeps (joined_has before.items more holds full))

  behind_keeps : (word : TableWord) (before : TableForm) → TableHas before → Keeps TableHas (table_behind word before).derives
  unfolding table_behind
  behind_keeps Persist before holds = row none_keeps (λ once. value_keeps holds)
  behind_keeps Const before holds = row none_keeps (λ once. value_keeps holds)
  behind_keeps Counters before holds = row none_keeps (λ once. value_keeps holds)
  behind_keeps File before holds = row any_keeps (λ one. value_keeps holds)

  option_keeps : (before : TableForm) → TableHas before → Keeps TableHas (table_option before).derives
  option_keeps before holds = row any_keeps (λ word. behind_keeps word before holds)

  part_keeps : (before : TableForm) → TableHas before → Keeps TableHas (table_part before).derives
  unfolding table_part
  part_keeps before holds = chosen_keeps (braces_keep before holds) (option_keeps before holds)

  table_keeps : Keeps TableHas table.derives
  unfolding table
  table_keeps = row any_keeps (λ opened. row table_name_keeps (λ name. until_keeps part_keeps refl))

  abbrev DeclHas : Decl → Type 0
  DeclHas (decls.Set lines) = Unit {0}
  DeclHas (decls.Table form) = TableHas form
  DeclHas (decls.Queue queue) = Unit {0}

  decl_behind_says : (word : DeclWord) (place : Place) → Says DeclHas (decl_behind word place).derives
  unfolding decl_behind
  decl_behind_says Set place = made_says (λ lines. tt)
  decl_behind_says Table place = keeps_says (then_keeps table_keeps (λ form holds. value_keeps holds))
  decl_behind_says Queue place = made_says (λ form. tt)

  declaration_says : (body : Bool) (place : Place) → Says DeclHas (declaration body place).derives
  unfolding declaration
  declaration_says body place = then_says {First = Anything} none_keeps (λ bare_one anything. then_says {First = Anything} any_keeps (λ word something. decl_behind_says word place))

  declared_has : (tokens : List Token) (body : Bool) (form : TableForm) → symbols_have_bytes (symbols tokens) ≡ true → IsDecl tokens body (decls.Table form) → list_all test (entries_of form) ≡ true
  declared_has tokens body form full is = (declaration_says body (place_of tokens)).says (symbols tokens) (decls.Table form) [] full is

pub entry_words : (tokens : List Token) (body : Bool) (form : TableForm) → symbols_have_bytes (symbols tokens) ≡ true → IsDecl tokens body (decls.Table form) → list_all entry_has_bytes (entries_of form) ≡ true
entry_words = declared_has entry_has_bytes entry_word_keeps

pub mask_words : (tokens : List Token) (body : Bool) (form : TableForm) → symbols_have_bytes (symbols tokens) ≡ true → IsDecl tokens body (decls.Table form) → list_all mask_has_bytes (entries_of form) ≡ true
mask_words = declared_has mask_has_bytes entry_mask_keeps
