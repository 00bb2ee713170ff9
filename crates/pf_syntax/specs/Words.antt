-- Keywords, names, words and numbers (pf.conf(5), GRAMMAR): what one symbol says.
use Rattle.std.specs.Prelude.{ℕ, Bool, true, false, ◌&&◌, ◌||◌, not, ◌==◌, nat_le, is_some, List, [], ◌∷◌, length, drop, take, Option, Some, None, codes, if◌then◌else◌}
use Rattle.std.specs.List.{list_all}
use Rattle.std.specs.Option.{option_and_then}
use Rattle.std.specs.Str.{bytes_eq}
use Rattle.pf_base.specs.Decimal.{decimal_of}
use Rattle.pf_syntax.specs.Symbols.{Symbol, Symbols, bare, quoted, mark, line_end, next_is}
use Rattle.pf_syntax.specs.Grammar.{Grammar, symbol, from, give, ◌>>=◌, on_word, on_sign}

-- no grammar: nothing stands here
abbrev pub refuse : {A : Type 0} → Grammar A
refuse = from None

-- nothing is taken, and what follows may stand only where this holds
abbrev pub only_where : Bool → Grammar (Unit {0})
only_where holds = from (if holds then Some tt else None)

-- a word without quotes
abbrev pub bare_text : Symbol → Option (List ℕ)
bare_text (bare text) = Some text
bare_text (quoted text) = None
bare_text (mark text) = None
bare_text line_end = None

abbrev pub any_word : Grammar (List ℕ)
any_word = symbol bare_text

-- what a bare word stands for
abbrev pub word_as : {A : Type 0} → (List ℕ → Option A) → Grammar A
word_as means = symbol (λ next. option_and_then means (bare_text next))

-- may stand between quotes as it is: neither a quote nor a backslash
abbrev pub is_quotable : ℕ → Bool
is_quotable byte = not (byte == 34) && not (byte == 92)

-- a name has 1 to 63 bytes, none of which is `"` or a backslash
abbrev pub is_name : List ℕ → Bool
is_name text = nat_le 1 (length text) && nat_le (length text) 63 && list_all is_quotable text

abbrev pub name_where : Bool → List ℕ → Option (List ℕ)
name_where true text = Some text
name_where false text = None

-- a name: a word or a string
unfoldable pub name_of : Symbol → Option (List ℕ)
name_of (bare text) = name_where (is_name text) text
name_of (quoted text) = name_where (is_name text) text
name_of (mark text) = None
name_of line_end = None

abbrev pub name : Grammar (List ℕ)
name = symbol name_of

-- a decimal number in a range
abbrev pub in_range : ℕ → Option ℕ → Option ℕ
in_range least None = None
in_range least (Some n) = if nat_le least n then Some n else None

abbrev pub number : ℕ → ℕ → Grammar ℕ
number least most = word_as (λ word. in_range least (decimal_of most word))

-- one of the keywords of a table, as what the table says of it
pub record Keyword (A : Type 0) : Type 0 where
  pub word : List ℕ
  pub stands_for : A

abbrev pub key : {A : Type 0} → List ℕ → A → Keyword A
key word stands_for = record { word = word; stands_for = stands_for }

abbrev pub meaning_in : {A : Type 0} → List (Keyword A) → List ℕ → Option A
meaning_in [] word = None
meaning_in (entry ∷ table) word = if bytes_eq word entry.word then Some entry.stands_for else meaning_in table word

abbrev pub keyword : {A : Type 0} → List (Keyword A) → Grammar A
keyword table = word_as (meaning_in table)

-- whether this word stands here; it is taken where it does
abbrev pub perhaps_word : List ℕ → Grammar Bool
perhaps_word text = on_word text (give true) (give false)

-- whether this sign stands here; it is taken where it does
abbrev pub perhaps_sign : List ℕ → Grammar Bool
perhaps_sign text = on_sign text (give true) (give false)

-- one of these keywords stands next
abbrev pub is_key : {A : Type 0} → List (Keyword A) → Symbol → Bool
is_key table next = is_some (option_and_then (meaning_in table) (bare_text next))

abbrev pub at_key : {A : Type 0} → List (Keyword A) → Symbols → Bool
at_key table = next_is (is_key table)
