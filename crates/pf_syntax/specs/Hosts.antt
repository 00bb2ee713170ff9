-- Hosts (pf.conf(5), GRAMMAR, `hosts` and `host`).
use Rattle.std.specs.Prelude.{ℕ, Bool, true, false, List, [], ◌∷◌, Option, Some, None, take, codes, if◌then◌else◌}
use Rattle.std.specs.Str.{bytes_eq}
use Rattle.pf_syntax.specs.Grammar.{Grammar, ◌>>=◌, from, give, sign, on_sign, on_word}
use Rattle.pf_syntax.specs.Words.{any_word, perhaps_sign, word_as}
use Rattle.pf_syntax.specs.declared.form.HostItem.{HostItem}
use Rattle.pf_syntax.specs.declared.form.HostForm.{HostForm}
use Rattle.pf_syntax.specs.declared.form.HostForm.TheVariants.{Any, Word, Range, Dynamic, Table}

-- a lone `-` is no host and no end of a range
abbrev pub host_text : List ℕ → Option (List ℕ)
host_text word = if bytes_eq word (codes "-") then None else Some word

abbrev pub host_word : Grammar (List ℕ)
host_word = word_as host_text

abbrev pub word_form : List ℕ → Option (List ℕ) → HostForm
word_form word mask = Word word mask

abbrev pub range_form : List ℕ → List ℕ → HostForm
range_form low high = Range low high

-- the first 63 bytes of a word, which has at least one
abbrev pub cut_name : List ℕ → Option (List ℕ)
cut_name [] = None
cut_name (byte ∷ bytes) = Some (take 63 (byte ∷ bytes))

-- the name of a table between `<` and `>`, behind the `<`, cut to 63 bytes
unfoldable pub table_name : Grammar (List ℕ)
table_name = do
  word ← any_word
  closed ← sign (codes ">")
  from (cut_name word)

-- `word ")"`
unfoldable pub dynamic : Grammar HostForm
dynamic = do
  word ← any_word
  closed ← sign (codes ")")
  give (Dynamic word)

-- `word ["/" word] | word "-" word`
unfoldable pub address : Grammar HostForm
address = do
  low ← host_word
  on_sign (codes "/") (do
    mask ← any_word
    give (word_form low (Some mask)))
      (on_word (codes "-") (do
        high ← host_word
        give (range_form low high))
      (give (word_form low None)))

-- `"(" word ")" | "<" word ">" | word ["/" word] | word "-" word`
unfoldable pub plain_host : Grammar HostForm
plain_host = on_sign (codes "(") dynamic (on_sign (codes "<") (do
  table ← table_name
  give (Table table)) address)

-- `"any" | ["!"] plain`
unfoldable pub host : Grammar HostItem
host = on_word (codes "any") (give (record { negated = false; what = Any })) (do
  negated ← perhaps_sign (codes "!")
  what ← plain_host
  give (record { negated = negated; what = what }))
