-- Rates and bursts of queues (pf.conf(5), GRAMMAR, `bandwidth-spec`, and QUEUEING).
use Rattle.std.specs.Prelude.{ℕ, ◌*◌, ◌-◌, List, [], ◌∷◌, length, take, drop, Option, Some, None, codes, if◌then◌else◌}
use Rattle.std.specs.Option.{option_map}
use Rattle.std.specs.Str.{bytes_eq}
use Rattle.pf_base.specs.Decimal.{decimal_of}
use Rattle.pf_syntax.specs.Grammar.{Grammar, ◌>>=◌, give, word, on_word}
use Rattle.pf_syntax.specs.Words.{Keyword, key, meaning_in, word_as}
use Rattle.pf_decl.specs.declared.form.Bandwidth.{Bandwidth}
use Rattle.pf_decl.specs.declared.form.Burst.{Burst}

-- a word without its last bytes, and these
abbrev pub without_last : ℕ → List ℕ → List ℕ
without_last count word = take (length word - count) word

abbrev pub last_bytes : ℕ → List ℕ → List ℕ
last_bytes count word = drop (length word - count) word

-- a thousand, a million, a thousand million bits per second
unfoldable pub units : List (Keyword ℕ)
units = key (codes "K") 1000 ∷ key (codes "M") 1000000 ∷ key (codes "G") 1000000000 ∷ []

abbrev pub in_unit : Option ℕ → List ℕ → Option ℕ
in_unit None word = decimal_of 4294967295 word
in_unit (Some unit) word = option_map (λ n. n * unit) (decimal_of 4294967295 (without_last 1 word))

-- N to 4294967295, and in the same word a unit or none: bits per second
unfoldable pub rate_of : List ℕ → Option ℕ
rate_of word = in_unit (meaning_in units (last_bytes 1 word)) word

-- N to 4294967295, and in the same word `ms` or nothing
unfoldable pub milliseconds_of : List ℕ → Option ℕ
milliseconds_of word = decimal_of 4294967295 (if bytes_eq (last_bytes 2 word) (codes "ms") then without_last 2 word else word)

abbrev pub rate : Grammar ℕ
rate = word_as rate_of

abbrev pub milliseconds : Grammar ℕ
milliseconds = word_as milliseconds_of

-- `["burst" RATE "for" MS]`
unfoldable pub burst : Grammar (Option Burst)
burst = on_word (codes "burst") (do
  bits ← rate
  for ← word (codes "for")
  ms ← milliseconds
  give (Some (record { rate = bits; ms = ms }))) (give None)

-- `RATE ["burst" RATE "for" MS]`
unfoldable pub bandwidth : Grammar Bandwidth
bandwidth = do
  bits ← rate
  first ← burst
  give (record { rate = bits; burst = first })
