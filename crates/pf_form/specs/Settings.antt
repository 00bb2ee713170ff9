-- `set` of a rule, `scrub`, `tos` and `prio` (pf.conf(5), GRAMMAR, `setopts`, `scrubopts`, `tos`, and PARAMETERS). Each part of
-- `set` stands once in the rule, and each of `scrub` once in its brackets.
use Rattle.std.specs.Prelude.{ℕ, Bool, true, false, ◌&&◌, ◌+◌, ◌*◌, ◌-◌, ◌==◌, not, nat_le, List, [], ◌∷◌, length, drop, take, Option, Some, None, is_none, codes, if◌then◌else◌}
use Rattle.std.specs.Option.{option_or}
use Rattle.std.specs.List.{list_all}
use Rattle.std.specs.Str.{bytes_eq}
use Rattle.pf_base.specs.Decimal.{decimal_of}
use Rattle.pf_parts.specs.Defaults.{no_scrub}
use Rattle.pf_parts.specs.declared.params.Prios.{Prios}
use Rattle.pf_parts.specs.declared.params.Queues.{Queues}
use Rattle.pf_parts.specs.declared.params.Scrub.{Scrub}
use Rattle.pf_syntax.specs.Grammar.{Grammar, ◌>>=◌, give, sign, word, on_sign, where_next}
use Rattle.pf_syntax.specs.Words.{Keyword, key, keyword, meaning_in, name, number, only_where, perhaps_sign, word_as}
use Rattle.pf_syntax.specs.Lists.{at_sign, in_brackets}
use Rattle.pf_form.specs.declared.setting.ReadSet.{ReadSet}
use Rattle.pf_form.specs.declared.keyword.SetWord.{SetWord}
use Rattle.pf_form.specs.declared.keyword.SetWord.TheVariants as sets
use Rattle.pf_form.specs.declared.keyword.ScrubWord.{ScrubWord}
use Rattle.pf_form.specs.declared.keyword.ScrubWord.TheVariants as scrubs

-- what a hexadecimal digit stands for
abbrev pub digit_of : ℕ → Option ℕ
digit_of byte =
    if nat_le 48 byte && nat_le byte 57 then Some (byte - 48)
    else if nat_le 97 byte && nat_le byte 102 then Some (byte - 87)
    else if nat_le 65 byte && nat_le byte 70 then Some (byte - 55)
    else None

abbrev pub two_digits : Option ℕ → Option ℕ → Option ℕ
two_digits None low = None
two_digits (Some high) None = None
two_digits (Some high) (Some low) = Some (16 * high + low)

-- one or two hexadecimal digits
abbrev pub hex_of : List ℕ → Option ℕ
hex_of [] = None
hex_of (low ∷ []) = digit_of low
hex_of (high ∷ low ∷ []) = two_digits (digit_of high) (digit_of low)
hex_of (first ∷ second ∷ third ∷ rest) = None

-- behind `0x`
abbrev pub hex_tos : List ℕ → Option ℕ
hex_tos text = if bytes_eq (take 2 text) (codes "0x") then hex_of (drop 2 text) else None

unfoldable pub tos_words : List (Keyword ℕ)
tos_words = key (codes "lowdelay") 16 ∷ key (codes "throughput") 8 ∷ key (codes "reliability") 4 ∷ []

-- a decimal number to 255, `0x` and one or two hexadecimal digits, or a name
unfoldable pub tos_of : List ℕ → Option ℕ
tos_of text = option_or (decimal_of 255 text) (option_or (hex_tos text) (meaning_in tos_words text))

abbrev pub tos : Grammar ℕ
tos = word_as tos_of

abbrev pub prio : Grammar ℕ
prio = number 0 7

-- `NAME | "(" NAME [","] NAME ")"` behind `queue`
unfoldable pub queues : Grammar Queues
queues = on_sign (codes "(") (do
  first ← name
  comma ← perhaps_sign (codes ",")
  second ← name
  closed ← sign (codes ")")
  give (record { first = first; second = Some second })) (do
    first ← name
    give (record { first = first; second = None }))

-- `N | "(" N [","] N ")"` behind `prio` of `set`
unfoldable pub prios : Grammar Prios
prios = on_sign (codes "(") (do
  first ← prio
  comma ← perhaps_sign (codes ",")
  second ← prio
  closed ← sign (codes ")")
  give (record { first = first; second = Some second })) (do
    first ← prio
    give (record { first = first; second = None }))

unfoldable pub set_words : List (Keyword SetWord)
set_words = key (codes "queue") sets.Queue ∷ key (codes "prio") sets.Prio ∷ key (codes "tos") sets.Tos ∷ []

unfoldable pub set_behind : SetWord → ReadSet → Grammar ReadSet
set_behind sets.Queue before = do
  once ← only_where (is_none before.queue)
  value ← queues
  give (record before { queue = Some value })
set_behind sets.Prio before = do
  once ← only_where (is_none before.prio)
  value ← prios
  give (record before { prio = Some value })
set_behind sets.Tos before = do
  once ← only_where (is_none before.tos)
  value ← tos
  give (record before { tos = Some value })

unfoldable pub set_part : ReadSet → Grammar ReadSet
set_part before = do
  word ← keyword set_words
  set_behind word before

-- `par | "(" par { [","] par } ")"` behind `set`
unfoldable pub settings : ReadSet → Grammar ReadSet
settings before = where_next (at_sign (codes "(")) (in_brackets set_part before) (set_part before)

unfoldable pub scrub_words : List (Keyword ScrubWord)
scrub_words =
    key (codes "no-df") scrubs.NoDf ∷ key (codes "random-id") scrubs.RandomId ∷ key (codes "reassemble") scrubs.Reassemble
    ∷ key (codes "min-ttl") scrubs.MinTtl ∷ key (codes "max-mss") scrubs.MaxMss ∷ []

unfoldable pub scrub_behind : ScrubWord → Scrub → Grammar Scrub
scrub_behind scrubs.NoDf before = do
  once ← only_where (not before.no_df)
  give (record before { no_df = true })
scrub_behind scrubs.RandomId before = do
  once ← only_where (not before.random_id)
  give (record before { random_id = true })
scrub_behind scrubs.Reassemble before = do
  once ← only_where (not before.reassemble_tcp)
  tcp ← word (codes "tcp")
  give (record before { reassemble_tcp = true })
scrub_behind scrubs.MinTtl before = do
  once ← only_where (is_none before.min_ttl)
  n ← number 0 255
  give (record before { min_ttl = Some n })
scrub_behind scrubs.MaxMss before = do
  once ← only_where (is_none before.max_mss)
  n ← number 0 65535
  give (record before { max_mss = Some n })

unfoldable pub scrub_part : Scrub → Grammar Scrub
scrub_part before = do
  word ← keyword scrub_words
  scrub_behind word before

-- `"(" sc { [","] sc } ")"` behind `scrub`
unfoldable pub scrub : Grammar Scrub
scrub = in_brackets scrub_part no_scrub

-- a packet stays as it is
abbrev pub is_no_scrub : Scrub → Bool
is_no_scrub scrub = not scrub.no_df && not scrub.random_id && not scrub.reassemble_tcp && is_none scrub.min_ttl && is_none scrub.max_mss
