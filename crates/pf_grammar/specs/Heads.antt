-- The heads of rules, and the kinds of blocks (pf.conf(5), GRAMMAR, `action`, `return`, `anchor-rule`).
use Rattle.std.specs.Prelude.{ℕ, Bool, true, false, not, List, [], ◌∷◌, Option, Some, None, codes}
use Rattle.pf_parts.specs.declared.block.BlockKind.{BlockKind}
use Rattle.pf_parts.specs.declared.block.BlockKind.TheVariants as kinds
use Rattle.pf_syntax.specs.Symbols.{Symbol, bare, quoted, mark, line_end, next_is}
use Rattle.pf_syntax.specs.Fault.{is_one_of}
use Rattle.pf_syntax.specs.Grammar.{Grammar, ◌>>=◌, give, sign, word, on_sign, where_next}
use Rattle.pf_syntax.specs.Words.{Keyword, key, keyword, name, at_key, number, only_where, perhaps_sign}
use Rattle.pf_form.specs.declared.form.Head.{Head}
use Rattle.pf_form.specs.declared.form.Head.TheVariants as heads
use Rattle.pf_grammar.specs.declared.keyword.HeadWord.{HeadWord}
use Rattle.pf_grammar.specs.declared.keyword.HeadWord.TheVariants.{Pass, Match, Block, Anchor, Antispoof, Load}
use Rattle.pf_grammar.specs.declared.keyword.KindWord.{KindWord}
use Rattle.pf_grammar.specs.declared.keyword.KindWord.TheVariants as words

unfoldable pub head_words : List (Keyword HeadWord)
head_words =
    key (codes "pass") Pass ∷ key (codes "match") Match ∷ key (codes "block") Block ∷ key (codes "anchor") Anchor
    ∷ key (codes "antispoof") Antispoof ∷ key (codes "load") Load ∷ []

unfoldable pub kind_words : List (Keyword KindWord)
kind_words =
    key (codes "drop") words.Drop ∷ key (codes "return") words.Return ∷ key (codes "return-rst") words.Reset
    ∷ key (codes "return-icmp") words.Icmp ∷ key (codes "return-icmp6") words.Icmp6 ∷ []

abbrev pub reset_with : ℕ → BlockKind
reset_with ttl = kinds.Rst ttl

abbrev pub icmp_with : ℕ → ℕ → BlockKind
icmp_with code code6 = kinds.Icmp code code6

-- `["(" "ttl" N ")"]` behind `return-rst`
unfoldable pub reset_kind : Grammar BlockKind
reset_kind = on_sign (codes "(") (do
  ttl ← word (codes "ttl")
  n ← number 0 255
  closed ← sign (codes ")")
  give (reset_with n)) (give (reset_with 0))

-- `")" | [","] N ")"` behind the first code
unfoldable pub second_code : ℕ → Grammar BlockKind
second_code code = on_sign (codes ")") (give (icmp_with code 4)) (do
  comma ← perhaps_sign (codes ",")
  code6 ← number 0 255
  closed ← sign (codes ")")
  give (icmp_with code code6))

-- `["(" N [[","] N] ")"]` behind `return-icmp`: codes 3 and 4 unless they are written
unfoldable pub icmp_kind : Grammar BlockKind
icmp_kind = on_sign (codes "(") (do
  code ← number 0 255
  second_code code) (give (icmp_with 3 4))

-- `["(" N ")"]` behind `return-icmp6`
unfoldable pub icmp6_kind : Grammar BlockKind
icmp6_kind = on_sign (codes "(") (do
  code6 ← number 0 255
  closed ← sign (codes ")")
  give (icmp_with 3 code6)) (give (icmp_with 3 4))

abbrev pub kind_behind : KindWord → Grammar BlockKind
kind_behind words.Drop = give kinds.Drop
kind_behind words.Return = give kinds.Return
kind_behind words.Reset = reset_kind
kind_behind words.Icmp = icmp_kind
kind_behind words.Icmp6 = icmp6_kind

-- `[kind]` behind `block`
unfoldable pub block_kind : Grammar (Option BlockKind)
block_kind = where_next (at_key kind_words) (do
  word ← keyword kind_words
  kind ← kind_behind word
  give (Some kind)) (give None)

-- the words that end the bare name of an anchor: those that can follow it
unfoldable pub words_behind_anchor : List (List ℕ)
words_behind_anchor =
    codes "in" ∷ codes "out" ∷ codes "log" ∷ codes "quick" ∷ codes "on" ∷ codes "inet" ∷ codes "inet6" ∷ codes "proto"
    ∷ codes "all" ∷ codes "from" ∷ codes "to" ∷ codes "user" ∷ codes "group" ∷ codes "flags" ∷ codes "icmp-type"
    ∷ codes "icmp6-type" ∷ codes "tos" ∷ codes "prio" ∷ codes "tagged" ∷ codes "tag" ∷ codes "no" ∷ codes "keep"
    ∷ codes "modulate" ∷ codes "synproxy" ∷ codes "set" ∷ codes "scrub" ∷ codes "allow-opts" ∷ codes "label"
    ∷ codes "nat-to" ∷ codes "rdr-to" ∷ []

-- a string is always the name, and a bare word that isn't one of those
abbrev pub is_anchor_name : Symbol → Bool
is_anchor_name (bare text) = not (is_one_of words_behind_anchor text)
is_anchor_name (quoted text) = true
is_anchor_name (mark text) = false
is_anchor_name line_end = false

-- `[NAME]` behind `anchor`: without a name there is a body
unfoldable pub anchor_head : Bool → Grammar Head
anchor_head body = where_next (next_is is_anchor_name) (do
  text ← name
  give (heads.Anchor (Some text) body)) (do
    needed ← only_where body
    give (heads.Anchor None body))
