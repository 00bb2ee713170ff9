-- Tests of ports, users and groups, and ICMP types (pf.conf(5), GRAMMAR, `port`, `user`, `group`, `icmp-type`).
use Rattle.std.specs.Prelude.{ℕ, Bool, ◌||◌, List, [], ◌∷◌, Option, Some, None, position, take, drop, suc, ◌==◌, codes}
use Rattle.pf_base.specs.declared.kind.Family.{Family}
use Rattle.pf_ops.specs.declared.operator.OpKind.{OpKind}
use Rattle.pf_ops.specs.declared.operator.OpKind.TheVariants.{Equal, Other, Below, UpTo, Above, From, Within, Between, Outside}
use Rattle.pf_syntax.specs.Symbols.{Symbols, next_is, next_are, is_mark}
use Rattle.pf_syntax.specs.Grammar.{Grammar, ◌>>=◌, give, sign, on_sign, on_word, where_next}
use Rattle.pf_syntax.specs.Words.{any_word, refuse}
use Rattle.pf_syntax.specs.declared.form.OpItem.{OpItem}
use Rattle.pf_syntax.specs.declared.form.IcmpItem.{IcmpItem}
use Rattle.pf_syntax.specs.declared.form.TargetWords.{TargetWords}

abbrev pub op_item : OpKind → List ℕ → List ℕ → OpItem
op_item kind low high = record { kind = kind; low = low; high = high }

-- a word with a colon is cut at the first one
abbrev pub cut_at : List ℕ → Option ℕ → OpItem
cut_at word None = op_item Equal word []
cut_at word (Some i) = op_item Within (take i word) (drop (suc i) word)

-- a word alone is `= n`, or `a:b`
abbrev pub word_op : List ℕ → OpItem
word_op word = cut_at word (position (λ byte. byte == 58) word)

-- `"=" | "!" "=" | "<" | "<" "=" | ">" | ">" "="`
unfoldable pub operator : Grammar OpKind
operator =
    on_sign (codes "=") (give Equal)
    (on_sign (codes "!") (do
      equal ← sign (codes "=")
      give Other)
    (on_sign (codes "<") (on_sign (codes "=") (give UpTo) (give Below))
    (on_sign (codes ">") (on_sign (codes "=") (give From) (give Above)) refuse)))

-- two signs stand next
abbrev pub at_signs : List ℕ → List ℕ → Symbols → Bool
at_signs first second = next_are (is_mark first) (is_mark second)

-- two signs and a word, behind a low end
abbrev pub high_behind : OpKind → List ℕ → List ℕ → List ℕ → Grammar OpItem
high_behind kind first second low = do
  one ← sign first
  two ← sign second
  high ← any_word
  give (op_item kind low high)

-- `word | word ">" "<" word | word "<" ">" word`
unfoldable pub word_test : Grammar OpItem
word_test = do
  low ← any_word
  where_next (at_signs (codes ">") (codes "<")) (high_behind Between (codes ">") (codes "<") low)
      (where_next (at_signs (codes "<") (codes ">")) (high_behind Outside (codes "<") (codes ">") low)
      (give (word_op low)))

-- `sign word`
unfoldable pub sign_test : Grammar OpItem
sign_test = do
  kind ← operator
  low ← any_word
  give (op_item kind low [])

-- the signs that an operator begins with
abbrev pub at_operator : Symbols → Bool
at_operator = next_is (λ symbol. is_mark (codes "=") symbol || is_mark (codes "!") symbol || is_mark (codes "<") symbol || is_mark (codes ">") symbol)

-- `word | sign word | word ">" "<" word | word "<" ">" word`
unfoldable pub op : Grammar OpItem
op = where_next at_operator sign_test word_test

-- `word ["code" word]`
unfoldable pub icmp_type : Family → Grammar IcmpItem
icmp_type family = do
  word ← any_word
  on_word (codes "code") (do
    code ← any_word
    give (record { family = family; word = word; code = Some code }))
      (give (record { family = family; word = word; code = None }))

-- `word ["port" word]` behind `nat-to` and `rdr-to` (pf.conf(5), TRANSLATION)
unfoldable pub target : Grammar TargetWords
target = do
  addr ← any_word
  on_word (codes "port") (do
    port ← any_word
    give (record { addr = addr; port = Some port }))
      (give (record { addr = addr; port = None }))
