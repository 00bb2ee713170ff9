-- What stands before the hosts of a rule is read as it was printed.
use Rattle.std.proofs.Common.{◌≡◌, ℕ, Bool, true, false, List, [], ◌∷◌, ◌++◌, Option, Some, None, refl, ap, sym, subst, arith, decimal}
use Rattle.std.specs.Prelude.{◌==◌, not, codes}
use Rattle.std.specs.List.{list_all}
use Rattle.std.specs.Option.{option_map}
use Rattle.std.proofs.lemmas.Bool.{and_parts, eqb-true, leb-true}
use Rattle.pf_base.specs.declared.kind.Family.{Family}
use Rattle.pf_base.specs.declared.kind.Family.TheVariants.{Inet, Inet6}
use Rattle.pf_decl.specs.ReadBack.{is_file_name}
use Rattle.pf_form.specs.Log.{log_first, log_option, log_options, log_part, log_words, logged, plain_log, quick_first}
use Rattle.pf_form.specs.Tests.{direction, family, iface, ifaces, protos}
use Rattle.pf_form.specs.declared.log.Logged.{Logged}
use Rattle.pf_grammar.specs.Heads.{block_kind, icmp_kind, kind_words, reset_kind, second_code}
use Rattle.pf_ops.specs.Words.{Entry, protocols}
use Rattle.pf_parts.specs.declared.block.BlockKind.{BlockKind}
use Rattle.pf_parts.specs.declared.block.BlockKind.TheVariants as blocks
use Rattle.pf_parts.specs.declared.direction.Direction.{Direction}
use Rattle.pf_parts.specs.declared.direction.Direction.TheVariants.{In, Out}
use Rattle.pf_parts.specs.declared.matching.IfTest.{IfTest}
use Rattle.pf_parts.specs.declared.matching.IfTest.TheVariants as tests
use Rattle.pf_parts.specs.declared.params.Log.{Log}
use Rattle.pf_syntax.specs.Grammar.{Grammar, give, where_next}
use Rattle.pf_syntax.specs.Lists.{at_sign, in_brackets}
use Rattle.pf_syntax.specs.Symbols.{Symbols, bare, is_mark, next_is}
use Rattle.pf_syntax.specs.Words.{is_name, name_of}
use Rattle.pf_reread.specs.Written.{IsWrittenLog, if_given, is_byte, is_written_iface, is_written_kind}
use Rattle.pf_reread.proofs.Chunks.{Chunk, bracket_glyphs, bracket_said, chunk_symbols, items}
use Rattle.pf_reread.proofs.Following.{as_read, begins, no_sign, no_word}
use Rattle.pf_reread.proofs.Glyphs.{Glyph, close, said, sign_apart, sign_close}
use Rattle.pf_reread.proofs.Rows.{Items, at_bracket, bracketed, brackets_read, ends_item, left_out, no_bracket, no_item, some_stands, stands}
use Rattle.pf_reread.proofs.RuleGlyphs.{chunk_if, direction_glyphs, family_glyphs, given, iface_glyphs, kind_glyphs, log_chunks, log_glyphs, name, not_glyphs, number, proto_glyphs, proto_word, to_chunk, where_so, word}
use Rattle.pf_reread.proofs.RuleTokens.{byte_small, words_pass}
use Rattle.pf_reread.proofs.Words.{in_range-decimal, number_is_name, name_back, name_no_mark, name_not_any}

-- the words that the parts of a rule begin with, from each part on
abbrev pub from_hosts : List (List ℕ)
from_hosts = codes "all" ∷ codes "from" ∷ []

abbrev pub from_proto : List (List ℕ)
from_proto = codes "proto" ∷ from_hosts

abbrev pub from_family : List (List ℕ)
from_family = codes "inet" ∷ codes "inet6" ∷ from_proto

abbrev pub from_iface : List (List ℕ)
from_iface = codes "on" ∷ from_family

abbrev pub from_quick : List (List ℕ)
from_quick = codes "quick" ∷ from_iface

abbrev pub from_log : List (List ℕ)
from_log = codes "log" ∷ from_quick

abbrev pub from_direction : List (List ℕ)
from_direction = codes "in" ∷ codes "out" ∷ from_log

-- the kind of a block
zero_or : (none : Bool) (ttl : ℕ) (rest : Symbols) → (ttl == 0) ≡ none → is_byte ttl ≡ true → next_is (is_mark (codes "(")) rest ≡ false
    → reset_kind.reads (said (where_so (not none) (sign_apart 40 ∷ close (bare (codes "ttl")) ∷ number ttl ∷ sign_close 41 ∷ [])) ++ rest) ≡ Some (blocks.Rst ttl, rest)
unfolding reset_kind
zero_or true ttl rest zero fits follows =
    let none : ttl ≡ 0 = eqb-true ttl 0 zero in
    rw follows (ap (λ n. as_read (blocks.Rst n) rest) (sym none))
zero_or false ttl rest zero fits follows = rw (in_range-decimal 0 255 ttl (omega arith) (leb-true ttl 255 fits) (byte_small ttl fits)) refl

pub kind_read : (kind : BlockKind) (rest : Symbols) → is_written_kind kind ≡ true → next_is (is_mark (codes "(")) rest ≡ false
    → block_kind.reads (said (kind_glyphs kind) ++ rest) ≡ Some (Some kind, rest)
unfolding block_kind kind_words icmp_kind second_code
kind_read blocks.Drop rest is follows = refl
kind_read blocks.Return rest is follows = refl
kind_read (blocks.Rst ttl) rest is follows = rw (zero_or (ttl == 0) ttl rest refl is follows) refl
kind_read (blocks.Icmp code code6) rest is follows =
    let p = and_parts (is_byte code) (is_byte code6) is in
    rw (
      in_range-decimal 0 255 code (omega arith) (leb-true code 255 p.0) (byte_small code p.0),
      in_range-decimal 0 255 code6 (omega arith) (leb-true code6 255 p.1) (byte_small code6 p.1),
    ) refl

-- the direction
pub direction_read : (way : Option Direction) (rest : Symbols) → begins from_log rest ≡ true → direction.reads (said (given direction_glyphs way) ++ rest) ≡ Some (way, rest)
unfolding direction
direction_read None rest follows = rw (no_word from_log (codes "in") rest follows refl, no_word from_log (codes "out") rest follows refl) refl
direction_read (Some In) rest follows = refl
direction_read (Some Out) rest follows = refl

-- items of brackets: a word where the test holds, and what is given
pub item_if : {A : Type 0} (part : A → Grammar A) (text : List ℕ) (value : Bool → A) → ((rest : Symbols) → ends_item rest ≡ true → (part (value false)).reads (bare text ∷ rest) ≡ Some (value true, rest))
    → (stands : Bool) (others : List (Option Symbols)) (after : A) → Items part (value stands) others after → Items part (value false) (option_map chunk_symbols (chunk_if stands text) ∷ others) after
item_if part text value reads true others after more = stands reads more
item_if part text value reads false others after more = left_out more

pub item_given : {A B : Type 0} (part : A → Grammar A) (chunk : B → Chunk) (test : B → Bool) (value : Option B → A)
    → ((given : B) (rest : Symbols) → test given ≡ true → ends_item rest ≡ true → (part (value None)).reads (chunk_symbols (chunk given) ++ rest) ≡ Some (value (Some given), rest))
    → (given : Option B) (others : List (Option Symbols)) (after : A) → if_given test given ≡ true → Items part (value given) others after
    → Items part (value None) (option_map chunk_symbols (option_map chunk given) ∷ others) after
item_given part chunk test value reads None others after is more = left_out more
item_given part chunk test value reads (Some given) others after is more = stands (λ rest follows. reads given rest is follows) more

-- where no item stands nothing changes
pub items_none : {A : Type 0} (part : A → Grammar A) (before after : A) (all : List (Option Symbols)) → Items part before all after → some_stands all ≡ false → before ≡ after
items_none part before after [] no_item none = refl
items_none part before after (None ∷ all) (left_out more) none = items_none part before after all more none
items_none part before after (Some symbols ∷ all) (stands reads more) none = absurd (cc)

-- the log
abbrev all_log : Bool → Log
all_log all = record plain_log { all = all }

abbrev matches_log : Bool → Bool → Log
matches_log all matches = record plain_log { all = all; matches = matches }

abbrev user_log : Bool → Bool → Bool → Log
user_log all matches user = record plain_log { all = all; matches = matches; user = user }

abbrev to_log : Bool → Bool → Bool → Option (List ℕ) → Log
to_log all matches user to = record plain_log { all = all; matches = matches; user = user; to = to }

log_items : (all matches user : Bool) (to : Option (List ℕ)) → if_given is_file_name to ≡ true
    → Items log_option plain_log (items (chunk_if all (codes "all") ∷ chunk_if matches (codes "matches") ∷ chunk_if user (codes "user") ∷ option_map to_chunk to ∷ [])) (to_log all matches user to)
unfolding log_option log_words log_part
log_items all matches user to is =
    item_if log_option (codes "all") all_log (λ rest follows. refl) all _ _
    (item_if log_option (codes "matches") (matches_log all) (λ rest follows. refl) matches _ _
    (item_if log_option (codes "user") (user_log all matches) (λ rest follows. refl) user _ _
    (item_given log_option to_chunk is_file_name (to_log all matches user) (λ iface rest named follows. rw (name_back iface named) refl) to _ _ is no_item)))

-- brackets or none
pub brackets_or_none : {A : Type 0} (part : A → Grammar A) (some : Bool) (before after : A) (all : List (Option Symbols)) (rest : Symbols) → some_stands all ≡ some
    → Items part before all after → next_is (is_mark (codes "(")) rest ≡ false
    → (where_next (at_sign (codes "(")) (in_brackets part before) (give before)).reads (bracketed all ++ rest) ≡ Some (after, rest)
brackets_or_none part true before after all rest some are follows = rw (at_bracket all rest some) (brackets_read part before after all are some rest)
brackets_or_none part false before after all rest none are follows =
    rw (no_bracket all none) (rw follows (ap (λ value. as_read value rest) (items_none part before after all are none)))

log_options_read : (log : Log) (rest : Symbols) → log.on ≡ true → if_given is_file_name log.to ≡ true → next_is (is_mark (codes "(")) rest ≡ false
    → log_options.reads (said (bracket_glyphs (log_chunks log)) ++ rest) ≡ Some (log, rest)
unfolding log_options
log_options_read log rest on is follows =
    let whole : to_log log.all log.matches log.user log.to ≡ log = ap (λ b. record log { on = b }) (sym on) in
    rw (bracket_said (log_chunks log))
    (brackets_or_none log_option (some_stands (items (log_chunks log))) plain_log log (items (log_chunks log)) rest refl
    (subst (λ after. Items log_option plain_log (items (log_chunks log)) after) whole (log_items log.all log.matches log.user log.to is)) follows)

abbrev pub quick_glyphs : Bool → List Glyph
quick_glyphs quick = where_so quick (word (codes "quick") ∷ [])

abbrev pub logged_as : Log → Bool → Logged
logged_as log quick = record { log = log; quick = quick }

abbrev read_logged : Logged → Symbols → Option (Logged × Symbols)
read_logged value rest = Some (value, rest)

logged_if : (on quick : Bool) (log : Log) (rest : Symbols) → log.on ≡ on → IsWrittenLog log → begins from_iface rest ≡ true
    → logged.reads (said (where_so on (word (codes "log") ∷ bracket_glyphs (log_chunks log))) ++ (said (quick_glyphs quick) ++ rest)) ≡ Some (logged_as log quick, rest)
unfolding logged log_first quick_first
logged_if true true log rest on is follows = rw (log_options_read log (bare (codes "quick") ∷ rest) on is.to refl) refl
logged_if true false log rest on is follows =
    rw (log_options_read log rest on is.to (no_sign from_iface (codes "(") rest follows refl), no_word from_iface (codes "quick") rest follows refl) refl
logged_if false true log rest on is follows =
    rw (no_word from_iface (codes "log") rest follows refl) (ap (λ one. read_logged (logged_as one true) rest) (sym (is.none on)))
logged_if false false log rest on is follows =
    rw (no_word from_iface (codes "log") rest follows refl, no_word from_iface (codes "quick") rest follows refl)
    (ap (λ one. read_logged (logged_as one false) rest) (sym (is.none on)))

pub logged_read : (log : Log) (quick : Bool) (rest : Symbols) → IsWrittenLog log → begins from_iface rest ≡ true
    → logged.reads (said (log_glyphs log) ++ (said (quick_glyphs quick) ++ rest)) ≡ Some (logged_as log quick, rest)
logged_read log quick rest is follows = logged_if log.on quick log rest refl is follows

-- the interface
abbrev pub iface_items : IfTest → List IfTest
iface_items tests.Any = []
iface_items (tests.On text negated) = tests.On text negated ∷ []

on_read : (negated : Bool) (text : List ℕ) (rest : Symbols) → is_file_name text ≡ true
    → ifaces.reads (said (word (codes "on") ∷ (not_glyphs negated ++ name text ∷ [])) ++ rest) ≡ Some (tests.On text negated ∷ [], rest)
unfolding ifaces iface
on_read true text rest is = rw (name_back text is) refl
on_read false text rest is = rw (name_no_mark text (codes "{"), name_not_any text, name_no_mark text (codes "!"), name_back text is) refl

no_iface : (rest : Symbols) → begins from_family rest ≡ true → ifaces.reads rest ≡ Some ([], rest)
unfolding ifaces
no_iface rest follows = rw (no_word from_family (codes "on") rest follows refl) refl

pub ifaces_read : (test : IfTest) (rest : Symbols) → is_written_iface test ≡ true → begins from_family rest ≡ true
    → ifaces.reads (said (iface_glyphs test) ++ rest) ≡ Some (iface_items test, rest)
ifaces_read tests.Any rest is follows = no_iface rest follows
ifaces_read (tests.On text negated) rest is follows = on_read negated text rest is

-- the family
pub family_read : (inet : Option Family) (rest : Symbols) → begins from_proto rest ≡ true → family.reads (said (given family_glyphs inet) ++ rest) ≡ Some (inet, rest)
unfolding family
family_read None rest follows = rw (no_word from_proto (codes "inet") rest follows refl, no_word from_proto (codes "inet6") rest follows refl) refl
family_read (Some Inet) rest follows = refl
family_read (Some Inet6) rest follows = refl

-- the protocol
abbrev pub proto_items : Option ℕ → List (List ℕ)
proto_items None = []
proto_items (Some proto) = proto_word proto ∷ []

protocol_names : list_all (λ (e : Entry). is_name e.word) protocols ≡ true
unfolding protocols
protocol_names = refl

proto_is_name : (proto : ℕ) → is_byte proto ≡ true → is_name (proto_word proto) ≡ true
proto_is_name proto is = words_pass is_name protocols proto (decimal proto) protocol_names (number_is_name proto (leb-true proto 255 is))

bare_name : (text : List ℕ) → is_name text ≡ true → name_of (bare text) ≡ Some text
unfolding name_of
bare_name text is = rw is refl

pub protos_read : (proto : Option ℕ) (rest : Symbols) → if_given is_byte proto ≡ true → begins from_hosts rest ≡ true
    → protos.reads (said (given proto_glyphs proto) ++ rest) ≡ Some (proto_items proto, rest)
unfolding protos
protos_read None rest is follows = rw (no_word from_hosts (codes "proto") rest follows refl) refl
protos_read (Some proto) rest is follows = rw (bare_name (proto_word proto) (proto_is_name proto is)) refl

-- which word each begins with
pub starts_family : (inet : Option Family) → begins from_family (said (given family_glyphs inet)) ≡ true
starts_family None = refl
starts_family (Some Inet) = refl
starts_family (Some Inet6) = refl

pub starts_proto : (proto : Option ℕ) → begins from_proto (said (given proto_glyphs proto)) ≡ true
starts_proto None = refl
starts_proto (Some proto) = refl

pub starts_iface : (test : IfTest) → begins from_iface (said (iface_glyphs test)) ≡ true
starts_iface tests.Any = refl
starts_iface (tests.On text negated) = refl

pub starts_quick : (quick : Bool) → begins from_quick (said (quick_glyphs quick)) ≡ true
starts_quick true = refl
starts_quick false = refl

starts_log_if : (on : Bool) (log : Log) → begins from_log (said (where_so on (word (codes "log") ∷ bracket_glyphs (log_chunks log)))) ≡ true
starts_log_if true log = refl
starts_log_if false log = refl

pub starts_log : (log : Log) → begins from_log (said (log_glyphs log)) ≡ true
starts_log log = starts_log_if log.on log
