-- The hosts of a rule, and its tests of ports, users and groups, are read as they were printed.
use Rattle.std.proofs.Common.{◌≡◌, ℕ, ◌+◌, ◌-◌, ◌≤◌, ◌<◌, ◌^◌, Bool, true, false, List, [], ◌∷◌, ◌++◌, Option, Some, None, length, drop, refl, ap, ◌∙◌, arith, decimal, suc, inl, inr, append_assoc, length-append}
use Rattle.std.specs.Prelude.{◌==◌, not, nat_le, nat_lt, codes, position, if◌then◌else◌}
use Rattle.std.specs.Char.{is_ascii_digit}
use Rattle.std.specs.List.{list_all, prefix_len}
use Rattle.std.specs.Str.{bytes_eq}
use Rattle.std.proofs.Math.Seq.{drop-append-add, take-append_seam}
use Rattle.std.proofs.lemmas.List.{take_all}
use Rattle.std.proofs.lemmas.Bool.{and_parts, cases_Bool, eqb-true, leb-true, lt-ltb}
use Rattle.pf_addr.specs.Addr.{IsAddr, width}
use Rattle.pf_addr.specs.Text.{addr_text}
use Rattle.pf_addr.specs.Words.{is_addr_byte}
use Rattle.pf_addr.specs.declared.addr.Addr.{Addr}
use Rattle.pf_addr.specs.declared.prefix.Prefix.{Prefix}
use Rattle.pf_form.specs.Tests.{hosts, no_side, ports, side}
use Rattle.pf_form.specs.declared.hosts.Hosts.{Hosts}
use Rattle.pf_form.specs.declared.hosts.Side.{Side}
use Rattle.pf_ops.specs.Numbers.{IsKept}
use Rattle.pf_ops.specs.declared.numbers.Numbers.{Numbers}
use Rattle.pf_ops.specs.declared.numbers.Numbers.TheVariants.{Empty, One, Two}
use Rattle.pf_ops.specs.declared.operator.OpKind.TheVariants.{Equal, Other, Within, Outside}
use Rattle.pf_print.specs.HostText.{tests_no_host}
use Rattle.pf_rule.specs.declared.criteria.AddrSet.{AddrSet}
use Rattle.pf_rule.specs.declared.criteria.AddrSet.TheVariants as sets
use Rattle.pf_rule.specs.declared.criteria.AddrTest.{AddrTest}
use Rattle.pf_rule.specs.declared.criteria.AddrTest.TheVariants as tests
use Rattle.pf_rule.specs.declared.criteria.Criteria.{Criteria}
use Rattle.pf_syntax.specs.Hosts.{address, cut_name, dynamic, host, plain_host, table_name}
use Rattle.pf_syntax.specs.Lists.{list_of}
use Rattle.pf_syntax.specs.Operators.{cut_at, op, op_item, operator, sign_test, word_op, word_test}
use Rattle.pf_syntax.specs.Symbols.{Symbols, bare, is_mark, is_word, next_is}
use Rattle.pf_syntax.specs.declared.form.HostForm.{HostForm}
use Rattle.pf_syntax.specs.declared.form.HostForm.TheVariants as forms
use Rattle.pf_syntax.specs.declared.form.HostItem.{HostItem}
use Rattle.pf_syntax.specs.declared.form.OpItem.{OpItem}
use Rattle.pf_word.specs.Tables.{is_table_name}
use Rattle.pf_word.specs.Words.{is_name}
use Rattle.pf_reread.specs.Written.{AreWrittenTests, IfGiven, IsWrittenHost, IsWrittenSet}
use Rattle.pf_reread.proofs.Following.{begins, begins-more, no_sign, no_signs, no_word, not_same}
use Rattle.pf_reread.proofs.Glyphs.{close, said, said-append, sign_close}
use Rattle.pf_reread.proofs.ReadFront.{from_hosts}
use Rattle.pf_reread.proofs.RuleGlyphs.{addresses_glyphs, dynamic_word, gap_glyphs, given, host_glyphs, hosts_glyphs, interval_glyphs, not_glyphs, outside_glyphs, port_glyphs, set_glyphs, side_glyphs, where_so, word}
use Rattle.pf_reread.proofs.RuleTokens.{PrintedTexts}
use Rattle.pf_reread.proofs.Words.{all_digits}

-- the words that options begin with
abbrev pub from_options : List (List ℕ)
from_options =
    codes "user" ∷ codes "group" ∷ codes "flags" ∷ codes "icmp-type" ∷ codes "icmp6-type" ∷ codes "tos" ∷ codes "prio" ∷ codes "tagged" ∷ codes "tag"
    ∷ codes "no" ∷ codes "keep" ∷ codes "modulate" ∷ codes "synproxy" ∷ codes "set" ∷ codes "scrub" ∷ codes "nat-to" ∷ codes "rdr-to" ∷ codes "allow-opts"
    ∷ codes "label" ∷ []

-- what stands behind the ports of a side
abbrev pub from_to : List (List ℕ)
from_to = codes "to" ∷ from_options

-- what stands behind the address of a side
abbrev pub from_port : List (List ℕ)
from_port = codes "port" ∷ from_to

-- sets of numbers
abbrev pub interval_item : Bool → ℕ → ℕ → OpItem
interval_item true low high = op_item Equal (decimal low) []
interval_item false low high = op_item Within (decimal low) (decimal high)

abbrev pub gap_item : Bool → ℕ → ℕ → OpItem
gap_item true low high = op_item Other (decimal low) []
gap_item false low high = op_item Outside (decimal low) (decimal high)

abbrev pub set_item : ℕ → Numbers → OpItem
set_item top Empty = op_item Outside (codes "0") (decimal top)
set_item top (One all) = interval_item (all.low == all.high) all.low all.high
set_item top (Two first last) = gap_item (first.high + 1 == last.low - 1) (first.high + 1) (last.low - 1)

abbrev is_colon : ℕ → Bool
is_colon byte = byte == 58

digit_no_colon : (byte : ℕ) → is_ascii_digit byte ≡ true → is_colon byte ≡ false
digit_no_colon byte digit = elim (cases_Bool (is_colon byte)) [
  | inl colon ↦
      let fits : byte ≤ 57 = leb-true byte 57 (and_parts (nat_le 48 byte) (nat_le byte 57) digit).1 in
      let same : byte ≡ 58 = eqb-true byte 58 colon in
      absurd (omega arith)
  | inr other ↦ other
]

colon_at : (front back : List ℕ) → list_all is_ascii_digit front ≡ true → prefix_len (λ byte. not (is_colon byte)) (front ++ 58 ∷ back) ≡ length front
colon_at [] back each = refl
colon_at (byte ∷ front) back each =
    let p = and_parts (is_ascii_digit byte) (list_all is_ascii_digit front) each in
    let rest = colon_at front back p.1 in
    rw (digit_no_colon byte p.0) (omega (arith, rest))

colon_found : (front back : List ℕ) → list_all is_ascii_digit front ≡ true → position is_colon (front ++ 58 ∷ back) ≡ Some (length front)
colon_found front back each =
    let long : length (front ++ 58 ∷ back) ≡ length front + length (58 ∷ back) = length-append front (58 ∷ back) in
    let inside : nat_lt (length front) (length (front ++ 58 ∷ back)) ≡ true = lt-ltb (length front) (length (front ++ 58 ∷ back)) (omega (arith, long)) in
    rw (colon_at front back each, inside) refl

behind_colon : (front back : List ℕ) → drop (suc (length front)) (front ++ 58 ∷ back) ≡ back
behind_colon front back =
    let next : suc (length front) ≡ length front + 1 = omega arith in
    rw next (drop-append-add front (58 ∷ back) 1)

colon_op : (front back : List ℕ) → list_all is_ascii_digit front ≡ true → word_op (front ++ codes ":" ++ back) ≡ op_item Within front back
colon_op front back each =
    ap word_op (append_assoc front (codes ":") back)
    ∙ ap (cut_at (front ++ 58 ∷ back)) (colon_found front back each)
    ∙ (λ i. op_item Within (take-append_seam front (58 ∷ back) i) (behind_colon front back i))

interval_read : (same : Bool) (low high : ℕ) (rest : Symbols) → low < 2 ^ 64 → begins from_port rest ≡ true
    → (list_of op).reads (said (interval_glyphs same low high) ++ rest) ≡ Some (interval_item same low high ∷ [], rest)
unfolding op sign_test word_test operator
interval_read true low high rest small follows = refl
interval_read false low high rest small follows =
    rw (
      no_signs from_port (codes ">") (codes "<") rest follows refl,
      no_signs from_port (codes "<") (codes ">") rest follows refl,
      colon_op (decimal low) (decimal high) (all_digits low small),
    ) refl

outside_read : (low high : List ℕ) (rest : Symbols) → (list_of op).reads (said (outside_glyphs low high) ++ rest) ≡ Some (op_item Outside low high ∷ [], rest)
unfolding op sign_test word_test operator
outside_read low high rest = refl

gap_read : (same : Bool) (low high : ℕ) (rest : Symbols) → (list_of op).reads (said (gap_glyphs same low high) ++ rest) ≡ Some (gap_item same low high ∷ [], rest)
unfolding op sign_test word_test operator
gap_read true low high rest = refl
gap_read false low high rest = refl

pub set_read : (top : ℕ) (numbers : Numbers) (rest : Symbols) → top ≤ 4294967295 → IsKept top numbers → begins from_port rest ≡ true
    → (list_of op).reads (said (set_glyphs top numbers) ++ rest) ≡ Some (set_item top numbers ∷ [], rest)
set_read top Empty rest most kept follows = outside_read (codes "0") (decimal top) rest
set_read top (One all) rest most kept follows =
    let a = kept.0 in let b = kept.1 in interval_read (all.low == all.high) all.low all.high rest (omega arith) follows
set_read top (Two first last) rest most kept follows = gap_read (first.high + 1 == last.low - 1) (first.high + 1) (last.low - 1) rest

-- ports
abbrev pub port_items : Option Numbers → List OpItem
port_items None = []
port_items (Some numbers) = set_item 65535 numbers ∷ []

ports_read : (tested : Option Numbers) (rest : Symbols) → IfGiven (IsKept 65535) tested → next_is (is_word (codes "port")) rest ≡ false → begins from_port rest ≡ true
    → ports.reads (said (given port_glyphs tested) ++ rest) ≡ Some (port_items tested, rest)
unfolding ports
ports_read None rest kept none follows = rw none refl
ports_read (Some numbers) rest kept none follows = rw (set_read 65535 numbers rest (omega arith) kept follows) refl

-- addresses
abbrev pub mask_of : Bool → ℕ → Option (List ℕ)
mask_of whole len = if whole then None else Some (decimal len)

abbrev pub prefix_form : Prefix → HostForm
prefix_form prefix = forms.Word (addr_text prefix.addr) (mask_of (prefix.len == width prefix.addr) prefix.len)

abbrev pub addresses_form : AddrSet → HostForm
addresses_form (sets.Prefix prefix) = prefix_form prefix
addresses_form (sets.Range range) = forms.Range (addr_text range.low) (addr_text range.high)
addresses_form (sets.Table text) = forms.Table text
addresses_form (sets.Dynamic what) = forms.Dynamic (dynamic_word what)
addresses_form (sets.Auto n) = forms.Any

abbrev pub host_item : AddrTest → HostItem
host_item tests.Any = record { negated = false; what = forms.Any }
host_item (tests.Test negated what) = record { negated = negated; what = addresses_form what }

-- the text of an address is no word of the grammar
addr_not : PrintedTexts → (addr : Addr) (text : List ℕ) → IsAddr addr → list_all is_addr_byte text ≡ false → bytes_eq (addr_text addr) text ≡ false
addr_not printed addr text is other = not_same (list_all is_addr_byte) (addr_text addr) text (printed.addresses addr is) other

masked_read : PrintedTexts → (whole : Bool) (addr : Addr) (len : ℕ) (rest : Symbols) → IsAddr addr → begins from_port rest ≡ true
    → plain_host.reads (said (word (addr_text addr) ∷ where_so (not whole) (sign_close 47 ∷ close (bare (decimal len)) ∷ [])) ++ rest)
    ≡ Some (forms.Word (addr_text addr) (mask_of whole len), rest)
unfolding plain_host address
masked_read printed true addr len rest is follows =
    rw (addr_not printed addr (codes "-") is refl, no_sign from_port (codes "/") rest follows refl, no_word from_port (codes "-") rest follows refl) refl
masked_read printed false addr len rest is follows = rw (addr_not printed addr (codes "-") is refl) refl

pub cut_whole : (text : List ℕ) → is_name text ≡ true → cut_name text ≡ Some text
cut_whole [] is = absurd (cc)
cut_whole (byte ∷ text) is =
    let fits : length (byte ∷ text) ≤ 63 = leb-true (length (byte ∷ text)) 63 (and_parts (nat_le 1 (length (byte ∷ text))) (nat_le (length (byte ∷ text)) 63) is).1 in
    ap (λ (other : List ℕ). Some other) (take_all 63 (byte ∷ text) fits)

plain_read : PrintedTexts → (what : AddrSet) (rest : Symbols) → IsWrittenSet what → begins from_port rest ≡ true
    → plain_host.reads (said (addresses_glyphs what) ++ rest) ≡ Some (addresses_form what, rest)
unfolding plain_host address dynamic table_name
plain_read printed (sets.Prefix prefix) rest is follows = masked_read printed (prefix.len == width prefix.addr) prefix.addr prefix.len rest is follows
plain_read printed (sets.Range range) rest is follows =
    rw (addr_not printed range.low (codes "-") is.0 refl, addr_not printed range.high (codes "-") is.1 refl) refl
plain_read printed (sets.Table text) rest is follows = rw (cut_whole text (and_parts (is_name text) (is_table_name text) is).0) refl
plain_read printed (sets.Dynamic what) rest is follows = refl
plain_read printed (sets.Auto n) rest is follows = absurd is

-- what the first token of addresses isn't
first_no_word : PrintedTexts → (what : AddrSet) (text : List ℕ) (rest : Symbols) → IsWrittenSet what → list_all is_addr_byte text ≡ false
    → next_is (is_word text) (said (addresses_glyphs what) ++ rest) ≡ false
first_no_word printed (sets.Prefix prefix) text rest is other = addr_not printed prefix.addr text is other
first_no_word printed (sets.Range range) text rest is other = addr_not printed range.low text is.0 other
first_no_word printed (sets.Table name) text rest is other = refl
first_no_word printed (sets.Dynamic what) text rest is other = refl
first_no_word printed (sets.Auto n) text rest is other = absurd is

first_no_brace : (what : AddrSet) (rest : Symbols) → next_is (is_mark (codes "{")) (said (addresses_glyphs what) ++ rest) ≡ false
first_no_brace (sets.Prefix prefix) rest = refl
first_no_brace (sets.Range range) rest = refl
first_no_brace (sets.Table name) rest = refl
first_no_brace (sets.Dynamic what) rest = refl
first_no_brace (sets.Auto n) rest = refl

first_no_bang : (what : AddrSet) (rest : Symbols) → next_is (is_mark (codes "!")) (said (addresses_glyphs what) ++ rest) ≡ false
first_no_bang (sets.Prefix prefix) rest = refl
first_no_bang (sets.Range range) rest = refl
first_no_bang (sets.Table name) rest = refl
first_no_bang (sets.Dynamic what) rest = refl
first_no_bang (sets.Auto n) rest = refl

host_read_if : PrintedTexts → (negated : Bool) (what : AddrSet) (rest : Symbols) → IsWrittenSet what → begins from_port rest ≡ true
    → (list_of host).reads (said (not_glyphs negated ++ addresses_glyphs what) ++ rest) ≡ Some (host_item (tests.Test negated what) ∷ [], rest)
unfolding host
host_read_if printed true what rest is follows = rw (plain_read printed what rest is follows) refl
host_read_if printed false what rest is follows =
    rw (first_no_brace what rest, first_no_word printed what (codes "any") rest is refl, first_no_bang what rest, plain_read printed what rest is follows) refl

host_read : PrintedTexts → (test : AddrTest) (rest : Symbols) → IsWrittenHost test → begins from_port rest ≡ true
    → (list_of host).reads (said (host_glyphs test) ++ rest) ≡ Some (host_item test ∷ [], rest)
unfolding host
host_read printed tests.Any rest is follows = refl
host_read printed (tests.Test negated what) rest is follows = host_read_if printed negated what rest is follows

no_port_if : PrintedTexts → (negated : Bool) (what : AddrSet) (rest : Symbols) → IsWrittenSet what
    → next_is (is_word (codes "port")) (said (not_glyphs negated ++ addresses_glyphs what) ++ rest) ≡ false
no_port_if printed true what rest is = refl
no_port_if printed false what rest is = first_no_word printed what (codes "port") rest is refl

no_port : PrintedTexts → (test : AddrTest) (rest : Symbols) → IsWrittenHost test → next_is (is_word (codes "port")) (said (host_glyphs test) ++ rest) ≡ false
no_port printed tests.Any rest is = refl
no_port printed (tests.Test negated what) rest is = no_port_if printed negated what rest is

-- one side
abbrev pub side_of : AddrTest → Option Numbers → Side
side_of test tested = record { hosts = host_item test ∷ []; ports = port_items tested }

ports_begin : (tested : Option Numbers) (rest : Symbols) → begins from_port rest ≡ true → begins from_port (said (given port_glyphs tested) ++ rest) ≡ true
ports_begin None rest follows = follows
ports_begin (Some numbers) rest follows = refl

side_read : PrintedTexts → (test : AddrTest) (tested : Option Numbers) (rest : Symbols) → IsWrittenHost test → IfGiven (IsKept 65535) tested
    → next_is (is_word (codes "port")) rest ≡ false → begins from_port rest ≡ true
    → side.reads (said (host_glyphs test) ++ (said (given port_glyphs tested) ++ rest)) ≡ Some (side_of test tested, rest)
unfolding side
side_read printed test tested rest is kept none follows =
    rw (
      no_port printed test (said (given port_glyphs tested) ++ rest) is,
      host_read printed test (said (given port_glyphs tested) ++ rest) is (ports_begin tested rest follows),
      ports_read tested rest kept none follows,
    ) refl

-- both sides, or none
abbrev pub hosts_of : Criteria → Hosts
hosts_of criteria = if tests_no_host criteria then record { sources = no_side; targets = no_side }
    else record { sources = side_of criteria.source criteria.source_port; targets = side_of criteria.target criteria.target_port }

side_said : (text : List ℕ) (test : AddrTest) (tested : Option Numbers) (rest : Symbols)
    → said (side_glyphs text test tested) ++ rest ≡ bare text ∷ (said (host_glyphs test) ++ (said (given port_glyphs tested) ++ rest))
side_said text test tested rest =
    ap (λ (symbols : Symbols). bare text ∷ (symbols ++ rest)) (said-append (host_glyphs test) (given port_glyphs tested))
    ∙ ap (λ (symbols : Symbols). bare text ∷ symbols) (append_assoc (said (host_glyphs test)) (said (given port_glyphs tested)) rest)

-- options follow
pub behind_side : (rest : Symbols) → begins from_options rest ≡ true → begins from_port rest ≡ true
behind_side rest follows = begins-more (codes "port") from_to rest (begins-more (codes "to") from_options rest follows)

abbrev target_symbols : Criteria → Symbols → Symbols
target_symbols criteria rest = bare (codes "to") ∷ (said (host_glyphs criteria.target) ++ (said (given port_glyphs criteria.target_port) ++ rest))

sides_read : PrintedTexts → (criteria : Criteria) (rest : Symbols) → AreWrittenTests criteria → begins from_options rest ≡ true
    → hosts.reads (bare (codes "from") ∷ (said (host_glyphs criteria.source) ++ (said (given port_glyphs criteria.source_port) ++ target_symbols criteria rest)))
    ≡ Some (record { sources = side_of criteria.source criteria.source_port; targets = side_of criteria.target criteria.target_port }, rest)
unfolding hosts
sides_read printed criteria rest is follows =
    rw (
      side_read printed criteria.source criteria.source_port (target_symbols criteria rest) is.source is.source_port refl refl,
      side_read printed criteria.target criteria.target_port rest is.target is.target_port (no_word from_options (codes "port") rest follows refl) (behind_side rest follows),
    ) refl

sides_said : (criteria : Criteria) (rest : Symbols)
    → said (side_glyphs (codes "from") criteria.source criteria.source_port ++ side_glyphs (codes "to") criteria.target criteria.target_port) ++ rest
    ≡ bare (codes "from") ∷ (said (host_glyphs criteria.source) ++ (said (given port_glyphs criteria.source_port) ++ target_symbols criteria rest))
sides_said criteria rest =
    let from_side = side_glyphs (codes "from") criteria.source criteria.source_port in
    let to_side = side_glyphs (codes "to") criteria.target criteria.target_port in
    ap (λ (symbols : Symbols). symbols ++ rest) (said-append from_side to_side)
    ∙ append_assoc (said from_side) (said to_side) rest
    ∙ ap (λ (symbols : Symbols). said from_side ++ symbols) (side_said (codes "to") criteria.target criteria.target_port rest)
    ∙ side_said (codes "from") criteria.source criteria.source_port (target_symbols criteria rest)

hosts_read_if : PrintedTexts → (all : Bool) (criteria : Criteria) (rest : Symbols) → AreWrittenTests criteria → begins from_options rest ≡ true
    → hosts.reads (said (if all then word (codes "all") ∷ []
    else side_glyphs (codes "from") criteria.source criteria.source_port ++ side_glyphs (codes "to") criteria.target criteria.target_port) ++ rest)
    ≡ Some (
      if all then record { sources = no_side; targets = no_side }
          else record { sources = side_of criteria.source criteria.source_port; targets = side_of criteria.target criteria.target_port },
      rest,
    )
unfolding hosts
hosts_read_if printed true criteria rest is follows = refl
hosts_read_if printed false criteria rest is follows = ap hosts.reads (sides_said criteria rest) ∙ sides_read printed criteria rest is follows

pub hosts_read : PrintedTexts → (criteria : Criteria) (rest : Symbols) → AreWrittenTests criteria → begins from_options rest ≡ true
    → hosts.reads (said (hosts_glyphs criteria) ++ rest) ≡ Some (hosts_of criteria, rest)
hosts_read printed criteria rest is follows = hosts_read_if printed (tests_no_host criteria) criteria rest is follows

starts_hosts_if : (all : Bool) (criteria : Criteria) (rest : Symbols)
    → begins from_hosts (said (if all then word (codes "all") ∷ []
    else side_glyphs (codes "from") criteria.source criteria.source_port ++ side_glyphs (codes "to") criteria.target criteria.target_port) ++ rest) ≡ true
starts_hosts_if true criteria rest = refl
starts_hosts_if false criteria rest = refl

pub starts_hosts : (criteria : Criteria) (rest : Symbols) → begins from_hosts (said (hosts_glyphs criteria) ++ rest) ≡ true
starts_hosts criteria rest = starts_hosts_if (tests_no_host criteria) criteria rest
