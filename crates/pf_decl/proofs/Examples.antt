-- Texts of declarations, with what they declare computed from the grammar.
use Rattle.std.specs.Prelude.{◌≡◌, ℕ, Bool, true, false, ◌-◌, ◌==◌, List, [], ◌∷◌, map, take, length, Option, Some, None, is_some, codes, if◌then◌else◌, refl}
use Rattle.std.specs.Fmt.{digits}
use Rattle.std.specs.List.{slice_split, list_any}
use Rattle.pf_base.specs.Decimal.{decimal_of}
use Rattle.pf_base.specs.declared.fault.Place.{Place}
use Rattle.pf_parts.specs.BlockText.{block_text}
use Rattle.pf_parts.specs.NameText.{is_bare}
use Rattle.pf_syntax.specs.Fault.{timeouts}
use Rattle.pf_syntax.specs.Hosts.{table_name}
use Rattle.pf_syntax.specs.Symbols.{Symbol, Symbols, bare, quoted, mark}
use Rattle.pf_syntax.specs.Words.{name_of}
use Rattle.pf_decl.specs.declared.form.Bandwidth.{Bandwidth}
use Rattle.pf_decl.specs.declared.form.Decl.{Decl}
use Rattle.pf_decl.specs.declared.form.Decl.TheVariants.{Set, Table, Queue}
use Rattle.pf_decl.specs.declared.form.OptionLine.{OptionLine}
use Rattle.pf_decl.specs.declared.form.Setting.TheVariants as settings
use Rattle.pf_decl.specs.declared.form.TableItem.{TableItem}
use Rattle.pf_decl.specs.Bandwidths.{units, rate_of, milliseconds_of, burst, bandwidth}
use Rattle.pf_decl.specs.Decls.{declaration, decl_words, decl_behind}
use Rattle.pf_decl.specs.Lines.{set_text}
use Rattle.pf_decl.specs.Queues.{blank_queue, queue, queue_part, queue_words, queue_behind, name_once, rate_once}
use Rattle.pf_decl.specs.Settings.{setting, set_words, set_behind, skip, timeout, limit, block_policy, block_policies, state_policy, state_policies, ruleset_optimization, level_words, optimization, debug, reassemble, yes_or_no, log_interface, fingerprints, limits, optimizations, debug_levels}
use Rattle.pf_decl.specs.Tables.{table, table_part, table_words, table_behind, entries, entry, mask}

abbrev is_sign_text : List ℕ → Bool
is_sign_text (byte ∷ []) = list_any (λ sign. byte == sign) (codes "(){}<>!=/,")
is_sign_text [] = false
is_sign_text (byte ∷ next ∷ rest) = false

abbrev symbol_in : List ℕ → Symbol
symbol_in [] = bare []
symbol_in (byte ∷ rest) = if byte == 34 then quoted (take (length rest - 1) rest) else if is_sign_text (byte ∷ rest) then mark (byte ∷ rest) else bare (byte ∷ rest)

-- symbols with a space between them
abbrev symbols_in : List ℕ → Symbols
symbols_in text = map symbol_in (slice_split (λ byte. byte == 32) text)

abbrev here : Place
here = record { file = 0; line = 7 }

abbrev whole : Option (Decl × Symbols) → Option Decl
whole None = None
whole (Some (decl, [])) = Some decl
whole (Some (decl, symbol ∷ rest)) = None

abbrev says : List ℕ → Option Decl
says text = whole ((declaration false here).reads (symbols_in text))

abbrev texts_in : Option Decl → List (List ℕ)
texts_in None = []
texts_in (Some (Set lines)) = map (λ (line : OptionLine). line.text) lines
texts_in (Some (Table form)) = []
texts_in (Some (Queue queue)) = []

abbrev is_decl : List ℕ → Bool
is_decl text = is_some (says text)

-- the lines of a setting
abbrev lines : List ℕ → List (List ℕ)
lines text = texts_in (says text)

lists_make_lines : lines (codes "set limit { states 10 , frags 20 }") ≡ codes "set limit states 10" ∷ codes "set limit frags 20" ∷ []
unfolding digits declaration decl_words decl_behind decimal_of name_of set_text block_text is_bare timeouts setting set_words set_behind skip timeout limit block_policy block_policies state_policy state_policies ruleset_optimization level_words optimization debug reassemble yes_or_no log_interface fingerprints limits optimizations debug_levels table_name table table_part table_words table_behind entries entry mask units rate_of milliseconds_of burst bandwidth queue queue_part queue_words queue_behind name_once rate_once
lists_make_lines = refl

skips : lines (codes "set skip on { lo \"any\" , \"a'b\" }") ≡ codes "set skip on lo" ∷ codes "set skip on \"any\"" ∷ codes "set skip on \"a'b\"" ∷ []
unfolding digits declaration decl_words decl_behind decimal_of name_of set_text block_text is_bare timeouts setting set_words set_behind skip timeout limit block_policy block_policies state_policy state_policies ruleset_optimization level_words optimization debug reassemble yes_or_no log_interface fingerprints limits optimizations debug_levels table_name table table_part table_words table_behind entries entry mask units rate_of milliseconds_of burst bandwidth queue queue_part queue_words queue_behind name_once rate_once
skips = refl

quoted_file : lines (codes "set fingerprints \"/etc/pf.os\"") ≡ codes "set fingerprints \"/etc/pf.os\"" ∷ []
unfolding digits declaration decl_words decl_behind decimal_of name_of set_text block_text is_bare timeouts setting set_words set_behind skip timeout limit block_policy block_policies state_policy state_policies ruleset_optimization level_words optimization debug reassemble yes_or_no log_interface fingerprints limits optimizations debug_levels table_name table table_part table_words table_behind entries entry mask units rate_of milliseconds_of burst bandwidth queue queue_part queue_words queue_behind name_once rate_once
quoted_file = refl

unquoted_interface : lines (codes "set loginterface \"em0\"") ≡ codes "set loginterface em0" ∷ []
unfolding digits declaration decl_words decl_behind decimal_of name_of set_text block_text is_bare timeouts setting set_words set_behind skip timeout limit block_policy block_policies state_policy state_policies ruleset_optimization level_words optimization debug reassemble yes_or_no log_interface fingerprints limits optimizations debug_levels table_name table table_part table_words table_behind entries entry mask units rate_of milliseconds_of burst bandwidth queue queue_part queue_words queue_behind name_once rate_once
unquoted_interface = refl

reassembled : lines (codes "set reassemble yes no-df") ≡ codes "set reassemble yes no-df" ∷ []
unfolding digits declaration decl_words decl_behind decimal_of name_of set_text block_text is_bare timeouts setting set_words set_behind skip timeout limit block_policy block_policies state_policy state_policies ruleset_optimization level_words optimization debug reassemble yes_or_no log_interface fingerprints limits optimizations debug_levels table_name table table_part table_words table_behind entries entry mask units rate_of milliseconds_of burst bandwidth queue queue_part queue_words queue_behind name_once rate_once
reassembled = refl

not_reassembled : lines (codes "set reassemble no") ≡ codes "set reassemble no" ∷ []
unfolding digits declaration decl_words decl_behind decimal_of name_of set_text block_text is_bare timeouts setting set_words set_behind skip timeout limit block_policy block_policies state_policy state_policies ruleset_optimization level_words optimization debug reassemble yes_or_no log_interface fingerprints limits optimizations debug_levels table_name table table_part table_words table_behind entries entry mask units rate_of milliseconds_of burst bandwidth queue queue_part queue_words queue_behind name_once rate_once
not_reassembled = refl

timeouts_without_zeros : lines (codes "set timeout { tcp.first 00120 adaptive.end 4294967295 }") ≡ codes "set timeout tcp.first 120" ∷ codes "set timeout adaptive.end 4294967295" ∷ []
unfolding digits declaration decl_words decl_behind decimal_of name_of set_text block_text is_bare timeouts setting set_words set_behind skip timeout limit block_policy block_policies state_policy state_policies ruleset_optimization level_words optimization debug reassemble yes_or_no log_interface fingerprints limits optimizations debug_levels table_name table table_part table_words table_behind entries entry mask units rate_of milliseconds_of burst bandwidth queue queue_part queue_words queue_behind name_once rate_once
timeouts_without_zeros = refl

blocked : lines (codes "set block-policy return") ≡ codes "set block-policy return" ∷ []
unfolding digits declaration decl_words decl_behind decimal_of name_of set_text block_text is_bare timeouts setting set_words set_behind skip timeout limit block_policy block_policies state_policy state_policies ruleset_optimization level_words optimization debug reassemble yes_or_no log_interface fingerprints limits optimizations debug_levels table_name table table_part table_words table_behind entries entry mask units rate_of milliseconds_of burst bandwidth queue queue_part queue_words queue_behind name_once rate_once
blocked = refl

bound : lines (codes "set state-policy if-bound") ≡ codes "set state-policy if-bound" ∷ []
unfolding digits declaration decl_words decl_behind decimal_of name_of set_text block_text is_bare timeouts setting set_words set_behind skip timeout limit block_policy block_policies state_policy state_policies ruleset_optimization level_words optimization debug reassemble yes_or_no log_interface fingerprints limits optimizations debug_levels table_name table table_part table_words table_behind entries entry mask units rate_of milliseconds_of burst bandwidth queue queue_part queue_words queue_behind name_once rate_once
bound = refl

optimised : lines (codes "set ruleset-optimization profile") ≡ codes "set ruleset-optimization profile" ∷ []
unfolding digits declaration decl_words decl_behind decimal_of name_of set_text block_text is_bare timeouts setting set_words set_behind skip timeout limit block_policy block_policies state_policy state_policies ruleset_optimization level_words optimization debug reassemble yes_or_no log_interface fingerprints limits optimizations debug_levels table_name table table_part table_words table_behind entries entry mask units rate_of milliseconds_of burst bandwidth queue queue_part queue_words queue_behind name_once rate_once
optimised = refl

latency : lines (codes "set optimization high-latency") ≡ codes "set optimization high-latency" ∷ []
unfolding digits declaration decl_words decl_behind decimal_of name_of set_text block_text is_bare timeouts setting set_words set_behind skip timeout limit block_policy block_policies state_policy state_policies ruleset_optimization level_words optimization debug reassemble yes_or_no log_interface fingerprints limits optimizations debug_levels table_name table table_part table_words table_behind entries entry mask units rate_of milliseconds_of burst bandwidth queue queue_part queue_words queue_behind name_once rate_once
latency = refl

debugged : lines (codes "set debug warning") ≡ codes "set debug warning" ∷ []
unfolding digits declaration decl_words decl_behind decimal_of name_of set_text block_text is_bare timeouts setting set_words set_behind skip timeout limit block_policy block_policies state_policy state_policies ruleset_optimization level_words optimization debug reassemble yes_or_no log_interface fingerprints limits optimizations debug_levels table_name table table_part table_words table_behind entries entry mask units rate_of milliseconds_of burst bandwidth queue queue_part queue_words queue_behind name_once rate_once
debugged = refl

-- what a load must know
kinds : says (codes "set state-policy floating") ≡ Some (Set (record { setting = settings.Bound false; text = codes "set state-policy floating" } ∷ []))
unfolding digits declaration decl_words decl_behind decimal_of name_of set_text block_text is_bare timeouts setting set_words set_behind skip timeout limit block_policy block_policies state_policy state_policies ruleset_optimization level_words optimization debug reassemble yes_or_no log_interface fingerprints limits optimizations debug_levels table_name table table_part table_words table_behind entries entry mask units rate_of milliseconds_of burst bandwidth queue queue_part queue_words queue_behind name_once rate_once
kinds = refl

abbrev item : Bool → List ℕ → Option (List ℕ) → TableItem
item negated word bits = record { negated = negated; word = word; mask = bits }

-- entries and files add up
tables : says (codes "table < t > persist { 10 / 8 , ! a } file x counters { b } file \"y/z\" const") ≡ Some (Table (record {
  name = codes "t";
  persist = true;
  constant = true;
  counters = true;
  items = Some (item false (codes "10") (Some (codes "8")) ∷ item true (codes "a") None ∷ item false (codes "b") None ∷ []);
  files = codes "x" ∷ codes "y/z" ∷ [];
}))
unfolding digits declaration decl_words decl_behind decimal_of name_of set_text block_text is_bare timeouts setting set_words set_behind skip timeout limit block_policy block_policies state_policy state_policies ruleset_optimization level_words optimization debug reassemble yes_or_no log_interface fingerprints limits optimizations debug_levels table_name table table_part table_words table_behind entries entry mask units rate_of milliseconds_of burst bandwidth queue queue_part queue_words queue_behind name_once rate_once
tables = refl

-- braces without an entry
no_entry : says (codes "table < t > { }") ≡ Some (Table (record { name = codes "t"; persist = false; constant = false; counters = false; items = Some []; files = [] }))
unfolding digits declaration decl_words decl_behind decimal_of name_of set_text block_text is_bare timeouts setting set_words set_behind skip timeout limit block_policy block_policies state_policy state_policies ruleset_optimization level_words optimization debug reassemble yes_or_no log_interface fingerprints limits optimizations debug_levels table_name table table_part table_words table_behind entries entry mask units rate_of milliseconds_of burst bandwidth queue queue_part queue_words queue_behind name_once rate_once
no_entry = refl

-- and no braces
no_braces : says (codes "table < t >") ≡ Some (Table (record { name = codes "t"; persist = false; constant = false; counters = false; items = None; files = [] }))
unfolding digits declaration decl_words decl_behind decimal_of name_of set_text block_text is_bare timeouts setting set_words set_behind skip timeout limit block_policy block_policies state_policy state_policies ruleset_optimization level_words optimization debug reassemble yes_or_no log_interface fingerprints limits optimizations debug_levels table_name table table_part table_words table_behind entries entry mask units rate_of milliseconds_of burst bandwidth queue queue_part queue_words queue_behind name_once rate_once
no_braces = refl

abbrev rate : ℕ → Bandwidth
rate bits = record { rate = bits; burst = None }

root_queue : says (codes "queue main on em0 bandwidth 10M") ≡ Some (Queue (record (blank_queue here (codes "main")) { iface = Some (codes "em0"); bandwidth = Some (rate 10000000) }))
unfolding digits declaration decl_words decl_behind decimal_of name_of set_text block_text is_bare timeouts setting set_words set_behind skip timeout limit block_policy block_policies state_policy state_policies ruleset_optimization level_words optimization debug reassemble yes_or_no log_interface fingerprints limits optimizations debug_levels table_name table table_part table_words table_behind entries entry mask units rate_of milliseconds_of burst bandwidth queue queue_part queue_words queue_behind name_once rate_once
root_queue = refl

child_queue : says (codes "queue std parent main bandwidth 8M default") ≡ Some (Queue (record (blank_queue here (codes "std")) { parent = Some (codes "main"); bandwidth = Some (rate 8000000); default_queue = true }))
unfolding digits declaration decl_words decl_behind decimal_of name_of set_text block_text is_bare timeouts setting set_words set_behind skip timeout limit block_policy block_policies state_policy state_policies ruleset_optimization level_words optimization debug reassemble yes_or_no log_interface fingerprints limits optimizations debug_levels table_name table table_part table_words table_behind entries entry mask units rate_of milliseconds_of burst bandwidth queue queue_part queue_words queue_behind name_once rate_once
child_queue = refl

whole_queue : says (codes "queue q qlimit 65535 max 2G burst 5 for 10ms min 7K parent p bandwidth 4294967295 burst 1M for 20") ≡ Some (Queue (record (blank_queue here (codes "q")) {
  parent = Some (codes "p");
  bandwidth = Some (record { rate = 4294967295; burst = Some (record { rate = 1000000; ms = 20 }) });
  min = Some (rate 7000);
  max = Some (record { rate = 2000000000; burst = Some (record { rate = 5; ms = 10 }) });
  qlimit = Some 65535;
}))
unfolding digits declaration decl_words decl_behind decimal_of name_of set_text block_text is_bare timeouts setting set_words set_behind skip timeout limit block_policy block_policies state_policy state_policies ruleset_optimization level_words optimization debug reassemble yes_or_no log_interface fingerprints limits optimizations debug_levels table_name table table_part table_words table_behind entries entry mask units rate_of milliseconds_of burst bandwidth queue queue_part queue_words queue_behind name_once rate_once
whole_queue = refl

-- texts that declare nothing
others : list_any is_decl
    (codes "set"
    ∷ codes "set skip lo"
    ∷ codes "set skip on { }"
    ∷ codes "set skip on { { a } }"
    ∷ codes "set block-policy drop drop"
    ∷ codes "set block-policy \"drop\""
    ∷ codes "set state-policy any"
    ∷ codes "set ruleset-optimization full"
    ∷ codes "set timeout tcp.first"
    ∷ codes "set timeout x 1"
    ∷ codes "set timeout tcp.first 4294967296"
    ∷ codes "set limit { states 10 , , frags 20 }"
    ∷ codes "set limit states -1"
    ∷ codes "set optimization \"normal\""
    ∷ codes "set debug all"
    ∷ codes "set reassemble no-df"
    ∷ codes "set reassemble yes no-df no-df"
    ∷ codes "set hostid 1"
    ∷ codes "table t"
    ∷ codes "table < \"t\" >"
    ∷ codes "table < t > const const"
    ∷ codes "table < t > persist persist"
    ∷ codes "table < t > counters counters"
    ∷ codes "table < t > file"
    ∷ codes "table < t > { , a }"
    ∷ codes "table < t > { a , , b }"
    ∷ codes "table < t > { ! ! a }"
    ∷ codes "table < t > { a / }"
    ∷ codes "table < t > 10.0.0.1"
    ∷ codes "queue"
    ∷ codes "queue q on a on b"
    ∷ codes "queue q default default"
    ∷ codes "queue q qlimit 0"
    ∷ codes "queue q qlimit 65536"
    ∷ codes "queue q bandwidth 10m"
    ∷ codes "queue q bandwidth 10 M"
    ∷ codes "queue q bandwidth K"
    ∷ codes "queue q min 4294967296"
    ∷ codes "queue q max 1M burst 1M"
    ∷ codes "queue q max 1M burst 1M for 10s"
    ∷ codes "queue q max 1M burst 1M for ms"
    ∷ codes "queue q min 1 min 2"
    ∷ codes "pass"
    ∷ codes "\"set\" skip on lo"
    ∷ codes "set skip on lo extra" ∷ []) ≡ false
unfolding digits declaration decl_words decl_behind decimal_of name_of set_text block_text is_bare timeouts setting set_words set_behind skip timeout limit block_policy block_policies state_policy state_policies ruleset_optimization level_words optimization debug reassemble yes_or_no log_interface fingerprints limits optimizations debug_levels table_name table table_part table_words table_behind entries entry mask units rate_of milliseconds_of burst bandwidth queue queue_part queue_words queue_behind name_once rate_once
others = refl

-- a statement with a body declares nothing
with_a_body : whole ((declaration true here).reads (symbols_in (codes "set skip on lo"))) ≡ None
unfolding declaration
with_a_body = refl
