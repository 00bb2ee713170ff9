-- Texts of statements, with their forms computed from the grammar.
use Rattle.std.specs.Prelude.{◌≡◌, ℕ, Bool, true, false, ◌==◌, ◌-◌, List, [], ◌∷◌, map, take, length, Option, Some, None, codes, if◌then◌else◌, refl}
use Rattle.std.specs.List.{slice_split, list_any, list_all}
use Rattle.pf_syntax.specs.Symbols.{Symbol, Symbols, bare, quoted, mark}
use Rattle.pf_form.specs.declared.form.Draft.{Draft}
use Rattle.pf_syntax.specs.Words.{name_of}
use Rattle.pf_syntax.specs.Hosts.{table_name, dynamic, address, plain_host, host}
use Rattle.pf_syntax.specs.Operators.{operator, word_test, sign_test, op, icmp_type, target}
use Rattle.pf_form.specs.Tests.{direction, iface, ifaces, family, protos, ports, side, hosts}
use Rattle.pf_form.specs.Log.{log_words, log_part, log_option, log_options, log_first, quick_first, logged}
use Rattle.pf_form.specs.Settings.{tos_words, tos_of, queues, prios, set_words, set_behind, set_part, settings, scrub_words, scrub_behind, scrub_part, scrub}
use Rattle.pf_form.specs.States.{state_words, track, rate, flush, overload, state_part, state_option, state_options}
use Rattle.pf_grammar.specs.Heads.{head_words, kind_words, reset_kind, second_code, icmp_kind, icmp6_kind, block_kind, words_behind_anchor, anchor_head}
use Rattle.pf_grammar.specs.Late.{has_state_fault, has_anchor_effect, late_of}
use Rattle.pf_form.specs.Flags.{flags}
use Rattle.pf_grammar.specs.Options.{option_words, users, groups, flags_part, icmp_part, tos_part, prio_part, tagged_part, tag_part, no_state, state_clause, set_option, scrub_option, allow_option, label_part, nat_part, rdr_part, option}
use Rattle.pf_grammar.specs.Statements.{statement, rule_front, rule, label, antispoof, load_anchor, anchor, block}
use Rattle.pf_base.specs.Decimal.{decimal_of}
use Rattle.pf_ops.specs.Words.{tcp_flags}

abbrev is_sign_text : List ℕ → Bool
is_sign_text (byte ∷ []) = list_any (λ sign. byte == sign) (codes "(){}<>!=/,")
is_sign_text [] = false
is_sign_text (byte ∷ next ∷ rest) = false

abbrev symbol_in : List ℕ → Symbol
symbol_in [] = bare []
symbol_in (byte ∷ rest) = if byte == 34 then quoted (take (length rest - 1) rest) else if is_sign_text (byte ∷ rest) then mark (byte ∷ rest) else bare (byte ∷ rest)

-- symbols with a space between them
abbrev symbols_in : List ℕ → Symbols
symbols_in text = map symbol_in (slice_split (λ byte. byte == 32) text)

abbrev is_whole : Option (Draft × Symbols) → Bool
is_whole None = false
is_whole (Some (draft, [])) = true
is_whole (Some (draft, symbol ∷ rest)) = false

abbrev reads_as_rule : List ℕ → Bool
reads_as_rule text = is_whole ((statement false).reads (symbols_in text))

-- texts that are statements
statements : list_all reads_as_rule
    (codes "pass"
    ∷ codes "block"
    ∷ codes "match"
    ∷ codes "pass in log quick on { em0 , ! any , any } inet proto { tcp udp } from any to any"
    ∷ codes "pass quick log ( all , to pflog1 user )"
    ∷ codes "block return-rst ( ttl 5 ) all"
    ∷ codes "block return-icmp ( 1 , 2 )"
    ∷ codes "block return-icmp ( 1 2 )"
    ∷ codes "block return-icmp"
    ∷ codes "block return-icmp6 ( 4 )"
    ∷ codes "block drop in"
    ∷ codes "pass from port 22"
    ∷ codes "pass from 10.0.0.1 - 10.0.0.5 to { 10 / 8 , < t > ! ( em0 ) }"
    ∷ codes "pass to port { 80 > < 90 }"
    ∷ codes "pass to port { 80 > 90 }"
    ∷ codes "pass to port ! = 22"
    ∷ codes "pass to port 80:90"
    ∷ codes "pass user { root , > = 1000 } group wheel"
    ∷ codes "pass flags S / SA"
    ∷ codes "pass flags / SA"
    ∷ codes "pass flags any"
    ∷ codes "pass icmp-type { echoreq code 0 , unreach }"
    ∷ codes "pass tos 0x1f prio 7"
    ∷ codes "pass tos lowdelay"
    ∷ codes "pass ! tagged a tag b"
    ∷ codes "pass no state"
    ∷ codes "pass keep state ( max 5 , source-track rule overload < t > flush global , max-src-conn-rate 5 / 10 )"
    ∷ codes "pass set prio ( 1 , 2 ) set ( queue ( a b ) , tos 4 )"
    ∷ codes "pass scrub ( no-df min-ttl 5 ) allow-opts label in"
    ∷ codes "pass nat-to 10.0.0.1 port 5 rdr-to x"
    ∷ codes "anchor x"
    ∷ codes "anchor \"in\" in"
    ∷ codes "anchor * all"
    ∷ codes "antispoof log quick for { em0 em1 } inet label x"
    ∷ codes "load anchor a from \"b.conf\""
    ∷ codes "pass keep state ( max 5 max 6 )"
    ∷ codes "pass from ( - )"
    ∷ codes "pass from 10 / -"
    ∷ codes "anchor pass"
    ∷ codes "pass on any"
    ∷ codes "pass proto \"tcp\"" ∷ []) ≡ true
unfolding name_of table_name dynamic address plain_host host operator word_test sign_test op icmp_type target direction iface ifaces family protos ports side hosts log_words log_part log_option log_options log_first quick_first logged tos_words tos_of queues prios set_words set_behind set_part settings scrub_words scrub_behind scrub_part scrub state_words track rate flush overload state_part state_option state_options head_words kind_words reset_kind second_code icmp_kind icmp6_kind block_kind words_behind_anchor anchor_head has_state_fault has_anchor_effect late_of option_words flags users groups flags_part icmp_part tos_part prio_part tagged_part tag_part no_state state_clause set_option scrub_option allow_option label_part nat_part rdr_part option rule_front rule label antispoof load_anchor anchor block statement decimal_of tcp_flags
statements = refl

-- texts that are none
others : list_any reads_as_rule
    (codes "pass from -"
    ∷ codes "pass from 10.0.0.1 - -"
    ∷ codes "pass from - - 10.0.0.1"
    ∷ codes "pass from { a - - - b }"
    ∷ codes "pass flags any / SA"
    ∷ codes "pass prio 1 prio 2"
    ∷ codes "pass prio 8"
    ∷ codes "pass icmp-type 1 icmp6-type 1"
    ∷ codes "\"pass\""
    ∷ codes "pass keep state ( max 5 , )"
    ∷ codes "pass keep state ( max 0 )"
    ∷ codes "pass set prio 1 set prio 2"
    ∷ codes "pass from { }"
    ∷ codes "pass from { { a } }"
    ∷ codes "pass from { , a }"
    ∷ codes "anchor in"
    ∷ codes "anchor"
    ∷ codes "block nat-to 10.0.0.1"
    ∷ codes "pass nat-to ( em0 )"
    ∷ codes "pass to port 80 > 90"
    ∷ codes "pass to port \"22\""
    ∷ codes "pass from \"10.0.0.1\""
    ∷ codes "pass from < \"t\" >"
    ∷ codes "pass from 10 / 8 - 10.0.0.1"
    ∷ codes "pass log log"
    ∷ codes "pass log ( )"
    ∷ codes "pass log ( all all )"
    ∷ codes "pass quick quick"
    ∷ codes "pass all from any"
    ∷ codes "pass keep state no state"
    ∷ codes "pass allow-opts allow-opts"
    ∷ codes "pass tos 256"
    ∷ codes "pass tos 0x123"
    ∷ codes "block return-rst ( ttl 256 )"
    ∷ codes "block return-icmp ( 1 , )"
    ∷ codes "load anchor a"
    ∷ codes "antispoof em0"
    ∷ codes "pass label a label b"
    ∷ codes "pass scrub ( )"
    ∷ codes "pass scrub ( no-df no-df )"
    ∷ codes "pass max 5"
    ∷ codes "pass ! tag a" ∷ []) ≡ false
unfolding name_of table_name dynamic address plain_host host operator word_test sign_test op icmp_type target direction iface ifaces family protos ports side hosts log_words log_part log_option log_options log_first quick_first logged tos_words tos_of queues prios set_words set_behind set_part settings scrub_words scrub_behind scrub_part scrub state_words track rate flush overload state_part state_option state_options head_words kind_words reset_kind second_code icmp_kind icmp6_kind block_kind words_behind_anchor anchor_head has_state_fault has_anchor_effect late_of option_words flags users groups flags_part icmp_part tos_part prio_part tagged_part tag_part no_state state_clause set_option scrub_option allow_option label_part nat_part rdr_part option rule_front rule label antispoof load_anchor anchor block statement decimal_of tcp_flags
others = refl
