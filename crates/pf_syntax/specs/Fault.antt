-- What a statement outside the grammar is refused as: by the first word without quotes of a part of pf.conf(5) that isn't
-- supported, else as a syntax error.
use Rattle.std.specs.Prelude.{ℕ, Bool, ◌||◌, List, [], ◌∷◌, ◌++◌, Option, Some, None, find, take, codes}
use Rattle.std.specs.List.{filter_map, list_any}
use Rattle.std.specs.Str.{bytes_eq}
use Rattle.pf_syntax.specs.Symbols.{Symbols}
use Rattle.pf_syntax.specs.Words.{bare_text}
use Rattle.pf_syntax.specs.declared.fault.FormFault.{FormFault}
use Rattle.pf_syntax.specs.declared.fault.FormFault.TheVariants.{Syntax, Unsupported}

-- the timeouts of `set timeout`
unfoldable pub timeouts : List (List ℕ)
timeouts =
    codes "tcp.first" ∷ codes "tcp.opening" ∷ codes "tcp.established" ∷ codes "tcp.closing" ∷ codes "tcp.finwait"
    ∷ codes "tcp.closed" ∷ codes "tcp.tsdiff" ∷ codes "udp.first" ∷ codes "udp.single" ∷ codes "udp.multiple"
    ∷ codes "icmp.first" ∷ codes "icmp.error" ∷ codes "other.first" ∷ codes "other.single" ∷ codes "other.multiple"
    ∷ codes "frag" ∷ codes "interval" ∷ codes "src.track" ∷ codes "adaptive.start" ∷ codes "adaptive.end" ∷ []

-- words of rules and settings
unfoldable pub words_left_out : List (List ℕ)
words_left_out =
    codes "route-to" ∷ codes "reply-to" ∷ codes "dup-to" ∷ codes "divert-to" ∷ codes "divert-reply" ∷ codes "divert-packet"
    ∷ codes "rdomain" ∷ codes "rtable" ∷ codes "received-on" ∷ codes "route" ∷ codes "no-route" ∷ codes "urpf-failed"
    ∷ codes "os" ∷ codes "fragment" ∷ codes "probability" ∷ codes "once" ∷ codes "af-to" ∷ codes "binat-to"
    ∷ codes "static-port" ∷ codes "bitmask" ∷ codes "random" ∷ codes "source-hash" ∷ codes "round-robin"
    ∷ codes "least-states" ∷ codes "sticky-address" ∷ codes "max-pkt-rate" ∷ codes "delay" ∷ codes "flows"
    ∷ codes "quantum" ∷ codes "hostid" ∷ codes "syncookies" ∷ codes "state-defaults" ∷ []

-- further names of values of `tos`
unfoldable pub tos_left_out : List (List ℕ)
tos_left_out =
    codes "ef" ∷ codes "cs0" ∷ codes "cs1" ∷ codes "cs2" ∷ codes "cs3" ∷ codes "cs4" ∷ codes "cs5" ∷ codes "cs6"
    ∷ codes "cs7" ∷ codes "af11" ∷ codes "af12" ∷ codes "af13" ∷ codes "af21" ∷ codes "af22" ∷ codes "af23"
    ∷ codes "af31" ∷ codes "af32" ∷ codes "af33" ∷ codes "af41" ∷ codes "af42" ∷ codes "af43" ∷ codes "critical"
    ∷ codes "inetcontrol" ∷ codes "netcontrol" ∷ []

-- this word is one of those
abbrev pub is_one_of : List (List ℕ) → List ℕ → Bool
is_one_of words word = list_any (λ other. bytes_eq word other) words

unfoldable pub is_left_out : List ℕ → Bool
is_left_out word = is_one_of words_left_out word || is_one_of timeouts word || is_one_of tos_left_out word

abbrev pub fault_of_word : Option (List ℕ) → FormFault
fault_of_word None = Syntax
fault_of_word (Some word) = Unsupported (take 63 word)

-- the first word without quotes of a part that isn't supported
abbrev pub first_left_out : Symbols → Option (List ℕ)
first_left_out symbols = find is_left_out (filter_map bare_text symbols)

abbrev pub outside_fault : Symbols → FormFault
outside_fault symbols = fault_of_word (first_left_out symbols)
