-- What is generated from a number: a configuration of 2,001 lines, and 5,000 records of packets.
use Rattle.std.specs.Prelude.{ℕ, ◌+◌, ◌*◌, ◌==◌, List, [], ◌++◌, map, flat_map, codes, decimal, if◌then◌else◌}
use Rattle.std.specs.List.{range_with_len}
use Rattle.pf_gen.specs.Draws.{after, draw}

abbrev pub action_text : ℕ → List ℕ
action_text n = if n == 0 then codes "pass" else codes "block"

abbrev pub quick_text : ℕ → List ℕ
quick_text n = if n == 0 then codes " quick" else []

abbrev pub proto_text : ℕ → List ℕ
proto_text n = if n == 0 then codes "tcp" else codes "udp"

-- only a packet of TCP has flags
abbrev pub flags_text : ℕ → List ℕ
flags_text n = if n == 0 then codes " flags=S" else []

-- ACTION [quick] on emE, by the three draws from here on
unfoldable pub action_part : ℕ → List ℕ
action_part x = action_text (draw x 1 2) ++ quick_text (draw x 2 8) ++ codes " on em" ++ decimal (draw x 3 4)

-- proto PROTO from 10.B.C.0/24, by the three draws from here on
unfoldable pub source_part : ℕ → List ℕ
source_part x = codes " proto " ++ proto_text (draw x 1 2) ++ codes " from 10." ++ decimal (draw x 2 256)
    ++ codes "." ++ decimal (draw x 3 256) ++ codes ".0/24"

-- to any port D, by the next draw
unfoldable pub port_part : ℕ → List ℕ
port_part x = codes " to any port " ++ decimal (draw x 1 1000 + 1)

-- a rule, by the seven draws from here on
abbrev pub rule_text : ℕ → List ℕ
rule_text x = action_part x ++ (source_part (after x 3) ++ port_part (after x 6))

-- in emE PROTO, by the two draws from here on
unfoldable pub head_part : ℕ → List ℕ
head_part x = codes "in em" ++ decimal (draw x 1 4) ++ codes " " ++ proto_text (draw x 2 2)

-- 10.B.C.H, by the three draws from here on
unfoldable pub host_part : ℕ → List ℕ
host_part x = codes " 10." ++ decimal (draw x 1 256) ++ codes "." ++ decimal (draw x 2 256) ++ codes "." ++ decimal (draw x 3 256)

-- 192.0.2.1 sport=1024 dport=D, by the next draw; and flags, where the protocol has them
unfoldable pub end_part : ℕ → ℕ → List ℕ
end_part x proto = codes " 192.0.2.1 sport=1024 dport=" ++ decimal (draw x 1 1000 + 1) ++ flags_text proto

-- a record, by the six draws from here on
abbrev pub record_text : ℕ → List ℕ
record_text x = head_part x ++ (host_part (after x 2) ++ end_part (after x 5) (draw x 2 2))

-- the rule's line that so many others stand before
abbrev pub rule_line : ℕ → ℕ → List ℕ
rule_line start place = rule_text (after start (7 * place)) ++ codes "\n"

-- so many rules' lines behind `block all`
unfoldable pub rules_text : ℕ → ℕ → List ℕ
rules_text start many = codes "block all\n" ++ flat_map (rule_line start) (range_with_len 0 many)

-- the record that so many others stand before, in a run whose records begin behind these draws
abbrev pub record_at : ℕ → ℕ → List ℕ
record_at start place = record_text (after start (6 * place))

unfoldable pub records_from : ℕ → ℕ → List (List ℕ)
records_from start many = map (record_at start) (range_with_len 0 many)

-- the configuration of a number
abbrev pub config_of : ℕ → List ℕ
config_of start = rules_text start 2000

-- its records: the draws go on behind the 14,000 of the configuration
abbrev pub records_of : ℕ → List (List ℕ)
records_of start = records_from (after start 14000) 5000
