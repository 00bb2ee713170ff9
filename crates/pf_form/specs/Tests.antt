-- The parts of a rule in front of its options: direction, interfaces, family, protocols and hosts (pf.conf(5), GRAMMAR,
-- `pf-rule`, `ifspec`, `af`, `protospec`, `hosts`).
use Rattle.std.specs.Prelude.{ℕ, Bool, true, false, List, [], ◌∷◌, Option, Some, None, codes}
use Rattle.pf_base.specs.declared.kind.Family.{Family}
use Rattle.pf_base.specs.declared.kind.Family.TheVariants.{Inet, Inet6}
use Rattle.pf_parts.specs.declared.direction.Direction.{Direction}
use Rattle.pf_parts.specs.declared.direction.Direction.TheVariants.{In, Out}
use Rattle.pf_parts.specs.declared.matching.IfTest.{IfTest}
use Rattle.pf_parts.specs.declared.matching.IfTest.TheVariants.{Any, On}
use Rattle.pf_syntax.specs.Symbols.{next_is, is_word}
use Rattle.pf_syntax.specs.Grammar.{Grammar, ◌>>=◌, give, on_word, where_next}
use Rattle.pf_syntax.specs.Words.{name, perhaps_sign}
use Rattle.pf_syntax.specs.Lists.{list_of}
use Rattle.pf_syntax.specs.Hosts.{host}
use Rattle.pf_syntax.specs.Operators.{op}
use Rattle.pf_syntax.specs.declared.form.HostItem.{HostItem}
use Rattle.pf_syntax.specs.declared.form.OpItem.{OpItem}
use Rattle.pf_form.specs.declared.hosts.Side.{Side}
use Rattle.pf_form.specs.declared.hosts.Hosts.{Hosts}

-- `["in" | "out"]`
unfoldable pub direction : Grammar (Option Direction)
direction = on_word (codes "in") (give (Some In)) (on_word (codes "out") (give (Some Out)) (give None))

abbrev pub interface : List ℕ → Bool → IfTest
interface name negated = On name negated

-- `"any" | ["!"] NAME`
unfoldable pub iface : Grammar IfTest
iface = on_word (codes "any") (give Any) (do
  negated ← perhaps_sign (codes "!")
  text ← name
  give (interface text negated))

-- `["on" list of iface]`
unfoldable pub ifaces : Grammar (List IfTest)
ifaces = on_word (codes "on") (list_of iface) (give [])

-- `["inet" | "inet6"]`
unfoldable pub family : Grammar (Option Family)
family = on_word (codes "inet") (give (Some Inet)) (on_word (codes "inet6") (give (Some Inet6)) (give None))

-- `["proto" list of NAME]`
unfoldable pub protos : Grammar (List (List ℕ))
protos = on_word (codes "proto") (list_of name) (give [])

-- `["port" list of op]`
unfoldable pub ports : Grammar (List OpItem)
ports = on_word (codes "port") (list_of op) (give [])

-- the hosts before a `port`: `any` or a list of hosts
abbrev pub where_hosts : Grammar (List HostItem)
where_hosts = where_next (next_is (is_word (codes "port"))) (give []) (list_of host)

-- `ports | where [ports]`
unfoldable pub side : Grammar Side
side = do
  hosts ← where_hosts
  tests ← ports
  give (record { hosts = hosts; ports = tests })

abbrev pub no_side : Side
no_side = record { hosts = []; ports = [] }

-- `[word side]`
abbrev pub side_behind : List ℕ → Grammar Side
side_behind word = on_word word side (give no_side)

-- `["all" | ["from" side] ["to" side]]`
unfoldable pub hosts : Grammar Hosts
hosts = on_word (codes "all") (give (record { sources = no_side; targets = no_side })) (do
  sources ← side_behind (codes "from")
  targets ← side_behind (codes "to")
  give (record { sources = sources; targets = targets }))
