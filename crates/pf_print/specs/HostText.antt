-- How the addresses of a rule are printed (pf.conf(5), PARAMETERS, `from` and `to`).
use Rattle.std.specs.Prelude.{ℕ, Bool, true, false, ◌&&◌, is_none, List, [], ◌∷◌, ◌++◌, Option, Some, codes, decimal, if◌then◌else◌}
use Rattle.std.specs.Option.{option_map}
use Rattle.pf_addr.specs.PrefixText.{prefix_text}
use Rattle.pf_addr.specs.Text.{addr_text}
use Rattle.pf_addr.specs.declared.ifaces.DynIf.{DynIf}
use Rattle.pf_ops.specs.declared.numbers.Numbers.{Numbers}
use Rattle.pf_parts.specs.Parts.{joined}
use Rattle.pf_rule.specs.declared.criteria.AddrSet.{AddrSet}
use Rattle.pf_rule.specs.declared.criteria.AddrSet.TheVariants.{Prefix, Range, Table, Dynamic, Auto}
use Rattle.pf_rule.specs.declared.criteria.AddrTest.{AddrTest}
use Rattle.pf_rule.specs.declared.criteria.AddrTest.TheVariants.{Any, Test}
use Rattle.pf_rule.specs.declared.criteria.Criteria.{Criteria}
use Rattle.pf_print.specs.SetText.{set_text, top_port}

-- a sign where the test holds
abbrev pub text_if : Bool → List ℕ → List ℕ
text_if stands text = if stands then text else []

-- an interface in brackets, with what is asked of it
abbrev pub dynamic_text : DynIf → List ℕ
dynamic_text what = codes "(" ++ what.name ++ text_if what.network (codes ":network") ++ text_if what.first (codes ":0") ++ codes ")"

-- a table that the optimiser made has its number in its name
unfoldable pub addresses_text : AddrSet → List ℕ
addresses_text (Prefix prefix) = prefix_text prefix
addresses_text (Range range) = addr_text range.low ++ codes " - " ++ addr_text range.high
addresses_text (Table name) = codes "<" ++ name ++ codes ">"
addresses_text (Dynamic what) = dynamic_text what
addresses_text (Auto number) = codes "<__automatic_" ++ decimal number ++ codes ">"

unfoldable pub host_text : AddrTest → List ℕ
host_text Any = codes "any"
host_text (Test negated what) = text_if negated (codes "! ") ++ addresses_text what

abbrev pub port_text : Numbers → List ℕ
port_text ports = codes "port " ++ set_text top_port ports

-- each address is any
abbrev pub is_any : AddrTest → Bool
is_any Any = true
is_any (Test negated what) = false

-- neither an address nor a port is tested
abbrev pub tests_no_host : Criteria → Bool
tests_no_host criteria =
    is_any criteria.source && is_any criteria.target && is_none criteria.source_port && is_none criteria.target_port

-- `all`, or both sides
unfoldable pub hosts_text : Criteria → List ℕ
hosts_text criteria = if tests_no_host criteria then codes "all" else joined (codes " ") (
    Some (codes "from " ++ host_text criteria.source) ∷ option_map port_text criteria.source_port
    ∷ Some (codes "to " ++ host_text criteria.target) ∷ option_map port_text criteria.target_port ∷ [])
