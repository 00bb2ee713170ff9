-- When an automatic table stands for its entries, and which automatic tables rules name.
use Rattle.std.specs.Prelude.{◌≡◌, ℕ, List, Bool, true, ◌&&◌, nat_le, nat_lt, All}
use Rattle.pf_addr.specs.declared.addr.Addr.{Addr}
use Rattle.pf_auto.specs.declared.merging.AutoTable.{AutoTable}
use Rattle.pf_rule.specs.Around.{Around}
use Rattle.pf_rule.specs.declared.criteria.AddrSet.TheVariants.{Prefix, Range, Table, Dynamic, Auto}
use Rattle.pf_rule.specs.declared.criteria.AddrTest.{AddrTest}
use Rattle.pf_rule.specs.declared.criteria.AddrTest.TheVariants as address
use Rattle.pf_rule.specs.declared.rule.Rule.{Rule}
use Rattle.pf_table.specs.Table.{member}

-- what stands around the rules answers for each of these tables by its entries
abbrev pub StandFor : Around → List AutoTable → Type 0
StandFor around tables = All (λ table. (addr : Addr) → around.member (Auto table.number) addr ≡ member table.entries addr) tables

-- a test that names no automatic table, or one whose number lies from `low` on and below `high`
abbrev pub test_names_between : ℕ → ℕ → AddrTest → Bool
test_names_between low high address.Any = true
test_names_between low high (address.Test negated (Prefix prefix)) = true
test_names_between low high (address.Test negated (Range range)) = true
test_names_between low high (address.Test negated (Table name)) = true
test_names_between low high (address.Test negated (Dynamic what)) = true
test_names_between low high (address.Test negated (Auto number)) = nat_le low number && nat_lt number high

-- a rule that names no other automatic tables than these
abbrev pub names_between : ℕ → ℕ → Rule → Bool
names_between low high rule = test_names_between low high rule.criteria.source && test_names_between low high rule.criteria.target

-- a rule that names none
abbrev pub names_none : Rule → Bool
names_none rule = names_between 0 0 rule
