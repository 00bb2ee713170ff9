use Rattle.std.proofs.Common.{◌≡◌, take}
use Rattle.std.specs.Prelude.{map}
use Rattle.pf_grammar.specs.Statements.{on_interface}
use Rattle.pf_grammar.proofs.statement.tests_of.Given as goal

-- the tests of the names so far
abbrev pub invariant-loop-name : goal.invariant-loop-name
invariant-loop-name l = l.tests ≡ map on_interface (take l.name-index l.names)
