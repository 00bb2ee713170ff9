use Rattle.std.proofs.Common.{◌≡◌, length}
use Rattle.std.specs.List.{list_all}
use Rattle.std.specs.Option.{option_copied}
use Rattle.pf_base.specs.Name.{is_plain_name}
use Rattle.pf_host.specs.Reading.{fields_left}
use Rattle.pf_host.proofs.statement.are_names.Given as goal

-- what is left has the answer of all
abbrev pub invariant-loop-next : goal.invariant-loop-next
invariant-loop-next l = list_all is_plain_name (fields_left (option_copied l.next)) ≡ list_all is_plain_name (fields_left (option_copied l.fn.rest))

abbrev pub decreases-loop-next : goal.decreases-loop-next
decreases-loop-next l = length (fields_left (option_copied l.next))
