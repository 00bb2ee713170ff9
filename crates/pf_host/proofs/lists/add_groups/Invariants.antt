use Rattle.std.proofs.Common.{◌≡◌, ◌++◌, true, length}
use Rattle.std.specs.List.{list_all}
use Rattle.std.specs.Option.{option_copied}
use Rattle.pf_base.specs.Name.{is_plain_name}
use Rattle.pf_host.specs.Meaning.{groups_of}
use Rattle.pf_host.specs.Reading.{fields_left}
use Rattle.pf_host.proofs.lists.add_groups.Given as goal

-- what was added and what is left to add make all
abbrev pub invariant-loop-next : goal.invariant-loop-next
invariant-loop-next l = record {
  named : list_all is_plain_name (fields_left (option_copied l.next)) ≡ true;
  added : l.members ++ groups_of l.iface (fields_left (option_copied l.next)) ≡ l.initial.members ++ groups_of l.iface (fields_left (option_copied l.fn.rest));
}

abbrev pub decreases-loop-next : goal.decreases-loop-next
decreases-loop-next l = length (fields_left (option_copied l.next))
