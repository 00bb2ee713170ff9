use Rattle.std.proofs.Common.{◌≡◌, ◌++◌, drop, false, map}
use Rattle.pf_parts.specs.Appending.{Extends}
use Rattle.pf_parts.specs.Items.{part_of, rest_text}
use Rattle.pf_parts.proofs.item.put_in_brackets.Given as goal

-- what is appended so far and what is still to append are the whole list
abbrev pub invariant-loop-item : goal.invariant-loop-item
invariant-loop-item l = record {
  whole : l.out.items ++ rest_text l.some (map part_of (drop l.item-index l.items)) ≡ l.fn.out.items ++ rest_text false (map part_of l.items);
  kept : Extends l.fn.out.items l.out.items;
}
