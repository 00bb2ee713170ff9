use Rattle.std.proofs.Common.{◌≡◌, ◌++◌, drop}
use Rattle.std.specs.List.{filter_map}
use Rattle.pf_parts.specs.Appending.{Extends}
use Rattle.pf_show.specs.Lines.{lines_text}
use Rattle.pf_show.specs.Shelves.{line_at}
use Rattle.pf_show.proofs.shelves.put_named.Given as goal

-- what is appended so far and what is still to append are the whole list
abbrev pub invariant-loop-name : goal.invariant-loop-name
invariant-loop-name l = record {
  whole : l.out.items ++ lines_text (filter_map (line_at l.shelf) (drop l.name-index l.names)) ≡ l.fn.out.items ++ lines_text (filter_map (line_at l.shelf) l.names);
  kept : Extends l.fn.out.items l.out.items;
}
