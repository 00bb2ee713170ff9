use Rattle.std.proofs.Common.{◌≡◌, ◌++◌, drop}
use Rattle.pf_parts.specs.Appending.{Extends}
use Rattle.pf_show.specs.Lines.{shown_by}
use Rattle.pf_show.proofs.lines.append_lines.Given as goal

-- what is appended so far and what is still to append are the whole list
abbrev pub invariant-loop-item : goal.invariant-loop-item
invariant-loop-item g l = record {
  whole : l.out.items ++ shown_by g.T.Line.line (drop l.item-index l.items) ≡ l.fn.out.items ++ shown_by g.T.Line.line l.items;
  kept : Extends l.fn.out.items l.out.items;
}
