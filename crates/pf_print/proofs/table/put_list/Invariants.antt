use Rattle.std.proofs.Common.{◌≡◌, ◌∷◌, ◌++◌, codes, drop}
use Rattle.std.specs.List.{flat_map, join_by}
use Rattle.pf_parts.specs.Appending.{Extends}
use Rattle.pf_print.specs.TableText.{entry_text}
use Rattle.pf_print.proofs.table.put_list.Given as goal

-- what is appended so far and what is still to append are the whole list
abbrev pub invariant-loop-entry : goal.invariant-loop-entry
invariant-loop-entry l = record {
  whole : l.out.items ++ flat_map (λ entry. codes ", " ++ entry_text entry) (drop l.entry-index l.more) ≡ l.fn.out.items ++ join_by entry_text (codes ", ") (l.first ∷ l.more);
  kept : Extends l.fn.out.items l.out.items;
}
