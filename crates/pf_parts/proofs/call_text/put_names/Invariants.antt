use Rattle.std.proofs.Common.{◌≡◌, ◌++◌, drop}
use Rattle.pf_parts.specs.Appending.{Extends}
use Rattle.pf_parts.specs.CallPieces.{pieces_text}
use Rattle.pf_parts.proofs.call_text.put_names.Given as goal

-- what is appended so far and what is still to append are all names
abbrev pub invariant-loop-name : goal.invariant-loop-name
invariant-loop-name l = record {
  whole : l.out.items ++ pieces_text l.some (drop l.name-index l.names) ≡ l.fn.out.items ++ pieces_text l.fn.some l.names;
  kept : Extends l.fn.out.items l.out.items;
}
