use Rattle.std.proofs.Common.{◌≡◌, ◌-◌, ◌++◌}
use Rattle.std.specs.List.{range_with_len}
use Rattle.pf_optim.specs.Ruleset.{form_of}
use Rattle.pf_parts.specs.Appending.{Extends}
use Rattle.pf_show.specs.Lines.{shown_by}
use Rattle.pf_show.specs.Skipping.{skip_line}
use Rattle.pf_show.proofs.skips.put_skips.Given as goal

-- what is appended so far and what is still to append are the whole list
abbrev pub invariant-loop-place : goal.invariant-loop-place
invariant-loop-place l = record {
  whole : l.out.items ++ shown_by (skip_line (form_of l.rules).rules) (range_with_len l.place (l.count - l.place)) ≡ l.fn.out.items ++ shown_by (skip_line (form_of l.rules).rules) (range_with_len 0 l.count);
  kept : Extends l.fn.out.items l.out.items;
}
