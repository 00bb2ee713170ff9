use Rattle.std.proofs.Common.{◌≡◌, ◌-◌, ◌++◌}
use Rattle.std.specs.List.{flat_map, range_with_len}
use Rattle.pf_optim.specs.Ruleset.{form_of}
use Rattle.pf_optim.specs.Skips.{skip}
use Rattle.pf_parts.specs.Appending.{Extends}
use Rattle.pf_show.specs.Skipping.{place_text}
use Rattle.pf_show.proofs.skips.put_fields.Given as goal

-- what is appended so far and what is still to append are all eight
abbrev pub invariant-loop-field : goal.invariant-loop-field
invariant-loop-field l = record {
  whole : l.out.items ++ flat_map (λ field. place_text (skip (form_of l.rules).rules l.place field)) (range_with_len l.field (8 - l.field)) ≡ l.fn.out.items ++ flat_map (λ field. place_text (skip (form_of l.rules).rules l.place field)) (range_with_len 0 8);
  kept : Extends l.fn.out.items l.out.items;
}
