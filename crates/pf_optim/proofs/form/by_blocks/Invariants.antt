use Rattle.std.proofs.Common.{◌≡◌, ◌+◌, ◌≤◌, drop, length}
use Rattle.std.specs.List.{flat_map, zip}
use Rattle.pf_optim.specs.FormSteps.{shown}
use Rattle.pf_optim.specs.Optimised.{blocks_in, blocks_optimised, joined}
use Rattle.pf_optim.proofs.form.by_blocks.Given as goal

-- what is made of the blocks so far, with what is made of the others, is what is made of all
abbrev pub invariant-loop-span : goal.invariant-loop-span
invariant-loop-span l = record {
  found : joined (shown l.form) (blocks_optimised l.level (length l.form.tables) (drop l.span-index (blocks_in (zip l.rules l.weights)))) ≡ blocks_optimised l.level 0 (blocks_in (zip l.rules l.weights));
  room : length l.form.rules + length l.form.tables + length (flat_map (λ block. block) (drop l.span-index (blocks_in (zip l.rules l.weights)))) ≤ length l.rules;
}
