use Rattle.std.proofs.Common.{◌≡◌}
use Rattle.pf_cover.proofs.Keeping.{all_kept, kept_fewer, kept_test}
use Rattle.pf_cover.proofs.laws.kept_rules_are_of_the_block.Goals as goal

pub returns : goal.returns
returns c = record { tests = kept_test; effects = λ effect rules h. all_kept (λ rule. rule.effect ≡ effect) rules h; fewer = kept_fewer }
