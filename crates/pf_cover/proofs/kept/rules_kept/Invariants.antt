use Rattle.std.proofs.Common.{◌≡◌, ◌++◌, map, not, drop}
use Rattle.std.specs.List.{enumerate_from, filter}
use Rattle.pf_cover.specs.Kept.{is_dropped, kept_rules}
use Rattle.pf_cover.proofs.kept.rules_kept.Given as goal

abbrev pub invariant-loop-i : goal.invariant-loop-i
invariant-loop-i l =
    l.kept ++ map (λ rule. rule.1) (filter (λ rule. not (is_dropped l.rules rule)) (enumerate_from l.i (drop l.i l.rules)))
    ≡ kept_rules l.rules
