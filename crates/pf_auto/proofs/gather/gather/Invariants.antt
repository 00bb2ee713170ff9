use Rattle.std.proofs.Common.{◌≡◌, take}
use Rattle.std.specs.HashMap as hash
use Rattle.std.specs.List.{zip}
use Rattle.pf_auto.specs.Beside.{besides, keyed}
use Rattle.pf_auto.specs.Groups.{gathered}
use Rattle.pf_rule.specs.declared.rule.Rule.{Rule}
use Rattle.pf_auto.proofs.gather.gather.Given as goal

abbrev pub invariant-loop-i : goal.invariant-loop-i
invariant-loop-i l = (key : Rule) → hash.get besides.same l.groups (keyed key) ≡ gathered l.end (take l.i (zip l.rules l.weights)) key
