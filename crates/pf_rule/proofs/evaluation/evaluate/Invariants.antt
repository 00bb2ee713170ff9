use Rattle.std.proofs.Common.{◌≡◌, ◌+◌, drop}
use Rattle.pf_rule.specs.Around.{around_by}
use Rattle.pf_rule.specs.Opening.{opening_walk}
use Rattle.pf_rule.specs.Walk.{reached, walked}
use Rattle.pf_rule.proofs.evaluation.evaluate.Given as goal

-- the walk so far through the rules that are left is the walk through all, and so it is with the rules that are reached
abbrev pub invariant-loop-rule : goal.invariant-loop-rule
invariant-loop-rule g l =
    let around = around_by (g.M.Members.member l.members) (g.I.Ifaces.in_group l.ifaces) (g.I.Ifaces.dynamic l.ifaces) in
    record {
      rest : walked around (drop l.rule-index l.rules) l.walk ≡ walked around l.rules (opening_walk l.fn.packet);
      counted : l.steps + reached around (drop l.rule-index l.rules) l.walk ≡ l.fn.steps + reached around l.rules (opening_walk l.fn.packet);
    }
