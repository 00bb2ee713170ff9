use Rattle.std.proofs.Common.{◌≡◌, ◌*◌}
use Rattle.pf_gen.specs.Draws.{after}
use Rattle.pf_gen.specs.Texts.{rules_text}
use Rattle.pf_gen.proofs.making.rules_of.Given as goal

abbrev pub invariant-loop-i : goal.invariant-loop-i
invariant-loop-i l = record {
  number : l.number ≡ after l.fn.number (7 * l._i);
  out : l.out.items ≡ rules_text l.fn.number l._i;
}
