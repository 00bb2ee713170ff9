use Rattle.std.proofs.Common.{◌≡◌, ◌*◌}
use Rattle.pf_gen.specs.Draws.{after}
use Rattle.pf_gen.specs.Texts.{records_from}
use Rattle.pf_gen.proofs.making.packets_of.Given as goal

abbrev pub invariant-loop-i : goal.invariant-loop-i
invariant-loop-i l = record {
  number : l.number ≡ after l.fn.number (6 * l._i);
  records : l.records ≡ records_from l.fn.number l._i;
}
