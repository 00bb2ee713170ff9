use Rattle.std.proofs.Common.{[], ◌∷◌, ◌++◌, length-append, append_assoc, refl, sym, ap, ◌∙◌, arith}
use Rattle.pf_base.specs.Text.{lines_of}
use Rattle.pf_optim.proofs.SaidRows.{nothing_said}
use Rattle.pf_optim.proofs.reading.read_profile.Goals as goal

pub loop-line-init : goal.loop-line-init
loop-line-init c = record {
  seen = [];
  joined = refl;
  counted = refl;
  few = omega arith;
  said = nothing_said _ c.new-counts.ensures.empty;
}

pub loop-line-preserved : goal.loop-line-preserved
loop-line-preserved c =
    let inv = c.loop-line.invariant in
    let line = c.in-Some.line.now in
    record {
      seen = inv.seen ++ line ∷ [];
      joined = inv.joined ∙ (ap (λ rest. inv.seen ++ rest) c.in-Some.ensures.line ∙ sym (append_assoc inv.seen (line ∷ []) (lines_of c.in-Some.behind.now)));
      counted = omega (arith, length-append inv.seen (line ∷ []), inv.counted);
      few = omega (arith, inv.few, c.in-Some.ensures.shorter);
      said = c.in_default-add_line.ensures inv.seen inv.said;
    }
