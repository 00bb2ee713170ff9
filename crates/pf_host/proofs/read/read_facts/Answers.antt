use Rattle.std.proofs.Common.{[], ◌∷◌, ◌++◌, length-append, append_assoc, refl, sym, ap, ◌∙◌, arith}
use Rattle.pf_base.specs.Text.{lines_of}
use Rattle.pf_host.proofs.Texts.{nothing_said, sound_more, sound_none}
use Rattle.pf_host.proofs.read.read_facts.Goals as goal

pub loop-line-init : goal.loop-line-init
loop-line-init c = record {
  seen = [];
  joined = refl;
  counted = refl;
  few = omega arith;
  sound = sound_none;
  said = rw nothing_said c.new-lists.ensures.said;
}

pub loop-line-preserved : goal.loop-line-preserved
loop-line-preserved c =
    let inv = c.loop-line.invariant in
    let line = c.in-Some.line.now in
    let takes = c.in_default-add_line.ensures inv.seen inv.said in
    record {
      seen = inv.seen ++ line ∷ [];
      joined = inv.joined ∙ (ap (λ rest. inv.seen ++ rest) c.in-Some.ensures.line ∙ sym (append_assoc inv.seen (line ∷ []) (lines_of c.in-Some.behind.now)));
      counted = omega (arith, length-append inv.seen (line ∷ []), inv.counted);
      few = omega (arith, inv.few, c.in-Some.ensures.shorter);
      sound = sound_more inv.seen line inv.sound takes.sound;
      said = takes.said;
    }
