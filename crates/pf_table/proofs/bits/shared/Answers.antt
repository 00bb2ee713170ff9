use Rattle.std.proofs.Common.{arith, ◌<◌, sym, ◌∙◌}
use Rattle.pf_addr.specs.Addr.{width}
use Rattle.pf_table.proofs.Leading.{leading-more}
use Rattle.pf_table.proofs.Bools.{beq-same}
use Rattle.pf_table.proofs.bits.shared.Goals as goal

pub loop-len-preserved : goal.loop-len-preserved
loop-len-preserved c =
    let fits = c.args.b.now.fits in
    let inside : c.loop-len.len < width c.args.b.now.addr = omega arith in
    record {
      known = omega arith;
      within = omega arith;
      same = leading-more c.args.a.now.addr c.args.b.now.addr c.loop-len.len c.requires.family inside c.loop-len.invariant.same (sym c.side.ensures ∙ beq-same _ _ c.if-side.true ∙ c.side-in-loop-len.ensures);
    }
