use Rattle.std.proofs.Common.{arith, ap, sym, ◌∙◌}
use Rattle.std.specs.Str.{bytes_eq}
use Rattle.pf_parts.proofs.CallReads.{up_last, up_more}
use Rattle.pf_parts.proofs.call_text.split_ups.Goals as goal

pub loop-behind-preserved : goal.loop-behind-preserved
loop-behind-preserved c =
    let cut = c.in-Some.ensures.cases in
    record {
      pieces = up_more c.args.text.now c.loop-behind.rest.now c.in-Some.behind.now c.loop-behind.ups c.loop-behind.invariant.pieces cut.0 cut.1;
      bytes = let e = c.loop-behind.invariant.bytes in let f = cut.2 in omega arith;
    }

pub returns-then-eq-clause-pieces : goal.returns-then-eq-clause-pieces
returns-then-eq-clause-pieces c =
    up_last c.args.text.now c.loop-behind.rest.now c.loop-behind.ups c.loop-behind.invariant.pieces
    (ap (bytes_eq c.loop-behind.rest.now) (sym c.as_slice.ensures) ∙ sym c.eq.ensures ∙ c.if-eq.true)
