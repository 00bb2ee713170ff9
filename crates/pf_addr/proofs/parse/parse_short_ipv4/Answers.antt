use Rattle.std.proofs.Common.{arith}
use Rattle.pf_addr.proofs.Texts.{missing_is, length-short}
use Rattle.pf_addr.proofs.Short.{short_from}
use Rattle.pf_addr.proofs.parse.parse_short_ipv4.Goals as goal

pub returns-then-dots-gt3 : goal.returns-then-dots-gt3
returns-then-dots-gt3 c n h = absurd (omega (arith, missing_is _ n h, length-short _ n h))

pub returns : goal.returns
returns c =
    short_from c.args.text.now c.with_zeros.result c.count_dots-dots.result _ c.count_dots-dots.ensures c.if-dots-gt3.false c.with_zeros.ensures c.parse_ipv4.ensures
