use Rattle.std.proofs.Common.{◌≡◌, List, Bool, false, length, get_or, ap, ◌∙◌, arith}
use Rattle.pf_cover.proofs.Searching.{flag_at, flags_long}
use Rattle.pf_cover.proofs.kept.is_dropped.Goals as goal

pub bounds-flags-place : goal.bounds-flags-place
bounds-flags-place c =
    let size : length c.args.flags.now ≡ length c.args.rules.now = ap length c.requires.flags ∙ flags_long c.args.rules.now in
    omega (arith, c.requires.at)

pub returns : goal.returns
returns c =
    ap (λ (t : List Bool). get_or t c.args.place false) c.requires.flags
    ∙ flag_at c.args.rules.now c.args.place c.args.rule.now false c.requires.at c.requires.is
