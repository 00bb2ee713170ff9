-- The first 63 bytes, or all.
use Rattle.std.proofs.Common.{take, ap, ◌∙◌, arith}
use Rattle.std.proofs.lemmas.List.{take_min}
use Rattle.pf_base.proofs.name.named_in_fault.Goals as goal

pub returns : goal.returns
returns c =
    c.in-Some.ensures.same
    ∙ ap (λ n. take n c.args.word.now) (c.min-end.ensures ∙ omega arith)
    ∙ take_min 63 c.args.word.now
