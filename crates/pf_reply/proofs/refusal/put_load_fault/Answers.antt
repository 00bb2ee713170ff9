use Rattle.std.proofs.Common.{ℕ, ◌++◌, ap, ◌∙◌}
use Rattle.std.specs.Prelude.{codes}
use Rattle.pf_reply.proofs.Pieces.{four}
use Rattle.pf_reply.specs.Texts.{numbered}
use Rattle.pf_reply.proofs.refusal.put_load_fault.Goals as goal

pub returns-clause-ok : goal.returns-clause-ok
returns-clause-ok c =
    four _ _ _ _ _ _ _ _ _ c.in_ok-put.ensures.ok c.in_ok-put_kind.ensures.ok c.in_ok-put_both.ensures.ok
    (c.in_ok-put_numbered.ensures.ok ∙ ap (λ (n : ℕ). c.put_both.new.out.items ++ numbered (codes ":") n) c.from.ensures)
