use Rattle.std.proofs.Common.{ℕ, [], ◌∷◌, ◌++◌, ap, ◌∙◌, inl, inr}
use Rattle.pf_addr.proofs.Digits.{group_text}
use Rattle.pf_addr.proofs.print.put_group.Goals.{then-group-ge4096, else-group-ge4096, then-group-ge256, else-group-ge256, then-group-ge16, else-group-ge16}
use Rattle.pf_addr.proofs.print.put_group.Goals as goal

pub returns-clause-text : goal.returns-clause-text
returns-clause-text c =
    group_text c.args.group c.args.line.now c.if-group-ge4096.line c.if-group-ge256.line c.if-group-ge16.line _
    (elim c.if-group-ge4096.branch [
      | then-group-ge4096 w ↦ inl (w.if-group-ge4096.true, w.line-is ∙ w.push.ensures ∙ ap (λ (t : ℕ). c.args.line.now ++ t ∷ []) w.hex_digit.ensures)
      | else-group-ge4096 w ↦ inr (w.if-group-ge4096.false, w.line-is)
    ])
    (elim c.if-group-ge256.branch [
      | then-group-ge256 w ↦ inl (w.if-group-ge256.true, w.line-is ∙ w.push-then-group-ge256.ensures ∙ ap (λ (t : ℕ). c.if-group-ge4096.line ++ t ∷ []) w.hex_digit-then-group-ge256.ensures)
      | else-group-ge256 w ↦ inr (w.if-group-ge256.false, w.line-is)
    ])
    (elim c.if-group-ge16.branch [
      | then-group-ge16 w ↦ inl (w.if-group-ge16.true, w.line-is ∙ w.push-then-group-ge16.ensures ∙ ap (λ (t : ℕ). c.if-group-ge256.line ++ t ∷ []) w.hex_digit-then-group-ge16.ensures)
      | else-group-ge16 w ↦ inr (w.if-group-ge16.false, w.line-is)
    ])
    (c.push-2.ensures ∙ ap (λ (t : ℕ). c.if-group-ge16.line ++ t ∷ []) c.hex_digit-2.ensures)
