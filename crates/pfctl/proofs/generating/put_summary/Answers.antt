use Rattle.std.proofs.Common.{List, ℕ, ◌∷◌, ◌++◌, [], codes, decimal, ap, ◌∙◌}
use Rattle.pfctl.proofs.Counting.{summary_joined}
use Rattle.pfctl.proofs.generating.put_summary.Goals as goal

pub returns : goal.returns
returns c =
    c.in_ok-extend_from_slice-5.ensures.items
    ∙ (ap (λ (o : List ℕ). o ++ 10 ∷ []) (c.in_ok-put_count-4.ensures.ok
    ∙ ap (λ (o : List ℕ). o ++ decimal c.args.summary.now.block) (c.in_ok-extend_from_slice-4.ensures.items
    ∙ ap (λ (o : List ℕ). o ++ codes " block=") (c.in_ok-put_count-3.ensures.ok
    ∙ ap (λ (o : List ℕ). o ++ decimal c.args.summary.now.pass) (c.in_ok-extend_from_slice-3.ensures.items
    ∙ ap (λ (o : List ℕ). o ++ codes " pass=") (c.in_ok-put_count-2.ensures.ok
    ∙ ap (λ (o : List ℕ). o ++ decimal c.args.summary.now.rules) (c.in_ok-extend_from_slice-2.ensures.items
    ∙ ap (λ (o : List ℕ). o ++ codes " rules=") (c.in_ok-put_count.ensures.ok
    ∙ ap (λ (o : List ℕ). o ++ decimal c.args.number) c.in_ok-extend_from_slice.ensures.items)))))))
    ∙ summary_joined c.args.out.now.items c.args.number c.args.summary.now)
