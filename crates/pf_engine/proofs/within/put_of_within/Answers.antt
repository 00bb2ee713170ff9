use Rattle.std.proofs.Common.{ℕ, List, [], ◌∷◌, ◌++◌, ap, ◌∙◌}
use Rattle.std.specs.Prelude.{codes}
use Rattle.std.specs.Fmt.{decimal}
use Rattle.pf_engine.proofs.Piecewise.{seven}
use Rattle.pf_engine.proofs.within.put_of_within.Goals as goal

pub returns : goal.returns
returns c =
    c.put_within-4.ensures.items
    ∙ ap (λ (t : List ℕ). t ++ (codes "." ++ 10 ∷ [])) (c.put_within-3.ensures.items
    ∙ ap (λ (t : List ℕ). t ++ c.args.what.now) (c.put_within-2.ensures.items
    ∙ ap (λ (t : List ℕ). t ++ codes " addresses ") (c.put_count_within-2.ensures.items
    ∙ ap (λ (t : List ℕ). t ++ decimal c.args.words) (c.put_within.ensures.items
    ∙ ap (λ (t : List ℕ). t ++ codes "/") c.put_count_within.ensures.items))))
    ∙ seven c.args.out.now.items (decimal c.args.count) (codes "/") (decimal c.args.words) (codes " addresses ") c.args.what.now (codes ".") (10 ∷ [])
