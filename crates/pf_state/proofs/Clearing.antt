-- Rulesets that go, part by part.
use Rattle.std.proofs.Common.{◌≡◌, ℕ, Bool, true, false, cond, not, List, [], ◌∷◌, Option, Some, None, refl, sym, ap, ◌∙◌}
use Rattle.std.specs.Prelude.{◌||◌}
use Rattle.std.specs.FinMap as fin
use Rattle.pf_optim.specs.declared.node.Node.{Node}
use Rattle.pf_tree.specs.Paths.{is_nameless_below}
use Rattle.pf_state.specs.Rulesets.{Rulesets}
use Rattle.pf_state.specs.Commits.{is_cleared}
use Rattle.pf_state.specs.declared.ready.Staged.{Staged}
use Rattle.pf_state.proofs.Found.{found_kept, same_maps}

abbrev pub cleared_by : List Staged → Rulesets → Rulesets
cleared_by [] rulesets = rulesets
cleared_by (part ∷ parts) rulesets = cleared_by parts (fin.retain_keys rulesets (λ at. not (is_nameless_below part.path at)))

twice : (a b : Bool) (x : Option Node) → cond (not b) (cond (not a) x None) None ≡ cond (not (a || b)) x None
twice true true x = refl
twice true false x = refl
twice false true x = refl
twice false false x = refl

all_kept : (rulesets : Rulesets) → rulesets ≡ fin.retain_keys rulesets (λ at. not (is_cleared [] at))
all_kept rulesets = same_maps _ _ (λ q. sym (found_kept rulesets (λ at. not (is_cleared [] at)) q))

-- those that go with the first part and those that go with the others are all that go
pub cleared : (parts : List Staged) (rulesets : Rulesets) → cleared_by parts rulesets ≡ fin.retain_keys rulesets (λ at. not (is_cleared parts at))
cleared [] rulesets = all_kept rulesets
cleared (part ∷ parts) rulesets =
    cleared parts _ ∙ same_maps _ _ (λ q.
    found_kept (fin.retain_keys rulesets (λ at. not (is_nameless_below part.path at))) (λ at. not (is_cleared parts at)) q
    ∙ ap (λ x. cond (not (is_cleared parts q)) x None) (found_kept rulesets (λ at. not (is_nameless_below part.path at)) q)
    ∙ twice (is_nameless_below part.path q) (is_cleared parts q) (fin.get rulesets q)
    ∙ sym (found_kept rulesets (λ at. not (is_cleared (part ∷ parts) at)) q))
