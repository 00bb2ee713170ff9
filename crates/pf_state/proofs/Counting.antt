-- The counts of a map of rulesets by their outlines.
use Rattle.std.proofs.Common.{◌≡◌, ℕ, suc, ◌+◌, List, [], ◌∷◌, map, length, refl, sym, ap, ◌∙◌, arith}
use Rattle.std.specs.List.{sum_by}
use Rattle.std.specs.FinMap as fin
use Rattle.std.specs.FinMap.{FinMap}
use Rattle.std.proofs.lemmas.List.Sums.{sum_by-cons}
use Rattle.pf_optim.specs.declared.node.Node.{Node}
use Rattle.pf_shelf.specs.Shelf.{total}
use Rattle.pf_tree.specs.Order.{path_cmp}
use Rattle.pf_state.specs.Outlines.{AreOutlined, outline_of}
use Rattle.pf_state.specs.Rulesets.{Rulesets, count_entries, count_rules}
use Rattle.pf_state.specs.declared.outline.Outline.{Outline}
use Rattle.pf_state.proofs.Mapped.{entries_over, over}

-- a sum over the outlines is that over the rulesets
sum_over : (told : Outline → ℕ) (count : Node → ℕ) → ((node : Node) → told (outline_of node) ≡ count node) → (es : List (List (List ℕ) × Node)) → sum_by (λ e. told e.1) (over outline_of es) ≡ sum_by count (map (λ e. e.1) es)
sum_over told count same [] = refl
sum_over told count same (e ∷ es) =
    sum_by-cons (λ e. told e.1) (e.0, outline_of e.1) (over outline_of es)
    ∙ (λ i. same e.1 i + sum_over told count same es i)
    ∙ sym (sum_by-cons count e.1 (map (λ e. e.1) es))

length_over : (es : List (List (List ℕ) × Node)) → length (over outline_of es) ≡ length es
length_over [] = refl
length_over (e ∷ es) = ap suc (length_over es)

module _ (rulesets : Rulesets) (outlines : FinMap path_cmp Outline) (are : AreOutlined rulesets outlines) where
  pub rules_counted : sum_by (λ (e : List (List ℕ) × Outline). e.1.rules) (fin.entries outlines) ≡ count_rules rulesets
  rules_counted = ap (sum_by (λ (e : List (List ℕ) × Outline). e.1.rules)) (entries_over outline_of rulesets outlines are.at)
      ∙ sum_over (λ outline. outline.rules) (λ node. length node.rules.rules) (λ node. refl) (fin.entries rulesets)

  pub entries_counted : sum_by (λ (e : List (List ℕ) × Outline). e.1.entries) (fin.entries outlines) ≡ count_entries rulesets
  entries_counted = ap (sum_by (λ (e : List (List ℕ) × Outline). e.1.entries)) (entries_over outline_of rulesets outlines are.at)
      ∙ sum_over (λ outline. outline.entries) (λ node. total node.shelf) (λ node. refl) (fin.entries rulesets)

  pub nodes_counted : fin.len outlines ≡ fin.len rulesets
  nodes_counted = fin.len-entries outlines ∙ ap length (entries_over outline_of rulesets outlines are.at) ∙ length_over (fin.entries rulesets) ∙ sym (fin.len-entries rulesets)
