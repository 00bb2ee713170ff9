-- What is found at a path of a finite map by paths.
use Rattle.std.proofs.Common.{◌≡◌, ℕ, Bool, true, false, cond, List, [], ◌∷◌, Option, Some, None, refl, sym, ap, ◌∙◌}
use Rattle.std.specs.Bool.{Decides}
use Rattle.std.specs.Cmp.{Equal-is}
use Rattle.std.specs.Ordering.{eq_by_cmp, is_eq}
use Rattle.std.specs.FinMap as fin
use Rattle.std.specs.FinMap.{FinMap}
use Rattle.std.proofs.lemmas.Bool.Decides.{same_from_decides}
use Rattle.std.proofs.lemmas.Cmp.{tied_itself}
use Rattle.pf_calls.specs.CallLaws.{paths_decide}
use Rattle.pf_calls.specs.Calls.{path_eq}
use Rattle.pf_tree.specs.GrownLaws.{path_same, path_total}
use Rattle.pf_tree.specs.Meaning.{put_payload}
use Rattle.pf_tree.specs.Order.{path_cmp}

pub ties_decide : (a b : List (List ℕ)) → Decides (eq_by_cmp path_cmp a b) (a ≡ b)
ties_decide a b = (λ h. path_same a b ((Equal-is (path_cmp a b)).0 h), λ e. ap (λ (x : List (List ℕ)). eq_by_cmp path_cmp a x) (sym e) ∙ ap is_eq (tied_itself path_total a))

-- paths tie exactly where they are equal
pub ties : (a b : List (List ℕ)) → eq_by_cmp path_cmp a b ≡ path_eq a b
ties a b = same_from_decides _ _ (ties_decide a b) (paths_decide a b)

module _ {X : Type 0} where
  -- what stands at a path after a payload is put at another, or taken away there
  pub found_put : (m : FinMap path_cmp X) (path : List (List ℕ)) (x : Option X) (q : List (List ℕ)) → fin.get (put_payload m path x) q ≡ cond (path_eq q path) x (fin.get m q)
  found_put m path None q = fin.get-remove path_total m path q ∙ ap (λ b. cond b None (fin.get m q)) (ties q path)
  found_put m path (Some x) q = fin.get-insert path_total m path x q ∙ ap (λ b. cond b (Some x) (fin.get m q)) (ties q path)

  -- what stands at a path where only those that pass a test are kept
  pub found_kept : (m : FinMap path_cmp X) (p : List (List ℕ) → Bool) (q : List (List ℕ)) → fin.get (fin.retain_keys m p) q ≡ cond (p q) (fin.get m q) None
  found_kept m p q = fin.get-retain_keys m p q (λ x tie. ap p (sym (path_same q x tie)))

  -- maps that answer alike are equal
  pub same_maps : (m n : FinMap path_cmp X) → ((q : List (List ℕ)) → fin.get m q ≡ fin.get n q) → m ≡ n
  same_maps = fin.same_map path_total path_same
