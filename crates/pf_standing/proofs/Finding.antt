-- What is found in a map by paths or by names, and in a list.
use Rattle.std.proofs.Common.{◌≡◌, ℕ, Bool, true, false, cond, List, [], ◌∷◌, Option, Some, None, sym, ap, subst, ◌∙◌, inl, inr}
use Rattle.std.specs.Prelude.{Contains}
use Rattle.std.specs.Bool.{Decides}
use Rattle.std.specs.Cmp.{Equal-is}
use Rattle.std.specs.Ordering.{eq_by_cmp, is_eq}
use Rattle.std.specs.FinMap as finite
use Rattle.std.specs.FinMap.{FinMap}
use Rattle.std.proofs.lemmas.Bool.{cases_Bool}
use Rattle.std.proofs.lemmas.Bool.Decides.{same_from_decides}
use Rattle.std.proofs.lemmas.Cmp.{tied_itself}
use Rattle.pf_calls.specs.CallLaws.{paths_decide}
use Rattle.pf_calls.specs.Calls.{path_eq}
use Rattle.pf_calls.specs.GraphLaws.{later_in, now_in}
use Rattle.pf_shelf.specs.Shelf.{name_cmp}
use Rattle.pf_state.specs.Commits.{part_at}
use Rattle.pf_state.specs.declared.ready.Staged.{Staged}
use Rattle.pf_tree.specs.GrownLaws.{name_same, name_total, path_same, path_total}
use Rattle.pf_tree.specs.Meaning.{put_payload}
use Rattle.pf_tree.specs.Order.{path_cmp}

pub none_some : {A : Type 0} (x : A) → None ≡ Some x → ⊥
none_some x e = cc

pub same_some : {A : Type 0} (x y : A) → Some x ≡ Some y → x ≡ y
same_some x y e = cc

-- ---- paths

ties_decide : (a b : List (List ℕ)) → Decides (eq_by_cmp path_cmp a b) (a ≡ b)
ties_decide a b = (λ h. path_same a b ((Equal-is (path_cmp a b)).0 h), λ e. ap (λ (x : List (List ℕ)). eq_by_cmp path_cmp a x) (sym e) ∙ ap is_eq (tied_itself path_total a))

ties : (a b : List (List ℕ)) → eq_by_cmp path_cmp a b ≡ path_eq a b
ties a b = same_from_decides _ _ (ties_decide a b) (paths_decide a b)

module _ {X : Type 0} where
  -- what stands at a path after a payload is put at another, or taken away there
  pub found_put : (m : FinMap path_cmp X) (path : List (List ℕ)) (x : Option X) (q : List (List ℕ)) → finite.get (put_payload m path x) q ≡ cond (path_eq q path) x (finite.get m q)
  found_put m path None q = finite.get-remove path_total m path q ∙ ap (λ b. cond b None (finite.get m q)) (ties q path)
  found_put m path (Some x) q = finite.get-insert path_total m path x q ∙ ap (λ b. cond b (Some x) (finite.get m q)) (ties q path)

  -- what stands at a path where only those that pass a test are kept
  pub found_kept : (m : FinMap path_cmp X) (p : List (List ℕ) → Bool) (q : List (List ℕ)) → finite.get (finite.retain_keys m p) q ≡ cond (p q) (finite.get m q) None
  found_kept m p q = finite.get-retain_keys m p q (λ x tie. ap p (sym (path_same q x tie)))

-- the part with a path is one of the parts
pub part_within : (parts : List Staged) (path : List (List ℕ)) (part : Staged) → part_at parts path ≡ Some part → Contains parts part
part_within [] path part e = absurd (none_some part e)
part_within (first ∷ parts) path part e =
    elim (path_eq path first.path) as (λ b. cond b (Some first) (part_at parts path) ≡ Some part → Contains (first ∷ parts) part) [
      | true ↦ λ e. subst (λ (p : Staged). Contains (first ∷ parts) p) (same_some first part e) (now_in first parts)
      | false ↦ λ e. later_in first parts part (part_within parts path part e)
    ] e

-- ---- names

pub name_tied : (name : List ℕ) → eq_by_cmp name_cmp name name ≡ true
name_tied name = ap is_eq (tied_itself name_total name)

pub name_untied : (other name : List ℕ) → (other ≡ name → ⊥) → eq_by_cmp name_cmp other name ≡ false
name_untied other name apart =
    elim (cases_Bool (eq_by_cmp name_cmp other name)) [
      | inl is ↦ absurd (apart (name_same other name ((Equal-is (name_cmp other name)).0 is)))
      | inr isnt ↦ isnt
    ]
