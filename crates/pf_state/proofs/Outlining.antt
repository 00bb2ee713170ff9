-- Outlines of the rulesets of a tree, path by path and part by part.
use Rattle.std.proofs.Common.{◌≡◌, ℕ, ◌+◌, ◌<◌, Bool, true, false, cond, not, List, [], ◌∷◌, map, length, drop, get_or, Option, Some, None, is_some, refl, sym, ap, subst, ◌∙◌, arith}
use Rattle.std.proofs.lemmas.List.{get_or-map}
use Rattle.std.specs.Prelude.{◌&&◌, ◌||◌, if◌then◌else◌}
use Rattle.std.specs.Option.{option_map}
use Rattle.std.specs.List.{list_any}
use Rattle.std.specs.Ordering.{eq_by_cmp}
use Rattle.std.specs.FinMap as fin
use Rattle.std.specs.FinMap.{FinMap}
use Rattle.pf_calls.specs.Calls.{path_eq}
use Rattle.pf_optim.specs.Node.{is_bare}
use Rattle.pf_optim.specs.declared.node.Node.{Node}
use Rattle.pf_tree.specs.GrownLaws.{path_total}
use Rattle.pf_tree.specs.Meaning.{put_payload}
use Rattle.pf_tree.specs.Order.{path_cmp}
use Rattle.pf_shelf.specs.Shelf.{Tables}
use Rattle.pf_state.specs.Commits.{is_cleared, node_of, shelf_of, shown_node, with_parts}
use Rattle.pf_state.proofs.Lists.{left, none_left}
use Rattle.pf_state.specs.Outlines.{AreOutlined, outline_of, with_left, with_outline}
use Rattle.pf_state.specs.Rulesets.{Rulesets}
use Rattle.pf_state.specs.declared.outline.Outline.{Outline}
use Rattle.pf_state.specs.declared.ready.Staged.{Staged}
use Rattle.pf_state.proofs.Found.{found_kept, found_put, ties_decide}

-- the outlines of the rulesets at these paths that stay
abbrev pub left_by : List Staged → Rulesets → List (List (List ℕ)) → FinMap path_cmp Outline → FinMap path_cmp Outline
left_by parts rulesets [] outlines = outlines
left_by parts rulesets (path ∷ paths) outlines = left_by parts rulesets paths (with_left parts rulesets outlines path)

-- an outline, where it is of a ruleset; else what stands
abbrev told_or : Option Node → Option Outline → Option Outline
told_or None stands = stands
told_or (Some node) stands = Some (outline_of node)

abbrev among : List (List ℕ) → List (List (List ℕ)) → Bool
among q paths = list_any (eq_by_cmp path_cmp q) paths

put_told : (outlines : FinMap path_cmp Outline) (path q : List (List ℕ)) (node : Option Node) → fin.get (with_outline outlines path node) q ≡ cond (eq_by_cmp path_cmp q path) (told_or node (fin.get outlines q)) (fin.get outlines q)
put_told outlines path q None = elim (eq_by_cmp path_cmp q path) as (λ b. fin.get outlines q ≡ cond b (fin.get outlines q) (fin.get outlines q)) [ true ↦ refl | false ↦ refl ]
put_told outlines path q (Some node) = fin.get-insert path_total outlines path (outline_of node) q

module _ (parts : List Staged) (rulesets : Rulesets) where
  -- at the path itself
  here : (outlines : FinMap path_cmp Outline) (path q : List (List ℕ)) → fin.get (with_left parts rulesets outlines path) q ≡ cond (eq_by_cmp path_cmp q path && not (is_cleared parts path)) (told_or (fin.get rulesets path) (fin.get outlines q)) (fin.get outlines q)
  here outlines path q =
      elim (is_cleared parts path) as (λ b. fin.get (if b then outlines else with_outline outlines path (fin.get rulesets path)) q ≡ cond (eq_by_cmp path_cmp q path && not b) (told_or (fin.get rulesets path) (fin.get outlines q)) (fin.get outlines q)) [
        | true ↦ elim (eq_by_cmp path_cmp q path) as (λ b. fin.get outlines q ≡ cond (b && false) (told_or (fin.get rulesets path) (fin.get outlines q)) (fin.get outlines q)) [ true ↦ refl | false ↦ refl ]
        | false ↦ put_told outlines path q (fin.get rulesets path) ∙ plain (eq_by_cmp path_cmp q path) (told_or (fin.get rulesets path) (fin.get outlines q)) (fin.get outlines q)
      ]
    where
      plain : (b : Bool) (x y : Option Outline) → cond b x y ≡ cond (b && true) x y
      plain true x y = refl
      plain false x y = refl

  -- what is told of the path is told of an equal one
  moved : (outlines : FinMap path_cmp Outline) (path q : List (List ℕ)) → fin.get (with_left parts rulesets outlines path) q ≡ cond (eq_by_cmp path_cmp q path && not (is_cleared parts q)) (told_or (fin.get rulesets q) (fin.get outlines q)) (fin.get outlines q)
  moved outlines path q = here outlines path q ∙
      elim (eq_by_cmp path_cmp q path) as (λ b. eq_by_cmp path_cmp q path ≡ b → cond (b && not (is_cleared parts path)) (told_or (fin.get rulesets path) (fin.get outlines q)) (fin.get outlines q) ≡ cond (b && not (is_cleared parts q)) (told_or (fin.get rulesets q) (fin.get outlines q)) (fin.get outlines q)) [
        | true ↦ λ e. ap (λ (p : List (List ℕ)). cond (not (is_cleared parts p)) (told_or (fin.get rulesets p) (fin.get outlines q)) (fin.get outlines q)) (sym ((ties_decide q path).0 e))
        | false ↦ λ e. refl
      ] refl

merged : (a b c : Bool) (node : Option Node) (s : Option Outline) → cond (b && not c) (told_or node (cond (a && not c) (told_or node s) s)) (cond (a && not c) (told_or node s) s) ≡ cond ((a || b) && not c) (told_or node s) s
merged true true true node s = refl
merged true false true node s = refl
merged false true true node s = refl
merged false false true node s = refl
merged true false false node s = refl
merged false true false node s = refl
merged false false false node s = refl
merged true true false None s = refl
merged true true false (Some node) s = refl

module _ (parts : List Staged) (rulesets : Rulesets) where
  all_left : (paths : List (List (List ℕ))) (outlines : FinMap path_cmp Outline) (q : List (List ℕ)) → fin.get (left_by parts rulesets paths outlines) q ≡ cond (among q paths && not (is_cleared parts q)) (told_or (fin.get rulesets q) (fin.get outlines q)) (fin.get outlines q)
  all_left [] outlines q = refl
  all_left (path ∷ paths) outlines q =
      all_left paths (with_left parts rulesets outlines path) q
      ∙ ap (λ (s : Option Outline). cond (among q paths && not (is_cleared parts q)) (told_or (fin.get rulesets q) s) s) (moved parts rulesets outlines path q)
      ∙ merged (eq_by_cmp path_cmp q path) (among q paths) (is_cleared parts q) (fin.get rulesets q) (fin.get outlines q)

  kept_told : (c : Bool) (node : Option Node) → cond (is_some node && not c) (told_or node None) None ≡ option_map outline_of (cond (not c) node None)
  kept_told true None = refl
  kept_told false None = refl
  kept_told true (Some node) = refl
  kept_told false (Some node) = refl

  -- from no outline on, those at all paths of the tree
  pub left_outlined : (outlines : FinMap path_cmp Outline) → outlines ≡ fin.empty → AreOutlined (fin.retain_keys rulesets (λ at. not (is_cleared parts at))) (left_by parts rulesets (fin.keys rulesets) outlines)
  left_outlined outlines none = record {
    at = λ q.
        all_left (fin.keys rulesets) outlines q
        ∙ ap (λ (s : Option Outline). cond (among q (fin.keys rulesets) && not (is_cleared parts q)) (told_or (fin.get rulesets q) s) s) (ap (λ (m : FinMap path_cmp Outline). fin.get m q) none ∙ fin.get-empty path_cmp q)
        ∙ ap (λ b. cond (b && not (is_cleared parts q)) (told_or (fin.get rulesets q) None) None) (sym (fin.contains_key-keys rulesets q))
        ∙ kept_told (is_cleared parts q) (fin.get rulesets q)
        ∙ ap (option_map outline_of) (sym (found_kept rulesets (λ at. not (is_cleared parts at)) q));
  }

told_cond : (b : Bool) (x y : Option Node) → cond b (option_map outline_of x) (option_map outline_of y) ≡ option_map outline_of (cond b x y)
told_cond true x y = refl
told_cond false x y = refl

-- one part more is put at its path
pub put_outlined : (rulesets : Rulesets) (outlines : FinMap path_cmp Outline) (path : List (List ℕ)) (node : Option Node) → AreOutlined rulesets outlines → AreOutlined (put_payload rulesets path node) (put_payload outlines path (option_map outline_of node))
put_outlined rulesets outlines path node are = record {
  at = λ q.
      found_put outlines path (option_map outline_of node) q
      ∙ ap (cond (path_eq q path) (option_map outline_of node)) (are.at q)
      ∙ told_cond (path_eq q path) node (fin.get rulesets q)
      ∙ ap (option_map outline_of) (sym (found_put rulesets path node q));
}

-- the same of the part at a place, with its tables renewed, where those behind it are put
pub outlined_on : (before kept : Rulesets) (parts : List Staged) (shelves : List Tables) (place next : ℕ) (part : Staged) (shelf : Tables) (old new : FinMap path_cmp Outline)
    → shelves ≡ map (shelf_of before) parts → next < length parts → place ≡ next + 1 → part ≡ get_or parts next part → shelf ≡ get_or shelves next shelf
    → AreOutlined (with_parts before (drop place parts) kept) old
    → new ≡ put_payload old part.path (option_map outline_of (shown_node (record { rules = part.rules; shelf = shelf })))
    → AreOutlined (with_parts before (drop next parts) kept) new
outlined_on before kept parts shelves place next part shelf old new renewed lt one part_is shelf_is are is =
    let same : shelf ≡ shelf_of before part =
    shelf_is ∙ ap (λ (xs : List Tables). get_or xs next shelf) renewed
    ∙ get_or-map (shelf_of before) parts next part shelf lt ∙ ap (shelf_of before) (sym part_is) in
    let rest : drop next parts ≡ part ∷ drop place parts = left parts next part lt part_is ∙ ap (λ n. part ∷ drop n parts) (sym one) in
    subst (λ (ps : List Staged). AreOutlined (with_parts before ps kept) new) (sym rest)
    (subst (λ (m : FinMap path_cmp Outline). AreOutlined (put_payload (with_parts before (drop place parts) kept) part.path (shown_node (node_of before part))) m)
    (sym (is ∙ ap (λ (tables : Tables). put_payload old part.path (option_map outline_of (shown_node (record { rules = part.rules; shelf = tables })))) same))
    (put_outlined (with_parts before (drop place parts) kept) old part.path (shown_node (node_of before part)) are))

-- behind the last part none is put
pub none_outlined : (before kept : Rulesets) (parts : List Staged) (place : ℕ) (outlines : FinMap path_cmp Outline) → place ≡ length parts → AreOutlined kept outlines → AreOutlined (with_parts before (drop place parts) kept) outlines
none_outlined before kept parts place outlines all are =
    subst (λ (ps : List Staged). AreOutlined (with_parts before ps kept) outlines) (sym (none_left parts place (omega arith))) are

-- a ruleset without rules and tables isn't shown, and any other is
pub bare_none : (node : Node) (bare : Bool) → bare ≡ is_bare node.rules node.shelf → bare ≡ true → shown_node node ≡ None
bare_none node bare is h = ap (λ b. if b then None else Some node) (sym is ∙ h)

pub full_some : (node : Node) (bare : Bool) → bare ≡ is_bare node.rules node.shelf → bare ≡ false → shown_node node ≡ Some node
full_some node bare is h = ap (λ b. if b then None else Some node) (sym is ∙ h)
