-- A load is one replacement: what stands at each path after it.
use Rattle.std.proofs.Common.{◌≡◌, ℕ, Bool, true, false, cond, not, List, [], ◌∷◌, ◌++◌, length, map, Option, Some, None, refl, sym, ap, ◌∙◌, arith}
use mathlib.Core.Bool.{true≢false}
use Rattle.std.specs.Prelude.{◌&&◌}
use Rattle.std.specs.List.{list_all}
use Rattle.std.specs.FinMap as fin
use Rattle.pf_calls.specs.Calls.{path_eq}
use Rattle.pf_optim.specs.declared.node.Node.{Node}
use Rattle.pf_shelf.specs.Shelf.{Tables}
use Rattle.pf_tree.specs.Meaning.{put_payload}
use Rattle.pf_state.specs.Rulesets.{Rulesets}
use Rattle.pf_state.specs.Commits.{committed, is_cleared, node_of, part_at, paths_of, shelf_of, shown_node, stands_at, stands_by, with_parts}
use Rattle.pf_state.specs.Outlines.{with_shelves}
use Rattle.pf_state.specs.declared.ready.Staged.{Staged}
use Rattle.pf_state.proofs.Found.{found_kept, found_put}

-- what a part leaves at its path, and elsewhere what stands there
abbrev filled_by : Rulesets → Option Staged → Option Node → Option Node
filled_by before None stands = stands
filled_by before (Some part) stands = shown_node (node_of before part)

chosen : (before : Rulesets) (part : Staged) (b : Bool) (rest : Option Staged) (stands : Option Node) → cond b (shown_node (node_of before part)) (filled_by before rest stands) ≡ filled_by before (cond b (Some part) rest) stands
chosen before part true rest stands = refl
chosen before part false rest stands = refl

filled : (before : Rulesets) (parts : List Staged) (rulesets : Rulesets) (path : List (List ℕ)) → fin.get (with_parts before parts rulesets) path ≡ filled_by before (part_at parts path) (fin.get rulesets path)
filled before [] rulesets path = refl
filled before (part ∷ parts) rulesets path =
    found_put (with_parts before parts rulesets) part.path (shown_node (node_of before part)) path
    ∙ ap (cond (path_eq path part.path) (shown_node (node_of before part))) (filled before parts rulesets path)
    ∙ chosen before part (path_eq path part.path) (part_at parts path) (fin.get rulesets path)

kept_or_gone : (b : Bool) (stands : Option Node) → cond (not b) stands None ≡ cond b None stands
kept_or_gone true stands = refl
kept_or_gone false stands = refl

whole : (rulesets : Rulesets) (parts : List Staged) (path : List (List ℕ)) (part : Option Staged) → filled_by rulesets part (fin.get (fin.retain_keys rulesets (λ at. not (is_cleared parts at))) path) ≡ stands_by parts rulesets path part
whole rulesets parts path (Some part) = refl
whole rulesets parts path None =
    found_kept rulesets (λ at. not (is_cleared parts at)) path ∙ kept_or_gone (is_cleared parts path) (fin.get rulesets path)

pub replaced : (parts : List Staged) (rulesets : Rulesets) (path : List (List ℕ)) → fin.get (committed parts rulesets) path ≡ stands_at parts rulesets path
replaced parts rulesets path =
    filled rulesets parts (fin.retain_keys rulesets (λ at. not (is_cleared parts at))) path
    ∙ whole rulesets parts path (part_at parts path)

-- ---- parts that are put with their tables, one after the other

pub renewed_parts : (before : Rulesets) (parts : List Staged) (rulesets : Rulesets) → with_shelves rulesets parts (map (shelf_of before) parts) ≡ with_parts before parts rulesets
renewed_parts before [] rulesets = refl
renewed_parts before (part ∷ parts) rulesets = ap (λ (t : Rulesets). put_payload t part.path (shown_node (node_of before part))) (renewed_parts before parts rulesets)

-- the last one is put first
pub put_last : (rulesets : Rulesets) (parts : List Staged) (shelves : List Tables) (part : Staged) (shelf : Tables) → length shelves ≡ length parts
    → with_shelves rulesets (parts ++ part ∷ []) (shelves ++ shelf ∷ []) ≡ with_shelves (put_payload rulesets part.path (shown_node (record { rules = part.rules; shelf = shelf }))) parts shelves
put_last rulesets [] [] part shelf same = refl
put_last rulesets [] (other ∷ shelves) part shelf same = absurd (omega arith)
put_last rulesets (first ∷ parts) [] part shelf same = absurd (omega arith)
put_last rulesets (first ∷ parts) (other ∷ shelves) part shelf same =
    ap (λ (t : Rulesets). put_payload t first.path (shown_node (record { rules = first.rules; shelf = other }))) (put_last rulesets parts shelves part shelf (omega arith))

both_pass : (a b : Bool) → (a && b) ≡ true → (a ≡ true) × (b ≡ true)
both_pass true b h = (refl, h)
both_pass false b h = absurd (true≢false (sym h))

join_pass : (a b : Bool) → a ≡ true → b ≡ true → (a && b) ≡ true
join_pass true b h k = k
join_pass false b h k = absurd (true≢false (sym h))

pub front_passes : (test : List (List ℕ) → Bool) (parts : List Staged) (part : Staged) → list_all test (paths_of (parts ++ part ∷ [])) ≡ true → list_all test (paths_of parts) ≡ true
front_passes test [] part h = refl
front_passes test (first ∷ parts) part h = let both = both_pass (test first.path) _ h in join_pass (test first.path) _ both.0 (front_passes test parts part both.1)

-- what goes is taken away, and then all parts are put with their tables renewed
pub committed_by : (old first next : Rulesets) (parts : List Staged) (shelves : List Tables) → first ≡ fin.retain_keys old (λ at. not (is_cleared parts at)) → shelves ≡ map (shelf_of old) parts
    → next ≡ with_shelves first parts shelves → next ≡ committed parts old
committed_by old first next parts shelves cleared renewed put =
    put
    ∙ ap (with_shelves first parts) renewed
    ∙ renewed_parts old parts first
    ∙ ap (with_parts old parts) cleared
