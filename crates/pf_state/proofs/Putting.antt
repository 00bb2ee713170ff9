-- Payloads that are put at a path where something stands.
use Rattle.std.proofs.Common.{◌≡◌, ℕ, Bool, true, false, cond, not, List, [], ◌∷◌, Option, Some, None, refl, sym, ap, ◌∙◌}
use mathlib.Core.Bool.{true≢false}
use Rattle.std.specs.Prelude.{◌&&◌, ◌==◌, length, if◌then◌else◌}
use Rattle.std.specs.Option.{option_and_then, option_map_or}
use Rattle.std.specs.FinMap as fin
use Rattle.std.specs.FinMap.{FinMap}
use Rattle.std.proofs.lemmas.Slice.Eq.{bytes_eq-Decides}
use Rattle.pf_base.specs.Path.{is_reserved}
use Rattle.pf_calls.specs.Calls.{path_eq}
use Rattle.pf_base.specs.declared.kind.Level.TheVariants.{None as at_no_level}
use Rattle.pf_optim.specs.Node.{is_bare}
use Rattle.pf_optim.specs.Ruleset.{Written, written_of}
use Rattle.pf_optim.specs.declared.node.Node.{Node}
use Rattle.pf_tree.specs.Meaning.{put_payload}
use Rattle.pf_tree.specs.Order.{path_cmp}
use Rattle.pf_tree.specs.Paths.{is_nameless_below, name_behind}
use Rattle.pf_state.specs.Commits.{shown_node}
use Rattle.pf_state.specs.Flushes.{flushed_rulesets, left_of, without_rules}
use Rattle.pf_state.specs.Rulesets.{Rulesets}
use Rattle.pf_state.proofs.Found.{found_kept, found_put, same_maps}

once : {X : Type 0} (b : Bool) (x y s : Option X) → cond b y (cond b x s) ≡ cond b y s
once true x y s = refl
once false x y s = refl

-- of two payloads that are put at one path the second stands
pub put_again : {X : Type 0} (m : FinMap path_cmp X) (path : List (List ℕ)) (x y : Option X) → put_payload (put_payload m path x) path y ≡ put_payload m path y
put_again m path x y = same_maps _ _ (λ q.
    found_put (put_payload m path x) path y q
    ∙ ap (cond (path_eq q path) y) (found_put m path x q)
    ∙ once (path_eq q path) x y (fin.get m q)
    ∙ sym (found_put m path y q))

-- no name stands behind a path in itself
own_name : (path : List (List ℕ)) → name_behind path path ≡ None
own_name [] = refl
own_name (name ∷ path) = ap (λ b. if b then name_behind path path else None) ((bytes_eq-Decides name name).1 refl) ∙ own_name path

pub own_stays : (rulesets : Rulesets) (path : List (List ℕ)) → fin.get (fin.retain_keys rulesets (λ at. not (is_nameless_below path at))) path ≡ fin.get rulesets path
own_stays rulesets path =
    found_kept rulesets (λ at. not (is_nameless_below path at)) path
    ∙ ap (λ (name : Option (List ℕ)). cond (not (option_map_or is_reserved name false)) (fin.get rulesets path) None) (own_name path)

second : (a b : Bool) → (a && b) ≡ true → b ≡ true
second true b h = h
second false b h = absurd (true≢false (sym h))

without : (node : Node) (stands : Option Node) → shown_node node ≡ stands → shown_node (without_rules node) ≡ option_and_then left_of stands
without node stands h =
    elim (is_bare node.rules node.shelf) as (λ b. is_bare node.rules node.shelf ≡ b → (if b then None else Some node) ≡ stands → shown_node (without_rules node) ≡ option_and_then left_of stands) [
      | true ↦ λ bare none. ap (λ b. if b then None else Some (without_rules node)) (second (length node.rules.rules == 0) (fin.len node.shelf == 0) bare) ∙ ap (option_and_then left_of) none
      | false ↦ λ bare some. ap (option_and_then left_of) some
    ] refl h

-- a ruleset is taken out, its rules are taken away, and what is left is put back
pub flushed_is : (rulesets : Rulesets) (path : List (List ℕ)) (node : Node) (fresh : Option Node)
    → shown_node node ≡ fin.get (fin.retain_keys rulesets (λ at. not (is_nameless_below path at))) path
    → put_payload (put_payload (fin.retain_keys rulesets (λ at. not (is_nameless_below path at))) path fresh) path (shown_node (without_rules node)) ≡ flushed_rulesets path rulesets
flushed_is rulesets path node fresh taken =
    put_again (fin.retain_keys rulesets (λ at. not (is_nameless_below path at))) path fresh (shown_node (without_rules node))
    ∙ ap (put_payload (fin.retain_keys rulesets (λ at. not (is_nameless_below path at))) path) (without node (fin.get rulesets path) (taken ∙ own_stays rulesets path))

-- the same, step by step
pub flush_steps : (old first second third : Rulesets) (path : List (List ℕ)) (node : Node) (rules : Written) (fresh : Option Node)
    → first ≡ fin.retain_keys old (λ at. not (is_nameless_below path at)) → second ≡ put_payload first path fresh → shown_node node ≡ fin.get first path
    → rules ≡ written_of [] at_no_level [] → third ≡ put_payload second path (shown_node (record { rules = rules; shelf = node.shelf })) → third ≡ flushed_rulesets path old
flush_steps old first second third path node rules fresh cleared taken_out taken none put =
    put
    ∙ ap (λ (t : Rulesets). put_payload t path (shown_node (record { rules = rules; shelf = node.shelf }))) taken_out
    ∙ ap (λ (r : Written). put_payload (put_payload first path fresh) path (shown_node (record { rules = r; shelf = node.shelf }))) none
    ∙ ap (λ (t : Rulesets). put_payload (put_payload t path fresh) path (shown_node (without_rules node))) cleared
    ∙ flushed_is old path node fresh (taken ∙ ap (λ (t : Rulesets). fin.get t path) cleared)
