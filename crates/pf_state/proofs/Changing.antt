-- A table is changed where its ruleset was taken out of the tree, and the ruleset is put back.
use Rattle.std.proofs.Common.{◌≡◌, ℕ, Bool, true, false, cond, List, Option, Some, None, refl, sym, ap, subst, ◌∙◌}
use mathlib.Core.Bool.{true≢false}
use Rattle.std.specs.Prelude.{◌&&◌, ◌==◌, IsSome, OnErr, OnOk, Result, Ok, Err, length, if◌then◌else◌}
use Rattle.std.specs.Ordering.{is_eq}
use Rattle.std.specs.FinMap as fin
use Rattle.std.proofs.lemmas.Bool.Decides.{Decides-eqb}
use Rattle.std.proofs.lemmas.Cmp.{tied_itself}
use Rattle.pf_calls.specs.CallLaws.{paths_decide}
use Rattle.pf_calls.specs.Calls.{path_eq}
use Rattle.pf_optim.specs.Node.{is_bare}
use Rattle.pf_optim.specs.declared.node.Node.{Node}
use Rattle.pf_shelf.specs.Change.{changed, changed_at, with_change as table_with}
use Rattle.pf_shelf.specs.Shelf.{Tables, name_cmp}
use Rattle.pf_shelf.specs.declared.change.ChangeKind.{ChangeKind}
use Rattle.pf_shelf.specs.declared.decl.Shelved.{Shelved}
use Rattle.pf_table.specs.declared.entry.Entry.{Entry}
use Rattle.pf_tree.specs.GrownLaws.{name_total}
use Rattle.pf_tree.specs.Meaning.{put_payload}
use Rattle.pf_state.specs.Commits.{shown_node}
use Rattle.pf_state.specs.Rulesets.{Rulesets, tables_in}
use Rattle.pf_state.specs.Tables.{changed_rulesets, with_change}
use Rattle.pf_state.proofs.Found.{found_put, same_maps}
use Rattle.pf_state.proofs.Putting.{put_again}

none_some : {A : Type 0} (x : A) → None ≡ Some x → ⊥
none_some x e = cc

-- what was shown is the node itself
taken_is : (node n : Node) → shown_node node ≡ Some n → node ≡ n
taken_is node n h =
    elim (is_bare node.rules node.shelf) as (λ b. (if b then None else Some node) ≡ Some n → node ≡ n) [
      | true ↦ λ e. absurd (none_some n e)
      | false ↦ λ e. same node n e
    ] h
  where
    same : (x y : Node) → Some x ≡ Some y → x ≡ y
    same x y e = cc

second : (a b : Bool) → (a && b) ≡ true → b ≡ true
second true b h = h
second false b h = absurd (true≢false (sym h))

no_tables : (shelf : Tables) → (fin.len shelf == 0) ≡ true → shelf ≡ fin.empty
no_tables shelf h = fin.empty_of_len shelf ((Decides-eqb (fin.len shelf) 0).0 h)

-- its tables are those that stood there
pub taken_tables : (node : Node) (stands : Option Node) → shown_node node ≡ stands → node.shelf ≡ tables_in stands
taken_tables node stands h =
    elim (is_bare node.rules node.shelf) as (λ b. is_bare node.rules node.shelf ≡ b → (if b then None else Some node) ≡ stands → node.shelf ≡ tables_in stands) [
      | true ↦ λ bare e. no_tables node.shelf (second (length node.rules.rules == 0) (fin.len node.shelf == 0) bare) ∙ ap tables_in e
      | false ↦ λ full e. ap tables_in e
    ] refl h

-- what stands at a path, put there once more
put_back : (m : Rulesets) (path : List (List ℕ)) → put_payload m path (fin.get m path) ≡ m
put_back m path = same_maps _ _ (λ q.
    found_put m path (fin.get m path) q
    ∙ elim (path_eq q path) as (λ b. path_eq q path ≡ b → cond b (fin.get m path) (fin.get m q) ≡ fin.get m q) [
      | true ↦ λ e. ap (fin.get m) (sym ((paths_decide q path).0 e))
      | false ↦ λ e. refl
    ] refl)

some_tables : (shelf : Tables) (name : List ℕ) (found : Shelved) → fin.get shelf name ≡ Some found → (fin.len shelf == 0) ≡ false
some_tables shelf name found h =
    elim (fin.len shelf == 0) as (λ b. (fin.len shelf == 0) ≡ b → (fin.len shelf == 0) ≡ false) [
      | true ↦ λ e. absurd (none_some found (sym (fin.get-empty name_cmp name) ∙ ap (λ (t : Tables). fin.get t name) (sym (no_tables shelf e)) ∙ h))
      | false ↦ λ e. e
    ] refl

both_false : (a : Bool) → (a && false) ≡ false
both_false true = refl
both_false false = refl

there_after : (tables : Tables) (name : List ℕ) (kind : ChangeKind) (words : List Entry) (found : Shelved) → fin.get (fin.insert tables name (record found { table = changed kind words found.table })) name ≡ Some (record found { table = changed kind words found.table })
there_after tables name kind words found =
    fin.get-insert name_total tables name (record found { table = changed kind words found.table }) name
    ∙ ap (λ r. cond (is_eq r) (Some (record found { table = changed kind words found.table })) (fin.get tables name)) (tied_itself name_total name)

nothing_there : IsSome {T = Shelved} None → ⊥
nothing_there h = let e : false ≡ true = h in true≢false (sym e)

-- a ruleset of which a table was changed has a table
still_shown : (node : Node) (name : List ℕ) (kind : ChangeKind) (words : List Entry) (found : Option Shelved) → fin.get node.shelf name ≡ found → IsSome found
    → shown_node (record node { shelf = changed_at node.shelf name kind words }) ≡ Some (record node { shelf = changed_at node.shelf name kind words })
still_shown node name kind words None is h = absurd (nothing_there h)
still_shown node name kind words (Some found) is h =
    let shelf = changed_at node.shelf name kind words in
    let there : fin.get shelf name ≡ Some (record found { table = changed kind words found.table }) =
    ap (λ (t : Tables). fin.get t name) (ap (table_with node.shelf name kind words) is) ∙ there_after node.shelf name kind words found in
    ap (λ b. if b then None else Some (record node { shelf = shelf }))
    (ap (λ b. (length node.rules.rules == 0) && b) (some_tables shelf name (record found { table = changed kind words found.table }) there) ∙ both_false (length node.rules.rules == 0))

pub change_done : (old first next : Rulesets) (path : List (List ℕ)) (name : List ℕ) (kind : ChangeKind) (words : List Entry) (node : Node) (fresh : Option Node) (shelf : Tables) (stands : Option Node)
    → fin.get old path ≡ stands → first ≡ put_payload old path fresh → shown_node node ≡ fin.get old path → IsSome (fin.get (tables_in stands) name)
    → shelf ≡ changed_at node.shelf name kind words → next ≡ put_payload first path (shown_node (record { rules = node.rules; shelf = shelf })) → next ≡ changed_rulesets old path name kind words
change_done old first next path name kind words node fresh shelf None is out taken there made put = absurd (nothing name there)
  where
    nothing : (name : List ℕ) → IsSome (fin.get (tables_in None) name) → ⊥
    nothing name h = nothing_there (subst (λ (o : Option Shelved). IsSome o) (fin.get-empty name_cmp name) h)
change_done old first next path name kind words node fresh shelf (Some n) is out taken there made put =
    let same : node ≡ n = taken_is node n (taken ∙ is) in
    let has : IsSome (fin.get node.shelf name) = subst (λ (x : Node). IsSome (fin.get x.shelf name)) (sym same) there in
    put
    ∙ ap (λ (t : Tables). put_payload first path (shown_node (record { rules = node.rules; shelf = t }))) made
    ∙ ap (λ (t : Rulesets). put_payload t path (shown_node (record node { shelf = changed_at node.shelf name kind words }))) out
    ∙ put_again old path fresh (shown_node (record node { shelf = changed_at node.shelf name kind words }))
    ∙ ap (put_payload old path) (still_shown node name kind words (fin.get node.shelf name) refl has)
    ∙ ap (λ (x : Node). fin.insert old path (record x { shelf = changed_at x.shelf name kind words })) same
    ∙ ap (with_change old path name kind words) (sym is)

pub change_undone : (old first next : Rulesets) (path : List (List ℕ)) (node : Node) (fresh : Option Node) (shelf : Tables)
    → first ≡ put_payload old path fresh → shown_node node ≡ fin.get old path → shelf ≡ node.shelf → next ≡ put_payload first path (shown_node (record { rules = node.rules; shelf = shelf })) → next ≡ old
change_undone old first next path node fresh shelf out taken same put =
    put
    ∙ ap (λ (t : Tables). put_payload first path (shown_node (record { rules = node.rules; shelf = t }))) same
    ∙ ap (λ (t : Rulesets). put_payload t path (shown_node node)) out
    ∙ put_again old path fresh (shown_node node)
    ∙ ap (put_payload old path) taken
    ∙ put_back old path

pub on_ok : {V E : Type 0} (r : Result V E) (A B : Type 0) → (A → B) → OnOk r A → OnOk r B
on_ok (Ok v) A B f h = f h
on_ok (Err e) A B f h = h

pub on_err : {V E : Type 0} (r : Result V E) (A B : Type 0) → (A → B) → OnErr r A → OnErr r B
on_err (Ok v) A B f h = h
on_err (Err e) A B f h = f h
