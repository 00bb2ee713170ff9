-- Rulesets call one another in no circle and not too deep at first, behind a plan that fits, a flush and a change of a table.
use Rattle.std.proofs.Common.{◌≡◌, ℕ, ◌+◌, Bool, true, false, cond, not, List, [], ◌∷◌, map, length, Option, Some, None, refl, sym, ap, subst, ◌∙◌, inl, inr, arith, if◌then◌else◌}
use Rattle.std.specs.Prelude.{Contains, is_some, ◌||◌}
use Rattle.std.specs.Bool.{Decides}
use Rattle.std.specs.Cmp.{Equal-is}
use Rattle.std.specs.FinMap as finite
use Rattle.std.specs.List.{list_any}
use Rattle.std.specs.Option.{option_and_then, option_map, option_or}
use Rattle.std.specs.Ordering.{eq_by_cmp, is_eq}
use Rattle.std.specs.Set.{is_member}
use Rattle.std.proofs.lemmas.Bool.{false≢true, or_left, or_right}
use Rattle.std.proofs.lemmas.Cmp.{tied_itself}
use Rattle.pf_calls.specs.Calls.{path_eq}
use Rattle.pf_calls.specs.Graph.{Graph, IsShallow, greatest}
use Rattle.pf_calls.specs.GraphLaws.{in_cons, later_in, none_in, now_in}
use Rattle.pf_calls.specs.declared.row.CallFault.{CallFault}
use Rattle.pf_eval.specs.Rows.{CallsNoMore}
use Rattle.pf_optim.specs.Node.{is_bare}
use Rattle.pf_optim.specs.declared.node.Node.{Node}
use Rattle.pf_parts.specs.declared.call.Call.{Call}
use Rattle.pf_reply.specs.declared.refusal.Refusal.{Refusal}
use Rattle.pf_shelf.specs.Change.{changed_at}
use Rattle.pf_shelf.specs.declared.change.ChangeKind.{ChangeKind}
use Rattle.pf_state.specs.Flushes.{flushed_rulesets, left_of, without_rules}
use Rattle.pf_state.specs.Judging.{Judged, call_refusal}
use Rattle.pf_state.specs.Limits.{first_of, tree_limits}
use Rattle.pf_state.specs.Machine.{empty_machine}
use Rattle.pf_state.specs.Rulesets.{Rulesets, calls_in, graph_in, written_in}
use Rattle.pf_state.specs.Tables.{changed_rulesets, with_change}
use Rattle.pf_table.specs.declared.entry.Entry.{Entry}
use Rattle.pf_tree.specs.GrownLaws.{path_same, path_total}
use Rattle.pf_tree.specs.Meaning.{put_payload}
use Rattle.pf_tree.specs.Order.{path_cmp}
use Rattle.pf_tree.specs.Paths.{is_nameless_below}

-- ---- the empty machine

no_items : {A : Type 0} (xs : List A) → length xs ≡ 0 → xs ≡ []
no_items [] e = refl
no_items (x ∷ xs) e = absurd (omega arith)

no_keys : finite.keys (finite.empty {X = Node} {R = path_cmp}) ≡ []
no_keys =
    ap (map (λ (e : List (List ℕ) × Node). e.0))
    (no_items (finite.entries (finite.empty {X = Node} {R = path_cmp})) (sym (finite.len-entries (finite.empty {X = Node} {R = path_cmp})) ∙ finite.len-empty path_cmp Node))

-- what has nothing in it is shallow
nothing_in : {A : Type 0} (g : Graph A) (most : ℕ) → ((a : A) → g.has a ≡ false) → IsShallow g most
nothing_in g most none = record {
  no_cycle = λ a cycle. false≢true (sym (none a) ∙ cycle.leads.1.inside);
  rank = λ a. 0;
  ranking = record { is = λ a. ap (λ b. if b then greatest (map (λ x. 0) (g.steps a)) + 1 else 0) (sym (none a)) };
  no_deep = λ a. omega arith;
}

pub empty_shallow : IsShallow (graph_in empty_machine.rulesets) 64
empty_shallow = nothing_in (graph_in empty_machine.rulesets) 64 (λ at. ap (λ paths. is_member path_eq paths at) no_keys)

-- ---- what stands at a path of a map

ties_decide : (a b : List (List ℕ)) → Decides (eq_by_cmp path_cmp a b) (a ≡ b)
ties_decide a b = (λ h. path_same a b ((Equal-is (path_cmp a b)).0 h), λ e. ap (λ (x : List (List ℕ)). eq_by_cmp path_cmp a x) (sym e) ∙ ap is_eq (tied_itself path_total a))

module _ {A : Type 0} (test : A → Bool) where
  any_from : (xs : List A) (x : A) → Contains xs x → test x ≡ true → list_any test xs ≡ true
  any_from [] x within h = absurd (none_in x within)
  any_from (y ∷ xs) x within h =
      elim (in_cons y xs x within) [
        | inl same ↦ or_left (test y) (list_any test xs) (ap test same ∙ h)
        | inr later ↦ or_right (test y) (list_any test xs) (any_from xs x later h)
      ]

  -- of a list some item passes
  record AnyOf (xs : List A) : Type 0 where
    at : A
    within : Contains xs at
    passes : test at ≡ true

  any_of : (xs : List A) → list_any test xs ≡ true → AnyOf xs
  any_of [] h = absurd (false≢true h)
  any_of (x ∷ xs) h =
      elim (test x) as (λ b. test x ≡ b → (b || list_any test xs) ≡ true → AnyOf (x ∷ xs)) [
        | true ↦ λ e h. record { at = x; within = now_in x xs; passes = e }
        | false ↦ λ e h. (let rest = any_of xs h in record { at = rest.at; within = later_in x xs rest.at rest.within; passes = rest.passes })
      ] refl h

-- a path with something is one of the keys
pub key_of : (m : Rulesets) (q : List (List ℕ)) → is_some (finite.get m q) ≡ true → Contains (finite.keys m) q
key_of m q h =
    let found = any_of (eq_by_cmp path_cmp q) (finite.keys m) (sym (finite.contains_key-keys m q) ∙ h) in
    subst (λ (x : List (List ℕ)). Contains (finite.keys m) x) (sym ((ties_decide q found.at).0 found.passes)) found.within

of_key : (m : Rulesets) (q : List (List ℕ)) → Contains (finite.keys m) q → is_some (finite.get m q) ≡ true
of_key m q within = finite.contains_key-keys m q ∙ any_from (eq_by_cmp path_cmp q) (finite.keys m) q within (ap is_eq (tied_itself path_total q))

-- ---- fewer rulesets and fewer calls

-- a ruleset calls nothing that another at the same path doesn't
abbrev NoMore : Option Node → Option Node → Type 0
NoMore None other = Unit {0}
NoMore (Some node) None = ⊥
NoMore (Some node) (Some other) = (call : Call) → Contains (calls_in node.rules.rules) call → Contains (calls_in other.rules.rules) call

itself : (node : Option Node) → NoMore node node
itself None = tt
itself (Some node) = λ call within. within

still_there : (node other : Option Node) → NoMore node other → is_some node ≡ true → is_some other ≡ true
still_there None other h e = absurd (false≢true e)
still_there (Some node) None h e = absurd h
still_there (Some node) (Some other) h e = refl

still_called : (node other : Option Node) → NoMore node other → (call : Call) → Contains (calls_in (written_in node)) call → Contains (calls_in (written_in other)) call
still_called None other h call within = absurd (none_in call within)
still_called (Some node) None h call within = absurd h
still_called (Some node) (Some other) h call within = h call within

fewer : (less more : Rulesets) → ((q : List (List ℕ)) → NoMore (finite.get less q) (finite.get more q)) → CallsNoMore less more
fewer less more each = record {
  paths = λ at within. key_of more at (still_there (finite.get less at) (finite.get more at) (each at) (of_key less at within));
  calls = λ at call within. still_called (finite.get less at) (finite.get more at) (each at) call within;
}

chosen : (b : Bool) (here other stands : Option Node) → (b ≡ true → NoMore here stands) → NoMore other stands → NoMore (cond b here other) stands
chosen true here other stands h k = h refl
chosen false here other stands h k = k

module _ (rulesets : Rulesets) (path : List (List ℕ)) where
  -- what is put at a path calls nothing that what stood there didn't
  at_tie : (base : Rulesets) (node : Option Node) → NoMore node (finite.get rulesets path) → ((q : List (List ℕ)) → NoMore (finite.get base q) (finite.get rulesets q))
      → (q : List (List ℕ)) → NoMore (cond (eq_by_cmp path_cmp q path) node (finite.get base q)) (finite.get rulesets q)
  at_tie base node ok each q =
      chosen (eq_by_cmp path_cmp q path) node (finite.get base q) (finite.get rulesets q)
      (λ tie. subst (λ (p : List (List ℕ)). NoMore node (finite.get rulesets p)) (sym ((ties_decide q path).0 tie)) ok) (each q)

  put_no_more : (base : Rulesets) (node : Option Node) → NoMore node (finite.get rulesets path) → ((q : List (List ℕ)) → NoMore (finite.get base q) (finite.get rulesets q))
      → (q : List (List ℕ)) → NoMore (finite.get (put_payload base path node) q) (finite.get rulesets q)
  put_no_more base None ok each q =
      subst (λ (found : Option Node). NoMore found (finite.get rulesets q)) (sym (finite.get-remove path_total base path q)) (at_tie base None ok each q)
  put_no_more base (Some node) ok each q =
      subst (λ (found : Option Node). NoMore found (finite.get rulesets q)) (sym (finite.get-insert path_total base path node q)) (at_tie base (Some node) ok each q)

kept_or_gone : (b : Bool) (stands : Option Node) → NoMore (cond b stands None) stands
kept_or_gone true stands = itself stands
kept_or_gone false stands = tt

kept_no_more : (rulesets : Rulesets) (test : List (List ℕ) → Bool) (q : List (List ℕ)) → NoMore (finite.get (finite.retain_keys rulesets test) q) (finite.get rulesets q)
kept_no_more rulesets test q =
    subst (λ (found : Option Node). NoMore found (finite.get rulesets q)) (sym (finite.get-retain_keys rulesets test q (λ x tie. ap test (sym (path_same q x tie))))) (kept_or_gone (test q) (finite.get rulesets q))

-- ---- a flush

bare_or_not : (b : Bool) (node other : Node) → NoMore (Some node) (Some other) → NoMore (if b then None else Some node) (Some other)
bare_or_not true node other h = tt
bare_or_not false node other h = h

left_no_more : (node : Option Node) → NoMore (option_and_then left_of node) node
left_no_more None = tt
left_no_more (Some node) =
    bare_or_not (is_bare (without_rules node).rules (without_rules node).shelf) (without_rules node) node (λ call within. absurd (none_in call within))

pub flushed_fewer : (path : List (List ℕ)) (rulesets : Rulesets) → CallsNoMore (flushed_rulesets path rulesets) rulesets
flushed_fewer path rulesets =
    fewer (flushed_rulesets path rulesets) rulesets
    (put_no_more rulesets path (finite.retain_keys rulesets (λ at. not (is_nameless_below path at))) (option_and_then left_of (finite.get rulesets path))
    (left_no_more (finite.get rulesets path)) (kept_no_more rulesets (λ at. not (is_nameless_below path at))))

-- ---- a change of a table

changed_no_more : (rulesets : Rulesets) (path : List (List ℕ)) (name : List ℕ) (kind : ChangeKind) (words : List Entry) (found : Option Node) → finite.get rulesets path ≡ found
    → (q : List (List ℕ)) → NoMore (finite.get (with_change rulesets path name kind words found) q) (finite.get rulesets q)
changed_no_more rulesets path name kind words None is q = itself (finite.get rulesets q)
changed_no_more rulesets path name kind words (Some node) is q =
    put_no_more rulesets path rulesets (Some (record node { shelf = changed_at node.shelf name kind words }))
    (subst (λ (found : Option Node). NoMore (Some (record node { shelf = changed_at node.shelf name kind words })) found) (sym is) (λ call within. within))
    (λ q. itself (finite.get rulesets q)) q

pub changed_fewer : (rulesets : Rulesets) (path : List (List ℕ)) (name : List ℕ) (kind : ChangeKind) (words : List Entry) → CallsNoMore (changed_rulesets rulesets path name kind words) rulesets
changed_fewer rulesets path name kind words =
    fewer (changed_rulesets rulesets path name kind words) rulesets (changed_no_more rulesets path name kind words (finite.get rulesets path) refl)

-- ---- a plan that fits

no_first : {A : Type 0} (a b : Option A) → option_or a b ≡ None → (a ≡ None) × (b ≡ None)
no_first None b h = (refl, h)
no_first (Some x) b h = absurd cc

no_fault : (fault : Option CallFault) → option_map call_refusal fault ≡ None → fault ≡ None
no_fault None h = refl
no_fault (Some fault) h = absurd cc

-- rulesets that were judged and have no refusal
pub judged_shallow : (first : List (Option Refusal)) (rulesets : Rulesets) (refusal : Option Refusal) → Judged first rulesets refusal → refusal ≡ None → IsShallow (graph_in rulesets) 64
judged_shallow first rulesets refusal judged none =
    let rest = no_first (first_of first) (first_of (option_map call_refusal judged.calls ∷ tree_limits rulesets)) (sym judged.is ∙ none) in
    let calls = no_first (option_map call_refusal judged.calls) (first_of (tree_limits rulesets)) rest.1 in
    judged.are.none.0 (no_fault judged.calls calls.0)

-- ---- a flush and a change of a table

-- what the evaluator says of fewer calls
abbrev pub FewerStays : Type 0
FewerStays = (less more : Rulesets) (most : ℕ) → CallsNoMore less more → IsShallow (graph_in more) most → IsShallow (graph_in less) most

module _ (stays : FewerStays) where
  pub flush_shallow : (rulesets : Rulesets) (path : List (List ℕ)) → IsShallow (graph_in rulesets) 64 → IsShallow (graph_in (flushed_rulesets path rulesets)) 64
  flush_shallow rulesets path shallow = stays (flushed_rulesets path rulesets) rulesets 64 (flushed_fewer path rulesets) shallow

  pub change_shallow : (rulesets : Rulesets) (path : List (List ℕ)) (name : List ℕ) (kind : ChangeKind) (words : List Entry) → IsShallow (graph_in rulesets) 64 → IsShallow (graph_in (changed_rulesets rulesets path name kind words)) 64
  change_shallow rulesets path name kind words shallow = stays (changed_rulesets rulesets path name kind words) rulesets 64 (changed_fewer rulesets path name kind words) shallow
