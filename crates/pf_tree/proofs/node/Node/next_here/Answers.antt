use Rattle.std.proofs.Common.{◌≡◌, ◌&&◌, ◌==◌, ◌++◌, Bool, ℕ, List, filter, find, map, true, sym, ap, subst, ◌∙◌}
use Rattle.std.specs.FinMap as fin
use Rattle.std.specs.BTreeMap.Range.{is_from_start}
use Rattle.std.specs.List.{list_all}
use Rattle.std.specs.Map.Iter.{deref_pair}
use Rattle.std.specs.Option.{option_copied}
use Rattle.std.proofs.lemmas.Map.Iter.{iter_end, rest_more, rest_so_far}
use Rattle.pf_tree.specs.Order.{name_cmp}
use Rattle.pf_tree.specs.Paths.{is_after}
use Rattle.pf_tree.proofs.Bare.{all_map}
use Rattle.pf_tree.proofs.Children.{find_live, find_none, from_behind, from_first, live_names}
use Rattle.pf_tree.proofs.node.Node.next_here.Goals as goal
use Rattle.pf_tree.proofs.node.Node.next_here.Goals.{in-None, in-Some}

pub returns : goal.returns
returns g c =
    let passes : (name : List ℕ) → (is_from_start name_cmp c.match-after.start name && true) ≡ is_after (option_copied c.args.after) name = elim c.match-after.branch [
      | in-None w ↦ from_first c.match-after.start (option_copied c.args.after) w.start-is (ap option_copied w.in-None.is)
      | in-Some w ↦ from_behind c.match-after.start (option_copied c.args.after) w.in-Some.name.now w.start-is (ap option_copied w.in-Some.is)
    ] in
    let start = c.into_iter-name-iterator.ensures.into_iter_gives ∙ c.range-name-items.ensures.between (tt {0}) ∙ ap (λ (p : List ℕ → Bool). filter (λ e. p e.0) c.self.inside.children.entries) (λ i name. passes name i) in
    let whole = (iter_end deref_pair (filter (λ e. is_after (option_copied c.args.after) e.0) c.self.inside.children.entries) c.loop-name.yielded c.into_iter-name-iterator.result c.loop-name.name-iterator c.next.new.self c.next.result start c.loop-name.yielded_by c.in-None-2.is c.next.ensures.steps).0 in
    sym (find_none (λ child. child.value.payloads) (is_after (option_copied c.args.after)) c.self.inside.children.entries (subst (λ es. list_all (λ e. fin.len e.1.value.payloads == 0) es ≡ true) whole (all_map deref_pair (λ e. fin.len e.1.value.payloads == 0) c.loop-name.yielded c.loop-name.invariant)))
    ∙ ap (find (is_after (option_copied c.args.after))) (live_names g.P.Blank.is_blank (λ child. child.value) c.self.inside.payload c.self.inside.children.entries c.args.self.now c.self.view_is c.self.invariant)

pub returns-then-not-is_bare : goal.returns-then-not-is_bare
returns-then-not-is_bare g c =
    let passes : (name : List ℕ) → (is_from_start name_cmp c.match-after.start name && true) ≡ is_after (option_copied c.args.after) name = elim c.match-after.branch [
      | in-None w ↦ from_first c.match-after.start (option_copied c.args.after) w.start-is (ap option_copied w.in-None.is)
      | in-Some w ↦ from_behind c.match-after.start (option_copied c.args.after) w.in-Some.name.now w.start-is (ap option_copied w.in-Some.is)
    ] in
    let start = c.into_iter-name-iterator.ensures.into_iter_gives ∙ c.range-name-items.ensures.between (tt {0}) ∙ ap (λ (p : List ℕ → Bool). filter (λ e. p e.0) c.self.inside.children.entries) (λ i name. passes name i) in
    let front = rest_so_far deref_pair c.loop-name.yielded c.into_iter-name-iterator.result c.loop-name.name-iterator c.loop-name.yielded_by in
    let more = rest_more deref_pair c.loop-name.name-iterator c.next.new.self c.next.result (c.in-Some-2.name, c.in-Some-2.child) c.in-Some-2.is c.next.ensures.steps in
    sym (find_live (λ child. child.value.payloads) (is_after (option_copied c.args.after)) c.self.inside.children.entries (map deref_pair c.loop-name.yielded) c.in-Some-2.name.now c.in-Some-2.child.now c.next.new.self
    (sym start ∙ front ∙ ap (λ rest. map deref_pair c.loop-name.yielded ++ rest) more)
    (all_map deref_pair (λ e. fin.len e.1.value.payloads == 0) c.loop-name.yielded c.loop-name.invariant)
    (ap (λ n. fin.len n.payloads == 0) (sym c.deref.ensures) ∙ sym c.is_bare.ensures ∙ c.if-not-is_bare.true))
    ∙ ap (find (is_after (option_copied c.args.after))) (live_names g.P.Blank.is_blank (λ child. child.value) c.self.inside.payload c.self.inside.children.entries c.args.self.now c.self.view_is c.self.invariant)
