use Rattle.std.proofs.Common.{◌≡◌, ◌<◌, [], List, ℕ, Bool, false, subst, sym, ap, ◌∙◌, arith, length, rules, Decides}
use Rattle.std.specs.Prelude.{slice_index_or}
use Rattle.std.proofs.lemmas.List.{get_or_default}
use Rattle.pf_calls.specs.Graph.{OnCycle}
use Rattle.pf_calls.specs.Numbered.{numbered}
use Rattle.pf_calls.specs.Search.{IsMarked, IsSearch}
use Rattle.pf_calls.proofs.Searched.{led_below, led_from, no_items, none_seen, search_begun, search_ended, search_more, todo_inside}
use Rattle.pf_calls.proofs.search.is_on_cycle.Goals as goal

pub mark-requires : goal.mark-requires
mark-requires c =
    let led = led_from c.args.links.now c.args.start c.items.result.now c.index-links-start.result c.requires.start c.items.ensures c.index-links-start.is in
    led_below c.args.links.now c.requires.inside c.args.start c.items.result.now (length c.in_ok-seen.seen.items) led (omega (arith, c.in_ok-seen.ensures.len, c.in_ok-seen.seen.ok.0))

pub loop-place-init : goal.loop-place-init
loop-place-init c =
    let led = led_from c.args.links.now c.args.start c.items.result.now c.index-links-start.result c.requires.start c.items.ensures c.index-links-start.is in
    let seen = c.in_ok-seen.ensures.items_if_clones_equal (search rules) in
    let long : length c.in_ok-seen.seen.items ≡ length c.args.links.now = omega (arith, c.in_ok-seen.ensures.len, c.in_ok-seen.seen.ok.0) in
    let marked = subst (λ (places : List ℕ). IsMarked c.in_ok-seen.seen.items [] places c.mark.new.seen.items c.mark.new.todo.items) led (subst (λ (todo : List ℕ). IsMarked c.in_ok-seen.seen.items todo c.items.result.now c.mark.new.seen.items c.mark.new.todo.items) c.new-todo.ensures.items c.in_ok-mark.ensures) in
    search_begun c.args.links.now c.args.start c.in_ok-seen.seen.items c.mark.new.seen.items c.mark.new.todo.items c.requires.start long (λ i. ap (λ s. slice_index_or s i false) seen ∙ none_seen (length c.args.links.now) i) marked

pub offset_bounds-links-place : goal.offset_bounds-links-place
offset_bounds-links-place c =
    let found = subst (IsSearch c.args.links.now c.args.start c.loop-place.seen.items) c.in-Some.ensures.items c.loop-place.invariant in
    let inside = todo_inside c.args.links.now c.requires.inside c.args.start c.loop-place.seen.items c.pop.new.self.items c.in-Some.place found in
    search (rules, inside)

pub bounds-links-place : goal.bounds-links-place
bounds-links-place c =
    let found = subst (IsSearch c.args.links.now c.args.start c.loop-place.seen.items) c.in-Some.ensures.items c.loop-place.invariant in
    todo_inside c.args.links.now c.requires.inside c.args.start c.loop-place.seen.items c.pop.new.self.items c.in-Some.place found

pub mark-requires-in-Some : goal.mark-requires-in-Some
mark-requires-in-Some c =
    let found = subst (IsSearch c.args.links.now c.args.start c.loop-place.seen.items) c.in-Some.ensures.items c.loop-place.invariant in
    let inside = todo_inside c.args.links.now c.requires.inside c.args.start c.loop-place.seen.items c.pop.new.self.items c.in-Some.place found in
    let led = led_from c.args.links.now c.in-Some.place c.items-in-Some.result.now c.index-links-place.result inside c.items-in-Some.ensures c.index-links-place.is in
    led_below c.args.links.now c.requires.inside c.in-Some.place c.items-in-Some.result.now (length c.loop-place.seen.items) led c.loop-place.invariant.long

pub loop-place-preserved : goal.loop-place-preserved
loop-place-preserved c =
    let found = subst (IsSearch c.args.links.now c.args.start c.loop-place.seen.items) c.in-Some.ensures.items c.loop-place.invariant in
    let inside = todo_inside c.args.links.now c.requires.inside c.args.start c.loop-place.seen.items c.pop.new.self.items c.in-Some.place found in
    let led = led_from c.args.links.now c.in-Some.place c.items-in-Some.result.now c.index-links-place.result inside c.items-in-Some.ensures c.index-links-place.is in
    let marked = subst (λ (places : List ℕ). IsMarked c.loop-place.seen.items c.pop.new.self.items places c.mark-in-Some.new.seen.items c.mark-in-Some.new.todo.items) led c.in_ok-mark-2.ensures in
    search_more c.args.links.now c.args.start c.loop-place.seen.items c.pop.new.self.items c.in-Some.place c.mark-in-Some.new.seen.items c.mark-in-Some.new.todo.items inside found marked

pub returns : goal.returns
returns c =
    let none = no_items c.loop-place.todo.items (omega (arith, c.in_default.ensures.cases.0, c.loop-place.todo.ok.0)) in
    let ended = search_ended c.args.links.now c.args.start c.loop-place.seen.items (subst (IsSearch c.args.links.now c.args.start c.loop-place.seen.items) none c.loop-place.invariant) in
    let inside : c.args.start < length c.loop-place.seen.items = omega (arith, c.loop-place.invariant.long) in
    let read = c.index.ensures ∙ get_or_default c.loop-place.seen.items c.args.start c.index.result.now false inside in
    subst (λ (b : Bool). Decides b (OnCycle (numbered c.args.links.now) c.args.start)) (sym read) ended
