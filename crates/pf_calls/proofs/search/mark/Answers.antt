use Rattle.std.proofs.Common.{◌≡◌, ◌+◌, ◌<◌, ◌++◌, ◌∷◌, [], true, false, sym, ap, ◌∙◌, arith, take, length, ℕ, Bool, Vec, Global}
use Rattle.std.specs.Prelude.{slice_index_or, slice_set}
use Rattle.std.proofs.lemmas.List.{get_or_default, take_more}
use Rattle.pf_calls.proofs.Searched.{among, mark_new, mark_seen, marked_is}
use Rattle.pf_calls.proofs.search.mark.Goals as goal
use Rattle.pf_calls.proofs.search.mark.Goals.{then-not-index+in_ok-push, else-not-index}

pub index-requires : goal.index-requires
index-requires c =
    let below = c.requires.below (slice_index_or c.args.places.now c.loop-place.place-index 0) (among c.args.places.now c.loop-place.place-index c.loop-place-test.true) in
    omega (arith, c.loop-place.invariant.long, c.loop-place.seen.ok.0)

pub index_mut-requires : goal.index_mut-requires
index_mut-requires c =
    let below = c.requires.below (slice_index_or c.args.places.now c.loop-place.place-index 0) (among c.args.places.now c.loop-place.place-index c.loop-place-test.true) in
    omega (arith, c.loop-place.invariant.long, c.loop-place.seen.ok.0)

pub loop-place-preserved : goal.loop-place-preserved
loop-place-preserved c =
    let places = c.args.places.now in
    let i = c.loop-place.place-index in
    let place = slice_index_or places i 0 in
    let seen = c.args.seen.now.items in
    let todo = c.args.todo.now.items in
    let below = c.requires.below place (among places i c.loop-place-test.true) in
    let inside : place < length c.loop-place.seen.items = omega (arith, c.loop-place.invariant.long) in
    let read = c.index.ensures ∙ get_or_default c.loop-place.seen.items place c.index.result.now false inside in
    let more = take_more places i 0 c.loop-place-test.true in
    elim c.if-not-index.branch [
      | then-not-index+in_ok-push w ↦
          let seen_is : c.if-not-index.seen.items ≡ slice_set c.loop-place.seen.items place true = ap (λ (v : Vec Bool Global). v.items) w.seen-is in
          let todo_is = ap (λ (v : Vec ℕ Global). v.items) w.todo-is ∙ w.in_ok-push.ensures.items in
          let new = mark_new seen todo (take i places) c.loop-place.seen.items c.loop-place.todo.items place c.loop-place.invariant inside (sym read ∙ w.if-not-index.true) in
          marked_is seen todo (take i places ++ place ∷ []) (take (i + 1) places) _ c.if-not-index.seen.items _ c.if-not-index.todo.items (sym more) (sym seen_is) (sym todo_is) new
      | else-not-index w ↦
          let old = mark_seen seen todo (take i places) c.loop-place.seen.items c.loop-place.todo.items place c.loop-place.invariant (sym read ∙ w.if-not-index.false) in
          marked_is seen todo (take i places ++ place ∷ []) (take (i + 1) places) _ c.if-not-index.seen.items _ c.if-not-index.todo.items (sym more) (sym (ap (λ (v : Vec Bool Global). v.items) w.seen-is)) (sym (ap (λ (v : Vec ℕ Global). v.items) w.todo-is)) old
    ]
