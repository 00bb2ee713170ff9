use Rattle.std.proofs.Common.{◌≡◌, ℕ, ◌+◌, Bool, List, [], ◌∷◌, ◌++◌, Option, Some, drop, take, sym, ap, ◌∙◌, subst}
use Rattle.pf_table.specs.Pushed.{more_items}
use Rattle.pf_entries.specs.declared.gathered.Placed.{Placed}
use Rattle.pf_entries.proofs.Settling.{SettledSoFar, at_first, next_item, one_known, one_new, same_signs}
use Rattle.pf_entries.proofs.settle.settle.Goals as goal
use Rattle.pf_entries.proofs.settle.settle.Goals.{in-None+in_ok-add-in-None+in_ok-push_copy-in-None, in-Some+else-negated-one}

pub loop-one-init : goal.loop-one-init
loop-one-init c = rw c.new-entries.ensures (at_first c.args.placed.now c.new-seen.result c.new-seen.ensures)

pub loop-one-preserved : goal.loop-one-preserved
loop-one-preserved c =
    let placed = c.args.placed.now in
    let i = c.loop-one.one-index in
    let one = c.one-item.result in
    let next : drop i placed ≡ one ∷ drop (i + 1) placed = next_item placed i one c.loop-one-test.true c.one-item.is in
    let taken : take (i + 1) placed ≡ take i placed ++ one ∷ [] = more_items placed i one c.loop-one-test.true c.one-item.is in
    let so : SettledSoFar placed (take i placed) (one ∷ drop (i + 1) placed) c.loop-one.seen c.loop-one.entries =
    subst (λ (rest : List Placed). SettledSoFar placed (take i placed) rest c.loop-one.seen c.loop-one.entries) next c.loop-one.invariant in
    elim c.match-sign_of.branch [
      | in-None+in_ok-add-in-None+in_ok-push_copy-in-None w ↦
          rw (taken, w.seen-is, w.entries-is ∙ w.in_ok-push_copy-in-None.ensures.ok)
          (one_new placed (take i placed) (drop (i + 1) placed) one c.loop-one.seen c.loop-one.entries so w.add.new.self (sym c.sign_of.ensures ∙ w.in-None.is) w.in_ok-add-in-None.ensures.ok)
      | in-Some+else-negated-one w ↦
          rw (taken, w.seen-is, w.entries-is)
          (one_known placed (take i placed) (drop (i + 1) placed) one c.loop-one.seen c.loop-one.entries so (sym c.sign_of.ensures ∙ w.in-Some.is ∙ ap (λ (b : Bool). Some b) (same_signs w.in-Some.negated one.entry.negated w.if-negated-one.false)))
    ]
