-- The ends of units come to something: it can't be that nothing is what one comes to.
use Rattle.std.proofs.Common.{◌≡◌, ℕ, zero, suc, ◌<◌, Bool, true, false, List, take, Option, Some, Result, Ok, Err, refl, arith}
use Rattle.std.specs.Prelude.{slice_get}
use Rattle.pf_decl.specs.Checks.{HoldsOfNone, IsFirst, Judged, fine, is_orphan, is_twice, is_unknown, orphan, orphan_at, twice, twice_at, unknown, unknown_at}
use Rattle.pf_decl.specs.declared.check.QueueFault.{QueueFault}
use Rattle.pf_decl.specs.declared.check.UsedQueue.{UsedQueue}
use Rattle.pf_decl.specs.declared.form.Queue.{Queue}
use Rattle.pf_fault.specs.declared.fault.Fault.{Fault}
use Rattle.pf_plan.specs.Ends.{HasEndFault, end_fault}
use Rattle.pf_plan.specs.declared.draft.Draft.{Draft}

-- the first item that has the test, where one has it
first_or_none : {A : Type 0} (test : List A → A → Bool) (items : List A) → ((item : A) → IsFirst test items item → ⊥) → (HoldsOfNone test items → ⊥) → ⊥
first_or_none {A} test items none never = never (record { fails = λ k other here. all_fail (suc k) k other (omega arith) here })
  where
    differ : (b : Bool) → (b ≡ true → ⊥) → b ≡ false
    differ true h = absurd (h refl)
    differ false h = refl

    -- of the items below a count each fails, since none is the first
    all_fail : (n k : ℕ) (other : A) → k < n → slice_get items k ≡ Some other → test (take k items) other ≡ false
    all_fail zero k other low here = absurd (omega arith)
    all_fail (suc n) k other low here =
        differ (test (take k items) other) (λ holds. none other (record {
          index = k;
          here = here;
          holds = holds;
          fails = λ j one below there. all_fail n j one (omega arith) there;
        }))

judged_somehow : (queues : List Queue) (used : List UsedQueue) → ((answer : Result (Unit {0}) QueueFault) → Judged queues used answer → ⊥) → ⊥
judged_somehow queues used never =
    first_or_none is_twice queues (λ queue first. never (Err (twice_at queue)) (twice first)) (λ differ.
    first_or_none is_orphan queues (λ queue first. never (Err (orphan_at queue)) (orphan differ first)) (λ hang.
    first_or_none (is_unknown queues) used (λ one first. never (Err (unknown_at one)) (unknown differ hang first)) (λ known.
    never (Ok tt) (fine differ hang known))))

pub end_comes : (draft : Draft) → ((fault : Option Fault) → HasEndFault draft fault → ⊥) → ⊥
end_comes draft never = judged_somehow draft.queues draft.used (λ queues judged. never (end_fault draft queues) (record { queues = queues; judged = judged; is = refl }))
