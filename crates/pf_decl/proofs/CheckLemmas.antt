-- The first item that has a test, given the items before it.
use Rattle.std.proofs.Common.{◌≡◌, ℕ, zero, suc, ◌+◌, ◌<◌, ◌≤◌, Bool, true, false, List, length, take, Option, Some, None, refl, ap, sym, subst, ◌∙◌, arith, inl, inr}
use Rattle.std.specs.Prelude.{slice_get, Result, Ok, Err}
use Rattle.std.proofs.lemmas.Bool.{cases_lt, cases_order}
use Rattle.std.proofs.lemmas.Option.{slice_get_cases, slice_get_within}
use Rattle.pf_decl.specs.declared.check.QueueFault.{QueueFault}
use Rattle.pf_decl.specs.declared.check.UsedQueue.{UsedQueue}
use Rattle.pf_decl.specs.declared.form.Queue.{Queue}
use Rattle.pf_decl.specs.Checks.{HoldsOfNone, IsFirst, Judged, twice, orphan, unknown, fine, is_twice, is_orphan, is_unknown, twice_at, orphan_at, unknown_at}
use Rattle.pf_decl.specs.Coming.{HasJudgement}

-- no item below has it
pub record FailsBelow {A : Type 0} (test : List A → A → Bool) (items : List A) (i : ℕ) : Type 0 where
  pub fails : (k : ℕ) (other : A) → k < i → slice_get items k ≡ Some other → test (take k items) other ≡ false

pub none_below : {A : Type 0} (test : List A → A → Bool) (items : List A) → FailsBelow test items 0
none_below test items = record { fails = λ k other below is. absurd (omega arith) }

abbrev item_or : {A : Type 0} → A → Option A → A
item_or other None = other
item_or other (Some item) = item

pub one_more : {A : Type 0} (test : List A → A → Bool) (items : List A) (i : ℕ) (item : A)
    → FailsBelow test items i → slice_get items i ≡ Some item → test (take i items) item ≡ false → FailsBelow test items (i + 1)
one_more {A} test items i item below is fails = record {
  fails = λ k other less here.
      elim (cases_lt k i) [
        | inl lower ↦ below.fails k other lower here
        | inr upper ↦
            let same : i ≡ k = omega arith in
            let there : slice_get items k ≡ Some item = subst (λ (n : ℕ). slice_get items n ≡ Some item) same is in
            let one : item ≡ other = ap (item_or item) (sym there ∙ here) in
            let not : test (take k items) item ≡ false = subst (λ (n : ℕ). test (take n items) item ≡ false) same fails in
            subst (λ (a : A). test (take k items) a ≡ false) one not
      ];
}

pub all_below : {A : Type 0} (test : List A → A → Bool) (items : List A) (i : ℕ) → FailsBelow test items i → length items ≤ i → HoldsOfNone test items
all_below test items i below all = record { fails = λ k other here. below.fails k other (omega (arith, slice_get_within items k other here)) here }

pub first_here : {A : Type 0} (test : List A → A → Bool) (items : List A) (i : ℕ) (item : A)
    → FailsBelow test items i → slice_get items i ≡ Some item → test (take i items) item ≡ true → IsFirst test items item
first_here test items i item below is holds = record { index = i; here = is; holds = holds; fails = below.fails }

-- no two items are the first
pub one_first : {A : Type 0} (test : List A → A → Bool) (items : List A) (item other : A) → IsFirst test items item → IsFirst test items other → item ≡ other
one_first {A} test items item other one two =
    elim (cases_order one.index two.index) [
      | inl same ↦
          let there : slice_get items two.index ≡ Some item = subst (λ (n : ℕ). slice_get items n ≡ Some item) same one.here in
          ap (item_or item) (sym there ∙ two.here)
      | inr (inl below) ↦
          let b : true ≡ false = sym one.holds ∙ two.fails one.index item below one.here in absurd (cc)
      | inr (inr above) ↦
          let b : true ≡ false = sym two.holds ∙ one.fails two.index other above two.here in absurd (cc)
    ]

-- and where none has the test none is the first
pub none_first : {A : Type 0} (test : List A → A → Bool) (items : List A) (item : A) → HoldsOfNone test items → IsFirst test items item → ⊥
none_first test items item none first =
    let b : true ≡ false = sym first.holds ∙ none.fails first.index item first.here in cc

abbrev fault_of : QueueFault → Result (Unit {0}) QueueFault
fault_of fault = Err fault

-- queues are judged in one way
pub judged_once : (queues : List Queue) (used : List UsedQueue) (one two : Result (Unit {0}) QueueFault) → Judged queues used one → Judged queues used two → one ≡ two
judged_once queues used one two (twice {queue = q} a) (twice {queue = r} b) = ap (λ queue. fault_of (twice_at queue)) (one_first is_twice queues q r a b)
judged_once queues used one two (twice {queue = q} a) (orphan n b) = absurd (none_first is_twice queues q n a)
judged_once queues used one two (twice {queue = q} a) (unknown n m b) = absurd (none_first is_twice queues q n a)
judged_once queues used one two (twice {queue = q} a) (fine n m k) = absurd (none_first is_twice queues q n a)
judged_once queues used one two (orphan n a) (twice {queue = r} b) = absurd (none_first is_twice queues r n b)
judged_once queues used one two (orphan {queue = q} n a) (orphan {queue = r} m b) = ap (λ queue. fault_of (orphan_at queue)) (one_first is_orphan queues q r a b)
judged_once queues used one two (orphan {queue = q} n a) (unknown l m b) = absurd (none_first is_orphan queues q m a)
judged_once queues used one two (orphan {queue = q} n a) (fine l m k) = absurd (none_first is_orphan queues q m a)
judged_once queues used one two (unknown n m a) (twice {queue = r} b) = absurd (none_first is_twice queues r n b)
judged_once queues used one two (unknown n m a) (orphan {queue = r} l b) = absurd (none_first is_orphan queues r m b)
judged_once queues used one two (unknown {one = q} n m a) (unknown {one = r} k l b) = ap (λ use_of. fault_of (unknown_at use_of)) (one_first (is_unknown queues) used q r a b)
judged_once queues used one two (unknown {one = q} n m a) (fine k l e) = absurd (none_first (is_unknown queues) used q e a)
judged_once queues used one two (fine n m k) (twice {queue = r} b) = absurd (none_first is_twice queues r n b)
judged_once queues used one two (fine n m k) (orphan {queue = r} l b) = absurd (none_first is_orphan queues r m b)
judged_once queues used one two (fine n m k) (unknown {one = r} l e b) = absurd (none_first (is_unknown queues) used r k b)
judged_once queues used one two (fine n m k) (fine l e f) = refl

-- some item is the first that has it, or none has it
data FirstOrNone {A : Type 0} (test : List A → A → Bool) (items : List A) : Type 0 where
  some_has : {item : A} → IsFirst test items item → FirstOrNone test items
  none_has : HoldsOfNone test items → FirstOrNone test items

here_or_later : {A : Type 0} (test : List A → A → Bool) (items : List A) (i : ℕ) (item : A)
    → FailsBelow test items i → slice_get items i ≡ Some item → (FailsBelow test items (i + 1) → FirstOrNone test items)
    → (b : Bool) → test (take i items) item ≡ b → FirstOrNone test items
here_or_later test items i item below here later true holds = some_has (first_here test items i item below here holds)
here_or_later test items i item below here later false fails = later (one_more test items i item below here fails)

-- the search goes on with at most `n` items
search_from : {A : Type 0} (test : List A → A → Bool) (items : List A) (n i : ℕ) → length items ≤ i + n → FailsBelow test items i → FirstOrNone test items
search_from test items zero i bound below = none_has (all_below test items i below (omega arith))
search_from test items (suc n) i bound below =
    elim (slice_get_cases items i).1 [
      | inl found ↦ here_or_later test items i found.0 below found.2 (λ next. search_from test items n (i + 1) (omega arith) next) (test (take i items) found.0) refl
      | inr past ↦ none_has (all_below test items i below past.0)
    ]

first_or_none : {A : Type 0} (test : List A → A → Bool) (items : List A) → FirstOrNone test items
first_or_none test items = search_from test items (length items) 0 (omega arith) (none_below test items)

module _ (queues : List Queue) (used : List UsedQueue) where
  by_uses : HoldsOfNone is_twice queues → HoldsOfNone is_orphan queues → FirstOrNone (is_unknown queues) used → HasJudgement queues used
  by_uses n m (some_has {item = item} first) = record { answer = Err (unknown_at item); judged = unknown n m first }
  by_uses n m (none_has k) = record { answer = Ok tt; judged = fine n m k }

  by_parents : HoldsOfNone is_twice queues → FirstOrNone is_orphan queues → HasJudgement queues used
  by_parents n (some_has {item = item} first) = record { answer = Err (orphan_at item); judged = orphan n first }
  by_parents n (none_has m) = by_uses n m (first_or_none (is_unknown queues) used)

  by_names : FirstOrNone is_twice queues → HasJudgement queues used
  by_names (some_has {item = item} first) = record { answer = Err (twice_at item); judged = twice first }
  by_names (none_has n) = by_parents n (first_or_none is_orphan queues)

  -- queues are judged in some way
  pub some_judgement : HasJudgement queues used
  some_judgement = by_names (first_or_none is_twice queues)
