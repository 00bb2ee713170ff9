-- A search along links finds what the start reaches.
use Rattle.std.proofs.Common.{◌≡◌, ℕ, zero, suc, ◌+◌, ◌<◌, ◌⊎◌, Bool, true, false, List, [], ◌∷◌, ◌++◌, length, length-append, refl, sym, ap, ◌∙◌, subst, inl, inr, arith, cond, replicate}
use Rattle.std.specs.Prelude.{Contains, not, slice_index_or, slice_set}
use Rattle.std.specs.Bool.{Decides}
use Rattle.std.proofs.lemmas.Bool.{false≢true, lt-ltb}
use Rattle.std.proofs.lemmas.List.Sums.{sum_by-set}
use Rattle.std.proofs.lemmas.List.{get_or_default, get_or-set_same, length-set}
use Rattle.std.proofs.lemmas.List.Elements.{Contains-append_left, Contains-append_right, Contains-append_cases}
use Rattle.pf_calls.specs.Graph.{IsStep, LeadsOver, OnCycle}
use Rattle.pf_calls.specs.GraphLaws.{in_cons, now_in, none_in}
use Rattle.pf_calls.specs.Numbered.{IsInside, numbered}
use Rattle.pf_calls.specs.Search.{AreBelow, AreSeen, IsMarked, IsSearch, is_seen, unseen}

-- a place to which a place leads that the start reaches, or the start itself
reached_from : (links : List (List ℕ)) (start a : ℕ) (n : ℕ) → LeadsOver (numbered links) n start a → a < length links → (j : ℕ) → Contains (slice_index_or links a []) j → LeadsOver (numbered links) (suc n) start j
reached_from links start a zero e lt j leads =
    (j, subst (λ (a : ℕ). IsStep (numbered links) a j) (sym e) (record { inside = lt-ltb a (length links) lt; leads = leads }), refl)
reached_from links start a (suc n) way lt j leads = (way.0, way.1, reached_from links way.0 a n way.2 lt j leads)

pub search_begun : (links : List (List ℕ)) (start : ℕ) (seen seen' : List Bool) (todo' : List ℕ) → start < length links → length seen ≡ length links → ((i : ℕ) → is_seen seen i ≡ false) → IsMarked seen [] (slice_index_or links start []) seen' todo' → IsSearch links start seen' todo'
search_begun links start seen seen' todo' inside long none mark = record {
  long = mark.long ∙ long;
  reached = λ j h. elim (mark.only j h) [ inl old ↦ absurd (false≢true (sym (none j) ∙ old)) | inr led ↦ record { more = 0; leads = reached_from links start start 0 refl inside j led } ];
  begun = record { each = mark.marked };
  pending = λ j h. elim (mark.from j h) [ inl old ↦ absurd (none_in j old) | inr led ↦ mark.marked j led ];
  closed = λ j h. elim (mark.new j h) [ inl old ↦ absurd (false≢true (sym (none j) ∙ old)) | inr go ↦ inl go ];
}

pub search_more : (links : List (List ℕ)) (start : ℕ) (seen : List Bool) (todo : List ℕ) (place : ℕ) (seen' : List Bool) (todo' : List ℕ) → place < length links → IsSearch links start seen (todo ++ place ∷ []) → IsMarked seen todo (slice_index_or links place []) seen' todo' → IsSearch links start seen' todo'
search_more links start seen todo place seen' todo' inside search mark =
    let here = search.pending place (Contains-append_right todo (place ∷ []) place (now_in place [])) in
    let way = search.reached place here in
    record {
      long = mark.long ∙ search.long;
      reached = λ j h. elim (mark.only j h) [ inl old ↦ search.reached j old | inr led ↦ record { more = suc way.more; leads = reached_from links start place (suc way.more) way.leads inside j led } ];
      begun = record { each = λ j h. mark.kept j (search.begun.each j h) };
      pending = λ j h. elim (mark.from j h) [ inl old ↦ mark.kept j (search.pending j (Contains-append_left todo (place ∷ []) j old)) | inr led ↦ mark.marked j led ];
      closed = λ j h. elim (mark.new j h) [
        | inr go ↦ inl go
        | inl old ↦ elim (search.closed j old) [
          | inr all ↦ inr (record { each = λ k led. mark.kept k (all.each k led) })
          | inl go ↦ elim (Contains-append_cases todo (place ∷ []) j go) [
            | inl still ↦ inl (mark.still j still)
            | inr last ↦ elim (in_cons place [] j last) [
              | inl same ↦ inr (subst (AreSeen links seen') same (record { each = mark.marked }))
              | inr later ↦ absurd (none_in j later)
            ]
          ]
        ]
      ];
    }

all_closed : (links : List (List ℕ)) (start : ℕ) (seen : List Bool) → IsSearch links start seen [] → (j : ℕ) → is_seen seen j ≡ true → AreSeen links seen j
all_closed links start seen search j h = elim (search.closed j h) [ inl go ↦ absurd (none_in j go) | inr all ↦ all ]

-- at the end all is seen that the start reaches
seen_over : (links : List (List ℕ)) (start : ℕ) (seen : List Bool) → IsSearch links start seen [] → (n a j : ℕ) → AreSeen links seen a → LeadsOver (numbered links) (suc n) a j → is_seen seen j ≡ true
seen_over links start seen search zero a j all way = subst (λ (j : ℕ). is_seen seen j ≡ true) way.2 (all.each way.0 way.1.leads)
seen_over links start seen search (suc n) a j all way =
    seen_over links start seen search n way.0 j (all_closed links start seen search way.0 (all.each way.0 way.1.leads)) way.2

pub search_ended : (links : List (List ℕ)) (start : ℕ) (seen : List Bool) → IsSearch links start seen [] → Decides (is_seen seen start) (OnCycle (numbered links) start)
search_ended links start seen search = (
  λ h. (let way = search.reached start h in record { more = way.more; leads = way.leads }),
  λ cycle. seen_over links start seen search cycle.more start start search.begun cycle.leads,
)

-- a place that was seen before
pub mark_seen : (seen : List Bool) (todo places : List ℕ) (seen' : List Bool) (todo' : List ℕ) (place : ℕ) → IsMarked seen todo places seen' todo' → is_seen seen' place ≡ true → IsMarked seen todo (places ++ place ∷ []) seen' todo'
mark_seen seen todo places seen' todo' place mark here = record {
  long = mark.long;
  kept = mark.kept;
  marked = λ j h. elim (Contains-append_cases places (place ∷ []) j h) [
    | inl before ↦ mark.marked j before
    | inr last ↦ elim (in_cons place [] j last) [ inl same ↦ subst (λ (j : ℕ). is_seen seen' j ≡ true) same here | inr later ↦ absurd (none_in j later) ]
  ];
  only = λ j h. elim (mark.only j h) [ inl old ↦ inl old | inr led ↦ inr (Contains-append_left places (place ∷ []) j led) ];
  still = mark.still;
  new = mark.new;
  from = λ j h. elim (mark.from j h) [ inl old ↦ inl old | inr led ↦ inr (Contains-append_left places (place ∷ []) j led) ];
  fewer = mark.fewer;
}

now_seen : (seen : List Bool) (place j : ℕ) → is_seen seen j ≡ true → is_seen (slice_set seen place true) j ≡ true
now_seen [] place j h = h
now_seen (b ∷ seen) zero zero h = refl
now_seen (b ∷ seen) zero (suc j) h = h
now_seen (b ∷ seen) (suc place) zero h = h
now_seen (b ∷ seen) (suc place) (suc j) h = now_seen seen place j h

seen_now : (seen : List Bool) (place j : ℕ) → is_seen (slice_set seen place true) j ≡ true → (is_seen seen j ≡ true) ⊎ (place ≡ j)
seen_now [] place j h = inl h
seen_now (b ∷ seen) zero zero h = inr refl
seen_now (b ∷ seen) zero (suc j) h = inl h
seen_now (b ∷ seen) (suc place) zero h = inl h
seen_now (b ∷ seen) (suc place) (suc j) h = elim (seen_now seen place j h) [ inl old ↦ inl old | inr same ↦ inr (ap suc same) ]

one_fewer : (seen : List Bool) (place : ℕ) → place < length seen → is_seen seen place ≡ false → unseen (slice_set seen place true) + 1 ≡ unseen seen
one_fewer seen place lt none =
    let sums = sum_by-set (λ x. cond (not x) 1 0) seen place true false lt in
    let was : cond {A = ℕ} (not (slice_index_or seen place false)) 1 0 ≡ 1 = ap (λ x. cond (not x) 1 0) none in
    omega arith

-- a place that wasn't
pub mark_new : (seen : List Bool) (todo places : List ℕ) (seen' : List Bool) (todo' : List ℕ) (place : ℕ) → IsMarked seen todo places seen' todo' → place < length seen' → is_seen seen' place ≡ false → IsMarked seen todo (places ++ place ∷ []) (slice_set seen' place true) (todo' ++ place ∷ [])
mark_new seen todo places seen' todo' place mark inside none = record {
  long = length-set seen' place true ∙ mark.long;
  kept = λ j h. now_seen seen' place j (mark.kept j h);
  marked = λ j h. elim (Contains-append_cases places (place ∷ []) j h) [
    | inl before ↦ now_seen seen' place j (mark.marked j before)
    | inr last ↦ elim (in_cons place [] j last) [ inl same ↦ subst (λ (j : ℕ). is_seen (slice_set seen' place true) j ≡ true) same (get_or-set_same seen' place true false inside) | inr later ↦ absurd (none_in j later) ]
  ];
  only = λ j h. elim (seen_now seen' place j h) [
    | inl old ↦ elim (mark.only j old) [ inl older ↦ inl older | inr led ↦ inr (Contains-append_left places (place ∷ []) j led) ]
    | inr same ↦ inr (Contains-append_right places (place ∷ []) j (subst (λ (j : ℕ). Contains (place ∷ []) j) same (now_in place [])))
  ];
  still = λ j h. Contains-append_left todo' (place ∷ []) j (mark.still j h);
  new = λ j h. elim (seen_now seen' place j h) [
    | inl old ↦ elim (mark.new j old) [ inl older ↦ inl older | inr go ↦ inr (Contains-append_left todo' (place ∷ []) j go) ]
    | inr same ↦ inr (Contains-append_right todo' (place ∷ []) j (subst (λ (j : ℕ). Contains (place ∷ []) j) same (now_in place [])))
  ];
  from = λ j h. elim (Contains-append_cases todo' (place ∷ []) j h) [
    | inl old ↦ elim (mark.from j old) [ inl older ↦ inl older | inr led ↦ inr (Contains-append_left places (place ∷ []) j led) ]
    | inr last ↦ inr (Contains-append_right places (place ∷ []) j last)
  ];
  fewer = (
      let one = one_fewer seen' place inside none in
      let more = length-append todo' (place ∷ []) in
      let before = mark.fewer in
      omega arith);
}

pub among : (places : List ℕ) (i : ℕ) → i < length places → Contains places (slice_index_or places i 0)
among places i lt = (i, lt, get_or_default places i (slice_index_or places i 0) 0 lt)

-- the places to which a place leads
pub led_from : (links : List (List ℕ)) (i : ℕ) (items found : List ℕ) → i < length links → items ≡ found → found ≡ slice_index_or links i found → items ≡ slice_index_or links i []
led_from links i items found lt same is = same ∙ is ∙ get_or_default links i found [] lt

pub led_below : (links : List (List ℕ)) → IsInside links → (i : ℕ) (items : List ℕ) (bound : ℕ) → items ≡ slice_index_or links i [] → bound ≡ length links → AreBelow items bound
led_below links inside i items bound same long = record { below = λ j h. (let lt = inside.below i j (subst (λ l. Contains l j) same h) in omega arith) }

pub none_seen : (n i : ℕ) → slice_index_or (replicate n false) i false ≡ false
none_seen zero i = refl
none_seen (suc n) zero = refl
none_seen (suc n) (suc i) = none_seen n i

reached_inside : (links : List (List ℕ)) → IsInside links → (n a j : ℕ) → LeadsOver (numbered links) (suc n) a j → j < length links
reached_inside links inside zero a j way = subst (λ (j : ℕ). j < length links) way.2 (inside.below a way.0 way.1.leads)
reached_inside links inside (suc n) a j way = reached_inside links inside n way.0 j way.2

-- from each place that is still to be gone on from, links lead to places of rows
pub todo_inside : (links : List (List ℕ)) → IsInside links → (start : ℕ) (seen : List Bool) (todo : List ℕ) (place : ℕ) → IsSearch links start seen (todo ++ place ∷ []) → place < length links
todo_inside links inside start seen todo place search =
    let here = search.pending place (Contains-append_right todo (place ∷ []) place (now_in place [])) in
    let way = search.reached place here in
    reached_inside links inside way.more start place way.leads

pub marked_is : (seen : List Bool) (todo places places' : List ℕ) (s s' : List Bool) (t t' : List ℕ) → places ≡ places' → s ≡ s' → t ≡ t' → IsMarked seen todo places s t → IsMarked seen todo places' s' t'
marked_is seen todo places places' s s' t t' e f h mark =
    subst (λ (t : List ℕ). IsMarked seen todo places' s' t) h (subst (λ (s : List Bool). IsMarked seen todo places' s t) f (subst (λ (places : List ℕ). IsMarked seen todo places s t) e mark))

pub no_items : (xs : List ℕ) → length xs ≡ 0 → xs ≡ []
no_items [] h = refl
no_items (x ∷ xs) h = absurd (omega arith)
