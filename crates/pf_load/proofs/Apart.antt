-- The rulesets that a load fills are apart: each is filled by one unit or body, and stands below that of the load.
use Rattle.std.proofs.Common.{◌≡◌, ℕ, zero, suc, ◌+◌, ◌<◌, ◌≤◌, Bool, true, false, cond, List, [], ◌∷◌, ◌++◌, length, drop, drop-cons, get_or, add-one, map, Option, Some, None, Result, Ok, Err, refl, sym, ap, ◌∙◌, subst, inl, inr, arith, length-append, append_assoc, append-nil}
use Rattle.std.specs.Prelude.{All, ◌⊎◌, ◌||◌, is_some, slice_get}
use Rattle.std.specs.Cmp.{IsEquivalence}
use Rattle.std.specs.FinMap as finite
use Rattle.std.specs.FinMap.{IsAntisymmetric, nat_cmp-IsAntisymmetric, slice_cmp-IsAntisymmetric}
use Rattle.std.specs.Option.{option_map}
use Rattle.std.specs.Ordering.{eq_by_cmp, is_eq}
use Rattle.std.specs.declared.cmp.Ordering.{Ordering}
use Rattle.std.specs.declared.cmp.Ordering.TheVariants.{Less, Equal, Greater}
use Rattle.std.proofs.lemmas.Cmp.{eq_by_cmp_equiv, lists_total, nat_cmp_total}
use Rattle.std.proofs.lemmas.List.{drop-append-le}
use Rattle.std.proofs.lemmas.List.Elements.{All-cons, All-nil}
use Rattle.std.proofs.lemmas.Option.{get_or_from_slice_get, slice_get_within}
use Rattle.pf_base.specs.declared.fault.Place.{Place}
use Rattle.pf_base.specs.declared.kind.Level.{Level}
use Rattle.pf_plan.specs.Anchors.{closed_in, closed, counted, filled_with, is_filled, next_load, next_unit, opened, with_inside, with_load}
use Rattle.pf_plan.specs.Drafts.{begun_draft}
use Rattle.pf_plan.specs.Ends.{part_of, plan_of, rulesets_of}
use Rattle.pf_plan.specs.Filled.{Paths, path_cmp}
use Rattle.pf_plan.specs.declared.draft.AnchorFile.{AnchorFile}
use Rattle.pf_plan.specs.declared.draft.Draft.{Draft}
use Rattle.pf_plan.specs.declared.draft.Filling.{Filling}
use Rattle.pf_plan.specs.declared.draft.Ruleset.{Ruleset}
use Rattle.pf_plan.specs.declared.plan.Part.{Part}
use Rattle.pf_plan.specs.declared.plan.Plan.{Plan}
use Rattle.pf_load.specs.Paths.{FillsOnce, IsBelow}
use Rattle.pf_load.proofs.Called.{LeadsBelow}

abbrev APath : Type 0
APath = List (List ℕ)

abbrev same : APath → APath → Bool
same = eq_by_cmp path_cmp

same_self : (p : APath) → same p p ≡ true
same_self p = (eq_by_cmp_equiv (lists_total (lists_total nat_cmp_total))).refl p

by_order : (o : Ordering) → is_eq o ≡ true → o ≡ Equal
by_order Less h = absurd cc
by_order Equal h = refl
by_order Greater h = absurd cc

same_is : (p q : APath) → same p q ≡ true → p ≡ q
same_is p q h = slice_cmp-IsAntisymmetric (slice_cmp-IsAntisymmetric nat_cmp-IsAntisymmetric) p q (by_order (path_cmp p q) h)

-- How often a path stands somewhere.

abbrev one_if : Bool → ℕ
one_if b = cond b 1 0

abbrev times : {A : Type 0} → (A → APath) → APath → List A → ℕ
times path_at p [] = 0
times path_at p (x ∷ xs) = one_if (same p (path_at x)) + times path_at p xs

times-append : {A : Type 0} (path_at : A → APath) (p : APath) (xs ys : List A) → times path_at p (xs ++ ys) ≡ times path_at p xs + times path_at p ys
times-append path_at p [] ys = omega arith
times-append path_at p (x ∷ xs) ys = let rest = times-append path_at p xs ys in omega arith

abbrev of_part : Part → APath
of_part part = part.path

abbrev of_ruleset : Ruleset → APath
of_ruleset filled = filled.path

abbrev of_load : AnchorFile → APath
of_load file = file.path

times-parts : (p : APath) (rulesets : List Ruleset) → times of_part p (map part_of rulesets) ≡ times of_ruleset p rulesets
times-parts p [] = refl
times-parts p (filled ∷ rulesets) = ap (λ (n : ℕ). one_if (same p filled.path) + n) (times-parts p rulesets)

abbrev in_filling : APath → Filling → ℕ
in_filling p filling = times of_ruleset p (rulesets_of filling)

abbrev in_outer : APath → List Filling → ℕ
in_outer p [] = 0
in_outer p (filling ∷ outer) = in_filling p filling + in_outer p outer

-- among the rulesets of a draft, those of files that are still to be read too
abbrev in_draft : APath → Draft → ℕ
in_draft p draft = times of_part p draft.parts + in_filling p draft.here + in_outer p draft.outer + times of_load p (drop draft.begun draft.loads)

-- The ruleset that was begun first.

abbrev outermost : List Filling → APath → APath
outermost [] path = path
outermost (filling ∷ outer) path = outermost outer filling.own.path

abbrev foremost : List Part → APath → APath
foremost [] path = path
foremost (part ∷ parts) path = part.path

abbrev first_path : Draft → APath
first_path draft = foremost draft.parts (outermost draft.outer draft.here.own.path)

-- What is true of a draft of a load into the ruleset at this path.
pub record Apart (at : List (List ℕ)) (draft : Draft) : Type 0 where
  pub first : first_path draft ≡ at
  pub once : (p : APath) → in_draft p draft ≤ 1
  pub below : (p : APath) → 0 < in_draft p draft → IsBelow at p
  pub known : (p : APath) → 0 < in_draft p draft → (p ≡ at) ⊎ (is_filled draft p ≡ true)
  pub begun : draft.begun ≤ length draft.loads

at_itself : (at : APath) → IsBelow at at
at_itself at = record { names = []; is = sym (append-nil at) }

where_same : (p at : APath) (b : Bool) → same p at ≡ b → (0 < one_if b + 0 → p ≡ at) × (one_if b + 0 ≤ 1)
where_same p at true h = (λ some. same_is p at h, omega arith)
where_same p at false h = (λ some. absurd (omega arith), omega arith)

pub apart_begun : (at : List (List ℕ)) (place : Place) → Apart at (begun_draft at place)
apart_begun at place = record {
  first = refl;
  once = λ p. let h = (where_same p at (same p at) refl).1 in omega arith;
  below = λ p some. let is : p ≡ at = (where_same p at (same p at) refl).0 (omega arith) in subst (IsBelow at) (sym is) (at_itself at);
  known = λ p some. inl ((where_same p at (same p at) refl).0 (omega arith));
  begun = omega arith;
}

-- Steps that fill no ruleset more.
stays : (at : APath) (old new : Draft) → Apart at old → first_path new ≡ first_path old → ((p : APath) → in_draft p new ≤ in_draft p old) → new.filled ≡ old.filled → new.begun ≤ length new.loads → Apart at new
stays at old new h first fewer filled begun = record {
  first = first ∙ h.first;
  once = λ p. let few = fewer p in let one = h.once p in omega arith;
  below = λ p some. h.below p (let few = fewer p in omega arith);
  known = λ p some. elim (h.known p (let few = fewer p in omega arith)) as (λ k. (p ≡ at) ⊎ (is_filled new p ≡ true)) [
    | inl is ↦ inl is
    | inr is ↦ inr (ap (λ (f : Paths). finite.contains_key f p) filled ∙ is)
  ];
  begun = begun;
}

-- One ruleset more, which is new and below.

some_long : (names : APath) → (names ≡ [] → ⊥) → 0 < length names
some_long [] some = absurd (some refl)
some_long (name ∷ names) some = omega arith

not_itself : (at path own : APath) (names : APath) → IsBelow at own → (names ≡ [] → ⊥) → path ≡ own ++ names → path ≡ at → ⊥
not_itself at path own names below some is same_path =
    let long : length path ≡ length own + length names = ap length is ∙ length-append own names in
    let own_long : length own ≡ length at + length below.names = ap length below.is ∙ length-append at below.names in
    let at_long : length path ≡ length at = ap length same_path in
    let more = some_long names some in
    omega arith

further_below : (at own path names : APath) → IsBelow at own → path ≡ own ++ names → IsBelow at path
further_below at own path names below is = record { names = below.names ++ names; is = is ∙ ap (λ (o : APath). o ++ names) below.is ∙ append_assoc at below.names names }

here_stands : (draft : Draft) → 0 < in_draft draft.here.own.path draft
here_stands draft = let self : one_if (same draft.here.own.path draft.here.own.path) ≡ 1 = ap one_if (same_self draft.here.own.path) in omega arith

-- where a path is filled once one more is
filled_more : (old : Draft) (path p : APath) (b : Bool) → same p path ≡ b → finite.contains_key (filled_with old.filled path) p ≡ (b || is_filled old p)
filled_more old path p b h = ap is_some (finite.get-insert (lists_total (lists_total nat_cmp_total)) old.filled path tt p) ∙ by_test (same p path) b h
  where
    by_test : (c b : Bool) → c ≡ b → is_some (cond c (Some tt) (finite.get old.filled p)) ≡ (b || is_filled old p)
    by_test true b h = let e : b ≡ true = sym h in rw e refl
    by_test false b h = let e : b ≡ false = sym h in rw e refl

module _ (at : APath) (old new : Draft) (path : APath) (h : Apart at old) (leads : LeadsBelow old path) (first : first_path new ≡ first_path old) (more : (p : APath) → in_draft p new ≡ in_draft p old + one_if (same p path)) (filled : new.filled ≡ filled_with old.filled path) (begun : new.begun ≤ length new.loads) where
  own_below : IsBelow at old.here.own.path
  own_below = h.below old.here.own.path (here_stands old)

  -- no ruleset has this path so far
  is_new : 0 < in_draft path old → ⊥
  is_new some = elim (h.known path some) as (λ k. ⊥) [
    | inl is ↦ not_itself at path old.here.own.path leads.names own_below leads.some leads.is is
    | inr is ↦ absurd (let no : true ≡ false = sym is ∙ leads.new in cc)
  ]

  is_filled_then : (p : APath) (b : Bool) → same p path ≡ b → is_filled new p ≡ (b || is_filled old p)
  is_filled_then p b is = ap (λ (f : Paths). finite.contains_key f p) filled ∙ filled_more old path p b is

  once_then : (p : APath) (b : Bool) → same p path ≡ b → in_draft p new ≤ 1
  once_then p true is =
      let there : p ≡ path = same_is p path is in
      let none : 0 < in_draft p old → ⊥ = subst (λ (q : APath). 0 < in_draft q old → ⊥) (sym there) is_new in
      let count = more p in
      let one : one_if (same p path) ≡ 1 = ap one_if is in
      omega arith
  once_then p false is = let count = more p in let none : one_if (same p path) ≡ 0 = ap one_if is in let few = h.once p in omega arith

  below_then : (p : APath) (b : Bool) → same p path ≡ b → 0 < in_draft p new → IsBelow at p
  below_then p true is some = subst (IsBelow at) (sym (same_is p path is)) (further_below at old.here.own.path path leads.names own_below leads.is)
  below_then p false is some = h.below p (let count = more p in let none : one_if (same p path) ≡ 0 = ap one_if is in omega arith)

  known_then : (p : APath) (b : Bool) → same p path ≡ b → 0 < in_draft p new → (p ≡ at) ⊎ (is_filled new p ≡ true)
  known_then p true is some = inr (is_filled_then p true is)
  known_then p false is some = elim (h.known p (let count = more p in let none : one_if (same p path) ≡ 0 = ap one_if is in omega arith)) as (λ k. (p ≡ at) ⊎ (is_filled new p ≡ true)) [
    | inl same_path ↦ inl same_path
    | inr full ↦ inr (is_filled_then p false is ∙ full)
  ]

  adds : Apart at new
  adds = record {
    first = first ∙ h.first;
    once = λ p. once_then p (same p path) refl;
    below = λ p some. below_then p (same p path) refl some;
    known = λ p some. known_then p (same p path) refl some;
    begun = begun;
  }

-- A body is opened.

counted_path : (filling : Filling) (nameless : Bool) → (counted filling nameless).own.path ≡ filling.own.path
counted_path filling true = refl
counted_path filling false = refl

counted_in : (p : APath) (filling : Filling) (nameless : Bool) → in_filling p (counted filling nameless) ≡ in_filling p filling
counted_in p filling true = refl
counted_in p filling false = refl

pub apart_opened : (at : List (List ℕ)) (draft : Draft) (path : List (List ℕ)) (place : Place) (nameless : Bool) → LeadsBelow draft path → Apart at draft → Apart at (opened draft path place nameless)
apart_opened at draft path place nameless leads h =
    adds at draft (opened draft path place nameless) path h leads
    (ap (λ (own : APath). foremost draft.parts (outermost draft.outer own)) (counted_path draft.here nameless))
    (λ p. let around = counted_in p draft.here nameless in omega arith)
    refl h.begun

-- A file is kept for later.

load_in : (draft : Draft) (path : APath) (file : List ℕ) (p : APath) → draft.begun ≤ length draft.loads → times of_load p (drop draft.begun (draft.loads ++ record { path = path; file = file } ∷ [])) ≡ times of_load p (drop draft.begun draft.loads) + (one_if (same p path) + 0)
load_in draft path file p le =
    let last : List AnchorFile = record { path = path; file = file } ∷ [] in
    ap (times of_load p) (drop-append-le draft.begun draft.loads last le) ∙ times-append of_load p (drop draft.begun draft.loads) last

pub apart_load : (at : List (List ℕ)) (draft : Draft) (path : List (List ℕ)) (file : List ℕ) → LeadsBelow draft path → Apart at draft → Apart at (with_load draft path file)
apart_load at draft path file leads h =
    adds at draft (with_load draft path file) path h leads refl
    (λ p. let more = load_in draft path file p h.begun in omega arith)
    refl
    (let longer = length-append draft.loads (record { path = path; file = file } ∷ []) in let le = h.begun in omega arith)

-- A body is closed.

closed_apart : (at : APath) (draft : Draft) (outer : List Filling) → draft.outer ≡ outer → Apart at draft → Apart at (closed_in draft outer)
closed_apart at draft [] is h = h
closed_apart at draft (filling ∷ outer) is h =
    stays at draft (closed_in draft (filling ∷ outer)) h
    (ap (λ (os : List Filling). foremost draft.parts (outermost os draft.here.own.path)) (sym is))
    (λ p.
    let inside : times of_ruleset p (filling.inside ++ rulesets_of draft.here) ≡ times of_ruleset p filling.inside + in_filling p draft.here = times-append of_ruleset p filling.inside (rulesets_of draft.here) in
    let around : in_outer p draft.outer ≡ in_filling p filling + in_outer p outer = ap (in_outer p) is in
    omega arith)
    refl h.begun

pub apart_closed : (at : List (List ℕ)) (draft : Draft) → Apart at draft → Apart at (closed draft)
apart_closed at draft h = closed_apart at draft draft.outer refl h

-- The next unit begins.

rest_of : (draft : Draft) (next : AnchorFile) → next_load draft ≡ Some next → drop draft.begun draft.loads ≡ next ∷ drop (draft.begun + 1) draft.loads
rest_of draft next is =
    let inside : draft.begun < length draft.loads = slice_get_within draft.loads draft.begun next is in
    drop-cons draft.loads draft.begun next inside
    ∙ ap (λ (file : AnchorFile). file ∷ drop (suc draft.begun) draft.loads) (get_or_from_slice_get draft.loads draft.begun next next is)
    ∙ ap (λ (n : ℕ). next ∷ drop n draft.loads) (sym (add-one draft.begun))

unit_first : (parts : List Part) (here : Filling) (path : APath) → foremost (parts ++ map part_of (rulesets_of here)) path ≡ foremost parts here.own.path
unit_first [] here path = refl
unit_first (part ∷ parts) here path = refl

parts_in : (draft : Draft) (p : APath) → times of_part p (draft.parts ++ map part_of (rulesets_of draft.here)) ≡ times of_part p draft.parts + in_filling p draft.here
parts_in draft p = times-append of_part p draft.parts (map part_of (rulesets_of draft.here)) ∙ ap (λ (n : ℕ). times of_part p draft.parts + n) (times-parts p (rulesets_of draft.here))

pub apart_unit : (at : List (List ℕ)) (draft : Draft) (next : AnchorFile) (place : Place) → draft.outer ≡ [] → next_load draft ≡ Some next → Apart at draft → Apart at (next_unit draft next.path place)
apart_unit at draft next place closed_all is h =
    stays at draft (next_unit draft next.path place) h
    (unit_first draft.parts draft.here next.path ∙ ap (λ (outer : List Filling). foremost draft.parts (outermost outer draft.here.own.path)) (sym closed_all))
    (λ p.
    let parts = parts_in draft p in
    let loads : times of_load p (drop draft.begun draft.loads) ≡ one_if (same p next.path) + times of_load p (drop (draft.begun + 1) draft.loads) = ap (times of_load p) (rest_of draft next is) in
    omega arith)
    refl
    (let inside : draft.begun < length draft.loads = slice_get_within draft.loads draft.begun next is in omega arith)

-- The plan.

stands_at : (parts : List Part) (i : ℕ) (part : Part) → slice_get parts i ≡ Some part → 0 < times of_part part.path parts
stands_at [] i part is = absurd cc
stands_at (one ∷ parts) zero part is =
    let this : one ≡ part = cc in
    let self : one_if (same part.path one.path) ≡ 1 = ap (λ (o : Part). one_if (same part.path o.path)) this ∙ ap one_if (same_self part.path) in
    omega arith
stands_at (one ∷ parts) (suc i) part is = let rest = stands_at parts i part is in omega arith

all_stand : (parts : List Part) (P : Part → Type 0) → ((i : ℕ) (part : Part) → slice_get parts i ≡ Some part → P part) → All P parts
all_stand [] P each = All-nil P
all_stand (part ∷ parts) P each = All-cons P part parts (each 0 part refl) (all_stand parts P (λ i one is. each (suc i) one is))

-- where each path stands once, each place has a path of its own
one_place : (parts : List Part) → ((p : APath) → times of_part p parts ≤ 1) → (i j : ℕ) (one other : Part) → slice_get parts i ≡ Some one → slice_get parts j ≡ Some other → one.path ≡ other.path → i ≡ j
one_place [] few i j one other h k e = absurd cc
one_place (part ∷ parts) few zero zero one other h k e = refl
one_place (part ∷ parts) few zero (suc j) one other h k e =
    let this : part ≡ one = cc in
    let rest : 0 < times of_part other.path parts = stands_at parts j other k in
    let path : other.path ≡ part.path = sym e ∙ ap of_part (sym this) in
    let self : one_if (same other.path part.path) ≡ 1 = ap (λ (q : APath). one_if (same other.path q)) (sym path) ∙ ap one_if (same_self other.path) in
    let most = few other.path in
    absurd (omega arith)
one_place (part ∷ parts) few (suc i) zero one other h k e =
    let this : part ≡ other = cc in
    let rest : 0 < times of_part one.path parts = stands_at parts i one h in
    let path : one.path ≡ part.path = e ∙ ap of_part (sym this) in
    let self : one_if (same one.path part.path) ≡ 1 = ap (λ (q : APath). one_if (same one.path q)) (sym path) ∙ ap one_if (same_self one.path) in
    let most = few one.path in
    absurd (omega arith)
one_place (part ∷ parts) few (suc i) (suc j) one other h k e =
    ap suc (one_place parts (λ p. let most = few p in omega arith) i j one other h k e)

first_part : (parts : List Part) (here : Filling) → option_map of_part (slice_get (parts ++ map part_of (rulesets_of here)) 0) ≡ Some (foremost parts here.own.path)
first_part [] here = refl
first_part (part ∷ parts) here = refl

pub apart_plan : (at : List (List ℕ)) (given : Option Level) (draft : Draft) → draft.outer ≡ [] → Apart at draft → FillsOnce at (plan_of given draft)
apart_plan at given draft closed_all h =
    let parts : List Part = draft.parts ++ map part_of (rulesets_of draft.here) in
    record {
      first = first_part draft.parts draft.here ∙ ap Some (ap (λ (outer : List Filling). foremost draft.parts (outermost outer draft.here.own.path)) (sym closed_all) ∙ h.first);
      below = all_stand parts (λ (part : Part). IsBelow at part.path) (λ i part is. h.below part.path (let stands = stands_at parts i part is in let count = parts_in draft part.path in omega arith));
      once = one_place parts (λ p. let count = parts_in draft p in let one = h.once p in omega arith);
    }
