-- The search over corners passes none that drops the rule.
use Rattle.std.proofs.Common.{◌≡◌, ℕ, ◌-◌, ◌<◌, ◌≤◌, Bool, true, false, List, [], ◌∷◌, ◌++◌, map, length, get_or, sym, ap, ◌∙◌, ◌⊎◌, inl, inr, subst, arith}
use Rattle.std.proofs.lemmas.Bool.{cases_lt, false_from_ne_true}
use Rattle.std.proofs.lemmas.List.{get_or-map, get_or_append_left, get_or_default, length-append, length-map}
use Rattle.std.proofs.lemmas.List.FromFn.{length-enumerate_from}
use Rattle.std.proofs.lemmas.List.Sorted.{All-permutation, IsPermutation-sym}
use Rattle.std.proofs.lemmas.List.Sums.{position_or_len_is}
use Rattle.std.specs.List.{All, position_or_len}
use Rattle.std.proofs.lemmas.List.Folds.{list_any_at, list_any_none}
use Rattle.std.proofs.Math.Seq.{get_or-append_seam}
use Rattle.pf_rule.specs.declared.rule.Rule.{Rule}
use Rattle.pf_cover.proofs.Corners.{corner_depth, corner_low, corner_place, dropped_by_corners, each_corner, not_covering, not_dropping, placed_at}
use Rattle.pf_cover.specs.Corner.{corner_at, ends_at}
use Rattle.pf_cover.specs.Kept.{drops, is_dropped, placed}
use Rattle.pf_cover.specs.Search.{AreCorners, AreDeeper, AreJumps, corner_drops, covering, dropped_of}
use Rattle.pf_cover.specs.declared.corner.Axis.{Axis}
use Rattle.pf_cover.specs.declared.corner.Corner.{Corner}

-- a jump over corners that are deeper than a deeper one
pub jump_over : (corners : List Corner) (jumps : List ℕ) (depth left end : ℕ) (one : Corner) → AreJumps corners jumps → left ≤ end → end ≤ length jumps → 0 < left → one ≡ get_or corners (left - 1) one → depth < one.depth → AreDeeper corners depth left end → AreDeeper corners depth (get_or jumps (left - 1) 0) end
jump_over corners jumps depth left end one are l e some is deep over i other low high =
    let inside : left - 1 < length jumps = omega arith in
    elim (cases_lt i (left - 1)) [
      | inl before ↦
          let h : (get_or corners (left - 1) one).depth < (get_or corners i other).depth = are.over (left - 1) one inside i other low before in
          let k : one.depth ≡ (get_or corners (left - 1) one).depth = ap (λ (t : Corner). t.depth) is in
          omega arith
      | inr behind ↦ elim (cases_lt i left) [
        | inl here ↦
            let at : i ≡ left - 1 = omega arith in
            let within : left - 1 < length corners = let few = are.few in omega arith in
            let k : one.depth ≡ (get_or corners i other).depth = ap (λ (t : Corner). t.depth) (is ∙ get_or_default corners (left - 1) one other within ∙ ap (λ (n : ℕ). get_or corners n other) (sym at)) in
            omega arith
        | inr past ↦ over i other past high
      ]
    ]

pub no_jumps : (corners : List Corner) → AreJumps corners []
no_jumps corners = record {
  few = omega arith;
  down = λ j h. absurd (omega arith);
  over = λ j one h. absurd (omega arith);
}

-- one jump more
pub jumps_more : (corners : List Corner) (jumps : List ℕ) (jump : ℕ) (one : Corner) → AreJumps corners jumps → length jumps < length corners → one ≡ get_or corners (length jumps) one → jump ≤ length jumps → AreDeeper corners one.depth jump (length jumps) → AreJumps corners (jumps ++ jump ∷ [])
jumps_more corners jumps jump one are h is down over = record {
  few = omega (arith, length-append jumps (jump ∷ []));
  down = λ j k. elim (cases_lt j (length jumps)) [
    | inl e ↦ let same = get_or_append_left jumps (jump ∷ []) 0 j e in let below = are.down j e in omega arith
    | inr e ↦
        let at : j ≡ length jumps = omega (arith, length-append jumps (jump ∷ [])) in
        let same : get_or (jumps ++ jump ∷ []) j 0 ≡ jump = ap (λ (n : ℕ). get_or (jumps ++ jump ∷ []) n 0) at ∙ get_or-append_seam jumps jump [] 0 in
        omega arith
  ];
  over = λ j other k. elim (cases_lt j (length jumps)) [
    | inl e ↦ subst (λ (n : ℕ). AreDeeper corners (get_or corners j other).depth n j) (sym (get_or_append_left jumps (jump ∷ []) 0 j e)) (are.over j other e)
    | inr e ↦
        let at : j ≡ length jumps = omega (arith, length-append jumps (jump ∷ [])) in
        let same : get_or (jumps ++ jump ∷ []) j 0 ≡ jump = ap (λ (n : ℕ). get_or (jumps ++ jump ∷ []) n 0) at ∙ get_or-append_seam jumps jump [] 0 in
        let deep : one.depth ≡ (get_or corners j other).depth = ap (λ (t : Corner). t.depth) (is ∙ get_or_default corners (length jumps) one other h ∙ ap (λ (n : ℕ). get_or corners n other) (sym at)) in
        λ i third low high.
        let from : jump ≤ i = omega arith in
        let before : i < length jumps = omega arith in
        let far = over i third from before in
        omega arith
  ];
}

-- corners that lie higher, or deeper, drop nothing
pub higher_none : (axis : Axis) (rules : List Rule) (corners : List Corner) (place : ℕ) (rule : Rule) (own : Corner) → AreCorners axis rules corners → own ≡ corner_at axis (place, rule) → (i : ℕ) (d : Corner) → i < length corners → (own.low < (get_or corners i d).low) ⊎ (own.depth < (get_or corners i d).depth) → corner_drops rules (place, rule) (get_or corners i d) ≡ false
higher_none axis rules corners place rule own are is i d inside far =
    let low : own.low ≡ (ends_at axis rule.criteria).low = ap (λ (t : Corner). t.low) is ∙ corner_low axis (place, rule) in
    let depth : own.depth ≡ (ends_at axis rule.criteria).depth = ap (λ (t : Corner). t.depth) is ∙ corner_depth axis (place, rule) in
    not_dropping axis rules (place, rule) (get_or corners i d) (each_corner axis rules rule corners are i d inside)
    (elim far [
      | inl e ↦ inl (omega arith)
      | inr e ↦ inr (omega arith)
    ])

-- what a rule at a corner says
pub drops_at : (rules : List Rule) (place : ℕ) (rule one : Rule) (corner : Corner) → corner.place < length rules → one ≡ get_or rules corner.place one → corner_drops rules (place, rule) corner ≡ drops (corner.place, one) (place, rule)
drops_at rules place rule one corner inside is =
    ap (λ (r : Rule). drops (corner.place, r) (place, rule)) (get_or_default rules corner.place rule one inside ∙ sym is)

pub found_dropped : (axis : Axis) (rules : List Rule) (corners : List Corner) (place : ℕ) (rule : Rule) (i : ℕ) (d : Corner) → AreCorners axis rules corners → i < length corners → corner_drops rules (place, rule) (get_or corners i d) ≡ true → is_dropped rules (place, rule) ≡ true
found_dropped axis rules corners place rule i d are inside h =
    dropped_by_corners axis rules corners (place, rule) are ∙ list_any_at (corner_drops rules (place, rule)) corners i d inside h

pub none_dropped : (axis : Axis) (rules : List Rule) (corners : List Corner) (place : ℕ) (rule : Rule) → AreCorners axis rules corners → ((i : ℕ) (d : Corner) → 0 ≤ i → i < length corners → corner_drops rules (place, rule) (get_or corners i d) ≡ false) → is_dropped rules (place, rule) ≡ false
none_dropped axis rules corners place rule are h =
    dropped_by_corners axis rules corners (place, rule) are ∙ list_any_none (corner_drops rules (place, rule)) corners (λ i d inside. h i d (omega arith) inside)

-- a rule at a place drops it
pub placed_drops : (rules : List Rule) (j : ℕ) (one : Rule) (other : ℕ × Rule) → j < length rules → one ≡ get_or rules j one → drops (j, one) other ≡ true → is_dropped rules other ≡ true
unfolding is_dropped
placed_drops rules j one other inside is h =
    let within : j < length (placed rules) = omega (arith, length-enumerate_from 0 rules) in
    list_any_at (λ (pair : ℕ × Rule). drops pair other) (placed rules) j (j, one) within
    (ap (λ (pair : ℕ × Rule). drops pair other) (placed_at rules j (j, one) inside ∙ ap (λ (r : Rule). (j, r)) (sym is)) ∙ h)

-- the flag at a place
pub flags_long : (rules : List Rule) → length (dropped_of rules) ≡ length rules
flags_long rules = length-map (placed rules) (is_dropped rules) ∙ length-enumerate_from 0 rules

pub flag_at : (rules : List Rule) (place : ℕ) (rule : Rule) (d : Bool) → place < length rules → rule ≡ get_or rules place rule → get_or (dropped_of rules) place d ≡ is_dropped rules (place, rule)
flag_at rules place rule d inside is =
    let within : place < length (placed rules) = omega (arith, length-enumerate_from 0 rules) in
    get_or-map (is_dropped rules) (placed rules) place (0, rule) d within
    ∙ ap (is_dropped rules) (placed_at rules place (0, rule) inside ∙ ap (λ (r : Rule). (place, r)) (sym is))

-- corners that lie higher, or deeper, cover nothing
pub higher_covers_none : (axis : Axis) (rules : List Rule) (corners : List Corner) (place : ℕ) (rule : Rule) (own : Corner) → AreCorners axis rules corners → own ≡ corner_at axis (place, rule) → (i : ℕ) (d : Corner) → i < length corners
    → (own.low < (get_or corners i d).low) ⊎ (own.depth < (get_or corners i d).depth) → covering rule (get_or rules (get_or corners i d).place rule) ≡ false
higher_covers_none axis rules corners place rule own are is i d inside far =
    let low : own.low ≡ (ends_at axis rule.criteria).low = ap (λ (t : Corner). t.low) is ∙ corner_low axis (place, rule) in
    let depth : own.depth ≡ (ends_at axis rule.criteria).depth = ap (λ (t : Corner). t.depth) is ∙ corner_depth axis (place, rule) in
    not_covering axis rules rule (get_or corners i d) (each_corner axis rules rule corners are i d inside)
    (elim far [
      | inl e ↦ inl (omega arith)
      | inr e ↦ inr (omega arith)
    ])

-- where each corner's rule that covers stands behind a place, each rule before that place doesn't cover
covers_behind : (rules : List Rule) (rule : Rule) (first : ℕ) → Corner → Type 0
covers_behind rules rule first corner = covering rule (get_or rules corner.place rule) ≡ true → first ≤ corner.place

pub first_is : (axis : Axis) (rules : List Rule) (corners : List Corner) (rule : Rule) (first : ℕ) → AreCorners axis rules corners → first ≤ length rules
    → (first < length rules → covering rule (get_or rules first rule) ≡ true)
    → ((i : ℕ) (d : Corner) → i < length corners → covering rule (get_or rules (get_or corners i d).place rule) ≡ true → first ≤ (get_or corners i d).place)
    → position_or_len (covering rule) rules ≡ first
unfolding covers_behind
first_is axis rules corners rule first are most is behind =
    position_or_len_is (covering rule) rules first rule most
    (λ k less. false_from_ne_true (covering rule (get_or rules k rule)) (λ h.
    let inside : k < length rules = omega arith in
    let long : k < length (map (corner_at axis) (placed rules)) = omega (arith, length-map (placed rules) (corner_at axis), length-enumerate_from 0 rules) in
    let d : Corner = record { low = 0; depth = 0; place = 0 } in
    let each : All (covers_behind rules rule first) (map (corner_at axis) (placed rules)) =
    All-permutation (covers_behind rules rule first) corners (map (corner_at axis) (placed rules)) (IsPermutation-sym (map (corner_at axis) (placed rules)) corners are.all) behind in
    let at : (get_or (map (corner_at axis) (placed rules)) k d).place ≡ k =
    ap (λ (t : Corner). t.place) (get_or-map (corner_at axis) (placed rules) k (0, rule) d (omega (arith, length-enumerate_from 0 rules)) ∙ ap (corner_at axis) (placed_at rules k (0, rule) inside)) ∙ corner_place axis (k, get_or rules k rule) in
    let most : first ≤ (get_or (map (corner_at axis) (placed rules)) k d).place =
    each k d long (subst (λ (n : ℕ). covering rule (get_or rules n rule) ≡ true) (sym at) h) in
    omega arith))
    is
