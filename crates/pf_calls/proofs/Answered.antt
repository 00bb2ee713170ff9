-- What is told of the calls of rows.
use Rattle.std.proofs.Common.{◌≡◌, ℕ, zero, suc, ◌<◌, ◌≤◌, ◌⊎◌, true, List, length, Option, Some, None, refl, sym, ap, ◌∙◌, subst, inl, inr, arith}
use Rattle.std.specs.Prelude.{IsTrue, ◌↔◌}
use Rattle.std.specs.declared.cmp.Ordering.{Ordering}
use Rattle.std.specs.declared.cmp.Ordering.TheVariants.{Less, Equal, Greater}
use Rattle.std.specs.Ordering.{is_le, ordering_reverse}
use Rattle.std.specs.Cmp.{tied_itself}
use Rattle.std.specs.List.Sorted.{IsStrictlySortedBy}
use Rattle.std.proofs.lemmas.Bool.{cases_lt, false≢true, lt-ltb, ltb-true}
use Rattle.pf_tree.specs.Order.{path_cmp}
use Rattle.pf_tree.specs.GrownLaws.{path_total, path_same}
use Rattle.pf_calls.specs.declared.row.CallRow.{CallRow}
use Rattle.pf_calls.specs.declared.row.CallFault.{CallFault}
use Rattle.pf_calls.specs.declared.row.CallFault.TheVariants.{Cycle, Deep}
use Rattle.pf_calls.specs.Graph.{IsDeep, IsFirstOnCycle, IsRanking, IsShallow, OnCycle}
use Rattle.pf_calls.specs.GraphLaws.{is_within, no_cycle_within, rank_by, rank_unique, ranked_no_cycle, ranked_within, ranking_by, within_ranked}
use Rattle.pf_calls.specs.Calls.{graph_of, path_eq, paths_of}
use Rattle.pf_calls.specs.Numbered.{IsCopy, IsDepth, IsFault, IsOver, numbered, path_at}
use Rattle.pf_calls.proofs.Copied.{all_within, cycle_back, cycle_forth, within_back}
use Rattle.pf_calls.specs.CallLaws.{paths_decide}
use Rattle.pf_calls.proofs.Linked.{is_row, paths_equivalent}
use Rattle.pf_calls.proofs.Placed.{ascending, as_many, three}

module _ (rows : List CallRow) (links : List (List ℕ)) (copy : IsCopy (numbered links) (graph_of rows) (path_at rows)) where
  all_paths : (depth : ℕ) → IsDepth links depth → (path : List (List ℕ)) → is_within (graph_of rows) depth path ≡ true
  all_paths depth is = all_within (numbered links) (graph_of rows) (path_at rows) copy depth (λ i here. is.all i (ltb-true i (length links) here))

  ranks : (depth : ℕ) → IsDepth links depth → IsRanking (graph_of rows) (rank_by (graph_of rows) depth)
  ranks depth is = ranking_by (graph_of rows) depth (all_paths depth is)

  bound : (depth : ℕ) (is : IsDepth links depth) (path : List (List ℕ)) → rank_by (graph_of rows) depth path ≤ depth
  bound depth is path = within_ranked (graph_of rows) (rank_by (graph_of rows) depth) (ranks depth is) depth path (all_paths depth is path)

  pub shallow : (depth : ℕ) → depth ≤ 64 → IsDepth links depth → IsFault rows None
  shallow depth few is = record {
    no_cycle = ranked_no_cycle (graph_of rows) (rank_by (graph_of rows) depth) (ranks depth is);
    rank = rank_by (graph_of rows) depth;
    ranking = ranks depth is;
    no_deep = λ path. (let most = bound depth is path in omega arith);
  }

  is_over : (before : ℕ) (is : IsDepth links (suc before)) (over : IsOver links before) → rank_by (graph_of rows) (suc before) (path_at rows over.place) ≤ before → ⊥
  is_over before is over few =
      let here = lt-ltb over.place (length links) over.inside in
      let within = ranked_within (graph_of rows) (rank_by (graph_of rows) (suc before)) (ranks (suc before) is) before (path_at rows over.place) few in
      false≢true (sym over.over ∙ within_back (numbered links) (graph_of rows) (path_at rows) copy before over.place here within)

  at_most_or : (n before : ℕ) → n ≤ suc before → (n ≤ before) ⊎ (n ≡ suc before)
  at_most_or n before h = elim (cases_lt before n) [ inl above ↦ inr (omega arith) | inr below ↦ inl below ]

  pub deep : (depth : ℕ) → 64 < depth → IsDepth links depth → IsFault rows (Some (Deep depth))
  deep zero few is = absurd (omega arith)
  deep (suc before) many is =
      let over = is.least before (omega arith) in (
        many,
        record {
          no_cycle = ranked_no_cycle (graph_of rows) (rank_by (graph_of rows) (suc before)) (ranks (suc before) is);
          rank = rank_by (graph_of rows) (suc before);
          ranking = ranks (suc before) is;
          deepest = path_at rows over.place;
          there = elim (at_most_or (rank_by (graph_of rows) (suc before) (path_at rows over.place)) before (bound (suc before) is (path_at rows over.place))) [ inl few ↦ absurd (is_over before is over few) | inr same ↦ same ];
          no_deeper = bound (suc before) is;
        },
      )

  -- the first place on a cycle has the first path on one
  pub first_path : IsStrictlySortedBy path_cmp (paths_of rows) → length links ≡ length rows → (place : ℕ) → place < length rows → OnCycle (numbered links) place → ((i : ℕ) → i < place → OnCycle (numbered links) i → ⊥) → IsFirstOnCycle (graph_of rows) path_cmp (path_at rows place)
  first_path sorted long place inside cycle none = record {
    there = cycle_forth (numbered links) (graph_of rows) (path_at rows) copy place cycle;
    first = λ path other.
        let at = cycle_back (numbered links) (graph_of rows) (path_at rows) copy path other in
        let lt = ltb-true at.0 (length links) at.1 in
        subst (λ (p : List (List ℕ)). IsTrue (is_le (path_cmp (path_at rows place) p))) at.3
        (elim (three place at.0) [
          | inl below ↦ ap is_le (ascending rows sorted place at.0 below (omega arith))
          | inr later ↦ elim later [
            | inl above ↦ absurd (none at.0 above at.2)
            | inr same ↦ ap (λ (j : ℕ). is_le (path_cmp (path_at rows place) (path_at rows j))) (sym same) ∙ ap is_le (tied_itself path_total (path_at rows place))
          ]
        ]);
  }

  -- where a rank is over the number of all, some place is on a cycle
  pub some_cycle : length links ≡ length rows → IsOver links (length links) → ((i : ℕ) → i < length links → OnCycle (numbered links) i → ⊥) → ⊥
  some_cycle long over none =
      let many = as_many rows in
      let within = no_cycle_within (graph_of rows) path_eq paths_decide paths_equivalent (paths_of rows) (record { all = is_row rows }) no_path (path_at rows over.place) in
      let here = lt-ltb over.place (length links) over.inside in
      let back = within_back (numbered links) (graph_of rows) (path_at rows) copy (length (paths_of rows)) over.place here within in
      false≢true (sym over.over ∙ subst (λ (n : ℕ). is_within (numbered links) n over.place ≡ true) (many ∙ sym long) back)
    where
      no_path : (path : List (List ℕ)) → OnCycle (graph_of rows) path → ⊥
      no_path path cycle = let at = cycle_back (numbered links) (graph_of rows) (path_at rows) copy path cycle in none at.0 (ltb-true at.0 (length links) at.1) at.2

one_least : (o r : Ordering) → o ≡ ordering_reverse r → is_le o ≡ true → is_le r ≡ true → o ≡ Equal
one_least Less Less e h k = cc
one_least Less Equal e h k = cc
one_least Less Greater e h k = absurd (false≢true k)
one_least Equal r e h k = refl
one_least Greater r e h k = absurd (false≢true h)

one_first : (rows : List CallRow) (p q : List (List ℕ)) → IsFirstOnCycle (graph_of rows) path_cmp p → IsFirstOnCycle (graph_of rows) path_cmp q → p ≡ q
one_first rows p q first second =
    path_same p q (one_least (path_cmp p q) (path_cmp q p) (path_total.antisymm p q) (first.first q second.there) (second.first p first.there))

not_deeper : (rows : List CallRow) (n m : ℕ) → IsDeep (graph_of rows) n → IsDeep (graph_of rows) m → n ≤ m
not_deeper rows n m one other =
    let same = rank_unique (graph_of rows) one.rank other.rank one.ranking other.ranking one.deepest in
    let there = one.there in
    let most = other.no_deeper one.deepest in
    omega arith

not_both : (rows : List CallRow) (n : ℕ) → 64 < n → IsDeep (graph_of rows) n → IsShallow (graph_of rows) 64 → ⊥
not_both rows n over one other =
    let same = rank_unique (graph_of rows) one.rank other.rank one.ranking other.ranking one.deepest in
    let there = one.there in
    let most = other.no_deep one.deepest in
    omega arith

path_in : (p q : List (List ℕ)) → ◌≡◌ {A = Option CallFault} (Some (Cycle p)) (Some (Cycle q)) → p ≡ q
path_in p q e = cc

depth_in : (n m : ℕ) → ◌≡◌ {A = Option CallFault} (Some (Deep n)) (Some (Deep m)) → n ≡ m
depth_in n m e = cc

-- each answer comes exactly where it says
pub told_cycle : (rows : List CallRow) (fault : Option CallFault) → IsFault rows fault → (path : List (List ℕ)) → (fault ≡ Some (Cycle path)) ↔ IsFirstOnCycle (graph_of rows) path_cmp path
told_cycle rows None is path = (λ e. cc, λ first. absurd (is.no_cycle path first.there))
told_cycle rows (Some (Cycle p)) is path = (λ e. subst (IsFirstOnCycle (graph_of rows) path_cmp) (path_in p path e) is, λ first. ap (λ (p : List (List ℕ)). Some (Cycle p)) (one_first rows p path is first))
told_cycle rows (Some (Deep n)) is path = (λ e. cc, λ first. absurd (is.1.no_cycle path first.there))

pub told_deep : (rows : List CallRow) (fault : Option CallFault) → IsFault rows fault → (depth : ℕ) → (fault ≡ Some (Deep depth)) ↔ ((64 < depth) × IsDeep (graph_of rows) depth)
told_deep rows None is depth = (λ e. cc, λ deep. absurd (not_both rows depth deep.0 deep.1 is))
told_deep rows (Some (Cycle p)) is depth = (λ e. cc, λ deep. absurd (deep.1.no_cycle p is.there))
told_deep rows (Some (Deep n)) is depth = (
  λ e. subst (λ (n : ℕ). (64 < n) × IsDeep (graph_of rows) n) (depth_in n depth e) is,
  λ deep. (let up = not_deeper rows n depth is.1 deep.1 in let down = not_deeper rows depth n deep.1 is.1 in let same : n ≡ depth = omega arith in ap (λ (n : ℕ). Some (Deep n)) same),
)

pub told_none : (rows : List CallRow) (fault : Option CallFault) → IsFault rows fault → (fault ≡ None) ↔ IsShallow (graph_of rows) 64
told_none rows None is = (λ e. is, λ shallow. refl)
told_none rows (Some (Cycle p)) is = (λ e. cc, λ shallow. absurd (shallow.no_cycle p is.there))
told_none rows (Some (Deep n)) is = (λ e. cc, λ shallow. absurd (not_both rows n is.0 is.1 shallow))
