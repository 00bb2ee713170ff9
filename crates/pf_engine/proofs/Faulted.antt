-- Calls over a list of paths have one fault or none.
use Rattle.std.proofs.Common.{◌≡◌, ℕ, ◌<◌, ◌≤◌, ◌⊎◌, true, List, [], ◌∷◌, map, Option, Some, None, refl, ap, subst, inl, inr, arith}
use Rattle.std.specs.Prelude.{Contains, ◌↔◌}
use Rattle.std.specs.declared.cmp.Ordering.{Ordering}
use Rattle.std.specs.declared.cmp.Ordering.TheVariants.{Less, Equal, Greater}
use Rattle.std.specs.Cmp.{IsEquivalence}
use Rattle.std.specs.Cmp.Lexicographic.{lists_equiv, nat_list_eq_equiv}
use Rattle.std.specs.Ordering.{is_le, ordering_reverse}
use Rattle.std.proofs.lemmas.Bool.{cases_lt, false≢true}
use Rattle.pf_calls.specs.Calls.{path_eq}
use Rattle.pf_calls.specs.CallLaws.{paths_decide}
use Rattle.pf_calls.specs.Graph.{Graph, IsDeep, IsFirstOnCycle, IsListed, IsRanking, IsShallow, OnCycle, greatest}
use Rattle.pf_calls.specs.GraphLaws.{below_greatest, in_or_out, no_cycle_ranked, rank_outside, rank_unique}
use Rattle.pf_calls.specs.declared.row.CallFault.{CallFault}
use Rattle.pf_calls.specs.declared.row.CallFault.TheVariants.{Cycle, Deep}
use Rattle.pf_tree.specs.GrownLaws.{path_same, path_total}
use Rattle.pf_tree.specs.Order.{path_cmp}
use Rattle.pf_engine.proofs.Reaching.{cycle_or_not, none_or_first}

paths_equivalent : IsEquivalence path_eq
paths_equivalent = lists_equiv nat_list_eq_equiv

module _ (graph : Graph (List (List ℕ))) where
  -- what a fault says, or none
  abbrev pub FaultIs : Option CallFault → Type 0
  FaultIs None = IsShallow graph 64
  FaultIs (Some (Cycle path)) = IsFirstOnCycle graph path_cmp path
  FaultIs (Some (Deep depth)) = (64 < depth) × IsDeep graph depth

-- ---- no more than one

one_least : (o r : Ordering) → o ≡ ordering_reverse r → is_le o ≡ true → is_le r ≡ true → o ≡ Equal
one_least Less Less e h k = cc
one_least Less Equal e h k = cc
one_least Less Greater e h k = absurd (false≢true k)
one_least Equal r e h k = refl
one_least Greater r e h k = absurd (false≢true h)

one_first : (graph : Graph (List (List ℕ))) (p q : List (List ℕ)) → IsFirstOnCycle graph path_cmp p → IsFirstOnCycle graph path_cmp q → p ≡ q
one_first graph p q first second =
    path_same p q (one_least (path_cmp p q) (path_cmp q p) (path_total.antisymm p q) (first.first q second.there) (second.first p first.there))

not_deeper : (graph : Graph (List (List ℕ))) (n m : ℕ) → IsDeep graph n → IsDeep graph m → n ≤ m
not_deeper graph n m one other =
    let same = rank_unique graph one.rank other.rank one.ranking other.ranking one.deepest in
    let there = one.there in
    let most = other.no_deeper one.deepest in
    omega arith

not_both : (graph : Graph (List (List ℕ))) (n : ℕ) → 64 < n → IsDeep graph n → IsShallow graph 64 → ⊥
not_both graph n over one other =
    let same = rank_unique graph one.rank other.rank one.ranking other.ranking one.deepest in
    let there = one.there in
    let most = other.no_deep one.deepest in
    omega arith

path_in : (p q : List (List ℕ)) → ◌≡◌ {A = Option CallFault} (Some (Cycle p)) (Some (Cycle q)) → p ≡ q
path_in p q e = cc

depth_in : (n m : ℕ) → ◌≡◌ {A = Option CallFault} (Some (Deep n)) (Some (Deep m)) → n ≡ m
depth_in n m e = cc

pub told_cycle : (graph : Graph (List (List ℕ))) (fault : Option CallFault) → FaultIs graph fault → (path : List (List ℕ)) → (fault ≡ Some (Cycle path)) ↔ IsFirstOnCycle graph path_cmp path
told_cycle graph None is path = (λ e. cc, λ first. absurd (is.no_cycle path first.there))
told_cycle graph (Some (Cycle p)) is path = (λ e. subst (IsFirstOnCycle graph path_cmp) (path_in p path e) is, λ first. ap (λ (p : List (List ℕ)). Some (Cycle p)) (one_first graph p path is first))
told_cycle graph (Some (Deep n)) is path = (λ e. cc, λ first. absurd (is.1.no_cycle path first.there))

pub told_deep : (graph : Graph (List (List ℕ))) (fault : Option CallFault) → FaultIs graph fault → (depth : ℕ) → (fault ≡ Some (Deep depth)) ↔ ((64 < depth) × IsDeep graph depth)
told_deep graph None is depth = (λ e. cc, λ deep. absurd (not_both graph depth deep.0 deep.1 is))
told_deep graph (Some (Cycle p)) is depth = (λ e. cc, λ deep. absurd (deep.1.no_cycle p is.there))
told_deep graph (Some (Deep n)) is depth = (
  λ e. subst (λ (n : ℕ). (64 < n) × IsDeep graph n) (depth_in n depth e) is,
  λ deep. (let up = not_deeper graph n depth is.1 deep.1 in let down = not_deeper graph depth n deep.1 is.1 in let same : n ≡ depth = omega arith in ap (λ (n : ℕ). Some (Deep n)) same),
)

pub told_none : (graph : Graph (List (List ℕ))) (fault : Option CallFault) → FaultIs graph fault → (fault ≡ None) ↔ IsShallow graph 64
told_none graph None is = (λ e. is, λ shallow. refl)
told_none graph (Some (Cycle p)) is = (λ e. cc, λ shallow. absurd (shallow.no_cycle p is.there))
told_none graph (Some (Deep n)) is = (λ e. cc, λ shallow. absurd (not_both graph n is.0 is.1 shallow))

-- ---- no fewer than one

-- the greatest of numbers is one of them, where it isn't 0
record Attains (rank : List (List ℕ) → ℕ) (most : ℕ) : Type 0 where
  at : List (List ℕ)
  is : rank at ≡ most

attained : (rank : List (List ℕ) → ℕ) (points : List (List (List ℕ))) → (greatest (map rank points) ≡ 0) ⊎ Attains rank (greatest (map rank points))
attained rank [] = inl refl
attained rank (point ∷ points) =
    elim (cases_lt (rank point) (greatest (map rank points))) [
      | inl more ↦ elim (attained rank points) [
        | inl none ↦ absurd (omega arith)
        | inr some ↦ inr (record { at = some.at; is = (let same = some.is in omega arith) })
      ]
      | inr here ↦ inr (record { at = point; is = omega arith })
    ]

module _ (graph : Graph (List (List ℕ))) (points : List (List (List ℕ))) (listed : IsListed graph points) where
  on_list : (at : List (List ℕ)) → OnCycle graph at → Contains points at
  on_list at cycle = listed.all at (cycle.leads.1.inside)

  most_rank : (rank : List (List ℕ) → ℕ) → IsRanking graph rank → (at : List (List ℕ)) → rank at ≤ greatest (map rank points)
  most_rank rank ranking at =
      elim (in_or_out graph at) [
        | inl here ↦ below_greatest rank points at (listed.all at here)
        | inr out ↦ (let outside = rank_outside graph rank ranking at out in omega arith)
      ]

  -- without a cycle the calls are shallow or too deep
  ranked : ((at : List (List ℕ)) → OnCycle graph at → ⊥) → (rank : List (List ℕ) → ℕ) → IsRanking graph rank → (fault : Option CallFault) × FaultIs graph fault
  ranked no_cycle rank ranking =
      elim (cases_lt 64 (greatest (map rank points))) [
        | inr few ↦ (
          None,
          record {
            no_cycle = no_cycle;
            rank = rank;
            ranking = ranking;
            no_deep = λ at. (let most = most_rank rank ranking at in omega arith);
          },
        )
        | inl many ↦ elim (attained rank points) [
          | inl none ↦ absurd (omega arith)
          | inr some ↦ (
            Some (Deep (greatest (map rank points))),
            (
              many,
              record {
                no_cycle = no_cycle;
                rank = rank;
                ranking = ranking;
                deepest = some.at;
                there = some.is;
                no_deeper = most_rank rank ranking;
              },
            ),
          )
        ]
      ]

  pub some_fault : (fault : Option CallFault) × FaultIs graph fault
  some_fault =
      elim (none_or_first path_cmp path_total (OnCycle graph) (cycle_or_not graph path_eq paths_decide points listed) points) [
        | inr first ↦ (Some (Cycle first.at), record { there = first.there; first = λ at cycle. first.first at (on_list at cycle) cycle })
        | inl none ↦
            let no_cycle : (at : List (List ℕ)) → OnCycle graph at → ⊥ = λ at cycle. none at (on_list at cycle) cycle in
            let ranks = no_cycle_ranked graph path_eq paths_decide paths_equivalent points listed no_cycle in
            ranked no_cycle ranks.0 ranks.1
      ]
