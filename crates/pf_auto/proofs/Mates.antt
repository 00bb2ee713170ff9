-- Two rules of one group: they have a prefix there, and are one beside it.
use Rattle.std.proofs.Common.{◌≡◌, ℕ, Bool, true, ◌&&◌, is_some, sym, ap, ◌∙◌}
use Rattle.std.proofs.Math.Bool.{and_comm}
use Rattle.std.proofs.lemmas.Bool.{and_parts}
use Rattle.pf_auto.proofs.Leading.{Grouping}
use Rattle.pf_auto.specs.Ends.{beside, prefix_at}
use Rattle.pf_auto.specs.Merged.{are_mates}
use Rattle.pf_auto.specs.declared.place.End.{End}
use Rattle.pf_rule.specs.Equal.{rules}
use Rattle.pf_rule.specs.FieldHash.{equality_laws}
use Rattle.pf_rule.specs.declared.rule.Rule.{Rule}

abbrev pub mates_at : End → Rule × ℕ → Rule × ℕ → Bool
mates_at end one other = are_mates end one.0 other.0

pub record Mates (end : End) (one other : Rule) : Type 0 where
  pub first : is_some (prefix_at end one) ≡ true
  pub second : is_some (prefix_at end other) ≡ true
  pub alike : beside end one ≡ beside end other

pub mates_are : (end : End) (one other : Rule) → are_mates end one other ≡ true → Mates end one other
unfolding are_mates
mates_are end one other h =
    let outer = and_parts (is_some (prefix_at end one) && is_some (prefix_at end other)) (rules.same (beside end one) (beside end other)) h in
    let inner = and_parts (is_some (prefix_at end one)) (is_some (prefix_at end other)) outer.0 in
    record { first = inner.0; second = inner.1; alike = (rules.decides (beside end one) (beside end other)).0 outer.1 }

mates_alike : (end : End) (x y z : Rule) → are_mates end x y ≡ true → are_mates end z x ≡ are_mates end z y
unfolding are_mates
mates_alike end x y z h =
    let m = mates_are end x y h in
    ap (λ b. (is_some (prefix_at end z) && b) && rules.same (beside end z) (beside end x)) (m.first ∙ sym m.second)
    ∙ ap (λ (r : Rule). (is_some (prefix_at end z) && is_some (prefix_at end y)) && rules.same (beside end z) r) m.alike

mates_turned : (end : End) (x y : Rule) → are_mates end x y ≡ are_mates end y x
unfolding are_mates
mates_turned end x y =
    ap (λ b. b && rules.same (beside end x) (beside end y)) (and_comm (is_some (prefix_at end x)) (is_some (prefix_at end y)))
    ∙ ap (λ b. (is_some (prefix_at end y) && is_some (prefix_at end x)) && b) ((equality_laws rules).symm (beside end x) (beside end y))

pub grouping : (end : End) → Grouping (mates_at end)
grouping end = record { alike = λ x y z. mates_alike end x.0 y.0 z.0; turned = λ x y. mates_turned end x.0 y.0 }
