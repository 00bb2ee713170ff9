-- A list of corners by their low ends, with the jumps by which deep ones are passed over, and what it tells.
use Rattle.std.specs.Prelude.{◌≡◌, ℕ, ◌<◌, ◌≤◌, List, Bool, length, map, slice_index_or}
use Rattle.std.specs.List.Sorted.{IsNonDecreasingBy, IsPermutation}
use Rattle.pf_cover.specs.Corner.{corner_at}
use Rattle.pf_cover.specs.Cover.{covers}
use Rattle.pf_cover.specs.Kept.{drops, is_dropped, placed}
use Rattle.pf_cover.specs.declared.corner.Axis.{Axis}
use Rattle.pf_cover.specs.declared.corner.Corner.{Corner}
use Rattle.pf_cover.specs.declared.search.Corners.{Corners}
use Rattle.pf_rule.specs.declared.rule.Rule.{Rule}

-- the corners of the rules, by their low ends
pub record AreCorners (axis : Axis) (rules : List Rule) (corners : List Corner) : Type 0 where
  pub all : IsPermutation (map (corner_at axis) (placed rules)) corners
  pub rise : IsNonDecreasingBy (λ corner. corner.low) corners

-- those from one place on, below another, are all deeper
abbrev pub AreDeeper : List Corner → ℕ → ℕ → ℕ → Type 0
AreDeeper corners depth low high = (i : ℕ) (other : Corner) → low ≤ i → i < high → depth < (slice_index_or corners i other).depth

-- from each corner down to its jump all are deeper than it
pub record AreJumps (corners : List Corner) (jumps : List ℕ) : Type 0 where
  pub few : length jumps ≤ length corners
  pub down : (j : ℕ) → j < length jumps → slice_index_or jumps j 0 ≤ j
  pub over : (j : ℕ) (one : Corner) → j < length jumps → AreDeeper corners (slice_index_or corners j one).depth (slice_index_or jumps j 0) j

-- these are corners of the rules, with their jumps
pub record HoldsCorners (rules : List Rule) (found : Corners) : Type 0 where
  pub corners : AreCorners found.axis rules found.corners.items
  pub jumps : AreJumps found.corners.items found.jumps.items
  pub each : length found.jumps.items ≡ length found.corners.items

-- the rule covers another
abbrev pub covering : Rule → Rule → Bool
covering rule one = covers one.criteria rule.criteria

-- the rule at a corner drops another
abbrev pub corner_drops : List Rule → ℕ × Rule → Corner → Bool
corner_drops rules other corner = drops (corner.place, slice_index_or rules corner.place other.1) other

-- which rules are dropped, place by place
abbrev pub dropped_of : List Rule → List Bool
dropped_of rules = map (is_dropped rules) (placed rules)
