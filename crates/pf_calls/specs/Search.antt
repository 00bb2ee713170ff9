-- A search along links: which places are seen, and from which it is to go on.
use Rattle.std.specs.Prelude.{◌≡◌, ℕ, suc, ◌+◌, ◌<◌, ◌⊎◌, Bool, true, false, not, List, length, [], Contains, count_by, slice_index_or}
use Rattle.pf_calls.specs.Graph.{LeadsOver}
use Rattle.pf_calls.specs.Numbered.{numbered}

abbrev pub is_seen : List Bool → ℕ → Bool
is_seen seen j = slice_index_or seen j false

-- all places of a list are below a number
pub record AreBelow (places : List ℕ) (bound : ℕ) : Type 0 where
  pub below : (j : ℕ) → Contains places j → j < bound

-- how many places aren't seen yet
abbrev pub unseen : List Bool → ℕ
unseen seen = count_by not seen

-- the places have been marked, and to go on from are those that weren't, beside the old ones
pub record IsMarked (seen : List Bool) (todo places : List ℕ) (seen' : List Bool) (todo' : List ℕ) : Type 0 where
  pub long : length seen' ≡ length seen
  pub kept : (j : ℕ) → is_seen seen j ≡ true → is_seen seen' j ≡ true
  pub marked : (j : ℕ) → Contains places j → is_seen seen' j ≡ true
  pub only : (j : ℕ) → is_seen seen' j ≡ true → (is_seen seen j ≡ true) ⊎ Contains places j
  pub still : (j : ℕ) → Contains todo j → Contains todo' j
  pub new : (j : ℕ) → is_seen seen' j ≡ true → (is_seen seen j ≡ true) ⊎ Contains todo' j
  pub from : (j : ℕ) → Contains todo' j → Contains todo j ⊎ Contains places j
  pub fewer : unseen seen' + length todo' ≡ unseen seen + length todo

-- one or more links lead from the start to a place
pub record IsReached (links : List (List ℕ)) (start j : ℕ) : Type 0 where
  pub more : ℕ
  pub leads : LeadsOver (numbered links) (suc more) start j

-- all places to which a place leads are seen
pub record AreSeen (links : List (List ℕ)) (seen : List Bool) (from : ℕ) : Type 0 where
  pub each : (j : ℕ) → Contains (slice_index_or links from []) j → is_seen seen j ≡ true

-- Seen are places that the start reaches. From each of them the search is to go on, or all to which it leads are seen.
pub record IsSearch (links : List (List ℕ)) (start : ℕ) (seen : List Bool) (todo : List ℕ) : Type 0 where
  pub long : length seen ≡ length links
  pub reached : (j : ℕ) → is_seen seen j ≡ true → IsReached links start j
  pub begun : AreSeen links seen start
  pub pending : (j : ℕ) → Contains todo j → is_seen seen j ≡ true
  pub closed : (j : ℕ) → is_seen seen j ≡ true → Contains todo j ⊎ AreSeen links seen j
