-- The ruleset that an anchor rule calls (pf.conf(5), ANCHORS), where there is one.
use Rattle.std.specs.Prelude.{ℕ, ◌-◌, nat_le, List, [], ◌++◌, length, take, Option, Some, None, if◌then◌else◌}
use Rattle.std.specs.Option.{option_and_then}
use Rattle.pf_parts.specs.declared.call.Base.{Base}
use Rattle.pf_parts.specs.declared.call.Base.TheVariants.{Below, Up, Root}
use Rattle.pf_parts.specs.declared.call.Call.{Call}

-- the path where a call's names begin: no ruleset is above the main one
abbrev pub start_of : Base → List (List ℕ) → Option (List (List ℕ))
start_of Below at = Some at
start_of (Up n) at = if nat_le n (length at) then Some (take (length at - n) at) else None
start_of Root at = Some []

-- a path of no more than 8 names
abbrev pub within : List (List ℕ) → Option (List (List ℕ))
within names = if nat_le (length names) 8 then Some names else None

-- the target of a call of a rule at this path
unfoldable pub target_of : Call → List (List ℕ) → Option (List (List ℕ))
target_of call at = option_and_then (λ start. within (start ++ call.path)) (start_of call.base at)
