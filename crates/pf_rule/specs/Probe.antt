-- What is seen of a walk beside the tests of rules.
use Rattle.std.specs.Prelude.{ℕ, List, Bool}
use Rattle.std.specs.List.{list_any}
use Rattle.pf_rule.specs.declared.walk.Marks.{Marks}
use Rattle.pf_rule.specs.declared.walk.Walk.{Walk}

-- the two marks of a walk
abbrev pub marks_of : Walk → Marks
marks_of walk = record { matched = walk.matched; stop = walk.stop }

-- the walk with these marks, and all else as it was
abbrev pub with_marks : Marks → Walk → Walk
with_marks marks walk = record walk { matched = marks.matched; stop = marks.stop }

-- the packet's interface has one of the names or is in one of the groups (pf.conf(5), "set skip")
abbrev pub skipped_by : (List ℕ → List ℕ → Bool) → List (List ℕ) → Walk → Bool
skipped_by in_group names walk = list_any (λ name. in_group name walk.packet.iface) names
