-- A buffer that is appended to again.
use Rattle.std.proofs.Common.{ℕ, List, ◌++◌, ap, ◌∙◌, append_assoc}
use Rattle.pf_parts.specs.Appending.{Extends}

pub Extends-then : {old mid new : List ℕ} → Extends old mid → Extends mid new → Extends old new
Extends-then {old} h g = record {
  more = h.more ++ g.more;
  joined = g.joined ∙ ap (λ (t : List ℕ). t ++ g.more) h.joined ∙ append_assoc old h.more g.more;
}
