-- A new node is blank.
use Rattle.std.proofs.Common.{◌≡◌, ℕ, [], true, ◌==◌, ap, ◌∙◌}
use Rattle.std.specs.FinMap as finite
use Rattle.pf_base.specs.declared.kind.Level.TheVariants.{None}
use Rattle.pf_optim.specs.Node.{is_bare}
use Rattle.pf_optim.specs.Ruleset.{Written, written_of}
use Rattle.pf_shelf.specs.Shelf.{Tables, name_cmp}
use Rattle.pf_shelf.specs.declared.decl.Shelved.{Shelved}

pub new_is_bare : (written : Written) (tables : Tables) → written ≡ written_of [] None [] → tables ≡ finite.empty → is_bare written tables ≡ true
new_is_bare written tables w t =
    ap (λ (one : Written). is_bare one tables) w
    ∙ ap (λ (one : Tables). is_bare (written_of [] None []) one) t
    ∙ ap (λ (n : ℕ). n == 0) (finite.len-empty name_cmp Shelved)
