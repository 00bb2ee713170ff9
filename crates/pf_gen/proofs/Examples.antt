-- The first draws of the number 1, and the line that they make.
use Rattle.std.proofs.Common.{◌≡◌, ◌/◌, [], ◌∷◌, refl, codes}
use Rattle.pf_gen.specs.Draws.{after}
use Rattle.std.specs.Fmt.{digits}
use Rattle.pf_gen.specs.Texts.{action_part, source_part}

first_draws : ((after 1 1 / 65536) ∷ (after 1 2 / 65536) ∷ (after 1 3 / 65536) ∷ (after 1 7 / 65536) ∷ []) ≡ (16838 ∷ 5758 ∷ 10113 ∷ 23010 ∷ [])
unfolding after
first_draws = refl

-- em1, and the port 11 of the draw 10
first_head : action_part 1 ≡ codes "pass on em1"
unfolding after action_part digits
first_head = refl

first_source : source_part (after 1 3) ≡ codes " proto udp from 10.75.251.0/24"
unfolding after source_part digits
first_source = refl
