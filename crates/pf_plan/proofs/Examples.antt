-- Rows of the definitions, computed.
use Rattle.std.proofs.Common.{◌≡◌, true, false, [], ◌∷◌, Some, None, refl}
use Rattle.std.specs.Prelude.{codes}
use Rattle.pf_base.specs.declared.fault.Place.{Place}
use Rattle.pf_base.specs.declared.kind.Level.TheVariants as levels
use Rattle.pf_decl.specs.declared.form.OptionLine.{OptionLine}
use Rattle.pf_decl.specs.declared.form.Setting.{Setting}
use Rattle.pf_decl.specs.declared.form.Setting.TheVariants as settings
use Rattle.pf_parts.specs.declared.block.BlockKind.TheVariants as blocks
use Rattle.pf_plan.specs.Drafts.{begun_draft, first_policies, is_in_main, policies_behind, room_of}
use Rattle.pf_plan.specs.Ends.{level_of, skipped}

line : Setting → OptionLine
line setting = record { setting = setting; text = [] }

-- a policy acts from its line on, and the last counts
policies_add : policies_behind first_policies (line (settings.Block blocks.Return) ∷ line (settings.Bound true) ∷ line (settings.Skip (codes "lo")) ∷ []) ≡ record { block = blocks.Return; bound = true }
unfolding line
policies_add = refl

last_level : level_of None (line (settings.Level levels.Profile) ∷ line settings.Other ∷ line (settings.Level levels.None) ∷ []) ≡ levels.None
unfolding line
last_level = refl

given_level : level_of (Some levels.Basic) (line (settings.Level levels.Profile) ∷ []) ≡ levels.Basic
given_level = refl

names_add_up : skipped (line (settings.Skip (codes "lo")) ∷ line settings.Other ∷ line (settings.Skip (codes "em0")) ∷ line (settings.Skip (codes "lo")) ∷ []) ≡ codes "lo" ∷ codes "em0" ∷ codes "lo" ∷ []
unfolding line
names_add_up = refl

whole_room : (place : Place) → room_of (begun_draft [] place) ≡ 16385
whole_room place = refl

other_ruleset : (place : Place) → is_in_main (begun_draft (codes "x" ∷ []) place) ≡ false
other_ruleset place = refl
