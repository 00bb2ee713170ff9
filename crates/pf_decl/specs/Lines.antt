-- The line of a setting with one member, as it is shown (pf.conf(5), OPTIONS): made of what the setting says, and not of how
-- it was written.
use Rattle.std.specs.Prelude.{ℕ, Bool, true, false, List, ◌++◌, codes, decimal}
use Rattle.pf_base.specs.declared.kind.Level.{Level}
use Rattle.pf_base.specs.declared.kind.Level.TheVariants as levels
use Rattle.pf_parts.specs.BlockText.{block_text}
use Rattle.pf_parts.specs.NameText.{name_text}
use Rattle.pf_decl.specs.declared.form.OptionLine.{OptionLine}
use Rattle.pf_decl.specs.declared.form.SetForm.{SetForm}
use Rattle.pf_decl.specs.declared.form.SetForm.TheVariants.{Skip, BlockPolicy, StatePolicy, RulesetOptimization, Timeout, Limit, Optimization, Debug, Reassemble, LogInterface, Fingerprints}
use Rattle.pf_decl.specs.declared.form.Setting.{Setting}
use Rattle.pf_decl.specs.declared.form.Setting.TheVariants as settings

abbrev pub level_text : Level → List ℕ
level_text levels.None = codes "none"
level_text levels.Basic = codes "basic"
level_text levels.Profile = codes "profile"

abbrev pub policy_text : Bool → List ℕ
policy_text true = codes "if-bound"
policy_text false = codes "floating"

abbrev pub yes_text : Bool → List ℕ
yes_text true = codes "yes"
yes_text false = codes "no"

abbrev pub no_df_text : Bool → List ℕ
no_df_text true = codes " no-df"
no_df_text false = codes ""

-- words and numbers with a space between them; a number has no leading zeros
unfoldable pub set_text : SetForm → List ℕ
set_text (Skip name) = codes "set skip on " ++ name_text name
set_text (BlockPolicy kind) = codes "set block-policy " ++ block_text kind
set_text (StatePolicy bound) = codes "set state-policy " ++ policy_text bound
set_text (RulesetOptimization level) = codes "set ruleset-optimization " ++ level_text level
set_text (Timeout name value) = codes "set timeout " ++ name ++ codes " " ++ decimal value
set_text (Limit name most) = codes "set limit " ++ name ++ codes " " ++ decimal most
set_text (Optimization word) = codes "set optimization " ++ word
set_text (Debug word) = codes "set debug " ++ word
set_text (Reassemble fragments no_df) = codes "set reassemble " ++ yes_text fragments ++ no_df_text no_df
set_text (LogInterface name) = codes "set loginterface " ++ name_text name
set_text (Fingerprints name) = codes "set fingerprints " ++ name_text name

abbrev pub setting_of : SetForm → Setting
setting_of (Skip name) = settings.Skip name
setting_of (BlockPolicy kind) = settings.Block kind
setting_of (StatePolicy bound) = settings.Bound bound
setting_of (RulesetOptimization level) = settings.Level level
setting_of (Timeout name value) = settings.Other
setting_of (Limit name most) = settings.Other
setting_of (Optimization word) = settings.Other
setting_of (Debug word) = settings.Other
setting_of (Reassemble fragments no_df) = settings.Other
setting_of (LogInterface name) = settings.Other
setting_of (Fingerprints name) = settings.Other

abbrev pub line_of : SetForm → OptionLine
line_of form = record { setting = setting_of form; text = set_text form }
