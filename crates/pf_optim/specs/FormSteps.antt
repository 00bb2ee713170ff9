-- The optimised form, as the code finds it: block by block, each behind what there is.
use Rattle.std.specs.Prelude.{ℕ, List, length}
use Rattle.std.specs.List.{zip}
use Rattle.pf_optim.specs.Optimised.{Listed, block_optimised, joined}
use Rattle.pf_optim.specs.declared.form.Form.{Form}
use Rattle.pf_base.specs.declared.kind.Level.{Level}
use Rattle.pf_rule.specs.declared.rule.Rule.{Rule}

-- what rules and tables so far are
abbrev pub shown : Form → Listed
shown form = record { rules = form.rules; tables = form.tables }

-- the same with one block more behind them, of these rules and weights
abbrev pub with_block : Level → Listed → List Rule → List ℕ → Listed
with_block level before rules weights =
    joined before (block_optimised level (length before.tables) (zip rules weights))
