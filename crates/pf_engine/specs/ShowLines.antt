-- The `show` lines (pfctl(8), -s).
use Rattle.std.specs.Prelude.{ℕ, List, ◌++◌, map, Option}
use Rattle.std.specs.FinMap as finite
use Rattle.pf_eval.specs.Rulesets.{automatic_in, named_children, optimised_in}
use Rattle.pf_optim.specs.declared.node.Node.{Node}
use Rattle.pf_print.specs.QueueText.{queue_line}
use Rattle.pf_print.specs.RuleText.{rule_text}
use Rattle.pf_reply.specs.declared.reply.Listing.TheVariants as listings
use Rattle.pf_runs.specs.Runs.{Stepped}
use Rattle.pf_script.specs.declared.command.Show.{Show}
use Rattle.pf_script.specs.declared.command.Show.TheVariants as shows
use Rattle.pf_show.specs.Lines.{automatic_line, option_line}
use Rattle.pf_show.specs.Shelves.{declared_lines}
use Rattle.pf_show.specs.Skipping.{skip_lines}
use Rattle.pf_state.specs.Rulesets.{tables_in, written_in}
use Rattle.pf_state.specs.declared.machine.Machine.{Machine}
use Rattle.pf_engine.specs.Steps.{shown}

-- the tables of a ruleset: the declared ones by name, then those that the optimiser made by number
abbrev pub lines_of_tables : Option Node → List (List ℕ)
lines_of_tables node = declared_lines (tables_in node) ++ map automatic_line (automatic_in node)

abbrev pub show : Machine → Show → Stepped Machine
show machine (shows.Rules path) = shown machine listings.Rules (map rule_text (optimised_in (finite.get machine.rulesets path)))
show machine (shows.Written path) = shown machine listings.Written (map rule_text (written_in (finite.get machine.rulesets path)))
show machine (shows.Tables path) = shown machine listings.Tables (lines_of_tables (finite.get machine.rulesets path))
show machine (shows.Anchors path) = shown machine listings.Anchors (named_children machine.rulesets path)
show machine (shows.Skips path) = shown machine listings.Skips (skip_lines (optimised_in (finite.get machine.rulesets path)))
show machine shows.Queues = shown machine listings.Queues (map queue_line machine.whole.queues)
show machine shows.Options = shown machine listings.Options (map option_line machine.whole.options)
