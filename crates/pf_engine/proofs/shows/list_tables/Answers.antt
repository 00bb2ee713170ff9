use Rattle.std.proofs.Common.{◌≡◌, ℕ, List, Option, Bor, sym, ap, subst, ◌∙◌}
use Rattle.std.specs.Prelude.{IfOk}
use Rattle.std.specs.Option.{option_copied}
use Rattle.pf_optim.specs.declared.node.Node.{Node}
use Rattle.pf_reply.specs.declared.reply.Listing.TheVariants as listings
use Rattle.pf_runs.specs.Runs.{reply_text}
use Rattle.pf_engine.specs.ShowLines.{lines_of_tables}
use Rattle.pf_engine.specs.Steps.{list_text}
use Rattle.pf_engine.proofs.Showing.{no_tables}
use Rattle.pf_engine.proofs.shows.list_tables.Goals as goal

pub returns-in_default : goal.returns-in_default
returns-in_default c =
    subst (λ (lines : List (List ℕ)). IfOk c.list_head.result (λ reply. reply.items ≡ reply_text (list_text listings.Tables lines)))
    (sym (ap (λ (node : Option (Bor Node)). lines_of_tables (option_copied node)) c.in_default.is ∙ no_tables)) c.list_head.ensures
