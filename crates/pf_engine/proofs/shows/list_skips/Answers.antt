use Rattle.std.proofs.Common.{◌≡◌, length, Option, Bor, sym, ap, subst, ◌∙◌}
use Rattle.std.specs.Option.{option_copied}
use Rattle.pf_eval.specs.Rulesets.{optimised_in}
use Rattle.pf_optim.specs.Ruleset.{form_of}
use Rattle.pf_optim.specs.declared.node.Node.{Node}
use Rattle.pf_reply.specs.declared.reply.Listing.TheVariants as listings
use Rattle.pf_runs.specs.Runs.{reply_text}
use Rattle.pf_show.specs.Skipping.{skip_lines}
use Rattle.pf_engine.specs.Steps.{list_text}
use Rattle.pf_engine.proofs.Showing.{list_is, skips_counted}
use Rattle.pf_engine.proofs.shows.list_skips.Goals as goal

pub returns : goal.returns
returns c =
    let rules = (form_of c.in-Some.node.now.rules).rules in
    subst (λ (node : Option (Bor Node)). c.put_skips.new.out.items ≡ reply_text (list_text listings.Skips (skip_lines (optimised_in (option_copied node))))) (sym c.in-Some.is)
    (list_is listings.Skips (length c.fast.result.now) (skip_lines rules) c.in_ok-reply.reply.items c.put_skips.new.out.items c.in_ok-reply.ensures c.in_ok-put_skips.ensures.ok (ap length c.fast.ensures.rules ∙ skips_counted rules))
