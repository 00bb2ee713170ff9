use Rattle.std.proofs.Common.{length, ap, sym, ◌∙◌, subst, refl, ◌≡◌, ◌<◌}
use Rattle.pf_decl.specs.Decls.{place_of}
use Rattle.pf_source.specs.Told.{file_of}
use Rattle.pf_load.specs.Statements.{Comes, RuleComes, way_of}
use Rattle.pf_load.specs.declared.way.Way.TheVariants.{Declares, Rules}
use Rattle.pf_load.proofs.Reading.{in_way, may_from, numbered_place}
use Rattle.pf_plan.specs.Drafts.{is_in_body}
use Rattle.pf_load.proofs.Fitting.{close_stays, rules_stay}
use Rattle.pf_load.proofs.statement.take_statement.Goals as goal

pub returns-in-Declares-clause-means : goal.returns-in-Declares-clause-means
returns-in-Declares-clause-means g c =
    let means = rw c.items-tokens.ensures at c.take_declaration.ensures.means in
    let is_way : way_of c.args.statement.now.tokens ≡ Declares = ap way_of (sym c.items-tokens.ensures) ∙ sym c.way_of.ensures ∙ c.in-Declares.is in
    record { at = λ held is. in_way (file_of held) c.args.facts.now c.args.statement.now c.args.draft c.args.reads.now c.take_declaration.new.reads c.take_declaration.result Declares is_way (means.at held is) }

pub returns-in-Rules-clause-means : goal.returns-in-Rules-clause-means
returns-in-Rules-clause-means g c =
    let means = rw c.items-tokens.ensures at c.take_rule.ensures.means in
    let is_way : way_of c.args.statement.now.tokens ≡ Rules = ap way_of (sym c.items-tokens.ensures) ∙ sym c.way_of.ensures ∙ c.in-Rules.is in
    record {
      at = λ held is. in_way (file_of held) c.args.facts.now c.args.statement.now c.args.draft c.args.reads.now c.args.reads.now c.take_rule.result Rules is_way
          (may_from (RuleComes c.args.facts.now c.args.statement.now.tokens c.args.statement.now.body c.args.draft) (λ d. Comes d c.args.facts.now Rules c.args.statement.now.tokens c.args.statement.now.body c.args.draft c.args.reads.now) c.args.reads.now
          (λ d r h. (h, refl)) (file_of held) c.take_rule.result means);
    }

pub returns-in-Rules-clause-within : goal.returns-in-Rules-clause-within
returns-in-Rules-clause-within g c =
    let is_way : way_of c.args.statement.now.tokens ≡ Rules = ap way_of (sym c.items-tokens.ensures) ∙ sym c.way_of.ensures ∙ c.in-Rules.is in
    let place : (place_of c.args.statement.now.tokens).file < length c.args.reads.now.names = numbered_place (length c.args.reads.now.names) c.args.statement.now.tokens c.requires.places is_way in
    c.take_rule.ensures.within (length c.args.reads.now.names) (rw c.items-tokens.ensures place)

pub returns-in-Rules-clause-fit : goal.returns-in-Rules-clause-fit
returns-in-Rules-clause-fit g c = rules_stay c.expanded_rules_are_written.ensures.tables c.args.facts.now c.args.draft c.items-tokens.result.now c.args.statement.now.body c.take_rule.result c.take_rule.ensures.means

pub returns-in-Closes-clause-fit : goal.returns-in-Closes-clause-fit
returns-in-Closes-clause-fit g c = close_stays c.args.draft c.place_of.result (is_in_body c.args.draft) c.take_close.result c.take_close.ensures.means
