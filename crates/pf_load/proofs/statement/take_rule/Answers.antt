use Rattle.pf_grammar.specs.Late.{late_of}
use Rattle.pf_load.proofs.Reading.{rule_refused, rule_said, said_form}
use Rattle.pf_load.proofs.statement.take_rule.Goals as goal

pub take_said-requires : goal.take_said-requires
take_said-requires c = c.forms_have_words.ensures c.args.tokens.now c.args.body c.in-Ok.said.form (late_of c.in-Ok.said) c.requires (said_form c.args.tokens.now c.args.body c.in-Ok.said c.in-Ok.ensures.found)

pub returns-in-Ok-clause-means : goal.returns-in-Ok-clause-means
returns-in-Ok-clause-means c =
    rule_said c.args.facts.now c.args.tokens.now c.args.body c.args.draft c.in-Ok.said c.in-Ok.ensures.found c.take_said.result (rw c.place_of-place.ensures at c.take_said.ensures.means)

pub returns-in-Ok-clause-within : goal.returns-in-Ok-clause-within
returns-in-Ok-clause-within c = λ count le. c.take_said.ensures.within count (rw c.place_of-place.ensures le)

pub returns-in-Err-clause-means : goal.returns-in-Err-clause-means
returns-in-Err-clause-means c = rw (c.stop_of.ensures, c.place_of-place.ensures) (rule_refused c.args.facts.now c.args.tokens.now c.args.body c.args.draft c.in-Err.fault c.in-Err.ensures.fault)
