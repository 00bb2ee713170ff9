use Rattle.pf_standing.specs.Standing.{StandsPlain}
use Rattle.pf_standing.proofs.Carrying.{by_run, by_step}
use Rattle.pf_standing.proofs.Saying.{empty_plain, keeps_plain}
use Rattle.pf_standing.proofs.laws.what_stands_says_something.Goals as goal

pub returns : goal.returns
returns c = record {
  first = empty_plain;
  on = by_step StandsPlain (keeps_plain c.a_load_is_one_replacement.ensures);
  reached = by_run StandsPlain (keeps_plain c.a_load_is_one_replacement.ensures) empty_plain;
  each = λ machine path node reached found. (by_run StandsPlain (keeps_plain c.a_load_is_one_replacement.ensures) empty_plain machine reached).rulesets path node found;
}
