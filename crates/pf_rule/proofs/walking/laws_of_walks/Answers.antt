use Rattle.pf_rule.proofs.AnyWalks.{alike_walks, joined, one_effect_once, reached_few, stopped_stays}
use Rattle.pf_rule.proofs.walking.laws_of_walks.Goals as goal

pub returns : goal.returns
returns g c = record {
  stopped = λ on. stopped_stays on;
  joined = λ on. joined on;
  alike = λ one other. alike_walks one other;
  once = λ on. one_effect_once on;
  reached = λ on. reached_few on;
}
