use Rattle.pf_order.proofs.Runs.{cut, filled, linked, whole}
use Rattle.pf_order.proofs.laws.runs_are_the_longest.Goals as goal

pub returns : goal.returns
returns g c = record {
  whole = λ joins. whole joins;
  linked = λ joins. linked joins;
  cut = λ joins. cut joins;
  filled = λ joins. filled joins;
}
