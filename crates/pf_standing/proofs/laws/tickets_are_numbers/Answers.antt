use Rattle.pf_standing.specs.Numbers.{TicketsAreNumbers}
use Rattle.pf_standing.proofs.Carrying.{by_run, by_step}
use Rattle.pf_standing.proofs.Numbers.{empty_numbers, keeps_numbers}
use Rattle.pf_standing.proofs.laws.tickets_are_numbers.Goals as goal

pub returns : goal.returns
returns c = record {
  first = empty_numbers;
  on = by_step TicketsAreNumbers keeps_numbers;
  reached = by_run TicketsAreNumbers keeps_numbers empty_numbers;
}
