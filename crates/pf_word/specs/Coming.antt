-- What is answered: a value, or a fault of the kinds of pf.conf(5), by this relation; want of memory is free.
use Rattle.std.specs.Prelude.{Result, Ok, Err}
use Rattle.pf_base.specs.declared.fault.FaultKind.{FaultKind}
use Rattle.pf_word.specs.declared.fault.ExpandFault.{ExpandFault}
use Rattle.pf_word.specs.declared.fault.ExpandFault.TheVariants as faults

abbrev pub Comes : {A : Type 0} → (Result A FaultKind → Type 0) → Result A ExpandFault → Type 0
Comes Means (Ok value) = Means (Ok value)
Comes Means (Err (faults.Kind kind)) = Means (Err kind)
Comes Means (Err faults.NoMemory) = Unit {0}
