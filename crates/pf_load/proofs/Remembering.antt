-- No load comes to a want of memory.
use Rattle.std.proofs.Common.{◌≡◌, ℕ, List, Option, Some, None, Result, Ok, Err, ap, ◌∙◌}
use Rattle.std.specs.Prelude.{slice_get}
use Rattle.std.specs.Option.{option_map}
use Rattle.pf_base.specs.declared.fault.FaultKind.{FaultKind}
use Rattle.pf_base.specs.declared.fault.Place.{Place}
use Rattle.pf_host.specs.Facts.{HostFacts}
use Rattle.pf_source.specs.Disk.{Disk}
use Rattle.pf_fault.specs.declared.fault.Stop.{Stop}
use Rattle.pf_fault.specs.declared.fault.Stop.TheVariants as stops
use Rattle.pf_plan.specs.declared.plan.Plan.{Plan}
use Rattle.pf_load.specs.Load.{Loads, LoadsOn, Outcome, Turn, ends, goes_on, outcome_of, told_at, told_of}
use Rattle.pf_load.specs.declared.loading.LoadFault.{LoadFault}
use Rattle.pf_load.specs.declared.loading.LoadFault.TheVariants.{File, CannotRead, NoMemory}
use Rattle.pf_load.specs.declared.loading.LoadOptions.{LoadOptions}

no_memory_at : (names : List (List ℕ)) (kind : FaultKind) (place : Place) → told_at names kind place ≡ Some NoMemory → ⊥
no_memory_at names kind place h =
    elim (slice_get names place.file) as (λ o. option_map (λ (n : List ℕ). File kind place n) o ≡ Some NoMemory → ⊥) [
      | None ↦ λ k. cc
      | Some n ↦ λ k. cc
    ] h

no_memory_of : (names : List (List ℕ)) (stop : Stop) → told_of names stop ≡ Some NoMemory → ⊥
no_memory_of names (stops.Fault fault) h = no_memory_at names fault.kind fault.place h
no_memory_of names (stops.Unread name) h = cc
no_memory_of names stops.NoMemory h = cc

failed_with : (o : Option LoadFault) (fault : LoadFault) → ◌≡◌ {A = Option Outcome} (option_map (λ (f : LoadFault). Err f) o) (Some (Err fault)) → o ≡ Some fault
failed_with None fault h = cc
failed_with (Some other) fault h = cc

no_memory_in : (names : List (List ℕ)) (last : Result Plan Stop) → outcome_of names last ≡ Some (Err NoMemory) → ⊥
no_memory_in names (Ok plan) h = cc
no_memory_in names (Err stop) h = no_memory_of names stop (failed_with (told_of names stop) NoMemory h)

pub no_memory_on : (disk : Disk) (facts : HostFacts) (options : LoadOptions) {turn : Turn} {outcome : Outcome} → LoadsOn disk facts options turn outcome → outcome ≡ Err NoMemory → ⊥
no_memory_on disk facts options (ends {reads = reads} {last = last} is) e = no_memory_in reads.names last (is ∙ ap (λ (o : Outcome). Some o) e)
no_memory_on disk facts options (goes_on lead true turns on) e = no_memory_on disk facts options on e
