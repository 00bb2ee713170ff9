-- A name's bytes give its fields back.
use Rattle.std.specs.Prelude.{◌≡◌, ◌≤◌, length, take}
use Rattle.pf_base.specs.Padding.{IsPadded, padded, padded_front, length_front}
use Rattle.pf_base.specs.declared.name.Name.TheInside.{Inside}

pub name_back : (a : Inside) → (IsPadded 0 63 a.bytes a.len × (1 ≤ a.len)) → record { bytes = padded 0 63 (take a.len a.bytes); len = length (take a.len a.bytes) } ≡ a
name_back a h = λ i. record { bytes = padded_front 0 63 a.bytes a.len h.0 i; len = length_front 0 63 a.bytes a.len h.0 i }
