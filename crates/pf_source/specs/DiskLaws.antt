-- A disk where one file is as if absent.
use mathlib.Core.Path.{fun_ext}
use Rattle.std.proofs.Common.{◌≡◌, ℕ, Bool, true, false, List, Option, Some, None, refl, sym, ap, ◌∙◌}
use Rattle.std.specs.Prelude.{nat_eq, if◌then◌else◌}
use Rattle.std.specs.Cmp.Lexicographic.{pointwise}
use Rattle.std.proofs.lemmas.Bool.Decides.{Decides-eqb}
use Rattle.std.proofs.lemmas.Slice.Eq.{slice_eq-Decides}
use Rattle.pf_source.specs.Disk.{Disk, without}

-- the file of this name is absent there
pub is_absent : (disk : Disk) (name : List ℕ) → without (Some name) disk name ≡ None
is_absent disk name = rw ((slice_eq-Decides Decides-eqb name name (pointwise nat_eq name name) refl).1 refl) refl

absent_or_held : (is : Bool) (held : Option (List ℕ)) → (is ≡ true → held ≡ None) → (if is then None else held) ≡ held
absent_or_held true held h = sym (h refl)
absent_or_held false held h = refl

-- without an absent file the disk is the same
pub same_disk : (disk : Disk) (name : List ℕ) → disk name ≡ None → without (Some name) disk ≡ disk
same_disk disk name gone = fun_ext (λ other. absent_or_held (pointwise nat_eq other name) (disk other)
    (λ is. ap disk ((slice_eq-Decides Decides-eqb other name (pointwise nat_eq other name) refl).0 is) ∙ gone))
