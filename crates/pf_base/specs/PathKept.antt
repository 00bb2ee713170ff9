-- A path's names give its fields back.
use Rattle.std.specs.Prelude.{◌≡◌, ℕ, true, List, [], ◌∷◌, length, take}
use Rattle.std.specs.List.{list_all}
use Rattle.pf_base.specs.Padding.{IsPadded, padded, padded_front, length_front}
use Rattle.pf_base.specs.Path.{is_written_name}
use Rattle.pf_base.specs.declared.path.Path.TheInside.{Inside}

-- the name in the places behind a path's names
abbrev pub no_name : List ℕ
no_name = 120 ∷ []

abbrev pub IsKeptPath : Inside → Type 0
IsKeptPath a = IsPadded no_name 8 a.names a.count × (list_all (is_written_name true) (take a.count a.names) ≡ true)

pub path_back : (a : Inside) → IsKeptPath a → record { names = padded no_name 8 (take a.count a.names); count = length (take a.count a.names) } ≡ a
path_back a h = λ i. record { names = padded_front no_name 8 a.names a.count h.0 i; count = length_front no_name 8 a.names a.count h.0 i }
