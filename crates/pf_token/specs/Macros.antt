-- What macros stand for. pf.conf(5), MACROS
use Rattle.std.specs.Prelude.{ℕ, ◌&&◌, List, [], ◌∷◌, Option, None, length, nat_le, if◌then◌else◌, refl}
use Rattle.std.specs.Coded.{Coded, code_by, coded×, coded_list, coded_ℕ}
use Rattle.std.specs.Option.{option_or}
use Rattle.std.specs.Ordering.{nat_cmp}
use Rattle.std.specs.Cmp.Lexicographic.{slice_cmp}
use Rattle.std.specs.FinMap.{FinMap, get, insert, empty, code}
use Rattle.pf_token.specs.declared.macros.Define.{Define}

-- values by name
abbrev pub Values : Type 0
Values = FinMap (slice_cmp nat_cmp) (List ℕ)

-- The macros that were given from outside, which no definition of a file changes, and those that definitions gave so far.
pub record Table : Type 0 where
  pub given : Values
  pub defined : Values

-- a table as the pair of its maps
abbrev pub table_code : Coded Table
table_code =
    code_by (Values × Values) (coded× (code (coded_list coded_ℕ) (coded_list coded_ℕ)) (code (coded_list coded_ℕ) (coded_list coded_ℕ)))
    (λ t. (t.given, t.defined)) (λ p. record { given = p.0; defined = p.1 }) (λ _. refl)

-- what a name stands for: a name has 1 to 63 bytes
unfoldable pub value_of : Table → List ℕ → Option (List ℕ)
value_of macros name =
    if nat_le 1 (length name) && nat_le (length name) 63 then option_or (get macros.given name) (get macros.defined name) else None

-- the values with these definitions added in turn: a later one of the same name replaces the value
abbrev pub with_defines : Values → List Define → Values
with_defines values [] = values
with_defines values (define ∷ defines) = with_defines (insert values define.name define.value) defines

-- the macros that these definitions give from outside
abbrev pub values_of : List Define → Table
values_of defines = record { given = with_defines empty defines; defined = empty }

-- the macros after a definition in a file
abbrev pub with_definition : Table → List ℕ → List ℕ → Table
with_definition macros name value = record macros { defined = insert macros.defined name value }
