-- `:network` and `:0` at the end of a word (pf.conf(5), PARAMETERS, from): each is taken off at most once, in any order.
use Rattle.std.specs.Prelude.{ℕ, ◌-◌, Bool, true, false, ◌&&◌, not, List, length, take, codes, nat_eq, if◌then◌else◌}
use Rattle.std.specs.List.{ends_with}
use Rattle.pf_addr.specs.declared.ifaces.DynIf.{DynIf}

abbrev pub network_end : List ℕ
network_end = codes ":network"

abbrev pub first_end : List ℕ
first_end = codes ":0"

-- the word without so many bytes at its end
abbrev pub without_end : List ℕ → List ℕ → List ℕ
without_end «end» word = take (length word - length «end») word

-- one of the two is taken off the end, unless it has been taken already
abbrev pub with_one_taken : DynIf → DynIf
with_one_taken what =
    if not what.network && ends_with nat_eq what.name network_end then record { name = without_end network_end what.name; network = true; first = what.first }
    else if not what.first && ends_with nat_eq what.name first_end then record { name = without_end first_end what.name; network = what.network; first = true }
    else what

-- what is left of a word, and which of the two stood at its end
unfoldable pub taken_apart : List ℕ → DynIf
taken_apart word = with_one_taken (with_one_taken (record { name = word; network = false; first = false }))
