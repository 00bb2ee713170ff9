-- The longest of the entries that have an address in them, as the code finds it from the first on.
use Rattle.std.specs.Prelude.{Option, Some, None, nat_lt, if◌then◌else◌}
use Rattle.pf_table.specs.Table.{narrower}
use Rattle.pf_table.specs.declared.entry.Entry.{Entry}

-- the longer of an entry that there may be and one behind it, the first of two alike
abbrev pub longer : Option Entry → Entry → Entry
longer None entry = entry
longer (Some found) entry = if nat_lt found.prefix.len entry.prefix.len then entry else found

-- one that there may be, and the longest of those behind it
abbrev pub longest_with : Option Entry → Option Entry → Option Entry
longest_with None later = later
longest_with (Some found) later = Some (narrower found later)
