-- The names of a record's fields.
use Rattle.std.specs.Prelude.{ℕ, List, codes}
use Rattle.pf_record.specs.declared.field.Field.{Field}
use Rattle.pf_record.specs.declared.field.Field.TheVariants.{Direction, Interface, Protocol, Source, Destination, Sport, Dport, Flags, Icmptype, Code, Tos, Prio, User, Group, Tag, Extra}

abbrev pub field_name : Field → List ℕ
field_name Direction = codes "direction"
field_name Interface = codes "interface"
field_name Protocol = codes "protocol"
field_name Source = codes "source"
field_name Destination = codes "destination"
field_name Sport = codes "sport"
field_name Dport = codes "dport"
field_name Flags = codes "flags"
field_name Icmptype = codes "icmptype"
field_name Code = codes "code"
field_name Tos = codes "tos"
field_name Prio = codes "prio"
field_name User = codes "user"
field_name Group = codes "group"
field_name Tag = codes "tag"
field_name Extra = codes "extra"
