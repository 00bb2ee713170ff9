-- What protocols and ICMP types mean (pf.conf(5), PARAMETERS, proto, icmp-type).
use Rattle.std.specs.Prelude.{ℕ, List, map, Option, Some, None}
use Rattle.std.specs.Option.{ok_or, option_map}
use Rattle.pf_base.specs.Decimal.{decimal_of}
use Rattle.pf_base.specs.declared.fault.FaultKind.TheVariants as kinds
use Rattle.pf_base.specs.declared.kind.Family.{Family}
use Rattle.pf_ops.specs.Words.{icmp_of, proto_of}
use Rattle.pf_ops.specs.declared.flags.IcmpType.{IcmpType}
use Rattle.pf_syntax.specs.declared.form.IcmpItem.{IcmpItem}
use Rattle.pf_word.specs.Words.{all_of, failed, found, of_one}
use Rattle.pf_word.specs.declared.words.Words.{Words}

-- a protocol: a number to 255 or a name
abbrev pub proto : List ℕ → Words ℕ
proto name = of_one (ok_or (proto_of name) (kinds.UnknownProto name))

abbrev pub protos : List (List ℕ) → Words ℕ
protos names = all_of (map proto names)

-- a code, where one is written: a number to 255
abbrev pub code_of : Option (List ℕ) → Option (Option ℕ)
code_of None = Some None
code_of (Some word) = option_map Some (decimal_of 255 word)

-- a type of a family with its code
abbrev pub icmp_with : Family → Option ℕ → Option (Option ℕ) → Words IcmpType
icmp_with family (Some kind) (Some code) = found (record { family = family; kind = kind; code = code })
icmp_with family (Some kind) None = failed kinds.BadIcmpType
icmp_with family None code = failed kinds.BadIcmpType

-- an ICMP type: a number to 255 or a name of its family
abbrev pub icmp : IcmpItem → Words IcmpType
icmp item = icmp_with item.family (icmp_of item.family item.word) (code_of item.code)

abbrev pub icmps : List IcmpItem → Words IcmpType
icmps items = all_of (map icmp items)
