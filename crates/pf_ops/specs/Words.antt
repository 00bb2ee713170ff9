-- Words of pf.conf(5) that stand for numbers.
use Rattle.std.specs.Prelude.{ℕ, Bool, ◌&&◌, not, List, [], ◌∷◌, Option, Some, None, is_some, unwrap_or, if◌then◌else◌, ◌==◌, bit_and, bit_or, codes, filter, fold}
use Rattle.std.specs.List.{flat_map, list_all}
use Rattle.std.specs.Option.{option_or}
use Rattle.std.specs.Str.{bytes_eq}
use Rattle.pf_base.specs.Decimal.{decimal_of}
use Rattle.pf_base.specs.Text.{is_nothing}
use Rattle.pf_base.specs.declared.kind.Family.{Family}
use Rattle.pf_base.specs.declared.kind.Family.TheVariants.{Inet, Inet6}

-- a word and the number that it stands for
pub record Entry : Type 0 where
  pub word : List ℕ
  pub number : ℕ

abbrev entry : List ℕ → ℕ → Entry
entry word number = record { word = word; number = number }

-- the number of the first entry with this word
abbrev pub number_of : List Entry → List ℕ → Option ℕ
number_of [] word = None
number_of (e ∷ entries) word = if bytes_eq e.word word then Some e.number else number_of entries word

-- the word of the first entry with this number
abbrev pub word_of : List Entry → ℕ → Option (List ℕ)
word_of [] number = None
word_of (e ∷ entries) number = if e.number == number then Some e.word else word_of entries number

-- the names of protocols (pf.conf(5), Parameters, proto)
unfoldable pub protocols : List Entry
protocols =
    entry (codes "icmp") 1
    ∷ entry (codes "igmp") 2
    ∷ entry (codes "ipencap") 4
    ∷ entry (codes "tcp") 6
    ∷ entry (codes "udp") 17
    ∷ entry (codes "ipv6") 41
    ∷ entry (codes "gre") 47
    ∷ entry (codes "esp") 50
    ∷ entry (codes "ah") 51
    ∷ entry (codes "icmp6") 58
    ∷ entry (codes "ipv6-icmp") 58
    ∷ entry (codes "ospf") 89
    ∷ entry (codes "carp") 112
    ∷ entry (codes "pfsync") 240
    ∷ []

-- the names of ICMP types (pf.conf(5), Parameters, icmp-type)
unfoldable pub icmp4_types : List Entry
icmp4_types =
    entry (codes "echorep") 0
    ∷ entry (codes "unreach") 3
    ∷ entry (codes "squench") 4
    ∷ entry (codes "redir") 5
    ∷ entry (codes "echoreq") 8
    ∷ entry (codes "timex") 11
    ∷ entry (codes "paramprob") 12
    ∷ []

-- the names of ICMPv6 types (pf.conf(5), Parameters, icmp6-type)
unfoldable pub icmp6_types : List Entry
icmp6_types =
    entry (codes "unreach") 1
    ∷ entry (codes "toobig") 2
    ∷ entry (codes "timex") 3
    ∷ entry (codes "paramprob") 4
    ∷ entry (codes "echoreq") 128
    ∷ entry (codes "echorep") 129
    ∷ entry (codes "routersol") 133
    ∷ entry (codes "routeradv") 134
    ∷ entry (codes "neighbrsol") 135
    ∷ entry (codes "neighbradv") 136
    ∷ []

-- the names of the types of a family
abbrev pub icmp_types : Family → List Entry
icmp_types Inet = icmp4_types
icmp_types Inet6 = icmp6_types

-- the letters of TCP flags and their bits (pf.conf(5), Parameters, flags)
unfoldable pub tcp_flags : List Entry
tcp_flags =
    entry (codes "F") 1
    ∷ entry (codes "S") 2
    ∷ entry (codes "R") 4
    ∷ entry (codes "P") 8
    ∷ entry (codes "A") 16
    ∷ entry (codes "U") 32
    ∷ entry (codes "E") 64
    ∷ entry (codes "W") 128
    ∷ []

-- a protocol: a number to 255, where leading zeros may stand, or a name
abbrev pub proto_of : List ℕ → Option ℕ
proto_of word = option_or (decimal_of 255 word) (number_of protocols word)

-- a type of the family: a number to 255, where leading zeros may stand, or a name
abbrev pub icmp_of : Family → List ℕ → Option ℕ
icmp_of family word = option_or (decimal_of 255 word) (number_of (icmp_types family) word)

-- the bit of a flag's letter
abbrev pub bit_of : ℕ → Option ℕ
bit_of letter = number_of tcp_flags (letter ∷ [])

-- the bits of letters together; what is no letter of a flag has none
abbrev pub bits_of : List ℕ → ℕ
bits_of letters = fold (λ bits letter. bit_or bits (unwrap_or (bit_of letter) 0)) 0 letters

-- flags: one or more of their letters, in any order
unfoldable pub flags_of : List ℕ → Option ℕ
flags_of text = if not (is_nothing text) && list_all (λ letter. is_some (bit_of letter)) text then Some (bits_of text) else None

-- the flag's bit is set
abbrev pub is_set : ℕ → Entry → Bool
is_set bits flag = not (bit_and bits flag.number == 0)

-- the letters of the flags that are set, in the order of a table
abbrev pub letters_in : List Entry → ℕ → List ℕ
letters_in flags bits = flat_map (λ flag. flag.word) (filter (is_set bits) flags)

-- the letters of the flags that are set, in the order of the bits from the lowest on
abbrev pub letters_of : ℕ → List ℕ
letters_of bits = letters_in tcp_flags bits
