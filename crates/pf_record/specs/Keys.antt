-- The keys of a record: the words `key=value` behind its five first words.
use Rattle.std.specs.Prelude.{ℕ, Bool, true, false, ◌&&◌, not, List, [], ◌∷◌, length, drop, Option, Some, None, is_some, if◌then◌else◌, codes, find, nat_eq}
use Rattle.std.specs.List.{list_any, starts_with}
use Rattle.std.specs.Option.{option_or, option_map, option_map_or}
use Rattle.pf_base.specs.Decimal.{decimal_of}
use Rattle.pf_base.specs.Name.{is_plain_name}
use Rattle.pf_ops.specs.Words.{flags_of}
use Rattle.pf_record.specs.declared.field.Field.{Field}
use Rattle.pf_record.specs.declared.field.Field.TheVariants.{Sport, Dport, Flags, Icmptype, Code, Tos, Prio, User, Group, Tag, Extra}
use Rattle.pf_record.specs.Words.{is_tcp, has_ports, has_types, most_byte, most_owner, most_port, most_prio}

-- A key: how its words begin, the field that its fault names, the protocols that have it, whether each record of
-- such a protocol gives it, and the values that it takes.
pub record Key : Type 0 where
  pub begins : List ℕ
  pub field : Field
  pub has : ℕ → Bool
  pub always : Bool
  pub takes : List ℕ → Bool

-- a decimal number to `most`; leading zeros may stand
abbrev pub is_number : ℕ → List ℕ → Bool
is_number most value = is_some (decimal_of most value)

abbrev pub is_flags : List ℕ → Bool
is_flags value = is_some (flags_of value)

abbrev pub any_proto : ℕ → Bool
any_proto proto = true

abbrev pub key : List ℕ → Field → (ℕ → Bool) → Bool → (List ℕ → Bool) → Key
key begins field has always takes = record { begins = begins; field = field; has = has; always = always; takes = takes }

-- the keys, in the order in which they stand
unfoldable pub keys : List Key
keys =
    key (codes "sport=") Sport has_ports true (is_number most_port)
    ∷ key (codes "dport=") Dport has_ports true (is_number most_port)
    ∷ key (codes "flags=") Flags is_tcp false is_flags
    ∷ key (codes "icmptype=") Icmptype has_types true (is_number most_byte)
    ∷ key (codes "code=") Code has_types true (is_number most_byte)
    ∷ key (codes "tos=") Tos any_proto false (is_number most_byte)
    ∷ key (codes "prio=") Prio any_proto false (is_number most_prio)
    ∷ key (codes "user=") User has_ports false (is_number most_owner)
    ∷ key (codes "group=") Group has_ports false (is_number most_owner)
    ∷ key (codes "tag=") Tag any_proto false is_plain_name
    ∷ []

abbrev pub is_word_of : Key → List ℕ → Bool
is_word_of k word = starts_with nat_eq word k.begins

-- what stands behind the `=` of a key's word
abbrev pub value_of : Key → List ℕ → List ℕ
value_of k word = drop (length k.begins) word

-- the protocol has the key, and the word's value is one of the key's
abbrev pub is_sound : ℕ → Key → List ℕ → Bool
is_sound proto k word = k.has proto && k.takes (value_of k word)

-- a key that a word has, and the keys that may stand behind it
pub record Found : Type 0 where
  pub key : Key
  pub behind : List Key

-- of keys that may stand, the one that a word has
abbrev pub key_of : List Key → List ℕ → Option Found
key_of [] word = None
key_of (k ∷ ks) word = if is_word_of k word then Some (record { key = k; behind = ks }) else key_of ks word

-- The first fault of words in a row, of which these keys may stand: a word of another form or out of order, or a
-- key that the protocol doesn't have or whose value is none.
abbrev pub words_fault : ℕ → List Key → List (List ℕ) → Option Field
words_fault proto ks [] = None
words_fault proto ks (word ∷ words) =
    option_map_or (λ found. if is_sound proto found.key word then words_fault proto found.behind words else Some found.key.field)
    (key_of ks word) (Some Extra)

-- a key that the record has to give, and doesn't
abbrev pub is_missing : ℕ → List (List ℕ) → Key → Bool
is_missing proto words k = k.always && k.has proto && not (list_any (is_word_of k) words)

-- the fault of the words behind the destination: of those that stand, else of the first that is missing
unfoldable pub keys_fault : ℕ → List (List ℕ) → Option Field
keys_fault proto words =
    option_or (words_fault proto keys words) (option_map (λ k. k.field) (find (is_missing proto words) keys))
