-- Words are the record of a packet, or have a first fault.
use Rattle.std.proofs.Common.{◌≡◌, ℕ, ◌⊎◌, Bool, true, false, not, if◌then◌else◌, List, [], ◌∷◌, ◌++◌, length, drop, find, codes, nat_eq, Option, Some, None, Result, Ok, Err, refl, sym, ap, subst, ◌∙◌, inl, inr, append-nil}
use Rattle.std.specs.Prelude.{is_some, ◌&&◌, ◌||◌}
use Rattle.std.specs.Cmp.{both_ways}
use Rattle.std.specs.List.{list_any, slice_get, starts_with}
use Rattle.std.specs.Option.{option_and_then, option_map, option_map_or, option_or}
use Rattle.std.proofs.lemmas.Bool.{and_parts, eqb-true, false≢true}
use Rattle.std.proofs.lemmas.Bool.Decides.{Decides-eqb}
use Rattle.std.proofs.lemmas.Slice.Eq.{starts_is}
use Rattle.pf_base.specs.Decimal.{decimal_of}
use Rattle.pf_base.specs.Name.{is_plain_name, plain_name}
use Rattle.pf_base.specs.Text.{fields_of}
use Rattle.pf_addr.specs.Addr.{same_family, width}
use Rattle.pf_addr.specs.Grammar.{IsAddrText}
use Rattle.pf_addr.specs.declared.addr.Addr.{Addr}
use Rattle.pf_ops.specs.Words.{flags_of, proto_of}
use Rattle.pf_parts.specs.declared.direction.Direction.{Direction}
use Rattle.pf_rule.specs.declared.packet.Packet.{Packet}
use Rattle.pf_record.specs.Keys.{Found, Key, any_proto, is_flags, is_missing, is_number, is_sound, is_word_of, key, key_of, keys, keys_fault, value_of, words_fault}
use Rattle.pf_record.specs.Record.{AreAllowed, AreSaid, IsFaulty, IsReadAs, IsRecord, Says, Values, Writes, fault_of, given, key_words, perhaps}
use Rattle.pf_record.specs.Words.{direction_of, has_ports, has_types, is_tcp, most_byte, most_owner, most_port, most_prio, plain_prio, plain_tos}
use Rattle.pf_record.specs.declared.field.Field.{Field}
use Rattle.pf_record.specs.declared.field.Field.TheVariants as field
use Rattle.pf_record.specs.declared.field.PacketFault.{PacketFault}
use Rattle.pf_engine.proofs.Written.{addr_or_not}

-- ---- the keys one after the other

abbrev sport_key : Key
sport_key = key (codes "sport=") field.Sport has_ports true (is_number most_port)

abbrev dport_key : Key
dport_key = key (codes "dport=") field.Dport has_ports true (is_number most_port)

abbrev flags_key : Key
flags_key = key (codes "flags=") field.Flags is_tcp false is_flags

abbrev icmptype_key : Key
icmptype_key = key (codes "icmptype=") field.Icmptype has_types true (is_number most_byte)

abbrev code_key : Key
code_key = key (codes "code=") field.Code has_types true (is_number most_byte)

abbrev tos_key : Key
tos_key = key (codes "tos=") field.Tos any_proto false (is_number most_byte)

abbrev prio_key : Key
prio_key = key (codes "prio=") field.Prio any_proto false (is_number most_prio)

abbrev user_key : Key
user_key = key (codes "user=") field.User has_ports false (is_number most_owner)

abbrev group_key : Key
group_key = key (codes "group=") field.Group has_ports false (is_number most_owner)

abbrev tag_key : Key
tag_key = key (codes "tag=") field.Tag any_proto false is_plain_name

-- those from one of them on
abbrev from_tag : List Key
from_tag = tag_key ∷ []

abbrev from_group : List Key
from_group = group_key ∷ from_tag

abbrev from_user : List Key
from_user = user_key ∷ from_group

abbrev from_prio : List Key
from_prio = prio_key ∷ from_user

abbrev from_tos : List Key
from_tos = tos_key ∷ from_prio

abbrev from_code : List Key
from_code = code_key ∷ from_tos

abbrev from_icmptype : List Key
from_icmptype = icmptype_key ∷ from_code

abbrev from_flags : List Key
from_flags = flags_key ∷ from_icmptype

abbrev from_dport : List Key
from_dport = dport_key ∷ from_flags

abbrev from_sport : List Key
from_sport = sport_key ∷ from_dport

-- a value that is given is one of the key's, and the protocol has the key
abbrev IsSoundValue : ℕ → Key → Option (List ℕ) → Type 0
IsSoundValue proto k None = Unit {0}
IsSoundValue proto k (Some value) = (k.has proto ≡ true) × (k.takes value ≡ true)

spelled_by : (begins word : List ℕ) (b : Bool) → starts_with nat_eq word begins ≡ b → b ≡ true → word ≡ begins ++ drop (length begins) word
spelled_by begins word b h pass = (starts_is Decides-eqb word begins _ (sym h)).0 pass

module _ (proto : ℕ) where
  -- a key is taken from the front of words, where one of it stands there
  record Takes (k : Key) (ks : List Key) (words : List (List ℕ)) : Type 0 where
    value : Option (List ℕ)
    rest : List (List ℕ)
    spelled : words ≡ given k.begins value ++ rest
    sound : IsSoundValue proto k value
    on : words_fault proto ks rest ≡ None

  abbrev fault_at : Option Found → List ℕ → List (List ℕ) → Option Field
  fault_at found word words = option_map_or (λ (found : Found). if is_sound proto found.key word then words_fault proto found.behind words else Some found.key.field) found (Some field.Extra)

  sound_or_not : (b : Bool) (on : Option Field) (fault : Field) → (if b then on else Some fault) ≡ None → (b ≡ true) × (on ≡ None)
  sound_or_not true on fault h = (refl, h)
  sound_or_not false on fault h = absurd cc

  take_by : (k : Key) (ks : List Key) (word : List ℕ) (words : List (List ℕ)) (b : Bool) → is_word_of k word ≡ b → fault_at (if b then Some (record { key = k; behind = ks }) else key_of ks word) word words ≡ None → Takes k ks (word ∷ words)
  take_by k ks word words true own none =
      let parts = sound_or_not (is_sound proto k word) (words_fault proto ks words) k.field none in
      record {
        value = Some (value_of k word);
        rest = words;
        spelled = ap (λ (w : List ℕ). w ∷ words) (spelled_by k.begins word true own refl);
        sound = and_parts (k.has proto) (k.takes (value_of k word)) parts.0;
        on = parts.1;
      }
  take_by k ks word words false other none = record { value = None; rest = word ∷ words; spelled = refl; sound = tt; on = none }

  takes : (k : Key) (ks : List Key) (words : List (List ℕ)) → words_fault proto (k ∷ ks) words ≡ None → Takes k ks words
  takes k ks [] none = record { value = None; rest = []; spelled = refl; sound = tt; on = refl }
  takes k ks (word ∷ words) none = take_by k ks word words (is_word_of k word) refl none

  no_words : (words : List (List ℕ)) → words_fault proto [] words ≡ None → words ≡ []
  no_words [] none = refl
  no_words (word ∷ words) none = absurd cc

  -- the words are those of sound values
  record AllTaken (words : List (List ℕ)) : Type 0 where
    values : Values
    spelled : words ≡ key_words values
    sport : IsSoundValue proto sport_key values.sport
    dport : IsSoundValue proto dport_key values.dport
    flags : IsSoundValue proto flags_key values.flags
    icmptype : IsSoundValue proto icmptype_key values.icmptype
    code : IsSoundValue proto code_key values.code
    tos : IsSoundValue proto tos_key values.tos
    prio : IsSoundValue proto prio_key values.prio
    user : IsSoundValue proto user_key values.user
    group : IsSoundValue proto group_key values.group
    tag : IsSoundValue proto tag_key values.tag

  all_taken : (words : List (List ℕ)) → words_fault proto from_sport words ≡ None → AllTaken words
  all_taken words none =
      let sport = takes sport_key from_dport words none in
      let dport = takes dport_key from_flags sport.rest sport.on in
      let flags = takes flags_key from_icmptype dport.rest dport.on in
      let icmptype = takes icmptype_key from_code flags.rest flags.on in
      let code = takes code_key from_tos icmptype.rest icmptype.on in
      let tos = takes tos_key from_prio code.rest code.on in
      let prio = takes prio_key from_user tos.rest tos.on in
      let user = takes user_key from_group prio.rest prio.on in
      let group = takes group_key from_tag user.rest user.on in
      let tag = takes tag_key [] group.rest group.on in
      let end_tag = tag.spelled ∙ ap (λ (r : List (List ℕ)). given (codes "tag=") tag.value ++ r) (no_words tag.rest tag.on) ∙ append-nil _ in
      let end_group = group.spelled ∙ ap (λ (r : List (List ℕ)). given (codes "group=") group.value ++ r) end_tag in
      let end_user = user.spelled ∙ ap (λ (r : List (List ℕ)). given (codes "user=") user.value ++ r) end_group in
      let end_prio = prio.spelled ∙ ap (λ (r : List (List ℕ)). given (codes "prio=") prio.value ++ r) end_user in
      let end_tos = tos.spelled ∙ ap (λ (r : List (List ℕ)). given (codes "tos=") tos.value ++ r) end_prio in
      let end_code = code.spelled ∙ ap (λ (r : List (List ℕ)). given (codes "code=") code.value ++ r) end_tos in
      let end_icmptype = icmptype.spelled ∙ ap (λ (r : List (List ℕ)). given (codes "icmptype=") icmptype.value ++ r) end_code in
      let end_flags = flags.spelled ∙ ap (λ (r : List (List ℕ)). given (codes "flags=") flags.value ++ r) end_icmptype in
      let end_dport = dport.spelled ∙ ap (λ (r : List (List ℕ)). given (codes "dport=") dport.value ++ r) end_flags in
      let end_sport = sport.spelled ∙ ap (λ (r : List (List ℕ)). given (codes "sport=") sport.value ++ r) end_dport in
      record {
        values = record { sport = sport.value; dport = dport.value; flags = flags.value; icmptype = icmptype.value; code = code.value; tos = tos.value; prio = prio.value; user = user.value; group = group.value; tag = tag.value };
        spelled = end_sport;
        sport = sport.sound;
        dport = dport.sound;
        flags = flags.sound;
        icmptype = icmptype.sound;
        code = code.sound;
        tos = tos.sound;
        prio = prio.sound;
        user = user.sound;
        group = group.sound;
        tag = tag.sound;
      }

-- ---- keys that have to be given

module _ (test : List ℕ → Bool) where
  skipped : (begins : List ℕ) (value : Option (List ℕ)) (rest : List (List ℕ)) → ((text : List ℕ) → test (begins ++ text) ≡ false) → list_any test (given begins value ++ rest) ≡ list_any test rest
  skipped begins None rest other = refl
  skipped begins (Some text) rest other = ap (λ b. b || list_any test rest) (other text)

  last_skipped : (begins : List ℕ) (value : Option (List ℕ)) → ((text : List ℕ) → test (begins ++ text) ≡ false) → list_any test (given begins value) ≡ false
  last_skipped begins None other = refl
  last_skipped begins (Some text) other = ap (λ b. b || false) (other text)

  stands : (begins : List ℕ) (value : Option (List ℕ)) (rest : List (List ℕ)) → ((text : List ℕ) → test (begins ++ text) ≡ true) → list_any test rest ≡ false → list_any test (given begins value ++ rest) ≡ is_some value
  stands begins None rest own none = none
  stands begins (Some text) rest own none = ap (λ b. b || list_any test rest) (own text)

sport_stands : (v : Values) → list_any (is_word_of sport_key) (key_words v) ≡ is_some v.sport
sport_stands v =
    stands (is_word_of sport_key) (codes "sport=") v.sport _ (λ text. refl)
    (skipped (is_word_of sport_key) (codes "dport=") v.dport _ (λ text. refl)
    ∙ skipped (is_word_of sport_key) (codes "flags=") v.flags _ (λ text. refl)
    ∙ skipped (is_word_of sport_key) (codes "icmptype=") v.icmptype _ (λ text. refl)
    ∙ skipped (is_word_of sport_key) (codes "code=") v.code _ (λ text. refl)
    ∙ skipped (is_word_of sport_key) (codes "tos=") v.tos _ (λ text. refl)
    ∙ skipped (is_word_of sport_key) (codes "prio=") v.prio _ (λ text. refl)
    ∙ skipped (is_word_of sport_key) (codes "user=") v.user _ (λ text. refl)
    ∙ skipped (is_word_of sport_key) (codes "group=") v.group _ (λ text. refl)
    ∙ last_skipped (is_word_of sport_key) (codes "tag=") v.tag (λ text. refl))

dport_stands : (v : Values) → list_any (is_word_of dport_key) (key_words v) ≡ is_some v.dport
dport_stands v =
    skipped (is_word_of dport_key) (codes "sport=") v.sport _ (λ text. refl)
    ∙ stands (is_word_of dport_key) (codes "dport=") v.dport _ (λ text. refl)
    (skipped (is_word_of dport_key) (codes "flags=") v.flags _ (λ text. refl)
    ∙ skipped (is_word_of dport_key) (codes "icmptype=") v.icmptype _ (λ text. refl)
    ∙ skipped (is_word_of dport_key) (codes "code=") v.code _ (λ text. refl)
    ∙ skipped (is_word_of dport_key) (codes "tos=") v.tos _ (λ text. refl)
    ∙ skipped (is_word_of dport_key) (codes "prio=") v.prio _ (λ text. refl)
    ∙ skipped (is_word_of dport_key) (codes "user=") v.user _ (λ text. refl)
    ∙ skipped (is_word_of dport_key) (codes "group=") v.group _ (λ text. refl)
    ∙ last_skipped (is_word_of dport_key) (codes "tag=") v.tag (λ text. refl))

icmptype_stands : (v : Values) → list_any (is_word_of icmptype_key) (key_words v) ≡ is_some v.icmptype
icmptype_stands v =
    skipped (is_word_of icmptype_key) (codes "sport=") v.sport _ (λ text. refl)
    ∙ skipped (is_word_of icmptype_key) (codes "dport=") v.dport _ (λ text. refl)
    ∙ skipped (is_word_of icmptype_key) (codes "flags=") v.flags _ (λ text. refl)
    ∙ stands (is_word_of icmptype_key) (codes "icmptype=") v.icmptype _ (λ text. refl)
    (skipped (is_word_of icmptype_key) (codes "code=") v.code _ (λ text. refl)
    ∙ skipped (is_word_of icmptype_key) (codes "tos=") v.tos _ (λ text. refl)
    ∙ skipped (is_word_of icmptype_key) (codes "prio=") v.prio _ (λ text. refl)
    ∙ skipped (is_word_of icmptype_key) (codes "user=") v.user _ (λ text. refl)
    ∙ skipped (is_word_of icmptype_key) (codes "group=") v.group _ (λ text. refl)
    ∙ last_skipped (is_word_of icmptype_key) (codes "tag=") v.tag (λ text. refl))

code_stands : (v : Values) → list_any (is_word_of code_key) (key_words v) ≡ is_some v.code
code_stands v =
    skipped (is_word_of code_key) (codes "sport=") v.sport _ (λ text. refl)
    ∙ skipped (is_word_of code_key) (codes "dport=") v.dport _ (λ text. refl)
    ∙ skipped (is_word_of code_key) (codes "flags=") v.flags _ (λ text. refl)
    ∙ skipped (is_word_of code_key) (codes "icmptype=") v.icmptype _ (λ text. refl)
    ∙ stands (is_word_of code_key) (codes "code=") v.code _ (λ text. refl)
    (skipped (is_word_of code_key) (codes "tos=") v.tos _ (λ text. refl)
    ∙ skipped (is_word_of code_key) (codes "prio=") v.prio _ (λ text. refl)
    ∙ skipped (is_word_of code_key) (codes "user=") v.user _ (λ text. refl)
    ∙ skipped (is_word_of code_key) (codes "group=") v.group _ (λ text. refl)
    ∙ last_skipped (is_word_of code_key) (codes "tag=") v.tag (λ text. refl))

no_find : (test : Key → Bool) (k : Key) (ks : List Key) → find test (k ∷ ks) ≡ None → (test k ≡ false) × (find test ks ≡ None)
no_find test k ks none =
    elim (test k) as (λ b. (if b then Some k else find test ks) ≡ None → (b ≡ false) × (find test ks ≡ None)) [
      | true ↦ λ e. absurd cc
      | false ↦ λ e. (refl, e)
    ] none

-- a key that isn't missing
has_then_stands : (has stands : Bool) → (has && not stands) ≡ false → has ≡ true → stands ≡ true
has_then_stands true true h e = refl
has_then_stands true false h e = absurd (false≢true (sym h))
has_then_stands false stands h e = absurd (false≢true e)

value_has : (proto : ℕ) (k : Key) (value : Option (List ℕ)) → IsSoundValue proto k value → is_some value ≡ true → k.has proto ≡ true
value_has proto k None sound some = absurd (false≢true some)
value_has proto k (Some value) sound some = sound.0

given_where_has : (proto : ℕ) (k : Key) (words : List (List ℕ)) (value : Option (List ℕ)) → IsSoundValue proto k value → list_any (is_word_of k) words ≡ is_some value → (k.has proto && not (list_any (is_word_of k) words)) ≡ false → is_some value ≡ k.has proto
given_where_has proto k words value sound stands here =
    both_ways (is_some value) (k.has proto) (value_has proto k value sound) (λ has. sym stands ∙ has_then_stands (k.has proto) (list_any (is_word_of k) words) here has)

module _ (proto : ℕ) (words : List (List ℕ)) where
  -- none of the four keys is missing
  record NoneMissing : Type 0 where
    sport : (has_ports proto && not (list_any (is_word_of sport_key) words)) ≡ false
    dport : (has_ports proto && not (list_any (is_word_of dport_key) words)) ≡ false
    icmptype : (has_types proto && not (list_any (is_word_of icmptype_key) words)) ≡ false
    code : (has_types proto && not (list_any (is_word_of code_key) words)) ≡ false

  none_missing : find (is_missing proto words) from_sport ≡ None → NoneMissing
  none_missing none =
      let sport = no_find (is_missing proto words) sport_key from_dport none in
      let dport = no_find (is_missing proto words) dport_key from_flags sport.1 in
      let flags = no_find (is_missing proto words) flags_key from_icmptype dport.1 in
      let icmptype = no_find (is_missing proto words) icmptype_key from_code flags.1 in
      let code = no_find (is_missing proto words) code_key from_tos icmptype.1 in
      record { sport = sport.0; dport = dport.0; icmptype = icmptype.0; code = code.0 }

allowed : (proto : ℕ) (words : List (List ℕ)) → (taken : AllTaken proto words) → NoneMissing proto words → AreAllowed proto taken.values
allowed proto words taken missing =
    let v = taken.values in
    record {
      sport = given_where_has proto sport_key words v.sport taken.sport (ap (list_any (is_word_of sport_key)) taken.spelled ∙ sport_stands v) missing.sport;
      dport = given_where_has proto dport_key words v.dport taken.dport (ap (list_any (is_word_of dport_key)) taken.spelled ∙ dport_stands v) missing.dport;
      icmptype = given_where_has proto icmptype_key words v.icmptype taken.icmptype (ap (list_any (is_word_of icmptype_key)) taken.spelled ∙ icmptype_stands v) missing.icmptype;
      code = given_where_has proto code_key words v.code taken.code (ap (list_any (is_word_of code_key)) taken.spelled ∙ code_stands v) missing.code;
      flags = value_has proto flags_key v.flags taken.flags;
      user = value_has proto user_key v.user taken.user;
      group = value_has proto group_key v.group taken.group;
    }

-- ---- what the keys say

is_some_over : {A B : Type 0} (f : A → B) (o : Option A) → is_some (option_map f o) ≡ is_some o
is_some_over f None = refl
is_some_over f (Some x) = refl

name_read : (text : List ℕ) → is_some (perhaps plain_name text) ≡ is_plain_name text
name_read text = is_some_over Some (plain_name text) ∙ plain (is_plain_name text)
  where
    plain : (b : Bool) → is_some (if b then Some text else None) ≡ b
    plain true = refl
    plain false = refl

module _ {A : Type 0} (read : List ℕ → Option A) (without : A) where
  value_read : (value : List ℕ) → is_some (read value) ≡ true → (a : A) × (read value ≡ Some a)
  value_read value some =
      elim (read value) as (λ r. read value ≡ r → is_some r ≡ true → (a : A) × (read value ≡ Some a)) [
        | None ↦ λ e some. absurd (false≢true some)
        | Some a ↦ λ e some. (a, e)
      ] refl some

  says : (proto : ℕ) (k : Key) → ((text : List ℕ) → is_some (read text) ≡ k.takes text) → (value : Option (List ℕ)) → IsSoundValue proto k value → (a : A) × Says read without value a
  says proto k agree None sound = (without, refl)
  says proto k agree (Some value) sound = value_read value (agree value ∙ sound.1)

number_read : (most : ℕ) (text : List ℕ) → is_some (perhaps (decimal_of most) text) ≡ is_number most text
number_read most text = is_some_over Some (decimal_of most text)

module _ (proto : ℕ) (words : List (List ℕ)) (taken : AllTaken proto words) where
  sport_says : (said : Option ℕ) × Says (perhaps (decimal_of most_port)) None taken.values.sport said
  sport_says = says (perhaps (decimal_of most_port)) None proto sport_key (number_read most_port) taken.values.sport taken.sport

  dport_says : (said : Option ℕ) × Says (perhaps (decimal_of most_port)) None taken.values.dport said
  dport_says = says (perhaps (decimal_of most_port)) None proto dport_key (number_read most_port) taken.values.dport taken.dport

  flags_says : (said : ℕ) × Says flags_of 0 taken.values.flags said
  flags_says = says flags_of 0 proto flags_key (λ text. refl) taken.values.flags taken.flags

  icmptype_says : (said : Option ℕ) × Says (perhaps (decimal_of most_byte)) None taken.values.icmptype said
  icmptype_says = says (perhaps (decimal_of most_byte)) None proto icmptype_key (number_read most_byte) taken.values.icmptype taken.icmptype

  code_says : (said : Option ℕ) × Says (perhaps (decimal_of most_byte)) None taken.values.code said
  code_says = says (perhaps (decimal_of most_byte)) None proto code_key (number_read most_byte) taken.values.code taken.code

  tos_says : (said : ℕ) × Says (decimal_of most_byte) plain_tos taken.values.tos said
  tos_says = says (decimal_of most_byte) plain_tos proto tos_key (λ text. refl) taken.values.tos taken.tos

  prio_says : (said : ℕ) × Says (decimal_of most_prio) plain_prio taken.values.prio said
  prio_says = says (decimal_of most_prio) plain_prio proto prio_key (λ text. refl) taken.values.prio taken.prio

  user_says : (said : Option ℕ) × Says (perhaps (decimal_of most_owner)) None taken.values.user said
  user_says = says (perhaps (decimal_of most_owner)) None proto user_key (number_read most_owner) taken.values.user taken.user

  group_says : (said : Option ℕ) × Says (perhaps (decimal_of most_owner)) None taken.values.group said
  group_says = says (perhaps (decimal_of most_owner)) None proto group_key (number_read most_owner) taken.values.group taken.group

  tag_says : (said : Option (List ℕ)) × Says (perhaps plain_name) None taken.values.tag said
  tag_says = says (perhaps plain_name) None proto tag_key name_read taken.values.tag taken.tag

  packet_by : Direction → List ℕ → Addr → Addr → Packet
  packet_by direction iface source target = record {
    direction = direction;
    iface = iface;
    proto = proto;
    source = source;
    target = target;
    source_port = sport_says.0;
    target_port = dport_says.0;
    flags = flags_says.0;
    icmp_type = icmptype_says.0;
    icmp_code = code_says.0;
    tos = tos_says.0;
    prio = prio_says.0;
    user = user_says.0;
    group = group_says.0;
    tag = tag_says.0;
  }

  packet_said : (direction : Direction) (iface : List ℕ) (source target : Addr) → AreSaid taken.values (packet_by direction iface source target)
  unfolding packet_by
  packet_said direction iface source target = record {
    sport = sport_says.1;
    dport = dport_says.1;
    flags = flags_says.1;
    icmptype = icmptype_says.1;
    code = code_says.1;
    tos = tos_says.1;
    prio = prio_says.1;
    user = user_says.1;
    group = group_says.1;
    tag = tag_says.1;
  }

-- ---- the first five words

-- none of the parts has a fault
record Begun (direction : Option Direction) (iface : Option (List ℕ)) (proto : Option ℕ) (source target : Option Addr) (words : List (List ℕ)) : Type 0 where
  way : Direction
  way_is : direction ≡ Some way
  name : List ℕ
  name_is : iface ≡ Some name
  number : ℕ
  number_is : proto ≡ Some number
  from : Addr
  from_is : source ≡ Some from
  to : Addr
  to_is : target ≡ Some to
  one_family : same_family from to ≡ true
  keys_none : keys_fault number words ≡ None

begun : (direction : Option Direction) (iface : Option (List ℕ)) (proto : Option ℕ) (source target : Option Addr) (words : List (List ℕ)) → fault_of direction iface proto source target words ≡ None → Begun direction iface proto source target words
begun None iface proto source target words none = absurd cc
begun (Some way) None proto source target words none = absurd cc
begun (Some way) (Some name) None source target words none = absurd cc
begun (Some way) (Some name) (Some number) None target words none = absurd cc
begun (Some way) (Some name) (Some number) (Some from) None words none = absurd cc
begun (Some way) (Some name) (Some number) (Some from) (Some to) words none =
    elim (same_family from to) as (λ b. same_family from to ≡ b → (if b then keys_fault number words else Some field.Destination) ≡ None → Begun (Some way) (Some name) (Some number) (Some from) (Some to) words) [
      | true ↦ λ e none. record { way = way; way_is = refl; name = name; name_is = refl; number = number; number_is = refl; from = from; from_is = refl; to = to; to_is = refl; one_family = e; keys_none = none }
      | false ↦ λ e none. absurd cc
    ] refl none

no_first : {A : Type 0} (a b : Option A) → option_or a b ≡ None → (a ≡ None) × (b ≡ None)
no_first None b h = (refl, h)
no_first (Some x) b h = absurd cc

no_field : (o : Option Key) → option_map (λ (k : Key). k.field) o ≡ None → o ≡ None
no_field None h = refl
no_field (Some k) h = absurd cc

-- the words behind the destination are those of values
record Behind (proto : ℕ) (words : List (List ℕ)) : Type 0 where
  taken : AllTaken proto words
  may : AreAllowed proto taken.values

behind : (proto : ℕ) (words : List (List ℕ)) → keys_fault proto words ≡ None → Behind proto words
unfolding keys_fault keys
behind proto words none =
    let parts = no_first (words_fault proto from_sport words) (option_map (λ (k : Key). k.field) (find (is_missing proto words) from_sport)) none in
    let taken = all_taken proto words parts.0 in
    record { taken = taken; may = allowed proto words taken (none_missing proto words (no_field (find (is_missing proto words) from_sport) parts.1)) }

no_word : {A : Type 0} (x : A) → ◌≡◌ {A = Option A} None (Some x) → ⊥
no_word x e = cc

-- an address that is written
is_written : (word : List ℕ) (address : Option Addr) (a : Addr) → Writes (Some word) address → address ≡ Some a → IsAddrText word a
is_written word address a writes is = subst (λ (address : Option Addr). Writes (Some word) address) is writes

record_of : (words : List (List ℕ)) (source target : Option Addr) → Writes (slice_get words 3) source → Writes (slice_get words 4) target
    → Begun (option_and_then direction_of (slice_get words 0)) (option_and_then plain_name (slice_get words 1)) (option_and_then proto_of (slice_get words 2)) source target (drop 5 words)
    → (p : Packet) × IsRecord words p
unfolding packet_by
record_of [] source target from to h = absurd (no_word h.way h.way_is)
record_of (a ∷ []) source target from to h = absurd (no_word h.name h.name_is)
record_of (a ∷ b ∷ []) source target from to h = absurd (no_word h.number h.number_is)
record_of (a ∷ b ∷ c ∷ []) source target from to h = absurd (no_word h.from (sym from ∙ h.from_is))
record_of (a ∷ b ∷ c ∷ d ∷ []) source target from to h = absurd (no_word h.to (sym to ∙ h.to_is))
record_of (a ∷ b ∷ c ∷ d ∷ e ∷ words) source target from to h =
    let keys = behind h.number words h.keys_none in (
      packet_by h.number words keys.taken h.way h.name h.from h.to,
      record {
        direction = a;
        iface = b;
        proto = c;
        source = d;
        target = e;
        values = keys.taken.values;
        spelled = ap (λ (ws : List (List ℕ)). a ∷ b ∷ c ∷ d ∷ e ∷ ws) keys.taken.spelled;
        direction_said = h.way_is;
        iface_said = h.name_is;
        proto_said = h.number_is;
        source_said = is_written d source h.from from h.from_is;
        target_said = is_written e target h.to to h.to_is;
        one_family = eqb-true (width h.from) (width h.to) h.one_family;
        allowed = keys.may;
        said = packet_said h.number words keys.taken h.way h.name h.from h.to;
      },
    )

-- ---- a record or a fault

written : (word : Option (List ℕ)) → (address : Option Addr) × Writes word address
written None = (None, refl)
written (Some word) = elim (addr_or_not word) [ inl some ↦ (Some some.0, some.1) | inr none ↦ (None, none) ]

fault_or_record : (words : List (List ℕ)) (source target : Option Addr) → Writes (slice_get words 3) source → Writes (slice_get words 4) target → (fault : Option Field)
    → fault_of (option_and_then direction_of (slice_get words 0)) (option_and_then plain_name (slice_get words 1)) (option_and_then proto_of (slice_get words 2)) source target (drop 5 words) ≡ fault
    → ((p : Packet) × IsRecord words p) ⊎ ((fault : Field) × IsFaulty words fault)
fault_or_record words source target from to (Some fault) is = inr (fault, record { source = source; target = target; source_said = from; target_said = to; first = is })
fault_or_record words source target from to None is = inl (record_of words source target from to (begun _ _ _ source target (drop 5 words) is))

pub some_reading : (text : List ℕ) → (read : Result Packet PacketFault) × IsReadAs text read
some_reading text =
    let words = fields_of text in
    let source = written (slice_get words 3) in
    let target = written (slice_get words 4) in
    elim (fault_or_record words source.0 target.0 source.1 target.1 _ refl) [
      | inl some ↦ (Ok some.0, some.1)
      | inr faulty ↦ (Err (record { 0 = faulty.0 }), faulty.1)
    ]
