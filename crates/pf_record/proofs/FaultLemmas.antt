-- The faults of a record's keys, word by word and value by value.
use Rattle.std.proofs.Common.{◌≡◌, ℕ, Bool, true, false, cond, ◌&&◌, not, if◌then◌else◌, List, [], ◌∷◌, length, drop, codes, find, Option, Some, None, refl, ap, sym, ◌∙◌, nat_eq}
use Rattle.std.specs.List.{starts_with}
use Rattle.std.specs.Option.{is_some, ok_or, option_map, option_or}
use Rattle.pf_base.specs.Decimal.{decimal_of}
use Rattle.pf_base.specs.Name.{is_plain_name, plain_name}
use Rattle.pf_record.specs.declared.field.Field.{Field}
use Rattle.pf_record.specs.declared.field.Field.TheVariants.{Sport, Dport, Flags, Icmptype, Code, Tos, Prio, User, Group, Tag, Extra}
use Rattle.pf_record.specs.Keys.{Key, is_flags, is_missing, is_number, is_sound, is_word_of, key, keys, keys_fault, value_of, words_fault}
use Rattle.pf_record.specs.Reading.{AreCut, beginnings, behind_first, end_fault, fault_in, first_value, is_empty, list_of, rest_behind, value_behind, value_read, values_fault, values_in}
use Rattle.pf_record.specs.Record.{Values, key_words, perhaps}
use Rattle.pf_ops.specs.Words.{flags_of}
use Rattle.pf_record.specs.Words.{has_ports, has_types, is_tcp}
use Rattle.pf_record.proofs.GivenLemmas.{key_words-cut, stands-sport, stands-dport, stands-icmptype, stands-code}
use Rattle.pf_record.proofs.KeyLemmas.{is_some-option_map}

abbrev pub begins_of : List Key → List (List ℕ)
begins_of [] = []
begins_of (k ∷ ks) = k.begins ∷ begins_of ks

-- the fault of a key with this value
abbrev pub key_fault : ℕ → Key → Option (List ℕ) → Option Field
key_fault proto k None = None
key_fault proto k (Some value) = if k.has proto && k.takes value then None else Some k.field

-- the first fault of keys with these values
abbrev pub key_faults : ℕ → List Key → List (Option (List ℕ)) → Option Field
key_faults proto [] values = None
key_faults proto (k ∷ ks) [] = None
key_faults proto (k ∷ ks) (value ∷ values) = option_or (key_fault proto k value) (key_faults proto ks values)

-- the fault of words that are left
abbrev pub extra_fault : List (List ℕ) → Option Field
extra_fault [] = None
extra_fault (word ∷ words) = Some Extra

abbrev IsFault : ℕ → List Key → List (List ℕ) → Type 0
IsFault proto ks words = words_fault proto ks words ≡ option_or (key_faults proto ks (values_in (begins_of ks) words)) (extra_fault (rest_behind (begins_of ks) words))

-- the fault of a first key's value, and of what stands behind it
abbrev fault_then : ℕ → Key → List Key → Option (List ℕ) → List (List ℕ) → Option Field
fault_then proto k ks value rest =
    option_or (option_or (key_fault proto k value) (key_faults proto ks (values_in (begins_of ks) rest))) (extra_fault (rest_behind (begins_of ks) rest))

assembled : (proto : ℕ) (k : Key) (ks : List Key) (words : List (List ℕ)) (value : Option (List ℕ)) (rest : List (List ℕ)) → first_value k.begins words ≡ value → behind_first k.begins words ≡ rest → words_fault proto (k ∷ ks) words ≡ fault_then proto k ks value rest → IsFault proto (k ∷ ks) words
assembled proto k ks words value rest taken left h =
    h
    ∙ ap (λ (v : Option (List ℕ)). fault_then proto k ks v rest) (sym taken)
    ∙ ap (λ (r : List (List ℕ)). fault_then proto k ks (first_value k.begins words) r) (sym left)

value_own : (begins word : List ℕ) → starts_with nat_eq word begins ≡ true → value_behind begins word ≡ Some (drop (length begins) word)
value_own begins word h = rw h refl

value_other : (begins word : List ℕ) → starts_with nat_eq word begins ≡ false → value_behind begins word ≡ None
value_other begins word h = rw h refl

judged : (proto : ℕ) (k : Key) (ks : List Key) (word : List ℕ) (words : List (List ℕ)) (b : Bool) → is_sound proto k word ≡ b → is_word_of k word ≡ true → IsFault proto ks words → words_fault proto (k ∷ ks) (word ∷ words) ≡ fault_then proto k ks (Some (value_of k word)) words
judged proto k ks word words true sound own more = rw (own, sound) more
judged proto k ks word words false sound own more = rw (own, sound) refl

tried : (proto : ℕ) (k : Key) (ks : List Key) (word : List ℕ) (words : List (List ℕ)) (b : Bool) → is_word_of k word ≡ b → IsFault proto ks words → IsFault proto ks (word ∷ words) → IsFault proto (k ∷ ks) (word ∷ words)
tried proto k ks word words true own behind same =
    assembled proto k ks (word ∷ words) _ words (value_own k.begins word own) (rw own refl) (judged proto k ks word words _ refl own behind)
tried proto k ks word words false own behind same =
    assembled proto k ks (word ∷ words) None (word ∷ words) (value_other k.begins word own) (rw own refl) (rw own same)

pub words_fault-values : (proto : ℕ) (ks : List Key) (words : List (List ℕ)) → words_fault proto ks words ≡ option_or (key_faults proto ks (values_in (begins_of ks) words)) (extra_fault (rest_behind (begins_of ks) words))
words_fault-values proto [] [] = refl
words_fault-values proto [] (word ∷ words) = refl
words_fault-values proto (k ∷ ks) [] = words_fault-values proto ks []
words_fault-values proto (k ∷ ks) (word ∷ words) =
    tried proto k ks word words _ refl (words_fault-values proto ks words) (words_fault-values proto ks (word ∷ words))

-- ---- the faults of values as they are read

ok_fault : {A : Type 0} (field : Field) (o : Option A) → fault_in (ok_or o (record { 0 = field })) ≡ (if is_some o then None else Some field)
ok_fault field None = refl
ok_fault field (Some x) = refl

-- the fault of a key with this value, by the key's parts
abbrev part_fault : Bool → (List ℕ → Bool) → Field → Option (List ℕ) → Option Field
part_fault has takes field None = None
part_fault has takes field (Some value) = if has && takes value then None else Some field

-- the fault of a value that is read, where exactly what can be read is taken
value_fault : {A : Type 0} (has : Bool) (read : List ℕ → Option A) (without : A) (takes : List ℕ → Bool) (field : Field) → ((text : List ℕ) → takes text ≡ is_some (read text)) → (value : Option (List ℕ)) → fault_in (value_read has read without field value) ≡ part_fault has takes field value
value_fault has read without takes field agree None = refl
value_fault true read without takes field agree (Some text) = rw (agree text) (ok_fault field (read text))
value_fault false read without takes field agree (Some text) = refl

number_taken : (most : ℕ) (text : List ℕ) → is_number most text ≡ is_some (perhaps (decimal_of most) text)
number_taken most text = sym (is_some-option_map Some (decimal_of most text))

taken_name : (text : List ℕ) (b : Bool) → b ≡ is_some (perhaps (λ t. if b then Some t else None) text)
taken_name text true = refl
taken_name text false = refl

or_none : {A : Type 0} (o : Option A) → o ≡ option_or o None
or_none None = refl
or_none (Some x) = refl

or_assoc : {A : Type 0} (a b c : Option A) → option_or (option_or a b) c ≡ option_or a (option_or b c)
or_assoc None b c = refl
or_assoc (Some x) b c = refl

-- the first fault of the keys that are given
values_fault-keys : (proto : ℕ) (v : Values) → key_faults proto keys (list_of v) ≡ values_fault proto v
unfolding keys values_fault
values_fault-keys proto v = sym (λ i.
    option_or (value_fault (has_ports proto) (perhaps (decimal_of 65535)) None (is_number 65535) Sport (number_taken 65535) v.sport i)
    (option_or (value_fault (has_ports proto) (perhaps (decimal_of 65535)) None (is_number 65535) Dport (number_taken 65535) v.dport i)
    (option_or (value_fault (is_tcp proto) flags_of 0 is_flags Flags (λ text. refl) v.flags i)
    (option_or (value_fault (has_types proto) (perhaps (decimal_of 255)) None (is_number 255) Icmptype (number_taken 255) v.icmptype i)
    (option_or (value_fault (has_types proto) (perhaps (decimal_of 255)) None (is_number 255) Code (number_taken 255) v.code i)
    (option_or (value_fault true (decimal_of 255) 0 (is_number 255) Tos (λ text. refl) v.tos i)
    (option_or (value_fault true (decimal_of 7) 3 (is_number 7) Prio (λ text. refl) v.prio i)
    (option_or (value_fault (has_ports proto) (perhaps (decimal_of 4294967295)) None (is_number 4294967295) User (number_taken 4294967295) v.user i)
    (option_or (value_fault (has_ports proto) (perhaps (decimal_of 4294967295)) None (is_number 4294967295) Group (number_taken 4294967295) v.group i)
    ((value_fault true (perhaps plain_name) None is_plain_name Tag (λ text. taken_name text (is_plain_name text)) v.tag ∙ or_none _) i))))))))))

-- the first of four keys that is missing
first_missing : (a b c d : Bool) (j p l m : Key) → option_map (λ (k : Key). k.field) (cond a (Some j) (cond b (Some p) (cond c (Some l) (cond d (Some m) None)))) ≡ option_or (cond a (Some j.field) None) (option_or (cond b (Some p.field) None) (option_or (cond c (Some l.field) None) (cond d (Some m.field) None)))
first_missing true b c d j p l m = refl
first_missing false true c d j p l m = refl
first_missing false false true d j p l m = refl
first_missing false false false true j p l m = refl
first_missing false false false false j p l m = refl

missing-end : (proto : ℕ) (v : Values) → option_map (λ (k : Key). k.field) (find (is_missing proto (key_words v)) keys) ≡ end_fault proto v false
unfolding keys end_fault
missing-end proto v =
    rw (stands-sport v, stands-dport v, stands-icmptype v, stands-code v) (first_missing (has_ports proto && not (is_some v.sport)) (has_ports proto && not (is_some v.dport))
    (has_types proto && not (is_some v.icmptype)) (has_types proto && not (is_some v.code))
    (key (codes "sport=") Sport has_ports true (is_number 65535))
    (key (codes "dport=") Dport has_ports true (is_number 65535))
    (key (codes "icmptype=") Icmptype has_types true (is_number 255))
    (key (codes "code=") Code has_types true (is_number 255)))

-- the fault of words that are left, and of keys that are missing
end_of : (proto : ℕ) (words : List (List ℕ)) (v : Values) (extra : Bool) (rest : List (List ℕ)) → (extra ≡ false → words ≡ key_words v) → extra ≡ not (is_empty rest) → option_or (extra_fault rest) (option_map (λ (k : Key). k.field) (find (is_missing proto words) keys)) ≡ end_fault proto v extra
unfolding end_fault
end_of proto words v extra [] spelled more =
    ap (λ (w : List (List ℕ)). option_map (λ (k : Key). k.field) (find (is_missing proto w) keys)) (spelled more)
    ∙ missing-end proto v ∙ ap (end_fault proto v) (sym more)
end_of proto words v extra (word ∷ rest) spelled more = rw more refl

-- the fault of the words behind the destination, by the values that are taken from them
pub keys_fault-values : (proto : ℕ) (words : List (List ℕ)) (v : Values) (extra : Bool) → AreCut words v extra → keys_fault proto words ≡ option_or (values_fault proto v) (end_fault proto v extra)
unfolding keys_fault keys
keys_fault-values proto words v extra h =
    ap (λ (f : Option Field). option_or f (option_map (λ (k : Key). k.field) (find (is_missing proto words) keys)))
    (words_fault-values proto keys words
    ∙ ap (λ (values : List (Option (List ℕ))). option_or (key_faults proto keys values) (extra_fault (rest_behind beginnings words))) (sym h.all.taken)
    ∙ ap (λ (rest : List (List ℕ)). option_or (key_faults proto keys (list_of v)) (extra_fault rest)) (sym h.all.left))
    ∙ or_assoc (key_faults proto keys (list_of v)) (extra_fault h.rest) (option_map (λ (k : Key). k.field) (find (is_missing proto words) keys))
    ∙ ap (λ (f : Option Field). option_or f (option_or (extra_fault h.rest) (option_map (λ (k : Key). k.field) (find (is_missing proto words) keys)))) (values_fault-keys proto v)
    ∙ ap (option_or (values_fault proto v))
    (end_of proto words v extra h.rest (λ none. key_words-cut words v (record { rest = h.rest; all = h.all; more = sym none ∙ h.more })) h.more)
