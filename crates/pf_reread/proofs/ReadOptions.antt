-- The options of a rule are read as they were printed, each laid on the rule so far.
use Rattle.std.proofs.Common.{◌≡◌, ℕ, Bool, true, false, List, [], ◌∷◌, ◌++◌, Option, Some, None, refl, arith, decimal}
use Rattle.std.specs.Prelude.{is_some, codes}
use Rattle.std.specs.List.{list_all}
use Rattle.std.specs.Option.{option_map}
use Rattle.std.proofs.lemmas.Bool.{and_parts, leb-true}
use Rattle.pf_addr.specs.Text.{addr_text}
use Rattle.pf_addr.specs.declared.addr.Addr.{Addr}
use Rattle.pf_base.specs.Decimal.{decimal_of}
use Rattle.pf_base.specs.declared.kind.Family.{Family}
use Rattle.pf_base.specs.declared.kind.Family.TheVariants.{Inet, Inet6}
use Rattle.pf_decl.specs.ReadBack.{is_file_name, is_string_byte}
use Rattle.pf_form.specs.Kinds.{may_translate}
use Rattle.pf_form.specs.Settings.{prios, queues, set_behind, set_part, set_words, settings, tos_of}
use Rattle.pf_form.specs.declared.form.Draft.{Draft}
use Rattle.pf_grammar.specs.Options.{allow_option, groups, icmp_part, label_part, nat_part, option, option_words, prio_part, rdr_part, set_option, tag_part, tagged_part, tos_part, users}
use Rattle.pf_ops.specs.Numbers.{IsKept}
use Rattle.pf_ops.specs.declared.flags.IcmpType.{IcmpType}
use Rattle.pf_ops.specs.declared.numbers.Numbers.{Numbers}
use Rattle.pf_parts.specs.declared.matching.TagTest.{TagTest}
use Rattle.pf_parts.specs.declared.matching.TagTest.TheVariants as tags
use Rattle.pf_parts.specs.declared.params.Prios.{Prios}
use Rattle.pf_parts.specs.declared.params.Queues.{Queues}
use Rattle.pf_rule.specs.declared.translation.Target.{Target}
use Rattle.pf_syntax.specs.Operators.{icmp_type, target}
use Rattle.pf_syntax.specs.Symbols.{Symbols, quoted}
use Rattle.pf_syntax.specs.Words.{is_name, name_of, in_range as pf_range}
use Rattle.pf_syntax.specs.declared.form.IcmpItem.{IcmpItem}
use Rattle.pf_syntax.specs.declared.form.OpItem.{OpItem}
use Rattle.pf_syntax.specs.declared.form.TargetWords.{TargetWords}
use Rattle.pf_reread.specs.Written.{IfGiven, are_written_prios, are_written_queues, if_given, is_byte, is_prio, is_written_tag_test}
use Rattle.pf_reread.proofs.Following.{begins, no_word}
use Rattle.pf_reread.proofs.Glyphs.{said}
use Rattle.pf_reread.proofs.ReadHosts.{behind_side, from_options, set_item, set_read}
use Rattle.pf_reread.proofs.Rows.{Takes, takes_none, takes_one}
use Rattle.pf_reread.proofs.RuleGlyphs.{given, group_glyphs, icmp_glyphs, label_glyphs, prio_glyphs, prios_glyphs, queue_glyphs, set_tos_glyphs, tag_glyphs, tagged_glyphs, target_glyphs, tos_glyphs, user_glyphs, where_so, word}
use Rattle.pf_reread.proofs.RuleTokens.{byte_small, prio_small}
use Rattle.pf_reread.proofs.Words.{decimal_of-decimal, in_range-decimal, name_back, name_no_mark}

-- Behind `before` these symbols are options that come to `after`.
abbrev pub Options : Draft → Symbols → Draft → Type 0
Options before symbols after = Takes from_options option before symbols after

-- users and groups
abbrev pub id_items : Option Numbers → List OpItem
id_items None = []
id_items (Some ids) = set_item 4294967295 ids ∷ []

abbrev pub with_users : Draft → List OpItem → Draft
with_users draft items = record draft { form = record draft.form { users = items }; group_first = false }

pub users_taken : (draft : Draft) (ids : Option Numbers) → IfGiven (IsKept 4294967295) ids → draft.form.groups ≡ []
    → Options (with_users draft []) (said (given user_glyphs ids)) (with_users draft (id_items ids))
unfolding option option_words users
users_taken draft None kept none = takes_none from_options option (with_users draft [])
users_taken draft (Some ids) kept none =
    takes_one from_options option (with_users draft []) (with_users draft (id_items (Some ids))) _ _
    (λ rest follows. rw (set_read 4294967295 ids rest (omega arith) kept (behind_side rest follows), none) refl)

abbrev pub with_groups : Draft → List OpItem → Draft
with_groups draft items = record draft { form = record draft.form { groups = items } }

pub groups_taken : (draft : Draft) (ids : Option Numbers) → IfGiven (IsKept 4294967295) ids
    → Options (with_groups draft []) (said (given group_glyphs ids)) (with_groups draft (id_items ids))
unfolding option option_words groups
groups_taken draft None kept = takes_none from_options option (with_groups draft [])
groups_taken draft (Some ids) kept =
    takes_one from_options option (with_groups draft []) (with_groups draft (id_items (Some ids))) _ _
    (λ rest follows. rw (set_read 4294967295 ids rest (omega arith) kept (behind_side rest follows)) refl)

-- ICMP types
abbrev pub icmp_item : IcmpType → IcmpItem
icmp_item icmp = record { family = icmp.family; word = decimal icmp.kind; code = option_map decimal icmp.code }

abbrev pub icmp_items : Option IcmpType → List IcmpItem
icmp_items None = []
icmp_items (Some icmp) = icmp_item icmp ∷ []

abbrev pub with_icmp : Draft → List IcmpItem → Draft
with_icmp draft items = record draft { form = record draft.form { icmp = items } }

abbrev typed : Family → ℕ → Option ℕ → IcmpType
typed family kind code = record { family = family; kind = kind; code = code }

icmp_read : (draft : Draft) (family : Family) (kind : ℕ) (code : Option ℕ) (rest : Symbols) → begins from_options rest ≡ true
    → (option (with_icmp draft [])).reads (said (icmp_glyphs (typed family kind code)) ++ rest) ≡ Some (with_icmp draft (icmp_item (typed family kind code) ∷ []), rest)
unfolding option option_words icmp_part icmp_type
icmp_read draft Inet kind None rest follows = rw (no_word from_options (codes "code") rest follows refl) refl
icmp_read draft Inet6 kind None rest follows = rw (no_word from_options (codes "code") rest follows refl) refl
icmp_read draft Inet kind (Some code) rest follows = refl
icmp_read draft Inet6 kind (Some code) rest follows = refl

pub icmp_taken : (draft : Draft) (icmp : Option IcmpType) → Options (with_icmp draft []) (said (given icmp_glyphs icmp)) (with_icmp draft (icmp_items icmp))
icmp_taken draft None = takes_none from_options option (with_icmp draft [])
icmp_taken draft (Some icmp) =
    takes_one from_options option (with_icmp draft []) (with_icmp draft (icmp_item icmp ∷ [])) _ _ (icmp_read draft icmp.family icmp.kind icmp.code)

-- the type of service and the priority
abbrev pub with_tos : Draft → Option ℕ → Draft
with_tos draft value = record draft { form = record draft.form { tos = value } }

pub tos_back : (n : ℕ) → is_byte n ≡ true → tos_of (decimal n) ≡ Some n
unfolding tos_of
tos_back n is = rw (decimal_of-decimal 255 n (leb-true n 255 is) (byte_small n is)) refl

pub tos_taken : (draft : Draft) (tos : Option ℕ) → if_given is_byte tos ≡ true → Options (with_tos draft None) (said (given tos_glyphs tos)) (with_tos draft tos)
unfolding option option_words tos_part
tos_taken draft None is = takes_none from_options option (with_tos draft None)
tos_taken draft (Some n) is =
    takes_one from_options option (with_tos draft None) (with_tos draft (Some n)) _ _ (λ rest follows. rw (tos_back n is) refl)

abbrev pub with_prio : Draft → Option ℕ → Draft
with_prio draft value = record draft { form = record draft.form { prio = value } }

pub prio_back : (n : ℕ) → is_prio n ≡ true → pf_range 0 (decimal_of 7 (decimal n)) ≡ Some n
prio_back n is = in_range-decimal 0 7 n (omega arith) (leb-true n 7 is) (prio_small n is)

pub prio_taken : (draft : Draft) (prio : Option ℕ) → if_given is_prio prio ≡ true → Options (with_prio draft None) (said (given prio_glyphs prio)) (with_prio draft prio)
unfolding option option_words prio_part
prio_taken draft None is = takes_none from_options option (with_prio draft None)
prio_taken draft (Some n) is =
    takes_one from_options option (with_prio draft None) (with_prio draft (Some n)) _ _ (λ rest follows. rw (prio_back n is) refl)

-- tags
abbrev pub with_tagged : Draft → TagTest → Draft
with_tagged draft test = record draft { form = record draft.form { tagged = test } }

tagged_read : (draft : Draft) (negated : Bool) (text : List ℕ) (rest : Symbols) → is_file_name text ≡ true
    → (option (with_tagged draft tags.Any)).reads (said (tagged_glyphs (tags.Is text negated)) ++ rest) ≡ Some (with_tagged draft (tags.Is text negated), rest)
unfolding option option_words tagged_part
tagged_read draft true text rest is = rw (name_back text is) refl
tagged_read draft false text rest is = rw (name_back text is) refl

tagged_taken_if : (draft : Draft) (negated : Bool) (text : List ℕ) → is_file_name text ≡ true
    → Options (with_tagged draft tags.Any) (said (tagged_glyphs (tags.Is text negated))) (with_tagged draft (tags.Is text negated))
tagged_taken_if draft true text is = takes_one from_options option (with_tagged draft tags.Any) (with_tagged draft (tags.Is text true)) _ _ (λ rest follows. tagged_read draft true text rest is)
tagged_taken_if draft false text is = takes_one from_options option (with_tagged draft tags.Any) (with_tagged draft (tags.Is text false)) _ _ (λ rest follows. tagged_read draft false text rest is)

pub tagged_taken : (draft : Draft) (test : TagTest) → is_written_tag_test test ≡ true → Options (with_tagged draft tags.Any) (said (tagged_glyphs test)) (with_tagged draft test)
tagged_taken draft tags.Any is = takes_none from_options option (with_tagged draft tags.Any)
tagged_taken draft (tags.Is text negated) is = tagged_taken_if draft negated text is

abbrev pub with_tag : Draft → Option (List ℕ) → Draft
with_tag draft tag = record draft { form = record draft.form { tag = tag } }

pub tag_taken : (draft : Draft) (tag : Option (List ℕ)) → if_given is_file_name tag ≡ true → Options (with_tag draft None) (said (given tag_glyphs tag)) (with_tag draft tag)
unfolding option option_words tag_part
tag_taken draft None is = takes_none from_options option (with_tag draft None)
tag_taken draft (Some text) is =
    takes_one from_options option (with_tag draft None) (with_tag draft (Some text)) _ _ (λ rest follows. rw (name_back text is) refl)

abbrev pub with_label : Draft → Option (List ℕ) → Draft
with_label draft label = record draft { form = record draft.form { label = label } }

-- a label is a string
pub quoted_back : (text : List ℕ) → is_file_name text ≡ true → name_of (quoted text) ≡ Some text
unfolding name_of
quoted_back text is = rw ((and_parts (is_name text) (list_all is_string_byte text) is).0) refl

pub label_taken : (draft : Draft) (label : Option (List ℕ)) → if_given is_file_name label ≡ true → Options (with_label draft None) (said (given label_glyphs label)) (with_label draft label)
unfolding option option_words label_part
label_taken draft None is = takes_none from_options option (with_label draft None)
label_taken draft (Some text) is =
    takes_one from_options option (with_label draft None) (with_label draft (Some text)) _ _ (λ rest follows. rw (quoted_back text is) refl)

-- what the rule sets
abbrev pub with_queue : Draft → Option Queues → Draft
with_queue draft value = record draft { form = record draft.form { params = record draft.form.params { queue = value } } }

abbrev two_queues : List ℕ → Option (List ℕ) → Queues
two_queues first second = record { first = first; second = second }

queue_read : (draft : Draft) (first : List ℕ) (second : Option (List ℕ)) (rest : Symbols) → is_file_name first ≡ true → if_given is_file_name second ≡ true
    → (option (with_queue draft None)).reads (said (queue_glyphs (two_queues first second)) ++ rest) ≡ Some (with_queue draft (Some (two_queues first second)), rest)
unfolding option option_words set_option settings set_part set_words set_behind queues
queue_read draft first None rest is other = rw (name_no_mark first (codes "("), name_back first is) refl
queue_read draft first (Some second) rest is other = rw (name_back first is, name_back second other) refl

pub queue_taken : (draft : Draft) (value : Option Queues) → if_given are_written_queues value ≡ true → Options (with_queue draft None) (said (given queue_glyphs value)) (with_queue draft value)
queue_taken draft None is = takes_none from_options option (with_queue draft None)
queue_taken draft (Some value) is =
    let p = and_parts (is_file_name value.first) (if_given is_file_name value.second) is in
    takes_one from_options option (with_queue draft None) (with_queue draft (Some value)) _ _ (λ rest follows. queue_read draft value.first value.second rest p.0 p.1)

abbrev pub with_prios : Draft → Option Prios → Draft
with_prios draft value = record draft { form = record draft.form { params = record draft.form.params { prio = value } } }

abbrev two_prios : ℕ → Option ℕ → Prios
two_prios first second = record { first = first; second = second }

prios_read : (draft : Draft) (first : ℕ) (second : Option ℕ) (rest : Symbols) → is_prio first ≡ true → if_given is_prio second ≡ true
    → (option (with_prios draft None)).reads (said (prios_glyphs (two_prios first second)) ++ rest) ≡ Some (with_prios draft (Some (two_prios first second)), rest)
unfolding option option_words set_option settings set_part set_words set_behind prios
prios_read draft first None rest is other = rw (prio_back first is) refl
prios_read draft first (Some second) rest is other = rw (prio_back first is, prio_back second other) refl

pub prios_taken : (draft : Draft) (value : Option Prios) → if_given are_written_prios value ≡ true → Options (with_prios draft None) (said (given prios_glyphs value)) (with_prios draft value)
prios_taken draft None is = takes_none from_options option (with_prios draft None)
prios_taken draft (Some value) is =
    let p = and_parts (is_prio value.first) (if_given is_prio value.second) is in
    takes_one from_options option (with_prios draft None) (with_prios draft (Some value)) _ _ (λ rest follows. prios_read draft value.first value.second rest p.0 p.1)

abbrev pub with_set_tos : Draft → Option ℕ → Draft
with_set_tos draft value = record draft { form = record draft.form { params = record draft.form.params { tos = value } } }

pub set_tos_taken : (draft : Draft) (value : Option ℕ) → if_given is_byte value ≡ true → Options (with_set_tos draft None) (said (given set_tos_glyphs value)) (with_set_tos draft value)
unfolding option option_words set_option settings set_part set_words set_behind
set_tos_taken draft None is = takes_none from_options option (with_set_tos draft None)
set_tos_taken draft (Some n) is =
    takes_one from_options option (with_set_tos draft None) (with_set_tos draft (Some n)) _ _ (λ rest follows. rw (tos_back n is) refl)

-- translations
abbrev pub target_words : Target → TargetWords
target_words target = record { addr = addr_text target.addr; port = option_map decimal target.port }

abbrev pub with_nat : Draft → Option TargetWords → Draft
with_nat draft value = record draft { form = record draft.form { nat = value }; rdr_first = false }

abbrev to : Addr → Option ℕ → Target
to addr port = record { addr = addr; port = port }

nat_read : (draft : Draft) (addr : Addr) (port : Option ℕ) (rest : Symbols) → may_translate draft.form.head ≡ true → draft.form.rdr ≡ None → begins from_options rest ≡ true
    → (option (with_nat draft None)).reads (said (target_glyphs (codes "nat-to") (to addr port)) ++ rest) ≡ Some (with_nat draft (Some (target_words (to addr port))), rest)
unfolding option option_words nat_part target
nat_read draft addr None rest may none follows = rw (may, none, no_word from_options (codes "port") rest follows refl) refl
nat_read draft addr (Some port) rest may none follows = rw (may, none) refl

pub nat_taken : (draft : Draft) (value : Option Target) → (is_some value ≡ true → may_translate draft.form.head ≡ true) → draft.form.rdr ≡ None
    → Options (with_nat draft None) (said (given (target_glyphs (codes "nat-to")) value)) (with_nat draft (option_map target_words value))
nat_taken draft None may none = takes_none from_options option (with_nat draft None)
nat_taken draft (Some value) may none =
    takes_one from_options option (with_nat draft None) (with_nat draft (Some (target_words value))) _ _ (λ rest follows. nat_read draft value.addr value.port rest (may refl) none follows)

abbrev pub with_rdr : Draft → Option TargetWords → Draft
with_rdr draft value = record draft { form = record draft.form { rdr = value } }

rdr_read : (draft : Draft) (addr : Addr) (port : Option ℕ) (rest : Symbols) → may_translate draft.form.head ≡ true → begins from_options rest ≡ true
    → (option (with_rdr draft None)).reads (said (target_glyphs (codes "rdr-to") (to addr port)) ++ rest) ≡ Some (with_rdr draft (Some (target_words (to addr port))), rest)
unfolding option option_words rdr_part target
rdr_read draft addr None rest may follows = rw (may, no_word from_options (codes "port") rest follows refl) refl
rdr_read draft addr (Some port) rest may follows = rw may refl

pub rdr_taken : (draft : Draft) (value : Option Target) → (is_some value ≡ true → may_translate draft.form.head ≡ true)
    → Options (with_rdr draft None) (said (given (target_glyphs (codes "rdr-to")) value)) (with_rdr draft (option_map target_words value))
rdr_taken draft None may = takes_none from_options option (with_rdr draft None)
rdr_taken draft (Some value) may =
    takes_one from_options option (with_rdr draft None) (with_rdr draft (Some (target_words value))) _ _ (λ rest follows. rdr_read draft value.addr value.port rest (may refl) follows)

-- IP options
abbrev pub with_allow : Draft → Bool → Draft
with_allow draft value = record draft { form = record draft.form { params = record draft.form.params { allow_opts = value } } }

pub allow_taken : (draft : Draft) (value : Bool) → Options (with_allow draft false) (said (where_so value (word (codes "allow-opts") ∷ []))) (with_allow draft value)
unfolding option option_words allow_option
allow_taken draft false = takes_none from_options option (with_allow draft false)
allow_taken draft true = takes_one from_options option (with_allow draft false) (with_allow draft true) _ _ (λ rest follows. refl)
