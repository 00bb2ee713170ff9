-- The options of a rule, in any order and each at most once (pf.conf(5), GRAMMAR, `filteropt`).
use Rattle.std.specs.Prelude.{ℕ, Bool, true, false, not, List, [], ◌∷◌, Some, is_none, is_some, codes}
use Rattle.pf_base.specs.declared.kind.Family.{Family}
use Rattle.pf_base.specs.declared.kind.Family.TheVariants.{Inet, Inet6}
use Rattle.pf_parts.specs.declared.matching.TagTest.{TagTest}
use Rattle.pf_parts.specs.declared.matching.TagTest.TheVariants.{Any, Is}
use Rattle.pf_parts.specs.declared.state.StateKind.{StateKind}
use Rattle.pf_parts.specs.declared.state.StateKind.TheVariants as states
use Rattle.pf_syntax.specs.Grammar.{Grammar, ◌>>=◌, give, word, on_sign}
use Rattle.pf_syntax.specs.Words.{Keyword, key, keyword, name, only_where}
use Rattle.pf_syntax.specs.Lists.{list_of}
use Rattle.pf_syntax.specs.Operators.{icmp_type, op, target}
use Rattle.pf_form.specs.declared.form.Draft.{Draft}
use Rattle.pf_form.specs.declared.setting.ReadSet.{ReadSet}
use Rattle.pf_rule.specs.declared.params.Params.{Params}
use Rattle.pf_grammar.specs.declared.keyword.OptionWord.{OptionWord}
use Rattle.pf_grammar.specs.declared.keyword.OptionWord.TheVariants as words
use Rattle.pf_form.specs.Blank.{with_form}
use Rattle.pf_form.specs.Flags.{flags}
use Rattle.pf_form.specs.Kinds.{may_translate}
use Rattle.pf_form.specs.Settings.{is_no_scrub, prio, scrub, settings, tos}
use Rattle.pf_form.specs.States.{state_options}

unfoldable pub option_words : List (Keyword OptionWord)
option_words =
    key (codes "user") words.User ∷ key (codes "group") words.Group ∷ key (codes "flags") words.Flags
    ∷ key (codes "icmp-type") words.IcmpType ∷ key (codes "icmp6-type") words.Icmp6Type ∷ key (codes "tos") words.Tos
    ∷ key (codes "prio") words.Prio ∷ key (codes "tagged") words.Tagged ∷ key (codes "tag") words.Tag ∷ key (codes "no") words.No
    ∷ key (codes "keep") words.Keep ∷ key (codes "modulate") words.Modulate ∷ key (codes "synproxy") words.Synproxy
    ∷ key (codes "set") words.Set ∷ key (codes "scrub") words.Scrub ∷ key (codes "allow-opts") words.AllowOpts
    ∷ key (codes "label") words.Label ∷ key (codes "nat-to") words.NatTo ∷ key (codes "rdr-to") words.RdrTo ∷ []

-- nothing is in the list
abbrev pub is_blank_list : {A : Type 0} → List A → Bool
is_blank_list [] = true
is_blank_list (item ∷ items) = false

-- `list of op` behind `user`
unfoldable pub users : Draft → Grammar Draft
users before = do
  once ← only_where (is_blank_list before.form.users)
  tests ← list_of op
  give (record before { form = record before.form { users = tests }; group_first = not (is_blank_list before.form.groups) })

-- `list of op` behind `group`
unfoldable pub groups : Draft → Grammar Draft
groups before = do
  once ← only_where (is_blank_list before.form.groups)
  tests ← list_of op
  give (with_form before (record before.form { groups = tests }))

unfoldable pub flags_part : Draft → Grammar Draft
flags_part before = do
  once ← only_where (is_none before.form.flags)
  read ← flags
  give (record before { form = record before.form { flags = Some read.flags }; unknown_flag = read.unknown })

-- `list of icmp` behind `icmp-type` and `icmp6-type`, of which one stands in a rule
unfoldable pub icmp_part : Family → Draft → Grammar Draft
icmp_part family before = do
  once ← only_where (is_blank_list before.form.icmp)
  types ← list_of (icmp_type family)
  give (with_form before (record before.form { icmp = types }))

unfoldable pub tos_part : Draft → Grammar Draft
tos_part before = do
  once ← only_where (is_none before.form.tos)
  value ← tos
  give (with_form before (record before.form { tos = Some value }))

unfoldable pub prio_part : Draft → Grammar Draft
prio_part before = do
  once ← only_where (is_none before.form.prio)
  value ← prio
  give (with_form before (record before.form { prio = Some value }))

-- no tag is tested yet
abbrev pub tests_no_tag : TagTest → Bool
tests_no_tag Any = true
tests_no_tag (Is _ _) = false

abbrev pub tag_test : List ℕ → Bool → TagTest
tag_test name negated = Is name negated

-- `NAME` behind `tagged`
unfoldable pub tagged_part : Bool → Draft → Grammar Draft
tagged_part negated before = do
  once ← only_where (tests_no_tag before.form.tagged)
  tag ← name
  give (with_form before (record before.form { tagged = tag_test tag negated }))

unfoldable pub tag_part : Draft → Grammar Draft
tag_part before = do
  once ← only_where (is_none before.form.tag)
  tag ← name
  give (with_form before (record before.form { tag = Some tag }))

-- `"state"` behind `no`: one state clause stands in a rule
unfoldable pub no_state : Draft → Grammar Draft
no_state before = do
  once ← only_where (is_none before.form.state)
  state ← word (codes "state")
  give (with_form before (record before.form { state = Some states.None }))

unfoldable pub state_clause : StateKind → Draft → Grammar Draft
state_clause kind before = do
  once ← only_where (is_none before.form.state)
  read ← state_options
  give (record before { form = record before.form { state = Some kind; options = read.options }; repeated_option = read.repeated })

-- the parts of `set` that stand before
abbrev pub set_before : Params → ReadSet
set_before params = record { queue = params.queue; prio = params.prio; tos = params.tos }

abbrev pub with_set : Params → ReadSet → Params
with_set params set = record params { queue = set.queue; prio = set.prio; tos = set.tos }

unfoldable pub set_option : Draft → Grammar Draft
set_option before = do
  set ← settings (set_before before.form.params)
  give (with_form before (record before.form { params = with_set before.form.params set }))

unfoldable pub scrub_option : Draft → Grammar Draft
scrub_option before = do
  once ← only_where (is_no_scrub before.form.params.scrub)
  value ← scrub
  give (with_form before (record before.form { params = record before.form.params { scrub = value } }))

unfoldable pub allow_option : Draft → Grammar Draft
allow_option before = do
  once ← only_where (not before.form.params.allow_opts)
  give (with_form before (record before.form { params = record before.form.params { allow_opts = true } }))

unfoldable pub label_part : Draft → Grammar Draft
label_part before = do
  once ← only_where (is_none before.form.label)
  label ← name
  give (with_form before (record before.form { label = Some label }))

-- `word ["port" word]` behind `nat-to`
unfoldable pub nat_part : Draft → Grammar Draft
nat_part before = do
  fits ← only_where (may_translate before.form.head)
  once ← only_where (is_none before.form.nat)
  words ← target
  give (record before { form = record before.form { nat = Some words }; rdr_first = is_some before.form.rdr })

-- `word ["port" word]` behind `rdr-to`
unfoldable pub rdr_part : Draft → Grammar Draft
rdr_part before = do
  fits ← only_where (may_translate before.form.head)
  once ← only_where (is_none before.form.rdr)
  words ← target
  give (with_form before (record before.form { rdr = Some words }))

abbrev pub option_behind : OptionWord → Draft → Grammar Draft
option_behind words.User before = users before
option_behind words.Group before = groups before
option_behind words.Flags before = flags_part before
option_behind words.IcmpType before = icmp_part Inet before
option_behind words.Icmp6Type before = icmp_part Inet6 before
option_behind words.Tos before = tos_part before
option_behind words.Prio before = prio_part before
option_behind words.Tagged before = tagged_part false before
option_behind words.Tag before = tag_part before
option_behind words.No before = no_state before
option_behind words.Keep before = state_clause states.Keep before
option_behind words.Modulate before = state_clause states.Modulate before
option_behind words.Synproxy before = state_clause states.Synproxy before
option_behind words.Set before = set_option before
option_behind words.Scrub before = scrub_option before
option_behind words.AllowOpts before = allow_option before
option_behind words.Label before = label_part before
option_behind words.NatTo before = nat_part before
option_behind words.RdrTo before = rdr_part before

-- `opt`, laid on the rule so far
unfoldable pub option : Draft → Grammar Draft
option before = on_sign (codes "!") (do
  tested ← word (codes "tagged")
  tagged_part true before) (do
    word ← keyword option_words
    option_behind word before)
