-- What the rules of a statement of a file do is what written rules do.
use Rattle.std.proofs.Common.{◌≡◌, ℕ, Bool, true, false, List, [], ◌∷◌, Option, Some, None, refl, sym, ap, subst, inl, inr}
use Rattle.std.specs.Prelude.{◌&&◌, ◌||◌, ◌⊎◌, not, is_none, is_some, unwrap_or, codes}
use Rattle.std.specs.List.{slice_get}
use Rattle.std.proofs.lemmas.Bool.{and_from, and_parts, not-false, or_parts}
use Rattle.pf_decl.specs.ReadBack.{is_file_name, is_policy}
use Rattle.pf_expand.specs.Faults.{is_bad_overload}
use Rattle.pf_expand.specs.Readings.{TranslationMeans}
use Rattle.pf_expand.specs.Rules.{action_of, effect_of, makes_state, options_of, params_of, state_of}
use Rattle.pf_expand.specs.declared.order.Defaults.{Defaults}
use Rattle.pf_expand.specs.declared.readings.Readings.{Readings}
use Rattle.pf_form.specs.Kinds.{is_anchor, makes_states, may_translate}
use Rattle.pf_form.specs.Settings.{is_no_scrub}
use Rattle.pf_form.specs.declared.form.Head.{Head}
use Rattle.pf_form.specs.declared.form.Head.TheVariants as heads
use Rattle.pf_form.specs.declared.form.RuleForm.{RuleForm}
use Rattle.pf_grammar.specs.Late.{has_anchor_effect, has_params}
use Rattle.pf_host.specs.Facts.{HostFacts}
use Rattle.pf_parts.specs.CallText.{IsCallText, call_of, call_text}
use Rattle.pf_parts.specs.Defaults.{no_options}
use Rattle.pf_parts.specs.declared.block.BlockKind.{BlockKind}
use Rattle.pf_parts.specs.declared.block.BlockKind.TheVariants as blocks
use Rattle.pf_parts.specs.declared.call.Base.TheVariants.{Root}
use Rattle.pf_parts.specs.declared.call.Call.{Call}
use Rattle.pf_parts.specs.declared.params.Scrub.{Scrub}
use Rattle.pf_parts.specs.declared.state.Overload.{Overload}
use Rattle.pf_parts.specs.declared.state.StateKind.{StateKind}
use Rattle.pf_parts.specs.declared.state.StateKind.TheVariants as states
use Rattle.pf_parts.specs.declared.state.StateOptions.{StateOptions}
use Rattle.pf_print.specs.RuleText.{is_pass}
use Rattle.pf_rule.specs.declared.translation.Target.{Target}
use Rattle.pf_syntax.specs.declared.form.TargetWords.{TargetWords}
use Rattle.pf_token.specs.Bytes.{class_of}
use Rattle.pf_word.specs.Tables.{is_table_name}
use Rattle.pf_word.specs.Words as words
use Rattle.pf_word.specs.declared.words.Words.{Words}
use Rattle.pf_reread.specs.Calls.{HasCall}
use Rattle.pf_reread.specs.Written.{AreWrittenOptions, AreWrittenParams, IfGiven, IsWrittenAction, IsWrittenAnchor, IsWrittenEffect, IsWrittenTarget, if_given, is_written_kind, is_written_overload, sets_nothing, translates_nothing}
use Rattle.pf_reread.proofs.Every.{Every}
use Rattle.pf_reread.proofs.FormDrafts.{IsWrittenForm, is_form_head, is_stateless}
use Rattle.pf_reread.proofs.FormParts.{is_form_overload}
use Rattle.pf_reread.proofs.WordValues.{TargetIs}

-- ---- states and their options

unsaid : (state : Option StateKind) → is_some state ≡ false → is_stateless state ≡ true
unsaid None is = refl
unsaid (Some state) is = absurd (cc)

first_false : (first second : Bool) → (first && not second) ≡ false → second ≡ false → first ≡ false
first_false true second is none = absurd (let h : not second ≡ true = ap not none in cc)
first_false false second is none = refl

-- a rule without a state has no options
kept_options : (state : StateKind) (options : StateOptions) (defaults : Defaults) → makes_state state ≡ false → options ≡ no_options → options_of (makes_state state) defaults options ≡ no_options
kept_options state options defaults stateless none =
    subst (λ (b : Bool). options_of b defaults options ≡ no_options) (sym stateless) (ap (options_of false defaults) none)

makes_none : (state : StateKind) → state ≡ states.None → makes_state state ≡ false
makes_none state is = ap makes_state is

pass_stateless : (written : Option StateKind) → unwrap_or written states.Keep ≡ states.None → is_stateless written ≡ true
pass_stateless None is = absurd (cc)
pass_stateless (Some states.None) is = refl
pass_stateless (Some states.Keep) is = absurd (cc)
pass_stateless (Some states.Modulate) is = absurd (cc)
pass_stateless (Some states.Synproxy) is = absurd (cc)

head_stateless : (head : Head) (written : Option StateKind) → (is_some written && not (makes_states head)) ≡ false → state_of head written ≡ states.None → is_stateless written ≡ true
head_stateless heads.Pass written fits is = pass_stateless written is
head_stateless (heads.Block kind) written fits is = unsaid written (first_false (is_some written) false fits refl)
head_stateless heads.Match written fits is = unsaid written (first_false (is_some written) false fits refl)
head_stateless (heads.Anchor name body) written fits is = unsaid written (first_false (is_some written) false fits refl)
head_stateless heads.Antispoof written fits is = unsaid written (first_false (is_some written) false fits refl)
head_stateless (heads.LoadAnchor name file) written fits is = unsaid written (first_false (is_some written) false fits refl)

-- only a pass rule makes a state
others_stateless : (head : Head) (written : Option StateKind) (call : Call) (defaults : Defaults) → is_pass (action_of head call defaults) ≡ false → state_of head written ≡ states.None
others_stateless heads.Pass written call defaults is = absurd (cc)
others_stateless (heads.Block kind) written call defaults is = refl
others_stateless heads.Match written call defaults is = refl
others_stateless (heads.Anchor name body) written call defaults is = refl
others_stateless heads.Antispoof written call defaults is = refl
others_stateless (heads.LoadAnchor name file) written call defaults is = refl

overload_is : (overload : Option Overload) → if_given is_form_overload overload ≡ true → is_bad_overload overload ≡ false → if_given is_written_overload overload ≡ true
overload_is None named good = refl
overload_is (Some overload) named good = and_from (words.is_name overload.table) (is_table_name overload.table) named (not-false (is_table_name overload.table) good)

options_are : (form : RuleForm) (stateful : Bool) (defaults : Defaults) → IsWrittenForm form → is_bad_overload form.options.overload ≡ false → AreWrittenOptions (options_of stateful defaults form.options)
options_are form stateful defaults is good =
    let each = is.parts.state_is.options_are in
    let clash = or_parts (form.options.if_bound && form.options.floating) (is_some form.options.overload && not (is_some form.options.max_src_conn || is_some form.options.max_src_conn_rate)) is.clash in
    record {
      max = each.max;
      max_src_nodes = each.max_src_nodes;
      max_src_states = each.max_src_states;
      max_src_conn = each.max_src_conn;
      max_src_conn_rate = each.max_src_conn_rate;
      overload = overload_is form.options.overload each.overload good;
      limited = clash.1;
      floating = refl;
    }

-- ---- translations

target_is : (written : Option TargetWords) (targets : List Target) → Every (TargetIs written) targets → IfGiven IsWrittenTarget (slice_get targets 0)
target_is written [] h = tt
target_is written (target ∷ targets) h = h.0.fits

-- of a translation that isn't written nothing is left
untranslated : (facts : HostFacts) (written : Option TargetWords) (read : Words Target) → TranslationMeans facts written read → written ≡ None → is_none (slice_get read.values 0) ≡ true
untranslated facts None read means is = subst (λ (w : Words Target). is_none (slice_get w.values 0) ≡ true) (sym means) refl
untranslated facts (Some target) read means is = absurd (cc)

params_are : (form : RuleForm) (nat rdr : List Target) → IsWrittenForm form → Every (TargetIs form.nat) nat → Every (TargetIs form.rdr) rdr → AreWrittenParams (params_of form.params nat rdr)
params_are form nat rdr is one other = record {
  queue = is.parts.set_is.queue_is;
  prio = is.parts.set_is.prio_is;
  tos = is.parts.set_is.tos_is;
  scrub = is.parts.params.scrub_is;
  log = is.parts.params.log_is;
  nat = target_is form.nat nat one;
  rdr = target_is form.rdr rdr other;
}

-- ---- actions

policy_is : (kind : BlockKind) → is_policy kind ≡ true → is_written_kind kind ≡ true
policy_is blocks.Drop is = refl
policy_is blocks.Return is = refl
policy_is (blocks.Rst ttl) is = absurd (cc)
policy_is (blocks.Icmp code code6) is = absurd (cc)

kind_is : (kind : Option BlockKind) (policy : BlockKind) → if_given is_written_kind kind ≡ true → is_policy policy ≡ true → is_written_kind (unwrap_or kind policy) ≡ true
kind_is None policy is set = policy_is policy set
kind_is (Some kind) policy is set = is

-- the text that is printed of an anchor's call is a name of a file
below_main : is_file_name (codes "/*") ≡ true
unfolding class_of
below_main = refl

printed_below : call_text (call_of Root [] true) ≡ codes "/*"
unfolding call_text
printed_below = refl

call_is_name : (call : Call) (text : List ℕ) → IsCallText call text → is_file_name text ≡ true → is_file_name (call_text call) ≡ true
call_is_name call text is named = by_text is.written
  where
    by_text : (text ≡ call_text call) ⊎ ((call ≡ call_of Root [] true) × (text ≡ codes "//*")) → is_file_name (call_text call) ≡ true
    by_text (inl same) = subst (λ (other : List ℕ). is_file_name other ≡ true) same named
    by_text (inr main) = subst (λ (other : Call). is_file_name (call_text other) ≡ true) (sym main.0) (subst (λ (other : List ℕ). is_file_name other ≡ true) (sym printed_below) below_main)

-- none of six
none_of_six : (a b c d e f : Bool) → (a || b || c || d || e || f) ≡ false → (a ≡ false) × (b ≡ false) × (c ≡ false) × (d ≡ false) × (e ≡ false) × (f ≡ false)
none_of_six a b c d e f is =
    let six = or_parts (a || b || c || d || e) f is in
    let five = or_parts (a || b || c || d) e six.0 in
    let four = or_parts (a || b || c) d five.0 in
    let three = or_parts (a || b) c four.0 in
    let two = or_parts a b three.0 in
    (two.0, two.1, three.1, four.1, five.1, six.1)

left_out : {A : Type 0} (o : Option A) → is_some o ≡ false → is_none o ≡ true
left_out None is = refl
left_out (Some value) is = absurd (cc)

off : (b : Bool) → b ≡ false → not b ≡ true
off b is = ap not is

no_scrub_parts : (scrub : Scrub) → not (is_no_scrub scrub) ≡ false
    → (not scrub.no_df ≡ true) × (not scrub.random_id ≡ true) × (not scrub.reassemble_tcp ≡ true) × (is_none scrub.min_ttl ≡ true) × (is_none scrub.max_mss ≡ true)
no_scrub_parts scrub is =
    let all = not-false (is_no_scrub scrub) is in
    let four = and_parts (not scrub.no_df && not scrub.random_id && not scrub.reassemble_tcp && is_none scrub.min_ttl) (is_none scrub.max_mss) all in
    let three = and_parts (not scrub.no_df && not scrub.random_id && not scrub.reassemble_tcp) (is_none scrub.min_ttl) four.0 in
    let two = and_parts (not scrub.no_df && not scrub.random_id) (not scrub.reassemble_tcp) three.0 in
    let one = and_parts (not scrub.no_df) (not scrub.random_id) two.0 in
    (one.0, one.1, two.1, three.1, four.1)

seven_hold : (a b c d e f g : Bool) → a ≡ true → b ≡ true → c ≡ true → d ≡ true → e ≡ true → f ≡ true → g ≡ true → (a && b && c && d && e && f && g) ≡ true
seven_hold a b c d e f g one two three four five six seven =
    and_from (a && b && c && d && e && f) g (and_from (a && b && c && d && e) f (and_from (a && b && c && d) e (and_from (a && b && c) d (and_from (a && b) c (and_from a b one two) three) four) five) six) seven

twelve_hold : (first : Bool) (a b c d e : Bool) → first ≡ true → a ≡ true → b ≡ true → c ≡ true → d ≡ true → e ≡ true → (first && a && b && c && d && e) ≡ true
twelve_hold first a b c d e zero one two three four five =
    and_from (first && a && b && c && d) e (and_from (first && a && b && c) d (and_from (first && a && b) c (and_from (first && a) b (and_from first a zero one) two) three) four) five

-- the parts that an anchor has not
pub record AnchorParts (form : RuleForm) : Type 0 where
  pub params : has_params form ≡ false
  pub tag : is_some form.tag ≡ false
  pub label : is_some form.label ≡ false
  pub nat : is_some form.nat ≡ false
  pub rdr : is_some form.rdr ≡ false

anchor_parts : (form : RuleForm) → is_anchor form.head ≡ true → has_anchor_effect form ≡ false → AnchorParts form
unfolding has_anchor_effect
anchor_parts form anchor none =
    let six = none_of_six (has_params form) (is_some form.tag) (is_some form.state) (is_some form.label) (is_some form.nat) (is_some form.rdr)
    (second_false (is_anchor form.head) (has_params form || is_some form.tag || is_some form.state || is_some form.label || is_some form.nat || is_some form.rdr) none anchor) in
    record { params = six.0; tag = six.1; label = six.3; nat = six.4; rdr = six.5 }
  where
    second_false : (first second : Bool) → (first && second) ≡ false → first ≡ true → second ≡ false
    second_false true second is first = is
    second_false false second is first = absurd (cc)

nothing_set : (form : RuleForm) (nat rdr : List Target) → has_params form ≡ false → is_none (slice_get nat 0) ≡ true → is_none (slice_get rdr 0) ≡ true → sets_nothing (params_of form.params nat rdr) ≡ true
nothing_set form nat rdr none one other =
    let six = none_of_six form.params.log.on (is_some form.params.queue) (is_some form.params.prio) (is_some form.params.tos) (not (is_no_scrub form.params.scrub)) form.params.allow_opts none in
    let scrub = no_scrub_parts form.params.scrub six.4 in
    twelve_hold
    (not form.params.log.on && is_none form.params.queue && is_none form.params.prio && is_none form.params.tos && not form.params.scrub.no_df && not form.params.scrub.random_id && not form.params.scrub.reassemble_tcp)
    (is_none form.params.scrub.min_ttl) (is_none form.params.scrub.max_mss) (not form.params.allow_opts) (is_none (slice_get nat 0)) (is_none (slice_get rdr 0))
    (seven_hold (not form.params.log.on) (is_none form.params.queue) (is_none form.params.prio) (is_none form.params.tos) (not form.params.scrub.no_df) (not form.params.scrub.random_id) (not form.params.scrub.reassemble_tcp)
    (off form.params.log.on six.0) (left_out form.params.queue six.1) (left_out form.params.prio six.2) (left_out form.params.tos six.3) scrub.0 scrub.1 scrub.2)
    scrub.3 scrub.4 (off form.params.allow_opts six.5) one other

no_target : {A : Type 0} (o : Option A) → is_some o ≡ false → o ≡ None
no_target None is = refl
no_target (Some value) is = absurd (cc)

-- what the translations of a statement are, where its head has none
pub record Translations (facts : HostFacts) (form : RuleForm) (read : Readings) : Type 0 where
  pub nat_means : TranslationMeans facts form.nat read.nat
  pub rdr_means : TranslationMeans facts form.rdr read.rdr
  pub nat_are : Every (TargetIs form.nat) read.nat.values
  pub rdr_are : Every (TargetIs form.rdr) read.rdr.values

pub none_translated : (facts : HostFacts) (form : RuleForm) (read : Readings) → Translations facts form read → form.nat ≡ None → form.rdr ≡ None
    → (is_none (slice_get read.nat.values 0) ≡ true) × (is_none (slice_get read.rdr.values 0) ≡ true)
none_translated facts form read are one other = (untranslated facts form.nat read.nat are.nat_means one, untranslated facts form.rdr read.rdr are.rdr_means other)

anchor_is : (facts : HostFacts) (form : RuleForm) (call : Call) (defaults : Defaults) (read : Readings) (text : List ℕ) → Translations facts form read → is_anchor form.head ≡ true → has_anchor_effect form ≡ false
    → IsCallText call text → is_file_name text ≡ true → IsWrittenAnchor (effect_of form call defaults read.nat.values read.rdr.values) (call_text call)
anchor_is facts form call defaults read text are anchor none is named =
    let parts = anchor_parts form anchor none in
    let translated = none_translated facts form read are (no_target form.nat parts.nat) (no_target form.rdr parts.rdr) in
    let nothing = nothing_set form read.nat.values read.rdr.values parts.params translated.0 translated.1 in
    record {
      name = call_is_name call text is named;
      nothing = and_from (sets_nothing (params_of form.params read.nat.values read.rdr.values) && is_none form.tag) (is_none form.label)
          (and_from (sets_nothing (params_of form.params read.nat.values read.rdr.values)) (is_none form.tag) nothing (left_out form.tag parts.tag)) (left_out form.label parts.label);
    }

-- which heads make rules with effects
abbrev pub EffectIs : HostFacts → RuleForm → Call → Defaults → Readings → Head → Type 0
EffectIs facts form call defaults read head = IsWrittenAction (effect_of form call defaults read.nat.values read.rdr.values) (action_of head call defaults)

action_is : (facts : HostFacts) (form : RuleForm) (call : Call) (defaults : Defaults) (read : Readings) → Translations facts form read → has_anchor_effect form ≡ false
    → is_policy defaults.block ≡ true → (head : Head) → form.head ≡ head → is_form_head head ≡ true → (may_translate head ≡ false → form.nat ≡ None) → (may_translate head ≡ false → form.rdr ≡ None) → HasCall head call
    → EffectIs facts form call defaults read head
action_is facts form call defaults read are none policy heads.Pass same fits nat rdr has = tt
action_is facts form call defaults read are none policy heads.Match same fits nat rdr has = tt
action_is facts form call defaults read are none policy (heads.Block kind) same fits nat rdr has =
    let translated = none_translated facts form read are (nat refl) (rdr refl) in
    and_from (is_written_kind (unwrap_or kind defaults.block)) (translates_nothing (params_of form.params read.nat.values read.rdr.values)) (kind_is kind defaults.block fits policy)
    (and_from (is_none (slice_get read.nat.values 0)) (is_none (slice_get read.rdr.values 0)) translated.0 translated.1)
action_is facts form call defaults read are none policy (heads.Anchor (Some text) body) same fits nat rdr has =
    anchor_is facts form call defaults read text are (ap is_anchor same) none has fits
action_is facts form call defaults read are none policy (heads.Anchor None body) same fits nat rdr has = absurd has
action_is facts form call defaults read are none policy heads.Antispoof same fits nat rdr has =
    let translated = none_translated facts form read are (nat refl) (rdr refl) in
    and_from true (translates_nothing (params_of form.params read.nat.values read.rdr.values)) refl
    (and_from (is_none (slice_get read.nat.values 0)) (is_none (slice_get read.rdr.values 0)) translated.0 translated.1)
action_is facts form call defaults read are none policy (heads.LoadAnchor name file) same fits nat rdr has = tt

-- ---- effects

pub effect_is : (facts : HostFacts) (form : RuleForm) (call : Call) (defaults : Defaults) (read : Readings) → IsWrittenForm form → Translations facts form read → is_bad_overload form.options.overload ≡ false
    → is_policy defaults.block ≡ true → HasCall form.head call → IsWrittenEffect (effect_of form call defaults read.nat.values read.rdr.values)
effect_is facts form call defaults read is are good policy has = record {
  action = action_is facts form call defaults read are is.effect policy form.head refl is.parts.head_is.kind_is is.parts.head_is.nat_none is.parts.head_is.rdr_none has;
  tag = is.parts.marks.tag_is;
  stateless = others_stateless form.head form.state call defaults;
  optionless = λ stateless. kept_options (state_of form.head form.state) form.options defaults (makes_none (state_of form.head form.state) stateless)
      (is.parts.state_is.optionless (head_stateless form.head form.state is.state_fits stateless));
  options = options_are form (makes_state (state_of form.head form.state)) defaults is good;
  params = params_are form read.nat.values read.rdr.values is are.nat_are are.rdr_are;
  label = is.parts.marks.label_is;
}
