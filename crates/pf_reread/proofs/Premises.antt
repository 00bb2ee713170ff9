-- Statements of which the laws speak: `pass in quick` and `anchor x`, on a host of which nothing is known.
use Rattle.std.proofs.Common.{◌≡◌, ℕ, true, false, List, [], ◌∷◌, ◌++◌, Some, None, Ok, refl, inl, arith}
use Rattle.std.specs.Prelude.{codes}
use Rattle.pf_base.specs.Name.{is_plain_byte}
use Rattle.pf_base.specs.Path.{is_dots, is_path_name, is_reserved, is_written_name}
use Rattle.pf_base.specs.Text.{lines_of, unfinished, whole_lines}
use Rattle.pf_decl.specs.ReadBack.{is_policy}
use Rattle.pf_expand.specs.Expansion.{Expands, fault_of, rules_of}
use Rattle.pf_expand.specs.Rules.{opening}
use Rattle.pf_expand.specs.declared.order.Order.{Order}
use Rattle.pf_expand.specs.declared.readings.Readings.{Readings}
use Rattle.pf_form.specs.Blank.{blank_form, with_form, blank}
use Rattle.pf_form.specs.Log.{log_first, logged, quick_first}
use Rattle.pf_form.specs.Tests.{direction, family, hosts, ifaces, protos}
use Rattle.pf_form.specs.declared.form.Head.TheVariants as heads
use Rattle.pf_form.specs.declared.form.RuleForm.{RuleForm}
use Rattle.pf_grammar.specs.Forms.{HasForm}
use Rattle.pf_grammar.specs.Heads.{anchor_head, head_words, words_behind_anchor}
use Rattle.pf_grammar.specs.Late.{has_anchor_effect, has_state_fault, late_of}
use Rattle.pf_grammar.specs.Statements.{anchor, rule, rule_front, statement}
use Rattle.pf_host.specs.Facts.{no_facts}
use Rattle.pf_host.specs.Line.{lines_about, lines_said}
use Rattle.pf_host.specs.Meaning.{IsFactsText}
use Rattle.pf_parts.specs.CallText.{call_of, call_text}
use Rattle.pf_parts.specs.Defaults.{no_options}
use Rattle.pf_parts.specs.declared.call.Base.TheVariants.{Below}
use Rattle.pf_parts.specs.declared.call.Call.{Call}
use Rattle.pf_parts.specs.declared.direction.Direction.TheVariants.{In}
use Rattle.pf_parts.specs.declared.matching.IfTest.TheVariants as ifaces_are
use Rattle.pf_parts.specs.declared.matching.TagTest.TheVariants as tags
use Rattle.pf_parts.specs.declared.state.StateKind.TheVariants as states
use Rattle.pf_rule.specs.Opening.{no_params}
use Rattle.pf_rule.specs.declared.criteria.AddrTest.TheVariants as tests
use Rattle.pf_rule.specs.declared.effect.Action.TheVariants as actions
use Rattle.pf_rule.specs.declared.rule.Rule.{Rule}
use Rattle.pf_syntax.specs.Symbols.{symbols}
use Rattle.pf_syntax.specs.Words.{name_of}
use Rattle.pf_token.specs.Bytes.{class_of}
use Rattle.pf_token.specs.declared.token.Token.{Token}
use Rattle.pf_token.specs.declared.token.TokenKind.TheVariants.{Word}
use Rattle.pf_word.specs.Words.{none}
use Rattle.pf_reread.specs.Calls.{HasCall}
use Rattle.pf_reread.specs.ReadBack.{at_start}
use Rattle.pf_reread.specs.TokenText.{are_read_tokens}

-- ---- a host of which nothing is known

no_line : (before : List (List ℕ)) (line : List ℕ) (behind : List (List ℕ)) → ◌≡◌ {A = List (List ℕ)} [] (before ++ line ∷ behind) → ⊥
no_line [] line behind is = cc
no_line (first ∷ before) line behind is = cc

an_empty_text : IsFactsText [] no_facts
unfolding lines_of whole_lines unfinished lines_said lines_about
an_empty_text = record {
  sound = λ before line stands cause fault. no_line before line stands.behind stands.joined;
  said = record { interfaces = refl; members = refl; addresses = tt; hosts = tt; users = tt; groups = tt; services = tt };
}

-- ---- `pass in quick`

abbrev a_word : List ℕ → Token
a_word text = record { kind = Word; text = text; place = record { file = 0; line = 1 } }

abbrev pass_in : List Token
pass_in = a_word (codes "pass") ∷ a_word (codes "in") ∷ a_word (codes "quick") ∷ []

pass_in_read : are_read_tokens pass_in ≡ true
unfolding class_of
pass_in_read = refl

abbrev pass_form : RuleForm
pass_form = record (blank_form heads.Pass) { direction = Some In; quick = true }

pass_in_formed : HasForm pass_in false pass_form None
unfolding statement head_words rule rule_front direction logged log_first quick_first ifaces family protos hosts late_of has_state_fault has_anchor_effect
pass_in_formed = record {
  draft = with_form (blank heads.Pass) pass_form;
  derived = (statement false).exact.sound (symbols pass_in) (with_form (blank heads.Pass) pass_form) [] refl;
  says = refl;
  fault = refl;
}

abbrev no_words : Readings
no_words = record { protos = none; icmp = none; sources = none; source_ports = none; targets = none; target_ports = none; users = none; groups = none; nat = none; rdr = none }

abbrev given_order : Order
given_order = record { group_first = false; rdr_first = false }

abbrev pass_rule : Rule
pass_rule = record {
  criteria = record {
    iface = ifaces_are.Any;
    direction = Some In;
    family = None;
    proto = None;
    source = tests.Any;
    source_port = None;
    target = tests.Any;
    target_port = None;
    user = None;
    group = None;
    flags = Some opening;
    icmp = None;
    tos = None;
    prio = None;
    tagged = tags.Any;
  };
  effect = record {
    action = actions.Pass;
    quick = true;
    tag = None;
    state = states.Keep;
    options = no_options;
    params = no_params;
    label = None;
  };
}

abbrev any_call : Call
any_call = call_of Below (codes "x" ∷ []) false

pass_in_comes : Expands pass_form any_call given_order no_facts at_start 1 (Ok (pass_rule ∷ []))
unfolding fault_of rules_of
pass_in_comes = record {
  read = no_words;
  are = record {
    protos = refl;
    icmp = refl;
    sources = record { readings = []; each = tt; are = refl };
    source_ports = refl;
    targets = record { readings = []; each = tt; are = refl };
    target_ports = refl;
    users = refl;
    groups = refl;
    nat = refl;
    rdr = refl;
  };
  gives = refl;
}

a_policy : is_policy at_start.block ≡ true
a_policy = refl

-- ---- `anchor x`

abbrev anchor_x : List Token
anchor_x = a_word (codes "anchor") ∷ a_word (codes "x") ∷ []

abbrev anchor_form : RuleForm
anchor_form = blank_form (heads.Anchor (Some (codes "x")) false)

anchor_x_formed : HasForm anchor_x false anchor_form None
unfolding statement head_words rule rule_front direction logged log_first quick_first ifaces family protos hosts late_of has_state_fault has_anchor_effect anchor anchor_head words_behind_anchor name_of
anchor_x_formed = record {
  draft = blank (heads.Anchor (Some (codes "x")) false);
  derived = (statement false).exact.sound (symbols anchor_x) (blank (heads.Anchor (Some (codes "x")) false)) [] refl;
  says = refl;
  fault = refl;
}

anchor_x_called : HasCall anchor_form.head any_call
unfolding call_text is_written_name is_path_name is_reserved is_dots is_plain_byte
anchor_x_called = record {
  sayable = record { based = refl; few = omega arith; named = refl; said = refl };
  written = inl refl;
}
