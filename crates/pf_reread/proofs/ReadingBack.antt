-- The text of a rule that a statement can come to is read as that rule.
use Rattle.std.proofs.Common.{ℕ, false, List, [], Option, None, refl, sym, subst}
use Rattle.std.specs.Prelude.{map}
use Rattle.pf_base.specs.declared.fault.Place.{Place}
use Rattle.pf_grammar.specs.Forms.{HasForm}
use Rattle.pf_grammar.specs.Statements.{statement}
use Rattle.pf_print.specs.RuleText.{rule_text}
use Rattle.pf_rule.specs.declared.effect.Action.{Action}
use Rattle.pf_rule.specs.declared.effect.Action.TheVariants as actions
use Rattle.pf_rule.specs.declared.rule.Rule.{Rule}
use Rattle.pf_syntax.specs.Symbols.{Symbols}
use Rattle.pf_token.specs.declared.token.Token.{Token}
use Rattle.pf_reread.specs.ReadBack.{NamesCall, ReadsAsRule}
use Rattle.pf_reread.specs.Written.{IsWritten}
use Rattle.pf_reread.proofs.Comes.{comes_back}
use Rattle.pf_reread.proofs.Glyphs.{all_read, cells_plain, no_newlines, said, spelled, symbols-tokens, token_of}
use Rattle.pf_reread.proofs.Meaning.{ReadTexts}
use Rattle.pf_reread.proofs.ReadStates.{BitsBack}
use Rattle.pf_reread.proofs.RuleForm.{draft_of, head_of, late_none, rule_read}
use Rattle.pf_reread.proofs.RuleGlyphs.{rule_glyphs}
use Rattle.pf_reread.proofs.RuleSpelled.{rule_spelled}
use Rattle.pf_reread.proofs.RuleTokens.{PrintedTexts, rule_are}

abbrev tokens_at : Place → Rule → List Token
tokens_at place rule = map (token_of place) (said (rule_glyphs rule))

formed : PrintedTexts → BitsBack → (place : Place) (rule : Rule) → IsWritten rule → HasForm (tokens_at place rule) false (draft_of rule).form None
formed printed back place rule is = record {
  draft = draft_of rule;
  derived = subst (λ (symbols : Symbols). (statement false).derives symbols (draft_of rule) []) (sym (symbols-tokens place (said (rule_glyphs rule)))) (rule_read printed back rule is);
  says = refl;
  fault = sym (late_none rule is);
}

names_call : (action : Action) → NamesCall action (head_of action)
names_call actions.Pass = tt
names_call actions.Match = tt
names_call (actions.Block kind) = tt
names_call (actions.Anchor call) = refl

pub rules_read_back : PrintedTexts → ReadTexts → BitsBack → (values : List ℕ → Option (List ℕ)) (place : Place) (rule : Rule) → IsWritten rule → ReadsAsRule values place (rule_text rule) rule
rules_read_back printed read back values place rule is =
    let glyphs = rule_glyphs rule in
    let are = rule_are printed rule is in
    let plain = cells_plain place (spelled glyphs) (no_newlines glyphs are) in
    record {
      tokens = tokens_at place rule;
      spelled = rw (rule_spelled rule, plain) (all_read values place glyphs are);
      form = (draft_of rule).form;
      formed = formed printed back place rule is;
      named = names_call rule.effect.action;
      comes = comes_back read rule is;
    }
