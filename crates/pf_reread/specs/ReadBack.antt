-- The text of a rule, read as a statement.
use Rattle.std.specs.Prelude.{◌≡◌, ℕ, ◌≤◌, false, List, [], ◌∷◌, map, Option, Some, None, Ok}
use Rattle.pf_base.specs.declared.fault.Place.{Place}
use Rattle.pf_expand.specs.Expansion.{Expands}
use Rattle.pf_expand.specs.declared.order.Defaults.{Defaults}
use Rattle.pf_expand.specs.declared.order.Order.{Order}
use Rattle.pf_form.specs.declared.form.Head.{Head}
use Rattle.pf_form.specs.declared.form.Head.TheVariants as heads
use Rattle.pf_form.specs.declared.form.RuleForm.{RuleForm}
use Rattle.pf_grammar.specs.Forms.{HasForm}
use Rattle.pf_host.specs.Facts.{HostFacts}
use Rattle.pf_parts.specs.CallText.{call_text}
use Rattle.pf_parts.specs.declared.block.BlockKind.TheVariants.{Drop}
use Rattle.pf_parts.specs.declared.call.Call.{Call}
use Rattle.pf_rule.specs.declared.effect.Action.{Action}
use Rattle.pf_rule.specs.declared.effect.Action.TheVariants as actions
use Rattle.pf_rule.specs.declared.rule.Rule.{Rule}
use Rattle.pf_token.specs.Cells.{cells_from}
use Rattle.pf_token.specs.Pieces.{Reads}
use Rattle.pf_token.specs.declared.token.Lexeme.TheVariants as lexemes
use Rattle.pf_token.specs.declared.token.Token.{Token}

-- the policies at the start of a file: a plain block drops, and states aren't bound to an interface
abbrev pub at_start : Defaults
at_start = record { block = Drop; bound = false }

-- an anchor form's name is the text of the rule's call
abbrev pub NamesCall : Action → Head → Type 0
NamesCall (actions.Anchor call) head = head ≡ heads.Anchor (Some (call_text call)) false
NamesCall actions.Pass head = Unit {0}
NamesCall actions.Match head = Unit {0}
NamesCall (actions.Block kind) head = Unit {0}

-- the call that the rule has, if it is an anchor rule
abbrev pub IsCallOf : Action → Call → Type 0
IsCallOf (actions.Anchor own) call = call ≡ own
IsCallOf actions.Pass call = Unit {0}
IsCallOf actions.Match call = Unit {0}
IsCallOf (actions.Block kind) call = Unit {0}

-- The text, at this place of a file and with these macros, has tokens that have a form without a late fault; and with any facts,
-- the policies at a file's start and the rule's call the form comes to this one rule.
pub record ReadsAsRule (values : List ℕ → Option (List ℕ)) (place : Place) (text : List ℕ) (rule : Rule) : Type 0 where
  pub tokens : List Token
  pub spelled : Reads values (cells_from place text) (map lexemes.Token tokens)
  pub form : RuleForm
  pub formed : HasForm tokens false form None
  pub named : NamesCall rule.effect.action form.head
  pub comes : (call : Call) (order : Order) (facts : HostFacts) (room : ℕ) → IsCallOf rule.effect.action call → 1 ≤ room
      → Expands form call order facts at_start room (Ok (rule ∷ []))
