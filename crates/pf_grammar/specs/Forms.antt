-- What the tokens of a statement are read as.
use Rattle.std.specs.Prelude.{◌≡◌, Bool, List, [], Option, Some}
use Rattle.pf_token.specs.declared.token.Token.{Token}
use Rattle.pf_syntax.specs.Fault.{outside_fault}
use Rattle.pf_syntax.specs.Symbols.{symbols}
use Rattle.pf_syntax.specs.declared.fault.FormFault.{FormFault}
use Rattle.pf_syntax.specs.declared.fault.FormFault.TheVariants.{Syntax, Unsupported, StateOptions as OptionsFault, AnchorEffect, BadFlags, NoMemory}
use Rattle.pf_form.specs.declared.form.Draft.{Draft}
use Rattle.pf_form.specs.declared.form.RuleForm.{RuleForm}
use Rattle.pf_grammar.specs.Late.{late_of}
use Rattle.pf_grammar.specs.Statements.{statement}

-- the tokens are a statement, all of them, and this is what it says
abbrev pub IsDraft : List Token → Bool → Draft → Type 0
IsDraft tokens body draft = (statement body).derives (symbols tokens) draft []

-- the tokens have this form, and this is the first of its late faults
pub record HasForm (tokens : List Token) (body : Bool) (form : RuleForm) (late : Option FormFault) : Type 0 where
  pub draft : Draft
  pub derived : IsDraft tokens body draft
  pub says : form ≡ draft.form
  pub fault : late ≡ late_of draft

-- no form: the tokens are outside the grammar, and this says as what
pub record IsOutside (tokens : List Token) (body : Bool) (fault : FormFault) : Type 0 where
  pub none : (draft : Draft) → IsDraft tokens body draft → ⊥
  pub refused : fault ≡ outside_fault (symbols tokens)

-- a form that is refused for this late fault
pub record IsLate (tokens : List Token) (body : Bool) (fault : FormFault) : Type 0 where
  pub form : RuleForm
  pub read : HasForm tokens body form (Some fault)

-- what a draft is refused for: `Syntax` and `Unsupported` where there is none
abbrev pub RefusesDraft : List Token → Bool → FormFault → Type 0
RefusesDraft tokens body Syntax = IsOutside tokens body Syntax
RefusesDraft tokens body (Unsupported word) = IsOutside tokens body (Unsupported word)
RefusesDraft tokens body OptionsFault = ⊥
RefusesDraft tokens body AnchorEffect = ⊥
RefusesDraft tokens body BadFlags = ⊥
RefusesDraft tokens body NoMemory = Unit {0}

-- what a form is refused for: a late fault too
abbrev pub RefusesForm : List Token → Bool → FormFault → Type 0
RefusesForm tokens body Syntax = IsOutside tokens body Syntax
RefusesForm tokens body (Unsupported word) = IsOutside tokens body (Unsupported word)
RefusesForm tokens body OptionsFault = IsLate tokens body OptionsFault
RefusesForm tokens body AnchorEffect = IsLate tokens body AnchorEffect
RefusesForm tokens body BadFlags = IsLate tokens body BadFlags
RefusesForm tokens body NoMemory = Unit {0}
