-- What a statement is read as, and what it is refused for.
use Rattle.std.proofs.Common.{◌≡◌, ℕ, Bool, true, false, List, [], Option, Some, None, refl, ap, sym, ◌∙◌}
use Rattle.std.specs.Prelude.{if◌then◌else◌}
use Rattle.pf_token.specs.declared.token.Token.{Token}
use Rattle.pf_syntax.specs.Fault.{fault_of_word, first_left_out, outside_fault}
use Rattle.pf_syntax.specs.Symbols.{Symbols, is_end, symbols}
use Rattle.pf_syntax.specs.declared.fault.FormFault.{FormFault}
use Rattle.pf_syntax.specs.declared.fault.FormFault.TheVariants.{Syntax, Unsupported, StateOptions as OptionsFault, AnchorEffect, BadFlags, NoMemory}
use Rattle.pf_form.specs.declared.form.Draft.{Draft}
use Rattle.pf_form.specs.declared.form.RuleForm.{RuleForm}
use Rattle.pf_grammar.specs.Forms.{HasForm, IsDraft, RefusesDraft, RefusesForm}
use Rattle.pf_grammar.specs.Late.{late_of, has_state_fault, has_anchor_effect}
use Rattle.pf_grammar.specs.Statements.{statement}

abbrev draft_in : Draft → Option (Draft × Symbols) → Draft
draft_in other None = other
draft_in other (Some (draft, rest)) = draft

abbrev ends_in : Option (Draft × Symbols) → Bool
ends_in None = false
ends_in (Some (draft, rest)) = is_end rest

-- what is read is the draft
pub draft_only : (tokens : List Token) (body : Bool) (draft other : Draft) (rest : Symbols)
    → (statement body).reads (symbols tokens) ≡ Some (draft, rest) → IsDraft tokens body other → draft ≡ other
draft_only tokens body draft other rest said is =
    ap (draft_in draft) (sym said ∙ (statement body).exact.found (symbols tokens) other [] is)

-- something is left
pub none_before_more : (tokens : List Token) (body : Bool) (read : Draft) (rest : Symbols)
    → (statement body).reads (symbols tokens) ≡ Some (read, rest) → is_end rest ≡ false → (draft : Draft) → IsDraft tokens body draft → ⊥
none_before_more tokens body read rest said more draft is =
    let e = sym said ∙ (statement body).exact.found (symbols tokens) draft [] is in
    let b : is_end rest ≡ true = ap ends_in e in
    let c : false ≡ true = sym more ∙ b in cc

abbrev is_early : FormFault → Bool
is_early Syntax = true
is_early (Unsupported _) = true
is_early OptionsFault = false
is_early AnchorEffect = false
is_early BadFlags = false
is_early NoMemory = false

outside_is_early : (word : Option (List ℕ)) → is_early (fault_of_word word) ≡ true
outside_is_early None = refl
outside_is_early (Some word) = refl

-- tokens without a draft are refused so
pub refused : (tokens : List Token) (body : Bool) (fault : FormFault) → fault ≡ outside_fault (symbols tokens)
    → ((draft : Draft) → IsDraft tokens body draft → ⊥) → RefusesDraft tokens body fault
refused tokens body Syntax is none = record { none = none; refused = is }
refused tokens body (Unsupported word) is none = record { none = none; refused = is }
refused tokens body OptionsFault is none =
    let b : false ≡ true = ap is_early is ∙ outside_is_early (first_left_out (symbols tokens)) in absurd (cc)
refused tokens body AnchorEffect is none =
    let b : false ≡ true = ap is_early is ∙ outside_is_early (first_left_out (symbols tokens)) in absurd (cc)
refused tokens body BadFlags is none =
    let b : false ≡ true = ap is_early is ∙ outside_is_early (first_left_out (symbols tokens)) in absurd (cc)
refused tokens body NoMemory is none = tt

abbrev is_late : Option FormFault → Bool
is_late None = true
is_late (Some Syntax) = false
is_late (Some (Unsupported _)) = false
is_late (Some OptionsFault) = true
is_late (Some AnchorEffect) = true
is_late (Some BadFlags) = true
is_late (Some NoMemory) = false

one_is_late : (first second third : Bool)
    → is_late (if first then Some BadFlags else if second then Some OptionsFault else if third then Some AnchorEffect else None) ≡ true
one_is_late true second third = refl
one_is_late false true third = refl
one_is_late false false true = refl
one_is_late false false false = refl

late_is_late : (draft : Draft) → is_late (late_of draft) ≡ true
unfolding late_of
late_is_late draft = one_is_late draft.unknown_flag (has_state_fault draft) (has_anchor_effect draft.form)

-- a late fault refuses the form
pub late_refused : (tokens : List Token) (body : Bool) (fault : FormFault) (form : RuleForm) → HasForm tokens body form (Some fault) → RefusesForm tokens body fault
late_refused tokens body Syntax form read =
    let b : false ≡ true = ap is_late read.fault ∙ late_is_late read.draft in absurd (cc)
late_refused tokens body (Unsupported word) form read =
    let b : false ≡ true = ap is_late read.fault ∙ late_is_late read.draft in absurd (cc)
late_refused tokens body OptionsFault form read = record { form = form; read = read }
late_refused tokens body AnchorEffect form read = record { form = form; read = read }
late_refused tokens body BadFlags form read = record { form = form; read = read }
late_refused tokens body NoMemory form read = tt

-- tokens are one draft
pub one_draft : (tokens : List Token) (body : Bool) (draft other : Draft) → IsDraft tokens body draft → IsDraft tokens body other → draft ≡ other
one_draft tokens body draft other is same =
    draft_only tokens body draft other [] ((statement body).exact.found (symbols tokens) draft [] is) same

-- and have one form, with one late fault
pub one_form : (tokens : List Token) (body : Bool) (form other : RuleForm) (late last : Option FormFault)
    → HasForm tokens body form late → HasForm tokens body other last → (form ≡ other) × (late ≡ last)
one_form tokens body form other late last one two =
    let same = one_draft tokens body one.draft two.draft one.derived two.derived in
    (one.says ∙ ap (λ draft. draft.form) same ∙ sym two.says, one.fault ∙ ap late_of same ∙ sym two.fault)
