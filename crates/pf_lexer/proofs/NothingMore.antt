-- At the end of a unit's first file no statement is handed out.
use Rattle.std.proofs.Common.{◌≡◌, ℕ, true, false, List, [], Option, Some, None, Ok, refl, ap, sym, ◌∙◌, subst}
use Rattle.pf_source.specs.Disk.{Disk}
use Rattle.pf_token.specs.declared.cell.Cell.{Cell}
use Rattle.pf_token.specs.declared.token.Lexeme.{Lexeme}
use Rattle.pf_token.specs.Macros.{Table}
use Rattle.pf_token.specs.Pieces.{Next, NextIsOne, NoMore}
use Rattle.pf_lexer.specs.declared.deed.Deed.{Deed}
use Rattle.pf_lexer.specs.declared.deed.Deed.TheVariants as deeds
use Rattle.pf_lexer.specs.declared.deed.Statement.{Statement}
use Rattle.pf_lexer.specs.declared.statement.Close.{Close}
use Rattle.pf_lexer.specs.declared.statement.Close.TheVariants.{End, Line}
use Rattle.pf_lexer.specs.Deeds.{Does}
use Rattle.pf_lexer.specs.Faults.{definition_of, include_of, is_nothing}
use Rattle.pf_lexer.specs.ReadSoFar.{ReadSoFar}
use Rattle.pf_lexer.specs.Stages.{Standing, Stage}
use Rattle.pf_lexer.specs.Statements.{Ends, at_end, at_newline, skipped, at_body, too_long, taken}
use Rattle.pf_lexer.specs.Units.{Answer, Answers, GoesTo, Leads, Passes, further, here, start_in}

module _ (law : (values : List ℕ → Option (List ℕ)) → NextIsOne values) where
  no_next : (values : List ℕ → Option (List ℕ)) {cells after : List Cell} {lexeme : Lexeme} → Next values cells lexeme after → cells ≡ [] → ⊥
  no_next values next is = (law values).none (subst (λ (c : List Cell). NoMore values c) (sym is) NoMore.ended) next

  record EndsHere (before lexemes : List Lexeme) (close : Close) : Type 0 where
    lexemes_are : lexemes ≡ before
    close_is : close ≡ End

  -- only the end of the file ends a statement there
  ends_here : {values : List ℕ → Option (List ℕ)} {before lexemes : List Lexeme} {cells after : List Cell} {close : Close} → Ends values before cells lexemes close after → cells ≡ [] → EndsHere before lexemes close
  ends_here (at_end none) is = record { lexemes_are = refl; close_is = refl }
  ends_here {values = values} (at_newline next newline depth) is = absurd (no_next values next is)
  ends_here {values = values} (skipped next newline depth ends) is = absurd (no_next values next is)
  ends_here {values = values} (at_body anchor next sign follows newline) is = absurd (no_next values next is)
  ends_here {values = values} (too_long token many) is = absurd (no_next values token.comes is)
  ends_here {values = values} (taken token few ends) is = absurd (no_next values token.comes is)

  -- it does nothing but end the file
  abbrev IsEnd : Deed → Type 0
  IsEnd deeds.Nothing = ⊥
  IsEnd (deeds.Hands statement) = ⊥
  IsEnd (deeds.Includes name) = ⊥
  IsEnd deeds.Ends = Unit {0}
  IsEnd (deeds.Fails fault) = Unit {0}

  does_end : {includes : ℕ} {macros changed : Table} {cells after : List Cell} {deed : Deed} → Does includes macros cells deed changed after → cells ≡ [] → IsEnd deed
  does_end (Does.nothing one) is = let e : Line ≡ End = (ends_here one is).close_is in cc
  does_end (Does.defines {parts = parts} one none defines) is =
      let e : None ≡ Some parts = ap definition_of (sym (ends_here one is).lexemes_are) ∙ defines in cc
  does_end (Does.names {parts = parts} one none names) is =
      let e : None ≡ Some parts = ap include_of (sym (ends_here one is).lexemes_are) ∙ names in cc
  does_end (Does.hands one none other unnamed some) is =
      let e : true ≡ false = ap is_nothing (sym (ends_here one is).lexemes_are) ∙ some in cc
  does_end (Does.ends one) is = tt
  does_end (Does.fails one fault) is = tt

  module _ (disk : Disk) where
    none_passes : {unit next : Standing} {reads later : ReadSoFar} → Passes disk unit reads next later → unit.top ≡ [] → unit.below ≡ [] → ⊥
    none_passes (Passes.passed does) top below = does_end does top
    none_passes (Passes.included does opens) top below = does_end does top
    none_passes (Passes.file_ends does is) top below = cc

    none_answers : {unit : Standing} {stage : Stage} {reads later : ReadSoFar} {answer : Answer} → Answers disk unit reads answer stage later → unit.top ≡ [] → (statement : Statement) → answer ≡ Ok (Some statement) → ⊥
    none_answers (Answers.hands does) top statement said = does_end does top
    none_answers (Answers.over does is) top statement said = cc
    none_answers (Answers.fails does) top statement said = cc
    none_answers (Answers.unopened does opens) top statement said = cc

    stays : {unit next : Standing} {reads later : ReadSoFar} → GoesTo disk unit reads next later → unit.top ≡ [] → unit.below ≡ [] → next.top ≡ []
    stays here top below = top
    stays (further one rest) top below = absurd (none_passes one top below)

    none_leads : {stage next : Stage} {reads later : ReadSoFar} {answer : Answer} → Leads disk stage reads answer next later
        → (values : Table) → stage ≡ start_in values [] → (statement : Statement) → answer ≡ Ok (Some statement) → ⊥
    none_leads (Leads.comes {unit = unit} goes answers) values is statement said =
        let same : unit ≡ record { macros = values; top = []; below = [] } = cc in
        none_answers answers (stays goes (ap (λ (u : Standing). u.top) same) (ap (λ (u : Standing). u.below) same)) statement said
    none_leads Leads.again values is statement said = cc

    -- an empty file hands no statement out
    pub nothing_said : (values : Table) (reads later : ReadSoFar) (next : Stage) (statement : Statement) → Leads disk (start_in values []) reads (Ok (Some statement)) next later → ⊥
    nothing_said values reads later next statement leads = none_leads leads values refl statement refl
