-- The statements of a unit are one list.
use Rattle.std.proofs.Common.{◌≡◌, ℕ, List, [], ◌∷◌, Option, Some, None, Ok, Err, refl, ap, sym, ◌∙◌, subst}
use Rattle.pf_source.specs.Disk.{Disk}
use Rattle.pf_token.specs.Macros.{Table}
use Rattle.pf_token.specs.Pieces.{NextIsOne}
use Rattle.pf_lexer.specs.declared.deed.Statement.{Statement}
use Rattle.pf_lexer.specs.declared.fault.LexFault.{LexFault}
use Rattle.pf_lexer.specs.Calls.{IsTrueTo}
use Rattle.pf_lexer.specs.ReadSoFar.{ReadSoFar}
use Rattle.pf_lexer.specs.Stages.{Stage}
use Rattle.pf_lexer.specs.Units.{Begins, Handed, Leads, Opens, UnitOf, start_in}
use Rattle.pf_lexer.proofs.OneLead.{leads_one, opens_one}

module _ (disk : Disk) (law : (values : List ℕ → Option (List ℕ)) → NextIsOne values) where
  abbrev Same : List Statement → List Statement → Option LexFault → Option LexFault → ReadSoFar → ReadSoFar → Type 0
  Same xs ys f g r s = (xs ≡ ys) × (f ≡ g) × (r ≡ s)

  after_ended : {stage next : Stage} {reads later latest : ReadSoFar} {statements : List Statement} {fault : Option LexFault} → Handed disk stage reads statements fault latest → Leads disk stage reads (Ok None) next later → IsTrueTo disk fault → Same [] statements None fault later latest
  after_ended (Handed.ended two) one true = (refl, refl, (leads_one disk law one two tt tt).reads)
  after_ended (Handed.stopped two) one true = let e = (leads_one disk law one two tt true).answer in absurd cc
  after_ended (Handed.next two rest) one true = let e = (leads_one disk law one two tt tt).answer in absurd cc

  after_stopped : {stage next : Stage} {reads later latest : ReadSoFar} {statements : List Statement} {found : LexFault} {fault : Option LexFault} → Handed disk stage reads statements fault latest → Leads disk stage reads (Err found) next later
      → IsTrueTo disk (Some found) → IsTrueTo disk fault → Same [] statements (Some found) fault later latest
  after_stopped (Handed.ended two) one also true = let e = (leads_one disk law one two also tt).answer in absurd cc
  after_stopped {found = found} (Handed.stopped {fault = other} two) one also true =
      let same = leads_one disk law one two also true in
      let e = same.answer in
      let faults : found ≡ other = cc in
      (refl, ap Some faults, same.reads)
  after_stopped (Handed.next two rest) one also true = let e = (leads_one disk law one two also tt).answer in absurd cc

  after_next : {stage next : Stage} {reads later end latest : ReadSoFar} {statement : Statement} {statements others : List Statement} {fault other : Option LexFault} → Handed disk stage reads others other latest → Leads disk stage reads (Ok (Some statement)) next later
      → IsTrueTo disk other → ((them : List Statement) → Handed disk next later them other latest → Same statements them fault other end latest) → Same (statement ∷ statements) others fault other end latest
  after_next (Handed.ended two) one true rest = let e = (leads_one disk law one two tt tt).answer in absurd cc
  after_next (Handed.stopped two) one true rest = let e = (leads_one disk law one two tt true).answer in absurd cc
  after_next {next = next} {later = later} {latest = latest} {statement = statement} {other = other} (Handed.next {next = stage} {statement = found} {statements = them} two more) one true rest =
      let same = leads_one disk law one two tt tt in
      let e = same.answer in
      let firsts : statement ≡ found = cc in
      let others = rest them (subst (λ (s : Stage). Handed disk s later them other latest) (sym same.stage) (subst (λ (r : ReadSoFar). Handed disk stage r them other latest) (sym same.reads) more)) in
      ((λ i. firsts i ∷ others.0 i), others.1, others.2)

  pub handed_one : {stage : Stage} {reads later latest : ReadSoFar} {statements others : List Statement} {fault other : Option LexFault} → Handed disk stage reads statements fault later → Handed disk stage reads others other latest
      → IsTrueTo disk fault → IsTrueTo disk other → Same statements others fault other later latest
  handed_one (Handed.ended one) two true also = after_ended two one also
  handed_one (Handed.stopped one) two true also = after_stopped two one true also
  handed_one (Handed.next one rest) two true also = after_next two one also (λ them more. handed_one rest more true also)

  module _ (macros : Table) (name : List ℕ) where
    begins_one : {stage other : Stage} {reads later latest : ReadSoFar} → Begins disk macros name reads stage later → Begins disk macros name reads other latest → (stage ≡ other) × (later ≡ latest)
    begins_one one two =
        let same = opens_one disk one.opens two.opens tt tt in
        let e = same.result in
        let cells : one.cells ≡ two.cells = cc in
        (one.starts ∙ ap (start_in macros) cells ∙ sym two.starts, same.reads)

    after_begun : {stage : Stage} {reads later end latest : ReadSoFar} {statements others : List Statement} {fault other : Option LexFault} → UnitOf disk macros name reads others other latest → Begins disk macros name reads stage later → Handed disk stage later statements fault end
        → IsTrueTo disk fault → IsTrueTo disk other → Same statements others fault other end latest
    after_begun {stage = stage} {later = later} {latest = latest} {others = others} {other = other} (UnitOf.begun {later = behind} {stage = again} two rest) one handed true also =
        let same = begins_one one two in
        handed_one handed (subst (λ (s : Stage). Handed disk s later others other latest) (sym same.0) (subst (λ (r : ReadSoFar). Handed disk again r others other latest) (sym same.1) rest)) true also
    after_begun (UnitOf.unopened two) one handed true also = let e = (opens_one disk one.opens two tt also).result in absurd cc

    after_unopened : {reads later latest : ReadSoFar} {others : List Statement} {fault : LexFault} {other : Option LexFault} → UnitOf disk macros name reads others other latest → Opens disk name reads (Err fault) later → IsTrueTo disk (Some fault) → IsTrueTo disk other
        → Same [] others (Some fault) other later latest
    after_unopened (UnitOf.begun two rest) one true also = let e = (opens_one disk one two.opens true tt).result in absurd cc
    after_unopened {fault = fault} (UnitOf.unopened {fault = found} two) one true also =
        let same = opens_one disk one two true also in
        let e = same.result in
        let faults : fault ≡ found = cc in
        (refl, ap Some faults, same.reads)

    -- the statements of a unit are one list, with one end
    pub unit_one : {reads later latest : ReadSoFar} {statements others : List Statement} {fault other : Option LexFault} → UnitOf disk macros name reads statements fault later → UnitOf disk macros name reads others other latest
        → IsTrueTo disk fault → IsTrueTo disk other → Same statements others fault other later latest
    unit_one (UnitOf.begun one handed) two true also = after_begun two one handed true also
    unit_one (UnitOf.unopened one) two true also = after_unopened two one true also
