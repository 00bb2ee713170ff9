-- Over the disk without one file.
use Rattle.std.proofs.Common.{◌≡◌, ℕ, Bool, true, false, List, [], ◌∷◌, Some, None, Result, Ok, Err, refl, ap, ◌∙◌, subst, inl, inr, ⊎_elim}
use Rattle.std.specs.Prelude.{◌⊎◌, nat_eq, if◌then◌else◌}
use Rattle.std.specs.Cmp.Lexicographic.{pointwise}
use Rattle.std.proofs.lemmas.Bool.{and_parts, eqb-true}
use Rattle.pf_source.specs.Disk.{Disk, without}
use Rattle.pf_token.specs.declared.cell.Cell.{Cell}
use Rattle.pf_lexer.specs.declared.fault.LexFault.{LexFault}
use Rattle.pf_lexer.specs.declared.fault.LexFault.TheVariants as faults
use Rattle.pf_lexer.specs.Outages.{LeadsWithout, OpensWithout, StopsAt}
use Rattle.pf_lexer.specs.ReadSoFar.{ReadSoFar}
use Rattle.pf_lexer.specs.Reads.{look_of, look_up}
use Rattle.pf_lexer.specs.Stages.{Standing, Stage, going, failed}
use Rattle.pf_lexer.specs.Units.{Answer, Answers, GoesTo, Leads, Opens, opened, large, unread, Passes}

same_bytes : (a b : List ℕ) → pointwise nat_eq a b ≡ true → a ≡ b
same_bytes [] [] e = refl
same_bytes [] (y ∷ b) e = absurd cc
same_bytes (x ∷ a) [] e = absurd cc
same_bytes (x ∷ a) (y ∷ b) e =
    let parts = and_parts (nat_eq x y) (pointwise nat_eq a b) e in
    (λ i. eqb-true x y parts.0 i ∷ same_bytes a b parts.1 i)

module _ (disk : Disk) (gone : List ℕ) where
  -- a reading of another file
  other_look : (name : List ℕ) (reads : ReadSoFar) → pointwise nat_eq name gone ≡ false → look_up (without (Some gone) disk) reads name ≡ look_up disk reads name
  other_look name reads other = ap (look_of reads name) (ap (λ (b : Bool). if b then None else disk name) other)

  kept : {name : List ℕ} {reads later : ReadSoFar} {answer : Result (List Cell) LexFault} → Opens disk name reads answer later → pointwise nat_eq name gone ≡ false → Opens (without (Some gone) disk) name reads answer later
  kept {name = name} {reads = reads} (opened look) other = opened (other_look name reads other ∙ look)
  kept {name = name} {reads = reads} (large look) other = large (other_look name reads other ∙ look)
  kept unread other = unread

  pub opens_without : (name : List ℕ) (reads later : ReadSoFar) (answer : Result (List Cell) LexFault) → Opens disk name reads answer later → OpensWithout disk gone name reads answer later
  opens_without name reads later answer opens = by_name (pointwise nat_eq name gone) refl where
    by_name : (b : Bool) → pointwise nat_eq name gone ≡ b → OpensWithout disk gone name reads answer later
    by_name true e = inr (same_bytes name gone e, unread)
    by_name false e = inl (kept opens e)

  -- that file can't be read at this statement
  abbrev Stops : Standing → ReadSoFar → Type 0
  Stops unit reads = StopsAt disk gone (going unit) reads

  stops_at : {unit : Standing} {reads later : ReadSoFar} {name : List ℕ} → name ≡ gone → Answers (without (Some gone) disk) unit reads (Err (faults.CannotRead name)) (failed (faults.CannotRead name)) later → Stops unit reads
  stops_at {unit = unit} {reads = reads} {later = later} is answers = record {
    at = later;
    leads = subst (λ (n : List ℕ). Leads (without (Some gone) disk) (going unit) reads (Err (faults.CannotRead n)) (failed (faults.CannotRead n)) later) is (Leads.comes GoesTo.here answers);
  }

  passes_without : {unit next : Standing} {reads later : ReadSoFar} → Passes disk unit reads next later → Passes (without (Some gone) disk) unit reads next later ⊎ Stops unit reads
  passes_without (Passes.passed one) = inl (Passes.passed one)
  passes_without (Passes.included {cells = cells} {name = name} {reads = reads} {later = later} one opens) =
      ⊎_elim (λ same. inl (Passes.included one same)) (λ none. inr (stops_at none.0 (Answers.unopened one none.1))) (opens_without name reads later (Ok cells) opens)
  passes_without (Passes.file_ends one below) = inl (Passes.file_ends one below)

  answers_without : {unit : Standing} {stage : Stage} {reads later : ReadSoFar} {answer : Answer} → Answers disk unit reads answer stage later → Answers (without (Some gone) disk) unit reads answer stage later ⊎ Stops unit reads
  answers_without (Answers.hands one) = inl (Answers.hands one)
  answers_without (Answers.over one below) = inl (Answers.over one below)
  answers_without (Answers.fails one) = inl (Answers.fails one)
  answers_without (Answers.unopened {name = name} {reads = reads} {later = later} {fault = fault} one opens) =
      ⊎_elim (λ same. inl (Answers.unopened one same)) (λ none. inr (stops_at none.0 (Answers.unopened one none.1))) (opens_without name reads later (Err fault) opens)

  -- a step before it
  leads_later : {unit next : Standing} {reads later latest : ReadSoFar} {answer : Answer} {stage : Stage} → Passes (without (Some gone) disk) unit reads next later → Leads (without (Some gone) disk) (going next) later answer stage latest → Leads (without (Some gone) disk) (going unit) reads answer stage latest
  leads_later step (Leads.comes goes answers) = Leads.comes (GoesTo.further step goes) answers

  stops_later : {unit next : Standing} {reads later : ReadSoFar} → Passes (without (Some gone) disk) unit reads next later → Stops next later → Stops unit reads
  stops_later step stops = record { at = stops.at; leads = leads_later step stops.leads }

  goes_without : {unit last : Standing} {stage : Stage} {reads middle later : ReadSoFar} {answer : Answer} → GoesTo disk unit reads last middle → Answers disk last middle answer stage later → LeadsWithout disk gone (going unit) reads answer stage later
  goes_without GoesTo.here answers = ⊎_elim (λ same. inl (Leads.comes GoesTo.here same)) (λ stops. inr stops) (answers_without answers)
  goes_without (GoesTo.further step goes) answers =
      ⊎_elim (λ same. ⊎_elim (λ leads. inl (leads_later same leads)) (λ stops. inr (stops_later same stops)) (goes_without goes answers)) (λ stops. inr stops) (passes_without step)

  pub leads_without : (stage next : Stage) (reads later : ReadSoFar) (answer : Answer) → Leads disk stage reads answer next later → LeadsWithout disk gone stage reads answer next later
  leads_without stage next reads later answer (Leads.comes goes answers) = goes_without goes answers
  leads_without stage next reads later answer Leads.again = inl Leads.again
