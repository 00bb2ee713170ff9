-- Lines of a text: what they say, and their faults.
use Rattle.std.proofs.Common.{◌≡◌, ℕ, true, false, ◌⊎◌, inl, inr, List, [], ◌∷◌, ◌++◌, Option, Some, None, Result, Ok, Err, refl, ap, ◌∙◌, subst, arith}
use Rattle.std.specs.List.{filter_map}
use Rattle.std.proofs.lemmas.List.{append-nil}
use Rattle.std.proofs.lemmas.List.Elements.{filter_map-append}
use Rattle.pf_base.specs.Text.{fields_of}
use Rattle.pf_host.specs.Facts.{HostFacts}
use Rattle.pf_host.specs.declared.fault.FactsCause.{FactsCause}
use Rattle.pf_host.specs.declared.fault.FactsCause.TheVariants.{BadLine, Unknown, Twice, BadAddress, BadNumber, Full}
use Rattle.pf_host.specs.declared.fault.LineFault.{LineFault}
use Rattle.pf_host.specs.declared.fault.LineFault.TheVariants.{Cause, NoMemory}
use Rattle.pf_host.specs.Line.{Line, is_passed_over, line_of, line_said, lines_said}
use Rattle.pf_host.specs.Meaning.{AreSaid, HasCause, HasFault, IsFirst, IsSound, StandsAt}
use Rattle.pf_host.specs.Reading.{Takes, TakesOr, TakesText, TakesTextOr}

pub nothing_said : lines_said [] ≡ []
unfolding lines_said
nothing_said = refl

pub says_nothing : (text : List ℕ) → is_passed_over text ≡ true → line_said text ≡ None
unfolding line_said
says_nothing text e = rw e refl

pub says_line : (text : List ℕ) (line : Option Line) → is_passed_over text ≡ false → line_of (fields_of text) ≡ line → line_said text ≡ line
unfolding line_said
says_line text line e is = rw e is

said_nothing : (before : List (List ℕ)) (text : List ℕ) → line_said text ≡ None → lines_said (before ++ text ∷ []) ≡ lines_said before
unfolding lines_said
said_nothing before text e = filter_map-append line_said before (text ∷ []) ∙ rw e (append-nil (filter_map line_said before))

said_line : (before : List (List ℕ)) (text : List ℕ) (line : Line) → line_said text ≡ Some line → lines_said (before ++ text ∷ []) ≡ lines_said before ++ line ∷ []
unfolding lines_said
said_line before text line e = filter_map-append line_said before (text ∷ []) ∙ rw e refl

-- a line that is passed over has no fault and adds nothing
pub passed : (before : List (List ℕ)) (text : List ℕ) (facts : HostFacts) → is_passed_over text ≡ true → AreSaid (lines_said before) facts → TakesText before text facts
passed before text facts e said =
    let nothing = says_nothing text e in
    record {
      sound = λ cause. elim cause as (λ o. HasFault before text o → ⊥) [
        | BadLine ↦ λ h. let other = h.said in cc
        | Unknown ↦ λ h. rw nothing at h
        | Twice ↦ λ h. rw nothing at h
        | BadAddress ↦ λ h. rw nothing at h
        | BadNumber ↦ λ h. rw nothing at h
        | Full ↦ λ h. rw nothing at h
      ];
      said = rw (said_nothing before text nothing) said;
    }

-- a fault of a text with the form of a line is one of the line
of_line : (before : List (List ℕ)) (text : List ℕ) (line : Line) → is_passed_over text ≡ false → line_of (fields_of text) ≡ Some line → (cause : FactsCause) → HasFault before text cause → HasCause (lines_said before) line cause
of_line before text line e is cause =
    let says = says_line text (Some line) e is in
    elim cause as (λ o. HasFault before text o → HasCause (lines_said before) line o) [
      | BadLine ↦ λ h. let other = h.formless in cc
      | Unknown ↦ λ h. rw says at h
      | Twice ↦ λ h. rw says at h
      | BadAddress ↦ λ h. rw says at h
      | BadNumber ↦ λ h. rw says at h
      | Full ↦ λ h. rw says at h
    ]

-- and the other way round
of_text : (before : List (List ℕ)) (text : List ℕ) (line : Line) → is_passed_over text ≡ false → line_of (fields_of text) ≡ Some line → (cause : FactsCause) → HasCause (lines_said before) line cause → HasFault before text cause
of_text before text line e is cause =
    let says = says_line text (Some line) e is in
    elim cause as (λ o. HasCause (lines_said before) line o → HasFault before text o) [
      | BadLine ↦ λ h. absurd h
      | Unknown ↦ λ h. rw says h
      | Twice ↦ λ h. rw says h
      | BadAddress ↦ λ h. rw says h
      | BadNumber ↦ λ h. rw says h
      | Full ↦ λ h. rw says h
    ]

-- a line without a fault is taken
pub taken : (before : List (List ℕ)) (text : List ℕ) (line : Line) (facts : HostFacts) → is_passed_over text ≡ false → line_of (fields_of text) ≡ Some line → Takes (lines_said before) line facts → TakesText before text facts
taken before text line facts e is takes = record {
  sound = λ cause h. takes.sound cause (of_line before text line e is cause h);
  said = rw (said_line before text line (says_line text (Some line) e is)) takes.said;
}

-- a line with a first cause
pub refused : (before : List (List ℕ)) (text : List ℕ) (line : Line) (cause : FactsCause) → is_passed_over text ≡ false → line_of (fields_of text) ≡ Some line → IsFirst (HasCause (lines_said before) line) cause → IsFirst (HasFault before text) cause
refused before text line cause e is first = record {
  has = of_text before text line e is cause first.has;
  first = λ other low h. first.first other low (of_line before text line e is other h);
}

-- a line without the form of one
pub formless : (before : List (List ℕ)) (text : List ℕ) → is_passed_over text ≡ false → line_of (fields_of text) ≡ None → IsFirst (HasFault before text) BadLine
formless before text e is = record {
  has = record { said = e; formless = is };
  first = λ other low h. absurd (omega (arith, low));
}

-- a line of a list that ends in another stands before it or is it
stands_before_end : (lines : List (List ℕ)) (last : List ℕ) (before : List (List ℕ)) (line : List ℕ) (behind : List (List ℕ)) → lines ++ last ∷ [] ≡ before ++ line ∷ behind → StandsAt lines before line ⊎ ((before ≡ lines) × (line ≡ last))
stands_before_end [] last [] line behind e = inr (refl, cc)
stands_before_end [] last (b ∷ []) line behind e = absurd cc
stands_before_end [] last (b ∷ c ∷ before) line behind e = absurd cc
stands_before_end (l ∷ lines) last [] line behind e = let same : l ≡ line = cc in inl (record { behind = lines; joined = ap (λ x. x ∷ lines) same })
stands_before_end (l ∷ lines) last (b ∷ before) line behind e =
    let same : l ≡ b = cc in
    let rest : lines ++ last ∷ [] ≡ before ++ line ∷ behind = cc in
    elim (stands_before_end lines last before line behind rest) as (λ _. StandsAt (l ∷ lines) (b ∷ before) line ⊎ ((b ∷ before ≡ l ∷ lines) × (line ≡ last))) [
      | inl st ↦ inl (record { behind = st.behind; joined = let j = st.joined in cc })
      | inr eq ↦ inr (let j = eq.0 in cc, eq.1)
    ]

-- one line more without a fault
pub sound_more : (lines : List (List ℕ)) (last : List ℕ) → IsSound lines → ((cause : FactsCause) → HasFault lines last cause → ⊥) → IsSound (lines ++ last ∷ [])
sound_more lines last sound none before line stands cause h =
    elim (stands_before_end lines last before line stands.behind stands.joined) [
      | inl st ↦ sound before line st cause h
      | inr eq ↦ none cause (subst (λ (b : List (List ℕ)). HasFault b last cause) eq.0 (subst (λ (l : List ℕ). HasFault before l cause) eq.1 h))
    ]

pub sound_none : IsSound []
sound_none [] line stands cause h = let e = stands.joined in absurd cc
sound_none (b ∷ before) line stands cause h = let e = stands.joined in absurd cc

-- a line that was read and added, or refused
pub takes_text : (result : Result Unit LineFault) (text : List ℕ) (line : Line) (old new : HostFacts) → is_passed_over text ≡ false → line_of (fields_of text) ≡ Some line → TakesOr result line old new → TakesTextOr result text old new
takes_text (Ok x) text line old new e is h = λ before said. taken before text line new e is (h (lines_said before) said)
takes_text (Err (Cause cause)) text line old new e is h = λ before said. refused before text line cause e is (h (lines_said before) said)
takes_text (Err NoMemory) text line old new e is h = tt
