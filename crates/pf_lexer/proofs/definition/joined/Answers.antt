-- The first text, and the others behind spaces.
use Rattle.std.proofs.Common.{ℕ, ◌++◌, Vec, Global, sym, ap, ◌∙◌}
use Rattle.std.proofs.lemmas.List.{nil_from_length}
use Rattle.pf_lexer.specs.Taking.{spaced}
use Rattle.pf_lexer.specs.Faults.{joined}
use Rattle.pf_lexer.proofs.ValueTexts.{joined_spaced}
use Rattle.pf_lexer.proofs.definition.joined.Goals as goal
use Rattle.pf_lexer.proofs.definition.joined.Goals.{in-Some+in_ok-extend_from_slice+in_ok-add_texts, in_default}

pub returns : goal.returns
returns c = elim c.match-split_first.branch [
  | in-Some+in_ok-extend_from_slice+in_ok-add_texts w ↦
      ap (λ (v : Vec ℕ Global). v.items) w.value-is ∙ w.in_ok-add_texts.ensures
      ∙ ap (λ t. t ++ spaced w.in-Some.rest.now) (w.in_ok-extend_from_slice.ensures.items ∙ (λ i. c.new-value.ensures.items i ++ w.text.ensures i))
      ∙ joined_spaced w.in-Some.first.now w.in-Some.rest.now
      ∙ ap joined (sym w.in-Some.ensures.cases.0)
  | in_default w ↦
      ap (λ (v : Vec ℕ Global). v.items) w.value-is ∙ c.new-value.ensures.items
      ∙ ap joined (sym (nil_from_length c.args.values.now w.in_default.ensures.cases))
]
