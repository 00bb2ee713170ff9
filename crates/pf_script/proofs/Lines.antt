-- A line says a command exactly where it spells it.
use Rattle.std.proofs.Common.{◌≡◌, ℕ, Bool, true, false, cond, List, ◌∷◌, codes, Option, Some, None, refl, sym, ap, ◌∙◌, subst, inl, inr}
use Rattle.std.specs.Prelude.{◌↔◌}
use Rattle.std.specs.List.{list_all}
use Rattle.pf_base.specs.Text.{words_of}
use Rattle.pf_script.specs.Command.{Words, behind_first_word, command_of, command_said}
use Rattle.pf_script.specs.Grammar.{IsLine, Says, by_record, by_words}
use Rattle.pf_script.specs.Word.{is_plain}
use Rattle.pf_script.specs.declared.command.Command.{Command}
use Rattle.pf_script.specs.declared.command.Command.TheVariants as command
use Rattle.pf_script.proofs.Records.{Splits, record_said, test_back}
use Rattle.pf_script.proofs.Spoken.{SpellsOrTests, command_back, spelled_is_said, test_is_said}

where_so : {A : Type 0} (b : Bool) (o : Option A) (a : A) → cond b o None ≡ Some a → (b ≡ true) × (o ≡ Some a)
where_so true o a h = (refl, h)
where_so false o a h = cc

module _ (splits : Splits) where
  says_by : (line : List ℕ) (said : Command) → SpellsOrTests said (words_of line) (behind_first_word line) → Says line said
  says_by line said (inl spelled) = by_words said spelled
  says_by line said (inr test) =
      let m = test_back splits line test.0 said test.1 test.2 in
      subst (λ (c : Command). Says line c) m.2 (by_record m.0 m.1)

  back : (line : List ℕ) (said : Command) → command_of line ≡ Some said → IsLine line said
  unfolding command_of
  back line said h =
      let m = where_so (list_all is_plain line) (command_said (words_of line) (behind_first_word line)) said h in
      record { plain = m.0; says = says_by line said (command_back (words_of line) (behind_first_word line) said m.1) }

  says_it : (line : List ℕ) (said : Command) → Says line said → command_said (words_of line) (behind_first_word line) ≡ Some said
  says_it line said (by_words c spelled) = spelled_is_said c (words_of line) (behind_first_word line) spelled
  says_it line said (by_record text test) =
      let m = record_said splits line text test in
      let whole : command_said (words_of line) (behind_first_word line) ≡ command_said (codes "test" ∷ m.0) (test.first ∷ test.others) =
      ap (λ (ws : Words). command_said ws (behind_first_word line)) m.1 ∙ ap (command_said (codes "test" ∷ m.0)) (m.2 ∙ test.begins) in
      whole ∙ (test_is_said m.0 test.first test.others ∙ ap (λ (t : List ℕ). Some (command.Test t)) (sym test.begins))

  said_so : (line : List ℕ) (said : Command) → IsLine line said → command_of line ≡ Some said
  unfolding command_of
  said_so line said h = rw h.plain (says_it line said h.says)

  pub exactly : (line : List ℕ) (said : Command) → (command_of line ≡ Some said) ↔ IsLine line said
  exactly line said = (back line said, said_so line said)

  pub says_none : (line : List ℕ) (said : Command) → command_of line ≡ None → IsLine line said → ⊥
  says_none line said none h = let e = said_so line said h in cc

  pub one_command : (line : List ℕ) (a b : Command) → IsLine line a → IsLine line b → a ≡ b
  one_command line a b h k = let e = said_so line a h in let f = said_so line b k in cc
