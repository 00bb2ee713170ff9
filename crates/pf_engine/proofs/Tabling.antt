-- Words that are read one after another.
use Rattle.std.proofs.Common.{◌≡◌, ℕ, List, [], ◌∷◌, ◌++◌, Result, Ok, Err, refl, sym, ap, subst, ◌∙◌, append_assoc}
use Rattle.pf_state.specs.Words.{ReadsAll, nothing, one, behind, none}

module _ {A : Type 0} (IsText : List ℕ → A → Type 0) where
  -- from these words on: how what is left is read is how all are read, behind the items so far
  pub record GoesOn (words left : List (List ℕ)) (items : List A) : Type 0 where
    pub all : (more : List A) → ReadsAll IsText left (Ok more) → ReadsAll IsText words (Ok (items ++ more))
    pub not : (word : List ℕ) → ReadsAll IsText left (Err word) → ReadsAll IsText words (Err word)

  pub begins : (words : List (List ℕ)) → GoesOn words words []
  begins words = record { all = λ more h. h; not = λ word h. h }

  pub one_more : (words left rest : List (List ℕ)) (items next : List A) (word : List ℕ) (item : A) → left ≡ word ∷ rest → next ≡ items ++ item ∷ [] → IsText word item → GoesOn words left items → GoesOn words rest next
  one_more words left rest items next word item l n h on = record {
    all = λ more r. subst (λ (xs : List A). ReadsAll IsText words (Ok xs)) (sym (ap (λ (xs : List A). xs ++ more) n ∙ append_assoc items (item ∷ []) more))
        (on.all (item ∷ more) (subst (λ (ws : List (List ℕ)). ReadsAll IsText ws (Ok (item ∷ more))) (sym l) (one h r)));
    not = λ other r. on.not other (subst (λ (ws : List (List ℕ)). ReadsAll IsText ws (Err other)) (sym l) (behind h r));
  }

  pub all_read : (words left : List (List ℕ)) (items : List A) → left ≡ [] → GoesOn words left items → ReadsAll IsText words (Ok items)
  all_read words left items l on =
      subst (λ (xs : List A). ReadsAll IsText words (Ok xs)) (nil_more items)
      (on.all [] (subst (λ (ws : List (List ℕ)). ReadsAll IsText ws (Ok [])) (sym l) nothing))
    where
      nil_more : (xs : List A) → xs ++ [] ≡ xs
      nil_more [] = refl
      nil_more (x ∷ xs) = ap (λ (rest : List A). x ∷ rest) (nil_more xs)

  pub not_read : (words left rest : List (List ℕ)) (items : List A) (word : List ℕ) → left ≡ word ∷ rest → ((item : A) → IsText word item → ⊥) → GoesOn words left items → ReadsAll IsText words (Err word)
  not_read words left rest items word l h on = on.not word (subst (λ (ws : List (List ℕ)). ReadsAll IsText ws (Err word)) (sym l) (none h))
