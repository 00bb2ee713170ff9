-- What holds of each word of a list holds of one of them.
use Rattle.std.proofs.Common.{◌≡◌, ℕ, Bool, true, false, List, [], ◌∷◌, length, Option, Some, None, ap, ◌∙◌, inl, inr}
use Rattle.std.specs.Prelude.{◌↔◌, IsSome, IfSome}
use Rattle.std.specs.List.{list_all}
use Rattle.std.specs.Str.{bytes_eq}
use Rattle.std.proofs.lemmas.Bool.{and_parts, cases_Bool, leb-true}
use Rattle.std.proofs.lemmas.Slice.Eq.{bytes_eq-Decides}
use Rattle.pf_base.specs.Name.{IsNameText}
use Rattle.pf_syntax.specs.Fault.{is_one_of}
use Rattle.pf_syntax.specs.Words.{is_name}
use Rattle.pf_decl.specs.Settings.{listed}

pub same_text : (word other : List ℕ) → bytes_eq word other ≡ true → word ≡ other
same_text word other same = (bytes_eq-Decides word other).0 same

pub one_of_passes : (test : List ℕ → Bool) (words : List (List ℕ)) (word : List ℕ) → list_all test words ≡ true → is_one_of words word ≡ true → test word ≡ true
one_of_passes test [] word each is = absurd (cc)
one_of_passes test (first ∷ rest) word each is =
    let p = and_parts _ _ each in
    elim (cases_Bool (bytes_eq word first)) [
      | inl same ↦ ap test (same_text word first same) ∙ p.0
      | inr other ↦ one_of_passes test rest word p.1 (rw other at is)
    ]

name_fits : (word : List ℕ) → is_name word ≡ true → IsNameText word
name_fits word is =
    let p = and_parts _ _ is in
    let q = and_parts _ _ p.0 in
    record { some = leb-true 1 (length word) q.0; few = leb-true (length word) 63 q.1 }

-- a name that was made of such a word
pub found_name : (words : List (List ℕ)) (word : List ℕ) (found : Option (List ℕ)) → list_all is_name words ≡ true → is_one_of words word ≡ true
    → IsSome found ↔ IsNameText word → IfSome found (λ name. name ≡ word) → found ≡ listed words word
found_name words word None each is when same =
    let b : false ≡ true = when.1 (name_fits word (one_of_passes is_name words word each is)) in absurd (cc)
found_name words word (Some name) each is when same = rw is (ap Some same)
