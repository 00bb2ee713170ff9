-- The text of items in brackets.
use Rattle.std.proofs.Common.{◌≡◌, ℕ, ◌≤◌, Bool, true, false, List, [], ◌∷◌, ◌++◌, Option, Some, None, length, drop, map, codes, refl, ap, sym, ◌∙◌, append_assoc}
use Rattle.std.specs.List.{filter_map, flat_map}
use Rattle.std.proofs.lemmas.List.{append-nil, drop_all}
use Rattle.pf_parts.specs.declared.item.Item.{Item}
use Rattle.pf_parts.specs.Items.{part_of, rest_text}
use Rattle.pf_parts.specs.Parts.{in_brackets, spaced}

-- the parts that stand, each behind a comma
abbrev behind_commas : List (Option (List ℕ)) → List ℕ
behind_commas parts = flat_map (λ part. codes ", " ++ part) (filter_map (λ part. part) parts)

rest_text-some : (parts : List (Option (List ℕ))) → rest_text true parts ≡ behind_commas parts ++ codes ")"
rest_text-some [] = refl
rest_text-some (None ∷ parts) = rest_text-some parts
rest_text-some (Some part ∷ parts) =
    ap (λ (rest : List ℕ). (codes ", " ++ part) ++ rest) (rest_text-some parts)
    ∙ sym (append_assoc (codes ", " ++ part) (behind_commas parts) (codes ")"))

rest_text-none : (parts : List (Option (List ℕ))) → rest_text false parts ≡ spaced (in_brackets parts)
rest_text-none [] = refl
rest_text-none (None ∷ parts) = rest_text-none parts
rest_text-none (Some part ∷ parts) =
    ap (λ (rest : List ℕ). codes " (" ++ rest)
    (ap (λ (rest : List ℕ). part ++ rest) (rest_text-some parts) ∙ sym (append_assoc part (behind_commas parts) (codes ")")))

none_left : (items : List (Option Item)) (k : ℕ) → length items ≤ k → map part_of (drop k items) ≡ []
none_left items k h = ap (map part_of) (drop_all k items h)

-- behind the last item a bracket closes the list
pub closed : (items : List (Option Item)) (k : ℕ) (old out new : List ℕ) (some : Bool) → length items ≤ k → some ≡ true → out ++ rest_text some (map part_of (drop k items)) ≡ old ++ rest_text false (map part_of items) → new ≡ out ++ codes ")" → new ≡ old ++ spaced (in_brackets (map part_of items))
closed items k old out new some h is whole put =
    put
    ∙ (λ i. out ++ rest_text (sym is i) (sym (none_left items k h) i))
    ∙ whole
    ∙ ap (λ (text : List ℕ). old ++ text) (rest_text-none (map part_of items))

-- where no item stands, nothing is appended
pub left_out : (items : List (Option Item)) (k : ℕ) (old out : List ℕ) (some : Bool) → length items ≤ k → some ≡ false → out ++ rest_text some (map part_of (drop k items)) ≡ old ++ rest_text false (map part_of items) → out ≡ old ++ spaced (in_brackets (map part_of items))
left_out items k old out some h is whole =
    sym (append-nil out)
    ∙ (λ i. out ++ rest_text (sym is i) (sym (none_left items k h) i))
    ∙ whole
    ∙ ap (λ (text : List ℕ). old ++ text) (rest_text-none (map part_of items))
