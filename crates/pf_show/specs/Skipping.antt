-- How skip steps are shown: the place of each rule and its eight skips, counted from 1; the end of n rules is n + 1.
use Rattle.std.specs.Prelude.{ℕ, ◌+◌, List, [], ◌∷◌, ◌++◌, codes, decimal, length, map}
use Rattle.std.specs.List.{flat_map, range_with_len}
use Rattle.pf_optim.specs.Skips.{skip}
use Rattle.pf_rule.specs.declared.rule.Rule.{Rule}

-- a place, counted from 1, behind a space
abbrev pub place_text : ℕ → List ℕ
place_text place = codes " " ++ decimal (place + 1)

-- the eight fields in their order
abbrev pub fields : List ℕ
fields = 0 ∷ 1 ∷ 2 ∷ 3 ∷ 4 ∷ 5 ∷ 6 ∷ 7 ∷ []

abbrev pub skip_line : List Rule → ℕ → List ℕ
skip_line rules place = decimal (place + 1) ++ flat_map (λ field. place_text (skip rules place field)) fields

abbrev pub skip_lines : List Rule → List (List ℕ)
skip_lines rules = map (skip_line rules) (range_with_len 0 (length rules))
