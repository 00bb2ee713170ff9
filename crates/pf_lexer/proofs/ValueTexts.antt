-- The length of a definition's value, and its value text by text.
use Rattle.std.proofs.Common.{◌≡◌, ℕ, ◌+◌, ◌<◌, ◌≤◌, true, false, List, [], ◌∷◌, ◌++◌, length, drop, get_or, refl, ap, sym, ◌∙◌, append-nil, length-append, arith}
use Rattle.std.specs.Prelude.{nat_lt}
use Rattle.std.proofs.lemmas.Bool.{lt-ltb, le-ltb}
use Rattle.std.proofs.lemmas.List.{drop_more}
use Rattle.pf_token.specs.declared.token.Lexeme.{Lexeme}
use Rattle.pf_lexer.specs.Faults.{joined, most_bytes}
use Rattle.pf_token.specs.Kinds.{text_of}
use Rattle.pf_lexer.specs.Taking.{spaced}

-- the bytes of the texts, with one more for each
pub total : List Lexeme → ℕ
total [] = 0
total (lexeme ∷ lexemes) = length (text_of lexeme) + 1 + total lexemes

length_joined : (first : Lexeme) (rest : List Lexeme) → length (joined (first ∷ rest)) + 1 ≡ total (first ∷ rest)
unfolding total
length_joined first [] = omega arith
length_joined first (next ∷ rest) = omega (arith, length_joined next rest, length-append (text_of first) (32 ∷ joined (next ∷ rest)))

pub exceeds_true : (values : List Lexeme) → most_bytes + 1 < total values → true ≡ nat_lt most_bytes (length (joined values))
unfolding total
exceeds_true [] over = absurd (omega arith)
exceeds_true (first ∷ rest) over = sym (lt-ltb most_bytes (length (joined (first ∷ rest))) (omega (arith, length_joined first rest)))

pub exceeds_false : (values : List Lexeme) → total values ≤ most_bytes + 1 → false ≡ nat_lt most_bytes (length (joined values))
unfolding total
exceeds_false [] under = refl
exceeds_false (first ∷ rest) under = sym (le-ltb most_bytes (length (joined (first ∷ rest))) (omega (arith, length_joined first rest)))

pub total_none : total [] ≡ 0
unfolding total
total_none = refl

pub total_drop : (values : List Lexeme) (i : ℕ) (value : Lexeme) → i < length values → value ≡ get_or values i value → total (drop i values) ≡ length (text_of value) + 1 + total (drop (i + 1) values)
unfolding total
total_drop values i value inside is =
    ap total (drop_more values i value inside) ∙ ap (λ v. length (text_of v) + 1 + total (drop (i + 1) values)) (sym is)

-- a value is its first text, and the others each behind a space
pub joined_spaced : (first : Lexeme) (rest : List Lexeme) → text_of first ++ spaced rest ≡ joined (first ∷ rest)
joined_spaced first [] = append-nil (text_of first)
joined_spaced first (next ∷ rest) = ap (λ t. text_of first ++ (32 ∷ t)) (joined_spaced next rest)
