-- What is printed in brackets, as words, strings and signs.
use Rattle.std.proofs.Common.{◌≡◌, ℕ, Bool, true, List, [], ◌∷◌, ◌++◌, Option, Some, None, refl, ap, sym, ◌∙◌, append_assoc}
use Rattle.std.specs.Prelude.{◌&&◌, map, codes}
use Rattle.std.specs.List.{filter_map, flat_map, list_all}
use Rattle.std.specs.Option.{option_map}
use Rattle.std.proofs.lemmas.Bool.{and_from, and_parts}
use Rattle.pf_parts.specs.Parts.{in_brackets, spaced}
use Rattle.pf_syntax.specs.Symbols.{Symbols, bare}
use Rattle.pf_token.specs.Bytes.{class_of}
use Rattle.pf_reread.specs.TokenText.{is_word_text}
use Rattle.pf_reread.proofs.Glyphs.{Glyph, apart, close, sign_apart, sign_close, are-append, are_spelled, ends-append, ends_word, said, said-append, spelled, spelled-append}
use Rattle.pf_reread.proofs.Rows.{bracketed, tail_symbols}

-- a word and what stands behind it
pub record Chunk : Type 0 where
  pub word : List ℕ
  pub more : List Glyph

abbrev pub chunk_text : Chunk → List ℕ
chunk_text chunk = chunk.word ++ spelled chunk.more

abbrev pub chunk_symbols : Chunk → Symbols
chunk_symbols chunk = bare chunk.word ∷ said chunk.more

abbrev pub is_chunk : Chunk → Bool
is_chunk chunk = is_word_text chunk.word && (ends_word chunk.more && are_spelled chunk.more)

abbrev pub is_chunk_or_none : Option Chunk → Bool
is_chunk_or_none None = true
is_chunk_or_none (Some chunk) = is_chunk chunk

abbrev pub texts : List (Option Chunk) → List (Option (List ℕ))
texts chunks = map (option_map chunk_text) chunks

abbrev pub items : List (Option Chunk) → List (Option Symbols)
items chunks = map (option_map chunk_symbols) chunks

-- behind a first one
abbrev pub tail_glyphs : List (Option Chunk) → List Glyph
tail_glyphs [] = sign_close 41 ∷ []
tail_glyphs (None ∷ chunks) = tail_glyphs chunks
tail_glyphs (Some chunk ∷ chunks) = sign_close 44 ∷ apart (bare chunk.word) ∷ (chunk.more ++ tail_glyphs chunks)

abbrev pub bracket_glyphs : List (Option Chunk) → List Glyph
bracket_glyphs [] = []
bracket_glyphs (None ∷ chunks) = bracket_glyphs chunks
bracket_glyphs (Some chunk ∷ chunks) = sign_apart 40 ∷ close (bare chunk.word) ∷ (chunk.more ++ tail_glyphs chunks)

tail_said : (chunks : List (Option Chunk)) → said (tail_glyphs chunks) ≡ tail_symbols (items chunks)
tail_said [] = refl
tail_said (None ∷ chunks) = tail_said chunks
tail_said (Some chunk ∷ chunks) = rw (said-append chunk.more (tail_glyphs chunks), tail_said chunks) refl

pub bracket_said : (chunks : List (Option Chunk)) → said (bracket_glyphs chunks) ≡ bracketed (items chunks)
bracket_said [] = refl
bracket_said (None ∷ chunks) = bracket_said chunks
bracket_said (Some chunk ∷ chunks) = rw (said-append chunk.more (tail_glyphs chunks), tail_said chunks) refl

-- texts with a comma before each
abbrev commas : List (List ℕ) → List ℕ
commas rest = flat_map (λ text. codes ", " ++ text) rest

abbrev those : List (Option (List ℕ)) → List (List ℕ)
those parts = filter_map (λ part. part) parts

four : (a b c d : List ℕ) → a ++ (b ++ (c ++ d)) ≡ ((a ++ b) ++ c) ++ d
four a b c d = sym (append_assoc a b (c ++ d)) ∙ sym (append_assoc (a ++ b) c d)

tail_spelled : (chunks : List (Option Chunk)) → spelled (tail_glyphs chunks) ≡ commas (those (texts chunks)) ++ codes ")"
tail_spelled [] = refl
tail_spelled (None ∷ chunks) = tail_spelled chunks
tail_spelled (Some chunk ∷ chunks) =
    ap (λ text. 44 ∷ 32 ∷ (chunk.word ++ text)) (spelled-append chunk.more (tail_glyphs chunks) ∙ ap (λ text. spelled chunk.more ++ text) (tail_spelled chunks))
    ∙ ap (λ text. 44 ∷ 32 ∷ text) (four chunk.word (spelled chunk.more) (commas (those (texts chunks))) (codes ")"))

pub bracket_spelled : (chunks : List (Option Chunk)) → spelled (bracket_glyphs chunks) ≡ spaced (in_brackets (texts chunks))
bracket_spelled [] = refl
bracket_spelled (None ∷ chunks) = bracket_spelled chunks
bracket_spelled (Some chunk ∷ chunks) =
    ap (λ text. 32 ∷ 40 ∷ (chunk.word ++ text)) (spelled-append chunk.more (tail_glyphs chunks) ∙ ap (λ text. spelled chunk.more ++ text) (tail_spelled chunks))
    ∙ ap (λ text. 32 ∷ 40 ∷ text) (four chunk.word (spelled chunk.more) (commas (those (texts chunks))) (codes ")"))

tail_ends : (chunks : List (Option Chunk)) → ends_word (tail_glyphs chunks) ≡ true
unfolding class_of
tail_ends [] = refl
tail_ends (None ∷ chunks) = tail_ends chunks
tail_ends (Some chunk ∷ chunks) = refl

-- a chunk with these behind it
chunk_are : (chunk : Chunk) (behind : List Glyph) → is_chunk chunk ≡ true → are_spelled behind ≡ true → ends_word behind ≡ true
    → (is_word_text chunk.word && (ends_word (chunk.more ++ behind) && are_spelled (chunk.more ++ behind))) ≡ true
chunk_are chunk behind is are ends =
    let p = and_parts (is_word_text chunk.word) (ends_word chunk.more && are_spelled chunk.more) is in
    let q = and_parts (ends_word chunk.more) (are_spelled chunk.more) p.1 in
    and_from (is_word_text chunk.word) (ends_word (chunk.more ++ behind) && are_spelled (chunk.more ++ behind)) p.0
    (and_from (ends_word (chunk.more ++ behind)) (are_spelled (chunk.more ++ behind)) (ends-append chunk.more behind q.0 ends) (are-append chunk.more behind q.1 are ends))

tail_are : (chunks : List (Option Chunk)) → list_all is_chunk_or_none chunks ≡ true → are_spelled (tail_glyphs chunks) ≡ true
unfolding class_of
tail_are [] are = refl
tail_are (None ∷ chunks) are = tail_are chunks are
tail_are (Some chunk ∷ chunks) are =
    let p = and_parts (is_chunk chunk) (list_all is_chunk_or_none chunks) are in
    chunk_are chunk (tail_glyphs chunks) p.0 (tail_are chunks p.1) (tail_ends chunks)

pub bracket_are : (chunks : List (Option Chunk)) → list_all is_chunk_or_none chunks ≡ true → are_spelled (bracket_glyphs chunks) ≡ true
unfolding class_of
bracket_are [] are = refl
bracket_are (None ∷ chunks) are = bracket_are chunks are
bracket_are (Some chunk ∷ chunks) are =
    let p = and_parts (is_chunk chunk) (list_all is_chunk_or_none chunks) are in
    chunk_are chunk (tail_glyphs chunks) p.0 (tail_are chunks p.1) (tail_ends chunks)

pub bracket_ends : (chunks : List (Option Chunk)) → ends_word (bracket_glyphs chunks) ≡ true
bracket_ends [] = refl
bracket_ends (None ∷ chunks) = bracket_ends chunks
bracket_ends (Some chunk ∷ chunks) = refl
