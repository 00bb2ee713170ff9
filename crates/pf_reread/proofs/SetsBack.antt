-- The text of a set of numbers is read as that set.
use Rattle.std.proofs.Common.{◌≡◌, ℕ, ◌+◌, ◌-◌, ◌≤◌, Bool, true, false, List, [], ◌∷◌, ◌++◌, Option, refl, ap, sym, subst, ◌∙◌, arith}
use Rattle.std.specs.Prelude.{◌==◌, map}
use Rattle.std.proofs.lemmas.List.{append-nil}
use Rattle.pf_base.specs.declared.fault.Place.{Place}
use Rattle.pf_host.specs.Facts.{HostFacts}
use Rattle.pf_ops.specs.Numbers.{IsKept}
use Rattle.pf_ops.specs.declared.numbers.Numbers.{Numbers}
use Rattle.pf_ops.specs.declared.numbers.Numbers.TheVariants.{Empty, One, Two}
use Rattle.pf_print.specs.SetText.{set_text}
use Rattle.pf_syntax.specs.Lists.{list_of}
use Rattle.pf_syntax.specs.Operators.{op}
use Rattle.pf_syntax.specs.Symbols.{Symbols}
use Rattle.pf_syntax.specs.declared.form.OpItem.{OpItem}
use Rattle.pf_word.specs.Numbers.{id_test, port_test}
use Rattle.pf_word.specs.Words.{found}
use Rattle.pf_word.specs.declared.number.IdKind.{IdKind}
use Rattle.pf_reread.specs.SetBack.{ReadsAsTest}
use Rattle.pf_reread.proofs.Glyphs.{Glyph, all_read, apart, are_spelled, cells_plain, close, no_newlines, said, sign_apart, sign_close, spelled, symbols-tokens, token_of}
use Rattle.pf_reread.proofs.ReadHosts.{set_item, set_read}
use Rattle.pf_reread.proofs.RuleGlyphs.{gap_glyphs, interval_glyphs, set_glyphs}
use Rattle.pf_reread.proofs.RuleSpelled.{of_set}
use Rattle.pf_reread.proofs.RuleTokens.{fine_set}
use Rattle.pf_reread.proofs.Sets.{id_means, port_means}

-- without the space in front
abbrev opened : List Glyph → List Glyph
opened [] = []
opened (apart symbol ∷ glyphs) = close symbol ∷ glyphs
opened (close symbol ∷ glyphs) = close symbol ∷ glyphs
opened (sign_apart byte ∷ glyphs) = sign_close byte ∷ glyphs
opened (sign_close byte ∷ glyphs) = sign_close byte ∷ glyphs

opened_said : (glyphs : List Glyph) → said (opened glyphs) ≡ said glyphs
opened_said [] = refl
opened_said (apart symbol ∷ glyphs) = refl
opened_said (close symbol ∷ glyphs) = refl
opened_said (sign_apart byte ∷ glyphs) = refl
opened_said (sign_close byte ∷ glyphs) = refl

opened_are : (glyphs : List Glyph) → are_spelled glyphs ≡ true → are_spelled (opened glyphs) ≡ true
opened_are [] are = refl
opened_are (apart symbol ∷ glyphs) are = are
opened_are (close symbol ∷ glyphs) are = are
opened_are (sign_apart byte ∷ glyphs) are = are
opened_are (sign_close byte ∷ glyphs) are = are

abbrev behind_first : List ℕ → List ℕ
behind_first [] = []
behind_first (byte ∷ bytes) = bytes

-- it begins with a space
abbrev begins_apart : List Glyph → Bool
begins_apart [] = false
begins_apart (apart symbol ∷ glyphs) = true
begins_apart (close symbol ∷ glyphs) = false
begins_apart (sign_apart byte ∷ glyphs) = true
begins_apart (sign_close byte ∷ glyphs) = false

opened_spelled : (glyphs : List Glyph) → begins_apart glyphs ≡ true → spelled (opened glyphs) ≡ behind_first (spelled glyphs)
opened_spelled [] begins = absurd (cc)
opened_spelled (apart symbol ∷ glyphs) begins = refl
opened_spelled (close symbol ∷ glyphs) begins = absurd (cc)
opened_spelled (sign_apart byte ∷ glyphs) begins = refl
opened_spelled (sign_close byte ∷ glyphs) begins = absurd (cc)

interval_apart : (same : Bool) (low high : ℕ) → begins_apart (interval_glyphs same low high) ≡ true
interval_apart true low high = refl
interval_apart false low high = refl

gap_apart : (same : Bool) (low high : ℕ) → begins_apart (gap_glyphs same low high) ≡ true
gap_apart true low high = refl
gap_apart false low high = refl

set_apart : (top : ℕ) (numbers : Numbers) → begins_apart (set_glyphs top numbers) ≡ true
set_apart top Empty = refl
set_apart top (One all) = interval_apart (all.low == all.high) all.low all.high
set_apart top (Two first last) = gap_apart (first.high + 1 == last.low - 1) (first.high + 1) (last.low - 1)

-- the text as tokens, and these as one operator
set_back : (values : List ℕ → Option (List ℕ)) (place : Place) (top : ℕ) (numbers : Numbers) (Means : OpItem → Type 0) → top ≤ 4294967295 → IsKept top numbers
    → Means (set_item top numbers) → ReadsAsTest values place (set_text top numbers) Means
set_back values place top numbers Means most kept means =
    let glyphs = opened (set_glyphs top numbers) in
    let are = opened_are (set_glyphs top numbers) (fine_set top numbers most kept).are in
    let text : set_text top numbers ≡ spelled glyphs =
    sym (opened_spelled (set_glyphs top numbers) (set_apart top numbers) ∙ ap behind_first (of_set top numbers)) in
    let plain = cells_plain place (spelled glyphs) (no_newlines glyphs are) in
    let same : said (set_glyphs top numbers) ++ [] ≡ said glyphs = append-nil (said (set_glyphs top numbers)) ∙ sym (opened_said (set_glyphs top numbers)) in
    let read = (list_of op).exact.sound (said (set_glyphs top numbers) ++ []) (set_item top numbers ∷ []) [] (set_read top numbers [] most kept refl) in
    record {
      tokens = map (token_of place) (said glyphs);
      spelled = rw (text, plain) (all_read values place glyphs are);
      item = set_item top numbers;
      read = subst (λ (symbols : Symbols). (list_of op).derives symbols (set_item top numbers ∷ []) []) (same ∙ sym (symbols-tokens place (said glyphs))) read;
      means = means;
    }

pub ports_back : (values : List ℕ → Option (List ℕ)) (place : Place) (numbers : Numbers) → IsKept 65535 numbers
    → ReadsAsTest values place (set_text 65535 numbers) (λ item. (facts : HostFacts) → port_test facts item ≡ found numbers)
ports_back values place numbers kept = set_back values place 65535 numbers _ (omega arith) kept (λ facts. port_means facts numbers kept)

pub ids_back : (values : List ℕ → Option (List ℕ)) (place : Place) (numbers : Numbers) → IsKept 4294967295 numbers
    → ReadsAsTest values place (set_text 4294967295 numbers) (λ item. (facts : HostFacts) (kind : IdKind) → id_test facts kind item ≡ found numbers)
ids_back values place numbers kept = set_back values place 4294967295 numbers _ (omega arith) kept (λ facts kind. id_means facts kind numbers kept)
