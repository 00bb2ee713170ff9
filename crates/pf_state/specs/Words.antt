-- The words of a `table` line (pfctl(8), Tables): an entry is an address or a prefix with a `!` right before it or not.
use Rattle.std.specs.Prelude.{◌≡◌, ℕ, Bool, false, ◌==◌, List, [], ◌∷◌, Result, Ok, Err, if◌then◌else◌}
use Rattle.pf_addr.specs.PrefixText.{IsPrefixText}
use Rattle.pf_table.specs.declared.entry.Entry.{Entry}

-- whether a `!` stands before it, and what stands behind that
abbrev pub is_negated : List ℕ → Bool
is_negated [] = false
is_negated (byte ∷ bytes) = byte == 33

abbrev pub unsigned : List ℕ → List ℕ
unsigned [] = []
unsigned (byte ∷ bytes) = if byte == 33 then bytes else byte ∷ bytes

-- a word is the text of this entry
pub record IsEntryWord (word : List ℕ) (entry : Entry) : Type 0 where
  pub text : IsPrefixText (unsigned word) entry.prefix
  pub sign : entry.negated ≡ is_negated word

-- A list of words is read whole, each as one item, or the first that is none is told.
pub data ReadsAll {A : Type 0} (IsText : List ℕ → A → Type 0) : List (List ℕ) → Result (List A) (List ℕ) → Type 0 where
  nothing : ReadsAll IsText [] (Ok [])
  one : {word : List ℕ} {words : List (List ℕ)} {item : A} {items : List A} → IsText word item → ReadsAll IsText words (Ok items) → ReadsAll IsText (word ∷ words) (Ok (item ∷ items))
  behind : {word other : List ℕ} {words : List (List ℕ)} {item : A} → IsText word item → ReadsAll IsText words (Err other) → ReadsAll IsText (word ∷ words) (Err other)
  none : {word : List ℕ} {words : List (List ℕ)} → ((item : A) → IsText word item → ⊥) → ReadsAll IsText (word ∷ words) (Err word)
