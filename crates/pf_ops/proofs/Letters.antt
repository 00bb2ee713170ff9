-- The letters of each set of flags have its bits.
use Rattle.std.proofs.Common.{◌||◌, ◌≡◌, ℕ, zero, suc, ◌<◌, ◌==◌, ◌&&◌, not, Bool, true, false, Some, refl, arith, inl, inr, ne_eqb}
use Rattle.std.specs.Cmp.{first_so, second_so}
use Rattle.std.specs.List.{list_all}
use Rattle.std.specs.Option.{is_some}
use Rattle.std.proofs.lemmas.Bool.{cases_eq, eqb-true}
use Rattle.pf_base.specs.Text.{is_nothing}
use Rattle.pf_ops.specs.Words.{bit_of, bits_of, flags_of, letters_of, tcp_flags}

-- the test passes for each number below this one
holds_below : ℕ → (ℕ → Bool) → Bool
holds_below zero test = true
holds_below (suc n) test = test n && holds_below n test

holds_at : (most n : ℕ) (test : ℕ → Bool) → holds_below most test ≡ true → n < most → test n ≡ true
unfolding holds_below
holds_at zero n test all low = absurd (omega arith)
holds_at (suc most) n test all low =
    elim (cases_eq n most) [
      | inl same ↦ rw same (first_so (test most) (holds_below most test) all)
      | inr other ↦ holds_at most n test (second_so (test most) (holds_below most test) all) (omega arith)
    ]

reads_back : ℕ → Bool
reads_back bits = bits_of (letters_of bits) == bits

are_letters : ℕ → Bool
are_letters bits = list_all (λ letter. is_some (bit_of letter)) (letters_of bits)

some_letter : ℕ → Bool
some_letter bits = (bits == 0) || not (is_nothing (letters_of bits))

all_read_back : holds_below 256 reads_back ≡ true
unfolding holds_below reads_back tcp_flags
all_read_back = refl

all_are_letters : holds_below 256 are_letters ≡ true
unfolding holds_below are_letters tcp_flags
all_are_letters = refl

all_have_letters : holds_below 256 some_letter ≡ true
unfolding holds_below some_letter tcp_flags
all_have_letters = refl

pub bits_back : (bits : ℕ) → bits < 256 → bits_of (letters_of bits) ≡ bits
unfolding reads_back
bits_back bits low = eqb-true _ _ (holds_at 256 bits reads_back all_read_back low)

not_true : (b : Bool) → not b ≡ true → b ≡ false
not_true true h = absurd cc
not_true false h = refl

has_letters : (bits : ℕ) → 0 < bits → bits < 256 → is_nothing (letters_of bits) ≡ false
unfolding some_letter
has_letters bits some low =
    let zero_or : ((bits == 0) || not (is_nothing (letters_of bits))) ≡ true = holds_at 256 bits some_letter all_have_letters low in
    let other : (bits == 0) ≡ false = ne_eqb bits 0 (λ e. omega (arith, e)) in
    not_true _ (rw other at zero_or)

letters_are : (bits : ℕ) → bits < 256 → list_all (λ letter. is_some (bit_of letter)) (letters_of bits) ≡ true
unfolding are_letters
letters_are bits low = holds_at 256 bits are_letters all_are_letters low

pub flags_back : (bits : ℕ) → 0 < bits → bits < 256 → flags_of (letters_of bits) ≡ Some bits
unfolding flags_of
flags_back bits some low = rw (has_letters bits some low, letters_are bits low, bits_back bits low) refl
