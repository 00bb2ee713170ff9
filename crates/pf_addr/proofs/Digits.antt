-- The digits that are printed.
use Rattle.std.proofs.Common.{◌≡◌, ℕ, zero, suc, ◌+◌, ◌*◌, ◌/◌, ◌%◌, ◌^◌, ◌<◌, ◌≤◌, ◌⊎◌, List, [], ◌∷◌, ◌++◌, length, get_or, decimal, All, refl, ap, ◌∙◌, arith, inl, inr, append_assoc, le-leb}
use Rattle.std.proofs.Math.Nat.{pow-zero, pow-suc}
use Rattle.std.specs.Char.{digit_char}
use Rattle.std.specs.Int.Digits.{number_from_digits}
use Rattle.std.specs.Net.Text.{hex}
use Rattle.std.proofs.lemmas.Bool.{lt-leb, cases_lt}
use Rattle.std.proofs.lemmas.Fmt.{decimal_digit, decimal_step}
use Rattle.std.proofs.lemmas.Int.Digits.{number_push}
use Rattle.std.proofs.lemmas.Nat.{div_below, mod_below}
use Rattle.std.proofs.lemmas.List.{get_or_past, length_push}
use Rattle.std.proofs.lemmas.List.Elements.{All-nil, All-push, All-get_or}
use Rattle.pf_addr.specs.Text.{last_digits}

-- now is old with one digit more where a test held
abbrev pub Adds : Type 0 → Type 0 → List ℕ → List ℕ → ℕ → Type 0
Adds P Q old now digit = (P × (now ≡ old ++ digit ∷ [])) ⊎ (Q × (now ≡ old))

decimal_two : (n : ℕ) → 10 ≤ n → n < 100 → decimal n ≡ (48 + n / 10 % 10) ∷ (48 + n % 10) ∷ []
decimal_two n low high =
    let first : n / 10 ≡ n / 10 % 10 = omega arith in
    decimal_step n low (omega arith) ∙ ap (λ (t : List ℕ). t ++ (48 + n % 10) ∷ []) (decimal_digit (n / 10) (omega arith) ∙ ap (λ (t : ℕ). (48 + t) ∷ []) first)

decimal_three : (n : ℕ) → 100 ≤ n → n < 256 → decimal n ≡ (48 + n / 100) ∷ (48 + n / 10 % 10) ∷ (48 + n % 10) ∷ []
decimal_three n low high =
    let first : n / 10 / 10 % 10 ≡ n / 100 = omega arith in
    decimal_step n (omega arith) (omega arith)
    ∙ ap (λ (t : List ℕ). t ++ (48 + n % 10) ∷ []) (decimal_two (n / 10) (omega arith) (omega arith) ∙ ap (λ (t : ℕ). (48 + t) ∷ (48 + n / 10 % 10) ∷ []) first)

pub number_text : (n : ℕ) (l a b r : List ℕ) → n < 256 → Adds (100 ≤ n) (n < 100) l a (48 + n / 100) → Adds (10 ≤ n) (n < 10) a b (48 + n / 10 % 10) → r ≡ b ++ (48 + n % 10) ∷ [] → r ≡ l ++ decimal n
number_text n l a b r fits (inl p) (inl q) e = rw (e, q.1, p.1, decimal_three n p.0 fits) (simp append_assoc)
number_text n l a b r fits (inl p) (inr q) e = absurd (omega (arith, p.0, q.0))
number_text n l a b r fits (inr p) (inl q) e = rw (e, q.1, p.1, decimal_two n q.0 p.0) (simp append_assoc)
number_text n l a b r fits (inr p) (inr q) e =
    let last : n % 10 ≡ n = omega (arith, q.0) in
    rw (e, q.1, p.1, decimal_digit n q.0, last) refl

pub group_text : (n : ℕ) (l a b d r : List ℕ) → Adds (0x1000 ≤ n) (n < 0x1000) l a (digit_char (n / 0x1000)) → Adds (0x100 ≤ n) (n < 0x100) a b (digit_char (n / 0x100 % 16))
    → Adds (0x10 ≤ n) (n < 0x10) b d (digit_char (n / 0x10 % 16)) → r ≡ d ++ digit_char (n % 16) ∷ [] → r ≡ l ++ hex n
unfolding hex
group_text n l a b d r (inl p) (inl q) (inl s) e = rw (e, s.1, q.1, p.1, le-leb _ n p.0) (simp append_assoc)
group_text n l a b d r (inr p) (inl q) (inl s) e = rw (e, s.1, q.1, p.1, lt-leb _ n p.0, le-leb _ n q.0) (simp append_assoc)
group_text n l a b d r (inr p) (inr q) (inl s) e = rw (e, s.1, q.1, p.1, lt-leb _ n p.0, lt-leb _ n q.0, le-leb _ n s.0) (simp append_assoc)
group_text n l a b d r (inr p) (inr q) (inr s) e = rw (e, s.1, q.1, p.1, lt-leb _ n p.0, lt-leb _ n q.0, lt-leb _ n s.0) refl
group_text n l a b d r (inl p) (inr q) s e = absurd (omega (arith, p.0, q.0))
group_text n l a b d r (inl p) (inl q) (inr s) e = absurd (omega (arith, p.0, s.0))
group_text n l a b d r (inr p) (inl q) (inr s) e = absurd (omega (arith, q.0, s.0))

-- ---- the digits of a number

pub length-last_digits : (b k n : ℕ) → length (last_digits b k n) ≡ k
unfolding last_digits
length-last_digits b zero n = refl
length-last_digits b (suc k) n = omega (arith, length_push (last_digits b k (n / b)) (n % b), length-last_digits b k (n / b))

pub last_digits-value : (b k n : ℕ) → 0 < b → n < b ^ k → number_from_digits b (last_digits b k n) ≡ n
unfolding last_digits
last_digits-value b zero n pos lt = omega (arith, pow-zero b)
last_digits-value b (suc k) n pos lt =
    let below : n / b < b ^ k = div_below n b (b ^ k) pos (rw pow-suc at lt) in
    number_push b (last_digits b k (n / b)) (n % b) ∙ ap (λ (t : ℕ). t * b + n % b) (last_digits-value b k (n / b) pos below) ∙ grind arith

last_digits-All : (b k n : ℕ) → 0 < b → All (λ d. d < b) (last_digits b k n)
unfolding last_digits
last_digits-All b zero n pos = All-nil (λ (d : ℕ). d < b)
last_digits-All b (suc k) n pos = All-push (λ (d : ℕ). d < b) _ _ (last_digits-All b k (n / b) pos) (mod_below n b pos)

pub last_digits-below : (b k n : ℕ) → 0 < b → (i : ℕ) → get_or (last_digits b k n) i 0 < b
last_digits-below b k n pos i =
    elim (cases_lt i (length (last_digits b k n))) [
      | inl lt ↦ All-get_or (λ (d : ℕ). d < b) _ i 0 lt (last_digits-All b k n pos)
      | inr le ↦ rw (get_or_past (last_digits b k n) i 0 le) pos
    ]
