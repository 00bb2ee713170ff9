-- Reading a decimal number from its front.
use Rattle.std.proofs.Common.{◌≡◌, ℕ, ◌+◌, ◌*◌, ◌-◌, ◌<◌, ◌≤◌, Bool, true, false, not, ◌&&◌, cond, List, [], ◌∷◌, Some, None, refl, ap, ◌∙◌, arith, nat_le}
use Rattle.std.specs.List.{list_all}
use Rattle.std.specs.Char.{is_ascii_digit}
use Rattle.std.proofs.lemmas.Bool.{le-leb, lt-leb}
use Rattle.pf_base.specs.Text.{is_nothing}
use Rattle.pf_base.specs.Decimal.{digits_after, decimal_of}

-- the text is read up to rest, and its digits so far make the value
pub record ReadsTo (most value : ℕ) (text rest : List ℕ) : Type 0 where
  pub some : is_nothing text ≡ false
  pub same : digits_after 0 text ≡ digits_after value rest
  pub digits : list_all is_ascii_digit text ≡ list_all is_ascii_digit rest
  pub small : value ≤ most

pub reads_digit : {most value byte : ℕ} {text rest : List ℕ} → ReadsTo most value text (byte ∷ rest) → is_ascii_digit byte ≡ true → 10 * value + (byte - 48) ≤ most → ReadsTo most (10 * value + (byte - 48)) text rest
reads_digit {byte = byte} {rest = rest} h digit small = record {
  some = h.some;
  same = h.same;
  digits = h.digits ∙ ap (λ b. b && list_all is_ascii_digit rest) digit;
  small = small;
}

pub no_digit : {most value byte : ℕ} {text rest : List ℕ} → ReadsTo most value text (byte ∷ rest) → is_ascii_digit byte ≡ false → decimal_of most text ≡ None
unfolding decimal_of
no_digit {byte = byte} {text = text} {rest = rest} h digit =
    let bad : list_all is_ascii_digit text ≡ false = h.digits ∙ ap (λ b. b && list_all is_ascii_digit rest) digit in
    rw (h.some, bad) refl

pub digits_grow : (n : ℕ) (digits : List ℕ) → n ≤ digits_after n digits
digits_grow n [] = omega arith
digits_grow n (digit ∷ digits) = let more = digits_grow (10 * n + (digit - 48)) digits in omega arith

too_large : (b c : Bool) (n : ℕ) → c ≡ false → cond (b && c) (Some n) None ≡ None
too_large true c n h = rw h refl
too_large false c n h = refl

pub above_most : {most value byte : ℕ} {text rest : List ℕ} → ReadsTo most value text (byte ∷ rest) → most < 10 * value + (byte - 48) → decimal_of most text ≡ None
unfolding decimal_of
above_most {most} {value} {byte} {text} {rest} h large =
    let more : 10 * value + (byte - 48) ≤ digits_after (10 * value + (byte - 48)) rest = digits_grow (10 * value + (byte - 48)) rest in
    let over : most < digits_after 0 text = rw h.same (omega arith) in
    too_large (not (is_nothing text) && list_all is_ascii_digit text) (nat_le (digits_after 0 text) most) (digits_after 0 text) (lt-leb (digits_after 0 text) most over)

pub read_whole : {most value : ℕ} {text : List ℕ} → ReadsTo most value text [] → decimal_of most text ≡ Some value
unfolding decimal_of
read_whole {most} {value} {text} h = rw (h.some, h.digits, h.same, le-leb value most h.small) refl
