use Rattle.std.proofs.Common.{◌≡◌, ◌<◌, ◌+◌, ◌-◌, ℕ, true, false, ◌==◌, List, [], ◌∷◌, length, drop, get_or, None, sym, ap, ◌∙◌, refl, arith, rules, drop-cons, add-one}
use Rattle.std.proofs.lemmas.Bool.{eqb-true}
use Rattle.std.proofs.lemmas.List.{drop_all}
use Rattle.pf_base.specs.Decimal.{decimal_of}
use Rattle.pf_base.specs.Text.{is_nothing}
use Rattle.pf_base.proofs.Decimals.{reads_digit, no_digit, above_most, read_whole}
use Rattle.pf_base.proofs.text.read_decimal.Goals as goal

nothing_is_none : (most : ℕ) (text : List ℕ) → (length text == 0) ≡ true → decimal_of most text ≡ None
unfolding decimal_of
nothing_is_none most [] h = refl
nothing_is_none most (byte ∷ text) h = let e : length (byte ∷ text) ≡ 0 = eqb-true (length (byte ∷ text)) 0 h in absurd (omega arith)

pub returns-then-is_empty : goal.returns-then-is_empty
returns-then-is_empty c = sym (nothing_is_none c.args.most c.args.text.now (sym c.is_empty.ensures ∙ c.if-is_empty.true))

something : (text : List ℕ) → (length text == 0) ≡ false → is_nothing text ≡ false
something [] h = cc
something (byte ∷ text) h = refl

pub loop-byte-init : goal.loop-byte-init
loop-byte-init c = record {
  some = something c.args.text.now (sym c.is_empty.ensures ∙ c.if-is_empty.false);
  same = refl;
  digits = refl;
  small = omega arith;
}

here : (text : List ℕ) (i : ℕ) → i < length text → drop i text ≡ get_or text i 0 ∷ drop (i + 1) text
here text i inside = drop-cons text i 0 inside ∙ ap (λ n. get_or text i 0 ∷ drop n text) (sym (add-one i))

pub returns-then-not-is_ascii_digit : goal.returns-then-not-is_ascii_digit
returns-then-not-is_ascii_digit c =
    let reads = rw (here c.args.text.now c.loop-byte.byte-index c.loop-byte-test.true) at c.loop-byte.invariant in
    sym (no_digit reads (sym c.is_ascii_digit.ensures.value ∙ c.if-not-is_ascii_digit.true))

pub overflow_mul-value : goal.overflow_mul-value
overflow_mul-value c = let small = c.loop-byte.invariant.small in omega arith

pub returns-then-value-from : goal.returns-then-value-from
returns-then-value-from c =
    let reads = rw (here c.args.text.now c.loop-byte.byte-index c.loop-byte-test.true) at c.loop-byte.invariant in
    sym (above_most reads (omega arith))

pub loop-byte-preserved : goal.loop-byte-preserved
loop-byte-preserved c =
    let text = c.args.text.now in
    let byte = get_or text c.loop-byte.byte-index 0 in
    let reads = rw (here text c.loop-byte.byte-index c.loop-byte-test.true) at c.loop-byte.invariant in
    let digit : c.from.result ≡ byte - 48 = search rules in
    let most : c.from-in-loop-byte.result ≡ c.args.most = search rules in
    rw digit (reads_digit reads (sym c.is_ascii_digit.ensures.value ∙ c.if-not-is_ascii_digit.false) (omega arith))

pub overflow_cast-result : goal.overflow_cast-result
overflow_cast-result c = let small = c.loop-byte.invariant.small in omega arith

pub returns : goal.returns
returns c =
    let rest : drop c.loop-byte.byte-index c.args.text.now ≡ [] = drop_all c.loop-byte.byte-index c.args.text.now (omega arith) in
    sym (read_whole (rw rest at c.loop-byte.invariant))
