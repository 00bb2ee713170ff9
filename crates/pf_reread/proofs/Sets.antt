-- Each printed set of numbers is read as the same set.
use Rattle.std.proofs.Common.{◌≡◌, ℕ, ◌+◌, ◌-◌, ◌≤◌, ◌<◌, Bool, true, false, List, [], refl, ap, sym, subst, ◌∙◌, arith, decimal}
use Rattle.std.specs.Prelude.{◌==◌, codes, Result, Ok}
use Rattle.std.proofs.lemmas.Bool.{eqb-true, lt-ltb, le-ltb}
use Rattle.std.proofs.lemmas.Fmt.{decimal_digit}
use Rattle.pf_base.specs.declared.fault.FaultKind.{FaultKind}
use Rattle.pf_host.specs.Facts.{HostFacts}
use Rattle.pf_ops.specs.Numbers.{IsKept}
use Rattle.pf_ops.specs.Operator.{joined, numbers_below, set_of}
use Rattle.pf_ops.specs.declared.numbers.Interval.{Interval}
use Rattle.pf_ops.specs.declared.numbers.Numbers.{Numbers}
use Rattle.pf_ops.specs.declared.numbers.Numbers.TheVariants.{Empty, One, Two}
use Rattle.pf_ops.specs.declared.operator.OpKind.TheVariants.{Equal, Within, Outside}
use Rattle.pf_syntax.specs.Operators.{op_item}
use Rattle.pf_syntax.specs.declared.form.OpItem.{OpItem}
use Rattle.pf_word.specs.Numbers.{between, id_of, id_test, most_id, most_port, port_of, port_test, second_end, shown}
use Rattle.pf_word.specs.Words.{found}
use Rattle.pf_word.specs.declared.words.Words.{Words}
use Rattle.pf_word.specs.declared.number.IdKind.{IdKind}
use Rattle.pf_reread.proofs.ReadHosts.{gap_item, interval_item, set_item}
use Rattle.pf_reread.proofs.Words.{decimal_of-decimal, number_is_decimal}

-- an interval is that of its ends
abbrev interval : ℕ → ℕ → Interval
interval low high = record { low = low; high = high }

below_some : (low «end» high : ℕ) → low < «end» → «end» ≡ high + 1 → numbers_below low «end» ≡ One (interval low high)
below_some low «end» high some next =
    let last : «end» - 1 ≡ high = omega (arith, next) in
    rw (lt-ltb low «end» some) (ap (λ n. One (interval low n)) last)

below_none : (low «end» : ℕ) → «end» ≤ low → numbers_below low «end» ≡ Empty
below_none low «end» none = rw (le-ltb low «end» none) refl

-- the ends of tests up to a greatest number: each number that is printed is read
abbrev Reader : Type 0
Reader = List ℕ → List ℕ → Result ℕ FaultKind

abbrev ReadsTo : ℕ → Reader → Type 0
ReadsTo top reads = (whole : List ℕ) (n : ℕ) → n ≤ top → reads whole (decimal n) ≡ Ok n

-- what an item means whose ends are read so
abbrev means : ℕ → FaultKind → Reader → OpItem → Words Numbers
means top falling reads item =
    between top falling item.kind (reads (shown item item.low) item.low) (second_end item.kind (reads (shown item item.high) item.high))

equal_means : (top : ℕ) (falling : FaultKind) (reads : Reader) (low : ℕ) → ReadsTo top reads → low ≤ top
    → means top falling reads (op_item Equal (decimal low) []) ≡ found (One (interval low low))
unfolding set_of
equal_means top falling reads low back fits =
    rw (back (decimal low) low fits) (ap (λ (numbers : Numbers). found numbers) (below_some low (low + 1) low (omega arith) refl))

within_means : (top : ℕ) (falling : FaultKind) (reads : Reader) (low high : ℕ) → ReadsTo top reads → low ≤ high → high ≤ top
    → means top falling reads (op_item Within (decimal low) (decimal high)) ≡ found (One (interval low high))
unfolding set_of
within_means top falling reads low high back order fits =
    rw (back _ low (omega arith), back _ high fits, le-ltb high low order) (ap (λ (numbers : Numbers). found numbers) (below_some low (high + 1) high (omega arith) refl))

interval_means : (same : Bool) (top : ℕ) (falling : FaultKind) (reads : Reader) (low high : ℕ) → (low == high) ≡ same → ReadsTo top reads → low ≤ high → high ≤ top
    → means top falling reads (interval_item same low high) ≡ found (One (interval low high))
interval_means true top falling reads low high same back order fits =
    equal_means top falling reads low back (omega arith) ∙ ap (λ n. found (One (interval low n))) (eqb-true low high same)
interval_means false top falling reads low high same back order fits = within_means top falling reads low high back order fits

-- what is below a number, and what is above another
both_sides : (top low high : ℕ) → 0 < low → low ≤ high → high < top
    → joined (numbers_below 0 low) (numbers_below (high + 1) (top + 1)) ≡ Two (interval 0 (low - 1)) (interval (high + 1) top)
both_sides top low high some order fits =
    rw (below_some 0 low (low - 1) some (omega arith), below_some (high + 1) (top + 1) top (omega arith) refl) refl

gap_means : (same : Bool) (top : ℕ) (falling : FaultKind) (reads : Reader) (low high : ℕ) → (low == high) ≡ same → ReadsTo top reads → 0 < low → low ≤ high → high < top
    → means top falling reads (gap_item same low high) ≡ found (Two (interval 0 (low - 1)) (interval (high + 1) top))
unfolding set_of
gap_means true top falling reads low high same back some order fits =
    let is : low ≡ high = eqb-true low high same in
    rw (back (decimal low) low (omega arith))
    (ap (λ (numbers : Numbers). found numbers) (both_sides top low low some (omega arith) (omega arith)) ∙ ap (λ n. found (Two (interval 0 (low - 1)) (interval (n + 1) top))) is)
gap_means false top falling reads low high same back some order fits =
    rw (back _ low (omega arith), back _ high (omega arith), le-ltb high low order) (ap (λ (numbers : Numbers). found numbers) (both_sides top low high some order fits))

empty_means : (top : ℕ) (falling : FaultKind) (reads : Reader) → ReadsTo top reads
    → means top falling reads (op_item Outside (codes "0") (decimal top)) ≡ found Empty
unfolding set_of
empty_means top falling reads back =
    let zero : (whole : List ℕ) → reads whole (codes "0") ≡ Ok 0 = λ whole. subst (λ text. reads whole text ≡ Ok 0) (decimal_digit 0 (omega arith)) (back whole 0 (omega arith)) in
    rw (zero (codes "0"), back _ top (omega arith), le-ltb top 0 (omega arith), below_none 0 0 (omega arith), below_none (top + 1) (top + 1) (omega arith)) refl

two_same : (top : ℕ) (first last : Interval) → first.low ≡ 0 → first.high + 1 < last.low → last.low ≤ top → last.high ≡ top
    → ◌≡◌ {A = Numbers} (Two (interval 0 (first.high + 1 - 1)) (interval (last.low - 1 + 1) top)) (Two first last)
two_same top first last low between fits high =
    let a : first.high + 1 - 1 ≡ first.high = omega arith in
    let b : last.low - 1 + 1 ≡ last.low = omega (arith, between) in
    λ i. Two (record { low = sym low i; high = a i }) (record { low = b i; high = sym high i })

-- a set in the form in which it is kept
pub set_means : (top : ℕ) (falling : FaultKind) (reads : Reader) (numbers : Numbers) → ReadsTo top reads → IsKept top numbers
    → means top falling reads (set_item top numbers) ≡ found numbers
set_means top falling reads Empty back kept = empty_means top falling reads back
set_means top falling reads (One all) back kept = interval_means (all.low == all.high) top falling reads all.low all.high refl back kept.0 kept.1
set_means top falling reads (Two first last) back kept =
    let a = kept.1 in
    let b = kept.2 in
    gap_means (first.high + 1 == last.low - 1) top falling reads (first.high + 1) (last.low - 1) refl back (omega arith) (omega arith) (omega arith)
    ∙ ap (λ (numbers : Numbers). found numbers) (two_same top first last kept.0 kept.1 kept.2 kept.3)

-- ports, users and groups
port_back : (facts : HostFacts) → ReadsTo most_port (port_of facts)
unfolding port_of
port_back facts whole n fits = rw (number_is_decimal n (omega arith), decimal_of-decimal most_port n fits (omega arith)) refl

id_back : (facts : HostFacts) (kind : IdKind) → ReadsTo most_id (id_of facts kind)
unfolding id_of
id_back facts kind whole n fits = rw (decimal_of-decimal most_id n fits (omega arith)) refl

pub port_means : (facts : HostFacts) (numbers : Numbers) → IsKept 65535 numbers → port_test facts (set_item 65535 numbers) ≡ found numbers
port_means facts numbers kept = set_means 65535 _ (port_of facts) numbers (port_back facts) kept

pub id_means : (facts : HostFacts) (kind : IdKind) (numbers : Numbers) → IsKept 4294967295 numbers → id_test facts kind (set_item 4294967295 numbers) ≡ found numbers
id_means facts kind numbers kept = set_means 4294967295 _ (id_of facts kind) numbers (id_back facts kind) kept

pub one_port : (facts : HostFacts) (whole : List ℕ) (n : ℕ) → n ≤ 65535 → port_of facts whole (decimal n) ≡ Ok n
one_port facts whole n fits = port_back facts whole n fits
