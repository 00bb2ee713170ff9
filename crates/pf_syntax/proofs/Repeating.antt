-- Parts in a row, one by one.
use Rattle.std.proofs.Common.{◌≡◌, ℕ, zero, suc, ◌+◌, ◌-◌, ◌<◌, ◌≤◌, Bool, true, false, List, [], ◌∷◌, ◌++◌, Option, Some, None, refl, ap, sym, ◌∙◌, arith}
use Rattle.std.specs.Prelude.{if◌then◌else◌}
use Rattle.pf_syntax.specs.Symbols.{Symbols}
use Rattle.pf_syntax.specs.Readings.{Reading, read_then, read_repeated}
use Rattle.pf_syntax.specs.Grammar.{Grammar}
use Rattle.pf_syntax.specs.Lists.{more_step, with_comma}
use Rattle.pf_syntax.specs.Taking.{StopsWith}
use Rattle.pf_syntax.specs.declared.fault.Stop.{Stop}
use Rattle.pf_syntax.specs.declared.fault.Stop.TheVariants.{Outside, NoMemory}

abbrev said_with : {A : Type 0} → A → Symbols → Option (A × Symbols)
said_with value rest = Some (value, rest)

-- where the parts end, so does the reading
pub repeat_ends : {A : Type 0} (ends : Symbols → Bool) (step : A → Reading A) (most : ℕ) (value : A) (start : Symbols)
    → ends start ≡ true → read_repeated ends step most value start ≡ Some (value, start)
repeat_ends ends step zero value start is = ap (λ b. if b then said_with value start else None) is
repeat_ends ends step (suc most) value start is =
    ap (λ b. if b then said_with value start else read_then (step value start) (read_repeated ends step most)) is

-- no part is left to be read, and they don't end
pub repeat_out : {A : Type 0} (ends : Symbols → Bool) (step : A → Reading A) (value : A) (start : Symbols)
    → ends start ≡ false → read_repeated ends step 0 value start ≡ None
repeat_out ends step value start is = ap (λ b. if b then said_with value start else None) is

-- one part is read
pub repeat_more : {A : Type 0} (ends : Symbols → Bool) (step : A → Reading A) (most : ℕ) (value next : A) (start rest : Symbols)
    → ends start ≡ false → step value start ≡ Some (next, rest) → read_repeated ends step (suc most) value start ≡ read_repeated ends step most next rest
repeat_more ends step most value next start rest is said =
    ap (λ b. if b then said_with value start else read_then (step value start) (read_repeated ends step most)) is
    ∙ ap (λ o. read_then o (read_repeated ends step most)) said

-- a part can't be read
pub repeat_fails : {A : Type 0} (ends : Symbols → Bool) (step : A → Reading A) (most : ℕ) (value : A) (start : Symbols)
    → ends start ≡ false → step value start ≡ None → read_repeated ends step (suc most) value start ≡ None
repeat_fails ends step most value start is said =
    ap (λ b. if b then said_with value start else read_then (step value start) (read_repeated ends step most)) is
    ∙ ap (λ o. read_then o (read_repeated ends step most)) said

-- after so many parts of at most `most`, what is left is read as the whole
pub record Kept {A : Type 0} (ends : Symbols → Bool) (step : A → Reading A) (most done : ℕ) (value : A) (start : Symbols) (whole : Option (A × Symbols)) : Type 0 where
  pub each : (left : ℕ) → done + left ≡ most → read_repeated ends step left value start ≡ whole

pub kept_ends : {A : Type 0} {ends : Symbols → Bool} {step : A → Reading A} {most done : ℕ} {value : A} {start : Symbols} {whole : Option (A × Symbols)}
    → Kept ends step most done value start whole → done ≤ most → ends start ≡ true → whole ≡ Some (value, start)
kept_ends {ends = ends} {step = step} {most = most} {done = done} {value = value} {start = start} kept fits is =
    sym (kept.each (most - done) (omega arith)) ∙ repeat_ends ends step (most - done) value start is

pub kept_next : {A : Type 0} {ends : Symbols → Bool} {step : A → Reading A} {most done : ℕ} {value next : A} {start rest : Symbols} {whole : Option (A × Symbols)}
    → Kept ends step most done value start whole → ends start ≡ false → step value start ≡ Some (next, rest) → Kept ends step most (done + 1) next rest whole
kept_next {ends = ends} {step = step} {value = value} {next = next} {start = start} {rest = rest} kept is said = record {
  each = λ left sums. sym (repeat_more ends step left value next start rest is said) ∙ kept.each (suc left) (omega (arith, sums));
}

pub kept_fails : {A : Type 0} {ends : Symbols → Bool} {step : A → Reading A} {most done : ℕ} {value : A} {start : Symbols} {whole : Option (A × Symbols)}
    → Kept ends step most done value start whole → done < most → ends start ≡ false → step value start ≡ None → whole ≡ None
kept_fails {ends = ends} {step = step} {most = most} {done = done} {value = value} {start = start} kept fits is said =
    sym (kept.each (suc (most - done - 1)) (omega arith)) ∙ repeat_fails ends step (most - done - 1) value start is said

pub kept_out : {A : Type 0} {ends : Symbols → Bool} {step : A → Reading A} {most done : ℕ} {value : A} {start : Symbols} {whole : Option (A × Symbols)}
    → Kept ends step most done value start whole → done ≡ most → ends start ≡ false → whole ≡ None
kept_out {ends = ends} {step = step} {value = value} {start = start} kept same is = sym (kept.each 0 (omega arith)) ∙ repeat_out ends step value start is

-- a further item of a list
pub item_more : {T : Type 0} (item : Grammar T) (items list : List T) (next : T) (start rest : Symbols)
    → (with_comma item).reads start ≡ Some (next, rest) → list ≡ items ++ next ∷ [] → (more_step item items).reads start ≡ Some (list, rest)
item_more item items list next start rest said is =
    ap (λ o. read_then o (λ part behind. said_with (items ++ part ∷ []) behind)) said ∙ sym (ap (λ xs. said_with xs rest) is)

-- an item of a list can't be read
pub item_fails : {T : Type 0} (item : Grammar T) (items : List T) (start : Symbols)
    → (with_comma item).reads start ≡ None → (more_step item items).reads start ≡ None
item_fails item items start said = ap (λ o. read_then o (λ part behind. said_with (items ++ part ∷ []) behind)) said

-- a part that can't be read stops the whole
pub kept_stops : {A : Type 0} {ends : Symbols → Bool} {step : A → Reading A} {most done : ℕ} {value : A} {start : Symbols} {whole : Option (A × Symbols)}
    → (stop : Stop) → Kept ends step most done value start whole → done < most → ends start ≡ false → StopsWith (step value start) stop → StopsWith whole stop
kept_stops Outside kept fits is said = kept_fails kept fits is said
kept_stops NoMemory kept fits is said = tt

pub item_stops : {T : Type 0} (item : Grammar T) (items : List T) (start : Symbols) (stop : Stop)
    → StopsWith ((with_comma item).reads start) stop → StopsWith ((more_step item items).reads start) stop
item_stops item items start Outside said = item_fails item items start said
item_stops item items start NoMemory said = tt
