-- A short list kept in an array: the items in front, and a fill behind them.
use Rattle.std.specs.Prelude.{◌≡◌, ℕ, ◌-◌, ◌≤◌, List, ◌++◌, length, take, drop, replicate}
use Rattle.std.proofs.Common.{sym, ◌∙◌, ap, arith}
use Rattle.std.proofs.lemmas.List.{take-append-drop, length-take-le, length-append, length-drop, length-replicate, drop-replicate}
use Rattle.std.proofs.Math.Seq.{drop-append_seam}

-- the items, made up to `room` places by the fill
abbrev pub padded : {A : Type 0} → A → ℕ → List A → List A
padded fill room items = items ++ replicate (room - length items) fill

-- an array of `room` places has `count` items in front and the fill behind them
pub record IsPadded {A : Type 0} (fill : A) (room : ℕ) (array : List A) (count : ℕ) : Type 0 where
  pub long : length array ≡ room
  pub fits : count ≤ room
  pub behind : drop count array ≡ replicate (room - count) fill

pub length_front : {A : Type 0} (fill : A) (room : ℕ) (array : List A) (count : ℕ) → IsPadded fill room array count → length (take count array) ≡ count
length_front fill room array count h = length-take-le count array (let long = h.long in let fits = h.fits in omega arith)

-- the items in front give the array back
pub padded_front : {A : Type 0} (fill : A) (room : ℕ) (array : List A) (count : ℕ) → IsPadded fill room array count → padded fill room (take count array) ≡ array
padded_front fill room array count h =
    ap (λ n. take count array ++ replicate (room - n) fill) (length_front fill room array count h)
    ∙ (ap (λ rest. take count array ++ rest) (sym h.behind) ∙ take-append-drop count array)

-- items written over the front of an array of fills
pub IsPadded-made : {A : Type 0} (fill : A) (room : ℕ) (items : List A) → length items ≤ room → IsPadded fill room (items ++ drop (length items) (replicate room fill)) (length items)
IsPadded-made fill room items fits = record {
  long = simp (length-append, length-drop, length-replicate) (omega arith);
  fits = fits;
  behind = rw drop-append_seam (drop-replicate (length items) room fill);
}
