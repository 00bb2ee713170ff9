-- Names that are added to a path, and the names of a path's text.
use Rattle.std.proofs.Common.{◌≡◌, ℕ, ◌+◌, ◌-◌, ◌<◌, ◌≤◌, Bool, true, List, [], ◌∷◌, ◌++◌, length, take, drop, replicate, refl, sym, ap, ◌∙◌, arith, suc}
use Rattle.std.specs.List.{list_all}
use Rattle.std.proofs.Math.ListN.{set}
use Rattle.std.proofs.Math.Seq.{take-suc-set}
use Rattle.std.proofs.lemmas.List.{take-append-le, take_all, drop-set-lt, drop-drop, length-set, drop-replicate}
use Rattle.std.proofs.lemmas.List.Folds.{list_all-append}
use Rattle.pf_base.specs.Padding.{IsPadded}

-- an item written in the first place behind the items
pub IsPadded-set : {A : Type 0} (fill : A) (room : ℕ) (array : List A) (count : ℕ) (item : A) → IsPadded fill room array count → count < room → IsPadded fill room (set array count item) (count + 1)
IsPadded-set fill room array count item h room_left = record {
  long = length-set array count item ∙ h.long;
  fits = omega arith;
  behind =
      drop-set-lt (count + 1) array count item (omega arith)
      ∙ sym (drop-drop 1 count array)
      ∙ ap (drop 1) h.behind
      ∙ drop-replicate 1 (room - count) fill
      ∙ (let e : room - count - 1 ≡ room - (count + 1) = omega arith in ap (λ n. replicate n fill) e);
}

-- the items are then one more
pub take-set_next : {A : Type 0} (array : List A) (count : ℕ) (item : A) → count < length array → take (count + 1) (set array count item) ≡ take count array ++ item ∷ []
take-set_next array count item h = let e : count + 1 ≡ suc count = omega arith in rw e (take-suc-set array count item h)

pub all_more : {A : Type 0} (p : A → Bool) (array : List A) (count : ℕ) (item : A) → count < length array → list_all p (take count array) ≡ true → p item ≡ true → list_all p (take (count + 1) (set array count item)) ≡ true
all_more p array count item inside all one =
    rw (take-set_next array count item inside) (list_all-append p (take count array) (item ∷ []) ∙ rw (all, one) refl)

-- a path that is full stays as it is
pub take-full : {A : Type 0} (xs ys : List A) → length xs ≤ 8 → 8 ≤ length xs → xs ≡ take 8 (xs ++ ys)
take-full xs ys few full = sym (take-append-le 8 xs ys full ∙ take_all 8 xs few)
