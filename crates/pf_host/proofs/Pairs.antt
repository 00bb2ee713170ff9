-- Lines and what they say, side by side.
use Rattle.std.proofs.Common.{◌≡◌, ℕ, suc, List, [], ◌∷◌, ◌++◌, length, map, ◌||◌, refl, ap, ◌∙◌}
use Rattle.std.specs.List.{AllZip, list_any}
use Rattle.std.specs.Str.{bytes_eq}
use Rattle.pf_host.specs.declared.row.Row.{Row}
use Rattle.pf_host.specs.Line.{Line}
use Rattle.pf_host.specs.Rows.{has_row}

-- one more of both
pub zip_push : {A B : Type 0} (R : A → B → Type 0) (xs : List A) (ys : List B) (x : A) (y : B) → AllZip R xs ys → R x y → AllZip R (xs ++ x ∷ []) (ys ++ y ∷ [])
zip_push R [] [] x y all last = (last, tt)
zip_push R [] (z ∷ ys) x y all last = absurd all
zip_push R (w ∷ xs) [] x y all last = absurd all
zip_push R (w ∷ xs) (z ∷ ys) x y all last = (all.0, zip_push R xs ys x y all.1 last)

pub zip_length : {A B : Type 0} (R : A → B → Type 0) (xs : List A) (ys : List B) → AllZip R xs ys → length ys ≡ length xs
zip_length R [] [] all = refl
zip_length R [] (z ∷ ys) all = absurd all
zip_length R (w ∷ xs) [] all = absurd all
zip_length R (w ∷ xs) (z ∷ ys) all = ap suc (zip_length R xs ys all.1)

-- the names of the rows are those of the lines
pub zip_names : {T : Type 0} (R : Line → Row T → Type 0) (named : (line : Line) (row : Row T) → R line row → row.name ≡ line.name) (lines : List Line) (rows : List (Row T)) (name : List ℕ) → AllZip R lines rows → has_row rows name ≡ list_any (λ known. bytes_eq known name) (map (λ line. line.name) lines)
zip_names R named [] [] name all = refl
zip_names R named [] (row ∷ rows) name all = absurd all
zip_names R named (line ∷ lines) [] name all = absurd all
zip_names R named (line ∷ lines) (row ∷ rows) name all =
    ap (λ n. bytes_eq n name || has_row rows name) (named line row all.0)
    ∙ ap (λ t. bytes_eq line.name name || t) (zip_names R named lines rows name all.1)
