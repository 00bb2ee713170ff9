-- The first address of each family of each interface, one address more.
use Rattle.std.proofs.Common.{◌≡◌, Bool, true, false, not, ◌||◌, List, [], ◌∷◌, ◌++◌, filter, refl, ap, ◌∙◌}
use Rattle.std.specs.List.{list_any}
use Rattle.std.proofs.lemmas.List.{append-nil}
use Rattle.std.proofs.lemmas.List.Elements.{filter-append}
use Rattle.pf_addr.specs.declared.parse.Masked.{Masked}
use Rattle.pf_host.specs.declared.row.Row.{Row}
use Rattle.pf_host.specs.Addresses.{first_of_each, is_beside}

-- what the list gains by a last address: nothing where an earlier one is beside it
abbrev gain : Bool → Row Masked → List (Row Masked)
gain true b = []
gain false b = b ∷ []

gain_kept : (beside other : Bool) (a b : Row Masked) → is_beside a b ≡ beside → filter (λ x. not (is_beside a x)) (gain other b) ≡ gain (beside || other) b
gain_kept true true a b e = refl
gain_kept false true a b e = refl
gain_kept true false a b e = rw e refl
gain_kept false false a b e = rw e refl

firsts_push : (addresses : List (Row Masked)) (b : Row Masked) → first_of_each (addresses ++ b ∷ []) ≡ first_of_each addresses ++ gain (list_any (λ a. is_beside a b) addresses) b
firsts_push [] b = refl
firsts_push (a ∷ addresses) b =
    let other = list_any (λ x. is_beside x b) addresses in
    ap (λ rest. a ∷ filter (λ x. not (is_beside a x)) rest) (firsts_push addresses b)
    ∙ ap (λ rest. a ∷ rest) (filter-append (λ x. not (is_beside a x)) (first_of_each addresses) (gain other b)
    ∙ ap (λ rest. filter (λ x. not (is_beside a x)) (first_of_each addresses) ++ rest) (gain_kept (is_beside a b) other a b refl))

-- an address beside an earlier one is left out
pub firsts_stay : (addresses : List (Row Masked)) (b : Row Masked) → list_any (λ a. is_beside a b) addresses ≡ true → first_of_each (addresses ++ b ∷ []) ≡ first_of_each addresses
firsts_stay addresses b e = firsts_push addresses b ∙ (ap (λ t. first_of_each addresses ++ gain t b) e ∙ append-nil (first_of_each addresses))

-- another is added
pub firsts_grow : (addresses : List (Row Masked)) (b : Row Masked) → list_any (λ a. is_beside a b) addresses ≡ false → first_of_each (addresses ++ b ∷ []) ≡ first_of_each addresses ++ b ∷ []
firsts_grow addresses b e = firsts_push addresses b ∙ ap (λ t. first_of_each addresses ++ gain t b) e
