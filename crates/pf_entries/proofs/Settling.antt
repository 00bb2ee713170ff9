-- Which entries of a declaration count, one after the other.
use Rattle.std.proofs.Common.{◌≡◌, ℕ, ◌+◌, ◌<◌, Bool, true, false, cond, not, List, [], ◌∷◌, ◌++◌, length, take, drop, drop-cons, add-one, suc, get_or, Option, Some, None, refl, sym, ap, ◌∙◌, subst, append_assoc}
use mathlib.Core.Bool.{beq}
use Rattle.std.specs.Prelude.{◌&&◌, ◌||◌, is_some}
use Rattle.std.specs.List.{list_any}
use Rattle.std.specs.FinMap as finite
use Rattle.std.proofs.lemmas.List.Folds.{list_any-append}
use Rattle.pf_base.specs.declared.fault.Place.{Place}
use Rattle.pf_addr.specs.PrefixOrder.{prefix_cmp, prefix_cmp-total, prefix_eq, prefix_eq-equivalence, prefix_eq-prefix_cmp, prefix_same}
use Rattle.pf_addr.specs.declared.prefix.Prefix.{Prefix}
use Rattle.pf_table.specs.Table.{Signs, with_entry}
use Rattle.pf_table.specs.declared.entry.Entry.{Entry}
use Rattle.pf_entries.specs.Tables.{conflict_behind, conflict_in, contradicts, distinct, new_behind, same_sign}
use Rattle.pf_entries.specs.declared.gathered.Placed.{Placed}

abbrev has_prefix : Prefix → Placed → Bool
has_prefix prefix other = prefix_eq other.entry.prefix prefix

-- the other sign than the one that is known
abbrev differs : Option Bool → Bool → Bool
differs None sign = false
differs (Some known) sign = not (same_sign known sign)

-- a table knows of earlier entries which prefixes they have, each with one sign
pub record Knows (earlier : List Placed) (seen : Signs) : Type 0 where
  pub met : (prefix : Prefix) → list_any (has_prefix prefix) earlier ≡ is_some (finite.get seen prefix)
  pub other : (entry : Entry) → list_any (contradicts entry) earlier ≡ differs (finite.get seen entry.prefix) entry.negated

or_true : (b : Bool) → (b || true) ≡ true
or_true true = refl
or_true false = refl

or_false : (b : Bool) → (b || false) ≡ b
or_false true = refl
or_false false = refl

or_itself : (b : Bool) → (b || (b || false)) ≡ b
or_itself true = refl
or_itself false = refl

met_more : (b : Bool) (found : Option Bool) (sign : Bool) → (is_some found || (b || false)) ≡ is_some (cond b (Some sign) found)
met_more true found sign = or_true (is_some found)
met_more false found sign = or_false (is_some found)

other_more : (b : Bool) (found : Option Bool) (sign asked : Bool) → (b ≡ true → found ≡ None)
    → (differs found asked || ((b && not (same_sign sign asked)) || false)) ≡ differs (cond b (Some sign) found) asked
other_more true found sign asked none = ap (λ (f : Option Bool). differs f asked || (not (same_sign sign asked) || false)) (none refl) ∙ or_false (not (same_sign sign asked))
other_more false found sign asked none = or_false (differs found asked)

met_same : (b : Bool) (found : Option Bool) (sign : Bool) → (b ≡ true → found ≡ Some sign) → (is_some found || (b || false)) ≡ is_some found
met_same true found sign known = or_true (is_some found) ∙ ap is_some (sym (known refl))
met_same false found sign known = or_false (is_some found)

other_same : (b : Bool) (found : Option Bool) (sign asked : Bool) → (b ≡ true → found ≡ Some sign)
    → (differs found asked || ((b && not (same_sign sign asked)) || false)) ≡ differs found asked
other_same true found sign asked known =
    ap (λ (f : Option Bool). differs f asked || (not (same_sign sign asked) || false)) (known refl) ∙ or_itself (not (same_sign sign asked)) ∙ ap (λ (f : Option Bool). differs f asked) (sym (known refl))
other_same false found sign asked known = or_false (differs found asked)

-- nothing was met in a table without entries
knows_none : (seen : Signs) → seen ≡ finite.empty → Knows [] seen
knows_none seen empty = record {
  met = λ prefix. ap is_some (sym (none prefix));
  other = λ entry. ap (λ (found : Option Bool). differs found entry.negated) (sym (none entry.prefix));
}
  where
    none : (prefix : Prefix) → finite.get seen prefix ≡ None
    none prefix = ap (λ (s : Signs). finite.get s prefix) empty ∙ finite.get-empty prefix_cmp prefix

module _ (earlier : List Placed) (one : Placed) (seen : Signs) (knows : Knows earlier seen) where
  met_then : (prefix : Prefix) → list_any (has_prefix prefix) (earlier ++ one ∷ []) ≡ (is_some (finite.get seen prefix) || (prefix_eq one.entry.prefix prefix || false))
  met_then prefix = list_any-append (has_prefix prefix) earlier (one ∷ []) ∙ ap (λ (b : Bool). b || (prefix_eq one.entry.prefix prefix || false)) (knows.met prefix)

  other_then : (entry : Entry) → list_any (contradicts entry) (earlier ++ one ∷ [])
      ≡ (differs (finite.get seen entry.prefix) entry.negated || ((prefix_eq one.entry.prefix entry.prefix && not (same_sign one.entry.negated entry.negated)) || false))
  other_then entry =
      list_any-append (contradicts entry) earlier (one ∷ [])
      ∙ ap (λ (b : Bool). b || ((prefix_eq one.entry.prefix entry.prefix && not (same_sign one.entry.negated entry.negated)) || false)) (knows.other entry)

  -- the same prefix is found as it is
  found_same : (prefix : Prefix) (found : Option Bool) → finite.get seen one.entry.prefix ≡ found → prefix_eq one.entry.prefix prefix ≡ true → finite.get seen prefix ≡ found
  found_same prefix found is same = ap (finite.get seen) (sym (prefix_same one.entry.prefix prefix same)) ∙ is

  -- a new prefix
  knows_new : (new : Signs) → finite.get seen one.entry.prefix ≡ None → new ≡ with_entry seen one.entry → Knows (earlier ++ one ∷ []) new
  knows_new new none are = record {
    met = λ prefix. met_then prefix ∙ met_more (prefix_eq one.entry.prefix prefix) (finite.get seen prefix) one.entry.negated ∙ ap is_some (sym (then prefix));
    other = λ entry. other_then entry
        ∙ other_more (prefix_eq one.entry.prefix entry.prefix) (finite.get seen entry.prefix) one.entry.negated entry.negated (found_same entry.prefix None none)
        ∙ ap (λ (found : Option Bool). differs found entry.negated) (sym (then entry.prefix));
  }
    where
      inserted : new ≡ finite.insert seen one.entry.prefix one.entry.negated
      inserted = are ∙ ap (λ (found : Option Bool). cond (is_some found) seen (finite.insert seen one.entry.prefix one.entry.negated)) none

      then : (prefix : Prefix) → finite.get new prefix ≡ cond (prefix_eq one.entry.prefix prefix) (Some one.entry.negated) (finite.get seen prefix)
      then prefix =
          ap (λ (s : Signs). finite.get s prefix) inserted ∙ finite.get-insert prefix_cmp-total seen one.entry.prefix one.entry.negated prefix
          ∙ ap (λ (b : Bool). cond b (Some one.entry.negated) (finite.get seen prefix)) (sym (prefix_eq-prefix_cmp prefix one.entry.prefix) ∙ prefix_eq-equivalence.symm prefix one.entry.prefix)

  -- a prefix that was met with this sign
  knows_known : finite.get seen one.entry.prefix ≡ Some one.entry.negated → Knows (earlier ++ one ∷ []) seen
  knows_known known = record {
    met = λ prefix. met_then prefix ∙ met_same (prefix_eq one.entry.prefix prefix) (finite.get seen prefix) one.entry.negated (found_same prefix (Some one.entry.negated) known);
    other = λ entry. other_then entry
        ∙ other_same (prefix_eq one.entry.prefix entry.prefix) (finite.get seen entry.prefix) one.entry.negated entry.negated (found_same entry.prefix (Some one.entry.negated) known);
  }

pub same_signs : (sign other : Bool) → not (beq sign other) ≡ false → sign ≡ other
same_signs true true h = refl
same_signs true false h = absurd cc
same_signs false true h = absurd cc
same_signs false false h = refl

-- the next item of a list
pub next_item : {A : Type 0} (xs : List A) (i : ℕ) (x : A) → i < length xs → x ≡ get_or xs i x → drop i xs ≡ x ∷ drop (i + 1) xs
next_item {A} xs i x low is =
    drop-cons xs i x low ∙ ap (λ (first : A). first ∷ drop (suc i) xs) (sym is) ∙ ap (λ (n : ℕ). x ∷ drop n xs) (sym (add-one i))

-- where the entries stand so far: what is left decides the rest
pub record SettledSoFar (placed earlier rest : List Placed) (seen : Signs) (counted : List Entry) : Type 0 where
  pub knows : Knows earlier seen
  pub conflict : conflict_in placed ≡ conflict_behind earlier rest
  pub entries : distinct placed ≡ counted ++ new_behind earlier rest

pub at_first : (placed : List Placed) (seen : Signs) → seen ≡ finite.empty → SettledSoFar placed [] placed seen []
at_first placed seen empty = record { knows = knows_none seen empty; conflict = refl; entries = refl }

same_itself : (sign : Bool) → same_sign sign sign ≡ true
same_itself true = refl
same_itself false = refl

module _ (placed earlier rest : List Placed) (one : Placed) (seen : Signs) (entries : List Entry) (so : SettledSoFar placed earlier (one ∷ rest) seen entries) where
  -- one that contradicts none
  goes_on : (found : Option Bool) → finite.get seen one.entry.prefix ≡ found → differs found one.entry.negated ≡ false → conflict_in placed ≡ conflict_behind (earlier ++ one ∷ []) rest
  goes_on found is fine =
      so.conflict ∙ ap (λ (b : Bool). cond b (Some one.place) (conflict_behind (earlier ++ one ∷ []) rest)) (so.knows.other one.entry ∙ ap (λ (f : Option Bool). differs f one.entry.negated) is ∙ fine)

  lists : (found : Option Bool) → finite.get seen one.entry.prefix ≡ found
      → distinct placed ≡ entries ++ cond (is_some found) (new_behind (earlier ++ one ∷ []) rest) (one.entry ∷ new_behind (earlier ++ one ∷ []) rest)
  lists found is =
      so.entries ∙ ap (λ (b : Bool). entries ++ cond b (new_behind (earlier ++ one ∷ []) rest) (one.entry ∷ new_behind (earlier ++ one ∷ []) rest)) (so.knows.met one.entry.prefix ∙ ap is_some is)

  pub one_new : (new : Signs) → finite.get seen one.entry.prefix ≡ None → new ≡ with_entry seen one.entry → SettledSoFar placed (earlier ++ one ∷ []) rest new (entries ++ one.entry ∷ [])
  one_new new none are = record {
    knows = knows_new earlier one seen so.knows new none are;
    conflict = goes_on None none refl;
    entries = lists None none ∙ sym (append_assoc entries (one.entry ∷ []) (new_behind (earlier ++ one ∷ []) rest));
  }

  pub one_known : finite.get seen one.entry.prefix ≡ Some one.entry.negated → SettledSoFar placed (earlier ++ one ∷ []) rest seen entries
  one_known known = record {
    knows = knows_known earlier one seen so.knows known;
    conflict = goes_on (Some one.entry.negated) known (ap not (same_itself one.entry.negated));
    entries = lists (Some one.entry.negated) known;
  }

  pub one_stops : (sign : Bool) → finite.get seen one.entry.prefix ≡ Some sign → same_sign sign one.entry.negated ≡ false → conflict_in placed ≡ Some one.place
  one_stops sign known differ =
      so.conflict ∙ ap (λ (b : Bool). cond b (Some one.place) (conflict_behind (earlier ++ one ∷ []) rest)) (so.knows.other one.entry ∙ ap (λ (f : Option Bool). differs f one.entry.negated) known ∙ ap not differ)
