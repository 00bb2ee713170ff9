-- How many entries of one table another has.
use Rattle.std.proofs.Common.{◌≡◌, ◌+◌, ◌-◌, ◌≤◌, Bool, true, false, not, List, [], ◌∷◌, length, Option, Some, None, refl, sym, ap, ◌∙◌, arith, inl, inr, ◌⊎◌}
use Rattle.std.specs.Prelude.{cond, map, is_some}
use Rattle.std.specs.List.{filter}
use Rattle.std.specs.Option.{option_or}
use Rattle.std.specs.FinMap as finite
use Rattle.std.specs.FinMap.{find, from_sorted, entries-from_sorted, get-entries, entries_sorted, len-entries, same_map}
use Rattle.std.specs.FinMap.Entries.{where_key, is_sorted-where_key, find-where_key}
use Rattle.pf_addr.specs.declared.prefix.Prefix.{Prefix}
use Rattle.pf_addr.specs.PrefixOrder.{prefix_cmp, prefix_cmp-total}
use Rattle.pf_table.specs.declared.entry.Entry.{Entry}
use Rattle.pf_table.specs.Table.{Signs, entry, entries_of, is_sign, table_of}
use Rattle.pf_table.specs.TableLaws.{prefixes_tie}
use Rattle.pf_shelf.specs.declared.change.ChangeKind.TheVariants.{Add, Delete}
use Rattle.pf_shelf.specs.Change.{changed, counts, has_entry, having, is_fresh, is_named, lacking}
use Rattle.pf_shelf.proofs.Maps.{entries_filter_same, none_is_some}
use Rattle.pf_shelf.proofs.Signed.{beq_same, fresh_sign, get_deleted, get_joined, get_table, held_sign, sign_in}

filter_mapped : (p : Entry → Bool) (es : List (Prefix × Bool)) → filter p (map entry es) ≡ map entry (filter (λ e. p (entry e)) es)
filter_mapped p [] = refl
filter_mapped p (e ∷ es) = from (filter_mapped p es) (p (entry e))
  where
    from : filter p (map entry es) ≡ map entry (filter (λ e. p (entry e)) es) → (b : Bool) → cond b (entry e ∷ filter p (map entry es)) (filter p (map entry es)) ≡ map entry (cond b (e ∷ filter (λ e. p (entry e)) es) (filter (λ e. p (entry e)) es))
    from rest true = ap (λ l. entry e ∷ l) rest
    from rest false = rest

length_mapped : (es : List (Prefix × Bool)) → length (map entry es) ≡ length es
length_mapped [] = refl
length_mapped (e ∷ es) = let rest = length_mapped es in omega arith

halves : (p : Entry → Bool) (es : List Entry) → length (filter (λ e. not (p e)) es) + length (filter p es) ≡ length es
halves p [] = refl
halves p (e ∷ es) = from (halves p es) (p e)
  where
    from : length (filter (λ e. not (p e)) es) + length (filter p es) ≡ length es → (b : Bool) → length (cond (not b) (e ∷ filter (λ e. not (p e)) es) (filter (λ e. not (p e)) es)) + length (cond b (e ∷ filter p es) (filter p es)) ≡ length (e ∷ es)
    from rest true = omega arith
    from rest false = omega arith

-- what a table lacks of another, and what it has of it
pub lacking_having : (a b : Signs) → length (lacking a b) + length (having a b) ≡ finite.len a
lacking_having a b = halves (has_entry b) (entries_of a) ∙ length_mapped (finite.entries a) ∙ sym (len-entries a)

-- the entries of a that pass, counted
counted : (p : Entry → Bool) (a : Signs) → length (filter p (entries_of a)) ≡ length (filter (λ e. p (entry e)) (finite.entries a))
counted p a = ap length (filter_mapped p (finite.entries a)) ∙ length_mapped (filter (λ e. p (entry e)) (finite.entries a))

-- two tests that agree on the entries of a
alike : (p r : Entry → Bool) (a : Signs) → ((q : Prefix) (s : Bool) → finite.get a q ≡ Some s → p (entry (q, s)) ≡ r (entry (q, s))) → length (filter p (entries_of a)) ≡ length (filter r (entries_of a))
alike p r a h = counted p a ∙ ap length (entries_filter_same prefix_cmp-total prefixes_tie (λ e. p (entry e)) (λ e. r (entry e)) a h) ∙ sym (counted r a)

-- whether a prefix has one sign in both
abbrev level : Option Bool → Option Bool → Bool
level None y = false
level (Some s) y = is_sign y s

module _ (a b : Signs) where
  shared : List (Prefix × Bool)
  shared = where_key prefix_cmp (λ q. level (finite.get a q) (finite.get b q)) (finite.entries a)

  pub both : Signs
  unfolding shared
  both = from_sorted shared

  entries_both : finite.entries both ≡ shared
  unfolding both shared
  entries_both = entries-from_sorted prefix_cmp shared (is_sorted-where_key prefix_cmp (λ q. level (finite.get a q) (finite.get b q)) (finite.entries a) (entries_sorted a))

  get_both : (q : Prefix) → finite.get both q ≡ cond (level (finite.get a q) (finite.get b q)) (finite.get a q) None
  unfolding shared
  get_both q =
      get-entries both q ∙ ap (find prefix_cmp q) entries_both
      ∙ find-where_key prefix_cmp (λ q. level (finite.get a q) (finite.get b q)) q (λ x t. ap (λ (p : Prefix). level (finite.get a p) (finite.get b p)) (sym (prefixes_tie q x t))) (finite.entries a)
      ∙ ap (λ (x : Option Bool). cond (level (finite.get a q) (finite.get b q)) x None) (sym (get-entries a q))

  having_both : length (having a b) ≡ finite.len both
  unfolding shared
  having_both =
      counted (has_entry b) a
      ∙ ap length (entries_filter_same prefix_cmp-total prefixes_tie (λ e. has_entry b (entry e)) (λ e. level (finite.get a e.0) (finite.get b e.0)) a (λ q s e. ap (λ (x : Option Bool). level x (finite.get b q)) (sym e)))
      ∙ ap length (sym entries_both) ∙ sym (len-entries both)

turned : (x y : Option Bool) → cond (level x y) x None ≡ cond (level y x) y None
turned None None = refl
turned None (Some t) = refl
turned (Some s) None = refl
turned (Some true) (Some true) = refl
turned (Some true) (Some false) = refl
turned (Some false) (Some true) = refl
turned (Some false) (Some false) = refl

-- one table has as many entries of another as that one has of it
pub common_same : (a b : Signs) → length (having a b) ≡ length (having b a)
common_same a b =
    having_both a b
    ∙ ap finite.len (same_map prefix_cmp-total prefixes_tie (both a b) (both b a) (λ q. get_both a b q ∙ turned (finite.get a q) (finite.get b q) ∙ sym (get_both b a q)))
    ∙ sym (having_both b a)

-- each prefix of the whole is in one of the two parts, with its sign
pub record IsSplit (whole one other : Signs) : Type 0 where
  pub at : (q : Prefix) → ((finite.get one q ≡ None) × (finite.get whole q ≡ finite.get other q)) ⊎ ((finite.get other q ≡ None) × (finite.get whole q ≡ finite.get one q))

all_pass : (es : List Entry) → length (filter (λ _. true) es) ≡ length es
all_pass [] = refl
all_pass (e ∷ es) = let rest = all_pass es in omega arith

-- a table has all entries of a part of it
within : (a b : Signs) → ((q : Prefix) (s : Bool) → finite.get b q ≡ Some s → finite.get a q ≡ Some s) → length (having b a) ≡ finite.len b
within a b h =
    alike (has_entry a) (λ _. true) b (λ q s e. ap (λ (x : Option Bool). is_sign x s) (h q s e) ∙ beq_same s)
    ∙ all_pass (entries_of b) ∙ length_mapped (finite.entries b) ∙ sym (len-entries b)

module _ (whole one other : Signs) (split : IsSplit whole one other) where
  one_within : length (having one whole) ≡ finite.len one
  one_within = within whole one (λ q s e. elim (split.at q) [
    | inl h ↦ absurd (none_is_some s (sym h.0 ∙ e))
    | inr h ↦ h.1 ∙ e
  ])

  other_within : length (having other whole) ≡ finite.len other
  other_within = within whole other (λ q s e. elim (split.at q) [
    | inl h ↦ h.1 ∙ e
    | inr h ↦ absurd (none_is_some s (sym h.0 ∙ e))
  ])

  other_alone : length (lacking whole one) ≡ finite.len other
  other_alone =
      alike (λ e. not (has_entry one e)) (has_entry other) whole (λ q s e. elim (split.at q) [
        | inl h ↦ ap (λ (x : Option Bool). not (is_sign x s)) h.0 ∙ sym (ap (λ (x : Option Bool). is_sign x s) (sym h.1 ∙ e) ∙ beq_same s)
        | inr h ↦ ap (λ (x : Option Bool). not (is_sign x s)) (sym h.1 ∙ e) ∙ ap not (beq_same s) ∙ sym (ap (λ (x : Option Bool). is_sign x s) h.0)
      ])
      ∙ common_same whole other ∙ other_within

  pub split_len : finite.len whole ≡ finite.len one + finite.len other
  split_len =
      let whole_is = lacking_having whole one in
      let common = common_same whole one ∙ one_within in
      let rest = other_alone in
      omega arith

  nothing_lacks : length (lacking one whole) ≡ 0
  nothing_lacks =
      let one_is = lacking_having one whole in
      let common = one_within in
      omega arith

  -- what is told of a growth, and of a loss
  pub counts_grown : counts one whole ≡ record { added = finite.len other; deleted = 0 }
  counts_grown = λ i. record { added = other_alone i; deleted = nothing_lacks i }

  pub counts_lost : counts whole one ≡ record { added = 0; deleted = finite.len other }
  counts_lost = λ i. record { added = nothing_lacks i; deleted = other_alone i }

pub split_added : (old fresh : Signs) (words : List Entry) → fresh ≡ table_of (filter (is_fresh old) words) → IsSplit (changed Add words old) old fresh
split_added old fresh words is = record { at = λ q. from q (finite.get old q) refl }
  where
    fresh_is : (q : Prefix) (x : Option Bool) → finite.get old q ≡ x → finite.get fresh q ≡ cond (not (is_some x)) (sign_in words q) None
    fresh_is q x e = ap (λ (m : Signs). finite.get m q) is ∙ get_table (filter (is_fresh old) words) q ∙ fresh_sign old words q ∙ ap (λ (y : Option Bool). cond (not (is_some y)) (sign_in words q) None) e

    from : (q : Prefix) (x : Option Bool) → finite.get old q ≡ x → ((finite.get old q ≡ None) × (finite.get (changed Add words old) q ≡ finite.get fresh q)) ⊎ ((finite.get fresh q ≡ None) × (finite.get (changed Add words old) q ≡ finite.get old q))
    from q None e = inl (e, get_joined old words q ∙ ap (λ (y : Option Bool). option_or y (sign_in words q)) e ∙ sym (fresh_is q None e))
    from q (Some s) e = inr (fresh_is q (Some s) e, get_joined old words q ∙ ap (λ (y : Option Bool). option_or y (sign_in words q)) e ∙ sym e)

pub split_deleted : (old gone : Signs) (words : List Entry) → gone ≡ table_of (filter (has_entry old) words) → IsSplit old (changed Delete words old) gone
split_deleted old gone words is = record { at = λ q. from q (is_named words q (finite.get old q)) refl }
  where
    gone_is : (q : Prefix) → finite.get gone q ≡ cond (is_named words q (finite.get old q)) (finite.get old q) None
    gone_is q = ap (λ (m : Signs). finite.get m q) is ∙ get_table (filter (has_entry old) words) q ∙ held_sign old words q

    from : (q : Prefix) (b : Bool) → is_named words q (finite.get old q) ≡ b → ((finite.get (changed Delete words old) q ≡ None) × (finite.get old q ≡ finite.get gone q)) ⊎ ((finite.get gone q ≡ None) × (finite.get old q ≡ finite.get (changed Delete words old) q))
    from q true e = inl (get_deleted words old q ∙ ap (λ (c : Bool). cond (not c) (finite.get old q) None) e, sym (gone_is q ∙ ap (λ (c : Bool). cond c (finite.get old q) None) e))
    from q false e = inr (gone_is q ∙ ap (λ (c : Bool). cond c (finite.get old q) None) e, sym (get_deleted words old q ∙ ap (λ (c : Bool). cond (not c) (finite.get old q) None) e))

-- what is told of a table put in the place of another
pub counts_turned : (old new : Signs) → counts old new ≡ record { added = finite.len new - length (having new old); deleted = finite.len old - length (having new old) }
counts_turned old new =
    let news : length (lacking new old) ≡ finite.len new - length (having new old) = let h = lacking_having new old in omega arith in
    let gone : length (lacking old new) ≡ finite.len old - length (having new old) = let h = lacking_having old new in let c = common_same new old in omega arith in
    λ i. record { added = news i; deleted = gone i }

pub common_fits : (old new : Signs) → (length (having new old) ≤ finite.len new) × (length (having new old) ≤ finite.len old)
common_fits old new =
    let h = lacking_having new old in
    let k = lacking_having old new in
    let c = common_same new old in
    (omega arith, omega arith)
