-- What the tables of lists of words find.
use Rattle.std.proofs.Common.{◌≡◌, ℕ, zero, suc, Bool, true, false, not, ◌&&◌, ◌||◌, List, [], ◌∷◌, ◌++◌, take, Option, Some, None, refl, sym, ap, ◌∙◌, inl, inr, ◌⊎◌, append_assoc, append-nil}
use Rattle.std.specs.Prelude.{cond, map, is_some}
use Rattle.std.specs.List.{filter}
use Rattle.std.specs.Option.{option_or}
use mathlib.Core.Bool.{beq}
use Rattle.std.specs.FinMap as finite
use Rattle.std.specs.FinMap.{find, get-entries, get-from_entries, get-remove, get-retain_keys, same_map}
use Rattle.std.specs.Ordering.{eq_by_cmp}
use Rattle.std.proofs.lemmas.List.{map-append}
use Rattle.pf_addr.specs.declared.prefix.Prefix.{Prefix}
use Rattle.pf_addr.specs.PrefixOrder.{prefix_cmp, prefix_cmp-total, prefix_eq, prefix_eq-prefix_cmp, prefixes}
use Rattle.pf_table.specs.declared.entry.Entry.{Entry}
use Rattle.pf_table.specs.Table.{Signs, entries_of, is_sign, paired, table_of, with_entry, without_entry}
use Rattle.pf_table.specs.Pushed.{found_or}
use Rattle.pf_table.specs.TableLaws.{paired_back, prefixes_tie, table_more}
use Rattle.pf_shelf.specs.declared.change.ChangeKind.TheVariants.{Add, Delete}
use Rattle.pf_shelf.specs.Change.{changed, has_entry, is_fresh, is_named}
use Rattle.pf_shelf.specs.Altered.{IsApart}
use Rattle.pf_shelf.proofs.Maps.{none_is_some}

-- the sign with which the words have the prefix first
abbrev pub sign_in : List Entry → Prefix → Option Bool
sign_in words q = find prefix_cmp q (map paired words)

pub sign_listed : (m : Signs) (q : Prefix) → sign_in (entries_of m) q ≡ finite.get m q
sign_listed m q = ap (find prefix_cmp q) (paired_back (finite.entries m)) ∙ sym (get-entries m q)

pub get_table : (words : List Entry) (q : Prefix) → finite.get (table_of words) q ≡ sign_in words q
get_table words q = get-from_entries prefix_cmp-total (map paired words) q

pub get_joined : (m : Signs) (words : List Entry) (q : Prefix) → finite.get (table_of (entries_of m ++ words)) q ≡ option_or (finite.get m q) (sign_in words q)
get_joined m words q =
    get_table (entries_of m ++ words) q
    ∙ ap (find prefix_cmp q) (map-append paired (entries_of m) words)
    ∙ found_or prefix_cmp (map paired (entries_of m)) (map paired words) q
    ∙ ap (λ (x : Option Bool). option_or x (sign_in words q)) (sign_listed m q)

one_prefix : (p q : Prefix) → prefix_eq p q ≡ true → p ≡ q
one_prefix p q t = (prefixes.decides p q).0 t

by_eq : (q : Prefix) (w : Entry) (x y : Option Bool) → cond (eq_by_cmp prefix_cmp q w.prefix) x y ≡ cond (prefix_eq q w.prefix) x y
by_eq q w x y = ap (λ (b : Bool). cond b x y) (sym (prefix_eq-prefix_cmp q w.prefix))

pub beq_same : (b : Bool) → beq b b ≡ true
beq_same true = refl
beq_same false = refl

pub beq_is : (a b : Bool) → beq a b ≡ true → a ≡ b
beq_is true true h = refl
beq_is true false h = absurd (cc)
beq_is false true h = absurd (cc)
beq_is false false h = refl

pub sign_is : (x : Option Bool) (n : Bool) → is_sign x n ≡ true → x ≡ Some n
sign_is None n h = absurd (cc)
sign_is (Some s) n h = ap Some (beq_is s n h)

-- the words of prefixes that a table lacks
pub fresh_sign : (m : Signs) (words : List Entry) (q : Prefix) → sign_in (filter (is_fresh m) words) q ≡ cond (not (is_some (finite.get m q))) (sign_in words q) None
fresh_sign m [] q = none (not (is_some (finite.get m q)))
  where
    none : (b : Bool) → ◌≡◌ {A = Option Bool} None (cond b None None)
    none true = refl
    none false = refl
fresh_sign m (w ∷ words) q = from (fresh_sign m words q) (eq_by_cmp prefix_cmp q w.prefix) refl (is_fresh m w) refl
  where
    here : eq_by_cmp prefix_cmp q w.prefix ≡ true → is_fresh m w ≡ not (is_some (finite.get m q))
    here t = ap (λ (p : Prefix). not (is_some (finite.get m p))) (sym (one_prefix q w.prefix (prefix_eq-prefix_cmp q w.prefix ∙ t)))

    from : sign_in (filter (is_fresh m) words) q ≡ cond (not (is_some (finite.get m q))) (sign_in words q) None → (t : Bool) → eq_by_cmp prefix_cmp q w.prefix ≡ t → (b : Bool) → is_fresh m w ≡ b → sign_in (cond b (w ∷ filter (is_fresh m) words) (filter (is_fresh m) words)) q ≡ cond (not (is_some (finite.get m q))) (cond t (Some w.negated) (sign_in words q)) None
    from rest false t true b = ap (λ (c : Bool). cond c (Some w.negated) (sign_in (filter (is_fresh m) words) q)) t ∙ rest
    from rest false t false b = rest
    from rest true t true b =
        ap (λ (c : Bool). cond c (Some w.negated) (sign_in (filter (is_fresh m) words) q)) t
        ∙ ap (λ (c : Bool). cond c (Some w.negated) None) (sym b ∙ here t)
    from rest true t false b =
        rest ∙ ap (λ (c : Bool). cond c (sign_in words q) None) (sym (here t) ∙ b) ∙ ap (λ (c : Bool). cond c (Some w.negated) None) (sym b ∙ here t)

-- the words that a table has
pub held_sign : (m : Signs) (words : List Entry) (q : Prefix) → sign_in (filter (has_entry m) words) q ≡ cond (is_named words q (finite.get m q)) (finite.get m q) None
held_sign m [] q = refl
held_sign m (w ∷ words) q = from (held_sign m words q) (prefix_eq q w.prefix) refl (has_entry m w) refl
  where
    here : prefix_eq q w.prefix ≡ true → is_sign (finite.get m q) w.negated ≡ has_entry m w
    here t = ap (λ (p : Prefix). is_sign (finite.get m p) w.negated) (one_prefix q w.prefix t)

    from : sign_in (filter (has_entry m) words) q ≡ cond (is_named words q (finite.get m q)) (finite.get m q) None → (t : Bool) → prefix_eq q w.prefix ≡ t → (b : Bool) → has_entry m w ≡ b → sign_in (cond b (w ∷ filter (has_entry m) words) (filter (has_entry m) words)) q ≡ cond ((t && is_sign (finite.get m q) w.negated) || is_named words q (finite.get m q)) (finite.get m q) None
    from rest false t true b = by_eq q w (Some w.negated) (sign_in (filter (has_entry m) words) q) ∙ ap (λ (c : Bool). cond c (Some w.negated) (sign_in (filter (has_entry m) words) q)) t ∙ rest
    from rest false t false b = rest
    from rest true t true b =
        by_eq q w (Some w.negated) (sign_in (filter (has_entry m) words) q) ∙ ap (λ (c : Bool). cond c (Some w.negated) (sign_in (filter (has_entry m) words) q)) t
        ∙ sym (sign_is (finite.get m q) w.negated (here t ∙ b))
        ∙ sym (ap (λ (c : Bool). cond (c || is_named words q (finite.get m q)) (finite.get m q) None) (here t ∙ b))
    from rest true t false b =
        rest ∙ sym (ap (λ (c : Bool). cond (c || is_named words q (finite.get m q)) (finite.get m q) None) (here t ∙ b))

-- what a table has after a deletion
pub get_deleted : (words : List Entry) (m : Signs) (q : Prefix) → finite.get (changed Delete words m) q ≡ cond (not (is_named words q (finite.get m q))) (finite.get m q) None
get_deleted words m q =
    get-retain_keys m (λ p. not (is_named words p (finite.get m p))) q (λ x t. ap (λ (p : Prefix). not (is_named words p (finite.get m p))) (sym (prefixes_tie q x t)))

named_push : (words : List Entry) (w : Entry) (q : Prefix) (x : Option Bool) → is_named (words ++ w ∷ []) q x ≡ (is_named words q x || (prefix_eq q w.prefix && is_sign x w.negated))
named_push [] w q x = last (prefix_eq q w.prefix && is_sign x w.negated)
  where
    last : (b : Bool) → (b || false) ≡ b
    last true = refl
    last false = refl
named_push (v ∷ words) w q x = ap (λ (b : Bool). (prefix_eq q v.prefix && is_sign x v.negated) || b) (named_push words w q x) ∙ apart (prefix_eq q v.prefix && is_sign x v.negated) (is_named words q x) (prefix_eq q w.prefix && is_sign x w.negated)
  where
    apart : (a b c : Bool) → (a || (b || c)) ≡ ((a || b) || c)
    apart true b c = refl
    apart false b c = refl

-- one more word is deleted
gone_point : (x : Option Bool) (n named t s : Bool) → (t ≡ true → s ≡ is_sign (cond (not named) x None) n) → cond s (cond t None (cond (not named) x None)) (cond (not named) x None) ≡ cond (not (named || (t && is_sign x n))) x None
gone_point x n true false true h = refl
gone_point x n true false false h = refl
gone_point x n false false true h = refl
gone_point x n false false false h = refl
gone_point x n true true true h = refl
gone_point x n true true false h = refl
gone_point x n false true true h = ap (λ (b : Bool). cond (not b) x None) (h refl)
gone_point x n false true false h = ap (λ (b : Bool). cond (not b) x None) (h refl)

through : (s : Bool) (a b : Signs) (q : Prefix) → finite.get {R = prefix_cmp} (cond s a b) q ≡ cond s (finite.get a q) (finite.get b q)
through true a b q = refl
through false a b q = refl

module _ (words : List Entry) (w : Entry) (m : Signs) where
  abbrev left : Signs
  left = changed Delete words m

  abbrev sign : Bool
  sign = is_sign (finite.get left w.prefix) w.negated

  deleted_at : (q : Prefix) → finite.get (without_entry left w) q ≡ finite.get (changed Delete (words ++ w ∷ []) m) q
  deleted_at q =
      through sign (finite.remove left w.prefix) left q
      ∙ ap (λ (x : Option Bool). cond sign x (finite.get left q)) (get-remove prefix_cmp-total left w.prefix q ∙ by_eq q w None (finite.get left q))
      ∙ ap (λ (x : Option Bool). cond sign (cond (prefix_eq q w.prefix) None x) x) (get_deleted words m q)
      ∙ gone_point (finite.get m q) w.negated (is_named words q (finite.get m q)) (prefix_eq q w.prefix) sign (λ t. ap (λ (p : Prefix). is_sign (finite.get left p) w.negated) (sym (one_prefix q w.prefix t)) ∙ ap (λ (x : Option Bool). is_sign x w.negated) (get_deleted words m q))
      ∙ sym (get_deleted (words ++ w ∷ []) m q ∙ ap (λ (b : Bool). cond (not b) (finite.get m q) None) (named_push words w q (finite.get m q)))

  pub deleted_more : without_entry (changed Delete words m) w ≡ changed Delete (words ++ w ∷ []) m
  deleted_more = same_map prefix_cmp-total prefixes_tie _ _ deleted_at

pub deleted_none : (m : Signs) → m ≡ changed Delete [] m
deleted_none m = same_map prefix_cmp-total prefixes_tie _ _ (λ q. sym (get_deleted [] m q))

-- what stands in a front of the words is one of them
front_named : (words : List Entry) (i : ℕ) (q : Prefix) (s : Bool) → sign_in (take i words) q ≡ Some s → is_named words q (Some s) ≡ true
front_named [] i q s h = absurd (none_is_some s (sym (nothing i) ∙ h))
  where
    nothing : (i : ℕ) → sign_in (take i []) q ≡ None
    nothing zero = refl
    nothing (suc i) = refl
front_named (w ∷ words) zero q s h = absurd (none_is_some s h)
front_named (w ∷ words) (suc i) q s h = from (front_named words i q s) (prefix_eq q w.prefix) (sym (by_eq q w (Some w.negated) (sign_in (take i words) q)) ∙ h)
  where
    from : (sign_in (take i words) q ≡ Some s → is_named words q (Some s) ≡ true) → (t : Bool) → cond t (Some w.negated) (sign_in (take i words) q) ≡ Some s → ((t && beq s w.negated) || is_named words q (Some s)) ≡ true
    from rest true e = let same : w.negated ≡ s = cc in ap (λ (b : Bool). b || is_named words q (Some s)) (ap (beq s) same ∙ beq_same s)
    from rest false e = rest e

none_named : (words : List Entry) (q : Prefix) (x : Option Bool) → sign_in words q ≡ None → is_named words q x ≡ false
none_named [] q x h = refl
none_named (w ∷ words) q x h = from (none_named words q x) (prefix_eq q w.prefix) (sym (by_eq q w (Some w.negated) (sign_in words q)) ∙ h)
  where
    from : (sign_in words q ≡ None → is_named words q x ≡ false) → (t : Bool) → cond t (Some w.negated) (sign_in words q) ≡ None → ((t && is_sign x w.negated) || is_named words q x) ≡ false
    from rest true e = absurd (none_is_some w.negated (sym e))
    from rest false e = rest e

-- to delete what was to be added, of which a front has been added, leaves the table as it was
pub taken_back : (old fresh : Signs) (i : ℕ) → IsApart old fresh → changed Delete (entries_of fresh) (table_of (entries_of old ++ take i (entries_of fresh))) ≡ old
taken_back old fresh i h = same_map prefix_cmp-total prefixes_tie _ _ at
  where
    list : List Entry
    list = entries_of fresh

    at : (q : Prefix) → finite.get (changed Delete (entries_of fresh) (table_of (entries_of old ++ take i (entries_of fresh)))) q ≡ finite.get old q
    at q =
        get_deleted (entries_of fresh) (table_of (entries_of old ++ take i (entries_of fresh))) q
        ∙ ap (λ (x : Option Bool). cond (not (is_named (entries_of fresh) q x)) x None) (get_joined old (take i (entries_of fresh)) q)
        ∙ elim (h.apart q) [
          | inl none ↦ ap (λ (x : Option Bool). cond (not (is_named (entries_of fresh) q (option_or x (sign_in (take i (entries_of fresh)) q)))) (option_or x (sign_in (take i (entries_of fresh)) q)) None) none ∙ added (sign_in (take i (entries_of fresh)) q) refl ∙ sym none
          | inr none ↦ stays (sign_listed fresh q ∙ none) (sign_in (take i (entries_of fresh)) q) refl
        ]
      where
        added : (x : Option Bool) → sign_in (take i (entries_of fresh)) q ≡ x → cond (not (is_named (entries_of fresh) q x)) x None ≡ None
        added None e = either (not (is_named (entries_of fresh) q None))
          where
            either : (b : Bool) → ◌≡◌ {A = Option Bool} (cond b None None) None
            either true = refl
            either false = refl
        added (Some s) e = ap (λ (b : Bool). cond (not b) (Some s) None) (front_named (entries_of fresh) i q s e)

        stays : sign_in (entries_of fresh) q ≡ None → (y : Option Bool) → sign_in (take i (entries_of fresh)) q ≡ y → cond (not (is_named (entries_of fresh) q (option_or (finite.get old q) y))) (option_or (finite.get old q) y) None ≡ finite.get old q
        stays none None e = ap (λ (b : Bool). cond (not b) (option_or (finite.get old q) None) None) (none_named (entries_of fresh) q (option_or (finite.get old q) None) none) ∙ or_none (finite.get old q)
          where
            or_none : (x : Option Bool) → option_or x None ≡ x
            or_none None = refl
            or_none (Some s) = refl
        stays none (Some s) e = absurd (differ (sym (front_named (entries_of fresh) i q s e) ∙ none_named (entries_of fresh) q (Some s) none))
          where
            differ : true ≡ false → ⊥
            differ e = cc

-- the words of new prefixes are what the words add
pub fresh_apart : (old : Signs) (words : List Entry) → IsApart old (table_of (filter (is_fresh old) words))
fresh_apart old words = record { apart = λ q. from q (finite.get old q) refl }
  where
    from : (q : Prefix) (x : Option Bool) → finite.get old q ≡ x → (finite.get old q ≡ None) ⊎ (finite.get (table_of (filter (is_fresh old) words)) q ≡ None)
    from q None e = inl e
    from q (Some s) e = inr (get_table (filter (is_fresh old) words) q ∙ fresh_sign old words q ∙ ap (λ (x : Option Bool). cond (not (is_some x)) (sign_in words q) None) e)

pub fresh_adds : (old fresh : Signs) (words : List Entry) → fresh ≡ table_of (filter (is_fresh old) words) → table_of (entries_of old ++ entries_of fresh) ≡ changed Add words old
fresh_adds old fresh words is = same_map prefix_cmp-total prefixes_tie _ _ (λ q.
    get_joined old (entries_of fresh) q
    ∙ ap (λ (x : Option Bool). option_or (finite.get old q) x) (sign_listed fresh q ∙ ap (λ (m : Signs). finite.get m q) is ∙ get_table (filter (is_fresh old) words) q ∙ fresh_sign old words q)
    ∙ or_fresh (finite.get old q) (sign_in words q)
    ∙ sym (get_joined old words q))
  where
    or_fresh : (x y : Option Bool) → option_or x (cond (not (is_some x)) y None) ≡ option_or x y
    or_fresh None y = refl
    or_fresh (Some s) y = refl

pub filter_push : {A : Type 0} (p : A → Bool) (xs : List A) (x : A) → filter p (xs ++ x ∷ []) ≡ filter p xs ++ cond (p x) (x ∷ []) []
filter_push p [] x = from (p x)
  where
    from : (b : Bool) → cond b (x ∷ []) [] ≡ [] ++ cond b (x ∷ []) []
    from true = refl
    from false = refl
filter_push p (y ∷ xs) x = from (filter_push p xs x) (p y)
  where
    from : filter p (xs ++ x ∷ []) ≡ filter p xs ++ cond (p x) (x ∷ []) [] → (b : Bool) → cond b (y ∷ filter p (xs ++ x ∷ [])) (filter p (xs ++ x ∷ [])) ≡ cond b (y ∷ filter p xs) (filter p xs) ++ cond (p x) (x ∷ []) []
    from rest true = ap (λ l. y ∷ l) rest
    from rest false = rest

-- one more word behind those that are added
pub added_more : (m : Signs) (words : List Entry) (w : Entry) → with_entry (table_of (entries_of m ++ words)) w ≡ table_of (entries_of m ++ (words ++ w ∷ []))
added_more m words w = sym (ap table_of (sym (append_assoc (entries_of m) words (w ∷ []))) ∙ table_more (entries_of m ++ words) w)

-- one more word, where it passes the test
pub passed_more : (p : Entry → Bool) (words : List Entry) (w : Entry) → p w ≡ true → with_entry (table_of (filter p words)) w ≡ table_of (filter p (words ++ w ∷ []))
passed_more p words w h = sym (ap table_of (filter_push p words w ∙ ap (λ (b : Bool). filter p words ++ cond b (w ∷ []) []) h) ∙ table_more (filter p words) w)

pub failed_more : (p : Entry → Bool) (words : List Entry) (w : Entry) → p w ≡ false → table_of (filter p words) ≡ table_of (filter p (words ++ w ∷ []))
failed_more p words w h = sym (ap table_of (filter_push p words w ∙ ap (λ (b : Bool). filter p words ++ cond b (w ∷ []) []) h ∙ append-nil (filter p words)))
