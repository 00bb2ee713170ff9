-- What a change of one table leaves and tells.
use Rattle.std.proofs.Common.{◌≡◌, Bool, ℕ, ◌+◌, ◌-◌, ◌≤◌, List, ◌++◌, take, length, refl, sym, ap, ◌∙◌, subst, arith, inl}
use Rattle.std.specs.List.{filter}
use Rattle.std.specs.FinMap as finite
use Rattle.std.specs.FinMap.{get-empty, len-empty}
use Rattle.pf_addr.specs.PrefixOrder.{prefix_cmp}
use Rattle.pf_table.specs.declared.entry.Entry.{Entry}
use Rattle.pf_table.specs.Table.{Signs, entries_of, table_of}
use Rattle.pf_shelf.specs.declared.change.Counts.{Counts}
use Rattle.pf_shelf.specs.declared.change.TableFault.{TableFault}
use Rattle.pf_shelf.specs.declared.change.ChangeKind.TheVariants.{Add, Delete, Replace, Flush}
use Rattle.pf_shelf.specs.Change.{HasFront, changed, counts, has_entry, having, is_fresh}
use Rattle.pf_shelf.specs.Altered.{IsApart, IsDone, IsRefused, IsUnfit}
use Rattle.pf_shelf.proofs.Signed.{fresh_adds, fresh_apart, taken_back}
use Rattle.pf_shelf.proofs.Counted.{counts_grown, counts_lost, counts_turned, split_added, split_deleted, split_len}

-- a table is as it was once all of a list is removed of which a front was added
pub taken_away : (old fresh mid new : Signs) (added removed : List Entry) → added ≡ entries_of fresh → removed ≡ entries_of fresh → IsApart old fresh → HasFront old added mid → new ≡ changed Delete removed mid → new ≡ old
taken_away old fresh mid new added removed e f apart front is =
    is ∙ ap (λ (t : List Entry). changed Delete t mid) f
    ∙ ap (changed Delete (entries_of fresh)) (front.is ∙ ap (λ (t : List Entry). table_of (entries_of old ++ take front.count t)) e)
    ∙ taken_back old fresh front.count apart

told_of : (a b c d : ℕ) (t : Counts) → t ≡ record { added = a; deleted = b } → c ≡ a → d ≡ b → ◌≡◌ {A = Counts} (record { added = c; deleted = d }) t
told_of a b c d t is e f = (λ i. record { added = e i; deleted = f i }) ∙ sym is

-- a table to which words were added
module _ (old fresh : Signs) (words : List Entry) (is : fresh ≡ table_of (filter (is_fresh old) words)) where
  pub added_apart : IsApart old fresh
  added_apart = subst (IsApart old) (sym is) (fresh_apart old words)

  pub added_len : finite.len (changed Add words old) ≡ finite.len old + finite.len fresh
  added_len = split_len (changed Add words old) old fresh (split_added old fresh words is)

  pub added_done : (new : Signs) (room most added : ℕ) → new ≡ table_of (entries_of old ++ entries_of fresh) → added ≡ finite.len fresh → finite.len old + added ≤ room → finite.len old + added ≤ most → IsDone old (changed Add words old) room most new (record { added = added; deleted = 0 })
  added_done new room most added e n fits counted = record {
    same = e ∙ fresh_adds old fresh words is;
    told_is = told_of _ _ _ _ _ (counts_grown (changed Add words old) old fresh (split_added old fresh words is)) n refl;
    fits = let h = added_len in omega arith;
    counted = let h = added_len in omega arith;
  }

-- a table of which words were removed
module _ (old gone : Signs) (words : List Entry) (is : gone ≡ table_of (filter (has_entry old) words)) where
  pub deleted_len : finite.len old ≡ finite.len (changed Delete words old) + finite.len gone
  deleted_len = split_len old (changed Delete words old) gone (split_deleted old gone words is)

  pub deleted_done : (new : Signs) (room most deleted : ℕ) → new ≡ changed Delete words old → deleted ≡ finite.len gone → finite.len old - deleted ≤ room → finite.len old - deleted ≤ most → IsDone old (changed Delete words old) room most new (record { added = 0; deleted = deleted })
  deleted_done new room most deleted e n fits counted = record {
    same = e;
    told_is = told_of _ _ _ _ _ (counts_lost old (changed Delete words old) gone (split_deleted old gone words is)) refl n;
    fits = let h = deleted_len in omega arith;
    counted = let h = deleted_len in omega arith;
  }

pub replaced_done : (old new : Signs) (words : List Entry) (room most common news olds : ℕ) → new ≡ table_of words → common ≡ length (having new old) → news ≡ finite.len new → olds ≡ finite.len old → news ≤ room → news ≤ most → IsDone old (changed Replace words old) room most new (record { added = news - common; deleted = olds - common })
replaced_done old new words room most common news olds is c n o fits counted = record {
  same = is;
  told_is = told_of _ _ _ _ _ (ap (counts old) (sym is) ∙ counts_turned old new) (λ i. n i - c i) (λ i. o i - c i);
  fits = let h = ap finite.len is in omega arith;
  counted = let h = ap finite.len is in omega arith;
}

pub flushed : (old : Signs) → counts old finite.empty ≡ record { added = 0; deleted = finite.len old }
flushed old = counts_lost old finite.empty old (record { at = λ q. inl (get-empty prefix_cmp q, refl) })

pub flushed_done : (old new : Signs) (room most : ℕ) (told : Counts) (words : List Entry) → new ≡ finite.empty → told ≡ counts old finite.empty → IsDone old (changed Flush words old) room most new told
flushed_done old new room most told words e t = record {
  same = e;
  told_is = t;
  fits = let h = len-empty prefix_cmp Bool in omega arith;
  counted = let h = len-empty prefix_cmp Bool in omega arith;
}

-- a table that doesn't fit
pub refused : (old wanted new : Signs) (room count : ℕ) (fault : TableFault) → new ≡ old → count ≡ finite.len wanted → IsUnfit count room fault → IsRefused old wanted room new fault
refused old wanted new room count fault e n h = record { same = e; cause = subst (λ (t : ℕ). IsUnfit t room fault) n h }
