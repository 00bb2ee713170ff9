-- What is true of the machine between lines stays true over changes of tables and of facts.
use Rattle.std.proofs.Common.{◌≡◌, ℕ, ◌≤◌, cond, true, false, List, [], ◌∷◌, Option, Some, None, refl}
use Rattle.std.specs.Prelude.{nat_lt}
use Rattle.std.proofs.lemmas.Bool.{ltb-false}
use Rattle.pf_reply.specs.declared.refusal.Refusal.{Refusal}
use Rattle.pf_shelf.specs.declared.change.ChangeKind.{ChangeKind}
use Rattle.pf_state.specs.Limits.{first_of, most_entries, over}
use Rattle.pf_state.specs.Rulesets.{count_entries}
use Rattle.pf_state.specs.Tables.{change_refusal, changed_rulesets, with_table}
use Rattle.pf_state.specs.declared.machine.Machine.{Machine}
use Rattle.pf_table.specs.declared.entry.Entry.{Entry}
use Rattle.pf_engine.specs.Kept.{IsKept}
use Rattle.pf_engine.proofs.Shallow.{FewerStays, change_shallow}

not_over : (most count : ℕ) (refusal : Refusal) → over most count refusal ≡ None → count ≤ most
not_over most count refusal h =
    elim (nat_lt most count) as (λ b. nat_lt most count ≡ b → cond b (Some refusal) None ≡ None → count ≤ most) [
      | true ↦ λ e h. absurd cc
      | false ↦ λ e h. ltb-false most count e
    ] refl h

third : (a b c : Option Refusal) → first_of (a ∷ b ∷ c ∷ []) ≡ None → c ≡ None
third (Some r) b c h = absurd cc
third None (Some r) c h = absurd cc
third None None (Some r) h = absurd cc
third None None None h = refl

pub change_keeps : (stays : FewerStays) (machine : Machine) (path : List (List ℕ)) (name : List ℕ) (kind : ChangeKind) (words : List Entry) → IsKept machine → change_refusal machine.rulesets path name kind words ≡ None → IsKept (with_table path name kind words machine)
change_keeps stays machine path name kind words kept allowed = record {
  entries = not_over most_entries (count_entries (changed_rulesets machine.rulesets path name kind words)) _ (third _ _ _ allowed);
  drawn = kept.drawn;
  shallow = change_shallow stays machine.rulesets path name kind words kept.shallow;
}
