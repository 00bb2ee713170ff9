-- No more stands than the limits say: so it is at first, and each line keeps it.
use Rattle.std.proofs.Common.{◌≡◌, ℕ, ◌+◌, ◌<◌, ◌≤◌, Bool, true, false, cond, not, List, [], ◌∷◌, length, Option, Some, None, refl, sym, subst, ◌∙◌, arith, if◌then◌else◌}
use Rattle.std.specs.Prelude.{is_some, nat_le, nat_lt}
use Rattle.std.specs.FinMap as finite
use Rattle.std.specs.List.{sum_by}
use Rattle.std.specs.Option.{option_and_then}
use Rattle.std.proofs.lemmas.Bool.{leb-false, ltb-false}
use Rattle.pf_calls.specs.CallLaws.{paths_decide}
use Rattle.pf_calls.specs.Calls.{path_eq}
use Rattle.pf_optim.specs.Node.{is_bare}
use Rattle.pf_optim.specs.declared.node.Node.{Node}
use Rattle.pf_reply.specs.declared.refusal.Overfull.TheVariants.{Rules, Rulesets as Nodes}
use Rattle.pf_reply.specs.declared.refusal.Refusal.{Refusal}
use Rattle.pf_reply.specs.declared.refusal.Refusal.TheVariants as refusals
use Rattle.pf_shelf.specs.Change.{changed_at}
use Rattle.pf_shelf.specs.Shelf.{Tables, name_cmp, total}
use Rattle.pf_shelf.specs.declared.change.ChangeKind.{ChangeKind}
use Rattle.pf_state.specs.Flushes.{flushed_rulesets, left_of, without_rules}
use Rattle.pf_state.specs.Limits.{first_of, limits, most_entries, most_rules, most_rulesets, over, planned_entries, planned_rules}
use Rattle.pf_state.specs.Machine.{empty_machine}
use Rattle.pf_state.specs.Rulesets.{Rulesets, count_entries, count_rules}
use Rattle.pf_state.specs.Sessions.{entry_refusal, most_sessions, open_refusal}
use Rattle.pf_state.specs.Tables.{change_refusal, changed_rulesets, with_change}
use Rattle.pf_state.specs.declared.machine.Machine.{Machine}
use Rattle.pf_state.specs.declared.ready.Opened.{Opened}
use Rattle.pf_table.specs.declared.entry.Entry.{Entry}
use Rattle.pf_tree.specs.GrownLaws.{name_same, name_total, path_same, path_total}
use Rattle.pf_tree.specs.Meaning.{put_payload}
use Rattle.pf_tree.specs.Order.{path_cmp}
use Rattle.pf_tree.specs.Paths.{is_nameless_below}
use Rattle.pf_standing.specs.Within.{IsWithin, all_planned_entries, all_planned_rules, all_planned_rulesets}
use Rattle.pf_standing.proofs.Carrying.{Fits, Keeps, no_first}
use Rattle.pf_standing.proofs.Finding.{found_kept, found_put, none_some, same_some}
use Rattle.pf_standing.proofs.Sums.{HasMore, counted, empty_sum, one, sum_fewer, sum_less, sum_more}

-- ---- numbers

same_within : (n m most : ℕ) → n ≡ m → m ≤ most → n ≤ most
same_within n m most e h = omega arith

less_within : (n m most : ℕ) → n ≤ m → m ≤ most → n ≤ most
less_within n m most h k = omega arith

none_within : (n most : ℕ) → n ≡ 0 → n ≤ most
none_within n most e = omega arith

more_within : (n new stood most : ℕ) → n ≡ new + stood → stood + new ≤ most → n ≤ most
more_within n new stood most e h = omega arith

one_more : (n m stood most : ℕ) → n ≡ m → m ≡ 1 + stood → stood < most → n ≤ most
one_more n m stood most e f h = omega arith

-- ---- refusals that don't come

not_over : (most count : ℕ) (refusal : Refusal) → over most count refusal ≡ None → count ≤ most
not_over most count refusal h =
    elim (nat_lt most count) as (λ b. nat_lt most count ≡ b → cond b (Some refusal) None ≡ None → count ≤ most) [
      | true ↦ λ e h. absurd (none_some refusal (sym h))
      | false ↦ λ e h. ltb-false most count e
    ] refl h

-- three counts are within the limits
record AreWithin (rules rulesets entries : ℕ) : Type 0 where
  rules_are : rules ≤ most_rules
  rulesets_are : rulesets ≤ most_rulesets
  entries_are : entries ≤ most_entries

each_none : (a b c : Option Refusal) → first_of (a ∷ b ∷ c ∷ []) ≡ None → (a ≡ None) × ((b ≡ None) × (c ≡ None))
each_none a b c h =
    let first = no_first a (first_of (b ∷ c ∷ [])) h in
    let second = no_first b (first_of (c ∷ [])) first.1 in
    (first.0, (second.0, (no_first c None second.1).0))

limits_hold : (rules rulesets entries : ℕ) → first_of (limits rules rulesets entries) ≡ None → AreWithin rules rulesets entries
limits_hold rules rulesets entries h =
    let none = each_none (over most_rules rules (refusals.TreeFull Rules rules)) (over most_rulesets rulesets (refusals.TreeFull Nodes rulesets)) (over most_entries entries (refusals.TablesFull entries)) h in
    record {
      rules_are = not_over most_rules rules (refusals.TreeFull Rules rules) none.0;
      rulesets_are = not_over most_rulesets rulesets (refusals.TreeFull Nodes rulesets) none.1.0;
      entries_are = not_over most_entries entries (refusals.TablesFull entries) none.1.1;
    }

-- where a session may be opened, none of its name is, and fewer than may be
is_free : (held : Option Opened) (refusal : Refusal) → (if is_some held then Some refusal else None) ≡ None → held ≡ None
is_free None refusal h = refl
is_free (Some session) refusal h = absurd (none_some refusal (sym h))

has_room : (n : ℕ) (refusal : Refusal) → (if nat_le most_sessions n then Some refusal else None) ≡ None → n < most_sessions
has_room n refusal h =
    elim (nat_le most_sessions n) as (λ b. nat_le most_sessions n ≡ b → (if b then Some refusal else None) ≡ None → n < most_sessions) [
      | true ↦ λ e h. absurd (none_some refusal (sym h))
      | false ↦ λ e h. leb-false most_sessions n e
    ] refl h

record MayEnter (machine : Machine) (name : List ℕ) : Type 0 where
  free : finite.get machine.sessions name ≡ None
  room : finite.len machine.sessions < most_sessions

may_enter : (machine : Machine) (name : List ℕ) → entry_refusal machine name ≡ None → MayEnter machine name
may_enter machine name h =
    let is_open : Option Refusal = if is_some (finite.get machine.sessions name) then Some (refusals.SessionOpen name) else None in
    let is_full : Option Refusal = if nat_le most_sessions (finite.len machine.sessions) then Some refusals.SessionsFull else None in
    let first = no_first is_open (first_of (is_full ∷ [])) h in
    let second = no_first is_full None first.1 in
    record { free = is_free (finite.get machine.sessions name) (refusals.SessionOpen name) first.0; room = has_room (finite.len machine.sessions) refusals.SessionsFull second.0 }

-- ---- a flush, and a change of a table

module _ (f : Node → ℕ) (rulesets : Rulesets) where
  abbrev Has : List (List ℕ) → Node → Type 0
  Has path node = HasMore path_total path_same f rulesets path node

  abbrev AllHave : Rulesets → Type 0
  AllHave base = (path : List (List ℕ)) (node : Node) → finite.get base path ≡ Some node → Has path node

  own : AllHave rulesets
  own path node there = record { other = node; there = there; more = omega arith }

  put_has : (base : Rulesets) (path : List (List ℕ)) (put : Option Node) → AllHave base → ((node : Node) → put ≡ Some node → Has path node) → AllHave (put_payload base path put)
  put_has base path put each here q node found = from (path_eq q path) refl (sym (found_put base path put q) ∙ found)
    where
      from : (b : Bool) → path_eq q path ≡ b → cond b put (finite.get base q) ≡ Some node → Has q node
      from true tie e = subst (λ (at : List (List ℕ)). Has at node) (sym ((paths_decide q path).0 tie)) (here node e)
      from false tie e = each q node e

  kept_has : (test : List (List ℕ) → Bool) → AllHave (finite.retain_keys rulesets test)
  kept_has test q node found = from (test q) (sym (found_kept rulesets test q) ∙ found)
    where
      from : (b : Bool) → cond b (finite.get rulesets q) None ≡ Some node → Has q node
      from true e = own q node e
      from false e = absurd (none_some node e)

  no_less : (path : List (List ℕ)) (stood new node : Node) → finite.get rulesets path ≡ Some stood → f new ≤ f stood → new ≡ node → Has path node
  no_less path stood new node there less same = subst (λ (one : Node). Has path one) same (record { other = stood; there = there; more = less })

  left_has : ((node : Node) → f (without_rules node) ≤ f node) → (path : List (List ℕ)) (held : Option Node) (node : Node) → finite.get rulesets path ≡ held → option_and_then left_of held ≡ Some node → Has path node
  left_has less path None node there e = absurd (none_some node e)
  left_has less path (Some stood) node there e =
      elim (is_bare (without_rules stood).rules (without_rules stood).shelf) as (λ b. (if b then None else Some (without_rules stood)) ≡ Some node → Has path node) [
        | true ↦ λ e. absurd (none_some node e)
        | false ↦ λ e. no_less path stood (without_rules stood) node there (less stood) (same_some (without_rules stood) node e)
      ] e

  -- a flush makes no sum greater over rulesets that count no more without rules
  flush_less : ((node : Node) → f (without_rules node) ≤ f node) → (path : List (List ℕ)) → sum_by f (finite.values (flushed_rulesets path rulesets)) ≤ sum_by f (finite.values rulesets)
  flush_less less path =
      sum_fewer path_total path_same f (flushed_rulesets path rulesets) rulesets
      (put_has (finite.retain_keys rulesets (λ at. not (is_nameless_below path at))) path (option_and_then left_of (finite.get rulesets path))
      (kept_has (λ at. not (is_nameless_below path at))) (λ node e. left_has less path (finite.get rulesets path) node refl e))

  changed_has : ((node : Node) (shelf : Tables) → f (record node { shelf = shelf }) ≤ f node) → (path : List (List ℕ)) (name : List ℕ) (kind : ChangeKind) (words : List Entry) (held : Option Node) → finite.get rulesets path ≡ held → AllHave (with_change rulesets path name kind words held)
  changed_has less path name kind words None there = own
  changed_has less path name kind words (Some stood) there =
      put_has rulesets path (Some (record stood { shelf = changed_at stood.shelf name kind words })) own
      (λ node e. no_less path stood (record stood { shelf = changed_at stood.shelf name kind words }) node there (less stood (changed_at stood.shelf name kind words)) (same_some _ node e))

  -- nor does a change of a table over rulesets that count alike with any tables
  change_less : ((node : Node) (shelf : Tables) → f (record node { shelf = shelf }) ≤ f node) → (path : List (List ℕ)) (name : List ℕ) (kind : ChangeKind) (words : List Entry) → sum_by f (finite.values (changed_rulesets rulesets path name kind words)) ≤ sum_by f (finite.values rulesets)
  change_less less path name kind words =
      sum_fewer path_total path_same f (changed_rulesets rulesets path name kind words) rulesets (changed_has less path name kind words (finite.get rulesets path) refl)

abbrev rules_in : Node → ℕ
rules_in node = length node.rules.rules

abbrev entries_in : Node → ℕ
entries_in node = total node.shelf

fewer_rulesets : (less rulesets : Rulesets) → sum_by one (finite.values less) ≤ sum_by one (finite.values rulesets) → finite.len rulesets ≤ most_rulesets → finite.len less ≤ most_rulesets
fewer_rulesets less rulesets h k = let now = counted less in let before = counted rulesets in omega arith

-- ---- sessions

abbrev Sessions : Type 0
Sessions = finite.FinMap name_cmp Opened

abbrev rules_of : Opened → ℕ
rules_of session = planned_rules session.ready

abbrev rulesets_of : Opened → ℕ
rulesets_of session = length session.ready.parts

abbrev entries_of : Opened → ℕ
entries_of session = planned_entries session.ready

fewer_sessions : (sessions : Sessions) (name : List ℕ) → finite.len sessions ≤ most_sessions → finite.len (finite.remove sessions name) ≤ most_sessions
fewer_sessions sessions name h =
    let now = counted (finite.remove sessions name) in
    let before = counted sessions in
    let less = sum_less name_total name_same one sessions name in
    omega arith

one_session_more : (sessions : Sessions) (name : List ℕ) (session : Opened) → finite.get sessions name ≡ None → finite.len sessions < most_sessions → finite.len (finite.insert sessions name session) ≤ most_sessions
one_session_more sessions name session free room =
    let now = counted (finite.insert sessions name session) in
    let before = counted sessions in
    let more = sum_more name_total name_same one sessions name session free in
    omega arith

less_planned : (f : Opened → ℕ) (sessions : Sessions) (name : List ℕ) (most : ℕ) → sum_by f (finite.values sessions) ≤ most → sum_by f (finite.values (finite.remove sessions name)) ≤ most
less_planned f sessions name most h = less_within _ _ most (sum_less name_total name_same f sessions name) h

more_planned : (f : Opened → ℕ) (sessions : Sessions) (name : List ℕ) (session : Opened) (most : ℕ) → finite.get sessions name ≡ None → sum_by f (finite.values sessions) + f session ≤ most → sum_by f (finite.values (finite.insert sessions name session)) ≤ most
more_planned f sessions name session most free h = more_within _ (f session) (sum_by f (finite.values sessions)) most (sum_more name_total name_same f sessions name session free) h

-- ---- the machine

pub empty_within : IsWithin empty_machine
empty_within = record {
  sessions = none_within _ most_sessions (finite.len-empty name_cmp Opened);
  rules = none_within _ most_rules (empty_sum path_cmp rules_in);
  rulesets = none_within _ most_rulesets (finite.len-empty path_cmp Node);
  entries = none_within _ most_entries (empty_sum path_cmp entries_in);
  planned_rules = none_within _ most_rules (empty_sum name_cmp rules_of);
  planned_rulesets = none_within _ most_rulesets (empty_sum name_cmp rulesets_of);
  planned_entries = none_within _ most_entries (empty_sum name_cmp entries_of);
}

abbrev TreeWithin : Rulesets → Type 0
TreeWithin rulesets = AreWithin (count_rules rulesets) (finite.len rulesets) (count_entries rulesets)

abbrev PlansWithin : Sessions → Type 0
PlansWithin sessions = AreWithin (all_planned_rules sessions) (all_planned_rulesets sessions) (all_planned_entries sessions)

machine_within : (machine : Machine) → finite.len machine.sessions ≤ most_sessions → TreeWithin machine.rulesets → PlansWithin machine.sessions → IsWithin machine
machine_within machine few tree plans = record {
  sessions = few;
  rules = tree.rules_are;
  rulesets = tree.rulesets_are;
  entries = tree.entries_are;
  planned_rules = plans.rules_are;
  planned_rulesets = plans.rulesets_are;
  planned_entries = plans.entries_are;
}

tree_of : (machine : Machine) → IsWithin machine → TreeWithin machine.rulesets
tree_of machine within = record { rules_are = within.rules; rulesets_are = within.rulesets; entries_are = within.entries }

plans_in : (machine : Machine) → IsWithin machine → PlansWithin machine.sessions
plans_in machine within = record { rules_are = within.planned_rules; rulesets_are = within.planned_rulesets; entries_are = within.planned_entries }

fits_within : (rulesets : Rulesets) → Fits rulesets → TreeWithin rulesets
fits_within rulesets fits = limits_hold (count_rules rulesets) (finite.len rulesets) (count_entries rulesets) fits

left_plans : (machine : Machine) (name : List ℕ) → IsWithin machine → PlansWithin (finite.remove machine.sessions name)
left_plans machine name within = record {
  rules_are = less_planned rules_of machine.sessions name most_rules within.planned_rules;
  rulesets_are = less_planned rulesets_of machine.sessions name most_rulesets within.planned_rulesets;
  entries_are = less_planned entries_of machine.sessions name most_entries within.planned_entries;
}

opened_plans : (machine : Machine) (name : List ℕ) (session : Opened) → finite.get machine.sessions name ≡ None → open_refusal machine session.ready ≡ None → PlansWithin (finite.insert machine.sessions name session)
opened_plans machine name session free fits =
    let counts = limits_hold (all_planned_rules machine.sessions + rules_of session) (all_planned_rulesets machine.sessions + rulesets_of session) (all_planned_entries machine.sessions + entries_of session) fits in
    record {
      rules_are = more_planned rules_of machine.sessions name session most_rules free counts.rules_are;
      rulesets_are = more_planned rulesets_of machine.sessions name session most_rulesets free counts.rulesets_are;
      entries_are = more_planned entries_of machine.sessions name session most_entries free counts.entries_are;
    }

flushed_within : (path : List (List ℕ)) (rulesets : Rulesets) → TreeWithin rulesets → TreeWithin (flushed_rulesets path rulesets)
flushed_within path rulesets within = record {
  rules_are = less_within _ _ most_rules (flush_less rules_in rulesets (λ node. omega arith) path) within.rules_are;
  rulesets_are = fewer_rulesets (flushed_rulesets path rulesets) rulesets (flush_less one rulesets (λ node. omega arith) path) within.rulesets_are;
  entries_are = less_within _ _ most_entries (flush_less entries_in rulesets (λ node. omega arith) path) within.entries_are;
}

changed_within : (rulesets : Rulesets) (path : List (List ℕ)) (name : List ℕ) (kind : ChangeKind) (words : List Entry) → change_refusal rulesets path name kind words ≡ None → TreeWithin rulesets → TreeWithin (changed_rulesets rulesets path name kind words)
changed_within rulesets path name kind words allowed within = record {
  rules_are = less_within _ _ most_rules (change_less rules_in rulesets (λ node shelf. omega arith) path name kind words) within.rules_are;
  rulesets_are = fewer_rulesets (changed_rulesets rulesets path name kind words) rulesets (change_less one rulesets (λ node shelf. omega arith) path name kind words) within.rulesets_are;
  entries_are = not_over most_entries (count_entries (changed_rulesets rulesets path name kind words)) _ (each_none _ _ _ allowed).1.1;
}

pub keeps_within : Keeps IsWithin
keeps_within = record {
  loads = λ machine ready plain fits within. machine_within _ within.sessions (fits_within _ fits) (plans_in machine within);
  opens = λ machine name ready plain enters fits within.
      let may = may_enter machine name enters in
      let session : Opened = record { ready = ready; ticket = machine.next } in
      machine_within _ (one_session_more machine.sessions name session may.free may.room) (tree_of machine within) (opened_plans machine name session may.free fits);
  closes = λ machine name within. machine_within _ (fewer_sessions machine.sessions name within.sessions) (tree_of machine within) (left_plans machine name within);
  commits = λ machine name session there fits within. machine_within _ (fewer_sessions machine.sessions name within.sessions) (fits_within _ fits) (left_plans machine name within);
  flushes = λ machine path within. machine_within _ within.sessions (flushed_within path machine.rulesets (tree_of machine within)) (plans_in machine within);
  changes = λ machine path name kind entries allowed within. machine_within _ within.sessions (changed_within machine.rulesets path name kind entries allowed (tree_of machine within)) (plans_in machine within);
  facts = λ machine facts within. machine_within _ within.sessions (tree_of machine within) (plans_in machine within);
}
