-- Each ruleset that stands has a rule or a table: so it is at first, and loads, commits, flushes and changes of tables keep it.
use Rattle.std.proofs.Common.{◌≡◌, ℕ, Bool, true, false, cond, not, List, [], length, Option, Some, None, refl, sym, ap, subst, ◌∙◌, if◌then◌else◌}
use Rattle.std.specs.Prelude.{◌&&◌, ◌==◌, Contains}
use Rattle.std.specs.FinMap as finite
use Rattle.std.specs.Option.{option_and_then}
use Rattle.std.specs.Ordering.{eq_by_cmp}
use Rattle.std.proofs.lemmas.Bool.Decides.{Decides-eqb}
use Rattle.pf_base.specs.declared.kind.Level.TheVariants.{None as at_no_level}
use Rattle.pf_calls.specs.Calls.{path_eq}
use Rattle.pf_optim.specs.Node.{is_bare}
use Rattle.pf_optim.specs.declared.node.Node.{Node}
use Rattle.pf_shelf.specs.Change.{changed, changed_at, with_change as table_with}
use Rattle.pf_shelf.specs.Shelf.{Tables, name_cmp}
use Rattle.pf_shelf.specs.declared.change.ChangeKind.{ChangeKind}
use Rattle.pf_shelf.specs.declared.decl.Shelved.{Shelved}
use Rattle.pf_state.specs.Commits.{committed, is_cleared, node_of, part_at, shown_node, stands_at, stands_by}
use Rattle.pf_state.specs.Flushes.{flushed_rulesets, left_of, without_rules}
use Rattle.pf_state.specs.Machine.{empty_machine}
use Rattle.pf_state.specs.Rulesets.{Rulesets}
use Rattle.pf_state.specs.Tables.{with_change}
use Rattle.pf_state.specs.declared.machine.Machine.{Machine}
use Rattle.pf_state.specs.declared.ready.Opened.{Opened}
use Rattle.pf_state.specs.declared.ready.Staged.{Staged}
use Rattle.pf_table.specs.declared.entry.Entry.{Entry}
use Rattle.pf_tree.specs.GrownLaws.{name_total}
use Rattle.pf_tree.specs.Meaning.{put_payload}
use Rattle.pf_tree.specs.Order.{path_cmp}
use Rattle.pf_tree.specs.Paths.{is_nameless_below}
use Rattle.pf_standing.specs.Standing.{IsPlain, IsPlanPlain, SaysSomething, StandsPlain}
use Rattle.pf_standing.proofs.Carrying.{Keeps, written_plain}
use Rattle.pf_standing.proofs.Finding.{found_kept, found_put, name_tied, none_some, part_within, same_some}

-- what pf_state says of a load, path by path
abbrev pub IsOneReplacement : Type 0
IsOneReplacement = (parts : List Staged) (rulesets : Rulesets) (path : List (List ℕ)) → finite.get (committed parts rulesets) path ≡ stands_at parts rulesets path

abbrev AllSay : Rulesets → Type 0
AllSay rulesets = (path : List (List ℕ)) (node : Node) → finite.get rulesets path ≡ Some node → SaysSomething node

-- ---- what is put where it isn't bare

says : (node stands : Node) → shown_node node ≡ Some stands → IsPlain node.rules → SaysSomething stands
says node stands h plain =
    elim (is_bare node.rules node.shelf) as (λ b. is_bare node.rules node.shelf ≡ b → (if b then None else Some node) ≡ Some stands → SaysSomething stands) [
      | true ↦ λ bare e. absurd (none_some stands e)
      | false ↦ λ full e. subst SaysSomething (same_some node stands e) (record { something = full; plain = plain })
    ] refl h

put_says : (base : Rulesets) (path : List (List ℕ)) (put : Option Node) → AllSay base → ((node : Node) → put ≡ Some node → SaysSomething node) → AllSay (put_payload base path put)
put_says base path put each here q node found = from (path_eq q path) (sym (found_put base path put q) ∙ found)
  where
    from : (b : Bool) → cond b put (finite.get base q) ≡ Some node → SaysSomething node
    from true e = here node e
    from false e = each q node e

kept_says : (rulesets : Rulesets) (test : List (List ℕ) → Bool) → AllSay rulesets → AllSay (finite.retain_keys rulesets test)
kept_says rulesets test each q node found = from (test q) (sym (found_kept rulesets test q) ∙ found)
  where
    from : (b : Bool) → cond b (finite.get rulesets q) None ≡ Some node → SaysSomething node
    from true e = each q node e
    from false e = absurd (none_some node e)

-- ---- a plan that is put in place

module _ (law : IsOneReplacement) (parts : List Staged) (rulesets : Rulesets) (plain : (part : Staged) → Contains parts part → IsPlain part.rules) (each : AllSay rulesets) where
  not_cleared : (b : Bool) (path : List (List ℕ)) (node : Node) → (if b then None else finite.get rulesets path) ≡ Some node → SaysSomething node
  not_cleared true path node e = absurd (none_some node e)
  not_cleared false path node e = each path node e

  stands_says : (path : List (List ℕ)) (part : Option Staged) (node : Node) → part_at parts path ≡ part → stands_by parts rulesets path part ≡ Some node → SaysSomething node
  stands_says path (Some part) node at e = says (node_of rulesets part) node e (plain part (part_within parts path part at))
  stands_says path None node at e = not_cleared (is_cleared parts path) path node e

  committed_says : AllSay (committed parts rulesets)
  committed_says path node found = stands_says path (part_at parts path) node refl (sym (law parts rulesets path) ∙ found)

-- ---- a flush

left_says : (held : Option Node) (node : Node) → option_and_then left_of held ≡ Some node → SaysSomething node
left_says None node e = absurd (none_some node e)
left_says (Some stood) node e = says (without_rules stood) node e (written_plain [] at_no_level [])

flushed_says : (path : List (List ℕ)) (rulesets : Rulesets) → AllSay rulesets → AllSay (flushed_rulesets path rulesets)
flushed_says path rulesets each =
    put_says (finite.retain_keys rulesets (λ at. not (is_nameless_below path at))) path (option_and_then left_of (finite.get rulesets path))
    (kept_says rulesets (λ at. not (is_nameless_below path at)) each) (left_says (finite.get rulesets path))

-- ---- a change of a table

both_false : (a : Bool) → (a && false) ≡ false
both_false true = refl
both_false false = refl

some_tables : (shelf : Tables) (name : List ℕ) (new : Shelved) → (finite.len (finite.insert shelf name new) == 0) ≡ false
some_tables shelf name new =
    elim (finite.len (finite.insert shelf name new) == 0) as (λ b. (finite.len (finite.insert shelf name new) == 0) ≡ b → (finite.len (finite.insert shelf name new) == 0) ≡ false) [
      | true ↦ λ e. absurd (none_some new (
          sym (finite.get-empty name_cmp name)
          ∙ ap (λ (t : Tables). finite.get t name) (sym (finite.empty_of_len (finite.insert shelf name new) ((Decides-eqb (finite.len (finite.insert shelf name new)) 0).0 e)))
          ∙ finite.get-insert name_total shelf name new name
          ∙ ap (λ b. cond b (Some new) (finite.get shelf name)) (name_tied name)))
      | false ↦ λ e. e
    ] refl

still_some : (node : Node) (name : List ℕ) (kind : ChangeKind) (words : List Entry) (found : Option Shelved) → is_bare node.rules node.shelf ≡ false → is_bare node.rules (table_with node.shelf name kind words found) ≡ false
still_some node name kind words None h = h
still_some node name kind words (Some found) h =
    ap (λ b. (length node.rules.rules == 0) && b) (some_tables node.shelf name (record found { table = changed kind words found.table })) ∙ both_false (length node.rules.rules == 0)

change_says : (rulesets : Rulesets) (path : List (List ℕ)) (name : List ℕ) (kind : ChangeKind) (words : List Entry) (held : Option Node) → finite.get rulesets path ≡ held → AllSay rulesets → AllSay (with_change rulesets path name kind words held)
change_says rulesets path name kind words None is each = each
change_says rulesets path name kind words (Some node) is each =
    let said : SaysSomething node = each path node is in
    put_says rulesets path (Some (record node { shelf = changed_at node.shelf name kind words })) each (λ stands e.
    subst SaysSomething (same_some _ stands e) (record { something = still_some node name kind words (finite.get node.shelf name) said.something; plain = said.plain }))

-- ---- the machine

opened_plain : (machine : Machine) (name : List ℕ) (session : Opened) → IsPlanPlain session.ready → StandsPlain machine
    → (other : List ℕ) (found : Opened) → finite.get (finite.insert machine.sessions name session) other ≡ Some found → IsPlanPlain found.ready
opened_plain machine name session plain stands other found e = from (eq_by_cmp name_cmp other name) (sym (finite.get-insert name_total machine.sessions name session other) ∙ e)
  where
    from : (b : Bool) → cond b (Some session) (finite.get machine.sessions other) ≡ Some found → IsPlanPlain found.ready
    from true e = subst (λ (one : Opened). IsPlanPlain one.ready) (same_some session found e) plain
    from false e = stands.sessions other found e

closed_plain : (machine : Machine) (name : List ℕ) → StandsPlain machine → (other : List ℕ) (found : Opened) → finite.get (finite.remove machine.sessions name) other ≡ Some found → IsPlanPlain found.ready
closed_plain machine name stands other found e = from (eq_by_cmp name_cmp other name) (sym (finite.get-remove name_total machine.sessions name other) ∙ e)
  where
    from : (b : Bool) → cond b None (finite.get machine.sessions other) ≡ Some found → IsPlanPlain found.ready
    from true e = absurd (none_some found e)
    from false e = stands.sessions other found e

pub empty_plain : StandsPlain empty_machine
empty_plain = record {
  rulesets = λ path node found. absurd (none_some node (sym (finite.get-empty path_cmp path) ∙ found));
  sessions = λ name session found. absurd (none_some session (sym (finite.get-empty name_cmp name) ∙ found));
}

pub keeps_plain : IsOneReplacement → Keeps StandsPlain
keeps_plain law = record {
  loads = λ machine ready plain fits stands. record { rulesets = committed_says law ready.parts machine.rulesets plain stands.rulesets; sessions = stands.sessions };
  opens = λ machine name ready plain enters fits stands. record { rulesets = stands.rulesets; sessions = opened_plain machine name (record { ready = ready; ticket = machine.next }) plain stands };
  closes = λ machine name stands. record { rulesets = stands.rulesets; sessions = closed_plain machine name stands };
  commits = λ machine name session there fits stands. record {
    rulesets = committed_says law session.ready.parts machine.rulesets (stands.sessions name session there) stands.rulesets;
    sessions = closed_plain machine name stands;
  };
  flushes = λ machine path stands. record { rulesets = flushed_says path machine.rulesets stands.rulesets; sessions = stands.sessions };
  changes = λ machine path name kind entries allowed stands. record { rulesets = change_says machine.rulesets path name kind entries (finite.get machine.rulesets path) refl stands.rulesets; sessions = stands.sessions };
  facts = λ machine facts stands. record { rulesets = stands.rulesets; sessions = stands.sessions };
}
