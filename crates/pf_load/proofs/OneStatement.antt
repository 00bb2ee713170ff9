-- Over a disk a statement comes to one thing, and without one file to the same, or that file can't be read.
use Rattle.std.proofs.Common.{◌≡◌, ℕ, Bool, true, false, List, [], ◌∷◌, Option, Some, None, Result, Ok, Err, refl, sym, ap, ◌∙◌, subst, inl, inr}
use Rattle.std.specs.Prelude.{◌⊎◌, is_none}
use Rattle.pf_base.specs.declared.fault.FaultKind.{FaultKind}
use Rattle.pf_base.specs.declared.fault.Place.{Place}
use Rattle.pf_decl.specs.Decls as decls
use Rattle.pf_decl.specs.Decls.{IsDecl, place_of}
use Rattle.pf_decl.specs.declared.form.Decl.{Decl}
use Rattle.pf_decl.specs.declared.form.Decl.TheVariants.{Set, Table, Queue}
use Rattle.pf_decl.specs.declared.form.TableForm.{TableForm}
use Rattle.pf_expand.specs.Expansion.{Expands}
use Rattle.pf_expand.specs.declared.order.Defaults.{Defaults}
use Rattle.pf_expand.specs.declared.order.Order.{Order}
use Rattle.pf_form.specs.declared.form.Draft.{Draft as Said}
use Rattle.pf_form.specs.declared.form.Head.{Head}
use Rattle.pf_form.specs.declared.form.Head.TheVariants as heads
use Rattle.pf_form.specs.declared.form.RuleForm.{RuleForm}
use Rattle.pf_grammar.specs.Forms as forms
use Rattle.pf_grammar.specs.Forms.{IsDraft}
use Rattle.pf_grammar.specs.Statements.{statement}
use Rattle.pf_host.specs.Facts.{HostFacts}
use Rattle.pf_lexer.specs.ReadSoFar.{ReadSoFar}
use Rattle.pf_lexer.specs.declared.deed.Statement.{Statement}
use Rattle.pf_parts.specs.declared.call.Call.{Call}
use Rattle.pf_plan.specs.Drafts.{is_in_body, room_of}
use Rattle.pf_entries.specs.Tables.{TableComes}
use Rattle.pf_entries.specs.Without.{TableStops, TableWithout}
use Rattle.pf_plan.specs.declared.draft.Draft.{Draft}
use Rattle.pf_fault.specs.declared.fault.Stop.{Stop}
use Rattle.pf_fault.specs.declared.fault.Stop.TheVariants.{Unread}
use Rattle.pf_rule.specs.declared.rule.Rule.{Rule}
use Rattle.pf_shelf.specs.declared.decl.TableDecl.{TableDecl}
use Rattle.pf_source.specs.Disk.{Disk, without}
use Rattle.pf_syntax.specs.Fault.{outside_fault}
use Rattle.pf_syntax.specs.Grammar.{Grammar}
use Rattle.pf_syntax.specs.Symbols.{Symbols, symbols}
use Rattle.pf_syntax.specs.declared.fault.FormFault.{FormFault}
use Rattle.pf_token.specs.declared.token.Token.{Token}
use Rattle.pf_load.specs.Anchors.{call_of, call_of_rules, no_call, reach_of}
use Rattle.pf_load.specs.Statements.{Comes, DeclComes, DeclStands, Expanded, Is, RuleComes, SaidComes, StatementComes, TableStands, Tabled, is_declared, is_said, no_decl, no_rule, order_of, defaults_of, rules_laid, stop_of, table_laid, way_of}
use Rattle.pf_load.specs.declared.reach.Reach.{Reach}
use Rattle.pf_load.specs.declared.reach.Reach.TheVariants.{Here}
use Rattle.pf_load.specs.declared.way.Way.{Way}
use Rattle.pf_load.specs.declared.way.Way.TheVariants.{Nothing, Closes, Declares, Rules}

abbrev first_or : {A : Type 0} → A → Option (A × Symbols) → A
first_or other None = other
first_or other (Some (value, rest)) = value

same_value : {A : Type 0} (a b : A) → ◌≡◌ {A = Option (A × Symbols)} (Some (a, [])) (Some (b, [])) → a ≡ b
same_value a b e = ap (first_or a) e

-- what a grammar derives of symbols is one value
pub derived_once : {A : Type 0} (g : Grammar A) (start : Symbols) (a b : A) → g.derives start a [] → g.derives start b [] → a ≡ b
derived_once {A} g start a b h k = same_value a b (sym (g.exact.found start a [] h) ∙ g.exact.found start b [] k)

-- laws of the crates below
abbrev pub DeclOne : Type 0
DeclOne = (tokens : List Token) (body : Bool) (decl other : Decl) → IsDecl tokens body decl → IsDecl tokens body other → decl ≡ other

abbrev pub ExpandsOne : Type 0
ExpandsOne = (form : RuleForm) (call : Call) (order : Order) (facts : HostFacts) (defaults : Defaults) (room : ℕ) (answer other : Result (List Rule) FaultKind)
    → Expands form call order facts defaults room answer → Expands form call order facts defaults room other → answer ≡ other

abbrev pub TableOne : Type 0
TableOne = (disk : Disk) (facts : HostFacts) (tables : List TableDecl) (form : TableForm) (place : Place) (reads later latest : ReadSoFar) (answer other : Result TableDecl Stop)
    → TableComes disk facts tables form place reads answer later → TableComes disk facts tables form place reads other latest → (answer ≡ other) × (later ≡ latest)

module _ (decl_one : DeclOne) (expands_one : ExpandsOne) (table_one : TableOne) where
  one_expanded : (facts : HostFacts) (draft : Draft) (said : Said) (place : Place) (call : Call) (reach : Reach) (nameless : Bool) (a b : Result Draft Stop)
      → Expanded facts draft said place call reach nameless a → Expanded facts draft said place call reach nameless b → a ≡ b
  one_expanded facts draft said place call reach nameless a b h k =
      h.gives ∙ ap (rules_laid draft said place reach nameless) (expands_one said.form call (order_of said) facts (defaults_of draft.policies) (room_of draft) h.rules k.rules h.expands k.expands) ∙ sym k.gives

  one_said : (facts : HostFacts) (draft : Draft) (said : Said) (place : Place) (head : Head) (a b : Result Draft Stop) → SaidComes facts draft said place head a → SaidComes facts draft said place head b → a ≡ b
  one_said facts draft said place heads.Pass a b h k = one_expanded facts draft said place no_call Here false a b h k
  one_said facts draft said place (heads.Block kind) a b h k = one_expanded facts draft said place no_call Here false a b h k
  one_said facts draft said place heads.Match a b h k = one_expanded facts draft said place no_call Here false a b h k
  one_said facts draft said place heads.Antispoof a b h k = one_expanded facts draft said place no_call Here false a b h k
  one_said facts draft said place (heads.Anchor name body) a b h k =
      one_expanded facts draft said place (call_of_rules (call_of draft name)) (reach_of draft body (call_of draft name)) (is_none name) a b h k
  one_said facts draft said place (heads.LoadAnchor name file) a b h k = h ∙ sym k

  one_rule : (facts : HostFacts) (tokens : List Token) (body : Bool) (draft : Draft) (a b : Result Draft Stop) → RuleComes facts tokens body draft a → RuleComes facts tokens body draft b → a ≡ b
  one_rule facts tokens body draft a b (is_said one h x) (is_said other k y) =
      let same : other ≡ one = derived_once (statement body) (symbols tokens) other one k h in
      one_said facts draft one (place_of tokens) one.form.head a b x (subst (λ (s : Said). SaidComes facts draft s (place_of tokens) s.form.head b) same y)
  one_rule facts tokens body draft a b (is_said one h x) (no_rule fault outer y) = absurd (outer.none one h)
  one_rule facts tokens body draft a b (no_rule fault outer x) (is_said other k y) = absurd (outer.none other k)
  one_rule facts tokens body draft a b (no_rule fault outer x) (no_rule other nor y) =
      x ∙ ap (λ (f : FormFault). Err (stop_of f (place_of tokens))) (outer.refused ∙ sym nor.refused) ∙ sym y

  both_are : (answer : Result Draft Stop) (reads later latest : ReadSoFar) (a b : Result Draft Stop) → Is answer reads a later → Is answer reads b latest → (a ≡ b) × (later ≡ latest)
  both_are answer reads later latest a b h k = (h.0 ∙ sym k.0, h.1 ∙ sym k.1)

  one_tabled : (disk : Disk) (facts : HostFacts) (draft : Draft) (form : TableForm) (place : Place) (reads later latest : ReadSoFar) (a b : Result Draft Stop)
      → Tabled disk facts draft form place reads a later → Tabled disk facts draft form place reads b latest → (a ≡ b) × (later ≡ latest)
  one_tabled disk facts draft form place reads later latest a b h k =
      let same = table_one disk facts draft.here.own.tables form place reads later latest h.table k.table h.comes k.comes in
      (h.gives ∙ ap (table_laid draft) same.0 ∙ sym k.gives, same.1)

  one_stands : (disk : Disk) (facts : HostFacts) (draft : Draft) (form : TableForm) (place : Place) (reads later latest : ReadSoFar) (inside : Bool) (a b : Result Draft Stop)
      → TableStands disk facts draft form place reads inside a later → TableStands disk facts draft form place reads inside b latest → (a ≡ b) × (later ≡ latest)
  one_stands disk facts draft form place reads later latest true a b h k = both_are _ reads later latest a b h k
  one_stands disk facts draft form place reads later latest false a b h k = one_tabled disk facts draft form place reads later latest a b h k

  one_decl_stands : (disk : Disk) (facts : HostFacts) (draft : Draft) (place : Place) (reads later latest : ReadSoFar) (decl : Decl) (a b : Result Draft Stop)
      → DeclStands disk facts draft place reads decl a later → DeclStands disk facts draft place reads decl b latest → (a ≡ b) × (later ≡ latest)
  one_decl_stands disk facts draft place reads later latest (Set lines) a b h k = both_are _ reads later latest a b h k
  one_decl_stands disk facts draft place reads later latest (Queue queue) a b h k = both_are _ reads later latest a b h k
  one_decl_stands disk facts draft place reads later latest (Table form) a b h k = one_stands disk facts draft form place reads later latest (is_in_body draft) a b h k

  one_decl : (disk : Disk) (facts : HostFacts) (tokens : List Token) (body : Bool) (draft : Draft) (reads later latest : ReadSoFar) (a b : Result Draft Stop)
      → DeclComes disk facts tokens body draft reads a later → DeclComes disk facts tokens body draft reads b latest → (a ≡ b) × (later ≡ latest)
  one_decl disk facts tokens body draft reads later latest a b (is_declared one h x) (is_declared other k y) =
      let same : other ≡ one = decl_one tokens body other one k h in
      one_decl_stands disk facts draft (place_of tokens) reads later latest one a b x (subst (λ (d : Decl). DeclStands disk facts draft (place_of tokens) reads d b latest) same y)
  one_decl disk facts tokens body draft reads later latest a b (is_declared one h x) (no_decl fault outer y) = absurd (outer.none one h)
  one_decl disk facts tokens body draft reads later latest a b (no_decl fault outer x) (is_declared other k y) = absurd (outer.none other k)
  one_decl disk facts tokens body draft reads later latest a b (no_decl fault outer x) (no_decl other nor y) =
      (x.0 ∙ ap (λ (f : FormFault). Err (stop_of f (place_of tokens))) (outer.refused ∙ sym nor.refused) ∙ sym y.0, x.1 ∙ sym y.1)

  one_way : (disk : Disk) (facts : HostFacts) (way : Way) (tokens : List Token) (body : Bool) (draft : Draft) (reads later latest : ReadSoFar) (a b : Result Draft Stop)
      → Comes disk facts way tokens body draft reads a later → Comes disk facts way tokens body draft reads b latest → (a ≡ b) × (later ≡ latest)
  one_way disk facts Nothing tokens body draft reads later latest a b h k = both_are _ reads later latest a b h k
  one_way disk facts Closes tokens body draft reads later latest a b h k = both_are _ reads later latest a b h k
  one_way disk facts Declares tokens body draft reads later latest a b h k = one_decl disk facts tokens body draft reads later latest a b h k
  one_way disk facts Rules tokens body draft reads later latest a b h k = (one_rule facts tokens body draft a b h.0 k.0, h.1 ∙ sym k.1)

  -- a statement comes to one thing
  pub one_statement : (disk : Disk) (facts : HostFacts) (statement : Statement) (draft : Draft) (reads later latest : ReadSoFar) (a b : Result Draft Stop)
      → StatementComes disk facts statement draft reads a later → StatementComes disk facts statement draft reads b latest → (a ≡ b) × (later ≡ latest)
  one_statement disk facts said draft reads later latest a b h k = one_way disk facts (way_of said.tokens) said.tokens said.body draft reads later latest a b h k

-- A statement is stopped at that file, whatever was read before it.
pub record StatementStops (disk : Disk) (gone : List ℕ) (facts : HostFacts) (said : Statement) (draft : Draft) (reads : ReadSoFar) : Type 0 where
  pub at : ReadSoFar
  pub comes : StatementComes (without (Some gone) disk) facts said draft reads (Err (Unread gone)) at

-- the law of tables below
abbrev pub TablesWithout : Type 0
TablesWithout = (disk : Disk) (gone : List ℕ) (facts : HostFacts) (tables : List TableDecl) (form : TableForm) (place : Place) (reads later : ReadSoFar) (answer : Result TableDecl Stop)
    → TableComes disk facts tables form place reads answer later → TableWithout disk gone facts tables form place reads answer later

record DeclStops (disk : Disk) (gone : List ℕ) (facts : HostFacts) (draft : Draft) (place : Place) (reads : ReadSoFar) (decl : Decl) : Type 0 where
  at : ReadSoFar
  comes : DeclStands (without (Some gone) disk) facts draft place reads decl (Err (Unread gone)) at

module _ (law : TablesWithout) where
  stands_without : (disk : Disk) (gone : List ℕ) (facts : HostFacts) (draft : Draft) (form : TableForm) (place : Place) (reads later : ReadSoFar) (inside : Bool) (result : Result Draft Stop)
      → TableStands disk facts draft form place reads inside result later
      → TableStands (without (Some gone) disk) facts draft form place reads inside result later
      ⊎ ((at : ReadSoFar) × TableStands (without (Some gone) disk) facts draft form place reads inside (Err (Unread gone)) at)
  stands_without disk gone facts draft form place reads later true result h = inl h
  stands_without disk gone facts draft form place reads later false result h = elim (law disk gone facts draft.here.own.tables form place reads later h.table h.comes) [
    | inl same ↦ inl (record { table = h.table; comes = same; gives = h.gives })
    | inr lost ↦ inr (lost.at, record { table = Err (Unread gone); comes = lost.comes; gives = refl })
  ]

  decl_without : (disk : Disk) (gone : List ℕ) (facts : HostFacts) (draft : Draft) (place : Place) (reads later : ReadSoFar) (decl : Decl) (result : Result Draft Stop)
      → DeclStands disk facts draft place reads decl result later → DeclStands (without (Some gone) disk) facts draft place reads decl result later ⊎ DeclStops disk gone facts draft place reads decl
  decl_without disk gone facts draft place reads later (Set lines) result h = inl h
  decl_without disk gone facts draft place reads later (Queue queue) result h = inl h
  decl_without disk gone facts draft place reads later (Table form) result h = elim (stands_without disk gone facts draft form place reads later (is_in_body draft) result h) [
    | inl same ↦ inl same
    | inr lost ↦ inr (record { at = lost.0; comes = lost.1 })
  ]

  way_without : (disk : Disk) (gone : List ℕ) (facts : HostFacts) (way : Way) (tokens : List Token) (body : Bool) (draft : Draft) (reads later : ReadSoFar) (result : Result Draft Stop)
      → Comes disk facts way tokens body draft reads result later
      → Comes (without (Some gone) disk) facts way tokens body draft reads result later ⊎ ((at : ReadSoFar) × Comes (without (Some gone) disk) facts way tokens body draft reads (Err (Unread gone)) at)
  way_without disk gone facts Nothing tokens body draft reads later result h = inl h
  way_without disk gone facts Closes tokens body draft reads later result h = inl h
  way_without disk gone facts Rules tokens body draft reads later result h = inl h
  way_without disk gone facts Declares tokens body draft reads later result (no_decl fault outer x) = inl (no_decl fault outer x)
  way_without disk gone facts Declares tokens body draft reads later result (is_declared decl h x) = elim (decl_without disk gone facts draft (place_of tokens) reads later decl result x) [
    | inl same ↦ inl (is_declared decl h same)
    | inr lost ↦ inr (lost.at, is_declared decl h lost.comes)
  ]

  pub statement_without : (disk : Disk) (gone : List ℕ) (facts : HostFacts) (said : Statement) (draft : Draft) (reads later : ReadSoFar) (result : Result Draft Stop)
      → StatementComes disk facts said draft reads result later → StatementComes (without (Some gone) disk) facts said draft reads result later ⊎ StatementStops disk gone facts said draft reads
  statement_without disk gone facts said draft reads later result h = elim (way_without disk gone facts (way_of said.tokens) said.tokens said.body draft reads later result h) [
    | inl same ↦ inl same
    | inr lost ↦ inr (record { at = lost.0; comes = lost.1 })
  ]
