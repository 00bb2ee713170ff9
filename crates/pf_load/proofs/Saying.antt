-- A statement comes to something, and stays in the files that have a number.
use Rattle.std.proofs.Common.{◌≡◌, ℕ, ◌+◌, length-append, ◌<◌, ◌≤◌, Bool, true, false, List, [], ◌∷◌, length, Option, Some, None, Result, Ok, Err, refl, sym, ap, ◌∙◌, subst, arith}
use Rattle.std.specs.Prelude.{IfSome, is_none, nat_lt, if◌then◌else◌}
use Rattle.pf_base.specs.declared.fault.FaultKind.{FaultKind}
use Rattle.pf_base.specs.declared.fault.FaultKind.TheVariants as kinds
use Rattle.pf_base.specs.declared.fault.Place.{Place}
use Rattle.pf_decl.specs.Coming.{DeclaresOrNot, declares, refused}
use Rattle.pf_decl.specs.Decls.{place_of}
use Rattle.pf_decl.specs.declared.form.Decl.{Decl}
use Rattle.pf_decl.specs.declared.form.Decl.TheVariants.{Set, Table, Queue}
use Rattle.pf_decl.specs.declared.form.TableForm.{TableForm}
use Rattle.pf_expand.specs.Expansion.{Expands}
use Rattle.pf_expand.specs.declared.order.Defaults.{Defaults}
use Rattle.pf_expand.specs.declared.order.Order.{Order}
use Rattle.pf_form.specs.declared.form.Draft.{Draft as Said}
use Rattle.pf_form.specs.declared.form.Head.{Head}
use Rattle.pf_form.specs.declared.form.Head.TheVariants as heads
use Rattle.pf_form.specs.declared.form.RuleForm.{RuleForm}
use Rattle.pf_grammar.specs.Forms.{IsDraft}
use Rattle.pf_grammar.specs.Late.{late_of}
use Rattle.pf_grammar.specs.Statements.{statement}
use Rattle.pf_host.specs.Facts.{HostFacts}
use Rattle.pf_lexer.specs.Calls.{AreNumbered}
use Rattle.pf_lexer.specs.ReadSoFar.{ReadSoFar}
use Rattle.pf_lexer.specs.Reads.{GoesOn}
use Rattle.pf_lexer.specs.declared.deed.Statement.{Statement}
use Rattle.pf_parts.specs.declared.call.Call.{Call}
use Rattle.pf_decl.specs.declared.form.OptionLine.{OptionLine}
use Rattle.pf_decl.specs.declared.form.Queue.{Queue as AnyQueue}
use Rattle.pf_parts.specs.declared.params.Queues.{Queues}
use Rattle.pf_plan.specs.Anchors.{closed, opened, with_load}
use Rattle.pf_plan.specs.Drafts.{is_in_body, is_in_main, room_of, with_lines, with_queue, with_rules, with_table}
use Rattle.pf_fault.specs.Stops.{StopWithin}
use Rattle.pf_plan.specs.Numbered.{PlacesWithin}
use Rattle.pf_entries.specs.Stays as plans
use Rattle.pf_fault.specs.Order.{first_of, rank}
use Rattle.pf_entries.specs.Tables.{TableComes, where_so}
use Rattle.pf_plan.specs.declared.draft.Draft.{Draft}
use Rattle.pf_fault.specs.declared.fault.Fault.{Fault}
use Rattle.pf_fault.specs.declared.fault.Stop.{Stop}
use Rattle.pf_fault.specs.declared.fault.Stop.TheVariants as stops
use Rattle.pf_rule.specs.declared.rule.Rule.{Rule}
use Rattle.pf_shelf.specs.declared.decl.TableDecl.{TableDecl}
use Rattle.pf_source.specs.Disk.{Disk}
use Rattle.pf_syntax.specs.Fault.{fault_of_word, first_left_out, outside_fault}
use Rattle.pf_syntax.specs.Symbols.{Symbol, Symbols, symbols}
use Rattle.pf_syntax.specs.declared.fault.FormFault.{FormFault}
use Rattle.pf_syntax.specs.declared.fault.FormFault.TheVariants as outside
use Rattle.pf_token.specs.declared.token.Token.{Token}
use Rattle.pf_load.specs.Anchors.{awaiting, call_of, call_of_rules, entered, load_fault, named_call, no_call, reach_fault, reach_of}
use Rattle.pf_load.specs.Statements.{Comes, DeclComes, DeclStands, Expanded, RuleComes, SaidComes, StatementComes, TableStands, close_in, defaults_of, fault_in, in_main, is_declared, is_said, late_at, no_decl, no_rule, order_of, queue_at, rules_in, rules_laid, stop_at, stop_of, table_laid, unless, way_of}
use Rattle.pf_load.specs.declared.reach.Reach.{Reach}
use Rattle.pf_load.specs.declared.reach.Reach.TheVariants.{Nowhere, Here, Into}
use Rattle.pf_load.specs.declared.way.Way.{Way}
use Rattle.pf_load.specs.declared.way.Way.TheVariants.{Nothing, Closes, Declares, Rules}
use Rattle.pf_load.proofs.Growing.{Grows, same_grows}
use Rattle.pf_load.proofs.Standing.{places_grow}

-- what stops a load stands in a file with a number below this, and is no want of memory
abbrev pub StopWell : ℕ → Stop → Type 0
StopWell count (stops.Fault fault) = fault.place.file < count
StopWell count (stops.Unread name) = Unit {0}
StopWell count stops.NoMemory = ⊥

abbrev pub DraftWell : ℕ → Result Draft Stop → Type 0
DraftWell count (Ok draft) = PlacesWithin count draft
DraftWell count (Err stop) = StopWell count stop

-- what a statement comes to, behind what was read
pub record StaysIn (reads : ReadSoFar) (result : Result Draft Stop) (later : ReadSoFar) : Type 0 where
  pub grows : Grows reads later
  pub well : DraftWell (length later.names) result

abbrev FaultIn : ℕ → Option Fault → Type 0
FaultIn count None = Unit {0}
FaultIn count (Some fault) = fault.place.file < count

chosen_in : (count : ℕ) (b : Bool) (one other : Fault) → one.place.file < count → other.place.file < count → FaultIn count (if b then Some other else Some one)
chosen_in count true one other h k = k
chosen_in count false one other h k = h

first_in : (count : ℕ) (one other : Option Fault) → FaultIn count one → FaultIn count other → FaultIn count (first_of one other)
first_in count None other h k = k
first_in count (Some one) None h k = h
first_in count (Some one) (Some other) h k = chosen_in count (nat_lt (rank other.kind) (rank one.kind)) one other h k

late_in : (count : ℕ) (late : Option FormFault) (place : Place) → place.file < count → FaultIn count (late_at late place)
late_in count None place h = tt
late_in count (Some outside.Syntax) place h = h
late_in count (Some (outside.Unsupported word)) place h = h
late_in count (Some outside.StateOptions) place h = h
late_in count (Some outside.AnchorEffect) place h = h
late_in count (Some outside.BadFlags) place h = h
late_in count (Some outside.NoMemory) place h = tt

expansion_in : (count : ℕ) (rules : Result (List Rule) FaultKind) (place : Place) → place.file < count → FaultIn count (fault_in rules place)
expansion_in count (Ok rules) place h = tt
expansion_in count (Err kind) place h = h

reach_in : (count : ℕ) (reach : Reach) (place : Place) → place.file < count → FaultIn count (reach_fault reach place)
reach_in count Nowhere place h = h
reach_in count Here place h = tt
reach_in count (Into path) place h = tt

where_in : (count : ℕ) (b : Bool) (kind : FaultKind) (place : Place) → place.file < count → FaultIn count (where_so b kind place)
where_in count true kind place h = h
where_in count false kind place h = tt

unless_well : (count : ℕ) (fault : Option Fault) (draft : Draft) → FaultIn count fault → PlacesWithin count draft → DraftWell count (unless fault draft)
unless_well count None draft h k = k
unless_well count (Some fault) draft h k = h

outside_well : (count : ℕ) (word : Option (List ℕ)) (place : Place) → place.file < count → StopWell count (stop_of (fault_of_word word) place)
outside_well count None place h = h
outside_well count (Some word) place h = h

-- Laws of the crates below.

-- a draft with something more stays in its files
pub record DraftsStay : Type 0 where
  pub rules : (count : ℕ) (draft : Draft) (rules : List Rule) (queues : Option Queues) (place : Place) → PlacesWithin count draft → place.file < count → PlacesWithin count (with_rules draft rules queues place)
  pub table : (count : ℕ) (draft : Draft) (table : TableDecl) → PlacesWithin count draft → PlacesWithin count (with_table draft table)
  pub lines : (count : ℕ) (draft : Draft) (lines : List OptionLine) → PlacesWithin count draft → PlacesWithin count (with_lines draft lines)
  pub queue : (count : ℕ) (draft : Draft) (queue : AnyQueue) → PlacesWithin count draft → queue.place.file < count → PlacesWithin count (with_queue draft queue)
  pub opened : (count : ℕ) (draft : Draft) (path : List (List ℕ)) (place : Place) (nameless : Bool) → PlacesWithin count draft → place.file < count → PlacesWithin count (opened draft path place nameless)
  pub closed : (count : ℕ) (draft : Draft) → PlacesWithin count draft → PlacesWithin count (closed draft)
  pub loads : (count : ℕ) (draft : Draft) (path : List (List ℕ)) (file : List ℕ) → PlacesWithin count draft → PlacesWithin count (with_load draft path file)

-- what a declaration comes to stays in the files that have a number
pub record TableStays (reads : ReadSoFar) (answer : Result TableDecl Stop) (later : ReadSoFar) : Type 0 where
  pub grows : Grows reads later
  pub well : (stop : Stop) → answer ≡ Err stop → StopWell (length later.names) stop

-- pf_plan's words for the same
stop_well : (count : ℕ) (answer : Result TableDecl Stop) (stop : Stop) → answer ≡ Err stop → StopWithin count answer → (answer ≡ Err stops.NoMemory → ⊥) → StopWell count stop
stop_well count answer (stops.Fault fault) is within enough = subst (StopWithin count) is within
stop_well count answer (stops.Unread name) is within enough = tt
stop_well count answer stops.NoMemory is within enough = enough is

named_more : (old new : List (List ℕ)) → GoesOn old new → length old ≤ length new
named_more old new h = let longer : length new ≡ length old + length h.more = ap length h.is ∙ length-append old h.more in omega arith

pub stays_of : (reads later : ReadSoFar) (answer : Result TableDecl Stop) → plans.TableStays reads answer later → TableStays reads answer later
stays_of reads later answer h = record {
  grows = record { names = named_more reads.names later.names h.grows; left = h.left };
  well = λ stop is. stop_well (length later.names) answer stop is h.within h.enough;
}

pub record SayingLaws : Type 0 where
  pub stay : DraftsStay
  pub declared : (tokens : List Token) (body : Bool) → DeclaresOrNot tokens body
  pub expanded : (form : RuleForm) (call : Call) (order : Order) (facts : HostFacts) (defaults : Defaults) (room : ℕ) → ((answer : Result (List Rule) FaultKind) → Expands form call order facts defaults room answer → ⊥) → ⊥
  pub tabled : (disk : Disk) (facts : HostFacts) (tables : List TableDecl) (form : TableForm) (place : Place) (reads : ReadSoFar) → ((answer : Result TableDecl Stop) (later : ReadSoFar) → TableComes disk facts tables form place reads answer later → ⊥) → ⊥
  pub table_stays : (disk : Disk) (facts : HostFacts) (tables : List TableDecl) (form : TableForm) (place : Place) (reads later : ReadSoFar) (answer : Result TableDecl Stop)
      → TableComes disk facts tables form place reads answer later → place.file < length reads.names → TableStays reads answer later

-- what a statement comes to, and that it stays in the files that have a number
abbrev pub Somehow : (Result Draft Stop → ReadSoFar → Type 0) → ReadSoFar → Type 0
Somehow Gives reads = ((result : Result Draft Stop) (later : ReadSoFar) → Gives result later → StaysIn reads result later → ⊥) → ⊥

module _ (laws : SayingLaws) where
  -- a reading that changes nothing
  here_stays : (reads : ReadSoFar) (result : Result Draft Stop) → DraftWell (length reads.names) result → StaysIn reads result reads
  here_stays reads result well = record { grows = same_grows reads; well = well }

  entered_in : (count : ℕ) (draft : Draft) (reach : Reach) (place : Place) (nameless : Bool) → PlacesWithin count draft → place.file < count → PlacesWithin count (entered draft reach place nameless)
  entered_in count draft Nowhere place nameless h le = h
  entered_in count draft Here place nameless h le = h
  entered_in count draft (Into path) place nameless h le = laws.stay.opened count draft path place nameless h le

  awaiting_in : (count : ℕ) (draft : Draft) (reach : Reach) (file : List ℕ) → PlacesWithin count draft → PlacesWithin count (awaiting draft reach file)
  awaiting_in count draft Nowhere file h = h
  awaiting_in count draft Here file h = h
  awaiting_in count draft (Into path) file h = laws.stay.loads count draft path file h

  rules_well : (count : ℕ) (draft : Draft) (said : Said) (place : Place) (reach : Reach) (nameless : Bool) (rules : Result (List Rule) FaultKind) → PlacesWithin count draft → place.file < count
      → DraftWell count (rules_laid draft said place reach nameless rules)
  rules_well count draft said place reach nameless rules h le =
      unless_well count (first_of (first_of (late_at (late_of said) place) (fault_in rules place)) (reach_fault reach place))
      (entered (with_rules draft (rules_in rules) said.form.params.queue place) reach place nameless)
      (first_in count (first_of (late_at (late_of said) place) (fault_in rules place)) (reach_fault reach place)
      (first_in count (late_at (late_of said) place) (fault_in rules place) (late_in count (late_of said) place le) (expansion_in count rules place le))
      (reach_in count reach place le))
      (entered_in count (with_rules draft (rules_in rules) said.form.params.queue place) reach place nameless (laws.stay.rules count draft (rules_in rules) said.form.params.queue place h le) le)

  expanded_somehow : (facts : HostFacts) (draft : Draft) (said : Said) (place : Place) (call : Call) (reach : Reach) (nameless : Bool) (reads : ReadSoFar)
      → PlacesWithin (length reads.names) draft → place.file < length reads.names
      → Somehow (λ result later. Expanded facts draft said place call reach nameless result × (later ≡ reads)) reads
  expanded_somehow facts draft said place call reach nameless reads h le none =
      laws.expanded said.form call (order_of said) facts (defaults_of draft.policies) (room_of draft) (λ rules expands.
      none (rules_laid draft said place reach nameless rules) reads (record { rules = rules; expands = expands; gives = refl }, refl)
      (here_stays reads (rules_laid draft said place reach nameless rules) (rules_well (length reads.names) draft said place reach nameless rules h le)))

  said_somehow : (facts : HostFacts) (draft : Draft) (said : Said) (place : Place) (head : Head) (reads : ReadSoFar) → PlacesWithin (length reads.names) draft → place.file < length reads.names
      → Somehow (λ result later. SaidComes facts draft said place head result × (later ≡ reads)) reads
  said_somehow facts draft said place heads.Pass reads h le none = expanded_somehow facts draft said place no_call Here false reads h le none
  said_somehow facts draft said place (heads.Block kind) reads h le none = expanded_somehow facts draft said place no_call Here false reads h le none
  said_somehow facts draft said place heads.Match reads h le none = expanded_somehow facts draft said place no_call Here false reads h le none
  said_somehow facts draft said place heads.Antispoof reads h le none = expanded_somehow facts draft said place no_call Here false reads h le none
  said_somehow facts draft said place (heads.Anchor name body) reads h le none =
      expanded_somehow facts draft said place (call_of_rules (call_of draft name)) (reach_of draft body (call_of draft name)) (is_none name) reads h le none
  said_somehow facts draft said place (heads.LoadAnchor name file) reads h le none =
      let reach : Reach = reach_of draft true (named_call name) in
      let fault : Option Fault = first_of (load_fault draft place) (reach_fault reach place) in
      none (unless fault (awaiting draft reach file)) reads (refl, refl)
      (here_stays reads (unless fault (awaiting draft reach file)) (unless_well (length reads.names) fault (awaiting draft reach file)
      (first_in (length reads.names) (load_fault draft place) (reach_fault reach place) (where_in (length reads.names) (is_in_body draft) kinds.NotInAnchor place le) (reach_in (length reads.names) reach place le))
      (awaiting_in (length reads.names) draft reach file h)))

  abbrev left_of : Option (Said × Symbols) → Symbols
  left_of None = []
  left_of (Some found) = found.1

  no_draft : (tokens : List Token) (body : Bool) (found : Option (Said × Symbols)) → (statement body).reads (symbols tokens) ≡ found → ((said : Said) → found ≡ Some (said, []) → ⊥) → (said : Said) → IsDraft tokens body said → ⊥
  no_draft tokens body found is other said derived = other said (sym is ∙ (statement body).exact.found (symbols tokens) said [] derived)

  rule_outside : (facts : HostFacts) (tokens : List Token) (body : Bool) (draft : Draft) (reads : ReadSoFar) → (place_of tokens).file < length reads.names → ((said : Said) → IsDraft tokens body said → ⊥)
      → Somehow (λ result later. RuleComes facts tokens body draft result × (later ≡ reads)) reads
  rule_outside facts tokens body draft reads le nothing none =
      none (Err (stop_of (outside_fault (symbols tokens)) (place_of tokens))) reads (no_rule (outside_fault (symbols tokens)) (record { none = nothing; refused = refl }) refl, refl)
      (here_stays reads (Err (stop_of (outside_fault (symbols tokens)) (place_of tokens))) (outside_well (length reads.names) (first_left_out (symbols tokens)) (place_of tokens) le))

  rule_somehow : (facts : HostFacts) (tokens : List Token) (body : Bool) (draft : Draft) (reads : ReadSoFar) → PlacesWithin (length reads.names) draft → (place_of tokens).file < length reads.names
      → (found : Option (Said × Symbols)) → (statement body).reads (symbols tokens) ≡ found → Somehow (λ result later. RuleComes facts tokens body draft result × (later ≡ reads)) reads
  rule_somehow facts tokens body draft reads h le None is none = rule_outside facts tokens body draft reads le (no_draft tokens body None is (λ said e. absurd cc)) none
  rule_somehow facts tokens body draft reads h le (Some (said, [])) is none =
      said_somehow facts draft said (place_of tokens) said.form.head reads h le (λ result later gives stays.
      none result later (is_said said ((statement body).exact.sound (symbols tokens) said [] is) gives.0, gives.1) stays)
  rule_somehow facts tokens body draft reads h le (Some (said, symbol ∷ rest)) is none = rule_outside facts tokens body draft reads le (no_draft tokens body (Some (said, symbol ∷ rest)) is (λ other e. let left : symbol ∷ rest ≡ [] = ap left_of e in absurd cc)) none

  in_main_well : (count : ℕ) (b : Bool) (place : Place) (draft : Draft) → place.file < count → PlacesWithin count draft → DraftWell count (in_main b place draft)
  in_main_well count true place draft le h = h
  in_main_well count false place draft le h = le

  table_well : (count : ℕ) (draft : Draft) (answer : Result TableDecl Stop) → PlacesWithin count draft → ((stop : Stop) → answer ≡ Err stop → StopWell count stop) → DraftWell count (table_laid draft answer)
  table_well count draft (Ok table) h well = laws.stay.table count draft table h
  table_well count draft (Err stop) h well = well stop refl

  stands_somehow : (disk : Disk) (facts : HostFacts) (draft : Draft) (form : TableForm) (place : Place) (reads : ReadSoFar) (inside : Bool) → PlacesWithin (length reads.names) draft → place.file < length reads.names
      → Somehow (TableStands disk facts draft form place reads inside) reads
  stands_somehow disk facts draft form place reads true h le none = none (Err (stop_at kinds.NotInAnchor place)) reads (refl, refl) (here_stays reads (Err (stop_at kinds.NotInAnchor place)) le)
  stands_somehow disk facts draft form place reads false h le none =
      laws.tabled disk facts draft.here.own.tables form place reads (λ answer later comes.
      let stays = laws.table_stays disk facts draft.here.own.tables form place reads later answer comes le in
      none (table_laid draft answer) later (record { table = answer; comes = comes; gives = refl })
      (record { grows = stays.grows; well = table_well (length later.names) draft answer (places_grow (length reads.names) (length later.names) draft stays.grows.names h) stays.well }))

  decl_somehow : (disk : Disk) (facts : HostFacts) (draft : Draft) (place : Place) (reads : ReadSoFar) (decl : Decl) → PlacesWithin (length reads.names) draft → place.file < length reads.names
      → Somehow (DeclStands disk facts draft place reads decl) reads
  decl_somehow disk facts draft place reads (Set lines) h le none =
      none (in_main (is_in_main draft) place (with_lines draft lines)) reads (refl, refl)
      (here_stays reads (in_main (is_in_main draft) place (with_lines draft lines)) (in_main_well (length reads.names) (is_in_main draft) place (with_lines draft lines) le (laws.stay.lines (length reads.names) draft lines h)))
  decl_somehow disk facts draft place reads (Queue queue) h le none =
      none (in_main (is_in_main draft) place (with_queue draft (queue_at place queue))) reads (refl, refl)
      (here_stays reads (in_main (is_in_main draft) place (with_queue draft (queue_at place queue))) (in_main_well (length reads.names) (is_in_main draft) place (with_queue draft (queue_at place queue)) le (laws.stay.queue (length reads.names) draft (queue_at place queue) h le)))
  decl_somehow disk facts draft place reads (Table form) h le none = stands_somehow disk facts draft form place reads (is_in_body draft) h le none

  declares_somehow : (disk : Disk) (facts : HostFacts) (tokens : List Token) (body : Bool) (draft : Draft) (reads : ReadSoFar) → PlacesWithin (length reads.names) draft → (place_of tokens).file < length reads.names
      → DeclaresOrNot tokens body → Somehow (DeclComes disk facts tokens body draft reads) reads
  declares_somehow disk facts tokens body draft reads h le (declares decl is) none =
      decl_somehow disk facts draft (place_of tokens) reads decl h le (λ result later stands stays. none result later (is_declared decl is stands) stays)
  declares_somehow disk facts tokens body draft reads h le (refused fault out) none =
      none (Err (stop_of fault (place_of tokens))) reads (no_decl fault out (refl, refl))
      (here_stays reads (Err (stop_of fault (place_of tokens))) (subst (λ (f : FormFault). StopWell (length reads.names) (stop_of f (place_of tokens))) (sym out.refused) (outside_well (length reads.names) (first_left_out (symbols tokens)) (place_of tokens) le)))

  close_well : (count : ℕ) (b : Bool) (draft : Draft) (place : Place) → PlacesWithin count draft → place.file < count → DraftWell count (close_in b draft place)
  close_well count true draft place h le = laws.stay.closed count draft h
  close_well count false draft place h le = le

  comes_somehow : (disk : Disk) (facts : HostFacts) (way : Way) (tokens : List Token) (body : Bool) (draft : Draft) (reads : ReadSoFar) → PlacesWithin (length reads.names) draft → (place_of tokens).file < length reads.names
      → Somehow (Comes disk facts way tokens body draft reads) reads
  comes_somehow disk facts Nothing tokens body draft reads h le none = none (Ok draft) reads (refl, refl) (here_stays reads (Ok draft) h)
  comes_somehow disk facts Closes tokens body draft reads h le none =
      none (close_in (is_in_body draft) draft (place_of tokens)) reads (refl, refl) (here_stays reads (close_in (is_in_body draft) draft (place_of tokens)) (close_well (length reads.names) (is_in_body draft) draft (place_of tokens) h le))
  comes_somehow disk facts Declares tokens body draft reads h le none = declares_somehow disk facts tokens body draft reads h le (laws.declared tokens body) none
  comes_somehow disk facts Rules tokens body draft reads h le none = rule_somehow facts tokens body draft reads h le ((statement body).reads (symbols tokens)) refl none

  tokens_somehow : (disk : Disk) (facts : HostFacts) (tokens : List Token) (body : Bool) (draft : Draft) (reads : ReadSoFar) → AreNumbered (length reads.names) tokens → PlacesWithin (length reads.names) draft
      → Somehow (Comes disk facts (way_of tokens) tokens body draft reads) reads
  tokens_somehow disk facts [] body draft reads numbered h none = none (Ok draft) reads (refl, refl) (here_stays reads (Ok draft) h)
  tokens_somehow disk facts (token ∷ tokens) body draft reads numbered h none = comes_somehow disk facts (way_of (token ∷ tokens)) (token ∷ tokens) body draft reads h numbered.0 none

  -- a statement comes to something
  pub statement_somehow : (disk : Disk) (facts : HostFacts) (said : Statement) (draft : Draft) (reads : ReadSoFar) → AreNumbered (length reads.names) said.tokens → PlacesWithin (length reads.names) draft
      → Somehow (StatementComes disk facts said draft reads) reads
  statement_somehow disk facts said draft reads numbered h none = tokens_somehow disk facts said.tokens said.body draft reads numbered h none
