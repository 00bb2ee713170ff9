-- What a statement of a unit does: it lays rules, a table, settings or a queue on the draft of the plan, it opens or closes a
-- body, or it has a fault (pf.conf(5)).
use Rattle.std.specs.Prelude.{◌≡◌, ℕ, Bool, true, false, ◌&&◌, ◌||◌, not, List, [], ◌∷◌, Option, Some, None, is_none, Result, Ok, Err, codes, if◌then◌else◌}
use Rattle.std.specs.List.{list_any}
use Rattle.std.specs.Str.{bytes_eq}
use Rattle.pf_base.specs.declared.fault.FaultKind.{FaultKind}
use Rattle.pf_base.specs.declared.fault.FaultKind.TheVariants as kinds
use Rattle.pf_base.specs.declared.fault.Place.{Place}
use Rattle.pf_decl.specs.Decls as decls
use Rattle.pf_decl.specs.Decls.{IsDecl, place_of}
use Rattle.pf_decl.specs.declared.form.Decl.{Decl}
use Rattle.pf_decl.specs.declared.form.Decl.TheVariants.{Set, Table, Queue}
use Rattle.pf_decl.specs.declared.form.Queue.{Queue as AnyQueue}
use Rattle.pf_decl.specs.declared.form.TableForm.{TableForm}
use Rattle.pf_expand.specs.Expansion.{Expands}
use Rattle.pf_expand.specs.declared.order.Defaults.{Defaults}
use Rattle.pf_expand.specs.declared.order.Order.{Order}
use Rattle.pf_form.specs.declared.form.Draft.{Draft as Said}
use Rattle.pf_form.specs.declared.form.Head.{Head}
use Rattle.pf_form.specs.declared.form.Head.TheVariants as heads
use Rattle.pf_grammar.specs.Forms as forms
use Rattle.pf_grammar.specs.Forms.{IsDraft}
use Rattle.pf_grammar.specs.Late.{late_of}
use Rattle.pf_host.specs.Facts.{HostFacts}
use Rattle.pf_lexer.specs.ReadSoFar.{ReadSoFar}
use Rattle.pf_lexer.specs.declared.deed.Statement.{Statement}
use Rattle.pf_parts.specs.declared.call.Call.{Call}
use Rattle.pf_plan.specs.Anchors.{closed}
use Rattle.pf_plan.specs.Drafts.{is_in_body, is_in_main, room_of, with_lines, with_queue, with_rules, with_table}
use Rattle.pf_fault.specs.Order.{fault_at, first_of}
use Rattle.pf_entries.specs.Tables.{TableComes}
use Rattle.pf_plan.specs.declared.draft.Draft.{Draft}
use Rattle.pf_plan.specs.declared.draft.Policies.{Policies}
use Rattle.pf_fault.specs.declared.fault.Fault.{Fault}
use Rattle.pf_fault.specs.declared.fault.Stop.{Stop}
use Rattle.pf_fault.specs.declared.fault.Stop.TheVariants as stops
use Rattle.pf_rule.specs.declared.rule.Rule.{Rule}
use Rattle.pf_shelf.specs.declared.decl.TableDecl.{TableDecl}
use Rattle.pf_source.specs.Disk.{Disk}
use Rattle.pf_syntax.specs.declared.fault.FormFault.{FormFault}
use Rattle.pf_syntax.specs.declared.fault.FormFault.TheVariants as outside
use Rattle.pf_token.specs.Kinds.{is_sign_kind, is_word_kind}
use Rattle.pf_token.specs.declared.token.Token.{Token}
use Rattle.pf_load.specs.Anchors.{awaiting, call_of, call_of_rules, entered, load_fault, named_call, no_call, reach_fault, reach_of}
use Rattle.pf_load.specs.declared.reach.Reach.{Reach}
use Rattle.pf_load.specs.declared.reach.Reach.TheVariants.{Here}
use Rattle.pf_load.specs.declared.way.Way.{Way}
use Rattle.pf_load.specs.declared.way.Way.TheVariants.{Nothing, Closes, Declares, Rules}

-- these words begin declarations, all others rules, antispoof and loads of anchors
unfoldable pub begins_declaration : Token → Bool
begins_declaration token = is_word_kind token.kind
    && (bytes_eq token.text (codes "set") || bytes_eq token.text (codes "table") || bytes_eq token.text (codes "queue"))

-- a `}` alone
unfoldable pub is_close : Token → List Token → Bool
is_close token [] = is_sign_kind token.kind && bytes_eq token.text (codes "}")
is_close token (other ∷ tokens) = false

-- how a statement is read, by its first word
abbrev pub way_of : List Token → Way
way_of [] = Nothing
way_of (token ∷ tokens) =
    if is_close token tokens then Closes
    else if begins_declaration token then Declares
    else Rules

-- a fault where a statement begins
abbrev pub stop_at : FaultKind → Place → Stop
stop_at kind place = stops.Fault (fault_at kind place)

-- what a statement outside the grammar is refused for
abbrev pub stop_of : FormFault → Place → Stop
stop_of outside.Syntax place = stop_at kinds.Syntax place
stop_of (outside.Unsupported word) place = stop_at (kinds.Unsupported word) place
stop_of outside.StateOptions place = stop_at kinds.StateOptions place
stop_of outside.AnchorEffect place = stop_at kinds.AnchorEffect place
stop_of outside.BadFlags place = stop_at kinds.BadFlags place
stop_of outside.NoMemory place = stops.NoMemory

-- a late fault of a form, where it has one
abbrev pub late_fault : FormFault → Place → Option Fault
late_fault outside.Syntax place = Some (fault_at kinds.Syntax place)
late_fault (outside.Unsupported word) place = Some (fault_at (kinds.Unsupported word) place)
late_fault outside.StateOptions place = Some (fault_at kinds.StateOptions place)
late_fault outside.AnchorEffect place = Some (fault_at kinds.AnchorEffect place)
late_fault outside.BadFlags place = Some (fault_at kinds.BadFlags place)
late_fault outside.NoMemory place = None

abbrev pub late_at : Option FormFault → Place → Option Fault
late_at None place = None
late_at (Some late) place = late_fault late place

-- Rules

abbrev pub order_of : Said → Order
order_of said = record { group_first = said.group_first; rdr_first = said.rdr_first }

abbrev pub defaults_of : Policies → Defaults
defaults_of policies = record { block = policies.block; bound = policies.bound }

abbrev pub fault_in : Result (List Rule) FaultKind → Place → Option Fault
fault_in (Ok rules) place = None
fault_in (Err kind) place = Some (fault_at kind place)

abbrev pub rules_in : Result (List Rule) FaultKind → List Rule
rules_in (Ok rules) = rules
rules_in (Err kind) = []

abbrev pub unless : {A : Type 0} → Option Fault → A → Result A Stop
unless None value = Ok value
unless (Some fault) value = Err (stops.Fault fault)

-- Of the late faults of a form, those of its expansion and that of its name the one that decides, else the rules are laid on the
-- draft, and what follows goes where the statement leads.
abbrev pub rules_laid : Draft → Said → Place → Reach → Bool → Result (List Rule) FaultKind → Result Draft Stop
rules_laid draft said place reach nameless rules =
    unless (first_of (first_of (late_at (late_of said) place) (fault_in rules place)) (reach_fault reach place))
    (entered (with_rules draft (rules_in rules) said.form.params.queue place) reach place nameless)

-- A form is expanded with the policies of the moment, into at most one rule more than its ruleset may have.
pub record Expanded (facts : HostFacts) (draft : Draft) (said : Said) (place : Place) (call : Call) (reach : Reach) (nameless : Bool) (result : Result Draft Stop) : Type 0 where
  pub rules : Result (List Rule) FaultKind
  pub expands : Expands said.form call (order_of said) facts (defaults_of draft.policies) (room_of draft) rules
  pub gives : result ≡ rules_laid draft said place reach nameless rules

-- a rule or an antispoof leads nowhere else
abbrev pub Plain : HostFacts → Draft → Said → Place → Result Draft Stop → Type 0
Plain facts draft said place result = Expanded facts draft said place no_call Here false result

-- an anchor rule, with a body behind it or not
abbrev pub Anchored : HostFacts → Draft → Said → Place → Option (List ℕ) → Bool → Result Draft Stop → Type 0
Anchored facts draft said place name body result =
    Expanded facts draft said place (call_of_rules (call_of draft name)) (reach_of draft body (call_of draft name)) (is_none name) result

-- the load of a file into an anchor: it makes no rule, and the file is read once its unit has ended
abbrev pub load_laid : Draft → Place → Reach → List ℕ → Result Draft Stop
load_laid draft place reach file = unless (first_of (load_fault draft place) (reach_fault reach place)) (awaiting draft reach file)

abbrev pub SaidComes : HostFacts → Draft → Said → Place → Head → Result Draft Stop → Type 0
SaidComes facts draft said place heads.Pass result = Plain facts draft said place result
SaidComes facts draft said place (heads.Block kind) result = Plain facts draft said place result
SaidComes facts draft said place heads.Match result = Plain facts draft said place result
SaidComes facts draft said place heads.Antispoof result = Plain facts draft said place result
SaidComes facts draft said place (heads.Anchor name body) result = Anchored facts draft said place name body result
SaidComes facts draft said place (heads.LoadAnchor name file) result = result ≡ load_laid draft place (reach_of draft true (named_call name)) file

-- a rule, an antispoof, an anchor, the load of one, or none
pub data RuleComes (facts : HostFacts) (tokens : List Token) (body : Bool) (draft : Draft) (result : Result Draft Stop) : Type 0 where
  is_said : (said : Said) → IsDraft tokens body said → SaidComes facts draft said (place_of tokens) said.form.head result → RuleComes facts tokens body draft result
  no_rule : (fault : FormFault) → forms.IsOutside tokens body fault → result ≡ Err (stop_of fault (place_of tokens)) → RuleComes facts tokens body draft result

-- Declarations

-- settings and queues stand in the main ruleset alone
abbrev pub in_main : Bool → Place → Draft → Result Draft Stop
in_main true place draft = Ok draft
in_main false place draft = Err (stop_at kinds.NotInAnchor place)

abbrev pub table_laid : Draft → Result TableDecl Stop → Result Draft Stop
table_laid draft (Ok table) = Ok (with_table draft table)
table_laid draft (Err stop) = Err stop

pub record Tabled (disk : Disk) (facts : HostFacts) (draft : Draft) (form : TableForm) (place : Place) (reads : ReadSoFar) (result : Result Draft Stop) (later : ReadSoFar) : Type 0 where
  pub table : Result TableDecl Stop
  pub comes : TableComes disk facts draft.here.own.tables form place reads table later
  pub gives : result ≡ table_laid draft table

-- nothing is read, and this comes of it
abbrev pub Is : Result Draft Stop → ReadSoFar → Result Draft Stop → ReadSoFar → Type 0
Is answer reads result later = (result ≡ answer) × (later ≡ reads)

-- a table stands in no body; its files are read only where it may stand
abbrev pub TableStands : Disk → HostFacts → Draft → TableForm → Place → ReadSoFar → Bool → Result Draft Stop → ReadSoFar → Type 0
TableStands disk facts draft form place reads true result later = Is (Err (stop_at kinds.NotInAnchor place)) reads result later
TableStands disk facts draft form place reads false result later = Tabled disk facts draft form place reads result later

-- a queue stands where its statement begins
abbrev pub queue_at : Place → AnyQueue → AnyQueue
queue_at place queue = record queue { place = place }

abbrev pub DeclStands : Disk → HostFacts → Draft → Place → ReadSoFar → Decl → Result Draft Stop → ReadSoFar → Type 0
DeclStands disk facts draft place reads (Set lines) result later = Is (in_main (is_in_main draft) place (with_lines draft lines)) reads result later
DeclStands disk facts draft place reads (Queue queue) result later = Is (in_main (is_in_main draft) place (with_queue draft (queue_at place queue))) reads result later
DeclStands disk facts draft place reads (Table form) result later = TableStands disk facts draft form place reads (is_in_body draft) result later

-- a setting, a table, a queue, or none
pub data DeclComes (disk : Disk) (facts : HostFacts) (tokens : List Token) (body : Bool) (draft : Draft) (reads : ReadSoFar) (result : Result Draft Stop) (later : ReadSoFar) : Type 0 where
  is_declared : (decl : Decl) → IsDecl tokens body decl → DeclStands disk facts draft (place_of tokens) reads decl result later → DeclComes disk facts tokens body draft reads result later
  no_decl : (fault : FormFault) → decls.IsOutside tokens body fault → Is (Err (stop_of fault (place_of tokens))) reads result later → DeclComes disk facts tokens body draft reads result later

-- a `}` closes the innermost body
abbrev pub close_in : Bool → Draft → Place → Result Draft Stop
close_in true draft place = Ok (closed draft)
close_in false draft place = Err (stop_at kinds.StrayClose place)

-- What a statement comes to over a disk, behind what the draft has and what was read: another draft, or why the load goes no
-- further; and what was read then.
abbrev pub Comes : Disk → HostFacts → Way → List Token → Bool → Draft → ReadSoFar → Result Draft Stop → ReadSoFar → Type 0
Comes disk facts Nothing tokens body draft reads result later = Is (Ok draft) reads result later
Comes disk facts Closes tokens body draft reads result later = Is (close_in (is_in_body draft) draft (place_of tokens)) reads result later
Comes disk facts Declares tokens body draft reads result later = DeclComes disk facts tokens body draft reads result later
Comes disk facts Rules tokens body draft reads result later = RuleComes facts tokens body draft result × (later ≡ reads)

abbrev pub StatementComes : Disk → HostFacts → Statement → Draft → ReadSoFar → Result Draft Stop → ReadSoFar → Type 0
StatementComes disk facts statement draft reads result later = Comes disk facts (way_of statement.tokens) statement.tokens statement.body draft reads result later
