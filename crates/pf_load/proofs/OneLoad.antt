-- Over a disk a load comes to one thing, where each call of the lexer leads to one answer.
use Rattle.std.proofs.Common.{◌≡◌, ℕ, List, Option, Some, None, Result, Ok, Err, sym, ap, subst, ◌∙◌}
use Rattle.pf_base.specs.declared.fault.Place.{Place}
use Rattle.pf_host.specs.Facts.{HostFacts}
use Rattle.pf_source.specs.Disk.{AreAbsent, Disk}
use Rattle.pf_token.specs.Macros.{Table, values_of}
use Rattle.pf_token.specs.declared.cell.Cell.{Cell}
use Rattle.pf_lexer.specs.Calls.{unread_in}
use Rattle.pf_lexer.specs.ReadSoFar.{ReadSoFar}
use Rattle.pf_lexer.specs.Stages.{Stage}
use Rattle.pf_lexer.specs.Units.{Answer, Leads, Opens, start_in}
use Rattle.pf_lexer.specs.declared.deed.Statement.{Statement}
use Rattle.pf_lexer.specs.declared.fault.LexFault.{LexFault}
use Rattle.pf_plan.specs.Anchors.{next_load, next_unit}
use Rattle.pf_plan.specs.Drafts.{begun_draft}
use Rattle.pf_plan.specs.Ends.{HasEndFault}
use Rattle.pf_plan.specs.declared.draft.AnchorFile.{AnchorFile}
use Rattle.pf_plan.specs.declared.draft.Draft.{Draft}
use Rattle.pf_fault.specs.declared.fault.Fault.{Fault}
use Rattle.pf_fault.specs.declared.fault.Stop.{Stop}
use Rattle.pf_plan.specs.declared.plan.Plan.{Plan}
use Rattle.pf_load.specs.Load.{AtEnd, AtStatement, Begins, GoesOn, Loads, LoadsOn, Outcome, Turn, Turns, begun, ends, further, goes_on, nothing_read, outcome_of, over, stopped_by, turn_of, unit_at, unopened}
use Rattle.pf_load.specs.Statements.{StatementComes}
use Rattle.pf_load.specs.declared.loading.LoadOptions.{LoadOptions}

-- each call leads to one answer that is true to the disk
abbrev pub LeadsToOne : Disk → Type 0
LeadsToOne disk = (stage n m : Stage) (reads l k : ReadSoFar) (a b : Answer) → Leads disk stage reads a n l → Leads disk stage reads b m k → AreAbsent disk (unread_in a) → AreAbsent disk (unread_in b) → (a ≡ b) × (n ≡ m) × (l ≡ k)

-- a file is read in one way
abbrev pub OpensOne : Disk → Type 0
OpensOne disk = (name : List ℕ) (reads later latest : ReadSoFar) (a b : Result (List Cell) LexFault) → Opens disk name reads a later → Opens disk name reads b latest → AreAbsent disk (unread_in a) → AreAbsent disk (unread_in b) → (a ≡ b) × (later ≡ latest)

-- a statement comes to one thing
abbrev pub StatementOne : Disk → HostFacts → Type 0
StatementOne disk facts = (statement : Statement) (draft : Draft) (reads later latest : ReadSoFar) (a b : Result Draft Stop) → StatementComes disk facts statement draft reads a later → StatementComes disk facts statement draft reads b latest → (a ≡ b) × (later ≡ latest)

-- a unit's end has one fault, or none
abbrev pub EndOne : Type 0
EndOne = (draft : Draft) (a b : Option Fault) → HasEndFault draft a → HasEndFault draft b → a ≡ b

one_some : {X : Type 0} (a b : X) → Some a ≡ Some b → a ≡ b
one_some a b h = cc

module _ (disk : Disk) (opens_one : OpensOne disk) where
  both_begun : (values : Table) (file : List ℕ) (draft_at : Place → Draft) (xs ys : List Cell) (l k : ReadSoFar) → ◌≡◌ {A = Result (List Cell) LexFault} (Ok xs) (Ok ys) → l ≡ k
      → further (start_in values xs) l (draft_at (unit_at l.names file)) ≡ further (start_in values ys) k (draft_at (unit_at k.names file))
  both_begun values file draft_at xs ys l k e f =
      let cells : xs ≡ ys = cc in
      ap (λ (c : List Cell). further (start_in values c) l (draft_at (unit_at l.names file))) cells ∙ ap (λ (r : ReadSoFar). further (start_in values ys) r (draft_at (unit_at r.names file))) f

  both_unopened : (a b : LexFault) (l k : ReadSoFar) → ◌≡◌ {A = Result (List Cell) LexFault} (Err a) (Err b) → l ≡ k → over l (Err (stopped_by a)) ≡ over k (Err (stopped_by b))
  both_unopened a b l k e f =
      let same : a ≡ b = cc in
      ap (λ (x : LexFault). over l (Err (stopped_by x))) same ∙ ap (λ (r : ReadSoFar). over r (Err (stopped_by b))) f

  -- a unit begins in one way
  pub one_begin : (values : Table) (file : List ℕ) (reads : ReadSoFar) (draft_at : Place → Draft) (a b : Turn) → Begins disk values file reads draft_at a → Begins disk values file reads draft_at b → a ≡ b
  one_begin values file reads draft_at a b (begun xs l first e) (begun ys k second f) =
      let same = opens_one file reads l k (Ok xs) (Ok ys) first second tt tt in
      e ∙ both_begun values file draft_at xs ys l k same.0 same.1 ∙ sym f
  one_begin values file reads draft_at a b (begun xs l first e) (unopened fault k second true f) =
      let same = opens_one file reads l k (Ok xs) (Err fault) first second tt true in
      let differ : ◌≡◌ {A = Result (List Cell) LexFault} (Ok xs) (Err fault) = same.0 in cc
  one_begin values file reads draft_at a b (unopened fault l first true e) (begun ys k second f) =
      let same = opens_one file reads l k (Err fault) (Ok ys) first second true tt in
      let differ : ◌≡◌ {A = Result (List Cell) LexFault} (Err fault) (Ok ys) = same.0 in cc
  one_begin values file reads draft_at a b (unopened fault l first true e) (unopened other k second true' f) =
      let same = opens_one file reads l k (Err fault) (Err other) first second true true' in
      e ∙ both_unopened fault other l k same.0 same.1 ∙ sym f

  module _ (options : LoadOptions) (end_one : EndOne) where
    goes_to_one : (draft : Draft) (reads : ReadSoFar) (fault : Option Fault) (next : Option AnchorFile) (a b : Turn) → GoesOn disk options draft reads fault next a → GoesOn disk options draft reads fault next b → a ≡ b
    goes_to_one draft reads (Some fault) next a b h k = h ∙ sym k
    goes_to_one draft reads None None a b h k = h ∙ sym k
    goes_to_one draft reads None (Some next) a b h k = one_begin (values_of options.defines) next.file reads (next_unit draft next.path) a b h k

    module _ (facts : HostFacts) (statement_one : StatementOne disk facts) where
      -- each answer makes one turn
      one_turn : (answer : Answer) (next : Stage) (draft : Draft) (reads : ReadSoFar) (a b : Turn) → Turns disk facts options answer next draft reads a → Turns disk facts options answer next draft reads b → a ≡ b
      one_turn (Ok (Some statement)) next draft reads a b h k =
          let same = statement_one statement draft reads h.later k.later h.result k.result h.comes k.comes in
          h.gives ∙ ap (turn_of next h.later) same.0 ∙ ap (λ (r : ReadSoFar). turn_of next r k.result) same.1 ∙ sym k.gives
      one_turn (Ok None) next draft reads a b h k =
          goes_to_one draft reads h.fault (next_load draft) a b h.goes (subst (λ (f : Option Fault). GoesOn disk options draft reads f (next_load draft) b) (end_one draft k.fault h.fault k.has h.has) k.goes)
      one_turn (Err fault) next draft reads a b h k = h ∙ sym k

      -- both turns are of one answer
      same_turn : (x y : Answer) (n m : Stage) (l k : ReadSoFar) (draft : Draft) (a b : Turn) → x ≡ y → n ≡ m → l ≡ k → Turns disk facts options x n draft l a → Turns disk facts options y m draft k b → a ≡ b
      same_turn x y n m l k draft a b e f g h i =
          one_turn x n draft l a b h
          (subst (λ (z : Answer). Turns disk facts options z n draft l b) (sym e)
          (subst (λ (z : Stage). Turns disk facts options y z draft l b) (sym f)
          (subst (λ (z : ReadSoFar). Turns disk facts options y m draft z b) (sym g) i)))

      module _ (one : LeadsToOne disk) where
        one_on : {turn : Turn} {a : Outcome} → LoadsOn disk facts options turn a → (other : Turn) (b : Outcome) → turn ≡ other → LoadsOn disk facts options other b → a ≡ b
        one_on (ends {reads = x} {last = p} {outcome = a} is) other b e (ends {reads = y} {last = q} is') =
            let reads : x ≡ y = cc in
            let last : p ≡ q = cc in
            one_some a b (sym is ∙ (ap (λ (z : ReadSoFar). outcome_of z.names p) reads ∙ (ap (λ (z : Result Plan Stop). outcome_of y.names z) last ∙ is')))
        one_on (ends is) other b e (goes_on lead true turns on) = absurd cc
        one_on (goes_on lead true turns on) other b e (ends is) = absurd cc
        one_on (goes_on {stage = s} {next = n} {reads = x} {later = l} {answer = u} {draft = d} {turn = t} lead true turns on) other b e
            (goes_on {stage = s'} {next = m} {reads = x'} {later = k} {answer = v} {draft = d'} {turn = t'} lead' true' turns' on') =
            let stages : s' ≡ s = cc in
            let reads : x' ≡ x = cc in
            let drafts : d' ≡ d = cc in
            let moved : Leads disk s x v m k = subst (λ (z : Stage). Leads disk z x v m k) stages (subst (λ (z : ReadSoFar). Leads disk s' z v m k) reads lead') in
            let same = one s n m x l k u v lead moved true true' in
            let turned : Turns disk facts options v m d k t' = subst (λ (z : Draft). Turns disk facts options v m z k t') drafts turns' in
            one_on on t' b (same_turn u v n m l k d t t' same.0 same.1 same.2 turns turned) on'

        pub one_load : (file : List ℕ) (a b : Outcome) → Loads disk facts options file a → Loads disk facts options file b → a ≡ b
        one_load file a b h k = one_on h.on k.turn b (one_begin (values_of options.defines) file nothing_read (begun_draft options.path) h.turn k.turn h.begins k.begins) k.on
