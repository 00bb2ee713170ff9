-- A unit ends: each statement leaves less to do, and so does reading other files.
use Rattle.std.proofs.Common.{◌≡◌, ℕ, ◌≤◌, List, ◌∷◌, Option, Some, Result, Ok, length, refl, ap, sym, subst, inl, inr, arith}
use Rattle.pf_source.specs.Disk.{Disk}
use Rattle.pf_token.specs.declared.cell.Cell.{Cell}
use Rattle.pf_token.specs.Cells.{cells_from}
use Rattle.pf_token.specs.Coming.{Descends, IsBelow, IsLess, below}
use Rattle.pf_token.specs.Macros.{Table}
use Rattle.pf_token.specs.Pieces.{NextIsOne}
use Rattle.pf_lexer.specs.declared.deed.Deed.{Deed}
use Rattle.pf_lexer.specs.declared.deed.Statement.{Statement}
use Rattle.pf_lexer.specs.declared.fault.LexFault.{LexFault}
use Rattle.pf_lexer.specs.Coming.{Finishes, behind}
use Rattle.pf_lexer.specs.Deeds.{Does}
use Rattle.pf_lexer.specs.ReadSoFar.{ReadSoFar}
use Rattle.pf_lexer.specs.Reads.{Look, given, has_read, look_of, look_up, with_name}
use Rattle.pf_lexer.specs.Stages.{Standing, Stage, going, failed}
use Rattle.pf_lexer.specs.Units.{Answer, Answers, GoesTo, Leads, Opens, Passes, further, here, large, opened, unread}
use Rattle.pf_lexer.proofs.Finding.{HasDeed, Lessens}
use Rattle.pf_lexer.proofs.Leading.{LeavesLess, Looked, cells_few, cells_left, dollars_left, end_less, file_less, looked, many, none, some, top_less}
use Rattle.pf_lexer.proofs.OneDeed.{does_one}

below_both : (a b c d e f : ℕ) → IsBelow a b c d → IsBelow c d e f → IsBelow a b e f
below_both a b c d e f (inl p) (inl q) = inl (omega arith)
below_both a b c d e f (inl p) (inr q) = inl (omega (arith, q.0))
below_both a b c d e f (inr p) (inl q) = inl (omega (arith, p.0))
below_both a b c d e f (inr p) (inr q) = inr (omega (arith, p.0, q.0), omega (arith, p.1, q.1))

below_fewer : (a b c d e f : ℕ) → a ≤ c → b ≤ d → IsBelow c d e f → IsBelow a b e f
below_fewer a b c d e f p q (inl r) = inl (omega arith)
below_fewer a b c d e f p q (inr r) = inr (omega (arith, r.0), omega (arith, r.1))

dollars_fewer : (next : Standing) (later latest : ReadSoFar) → latest.left ≤ later.left → dollars_left next latest ≤ dollars_left next later
unfolding dollars_left
dollars_fewer next later latest few = omega arith

cells_fewer : (next : Standing) (later latest : ReadSoFar) → latest.left ≤ later.left → cells_left next latest ≤ cells_left next later
unfolding cells_left
cells_fewer next later latest few = omega arith

-- fewer bytes may still be read
left_fewer : (unit next : Standing) (reads later latest : ReadSoFar) → LeavesLess next later unit reads → latest.left ≤ later.left → LeavesLess next latest unit reads
left_fewer unit next reads later latest less few =
    below_fewer (dollars_left next latest) (cells_left next latest) (dollars_left next later) (cells_left next later) (dollars_left unit reads) (cells_left unit reads)
    (dollars_fewer next later latest few) (cells_fewer next later latest few) less

-- a file that is given has no more bytes than may be read
given_few : (disk : Disk) (name : List ℕ) (reads : ReadSoFar) (number : ℕ) (bytes : List ℕ) → look_up disk reads name ≡ given number bytes → length bytes ≤ reads.left
given_few disk name reads number bytes look = by_look (looked disk name reads) where
  by_look : Looked disk name reads → length bytes ≤ reads.left
  by_look (none gone) = let e : look_up disk reads name ≡ Look.absent = ap (look_of reads name) gone in absurd (cc)
  by_look (many other large_look) = absurd (cc)
  by_look (some other found is few) = let same : found ≡ bytes = cc in subst (λ (b : List ℕ). length b ≤ reads.left) same few

module _ (disk : Disk) (law : (values : List ℕ → Option (List ℕ)) → NextIsOne values) (has_deed : (includes : ℕ) (macros : Table) (cells : List Cell) → HasDeed includes macros cells) where
  -- each statement leaves less behind it
  lessens : {includes : ℕ} {macros changed : Table} {cells after : List Cell} {deed : Deed} → Does includes macros cells deed changed after → Lessens deed after cells
  lessens {includes} {macros} {cells = cells} {after = after} {deed = deed} does =
      let found = has_deed includes macros cells in
      let same = does_one law does found.does in
      subst (λ (d : Deed). Lessens d after cells) (sym same.deed) (subst (λ (r : List Cell). Lessens found.deed r cells) (sym same.rest) found.less)

  opened_less : (unit : Standing) (changed : Table) (after : List Cell) → IsLess after unit.top → {name : List ℕ} {reads later : ReadSoFar} {result : Result (List Cell) LexFault} → Opens disk name reads result later
      → (cells : List Cell) → result ≡ Ok cells → LeavesLess (record { macros = changed; top = cells; below = after ∷ unit.below }) later unit reads
  opened_less unit changed after less {name} {reads} (opened {number = number} {bytes = bytes} look) cells is =
      let few = cells_few (record { file = number; line = 1 }) bytes in
      let same : cells_from (record { file = number; line = 1 }) bytes ≡ cells = cc in
      subst (λ (c : List Cell). LeavesLess (record { macros = changed; top = c; below = after ∷ unit.below }) (has_read reads name bytes) unit reads) same
      (file_less unit changed after (cells_from (record { file = number; line = 1 }) bytes) reads (with_name reads.names name) bytes less few.0 few.1 (given_few disk name reads number bytes look))
  opened_less unit changed after less (large look) cells is = absurd (cc)
  opened_less unit changed after less unread cells is = absurd (cc)

  passes_less : {unit next : Standing} {reads later : ReadSoFar} → Passes disk unit reads next later → LeavesLess next later unit reads
  passes_less (Passes.passed {unit = unit} {changed = changed} {after = after} {reads = reads} does) = top_less unit changed after reads (lessens does)
  passes_less (Passes.included {unit = unit} {changed = changed} {after = after} {cells = cells} does opens) = opened_less unit changed after (lessens does) opens cells refl
  passes_less (Passes.file_ends {unit = unit} {changed = changed} {next = next} {below = files} {reads = reads} does is) = end_less unit changed next files reads is

  goes_less : (last : Standing) (latest : ReadSoFar) {unit next : Standing} {reads later : ReadSoFar} → GoesTo disk unit reads next later → LeavesLess last latest next later → LeavesLess last latest unit reads
  goes_less last latest here less = less
  goes_less last latest (further {unit = unit} {next = between} {reads = reads} {later = later} one rest) less =
      below_both (dollars_left last latest) (cells_left last latest) (dollars_left between later) (cells_left between later) (dollars_left unit reads) (cells_left unit reads)
      (goes_less last latest rest less) (passes_less one)

  answers_less : {unit : Standing} {stage : Stage} {reads later : ReadSoFar} {answer : Answer} → Answers disk unit reads answer stage later
      → (statement : Statement) → answer ≡ Ok (Some statement) → (next : Standing) → stage ≡ going next → LeavesLess next later unit reads
  answers_less (Answers.hands {unit = unit} {changed = changed} {after = after} {reads = reads} does) statement said next is =
      let same : record { macros = changed; top = after; below = unit.below } ≡ next = cc in
      subst (λ (n : Standing). LeavesLess n reads unit reads) same (top_less unit changed after reads (lessens does))
  answers_less (Answers.over does at) statement said next is = absurd (cc)
  answers_less (Answers.fails does) statement said next is = absurd (cc)
  answers_less (Answers.unopened does opens) statement said next is = absurd (cc)

  leads_less : {stage last : Stage} {reads later : ReadSoFar} {answer : Answer} → Leads disk stage reads answer last later → (unit : Standing) → stage ≡ going unit
      → (statement : Statement) → answer ≡ Ok (Some statement) → (next : Standing) → last ≡ going next → LeavesLess next later unit reads
  leads_less {reads = reads} (Leads.comes {unit = first} {latest = latest} goes answers) unit is statement said next at =
      let same : first ≡ unit = cc in
      subst (λ (u : Standing). LeavesLess next latest u reads) same (goes_less next latest goes (answers_less answers statement said next at))
  leads_less Leads.again unit is statement said next at = absurd (cc)

  none_behind : {stage next : Stage} {reads later : ReadSoFar} {answer : Answer} → Leads disk stage reads answer next later → (fault : LexFault) → stage ≡ failed fault → (statement : Statement) → answer ≡ Ok (Some statement) → ⊥
  none_behind (Leads.comes goes answers) fault is statement said = cc
  none_behind Leads.again fault is statement said = cc

  failed_finishes : (fault : LexFault) (reads : ReadSoFar) → Finishes disk (failed fault) reads
  failed_finishes fault reads = behind (λ statement next later latest leads few. absurd (none_behind leads fault refl statement refl))

  finishes_behind : (unit : Standing) (reads : ReadSoFar) → ((next : Standing) (latest : ReadSoFar) → LeavesLess next latest unit reads → Finishes disk (going next) latest)
      → (statement : Statement) (next : Stage) (later latest : ReadSoFar) → Leads disk (going unit) reads (Ok (Some statement)) next later → latest.left ≤ later.left → Finishes disk next latest
  finishes_behind unit reads more statement (going next) later latest leads few = more next latest (left_fewer unit next reads later latest (leads_less leads unit refl statement refl next refl) few)
  finishes_behind unit reads more statement (failed fault) later latest leads few = failed_finishes fault latest

  finishes_by : {a b : ℕ} → Descends a b → (unit : Standing) (reads : ReadSoFar) → dollars_left unit reads ≡ a → cells_left unit reads ≡ b → Finishes disk (going unit) reads
  finishes_by {a} {b} (below lower) unit reads p q =
      behind (finishes_behind unit reads
      (λ next latest less. finishes_by (lower (dollars_left next latest) (cells_left next latest) (subst (λ n. IsBelow (dollars_left next latest) (cells_left next latest) n b) p (subst (λ n. IsBelow (dollars_left next latest) (cells_left next latest) (dollars_left unit reads) n) q less))) next latest refl refl))

  -- a unit ends, wherever it stands
  pub finishes : (descends : (a b : ℕ) → Descends a b) (stage : Stage) (reads : ReadSoFar) → Finishes disk stage reads
  finishes descends (going unit) reads = finishes_by (descends (dollars_left unit reads) (cells_left unit reads)) unit reads refl refl
  finishes descends (failed fault) reads = failed_finishes fault reads
