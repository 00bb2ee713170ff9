-- What comes next of a unit is one thing, where each file that can't be read isn't there.
use Rattle.std.proofs.Common.{◌≡◌, ℕ, List, [], ◌∷◌, Option, Some, None, Result, Ok, Err, refl, ap, sym, ◌∙◌, subst}
use Rattle.pf_source.specs.Disk.{AreAbsent, Disk}
use Rattle.pf_token.specs.declared.cell.Cell.{Cell}
use Rattle.pf_token.specs.declared.token.Fault.{Fault as FaultOf}
use Rattle.pf_token.specs.Cells.{cells_from}
use Rattle.pf_token.specs.Pieces.{NextIsOne}
use Rattle.pf_lexer.specs.declared.deed.Deed.TheVariants.{Includes}
use Rattle.pf_lexer.specs.declared.deed.Statement.{Statement}
use Rattle.pf_lexer.specs.declared.fault.LexFault.{LexFault}
use Rattle.pf_lexer.specs.declared.fault.LexFault.TheVariants as faults
use Rattle.pf_lexer.specs.Calls.{unread_in}
use Rattle.pf_lexer.specs.ReadSoFar.{ReadSoFar}
use Rattle.pf_lexer.specs.Reads.{absent, given, too_large, has_numbered, has_read, look_of, look_up}
use Rattle.pf_lexer.specs.Stages.{Standing, Stage, going, failed}
use Rattle.pf_lexer.specs.Units.{Answer, Answers, GoesTo, Leads, Opens, opened, large, unread, Passes, answered}
use Rattle.pf_lexer.proofs.OneDeed.{does_one}

module _ (disk : Disk) where
  -- a file that isn't there is neither given nor too large
  not_given : (name : List ℕ) (reads : ReadSoFar) (number : ℕ) (bytes : List ℕ) → disk name ≡ None → look_up disk reads name ≡ given number bytes → ⊥
  not_given name reads number bytes none look = let e : absent ≡ given number bytes = sym (ap (look_of reads name) none) ∙ look in cc

  not_large : (name : List ℕ) (reads : ReadSoFar) (number : ℕ) → disk name ≡ None → look_up disk reads name ≡ too_large number → ⊥
  not_large name reads number none look = let e : absent ≡ too_large number = sym (ap (look_of reads name) none) ∙ look in cc

  pub record SameOpening (x y : Result (List Cell) LexFault) (r s : ReadSoFar) : Type 0 where
    pub result : x ≡ y
    pub reads : r ≡ s

  given_then : {name : List ℕ} {reads latest : ReadSoFar} {y : Result (List Cell) LexFault} → Opens disk name reads y latest → (number : ℕ) (bytes : List ℕ) → look_up disk reads name ≡ given number bytes → AreAbsent disk (unread_in y)
      → SameOpening (Ok (cells_from (record { file = number; line = 1 }) bytes)) y (has_read reads name bytes) latest
  given_then {name = name} {reads = reads} (opened {number = other} {bytes = others} again) number bytes look true =
      let e : given number bytes ≡ given other others = sym look ∙ again in
      let numbers : number ≡ other = cc in
      let texts : bytes ≡ others = cc in
      record { result = λ i. Ok (cells_from (record { file = numbers i; line = 1 }) (texts i)); reads = λ i. has_read reads name (texts i) }
  given_then (large {number = other} again) number bytes look true = let e : given number bytes ≡ too_large other = sym look ∙ again in absurd cc
  given_then {name = name} {reads = reads} unread number bytes look true = absurd (not_given name reads number bytes true.0 look)

  large_then : {name : List ℕ} {reads latest : ReadSoFar} {y : Result (List Cell) LexFault} → Opens disk name reads y latest → (number : ℕ) → look_up disk reads name ≡ too_large number → AreAbsent disk (unread_in y)
      → SameOpening (Err (faults.TooLarge (record { file = number; line = 0 }))) y (has_numbered reads name) latest
  large_then (opened {number = other} {bytes = others} again) number look true = let e : too_large number ≡ given other others = sym look ∙ again in absurd cc
  large_then {name = name} {reads = reads} (large {number = other} again) number look true =
      let e : too_large number ≡ too_large other = sym look ∙ again in
      let numbers : number ≡ other = cc in
      record { result = λ i. Err (faults.TooLarge (record { file = numbers i; line = 0 })); reads = refl }
  large_then {name = name} {reads = reads} unread number look true = absurd (not_large name reads number true.0 look)

  unread_then : {name : List ℕ} {reads latest : ReadSoFar} {y : Result (List Cell) LexFault} → Opens disk name reads y latest → disk name ≡ None → SameOpening (Err (faults.CannotRead name)) y reads latest
  unread_then {name = name} {reads = reads} (opened {number = number} {bytes = bytes} look) none = absurd (not_given name reads number bytes none look)
  unread_then {name = name} {reads = reads} (large {number = number} look) none = absurd (not_large name reads number none look)
  unread_then unread none = record { result = refl; reads = refl }

  -- a file is read in one way
  pub opens_one : {name : List ℕ} {reads later latest : ReadSoFar} {x y : Result (List Cell) LexFault} → Opens disk name reads x later → Opens disk name reads y latest → AreAbsent disk (unread_in x) → AreAbsent disk (unread_in y) → SameOpening x y later latest
  opens_one (opened {number = number} {bytes = bytes} look) two true also = given_then two number bytes look also
  opens_one (large {number = number} look) two true also = large_then two number look also
  opens_one unread two true also = unread_then two true.0

  same_opening : {name other : List ℕ} {reads later latest : ReadSoFar} {x y : Result (List Cell) LexFault} → name ≡ other → Opens disk name reads x later → Opens disk other reads y latest → AreAbsent disk (unread_in x) → AreAbsent disk (unread_in y)
      → SameOpening x y later latest
  same_opening {reads = reads} {latest = latest} {y = y} names one two true also = opens_one one (subst (λ (n : List ℕ). Opens disk n reads y latest) (sym names) two) true also

  -- two deeds at one place
  module _ (law : (values : List ℕ → Option (List ℕ)) → NextIsOne values) where
    record SamePlace (a b : Standing) (r s : ReadSoFar) : Type 0 where
      unit : a ≡ b
      reads : r ≡ s

    pub record SameAnswer (a b : Answer) (s t : Stage) (q r : ReadSoFar) : Type 0 where
      pub answer : a ≡ b
      pub stage : s ≡ t
      pub reads : q ≡ r

    names_same : {a b : List ℕ} → Includes a ≡ Includes b → a ≡ b
    names_same e = cc

    passes_one : {unit next other : Standing} {reads later latest : ReadSoFar} → Passes disk unit reads next later → Passes disk unit reads other latest → SamePlace next other later latest
    passes_one {unit = unit} (Passes.passed one) (Passes.passed two) =
        let same = does_one law one two in
        record { unit = λ i. record { macros = same.macros i; top = same.rest i; below = unit.below }; reads = refl }
    passes_one (Passes.passed one) (Passes.included two opens) = let e = (does_one law one two).deed in absurd cc
    passes_one (Passes.passed one) (Passes.file_ends two below) = let e = (does_one law one two).deed in absurd cc
    passes_one (Passes.included one opens) (Passes.passed two) = let e = (does_one law one two).deed in absurd cc
    passes_one {unit = unit} (Passes.included {cells = cells} one opens) (Passes.included {cells = others} two again) =
        let same = does_one law one two in
        let opening = same_opening (names_same same.deed) opens again tt tt in
        let ok = opening.result in
        let tops : cells ≡ others = cc in
        record { unit = λ i. record { macros = same.macros i; top = tops i; below = same.rest i ∷ unit.below }; reads = opening.reads }
    passes_one (Passes.included one opens) (Passes.file_ends two below) = let e = (does_one law one two).deed in absurd cc
    passes_one (Passes.file_ends one below) (Passes.passed two) = let e = (does_one law one two).deed in absurd cc
    passes_one (Passes.file_ends one below) (Passes.included two opens) = let e = (does_one law one two).deed in absurd cc
    passes_one (Passes.file_ends {next = next} {below = below} one is) (Passes.file_ends {next = other} {below = others} two also) =
        let same = does_one law one two in
        let e : next ∷ below ≡ other ∷ others = sym is ∙ also in
        let tops : next ≡ other = cc in
        let rest : below ≡ others = cc in
        record { unit = λ i. record { macros = same.macros i; top = tops i; below = rest i }; reads = refl }

    -- a statement that hands nothing out gives no answer
    no_answer : {unit next : Standing} {stage : Stage} {reads later latest : ReadSoFar} {answer : Answer} → Passes disk unit reads next later → Answers disk unit reads answer stage latest → AreAbsent disk (unread_in answer) → ⊥
    no_answer (Passes.passed one) (Answers.hands two) true = let e = (does_one law one two).deed in cc
    no_answer (Passes.passed one) (Answers.over two below) true = let e = (does_one law one two).deed in cc
    no_answer (Passes.passed one) (Answers.fails two) true = let e = (does_one law one two).deed in cc
    no_answer (Passes.passed one) (Answers.unopened two opens) true = let e = (does_one law one two).deed in cc
    no_answer (Passes.included one opens) (Answers.hands two) true = let e = (does_one law one two).deed in cc
    no_answer (Passes.included one opens) (Answers.over two below) true = let e = (does_one law one two).deed in cc
    no_answer (Passes.included one opens) (Answers.fails two) true = let e = (does_one law one two).deed in cc
    no_answer (Passes.included one opens) (Answers.unopened two none) true =
        let opening = same_opening (names_same (does_one law one two).deed) opens none tt true in
        let e = opening.result in
        cc
    no_answer (Passes.file_ends one below) (Answers.hands two) true = let e = (does_one law one two).deed in cc
    no_answer (Passes.file_ends {next = next} {below = below} one is) (Answers.over two none) true = let e : next ∷ below ≡ [] = sym is ∙ none in cc
    no_answer (Passes.file_ends one below) (Answers.fails two) true = let e = (does_one law one two).deed in cc
    no_answer (Passes.file_ends one below) (Answers.unopened two none) true = let e = (does_one law one two).deed in cc

    answers_one : {unit : Standing} {stage other : Stage} {reads later latest : ReadSoFar} {answer found : Answer} → Answers disk unit reads answer stage later → Answers disk unit reads found other latest
        → AreAbsent disk (unread_in answer) → AreAbsent disk (unread_in found) → SameAnswer answer found stage other later latest
    answers_one {unit = unit} (Answers.hands {statement = statement} one) (Answers.hands {statement = other} two) true also =
        let same = does_one law one two in
        let e = same.deed in
        let statements : statement ≡ other = cc in
        record { answer = ap (λ (s : Statement). Ok (Some s)) statements; stage = λ i. going (record { macros = same.macros i; top = same.rest i; below = unit.below }); reads = refl }
    answers_one (Answers.hands one) (Answers.over two below) true also = let e = (does_one law one two).deed in absurd cc
    answers_one (Answers.hands one) (Answers.fails two) true also = let e = (does_one law one two).deed in absurd cc
    answers_one (Answers.hands one) (Answers.unopened two opens) true also = let e = (does_one law one two).deed in absurd cc
    answers_one (Answers.over one below) (Answers.hands two) true also = let e = (does_one law one two).deed in absurd cc
    answers_one {unit = unit} (Answers.over one below) (Answers.over two none) true also =
        let same = does_one law one two in
        record { answer = refl; stage = λ i. going (record { macros = same.macros i; top = same.rest i; below = unit.below }); reads = refl }
    answers_one (Answers.over one below) (Answers.fails two) true also = let e = (does_one law one two).deed in absurd cc
    answers_one (Answers.over one below) (Answers.unopened two opens) true also = let e = (does_one law one two).deed in absurd cc
    answers_one (Answers.fails one) (Answers.hands two) true also = let e = (does_one law one two).deed in absurd cc
    answers_one (Answers.fails one) (Answers.over two below) true also = let e = (does_one law one two).deed in absurd cc
    answers_one (Answers.fails {fault = fault} one) (Answers.fails {fault = other} two) true also =
        let e = (does_one law one two).deed in
        let same : fault ≡ other = cc in
        record { answer = ap (λ (f : FaultOf). Err (answered f)) same; stage = ap (λ (f : FaultOf). failed (answered f)) same; reads = refl }
    answers_one (Answers.fails one) (Answers.unopened two opens) true also = let e = (does_one law one two).deed in absurd cc
    answers_one (Answers.unopened one opens) (Answers.hands two) true also = let e = (does_one law one two).deed in absurd cc
    answers_one (Answers.unopened one opens) (Answers.over two below) true also = let e = (does_one law one two).deed in absurd cc
    answers_one (Answers.unopened one opens) (Answers.fails two) true also = let e = (does_one law one two).deed in absurd cc
    answers_one (Answers.unopened {fault = fault} one opens) (Answers.unopened {fault = other} two none) true also =
        let opening = same_opening (names_same (does_one law one two).deed) opens none true also in
        let e = opening.result in
        let same : fault ≡ other = cc in
        record { answer = ap (λ (f : LexFault). Err f) same; stage = ap failed same; reads = opening.reads }

    -- where one answers at once, so does the other
    here_one : {unit last : Standing} {stage other : Stage} {reads later latest middle : ReadSoFar} {answer found : Answer} → GoesTo disk unit reads last middle → Answers disk last middle found other latest → Answers disk unit reads answer stage later
        → AreAbsent disk (unread_in answer) → AreAbsent disk (unread_in found) → SameAnswer answer found stage other later latest
    here_one GoesTo.here two one true also = answers_one one two true also
    here_one (GoesTo.further step goes) two one true also = absurd (no_answer step one true)

    -- the way behind a step
    behind_step : {unit next last : Standing} {other : Stage} {reads later latest middle : ReadSoFar} {found : Answer} → GoesTo disk unit reads last middle → Answers disk last middle found other latest → Passes disk unit reads next later → AreAbsent disk (unread_in found)
        → (end : Standing) × (at : ReadSoFar) × GoesTo disk next later end at × Answers disk end at found other latest
    behind_step GoesTo.here two step also = absurd (no_answer step two also)
    behind_step {last = last} {later = later} {middle = middle} (GoesTo.further {next = other} again goes) two step also =
        let same = passes_one step again in
        (last, middle, subst (λ (u : Standing). GoesTo disk u later last middle) (sym same.unit) (subst (λ (r : ReadSoFar). GoesTo disk other r last middle) (sym same.reads) goes), two)

    goes_one : {unit last : Standing} {stage other : Stage} {reads later latest middle : ReadSoFar} {answer found : Answer} → GoesTo disk unit reads last middle → Answers disk last middle answer stage later → AreAbsent disk (unread_in answer)
        → (end : Standing) (at : ReadSoFar) → GoesTo disk unit reads end at → Answers disk end at found other latest → AreAbsent disk (unread_in found) → SameAnswer answer found stage other later latest
    goes_one GoesTo.here one true end at goes two also = here_one goes two one true also
    goes_one (GoesTo.further step more) one true end at goes two also =
        let rest = behind_step goes two step also in
        goes_one more one true rest.0 rest.1 rest.2 rest.3 also

    pub leads_one : {stage next other : Stage} {reads later latest : ReadSoFar} {answer found : Answer} → Leads disk stage reads answer next later → Leads disk stage reads found other latest
        → AreAbsent disk (unread_in answer) → AreAbsent disk (unread_in found) → SameAnswer answer found next other later latest
    leads_one (Leads.comes {next = end} {later = at} goes one) two true also = second two goes one true also where
      second : {unit last : Standing} {stage other : Stage} {reads later latest middle : ReadSoFar} {answer found : Answer} → Leads disk (going unit) reads found other latest → GoesTo disk unit reads last middle → Answers disk last middle answer stage later
          → AreAbsent disk (unread_in answer) → AreAbsent disk (unread_in found) → SameAnswer answer found stage other later latest
      second (Leads.comes {next = end} {later = at} goes two) before one true also = goes_one before one true end at goes two also
    leads_one (Leads.again {fault = fault}) two true also = second two where
      second : {other : Stage} {reads latest : ReadSoFar} {found : Answer} {fault : LexFault} → Leads disk (failed fault) reads found other latest → SameAnswer (Err fault) found (failed fault) other reads latest
      second Leads.again = record { answer = refl; stage = refl; reads = refl }
