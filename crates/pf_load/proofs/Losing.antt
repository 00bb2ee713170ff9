-- Without one file the same comes of a load's turn, or that file can't be read.
use Rattle.std.proofs.Common.{◌≡◌, ℕ, List, [], ◌∷◌, Option, Some, None, Result, Ok, Err, refl, sym, ap, subst, ◌∙◌, inl, inr}
use Rattle.std.specs.Prelude.{◌⊎◌, Bool, true, false, nat_eq, if◌then◌else◌}
use Rattle.std.specs.Cmp.Lexicographic.{pointwise}
use Rattle.pf_base.specs.declared.fault.Place.{Place}
use Rattle.pf_host.specs.Facts.{HostFacts}
use Rattle.pf_source.specs.Disk.{AreAbsent, Disk, without}
use Rattle.pf_source.specs.DiskLaws.{is_absent}
use Rattle.pf_token.specs.Macros.{Table, values_of}
use Rattle.pf_token.specs.declared.cell.Cell.{Cell}
use Rattle.pf_lexer.specs.Calls.{unread_by}
use Rattle.pf_lexer.specs.Outages.{OpensWithout}
use Rattle.pf_lexer.specs.ReadSoFar.{ReadSoFar}
use Rattle.pf_lexer.specs.Stages.{Stage}
use Rattle.pf_lexer.specs.Units.{Answer, Opens}
use Rattle.pf_lexer.specs.declared.fault.LexFault.{LexFault}
use Rattle.pf_lexer.specs.declared.fault.LexFault.TheVariants as lexical
use Rattle.pf_plan.specs.Anchors.{next_load, next_unit}
use Rattle.pf_plan.specs.declared.draft.AnchorFile.{AnchorFile}
use Rattle.pf_plan.specs.declared.draft.Draft.{Draft}
use Rattle.pf_fault.specs.declared.fault.Fault.{Fault}
use Rattle.pf_fault.specs.declared.fault.Stop.TheVariants as stops
use Rattle.pf_load.specs.Load.{Begins, GoesOn, Turn, Turns, begun, further, over, stopped_by, unopened}
use Rattle.pf_load.specs.declared.loading.LoadOptions.{LoadOptions}
use Rattle.pf_load.proofs.OneStatement.{TablesWithout, statement_without}

-- the lexer's law: without one file a reading is the same, or that file can't be read
abbrev pub OpenWithout : Type 0
OpenWithout = (disk : Disk) (gone name : List ℕ) (reads later : ReadSoFar) (answer : Result (List Cell) LexFault) → Opens disk name reads answer later → OpensWithout disk gone name reads answer later

still_absent : (is : Bool) (held : Option (List ℕ)) → held ≡ None → (if is then None else held) ≡ None
still_absent true held h = refl
still_absent false held h = h

-- what is absent stays absent without another file
pub stay_absent : (disk : Disk) (gone : List ℕ) (names : List (List ℕ)) → AreAbsent disk names → AreAbsent (without (Some gone) disk) names
stay_absent disk gone [] h = tt
stay_absent disk gone (name ∷ names) h = (still_absent (pointwise nat_eq name gone) (disk name) h.0, stay_absent disk gone names h.1)

-- A load is stopped at that file, whatever was read before it.
pub record TurnLost (gone : List ℕ) (Gives : Turn → Type 0) : Type 0 where
  pub at : ReadSoFar
  pub gives : Gives (over at (Err (stops.Unread gone)))

module _ (law : OpenWithout) (disk : Disk) (gone : List ℕ) where
  -- at the begin of a unit
  pub begins_without : (values : Table) (file : List ℕ) (reads : ReadSoFar) (draft_at : Place → Draft) (turn : Turn) → Begins disk values file reads draft_at turn
      → Begins (without (Some gone) disk) values file reads draft_at turn ⊎ TurnLost gone (Begins (without (Some gone) disk) values file reads draft_at)
  begins_without values file reads draft_at turn (begun cells later opens is) = elim (law disk gone file reads later (Ok cells) opens) [
    | inl same ↦ inl (begun cells later same is)
    | inr lost ↦ inr (record { at = reads; gives = unopened (lexical.CannotRead file) reads lost.1 (subst (λ (n : List ℕ). without (Some gone) disk n ≡ None) (sym lost.0) (is_absent disk gone), tt) (ap (λ (n : List ℕ). over reads (Err (stops.Unread n))) (sym lost.0)) })
  ]
  begins_without values file reads draft_at turn (unopened fault later opens gone_files is) = elim (law disk gone file reads later (Err fault) opens) [
    | inl same ↦ inl (unopened fault later same (stay_absent disk gone (unread_by fault) gone_files) is)
    | inr lost ↦ inr (record { at = reads; gives = unopened (lexical.CannotRead file) reads lost.1 (subst (λ (n : List ℕ). without (Some gone) disk n ≡ None) (sym lost.0) (is_absent disk gone), tt) (ap (λ (n : List ℕ). over reads (Err (stops.Unread n))) (sym lost.0)) })
  ]

  module _ (options : LoadOptions) where
    goes_without : (draft : Draft) (reads : ReadSoFar) (fault : Option Fault) (next : Option AnchorFile) (turn : Turn) → GoesOn disk options draft reads fault next turn
        → GoesOn (without (Some gone) disk) options draft reads fault next turn ⊎ TurnLost gone (GoesOn (without (Some gone) disk) options draft reads fault next)
    goes_without draft reads (Some fault) next turn h = inl h
    goes_without draft reads None None turn h = inl h
    goes_without draft reads None (Some next) turn h = begins_without (values_of options.defines) next.file reads (next_unit draft next.path) turn h

    module _ (tables : TablesWithout) (facts : HostFacts) where
      -- behind an answer of the lexer
      pub turns_without : (answer : Answer) (next : Stage) (draft : Draft) (reads : ReadSoFar) (turn : Turn) → Turns disk facts options answer next draft reads turn
          → Turns (without (Some gone) disk) facts options answer next draft reads turn ⊎ TurnLost gone (Turns (without (Some gone) disk) facts options answer next draft reads)
      turns_without (Ok (Some statement)) next draft reads turn h = elim (statement_without tables disk gone facts statement draft reads h.later h.result h.comes) [
        | inl same ↦ inl (record { result = h.result; later = h.later; comes = same; gives = h.gives })
        | inr lost ↦ inr (record { at = lost.at; gives = record { result = Err (stops.Unread gone); later = lost.at; comes = lost.comes; gives = refl } })
      ]
      turns_without (Ok None) next draft reads turn h = elim (goes_without draft reads h.fault (next_load draft) turn h.goes) [
        | inl same ↦ inl (record { fault = h.fault; has = h.has; goes = same })
        | inr lost ↦ inr (record { at = lost.at; gives = record { fault = h.fault; has = h.has; goes = lost.gives } })
      ]
      turns_without (Err fault) next draft reads turn h = inl h
