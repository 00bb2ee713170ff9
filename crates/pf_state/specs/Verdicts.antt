-- What comes of judging a plan.
use Rattle.std.specs.Prelude.{◌≡◌, List, Option, Some, None}
use Rattle.pf_reply.specs.declared.refusal.Refusal.{Refusal}
use Rattle.pf_shelf.specs.Shelf.{Tables}
use Rattle.pf_state.specs.declared.commit.Verdict.{Verdict}
use Rattle.pf_state.specs.declared.commit.Verdict.TheVariants.{Fits, Refused}

abbrev pub refusal_in : Verdict → Option Refusal
refusal_in (Fits shelves) = None
refusal_in (Refused refusal) = Some refusal

-- where the plan fits, these are the tables of its rulesets
abbrev pub HasShelves : List Tables → Verdict → Type 0
HasShelves shelves (Fits made) = made ≡ shelves
HasShelves shelves (Refused refusal) = Unit {0}
