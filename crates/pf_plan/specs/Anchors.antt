-- What anchors do to a draft (pf.conf(5), ANCHORS): a body opens the ruleset that it fills and closes it again, `load anchor` leaves
-- a file for later, and where a unit ended the next file begins.
use Rattle.std.specs.Prelude.{ℕ, ◌+◌, Bool, true, false, List, [], ◌∷◌, ◌++◌, map, Option, codes, slice_get}
use Rattle.std.specs.FinMap as finite
use Rattle.std.specs.Fmt.{decimal}
use Rattle.pf_base.specs.declared.fault.Place.{Place}
use Rattle.pf_plan.specs.Drafts.{begun_filling, first_policies}
use Rattle.pf_plan.specs.Ends.{part_of, rulesets_of}
use Rattle.pf_plan.specs.Filled.{Paths, path_cmp}
use Rattle.pf_plan.specs.declared.draft.AnchorFile.{AnchorFile}
use Rattle.pf_plan.specs.declared.draft.Draft.{Draft}
use Rattle.pf_plan.specs.declared.draft.Filling.{Filling}

-- the name of the nth anchor without a name of a ruleset, from 1: `_1`, `_2` and so on
abbrev pub nameless_name : ℕ → List ℕ
nameless_name n = codes "_" ++ decimal n

-- whether a body or a file of the load fills this ruleset already
abbrev pub is_filled : Draft → List (List ℕ) → Bool
is_filled draft path = finite.contains_key draft.filled path

abbrev pub filled_with : Paths → List (List ℕ) → Paths
filled_with filled path = finite.insert filled path tt

-- one anchor without a name more, where it is one
abbrev pub counted : Filling → Bool → Filling
counted filling true = record filling { nameless = filling.nameless + 1 }
counted filling false = filling

-- a body is open, of an anchor statement at this place, with a name or without one: what follows goes to the ruleset at this path
abbrev pub opened : Draft → List (List ℕ) → Place → Bool → Draft
opened draft path place nameless = record draft {
  here = begun_filling path place;
  outer = counted draft.here nameless ∷ draft.outer;
  filled = filled_with draft.filled path;
}

-- a ruleset in which a body ended: its rulesets stand behind those that were begun before
abbrev pub with_inside : Filling → Filling → Filling
with_inside filling body = record filling { inside = filling.inside ++ rulesets_of body }

-- the innermost body is closed, of those that are open
abbrev pub closed_in : Draft → List Filling → Draft
closed_in draft [] = draft
closed_in draft (filling ∷ outer) = record draft { here = with_inside filling draft.here; outer = outer }

abbrev pub closed : Draft → Draft
closed draft = closed_in draft draft.outer

-- one file more that fills the ruleset at this path, once the units before it were read
abbrev pub with_load : Draft → List (List ℕ) → List ℕ → Draft
with_load draft path file = record draft {
  loads = draft.loads ++ record { path = path; file = file } ∷ [];
  filled = filled_with draft.filled path;
}

-- the file that comes next, where there is one
abbrev pub next_load : Draft → Option AnchorFile
next_load draft = slice_get draft.loads draft.begun

-- the unit ended, and the next one begins, at this place: it has the policies of a unit's start, and no queue is named in it yet
abbrev pub next_unit : Draft → List (List ℕ) → Place → Draft
next_unit draft path place = record draft {
  parts = draft.parts ++ map part_of (rulesets_of draft.here);
  begun = draft.begun + 1;
  used = [];
  policies = first_policies;
  here = begun_filling path place;
  outer = [];
}
