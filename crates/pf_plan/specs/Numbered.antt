-- In which files of a load the places of a draft stand.
use Rattle.std.specs.Prelude.{ℕ, ◌<◌, All}
use Rattle.pf_decl.specs.declared.check.UsedQueue.{UsedQueue}
use Rattle.pf_decl.specs.declared.form.Queue.{Queue}
use Rattle.pf_plan.specs.declared.draft.Draft.{Draft}
use Rattle.pf_plan.specs.declared.draft.Filling.{Filling}
use Rattle.pf_plan.specs.declared.draft.Ruleset.{Ruleset}

-- the places of a ruleset that is filled, and of those in it
pub record FillingWithin (count : ℕ) (filling : Filling) : Type 0 where
  pub own : filling.own.place.file < count
  pub inside : All (λ (filled : Ruleset). filled.place.file < count) filling.inside

-- the places of a draft are in files whose numbers are below this
pub record PlacesWithin (count : ℕ) (draft : Draft) : Type 0 where
  pub here : FillingWithin count draft.here
  pub outer : All (FillingWithin count) draft.outer
  pub queues : All (λ (queue : Queue). queue.place.file < count) draft.queues
  pub used : All (λ (one : UsedQueue). one.place.file < count) draft.used
