-- Runs without outages: over a list of lines there is one at most.
use Rattle.std.proofs.Common.{◌≡◌, ℕ, List, [], ◌∷◌, Option, None, refl, sym, ap, subst, ◌∙◌}
use Rattle.pf_source.specs.Disk.{Disk, without}
use Rattle.pf_runs.specs.Runs.{DoesOneThing, Event, Follow, HaveNoOutage, Script, Step, Stepped, lines_in}

-- the step of an event without an outage
plain_step : {M : Type 0} (step : Step M) (disk : Disk) (machine : M) (event : Event M) → event.outage ≡ None → step (without event.outage disk) machine event.line event.does → step disk machine event.line event.does
plain_step step disk machine event none h = subst (λ (outage : Option (List ℕ)). step (without outage disk) machine event.line event.does) none h

same_event : {M : Type 0} (x y : Event M) → x.line ≡ y.line → x.outage ≡ y.outage → x.does ≡ y.does → x ≡ y
same_event x y line outage does = λ i. record { line = line i; outage = outage i; does = does i }

pub one_script : {M : Type 0} (step : Step M) (disk : Disk) → DoesOneThing step disk → (machine : M) (xs ys : List (Event M)) → lines_in xs ≡ lines_in ys → HaveNoOutage xs → HaveNoOutage ys → Follow step disk machine xs → Follow step disk machine ys → xs ≡ ys
one_script step disk one machine [] [] e h k f g = refl
one_script step disk one machine [] (y ∷ ys) e h k f g = cc
one_script step disk one machine (x ∷ xs) [] e h k f g = cc
one_script {M = M} step disk one machine (x ∷ xs) (y ∷ ys) e h k f g =
    let line : x.line ≡ y.line = cc in
    let lines : lines_in xs ≡ lines_in ys = cc in
    let first : step disk machine x.line x.does = plain_step step disk machine x h.0 f.0 in
    let second : step disk machine x.line y.does = subst (λ (l : List ℕ). step disk machine l y.does) (sym line) (plain_step step disk machine y k.0 g.0) in
    let does : x.does ≡ y.does = one machine x.line x.does y.does first second in
    let rest : Follow step disk x.does.machine ys = subst (λ (s : Stepped M). Follow step disk s.machine ys) (sym does) g.2 in
    let same : x ≡ y = same_event x y line (h.0 ∙ sym k.0) does in
    let others : xs ≡ ys = one_script step disk one x.does.machine xs ys lines h.1 k.1 f.2 rest in
    λ i. same i ∷ others i
