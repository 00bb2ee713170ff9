-- What a `load`, `check` or `open` line does with what was read: it is refused, or done.
use Rattle.std.proofs.Common.{◌≡◌, ℕ, List, Option, Some, None, Result, Ok, Err, refl, sym, ap, ◌∙◌, subst}
use Rattle.pf_optim.specs.declared.node.Node.{Node}
use Rattle.pf_reply.specs.declared.refusal.Refusal.{Refusal}
use Rattle.pf_reply.specs.declared.reply.Filled.{Filled}
use Rattle.pf_reply.specs.declared.reply.Reply.TheVariants.{Loaded, Checked, Opened}
use Rattle.pf_runs.specs.Runs.{Stepped}
use Rattle.pf_shelf.specs.Shelf.{Tables}
use Rattle.pf_state.specs.Commits.{loaded}
use Rattle.pf_state.specs.Judging.{LoadJudged}
use Rattle.pf_state.specs.Sessions.{open_refusal, opened}
use Rattle.pf_state.specs.Verdicts.{refusal_in}
use Rattle.pf_state.specs.declared.commit.Verdict.{Verdict}
use Rattle.pf_state.specs.declared.commit.Verdict.TheVariants.{Fits, Refused as Unfit}
use Rattle.pf_state.specs.declared.machine.Machine.{Machine}
use Rattle.pf_state.specs.declared.ready.Ready.{Ready}
use Rattle.pf_engine.specs.FilesRead.{read_as}
use Rattle.pf_engine.specs.Kept.{IsKept}
use Rattle.pf_engine.specs.LoadLines.{Checking, Loading, Opening, filled_of}
use Rattle.pf_engine.specs.Steps.{done, done_unless, refused}
use Rattle.pf_engine.specs.declared.loads.Read.{Read}
use Rattle.pf_engine.specs.declared.loads.Read.TheVariants.{Is, Refused}
use Rattle.pf_engine.proofs.Judged.{loaded_kept, opened_kept}

-- what was read is a refusal
module _ (machine : Machine) (read : Read Ready) (refusal : Refusal) (is : read ≡ Refused refusal) where
  pub load_unread : Loading machine (read_as read) (refused machine refusal)
  load_unread = subst (λ (r : Read Ready). Loading machine (read_as r) (refused machine refusal)) (sym is) refl

  pub check_unread : Checking machine (read_as read) (refused machine refusal)
  check_unread = subst (λ (r : Read Ready). Checking machine (read_as r) (refused machine refusal)) (sym is) refl

  pub open_unread : (name : List ℕ) → Opening machine name (read_as read) (refused machine refusal)
  open_unread name = subst (λ (r : Read Ready). Opening machine name (read_as r) (refused machine refusal)) (sym is) refl

-- it is a plan, which was judged
module _ (machine inside : Machine) (read : Read Ready) (ready : Ready) (same : inside ≡ machine) (is : read ≡ Is ready) where
  judged_as : (verdict other : Verdict) → verdict ≡ other → LoadJudged inside ready (refusal_in verdict) → LoadJudged machine ready (refusal_in other)
  judged_as verdict other e judged =
      subst (λ (v : Verdict). LoadJudged machine ready (refusal_in v)) e (subst (λ (m : Machine). LoadJudged m ready (refusal_in verdict)) same judged)

  module _ (verdict : Verdict) (judged : LoadJudged inside ready (refusal_in verdict)) where
    pub load_unfit : (refusal : Refusal) → verdict ≡ Unfit refusal → Loading machine (read_as read) (refused machine refusal)
    load_unfit refusal e = subst (λ (r : Read Ready). Loading machine (read_as r) (refused machine refusal)) (sym is)
        (record { refusal = Some refusal; judged = judged_as verdict (Unfit refusal) e judged; is = refl })

    pub check_unfit : (refusal : Refusal) → verdict ≡ Unfit refusal → Checking machine (read_as read) (refused machine refusal)
    check_unfit refusal e = subst (λ (r : Read Ready). Checking machine (read_as r) (refused machine refusal)) (sym is)
        (record { refusal = Some refusal; judged = judged_as verdict (Unfit refusal) e judged; is = refl })

    pub load_done : (shelves : List Tables) (after : Machine) → verdict ≡ Fits shelves → after ≡ loaded ready inside → Loading machine (read_as read) (done after (Loaded (filled_of ready)))
    load_done shelves after e a = subst (λ (r : Read Ready). Loading machine (read_as r) (done after (Loaded (filled_of ready)))) (sym is)
        (record {
          refusal = None;
          judged = judged_as verdict (Fits shelves) e judged;
          is = ap (λ (m : Machine). done m (Loaded (filled_of ready))) (a ∙ ap (loaded ready) same);
        })

    pub check_done : (shelves : List Tables) → verdict ≡ Fits shelves → Checking machine (read_as read) (done machine (Checked (filled_of ready)))
    check_done shelves e = subst (λ (r : Read Ready). Checking machine (read_as r) (done machine (Checked (filled_of ready)))) (sym is)
        (record { refusal = None; judged = judged_as verdict (Fits shelves) e judged; is = refl })

    pub load_keeps : (shelves : List Tables) (after : Machine) → verdict ≡ Fits shelves → after ≡ loaded ready inside → IsKept machine → IsKept after
    load_keeps shelves after e a kept =
        subst IsKept (sym (a ∙ ap (loaded ready) same)) (loaded_kept machine ready kept (judged_as verdict (Fits shelves) e judged))

  module _ (name : List ℕ) (refusal : Option Refusal) (judged : refusal ≡ open_refusal inside ready) where
    judged_open : (other : Option Refusal) → refusal ≡ other → other ≡ open_refusal machine ready
    judged_open other e = sym e ∙ judged ∙ ap (λ (m : Machine). open_refusal m ready) same

    pub open_unfit : (why : Refusal) → refusal ≡ Some why → Opening machine name (read_as read) (refused machine why)
    open_unfit why e = subst (λ (r : Read Ready). Opening machine name (read_as r) (refused machine why)) (sym is)
        (ap (λ (o : Option Refusal). done_unless o machine (opened name ready machine) (Opened name machine.next)) (judged_open (Some why) e))

    pub open_done : (after : Machine) (ticket : ℕ) → refusal ≡ None → after ≡ opened name ready inside → ticket ≡ inside.next → Opening machine name (read_as read) (done after (Opened name ticket))
    open_done after ticket e a t = subst (λ (r : Read Ready). Opening machine name (read_as r) (done after (Opened name ticket))) (sym is)
        ((λ i. done ((a ∙ ap (opened name ready) same) i) (Opened name ((t ∙ ap (λ (m : Machine). m.next) same) i)))
        ∙ ap (λ (o : Option Refusal). done_unless o machine (opened name ready machine) (Opened name machine.next)) (judged_open None e))

  pub open_keeps : (name : List ℕ) (after : Machine) → after ≡ opened name ready inside → IsKept machine → IsKept after
  open_keeps name after a kept = subst IsKept (sym (a ∙ ap (opened name ready) same)) (opened_kept machine name ready kept)
