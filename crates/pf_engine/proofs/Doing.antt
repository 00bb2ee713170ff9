-- What was told is what a command does.
use Rattle.std.proofs.Common.{◌≡◌, ℕ, Bool, true, false, List, [], ◌∷◌, ◌++◌, Result, Ok, Err, refl, sym, ap, ◌∙◌}
use Rattle.std.specs.Prelude.{IfOk, OnOk}
use Rattle.pf_base.specs.declared.memory.NoMemory.{NoMemory}
use Rattle.pf_reply.specs.Refusals.{refusal_text}
use Rattle.pf_reply.specs.declared.refusal.Refusal.{Refusal}
use Rattle.pf_runs.specs.Runs.{Stepped, reply_text}
use Rattle.pf_state.specs.declared.machine.Machine.{Machine}
use Rattle.pf_engine.specs.Answering.{Adds, DoesSo, is_refused}
use Rattle.pf_engine.specs.Steps.{refused}
use Rattle.pf_engine.specs.declared.outcome.Outcome.{Outcome}
use Rattle.pf_engine.specs.declared.outcome.Outcome.TheVariants.{Done, Refused}

-- it was told whole
pub told_so : (Doing : Stepped Machine → Type 0) (does : Stepped Machine) (machine : Machine) (outcome : Outcome) (old new line : List ℕ)
    → Doing does → machine ≡ does.machine → is_refused outcome ≡ does.refused → line ≡ reply_text does.reply → new ≡ old ++ line
    → Adds old new (λ bytes. DoesSo Doing machine bytes (is_refused outcome))
told_so Doing does machine outcome old new line so m r l a = record {
  bytes = line;
  added = a;
  is = record { does = does; so = so; is = record { machine_is = m; reply_is = l; refused_is = r } };
}

-- a refusal was told
pub refused_so : (Doing : Stepped Machine → Type 0) (machine : Machine) (refusal : Refusal) (result : Result Outcome NoMemory) (old new : List ℕ)
    → Doing (refused machine refusal) → IfOk result (λ outcome. outcome ≡ Refused) → OnOk result (new ≡ old ++ reply_text (refusal_text refusal ∷ []))
    → IfOk result (λ outcome. Adds old new (λ bytes. DoesSo Doing machine bytes (is_refused outcome)))
refused_so Doing machine refusal (Ok outcome) old new so r a =
    told_so Doing (refused machine refusal) machine outcome old new (reply_text (refusal_text refusal ∷ [])) so refl (ap is_refused r) refl a
refused_so Doing machine refusal (Err e) old new so r a = tt

-- what is done for one reason is done for another
pub so_too : (One Other : Stepped Machine → Type 0) (machine : Machine) (result : Result Outcome NoMemory) (old new : List ℕ)
    → ((does : Stepped Machine) → One does → Other does)
    → IfOk result (λ outcome. Adds old new (λ bytes. DoesSo One machine bytes (is_refused outcome)))
    → IfOk result (λ outcome. Adds old new (λ bytes. DoesSo Other machine bytes (is_refused outcome)))
so_too One Other machine (Ok outcome) old new turn h = record {
  bytes = h.bytes;
  added = h.added;
  is = record { does = h.is.does; so = turn h.is.does h.is.so; is = h.is.is };
}
so_too One Other machine (Err e) old new turn h = tt
