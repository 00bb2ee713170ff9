-- What a `hosts` line does, by what was read.
use Rattle.std.proofs.Common.{◌≡◌, ℕ, true, false, List, [], ◌∷◌, ◌++◌, length, Result, Ok, Err, refl, sym, ap, subst, ◌∙◌}
use Rattle.std.specs.Prelude.{IfOk, OnErr, OnOk}
use Rattle.std.proofs.lemmas.Bool.{false≢true}
use Rattle.pf_base.specs.declared.memory.NoMemory.{NoMemory}
use Rattle.pf_host.specs.Facts.{HostFacts}
use Rattle.pf_reply.specs.declared.refusal.Refusal.{Refusal}
use Rattle.pf_reply.specs.declared.reply.Reply.TheVariants.{Hosts}
use Rattle.pf_reply.specs.Refusals.{refusal_text}
use Rattle.pf_reply.specs.Replies as replies
use Rattle.pf_runs.specs.Runs.{Answers, Stepped, reply_text}
use Rattle.pf_source.specs.Asks.{Asks}
use Rattle.pf_source.specs.Disk.{Disk, without}
use Rattle.pf_source.specs.Told.{FilesTold, Told, file_of}
use Rattle.pf_state.specs.declared.machine.Machine.{Machine}
use Rattle.pf_engine.specs.Answering.{Adds, AsksFor, DoesSo, MayFail, is_refused}
use Rattle.pf_engine.specs.FilesRead.{outage_in, read_as, unread_as}
use Rattle.pf_engine.specs.HostLines.{FactsIn, FactsMayCome, HostsDoes, TakesFacts, with_facts}
use Rattle.pf_engine.specs.declared.loads.Read.{Read}
use Rattle.pf_engine.specs.declared.loads.Read.TheVariants.{Is, Refused as NotRead}
use Rattle.pf_engine.specs.declared.outcome.Outcome.{Outcome}
use Rattle.pf_engine.specs.declared.outcome.Outcome.TheVariants.{Refused}
use Rattle.pf_engine.proofs.Asking.{AsksWell, answered, asks_for, done_asks, few_unread, refused_asks}
use Rattle.pf_engine.proofs.Doing.{refused_so}

abbrev Doing : Machine → Result HostFacts Refusal → Stepped Machine → Type 0
Doing machine answer does = does ≡ with_facts machine answer

unread_so : (machine : Machine) (answer : Result HostFacts Refusal) (does : Stepped Machine) → Doing machine answer does → does.unread ≡ unread_as answer
unread_so machine (Ok facts) does e = ap (λ (s : Stepped Machine). s.unread) e
unread_so machine (Err refusal) does e = ap (λ (s : Stepped Machine). s.unread) e

well : (machine : Machine) (answer : Result HostFacts Refusal) → AsksWell machine (with_facts machine answer)
well machine (Ok facts) = done_asks machine (record machine { facts = facts }) (Hosts (length facts.interfaces))
well machine (Err refusal) = refused_asks machine refusal

refused_same : (machine : Machine) (answer : Result HostFacts Refusal) → true ≡ (with_facts machine answer).refused → (with_facts machine answer).machine ≡ machine
refused_same machine (Ok facts) e = absurd (false≢true (sym e))
refused_same machine (Err refusal) e = refl

module _ (before after : Machine) (file : List ℕ) (answer : Result HostFacts Refusal) (files files' : FilesTold) (old new : List ℕ) where
  abbrev Done : Outcome → Type 0
  Done outcome = Adds old new (λ bytes. DoesSo (Doing before answer) after bytes (is_refused outcome))

  pub hosts_answers : (result : Result Outcome NoMemory) → Told files.held (λ held. FactsIn file (without (outage_in answer) (file_of held) file) answer) → Asks (unread_as answer) files files' → IfOk result Done
      → IfOk result (λ outcome. Told files.held (λ held. Adds old new (λ bytes. Answers HostsDoes (file_of held) file before files after files' bytes (is_refused outcome))))
  hosts_answers (Ok outcome) reads asks done = record {
    at = λ held e. record {
      bytes = done.bytes;
      added = done.added;
      is = answered (λ (disk : Disk) (read : Result HostFacts Refusal). FactsIn file (disk file) read) (Doing before) HostsDoes file before after files files' done.bytes (is_refused outcome)
          (λ disk read does comes so. record { answer = read; reads = comes; is = so }) (unread_so before) held answer e (reads.at held e) asks done.is;
    };
  }
  hosts_answers (Err e) reads asks done = tt

  pub hosts_asks : (result : Result Outcome NoMemory) → Asks (unread_as answer) files files' → IfOk result Done
      → IfOk result (λ outcome. Adds old new (λ bytes. AsksFor before after files files' bytes (is_refused outcome)))
  hosts_asks (Ok outcome) asks done = record {
    bytes = done.bytes;
    added = done.added;
    is = asks_for before after done.is.does done.bytes (is_refused outcome) files files'
        (subst (λ (does : Stepped Machine). AsksWell before does) (sym done.is.so) (well before answer)) done.is.is
        (subst (λ (names : List (List ℕ)). Asks names files files') (sym (unread_so before answer done.is.does done.is.so)) asks);
  }
  hosts_asks (Err e) asks done = tt

  pub hosts_whatever : (result : Result Outcome NoMemory) → FactsMayCome file answer → IfOk result Done
      → IfOk result (λ outcome. Adds old new (λ bytes. DoesSo (TakesFacts before file) after bytes (is_refused outcome)))
  hosts_whatever (Ok outcome) comes done = record {
    bytes = done.bytes;
    added = done.added;
    is = record { does = done.is.does; so = record { answer = answer; comes = comes; is = done.is.so }; is = done.is.is };
  }
  hosts_whatever (Err e) comes done = tt

  pub hosts_refused : (result : Result Outcome NoMemory) → IfOk result Done → result ≡ Ok Refused → after ≡ before
  hosts_refused (Ok outcome) done e =
      let is : outcome ≡ Refused = cc in
      done.is.is.machine_is ∙ ap (λ (s : Stepped Machine). s.machine) done.is.so
      ∙ refused_same before answer (sym (ap is_refused is) ∙ done.is.is.refused_is ∙ ap (λ (s : Stepped Machine). s.refused) done.is.so)
  hosts_refused (Err f) done e = absurd cc

pub hosts_fails : (answer : Result HostFacts Refusal) (files files' : FilesTold) (result : Result Outcome NoMemory) → Asks (unread_as answer) files files' → OnErr result (MayFail files files')
hosts_fails answer files files' (Ok outcome) asks = tt
hosts_fails answer files files' (Err e) asks = record { more = unread_as answer; asks = asks; few = few_unread answer }

-- facts were taken, and told
pub so_taken : (machine after : Machine) (read : Read HostFacts) (facts : HostFacts) (count : ℕ) (old new line : List ℕ)
    → read ≡ Is facts → count ≡ length facts.interfaces → after ≡ record machine { facts = facts } → line ≡ reply_text (replies.reply_text (Hosts count) ∷ []) → new ≡ old ++ line
    → Adds old new (λ bytes. DoesSo (λ does. does ≡ with_facts machine (read_as read)) after bytes false)
so_taken machine after read facts count old new line is n m l a = record {
  bytes = line;
  added = a;
  is = record {
    does = with_facts machine (Ok facts);
    so = sym (ap (λ (r : Read HostFacts). with_facts machine (read_as r)) is);
    is = record { machine_is = m; reply_is = l ∙ ap (λ (k : ℕ). reply_text (replies.reply_text (Hosts k) ∷ [])) n; refused_is = refl };
  };
}

-- there were none, and that was told
pub so_refused : (machine : Machine) (read : Read HostFacts) (refusal : Refusal) (result : Result Outcome NoMemory) (old new : List ℕ)
    → read ≡ NotRead refusal → IfOk result (λ outcome. outcome ≡ Refused) → OnOk result (new ≡ old ++ reply_text (refusal_text refusal ∷ []))
    → IfOk result (λ outcome. Adds old new (λ bytes. DoesSo (λ does. does ≡ with_facts machine (read_as read)) machine bytes (is_refused outcome)))
so_refused machine read refusal result old new is r a =
    refused_so (λ (does : Stepped Machine). does ≡ with_facts machine (read_as read)) machine refusal result old new
    (sym (ap (λ (rd : Read HostFacts). with_facts machine (read_as rd)) is)) r a
