-- A line is executed and its reply is written, or the run stops there.
use Rattle.std.proofs.Common.{◌≡◌, ℕ, Bool, ◌||◌, List, [], ◌∷◌, ◌++◌, length, None, Some, Option, Result, Ok, Err, refl, sym, subst, ap, ◌∙◌, arith, ◌≤◌}
use Rattle.std.specs.Io.KnownBytes.{Appends, Keeps}
use Rattle.pf_source.specs.Asks.{Asks}
use Rattle.pf_source.specs.Causes.{CountsOn}
use Rattle.pf_source.specs.Disk.{Disk, without}
use Rattle.pf_source.specs.Told.{FilesTold, SinkTold, file_of}
use Rattle.pf_source.specs.AskingLaws.{CountsOn-none, nothing_asked}
use Rattle.pf_source.specs.KnownLaws.{Keeps-same}
use Rattle.pf_runs.specs.Runs.{World, Answers, Executes, Stops, Write_failed, Out_of_memory, pieces_of, reply_text}
use Rattle.pf_runs.specs.RunLaws.{executes_answered, executes_nothing, executes_on, stops_here, stops_on, stops_sooner}
use Rattle.pf_engine.specs.Answering.{Adds, AsksFor, IsCause, MayFail}
use Rattle.pf_engine.specs.Step.{step}
use Rattle.pf_state.specs.declared.machine.Machine.{Machine}
use Rattle.pfctl.specs.declared.session.Stop.{Stop}
use Rattle.pfctl.specs.declared.session.Stop.TheVariants as stop
use Rattle.pfctl.specs.Doing.{FailsByCount, Halts, Performs, Runs, Sends, cause_of, count_pieces}

-- Lines one after another, where the files tell what they hold.

pub runs_nothing : (a : World Machine) → Runs [] a a
runs_nothing a = record { at = λ held is. executes_nothing step (file_of held) a }

pub runs_on : (xs ys : List (List ℕ)) (a b c : World Machine) → Runs xs a b → Runs ys b c → Runs (xs ++ ys) a c
runs_on xs ys a b c h k = record {
  at = λ held is. let first = h.at held is in executes_on step (file_of held) xs ys a b c first (k.at held (first.goes.asks.held.held ∙ is));
}

pub halts_on : (why : Stop) (xs ys : List (List ℕ)) (a b c : World Machine) → Runs xs a b → Halts why ys b c → Halts why (xs ++ ys) a c
halts_on why xs ys a b c h k = record {
  at = λ held is. let first = h.at held is in stops_on step (file_of held) (cause_of why) xs ys a b c first (k.at held (first.goes.asks.held.held ∙ is));
}

pub halts_sooner : (why : Stop) (xs ys : List (List ℕ)) (a c : World Machine) → Halts why xs a c → Halts why (xs ++ ys) a c
halts_sooner why xs ys a c h = record { at = λ held is. stops_sooner step (file_of held) (cause_of why) xs ys a c (h.at held is) }

pub performs_on : {X : Type 0} (xs ys : List (List ℕ)) (a b c : World Machine) (result : Result X Stop) → Runs xs a b → Performs ys b c result → Performs (xs ++ ys) a c result
performs_on xs ys a b c (Ok x) h k = runs_on xs ys a b c h k
performs_on xs ys a b c (Err why) h k = halts_on why xs ys a b c h k

-- Want of memory.

pub may_fail_same : (files : FilesTold) → MayFail files files
may_fail_same files = record { more = []; asks = nothing_asked files; few = omega arith }

-- want of memory stops a run at its first line, in one write at most
no_memory : (disk : Disk) (lines : List (List ℕ)) (a c : World Machine) (tries : ℕ) → tries ≤ 1 → CountsOn tries a.sink.calls c.sink.calls → MayFail a.files c.files → Keeps a.sink.written c.sink.written → Stops step disk Out_of_memory lines a c
no_memory disk lines a c tries once writes failing keeps =
    stops_here step disk Out_of_memory lines a c failing.asks.held (record { written = keeps; tries = tries; once = once; writes = writes; more = failing.more; asks = failing.asks; few = failing.few })

-- want of memory before a write
pub no_memory_unsent : (disk : Disk) (lines : List (List ℕ)) (a c : World Machine) → c.sink ≡ a.sink → MayFail a.files c.files → Stops step disk Out_of_memory lines a c
no_memory_unsent disk lines a c same failing =
    no_memory disk lines a c 0 (omega arith) (subst (λ (s : SinkTold). CountsOn 0 a.sink.calls s.calls) (sym same) (CountsOn-none a.sink.calls)) failing
    (subst (λ (s : SinkTold). Keeps a.sink.written s.written) (sym same) (Keeps-same a.sink.written))

pub halts_unsent : (lines : List (List ℕ)) (a c : World Machine) → c.sink ≡ a.sink → MayFail a.files c.files → Halts stop.NoMemory lines a c
halts_unsent lines a c same failing = record { at = λ held is. no_memory_unsent (file_of held) lines a c same failing }

-- nothing was done
pub halts_idle : (lines : List (List ℕ)) (a c : World Machine) → c.sink ≡ a.sink → c.files ≡ a.files → Halts stop.NoMemory lines a c
halts_idle lines a c same files = halts_unsent lines a c same (subst (λ (f : FilesTold). MayFail a.files f) (sym files) (may_fail_same a.files))

-- The reply to one line.

-- a reply is as many pieces as it has lines to tell, one at most
pub one_piece : (reply : List (List ℕ)) → count_pieces (reply_text reply) ≡ pieces_of reply
one_piece [] = refl
one_piece ([] ∷ lines) = refl
one_piece ((byte ∷ line) ∷ lines) = refl

-- one read at most failed
few_causes : (unread : List (List ℕ)) (before after : Machine) (bytes : List ℕ) (refused : Bool) → IsCause unread before after bytes refused → length unread ≤ 1
few_causes [] before after bytes refused h = omega arith
few_causes (name ∷ []) before after bytes refused h = omega arith
few_causes (name ∷ other ∷ names) before after bytes refused h = absurd h

pub asked_may_fail : (old new : List ℕ) (before after : Machine) (files files' : FilesTold) (refused : Bool) → Adds old new (λ bytes. AsksFor before after files files' bytes refused) → MayFail files files'
asked_may_fail old new before after files files' refused h =
    record { more = h.is.unread; asks = h.is.asks; few = few_causes h.is.unread before after h.bytes refused h.is.cause }

-- a line whose reply was written whole was executed
pub executes_sent : (disk : Disk) (line : List ℕ) (a c : World Machine) (reply : List ℕ) (refused : Bool) → Answers step disk line a.machine a.files c.machine c.files reply refused → c.refused ≡ (a.refused || refused) → CountsOn (count_pieces reply) a.sink.calls c.sink.calls → Appends a.sink.written c.sink.written reply → Executes step disk (line ∷ []) a c
executes_sent disk line a c reply refused answers any writes written =
    let pieces : count_pieces reply ≡ pieces_of answers.does.reply = ap count_pieces answers.replies ∙ one_piece answers.does.reply in
    executes_answered step disk line a c reply refused answers any written (subst (λ (n : ℕ). CountsOn n a.sink.calls c.sink.calls) pieces writes)

-- the bytes that were added to an empty buffer
pub answered : (disk : Disk) (line : List ℕ) (before after : Machine) (files files' : FilesTold) (reply : List ℕ) (refused : Bool) → Adds [] reply (λ bytes. Answers step disk line before files after files' bytes refused) → Answers step disk line before files after files' reply refused
answered disk line before after files files' reply refused h = subst (λ (bytes : List ℕ). Answers step disk line before files after files' bytes refused) (sym h.added) h.is

-- what was sent is the reply
pub sent_reply : (sent reply : List ℕ) (old new : SinkTold) (why : Stop) → sent ≡ reply → Sends {X = Unit {0}} old new sent (Err why) → Sends {X = Unit {0}} old new reply (Err why)
sent_reply sent reply old new why same sends = subst (λ (bytes : List ℕ). Sends {X = Unit {0}} old new bytes (Err why)) same sends

not_sent_whole : (disk : Disk) (line : List ℕ) (a c : World Machine) (machine : Machine) (reply : List ℕ) (refused : Bool) (why : Stop) → Answers step disk line a.machine a.files machine c.files reply refused → MayFail a.files c.files → CountsOn 1 a.sink.calls c.sink.calls → Sends {X = Unit {0}} a.sink c.sink reply (Err why) → Stops step disk (cause_of why) (line ∷ []) a c
not_sent_whole disk line a c machine reply refused stop.WriteFault answers failing writes sends =
    stops_here step disk Write_failed (line ∷ []) a c answers.asks.held (record { machine = machine; reply = reply; refused = refused; answers = answers; taken = sends.taken; written = sends.written; writes = writes })
not_sent_whole disk line a c machine reply refused stop.NoMemory answers failing writes sends =
    no_memory disk (line ∷ []) a c 1 (omega arith) writes failing sends

-- a reply that isn't written whole stops the run at its line
pub not_sent : (disk : Disk) (line : List ℕ) (a c : World Machine) (machine : Machine) (reply sent : List ℕ) (refused : Bool) (why : Stop) → Answers step disk line a.machine a.files machine c.files reply refused → MayFail a.files c.files → sent ≡ reply → CountsOn 1 a.sink.calls c.sink.calls → Sends {X = Unit {0}} a.sink c.sink sent (Err why) → Stops step disk (cause_of why) (line ∷ []) a c
not_sent disk line a c machine reply sent refused why answers failing same writes sends =
    not_sent_whole disk line a c machine reply refused why answers failing writes (sent_reply sent reply a.sink c.sink why same sends)

-- a stop behind earlier writes
pub fails_later : {X : Type 0} (a b c : SinkTold) (result : Result X Stop) → a.faults ≤ b.faults → FailsByCount b c result → FailsByCount a c result
fails_later a b c (Ok x) later h = omega arith
fails_later a b c (Err stop.WriteFault) later h = let from = h.later in let by = h.by in record { later = omega arith; by = omega arith }
fails_later a b c (Err stop.NoMemory) later h = omega arith
