-- A run goes on.
use Rattle.std.proofs.Common.{◌≡◌, ℕ, Bool, true, false, ◌||◌, List, [], ◌∷◌, ◌++◌, length, refl, sym, ap, ◌∙◌, subst, append_assoc, append-nil, add-zero, length-append}
use Rattle.std.specs.Io.KnownBytes.{Appends}
use Rattle.pf_source.specs.Asks.{Asks, StaysHeld}
use Rattle.pf_source.specs.Causes.{CountsOn}
use Rattle.pf_source.specs.Disk.{AreAbsent, Disk}
use Rattle.pf_source.specs.Told.{FilesTold, file_of}
use Rattle.pf_source.specs.AskingLaws.{AddsNames-more, CountsOn-more, CountsOn-none, RoseBy-more, nothing_asked}
use Rattle.pf_source.specs.KnownLaws.{Appends-more, Appends-nothing}
use Rattle.pf_runs.specs.Runs.{Step, Event, Follow, World, Goes, Executes, Stops, StopsAt, Answers, Cause, Write_failed, Out_of_memory, lines_in, reply_text, pieces_of, machine_after, output, count_writes, any_refused, unread}
use Rattle.pf_runs.specs.AppendedLaws.{machine_after-append, Follow-append, output-append, count_writes-append, unread-append, any_refused-append, lines_in-append, HaveNoOutage-append, or_assoc}

pub AreAbsent-append : (disk : Disk) (xs ys : List (List ℕ)) → AreAbsent disk xs → AreAbsent disk ys → AreAbsent disk (xs ++ ys)
AreAbsent-append disk [] ys h k = k
AreAbsent-append disk (x ∷ xs) ys h k = (h.0, AreAbsent-append disk xs ys h.1 k)

-- one call asked, and then another
pub asked_more : (xs ys : List (List ℕ)) (a b c : FilesTold) → Asks xs a b → Asks ys b c → Asks (xs ++ ys) a c
asked_more xs ys a b c h k = record {
  held = record { held = k.held.held ∙ h.held.held; steady = k.held.steady ∙ h.held.steady };
  counted = rw (length-append xs ys) (RoseBy-more (length xs) (length ys) a.faults b.faults c.faults h.counted k.counted);
  named = AddsNames-more xs ys a.failed b.failed c.failed h.named k.named;
  steady = λ steady. record { at = λ held is. AreAbsent-append (file_of held) xs ys ((h.steady steady).at held is) ((k.steady (h.held.steady ∙ steady)).at held (h.held.held ∙ is)) };
}

or_false : (b : Bool) → (b || false) ≡ b
or_false true = refl
or_false false = refl

pub goes_nowhere : {M : Type 0} (step : Step M) (disk : Disk) (world : World M) → Goes step disk world [] world
goes_nowhere step disk world = record {
  follow = tt;
  machine = refl;
  refused = sym (or_false world.refused);
  written = Appends-nothing world.sink.written;
  writes = CountsOn-none world.sink.calls;
  asks = nothing_asked world.files;
  sure = λ h. tt;
}

pub goes_on : {M : Type 0} (step : Step M) (disk : Disk) (a b c : World M) (xs ys : List (Event M)) → Goes step disk a xs b → Goes step disk b ys c → Goes step disk a (xs ++ ys) c
goes_on step disk a b c xs ys h k = record {
  follow = Follow-append step disk a.machine xs ys h.follow (subst (λ machine. Follow step disk machine ys) h.machine k.follow);
  machine = k.machine ∙ (ap (λ machine. machine_after machine ys) h.machine ∙ sym (machine_after-append a.machine xs ys));
  refused = rw (any_refused-append xs ys, or_assoc a.refused (any_refused xs) (any_refused ys), ← h.refused) k.refused;
  written = rw (output-append xs ys) (Appends-more a.sink.written b.sink.written c.sink.written (output xs) (output ys) h.written k.written);
  writes = rw (count_writes-append xs ys) (CountsOn-more (count_writes xs) (count_writes ys) a.sink.calls b.sink.calls c.sink.calls h.writes k.writes);
  asks = rw (unread-append xs ys) (asked_more (unread xs) (unread ys) a.files b.files c.files h.asks k.asks);
  sure = λ steady. HaveNoOutage-append xs ys (h.sure steady) (k.sure (h.asks.held.steady ∙ steady));
}

pub executes_nothing : {M : Type 0} (step : Step M) (disk : Disk) (world : World M) → Executes step disk [] world world
executes_nothing step disk world = record { events = []; are = refl; goes = goes_nowhere step disk world }

pub executes_on : {M : Type 0} (step : Step M) (disk : Disk) (xs ys : List (List ℕ)) (a b c : World M) → Executes step disk xs a b → Executes step disk ys b c → Executes step disk (xs ++ ys) a c
executes_on step disk xs ys a b c h k = record {
  events = h.events ++ k.events;
  are = lines_in-append h.events k.events ∙ (ap (λ ls. ls ++ lines_in k.events) h.are ∙ ap (λ ls. xs ++ ls) k.are);
  goes = goes_on step disk a b c h.events k.events h.goes k.goes;
}

pub stops_on : {M : Type 0} (step : Step M) (disk : Disk) (cause : Cause) (xs ys : List (List ℕ)) (a b c : World M) → Executes step disk xs a b → Stops step disk cause ys b c → Stops step disk cause (xs ++ ys) a c
stops_on step disk cause xs ys a b c h k = record {
  front = xs ++ k.front;
  rest = k.rest;
  are = ap (λ ls. xs ++ ls) k.are ∙ sym (append_assoc xs k.front k.rest);
  mid = k.mid;
  executes = executes_on step disk xs k.front a b k.mid h k.executes;
  stops = k.stops;
  held = record { held = k.held.held ∙ h.goes.asks.held.held; steady = k.held.steady ∙ h.goes.asks.held.steady };
}

stops_at_more : {M : Type 0} (step : Step M) (disk : Disk) (cause : Cause) (rest more : List (List ℕ)) (b c : World M) → StopsAt step disk cause rest b c → StopsAt step disk cause (rest ++ more) b c
stops_at_more step disk Write_failed [] more b c h = absurd h
stops_at_more step disk Write_failed (line ∷ rest) more b c h = h
stops_at_more step disk Out_of_memory rest more b c h = h

-- a run that stops leaves whatever follows undone
pub stops_sooner : {M : Type 0} (step : Step M) (disk : Disk) (cause : Cause) (xs ys : List (List ℕ)) (a c : World M) → Stops step disk cause xs a c → Stops step disk cause (xs ++ ys) a c
stops_sooner step disk cause xs ys a c h = record {
  front = h.front;
  rest = h.rest ++ ys;
  are = ap (λ ls. ls ++ ys) h.are ∙ append_assoc h.front h.rest ys;
  mid = h.mid;
  executes = h.executes;
  stops = stops_at_more step disk cause h.rest ys h.mid c h.stops;
  held = h.held;
}

-- a line whose reply was written whole was executed
pub executes_answered : {M : Type 0} (step : Step M) (disk : Disk) (line : List ℕ) (before after : World M) (reply : List ℕ) (refused : Bool) → (h : Answers step disk line before.machine before.files after.machine after.files reply refused) → after.refused ≡ (before.refused || refused) → Appends before.sink.written after.sink.written reply → CountsOn (pieces_of h.does.reply) before.sink.calls after.sink.calls → Executes step disk (line ∷ []) before after
executes_answered step disk line before after reply refused h r w calls = record {
  events = record { line = line; outage = h.outage; does = h.does } ∷ [];
  are = refl;
  goes = record {
    follow = (h.steps, h.lost, tt);
    machine = h.machine;
    refused = rw (or_false h.does.refused, ← h.refuses) r;
    written = rw (append-nil (reply_text h.does.reply), ← h.replies) w;
    writes = rw (add-zero (pieces_of h.does.reply)) calls;
    asks = rw (append-nil h.does.unread) h.asks;
    sure = λ steady. (h.sure steady, tt);
  };
}

-- a run that stops at its first line
pub stops_here : {M : Type 0} (step : Step M) (disk : Disk) (cause : Cause) (lines : List (List ℕ)) (a c : World M) → StaysHeld a.files c.files → StopsAt step disk cause lines a c → Stops step disk cause lines a c
stops_here step disk cause lines a c held h = record {
  front = [];
  rest = lines;
  are = refl;
  mid = a;
  executes = executes_nothing step disk a;
  stops = h;
  held = held;
}
