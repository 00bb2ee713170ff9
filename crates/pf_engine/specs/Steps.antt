-- What a line did: it was done, or it was refused and changed nothing.
use Rattle.std.specs.Prelude.{ℕ, true, false, List, [], ◌∷◌, length, Option, Some, None}
use Rattle.pf_runs.specs.Runs.{Stepped}
use Rattle.pf_reply.specs.Refusals.{refusal_text, unread_of}
use Rattle.pf_reply.specs.Replies.{reply_text}
use Rattle.pf_reply.specs.declared.refusal.Refusal.{Refusal}
use Rattle.pf_reply.specs.declared.reply.Listing.{Listing}
use Rattle.pf_reply.specs.declared.reply.Reply.{Reply}
use Rattle.pf_reply.specs.declared.reply.Reply.TheVariants.{Listed}
use Rattle.pf_state.specs.declared.machine.Machine.{Machine}

-- the line was done, and is told this
abbrev pub done : Machine → Reply → Stepped Machine
done machine reply = record { machine = machine; reply = reply_text reply ∷ []; refused = false; unread = [] }

-- the line was refused, and the machine is this
abbrev pub refused : Machine → Refusal → Stepped Machine
refused machine refusal = record { machine = machine; reply = refusal_text refusal ∷ []; refused = true; unread = unread_of refusal }

-- it was done, unless there is a refusal, which changes nothing
abbrev pub done_unless : Option Refusal → Machine → Machine → Reply → Stepped Machine
done_unless None before after reply = done after reply
done_unless (Some refusal) before after reply = refused before refusal

-- the lines of a list: its kind and length, and then its items
abbrev pub list_text : Listing → List (List ℕ) → List (List ℕ)
list_text listing lines = reply_text (Listed listing (length lines)) ∷ lines

-- a list is shown
abbrev pub shown : Machine → Listing → List (List ℕ) → Stepped Machine
shown machine listing lines = record { machine = machine; reply = list_text listing lines; refused = false; unread = [] }
