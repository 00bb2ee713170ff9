-- The replies to script lines that were done, each of one line; of a list it is the first line.
use Rattle.std.specs.Prelude.{ℕ, List, ◌++◌, codes}
use Rattle.std.specs.Fmt.{decimal}
use Rattle.pf_base.specs.Path.{path_text}
use Rattle.pf_reply.specs.Texts.{numbered}
use Rattle.pf_reply.specs.declared.reply.Filled.{Filled}
use Rattle.pf_reply.specs.declared.reply.Listing.{Listing}
use Rattle.pf_reply.specs.declared.reply.Listing.TheVariants as listings
use Rattle.pf_reply.specs.declared.reply.Reply.{Reply}
use Rattle.pf_reply.specs.declared.reply.Reply.TheVariants as replies

-- what a load fills
abbrev pub filled_text : List ℕ → Filled → List ℕ
filled_text word filled =
    (codes "ok " ++ word) ++ numbered (codes " rulesets=") filled.rulesets ++ numbered (codes " rules=") filled.rules ++ numbered (codes " tables=") filled.tables

abbrev pub opened_text : List ℕ → ℕ → List ℕ
opened_text session ticket = codes "ok open " ++ session ++ numbered (codes " ticket=") ticket

-- `N/M addresses added.`, and the same of those deleted and those that match
abbrev pub of_text : ℕ → ℕ → List ℕ → List ℕ
of_text count words what = decimal count ++ numbered (codes "/") words ++ (codes " addresses " ++ what) ++ codes "."

abbrev pub replaced_text : ℕ → ℕ → List ℕ
replaced_text added deleted = decimal added ++ codes " addresses added. " ++ decimal deleted ++ codes " addresses deleted."

abbrev pub counted_text : List ℕ → ℕ → List ℕ
counted_text word count = codes "ok " ++ word ++ numbered (codes " ") count

abbrev pub listing_word : Listing → List ℕ
listing_word listings.Rules = codes "rules"
listing_word listings.Written = codes "written"
listing_word listings.Tables = codes "tables"
listing_word listings.Table = codes "table"
listing_word listings.Anchors = codes "anchors"
listing_word listings.Skips = codes "skips"
listing_word listings.Queues = codes "queues"
listing_word listings.Options = codes "options"

abbrev pub reply_text : Reply → List ℕ
reply_text (replies.Loaded filled) = filled_text (codes "load") filled
reply_text (replies.Checked filled) = filled_text (codes "check") filled
reply_text (replies.Opened session ticket) = opened_text session ticket
reply_text (replies.Committed session) = codes "ok commit " ++ session
reply_text (replies.RolledBack session) = codes "ok rollback " ++ session
reply_text (replies.Flushed path) = codes "ok flush " ++ path_text path
reply_text (replies.Added count words) = of_text count words (codes "added")
reply_text (replies.Deleted count words) = of_text count words (codes "deleted")
reply_text (replies.Replaced added deleted) = replaced_text added deleted
reply_text (replies.Emptied count) = decimal count ++ codes " addresses deleted."
reply_text (replies.Matched count words) = of_text count words (codes "match")
reply_text (replies.Hosts count) = counted_text (codes "hosts") count
reply_text (replies.Listed listing count) = counted_text (listing_word listing) count
