use Rattle.std.proofs.Common.{◌≡◌, ℕ, List, ◌++◌, length, map}
use Rattle.pf_host.specs.Facts.{HostFacts}
use Rattle.pf_entries.specs.FileWords.{words_in}
use Rattle.pf_entries.specs.Tables.{Gathers, word_at}
use Rattle.pf_entries.proofs.file_words.add_words.Given as goal

-- the words so far were added, and the others follow
abbrev pub invariant-loop-word : goal.invariant-loop-word
invariant-loop-word l = record {
  seen : List (List ℕ);
  joined : words_in l.fn.line ≡ seen ++ words_in l.rest;
  so : (facts : HostFacts) → Gathers facts (map (word_at l.place) seen) l.initial.gathered l.gathered;
}

abbrev pub decreases-loop-word : goal.decreases-loop-word
decreases-loop-word l = length l.rest
