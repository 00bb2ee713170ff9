-- How the parameters of a rule or an answer are printed (pf.conf(5), PARAMETERS and TRAFFIC NORMALISATION).
use Rattle.std.specs.Prelude.{ℕ, List, [], ◌∷◌, ◌++◌, Option, Some, None, if◌then◌else◌, codes, decimal}
use Rattle.std.specs.Option.{option_map}
use Rattle.pf_parts.specs.declared.params.Log.{Log}
use Rattle.pf_parts.specs.declared.params.Prios.{Prios}
use Rattle.pf_parts.specs.declared.params.Queues.{Queues}
use Rattle.pf_parts.specs.declared.params.Scrub.{Scrub}
use Rattle.pf_parts.specs.NameText.{name_text, quoted}
use Rattle.pf_parts.specs.Parts.{joined, in_brackets, word_if, with_number, with_pair}

abbrev pub log_parts : Log → List (Option (List ℕ))
log_parts log =
    word_if log.all (codes "all")
    ∷ word_if log.matches (codes "matches")
    ∷ word_if log.user (codes "user")
    ∷ option_map (λ name. codes "to " ++ name_text name) log.to
    ∷ []

-- `log`, and in brackets how
unfoldable pub log_text : Log → Option (List ℕ)
log_text log = if log.on then Some (joined (codes " ") (Some (codes "log") ∷ in_brackets (log_parts log) ∷ [])) else None

unfoldable pub tag_text : List ℕ → List ℕ
tag_text tag = codes "tag " ++ name_text tag

-- one queue, or two in brackets
unfoldable pub queue_text : Queues → List ℕ
queue_text queues = with_pair (codes "queue") (name_text queues.first) (option_map name_text queues.second)

-- one priority, or two in brackets
unfoldable pub prio_text : Prios → List ℕ
prio_text prios = with_pair (codes "prio") (decimal prios.first) (option_map decimal prios.second)

abbrev pub scrub_parts : Scrub → List (Option (List ℕ))
scrub_parts scrub =
    word_if scrub.no_df (codes "no-df")
    ∷ word_if scrub.random_id (codes "random-id")
    ∷ word_if scrub.reassemble_tcp (codes "reassemble tcp")
    ∷ with_number (codes "min-ttl") scrub.min_ttl
    ∷ with_number (codes "max-mss") scrub.max_mss
    ∷ []

-- `scrub` and in brackets how, where anything is normalised
unfoldable pub scrub_text : Scrub → Option (List ℕ)
scrub_text scrub = option_map (λ parts. codes "scrub " ++ parts) (in_brackets (scrub_parts scrub))

-- a label has quotes always
unfoldable pub label_text : List ℕ → List ℕ
label_text label = codes "label " ++ quoted label
