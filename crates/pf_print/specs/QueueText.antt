-- How a queue is printed (pf.conf(5), QUEUEING and GRAMMAR, `queue`).
use Rattle.std.specs.Prelude.{ℕ, List, [], ◌∷◌, ◌++◌, Option, Some, None, codes, decimal}
use Rattle.std.specs.Option.{option_map}
use Rattle.pf_decl.specs.declared.form.Bandwidth.{Bandwidth}
use Rattle.pf_decl.specs.declared.form.Burst.{Burst}
use Rattle.pf_decl.specs.declared.form.Queue.{Queue}
use Rattle.pf_parts.specs.NameText.{name_text}
use Rattle.pf_parts.specs.Parts.{with_number, word_if}
use Rattle.pf_print.specs.RuleText.{parts_text}

-- bits per second, for so many milliseconds
abbrev pub burst_text : Option Burst → List ℕ
burst_text None = []
burst_text (Some burst) = codes " burst " ++ decimal burst.rate ++ codes " for " ++ decimal burst.ms ++ codes "ms"

-- bits per second
abbrev pub bandwidth_text : List ℕ → Bandwidth → List ℕ
bandwidth_text word bandwidth = word ++ codes " " ++ decimal bandwidth.rate ++ burst_text bandwidth.burst

abbrev pub named_text : List ℕ → List ℕ → List ℕ
named_text word name = word ++ codes " " ++ name_text name

-- the name, and then each part that is given
unfoldable pub queue_line : Queue → List ℕ
queue_line queue = codes "queue " ++ name_text queue.name ++ parts_text (
    option_map (named_text (codes "on")) queue.iface
    ∷ option_map (named_text (codes "parent")) queue.parent
    ∷ option_map (bandwidth_text (codes "bandwidth")) queue.bandwidth
    ∷ option_map (bandwidth_text (codes "min")) queue.min
    ∷ option_map (bandwidth_text (codes "max")) queue.max
    ∷ word_if queue.default_queue (codes "default")
    ∷ with_number (codes "qlimit") queue.qlimit
    ∷ [])
