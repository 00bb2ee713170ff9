-- `queue` (pf.conf(5), GRAMMAR, `queue`, and QUEUEING). Each part stands once.
use Rattle.std.specs.Prelude.{ℕ, true, false, not, List, [], ◌∷◌, Option, Some, None, is_none, codes}
use Rattle.pf_base.specs.declared.fault.Place.{Place}
use Rattle.pf_syntax.specs.Symbols.{is_end}
use Rattle.pf_syntax.specs.Grammar.{Grammar, ◌>>=◌, give, until}
use Rattle.pf_syntax.specs.Words.{Keyword, key, keyword, name, number, only_where}
use Rattle.pf_decl.specs.declared.form.Bandwidth.{Bandwidth as Rate}
use Rattle.pf_decl.specs.declared.form.Queue.{Queue}
use Rattle.pf_decl.specs.declared.keyword.QueueWord.{QueueWord}
use Rattle.pf_decl.specs.declared.keyword.QueueWord.TheVariants.{On, Parent, Bandwidth, Min, Max, Default, Qlimit}
use Rattle.pf_decl.specs.Bandwidths.{bandwidth}

-- a queue of which only the name is known
abbrev pub blank_queue : Place → List ℕ → Queue
blank_queue place name = record {
  name = name;
  iface = None;
  parent = None;
  bandwidth = None;
  min = None;
  max = None;
  default_queue = false;
  qlimit = None;
  place = place;
}

unfoldable pub queue_words : List (Keyword QueueWord)
queue_words =
    key (codes "on") On ∷ key (codes "parent") Parent ∷ key (codes "bandwidth") Bandwidth ∷ key (codes "min") Min
    ∷ key (codes "max") Max ∷ key (codes "default") Default ∷ key (codes "qlimit") Qlimit ∷ []

-- a name, or a rate, where none was given before
unfoldable pub name_once : Option (List ℕ) → Grammar (Option (List ℕ))
name_once before = do
  once ← only_where (is_none before)
  text ← name
  give (Some text)

unfoldable pub rate_once : Option Rate → Grammar (Option Rate)
rate_once before = do
  once ← only_where (is_none before)
  rate ← bandwidth
  give (Some rate)

-- what stands behind a keyword
unfoldable pub queue_behind : QueueWord → Queue → Grammar Queue
queue_behind On before = do
  iface ← name_once before.iface
  give (record before { iface = iface })
queue_behind Parent before = do
  parent ← name_once before.parent
  give (record before { parent = parent })
queue_behind Bandwidth before = do
  rate ← rate_once before.bandwidth
  give (record before { bandwidth = rate })
queue_behind Min before = do
  rate ← rate_once before.min
  give (record before { min = rate })
queue_behind Max before = do
  rate ← rate_once before.max
  give (record before { max = rate })
queue_behind Default before = do
  once ← only_where (not before.default_queue)
  give (record before { default_queue = true })
queue_behind Qlimit before = do
  once ← only_where (is_none before.qlimit)
  packets ← number 1 65535
  give (record before { qlimit = Some packets })

unfoldable pub queue_part : Queue → Grammar Queue
queue_part before = do
  which ← keyword queue_words
  queue_behind which before

-- `{qopt}`
abbrev pub queue_parts : Queue → Grammar Queue
queue_parts blank = until is_end queue_part blank

-- `NAME {qopt}` behind `queue`, in a statement at this place
unfoldable pub queue : Place → Grammar Queue
queue place = do
  name ← name
  queue_parts (blank_queue place name)
