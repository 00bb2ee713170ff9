-- `set` (pf.conf(5), GRAMMAR, `option`, and OPTIONS). A list makes a line for each member, in order.
use Rattle.std.specs.Prelude.{ℕ, Bool, true, false, List, [], ◌∷◌, Option, Some, None, codes, if◌then◌else◌}
use Rattle.pf_base.specs.declared.kind.Level.{Level}
use Rattle.pf_base.specs.declared.kind.Level.TheVariants as levels
use Rattle.pf_parts.specs.declared.block.BlockKind.{BlockKind}
use Rattle.pf_parts.specs.declared.block.BlockKind.TheVariants as blocks
use Rattle.pf_syntax.specs.Fault.{is_one_of, timeouts}
use Rattle.pf_syntax.specs.Grammar.{Grammar, ◌>>=◌, give, word}
use Rattle.pf_syntax.specs.Lists.{list_of}
use Rattle.pf_syntax.specs.Words.{Keyword, key, keyword, name, number, perhaps_word, word_as}
use Rattle.pf_decl.specs.declared.form.OptionLine.{OptionLine}
use Rattle.pf_decl.specs.declared.form.SetForm.{SetForm}
use Rattle.pf_decl.specs.declared.form.SetForm.TheVariants as forms
use Rattle.pf_decl.specs.declared.keyword.SetWord.{SetWord}
use Rattle.pf_decl.specs.declared.keyword.SetWord.TheVariants.{Skip, BlockPolicy, StatePolicy, RulesetOptimization, Timeout, Limit, Optimization, Debug, Reassemble, LogInterface, Fingerprints}
use Rattle.pf_decl.specs.Lines.{line_of}

unfoldable pub set_words : List (Keyword SetWord)
set_words =
    key (codes "skip") Skip ∷ key (codes "block-policy") BlockPolicy ∷ key (codes "state-policy") StatePolicy
    ∷ key (codes "ruleset-optimization") RulesetOptimization ∷ key (codes "timeout") Timeout ∷ key (codes "limit") Limit
    ∷ key (codes "optimization") Optimization ∷ key (codes "debug") Debug ∷ key (codes "reassemble") Reassemble
    ∷ key (codes "loginterface") LogInterface ∷ key (codes "fingerprints") Fingerprints ∷ []

unfoldable pub block_policies : List (Keyword BlockKind)
block_policies = key (codes "drop") blocks.Drop ∷ key (codes "return") blocks.Return ∷ []

unfoldable pub state_policies : List (Keyword Bool)
state_policies = key (codes "if-bound") true ∷ key (codes "floating") false ∷ []

unfoldable pub level_words : List (Keyword Level)
level_words = key (codes "none") levels.None ∷ key (codes "basic") levels.Basic ∷ key (codes "profile") levels.Profile ∷ []

unfoldable pub yes_or_no : List (Keyword Bool)
yes_or_no = key (codes "yes") true ∷ key (codes "no") false ∷ []

-- what is limited
unfoldable pub limits : List (List ℕ)
limits =
    codes "states" ∷ codes "frags" ∷ codes "src-nodes" ∷ codes "tables" ∷ codes "table-entries" ∷ codes "anchors"
    ∷ codes "pktdelay-pkts" ∷ []

unfoldable pub optimizations : List (List ℕ)
optimizations =
    codes "default" ∷ codes "normal" ∷ codes "high-latency" ∷ codes "satellite" ∷ codes "aggressive"
    ∷ codes "conservative" ∷ []

unfoldable pub debug_levels : List (List ℕ)
debug_levels =
    codes "emerg" ∷ codes "alert" ∷ codes "crit" ∷ codes "err" ∷ codes "warning" ∷ codes "notice" ∷ codes "info"
    ∷ codes "debug" ∷ []

-- one of these words
abbrev pub listed : List (List ℕ) → List ℕ → Option (List ℕ)
listed words word = if is_one_of words word then Some word else None

abbrev pub one_of : List (List ℕ) → Grammar (List ℕ)
one_of words = word_as (listed words)

-- TNAME
abbrev pub timeout_name : Grammar (List ℕ)
timeout_name = one_of timeouts

-- LNAME
abbrev pub limit_name : Grammar (List ℕ)
limit_name = one_of limits

-- NAME behind `skip on`, in a list or alone
unfoldable pub skip : Grammar SetForm
skip = do
  iface ← name
  give (forms.Skip iface)

-- TNAME N
unfoldable pub timeout : Grammar SetForm
timeout = do
  which ← timeout_name
  value ← number 0 4294967295
  give (forms.Timeout which value)

-- LNAME N
unfoldable pub limit : Grammar SetForm
limit = do
  which ← limit_name
  most ← number 0 4294967295
  give (forms.Limit which most)

unfoldable pub block_policy : Grammar SetForm
block_policy = do
  kind ← keyword block_policies
  give (forms.BlockPolicy kind)

unfoldable pub state_policy : Grammar SetForm
state_policy = do
  bound ← keyword state_policies
  give (forms.StatePolicy bound)

unfoldable pub ruleset_optimization : Grammar SetForm
ruleset_optimization = do
  level ← keyword level_words
  give (forms.RulesetOptimization level)

unfoldable pub optimization : Grammar SetForm
optimization = do
  which ← one_of optimizations
  give (forms.Optimization which)

unfoldable pub debug : Grammar SetForm
debug = do
  which ← one_of debug_levels
  give (forms.Debug which)

-- `("yes" | "no") ["no-df"]`
unfoldable pub reassemble : Grammar SetForm
reassemble = do
  fragments ← keyword yes_or_no
  no_df ← perhaps_word (codes "no-df")
  give (forms.Reassemble fragments no_df)

unfoldable pub log_interface : Grammar SetForm
log_interface = do
  iface ← name
  give (forms.LogInterface iface)

unfoldable pub fingerprints : Grammar SetForm
fingerprints = do
  file ← name
  give (forms.Fingerprints file)

-- the line of a setting
abbrev pub line : Grammar SetForm → Grammar OptionLine
line form = do
  said ← form
  give (line_of said)

-- the one line of a setting that takes no list
abbrev pub one_line : Grammar SetForm → Grammar (List OptionLine)
one_line form = do
  only ← line form
  give (only ∷ [])

-- `"on" list of NAME`
abbrev pub skip_lines : Grammar (List OptionLine)
skip_lines = do
  on ← word (codes "on")
  list_of (line skip)

-- what stands behind the keyword of a setting
unfoldable pub set_behind : SetWord → Grammar (List OptionLine)
set_behind Skip = skip_lines
set_behind BlockPolicy = one_line block_policy
set_behind StatePolicy = one_line state_policy
set_behind RulesetOptimization = one_line ruleset_optimization
set_behind Timeout = list_of (line timeout)
set_behind Limit = list_of (line limit)
set_behind Optimization = one_line optimization
set_behind Debug = one_line debug
set_behind Reassemble = one_line reassemble
set_behind LogInterface = one_line log_interface
set_behind Fingerprints = one_line fingerprints

-- behind `set`
unfoldable pub setting : Grammar (List OptionLine)
setting = do
  which ← keyword set_words
  set_behind which
