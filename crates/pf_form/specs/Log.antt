-- `logq`, `log` and `logopt` (pf.conf(5), GRAMMAR, `logopts`).
use Rattle.std.specs.Prelude.{ℕ, Bool, true, false, not, List, [], ◌∷◌, Option, Some, None, is_none, codes}
use Rattle.pf_parts.specs.Defaults.{no_log}
use Rattle.pf_parts.specs.declared.params.Log.{Log}
use Rattle.pf_syntax.specs.Grammar.{Grammar, ◌>>=◌, give, on_word, on_sign, where_next}
use Rattle.pf_syntax.specs.Words.{Keyword, key, keyword, name, only_where, perhaps_word}
use Rattle.pf_syntax.specs.Lists.{at_sign, in_brackets}
use Rattle.pf_form.specs.declared.keyword.LogWord.{LogWord}
use Rattle.pf_form.specs.declared.keyword.LogWord.TheVariants.{All, Matches, User, To}
use Rattle.pf_form.specs.declared.log.Logged.{Logged}

unfoldable pub log_words : List (Keyword LogWord)
log_words = key (codes "all") All ∷ key (codes "matches") Matches ∷ key (codes "user") User ∷ key (codes "to") To ∷ []

-- `"all" | "matches" | "user" | "to" NAME`, each once
unfoldable pub log_part : LogWord → Log → Grammar Log
log_part All before = do
  once ← only_where (not before.all)
  give (record before { all = true })
log_part Matches before = do
  once ← only_where (not before.matches)
  give (record before { matches = true })
log_part User before = do
  once ← only_where (not before.user)
  give (record before { user = true })
log_part To before = do
  once ← only_where (is_none before.to)
  iface ← name
  give (record before { to = Some iface })

unfoldable pub log_option : Log → Grammar Log
log_option before = do
  word ← keyword log_words
  log_part word before

abbrev pub plain_log : Log
plain_log = record no_log { on = true }

-- `["(" logopt { [","] logopt } ")"]` behind `log`
unfoldable pub log_options : Grammar Log
log_options = where_next (at_sign (codes "(")) (in_brackets log_option plain_log) (give plain_log)

-- `log "quick" | log` behind `log`
unfoldable pub log_first : Grammar Logged
log_first = do
  log ← log_options
  quick ← perhaps_word (codes "quick")
  give (record { log = log; quick = quick })

-- `"quick" log | "quick"` behind `quick`
unfoldable pub quick_first : Grammar Logged
quick_first = do
  log ← on_word (codes "log") log_options (give no_log)
  give (record { log = log; quick = true })

-- `[log | "quick" | log "quick" | "quick" log]`
unfoldable pub logged : Grammar Logged
logged = on_word (codes "log") log_first (on_word (codes "quick") quick_first (give (record { log = no_log; quick = false })))
