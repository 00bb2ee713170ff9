-- Commands, and the words that spell them.
use Rattle.std.proofs.Common.{◌≡◌, ℕ, Bool, true, false, cond, List, [], ◌∷◌, codes, Option, Some, None, refl, sym, ap, ◌∙◌, subst, ◌⊎◌, inl, inr}
use Rattle.std.specs.Option.{option_and_then}
use Rattle.std.specs.Str.{bytes_eq}
use Rattle.std.proofs.lemmas.Slice.Eq.{bytes_eq-Decides}
use Rattle.pf_script.specs.Command.{Words, action_of, action_with, action_word_of, at_end, command_said, command_with, flushed, keyword_of, one_word, open_of, opened_by, path_alone, show_of, show_with, show_word_of, some_words, table_line, table_line_of, test_of}
use Rattle.pf_script.specs.Grammar.{SpellsAction, SpellsCommand, SpellsShow, add, anchors, check, commit, delete, flush_table, flush_rules, hosts, load, open_session, options, queues, replace, rollback, rules, show_table, shows_what, skips, table, tables, test_table, written}
use Rattle.pf_script.specs.Options.{load_line_of}
use Rattle.pf_script.specs.Word.{file_of, is_short, path_of, session_of, table_of}
use Rattle.pf_script.specs.declared.command.Command.{Command}
use Rattle.pf_script.specs.declared.command.Command.TheVariants as command
use Rattle.pf_script.specs.declared.command.LoadLine.{LoadLine}
use Rattle.pf_script.specs.declared.command.Show.{Show}
use Rattle.pf_script.specs.declared.command.Show.TheVariants as shows
use Rattle.pf_script.specs.declared.command.TableAction.{TableAction}
use Rattle.pf_script.specs.declared.command.TableAction.TheVariants as acts
use Rattle.pf_script.specs.declared.keyword.ActionWord.{ActionWord}
use Rattle.pf_script.specs.declared.keyword.ActionWord.TheVariants as action
use Rattle.pf_script.specs.declared.keyword.Keyword.{Keyword}
use Rattle.pf_script.specs.declared.keyword.Keyword.TheVariants as keyword
use Rattle.pf_script.specs.declared.keyword.ShowWord.{ShowWord}
use Rattle.pf_script.specs.declared.keyword.ShowWord.TheVariants as shown
use Rattle.pf_script.proofs.Keywords.{action_back, action_said, keyword_back, keyword_said, show_back, show_said}
use Rattle.pf_script.proofs.Spelled.{cond_some, file_back, file_said, load_back, load_said, map_some, session_back, session_said}

-- the word that stands alone, with what it says
alone : {A : Type 0} (read : List ℕ → Option A) (words : Words) (a : A) → option_and_then read (one_word words) ≡ Some a → (word : List ℕ) × (words ≡ word ∷ []) × (read word ≡ Some a)
alone read [] a h = cc
alone read (word ∷ []) a h = (word, refl, h)
alone read (word ∷ next ∷ words) a h = cc

ended : {A : Type 0} (said : A) (words : Words) (a : A) → at_end said words ≡ Some a → (words ≡ []) × (said ≡ a)
ended said [] a h = (refl, cc)
ended said (word ∷ words) a h = cc

some_back : (words found : Words) → some_words words ≡ Some found → (word : List ℕ) × (rest : Words) × (words ≡ word ∷ rest) × (found ≡ word ∷ rest)
some_back [] found h = cc
some_back (word ∷ words) found h = (word, words, refl, cc)

table_back : (word name : List ℕ) → table_of word ≡ Some name → (is_short word ≡ true) × (word ≡ name)
table_back word name h = cond_some (is_short word) word name h

-- what is done with a table
act_as : {a b : TableAction} {word text : List ℕ} {words rest : Words} → a ≡ b → word ≡ text → words ≡ rest → SpellsAction a (text ∷ rest) → SpellsAction b (word ∷ words)
act_as {a} {b} {word} {text} {words} {rest} e f g h =
    subst (λ (act : TableAction). SpellsAction act (word ∷ words)) e (subst (λ (w : List ℕ). SpellsAction a (w ∷ words)) (sym f) (subst (λ (ws : Words). SpellsAction a (text ∷ ws)) (sym g) h))

act_by : (word : List ℕ) (words : Words) (act : TableAction) (k : Option ActionWord) → action_word_of word ≡ k → action_with k words ≡ Some act → SpellsAction act (word ∷ words)
act_by word words act None e h = cc
act_by word words act (Some action.Add) e h =
    let m = map_some (λ entries. acts.Add entries) (some_words words) act h in
    let s = some_back words m.0 m.1 in
    act_as (ap acts.Add (sym s.3) ∙ m.2) (action_back word action.Add e) s.2 (add s.0 s.1)
act_by word words act (Some action.Delete) e h =
    let m = map_some (λ entries. acts.Delete entries) (some_words words) act h in
    let s = some_back words m.0 m.1 in
    act_as (ap acts.Delete (sym s.3) ∙ m.2) (action_back word action.Delete e) s.2 (delete s.0 s.1)
act_by word words act (Some action.Replace) e h =
    let m = map_some (λ entries. acts.Replace entries) (some_words words) act h in
    let s = some_back words m.0 m.1 in
    act_as (ap acts.Replace (sym s.3) ∙ m.2) (action_back word action.Replace e) s.2 (replace s.0 s.1)
act_by word words act (Some action.Flush) e h =
    let m = ended acts.Flush words act h in
    act_as m.1 (action_back word action.Flush e) m.0 flush_table
act_by word words act (Some action.Show) e h =
    let m = ended acts.Show words act h in
    act_as m.1 (action_back word action.Show e) m.0 show_table
act_by word words act (Some action.Test) e h =
    let m = map_some (λ addresses. acts.Test addresses) (some_words words) act h in
    let s = some_back words m.0 m.1 in
    act_as (ap acts.Test (sym s.3) ∙ m.2) (action_back word action.Test e) s.2 (test_table s.0 s.1)

act_back : (words : Words) (act : TableAction) → action_of words ≡ Some act → SpellsAction act words
act_back [] act h = cc
act_back (word ∷ words) act h = act_by word words act (action_word_of word) refl h

act_said : (act : TableAction) (words : Words) → SpellsAction act words → action_of words ≡ Some act
act_said act words (add word rest) = rw (action_said action.Add) refl
act_said act words (delete word rest) = rw (action_said action.Delete) refl
act_said act words (replace word rest) = rw (action_said action.Replace) refl
act_said act words flush_table = rw (action_said action.Flush) refl
act_said act words show_table = rw (action_said action.Show) refl
act_said act words (test_table word rest) = rw (action_said action.Test) refl

-- what is shown
show_as : {a b : Show} {word text : List ℕ} {words rest : Words} → a ≡ b → word ≡ text → words ≡ rest → SpellsShow a (text ∷ rest) → SpellsShow b (word ∷ words)
show_as {a} {b} {word} {text} {words} {rest} e f g h =
    subst (λ (what : Show). SpellsShow what (word ∷ words)) e (subst (λ (w : List ℕ). SpellsShow a (w ∷ words)) (sym f) (subst (λ (ws : Words). SpellsShow a (text ∷ ws)) (sym g) h))

show_by : (word : List ℕ) (words : Words) (what : Show) (k : Option ShowWord) → show_word_of word ≡ k → show_with k words ≡ Some what → SpellsShow what (word ∷ words)
show_by word words what None e h = cc
show_by word words what (Some shown.Rules) e h =
    let m = map_some (λ path. shows.Rules path) (path_alone words) what h in
    let one = alone (path_of true) words m.0 m.1 in
    show_as m.2 (show_back word shown.Rules e) one.1 (rules m.0 one.0 one.2)
show_by word words what (Some shown.Written) e h =
    let m = map_some (λ path. shows.Written path) (path_alone words) what h in
    let one = alone (path_of true) words m.0 m.1 in
    show_as m.2 (show_back word shown.Written e) one.1 (written m.0 one.0 one.2)
show_by word words what (Some shown.Tables) e h =
    let m = map_some (λ path. shows.Tables path) (path_alone words) what h in
    let one = alone (path_of true) words m.0 m.1 in
    show_as m.2 (show_back word shown.Tables e) one.1 (tables m.0 one.0 one.2)
show_by word words what (Some shown.Anchors) e h =
    let m = map_some (λ path. shows.Anchors path) (path_alone words) what h in
    let one = alone (path_of true) words m.0 m.1 in
    show_as m.2 (show_back word shown.Anchors e) one.1 (anchors m.0 one.0 one.2)
show_by word words what (Some shown.Skips) e h =
    let m = map_some (λ path. shows.Skips path) (path_alone words) what h in
    let one = alone (path_of true) words m.0 m.1 in
    show_as m.2 (show_back word shown.Skips e) one.1 (skips m.0 one.0 one.2)
show_by word words what (Some shown.Queues) e h =
    let m = ended shows.Queues words what h in
    show_as m.1 (show_back word shown.Queues e) m.0 queues
show_by word words what (Some shown.Options) e h =
    let m = ended shows.Options words what h in
    show_as m.1 (show_back word shown.Options e) m.0 options

what_back : (words : Words) (what : Show) → show_of words ≡ Some what → SpellsShow what words
what_back [] what h = cc
what_back (word ∷ words) what h = show_by word words what (show_word_of word) refl h

what_said : (what : Show) (words : Words) → SpellsShow what words → show_of words ≡ Some what
what_said what words (rules path word h) = rw (show_said shown.Rules, h) refl
what_said what words (written path word h) = rw (show_said shown.Written, h) refl
what_said what words (tables path word h) = rw (show_said shown.Tables, h) refl
what_said what words (anchors path word h) = rw (show_said shown.Anchors, h) refl
what_said what words (skips path word h) = rw (show_said shown.Skips, h) refl
what_said what words queues = rw (show_said shown.Queues) refl
what_said what words options = rw (show_said shown.Options) refl

-- commands
said_as : {a b : Command} {word text : List ℕ} {words rest : Words} → a ≡ b → word ≡ text → words ≡ rest → SpellsCommand a (text ∷ rest) → SpellsCommand b (word ∷ words)
said_as {a} {b} {word} {text} {words} {rest} e f g h =
    subst (λ (c : Command). SpellsCommand c (word ∷ words)) e (subst (λ (w : List ℕ). SpellsCommand a (w ∷ words)) (sym f) (subst (λ (ws : Words). SpellsCommand a (text ∷ ws)) (sym g) h))

opened_back : (name : Option (List ℕ)) (line : Option LoadLine) (said : Command) → opened_by name line ≡ Some said → (n : List ℕ) × (l : LoadLine) × (name ≡ Some n) × (line ≡ Some l) × (command.Open n l ≡ said)
opened_back None line said h = cc
opened_back (Some name) None said h = cc
opened_back (Some name) (Some line) said h = (name, line, refl, refl, cc)

open_back : (word : List ℕ) (words : Words) (said : Command) → word ≡ codes "open" → open_of words ≡ Some said → SpellsCommand said (word ∷ words)
open_back word [] said e h = cc
open_back word (name ∷ words) said e h =
    let m = opened_back (session_of name) (load_line_of words) said h in
    let session = session_back name m.0 m.2 in
    said_as (ap (λ (n : List ℕ). command.Open n m.1) session.1 ∙ m.4) e refl (open_session name m.1 words session.0 (load_back words m.1 m.3))

flush_back : (word : List ℕ) (words : Words) (path : List (List ℕ)) → word ≡ codes "flush" → flushed words ≡ Some path → SpellsCommand (command.Flush path) (word ∷ words)
flush_back word [] path e h = cc
flush_back word (what ∷ words) path e h =
    by_test (bytes_eq what (codes "rules")) (bytes_eq-Decides what (codes "rules")).0 h
  where
    by_test : (b : Bool) → (b ≡ true → what ≡ codes "rules") → cond b (option_and_then (path_of false) (one_word words)) None ≡ Some path → SpellsCommand (command.Flush path) (word ∷ what ∷ words)
    by_test true same k =
        let one = alone (path_of false) words path k in
        let right : word ∷ what ∷ words ≡ codes "flush" ∷ codes "rules" ∷ one.0 ∷ [] =
        ap (λ (w : List ℕ). w ∷ what ∷ words) e ∙ (ap (λ (w : List ℕ). codes "flush" ∷ w ∷ words) (same refl) ∙ ap (λ (ws : Words). codes "flush" ∷ codes "rules" ∷ ws) one.1) in
        subst (SpellsCommand (command.Flush path)) (sym right) (flush_rules path one.0 one.2)
    by_test false same k = cc

line_back : (path : Option (List (List ℕ))) (name : Option (List ℕ)) (act : Option TableAction) (said : Command) → table_line path name act ≡ Some said
    → (p : List (List ℕ)) × (n : List ℕ) × (a : TableAction) × (path ≡ Some p) × (name ≡ Some n) × (act ≡ Some a) × (command.Table p n a ≡ said)
line_back None name act said h = cc
line_back (Some path) None act said h = cc
line_back (Some path) (Some name) None said h = cc
line_back (Some path) (Some name) (Some act) said h = (path, name, act, refl, refl, refl, cc)

table_line_back : (word : List ℕ) (words : Words) (said : Command) → word ≡ codes "table" → table_line_of words ≡ Some said → SpellsCommand said (word ∷ words)
table_line_back word [] said e h = cc
table_line_back word (path ∷ []) said e h = cc
table_line_back word (path ∷ name ∷ words) said e h =
    let m = line_back (path_of false path) (table_of name) (action_of words) said h in
    let named = table_back name m.1 m.4 in
    said_as (ap (λ (n : List ℕ). command.Table m.0 n m.2) named.1 ∙ m.6) e refl (table m.0 path name m.2 words m.3 named.0 (act_back words m.2 m.5))

-- the words spell the command, or they are those of a `test` line
abbrev pub SpellsOrTests : Command → Words → List ℕ → Type 0
SpellsOrTests said words text = SpellsCommand said words ⊎ ((rest : Words) × (words ≡ codes "test" ∷ rest) × (test_of text ≡ Some said))

command_by : (word : List ℕ) (words : Words) (text : List ℕ) (said : Command) (k : Option Keyword) → keyword_of word ≡ k → command_with k words text ≡ Some said → SpellsOrTests said (word ∷ words) text
command_by word words text said None e h = cc
command_by word words text said (Some keyword.Load) e h =
    let m = map_some (λ line. command.Load line) (load_line_of words) said h in
    inl (said_as m.2 (keyword_back word keyword.Load e) refl (load m.0 words (load_back words m.0 m.1)))
command_by word words text said (Some keyword.Check) e h =
    let m = map_some (λ line. command.Check line) (load_line_of words) said h in
    inl (said_as m.2 (keyword_back word keyword.Check e) refl (check m.0 words (load_back words m.0 m.1)))
command_by word words text said (Some keyword.Open) e h = inl (open_back word words said (keyword_back word keyword.Open e) h)
command_by word words text said (Some keyword.Commit) e h =
    let m = map_some (λ name. command.Commit name) (option_and_then session_of (one_word words)) said h in
    let one = alone session_of words m.0 m.1 in
    let session = session_back one.0 m.0 one.2 in
    inl (said_as (ap command.Commit session.1 ∙ m.2) (keyword_back word keyword.Commit e) one.1 (commit one.0 session.0))
command_by word words text said (Some keyword.Rollback) e h =
    let m = map_some (λ name. command.Rollback name) (option_and_then session_of (one_word words)) said h in
    let one = alone session_of words m.0 m.1 in
    let session = session_back one.0 m.0 one.2 in
    inl (said_as (ap command.Rollback session.1 ∙ m.2) (keyword_back word keyword.Rollback e) one.1 (rollback one.0 session.0))
command_by word words text said (Some keyword.Flush) e h =
    let m = map_some (λ path. command.Flush path) (flushed words) said h in
    inl (subst (λ (c : Command). SpellsCommand c (word ∷ words)) m.2 (flush_back word words m.0 (keyword_back word keyword.Flush e) m.1))
command_by word words text said (Some keyword.Table) e h = inl (table_line_back word words said (keyword_back word keyword.Table e) h)
command_by word words text said (Some keyword.Show) e h =
    let m = map_some (λ what. command.Show what) (show_of words) said h in
    inl (said_as m.2 (keyword_back word keyword.Show e) refl (shows_what m.0 words (what_back words m.0 m.1)))
command_by word words text said (Some keyword.Hosts) e h =
    let m = map_some (λ file. command.Hosts file) (option_and_then file_of (one_word words)) said h in
    let one = alone file_of words m.0 m.1 in
    let file = file_back one.0 m.0 one.2 in
    inl (said_as (ap command.Hosts file.1 ∙ m.2) (keyword_back word keyword.Hosts e) one.1 (hosts one.0 file.0))
command_by word words text said (Some keyword.Test) e h = inr (words, ap (λ (w : List ℕ). w ∷ words) (keyword_back word keyword.Test e), h)

pub command_back : (words : Words) (text : List ℕ) (said : Command) → command_said words text ≡ Some said → SpellsOrTests said words text
command_back [] text said h = cc
command_back (word ∷ words) text said h = command_by word words text said (keyword_of word) refl h

-- the command that words spell is said by them, whatever text stands behind the first
pub spelled_is_said : (said : Command) (words : Words) (text : List ℕ) → SpellsCommand said words → command_said words text ≡ Some said
spelled_is_said said words text (load line rest h) = rw (keyword_said keyword.Load, load_said rest line h) refl
spelled_is_said said words text (check line rest h) = rw (keyword_said keyword.Check, load_said rest line h) refl
spelled_is_said said words text (open_session name line rest h k) = rw (keyword_said keyword.Open, session_said name h, load_said rest line k) refl
spelled_is_said said words text (commit name h) = rw (keyword_said keyword.Commit, session_said name h) refl
spelled_is_said said words text (rollback name h) = rw (keyword_said keyword.Rollback, session_said name h) refl
spelled_is_said said words text (flush_rules path word h) = rw (keyword_said keyword.Flush, h) refl
spelled_is_said said words text (table path word name act rest h short k) = rw (keyword_said keyword.Table, h, short, act_said act rest k) refl
spelled_is_said said words text (shows_what what rest h) = rw (keyword_said keyword.Show, what_said what rest h) refl
spelled_is_said said words text (hosts file h) = rw (keyword_said keyword.Hosts, file_said file h) refl

-- a `test` line says its record
pub test_is_said : (words : Words) (byte : ℕ) (bytes : List ℕ) → command_said (codes "test" ∷ words) (byte ∷ bytes) ≡ Some (command.Test (byte ∷ bytes))
test_is_said words byte bytes = rw (keyword_said keyword.Test) refl
