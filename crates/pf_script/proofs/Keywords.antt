-- The keywords of lines, each by the one word that spells it.
use Rattle.std.proofs.Common.{◌≡◌, ℕ, Bool, true, false, cond, List, codes, Option, Some, None, refl, ap, ◌∙◌}
use Rattle.std.specs.Str.{bytes_eq}
use Rattle.std.proofs.lemmas.Slice.Eq.{bytes_eq-Decides}
use Rattle.pf_base.specs.declared.kind.Level.{Level}
use Rattle.pf_base.specs.declared.kind.Level.TheVariants as level
use Rattle.pf_script.specs.Command.{action_word_of, keyword_of, show_word_of}
use Rattle.pf_script.specs.Grammar.{level_word}
use Rattle.pf_script.specs.Options.{flag_of}
use Rattle.pf_script.specs.Word.{level_of}
use Rattle.pf_script.specs.declared.keyword.ActionWord.{ActionWord}
use Rattle.pf_script.specs.declared.keyword.ActionWord.TheVariants as action
use Rattle.pf_script.specs.declared.keyword.Flag.{Flag}
use Rattle.pf_script.specs.declared.keyword.Flag.TheVariants as flags
use Rattle.pf_script.specs.declared.keyword.Keyword.{Keyword}
use Rattle.pf_script.specs.declared.keyword.Keyword.TheVariants as keyword
use Rattle.pf_script.specs.declared.keyword.ShowWord.{ShowWord}
use Rattle.pf_script.specs.declared.keyword.ShowWord.TheVariants as shown

abbrev pub keyword_text : Keyword → List ℕ
keyword_text keyword.Load = codes "load"
keyword_text keyword.Check = codes "check"
keyword_text keyword.Open = codes "open"
keyword_text keyword.Commit = codes "commit"
keyword_text keyword.Rollback = codes "rollback"
keyword_text keyword.Flush = codes "flush"
keyword_text keyword.Table = codes "table"
keyword_text keyword.Show = codes "show"
keyword_text keyword.Hosts = codes "hosts"
keyword_text keyword.Test = codes "test"

abbrev pub action_text : ActionWord → List ℕ
action_text action.Add = codes "add"
action_text action.Delete = codes "delete"
action_text action.Replace = codes "replace"
action_text action.Flush = codes "flush"
action_text action.Show = codes "show"
action_text action.Test = codes "test"

abbrev pub show_text : ShowWord → List ℕ
show_text shown.Rules = codes "rules"
show_text shown.Written = codes "written"
show_text shown.Tables = codes "tables"
show_text shown.Anchors = codes "anchors"
show_text shown.Skips = codes "skips"
show_text shown.Queues = codes "queues"
show_text shown.Options = codes "options"

abbrev pub flag_text : Flag → List ℕ
flag_text flags.Level = codes "-o"
flag_text flags.Path = codes "-a"
flag_text flags.Profile = codes "-P"
flag_text flags.Define = codes "-D"

-- one row of a table of words
module _ {K : Type 0} (spelling : K → List ℕ) (word : List ℕ) (k : K) where
  by_test : (b : Bool) (that : K) (others : Option K) → (b ≡ true → word ≡ spelling that) → (others ≡ Some k → word ≡ spelling k) → cond b (Some that) others ≡ Some k → word ≡ spelling k
  by_test true that others same rest h = let e : that ≡ k = cc in same refl ∙ ap spelling e
  by_test false that others same rest h = rest h

  row : (that : K) (others : Option K) → (others ≡ Some k → word ≡ spelling k) → cond (bytes_eq word (spelling that)) (Some that) others ≡ Some k → word ≡ spelling k
  row that others rest h = by_test (bytes_eq word (spelling that)) that others (bytes_eq-Decides word (spelling that)).0 rest h

no_more : {K : Type 0} (spelling : K → List ℕ) (word : List ℕ) (k : K) → ◌≡◌ {A = Option K} None (Some k) → word ≡ spelling k
no_more spelling word k h = cc

pub keyword_back : (word : List ℕ) (k : Keyword) → keyword_of word ≡ Some k → word ≡ keyword_text k
unfolding keyword_of
keyword_back word k h =
    let step = row keyword_text word k in
    step keyword.Load _ (step keyword.Check _ (step keyword.Open _ (step keyword.Commit _ (step keyword.Rollback _ (step keyword.Flush _ (step keyword.Table _ (step keyword.Show _ (step keyword.Hosts _ (step keyword.Test _ (no_more keyword_text word k)))))))))) h

pub keyword_said : (k : Keyword) → keyword_of (keyword_text k) ≡ Some k
unfolding keyword_of
keyword_said keyword.Load = refl
keyword_said keyword.Check = refl
keyword_said keyword.Open = refl
keyword_said keyword.Commit = refl
keyword_said keyword.Rollback = refl
keyword_said keyword.Flush = refl
keyword_said keyword.Table = refl
keyword_said keyword.Show = refl
keyword_said keyword.Hosts = refl
keyword_said keyword.Test = refl

pub action_back : (word : List ℕ) (k : ActionWord) → action_word_of word ≡ Some k → word ≡ action_text k
unfolding action_word_of
action_back word k h =
    let step = row action_text word k in
    step action.Add _ (step action.Delete _ (step action.Replace _ (step action.Flush _ (step action.Show _ (step action.Test _ (no_more action_text word k)))))) h

pub action_said : (k : ActionWord) → action_word_of (action_text k) ≡ Some k
unfolding action_word_of
action_said action.Add = refl
action_said action.Delete = refl
action_said action.Replace = refl
action_said action.Flush = refl
action_said action.Show = refl
action_said action.Test = refl

pub show_back : (word : List ℕ) (k : ShowWord) → show_word_of word ≡ Some k → word ≡ show_text k
unfolding show_word_of
show_back word k h =
    let step = row show_text word k in
    step shown.Rules _ (step shown.Written _ (step shown.Tables _ (step shown.Anchors _ (step shown.Skips _ (step shown.Queues _ (step shown.Options _ (no_more show_text word k))))))) h

pub show_said : (k : ShowWord) → show_word_of (show_text k) ≡ Some k
unfolding show_word_of
show_said shown.Rules = refl
show_said shown.Written = refl
show_said shown.Tables = refl
show_said shown.Anchors = refl
show_said shown.Skips = refl
show_said shown.Queues = refl
show_said shown.Options = refl

pub flag_back : (word : List ℕ) (k : Flag) → flag_of word ≡ Some k → word ≡ flag_text k
unfolding flag_of
flag_back word k h =
    let step = row flag_text word k in
    step flags.Level _ (step flags.Path _ (step flags.Profile _ (step flags.Define _ (no_more flag_text word k)))) h

pub flag_said : (k : Flag) → flag_of (flag_text k) ≡ Some k
unfolding flag_of
flag_said flags.Level = refl
flag_said flags.Path = refl
flag_said flags.Profile = refl
flag_said flags.Define = refl

pub level_back : (word : List ℕ) (k : Level) → level_of word ≡ Some k → word ≡ level_word k
unfolding level_of
level_back word k h =
    let step = row level_word word k in
    step level.None _ (step level.Basic _ (step level.Profile _ (no_more level_word word k))) h

pub level_said : (k : Level) → level_of (level_word k) ≡ Some k
unfolding level_of
level_said level.None = refl
level_said level.Basic = refl
level_said level.Profile = refl
