-- The options of a line that loads, and the words that spell them.
use Rattle.std.proofs.Common.{◌≡◌, ℕ, ◌≤◌, ◌==◌, Bool, true, false, ◌&&◌, cond, nat_le, List, [], ◌∷◌, ◌++◌, length, Option, Some, None, refl, sym, ap, ◌∙◌, subst, arith}
use Rattle.std.specs.Prelude.{unwrap_or}
use Rattle.std.specs.List.{filter_map, list_all}
use Rattle.std.specs.Option.{option_map, option_to_list}
use Rattle.std.specs.Cmp.{first_so, second_so}
use Rattle.std.proofs.lemmas.Bool.{eqb-true, false≢true}
use Rattle.std.proofs.lemmas.Bool.Decides.{nat_tests}
use Rattle.pf_base.specs.declared.kind.Level.{Level}
use Rattle.pf_token.specs.Bytes.{is_name_byte}
use Rattle.pf_token.specs.declared.macros.Define.{Define}
use Rattle.pf_script.specs.Command.{Words}
use Rattle.pf_script.specs.Grammar.{FillsPath, IsDefineWord, IsFileWord, IsSessionWord, SpellsLoad, SpellsOption, SpellsOptions, defines, file_behind, fills, given, main, option_first, optimises, weighs}
use Rattle.pf_script.specs.Options.{Defines, Fills, LineOption, Optimises, OptionsAndFile, Weighs, are_different, at_most_one, define_in, file_alone, fitting, given_by, given_together, level_in, line_with, load_line_by, load_line_of, most_defines, option_of, option_with, options_and_file, path_in, profile_in, with_option_first, flag_of}
use Rattle.pf_script.specs.Word.{begins_with_dash, define_of, defined, file_of, is_macro_name, is_session_byte, is_short, level_of, most_value, name_in, path_of, session_of, value_in}
use Rattle.pf_script.specs.declared.command.LoadLine.{LoadLine}
use Rattle.pf_script.specs.declared.given.Given.{Given}
use Rattle.pf_script.specs.declared.keyword.Flag.{Flag}
use Rattle.pf_script.specs.declared.keyword.Flag.TheVariants as flags
use Rattle.pf_script.proofs.Keywords.{flag_back, flag_said, level_back, level_said}

-- what a mapped value came from
pub map_some : {A B : Type 0} (f : A → B) (o : Option A) (b : B) → option_map f o ≡ Some b → (a : A) × (o ≡ Some a) × (f a ≡ b)
map_some f None b h = cc
map_some f (Some a) b h = (a, refl, cc)

-- a value that is there where a test passes
pub cond_some : {A : Type 0} (b : Bool) (a c : A) → cond b (Some a) None ≡ Some c → (b ≡ true) × (a ≡ c)
cond_some true a c h = (refl, cc)
cond_some false a c h = cc

pub both : (a b : Bool) → a ≡ true → b ≡ true → (a && b) ≡ true
both a b h k = rw (h, k) refl

-- FILE
pub file_back : (word file : List ℕ) → file_of word ≡ Some file → IsFileWord word × (word ≡ file)
file_back word file h = by_dash (begins_with_dash word) h
  where
    by_dash : (b : Bool) → cond b None (Some word) ≡ Some file → (b ≡ false) × (word ≡ file)
    by_dash true h = cc
    by_dash false h = (refl, cc)

pub file_said : (word : List ℕ) → IsFileWord word → file_of word ≡ Some word
file_said word h = rw h refl

-- SESSION
pub session_back : (word name : List ℕ) → session_of word ≡ Some name → IsSessionWord word × (word ≡ name)
session_back word name h =
    let k = cond_some (list_all is_session_byte word && is_short word) word name h in
    (record { bytes = first_so (list_all is_session_byte word) (is_short word) k.0; short = second_so (list_all is_session_byte word) (is_short word) k.0 }, k.1)

pub session_said : (word : List ℕ) → IsSessionWord word → session_of word ≡ Some word
session_said word h = rw (h.bytes, h.short) refl

-- NAME=VALUE
joined : (word value : List ℕ) → value_in word ≡ Some value → word ≡ name_in word ++ 61 ∷ value
joined [] value h = cc
joined (byte ∷ bytes) value h =
    elim (byte == 61) as (λ b. (byte == 61) ≡ b → cond b (Some bytes) (value_in bytes) ≡ Some value → byte ∷ bytes ≡ cond b [] (byte ∷ name_in bytes) ++ 61 ∷ value) [
      | true ↦ λ e k. let same : byte ≡ 61 = eqb-true byte 61 e in let rest : bytes ≡ value = cc in cc
      | false ↦ λ e k. ap (λ others. byte ∷ others) (joined bytes value k)
    ] refl h

no_equals : (byte : ℕ) → is_name_byte byte ≡ true → (byte == 61) ≡ false
unfolding is_name_byte
no_equals byte h =
    elim (byte == 61) as (λ b. (byte == 61) ≡ b → b ≡ false) [
      | true ↦ λ e. absurd (false≢true (subst (λ (n : ℕ). is_name_byte n ≡ true) (eqb-true byte 61 e) h))
      | false ↦ λ e. refl
    ] refl

parted : (name value : List ℕ) → list_all is_name_byte name ≡ true → (name_in (name ++ 61 ∷ value) ≡ name) × (value_in (name ++ 61 ∷ value) ≡ Some value)
parted [] value h = (refl, refl)
parted (byte ∷ name) value h =
    let no : (byte == 61) ≡ false = no_equals byte (first_so (is_name_byte byte) (list_all is_name_byte name) h) in
    let rest = parted name value (second_so (is_name_byte byte) (list_all is_name_byte name) h) in
    rw no (ap (λ bytes. byte ∷ bytes) rest.0, rest.1)

define_back : (word : List ℕ) (define : Define) → define_of word ≡ Some define → IsDefineWord word define
define_back word define h = by_value (value_in word) refl h
  where
    by_value : (value : Option (List ℕ)) → value_in word ≡ value → defined (name_in word) value ≡ Some define → IsDefineWord word define
    by_value None e k = cc
    by_value (Some value) e k =
        let named = is_macro_name (name_in word) in
        let fits = nat_le (length value) most_value in
        let found : Define = record { name = name_in word; value = value } in
        let m = cond_some (named && fits) found define k in
        let is_named = first_so named fits m.0 in
        let is_name : IsDefineWord word found = record {
          spelled = joined word value e;
          bytes = first_so (list_all is_name_byte (name_in word)) (is_short (name_in word)) is_named;
          short = second_so (list_all is_name_byte (name_in word)) (is_short (name_in word)) is_named;
          fits = (let t = second_so named fits m.0 in grind (arith, nat_tests, t));
        } in
        subst (IsDefineWord word) m.1 is_name

define_said : (word : List ℕ) (define : Define) → IsDefineWord word define → define_of word ≡ Some define
define_said word define h =
    let parts = parted define.name define.value h.bytes in
    let fits : nat_le (length define.value) most_value ≡ true = (let t = h.fits in grind (arith, nat_tests, t)) in
    ap define_of h.spelled ∙ rw (parts.0, parts.1, h.bytes, h.short, fits) refl

-- one option
moved : {o p : LineOption} {a b c d : List ℕ} → o ≡ p → a ≡ b → c ≡ d → SpellsOption o b d → SpellsOption p a c
moved {o} {p} {a} {b} {c} {d} e f g h =
    subst (λ (option : LineOption). SpellsOption option a c) e (subst (λ (word : List ℕ). SpellsOption o word c) (sym f) (subst (λ (word : List ℕ). SpellsOption o b word) (sym g) h))

option_by : (word value : List ℕ) (option : LineOption) (flag : Option Flag) → flag_of word ≡ flag → option_with flag value ≡ Some option → SpellsOption option word value
option_by word value option None e h = cc
option_by word value option (Some flags.Level) e h =
    let m = map_some (λ level. Optimises level) (level_of value) option h in
    moved m.2 (flag_back word flags.Level e) (level_back value m.0 m.1) (optimises m.0)
option_by word value option (Some flags.Path) e h =
    let m = map_some (λ path. Fills path) (path_of false value) option h in
    moved m.2 (flag_back word flags.Path e) refl (fills m.0 value m.1)
option_by word value option (Some flags.Profile) e h =
    let m = map_some (λ file. Weighs file) (file_of value) option h in
    let file = file_back value m.0 m.1 in
    moved (ap Weighs file.1 ∙ m.2) (flag_back word flags.Profile e) refl (weighs value file.0)
option_by word value option (Some flags.Define) e h =
    let m = map_some (λ define. Defines define) (define_of value) option h in
    moved m.2 (flag_back word flags.Define e) refl (defines m.0 value (define_back value m.0 m.1))

option_said : (option : LineOption) (word value : List ℕ) → SpellsOption option word value → option_of word value ≡ Some option
option_said option word value (optimises level) = rw (flag_said flags.Level, level_said level) refl
option_said option word value (fills path text h) = rw (flag_said flags.Path, h) refl
option_said option word value (weighs file h) = rw (flag_said flags.Profile, file_said file h) refl
option_said option word value (defines define text h) = rw (flag_said flags.Define, define_said text define h) refl

-- options and the file behind them
first_back : (option : Option LineOption) (others : Option OptionsAndFile) (words : OptionsAndFile) → with_option_first option others ≡ Some words
    → (o : LineOption) × (rest : OptionsAndFile) × (option ≡ Some o) × (others ≡ Some rest) × (record { options = o ∷ rest.options; file = rest.file } ≡ words)
first_back None others words h = cc
first_back (Some option) None words h = cc
first_back (Some option) (Some others) words h = (option, others, refl, refl, cc)

alone_back : (file : Option (List ℕ)) (words : OptionsAndFile) → file_alone file ≡ Some words → (name : List ℕ) × (file ≡ Some name) × (record { options = []; file = name } ≡ words)
alone_back None words h = cc
alone_back (Some name) words h = (name, refl, cc)

SpellsBoth : OptionsAndFile → Words → Type 0
SpellsBoth both words = SpellsOptions both.options both.file words

options_back : (words : Words) (found : OptionsAndFile) → options_and_file words ≡ Some found → SpellsBoth found words
unfolding SpellsBoth
options_back [] found h = cc
options_back (word ∷ []) found h =
    let m = alone_back (file_of word) found h in
    let file = file_back word m.0 m.1 in
    let spelled : SpellsBoth (record { options = []; file = m.0 }) (word ∷ []) =
    subst (λ (name : List ℕ). SpellsOptions [] name (word ∷ [])) file.1 (file_behind word file.0) in
    subst (λ (both : OptionsAndFile). SpellsBoth both (word ∷ [])) m.2 spelled
options_back (flag ∷ value ∷ words) found h =
    let m = first_back (option_of flag value) (options_and_file words) found h in
    let spelled : SpellsBoth (record { options = m.0 ∷ m.1.options; file = m.1.file }) (flag ∷ value ∷ words) =
    option_first m.0 m.1.options m.1.file flag value words (option_by flag value m.0 (flag_of flag) refl m.2) (options_back words m.1 m.3) in
    subst (λ (both : OptionsAndFile). SpellsBoth both (flag ∷ value ∷ words)) m.4 spelled

options_said : (options : List LineOption) (file : List ℕ) (words : Words) → SpellsOptions options file words → options_and_file words ≡ Some (record { options = options; file = file })
options_said options file words (file_behind name h) = rw (file_said name h) refl
options_said options file words (option_first option others name flag value rest h k) =
    rw (option_said option flag value h, options_said others name rest k) refl

-- what they say together
one_back : {A : Type 0} (items : List A) (one : Option A) → at_most_one items ≡ Some one → items ≡ option_to_list one
one_back [] one h = let e : None ≡ one = cc in ap option_to_list e
one_back (a ∷ []) one h = let e : Some a ≡ one = cc in ap option_to_list e
one_back (a ∷ b ∷ others) one h = cc

one_said : {A : Type 0} (items : List A) (one : Option A) → items ≡ option_to_list one → at_most_one items ≡ Some one
one_said items None h = ap at_most_one h
one_said items (Some a) h = ap at_most_one h

path_back : (paths : List (List (List ℕ))) (one : Option (List (List ℕ))) → paths ≡ option_to_list one → FillsPath (unwrap_or one []) paths
path_back paths None h = subst (FillsPath []) (sym h) (main refl)
path_back paths (Some path) h = subst (FillsPath path) (sym h) given

path_said : (path : List (List ℕ)) (paths : List (List (List ℕ))) → FillsPath path paths → (one : Option (List (List ℕ))) × (at_most_one paths ≡ Some one) × (unwrap_or one [] ≡ path)
path_said path paths (main h) = (None, refl, sym h)
path_said path paths given = (Some path, refl, refl)

together_back : (level : Option (Option Level)) (path : Option (Option (List (List ℕ)))) (profile : Option (Option (List ℕ))) (macros : Option (List Define)) (found : Given) → given_together level path profile macros ≡ Some found
    → (level ≡ Some found.level) × (path ≡ Some found.path) × (profile ≡ Some found.profile) × (macros ≡ Some found.defines)
together_back None path profile macros found h = cc
together_back (Some level) None profile macros found h = cc
together_back (Some level) (Some path) None macros found h = cc
together_back (Some level) (Some path) (Some profile) None found h = cc
together_back (Some level) (Some path) (Some profile) (Some macros) found h =
    let e : record { level = level; path = path; profile = profile; defines = macros } ≡ found = cc in
    (ap (λ (g : Given). Some g.level) e, ap (λ (g : Given). Some g.path) e, ap (λ (g : Given). Some g.profile) e, ap (λ (g : Given). Some g.defines) e)

pub load_back : (words : Words) (line : LoadLine) → load_line_of words ≡ Some line → SpellsLoad line words
unfolding load_line_of given_by
load_back words line h = by_words (options_and_file words) refl h
  where
    by_words : (found : Option OptionsAndFile) → options_and_file words ≡ found → load_line_by found ≡ Some line → SpellsLoad line words
    by_words None e k = cc
    by_words (Some both) e k =
        let m = map_some (line_with both.file) (given_by both.options) line k in
        let parts = together_back (at_most_one (filter_map level_in both.options)) (at_most_one (filter_map path_in both.options)) (at_most_one (filter_map profile_in both.options)) (fitting (filter_map define_in both.options)) m.0 m.1 in
        let macros = filter_map define_in both.options in
        let fit = cond_some (nat_le (length macros) most_defines && are_different macros) macros m.0.defines parts.3 in
        let few = first_so (nat_le (length macros) most_defines) (are_different macros) fit.0 in
        let spelled : SpellsLoad (line_with both.file m.0) words = record {
          options = both.options;
          spelled = unfold SpellsBoth in options_back words both e;
          level = one_back (filter_map level_in both.options) m.0.level parts.0;
          path = path_back (filter_map path_in both.options) m.0.path (one_back (filter_map path_in both.options) m.0.path parts.1);
          profile = one_back (filter_map profile_in both.options) m.0.profile parts.2;
          defines = fit.1;
          few = subst (λ (ds : List Define). length ds ≤ most_defines) fit.1 (grind (arith, nat_tests, few));
          different = subst (λ (ds : List Define). are_different ds ≡ true) fit.1 (second_so (nat_le (length macros) most_defines) (are_different macros) fit.0);
        } in
        subst (λ (l : LoadLine). SpellsLoad l words) m.2 spelled

fit_said : (found macros : List Define) → found ≡ macros → length macros ≤ most_defines → are_different macros ≡ true → fitting found ≡ Some macros
fit_said found macros e few different =
    let fits : nat_le (length macros) most_defines ≡ true = grind (arith, nat_tests, few) in
    ap fitting e ∙ rw (fits, different) refl

pub load_said : (words : Words) (line : LoadLine) → SpellsLoad line words → load_line_of words ≡ Some line
unfolding load_line_of given_by
load_said words line h =
    let path = path_said line.path (filter_map path_in h.options) h.path in
    rw (options_said h.options line.file words h.spelled, one_said (filter_map level_in h.options) line.level h.level, path.1, one_said (filter_map profile_in h.options) line.profile h.profile, fit_said (filter_map define_in h.options) line.defines h.defines h.few h.different)
    (ap (λ (p : List (List ℕ)). Some (record line { path = p })) path.2)
