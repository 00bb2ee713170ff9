-- Options laid one on another are what they say together.
use Rattle.std.proofs.Common.{◌≡◌, ℕ, ◌+◌, Bool, true, false, not, ◌&&◌, ◌||◌, cond, nat_lt, nat_le, List, [], ◌∷◌, ◌++◌, length, Option, Some, None, refl, sym, ap, ◌∙◌, arith, append_assoc}
use Rattle.std.specs.List.{filter_map}
use Rattle.std.specs.Option.{option_and_then, option_map}
use Rattle.std.specs.Str.{bytes_eq}
use Rattle.std.proofs.lemmas.Bool.{false≢true}
use Rattle.std.proofs.lemmas.Bool.Decides.{nat_tests}
use Rattle.std.proofs.lemmas.Cmp.{nat_list_eq_equiv}
use Rattle.std.proofs.lemmas.List.{length_push}
use Rattle.std.proofs.lemmas.List.Elements.{filter_map-append}
use Rattle.std.proofs.lemmas.List.Folds.{list_any-append}
use Rattle.pf_base.specs.declared.kind.Level.{Level}
use Rattle.pf_token.specs.declared.macros.Define.{Define}
use Rattle.pf_script.specs.Laying.{laid_on, nothing_given, where_laid, with_define, with_level, with_option, with_path, with_profile}
use Rattle.pf_script.specs.Options.{Defines, Fills, LineOption, Optimises, OptionsAndFile, Weighs, are_different, at_most_one, define_in, fitting, given_by, given_together, has_name, level_in, line_with, load_line_by, most_defines, option_of, options_and_file, path_in, profile_in, with_option_first}
use Rattle.pf_script.specs.declared.command.LoadLine.{LoadLine}
use Rattle.pf_script.specs.declared.given.Given.{Given}

-- one more than at most one
once_more : {A : Type 0} → Option (Option A) → A → Option (Option A)
once_more (Some None) a = Some (Some a)
once_more (Some (Some b)) a = None
once_more None a = None

one_more : {A : Type 0} (items : List A) (a : A) → at_most_one (items ++ a ∷ []) ≡ once_more (at_most_one items) a
unfolding once_more
one_more [] a = refl
one_more (b ∷ []) a = refl
one_more (b ∷ c ∷ others) a = refl

-- one macro more
fit_more : Define → List Define → Option (List Define)
fit_more define defines =
    cond (nat_lt (length defines) most_defines && not (has_name define.name defines)) (Some (defines ++ define ∷ [])) None

rearranged : (a e d h : Bool) → (not (a || (e || false)) && (d && not h)) ≡ ((not a && d) && not (e || h))
rearranged true e d h = refl
rearranged false true true h = refl
rearranged false true false h = refl
rearranged false false d h = refl

different_more : (defines : List Define) (define : Define) → are_different (defines ++ define ∷ []) ≡ (are_different defines && not (has_name define.name defines))
different_more [] define = refl
different_more (first ∷ defines) define =
    let any = list_any-append (λ (other : Define). bytes_eq first.name other.name) defines (define ∷ []) in
    let same : bytes_eq first.name define.name ≡ bytes_eq define.name first.name = nat_list_eq_equiv.symm first.name define.name in
    rw (any, different_more defines define, same) (rearranged (has_name first.name defines) (bytes_eq define.name first.name) (are_different defines) (has_name define.name defines))

picked : {X : Type 0} (a l b h : Bool) (more : Option X) → (l ≡ true → a ≡ true) → cond (l && (b && not h)) more None ≡ cond (a && b) (cond (l && not h) more None) None
picked true true true h more fits = refl
picked true true false h more fits = refl
picked true false true h more fits = refl
picked true false false h more fits = refl
picked false true b h more fits = absurd (false≢true (fits refl))
picked false false b h more fits = refl

then_cond : {X Y : Type 0} (b : Bool) (x : X) (f : X → Option Y) → option_and_then f (cond b (Some x) None) ≡ cond b (f x) None
then_cond true x f = refl
then_cond false x f = refl

room_for : (n : ℕ) → nat_lt n most_defines ≡ true → nat_le n most_defines ≡ true
room_for n h = grind (arith, nat_tests)

room_more : (n : ℕ) → nat_le (n + 1) most_defines ≡ nat_lt n most_defines
room_more n = grind (arith, nat_tests)

fitting_more : (defines : List Define) (define : Define) → fitting (defines ++ define ∷ []) ≡ option_and_then (fit_more define) (fitting defines)
unfolding fit_more
fitting_more defines define =
    let n = length defines in
    let both = are_different defines in
    rw (length_push defines define, room_more n, different_more defines define)
    (picked (nat_le n most_defines) (nat_lt n most_defines) both (has_name define.name defines) (Some (defines ++ define ∷ [])) (room_for n)
    ∙ sym (then_cond (nat_le n most_defines && both) defines (fit_more define)))

-- one option more of each kind
together_level : (level : Level) (a : Option (Option Level)) (b : Option (Option (List (List ℕ)))) (c : Option (Option (List ℕ))) (d : Option (List Define)) → given_together (once_more a level) b c d ≡ option_and_then (λ g. with_level g level) (given_together a b c d)
unfolding once_more
together_level level None b c d = refl
together_level level (Some None) None c d = refl
together_level level (Some None) (Some b) None d = refl
together_level level (Some None) (Some b) (Some c) None = refl
together_level level (Some None) (Some b) (Some c) (Some d) = refl
together_level level (Some (Some a)) None c d = refl
together_level level (Some (Some a)) (Some b) None d = refl
together_level level (Some (Some a)) (Some b) (Some c) None = refl
together_level level (Some (Some a)) (Some b) (Some c) (Some d) = refl

together_path : (path : List (List ℕ)) (a : Option (Option Level)) (b : Option (Option (List (List ℕ)))) (c : Option (Option (List ℕ))) (d : Option (List Define)) → given_together a (once_more b path) c d ≡ option_and_then (λ g. with_path g path) (given_together a b c d)
unfolding once_more
together_path path None b c d = refl
together_path path (Some a) None c d = refl
together_path path (Some a) (Some None) None d = refl
together_path path (Some a) (Some None) (Some c) None = refl
together_path path (Some a) (Some None) (Some c) (Some d) = refl
together_path path (Some a) (Some (Some b)) None d = refl
together_path path (Some a) (Some (Some b)) (Some c) None = refl
together_path path (Some a) (Some (Some b)) (Some c) (Some d) = refl

together_profile : (file : List ℕ) (a : Option (Option Level)) (b : Option (Option (List (List ℕ)))) (c : Option (Option (List ℕ))) (d : Option (List Define)) → given_together a b (once_more c file) d ≡ option_and_then (λ g. with_profile g file) (given_together a b c d)
unfolding once_more
together_profile file None b c d = refl
together_profile file (Some a) None c d = refl
together_profile file (Some a) (Some b) None d = refl
together_profile file (Some a) (Some b) (Some None) None = refl
together_profile file (Some a) (Some b) (Some None) (Some d) = refl
together_profile file (Some a) (Some b) (Some (Some c)) None = refl
together_profile file (Some a) (Some b) (Some (Some c)) (Some d) = refl

defined_together : (define : Define) (a : Option Level) (b : Option (List (List ℕ))) (c : Option (List ℕ)) (defines : List Define) (room : Bool) → given_together (Some a) (Some b) (Some c) (cond room (Some (defines ++ define ∷ [])) None) ≡ cond room (Some (record { level = a; path = b; profile = c; defines = defines ++ define ∷ [] })) None
defined_together define a b c defines true = refl
defined_together define a b c defines false = refl

together_define : (define : Define) (a : Option (Option Level)) (b : Option (Option (List (List ℕ)))) (c : Option (Option (List ℕ))) (d : Option (List Define)) → given_together a b c (option_and_then (fit_more define) d) ≡ option_and_then (λ g. with_define g define) (given_together a b c d)
unfolding fit_more
together_define define None b c d = refl
together_define define (Some a) None c d = refl
together_define define (Some a) (Some b) None d = refl
together_define define (Some a) (Some b) (Some c) None = refl
together_define define (Some a) (Some b) (Some c) (Some defines) =
    defined_together define a b c defines (nat_lt (length defines) most_defines && not (has_name define.name defines))

none_more : {A : Type 0} (items : List A) → items ++ [] ≡ items
none_more [] = refl
none_more (a ∷ items) = ap (λ others. a ∷ others) (none_more items)

-- of which an option says nothing, that stays
stays : {A : Type 0} (pick : LineOption → Option A) (front : List LineOption) (option : LineOption) → pick option ≡ None → filter_map pick (front ++ option ∷ []) ≡ filter_map pick front
stays pick front option none = filter_map-append pick front (option ∷ []) ∙ rw none (none_more (filter_map pick front))

grows : {A : Type 0} (pick : LineOption → Option A) (front : List LineOption) (option : LineOption) (a : A) → pick option ≡ Some a → filter_map pick (front ++ option ∷ []) ≡ filter_map pick front ++ a ∷ []
grows pick front option a some = filter_map-append pick front (option ∷ []) ∙ rw some refl

given_more : (front : List LineOption) (option : LineOption) → given_by (front ++ option ∷ []) ≡ option_and_then (λ g. with_option g option) (given_by front)
unfolding given_by
given_more front (Optimises level) =
    let o = Optimises level in
    rw (grows level_in front o level refl, one_more (filter_map level_in front) level, stays path_in front o refl, stays profile_in front o refl, stays define_in front o refl)
    (together_level level (at_most_one (filter_map level_in front)) (at_most_one (filter_map path_in front)) (at_most_one (filter_map profile_in front)) (fitting (filter_map define_in front)))
given_more front (Fills path) =
    let o = Fills path in
    rw (grows path_in front o path refl, one_more (filter_map path_in front) path, stays level_in front o refl, stays profile_in front o refl, stays define_in front o refl)
    (together_path path (at_most_one (filter_map level_in front)) (at_most_one (filter_map path_in front)) (at_most_one (filter_map profile_in front)) (fitting (filter_map define_in front)))
given_more front (Weighs file) =
    let o = Weighs file in
    rw (grows profile_in front o file refl, one_more (filter_map profile_in front) file, stays level_in front o refl, stays path_in front o refl, stays define_in front o refl)
    (together_profile file (at_most_one (filter_map level_in front)) (at_most_one (filter_map path_in front)) (at_most_one (filter_map profile_in front)) (fitting (filter_map define_in front)))
given_more front (Defines define) =
    let o = Defines define in
    rw (grows define_in front o define refl, fitting_more (filter_map define_in front) define, stays level_in front o refl, stays path_in front o refl, stays profile_in front o refl)
    (together_define define (at_most_one (filter_map level_in front)) (at_most_one (filter_map path_in front)) (at_most_one (filter_map profile_in front)) (fitting (filter_map define_in front)))

-- options laid one after the other on what is given
abbrev pub laid : Option Given → List LineOption → Option Given
laid given [] = given
laid given (option ∷ options) = laid (option_and_then (λ g. with_option g option) given) options

laid_behind : (front options : List LineOption) → given_by (front ++ options) ≡ laid (given_by front) options
laid_behind front [] = ap given_by (none_more front)
laid_behind front (option ∷ options) =
    ap given_by (sym (append_assoc front (option ∷ []) options))
    ∙ (laid_behind (front ++ option ∷ []) options ∙ ap (λ (given : Option Given). laid given options) (given_more front option))

-- where nothing can be laid on, nothing is given
lost : (options : List LineOption) → laid None options ≡ None
lost [] = refl
lost (option ∷ options) = lost options

-- the line that options and a file give, laid on what is given already
abbrev pub line_on : Given → Option OptionsAndFile → Option LoadLine
line_on given None = None
line_on given (Some words) = option_map (line_with words.file) (laid (Some given) words.options)

opens : given_by [] ≡ Some nothing_given
unfolding given_by
opens = refl

pub begins : (words : Option OptionsAndFile) → load_line_by words ≡ line_on nothing_given words
begins None = refl
begins (Some words) =
    ap (option_map (line_with words.file)) (laid_behind [] words.options ∙ ap (λ (given : Option Given). laid given words.options) opens)

pub goes_on : (given next : Given) (option : Option LineOption) (others : Option OptionsAndFile) → laid_on given option ≡ Some next → line_on given (with_option_first option others) ≡ line_on next others
goes_on given next None others h = cc
goes_on given next (Some option) None h = refl
goes_on given next (Some option) (Some others) h = ap (λ (g : Option Given). option_map (line_with others.file) (laid g others.options)) h

pub stops : (given : Given) (option : Option LineOption) (others : Option OptionsAndFile) → laid_on given option ≡ None → line_on given (with_option_first option others) ≡ None
stops given None others h = refl
stops given (Some option) None h = refl
stops given (Some option) (Some others) h =
    ap (λ (g : Option Given). option_map (line_with others.file) (laid g others.options)) h ∙ ap (option_map (line_with others.file)) (lost others.options)

module _ (line : Option LoadLine) (given next : Given) (words one rest : List (List ℕ)) (word value : List ℕ) (laid_now : Bool) (so_far : line ≡ line_on given (options_and_file words)) (first : words ≡ word ∷ one) (second : one ≡ value ∷ rest) (added : laid_on given (option_of word value) ≡ where_laid laid_now next) where
  taken : line ≡ line_on given (with_option_first (option_of word value) (options_and_file rest))
  taken = so_far ∙ ap (λ (ws : List (List ℕ)). line_on given (options_and_file ws)) (first ∙ ap (λ (ws : List (List ℕ)). word ∷ ws) second)

  -- an option that may not stand
  pub read_stop : laid_now ≡ false → None ≡ line
  read_stop isnt = sym (taken ∙ stops given (option_of word value) (options_and_file rest) (added ∙ ap (λ (b : Bool). where_laid b next) isnt))

  -- an option that is laid on
  pub read_on : laid_now ≡ true → line ≡ line_on next (options_and_file rest)
  read_on is = taken ∙ goes_on given next (option_of word value) (options_and_file rest) (added ∙ ap (λ (b : Bool). where_laid b next) is)
