-- What options say together, one laid on another.
use Rattle.std.specs.Prelude.{ℕ, Bool, true, false, not, ◌&&◌, List, [], ◌∷◌, ◌++◌, length, Option, Some, None, is_none, nat_lt, if◌then◌else◌}
use Rattle.std.specs.Option.{option_and_then}
use Rattle.pf_base.specs.declared.kind.Level.{Level}
use Rattle.pf_token.specs.declared.macros.Define.{Define}
use Rattle.pf_script.specs.Options.{Defines, Fills, LineOption, Optimises, Weighs, has_name, most_defines}
use Rattle.pf_script.specs.declared.given.Given.{Given}

abbrev pub nothing_given : Given
nothing_given = record { level = None; path = None; profile = None; defines = [] }

abbrev pub with_level : Given → Level → Option Given
with_level given level = if is_none given.level then Some (record given { level = Some level }) else None

abbrev pub with_path : Given → List (List ℕ) → Option Given
with_path given path = if is_none given.path then Some (record given { path = Some path }) else None

abbrev pub with_profile : Given → List ℕ → Option Given
with_profile given file = if is_none given.profile then Some (record given { profile = Some file }) else None

abbrev pub with_define : Given → Define → Option Given
with_define given define =
    if nat_lt (length given.defines) most_defines && not (has_name define.name given.defines)
    then Some (record given { defines = given.defines ++ define ∷ [] })
    else None

-- one option more, where it may stand
abbrev pub with_option : Given → LineOption → Option Given
with_option given (Optimises level) = with_level given level
with_option given (Fills path) = with_path given path
with_option given (Weighs file) = with_profile given file
with_option given (Defines define) = with_define given define

-- one option more, where its words are one
abbrev pub laid_on : Given → Option LineOption → Option Given
laid_on given option = option_and_then (with_option given) option

-- what is given now, where the option was laid on
abbrev pub where_laid : Bool → Given → Option Given
where_laid true given = Some given
where_laid false given = None
