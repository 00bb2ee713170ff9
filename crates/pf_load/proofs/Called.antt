-- The name of a body, or of a file's anchor, leads below the ruleset in which it stands.
use Rattle.std.proofs.Common.{◌≡◌, ℕ, zero, suc, ◌+◌, ◌*◌, ◌<◌, Bool, true, false, List, [], ◌∷◌, ◌++◌, length, drop, take, Option, Some, None, Result, Ok, Err, refl, sym, ap, ◌∙◌, subst, arith}
use Rattle.std.specs.Prelude.{◌-◌, ◌==◌, nat_le, nat_lt, codes, if◌then◌else◌}
use Rattle.std.proofs.lemmas.Bool.{eqb-true}
use Rattle.std.specs.List.{slice_split}
use Rattle.std.specs.Str.{bytes_eq}
use Rattle.std.proofs.lemmas.List.Splits.{length-slice_split}
use Rattle.pf_base.specs.Path.{is_slash, names_fault, path_of_names}
use Rattle.pf_base.specs.Text.{is_nothing}
use Rattle.pf_base.specs.declared.path_fault.PathFault.{PathFault}
use Rattle.pf_base.specs.declared.path_fault.PathFault.TheVariants.{TooDeep}
use Rattle.pf_parts.specs.CallTarget.{target_of, within}
use Rattle.pf_parts.specs.CallText.{base_up, call_from, call_of as any_call, ends_below, path_at, read_call, read_front, read_pieces, read_root, ups}
use Rattle.pf_parts.specs.declared.call.Base.{Base}
use Rattle.pf_parts.specs.declared.call.Base.TheVariants.{Below, Up, Root}
use Rattle.pf_parts.specs.declared.call.Call.{Call}
use Rattle.pf_plan.specs.Anchors.{is_filled}
use Rattle.pf_plan.specs.declared.draft.Draft.{Draft}
use Rattle.pf_load.specs.Anchors.{call_in, call_of, called, filling, has_room, named_call, names_one, reach_of, unless_filled}
use Rattle.pf_load.specs.Paths.{IsBelow}
use Rattle.pf_load.specs.declared.reach.Reach.{Reach}
use Rattle.pf_load.specs.declared.reach.Reach.TheVariants.{Nowhere, Here, Into}

-- a call that names one ruleset below by its names alone has a name
abbrev pub HasName : Call → Type 0
HasName call = names_one call ≡ true → call.path ≡ [] → ⊥

abbrev ReadsWell : Result Call PathFault → Type 0
ReadsWell (Ok call) = HasName call
ReadsWell (Err fault) = Unit {0}

children_well : (names : Result (List (List ℕ)) PathFault) (base : Result Base PathFault) → ReadsWell (call_from names base true)
children_well (Err fault) base = tt
children_well (Ok names) (Err fault) = tt
children_well (Ok names) (Ok Below) = λ one none. absurd cc
children_well (Ok names) (Ok (Up n)) = λ one none. absurd cc
children_well (Ok names) (Ok Root) = λ one none. absurd cc

root_well : (names : Result (List (List ℕ)) PathFault) → ReadsWell (call_from names (Ok Root) false)
root_well (Err fault) = tt
root_well (Ok names) = λ one none. absurd cc

up_well : (names : Result (List (List ℕ)) PathFault) (deep : Bool) (n : ℕ) → ReadsWell (call_from names (if deep then Err (TooDeep n) else Ok (Up n)) false)
up_well (Err fault) deep n = tt
up_well (Ok names) true n = tt
up_well (Ok names) false n = λ one none. absurd cc

deep_well : (deep : Bool) (n : ℕ) (names : List (List ℕ)) → (names ≡ [] → ⊥) → ReadsWell (call_from (if deep then Err (TooDeep n) else Ok names) (Ok Below) false)
deep_well true n names some = tt
deep_well false n names some = λ one none. some none

named_well : (fault : Option PathFault) (names : List (List ℕ)) → (names ≡ [] → ⊥) → ReadsWell (call_from (path_of_names fault names) (Ok Below) false)
unfolding path_of_names
named_well (Some fault) names some = tt
named_well None names some = deep_well (nat_lt 8 (length names)) (length names) names some

pieces_by : (level : Bool) (n : ℕ) (pieces : List (List ℕ)) → (level ≡ true → n ≡ 0) → (pieces ≡ [] → ⊥)
    → ReadsWell (call_from (path_at (3 * n) (drop n pieces)) (if level then Ok Below else if nat_lt 8 n then Err (TooDeep n) else Ok (Up n)) false)
pieces_by true n pieces none some = named_well (names_fault false (3 * n) (drop n pieces)) (drop n pieces) (λ empty. some (ap (λ (m : ℕ). drop m pieces) (sym (none refl)) ∙ empty))
pieces_by false n pieces none some = up_well (path_at (3 * n) (drop n pieces)) (nat_lt 8 n) n

pieces_well : (pieces : List (List ℕ)) → (pieces ≡ [] → ⊥) → ReadsWell (read_pieces pieces false)
unfolding read_pieces
pieces_well pieces some = pieces_by (ups pieces == 0) (ups pieces) pieces (λ h. eqb-true (ups pieces) 0 h) some

split_some : (text : List ℕ) → slice_split is_slash text ≡ [] → ⊥
split_some text none = let long = length-slice_split is_slash text in let nothing : length (slice_split is_slash text) ≡ 0 = ap length none in omega arith

rest_well : (empty : Bool) (rest : List ℕ) (children : Bool) → ReadsWell (if empty then Ok (any_call Root [] children) else call_from (path_at 1 (slice_split is_slash rest)) (Ok Root) children)
rest_well true rest true = λ one none. absurd cc
rest_well true rest false = λ one none. absurd cc
rest_well false rest true = children_well (path_at 1 (slice_split is_slash rest)) (Ok Root)
rest_well false rest false = root_well (path_at 1 (slice_split is_slash rest))

read_root_well : (rest : List ℕ) (children : Bool) → ReadsWell (read_root rest children)
unfolding read_root
read_root_well rest children = rest_well (is_nothing rest) rest children

children_pieces : (pieces : List (List ℕ)) → ReadsWell (read_pieces pieces true)
unfolding read_pieces
children_pieces pieces = children_well (path_at (3 * ups pieces) (drop (ups pieces) pieces)) (base_up (ups pieces))

pieces_either : (pieces : List (List ℕ)) (children : Bool) → (pieces ≡ [] → ⊥) → ReadsWell (read_pieces pieces children)
pieces_either pieces true some = children_pieces pieces
pieces_either pieces false some = pieces_well pieces some

slash_well : (slash : Bool) (byte : ℕ) (rest : List ℕ) (children : Bool) → ReadsWell (if slash then read_root rest children else read_pieces (slice_split is_slash (byte ∷ rest)) children)
slash_well true byte rest children = read_root_well rest children
slash_well false byte rest children = pieces_either (slice_split is_slash (byte ∷ rest)) children (split_some (byte ∷ rest))

front_well : (text : List ℕ) (children : Bool) → ReadsWell (read_front text children)
unfolding read_front
front_well [] children = pieces_either ([] ∷ []) children (λ none. absurd cc)
front_well (byte ∷ rest) children = slash_well (is_slash byte) byte rest children

text_well : (star root below : Bool) (text : List ℕ) → ReadsWell (
    if star then Ok (any_call Below [] true)
    else if root then Ok (any_call Root [] true)
    else if below then read_front (take (length text - 2) text) true
    else read_front text false)
text_well true root below text = λ one none. absurd cc
text_well false true below text = λ one none. absurd cc
text_well false false true text = front_well (take (length text - 2) text) true
text_well false false false text = front_well text false

call_well : (text : List ℕ) → ReadsWell (read_call text)
unfolding read_call
call_well text = text_well (bytes_eq text (codes "*")) (bytes_eq text (codes "/*")) (ends_below text) text

in_read : (read : Result Call PathFault) → ReadsWell read → (call : Call) → call_in read ≡ Some call → HasName call
in_read (Ok other) well call is = let same : other ≡ call = cc in subst HasName same well
in_read (Err fault) well call is = absurd cc

named_has : (text : List ℕ) (call : Call) → named_call text ≡ Some call → HasName call
named_has text call is = in_read (read_call text) (call_well text) call is

-- what an anchor statement calls has a name, or calls no ruleset below by its names alone
call_has : (draft : Draft) (name : Option (List ℕ)) (call : Call) → call_of draft name ≡ Some call → HasName call
call_has draft None call is = λ one none. absurd (let path : call.path ≡ _ = ap path_in (sym is) in cc)
  where
    path_in : Option Call → List (List ℕ)
    path_in None = []
    path_in (Some other) = other.path
call_has draft (Some text) call is = named_has text call is

-- a name that leads into a ruleset leads below the ruleset in which it stands, into one that no other body or file fills
pub record LeadsBelow (draft : Draft) (path : List (List ℕ)) : Type 0 where
  pub names : List (List ℕ)
  pub some : names ≡ [] → ⊥
  pub is : path ≡ draft.here.own.path ++ names
  pub new : is_filled draft path ≡ false

in_within : (fits : Bool) (names path : List (List ℕ)) → ◌≡◌ {A = Option (List (List ℕ))} (if fits then Some names else None) (Some path) → path ≡ names
in_within true names path is = cc
in_within false names path is = absurd cc

below_target : (base : Base) (names : List (List ℕ)) (children : Bool) (at path : List (List ℕ)) → names_one (any_call base names children) ≡ true → target_of (any_call base names children) at ≡ Some path → path ≡ at ++ names
unfolding target_of
below_target Below names children at path one is = in_within (nat_le (length (at ++ names)) 8) (at ++ names) path is
below_target (Up n) names children at path one is = absurd cc
below_target Root names children at path one is = absurd cc

module _ (draft : Draft) (call : Call) (path : List (List ℕ)) (has : HasName call) (one : names_one call ≡ true) where
  unfilled : (other : List (List ℕ)) (filled : Bool) → target_of call draft.here.own.path ≡ Some other → is_filled draft other ≡ filled → (if filled then Nowhere else Into other) ≡ Into path → LeadsBelow draft path
  unfilled other true at full is = absurd cc
  unfilled other false at full is =
      let same : other ≡ path = cc in
      subst (LeadsBelow draft) same (record { names = call.path; some = has one; is = below_target call.base call.path call.children draft.here.own.path other one at; new = full })

  targeted : (target : Option (List (List ℕ))) → target_of call draft.here.own.path ≡ target → unless_filled draft target ≡ Into path → LeadsBelow draft path
  targeted None at is = absurd cc
  targeted (Some other) at is = unfilled other (is_filled draft other) at refl is

filling_leads : (draft : Draft) (call : Call) (path : List (List ℕ)) (one : Bool) → HasName call → names_one call ≡ one → (if one then unless_filled draft (target_of call draft.here.own.path) else Nowhere) ≡ Into path → LeadsBelow draft path
filling_leads draft call path true has one is = targeted draft call path has one (target_of call draft.here.own.path) refl is
filling_leads draft call path false has one is = absurd cc

called_here : (room : Bool) (path : List (List ℕ)) → (if room then Here else Nowhere) ≡ Into path → ⊥
called_here true path is = cc
called_here false path is = cc

reach_leads : (draft : Draft) (body : Bool) (called : Option Call) (path : List (List ℕ)) → ((call : Call) → called ≡ Some call → HasName call) → reach_of draft body called ≡ Into path → LeadsBelow draft path
reach_leads draft body None path has is = absurd cc
reach_leads draft false (Some call) path has is = absurd (called_here (has_room call.children (target_of call draft.here.own.path)) path is)
reach_leads draft true (Some call) path has is = filling_leads draft call path (names_one call) (has call refl) refl is

-- an anchor statement that leads into a ruleset leads below its own
pub anchor_leads : (draft : Draft) (body : Bool) (name : Option (List ℕ)) (path : List (List ℕ)) → reach_of draft body (call_of draft name) ≡ Into path → LeadsBelow draft path
anchor_leads draft body name path is = reach_leads draft body (call_of draft name) path (call_has draft name) is

-- and so does the load of a file into one
pub load_leads : (draft : Draft) (text : List ℕ) (path : List (List ℕ)) → reach_of draft true (named_call text) ≡ Into path → LeadsBelow draft path
load_leads draft text path is = reach_leads draft true (named_call text) path (named_has text) is
