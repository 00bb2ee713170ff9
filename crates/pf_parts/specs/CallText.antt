-- The text of an anchor rule's call (pf.conf(5), ANCHORS): pieces with `/` between them. A piece `..` at the front goes one
-- ruleset up, nothing before a first `/` means the main ruleset, `*` at the end means each ruleset right below, and the
-- other pieces are names.
use Rattle.std.specs.Prelude.{◌≡◌, ℕ, zero, suc, ◌-◌, ◌*◌, ◌≤◌, ◌⊎◌, Bool, true, false, not, ◌==◌, nat_le, nat_lt, ◌&&◌, List, [], ◌∷◌, ◌++◌, drop, length, take, Result, Ok, Err, if◌then◌else◌, codes}
use Rattle.std.specs.List.{join_with_byte, list_all, slice_split}
use Rattle.std.specs.Str.{bytes_eq}
use Rattle.pf_base.specs.Path.{is_slash, is_written_name, names_fault, path_of_names}
use Rattle.pf_base.specs.Text.{is_nothing}
use Rattle.pf_base.specs.declared.path_fault.PathFault.{PathFault}
use Rattle.pf_base.specs.declared.path_fault.PathFault.TheVariants.{TooDeep}
use Rattle.pf_parts.specs.declared.call.Base.{Base}
use Rattle.pf_parts.specs.declared.call.Base.TheVariants.{Below, Up, Root}
use Rattle.pf_parts.specs.declared.call.Call.{Call}

abbrev pub call_of : Base → List (List ℕ) → Bool → Call
call_of base names children = record { base = base; path = names; children = children }

-- `..` so many times
abbrev pub climb : ℕ → List (List ℕ)
climb zero = []
climb (suc n) = codes ".." ∷ climb n

-- the pieces that say where the names begin
abbrev pub base_pieces : Base → List (List ℕ)
base_pieces Below = []
base_pieces (Up n) = climb n
base_pieces Root = [] ∷ []

-- the piece that calls the rulesets right below
abbrev pub last_pieces : Bool → List (List ℕ)
last_pieces true = codes "*" ∷ []
last_pieces false = []

-- the main ruleset itself is called, of which no piece stands behind the `/`
abbrev pub is_main : Base → List (List ℕ) → Bool → Bool
is_main Root [] false = true
is_main Root [] true = false
is_main Root (name ∷ names) children = false
is_main Below names children = false
is_main (Up n) names children = false

-- the pieces of a call's text
abbrev pub call_pieces : Call → List (List ℕ)
call_pieces call = base_pieces call.base ++ (call.path ++ last_pieces call.children)

-- the text that is printed of a call
unfoldable pub call_text : Call → List ℕ
call_text call =
    if is_main call.base call.path call.children then codes "/" else join_with_byte 47 (call_pieces call)

-- one to eight `..`
abbrev pub is_base : Base → Bool
is_base Below = true
is_base (Up n) = nat_le 1 n && nat_le n 8
is_base Root = true

-- a call without a piece calls the rule's own ruleset, and has no text
abbrev pub is_own : Base → List (List ℕ) → Bool → Bool
is_own Below [] children = not children
is_own Below (name ∷ names) children = false
is_own (Up n) names children = false
is_own Root names children = false

-- a call that has a text which says it: no name is one of an anchor without a name
pub record IsCall (call : Call) : Type 0 where
  pub based : is_base call.base ≡ true
  pub few : length call.path ≤ 8
  pub named : list_all (is_written_name false) call.path ≡ true
  pub said : is_own call.base call.path call.children ≡ false

-- a text of this call: the printed one, and for the rulesets below the main one also its `/` with `/*` behind it
pub record IsCallText (call : Call) (text : List ℕ) : Type 0 where
  pub sayable : IsCall call
  pub written : (text ≡ call_text call) ⊎ ((call ≡ call_of Root [] true) × (text ≡ codes "//*"))

-- how many `..` stand in front
abbrev pub ups : List (List ℕ) → ℕ
ups [] = 0
ups (piece ∷ pieces) = if bytes_eq piece (codes "..") then suc (ups pieces) else 0

-- so many rulesets up, at most 8
abbrev pub base_up : ℕ → Result Base PathFault
base_up n = if n == 0 then Ok Below else if nat_lt 8 n then Err (TooDeep n) else Ok (Up n)

-- the path of names in a row, of which the first begins at a position of the text, or their first fault
abbrev pub path_at : ℕ → List (List ℕ) → Result (List (List ℕ)) PathFault
path_at start names = path_of_names (names_fault false start names) names

-- a fault of the names comes before that of too many `..`
abbrev pub call_from : Result (List (List ℕ)) PathFault → Result Base PathFault → Bool → Result Call PathFault
call_from (Err fault) base children = Err fault
call_from (Ok names) (Err fault) children = Err fault
call_from (Ok names) (Ok base) children = Ok (call_of base names children)

-- pieces of which the first ones go up; each of these takes three bytes of the text with its `/`
unfoldable pub read_pieces : List (List ℕ) → Bool → Result Call PathFault
read_pieces pieces children =
    call_from (path_at (3 * ups pieces) (drop (ups pieces) pieces)) (base_up (ups pieces)) children

-- what stands behind a first `/`
unfoldable pub read_root : List ℕ → Bool → Result Call PathFault
read_root rest children =
    if is_nothing rest then Ok (call_of Root [] children)
    else call_from (path_at 1 (slice_split is_slash rest)) (Ok Root) children

-- a text before the `/*` at its end, if any
unfoldable pub read_front : List ℕ → Bool → Result Call PathFault
read_front [] children = read_pieces ([] ∷ []) children
read_front (byte ∷ rest) children =
    if is_slash byte then read_root rest children else read_pieces (slice_split is_slash (byte ∷ rest)) children

-- the text's last two bytes are `/*`
abbrev pub ends_below : List ℕ → Bool
ends_below text = bytes_eq (drop (length text - 2) text) (codes "/*")

-- what a text is read as; `//*` is the main ruleset's `/` with `/*` behind it
unfoldable pub read_call : List ℕ → Result Call PathFault
read_call text =
    if bytes_eq text (codes "*") then Ok (call_of Below [] true)
    else if bytes_eq text (codes "/*") then Ok (call_of Root [] true)
    else if ends_below text then read_front (take (length text - 2) text) true
    else read_front text false
