-- Calls computed by their definitions.
use Rattle.std.proofs.Common.{◌≡◌, ℕ, Bool, true, false, List, [], ◌∷◌, lit<, refl}
use Rattle.std.specs.Prelude.{codes}
use Rattle.pf_base.specs.Path.{is_reserved}
use Rattle.pf_parts.specs.declared.call.Base.{Base}
use Rattle.pf_parts.specs.declared.call.Base.TheVariants.{Below, Root, Up}
use Rattle.pf_parts.specs.declared.call.Call.{Call}
use Rattle.pf_parts.specs.CallTarget.{target_of}
use Rattle.pf_calls.specs.declared.row.CallRow.{CallRow}
use Rattle.pf_calls.specs.Graph.{OnCycle}
use Rattle.pf_calls.specs.Calls.{called, graph_of}

abbrev call : Base → List (List ℕ) → Bool → Call
call base names children = record { base = base; path = names; children = children }

abbrev main : List (List ℕ)
main = []

abbrev a : List ℕ
a = codes "a"

abbrev b : List ℕ
b = codes "b"

abbrev nameless : List ℕ
nameless = codes "_1"

-- main, a, a/b and an anchor without a name
abbrev paths : List (List (List ℕ))
paths = main ∷ (nameless ∷ []) ∷ (a ∷ []) ∷ (a ∷ b ∷ []) ∷ []

-- `/` calls the main ruleset
to_main : called paths main (call Root [] false) ≡ main ∷ []
unfolding target_of
to_main = refl

-- `*` calls each child of main but the nameless one, not main itself, and nothing deeper
to_children : called paths main (call Below [] true) ≡ (a ∷ []) ∷ (a ∷ []) ∷ []
unfolding target_of is_reserved
to_children = refl

-- no ruleset is above main
above_main : called paths main (call (Up 1) [] false) ≡ []
unfolding target_of
above_main = refl

above_main_all : called paths main (call (Up 1) [] true) ≡ []
unfolding target_of
above_main_all = refl

-- `../*` in a calls the children of main, itself among them
beside : called paths (a ∷ []) (call (Up 1) [] true) ≡ (a ∷ []) ∷ (a ∷ []) ∷ []
unfolding target_of is_reserved
beside = refl

abbrev row : List (List ℕ) → List Call → CallRow
row path calls = record { path = path; calls = calls }

-- main calls itself
own : OnCycle (graph_of (row main (call Root [] false ∷ []) ∷ [])) main
unfolding target_of
own = record { more = 0; leads = (main, record { inside = refl; leads = (0, lit< tt, refl) }, refl) }
