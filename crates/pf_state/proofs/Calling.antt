-- The rows of a map of rulesets have its graph of calls.
use mathlib.Core.Path.{fun_ext}
use Rattle.std.proofs.Common.{◌≡◌, ℕ, ◌+◌, Bool, true, false, cond, List, [], ◌∷◌, map, length, Option, Some, None, refl, sym, ap, ◌∙◌}
use Rattle.std.specs.Prelude.{if◌then◌else◌}
use Rattle.std.specs.Option.{option_map, option_map_or}
use Rattle.std.specs.Ordering.{eq_by_cmp}
use Rattle.std.specs.FinMap as fin
use Rattle.std.specs.FinMap.{FinMap, find}
use Rattle.pf_calls.specs.Calls.{call_graph, calls_at, graph_of, path_eq, path_of, paths_of}
use Rattle.pf_calls.specs.Graph.{Graph}
use Rattle.pf_calls.specs.declared.row.CallRow.{CallRow}
use Rattle.pf_optim.specs.declared.node.Node.{Node}
use Rattle.pf_parts.specs.declared.call.Call.{Call}
use Rattle.pf_tree.specs.Order.{path_cmp}
use Rattle.pf_state.specs.Outlines.{AreOutlined, outline_of}
use Rattle.pf_state.specs.Rulesets.{Rulesets, calls_in, graph_in, written_in}
use Rattle.pf_state.specs.declared.outline.Outline.{Outline}
use Rattle.pf_state.proofs.Found.{ties}
use Rattle.pf_state.proofs.Mapped.{entries_over, over}

abbrev pub row_of : List (List ℕ) × Outline → CallRow
row_of e = record { path = e.0; calls = e.1.calls }

abbrev pub rows_of : List (List (List ℕ) × Outline) → List CallRow
rows_of entries = map row_of entries

pub paths_same : (es : List (List (List ℕ) × Outline)) → paths_of (rows_of es) ≡ map (λ e. e.0) es
paths_same [] = refl
paths_same (e ∷ es) = ap (λ paths. e.0 ∷ paths) (paths_same es)

abbrev calls_told : Option Outline → List Call
calls_told None = []
calls_told (Some outline) = outline.calls

chosen : (b : Bool) (x : Outline) (o : Option Outline) → (if b then x.calls else calls_told o) ≡ calls_told (cond b (Some x) o)
chosen true x o = refl
chosen false x o = refl

calls_found : (at : List (List ℕ)) (es : List (List (List ℕ) × Outline)) → calls_at (rows_of es) at ≡ calls_told (find path_cmp at es)
calls_found at [] = refl
calls_found at (e ∷ es) =
    ap (λ (calls : List Call). if path_eq at e.0 then e.1.calls else calls) (calls_found at es)
    ∙ ap (λ b. if b then e.1.calls else calls_told (find path_cmp at es)) (sym (ties at e.0))
    ∙ chosen (eq_by_cmp path_cmp at e.0) e.1 (find path_cmp at es)

told_calls : (node : Option Node) → calls_told (option_map outline_of node) ≡ calls_in (written_in node)
told_calls None = refl
told_calls (Some node) = refl

keys_over : (es : List (List (List ℕ) × Node)) → map (λ e. e.0) (over outline_of es) ≡ map (λ e. e.0) es
keys_over [] = refl
keys_over (e ∷ es) = ap (λ keys. e.0 ∷ keys) (keys_over es)

module _ (rulesets : Rulesets) (outlines : FinMap path_cmp Outline) (are : AreOutlined rulesets outlines) where
  calls_same : (at : List (List ℕ)) → calls_at (rows_of (fin.entries outlines)) at ≡ calls_in (written_in (fin.get rulesets at))
  calls_same at =
      calls_found at (fin.entries outlines)
      ∙ ap calls_told (sym (fin.get-entries outlines at) ∙ are.at at)
      ∙ told_calls (fin.get rulesets at)

  keys_same : paths_of (rows_of (fin.entries outlines)) ≡ fin.keys rulesets
  keys_same = paths_same (fin.entries outlines) ∙ ap (map (λ e. e.0)) (entries_over outline_of rulesets outlines are.at) ∙ keys_over (fin.entries rulesets)

  pub graph_same : graph_of (rows_of (fin.entries outlines)) ≡ graph_in rulesets
  graph_same = λ i. call_graph (keys_same i) (fun_ext calls_same i)
