-- What a tree's rulesets call by their anchor rules, beside another's (pf.conf(5), ANCHORS).
use Rattle.std.specs.Prelude.{ℕ, List, Contains}
use Rattle.std.specs.FinMap as fin
use Rattle.pf_eval.specs.Rulesets.{Rulesets, calls_in, written_in}
use Rattle.pf_parts.specs.declared.call.Call.{Call}

-- One tree has no ruleset that another lacks, and no ruleset of it calls what the other's doesn't.
pub record CallsNoMore (less more : Rulesets) : Type 0 where
  pub paths : (at : List (List ℕ)) → Contains (fin.keys less) at → Contains (fin.keys more) at
  pub calls : (at : List (List ℕ)) (call : Call) → Contains (calls_in (written_in (fin.get less at))) call → Contains (calls_in (written_in (fin.get more at))) call
