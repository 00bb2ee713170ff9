use Rattle.std.proofs.Common.{◌≡◌, ℕ, List, true, ◌||◌, take}
use Rattle.std.specs.List.{list_all, list_any}
use Rattle.pf_base.specs.Path.{IsPath}
use Rattle.pf_tree.specs.Meaning.{is_prepared}
use Rattle.pf_tree.specs.Paths.{begins}
use Rattle.pf_tree.proofs.node.Node.grow_all.Given as goal

abbrev pub invariant-loop-path : goal.invariant-loop-path
invariant-loop-path g l = record {
  payloads : l.self.payloads ≡ l.fn.self.payloads;
  kept : (at : List (List ℕ)) → is_prepared l.fn.self at ≡ true → is_prepared l.self at ≡ true;
  within : (at : List (List ℕ)) → is_prepared l.self at ≡ true → (is_prepared l.fn.self at || list_any (λ path. begins path at) (take l.path-index l.paths)) ≡ true;
  all : list_all (λ path. is_prepared l.self path) (take l.path-index l.paths) ≡ true;
  paths : ((at : List (List ℕ)) → is_prepared l.fn.self at ≡ true → IsPath at) → (at : List (List ℕ)) → is_prepared l.self at ≡ true → IsPath at;
}
