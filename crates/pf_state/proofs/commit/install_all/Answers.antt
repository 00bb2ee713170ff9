use Rattle.std.proofs.Common.{◌≡◌, ℕ, List, ◌∷◌, [], ◌++◌, true, length, length-append, sym, ap, ◌∙◌, arith}
use Rattle.std.specs.List.{list_all}
use Rattle.std.specs.FinMap as fin
use Rattle.std.specs.FinSet.{FinSet}
use Rattle.pf_tree.specs.Meaning.{is_prepared}
use Rattle.pf_tree.specs.Order.{path_cmp}
use Rattle.pf_state.specs.Commits.{paths_of}
use Rattle.pf_state.specs.Outlines.{with_shelves}
use Rattle.pf_state.specs.Rulesets.{Rulesets}
use Rattle.pf_state.specs.declared.ready.Staged.{Staged}
use Rattle.pf_state.proofs.Replacing.{front_passes, put_last}
use Rattle.pf_state.proofs.commit.install_all.Goals as goal

pub loop-part-preserved : goal.loop-part-preserved
loop-part-preserved c =
    let parts = c.pop.new.self.items in
    let shelves = c.pop-in-Some.new.self.items in
    let part = c.in-Some.part in
    let shelf = c.in-Some-pop.shelf in
    let some_parts : c.loop-part.parts.items ≡ parts ++ part ∷ [] = c.in-Some.ensures.items in
    let some_shelves : c.loop-part.shelves.items ≡ shelves ++ shelf ∷ [] = c.in-Some-pop.ensures.items in
    let before = c.loop-part.invariant.each in
    let more_parts = ap length some_parts ∙ length-append parts (part ∷ []) in
    let more_shelves = ap length some_shelves ∙ length-append shelves (shelf ∷ []) in
    let each : length shelves ≡ length parts = omega arith in
    record {
      each = each;
      left = ap (λ (t : Rulesets). with_shelves t parts shelves) c.install.ensures.payloads
          ∙ sym (put_last c.loop-part.tree.payloads parts shelves part shelf each)
          ∙ (λ i. with_shelves c.loop-part.tree.payloads (sym some_parts i) (sym some_shelves i))
          ∙ c.loop-part.invariant.left;
      all = ap (λ (s : FinSet path_cmp). list_all (λ path. fin.contains_key s path) (paths_of parts)) c.install.ensures.prepared
          ∙ front_passes (λ path. is_prepared c.loop-part.tree path) parts part (ap (λ (ps : List Staged). list_all (λ path. is_prepared c.loop-part.tree path) (paths_of ps)) (sym some_parts) ∙ c.loop-part.invariant.all);
      prepared = c.install.ensures.prepared ∙ c.loop-part.invariant.prepared;
    }
