use Rattle.std.proofs.Common.{◌≡◌, ◌+◌, ℕ, List, cond, is_some, length, take, drop, get_or, Option, None, sym, ap, ◌∙◌, arith}
use Rattle.std.specs.List.{zip}
use Rattle.std.specs.Option.{option_copied}
use Rattle.pf_auto.proofs.Putting.{found_at, put_at, put_end, put_tables, rest_end}
use Rattle.pf_auto.specs.Ends.{beside, prefix_at}
use Rattle.pf_auto.specs.Merged.{merged_behind}
use Rattle.pf_auto.specs.Putting.{behind, put_by}
use Rattle.pf_auto.specs.declared.group.Group.{Group}
use Rattle.pf_auto.specs.declared.merging.AutoTable.{AutoTable}
use Rattle.pf_auto.specs.declared.merging.Merged.{Merged}
use Rattle.pf_rule.specs.declared.rule.Rule.{Rule}
use Rattle.pf_auto.proofs.merging.merge_at.Goals as goal

pub loop-i-preserved : goal.loop-i-preserved
loop-i-preserved c =
    let end = c.args.end in
    let first = c.args.first_number in
    let all = zip c.args.rules.now c.args.weights.now in
    let i = c.loop-i.i in
    let rule = c.index-rules-i.result in
    let item : Rule × ℕ = (rule, get_or c.args.weights.now i 0) in
    let merged = c.loop-i.merged in
    let group : option_copied c.group_of-group.result ≡ found_at end all rule =
    c.group_of-group.ensures ∙ ap (λ (o : Option Group). cond (is_some (prefix_at end rule)) o None) (c.in_ok-groups.ensures (beside end rule)) in
    let put : c.put.new.merged ≡ put_by end (first + length merged.tables) (found_at end all rule) i item merged =
    c.in_ok-put.ensures
    ∙ ap (λ (t : List AutoTable). put_by end (first + length t) (option_copied c.group_of-group.result) i item merged) c.items.ensures
    ∙ ap (λ (g : Option Group). put_by end (first + length merged.tables) g i item merged) group in
    let size : length c.put.new.merged.tables ≡ length (put_by end (first + length merged.tables) (found_at end all rule) i item merged).tables = ap (λ (m : Merged). length m.tables) put in
    record {
      is =
          ap (λ (m : Merged). behind m (merged_behind end all (first + length m.tables) (take (i + 1) all) (drop (i + 1) all))) put
          ∙ put_at end c.args.rules.now c.args.weights.now i rule first merged c.requires.same c.loop-i-test.true c.index-rules-i.is
          ∙ c.loop-i.invariant.is;
      few = omega (arith, put_tables end (first + length merged.tables) (found_at end all rule) i item merged, c.loop-i.invariant.few);
    }

pub returns : goal.returns
returns c =
    let end = c.args.end in
    let all = zip c.args.rules.now c.args.weights.now in
    let i = c.loop-i.i in
    let merged = c.loop-i.merged in
    sym (put_end merged)
    ∙ ap (λ (t : List (Rule × ℕ)). behind merged (merged_behind end all (c.args.first_number + length merged.tables) (take i all) t)) (sym (rest_end c.args.rules.now c.args.weights.now i c.requires.same c.loop-i-test.false))
    ∙ c.loop-i.invariant.is
