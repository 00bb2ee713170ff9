-- What the map has at each name says which map it is.
use Rattle.std.proofs.Common.{ap, ◌∙◌}
use Rattle.std.specs.Ordering.{nat_cmp}
use Rattle.std.specs.Cmp.Lexicographic.{slice_cmp}
use Rattle.std.specs.FinMap.{from_entries, insert}
use Rattle.pf_token.proofs.macros.keep_value.Goals as goal

pub returns-clause-kept : goal.returns-clause-kept
returns-clause-kept c =
    c.name_map_laws.ensures.inserted c.args.values.now c.insert.new.self c.args.name c.of.result c.in_ok-insert.ensures.updates
    ∙ ap (λ value. insert (from_entries {R = slice_cmp nat_cmp} c.args.values.now.entries) c.args.name value) (c.of.ensures ∙ c.in_ok-value.ensures.items)
