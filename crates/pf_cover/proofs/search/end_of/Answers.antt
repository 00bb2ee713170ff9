use Rattle.std.proofs.Common.{rules}
use Rattle.std.proofs.Common.{nat_le}
use Rattle.std.proofs.lemmas.Bool.{leb-false}
use Rattle.std.proofs.lemmas.List.Sorted.{IsPartitionPoint-from_clause, IsPartitionedBy-leb}
use Rattle.pf_cover.specs.declared.corner.Corner.{Corner}
use Rattle.pf_cover.proofs.search.end_of.Goals as goal

pub returns-clause-above : goal.returns-clause-above
returns-clause-above c =
    let parted = IsPartitionedBy-leb (λ (one : Corner). one.low) c.args.corners.now c.args.low c.requires in
    let point = IsPartitionPoint-from_clause (λ (one : Corner). nat_le one.low c.args.low) _ _ c.partition_point.ensures.partitioned parted (λ a r q k. search rules) in
    λ i other h k. leb-false _ _ (point.1 i other h k)
