-- Paths that tie are one path.
use Rattle.std.specs.Cmp.Lexicographic.{lists_total, nat_list_cmp_total}
use Rattle.std.specs.FinMap.{slice_cmp-IsAntisymmetric, nat_cmp-IsAntisymmetric}
use Rattle.pf_base.specs.OrderedMap.{map_laws_hold}
use Rattle.pf_base.proofs.map.path_map_laws.Goals as goal

pub returns : goal.returns
returns g c = map_laws_hold (lists_total nat_list_cmp_total) (slice_cmp-IsAntisymmetric (slice_cmp-IsAntisymmetric nat_cmp-IsAntisymmetric)) _
