-- Names that tie are one name.
use Rattle.std.specs.Cmp.Lexicographic.{nat_list_cmp_total}
use Rattle.std.specs.FinMap.{slice_cmp-IsAntisymmetric, nat_cmp-IsAntisymmetric}
use Rattle.pf_base.specs.OrderedMap.{map_laws_hold}
use Rattle.pf_base.proofs.map.name_map_laws.Goals as goal

pub returns : goal.returns
returns g c = map_laws_hold nat_list_cmp_total (slice_cmp-IsAntisymmetric nat_cmp-IsAntisymmetric) _
