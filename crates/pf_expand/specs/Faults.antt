-- The faults of a statement, in the order in which they decide; each kind is one definition.
use Rattle.std.specs.Prelude.{ℕ, Bool, true, false, ◌&&◌, ◌||◌, ◌==◌, not, List, [], ◌∷◌, Option, Some, None, is_some, if◌then◌else◌}
use Rattle.std.specs.List.{find, list_all, list_any}
use Rattle.std.specs.Option.{option_or}
use Rattle.pf_expand.specs.Lists.{is_empty}
use Rattle.pf_base.specs.declared.fault.FaultKind.{FaultKind}
use Rattle.pf_base.specs.declared.fault.FaultKind.TheVariants as kinds
use Rattle.pf_base.specs.declared.kind.Family.{Family}
use Rattle.pf_base.specs.declared.kind.Family.TheVariants.{Inet, Inet6}
use Rattle.pf_form.specs.declared.form.FlagsForm.{FlagsForm}
use Rattle.pf_form.specs.declared.form.FlagsForm.TheVariants as flags
use Rattle.pf_form.specs.declared.form.Head.{Head}
use Rattle.pf_form.specs.declared.form.Head.TheVariants as heads
use Rattle.pf_form.specs.declared.form.RuleForm.{RuleForm}
use Rattle.pf_parts.specs.declared.block.BlockKind.{BlockKind}
use Rattle.pf_parts.specs.declared.block.BlockKind.TheVariants as blocks
use Rattle.pf_parts.specs.declared.state.Overload.{Overload}
use Rattle.pf_rule.specs.Criteria.{icmp, icmp6, is_tcp_or_udp, tcp}
use Rattle.pf_syntax.specs.declared.form.HostForm.{HostForm}
use Rattle.pf_syntax.specs.declared.form.HostForm.TheVariants as hosts
use Rattle.pf_syntax.specs.declared.form.HostItem.{HostItem}
use Rattle.pf_syntax.specs.declared.form.IcmpItem.{IcmpItem}
use Rattle.pf_syntax.specs.declared.form.TargetWords.{TargetWords}
use Rattle.pf_word.specs.Tables.{is_table_name}
use Rattle.pf_expand.specs.declared.faults.WordFault.{WordFault}
use Rattle.pf_expand.specs.declared.faults.WordFault.TheVariants as words

-- the kind of a fault of a word
abbrev pub is_of : WordFault → FaultKind → Bool
is_of words.NotAnAddress (kinds.NotAnAddress word) = true
is_of words.MaskTooLong (kinds.MaskTooLong bits) = true
is_of words.FamilyMismatch kinds.FamilyMismatch = true
is_of words.UnknownInterface (kinds.UnknownInterface word) = true
is_of words.UnknownService (kinds.UnknownService word) = true
is_of words.UnknownProto (kinds.UnknownProto word) = true
is_of words.BadPort kinds.BadPort = true
is_of words.BadIcmpType kinds.BadIcmpType = true
is_of words.UnknownUser (kinds.UnknownUser word) = true
is_of kind fault = false

-- the first word with a fault of this kind
abbrev pub of_word : WordFault → List FaultKind → Option FaultKind
of_word kind faults = find (is_of kind) faults

-- a fault of each kind, of the first word that has one
abbrev pub not_an_address : List FaultKind → Option FaultKind
not_an_address faults = of_word words.NotAnAddress faults

abbrev pub mask_too_long : List FaultKind → Option FaultKind
mask_too_long faults = of_word words.MaskTooLong faults

abbrev pub family_mismatch : List FaultKind → Option FaultKind
family_mismatch faults = of_word words.FamilyMismatch faults

abbrev pub unknown_interface : List FaultKind → Option FaultKind
unknown_interface faults = of_word words.UnknownInterface faults

abbrev pub unknown_service : List FaultKind → Option FaultKind
unknown_service faults = of_word words.UnknownService faults

abbrev pub unknown_proto : List FaultKind → Option FaultKind
unknown_proto faults = of_word words.UnknownProto faults

abbrev pub bad_port : List FaultKind → Option FaultKind
bad_port faults = of_word words.BadPort faults

abbrev pub bad_icmp_type : List FaultKind → Option FaultKind
bad_icmp_type faults = of_word words.BadIcmpType faults

abbrev pub unknown_user : List FaultKind → Option FaultKind
unknown_user faults = of_word words.UnknownUser faults

abbrev pub where_so : Bool → FaultKind → Option FaultKind
where_so true fault = Some fault
where_so false fault = None

-- every word has a meaning, and no combination is left, or antispoof gives no rule
abbrev pub no_combination : List FaultKind → Bool → Option FaultKind
no_combination faults is_none = where_so (is_empty faults && is_none) kinds.NoCombination

-- the rule is for these protocols alone, one at least
abbrev pub only_for : (ℕ → Bool) → List ℕ → Bool
only_for test protos = not (is_empty protos) && list_all test protos

abbrev pub target_has_port : Option TargetWords → Bool
target_has_port None = false
target_has_port (Some target) = is_some target.port

-- a test of a port, or a translation's port
abbrev pub has_ports : RuleForm → Bool
has_ports form = not (is_empty form.source_ports) || not (is_empty form.target_ports) || target_has_port form.nat || target_has_port form.rdr

abbrev pub port_needs : RuleForm → List ℕ → Option FaultKind
port_needs form protos = where_so (has_ports form && not (only_for is_tcp_or_udp protos)) kinds.PortNeedsTcpUdp

-- the protocol that has the ICMP types of a family
abbrev pub icmp_proto : Family → ℕ
icmp_proto Inet = icmp
icmp_proto Inet6 = icmp6

-- which of two answers is that for a family
abbrev pub by_family : Family → Bool → Bool → Bool
by_family Inet inet inet6 = inet
by_family Inet6 inet inet6 = inet6

abbrev pub icmp_needs : List IcmpItem → List ℕ → Option FaultKind
icmp_needs items protos = where_so (list_any (λ item. not (only_for (λ proto. proto == icmp_proto item.family) protos)) items) kinds.IcmpNeedsProto

-- `flags` other than `any`
abbrev pub tests_flags : Option FlagsForm → Bool
tests_flags None = false
tests_flags (Some flags.Any) = false
tests_flags (Some (flags.Test test)) = true

abbrev pub is_tcp : ℕ → Bool
is_tcp proto = proto == tcp

abbrev pub flags_need : Option FlagsForm → List ℕ → Option FaultKind
flags_need form protos = where_so (tests_flags form && not (list_all is_tcp protos)) kinds.FlagsNeedTcp

-- `block return-rst`
abbrev pub is_reset : Option BlockKind → Bool
is_reset (Some (blocks.Rst ttl)) = true
is_reset (Some blocks.Drop) = false
is_reset (Some blocks.Return) = false
is_reset (Some (blocks.Icmp code code6)) = false
is_reset None = false

abbrev pub resets : Head → Bool
resets (heads.Block kind) = is_reset kind
resets heads.Pass = false
resets heads.Match = false
resets (heads.Anchor name body) = false
resets heads.Antispoof = false
resets (heads.LoadAnchor name file) = false

abbrev pub reset_needs : Head → List ℕ → Option FaultKind
reset_needs head protos = where_so (resets head && not (only_for is_tcp protos)) kinds.RstNeedsTcp

-- a table whose name no table may have
abbrev pub is_bad_table : HostForm → Bool
is_bad_table (hosts.Table name) = not (is_table_name name)
is_bad_table hosts.Any = false
is_bad_table (hosts.Word word mask) = false
is_bad_table (hosts.Range low high) = false
is_bad_table (hosts.Dynamic word) = false

abbrev pub is_bad_overload : Option Overload → Bool
is_bad_overload None = false
is_bad_overload (Some overload) = not (is_table_name overload.table)

abbrev pub have_bad_table : List HostItem → Bool
have_bad_table items = list_any (λ item. is_bad_table item.what) items

-- of the tables that the statement tests or names behind `overload`
abbrev pub table_name : RuleForm → Option FaultKind
table_name form = where_so (have_bad_table form.sources || have_bad_table form.targets || is_bad_overload form.options.overload) kinds.TableName

-- the first that there is
abbrev pub first_some : List (Option FaultKind) → Option FaultKind
first_some [] = None
first_some (fault ∷ others) = option_or fault (first_some others)

-- the kinds from ICMP on
abbrev pub protocol_faults : RuleForm → List ℕ → List FaultKind → List (Option FaultKind)
protocol_faults form protos faults =
    icmp_needs form.icmp protos ∷ bad_icmp_type faults ∷ flags_need form.flags protos ∷ unknown_user faults ∷ reset_needs form.head protos ∷ table_name form ∷ []

-- the kinds from interfaces on
abbrev pub name_faults : RuleForm → List ℕ → List FaultKind → List (Option FaultKind)
name_faults form protos faults =
    unknown_interface faults ∷ unknown_service faults ∷ unknown_proto faults ∷ port_needs form protos ∷ bad_port faults
    ∷ protocol_faults form protos faults

-- all kinds, in their order: the first that there is decides, and of one kind the first word
abbrev pub faults_of : RuleForm → List ℕ → List FaultKind → Bool → List (Option FaultKind)
faults_of form protos faults is_none =
    not_an_address faults ∷ mask_too_long faults ∷ family_mismatch faults ∷ no_combination faults is_none ∷ name_faults form protos faults
