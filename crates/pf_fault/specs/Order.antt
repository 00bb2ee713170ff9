-- Which of several faults of one statement decides: the kind that stands first in one order of all kinds, and of two faults of
-- one kind the first (pf.conf(5)).
use Rattle.std.specs.Prelude.{ℕ, nat_lt, List, [], ◌∷◌, Option, Some, None, if◌then◌else◌}
use Rattle.pf_base.specs.declared.fault.FaultKind.{FaultKind}
use Rattle.pf_base.specs.declared.fault.FaultKind.TheVariants as kinds
use Rattle.pf_base.specs.declared.fault.Place.{Place}
use Rattle.pf_fault.specs.declared.fault.Fault.{Fault}

-- the order of the kinds
unfoldable pub rank : FaultKind → ℕ
rank kinds.BadByte = 0
rank kinds.Unterminated = 1
rank (kinds.MacroUndefined name) = 2
rank kinds.MacroName = 3
rank kinds.IncludeDepth = 4
rank kinds.TooLarge = 5
rank kinds.Syntax = 6
rank (kinds.Unsupported word) = 7
rank kinds.StrayClose = 8
rank kinds.UnclosedBody = 9
rank kinds.NotInAnchor = 10
rank (kinds.NotAnAddress word) = 11
rank (kinds.MaskTooLong bits) = 12
rank kinds.FamilyMismatch = 13
rank kinds.NoCombination = 14
rank (kinds.UnknownInterface word) = 15
rank (kinds.UnknownService word) = 16
rank (kinds.UnknownProto word) = 17
rank kinds.PortNeedsTcpUdp = 18
rank kinds.BadPort = 19
rank kinds.IcmpNeedsProto = 20
rank kinds.BadIcmpType = 21
rank kinds.BadFlags = 22
rank kinds.FlagsNeedTcp = 23
rank (kinds.UnknownUser word) = 24
rank kinds.RstNeedsTcp = 25
rank kinds.StateOptions = 26
rank kinds.AnchorEffect = 27
rank kinds.AnchorName = 28
rank kinds.TableTwice = 29
rank kinds.TableName = 30
rank kinds.TableConflict = 31
rank kinds.QueueTwice = 32
rank kinds.QueueParent = 33
rank (kinds.QueueUnknown name) = 34
rank (kinds.TooManyRules count) = 35

abbrev pub fault_at : FaultKind → Place → Fault
fault_at kind place = record { kind = kind; place = place }

-- of two the one whose kind comes first; of two of one kind the first
abbrev pub first_of : Option Fault → Option Fault → Option Fault
first_of None other = other
first_of (Some one) None = Some one
first_of (Some one) (Some other) = if nat_lt (rank other.kind) (rank one.kind) then Some other else Some one

-- of several
abbrev pub decided : List Fault → Option Fault
decided [] = None
decided (fault ∷ faults) = first_of (Some fault) (decided faults)
