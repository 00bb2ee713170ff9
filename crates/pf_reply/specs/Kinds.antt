-- The text of a kind of fault of a file: its name, and behind it in brackets what it tells.
use Rattle.std.specs.Prelude.{ℕ, List, [], ◌++◌, Option, Some, None, codes}
use Rattle.std.specs.Fmt.{decimal}
use Rattle.pf_base.specs.declared.fault.FaultKind.{FaultKind}
use Rattle.pf_base.specs.declared.fault.FaultKind.TheVariants as kinds

-- the name of the kind
abbrev pub kind_name : FaultKind → List ℕ
kind_name kinds.BadByte = codes "BadByte"
kind_name kinds.Unterminated = codes "Unterminated"
kind_name (kinds.MacroUndefined word) = codes "MacroUndefined"
kind_name kinds.MacroName = codes "MacroName"
kind_name kinds.IncludeDepth = codes "IncludeDepth"
kind_name kinds.TooLarge = codes "TooLarge"
kind_name kinds.Syntax = codes "Syntax"
kind_name (kinds.Unsupported word) = codes "Unsupported"
kind_name kinds.StrayClose = codes "StrayClose"
kind_name kinds.UnclosedBody = codes "UnclosedBody"
kind_name kinds.NotInAnchor = codes "NotInAnchor"
kind_name (kinds.NotAnAddress word) = codes "NotAnAddress"
kind_name (kinds.MaskTooLong number) = codes "MaskTooLong"
kind_name kinds.FamilyMismatch = codes "FamilyMismatch"
kind_name kinds.NoCombination = codes "NoCombination"
kind_name (kinds.UnknownInterface word) = codes "UnknownInterface"
kind_name (kinds.UnknownService word) = codes "UnknownService"
kind_name (kinds.UnknownProto word) = codes "UnknownProto"
kind_name kinds.PortNeedsTcpUdp = codes "PortNeedsTcpUdp"
kind_name kinds.BadPort = codes "BadPort"
kind_name kinds.IcmpNeedsProto = codes "IcmpNeedsProto"
kind_name kinds.BadIcmpType = codes "BadIcmpType"
kind_name kinds.BadFlags = codes "BadFlags"
kind_name kinds.FlagsNeedTcp = codes "FlagsNeedTcp"
kind_name (kinds.UnknownUser word) = codes "UnknownUser"
kind_name kinds.RstNeedsTcp = codes "RstNeedsTcp"
kind_name kinds.StateOptions = codes "StateOptions"
kind_name kinds.AnchorEffect = codes "AnchorEffect"
kind_name kinds.AnchorName = codes "AnchorName"
kind_name kinds.TableTwice = codes "TableTwice"
kind_name kinds.TableName = codes "TableName"
kind_name kinds.TableConflict = codes "TableConflict"
kind_name kinds.QueueTwice = codes "QueueTwice"
kind_name kinds.QueueParent = codes "QueueParent"
kind_name (kinds.QueueUnknown word) = codes "QueueUnknown"
kind_name (kinds.TooManyRules number) = codes "TooManyRules"

-- the word or the number that it tells
abbrev pub told : FaultKind → Option (List ℕ)
told (kinds.MacroUndefined word) = Some word
told (kinds.Unsupported word) = Some word
told (kinds.NotAnAddress word) = Some word
told (kinds.MaskTooLong number) = Some (decimal number)
told (kinds.UnknownInterface word) = Some word
told (kinds.UnknownService word) = Some word
told (kinds.UnknownProto word) = Some word
told (kinds.UnknownUser word) = Some word
told (kinds.QueueUnknown word) = Some word
told (kinds.TooManyRules number) = Some (decimal number)
told kind = None

abbrev pub in_brackets : Option (List ℕ) → List ℕ
in_brackets None = []
in_brackets (Some text) = codes "(" ++ text ++ codes ")"

abbrev pub kind_text : FaultKind → List ℕ
kind_text kind = kind_name kind ++ in_brackets (told kind)
