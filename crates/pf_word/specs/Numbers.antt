-- What tests of ports, users and groups mean (pf.conf(5), PARAMETERS, port, user, group).
use Rattle.std.specs.Prelude.{ℕ, Bool, true, false, List, [], ◌∷◌, ◌++◌, map, Result, Ok, Err, Option, Some, None, nat_lt, if◌then◌else◌}
use Rattle.std.specs.Option.{ok_or, option_or}
use Rattle.pf_base.specs.Decimal.{decimal_of, is_decimal}
use Rattle.pf_base.specs.declared.fault.FaultKind.{FaultKind}
use Rattle.pf_base.specs.declared.fault.FaultKind.TheVariants as kinds
use Rattle.pf_ops.specs.Operator.{set_of}
use Rattle.pf_ops.specs.declared.numbers.Numbers.{Numbers}
use Rattle.pf_ops.specs.declared.operator.OpKind.{OpKind}
use Rattle.pf_ops.specs.declared.operator.OpKind.TheVariants.{Within, Between, Outside}
use Rattle.pf_host.specs.Facts.{HostFacts}
use Rattle.pf_host.specs.Queries.{group_of, service_of, user_of}
use Rattle.pf_syntax.specs.declared.form.OpItem.{OpItem}
use Rattle.pf_word.specs.Words.{all_of, failed, found, is_name, named}
use Rattle.pf_word.specs.declared.number.IdKind.{IdKind}
use Rattle.pf_word.specs.declared.number.IdKind.TheVariants.{User, Group}
use Rattle.pf_word.specs.declared.words.Words.{Words}

abbrev pub most_port : ℕ
most_port = 65535

abbrev pub most_id : ℕ
most_id = 4294967295

-- the operator has two numbers
abbrev pub has_two : OpKind → Bool
has_two Within = true
has_two Between = true
has_two Outside = true
has_two kind = false

-- it is `a:b`
abbrev pub is_within : OpKind → Bool
is_within Within = true
is_within kind = false

-- the word that the fault of an end bears: of `a:b` the whole
abbrev pub shown : OpItem → List ℕ → List ℕ
shown item word = if is_within item.kind then item.low ++ 58 ∷ item.high else word

-- the number of a name of the facts
abbrev pub number_named : (List ℕ → Option ℕ) → List ℕ → Option ℕ
number_named of_name word = if is_name word then of_name word else None

-- a port: a number to 65535, where leading zeros may stand, or a service of the facts
unfoldable pub port_of : HostFacts → List ℕ → List ℕ → Result ℕ FaultKind
port_of facts whole word =
    if is_decimal word then ok_or (decimal_of most_port word) kinds.BadPort
    else ok_or (number_named (service_of facts) word) (kinds.UnknownService (named whole))

-- the number of a user or of a group of users
abbrev pub id_named : HostFacts → IdKind → List ℕ → Option ℕ
id_named facts User word = user_of facts word
id_named facts Group word = group_of facts word

-- a user or a group: a number to 4294967295, where leading zeros may stand, else a name of the facts
unfoldable pub id_of : HostFacts → IdKind → List ℕ → List ℕ → Result ℕ FaultKind
id_of facts kind whole word = ok_or (option_or (decimal_of most_id word) (number_named (id_named facts kind) word)) (kinds.UnknownUser (named whole))

-- the second end, which an operator on one number doesn't have
abbrev pub second_end : OpKind → Result ℕ FaultKind → Result ℕ FaultKind
second_end kind high = if has_two kind then high else Ok 0

-- `a:b` with a above b
abbrev pub falls : OpKind → ℕ → ℕ → Bool
falls kind low high = if is_within kind then nat_lt high low else false

-- the set of an operator between two ends, of the numbers up to `top`; the faults of its ends, the first end's first; or the
-- fault of `a:b` that falls
abbrev pub between : ℕ → FaultKind → OpKind → Result ℕ FaultKind → Result ℕ FaultKind → Words Numbers
between top falling kind (Ok low) (Ok high) = if falls kind low high then failed falling else found (set_of top kind low high)
between top falling kind (Ok low) (Err fault) = failed fault
between top falling kind (Err fault) (Ok high) = failed fault
between top falling kind (Err fault) (Err second) = record { values = []; faults = fault ∷ second ∷ [] }

-- a test of a port
abbrev pub port_test : HostFacts → OpItem → Words Numbers
port_test facts item =
    between most_port kinds.BadPort item.kind (port_of facts (shown item item.low) item.low)
    (second_end item.kind (port_of facts (shown item item.high) item.high))

abbrev pub port_tests : HostFacts → List OpItem → Words Numbers
port_tests facts items = all_of (map (port_test facts) items)

-- a test of a user or a group
abbrev pub id_test : HostFacts → IdKind → OpItem → Words Numbers
id_test facts kind item =
    between most_id (kinds.UnknownUser (named (shown item item.low))) item.kind (id_of facts kind (shown item item.low) item.low)
    (second_end item.kind (id_of facts kind (shown item item.high) item.high))

abbrev pub id_tests : HostFacts → IdKind → List OpItem → Words Numbers
id_tests facts kind items = all_of (map (id_test facts kind) items)
