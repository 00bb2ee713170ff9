-- The refusals of script lines: each has a number, by which the manual page of this program names it, and a text.
use Rattle.std.specs.Prelude.{ℕ, List, [], ◌∷◌, ◌++◌, codes}
use Rattle.pf_base.specs.Path.{path_text}
use Rattle.pf_base.specs.declared.fault.FaultKind.{FaultKind}
use Rattle.pf_record.specs.FieldName.{field_name}
use Rattle.pf_reply.specs.Kinds.{kind_text}
use Rattle.pf_reply.specs.Texts.{numbered}
use Rattle.pf_reply.specs.declared.refusal.Overfull.{Overfull}
use Rattle.pf_reply.specs.declared.refusal.Overfull.TheVariants.{Rules, Rulesets}
use Rattle.pf_reply.specs.declared.refusal.Refusal.{Refusal}
use Rattle.pf_reply.specs.declared.refusal.Refusal.TheVariants as refusals

abbrev pub overfull_word : Overfull → List ℕ
overfull_word Rules = codes "rules"
overfull_word Rulesets = codes "rulesets"

-- the kind of the load's first fault, with its file and line
abbrev pub load_fault_text : FaultKind → List ℕ → ℕ → List ℕ
load_fault_text kind file line = codes "refused 2 LoadFault " ++ kind_text kind ++ (codes " " ++ file) ++ numbered (codes ":") line

-- the ruleset, the ticket of the session and the ticket of the ruleset
abbrev pub stale_text : List (List ℕ) → ℕ → ℕ → List ℕ
stale_text path held now = codes "refused 4 Stale " ++ path_text path ++ numbered (codes " ") held ++ numbered (codes " ") now

abbrev pub tree_full_text : Overfull → ℕ → List ℕ
tree_full_text what count = codes "refused 12 TreeFull " ++ overfull_word what ++ numbered (codes " ") count

abbrev pub refusal_text : Refusal → List ℕ
refusal_text refusals.BadCommand = codes "refused 1 BadCommand"
refusal_text (refusals.LoadFault kind file line) = load_fault_text kind file line
refusal_text (refusals.CannotRead name) = codes "refused 3 CannotRead " ++ name
refusal_text (refusals.Stale path held now) = stale_text path held now
refusal_text (refusals.SessionOpen name) = codes "refused 5 SessionOpen " ++ name
refusal_text (refusals.NoSession name) = codes "refused 6 NoSession " ++ name
refusal_text refusals.SessionsFull = codes "refused 7 SessionsFull 64"
refusal_text (refusals.TableMissing name) = codes "refused 8 TableMissing " ++ name
refusal_text (refusals.TableConst name) = codes "refused 9 TableConst " ++ name
refusal_text (refusals.BadAddress word) = codes "refused 10 BadAddress " ++ word
refusal_text (refusals.BadPacket field) = codes "refused 11 BadPacket " ++ field_name field
refusal_text (refusals.TreeFull what count) = tree_full_text what count
refusal_text (refusals.TablesFull count) = numbered (codes "refused 13 TablesFull ") count
refusal_text (refusals.ProfileFault line) = numbered (codes "refused 14 ProfileFault ") line
refusal_text (refusals.FactsFault line) = numbered (codes "refused 15 FactsFault ") line
refusal_text (refusals.CallCycle path) = codes "refused 16 CallCycle " ++ path_text path
refusal_text (refusals.CallDepth depth) = numbered (codes "refused 17 CallDepth ") depth

-- the file for which a line was refused because it can't be read
abbrev pub unread_of : Refusal → List (List ℕ)
unread_of (refusals.CannotRead name) = name ∷ []
unread_of refusal = []
