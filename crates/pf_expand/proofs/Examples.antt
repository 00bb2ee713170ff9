-- Statements and what they come to, computed.
use Rattle.std.proofs.Common.{◌≡◌, true, false, [], ◌∷◌, codes, Some, None, refl}
use Rattle.pf_base.specs.declared.fault.FaultKind.TheVariants as kinds
use Rattle.pf_form.specs.Blank.{blank_form}
use Rattle.pf_form.specs.declared.form.Head.TheVariants as heads
use Rattle.pf_parts.specs.declared.state.StateKind.TheVariants as states
use Rattle.pf_expand.specs.Faults.{faults_of, first_some}
use Rattle.pf_expand.specs.Rules.{flags_of, opening, state_of}

-- no combination is left, but a word has no meaning: the word decides
an_unknown_word : first_some (faults_of (blank_form heads.Pass) [] (kinds.UnknownProto (codes "foo") ∷ kinds.BadPort ∷ []) true) ≡ Some (kinds.UnknownProto (codes "foo"))
an_unknown_word = refl

no_word : first_some (faults_of (blank_form heads.Pass) [] [] true) ≡ Some kinds.NoCombination
no_word = refl

-- `flags S/SA` is for TCP and for any protocol, with a state
opened : flags_of None true None ≡ Some opening
opened = refl

not_for_udp : flags_of None true (Some 17) ≡ None
not_for_udp = refl

no_state : flags_of None false (Some 6) ≡ None
no_state = refl

block_makes_none : state_of (heads.Block None) (Some states.Keep) ≡ states.None
block_makes_none = refl
