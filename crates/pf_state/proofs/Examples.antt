-- The definitions at cases that are known from outside.
use Rattle.std.proofs.Common.{◌≡◌, true, Some, None, refl}
use Rattle.std.specs.Prelude.{codes}
use Rattle.pf_reply.specs.declared.refusal.Overfull.TheVariants.{Rules, Rulesets as Nodes}
use Rattle.pf_reply.specs.declared.refusal.Refusal.TheVariants as refusals
use Rattle.pf_state.specs.Limits.{first_of, limits}
use Rattle.pf_state.specs.Words.{is_negated, unsigned}

-- eight rulesets of 16,384 rules may stand, and no rule more
full_of_rules : first_of (limits 131072 8 0) ≡ None
full_of_rules = refl

one_rule_more : first_of (limits 131073 8 0) ≡ Some (refusals.TreeFull Rules 131073)
one_rule_more = refl

-- 4,095 anchors below the main ruleset may stand, and no anchor more
full_of_anchors : first_of (limits 8190 4096 0) ≡ None
full_of_anchors = refl

one_anchor_more : first_of (limits 8192 4097 0) ≡ Some (refusals.TreeFull Nodes 4097)
one_anchor_more = refl

-- rules are counted first, then rulesets, then entries
all_too_many : first_of (limits 131073 4097 262145) ≡ Some (refusals.TreeFull Rules 131073)
all_too_many = refl

one_entry_more : first_of (limits 0 4096 262145) ≡ Some (refusals.TablesFull 262145)
one_entry_more = refl

-- a `!` right before the word
with_sign : unsigned (codes "!10.1/16") ≡ codes "10.1/16"
with_sign = refl

sign_is_seen : is_negated (codes "!10.1/16") ≡ true
sign_is_seen = refl

without_sign : unsigned (codes "10/8") ≡ codes "10/8"
without_sign = refl
