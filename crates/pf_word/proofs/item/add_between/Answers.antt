use Rattle.std.proofs.Common.{◌≡◌, ◌∙◌, ◌∷◌, [], Ok, Err, ap, refl, sym}
use Rattle.pf_addr.specs.declared.range.RangeFault.{RangeFault}
use Rattle.pf_addr.specs.declared.range.RangeFault.TheVariants.{TwoFamilies, LowAboveHigh}
use Rattle.pf_addr.specs.declared.range.Range.{Range}
use Rattle.pf_base.specs.declared.fault.FaultKind.TheVariants as kinds
use Rattle.pf_rule.specs.declared.criteria.AddrSet.TheVariants as sets
use Rattle.pf_rule.specs.declared.criteria.AddrTest.TheVariants as tests
use Rattle.pf_word.specs.Hosts.{RangeMeans, a_range, two_families, falls}
use Rattle.pf_word.specs.Words.{failed, found}
use Rattle.pf_word.proofs.Adding.{adds_ok}
use Rattle.pf_word.proofs.item.add_between.Goals as goal

pub returns-in-Ok : goal.returns-in-Ok
returns-in-Ok c =
    adds_ok c.find.result (RangeMeans c.args.low.now c.args.negated c.args.first.now c.args.last.now) c.args.words.now c.find.new.self (found (tests.Test c.args.negated (sets.Range c.in-Ok.range)))
    (a_range c.in-Ok.range c.in-Ok.ensures.ok refl) c.find.ensures

pub returns-in-Err-TwoFamilies : goal.returns-in-Err-TwoFamilies
returns-in-Err-TwoFamilies c =
    let is = rw c.in-Err-TwoFamilies.field-0-is at c.in-Err-TwoFamilies.ensures in
    adds_ok c.fail.result (RangeMeans c.args.low.now c.args.negated c.args.first.now c.args.last.now) c.args.words.now c.fail.new.self (failed kinds.FamilyMismatch)
    (two_families (is.two_families.0 refl) refl) c.fail.ensures

pub returns-in-Err-LowAboveHigh : goal.returns-in-Err-LowAboveHigh
returns-in-Err-LowAboveHigh c =
    let is = rw c.in-Err-LowAboveHigh.field-0-is at c.in-Err-LowAboveHigh.ensures in
    adds_ok c.fail-in-Err-LowAboveHigh.result (RangeMeans c.args.low.now c.args.negated c.args.first.now c.args.last.now) c.args.words.now c.fail-in-Err-LowAboveHigh.new.self (failed (kinds.NotAnAddress c.named_in_fault.result))
    (falls (is.low_above_high.0 refl) (ap (λ w. failed (kinds.NotAnAddress w)) c.named_in_fault.ensures)) c.fail-in-Err-LowAboveHigh.ensures
