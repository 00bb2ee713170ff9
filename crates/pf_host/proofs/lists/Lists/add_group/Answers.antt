use Rattle.std.proofs.Common.{◌≡◌, ℕ, Bool, List, sym, ◌∙◌}
use Rattle.pf_host.specs.declared.kind.Kind.TheVariants.{Group}
use Rattle.pf_host.specs.Line.{Line, lines_about}
use Rattle.pf_host.specs.Meaning.{AreSaid, SaysNumber, is_named, most_id}
use Rattle.pf_host.specs.Rows.{has_row}
use Rattle.pf_host.specs.Facts.{HostFacts, facts_in}
use Rattle.pf_host.proofs.Causes.{group_bad, group_sound, group_twice}
use Rattle.pf_host.proofs.Pairs.{zip_names}
use Rattle.pf_host.proofs.Said.{group_said}
use Rattle.pf_host.proofs.lists.Lists.add_group.Goals as goal

-- the rows have the names of the lines
named : (before : List Line) (facts : HostFacts) (name : List ℕ) (b : Bool) → AreSaid before facts → has_row facts.groups name ≡ b → is_named Group before name ≡ b
named before facts name b said has = sym (zip_names (SaysNumber most_id) (λ line row h. h.name) (lines_about Group before) facts.groups name said.groups) ∙ has

pub returns-then-has : goal.returns-then-has
returns-then-has c before said = group_twice before c.args.name c.args.word.now (named before (facts_in c.args.self.now) c.args.name _ said (sym c.has.ensures ∙ c.if-has.true))

pub returns-in_default : goal.returns-in_default
returns-in_default c before said = group_bad before c.args.name c.args.word.now (named before (facts_in c.args.self.now) c.args.name _ said (sym c.has.ensures ∙ c.if-has.false)) (sym c.in_default.ensures.value)

pub returns : goal.returns
returns c before said = record {
  sound = group_sound before c.args.name c.args.word.now c.in-Some.number (named before (facts_in c.args.self.now) c.args.name _ said (sym c.has.ensures ∙ c.if-has.false)) (sym c.in-Some.ensures.value);
  said = group_said before (facts_in c.args.self.now) c.args.name c.args.word.now c.in-Some.number c.push.new.self said (sym c.in-Some.ensures.value) c.in_ok-push.ensures.ok;
}
