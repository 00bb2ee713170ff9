use Rattle.std.proofs.Common.{◌≡◌, ℕ, Bool, List, sym, ◌∙◌}
use Rattle.pf_host.specs.declared.kind.Kind.TheVariants.{Service}
use Rattle.pf_host.specs.Line.{Line, lines_about}
use Rattle.pf_host.specs.Meaning.{AreSaid, SaysNumber, is_named, most_port}
use Rattle.pf_host.specs.Rows.{has_row}
use Rattle.pf_host.specs.Facts.{HostFacts, facts_in}
use Rattle.pf_host.proofs.Causes.{service_bad, service_sound, service_twice}
use Rattle.pf_host.proofs.Pairs.{zip_names}
use Rattle.pf_host.proofs.Said.{service_said}
use Rattle.pf_host.proofs.lists.Lists.add_service.Goals as goal

-- the rows have the names of the lines
named : (before : List Line) (facts : HostFacts) (name : List ℕ) (b : Bool) → AreSaid before facts → has_row facts.services name ≡ b → is_named Service before name ≡ b
named before facts name b said has = sym (zip_names (SaysNumber most_port) (λ line row h. h.name) (lines_about Service before) facts.services name said.services) ∙ has

pub returns-then-has : goal.returns-then-has
returns-then-has c before said = service_twice before c.args.name c.args.word.now (named before (facts_in c.args.self.now) c.args.name _ said (sym c.has.ensures ∙ c.if-has.true))

pub returns-in_default : goal.returns-in_default
returns-in_default c before said = service_bad before c.args.name c.args.word.now (named before (facts_in c.args.self.now) c.args.name _ said (sym c.has.ensures ∙ c.if-has.false)) (sym c.in_default.ensures.value)

pub returns : goal.returns
returns c before said = record {
  sound = service_sound before c.args.name c.args.word.now c.in-Some.number (named before (facts_in c.args.self.now) c.args.name _ said (sym c.has.ensures ∙ c.if-has.false)) (sym c.in-Some.ensures.value);
  said = service_said before (facts_in c.args.self.now) c.args.name c.args.word.now c.in-Some.number c.push.new.self said (sym c.in-Some.ensures.value) c.in_ok-push.ensures.ok;
}
