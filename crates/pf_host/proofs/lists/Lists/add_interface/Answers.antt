use Rattle.std.proofs.Common.{◌≡◌, ◌<◌, ℕ, Bool, false, length, List, sym, ap, ◌∙◌, arith}
use Rattle.std.specs.List.{list_any}
use Rattle.std.specs.Option.{option_copied}
use Rattle.std.specs.Str.{bytes_eq}
use Rattle.std.proofs.lemmas.Bool.{lt-leb}
use Rattle.std.proofs.lemmas.List.{length-map}
use Rattle.pf_host.specs.Facts.{HostFacts, facts_in}
use Rattle.pf_host.specs.declared.kind.Kind.TheVariants.{Interface}
use Rattle.pf_host.specs.Line.{Line, lines_about}
use Rattle.pf_host.specs.Meaning.{AreSaid, is_named}
use Rattle.pf_host.specs.Reading.{fields_left}
use Rattle.pf_host.proofs.Causes.{interface_sound}
use Rattle.pf_host.proofs.Said.{interface_said}
use Rattle.pf_host.proofs.lists.Lists.add_interface.Goals as goal

-- the interfaces are the names of the lines
named : (before : List Line) (facts : HostFacts) (name : List ℕ) (b : Bool) → AreSaid before facts → list_any (λ known. bytes_eq known name) facts.interfaces ≡ b → is_named Interface before name ≡ b
named before facts name b said has = ap (list_any (λ known. bytes_eq known name)) (sym said.interfaces) ∙ has

-- as many interfaces as lines
counted : (before : List Line) (facts : HostFacts) → AreSaid before facts → length facts.interfaces ≡ length (lines_about Interface before)
counted before facts said = ap length said.interfaces ∙ length-map (lines_about Interface before) (λ line. line.name)

pub returns : goal.returns
returns c before said =
    let few : length (lines_about Interface before) < 1024 = omega (arith, counted before (facts_in c.args.self.now) said, ap length c.items.ensures, c.if-items-ge-MOST.false) in
    let rest = fields_left (option_copied c.args.rest) in
    record {
      sound = interface_sound before c.args.name rest (named before (facts_in c.args.self.now) c.args.name false said (sym c.has.ensures ∙ c.if-has.false)) (lt-leb 1024 (length (lines_about Interface before)) few);
      said = interface_said before (facts_in c.args.self.now) c.args.name rest c.push.new.self c.add_groups.new.members said c.in_ok-push.ensures.ok c.in_ok-add_groups.ensures;
    }
