use Rattle.std.proofs.Common.{◌≡◌, ◌≤◌, ℕ, Bool, true, length, List, sym, ap, ◌∙◌, arith}
use Rattle.std.specs.List.{list_any}
use Rattle.std.specs.Str.{bytes_eq}
use Rattle.std.proofs.lemmas.Bool.{le-leb, lt-leb}
use Rattle.pf_host.specs.Facts.{HostFacts, facts_in}
use Rattle.pf_host.specs.declared.kind.Kind.TheVariants.{Address, Interface}
use Rattle.pf_host.specs.Line.{Line, lines_about}
use Rattle.pf_host.specs.Meaning.{AreSaid, SaysAddress, is_named}
use Rattle.pf_host.proofs.Causes.{address_full, address_sound}
use Rattle.pf_host.proofs.Pairs.{zip_length}
use Rattle.pf_host.proofs.Said.{address_said}
use Rattle.pf_host.proofs.lists.Lists.add_address.Goals as goal

-- the interfaces are the names of the lines
named : (before : List Line) (facts : HostFacts) (name : List ℕ) (b : Bool) → AreSaid before facts → list_any (λ known. bytes_eq known name) facts.interfaces ≡ b → is_named Interface before name ≡ b
named before facts name b said has = ap (list_any (λ known. bytes_eq known name)) (sym said.interfaces) ∙ has

-- as many addresses as lines
counted : (before : List Line) (facts : HostFacts) → AreSaid before facts → length facts.addresses ≡ length (lines_about Address before)
counted before facts said = zip_length SaysAddress (lines_about Address before) facts.addresses said.addresses

pub returns-then-len-ge-MOST : goal.returns-then-len-ge-MOST
returns-then-len-ge-MOST c before said =
    let many : 1024 ≤ length (lines_about Address before) = omega (arith, counted before (facts_in c.args.self.now) said, c.len.ensures) in
    address_full before c.args.iface c.args.word.now c.in-Ok.address (named before (facts_in c.args.self.now) c.args.iface true said (sym c.has.ensures ∙ c.if-not-has.false)) c.in-Ok.ensures.found (le-leb 1024 (length (lines_about Address before)) many)

pub returns : goal.returns
returns c before said =
    let few = counted before (facts_in c.args.self.now) said in
    record {
      sound = address_sound before c.args.iface c.args.word.now c.in-Ok.address (named before (facts_in c.args.self.now) c.args.iface true said (sym c.has.ensures ∙ c.if-not-has.false)) c.in-Ok.ensures.found (lt-leb 1024 (length (lines_about Address before)) (omega (arith, few, c.len.ensures)));
      said = address_said before (facts_in c.args.self.now) c.args.iface c.args.word.now c.in-Ok.address c.push.new.self said c.in-Ok.ensures.found c.in_ok-push.ensures.ok;
    }
