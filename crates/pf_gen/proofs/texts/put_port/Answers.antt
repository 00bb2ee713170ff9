use Rattle.std.proofs.Common.{rules, ◌≡◌, ◌∙◌, ◌++◌, ◌+◌, ℕ, ap, codes}
use Rattle.std.specs.Fmt.{decimal}
use Rattle.pf_gen.specs.Draws.{after, following, value_of}
use Rattle.pf_gen.specs.Texts.{port_part}
use Rattle.pf_gen.proofs.texts.put_port.Goals as goal

pub returns-clause-ok : goal.returns-clause-ok
unfolding after port_part
returns-clause-ok c =
    let drawn : c.draw-port.result ≡ value_of (following c.args.number.now) 1000 = search rules in
    c.in_ok-put_numbered.ensures.ok ∙ ap (λ (n : ℕ). c.args.out.now.items ++ (codes " to any port " ++ decimal (n + 1))) drawn
