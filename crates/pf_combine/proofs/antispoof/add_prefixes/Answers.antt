use Rattle.std.proofs.Common.{◌≡◌, ◌++◌, ◌∷◌, [], ◌<◌, Some, true, length, take, map, sym, ap, ◌∙◌, arith}
use Rattle.pf_addr.specs.Addr.{family_of}
use Rattle.pf_addr.specs.declared.prefix.Prefix.{Prefix}
use Rattle.pf_combine.specs.Antispoof.{from_prefix, of_written}
use Rattle.pf_combine.specs.Walk.{fits}
use Rattle.pf_combine.proofs.Combined.{added_within}
use Rattle.pf_combine.proofs.Loops.{map_one}
use Rattle.pf_combine.proofs.antispoof.add_prefixes.Goals as goal

pub loop-prefix-preserved : goal.loop-prefix-preserved
loop-prefix-preserved c =
    let prefix = c.prefix-item.result in
    let prefixes = c.args.prefixes.now in
    let low : c.loop-prefix.prefix-index < length prefixes = omega arith in
    let keeps = λ (p : Prefix). fits c.args.written (Some (family_of p.addr)) in
    let give = from_prefix c.args.start.now c.args.test.now in
    let kept : fits c.args.written (Some (family_of prefix.addr)) ≡ true = cc (c.if-not-fits.false, c.fits.ensures, c.family.ensures) in
    let adds = c.in_ok-push_within.ensures ∙ ap (λ x. take c.args.room (c.loop-prefix.found ++ x ∷ [])) c.from_prefix.ensures in
    added_within c.args.room c.args.found.now (map give (of_written c.args.written (take c.loop-prefix.prefix-index prefixes))) (give prefix ∷ []) c.loop-prefix.found c.push_within.new.found c.loop-prefix.invariant adds
    ∙ ap (λ x. take c.args.room (c.args.found.now ++ x)) (sym (map_one keeps give prefixes c.loop-prefix.prefix-index prefix low c.prefix-item.is kept))
