-- The map's value.
use Rattle.std.proofs.Common.{Some, sym, ap, ◌∙◌}
use Rattle.pf_token.proofs.macros.look_up.Goals as goal

pub returns-in_err-value : goal.returns-in_err-value
returns-in_err-value c =
    rw c.from_residual.ensures (c.in_err-value.ensures.value ∙ sym (c.name_map_laws.ensures.found c.args.values.now c.args.name.now))

pub returns : goal.returns
returns c =
    ap Some c.items.ensures ∙ c.in_ok-value.ensures.value ∙ sym (c.name_map_laws.ensures.found c.args.values.now c.args.name.now)
