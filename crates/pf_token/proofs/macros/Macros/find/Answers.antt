-- The value that was given from outside, or else the one that a definition gave.
use Rattle.std.proofs.Common.{ℕ, List, Option, ap, sym, ◌∙◌}
use Rattle.std.specs.Prelude.{refl}
use Rattle.std.specs.Ordering.{nat_cmp}
use Rattle.std.specs.Cmp.Lexicographic.{slice_cmp}
use Rattle.std.specs.FinMap.{get, from_entries}
use Rattle.std.specs.Option.{option_or}
use Rattle.std.proofs.lemmas.Bool.{false≢true}
use Rattle.pf_token.specs.Macros.{Table}
use Rattle.pf_token.proofs.NameLemmas.{value_of_named, value_of_none}
use Rattle.pf_token.proofs.macros.Macros.find.Goals as goal

pub returns-in_err-name : goal.returns-in_err-name
returns-in_err-name c =
    rw c.from_residual.ensures (sym (value_of_none c.args.self.now c.args.name.now (λ named. false≢true (c.in_err-name.ensures.some.1 named))))

-- what the two maps have
found : Table → List ℕ → Option (List ℕ)
found macros name = option_or (get macros.given name) (get macros.defined name)

pub returns-in-Some : goal.returns-in-Some
unfolding found
returns-in-Some c =
    let named = c.in_ok-name.ensures.some.0 refl in
    let name = c.in_ok-name.name in
    ap (λ given. option_or given (get (from_entries {R = slice_cmp nat_cmp} c.self.inside.defined.entries) name)) c.in-Some.ensures
    ∙ ap (λ macros. found macros name) c.self.view_is
    ∙ ap (found c.args.self.now) c.in_ok-name.ensures.same
    ∙ sym (value_of_named c.args.self.now c.args.name.now named)

pub returns-in-None : goal.returns-in-None
unfolding found
returns-in-None c =
    let named = c.in_ok-name.ensures.some.0 refl in
    let name = c.in_ok-name.name in
    let defined = get (from_entries {R = slice_cmp nat_cmp} c.self.inside.defined.entries) name in
    c.look_up-in-None.ensures
    ∙ ap (λ given. option_or given defined) c.in-None.ensures
    ∙ ap (λ macros. found macros name) c.self.view_is
    ∙ ap (found c.args.self.now) c.in_ok-name.ensures.same
    ∙ sym (value_of_named c.args.self.now c.args.name.now named)
