use Rattle.std.proofs.Common.{◌≡◌, ℕ, List, sym, subst}
use Rattle.pf_addr.specs.PrefixText.{IsPrefixText}
use Rattle.pf_state.proofs.words.entry_of.Goals as goal

pub returns-in-Err-clause-none : goal.returns-in-Err-clause-none
returns-in-Err-clause-none c entry is =
    let other = c.in-Err.ensures.only entry.prefix (subst (λ (text : List ℕ). IsPrefixText text entry.prefix) (sym c.unsigned.ensures) is.text) in
    cc
