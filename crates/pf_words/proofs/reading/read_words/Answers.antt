use Rattle.std.proofs.Common.{rules, ◌≡◌, ◌∙◌}
use Rattle.std.proofs.lemmas.Result.{IfOk-weaker}
use Rattle.clap.specs.Words.{app_of}
use Rattle.pf_words.specs.Program.{program}
use Rattle.pf_words.proofs.ByClap.{err_same, refused, taken}
use Rattle.pf_words.proofs.reading.read_words.Goals as goal

pub returns-in-Ok-try_get_matches_from-clause-read : goal.returns-in-Ok-try_get_matches_from-clause-read
returns-in-Ok-try_get_matches_from-clause-read c =
    let ours : app_of c.in-Ok.command ≡ program = search rules in
    let ok = c.in-Ok-try_get_matches_from.ensures in
    IfOk-weaker c.said_in.result _ _ (λ said says. taken (app_of c.in-Ok.command) _ c.in-Ok-try_get_matches_from.matches ours ok.kinds ok.matches ∙ says) c.said_in.ensures.read

pub returns-in-Ok-try_get_matches_from-clause-refused : goal.returns-in-Ok-try_get_matches_from-clause-refused
returns-in-Ok-try_get_matches_from-clause-refused c =
    let ours : app_of c.in-Ok.command ≡ program = search rules in
    let ok = c.in-Ok-try_get_matches_from.ensures in
    λ e. taken (app_of c.in-Ok.command) _ c.in-Ok-try_get_matches_from.matches ours ok.kinds ok.matches ∙ c.said_in.ensures.refused e

pub returns-in-Err-clause-refused : goal.returns-in-Err-clause-refused
returns-in-Err-clause-refused c =
    let ours : app_of c.in-Ok.command ≡ program = search rules in
    let err = c.in-Err.ensures in
    λ e. refused (app_of c.in-Ok.command) _ c.in-Err.error ours err.kinds (c.fault_of.ensures (err_same _ _ e))
