use Rattle.std.proofs.Common.{List, inl, subst, ◌∙◌}
use Rattle.pf_optim.specs.declared.rows.Row.{Row}
use Rattle.pf_source.specs.Disk.{without}
use Rattle.pf_source.specs.Told.{Told, file_of}
use Rattle.pf_state.specs.declared.ready.Ready.{Ready}
use Rattle.pf_engine.specs.FilesRead.{outage_in, read_as}
use Rattle.pf_engine.specs.LoadLines.{FileComes, LineComes, ProfileReads, options_of}
use Rattle.pf_engine.specs.Whatever.{FileMayCome, LineMayCome, ProfileMayCome}
use Rattle.pf_engine.specs.declared.loads.Read.{Read}
use Rattle.pf_engine.proofs.Reading.{file_comes, line_comes, line_refused}
use Rattle.pf_engine.proofs.Results.{if_ok}
use Rattle.pf_engine.proofs.loads.ready_of.Goals as goal

pub returns-in-Is-clause-means : goal.returns-in-Is-clause-means
returns-in-Is-clause-means g c =
    let told = (g.F.Files.tells c.args.files.now).held in
    let line = c.args.line in
    let profile = subst (λ (read : Read (List Row)). Told told (λ held. ProfileReads (without (outage_in (read_as read)) (file_of held)) line.profile (read_as read))) c.in-Is.is c.in_ok-profile.ensures.means in
    if_ok c.loaded_by.result
    (λ (read : Read Ready). Told (g.F.Files.tells c.profile_of.new.files).held (λ held. FileComes (without (outage_in (read_as read)) (file_of held)) c.args.facts.now (options_of line) line.file c.in-Is.profile (read_as read)))
    (λ (read : Read Ready). Told told (λ held. LineComes (without (outage_in (read_as read)) (file_of held)) c.args.facts.now line (read_as read)))
    (λ read means. record { at = λ held is. line_comes (file_of held) c.args.facts.now line c.in-Is.profile (read_as read) (profile.at held is) (means.at held (c.in_ok-profile.ensures.asks.held.held ∙ is)) })
    c.loaded_by.ensures.means

pub returns-clause-means : goal.returns-clause-means
returns-clause-means g c =
    let told = (g.F.Files.tells c.args.files.now).held in
    let line = c.args.line in
    let profile = subst (λ (read : Read (List Row)). Told told (λ held. ProfileReads (without (outage_in (read_as read)) (file_of held)) line.profile (read_as read))) c.in-Refused.is c.in_ok-profile.ensures.means in
    record { at = λ held is. line_refused (file_of held) c.args.facts.now line c.in-Refused.refusal (profile.at held is) }

pub returns-in-Is-clause-comes : goal.returns-in-Is-clause-comes
returns-in-Is-clause-comes g c =
    if_ok c.loaded_by.result (λ (read : Read Ready). FileMayCome (read_as read)) (λ (read : Read Ready). LineMayCome c.args.line (read_as read))
    (λ read comes. file_comes c.args.line (read_as read) comes) c.loaded_by.ensures.comes

pub returns-clause-comes : goal.returns-clause-comes
returns-clause-comes g c = inl (subst (λ (read : Read (List Row)). ProfileMayCome c.args.line.profile (read_as read)) c.in-Refused.is c.in_ok-profile.ensures.comes)
