use Rattle.pfctl.proofs.program.perform.Goals as goal

pub returns-in-Load-clause-means : goal.returns-in-Load-clause-means
returns-in-Load-clause-means g c = rw c.in-Load.is c.answer_records.ensures.means

pub returns-in-Load-clause-cause : goal.returns-in-Load-clause-cause
returns-in-Load-clause-cause g c = rw c.in-Load.is c.answer_records.ensures.cause

pub returns-in-Script-clause-means : goal.returns-in-Script-clause-means
returns-in-Script-clause-means g c = rw c.in-Script.is c.run_script.ensures.means

pub returns-in-Script-clause-cause : goal.returns-in-Script-clause-cause
returns-in-Script-clause-cause g c = rw c.in-Script.is c.run_script.ensures.cause

pub returns-in-Generate-clause-means : goal.returns-in-Generate-clause-means
returns-in-Generate-clause-means g c =
    rw c.in-Generate.is (record { at = λ held is. c.summarise.ensures.means (g.F.Files.tells c.args.files.now) (g.S.Source.tells c.args.input.now) })

pub returns-in-Generate-clause-cause : goal.returns-in-Generate-clause-cause
returns-in-Generate-clause-cause g c =
    rw c.in-Generate.is (c.summarise.ensures.means (g.F.Files.tells c.args.files.now) (g.S.Source.tells c.args.input.now), c.summarise.ensures.cause (g.F.Files.tells c.args.files.now) (g.S.Source.tells c.args.input.now))
