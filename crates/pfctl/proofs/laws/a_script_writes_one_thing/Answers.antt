use Rattle.pfctl.proofs.laws.a_script_writes_one_thing.Goals as goal

pub returns : goal.returns
returns c = λ disk machine lines a b. c.a_script_has_one_run.ensures disk (c.a_line_does_one_thing.ensures disk) machine lines a b
