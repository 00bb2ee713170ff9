use Rattle.std.proofs.Common.{get_or, sym}
use Rattle.std.proofs.lemmas.List.{take_rest}
use Rattle.pf_base.specs.Path.{is_slash}
use Rattle.pf_base.specs.CutLaws.{first_of_position, none_of_position, split_none}
use Rattle.pf_base.proofs.PathReads.{cuts_name}
use Rattle.pf_base.proofs.path_text.first_name.Goals as goal

pub returns-in-None-clause-names : goal.returns-in-None-clause-names
returns-in-None-clause-names c =
    split_none is_slash c.args.text.now (none_of_position is_slash c.args.text.now (sym c.in-None.ensures))

pub returns-in-Some-clause-names : goal.returns-in-Some-clause-names
returns-in-Some-clause-names c =
    let text = c.args.text.now in
    let end = c.in-Some.end in
    rw take_rest (cuts_name text end (get_or text end 0) (first_of_position is_slash text end 0 (sym c.in-Some.ensures)))
