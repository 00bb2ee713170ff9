use Rattle.std.proofs.Common.{◌++◌, codes}
use Rattle.std.specs.Option.{option_map}
use Rattle.pf_parts.specs.BlockText.{block_text}
use Rattle.pf_record.specs.AnswerText.{answer_parts}
use Rattle.pf_parts.specs.ParamText.{label_text, log_text, tag_text}
use Rattle.pf_record.proofs.JoinLemmas.{block_joined}
use Rattle.pf_record.proofs.answer.append_block.Goals as goal

pub returns-clause-ok : goal.returns-clause-ok
unfolding answer_parts
returns-clause-ok c =
    block_joined c.args.out.now.items _ _ _ (codes "block " ++ block_text c.args.kind)
    (log_text c.args.decision.now.params.log) (option_map tag_text c.args.tag.now) (option_map label_text c.args.decision.now.label)
    c.in_ok-put_blocked.ensures.ok c.in_ok-put_log_and_tag.ensures.ok c.in_ok-put_label.ensures.ok
