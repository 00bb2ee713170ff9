use Rattle.std.proofs.Common.{◌++◌, codes}
use Rattle.std.specs.Option.{option_map}
use Rattle.pf_record.specs.AnswerText.{answer_parts}
use Rattle.pf_parts.specs.ParamText.{label_text, log_text, prio_text, queue_text, scrub_text, tag_text}
use Rattle.pf_parts.specs.Parts.{with_number, word_if}
use Rattle.pf_parts.specs.StateText.{state_text}
use Rattle.pf_record.specs.TranslationText.{nat_text, rdr_text}
use Rattle.pf_record.proofs.JoinLemmas.{Extends-then, pass_joined}
use Rattle.pf_record.proofs.answer.append_pass.Goals as goal

pub returns-clause-ok : goal.returns-clause-ok
unfolding answer_parts
returns-clause-ok c =
    let decision = c.args.decision.now in
    pass_joined c.args.out.now.items _ _ _ _ _ (codes "pass " ++ state_text decision.state decision.options)
    (log_text decision.params.log) (option_map tag_text c.args.tag.now)
    (option_map queue_text decision.params.queue) (option_map prio_text decision.params.prio) (with_number (codes "tos") decision.params.tos)
    (scrub_text decision.params.scrub) (option_map nat_text decision.params.nat) (option_map rdr_text decision.params.rdr) (word_if decision.params.allow_opts (codes "allow-opts")) (option_map label_text decision.label)
    c.in_ok-put_passed.ensures.ok c.in_ok-put_log_and_tag.ensures.ok c.in_ok-put_set.ensures.ok c.in_ok-put_changes.ensures.ok c.in_ok-put_label.ensures.ok

pub returns-clause-kept : goal.returns-clause-kept
returns-clause-kept c =
    Extends-then
    (Extends-then
    (Extends-then (Extends-then c.in_ok-put_passed.ensures.kept c.in_ok-put_log_and_tag.ensures.kept) c.in_ok-put_set.ensures.kept)
    c.in_ok-put_changes.ensures.kept)
    c.in_ok-put_label.ensures.kept
