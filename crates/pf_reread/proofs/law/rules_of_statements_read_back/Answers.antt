use Rattle.pf_reread.proofs.law.rules_of_statements_read_back.Goals as goal

pub returns : goal.returns
returns c = λ tokens body form call order said facts defaults room rules file formed has_call text policy comes values place k d within.
    c.written_rules_read_back.ensures values place _ (c.rules_of_statements_are_written.ensures tokens body form call order said facts defaults room rules file formed has_call text policy comes k d within)
