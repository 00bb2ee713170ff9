use Rattle.std.proofs.Common.{Some}
use Rattle.pf_load.proofs.Saying.{stays_of}
use Rattle.pf_load.proofs.Something.{load_somehow}
use Rattle.pf_load.proofs.laws.a_load_comes_to_something.Goals as goal

pub returns : goal.returns
returns c = λ disk facts options file.
    let drafts = c.drafts_stay_within.ensures in
    load_somehow (record {
      leads = c.something_leads.ensures;
      lead_within = c.lead_stays_within.ensures;
      open_within = c.opening_stays_within.ensures;
      finish = c.units_finish.ensures;
      empty = c.empty_files_say_nothing.ensures;
      ends = c.ends_come_to_something.ensures;
      end_within = λ count draft fault has places. c.ends_stay_within.ensures count draft (Some fault) has places;
      next_within = drafts.unit;
      begun_within = drafts.begun;
    }) disk (record {
      stay = record { rules = drafts.rules; table = drafts.table; lines = drafts.lines; queue = drafts.queue; opened = drafts.opened; closed = drafts.closed; loads = drafts.load };
      declared = c.tokens_declare_or_are_refused.ensures;
      expanded = c.a_statement_comes_to_something.ensures;
      tabled = c.declarations_come_to_something.ensures;
      table_stays = λ disk facts tables form place reads later answer comes low. stays_of reads later answer (c.declarations_stay_within.ensures disk facts tables form place reads later answer comes low);
    }) facts options file
