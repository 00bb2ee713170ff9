use Rattle.pf_engine.proofs.Beginning.{opened_anew}
use Rattle.pf_engine.proofs.GoingStale.{commit_in_run, commit_refuses, commit_tells, goes_stale}
use Rattle.pf_engine.proofs.laws.a_commit_is_stale_where_a_ruleset_was_begun_anew.Goals as goal

pub returns-clause-opened : goal.returns-clause-opened
returns-clause-opened c = opened_anew

pub returns-clause-later : goal.returns-clause-later
returns-clause-later c = goes_stale c.rulesets_are_begun_with_the_next_ticket.ensures.begun

pub returns-clause-tells : goal.returns-clause-tells
returns-clause-tells c = commit_tells

pub returns-clause-first : goal.returns-clause-first
returns-clause-first c = commit_refuses

pub returns-clause-exactly : goal.returns-clause-exactly
returns-clause-exactly c = commit_in_run c.rulesets_are_begun_with_the_next_ticket.ensures.begun
