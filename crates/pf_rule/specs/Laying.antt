-- The parameters of a rule laid over others, as several match rules set them one after the other: what has a value
-- replaces the other where it is given, and what is only set or not set stays set once it is set.
use Rattle.std.specs.Prelude.{◌||◌}
use Rattle.std.specs.Option.{option_or}
use Rattle.pf_parts.specs.Laying.{log_over, scrub_over}
use Rattle.pf_rule.specs.declared.params.Params.{Params}
use Rattle.pf_rule.specs.Translation.{target_over}

-- the new parameters over the old ones
abbrev pub laid_over : Params → Params → Params
laid_over new old = record {
  queue = option_or new.queue old.queue;
  prio = option_or new.prio old.prio;
  tos = option_or new.tos old.tos;
  scrub = scrub_over new.scrub old.scrub;
  log = log_over new.log old.log;
  allow_opts = old.allow_opts || new.allow_opts;
  nat = target_over new.nat old.nat;
  rdr = target_over new.rdr old.rdr;
}
