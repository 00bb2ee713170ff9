-- Parts laid over others, as several match rules set them one after the other: what has a value replaces the other
-- where it is given, and what is only set or not set stays set once it is set.
use Rattle.std.specs.Prelude.{◌||◌}
use Rattle.std.specs.Option.{option_or}
use Rattle.pf_parts.specs.declared.params.Log.{Log}
use Rattle.pf_parts.specs.declared.params.Scrub.{Scrub}

abbrev pub scrub_over : Scrub → Scrub → Scrub
scrub_over new old = record {
  no_df = old.no_df || new.no_df;
  random_id = old.random_id || new.random_id;
  reassemble_tcp = old.reassemble_tcp || new.reassemble_tcp;
  min_ttl = option_or new.min_ttl old.min_ttl;
  max_mss = option_or new.max_mss old.max_mss;
}

abbrev pub log_over : Log → Log → Log
log_over new old = record {
  on = old.on || new.on;
  all = old.all || new.all;
  matches = old.matches || new.matches;
  user = old.user || new.user;
  to = option_or new.to old.to;
}
