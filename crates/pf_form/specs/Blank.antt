-- A form of which only the head is known.
use Rattle.std.specs.Prelude.{ℕ, Bool, false, List, [], Option, None}
use Rattle.pf_parts.specs.Defaults.{no_options}
use Rattle.pf_parts.specs.declared.matching.TagTest.TheVariants.{Any}
use Rattle.pf_rule.specs.Opening.{no_params}
use Rattle.pf_form.specs.declared.form.RuleForm.{RuleForm}
use Rattle.pf_form.specs.declared.form.Draft.{Draft}
use Rattle.pf_form.specs.declared.form.Head.{Head}

abbrev pub blank_form : Head → RuleForm
blank_form head = record {
  head = head;
  direction = None;
  quick = false;
  family = None;
  flags = None;
  tos = None;
  prio = None;
  tagged = Any;
  tag = None;
  state = None;
  options = no_options;
  params = no_params;
  label = None;
  ifaces = [];
  protos = [];
  icmp = [];
  sources = [];
  source_ports = [];
  targets = [];
  target_ports = [];
  users = [];
  groups = [];
  nat = None;
  rdr = None;
}

abbrev pub blank : Head → Draft
blank head = record { form = blank_form head; unknown_flag = false; repeated_option = false; group_first = false; rdr_first = false }

-- the draft with another form
abbrev pub with_form : Draft → RuleForm → Draft
with_form draft form = record draft { form = form }
