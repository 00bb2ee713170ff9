-- Faults of a form that count behind those of its words: flags that are none, options of a state, and what an anchor rule
-- can't have (pf.conf(5), STATEFUL FILTERING and ANCHORS).
use Rattle.std.specs.Prelude.{Bool, ◌&&◌, ◌||◌, not, Option, Some, None, is_some, if◌then◌else◌}
use Rattle.pf_parts.specs.declared.state.StateOptions.{StateOptions}
use Rattle.pf_syntax.specs.declared.fault.FormFault.{FormFault}
use Rattle.pf_syntax.specs.declared.fault.FormFault.TheVariants.{BadFlags, StateOptions as OptionsFault, AnchorEffect}
use Rattle.pf_form.specs.declared.form.Draft.{Draft}
use Rattle.pf_form.specs.declared.form.RuleForm.{RuleForm}
use Rattle.pf_form.specs.Kinds.{is_anchor, makes_states}
use Rattle.pf_form.specs.Settings.{is_no_scrub}

-- options that exclude each other, or a table of sources for which no limit is given
abbrev pub options_clash : StateOptions → Bool
options_clash options =
    (options.if_bound && options.floating)
    || (is_some options.overload && not (is_some options.max_src_conn || is_some options.max_src_conn_rate))

-- a state clause where no state is made, an option of it twice, or options that clash
unfoldable pub has_state_fault : Draft → Bool
has_state_fault draft =
    (is_some draft.form.state && not (makes_states draft.form.head)) || draft.repeated_option || options_clash draft.form.options

-- a log, a part of `set`, scrub or allow-opts
abbrev pub has_params : RuleForm → Bool
has_params form =
    form.params.log.on || is_some form.params.queue || is_some form.params.prio || is_some form.params.tos
    || not (is_no_scrub form.params.scrub) || form.params.allow_opts

-- an anchor rule with a log, a tag, a state clause, `set`, scrub, allow-opts, a label or a translation
unfoldable pub has_anchor_effect : RuleForm → Bool
has_anchor_effect form = is_anchor form.head
    && (has_params form || is_some form.tag || is_some form.state || is_some form.label || is_some form.nat || is_some form.rdr)

-- the first of them
unfoldable pub late_of : Draft → Option FormFault
late_of draft =
    if draft.unknown_flag then Some BadFlags
    else if has_state_fault draft then Some OptionsFault
    else if has_anchor_effect draft.form then Some AnchorEffect
    else None
