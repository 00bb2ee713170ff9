-- What the head of a form tells of its rules (pf.conf(5), PACKET FILTERING and ANCHORS).
use Rattle.std.specs.Prelude.{Bool, true, false}
use Rattle.pf_form.specs.declared.form.Head.{Head}
use Rattle.pf_form.specs.declared.form.Head.TheVariants as heads

-- only a pass rule makes a state
abbrev pub makes_states : Head → Bool
makes_states heads.Pass = true
makes_states (heads.Block kind) = false
makes_states heads.Match = false
makes_states (heads.Anchor name body) = false
makes_states heads.Antispoof = false
makes_states (heads.LoadAnchor name file) = false

abbrev pub is_anchor : Head → Bool
is_anchor heads.Pass = false
is_anchor (heads.Block kind) = false
is_anchor heads.Match = false
is_anchor (heads.Anchor name body) = true
is_anchor heads.Antispoof = false
is_anchor (heads.LoadAnchor name file) = false

-- packets are translated by pass and match rules; on an anchor rule the words are read and then refused
abbrev pub may_translate : Head → Bool
may_translate heads.Pass = true
may_translate (heads.Block _) = false
may_translate heads.Match = true
may_translate (heads.Anchor _ _) = true
may_translate heads.Antispoof = false
may_translate (heads.LoadAnchor _ _) = false
