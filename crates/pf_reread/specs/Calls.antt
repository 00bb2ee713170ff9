-- Which call the rules of a statement have (pf.conf(5), ANCHORS).
use Rattle.std.specs.Prelude.{Some, None}
use Rattle.pf_form.specs.declared.form.Head.{Head}
use Rattle.pf_form.specs.declared.form.Head.TheVariants as heads
use Rattle.pf_parts.specs.CallText.{IsCallText}
use Rattle.pf_parts.specs.declared.call.Call.{Call}

-- An anchor has the call that its name says, and an anchor without a name has none that a text says. The rules of other statements
-- have no call.
abbrev pub HasCall : Head → Call → Type 0
HasCall (heads.Anchor (Some text) body) call = IsCallText call text
HasCall (heads.Anchor None body) call = ⊥
HasCall heads.Pass call = Unit {0}
HasCall heads.Match call = Unit {0}
HasCall (heads.Block kind) call = Unit {0}
HasCall heads.Antispoof call = Unit {0}
HasCall (heads.LoadAnchor name file) call = Unit {0}
