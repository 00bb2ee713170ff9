use Rattle.std.proofs.Common.{◌≡◌, drop}
use Rattle.pf_syntax.specs.Fault.{is_one_of}
use Rattle.pf_syntax.specs.LeftOut.{texts_of}
use Rattle.pf_syntax.proofs.listed.is_one_of.Given as goal

-- the words that are left have the answer of all words
abbrev pub invariant-loop-known : goal.invariant-loop-known
invariant-loop-known l = is_one_of (texts_of (drop l.known-index l.words)) l.word ≡ is_one_of (texts_of l.words) l.word
