use Rattle.pf_script.specs.Options.{load_line_of, options_and_file}
use Rattle.pf_script.proofs.Laid.{begins, read_on, read_stop}
use Rattle.pf_script.proofs.loading.read_load.Goals as goal

pub loop-word-init : goal.loop-word-init
unfolding load_line_of
loop-word-init c = rw c.new-given.ensures (begins (options_and_file c.args.words.now))

pub returns-then-not-branch : goal.returns-then-not-branch
returns-then-not-branch c =
    read_stop (load_line_of c.args.words.now) c.loop-word.given c.add.new.self c.loop-word.words c.next_word.new.self c.next_word-in-Some.new.self c.in-Some.word.now c.in-Some-next_word.value.now c.in_ok-add.field-0 c.loop-word.invariant c.in-Some.ensures.some c.in-Some-next_word.ensures.some c.in_ok-add.ensures c.if-not-branch.true

pub loop-word-preserved : goal.loop-word-preserved
loop-word-preserved c =
    read_on (load_line_of c.args.words.now) c.loop-word.given c.add.new.self c.loop-word.words c.next_word.new.self c.next_word-in-Some.new.self c.in-Some.word.now c.in-Some-next_word.value.now c.in_ok-add.field-0 c.loop-word.invariant c.in-Some.ensures.some c.in-Some-next_word.ensures.some c.in_ok-add.ensures c.if-not-branch.false
