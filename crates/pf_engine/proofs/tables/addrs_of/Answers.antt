use Rattle.std.proofs.Common.{List, ℕ, Err, sym, subst, ◌∙◌}
use Rattle.pf_addr.specs.Grammar.{IsAddrText}
use Rattle.pf_addr.specs.declared.addr.Addr.{Addr}
use Rattle.pf_state.specs.Words.{ReadsAll}
use Rattle.pf_engine.proofs.Tabling.{GoesOn, all_read, begins, not_read, one_more}
use Rattle.pf_engine.proofs.tables.addrs_of.Goals as goal

pub loop-word-init : goal.loop-word-init
loop-word-init c = subst (λ (items : List Addr). GoesOn IsAddrText c.args.words c.args.words items) (sym c.new-addrs.ensures) (begins IsAddrText c.args.words)

pub loop-word-preserved : goal.loop-word-preserved
loop-word-preserved c =
    one_more IsAddrText c.args.words c.loop-word.left c.next_word.new.self c.loop-word.addrs c.push.new.self c.in-Some.word.now c.in-Some-addr_of.addr
    c.in-Some.ensures.some c.in_ok-push-in-Some-addr_of.ensures.ok c.in-Some-addr_of.ensures.found c.loop-word.invariant

pub returns-in-None : goal.returns-in-None
returns-in-None c =
    subst (λ (word : List ℕ). ReadsAll IsAddrText c.args.words (Err word)) (sym (c.of.ensures ∙ c.in_ok-from_slice-in-None.ensures.items))
    (not_read IsAddrText c.args.words c.loop-word.left c.next_word.new.self c.loop-word.addrs c.in-Some.word.now c.in-Some.ensures.some c.in-None.ensures.none c.loop-word.invariant)

pub returns : goal.returns
returns c = all_read IsAddrText c.args.words c.loop-word.left c.loop-word.addrs c.in_default.ensures.none c.loop-word.invariant
