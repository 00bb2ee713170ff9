use Rattle.std.proofs.Common.{◌≡◌, ◌-◌, length, take, drop, ◌∙◌, arith}
use Rattle.std.proofs.lemmas.List.{length-take-le, length-drop}
use Rattle.std.proofs.lemmas.Result.{err_from_is_err_and}
use Rattle.pfctl.specs.Doing.{world}
use Rattle.pfctl.proofs.Inputs.{ends_at_fault, kept_is_one_line, nothing_so_far, ends_whole, stops_at_last, one_piece, stops_in_piece, ends_past_limit, first_of_piece, cut_piece, whole_piece, gave}
use Rattle.pfctl.proofs.session.Session.read_input.Goals as goal

pub loop-count-init : goal.loop-count-init
loop-count-init g c = record {
  so_far = rw c.new-kept.ensures.items (nothing_so_far c.args.lead.now (world c.args.self.now (g.F.Files.tells c.args.files.now) (g.W.Sink.tells c.args.out.now)) (g.S.Source.tells c.args.input.now));
  drawn = omega arith;
}

pub returns-in_default-clause-ends : goal.returns-in_default-clause-ends
returns-in_default-clause-ends g c =
    ends_at_fault c.args.lead.now _ _ (g.S.Source.tells c.args.input.now) (g.S.Source.tells c.loop-count.input) (g.S.Source.tells c.read.new.self) c.loop-count.kept.items c.loop-count.allowed c.loop-count.invariant.so_far
    c.in_default.ensures.err c.in_default.ensures.given c.in_default.ensures.last c.in_default.ensures.faults

pub returns-in_err-execute_said-clause-ends : goal.returns-in_err-execute_said-clause-ends
returns-in_err-execute_said-clause-ends g c =
    let p = err_from_is_err_and c.from_residual.result c.from_residual.ensures.1 in
    let none : c.in-Ok.count ≡ 0 = c.if-count-eq0.true in
    rw (p.1, p.2) (stops_at_last c.args.lead.now c.in_err-execute_said.field-0.0 _ _ _ (g.S.Source.tells c.args.input.now) (g.S.Source.tells c.loop-count.input) (g.S.Source.tells c.read.new.self) c.loop-count.kept.items c.loop-count.allowed c.loop-count.invariant.so_far
    (rw none at c.in-Ok.ensures.bytes) (rw none at c.in-Ok.ensures.given) (rw none at c.in-Ok.ensures.last) (c.in-Ok.ensures.end none (omega arith)) (rw c.as_slice.ensures.value at c.in_err-execute_said.ensures.runs))

pub returns-then-count-eq0-clause-ends : goal.returns-then-count-eq0-clause-ends
returns-then-count-eq0-clause-ends g c =
    let none : c.in-Ok.count ≡ 0 = c.if-count-eq0.true in
    ends_whole c.args.lead.now _ _ _ (g.S.Source.tells c.args.input.now) (g.S.Source.tells c.loop-count.input) (g.S.Source.tells c.read.new.self) c.loop-count.kept.items c.loop-count.allowed c.loop-count.invariant.so_far
    (rw none at c.in-Ok.ensures.bytes) (rw none at c.in-Ok.ensures.given) (rw none at c.in-Ok.ensures.last) (c.in-Ok.ensures.end none (omega arith)) (rw c.as_slice.ensures.value at c.in_ok-execute_said.ensures.runs)

pub feed-requires-clause-one : goal.feed-requires-clause-one
feed-requires-clause-one g c = kept_is_one_line c.args.lead.now c.lines_go_on.ensures _ _ (g.S.Source.tells c.args.input.now) (g.S.Source.tells c.loop-count.input) c.loop-count.kept.items c.loop-count.allowed c.loop-count.invariant.so_far

pub returns-in_err-feed-clause-ends : goal.returns-in_err-feed-clause-ends
returns-in_err-feed-clause-ends g c =
    let p = err_from_is_err_and c.from_residual-in_err-feed.result c.from_residual-in_err-feed.ensures.1 in
    let buf = c.read.new.buf in
    let long : length (take c.in-Ok.count buf) ≡ c.in-Ok.count = length-take-le c.in-Ok.count buf (omega (arith, c.in-Ok.ensures.within)) in
    rw (p.1, p.2) (stops_in_piece c.args.lead.now c.in_err-feed.field-0.0 _ _ _ (g.S.Source.tells c.args.input.now) (g.S.Source.tells c.loop-count.input) (g.S.Source.tells c.read.new.self) c.loop-count.kept.items (take c.in-Ok.count buf) (take c.loop-count.allowed buf) c.loop-count.allowed c.loop-count.invariant.so_far
    c.in-Ok.ensures.bytes (rw long c.in-Ok.ensures.given) (rw long (c.in-Ok.ensures.last ∙ gave (g.S.Source.tells c.loop-count.input).last c.in-Ok.count (omega arith))) (cut_piece buf c.in-Ok.count c.loop-count.allowed (omega arith)) c.in_err-feed.ensures.runs)

pub returns-then-count-allowed-clause-ends : goal.returns-then-count-allowed-clause-ends
returns-then-count-allowed-clause-ends g c =
    let buf = c.read.new.buf in
    let long : length (take c.in-Ok.count buf) ≡ c.in-Ok.count = length-take-le c.in-Ok.count buf (omega (arith, c.in-Ok.ensures.within)) in
    ends_past_limit c.args.lead.now c.lines_go_on.ensures _ _ _ (g.S.Source.tells c.args.input.now) (g.S.Source.tells c.loop-count.input) (g.S.Source.tells c.read.new.self) c.loop-count.kept.items (take c.in-Ok.count buf) (take c.loop-count.allowed buf) (drop c.loop-count.allowed (take c.in-Ok.count buf)) c.loop-count.allowed c.loop-count.invariant.so_far
    c.in-Ok.ensures.bytes (rw long c.in-Ok.ensures.given) (rw long (c.in-Ok.ensures.last ∙ gave (g.S.Source.tells c.loop-count.input).last c.in-Ok.count (omega arith))) (first_of_piece buf c.in-Ok.count c.loop-count.allowed (omega arith)) (length-take-le c.loop-count.allowed buf (omega (arith, c.in-Ok.ensures.within))) (rw (length-drop c.loop-count.allowed (take c.in-Ok.count buf), long) (omega arith)) c.in_ok-feed.ensures.runs

pub feed-requires-in-loop-count-clause-one : goal.feed-requires-in-loop-count-clause-one
feed-requires-in-loop-count-clause-one g c = kept_is_one_line c.args.lead.now c.lines_go_on.ensures _ _ (g.S.Source.tells c.args.input.now) (g.S.Source.tells c.loop-count.input) c.loop-count.kept.items c.loop-count.allowed c.loop-count.invariant.so_far

pub returns-in_err-feed-2-clause-ends : goal.returns-in_err-feed-2-clause-ends
returns-in_err-feed-2-clause-ends g c =
    let p = err_from_is_err_and c.from_residual-in_err-feed-2.result c.from_residual-in_err-feed-2.ensures.1 in
    let buf = c.read.new.buf in
    let piece = take c.in-Ok.count buf in
    let long : length (take c.in-Ok.count buf) ≡ c.in-Ok.count = length-take-le c.in-Ok.count buf (omega (arith, c.in-Ok.ensures.within)) in
    rw (p.1, p.2) (stops_in_piece c.args.lead.now c.in_err-feed-2.field-0.0 _ _ _ (g.S.Source.tells c.args.input.now) (g.S.Source.tells c.loop-count.input) (g.S.Source.tells c.read.new.self) c.loop-count.kept.items piece piece c.loop-count.allowed c.loop-count.invariant.so_far
    c.in-Ok.ensures.bytes (rw long c.in-Ok.ensures.given) (rw long (c.in-Ok.ensures.last ∙ gave (g.S.Source.tells c.loop-count.input).last c.in-Ok.count (omega arith))) (whole_piece piece c.loop-count.allowed (rw long (omega arith))) c.in_err-feed-2.ensures.runs)

pub loop-count-preserved : goal.loop-count-preserved
loop-count-preserved g c =
    let buf = c.read.new.buf in
    let long : length (take c.in-Ok.count buf) ≡ c.in-Ok.count = length-take-le c.in-Ok.count buf (omega (arith, c.in-Ok.ensures.within)) in
    record {
      so_far = one_piece c.args.lead.now c.lines_go_on.ensures _ _ _ (g.S.Source.tells c.args.input.now) (g.S.Source.tells c.loop-count.input) (g.S.Source.tells c.read.new.self) c.loop-count.kept.items c.feed-in-loop-count.new.kept.items (take c.in-Ok.count buf) c.loop-count.allowed (c.loop-count.allowed - c.in-Ok.count) c.loop-count.invariant.so_far
          c.in-Ok.ensures.bytes (rw long c.in-Ok.ensures.given) (rw long (omega arith)) (rw long (c.in-Ok.ensures.last ∙ gave (g.S.Source.tells c.loop-count.input).last c.in-Ok.count (omega arith))) c.in-Ok.ensures.faults.later c.in_ok-feed-2.ensures.runs c.in_ok-feed-2.ensures.kept c.in_ok-feed-2.ensures.causes (rw long (omega arith));
      drawn = let before = c.loop-count.invariant.drawn in let more = rw long at c.in_ok-feed-2.ensures.drawn in omega arith;
    }
