use Rattle.pf_source.specs.KnownLaws.{written_more, written_front, Appends-none}
use Rattle.pf_source.proofs.real.write_whole.Goals as goal

pub loop-rest-preserved : goal.loop-rest-preserved
loop-rest-preserved g c =
    written_more (g.W.Write.contents c.args.output.now) (g.W.Write.contents c.loop-rest.output) (g.W.Write.contents c.write.new.self) c.args.piece.now c.loop-rest.rest.now c.in-Ok.count c.loop-rest.invariant c.in-Ok.ensures.bound c.in-Ok.ensures.bytes

pub returns-in_default : goal.returns-in_default
returns-in_default g c =
    written_front (g.W.Write.contents c.args.output.now) (g.W.Write.contents c.loop-rest.output) (g.W.Write.contents c.write.new.self) c.args.piece.now c.loop-rest.rest.now c.loop-rest.invariant
    (Appends-none (g.W.Write.contents c.loop-rest.output) (g.W.Write.contents c.write.new.self) c.loop-rest.rest.now c.in-Ok.count c.if-count-gt0.false c.in-Ok.ensures.bytes)

pub returns-in_default-2 : goal.returns-in_default-2
returns-in_default-2 g c =
    written_front (g.W.Write.contents c.args.output.now) (g.W.Write.contents c.loop-rest.output) (g.W.Write.contents c.write.new.self) c.args.piece.now c.loop-rest.rest.now c.loop-rest.invariant c.in_default.ensures.bytes
