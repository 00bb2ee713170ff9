-- The file's cells, or why there are none.
use Rattle.std.proofs.Common.{[], Ok, Err, ap}
use Rattle.pf_source.specs.Told.{file_of}
use Rattle.pf_lexer.specs.ReadSoFar.{ReadSoFar}
use Rattle.pf_lexer.proofs.Numbers.{has_its_number}
use Rattle.pf_lexer.proofs.OpeningLemmas.{opens_file, opens_none, none_numbered, file_in, file_weight, asks_made, asks_unopened, made_by}
use Rattle.pf_lexer.proofs.unit.open_file.Goals as goal

pub returns-in-Ok-clause-ok : goal.returns-in-Ok-clause-ok
returns-in-Ok-clause-ok g c = record {
  at = λ held told.
      opens_file (file_of held) c.args.name c.args.reads.now c.read.new.self c.in-Ok.file.number c.in-Ok.file.text c.new.result
      (c.in-Ok.ensures.look.at held told) c.new.ensures c.in-Ok.ensures.after;
}

pub returns-in-Ok-clause-within : goal.returns-in-Ok-clause-within
returns-in-Ok-clause-within g c = file_in c.read.new.self.names c.args.name c.in-Ok.file.text c.in-Ok.file.number c.new.result c.in-Ok.ensures.named c.new.ensures

pub returns-in-Ok-clause-lighter : goal.returns-in-Ok-clause-lighter
returns-in-Ok-clause-lighter g c =
    file_weight c.new.result c.in-Ok.file.number c.in-Ok.file.text c.args.reads.now.left c.read.new.self.left c.new.ensures (ap (λ (r : ReadSoFar). r.left) c.in-Ok.ensures.after) c.in-Ok.ensures.within

pub returns-in-Err-clause-err : goal.returns-in-Err-clause-err
returns-in-Err-clause-err g c = record {
  at = λ held told.
      rw c.unopened.ensures
      (opens_none (file_of held) c.args.name c.args.reads.now c.read.new.self c.in-Err.fault (c.in-Err.ensures.look.at held told) c.in-Err.ensures.after);
}

pub returns-in-Err-clause-places : goal.returns-in-Err-clause-places
returns-in-Err-clause-places g c = rw c.unopened.ensures (none_numbered c.read.new.self.names c.args.name c.in-Err.fault c.in-Err.ensures.named)

pub returns-in-Ok-clause-numbered : goal.returns-in-Ok-clause-numbered
returns-in-Ok-clause-numbered g c =
    rw (ap (λ (r : ReadSoFar). r.names) c.in-Ok.ensures.after) (has_its_number c.args.reads.now.names c.args.name)

pub returns-in-Ok-clause-asks : goal.returns-in-Ok-clause-asks
returns-in-Ok-clause-asks g c =
    asks_made [] (g.F.Files.tells c.args.files.now) (g.F.Files.tells c.read.new.files) c.args.reads.now c.read.new.self c.in-Ok.ensures.asks
    (made_by c.args.reads.now c.read.new.self c.args.name (Ok c.in-Ok.file) c.in-Ok.ensures.after c.in-Ok.ensures.within) c.in-Ok.ensures.grows

pub returns-in-Err-clause-asks : goal.returns-in-Err-clause-asks
returns-in-Err-clause-asks g c =
    rw c.unopened.ensures
    (asks_unopened c.args.name c.in-Err.fault (g.F.Files.tells c.args.files.now) (g.F.Files.tells c.read.new.files) c.args.reads.now c.read.new.self c.in-Err.ensures.asks
    (made_by c.args.reads.now c.read.new.self c.args.name (Err c.in-Err.fault) c.in-Err.ensures.after tt) c.in-Err.ensures.grows)
