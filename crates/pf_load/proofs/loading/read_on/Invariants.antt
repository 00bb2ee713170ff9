use Rattle.std.proofs.Common.{[]}
use Rattle.pf_source.specs.Asks.{Asks}
use Rattle.pf_source.specs.Told.{Told, file_of}
use Rattle.pf_load.specs.Answers.{IsReady, work_left}
use Rattle.pf_load.specs.Fit.{IsDraftFit}
use Rattle.pf_load.specs.Load.{further}
use Rattle.pf_load.proofs.Following.{SoFar}
use Rattle.pf_load.proofs.loading.read_on.Given as goal

-- the turns so far had no fault, and no read failed
abbrev pub invariant-turns : goal.invariant-turns
invariant-turns g l = record {
  asks : Asks [] (g.F.Files.tells l.fn.files) (g.F.Files.tells l.files);
  ready : IsReady l.lexer l.draft l.reads;
  fit : IsDraftFit l.draft;
  so_far : Told (g.F.Files.tells l.fn.files).held (λ held. SoFar (file_of held) l.facts l.options (further l.fn.lexer.stage l.fn.reads l.fn.draft) (further l.lexer.stage l.reads l.draft));
}

abbrev pub decreases-turns : goal.decreases-turns
decreases-turns g l = work_left l.lexer.stage l.reads l.draft
