-- The unit goes on, or its fault comes again.
use Rattle.std.proofs.Common.{Option, Err, length, ap, sym, ◌∙◌, subst, arith}
use Rattle.pf_source.specs.Told.{file_of}
use Rattle.pf_lexer.specs.declared.fault.LexFault.{LexFault}
use Rattle.pf_lexer.specs.Calls.{IsKnown}
use Rattle.pf_lexer.specs.Stages.{LexerState, stage_of}
use Rattle.pf_lexer.proofs.GoingLemmas.{asks_again}
use Rattle.pf_lexer.proofs.StepLemmas.{stands_more, found_numbered}
use Rattle.pf_lexer.proofs.StopLemmas.{again_stops}
use Rattle.pf_lexer.proofs.lexer.Lexer.next_statement.Goals as goal

pub returns-in-Some-clause-err : goal.returns-in-Some-clause-err
returns-in-Some-clause-err g c = record {
  at = λ held told.
      again_stops (file_of held) c.args.self.now.stage c.in-Some.fault c.again.result c.args.reads.now
      (sym (ap (λ (s : LexerState). s.stage) c.self.view_is) ∙ ap (stage_of c.self.inside.unit) c.in-Some.is) c.again.ensures;
}

pub invariant_of-self : goal.invariant_of-self
invariant_of-self g c =
    let known = subst (λ (f : Option LexFault). IsKnown c.self.inside.known (stage_of c.self.inside.unit f)) c.in_default.is c.self.invariant in
    let within = stands_more c.self.inside.known (length c.args.reads.now.names) (omega (arith, c.requires, ap (λ (s : LexerState). s.known) c.self.view_is)) c.self.inside.unit known in
    subst (λ (f : Option LexFault). IsKnown c.count-self-inside.result (stage_of c.advance.new.self f)) (sym c.in_default.is)
    (rw c.count-self-inside.ensures (c.in-Ok.ensures.within within))

pub invariant_of-self-in-Err : goal.invariant_of-self-in-Err
invariant_of-self-in-Err g c =
    let known = subst (λ (f : Option LexFault). IsKnown c.self.inside.known (stage_of c.self.inside.unit f)) c.in_default.is c.self.invariant in
    let within = stands_more c.self.inside.known (length c.args.reads.now.names) (omega (arith, c.requires, ap (λ (s : LexerState). s.known) c.self.view_is)) c.self.inside.unit known in
    rw (c.count-self-inside-in-Err.ensures, c.in-Err.failure.same) (c.in-Err.ensures.places within)

pub returns-in-Ok-clause-places : goal.returns-in-Ok-clause-places
returns-in-Ok-clause-places g c =
    let known = subst (λ (f : Option LexFault). IsKnown c.self.inside.known (stage_of c.self.inside.unit f)) c.in_default.is c.self.invariant in
    let within = stands_more c.self.inside.known (length c.args.reads.now.names) (omega (arith, c.requires, ap (λ (s : LexerState). s.known) c.self.view_is)) c.self.inside.unit known in
    found_numbered (length c.advance.new.reads.names) c.in-Ok.found (c.in-Ok.ensures.places within)

pub returns-in-Err-clause-places : goal.returns-in-Err-clause-places
returns-in-Err-clause-places g c =
    let known = subst (λ (f : Option LexFault). IsKnown c.self.inside.known (stage_of c.self.inside.unit f)) c.in_default.is c.self.invariant in
    let within = stands_more c.self.inside.known (length c.args.reads.now.names) (omega (arith, c.requires, ap (λ (s : LexerState). s.known) c.self.view_is)) c.self.inside.unit known in
    c.in-Err.ensures.places within

pub returns-in-Some-clause-asks : goal.returns-in-Some-clause-asks
returns-in-Some-clause-asks g c =
    asks_again c.args.self.now.stage c.in-Some.fault (Err c.again.result) (g.F.Files.tells c.args.files.now) c.args.reads.now
    (sym (ap (λ (s : LexerState). s.stage) c.self.view_is) ∙ ap (stage_of c.self.inside.unit) c.in-Some.is)
