use Rattle.std.proofs.Common.{◌≡◌, ℕ, ◌+◌, List, [], ◌∷◌, length, Ok, Err, drop, sym, ap, ◌∙◌, subst}
use Rattle.std.proofs.lemmas.Result.{err_from_is_err_and}
use Rattle.pf_source.specs.Told.{file_of}
use Rattle.pf_lexer.specs.Calls.{AsksAndReads}
use Rattle.pf_fault.specs.Stops.{unread_in}
use Rattle.pf_fault.specs.declared.fault.Stop.{Stop}
use Rattle.pf_lexer.specs.declared.reads.ReadFile.{ReadFile}
use Rattle.std.specs.Prelude.{Result}
use Rattle.pf_entries.proofs.TableContents.{ReadSo, asked_for, asks_none, asks_then, file_more, files_later, next_name, no_files, none_read, one_asks, one_failed, one_read}
use Rattle.pf_entries.proofs.table_files.read_files.Goals as goal

pub loop-name-init : goal.loop-name-init
loop-name-init g c = rw c.new-read.ensures (record {
  asks = asks_none (g.F.Files.tells c.args.files.now) c.args.reads.now;
  within = no_files (length c.args.reads.now.names);
  so = record { at = λ held h. none_read (file_of held) c.args.names.now c.args.reads.now };
})

pub returns-in_err-file-clause-means : goal.returns-in_err-file-clause-means
returns-in_err-file-clause-means g c =
    let p = err_from_is_err_and c.from_residual.result c.from_residual.ensures.1 in
    let names = c.args.names.now in
    let name = c.name-item.result in
    let next : drop c.loop-name.name-index names ≡ name ∷ drop (c.loop-name.name-index + 1) names = next_name names c.loop-name.name-index name c.loop-name-test.true c.name-item.is in
    record {
      at = λ held h. rw (p.1, p.2) (one_failed (file_of held) names c.args.reads.now c.loop-name.read name (drop (c.loop-name.name-index + 1) names) c.loop-name.reads c.read_one.new.reads c.in_err-file.field-0.0
          (subst (λ (rest : List (List ℕ)). ReadSo (file_of held) names c.args.reads.now c.loop-name.read rest c.loop-name.reads) next (c.loop-name.invariant.so.at held h))
          (c.in_err-file.ensures.look.at held (c.loop-name.invariant.asks.files.held.held ∙ h)) c.in_err-file.ensures.named c.in_err-file.ensures.after);
    }

pub returns-in_err-file-clause-asks : goal.returns-in_err-file-clause-asks
returns-in_err-file-clause-asks g c =
    let p = err_from_is_err_and c.from_residual.result c.from_residual.ensures.1 in
    let stopped : Result ReadFile Stop = Err c.in_err-file.field-0.0 in
    let names : List (List ℕ) = unread_in stopped in
    rw (p.1, p.2) (asks_then names (g.F.Files.tells c.args.files.now) (g.F.Files.tells c.loop-name.files) (g.F.Files.tells c.read_one.new.files) c.args.reads.now c.loop-name.reads c.read_one.new.reads c.loop-name.invariant.asks
    (one_asks names (g.F.Files.tells c.loop-name.files) (g.F.Files.tells c.read_one.new.files) c.loop-name.reads c.read_one.new.reads c.name-item.result stopped c.in_err-file.ensures.asks c.in_err-file.ensures.after tt c.in_err-file.ensures.grows))

pub returns-in_err-file-clause-asked : goal.returns-in_err-file-clause-asked
returns-in_err-file-clause-asked g c =
    let p = err_from_is_err_and c.from_residual.result c.from_residual.ensures.1 in
    rw (p.1, p.2) (asked_for c.args.names.now c.loop-name.name-index c.name-item.result c.in_err-file.field-0.0 c.loop-name-test.true c.name-item.is c.in_err-file.ensures.named)

pub returns-in_err-push-clause-asks : goal.returns-in_err-push-clause-asks
returns-in_err-push-clause-asks g c =
    let p = err_from_is_err_and c.from_residual-in_err-push.result c.from_residual-in_err-push.ensures.1 in
    let given : Result ReadFile Stop = Ok c.in_ok-file.file in
    rw (p.1, p.2) (asks_then [] (g.F.Files.tells c.args.files.now) (g.F.Files.tells c.loop-name.files) (g.F.Files.tells c.read_one.new.files) c.args.reads.now c.loop-name.reads c.read_one.new.reads c.loop-name.invariant.asks
    (one_asks [] (g.F.Files.tells c.loop-name.files) (g.F.Files.tells c.read_one.new.files) c.loop-name.reads c.read_one.new.reads c.name-item.result given c.in_ok-file.ensures.asks c.in_ok-file.ensures.after c.in_ok-file.ensures.fits c.in_ok-file.ensures.grows))

pub loop-name-preserved : goal.loop-name-preserved
loop-name-preserved g c =
    let names = c.args.names.now in
    let name = c.name-item.result in
    let file = c.in_ok-file.file in
    let before = c.loop-name.invariant in
    let given : Result ReadFile Stop = Ok file in
    let next : drop c.loop-name.name-index names ≡ name ∷ drop (c.loop-name.name-index + 1) names = next_name names c.loop-name.name-index name c.loop-name-test.true c.name-item.is in
    record {
      asks = asks_then [] (g.F.Files.tells c.args.files.now) (g.F.Files.tells c.loop-name.files) (g.F.Files.tells c.read_one.new.files) c.args.reads.now c.loop-name.reads c.read_one.new.reads before.asks
          (one_asks [] (g.F.Files.tells c.loop-name.files) (g.F.Files.tells c.read_one.new.files) c.loop-name.reads c.read_one.new.reads name given c.in_ok-file.ensures.asks c.in_ok-file.ensures.after c.in_ok-file.ensures.fits c.in_ok-file.ensures.grows);
      within = rw c.in_ok-push.ensures.ok (file_more (length c.read_one.new.reads.names) c.loop-name.read file
          (files_later c.loop-name.reads.names c.read_one.new.reads.names c.loop-name.read c.in_ok-file.ensures.grows before.within) c.in_ok-file.ensures.numbered c.in_ok-file.ensures.within);
      so = record {
        at = λ held h. rw (c.in_ok-push.ensures.ok, c.in_ok-file.ensures.after) (one_read (file_of held) names c.args.reads.now c.loop-name.read name (drop (c.loop-name.name-index + 1) names) c.loop-name.reads file
            (subst (λ (rest : List (List ℕ)). ReadSo (file_of held) names c.args.reads.now c.loop-name.read rest c.loop-name.reads) next (before.so.at held h))
            (c.in_ok-file.ensures.look.at held (before.asks.files.held.held ∙ h)));
      };
    }
