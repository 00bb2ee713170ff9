use Rattle.std.proofs.Common.{◌≡◌, Err, List, ℕ, length, subst}
use Rattle.std.proofs.lemmas.Result.{err_from_is_err_and}
use Rattle.pf_source.specs.Told.{file_of}
use Rattle.pf_entries.specs.TableFiles.{IsRead}
use Rattle.std.specs.Prelude.{Contains}
use Rattle.pf_fault.specs.declared.fault.Stop.TheVariants.{Unread}
use Rattle.pf_entries.proofs.TableContents.{none_asked}
use Rattle.pf_entries.proofs.Judging.{failed_comes, still_in}
use Rattle.pf_entries.proofs.table.read_table.Goals as goal

pub returns-in_err-read-clause-means : goal.returns-in_err-read-clause-means
returns-in_err-read-clause-means g c =
    let p = err_from_is_err_and c.from_residual.result c.from_residual.ensures.1 in
    record {
      at = λ held h. rw (p.1, p.2) (failed_comes (file_of held) c.args.facts.now c.args.tables.now c.args.form c.args.place c.args.reads.now c.read_files.new.reads c.in_err-read.field-0.0
          (subst (λ (names : List (List ℕ)). IsRead (file_of held) names c.args.reads.now (Err c.in_err-read.field-0.0) c.read_files.new.reads) c.items.ensures (c.in_err-read.ensures.means.at held h)));
    }

pub returns-clause-within : goal.returns-clause-within
returns-clause-within g c =
    c.judge.ensures.within (length c.read_files.new.reads.names) (still_in c.args.reads.now.names c.read_files.new.reads.names c.args.place.file c.in_ok-read.ensures.asks.grows c.requires.place)
    (rw c.items-2.ensures c.in_ok-read.ensures.within.numbered)

pub returns-in_err-read-clause-asks : goal.returns-in_err-read-clause-asks
returns-in_err-read-clause-asks g c =
    let p = err_from_is_err_and c.from_residual.result c.from_residual.ensures.1 in
    rw (p.1, p.2) c.in_err-read.ensures.asks

pub returns-in_err-read-clause-asked : goal.returns-in_err-read-clause-asked
returns-in_err-read-clause-asked g c =
    let p = err_from_is_err_and c.from_residual.result c.from_residual.ensures.1 in
    let asked : (other : List ℕ) → c.in_err-read.field-0.0 ≡ Unread other → Contains c.items.result.now other = c.in_err-read.ensures.asked in
    rw (p.1, p.2) (subst (λ (names : List (List ℕ)). (other : List ℕ) → c.in_err-read.field-0.0 ≡ Unread other → Contains names other) c.items.ensures asked)

pub returns-clause-asks : goal.returns-clause-asks
returns-clause-asks g c = rw c.judge.ensures.reads c.in_ok-read.ensures.asks

pub returns-clause-asked : goal.returns-clause-asked
returns-clause-asked g c = none_asked c.args.form.files c.judge.result c.judge.ensures.reads
