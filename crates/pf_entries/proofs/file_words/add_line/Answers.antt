use Rattle.std.proofs.Common.{◌≡◌, List, ℕ, OnOk, map, sym, ap, ◌∙◌, subst}
use Rattle.std.specs.List.{list_any}
use Rattle.pf_host.specs.Facts.{HostFacts}
use Rattle.pf_entries.specs.FileWords.{is_bad, visible, words_in}
use Rattle.pf_entries.specs.Tables.{Gathers, line_at, word_at}
use Rattle.pf_entries.specs.declared.gathered.Gathered.{Gathered}
use Rattle.pf_entries.proofs.Gathering.{gathers_bad_line, gathers_good_line, on_ok}
use Rattle.pf_entries.proofs.file_words.add_line.Goals as goal
use Rattle.pf_entries.proofs.file_words.add_line.Goals.{then-has_bad, else-has_bad}

pub returns : goal.returns
returns c =
    let line = c.args.line.now in
    let place = c.args.place in
    let words : OnOk c.add_words.result ((facts : HostFacts) → Gathers facts (map (word_at place) (words_in (visible line))) c.if-has_bad.gathered c.add_words.new.gathered) =
    subst (λ (shown : List ℕ). OnOk c.add_words.result ((facts : HostFacts) → Gathers facts (map (word_at place) (words_in shown)) c.if-has_bad.gathered c.add_words.new.gathered)) c.visible-line.ensures c.add_words.ensures in
    on_ok c.add_words.result ((facts : HostFacts) → Gathers facts (map (word_at place) (words_in (visible line))) c.if-has_bad.gathered c.add_words.new.gathered)
    ((facts : HostFacts) → Gathers facts (line_at place line) c.args.gathered.now c.add_words.new.gathered)
    (λ more facts. elim c.if-has_bad.branch [
      | then-has_bad w ↦ gathers_bad_line facts place line c.args.gathered.now c.if-has_bad.gathered c.add_words.new.gathered
          (ap (list_any is_bad) (sym c.visible-line.ensures) ∙ sym w.if-has_bad.ensures) (w.gathered-is ∙ w.add_fault.ensures) (more facts)
      | else-has_bad w ↦ gathers_good_line facts place line c.args.gathered.now c.add_words.new.gathered
          (ap (list_any is_bad) (sym c.visible-line.ensures) ∙ sym w.if-has_bad.ensures)
          (subst (λ (before : Gathered). Gathers facts (map (word_at place) (words_in (visible line))) before c.add_words.new.gathered) w.gathered-is (more facts))
    ]) words
