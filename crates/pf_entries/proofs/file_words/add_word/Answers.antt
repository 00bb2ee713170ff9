use Rattle.std.proofs.Common.{◌∷◌, [], Ok, Err, refl, sym, ap, ◌∙◌, subst}
use Rattle.pf_host.specs.Facts.{HostFacts}
use Rattle.pf_word.specs.Hosts.{mask_fault}
use Rattle.pf_entries.specs.FileWords.{a_prefix}
use Rattle.pf_entries.specs.Tables.{Gathers, entry_of, word_at}
use Rattle.pf_entries.proofs.Gathering.{by_sign, gathers_entries, gathers_fault, on_ok, word_fails}
use Rattle.pf_entries.proofs.file_words.add_word.Goals as goal

pub returns-in-Ok : goal.returns-in-Ok
returns-in-Ok c =
    let negated = c.without_sign-negated.result.0 in
    let word = c.without_sign-negated.result.1.now in
    let entry = entry_of negated c.in-Ok.prefix in
    on_ok c.add_entry.result _ ((facts : HostFacts) → Gathers facts (word_at c.args.place c.args.text.now ∷ []) c.args.gathered.now c.add_entry.new.gathered)
    (λ are facts. gathers_entries facts (word_at c.args.place c.args.text.now) (entry ∷ []) c.args.gathered.now c.add_entry.new.gathered
    (by_sign c.args.text.now negated word (Ok (entry ∷ [])) c.without_sign-negated.ensures.value (a_prefix c.in-Ok.prefix c.in-Ok.ensures.found refl)) are)
    c.add_entry.ensures

pub returns-in-Err : goal.returns-in-Err
returns-in-Err c = λ facts.
    let negated = c.without_sign-negated.result.0 in
    let word = c.without_sign-negated.result.1.now in
    gathers_fault facts (word_at c.args.place c.args.text.now) c.mask_fault.result c.args.gathered.now c.add_fault.new.gathered
    (by_sign c.args.text.now negated word (Err c.mask_fault.result) c.without_sign-negated.ensures.value
    (rw c.mask_fault.ensures (word_fails negated word c.in-Err.fault c.in-Err.ensures.only c.in-Err.ensures.too_long c.in-Err.ensures.not_an_address)))
    c.add_fault.ensures
