use Rattle.std.proofs.Common.{◌≡◌, ◌∙◌, ◌++◌, ◌<◌, length, [], Ok, Err, ap, refl, sym, arith}
use Rattle.std.specs.Option.{option_copied}
use Rattle.std.proofs.lemmas.List.{append-nil}
use Rattle.pf_word.specs.Hosts.{IsWord, prefix_tests, tests_of_word}
use Rattle.pf_word.specs.Words.{failed}
use Rattle.pf_word.proofs.Adding.{adds_ok, on_ok}
use Rattle.pf_word.proofs.item.add_word.Goals as goal

pub returns-in-Ok : goal.returns-in-Ok
returns-in-Ok c =
    let old = c.args.words.now in
    on_ok c.add_prefixes.result _ _
    (λ values. record {
      one = tests_of_word c.args.negated (Ok c.in-Ok.prefixes);
      means = record { answer = Ok c.in-Ok.prefixes; means = c.in-Ok.ensures; are = refl };
      are = λ i. record {
        values = (values ∙ ap (λ prefixes. old.values ++ prefix_tests c.args.negated prefixes) c.items.ensures) i;
        faults = sym (append-nil old.faults) i;
      };
    })
    c.add_prefixes.ensures

pub returns-in-Err-Kind : goal.returns-in-Err-Kind
returns-in-Err-Kind c =
    let means = rw c.in-Err-Kind.field-0-is at c.in-Err-Kind.ensures in
    adds_ok c.fail.result (IsWord c.args.facts.now c.args.negated c.args.word.now (option_copied c.args.mask)) c.args.words.now c.fail.new.self (failed c.in-Err-Kind.fault)
    (record { answer = Err c.in-Err-Kind.fault; means = means; are = refl })
    c.fail.ensures
