use Rattle.std.proofs.Common.{rules, ◌≡◌, ◌*◌, ◌∙◌, ◌++◌, List, ℕ, [], ◌∷◌, ap, sym}
use Rattle.pf_gen.specs.Draws.{after}
use Rattle.pf_gen.specs.Texts.{record_text}
use Rattle.pf_gen.proofs.Steps.{behind_records, no_number, no_record, one_record_more}
use Rattle.pf_gen.proofs.making.packets_of.Goals as goal

pub loop-i-init : goal.loop-i-init
loop-i-init c = record {
  number = sym (no_number c.args.number.now);
  records = let said : c.new-records.result ≡ [] = search rules in said ∙ sym (no_record c.args.number.now);
}

pub loop-i-preserved : goal.loop-i-preserved
loop-i-preserved c =
    let more : c.push.new.self ≡ c.loop-i.records ++ record_text c.loop-i.number ∷ [] = search rules in
    let number : c.record_of.new.number ≡ after c.loop-i.number 6 = search rules in
    record {
      number = number ∙ ap (λ (k : ℕ). after k 6) c.loop-i.invariant.number ∙ sym (behind_records c.args.number.now c.loop-i._i);
      records = more ∙ ap (λ (x : ℕ). c.loop-i.records ++ record_text x ∷ []) c.loop-i.invariant.number
          ∙ ap (λ (old : List (List ℕ)). old ++ record_text (after c.args.number.now (6 * c.loop-i._i)) ∷ []) c.loop-i.invariant.records
          ∙ sym (one_record_more c.args.number.now c.loop-i._i);
    }
