use Rattle.std.proofs.Common.{rules, ◌≡◌, ◌*◌, ◌∙◌, ◌++◌, List, ℕ, ap, sym, codes}
use Rattle.std.proofs.lemmas.List.{append_assoc}
use Rattle.pf_gen.specs.Draws.{after}
use Rattle.pf_gen.specs.Texts.{rule_text}
use Rattle.pf_gen.proofs.Steps.{behind_rules, no_number, no_rule, one_rule_more}
use Rattle.pf_gen.proofs.making.rules_of.Goals as goal

pub loop-i-init : goal.loop-i-init
loop-i-init c = record {
  number = sym (no_number c.args.number.now);
  out = let said : c.put.new.out.items ≡ codes "block all\n" = search rules in said ∙ sym (no_rule c.args.number.now);
}

pub loop-i-preserved : goal.loop-i-preserved
loop-i-preserved c =
    let text : c.put-in-loop-i.new.out.items ≡ (c.loop-i.out.items ++ rule_text c.loop-i.number) ++ codes "\n" = search rules in
    let number : c.put_rule.new.number ≡ after c.loop-i.number 7 = search rules in
    record {
      number = number ∙ ap (λ (k : ℕ). after k 7) c.loop-i.invariant.number ∙ sym (behind_rules c.args.number.now c.loop-i._i);
      out = text ∙ append_assoc c.loop-i.out.items (rule_text c.loop-i.number) (codes "\n") ∙ ap (λ (x : ℕ). c.loop-i.out.items ++ (rule_text x ++ codes "\n")) c.loop-i.invariant.number
          ∙ ap (λ (old : List ℕ). old ++ (rule_text (after c.args.number.now (7 * c.loop-i._i)) ++ codes "\n")) c.loop-i.invariant.out
          ∙ sym (one_rule_more c.args.number.now c.loop-i._i);
    }
