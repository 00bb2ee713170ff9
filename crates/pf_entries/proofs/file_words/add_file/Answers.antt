use Rattle.std.proofs.Common.{◌≡◌, ℕ, ◌+◌, ◌∷◌, [], ◌++◌, List, length, length-append, sym, ap, ◌∙◌, append_assoc, arith}
use Rattle.pf_base.specs.Text.{lines_of}
use Rattle.pf_entries.proofs.Gathering.{lines_step}
use Rattle.pf_entries.proofs.file_words.add_file.Goals as goal

pub loop-text-preserved : goal.loop-text-preserved
loop-text-preserved c =
    let seen = c.loop-text.invariant.seen in
    let line = c.in-Some.text.now in
    let longer : length (seen ++ line ∷ []) ≡ length seen + 1 = length-append seen (line ∷ []) in
    let before = c.loop-text.invariant.counted in
    record {
      seen = seen ++ line ∷ [];
      joined = c.loop-text.invariant.joined ∙ ap (λ (ls : List (List ℕ)). seen ++ ls) c.in-Some.ensures.line ∙ sym (append_assoc seen (line ∷ []) (lines_of c.in-Some.behind.now));
      counted = omega arith;
      few = omega (arith, c.in-Some.ensures.shorter);
      so = λ facts. lines_step facts c.args.file.now.number seen line (c.loop-text.line + 1) c.args.gathered.now c.loop-text.gathered c.add_line.new.gathered (omega arith) (c.loop-text.invariant.so facts) (c.in_ok-add_line.ensures facts);
    }
