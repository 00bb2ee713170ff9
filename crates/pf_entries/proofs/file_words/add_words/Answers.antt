use Rattle.std.proofs.Common.{◌∷◌, [], ◌++◌, List, ℕ, sym, ap, ◌∙◌, append_assoc}
use Rattle.pf_entries.specs.FileWords.{words_in}
use Rattle.pf_entries.proofs.Gathering.{words_step}
use Rattle.pf_entries.proofs.file_words.add_words.Goals as goal

pub loop-word-preserved : goal.loop-word-preserved
loop-word-preserved c =
    let seen = c.loop-word.invariant.seen in
    let word = c.in-Some.word.now in
    record {
      seen = seen ++ word ∷ [];
      joined = c.loop-word.invariant.joined ∙ ap (λ (ws : List (List ℕ)). seen ++ ws) c.in-Some.ensures.word ∙ sym (append_assoc seen (word ∷ []) (words_in c.in-Some.behind.now));
      so = λ facts. words_step facts c.args.place seen word c.args.gathered.now c.loop-word.gathered c.add_word.new.gathered (c.loop-word.invariant.so facts) (c.in_ok-add_word.ensures facts);
    }
