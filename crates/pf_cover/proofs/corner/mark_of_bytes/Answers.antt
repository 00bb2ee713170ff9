use Rattle.std.proofs.Common.{◌≡◌, ◌+◌, ◌<◌, ℕ, List, take, length, get_or, refl, sym, ap, ◌∙◌, arith}
use Rattle.std.proofs.lemmas.List.{take_all}
use Rattle.std.proofs.lemmas.List.Sums.{fold_more}
use Rattle.pf_cover.specs.Corner.{mark_of, mark_step}
use Rattle.pf_cover.proofs.corner.mark_of_bytes.Goals as goal

none_yet : (bytes : List ℕ) → 0 ≡ mark_of (take 0 bytes)
unfolding mark_of
none_yet bytes = refl

one_more : (bytes : List ℕ) (i d : ℕ) → i < length bytes → mark_of (take (i + 1) bytes) ≡ mark_step (mark_of (take i bytes)) (get_or bytes i d)
unfolding mark_of
one_more bytes i d h = fold_more mark_step 0 bytes i d h

pub loop-byte-init : goal.loop-byte-init
loop-byte-init c = record { value = none_yet c.args.bytes.now; few = omega arith }

pub loop-byte-preserved : goal.loop-byte-preserved
loop-byte-preserved c =
    let bytes = c.args.bytes.now in
    let i = c.loop-byte.byte-index in
    let before = mark_of (take i bytes) in
    record {
      value =
          ap (λ (mark : ℕ). mark_step mark c.from.result) c.loop-byte.invariant.value
          ∙ ap (λ (byte : ℕ). mark_step before byte) c.from.ensures
          ∙ sym (one_more bytes i 0 c.loop-byte-test.true);
      few = omega arith;
    }

pub returns : goal.returns
returns c = record {
  value = c.loop-byte.invariant.value ∙ ap mark_of (take_all c.loop-byte.byte-index c.args.bytes.now c.loop-byte-test.false);
  few = c.loop-byte.invariant.few;
}
