-- The lines of replies, and of all refusals but one, are other lines than the one that tells of a file that can't be read.
use Rattle.std.proofs.Common.{◌≡◌, ℕ, zero, suc, ◌+◌, ◌<◌, Bool, true, false, List, [], ◌∷◌, ◌++◌, get_or, refl, sym, ap, ◌∙◌, subst, arith}
use Rattle.std.specs.Prelude.{◌/◌, ◌%◌, ◌==◌, nat_eq, nat_lt, if◌then◌else◌, codes, Option}
use Rattle.std.specs.Fmt.{decimal, digit_glyph, digits, digits_onto}
use Rattle.std.proofs.lemmas.Bool.{false≢true}
use Rattle.std.proofs.lemmas.Bool.Decides.{nat_tests}
use Rattle.std.proofs.lemmas.List.{append_cancel_left, append_cancel_right}
use Rattle.pf_parts.specs.Parts.{joined}
use Rattle.pf_record.specs.AnswerText.{answer_parts, answer_text}
use Rattle.pf_rule.specs.declared.effect.Action.{Action}
use Rattle.pf_rule.specs.declared.effect.Action.TheVariants.{Pass, Block, Match, Anchor}
use Rattle.pf_rule.specs.declared.walk.Answer.{Answer}
use Rattle.pf_reply.specs.Refusals.{refusal_text, unread_of}
use Rattle.pf_reply.specs.Replies as replies
use Rattle.pf_reply.specs.declared.refusal.Refusal.{Refusal}
use Rattle.pf_reply.specs.declared.refusal.Refusal.TheVariants as refusals
use Rattle.pf_reply.specs.declared.reply.Listing.{Listing}
use Rattle.pf_reply.specs.declared.reply.Reply.{Reply}
use Rattle.pf_reply.specs.declared.reply.Reply.TheVariants as told
use Rattle.pf_runs.specs.Runs.{reply_text}
use Rattle.pf_engine.specs.Answering.{cannot_read_line}

-- it has a first byte, and that isn't an `r`
abbrev pub IsOther : List ℕ → Type 0
IsOther [] = ⊥
IsOther (byte ∷ bytes) = byte ≡ 114 → ⊥

pub other_on : (xs ys : List ℕ) → IsOther xs → IsOther (xs ++ ys)
other_on [] ys h = absurd h
other_on (x ∷ xs) ys h = h

-- so it isn't the line that tells of a file
pub other_line : (xs : List ℕ) (name : List ℕ) → IsOther xs → xs ≡ cannot_read_line name → ⊥
other_line xs name h e = subst IsOther e h refl

abbrev AreDigits : List ℕ → Type 0
AreDigits [] = Unit {0}
AreDigits (digit ∷ digits) = (digit < 58) × AreDigits digits

glyph_is_digit : (n : ℕ) → digit_glyph false (n % 10) < 58
glyph_is_digit n = let small : n % 10 < 10 = omega arith in grind (arith, nat_tests)

onto_digits : (k n : ℕ) (acc : List ℕ) → AreDigits acc → AreDigits (digits_onto k 10 false n acc)
onto_digits zero n acc h = h
onto_digits (suc k) n acc h =
    elim (n / 10 == 0) as (λ b. AreDigits (if b then digit_glyph false (n % 10) ∷ acc else digits_onto k 10 false (n / 10) (digit_glyph false (n % 10) ∷ acc))) [
      | true ↦ (glyph_is_digit n, h)
      | false ↦ onto_digits k (n / 10) (digit_glyph false (n % 10) ∷ acc) (glyph_is_digit n, h)
    ]

decimal_digits : (n : ℕ) → AreDigits (decimal n)
unfolding digits
decimal_digits n = onto_digits 64 n [] tt

digits_other : (ds : List ℕ) (byte : ℕ) (rest : List ℕ) → AreDigits ds → (byte ≡ 114 → ⊥) → IsOther (ds ++ byte ∷ rest)
digits_other [] byte rest h k = k
digits_other (d ∷ ds) byte rest h k = λ e. let low = h.0 in absurd (omega arith)

number_other : (n byte : ℕ) (rest : List ℕ) → (byte ≡ 114 → ⊥) → IsOther (decimal n ++ byte ∷ rest)
number_other n byte rest k = digits_other (decimal n) byte rest (decimal_digits n) k

-- a byte that isn't an `r`
not_r : (byte : ℕ) → nat_eq byte 114 ≡ false → byte ≡ 114 → ⊥
not_r byte h e = false≢true (sym h ∙ ap (λ n. nat_eq n 114) e)

counted_other : (count words : ℕ) (what : List ℕ) → IsOther (replies.of_text count words what)
counted_other count words what =
    other_on ((decimal count ++ (codes "/" ++ decimal words)) ++ (codes " addresses " ++ what)) (codes ".")
    (other_on (decimal count ++ (codes "/" ++ decimal words)) (codes " addresses " ++ what) (number_other count 47 (decimal words) (not_r 47 refl)))

pub reply_other : (reply : Reply) → IsOther (replies.reply_text reply)
reply_other (told.Added count words) = counted_other count words (codes "added")
reply_other (told.Deleted count words) = counted_other count words (codes "deleted")
reply_other (told.Matched count words) = counted_other count words (codes "match")
reply_other (told.Replaced added deleted) =
    other_on ((decimal added ++ codes " addresses added. ") ++ decimal deleted) (codes " addresses deleted.")
    (other_on (decimal added ++ codes " addresses added. ") (decimal deleted) (number_other added 32 (codes "addresses added. ") (not_r 32 refl)))
reply_other (told.Emptied count) = number_other count 32 (codes "addresses deleted.") (not_r 32 refl)
reply_other reply = not_r 111 refl

-- a reply that begins so
pub lines_other : (text : List ℕ) (lines : List (List ℕ)) → IsOther text → IsOther (reply_text (text ∷ lines))
lines_other text lines h = other_on (text ++ 10 ∷ []) (reply_text lines) (other_on text (10 ∷ []) h)

parts_other : (action : Action) (answer : Answer) → IsOther (reply_text (joined (codes " ") (answer_parts action answer.tag answer.decision) ∷ []))
unfolding answer_parts
parts_other Pass answer = not_r 112 refl
parts_other (Block kind) answer = not_r 98 refl
parts_other Match answer = not_r 10 refl
parts_other (Anchor call) answer = not_r 10 refl

-- an answer to a packet
pub answer_other : (answer : Answer) → IsOther (reply_text (answer_text answer ∷ []))
unfolding answer_text
answer_other answer =
    elim answer.skip as (λ b. IsOther (reply_text ((if b then codes "skip" else joined (codes " ") (answer_parts answer.decision.action answer.tag answer.decision)) ∷ []))) [
      | true ↦ not_r 115 refl
      | false ↦ parts_other answer.decision.action answer
    ]

-- by its number a refusal is another
not_three : (xs : List ℕ) (name : List ℕ) → nat_eq (get_or xs 8 0) 51 ≡ false → xs ≡ cannot_read_line name → ⊥
not_three xs name h e = false≢true (sym h ∙ ap (λ bytes. nat_eq (get_or bytes 8 0) 51) e)

same_name : (other name : List ℕ) → cannot_read_line other ≡ cannot_read_line name → other ≡ name
same_name other name e =
    let word = codes "refused 3 CannotRead " in
    append_cancel_left word other name
    (append_cancel_right (word ++ other) (word ++ name) (10 ∷ []) (append_cancel_right ((word ++ other) ++ 10 ∷ []) ((word ++ name) ++ 10 ∷ []) [] e))

-- a refusal that looks so tells of that file
pub refusal_tells : (refusal : Refusal) (name : List ℕ) → reply_text (refusal_text refusal ∷ []) ≡ cannot_read_line name → unread_of refusal ≡ name ∷ []
refusal_tells (refusals.CannotRead other) name e = ap (λ n. n ∷ []) (same_name other name e)
refusal_tells refusal name e = absurd (not_three _ name refl e)
