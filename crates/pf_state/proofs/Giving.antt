-- Tickets that are given one after the other.
use Rattle.std.proofs.Common.{◌≡◌, ℕ, ◌+◌, ◌<◌, ◌≤◌, true, false, List, length, drop, get_or, Some, None, refl, sym, ap, ◌∙◌, arith}
use Rattle.std.specs.Prelude.{◌==◌, if◌then◌else◌}
use Rattle.std.proofs.lemmas.Bool.Decides.{Decides-eqb}
use Rattle.pf_tree.specs.Meaning.{put_payload, shown}
use Rattle.pf_state.specs.Tickets.{Tickets, given}
use Rattle.pf_state.proofs.Lists.{left, none_left}

not_zero : (n : ℕ) → 0 < n → (n == 0) ≡ false
not_zero n h =
    elim (n == 0) as (λ b. (n == 0) ≡ b → (n == 0) ≡ false) [
      | true ↦ λ e. absurd (let none : n ≡ 0 = (Decides-eqb n 0).0 e in omega arith)
      | false ↦ λ e. e
    ] refl

-- a ticket that isn't 0 is seen
pub seen : (n : ℕ) → 0 < n → shown (λ ticket. ticket == 0) n ≡ Some n
seen n h = ap (λ b. if b then None else Some n) (not_zero n h)

-- a ticket that is put at the next of the paths
pub given_on : (paths : List (List (List ℕ))) (i n : ℕ) (path : List (List ℕ)) (old new start : Tickets) → 0 < n → i < length paths → path ≡ get_or paths i path
    → new ≡ put_payload old path (shown (λ ticket. ticket == 0) n) → given n (drop i paths) old ≡ given n paths start → given n (drop (i + 1) paths) new ≡ given n paths start
given_on paths i n path old new start some lt is put all =
    ap (given n (drop (i + 1) paths)) (put ∙ ap (put_payload old path) (seen n some))
    ∙ ap (λ (ps : List (List (List ℕ))). given n ps old) (sym (left paths i path lt is))
    ∙ all

pub given_all : (paths : List (List (List ℕ))) (i n : ℕ) (new start : Tickets) → length paths ≤ i → given n (drop i paths) new ≡ given n paths start → new ≡ given n paths start
given_all paths i n new start end all = ap (λ (ps : List (List (List ℕ))). given n ps new) (sym (none_left paths i end)) ∙ all
