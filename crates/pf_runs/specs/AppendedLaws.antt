-- Lists of events, one after another.
use Rattle.std.proofs.Common.{◌≡◌, ◌+◌, Bool, true, false, ◌||◌, List, [], ◌∷◌, ◌++◌, refl, sym, ap, ◌∙◌, append_assoc, add_assoc, zero-add}
use Rattle.pf_source.specs.Disk.{Disk}
use Rattle.pf_runs.specs.Runs.{Step, Event, Follow, lines_in, HaveNoOutage, reply_text, pieces_of, machine_after, output, count_writes, any_refused, unread}

pub machine_after-append : {M : Type 0} (machine : M) (xs ys : List (Event M)) → machine_after machine (xs ++ ys) ≡ machine_after (machine_after machine xs) ys
machine_after-append machine [] ys = refl
machine_after-append machine (x ∷ xs) ys = machine_after-append x.does.machine xs ys

pub Follow-append : {M : Type 0} (step : Step M) (disk : Disk) (machine : M) (xs ys : List (Event M)) → Follow step disk machine xs → Follow step disk (machine_after machine xs) ys → Follow step disk machine (xs ++ ys)
Follow-append step disk machine [] ys h k = k
Follow-append step disk machine (x ∷ xs) ys h k = (h.0, h.1, Follow-append step disk x.does.machine xs ys h.2 k)

pub output-append : {M : Type 0} (xs ys : List (Event M)) → output (xs ++ ys) ≡ output xs ++ output ys
output-append [] ys = refl
output-append (x ∷ xs) ys =
    ap (λ rest. reply_text x.does.reply ++ rest) (output-append xs ys) ∙ sym (append_assoc (reply_text x.does.reply) (output xs) (output ys))

pub count_writes-append : {M : Type 0} (xs ys : List (Event M)) → count_writes (xs ++ ys) ≡ count_writes xs + count_writes ys
count_writes-append [] ys = sym (zero-add (count_writes ys))
count_writes-append (x ∷ xs) ys =
    ap (λ rest. pieces_of x.does.reply + rest) (count_writes-append xs ys) ∙ sym (add_assoc (pieces_of x.does.reply) (count_writes xs) (count_writes ys))

pub unread-append : {M : Type 0} (xs ys : List (Event M)) → unread (xs ++ ys) ≡ unread xs ++ unread ys
unread-append [] ys = refl
unread-append (x ∷ xs) ys = ap (λ rest. x.does.unread ++ rest) (unread-append xs ys) ∙ sym (append_assoc x.does.unread (unread xs) (unread ys))

pub or_assoc : (a b c : Bool) → (a || (b || c)) ≡ ((a || b) || c)
or_assoc true b c = refl
or_assoc false b c = refl

pub any_refused-append : {M : Type 0} (xs ys : List (Event M)) → any_refused (xs ++ ys) ≡ (any_refused xs || any_refused ys)
any_refused-append [] ys = refl
any_refused-append (x ∷ xs) ys = ap (λ rest. x.does.refused || rest) (any_refused-append xs ys) ∙ or_assoc x.does.refused (any_refused xs) (any_refused ys)

pub lines_in-append : {M : Type 0} (xs ys : List (Event M)) → lines_in (xs ++ ys) ≡ lines_in xs ++ lines_in ys
lines_in-append [] ys = refl
lines_in-append (x ∷ xs) ys = ap (λ rest. x.line ∷ rest) (lines_in-append xs ys)

pub HaveNoOutage-append : {M : Type 0} (xs ys : List (Event M)) → HaveNoOutage xs → HaveNoOutage ys → HaveNoOutage (xs ++ ys)
HaveNoOutage-append [] ys h k = k
HaveNoOutage-append (x ∷ xs) ys h k = (h.0, HaveNoOutage-append xs ys h.1 k)
