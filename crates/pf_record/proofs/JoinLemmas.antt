-- The parts of an answer, one appended behind the other.
use Rattle.std.proofs.Common.{◌≡◌, ℕ, List, [], ◌∷◌, ◌++◌, Option, Some, None, codes, refl, ap, sym, ◌∙◌, append_assoc}
use Rattle.std.specs.List.{filter_map, flat_map}
use Rattle.std.proofs.lemmas.List.{append-nil}
use Rattle.pf_parts.specs.Appending.{Extends}
use Rattle.pf_parts.specs.Parts.{joined, spaced}

spaced_parts : (parts : List (Option (List ℕ))) → flat_map (λ part. codes " " ++ part) (filter_map (λ part. part) parts) ≡ flat_map spaced parts
spaced_parts [] = refl
spaced_parts (None ∷ parts) = spaced_parts parts
spaced_parts (Some part ∷ parts) = ap (λ (rest : List ℕ). (codes " " ++ part) ++ rest) (spaced_parts parts)

-- a first part that stands, and the others behind spaces
joined_first : (first : List ℕ) (parts : List (Option (List ℕ))) → first ++ flat_map spaced parts ≡ joined (codes " ") (Some first ∷ parts)
joined_first first parts = ap (λ (rest : List ℕ). first ++ rest) (sym (spaced_parts parts))

pub pass_joined : (old a b c d new first : List ℕ) (log tag queue prio tos scrub nat rdr opts label : Option (List ℕ)) → a ≡ old ++ first → b ≡ a ++ (spaced log ++ spaced tag) → c ≡ b ++ (spaced queue ++ spaced prio ++ spaced tos) → d ≡ c ++ (spaced scrub ++ spaced nat ++ spaced rdr ++ spaced opts) → new ≡ d ++ spaced label → new ≡ old ++ joined (codes " ") (Some first ∷ log ∷ tag ∷ queue ∷ prio ∷ tos ∷ scrub ∷ nat ∷ rdr ∷ opts ∷ label ∷ [])
pass_joined old a b c d new first log tag queue prio tos scrub nat rdr opts label ha hb hc hd h =
    let whole : new ≡ old ++ (first ++ flat_map spaced (log ∷ tag ∷ queue ∷ prio ∷ tos ∷ scrub ∷ nat ∷ rdr ∷ opts ∷ label ∷ [])) =
    rw (h, hd, hc, hb, ha, append-nil (spaced label)) (simp append_assoc) in
    whole ∙ ap (λ (text : List ℕ). old ++ text) (joined_first first (log ∷ tag ∷ queue ∷ prio ∷ tos ∷ scrub ∷ nat ∷ rdr ∷ opts ∷ label ∷ []))

pub block_joined : (old a b new first : List ℕ) (log tag label : Option (List ℕ)) → a ≡ old ++ first → b ≡ a ++ (spaced log ++ spaced tag) → new ≡ b ++ spaced label → new ≡ old ++ joined (codes " ") (Some first ∷ log ∷ tag ∷ label ∷ [])
block_joined old a b new first log tag label ha hb h =
    let whole : new ≡ old ++ (first ++ flat_map spaced (log ∷ tag ∷ label ∷ [])) =
    rw (h, hb, ha, append-nil (spaced label)) (simp append_assoc) in
    whole ∙ ap (λ (text : List ℕ). old ++ text) (joined_first first (log ∷ tag ∷ label ∷ []))

-- a buffer that is appended to again
pub Extends-then : {old mid new : List ℕ} → Extends old mid → Extends mid new → Extends old new
Extends-then {old} h g = record {
  more = h.more ++ g.more;
  joined = g.joined ∙ ap (λ (t : List ℕ). t ++ g.more) h.joined ∙ append_assoc old h.more g.more;
}
