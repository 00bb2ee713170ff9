-- The input, read piece by piece.
use Rattle.std.proofs.Common.{◌≡◌, ◌==◌, false, ℕ, ◌+◌, ◌-◌, ◌^◌, ◌<◌, ◌≤◌, min, List, [], ◌∷◌, ◌++◌, length, take, drop, refl, sym, ap, ◌∙◌, subst, append_assoc, append-nil, arith, length-append}
use Rattle.std.specs.Io.KnownBytes.{Consumes, IsAtEnd, Keeps}
use Rattle.std.proofs.lemmas.Bool.Decides.{nat_tests}
use Rattle.std.proofs.lemmas.List.{take-take, take-append-drop, take_all}
use Rattle.std.proofs.Math.Seq.{take-append_seam}
use Rattle.pf_base.specs.Text.{whole_lines, unfinished, lines_of, line_of_rest, IsOneLine, LinesGoOn}
use Rattle.pf_source.specs.Causes.{RoseBy}
use Rattle.pf_source.specs.Streams.{after_read, gave_nothing, gave_piece}
use Rattle.pf_source.specs.Told.{SourceTold}
use Rattle.pf_source.specs.declared.source.LastRead.{LastRead}
use Rattle.pf_source.specs.KnownLaws.{Consumes-more, Consumes-nothing, Keeps-is}
use Rattle.pf_runs.specs.Runs.{World}
use Rattle.pf_state.specs.declared.machine.Machine.{Machine}
use Rattle.pfctl.specs.declared.session.Stop.{Stop}
use Rattle.pfctl.specs.Doing.{Halts, ReadsAll, ReadsPastLimit, ReadsUntilFault, ReadsUntilStop, Runs, at_last_line, in_piece}
use Rattle.pfctl.specs.Input.{Reads, ReadsToLast, last_line, lines_ending_in, most_input, reads_since}
use Rattle.pfctl.specs.Lines.{said_lines}
use Rattle.pfctl.proofs.Sessions.{runs_nothing}
use Rattle.pfctl.proofs.Feeding.{runs_more, said_lines-append}

-- a text that goes on has its lines, and then those of its unfinished line with what follows
abbrev pub LinesGo : Type 0
LinesGo = (text more : List ℕ) → LinesGoOn text more

-- more was read
reads_more : (a b c : SourceTold) (xs ys : List ℕ) → Reads a b xs → Consumes b.left c.left ys → c.given ≡ b.given + length ys → Reads a c (xs ++ ys)
reads_more a b c xs ys h consumed given = record {
  consumed = Consumes-more a.left b.left c.left xs ys h.consumed consumed;
  given = let before = h.given in rw (length-append xs ys) (omega arith);
}

-- nothing was read
reads_same : (a b c : SourceTold) (xs : List ℕ) → Reads a b xs → Consumes b.left c.left [] → c.given ≡ b.given + 0 → Reads a c xs
reads_same a b c xs h consumed given = subst (λ (front : List ℕ). Reads a c front) (append-nil xs) (reads_more a b c xs [] h consumed given)

-- a read that gave some bytes gave a piece
pub gave : (last : LastRead) (count : ℕ) → 0 < count → after_read last count ≡ gave_piece count
gave last count some = let other : (count == 0) ≡ false = grind (arith, nat_tests) in rw other refl

-- no read was made since a piece
none_since : (last : LastRead) (front piece : List ℕ) → 0 < length piece → reads_since last (front ++ piece) ≡ 0
none_since last [] [] h = absurd (omega arith)
none_since last [] (byte ∷ piece) h = refl
none_since last (byte ∷ front) piece h = refl

one_since : (a b c : LastRead) (front : List ℕ) → b.since ≡ reads_since a front → c ≡ gave_nothing b → c.since ≡ min (reads_since a front + 1) (2 ^ 64 - 1)
one_since a b c front since last = ap (λ (l : LastRead). l.since) last ∙ ap (λ n. min (n + 1) (2 ^ 64 - 1)) since

few : (allowed front most : ℕ) → allowed + front ≡ most → front ≤ most
few allowed front most h = omega arith

still_allowed : (allowed front most : ℕ) → allowed + front ≡ most → most - front ≡ allowed
still_allowed allowed front most h = omega arith

-- the whole lines of what was read so far with another piece
joined_lines : LinesGo → (front kept piece : List ℕ) → kept ≡ unfinished front → whole_lines front ++ whole_lines (kept ++ piece) ≡ whole_lines (front ++ piece)
joined_lines go front kept piece tail = ap (λ rest. whole_lines front ++ whole_lines (rest ++ piece)) tail ∙ sym (go front piece).whole

-- the lines that end in a piece, within the limit
ending_lines : (front kept piece used : List ℕ) (allowed : ℕ) → kept ≡ unfinished front → allowed + length front ≡ most_input → take allowed piece ≡ used → whole_lines (kept ++ used) ≡ lines_ending_in front piece
ending_lines front kept piece used allowed tail left cut =
    ap (λ rest. whole_lines (rest ++ used)) tail
    ∙ ap (λ bytes. whole_lines (unfinished front ++ bytes)) (sym cut ∙ ap (λ n. take n piece) (sym (still_allowed allowed (length front) most_input left)))

-- what ends within the limit of a piece that goes past it
front_within : (front piece used more : List ℕ) (allowed : ℕ) → allowed + length front ≡ most_input → piece ≡ used ++ more → length used ≡ allowed → take most_input (front ++ piece) ≡ front ++ used
front_within front piece used more allowed left parts long =
    let most : length (front ++ used) ≡ most_input = rw (length-append front used) (omega arith) in
    let whole : front ++ piece ≡ (front ++ used) ++ more = ap (λ rest. front ++ rest) parts ∙ sym (append_assoc front used more) in
    ap (take most_input) whole ∙ (ap (λ n. take n ((front ++ used) ++ more)) (sym most) ∙ take-append_seam (front ++ used) more)

module _ (lead : List ℕ) where
  -- What was read so far: its whole lines were executed, and what stands behind them is kept.
  pub record SoFar (first now : World Machine) (input input' : SourceTold) (kept : List ℕ) (allowed : ℕ) : Type 0 where
    pub front : List ℕ
    pub reads : Reads input input' front
    pub since : input'.last.since ≡ reads_since input.last front
    pub tail : kept ≡ unfinished front
    pub left : allowed + length front ≡ most_input
    pub runs : Runs (said_lines lead (whole_lines front)) first now
    pub later : first.sink.faults ≤ now.sink.faults
    pub input_later : input.faults ≤ input'.faults

  pub kept_is_one_line : LinesGo → (first now : World Machine) (input input' : SourceTold) (kept : List ℕ) (allowed : ℕ) → SoFar first now input input' kept allowed → IsOneLine kept
  kept_is_one_line go first now input input' kept allowed h = rw h.tail (go h.front []).one

  pub nothing_so_far : (first : World Machine) (input : SourceTold) → SoFar first first input input [] most_input
  unfolding whole_lines unfinished
  nothing_so_far first input = record {
    front = [];
    reads = record { consumed = Consumes-nothing input.left; given = omega arith };
    since = refl;
    tail = refl;
    left = refl;
    runs = runs_nothing first;
    later = omega arith;
    input_later = omega arith;
  }

  -- a read failed
  pub ends_at_fault : (first now : World Machine) (a b c : SourceTold) (kept : List ℕ) (allowed : ℕ) → SoFar first now a b kept allowed → Keeps b.left c.left → c.given ≡ b.given + 0 → c.last ≡ gave_nothing b.last → RoseBy 1 b.faults c.faults → ReadsUntilFault lead a c first now
  ends_at_fault first now a b c kept allowed h keeps given last rose = record {
    part = record {
      read = record {
        front = h.front;
        reads = reads_same a b c h.front h.reads (Keeps-is b.left c.left keeps) given;
        since = one_since a.last b.last c.last h.front h.since last;
        within = few allowed (length h.front) most_input h.left;
      };
      failed = let before = h.input_later in let from = rose.later in let by = rose.by in record { later = omega arith; by = omega arith };
    };
    runs = h.runs;
  }

  one_rest : (kept : List ℕ) → said_lines lead (kept ∷ []) ≡ said_lines lead (line_of_rest kept)
  one_rest [] = refl
  one_rest (byte ∷ kept) = refl

  -- what is kept is the last line
  kept_line : (front kept : List ℕ) → kept ≡ unfinished front → said_lines lead (kept ∷ []) ≡ said_lines lead (last_line front)
  kept_line front kept tail = one_rest kept ∙ ap (λ rest. said_lines lead (line_of_rest rest)) tail

  -- the lines of a whole text, its last piece among them
  last_lines : (front kept : List ℕ) → kept ≡ unfinished front → said_lines lead (whole_lines front ++ kept ∷ []) ≡ said_lines lead (lines_of front)
  unfolding lines_of
  last_lines front kept tail =
      said_lines-append lead (whole_lines front) (kept ∷ []) ∙ (ap (λ ls. said_lines lead (whole_lines front) ++ ls) (kept_line front kept tail)
      ∙ sym (said_lines-append lead (whole_lines front) (last_line front)))

  pub ends_whole : (first now last : World Machine) (a b c : SourceTold) (kept : List ℕ) (allowed : ℕ) → SoFar first now a b kept allowed → Consumes b.left c.left [] → c.given ≡ b.given + 0 → c.last ≡ gave_nothing b.last → IsAtEnd c.left → Runs (said_lines lead (kept ∷ [])) now last → ReadsAll lead a c first last
  ends_whole first now last a b c kept allowed h consumed given one ended runs = record {
    whole = record {
      read = record {
        front = h.front;
        reads = reads_same a b c h.front h.reads consumed given;
        since = one_since a.last b.last c.last h.front h.since one;
        within = few allowed (length h.front) most_input h.left;
      };
      ended = ended;
    };
    runs = subst (λ (lines : List (List ℕ)). Runs lines first last) (last_lines h.front kept h.tail) (runs_more lead (whole_lines h.front) (kept ∷ []) first now last h.runs runs);
  }

  -- the run stops at the last line
  pub stops_at_last : (why : Stop) (first now last : World Machine) (a b c : SourceTold) (kept : List ℕ) (allowed : ℕ) → SoFar first now a b kept allowed → Consumes b.left c.left [] → c.given ≡ b.given + 0 → c.last ≡ gave_nothing b.last → IsAtEnd c.left → Halts why (said_lines lead (kept ∷ [])) now last → ReadsUntilStop why lead a c first last
  stops_at_last why first now last a b c kept allowed h consumed given one ended halts = at_last_line (record {
    whole = record {
      read = record {
        front = h.front;
        reads = reads_same a b c h.front h.reads consumed given;
        since = one_since a.last b.last c.last h.front h.since one;
        within = few allowed (length h.front) most_input h.left;
      };
      ended = ended;
    };
    halts = record {
      mid = now;
      runs = h.runs;
      halts = subst (λ (lines : List (List ℕ)). Halts why lines now last) (kept_line h.front kept h.tail) halts;
    };
  })

  -- one more piece
  pub one_piece : LinesGo → (first now last : World Machine) (a b c : SourceTold) (kept kept' piece : List ℕ) (allowed allowed' : ℕ) → SoFar first now a b kept allowed → Consumes b.left c.left piece → c.given ≡ b.given + length piece → 0 < length piece → c.last ≡ gave_piece (length piece) → b.faults ≤ c.faults → Runs (said_lines lead (whole_lines (kept ++ piece))) now last → kept' ≡ unfinished (kept ++ piece) → now.sink.faults ≤ last.sink.faults → allowed' + length piece ≡ allowed → SoFar first last a c kept' allowed'
  one_piece go first now last a b c kept kept' piece allowed allowed' h consumed given some is_last faults runs tail later less = record {
    front = h.front ++ piece;
    reads = reads_more a b c h.front piece h.reads consumed given;
    since = ap (λ (l : LastRead). l.since) is_last ∙ sym (none_since a.last h.front piece some);
    tail = tail ∙ (ap (λ rest. unfinished (rest ++ piece)) h.tail ∙ sym (go h.front piece).behind);
    left = let left = h.left in rw (length-append h.front piece) (omega arith);
    runs = subst (λ (ls : List (List ℕ)). Runs (said_lines lead ls) first last) (joined_lines go h.front kept piece h.tail) (runs_more lead (whole_lines h.front) (whole_lines (kept ++ piece)) first now last h.runs runs);
    later = let before = h.later in omega arith;
    input_later = let before = h.input_later in omega arith;
  }

  -- the run stops within a piece, of which this is within the limit
  pub stops_in_piece : (why : Stop) (first now last : World Machine) (a b c : SourceTold) (kept piece used : List ℕ) (allowed : ℕ) → SoFar first now a b kept allowed → Consumes b.left c.left piece → c.given ≡ b.given + length piece → c.last ≡ gave_piece (length piece) → take allowed piece ≡ used → Halts why (said_lines lead (whole_lines (kept ++ used))) now last → ReadsUntilStop why lead a c first last
  stops_in_piece why first now last a b c kept piece used allowed h consumed given is_last cut halts = in_piece (record {
    part = record {
      front = h.front;
      piece = piece;
      reads = reads_more a b c h.front piece h.reads consumed given;
      last = is_last;
      within = few allowed (length h.front) most_input h.left;
    };
    halts = record {
      mid = now;
      runs = h.runs;
      halts = subst (λ (ls : List (List ℕ)). Halts why (said_lines lead ls) now last) (ending_lines h.front kept piece used allowed h.tail h.left cut) halts;
    };
  })

  -- more was read than the limit
  pub ends_past_limit : LinesGo → (first now last : World Machine) (a b c : SourceTold) (kept piece used more : List ℕ) (allowed : ℕ) → SoFar first now a b kept allowed → Consumes b.left c.left piece → c.given ≡ b.given + length piece → c.last ≡ gave_piece (length piece) → piece ≡ used ++ more → length used ≡ allowed → 0 < length more → Runs (said_lines lead (whole_lines (kept ++ used))) now last → ReadsPastLimit lead a c first last
  ends_past_limit go first now last a b c kept piece used more allowed h consumed given is_last parts long some runs =
      let here : Runs (said_lines lead (whole_lines (h.front ++ used))) first last =
      subst (λ (ls : List (List ℕ)). Runs (said_lines lead ls) first last) (joined_lines go h.front kept used h.tail) (runs_more lead (whole_lines h.front) (whole_lines (kept ++ used)) first now last h.runs runs) in
      let most : length (h.front ++ used) ≡ most_input = let left = h.left in rw (length-append h.front used) (omega arith) in
      let whole : h.front ++ piece ≡ (h.front ++ used) ++ more = ap (λ rest. h.front ++ rest) parts ∙ sym (append_assoc h.front used more) in
      let front : take most_input (h.front ++ piece) ≡ h.front ++ used = front_within h.front piece used more allowed h.left parts long in
      record {
        part = record {
          read = record {
            front = h.front;
            piece = piece;
            reads = reads_more a b c h.front piece h.reads consumed given;
            last = is_last;
            within = few allowed (length h.front) most_input h.left;
          };
          beyond = let e = ap length whole ∙ length-append (h.front ++ used) more in omega (arith, e, most, some);
        };
        runs = subst (λ (bytes : List ℕ). Runs (said_lines lead (whole_lines bytes)) first last) (sym front) here;
      }

-- the front of a piece that is still allowed
pub cut_piece : (buf : List ℕ) (count allowed : ℕ) → allowed ≤ count → take allowed (take count buf) ≡ take allowed buf
cut_piece buf count allowed less = take-take allowed count buf less

-- a piece that is allowed whole
pub whole_piece : (piece : List ℕ) (allowed : ℕ) → length piece ≤ allowed → take allowed piece ≡ piece
whole_piece piece allowed few = take_all allowed piece few

-- that front, and the rest of the piece
pub first_of_piece : (buf : List ℕ) (count allowed : ℕ) → allowed ≤ count → take count buf ≡ take allowed buf ++ drop allowed (take count buf)
first_of_piece buf count allowed less =
    let front : take allowed (take count buf) ≡ take allowed buf = take-take allowed count buf less in
    sym (take-append-drop allowed (take count buf)) ∙ ap (λ bytes. bytes ++ drop allowed (take count buf)) front
