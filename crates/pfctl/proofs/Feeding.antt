-- The lines of the input, executed one after another as they become whole.
use Rattle.std.proofs.Common.{◌≡◌, ◌+◌, ◌≤◌, ℕ, true, false, length, length-append, arith, List, [], ◌∷◌, ◌++◌, map, cond, refl, sym, ap, ◌∙◌, subst, append_assoc, append-nil}
use Rattle.std.specs.List.{filter}
use Rattle.pf_base.specs.Text.{whole_lines, unfinished, IsOneLine, CutsLine, EndsNoLine}
use Rattle.pf_runs.specs.Runs.{World}
use Rattle.pf_state.specs.declared.machine.Machine.{Machine}
use Rattle.pfctl.specs.declared.session.Stop.{Stop}
use Rattle.pfctl.specs.declared.session.Stop.TheVariants as stop
use Rattle.pfctl.specs.Doing.{Halts, Runs}
use Rattle.pfctl.specs.Lines.{said_lines, says_something}
use Rattle.pfctl.proofs.Sessions.{halts_idle, halts_on, halts_sooner, runs_nothing, runs_on}

pub said_lines-append : (lead : List ℕ) (xs ys : List (List ℕ)) → said_lines lead (xs ++ ys) ≡ said_lines lead xs ++ said_lines lead ys
said_lines-append lead [] ys = refl
said_lines-append lead (x ∷ xs) ys =
    elim (says_something x) as (λ b. map (λ line. lead ++ line) (cond b (x ∷ filter says_something (xs ++ ys)) (filter says_something (xs ++ ys))) ≡ map (λ line. lead ++ line) (cond b (x ∷ filter says_something xs) (filter says_something xs)) ++ said_lines lead ys) [
      | true ↦ ap (λ rest. (lead ++ x) ∷ rest) (said_lines-append lead xs ys)
      | false ↦ said_lines-append lead xs ys
    ]

-- a line of the input that says something, and one that doesn't
pub one_said : (lead line : List ℕ) → says_something line ≡ true → said_lines lead (line ∷ []) ≡ (lead ++ line) ∷ []
one_said lead line h = rw h refl

pub none_said : (lead line : List ℕ) → says_something line ≡ false → said_lines lead (line ∷ []) ≡ []
none_said lead line h = rw h refl

-- what stands behind a line is shorter
pub cut_is_shorter : (text line behind : List ℕ) → CutsLine text line behind → length behind + 1 ≤ length text
cut_is_shorter text line behind cut =
    let joined : length text ≡ length line + length (10 ∷ behind) = ap length cut.joined ∙ length-append line (10 ∷ behind) in
    omega arith

module _ (lead : List ℕ) where
  pub runs_more : (xs ys : List (List ℕ)) (a b c : World Machine) → Runs (said_lines lead xs) a b → Runs (said_lines lead ys) b c → Runs (said_lines lead (xs ++ ys)) a c
  runs_more xs ys a b c h k =
      subst (λ (lines : List (List ℕ)). Runs lines a c) (sym (said_lines-append lead xs ys)) (runs_on (said_lines lead xs) (said_lines lead ys) a b c h k)

  halts_more : (why : Stop) (xs ys : List (List ℕ)) (a b c : World Machine) → Runs (said_lines lead xs) a b → Halts why (said_lines lead ys) b c → Halts why (said_lines lead (xs ++ ys)) a c
  halts_more why xs ys a b c h k =
      subst (λ (lines : List (List ℕ)). Halts why lines a c) (sym (said_lines-append lead xs ys)) (halts_on why (said_lines lead xs) (said_lines lead ys) a b c h k)

  halts_before : (why : Stop) (xs ys : List (List ℕ)) (a c : World Machine) → Halts why (said_lines lead xs) a c → Halts why (said_lines lead (xs ++ ys)) a c
  halts_before why xs ys a c h =
      subst (λ (lines : List (List ℕ)). Halts why lines a c) (sym (said_lines-append lead xs ys)) (halts_sooner why (said_lines lead xs) (said_lines lead ys) a c h)

  -- Of a text, the lines up to what is left were executed: `kept` stands behind the last of them, and then `rest`.
  pub record Fed (first now : World Machine) (text kept rest : List ℕ) : Type 0 where
    pub did : List (List ℕ)
    pub are : did ++ whole_lines (kept ++ rest) ≡ whole_lines text
    pub behind : unfinished (kept ++ rest) ≡ unfinished text
    pub one : IsOneLine kept
    pub runs : Runs (said_lines lead did) first now

  pub fed_nothing : (first : World Machine) (kept piece : List ℕ) → IsOneLine kept → Fed first first (kept ++ piece) kept piece
  fed_nothing first kept piece one = record { did = []; are = refl; behind = refl; one = one; runs = runs_nothing first }

  -- one more line
  pub fed_line : (first a b : World Machine) (text kept rest line behind : List ℕ) → Fed first a text kept rest → CutsLine rest line behind → Runs (said_lines lead ((kept ++ line) ∷ [])) a b → Fed first b text [] behind
  fed_line first a b text kept rest line behind h cut runs = record {
    did = h.did ++ (kept ++ line) ∷ [];
    are = append_assoc h.did ((kept ++ line) ∷ []) (whole_lines behind) ∙ (ap (λ ls. h.did ++ ls) (sym (cut.whole kept h.one)) ∙ h.are);
    behind = sym (cut.behind kept h.one) ∙ h.behind;
    one = refl;
    runs = runs_more h.did ((kept ++ line) ∷ []) first a b h.runs runs;
  }

  -- the run stops at the next line
  pub fed_halts : (why : Stop) (first a b : World Machine) (text kept rest line behind : List ℕ) → Fed first a text kept rest → CutsLine rest line behind → Halts why (said_lines lead ((kept ++ line) ∷ [])) a b → Halts why (said_lines lead (whole_lines text)) first b
  fed_halts why first a b text kept rest line behind h cut halts =
      let lines : h.did ++ ((kept ++ line) ∷ whole_lines behind) ≡ whole_lines text = ap (λ ls. h.did ++ ls) (sym (cut.whole kept h.one)) ∙ h.are in
      subst (λ (ls : List (List ℕ)). Halts why (said_lines lead ls) first b) lines
      (halts_more why h.did ((kept ++ line) ∷ whole_lines behind) first a b h.runs (halts_before why ((kept ++ line) ∷ []) (whole_lines behind) a b halts))

  -- the run stops for want of memory
  pub fed_no_memory : (first a b : World Machine) (text kept rest : List ℕ) → b.sink ≡ a.sink → b.files ≡ a.files → Fed first a text kept rest → Halts stop.NoMemory (said_lines lead (whole_lines text)) first b
  fed_no_memory first a b text kept rest sink files h =
      subst (λ (ls : List (List ℕ)). Halts stop.NoMemory (said_lines lead ls) first b) h.are
      (halts_more stop.NoMemory h.did (whole_lines (kept ++ rest)) first a b h.runs (halts_idle (said_lines lead (whole_lines (kept ++ rest))) a b sink files))

  -- no line is left
  pub fed_all : (first now : World Machine) (text kept rest : List ℕ) → Fed first now text kept rest → EndsNoLine rest → Runs (said_lines lead (whole_lines text)) first now × (kept ++ rest ≡ unfinished text)
  fed_all first now text kept rest h none =
      let lines : h.did ≡ whole_lines text = sym (append-nil h.did) ∙ (ap (λ ls. h.did ++ ls) (sym (none.whole kept h.one)) ∙ h.are) in
      (subst (λ (ls : List (List ℕ)). Runs (said_lines lead ls) first now) lines h.runs, sym (none.behind kept h.one) ∙ h.behind)
