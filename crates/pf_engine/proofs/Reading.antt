-- What files come to, with one that couldn't be read.
use Rattle.std.proofs.Common.{◌≡◌, ℕ, Bool, true, false, List, [], ◌∷◌, ◌++◌, Option, Some, None, Result, Ok, Err, refl, sym, ap, ◌∙◌, subst, inr}
use Rattle.std.specs.Prelude.{nat_eq, if◌then◌else◌}
use Rattle.std.specs.Cmp.Lexicographic.{pointwise}
use Rattle.std.specs.List.{AllZip}
use Rattle.std.proofs.lemmas.Bool.Decides.{Decides-eqb}
use Rattle.std.proofs.lemmas.Slice.Eq.{slice_eq-Decides}
use Rattle.pf_base.specs.Text.{lines_of, unfinished, whole_lines}
use Rattle.pf_host.specs.Facts.{HostFacts}
use Rattle.pf_optim.specs.Profile.{Says, said_lines}
use Rattle.pf_optim.specs.declared.rows.Row.{Row}
use Rattle.pf_reply.specs.declared.refusal.Refusal.{Refusal}
use Rattle.pf_reply.specs.declared.refusal.Refusal.TheVariants as refusals
use Rattle.pf_script.specs.declared.command.LoadLine.{LoadLine}
use Rattle.pf_source.specs.Disk.{Disk, without}
use Rattle.pf_state.specs.declared.ready.Ready.{Ready}
use Rattle.pf_engine.specs.FilesRead.{outage_in}
use Rattle.pf_engine.specs.LoadLines.{FileComes, LineComes, ProfileIn, ProfileReads, ProfileSays, options_of}
use Rattle.pf_engine.specs.Whatever.{FileMayCome, LineMayCome}

-- the lines of nothing say no row
no_lines : lines_of [] ≡ []
unfolding lines_of whole_lines unfinished
no_lines = refl

no_rows : (lines : List (List ℕ)) (rows : List Row) → lines ≡ [] → AllZip Says (said_lines lines) rows → rows ≡ []
no_rows [] [] e h = refl
no_rows [] (row ∷ rows) e h = absurd h
no_rows (line ∷ lines) rows e h = cc

no_fault : (before : List (List ℕ)) (line : List ℕ) (behind : List (List ℕ)) → [] ≡ before ++ line ∷ behind → ⊥
no_fault [] line behind e = cc
no_fault (one ∷ before) line behind e = cc

-- the profile of nothing has no row
pub nothing_says : (answer : Result (List Row) Refusal) → ProfileSays [] answer → answer ≡ Ok []
nothing_says (Ok rows) says = ap (λ (rows : List Row). Ok rows) (no_rows (lines_of []) rows no_lines says.said)
nothing_says (Err (refusals.ProfileFault line)) fault = absurd (no_fault fault.before fault.line fault.behind (sym no_lines ∙ fault.is))
nothing_says (Err refusal) says = absurd says

-- the profile comes to rows, and then the file to what it may
pub file_comes : (line : LoadLine) (answer : Result Ready Refusal) → FileMayCome answer → LineMayCome line answer
file_comes line (Ok ready) few = few
file_comes line (Err refusal) h = inr h

-- Where the file of a line couldn't be read behind its profile, the profile is as it was, unless it is that very file.
lost_behind : (disk : Disk) (facts : HostFacts) (line : LoadLine) (rows : List Row) (name : List ℕ) (profile : Option (List ℕ)) → profile ≡ line.profile → ProfileReads disk profile (Ok rows) → FileComes (without (Some name) disk) facts (options_of line) line.file rows (Err (refusals.CannotRead name)) → LineComes (without (Some name) disk) facts line (Err (refusals.CannotRead name))
lost_behind disk facts line rows name None e reads comes = record {
  profile = Ok rows;
  reads = subst (λ (p : Option (List ℕ)). ProfileReads (without (Some name) disk) p (Ok rows)) e reads;
  comes = comes;
}
lost_behind disk facts line rows name (Some file) e reads comes =
    elim (pointwise nat_eq file name) as (λ b. pointwise nat_eq file name ≡ b → LineComes (without (Some name) disk) facts line (Err (refusals.CannotRead name))) [
      | true ↦ λ same. record {
        profile = Err (refusals.CannotRead file);
        reads = subst (λ (p : Option (List ℕ)). ProfileReads (without (Some name) disk) p (Err (refusals.CannotRead file))) e
            (subst (λ (held : Option (List ℕ)). ProfileIn file held (Err (refusals.CannotRead file))) (sym (ap (λ (b : Bool). if b then None else disk file) same)) refl);
        comes = ap (λ (n : List ℕ). Err (refusals.CannotRead n)) (sym ((slice_eq-Decides Decides-eqb file name (pointwise nat_eq file name) refl).0 same));
      }
      | false ↦ λ apart. record {
        profile = Ok rows;
        reads = subst (λ (p : Option (List ℕ)). ProfileReads (without (Some name) disk) p (Ok rows)) e
            (subst (λ (held : Option (List ℕ)). ProfileIn file held (Ok rows)) (sym (ap (λ (b : Bool). if b then None else disk file) apart)) reads);
        comes = comes;
      }
    ] refl

-- the profile was read, and then the file
pub line_comes : (disk : Disk) (facts : HostFacts) (line : LoadLine) (rows : List Row) (answer : Result Ready Refusal) → ProfileReads disk line.profile (Ok rows) → FileComes (without (outage_in answer) disk) facts (options_of line) line.file rows answer → LineComes (without (outage_in answer) disk) facts line answer
line_comes disk facts line rows (Ok ready) reads comes = record { profile = Ok rows; reads = reads; comes = comes }
line_comes disk facts line rows (Err (refusals.CannotRead name)) reads comes = lost_behind disk facts line rows name line.profile refl reads comes
line_comes disk facts line rows (Err refusal) reads comes = record { profile = Ok rows; reads = reads; comes = comes }

-- the profile was refused
pub line_refused : (disk : Disk) (facts : HostFacts) (line : LoadLine) (refusal : Refusal) → ProfileReads (without (outage_in {T = List Row} (Err refusal)) disk) line.profile (Err refusal) → LineComes (without (outage_in {T = Ready} (Err refusal)) disk) facts line (Err refusal)
line_refused disk facts line refusal reads = record { profile = Err refusal; reads = reads; comes = refl }
