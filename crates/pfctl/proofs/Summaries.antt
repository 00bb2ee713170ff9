-- What a generated run comes to is written, or the run stops there.
use Rattle.std.proofs.Common.{ℕ, List, Err, arith, refl, ap, ◌∙◌, subst}
use Rattle.std.specs.Io.KnownBytes.{Appends}
use Rattle.pf_source.specs.Causes.{CountsOn}
use Rattle.pf_source.specs.Told.{FilesTold, SinkTold, SourceTold}
use Rattle.pfctl.specs.declared.session.Stop.{Stop}
use Rattle.pfctl.specs.declared.session.Stop.TheVariants as stop
use Rattle.pfctl.specs.Doing.{Sends, count_pieces, status_by}
use Rattle.pfctl.specs.Program.{MeansGenerated, Summarised, outside}
use Rattle.pfctl.proofs.Counting.{GeneratesBytes}
use Rattle.pfctl.proofs.Sessions.{one_piece}

module _ (number : ℕ) (files : FilesTold) (source : SourceTold) (old new : SinkTold) (bytes : List ℕ) (h : GeneratesBytes number bytes) where
  -- it was written whole
  pub whole_summary : CountsOn (count_pieces bytes) old.calls new.calls → Appends old.written new.written bytes → Summarised number (outside files source old) (outside files source new)
  whole_summary writes written = record {
    unread = record { files = refl; source = refl };
    reply = h.reply;
    generates = h.generates;
    written = subst (λ (text : List ℕ). Appends old.written new.written text) h.are written;
    writes = subst (λ (n : ℕ). CountsOn n old.calls new.calls) (ap count_pieces h.are ∙ one_piece h.reply) writes;
  }

  -- it wasn't
  pub cut_summary : (why : Stop) → CountsOn 1 old.calls new.calls → Sends {X = Unit {0}} old new bytes (Err why) → MeansGenerated number (outside files source old) (outside files source new) (status_by (Err why))
  cut_summary stop.WriteFault writes sends = record {
    unread = record { files = refl; source = refl };
    reply = h.reply;
    generates = h.generates;
    written = subst (λ (text : List ℕ). Sends {X = Unit {0}} old new text (Err stop.WriteFault)) h.are sends;
    writes = writes;
  }
  cut_summary stop.NoMemory writes sends = record {
    unread = record { files = refl; source = refl };
    written = sends;
    tries = 1;
    once = omega arith;
    writes = writes;
  }
