-- What a reading of a record gives, and one of key and value.
use Rattle.std.proofs.Common.{◌≡◌, ◌≢◌, inl, inr, sym, ◌∙◌, ap, subst, ℕ, ◌+◌, ◌≤◌, List, length, slice_get, Option, Result, Err, arith}
use Rattle.blob_device.specs.Disk.{Disk, Key}
use Rattle.blob_device.specs.Footprint.{Footprint, NoBound, SameElsewhere}
use Rattle.blob_device.specs.Opened.{Opened, reads_of}
use Rattle.blob_device.specs.Timeline.{disk}
use Rattle.blob_device.specs.declared.device.Device as device
use Rattle.blob_device.specs.lemmas.Footprint.{footprint_wider}
use Rattle.blob_device.specs.lemmas.Moments.{always_weaker}
use Rattle.sealed_pages.specs.Entries.{ReadsAtMost}
use Rattle.sealed_pages.specs.Reading.{Unchanged}
use Rattle.sealed_pages.specs.declared.page_blob.PageBlob.{PageBlob}
use Rattle.section_manager.specs.Sections.{section_key}
use Rattle.paired.specs.Pair.{list_of}
use Rattle.archives.specs.Entries.{HasKeyThere, HasRecord, ReadsEntry, ReadsRecordAlone, ReadsRecordAt}
use Rattle.archives.specs.Gets.{IsSectionBlob, Reads, ReadsRecord}
use Rattle.archives.specs.IndexRecord.{key_of}
use Rattle.archives.specs.IndexRecordLaws.{key_of-index_record}
use Rattle.archives.specs.Prunable.{Prunable, filing_by}
use Rattle.archives.specs.declared.error.Error.{Error}
use Rattle.archives.specs.declared.prunable.index_record.IndexRecord.{IndexRecord}
use Rattle.archives.proofs.read.Causes.{cause_of_record}
use Rattle.archives.proofs.read.Records.{weaker_at}

-- one blob was read, and no other
pub only_read : {D : Type 0} (dev : device.Ghosts D) (k : Key) (n : ℕ) (old new : D) → (dev.Tells → Unchanged (dev.time old) (dev.time new)) → ReadsAtMost n k (dev.opened old) (dev.opened new) → dev.faults old ≤ dev.faults new
    → Footprint dev (λ q. q ≡ k) (λ q m. (q ≡ k) × (m ≡ n)) old new
only_read dev k n old new unchanged read faults = record {
  alone = λ t. always_weaker (dev.time old) (dev.time new) (λ d. d ≡ disk (dev.time old)) (SameElsewhere (λ q. q ≡ k) (disk (dev.time old))) (λ d same q not. ap (λ (x : Disk). x q) same) (unchanged t);
  entries = read.others;
  reads = λ q m is. (let same : (q, m) ≡ (k, n) = (λ i. (is.0 i, is.1 i)) in subst (λ (x : Key × ℕ). reads_of (dev.opened new x.0) ≤ reads_of (dev.opened old x.0) + x.1) (sym same) read.reads);
  faults = faults;
}

module _ {A V F S D K : Type 0} {gs : _} (p : Prunable A V F (PageBlob S gs)) (dev : device.Ghosts D) (key_bytes : K → List ℕ) (a : A) (s at : ℕ) (old new : D) where
  -- the blob of the records was read, and that of the values was not
  record_alone : (filing_by p a).layout.index ≢ (filing_by p a).layout.values → Footprint dev (λ q. q ≡ section_key (filing_by p a).layout.index s) (ReadsRecordAlone (filing_by p a).layout s) old new
      → Footprint dev (IsSectionBlob (filing_by p a).layout s) (ReadsRecord (filing_by p a).layout s) old new
  record_alone apart touched = record { alone = wide.alone; entries = wide.entries; reads = reads; faults = wide.faults }
    where
      wide : Footprint dev (IsSectionBlob (filing_by p a).layout s) NoBound old new
      wide = footprint_wider dev (λ q. q ≡ section_key (filing_by p a).layout.index s) (IsSectionBlob (filing_by p a).layout s) (ReadsRecordAlone (filing_by p a).layout s) NoBound old new (λ q is. inl is) (λ q n none. absurd none) touched

      reads : (q : Key) (n : ℕ) → ReadsRecord (filing_by p a).layout s q n → reads_of (dev.opened new q) ≤ reads_of (dev.opened old q) + n
      reads q n (inl is) = touched.reads q n is
      reads q n (inr is) = subst (λ (o : Option Opened). reads_of o ≤ reads_of (dev.opened old q) + n) (sym (touched.entries q (λ one. apart (ap (λ (k : Key). k.0) (sym one ∙ is.0))))) (omega arith)

  -- a reading of the value that failed is one of both that failed
  pub as_entry_failed : (e : Error) → Reads p dev a s at (Err e) old new → (r : Result (K × V) Error) → r ≡ Err e → ReadsEntry p dev key_bytes a s at r old new
  as_entry_failed e reads r is = subst (λ (x : Result (K × V) Error). ReadsEntry p dev key_bytes a s at x old new) (sym is) (record { reads = reads; key = tt })

  -- and so is a reading of the record
  pub as_unread : (filing_by p a).layout.index ≢ (filing_by p a).layout.values → (e : Error) → ReadsRecordAt p dev key_bytes a s at (Err e) old new → (r : Result (K × V) Error) → r ≡ Err e → ReadsEntry p dev key_bytes a s at r old new
  as_unread apart e unread = as_entry_failed e (record {
    over = unread.over;
    unchanged = unread.unchanged;
    footprint = record_alone apart unread.footprint;
    ends = record {
      cause = cause_of_record (p.see a) (disk (dev.time old)) dev.Tells (λ P. P s at) (dev.faults old) (dev.faults new) e unread.ends.cause;
      unanswered = unread.ends.unanswered;
    };
  })

  -- the record that was read has the key
  pub key_there : ((k : K) → length (key_bytes k) ≡ (p.see a).key_size) → (r : IndexRecord K) → HasRecord p dev key_bytes a s at r old → (k : K) → k ≡ r.key → HasKeyThere p dev key_bytes a s at k old
  key_there sized r has k is t = weaker_at (slice_get (list_of (p.see a).pair (disk (dev.time old)) s) at)
      (λ e same. ap (key_of (p.see a).key_size) same ∙ key_of-index_record (p.see a).key_size r.index (key_bytes r.key) r.offset r.size (sized r.key) ∙ sym (ap key_bytes is)) (has.stored t)

  -- an error that is handed on
  pub unread_as : (r : Result (IndexRecord K) Error) (e : Error) → r ≡ Err e → ReadsRecordAt p dev key_bytes a s at (Err e) old new → ReadsRecordAt p dev key_bytes a s at r old new
  unread_as r e is unread = subst (λ (x : Result (IndexRecord K) Error). ReadsRecordAt p dev key_bytes a s at x old new) (sym is) unread

  pub value_unread_as : (r : Result V Error) (e : Error) → r ≡ Err e → Reads p dev a s at (Err e) old new → Reads p dev a s at r old new
  value_unread_as r e is unread = subst (λ (x : Result V Error). Reads p dev a s at x old new) (sym is) unread
