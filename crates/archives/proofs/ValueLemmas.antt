-- A value that is read after its record: what both readings come to.
use Rattle.std.proofs.Common.{◌≡◌, ◌≢◌, inl, inr, sym, ◌∙◌, ap, subst, ℕ, ◌+◌, ◌≤◌, List, slice_get, Option, IsSomeAnd, Result, Ok, Err}
use Rattle.blob_device.specs.Disk.{Disk, Key}
use Rattle.blob_device.specs.Footprint.{AtMostBoth, Footprint, NoBound}
use Rattle.blob_device.specs.Opened.{Opened, reads_of}
use Rattle.blob_device.specs.Timeline.{disk}
use Rattle.blob_device.specs.declared.device.Device as device
use Rattle.blob_device.specs.lemmas.Footprint.{footprint_then, footprint_wider}
use Rattle.sealed_pages.specs.Reading.{Unchanged}
use Rattle.sealed_pages.specs.declared.page_blob.PageBlob.{PageBlob}
use Rattle.paired.specs.lemmas.pair.Failing.{rose_before}
use Rattle.sealed_pages.specs.lemmas.looking.Looking.{unchanged_now, unchanged_then}
use Rattle.section_manager.specs.Sections.{section_key}
use Rattle.paired.specs.Pair.{list_of}
use Rattle.archives.specs.Archives.{IsSoundArchive}
use Rattle.archives.specs.Entries.{HasRecord, ReadsRecordAlone, ReadsRecordAt, ReadsValueOf}
use Rattle.archives.specs.Gets.{HasNoRecord, HasNotRead, IsSectionBlob, ReadEnds, Reads, ReadsRecord, ReadsValueAlone}
use Rattle.archives.specs.IndexRecord.{spelling_of}
use Rattle.archives.specs.Prunable.{Prunable, filing_by}
use Rattle.archives.specs.declared.error.Error.{Error}
use Rattle.archives.specs.declared.prunable.index_record.IndexRecord.{IndexRecord}
use Rattle.archives.proofs.read.Causes.{cause_since, failure_since, record_since}
use Rattle.archives.proofs.ReadsLemmas.{no_record}

module _ {A V F S D : Type 0} {gs : _} (p : Prunable A V F (PageBlob S gs)) (dev : device.Ghosts D) (a : A) where
  -- ---- what holds later, where no blob's history has changed

  pub no_record_since : (old mid new : D) → dev.faults old ≤ dev.faults mid → (e : Error) → HasNoRecord p dev a e mid new → HasNoRecord p dev a e old new
  no_record_since old mid new since e why = no_record p dev a e old new (record_since dev.Tells (dev.faults old) (dev.faults mid) (dev.faults new) since e why.cause)

  module _ (s at : ℕ) (old mid new : D) (unchanged : dev.Tells → Unchanged (dev.time old) (dev.time mid)) (since : dev.faults old ≤ dev.faults mid) where
    -- a record that could not be read
    pub unread_since : (e : Error) → HasNotRead p dev a s at e mid new → HasNotRead p dev a s at e old new
    unread_since e why = record {
      cause = cause_since (p.see a) (disk (dev.time old)) dev.Tells (λ P. P s at) (λ P. P s at) (λ P has. has) (dev.faults old) (dev.faults mid) (dev.faults new) since
          (disk (dev.time mid)) (λ t. unchanged_now _ _ (unchanged t)) e why.cause;
      unanswered = record {
        gives = λ t sound. failure_since e (dev.faults old) (dev.faults mid) (dev.faults new) since
            (why.unanswered.gives t (subst (IsSoundArchive (p.see a)) (sym (unchanged_now _ _ (unchanged t))) sound));
        fault = λ is. rose_before (dev.faults old) (dev.faults mid) (dev.faults new) since (why.unanswered.fault is);
      };
    }

    -- how a reading ended
    pub read_since : (r : Result V Error) → ReadEnds p dev a s at r mid new → ReadEnds p dev a s at r old new
    read_since (Ok v) read = record {
      value = λ t. subst (λ (d : Disk). IsSomeAnd (slice_get (list_of (p.see a).pair d s) at) (λ e. e.value ≡ p.spelling v)) (unchanged_now _ _ (unchanged t)) (read.value t);
      accepted = read.accepted;
    }
    read_since (Err e) why = unread_since e why

  module _ {K : Type 0} (key_bytes : K → List ℕ) (s at : ℕ) (old mid : D) (unchanged : dev.Tells → Unchanged (dev.time old) (dev.time mid)) (r : IndexRecord K) where
    -- the record still stands on the disk
    pub still_stands : HasRecord p dev key_bytes a s at r old → HasRecord p dev key_bytes a s at r mid
    still_stands has = record {
      stored = λ t. subst (λ (d : Disk). IsSomeAnd (slice_get (list_of (p.see a).pair d s) at) (λ e. e.stored ≡ spelling_of key_bytes r)) (sym (unchanged_now _ _ (unchanged t))) (has.stored t);
      fits = has.fits;
    }

    -- and it stood there before
    pub stood_before : HasRecord p dev key_bytes a s at r mid → HasRecord p dev key_bytes a s at r old
    stood_before has = record {
      stored = λ t. subst (λ (d : Disk). IsSomeAnd (slice_get (list_of (p.see a).pair d s) at) (λ e. e.stored ≡ spelling_of key_bytes r)) (unchanged_now _ _ (unchanged t)) (has.stored t);
      fits = has.fits;
    }

  -- an error that is handed on
  pub value_of_unread : {K : Type 0} (key_bytes : K → List ℕ) (s : ℕ) (r : IndexRecord K) (old new : D) (result : Result V Error) (e : Error) → result ≡ Err e → ReadsValueOf p dev key_bytes a s r (Err e) old new → ReadsValueOf p dev key_bytes a s r result old new
  value_of_unread key_bytes s r old new result e is unread = subst (λ (x : Result V Error). ReadsValueOf p dev key_bytes a s r x old new) (sym is) unread

  -- ---- both readings

  module _ {K : Type 0} (key_bytes : K → List ℕ) (s at : ℕ) (apart : (filing_by p a).layout.index ≢ (filing_by p a).layout.values) (old mid new : D) (r : IndexRecord K) (first : ReadsRecordAt p dev key_bytes a s at (Ok r) old mid) where
    pub value_reads : (v : Result V Error) → ReadsValueOf p dev key_bytes a s r v mid new → Reads p dev a s at v old new
    value_reads v second = record {
      over = second.over;
      unchanged = λ t. unchanged_then _ _ _ (first.unchanged t) (second.unchanged t);
      footprint = record { alone = both.alone; entries = both.entries; reads = reads; faults = both.faults };
      ends = read_since s at old mid new first.unchanged first.footprint.faults v (second.ends at (still_stands key_bytes s at old mid first.unchanged r first.ends));
    }
      where
        Blobs : Key → Type 0
        Blobs = IsSectionBlob (filing_by p a).layout s

        both : Footprint dev Blobs NoBound old new
        both = footprint_wider dev Blobs Blobs (AtMostBoth NoBound NoBound) NoBound old new (λ q is. is) (λ q n none. absurd none)
            (footprint_then dev Blobs NoBound NoBound old mid new
            (footprint_wider dev (λ q. q ≡ section_key (filing_by p a).layout.index s) Blobs (ReadsRecordAlone (filing_by p a).layout s) NoBound old mid (λ q is. inl is) (λ q n none. absurd none) first.footprint)
            (footprint_wider dev (λ q. q ≡ section_key (filing_by p a).layout.values s) Blobs (ReadsValueAlone (filing_by p a).layout s) NoBound mid new (λ q is. inr is) (λ q n none. absurd none) second.footprint))

        -- each blob is read by one of the two calls
        reads : (q : Key) (n : ℕ) → ReadsRecord (filing_by p a).layout s q n → reads_of (dev.opened new q) ≤ reads_of (dev.opened old q) + n
        reads q n (inl is) = subst (λ (o : Option Opened). reads_of o ≤ reads_of (dev.opened old q) + n) (sym (second.footprint.entries q (λ other. apart (ap (λ (k : Key). k.0) (sym is.0 ∙ other))))) (first.footprint.reads q n is)
        reads q n (inr is) = subst (λ (o : Option Opened). reads_of (dev.opened new q) ≤ reads_of o + n) (first.footprint.entries q (λ other. apart (ap (λ (k : Key). k.0) (sym other ∙ is.0)))) (second.footprint.reads q n is)
