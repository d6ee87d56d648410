-- What lookups promise, by the ways in which one ends.
use Rattle.std.proofs.Common.{◌≡◌, ◌≢◌, ◌⊎◌, inl, inr, refl, sym, ◌∙◌, ap, subst, ℕ, ◌+◌, ◌<◌, ◌≤◌, ◌^◌, Bool, Option, None, Some, Result, Ok, Err, arith}
use Rattle.std.specs.Prelude.{⊤}
use Rattle.blob_device.specs.Disk.{Key}
use Rattle.blob_device.specs.Footprint.{Footprint, NoBound}
use Rattle.blob_device.specs.Opened.{Opened, reads_of}
use Rattle.blob_device.specs.Timeline.{disk}
use Rattle.blob_device.specs.declared.device.Device as device
use Rattle.blob_device.specs.lemmas.Footprint.{footprint_none, footprint_wider}
use Rattle.blob_device.specs.lemmas.Moments.{always_start}
use Rattle.blob_device.specs.lemmas.Puts.{same_or_other}
use Rattle.sealed_pages.specs.declared.page_blob.PageBlob.{PageBlob}
use Rattle.section_manager.specs.Sections.{section_key}
use Rattle.paired.specs.Crashes.{IsIndexOf, IsOwn}
use Rattle.archives.specs.Changes.{IsSoundOver, MayUse, state_over}
use Rattle.archives.specs.Finding.{Index, IsAt, Wanted, get_command}
use Rattle.archives.specs.Finding as wanted_by
use Rattle.archives.specs.Gets.{Gets, Has, HasNoRecord, HasNotRead, HasToLookIn, IsIndexOrValues, IsLookupCause, IsReadCause, IsRecordCause, IsSectionBlob, SomeToLookAt, Reads, ReadsRecord, ReadsWanted}
use Rattle.archives.specs.Prunable.{HasToLook, Prunable, filing_by, meaning}
use Rattle.archives.specs.Putting.{is_taken}
use Rattle.archives.specs.PuttingLaws.{taken_state}
use Rattle.archives.specs.Replies as reply
use Rattle.archives.specs.declared.error.Error.{Error}
use Rattle.archives.proofs.read.Causes.{HasCause, HasFailed, HasReadingError, cause_since, failure_of, read_cause, read_fault, record_failure, record_fault}
use Rattle.archives.proofs.read.Finding.{none_index}

module _ {A V F S D : Type 0} {gs : _} (p : Prunable A V F (PageBlob S gs)) (dev : device.Ghosts D) (a : A) where
  -- ---- one record

  module _ (s at : ℕ) (old new : D) where
    -- Why the record or its value is not read, by the result of the call.
    pub not_read : {T : Type 0} (r : Result T Error) (e : Error) → r ≡ Err e → HasReadingError r ⊎ HasFailed r (dev.faults old) (dev.faults new) → (dev.Tells → HasCause (p.see a) (disk (dev.time old)) s at r)
        → (dev.Tells → IsSoundOver (meaning p) dev a old → HasFailed r (dev.faults old) (dev.faults new)) → HasNotRead p dev a s at e old new
    not_read {T} r e is cause causes gives = record {
      cause = here;
      unanswered = record {
        gives = λ t sound. failure_of {T = T} e (dev.faults old) (dev.faults new) (subst (λ (x : Result T Error). HasFailed x (dev.faults old) (dev.faults new)) is (gives t sound));
        fault = read_fault (p.see a) (disk (dev.time old)) dev.Tells (λ P. P s at) (dev.faults old) (dev.faults new) e here;
      };
    }
      where
        here : IsReadCause (p.see a) (disk (dev.time old)) dev.Tells (λ P. P s at) (dev.faults old) (dev.faults new) e
        here = read_cause (p.see a) (disk (dev.time old)) dev.Tells s at (dev.faults old) (dev.faults new) T e (subst (λ (x : Result T Error). HasReadingError x ⊎ HasFailed x (dev.faults old) (dev.faults new)) is cause)
            (λ t. subst (HasCause (p.see a) (disk (dev.time old)) s at) is (causes t))

  -- the record cannot be read
  pub no_record : (e : Error) (old new : D) → IsRecordCause dev.Tells (dev.faults old) (dev.faults new) e → HasNoRecord p dev a e old new
  no_record e old new cause = record {
    cause = cause;
    unanswered = record {
      gives = λ t sound. record_failure dev.Tells (dev.faults old) (dev.faults new) e t cause;
      fault = record_fault dev.Tells (dev.faults old) (dev.faults new) e cause;
    };
  }

  -- a lookup had to look at the record
  pub lookup_cause : (wanted : Wanted) (s at : ℕ) → HasToLook p a wanted s at → (old new : D) (e : Error) → HasNotRead p dev a s at e old new → IsLookupCause p dev a wanted old new e
  lookup_cause wanted s at looks old new e why =
      cause_since (p.see a) (disk (dev.time old)) dev.Tells (λ P. P s at) (SomeToLookAt p dev a wanted) (λ P has. (s, at, looks, has)) (dev.faults old) (dev.faults old) (dev.faults new) (omega arith) (disk (dev.time old)) (λ t. refl) e why.cause

  -- ---- the value of what is wanted

  module _ (wanted : Wanted) (s at : ℕ) (small : s < 2 ^ 64) (looks : HasToLook p a wanted s at) (is_at : IsAt (p.see a) wanted s at) (apart : (filing_by p a).layout.index ≢ (filing_by p a).layout.values) (old new : D) where
    all_own : (q : Key) → IsSectionBlob (filing_by p a).layout s q → IsOwn (filing_by p a).layout (λ _. ⊤) q
    all_own q (inl is) = inl (s, small, tt, is)
    all_own q (inr is) = inr (inl (s, small, tt, is))

    near_blob : (q : Key) → IsSectionBlob (filing_by p a).layout s q → IsIndexOrValues (filing_by p a).layout (HasToLookIn p dev a wanted) (Some s) q
    near_blob q (inl is) = inl (s, small, (at, looks), is)
    near_blob q (inr is) = inr is

    module _ (touched : Footprint dev (IsSectionBlob (filing_by p a).layout s) (ReadsRecord (filing_by p a).layout s) old new) where
      unread : (q : Key) (n : ℕ) → (IsSectionBlob (filing_by p a).layout s q → ⊥) → reads_of (dev.opened new q) ≤ reads_of (dev.opened old q) + n
      unread q n not = subst (λ (o : Option Opened). reads_of o ≤ reads_of (dev.opened old q) + n) (sym (touched.entries q not)) (omega arith)

      other_partition : (t : ℕ) → section_key (filing_by p a).layout.index t ≡ section_key (filing_by p a).layout.values s → ⊥
      other_partition t same = apart (ap (λ (q : Key). q.0) same)

      other_values : (t : ℕ) → section_key (filing_by p a).layout.values t ≡ section_key (filing_by p a).layout.index s → ⊥
      other_values t same = apart (ap (λ (q : Key). q.0) (sym same))

      -- each section allows the reads of one record, and of one value
      reads_at : (q : Key) (n t : ℕ) → ReadsRecord (filing_by p a).layout t q n → reads_of (dev.opened new q) ≤ reads_of (dev.opened old q) + n
      reads_at q n t (inl is) = elim (same_or_other q (section_key (filing_by p a).layout.index s)) [
        | inl here ↦ touched.reads q n (inl (here, is.1))
        | inr other ↦ unread q n (λ blob. elim blob [ inl one ↦ other one | inr two ↦ other_partition t (sym is.0 ∙ two) ])
      ]
      reads_at q n t (inr is) = elim (same_or_other q (section_key (filing_by p a).layout.values s)) [
        | inl here ↦ touched.reads q n (inr (here, is.1))
        | inr other ↦ unread q n (λ blob. elim blob [ inl one ↦ other_values t (sym is.0 ∙ one) | inr two ↦ other two ])
      ]

      reads_wanted : (w : Wanted) (q : Key) (n : ℕ) → ReadsWanted (filing_by p a).layout w q n → reads_of (dev.opened new q) ≤ reads_of (dev.opened old q) + n
      reads_wanted (wanted_by.Index i) q n (t, few, is) = reads_at q n t is
      reads_wanted (wanted_by.Key k) q n (t, few, is) = reads_at q n t (inr is)

      wanted_touches : Footprint dev (IsIndexOrValues (filing_by p a).layout (HasToLookIn p dev a wanted) (Some s)) (ReadsWanted (filing_by p a).layout wanted) old new
      wanted_touches =
          let wide = footprint_wider dev (IsSectionBlob (filing_by p a).layout s) (IsIndexOrValues (filing_by p a).layout (HasToLookIn p dev a wanted) (Some s)) (ReadsRecord (filing_by p a).layout s) NoBound old new near_blob (λ q n none. absurd none) touched in
          record { alone = wide.alone; entries = wide.entries; reads = reads_wanted wanted; faults = wide.faults }

      own_touches : Footprint dev (IsOwn (filing_by p a).layout (λ _. ⊤)) NoBound old new
      own_touches = footprint_wider dev (IsSectionBlob (filing_by p a).layout s) (IsOwn (filing_by p a).layout (λ _. ⊤)) (ReadsRecord (filing_by p a).layout s) NoBound old new all_own (λ q n none. absurd none) touched

    pub get_failed : (r : Result (Option V) Error) (e : Error) → r ≡ Err e → Reads p dev a s at (Err e) old new → Gets p dev a wanted r old new
    get_failed r e is reads = subst (λ (x : Result (Option V) Error). Gets p dev a wanted x old new) (sym is) (record {
      asks = record { over = reads.over; unchanged = reads.unchanged; footprint = own_touches reads.footprint; ends = reads.ends.unanswered };
      section = Some s;
      there = ((at, looks), λ t. (at, is_at));
      footprint = wanted_touches reads.footprint;
      none = λ far. absurd (far (s, at, looks, tt));
      ends = lookup_cause wanted s at looks old new e reads.ends;
    })

    pub get_done : (v : V) → Reads p dev a s at (Ok v) old new
        → (dev.Tells → (meaning p).Step a (state_over (meaning p) dev a old) (get_command wanted) (reply.Value (Some (p.spelling v))) (state_over (meaning p) dev a new)) → Gets p dev a wanted (Ok (Some v)) old new
    get_done v reads step = record {
      asks = record { over = reads.over; unchanged = reads.unchanged; footprint = own_touches reads.footprint; ends = step };
      section = Some s;
      there = ((at, looks), λ t. (at, is_at));
      footprint = wanted_touches reads.footprint;
      none = λ far. absurd (far (s, at, looks, tt));
      ends = reads.ends.accepted;
    }

  -- ---- where no blob is read

  module _ (wanted : Wanted) (d : D) (over : MayUse (meaning p) dev a d) where
    pub get_nothing : (dev.Tells → (meaning p).Step a (state_over (meaning p) dev a d) (get_command wanted) (reply.Value None) (state_over (meaning p) dev a d)) → Gets p dev a wanted (Ok None) d d
    get_nothing step = record {
      asks = record {
        over = over;
        unchanged = λ t. always_start (dev.time d) (λ x. x ≡ disk (dev.time d)) refl;
        footprint = footprint_none dev (IsOwn (filing_by p a).layout (λ _. ⊤)) NoBound d d refl;
        ends = step;
      };
      section = None;
      there = tt;
      footprint = footprint_none dev (IsIndexOrValues (filing_by p a).layout (HasToLookIn p dev a wanted) None) (ReadsWanted (filing_by p a).layout wanted) d d refl;
      none = λ far. (refl, refl);
      ends = tt;
    }

  -- by index the set tells
  pub has_by_index : (d : D) → MayUse (meaning p) dev a d → (i : ℕ) (flag : Bool) → flag ≡ (p.see a).indices i → Has p dev a (Index i) (Ok flag) d d
  has_by_index d over i flag is = record {
    asks = record {
      asks = record {
        over = over;
        unchanged = λ t. always_start (dev.time d) (λ x. x ≡ disk (dev.time d)) refl;
        footprint = footprint_none dev (IsOwn (filing_by p a).layout (λ _. ⊤)) NoBound d d refl;
        ends = λ t. (taken ∙ taken_state (p.see a) (disk (dev.time d)) (over.listed t) i, refl);
      };
      by_index = λ j same. (let ok : Bool → Result Bool Error = λ b. Ok b in let number : i ≡ j = cc same in (ap ok (is ∙ ap (p.see a).indices number), refl));
    };
    footprint = footprint_none dev (IsIndexOf (filing_by p a).layout (HasToLookIn p dev a (Index i))) NoBound d d refl;
    none = λ far. (let ok : Bool → Result Bool Error = λ b. Ok b in (ap ok (taken ∙ none_index (p.see a) i (λ s has. far (s, has.0, has.1, tt))), refl));
    ends = tt;
  }
    where
      taken : flag ≡ is_taken (p.see a) i
      taken = is ∙ over.indices i

  -- ---- what is wanted is named in another way

  module _ (one two : Wanted) (same : one ≡ two) (old new : D) where
    pub gets_as : (r : Result (Option V) Error) → Gets p dev a two r old new → Gets p dev a one r old new
    gets_as r gets = subst (λ (w : Wanted). Gets p dev a w r old new) (sym same) gets

    pub has_as : (r : Result Bool Error) → Has p dev a two r old new → Has p dev a one r old new
    has_as r has = subst (λ (w : Wanted). Has p dev a w r old new) (sym same) has
