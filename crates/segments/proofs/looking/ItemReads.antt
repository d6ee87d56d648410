-- How a read of one item of a buffer ends, and of several.
use Rattle.std.specs.Prelude.{◌≡◌, ◌⊎◌, ℕ, ◌+◌, ◌*◌, ◌/◌, ◌≤◌, true, Bool, List, Option, Some, Result, Ok, Err, OnErr}
use Rattle.std.specs.Result.{IsErrOf}
use Rattle.std.specs.List.{Contains}
use Rattle.std.proofs.Common.{inl, inr, refl, sym, ◌∙◌, ap, subst, arith}
use Rattle.blob_device.specs.Disk.{Key, Blob}
use Rattle.blob_device.specs.Opened.{OpenedList}
use Rattle.blob_device.specs.declared.device.Device as device
use Rattle.blob_device.specs.declared.runtime.RError.TheVariants.{InvalidChecksum}
use Rattle.value_codec.specs.declared.codec.Error as codec
use Rattle.value_codec.specs.declared.codec.Error.TheVariants as code
use Rattle.sealed_pages.specs.declared.page_blob.PageBlob.{PageBlob}
use Rattle.sealed_pages.specs.Buffer.{key_of, bytes_of, IsBacked}
use Rattle.sealed_pages.specs.Entries.{ReadsAtMost}
use Rattle.sealed_pages.specs.Reading.{Unchanged}
use Rattle.sealed_pages.specs.Shown.{shown}
use Rattle.sealed_pages.specs.lemmas.looking.Looking.{unchanged_start}
use Rattle.section_manager.specs.Raised.{raised_codec}
use Rattle.section_manager.specs.Refusing.{HasFailed}
use Rattle.section_manager.specs.declared.journal.Error.{Error}
use Rattle.section_manager.specs.declared.journal.Error.TheVariants.{Runtime, Codec, Mem}
use Rattle.section_manager.specs.lemmas.Seen.{err_same}
use Rattle.segments.specs.FixedGetting.{ReadsItem, ReadsEach}
use Rattle.segments.specs.FixedItems.{item_at}
use Rattle.segments.specs.FixedReading.{is_item_held, unheld, IsDamaged, IsItemCovered, HasNotRead}
use Rattle.segments.specs.lemmas.FixedErrors.{codec_of}

-- no call reads nothing
pub no_reads : (n : ℕ) (k : Key) (a : OpenedList) → ReadsAtMost n k a a
no_reads n k a = record { others = λ q other. refl; length = λ len is. is; reads = omega arith }

-- an error of a codec stays that, but for want of memory
raised_is : (e : codec.Error) → (raised_codec e ≡ Mem) ⊎ (raised_codec e ≡ Codec e)
raised_is code.Mem = inl refl
raised_is e = inr refl

-- a damaged page, or a failure of the device, is no refusal of the codec
uncoded : {T : Type 0} (e : Error) (x : codec.Error) (a b : ℕ) → ((k : ℕ) × IsErrOf {T = T} (Err e) (Runtime (InvalidChecksum k))) ⊎ HasFailed {T = T} (Err e) a b → e ≡ Codec x → ⊥
uncoded e x a b (inl page) is = absurd (cc (page.1, is))
uncoded e x a b (inr (inl mem)) is = absurd (cc (mem, is))
uncoded e x a b (inr (inr fault)) is = absurd (cc (fault.0, is))

-- it is a cause of an answer of another type
not_read : {T U : Type 0} (e : Error) (a b : ℕ) → ((k : ℕ) × IsErrOf {T = T} (Err e) (Runtime (InvalidChecksum k))) ⊎ HasFailed {T = T} (Err e) a b → HasNotRead {T = U} (Err e) a b
not_read e a b (inl page) = inl (page.0, err_same page.1)
not_read e a b (inr (inl mem)) = inr (inr (inl (err_same mem)))
not_read e a b (inr (inr fault)) = inr (inr (inr (err_same fault.0, fault.1)))

module _ {V S D : Type 0} {gs : _} (seal : List ℕ → ℕ) (size : ℕ) (spelling : V → List ℕ) (allows : V → Unit {0} → Type 0) (refusal : List ℕ → Unit {0} → Option codec.Error)
    (dev : device.Ghosts D) (u : PageBlob S gs) where
  -- without memory no call is made
  pub reads_none : (d : D) (b : Blob) (p : ℕ) (r : Result V Error) → r ≡ Err Mem → ReadsItem seal size spelling allows refusal dev u d d b p r
  reads_none d b p r is = rw is record {
    item = λ t backed. tt;
    checked = λ t backed. tt;
    damaged = λ t backed k at. absurd (cc at);
    refused = λ t backed e at. absurd (cc at);
    sealed_first = λ t backed e at. absurd (cc at);
    accepted = tt;
    idle = λ held. refl;
    unchanged = λ t. unchanged_start (dev.time d);
    reads = no_reads _ _ _;
    faults = omega arith;
    cause = inr (inr (inl refl));
  }

  module _ (old new : D) (b : Blob) where
    pub reads_as : (p : ℕ) (r : Result V Error) (e : Error) → r ≡ Err e → ReadsItem seal size spelling allows refusal dev u old new b p (Err e) → ReadsItem seal size spelling allows refusal dev u old new b p r
    reads_as p r e is has = subst (ReadsItem seal size spelling allows refusal dev u old new b p) (sym is) has

    module _ (p : ℕ) (idle : is_item_held size u p ≡ true → new ≡ old) (unchanged : dev.Tells → Unchanged (dev.time old) (dev.time new))
        (reads : ReadsAtMost (size / u.page_size + 2) (key_of (shown u)) (dev.opened old) (dev.opened new)) (faults : dev.faults old ≤ dev.faults new) where
      -- the bytes could not be read
      pub reads_failed : (r : Result V Error) (e : Error) → r ≡ Err e
          → (dev.Tells → IsBacked seal (shown u) b.content → (k : ℕ) → IsErrOf {T = Bool} (Err e) (Runtime (InvalidChecksum k)) → IsDamaged size seal u b.content p k)
          → ((k : ℕ) × IsErrOf {T = Bool} (Err e) (Runtime (InvalidChecksum k))) ⊎ HasFailed {T = Bool} (Err e) (dev.faults old) (dev.faults new)
          → ReadsItem seal size spelling allows refusal dev u old new b p r
      reads_failed r e is damaged cause = rw is record {
        item = λ t backed. tt;
        checked = λ t backed. tt;
        damaged = λ t backed k at. damaged t backed k (err_same at);
        refused = λ t backed x at. absurd (uncoded e x _ _ cause (cc at));
        sealed_first = λ t backed x at. absurd (uncoded e x _ _ cause (cc at));
        accepted = tt;
        idle = idle;
        unchanged = unchanged;
        reads = reads;
        faults = faults;
        cause = not_read e _ _ cause;
      }

      module _ (bytes : List ℕ) (are : dev.Tells → IsBacked seal (shown u) b.content → bytes ≡ item_at size (bytes_of (shown u) b.content) p)
          (checked : dev.Tells → IsBacked seal (shown u) b.content → IsItemCovered size seal u b.content p) where
        -- they are no item
        pub reads_coded : (r : Result V Error) (e : codec.Error) → r ≡ Err (raised_codec e) → (e ≡ code.Mem) ⊎ (refusal bytes tt ≡ Some e) → ReadsItem seal size spelling allows refusal dev u old new b p r
        reads_coded r e is refused = rw is record {
          item = λ t backed. tt;
          checked = λ t backed. tt;
          damaged = λ t backed k at. elim (raised_is e) [ inl mem ↦ absurd (cc (mem, at)) | inr coded ↦ absurd (cc (coded, at)) ];
          refused = λ t backed x at. elim refused [
            | inl mem ↦ (let none : raised_codec e ≡ Mem = ap raised_codec mem in absurd (cc (none, at)))
            | inr same ↦ ap (λ (l : List ℕ). refusal l tt) (sym (are t backed)) ∙ same ∙ ap Some (codec_of e x (cc at))
          ];
          sealed_first = λ t backed x at. checked t backed;
          accepted = tt;
          idle = idle;
          unchanged = unchanged;
          reads = reads;
          faults = faults;
          cause = elim (raised_is e) [ inl mem ↦ inr (inr (inl (ap Err mem))) | inr coded ↦ inr (inl (e, ap Err coded)) ];
        }

        -- they are this one
        pub reads_got : (v : V) → spelling v ≡ bytes → allows v tt → ReadsItem seal size spelling allows refusal dev u old new b p (Ok v)
        reads_got v spelled allowed = record {
          item = λ t backed. record { spelled = spelled ∙ are t backed; allowed = allowed };
          checked = checked;
          damaged = λ t backed k at. absurd (cc at);
          refused = λ t backed x at. absurd (cc at);
          sealed_first = λ t backed x at. absurd (cc at);
          accepted = allowed;
          idle = idle;
          unchanged = unchanged;
          reads = reads;
          faults = faults;
          cause = tt;
        }

    -- a read of several that failed at one of them
    pub each_failed : (positions : List ℕ) (r : Result (List V × ℕ) Error) (e : Error) → r ≡ Err e → (dev.Tells → Unchanged (dev.time old) (dev.time new)) → (unheld size u positions ≡ 0 → new ≡ old)
        → ReadsAtMost (unheld size u positions * (size / u.page_size + 2)) (key_of (shown u)) (dev.opened old) (dev.opened new) → dev.faults old ≤ dev.faults new
        → (dev.Tells → IsBacked seal (shown u) b.content → (k : ℕ) → IsErrOf r (Runtime (InvalidChecksum k)) → (p : ℕ) × Contains positions p × IsDamaged size seal u b.content p k)
        → (dev.Tells → IsBacked seal (shown u) b.content → (x : codec.Error) → IsErrOf r (Codec x)
        → (p : ℕ) × Contains positions p × (refusal (item_at size (bytes_of (shown u) b.content) p) tt ≡ Some x) × IsItemCovered size seal u b.content p)
        → OnErr r (HasNotRead r (dev.faults old) (dev.faults new)) → ReadsEach seal size spelling allows refusal dev u old new b positions r
    each_failed positions (Ok v) e is unchanged idle reads faults damaged refused cause = absurd (cc is)
    each_failed positions (Err x) e is unchanged idle reads faults damaged refused cause = record {
      items = λ t backed. tt;
      accepted = tt;
      held = tt;
      checked = λ t backed. tt;
      damaged = damaged;
      refused = refused;
      unchanged = unchanged;
      idle = idle;
      reads = reads;
      faults = faults;
      cause = cause;
    }
