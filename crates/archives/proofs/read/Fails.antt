-- Why the value of a record cannot be read: the pair's refusals, handed on.
use Rattle.std.proofs.Common.{◌≡◌, ◌⊎◌, inl, inr, refl, sym, ◌∙◌, ap, subst, ℕ, ◌<◌, ◌≤◌, ◌↔◌, Result, Ok, Err, arith}
use Rattle.std.specs.Result.{IsErrOf}
use Rattle.blob_device.specs.declared.runtime.RError.TheVariants.{BlobInsufficientLength, Fault, InvalidChecksum, OffsetOverflow}
use Rattle.value_codec.specs.declared.codec.Error as codec
use Rattle.section_manager.specs.Refusing as segments
use Rattle.section_manager.specs.declared.journal.Error as journal
use Rattle.section_manager.specs.declared.journal.Error.TheVariants as section
use Rattle.segments.specs.FixedReading as fixed
use Rattle.segments.specs.FixedReading.{HasNotRead, IsPast}
use Rattle.meta_store.specs.declared.error.Error as meta
use Rattle.meta_store.specs.declared.error.Error.TheVariants as store
use Rattle.paired.specs.glob.Reading as frames
use Rattle.archives.specs.Gets.{IsRecordCause}
use Rattle.archives.specs.Raised.{raised, raised_metadata}
use Rattle.archives.specs.declared.error.Error.{Error}
use Rattle.archives.specs.declared.error.Error.TheVariants.{Journal, Mem}
use Rattle.archives.proofs.read.Causes.{HasFailed, HasReadingError}

-- ---- an error of the journal, and the archive's

not_metadata : (m : meta.Error) (j : journal.Error) → raised_metadata m ≡ Journal j → ⊥
not_metadata (store.Runtime x) j is = cc is
not_metadata (store.Corruption x) j is = cc is
not_metadata store.Full j is = cc is
not_metadata store.Mem j is = cc is

-- an error that is handed on whole is the journal's
lowered : (e j : journal.Error) → raised e ≡ Journal j → e ≡ j
lowered (section.Runtime x) j is = cc is
lowered (section.Metadata m) j is = absurd (not_metadata m j is)
lowered (section.Codec x) j is = cc is
lowered (section.InvalidBlobName x) j is = cc is
lowered (section.ItemOutOfRange x) j is = cc is
lowered (section.SectionOutOfRange x) j is = cc is
lowered (section.AlreadyPrunedToSection x) j is = cc is
lowered (section.ChecksumMismatch x y) j is = cc is
lowered section.ValueTooLarge j is = cc is
lowered section.OffsetOverflow j is = cc is
lowered (section.Corruption x) j is = cc is
lowered section.ReplayFailed j is = cc is
lowered section.Full j is = absurd (cc is)
lowered section.Mem j is = absurd (cc is)

-- the error of a result
the_error : {U : Type 0} (e x : journal.Error) → IsErrOf {T = U} (Err e) x → e ≡ x
the_error e x is = cc is

-- a result that is none was not given
pub not_given : {U : Type 0} (e : journal.Error) (v : U) (a b : ℕ) → ◌≡◌ {A = Result U journal.Error} (Err e) (Ok v) ⊎ segments.HasFailed {T = U} (Err e) a b → segments.HasFailed {T = U} (Err e) a b
not_given e v a b (inl same) = absurd (cc same)
not_given e v a b (inr why) = why

-- ---- why the pair does not read a value

abbrev pub Why : Type 0 → journal.Error → ℕ → ℕ → ℕ → ℕ → Type 0
Why U e floor s a b = segments.IsPruned {T = U} (Err e) floor ⊎ (frames.IsAbsent {T = U} (Err e) s ⊎ (frames.IsOverflow {T = U} (Err e) ⊎ (frames.IsShort {T = U} (Err e)
    ⊎ (frames.IsMismatch {T = U} (Err e) ⊎ (frames.IsRefused {T = U} (Err e) ⊎ segments.HasFailed {T = U} (Err e) a b)))))

-- what holds of each error that is named so holds of the error
pub of_why : (P : journal.Error → Type 0) (U : Type 0) (e : journal.Error) (floor s a b : ℕ) → P (section.AlreadyPrunedToSection floor) → P (section.SectionOutOfRange s) → P (section.Runtime OffsetOverflow)
    → P (section.Runtime BlobInsufficientLength) → ((x y : ℕ) → P (section.ChecksumMismatch x y)) → ((x : codec.Error) → P (section.Codec x)) → P section.Mem → P (section.Runtime Fault) → Why U e floor s a b → P e
of_why P U e floor s a b p1 p2 p3 p4 p5 p6 p7 p8 (inl has) = subst P (sym (the_error {U = U} e (section.AlreadyPrunedToSection floor) has)) p1
of_why P U e floor s a b p1 p2 p3 p4 p5 p6 p7 p8 (inr (inl has)) = subst P (sym (the_error {U = U} e (section.SectionOutOfRange s) has)) p2
of_why P U e floor s a b p1 p2 p3 p4 p5 p6 p7 p8 (inr (inr (inl has))) = subst P (sym (the_error {U = U} e (section.Runtime OffsetOverflow) has)) p3
of_why P U e floor s a b p1 p2 p3 p4 p5 p6 p7 p8 (inr (inr (inr (inl has)))) = subst P (sym (the_error {U = U} e (section.Runtime BlobInsufficientLength) has)) p4
of_why P U e floor s a b p1 p2 p3 p4 p5 p6 p7 p8 (inr (inr (inr (inr (inl (x, y, has)))))) = subst P (sym (the_error {U = U} e (section.ChecksumMismatch x y) has)) (p5 x y)
of_why P U e floor s a b p1 p2 p3 p4 p5 p6 p7 p8 (inr (inr (inr (inr (inr (inl (x, has))))))) = subst P (sym (the_error {U = U} e (section.Codec x) has)) (p6 x)
of_why P U e floor s a b p1 p2 p3 p4 p5 p6 p7 p8 (inr (inr (inr (inr (inr (inr (inl has))))))) = subst P (sym (the_error {U = U} e section.Mem has)) p7
of_why P U e floor s a b p1 p2 p3 p4 p5 p6 p7 p8 (inr (inr (inr (inr (inr (inr (inr has))))))) = subst P (sym (the_error {U = U} e (section.Runtime Fault) has.0)) p8

-- ---- a record without its value

-- memory or the device failed, so it is no other error
no_other : {U : Type 0} (x : journal.Error) (a b : ℕ) → (x ≡ section.Mem → ⊥) → (x ≡ section.Runtime Fault → ⊥) → segments.HasFailed {T = U} (Err x) a b → ⊥
no_other {U} x a b one two (inl memory) = one (the_error {U = U} x section.Mem memory)
no_other {U} x a b one two (inr fault) = two (the_error {U = U} x (section.Runtime Fault) fault.0)

-- The pair does not read it. On a device that tells its disk memory or the device failed.
module _ (U : Type 0) (told : Type 0) (e : journal.Error) (a b : ℕ) (failed : told → segments.HasFailed {T = U} (Err e) a b) where
  -- what holds of an error that is named so holds of the error
  as_named : (x : journal.Error) → IsErrOf {T = U} (Err e) x → ((told → segments.HasFailed {T = U} (Err x) a b) → IsRecordCause told a b (raised x)) → IsRecordCause told a b (raised e)
  as_named x is made = subst (λ (y : journal.Error). (told → segments.HasFailed {T = U} (Err y) a b) → IsRecordCause told a b (raised y)) (sym (the_error {U = U} e x is)) made failed

  pub record_cause : (floor s p : ℕ) → floor ≤ s → (segments.IsPruned {T = U} (Err e) floor ↔ (s < floor))
      → segments.IsPruned {T = U} (Err e) floor ⊎ (fixed.IsAbsent {T = U} (Err e) s ⊎ (IsPast {T = U} (Err e) p ⊎ HasNotRead {T = U} (Err e) a b)) → IsRecordCause told a b (raised e)
  record_cause floor s p low guard (inl pruned) = absurd (omega (arith, guard.0 pruned, low))
  record_cause floor s p low guard (inr (inl absent)) = as_named (section.SectionOutOfRange s) absent (λ f t. no_other {U = U} (section.SectionOutOfRange s) a b (λ no. cc no) (λ no. cc no) (f t))
  record_cause floor s p low guard (inr (inr (inl past))) = as_named (section.ItemOutOfRange p) past (λ f t. no_other {U = U} (section.ItemOutOfRange p) a b (λ no. cc no) (λ no. cc no) (f t))
  record_cause floor s p low guard (inr (inr (inr (inl (k, damaged))))) = as_named (section.Runtime (InvalidChecksum k)) damaged (λ f t. no_other {U = U} (section.Runtime (InvalidChecksum k)) a b (λ no. cc no) (λ no. cc no) (f t))
  record_cause floor s p low guard (inr (inr (inr (inr (inl (x, refused)))))) = as_named (section.Codec x) refused (λ f t. no_other {U = U} (section.Codec x) a b (λ no. cc no) (λ no. cc no) (f t))
  record_cause floor s p low guard (inr (inr (inr (inr (inr (inl memory)))))) = as_named section.Mem memory (λ f. tt)
  record_cause floor s p low guard (inr (inr (inr (inr (inr (inr fault)))))) = as_named (section.Runtime Fault) fault.0 (λ f. fault.1)

-- ---- an error that is handed on as it is

module _ {T : Type 0} (U : Type 0) (r : Result T Error) (e : Error) (is : r ≡ Err e) where
  there : (x : Error) → IsErrOf r x → IsErrOf {T = U} (Err e) x
  there x has = let f : Error → Result U Error = λ y. Err y in let same : e ≡ x = cc (is, has) in ap f same

  here : (x : Error) → IsErrOf {T = U} (Err e) x → IsErrOf r x
  here x has = let f : Error → Result T Error = λ y. Err y in let same : e ≡ x = cc has in is ∙ ap f same

  pub same_error : (a b : ℕ) → HasReadingError {T = U} (Err e) ⊎ HasFailed {T = U} (Err e) a b → HasReadingError r ⊎ HasFailed r a b
  same_error a b (inl (inl (n, has))) = inl (inl (n, here (Journal (section.SectionOutOfRange n)) has))
  same_error a b (inl (inr (inl (n, has)))) = inl (inr (inl (n, here (Journal (section.ItemOutOfRange n)) has)))
  same_error a b (inl (inr (inr (inl (k, has))))) = inl (inr (inr (inl (k, here (Journal (section.Runtime (InvalidChecksum k))) has))))
  same_error a b (inl (inr (inr (inr (inl has))))) = inl (inr (inr (inr (inl (here (Journal (section.Runtime BlobInsufficientLength)) has)))))
  same_error a b (inl (inr (inr (inr (inr (inl has)))))) = inl (inr (inr (inr (inr (inl (here (Journal (section.Runtime OffsetOverflow)) has))))))
  same_error a b (inl (inr (inr (inr (inr (inr (inl (x, y, has)))))))) = inl (inr (inr (inr (inr (inr (inl (x, y, here (Journal (section.ChecksumMismatch x y)) has)))))))
  same_error a b (inl (inr (inr (inr (inr (inr (inr (x, has)))))))) = inl (inr (inr (inr (inr (inr (inr (x, here (Journal (section.Codec x)) has)))))))
  same_error a b (inr (inl memory)) = inr (inl (here Mem memory))
  same_error a b (inr (inr fault)) = inr (inr (here (Journal (section.Runtime Fault)) fault.0, fault.1))

-- The archive answers what the journal refused with.
module _ {T : Type 0} (U : Type 0) (r : Result T Error) (e : journal.Error) (is : r ≡ Err (raised e)) where
  abbrev below : Result U journal.Error
  below = Err e

  pub lower : (j : journal.Error) → IsErrOf r (Journal j) → e ≡ j
  lower j has = lowered e j (cc (is, has))

  pub under : (j : journal.Error) → IsErrOf r (Journal j) → IsErrOf below j
  under j has = let f : journal.Error → Result U journal.Error = λ x. Err x in ap f (lower j has)

  pub raise : (x : journal.Error) (y : Error) → raised x ≡ y → IsErrOf below x → IsErrOf r y
  raise x y up has =
      let f : Error → Result T Error = λ z. Err z in
      is ∙ ap f (ap raised (the_error {U = U} e x has) ∙ up)

  pub failed : (a b : ℕ) → segments.HasFailed below a b → HasFailed r a b
  failed a b (inl memory) = inl (raise section.Mem Mem refl memory)
  failed a b (inr fault) = inr (raise (section.Runtime Fault) (Journal (section.Runtime Fault)) refl fault.0, fault.1)

  -- ---- the value

  pub value_error : (floor s a b : ℕ) → floor ≤ s → (segments.IsPruned below floor ↔ (s < floor)) → Why U e floor s a b → HasReadingError r ⊎ HasFailed r a b
  value_error floor s a b none guard (inl pruned) = absurd (omega (arith, guard.0 pruned, none))
  value_error floor s a b none guard (inr (inl absent)) = inl (inl (s, raise (section.SectionOutOfRange s) (Journal (section.SectionOutOfRange s)) refl absent))
  value_error floor s a b none guard (inr (inr (inl over))) = inl (inr (inr (inr (inr (inl (raise (section.Runtime OffsetOverflow) (Journal (section.Runtime OffsetOverflow)) refl over))))))
  value_error floor s a b none guard (inr (inr (inr (inl short)))) = inl (inr (inr (inr (inl (raise (section.Runtime BlobInsufficientLength) (Journal (section.Runtime BlobInsufficientLength)) refl short)))))
  value_error floor s a b none guard (inr (inr (inr (inr (inl (x, y, broken)))))) = inl (inr (inr (inr (inr (inr (inl (x, y, raise (section.ChecksumMismatch x y) (Journal (section.ChecksumMismatch x y)) refl broken)))))))
  value_error floor s a b none guard (inr (inr (inr (inr (inr (inl (x, refused))))))) = inl (inr (inr (inr (inr (inr (inr (x, raise (section.Codec x) (Journal (section.Codec x)) refl refused)))))))
  value_error floor s a b none guard (inr (inr (inr (inr (inr (inr why)))))) = inr (failed a b why)
