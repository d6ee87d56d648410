-- How an opening of a fixed journal up to a byte of a section ends that goes over all that is left.
use Rattle.std.proofs.Common.{◌≡◌, ◌≢◌, ◌⊎◌, true, refl, inl, inr, ℕ, ◌^◌, ◌<◌, ◌≤◌, List, IsSomeAnd, Option, Result, Ok, Err, OnErr, IfOk, sym, ◌∙◌, ap, subst, arith}
use Rattle.std.specs.Result.{IsErrOf}
use Rattle.blob_device.specs.Disk.{Key}
use Rattle.blob_device.specs.Timeline.{disk, Always, Each}
use Rattle.blob_device.specs.declared.device.Device as device
use Rattle.blob_device.specs.lemmas.Moments.{always_now, always_then, always_weaker}
use Rattle.sealed_pages.specs.declared.page_blob.PageBlob.{PageBlob}
use Rattle.sealed_pages.specs.declared.pages.Pages.{Pages}
use Rattle.value_codec.specs.declared.codec.Error as codec
use Rattle.section_manager.specs.Refusing.{HasFailed, IsForeign}
use Rattle.section_manager.specs.Sections.{section_key}
use Rattle.section_manager.specs.Setting.{Setting}
use Rattle.section_manager.specs.declared.buffer.SectionBuffer as buffer
use Rattle.section_manager.specs.declared.journal.Error.{Error}
use Rattle.section_manager.specs.declared.journal.Error.TheVariants.{Codec, InvalidBlobName, ItemOutOfRange, ReplayFailed}
use Rattle.section_manager.specs.declared.sealed.AppendFactory.{AppendFactory}
use Rattle.segments.specs.FixedBounds.{Bounding, IsOpenedCut, IsOpenedAtMost, Bounds, IsBoundCause, IsDrainCause, IsRefusedItem}
use Rattle.segments.specs.FixedDraining.{Drains}
use Rattle.segments.specs.FixedLists.{Lists}
use Rattle.segments.specs.FixedReading.{HasNotRead, IsBelowFloor}
use Rattle.segments.specs.FixedReplay.{Walk, Begins, Replaying}
use Rattle.segments.proofs.opened.BoundsEnds.{if_ok_on, opened_bounds}
use Rattle.segments.proofs.opened.Drained.{begun, drained_bounding, refused_kept, opened_at_most}
use Rattle.segments.specs.lemmas.adding.Write.{ArePages}
use Rattle.segments.specs.lemmas.replay.Reading.{failed_since}
use Rattle.blob_device.proofs.general.Options.{value_of}
use Rattle.blob_device.proofs.general.Results.{on_err}

-- no count is below none
pub none_past : {T : Type 0} (o : Option T) (f : T → ℕ) → IsSomeAnd o (λ u. f u < 0) → ⊥
none_past {T = T} o f has = (let u = value_of o (λ (x : T). f x < 0) has in omega (arith, u.has))

module _ {T : Type 0} (e : Error) (start n m : ℕ) (Bad : Type 0) (cause : (IsErrOf {T = T} (Err e) ReplayFailed × Bad) ⊎ (IsErrOf {T = T} (Err e) (ItemOutOfRange start) ⊎ (IsBelowFloor {T = T} (Err e) ⊎ HasNotRead {T = T} (Err e) n m))) where
  -- a replay that is drained names no blob
  drain_unnamed : (x : List ℕ) → IsErrOf {T = T} (Err e) (InvalidBlobName x) → ⊥
  drain_unnamed x is = elim cause [
    | inl failed ↦ (let h = failed.0 in cc (h, is))
    | inr (inl past) ↦ cc (past, is)
    | inr (inr (inl below)) ↦ (let h = below.1 in cc (h, is))
    | inr (inr (inr (inl page))) ↦ (let h = page.1 in cc (h, is))
    | inr (inr (inr (inr (inl code)))) ↦ (let h = code.1 in cc (h, is))
    | inr (inr (inr (inr (inr (inl none))))) ↦ cc (none, is)
    | inr (inr (inr (inr (inr (inr fault))))) ↦ (let h = fault.0 in cc (h, is))
  ]

module _ {T D : Type 0} (dev : device.Ghosts D) (seal : List ℕ → ℕ) (P size : ℕ) (p : List ℕ) (last end : ℕ) (old new : D) where
  -- the opening failed
  pub failed_bounds : (r : Result T Error) (e : Error) (First : T → Type 0) (Ends : T → Type 0) → r ≡ Err e → Bounds seal P size p last end dev (Err e) old new First → Bounds seal P size p last end dev r old new Ends
  failed_bounds r e First Ends is has = subst (λ (x : Result T Error). Bounds seal P size p last end dev x old new Ends) (sym is) (record {
    moments = has.moments;
    ends = tt;
    names = has.names;
    entries = has.entries;
    faults = has.faults;
  })

  -- for a cause that it has
  pub failed_cause : {V : Type 0} (spelling : V → List ℕ) (accepted : V → Unit {0} → Type 0) (refusal : List ℕ → Unit {0} → Option codec.Error) (r : Result T Error) (e : Error) → r ≡ Err e
      → IsBoundCause seal P size p last end {T = T} dev (Err e) old new → IsDrainCause seal P size p last end dev r old new spelling accepted refusal
  failed_cause spelling accepted refusal r e is cause = subst (λ (x : Result T Error). IsDrainCause seal P size p last end dev x old new spelling accepted refusal) (sym is) (record { refused = λ t x at. absurd (uncoded x at); cause = inl cause })
    where
      uncoded : (x : codec.Error) → IsErrOf {T = T} (Err e) (Codec x) → ⊥
      uncoded x at = elim cause [
        | inl called ↦ (let h = called.1 in cc (h, at))
        | inr (inl (inl none)) ↦ cc (none, at)
        | inr (inl (inr fault)) ↦ (let h = fault.0 in cc (h, at))
        | inr (inr damage) ↦ (let h = damage.0.1 in cc (h, at))
      ]

-- one that ended well has not failed
pub ok_unfailed : {T : Type 0} (v : T) (n m : ℕ) → ((x : List ℕ) × IsErrOf (Ok v) (InvalidBlobName x)) ⊎ HasFailed (Ok v) n m → ⊥
ok_unfailed v n m (inl called) = (let h = called.1 in cc h)
ok_unfailed v n m (inr (inl none)) = cc none
ok_unfailed v n m (inr (inr fault)) = (let h = fault.0 in cc h)

-- The journal j was opened and cut, and all of it is gone over.
module _ {S V D : Type 0} {gs : _} (seal : List ℕ → ℕ) (P size : ℕ) (pos : 1 ≤ size) (g : buffer.Ghosts (PageBlob S gs)) (laws : ArePages g seal) (gives : AppendFactory S → Setting)
    (spelling : V → List ℕ) (accepted : V → Unit {0} → Type 0) (refusal : List ℕ → Unit {0} → Option codec.Error) (dev : device.Ghosts D) (last end : ℕ) (small : last < 2 ^ 64) (pages : Pages) (write_buffer : ℕ)
    (j : Lists (AppendFactory S) (PageBlob S gs)) (w : Walk (AppendFactory S) (PageBlob S gs)) (begins : Begins j 0 0 w) (p : List ℕ) (same : j.sections.partition ≡ p) (old mid new : D)
    (cut : IsOpenedCut seal P size p last end g gives dev.Tells pages write_buffer j (dev.opened mid) (disk (dev.time old)) (disk (dev.time mid)))
    (before : dev.Tells → Always (dev.time old) (dev.time mid) (Bounding seal P size p last end (disk (dev.time old)))) (paged : (gives j.sections.factory).page_size ≡ P)
    (r : Result (Lists (AppendFactory S) (PageBlob S gs)) Error) (drains : Drains g gives seal size spelling accepted refusal w dev r mid new) where
  walk_is : w ≡ begun j
  walk_is = λ i. record {
    journal = begins.journal i;
    start_section = begins.section i;
    start_position = begins.position i;
    next_section = begins.first i;
    place = begins.between i;
    failed = begins.whole i;
    ended = begins.going i;
  }

  own_drains : Drains g gives seal size spelling accepted refusal (begun j) dev r mid new
  own_drains = subst (λ (x : Walk (AppendFactory S) (PageBlob S gs)). Drains g gives seal size spelling accepted refusal x dev r mid new) walk_is drains

  own_cut : IsOpenedCut seal P size j.sections.partition last end g gives dev.Tells pages write_buffer j (dev.opened mid) (disk (dev.time old)) (disk (dev.time mid))
  own_cut = subst (λ (x : List ℕ). IsOpenedCut seal P size x last end g gives dev.Tells pages write_buffer j (dev.opened mid) (disk (dev.time old)) (disk (dev.time mid))) (sym same) cut

  drained_moments : dev.Tells → Always (dev.time old) (dev.time new) (Bounding seal P size p last end (disk (dev.time old)))
  drained_moments t = always_then (dev.time old) (dev.time mid) (dev.time new) (Bounding seal P size p last end (disk (dev.time old))) (before t)
      (subst (λ (x : List ℕ). Always (dev.time mid) (dev.time new) (Bounding seal P size x last end (disk (dev.time old)))) same
      (always_weaker (dev.time mid) (dev.time new) (Each (Replaying seal size (begun j) (disk (dev.time mid)))) (Bounding seal P size j.sections.partition last end (disk (dev.time old)))
      (λ d each. drained_bounding seal P size pos g laws gives dev.Tells last end small pages write_buffer j (dev.opened mid) (disk (dev.time old)) (disk (dev.time mid)) own_cut paged t d each
      (subst (λ (x : List ℕ). Bounding seal P size x last end (disk (dev.time old)) (disk (dev.time mid))) (sym same) (always_now (dev.time old) (dev.time mid) (Bounding seal P size p last end (disk (dev.time old))) (before t))))
      (own_drains.moments t)))

  drained_ends : IfOk r (λ k. IsOpenedAtMost seal P size p last end g gives dev.Tells pages write_buffer spelling accepted k (dev.opened new) (disk (dev.time old)) (disk (dev.time new)))
  drained_ends = if_ok_on r (λ k gone. subst (λ (x : List ℕ). IsOpenedAtMost seal P size x last end g gives dev.Tells pages write_buffer spelling accepted k (dev.opened new) (disk (dev.time old)) (disk (dev.time new))) same
      (opened_at_most seal P size pos g laws gives dev.Tells last end small pages write_buffer j (dev.opened mid) (disk (dev.time old)) (disk (dev.time mid)) own_cut paged spelling accepted refusal k (dev.opened new) (disk (dev.time new)) gone
      (λ t. always_now (dev.time mid) (dev.time new) (Each (Replaying seal size (begun j) (disk (dev.time mid)))) (own_drains.moments t))))
      own_drains.ends

  unnamed : (q : Result (Lists (AppendFactory S) (PageBlob S gs)) Error) → r ≡ q → (n : List ℕ) → IsErrOf r (InvalidBlobName n) → ⊥
  unnamed (Ok k) is n at = cc (is, at)
  unnamed (Err e) is n at = drain_unnamed e 0 (dev.faults mid) (dev.faults new) ((begun j).failed ≡ true)
      (subst (λ (x : Result (Lists (AppendFactory S) (PageBlob S gs)) Error). OnErr x ((IsErrOf x ReplayFailed × ((begun j).failed ≡ true)) ⊎ (IsErrOf x (ItemOutOfRange 0) ⊎ (IsBelowFloor x ⊎ HasNotRead x (dev.faults mid) (dev.faults new))))) is own_drains.cause)
      n (sym is ∙ at)

  pub drained_bounds : (dev.Tells → (name : List ℕ) → IsForeign (disk (dev.time old)) p name → ⊥)
      → ((q : Key) → ((s : ℕ) → q ≢ section_key p s) → dev.opened mid q ≡ dev.opened old q) → dev.faults old ≤ dev.faults mid
      → Bounds seal P size p last end dev r old new (λ k. IsOpenedAtMost seal P size p last end g gives dev.Tells pages write_buffer spelling accepted k (dev.opened new) (disk (dev.time old)) (disk (dev.time new)))
  drained_bounds never entries faults = opened_bounds dev seal P size p last end r old new
      (λ k. IsOpenedAtMost seal P size p last end g gives dev.Tells pages write_buffer spelling accepted k (dev.opened new) (disk (dev.time old)) (disk (dev.time new)))
      drained_moments drained_ends never (unnamed r refl)
      (λ q none. own_drains.entries q (λ k. none k.0 (k.2 ∙ ap (λ (x : List ℕ). section_key x k.0) same)) ∙ entries q none) (omega (arith, faults, own_drains.faults))

  pub drained_cause : dev.faults old ≤ dev.faults mid → IsDrainCause seal P size p last end dev r old new spelling accepted refusal
  drained_cause faults = record {
    refused = λ t e is. (let has = own_drains.refused t e is in (
      has.0,
      has.1,
      subst (λ (x : List ℕ). IsRefusedItem seal P size x last end spelling accepted refusal (disk (dev.time old)) e has.0 has.1) same
          (refused_kept seal P size pos g laws gives dev.Tells last end small pages write_buffer j (dev.opened mid) (disk (dev.time old)) (disk (dev.time mid)) own_cut paged spelling accepted refusal t e has.0 has.1 has.2),
    ));
    cause = on_err r (λ is. elim is [
      | inl failed ↦ (let bad = failed.1 in absurd (cc bad))
      | inr (inl past) ↦ inr (inr (inl past, λ t. (let has = (own_drains.start t 0 past).1 in omega (arith, has))))
      | inr (inr (inl below)) ↦ inr (inr (inr below, λ t. (let has = (own_drains.damage t below.0 below.1).0 in omega (arith, has.less, has.wanted, cut.whole.floors below.0.section))))
      | inr (inr (inr (inl page))) ↦ inl (inr (inr (page, λ t. (let has = own_drains.damaged t page.0 page.1 in omega (arith, has.2.floor, cut.whole.floors has.0)))))
      | inr (inr (inr (inr (inl code)))) ↦ inr (inl code)
      | inr (inr (inr (inr (inr failed)))) ↦ inl (inr (inl (failed_since r (dev.faults old) (dev.faults mid) (dev.faults new) faults failed)))
    ]) own_drains.cause;
  }
