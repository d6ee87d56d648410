-- How the check of one section of an opened fixed journal ends.
use Rattle.std.specs.Prelude.{◌≡◌, ◌⊎◌, ℕ, ◌-◌, ◌*◌, ◌/◌, ◌^◌, ◌<◌, ◌≤◌, Bool, true, false, List, Option, None, Some, Result, Ok, Err, IfOk, OnErr, IsTrue, IsSomeAnd}
use Rattle.std.specs.Result.{IsErrOf}
use Rattle.std.proofs.Common.{inl, inr, refl, sym, ◌∙◌, ap, subst, arith}
use Rattle.blob_device.specs.Disk.{Key, Disk}
use Rattle.blob_device.specs.Timeline.{disk}
use Rattle.blob_device.specs.Counts.{Rose}
use Rattle.blob_device.specs.declared.device.Device as device
use Rattle.blob_device.specs.declared.runtime.RError.{RError}
use Rattle.blob_device.specs.declared.runtime.RError.TheVariants as runtime
use Rattle.value_codec.specs.declared.codec.Error as codec
use Rattle.value_codec.specs.declared.codec.Error.TheVariants as code
use Rattle.sealed_pages.specs.declared.page_blob.PageBlob.{PageBlob}
use Rattle.sealed_pages.specs.Buffer as pages
use Rattle.sealed_pages.specs.Entries.{IsOpenAt}
use Rattle.sealed_pages.specs.Reading.{Unchanged}
use Rattle.sealed_pages.specs.Reads.{IsCovered}
use Rattle.sealed_pages.specs.SealedPrefix.{data_from}
use Rattle.sealed_pages.specs.Shown.{shown}
use Rattle.sealed_pages.specs.View.{view}
use Rattle.sealed_pages.specs.lemmas.looking.Looking.{unchanged_now, unchanged_start, unchanged_then}
use Rattle.segments.specs.lemmas.adding.Write.{ArePages}
use Rattle.segments.specs.lemmas.replay.Reading.{failed_since}
use Rattle.section_manager.specs.Entries.{OnlyOwnEntry}
use Rattle.section_manager.specs.Raised.{raised, raised_codec}
use Rattle.section_manager.specs.Refusing.{HasFailed}
use Rattle.section_manager.specs.Sections.{Sections, section_key, IsHeld, IsOver}
use Rattle.section_manager.specs.Setting.{Setting}
use Rattle.section_manager.specs.declared.buffer.SectionBuffer as buffer
use Rattle.section_manager.specs.declared.journal.Damage.{Damage}
use Rattle.section_manager.specs.declared.journal.Error.{Error}
use Rattle.section_manager.specs.declared.journal.Error.TheVariants.{Codec, Corruption, Mem}
use Rattle.section_manager.specs.declared.sealed.AppendFactory.{AppendFactory}
use Rattle.section_manager.specs.lemmas.Seen.{failed_again}
use Rattle.segments.specs.declared.fixed.preflighting.Target.{Target}
use Rattle.segments.specs.FixedChecks.{AreCheckable, ChecksMarker, LooksBelow, TakesFloor}
use Rattle.segments.specs.FixedFloors.{Floors, IsBoundary, IsRefused, IsUnsealed}
use Rattle.segments.specs.lemmas.FixedErrors.{codec_of}
use Rattle.segments.proofs.opened.FloorLemmas.{over_read}

-- an error of a read that is neither short nor of a page
pub read_failed_last : {T U : Type 0} (raw : RError) (x : Error) (before now : ℕ) → x ≡ raised raw → (raw ≡ runtime.BlobInsufficientLength → ⊥) → ((k : ℕ) → raw ≡ runtime.InvalidChecksum k → ⊥)
    → (IsErrOf {T = U} (Err raw) runtime.BlobInsufficientLength) ⊎ (((k : ℕ) × IsErrOf {T = U} (Err raw) (runtime.InvalidChecksum k)) ⊎ (IsErrOf {T = U} (Err raw) runtime.Mem ⊎ (IsErrOf {T = U} (Err raw) runtime.Fault × Rose before now)))
    → HasFailed {T = T} (Err x) before now
read_failed_last raw x before now is long sound (inl short) = absurd (long (cc short))
read_failed_last raw x before now is long sound (inr (inl page)) = (let at = page.1 in absurd (sound page.0 (cc at)))
read_failed_last raw x before now is long sound (inr (inr (inl mem))) = (let same : raw ≡ runtime.Mem = cc mem in inl (ap Err (is ∙ ap raised same)))
read_failed_last raw x before now is long sound (inr (inr (inr fault))) = (let at = fault.0 in let same : raw ≡ runtime.Fault = cc at in inr (ap Err (is ∙ ap raised same), fault.1))

-- ---- the last item below a marker
module _ {A D : Type 0} (seal : List ℕ → ℕ) (P size : ℕ) (dev : device.Ghosts D) (k : Key) (end : ℕ) (items : ℕ) (spelling : A → List ℕ) (accepted : A → Unit {0} → Type 0)
    (refusal : List ℕ → Unit {0} → Option codec.Error) (s : ℕ) where
  module _ (old new : D) (unchanged : dev.Tells → Unchanged (dev.time old) (dev.time new)) (entries : OnlyOwnEntry k (dev.opened old) (dev.opened new)) (is_open : IsOpenAt (dev.opened new) k end)
      (faults : dev.faults old ≤ dev.faults new) where
    -- the device failed, or there was no memory
    pub looks_failed : (r : Result A Error) (e : Error) → r ≡ Err e → HasFailed {T = A} (Err e) (dev.faults old) (dev.faults new) → LooksBelow seal P size dev k end old new items spelling accepted refusal s r
    looks_failed r e is failed = rw is record {
      item = λ t. tt;
      damage = λ t x bad. absurd (elim failed [ inl mem ↦ cc (mem, bad) | inr fault ↦ (let h = fault.0 in cc (h, bad)) ]);
      refused = λ t x bad. absurd (elim failed [ inl mem ↦ cc (mem, bad) | inr fault ↦ (let h = fault.0 in cc (h, bad)) ]);
      unchanged = unchanged;
      entries = entries;
      «open» = is_open;
      faults = faults;
      cause = inr (inr failed);
    }

    -- it is this one
    pub looks_got : (v : A) → (dev.Tells → IsBoundary seal P size spelling accepted (disk (dev.time old) k).content items v) → LooksBelow seal P size dev k end old new items spelling accepted refusal s (Ok v)
    looks_got v is = record {
      item = is;
      damage = λ t x bad. absurd (cc bad);
      refused = λ t x bad. absurd (cc bad);
      unchanged = unchanged;
      entries = entries;
      «open» = is_open;
      faults = faults;
      cause = tt;
    }

    -- its bytes are no item
    pub looks_coded : (bytes : List ℕ) → 0 < items → (dev.Tells → bytes ≡ data_from P (view (disk (dev.time old) k).content) ((items - 1) * size) size)
        → (dev.Tells → IsCovered seal P (disk (dev.time old) k).content ((items - 1) * size) size) → (r : Result A Error) (e : codec.Error) → r ≡ Err (raised_codec e) → (e ≡ code.Mem) ⊎ (refusal bytes tt ≡ Some e)
        → LooksBelow seal P size dev k end old new items spelling accepted refusal s r
    looks_coded bytes some are covered r e is refused = rw is record {
      item = λ t. tt;
      damage = λ t x bad. absurd (elim (kind e) [ inl mem ↦ cc (mem, bad) | inr coded ↦ cc (coded, bad) ]);
      refused = λ t x bad. (
        some,
        elim refused [
          | inl mem ↦ (let none : raised_codec e ≡ Mem = ap raised_codec mem in absurd (cc (none, bad)))
          | inr same ↦ ap (λ (l : List ℕ). refusal l tt) (sym (are t)) ∙ same ∙ ap Some (codec_of e x (cc bad))
        ],
        covered t,
      );
      unchanged = unchanged;
      entries = entries;
      «open» = is_open;
      faults = faults;
      cause = elim (kind e) [ inl mem ↦ inr (inr (inl (ap Err mem))) | inr coded ↦ inr (inl (e, ap Err coded)) ];
    }
      where
        kind : (x : codec.Error) → (raised_codec x ≡ Mem) ⊎ (raised_codec x ≡ Codec x)
        kind code.Mem = inl refl
        kind x = inr refl

  -- after a call that changed no blob
  pub looks_since : (old mid new : D) → (dev.Tells → Unchanged (dev.time old) (dev.time mid)) → OnlyOwnEntry k (dev.opened old) (dev.opened mid) → dev.faults old ≤ dev.faults mid
      → (r : Result A Error) → LooksBelow seal P size dev k end mid new items spelling accepted refusal s r → LooksBelow seal P size dev k end old new items spelling accepted refusal s r
  looks_since old mid new same entries faults r has = record {
    item = λ t. subst (λ (d : Disk). IfOk r (IsBoundary seal P size spelling accepted (d k).content items)) (now t) (has.item t);
    damage = λ t x bad. (let h = has.damage t x bad in (h.0, subst (λ (d : Disk). IsUnsealed seal P size (d k) items x) (now t) h.1));
    refused = λ t x bad. (let h = has.refused t x bad in (
      h.0,
      ap (λ (d : Disk). refusal (data_from P (view (d k).content) ((items - 1) * size) size) tt) (sym (now t)) ∙ h.1,
      subst (λ (d : Disk). IsCovered seal P (d k).content ((items - 1) * size) size) (now t) h.2,
    ));
    unchanged = λ t. unchanged_then (dev.time old) (dev.time mid) (dev.time new) (same t) (has.unchanged t);
    entries = λ q other. has.entries q other ∙ entries q other;
    «open» = has.«open»;
    faults = omega (arith, faults, has.faults);
    cause = since r has.cause;
  }
    where
      now : dev.Tells → disk (dev.time mid) ≡ disk (dev.time old)
      now t = unchanged_now (dev.time old) (dev.time mid) (same t)

      since : (x : Result A Error) → OnErr x (((y : Damage) × IsErrOf x (Corruption y)) ⊎ (((y : codec.Error) × IsErrOf x (Codec y)) ⊎ HasFailed x (dev.faults mid) (dev.faults new)))
          → OnErr x (((y : Damage) × IsErrOf x (Corruption y)) ⊎ (((y : codec.Error) × IsErrOf x (Codec y)) ⊎ HasFailed x (dev.faults old) (dev.faults new)))
      since (Ok v) cause = tt
      since (Err e) (inl damage) = inl damage
      since (Err e) (inr (inl coded)) = inr (inl coded)
      since (Err e) (inr (inr failed)) = inr (inr (failed_since (Err e) (dev.faults old) (dev.faults mid) (dev.faults new) faults failed))

-- ---- a marker
module _ {A S T D : Type 0} {gs : _} (see : T → Floors A) (sections_of : T → Sections (AppendFactory S) (PageBlob S gs)) (floor_of : ℕ → ℕ) (boundary_of : ℕ → Option (Option A)) (aim : Option Target)
    (m : Sections (AppendFactory S) (PageBlob S gs)) (s : ℕ) (seal : List ℕ → ℕ) (size : ℕ) (spelling : A → List ℕ) (accepted : A → Unit {0} → Type 0) (refusal : List ℕ → Unit {0} → Option codec.Error)
    (dev : device.Ghosts D) (g : buffer.Ghosts (PageBlob S gs)) (gives : AppendFactory S → Setting) (items : ℕ) (old : D) (ready : AreCheckable g gives seal dev.Tells m (dev.opened old) (disk (dev.time old))) where
  -- it is refused with no call of the device
  pub marker_damaged : (r : Result T Error) (x : Damage) → r ≡ Err (Corruption x) → x.section ≡ s → (dev.Tells → IsRefused seal m.factory.pages.page_size size (disk (dev.time old) (section_key m.partition s)) items x)
      → ChecksMarker see sections_of floor_of boundary_of aim m s seal m.factory.pages.page_size size m.partition spelling accepted refusal dev g gives items old old r
  marker_damaged r x is own refused = rw is record {
    over = ready.over;
    sections = tt;
    target = tt;
    floor = tt;
    fits = tt;
    there = λ t. tt;
    empty = λ none. tt;
    boundary = λ t some. tt;
    floors = tt;
    boundaries = tt;
    damage = λ t y bad. (let same : x ≡ y = cc bad in subst (λ (z : Damage). (z.section ≡ s) × IsRefused seal m.factory.pages.page_size size (disk (dev.time old) (section_key m.partition s)) items z) same (own, refused t));
    refused = λ t y bad. absurd (cc bad);
    unchanged = λ t. unchanged_start (dev.time old);
    entries = λ q other. refl;
    faults = omega arith;
    cause = inl (x, refl);
  }

  -- so many items have more bytes than a u64 counts
  pub marker_long : {U : Type 0} (r : Result T Error) (e : Error) → r ≡ Err e → ((x : Damage) → IsErrOf {T = U} (Err e) (Corruption x) → (x.section ≡ s) × (2 ^ 64 ≤ items * size) × (x.kept ≡ items) × (x.wanted ≡ (2 ^ 64 - 1) / size))
      → ((x : Damage) × IsErrOf {T = U} (Err e) (Corruption x)) → ChecksMarker see sections_of floor_of boundary_of aim m s seal m.factory.pages.page_size size m.partition spelling accepted refusal dev g gives items old old r
  marker_long r e is damage cause =
      let h = damage cause.0 cause.1 in
      let at = cause.1 in
      marker_damaged r cause.0 (cc (is, at)) h.0 (λ t. inl (record { many = h.1; kept = h.2; wanted = h.3 }))

  -- the section has no blob
  pub marker_missing : (floor : ℕ) → s < 2 ^ 64 → s ≤ m.ceiling → m.held s ≡ None → (floor ≡ items * size) × (items * size < 2 ^ 64)
      → ChecksMarker see sections_of floor_of boundary_of aim m s seal m.factory.pages.page_size size m.partition spelling accepted refusal dev g gives items old old (Err (Corruption (record { section = s; kept = 0; wanted = floor })))
  marker_missing floor small le none bytes = marker_damaged (Err (Corruption (record { section = s; kept = 0; wanted = floor }))) (record { section = s; kept = 0; wanted = floor }) refl refl
      (λ t. inr (inl (record { absent = gone (disk (dev.time old) (section_key m.partition s)).there (λ there. (ready.held t s small).1 (there, le)); fits = bytes.1; kept = refl; wanted = bytes.0 })))
    where
      gone : (b : Bool) → (IsTrue b → IsHeld m s) → b ≡ false
      gone false held = refl
      gone true held = (let bad = held refl in absurd (cc (none, bad)))

  -- a marker of no item takes no read
  pub marker_empty : (r : Result T Error) (floor : ℕ) → items ≡ 0 → IsHeld m s → s < 2 ^ 64 → (floor ≡ items * size) × (items * size < 2 ^ 64) → TakesFloor see sections_of floor_of boundary_of aim m s floor None r
      → ChecksMarker see sections_of floor_of boundary_of aim m s seal m.factory.pages.page_size size m.partition spelling accepted refusal dev g gives items old old r
  marker_empty (Err e) floor none held small bytes takes = record {
    over = ready.over;
    sections = tt;
    target = tt;
    floor = tt;
    fits = tt;
    there = λ t. tt;
    empty = λ zero. tt;
    boundary = λ t some. tt;
    floors = tt;
    boundaries = tt;
    damage = λ t y bad. (let no = takes.cause in absurd (cc (no, bad)));
    refused = λ t y bad. (let no = takes.cause in absurd (cc (no, bad)));
    unchanged = λ t. unchanged_start (dev.time old);
    entries = λ q other. refl;
    faults = omega arith;
    cause = inr (inr (inl takes.cause));
  }
  marker_empty (Ok x) floor none held small bytes takes = record {
    over = ready.over;
    sections = takes.sections;
    target = takes.target;
    floor = takes.floor ∙ bytes.0;
    fits = bytes.1;
    there = λ t. ((ready.held t s small).0 held).0;
    empty = λ zero. takes.boundary;
    boundary = λ t some. absurd (omega (arith, none, some));
    floors = takes.floors;
    boundaries = takes.boundaries;
    damage = λ t y bad. absurd (cc bad);
    refused = λ t y bad. absurd (cc bad);
    unchanged = λ t. unchanged_start (dev.time old);
    entries = λ q other. refl;
    faults = omega arith;
    cause = tt;
  }

  -- ---- its last item is read
  module _ (are : ArePages g seal) (paging : (f : AppendFactory S) → (gives f).page_size ≡ f.pages.page_size) (extents : (u : PageBlob S gs) → g.extent u ≡ u.end) (u : PageBlob S gs) (held : m.held s ≡ Some u) (new : D) where
    -- at the section's key
    pub looks_own : (r : Result A Error) → LooksBelow seal u.page_size size dev (pages.key_of (shown u)) u.end old new items spelling accepted refusal s r
        → LooksBelow seal m.factory.pages.page_size size dev (section_key m.partition s) u.end old new items spelling accepted refusal s r
    looks_own r looks = subst (λ (k : Key). LooksBelow seal m.factory.pages.page_size size dev k u.end old new items spelling accepted refusal s r) (sym (are.key u) ∙ ready.over.opened_list.key s u held)
        (subst (λ (n : ℕ). LooksBelow seal n size dev (pages.key_of (shown u)) u.end old new items spelling accepted refusal s r)
        (sym (are.page_size u) ∙ ap (λ (x : Setting). x.page_size) (ready.over.opened_list.setting s u held) ∙ paging m.factory) looks)

    module _ (q : Result A Error) (looks : LooksBelow seal m.factory.pages.page_size size dev (section_key m.partition s) u.end old new items spelling accepted refusal s q) where
      over_looked : IsOver g gives dev.Tells m (dev.opened new) (disk (dev.time new))
      over_looked = over_read g gives dev.Tells m (dev.opened old) (dev.opened new) (disk (dev.time old)) (disk (dev.time new)) s u held ready.over looks.entries
          (subst (λ (n : ℕ). IsOpenAt (dev.opened new) (section_key m.partition s) n) (sym (extents u)) looks.«open») (λ t. unchanged_now (dev.time old) (dev.time new) (looks.unchanged t))

      -- it is refused
      pub marker_refuses : (r : Result T Error) (e : Error) → r ≡ Err e → q ≡ Err e → ChecksMarker see sections_of floor_of boundary_of aim m s seal m.factory.pages.page_size size m.partition spelling accepted refusal dev g gives items old new r
      marker_refuses r e is failed = rw is record {
        over = over_looked;
        sections = tt;
        target = tt;
        floor = tt;
        fits = tt;
        there = λ t. tt;
        empty = λ none. tt;
        boundary = λ t some. tt;
        floors = tt;
        boundaries = tt;
        damage = λ t x bad. (let h = looks.damage t x (cc (failed, bad)) in (h.0, inr (inr h.1)));
        refused = λ t x bad. looks.refused t x (cc (failed, bad));
        unchanged = looks.unchanged;
        entries = looks.entries;
        faults = looks.faults;
        cause = again q failed looks.cause;
      }
        where
          again : (x : Result A Error) → x ≡ Err e → OnErr x (((y : Damage) × IsErrOf x (Corruption y)) ⊎ (((y : codec.Error) × IsErrOf x (Codec y)) ⊎ HasFailed x (dev.faults old) (dev.faults new)))
              → ((y : Damage) × IsErrOf {T = T} (Err e) (Corruption y)) ⊎ (((y : codec.Error) × IsErrOf {T = T} (Err e) (Codec y)) ⊎ HasFailed {T = T} (Err e) (dev.faults old) (dev.faults new))
          again (Ok v) at cause = absurd (cc at)
          again (Err x) at (inl damage) = (let is = damage.1 in inl (damage.0, cc (at, is)))
          again (Err x) at (inr (inl coded)) = (let is = coded.1 in inr (inl (coded.0, cc (at, is))))
          again (Err x) at (inr (inr failed)) = (let same : x ≡ e = cc at in inr (inr (subst (λ (y : Error). HasFailed {T = T} (Err y) (dev.faults old) (dev.faults new)) same (failed_again {T = A} {U = T} x (dev.faults old) (dev.faults new) failed))))

      -- it is taken in
      pub marker_takes : (r : Result T Error) (v : A) (floor : ℕ) → q ≡ Ok v → 0 < items → IsHeld m s → s < 2 ^ 64 → (floor ≡ items * size) × (items * size < 2 ^ 64) → TakesFloor see sections_of floor_of boundary_of aim m s floor (Some v) r
          → ChecksMarker see sections_of floor_of boundary_of aim m s seal m.factory.pages.page_size size m.partition spelling accepted refusal dev g gives items old new r
      marker_takes (Err e) v floor is some has small bytes takes = record {
        over = over_looked;
        sections = tt;
        target = tt;
        floor = tt;
        fits = tt;
        there = λ t. tt;
        empty = λ none. tt;
        boundary = λ t more. tt;
        floors = tt;
        boundaries = tt;
        damage = λ t y bad. (let no = takes.cause in absurd (cc (no, bad)));
        refused = λ t y bad. (let no = takes.cause in absurd (cc (no, bad)));
        unchanged = looks.unchanged;
        entries = looks.entries;
        faults = looks.faults;
        cause = inr (inr (inl takes.cause));
      }
      marker_takes (Ok x) v floor is some has small bytes takes = record {
        over = over_looked;
        sections = takes.sections;
        target = takes.target;
        floor = takes.floor ∙ bytes.0;
        fits = bytes.1;
        there = λ t. ((ready.held t s small).0 has).0;
        empty = λ none. absurd (omega (arith, none, some));
        boundary = λ t more. subst (λ (o : Option (Option A)). IsSomeAnd o (λ o. IsSomeAnd o (IsBoundary seal m.factory.pages.page_size size spelling accepted (disk (dev.time old) (section_key m.partition s)).content items))) (sym takes.boundary)
            (subst (λ (y : Result A Error). IfOk y (IsBoundary seal m.factory.pages.page_size size spelling accepted (disk (dev.time old) (section_key m.partition s)).content items)) is (looks.item t));
        floors = takes.floors;
        boundaries = takes.boundaries;
        damage = λ t y bad. absurd (cc bad);
        refused = λ t y bad. absurd (cc bad);
        unchanged = looks.unchanged;
        entries = looks.entries;
        faults = looks.faults;
        cause = tt;
      }

-- ---- a floor
module _ {A F S T : Type 0} {gs : _} (see : T → Floors A) (sections_of : T → Sections F (PageBlob S gs)) (floor_of : ℕ → ℕ) (boundary_of : ℕ → Option (Option A)) (aim : Option Target) (m : Sections F (PageBlob S gs)) (s bytes : ℕ) (item : Option A) where
  -- there was no memory to take it in
  pub floor_failed : (r : Result T Error) → r ≡ Err Mem → TakesFloor see sections_of floor_of boundary_of aim m s bytes item r
  floor_failed r is = rw is record {
    floor = tt;
    boundary = tt;
    floors = tt;
    boundaries = tt;
    sections = tt;
    target = tt;
    cause = refl;
  }
