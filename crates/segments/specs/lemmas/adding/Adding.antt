-- An append to a fixed journal that failed, from what its manager and the section's buffer answered.
use Rattle.std.proofs.Common.{◌≡◌, ◌≢◌, ◌⊎◌, ◌↔◌, ◌∙◌, inl, ℕ, ◌+◌, ◌^◌, ◌<◌, ◌≤◌, List, ◌++◌, length, None, Some, Err, refl, sym, ap, subst, arith}
use Rattle.std.specs.Result.{IsErrOf}
use Rattle.blob_device.specs.Change.{Make, done}
use Rattle.blob_device.specs.Disk.{Key}
use Rattle.blob_device.specs.Timeline.{Timeline, disk}
use Rattle.blob_device.specs.declared.device.Device as device
use Rattle.blob_device.specs.lemmas.Moments.{only_start}
use Rattle.sealed_pages.specs.Buffer as pages
use Rattle.sealed_pages.specs.Buffer.{extent, size_of, bytes_of, FlushesNothing, IsBacked, IsSealed}
use Rattle.sealed_pages.specs.ChanceSeal.{Sealing}
use Rattle.sealed_pages.specs.Flushing.{Alone}
use Rattle.sealed_pages.specs.SealedPrefix.{sealed_prefix}
use Rattle.sealed_pages.specs.Shown.{shown}
use Rattle.sealed_pages.specs.Unrecovered.{IsAdopted, IsUnrecovered, KeepsPrefix}
use Rattle.sealed_pages.specs.declared.page_blob.PageBlob.{PageBlob}
use Rattle.sealed_pages.specs.lemmas.Unrecovered.{adopted_backed}
use Rattle.sealed_pages.specs.lemmas.slots.PageCalls.{alone_then, only_weaker}
use Rattle.segments.specs.lemmas.adding.Append.{Takes, beginning, full_here, held_sealing, start_sealing, steady_start, taken_adopted, taken_sealed, taken_still}
use Rattle.segments.specs.lemmas.adding.Write.{ArePages}
use Rattle.segments.specs.lemmas.held.Calls.{moved}
use Rattle.section_manager.specs.Entries.{OnlyOwnEntry}
use Rattle.section_manager.specs.Lasting.{IsOpening}
use Rattle.section_manager.specs.Leaving.{AllMoments}
use Rattle.section_manager.specs.Refusing.{HasFailed, IsPruned}
use Rattle.section_manager.specs.Sections.{key_of, IsHeld}
use Rattle.section_manager.specs.Setting.{Setting}
use Rattle.section_manager.specs.declared.buffer.SectionBuffer as buffer
use Rattle.section_manager.specs.declared.journal.Error.{Error}
use Rattle.section_manager.specs.declared.journal.Error.TheVariants.{Full, Mem}
use Rattle.section_manager.specs.declared.sealed.AppendFactory.{AppendFactory}
use Rattle.segments.specs.FixedAdding.{Appends, WouldOverfill}
use Rattle.segments.specs.FixedLasting.{IsBeginning}
use Rattle.segments.specs.FixedLists.{Lists, section_bytes, IsJournal, IsRecovered}
use Rattle.blob_device.proofs.general.Options.{some_there}

pub error_is : {T : Type 0} (e x : Error) → IsErrOf {T = T} (Err e) x → e ≡ x
error_is e x is = cc is

-- want of memory is no other error
module _ {T : Type 0} (e : Error) (mem : e ≡ Mem) where
  pub mem_not_pruned : (floor : ℕ) → IsPruned {T = T} (Err e) floor → ⊥
  mem_not_pruned floor is = cc (is, mem)

  pub mem_not_full : IsErrOf {T = T} (Err e) Full → ⊥
  mem_not_full is = cc (is, mem)

module _ {S D : Type 0} {gs : _} (seal : List ℕ → ℕ) (size : ℕ) (g : buffer.Ghosts (PageBlob S gs)) (are : ArePages g seal) (gives : AppendFactory S → Setting) (dev : device.Ghosts D)
    (j : Lists (AppendFactory S) (PageBlob S gs)) (s : ℕ) (old : D) (journal : IsJournal g gives seal size dev.Tells j (dev.opened old) (disk (dev.time old))) (recovered : IsRecovered j s) (spelled : List ℕ) where
  pub record Along (n : ℕ) (new : D) : Type 0 where
    pub alone : dev.Tells → Alone (key_of j.sections s) (dev.time old) (dev.time new)
    pub moments : dev.Tells → (u : PageBlob S gs) → j.sections.held s ≡ Some u → IsSealed seal (shown u) (disk (dev.time old) (key_of j.sections s))
        → Sealing seal u.page_size (section_bytes j.sections (disk (dev.time old)) s ++ spelled) u.settled (key_of j.sections s) (dev.time old) (dev.time new)
    pub steady : dev.Tells → (u : PageBlob S gs) → j.sections.held s ≡ Some u → IsUnrecovered seal (shown u) (disk (dev.time old) (key_of j.sections s))
        → KeepsPrefix seal u.page_size (sealed_prefix seal u.page_size (disk (dev.time old) (key_of j.sections s)).content) (key_of j.sections s) (dev.time old) (dev.time new)
    pub made : dev.Tells → j.sections.held s ≡ None
        → AllMoments (key_of j.sections s) (IsBeginning seal j.sections.factory.pages.page_size spelled (disk (dev.time old) (key_of j.sections s))) (dev.time old) (dev.time new)
    pub below : (u : PageBlob S gs) → j.sections.held s ≡ Some u → FlushesNothing (shown u) n → new ≡ old
    pub entries : OnlyOwnEntry (key_of j.sections s) (dev.opened old) (dev.opened new)
    pub faults : dev.faults old ≤ dev.faults new

  -- an append that failed
  pub failed : {T : Type 0} (n : ℕ) (TooMany : Type 0) (see : T → Lists (AppendFactory S) (PageBlob S gs) × ℕ) (new : D) (e : Error) → Along n new
      → (IsPruned {T = T} (Err e) j.sections.floor ↔ (s < j.sections.floor)) → (s < j.sections.floor → new ≡ old)
      → (IsErrOf {T = T} (Err e) Full → dev.Tells ⊎ IsHeld j.sections s → TooMany)
      → (j.sections.floor ≤ s → (u : PageBlob S gs) → j.sections.held s ≡ Some u → 2 ^ 64 ≤ extent u.page_size (size_of (shown u) + n) → IsErrOf {T = T} (Err e) Full ⊎ IsErrOf {T = T} (Err e) Mem)
      → IsPruned {T = T} (Err e) j.sections.floor ⊎ (IsErrOf {T = T} (Err e) Full ⊎ HasFailed {T = T} (Err e) (dev.faults old) (dev.faults new))
      → Appends j s g gives seal size spelled n TooMany dev (Err e) see old new
  failed n TooMany see new e along guard refuses full full_first cause = record {
    over = tt;
    position = tt;
    size = tt;
    bytes = λ t. tt;
    tail = tt;
    held = tt;
    settled = tt;
    others = tt;
    spares = λ t. tt;
    bounds = tt;
    unrecovered = tt;
    floors = tt;
    alone = along.alone;
    moments = along.moments;
    sealed = λ t. tt;
    steady = along.steady;
    made = along.made;
    below = along.below;
    entries = along.entries;
    guard = guard;
    refuses = refuses;
    full = full;
    full_first = full_first;
    room = tt;
    faults = along.faults;
    cause = cause;
  }

  -- ---- where the section was not taken

  module _ (mid : D) (untouched : IsHeld j.sections s → mid ≡ old)
      (opening : dev.Tells → AllMoments (key_of j.sections s) (IsOpening (disk (dev.time old) (key_of j.sections s))) (dev.time old) (dev.time mid))
      (entries : OnlyOwnEntry (key_of j.sections s) (dev.opened old) (dev.opened mid)) (faults : dev.faults old ≤ dev.faults mid) where
    stood : (u : PageBlob S gs) → j.sections.held s ≡ Some u → dev.time old ≡ dev.time mid
    stood u held = ap dev.time (sym (untouched (some_there (j.sections.held s) u held)))

    pub along_untaken : (n : ℕ) → Along n mid
    along_untaken n = record {
      alone = λ t. only_weaker (dev.time old) (dev.time mid) (key_of j.sections s) (disk (dev.time old)) (IsOpening (disk (dev.time old) (key_of j.sections s))) (λ b. Unit {0}) (λ x is. tt) (opening t);
      moments = λ t u held sealed. subst (Sealing seal u.page_size (section_bytes j.sections (disk (dev.time old)) s ++ spelled) u.settled (key_of j.sections s) (dev.time old)) (stood u held)
          (start_sealing seal size dev.Tells g are gives j (dev.opened old) (dev.time old) journal s recovered u held sealed spelled);
      steady = λ t u held un. subst (KeepsPrefix seal u.page_size (sealed_prefix seal u.page_size (disk (dev.time old) (key_of j.sections s)).content) (key_of j.sections s) (dev.time old)) (stood u held)
          (steady_start seal (shown u) (key_of j.sections s) (dev.time old) u.fit.begun un);
      made = λ t none. only_weaker (dev.time old) (dev.time mid) (key_of j.sections s) (disk (dev.time old)) (IsOpening (disk (dev.time old) (key_of j.sections s)))
          (IsBeginning seal j.sections.factory.pages.page_size spelled (disk (dev.time old) (key_of j.sections s))) (λ x is. inl is) (opening t);
      below = λ u held flushes. untouched (some_there (j.sections.held s) u held);
      entries = entries;
      faults = faults;
    }

  pub along_nothing : (n : ℕ) → Along n old
  along_nothing n = along_untaken old (λ held. refl)
      (λ t. only_start (dev.time old) (key_of j.sections s) (IsOpening (disk (dev.time old) (key_of j.sections s))) (inl refl)) (λ q other. refl) (omega arith) n

  -- ---- where it was taken, and its buffer was asked to add the bytes

  -- what `take` answered
  pub record Took (mid : D) (u : PageBlob S gs) : Type 0 where
    pub takes : Takes seal size dev.Tells g are gives j (dev.opened old) (dev.time old) journal s recovered (dev.time mid) u
    pub untouched : IsHeld j.sections s → mid ≡ old
    pub opening : dev.Tells → AllMoments (key_of j.sections s) (IsOpening (disk (dev.time old) (key_of j.sections s))) (dev.time old) (dev.time mid)
    pub key : pages.key_of (shown u) ≡ key_of j.sections s
    pub page : u.page_size ≡ j.sections.factory.pages.page_size
    pub entries : OnlyOwnEntry (key_of j.sections s) (dev.opened old) (dev.opened mid)
    pub faults : dev.faults old ≤ dev.faults mid

  pub took_of : (mid : D) (u : PageBlob S gs) → ((w : PageBlob S gs) → j.sections.held s ≡ Some w → u ≡ w) → (IsHeld j.sections s → mid ≡ old)
      → (dev.Tells → g.Stands u (disk (dev.time mid) (key_of j.sections s)))
      → (dev.Tells → j.sections.held s ≡ None → disk (dev.time mid) (key_of j.sections s) ≡ done Make (disk (dev.time old) (key_of j.sections s)))
      → (dev.Tells → j.sections.held s ≡ None → g.bytes u (disk (dev.time mid) (key_of j.sections s)).content ≡ g.holds (gives j.sections.factory) (disk (dev.time mid) (key_of j.sections s)).content)
      → pages.key_of (shown u) ≡ key_of j.sections s → u.page_size ≡ j.sections.factory.pages.page_size
      → (dev.Tells → AllMoments (key_of j.sections s) (IsOpening (disk (dev.time old) (key_of j.sections s))) (dev.time old) (dev.time mid))
      → OnlyOwnEntry (key_of j.sections s) (dev.opened old) (dev.opened mid) → dev.faults old ≤ dev.faults mid → Took mid u
  took_of mid u same untouched stands made bytes key page opening entries faults = record {
    takes = record { same = same; untouched = λ held. ap (λ (x : D). disk (dev.time x)) (untouched held); stands = stands; made = made; bytes = bytes };
    untouched = untouched;
    opening = opening;
    key = key;
    page = page;
    entries = entries;
    faults = faults;
  }

  module _ (small : s < 2 ^ 64) (mid : D) (u : PageBlob S gs) (took : Took mid u) where
    abbrev at_taken : Key
    at_taken = pages.key_of (shown u)

    backed : dev.Tells → IsBacked seal (shown u) (disk (dev.time mid) at_taken).content
    backed t = adopted_backed seal (shown u) (disk (dev.time mid) at_taken)
        (subst (λ (q : Key). IsAdopted seal (shown u) (disk (dev.time mid) q)) (sym took.key)
        (taken_adopted seal size dev.Tells g are gives j (dev.opened old) (dev.time old) journal s recovered small (dev.time mid) u took.takes t))

    module _ (new : D)
        (crashes : dev.Tells → IsSealed seal (shown u) (disk (dev.time mid) at_taken)
        → Sealing seal u.page_size (bytes_of (shown u) (disk (dev.time mid) at_taken).content ++ spelled) u.settled at_taken (dev.time mid) (dev.time new))
        (steady : dev.Tells → IsUnrecovered seal (shown u) (disk (dev.time mid) at_taken)
        → KeepsPrefix seal u.page_size (sealed_prefix seal u.page_size (disk (dev.time mid) at_taken).content) at_taken (dev.time mid) (dev.time new))
        (alone : dev.Tells → IsBacked seal (shown u) (disk (dev.time mid) at_taken).content → Alone at_taken (dev.time mid) (dev.time new))
        (below : FlushesNothing (shown u) (length spelled) → new ≡ mid)
        (entries : (q : Key) → q ≢ at_taken → dev.opened new q ≡ dev.opened mid q) (faults : dev.faults mid ≤ dev.faults new) where
      -- the promise on crashes, at the section's key
      sealing : IsSealed seal (shown u) (disk (dev.time mid) (key_of j.sections s)) → dev.Tells
          → Sealing seal u.page_size (bytes_of (shown u) (disk (dev.time mid) (key_of j.sections s)).content ++ spelled) u.settled (key_of j.sections s) (dev.time mid) (dev.time new)
      sealing sealed t = subst (λ (q : Key). Sealing seal u.page_size (bytes_of (shown u) (disk (dev.time mid) q).content ++ spelled) u.settled q (dev.time mid) (dev.time new)) took.key
          (crashes t (subst (λ (q : Key). IsSealed seal (shown u) (disk (dev.time mid) q)) (sym took.key) sealed))

      was_there : (w : PageBlob S gs) → j.sections.held s ≡ Some w → mid ≡ old
      was_there w held = took.untouched (some_there (j.sections.held s) w held)

      pub along_taken : Along (length spelled) new
      along_taken = record {
        alone = λ t. alone_then (dev.time old) (dev.time mid) (dev.time new) (key_of j.sections s)
            (only_weaker (dev.time old) (dev.time mid) (key_of j.sections s) (disk (dev.time old)) (IsOpening (disk (dev.time old) (key_of j.sections s))) (λ b. Unit {0}) (λ x is. tt) (took.opening t))
            (subst (λ (q : Key). Alone q (dev.time mid) (dev.time new)) took.key (alone t (backed t)));
        moments = λ t w held sealed. held_sealing seal size dev.Tells g are gives j (dev.opened old) (dev.time old) journal s recovered small (dev.time mid) u took.takes t w held spelled (dev.time new)
            (ap dev.time (sym (was_there w held)))
            (sealing (taken_still seal size dev.Tells g are gives j (dev.opened old) (dev.time old) journal s recovered small (dev.time mid) u took.takes w held sealed) t);
        steady = λ t w held un. moved u w (took.takes.same w held) (key_of j.sections s) (dev.time mid) (dev.time old) (ap dev.time (was_there w held)) took.key
            (λ (x : PageBlob S gs) (k : Key) (a : Timeline). IsUnrecovered seal (shown x) (disk a k) → KeepsPrefix seal x.page_size (sealed_prefix seal x.page_size (disk a k).content) k a (dev.time new)) (steady t) un;
        made = λ t none. beginning seal size dev.Tells g are gives j (dev.opened old) (dev.time old) journal s recovered small j.sections.factory.pages.page_size (dev.time mid) (dev.time new) u spelled took.takes
            (λ told. took.page) t none (took.opening t)
            (sealing (taken_sealed seal size dev.Tells g are gives j (dev.opened old) (dev.time old) journal s recovered small (dev.time mid) u took.takes t (inl none)) t);
        below = λ w held flushes. below (subst (λ (x : PageBlob S gs). FlushesNothing (shown x) (length spelled)) (sym (took.takes.same w held)) flushes) ∙ was_there w held;
        entries = λ q other. entries q (λ is. other (is ∙ took.key)) ∙ took.entries q other;
        faults = omega (arith, took.faults, faults);
      }

    -- too many bytes for the section
    pub too_many : 2 ^ 64 ≤ extent u.page_size (size_of (shown u) + length spelled) → dev.Tells ⊎ IsHeld j.sections s → WouldOverfill j s (length spelled)
    too_many big which = full_here seal size dev.Tells g are gives j (dev.opened old) (dev.time old) journal s recovered small (dev.time mid) u took.takes which
        j.sections.factory.pages.page_size (length spelled) took.page big

    -- too many for the section, which is held, are too many for the buffer
    pub too_many_taken : (w : PageBlob S gs) → j.sections.held s ≡ Some w → 2 ^ 64 ≤ extent w.page_size (size_of (shown w) + length spelled) → 2 ^ 64 ≤ extent u.page_size (size_of (shown u) + length spelled)
    too_many_taken w held big = subst (λ (x : PageBlob S gs). 2 ^ 64 ≤ extent x.page_size (size_of (shown x) + length spelled)) (sym (took.takes.same w held)) big
