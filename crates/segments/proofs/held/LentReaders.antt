-- A replay lends the buffer of a section that is held: its bytes are flushed, and a reader begins.
use Rattle.std.specs.Prelude.{◌≡◌, ℕ, List, Some, IsSome, Result, Ok, Err}
use Rattle.std.proofs.Common.{inl, refl, sym, ◌∙◌, ap, subst, arith}
use Rattle.blob_device.specs.Disk.{Key}
use Rattle.blob_device.specs.Timeline.{disk}
use Rattle.blob_device.specs.declared.device.Device as device
use Rattle.blob_device.specs.declared.runtime.RError.{RError}
use Rattle.sealed_pages.specs.Buffer.{size_of, bytes_of, flushed_of, IsSealed}
use Rattle.sealed_pages.specs.Buffer as pages
use Rattle.sealed_pages.specs.ChanceSeal.{Sealing}
use Rattle.sealed_pages.specs.Readers.{Reader}
use Rattle.sealed_pages.specs.Replays.{Replays}
use Rattle.sealed_pages.specs.SealedPrefix.{sealed_prefix}
use Rattle.sealed_pages.specs.Shown.{shown}
use Rattle.sealed_pages.specs.Unrecovered.{IsUnrecovered, KeepsPrefix}
use Rattle.sealed_pages.specs.declared.page_blob.PageBlob.{PageBlob}
use Rattle.sealed_pages.specs.lemmas.cutting.Truncating.{all_flushed}
use Rattle.sealed_pages.specs.lemmas.memory.Holding.{holds_start}
use Rattle.segments.specs.lemmas.adding.Append.{steady_start}
use Rattle.segments.specs.lemmas.adding.Write.{ArePages}
use Rattle.segments.specs.lemmas.held.Calls.{flush_stands}
use Rattle.section_manager.specs.Raised.{raised}
use Rattle.section_manager.specs.Sections.{Sections, key_of, IsOver, IsSame, SameBounds}
use Rattle.section_manager.specs.Setting.{Setting}
use Rattle.section_manager.specs.declared.buffer.SectionBuffer as buffer
use Rattle.section_manager.specs.declared.journal.Error.{Error}
use Rattle.section_manager.specs.declared.journal.Error.TheVariants.{Mem}
use Rattle.section_manager.specs.managing.Lending.{IsPut}
use Rattle.section_manager.specs.managing.Lent.{OnlyTouches}
use Rattle.section_manager.specs.managing.Opening.{Takes}
use Rattle.segments.specs.FixedReplay.{Walk}
use Rattle.segments.specs.FixedStepping.{OnlySections, IsFlushed, BeginsOver, OpensReader}
use Rattle.segments.proofs.held.Buffers.{flushed_at}
use Rattle.segments.proofs.replay.Counts.{no_reads}
use Rattle.segments.proofs.replay.ErrorSteps.{raised_failed}
use Rattle.segments.proofs.held.Lending.{AreAlike, own_key, own_stands, page_touches, page_steps, taken_same, touched_none, touched_out, touched_back}
use Rattle.blob_device.proofs.general.Options.{same_some}

module _ {F S D : Type 0} (Q : Type 0) {gs : _} (seal : List ℕ → ℕ) (g : buffer.Ghosts (PageBlob S gs)) (gives : F → Setting) (are : ArePages g seal) (alike : AreAlike g) (dev : device.Ghosts D)
    (s : ℕ) (see : Q → Reader) (w v : Walk F (PageBlob S gs)) (rest : OnlySections w v) (ended : v.ended ≡ w.ended) (u : PageBlob S gs) (held : w.journal.sections.held s ≡ Some u) (old : D)
    (over : IsOver g gives dev.Tells w.journal.sections (dev.opened old) (disk (dev.time old))) where
  abbrev m : Sections F (PageBlob S gs)
  m = w.journal.sections

  abbrev K : Key
  K = key_of w.journal.sections s

  key : pages.key_of (shown u) ≡ K
  key = own_key seal g gives are alike dev m s u held old over

  of_held : (P : PageBlob S gs → Type 0) → P u → (x : PageBlob S gs) → w.journal.sections.held s ≡ Some x → P x
  of_held P has x at = subst P (sym (same_some (w.journal.sections.held s) u x held at)) has

  -- it could not be taken
  pub reader_untaken : (r : Result Q Error) (e : Error) (mid : D) → r ≡ Err e → Takes g gives dev m s v.journal.sections old mid (Err e) → OpensReader g gives seal dev s w v old mid r see
  reader_untaken r e mid is takes =
      let idle : mid ≡ old = takes.untouched (subst IsSome (sym held) refl) in
      rw is record {
        rest = rest;
        ended = ended;
        touches = touched_none seal g gives are alike dev m s u held old over v.journal.sections mid e e takes;
        flushed = tt;
        moments = λ t x at sealed. subst (λ (d : D). Sealing seal x.page_size (bytes_of (shown x) (disk (dev.time old) K).content) x.settled K (dev.time old) (dev.time d)) (sym idle)
            (holds_start seal (shown x) (bytes_of (shown x) (disk (dev.time old) K).content) K (dev.time old) x.fit.begun sealed.holds);
        steady = λ t x at un. subst (λ (d : D). KeepsPrefix seal x.page_size (sealed_prefix seal x.page_size (disk (dev.time old) K).content) K (dev.time old) (dev.time d)) (sym idle) (steady_start seal (shown x) K (dev.time old) x.fit.begun un);
        idle = λ x at all. ap dev.time idle;
        reads = tt;
        faults = takes.faults;
        cause = (let none = takes.held_cause (subst IsSome (sym held) refl) in inl (cc none));
      }

  module _ (k : Sections F (PageBlob S gs)) (takes : Takes g gives dev m s k old old (Ok u)) (new : D) where
    module _ (q : Result (PageBlob S gs × Q) RError) (step : Replays dev seal (shown u) old new shown see q) where
      step_touches : OnlyTouches dev (g.key u) old new
      step_touches = page_touches seal g gives are alike dev m s u held old over new step.entries.others step.alone

      step_moments : dev.Tells → (x : PageBlob S gs) → w.journal.sections.held s ≡ Some x → IsSealed seal (shown x) (disk (dev.time old) K) → Sealing seal x.page_size (bytes_of (shown x) (disk (dev.time old) K).content) x.settled K (dev.time old) (dev.time new)
      step_moments t = of_held (λ x. IsSealed seal (shown x) (disk (dev.time old) K) → Sealing seal x.page_size (bytes_of (shown x) (disk (dev.time old) K).content) x.settled K (dev.time old) (dev.time new))
          (subst (λ (y : Key). IsSealed seal (shown u) (disk (dev.time old) y) → Sealing seal u.page_size (bytes_of (shown u) (disk (dev.time old) y).content) u.settled y (dev.time old) (dev.time new)) key (step.crashes t))

      step_steady : dev.Tells → (x : PageBlob S gs) → w.journal.sections.held s ≡ Some x → IsUnrecovered seal (shown x) (disk (dev.time old) K) → KeepsPrefix seal x.page_size (sealed_prefix seal x.page_size (disk (dev.time old) K).content) K (dev.time old) (dev.time new)
      step_steady t = of_held (λ x. IsUnrecovered seal (shown x) (disk (dev.time old) K) → KeepsPrefix seal x.page_size (sealed_prefix seal x.page_size (disk (dev.time old) K).content) K (dev.time old) (dev.time new))
          (subst (λ (y : Key). IsUnrecovered seal (shown u) (disk (dev.time old) y) → KeepsPrefix seal u.page_size (sealed_prefix seal u.page_size (disk (dev.time old) y).content) y (dev.time old) (dev.time new)) key (step.steady t))

      step_idle : (x : PageBlob S gs) → w.journal.sections.held s ≡ Some x → x.settled ≡ size_of (shown x) → dev.time new ≡ dev.time old
      step_idle = of_held (λ x. x.settled ≡ size_of (shown x) → dev.time new ≡ dev.time old)
          (λ all. (let full : flushed_of (shown u) ≡ size_of (shown u) = omega (arith, all_flushed (shown u) u.fit.within u.order all) in ap dev.time (step.idle full)))

    -- the flush failed
    pub reader_failed_here : (r : Result Q Error) (raw : RError) → r ≡ Err (raised raw) → Replays dev seal (shown u) old new (shown {S = S} {g = gs}) see (Err raw) → ((q : ℕ) → IsSame k v.journal.sections q) → SameBounds k v.journal.sections
        → OpensReader g gives seal dev s w v old new r see
    reader_failed_here r raw is step same bounds = rw is record {
      rest = rest;
      ended = ended;
      touches = touched_out seal g gives are alike dev m s u held old over k takes new v.journal.sections (raised raw) (step_touches (Err raw) step) same bounds;
      flushed = tt;
      moments = step_moments (Err raw) step;
      steady = step_steady (Err raw) step;
      idle = step_idle (Err raw) step;
      reads = tt;
      faults = step.faults;
      cause = raised_failed raw (raised raw) refl _ _ _ (omega arith) step.cause;
    }

    module _ (x : PageBlob S gs) (y : Q) (step : Replays dev seal (shown u) old new shown see (Ok (x, y))) where
      -- the buffer could not be put back
      pub reader_refused_here : (r : Result Q Error) (e : Error) → r ≡ Err e → ((q : ℕ) → IsSame k v.journal.sections q) → SameBounds k v.journal.sections → e ≡ Mem → OpensReader g gives seal dev s w v old new r see
      reader_refused_here r e is same bounds none = rw is record {
        rest = rest;
        ended = ended;
        touches = touched_out seal g gives are alike dev m s u held old over k takes new v.journal.sections e (step_touches (Ok (x, y)) step) same bounds;
        flushed = tt;
        moments = step_moments (Ok (x, y)) step;
        steady = step_steady (Ok (x, y)) step;
        idle = step_idle (Ok (x, y)) step;
        reads = tt;
        faults = step.faults;
        cause = inl (ap Err none);
      }

      flushed_here : IsFlushed seal dev.Tells u (disk (dev.time old) K) x (disk (dev.time new) K) × BeginsOver seal K u x (see y)
      flushed_here = (
        flushed_at seal dev.Tells u x K (dev.time old) (dev.time new) key step.page_size step.size step.settled step.flushed step.sealed step.unrecovered step.steady step.bytes
            (λ t. (own_stands seal g gives are alike dev m s u held old over t).adopted),
        record { key = step.over.0 ∙ key; page_size = step.over.1; end = step.over.2; size = step.begins.1; at = step.begins.0; replays = step.replays },
      )

      -- the reader begins
      pub reader_done_here : IsPut s x k v.journal.sections → OpensReader g gives seal dev s w v old new (Ok y) see
      reader_done_here put = record {
        rest = rest;
        ended = ended;
        touches = touched_back seal g gives are alike dev m s u held old over k takes new v.journal.sections y x
            (page_steps seal g gives are alike dev m s u held old over new x (step_touches (Ok (x, y)) step) step.key step.page_size step.capacity step.cache_pages step.«open»
            (λ t. flush_stands u u refl K (dev.time old) (dev.time old) refl key seal x (dev.time new) (own_stands seal g gives are alike dev m s u held old over t) step.settled step.size (λ full. ap dev.time (step.idle full)) (step.sealed t) (step.unrecovered t))) put;
        flushed = λ a b at at_b. subst (λ (c : PageBlob S gs). IsFlushed seal dev.Tells a (disk (dev.time old) K) c (disk (dev.time new) K) × BeginsOver seal K a c (see y)) (sym (same_some (v.journal.sections.held s) x b put.here at_b))
            (of_held (λ c. IsFlushed seal dev.Tells c (disk (dev.time old) K) x (disk (dev.time new) K) × BeginsOver seal K c x (see y)) flushed_here a at);
        moments = step_moments (Ok (x, y)) step;
        steady = step_steady (Ok (x, y)) step;
        idle = step_idle (Ok (x, y)) step;
        reads = no_reads (pages.key_of (shown u)) K (dev.opened old) (dev.opened old) (dev.opened new) key refl step.entries;
        faults = step.faults;
        cause = tt;
      }

  -- ---- the same of what was taken out
  module _ (k : Sections F (PageBlob S gs)) (mid : D) (b : PageBlob S gs) (takes : Takes g gives dev m s k old mid (Ok b)) (new : D) where
    same : (mid ≡ old) × (b ≡ u)
    same = taken_same seal g gives are alike dev m s u held old over k mid b takes

    takes_here : Takes g gives dev m s k old old (Ok u)
    takes_here = subst (λ (x : PageBlob S gs). Takes g gives dev m s k old old (Ok x)) same.1 (subst (λ (d : D). Takes g gives dev m s k old d (Ok b)) same.0 takes)

    step_here : (q : Result (PageBlob S gs × Q) RError) → Replays dev seal (shown b) mid new shown see q → Replays dev seal (shown u) old new shown see q
    step_here q step = subst (λ (x : PageBlob S gs). Replays dev seal (shown x) old new shown see q) same.1 (subst (λ (d : D). Replays dev seal (shown b) d new shown see q) same.0 step)

    pub reader_failed : (r : Result Q Error) (raw : RError) → r ≡ Err (raised raw) → Replays dev seal (shown b) mid new (shown {S = S} {g = gs}) see (Err raw) → ((q : ℕ) → IsSame k v.journal.sections q) → SameBounds k v.journal.sections → OpensReader g gives seal dev s w v old new r see
    reader_failed r raw is step alike_sections bounds = reader_failed_here k takes_here new r raw is (step_here (Err raw) step) alike_sections bounds

    pub reader_refused : (x : PageBlob S gs) (y : Q) → Replays dev seal (shown b) mid new shown see (Ok (x, y)) → (r : Result Q Error) (e : Error) → r ≡ Err e → ((q : ℕ) → IsSame k v.journal.sections q) → SameBounds k v.journal.sections → e ≡ Mem
        → OpensReader g gives seal dev s w v old new r see
    reader_refused x y step r e is alike_sections bounds none = reader_refused_here k takes_here new x y (step_here (Ok (x, y)) step) r e is alike_sections bounds none

    pub reader_done : (x : PageBlob S gs) (y : Q) → Replays dev seal (shown b) mid new shown see (Ok (x, y)) → IsPut s x k v.journal.sections → OpensReader g gives seal dev s w v old new (Ok y) see
    reader_done x y step put = reader_done_here k takes_here new x y (step_here (Ok (x, y)) step) put
