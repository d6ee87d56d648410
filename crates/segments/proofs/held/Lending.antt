-- What a replay lends of a section that is held: its buffer is taken out with no call, a call is made on it, and it is put back. The
-- law of lending says what that leaves of the others.
use Rattle.std.specs.Prelude.{◌≡◌, ◌≢◌, ℕ, ◌≤◌, true, false, List, length, Some, IsSome, Result, Ok, Err}
use Rattle.std.proofs.Common.{inl, inr, refl, sym, ◌∙◌, ap, subst, arith}
use Rattle.blob_device.specs.Disk.{Key, Blob}
use Rattle.blob_device.specs.Timeline.{disk, OnlyAt}
use Rattle.blob_device.specs.declared.device.Device as device
use Rattle.blob_device.specs.declared.runtime.RError.{RError}
use Rattle.blob_device.specs.declared.runtime.RError.TheVariants.{InvalidChecksum}
use Rattle.blob_device.specs.lemmas.Moments.{always_now}
use Rattle.sealed_pages.specs.Buffer.{Buffer, size_of, IsBacked}
use Rattle.sealed_pages.specs.Buffer as pages
use Rattle.sealed_pages.specs.ChanceSeal.{Sealing}
use Rattle.sealed_pages.specs.Entries.{IsOpenAt}
use Rattle.sealed_pages.specs.Flushing.{Alone}
use Rattle.sealed_pages.specs.SealedPrefix.{sealed_prefix}
use Rattle.sealed_pages.specs.Shown.{shown}
use Rattle.sealed_pages.specs.Unrecovered.{IsAdopted, IsSafeCut}
use Rattle.sealed_pages.specs.Writes.{Truncates}
use Rattle.sealed_pages.specs.declared.page_blob.PageBlob.{PageBlob}
use Rattle.sealed_pages.specs.lemmas.Unrecovered.{adopted_backed}
use Rattle.section_manager.specs.lemmas.buffers.SealedCalls.{sound_page}
use Rattle.section_manager.specs.lemmas.sections.Lent.{lent_back, lent_none, lent_out, puts_back}
use Rattle.segments.specs.lemmas.adding.Write.{ArePages}
use Rattle.section_manager.specs.Raised.{raised}
use Rattle.section_manager.specs.Sealed.{Stands}
use Rattle.section_manager.specs.Sections.{Sections, key_of, IsHeld, IsOver, IsSame, SameBounds}
use Rattle.section_manager.specs.Setting.{Setting}
use Rattle.section_manager.specs.declared.buffer.SectionBuffer as buffer
use Rattle.section_manager.specs.declared.journal.Error.{Error}
use Rattle.section_manager.specs.declared.journal.Error.TheVariants.{Mem}
use Rattle.section_manager.specs.managing.Lending.{IsPut}
use Rattle.section_manager.specs.managing.Lent.{OnlyTouches, PutsBack, StepsTo}
use Rattle.section_manager.specs.managing.Opening.{Takes}
use Rattle.segments.specs.FixedReplay.{Walk}
use Rattle.segments.specs.FixedStepping.{OnlySections, Touches, IsCutBack, CutsBack}
use Rattle.segments.proofs.held.Buffers.{cut_at, no_cut_moments, cut_moved}
use Rattle.segments.proofs.held.Calls.{cut_stands}
use Rattle.segments.proofs.replay.Counts.{few_reads}
use Rattle.segments.proofs.replay.ErrorSteps.{raised_cut}
use Rattle.segments.specs.lemmas.FixedErrors.{runtime_of}
use Rattle.blob_device.proofs.general.Options.{same_some}

safe_cut : (seal : List ℕ → ℕ) (u : Buffer) (n : ℕ) (b : Blob) → IsAdopted seal u b → n ≤ length (sealed_prefix seal u.page_size b.content) → IsSafeCut seal u n b
safe_cut seal u n b (inl sealed) long = inl sealed
safe_cut seal u n b (inr un) long = inr (inl (un, long))

-- Page blobs are measured and made as they show.
pub record AreAlike {S : Type 0} {gs : _} (g : buffer.Ghosts (PageBlob S gs)) : Type 0 where
  pub extent : (u : PageBlob S gs) → g.extent u ≡ u.end
  pub setting : (u v : PageBlob S gs) → (shown v).page_size ≡ (shown u).page_size → (shown v).capacity ≡ (shown u).capacity → (shown v).cache_pages ≡ (shown u).cache_pages → g.setting v ≡ g.setting u

module _ {F S D : Type 0} {gs : _} (seal : List ℕ → ℕ) (g : buffer.Ghosts (PageBlob S gs)) (gives : F → Setting) (are : ArePages g seal) (alike : AreAlike g) (dev : device.Ghosts D)
    (m : Sections F (PageBlob S gs)) (s : ℕ) (u : PageBlob S gs) (held : m.held s ≡ Some u) (old : D) (over : IsOver g gives dev.Tells m (dev.opened old) (disk (dev.time old))) where
  here : IsHeld m s
  here = subst IsSome (sym held) refl

  pub own_key : pages.key_of (shown u) ≡ key_of m s
  own_key = sym (are.key u) ∙ over.opened_list.key s u held

  pub own_stands : dev.Tells → Stands seal (shown u) (disk (dev.time old) (key_of m s))
  own_stands t = are.stands u _ ((over.disk t).stands s u held)

  pub own_adopted : dev.Tells → IsAdopted seal (shown u) (disk (dev.time old) (pages.key_of (shown u)))
  own_adopted t = subst (λ (k : Key). IsAdopted seal (shown u) (disk (dev.time old) k)) (sym own_key) (own_stands t).adopted

  -- a call on its buffer touches its blob alone
  pub page_touches : (new : D) → ((q : Key) → q ≢ pages.key_of (shown u) → dev.opened new q ≡ dev.opened old q)
      → (dev.Tells → IsBacked seal (shown u) (disk (dev.time old) (pages.key_of (shown u))).content → Alone (pages.key_of (shown u)) (dev.time old) (dev.time new)) → OnlyTouches dev (g.key u) old new
  page_touches new others alone = record {
    entries = λ q other. others q (λ is. other (is ∙ sym (are.key u)));
    blobs = λ t q other. (always_now (dev.time old) (dev.time new) (OnlyAt (pages.key_of (shown u)) (disk (dev.time old)) (λ x. Unit {0}))
        (alone t (adopted_backed seal (shown u) (disk (dev.time old) (pages.key_of (shown u))) (own_adopted t)))).others q (λ is. other (is ∙ sym (are.key u)));
  }

  -- and leaves a buffer of it
  pub page_steps : (new : D) (v : PageBlob S gs) → OnlyTouches dev (g.key u) old new → pages.key_of (shown v) ≡ pages.key_of (shown u) → (shown v).page_size ≡ (shown u).page_size → (shown v).capacity ≡ (shown u).capacity → (shown v).cache_pages ≡ (shown u).cache_pages
      → IsOpenAt (dev.opened new) (pages.key_of (shown v)) v.end → (dev.Tells → Stands seal (shown v) (disk (dev.time new) (key_of m s))) → StepsTo g dev u v old new
  page_steps new v touches key size capacity cached opened stands = record {
    touches = touches;
    key = are.key v ∙ key ∙ sym (are.key u);
    setting = alike.setting u v size capacity cached;
    «open» = subst (λ (k : Key). IsOpenAt (dev.opened new) k (g.extent v)) (key ∙ sym (are.key u)) (subst (λ (n : ℕ). IsOpenAt (dev.opened new) (pages.key_of (shown v)) n) (sym (alike.extent v)) opened);
    stands = λ t. are.is_stands v _ (subst (λ (k : Key). Stands seal (shown v) (disk (dev.time new) k)) (sym (over.opened_list.key s u held)) (stands t));
  }

  module _ (n : Sections F (PageBlob S gs)) (mid : D) where
    -- it was taken out with no call
    pub taken_same : (b : PageBlob S gs) → Takes g gives dev m s n old mid (Ok b) → (mid ≡ old) × (b ≡ u)
    taken_same b takes = (takes.untouched here, takes.same u held)

    -- it was not taken
    pub touched_none : {T : Type 0} (e x : Error) → Takes g gives dev m s n old mid (Err e) → Touches g gives dev.Tells {T = T} (Err x) s m n (dev.opened old) (dev.opened mid) (dev.time old) (dev.time mid)
    touched_none e x takes = (let lent = lent_none g gives dev m s n old mid e takes in record {
      over = lent.over;
      others = lent.others;
      bounds = lent.bounds;
      entries = lent.touches.entries;
      blobs = lent.touches.blobs;
      held = tt;
      lost = inr (takes.refused, ap dev.time (takes.untouched here));
    })

  module _ (n : Sections F (PageBlob S gs)) (takes : Takes g gives dev m s n old old (Ok u)) (new : D) where
    -- its buffer is gone
    pub touched_out : {T : Type 0} (o : Sections F (PageBlob S gs)) (x : Error) → OnlyTouches dev (g.key u) old new → ((q : ℕ) → IsSame n o q) → SameBounds n o
        → Touches g gives dev.Tells {T = T} (Err x) s m o (dev.opened old) (dev.opened new) (dev.time old) (dev.time new)
    touched_out o x step same bounds = (let lent = lent_out g gives dev m s n old old u takes new step o same bounds in record {
      over = lent.over;
      others = lent.others;
      bounds = lent.bounds;
      entries = lent.touches.entries;
      blobs = lent.touches.blobs;
      held = tt;
      lost = inl ((same s).held ∙ takes.out, subst IsSome (sym ((same s).unopened ∙ takes.known)) refl);
    })

    -- it was put back
    pub touched_back : {T : Type 0} (o : Sections F (PageBlob S gs)) (y : T) (v : PageBlob S gs) → StepsTo g dev u v old new → IsPut s v n o
        → Touches g gives dev.Tells {T = T} (Ok y) s m o (dev.opened old) (dev.opened new) (dev.time old) (dev.time new)
    touched_back o y v step put = (let lent = lent_back g gives dev m s n old old u takes new v o (over.opened_list.to_ceiling s here) step put in record {
      over = lent.over;
      others = lent.others;
      bounds = lent.bounds;
      entries = lent.touches.entries;
      blobs = lent.touches.blobs;
      held = subst IsSome (sym put.here) refl;
      lost = tt;
    })

  -- it may be put back
  pub may_put : (n : Sections F (PageBlob S gs)) (mid : D) (b v : PageBlob S gs) → Takes g gives dev m s n old mid (Ok b) → pages.key_of (shown v) ≡ pages.key_of (shown b) → PutsBack g n s v
  may_put n mid b v takes key = puts_back g gives dev m s n old mid b takes (over.opened_list.from_floor s (inl here)) (over.opened_list.to_ceiling s here) v (are.key v ∙ key ∙ sym (are.key b))

-- ---- a cut to bytes of its sealed prefix
module _ {F S D : Type 0} (T : Type 0) {gs : _} (seal : List ℕ → ℕ) (g : buffer.Ghosts (PageBlob S gs)) (gives : F → Setting) (are : ArePages g seal) (alike : AreAlike g) (dev : device.Ghosts D)
    (s n : ℕ) (w v : Walk F (PageBlob S gs)) (rest : OnlySections w v) (u : PageBlob S gs) (held : w.journal.sections.held s ≡ Some u) (old : D) (over : IsOver g gives dev.Tells w.journal.sections (dev.opened old) (disk (dev.time old)))
    (settled : u.settled ≡ size_of (shown u)) (within : n ≤ size_of (shown u)) (long : dev.Tells → n ≤ length (sealed_prefix seal u.page_size (disk (dev.time old) (key_of w.journal.sections s)).content)) where
  abbrev m : Sections F (PageBlob S gs)
  m = w.journal.sections

  abbrev K : Key
  K = key_of w.journal.sections s

  key : pages.key_of (shown u) ≡ K
  key = own_key seal g gives are alike dev m s u held old over

  stands : dev.Tells → Stands seal (shown u) (disk (dev.time old) K)
  stands = own_stands seal g gives are alike dev m s u held old over

  -- what holds of the buffer holds of each that the section may have
  of_held : (P : PageBlob S gs → Type 0) → P u → (x : PageBlob S gs) → w.journal.sections.held s ≡ Some x → P x
  of_held P has x at = subst P (sym (same_some (w.journal.sections.held s) u x held at)) has

  -- it could not be taken
  pub cut_untaken : (r : Result T Error) (e : Error) (mid : D) → r ≡ Err e → v.ended ≡ true → Takes g gives dev m s v.journal.sections old mid (Err e) → CutsBack g gives seal dev s w v old mid r n
  cut_untaken r e mid is ended takes = rw is record {
    rest = rest;
    going = tt;
    ended = ended;
    touches = touched_none seal g gives are alike dev m s u held old over v.journal.sections mid e e takes;
    cut = tt;
    moments = λ t. of_held (λ x. Sealing seal x.page_size (sealed_prefix seal x.page_size (disk (dev.time old) K).content) n K (dev.time old) (dev.time mid))
        (subst (λ (d : D). Sealing seal u.page_size (sealed_prefix seal u.page_size (disk (dev.time old) K).content) n K (dev.time old) (dev.time d)) (sym (takes.untouched (subst IsSome (sym held) refl)))
        (no_cut_moments seal u K (dev.time old) n settled (stands t) (long t)));
    reads = tt;
    faults = takes.faults;
    damaged = λ t k bad. (let none = takes.held_cause (subst IsSome (sym held) refl) in cc (none, bad));
    cause = (let none = takes.held_cause (subst IsSome (sym held) refl) in inr (inl (cc none)));
  }

  module _ (k : Sections F (PageBlob S gs)) (takes : Takes g gives dev m s k old old (Ok u)) (new : D) where
    module _ (q : Result (PageBlob S gs) RError) (step : Truncates dev seal (shown u) old new shown n q) where
      step_touches : OnlyTouches dev (g.key u) old new
      step_touches = page_touches seal g gives are alike dev m s u held old over new step.entries.others step.alone

      step_moments : dev.Tells → (x : PageBlob S gs) → w.journal.sections.held s ≡ Some x → Sealing seal x.page_size (sealed_prefix seal x.page_size (disk (dev.time old) K).content) n K (dev.time old) (dev.time new)
      step_moments t = of_held (λ x. Sealing seal x.page_size (sealed_prefix seal x.page_size (disk (dev.time old) K).content) n K (dev.time old) (dev.time new))
          (cut_moved seal u u refl K (dev.time old) (dev.time old) refl key (dev.time new) n settled within (stands t).adopted (long t) (step.crashes t) (step.recovering t))

    -- the cut failed
    pub cut_failed_here : (r : Result T Error) (raw : RError) → r ≡ Err (raised raw) → v.ended ≡ true → Truncates dev seal (shown u) old new (shown {S = S} {g = gs}) n (Err raw) → ((q : ℕ) → IsSame k v.journal.sections q) → SameBounds k v.journal.sections
        → CutsBack g gives seal dev s w v old new r n
    cut_failed_here r raw is ended step same bounds = rw is record {
      rest = rest;
      going = tt;
      ended = ended;
      touches = touched_out seal g gives are alike dev m s u held old over k takes new v.journal.sections (raised raw) (step_touches (Err raw) step) same bounds;
      cut = tt;
      moments = step_moments (Err raw) step;
      reads = tt;
      faults = step.faults;
      damaged = λ t p bad. (let page : raw ≡ InvalidChecksum p = runtime_of raw (InvalidChecksum p) (cc bad) in
          sound_page (Err raw) p _ (step.whole t (safe_cut seal (shown u) n (disk (dev.time old) (pages.key_of (shown u))) (own_adopted seal g gives are alike dev m s u held old over t)
          (subst (λ (x : Key). n ≤ length (sealed_prefix seal u.page_size (disk (dev.time old) x).content)) (sym key) (long t)))) (cc page));
      cause = raised_cut raw (raised raw) refl _ _ _ (omega arith) step.cause;
    }

    module _ (x : PageBlob S gs) (step : Truncates dev seal (shown u) old new shown n (Ok x)) where
      cut_here : IsCutBack seal dev.Tells u (disk (dev.time old) K) x (disk (dev.time new) K) n
      cut_here = cut_at seal dev.Tells u x K (dev.time old) (dev.time new) key n settled within step.page_size step.size step.settled (λ past. (step.same past, ap dev.time (step.unchanged past)))
          (λ t. subst (λ (q : Key). Stands seal (shown u) (disk (dev.time old) q)) (sym key) (stands t)) step.rests
          (λ t. subst (λ (q : Key). n ≤ length (sealed_prefix seal u.page_size (disk (dev.time old) q).content)) (sym key) (long t)) step.sealed step.recovered step.prefix_again step.again

      -- the buffer could not be put back
      pub cut_refused_here : (r : Result T Error) (e : Error) → r ≡ Err e → v.ended ≡ true → ((q : ℕ) → IsSame k v.journal.sections q) → SameBounds k v.journal.sections → e ≡ Mem → CutsBack g gives seal dev s w v old new r n
      cut_refused_here r e is ended same bounds none = rw is record {
        rest = rest;
        going = tt;
        ended = ended;
        touches = touched_out seal g gives are alike dev m s u held old over k takes new v.journal.sections e (step_touches (Ok x) step) same bounds;
        cut = tt;
        moments = step_moments (Ok x) step;
        reads = tt;
        faults = step.faults;
        damaged = λ t p bad. cc (none, bad);
        cause = inr (inl (ap Err none));
      }

      -- it was cut
      pub cut_done_here : (y : T) → v.ended ≡ false → IsPut s x k v.journal.sections → CutsBack g gives seal dev s w v old new (Ok y) n
      cut_done_here y going put = record {
        rest = rest;
        going = going;
        ended = tt;
        touches = touched_back seal g gives are alike dev m s u held old over k takes new v.journal.sections y x
            (page_steps seal g gives are alike dev m s u held old over new x (step_touches (Ok x) step) step.key step.page_size step.capacity step.cache_pages step.«open»
            (λ t. cut_stands seal u x K (dev.time old) (dev.time new) key n t (stands t) settled cut_here (step.rests t) (λ past. ap dev.time (step.unchanged past)))) put;
        cut = λ a b at at_b. subst (λ (c : PageBlob S gs). IsCutBack seal dev.Tells a (disk (dev.time old) K) c (disk (dev.time new) K) n) (sym (same_some (v.journal.sections.held s) x b put.here at_b))
            (of_held (λ c. IsCutBack seal dev.Tells c (disk (dev.time old) K) x (disk (dev.time new) K) n) cut_here a at);
        moments = step_moments (Ok x) step;
        reads = few_reads 1 (pages.key_of (shown u)) K (dev.opened old) (dev.opened old) (dev.opened new) key refl step.entries;
        faults = step.faults;
        damaged = λ t p bad. cc bad;
        cause = tt;
      }

  -- ---- the same of what was taken out
  module _ (k : Sections F (PageBlob S gs)) (mid : D) (b : PageBlob S gs) (takes : Takes g gives dev m s k old mid (Ok b)) (new : D) (len : ℕ) (counts : len ≡ n) where
    same : (mid ≡ old) × (b ≡ u)
    same = taken_same seal g gives are alike dev m s u held old over k mid b takes

    takes_here : Takes g gives dev m s k old old (Ok u)
    takes_here = subst (λ (x : PageBlob S gs). Takes g gives dev m s k old old (Ok x)) same.1 (subst (λ (d : D). Takes g gives dev m s k old d (Ok b)) same.0 takes)

    step_here : (q : Result (PageBlob S gs) RError) → Truncates dev seal (shown b) mid new shown len q → Truncates dev seal (shown u) old new shown n q
    step_here q step = subst (λ (l : ℕ). Truncates dev seal (shown u) old new shown l q) counts (subst (λ (x : PageBlob S gs). Truncates dev seal (shown x) old new shown len q) same.1 (subst (λ (d : D). Truncates dev seal (shown b) d new shown len q) same.0 step))

    pub cut_failed : (r : Result T Error) (raw : RError) → r ≡ Err (raised raw) → v.ended ≡ true → Truncates dev seal (shown b) mid new (shown {S = S} {g = gs}) len (Err raw) → ((q : ℕ) → IsSame k v.journal.sections q) → SameBounds k v.journal.sections
        → CutsBack g gives seal dev s w v old new r n
    cut_failed r raw is ended step alike_sections bounds = cut_failed_here k takes_here new r raw is ended (step_here (Err raw) step) alike_sections bounds

    pub cut_refused : (x : PageBlob S gs) → Truncates dev seal (shown b) mid new shown len (Ok x) → (r : Result T Error) (e : Error) → r ≡ Err e → v.ended ≡ true → ((q : ℕ) → IsSame k v.journal.sections q) → SameBounds k v.journal.sections → e ≡ Mem
        → CutsBack g gives seal dev s w v old new r n
    cut_refused x step r e is ended alike_sections bounds none = cut_refused_here k takes_here new x (step_here (Ok x) step) r e is ended alike_sections bounds none

    pub cut_done : (x : PageBlob S gs) → Truncates dev seal (shown b) mid new shown len (Ok x) → (y : T) → v.ended ≡ false → IsPut s x k v.journal.sections → CutsBack g gives seal dev s w v old new (Ok y) n
    cut_done x step y going put = cut_done_here k takes_here new x (step_here (Ok x) step) y going put
