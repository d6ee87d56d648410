-- How an opening of a fixed journal up to a section ends.
use Rattle.std.specs.Prelude.{◌≡◌, ◌≢◌, ◌⊎◌, ◌↔◌, ℕ, ◌%◌, ◌^◌, ◌<◌, ◌≤◌, Bool, false, List, [], Option, None, Some, Result, Ok, Err, IsTrue, IsSome}
use Rattle.std.specs.BTreeMap.{BTreeMap}
use Rattle.std.specs.Result.{IsErrOf}
use Rattle.std.proofs.Common.{inl, inr, refl, sym, ◌∙◌, ap, subst, arith}
use Rattle.blob_device.specs.Disk.{Key}
use Rattle.blob_device.specs.Timeline.{disk, Always, Each}
use Rattle.blob_device.specs.declared.device.Device as device
use Rattle.sealed_pages.specs.Reading.{Unchanged}
use Rattle.sealed_pages.specs.declared.page_blob.PageBlob.{PageBlob}
use Rattle.sealed_pages.specs.declared.pages.Pages.{Pages}
use Rattle.section_manager.specs.Lasting.{IsSettling}
use Rattle.section_manager.specs.Refusing.{HasFailed, IsForeign}
use Rattle.section_manager.specs.Sections.{Sections, section_key, IsHeld, IsOver}
use Rattle.section_manager.specs.Setting.{Setting}
use Rattle.section_manager.specs.declared.buffer.SectionBuffer as buffer
use Rattle.section_manager.specs.declared.journal.Error.{Error}
use Rattle.section_manager.specs.declared.journal.Error.TheVariants.{InvalidBlobName, Mem}
use Rattle.section_manager.specs.declared.sealed.AppendFactory.{AppendFactory}
use Rattle.section_manager.specs.declared.unopened.Unopened.TheVariants.{Section, Leftover}
use Rattle.sealed_pages.specs.lemmas.looking.Looking.{unchanged_start}
use Rattle.section_manager.specs.lemmas.Init.{settling_start}
use Rattle.segments.specs.lemmas.adding.Write.{ArePages}
use Rattle.segments.specs.FixedLists.{Lists, floor_in, section_size}
use Rattle.segments.specs.FixedOpens.{Opens}
use Rattle.segments.proofs.opened.OpenLemmas.{no_floor, above_ceiling, opened_cause, opened_journal, opened_bytes}
use Rattle.blob_device.proofs.general.Numbers.{no_rest}

none_of : {T : Type 0} (o : Option T) → (IsSome o → ⊥) → o ≡ None
none_of None never = refl
none_of (Some v) never = absurd (never refl)

module _ {S D : Type 0} {gs : _} (g : buffer.Ghosts (PageBlob S gs)) (gives : AppendFactory S → Setting) (seal : List ℕ → ℕ) (size : ℕ) (place : List ℕ) (pages : Pages) (capacity most : ℕ) (dev : device.Ghosts D) where
  -- there was no memory for the partition's name
  pub opens_none : (r : Result (Lists (AppendFactory S) (PageBlob S gs)) Error) (old : D) → r ≡ Err Mem → Opens g gives seal size place pages capacity most dev r old old
  opens_none r old is = subst (λ (x : Result (Lists (AppendFactory S) (PageBlob S gs)) Error). Opens g gives seal size place pages capacity most dev x old old) (sym is) (record {
    over = tt;
    held = λ t. tt;
    unopened = λ t. tt;
    no_leftover = tt;
    later = tt;
    unbounded = λ big. tt;
    bytes = λ t. tt;
    unrecovered = tt;
    floors = tt;
    idle = tt;
    partition = tt;
    pages = tt;
    write_buffer = tt;
    floor = tt;
    ceiling = tt;
    moments = λ t. settling_start place most (dev.time old);
    foreign = λ t name bad. tt;
    foreign_disk = λ t name bad. unchanged_start (dev.time old);
    foreign_entries = λ t name bad. refl;
    name_entries = λ n at. refl;
    named = λ t n at. absurd (cc at);
    entries = λ q never. refl;
    faults = omega arith;
    cause = inr (inl refl);
  })

module _ {S D : Type 0} {gs : _} (g : buffer.Ghosts (PageBlob S gs)) (gives : AppendFactory S → Setting) (seal : List ℕ → ℕ) (size : ℕ) (place : List ℕ) (f : AppendFactory S) (most : ℕ) (dev : device.Ghosts D) where
  -- of the manager that was opened, and of a configuration
  abbrev pub Opened : Result (Lists (AppendFactory S) (PageBlob S gs)) Error → D → D → Type 0
  Opened r old new = Opens g gives seal size place f.pages f.write_buffer most dev r old new

  -- its sections were not opened
  pub opens_failed : {U : Type 0} (r : Result (Lists (AppendFactory S) (PageBlob S gs)) Error) (e : Error) (old new : D) → r ≡ Err e
      → (dev.Tells → Always (dev.time old) (dev.time new) (Each (IsSettling place most (disk (dev.time old)))))
      → (dev.Tells → (name : List ℕ) → IsForeign (disk (dev.time old)) place name → Unchanged (dev.time old) (dev.time new))
      → (dev.Tells → (name : List ℕ) → IsForeign (disk (dev.time old)) place name → dev.opened new ≡ dev.opened old)
      → ((n : List ℕ) → IsErrOf {T = U} (Err e) (InvalidBlobName n) → dev.opened new ≡ dev.opened old)
      → (dev.Tells → (n : List ℕ) → IsErrOf {T = U} (Err e) (InvalidBlobName n) → IsForeign (disk (dev.time old)) place n)
      → ((q : Key) → ((s : ℕ) → s ≤ most → q ≢ section_key place s) → dev.opened new q ≡ dev.opened old q)
      → dev.faults old ≤ dev.faults new
      → ((n : List ℕ) × IsErrOf {T = U} (Err e) (InvalidBlobName n)) ⊎ HasFailed {T = U} (Err e) (dev.faults old) (dev.faults new)
      → Opened r old new
  opens_failed {U = U} r e old new is moments untouched unopened entries named others faults cause =
      subst (λ (x : Result (Lists (AppendFactory S) (PageBlob S gs)) Error). Opened x old new) (sym is) (record {
        over = tt;
        held = λ t. tt;
        unopened = λ t. tt;
        no_leftover = tt;
        later = tt;
        unbounded = λ big. tt;
        bytes = λ t. tt;
        unrecovered = tt;
        floors = tt;
        idle = tt;
        partition = tt;
        pages = tt;
        write_buffer = tt;
        floor = tt;
        ceiling = tt;
        moments = moments;
        foreign = λ t name bad. tt;
        foreign_disk = untouched;
        foreign_entries = unopened;
        name_entries = λ n at. entries n (cc at);
        named = λ t n at. named t n (cc at);
        entries = others;
        faults = faults;
        cause = opened_cause {T = U} e (Err e) (dev.faults old) (dev.faults new) refl cause;
      })

  -- they were opened
  module _ (m : Sections (AppendFactory S) (PageBlob S gs)) (old new : D) (over : IsOver g gives dev.Tells m (dev.opened new) (disk (dev.time new)))
      (moments : dev.Tells → Always (dev.time old) (dev.time new) (Each (IsSettling place most (disk (dev.time old)))))
      (never : dev.Tells → (name : List ℕ) → IsForeign (disk (dev.time old)) place name → ⊥)
      (others : (q : Key) → ((s : ℕ) → s ≤ most → q ≢ section_key place s) → dev.opened new q ≡ dev.opened old q) (faults : dev.faults old ≤ dev.faults new) where
    -- but there was no memory for what is kept beside them
    pub opens_memory : (r : Result (Lists (AppendFactory S) (PageBlob S gs)) Error) → r ≡ Err Mem → Opened r old new
    opens_memory r is = subst (λ (x : Result (Lists (AppendFactory S) (PageBlob S gs)) Error). Opened x old new) (sym is) (record {
      over = tt;
      held = λ t. tt;
      unopened = λ t. tt;
      no_leftover = tt;
      later = tt;
      unbounded = λ big. tt;
      bytes = λ t. tt;
      unrecovered = tt;
      floors = tt;
      idle = tt;
      partition = tt;
      pages = tt;
      write_buffer = tt;
      floor = tt;
      ceiling = tt;
      moments = moments;
      foreign = λ t name bad. absurd (never t name bad);
      foreign_disk = λ t name bad. absurd (never t name bad);
      foreign_entries = λ t name bad. absurd (never t name bad);
      name_entries = λ n at. absurd (cc at);
      named = λ t n at. absurd (cc at);
      entries = others;
      faults = faults;
      cause = inr (inl refl);
    })

    pub opens_ok : (are : ArePages g seal)
        → (held : dev.Tells → (s : ℕ) → s < 2 ^ 64 → IsHeld m s ↔ (IsTrue (disk (dev.time old) (section_key place s)).there × (s ≤ most)))
        → (unopened : dev.Tells → (s : ℕ) → s < 2 ^ 64 → (m.unopened s ≡ Some Section) ↔ (IsTrue (disk (dev.time old) (section_key place s)).there × (most < s)))
        → (no_leftover : (s : ℕ) → m.unopened s ≢ Some Leftover) → (later : (s : ℕ) → IsSome (m.unopened s) → most < s)
        → (bytes : dev.Tells → (s : ℕ) (u : PageBlob S gs) → m.held s ≡ Some u
        → g.bytes u (disk (dev.time new) (section_key place s)).content ≡ g.holds (gives f) (disk (dev.time old) (section_key place s)).content)
        → (idle : (s : ℕ) (u : PageBlob S gs) → m.held s ≡ Some u → g.unsettled u ≡ false)
        → m.partition ≡ place → m.factory ≡ f → m.floor ≡ 0 → m.ceiling ≡ most
        → (has : ℕ → Bool) (floors : BTreeMap ℕ ℕ) → floors.entries ≡ [] → ((s : ℕ) → IsTrue (has s) ↔ (floor_in floors s < section_size m s))
        → Opened (Ok (record { sections = m; unrecovered = has; floor_of = floor_in floors })) old new
    opens_ok are held unopened no_leftover later bytes idle partition factory floor ceiling has floors empty filled = record {
      over = opened_journal seal size dev.Tells g are gives m (dev.opened new) (disk (dev.time new)) over has (floor_in floors) idle filled
          (λ s. omega (arith, none s)) (λ s. ap (λ (n : ℕ). n % size) (none s) ∙ no_rest size)
          (λ t. above_ceiling seal size dev.Tells g are gives m (dev.opened new) (disk (dev.time new)) over (λ s. IsTrue (disk (dev.time old) (section_key place s)).there) no_leftover most ceiling (unopened t));
      held = held;
      unopened = unopened;
      no_leftover = no_leftover;
      later = later;
      unbounded = λ big s. none_of (m.unopened s) (λ some. omega (arith, big, later s some, over.opened_list.number s (inr some)));
      bytes = λ t. opened_bytes seal size dev.Tells g are gives m (dev.opened new) (disk (dev.time new)) over place f (disk (dev.time old)) partition factory (bytes t);
      unrecovered = λ s. subst (λ (n : ℕ). IsTrue (has s) ↔ (n < section_size m s)) (none s) (filled s);
      floors = none;
      idle = idle;
      partition = partition;
      pages = ap (λ (x : AppendFactory S). x.pages) factory;
      write_buffer = ap (λ (x : AppendFactory S). x.write_buffer) factory;
      floor = floor;
      ceiling = ceiling;
      moments = moments;
      foreign = λ t name bad. absurd (never t name bad);
      foreign_disk = λ t name bad. absurd (never t name bad);
      foreign_entries = λ t name bad. absurd (never t name bad);
      name_entries = λ n at. absurd (cc at);
      named = λ t n at. absurd (cc at);
      entries = others;
      faults = faults;
      cause = tt;
    }
      where
        none : (s : ℕ) → floor_in floors s ≡ 0
        none = no_floor floors empty

-- as the configuration has them
module _ {S D : Type 0} {gs : _} (g : buffer.Ghosts (PageBlob S gs)) (gives : AppendFactory S → Setting) (seal : List ℕ → ℕ) (size most : ℕ) (dev : device.Ghosts D)
    (r : Result (Lists (AppendFactory S) (PageBlob S gs)) Error) (old new : D) where
  pub opens_as : (p place : List ℕ) (f : AppendFactory S) (pages : Pages) (capacity : ℕ) → p ≡ place → f.pages ≡ pages → f.write_buffer ≡ capacity
      → Opens g gives seal size p f.pages f.write_buffer most dev r old new → Opens g gives seal size place pages capacity most dev r old new
  opens_as p place f pages capacity named paged filled has = subst (λ (x : List ℕ). Opens g gives seal size x pages capacity most dev r old new) named
      (subst (λ (x : Pages). Opens g gives seal size p x capacity most dev r old new) paged
      (subst (λ (x : ℕ). Opens g gives seal size p f.pages x most dev r old new) filled has))
