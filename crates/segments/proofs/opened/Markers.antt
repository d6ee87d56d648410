-- How an opening with markers ends that is refused: by the opening, by a marker, or for want of memory.
use Rattle.std.specs.Prelude.{◌≡◌, ◌≢◌, ◌⊎◌, ℕ, ◌-◌, ◌*◌, ◌<◌, ◌≤◌, List, Option, None, Some, IsSome, IsSomeAnd, Result, Ok, Err, OnErr}
use Rattle.std.specs.Result.{IsErrOf}
use Rattle.std.specs.BTreeMap as tree
use Rattle.std.specs.List.{Contains}
use Rattle.std.specs.Map.{keys_of}
use Rattle.std.specs.Ordering.{nat_cmp}
use Rattle.std.proofs.lemmas.Cmp.{nat_cmp_total, eq_by_cmp_equiv}
use Rattle.std.proofs.lemmas.Map.Views.{Contains-keys_from_lookup, IsSome-lookup_from_Contains}
use Rattle.std.proofs.Common.{refl, sym, ◌∙◌, ap, subst, arith}
use Rattle.blob_device.specs.Disk.{Key}
use Rattle.blob_device.specs.Timeline.{disk, Always, Each}
use Rattle.blob_device.specs.declared.device.Device as device
use Rattle.sealed_pages.specs.Reading.{Unchanged}
use Rattle.sealed_pages.specs.Reads.{IsCovered}
use Rattle.sealed_pages.specs.SealedPrefix.{data_from}
use Rattle.sealed_pages.specs.View.{view}
use Rattle.sealed_pages.specs.declared.page_blob.PageBlob.{PageBlob}
use Rattle.sealed_pages.specs.declared.pages.Pages.{Pages}
use Rattle.value_codec.specs.declared.codec.Error as codec
use Rattle.section_manager.specs.Lasting.{IsSettling}
use Rattle.section_manager.specs.Refusing.{HasFailed, IsForeign}
use Rattle.section_manager.specs.Sections.{Sections, section_key}
use Rattle.section_manager.specs.Setting.{Setting}
use Rattle.section_manager.specs.declared.buffer.SectionBuffer as buffer
use Rattle.section_manager.specs.declared.journal.Damage.{Damage}
use Rattle.section_manager.specs.declared.journal.Error.{Error}
use Rattle.section_manager.specs.declared.journal.Error.TheVariants.{Codec, Corruption, InvalidBlobName, Mem}
use Rattle.section_manager.specs.declared.sealed.AppendFactory.{AppendFactory}
use Rattle.segments.specs.FixedChecks.{ChecksMarker}
use Rattle.segments.specs.FixedFloors.{Floors, IsRefused, KeepsBoundary}
use Rattle.segments.specs.FixedLists.{Lists}
use Rattle.segments.specs.FixedOpens.{Opens}
use Rattle.segments.specs.FixedPreflight.{ChecksFloors}
use Rattle.segments.proofs.opened.FloorLemmas.{Checked, Marks, was_there, marker_refused, marker_codec, none_refused, not_damaged, not_coded}
use Rattle.segments.proofs.held.Passing.{opening_on, checked_on, checked_named, owing_cause, owing_coded}
use Rattle.segments.proofs.opened.Stages.{Stage, stage_read}
use Rattle.blob_device.proofs.general.Numbers.{same_number}
use Rattle.segments.specs.lemmas.held.Passing.{error_back}

-- ---- the sections of which markers were gone over
pub all_taken : (m : tree.BTreeMap ℕ ℕ) (keys : List ℕ) → keys ≡ keys_of m.entries → (s : ℕ) → IsSome (tree.get nat_cmp m s) → Contains keys s
all_taken m keys all s some = subst (λ (x : List ℕ). Contains x s) (sym all) (Contains-keys_from_lookup same_number s m.entries some)

pub none_taken : (m : tree.BTreeMap ℕ ℕ) (keys : List ℕ) → keys ≡ keys_of m.entries → (s : ℕ) → tree.get nat_cmp m s ≡ None → Contains keys s → ⊥
none_taken m keys all s none listed = cc (subst IsSome none (IsSome-lookup_from_Contains (eq_by_cmp_equiv nat_cmp_total) s m.entries (subst (λ (x : List ℕ). Contains x s) all listed)))

module _ {A S D : Type 0} {gs : _} (g : buffer.Ghosts (PageBlob S gs)) (gives : AppendFactory S → Setting) (seal : List ℕ → ℕ) (size : ℕ) (spelling : A → List ℕ) (accepted : A → Unit {0} → Type 0)
    (refusal : List ℕ → Unit {0} → Option codec.Error) (place : List ℕ) (paged : Pages) (capacity most : ℕ) (marks : ℕ → Option ℕ) (dev : device.Ghosts D) (old : D) where
  -- the sections stay as they were where a marker is checked
  pub marker_stage : {U : Type 0} (look : U → Floors A) (sections_of : U → Sections (AppendFactory S) (PageBlob S gs)) (m : Sections (AppendFactory S) (PageBlob S gs)) (f : Floors A) (s n : ℕ) (mid new : D) (q : Result U Error)
      → Stage seal g gives dev place paged capacity most old m mid → ChecksMarker look sections_of f.floor_of f.boundary_of f.target m s seal f.pages.page_size size f.partition spelling accepted refusal dev g gives n mid new q
      → f.partition ≡ m.partition → s ≤ most → (k : Sections (AppendFactory S) (PageBlob S gs)) → k ≡ m → Stage seal g gives dev place paged capacity most old k new
  marker_stage look sections_of m f s n mid new q stage checks own le k same =
      stage_read seal g gives dev place paged capacity most old m k mid new same checks.unchanged checks.over (λ x not. checks.entries x (λ at. not s le (at ∙ ap (λ (p : List ℕ). section_key p s) own))) checks.faults stage

  -- what it makes of the floors, where it is not
  pub marker_taken : {U : Type 0} (look : U → Floors A) (sections_of : U → Sections (AppendFactory S) (PageBlob S gs)) (m : Sections (AppendFactory S) (PageBlob S gs)) (f : Floors A) (s n : ℕ) (mid new : D) (x : U)
      → Stage seal g gives dev place paged capacity most old m mid → f.partition ≡ place
      → ChecksMarker look sections_of f.floor_of f.boundary_of f.target m s seal f.pages.page_size size f.partition spelling accepted refusal dev g gives n mid new (Ok x)
      → (look x).partition ≡ f.partition → (look x).pages ≡ f.pages → (look x).write_buffer ≡ f.write_buffer → (look x).ceiling ≡ f.ceiling
      → Marks seal size spelling accepted dev.Tells place paged capacity most marks (dev.time old) f (look x) s n (dev.time mid)
  marker_taken look sections_of m f s n mid new x stage here checks placed paging buffering bound = record {
    floor = checks.floor;
    fits = checks.fits;
    empty = checks.empty;
    boundary = checks.boundary;
    there = λ t. was_there place most (dev.time old) (dev.time mid) (stage.moments t) s (ap (λ (p : List ℕ). (disk (dev.time mid) (section_key p s)).there) (sym here) ∙ checks.there t);
    floors = checks.floors;
    boundaries = checks.boundaries;
    place = placed;
    paging = paging;
    buffering = buffering;
    bound = bound;
  }

module _ {A S T D : Type 0} {gs : _} (g : buffer.Ghosts (PageBlob S gs)) (gives : AppendFactory S → Setting) (seal : List ℕ → ℕ) (size : ℕ) (spelling : A → List ℕ) (accepted : A → Unit {0} → Type 0)
    (refusal : List ℕ → Unit {0} → Option codec.Error) (place : List ℕ) (paged : Pages) (capacity most : ℕ) (marks : ℕ → Option ℕ) (dev : device.Ghosts D)
    (see : T → Floors A) (journal : T → Lists (AppendFactory S) (PageBlob S gs)) (old : D) where
  -- What an answer other than Ok says.
  pub record Refuses (r : Result T Error) (new : D) : Type 0 where
    pub damage : dev.Tells → (x : Damage) → IsErrOf r (Corruption x) → IsSomeAnd (marks x.section) (λ n. IsRefused seal paged.page_size size (disk (dev.time old) (section_key place x.section)) n x)
    pub first : dev.Tells → (x : Damage) → IsErrOf r (Corruption x) → (s n : ℕ) → s < x.section → marks s ≡ Some n → KeepsBoundary seal paged.page_size size spelling accepted (disk (dev.time old) (section_key place s)) n
    pub refused : dev.Tells → (e : codec.Error) → IsErrOf r (Codec e) → (s n : ℕ) × (marks s ≡ Some n) × (0 < n)
        × (refusal (data_from paged.page_size (view (disk (dev.time old) (section_key place s)).content) ((n - 1) * size) size) tt ≡ Some e)
        × IsCovered seal paged.page_size (disk (dev.time old) (section_key place s)).content ((n - 1) * size) size
        × ((q m : ℕ) → q < s → marks q ≡ Some m → KeepsBoundary seal paged.page_size size spelling accepted (disk (dev.time old) (section_key place q)) m)
    pub moments : dev.Tells → Always (dev.time old) (dev.time new) (Each (IsSettling place most (disk (dev.time old))))
    -- a name that is no section's
    pub unmarked : dev.Tells → (name : List ℕ) → IsForeign (disk (dev.time old)) place name → (x : Damage) → IsErrOf r (Corruption x) → ⊥
    pub uncoded : dev.Tells → (name : List ℕ) → IsForeign (disk (dev.time old)) place name → (e : codec.Error) → IsErrOf r (Codec e) → ⊥
    pub untouched : dev.Tells → (name : List ℕ) → IsForeign (disk (dev.time old)) place name → Unchanged (dev.time old) (dev.time new)
    pub unopened : dev.Tells → (name : List ℕ) → IsForeign (disk (dev.time old)) place name → dev.opened new ≡ dev.opened old
    pub name_entries : (n : List ℕ) → r ≡ Err (InvalidBlobName n) → dev.opened new ≡ dev.opened old
    pub named : dev.Tells → (n : List ℕ) → r ≡ Err (InvalidBlobName n) → IsForeign (disk (dev.time old)) place n
    pub entries : (q : Key) → ((s : ℕ) → s ≤ most → q ≢ section_key place s) → dev.opened new q ≡ dev.opened old q
    pub faults : dev.faults old ≤ dev.faults new
    pub cause : OnErr r (((n : List ℕ) × IsErrOf r (InvalidBlobName n)) ⊎ (((x : Damage) × IsErrOf r (Corruption x)) ⊎ (((e : codec.Error) × IsErrOf r (Codec e)) ⊎ HasFailed r (dev.faults old) (dev.faults new))))

  floors_refused : (r : Result T Error) (e : Error) (new : D) → r ≡ Err e → Refuses r new → ChecksFloors g gives seal size spelling accepted refusal place paged capacity most marks dev see journal r old new
  floors_refused (Ok v) e new is has = absurd (cc is)
  floors_refused (Err x) e new is has = record {
    floors = tt;
    none = tt;
    unmarked = tt;
    empty = tt;
    boundary = λ t. tt;
    there = λ t. tt;
    fits = tt;
    partition = tt;
    pages = tt;
    target = tt;
    write_buffer = tt;
    ceiling = tt;
    over = tt;
    held = λ t. tt;
    unopened = λ t. tt;
    no_leftover = tt;
    later = tt;
    bytes = λ t. tt;
    unrecovered = tt;
    reached = tt;
    idle = tt;
    floor = tt;
    damage = has.damage;
    whole = λ t keeps y bad. none_refused seal size spelling accepted dev.Tells place paged capacity most marks (dev.time old) keeps y (has.damage t y bad);
    first = has.first;
    refused = has.refused;
    moments = has.moments;
    foreign = λ t name bad. (tt, has.unmarked t name bad);
    foreign_items = has.uncoded;
    foreign_disk = has.untouched;
    foreign_entries = has.unopened;
    name_entries = has.name_entries;
    named = has.named;
    entries = has.entries;
    faults = has.faults;
    cause = has.cause;
  }

  module _ (r : Result T Error) (e : Error) (is : r ≡ Err e) where
    -- the opening failed
    pub floors_opening : (new : D) → Opens g gives seal size place paged capacity most dev (Err e) old new → ChecksFloors g gives seal size spelling accepted refusal place paged capacity most marks dev see journal r old new
    floors_opening new o =
        let sound = λ (x : Damage) (bad : IsErrOf r (Corruption x)). not_damaged {T = Lists (AppendFactory S) (PageBlob S gs)} e (dev.faults old) (dev.faults new) o.cause x (cc (is, bad)) in
        let plain = λ (x : codec.Error) (bad : IsErrOf r (Codec x)). not_coded {T = Lists (AppendFactory S) (PageBlob S gs)} e (dev.faults old) (dev.faults new) o.cause x (cc (is, bad)) in
        floors_refused r e new is (record {
          damage = λ t x bad. absurd (sound x bad);
          first = λ t x bad. absurd (sound x bad);
          refused = λ t x bad. absurd (plain x bad);
          moments = o.moments;
          unmarked = λ t name foreign x bad. sound x bad;
          uncoded = λ t name foreign x bad. plain x bad;
          untouched = o.foreign_disk;
          unopened = o.foreign_entries;
          name_entries = λ n bad. o.name_entries n (error_back r e (InvalidBlobName n) is bad);
          named = λ t n bad. o.named t n (error_back r e (InvalidBlobName n) is bad);
          entries = o.entries;
          faults = o.faults;
          cause = opening_on {U = Lists (AppendFactory S) (PageBlob S gs)} r e (dev.faults old) (dev.faults new) is o.cause;
        })

    module _ (m : Sections (AppendFactory S) (PageBlob S gs)) (mid : D) (stage : Stage seal g gives dev place paged capacity most old m mid) where
      -- the last step failed for want of memory, or, where no disk is told, because a section is shorter
      pub floors_owing : {U : Type 0} → (dev.Tells → (x : Damage) → IsErrOf {T = U} (Err e) (Corruption x) → ⊥) → ((x : Damage) × IsErrOf {T = U} (Err e) (Corruption x)) ⊎ IsErrOf {T = U} (Err e) Mem
          → ChecksFloors g gives seal size spelling accepted refusal place paged capacity most marks dev see journal r old mid
      floors_owing {U = U} sound cause =
          let called = owing_cause {U = U} e (dev.faults mid) (dev.faults mid) cause in
          floors_refused r e mid is (record {
            damage = λ t x bad. absurd (sound t x (error_back r e (Corruption x) is bad));
            first = λ t x bad. absurd (sound t x (error_back r e (Corruption x) is bad));
            refused = λ t x bad. absurd (owing_coded {U = U} r e x is cause bad);
            moments = stage.moments;
            unmarked = λ t name bad. absurd (stage.foreign t name bad);
            uncoded = λ t name bad. absurd (stage.foreign t name bad);
            untouched = λ t name bad. absurd (stage.foreign t name bad);
            unopened = λ t name bad. absurd (stage.foreign t name bad);
            name_entries = λ n bad. absurd (checked_named {U = U} r e (dev.faults old) (dev.faults mid) (dev.faults mid) is called n bad);
            named = λ t n bad. absurd (checked_named {U = U} r e (dev.faults old) (dev.faults mid) (dev.faults mid) is called n bad);
            entries = stage.entries;
            faults = stage.faults;
            cause = checked_on {U = U} r e (dev.faults old) (dev.faults mid) (dev.faults mid) is called stage.faults;
          })

  -- ---- a marker is checked
  module _ {U : Type 0} (look : U → Floors A) (sections_of : U → Sections (AppendFactory S) (PageBlob S gs)) (m : Sections (AppendFactory S) (PageBlob S gs)) (f : Floors A) (keys : List ℕ) (s n : ℕ) (named : marks s ≡ Some n) (mid new : D) (q : Result U Error)
      (stage : Stage seal g gives dev place paged capacity most old m mid) (done : Checked seal size spelling accepted dev.Tells place paged capacity most marks (dev.time old) keys f)
      (checks : ChecksMarker look sections_of f.floor_of f.boundary_of f.target m s seal f.pages.page_size size f.partition spelling accepted refusal dev g gives n mid new q) (own : f.partition ≡ m.partition) (le : s ≤ most) where
    -- it is refused
    pub floors_marker : (r : Result T Error) (e : Error) → r ≡ Err e → q ≡ Err e → ((p k : ℕ) → dev.Tells → p < s → marks p ≡ Some k → KeepsBoundary seal paged.page_size size spelling accepted (disk (dev.time old) (section_key place p)) k)
        → ChecksFloors g gives seal size spelling accepted refusal place paged capacity most marks dev see journal r old new
    floors_marker r e is failed before =
        let after = marker_stage g gives seal size spelling accepted refusal place paged capacity most marks dev old look sections_of m f s n mid new q stage checks own le m refl in
        let called = cause_of q e failed checks.cause in
        floors_refused r e new is (record {
          damage = λ t x bad. marker_refused seal size spelling accepted dev.Tells place paged capacity most marks (dev.time old) keys f done s n named (dev.time mid) (stage.moments t) x (checks.damage t x (cc (is, failed, bad)));
          first = λ t x bad p k less at. (let here = checks.damage t x (cc (is, failed, bad)) in before p k t (omega (arith, less, here.0)) at);
          refused = λ t x bad. marker_codec seal size spelling accepted dev.Tells place paged capacity most marks (dev.time old) keys f done s n named (dev.time mid) (stage.moments t) refusal x (checks.refused t x (cc (is, failed, bad)))
              (λ p k less at. before p k t less at);
          moments = after.moments;
          unmarked = λ t name bad. absurd (stage.foreign t name bad);
          uncoded = λ t name bad. absurd (stage.foreign t name bad);
          untouched = λ t name bad. absurd (stage.foreign t name bad);
          unopened = λ t name bad. absurd (stage.foreign t name bad);
          name_entries = λ x bad. absurd (checked_named {U = U} r e (dev.faults old) (dev.faults mid) (dev.faults new) is called x bad);
          named = λ t x bad. absurd (checked_named {U = U} r e (dev.faults old) (dev.faults mid) (dev.faults new) is called x bad);
          entries = after.entries;
          faults = after.faults;
          cause = checked_on {U = U} r e (dev.faults old) (dev.faults mid) (dev.faults new) is called stage.faults;
        })
      where
        cause_of : (x : Result U Error) (y : Error) → x ≡ Err y → OnErr x (((z : Damage) × IsErrOf x (Corruption z)) ⊎ (((z : codec.Error) × IsErrOf x (Codec z)) ⊎ HasFailed x (dev.faults mid) (dev.faults new)))
            → ((z : Damage) × IsErrOf {T = U} (Err y) (Corruption z)) ⊎ (((z : codec.Error) × IsErrOf {T = U} (Err y) (Codec z)) ⊎ HasFailed {T = U} (Err y) (dev.faults mid) (dev.faults new))
        cause_of (Ok v) y at has = absurd (cc at)
        cause_of (Err z) y at has = (let same : z ≡ y = cc at in
            subst (λ (w : Error). ((z : Damage) × IsErrOf {T = U} (Err w) (Corruption z)) ⊎ (((z : codec.Error) × IsErrOf {T = U} (Err w) (Codec z)) ⊎ HasFailed {T = U} (Err w) (dev.faults mid) (dev.faults new))) same has)
