-- An opening that checks its sections goes on in steps. At each the sections are as they were opened, and nothing was
-- written since but what settled them.
use Rattle.std.specs.Prelude.{◌≡◌, ◌≢◌, ℕ, ◌%◌, ◌^◌, ◌<◌, ◌≤◌, List, Option, Result, Ok, Err}
use Rattle.std.proofs.Common.{refl, sym, ◌∙◌, ap, subst, arith}
use Rattle.blob_device.specs.Disk.{Key}
use Rattle.blob_device.specs.Timeline.{disk, Always, Each}
use Rattle.blob_device.specs.declared.device.Device as device
use Rattle.sealed_pages.specs.Reading.{Unchanged}
use Rattle.sealed_pages.specs.declared.page_blob.PageBlob.{PageBlob}
use Rattle.sealed_pages.specs.declared.pages.Pages.{Pages}
use Rattle.sealed_pages.specs.lemmas.looking.Looking.{unchanged_now}
use Rattle.segments.specs.lemmas.adding.Write.{ArePages}
use Rattle.value_codec.specs.declared.codec.Error as codec
use Rattle.section_manager.specs.Lasting.{IsSettling}
use Rattle.section_manager.specs.Refusing.{IsForeign}
use Rattle.section_manager.specs.Sections.{Sections, section_key, key_of, IsOver}
use Rattle.section_manager.specs.Setting.{Setting}
use Rattle.section_manager.specs.declared.buffer.SectionBuffer as buffer
use Rattle.section_manager.specs.declared.journal.Error.{Error}
use Rattle.section_manager.specs.declared.sealed.AppendFactory.{AppendFactory}
use Rattle.segments.specs.FixedCheckpoint.{HasCome, Looks, Checks}
use Rattle.segments.specs.FixedChecks.{AreCheckable}
use Rattle.segments.specs.FixedFloors.{Floors}
use Rattle.segments.specs.FixedLists.{Lists, section_size}
use Rattle.segments.specs.FixedOpens.{Opens}
use Rattle.segments.proofs.checkpoint.Earlier.{Come, come_moved}
use Rattle.segments.proofs.opened.FloorLemmas.{AreOpened, opened_read}
use Rattle.segments.proofs.checkpoint.Found.{reaches}
use Rattle.segments.proofs.checkpoint.Preflights.{adopted_of, held_of, settling_more, looks_at, come_at, checks_looks}

module _ {S D : Type 0} {gs : _} (seal : List ℕ → ℕ) (g : buffer.Ghosts (PageBlob S gs)) (gives : AppendFactory S → Setting) (dev : device.Ghosts D) (p : List ℕ) (paged : Pages) (capacity at : ℕ) (old : D) where
  -- The sections m, at this state of the device.
  pub record Stage (m : Sections (AppendFactory S) (PageBlob S gs)) (now : D) : Type 0 where
    pub opened : AreOpened g gives dev.Tells p at (dev.time old) m (dev.time now) (dev.opened now)
    pub ceiling : m.ceiling ≡ at
    pub paging : m.factory.pages ≡ paged
    pub buffering : m.factory.write_buffer ≡ capacity
    pub moments : dev.Tells → Always (dev.time old) (dev.time now) (Each (IsSettling p at (disk (dev.time old))))
    pub foreign : dev.Tells → (name : List ℕ) → IsForeign (disk (dev.time old)) p name → ⊥
    pub entries : (q : Key) → ((s : ℕ) → s ≤ at → q ≢ section_key p s) → dev.opened now q ≡ dev.opened old q
    pub faults : dev.faults old ≤ dev.faults now

  pub stage_same : (m n : Sections (AppendFactory S) (PageBlob S gs)) (now : D) → n ≡ m → Stage m now → Stage n now
  stage_same m n now is stage = subst (λ (x : Sections (AppendFactory S) (PageBlob S gs)). Stage x now) (sym is) stage

  -- the first one
  pub stage_opened : (size : ℕ) (k : Lists (AppendFactory S) (PageBlob S gs)) (m : Sections (AppendFactory S) (PageBlob S gs)) (now : D) → Opens g gives seal size p paged capacity at dev (Ok k) old now → m ≡ k.sections → Stage m now
  stage_opened size k m now o is = stage_same k.sections m now is (record {
    opened = record {
      over = o.over.over;
      held = o.held;
      unopened = o.unopened;
      no_leftover = o.no_leftover;
      later = o.later;
      bytes = o.bytes;
      idle = o.idle;
      floor = o.floor;
      place = o.partition;
    };
    ceiling = o.ceiling;
    paging = o.pages;
    buffering = o.write_buffer;
    moments = o.moments;
    foreign = λ t name bad. absurd (o.foreign t name bad);
    entries = o.entries;
    faults = o.faults;
  })

  -- the next one, after reads
  pub stage_read : (m n : Sections (AppendFactory S) (PageBlob S gs)) (a b : D) → n ≡ m → (dev.Tells → Unchanged (dev.time a) (dev.time b)) → IsOver g gives dev.Tells m (dev.opened b) (disk (dev.time b))
      → ((q : Key) → ((s : ℕ) → s ≤ at → q ≢ key_of m s) → dev.opened b q ≡ dev.opened a q) → dev.faults a ≤ dev.faults b → Stage m a → Stage n b
  stage_read m n a b is same over entries faults stage = stage_same m n b is (record {
    opened = opened_read g gives dev.Tells p at (dev.time old) m m (dev.time a) (dev.time b) (dev.opened a) (dev.opened b) refl same over stage.opened;
    ceiling = stage.ceiling;
    paging = stage.paging;
    buffering = stage.buffering;
    moments = λ t. settling_more p at (dev.time old) (dev.time a) (dev.time b) (stage.moments t) (same t);
    foreign = stage.foreign;
    entries = λ q not. entries q (λ s le own. not s le (own ∙ ap (λ (x : List ℕ). section_key x s) stage.opened.place)) ∙ stage.entries q not;
    faults = omega (arith, stage.faults, faults);
  })

  module _ (m : Sections (AppendFactory S) (PageBlob S gs)) (now : D) (stage : Stage m now) where
    -- they may be checked
    pub stage_checkable : ArePages g seal → AreCheckable g gives seal dev.Tells m (dev.opened now) (disk (dev.time now))
    stage_checkable are = record {
      floor = stage.opened.floor;
      over = stage.opened.over;
      adopted = adopted_of seal g gives are dev.Tells p at (dev.time old) (dev.time now) (dev.opened now) m stage.opened stage.moments stage.ceiling;
      held = held_of seal g gives are dev.Tells p at (dev.time old) (dev.time now) (dev.opened now) m stage.opened stage.moments stage.ceiling;
    }

    -- a part of the check refuses them
    pub stage_refused : {A T U : Type 0} (size bytes : ℕ) (spelling : A → List ℕ) (accepted : A → Unit {0} → Type 0) (refusal : List ℕ → Unit {0} → Option codec.Error) (r : Result T Error) (e : Error) (Ends : T → Type 0) (Other : U → Type 0) (new : D)
        → r ≡ Err e → bytes % size ≡ 0 → Looks seal m.factory.pages.page_size size m.partition at bytes spelling accepted {T = U} refusal dev (Err e) now new g gives m Other
        → Checks seal paged.page_size size p at bytes spelling accepted refusal dev r old new Ends
    stage_refused size bytes spelling accepted refusal r e Ends Other new is whole looks =
        checks_looks seal paged.page_size size p at bytes spelling accepted refusal dev r e is Ends g gives m old now new Other whole stage.moments stage.foreign stage.entries stage.faults stage.opened.place
        (looks_at seal size at bytes spelling accepted refusal dev g gives m p paged (Err e) now new Other stage.opened.place stage.paging looks)

    module _ {A : Type 0} (size bytes : ℕ) (spelling : A → List ℕ) (accepted : A → Unit {0} → Type 0) (f : Floors A) where
      -- what is known of them, by the configuration
      pub stage_come : (IsNamed : ℕ → Type 0) → Come seal size at spelling accepted dev.Tells m IsNamed m f (disk (dev.time now)) bytes
          → HasCome seal paged.page_size size p at bytes spelling accepted IsNamed dev.Tells m m f (disk (dev.time now))
      stage_come IsNamed come = come_at seal size at bytes spelling accepted dev.Tells IsNamed m f (disk (dev.time now)) p paged stage.opened.place stage.paging come

      -- no section has fewer bytes than its floor
      pub stage_reaches : ArePages g seal → ((h : AppendFactory S) → (gives h).page_size ≡ h.pages.page_size) → at < 2 ^ 64 → 1 ≤ size
          → Come seal size at spelling accepted dev.Tells m (λ s. s ≤ at) m f (disk (dev.time now)) bytes → f.floor_of at ≡ bytes → dev.Tells → (s : ℕ) → f.floor_of s ≤ section_size m s
      stage_reaches are law small pos come end = reaches seal size at bytes spelling accepted g gives are dev.Tells p paged (dev.time old) (dev.time now) (dev.opened now) m f stage.opened stage.moments stage.ceiling
          (law m.factory ∙ ap (λ (x : Pages). x.page_size) stage.paging) small pos (stage_come (λ s. s ≤ at) come) end

-- what a read learned stands of the sections that it left
pub come_read : {A S D : Type 0} {gs : _} (seal : List ℕ → ℕ) (size at : ℕ) (spelling : A → List ℕ) (accepted : A → Unit {0} → Type 0) (dev : device.Ghosts D) (m n : Sections (AppendFactory S) (PageBlob S gs)) (IsNamed : ℕ → Type 0) (f : Floors A) (a b : D) (bytes : ℕ)
    → (dev.Tells → Unchanged (dev.time a) (dev.time b)) → Come seal size at spelling accepted dev.Tells m IsNamed n f (disk (dev.time a)) bytes → Come seal size at spelling accepted dev.Tells n IsNamed n f (disk (dev.time b)) bytes
come_read {S = S} {gs = gs} seal size at spelling accepted dev m n IsNamed f a b bytes same come =
    subst (λ (x : Sections (AppendFactory S) (PageBlob S gs)). Come seal size at spelling accepted dev.Tells x IsNamed n f (disk (dev.time b)) bytes) (sym come.same)
    (come_moved seal size at spelling accepted dev.Tells m n IsNamed f (disk (dev.time a)) (disk (dev.time b)) bytes (λ t. unchanged_now (dev.time a) (dev.time b) (same t)) come)
