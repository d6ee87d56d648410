-- What `next` of a pair's replay promises, as two bundles: of images and lists, and the other clauses.
use Rattle.std.specs.Prelude.{◌≡◌, ◌⊎◌, ℕ, ◌+◌, ◌*◌, ◌^◌, ◌<◌, ◌≤◌, ⊤, true, false, List, length, Option, None, Some, Result, Ok, Err}
use Rattle.blob_device.specs.Disk.{Key}
use Rattle.blob_device.specs.Opened.{OpenedList, reads_of}
use Rattle.blob_device.specs.Timeline.{Timeline, disk, Always, Each}
use Rattle.blob_device.specs.declared.runtime.RError.TheVariants.{InvalidChecksum}
use Rattle.sealed_pages.specs.declared.page_blob.PageBlob.{PageBlob}
use Rattle.value_codec.specs.declared.codec.Error as codec
use Rattle.section_manager.specs.declared.buffer.SectionBuffer as buffer
use Rattle.section_manager.specs.declared.journal.Damage.{Damage}
use Rattle.section_manager.specs.declared.journal.Error.{Error}
use Rattle.section_manager.specs.declared.journal.Error.TheVariants.{ItemOutOfRange, Runtime, Codec, Corruption}
use Rattle.section_manager.specs.declared.unsealed.WriteFactory.{WriteFactory}
use Rattle.section_manager.specs.Refusing.{HasDamage, HasFailed}
use Rattle.section_manager.specs.Sections.{section_key, IsHeld}
use Rattle.section_manager.specs.Setting.{Setting}
use Rattle.segments.specs.FixedReading.{IsBelowFloor, HasNotRead}
use Rattle.segments.specs.FixedReplay.{IsDrained, Replaying, EndsBelow, FindsDamage, kept_bytes}
use Rattle.segments.specs.FixedStepping.{way_of}
use Rattle.meta_store.specs.Store.{contents_of}
use Rattle.paired.specs.Crashes.{IsIndexOf, IsValuesOf, Keeping}
use Rattle.paired.specs.Kept.{kept}
use Rattle.paired.specs.Opening.{as_read, IsLawful, MayBeOpened, RecallsAlone}
use Rattle.paired.specs.OpeningRefusing.{AreSpellings}
use Rattle.paired.specs.Pair.{IsSoundOn, list_of, synced_length, IsSafeOn}
use Rattle.paired.specs.Replaying.{Run, pair_of, HasFailed as HasErred, HasLostNone, marker, records_given, IsDue, IsRun, GivesRecord, LosesRecords, IsCutting, IsUnspelled, LeftAtMost, IsStill, SameRun}
use Rattle.paired.specs.lemmas.Glob.{buffers}

module _ {F S : Type 0} {gs : _} (refusal : List ℕ → Unit {0} → Option codec.Error) (told : Type 0) (run x : Run F (PageBlob S gs)) (a e : Timeline) where
  -- what is kept of the images and the lists, whatever the answer
  pub record Images : Type 0 where
    pub kept : told → run.tracked ≡ true → x.walk.ended ≡ false → (s : ℕ) → s < 2 ^ 64 → kept run.layout (as_read (disk e)) (marker run s) s ≡ kept run.layout (as_read (disk a)) (marker run s) s
    pub given : told → run.tracked ≡ true → x.walk.ended ≡ false → HasLostNone x → (s : ℕ) → records_given x (disk e) s ≡ records_given run (disk a) s
    pub lawful : told → run.tracked ≡ true → x.walk.ended ≡ false → IsLawful run.layout (as_read (disk a)) (contents_of run.store) → IsLawful run.layout (as_read (disk e)) (contents_of run.store)
    pub spelled : told → run.tracked ≡ true → x.walk.ended ≡ false → AreSpellings run.layout refusal (as_read (disk a)) → AreSpellings run.layout refusal (as_read (disk e))
    pub moments : told → run.tracked ≡ true → MayBeOpened run.layout (disk a) → Always a e (RecallsAlone run.layout (IsIndexOf run.layout (λ _. ⊤)) (disk a))
    pub opened : told → run.tracked ≡ true → MayBeOpened run.layout (disk a) → x.walk.ended ≡ false → MayBeOpened run.layout (disk e)
    pub lists : told → run.tracked ≡ false → (s : ℕ) → x.walk.journal.sections.unopened s ≡ None → list_of (pair_of x) (disk e) s ≡ list_of (pair_of run) (disk a) s
    pub sound : told → run.tracked ≡ false → HasLostNone x → IsSoundOn (pair_of run) (disk a) → IsSoundOn (pair_of x) (disk e)
    pub keeps : told → run.tracked ≡ false → HasLostNone run → IsSafeOn (pair_of run) (disk a)
        → Keeping run.layout (list_of (pair_of run) (disk a)) (synced_length (pair_of run)) (λ _. ⊥) (IsIndexOf run.layout (λ _. ⊤)) a e
    pub flushed : told → Always a e (Each (Replaying run.layout.seal run.layout.record_size run.walk (disk a)))
    pub untouched : told → Always a e (λ d. (q : Key) → (IsIndexOf run.layout (IsHeld run.walk.journal.sections) q → ⊥) → d q ≡ disk a q)
    pub still : told → (s : ℕ) → s < 2 ^ 64 → IsStill run (disk a) s → Always a e (λ d. d (section_key run.layout.index s) ≡ disk a (section_key run.layout.index s))
    pub idle : told → ((s : ℕ) → IsStill run (disk a) s) → Always a e (Each (λ q b. b ≡ disk a q))

  -- the other clauses
  pub record Clauses {V : Type 0} (g : buffer.Ghosts (PageBlob S gs)) (gives : F → Setting) (takes : WriteFactory → Setting) (spelling : V → List ℕ) (accepted : V → Unit {0} → Type 0)
      (result : Option (Result (ℕ × ℕ × V) Error)) (before after : OpenedList) (few many : ℕ) : Type 0 where
    pub over : IsRun x g gives buffers takes told after (disk e)
    pub same : SameRun run x
    pub item : told → (s p : ℕ) (v : V) → result ≡ Some (Ok (s, p, v)) → GivesRecord spelling accepted run x (disk a) (disk e) s p v
    pub going : (s p : ℕ) (v : V) → result ≡ Some (Ok (s, p, v)) → (HasErred run → ⊥) → HasErred x → ⊥
    pub none : told → result ≡ None → (s p : ℕ) → IsDue run (disk a) s p → ⊥
    pub drained : result ≡ None → IsDrained x.walk ⊎ (x.walk.ended ≡ true)
    pub whole : result ≡ None → (HasErred run → ⊥) → HasErred x → ⊥
    pub failed : (y : Error) → result ≡ Some (Err y) → HasErred x
    pub stops : told → (y : Error) → result ≡ Some (Err y) → LosesRecords run x (disk a) (disk e)
    pub nearer : (y : Result (ℕ × ℕ × V) Error) → result ≡ Some y → way_of x.walk < way_of run.walk
    pub ends : x.walk.ended ≡ true → (run.walk.ended ≡ true) ⊎ ((y : Error) × (result ≡ Some (Err y)) × ((HasDamage {T = V} (Err y) × (told → ⊥)) ⊎ HasFailed {T = V} (Err y) few many))
    pub ends_cut : x.walk.ended ≡ true → (run.walk.ended ≡ true) ⊎ IsCutting told run (disk a)
    pub images : Images
    pub reads : told → (s n : ℕ) → s < 2 ^ 64 → LeftAtMost run (disk a) s n
        → (m : ℕ) × LeftAtMost x (disk e) s m × (reads_of (after (section_key run.layout.values s)) + m ≤ reads_of (before (section_key run.layout.values s)) + n)
    pub unread : run.tracked ≡ false → (s : ℕ) → reads_of (after (section_key run.layout.values s)) ≤ reads_of (before (section_key run.layout.values s))
    pub entries : (q : Key) → (IsIndexOf run.layout (λ _. ⊤) q ⊎ IsValuesOf run.layout (λ _. ⊤) q → ⊥) → after q ≡ before q
    pub start : told → (p : ℕ) → result ≡ Some (Err (ItemOutOfRange p)) → (p ≡ run.walk.start_position) × (length (kept_bytes run.layout.seal run.layout.record_size run.walk (disk a) run.walk.start_section) < p * run.layout.record_size)
    pub damage : told → (y : Damage) → result ≡ Some (Err (Corruption y)) → EndsBelow run.layout.seal run.layout.record_size run.walk (disk a) y
    pub damaged : told → (k : ℕ) → result ≡ Some (Err (Runtime (InvalidChecksum k))) → FindsDamage run.layout.seal run.layout.record_size run.walk x.walk (disk e) k
    pub refused : told → (y : codec.Error) → result ≡ Some (Err (Codec y)) → IsUnspelled refusal run (disk a) y
    pub complete : told → run.tracked ≡ true → IsLawful run.layout (as_read (disk a)) (contents_of run.store) → AreSpellings run.layout refusal (as_read (disk a)) → (y : Error) → result ≡ Some (Err y) → HasFailed {T = V} (Err y) few many
    pub faults : few ≤ many
    pub cause : (y : Error) → result ≡ Some (Err y) → (y ≡ ItemOutOfRange run.walk.start_position) ⊎ (IsBelowFloor {T = V} (Err y) ⊎ HasNotRead {T = V} (Err y) few many)
