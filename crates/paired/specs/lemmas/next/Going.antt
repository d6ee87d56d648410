-- A replay of a pair after some turns that skipped their records: how it stands, against where it began.
use Rattle.std.specs.Prelude.{◌≡◌, ◌⊎◌, ◌↔◌, ℕ, ◌+◌, ◌^◌, ◌<◌, ◌≤◌, ⊤, Bool, false, Option}
use Rattle.std.proofs.Common.{refl, arith}
use Rattle.blob_device.specs.Disk.{Key}
use Rattle.blob_device.specs.Opened.{OpenedList, reads_of}
use Rattle.blob_device.specs.Timeline.{Timeline, disk}
use Rattle.sealed_pages.specs.declared.page_blob.PageBlob.{PageBlob}
use Rattle.section_manager.specs.declared.buffer.SectionBuffer as buffer
use Rattle.section_manager.specs.declared.unsealed.WriteFactory.{WriteFactory}
use Rattle.section_manager.specs.Sections.{section_key}
use Rattle.section_manager.specs.Setting.{Setting}
use Rattle.segments.specs.FixedReplay.{Walk, IsLeft}
use Rattle.segments.specs.FixedStepping.{way_of}
use Rattle.paired.specs.Crashes.{IsIndexOf, IsValuesOf}
use Rattle.paired.specs.Replaying.{Limits, Run, records_over, records_given, IsDue, IsRun, LeftAtMost}
use Rattle.paired.specs.lemmas.Glob.{buffers}
use Rattle.paired.specs.lemmas.next.Running.{moved}
use Rattle.paired.specs.lemmas.next.Went.{Goes, Went, goes_start, went_start}

module _ {F S : Type 0} {gs : _} (g : buffer.Ghosts (PageBlob S gs)) (gives : F → Setting) (takes : WriteFactory → Setting) (told : Type 0) (run : Run F (PageBlob S gs)) (before : OpenedList) (a : Timeline) (few : ℕ) where
  -- The walk has come to w, and each record on the way was skipped.
  pub record Running (w : Walk F (PageBlob S gs)) (ends : Limits) (ended : Option ℕ) (failed : Bool) (opened : OpenedList) (b : Timeline) (count : ℕ) : Type 0 where
    pub went : Went run.layout.seal run.layout.record_size g told run.walk w a b
    pub goes : Goes run.layout.seal run.layout.record_size g told run.walk w a b
    pub over : IsRun (moved run w ends ended failed) g gives buffers takes told opened (disk b)
    pub nearer : way_of w ≤ way_of run.walk
    pub same_failed : failed ≡ run.failed
    pub same_ended : ended ≡ run.ended_section
    pub due : told → (t q : ℕ) → IsDue (moved run w ends ended failed) (disk b) t q ↔ IsDue run (disk a) t q
    pub left : told → (t q : ℕ) → IsLeft run.layout.seal run.layout.record_size w (disk b) t q → IsLeft run.layout.seal run.layout.record_size run.walk (disk a) t q
    pub records : told → (t : ℕ) → records_over (moved run w ends ended failed) (disk b) t ≡ records_over run (disk a) t
    pub given : told → (t : ℕ) → records_given (moved run w ends ended failed) (disk b) t ≡ records_given run (disk a) t
    pub reads : told → (s n : ℕ) → s < 2 ^ 64 → LeftAtMost run (disk a) s n
        → (m : ℕ) × LeftAtMost (moved run w ends ended failed) (disk b) s m × (reads_of (opened (section_key run.layout.values s)) + m ≤ reads_of (before (section_key run.layout.values s)) + n)
    pub unread : run.tracked ≡ false → (s : ℕ) → opened (section_key run.layout.values s) ≡ before (section_key run.layout.values s)
    pub entries : (q : Key) → (IsIndexOf run.layout (λ _. ⊤) q ⊎ IsValuesOf run.layout (λ _. ⊤) q → ⊥) → opened q ≡ before q
    pub faults : few ≤ count

  pub running_start : IsRun run g gives buffers takes told before (disk a) → Running run.walk run.ends run.ended_section run.failed before a few
  running_start was = record {
    went = went_start run.layout.seal run.layout.record_size g told run.walk a;
    goes = goes_start run.layout.seal run.layout.record_size g told run.walk a;
    over = was;
    nearer = omega arith;
    same_failed = refl;
    same_ended = refl;
    due = λ t s q. (λ is. is, λ is. is);
    left = λ t s q is. is;
    records = λ t s. refl;
    given = λ t s. refl;
    reads = λ t s n small most. (n, most, omega arith);
    unread = λ untracked s. refl;
    entries = λ q not. refl;
    faults = omega arith;
  }
