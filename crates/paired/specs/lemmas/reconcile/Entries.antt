-- The replay at its end, from what the calls before say.
use Rattle.std.proofs.Common.{◌≡◌, ℕ, ◌≤◌, true, List, refl}
use Rattle.blob_device.specs.Disk.{Disk}
use Rattle.blob_device.specs.Opened.{OpenedList}
use Rattle.sealed_pages.specs.declared.page_blob.PageBlob.{PageBlob}
use Rattle.section_manager.specs.declared.buffer.SectionBuffer as buffer
use Rattle.section_manager.specs.declared.unsealed.WriteFactory.{WriteFactory}
use Rattle.section_manager.specs.Setting.{Setting}
use Rattle.segments.specs.FixedReplay.{IsDrained}
use Rattle.meta_store.specs.lemmas.Uses.{IsReadable}
use Rattle.paired.specs.lemmas.Glob.{buffers}
use Rattle.paired.specs.lemmas.pair.Synced.{Here, page_setting}
use Rattle.paired.specs.lemmas.reconcile.Start.{Drained}
use Rattle.segments.specs.lemmas.adding.Write.{ArePages}
use Rattle.value_codec.specs.Keys.{key8_one}
use Rattle.value_codec.specs.SpellingLaws.{u64_one_value}
use Rattle.value_codec.specs.declared.seal.Seal as seal
use Rattle.paired.specs.ReplayShown.{run_of}
use Rattle.paired.specs.Replaying.{Run, HasFailed, IsRun, pair_of}
use Rattle.paired.specs.sighted.Shown.{marker_format}
use Rattle.paired.specs.declared.oversized.replaying.Replay.{Replay}

pub run_here : {I V S C : Type 0} {fixed codec seal : _} (place : List ℕ → ℕ × ℕ) (r : Replay I V S C fixed codec seal) → 1 ≤ fixed.SIZE → Here page_setting (pair_of (run_of place r))
run_here place r pos = record { index = refl; values = refl; store = refl; page_size = refl; some = pos; marked = refl }

-- markers are read in one way
pub markers_readable : {S : Type 0} (sealing : seal.Ghosts S) → IsReadable (marker_format sealing)
markers_readable sealing = record { size = 8; sized = λ k. k.whole; one_key = key8_one; one_value = λ v w. u64_one_value v w }

pub drained_from : {F S : Type 0} {gs : _} {g : buffer.Ghosts (PageBlob S gs)} {gives : F → Setting} {takes : WriteFactory → Setting} {told : Type 0} {run : Run F (PageBlob S gs)} {o : OpenedList} {d : Disk}
    → ArePages g run.layout.seal → Here gives (pair_of run) → IsRun run g gives buffers takes told o d → run.tracked ≡ true → (HasFailed run → ⊥) → IsDrained run.walk → Drained g gives takes told run o d
drained_from pages here over tracked unfailed drained = record { pages = pages; here = here; over = over; tracked = tracked; unfailed = unfailed; drained = drained }
