-- What `next` of a pair's replay promises, of what the replay shows before and after it, for each of its answers.
use Rattle.std.specs.Prelude.{◌≡◌, ℕ, ⊤, Bool, true, false, List, [], Option, None}
use Rattle.std.proofs.Common.{inl, inr, refl, sym, ◌∙◌, ap, subst}
use Rattle.blob_device.specs.Disk.{Key, Blob, Disk, MayLeave, reads}
use Rattle.blob_device.specs.Opened.{OpenedList}
use Rattle.blob_device.specs.Timeline.{Timeline, disk}
use Rattle.sealed_pages.specs.declared.page_blob.PageBlob.{PageBlob}
use Rattle.value_codec.specs.declared.codec.Error as codec
use Rattle.section_manager.specs.declared.buffer.SectionBuffer as buffer
use Rattle.section_manager.specs.declared.unsealed.WriteFactory.{WriteFactory}
use Rattle.section_manager.specs.Sections.{section_key, key_of}
use Rattle.section_manager.specs.Setting.{Setting}
use Rattle.segments.specs.FixedReplay.{Walk, IsWalk, kept_of, kept_bytes}
use Rattle.paired.specs.lemmas.Glob.{buffers}
use Rattle.paired.specs.lemmas.next.Running.{moved}
use Rattle.paired.specs.lemmas.next.Went.{Went}
use Rattle.paired.specs.lemmas.pair.Synced.{Here}
use Rattle.segments.specs.lemmas.adding.Write.{ArePages}
use Rattle.meta_store.specs.Store.{contents_of}
use Rattle.paired.specs.Crashes.{IsIndexOf}
use Rattle.paired.specs.glob.Sections as glob
use Rattle.paired.specs.Records.{records}
use Rattle.paired.specs.Replaying.{Limits, Run, pair_of, HasLostNone, marker, records_over, IsRun}
use Rattle.paired.proofs.next.Images.{KeepsIndex, keeps_index, kept_same, lawful_on, spelled_on, opened_on, moments_of, untouched_of, still_of, idle_of, others_end}
use Rattle.paired.proofs.next.Lists.{lists_after, sound_after, keeps_lists}
use Rattle.paired.proofs.next.Running.{records_held}
use Rattle.paired.proofs.next.Went.{none_as}
use Rattle.paired.proofs.pair.Moments.{no_index}
use Rattle.paired.proofs.ReplayLemmas.{Turns, given_stay}
use Rattle.blob_device.proofs.general.Options.{none_or_value, some_there}
use Rattle.paired.specs.lemmas.next.Clauses.{Images}

module _ {F S : Type 0} {gs : _} (g : buffer.Ghosts (PageBlob S gs)) (gives : F → Setting) (takes : WriteFactory → Setting) (told : Type 0) (run : Run F (PageBlob S gs)) (pages : ArePages g run.layout.seal) (refusal : List ℕ → Unit {0} → Option codec.Error)
    (before : OpenedList) (a : Timeline) (here : Here gives (pair_of run)) (was : IsRun run g gives buffers takes told before (disk a)) (readable : told → (q : Key) → MayLeave (disk a q) (reads (disk a q)))
    (w : Walk F (PageBlob S gs)) (opened : OpenedList) (e : Timeline) (went : Went run.layout.seal run.layout.record_size g told run.walk w a e) (walk : IsWalk g gives run.layout.seal run.layout.record_size told w opened (disk e))
    (readable_end : told → (q : Key) → MayLeave (disk e q) (reads (disk e q))) (ends : Limits) (ended : Option ℕ) (failed : Bool) where
  abbrev now : Run F (PageBlob S gs)
  now = moved run w ends ended failed

  keeps_now : told → run.tracked ≡ true → w.ended ≡ false → KeepsIndex run.layout (disk a) (disk e)
  keeps_now t tracked going = keeps_index g gives told run pages before a e here was w went t tracked going

  values_now : told → (s : ℕ) → glob.section_bytes run.values (disk e) s ≡ glob.section_bytes run.values (disk a) s
  values_now t s = ap (λ (b : Blob). glob.bytes_held (run.values.held s) b.content) (others_end g gives told run pages before a e here was w went t (key_of run.values s)
      (λ is. no_index run.layout was.apart.values was.apart.metadata was.apart.both (λ _. ⊤) s (subst (IsIndexOf run.layout (λ _. ⊤)) (ap (λ (p : List ℕ). section_key p s) here.values) is)))

  turned : told → Turns run now w (disk a) (disk e)
  turned t = record { seal = refl; size = refl; place = refl; walk = refl; values = refl; store = refl; tracked = refl; bytes = values_now t }

  records_now : told → HasLostNone now → (s : ℕ) → records_over now (disk e) s ≡ records_over run (disk a) s
  records_now t lost s = elim (none_or_value (w.journal.sections.held s)) [
    | inr z ↦ records_held g gives told run pages before a here was w opened e went walk t (readable_end t) s (some_there (w.journal.sections.held s) z.0 z.1)
    | inl none ↦ ap (records run.layout.record_size) (bare w (disk e) none ∙ sym (bare run.walk (disk a) (none_as (w.journal.sections.held s) (run.walk.journal.sections.held s) none (went.stays s (lost s)).1.1)))
  ]
    where
      bare : (v : Walk F (PageBlob S gs)) (d : Disk) → v.journal.sections.held s ≡ None → kept_bytes run.layout.seal run.layout.record_size v d s ≡ []
      bare v d none = ap (λ (o : Option (PageBlob S gs)). kept_of run.layout.seal (v.journal.unrecovered s) o (d (key_of v.journal.sections s)).content) none

  pub images_now : Images refusal told run now a e
  images_now = record {
    kept = λ t tracked going s small. kept_same run.layout here.some was.apart (disk a) (disk e) (keeps_now t tracked going) (marker run s) s small;
    given = λ t tracked going lost s. given_stay run now w (disk a) (disk e) (turned t) s (records_now t lost s);
    lawful = λ t tracked going lawful. lawful_on run.layout here.some was.apart (disk a) (disk e) (keeps_now t tracked going) (contents_of run.store) lawful;
    spelled = λ t tracked going spelled. spelled_on run.layout here.some was.apart (disk a) (disk e) (keeps_now t tracked going) refusal spelled;
    moments = λ t tracked may. moments_of g gives told run pages before a e here was w went t tracked (readable t) may;
    opened = λ t tracked may going. opened_on run.layout here.some was.apart (disk a) (disk e) (keeps_now t tracked going) (readable t) may;
    lists = λ t untracked s none. lists_after g gives told run pages before a e here was w went t untracked ends ended failed s none;
    sound = λ t untracked lost sound. sound_after g gives told run pages before a e here was w went t untracked ends ended failed lost sound;
    keeps = λ t untracked known sound. keeps_lists g gives told run pages before a e here was w went t untracked ends ended failed known sound;
    flushed = went.moments;
    untouched = λ t. untouched_of g gives told run pages before a e here was w went t;
    still = λ t s small still. still_of g gives told run pages before a e here was w went t s small still;
    idle = λ t still. idle_of g gives told run pages before a e here was w went t still;
  }
