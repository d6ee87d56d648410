-- Steps of a pair without markers: of it is said which records are stored.
use Rattle.std.proofs.Common.{◌≡◌, inl, inr, ℕ, ◌^◌, ◌<◌, true, false, List, [], length, Option, Some, IsSome, refl, sym, ◌∙◌, ap, subst, arith, unwrap_or}
use Rattle.std.specs.Prelude.{⊤, take}
use Rattle.std.proofs.lemmas.List.{take_all}
use Rattle.blob_device.specs.Disk.{Key, Blob, Disk, MayLeave, reads}
use Rattle.blob_device.specs.Opened.{OpenedList}
use Rattle.blob_device.specs.Timeline.{Timeline, disk, Always}
use Rattle.blob_device.specs.lemmas.Moments.{always_weaker}
use Rattle.sealed_pages.specs.SealedPrefix.{sealed_prefix}
use Rattle.sealed_pages.specs.declared.page_blob.PageBlob.{PageBlob}
use Rattle.sealed_pages.specs.declared.write_blob.WriteBlob.{WriteBlob}
use Rattle.section_manager.specs.declared.buffer.SectionBuffer as buffer
use Rattle.section_manager.specs.declared.unsealed.WriteFactory.{WriteFactory}
use Rattle.section_manager.specs.Sections.{Sections, section_key}
use Rattle.section_manager.specs.Setting.{Setting}
use Rattle.segments.specs.FixedLists.{Lists}
use Rattle.value_codec.specs.declared.key.Key8.{Key8}
use Rattle.meta_store.specs.lemmas.Uses.{IsReadable}
use Rattle.paired.specs.lemmas.opening.Ends.{any_order}
use Rattle.paired.specs.lemmas.opening.Phases.{IsPhase, none_marked, stored_by}
use Rattle.paired.specs.lemmas.pair.Synced.{unmarked_zero}
use Rattle.paired.specs.lemmas.reconcile.Resting.{Known, known_of, rests_no_chance}
use Rattle.meta_store.specs.Pairs.{empty_map}
use Rattle.meta_store.specs.Store.{Store, contents_of}
use Rattle.paired.specs.Crashes.{IsIndexOf, IsValuesOf}
use Rattle.paired.specs.Kept.{Layout, content_at, stored_records}
use Rattle.paired.specs.Opening.{as_read, Any, MayBeOpened, RecallsBy}
use Rattle.paired.specs.Pair.{AreApart}
use Rattle.paired.specs.Records.{records}
use Rattle.paired.proofs.CutSteps.{cuts_step}
use Rattle.paired.proofs.Ends.{Between, Bounds, CutsTo}
use Rattle.paired.proofs.reconcile.Phases.{index_left}
use Rattle.paired.proofs.Steps.{Step}

-- Wherever records are cut, whatever is owed of a replay: the first records stay.
pub bounds_any : (l : Layout) (u : Store Key8 ℕ) (ends : ℕ → Option ℕ) (d : Disk) → contents_of u ≡ empty_map → ((s p : ℕ) → ends s ≡ Some p → s < 2 ^ 64) → Bounds Any l u ends d
bounds_any l u ends d none small = record {
  order = any_order;
  from = λ s p is. (small s p is, omega (arith, unmarked_zero u.entries s (λ m marked. none_marked (contents_of u) none s m marked)));
  prefixes = λ s p fits is k le few. tt;
}

pub unmarked_records_step : {F S : Type 0} {gs : _} {g : buffer.Ghosts (PageBlob S gs)} {gives : F → Setting} {takes : WriteFactory → Setting} {told : Type 0} {l : Layout} {i : Sections F (PageBlob S gs)} {m : Sections WriteFactory WriteBlob} {u : Store Key8 ℕ} {ends : ℕ → Option ℕ} {o : OpenedList}
    (a : Timeline) (known : Known g gives takes told l i m u o (disk a)) → l.marked ≡ false → IsReadable l.markers → told → AreApart l → ((s p : ℕ) → ends s ≡ Some p → s < 2 ^ 64)
    → ((q : Key) → MayLeave (disk a q) (reads (disk a q))) → (b : Timeline) → Always a b (CutsTo l ends (disk a)) → Step l Any (MayBeOpened l (disk a)) (IsIndexOf l (λ s. IsSome (ends s))) a b
unmarked_records_step {l = l} {u = u} {ends = ends} a known not_marked map_readable t apart small readable b moments =
    cuts_step a known map_readable t apart (bounds_any l u ends (disk a) (known.marks.none not_marked) small) readable b moments

-- Whatever a step does to values, be they cut or removed, sound or not: the records stay.
module _ {F S : Type 0} {gs : _} {g : buffer.Ghosts (PageBlob S gs)} {gives : F → Setting} {takes : WriteFactory → Setting} {told : Type 0} {l : Layout} {i0 : Sections F (PageBlob S gs)} {u : Store Key8 ℕ} {given : ℕ → List (List ℕ)} {May : Type 0}
    (apart : AreApart l) (not_marked : l.marked ≡ false) (t : told) (b : Timeline) (j : Lists F (PageBlob S gs)) (m : Sections WriteFactory WriteBlob) (o : OpenedList) (joint : Between g gives takes told l i0 u given May j m o (disk b)) (c : Timeline)
    (moments : Always b c (λ d. (q : Key) → (IsValuesOf l (λ _. ⊤) q → ⊥) → d q ≡ disk b q)) where
  module _ (may : May) (d : Disk) (same : (q : Key) → (IsValuesOf l (λ _. ⊤) q → ⊥) → d q ≡ disk b q) where
    phase : IsPhase l apart (disk b) d (λ _. true) false
    phase = record {
      readable = λ q own. joint.readable t q;
      no_chance = rests_no_chance joint.rests t;
      others = λ q none. same q (λ values. none (inr (inl (values.0, values.1, refl, values.3))));
    }

    index_stays : (s : ℕ) → d (section_key l.index s) ≡ disk b (section_key l.index s)
    index_stays s = same (section_key l.index s) (λ values. apart.values (ap (λ (k : Key). k.0) values.3))

    first : (s : ℕ) → s < 2 ^ 64 → (left : Option (List ℕ)) → MayLeave (d (section_key l.index s)) left
        → records l.record_size (sealed_prefix l.seal l.page_size (unwrap_or left [])) ≡ take (length (records l.record_size (sealed_prefix l.seal l.page_size (unwrap_or left [])))) (stored_records l (as_read (disk b)) s)
    first s small left leaves =
        let bytes : unwrap_or left [] ≡ content_at (as_read (disk b)) l.index s = index_left (known_of joint.rests) t (joint.bare t may) s small left (subst (λ (x : Blob). MayLeave x left) (index_stays s) leaves) in
        let all : records l.record_size (sealed_prefix l.seal l.page_size (unwrap_or left [])) ≡ stored_records l (as_read (disk b)) s = ap (λ (x : List ℕ). records l.record_size (sealed_prefix l.seal l.page_size x)) bytes in
        all ∙ sym (take_all (length (records l.record_size (sealed_prefix l.seal l.page_size (unwrap_or left [])))) (stored_records l (as_read (disk b)) s) (omega (arith, ap length all)))

    values_recall : RecallsBy l Any (disk b) d
    values_recall = stored_by l apart (disk b) d (λ _. true) false phase not_marked refl (λ s small changed left leaves fresh. first s small left leaves)

  pub unmarked_values_step : Step l Any May (IsValuesOf l (λ _. ⊤)) b c
  unmarked_values_step = record {
    only = moments;
    recalls = λ may. always_weaker b c (λ d. (q : Key) → (IsValuesOf l (λ _. ⊤) q → ⊥) → d q ≡ disk b q) (RecallsBy l Any (disk b)) (λ d same. values_recall may d same) moments;
  }
