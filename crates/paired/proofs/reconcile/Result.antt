-- What the move of the markers makes of the pair at the end of an opening, said of that pair by its own name.
use Rattle.std.proofs.Common.{◌≡◌, ◌⊎◌, inl, inr, ℕ, false, length, Option, Some, Result, Ok, Err, IfOk, sym, ◌∙◌, ap, subst}
use Rattle.std.specs.Prelude.{◌≢◌}
use Rattle.blob_device.specs.Disk.{Key}
use Rattle.blob_device.specs.Opened.{OpenedList}
use Rattle.blob_device.specs.Timeline.{Timeline, disk, Always}
use Rattle.sealed_pages.specs.declared.page_blob.PageBlob.{PageBlob}
use Rattle.sealed_pages.specs.declared.write_blob.WriteBlob.{WriteBlob}
use Rattle.sealed_pages.specs.Reading.{Unchanged}
use Rattle.section_manager.specs.declared.buffer.SectionBuffer as buffer
use Rattle.section_manager.specs.declared.unsealed.WriteFactory.{WriteFactory}
use Rattle.section_manager.specs.Sections.{Sections, IsHeld}
use Rattle.section_manager.specs.Setting.{Setting}
use Rattle.segments.specs.FixedLists.{Lists}
use Rattle.meta_store.specs.Blobs.{blob_of, other_side}
use Rattle.meta_store.specs.lemmas.Uses.{IsReadable}
use Rattle.paired.specs.lemmas.Glob.{buffers}
use Rattle.paired.specs.lemmas.reconcile.Start.{Drained, GaveBack}
use Rattle.paired.specs.Crashes.{IsCopy, Keeping}
use Rattle.paired.specs.glob.Sections.{IsAllSettled}
use Rattle.paired.specs.Kept.{IsMarked, IsSameLayout, marker_of}
use Rattle.paired.specs.OpeningFound.{CountsAll, HasKept}
use Rattle.paired.specs.Pair.{Pair, IsPair, IsSoundOn, IsMoving, list_of, synced_length, IsSafeOn}
use Rattle.paired.specs.Replaying.{Run, marker, records_given}
use Rattle.paired.proofs.reconcile.Left.{Stage, newer}
use Rattle.paired.proofs.reconcile.Pair.{Reconciled, Notes, pair_with, is_pair, length_given, moves, moves_back, counts_of}
use Rattle.paired.proofs.reconcile.Kept.{kept_all}
use Rattle.paired.proofs.reconcile.Marks.{markers_stage}

module _ {F S : Type 0} {gs : _} {g : buffer.Ghosts (PageBlob S gs)} {gives : F → Setting} {takes : WriteFactory → Setting} {told : Type 0} {run : Run F (PageBlob S gs)} {o : OpenedList} (a : Timeline) (e : Drained g gives takes told run o (disk a))
    (j : Lists F (PageBlob S gs)) (n : Sections WriteFactory WriteBlob) (o3 : OpenedList) (f : Timeline) (did : Reconciled g gives takes told run (disk a) j n o3 (disk f)) (trailing : ℕ → Option ℕ) (notes : Notes run j trailing)
    (q : Pair F (PageBlob S gs)) (same : pair_with run j n trailing ≡ q) (IsActive : ℕ → Type 0) (none : (s : ℕ) → IsActive s → ⊥) where
  pub pair_is : IsPair g gives buffers takes told q o3 (disk f)
  pair_is = subst (λ (p : Pair F (PageBlob S gs)). IsPair g gives buffers takes told p o3 (disk f)) same (is_pair a e j n o3 (disk f) did trailing notes)

  moving_as : (s : ℕ) → IsMoving q (λ _. ⊥) IsActive s → IsMoving (pair_with run j n trailing) (λ _. ⊥) IsActive s
  moving_as s = subst (λ (p : Pair F (PageBlob S gs)). IsMoving p (λ _. ⊥) IsActive s) (sym same)

  moving_to : (s : ℕ) → IsMoving (pair_with run j n trailing) (λ _. ⊥) IsActive s → IsMoving q (λ _. ⊥) IsActive s
  moving_to s = subst (λ (p : Pair F (PageBlob S gs)). IsMoving p (λ _. ⊥) IsActive s) same

  -- a marker moves exactly where it is not the number of records
  pub moves_given : told → (s : ℕ) → IsMoving q (λ _. ⊥) IsActive s → marker run s ≢ length (records_given run (disk a) s)
  moves_given t s is same_number = moves a e j n o3 (disk f) did trailing notes IsActive s (moving_as s is) (length_given a e j n o3 (disk f) did trailing notes t s ∙ sym same_number)

  pub given_moves : told → (s : ℕ) → marker run s ≢ length (records_given run (disk a) s) → IsMoving q (λ _. ⊥) IsActive s
  given_moves t s differs = moving_to s (moves_back a e j n o3 (disk f) did trailing notes IsActive none s (λ number. differs (sym number ∙ length_given a e j n o3 (disk f) did trailing notes t s)))

  none_active : (s : ℕ) → IsMoving (pair_with run j n trailing) (λ _. ⊥) IsActive s → IsMoving (pair_with run j n trailing) (λ _. ⊥) (λ _. ⊥) s
  none_active s (small, never, rest) = (small, (λ absent. absent), rest)

  module _ (t : told) (j0 : Lists F (PageBlob S gs)) (back : GaveBack run j0) (map_readable : IsReadable run.layout.markers) (h : Timeline) where
    pub stage_as : Always f h (λ d. (x : Key) → (IsCopy q.layout x → ⊥) → d x ≡ disk f x) → (IsSafeOn q (disk f) → Keeping q.layout (list_of q (disk f)) (synced_length q) (λ _. ⊥) (IsCopy q.layout) f h)
        → ((((s : ℕ) × IsMoving q (λ _. ⊥) IsActive s) → ⊥) → Unchanged f h) → Stage run 3 (disk a) f h
    stage_as alone moments still = markers_stage a e t j0 back j n o3 f did trailing notes map_readable h
        (subst (λ (p : Pair F (PageBlob S gs)). Always f h (λ d. (x : Key) → (IsCopy p.layout x → ⊥) → d x ≡ disk f x)) (sym same) alone)
        (subst (λ (p : Pair F (PageBlob S gs)). IsSafeOn p (disk f) → Keeping p.layout (list_of p (disk f)) (synced_length p) (λ _. ⊥) (IsCopy p.layout) f h) (sym same) moments)
        (λ never. still (λ w. never (w.0, none_active w.0 (moving_as w.0 w.1))))

    pub newer_as : Always f h (λ d. d (blob_of q.layout.metadata (other_side q.store.older)) ≡ disk f (blob_of q.layout.metadata (other_side q.store.older))) → Always f h (λ d. d (newer run) ≡ disk f (newer run))
    newer_as stays = subst (λ (p : Pair F (PageBlob S gs)). Always f h (λ d. d (blob_of p.layout.metadata (other_side p.store.older)) ≡ disk f (blob_of p.layout.metadata (other_side p.store.older)))) (sym same) stays

    -- ---- the answer
    pub kept_result : {T E : Type 0} (r : Result T E) (shows : T → Pair F (PageBlob S gs)) → ((v : T) → (shows v).layout.record_size ≡ run.layout.record_size) → ((x : Key) → (IsCopy q.layout x → ⊥) → disk h x ≡ disk f x)
        → IfOk r (λ v. (shows v).index ≡ q.index) → IfOk r (λ v. (shows v).values ≡ q.values) → IfOk r (λ v. (s : ℕ) → list_of (shows v) (disk h) s ≡ list_of q (disk f) s) → (IsSoundOn q (disk f) → IfOk r (λ v. IsSoundOn (shows v) (disk h)))
        → IfOk r (λ v. HasKept run (disk a) (disk h) (shows v))
    kept_result (Err x) shows sized alone index values lists sound = tt
    kept_result (Ok v) shows sized alone index values lists sound = kept_all a e t j0 back j n o3 (disk f) did trailing notes (shows v) (disk h)
        (λ x not. alone x (λ copy. not (subst (λ (p : Pair F (PageBlob S gs)). IsCopy p.layout x) (sym same) copy)))
        (index ∙ sym (ap (λ (p : Pair F (PageBlob S gs)). p.index) same)) (values ∙ sym (ap (λ (p : Pair F (PageBlob S gs)). p.values) same)) (sized v)
        (λ s. lists s ∙ sym (ap (λ (p : Pair F (PageBlob S gs)). list_of p (disk f) s) same)) (λ is. sound (subst (λ (p : Pair F (PageBlob S gs)). IsSoundOn p (disk f)) same is))

  pub counts_result : {T E : Type 0} (r : Result T E) (shows : T → Pair F (PageBlob S gs)) → ((v : T) → (shows v).layout.record_size ≡ run.layout.record_size)
      → IfOk r (λ v. (shows v).index ≡ q.index) → IfOk r (λ v. (shows v).values ≡ q.values) → IfOk r (λ v. IsSameLayout q.layout (shows v).layout)
      → IfOk r (λ v. (s : ℕ) → synced_length (shows v) s ≡ synced_length q s) → IfOk r (λ v. (s : ℕ) → (IsActive s → ⊥) → marker_of (shows v).store.entries s ≡ synced_length (shows v) s)
      → IfOk r (λ v. (s m : ℕ) → IsMarked (shows v).store.entries s m → IsMarked q.store.entries s m ⊎ ((IsActive s → ⊥) × (m ≡ synced_length (shows v) s) × (m ≢ marker_of q.store.entries s)))
      → ((((s : ℕ) × IsMoving q (λ _. ⊥) IsActive s) → ⊥) → IfOk r (λ v. (shows v).store ≡ q.store)) → IfOk r (λ v. (shows v).store.floor ≡ q.store.floor) → IfOk r (λ v. CountsAll run (shows v))
  counts_result (Err x) shows sized index values layout synced markers marked still floor = tt
  counts_result (Ok v) shows sized index values layout synced markers marked still floor = counts_of a e j n o3 (disk f) did trailing notes (shows v)
      (index ∙ sym (ap (λ (p : Pair F (PageBlob S gs)). p.index) same)) (values ∙ sym (ap (λ (p : Pair F (PageBlob S gs)). p.values) same))
      (subst (λ (p : Pair F (PageBlob S gs)). IsSameLayout p.layout (shows v).layout) (sym same) layout) (sized v)
      (λ s. synced s ∙ sym (ap (λ (p : Pair F (PageBlob S gs)). synced_length p s) same)) (λ s. markers s (none s))
      (λ s m is. elim (subst (λ (p : Pair F (PageBlob S gs)). IsMarked p.store.entries s m ⊎ ((IsActive s → ⊥) × (m ≡ synced_length (shows v) s) × (m ≢ marker_of p.store.entries s))) (sym same) (marked s m is)) [
        | inl old ↦ inl old
        | inr new ↦ inr (new.1, new.2)
      ])
      (λ never. still (λ w. never (w.0, none_active w.0 (moving_as w.0 w.1))) ∙ sym (ap (λ (p : Pair F (PageBlob S gs)). p.store) same))
      (floor ∙ sym (ap (λ (p : Pair F (PageBlob S gs)). p.store.floor) same))

  pub settled_result : {T E : Type 0} (r : Result T E) (shows : T → Pair F (PageBlob S gs)) → IfOk r (λ v. (shows v).values ≡ q.values) → IfOk r (λ v. (s : ℕ) → IsHeld (shows v).values s → IsAllSettled (shows v).values s)
  settled_result (Err x) shows values = tt
  settled_result (Ok v) shows values = subst (λ (m : Sections WriteFactory WriteBlob). (s : ℕ) → IsHeld m s → IsAllSettled m s) (sym (values ∙ sym (ap (λ (p : Pair F (PageBlob S gs)). p.values) same))) did.joint.rests.parts.values_settled

  pub index_result : {T E : Type 0} (r : Result T E) (shows : T → Pair F (PageBlob S gs)) → IfOk r (λ v. (shows v).index ≡ q.index) → IfOk r (λ v. (s : ℕ) (u : PageBlob S gs) → (shows v).index.sections.held s ≡ Some u → g.unsettled u ≡ false)
  index_result (Err x) shows index = tt
  index_result (Ok v) shows index = subst (λ (m : Lists F (PageBlob S gs)). (s : ℕ) (u : PageBlob S gs) → m.sections.held s ≡ Some u → g.unsettled u ≡ false) (sym (index ∙ sym (ap (λ (p : Pair F (PageBlob S gs)). p.index) same))) did.joint.rests.parts.index_settled
