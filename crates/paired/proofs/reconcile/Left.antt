-- The stages of the end of an opening, one behind another, and what they leave together, also where one fails.
use Rattle.std.proofs.Common.{◌≡◌, inl, inr, ℕ, zero, suc, ◌<◌, ◌≤◌, None, refl, sym, ◌∙◌, ap, subst, arith}
use Rattle.std.specs.Prelude.{⊤, is_some}
use Rattle.blob_device.specs.Disk.{Key, Disk}
use Rattle.blob_device.specs.Timeline.{Timeline, disk, Always}
use Rattle.blob_device.specs.lemmas.Moments.{always_then, always_weaker, always_now}
use Rattle.sealed_pages.specs.declared.page_blob.PageBlob.{PageBlob}
use Rattle.sealed_pages.specs.Reading.{Unchanged}
use Rattle.section_manager.specs.Sections.{IsHeld}
use Rattle.meta_store.specs.Blobs.{blob_of, other_side}
use Rattle.paired.specs.Crashes.{IsBlobOf, IsCopy, IsIndexOf, IsOwn, IsValuesOf, InOrder}
use Rattle.paired.specs.Opening.{MayBeOpened, Same, Recalls, RecallsAlone}
use Rattle.paired.specs.Pair.{AreApart}
use Rattle.paired.specs.Replaying.{Run, IsAllKept, IsClean}
use Rattle.section_manager.specs.lemmas.Keys.{key_injective}
use Rattle.paired.specs.lemmas.opening.Ends.{same_order}
use Rattle.paired.proofs.Steps.{Stay, stay_fewer, both_always, Step, no_step, step_then, step_wider, order_fewer, FirstKinds, LaterKinds, Ascends, ascend_start, ascend_then}
use Rattle.blob_device.proofs.general.Options.{none_or_value}

module _ {F S : Type 0} {gs : _} (run : Run F (PageBlob S gs)) where
  abbrev pub newer : Key
  newer = blob_of run.layout.metadata (other_side run.store.older)

  abbrev pub HeldValues : Key → Type 0
  HeldValues = IsValuesOf run.layout (IsHeld run.walk.journal.sections)

  abbrev pub OtherValues : Key → Type 0
  OtherValues = IsValuesOf run.layout (λ s. run.walk.journal.sections.held s ≡ None)

  -- the kinds of blobs, in the order of the stages
  abbrev pub Kind : ℕ → Key → Type 0
  Kind zero = IsIndexOf run.layout (λ _. ⊤)
  Kind (suc zero) = HeldValues
  Kind (suc (suc zero)) = OtherValues
  Kind (suc (suc (suc zero))) = IsCopy run.layout
  Kind (suc (suc (suc (suc k)))) = λ q. ⊥

  -- a blob of no section that was clean at the start, where not all was kept
  pub record IsDirty (start : Disk) (q : Key) : Type 0 where
    pub section : (s : ℕ) → IsClean run start s → IsBlobOf run.layout (λ t. t ≡ s) q → ⊥
    pub some : IsAllKept run start → ⊥

  -- A stage touches blobs of one kind alone, and none that is clean.
  abbrev pub Stage : ℕ → Disk → Timeline → Timeline → Type 0
  Stage k start = Step run.layout Same (MayBeOpened run.layout start) (λ q. Kind k q × IsDirty start q)

  pub no_stage : (k : ℕ) (start : Disk) (b : Timeline) → Stage k start b b
  no_stage k start = no_step run.layout Same (MayBeOpened run.layout start) same_order (λ q. Kind k q × IsDirty start q)

  -- what the stages leave together
  pub record Left (a f : Timeline) : Type 0 where
    pub moments : MayBeOpened run.layout (disk a) → Always a f (RecallsAlone run.layout (IsOwn run.layout (λ _. ⊤)) (disk a))
    pub untouched : Stay (λ q. IsOwn run.layout (λ _. ⊤) q → ⊥) a f
    pub order : InOrder (IsIndexOf run.layout (λ _. ⊤)) (IsValuesOf run.layout (λ _. ⊤)) a f
    pub orphans_last : InOrder HeldValues OtherValues a f
    pub markers_last : InOrder (IsBlobOf run.layout (λ _. ⊤)) (IsCopy run.layout) a f
    pub newer_stays : Always a f (λ d. d newer ≡ disk a newer)
    pub clean : (s : ℕ) → IsClean run (disk a) s → Stay (IsBlobOf run.layout (λ t. t ≡ s)) a f
    pub idle : IsAllKept run (disk a) → Unchanged a f

  module _ (apart : AreApart run.layout) where
    index_no_values : (P Q : ℕ → Type 0) (q : Key) → IsIndexOf run.layout P q → IsValuesOf run.layout Q q → ⊥
    index_no_values P Q q is values = apart.values (ap (λ (k : Key). k.0) (sym is.3 ∙ values.3))

    index_no_copy : (P : ℕ → Type 0) (q : Key) → IsIndexOf run.layout P q → IsCopy run.layout q → ⊥
    index_no_copy P q is copy = apart.metadata (ap (λ (k : Key). k.0) (sym is.3 ∙ copy.1))

    values_no_copy : (P : ℕ → Type 0) (q : Key) → IsValuesOf run.layout P q → IsCopy run.layout q → ⊥
    values_no_copy P q is copy = apart.both (ap (λ (k : Key). k.0) (sym is.3 ∙ copy.1))

    held_no_other : (q : Key) → HeldValues q → OtherValues q → ⊥
    held_no_other q is other = (let same = key_injective run.layout.values is.0 other.0 is.1 other.1 (sym is.3 ∙ other.3) in
        absurd (cc (subst (λ (s : ℕ). run.walk.journal.sections.held s ≡ None) (sym same) other.2, is.2)))

    kinds_apart : (i j : ℕ) (q : Key) → i < j → Kind i q → Kind j q → ⊥
    kinds_apart i zero q lt first second = omega (arith, lt)
    kinds_apart zero (suc zero) q lt first second = index_no_values (λ _. ⊤) (IsHeld run.walk.journal.sections) q first second
    kinds_apart (suc i) (suc zero) q lt first second = omega (arith, lt)
    kinds_apart zero (suc (suc zero)) q lt first second = index_no_values (λ _. ⊤) (λ s. run.walk.journal.sections.held s ≡ None) q first second
    kinds_apart (suc zero) (suc (suc zero)) q lt first second = held_no_other q first second
    kinds_apart (suc (suc i)) (suc (suc zero)) q lt first second = omega (arith, lt)
    kinds_apart zero (suc (suc (suc zero))) q lt first second = index_no_copy (λ _. ⊤) q first second
    kinds_apart (suc zero) (suc (suc (suc zero))) q lt first second = values_no_copy (IsHeld run.walk.journal.sections) q first second
    kinds_apart (suc (suc zero)) (suc (suc (suc zero))) q lt first second = values_no_copy (λ s. run.walk.journal.sections.held s ≡ None) q first second
    kinds_apart (suc (suc (suc i))) (suc (suc (suc zero))) q lt first second = omega (arith, lt)
    kinds_apart i (suc (suc (suc (suc j)))) q lt first second = second

    kind_own : (k : ℕ) (q : Key) → Kind k q → IsOwn run.layout (λ _. ⊤) q
    kind_own zero q is = inl is
    kind_own (suc zero) q is = inr (inl (is.0, is.1, tt, is.3))
    kind_own (suc (suc zero)) q is = inr (inl (is.0, is.1, tt, is.3))
    kind_own (suc (suc (suc zero))) q is = inr (inr is)
    kind_own (suc (suc (suc (suc k)))) q is = absurd is

    values_kind : (q : Key) → IsValuesOf run.layout (λ _. ⊤) q → LaterKinds Kind 0 q
    values_kind q is = elim (none_or_value (run.walk.journal.sections.held is.0)) [
      | inl none ↦ (2, omega arith, (is.0, is.1, none, is.3))
      | inr some ↦ (1, omega arith, (is.0, is.1, ap is_some some.1, is.3))
    ]

    blob_kind : (q : Key) → IsBlobOf run.layout (λ _. ⊤) q → FirstKinds Kind 2 q
    blob_kind q (inl is) = (0, omega arith, is)
    blob_kind q (inr is) = elim (none_or_value (run.walk.journal.sections.held is.0)) [
      | inl none ↦ (2, omega arith, (is.0, is.1, none, is.3))
      | inr some ↦ (1, omega arith, (is.0, is.1, ap is_some some.1, is.3))
    ]

    -- ---- the stages so far, the last of the kind k
    pub record Stages (start : Disk) (k : ℕ) (a f : Timeline) : Type 0 where
      pub step : Step run.layout Same (MayBeOpened run.layout start) (λ q. IsOwn run.layout (λ _. ⊤) q × IsDirty start q) a f
      pub ascends : Ascends Kind k a f

    pub no_stages : (start : Disk) (a : Timeline) → Stages start 0 a a
    no_stages start a = record {
      step = no_step run.layout Same (MayBeOpened run.layout start) same_order (λ q. IsOwn run.layout (λ _. ⊤) q × IsDirty start q) a;
      ascends = ascend_start Kind 0 a;
    }

    pub stages_then : (start : Disk) (k m : ℕ) (a b c : Timeline) → k ≤ m → Stages start k a b → Stage m start b c → Stages start m a c
    stages_then start k m a b c le first more = record {
      step = step_then run.layout Same (MayBeOpened run.layout start) same_order (λ q. IsOwn run.layout (λ _. ⊤) q × IsDirty start q) a b c first.step
          (step_wider run.layout Same (MayBeOpened run.layout start) (λ q. Kind m q × IsDirty start q) (λ q. IsOwn run.layout (λ _. ⊤) q × IsDirty start q) b c (λ q is. (kind_own m q is.0, is.1)) more);
      ascends = ascend_then Kind kinds_apart k m a b c le first.ascends (stay_fewer (λ q. Kind m q × IsDirty start q → ⊥) (λ q. Kind m q → ⊥) b c (λ q none is. none is.0) more.only);
    }

    pub left_by : (k : ℕ) (a f : Timeline) → Stages (disk a) k a f → Always a f (λ d. d newer ≡ disk a newer) → Left a f
    left_by k a f all stays =
        let IsTouched : Key → Type 0 = λ q. IsOwn run.layout (λ _. ⊤) q × IsDirty (disk a) q in
        record {
          moments = λ may. always_weaker a f (λ d. Recalls run.layout (disk a) d × ((q : Key) → (IsTouched q → ⊥) → d q ≡ disk a q)) (RecallsAlone run.layout (IsOwn run.layout (λ _. ⊤)) (disk a))
              (λ d is. record { recalls = is.0; others = λ q none. is.1 q (λ touched. none touched.0) })
              (both_always a f (Recalls run.layout (disk a)) (λ d. (q : Key) → (IsTouched q → ⊥) → d q ≡ disk a q) (all.step.recalls may) all.step.only);
          untouched = stay_fewer (λ q. IsTouched q → ⊥) (λ q. IsOwn run.layout (λ _. ⊤) q → ⊥) a f (λ q none touched. none touched.0) all.step.only;
          order = order_fewer (FirstKinds Kind 0) (LaterKinds Kind 0) (IsIndexOf run.layout (λ _. ⊤)) (IsValuesOf run.layout (λ _. ⊤)) a f (λ q is. (0, omega arith, is)) values_kind (all.ascends.orders 0);
          orphans_last = order_fewer (FirstKinds Kind 1) (LaterKinds Kind 1) HeldValues OtherValues a f (λ q is. (1, omega arith, is)) (λ q is. (2, omega arith, is)) (all.ascends.orders 1);
          markers_last = order_fewer (FirstKinds Kind 2) (LaterKinds Kind 2) (IsBlobOf run.layout (λ _. ⊤)) (IsCopy run.layout) a f blob_kind (λ q is. (3, omega arith, is)) (all.ascends.orders 2);
          newer_stays = stays;
          clean = λ s is. stay_fewer (λ q. IsTouched q → ⊥) (IsBlobOf run.layout (λ t. t ≡ s)) a f (λ q own touched. touched.1.section s is own) all.step.only;
          idle = λ is. always_weaker a f (λ d. (q : Key) → (IsTouched q → ⊥) → d q ≡ disk a q) (λ d. d ≡ disk a) (λ d same i q. same q (λ touched. touched.1.some is) i) all.step.only;
        }

    copies_stay : (start : Disk) (a e : Timeline) → Stages start 2 a e → Stay (IsCopy run.layout) a e
    copies_stay start a e all = stay_fewer (LaterKinds Kind 2) (IsCopy run.layout) a e (λ q is. (3, omega arith, is)) all.ascends.later

    three_stages : (a b c e : Timeline) → Stage 0 (disk a) a b → Stage 1 (disk a) b c → Stage 2 (disk a) c e → Stages (disk a) 2 a e
    three_stages a b c e first second third = stages_then (disk a) 1 2 a c e (omega arith)
        (stages_then (disk a) 0 1 a b c (omega arith) (stages_then (disk a) 0 0 a a b (omega arith) (no_stages (disk a) a) first) second) third

    newer_before : (a e : Timeline) → Stages (disk a) 2 a e → Always a e (λ d. d newer ≡ disk a newer)
    newer_before a e all = always_weaker a e (λ d. (q : Key) → IsCopy run.layout q → d q ≡ disk a q) (λ d. d newer ≡ disk a newer) (λ d same. same newer (other_side run.store.older, refl)) (copies_stay (disk a) a e all)

    pub left_of : (a b c e f : Timeline) → Stage 0 (disk a) a b → Stage 1 (disk a) b c → Stage 2 (disk a) c e → Stage 3 (disk a) e f → Always e f (λ d. d newer ≡ disk e newer) → Left a f
    left_of a b c e f first second third fourth stays =
        let before = three_stages a b c e first second third in
        left_by 3 a f (stages_then (disk a) 2 3 a e f (omega arith) before fourth)
        (always_then a e f (λ d. d newer ≡ disk a newer) (newer_before a e before)
        (always_weaker e f (λ d. d newer ≡ disk e newer) (λ d. d newer ≡ disk a newer) (λ d same. same ∙ always_now a e (λ x. x newer ≡ disk a newer) (newer_before a e before)) stays))

    -- where the markers were not come to
    pub left_before : (a b c e : Timeline) → Stage 0 (disk a) a b → Stage 1 (disk a) b c → Stage 2 (disk a) c e → Left a e
    left_before a b c e first second third = (let before = three_stages a b c e first second third in left_by 2 a e before (newer_before a e before))
