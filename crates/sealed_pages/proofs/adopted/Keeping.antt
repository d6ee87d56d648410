-- The steps of the first flush after adopting, at each moment.
use Rattle.std.proofs.Common.{zero, suc, cond, ◌≡◌, ◌≢◌, inl, inr, ℕ, Ok, Result, ◌+◌, ◌*◌, ◌<◌, ◌≤◌, Bool, false, List, length, refl, sym, ◌∙◌, ap, subst, arith}
use Rattle.std.proofs.lemmas.Bool.{cases_order, eq-eqb}
use Rattle.blob_device.specs.declared.error.DevError.{DevError}
use Rattle.blob_device.specs.Disk.{Key, Blob}
use Rattle.blob_device.specs.Change.{Change, Write, Resize, Settle, written, resized}
use Rattle.blob_device.specs.Timeline.{Timeline, disk, Passes}
use Rattle.blob_device.specs.lemmas.Moments.{ok_blob, only_start}
use Rattle.sealed_pages.specs.ChanceSeal.{Leaves, Sealing}
use Rattle.sealed_pages.specs.Flushing.{next_slot, no_slot, Data, Sound, Covers, Held, Stands, Ready, KeptContent, Kept, IsClean}
use Rattle.sealed_pages.specs.Slots.{named_length, slot_length}
use Rattle.sealed_pages.specs.View.{view, page_at, slot_at}
use Rattle.blob_device.specs.Guards.{Avoids, Makes}
use Rattle.blob_device.specs.lemmas.Guards.{sealed_after, sealed_on, sealed_start}
use Rattle.sealed_pages.specs.lemmas.Had.{had_settled}
use Rattle.sealed_pages.specs.lemmas.adopted.Repairing.{behind_below, cleared_below, repaired_quiet}
use Rattle.sealed_pages.specs.lemmas.slots.PageCalls.{only_weaker}
use Rattle.sealed_pages.specs.lemmas.slots.SealedBytes.{stands_leaves}
use Rattle.sealed_pages.specs.lemmas.slots.Slot.{page_apart, page_next, slot_length-le, slot_same, slot_stands, zero_named}
use Rattle.sealed_pages.specs.lemmas.slots.SlotSteps.{held_slot, settled_stands, slot_data_kept, slot_is, slot_kept}
use Rattle.sealed_pages.specs.lemmas.slots.Steps.{below_sound, named_same, slot_high}
use Rattle.blob_device.specs.Lengths.{length-resized, length-written}
use Rattle.blob_device.specs.Places.{resized_below}
use Rattle.blob_device.proofs.general.Numbers.{times_more}

module _ (seal : List ℕ → ℕ) (P : ℕ) (bytes : List ℕ) (F : ℕ) (σ : ℕ → Bool) where
  kept_sound : (c : List ℕ) → KeptContent seal P bytes F σ c → Sound seal P bytes c
  kept_sound c k = below_sound seal P bytes F c k.fits k.below k.same

  before : (j k : ℕ) → F ≤ j * P → k * P < F → k < j
  before j k le lt = elim (cases_order k j) [
    | inl same ↦ absurd (omega (arith, le, lt, ap (λ (x : ℕ). x * P) same))
    | inr (inl less) ↦ less
    | inr (inr more) ↦ absurd (omega (arith, le, lt, times_more j k P more))
  ]

  pub data_cut : (c : List ℕ) (j : ℕ) → F ≤ j * P → Data P bytes F (view c) → Data P bytes F (view (resized c (page_at P j)))
  data_cut c j le same m i lt near = let less = before j m le (omega (arith, near)) in resized_below c (page_at P j) (page_at P m + i) (omega (arith, lt, page_apart P m j less)) ∙ same m i lt near

  pub cut_same : (c : List ℕ) (j m : ℕ) (b : Bool) → page_at P j ≤ length c → m < j → slot_length seal P (resized c (page_at P j)) m b ≡ slot_length seal P c m b
  cut_same c j m b long less =
      let inside : slot_at P m b + 6 ≤ page_at P j = omega (arith, slot_high P m b, page_apart P m j less) in
      slot_same seal P (resized c (page_at P j)) c m b (omega (arith, inside, length-resized c (page_at P j))) (omega (arith, inside, long))
      (λ i near. resized_below c (page_at P j) (slot_at P m b + i) (omega (arith, near, inside)))
      (λ i near short. resized_below c (page_at P j) (page_at P m + i) (omega (arith, short, page_apart P m j less)))

  pub cut_clean : (c : List ℕ) (j m : ℕ) (b : Bool) → page_at P j ≤ length c → m < j → IsClean seal P c m b → IsClean seal P (resized c (page_at P j)) m b
  cut_clean c j m b long less (inl some) = inl (omega (arith, some, cut_same c j m b long less))
  cut_clean c j m b long less (inr none) = inr (named_same seal P (view (resized c (page_at P j))) (view c) m b
      (λ i near. resized_below c (page_at P j) (slot_at P m b + i) (omega (arith, near, slot_high P m b, page_apart P m j less))) ∙ none)

  content_cut : (c : List ℕ) (j : ℕ) → F ≤ j * P → page_at P j ≤ length c → KeptContent seal P bytes F σ c → KeptContent seal P bytes F σ (resized c (page_at P j))
  content_cut c j le long k = record {
    fits = k.fits;
    below = behind_below seal P F c j long k.below;
    same = data_cut c j le k.same;
    covers = λ m lt. omega (arith, cut_same c j m (σ m) long (before j m le lt), k.covers m lt);
  }

  whole_of : (c : List ℕ) (j : ℕ) → 1 ≤ P → Covers seal P c F σ → j * P < F → slot_at P j (σ j) + 6 ≤ length c
  whole_of c j pos covers lt = slot_stands seal P c j (σ j) (omega (arith, covers j lt, lt, pos))

  content_clear : (c : List ℕ) (j : ℕ) (b : Bool) → 1 ≤ P → σ j ≢ b → j * P < F → length c ≤ page_at P (j + 1) → KeptContent seal P bytes F σ c → KeptContent seal P bytes F σ (written c (slot_at P j b) no_slot)
  content_clear c j b pos other inside short k = record {
    fits = k.fits;
    below = cleared_below seal P F c j (σ j) b other (whole_of c j pos k.covers inside) short k.below;
    same = slot_data_kept seal P c j b no_slot refl bytes F k.same;
    covers = λ m lt. omega (arith, slot_kept seal P c j b no_slot refl m (σ m) (λ is e. other (ap σ (sym is) ∙ e)) (whole_of c m pos k.covers lt), k.covers m lt);
  }

  avoids_behind : (w : List ℕ) (j : ℕ) → F ≤ j * P → Avoids (Held seal P w F σ) (Resize (page_at P j))
  avoids_behind w j le i (k, lt, inl slot) = omega (arith, slot.high, slot_high P k (σ k), page_apart P k j (before j k le lt))
  avoids_behind w j le i (k, lt, inr page) = omega (arith, page.high, slot_length-le seal P w k (σ k), page_apart P k j (before j k le lt))

  module _ (pos : 1 ≤ P) (w : List ℕ) (key : Key) (t0 : Timeline) (kept : Kept seal P bytes F w σ (disk t0 key)) where
    call_one : {change : Change} {r : Result (Unit {0}) DevError} {t1 : Timeline} → Passes key change r t0 t1 → Avoids (Held seal P w F σ) change → Makes (Sound seal P bytes) (disk t0 key).content change → Sealing seal P bytes F key t0 t1
    call_one {t1 = t1} passes avoids makes = only_weaker t0 t1 key (disk t0) (Stands seal P bytes w F σ) (Leaves seal P bytes F) (λ x s. stands_leaves seal P w F σ bytes x pos kept.covers s)
        (sealed_on (sealed_start t0 key (Held seal P w F σ) (view w) (Sound seal P bytes) kept.stands) passes avoids makes)

    pub kept_start : Sealing seal P bytes F key t0 t0
    kept_start = only_start t0 key (Leaves seal P bytes F) (stands_leaves seal P w F σ bytes (disk t0 key) pos kept.covers kept.stands)

    pub behind_any : {r : Result (Unit {0}) DevError} {t1 : Timeline} (j : ℕ) → F ≤ j * P → page_at P j ≤ length (disk t0 key).content → Passes key (Resize (page_at P j)) r t0 t1 → Sealing seal P bytes F key t0 t1
    behind_any j le long passes = call_one passes (avoids_behind w j le) (kept_sound _ (content_cut _ j le long kept.content))

    pub behind_ok : {v : Unit {0}} {t1 : Timeline} (j : ℕ) → F ≤ j * P → page_at P j ≤ length (disk t0 key).content → Passes {T = Unit {0}} key (Resize (page_at P j)) (Ok v) t0 t1
        → Kept seal P bytes F w σ (disk t1 key) × (length (disk t1 key).content ≤ page_at P j) × ((k : ℕ) (b : Bool) → k < j → IsClean seal P (disk t0 key).content k b → IsClean seal P (disk t1 key).content k b)
    behind_ok {v = v} {t1 = t1} j le long passes =
        let is : (disk t1 key).content ≡ resized (disk t0 key).content (page_at P j) = ap (λ (b : Blob). b.content) (ok_blob key (Resize (page_at P j)) v t0 t1 passes) in (
          record {
            stands = sealed_after (Held seal P w F σ) (view w) (Sound seal P bytes) key (Resize (page_at P j)) (Ok v) t0 t1 passes kept.stands (avoids_behind w j le) (kept_sound _ (content_cut _ j le long kept.content));
            covers = kept.covers;
            content = subst (KeptContent seal P bytes F σ) (sym is) (content_cut _ j le long kept.content);
          },
          omega (arith, ap length is, length-resized (disk t0 key).content (page_at P j)),
          λ k b less clean. subst (λ (c : List ℕ). IsClean seal P c k b) (sym is) (cut_clean (disk t0 key).content j k b long less clean),
        )

    module _ (j : ℕ) (b : Bool) (other : σ j ≢ b) (inside : j * P < F) (short : length (disk t0 key).content ≤ page_at P (j + 1)) where
      pub clear_any : {r : Result (Unit {0}) DevError} {t1 : Timeline} → Passes key (Write (slot_at P j b) no_slot) r t0 t1 → Sealing seal P bytes F key t0 t1
      clear_any passes = call_one passes
          (held_slot seal P w F σ (disk t0 key) kept.stands.guards j b no_slot refl (λ lt. other)) (kept_sound _ (content_clear _ j b pos other inside short kept.content))

      pub clear_ok : {v : Unit {0}} {t1 : Timeline} → Passes {T = Unit {0}} key (Write (slot_at P j b) no_slot) (Ok v) t0 t1
          → Kept seal P bytes F w σ (disk t1 key) × (IsClean seal P (disk t1 key).content j b) × (length (disk t1 key).content ≤ page_at P (j + 1))
      clear_ok {v = v} {t1 = t1} passes =
          let is : (disk t1 key).content ≡ written (disk t0 key).content (slot_at P j b) no_slot = ap (λ (x : Blob). x.content) (ok_blob key (Write (slot_at P j b) no_slot) v t0 t1 passes) in (
            record {
              stands = sealed_after (Held seal P w F σ) (view w) (Sound seal P bytes) key (Write (slot_at P j b) no_slot) (Ok v) t0 t1 passes kept.stands
                  (held_slot seal P w F σ (disk t0 key) kept.stands.guards j b no_slot refl (λ lt. other)) (kept_sound _ (content_clear _ j b pos other inside short kept.content));
              covers = kept.covers;
              content = subst (KeptContent seal P bytes F σ) (sym is) (content_clear _ j b pos other inside short kept.content);
            },
            inr (subst (λ (c : List ℕ). named_length (view c) (slot_at P j b) ≡ 0) (sym is) (zero_named (view (written (disk t0 key).content (slot_at P j b) no_slot)) (slot_at P j b) zero_is)),
            omega (arith, ap length is, length-written (disk t0 key).content (slot_at P j b) no_slot, short, slot_high P j b, page_next P j),
          )
        where
          zero_is : (i : ℕ) → i < 2 → view (written (disk t0 key).content (slot_at P j b) no_slot) (slot_at P j b + i) ≡ 0
          zero_is zero lt = slot_is seal P (disk t0 key).content j b no_slot refl 0 (omega arith)
          zero_is (suc zero) lt = slot_is seal P (disk t0 key).content j b no_slot refl 1 (omega arith)
          zero_is (suc (suc i)) lt = absurd (omega (arith, lt))

    pub settle_any : {r : Result (Unit {0}) DevError} {t1 : Timeline} → Passes key Settle r t0 t1 → Sealing seal P bytes F key t0 t1
    settle_any passes = call_one passes tt (kept_sound _ kept.content)

    -- once all is removed and settled, the blob is ready for bytes
    pub settle_ready : {v : Unit {0}} {t1 : Timeline} (q : ℕ) (newest : Bool) → Passes {T = Unit {0}} key Settle (Ok v) t0 t1 → length (disk t0 key).content ≤ page_at P q → ((k : ℕ) → F < k * P + P → k < q → k * P ≤ F)
        → ((k : ℕ) (b : Bool) → F < k * P + P → k < q → IsClean seal P (disk t0 key).content k b) → ((k : ℕ) → k * P < F → F < k * P + P → σ k ≡ newest) → Ready seal P bytes F F newest (disk t1 key)
    settle_ready {v = v} {t1 = t1} q newest passes end start clean head = subst (Ready seal P bytes F F newest) (sym (ok_blob key Settle v t0 t1 passes)) (record {
      w = (disk t0 key).content;
      σ = σ;
      τ = σ;
      stands = settled_stands seal P bytes F σ (disk t0 key).content pos kept.content.covers (kept_sound _ kept.content);
      settled = kept.content.covers;
      flushed = record { fits = kept.content.fits; quiet = repaired_quiet seal P F (disk t0 key).content q kept.content.below end start clean; same = kept.content.same; covers = kept.content.covers };
      order = omega arith;
      rest = λ e. refl;
      had = had_settled (disk t0 key).content;
      last = head;
      head = λ k low high. head k low high ∙ sym (ap (λ (t : Bool). cond t newest (next_slot P F newest k)) (eq-eqb F F refl));
    })

pub resize_as : {T : Type 0} {key : Key} {n m : ℕ} {r : Result T DevError} {t0 t1 : Timeline} → n ≡ m → Passes key (Resize n) r t0 t1 → Passes key (Resize m) r t0 t1
resize_as {key = key} {r = r} {t0 = t0} {t1 = t1} e passes = subst (λ (x : ℕ). Passes key (Resize x) r t0 t1) e passes

-- the data after each step
pub cut_data : (P : ℕ) (bytes : List ℕ) (F j : ℕ) (key : Key) (t0 t1 : Timeline) (v : Unit {0}) → F ≤ j * P → Passes {T = Unit {0}} key (Resize (page_at P j)) (Ok v) t0 t1 → Data P bytes F (view (disk t0 key).content) → Data P bytes F (view (disk t1 key).content)
cut_data P bytes F j key t0 t1 v le passes same = subst (λ (b : Blob). Data P bytes F (view b.content)) (sym (ok_blob key (Resize (page_at P j)) v t0 t1 passes)) (data_cut (λ x. 0) P bytes F (λ k. false) (disk t0 key).content j le same)

pub clear_data : (P : ℕ) (bytes : List ℕ) (F j : ℕ) (b : Bool) (key : Key) (t0 t1 : Timeline) (v : Unit {0}) → Passes {T = Unit {0}} key (Write (slot_at P j b) no_slot) (Ok v) t0 t1 → Data P bytes F (view (disk t0 key).content) → Data P bytes F (view (disk t1 key).content)
clear_data P bytes F j b key t0 t1 v passes same = subst (λ (x : Blob). Data P bytes F (view x.content)) (sym (ok_blob key (Write (slot_at P j b) no_slot) v t0 t1 passes)) (slot_data_kept (λ x. 0) P (disk t0 key).content j b no_slot refl bytes F same)

pub settle_data : (P : ℕ) (bytes : List ℕ) (F : ℕ) (key : Key) (t0 t1 : Timeline) (v : Unit {0}) → Passes {T = Unit {0}} key Settle (Ok v) t0 t1 → Data P bytes F (view (disk t0 key).content) → Data P bytes F (view (disk t1 key).content)
settle_data P bytes F key t0 t1 v passes same = subst (λ (x : Blob). Data P bytes F (view x.content)) (sym (ok_blob key Settle v t0 t1 passes)) same
