-- The calls of a cut: a change of a settled blob, and a sync.
use Rattle.std.proofs.Common.{◌≡◌, ◌≢◌, ℕ, ◌+◌, ◌*◌, ◌^◌, ◌<◌, ◌≤◌, inl, inr, cond, min, not, Bool, true, false, List, length, take, drop, Result, Ok, refl, sym, ◌∙◌, ap, subst, arith}
use Rattle.blob_device.specs.declared.error.DevError.{DevError}
use Rattle.blob_device.specs.Disk.{Key, Blob, settled_at}
use Rattle.blob_device.specs.Change.{Change, Write, Resize, Settle, written, resized, done}
use Rattle.blob_device.specs.Guards.{Avoids, Makes, Sealed}
use Rattle.blob_device.specs.Timeline.{Timeline, disk, Passes, Always, OnlyAt}
use Rattle.blob_device.specs.lemmas.Guards.{sealed_on, sealed_start}
use Rattle.sealed_pages.specs.lemmas.Reaching.{prefix_sound, rest_leaves, settled_sealed}
use Rattle.sealed_pages.specs.lemmas.adopted.Adopt.{best_covers}
use Rattle.sealed_pages.specs.lemmas.cutting.Cuts.{below_start, cut_sound, short_covers, short_sound, zeros_sound}
use Rattle.sealed_pages.specs.lemmas.slots.PageCalls.{only_then, only_weaker}
use Rattle.sealed_pages.specs.lemmas.slots.SealedBytes.{SoundTo, sealed_leaves}
use Rattle.sealed_pages.specs.lemmas.slots.Slot.{page_apart, slot_length-le}
use Rattle.sealed_pages.specs.lemmas.slots.SlotSteps.{held_slot, length-slot_bytes}
use Rattle.sealed_pages.specs.lemmas.slots.Steps.{slot_high}
use Rattle.blob_device.specs.lemmas.Moments.{ok_blob, only_start}
use Rattle.sealed_pages.specs.ChanceSeal.{Leaves, Sealing}
use Rattle.sealed_pages.specs.Cutting.{StandsSettled}
use Rattle.sealed_pages.specs.Flushing.{with_slot, no_slot, Covers, Held}
use Rattle.sealed_pages.specs.SealedPrefix.{sealed_prefix}
use Rattle.sealed_pages.specs.Slots.{slot_length, page_length, best_slot, slot_bytes}
use Rattle.sealed_pages.specs.View.{view, page_at, slot_at}
use Rattle.sealed_pages.proofs.cutting.Cuts.{resized_take}
use Rattle.std.proofs.lemmas.Bool.{eq-eqb}
use Rattle.sealed_pages.specs.lemmas.cutting.Calls.{sealing_less}

pub settled_after : (key : Key) (change : Change) (v u : Unit {0}) (t0 t1 t2 : Timeline) → Passes {T = Unit {0}} key change (Ok v) t0 t1 → Passes {T = Unit {0}} key Settle (Ok u) t1 t2 → disk t2 key ≡ settled_at (done change (disk t0 key)).content
settled_after key change v u t0 t1 t2 first second = ok_blob key Settle u t1 t2 second ∙ ap (λ (b : Blob). settled_at b.content) (ok_blob key change v t0 t1 first)

module _ (seal : List ℕ → ℕ) (P : ℕ) (pos : 1 ≤ P) (key : Key) (t0 : Timeline) (rest : StandsSettled (disk t0 key)) where
  -- one change that touches nothing held, and a sync
  module _ (bytes : List ℕ) (L : ℕ) (σ : ℕ → Bool) (covers : Covers seal P (disk t0 key).content L σ) (sound : SoundTo seal P bytes (disk t0 key).content) where
    begun : Sealed (Held seal P (disk t0 key).content L σ) (view (disk t0 key).content) (SoundTo seal P bytes) (disk t0 key)
    begun = subst (Sealed (Held seal P (disk t0 key).content L σ) (view (disk t0 key).content) (SoundTo seal P bytes)) (sym rest) (settled_sealed seal P bytes (disk t0 key).content L σ pos covers sound)

    to_leaves : {t : Timeline} → Always t0 t (OnlyAt key (disk t0) (Sealed (Held seal P (disk t0 key).content L σ) (view (disk t0 key).content) (SoundTo seal P bytes))) → Sealing seal P bytes L key t0 t
    to_leaves {t = t} always = only_weaker t0 t key (disk t0) (Sealed (Held seal P (disk t0 key).content L σ) (view (disk t0 key).content) (SoundTo seal P bytes)) (Leaves seal P bytes L)
        (λ x s. sealed_leaves seal P (disk t0 key).content L σ bytes x pos covers s) always

    one : {change : Change} {r : Result (Unit {0}) DevError} {t1 : Timeline} → Passes key change r t0 t1 → Avoids (Held seal P (disk t0 key).content L σ) change → Makes (SoundTo seal P bytes) (disk t0 key).content change
        → Always t0 t1 (OnlyAt key (disk t0) (Sealed (Held seal P (disk t0 key).content L σ) (view (disk t0 key).content) (SoundTo seal P bytes)))
    one passes avoids makes = sealed_on (sealed_start t0 key (Held seal P (disk t0 key).content L σ) (view (disk t0 key).content) (SoundTo seal P bytes) begun) passes avoids makes

    pub call_one : {change : Change} {r : Result (Unit {0}) DevError} {t1 : Timeline} → Passes key change r t0 t1 → Avoids (Held seal P (disk t0 key).content L σ) change → Makes (SoundTo seal P bytes) (disk t0 key).content change → Sealing seal P bytes L key t0 t1
    call_one passes avoids makes = to_leaves (one passes avoids makes)

    pub call_two : {change : Change} {v : Unit {0}} {r : Result (Unit {0}) DevError} {t1 t2 : Timeline} → Passes {T = Unit {0}} key change (Ok v) t0 t1 → Avoids (Held seal P (disk t0 key).content L σ) change → Makes (SoundTo seal P bytes) (disk t0 key).content change
        → SoundTo seal P bytes (done change (disk t0 key)).content → Passes key Settle r t1 t2 → Sealing seal P bytes L key t0 t2
    call_two {change = change} {v = v} {t1 = t1} first avoids makes after second =
        to_leaves (sealed_on (one first avoids makes) second tt (subst (λ (b : Blob). SoundTo seal P bytes b.content) (sym (ok_blob key change v t0 t1 first)) after))

  -- the cut where page j begins
  module _ (j : ℕ) (long : page_at P j ≤ length (disk t0 key).content) where
    low : Covers seal P (disk t0 key).content (min (j * P) (length (sealed_prefix seal P (disk t0 key).content))) (best_slot seal P (disk t0 key).content)
    low k lt = omega (arith, lt, best_covers seal P (disk t0 key).content k (omega (arith, lt)))

    cut_avoids : Avoids (Held seal P (disk t0 key).content (min (j * P) (length (sealed_prefix seal P (disk t0 key).content))) (best_slot seal P (disk t0 key).content)) (Resize (page_at P j))
    cut_avoids i (k, lt, inl slot) = omega (arith, slot.high, slot_high P k (best_slot seal P (disk t0 key).content k), page_apart P k j (below_start P j k (omega (arith, lt))))
    cut_avoids i (k, lt, inr page) = omega (arith, page.high, slot_length-le seal P (disk t0 key).content k (best_slot seal P (disk t0 key).content k), page_apart P k j (below_start P j k (omega (arith, lt))))

    cut_makes : SoundTo seal P (sealed_prefix seal P (disk t0 key).content) (resized (disk t0 key).content (page_at P j))
    cut_makes = subst (SoundTo seal P (sealed_prefix seal P (disk t0 key).content)) (sym (resized_take (disk t0 key).content (page_at P j) long)) (cut_sound seal P (disk t0 key).content j (sealed_prefix seal P (disk t0 key).content) (prefix_sound seal P (disk t0 key).content))

    pub cut_one : {r : Result (Unit {0}) DevError} {t1 : Timeline} → Passes key (Resize (page_at P j)) r t0 t1 → Sealing seal P (sealed_prefix seal P (disk t0 key).content) (min (j * P) (length (sealed_prefix seal P (disk t0 key).content))) key t0 t1
    cut_one passes = call_one (sealed_prefix seal P (disk t0 key).content) (min (j * P) (length (sealed_prefix seal P (disk t0 key).content))) (best_slot seal P (disk t0 key).content) low (prefix_sound seal P (disk t0 key).content) passes cut_avoids cut_makes

    pub cut_two : {v : Unit {0}} {r : Result (Unit {0}) DevError} {t1 t2 : Timeline} → Passes {T = Unit {0}} key (Resize (page_at P j)) (Ok v) t0 t1 → Passes key Settle r t1 t2 → Sealing seal P (sealed_prefix seal P (disk t0 key).content) (min (j * P) (length (sealed_prefix seal P (disk t0 key).content))) key t0 t2
    cut_two first second = call_two (sealed_prefix seal P (disk t0 key).content) (min (j * P) (length (sealed_prefix seal P (disk t0 key).content))) (best_slot seal P (disk t0 key).content) low (prefix_sound seal P (disk t0 key).content) first cut_avoids cut_makes cut_makes second

  -- the shorter slot
  module _ (j : ℕ) (a b : Bool) (page : List ℕ) (fits : (x : List ℕ) → seal x < 2 ^ 32) (small : P < 2 ^ 16) (some : 0 < length page) (own : best_slot seal P (disk t0 key).content j ≡ a) (differ : a ≢ b) (covered : length page ≤ page_length seal P (disk t0 key).content j)
      (last : length (disk t0 key).content ≤ page_at P (j + 1)) (page_is : page ≡ take (length page) (drop (page_at P j) (disk t0 key).content)) where
    all : List ℕ
    all = sealed_prefix seal P (disk t0 key).content

    short_avoids : Avoids (Held seal P (disk t0 key).content (length (sealed_prefix seal P (disk t0 key).content)) (best_slot seal P (disk t0 key).content)) (Write (slot_at P j b) (slot_bytes seal P page))
    short_avoids = held_slot seal P (disk t0 key).content (length (sealed_prefix seal P (disk t0 key).content)) (best_slot seal P (disk t0 key).content) (disk t0 key)
        (begun (sealed_prefix seal P (disk t0 key).content) (length (sealed_prefix seal P (disk t0 key).content)) (best_slot seal P (disk t0 key).content) (best_covers seal P (disk t0 key).content) (prefix_sound seal P (disk t0 key).content)).guards
        j b (slot_bytes seal P page) (length-slot_bytes seal P page) (λ lt e. differ (sym own ∙ e))

    makes : SoundTo seal P (sealed_prefix seal P (disk t0 key).content) (written (disk t0 key).content (slot_at P j b) (slot_bytes seal P page))
    makes = short_sound seal P (disk t0 key).content j a b page fits small pos some own differ covered last page_is

    pub short_one : {r : Result (Unit {0}) DevError} {t1 : Timeline} → Passes key (Write (slot_at P j b) (slot_bytes seal P page)) r t0 t1 → Sealing seal P (sealed_prefix seal P (disk t0 key).content) (length (sealed_prefix seal P (disk t0 key).content)) key t0 t1
    short_one passes = call_one (sealed_prefix seal P (disk t0 key).content) (length (sealed_prefix seal P (disk t0 key).content)) (best_slot seal P (disk t0 key).content) (best_covers seal P (disk t0 key).content) (prefix_sound seal P (disk t0 key).content) passes short_avoids makes

    pub short_two : {v : Unit {0}} {r : Result (Unit {0}) DevError} {t1 t2 : Timeline} → Passes {T = Unit {0}} key (Write (slot_at P j b) (slot_bytes seal P page)) (Ok v) t0 t1 → Passes key Settle r t1 t2 → Sealing seal P (sealed_prefix seal P (disk t0 key).content) (length (sealed_prefix seal P (disk t0 key).content)) key t0 t2
    short_two first second = call_two (sealed_prefix seal P (disk t0 key).content) (length (sealed_prefix seal P (disk t0 key).content)) (best_slot seal P (disk t0 key).content) (best_covers seal P (disk t0 key).content) (prefix_sound seal P (disk t0 key).content) first short_avoids makes makes second

  -- zeros over the old slot
  module _ (j r : ℕ) (a b : Bool) (some : 0 < r) (own : slot_length seal P (disk t0 key).content j a ≡ r) (differ : a ≢ b) (last : length (disk t0 key).content ≤ page_at P (j + 1)) (inside : j * P + r ≤ length (sealed_prefix seal P (disk t0 key).content)) where
    two_covers : Covers seal P (disk t0 key).content (j * P + r) (with_slot (best_slot seal P (disk t0 key).content) j a)
    two_covers = short_covers seal P (disk t0 key).content j r a b pos some own differ last inside

    zeros_avoids : Avoids (Held seal P (disk t0 key).content (j * P + r) (with_slot (best_slot seal P (disk t0 key).content) j a)) (Write (slot_at P j b) no_slot)
    zeros_avoids = held_slot seal P (disk t0 key).content (j * P + r) (with_slot (best_slot seal P (disk t0 key).content) j a) (disk t0 key)
        (begun (sealed_prefix seal P (disk t0 key).content) (j * P + r) (with_slot (best_slot seal P (disk t0 key).content) j a) two_covers (prefix_sound seal P (disk t0 key).content)).guards
        j b no_slot refl (λ lt e. differ (sym (ap (λ (t : Bool). cond t a (best_slot seal P (disk t0 key).content j)) (eq-eqb j j refl)) ∙ e))

    zeros_make : SoundTo seal P (sealed_prefix seal P (disk t0 key).content) (written (disk t0 key).content (slot_at P j b) no_slot)
    zeros_make = zeros_sound seal P (disk t0 key).content j r a b pos some own differ last inside

    pub zeros_one : {x : Result (Unit {0}) DevError} {t1 : Timeline} → Passes key (Write (slot_at P j b) no_slot) x t0 t1 → Sealing seal P (sealed_prefix seal P (disk t0 key).content) (j * P + r) key t0 t1
    zeros_one passes = call_one (sealed_prefix seal P (disk t0 key).content) (j * P + r) (with_slot (best_slot seal P (disk t0 key).content) j a) two_covers (prefix_sound seal P (disk t0 key).content) passes zeros_avoids zeros_make

    pub zeros_two : {v : Unit {0}} {x : Result (Unit {0}) DevError} {t1 t2 : Timeline} → Passes {T = Unit {0}} key (Write (slot_at P j b) no_slot) (Ok v) t0 t1 → Passes key Settle x t1 t2 → Sealing seal P (sealed_prefix seal P (disk t0 key).content) (j * P + r) key t0 t2
    zeros_two first second = call_two (sealed_prefix seal P (disk t0 key).content) (j * P + r) (with_slot (best_slot seal P (disk t0 key).content) j a) two_covers (prefix_sound seal P (disk t0 key).content) first zeros_avoids zeros_make zeros_make second

pub sealing_then : (seal : List ℕ → ℕ) (P : ℕ) (bytes : List ℕ) (L : ℕ) (key : Key) (a b c : Timeline) → Sealing seal P bytes L key a b → Sealing seal P bytes L key b c → Sealing seal P bytes L key a c
sealing_then seal P bytes L key a b c first second = only_then a b c key (Leaves seal P bytes L) first second

-- no call was made
pub rest_sealing : (seal : List ℕ → ℕ) (P : ℕ) → 1 ≤ P → (key : Key) (t : Timeline) → StandsSettled (disk t key) → (j : ℕ) → Sealing seal P (sealed_prefix seal P (disk t key).content) (min (j * P) (length (sealed_prefix seal P (disk t key).content))) key t t
rest_sealing seal P pos key t rest j = sealing_less seal P (sealed_prefix seal P (disk t key).content) (length (sealed_prefix seal P (disk t key).content)) (min (j * P) (length (sealed_prefix seal P (disk t key).content))) key t t (omega arith)
    (only_start t key (Leaves seal P (sealed_prefix seal P (disk t key).content) (length (sealed_prefix seal P (disk t key).content))) (rest_leaves seal P (disk t key) pos rest))

pub not_other : (b : Bool) → not b ≢ b
not_other true e = cc e
not_other false e = cc e
