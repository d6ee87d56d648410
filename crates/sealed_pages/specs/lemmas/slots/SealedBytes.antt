-- How far a content is sealed, from what is known of its pages.
use Rattle.std.proofs.Common.{◌≡◌, ◌≢◌, ◌⊎◌, inl, inr, ℕ, zero, suc, ◌+◌, ◌-◌, ◌*◌, ◌<◌, ◌≤◌, eqb, min, Bool, true, false, cond, List, [], ◌∷◌, ◌++◌, length, get_or, take, refl, sym, ◌∙◌, ap, arith, length-append, length-take}
use Rattle.std.proofs.lemmas.Bool.{cases_lt}
use Rattle.std.proofs.lemmas.Bool.Decides.{eqb_tells}
use Rattle.std.proofs.lemmas.Nat.{le-div}
use Rattle.std.proofs.lemmas.List.{get_or_append_left, get_or-append_right, get_or-take, ext_get_or}
use Rattle.std.specs.List.{AllByRecursion}
use Rattle.blob_device.specs.Disk.{Blob, past}
use Rattle.blob_device.specs.Guards.{Sealed}
use Rattle.sealed_pages.specs.ChanceSeal.{SamePlace, SomeByRecursion, NoChanceSeal, Leaves}
use Rattle.sealed_pages.specs.Flushing.{Sound, Covers, Held, Stands}
use Rattle.sealed_pages.specs.SealedPrefix.{pages_in, sealed_from, sealed_prefix, Prefix}
use Rattle.sealed_pages.specs.Slots.{slot_length, page_length}
use Rattle.sealed_pages.specs.View.{view, bytes_at, page_at, slot_at}
use Rattle.blob_device.specs.lemmas.Guards.{guards_crash, guards_left}
use Rattle.sealed_pages.specs.lemmas.slots.Slot.{get_or-bytes_at, length-bytes_at, slot_length-le, slot_named, slot_same, slot_stands}
use Rattle.blob_device.proofs.general.Numbers.{times_next}

module _ (seal : List ℕ → ℕ) (P : ℕ) where
  pub rest : List ℕ → ℕ → ℕ → List ℕ
  rest v k m = cond (eqb (page_length seal P v k) P) (sealed_from seal P v (k + 1) m) []

  pub sealed_step : (v : List ℕ) (k m : ℕ) → sealed_from seal P v k (suc m) ≡ bytes_at (view v) (page_at P k) (page_length seal P v k) ++ rest v k m
  unfolding sealed_from rest
  sealed_step v k m = refl

  pub rest_is : (v : List ℕ) (k m : ℕ) → ((page_length seal P v k ≡ P) × (rest v k m ≡ sealed_from seal P v (k + 1) m)) ⊎ ((page_length seal P v k ≢ P) × (rest v k m ≡ []))
  unfolding rest
  rest_is v k m = elim (eqb_tells (page_length seal P v k) P) [
    | inl it ↦ inl (it.1, ap (λ (t : Bool). cond t (sealed_from seal P v (k + 1) m) []) it.0)
    | inr it ↦ inr (it.1, ap (λ (t : Bool). cond t (sealed_from seal P v (k + 1) m) []) it.0)
  ]

  pub page_length-le : (v : List ℕ) (k : ℕ) → page_length seal P v k ≤ P
  unfolding page_length
  page_length-le v k = omega (arith, slot_length-le seal P v k false, slot_length-le seal P v k true)

  pub page_length-slot : (v : List ℕ) (k : ℕ) (b : Bool) → slot_length seal P v k b ≤ page_length seal P v k
  unfolding page_length
  page_length-slot v k false = omega arith
  page_length-slot v k true = omega arith

  page_length-is : (v : List ℕ) (k : ℕ) → (page_length seal P v k ≡ slot_length seal P v k false) ⊎ (page_length seal P v k ≡ slot_length seal P v k true)
  unfolding page_length
  page_length-is v k = elim (cases_lt (slot_length seal P v k false) (slot_length seal P v k true)) [
    | inl lt ↦ inr (omega (arith, lt))
    | inr le ↦ inl (omega (arith, le))
  ]

  pub length-step : (v : List ℕ) (k m : ℕ) → length (sealed_from seal P v k (suc m)) ≡ page_length seal P v k + length (rest v k m)
  length-step v k m = omega (arith, ap length (sealed_step v k m), length-append (bytes_at (view v) (page_at P k) (page_length seal P v k)) (rest v k m), length-bytes_at (view v) (page_length seal P v k) (page_at P k))

  -- not shorter than L, if each page below L is covered that far
  pub sealed_low : (v : List ℕ) (L : ℕ) (m k : ℕ) → ((j : ℕ) → k ≤ j → j * P < L → min P (L - j * P) ≤ page_length seal P v j)
      → ((j : ℕ) → k ≤ j → j * P < L → j < k + m) → L - k * P ≤ length (sealed_from seal P v k m)
  sealed_low v L zero k covers fuel = elim (cases_lt (k * P) L) [
    | inl lt ↦ absurd (omega (arith, fuel k (omega arith) lt))
    | inr le ↦ omega (arith, le)
  ]
  sealed_low v L (suc m) k covers fuel = elim (rest_is v k m) [
    | inl full ↦ omega (
      arith,
      length-step v k m,
      full.0,
      ap length full.1,
      times_next k P,
      sealed_low v L m (k + 1) (λ j le lt. covers j (omega (arith, le)) lt) (λ j le lt. omega (arith, fuel j (omega (arith, le)) lt)),
    )
    | inr part ↦ elim (cases_lt (k * P) L) [
      | inl lt ↦ (let below : page_length seal P v k < P = omega (arith, part.0, page_length-le v k) in omega (arith, length-step v k m, below, covers k (omega arith) lt))
      | inr le ↦ omega (arith, le)
    ]
  ]

  -- each place that matches in a page that begins within these bytes has them
  pub record SoundTo (bytes c : List ℕ) : Type 0 where
    pub within : (k : ℕ) (second : Bool) → k * P ≤ length bytes → 1 ≤ slot_length seal P c k second → k * P + slot_length seal P c k second ≤ length bytes
    pub same : (k : ℕ) (second : Bool) (i : ℕ) → k * P ≤ length bytes → i < slot_length seal P c k second → view c (page_at P k + i) ≡ get_or bytes (k * P + i) 0

  pub sound_to : (bytes c : List ℕ) → Sound seal P bytes c → SoundTo bytes c
  sound_to bytes c sound = record { within = λ k b start some. sound.within k b some; same = λ k b i start lt. sound.same k b i lt }

  -- what is sealed is a prefix of these bytes, if each such place has them
  module _ (bytes : List ℕ) (v : List ℕ) (sound : SoundTo bytes v) where
    page_within : (k : ℕ) → k * P ≤ length bytes → k * P + page_length seal P v k ≤ length bytes
    page_within k start = elim (cases_lt 0 (page_length seal P v k)) [
      | inl some ↦ elim (page_length-is v k) [
        | inl is ↦ omega (arith, is, sound.within k false start (omega (arith, some, is)))
        | inr is ↦ omega (arith, is, sound.within k true start (omega (arith, some, is)))
      ]
      | inr none ↦ omega (arith, none, start)
    ]

    page_same : (k i : ℕ) → k * P ≤ length bytes → i < page_length seal P v k → view v (page_at P k + i) ≡ get_or bytes (k * P + i) 0
    page_same k i start lt = elim (page_length-is v k) [
      | inl is ↦ sound.same k false i start (omega (arith, lt, is))
      | inr is ↦ sound.same k true i start (omega (arith, lt, is))
    ]

    Has : List ℕ → ℕ → ℕ → Type 0
    Has w m k = (k * P + length (sealed_from seal P w k m) ≤ length bytes) × ((i : ℕ) → i < length (sealed_from seal P w k m) → get_or (sealed_from seal P w k m) i 0 ≡ get_or bytes (k * P + i) 0)

    high_step : (m k : ℕ) → k * P ≤ length bytes → ((k + 1) * P ≤ length bytes → Has v m (k + 1)) → Has v (suc m) k
    unfolding Has
    high_step m k start next = (by_rest (rest_is v k m), places)
      where
        here : k * P + page_length seal P v k ≤ length bytes
        here = page_within k start

        full_next : page_length seal P v k ≡ P → (k + 1) * P ≤ length bytes
        full_next full = omega (arith, here, full, times_next k P)

        by_rest : ((page_length seal P v k ≡ P) × (rest v k m ≡ sealed_from seal P v (k + 1) m)) ⊎ ((page_length seal P v k ≢ P) × (rest v k m ≡ [])) → k * P + length (sealed_from seal P v k (suc m)) ≤ length bytes
        by_rest (inl full) = omega (arith, length-step v k m, full.0, ap length full.1, times_next k P, (next (full_next full.0)).0)
        by_rest (inr part) = omega (arith, length-step v k m, ap length part.1, here)

        in_page : (i : ℕ) → i < page_length seal P v k → get_or (sealed_from seal P v k (suc m)) i 0 ≡ get_or bytes (k * P + i) 0
        in_page i lt = ap (λ (l : List ℕ). get_or l i 0) (sealed_step v k m)
            ∙ get_or_append_left (bytes_at (view v) (page_at P k) (page_length seal P v k)) (rest v k m) 0 i (omega (arith, lt, length-bytes_at (view v) (page_length seal P v k) (page_at P k)))
            ∙ get_or-bytes_at (view v) (page_length seal P v k) (page_at P k) i lt ∙ page_same k i start lt

        in_rest : (i : ℕ) → page_length seal P v k ≤ i → i < length (sealed_from seal P v k (suc m)) → ((page_length seal P v k ≡ P) × (rest v k m ≡ sealed_from seal P v (k + 1) m)) ⊎ ((page_length seal P v k ≢ P) × (rest v k m ≡ []))
            → get_or (sealed_from seal P v k (suc m)) i 0 ≡ get_or bytes (k * P + i) 0
        in_rest i past lt (inr part) = absurd (omega (arith, past, lt, length-step v k m, ap length part.1))
        in_rest i past lt (inl full) = ap (λ (l : List ℕ). get_or l i 0) (sealed_step v k m)
            ∙ get_or-append_right (bytes_at (view v) (page_at P k) (page_length seal P v k)) (rest v k m) (page_length seal P v k) i 0 (length-bytes_at (view v) (page_length seal P v k) (page_at P k)) past
            ∙ ap (λ (l : List ℕ). get_or l (i - page_length seal P v k) 0) full.1
            ∙ (next (full_next full.0)).1 (i - page_length seal P v k) (omega (arith, past, lt, length-step v k m, ap length full.1))
            ∙ (let e : (k + 1) * P + (i - page_length seal P v k) ≡ k * P + i = omega (arith, past, full.0, times_next k P) in ap (λ (j : ℕ). get_or bytes j 0) e)

        places : (i : ℕ) → i < length (sealed_from seal P v k (suc m)) → get_or (sealed_from seal P v k (suc m)) i 0 ≡ get_or bytes (k * P + i) 0
        places i lt = elim (cases_lt i (page_length seal P v k)) [
          | inl inside ↦ in_page i inside
          | inr past ↦ in_rest i past lt (rest_is v k m)
        ]

    pub sealed_high : (m k : ℕ) → k * P ≤ length bytes → (k * P + length (sealed_from seal P v k m) ≤ length bytes)
        × ((i : ℕ) → i < length (sealed_from seal P v k m) → get_or (sealed_from seal P v k m) i 0 ≡ get_or bytes (k * P + i) 0)
    unfolding sealed_from Has
    sealed_high zero k start = (omega (arith, start), λ i lt. absurd (omega (arith, lt)))
    sealed_high (suc m) k start = high_step m k start (λ le. sealed_high m (k + 1) le)

  -- without a chance seal, a content is sound if all the contents before are
  some_sound : (bytes : List ℕ) (cs : List (List ℕ)) (v : List ℕ) (k : ℕ) (b : Bool) → k * P ≤ length bytes → 1 ≤ slot_length seal P v k b
      → AllByRecursion (SoundTo bytes) cs → SomeByRecursion (λ p. SamePlace P p v k b (slot_length seal P v k b)) cs
      → (k * P + slot_length seal P v k b ≤ length bytes) × ((i : ℕ) → i < slot_length seal P v k b → view v (page_at P k + i) ≡ get_or bytes (k * P + i) 0)
  some_sound bytes [] v k b start some all chance = absurd chance
  some_sound bytes (p ∷ ps) v k b start some all (inr later) = some_sound bytes ps v k b start some all.1 later
  some_sound bytes (p ∷ ps) v k b start some all (inl same) =
      let is : slot_length seal P v k b ≡ slot_length seal P p k b = slot_same seal P v p k b (slot_stands seal P v k b some) same.stands (λ i lt. sym (same.slot i lt))
      (λ i lt short. sym (same.bytes i (omega (arith, lt, slot_named seal P v k b some)))) in (
        omega (arith, is, all.0.within k b start (omega (arith, some, is))),
        λ i lt. sym (same.bytes i lt) ∙ all.0.same k b i start (omega (arith, lt, is)),
      )

  pub sound_crash : (bytes : List ℕ) (cs : List (List ℕ)) (c : List ℕ) → AllByRecursion (SoundTo bytes) cs → NoChanceSeal seal P cs c → SoundTo bytes c
  sound_crash bytes cs c all chance = record {
    within = λ k b start some. (some_sound bytes cs c k b start some all (chance k b some)).0;
    same = λ k b i start lt. let some : 1 ≤ slot_length seal P c k b = omega (arith, lt) in (some_sound bytes cs c k b start some all (chance k b some)).1 i lt;
  }

  -- what is held covers as before
  pub covers_same : (v w : List ℕ) (L : ℕ) (σ : ℕ → Bool) → 1 ≤ P → Covers seal P v L σ → ((i : ℕ) → Held seal P v L σ i → view w i ≡ view v i) → ((i : ℕ) → Held seal P v L σ i → i < length w) → Covers seal P w L σ
  covers_same v w L σ pos covers same within k lt =
      let some : 1 ≤ slot_length seal P v k (σ k) = omega (arith, pos, lt, covers k lt) in
      let last : slot_at P k (σ k) + 5 < length w = within (slot_at P k (σ k) + 5) (k, lt, inl (record { low = omega arith; high = omega arith })) in
      let is : slot_length seal P v k (σ k) ≡ slot_length seal P w k (σ k) = slot_same seal P v w k (σ k) (slot_stands seal P v k (σ k) some) (omega (arith, last))
      (λ i near. sym (same (slot_at P k (σ k) + i) (k, lt, inl (record { low = omega arith; high = omega (arith, near) }))))
      (λ i near short. sym (same (page_at P k + i) (k, lt, inr (record { low = omega arith; high = omega (arith, near, slot_named seal P v k (σ k) some) })))) in
      omega (arith, is, covers k lt)

  -- a page with a slot that matches begins within the content
  pub slot_inside : (c : List ℕ) (k : ℕ) (b : Bool) → 1 ≤ slot_length seal P c k b → k < pages_in P c
  unfolding page_at
  slot_inside c k b some = let le : k * (P + 12) ≤ length c = omega (arith, slot_stands seal P c k b some) in omega (arith, le-div k (length c) (P + 12) (omega arith) le)

  pub covers_length : (c : List ℕ) (L : ℕ) (σ : ℕ → Bool) → 1 ≤ P → Covers seal P c L σ → L ≤ length (sealed_prefix seal P c)
  unfolding sealed_prefix
  covers_length c L σ pos covers =
      let low = sealed_low c L (pages_in P c) 0 (λ j le lt. omega (arith, covers j lt, page_length-slot c j (σ j)))
      (λ j le lt. omega (arith, slot_inside c j (σ j) (omega (arith, pos, lt, covers j lt)))) in
      omega (arith, low)

  -- what is sound is sealed up to a prefix of the bytes
  pub sound_prefix : (bytes c : List ℕ) → SoundTo bytes c → (least : ℕ) → least ≤ length (sealed_prefix seal P c) → Prefix seal P bytes least c
  unfolding sealed_prefix
  sound_prefix bytes c sound least low =
      let high = sealed_high bytes c sound (pages_in P c) 0 (omega arith) in
      record {
        is = ext_get_or 0 (sealed_from seal P c 0 (pages_in P c)) (take (length (sealed_from seal P c 0 (pages_in P c))) bytes)
            (omega (arith, high.0, length-take (length (sealed_from seal P c 0 (pages_in P c))) bytes))
            (λ i lt. high.1 i lt ∙ (let e : 0 * P + i ≡ i = omega arith in ap (λ (j : ℕ). get_or bytes j 0) e) ∙ sym (get_or-take (length (sealed_from seal P c 0 (pages_in P c))) bytes i 0 lt));
        no_shorter = low;
        no_longer = omega (arith, high.0);
      }

  all_to : (bytes : List ℕ) (cs : List (List ℕ)) → AllByRecursion (Sound seal P bytes) cs → AllByRecursion (SoundTo bytes) cs
  all_to bytes [] all = all
  all_to bytes (c ∷ cs) all = (sound_to bytes c all.0, all_to bytes cs all.1)

  -- from the structural claim to every crash
  pub sealed_leaves : (w : List ℕ) (L : ℕ) (σ : ℕ → Bool) (bytes : List ℕ) (b : Blob) → 1 ≤ P → Covers seal P w L σ → Sealed (Held seal P w L σ) (view w) (SoundTo bytes) b → Leaves seal P bytes L b
  sealed_leaves w L σ bytes b pos covers s = guards_left (Held seal P w L σ) (view w) b (λ c. NoChanceSeal seal P (past b) c → Prefix seal P bytes L c) s.guards
      (λ c hold chance. sound_prefix bytes c (sound_crash bytes (past b) c s.all chance) L
      (covers_length c L σ pos (covers_same w c L σ pos covers (λ i held. guards_crash (Held seal P w L σ) (view w) b s.guards c hold i held) (λ i held. omega (arith, s.guards.short i held, hold.no_shorter)))))

  pub stands_leaves : (w : List ℕ) (L : ℕ) (σ : ℕ → Bool) (bytes : List ℕ) (b : Blob) → 1 ≤ P → Covers seal P w L σ → Stands seal P bytes w L σ b → Leaves seal P bytes L b
  stands_leaves w L σ bytes b pos covers s = sealed_leaves w L σ bytes b pos covers (record { guards = s.guards; all = all_to bytes (past b) s.all })

pub all_map : {A B : List ℕ → Type 0} → ((p : List ℕ) → A p → B p) → (cs : List (List ℕ)) → AllByRecursion A cs → AllByRecursion B cs
all_map f [] all = all
all_map f (c ∷ cs) all = (f c all.0, all_map f cs all.1)
