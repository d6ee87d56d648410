-- What a write of a slot leaves, and what has settled.
use Rattle.std.proofs.Common.{◌≡◌, ◌≢◌, ◌⊎◌, inl, inr, ℕ, ◌+◌, ◌-◌, ◌*◌, ◌^◌, ◌<◌, ◌≤◌, eqb, leb, Bool, true, false, cond, List, ◌++◌, length, get_or, refl, sym, ◌∙◌, ap, subst, arith, length-append}
use Rattle.std.specs.Int.{w16, w32, to_be_bytes, from_be_bytes}
use Rattle.std.proofs.lemmas.Bool.{cases_lt, cases_eq, eq-eqb, ne_eqb, le-leb}
use Rattle.std.proofs.lemmas.Nat.{from_be_bytes-to_be_bytes_2, from_be_bytes-to_be_bytes_4}
use Rattle.std.proofs.lemmas.List.{get_or_append_left, get_or-append_right, ext_get_or}
use Rattle.blob_device.specs.Disk.{Blob, settled_at}
use Rattle.blob_device.specs.Change.{Write, written}
use Rattle.sealed_pages.specs.Flushing.{with_slot, Quiet, Data, Sound, Covers, Held, Stands, Flushed}
use Rattle.sealed_pages.specs.Slots.{named_length, named_seal, is_whole, slot_length, slot_bytes}
use Rattle.sealed_pages.specs.View.{View, view, bytes_at, page_at, slot_at}
use Rattle.blob_device.specs.Guards.{Guards, Avoids}
use Rattle.blob_device.specs.lemmas.Guards.{guards_settled}
use Rattle.sealed_pages.specs.lemmas.slots.Slot.{get_or-bytes_at, length-bytes_at, slot_at_most, slot_length-le, slot_named, slot_same, slot_stands, whole_true}
use Rattle.sealed_pages.specs.lemmas.slots.Steps.{data_below, data_data, data_quiet, data_same, data_slot, data_slots, named_same, slot_data, slot_low, slot_slot, tidy_sound}
use Rattle.blob_device.specs.Lengths.{length-written}
use Rattle.blob_device.specs.Places.{written_in, written_out}
use Rattle.blob_device.proofs.general.Numbers.{times_more}

pub quiet_more : (P F G : ℕ) (v : View) → F ≤ G → Quiet P F v → Quiet P G v
quiet_more P F G v le quiet k b part = omega (arith, le, part, quiet k b (omega (arith, le, part)))

pub length-two_bytes : (n : ℕ) → length (to_be_bytes w16 n) ≡ 2
length-two_bytes n = refl

length-four_bytes : (n : ℕ) → length (to_be_bytes w32 n) ≡ 4
length-four_bytes n = refl

-- the bytes at a place, where a list was written
pub bytes_at-list : (v : View) (l : List ℕ) (at : ℕ) → ((i : ℕ) → i < length l → v (at + i) ≡ get_or l i 0) → bytes_at v at (length l) ≡ l
bytes_at-list v l at same = ext_get_or 0 (bytes_at v at (length l)) l (length-bytes_at v (length l) at)
    (λ i lt. let inside : i < length l = omega (arith, lt, length-bytes_at v (length l) at) in get_or-bytes_at v (length l) at i inside ∙ same i inside)

module _ (seal : List ℕ → ℕ) (P : ℕ) where
  pub length-slot_bytes : (bytes : List ℕ) → length (slot_bytes seal P bytes) ≡ 6
  unfolding slot_bytes
  length-slot_bytes bytes = omega (arith, length-append (to_be_bytes w16 (length bytes)) (to_be_bytes w32 (seal (to_be_bytes w16 (length bytes) ++ bytes))), length-two_bytes (length bytes), length-four_bytes (seal (to_be_bytes w16 (length bytes) ++ bytes)))

  -- a slot that is written over its data matches
  pub slot_matches : (c : List ℕ) (k : ℕ) (b : Bool) (bytes : List ℕ) → slot_at P k b + 6 ≤ length c → page_at P k + (P + 12) < 2 ^ 64 → ((x : List ℕ) → seal x < 2 ^ 32) → length bytes ≤ P → P < 2 ^ 16
      → ((i : ℕ) → i < 6 → view c (slot_at P k b + i) ≡ get_or (slot_bytes seal P bytes) i 0) → ((i : ℕ) → i < length bytes → view c (page_at P k + i) ≡ get_or bytes i 0)
      → slot_length seal P c k b ≡ length bytes
  unfolding slot_length slot_bytes
  slot_matches content k b bytes stands room fits short small slot same = shown
    where
      v : View
      v = view content

      lens : List ℕ
      lens = to_be_bytes w16 (length bytes)

      sums : List ℕ
      sums = to_be_bytes w32 (seal (to_be_bytes w16 (length bytes) ++ bytes))

      first : bytes_at v (slot_at P k b) (length lens) ≡ lens
      first = bytes_at-list v lens (slot_at P k b) (λ i lt. slot i (omega (arith, lt, length-two_bytes (length bytes))) ∙ get_or_append_left lens sums 0 i lt)

      e : bytes_at v (slot_at P k b) 2 ≡ lens
      e = ap (bytes_at v (slot_at P k b)) (sym (length-two_bytes (length bytes))) ∙ first

      second : bytes_at v (slot_at P k b + 2) (length sums) ≡ sums
      second = bytes_at-list v sums (slot_at P k b + 2) (λ i lt. let place : slot_at P k b + 2 + i ≡ slot_at P k b + (2 + i) = omega arith in
          ap v place ∙ slot (2 + i) (omega (arith, lt, length-four_bytes (seal (to_be_bytes w16 (length bytes) ++ bytes))))
          ∙ get_or-append_right lens sums 2 (2 + i) 0 (length-two_bytes (length bytes)) (omega arith)
          ∙ (let off : 2 + i - 2 ≡ i = omega arith in ap (λ (j : ℕ). get_or sums j 0) off))

      f : bytes_at v (slot_at P k b + 2) 4 ≡ sums
      f = ap (bytes_at v (slot_at P k b + 2)) (sym (length-four_bytes (seal (to_be_bytes w16 (length bytes) ++ bytes)))) ∙ second

      n : named_length v (slot_at P k b) ≡ length bytes
      n = ap (from_be_bytes w16) e ∙ from_be_bytes-to_be_bytes_2 (length bytes) (omega (arith, short, small))

      s : named_seal v (slot_at P k b) ≡ seal (lens ++ bytes)
      s = ap (from_be_bytes w32) f ∙ from_be_bytes-to_be_bytes_4 (seal (to_be_bytes w16 (length bytes) ++ bytes)) (fits (to_be_bytes w16 (length bytes) ++ bytes))

      d : bytes_at v (page_at P k) (named_length v (slot_at P k b)) ≡ bytes
      d = ap (bytes_at v (page_at P k)) n ∙ bytes_at-list v bytes (page_at P k) same

      c : seal (bytes_at v (slot_at P k b) 2 ++ bytes_at v (page_at P k) (named_length v (slot_at P k b))) ≡ seal (lens ++ bytes)
      c = λ t. seal (e t ++ d t)

      inner : ℕ
      inner = cond (leb (named_length v (slot_at P k b)) P) (cond (eqb (seal (bytes_at v (slot_at P k b) 2 ++ bytes_at v (page_at P k) (named_length v (slot_at P k b)))) (named_seal v (slot_at P k b))) (named_length v (slot_at P k b)) 0) 0

      shown : cond (is_whole P content k b) (cond (leb (named_length v (slot_at P k b)) P) (cond (eqb (seal (bytes_at v (slot_at P k b) 2 ++ bytes_at v (page_at P k) (named_length v (slot_at P k b)))) (named_seal v (slot_at P k b))) (named_length v (slot_at P k b)) 0) 0) 0 ≡ length bytes
      shown = ap (λ (t : Bool). cond t inner 0) (whole_true P content k b stands room) ∙ ap (λ (t : Bool). cond t (cond (eqb (seal (bytes_at v (slot_at P k b) 2 ++ bytes_at v (page_at P k) (named_length v (slot_at P k b)))) (named_seal v (slot_at P k b))) (named_length v (slot_at P k b)) 0) 0) (le-leb (named_length v (slot_at P k b)) P (omega (arith, n, short)))
          ∙ ap (λ (t : Bool). cond t (named_length v (slot_at P k b)) 0) (eq-eqb (seal (bytes_at v (slot_at P k b) 2 ++ bytes_at v (page_at P k) (named_length v (slot_at P k b)))) (named_seal v (slot_at P k b)) (c ∙ sym s))
          ∙ n

  -- a write of six bytes over a slot
  module _ (c : List ℕ) (k : ℕ) (b : Bool) (six : List ℕ) (is_six : length six ≡ 6) where
    pub slot_same_data : (j i : ℕ) → i < P → view (written c (slot_at P k b) six) (page_at P j + i) ≡ view c (page_at P j + i)
    slot_same_data j i lt = written_out c (slot_at P k b) six (page_at P j + i) (subst (λ (n : ℕ). (page_at P j + i < slot_at P k b) ⊎ (slot_at P k b + n ≤ page_at P j + i)) (sym is_six) (data_slot P j i k b lt))

    pub slot_same_slot : (j : ℕ) (a : Bool) (i : ℕ) → i < 6 → (j ≡ k → a ≢ b) → view (written c (slot_at P k b) six) (slot_at P j a + i) ≡ view c (slot_at P j a + i)
    slot_same_slot j a i lt other = written_out c (slot_at P k b) six (slot_at P j a + i) (subst (λ (n : ℕ). (slot_at P j a + i < slot_at P k b) ⊎ (slot_at P k b + n ≤ slot_at P j a + i)) (sym is_six) (slot_slot P j a i k b lt other))

    pub slot_is : (i : ℕ) → i < 6 → view (written c (slot_at P k b) six) (slot_at P k b + i) ≡ get_or six i 0
    slot_is i lt = written_in c (slot_at P k b) six i (omega (arith, lt, is_six))

    pub slot_data_kept : (bytes : List ℕ) (F : ℕ) → Data P bytes F (view c) → Data P bytes F (view (written c (slot_at P k b) six))
    slot_data_kept bytes F same j i lt below = slot_same_data j i lt ∙ same j i lt below

    pub same_or_apart : (j : ℕ) (a : Bool) → ((j ≡ k) × (a ≡ b)) ⊎ (j ≡ k → a ≢ b)
    same_or_apart j a = elim (cases_eq j k) [
      | inl is ↦ by_slot is a b
      | inr differ ↦ inr (λ is. absurd (differ is))
    ]
      where
        by_slot : j ≡ k → (x y : Bool) → ((j ≡ k) × (x ≡ y)) ⊎ (j ≡ k → x ≢ y)
        by_slot is false false = inl (is, refl)
        by_slot is true true = inl (is, refl)
        by_slot is false true = inr (λ e f. cc f)
        by_slot is true false = inr (λ e f. cc f)

    pub slot_quiet : (F : ℕ) → Quiet P F (view c) → (F < k * P + P → named_length (view (written c (slot_at P k b) six)) (slot_at P k b) ≤ F - k * P) → Quiet P F (view (written c (slot_at P k b) six))
    slot_quiet F quiet new j a part = elim (same_or_apart j a) [
      | inl is ↦ by_is is.0 is.1
      | inr other ↦ omega (arith, named_same seal P (view (written c (slot_at P k b) six)) (view c) j a (λ i lt. slot_same_slot j a i lt other), quiet j a part)
    ]
      where
        by_is : j ≡ k → a ≡ b → named_length (view (written c (slot_at P k b) six)) (slot_at P j a) ≤ F - j * P
        by_is is same = omega (arith, ap (λ (m : ℕ). m * P) is, ap (named_length (view (written c (slot_at P k b) six))) (λ t. slot_at P (is t) (same t)), new (omega (arith, part, ap (λ (m : ℕ). m * P) is)))

    -- the length of another slot that stands whole, or of one in another page
    pub slot_kept : (j : ℕ) (a : Bool) → (j ≡ k → a ≢ b) → slot_at P j a + 6 ≤ length c → slot_length seal P (written c (slot_at P k b) six) j a ≡ slot_length seal P c j a
    slot_kept j a other stands = slot_same seal P (written c (slot_at P k b) six) c j a (omega (arith, stands, length-written c (slot_at P k b) six)) stands (λ i lt. slot_same_slot j a i lt other) (λ i lt short. slot_same_data j i short)

  -- what is held stands where it is not written
  module _ (w : List ℕ) (L : ℕ) (σ : ℕ → Bool) (b : Blob) (g : Guards (Held seal P w L σ) (view w) b) where
    held_below : (F : ℕ) → 1 ≤ P → Covers seal P w L σ → L ≤ F → Quiet P F (view b.content) → (j : ℕ) → j * P < L → j * P + slot_length seal P w j (σ j) ≤ F
    held_below F pos covers le quiet j lt = elim (cases_lt F (j * P + P)) [
      | inl part ↦ (let named = named_same seal P (view w) (view b.content) j (σ j) (λ i near. sym (g.same (slot_at P j (σ j) + i) (j, lt, inl (record { low = omega arith; high = omega (arith, near) })))) in
          omega (arith, named, quiet j (σ j) part, slot_at_most seal P w j (σ j), lt, le))
      | inr full ↦ omega (arith, full, slot_length-le seal P w j (σ j))
    ]

    pub held_data : (F : ℕ) → 1 ≤ P → Covers seal P w L σ → L ≤ F → Quiet P F (view b.content) → (k f at : ℕ) (chunk : List ℕ) → F ≡ k * P + f → f < P → at ≡ page_at P k + f → f + length chunk ≤ P
        → Avoids (Held seal P w L σ) (Write at chunk)
    held_data F pos covers le quiet k f at chunk is short start end i (j, lt, inl slot) =
        let place : slot_at P j (σ j) + (i - slot_at P j (σ j)) ≡ i = omega (arith, slot.low) in
        subst (λ (x : ℕ). (x < at) ⊎ (at + length chunk ≤ x)) place (slot_data P j (σ j) (i - slot_at P j (σ j)) k at (length chunk) (omega (arith, slot.low, slot.high)) (omega (arith, start)) (omega (arith, start, end)))
    held_data F pos covers le quiet k f at chunk is short start end i (j, lt, inr page) =
        let place : page_at P j + (i - page_at P j) ≡ i = omega (arith, page.low) in
        let near : i - page_at P j < slot_length seal P w j (σ j) = omega (arith, page.low, page.high) in
        subst (λ (x : ℕ). (x < at) ⊎ (at + length chunk ≤ x)) place (data_data P j (i - page_at P j) k f at (length chunk) F (omega (arith, near, slot_length-le seal P w j (σ j))) is short
        (omega (arith, near, held_below F pos covers le quiet j lt)) start (omega (arith, start, end)))

    pub held_slot : (k : ℕ) (a : Bool) (six : List ℕ) → length six ≡ 6 → (k * P < L → σ k ≢ a) → Avoids (Held seal P w L σ) (Write (slot_at P k a) six)
    held_slot k a six is_six other i (j, lt, inl slot) =
        let place : slot_at P j (σ j) + (i - slot_at P j (σ j)) ≡ i = omega (arith, slot.low) in
        subst (λ (x : ℕ). (x < slot_at P k a) ⊎ (slot_at P k a + length six ≤ x)) place (subst (λ (n : ℕ). (slot_at P j (σ j) + (i - slot_at P j (σ j)) < slot_at P k a) ⊎ (slot_at P k a + n ≤ slot_at P j (σ j) + (i - slot_at P j (σ j)))) (sym is_six)
        (slot_slot P j (σ j) (i - slot_at P j (σ j)) k a (omega (arith, slot.low, slot.high)) (λ is. subst (λ (x : ℕ). x * P < L → σ x ≢ a) (sym is) other lt)))
    held_slot k a six is_six other i (j, lt, inr page) =
        let place : page_at P j + (i - page_at P j) ≡ i = omega (arith, page.low) in
        subst (λ (x : ℕ). (x < slot_at P k a) ⊎ (slot_at P k a + length six ≤ x)) place (subst (λ (n : ℕ). (page_at P j + (i - page_at P j) < slot_at P k a) ⊎ (slot_at P k a + n ≤ page_at P j + (i - page_at P j))) (sym is_six)
        (data_slot P j (i - page_at P j) k a (omega (arith, page.low, page.high, slot_length-le seal P w j (σ j)))))

  -- both steps of a flush in page k: the content is flushed that far
  pub flushed_page : (bytes : List ℕ) (F : ℕ) (τ : ℕ → Bool) (c : List ℕ) (k f at : ℕ) (b : Bool) (chunk page : List ℕ) → page_at P k + (P + 12) < 2 ^ 64 → ((x : List ℕ) → seal x < 2 ^ 32) → P < 2 ^ 16 → 1 ≤ P → Flushed seal P bytes F τ c
      → F ≡ k * P + f → f < P → at ≡ page_at P k + f → length page ≡ f + length chunk → length page ≤ P → 1 ≤ length chunk → F + length chunk ≤ length bytes
      → ((i : ℕ) → i < length chunk → get_or chunk i 0 ≡ get_or bytes (F + i) 0) → ((i : ℕ) → i < length page → get_or page i 0 ≡ get_or bytes (k * P + i) 0)
      → Flushed seal P bytes (F + length chunk) (with_slot τ k b) (written (written c at chunk) (slot_at P k b) (slot_bytes seal P page))
  flushed_page bytes F τ c k f at b chunk page places fits small pos was is short start size end some room chunk_is page_is = record {
    fits = room;
    quiet = slot_quiet c1 k b six six_is (F + length chunk) (quiet_more P F (F + length chunk) (view c1) (omega arith) quiet1)
        (λ part. omega (arith, named_is, is, size));
    same = data2;
    covers = covered;
  }
    where
      six : List ℕ
      six = slot_bytes seal P page

      six_is : length (slot_bytes seal P page) ≡ 6
      six_is = length-slot_bytes page

      c1 : List ℕ
      c1 = written c at chunk

      c2 : List ℕ
      c2 = written (written c at chunk) (slot_at P k b) (slot_bytes seal P page)

      end1 : f + length chunk ≤ P
      end1 = omega (arith, size, end)

      quiet1 : Quiet P F (view (written c at chunk))
      quiet1 = data_quiet seal P bytes F c k f at chunk is short start end1 was.quiet

      data1 : Data P bytes (F + length chunk) (view (written c at chunk))
      data1 = data_same seal P bytes F c k f at chunk is short start end1 was.same chunk_is

      data2 : Data P bytes (F + length chunk) (view c2)
      data2 = slot_data_kept c1 k b six six_is bytes (F + length chunk) data1

      matches : slot_length seal P c2 k b ≡ length page
      matches = slot_matches c2 k b page (omega (arith, six_is, length-written c1 (slot_at P k b) (slot_bytes seal P page))) places fits end small (λ i lt. slot_is c1 k b six six_is i lt)
          (λ i lt. data2 k i (omega (arith, lt, end)) (omega (arith, lt, size, is)) ∙ sym (page_is i lt))

      named_is : named_length (view c2) (slot_at P k b) ≡ length page
      named_is = slot_named seal P c2 k b (omega (arith, matches, some, size)) ∙ matches

      picked : (j : ℕ) → j ≡ k → with_slot τ k b j ≡ b
      picked j is_k = ap (λ (t : Bool). cond t b (τ j)) (eq-eqb j k is_k)

      unpicked : (j : ℕ) → j ≢ k → with_slot τ k b j ≡ τ j
      unpicked j not_k = ap (λ (t : Bool). cond t b (τ j)) (ne_eqb j k not_k)

      before : (j : ℕ) → j ≢ k → j * P < F + length chunk → j * P + P ≤ F
      before j not_k lt = elim (cases_lt j k) [
        | inl less ↦ omega (arith, times_more j k P less, is)
        | inr le ↦ (let more : k < j = omega (arith, le, not_k) in absurd (omega (arith, times_more k j P more, lt, is, end1)))
      ]

      kept1 : (j : ℕ) (a : Bool) → j ≢ k → j * P + P ≤ F → slot_at P j a + 6 ≤ length c → slot_length seal P c1 j a ≡ slot_length seal P c j a
      kept1 j a not_k full stands = slot_same seal P c1 c j a (omega (arith, stands, length-written c at chunk)) stands (λ i lt. data_slots seal P bytes F c k f at chunk is short start end1 j a i lt)
          (λ i lt near. data_below seal P bytes F c k f at chunk is short start end1 j i near (omega (arith, near, full)))

      covered : Covers seal P c2 (F + length chunk) (with_slot τ k b)
      covered j lt = elim (cases_eq j k) [
        | inl is_k ↦ (let whole_is : slot_length seal P c2 j (with_slot τ k b j) ≡ length page = (ap (slot_length seal P c2 j) (picked j is_k) ∙ ap (λ (m : ℕ). slot_length seal P c2 m b) is_k ∙ matches) in
            omega (arith, whole_is, size, is, ap (λ (m : ℕ). m * P) is_k))
        | inr not_k ↦ (let full = before j not_k lt in
            let below : j * P < F = omega (arith, full, pos) in
            let was_whole : slot_at P j (τ j) + 6 ≤ length c = slot_stands seal P c j (τ j) (omega (arith, was.covers j below, below, pos)) in
            let whole_is : slot_length seal P c2 j (with_slot τ k b j) ≡ slot_length seal P c j (τ j) =
            ap (slot_length seal P c2 j) (unpicked j not_k) ∙ slot_kept c1 k b six six_is j (τ j) (λ e. absurd (not_k e)) (omega (arith, was_whole, length-written c at chunk)) ∙ kept1 j (τ j) not_k full was_whole in
            omega (arith, whole_is, full, was.covers j below))
      ]

  -- what is covered stands in the content
  pub covers_inside : (c : List ℕ) (F : ℕ) (σ : ℕ → Bool) → 1 ≤ P → Covers seal P c F σ → (i : ℕ) → Held seal P c F σ i → i < length c
  covers_inside c F σ pos covers i (j, lt, inl slot) = omega (arith, slot.high, slot_stands seal P c j (σ j) (omega (arith, covers j lt, lt, pos)))
  covers_inside c F σ pos covers i (j, lt, inr page) = omega (arith, page.high, slot_length-le seal P c j (σ j), slot_low P j (σ j), slot_stands seal P c j (σ j) (omega (arith, covers j lt, lt, pos)))

  -- a settled content stands
  pub settled_stands : (bytes : List ℕ) (F : ℕ) (σ : ℕ → Bool) (c : List ℕ) → 1 ≤ P → Covers seal P c F σ → Sound seal P bytes c → Stands seal P bytes c F σ (settled_at c)
  settled_stands bytes F σ c pos covers sound = record {
    guards = guards_settled (Held seal P c F σ) (view c) c (covers_inside c F σ pos covers) (λ i held. refl);
    all = (sound, tt);
  }

  -- a sync settles all that is flushed
  pub stands_settled : (bytes : List ℕ) (F : ℕ) (τ : ℕ → Bool) (c : List ℕ) → 1 ≤ P → Flushed seal P bytes F τ c → Stands seal P bytes c F τ (settled_at c)
  stands_settled bytes F τ c pos was = settled_stands bytes F τ c pos was.covers (tidy_sound seal P bytes F c was.fits was.quiet was.same)
