-- All sections of a map are opened: the store may be used, and holds exactly what is wanted.
use Rattle.std.specs.Prelude.{◌≡◌, ℕ, ◌+◌, ◌*◌, ◌^◌, ◌<◌, ◌≤◌, max, Bool, true, false, cond, List, [], Option, Some, None, IsSome, IsSomeAnd, IsTrue, unwrap_or, option_map}
use Rattle.std.proofs.Common.{inl, inr, refl, sym, ◌∙◌, ap, subst, arith}
use Rattle.std.proofs.lemmas.Bool.{cases_lt, lt-ltb}
use Rattle.std.proofs.lemmas.Option.{none-some}
use Rattle.blob_device.specs.Disk.{Blob, settled_at}
use Rattle.sealed_pages.specs.declared.write_blob.WriteBlob.{WriteBlob}
use Rattle.sealed_pages.specs.Entries.{IsOpenAt}
use Rattle.sealed_pages.specs.unsealed.Writing.{Over, blob_key, bytes_of, is_unsettled, shown, size_of}
use Rattle.sealed_pages.specs.lemmas.unsealed.Writing.{settled_parts}
use Rattle.ordinal_store.specs.Calls.{as_read}
use Rattle.ordinal_store.specs.Marking.{IsKept, IsMended, IsWhole, Marking, is_wanted}
use Rattle.ordinal_store.specs.Mending.{IsMade}
use Rattle.ordinal_store.specs.Restoring.{IsBack, RestoredAll}
use Rattle.ordinal_store.specs.Slots.{HoldsSlot, Layout, blob_of, content_at, count_in, place_of, position_of, section_of, slot_at, slot_size}
use Rattle.ordinal_store.specs.Stores.{IsCommitted, IsUsable, Sight, StandsOver, Store, bytes_in, has, now, slots_of}
use Rattle.ordinal_store.proofs.MendLemmas.{rested_bytes}
use Rattle.ordinal_store.proofs.PlaceLemmas.{same_truth}
use Rattle.ordinal_store.proofs.RestoreLemmas.{wanted_left}
use Rattle.ordinal_store.proofs.SeatLemmas.{not_true}
use Rattle.ordinal_store.proofs.SettledLemmas.{all_committed}
use Rattle.ordinal_store.proofs.StepLemmas.{section_small}

some_same : {T : Type 0} (a b : T) → ◌≡◌ {A = Option T} (Some a) (Some b) → a ≡ b
some_same a b same = cc same

-- a mended section that is whole, in the words of an opening
pub mended_of : (l : Layout) (marks : Option (List Bool)) (c m : List ℕ) → IsWhole l (Some marks) (Some c) → IsMade (slot_size l) marks c m → IsMended l (Some marks) c m
mended_of l None c m whole made = record {
  size = made.size_is;
  wanted = λ p wanted below. made.kept p below refl;
  cleared = λ p not below. absurd (whole.0 (elim (cases_lt p l.items) [
    | inl inside ↦ absurd (cc (sym not ∙ lt-ltb p l.items inside))
    | inr past ↦ omega (arith, past, below)
  ]));
}
mended_of l (Some bits) c m whole made = record {
  size = made.size_is;
  wanted = λ p wanted below. made.kept p below wanted;
  cleared = λ p not below. made.cleared p below not;
}

-- a wanted slot of a whole section stands in it
pub wanted_stands : (l : Layout) (marks : Option (List Bool)) (c : List ℕ) (p : ℕ) → IsWhole l (Some marks) (Some c) → is_wanted l.items (Some marks) p ≡ true → p < count_in l c
wanted_stands l None c p whole wanted = elim (cases_lt p (count_in l c)) [
  | inl below ↦ below
  | inr past ↦ absurd (whole.1 p wanted (inl (omega (arith, past))))
]
wanted_stands l (Some bits) c p whole wanted = elim (cases_lt p (count_in l c)) [
  | inl below ↦ below
  | inr past ↦ absurd (whole.1 p wanted (inl (omega (arith, past))))
]

module _ (told : Type 0) (l : Layout) (capacity : ℕ) (marking : Marking) (base v : Sight) (n : Store) (all : RestoredAll told l capacity marking base v n)
    (items : (1 ≤ l.items) × (l.items ≤ 2 ^ 40)) (width : (1 ≤ l.width) × (l.width ≤ 65535)) (no_other : told → (t : ℕ) → t < 2 ^ 64 → (IsKept l marking t → ⊥) → (now base (blob_of l t)).there ≡ false) where
  abbrev N : Store
  N = record { layout = l; capacity = capacity; ranges = n.ranges; buffers = n.buffers; written = n.written }

  as_n : N ≡ n
  as_n = λ i. record { layout = sym all.layout_is i; capacity = sym all.capacity_is i; ranges = n.ranges; buffers = n.buffers; written = n.written }

  -- the section of a buffer is back
  back_of : (t : ℕ) (u : WriteBlob) → n.buffers t ≡ Some u → IsBack told l capacity marking base n v t
  back_of t u is = elim (all.each t (all.number t (subst IsSome (sym is) refl)).0) [
    | inl back ↦ back
    | inr unkept ↦ absurd (none-some u (sym unkept.1.buffer ∙ is))
  ]

  -- what the buffer of a section that is back has, each buffer has
  of_back : (P : ℕ → WriteBlob → Type 0) → ((t : ℕ) (back : IsBack told l capacity marking base n v t) → P t back.u) → (t : ℕ) (u : WriteBlob) → n.buffers t ≡ Some u → P t u
  of_back P each t u is = let back = back_of t u is in subst (P t) (some_same back.u u (sym back.buffer ∙ is)) (each t back)

  held_back : (i : ℕ) → IsTrue (has n i) → IsBack told l capacity marking base n v (section_of l i)
  held_back i is = elim (all.each (section_of l i) (section_small l i (all.ranges_are.below i is))) [
    | inl back ↦ back
    | inr unkept ↦ absurd (cc (sym (unkept.1.held i refl) ∙ is))
  ]

  wanted_held : (i : ℕ) (is : IsTrue (has n i)) (back : IsBack told l capacity marking base n v (section_of l i)) → is_wanted l.items (Some back.marks) (position_of l i) ≡ true
  wanted_held i is back = (back.held i (all.ranges_are.below i is) refl).0 is

  clean_all : (t : ℕ) (u : WriteBlob) → n.buffers t ≡ Some u → is_unsettled (shown u) ≡ false
  clean_all = of_back (λ t u. is_unsettled (shown u) ≡ false) (λ t back. back.ready.rested.clean)

  stands_end : told → StandsOver N (now v)
  stands_end t = record {
    over = of_back (λ s u. Over (shown u) (now v (blob_of l s))) (λ s back. back.ready.over t);
    whose = λ s small there. elim (all.each s small) [
      | inl back ↦ subst IsSome (sym back.buffer) refl
      | inr unkept ↦ absurd (cc (sym (no_other t s small unkept.0) ∙ subst (λ (b : Blob). IsTrue b.there) (unkept.1.blob t) there))
    ];
  }

  usable_n : IsUsable N told v.opened (now v)
  usable_n = record {
    items = items;
    width = width;
    ranges = all.ranges_are;
    number = λ s some. (all.number s some).0;
    first = λ s some. (all.number s some).1;
    capacity = of_back (λ s u. u.capacity ≡ capacity) (λ s back. back.ready.rested.capacity_is);
    key = of_back (λ s u. blob_key (shown u) ≡ blob_of l s) (λ s back. back.ready.rested.key_is);
    is_open = of_back (λ s u. IsOpenAt v.opened (blob_of l s) u.end) (λ s back. back.ready.rested.is_open);
    room = λ i is. (let back = held_back i is in
        subst (λ (b : Option WriteBlob). IsSomeAnd b (λ u. place_of l i + slot_size l ≤ size_of (shown u))) (sym back.buffer) (back.room (position_of l i) (wanted_held i is back)).1);
    bounded = of_back (λ s u. size_of (shown u) ≤ max u.settled (l.items * slot_size l)) (λ s back. (let e = back.ready.rested.size in omega (arith, e)));
    unwritten = λ s u is un. clean_all s u is;
    disk = stands_end;
  }

  pub usable_end : IsUsable n told v.opened (now v)
  usable_end = subst (λ (x : Store). IsUsable x told v.opened (now v)) as_n usable_n

  -- exactly the wanted indices are held
  pub held_end : (j : ℕ) → j < 2 ^ 64 → has n j ≡ is_wanted l.items (marking (section_of l j)) (position_of l j)
  held_end j small = elim (all.each (section_of l j) (section_small l j small)) [
    | inl back ↦ same_truth (has n j) (is_wanted l.items (marking (section_of l j)) (position_of l j))
        (λ is. subst (λ (m : _). is_wanted l.items m (position_of l j) ≡ true) (sym back.marked) ((back.held j small refl).0 is))
        (λ wanted. (back.held j small refl).1 (subst (λ (m : _). is_wanted l.items m (position_of l j) ≡ true) back.marked wanted))
    | inr unkept ↦ unkept.1.held j refl ∙ sym (not_true (is_wanted l.items (marking (section_of l j)) (position_of l j)) (λ wanted. unkept.0 (section_small l j small, (position_of l j, wanted))))
  ]

  -- each with its bytes in the image that was opened
  slot_end : told → (j : ℕ) → IsTrue (has n j) → (back : IsBack told l capacity marking base n v (section_of l j)) → slots_of N (now v) j ≡ Some (slot_at (slot_size l) (now base (blob_of l (section_of l j))).content (position_of l j))
  slot_end t j is back =
      ap (λ (h : Bool). cond h (Some (slot_at (slot_size l) (bytes_in N (now v) (section_of l j)) (position_of l j))) None) is
      ∙ ap (λ (b : Option WriteBlob). Some (slot_at (slot_size l) (unwrap_or (option_map (λ u. bytes_of (shown u) (now v (blob_of l (section_of l j))).content) b) []) (position_of l j))) back.buffer
      ∙ ap (λ (c : List ℕ). Some (slot_at (slot_size l) c (position_of l j))) (rested_bytes back.u back.ready.rested.clean (now v (blob_of l (section_of l j))).content (sym (back.ready.size t)))
      ∙ ap (λ (c : List ℕ). Some c) ((back.made t).kept (position_of l j) (wanted_stands l back.marks (now base (blob_of l (section_of l j))).content (position_of l j) (back.whole t) (wanted_held j is back)) (wanted_left l.items back.marks (position_of l j) (wanted_held j is back)))

  read_base : told → (j : ℕ) (back : IsBack told l capacity marking base n v (section_of l j)) → content_at (as_read (now base)) (blob_of l (section_of l j)) ≡ (now base (blob_of l (section_of l j))).content
  read_base t j back = ap (λ (b : Bool). unwrap_or (cond b (Some (now base (blob_of l (section_of l j))).content) None) []) (back.there t)

  holds_n : told → (j : ℕ) (slot : List ℕ) (h : Bool) → has n j ≡ h → slots_of N (now v) j ≡ Some slot → HoldsSlot l (as_read (now base)) j slot
  holds_n t j slot true is found = let back = held_back j is in
      ap (λ (c : List ℕ). slot_at (slot_size l) c (position_of l j)) (read_base t j back) ∙ some_same (slot_at (slot_size l) (now base (blob_of l (section_of l j))).content (position_of l j)) slot (sym (slot_end t j is back) ∙ found)
  holds_n t j slot false is found = absurd (none-some slot (sym (ap (λ (h : Bool). cond h (Some (slot_at (slot_size l) (bytes_in N (now v) (section_of l j)) (position_of l j))) None) is) ∙ found))

  pub slots_end : told → (j : ℕ) (slot : List ℕ) → slots_of n (now v) j ≡ Some slot → HoldsSlot l (as_read (now base)) j slot
  slots_end t j slot found = holds_n t j slot (has n j) refl (subst (λ (x : Store). slots_of x (now v) j ≡ Some slot) (sym as_n) found)

  pub committed_end : told → (j : ℕ) (slot : List ℕ) → slots_of n (now v) j ≡ Some slot → IsCommitted n (now v) j slot
  committed_end t j slot found = all_committed told n v.opened (now v) usable_end t clean_all j slot found

  -- what is left of a kept section's blob
  pub mended_end : told → (t : ℕ) → IsKept l marking t → (m : List ℕ) × IsMended l (marking t) (now base (blob_of l t)).content m × (now v (blob_of l t) ≡ settled_at m)
  mended_end tells t kept = elim (all.each t kept.0) [
    | inl back ↦ (
      (now v (blob_of l t)).content,
      subst (λ (m : _). IsMended l m (now base (blob_of l t)).content (now v (blob_of l t)).content) (sym back.marked) (mended_of l back.marks (now base (blob_of l t)).content (now v (blob_of l t)).content (back.whole tells) (back.made tells)),
      (back.ready.over tells).clean (settled_parts (shown back.u) back.ready.rested.clean).0,
    )
    | inr unkept ↦ absurd (unkept.0 kept)
  ]

  pub whole_end : told → (t : ℕ) → IsKept l marking t → IsWhole l (marking t) (as_read (now base) (blob_of l t))
  whole_end tells t kept = elim (all.each t kept.0) [
    | inl back ↦ subst (λ (m : _). IsWhole l m (as_read (now base) (blob_of l t))) (sym back.marked)
        (subst (λ (b : Bool). IsWhole l (Some back.marks) (cond b (Some (now base (blob_of l t)).content) None)) (sym (back.there tells)) (back.whole tells))
    | inr unkept ↦ absurd (unkept.0 kept)
  ]

  kept_n : (j : ℕ) (slot : List ℕ) (now_is : Sight) (h : Bool) → has n j ≡ h → slots_of N (now now_is) j ≡ Some slot → IsKept l marking (section_of l j)
  kept_n j slot d true is found = let back = held_back j is in
      (section_small l j (all.ranges_are.below j is), (position_of l j, subst (λ (m : _). is_wanted l.items m (position_of l j) ≡ true) (sym back.marked) (wanted_held j is back)))
  kept_n j slot d false is found = absurd (none-some slot (sym (ap (λ (h : Bool). cond h (Some (slot_at (slot_size l) (bytes_in N (now d) (section_of l j)) (position_of l j))) None) is) ∙ found))

  pub kept_end : (j : ℕ) (slot : List ℕ) → slots_of n (now v) j ≡ Some slot → IsKept l marking (section_of l j)
  kept_end j slot found = kept_n j slot v (has n j) refl (subst (λ (x : Store). slots_of x (now v) j ≡ Some slot) (sym as_n) found)

  pub unkept_end : told → (t : ℕ) → t < 2 ^ 64 → (IsKept l marking t → ⊥) → now v (blob_of l t) ≡ now base (blob_of l t)
  unkept_end tells t small not = elim (all.each t small) [
    | inl back ↦ absurd (not (small, (back.wanted.0, subst (λ (m : _). is_wanted l.items m back.wanted.0 ≡ true) (sym back.marked) back.wanted.1)))
    | inr unkept ↦ unkept.1.blob tells
  ]
