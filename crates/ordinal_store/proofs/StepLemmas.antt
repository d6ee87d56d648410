-- One step of a store: the buffer of one section changes, and no other blob does. Puts and syncs are made of such steps.
use Rattle.std.proofs.Common.{◌≡◌, ◌≢◌, inl, inr, ℕ, ◌+◌, ◌*◌, ◌^◌, ◌<◌, ◌≤◌, max, Bool, true, false, cond, List, [], ◌∷◌, length, Option, Some, None, IsSomeAnd, refl, sym, ◌∙◌, ap, subst, arith}
use Rattle.std.specs.Prelude.{IsTrue, IsSome, option_map, unwrap_or}
use Rattle.std.specs.List.{AllByRecursion}
use Rattle.std.specs.Int.{w64, from_be_bytes}
use Rattle.std.proofs.lemmas.Bool.{cases_eq}
use Rattle.std.proofs.lemmas.Nat.{from_be_bytes-to_be_bytes_8}
use Rattle.std.proofs.Math.Nat.{div-le_self}
use Rattle.blob_device.specs.Disk.{Blob, Disk, Key, greatest}
use Rattle.blob_device.specs.Opened.{OpenedList}
use Rattle.blob_device.specs.Timeline.{Always, Timeline, disk}
use Rattle.blob_device.specs.lemmas.Moments.{always_then, always_weaker}
use Rattle.sealed_pages.specs.declared.write_blob.WriteBlob.{WriteBlob}
use Rattle.sealed_pages.specs.Entries.{IsOpenAt}
use Rattle.sealed_pages.specs.unsealed.Writing.{Over, blob_key, bytes_of, is_unsettled, shown, size_of}
use Rattle.ordinal_store.specs.Durable.{Stays}
use Rattle.ordinal_store.specs.Ranges.{AreRanges, set_of}
use Rattle.ordinal_store.specs.Slots.{Layout, place_of, position_of, section_key, section_of, slot_at, slot_size}
use Rattle.ordinal_store.specs.Stores.{IsUsable, StandsOver, Store, bytes_in, has, key_of, slots_of}

pub key_injective : (partition : List ℕ) (s t : ℕ) → s < 2 ^ 64 → t < 2 ^ 64 → section_key partition s ≡ section_key partition t → s ≡ t
key_injective partition s t s_small t_small is =
    sym (from_be_bytes-to_be_bytes_8 s s_small) ∙ ap (λ (k : Key). from_be_bytes w64 k.1) is ∙ from_be_bytes-to_be_bytes_8 t t_small

pub keys_differ : (partition : List ℕ) (s t : ℕ) → s < 2 ^ 64 → t < 2 ^ 64 → s ≢ t → section_key partition s ≢ section_key partition t
keys_differ partition s t s_small t_small other is = other (key_injective partition s t s_small t_small is)

-- an index has a section below the end of the numbers
pub section_small : (l : Layout) (i : ℕ) → i < 2 ^ 64 → section_of l i < 2 ^ 64
section_small l i small = omega (arith, small, div-le_self i l.items)

-- no content since is longer, where all of them are no longer
pub longest_of : (n : ℕ) (c : List ℕ) (cs : List (List ℕ)) → AllByRecursion (λ (x : List ℕ). length x ≤ n) (c ∷ cs) → greatest (length c) cs ≤ n
longest_of n c [] all = all.0
longest_of n c (x ∷ xs) all = omega (arith, all.1.0, longest_of n c xs (all.0, all.1.1))

pub all_short : (n m : ℕ) (cs : List (List ℕ)) → greatest m cs ≤ n → (m ≤ n) × AllByRecursion (λ (x : List ℕ). length x ≤ n) cs
all_short n m [] most = (most, tt)
all_short n m (x ∷ xs) most = let rest = all_short n m xs (omega (arith, most)) in (rest.0, (omega (arith, most), rest.1))

-- What a call leaves at each moment, and then another.
pub stays_from : (l : Layout) (A B : ℕ → Type 0) (M N : Key → Type 0) (from mid d : Disk) → ((i : ℕ) → A i → B i) → ((q : Key) → N q → M q) → Stays l A M from mid → Stays l B N mid d → Stays l A M from d
stays_from l A B M N from mid d spared touched first second = record {
  slots = λ i slot a durable. second.slots i slot (spared i a) (first.slots i slot a durable);
  bounded = λ q n room short. second.bounded q n room (first.bounded q n room short);
  others = λ q out. second.others q (λ n. out (touched q n)) ∙ first.others q out;
}

pub stays_then : (l : Layout) (A B : ℕ → Type 0) (M N : Key → Type 0) (t0 t1 t2 : Timeline) → ((i : ℕ) → A i → B i) → ((q : Key) → N q → M q) → Always t0 t1 (Stays l A M (disk t0)) → Always t1 t2 (Stays l B N (disk t1)) → Always t0 t2 (Stays l A M (disk t0))
stays_then l A B M N t0 t1 t2 spared touched first second =
    always_then t0 t1 t2 (Stays l A M (disk t0)) first
    (always_weaker t1 t2 (Stays l B N (disk t1)) (Stays l A M (disk t0))
    (λ d later. stays_from l A B M N (disk t0) (disk t1) d spared touched (first.each (2 * t1.calls) (omega (arith, first.later)) (omega arith)) later) second)

pub stays_start : (l : Layout) (A : ℕ → Type 0) (M : Key → Type 0) (d : Disk) → Stays l A M d d
stays_start l A M d = record { slots = λ i slot a durable. durable; bounded = λ q n room short. short; others = λ q out. refl }

module _ (told : Type 0) (o : Store) (s : ℕ) (small : s < 2 ^ 64) (v : WriteBlob) (ranges : List (ℕ × ℕ)) (buffers : ℕ → Option WriteBlob) (written : ℕ → Bool)
    (at : buffers s ≡ Some v) (beside : (t : ℕ) → t ≢ s → buffers t ≡ o.buffers t) where
  abbrev after : Store
  after = record { layout = o.layout; capacity = o.capacity; ranges = ranges; buffers = buffers; written = written }

  the_one : (t : ℕ) (u : WriteBlob) → t ≡ s → buffers t ≡ Some u → u ≡ v
  the_one t u is here = sym (ap (λ (b : Option WriteBlob). unwrap_or b v) (sym at ∙ ap buffers (sym is) ∙ here))

  -- what the section's buffer has, and each other had, each has
  each : (P : ℕ → WriteBlob → Type 0) → P s v → ((t : ℕ) (u : WriteBlob) → t ≢ s → o.buffers t ≡ Some u → P t u) → (t : ℕ) (u : WriteBlob) → buffers t ≡ Some u → P t u
  each P here there t u is = elim (cases_eq t s) [
    | inl same ↦ subst (λ (n : ℕ). P n u) (sym same) (subst (P s) (sym (the_one t u same is)) here)
    | inr other ↦ there t u other (sym (beside t other) ∙ is)
  ]

  -- What has to be known of a step for the store to be usable after it: of its indices, of the section's buffer, of the device.
  pub record Replaces (a b : OpenedList) (d e : Disk) : Type 0 where
    pub usable : IsUsable o told a d
    pub are_ranges : AreRanges ranges
    pub held : (i : ℕ) → section_of o.layout i ≢ s → IsTrue (set_of ranges i) → IsTrue (has o i)
    pub room : (i : ℕ) → section_of o.layout i ≡ s → IsTrue (set_of ranges i) → place_of o.layout i + slot_size o.layout ≤ size_of (shown v)
    pub first : s * o.layout.items < 2 ^ 64
    pub capacity : v.capacity ≡ o.capacity
    pub key : blob_key (shown v) ≡ key_of o s
    pub is_open : IsOpenAt b (key_of o s) v.end
    pub bounded : size_of (shown v) ≤ max v.settled (o.layout.items * slot_size o.layout)
    pub unwritten : written s ≡ false → is_unsettled (shown v) ≡ false
    pub others_unwritten : (t : ℕ) → t ≢ s → written t ≡ false → o.written t ≡ false
    pub entries : (q : Key) → q ≢ key_of o s → b q ≡ a q
    pub over : told → Over (shown v) (e (key_of o s))
    pub others : told → (q : Key) → q ≢ key_of o s → e q ≡ d q

  module _ (a b : OpenedList) (d e : Disk) (step : Replaces a b d e) where
    other_key : (t : ℕ) → t < 2 ^ 64 → t ≢ s → key_of o t ≢ key_of o s
    other_key t t_small other = keys_differ o.layout.partition t s t_small small other

    of_some : (t : ℕ) (u : WriteBlob) → o.buffers t ≡ Some u → t < 2 ^ 64
    of_some t u is = step.usable.number t (subst IsSome (sym is) refl)

    stands : told → StandsOver after e
    stands tells = record {
      over = each (λ t u. Over (shown u) (e (key_of o t))) (step.over tells)
          (λ t u other is. subst (Over (shown u)) (sym (step.others tells (key_of o t) (other_key t (of_some t u is) other))) ((step.usable.disk tells).over t u is));
      whose = λ t t_small there. elim (cases_eq t s) [
        | inl same ↦ subst IsSome (sym (ap buffers same ∙ at)) refl
        | inr other ↦ subst IsSome (sym (beside t other)) ((step.usable.disk tells).whose t t_small (subst (λ (x : Blob). IsTrue x.there) (step.others tells (key_of o t) (other_key t t_small other)) there))
      ];
    }

    pub usable_after : IsUsable after told b e
    usable_after = record {
      items = step.usable.items;
      width = step.usable.width;
      ranges = step.are_ranges;
      number = λ t some. elim (cases_eq t s) [
        | inl same ↦ subst (λ (n : ℕ). n < 2 ^ 64) (sym same) small
        | inr other ↦ step.usable.number t (subst IsSome (beside t other) some)
      ];
      first = λ t some. elim (cases_eq t s) [
        | inl same ↦ subst (λ (n : ℕ). n * o.layout.items < 2 ^ 64) (sym same) step.first
        | inr other ↦ step.usable.first t (subst IsSome (beside t other) some)
      ];
      capacity = each (λ t u. u.capacity ≡ o.capacity) step.capacity (λ t u other is. step.usable.capacity t u is);
      key = each (λ t u. blob_key (shown u) ≡ key_of o t) step.key (λ t u other is. step.usable.key t u is);
      is_open = each (λ t u. IsOpenAt b (key_of o t) u.end) step.is_open
          (λ t u other is. subst (λ (x : _). IsSomeAnd x (λ y. y.len ≡ u.end)) (sym (step.entries (key_of o t) (other_key t (of_some t u is) other))) (step.usable.is_open t u is));
      room = λ i held. elim (cases_eq (section_of o.layout i) s) [
        | inl same ↦ subst (λ (x : Option WriteBlob). IsSomeAnd x (λ u. place_of o.layout i + slot_size o.layout ≤ size_of (shown u))) (sym (ap buffers same ∙ at)) (step.room i same held)
        | inr other ↦ subst (λ (x : Option WriteBlob). IsSomeAnd x (λ u. place_of o.layout i + slot_size o.layout ≤ size_of (shown u))) (sym (beside (section_of o.layout i) other)) (step.usable.room i (step.held i other held))
      ];
      bounded = each (λ t u. size_of (shown u) ≤ max u.settled (o.layout.items * slot_size o.layout)) step.bounded (λ t u other is. step.usable.bounded t u is);
      unwritten = each (λ t u. written t ≡ false → is_unsettled (shown u) ≡ false) step.unwritten (λ t u other is un. step.usable.unwritten t u is (step.others_unwritten t other un));
      disk = stands;
    }

    -- the slots of other sections are as before
    pub slots_there : told → (j : ℕ) → section_of o.layout j ≢ s → has after j ≡ has o j → slots_of after e j ≡ slots_of o d j
    slots_there tells j other same = elim (has o j) as (λ (h : Bool). has o j ≡ h → slots_of after e j ≡ slots_of o d j) [
      | true ↦ λ is.
          (let far : key_of o (section_of o.layout j) ≢ key_of o s = other_key (section_of o.layout j) (section_small o.layout j (step.usable.ranges.below j (subst IsTrue (sym is) refl))) other in
          let bytes : bytes_in after e (section_of o.layout j) ≡ bytes_in o d (section_of o.layout j) =
          ap (λ (x : Option WriteBlob). unwrap_or (option_map (λ u. bytes_of (shown u) (e (key_of o (section_of o.layout j))).content) x) []) (beside (section_of o.layout j) other)
          ∙ ap (λ (x : Blob). unwrap_or (option_map (λ u. bytes_of (shown u) x.content) (o.buffers (section_of o.layout j))) []) (step.others tells (key_of o (section_of o.layout j)) far) in
          ap (λ (c : List ℕ). cond (has after j) (Some (slot_at (slot_size o.layout) c (position_of o.layout j))) None) bytes
          ∙ ap (λ (h : Bool). cond h (Some (slot_at (slot_size o.layout) (bytes_in o d (section_of o.layout j)) (position_of o.layout j))) None) same)
      | false ↦ λ is.
          ap (λ (h : Bool). cond h (Some (slot_at (slot_size o.layout) (bytes_in after e (section_of o.layout j)) (position_of o.layout j))) None) (same ∙ is)
          ∙ sym (ap (λ (h : Bool). cond h (Some (slot_at (slot_size o.layout) (bytes_in o d (section_of o.layout j)) (position_of o.layout j))) None) is)
    ] refl

    -- a slot of the section is what the new buffer has there
    pub slots_here : (j : ℕ) → section_of o.layout j ≡ s → has after j ≡ true → slots_of after e j ≡ Some (slot_at (slot_size o.layout) (bytes_of (shown v) (e (key_of o s)).content) (position_of o.layout j))
    slots_here j same is =
        let bytes : bytes_in after e (section_of o.layout j) ≡ bytes_of (shown v) (e (key_of o s)).content =
        ap (λ (n : ℕ). bytes_in after e n) same ∙ ap (λ (x : Option WriteBlob). unwrap_or (option_map (λ u. bytes_of (shown u) (e (key_of o s)).content) x) []) at in
        ap (λ (c : List ℕ). cond (has after j) (Some (slot_at (slot_size o.layout) c (position_of o.layout j))) None) bytes
        ∙ ap (λ (h : Bool). cond h (Some (slot_at (slot_size o.layout) (bytes_of (shown v) (e (key_of o s)).content) (position_of o.layout j))) None) is
