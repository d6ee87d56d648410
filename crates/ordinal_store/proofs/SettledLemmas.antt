-- A sync through the buffer of one section, at each moment; and a store in which all has settled: what it holds is committed.
use Rattle.std.proofs.Common.{◌≡◌, inl, inr, ℕ, ◌+◌, ◌-◌, ◌*◌, ◌^◌, ◌<◌, ◌≤◌, max, Bool, true, false, cond, List, [], ◌∷◌, length, get_or, drop, Option, Some, None, IsSomeAnd, refl, sym, ◌∙◌, ap, subst, arith, length-take-le, length-drop}
use Rattle.std.specs.Prelude.{option_map, unwrap_or}
use Rattle.std.proofs.lemmas.Bool.{cases_eq}
use Rattle.std.proofs.lemmas.List.{get_or-take, get_or-drop}
use Rattle.blob_device.specs.Disk.{Blob, Disk, Key, Outside, longest}
use Rattle.blob_device.specs.Opened.{OpenedList}
use Rattle.blob_device.specs.Timeline.{Always, OnlyAt, Timeline, disk}
use Rattle.blob_device.specs.lemmas.Guards.{guards_settled}
use Rattle.sealed_pages.specs.lemmas.unsealed.Lasting.{outside_none}
use Rattle.sealed_pages.specs.lemmas.unsealed.Writing.{idle_parts, settled_parts}
use Rattle.blob_device.specs.lemmas.Puts.{same_or_other}
use Rattle.sealed_pages.specs.Contents.{AddsOnly}
use Rattle.sealed_pages.specs.Sparing.{Spares, Sparing}
use Rattle.sealed_pages.specs.View.{Within}
use Rattle.sealed_pages.specs.unsealed.Writing.{Over, bytes_of, is_unsettled, run_of, shown, size_of}
use Rattle.sealed_pages.specs.declared.write_blob.WriteBlob.{WriteBlob}
use Rattle.ordinal_store.specs.Durable.{IsDurable, StandsFor, Stays}
use Rattle.ordinal_store.specs.Slots.{place_of, position_of, section_of, slot_at, slot_size}
use Rattle.ordinal_store.specs.Stores.{IsCommitted, IsQuiet, IsQuietIn, IsUsable, Store, has, key_of, slots_of}
use Rattle.ordinal_store.proofs.PutLemmas.{bytes_short, short_since}
use Rattle.ordinal_store.proofs.StayLemmas.{durable_here, durable_there}
use Rattle.ordinal_store.proofs.StepLemmas.{keys_differ, section_small}
use Rattle.blob_device.specs.Lengths.{length-written}
use Rattle.blob_device.specs.Places.{written_out}

module _ (o : Store) (s : ℕ) (small : s < 2 ^ 64) (u : WriteBlob) (at : o.buffers s ≡ Some u) (t0 t1 : Timeline) (over : Over (shown u) (disk t0 (key_of o s)))
    (bounded : size_of (shown u) ≤ max u.settled (o.layout.items * slot_size o.layout)) (spares : Sparing (Outside (run_of (shown u) ∷ [])) u.settled (key_of o s) t0 t1)
    (adds : AddsOnly (bytes_of (shown u) (disk t0 (key_of o s)).content ∷ []) (key_of o s) t0 t1) where
  abbrev R : ℕ → Type 0
  R = Outside (run_of (shown u) ∷ [])

  quiet_in : (j : ℕ) → section_of o.layout j ≡ s → IsQuiet o j → IsQuietIn o.layout u j
  quiet_in j same quiet = subst (λ (b : Option WriteBlob). IsSomeAnd b (λ w. IsQuietIn o.layout w j)) (ap o.buffers same ∙ at) quiet

  kept : (d : Disk) → OnlyAt (key_of o s) (disk t0) (Spares R u.settled (disk t0 (key_of o s))) d → (j : ℕ) (slot : List ℕ) → IsQuiet o j → IsDurable o.layout (disk t0) j slot → IsDurable o.layout d j slot
  kept d only j slot quiet durable = elim (cases_eq (section_of o.layout j) s) [
    | inl same ↦ durable_here o s u at (disk t0) d over R only j slot same quiet (quiet_in j same quiet).apart durable
    | inr other ↦ durable_there o s u at (disk t0) d over R only j slot (keys_differ o.layout.partition (section_of o.layout j) s (section_small o.layout j durable.index) small other) durable
  ]

  -- at each moment of the sync
  pub stays_synced : Always t0 t1 (Stays o.layout (IsQuiet o) (λ q. q ≡ key_of o s) (disk t0))
  stays_synced = record {
    later = spares.later;
    kept = spares.kept;
    each = λ m lo hi. let only = spares.each m lo hi in record {
      slots = kept (t1.at m) only;
      bounded = λ q n room short. elim (same_or_other q (key_of o s)) [
        | inl same ↦ subst (λ (k : Key). longest (t1.at m k) ≤ n) (sym same)
            (let short_here : longest (disk t0 (key_of o s)) ≤ n = subst (λ (k : Key). longest (disk t0 k) ≤ n) same short in
            short_since o s small u at t0 t1 over bounded _ n (bytes_short o s small u at t0 t1 over bounded n room short_here, tt) short_here adds m lo hi)
        | inr other ↦ subst (λ (b : _). longest b ≤ n) (sym (only.others q other)) short
      ];
      others = λ q out. only.others q out;
    };
  }

module _ (told : Type 0) (o : Store) (opened : OpenedList) (d : Disk) (usable : IsUsable o told opened d) (tells : told) (clean : (s : ℕ) (u : WriteBlob) → o.buffers s ≡ Some u → is_unsettled (shown u) ≡ false) where
  module _ (j : ℕ) (small : j < 2 ^ 64) (u : WriteBlob) (at : o.buffers (section_of o.layout j) ≡ Some u) (room : place_of o.layout j + slot_size o.layout ≤ size_of (shown u)) where
    abbrev place : ℕ
    place = place_of o.layout j

    abbrev size : ℕ
    size = slot_size o.layout

    abbrev b : Blob
    b = d (key_of o (section_of o.layout j))

    abbrev bytes : List ℕ
    bytes = bytes_of (shown u) b.content

    abbrev stored : List ℕ
    stored = slot_at size bytes (position_of o.layout j)

    over : Over (shown u) b
    over = (usable.disk tells).over (section_of o.layout j) u at

    dirty : u.dirty ≡ false
    dirty = (settled_parts (shown u) (clean (section_of o.layout j) u at)).0

    idle : (u.pending.items ≡ []) × (u.at ≤ u.end)
    idle = idle_parts (shown u) (settled_parts (shown u) (clean (section_of o.layout j) u at)).1

    reach : place + size ≤ u.settled
    reach = omega (arith, room, u.rests dirty, idle.1, ap length idle.0)

    as_blob : (k : ℕ) → get_or bytes k 0 ≡ get_or b.content k 0
    as_blob k = written_out b.content u.at u.pending.items k (outside_none (shown u) idle.0 k).0

    long : length stored ≡ size
    long = length-take-le size (drop place bytes) (omega (arith, length-drop place bytes, length-written b.content u.at u.pending.items, reach, over.lasts.long))

    stands_at : (k : ℕ) → Within place (length stored) k → get_or b.content k 0 ≡ get_or stored (k - place) 0
    stands_at k w =
        let back : place + (k - place) ≡ k = omega (arith, w.low) in
        sym (as_blob k) ∙ ap (λ (m : ℕ). get_or bytes m 0) (sym back) ∙ sym (get_or-drop place bytes (k - place) 0)
        ∙ sym (get_or-take size (drop place bytes) (k - place) 0 (omega (arith, w.low, w.high, long)))

    committed_here : IsCommitted o d j stored
    committed_here = record {
      quiet = subst (λ (x : Option WriteBlob). IsSomeAnd x (λ w. IsQuietIn o.layout w j)) (sym at) (record { settled = reach; apart = λ k w. outside_none (shown u) idle.0 k });
      durable = record {
        index = small;
        size = long;
        stands = subst (StandsFor place stored) (sym (over.clean dirty))
            (guards_settled (Within place (length stored)) (λ k. get_or stored (k - place) 0) b.content (λ k w. omega (arith, w.high, long, reach, over.lasts.long)) stands_at);
      };
    }

    here : has o j ≡ true → slots_of o d j ≡ Some stored
    here is = ap (λ (x : Option WriteBlob). cond (has o j) (Some (slot_at size (unwrap_or (option_map (λ w. bytes_of (shown w) b.content) x) []) (position_of o.layout j))) None) at
        ∙ ap (λ (h : Bool). cond h (Some stored) None) is

  held_committed : (j : ℕ) (slot : List ℕ) → has o j ≡ true → (x : Option WriteBlob) → o.buffers (section_of o.layout j) ≡ x → IsSomeAnd x (λ u. place_of o.layout j + slot_size o.layout ≤ size_of (shown u)) → slots_of o d j ≡ Some slot → IsCommitted o d j slot
  held_committed j slot is None at room found = absurd room
  held_committed j slot is (Some u) at room found =
      let small : j < 2 ^ 64 = usable.ranges.below j is in
      subst (IsCommitted o d j) (ap (λ (x : Option (List ℕ)). unwrap_or x []) (sym (here j small u at room is) ∙ found)) (committed_here j small u at room)

  -- Where nothing is unsettled, all that is held is committed.
  pub all_committed : (j : ℕ) (slot : List ℕ) → slots_of o d j ≡ Some slot → IsCommitted o d j slot
  all_committed j slot stored = elim (has o j) as (λ (h : Bool). has o j ≡ h → IsCommitted o d j slot) [
    | true ↦ λ is. held_committed j slot is (o.buffers (section_of o.layout j)) refl (usable.room j is) stored
    | false ↦ λ is. absurd (cc (sym stored ∙ ap (λ (h : Bool). cond h (Some (slot_at (slot_size o.layout) (unwrap_or (option_map (λ w. bytes_of (shown w) (d (key_of o (section_of o.layout j))).content) (o.buffers (section_of o.layout j))) []) (position_of o.layout j))) None) is))
  ] refl
