-- What a write through the buffer of one section leaves of the slots that are quiet: the moments of a put and of a sync rest on this.
use Rattle.std.proofs.Common.{◌≡◌, ◌≢◌, ◌⊎◌, ℕ, ◌+◌, ◌<◌, ◌≤◌, List, [], ◌∷◌, Option, Some, IsSomeAnd, sym, ◌∙◌, ap, subst, arith}
use Rattle.blob_device.specs.Disk.{Disk, Key, Outside}
use Rattle.blob_device.specs.Timeline.{OnlyAt}
use Rattle.sealed_pages.specs.Sparing.{Spares}
use Rattle.sealed_pages.specs.View.{Within}
use Rattle.sealed_pages.specs.unsealed.Writing.{Over, run_of, shown}
use Rattle.sealed_pages.specs.declared.write_blob.WriteBlob.{WriteBlob}
use Rattle.ordinal_store.specs.Durable.{IsDurable, StandsFor}
use Rattle.ordinal_store.specs.Slots.{blob_of, place_of, position_of, section_of, slot_size}
use Rattle.ordinal_store.specs.Stores.{IsQuiet, IsQuietIn, Store, key_of}
use Rattle.ordinal_store.proofs.DurableLemmas.{stands_spared}
use Rattle.ordinal_store.proofs.MendingLemmas.{slots_apart}

module _ (o : Store) (s : ℕ) (u : WriteBlob) (at : o.buffers s ≡ Some u) (from d : Disk) (over : Over (shown u) (from (key_of o s))) (R : ℕ → Type 0)
    (only : OnlyAt (key_of o s) from (Spares R u.settled (from (key_of o s))) d) where
  quiet_here : (j : ℕ) → section_of o.layout j ≡ s → IsQuiet o j → IsQuietIn o.layout u j
  quiet_here j same quiet = subst (λ (b : Option WriteBlob). IsSomeAnd b (λ w. IsQuietIn o.layout w j)) (ap o.buffers same ∙ at) quiet

  -- a quiet slot of the section, whose places the write spares
  pub durable_here : (j : ℕ) (slot : List ℕ) → section_of o.layout j ≡ s → IsQuiet o j → ((i : ℕ) → Within (place_of o.layout j) (slot_size o.layout) i → R i) → IsDurable o.layout from j slot → IsDurable o.layout d j slot
  durable_here j slot same quiet spared durable =
      let q = quiet_here j same quiet in
      let key : blob_of o.layout (section_of o.layout j) ≡ key_of o s = ap (blob_of o.layout) same in
      record {
        index = durable.index;
        size = durable.size;
        stands = subst (λ (k : Key). StandsFor (place_of o.layout j) slot (d k)) (sym key)
            (stands_spared R u.settled (place_of o.layout j) slot (from (key_of o s)) (d (key_of o s)) over.lasts (omega (arith, q.settled, durable.size))
            (λ i w. spared i (record { low = w.low; high = omega (arith, w.high, durable.size) }))
            (subst (λ (k : Key). StandsFor (place_of o.layout j) slot (from k)) key durable.stands) only.here);
      }

  -- a slot of another section
  pub durable_there : (j : ℕ) (slot : List ℕ) → blob_of o.layout (section_of o.layout j) ≢ key_of o s → IsDurable o.layout from j slot → IsDurable o.layout d j slot
  durable_there j slot other durable = record {
    index = durable.index;
    size = durable.size;
    stands = subst (λ (b : _). StandsFor (place_of o.layout j) slot b) (sym (only.others (blob_of o.layout (section_of o.layout j)) other)) durable.stands;
  }

  -- a write over the slot of one index spares the quiet slots of the others in the section
  pub put_spares : (i j n : ℕ) → R ≡ Outside ((place_of o.layout i, n) ∷ run_of (shown u) ∷ []) → n ≡ slot_size o.layout → section_of o.layout j ≡ s → position_of o.layout i ≢ position_of o.layout j → IsQuiet o j
      → (k : ℕ) → Within (place_of o.layout j) (slot_size o.layout) k → R k
  put_spares i j n is size same apart quiet k w =
      let q = quiet_here j same quiet in
      let out : (k < place_of o.layout i) ⊎ (place_of o.layout i + slot_size o.layout ≤ k) = slots_apart (position_of o.layout i) (position_of o.layout j) (slot_size o.layout) k apart w in
      subst (λ (Q : ℕ → Type 0). Q k) (sym is) (subst (λ (m : ℕ). (k < place_of o.layout i) ⊎ (place_of o.layout i + m ≤ k)) (sym size) out, q.apart k w)
