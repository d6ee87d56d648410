-- A pair some of whose sections were synced, first their records, then their values: it may be used, is as sound as it was, and has its lists.
use Rattle.std.proofs.Common.{◌≡◌, ◌⊎◌, inl, inr, ℕ, ◌+◌, ◌*◌, ◌/◌, ◌^◌, ◌<◌, ◌≤◌, List, [], ◌∷◌, take, Option, None, Some, IsSome, unwrap_or, IsTrue, refl, sym, ◌∙◌, ap, subst, arith}
use Rattle.std.specs.Prelude.{◌↔◌, zero, suc, Ok}
use Rattle.std.specs.List.{AllByRecursion}
use Rattle.std.proofs.lemmas.Nat.{div_below}
use Rattle.std.proofs.Math.Nat.{div-mul-le_self}
use Rattle.blob_device.specs.Disk.{Key, Blob, Disk, settled_at, longest}
use Rattle.blob_device.specs.Opened.{OpenedList}
use Rattle.sealed_pages.specs.declared.page_blob.PageBlob.{PageBlob}
use Rattle.sealed_pages.specs.declared.write_blob.WriteBlob.{WriteBlob}
use Rattle.section_manager.specs.declared.buffer.SectionBuffer as buffer
use Rattle.section_manager.specs.declared.unsealed.WriteFactory.{WriteFactory}
use Rattle.section_manager.specs.Sections.{Sections, section_key, key_of, IsHeld, IsKeyOf}
use Rattle.section_manager.specs.Setting.{Setting}
use Rattle.segments.specs.FixedLists.{Lists, IsJournal}
use Rattle.segments.specs.FixedLists as fixed
use Rattle.paired.specs.lemmas.Glob.{buffers}
use Rattle.paired.specs.lemmas.Kept.{follow_least}
use Rattle.segments.specs.lemmas.adding.Write.{ArePages}
use Rattle.value_codec.specs.declared.key.Key8.{Key8}
use Rattle.meta_store.specs.declared.error.Side.{Side}
use Rattle.meta_store.specs.declared.error.Side.TheVariants.{Left, Right}
use Rattle.meta_store.specs.Blobs.{blob_of}
use Rattle.meta_store.specs.Format.{Format}
use Rattle.meta_store.specs.Pairs.{ReadsPair}
use Rattle.meta_store.specs.Store.{Store, Stands, chosen_by, contents_of}
use Rattle.paired.specs.glob.Sections.{IsGlob}
use Rattle.paired.specs.glob.Sections as glob
use Rattle.paired.specs.Places.{Follow, end_of}
use Rattle.paired.specs.Records.{records, entries_of, is_sound}
use Rattle.paired.specs.Kept.{IsMarked, marker_of}
use Rattle.paired.specs.Pair.{Pair, IsPair, IsSoundOn, list_of, length_of, synced_length}
use Rattle.paired.specs.Tracked.{Tracked}
use Rattle.paired.proofs.tracking.Lemmas.{Noted}
use Rattle.paired.proofs.pair.Stays.{journal_stays}
use Rattle.paired.proofs.pair.Sections.{other_partition, glob_kept, IndexSynced, ValuesSynced, index_blob, index_held, index_none, index_size, index_bytes, index_settled, values_held_same, values_size, values_settled}
use Rattle.meta_store.specs.declared.copy.Contents.{Contents}
use Rattle.blob_device.proofs.general.Options.{none_or_value, value_of}
use Rattle.paired.specs.lemmas.pair.Synced.{Here, unmarked_zero}

-- ---- markers and places

-- the places of the first records end no later than those of all
pub end_within : (place : List ℕ → ℕ × ℕ) (k at : ℕ) (rs : List (List ℕ)) (end : ℕ) → Follow place at rs end → end_of place at (take k rs) ≤ end
end_within place zero at rs end follow = follow_least place at rs end follow
end_within place (suc k) at [] end follow = omega (arith, follow)
end_within place (suc k) at (r ∷ rs) end follow = end_within place k (at + (place r).1) rs end follow.2

no_length : (size : ℕ) → 1 ≤ size → 0 / size ≡ 0
no_length size pos = omega (arith, div_below 0 size 1 (omega (arith, pos)) (omega (arith, pos)))

-- a map stands where its blobs are as they were
pub store_stays : {K V : Type 0} (f : Format K V) (u : Store K V) (synced : Contents K V) (d e : Disk) → ((side : Side) → e (blob_of u.partition side) ≡ d (blob_of u.partition side)) → Stands f u synced d → Stands f u synced e
store_stays f u synced d e same stands = record {
  left = subst (λ (b : Blob). b ≡ settled_at b.content) (sym (same Left)) stands.left;
  right = subst (λ (b : Blob). b ≡ settled_at b.content) (sym (same Right)) stands.right;
  pair = subst (λ (b : Blob). ReadsPair f b.content (e (blob_of u.partition Right)).content (Ok (chosen_by u synced))) (sym (same Left))
      (subst (λ (b : Blob). ReadsPair f (d (blob_of u.partition Left)).content b.content (Ok (chosen_by u synced))) (sym (same Right)) stands.pair);
  fresh = stands.fresh;
}

-- what a pair's markers show
abbrev pub tracked_of : {F B : Type 0} → Pair F B → Tracked
tracked_of p = record { store = p.store; trailing = p.trailing }

abbrev pub made : {F B : Type 0} → Pair F B → Lists F B → Sections WriteFactory WriteBlob → (ℕ → Option ℕ) → List ℕ → List ℕ → List ℕ → ℕ → Store Key8 ℕ → Pair F B
made p j n t x y z k w = record { layout = record p.layout { index = x; values = y; metadata = z; page_size = k }; index = j; values = n; store = w; trailing = t }

-- the same pair, by the parts of its layout and its markers
pub pair_as : {F B : Type 0} (p : Pair F B) (index values metadata : List ℕ) (size : ℕ) (j : Lists F B) (n : Sections WriteFactory WriteBlob) (u v : Store Key8 ℕ) (t : ℕ → Option ℕ)
    → index ≡ p.layout.index → values ≡ p.layout.values → metadata ≡ p.layout.metadata → size ≡ p.layout.page_size → u ≡ v
    → record p { index = j; values = n; store = v; trailing = t } ≡ record { layout = record p.layout { index = index; values = values; metadata = metadata; page_size = size }; index = j; values = n; store = u; trailing = t }
pair_as p index values metadata size j n u v t index_is values_is metadata_is size_is store_is =
    ap (λ (x : List ℕ). made p j n t x p.layout.values p.layout.metadata p.layout.page_size v) (sym index_is) ∙ ap (λ (x : List ℕ). made p j n t index x p.layout.metadata p.layout.page_size v) (sym values_is)
    ∙ ap (λ (x : List ℕ). made p j n t index values x p.layout.page_size v) (sym metadata_is) ∙ ap (λ (x : ℕ). made p j n t index values metadata x v) (sym size_is) ∙ ap (made p j n t index values metadata size) (sym store_is)

-- the values before their sync
pub values_ready : {F S : Type 0} {gs : _} (g : buffer.Ghosts (PageBlob S gs)) (gives : F → Setting) {takes : WriteFactory → Setting} (told : Type 0) (p : Pair F (PageBlob S gs)) (IsNamed : ℕ → Type 0) (k : Lists F (PageBlob S gs))
    (o0 o1 : OpenedList) (d0 d1 : Disk) → Here gives p → IsPair g gives buffers takes told p o0 d0 → IndexSynced g told IsNamed p.index k o0 o1 d0 d1 → IsGlob buffers takes told p.values o1 d1
values_ready g gives told p IsNamed k o0 o1 d0 d1 here pair index = glob_kept p.values o0 o1 d0 d1 (λ s. index.entries (key_of p.values s) (apart s)) (λ x s. index.blobs x (key_of p.values s) (apart s)) pair.values
  where
    apart : (s : ℕ) → IsKeyOf p.index.sections (λ s. IsNamed s × IsHeld p.index.sections s) (key_of p.values s) → ⊥
    apart s = other_partition p.index.sections (λ s. IsNamed s × IsHeld p.index.sections s) p.layout.index (key_of p.values s) here.index (λ is. pair.apart.values (sym is ∙ here.values))

-- of a section that is not held nothing is there to sync
pub unheld_synced : {F S : Type 0} {gs : _} {g : buffer.Ghosts (PageBlob S gs)} {gives : F → Setting} {takes : WriteFactory → Setting} {told : Type 0} (p : Pair F (PageBlob S gs)) (o : OpenedList) (d : Disk)
    → Here gives p → IsPair g gives buffers takes told p o d → (s : ℕ) → p.index.sections.held s ≡ None → synced_length p s ≡ length_of p s
unheld_synced {S = S} {gs = gs} p o d here pair s none =
    let empty : length_of p s ≡ 0 = ap (λ (x : Option (PageBlob S gs)). fixed.size_held x / p.layout.record_size) none ∙ no_length p.layout.record_size here.some in
    omega (arith, empty, pair.settled.lengths s)

-- ---- after a sync of the named sections
module _ {F S : Type 0} {gs : _} (g : buffer.Ghosts (PageBlob S gs)) (gives : F → Setting) {takes : WriteFactory → Setting} (told : Type 0) (p : Pair F (PageBlob S gs)) (pages : ArePages g p.layout.seal)
    (IsNamed : ℕ → Type 0) (decides : (s : ℕ) → IsNamed s ⊎ (IsNamed s → ⊥)) (k : Lists F (PageBlob S gs)) (n : Sections WriteFactory WriteBlob) (t : ℕ → Option ℕ) (o0 o1 o2 : OpenedList) (d0 d1 d2 : Disk)
    (here : Here gives p) (pair : IsPair g gives buffers takes told p o0 d0)
    (index : IndexSynced g told IsNamed p.index k o0 o1 d0 d1) (values : ValuesSynced told IsNamed p.values n o1 o2 d1 d2)
    (noted : Noted IsNamed (λ s. fixed.section_size k.sections s / p.layout.record_size) (tracked_of p) (record { store = p.store; trailing = t })) where
  -- the pair after it
  abbrev pub synced_pair : Pair F (PageBlob S gs)
  synced_pair = record p { index = k; values = n; trailing = t }

  -- the sections' blobs after the call on those of the other kind
  other_index : (q : Key) → q.0 ≡ p.layout.index → o2 q ≡ o1 q
  other_index q at = values.entries q (other_partition p.values (λ s. IsNamed s × IsHeld p.values s) p.layout.values q here.values (λ is. pair.apart.values (sym at ∙ is)))

  other_index_blob : told → (q : Key) → q.0 ≡ p.layout.index → d2 q ≡ d1 q
  other_index_blob x q at = values.blobs x q (other_partition p.values (λ s. IsNamed s × IsHeld p.values s) p.layout.values q here.values (λ is. pair.apart.values (sym at ∙ is)))

  pub values_before : (q : Key) → q.0 ≡ p.layout.values → o1 q ≡ o0 q
  values_before q at = index.entries q (other_partition p.index.sections (λ s. IsNamed s × IsHeld p.index.sections s) p.layout.index q here.index (λ is. pair.apart.values (sym is ∙ at)))

  pub values_blob_before : told → (q : Key) → q.0 ≡ p.layout.values → d1 q ≡ d0 q
  values_blob_before x q at = index.blobs x q (other_partition p.index.sections (λ s. IsNamed s × IsHeld p.index.sections s) p.layout.index q here.index (λ is. pair.apart.values (sym is ∙ at)))

  copy_entry : (side : Side) → o2 (blob_of p.store.partition side) ≡ o0 (blob_of p.store.partition side)
  copy_entry side =
      values.entries (blob_of p.store.partition side) (other_partition p.values (λ s. IsNamed s × IsHeld p.values s) p.layout.values (blob_of p.store.partition side) here.values (λ is. pair.apart.both (sym is ∙ here.store)))
      ∙ index.entries (blob_of p.store.partition side) (other_partition p.index.sections (λ s. IsNamed s × IsHeld p.index.sections s) p.layout.index (blob_of p.store.partition side) here.index (λ is. pair.apart.metadata (sym is ∙ here.store)))

  pub copy_blob : told → (side : Side) → d2 (blob_of p.store.partition side) ≡ d0 (blob_of p.store.partition side)
  copy_blob x side =
      values.blobs x (blob_of p.store.partition side) (other_partition p.values (λ s. IsNamed s × IsHeld p.values s) p.layout.values (blob_of p.store.partition side) here.values (λ is. pair.apart.both (sym is ∙ here.store)))
      ∙ index.blobs x (blob_of p.store.partition side) (other_partition p.index.sections (λ s. IsNamed s × IsHeld p.index.sections s) p.layout.index (blob_of p.store.partition side) here.index (λ is. pair.apart.metadata (sym is ∙ here.store)))

  -- ---- sizes and bytes
  size_same : (s : ℕ) → fixed.section_size k.sections s ≡ fixed.section_size p.index.sections s
  size_same = index_size p.layout.seal g pages told IsNamed decides p.index k o0 o1 d0 d1 index

  pub lengths_same : (s : ℕ) → length_of synced_pair s ≡ length_of p s
  lengths_same s = ap (λ (x : ℕ). x / p.layout.record_size) (size_same s)

  pub held_same : (s : ℕ) → IsHeld k.sections s ↔ IsHeld p.index.sections s
  held_same = index_held p.layout.seal g pages told IsNamed decides p.index k o0 o1 d0 d1 index

  values_held_on : (s : ℕ) → IsHeld p.values s → IsHeld n s
  values_held_on s held = elim (decides s) [
    | inl is ↦ elim (none_or_value (p.values.held s)) [
      | inl none ↦ absurd (cc (subst IsSome none held))
      | inr some ↦ (let w = value_of (n.held s) _ (values.named s some.0 is some.1) in subst IsSome (sym w.is) refl)
    ]
    | inr not ↦ subst IsSome (sym (values.others s not)) held
  ]

  pub values_held_as : (s : ℕ) → IsHeld n s ↔ IsHeld p.values s
  values_held_as s = (λ is. values_held_same told IsNamed decides p.values n o1 o2 d1 d2 values s is, λ is. values_held_on s is)

  pub values_same_size : (s : ℕ) → glob.section_size n s ≡ glob.section_size p.values s
  values_same_size = values_size told IsNamed decides p.values n o1 o2 d1 d2 values

  key_here : (s : ℕ) → key_of k.sections s ≡ section_key p.layout.index s
  key_here s = ap (λ (x : List ℕ). section_key x s) (index.bounds.place.partition ∙ here.index)

  index_same : told → (s : ℕ) → fixed.section_bytes k.sections d2 s ≡ fixed.section_bytes p.index.sections d0 s
  index_same x s = ap (λ (b : Blob). fixed.bytes_held (k.sections.held s) b.content) (other_index_blob x (key_of k.sections s) (index.bounds.place.partition ∙ here.index))
      ∙ index_bytes p.layout.seal g pages told IsNamed decides p.index k o0 o1 d0 d1 index x s

  values_same : told → (s : ℕ) → glob.section_bytes n d2 s ≡ glob.section_bytes p.values d0 s
  values_same x s = values.bytes x s ∙ ap (λ (b : Blob). glob.bytes_held (p.values.held s) b.content) (values_blob_before x (key_of p.values s) here.values)

  pub lists_same : told → (s : ℕ) → list_of synced_pair d2 s ≡ list_of p d0 s
  lists_same x s = ap (λ (b : List ℕ). entries_of p.layout.place p.layout.record_size b (glob.section_bytes n d2 s)) (index_same x s)
      ∙ ap (entries_of p.layout.place p.layout.record_size (fixed.section_bytes p.index.sections d0 s)) (values_same x s)

  -- ---- what was synced
  pub named_synced : (s : ℕ) → IsNamed s → synced_length synced_pair s ≡ length_of p s
  named_synced s is = noted.named s is ∙ lengths_same s

  pub others_synced : (s : ℕ) → (IsNamed s → ⊥) → synced_length synced_pair s ≡ synced_length p s
  others_synced s not = ap (λ (o : Option ℕ). unwrap_or o (marker_of p.store.entries s)) (noted.others s not)

  pub synced_more : (s : ℕ) → synced_length p s ≤ synced_length synced_pair s
  synced_more s = elim (decides s) [
    | inl is ↦ omega (arith, named_synced s is, pair.settled.lengths s)
    | inr not ↦ omega (arith, others_synced s not)
  ]

  synced_within : (s : ℕ) → synced_length synced_pair s ≤ length_of synced_pair s
  synced_within s = elim (decides s) [
    | inl is ↦ omega (arith, noted.named s is)
    | inr not ↦ omega (arith, others_synced s not, lengths_same s, pair.settled.lengths s)
  ]

  index_all_settled : (s : ℕ) (u : PageBlob S gs) → k.sections.held s ≡ Some u → synced_length synced_pair s * p.layout.record_size ≤ u.settled
  index_all_settled s u held = elim (decides s) [
    | inl is ↦
        omega (
          arith,
          ap (λ (x : ℕ). x * p.layout.record_size) (noted.named s is),
          div-mul-le_self (fixed.section_size k.sections s) p.layout.record_size,
          index_settled p.layout.seal g pages told IsNamed decides p.index k o0 o1 d0 d1 index s u is held,
        )
    | inr not ↦ omega (arith, ap (λ (x : ℕ). x * p.layout.record_size) (others_synced s not), pair.settled.index s u (sym (index.others s not) ∙ held))
  ]

  -- ---- the markers
  marked_still : (s m : ℕ) → IsMarked p.store.entries s m → IsHeld k.sections s × (m ≤ synced_length synced_pair s)
  marked_still s m is = ((held_same s).1 (pair.markers.marked s m is).0, omega (arith, (pair.markers.marked s m is).1, synced_more s))

  unheld_zero : (s x : ℕ) → t s ≡ Some x → k.sections.held s ≡ None → IsNamed s → x ≡ marker_of p.store.entries s
  unheld_zero s x trails none is =
      let noted_here : synced_length synced_pair s ≡ fixed.section_size k.sections s / p.layout.record_size = noted.named s is in
      let empty : fixed.section_size k.sections s / p.layout.record_size ≡ 0 =
      ap (λ (o : Option (PageBlob S gs)). fixed.size_held o / p.layout.record_size) none ∙ no_length p.layout.record_size here.some in
      let own : synced_length synced_pair s ≡ x = ap (λ (o : Option ℕ). unwrap_or o (marker_of p.store.entries s)) trails in
      let absent : marker_of p.store.entries s ≡ 0 = unmarked_zero p.store.entries s (λ m marked. absurd (cc (subst IsSome none (marked_still s m marked).0))) in
      sym own ∙ noted_here ∙ empty ∙ sym absent

  trailing_held : (s x : ℕ) → t s ≡ Some x → IsHeld k.sections s
  trailing_held s x trails = elim (decides s) [
    | inl is ↦ elim (none_or_value (k.sections.held s)) [
      | inl none ↦ absurd (noted.trails s x trails (unheld_zero s x trails none is))
      | inr some ↦ subst IsSome (sym some.1) refl
    ]
    | inr not ↦ (held_same s).1 (pair.markers.trails s x (sym (noted.others s not) ∙ trails)).0
  ]

  absent_still : told → IsSoundOn p d0 → (s : ℕ) → s < 2 ^ 64 → k.sections.held s ≡ None → longest (d2 (section_key p.layout.index s)) ≡ 0
  absent_still x sound s small none =
      let unheld : p.index.sections.held s ≡ None = index_none p.layout.seal g pages told IsNamed decides p.index k o0 o1 d0 d1 index s none in
      let first : d1 (key_of p.index.sections s) ≡ d0 (key_of p.index.sections s) =
      index_blob p.layout.seal g pages told IsNamed decides p.index k o0 o1 d0 d1 index x s small (λ both. absurd (cc (subst IsSome unheld both.1))) in
      ap longest (other_index_blob x (section_key p.layout.index s) refl) ∙ ap longest (subst (λ (q : List ℕ). d1 (section_key q s) ≡ d0 (section_key q s)) here.index first) ∙ sound.absent s small unheld

  -- ---- the pair may be used again
  module _ (journal : IsJournal g gives p.layout.seal p.layout.record_size told k o1 d1) (globs : IsGlob buffers takes told n o2 d2) where
    pub settled_pair : IsPair g gives buffers takes told synced_pair o2 d2
    settled_pair = record {
      index = journal_stays p.layout.seal p.layout.record_size k o1 o2 d1 d2 (λ s lt. other_index (key_of k.sections s) (index.bounds.place.partition ∙ here.index))
          (λ x s lt. other_index_blob x (key_of k.sections s) (index.bounds.place.partition ∙ here.index)) journal;
      values = globs;
      apart = pair.apart;
      whole = record {
        recovered = λ s. index.unrecovered s ∙ pair.whole.recovered s;
        unfloored = λ s. index.floors s ∙ pair.whole.unfloored s;
        index_ceiling = index.bounds.ceiling ∙ pair.whole.index_ceiling;
        values_ceiling = values.bounds.ceiling ∙ pair.whole.values_ceiling;
        index_known = λ s. index.unopened s ∙ pair.whole.index_known s;
        values_known = λ s. values.unopened s ∙ pair.whole.values_known s;
        values_held = λ s held. (held_same s).1 (pair.whole.values_held s (values_held_same told IsNamed decides p.values n o1 o2 d1 d2 values s held));
        floors = omega (arith, values.bounds.floor, index.bounds.floor, pair.whole.floors);
      };
      markers = record { marked = marked_still; trails = λ s x trails. (trailing_held s x trails, noted.trails s x trails) };
      settled = record { index = index_all_settled; lengths = synced_within };
      metadata_opened = record { left = subst IsSome (sym (copy_entry Left)) pair.metadata_opened.left; right = subst IsSome (sym (copy_entry Right)) pair.metadata_opened.right };
      storable = pair.storable;
      synced = pair.synced;
      disk = λ x. record { markers = store_stays p.layout.markers p.store (contents_of p.store) d0 d2 (copy_blob x) (pair.disk x).markers };
    }

    pub settled_as : (index_at values_at metadata_at : List ℕ) (size : ℕ) (u : Store Key8 ℕ) → index_at ≡ p.layout.index → values_at ≡ p.layout.values → metadata_at ≡ p.layout.metadata → size ≡ p.layout.page_size → u ≡ p.store
        → IsPair g gives buffers takes told (made p k n t index_at values_at metadata_at size u) o2 d2
    settled_as index_at values_at metadata_at size u index_is values_is metadata_is size_is store_is =
        subst (λ (q : Pair F (PageBlob S gs)). IsPair g gives buffers takes told q o2 d2) (pair_as p index_at values_at metadata_at size k n u p.store t index_is values_is metadata_is size_is store_is) settled_pair

  -- and is as sound as it was
  module _ (x : told) (sound : IsSoundOn p d0) where
    abbrev rs : ℕ → List (List ℕ)
    rs s = records p.layout.record_size (fixed.section_bytes p.index.sections d0 s)

    rs_same : (s : ℕ) → records p.layout.record_size (fixed.section_bytes k.sections d2 s) ≡ rs s
    rs_same s = ap (records p.layout.record_size) (index_same x s)

    follow_all : (s : ℕ) → Follow p.layout.place 0 (rs s) (glob.section_size n s)
    follow_all s = subst (Follow p.layout.place 0 (rs s)) (sym (values_same_size s)) (sound.places s)

    settled_end : (s : ℕ) → end_of p.layout.place 0 (take (synced_length synced_pair s) (rs s)) ≤ glob.settled_size n s
    settled_end s = elim (decides s) [
      | inl is ↦ omega (arith, end_within p.layout.place (synced_length synced_pair s) 0 (rs s) (glob.section_size n s) (follow_all s), values_settled told IsNamed decides p.values n o1 o2 d1 d2 values s is)
      | inr not ↦ omega (arith, ap (λ (i : ℕ). end_of p.layout.place 0 (take i (rs s))) (others_synced s not), sound.values_settled s, ap glob.settled_held (values.others s not))
    ]

    pub settled_sound : IsSoundOn synced_pair d2
    settled_sound = record {
      places = λ s. subst (λ (r : List (List ℕ)). Follow p.layout.place 0 r (glob.section_size n s)) (sym (rs_same s)) (follow_all s);
      sound = λ s. subst (λ (r : List (List ℕ)). AllByRecursion (λ y. IsTrue (is_sound p.layout.seal (glob.section_bytes n d2 s) (p.layout.place y))) r) (sym (rs_same s))
          (subst (λ (v : List ℕ). AllByRecursion (λ y. IsTrue (is_sound p.layout.seal v (p.layout.place y))) (rs s)) (sym (values_same x s)) (sound.sound s));
      values_settled = λ s. subst (λ (r : List (List ℕ)). end_of p.layout.place 0 (take (synced_length synced_pair s) r) ≤ glob.settled_size n s) (sym (rs_same s)) (settled_end s);
      absent = absent_still x sound;
    }

    pub settled_sound_as : (index_at values_at metadata_at : List ℕ) (size : ℕ) (u : Store Key8 ℕ) → index_at ≡ p.layout.index → values_at ≡ p.layout.values → metadata_at ≡ p.layout.metadata → size ≡ p.layout.page_size → u ≡ p.store
        → IsSoundOn (made p k n t index_at values_at metadata_at size u) d2
    settled_sound_as index_at values_at metadata_at size u index_is values_is metadata_is size_is store_is =
        subst (λ (q : Pair F (PageBlob S gs)). IsSoundOn q d2) (pair_as p index_at values_at metadata_at size k n u p.store t index_is values_is metadata_is size_is store_is) settled_sound
