-- A section is settled through its buffer: the store shows the same slots.
use Rattle.std.specs.Prelude.{◌≡◌, ◌≢◌, ℕ, ◌+◌, ◌^◌, ◌<◌, ◌≤◌, max, Bool, true, false, cond, List, [], ◌∷◌, Option, Some, None, IsSome, IsSomeAnd, option_map, unwrap_or}
use Rattle.std.proofs.Common.{inl, inr, refl, sym, ◌∙◌, ap, subst, arith}
use Rattle.std.proofs.lemmas.Bool.{cases_eq}
use Rattle.blob_device.specs.Disk.{Key, Outside}
use Rattle.blob_device.specs.Timeline.{OnlyAt}
use Rattle.blob_device.specs.lemmas.Moments.{always_now, always_weaker}
use Rattle.sealed_pages.specs.declared.write_blob.WriteBlob.{WriteBlob}
use Rattle.sealed_pages.specs.Contents.{AddsOnly}
use Rattle.sealed_pages.specs.Entries.{IsOpenAt, NoReads}
use Rattle.sealed_pages.specs.Sparing.{Spares, Sparing}
use Rattle.sealed_pages.specs.unsealed.Writing.{Over, WriteBuffer, blob_key, bytes_of, is_unsettled, run_of, shown, size_of}
use Rattle.sealed_pages.specs.lemmas.unsealed.Lasting.{outside_none}
use Rattle.ordinal_store.specs.Calls.{IsBlobOf}
use Rattle.ordinal_store.specs.Durable.{Stays}
use Rattle.ordinal_store.specs.Slots.{place_of, position_of, section_of, slot_at, slot_size}
use Rattle.ordinal_store.specs.Steps.{SameSlots}
use Rattle.ordinal_store.specs.Stores.{IsQuiet, IsQuietIn, IsUsable, Sight, Store, has, key_of, now, slots_of}
use Rattle.ordinal_store.proofs.PlaceLemmas.{no_reads_unread}
use Rattle.ordinal_store.proofs.SettledLemmas.{stays_synced}
use Rattle.ordinal_store.proofs.StepLemmas.{Replaces, slots_here, slots_there, usable_after}
use Rattle.ordinal_store.proofs.TrailLemmas.{Trail}

-- a buffer that is put in the place of another adds no section
pub domain_kept : (a b : ℕ → Option WriteBlob) (s : ℕ) (u : WriteBlob) → a s ≡ Some u → ((t : ℕ) → t ≢ s → b t ≡ a t) → (t : ℕ) → IsSome (b t) → IsSome (a t)
domain_kept a b s u hand beside t is = elim (cases_eq t s) [
  | inl here ↦ subst (λ (x : Option WriteBlob). IsSome x) (sym (ap a here ∙ hand)) refl
  | inr other ↦ subst (λ (x : Option WriteBlob). IsSome x) (beside t other) is
]

-- a mark that is taken away adds none
pub marks_kept : (a b : ℕ → Bool) (s : ℕ) → b s ≡ false → ((t : ℕ) → t ≢ s → b t ≡ a t) → (t : ℕ) → b t ≡ true → a t ≡ true
marks_kept a b s gone beside t is = elim (cases_eq t s) [
  | inl here ↦ absurd (cc (sym is ∙ ap b here ∙ gone))
  | inr other ↦ sym (beside t other) ∙ is
]

module _ (told : Type 0) (o : Store) (s : ℕ) (u : WriteBlob) (hand : o.buffers s ≡ Some u) (old new : Sight) (usable : IsUsable o told old.opened (now old))
    (spares : told → Sparing (Outside (run_of (shown u) ∷ [])) u.settled (blob_key (shown u)) old.time new.time)
    (adds : told → AddsOnly (bytes_of (shown u) (now old (blob_key (shown u))).content ∷ []) (blob_key (shown u)) old.time new.time)
    (entries : NoReads (blob_key (shown u)) old.opened new.opened) (faults : old.faults ≤ new.faults) where
  some : IsSome (o.buffers s)
  some = subst IsSome (sym hand) refl

  small : s < 2 ^ 64
  small = usable.number s some

  key : blob_key (shown u) ≡ key_of o s
  key = usable.key s u hand

  abbrev Mine : Key → Type 0
  Mine = IsBlobOf o (λ t. t ≡ s)

  abbrev R : ℕ → Type 0
  R = Outside (run_of (shown u) ∷ [])

  spares_here : told → Sparing R u.settled (key_of o s) old.time new.time
  spares_here t = subst (λ (k : Key). Sparing R u.settled k old.time new.time) key (spares t)

  adds_here : told → AddsOnly (bytes_of (shown u) (now old (key_of o s)).content ∷ []) (key_of o s) old.time new.time
  adds_here t = subst (λ (k : Key). AddsOnly (bytes_of (shown u) (now old k).content ∷ []) k old.time new.time) key (adds t)

  pub sync_trail : Trail told o.layout (IsQuiet o) Mine old new
  sync_trail = record {
    moments = λ t. always_weaker old.time new.time (Stays o.layout (IsQuiet o) (λ q. q ≡ key_of o s) (now old)) (Stays o.layout (IsQuiet o) Mine (now old))
        (λ d stays. record { slots = stays.slots; bounded = stays.bounded; others = λ q out. stays.others q (λ is. out (s, some, refl, is)) })
        (stays_synced o s small u hand old.time new.time ((usable.disk t).over s u hand) (usable.bounded s u hand) (spares_here t) (adds_here t));
    entries = λ q out. entries.others q (λ is. out (s, some, refl, is ∙ key));
    unread = no_reads_unread (blob_key (shown u)) old.opened new.opened entries;
    faults = faults;
  }

  module _ (v : WriteBlob) (same : shown v ≡ record (shown u) { end = size_of (shown u); pending = []; settled = size_of (shown u); dirty = false }) (clean : is_unsettled (shown v) ≡ false)
      (is_open : IsOpenAt new.opened (blob_key (shown v)) v.end) (over : told → Over (shown u) (now old (blob_key (shown u))) → Over (shown v) (now new (blob_key (shown u))))
      (bytes : told → bytes_of (shown v) (now new (blob_key (shown u))).content ≡ bytes_of (shown u) (now old (blob_key (shown u))).content)
      (buffers : ℕ → Option WriteBlob) (at : buffers s ≡ Some v) (beside : (t : ℕ) → t ≢ s → buffers t ≡ o.buffers t)
      (marks : ℕ → Bool) (mark_beside : (t : ℕ) → t ≢ s → marks t ≡ o.written t) where
    abbrev pub synced_store : Store
    synced_store = record { layout = o.layout; capacity = o.capacity; ranges = o.ranges; buffers = buffers; written = marks }

    key_v : blob_key (shown v) ≡ key_of o s
    key_v = ap blob_key same ∙ key

    none_left : v.pending.items ≡ []
    none_left = ap (λ (w : WriteBuffer). w.pending) same

    settled : v.settled ≡ size_of (shown u)
    settled = ap (λ (w : WriteBuffer). w.settled) same

    size : size_of (shown v) ≡ max (size_of (shown u)) (u.at + 0)
    size = ap size_of same

    size_v : size_of (shown v) ≡ size_of (shown u)
    size_v = omega (arith, size)

    step : Replaces told o s small v o.ranges buffers marks at beside old.opened new.opened (now old) (now new)
    step = record {
      usable = usable;
      are_ranges = usable.ranges;
      held = λ j other is. is;
      room = λ j here is. (let had : place_of o.layout j + slot_size o.layout ≤ size_of (shown u) =
          subst (λ (b : Option WriteBlob). IsSomeAnd b (λ w. place_of o.layout j + slot_size o.layout ≤ size_of (shown w))) (ap o.buffers here ∙ hand) (usable.room j is) in
          omega (arith, had, size_v));
      first = usable.first s some;
      capacity = ap (λ (w : WriteBuffer). w.capacity) same ∙ usable.capacity s u hand;
      key = key_v;
      is_open = subst (λ (k : Key). IsOpenAt new.opened k v.end) key_v is_open;
      bounded = omega (arith, size_v, settled);
      unwritten = λ un. clean;
      others_unwritten = λ t other un. sym (mark_beside t other) ∙ un;
      entries = λ q other. entries.others q (λ is. other (is ∙ key));
      over = λ t. subst (λ (k : Key). Over (shown v) (now new k)) key (over t (subst (λ (k : Key). Over (shown u) (now old k)) (sym key) ((usable.disk t).over s u hand)));
      others = λ t q other. (always_now old.time new.time (OnlyAt (key_of o s) (now old) (Spares R u.settled (now old (key_of o s)))) (spares_here t)).others q other;
    }

    abbrev all : List ℕ
    all = bytes_of (shown u) (now old (key_of o s)).content

    was_here : (j : ℕ) → section_of o.layout j ≡ s → has o j ≡ true → slots_of o (now old) j ≡ Some (slot_at (slot_size o.layout) all (position_of o.layout j))
    was_here j here is =
        ap (λ (h : Bool). cond h (Some (slot_at (slot_size o.layout) (unwrap_or (option_map (λ w. bytes_of (shown w) (now old (key_of o (section_of o.layout j))).content) (o.buffers (section_of o.layout j))) []) (position_of o.layout j))) None) is
        ∙ ap (λ (n : ℕ). Some (slot_at (slot_size o.layout) (unwrap_or (option_map (λ w. bytes_of (shown w) (now old (key_of o n)).content) (o.buffers n)) []) (position_of o.layout j))) here
        ∙ ap (λ (b : Option WriteBlob). Some (slot_at (slot_size o.layout) (unwrap_or (option_map (λ w. bytes_of (shown w) (now old (key_of o s)).content) b) []) (position_of o.layout j))) hand

    slots_one : told → (j : ℕ) → section_of o.layout j ≡ s → slots_of synced_store (now new) j ≡ slots_of o (now old) j
    slots_one t j here = elim (has o j) as (λ (h : Bool). has o j ≡ h → slots_of synced_store (now new) j ≡ slots_of o (now old) j) [
      | true ↦ λ is. (let bytes_here : bytes_of (shown v) (now new (key_of o s)).content ≡ all = subst (λ (k : Key). bytes_of (shown v) (now new k).content ≡ bytes_of (shown u) (now old k).content) key (bytes t) in
          slots_here told o s small v o.ranges buffers marks at beside old.opened new.opened (now old) (now new) step j here is
          ∙ ap (λ (c : List ℕ). Some (slot_at (slot_size o.layout) c (position_of o.layout j))) bytes_here
          ∙ sym (was_here j here is))
      | false ↦ λ is.
          ap (λ (h : Bool). cond h (Some (slot_at (slot_size o.layout) (unwrap_or (option_map (λ w. bytes_of (shown w) (now new (key_of o (section_of o.layout j))).content) (buffers (section_of o.layout j))) []) (position_of o.layout j))) None) is
          ∙ sym (ap (λ (h : Bool). cond h (Some (slot_at (slot_size o.layout) (unwrap_or (option_map (λ w. bytes_of (shown w) (now old (key_of o (section_of o.layout j))).content) (o.buffers (section_of o.layout j))) []) (position_of o.layout j))) None) is)
    ] refl

    quiet_in : (j : ℕ) → IsQuietIn o.layout u j → IsQuietIn synced_store.layout v j
    quiet_in j q = record {
      settled = omega (arith, q.settled, settled, u.order);
      apart = λ k w. outside_none (shown v) none_left k;
    }

    pub synced_same : SameSlots told o old new synced_store
    synced_same = record {
      place = record { layout = refl; capacity = refl };
      usable = usable_after told o s small v o.ranges buffers marks at beside old.opened new.opened (now old) (now new) step;
      ranges = refl;
      slots = λ t j. elim (cases_eq (section_of o.layout j) s) [
        | inl here ↦ slots_one t j here
        | inr there ↦ slots_there told o s small v o.ranges buffers marks at beside old.opened new.opened (now old) (now new) step t j there refl
      ];
      quiet = λ j quiet. elim (cases_eq (section_of o.layout j) s) [
        | inl here ↦ subst (λ (b : Option WriteBlob). IsSomeAnd b (λ w. IsQuietIn synced_store.layout w j)) (sym (ap buffers here ∙ at))
            (quiet_in j (subst (λ (b : Option WriteBlob). IsSomeAnd b (λ w. IsQuietIn o.layout w j)) (ap o.buffers here ∙ hand) quiet))
        | inr there ↦ subst (λ (b : Option WriteBlob). IsSomeAnd b (λ w. IsQuietIn o.layout w j)) (sym (beside (section_of o.layout j) there)) quiet
      ];
    }

-- A section that has no buffer is not written, whatever was noted.
module _ (told : Type 0) (o : Store) (s : ℕ) (none : o.buffers s ≡ None) (v : Sight) (usable : IsUsable o told v.opened (now v)) (buffers : ℕ → Option WriteBlob) (same : (t : ℕ) → buffers t ≡ o.buffers t) (marks : ℕ → Bool) (mark_beside : (t : ℕ) → t ≢ s → marks t ≡ o.written t) where
  abbrev unwritten_store : Store
  unwritten_store = record { layout = o.layout; capacity = o.capacity; ranges = o.ranges; buffers = o.buffers; written = marks }

  abbrev pub passed_store : Store
  passed_store = record { layout = o.layout; capacity = o.capacity; ranges = o.ranges; buffers = buffers; written = marks }

  is_passed : unwritten_store ≡ passed_store
  is_passed = λ i. record { layout = o.layout; capacity = o.capacity; ranges = o.ranges; buffers = λ t. sym (same t) i; written = marks }

  pub passed_same : SameSlots told o v v passed_store
  passed_same = subst (SameSlots told o v v) is_passed (record {
    place = record { layout = refl; capacity = refl };
    usable = record {
      items = usable.items;
      width = usable.width;
      ranges = usable.ranges;
      number = usable.number;
      first = usable.first;
      capacity = usable.capacity;
      key = usable.key;
      is_open = usable.is_open;
      room = usable.room;
      bounded = usable.bounded;
      unwritten = λ t u is un. elim (cases_eq t s) [
        | inl here ↦ absurd (cc (sym is ∙ ap o.buffers here ∙ none))
        | inr other ↦ usable.unwritten t u is (sym (mark_beside t other) ∙ un)
      ];
      disk = λ t. record { over = (usable.disk t).over; whose = (usable.disk t).whose };
    };
    ranges = refl;
    slots = λ t j. refl;
    quiet = λ j quiet. quiet;
  })
