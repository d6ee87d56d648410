-- A section gets a buffer, over its blob: what was held and durable stays so.
use Rattle.std.specs.Prelude.{◌≡◌, ◌≢◌, ℕ, ◌+◌, ◌*◌, ◌^◌, ◌<◌, ◌≤◌, Bool, true, false, cond, [], ◌∷◌, ◌++◌, length, Option, Some, None, IsSome, IsSomeAnd, IsTrue, Result, unwrap_or, option_map}
use Rattle.std.proofs.Common.{inl, inr, refl, sym, ◌∙◌, ap, subst, arith}
use Rattle.std.proofs.lemmas.Bool.{cases_eq}
use Rattle.blob_device.specs.Change.{Make, during}
use Rattle.blob_device.specs.Disk.{Blob, Disk, Key, greatest, longest, settled_at}
use Rattle.blob_device.specs.Lengths.{greatest_push}
use Rattle.blob_device.specs.Timeline.{OnlyAt}
use Rattle.blob_device.specs.lemmas.Moments.{always_now, always_weaker}
use Rattle.blob_device.specs.lemmas.Puts.{same_or_other}
use Rattle.sealed_pages.specs.declared.write_blob.WriteBlob.{WriteBlob}
use Rattle.sealed_pages.specs.unsealed.Writing.{bytes_of, shown, size_of}
use Rattle.ordinal_store.specs.Adopting.{Adopting, IsMaking, IsReady}
use Rattle.ordinal_store.specs.Durable.{StandsFor, Stays}
use Rattle.ordinal_store.specs.Slots.{blob_of, place_of, position_of, section_of, slot_at, slot_size}
use Rattle.ordinal_store.specs.Steps.{SameSlots}
use Rattle.ordinal_store.specs.Stores.{IsQuiet, IsQuietIn, IsUsable, Sight, Store, has, key_of, now, slots_of}
use Rattle.ordinal_store.specs.declared.ordinal.Error.{Error}
use Rattle.ordinal_store.proofs.StepLemmas.{Replaces, keys_differ, section_small, slots_there, usable_after}
use Rattle.ordinal_store.proofs.TrailLemmas.{Trail}

-- a blob that was not there, and is made, is no longer than it was in any crash
during_longest : (from : Blob) → from.there ≡ false → longest (during Make from) ≡ longest from
during_longest from none =
    let step : longest (during Make from) ≡ greatest (length from.settled) (from.since ++ [] ∷ []) =
    ap (λ (t : Bool). longest (cond t from (record from { content = []; unsure = true; since = from.since ++ [] ∷ [] }))) none in
    omega (arith, step, greatest_push (length from.settled) from.since [])

pub made_short : (from b : Blob) (n : ℕ) → from.there ≡ false → IsMaking from b → longest from ≤ n → longest b ≤ n
made_short from b n none (inl is) short = subst (λ (x : Blob). longest x ≤ n) (sym is) short
made_short from b n none (inr (inl is)) short = let e : longest b ≡ longest (during Make from) = ap longest is in omega (arith, e, during_longest from none, short)
made_short from b n none (inr (inr (inl (inl is)))) short = let e : longest b ≡ longest (during Make from) = ap longest is in omega (arith, e, during_longest from none, short)
made_short from b n none (inr (inr (inl (inr is)))) short = let e : longest b ≡ longest (during Make from) = ap longest is in omega (arith, e, during_longest from none, short)
made_short from b n none (inr (inr (inr is))) short =
    let e : longest b ≡ 0 = ap longest is ∙ ap (λ (t : Bool). longest (settled_at (cond t from.content []))) none in
    omega (arith, e)

pub not_true : (b : Bool) → (IsTrue b → ⊥) → b ≡ false
not_true true never = absurd (never refl)
not_true false never = refl

module _ (told : Type 0) (o : Store) (s : ℕ) (small : s < 2 ^ 64) (first : s * o.layout.items < 2 ^ 64) (none : o.buffers s ≡ None) (old new : Sight) (usable : IsUsable o told old.opened (now old))
    (answer : Result WriteBlob Error) (adopting : Adopting told (key_of o s) o.capacity answer old new) where
  abbrev Mine : Key → Type 0
  Mine q = q ≡ key_of o s

  -- no index of the section is quiet or held
  not_here : (P : WriteBlob → Type 0) (j : ℕ) → IsSomeAnd (o.buffers (section_of o.layout j)) P → section_of o.layout j ≢ s
  not_here P j some same = absurd (subst (λ (b : Option WriteBlob). IsSomeAnd b P) (ap o.buffers same ∙ none) some)

  absent : told → (now old (key_of o s)).there ≡ false
  absent t = not_true (now old (key_of o s)).there (λ there. absurd (cc (subst IsSome none ((usable.disk t).whose s small there))))

  stays_at : told → (d : Disk) → OnlyAt (key_of o s) (now old) (IsMaking (now old (key_of o s))) d → Stays o.layout (IsQuiet o) Mine (now old) d
  stays_at t d only = record {
    slots = λ i slot quiet durable. record {
      index = durable.index;
      size = durable.size;
      stands = subst (StandsFor (place_of o.layout i) slot)
          (sym (only.others (blob_of o.layout (section_of o.layout i)) (keys_differ o.layout.partition (section_of o.layout i) s (section_small o.layout i durable.index) small (not_here (λ u. IsQuietIn o.layout u i) i quiet))))
          durable.stands;
    };
    bounded = λ q n room short. elim (same_or_other q (key_of o s)) [
      | inl same ↦ subst (λ (k : Key). longest (d k) ≤ n) (sym same) (made_short (now old (key_of o s)) (d (key_of o s)) n (absent t) only.here (subst (λ (k : Key). longest (now old k) ≤ n) same short))
      | inr other ↦ subst (λ (b : Blob). longest b ≤ n) (sym (only.others q other)) short
    ];
    others = λ q out. only.others q out;
  }

  pub seat_trail : Trail told o.layout (IsQuiet o) Mine old new
  seat_trail = record {
    moments = λ t. always_weaker old.time new.time (OnlyAt (key_of o s) (now old) (IsMaking (now old (key_of o s)))) (Stays o.layout (IsQuiet o) Mine (now old)) (stays_at t) (adopting.moments t);
    entries = λ q out. adopting.entries q out;
    unread = adopting.unread;
    faults = adopting.faults;
  }

  module _ (v : WriteBlob) (buffers : ℕ → Option WriteBlob) (at : buffers s ≡ Some v) (beside : (t : ℕ) → t ≢ s → buffers t ≡ o.buffers t)
      (ready : IsReady told (key_of o s) o.capacity new v) where
    abbrev pub seated_store : Store
    seated_store = record { layout = o.layout; capacity = o.capacity; ranges = o.ranges; buffers = buffers; written = o.written }

    step : Replaces told o s small v o.ranges buffers o.written at beside old.opened new.opened (now old) (now new)
    step = record {
      usable = usable;
      are_ranges = usable.ranges;
      held = λ i other is. is;
      room = λ i same is. absurd (not_here (λ u. place_of o.layout i + slot_size o.layout ≤ size_of (shown u)) i (usable.room i is) same);
      first = first;
      capacity = ready.rested.capacity_is;
      key = ready.rested.key_is;
      is_open = ready.rested.is_open;
      bounded = omega (arith, ready.rested.size);
      unwritten = λ un. ready.rested.clean;
      others_unwritten = λ t other un. un;
      entries = adopting.entries;
      over = ready.over;
      others = λ t q other. (always_now old.time new.time (OnlyAt (key_of o s) (now old) (IsMaking (now old (key_of o s)))) (adopting.moments t)).others q other;
    }

    not_held : (j : ℕ) → section_of o.layout j ≡ s → has o j ≡ false
    not_held j same = not_true (has o j) (λ is. not_here (λ u. place_of o.layout j + slot_size o.layout ≤ size_of (shown u)) j (usable.room j is) same)

    same_slots : told → (j : ℕ) → slots_of seated_store (now new) j ≡ slots_of o (now old) j
    same_slots t j = elim (cases_eq (section_of o.layout j) s) [
      | inl same ↦
          ap (λ (h : Bool). cond h (Some (slot_at (slot_size o.layout) (unwrap_or (option_map (λ u. bytes_of (shown u) (now new (key_of o (section_of o.layout j))).content) (buffers (section_of o.layout j))) []) (position_of o.layout j))) None) (not_held j same)
          ∙ sym (ap (λ (h : Bool). cond h (Some (slot_at (slot_size o.layout) (unwrap_or (option_map (λ u. bytes_of (shown u) (now old (key_of o (section_of o.layout j))).content) (o.buffers (section_of o.layout j))) []) (position_of o.layout j))) None) (not_held j same))
      | inr other ↦ slots_there told o s small v o.ranges buffers o.written at beside old.opened new.opened (now old) (now new) step t j other refl
    ]

    pub seated_same : SameSlots told o old new seated_store
    seated_same = record {
      place = record { layout = refl; capacity = refl };
      usable = usable_after told o s small v o.ranges buffers o.written at beside old.opened new.opened (now old) (now new) step;
      ranges = refl;
      slots = same_slots;
      quiet = λ j quiet. subst (λ (b : Option WriteBlob). IsSomeAnd b (λ u. IsQuietIn o.layout u j)) (sym (beside (section_of o.layout j) (not_here (λ u. IsQuietIn o.layout u j) j quiet))) quiet;
    }
