-- A slot is written through the buffer of its section: what the store shows then.
use Rattle.std.specs.Prelude.{◌≡◌, ◌≢◌, ◌⊎◌, ℕ, ◌+◌, ◌*◌, ◌^◌, ◌<◌, ◌≤◌, max, Bool, true, false, cond, nat_eq, List, [], ◌∷◌, length, Option, Some, None, IsSome, IsSomeAnd, IfSome, IsTrue, Ok, option_map, unwrap_or}
use Rattle.std.proofs.Common.{inl, inr, refl, sym, ◌∙◌, ap, subst, arith}
use Rattle.std.proofs.Math.Nat.{mul-le-mul_right}
use Rattle.std.proofs.lemmas.Bool.{cases_eq, eq-eqb, ne_eqb}
use Rattle.blob_device.specs.Change.{written}
use Rattle.blob_device.specs.Disk.{Blob, Key, Outside}
use Rattle.blob_device.specs.Opened.{Opened, OpenedList, reads_of}
use Rattle.blob_device.specs.Timeline.{OnlyAt}
use Rattle.blob_device.specs.lemmas.Moments.{always_now}
use Rattle.blob_device.specs.lemmas.Puts.{same_or_other}
use Rattle.sealed_pages.specs.declared.write_blob.WriteBlob.{WriteBlob}
use Rattle.sealed_pages.specs.Contents.{AddsOnly}
use Rattle.sealed_pages.specs.Entries.{IsOpenAt, NoReads}
use Rattle.sealed_pages.specs.Sparing.{Spares, Sparing}
use Rattle.sealed_pages.specs.unsealed.Writing.{HoldsOnly, Over, WriteBuffer, blob_key, bytes_of, run_of, shown, size_of}
use Rattle.ordinal_store.specs.Calls.{Putting, SamePlace, StartsNoRead}
use Rattle.ordinal_store.specs.Numbers.{AddsNumber}
use Rattle.ordinal_store.specs.Ranges.{AreRanges, set_of}
use Rattle.ordinal_store.specs.Slots.{Layout, place_of, position_of, section_of, slot_at, slot_size}
use Rattle.ordinal_store.specs.Stores.{IsQuiet, IsQuietIn, IsUsable, Sight, Store, has, key_of, now, slots_of}
use Rattle.ordinal_store.proofs.MendingLemmas.{outside_after, slots_apart}
use Rattle.ordinal_store.proofs.PutLemmas.{positions_differ, slot_beside, slot_inside, slot_written, stays_written}
use Rattle.ordinal_store.proofs.StepLemmas.{Replaces, section_small, slots_here, slots_there, usable_after}
use Rattle.ordinal_store.proofs.TrailLemmas.{Trail}
use Rattle.blob_device.specs.Lengths.{length-written}

few_reads : (x : Option Opened) (n : ℕ) → IsSomeAnd x (λ o. o.reads ≡ n) → reads_of x ≤ n
few_reads None n is = absurd is
few_reads (Some o) n is = omega (arith, is)

-- calls that begin no read on their blob begin none
pub no_reads_unread : (k : Key) (a b : OpenedList) → NoReads k a b → StartsNoRead a b
no_reads_unread k a b calls q = elim (same_or_other q k) [
  | inl same ↦ subst (λ (x : Key). reads_of (b x) ≤ reads_of (a x)) (sym same) (few_reads (b k) (reads_of (a k)) calls.here)
  | inr other ↦ (let e : reads_of (b q) ≡ reads_of (a q) = ap reads_of (calls.others q other) in omega (arith, e))
]

long_of : (x : Option Opened) (n : ℕ) (T : Type 0) (c : List ℕ) → IsSomeAnd x (λ o. o.len ≡ n) → IfSome x (λ o. T × (length c ≡ o.len)) → length c ≡ n
long_of None n T c is law = absurd is
long_of (Some o) n T c is law = law.1 ∙ is

-- an opened blob is as long as its entry says
pub opened_long : (a : OpenedList) (k : Key) (n : ℕ) (b : Blob) → IsOpenAt a k n → IfSome (a k) (λ o. IsTrue b.there × (length b.content ≡ o.len)) → length b.content ≡ n
opened_long a k n b is law = long_of (a k) n (IsTrue b.there) b.content is law

-- a slot ends below the end of the numbers
pub place_fits : (l : Layout) (i : ℕ) → (1 ≤ l.items) × (l.items ≤ 2 ^ 40) → (1 ≤ l.width) × (l.width ≤ 65535) → place_of l i + slot_size l < 2 ^ 64
place_fits l i items width =
    let inside : place_of l i + slot_size l ≤ l.items * slot_size l = slot_inside l i items.0 in
    let most : l.items * slot_size l ≤ 2 ^ 40 * slot_size l = mul-le-mul_right (slot_size l) items.1 in
    omega (arith, inside, most, width.1)

-- a truth that two tests share
pub same_truth : (a b : Bool) → (IsTrue a → IsTrue b) → (IsTrue b → IsTrue a) → a ≡ b
same_truth true b f g = sym (f refl)
same_truth false true f g = g refl
same_truth false false f g = refl

module _ (told : Type 0) (o : Store) (i : ℕ) (i_small : i < 2 ^ 64) (slot : List ℕ) (len : length slot ≡ slot_size o.layout) (u : WriteBlob) (hand : o.buffers (section_of o.layout i) ≡ Some u)
    (old new : Sight) (usable : IsUsable o told old.opened (now old)) (offset : ℕ) (place : offset ≡ place_of o.layout i)
    (spares : told → Sparing (Outside ((offset, length slot) ∷ run_of (shown u) ∷ [])) u.settled (blob_key (shown u)) old.time new.time)
    (adds : told → AddsOnly (bytes_of (shown u) (now old (blob_key (shown u))).content ∷ written (bytes_of (shown u) (now old (blob_key (shown u))).content) offset slot ∷ []) (blob_key (shown u)) old.time new.time)
    (entries : NoReads (blob_key (shown u)) old.opened new.opened) (faults : old.faults ≤ new.faults) where
  abbrev s : ℕ
  s = section_of o.layout i

  s_small : s < 2 ^ 64
  s_small = section_small o.layout i i_small

  key : blob_key (shown u) ≡ key_of o s
  key = usable.key s u hand

  abbrev R : ℕ → Type 0
  R = Outside ((place_of o.layout i, length slot) ∷ run_of (shown u) ∷ [])

  spares_here : told → Sparing R u.settled (key_of o s) old.time new.time
  spares_here t = subst (λ (k : Key). Sparing R u.settled k old.time new.time) key
      (subst (λ (n : ℕ). Sparing (Outside ((n, length slot) ∷ run_of (shown u) ∷ [])) u.settled (blob_key (shown u)) old.time new.time) place (spares t))

  adds_here : told → AddsOnly (bytes_of (shown u) (now old (key_of o s)).content ∷ written (bytes_of (shown u) (now old (key_of o s)).content) (place_of o.layout i) slot ∷ []) (key_of o s) old.time new.time
  adds_here t = subst (λ (k : Key). AddsOnly (bytes_of (shown u) (now old k).content ∷ written (bytes_of (shown u) (now old k).content) (place_of o.layout i) slot ∷ []) k old.time new.time) key
      (subst (λ (n : ℕ). AddsOnly (bytes_of (shown u) (now old (blob_key (shown u))).content ∷ written (bytes_of (shown u) (now old (blob_key (shown u))).content) n slot ∷ []) (blob_key (shown u)) old.time new.time) place (adds t))

  pub put_trail : Trail told o.layout (λ j. (j ≢ i) × IsQuiet o j) (λ q. q ≡ key_of o s) old new
  put_trail = record {
    moments = λ t. stays_written o s s_small u hand old.time new.time ((usable.disk t).over s u hand) (usable.bounded s u hand) i slot refl len usable.items.0 (spares_here t) (adds_here t);
    entries = λ q out. entries.others q (λ same. out (same ∙ key));
    unread = no_reads_unread (blob_key (shown u)) old.opened new.opened entries;
    faults = faults;
  }

  module _ (v : WriteBlob) (same : shown v ≡ record (shown u) { end = v.end; at = v.at; pending = v.pending.items; dirty = v.dirty }) (size : size_of (shown v) ≡ max (size_of (shown u)) (offset + length slot)) (holds : HoldsOnly (shown u) offset slot (shown v))
      (is_open : IsOpenAt new.opened (blob_key (shown v)) v.end) (over : told → Over (shown v) (now new (blob_key (shown u))))
      (bytes : told → bytes_of (shown v) (now new (blob_key (shown u))).content ≡ written (bytes_of (shown u) (now old (blob_key (shown u))).content) offset slot)
      (long : told → length (now old (blob_key (shown u))).content ≡ u.end)
      (ranges : List (ℕ × ℕ)) (are : AreRanges ranges) (adds_number : AddsNumber (set_of o.ranges) (set_of ranges) i)
      (buffers : ℕ → Option WriteBlob) (at : buffers s ≡ Some v) (beside : (t : ℕ) → t ≢ s → buffers t ≡ o.buffers t)
      (marks : ℕ → Bool) (mark : marks s ≡ true) (mark_beside : (t : ℕ) → t ≢ s → marks t ≡ o.written t) where
    abbrev pub put_store : Store
    put_store = record { layout = o.layout; capacity = o.capacity; ranges = ranges; buffers = buffers; written = marks }

    settled : v.settled ≡ u.settled
    settled = ap (λ (w : WriteBuffer). w.settled) same

    key_v : blob_key (shown v) ≡ key_of o s
    key_v = ap blob_key same ∙ key

    at_place : offset + length slot ≡ place_of o.layout i + slot_size o.layout
    at_place = omega (arith, place, len)

    step : Replaces told o s s_small v ranges buffers marks at beside old.opened new.opened (now old) (now new)
    step = record {
      usable = usable;
      are_ranges = are;
      held = λ j other is. elim ((adds_number j).0 is) [
        | inl one ↦ absurd (other (ap (section_of o.layout) one))
        | inr was ↦ was
      ];
      room = λ j here is. elim ((adds_number j).0 is) [
        | inl one ↦ subst (λ (n : ℕ). place_of o.layout n + slot_size o.layout ≤ size_of (shown v)) (sym one) (omega (arith, size, at_place))
        | inr was ↦ (let had : place_of o.layout j + slot_size o.layout ≤ size_of (shown u) =
            subst (λ (b : Option WriteBlob). IsSomeAnd b (λ w. place_of o.layout j + slot_size o.layout ≤ size_of (shown w))) (ap o.buffers here ∙ hand) (usable.room j was) in
            omega (arith, had, size))
      ];
      first = usable.first s (subst IsSome (sym hand) refl);
      capacity = ap (λ (w : WriteBuffer). w.capacity) same ∙ usable.capacity s u hand;
      key = key_v;
      is_open = subst (λ (k : Key). IsOpenAt new.opened k v.end) key_v is_open;
      bounded = omega (arith, size, at_place, settled, usable.bounded s u hand, slot_inside o.layout i usable.items.0);
      unwritten = λ un. absurd (cc (mark, un));
      others_unwritten = λ t other un. sym (mark_beside t other) ∙ un;
      entries = λ q other. entries.others q (λ is. other (is ∙ key));
      over = λ t. subst (λ (k : Key). Over (shown v) (now new k)) key (over t);
      others = λ t q other. (always_now old.time new.time (OnlyAt (key_of o s) (now old) (Spares R u.settled (now old (key_of o s)))) (spares_here t)).others q other;
    }

    has_other : (j : ℕ) → j ≢ i → has put_store j ≡ has o j
    has_other j other = same_truth (has put_store j) (has o j)
        (λ is. elim ((adds_number j).0 is) [ inl one ↦ absurd (other one) | inr was ↦ was ]) (λ was. (adds_number j).1 (inr was))

    abbrev all : List ℕ
    all = bytes_of (shown u) (now old (key_of o s)).content

    bytes_here : told → bytes_of (shown v) (now new (key_of o s)).content ≡ written all (position_of o.layout i * slot_size o.layout) slot
    bytes_here t = subst (λ (k : Key). bytes_of (shown v) (now new k).content ≡ written (bytes_of (shown u) (now old k).content) (place_of o.layout i) slot) key
        (bytes t ∙ ap (λ (n : ℕ). written (bytes_of (shown u) (now old (blob_key (shown u))).content) n slot) place)

    long_all : told → size_of (shown u) ≤ length all
    long_all t = let e : length (now old (key_of o s)).content ≡ u.end = subst (λ (k : Key). length (now old k).content ≡ u.end) key (long t) in
        omega (arith, e, length-written (now old (key_of o s)).content u.at u.pending.items)

    was_here : (j : ℕ) → section_of o.layout j ≡ s → has o j ≡ true → slots_of o (now old) j ≡ Some (slot_at (slot_size o.layout) all (position_of o.layout j))
    was_here j here is =
        ap (λ (h : Bool). cond h (Some (slot_at (slot_size o.layout) (unwrap_or (option_map (λ w. bytes_of (shown w) (now old (key_of o (section_of o.layout j))).content) (o.buffers (section_of o.layout j))) []) (position_of o.layout j))) None) is
        ∙ ap (λ (n : ℕ). Some (slot_at (slot_size o.layout) (unwrap_or (option_map (λ w. bytes_of (shown w) (now old (key_of o n)).content) (o.buffers n)) []) (position_of o.layout j))) here
        ∙ ap (λ (b : Option WriteBlob). Some (slot_at (slot_size o.layout) (unwrap_or (option_map (λ w. bytes_of (shown w) (now old (key_of o s)).content) b) []) (position_of o.layout j))) hand

    slot_now : told → (j : ℕ) → section_of o.layout j ≡ s → has put_store j ≡ true → slots_of put_store (now new) j ≡ Some (slot_at (slot_size o.layout) (written all (position_of o.layout i * slot_size o.layout) slot) (position_of o.layout j))
    slot_now t j here is = slots_here told o s s_small v ranges buffers marks at beside old.opened new.opened (now old) (now new) step j here is
        ∙ ap (λ (c : List ℕ). Some (slot_at (slot_size o.layout) c (position_of o.layout j))) (bytes_here t)

    beside_here : told → (j : ℕ) → j ≢ i → section_of o.layout j ≡ s → slots_of put_store (now new) j ≡ slots_of o (now old) j
    beside_here t j other here = elim (has o j) as (λ (h : Bool). has o j ≡ h → slots_of put_store (now new) j ≡ slots_of o (now old) j) [
      | true ↦ λ is. (let room : place_of o.layout j + slot_size o.layout ≤ size_of (shown u) =
          subst (λ (b : Option WriteBlob). IsSomeAnd b (λ w. place_of o.layout j + slot_size o.layout ≤ size_of (shown w))) (ap o.buffers here ∙ hand) (usable.room j is) in
          slot_now t j here (has_other j other ∙ is)
          ∙ ap (λ (c : List ℕ). Some c) (slot_beside (slot_size o.layout) (position_of o.layout i) (position_of o.layout j) all slot len (positions_differ o.layout i j other here) (omega (arith, room, long_all t)))
          ∙ sym (was_here j here is))
      | false ↦ λ is.
          ap (λ (h : Bool). cond h (Some (slot_at (slot_size o.layout) (unwrap_or (option_map (λ w. bytes_of (shown w) (now new (key_of o (section_of o.layout j))).content) (buffers (section_of o.layout j))) []) (position_of o.layout j))) None) (has_other j other ∙ is)
          ∙ sym (ap (λ (h : Bool). cond h (Some (slot_at (slot_size o.layout) (unwrap_or (option_map (λ w. bytes_of (shown w) (now old (key_of o (section_of o.layout j))).content) (o.buffers (section_of o.layout j))) []) (position_of o.layout j))) None) is)
    ] refl

    slots_after : told → (j : ℕ) → slots_of put_store (now new) j ≡ cond (nat_eq j i) (Some slot) (slots_of o (now old) j)
    slots_after t j = elim (cases_eq j i) [
      | inl one ↦
          slot_now t j (ap (section_of o.layout) one) ((adds_number j).1 (inl one))
          ∙ ap (λ (n : ℕ). Some (slot_at (slot_size o.layout) (written all (position_of o.layout i * slot_size o.layout) slot) (position_of o.layout n))) one
          ∙ ap (λ (c : List ℕ). Some c) (slot_written (slot_size o.layout) (position_of o.layout i) all slot len)
          ∙ sym (ap (λ (b : Bool). cond b (Some slot) (slots_of o (now old) j)) (eq-eqb j i one))
      | inr other ↦
          (elim (cases_eq (section_of o.layout j) s) as (λ _. slots_of put_store (now new) j ≡ slots_of o (now old) j) [
            | inl here ↦ beside_here t j other here
            | inr there ↦ slots_there told o s s_small v ranges buffers marks at beside old.opened new.opened (now old) (now new) step t j there (has_other j other)
          ])
          ∙ sym (ap (λ (b : Bool). cond b (Some slot) (slots_of o (now old) j)) (ne_eqb j i other))
    ]

    quiet_in : (j : ℕ) → j ≢ i → section_of o.layout j ≡ s → IsQuietIn o.layout u j → IsQuietIn put_store.layout v j
    quiet_in j other here q = record {
      settled = omega (arith, q.settled, settled);
      apart = λ k w. outside_after (shown u) (shown v) offset slot k holds (q.apart k w)
          (subst (λ (n : ℕ). (k < n) ⊎ (n + length slot ≤ k)) (sym place)
          (subst (λ (n : ℕ). (k < place_of o.layout i) ⊎ (place_of o.layout i + n ≤ k)) (sym len)
          (slots_apart (position_of o.layout i) (position_of o.layout j) (slot_size o.layout) k (positions_differ o.layout i j other here) w)));
    }

    quiet_after : (j : ℕ) → j ≢ i → IsQuiet o j → IsQuiet put_store j
    quiet_after j other quiet = elim (cases_eq (section_of o.layout j) s) [
      | inl here ↦ subst (λ (b : Option WriteBlob). IsSomeAnd b (λ w. IsQuietIn put_store.layout w j)) (sym (ap buffers here ∙ at))
          (quiet_in j other here (subst (λ (b : Option WriteBlob). IsSomeAnd b (λ w. IsQuietIn o.layout w j)) (ap o.buffers here ∙ hand) quiet))
      | inr there ↦ subst (λ (b : Option WriteBlob). IsSomeAnd b (λ w. IsQuietIn o.layout w j)) (sym (beside (section_of o.layout j) there)) quiet
    ]

    pub put_done : {T : Type 0} (show : T → Store) (r : T) → show r ≡ put_store → Putting show told o i slot (Ok r) old new
    put_done show r is = record {
      same = subst (SamePlace o) (sym is) (record { layout = refl; capacity = refl });
      usable = subst (λ (n : Store). IsUsable n told new.opened (now new)) (sym is) (usable_after told o s s_small v ranges buffers marks at beside old.opened new.opened (now old) (now new) step);
      held = subst (λ (n : Store). AddsNumber (set_of o.ranges) (set_of n.ranges) i) (sym is) adds_number;
      slots = λ t. subst (λ (n : Store). (j : ℕ) → slots_of n (now new) j ≡ cond (nat_eq j i) (Some slot) (slots_of o (now old) j)) (sym is) (slots_after t);
      quiet = subst (λ (n : Store). (j : ℕ) → j ≢ i → IsQuiet o j → IsQuiet n j) (sym is) quiet_after;
      moments = put_trail.moments;
      entries = put_trail.entries;
      unread = put_trail.unread;
      faults = put_trail.faults;
      cause = tt;
    }
