-- Blobs whose sealed prefix is shorter than their size: it outlives calls that spare it, and each crash leaves it.
use Rattle.std.proofs.Common.{◌≡◌, ◌⊎◌, inl, inr, ℕ, zero, suc, ◌+◌, ◌*◌, ◌<◌, ◌≤◌, max, Bool, true, false, List, ◌++◌, length, take, Result, Ok, Option, Some, None, IsSomeAnd, length-append, refl, sym, ◌∙◌, ap, subst, arith, get_or, length-take}
use Rattle.std.proofs.lemmas.Bool.{cases_lt}
use Rattle.std.proofs.lemmas.Nat.{le-div}
use Rattle.std.proofs.lemmas.List.{take_all, get_or-take, get_or_append_left, ext_get_or}
use Rattle.blob_device.specs.declared.error.DevError.{DevError}
use Rattle.blob_device.specs.Change.{Settle}
use Rattle.blob_device.specs.Disk.{Key, Blob, past, shortest}
use Rattle.blob_device.specs.Timeline.{Timeline, disk, Passes, OnlyAt}
use Rattle.blob_device.specs.lemmas.Guards.{guards_crash, guards_left}
use Rattle.sealed_pages.specs.lemmas.Had.{had_rest}
use Rattle.sealed_pages.specs.lemmas.Prefixes.{prefix_now, prefix_settle, prefix_start}
use Rattle.sealed_pages.specs.lemmas.Reaching.{own_prefix, prefix_size, prefix_sound}
use Rattle.sealed_pages.specs.lemmas.Syncing.{backed_more}
use Rattle.sealed_pages.specs.lemmas.adopted.Adopt.{best_length, get_or-data_from, length-data_from}
use Rattle.sealed_pages.specs.lemmas.adopted.Repairing.{page_order}
use Rattle.sealed_pages.specs.lemmas.cutting.Cuts.{below_start}
use Rattle.sealed_pages.specs.lemmas.cutting.Steps.{settled_rest}
use Rattle.sealed_pages.specs.lemmas.cutting.Truncating.{prefix_covers}
use Rattle.sealed_pages.specs.lemmas.slots.PageCalls.{only_then, only_weaker}
use Rattle.sealed_pages.specs.lemmas.slots.SealedBytes.{covers_length, page_length-le, rest, rest_is, sealed_step}
use Rattle.sealed_pages.specs.lemmas.slots.Slot.{bytes_at-same, page_next, slot_same}
use Rattle.sealed_pages.specs.lemmas.slots.Steps.{slot_high, slot_low}
use Rattle.blob_device.specs.lemmas.Moments.{always_now, ok_blob}
use Rattle.sealed_pages.specs.Buffer.{Buffer, size_of, bytes_of, IsBacked, IsSealed}
use Rattle.sealed_pages.specs.ChanceSeal.{NoChanceSeal, Leaves, Sealing}
use Rattle.sealed_pages.specs.Contents.{IsHad}
use Rattle.sealed_pages.specs.Cutting.{StandsSettled}
use Rattle.sealed_pages.specs.SealedPrefix.{pages_in, sealed_from, sealed_prefix, adopted_size, Prefix, data_from}
use Rattle.sealed_pages.specs.Slots.{slot_length, page_length, best_slot}
use Rattle.sealed_pages.specs.Unrecovered.{HasBytesBelow, SparedPrefix, SparesPrefix, HasPrefix, KeepsPrefix, IsUnrecovered, IsAdopted}
use Rattle.sealed_pages.specs.View.{view, bytes_at, page_at, slot_at}
use Rattle.blob_device.proofs.general.Numbers.{times_more, times_next}

module _ (seal : List ℕ → ℕ) (P : ℕ) where
  -- two contents with the same bytes up to the end of a page
  pub record SameTo (page : ℕ) (c d : List ℕ) : Type 0 where
    pub long : page_at P (page + 1) ≤ length c
    pub other : page_at P (page + 1) ≤ length d
    pub same : (i : ℕ) → i < page_at P (page + 1) → view c i ≡ view d i

  module _ (page : ℕ) (c d : List ℕ) (to : SameTo page c d) where
    slot_to : (k : ℕ) (b : Bool) → k ≤ page → slot_length seal P c k b ≡ slot_length seal P d k b
    slot_to k b le =
        let inside : slot_at P k b + 6 ≤ page_at P (page + 1) = omega (arith, slot_high P k b, page_next P k, page_order (λ x. 0) P (k + 1) (page + 1) (omega (arith, le))) in
        slot_same seal P c d k b (omega (arith, inside, to.long)) (omega (arith, inside, to.other))
        (λ i lt. to.same (slot_at P k b + i) (omega (arith, lt, inside)))
        (λ i named lt. to.same (page_at P k + i) (omega (arith, lt, inside, slot_low P k b)))

    pub page_to : (k : ℕ) → k ≤ page → page_length seal P c k ≡ page_length seal P d k
    unfolding page_length
    page_to k le = λ t. max (slot_to k false le t) (slot_to k true le t)

    bytes_to : (k : ℕ) → k ≤ page → bytes_at (view c) (page_at P k) (page_length seal P c k) ≡ bytes_at (view d) (page_at P k) (page_length seal P d k)
    bytes_to k le =
        let inside : page_at P k + P ≤ page_at P (page + 1) = omega (arith, page_next P k, page_order (λ x. 0) P (k + 1) (page + 1) (omega (arith, le))) in
        bytes_at-same (view c) (view d) (page_length seal P c k) (page_at P k) (λ i lt. to.same (page_at P k + i) (omega (arith, lt, inside, page_length-le seal P c k)))
        ∙ ap (bytes_at (view d) (page_at P k)) (page_to k le)

    rests : page_length seal P c page < P → (m n k : ℕ) → k ≤ page → (k < page → sealed_from seal P c (k + 1) m ≡ sealed_from seal P d (k + 1) n) → rest seal P c k m ≡ rest seal P d k n
    rests short m n k le next = elim (rest_is seal P c k m) [
      | inl full ↦ elim (rest_is seal P d k n) [
        | inl also ↦ elim (cases_lt k page) [
          | inl less ↦ full.1 ∙ next less ∙ sym also.1
          | inr last ↦ (let is : k ≡ page = omega (arith, le, last) in absurd (omega (arith, short, full.0, ap (page_length seal P c) is)))
        ]
        | inr part ↦ absurd (part.0 (sym (page_to k le) ∙ full.0))
      ]
      | inr part ↦ elim (rest_is seal P d k n) [
        | inl full ↦ absurd (part.0 (page_to k le ∙ full.0))
        | inr also ↦ part.1 ∙ sym also.1
      ]
    ]

    from_to : page_length seal P c page < P → (m n k : ℕ) → k ≤ page → page < k + m → page < k + n → sealed_from seal P c k m ≡ sealed_from seal P d k n
    from_to short zero n k le fuel more = absurd (omega (arith, le, fuel))
    from_to short (suc m) zero k le fuel more = absurd (omega (arith, le, more))
    from_to short (suc m) (suc n) k le fuel more =
        let next = rests short m n k le (λ less. from_to short m n (k + 1) (omega (arith, less)) (omega (arith, fuel)) (omega (arith, more))) in
        sealed_step seal P c k m ∙ (λ t. bytes_to k le t ++ next t) ∙ sym (sealed_step seal P d k n)

    many : (e : List ℕ) → page_at P (page + 1) ≤ length e → page < pages_in P e
    unfolding page_at
    many e le = omega (arith, le-div (page + 1) (length e) (P + 12) (omega arith) le)

    -- where that page is not full, they have the same sealed prefix
    pub prefix_to : page_length seal P c page < P → sealed_prefix seal P c ≡ sealed_prefix seal P d
    unfolding sealed_prefix
    prefix_to short = from_to short (pages_in P c) (pages_in P d) 0 (omega arith) (omega (arith, many c to.long)) (omega (arith, many d to.other))

  pub prefix_long : (page : ℕ) (n : ℕ) → ((i : ℕ) → i < page_at P (page + 1) → i < n) → page_at P (page + 1) ≤ n
  prefix_long page n short = omega (arith, page_next P page, short (page_at P page + (P + 11)) (omega (arith, page_next P page)))

  -- What outlives each crash up to the end of a page that is not full holds the sealed prefix.
  pub prefix_from_below : (page : ℕ) (c : List ℕ) (b : Blob) → page_at P (page + 1) ≤ length c → page_length seal P c page < P → HasBytesBelow (page_at P (page + 1)) (view c) b → HasPrefix seal P (sealed_prefix seal P c) b
  prefix_from_below page c b long short prefix = record {
    reads = sym (prefix_to page c b.content (record { long = long; other = prefix_long page (length b.content) prefix.long; same = λ i lt. sym (prefix.same i lt) }) short);
    crashes = guards_left (λ i. i < page_at P (page + 1)) (view c) b (λ d. sealed_prefix seal P d ≡ sealed_prefix seal P c) prefix
        (λ d hold. sym (prefix_to page c d (record {
          long = long;
          other = omega (arith, hold.no_shorter, prefix_long page (shortest b) prefix.short);
          same = λ i lt. sym (guards_crash (λ i. i < page_at P (page + 1)) (view c) b prefix d hold i lt);
        }) short));
  }

  -- a page that is not full below this one, or none
  full_below : (c : List ℕ) (n : ℕ) → ((k : ℕ) × (k < n) × (page_length seal P c k < P)) ⊎ ((k : ℕ) → k < n → P ≤ page_length seal P c k)
  full_below c zero = inr (λ k lt. absurd (omega (arith, lt)))
  full_below c (suc n) = elim (full_below c n) [
    | inl found ↦ inl (found.0, omega (arith, found.1), found.2)
    | inr full ↦ elim (cases_lt (page_length seal P c n) P) [
      | inl short ↦ inl (n, omega arith, short)
      | inr here ↦ inr (λ k lt. elim (cases_lt k n) [
        | inl less ↦ full k less
        | inr last ↦ (let is : n ≡ k = omega (arith, lt, last) in omega (arith, here, ap (page_length seal P c) is))
      ])
    ]
  ]

  -- The sealed prefix does not reach this far: a page below is not full, or this one is not covered so far.
  pub short_of : (c : List ℕ) (j keep : ℕ) → 1 ≤ P → length (sealed_prefix seal P c) < j * P + keep → ((k : ℕ) × (k < j) × (page_length seal P c k < P)) ⊎ (page_length seal P c j < keep)
  short_of c j keep pos less = elim (full_below c j) [
    | inl found ↦ inl found
    | inr full ↦ elim (cases_lt (page_length seal P c j) keep) [
      | inl here ↦ inr here
      | inr covered ↦ absurd (reach full covered)
    ]
  ]
    where
      start : ((k : ℕ) → k < j → P ≤ page_length seal P c k) → j * P ≤ length (sealed_prefix seal P c)
      start full = covers_length seal P c (j * P) (best_slot seal P c) pos (λ k lt. omega (arith, best_length seal P c k, full k (below_start P j k (omega (arith, lt)))))

      reach : ((k : ℕ) → k < j → P ≤ page_length seal P c k) → keep ≤ page_length seal P c j → ⊥
      reach full covered = elim (cases_lt 0 keep) [
        | inl some ↦ omega (arith, less, covered, best_length seal P c j, (prefix_sound seal P c).within j (best_slot seal P c j) (start full) (omega (arith, some, covered, best_length seal P c j)))
        | inr none ↦ omega (arith, less, none, start full)
      ]

-- a crash leaves the sealed prefix, and so a prefix of it
pub prefix_leaves : (seal : List ℕ → ℕ) (P : ℕ) (bytes : List ℕ) (L : ℕ) (b : Blob) → L ≤ length bytes → HasPrefix seal P bytes b → Leaves seal P bytes L b
prefix_leaves seal P bytes L b le has left may = go left (has.crashes left may)
  where
    whole : (c : List ℕ) → sealed_prefix seal P c ≡ bytes → Prefix seal P bytes L c
    whole c is = record {
      is = is ∙ sym (take_all (length (sealed_prefix seal P c)) bytes (omega (arith, ap length is)));
      no_shorter = omega (arith, le, ap length is);
      no_longer = omega (arith, ap length is);
    }

    go : (left : Option (List ℕ)) → IsSomeAnd left (λ c. sealed_prefix seal P c ≡ bytes) → IsSomeAnd left (λ c. NoChanceSeal seal P (past b) c → Prefix seal P bytes L c)
    go None has = has
    go (Some c) has = λ chance. whole c has

module _ (seal : List ℕ → ℕ) (P : ℕ) (bytes : List ℕ) (key : Key) where
  pub keeps_sealing : (L : ℕ) (a b : Timeline) → L ≤ length bytes → KeepsPrefix seal P bytes key a b → Sealing seal P bytes L key a b
  keeps_sealing L a b le keeps = only_weaker a b key (disk a) (HasPrefix seal P bytes) (Leaves seal P bytes L) (λ x has. prefix_leaves seal P bytes L x le has) keeps

  pub keeps_now : (a b : Timeline) → KeepsPrefix seal P bytes key a b → sealed_prefix seal P (disk b key).content ≡ bytes
  keeps_now a b keeps = (always_now a b (OnlyAt key (disk a) (HasPrefix seal P bytes)) keeps).here.reads

  pub keeps_then : (a b c : Timeline) → KeepsPrefix seal P bytes key a b → KeepsPrefix seal P (sealed_prefix seal P (disk b key).content) key b c → KeepsPrefix seal P bytes key a c
  keeps_then a b c first second = only_then a b c key (HasPrefix seal P bytes) first (subst (λ (l : List ℕ). KeepsPrefix seal P l key b c) (keeps_now a b first) second)

-- a page below one up to which all has settled
pub page_settled : (k first P settled : ℕ) → k < first → first * P ≤ settled → (k + 1) * P ≤ settled
page_settled k first P settled less all = omega (arith, times_more k first P less, times_next k P, all)

module _ (seal : List ℕ → ℕ) (u : Buffer) where
  -- what calls that spare the page and those before it leave of an adopted blob
  module _ (key : Key) (a b : Timeline) (un : IsUnrecovered seal u (disk a key)) (end : ℕ) (within : un.page < end) (spares : SparesPrefix (page_at u.page_size end) key a b) where
    reach : page_at u.page_size (un.page + 1) ≤ page_at u.page_size end
    reach = page_order (λ x. 0) u.page_size (un.page + 1) end (omega (arith, within))

    pub long : page_at u.page_size (un.page + 1) ≤ length (disk a key).content
    long = prefix_long seal u.page_size un.page (length (disk a key).content) un.prefix.long

    pub spared_keeps : KeepsPrefix seal u.page_size (sealed_prefix seal u.page_size (disk a key).content) key a b
    spared_keeps = only_weaker a b key (disk a) (SparedPrefix (page_at u.page_size end) (disk a key)) (HasPrefix seal u.page_size (sealed_prefix seal u.page_size (disk a key).content))
        (λ x has. prefix_from_below seal u.page_size un.page (disk a key).content x long un.short (has.crashes (page_at u.page_size (un.page + 1)) (view (disk a key).content) reach un.prefix)) spares

    now : HasBytesBelow (page_at u.page_size (un.page + 1)) (view (disk a key).content) (disk b key)
    now = (prefix_now (page_at u.page_size end) key a b spares).crashes (page_at u.page_size (un.page + 1)) (view (disk a key).content) reach un.prefix

    pub spared_stays : (v : Buffer) → v.page_size ≡ u.page_size → un.page < v.first → (un.page + 1) * u.page_size ≤ v.settled → IsBacked seal v (disk b key).content → (v.settled ≡ size_of v → StandsSettled (disk b key)) → IsHad (disk b key) → IsUnrecovered seal v (disk b key)
    spared_stays v same below settled backed rest had = record {
      page = un.page;
      below = below;
      settled = subst (λ (P : ℕ). (un.page + 1) * P ≤ v.settled) (sym same) settled;
      short = subst (λ (P : ℕ). page_length seal P (disk b key).content un.page < P) (sym same) (omega (
        arith,
        un.short,
        page_to seal u.page_size un.page (disk a key).content (disk b key).content
            (record { long = long; other = prefix_long seal u.page_size un.page (length (disk b key).content) now.long; same = λ i lt. sym (now.same i lt) }) un.page (omega arith),
      ));
      prefix = subst (λ (P : ℕ). HasBytesBelow (page_at P (un.page + 1)) (view (disk b key).content) (disk b key)) (sym same)
          (record { there = now.there; sure = now.sure; short = now.short; long = now.long; outside = now.outside; same = λ i lt. refl });
      backed = backed;
      rest = rest;
      had = had;
    }

  -- no call was made
  pub stood_keeps : (key : Key) (t : Timeline) → IsUnrecovered seal u (disk t key) → KeepsPrefix seal u.page_size (sealed_prefix seal u.page_size (disk t key).content) key t t
  stood_keeps key t un = spared_keeps key t t un u.first un.below (prefix_start (page_at u.page_size u.first) key t)

  -- a sync
  pub settled_keeps : {T : Type 0} (key : Key) (a b : Timeline) (r : Result T DevError) → IsUnrecovered seal u (disk a key) → Passes key Settle r a b → KeepsPrefix seal u.page_size (sealed_prefix seal u.page_size (disk a key).content) key a b
  settled_keeps key a b r un passes = spared_keeps key a b un u.first un.below (prefix_settle (page_at u.page_size u.first) key a a b r (prefix_start (page_at u.page_size u.first) key a) passes)

  pub settled_stays : {T : Type 0} (key : Key) (a b : Timeline) (x : T) (v : Buffer) → IsUnrecovered seal u (disk a key) → Passes key Settle (Ok x) a b → v.page_size ≡ u.page_size → v.first ≡ u.first → u.first * u.page_size ≤ v.settled → IsBacked seal v (disk b key).content → IsUnrecovered seal v (disk b key)
  settled_stays key a b x v un passes same first settled backed = spared_stays key a b un u.first un.below (prefix_settle (page_at u.page_size u.first) key a a b (Ok x) (prefix_start (page_at u.page_size u.first) key a) passes) v same (omega (arith, un.below, first)) (page_settled un.page u.first u.page_size v.settled un.below settled) backed
      (λ e. settled_rest (disk b key) (disk a key).content (ok_blob key Settle x a b passes)) (had_rest (disk b key) (settled_rest (disk b key) (disk a key).content (ok_blob key Settle x a b passes)))

  -- more bytes in the tip
  pub more_stays : (v : Buffer) (more : List ℕ) (b : Blob) → v ≡ record u { tip = u.tip ++ more } → u.from ≤ length u.tip → u.settled ≤ size_of u → IsUnrecovered seal u b → IsUnrecovered seal v b
  more_stays v more b is within order un = subst (λ (x : Buffer). IsUnrecovered seal x b) (sym is) (record {
    page = un.page;
    below = un.below;
    short = un.short;
    settled = un.settled;
    prefix = un.prefix;
    backed = record {
      flushed = backed_more u (record u { tip = u.tip ++ more }) more b.content refl within un.backed.flushed;
      tip = un.backed.tip;
      cache = un.backed.cache;
    };
    rest = λ e. un.rest (omega (arith, e, order, length-append u.tip more));
    had = un.had;
  })

  -- the sealed prefix ends below the tip
  pub prefix_short : (b : Blob) → 1 ≤ u.page_size → IsUnrecovered seal u b → length (sealed_prefix seal u.page_size b.content) < u.first * u.page_size
  prefix_short b pos un = elim (cases_lt (length (sealed_prefix seal u.page_size b.content)) (u.first * u.page_size)) [
    | inl lt ↦ lt
    | inr le ↦ (let has = prefix_covers seal u.page_size b.content un.page u.page_size pos (omega arith) (omega (arith, le, times_next un.page u.page_size, times_more un.page u.first u.page_size un.below)) in absurd (omega (arith, has, un.short)))
  ]

  -- and all of it has settled
  pub prefix_settled : (b : Blob) → 1 ≤ u.page_size → IsUnrecovered seal u b → length (sealed_prefix seal u.page_size b.content) ≤ u.settled
  prefix_settled b pos un = elim (cases_lt u.settled (length (sealed_prefix seal u.page_size b.content))) [
    | inr le ↦ le
    | inl past ↦ (let has = prefix_covers seal u.page_size b.content un.page u.page_size pos (omega arith) (omega (arith, past, un.settled, times_next un.page u.page_size)) in absurd (omega (arith, has, un.short)))
  ]

  -- A cut behind the sealed prefix is in a later page than one that is not full, or its page is not covered so far.
  pub behind_prefix : (b : Blob) (j keep : ℕ) → 1 ≤ u.page_size → IsUnrecovered seal u b → length (sealed_prefix seal u.page_size b.content) < j * u.page_size + keep
      → ((un : IsUnrecovered seal u b) × (un.page < j)) ⊎ (page_length seal u.page_size b.content j < keep)
  behind_prefix b j keep pos un less = elim (cases_lt un.page j) [
    | inl before ↦ inl (un, before)
    | inr le ↦ elim (short_of seal u.page_size b.content j keep pos less) [
      | inl found ↦ inl (
        record {
          page = found.0;
          below = omega (arith, found.1, le, un.below);
          short = found.2;
          settled = page_settled found.0 (un.page + 1) u.page_size u.settled (omega (arith, found.1, le)) un.settled;
          prefix = (let near = page_order (λ x. 0) u.page_size (found.0 + 1) (un.page + 1) (omega (arith, found.1, le)) in record {
            there = un.prefix.there;
            sure = un.prefix.sure;
            short = λ i lt. un.prefix.short i (omega (arith, lt, near));
            long = λ i lt. un.prefix.long i (omega (arith, lt, near));
            outside = λ i lt. un.prefix.outside i (omega (arith, lt, near));
            same = λ i lt. refl;
          });
          backed = un.backed;
          rest = un.rest;
          had = un.had;
        },
        found.1,
      )
      | inr here ↦ inr here
    ]
  ]

-- the sealed prefix is a part of the data from the start on
prefix_own : (seal : List ℕ → ℕ) (P : ℕ) (c : List ℕ) (n : ℕ) (tip : List ℕ) → length (sealed_prefix seal P c) < n → sealed_prefix seal P c ≡ take (length (sealed_prefix seal P c)) (data_from P (view c) 0 n ++ tip)
prefix_own seal P c n tip less = ext_get_or 0 (sealed_prefix seal P c) (take (length (sealed_prefix seal P c)) (data_from P (view c) 0 n ++ tip))
    (omega (arith, length-take (length (sealed_prefix seal P c)) (data_from P (view c) 0 n ++ tip), length-append (data_from P (view c) 0 n) tip, length-data_from P (view c) n 0, less))
    (λ i lt. (let near : i < n = omega (arith, lt, less) in
    ap (λ (l : List ℕ). get_or l i 0) (own_prefix seal P c).is
    ∙ get_or-take (length (sealed_prefix seal P c)) (data_from P (view c) 0 (adopted_size seal P c)) i 0 lt
    ∙ get_or-data_from P (view c) (adopted_size seal P c) 0 i (omega (arith, lt, prefix_size seal P c))
    ∙ sym (get_or-data_from P (view c) n 0 i near)
    ∙ sym (get_or_append_left (data_from P (view c) 0 n) tip 0 i (omega (arith, near, length-data_from P (view c) n 0)))
    ∙ sym (get_or-take (length (sealed_prefix seal P c)) (data_from P (view c) 0 n ++ tip) i 0 lt)))

-- What the layers above rest on: the sealed prefix outlives each crash, ends below the tip, and is a prefix of the bytes
-- (`prefix_settled`: and all of it has settled).
pub unrecovered_prefix : (seal : List ℕ → ℕ) (u : Buffer) (b : Blob) → 1 ≤ u.page_size → IsUnrecovered seal u b → HasPrefix seal u.page_size (sealed_prefix seal u.page_size b.content) b
    × (length (sealed_prefix seal u.page_size b.content) < u.first * u.page_size) × (sealed_prefix seal u.page_size b.content ≡ take (length (sealed_prefix seal u.page_size b.content)) (bytes_of u b.content))
unrecovered_prefix seal u b pos un = (
  prefix_from_below seal u.page_size un.page b.content b (prefix_long seal u.page_size un.page (length b.content) un.prefix.long) un.short un.prefix,
  prefix_short seal u b pos un,
  prefix_own seal u.page_size b.content (u.first * u.page_size) u.tip (prefix_short seal u b pos un),
)

-- a buffer whose pages below the tip's are all full is sealed
pub adopted_sealed : (seal : List ℕ → ℕ) (u : Buffer) (b : Blob) → IsAdopted seal u b → ((k : ℕ) → k < u.first → u.page_size ≤ page_length seal u.page_size b.content k) → IsSealed seal u b
adopted_sealed seal u b (inl sealed) full = sealed
adopted_sealed seal u b (inr un) full = absurd (omega (arith, un.short, full un.page un.below))

-- what is flushed stands in the blob
pub adopted_backed : (seal : List ℕ → ℕ) (u : Buffer) (b : Blob) → IsAdopted seal u b → IsBacked seal u b.content
adopted_backed seal u b (inl sealed) = sealed.backed
adopted_backed seal u b (inr un) = un.backed
