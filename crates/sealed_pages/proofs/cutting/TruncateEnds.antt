-- A cut of a buffer whose bytes a sync has settled first: what it owes, from what the two calls say.
use Rattle.std.proofs.Common.{◌≡◌, ◌+◌, ◌*◌, ◌/◌, ◌%◌, ◌≤◌, ◌<◌, ◌∙◌, ◌⊎◌, min, ap, sym, subst, ℕ, List, [], false, length, take, refl, arith, length-take, inl, inr, Result, Ok, Err, Option, Some, None, IsSomeAnd}
use Rattle.std.specs.Prelude.{IfOk, OnOk, OnErr}
use Rattle.blob_device.specs.Counts.{Rose}
use Rattle.blob_device.specs.Disk.{Key, Disk, Blob}
use Rattle.blob_device.specs.Opened.{Opened, OpenedList, reads_of}
use Rattle.blob_device.specs.Timeline.{Timeline, disk}
use Rattle.blob_device.specs.declared.runtime.RError.{RError}
use Rattle.blob_device.specs.declared.runtime.RError.TheVariants.{Fault, InvalidChecksum, Mem}
use Rattle.sealed_pages.specs.Buffer.{Buffer, key_of, size_of, flushed_of, bytes_of, Holds, IsSealed, IsBacked, HasFlushed, has_leftover}
use Rattle.sealed_pages.specs.Cached.{IsCachedOf, AreCachedOf}
use Rattle.std.proofs.lemmas.List.Elements.{All-nil}
use Rattle.sealed_pages.specs.ChanceSeal.{Leaves, Sealing}
use Rattle.sealed_pages.specs.Cutting.{Settles, StandsSettled, FewReads}
use Rattle.sealed_pages.specs.Entries.{IsOpenAt}
use Rattle.sealed_pages.specs.Flushing.{Alone, Data}
use Rattle.sealed_pages.specs.Reading.{Unchanged}
use Rattle.sealed_pages.specs.SealedPrefix.{sealed_prefix, adopted_size}
use Rattle.sealed_pages.specs.Slots.{page_length}
use Rattle.sealed_pages.specs.Unrecovered.{blob_of, prefix_of, SparesPrefix, KeepsPrefix, IsUnrecovered, IsRecovery, IsSafeCut}
use Rattle.sealed_pages.specs.View.{page_at, view}
use Rattle.sealed_pages.proofs.cutting.Calls.{sealing_then}
use Rattle.sealed_pages.proofs.Prefixes.{prefix_look, prefix_then}
use Rattle.sealed_pages.proofs.memory.Holding.{holds_data, holds_own, holds_bytes}
use Rattle.sealed_pages.specs.lemmas.Prefixes.{prefix_now}
use Rattle.sealed_pages.specs.lemmas.Unrecovered.{keeps_now, keeps_sealing, keeps_then, prefix_short}
use Rattle.sealed_pages.specs.lemmas.cutting.Calls.{sealing_less}
use Rattle.sealed_pages.specs.lemmas.cutting.Truncating.{all_flushed, prefix_covers, rose_since, settles_of}
use Rattle.sealed_pages.specs.lemmas.looking.Looking.{unchanged_now}
use Rattle.sealed_pages.specs.lemmas.memory.Holding.{bytes_length}
use Rattle.sealed_pages.specs.lemmas.slots.PageCalls.{alone_then}
use Rattle.sealed_pages.proofs.cutting.Truncating.{after_sync, page_stands, cut_place, data_taken, leaves_of}
use Rattle.sealed_pages.specs.SlotNames.{}
use Rattle.sealed_pages.proofs.UnrecoveredLemmas.{prefix_stands, cut_keeps, cut_stays, spared_covers}
use Rattle.blob_device.proofs.general.Results.{both_ok, if_ok_with, map_ok, on_err, on_ok, on_ok_two}

-- the bytes that a buffer means
abbrev meant : Buffer → Timeline → List ℕ
meant u t = bytes_of u (blob_of u t).content

-- what a sync says: u is then w
pub record Synced (seal : List ℕ → ℕ) (u w : Buffer) (a b : Timeline) : Type 0 where
  pub key : key_of w ≡ key_of u
  pub page : w.page_size ≡ u.page_size
  pub size : size_of w ≡ size_of u
  pub settled : w.settled ≡ size_of w
  pub begun : w.from < w.page_size
  pub within : w.from ≤ length w.tip
  pub order : w.settled ≤ flushed_of w
  pub crashes : IsSealed seal u (blob_of u a) → Sealing seal u.page_size (meant u a) u.settled (key_of u) a b
  pub sealed : IsSealed seal u (blob_of u a) → IsSealed seal w (blob_of u b)
  pub steady : IsUnrecovered seal u (blob_of u a) → KeepsPrefix seal u.page_size (prefix_of seal u a) (key_of u) a b
  pub unrecovered : IsUnrecovered seal u (blob_of u a) → IsUnrecovered seal w (blob_of u b)
  pub prefix : SparesPrefix (page_at u.page_size u.first) (key_of u) a b
  pub alone : IsBacked seal u (blob_of u a).content → Alone (key_of u) a b
  pub bytes : IsBacked seal u (blob_of u a).content → bytes_of w (blob_of u b).content ≡ meant u a
  pub backed : IsBacked seal u (blob_of u a).content → IsBacked seal w (blob_of u b).content

-- a place in a page, by its number and the bytes before it in the page
pub record Place (P len j keep : ℕ) : Type 0 where
  pub at : j * P + keep ≡ len
  pub page : len / P ≡ j
  pub rest : len % P ≡ keep
  pub small : 1 ≤ P → keep < P

-- what a cut to `len` says: to the first `keep` bytes of page j
pub record Cut {T : Type 0} (see : T → Buffer) (seal : List ℕ → ℕ) (P len j keep : ℕ) (key : Key) (r : Result T RError) (b d : Timeline) : Type 0 where
  pub crashes : StandsSettled (disk b key) → page_at P j ≤ length (disk b key).content → len ≤ length (sealed_prefix seal P (disk b key).content) → Sealing seal P (sealed_prefix seal P (disk b key).content) len key b d
  pub done : StandsSettled (disk b key) → page_at P j ≤ length (disk b key).content → len ≤ length (sealed_prefix seal P (disk b key).content) → IfOk r (λ v. Holds seal (see v) (take len (sealed_prefix seal P (disk b key).content)) (disk d key))
  pub bytes : (all : List ℕ) → Data P all len (view (disk b key).content) → length all ≡ len → IfOk r (λ v. bytes_of (see v) (disk d key).content ≡ all)
  pub backed : (all : List ℕ) → Data P all len (view (disk b key).content) → length all ≡ len → IfOk r (λ v. HasFlushed (see v) (disk d key).content)
  pub memory : IfOk r (λ v. ((see v).from ≤ page_length seal P (disk d key).content (see v).first) × ((see v).cache ≡ []))
  pub rests : OnOk r (StandsSettled (disk d key))
  pub alone : Alone key b d
  pub prefix : SparesPrefix (page_at P j) key b d
  pub shorter : OnOk r (adopted_size seal P (disk d key).content ≤ len)
  pub covered : OnOk r (keep ≤ page_length seal P (disk b key).content j)
  pub refused : page_length seal P (disk b key).content j < keep → Unchanged b d

-- the buffer that a cut gives
pub record IsCut (u : Buffer) (len j : ℕ) (v : Buffer) : Type 0 where
  pub cache_pages : v.cache_pages ≡ u.cache_pages
  pub cache : v.cache ≡ []
  pub key : key_of v ≡ key_of u
  pub page : v.page_size ≡ u.page_size
  pub capacity : v.capacity ≡ u.capacity
  pub first : v.first ≡ j
  pub begun : v.from < v.page_size
  pub full : v.from ≡ length v.tip
  pub settled : v.settled ≡ len
  pub size : size_of v ≡ len
  pub clean : has_leftover v ≡ false

-- the place that a division finds
pub placed : (P q len : ℕ) → q ≡ P → Place P len (len / q) (len % q)
placed P q len is = subst (λ (n : ℕ). Place P len (len / n) (len % n)) (sym is) (record { at = cut_place P len; page = refl; rest = refl; small = λ pos. omega (arith, pos) })

-- the same of another spelling of the key, the page size and the place
pub cut_as : {T : Type 0} {see : T → Buffer} {seal : List ℕ → ℕ} {j keep : ℕ} {r : Result T RError} {b d : Timeline} {k l : Key} {p q n m : ℕ} → k ≡ l → p ≡ q → n ≡ m → Cut see seal p n j keep k r b d → Cut see seal q m j keep l r b d
cut_as {see = see} {seal = seal} {j = j} {keep = keep} {r = r} {b = b} {d = d} e f h says = subst (λ (x : Key × ℕ × ℕ). Cut see seal x.1 x.2 j keep x.0 r b d) (λ t. (e t, f t, h t)) says

pub is_cut : (u w v : Buffer) (len j : ℕ) (tip : List ℕ) → key_of w ≡ key_of u → w.page_size ≡ u.page_size → w.capacity ≡ u.capacity → w.cache_pages ≡ u.cache_pages
    → v.from < v.page_size → j * w.page_size + length tip ≡ len
    → v ≡ record w { end = v.end; first = j; tip = tip; from = length tip; settled = j * w.page_size + length tip; newest = v.newest; behind = false; torn = false; cache = [] }
    → IsCut u len j v
is_cut u w v len j tip key page capacity pages begun at is = record {
  cache_pages = ap (λ (x : Buffer). x.cache_pages) is ∙ pages;
  cache = ap (λ (x : Buffer). x.cache) is;
  key = ap key_of is ∙ key;
  page = ap (λ (x : Buffer). x.page_size) is ∙ page;
  capacity = ap (λ (x : Buffer). x.capacity) is ∙ capacity;
  first = ap (λ (x : Buffer). x.first) is;
  begun = begun;
  full = ap (λ (x : Buffer). x.from) is ∙ sym (ap (λ (x : Buffer). length x.tip) is);
  settled = ap (λ (x : Buffer). x.settled) is ∙ at;
  size = ap size_of is ∙ at;
  clean = ap has_leftover is;
}

-- an entry of the list of opened blobs, by the key that the cut buffer has
pub cut_open : {T : Type 0} (see : T → Buffer) (u w : Buffer) (len j : ℕ) (opened : OpenedList) (r : Result T RError) → key_of w ≡ key_of u
    → IfOk r (λ v. IsCut u len j (see v)) → IfOk r (λ v. IsOpenAt opened (key_of w) (see v).end) → IfOk r (λ v. IsOpenAt opened (key_of (see v)) (see v).end)
cut_open see u w len j opened (Ok v) key marks open_ = subst (λ (q : Key). IsOpenAt opened q (see v).end) (key ∙ sym marks.key) open_
cut_open see u w len j opened (Err e) key marks open_ = open_

-- a failure of the cut, or of the sync, since the call began
pub failed_since : {T : Type 0} (r : Result T RError) (n m l : ℕ) → n ≤ m → OnErr r ((r ≡ Err Mem) ⊎ ((r ≡ Err Fault) × Rose m l)) → OnErr r ((r ≡ Err Mem) ⊎ ((r ≡ Err Fault) × Rose n l))
failed_since r n m l le cause = on_err r (λ x. elim x [ inl none ↦ inl none | inr failed ↦ inr (failed.0, rose_since n m l le failed.1) ]) cause

-- the same of a cut that may name its page
pub cause_since : {T : Type 0} (r : Result T RError) (q n m l : ℕ) → n ≤ m
    → OnErr r ((r ≡ Err (InvalidChecksum q)) ⊎ ((r ≡ Err Mem) ⊎ ((r ≡ Err Fault) × Rose m l)))
    → OnErr r (((p : ℕ) × (r ≡ Err (InvalidChecksum p))) ⊎ ((r ≡ Err Mem) ⊎ ((r ≡ Err Fault) × Rose n l)))
cause_since r q n m l le cause = on_err r (λ x. elim x [
  | inl named ↦ inl (q, named)
  | inr other ↦ elim other [ inl none ↦ inr (inl none) | inr failed ↦ inr (inr (failed.0, rose_since n m l le failed.1)) ]
]) cause

-- the same result
pub caused : {T : Type 0} (B : Type 0) (r q : Result T RError) → r ≡ q → OnErr q ((q ≡ Err Mem) ⊎ ((q ≡ Err Fault) × B))
    → OnErr r ((r ≡ Err Mem) ⊎ ((r ≡ Err Fault) × B))
caused {T = T} B r q is cause = subst (λ (x : Result T RError). OnErr x ((x ≡ Err Mem) ⊎ ((x ≡ Err Fault) × B))) (sym is) cause

-- a page that a cut is within
pub page_around : (P len j keep p size : ℕ) → Place P len j keep → 1 ≤ P → 0 < keep → len < size → p ≡ j → (p * P < len) × (len < p * P + P) × (len < size)
page_around P len j keep p size place pos some less is =
    let at : p * P ≡ j * P = ap (λ (n : ℕ). n * P) is in
    let small : keep < P = place.small pos in
    (omega (arith, at, place.at, some), omega (arith, at, place.at, small), less)

-- no call was made
pub few_start : (n m : ℕ) (k : Key) (opened : OpenedList) → IsOpenAt opened k m → FewReads n k opened opened
few_start n m k opened open_ = record { others = λ q other. refl; here = here (opened k) open_ }
  where
    here : (e : Option Opened) → IsSomeAnd e (λ o. o.len ≡ m) → IsSomeAnd e (λ o. o.reads ≤ reads_of e + n)
    here None is = is
    here (Some o) is = omega arith

-- neither of them names a page
pub no_page : {T : Type 0} (B : Type 0) (r : Result T RError) (p : ℕ) → OnErr r ((r ≡ Err Mem) ⊎ ((r ≡ Err Fault) × B)) → r ≡ Err (InvalidChecksum p) → ⊥
no_page B (Ok v) p cause is = cc is
no_page B (Err e) p cause is = elim cause [ inl none ↦ cc (none, is) | inr failed ↦ (let h = failed.0 in cc (h, is)) ]

-- how far the blob is sealed with these bytes, before a cut to `len`
record Reached (seal : List ℕ → ℕ) (P len j : ℕ) (all : List ℕ) (b : Blob) : Type 0 where
  pub rest : StandsSettled b
  pub stands : page_at P j ≤ length b.content
  pub inside : len ≤ length (sealed_prefix seal P b.content)
  pub same : sealed_prefix seal P b.content ≡ all

-- A sync, and then a cut of this place.
pub record SyncedCut {T : Type 0} (see : T → Buffer) (seal : List ℕ → ℕ) (u w : Buffer) (len j keep : ℕ) (r : Result T RError) (a b d : Timeline) : Type 0 where
  pub synced : Synced seal u w a b
  pub cut : Cut see seal u.page_size len j keep (key_of u) r b d
  pub place : Place u.page_size len j keep
  pub less : len < size_of u
  pub marks : IfOk r (λ v. IsCut u len j (see v))

module _ {T : Type 0} {see : T → Buffer} {seal : List ℕ → ℕ} {u w : Buffer} {len j keep : ℕ} {r : Result T RError} {a b d : Timeline}
    (x : SyncedCut see seal u w len j keep r a b d) where
  s : Synced seal u w a b
  s = x.synced

  k : Cut see seal u.page_size len j keep (key_of u) r b d
  k = x.cut

  place : Place u.page_size len j keep
  place = x.place

  lt : len < size_of u
  lt = x.less

  pos : 1 ≤ w.page_size
  pos = omega (arith, s.begun)

  whole : length (meant u a) ≡ size_of u
  whole = bytes_length u (blob_of u a).content

  -- what a cut buffer has in memory
  abbrev HasMemory : Buffer → Type 0
  HasMemory v = (v.from ≤ page_length seal u.page_size (blob_of u d).content v.first) × (v.cache ≡ [])

  backed_cut : (v : Buffer) → v.page_size ≡ u.page_size → HasFlushed v (blob_of u d).content → HasMemory v → IsBacked seal v (blob_of u d).content
  backed_cut v same flushed memory = record {
    flushed = flushed;
    tip = subst (λ (p : ℕ). v.from ≤ page_length seal p (blob_of u d).content v.first) (sym same) memory.0;
    cache = subst (λ (l : List (ℕ × List ℕ)). AreCachedOf seal v.page_size (blob_of u d).content l) (sym memory.1) (All-nil (IsCachedOf seal v.page_size (blob_of u d).content));
  }

  -- the bytes of a sealed buffer
  sealed_so_far : IsSealed seal u (blob_of u a) → Reached seal u.page_size len j (meant u a) (blob_of u b)
  sealed_so_far sealed =
      let same = s.bytes sealed.backed in
      let t : Settles seal u.page_size (meant u a) (blob_of u b) = after_sync seal u w (blob_of u a) (blob_of u b) s.page s.begun s.within s.order s.settled (s.sealed sealed).holds same in
      record {
        rest = t.rest;
        stands = page_stands seal u.page_size (blob_of u b).content j (omega (arith, t.adopted, whole, place.at, lt));
        inside = omega (arith, ap length t.prefix, whole, lt);
        same = t.prefix;
      }

  -- the sealed prefix of an adopted blob
  prefix_so_far : IsRecovery seal u len (blob_of u a) → Reached seal u.page_size len j (prefix_of seal u a) (blob_of u b)
  prefix_so_far recovery =
      let same = keeps_now seal u.page_size (prefix_of seal u a) (key_of u) a b (s.steady recovery.0) in
      let inside : len ≤ length (prefix_of seal u b) = omega (arith, ap length same, recovery.1) in
      record {
        rest = (s.unrecovered recovery.0).rest s.settled;
        stands = subst (λ (p : ℕ). j * p ≤ length (sealed_prefix seal p (blob_of u b).content) → page_at p j ≤ length (blob_of u b).content) s.page
            (prefix_stands seal w pos (blob_of u b) j (s.unrecovered recovery.0)) (omega (arith, inside, place.at));
        inside = inside;
        same = same;
      }

  module _ {all : List ℕ} (so_far : Reached seal u.page_size len j all (blob_of u b)) where
    told : Sealing seal u.page_size all len (key_of u) b d
    told = subst (λ (l : List ℕ). Sealing seal u.page_size l len (key_of u) b d) so_far.same (k.crashes so_far.rest so_far.stands so_far.inside)

    held : IfOk r (λ v. Holds seal (see v) (take len all) (blob_of u d))
    held = subst (λ (l : List ℕ). IfOk r (λ v. Holds seal (see v) (take len l) (blob_of u d))) so_far.same (k.done so_far.rest so_far.stands so_far.inside)

    held_marked : IfOk r (λ v. Holds seal (see v) (take len all) (blob_of u d) × IsCut u len j (see v))
    held_marked = both_ok r (λ v. Holds seal (see v) (take len all) (blob_of u d)) (λ v. IsCut u len j (see v)) held x.marks

    again_of : OnOk r (Settles seal u.page_size (take len all) (blob_of u d))
    again_of = map_ok r (λ v. Holds seal (see v) (take len all) (blob_of u d) × IsCut u len j (see v)) (λ v. Settles seal u.page_size (take len all) (blob_of u d))
        (λ v m. settles_of seal (see v) u.page_size (take len all) (blob_of u d) m.1.page m.1.begun m.1.full (m.1.settled ∙ sym m.1.size) m.0) held_marked

    leaves_cut : OnOk r (Leaves seal u.page_size (take len all) len (blob_of u d))
    leaves_cut = map_ok r (λ v. Holds seal (see v) (take len all) (blob_of u d) × IsCut u len j (see v)) (λ v. Leaves seal u.page_size (take len all) len (blob_of u d))
        (λ v m. leaves_of seal (see v) u.page_size len (take len all) (blob_of u d) m.1.page m.1.begun m.1.settled m.0) held_marked

    sealed_of : IfOk r (λ v. IsSealed seal (see v) (blob_of u d))
    sealed_of = map_ok r (λ v. (Holds seal (see v) (take len all) (blob_of u d) × IsCut u len j (see v)) × HasMemory (see v)) (λ v. IsSealed seal (see v) (blob_of u d))
        (λ v m. let own = holds_own seal (see v) (take len all) (blob_of u d) (omega (arith, m.0.1.begun)) m.0.0 in record {
          holds = own;
          backed = backed_cut (see v) m.0.1.page (holds_data seal (see v) (bytes_of (see v) (blob_of u d).content) (blob_of u d) own) m.1;
        }) (both_ok r (λ v. Holds seal (see v) (take len all) (blob_of u d) × IsCut u len j (see v)) (λ v. HasMemory (see v)) held_marked k.memory)

    bytes_cut : IfOk r (λ v. bytes_of (see v) (blob_of u d).content ≡ take len all)
    bytes_cut = map_ok r (λ v. Holds seal (see v) (take len all) (blob_of u d) × IsCut u len j (see v)) (λ v. bytes_of (see v) (blob_of u d).content ≡ take len all)
        (λ v m. holds_bytes seal (see v) (take len all) (blob_of u d) (omega (arith, m.1.begun)) m.0) held_marked

  -- the clauses of truncate
  pub cut_crashes : IsSealed seal u (blob_of u a) → Sealing seal u.page_size (meant u a) (min u.settled len) (key_of u) a d
  cut_crashes sealed = sealing_then seal u.page_size (meant u a) (min u.settled len) (key_of u) a b d
      (sealing_less seal u.page_size (meant u a) u.settled (min u.settled len) (key_of u) a b (omega arith) (s.crashes sealed))
      (sealing_less seal u.page_size (meant u a) len (min u.settled len) (key_of u) b d (omega arith) (told (sealed_so_far sealed)))

  pub cut_recovering : IsRecovery seal u len (blob_of u a) → Sealing seal u.page_size (prefix_of seal u a) len (key_of u) a d
  cut_recovering recovery = sealing_then seal u.page_size (prefix_of seal u a) len (key_of u) a b d
      (keeps_sealing seal u.page_size (prefix_of seal u a) (key_of u) len a b recovery.1 (s.steady recovery.0)) (told (prefix_so_far recovery))

  pub cut_alone : IsBacked seal u (blob_of u a).content → Alone (key_of u) a d
  cut_alone backed = alone_then a b d (key_of u) (s.alone backed) k.alone

  far : flushed_of w ≡ size_of u
  far = omega (arith, all_flushed w s.within s.order s.settled, s.size)

  own : IsBacked seal u (blob_of u a).content → Data u.page_size (meant u a) (size_of u) (view (blob_of u b).content)
  own backed = subst (λ (x : List ℕ × ℕ × ℕ). Data x.2 x.0 x.1 (view (blob_of u b).content)) (λ i. (s.bytes backed i, far i, s.page i)) (s.backed backed).flushed

  left : IsBacked seal u (blob_of u a).content → Data u.page_size (take len (meant u a)) len (view (blob_of u b).content)
  left backed = data_taken u.page_size (meant u a) (size_of u) len (view (blob_of u b).content) (omega (arith, lt)) (own backed)

  long : length (take len (meant u a)) ≡ len
  long = omega (arith, length-take len (meant u a), whole, lt)

  pub cut_bytes_are : IsBacked seal u (blob_of u a).content → IfOk r (λ v. bytes_of (see v) (blob_of u d).content ≡ take len (meant u a))
  cut_bytes_are backed = k.bytes (take len (meant u a)) (left backed) long

  pub cut_is_backed : IsBacked seal u (blob_of u a).content → IfOk r (λ v. IsBacked seal (see v) (blob_of u d).content)
  cut_is_backed backed = map_ok r (λ v. HasFlushed (see v) (blob_of u d).content × (HasMemory (see v) × IsCut u len j (see v))) (λ v. IsBacked seal (see v) (blob_of u d).content)
      (λ v m. backed_cut (see v) m.1.1.page m.0 m.1.0)
      (both_ok r (λ v. HasFlushed (see v) (blob_of u d).content) (λ v. HasMemory (see v) × IsCut u len j (see v)) (k.backed (take len (meant u a)) (left backed) long)
      (both_ok r (λ v. HasMemory (see v)) (λ v. IsCut u len j (see v)) k.memory x.marks))

  -- behind the sealed prefix of an adopted blob
  less : IsUnrecovered seal u (blob_of u a) → length (prefix_of seal u a) < len → length (prefix_of seal u b) < j * u.page_size + keep
  less un past = omega (arith, ap length (keeps_now seal u.page_size (prefix_of seal u a) (key_of u) a b (s.steady un)), past, place.at)

  pub cut_steady : IsUnrecovered seal u (blob_of u a) → length (prefix_of seal u a) < len → KeepsPrefix seal u.page_size (prefix_of seal u a) (key_of u) a d
  cut_steady un past = keeps_then seal u.page_size (prefix_of seal u a) (key_of u) a b d (s.steady un)
      (subst (λ (p : ℕ). length (sealed_prefix seal p (blob_of u b).content) < j * p + keep → SparesPrefix (page_at p j) (key_of u) b d → (page_length seal p (blob_of u b).content j < keep → Unchanged b d)
      → KeepsPrefix seal p (sealed_prefix seal p (blob_of u b).content) (key_of u) b d) s.page (cut_keeps seal w pos (key_of u) b d (s.unrecovered un) j keep) (less un past) k.prefix k.refused)

  -- what a cut says of the pages that stand as they did before the sync
  pub cut_covered : b ≡ a → OnOk r (len % u.page_size ≤ page_length seal u.page_size (blob_of u a).content (len / u.page_size))
  cut_covered same = on_ok r (λ le. omega (arith, le, place.rest, ap (λ (x : Timeline). page_length seal u.page_size (disk x (key_of u)).content j) same, ap (page_length seal u.page_size (blob_of u a).content) place.page)) k.covered

  pub cut_covered_below : len / u.page_size < u.first → page_at u.page_size (len / u.page_size + 1) ≤ length (blob_of u a).content → OnOk r (len % u.page_size ≤ page_length seal u.page_size (blob_of u a).content (len / u.page_size))
  cut_covered_below below stood = on_ok r (λ le. omega (
    arith,
    le,
    place.rest,
    ap (page_length seal u.page_size (blob_of u b).content) place.page,
    spared_covers seal u.page_size u.first (blob_of u a) (blob_of u b) (len / u.page_size) (prefix_now (page_at u.page_size u.first) (key_of u) a b s.prefix) below stood,
  )) k.covered

  -- where no byte is cut that is not sealed, the page is covered
  pub safe_covered : IsSafeCut seal u len (blob_of u a) → page_length seal u.page_size (blob_of u b).content j < keep → ⊥
  safe_covered safe short =
      let inside : len ≤ length (prefix_of seal u b) = elim safe [
        | inl sealed ↦ (sealed_so_far sealed).inside
        | inr other ↦ elim other [
          | inl recovery ↦ (prefix_so_far recovery).inside
          | inr past ↦ absurd (omega (arith, past, lt))
        ]
      ] in
      let small = place.small (omega (arith, s.begun, s.page)) in
      omega (arith, short, prefix_covers seal u.page_size (blob_of u b).content j keep (omega (arith, short)) (omega (arith, small)) (omega (arith, inside, place.at)))

  -- a refused cut, which leaves the blob as the sync did
  module _ (short : page_length seal u.page_size (blob_of u b).content j < keep) where
    still : blob_of u d ≡ blob_of u b
    still = ap (λ (x : Disk). x (key_of u)) (unchanged_now b d (k.refused short))

    pub refused_short : (p : ℕ) → p ≡ j → p * u.page_size + page_length seal u.page_size (blob_of u d).content p < len
    refused_short p is = subst (λ (x : ℕ × Blob). x.0 * u.page_size + page_length seal u.page_size x.1.content x.0 < len) (λ i. (sym is i, sym still i)) (omega (arith, short, place.at))

    pub refused_prefix : SparesPrefix (page_at u.page_size u.first) (key_of u) a d
    refused_prefix = prefix_then (page_at u.page_size u.first) (key_of u) a b d s.prefix (prefix_look (page_at u.page_size u.first) (key_of u) b d (k.refused short))

    pub refused_data : IsBacked seal u (blob_of u a).content → Data u.page_size (meant u a) (size_of u) (view (blob_of u d).content)
    refused_data backed = subst (λ (x : Blob). Data u.page_size (meant u a) (size_of u) (view x.content)) (sym still) (own backed)

    pub refused_rests : StandsSettled (blob_of u b) → StandsSettled (blob_of u d)
    refused_rests rest = subst StandsSettled (sym still) rest

  pub cut_sealed : IsSealed seal u (blob_of u a) → IfOk r (λ v. IsSealed seal (see v) (blob_of u d))
  cut_sealed sealed = sealed_of (sealed_so_far sealed)

  pub cut_recovered : IsRecovery seal u len (blob_of u a) → IfOk r (λ v. IsSealed seal (see v) (blob_of u d))
  cut_recovered recovery = sealed_of (prefix_so_far recovery)

  pub cut_prefix : IsRecovery seal u len (blob_of u a) → IfOk r (λ v. bytes_of (see v) (blob_of u d).content ≡ take len (prefix_of seal u a))
  cut_prefix recovery = bytes_cut (prefix_so_far recovery)

  pub cut_prefix_again : IsRecovery seal u len (blob_of u a) → OnOk r (Settles seal u.page_size (take len (prefix_of seal u a)) (blob_of u d))
  cut_prefix_again recovery = again_of (prefix_so_far recovery)

  pub cut_prefix_leaves : IsRecovery seal u len (blob_of u a) → OnOk r (Leaves seal u.page_size (take len (prefix_of seal u a)) len (blob_of u d))
  cut_prefix_leaves recovery = leaves_cut (prefix_so_far recovery)

  pub cut_again : IsSealed seal u (blob_of u a) → OnOk r (Settles seal u.page_size (take len (meant u a)) (blob_of u d))
  cut_again sealed = again_of (sealed_so_far sealed)

  pub cut_leaves : IsSealed seal u (blob_of u a) → OnOk r (Leaves seal u.page_size (take len (meant u a)) len (blob_of u d))
  cut_leaves sealed = leaves_cut (sealed_so_far sealed)

  pub cut_unrecovered : IsUnrecovered seal u (blob_of u a) → length (prefix_of seal u a) < len → IfOk r (λ v. IsUnrecovered seal (see v) (blob_of u d))
  cut_unrecovered un past = if_ok_with {Q = (keep ≤ page_length seal u.page_size (blob_of u b).content j) × StandsSettled (blob_of u d)} r (on_ok_two r (λ x y. (x, y)) k.covered k.rests)
      (both_ok r (λ v. IsCut u len j (see v)) (λ v. IsBacked seal (see v) (blob_of u d).content) x.marks (cut_is_backed un.backed))
      (λ v both is. subst (λ (p : ℕ). length (sealed_prefix seal p (blob_of u b).content) < j * p + keep → SparesPrefix (page_at p j) (key_of u) b d → keep ≤ page_length seal p (blob_of u b).content j → j * p ≤ (see v).settled → (see v).page_size ≡ p
      → IsUnrecovered seal (see v) (blob_of u d)) s.page
      (λ lt spares covered settled same. cut_stays seal w pos (key_of u) b d (s.unrecovered un) j keep lt spares covered (see v) same is.0.first settled is.1 both.1) (less un past) k.prefix both.0 (omega (arith, place.at, is.0.settled)) is.0.page)

-- where nothing is cut
pub no_recovery : (seal : List ℕ → ℕ) (u : Buffer) (len : ℕ) (b : Blob) → u.from < u.page_size → size_of u ≤ len → IsRecovery seal u len b → ⊥
no_recovery seal u len b begun past recovery = omega (arith, prefix_short seal u b (omega (arith, begun)) recovery.0, recovery.1, past)
