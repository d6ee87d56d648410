-- Pages that matching slots cover, where bytes behind them are written, and those that a flush writes.
use Rattle.std.proofs.Common.{◌≡◌, inl, inr, ℕ, zero, suc, ◌+◌, ◌*◌, ◌^◌, ◌<◌, ◌≤◌, Bool, false, true, List, length, get_or, take, drop, Ok, sym, ◌∙◌, ap, arith}
use Rattle.std.proofs.lemmas.Bool.{cases_lt, cases_eq}
use Rattle.std.proofs.lemmas.List.{get_or-take, get_or-drop}
use Rattle.std.proofs.lemmas.List.Elements.{All-nil, All-cons}
use Rattle.blob_device.specs.Change.{Write, written}
use Rattle.blob_device.specs.Disk.{Key, Blob}
use Rattle.blob_device.specs.Timeline.{Timeline, disk, Passes}
use Rattle.blob_device.specs.lemmas.Moments.{ok_blob}
use Rattle.sealed_pages.specs.Cached.{full_pages, AreFull, IsCachedOf, AreCachedOf}
use Rattle.sealed_pages.specs.Flushing.{Data, CoversFrom}
use Rattle.sealed_pages.specs.Slots.{slot_length, page_length, slot_bytes}
use Rattle.sealed_pages.specs.Unrecovered.{SparedPrefix}
use Rattle.sealed_pages.specs.View.{view, page_at, slot_at, StandsAt}
use Rattle.sealed_pages.specs.lemmas.adopted.Repairing.{page_order}
use Rattle.sealed_pages.specs.lemmas.looking.Looking.{page_length_is}
use Rattle.sealed_pages.specs.lemmas.slots.SealedBytes.{page_length-le}
use Rattle.sealed_pages.specs.lemmas.slots.Slot.{page_next, slot_same, slot_stands}
use Rattle.sealed_pages.specs.lemmas.slots.SlotSteps.{length-slot_bytes, slot_is, slot_matches}
use Rattle.sealed_pages.specs.lemmas.slots.Steps.{slot_high}
use Rattle.sealed_pages.proofs.slots.PageCalls.{page_wrote}
use Rattle.blob_device.specs.Lengths.{length-written}
use Rattle.blob_device.proofs.general.Numbers.{times_more, times_next}

-- the two writes of a page of a flush: the slot covers its bytes
pub page_covers : (seal : List ℕ → ℕ) (P : ℕ) (bytes : List ℕ) (key : Key) (t0 : Timeline) (k f : ℕ) (page : List ℕ) (b : Bool) → ((x : List ℕ) → seal x < 2 ^ 32) → P < 2 ^ 16 → page_at P k + (P + 12) < 2 ^ 64
    → {v u : Unit {0}} {t1 t2 : Timeline} → f < length page → length page ≤ P → StandsAt bytes (k * P) page → Data P bytes (k * P + f) (view (disk t0 key).content)
    → Passes {T = Unit {0}} key (Write (page_at P k + f) (drop f page)) (Ok v) t0 t1 → Passes {T = Unit {0}} key (Write (slot_at P k b) (slot_bytes seal P page)) (Ok u) t1 t2
    → length page ≤ page_length seal P (disk t2 key).content k
page_covers seal P bytes key t0 k f page b fits small room {v = v} {u = u} {t1 = t1} {t2 = t2} new size at was first second = by_slot b whole
  where
    six : List ℕ
    six = slot_bytes seal P page

    six_is : length (slot_bytes seal P page) ≡ 6
    six_is = length-slot_bytes seal P page

    now : Data P bytes (k * P + length page) (view (disk t2 key).content)
    now = page_wrote seal P bytes key t0 k f page b new size at was first second

    content : (disk t2 key).content ≡ written (disk t1 key).content (slot_at P k b) (slot_bytes seal P page)
    content = ap (λ (x : Blob). x.content) (ok_blob key (Write (slot_at P k b) (slot_bytes seal P page)) u t1 t2 second)

    whole : slot_length seal P (disk t2 key).content k b ≡ length page
    whole = slot_matches seal P (disk t2 key).content k b page
        (omega (arith, six_is, ap length content, length-written (disk t1 key).content (slot_at P k b) (slot_bytes seal P page))) room fits size small
        (λ i lt. ap (λ (c : List ℕ). view c (slot_at P k b + i)) content ∙ slot_is seal P (disk t1 key).content k b (slot_bytes seal P page) six_is i lt)
        (λ i lt. now k i (omega (arith, lt, size)) (omega (arith, lt)) ∙ sym (at.same i lt))

    by_slot : (x : Bool) → slot_length seal P (disk t2 key).content k x ≡ length page → length page ≤ page_length seal P (disk t2 key).content k
    by_slot false is = omega (arith, is, page_length_is seal P (disk t2 key).content k)
    by_slot true is = omega (arith, is, page_length_is seal P (disk t2 key).content k)

-- a page below the end of what is spared is covered as far as before
module _ (seal : List ℕ → ℕ) (P first : ℕ) (a b : Blob) (has : SparedPrefix (page_at P first) a b) (k : ℕ) (less : k < first) where
  near : page_at P (k + 1) ≤ page_at P first
  near = page_order (λ x. 0) P (k + 1) first (omega (arith, less))

  slot_spared : (s : Bool) → slot_length seal P a.content k s ≤ slot_length seal P b.content k s
  slot_spared s = elim (cases_lt 0 (slot_length seal P a.content k s)) [
    | inl some ↦ (let stands = slot_stands seal P a.content k s some in
        let high = slot_high P k s in
        omega (
          arith,
          slot_same seal P a.content b.content k s stands (omega (arith, stands, high, near, page_next P k, has.long))
              (λ i lt. sym (has.reads (slot_at P k s + i) (omega (arith, lt, high, near, page_next P k))))
              (λ i lt small. sym (has.reads (page_at P k + i) (omega (arith, small, near, page_next P k)))),
        ))
    | inr none ↦ omega (arith, none)
  ]

  pub page_spared : page_length seal P a.content k ≤ page_length seal P b.content k
  page_spared = omega (arith, page_length_is seal P a.content k, page_length_is seal P b.content k, slot_spared false, slot_spared true)

  pub data_spared : (i : ℕ) → i < P → view b.content (page_at P k + i) ≡ view a.content (page_at P k + i)
  data_spared i lt = has.reads (page_at P k + i) (omega (arith, lt, near, page_next P k))

-- the next page of a flush
pub covers_next : (seal : List ℕ → ℕ) (P first page at n : ℕ) (a b : Blob) → CoversFrom seal P a.content first (first * P + at) → page * P ≡ first * P + at → 1 ≤ P → n ≤ P → SparedPrefix (page_at P page) a b
    → n ≤ page_length seal P b.content page → CoversFrom seal P b.content first (first * P + (at + n))
covers_next seal P first page at n a b covers place pos size has part k low lt = elim (cases_lt k page) [
  | inl less ↦ (let below = times_more k page P less in
      let old = covers k low (omega (arith, below, place, pos)) in
      omega (arith, below, place, old, page_spared seal P page a b has k less))
  | inr le ↦ elim (cases_eq k page) [
    | inl is ↦ omega (arith, part, place, ap (λ (m : ℕ). m * P) is, ap (page_length seal P b.content) is)
    | inr differ ↦ (let past = times_more page k P (omega (arith, le, differ)) in absurd (omega (arith, past, lt, place, size)))
  ]
]

-- pages in memory below the end of what is spared are as in the blob
pub cached_spared : (seal : List ℕ → ℕ) (P first : ℕ) (a b : Blob) (pages : List (ℕ × List ℕ)) → SparedPrefix (page_at P first) a b → AreFull P first pages → AreCachedOf seal P a.content pages → AreCachedOf seal P b.content pages
cached_spared seal P first a b pages has full were k d lt =
    let e = full k d lt in
    let was = were k d lt in
    record {
      same = λ i small. was.same i small ∙ sym (data_spared seal P first a b has (get_or pages k d).0 e.0 i small);
      covered = omega (arith, was.covered, page_spared seal P first a b has (get_or pages k d).0 e.0, page_length-le seal P b.content (get_or pages k d).0);
    }

-- the pages of a flush are as in the blob
pub cached_put : (seal : List ℕ → ℕ) (P first n : ℕ) (tip all c : List ℕ) (G : ℕ) → 1 ≤ P → n * P ≤ length tip → G ≡ first * P + length tip → Data P all G (view c) → StandsAt all (first * P) tip
    → CoversFrom seal P c first G → AreCachedOf seal P c (full_pages P first n tip)
cached_put seal P first zero tip all c G pos long end stands at covers = All-nil (IsCachedOf seal P c)
cached_put seal P first (suc n) tip all c G pos long end stands at covers = All-cons (IsCachedOf seal P c) (first + n, take P (drop (n * P) tip)) (full_pages P first n tip)
    (record {
      same = λ i small.
          let place : first * P + (n * P + i) ≡ (first + n) * P + i = omega arith in
          get_or-take P (drop (n * P) tip) i 0 small ∙ get_or-drop (n * P) tip i 0 ∙ at.same (n * P + i) (omega (arith, small, long, times_next n P))
          ∙ ap (λ (m : ℕ). get_or all m 0) place ∙ sym (stands (first + n) i small (omega (arith, small, place, end, long, times_next n P)));
      covered = (let start : (first + n) * P ≡ first * P + n * P = omega arith in
          omega (arith, start, covers (first + n) (omega arith) (omega (arith, start, end, long, times_next n P, pos)), end, long, times_next n P, page_length-le seal P c (first + n)));
    })
    (cached_put seal P first n tip all c G pos (omega (arith, long, times_next n P)) end stands at covers)
