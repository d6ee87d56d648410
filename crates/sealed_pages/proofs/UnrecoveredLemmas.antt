-- A cut and a flush of a blob whose sealed prefix is shorter than its size, and adopting one.
use Rattle.std.proofs.Common.{◌≡◌, inl, inr, ℕ, ◌+◌, ◌*◌, ◌<◌, ◌≤◌, List, length, Option, Some, None, refl, arith}
use Rattle.std.proofs.lemmas.Bool.{cases_lt}
use Rattle.blob_device.specs.Disk.{Key, Blob, past, settled_at}
use Rattle.blob_device.specs.Timeline.{Timeline, disk}
use Rattle.blob_device.specs.lemmas.Guards.{guards_settled}
use Rattle.sealed_pages.specs.lemmas.Had.{had_rest, had_settled}
use Rattle.sealed_pages.specs.lemmas.adopted.Adopt.{best_length}
use Rattle.sealed_pages.specs.lemmas.adopted.Adopting.{pages_none, pages_some}
use Rattle.sealed_pages.specs.lemmas.adopted.Repairing.{page_order}
use Rattle.sealed_pages.specs.lemmas.cutting.Truncating.{prefix_covers}
use Rattle.sealed_pages.specs.lemmas.slots.SealedBytes.{rest}
use Rattle.sealed_pages.specs.lemmas.slots.Slot.{slot_stands}
use Rattle.sealed_pages.specs.lemmas.slots.Steps.{slot_low}
use Rattle.sealed_pages.specs.Buffer.{Buffer, pages_of, IsBacked}
use Rattle.sealed_pages.specs.Cutting.{StandsSettled}
use Rattle.sealed_pages.specs.Found.{Finds}
use Rattle.sealed_pages.specs.Starts.{StartsOver}
use Rattle.sealed_pages.specs.declared.reading.LastPage.{LastPage}
use Rattle.sealed_pages.specs.Reading.{Unchanged}
use Rattle.sealed_pages.specs.SealedPrefix.{sealed_prefix, adopted_size}
use Rattle.sealed_pages.specs.Slots.{page_length, best_slot}
use Rattle.sealed_pages.specs.Unrecovered.{SparedPrefix, SparesPrefix, KeepsPrefix, IsUnrecovered}
use Rattle.sealed_pages.specs.View.{view, page_at}
use Rattle.sealed_pages.proofs.Prefixes.{prefix_look}
use Rattle.blob_device.proofs.general.Numbers.{times_more}
use Rattle.sealed_pages.specs.lemmas.Unrecovered.{behind_prefix, page_settled, page_to, prefix_long, short_of, spared_keeps, spared_stays}

-- a page below the end of what is spared, which stands whole, is covered as before
pub spared_covers : (seal : List ℕ → ℕ) (P first : ℕ) (a b : Blob) (k : ℕ) → SparedPrefix (page_at P first) a b → k < first → page_at P (k + 1) ≤ length a.content → page_length seal P b.content k ≡ page_length seal P a.content k
spared_covers seal P first a b k has less whole =
    let near = page_order (λ x. 0) P (k + 1) first (omega (arith, less)) in
    page_to seal P k b.content a.content (record { long = omega (arith, has.long, whole, near); other = whole; same = λ i lt. has.reads i (omega (arith, lt, near)) }) k (omega arith)

module _ (seal : List ℕ → ℕ) (u : Buffer) (pos : 1 ≤ u.page_size) where
  -- a page at which the sealed prefix arrives begins within the blob
  pub prefix_stands : (b : Blob) (j : ℕ) → IsUnrecovered seal u b → j * u.page_size ≤ length (sealed_prefix seal u.page_size b.content) → page_at u.page_size j ≤ length b.content
  prefix_stands b j un le = elim (cases_lt un.page j) [
    | inl past ↦ (let has = prefix_covers seal u.page_size b.content un.page u.page_size pos (omega arith) (omega (arith, le, times_more un.page j u.page_size past)) in absurd (omega (arith, has, un.short)))
    | inr before ↦ omega (arith, page_order (λ x. 0) u.page_size j (un.page + 1) (omega (arith, before)), prefix_long seal u.page_size un.page (length b.content) un.prefix.long)
  ]

  -- A cut of page j, behind the sealed prefix: it spares the pages before, and changes nothing where its page is not covered so far.
  module _ (key : Key) (a b : Timeline) (un : IsUnrecovered seal u (disk a key)) (j keep : ℕ) (less : length (sealed_prefix seal u.page_size (disk a key).content) < j * u.page_size + keep) (spares : SparesPrefix (page_at u.page_size j) key a b) where
    pub cut_keeps : (page_length seal u.page_size (disk a key).content j < keep → Unchanged a b) → KeepsPrefix seal u.page_size (sealed_prefix seal u.page_size (disk a key).content) key a b
    cut_keeps refused = elim (behind_prefix seal u (disk a key) j keep pos un less) [
      | inl before ↦ spared_keeps seal u key a b before.0 j before.1 spares
      | inr short ↦ spared_keeps seal u key a b un u.first un.below (prefix_look (page_at u.page_size u.first) key a b (refused short))
    ]

    pub cut_stays : keep ≤ page_length seal u.page_size (disk a key).content j → (v : Buffer) → v.page_size ≡ u.page_size → v.first ≡ j → j * u.page_size ≤ v.settled → IsBacked seal v (disk b key).content → StandsSettled (disk b key) → IsUnrecovered seal v (disk b key)
    cut_stays covered v same first settled backed rest = elim (behind_prefix seal u (disk a key) j keep pos un less) [
      | inl before ↦ spared_stays seal u key a b before.0 j before.1 spares v same (omega (arith, before.1, first)) (page_settled before.0.page j u.page_size v.settled before.1 settled) backed (λ e. rest) (had_rest (disk b key) rest)
      | inr short ↦ absurd (omega (arith, short, covered))
    ]

pub pages_span : (first from : ℕ) → (first ≤ pages_of first from) × (pages_of first from ≤ first + 1)
pages_span first from = elim (cases_lt 0 from) [
  | inl some ↦ (omega (arith, pages_some first from some), omega (arith, pages_some first from some))
  | inr none ↦ (let is : from ≡ 0 = omega (arith, none) in (omega (arith, pages_none first from is), omega (arith, pages_none first from is)))
]

-- an adopted blob whose sealed prefix is shorter than its size
pub adopted_unrecovered : (seal : List ℕ → ℕ) (u : Buffer) (c : List ℕ) (found : Option LastPage) (buf : List ℕ) → 1 ≤ u.page_size → Finds seal u.page_size c found buf → StartsOver seal u.page_size c found u.first u.from u.newest u.behind u.torn
    → u.first * u.page_size ≤ u.settled → IsBacked seal u c → length (sealed_prefix seal u.page_size c) < adopted_size seal u.page_size c → IsUnrecovered seal u (settled_at c)
adopted_unrecovered seal u c found buf pos finds over settled backed less = go found finds over
  where
    go : (r : Option LastPage) → Finds seal u.page_size c r buf → StartsOver seal u.page_size c r u.first u.from u.newest u.behind u.torn → IsUnrecovered seal u (settled_at c)
    go None finds s = absurd (omega (arith, less, finds))
    go (Some p) finds s = elim (short_of seal u.page_size c p.page (page_length seal u.page_size c p.page) pos (omega (arith, less, finds.0))) [
      | inl early ↦ record {
        page = early.0;
        below = omega (arith, early.1, (pages_span u.first u.from).1, s.pages);
        short = early.2;
        settled = page_settled early.0 u.first u.page_size u.settled (omega (arith, early.1, (pages_span u.first u.from).1, s.pages)) settled;
        prefix = guards_settled (λ i. i < page_at u.page_size (early.0 + 1)) (view c) c
            (λ i lt. omega (
              arith,
              lt,
              page_order (λ x. 0) u.page_size (early.0 + 1) p.page (omega (arith, early.1)),
              best_length seal u.page_size c p.page,
              slot_low u.page_size p.page (best_slot seal u.page_size c p.page),
              slot_stands seal u.page_size c p.page (best_slot seal u.page_size c p.page) (omega (arith, finds.1, best_length seal u.page_size c p.page)),
            ))
            (λ i lt. refl);
        backed = backed;
        rest = λ e. refl;
        had = had_settled c;
      }
      | inr here ↦ absurd (omega (arith, here))
    ]

-- a flush lets full pages go
pub first_later : (P first last m n : ℕ) → first * P + m ≡ last * P + n → n < P → first ≤ last
first_later P first last m n is small = elim (cases_lt last first) [
  | inl less ↦ absurd (omega (arith, is, small, times_more last first P less))
  | inr le ↦ le
]
