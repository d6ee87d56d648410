-- A buffer as adopting made it: what a read of it gives, and how far the pages are covered that the read needs.
use Rattle.std.proofs.Common.{◌≡◌, inl, inr, ℕ, zero, suc, ◌+◌, ◌-◌, ◌*◌, ◌^◌, ◌<◌, ◌≤◌, List, length, take, drop, Result, Ok, Err, OnOk, ◌∙◌, ap, arith}
use Rattle.std.proofs.lemmas.Bool.{cases_eq, cases_lt, cases_order}
use Rattle.std.specs.Result.{IsErrOf}
use Rattle.blob_device.specs.Disk.{Blob}
use Rattle.blob_device.specs.declared.runtime.RError.{RError}
use Rattle.blob_device.specs.declared.runtime.RError.TheVariants.{BlobInsufficientLength}
use Rattle.sealed_pages.specs.Buffer.{size_of, bytes_of}
use Rattle.sealed_pages.specs.declared.page_blob.PageBlob.{PageBlob}
use Rattle.sealed_pages.specs.Reads.{IsCovered, IsShort, PassesSize, below}
use Rattle.sealed_pages.specs.SealedPrefix.{pages_in, size_below, adopted_size, data_from}
use Rattle.sealed_pages.specs.Shown.{shown}
use Rattle.sealed_pages.specs.Slots.{page_length}
use Rattle.sealed_pages.specs.View.{view}
use Rattle.sealed_pages.specs.lemmas.looking.Looking.{size_found, size_none, size_zero}
use Rattle.sealed_pages.specs.lemmas.slots.SealedBytes.{page_length-le}
use Rattle.segments.specs.FixedFloors.{IsAdoptedOver}
use Rattle.segments.proofs.replay.Kept.{item_data}
use Rattle.blob_device.proofs.general.Numbers.{times_more}

module _ (seal : List ℕ → ℕ) (P : ℕ) (c : List ℕ) where
  -- the page in which the data end
  record EndsIn (s : ℕ) : Type 0 where
    page : ℕ
    size : s ≡ page * P + page_length seal P c page
    some : 1 ≤ page_length seal P c page

  ends_in : (m : ℕ) → 0 < size_below seal P c m → EndsIn (size_below seal P c m)
  ends_in zero some = absurd (omega (arith, some, size_zero seal P c))
  ends_in (suc m) some = elim (cases_eq (page_length seal P c m) 0) [
    | inl none ↦
        let same : size_below seal P c (suc m) ≡ size_below seal P c m = size_none seal P c m none in
        let before = ends_in m (omega (arith, some, same)) in
        record { page = before.page; size = same ∙ before.size; some = before.some }
    | inr has ↦ (let more : 1 ≤ page_length seal P c m = omega (arith, has) in record { page = m; size = size_found seal P c m more; some = more })
  ]

  -- the page below the end of an adopted blob is covered as far as that
  last_page : (k : ℕ) → k * P < adopted_size seal P c → adopted_size seal P c ≤ k * P + P → page_length seal P c k ≡ adopted_size seal P c - k * P
  last_page k low high =
      let end = ends_in (pages_in P c) (omega (arith, low)) in
      let at : end.page ≡ k = elim (cases_order end.page k) [
        | inl same ↦ same
        | inr (inl less) ↦ absurd (omega (arith, low, end.size, page_length-le seal P c end.page, times_more end.page k P less))
        | inr (inr more) ↦ absurd (omega (arith, high, end.size, end.some, times_more k end.page P more))
      ] in
      omega (arith, end.size, ap (page_length seal P c) at, ap (λ (x : ℕ). x * P) at)

module _ {S : Type 0} {gs : _} (seal : List ℕ → ℕ) (u : PageBlob S gs) (b : Blob) (is : IsAdoptedOver seal u b) where
  -- all its bytes are flushed, so that its tip is less than a page
  tip_begun : length u.tip.items < u.page_size
  tip_begun = omega (arith, is.settled, u.order, u.fit.begun)

  -- a read of so many bytes from a place on, as many as an item has
  module _ (size p m n : ℕ) (at : m ≡ p * size) (long : n ≡ size) where
    pub read_adopted : m + n ≤ size_of (shown u) → (xs : List ℕ) → xs ≡ take n (drop m (bytes_of (shown u) b.content)) → xs ≡ data_from u.page_size (view b.content) (p * size) size
    read_adopted fits xs read = read ∙ ap (λ (l : List ℕ). take n (drop m l)) is.bytes ∙ ap (λ (k : ℕ). take n (drop k all)) at ∙ ap (λ (k : ℕ). take k (drop (p * size) all)) long
        ∙ item_data u.page_size size (adopted_size seal u.page_size b.content) p (view b.content) (omega (arith, fits, at, long, is.size))
      where
        all : List ℕ
        all = data_from u.page_size (view b.content) 0 (adopted_size seal u.page_size b.content)

    pub covered_adopted : m + n ≤ size_of (shown u) → IsCovered seal u.page_size b.content m (below u.page_size u.first m n) → IsCovered seal u.page_size b.content (p * size) size
    covered_adopted fits covered k wanted = elim (cases_lt k u.first) [
      | inl less ↦ (let full = times_more k u.first u.page_size less in
          omega (
            arith,
            at,
            long,
            full,
            wanted.high,
            wanted.low,
            covered k (record {
              some = omega (arith, at, long, full, wanted.some, wanted.low);
              low = omega (arith, at, wanted.low);
              high = omega (arith, at, long, full, wanted.high, wanted.low, u.fit.begun);
            }),
          ))
      | inr tip ↦ elim (cases_lt u.first k) [
        | inl more ↦ absurd (omega (arith, at, long, wanted.high, fits, tip_begun, times_more u.first k u.page_size more))
        | inr le ↦
            let same : k ≡ u.first = omega (arith, tip, le) in
            let place : k * u.page_size ≡ u.first * u.page_size = ap (λ (x : ℕ). x * u.page_size) same in
            let ends = last_page seal u.page_size b.content k (omega (arith, at, long, wanted.high, fits, is.size)) (omega (arith, place, is.size, tip_begun)) in
            omega (arith, at, long, ends, fits, is.size)
      ]
    ]

    pub short_adopted : (k : ℕ) → IsShort seal u.page_size b.content m (below u.page_size u.first m n) k → IsShort seal u.page_size b.content (p * size) size k
    short_adopted k short = record {
      wanted = record {
        some = omega (arith, long, short.wanted.some);
        low = omega (arith, at, short.wanted.low);
        high = omega (arith, at, long, short.wanted.high);
      };
      short = omega (arith, at, long, short.short);
    }

    pub passes_adopted : m + n < 2 ^ 64 → size_of (shown u) < m + n → PassesSize seal u.page_size b.content (p * size) size
    passes_adopted fits past = record { fits = omega (arith, fits, at, long); past = omega (arith, past, at, long, is.size) }

-- a read that is answered ends within the size
pub read_ok : {T : Type 0} (r : Result T RError) (m n size : ℕ) (Q : Type 0) → m + n < 2 ^ 64 → ((m + n < 2 ^ 64) × (size < m + n) → IsErrOf r BlobInsufficientLength) → (m + n ≤ size → OnOk r Q) → OnOk r Q
read_ok {T = T} r m n size Q fits short within = elim (cases_lt size (m + n)) [
  | inl past ↦ refused r (short (fits, past))
  | inr le ↦ within le
]
  where
    refused : (x : Result T RError) → IsErrOf x BlobInsufficientLength → OnOk x Q
    refused (Ok v) is = absurd (cc is)
    refused (Err e) is = tt
