-- What a buffer holds outlives a crash, and how many bytes it means.
use Rattle.std.proofs.Common.{◌≡◌, inl, inr, ℕ, ◌+◌, ◌-◌, ◌*◌, ◌/◌, ◌^◌, ◌<◌, ◌≤◌, ◌||◌, List, length, sym, subst, arith, length-append}
use Rattle.std.proofs.Math.Nat.{div-lt_iff_lt-mul}
use Rattle.std.proofs.lemmas.Bool.{cases_Bool}
use Rattle.blob_device.specs.Timeline.{Timeline, disk}
use Rattle.blob_device.specs.Disk.{Key, Blob}
use Rattle.blob_device.specs.lemmas.Moments.{only_start}
use Rattle.sealed_pages.specs.lemmas.adopted.Adopt.{length-data_from}
use Rattle.sealed_pages.specs.lemmas.adopted.Adopting.{adopted_kept}
use Rattle.sealed_pages.specs.lemmas.slots.SealedBytes.{stands_leaves}
use Rattle.sealed_pages.specs.lemmas.slots.Slot.{times_page}
use Rattle.sealed_pages.specs.Buffer.{extent, Fit, Buffer, size_of, flushed_of, bytes_of, Holds}
use Rattle.sealed_pages.specs.ChanceSeal.{Leaves, Sealing}
use Rattle.sealed_pages.specs.SealedPrefix.{data_from}
use Rattle.sealed_pages.specs.View.{view}
use Rattle.blob_device.proofs.general.Numbers.{times_next}

pub extent_more : (P n : ℕ) → 1 ≤ P → n ≤ extent P n
extent_more P n pos =
    let below : n + (P - 1) < ((n + (P - 1)) / P + 1) * P = (div-lt_iff_lt-mul {k = P} {x = n + (P - 1)} {y = (n + (P - 1)) / P + 1} (omega (arith, pos))).0 (omega arith) in
    omega (arith, below, pos, times_next ((n + (P - 1)) / P) P, times_page P ((n + (P - 1)) / P))

-- the length fits
pub fit_size : (P first from : ℕ) (tip : List ℕ) → Fit P first from tip → first * P + length tip < 2 ^ 64
fit_size P first from tip fit = omega (arith, fit.room, extent_more P (first * P + length tip) (omega (arith, fit.begun)))

-- what a buffer holds outlives a crash now
pub holds_leaves : (seal : List ℕ → ℕ) (u : Buffer) (all : List ℕ) (b : Blob) → u.from < u.page_size → Holds seal u all b → Leaves seal u.page_size all u.settled b
holds_leaves seal u all b begun holds = let pos : 1 ≤ u.page_size = omega (arith, begun) in
    elim (cases_Bool (u.behind || u.torn)) [
      | inl left ↦ (let a = holds.state.adopted left in
          let kept = adopted_kept seal u.page_size pos all u.first u.from u.newest u.behind u.torn begun b a.0 in
          subst (λ (n : ℕ). Leaves seal u.page_size all n b) (sym a.1) (stands_leaves seal u.page_size b.content (flushed_of u) a.0.σ all b pos kept.covers kept.stands))
      | inr clean ↦ (let ready = holds.state.ready clean in stands_leaves seal u.page_size ready.w u.settled ready.σ all b pos ready.settled ready.stands)
    ]

pub holds_start : (seal : List ℕ → ℕ) (u : Buffer) (all : List ℕ) (key : Key) (t : Timeline) → u.from < u.page_size → Holds seal u all (disk t key) → Sealing seal u.page_size all u.settled key t t
holds_start seal u all key t begun holds = only_start t key (Leaves seal u.page_size all u.settled) (holds_leaves seal u all (disk t key) begun holds)

pub bytes_length : (u : Buffer) (content : List ℕ) → length (bytes_of u content) ≡ size_of u
bytes_length u content = omega (arith, length-append (data_from u.page_size (view content) 0 (u.first * u.page_size)) u.tip, length-data_from u.page_size (view content) (u.first * u.page_size) 0)
