-- A buffer whose bytes have all settled: they are the blob's sealed prefix.
use Rattle.std.proofs.Common.{◌≡◌, inl, inr, ℕ, ◌+◌, ◌*◌, ◌<◌, ◌≤◌, ◌||◌, List, length, sym, ◌∙◌, ap, subst, arith}
use Rattle.std.proofs.lemmas.Bool.{cases_Bool}
use Rattle.blob_device.specs.Disk.{Blob}
use Rattle.blob_device.specs.Counts.{Rose}
use Rattle.sealed_pages.specs.Buffer.{Buffer, size_of, flushed_of, Holds}
use Rattle.sealed_pages.specs.Cutting.{StandsSettled, Settles}
use Rattle.sealed_pages.specs.Flushing.{Covers}
use Rattle.sealed_pages.specs.SealedPrefix.{pages_in, sealed_prefix, adopted_size}
use Rattle.sealed_pages.specs.Slots.{page_length}
use Rattle.sealed_pages.specs.lemmas.Reaching.{adopted_size_is, prefix_is}
use Rattle.sealed_pages.specs.lemmas.adopted.Adopt.{sealed_covers}
use Rattle.sealed_pages.specs.lemmas.slots.SealedBytes.{sound_to}
use Rattle.sealed_pages.specs.lemmas.slots.Steps.{below_sound, quiet_below, tidy_sound}

-- once all is settled, the bytes are the sealed prefix of the blob
pub holds_rest : (seal : List ℕ → ℕ) (u : Buffer) (all : List ℕ) (b : Blob) → u.from < u.page_size → Holds seal u all b → u.settled ≡ size_of u → u.from ≡ length u.tip → StandsSettled b
holds_rest seal u all b begun holds settled full = elim (cases_Bool (u.behind || u.torn)) [
  | inl left ↦ (holds.state.adopted left).0.is
  | inr clean ↦ (holds.state.ready clean).rest (omega (arith, settled, full))
]

pub holds_prefix : (seal : List ℕ → ℕ) (u : Buffer) (all : List ℕ) (b : Blob) → u.from < u.page_size → Holds seal u all b → u.from ≡ length u.tip → sealed_prefix seal u.page_size b.content ≡ all
holds_prefix seal u all b begun holds full =
    let pos : 1 ≤ u.page_size = omega (arith, begun) in
    let far : flushed_of u ≡ length all = omega (arith, full, holds.size) in
    elim (cases_Bool (u.behind || u.torn)) [
      | inl left ↦ (let k = (holds.state.adopted left).0.content in let σ = (holds.state.adopted left).0.σ in
          prefix_is seal u.page_size all b.content σ pos (sound_to seal u.page_size all b.content (below_sound seal u.page_size all (flushed_of u) b.content k.fits k.below k.same))
          (subst (λ (n : ℕ). Covers seal u.page_size b.content n σ) far k.covers))
      | inr clean ↦ (let f = (holds.state.ready clean).flushed in let τ = (holds.state.ready clean).τ in
          prefix_is seal u.page_size all b.content τ pos (sound_to seal u.page_size all b.content (tidy_sound seal u.page_size all (flushed_of u) b.content f.fits f.quiet f.same))
          (subst (λ (n : ℕ). Covers seal u.page_size b.content n τ) far f.covers))
    ]

-- adopting the blob gives what is flushed
pub holds_again : (seal : List ℕ → ℕ) (u : Buffer) (all : List ℕ) (b : Blob) → u.from < u.page_size → Holds seal u all b → adopted_size seal u.page_size b.content ≡ flushed_of u
holds_again seal u all b begun holds =
    let pos : 1 ≤ u.page_size = omega (arith, begun) in
    elim (cases_Bool (u.behind || u.torn)) [
      | inl left ↦ (let k = (holds.state.adopted left).0.content in adopted_size_is seal u.page_size (flushed_of u) b.content (holds.state.adopted left).0.σ pos k.below k.covers)
      | inr clean ↦ (let f = (holds.state.ready clean).flushed in adopted_size_is seal u.page_size (flushed_of u) b.content (holds.state.ready clean).τ pos (quiet_below seal u.page_size (flushed_of u) b.content f.quiet) f.covers)
    ]

-- all is flushed where all has settled
pub all_flushed : (u : Buffer) → u.from ≤ length u.tip → u.settled ≤ flushed_of u → u.settled ≡ size_of u → u.from ≡ length u.tip
all_flushed u within order settled = omega (arith, within, order, settled)

-- where all has settled
pub settles_of : (seal : List ℕ → ℕ) (v : Buffer) (P : ℕ) (all : List ℕ) (b : Blob) → v.page_size ≡ P → v.from < v.page_size → v.from ≡ length v.tip → v.settled ≡ size_of v → Holds seal v all b → Settles seal P all b
settles_of seal v P all b page begun full settled holds = record {
  rest = holds_rest seal v all b begun holds settled full;
  prefix = ap (λ (n : ℕ). sealed_prefix seal n b.content) (sym page) ∙ holds_prefix seal v all b begun holds full;
  adopted = ap (λ (n : ℕ). adopted_size seal n b.content) (sym page) ∙ holds_again seal v all b begun holds ∙ (let e : flushed_of v ≡ length all = omega (arith, full, holds.size) in e);
}

-- the count rose since an earlier moment too
pub rose_since : (a b n : ℕ) → a ≤ b → Rose b n → Rose a n
rose_since a b n le rose = omega (arith, le, rose)

-- a page below the end of the sealed prefix is covered as far as that
pub prefix_covers : (seal : List ℕ → ℕ) (P : ℕ) (c : List ℕ) (j n : ℕ) → 0 < n → n ≤ P → j * P + n ≤ length (sealed_prefix seal P c) → n ≤ page_length seal P c j
unfolding sealed_prefix
prefix_covers seal P c j n some small within =
    omega (arith, sealed_covers seal P c (pages_in P c) 0 j (omega arith) (omega (arith, some, within)), small, within)
