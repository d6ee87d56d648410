-- Calls on the buffer of a section that was taken out: what holds of it at the section's key, from the moment before it was taken.
use Rattle.std.specs.Prelude.{◌≡◌, ◌≢◌, ℕ, List, length}
use Rattle.std.proofs.Common.{inl, inr, sym, ◌∙◌, ap, subst, arith}
use Rattle.blob_device.specs.Disk.{Key}
use Rattle.blob_device.specs.Timeline.{Timeline, disk, OnlyAt}
use Rattle.blob_device.specs.lemmas.Moments.{always_now}
use Rattle.sealed_pages.specs.declared.page_blob.PageBlob.{PageBlob}
use Rattle.sealed_pages.specs.Shown.{shown}
use Rattle.sealed_pages.specs.Buffer.{key_of, size_of, flushed_of, IsBacked, IsSealed}
use Rattle.sealed_pages.specs.Cutting.{StandsSettled}
use Rattle.sealed_pages.specs.Readers.{Reader}
use Rattle.sealed_pages.specs.Flushing.{Alone}
use Rattle.sealed_pages.specs.Unrecovered.{IsUnrecovered}
use Rattle.sealed_pages.specs.lemmas.Unrecovered.{adopted_backed}
use Rattle.sealed_pages.specs.lemmas.cutting.Truncating.{all_flushed}
use Rattle.section_manager.specs.Sealed.{Stands}
use Rattle.segments.specs.FixedStepping.{IsFlushed, IsCutBack, BeginsOver}

module _ {S : Type 0} {gs : _} (bu u : PageBlob S gs) (is : bu ≡ u) (K : Key) (a0 a : Timeline) (same : a0 ≡ a) (key : key_of (shown bu) ≡ K) where
  -- what is said of the buffer that was taken is said of the one that was held
  pub moved : (P : PageBlob S gs → Key → Timeline → Type 0) → P bu (key_of (shown bu)) a0 → P u K a
  moved P has = subst (λ (x : PageBlob S gs). P x K a) is (subst (λ (t : Timeline). P bu K t) same (subst (λ (k : Key). P bu k a0) key has))

  pub moved_back : (P : PageBlob S gs → Key → Timeline → Type 0) → P u K a → P bu (key_of (shown bu)) a0
  moved_back P has = subst (λ (k : Key). P bu k a0) (sym key) (subst (λ (t : Timeline). P bu K t) (sym same) (subst (λ (x : PageBlob S gs). P x K a) (sym is) has))

  -- no other blob changes
  pub alone_blobs : (seal : List ℕ → ℕ) (b : Timeline) → Stands seal (shown bu) (disk a0 K) → (IsBacked seal (shown bu) (disk a0 (key_of (shown bu))).content → Alone (key_of (shown bu)) a0 b) → (q : Key) → q ≢ K → disk b q ≡ disk a q
  alone_blobs seal b stands alone q other =
      let backed : IsBacked seal (shown bu) (disk a0 (key_of (shown bu))).content = subst (λ (k : Key). IsBacked seal (shown bu) (disk a0 k).content) (sym key) (adopted_backed seal (shown bu) (disk a0 K) stands.adopted) in
      (always_now a0 b (OnlyAt (key_of (shown bu)) (disk a0) (λ x. Unit {0})) (alone backed)).others q (λ at. other (at ∙ key)) ∙ ap (λ (t : Timeline). disk t q) same

  -- the buffer that a flush gives stands over the blob
  pub flush_stands : (seal : List ℕ → ℕ) (v : PageBlob S gs) (b : Timeline) → Stands seal (shown bu) (disk a0 K) → v.settled ≡ bu.settled → size_of (shown v) ≡ size_of (shown bu)
      → (flushed_of (shown bu) ≡ size_of (shown bu) → b ≡ a0)
      → (IsSealed seal (shown bu) (disk a0 (key_of (shown bu))) → IsSealed seal (shown v) (disk b (key_of (shown bu))))
      → (IsUnrecovered seal (shown bu) (disk a0 (key_of (shown bu))) → IsUnrecovered seal (shown v) (disk b (key_of (shown bu)))) → Stands seal (shown v) (disk b K)
  flush_stands seal v b stands settled size idle sealed un = record {
    adopted = elim stands.adopted [
      | inl s ↦ inl (subst (λ (k : Key). IsSealed seal (shown v) (disk b k)) key (sealed (subst (λ (k : Key). IsSealed seal (shown bu) (disk a0 k)) (sym key) s)))
      | inr x ↦ inr (subst (λ (k : Key). IsUnrecovered seal (shown v) (disk b k)) key (un (subst (λ (k : Key). IsUnrecovered seal (shown bu) (disk a0 k)) (sym key) x)))
    ];
    rest = λ all. (let was_all : bu.settled ≡ size_of (shown bu) = sym settled ∙ all ∙ size in
        let full : bu.from ≡ length bu.tip.items = all_flushed (shown bu) bu.fit.within bu.order was_all in
        subst (λ (t : Timeline). StandsSettled (disk t K)) (sym (idle (omega (arith, full)))) (stands.rest was_all));
  }

  -- the same of what a flush gave, and of the reader over it
  pub flushed_moved : (seal : List ℕ → ℕ) (told : Type 0) (vb v : PageBlob S gs) (b : Timeline) → v ≡ vb → IsFlushed seal told bu (disk a0 K) vb (disk b K) → IsFlushed seal told u (disk a K) v (disk b K)
  flushed_moved seal told vb v b at has = subst (λ (x : PageBlob S gs). IsFlushed seal told u (disk a K) x (disk b K)) (sym at)
      (subst (λ (x : PageBlob S gs). IsFlushed seal told x (disk a K) vb (disk b K)) is (subst (λ (t : Timeline). IsFlushed seal told bu (disk t K) vb (disk b K)) same has))

  pub begins_moved : (seal : List ℕ → ℕ) (vb v : PageBlob S gs) (r : Reader) → v ≡ vb → BeginsOver seal K bu vb r → BeginsOver seal K u v r
  begins_moved seal vb v r at has = subst (λ (x : PageBlob S gs). BeginsOver seal K u x r) (sym at) (subst (λ (x : PageBlob S gs). BeginsOver seal K x vb r) is has)

  -- and of what a cut gave
  pub cut_back_moved : (seal : List ℕ → ℕ) (told : Type 0) (vb v : PageBlob S gs) (b : Timeline) (n k : ℕ) → v ≡ vb → n ≡ k → IsCutBack seal told bu (disk a0 K) vb (disk b K) n → IsCutBack seal told u (disk a K) v (disk b K) k
  cut_back_moved seal told vb v b n k at counts has = subst (IsCutBack seal told u (disk a K) v (disk b K)) counts
      (subst (λ (x : PageBlob S gs). IsCutBack seal told u (disk a K) x (disk b K) n) (sym at)
      (subst (λ (x : PageBlob S gs). IsCutBack seal told x (disk a K) vb (disk b K) n) is (subst (λ (t : Timeline). IsCutBack seal told bu (disk t K) vb (disk b K) n) same has)))
