-- What the calls of a section's buffer leave of it, at the key of the section: a flush, and a cut to items of its sealed prefix.
use Rattle.std.specs.Prelude.{◌≡◌, ℕ, ◌<◌, ◌≤◌, min, List, length, take}
use Rattle.std.proofs.Common.{inl, inr, sym, ◌∙◌, ap, subst, arith}
use Rattle.std.proofs.lemmas.Bool.{cases_lt}
use Rattle.std.proofs.lemmas.List.{take_all}
use Rattle.blob_device.specs.Disk.{Key, Blob}
use Rattle.blob_device.specs.Timeline.{Timeline, disk}
use Rattle.blob_device.specs.lemmas.Moments.{only_start}
use Rattle.sealed_pages.specs.declared.page_blob.PageBlob.{PageBlob}
use Rattle.sealed_pages.specs.Shown.{shown}
use Rattle.sealed_pages.specs.Buffer.{Buffer, key_of, size_of, bytes_of, IsBacked, IsSealed}
use Rattle.sealed_pages.specs.ChanceSeal.{Leaves, Sealing}
use Rattle.sealed_pages.specs.Cutting.{StandsSettled, Settles}
use Rattle.sealed_pages.specs.SealedPrefix.{sealed_prefix}
use Rattle.sealed_pages.specs.Unrecovered.{IsAdopted, IsUnrecovered, IsRecovery, KeepsPrefix}
use Rattle.sealed_pages.specs.lemmas.Reaching.{rest_leaves}
use Rattle.sealed_pages.specs.lemmas.Unrecovered.{adopted_backed, keeps_now}
use Rattle.sealed_pages.specs.lemmas.cutting.Calls.{sealing_less}
use Rattle.sealed_pages.specs.lemmas.cutting.Truncating.{all_flushed}
use Rattle.sealed_pages.specs.lemmas.memory.Holding.{bytes_length}
use Rattle.segments.specs.lemmas.replay.Kept.{sealed_flushed}
use Rattle.section_manager.specs.Sealed.{Stands}
use Rattle.segments.specs.FixedStepping.{IsFlushed, IsCutBack}

module _ {S : Type 0} {gs : _} (seal : List ℕ → ℕ) (told : Type 0) (u v : PageBlob S gs) (K : Key) (a b : Timeline) (key : key_of (shown u) ≡ K) where
  pub flushed_at : v.page_size ≡ u.page_size → size_of (shown v) ≡ size_of (shown u) → v.settled ≡ u.settled → v.from ≡ length v.tip.items
      → (told → IsSealed seal (shown u) (disk a (key_of (shown u))) → IsSealed seal (shown v) (disk b (key_of (shown u))))
      → (told → IsUnrecovered seal (shown u) (disk a (key_of (shown u))) → IsUnrecovered seal (shown v) (disk b (key_of (shown u))))
      → (told → IsUnrecovered seal (shown u) (disk a (key_of (shown u))) → KeepsPrefix seal u.page_size (sealed_prefix seal u.page_size (disk a (key_of (shown u))).content) (key_of (shown u)) a b)
      → (told → IsBacked seal (shown u) (disk a (key_of (shown u))).content → bytes_of (shown v) (disk b (key_of (shown u))).content ≡ bytes_of (shown u) (disk a (key_of (shown u))).content)
      → (told → IsAdopted seal (shown u) (disk a K)) → IsFlushed seal told u (disk a K) v (disk b K)
  flushed_at page size settled flushed sealed unsealed steady bytes adopted = subst (λ (k : Key). IsFlushed seal told u (disk a k) v (disk b k)) key (record {
    page_size = page;
    size = size;
    settled = settled;
    flushed = flushed;
    sealed = sealed;
    unsealed = λ t un. (unsealed t un, keeps_now seal u.page_size (sealed_prefix seal u.page_size (disk a (key_of (shown u))).content) (key_of (shown u)) a b (steady t un));
    bytes = λ t. bytes t (adopted_backed seal (shown u) (disk a (key_of (shown u))) (subst (λ (k : Key). IsAdopted seal (shown u) (disk a k)) (sym key) (adopted t)));
  })

  -- A cut to at most the sealed prefix, of a buffer all of whose bytes have settled.
  module _ (n : ℕ) (settled : u.settled ≡ size_of (shown u)) (within : n ≤ size_of (shown u)) where
    full : u.from ≡ length u.tip.items
    full = all_flushed (shown u) u.fit.within u.order settled

    pub cut_at : v.page_size ≡ u.page_size → size_of (shown v) ≡ min (size_of (shown u)) n → (n < size_of (shown u) → v.settled ≡ n) → (size_of (shown u) ≤ n → (shown v ≡ shown u) × (b ≡ a))
        → (told → Stands seal (shown u) (disk a (key_of (shown u)))) → (told → n < size_of (shown u) → StandsSettled (disk b (key_of (shown u)))) → (told → n ≤ length (sealed_prefix seal u.page_size (disk a (key_of (shown u))).content))
        → (told → IsSealed seal (shown u) (disk a (key_of (shown u))) → IsSealed seal (shown v) (disk b (key_of (shown u))))
        → (told → IsRecovery seal (shown u) n (disk a (key_of (shown u))) → IsSealed seal (shown v) (disk b (key_of (shown u))))
        → (told → IsRecovery seal (shown u) n (disk a (key_of (shown u))) → Settles seal u.page_size (take n (sealed_prefix seal u.page_size (disk a (key_of (shown u))).content)) (disk b (key_of (shown u))))
        → (told → n < size_of (shown u) → IsSealed seal (shown u) (disk a (key_of (shown u))) → Settles seal u.page_size (take n (bytes_of (shown u) (disk a (key_of (shown u))).content)) (disk b (key_of (shown u))))
        → IsCutBack seal told u (disk a K) v (disk b K) n
    cut_at page size done same stands rests long sealed recovered prefix again = subst (λ (k : Key). IsCutBack seal told u (disk a k) v (disk b k) n) key (record {
      page_size = page;
      size = omega (arith, size, within);
      settled = elim (cases_lt n (size_of (shown u))) [
        | inl less ↦ omega (arith, done less, size, less)
        | inr all ↦ ap (λ (x : Buffer). x.settled) (same all).0 ∙ settled ∙ ap size_of (sym (same all).0)
      ];
      sealed = λ t. elim (stands t).adopted [ inl is ↦ sealed t is | inr un ↦ recovered t (un, long t) ];
      prefix = λ t. elim (stands t).adopted [
        | inr un ↦ (prefix t (un, long t)).prefix
        | inl is ↦
            let all_bytes = sealed_flushed seal (shown u) (disk a (key_of (shown u))) u.fit.begun is full in
            elim (cases_lt n (size_of (shown u))) [
              | inl less ↦ (again t less is).prefix ∙ ap (take n) (sym all_bytes)
              | inr all ↦
                  ap (λ (x : Timeline). sealed_prefix seal u.page_size (disk x (key_of (shown u))).content) (same all).1
                  ∙ sym (take_all n (sealed_prefix seal u.page_size (disk a (key_of (shown u))).content) (omega (arith, all, ap length all_bytes, bytes_length (shown u) (disk a (key_of (shown u))).content)))
            ]
      ];
      there = λ t. elim (cases_lt n (size_of (shown u))) [
        | inl less ↦ ap (λ (x : Blob). x.there) (rests t less) ∙ sym (ap (λ (x : Blob). x.there) ((stands t).rest settled))
        | inr all ↦ ap (λ (x : Timeline). (disk x (key_of (shown u))).there) (same all).1
      ];
      rests = λ t. elim (cases_lt n (size_of (shown u))) [ inl less ↦ inr (rests t less) | inr all ↦ inl (ap (λ (x : Timeline). disk x (key_of (shown u))) (same all).1) ];
    })

    -- what each crash leaves meanwhile
    pub cut_sealing : told → IsAdopted seal (shown u) (disk a (key_of (shown u))) → n ≤ length (sealed_prefix seal u.page_size (disk a (key_of (shown u))).content)
        → (IsSealed seal (shown u) (disk a (key_of (shown u))) → Sealing seal u.page_size (bytes_of (shown u) (disk a (key_of (shown u))).content) (min u.settled n) (key_of (shown u)) a b)
        → (IsRecovery seal (shown u) n (disk a (key_of (shown u))) → Sealing seal u.page_size (sealed_prefix seal u.page_size (disk a (key_of (shown u))).content) n (key_of (shown u)) a b)
        → Sealing seal u.page_size (sealed_prefix seal u.page_size (disk a K).content) n K a b
    cut_sealing t adopted long crashes recovering = subst (λ (k : Key). Sealing seal u.page_size (sealed_prefix seal u.page_size (disk a k).content) n k a b) key (elim adopted [
      | inl is ↦
          let all_bytes = sealed_flushed seal (shown u) (disk a (key_of (shown u))) u.fit.begun is full in
          let whole : Sealing seal u.page_size (sealed_prefix seal u.page_size (disk a (key_of (shown u))).content) (min u.settled n) (key_of (shown u)) a b =
          subst (λ (l : List ℕ). Sealing seal u.page_size l (min u.settled n) (key_of (shown u)) a b) (sym all_bytes) (crashes is) in
          sealing_less seal u.page_size (sealed_prefix seal u.page_size (disk a (key_of (shown u))).content) (min u.settled n) n (key_of (shown u)) a b (omega (arith, settled, within)) whole
      | inr un ↦ recovering (un, long)
    ])

key_is : {S : Type 0} {gs : _} (bu u : PageBlob S gs) → bu ≡ u → (K : Key) → key_of (shown bu) ≡ K → key_of (shown u) ≡ K
key_is {S = S} {gs = gs} bu u is K key = sym (ap (λ (x : PageBlob S gs). key_of (shown x)) is) ∙ key

moved_own : {S : Type 0} {gs : _} (bu u : PageBlob S gs) → bu ≡ u → (a0 a : Timeline) → a0 ≡ a → (P : PageBlob S gs → Key → Timeline → Type 0) → P bu (key_of (shown bu)) a0 → P u (key_of (shown u)) a
moved_own {S = S} {gs = gs} bu u is a0 a same P has = subst (λ (x : PageBlob S gs). P x (key_of (shown x)) a) is (subst (λ (t : Timeline). P bu (key_of (shown bu)) t) same has)

-- what a crash leaves where no cut was made yet
pub no_cut_moments : {S : Type 0} {gs : _} (seal : List ℕ → ℕ) (u : PageBlob S gs) (K : Key) (a : Timeline) (n : ℕ) → u.settled ≡ size_of (shown u) → Stands seal (shown u) (disk a K) → n ≤ length (sealed_prefix seal u.page_size (disk a K).content)
    → Sealing seal u.page_size (sealed_prefix seal u.page_size (disk a K).content) n K a a
no_cut_moments seal u K a n settled stands long =
    sealing_less seal u.page_size (sealed_prefix seal u.page_size (disk a K).content) (length (sealed_prefix seal u.page_size (disk a K).content)) n K a a long
    (only_start a K (Leaves seal u.page_size (sealed_prefix seal u.page_size (disk a K).content) (length (sealed_prefix seal u.page_size (disk a K).content)))
    (rest_leaves seal u.page_size (disk a K) (omega (arith, u.fit.begun)) (stands.rest settled)))

-- and where it was made of the buffer that was taken out
pub cut_moved : {S : Type 0} {gs : _} (seal : List ℕ → ℕ) (bu u : PageBlob S gs) (is : bu ≡ u) (K : Key) (a0 a : Timeline) (same : a0 ≡ a) (key : key_of (shown bu) ≡ K) (b : Timeline) (n : ℕ) → u.settled ≡ size_of (shown u) → n ≤ size_of (shown u)
    → IsAdopted seal (shown u) (disk a K) → n ≤ length (sealed_prefix seal u.page_size (disk a K).content)
    → (IsSealed seal (shown bu) (disk a0 (key_of (shown bu))) → Sealing seal bu.page_size (bytes_of (shown bu) (disk a0 (key_of (shown bu))).content) (min bu.settled n) (key_of (shown bu)) a0 b)
    → (IsRecovery seal (shown bu) n (disk a0 (key_of (shown bu))) → Sealing seal bu.page_size (sealed_prefix seal bu.page_size (disk a0 (key_of (shown bu))).content) n (key_of (shown bu)) a0 b)
    → Sealing seal u.page_size (sealed_prefix seal u.page_size (disk a K).content) n K a b
cut_moved {S = S} {gs = gs} seal bu u is K a0 a same key b n settled within adopted long crashes recovering =
    let here = key_is bu u is K key in
    cut_sealing seal (Unit {0}) u u K a b here n settled within tt
    (subst (λ (k : Key). IsAdopted seal (shown u) (disk a k)) (sym here) adopted)
    (subst (λ (k : Key). n ≤ length (sealed_prefix seal u.page_size (disk a k).content)) (sym here) long)
    (moved_own bu u is a0 a same (λ (x : PageBlob S gs) (k : Key) (s : Timeline). IsSealed seal (shown x) (disk s k) → Sealing seal x.page_size (bytes_of (shown x) (disk s k).content) (min x.settled n) k s b) crashes)
    (moved_own bu u is a0 a same (λ (x : PageBlob S gs) (k : Key) (s : Timeline). IsRecovery seal (shown x) n (disk s k) → Sealing seal x.page_size (sealed_prefix seal x.page_size (disk s k).content) n k s b) recovering)
