-- What the calls of a buffer whose pages carry seals leave of its section.
use Rattle.std.proofs.Common.{◌≡◌, inl, inr, ℕ, ◌<◌, ◌≤◌, min, List, length, Result, Ok, Err, sym, ◌∙◌, ap, subst, arith}
use Rattle.std.specs.Prelude.{IfOk, IsOkAnd, OnOk}
use Rattle.std.proofs.lemmas.Bool.{cases_lt}
use Rattle.blob_device.specs.declared.runtime.RError.{RError}
use Rattle.blob_device.specs.Disk.{Key}
use Rattle.blob_device.specs.Timeline.{Timeline, disk}
use Rattle.sealed_pages.specs.Buffer.{Buffer, size_of, bytes_of, IsBacked, IsSealed}
use Rattle.sealed_pages.specs.ChanceSeal.{NoChanceSeal, Sealing}
use Rattle.sealed_pages.specs.ChanceSeal as chance
use Rattle.sealed_pages.specs.Cutting.{StandsSettled}
use Rattle.sealed_pages.specs.declared.page_blob.PageBlob.{PageBlob}
use Rattle.sealed_pages.specs.SealedPrefix.{sealed_prefix, adopted_size}
use Rattle.sealed_pages.specs.Shown.{shown}
use Rattle.sealed_pages.specs.Unrecovered.{KeepsPrefix, IsUnrecovered, IsRecovery, IsAdopted, IsSafeCut}
use Rattle.sealed_pages.specs.lemmas.Unrecovered.{keeps_sealing}
use Rattle.sealed_pages.specs.lemmas.cutting.Calls.{sealing_less}
use Rattle.sealed_pages.specs.lemmas.slots.PageCalls.{only_weaker}
use Rattle.section_manager.specs.Leaving.{Leaves, AllMoments}
use Rattle.section_manager.specs.Sealed.{adopted_bytes, Stands, MayKeep}
use Rattle.section_manager.specs.SealedLaws.{sealed_keeps, unrecovered_keeps, again}
use Rattle.blob_device.proofs.general.Results.{if_ok_with, map_ok}

ok_has : {T E : Type 0} (r : Result T E) (P : T → Type 0) → IsOkAnd r P → IfOk r P
ok_has (Ok v) P has = has
ok_has (Err e) P has = absurd has

module _ (seal : List ℕ → ℕ) (u : Buffer) (key : Key) (old new : Timeline) where
  module _ (least : ℕ) where
    sealed_moments : IsSealed seal u (disk old key) → Sealing seal u.page_size (bytes_of u (disk old key).content) least key old new
        → AllMoments key (Leaves (NoChanceSeal seal u.page_size) (λ _. MayKeep seal u (disk old key) least)) old new
    sealed_moments sealed = only_weaker old new key (disk old) (chance.Leaves seal u.page_size (bytes_of u (disk old key).content) least)
        (Leaves (NoChanceSeal seal u.page_size) (λ _. MayKeep seal u (disk old key) least)) (λ x. sealed_keeps seal u (disk old key) x least sealed)

    unrecovered_moments : IsUnrecovered seal u (disk old key)
        → Sealing seal u.page_size (sealed_prefix seal u.page_size (disk old key).content) (min least (length (sealed_prefix seal u.page_size (disk old key).content))) key old new
        → AllMoments key (Leaves (NoChanceSeal seal u.page_size) (λ _. MayKeep seal u (disk old key) least)) old new
    unrecovered_moments un = only_weaker old new key (disk old)
        (chance.Leaves seal u.page_size (sealed_prefix seal u.page_size (disk old key).content) (min least (length (sealed_prefix seal u.page_size (disk old key).content))))
        (Leaves (NoChanceSeal seal u.page_size) (λ _. MayKeep seal u (disk old key) least)) (λ x. unrecovered_keeps seal u (disk old key) x least un)

    kept_moments : IsUnrecovered seal u (disk old key) → KeepsPrefix seal u.page_size (sealed_prefix seal u.page_size (disk old key).content) key old new
        → AllMoments key (Leaves (NoChanceSeal seal u.page_size) (λ _. MayKeep seal u (disk old key) least)) old new
    kept_moments un keeps = unrecovered_moments un
        (keeps_sealing seal u.page_size (sealed_prefix seal u.page_size (disk old key).content) key (min least (length (sealed_prefix seal u.page_size (disk old key).content))) old new (omega arith) keeps)

    -- calls that cut nothing
    pub uncut_moments : IsAdopted seal u (disk old key) → (IsSealed seal u (disk old key) → Sealing seal u.page_size (bytes_of u (disk old key).content) least key old new)
        → (IsUnrecovered seal u (disk old key) → KeepsPrefix seal u.page_size (sealed_prefix seal u.page_size (disk old key).content) key old new)
        → AllMoments key (Leaves (NoChanceSeal seal u.page_size) (λ _. MayKeep seal u (disk old key) least)) old new
    uncut_moments adopted crashes steady = elim adopted [
      | inl sealed ↦ sealed_moments sealed (crashes sealed)
      | inr un ↦ kept_moments un (steady un)
    ]

    -- a cut to at least as many bytes as are to be kept
    pub cut_moments : (len : ℕ) → least ≤ len → IsAdopted seal u (disk old key) → (IsSealed seal u (disk old key) → Sealing seal u.page_size (bytes_of u (disk old key).content) least key old new)
        → (IsRecovery seal u len (disk old key) → Sealing seal u.page_size (sealed_prefix seal u.page_size (disk old key).content) len key old new)
        → (IsUnrecovered seal u (disk old key) → length (sealed_prefix seal u.page_size (disk old key).content) < len → KeepsPrefix seal u.page_size (sealed_prefix seal u.page_size (disk old key).content) key old new)
        → AllMoments key (Leaves (NoChanceSeal seal u.page_size) (λ _. MayKeep seal u (disk old key) least)) old new
    cut_moments len le adopted crashes recovering steady = elim adopted [
      | inl sealed ↦ sealed_moments sealed (crashes sealed)
      | inr un ↦ elim (cases_lt (length (sealed_prefix seal u.page_size (disk old key).content)) len) [
        | inl behind ↦ kept_moments un (steady un behind)
        | inr within ↦ unrecovered_moments un
            (sealing_less seal u.page_size (sealed_prefix seal u.page_size (disk old key).content) len (min least (length (sealed_prefix seal u.page_size (disk old key).content))) key old new (omega (arith, le)) (recovering (un, within)))
      ]
    ]

  -- over a blob that has settled
  stands_settled : (v : Buffer) → StandsSettled (disk new key) → IsAdopted seal v (disk new key) → Stands seal v (disk new key)
  stands_settled v rest adopted = record { adopted = adopted; rest = λ e. rest }

  -- what a call that cut nothing answers
  pub stays : (v : Buffer) → Stands seal u (disk old key) → StandsSettled (disk new key) → (IsSealed seal u (disk old key) → IsSealed seal v (disk new key))
      → (IsUnrecovered seal u (disk old key) → IsUnrecovered seal v (disk new key)) → Stands seal v (disk new key)
  stays v stands rest sealed unrecovered = elim stands.adopted [
    | inl s ↦ stands_settled v rest (inl (sealed s))
    | inr un ↦ stands_settled v rest (inr (unrecovered un))
  ]

  module _ {T E : Type 0} (r : Result T E) (shows : T → Buffer) where
    pub uncut_stands : Stands seal u (disk old key) → OnOk r (StandsSettled (disk new key)) → (IsSealed seal u (disk old key) → IfOk r (λ v. IsSealed seal (shows v) (disk new key)))
        → (IsUnrecovered seal u (disk old key) → IfOk r (λ v. IsUnrecovered seal (shows v) (disk new key))) → IfOk r (λ v. Stands seal (shows v) (disk new key))
    uncut_stands stands rest sealed unrecovered = elim stands.adopted [
      | inl s ↦ if_ok_with r rest (sealed s) (λ v has is. stands_settled (shows v) has (inl is))
      | inr un ↦ if_ok_with r rest (unrecovered un) (λ v has is. stands_settled (shows v) has (inr is))
    ]

    pub cut_stands : (len : ℕ) → Stands seal u (disk old key) → OnOk r (StandsSettled (disk new key)) → (IsSealed seal u (disk old key) → IfOk r (λ v. IsSealed seal (shows v) (disk new key)))
        → (IsRecovery seal u len (disk old key) → IfOk r (λ v. IsSealed seal (shows v) (disk new key)))
        → (IsUnrecovered seal u (disk old key) → length (sealed_prefix seal u.page_size (disk old key).content) < len → IfOk r (λ v. IsUnrecovered seal (shows v) (disk new key)))
        → IfOk r (λ v. Stands seal (shows v) (disk new key))
    cut_stands len stands rest sealed recovered unrecovered = elim stands.adopted [
      | inl s ↦ if_ok_with r rest (sealed s) (λ v has is. stands_settled (shows v) has (inl is))
      | inr un ↦ elim (cases_lt (length (sealed_prefix seal u.page_size (disk old key).content)) len) [
        | inl behind ↦ if_ok_with r rest (unrecovered un behind) (λ v has is. stands_settled (shows v) has (inr is))
        | inr within ↦ if_ok_with r rest (recovered (un, within)) (λ v has is. stands_settled (shows v) has (inl is))
      ]
    ]

    -- nothing was cut, and the blob is as before
    pub same_stands : Stands seal u (disk new key) → IsOkAnd r (λ v. shows v ≡ u) → IfOk r (λ v. Stands seal (shows v) (disk new key))
    same_stands stands same = map_ok r (λ v. shows v ≡ u) (λ v. Stands seal (shows v) (disk new key)) (λ v is. subst (λ (x : Buffer). Stands seal x (disk new key)) (sym is) stands) (ok_has r (λ v. shows v ≡ u) same)

    -- a cut that needs no byte that is not sealed leaves a sealed buffer
    pub cut_sealed : (len : ℕ) → IsSafeCut seal u len (disk old key) → len < size_of u → (IsSealed seal u (disk old key) → IfOk r (λ v. IsSealed seal (shows v) (disk new key)))
        → (IsRecovery seal u len (disk old key) → IfOk r (λ v. IsSealed seal (shows v) (disk new key))) → IfOk r (λ v. IsSealed seal (shows v) (disk new key))
    cut_sealed len safe cuts sealed recovered = elim safe [
      | inl s ↦ sealed s
      | inr other ↦ elim other [
        | inl recovery ↦ recovered recovery
        | inr past ↦ absurd (omega (arith, cuts, past))
      ]
    ]

-- adopting gives the bytes of the blob
pub adopts_bytes : {S : Type 0} {g : _} (seal : List ℕ → ℕ) (P : ℕ) (content : List ℕ) (r : Result (PageBlob S g) RError) → IfOk r (λ v. v.page_size ≡ P) → IfOk r (λ v. v.settled ≡ size_of (shown v))
    → IfOk r (λ v. size_of (shown v) ≡ adopted_size seal P content) → IfOk r (λ v. IsBacked seal (shown v) content) → IfOk r (λ v. bytes_of (shown v) content ≡ adopted_bytes seal P content)
adopts_bytes seal P content (Ok v) page settled size backed =
    sym (again seal (shown v) v.fit v.order content settled backed (size ∙ ap (λ (n : ℕ). adopted_size seal n content) (sym page)))
    ∙ ap (λ (n : ℕ). adopted_bytes seal n content) page
adopts_bytes seal P content (Err e) page settled size backed = page
