-- A pair's two kinds of sections where some of them were synced: each has the bytes that it had.
use Rattle.std.proofs.Common.{◌≡◌, ◌⊎◌, inl, inr, ℕ, ◌^◌, ◌<◌, List, Option, None, Some, IsSome, IsSomeAnd, refl, sym, ◌∙◌, ap, subst}
use Rattle.std.specs.Prelude.{◌↔◌, ◌≢◌}
use Rattle.blob_device.specs.Disk.{Key, Blob, Disk}
use Rattle.blob_device.specs.Opened.{Opened, OpenedList}
use Rattle.sealed_pages.specs.declared.page_blob.PageBlob.{PageBlob}
use Rattle.sealed_pages.specs.declared.write_blob.WriteBlob.{WriteBlob}
use Rattle.sealed_pages.specs.Buffer.{bytes_of}
use Rattle.sealed_pages.specs.Shown.{shown}
use Rattle.section_manager.specs.declared.buffer.SectionBuffer as buffer
use Rattle.section_manager.specs.Sections.{Sections, section_key, key_of, IsHeld, IsKeyOf, SameBounds, IsSynced}
use Rattle.section_manager.specs.Setting.{Setting}
use Rattle.section_manager.specs.lemmas.Keys.{key_injective}
use Rattle.segments.specs.FixedLists.{Lists}
use Rattle.segments.specs.FixedLists as fixed
use Rattle.paired.specs.lemmas.Glob.{buffers, glob_stays}
use Rattle.segments.specs.lemmas.adding.Write.{ArePages}
use Rattle.paired.specs.glob.Sections.{IsGlob}
use Rattle.paired.specs.glob.Sections as glob
use Rattle.blob_device.proofs.general.Options.{none_or_value, some_same, value_of}

-- a key of another partition is of none of the sections
pub other_partition : {F B : Type 0} (m : Sections F B) (P : ℕ → Type 0) (partition : List ℕ) (q : Key) → m.partition ≡ partition → q.0 ≢ partition → IsKeyOf m P q → ⊥
other_partition m P partition q here apart is = apart (ap (λ (k : Key). k.0) is.2 ∙ here)

-- so does a glob
pub glob_kept : {F : Type 0} {takes : F → Setting} {told : Type 0} (m : Sections F WriteBlob) (old new : OpenedList) (d e : Disk)
    → ((s : ℕ) → new (key_of m s) ≡ old (key_of m s)) → (told → (s : ℕ) → e (key_of m s) ≡ d (key_of m s)) → IsGlob buffers takes told m old d → IsGlob buffers takes told m new e
glob_kept {takes = takes} m old new d e opens blobs is =
    glob_stays takes m old d is new e (λ s len small was. subst (λ (o : Option Opened). IsSomeAnd o (λ p. p.len ≡ len)) (sym (opens s)) was) (λ t s small. blobs t s)

-- the same bytes of the same buffer over the same blob
module _ {S : Type 0} {gs : _} where
  pub bytes_kept : (o p : Option (PageBlob S gs)) (b c : Blob) → p ≡ o → (IsSome o → c ≡ b) → fixed.bytes_held p c.content ≡ fixed.bytes_held o b.content
  bytes_kept None p b c is same = ap (λ (x : Option (PageBlob S gs)). fixed.bytes_held x c.content) is
  bytes_kept (Some u) p b c is same = ap (λ (x : Option (PageBlob S gs)). fixed.bytes_held x c.content) is ∙ ap (λ (y : Blob). bytes_of (shown u) y.content) (same refl)

-- ---- an index, some sections of which were synced
pub record IndexSynced {F S : Type 0} {gs : _} (g : buffer.Ghosts (PageBlob S gs)) (told : Type 0) (IsNamed : ℕ → Type 0) (j k : Lists F (PageBlob S gs)) (old new : OpenedList) (d e : Disk) : Type 0 where
  pub named : (s : ℕ) (u : PageBlob S gs) → IsNamed s → j.sections.held s ≡ Some u
      → IsSomeAnd (k.sections.held s) (λ v. IsSynced g told u v (d (key_of j.sections s)) (e (key_of j.sections s)))
  pub none : (s : ℕ) → j.sections.held s ≡ None → k.sections.held s ≡ None
  pub others : (s : ℕ) → (IsNamed s → ⊥) → k.sections.held s ≡ j.sections.held s
  pub unopened : (s : ℕ) → k.sections.unopened s ≡ j.sections.unopened s
  pub bounds : SameBounds j.sections k.sections
  pub unrecovered : (s : ℕ) → k.unrecovered s ≡ j.unrecovered s
  pub floors : (s : ℕ) → k.floor_of s ≡ j.floor_of s
  pub number : (s : ℕ) → IsHeld j.sections s → s < 2 ^ 64
  pub entries : (q : Key) → (IsKeyOf j.sections (λ s. IsNamed s × IsHeld j.sections s) q → ⊥) → new q ≡ old q
  pub blobs : told → (q : Key) → (IsKeyOf j.sections (λ s. IsNamed s × IsHeld j.sections s) q → ⊥) → e q ≡ d q

module _ {F S : Type 0} {gs : _} (seal : List ℕ → ℕ) (g : buffer.Ghosts (PageBlob S gs)) (pages : ArePages g seal) (told : Type 0) (IsNamed : ℕ → Type 0) (decides : (s : ℕ) → IsNamed s ⊎ (IsNamed s → ⊥))
    (j k : Lists F (PageBlob S gs)) (old new : OpenedList) (d e : Disk) (synced : IndexSynced g told IsNamed j k old new d e) where
  -- a named section that is held has another buffer
  record WasSynced (s : ℕ) : Type 0 where
    pub u : PageBlob S gs
    pub v : PageBlob S gs
    pub named : IsNamed s
    pub was : j.sections.held s ≡ Some u
    pub now : k.sections.held s ≡ Some v
    pub did : IsSynced g told u v (d (key_of j.sections s)) (e (key_of j.sections s))

  pub index_key : (s : ℕ) → key_of k.sections s ≡ key_of j.sections s
  index_key s = ap (λ (p : List ℕ). section_key p s) synced.bounds.place.partition

  -- the blob of a section that is not both named and held is as before
  pub index_blob : told → (s : ℕ) → s < 2 ^ 64 → (IsNamed s × IsHeld j.sections s → ⊥) → e (key_of j.sections s) ≡ d (key_of j.sections s)
  index_blob t s small not = synced.blobs t (key_of j.sections s) (λ w. not (subst (λ (x : ℕ). IsNamed x × IsHeld j.sections x) (sym (key_injective j.sections.partition s w.0 small (synced.number w.0 w.1.1) w.2)) w.1))

  -- of any other section nothing changed
  record Untouched (s : ℕ) : Type 0 where
    pub held : k.sections.held s ≡ j.sections.held s
    pub blob : told → IsHeld j.sections s → e (key_of j.sections s) ≡ d (key_of j.sections s)

  cases : (s : ℕ) → Untouched s ⊎ WasSynced s
  cases s = elim (decides s) [
    | inl is ↦ elim (none_or_value (j.sections.held s)) [
      | inl absent ↦ inl (record { held = synced.none s absent ∙ sym absent; blob = λ t held. absurd (cc (subst IsSome absent held)) })
      | inr some ↦ (let w = value_of (k.sections.held s) (λ v. IsSynced g told some.0 v (d (key_of j.sections s)) (e (key_of j.sections s))) (synced.named s some.0 is some.1) in
          inr (record { u = some.0; v = w.value; named = is; was = some.1; now = w.is; did = w.has }))
    ]
    | inr not ↦ inl (record { held = synced.others s not; blob = λ t held. index_blob t s (synced.number s held) (λ both. not both.0) })
  ]

  pub index_held : (s : ℕ) → IsHeld k.sections s ↔ IsHeld j.sections s
  index_held s = elim (cases s) [
    | inl same ↦ (λ is. subst IsSome same.held is, λ is. subst IsSome (sym same.held) is)
    | inr did ↦ (λ is. subst IsSome (sym did.was) refl, λ is. subst IsSome (sym did.now) refl)
  ]

  pub index_none : (s : ℕ) → k.sections.held s ≡ None → j.sections.held s ≡ None
  index_none s none = elim (cases s) [
    | inl same ↦ sym same.held ∙ none
    | inr did ↦ absurd (cc (did.now, none))
  ]

  pub index_size : (s : ℕ) → fixed.section_size k.sections s ≡ fixed.section_size j.sections s
  index_size s = elim (cases s) [
    | inl same ↦ ap fixed.size_held same.held
    | inr did ↦ ap fixed.size_held did.now ∙ sym (pages.count did.v) ∙ did.did.size ∙ pages.count did.u ∙ sym (ap fixed.size_held did.was)
  ]

  pub index_bytes : told → (s : ℕ) → fixed.section_bytes k.sections e s ≡ fixed.section_bytes j.sections d s
  index_bytes t s = ap (λ (q : Key). fixed.bytes_held (k.sections.held s) (e q).content) (index_key s) ∙ elim (cases s) [
    | inl same ↦ bytes_kept (j.sections.held s) (k.sections.held s) (d (key_of j.sections s)) (e (key_of j.sections s)) same.held (same.blob t)
    | inr did ↦ ap (λ (o : Option (PageBlob S gs)). fixed.bytes_held o (e (key_of j.sections s)).content) did.now ∙ sym (pages.bytes did.v (e (key_of j.sections s)).content) ∙ did.did.bytes t
        ∙ pages.bytes did.u (d (key_of j.sections s)).content ∙ sym (ap (λ (o : Option (PageBlob S gs)). fixed.bytes_held o (d (key_of j.sections s)).content) did.was)
  ]

  -- all bytes of a named section have settled
  pub index_settled : (s : ℕ) (v : PageBlob S gs) → IsNamed s → k.sections.held s ≡ Some v → v.settled ≡ fixed.section_size k.sections s
  index_settled s v is held = elim (cases s) [
    | inl same ↦ (let w = value_of (k.sections.held s) (λ x. IsSynced g told v x (d (key_of j.sections s)) (e (key_of j.sections s))) (synced.named s v is (sym same.held ∙ held)) in
        settled_as v w.value w.is held w.has)
    | inr did ↦ settled_as did.u did.v did.now held did.did
  ]
    where
      settled_as : (u x : PageBlob S gs) → k.sections.held s ≡ Some x → k.sections.held s ≡ Some v → IsSynced g told u x (d (key_of j.sections s)) (e (key_of j.sections s)) → v.settled ≡ fixed.section_size k.sections s
      settled_as u x now held did = subst (λ (y : PageBlob S gs). y.settled ≡ fixed.section_size k.sections s) (some_same x v (sym now ∙ held))
          (sym (pages.settled x) ∙ did.settled ∙ sym did.size ∙ pages.count x ∙ sym (ap fixed.size_held now))

-- ---- a glob, some sections of which were synced
pub record ValuesSynced {F : Type 0} (told : Type 0) (IsNamed : ℕ → Type 0) (m n : Sections F WriteBlob) (old new : OpenedList) (d e : Disk) : Type 0 where
  pub named : (s : ℕ) (u : WriteBlob) → IsNamed s → m.held s ≡ Some u → IsSomeAnd (n.held s) (λ v. IsSynced buffers told u v (d (key_of m s)) (e (key_of m s)))
  pub none : (s : ℕ) → m.held s ≡ None → n.held s ≡ None
  pub others : (s : ℕ) → (IsNamed s → ⊥) → n.held s ≡ m.held s
  pub unopened : (s : ℕ) → n.unopened s ≡ m.unopened s
  pub bounds : SameBounds m n
  pub bytes : told → (s : ℕ) → glob.section_bytes n e s ≡ glob.section_bytes m d s
  pub entries : (q : Key) → (IsKeyOf m (λ s. IsNamed s × IsHeld m s) q → ⊥) → new q ≡ old q
  pub blobs : told → (q : Key) → (IsKeyOf m (λ s. IsNamed s × IsHeld m s) q → ⊥) → e q ≡ d q

module _ {F : Type 0} (told : Type 0) (IsNamed : ℕ → Type 0) (decides : (s : ℕ) → IsNamed s ⊎ (IsNamed s → ⊥)) (m n : Sections F WriteBlob) (old new : OpenedList) (d e : Disk)
    (synced : ValuesSynced told IsNamed m n old new d e) where
  -- a section has another buffer, or the same, or none
  record WasValued (s : ℕ) : Type 0 where
    pub u : WriteBlob
    pub v : WriteBlob
    pub was : m.held s ≡ Some u
    pub now : n.held s ≡ Some v
    pub did : IsSynced buffers told u v (d (key_of m s)) (e (key_of m s))

  valued : (s : ℕ) → IsNamed s → ((m.held s ≡ None) × (n.held s ≡ None)) ⊎ WasValued s
  valued s is = elim (none_or_value (m.held s)) [
    | inl absent ↦ inl (absent, synced.none s absent)
    | inr some ↦ (let w = value_of (n.held s) (λ v. IsSynced buffers told some.0 v (d (key_of m s)) (e (key_of m s))) (synced.named s some.0 is some.1) in
        inr (record { u = some.0; v = w.value; was = some.1; now = w.is; did = w.has }))
  ]

  pub values_held_same : (s : ℕ) → IsHeld n s → IsHeld m s
  values_held_same s held = elim (none_or_value (m.held s)) [
    | inl absent ↦ absurd (cc (subst IsSome (synced.none s absent) held))
    | inr some ↦ subst IsSome (sym some.1) refl
  ]

  pub values_size : (s : ℕ) → glob.section_size n s ≡ glob.section_size m s
  values_size s = elim (decides s) [
    | inl is ↦ elim (valued s is) [
      | inl none ↦ ap glob.size_held none.1 ∙ sym (ap glob.size_held none.0)
      | inr did ↦ ap glob.size_held did.now ∙ did.did.size ∙ sym (ap glob.size_held did.was)
    ]
    | inr not ↦ ap glob.size_held (synced.others s not)
  ]

  -- all bytes of a named section have settled
  pub values_settled : (s : ℕ) → IsNamed s → glob.settled_size n s ≡ glob.section_size n s
  values_settled s is = elim (valued s is) [
    | inl none ↦ ap glob.settled_held none.1 ∙ sym (ap glob.size_held none.1)
    | inr did ↦ ap glob.settled_held did.now ∙ did.did.settled ∙ sym did.did.size ∙ sym (ap glob.size_held did.now)
  ]
