-- Where a sync has settled a section: all bytes of its values are in the blob, and nothing of it is left to flush.
use Rattle.std.proofs.Common.{◌≡◌, inl, inr, refl, sym, ◌∙◌, ap, subst, ℕ, ◌*◌, ◌/◌, ◌%◌, ◌^◌, ◌<◌, ◌≤◌, [], length, Bool, true, false, cond, Option, None, Some, IsSome, IsSomeAnd, arith}
use Rattle.std.proofs.Math.Nat.{div-add-mod}
use Rattle.std.specs.Prelude.{unwrap_or}
use Rattle.blob_device.specs.Disk.{Blob, Disk}
use Rattle.blob_device.specs.Opened.{OpenedList}
use Rattle.sealed_pages.specs.Buffer.{size_of}
use Rattle.sealed_pages.specs.Shown as page_blob
use Rattle.sealed_pages.specs.declared.page_blob.PageBlob.{PageBlob}
use Rattle.sealed_pages.specs.declared.write_blob.WriteBlob.{WriteBlob}
use Rattle.section_manager.specs.declared.buffer.SectionBuffer as buffer
use Rattle.section_manager.specs.declared.unsealed.WriteFactory.{WriteFactory}
use Rattle.section_manager.specs.Sections.{IsHeld, key_of}
use Rattle.section_manager.specs.Setting.{Setting}
use Rattle.section_manager.specs.unsealed.Buffer.{count_of, is_unsettled}
use Rattle.section_manager.specs.unsealed.Laws.{counted, found_again, idle_parts}
use Rattle.segments.specs.Tails.{tail_held}
use Rattle.segments.specs.FixedLists as fixed
use Rattle.paired.specs.glob.Sections as glob
use Rattle.paired.specs.Kept.{content_at}
use Rattle.paired.specs.Opening.{as_read}
use Rattle.paired.specs.Pair.{IsPair, Pair, length_of, synced_length}
use Rattle.paired.specs.lemmas.Glob.{buffers}
use Rattle.blob_device.proofs.general.Options.{none_or_value}

-- what an option of a known value has
some_has : {X : Type 0} (o : Option X) (x : X) (P : X → Type 0) → o ≡ Some x → IsSomeAnd o P → P x
some_has {X} o x P is has = subst (λ (y : Option X). IsSomeAnd y P) is has

-- a blob that reads as it stands
there_content : (b : Blob) → b.there ≡ true → unwrap_or (cond b.there (Some b.content) None) [] ≡ b.content
there_content b is = ap (λ (x : Bool). unwrap_or (cond x (Some b.content) None) []) is

-- a multiple is as many times the number as it has
whole_times : (n k : ℕ) → n % k ≡ 0 → (n / k) * k ≡ n
whole_times n k is = omega (arith, div-add-mod n k, is)

module _ {F S : Type 0} {gs : _} (p : Pair F (PageBlob S gs)) {g : buffer.Ghosts (PageBlob S gs)} {gives : F → Setting} {takes : WriteFactory → Setting} {told : Type 0} (opened : OpenedList) (d : Disk)
    (pair : IsPair g gives buffers takes told p opened d) (s : ℕ) where
  -- the section's values have settled, where they are held
  abbrev AreSettled : Type 0
  AreSettled = IsHeld p.values s → glob.IsAllSettled p.values s

  pub values_stored : told → s < 2 ^ 64 → AreSettled → glob.section_size p.values s ≡ length (content_at (as_read d) p.values.partition s)
  values_stored t small settled = elim (none_or_value (p.values.held s)) [
    | inl none ↦ ap glob.size_held none ∙ gone none ((d (key_of p.values s)).there) refl
    | inr some ↦
        let u : WriteBlob = some.0 in
        let b : Blob = d (key_of p.values s) in
        let stands = (pair.values.over.disk t).stands s u some.1 in
        let all = some_has (p.values.held s) u (λ v. (v.settled ≡ count_of v) × (is_unsettled v ≡ false)) some.1 (settled (subst IsSome (sym some.1) refl)) in
        ap glob.size_held some.1 ∙ sym (counted u b stands) ∙ ap length (sym (found_again u b stands (pair.values.whole t s u some.1) all.1)) ∙ ap length (sym (there_content b stands.over.lasts.there))
  ]
    where
      gone : p.values.held s ≡ None → (there : Bool) → (d (key_of p.values s)).there ≡ there → 0 ≡ length (content_at (as_read d) p.values.partition s)
      gone none true is = elim ((pair.values.over.disk t).whose s small is) [
        | inl held ↦ absurd (cc (none, held))
        | inr known ↦ (let unknown = pair.whole.values_known s in absurd (cc (unknown, known)))
      ]
      gone none false is = sym (ap (λ (x : Bool). length (unwrap_or (cond x (Some (d (key_of p.values s)).content) None) [])) is)

  pub no_value_tail : AreSettled → glob.pending_size p.values s ≡ 0
  no_value_tail settled = elim (none_or_value (p.values.held s)) [
    | inl none ↦ ap glob.pending_held none
    | inr some ↦
        let u : WriteBlob = some.0 in
        let all = some_has (p.values.held s) u (λ v. (v.settled ≡ count_of v) × (is_unsettled v ≡ false)) some.1 (settled (subst IsSome (sym some.1) refl)) in
        ap glob.pending_held some.1 ∙ (idle_parts u.dirty (length u.pending.items) u.at u.end all.1).1.0
  ]

  pub no_record_tail : told → synced_length p s ≡ length_of p s → tail_held (p.index.sections.held s) ≡ 0
  no_record_tail t synced = elim (none_or_value (p.index.sections.held s)) [
    | inl none ↦ ap (λ (o : Option (PageBlob S gs)). tail_held o) none
    | inr some ↦
        let u : PageBlob S gs = some.0 in
        let whole : size_of (page_blob.shown u) % p.layout.record_size ≡ 0 = (pair.index.disk t).whole s u some.1 (pair.whole.recovered s) in
        let size : fixed.section_size p.index.sections s ≡ size_of (page_blob.shown u) = ap fixed.size_held some.1 in
        let records : length_of p s ≡ size_of (page_blob.shown u) / p.layout.record_size = ap (λ (n : ℕ). n / p.layout.record_size) size in
        let settled : synced_length p s * p.layout.record_size ≤ u.settled = pair.settled.index s u some.1 in
        let all : synced_length p s * p.layout.record_size ≡ size_of (page_blob.shown u) = ap (λ (n : ℕ). n * p.layout.record_size) (synced ∙ records) ∙ whole_times (size_of (page_blob.shown u)) p.layout.record_size whole in
        ap (λ (o : Option (PageBlob S gs)). tail_held o) some.1 ∙ omega (arith, settled, all, u.order, u.fit.within)
  ]
