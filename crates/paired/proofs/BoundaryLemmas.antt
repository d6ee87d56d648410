-- What the check of the markers has found, against the disk: where the last value below each marker ends, and why a marker is refused.
use Rattle.std.proofs.Common.{◌≡◌, ◌↔◌, inl, inr, ℕ, zero, suc, ◌+◌, ◌*◌, ◌-◌, ◌<◌, ◌≤◌, Bool, cond, List, [], length, IsTrue, Option, None, Some, IsSomeAnd, unwrap_or, false, refl, sym, ◌∙◌, ap, subst, arith}
use Rattle.std.specs.Prelude.{is_some, IsSome}
use Rattle.std.proofs.lemmas.Bool.{false_from_ne_true}
use Rattle.blob_device.specs.Disk.{Disk}
use Rattle.blob_device.specs.Opened.{OpenedList}
use Rattle.sealed_pages.specs.declared.write_blob.WriteBlob.{WriteBlob}
use Rattle.sealed_pages.specs.SealedPrefix.{data_from}
use Rattle.sealed_pages.specs.View.{view}
use Rattle.section_manager.specs.declared.journal.Damage.{Damage}
use Rattle.section_manager.specs.Sections.{Sections, section_key, IsHeld}
use Rattle.section_manager.specs.Setting.{Setting}
use Rattle.segments.specs.FixedFloors.{IsBoundary}
use Rattle.paired.specs.glob.Sections.{size_held, section_bytes, section_size, IsGlob}
use Rattle.paired.specs.Kept.{Layout, content_at}
use Rattle.paired.specs.Opening.{as_read}
use Rattle.paired.specs.OpeningRefusing.{EndsWithin, IsLost, IsOutside}
use Rattle.paired.specs.lemmas.Glob.{buffers, section_counted}
use Rattle.blob_device.proofs.general.Options.{none_or_value}
use Rattle.paired.specs.lemmas.Boundary.{content_there}

-- the item of a boundary
pub record Bounded {V : Type 0} (B : V → Type 0) (o : Option (Option V)) : Type 0 where
  pub item : V
  pub is : o ≡ Some (Some item)
  pub has : B item

pub bounded : {V : Type 0} (B : V → Type 0) (o : Option (Option V)) → IsSomeAnd o (λ p. IsSomeAnd p B) → Bounded B o
bounded B None has = absurd has
bounded B (Some None) has = absurd has
bounded B (Some (Some v)) has = record { item = v; is = refl; has = has }

-- the same of the partition and the page size by other names
pub boundary_as : {V : Type 0} (seal : List ℕ → ℕ) (size : ℕ) (spelling : V → List ℕ) (accepted : V → Unit {0} → Type 0) (d : Disk) (s n : ℕ) (o : Option (Option V)) (p q : List ℕ) (P Q : ℕ) → p ≡ q → P ≡ Q
    → IsSomeAnd o (λ x. IsSomeAnd x (IsBoundary seal P size spelling accepted (d (section_key p s)).content n)) → IsSomeAnd o (λ x. IsSomeAnd x (IsBoundary seal Q size spelling accepted (d (section_key q s)).content n))
boundary_as seal size spelling accepted d s n o p q P Q partition pages has =
    subst (λ (x : List ℕ). IsSomeAnd o (λ y. IsSomeAnd y (IsBoundary seal Q size spelling accepted (d (section_key x s)).content n))) partition
    (subst (λ (k : ℕ). IsSomeAnd o (λ y. IsSomeAnd y (IsBoundary seal k size spelling accepted (d (section_key p s)).content n))) pages has)

pub content_absent : (d : Disk) (partition : List ℕ) (s : ℕ) → (d (section_key partition s)).there ≡ false → content_at (as_read d) partition s ≡ []
content_absent d partition s absent = ap (λ (b : Bool). unwrap_or (cond b (Some (d (section_key partition s)).content) None) []) absent

-- a section of values that was opened has as many bytes as its blob had
pub opened_size : {F : Type 0} (gives : F → Setting) {told : Type 0} (m : Sections F WriteBlob) (opened : OpenedList) (d : Disk) → IsGlob buffers gives told m opened d → told → (partition : List ℕ) (from : Disk) (s : ℕ)
    → (IsHeld m s ↔ IsTrue (from (section_key partition s)).there) → (IsHeld m s → section_bytes m d s ≡ (from (section_key partition s)).content) → section_size m s ≡ length (content_at (as_read from) partition s)
opened_size gives m opened d over t partition from s held bytes = elim (none_or_value (m.held s)) [
  | inl none ↦
      let absent : (from (section_key partition s)).there ≡ false = false_from_ne_true (from (section_key partition s)).there (λ there. absurd (cc (subst IsSome none (held.1 there)))) in
      ap size_held none ∙ sym (ap length (content_absent from partition s absent))
  | inr some ↦
      let has : IsHeld m s = ap is_some some.1 in
      sym (section_counted gives m opened d over t s) ∙ ap length (bytes has ∙ sym (content_there from partition s (held.0 has)))
]

module _ {V : Type 0} (l : Layout) (spelling : V → List ℕ) (accepted : V → Unit {0} → Type 0) (location : V → ℕ × ℕ) (spelled : (v : V) → accepted v tt → l.place (spelling v) ≡ location v)
    (floors : ℕ → Option ℕ) (boundary : ℕ → Option (Option V)) (d : Disk)
    (unmarked : (s : ℕ) → floors s ≡ None → boundary s ≡ None) (empty : (s : ℕ) → floors s ≡ Some 0 → boundary s ≡ Some None)
    (found : (s n : ℕ) → floors s ≡ Some n → 0 < n → IsSomeAnd (boundary s) (λ o. IsSomeAnd o (IsBoundary l.seal l.page_size l.record_size spelling accepted (d (section_key l.index s)).content n))) where
  placed : (content : List ℕ) (n : ℕ) (v : V) → IsBoundary l.seal l.page_size l.record_size spelling accepted content n v → l.place (data_from l.page_size (view content) ((n - 1) * l.record_size) l.record_size) ≡ location v
  placed content n v is = ap l.place (sym is.item.spelled) ∙ spelled v is.item.allowed

  pub ends_within : (s n len : ℕ) → floors s ≡ Some n → 0 < n → ((v : V) → boundary s ≡ Some (Some v) → (location v).0 + (location v).1 ≤ len) → EndsWithin l d s n len
  ends_within s n len marked some within =
      let b = bounded (IsBoundary l.seal l.page_size l.record_size spelling accepted (d (section_key l.index s)).content n) (boundary s) (found s n marked some) in
      record {
        covered = b.has.covered;
        within = subst (λ (p : ℕ × ℕ). p.0 + p.1 ≤ len) (sym (placed (d (section_key l.index s)).content n b.item b.has)) (within b.item b.is);
      }

  pub cut_off : (x : Damage) (v : V) (len : ℕ) → boundary x.section ≡ Some (Some v) → IsOutside (location v) len x → ((n : ℕ) → floors x.section ≡ Some n → len ≡ length (content_at (as_read d) l.values x.section))
      → IsLost l (λ s n. floors s ≡ Some n) d x
  cut_off x v len is outside same = go (floors x.section) refl
    where
      go : (o : Option ℕ) → floors x.section ≡ o → IsLost l (λ s n. floors s ≡ Some n) d x
      go None none = absurd (cc (unmarked x.section none, is))
      go (Some zero) marked = absurd (cc (empty x.section marked, is))
      go (Some (suc n)) marked =
          let b = bounded (IsBoundary l.seal l.page_size l.record_size spelling accepted (d (section_key l.index x.section)).content (suc n)) (boundary x.section) (found x.section (suc n) marked (omega arith)) in
          let one : b.item ≡ v = cc (b.is, is) in
          record {
            items = suc n;
            marked = marked;
            why = inr (record {
              some = omega arith;
              covered = b.has.covered;
              outside = subst (λ (p : ℕ × ℕ). IsOutside p (length (content_at (as_read d) l.values x.section)) x) (sym (placed (d (section_key l.index x.section)).content (suc n) b.item b.has ∙ ap location one))
                  (subst (λ (m : ℕ). IsOutside (location v) m x) (same (suc n) marked) outside);
            });
          }
