-- A put, and then a sync.
use Rattle.std.proofs.Common.{◌≡◌, ◌≢◌, ◌⊎◌, ◌↔◌, inl, inr, refl, sym, ◌∙◌, ap, subst, ℕ, ◌^◌, ◌<◌, ◌≤◌, List, [], length, take, Bool, false, Option, None, IsTrue, arith}
use Rattle.std.proofs.Math.Nat.{div-mul-le_self}
use Rattle.blob_device.specs.Disk.{Disk, Key}
use Rattle.meta_store.specs.Blobs.{blob_of}
use Rattle.meta_store.specs.Store.{Store}
use Rattle.value_codec.specs.declared.codec.Error as codec
use Rattle.value_codec.specs.declared.key.Key8.{Key8}
use Rattle.sealed_pages.specs.declared.page_blob.PageBlob.{PageBlob}
use Rattle.section_manager.specs.Sections.{section_key}
use Rattle.paired.specs.Crashes.{IsOwn}
use Rattle.paired.specs.Kept.{IsSameLayout, Layout, marker_of}
use Rattle.paired.specs.Pair.{synced_length}
use Rattle.archives.specs.Archives.{Archive, filing_of, state_of}
use Rattle.archives.specs.Commands.{Command}
use Rattle.archives.specs.Filing.{Filing, IsSameFiling, kept}
use Rattle.archives.specs.Machine.{Entry, State, after_sync, section_of}
use Rattle.archives.specs.Putting.{IsMovingAfter, IsWrittenAfter, Times, after_putting}
use Rattle.archives.specs.Standing.{IsGoing, IsPrefix, Leaves, submitted}
use Rattle.archives.specs.Syncing.{IsMoving}

-- ---- states

-- What stands for a state stands for another that submits the same, and of which no more is synced.
pub stands_as : (f : Filing) (was now : State (List ℕ)) (one other : Option (Command (List ℕ))) → ((s : ℕ) → submitted f.items was one s ≡ submitted f.items now other s) → ((s : ℕ) → now.synced s ≤ was.synced s)
    → ((s : ℕ) → IsGoing f.items was one s → ⊥) → (d : Disk) → Leaves f was one d → Leaves f now other d
stands_as f was now one other same fewer stays d leaves image crash no_chance =
    let stands = leaves image crash no_chance in
    record {
      markers = stands.markers;
      lawful = stands.lawful;
      each = λ s small. elim (stands.each s small) as (λ _. IsPrefix f now other image stands.markers s ⊎ ((kept f image stands.markers s ≡ []) × IsGoing f.items now other s)) [
        | inl held ↦ inl (record {
          same = subst (λ (xs : List (Entry (List ℕ))). kept f image stands.markers s ≡ take (length (kept f image stands.markers s)) xs) (same s) held.same;
          synced = omega (arith, fewer s, held.synced);
        })
        | inr gone ↦ absurd (stays s gone.1)
      ];
    }

-- a pair that is stored the same, with a codec that refuses the same, is filed the same
pub same_filing : (f : Filing) (l : Layout) (refusal : List ℕ → Option codec.Error) → IsSameLayout f.layout l → l.record_size ≡ f.layout.record_size → ((bytes : List ℕ) → l.seal bytes ≡ f.layout.seal bytes)
    → ((bytes : List ℕ) → l.place bytes ≡ f.layout.place bytes) → ((bytes : List ℕ) → refusal bytes ≡ f.refusal bytes) → IsSameFiling f (record f { layout = l; refusal = refusal })
same_filing f l refusal layout record_size seal place same = record {
  layout = layout;
  record_size = record_size;
  seal = seal;
  place = place;
  items = refl;
  key_size = refl;
  refusal = same;
  most_sections = refl;
  most_records = refl;
}

-- ---- moments

-- where all has settled that was written, over a state that the put left
module _ {F S : Type 0} {gs : _} (a b : Archive F (PageBlob S gs)) (d e : Disk) (times : Times) (index : ℕ) (key value : List ℕ) (filing : filing_of b ≡ filing_of a)
    (step : state_of b e ≡ after_putting times a.items index key value (state_of a d)) where
  pub settled_put : (m : Disk) → Leaves (filing_of b) (after_sync (state_of b e)) None m → Leaves (filing_of a) (after_sync (after_putting times a.items index key value (state_of a d))) None m
  settled_put m leaves =
      subst (λ (f : Filing). Leaves f (after_sync (after_putting times a.items index key value (state_of a d))) None m) filing
      (subst (λ (st : State (List ℕ)). Leaves (filing_of b) (after_sync st) None m) step leaves)

-- ---- blobs

-- a blob of the one is one of the other
pub own_as : (l m : Layout) (P Q : ℕ → Type 0) (q : Key) → IsSameLayout l m → ((s : ℕ) → P s → Q s) → IsOwn m P q → IsOwn l Q q
own_as l m P Q q same to own = elim own [
  | inl (s, small, named, is) ↦ inl (s, small, to s named, is ∙ ap (λ (p : List ℕ). section_key p s) same.index)
  | inr (inl (s, small, named, is)) ↦ inr (inl (s, small, to s named, is ∙ ap (λ (p : List ℕ). section_key p s) same.values))
  | inr (inr (side, is)) ↦ inr (inr (side, is ∙ ap (λ (p : List ℕ). blob_of p side) same.metadata))
]

-- the section of a number that a u64 has is one too
pub section_small : (items index : ℕ) → index < 2 ^ 64 → section_of items index < 2 ^ 64
section_small items index small = omega (arith, div-mul-le_self index items, small)

module _ {F S : Type 0} {gs : _} (a : Archive F (PageBlob S gs)) (index : ℕ) (skip : Bool) (small : index < 2 ^ 64) where
  -- the blobs that the call leaves alone
  abbrev pub IsLeft : Key → Type 0
  IsLeft q = IsOwn a.pair.layout (IsWrittenAfter a index skip) q → ⊥

  -- where the put is not skipped they are not those of its section
  not_here : skip ≡ false → (q : Key) → IsLeft q → (q ≢ section_key a.pair.layout.index (section_of a.items index)) × (q ≢ section_key a.pair.layout.values (section_of a.items index))
  not_here free q other = (
    λ is. other (inl (section_of a.items index, section_small a.items index small, inr (free, refl), is)),
    λ is. other (inr (inl (section_of a.items index, section_small a.items index small, inr (free, refl), is))),
  )

  module _ (b : Archive F (PageBlob S gs)) (layout : IsSameLayout a.pair.layout b.pair.layout) (written : (s : ℕ) → IsTrue (b.is_written s) ↔ IsWrittenAfter a index skip s) where
    -- a marker moves by the sync just where it moves once the put has ended
    module _ (store : b.pair.store ≡ a.pair.store) (synced : (s : ℕ) → synced_length b.pair s ≡ synced_length a.pair s) where
      same_marker : (s : ℕ) → marker_of b.pair.store.entries s ≡ marker_of a.pair.store.entries s
      same_marker s = ap (λ (u : Store Key8 ℕ). marker_of u.entries s) store

      pub moving_after : IsMoving b → IsMovingAfter a index skip
      moving_after (s, (below, rests, how)) = (
        s,
        (
          below,
          (λ after. rests ((written s).1 after)),
          elim how [
            | inl named ↦ absurd (rests named.0)
            | inr trails ↦ inr ((λ after. trails.0 ((written s).1 after)), λ same. trails.1 (synced s ∙ same ∙ sym (same_marker s)))
          ],
        ),
      )

      pub moving_now : IsMovingAfter a index skip → IsMoving b
      moving_now (s, (below, rests, how)) = (
        s,
        (
          below,
          (λ is. rests ((written s).0 is)),
          elim how [
            | inl named ↦ absurd (rests named.0)
            | inr trails ↦ inr ((λ is. trails.0 ((written s).0 is)), λ same. trails.1 (sym (synced s) ∙ same ∙ same_marker s))
          ],
        ),
      )
