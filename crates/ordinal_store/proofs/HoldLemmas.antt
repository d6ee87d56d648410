-- The wanted indices of a section are held.
use Rattle.std.specs.Prelude.{◌≡◌, ◌≢◌, ◌⊎◌, ◌↔◌, ℕ, ◌+◌, ◌*◌, ◌/◌, ◌%◌, ◌<◌, ◌≤◌, Bool, true, false, List, Option, Some, IsTrue}
use Rattle.std.proofs.Common.{inl, inr, refl, sym, ◌∙◌, ap, subst, arith}
use Rattle.std.proofs.Math.Nat.{mod-add-div}
use Rattle.std.proofs.lemmas.Nat.{div-mul-add}
use Rattle.sealed_pages.specs.declared.write_blob.WriteBlob.{WriteBlob}
use Rattle.std.proofs.lemmas.Bool.{cases_eq}
use Rattle.ordinal_store.specs.Marking.{is_wanted}
use Rattle.ordinal_store.specs.Numbers.{AddsNumber, Set}
use Rattle.ordinal_store.specs.Ranges.{AreRanges, set_of}
use Rattle.ordinal_store.specs.Reopening.{IsHolding}
use Rattle.ordinal_store.specs.Slots.{position_of, section_of}
use Rattle.ordinal_store.specs.Stores.{Store}

-- position p of section s is index s times the items and p more
pub index_parts : (items s p : ℕ) → 1 ≤ items → p < items → ((s * items + p) / items ≡ s) × ((s * items + p) % items ≡ p)
index_parts items s p some inside =
    let section : (s * items + p) / items ≡ s = div-mul-add s items p inside in
    let whole : (s * items + p) % items + items * ((s * items + p) / items) ≡ s * items + p = mod-add-div (s * items + p) items in
    let same : items * ((s * items + p) / items) ≡ items * s = ap (λ (n : ℕ). items * n) section in
    (section, omega (arith, whole, same))

pub index_of : (items j : ℕ) → j ≡ j / items * items + j % items
index_of items j = omega (arith, mod-add-div j items)

-- The wanted indices of a section that are below a position are put into a set.
module _ (items : ℕ) (marks : Option (List Bool)) (first : ℕ) (start : Set) where
  abbrev pub HeldBelow : ℕ → Set → Type 0
  HeldBelow n set = (j : ℕ) → IsTrue (set j) ↔ (IsTrue (start j) ⊎ ((p : ℕ) × (p < n) × (is_wanted items (Some marks) p ≡ true) × (j ≡ first + p)))

  pub held_start : HeldBelow 0 start
  held_start j = (λ is. inl is, λ either. elim either [ inl was ↦ was | inr new ↦ absurd (omega (arith, new.1)) ])

  pub held_on : (n : ℕ) (set new : Set) → is_wanted items (Some marks) n ≡ true → AddsNumber set new (first + n) → HeldBelow n set → HeldBelow (n + 1) new
  held_on n set new wanted adds far j = (
    λ is. elim ((adds j).0 is) [
      | inl here ↦ inr (n, omega arith, wanted, here)
      | inr had ↦ elim ((far j).0 had) [
        | inl was ↦ inl was
        | inr before ↦ inr (before.0, omega (arith, before.1), before.2, before.3)
      ]
    ],
    λ either. elim either [
      | inl was ↦ (adds j).1 (inr ((far j).1 (inl was)))
      | inr some ↦ elim (cases_eq some.0 n) [
        | inl here ↦ (adds j).1 (inl (some.3 ∙ ap (λ (p : ℕ). first + p) here))
        | inr other ↦ (adds j).1 (inr ((far j).1 (inr (some.0, omega (arith, some.1, other), some.2, some.3))))
      ]
    ],
  )

  pub held_past : (n : ℕ) (set : Set) → is_wanted items (Some marks) n ≡ false → HeldBelow n set → HeldBelow (n + 1) set
  held_past n set not far j = (
    λ is. elim ((far j).0 is) [
      | inl was ↦ inl was
      | inr before ↦ inr (before.0, omega (arith, before.1), before.2, before.3)
    ],
    λ either. elim either [
      | inl was ↦ (far j).1 (inl was)
      | inr some ↦ elim (cases_eq some.0 n) [
        | inl here ↦ absurd (cc (sym some.2 ∙ ap (is_wanted items (Some marks)) here ∙ not))
        | inr other ↦ (far j).1 (inr (some.0, omega (arith, some.1, other), some.2, some.3))
      ]
    ],
  )

  pub held_all : (n : ℕ) (set : Set) → ((p : ℕ) → is_wanted items (Some marks) p ≡ true → p < n) → HeldBelow n set
      → (j : ℕ) → IsTrue (set j) ↔ (IsTrue (start j) ⊎ ((p : ℕ) × (is_wanted items (Some marks) p ≡ true) × (j ≡ first + p)))
  held_all n set inside far j = (
    λ is. elim ((far j).0 is) [
      | inl was ↦ inl was
      | inr some ↦ inr (some.0, some.2, some.3)
    ],
    λ either. elim either [
      | inl was ↦ (far j).1 (inl was)
      | inr some ↦ (far j).1 (inr (some.0, inside some.0 some.1, some.1, some.2))
    ],
  )

module _ (o : Store) (s : ℕ) (u : WriteBlob) (marks : Option (List Bool)) (ranges : List (ℕ × ℕ)) (buffers : ℕ → Option WriteBlob) (items : 1 ≤ o.layout.items) (inside : (p : ℕ) → is_wanted o.layout.items (Some marks) p ≡ true → p < o.layout.items)
    (here : buffers s ≡ Some u) (others : (t : ℕ) → t ≢ s → buffers t ≡ o.buffers t) (are : AreRanges o.ranges → AreRanges ranges)
    (held : (j : ℕ) → IsTrue (set_of ranges j) ↔ (IsTrue (set_of o.ranges j) ⊎ ((p : ℕ) × (is_wanted o.layout.items (Some marks) p ≡ true) × (j ≡ s * o.layout.items + p)))) where
  abbrev pub holding_store : Store
  holding_store = record { layout = o.layout; capacity = o.capacity; ranges = ranges; buffers = buffers; written = o.written }

  pub holding_of : IsHolding o s u marks holding_store
  holding_of = record {
    place = record { layout = refl; capacity = refl };
    here = here;
    others = others;
    written = λ t. refl;
    ranges = are;
    held = λ j small. (
      λ is. elim ((held j).0 is) [
        | inl was ↦ inl was
        | inr new ↦ (let parts = index_parts o.layout.items s new.0 items (inside new.0 new.1) in
            inr (ap (section_of o.layout) new.2 ∙ parts.0, subst (λ (p : ℕ). is_wanted o.layout.items (Some marks) p ≡ true) (sym (ap (position_of o.layout) new.2 ∙ parts.1)) new.1))
      ],
      λ either. (held j).1 (elim either [
        | inl was ↦ inl was
        | inr new ↦ inr (position_of o.layout j, new.1, index_of o.layout.items j ∙ ap (λ (n : ℕ). n * o.layout.items + position_of o.layout j) new.0)
      ]),
    );
  }
