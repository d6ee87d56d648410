-- What opening the sections of a partition, one after another, leaves of its blobs.
use Rattle.std.specs.Prelude.{◌≡◌, ◌⊎◌, ℕ, ◌≤◌, Bool, true, cond, List, [], ◌∷◌, ◌++◌, IsTrue}
use Rattle.std.proofs.Common.{inl, inr, refl, sym, ◌∙◌, ap, subst}
use Rattle.blob_device.specs.Disk.{Key, Blob, Disk, settled_at}
use Rattle.blob_device.specs.Change.{Make, during}
use Rattle.blob_device.specs.Timeline.{Timeline, disk, Always, OnlyAt, Each}
use Rattle.blob_device.specs.lemmas.Moments.{always_start, always_then, always_weaker, always_now}
use Rattle.blob_device.specs.lemmas.Puts.{same_or_other}
use Rattle.sealed_pages.specs.Reading.{Unchanged}
use Rattle.section_manager.specs.Leaving.{AllMoments}
use Rattle.section_manager.specs.Lasting.{IsOpening, IsSettling}
use Rattle.section_manager.specs.Sections.{section_key}

-- a blob that is there is as before, or settled as it read, while it is opened
opened_there : (from b : Blob) → IsTrue from.there → IsOpening from b → (b ≡ from) ⊎ (b ≡ settled_at from.content)
opened_there from b there opening = elim opening [
  | inl same ↦ inl same
  | inr other ↦ elim other [
    | inl failed ↦ elim failed [
      | inl is ↦ inl (is ∙ nothing_under_way)
      | inr is ↦ inl (is ∙ ap (λ (x : Blob). record x { there = true }) nothing_under_way ∙ ap (λ (t : Bool). record from { there = t }) (sym there))
    ]
    | inr made ↦ inr (made ∙ ap (λ (t : Bool). settled_at (cond t from.content [])) there)
  ]
]
  where
    nothing_under_way : during Make from ≡ from
    nothing_under_way = ap (λ (t : Bool). cond t from (record from { content = []; unsure = true; since = from.since ++ [] ∷ [] })) there

module _ (partition : List ℕ) (ceiling : ℕ) (from : Disk) (q : Key) (b : Blob) (is : IsSettling partition ceiling from q b) where
  pub settling_there : IsTrue (from q).there → IsTrue b.there
  settling_there there = elim is [
    | inl same ↦ ap (λ (x : Blob). x.there) same ∙ there
    | inr settled ↦ ap (λ (x : Blob). x.there) settled.4
  ]

  -- and it was there, if it is
  pub settling_was : IsTrue b.there → IsTrue (from q).there
  settling_was there = elim is [
    | inl same ↦ sym (ap (λ (x : Blob). x.there) same) ∙ there
    | inr settled ↦ settled.3
  ]

  pub settling_content : b.content ≡ (from q).content
  settling_content = elim is [
    | inl same ↦ ap (λ (x : Blob). x.content) same
    | inr settled ↦ ap (λ (x : Blob). x.content) settled.4
  ]

  settling_opened : (s : ℕ) → s ≤ ceiling → q ≡ section_key partition s → IsTrue (from q).there → (x : Blob) → IsOpening b x → IsSettling partition ceiling from q x
  settling_opened s le key there x opening = elim (opened_there b x (settling_there there) opening) [
    | inl same ↦ subst (IsSettling partition ceiling from q) (sym same) is
    | inr settled ↦ inr (s, le, key, there, settled ∙ ap settled_at settling_content)
  ]

module _ (partition : List ℕ) (ceiling : ℕ) where
  pub settling_start : (t : Timeline) → Always t t (Each (IsSettling partition ceiling (disk t)))
  settling_start t = always_start t (Each (IsSettling partition ceiling (disk t))) (λ q. inl refl)

  pub settling_unchanged : (a b : Timeline) → Unchanged a b → Always a b (Each (IsSettling partition ceiling (disk a)))
  settling_unchanged a b same = always_weaker a b (λ d. d ≡ disk a) (Each (IsSettling partition ceiling (disk a))) (λ d is q. inl (ap (λ (e : Disk). e q) is)) same

  -- one section more
  pub settling_then : (s : ℕ) (a b c : Timeline) → s ≤ ceiling → IsTrue (disk a (section_key partition s)).there → Always a b (Each (IsSettling partition ceiling (disk a)))
      → AllMoments (section_key partition s) (IsOpening (disk b (section_key partition s))) b c → Always a c (Each (IsSettling partition ceiling (disk a)))
  settling_then s a b c le there first second =
      let k : Key = section_key partition s in
      let R : Key → Blob → Type 0 = IsSettling partition ceiling (disk a) in
      let now = always_now a b (Each R) first in
      always_then a b c (Each R) first (always_weaker b c (OnlyAt k (disk b) (IsOpening (disk b k))) (Each R) (λ d only q. elim (same_or_other q k) [
        | inl is ↦ subst (λ (p : Key). R p (d p)) (sym is) (settling_opened partition ceiling (disk a) k (disk b k) (now k) s le refl there (d k) only.here)
        | inr other ↦ subst (R q) (sym (only.others q other)) (now q)
      ]) second)

  -- calls that change nothing, and then the sections
  pub settling_after : (a b c : Timeline) → Unchanged a b → Always b c (Each (IsSettling partition ceiling (disk b))) → Always a c (Each (IsSettling partition ceiling (disk a)))
  settling_after a b c same second = always_then a b c (Each (IsSettling partition ceiling (disk a))) (settling_unchanged a b same)
      (subst (λ (d : Disk). Always b c (Each (IsSettling partition ceiling d))) (always_now a b (λ d. d ≡ disk a) same) second)
