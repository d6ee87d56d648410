-- What an opening by markers leaves of the disk at each moment: its copies are opened first, and then the blobs of the sections.
use Rattle.std.specs.Prelude.{◌≡◌, ◌≢◌, ◌⊎◌, ℕ, ◌-◌, ◌^◌, ◌<◌, ⊤, cond, Bool, true, false, List, [], IsTrue, IsSome, None, Some, Ok}
use Rattle.std.proofs.Common.{inl, inr, refl, sym, ◌∙◌, ap, subst, arith}
use Rattle.blob_device.specs.Disk.{Key, Blob, Disk, reads, settled_at}
use Rattle.blob_device.specs.Opened.{OpenedList}
use Rattle.blob_device.specs.Timeline.{Timeline, disk, Always, Each}
use Rattle.blob_device.specs.lemmas.Moments.{always_now, always_then, always_weaker}
use Rattle.section_manager.specs.Lasting.{IsSettling}
use Rattle.section_manager.specs.Refusing.{IsForeign}
use Rattle.section_manager.specs.Sections.{section_key}
use Rattle.meta_store.specs.declared.error.Side.{Side}
use Rattle.meta_store.specs.declared.error.Side.TheVariants.{Left, Right}
use Rattle.meta_store.specs.Blobs.{blob_of}
use Rattle.meta_store.specs.Calls.{IsOpened, OthersOpened}
use Rattle.meta_store.specs.Format.{Format}
use Rattle.meta_store.specs.Opening.{Opens, Opening}
use Rattle.meta_store.specs.Pairs.{ReadsPair}
use Rattle.meta_store.specs.Store.{Store, Stands, chosen_by}
use Rattle.paired.specs.Crashes.{IsOwn}
use Rattle.paired.specs.Kept.{Layout, Markers}
use Rattle.paired.specs.Opening.{as_read, IsLawful, MayBeOpened, OnlyOpens, RecallsAlone}
use Rattle.paired.specs.Pair.{AreApart}
use Rattle.meta_store.specs.lemmas.Reopening.{IsPromised}
use Rattle.paired.specs.lemmas.opening.Start.{opening_recalls, opening_stays}
use Rattle.meta_store.specs.declared.copy.Contents.{Contents}

module _ (l : Layout) (apart : AreApart l) where
  -- no blob of a section is a copy
  pub index_apart : (name : List ℕ) (side : Side) → (l.index, name) ≢ blob_of l.metadata side
  index_apart name side is = apart.metadata (ap (λ (k : Key). k.0) is)

  pub values_apart : (name : List ℕ) (side : Side) → (l.values, name) ≢ blob_of l.metadata side
  values_apart name side is = apart.both (ap (λ (k : Key). k.0) is)

  -- ---- the copies are opened
  module _ (from d : Disk) (opening : Opening l.metadata from d) where
    pub index_stays : (name : List ℕ) → d (l.index, name) ≡ from (l.index, name)
    index_stays name = opening.others (l.index, name) (index_apart name Left) (index_apart name Right)

    pub values_stay : (name : List ℕ) → d (l.values, name) ≡ from (l.values, name)
    values_stay name = opening.others (l.values, name) (values_apart name Left) (values_apart name Right)

    copies_open : (side : Side) → Opens (from (blob_of l.metadata side)) (d (blob_of l.metadata side))
    copies_open Left = opening.left
    copies_open Right = opening.right

    others_stay : (q : Key) → (IsOwn l (λ _. ⊤) q → ⊥) → d q ≡ from q
    others_stay q not = opening.others q (λ is. not (inr (inr (Left, is)))) (λ is. not (inr (inr (Right, is))))

    pub copies_opened : OnlyOpens l from d
    copies_opened = record {
      index = λ s. inl (opening.others (section_key l.index s) (index_apart (section_key l.index s).1 Left) (index_apart (section_key l.index s).1 Right));
      values = λ s. inl (opening.others (section_key l.values s) (values_apart (section_key l.values s).1 Left) (values_apart (section_key l.values s).1 Right));
      copies = copies_open;
      others = others_stay;
    }

    -- ---- then the sections
    abbrev Parts : Disk → Type 0
    Parts = Each (λ q b. IsSettling l.index (2 ^ 64 - 1) d q b ⊎ IsSettling l.values (2 ^ 64 - 1) d q b)

    settling_back : (partition : List ℕ) (q : Key) (b : Blob) → d q ≡ from q → IsSettling partition (2 ^ 64 - 1) d q b → IsSettling partition (2 ^ 64 - 1) from q b
    settling_back partition q b same (inl is) = inl (is ∙ same)
    settling_back partition q b same (inr found) =
        inr (found.0, found.1, found.2, subst (λ (x : Blob). IsTrue x.there) same found.3, subst (λ (x : Blob). b ≡ record { there = true; content = x.content; unsure = false; settled = x.content; since = []; loose = [] }) same found.4)

    pub parts_opened : (e : Disk) → Parts e → OnlyOpens l from e
    parts_opened e each = record { index = index; values = values; copies = copies; others = others }
      where
        index : (s : ℕ) → IsSettling l.index (2 ^ 64 - 1) from (section_key l.index s) (e (section_key l.index s))
        index s = elim (each (section_key l.index s)) [
          | inl settling ↦ settling_back l.index (section_key l.index s) (e (section_key l.index s)) (index_stays (section_key l.index s).1) settling
          | inr settling ↦ elim settling [
            | inl same ↦ inl (same ∙ index_stays (section_key l.index s).1)
            | inr found ↦ absurd (apart.values (ap (λ (k : Key). k.0) found.2))
          ]
        ]

        values : (s : ℕ) → IsSettling l.values (2 ^ 64 - 1) from (section_key l.values s) (e (section_key l.values s))
        values s = elim (each (section_key l.values s)) [
          | inr settling ↦ settling_back l.values (section_key l.values s) (e (section_key l.values s)) (values_stay (section_key l.values s).1) settling
          | inl settling ↦ elim settling [
            | inl same ↦ inl (same ∙ values_stay (section_key l.values s).1)
            | inr found ↦ absurd (apart.values (sym (ap (λ (k : Key). k.0) found.2)))
          ]
        ]

        copy_stays : (side : Side) → e (blob_of l.metadata side) ≡ d (blob_of l.metadata side)
        copy_stays side = elim (each (blob_of l.metadata side)) [
          | inl settling ↦ elim settling [
            | inl same ↦ same
            | inr found ↦ absurd (apart.metadata (sym (ap (λ (k : Key). k.0) found.2)))
          ]
          | inr settling ↦ elim settling [
            | inl same ↦ same
            | inr found ↦ absurd (apart.both (sym (ap (λ (k : Key). k.0) found.2)))
          ]
        ]

        copies : (side : Side) → Opens (from (blob_of l.metadata side)) (e (blob_of l.metadata side))
        copies side = subst (Opens (from (blob_of l.metadata side))) (sym (copy_stays side)) (copies_open side)

        others : (q : Key) → (IsOwn l (λ _. ⊤) q → ⊥) → e q ≡ from q
        others q not = elim (each q) [
          | inl settling ↦ elim settling [
            | inl same ↦ same ∙ others_stay q not
            | inr found ↦ absurd (not (inl (found.0, omega (arith, found.1), tt, found.2)))
          ]
          | inr settling ↦ elim settling [
            | inl same ↦ same ∙ others_stay q not
            | inr found ↦ absurd (not (inr (inl (found.0, omega (arith, found.1), tt, found.2))))
          ]
        ]

  -- ---- from the one moment to the other
  pub first_opens : (a b : Timeline) → Always a b (Opening l.metadata (disk a)) → Always a b (OnlyOpens l (disk a))
  first_opens a b first = always_weaker a b (Opening l.metadata (disk a)) (OnlyOpens l (disk a)) (λ d opening. copies_opened (disk a) d opening) first

  pub both_open : (a b e : Timeline) → Always a b (Opening l.metadata (disk a)) → Always b e (Each (λ q x. IsSettling l.index (2 ^ 64 - 1) (disk b) q x ⊎ IsSettling l.values (2 ^ 64 - 1) (disk b) q x)) → Always a e (OnlyOpens l (disk a))
  both_open a b e first second = always_then a b e (OnlyOpens l (disk a)) (first_opens a b first)
      (always_weaker b e (Each (λ q x. IsSettling l.index (2 ^ 64 - 1) (disk b) q x ⊎ IsSettling l.values (2 ^ 64 - 1) (disk b) q x)) (OnlyOpens l (disk a))
      (λ d each. parts_opened (disk a) (disk b) (always_now a b (Opening l.metadata (disk a)) first) d each) second)

  module _ (a e : Timeline) (promised : (k : Key) → IsPromised (disk a k)) (fits : (x : List ℕ) → l.markers.seal x < 2 ^ 32) (opens : Always a e (OnlyOpens l (disk a))) (may : MayBeOpened l (disk a)) where
    pub always_recalls : IsTrue l.marked → Always a e (RecallsAlone l (IsOwn l (λ _. ⊤)) (disk a))
    always_recalls is_marked = always_weaker a e (OnlyOpens l (disk a)) (RecallsAlone l (IsOwn l (λ _. ⊤)) (disk a)) (λ d only. record {
      recalls = opening_recalls l apart (disk a) d only promised may is_marked fits;
      others = only.others;
    }) opens

    pub stays_open : MayBeOpened l (disk e)
    stays_open = opening_stays l apart (disk a) (disk e) (always_now a e (OnlyOpens l (disk a)) opens) promised may

  -- ---- entries in the list of opened blobs
  pub own_entries : (o p r : OpenedList) → OthersOpened l.metadata o p
      → ((q : Key) → ((s : ℕ) → s < 2 ^ 64 → (q ≢ section_key l.index s) × (q ≢ section_key l.values s)) → r q ≡ p q) → (q : Key) → (IsOwn l (λ _. ⊤) q → ⊥) → r q ≡ o q
  own_entries o p r copies sections q not =
      sections q (λ s small. (λ is. not (inl (s, small, tt, is)), λ is. not (inr (inl (s, small, tt, is))))) ∙ copies q (λ is. not (inr (inr (Left, is)))) (λ is. not (inr (inr (Right, is))))

  pub copy_entries : (o p : OpenedList) → OthersOpened l.metadata o p → (q : Key) → (IsOwn l (λ _. ⊤) q → ⊥) → p q ≡ o q
  copy_entries o p copies q not = copies q (λ is. not (inr (inr (Left, is)))) (λ is. not (inr (inr (Right, is))))

  pub value_entry : (o p : OpenedList) → OthersOpened l.metadata o p → (s : ℕ) → p (section_key l.values s) ≡ o (section_key l.values s)
  value_entry o p copies s = copies (section_key l.values s) (values_apart (section_key l.values s).1 Left) (values_apart (section_key l.values s).1 Right)

-- ---- foreign names
-- a blob that is there reads as something
there_reads : (b : Blob) → IsTrue b.there → IsSome (reads b)
there_reads b there = subst (λ (t : Bool). IsSome (cond t (Some b.content) None)) (sym there) refl

pub named_before : (l : Layout) → AreApart l → (from d : Disk) → Opening l.metadata from d → (n : List ℕ) → IsForeign d l.index n ⊎ IsForeign d l.values n → IsForeign from l.index n ⊎ IsForeign from l.values n
named_before l apart from d opening n (inl is) = inl (record { there = subst (λ (b : Blob). IsTrue b.there) (index_stays l apart from d opening n) is.there; size = is.size })
named_before l apart from d opening n (inr is) = inr (record { there = subst (λ (b : Blob). IsTrue b.there) (values_stay l apart from d opening n) is.there; size = is.size })

pub named_after : (l : Layout) → AreApart l → (from d : Disk) → Opening l.metadata from d → (n : List ℕ) → IsForeign from l.index n ⊎ IsForeign from l.values n → IsForeign d l.index n ⊎ IsForeign d l.values n
named_after l apart from d opening n (inl is) = inl (record { there = subst (λ (b : Blob). IsTrue b.there) (sym (index_stays l apart from d opening n)) is.there; size = is.size })
named_after l apart from d opening n (inr is) = inr (record { there = subst (λ (b : Blob). IsTrue b.there) (sym (values_stay l apart from d opening n)) is.there; size = is.size })

pub lawful_named : (l : Layout) (from : Disk) (markers : Markers) → IsLawful l (as_read from) markers → (n : List ℕ) → IsForeign from l.index n ⊎ IsForeign from l.values n → ⊥
lawful_named l from markers lawful n (inl is) = is.size (lawful.names.index n (there_reads (from (l.index, n)) is.there))
lawful_named l from markers lawful n (inr is) = is.size (lawful.names.values n (there_reads (from (l.values, n)) is.there))

-- ---- what stands over the copies
pub stands_over : {K V : Type 0} (f : Format K V) (u : Store K V) (synced : Contents K V) (d e : Disk) → ((side : Side) → e (blob_of u.partition side) ≡ d (blob_of u.partition side)) → Stands f u synced d → Stands f u synced e
stands_over f u synced d e same was = record {
  left = subst (λ (b : Blob). b ≡ settled_at b.content) (sym (same Left)) was.left;
  right = subst (λ (b : Blob). b ≡ settled_at b.content) (sym (same Right)) was.right;
  pair = subst (λ (b : Blob). ReadsPair f b.content (e (blob_of u.partition Right)).content (Ok (chosen_by u synced))) (sym (same Left))
      (subst (λ (b : Blob). ReadsPair f (d (blob_of u.partition Left)).content b.content (Ok (chosen_by u synced))) (sym (same Right)) was.pair);
  fresh = was.fresh;
}

-- the copies stay where the sections' blobs are opened
pub copies_stay : (l : Layout) → AreApart l → (d e : Disk) → Each (λ q b. IsSettling l.index (2 ^ 64 - 1) d q b ⊎ IsSettling l.values (2 ^ 64 - 1) d q b) e → (side : Side) → e (blob_of l.metadata side) ≡ d (blob_of l.metadata side)
copies_stay l apart d e each side = elim (each (blob_of l.metadata side)) [
  | inl settling ↦ elim settling [
    | inl same ↦ same
    | inr found ↦ absurd (apart.metadata (sym (ap (λ (k : Key). k.0) found.2)))
  ]
  | inr settling ↦ elim settling [
    | inl same ↦ same
    | inr found ↦ absurd (apart.both (sym (ap (λ (k : Key). k.0) found.2)))
  ]
]

pub opened_over : (p : List ℕ) (o n : OpenedList) → ((side : Side) → n (blob_of p side) ≡ o (blob_of p side)) → IsOpened p o → IsOpened p n
opened_over p o n same was = record { left = subst IsSome (sym (same Left)) was.left; right = subst IsSome (sym (same Right)) was.right }

-- a section's blob keeps its content
pub opens_content : (l : Layout) (from d : Disk) → OnlyOpens l from d → (s : ℕ) → (d (section_key l.index s)).content ≡ (from (section_key l.index s)).content
opens_content l from d opens s = elim (opens.index s) [
  | inl same ↦ ap (λ (b : Blob). b.content) same
  | inr found ↦ ap (λ (b : Blob). b.content) found.4
]
