-- What crashes leave of a cache, section by section.
use Rattle.std.specs.Prelude.{◌≡◌, ℕ, ◌<◌, ◌≤◌, ◌^◌, ◌||◌, max, cond, Bool, true, false, List, [], ◌∷◌, ◌++◌, length, map, take, Option, None, Some, unwrap_or, IsSomeAnd, IsTrue}
use Rattle.std.proofs.Common.{inl, inr, ⊎_elim, refl, sym, ap, ◌∙◌, subst, arith, length-take}
use Rattle.std.proofs.lemmas.List.{nil_from_length, take-append-le, take-map, take-take}
use Rattle.blob_device.specs.Disk.{Blob, Disk, MayLeave, nothing, past, longest, greatest}
use Rattle.sealed_pages.specs.ChanceSeal as pages
use Rattle.sealed_pages.specs.SealedPrefix.{sealed_prefix, Prefix}
use Rattle.section_manager.specs.Lasting.{IsGoing, IsOpening}
use Rattle.section_manager.specs.Sections.{section_key}
use Rattle.section_manager.specs.lemmas.buffers.NothingSealed.{nothing_sealed}
use Rattle.variable_journal.specs.lemmas.Frame.{bad_before, first_of_cut}
use Rattle.variable_journal.specs.Frames.{items_of}
use Rattle.cache_store.specs.Kept.{Layout, IsLawfulIn, entries_of, sealed_in}
use Rattle.cache_store.specs.Machine.{Entry}
use Rattle.cache_store.specs.Records.{entry_of}
use Rattle.cache_store.specs.Standing.{IsHeld, IsPrefix, Leaves, Wanted}
use Rattle.cache_store.proofs.LawfulLemmas.{lawful_cut, lawful_none, length-mapped, no_items}

-- the entries of a prefix are the first ones
pub first_entries : (bytes : List ℕ) (n : ℕ) → entries_of (take n bytes) ≡ take (length (entries_of (take n bytes))) (entries_of bytes)
first_entries bytes n =
    let k = length (items_of (take n bytes)) in
    ap (map entry_of) (first_of_cut bytes n).same ∙ sym (take-map entry_of k (items_of bytes)) ∙ ap (λ m. take m (entries_of bytes)) (sym (length-mapped entry_of (items_of (take n bytes))))

-- a shorter prefix has clear more of them
pub fewer_entries : (bytes : List ℕ) (m n : ℕ) → m ≤ n → length (entries_of (take m bytes)) ≤ length (entries_of (take n bytes))
fewer_entries bytes m n le =
    let same : take m (take n bytes) ≡ take m bytes = take-take m n bytes le in
    let first = first_entries (take n bytes) m in
    omega (arith, ap (λ bs. length (entries_of bs)) same, ap length first, length-take (length (entries_of (take m (take n bytes)))) (entries_of (take n bytes)))

again : (t u : Bool) → IsTrue (t || (t || u)) → IsTrue (t || u)
again true u is = refl
again false u is = is

module _ (l : Layout) (w : Wanted) (s : ℕ) where
  -- what one crash leaves of the section is lawful, and as it is wanted
  pub record Holds (bytes : List ℕ) : Type 0 where
    pub lawful : IsLawfulIn l s bytes
    pub held : IsHeld l w s (entries_of bytes)

  -- so is what each crash leaves without a chance seal
  abbrev pub SectionLeaves : Blob → Type 0
  SectionLeaves b = (left : Option (List ℕ)) → MayLeave b left → pages.NoChanceSeal l.seal l.page_size (past b) (unwrap_or left []) → Holds (sealed_in l left)

  -- The bytes of the section, and how many of them are kept: lawful, they are what is wanted, with what is synced.
  pub record Backs (bytes : List ℕ) (least : ℕ) : Type 0 where
    pub lawful : IsLawfulIn l s bytes
    pub list : entries_of bytes ≡ w.lists s
    pub synced : w.synced s ≤ length (entries_of (take least bytes))

  -- where each crash leaves a prefix of them
  pub prefix_holds : (bytes c : List ℕ) (least : ℕ) → Backs bytes least → Prefix l.seal l.page_size bytes least c → Holds (sealed_prefix l.seal l.page_size c)
  prefix_holds bytes c least backs prefix =
      let n = length (sealed_prefix l.seal l.page_size c) in
      subst Holds (sym prefix.is) (record {
        lawful = lawful_cut l s bytes n (first_of_cut bytes n) (bad_before bytes n) backs.lawful;
        held = inl (record {
          same = first_entries bytes n ∙ ap (take (length (entries_of (take n bytes)))) backs.list;
          synced = omega (arith, backs.synced, fewer_entries bytes least n prefix.no_shorter);
        });
      })

  pub prefix_leaves : (bytes : List ℕ) (least : ℕ) (b : Blob) → Backs bytes least → pages.Leaves l.seal l.page_size bytes least b → SectionLeaves b
  prefix_leaves bytes least b backs leaves left may clear = go left (leaves left may) clear
    where
      go : (o : Option (List ℕ)) → IsSomeAnd o (λ c. pages.NoChanceSeal l.seal l.page_size (past b) c → Prefix l.seal l.page_size bytes least c)
          → pages.NoChanceSeal l.seal l.page_size (past b) (unwrap_or o []) → Holds (sealed_in l o)
      go None has clear = absurd has
      go (Some c) has clear = prefix_holds bytes c least backs (has clear)

  -- nothing is there
  pub bare_holds : IsHeld l w s [] → Holds (sealed_prefix l.seal l.page_size [])
  bare_holds held = subst Holds (sym (nothing_sealed l.seal l.page_size)) (record { lawful = lawful_none l s; held = subst (IsHeld l w s) (sym (ap (map entry_of) no_items)) held })

  pub bare_leaves : (b : Blob) → longest b ≡ 0 → IsHeld l w s [] → SectionLeaves b
  bare_leaves b none held None may clear = bare_holds held
  bare_leaves b none held (Some c) may clear =
      let empty : c ≡ [] = nil_from_length c (omega (arith, none, may.1.no_longer)) in
      subst (λ x. Holds (sealed_prefix l.seal l.page_size x)) (sym empty) (bare_holds held)

  -- the blob is removed
  pub going_leaves : (from b : Blob) → SectionLeaves from → IsHeld l w s [] → IsGoing from b → SectionLeaves b
  going_leaves from b leaves held (inl same) = subst SectionLeaves (sym same) leaves
  going_leaves from b leaves held (inr (inl (inl under))) = subst SectionLeaves (sym under) (λ left. by left)
    where
      by : (left : Option (List ℕ)) → MayLeave (record from { unsure = from.there || from.unsure }) left
          → pages.NoChanceSeal l.seal l.page_size (past from) (unwrap_or left []) → Holds (sealed_in l left)
      by None may clear = bare_holds held
      by (Some c) may clear = leaves (Some c) (again from.there from.unsure may.0, record { no_shorter = may.1.no_shorter; no_longer = may.1.no_longer; kept = may.1.kept; bytes = may.1.bytes }) clear
  going_leaves from b leaves held (inr (inl (inr under))) = subst SectionLeaves (sym under) (λ left. by left)
    where
      by : (left : Option (List ℕ)) → MayLeave (record from { unsure = from.there || from.unsure; there = false }) left
          → pages.NoChanceSeal l.seal l.page_size (past from) (unwrap_or left []) → Holds (sealed_in l left)
      by None may clear = bare_holds held
      by (Some c) may clear = leaves (Some c) (may.0, record { no_shorter = may.1.no_shorter; no_longer = may.1.no_longer; kept = may.1.kept; bytes = may.1.bytes }) clear
  going_leaves from b leaves held (inr (inr gone)) = subst SectionLeaves (sym gone) (λ left. by left)
    where
      by : (left : Option (List ℕ)) → MayLeave nothing left → pages.NoChanceSeal l.seal l.page_size (past nothing) (unwrap_or left []) → Holds (sealed_in l left)
      by None may clear = bare_holds held
      by (Some c) may clear = absurd (cc may.0)

-- what each section leaves, together
pub together : (l : Layout) (w : Wanted) (d : Disk) → ((name c : List ℕ) → MayLeave (d (l.partition, name)) (Some c) → length name ≡ 8)
    → ((s : ℕ) → s < 2 ^ 64 → SectionLeaves l w s (d (section_key l.partition s))) → Leaves l w d
together l w d names each image crash clear =
    let holds : (s : ℕ) → s < 2 ^ 64 → Holds l w s (sealed_in l (image (section_key l.partition s))) = λ s small. each s small _ (crash (section_key l.partition s)) (clear s small) in
    record {
      lawful = record {
        names = λ name c is. names name c (subst (MayLeave (d (l.partition, name))) is (crash (l.partition, name)));
        sections = λ s small. (holds s small).lawful;
      };
      each = λ s small. (holds s small).held;
    }

-- What is kept is so of a list that goes on.
module _ (l : Layout) (w v : Wanted) (more : (s : ℕ) → (xs : List (Entry (List ℕ))) × (v.lists s ≡ w.lists s ++ xs))
    (synced : (s : ℕ) → v.synced s ≡ w.synced s) (going : (s : ℕ) → w.Going s → v.Going s) where
  longer_prefix : (s : ℕ) (found : List (Entry (List ℕ))) → IsPrefix (w.lists s) (w.synced s) found → IsPrefix (v.lists s) (v.synced s) found
  longer_prefix s found prefix =
      let within : length found ≤ length (w.lists s) = omega (arith, ap length prefix.same, length-take (length found) (w.lists s)) in
      record {
        same = prefix.same ∙ sym (take-append-le (length found) (w.lists s) (more s).0 within) ∙ ap (take (length found)) (sym (more s).1);
        synced = omega (arith, synced s, prefix.synced);
      }

  pub more_leaves : (d : Disk) → Leaves l w d → Leaves l v d
  more_leaves d leaves image crash clear = record {
    lawful = (leaves image crash clear).lawful;
    each = λ s small. ⊎_elim (λ prefix. inl (longer_prefix s _ prefix)) (λ gone. inr (gone.0, going s gone.1)) ((leaves image crash clear).each s small);
  }

greatest_none : (n : ℕ) (cs : List (List ℕ)) → greatest n (cs ++ [] ∷ []) ≡ greatest n cs
greatest_none n [] = omega arith
greatest_none n (c ∷ cs) = ap (max (length c)) (greatest_none n cs)

-- a blob without bytes that is made stays without them
pub opening_bare : (from b : Blob) → from.there ≡ false → longest from ≡ 0 → IsOpening from b → longest b ≡ 0
opening_bare from b absent none (inl same) = ap longest same ∙ none
opening_bare from b absent none (inr (inl (inl under))) =
    ap longest under ∙ ap (λ (t : Bool). longest (cond t from (record from { content = []; unsure = true; since = from.since ++ [] ∷ [] }))) absent ∙ greatest_none (length from.settled) from.since ∙ none
opening_bare from b absent none (inr (inl (inr under))) =
    ap longest under ∙ ap (λ (t : Bool). longest (cond t from (record from { content = []; unsure = true; since = from.since ++ [] ∷ [] }))) absent ∙ greatest_none (length from.settled) from.since ∙ none
opening_bare from b absent none (inr (inr made)) = ap longest made ∙ ap (λ (t : Bool). length (cond t from.content [])) absent
