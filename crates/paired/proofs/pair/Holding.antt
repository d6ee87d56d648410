-- What blobs that stand for a pair's lists stand for beside: longer lists, and those of another moment.
use Rattle.std.proofs.Common.{◌≡◌, ◌⊎◌, inl, inr, ℕ, ◌^◌, ◌<◌, ◌≤◌, List, [], length, map, take, Option, None, Some, IsSomeAnd, unwrap_or, sym, ◌∙◌, ap, subst, arith, length-take}
use Rattle.std.specs.List.{AllByRecursion}
use Rattle.std.proofs.lemmas.List.{take-take, take-map, take_min, length-map}
use Rattle.blob_device.specs.Disk.{Blob, Disk, past, MayLeave}
use Rattle.sealed_pages.specs.ChanceSeal as pages
use Rattle.sealed_pages.specs.SealedPrefix.{sealed_prefix, Prefix}
use Rattle.section_manager.specs.Sections.{section_key}
use Rattle.meta_store.specs.declared.error.Side.{Side}
use Rattle.meta_store.specs.declared.error.Side.TheVariants.{Left, Right}
use Rattle.meta_store.specs.Blobs.{blob_of, bytes_of}
use Rattle.meta_store.specs.Crashes as metadata
use Rattle.section_manager.specs.Prefixes.{IsPrefixOf}
use Rattle.paired.specs.Records.{Entry}
use Rattle.paired.specs.Kept.{Layout, Markers, IsMarked, marker_of, stored_records, kept}
use Rattle.paired.specs.Crashes.{IsPrefix, Keeps, Leaves}
use Rattle.paired.specs.Holding.{Facts, IsLasting, IndexStands, ValuesStand, SectionStands, AreTrue, Holding}
use Rattle.paired.specs.lemmas.Kept.{settled_length}
use Rattle.blob_device.proofs.general.Lists.{all_by}
use Rattle.paired.specs.lemmas.pair.Holding.{IsMore, first, stands}

-- a prefix of a prefix is a prefix
pub prefix_of_prefix : {X : Type 0} (a b c : List X) → take (length a) b ≡ a → take (length b) c ≡ b → take (length a) c ≡ a
prefix_of_prefix a b c first second =
    let short : length a ≤ length b = omega (arith, length-take (length a) b, ap length first) in
    sym (take-take (length a) (length b) c short) ∙ ap (take (length a)) second ∙ first

-- the first n are a prefix, which is as long as that
take_own : {X : Type 0} (n : ℕ) (xs : List X) → take (length (take n xs)) xs ≡ take n xs
take_own {X = X} n xs = ap (λ (k : ℕ). take k xs) (length-take n xs) ∙ take_min n xs

-- a prefix of the bytes is one of more bytes, and is no shorter than less
pub prefix_more : (seal : List ℕ → ℕ) (P : ℕ) (bytes more : List ℕ) (least few : ℕ) (c : List ℕ) → IsPrefixOf bytes more → few ≤ least → Prefix seal P bytes least c → Prefix seal P more few c
prefix_more seal P bytes more least few c is_prefix le prefix =
    let left : ℕ = length (sealed_prefix seal P c) in
    record {
      is = prefix.is ∙ ap (take left) (sym is_prefix) ∙ take-take left (length bytes) more prefix.no_longer;
      no_shorter = omega (arith, le, prefix.no_shorter);
      no_longer = omega (arith, prefix.no_longer, settled_length bytes more is_prefix);
    }

pub leaves_more : (seal : List ℕ → ℕ) (P : ℕ) (bytes more : List ℕ) (least few : ℕ) (b : Blob) → IsPrefixOf bytes more → few ≤ least → pages.Leaves seal P bytes least b → pages.Leaves seal P more few b
leaves_more seal P bytes more least few b is_prefix le leaves left may = go left (leaves left may)
  where
    go : (o : Option (List ℕ)) → IsSomeAnd o (λ c. pages.NoChanceSeal seal P (past b) c → Prefix seal P bytes least c) → IsSomeAnd o (λ c. pages.NoChanceSeal seal P (past b) c → Prefix seal P more few c)
    go None has = has
    go (Some c) has = λ seals. prefix_more seal P bytes more least few c is_prefix le (has seals)

-- prefixes of values are prefixes of more values
pub prefixes_more : (values more : List ℕ) (contents : List (List ℕ)) → IsPrefixOf values more → AllByRecursion (λ c. IsPrefixOf c values) contents → AllByRecursion (λ c. IsPrefixOf c more) contents
prefixes_more values more contents is_prefix all = all_by (λ c. IsPrefixOf c values) (λ c. IsPrefixOf c more) (λ c is. prefix_of_prefix c values more is is_prefix) contents all

-- Fewer of them at the start of a content, and of more values.
pub kept_more : (values more : List ℕ) (settled few : ℕ) (c : List ℕ) → IsPrefixOf values more → few ≤ settled → few ≤ length values → IsPrefixOf (take settled values) c → IsPrefixOf (take few more) c
kept_more values more settled few c is_prefix le within kept =
    let same : take few more ≡ take few (take settled values) = sym (take-take few (length values) more within) ∙ ap (take few) is_prefix ∙ sym (take-take few settled values le) in
    subst (λ (x : List ℕ). IsPrefixOf x c) (sym same) (prefix_of_prefix (take few (take settled values)) (take settled values) c (take_own few (take settled values)) kept)

module _ (l : Layout) (f g : Facts) where
  -- the index blob of a section that has more records, or of which fewer have settled or were synced
  pub lasting_more : (b : Blob) → IsPrefixOf f.index g.index → g.index_settled ≤ f.index_settled → IsLasting l f b → IsLasting l g b
  lasting_more b is_prefix settled lasting = leaves_more l.seal l.page_size f.index g.index f.index_settled g.index_settled b is_prefix settled lasting

  pub index_more : (Gone May : Type 0) (b : Blob) → (Gone → May) → IsPrefixOf f.index g.index → g.index_settled ≤ f.index_settled → g.synced ≤ f.synced → IndexStands l Gone f b → IndexStands l May g b
  index_more Gone May b may is_prefix settled synced (inl lasting) = inl (lasting_more b is_prefix settled lasting)
  index_more Gone May b may is_prefix settled synced (inr (inl fading)) =
      inr (inl (may fading.0, λ c left seals. prefix_more l.seal l.page_size f.index g.index f.index_settled g.index_settled c is_prefix settled (fading.1 c left seals)))
  index_more Gone May b may is_prefix settled synced (inr (inr bare)) = inr (inr (bare.0, omega (arith, synced, bare.1)))

  -- the value blob of a section that has more values, or of which fewer have settled
  pub values_more : (b : Blob) → IsPrefixOf f.values g.values → g.values_settled ≤ f.values_settled → g.values_settled ≤ length f.values → ValuesStand l f b → ValuesStand l g b
  values_more b is_prefix settled within stand = record {
    kept = λ left may. kept_more f.values g.values f.values_settled g.values_settled (unwrap_or left []) is_prefix settled within (stand.kept left may);
    prefixes = λ left may. prefixes_more f.values g.values (past b) is_prefix (stand.prefixes left may);
  }

  -- both
  pub section_more : (Gone May : Type 0) (index_blob value_blob : Blob) → (Gone → May) → IsMore f g → SectionStands l Gone f index_blob value_blob → SectionStands l May g index_blob value_blob
  section_more Gone May index_blob value_blob may more stands = record {
    index = index_more Gone May index_blob may more.index more.index_settled (omega (arith, more.synced)) stands.index;
    values = elim stands.values [
      | inl values ↦ inl (values_more value_blob more.values more.values_settled more.within values)
      | inr none ↦ inr none
    ];
  }

module _ (l : Layout) where
  pub marked_more : (facts more : ℕ → Facts) (d : Disk) (markers : Markers) → ((s : ℕ) → IsMore (facts s) (more s)) → AreTrue l facts d markers → AreTrue l more d markers
  marked_more facts more d markers is marked = record {
    sections = λ s m has.
        let old = marked.sections s m has in
        (lasting_more l (facts s) (more s) (d (section_key l.index s)) (is s).index (is s).index_settled old.0, omega (arith, old.1, (is s).synced));
    floor = marked.floor;
  }

  -- the blobs stand for longer lists as they stand for these
  pub holding_more : (facts more : ℕ → Facts) (Gone May : ℕ → Type 0) (one other : Markers) (d : Disk) → ((s : ℕ) → Gone s → May s) → ((s : ℕ) → IsMore (facts s) (more s))
      → Holding l facts Gone one other d → Holding l more May one other d
  holding_more facts more Gone May one other d may is holding = record {
    sections = λ s lt. section_more l (facts s) (more s) (Gone s) (May s) (d (section_key l.index s)) (d (section_key l.values s)) (may s) (is s) (holding.sections s lt);
    marked = holding.marked;
    copies = holding.copies;
    one_marked = marked_more facts more d one is holding.one_marked;
    other_marked = marked_more facts more d other is holding.other_marked;
  }

  -- both blobs of the section are as on the disk `from`
  pub record SameBlobs (from d : Disk) (s : ℕ) : Type 0 where
    pub index : d (section_key l.index s) ≡ from (section_key l.index s)
    pub values : d (section_key l.values s) ≡ from (section_key l.values s)

  -- how the section's blobs stand now; and its index blob lasts where the section is marked
  pub record StandsNow (facts : ℕ → Facts) (Gone : ℕ → Type 0) (one other : Markers) (d : Disk) (s : ℕ) : Type 0 where
    pub stands : SectionStands l (Gone s) (facts s) (d (section_key l.index s)) (d (section_key l.values s))
    pub lasts : (m : ℕ) → IsMarked one.entries s m ⊎ IsMarked other.entries s m → IsLasting l (facts s) (d (section_key l.index s))

  module _ (facts : ℕ → Facts) (Gone : ℕ → Type 0) (one other : Markers) (from d : Disk) where
    -- Of each section the blobs are as they were, or stand now; the copies are as they were.
    pub holding_on : ((s : ℕ) → s < 2 ^ 64 → SameBlobs from d s ⊎ StandsNow facts Gone one other d s) → ((side : Side) → d (blob_of l.metadata side) ≡ from (blob_of l.metadata side))
        → Holding l facts Gone one other from → Holding l facts Gone one other d
    holding_on each same holding = record {
      sections = λ s lt. stands s lt (each s lt);
      marked = holding.marked;
      copies = copies;
      one_marked = record {
        sections = λ s m is. (let old = holding.one_marked.sections s m is in (lasts s m is.0 (inl is) old.0 (each s is.0), old.1));
        floor = holding.one_marked.floor;
      };
      other_marked = record {
        sections = λ s m is. (let old = holding.other_marked.sections s m is in (lasts s m is.0 (inr is) old.0 (each s is.0), old.1));
        floor = holding.other_marked.floor;
      };
    }
      where
        stands : (s : ℕ) → s < 2 ^ 64 → SameBlobs from d s ⊎ StandsNow facts Gone one other d s → SectionStands l (Gone s) (facts s) (d (section_key l.index s)) (d (section_key l.values s))
        stands s lt (inl same) = subst (λ (x : Blob). SectionStands l (Gone s) (facts s) x (d (section_key l.values s))) (sym same.index)
            (subst (SectionStands l (Gone s) (facts s) (from (section_key l.index s))) (sym same.values) (holding.sections s lt))
        stands s lt (inr now) = now.stands

        lasts : (s m : ℕ) → s < 2 ^ 64 → IsMarked one.entries s m ⊎ IsMarked other.entries s m → IsLasting l (facts s) (from (section_key l.index s)) → SameBlobs from d s ⊎ StandsNow facts Gone one other d s
            → IsLasting l (facts s) (d (section_key l.index s))
        lasts s m lt is old (inl same) = subst (IsLasting l (facts s)) (sym same.index) old
        lasts s m lt is old (inr now) = now.lasts m is

        copies : metadata.Keeps l.markers l.metadata one other d
        copies = record {
          crash = λ left right may_left may_right no_left no_right. holding.copies.crash left right
              (subst (λ (b : Blob). MayLeave b left) (same Left) may_left) (subst (λ (b : Blob). MayLeave b right) (same Right) may_right)
              (subst (λ (b : Blob). metadata.NoChanceSeal l.markers.seal (past b) (bytes_of left)) (same Left) no_left)
              (subst (λ (b : Blob). metadata.NoChanceSeal l.markers.seal (past b) (bytes_of right)) (same Right) no_right);
        }

  -- The sections' blobs are as they were, and so the markers are true.
  marked_on : (facts : ℕ → Facts) (markers : Markers) (from d : Disk) → ((s : ℕ) → s < 2 ^ 64 → SameBlobs from d s) → AreTrue l facts from markers → AreTrue l facts d markers
  marked_on facts markers from d same marked = record {
    sections = λ s m is. (subst (IsLasting l (facts s)) (sym (same s is.0).index) (marked.sections s m is).0, (marked.sections s m is).1);
    floor = marked.floor;
  }

  -- The sections' blobs are as they were, and the copies hold the one value of true markers or the other.
  pub holding_marked : (facts : ℕ → Facts) (Gone : ℕ → Type 0) (one other first second : Markers) (from d : Disk) → ((s : ℕ) → s < 2 ^ 64 → SameBlobs from d s)
      → metadata.Keeps l.markers l.metadata first second d → AreTrue l facts from first → AreTrue l facts from second → Holding l facts Gone one other from → Holding l facts Gone first second d
  holding_marked facts Gone one other first second from d same copies first_marked second_marked holding = record {
    sections = λ s lt. subst (λ (x : Blob). SectionStands l (Gone s) (facts s) x (d (section_key l.values s))) (sym (same s lt).index)
        (subst (SectionStands l (Gone s) (facts s) (from (section_key l.index s))) (sym (same s lt).values) (holding.sections s lt));
    marked = holding.marked;
    copies = copies;
    one_marked = marked_on facts first from d same first_marked;
    other_marked = marked_on facts second from d same second_marked;
  }

-- what is kept of a list is kept of a longer one, of which no more was synced
pub prefix_list : (list longer : List Entry) (least few : ℕ) (found : List Entry) → take (length list) longer ≡ list → few ≤ least → IsPrefix list least found → IsPrefix longer few found
prefix_list list longer least few found is_prefix le prefix =
    let own : take (length found) list ≡ found = sym prefix.same in
    record { same = sym (prefix_of_prefix found list longer own is_prefix); synced = omega (arith, le, prefix.synced) }

-- A pair that leaves these lists leaves longer ones, of which no more was synced.
pub leaves_list : (l : Layout) (wanted longer : ℕ → List Entry) (synced few : ℕ → ℕ) (Gone May : ℕ → Type 0) (d : Disk) → ((s : ℕ) → take (length (wanted s)) (longer s) ≡ wanted s) → ((s : ℕ) → few s ≤ synced s) → ((s : ℕ) → Gone s → May s)
    → Leaves l wanted synced Gone d → Leaves l longer few May d
leaves_list l wanted longer synced few Gone May d is_prefix le may leaves image crash seals =
    let keeps : Keeps l wanted synced Gone image = leaves image crash seals in
    record {
      markers = keeps.markers;
      held = keeps.held;
      floor = keeps.floor;
      true_markers = keeps.true_markers;
      lists = λ s lt. elim (keeps.lists s lt) [
        | inl prefix ↦ inl (prefix_list (wanted s) (longer s) (synced s) (few s) (kept l image (marker_of keeps.markers.entries s) s) (is_prefix s) (le s) prefix)
        | inr none ↦ inr (none.0, may s none.1)
      ];
      stored = λ s lt. sym (prefix_of_prefix (stored_records l image s) (map (λ e. e.stored) (wanted s)) (map (λ e. e.stored) (longer s)) (sym (keeps.stored s lt)) (stored_prefix s));
    }
  where
    stored_prefix : (s : ℕ) → take (length (map (λ e. e.stored) (wanted s))) (map (λ e. e.stored) (longer s)) ≡ map (λ e. e.stored) (wanted s)
    stored_prefix s =
        let stored : Entry → List ℕ = λ e. e.stored in
        ap (λ (k : ℕ). take k (map stored (longer s))) (length-map (wanted s) stored) ∙ take-map stored (length (wanted s)) (longer s) ∙ ap (map stored) (is_prefix s)
