-- What is read of the two blobs while a map is opened, and what the map is then.
use Rattle.std.proofs.Common.{◌≡◌, ℕ, ◌==◌, nat_lt, if◌then◌else◌, Bool, true, false, List, [], Result, Ok, Err, refl, sym, ◌∙◌, ap, subst}
use Rattle.std.specs.Map.{keys_of}
use Rattle.std.specs.List.Sorted.{IsStrictlySortedBy}
use Rattle.blob_device.specs.Disk.{Blob, Disk, settled_at}
use Rattle.blob_device.specs.Timeline.{Timeline, disk, Always}
use Rattle.blob_device.specs.lemmas.Moments.{always_now, always_then, always_weaker}
use Rattle.meta_store.specs.declared.copy.Contents.{Contents}
use Rattle.meta_store.specs.declared.copy.CopyText.{CopyText}
use Rattle.meta_store.specs.declared.copy.CopyText.TheVariants.{Absent, Refused, Whole}
use Rattle.meta_store.specs.declared.error.Side.{Side}
use Rattle.meta_store.specs.declared.error.Side.TheVariants.{Left, Right}
use Rattle.meta_store.specs.declared.pair.Chosen.{Chosen}
use Rattle.meta_store.specs.Format.{Format}
use Rattle.meta_store.specs.Copies.{ReadsAs, IsMap}
use Rattle.meta_store.specs.Pairs.{chosen_of, newer_of}
use Rattle.meta_store.specs.Blobs.{blob_of, read_bytes}
use Rattle.meta_store.specs.Opening.{PairOn}
use Rattle.meta_store.specs.Store.{Store, Stands, MayBeSynced, chosen_by, contents_of}

-- calls that change nothing go on as it was
pub then_unchanged : (a b c : Timeline) (P : Disk → Type 0) → Always a b P → Always b c (λ d. d ≡ disk b) → Always a c P
then_unchanged a b c P first same = always_then a b c P first (always_weaker b c (λ d. d ≡ disk b) P (λ d is. subst P (sym is) (always_now a b P first)) same)

pub unchanged_then : (a b c : Timeline) → Always a b (λ d. d ≡ disk a) → Always b c (λ d. d ≡ disk b) → Always a c (λ d. d ≡ disk a)
unchanged_then a b c first second = then_unchanged a b c (λ d. d ≡ disk a) first second

pub unchanged_now : (a b : Timeline) → Always a b (λ d. d ≡ disk a) → disk b ≡ disk a
unchanged_now a b same = always_now a b (λ d. d ≡ disk a) same

entries_of : {K V : Type 0} {x y : Chosen K V} → ◌≡◌ {A = Result (Chosen K V) Side} (Ok x) (Ok y) → x.contents.entries ≡ y.contents.entries
entries_of {K = K} {V = V} {x = x} {y = y} is = let e : x ≡ y = cc is in ap (λ (c : Chosen K V). c.contents.entries) e

pub one_chosen : {K V : Type 0} {x y : Chosen K V} → ◌≡◌ {A = Result (Chosen K V) Side} (Ok x) (Ok y) → x ≡ y
one_chosen is = cc is

module _ {K V : Type 0} (f : Format K V) where
  newer_has : (P : List (K × V) → Type 0) (v w : ℕ) (xs ys : Contents K V) (chosen : Chosen K V) → P xs.entries → P ys.entries → newer_of v xs w ys ≡ Ok chosen → P chosen.contents.entries
  newer_has P v w xs ys chosen of_xs of_ys is = by_tests (v == w) (nat_lt v w) is
    where
      by_tests : (e l : Bool) → ◌≡◌ {A = Result (Chosen K V) Side} (if e then Err Right else if l then Ok (record { version = w; older = Left; contents = ys }) else Ok (record { version = v; older = Right; contents = xs })) (Ok chosen) → P chosen.contents.entries
      by_tests true l is = absurd (cc is)
      by_tests false true is = subst P (entries_of is) of_ys
      by_tests false false is = subst P (entries_of is) of_xs

  -- what is chosen of two texts is a map
  pub chosen_has : (P : List (K × V) → Type 0) (left right : List ℕ) (a b : CopyText K V) (chosen : Chosen K V) → P [] → ((es : List (K × V)) → IsMap f es → P es) → ReadsAs f left a → ReadsAs f right b → chosen_of a b ≡ Ok chosen → P chosen.contents.entries
  chosen_has P left right (Refused v) b chosen none each is_a is_b is = absurd (cc is)
  chosen_has P left right Absent (Refused w) chosen none each is_a is_b is = absurd (cc is)
  chosen_has P left right (Whole v fl xs) (Refused w) chosen none each is_a is_b is = absurd (cc is)
  chosen_has P left right Absent Absent chosen none each is_a is_b is = subst P (entries_of is) none
  chosen_has P left right (Whole v fl xs) Absent chosen none each is_a is_b is = subst P (entries_of is) (each xs is_a.map)
  chosen_has P left right Absent (Whole w fl ys) chosen none each is_a is_b is = subst P (entries_of is) (each ys is_b.map)
  chosen_has P left right (Whole v fl xs) (Whole w gl ys) chosen none each is_a is_b is = newer_has P v w (record { floor = fl; entries = xs }) (record { floor = gl; entries = ys }) chosen (each xs is_a.map) (each ys is_b.map) is

  pub chosen_ascends : (left right : List ℕ) (a b : CopyText K V) (chosen : Chosen K V) → ReadsAs f left a → ReadsAs f right b → chosen_of a b ≡ Ok chosen → IsStrictlySortedBy f.compare (keys_of chosen.contents.entries)
  unfolding IsStrictlySortedBy
  chosen_ascends left right a b chosen is_a is_b is = chosen_has (λ es. IsStrictlySortedBy f.compare (keys_of es)) left right a b chosen tt (λ es map. map.ascending) is_a is_b is

  pub chosen_storable : (left right : List ℕ) (a b : CopyText K V) (chosen : Chosen K V) → ReadsAs f left a → ReadsAs f right b → chosen_of a b ≡ Ok chosen → MayBeSynced f chosen.contents.entries
  chosen_storable left right a b chosen is_a is_b is = chosen_has (MayBeSynced f) left right a b chosen tt (λ es map. map.storable) is_a is_b is

  -- the map that was opened stands
  pub opened_stands : (u : Store K V) (p : List ℕ) (from d : Disk) → u.partition ≡ p → d (blob_of p Left) ≡ settled_at (read_bytes (from (blob_of p Left))) → d (blob_of p Right) ≡ settled_at (read_bytes (from (blob_of p Right)))
      → PairOn f p from (Ok (chosen_by u (contents_of u))) → Stands f u (contents_of u) d
  opened_stands u p from d same left right pair = record {
    left = subst (λ (q : List ℕ). d (blob_of q Left) ≡ settled_at (d (blob_of q Left)).content) (sym same) (left ∙ ap settled_at (sym (ap (λ (b : Blob). b.content) left)));
    right = subst (λ (q : List ℕ). d (blob_of q Right) ≡ settled_at (d (blob_of q Right)).content) (sym same) (right ∙ ap settled_at (sym (ap (λ (b : Blob). b.content) right)));
    pair = record {
      left_text = pair.left_text;
      right_text = pair.right_text;
      left_reads = subst (λ (c : List ℕ). ReadsAs f c pair.left_text) (sym (ap (λ (q : List ℕ). (d (blob_of q Left)).content) same ∙ ap (λ (b : Blob). b.content) left)) pair.left_reads;
      right_reads = subst (λ (c : List ℕ). ReadsAs f c pair.right_text) (sym (ap (λ (q : List ℕ). (d (blob_of q Right)).content) same ∙ ap (λ (b : Blob). b.content) right)) pair.right_reads;
      is = pair.is;
    };
    fresh = λ e. refl;
  }

  -- the texts that were read are those of the blobs
  pub pair_on : (p : List ℕ) (from : Disk) (left right : List ℕ) (a b : CopyText K V) (outcome : Result (Chosen K V) Side) → left ≡ read_bytes (from (blob_of p Left)) → right ≡ read_bytes (from (blob_of p Right))
      → ReadsAs f left a → ReadsAs f right b → chosen_of a b ≡ outcome → PairOn f p from outcome
  pair_on p from left right a b outcome of_left of_right is_a is_b is = record {
    left_text = a;
    right_text = b;
    left_reads = subst (λ (c : List ℕ). ReadsAs f c a) of_left is_a;
    right_reads = subst (λ (c : List ℕ). ReadsAs f c b) of_right is_b;
    is = is;
  }

  -- and there is one outcome
  pub one_outcome : (p : List ℕ) (from : Disk) (left right : List ℕ) (a b : CopyText K V) (outcome : Result (Chosen K V) Side) → left ≡ read_bytes (from (blob_of p Left)) → right ≡ read_bytes (from (blob_of p Right))
      → ((t : CopyText K V) → ReadsAs f left t → a ≡ t) → ((t : CopyText K V) → ReadsAs f right t → b ≡ t) → PairOn f p from outcome → chosen_of a b ≡ outcome
  one_outcome p from left right a b outcome of_left of_right only_a only_b pair =
      let is_a = only_a pair.left_text (subst (λ (c : List ℕ). ReadsAs f c pair.left_text) (sym of_left) pair.left_reads) in
      let is_b = only_b pair.right_text (subst (λ (c : List ℕ). ReadsAs f c pair.right_text) (sym of_right) pair.right_reads) in
      ap (λ (t : CopyText K V). chosen_of t b) is_a ∙ ap (λ (t : CopyText K V). chosen_of pair.left_text t) is_b ∙ pair.is
