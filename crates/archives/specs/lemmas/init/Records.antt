-- Which markers an image holds, and whether they have a next version.
use Rattle.std.proofs.Common.{◌≡◌, inl, inr, sym, ◌∙◌, ap, subst, ℕ, ◌+◌, ◌≤◌, ◌^◌, List, IsTrue, Ok, arith}
use Rattle.std.proofs.lemmas.Bool.{cases_Bool}
use Rattle.blob_device.specs.Disk.{Blob, Disk, Image, reads}
use Rattle.value_codec.specs.declared.key.Key8.{Key8}
use Rattle.meta_store.specs.declared.copy.CopyText.{CopyText}
use Rattle.meta_store.specs.declared.error.Side.TheVariants.{Left, Right}
use Rattle.meta_store.specs.declared.pair.Chosen.{Chosen}
use Rattle.meta_store.specs.Blobs.{blob_of, bytes_of}
use Rattle.meta_store.specs.Copies.{ReadsAs}
use Rattle.meta_store.specs.Format.{Format}
use Rattle.meta_store.specs.Opening.{PairOn}
use Rattle.meta_store.specs.Pairs.{ReadsPair, chosen_of}
use Rattle.meta_store.specs.Store.{Stands, Store, chosen_by, contents_of}
use Rattle.meta_store.specs.lemmas.Uses.{IsReadable, one_map, one_reading}
use Rattle.paired.specs.lemmas.opening.Start.{read_alike}
use Rattle.paired.specs.Kept.{Layout, Markers}
use Rattle.paired.specs.Crashes.{HoldMarkers}
use Rattle.paired.specs.Opening.{as_read, OnlyOpens}
use Rattle.paired.specs.Pair.{AreApart}
use Rattle.archives.specs.Opening.{HasNoVersion}

module _ {K V : Type 0} (f : Format K V) (readable : IsReadable f) where
  -- two contents have one outcome
  pub one_chosen : (left right : List ℕ) (c e : Chosen K V) → ReadsPair f left right (Ok c) → ReadsPair f left right (Ok e) → c ≡ e
  one_chosen left right c e of_c of_e =
      let l = one_reading f readable left of_c.left_text of_e.left_text of_c.left_reads of_e.left_reads in
      let r = one_reading f readable right of_c.right_text of_e.right_text of_c.right_reads of_e.right_reads in
      let same = sym of_c.is ∙ ap (λ (t : CopyText K V). chosen_of t of_c.right_text) l ∙ ap (λ (t : CopyText K V). chosen_of of_e.left_text t) r ∙ of_e.is in
      cc same

module _ (l : Layout) (readable : IsReadable l.markers) where
  -- an image holds one map of markers
  pub one_markers : (image : Image) (m n : Markers) → HoldMarkers l image m → HoldMarkers l image n → m ≡ n
  one_markers image m n of_m of_n = elim (cases_Bool l.marked) [
    | inl is ↦ one_map l.markers readable (bytes_of (image (blob_of l.metadata Left))) (bytes_of (image (blob_of l.metadata Right))) m n (of_m.copies is) (of_n.copies is)
    | inr not ↦ of_m.none not ∙ sym (of_n.none not)
  ]

  module _ (apart : AreApart l) (from d : Disk) (opens : OnlyOpens l from d) (u : Store Key8 ℕ) (here : u.partition ≡ l.metadata) (stands : Stands l.markers u (contents_of u) d) where
    stood : ReadsPair l.markers (bytes_of (as_read d (blob_of l.metadata Left))) (bytes_of (as_read d (blob_of l.metadata Right))) (Ok (chosen_by u (contents_of u)))
    stood = subst (λ p. ReadsPair l.markers (bytes_of (as_read d (blob_of p Left))) (bytes_of (as_read d (blob_of p Right))) (Ok (chosen_by u (contents_of u)))) here (record {
      left_text = stands.pair.left_text;
      right_text = stands.pair.right_text;
      left_reads = subst (λ (c : List ℕ). ReadsAs l.markers c stands.pair.left_text) (sym (ap (λ (b : Blob). bytes_of (reads b)) stands.left)) stands.pair.left_reads;
      right_reads = subst (λ (c : List ℕ). ReadsAs l.markers c stands.pair.right_text) (sym (ap (λ (b : Blob). bytes_of (reads b)) stands.right)) stands.pair.right_reads;
      is = stands.pair.is;
    })

    -- what the copies held before they were opened is what the store has
    pub chosen_before : (chosen : Chosen Key8 ℕ) → PairOn l.markers l.metadata from (Ok chosen) → chosen ≡ chosen_by u (contents_of u)
    chosen_before chosen pair =
        let alike = read_alike l apart from d opens in
        one_chosen l.markers readable (bytes_of (as_read d (blob_of l.metadata Left))) (bytes_of (as_read d (blob_of l.metadata Right))) chosen (chosen_by u (contents_of u))
        (record {
          left_text = pair.left_text;
          right_text = pair.right_text;
          left_reads = alike.copies Left pair.left_text pair.left_reads;
          right_reads = alike.copies Right pair.right_text pair.right_reads;
          is = pair.is;
        })
        stood

    pub has_no_version : IsTrue l.marked → HoldMarkers l (as_read from) (contents_of u) → 2 ^ 64 ≤ u.version + 1 → HasNoVersion l from
    has_no_version is held over =
        let copies = held.copies is in
        (copies.chosen, copies.reads, omega (arith, over, ap (λ (c : Chosen Key8 ℕ). c.version) (chosen_before copies.chosen copies.reads)))

    pub no_version_left : HasNoVersion l from → 2 ^ 64 ≤ u.version + 1
    no_version_left (chosen, pair, over) = omega (arith, over, ap (λ (c : Chosen Key8 ℕ). c.version) (chosen_before chosen pair))
