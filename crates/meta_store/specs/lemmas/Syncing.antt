-- A map that stands outlives every crash, also while its next copy is written and settled.
use Rattle.std.proofs.Common.{◌≡◌, ◌⊎◌, inl, inr, ℕ, ◌+◌, ◌-◌, ◌<◌, ◌^◌, Bool, true, false, not, ◌||◌, List, ◌++◌, length, take, drop, replicate, Result, Ok, Option, Some, None, refl, sym, ◌∙◌, ap, subst, arith}
use Rattle.std.proofs.lemmas.List.{take_at}
use Rattle.blob_device.specs.declared.error.DevError.{DevError}
use Rattle.blob_device.specs.Disk.{Blob, Disk, MayLeave, past, settled_at}
use Rattle.blob_device.specs.Change.{Write, Settle, written}
use Rattle.blob_device.specs.Timeline.{Timeline, disk, Passes, Always, OnlyAt}
use Rattle.blob_device.specs.Guards.{Sealed}
use Rattle.blob_device.specs.lemmas.Guards.{guards_settled, sealed_on, sealed_start}
use Rattle.meta_store.specs.lemmas.Choices.{Newer, chosen_on, newer_text, older_absent, older_next, whole_of}
use Rattle.meta_store.specs.lemmas.Forms.{form_fits}
use Rattle.meta_store.specs.lemmas.Leaving.{ChooseEither, LeavesText, keeps_of, settled_leaves}
use Rattle.meta_store.specs.lemmas.Sealing.{reads_as_past}
use Rattle.meta_store.specs.lemmas.Sides.{StandsOn, neither, sides_apart, stands_on}
use Rattle.meta_store.specs.lemmas.Texts.{length-copy}
use Rattle.blob_device.specs.lemmas.Moments.{always_now, always_start, always_weaker, ok_blob}
use Rattle.meta_store.specs.declared.copy.Contents.{Contents}
use Rattle.meta_store.specs.declared.copy.CopyText.{CopyText}
use Rattle.meta_store.specs.declared.copy.CopyText.TheVariants.{Absent}
use Rattle.meta_store.specs.declared.error.Side.{Side}
use Rattle.meta_store.specs.declared.error.Side.TheVariants.{Left, Right}
use Rattle.meta_store.specs.Format.{Format}
use Rattle.meta_store.specs.Copies.{ReadsAs, IsMap, copy_of, body_bytes, copy_length, form_of}
use Rattle.meta_store.specs.Blobs.{blob_of, bytes_of, other_side}
use Rattle.meta_store.specs.Crashes.{NoChanceSeal, Keeps, KeepsAlone}
use Rattle.meta_store.specs.Store.{Store, Stands, contents_of}

module _ {K V : Type 0} (f : Format K V) where
  -- a map that stands outlives every crash
  pub stands_keeps : (u : Store K V) (synced other : Contents K V) (d : Disk) → Stands f u synced d → Keeps f u.partition synced other d
  stands_keeps u synced other d stands =
      let s = stands_on f u synced d stands in
      keeps_of f u.partition u.older synced other (λ x. x ≡ s.mine_text) (λ x. x ≡ s.theirs_text) d
      (subst (LeavesText f (λ x. x ≡ s.mine_text)) (sym s.mine_settled) (settled_leaves f s.mine s.mine_text (λ x. x ≡ s.mine_text) s.mine_reads refl))
      (subst (LeavesText f (λ x. x ≡ s.theirs_text)) (sym s.theirs_settled) (settled_leaves f s.theirs s.theirs_text (λ x. x ≡ s.theirs_text) s.theirs_reads refl))
      (λ a b is_a is_b. (_, ap (λ (x : CopyText K V). chosen_on u.older x b) is_a ∙ ap (λ (x : CopyText K V). chosen_on u.older s.mine_text x) is_b ∙ s.is, inl refl))

  pub stands_alone : (u : Store K V) (synced other : Contents K V) (t : Timeline) → Stands f u synced (disk t) → Always t t (KeepsAlone f u.partition synced other (disk t))
  stands_alone u synced other t stands = always_start t (KeepsAlone f u.partition synced other (disk t)) (record { keeps = stands_keeps u synced other (disk t) stands; others = λ q left right. refl })

  -- the other way round: how the two sides stand is how the map does
  pub stands_by : (u : Store K V) (synced : Contents K V) (d : Disk) (side : Side) → StandsOn f u.partition side u.version synced d → u.older ≡ side → (u.staged ≡ false → contents_of u ≡ synced) → Stands f u synced d
  stands_by u synced d Left s older fresh = record {
    left = s.mine_settled ∙ ap settled_at (sym (ap (λ (b : Blob). b.content) s.mine_settled));
    right = s.theirs_settled ∙ ap settled_at (sym (ap (λ (b : Blob). b.content) s.theirs_settled));
    pair = record {
      left_text = s.mine_text;
      right_text = s.theirs_text;
      left_reads = subst (λ (c : List ℕ). ReadsAs f c s.mine_text) (sym (ap (λ (b : Blob). b.content) s.mine_settled)) s.mine_reads;
      right_reads = subst (λ (c : List ℕ). ReadsAs f c s.theirs_text) (sym (ap (λ (b : Blob). b.content) s.theirs_settled)) s.theirs_reads;
      is = s.is ∙ ap (λ (x : Side). Ok (record { version = u.version; older = x; contents = synced })) (sym older);
    };
    fresh = fresh;
  }
  stands_by u synced d Right s older fresh = record {
    left = s.theirs_settled ∙ ap settled_at (sym (ap (λ (b : Blob). b.content) s.theirs_settled));
    right = s.mine_settled ∙ ap settled_at (sym (ap (λ (b : Blob). b.content) s.mine_settled));
    pair = record {
      left_text = s.theirs_text;
      right_text = s.mine_text;
      left_reads = subst (λ (c : List ℕ). ReadsAs f c s.theirs_text) (sym (ap (λ (b : Blob). b.content) s.theirs_settled)) s.theirs_reads;
      right_reads = subst (λ (c : List ℕ). ReadsAs f c s.mine_text) (sym (ap (λ (b : Blob). b.content) s.mine_settled)) s.mine_reads;
      is = s.is ∙ ap (λ (x : Side). Ok (record { version = u.version; older = x; contents = synced })) (sym older);
    };
    fresh = fresh;
  }

  -- written over any content it is read
  pub written_reads : (old : List ℕ) (version : ℕ) (held : Contents K V) → version < 2 ^ 64 → held.floor < 2 ^ 64 → length (copy_of f version held) < 2 ^ 64 → IsMap f held.entries
      → ReadsAs f (written old 0 (copy_of f version held)) (whole_of version held)
  written_reads old version held fits floor_fits short map = record {
    sealed = record {
      version_fits = fits;
      is_form = form_fits held.floor floor_fits;
      length_fits = omega (arith, short, length-copy f.seal version (form_of held.floor) (body_bytes f.key_bytes f.spelling held.entries));
      begins = ap (λ (n : ℕ). take (copy_length (form_of held.floor) (body_bytes f.key_bytes f.spelling held.entries)) (replicate n 0 ++ copy_of f version held ++ drop (0 + length (copy_of f version held)) old)) gap
          ∙ take_at (copy_of f version held) (drop (0 + length (copy_of f version held)) old) (copy_length (form_of held.floor) (body_bytes f.key_bytes f.spelling held.entries))
          (length-copy f.seal version (form_of held.floor) (body_bytes f.key_bytes f.spelling held.entries));
    };
    map = map;
  }
    where
      gap : 0 - length old ≡ 0
      gap = omega arith

  -- what a blob may read as while the next copy is written over its text
  abbrev pub Next : CopyText K V → ℕ → Contents K V → CopyText K V → Type 0
  Next text version held x = (x ≡ text) ⊎ ((x ≡ whole_of version held) ⊎ (x ≡ Absent))

  -- a content that reads so
  abbrev pub ReadsNext : CopyText K V → ℕ → Contents K V → List ℕ → Type 0
  ReadsNext text version held c = (t : CopyText K V) × ReadsAs f c t × Next text version held t

  -- all contents of the blob since it settled read so, and no crash loses it
  abbrev pub IsWriting : CopyText K V → ℕ → Contents K V → Blob → Type 0
  IsWriting text version held = Sealed (λ i. ⊥) (λ i. 0) (ReadsNext text version held)

  writing_leaves : ((l : List ℕ) → f.seal l < 2 ^ 32) → (text : CopyText K V) (version : ℕ) (held : Contents K V) (b : Blob) → IsWriting text version held b → LeavesText f (Next text version held) b
  writing_leaves fits text version held b s = record { crash = left }
    where
      left : (l : Option (List ℕ)) → MayLeave b l → NoChanceSeal f.seal (past b) (bytes_of l) → (t : CopyText K V) × ReadsAs f (bytes_of l) t × Next text version held t
      left None may none = let unsure : b.unsure ≡ true = sym (ap (λ (t : Bool). not t || b.unsure) s.guards.there) ∙ may in absurd (cc (unsure, s.guards.sure))
      left (Some c) may none = reads_as_past f fits (Next text version held) (past b) c may.1.bytes none s.all (inr (inr refl))

  module _ (p : List ℕ) (side : Side) (version : ℕ) (synced held : Contents K V) (a : Timeline) (s : StandsOn f p side version synced (disk a)) (fits : (l : List ℕ) → f.seal l < 2 ^ 32)
      (room : version + 1 < 2 ^ 64) (floor_fits : held.floor < 2 ^ 64) (short : length (copy_of f (version + 1) held) < 2 ^ 64) (map : IsMap f held.entries) where
    abbrev Writes : Blob → Type 0
    Writes = IsWriting s.mine_text (version + 1) held

    next_keeps : (d : Disk) → OnlyAt (blob_of p side) (disk a) Writes d → KeepsAlone f p synced held (disk a) d
    next_keeps d only = record {
      keeps = keeps_of f p side synced held (Next s.mine_text (version + 1) held) (λ x. x ≡ s.theirs_text) d
          (writing_leaves fits s.mine_text (version + 1) held (d (blob_of p side)) only.here)
          (subst (LeavesText f (λ x. x ≡ s.theirs_text)) (sym (only.others (blob_of p (other_side side)) (sides_apart p side) ∙ s.theirs_settled)) (settled_leaves f s.theirs s.theirs_text (λ x. x ≡ s.theirs_text) s.theirs_reads refl))
          either;
      others = λ q left right. only.others q (neither p q side left right);
    }
      where
        newer : Newer side version synced s.theirs_text
        newer = newer_text side s.mine_text s.theirs_text version synced s.is

        either : ChooseEither f side synced held (Next s.mine_text (version + 1) held) (λ x. x ≡ s.theirs_text)
        either x y (inl is) is' = (_, ap (λ (t : CopyText K V). chosen_on side t y) is ∙ ap (λ (t : CopyText K V). chosen_on side s.mine_text t) is' ∙ s.is, inl refl)
        either x y (inr (inl is)) is' = (
          _,
          ap (λ (t : CopyText K V). chosen_on side t y) is ∙ ap (λ (t : CopyText K V). chosen_on side (whole_of (version + 1) held) t) is'
              ∙ older_next side s.theirs_text version synced held newer,
          inr refl,
        )
        either x y (inr (inr is)) is' = (_, ap (λ (t : CopyText K V). chosen_on side t y) is ∙ ap (λ (t : CopyText K V). chosen_on side Absent t) is' ∙ older_absent side s.theirs_text version synced newer, inl refl)

    -- the write, however it ends
    module _ {T : Type 0} (r : Result T DevError) (b : Timeline) (write : Passes (blob_of p side) (Write 0 (copy_of f (version + 1) held)) r a b) where
      writes : Always a b (OnlyAt (blob_of p side) (disk a) Writes)
      writes = sealed_on (sealed_start a (blob_of p side) (λ i. ⊥) (λ i. 0) (ReadsNext s.mine_text (version + 1) held)
          (subst Writes (sym s.mine_settled) (record { guards = guards_settled (λ i. ⊥) (λ i. 0) s.mine (λ i none. absurd none) (λ i none. absurd none); all = ((s.mine_text, s.mine_reads, inl refl), tt) })))
          write (λ i none. absurd none) (whole_of (version + 1) held, written_reads (disk a (blob_of p side)).content (version + 1) held room floor_fits short map, inr (inl refl))

      pub write_crashes : Always a b (KeepsAlone f p synced held (disk a))
      write_crashes = always_weaker a b (OnlyAt (blob_of p side) (disk a) Writes) (KeepsAlone f p synced held (disk a)) next_keeps writes

    -- the write and the sync
    module _ {T U : Type 0} (v : T) (r : Result U DevError) (b c : Timeline) (write : Passes (blob_of p side) (Write 0 (copy_of f (version + 1) held)) (Ok v) a b) (settle : Passes (blob_of p side) Settle r b c) where
      content : (disk b (blob_of p side)).content ≡ written (disk a (blob_of p side)).content 0 (copy_of f (version + 1) held)
      content = ap (λ (x : Blob). x.content) (ok_blob (blob_of p side) (Write 0 (copy_of f (version + 1) held)) v a b write)

      both_writes : Always a c (OnlyAt (blob_of p side) (disk a) Writes)
      both_writes = sealed_on (writes (Ok v) b write) settle tt
          (subst (ReadsNext s.mine_text (version + 1) held) (sym content) (whole_of (version + 1) held, written_reads (disk a (blob_of p side)).content (version + 1) held room floor_fits short map, inr (inl refl)))

      pub both_crashes : Always a c (KeepsAlone f p synced held (disk a))
      both_crashes = always_weaker a c (OnlyAt (blob_of p side) (disk a) Writes) (KeepsAlone f p synced held (disk a)) next_keeps both_writes

    -- after both
    module _ {T U : Type 0} (v : T) (w : U) (b c : Timeline) (write : Passes (blob_of p side) (Write 0 (copy_of f (version + 1) held)) (Ok v) a b) (settle : Passes (blob_of p side) Settle (Ok w) b c) where
      pub then_stands : StandsOn f p (other_side side) (version + 1) held (disk c)
      then_stands = record {
        mine = s.theirs;
        theirs = written (disk a (blob_of p side)).content 0 (copy_of f (version + 1) held);
        mine_text = s.theirs_text;
        theirs_text = whole_of (version + 1) held;
        mine_settled = (always_now a c (OnlyAt (blob_of p side) (disk a) Writes) (both_writes v (Ok w) b c write settle)).others (blob_of p (other_side side)) (sides_apart p side) ∙ s.theirs_settled;
        theirs_settled = ap (λ (x : Side). disk c (blob_of p x)) (twice side) ∙ ok_blob (blob_of p side) Settle w b c settle ∙ ap settled_at (content v (Ok w) b c write settle);
        mine_reads = s.theirs_reads;
        theirs_reads = written_reads (disk a (blob_of p side)).content (version + 1) held room floor_fits short map;
        is = turned side ∙ older_next side s.theirs_text version synced held (newer_text side s.mine_text s.theirs_text version synced s.is);
      }
        where
          twice : (x : Side) → other_side (other_side x) ≡ x
          twice Left = refl
          twice Right = refl

          turned : (x : Side) → chosen_on (other_side x) s.theirs_text (whole_of (version + 1) held) ≡ chosen_on x (whole_of (version + 1) held) s.theirs_text
          turned Left = refl
          turned Right = refl
