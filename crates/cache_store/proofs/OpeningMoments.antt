-- What crashes leave while a cache is opened.
use Rattle.std.specs.Prelude.{◌≡◌, ◌≢◌, ◌⊎◌, ℕ, ◌*◌, ◌/◌, ◌^◌, ◌<◌, ◌≤◌, Bool, false, true, List, [], length, map, take, cond, nat_eq, Option, None, Some, IsSome, IsSomeAnd, IsTrue, is_some, unwrap_or}
use Rattle.std.specs.List.{AllByRecursion, IsDistinct}
use Rattle.std.proofs.Common.{inl, inr, ⊎_elim, refl, sym, ap, ◌∙◌, subst, arith}
use Rattle.std.proofs.Math.Nat.{div-one}
use Rattle.std.proofs.Math.Seq.{take-length}
use Rattle.std.proofs.lemmas.Bool.{cases_eq}
use Rattle.std.proofs.lemmas.List.{take_all}
use Rattle.blob_device.specs.Disk.{Key, Blob, Disk, IsSettled, MayLeave, longest, past, reads, settled_at}
use Rattle.blob_device.specs.Timeline.{Each}
use Rattle.sealed_pages.specs.Buffer.{size_of}
use Rattle.sealed_pages.specs.ChanceSeal as pages
use Rattle.sealed_pages.specs.Shown.{shown}
use Rattle.sealed_pages.specs.SealedPrefix.{Prefix, sealed_prefix}
use Rattle.sealed_pages.specs.declared.page_blob.PageBlob.{PageBlob}
use Rattle.section_manager.specs.Lasting.{IsSettling}
use Rattle.section_manager.specs.Sections.{key_of, section_key, IsHeld}
use Rattle.section_manager.specs.lemmas.Keys.{key_injective}
use Rattle.section_manager.specs.lemmas.Number.{length-number_name}
use Rattle.segments.specs.FixedReplay as bytes
use Rattle.segments.specs.FixedReplay.{Walk}
use Rattle.variable_journal.specs.Frames.{frames, items_of, offset_of, rest_of, whole_end, HasBadLength}
use Rattle.variable_journal.specs.Replaying.{IsCutToFrames, ReplayingFrames}
use Rattle.variable_journal.specs.lemmas.Frame.{bad_before, cut_items, first_of_cut}
use Rattle.cache_store.specs.Kept.{Layout, entries_of, sealed_bytes, sealed_in}
use Rattle.cache_store.specs.Machine.{section_of}
use Rattle.cache_store.specs.Reopening.{KeepsRecords, NothingPending, as_read}
use Rattle.cache_store.specs.Records.{entry_of, record_refusal}
use Rattle.cache_store.specs.Standing as standing
use Rattle.cache_store.specs.Standing.{Keeps, Leaves, Wanted}
use Rattle.cache_store.proofs.LawfulLemmas.{length-mapped}
use Rattle.cache_store.proofs.LeavingLemmas.{Holds, SectionLeaves, fewer_entries, together}
use Rattle.cache_store.proofs.MayOpenLemmas.{left_as_read}
use Rattle.blob_device.proofs.general.Options.{none_or_value}

-- These bytes have the frames that others have, and no length that is refused but theirs.
pub record HasFramesOf (was bytes : List ℕ) : Type 0 where
  pub items : items_of bytes ≡ items_of was
  pub lengths : HasBadLength (rest_of bytes) → HasBadLength (rest_of was)

module _ (l : Layout) where
  -- each crash leaves such bytes
  abbrev pub FramesLast : List ℕ → Blob → Type 0
  FramesLast was b = (left : Option (List ℕ)) → MayLeave b left → pages.NoChanceSeal l.seal l.page_size (past b) (unwrap_or left []) → HasFramesOf was (sealed_in l left)

  -- of a blob that settled as it read
  settled_last : (from b : Blob) → IsTrue from.there → b ≡ settled_at from.content → FramesLast (sealed_in l (reads from)) b
  settled_last from b there is left may clear = subst (λ (o : Option (List ℕ)). HasFramesOf (sealed_in l (reads from)) (sealed_in l o))
      (sym (left_as_read b (subst IsSettled (sym is) (record { sure = refl; since = refl; loose = refl; content = refl })) left may ∙ ap reads is
      ∙ sym (ap (λ (t : Bool). cond t (Some from.content) None) there)))
      (record { items = refl; lengths = λ bad. bad })

  module _ (bytes : List ℕ) (least : ℕ) (all : length (items_of bytes) ≤ length (items_of (take least bytes))) where
    -- a prefix that has all whole frames
    prefix_has : (c : List ℕ) → Prefix l.seal l.page_size bytes least c → HasFramesOf bytes (sealed_prefix l.seal l.page_size c)
    prefix_has c prefix =
        let n = length (sealed_prefix l.seal l.page_size c) in
        subst (HasFramesOf bytes) (sym prefix.is) (record {
          items = (first_of_cut bytes n).same ∙ take_all (length (items_of (take n bytes))) (items_of bytes)
              (let more = fewer_entries bytes least n prefix.no_shorter in omega (arith, all, more, length-mapped entry_of (items_of (take least bytes)), length-mapped entry_of (items_of (take n bytes))));
          lengths = bad_before bytes n;
        })

    -- of a blob of which crashes leave that
    prefix_last : (b : Blob) → pages.Leaves l.seal l.page_size bytes least b → FramesLast bytes b
    prefix_last b leaves left may clear = go left (leaves left may) clear
      where
        go : (o : Option (List ℕ)) → IsSomeAnd o (λ c. pages.NoChanceSeal l.seal l.page_size (past b) c → Prefix l.seal l.page_size bytes least c)
            → pages.NoChanceSeal l.seal l.page_size (past b) (unwrap_or o []) → HasFramesOf bytes (sealed_in l o)
        go None has clear = absurd has
        go (Some c) has clear = prefix_has c (has clear)

-- the whole frames end within as many bytes
all_whole : (bytes : List ℕ) → length (items_of bytes) ≤ length (items_of (take (whole_end bytes) bytes))
all_whole bytes =
    let n = length (items_of bytes) in
    let end : offset_of (items_of bytes) n ≡ whole_end bytes = ap (λ (xs : List (List ℕ)). length (frames xs)) (take-length (items_of bytes)) in
    omega (arith, ap (λ (m : ℕ). length (items_of (take m bytes))) end, ap length (cut_items bytes n).0, ap length (take-length (items_of bytes)))

module _ (l : Layout) (from : Disk) where
  -- a section's blob is as it was, or each crash leaves the frames that the image has
  abbrev pub Stays : ℕ → Blob → Type 0
  Stays s b = (b ≡ from (section_key l.partition s)) ⊎ FramesLast l (sealed_bytes l (as_read from) s) b

  -- while the journal is opened
  pub first_stays : (most : ℕ) (d : Disk) → Each (IsSettling l.partition most from) d → (s : ℕ) → Stays s (d (section_key l.partition s))
  first_stays most d each s = elim (each (section_key l.partition s)) [
    | inl same ↦ inl same
    | inr settled ↦ inr (settled_last l (from (section_key l.partition s)) (d (section_key l.partition s)) settled.3 settled.4)
  ]

  pub first_named : (most : ℕ) (d : Disk) → Each (IsSettling l.partition most from) d → (name : List ℕ) → length name ≢ 8 → d (l.partition, name) ≡ from (l.partition, name)
  first_named most d each name long = ⊎_elim (λ same. same) (λ is. absurd (long (ap (λ (q : Key). length q.1) is.2 ∙ length-number_name is.0))) (each (l.partition, name))

  -- While the replay goes over it, from where the journal was opened.
  module _ {F S : Type 0} {gs : _} (walk : Walk F (PageBlob S gs)) (most : ℕ) (a : Disk) (opened : Each (IsSettling l.partition most from) a)
      (partition : walk.journal.sections.partition ≡ l.partition) (number : (s : ℕ) → IsHeld walk.journal.sections s → s < 2 ^ 64)
      (paged : (s : ℕ) (u : PageBlob S gs) → walk.journal.sections.held s ≡ Some u → u.page_size ≡ l.page_size)
      (settled : (s : ℕ) (u : PageBlob S gs) → walk.journal.sections.held s ≡ Some u → u.settled ≡ size_of (shown u)) where
    key_is : (s : ℕ) → key_of walk.journal.sections s ≡ section_key l.partition s
    key_is s = ap (λ (p : List ℕ). section_key p s) partition

    -- no name but a section's changes
    pub replay_named : (d : Disk) → Each (ReplayingFrames l.seal walk a) d → (name : List ℕ) → length name ≢ 8 → d (l.partition, name) ≡ from (l.partition, name)
    replay_named d each name long = unnamed ∙ first_named most a opened name long
      where
        long_key : (s : ℕ) → ◌≡◌ {A = Key} (l.partition, name) (key_of walk.journal.sections s) → ⊥
        long_key s is = long (ap (λ (q : Key). length q.1) is ∙ length-number_name s)

        unnamed : d (l.partition, name) ≡ a (l.partition, name)
        unnamed = ⊎_elim (λ replaying. replaying.others (λ is. long_key is.0 is.2)) (λ cut. absurd (long_key cut.section cut.key)) (each (l.partition, name))

    -- nor a section that is not held
    pub none_stays : (d : Disk) → Each (ReplayingFrames l.seal walk a) d → (s : ℕ) → s < 2 ^ 64 → walk.journal.sections.held s ≡ None → d (section_key l.partition s) ≡ a (section_key l.partition s)
    none_stays d each s small none = ⊎_elim (λ replaying. replaying.others (λ is. here is.0 is.1.0 is.2)) (λ cut. absurd (here cut.section (ap is_some cut.held) cut.key)) (each (section_key l.partition s))
      where
        here : (r : ℕ) → IsHeld walk.journal.sections r → section_key l.partition s ≡ key_of walk.journal.sections r → ⊥
        here r held is = cc (subst IsSome none (subst (λ (n : ℕ). IsSome (walk.journal.sections.held n))
            (key_injective l.partition r s (number r held) small (sym (is ∙ key_is r))) held))

    -- so one that is not there stays without bytes
    pub none_left : (d : Disk) → Each (ReplayingFrames l.seal walk a) d → (s : ℕ) → s < 2 ^ 64 → walk.journal.sections.held s ≡ None
        → (from (section_key l.partition s)).there ≡ false → longest (from (section_key l.partition s)) ≡ 0 → longest (d (section_key l.partition s)) ≡ 0
    none_left d each s small none gone bare = ap longest (none_stays d each s small none ∙ first_still) ∙ bare
      where
        first_still : a (section_key l.partition s) ≡ from (section_key l.partition s)
        first_still = ⊎_elim (λ same. same) (λ is. absurd (let has = is.3 in cc (has, gone))) (opened (section_key l.partition s))

    module _ (stands : (s : ℕ) → s < 2 ^ 64 → IsHeld walk.journal.sections s → sealed_prefix l.seal l.page_size (a (section_key l.partition s)).content ≡ sealed_bytes l (as_read from) s)
        (s : ℕ) (small : s < 2 ^ 64) where
      abbrev content : List ℕ
      content = (a (section_key l.partition s)).content

      rests : (b : Blob) → b ≡ a (section_key l.partition s) → Stays s b
      rests b same = subst (Stays s) (sym same) (first_stays most a opened s)

      -- cut to no less than its whole frames
      cut_stays : (u : PageBlob S gs) → walk.journal.sections.held s ≡ Some u → (least : List ℕ → ℕ) → ((bytes : List ℕ) → length (items_of bytes) ≤ length (items_of (take (least bytes) bytes))) → (b : Blob)
          → pages.Leaves l.seal u.page_size (sealed_prefix l.seal u.page_size (a (key_of walk.journal.sections s)).content) (least (sealed_prefix l.seal u.page_size (a (key_of walk.journal.sections s)).content)) b → Stays s b
      cut_stays u held least all b leaves = inr (subst (λ (bytes : List ℕ). FramesLast l bytes b) (stands s small (ap is_some held))
          (prefix_last l (sealed_prefix l.seal l.page_size content) (least (sealed_prefix l.seal l.page_size content)) (all (sealed_prefix l.seal l.page_size content)) b
          (subst (λ (q : Key). pages.Leaves l.seal l.page_size (sealed_prefix l.seal l.page_size (a q).content) (least (sealed_prefix l.seal l.page_size (a q).content)) b) (key_is s)
          (subst (λ (m : ℕ). pages.Leaves l.seal m (sealed_prefix l.seal m (a (key_of walk.journal.sections s)).content) (least (sealed_prefix l.seal m (a (key_of walk.journal.sections s)).content)) b) (paged s u held) leaves))))

      bytes_stay : (b : Blob) → bytes.Replaying l.seal 1 walk a (key_of walk.journal.sections s) b → Stays s b
      bytes_stay b each = elim (none_or_value (walk.journal.sections.held s)) [
        | inl none ↦ rests b (each.others (λ is. cc (subst IsSome none (subst (λ (r : ℕ). IsSome (walk.journal.sections.held r))
            (key_injective walk.journal.sections.partition is.0 s (number is.0 is.1.0) small (sym is.2)) is.1.0))) ∙ ap a (key_is s))
        | inr some ↦ go some.0 some.1 (walk.journal.unrecovered s) refl
      ]
        where
          whole : (bytes : List ℕ) → length (items_of bytes) ≤ length (items_of (take (length bytes / 1 * 1) bytes))
          whole bytes = omega (arith, ap (λ (n : ℕ). length (items_of (take (n * 1) bytes))) (div-one (length bytes)), ap (λ (n : ℕ). length (items_of (take n bytes))) (let n = length bytes in let is : n * 1 ≡ n = omega arith in is), ap (λ bs. length (items_of bs)) (take-length bytes))

          go : (u : PageBlob S gs) → walk.journal.sections.held s ≡ Some u → (owes : Bool) → walk.journal.unrecovered s ≡ owes → Stays s b
          go u held false free = rests b (each.still s u held (settled s u held, inl free) refl ∙ ap a (key_is s))
          go u held true owes = ⊎_elim (λ same. rests b (same ∙ ap a (key_is s))) (λ cut. cut_stays u held (λ bytes. length bytes / 1 * 1) whole b cut.1) (each.cut s u held owes refl)

      frames_stay : (b : Blob) → IsCutToFrames l.seal walk a (key_of walk.journal.sections s) b → Stays s b
      frames_stay b cut =
          let same : cut.section ≡ s = key_injective walk.journal.sections.partition cut.section s (number cut.section (ap is_some cut.held)) small (sym cut.key) in
          cut_stays cut.buffer (subst (λ (r : ℕ). walk.journal.sections.held r ≡ Some cut.buffer) same cut.held) whole_end all_whole b cut.leaves

      pub replay_stays : (d : Disk) → Each (ReplayingFrames l.seal walk a) d → Stays s (d (section_key l.partition s))
      replay_stays d each = subst (λ (q : Key). Stays s (d q)) (key_is s) (⊎_elim (bytes_stay (d (key_of walk.journal.sections s))) (frames_stay (d (key_of walk.journal.sections s))) (each (key_of walk.journal.sections s)))

  -- ---- what that comes to

  -- where nothing was pending each crash leaves the same records
  pub stays_keeps : NothingPending l from → (d : Disk) → ((s : ℕ) → s < 2 ^ 64 → Stays s (d (section_key l.partition s))) → KeepsRecords l (as_read from) d
  stays_keeps pending d each image crash clear s small = elim (each s small) [
    | inl same ↦ ap (λ (o : Option (List ℕ)). entries_of (sealed_in l o)) (left_as_read (from (section_key l.partition s)) (pending (section_key l.partition s).1) (image (section_key l.partition s))
        (subst (λ (b : Blob). MayLeave b (image (section_key l.partition s))) same (crash (section_key l.partition s))))
    | inr last ↦ ap (map entry_of) (last (image (section_key l.partition s)) (crash (section_key l.partition s)) (clear s small)).items
  ]

  -- The image as it reads is as wanted, and so is what each crash leaves.
  module _ (w : Wanted) (read : Keeps l w (as_read from)) (sections : (s : ℕ) → s < 2 ^ 64 → SectionLeaves l w s (from (section_key l.partition s)))
      (names : (name x : List ℕ) → MayLeave (from (l.partition, name)) (Some x) → length name ≡ 8) where
    frames_hold : (s : ℕ) → s < 2 ^ 64 → (bytes : List ℕ) → HasFramesOf (sealed_bytes l (as_read from) s) bytes → Holds l w s bytes
    frames_hold s small bytes has = (let lawful = read.lawful.sections s small in let back = sym has.items in record {
      lawful = record {
        lengths = λ bad. lawful.lengths (has.lengths bad);
        decoded = subst (AllByRecursion (λ x. record_refusal l.refusal x ≡ None)) back lawful.decoded;
        in_section = subst (AllByRecursion (λ x. section_of l.items (entry_of x).index ≡ s)) back lawful.in_section;
        once = subst (λ (xs : List (List ℕ)). IsDistinct nat_eq (map (λ e. e.index) (map entry_of xs))) back lawful.once;
      };
      held = subst (λ (xs : List (List ℕ)). standing.IsHeld l w s (map entry_of xs)) back (read.each s small);
    })

    -- no name but a section's is left
    pub still_named : (d : Disk) → ((name : List ℕ) → length name ≢ 8 → d (l.partition, name) ≡ from (l.partition, name)) → (name x : List ℕ) → MayLeave (d (l.partition, name)) (Some x) → length name ≡ 8
    still_named d same name x may = ⊎_elim (λ eight. eight) (λ (long : length name ≢ 8). names name x (subst (λ (b : Blob). MayLeave b (Some x)) (same name long) may)) (cases_eq (length name) 8)

    -- and each crash leaves what is wanted
    pub stays_leave : (d : Disk) → ((name : List ℕ) → length name ≢ 8 → d (l.partition, name) ≡ from (l.partition, name))
        → ((s : ℕ) → s < 2 ^ 64 → Stays s (d (section_key l.partition s))) → Leaves l w d
    stays_leave d same each = together l w d (still_named d same) (λ s small. by s small (d (section_key l.partition s)) (each s small))
      where
        by : (s : ℕ) → s < 2 ^ 64 → (b : Blob) → Stays s b → SectionLeaves l w s b
        by s small b (inl is) left may clear = subst (SectionLeaves l w s) (sym is) (sections s small) left may clear
        by s small b (inr last) left may clear = frames_hold s small (sealed_in l left) (last left may clear)
