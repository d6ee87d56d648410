-- What each moment of a call leaves of the items of a section, from what it leaves of its bytes.
use Rattle.std.specs.Prelude.{◌≡◌, ◌⊎◌, ℕ, ◌+◌, ◌/◌, ◌*◌, ◌^◌, ◌<◌, ◌≤◌, ◌||◌, eqb, cond, Bool, true, false, List, [], ◌∷◌, ◌++◌, length, take, Option, None, Some, IfSome, IsSomeAnd, IsTrue}
use Rattle.std.proofs.Common.{refl, sym, ap, ◌∙◌, subst, inl, inr, arith, length-append, length-take}
use Rattle.std.proofs.Math.Nat.{div-one}
use Rattle.std.proofs.Math.Seq.{take-length}
use Rattle.std.proofs.lemmas.Bool.{cases_lt}
use Rattle.std.proofs.lemmas.List.{append-nil, take_all, take-append-le}
use Rattle.blob_device.specs.Change.{Remove, FailedTo}
use Rattle.blob_device.specs.Disk.{Blob, Disk, past, nothing, settled_at}
use Rattle.blob_device.specs.Opened.{OpenedList}
use Rattle.blob_device.specs.Timeline.{Timeline, disk, Always, Each}
use Rattle.blob_device.specs.lemmas.Moments.{always_weaker}
use Rattle.sealed_pages.specs.Buffer.{size_of, bytes_of, IsSealed}
use Rattle.sealed_pages.specs.ChanceSeal.{Leaves, NoChanceSeal}
use Rattle.sealed_pages.specs.Cutting.{StandsSettled}
use Rattle.sealed_pages.specs.SealedPrefix.{sealed_prefix, Prefix}
use Rattle.sealed_pages.specs.Shown.{shown}
use Rattle.sealed_pages.specs.Unrecovered.{IsAdopted}
use Rattle.sealed_pages.specs.declared.page_blob.PageBlob.{PageBlob}
use Rattle.sealed_pages.specs.lemmas.Reaching.{rest_leaves}
use Rattle.section_manager.specs.Lasting.{IsGoing, IsSettling, Removing}
use Rattle.section_manager.specs.SealedLaws.{counted}
use Rattle.section_manager.specs.Sections.{section_key, key_of, IsHeld, IsKnown}
use Rattle.section_manager.specs.Setting.{Setting}
use Rattle.section_manager.specs.declared.buffer.SectionBuffer as buffer
use Rattle.section_manager.specs.lemmas.Keys.{key_injective}
use Rattle.segments.specs.FixedLasting.{Settling}
use Rattle.segments.specs.FixedLists.{Lists, section_bytes}
use Rattle.segments.specs.FixedReplay.{Walk}
use Rattle.segments.specs.FixedResting.{Promises}
use Rattle.segments.specs.lemmas.FixedRested.{held_prefix, promised}
use Rattle.segments.specs.lemmas.adding.Write.{ArePages}
use Rattle.segments.specs.lemmas.held.Sections.{bytes_here}
use Rattle.variable_journal.specs.Frames.{AreFirst, HasBadLength, frame, frames, items_of, offset_of, rest_of, whole_end}
use Rattle.variable_journal.specs.Lists.{IsJournal, section_items}
use Rattle.variable_journal.specs.OpeningAtMost.{judged_bytes, BoundingFrames, IsThere}
use Rattle.variable_journal.specs.Replaying.{IsCutToFrames, IsFrameWalk, ReplayingFrames}
use Rattle.variable_journal.specs.Resting.{HasAll, HasFirst, HasSome, HasKept, LeavesKept, LeavesWith, MayLeaveWith, OpeningKeeps, Rests, sealed_bytes}
use Rattle.variable_journal.specs.lemmas.Frame.{bad_before, first_of_cut, frame_some, frames_append}
use Rattle.variable_journal.specs.lemmas.Offset.{whole_is, whole_within}
use Rattle.blob_device.proofs.general.Options.{some_there}

-- ---- bytes

none_bad : (rest : List ℕ) → rest ≡ [] → HasBadLength rest → ⊥
none_bad rest none bad = let few : length rest ≡ 0 = ap length none in omega (arith, few, bad.enough)

-- the same bytes have the same items
pub all_same : (all bytes : List ℕ) → bytes ≡ all → HasAll all bytes
all_same all bytes same = record {
  same = ap items_of same;
  lengths = (subst (λ (l : List ℕ). HasBadLength (rest_of l)) same, subst (λ (l : List ℕ). HasBadLength (rest_of l)) (sym same));
}

-- a cut behind all whole frames leaves the same items
pub frames_kept : (all : List ℕ) (n : ℕ) → whole_end all ≤ n → items_of (take n all) ≡ items_of all
frames_kept all n le =
    let xs = items_of all in
    let first = first_of_cut all n in
    let end : offset_of xs (length xs) ≡ whole_end all = ap (λ (ys : List (List ℕ)). length (frames ys)) (take-length xs) in
    let enough : length xs ≤ length (items_of (take n all)) = first.reached (length xs) (omega arith) (omega (arith, end, le)) in
    first.same ∙ take_all (length (items_of (take n all))) xs enough

module _ (seal : List ℕ → ℕ) (P : ℕ) (all : List ℕ) (n : ℕ) (c : List ℕ) (prefix : Prefix seal P all n c) where
  -- the items of what a crash leaves are the first ones, and all that end within what it has to keep
  pub first_of_prefix : AreFirst (items_of all) n (items_of (sealed_prefix seal P c))
  first_of_prefix =
      let kept = sealed_prefix seal P c in
      let first = first_of_cut all (length kept) in
      let is : items_of kept ≡ items_of (take (length kept) all) = ap items_of prefix.is in
      record {
        same = is ∙ first.same ∙ ap (λ (z : List (List ℕ)). take (length z) (items_of all)) (sym is);
        reached = λ k le at. (let r = first.reached k le (omega (arith, at, prefix.no_shorter)) in let long : length (items_of kept) ≡ length (items_of (take (length kept) all)) = ap length is in omega (arith, r, long));
      }

  bad_of_prefix : HasBadLength (rest_of (sealed_prefix seal P c)) → HasBadLength (rest_of all)
  bad_of_prefix bad = bad_before all (length (sealed_prefix seal P c)) (subst (λ (l : List ℕ). HasBadLength (rest_of l)) prefix.is bad)

  pub has_first : (items : List (List ℕ)) → items_of all ≡ items → rest_of all ≡ [] → HasFirst items n (sealed_prefix seal P c)
  has_first items are whole = record {
    first = subst (λ (xs : List (List ℕ)). AreFirst xs n (items_of (sealed_prefix seal P c))) are first_of_prefix;
    lengths = λ bad. none_bad (rest_of all) whole (bad_of_prefix bad);
  }

  pub has_some : (least : ℕ) → least ≤ n → HasSome all least (sealed_prefix seal P c)
  has_some least le = record {
    first = record { same = first_of_prefix.same; reached = λ k within at. first_of_prefix.reached k within (omega (arith, at, le)) };
    lengths = bad_of_prefix;
  }

  -- all of it is left
  pub prefix_all : length all ≤ n → sealed_prefix seal P c ≡ all
  prefix_all le = prefix.is ∙ take_all (length (sealed_prefix seal P c)) all (omega (arith, le, prefix.no_shorter))

  -- all whole frames are left, where no length behind them is refused
  pub has_frames : whole_end all ≤ n → (HasBadLength (rest_of all) → ⊥) → HasAll all (sealed_prefix seal P c)
  has_frames le fine = record {
    same = ap items_of prefix.is ∙ frames_kept all (length (sealed_prefix seal P c)) (omega (arith, le, prefix.no_shorter));
    lengths = (bad_of_prefix, λ bad. absurd (fine bad));
  }

-- the first of some items, where one more follows that ends past what is to be kept
pub first_more : (items : List (List ℕ)) (item : List ℕ) (least : ℕ) (bytes : List ℕ) → least ≤ length (frames items) → HasFirst items least bytes → HasFirst (items ++ item ∷ []) least bytes
first_more items item least bytes within has = record {
  first = record { same = has.first.same ∙ sym (take-append-le n items (item ∷ []) few); reached = λ k le at. reached k le at };
  lengths = has.lengths;
}
  where
    n : ℕ
    n = length (items_of bytes)

    few : n ≤ length items
    few = (let e : n ≡ length (take n items) = ap length has.first.same in omega (arith, e, length-take n items))

    long : length (frames (items ++ item ∷ [])) ≡ length (frames items) + length (frame item)
    long = ap length (frames_append items (item ∷ [])) ∙ length-append (frames items) (frame item ++ []) ∙ ap (λ (xs : List ℕ). length (frames items) + length xs) (append-nil (frame item))

    reached : (k : ℕ) → k ≤ length (items ++ item ∷ []) → offset_of (items ++ item ∷ []) k ≤ least → k ≤ n
    reached k le at = elim (cases_lt (length items) k) [
      | inr low ↦ has.first.reached k low (let e : offset_of (items ++ item ∷ []) k ≡ offset_of items k = ap (λ (xs : List (List ℕ)). length (frames xs)) (take-append-le k items (item ∷ []) low) in omega (arith, e, at))
      | inl high ↦ absurd (let e : offset_of (items ++ item ∷ []) k ≡ length (frames (items ++ item ∷ [])) = ap (λ (xs : List (List ℕ)). length (frames xs)) (take_all k (items ++ item ∷ []) (omega (arith, high, length-append items (item ∷ [])))) in
          omega (arith, e, at, within, long, frame_some item))
    ]

-- ---- what a crash leaves

module _ (seal : List ℕ → ℕ) (P : ℕ) (K : List ℕ → Type 0) where
  pub leaves_with : (all : List ℕ) (n : ℕ) (b : Blob) → ((c : List ℕ) → Prefix seal P all n c → K (sealed_prefix seal P c)) → Leaves seal P all n b → LeavesWith seal P K b
  leaves_with all n b to leaves left may = go left (leaves left may)
    where
      go : (l : Option (List ℕ)) → IsSomeAnd l (λ c. NoChanceSeal seal P (past b) c → Prefix seal P all n c) → IsSomeAnd l (λ c. NoChanceSeal seal P (past b) c → K (sealed_prefix seal P c))
      go None has = has
      go (Some c) has = λ no. to c (has no)

  -- what has more is left too
  pub leaves_more : (L : List ℕ → Type 0) → ((bytes : List ℕ) → K bytes → L bytes) → (b : Blob) → LeavesWith seal P K b → LeavesWith seal P L b
  leaves_more L more b leaves left may = go left (leaves left may)
    where
      go : (l : Option (List ℕ)) → IsSomeAnd l (λ c. NoChanceSeal seal P (past b) c → K (sealed_prefix seal P c)) → IsSomeAnd l (λ c. NoChanceSeal seal P (past b) c → L (sealed_prefix seal P c))
      go None has = has
      go (Some c) has = λ no. more (sealed_prefix seal P c) (has no)

  pub may_leave : (b : Blob) → LeavesWith seal P K b → MayLeaveWith seal P K b
  may_leave b leaves left may = go left (leaves left may)
    where
      go : (l : Option (List ℕ)) → IsSomeAnd l (λ c. NoChanceSeal seal P (past b) c → K (sealed_prefix seal P c)) → IfSome l (λ c. NoChanceSeal seal P (past b) c → K (sealed_prefix seal P c))
      go None has = absurd has
      go (Some c) has = has

  -- a blob that each crash leaves is there
  is_there : (b : Blob) → LeavesWith seal P K b → IsTrue (b.there || b.unsure)
  is_there b leaves = go b.there refl
    where
      go : (there : Bool) → b.there ≡ there → IsTrue (b.there || b.unsure)
      go true is = rw is refl
      go false is = absurd (leaves None (rw is refl))

  -- under removal a crash leaves it as before, or no blob
  pub removal_leaves : (from b : Blob) → LeavesWith seal P K from → FailedTo Remove from b → MayLeaveWith seal P K b
  removal_leaves from b leaves failed = elim failed [ inl same ↦ rw same (part (from.there || from.unsure) from.there) | inr same ↦ rw same (part (from.there || from.unsure) false) ]
    where
      part : (unsure is : Bool) → MayLeaveWith seal P K (record from { there = is; unsure = unsure })
      part unsure is None may = tt
      part unsure is (Some c) may = leaves (Some c) (is_there from leaves, record { no_shorter = may.1.no_shorter; no_longer = may.1.no_longer; kept = may.1.kept; bytes = may.1.bytes })

  -- so it does in a removal
  pub going_leaves : (from b : Blob) → LeavesWith seal P K from → IsGoing from b → MayLeaveWith seal P K b
  going_leaves from b leaves going = elim going [
    | inl same ↦ rw same (may_leave from leaves)
    | inr (inl failed) ↦ removal_leaves from b leaves failed
    | inr (inr gone) ↦ rw gone none
  ]
    where
      none : MayLeaveWith seal P K nothing
      none None may = tt
      none (Some c) may = absurd (cc may.0)

-- a blob that had settled
pub settled_leaves : (seal : List ℕ → ℕ) (P : ℕ) (K : List ℕ → Type 0) (b : Blob) → 1 ≤ P
    → ((c : List ℕ) → Prefix seal P (sealed_prefix seal P b.content) (length (sealed_prefix seal P b.content)) c → K (sealed_prefix seal P c)) → StandsSettled b → LeavesWith seal P K b
settled_leaves seal P K b pos to settled = leaves_with seal P K (sealed_prefix seal P b.content) (length (sealed_prefix seal P b.content)) b to (rest_leaves seal P b pos settled)

-- ---- a section

module _ {F S : Type 0} {gs : _} (seal : List ℕ → ℕ) (j : Lists F (PageBlob S gs)) (from : Disk) (s : ℕ) (u : PageBlob S gs) where
  -- What holds of a section with the buffer u, between two calls.
  pub record IsGood : Type 0 where
    pub held : j.sections.held s ≡ Some u
    pub adopted : IsAdopted seal (shown u) (from (key_of j.sections s))
    -- where it owes no replay
    pub sealed : j.unrecovered s ≡ false → IsSealed seal (shown u) (from (key_of j.sections s))
    pub framed : j.unrecovered s ≡ false → rest_of (section_bytes j.sections from s) ≡ []
    -- where it owes one
    pub settled : IsTrue (j.unrecovered s) → u.settled ≡ size_of (shown u)

  module _ (good : IsGood) where
    abbrev pub here : Blob
    here = from (key_of j.sections s)

    -- the bytes of one that is sealed and settled are its sealed prefix
    prefix_here : IsTrue (j.unrecovered s) → IsSealed seal (shown u) here → sealed_prefix seal u.page_size here.content ≡ bytes_of (shown u) here.content
    prefix_here owes sealed = prefix_all seal u.page_size (bytes_of (shown u) here.content) u.settled here.content
        (held_prefix seal (shown u) (bytes_of (shown u) here.content) here u.fit.begun sealed.holds) (omega (arith, counted (shown u) here.content, good.settled owes))

    pub items_rest : (b : Blob) → Promises seal (shown u) here b → LeavesWith seal u.page_size (HasKept seal j from s u (j.unrecovered s)) b
    items_rest b p = go (j.unrecovered s) refl
      where
        go : (owes : Bool) → j.unrecovered s ≡ owes → LeavesWith seal u.page_size (HasKept seal j from s u owes) b
        go false free =
            let is = bytes_here j.sections s u good.held from in
            leaves_with seal u.page_size (HasKept seal j from s u false) (bytes_of (shown u) here.content) u.settled b
            (λ c prefix. has_first seal u.page_size (bytes_of (shown u) here.content) u.settled c prefix (section_items j from s) (ap items_of (sym is)) (ap rest_of (sym is) ∙ good.framed free))
            (p.sealed (good.sealed free))
        go true owes = elim good.adopted [
          | inl sealed ↦ (let is = prefix_here owes sealed in
              leaves_with seal u.page_size (HasKept seal j from s u true) (bytes_of (shown u) here.content) u.settled b
              (λ c prefix. all_same (sealed_prefix seal u.page_size here.content) (sealed_prefix seal u.page_size c)
              (prefix_all seal u.page_size (bytes_of (shown u) here.content) u.settled c prefix (omega (arith, counted (shown u) here.content, good.settled owes)) ∙ sym is))
              (p.sealed sealed))
          | inr un ↦ (let all = sealed_prefix seal u.page_size here.content in
              leaves_with seal u.page_size (HasKept seal j from s u true) all (length all) b (λ c prefix. all_same all (sealed_prefix seal u.page_size c) (prefix_all seal u.page_size all (length all) c prefix (omega arith)))
              (p.prefix un))
        ]

    -- what has settled of one that owes no replay is within its frames
    pub settled_within : j.unrecovered s ≡ false → u.settled ≤ length (frames (section_items j from s))
    settled_within free =
        let bytes = section_bytes j.sections from s in
        let first = held_prefix seal (shown u) (bytes_of (shown u) here.content) here u.fit.begun (good.sealed free).holds in
        let is : length (bytes_of (shown u) here.content) ≡ length bytes = ap length (sym (bytes_here j.sections s u good.held from)) in
        let none : length (rest_of bytes) ≡ 0 = ap length (good.framed free) in
        omega (arith, first.no_shorter, first.no_longer, is, none, whole_is bytes)

    pub rests : (d : Disk) → Promises seal (shown u) here (d (key_of j.sections s)) → Rests seal j from s u d
    rests d p = record { bytes = p; items = items_rest (d (key_of j.sections s)) p }

    -- one that stays as it is
    pub rests_same : (d : Disk) → d (key_of j.sections s) ≡ here → Rests seal j from s u d
    rests_same d same = rests d (subst (Promises seal (shown u) here) (sym same) (promised seal (shown u) here u.fit.begun))

    pub rests_now : Rests seal j from s u from
    rests_now = rests_same from refl

-- two sections with one key are one
pub same_section : {F B : Type 0} (j : Lists F B) → ((t : ℕ) → IsKnown j.sections t → t < 2 ^ 64) → (s t : ℕ) → IsHeld j.sections s → IsHeld j.sections t → key_of j.sections s ≡ key_of j.sections t → s ≡ t
same_section j number s t one other same = key_injective j.sections.partition s t (number s (inl one)) (number t (inl other)) same

module _ {F S : Type 0} {gs : _} (g : buffer.Ghosts (PageBlob S gs)) (gives : F → Setting) (seal : List ℕ → ℕ) (are : ArePages g seal) (told : Type 0) (t : told) (opened : OpenedList) (d : Disk) where
  -- sections of a journal that may be used
  pub good_journal : (j : Lists F (PageBlob S gs)) → IsJournal g gives seal told j opened d → (s : ℕ) (u : PageBlob S gs) → j.sections.held s ≡ Some u → IsGood seal j d s u
  good_journal j is s u held = record {
    held = held;
    adopted = (are.stands u (d (key_of j.sections s)) ((is.bytes.over.disk t).stands s u held)).adopted;
    sealed = λ free. (is.bytes.disk t).sealed s u held (record { checked = free; free = is.free s });
    framed = is.framed t s;
    settled = is.bytes.owes_settled.settled s u held;
  }

  -- and of one that is gone over
  pub good_walk : (w : Walk F (PageBlob S gs)) → IsFrameWalk seal g gives told w opened d → (s : ℕ) (u : PageBlob S gs) → w.journal.sections.held s ≡ Some u → IsGood seal w.journal d s u
  good_walk w is s u held = record {
    held = held;
    adopted = (are.stands u (d (key_of w.journal.sections s)) ((is.bytes.over.disk t).stands s u held)).adopted;
    sealed = λ free. (is.bytes.disk t).sealed.sealed s u held (record { checked = free; free = is.free s });
    framed = (is.walked t).framed s;
    settled = is.bytes.walk.owes_settled.settled s u held;
  }

-- ---- at a moment

module _ {F S : Type 0} {gs : _} (seal : List ℕ → ℕ) (j : Lists F (PageBlob S gs)) (from d : Disk) (number : (t : ℕ) → IsKnown j.sections t → t < 2 ^ 64) (s : ℕ) (u : PageBlob S gs) (good : IsGood seal j from s u) where
  is_held : IsHeld j.sections s
  is_held = some_there (j.sections.held s) u good.held

  -- of a sync
  pub settling_rests : (IsNamed : ℕ → Type 0) → IsNamed s ⊎ (IsNamed s → ⊥) → Each (Settling seal j IsNamed from) d → Rests seal j from s u d
  settling_rests IsNamed (inl named) each = (let at = each (key_of j.sections s) in rests seal j from s u good d (record {
    sealed = λ sealed. at.named s u named good.held sealed refl;
    prefix = λ un. at.prefix s u named good.held un refl;
  }))
  settling_rests IsNamed (inr other) each = rests_same seal j from s u good d ((each (key_of j.sections s)).others (λ x.
      other (subst IsNamed (sym (same_section j number s x.0 is_held x.1.1 x.2)) x.1.0)))

  -- of a removal
  pub removing_rests : (IsDoomed : ℕ → Type 0) (GoesBefore : ℕ → ℕ → Type 0) → ((t : ℕ) → IsDoomed t → IsKnown j.sections t) → (IsDoomed s → ⊥) → Removing j.sections IsDoomed GoesBefore from d → Rests seal j from s u d
  removing_rests IsDoomed GoesBefore known stays at = rests_same seal j from s u good d (at.others (key_of j.sections s) (λ x.
      stays (subst IsDoomed (sym (key_injective j.sections.partition s x.0 (number s (inl is_held)) (number x.0 (known x.0 x.1)) x.2)) x.1)))

  pub removing_goes : (IsDoomed : ℕ → Type 0) (GoesBefore : ℕ → ℕ → Type 0) → IsDoomed s → Removing j.sections IsDoomed GoesBefore from d
      → MayLeaveWith seal u.page_size (HasKept seal j from s u (j.unrecovered s)) (d (key_of j.sections s))
  removing_goes IsDoomed GoesBefore doomed at = going_leaves seal u.page_size (HasKept seal j from s u (j.unrecovered s)) (from (key_of j.sections s)) (d (key_of j.sections s))
      (rests_now seal j from s u good).items (at.going.each s doomed)

-- of a replay
module _ {F S : Type 0} {gs : _} (seal : List ℕ → ℕ) (w : Walk F (PageBlob S gs)) (from d : Disk) (number : (t : ℕ) → IsKnown w.journal.sections t → t < 2 ^ 64) (s : ℕ) (u : PageBlob S gs) (good : IsGood seal w.journal from s u) (each : Each (ReplayingFrames seal w from) d) where
  cut_here : (cut : IsCutToFrames seal w from (key_of w.journal.sections s) (d (key_of w.journal.sections s))) → cut.section ≡ s
  cut_here cut = sym (same_section w.journal number s cut.section (some_there (w.journal.sections.held s) u good.held) (some_there (w.journal.sections.held cut.section) cut.buffer cut.held) cut.key)

  pub replaying_rests : w.journal.unrecovered s ≡ false → Rests seal w.journal from s u d
  replaying_rests free = elim (each (key_of w.journal.sections s)) [
    | inl at ↦ rests seal w.journal from s u good d (record { sealed = λ sealed. at.flushed s u good.held free sealed refl; prefix = λ un. at.prefix s u good.held free un refl })
    | inr cut ↦ absurd (let owes : w.journal.unrecovered s ≡ true = ap w.journal.unrecovered (sym (cut_here cut)) ∙ cut.owes in cc (owes, free))
  ]

  abbrev all : List ℕ
  all = sealed_prefix seal u.page_size (from (key_of w.journal.sections s)).content

  abbrev K : Bool → List ℕ → Type 0
  K = HasKept seal w.journal from s u

  cut_keeps : (cut : IsCutToFrames seal w from (key_of w.journal.sections s) (d (key_of w.journal.sections s))) → LeavesWith seal u.page_size (K true) (d (key_of w.journal.sections s))
  cut_keeps cut =
      let same : cut.buffer ≡ u = (let held = ap w.journal.sections.held (sym (cut_here cut)) ∙ cut.held in let own = good.held in cc (held, own)) in
      let leaves : Leaves seal u.page_size all (whole_end all) (d (key_of w.journal.sections s)) =
      subst (λ (v : PageBlob S gs). Leaves seal v.page_size (sealed_prefix seal v.page_size (from (key_of w.journal.sections s)).content) (whole_end (sealed_prefix seal v.page_size (from (key_of w.journal.sections s)).content)) (d (key_of w.journal.sections s))) same cut.leaves in
      let fine : HasBadLength (rest_of all) → ⊥ = subst (λ (v : PageBlob S gs). HasBadLength (rest_of (sealed_prefix seal v.page_size (from (key_of w.journal.sections s)).content)) → ⊥) same cut.torn in
      leaves_with seal u.page_size (K true) all (whole_end all) (d (key_of w.journal.sections s)) (λ c prefix. has_frames seal u.page_size all (whole_end all) c prefix (omega arith) fine) leaves

  owed_keeps : w.journal.unrecovered s ≡ true → LeavesWith seal u.page_size (K true) (d (key_of w.journal.sections s))
  owed_keeps owes = elim (each (key_of w.journal.sections s)) [
    | inl at ↦ elim (at.cut s u good.held owes refl) [
      | inl same ↦ subst (λ (y : Bool). LeavesWith seal u.page_size (K y) (d (key_of w.journal.sections s))) owes (rests_same seal w.journal from s u good d same).items
      | inr cut ↦ leaves_with seal u.page_size (K true) all (length all / 1 * 1) (d (key_of w.journal.sections s))
          (λ c prefix. all_same all (sealed_prefix seal u.page_size c) (prefix_all seal u.page_size all (length all / 1 * 1) c prefix (omega (arith, div-one (length all))))) cut.1
    ]
    | inr cut ↦ cut_keeps cut
  ]

  pub replaying_items : LeavesKept seal w.journal from s u d
  replaying_items = go (w.journal.unrecovered s) refl
    where
      go : (owes : Bool) → w.journal.unrecovered s ≡ owes → LeavesWith seal u.page_size (K owes) (d (key_of w.journal.sections s))
      go true owes = owed_keeps owes
      go false free = subst (λ (y : Bool). LeavesWith seal u.page_size (K y) (d (key_of w.journal.sections s))) free (replaying_rests free).items

-- of an opening
module _ (seal : List ℕ → ℕ) (P : ℕ) (partition : List ℕ) (pos : 1 ≤ P) (s : ℕ) where
  -- what had settled is left
  settled_all : (b : Blob) → StandsSettled b → LeavesWith seal P (HasAll (sealed_prefix seal P b.content)) b
  settled_all b rest = (let all = sealed_prefix seal P b.content in
      settled_leaves seal P (HasAll all) b pos (λ c prefix. all_same all (sealed_prefix seal P c) (prefix_all seal P all (length all) c prefix (omega arith))) rest)

  -- from what is said of each moment
  opening_keeps : (K : List ℕ → Type 0) (old new : Timeline) (M : Disk → Type 0) → Always old new M
      → ((d : Disk) → M d → (d (section_key partition s) ≡ disk old (section_key partition s)) ⊎ LeavesWith seal P K (d (section_key partition s)))
      → (StandsSettled (disk old (section_key partition s)) → LeavesWith seal P K (disk old (section_key partition s))) → OpeningKeeps seal P partition s K old new
  opening_keeps K old new M always at settled = record {
    settles = always_weaker old new M (λ d. (d (section_key partition s) ≡ disk old (section_key partition s)) ⊎ LeavesWith seal P K (d (section_key partition s))) at always;
    settled = λ rest. always_weaker old new M (λ d. LeavesWith seal P K (d (section_key partition s))) (λ d is. elim (at d is) [ inl same ↦ subst (LeavesWith seal P K) (sym same) (settled rest) | inr leaves ↦ leaves ]) always;
  }

  pub settling_opens : (most : ℕ) (old new : Timeline) → Always old new (Each (IsSettling partition most (disk old))) → OpeningKeeps seal P partition s (HasAll (sealed_bytes seal P partition (disk old) s)) old new
  settling_opens most old new always = opening_keeps (HasAll (sealed_bytes seal P partition (disk old) s)) old new (Each (IsSettling partition most (disk old))) always
      (λ d each. elim (each (section_key partition s)) [
        | inl same ↦ inl same
        | inr settled ↦ inr (subst (LeavesWith seal P (HasAll (sealed_bytes seal P partition (disk old) s))) (sym settled.4) (settled_all (settled_at (disk old (section_key partition s)).content) refl))
      ])
      (settled_all (disk old (section_key partition s)))

  judged_short : (b : Bool) (end : ℕ) (all : List ℕ) → length (cond b (take end all) all) ≤ length all
  judged_short true end all = omega (arith, length-take end all)
  judged_short false end all = omega arith

  pub bounding_opens : (last end : ℕ) (old new : Timeline) → Always old new (BoundingFrames seal P partition last end (disk old)) → s ≤ last → IsThere seal P partition last end (disk old) s
      → OpeningKeeps seal P partition s (HasSome (sealed_bytes seal P partition (disk old) s) (whole_end (judged_bytes seal P partition last end (disk old) s))) old new
  bounding_opens last end old new always under there =
      let all = sealed_bytes seal P partition (disk old) s in
      let least = whole_end (judged_bytes seal P partition last end (disk old) s) in
      let within : least ≤ length all = omega (arith, whole_within (judged_bytes seal P partition last end (disk old) s), judged_short (eqb s last) end all) in
      opening_keeps (HasSome all least) old new (BoundingFrames seal P partition last end (disk old)) always
      (λ d at. elim (at.kept s under there) [
        | inl same ↦ inl same
        | inr leaves ↦ inr (leaves_with seal P (HasSome all least) all least (d (section_key partition s)) (λ c prefix. has_some seal P all least c prefix least (omega arith)) leaves)
      ])
      (settled_leaves seal P (HasSome all least) (disk old (section_key partition s)) pos (λ c prefix. has_some seal P all (length all) c prefix least within))
