-- A blob off which a call takes nothing keeps its promise at every moment, by each kind of call. A section of which neither
-- the buffer nor the blob changes has the bytes that it had.
use Rattle.std.specs.Prelude.{◌≡◌, ◌≢◌, ◌⊎◌, ℕ, ◌<◌, ◌≤◌, ◌||◌, List, length, take, Option, None, Some, IsSomeAnd}
use Rattle.std.proofs.Common.{inl, inr, refl, sym, ◌∙◌, ap, subst, arith}
use Rattle.std.proofs.lemmas.Bool.{cases_Bool}
use Rattle.std.proofs.lemmas.List.{take_all}
use Rattle.blob_device.specs.Disk.{Key, Blob, Disk, past, settled_at}
use Rattle.blob_device.specs.Timeline.{Timeline, disk, Always, Each, OnlyAt}
use Rattle.blob_device.specs.lemmas.Moments.{always_weaker}
use Rattle.sealed_pages.specs.Buffer.{Buffer, flushed_of, bytes_of, Holds}
use Rattle.sealed_pages.specs.ChanceSeal.{NoChanceSeal, Leaves}
use Rattle.sealed_pages.specs.SealedPrefix.{sealed_prefix, Prefix}
use Rattle.sealed_pages.specs.Shown.{shown}
use Rattle.sealed_pages.specs.declared.page_blob.PageBlob.{PageBlob}
use Rattle.sealed_pages.specs.lemmas.Reaching.{rest_leaves}
use Rattle.sealed_pages.specs.lemmas.Unrecovered.{prefix_leaves, unrecovered_prefix}
use Rattle.sealed_pages.specs.lemmas.memory.Holding.{holds_leaves}
use Rattle.sealed_pages.specs.lemmas.slots.SealedBytes.{covers_length, sound_prefix, sound_to}
use Rattle.sealed_pages.specs.lemmas.slots.Steps.{below_sound, tidy_sound}
use Rattle.section_manager.specs.Lasting.{IsSettling, Removing}
use Rattle.section_manager.specs.Sections.{Sections, section_key, key_of, IsKeyOf}
use Rattle.segments.specs.FixedBounds.{bounded_size, Bounding, CuttingTail}
use Rattle.segments.specs.FixedLasting.{Settling}
use Rattle.segments.specs.FixedLists.{Lists}
use Rattle.segments.specs.FixedReplay.{Walk, Replaying}
use Rattle.segments.specs.FixedResting.{Promises, KeepsPromise, IsOnOne, IsOtherOrAt, TailSpares, BoundSpares, CutsNothing, IsRefusedAt}

-- a buffer over its blob promises this now
pub promised : (seal : List ℕ → ℕ) (u : Buffer) (b : Blob) → u.from < u.page_size → Promises seal u b b
promised seal u b begun = record {
  sealed = λ sealed. holds_leaves seal u (bytes_of u b.content) b begun sealed.holds;
  prefix = λ un. prefix_leaves seal u.page_size (sealed_prefix seal u.page_size b.content) (length (sealed_prefix seal u.page_size b.content)) b (omega arith) (unrecovered_prefix seal u b (omega (arith, begun)) un).0;
}

-- what a blob reads as under a buffer has a prefix of the bytes sealed, with all that has settled
pub held_prefix : (seal : List ℕ → ℕ) (u : Buffer) (all : List ℕ) (b : Blob) → u.from < u.page_size → Holds seal u all b → Prefix seal u.page_size all u.settled b.content
held_prefix seal u all b begun holds =
    let pos : 1 ≤ u.page_size = omega (arith, begun) in
    elim (cases_Bool (u.behind || u.torn)) [
      | inl left ↦ (let a = holds.state.adopted left in let k = a.0.content in
          let far : flushed_of u ≤ length (sealed_prefix seal u.page_size b.content) = covers_length seal u.page_size b.content (flushed_of u) a.0.σ pos k.covers in
          sound_prefix seal u.page_size all b.content (sound_to seal u.page_size all b.content (below_sound seal u.page_size all (flushed_of u) b.content k.fits k.below k.same)) u.settled (omega (arith, far, a.1)))
      | inr clean ↦ (let r = holds.state.ready clean in let f = r.flushed in
          let far : flushed_of u ≤ length (sealed_prefix seal u.page_size b.content) = covers_length seal u.page_size b.content (flushed_of u) r.τ pos f.covers in
          sound_prefix seal u.page_size all b.content (sound_to seal u.page_size all b.content (tidy_sound seal u.page_size all (flushed_of u) b.content f.fits f.quiet f.same)) u.settled (omega (arith, far, r.order)))
    ]

module _ (seal : List ℕ → ℕ) (P : ℕ) (bytes : List ℕ) (least : ℕ) (c : List ℕ) (first : Prefix seal P bytes least c) where
  -- a content with the same sealed prefix has as much of the bytes
  prefix_through : (d : List ℕ) → Prefix seal P (sealed_prefix seal P c) (length (sealed_prefix seal P c)) d → Prefix seal P bytes least d
  prefix_through d next =
      let long : length (sealed_prefix seal P d) ≡ length (sealed_prefix seal P c) = omega (arith, next.no_shorter, next.no_longer) in
      let same : sealed_prefix seal P d ≡ sealed_prefix seal P c = next.is ∙ take_all (length (sealed_prefix seal P d)) (sealed_prefix seal P c) (omega (arith, long)) in
      record {
        is = same ∙ first.is ∙ ap (λ (n : ℕ). take n bytes) (sym long);
        no_shorter = omega (arith, first.no_shorter, long);
        no_longer = omega (arith, first.no_longer, long);
      }

  pub leaves_through : (b : Blob) → Leaves seal P (sealed_prefix seal P c) (length (sealed_prefix seal P c)) b → Leaves seal P bytes least b
  leaves_through b leaves left may = go left (leaves left may)
    where
      go : (l : Option (List ℕ)) → IsSomeAnd l (λ d. NoChanceSeal seal P (past b) d → Prefix seal P (sealed_prefix seal P c) (length (sealed_prefix seal P c)) d)
          → IsSomeAnd l (λ d. NoChanceSeal seal P (past b) d → Prefix seal P bytes least d)
      go None has = has
      go (Some d) has = λ no. prefix_through d (has no)

-- a blob of which each crash leaves the sealed prefix that it read as keeps the promise
pub prefix_keeps : (seal : List ℕ → ℕ) (u : Buffer) (from b : Blob) → u.from < u.page_size
    → Leaves seal u.page_size (sealed_prefix seal u.page_size from.content) (length (sealed_prefix seal u.page_size from.content)) b → Promises seal u from b
prefix_keeps seal u from b begun leaves = record {
  sealed = λ sealed. leaves_through seal u.page_size (bytes_of u from.content) u.settled from.content (held_prefix seal u (bytes_of u from.content) from begun sealed.holds) b leaves;
  prefix = λ un. leaves;
}

module _ (seal : List ℕ → ℕ) (u : Buffer) (q : Key) (old new : Timeline) (begun : u.from < u.page_size) where
  -- a blob that stays keeps the promise
  pub as_before : (d : Disk) → d q ≡ disk old q → Promises seal u (disk old q) (d q)
  as_before d same = subst (Promises seal u (disk old q)) (sym same) (promised seal u (disk old q) begun)

  -- what keeps it at a moment keeps it at each
  keeping : (M : Disk → Type 0) → ((d : Disk) → M d → Promises seal u (disk old q) (d q)) → Always old new M → KeepsPromise seal u q old new
  keeping M keeps always = always_weaker old new M (λ (d : Disk). Promises seal u (disk old q) (d q)) keeps always

  pub other_keeps : (key : Key) → IsOnOne seal key old new → q ≢ key → KeepsPromise seal u q old new
  other_keeps key (inl alone) other = keeping (OnlyAt key (disk old) (λ b. Unit {0})) (λ d at. as_before d (at.others q other)) alone
  other_keeps key (inr sealing) other = keeping (OnlyAt key (disk old) (Leaves seal sealing.0 sealing.1 sealing.2)) (λ d at. as_before d (at.others q other)) sealing.3

  pub removing_keeps : {F B : Type 0} (m : Sections F B) (IsDoomed : ℕ → Type 0) (GoesBefore : ℕ → ℕ → Type 0) → Always old new (Removing m IsDoomed GoesBefore (disk old)) → (IsKeyOf m IsDoomed q → ⊥) → KeepsPromise seal u q old new
  removing_keeps m IsDoomed GoesBefore always apart = keeping (Removing m IsDoomed GoesBefore (disk old)) (λ d at. as_before d (at.others q apart)) always

  -- a cut of all behind a byte
  cutting_here : {F S : Type 0} {gs : _} (j : Lists F (PageBlob S gs)) (section n : ℕ) (d : Disk) → TailSpares j section n q → CuttingTail seal j section n (disk old) d → Promises seal u (disk old q) (d q)
  cutting_here j section n d (inl apart) at = as_before d (at.others q apart)
  cutting_here j section n d (inr within) at = elim at.last [
    | inl same ↦ as_before d (ap d within.key ∙ same ∙ ap (disk old) (sym within.key))
    | inr longer ↦ absurd (within.short longer.0)
  ]

  pub cutting_keeps : {F S : Type 0} {gs : _} (j : Lists F (PageBlob S gs)) (section n : ℕ) → Always old new (CuttingTail seal j section n (disk old)) → TailSpares j section n q → KeepsPromise seal u q old new
  cutting_keeps j section n always spares = keeping (CuttingTail seal j section n (disk old)) (λ d at. cutting_here j section n d spares at) always

  -- an opening
  opening_here : (partition : List ℕ) (most : ℕ) (d : Disk) → IsSettling partition most (disk old) q (d q) → Promises seal u (disk old q) (d q)
  opening_here partition most d (inl same) = as_before d same
  opening_here partition most d (inr settled) = subst (Promises seal u (disk old q)) (sym settled.4)
      (prefix_keeps seal u (disk old q) (settled_at (disk old q).content) begun (rest_leaves seal u.page_size (settled_at (disk old q).content) (omega (arith, begun)) refl))

  pub opening_keeps : (partition : List ℕ) (most : ℕ) → Always old new (Each (IsSettling partition most (disk old))) → KeepsPromise seal u q old new
  opening_keeps partition most always = keeping (Each (IsSettling partition most (disk old))) (λ d each. opening_here partition most d (each q)) always

  -- an opening up to a byte
  bounding_here : (size : ℕ) (partition : List ℕ) (last end : ℕ) (d : Disk) → BoundSpares seal u.page_size size partition last end (disk old) q
      → Bounding seal u.page_size size partition last end (disk old) d → Promises seal u (disk old q) (d q)
  bounding_here size partition last end d (inl apart) at = as_before d (at.others q apart)
  bounding_here size partition last end d (inr kept) at = subst (λ (k : Key). Promises seal u (disk old k) (d k)) (sym kept.key) (go (at.kept kept.section kept.under kept.there))
    where
      go : (d (section_key partition kept.section) ≡ disk old (section_key partition kept.section))
          ⊎ Leaves seal u.page_size (sealed_prefix seal u.page_size (disk old (section_key partition kept.section)).content)
          (bounded_size seal u.page_size size partition last end kept.section (disk old (section_key partition kept.section)).content) (d (section_key partition kept.section))
          → Promises seal u (disk old (section_key partition kept.section)) (d (section_key partition kept.section))
      go (inl same) = subst (Promises seal u (disk old (section_key partition kept.section))) (sym same) (promised seal u (disk old (section_key partition kept.section)) begun)
      go (inr leaves) = prefix_keeps seal u (disk old (section_key partition kept.section)) (d (section_key partition kept.section)) begun
          (subst (λ (n : ℕ). Leaves seal u.page_size (sealed_prefix seal u.page_size (disk old (section_key partition kept.section)).content) n (d (section_key partition kept.section))) kept.whole leaves)

  pub bounding_keeps : (size : ℕ) (partition : List ℕ) (last end : ℕ) → Always old new (Bounding seal u.page_size size partition last end (disk old)) → BoundSpares seal u.page_size size partition last end (disk old) q → KeepsPromise seal u q old new
  bounding_keeps size partition last end always spares = keeping (Bounding seal u.page_size size partition last end (disk old)) (λ d at. bounding_here size partition last end d spares at) always

module _ {F S : Type 0} {gs : _} (seal : List ℕ → ℕ) (u : PageBlob S gs) (q : Key) (old new : Timeline) (begun : u.from < u.page_size) where
  -- a sync
  settling_here : (j : Lists F (PageBlob S gs)) (IsNamed : ℕ → Type 0) (d : Disk) → IsOtherOrAt j.sections IsNamed q u → Settling seal j IsNamed (disk old) q (d q) → Promises seal (shown u) (disk old q) (d q)
  settling_here j IsNamed d (inl apart) at = as_before seal (shown u) q old new begun d (at.others (λ key. apart (key.0, key.1.0, key.2)))
  settling_here j IsNamed d (inr it) at = record {
    sealed = λ sealed. at.named it.section u it.named it.held sealed it.key;
    prefix = λ un. at.prefix it.section u it.named it.held un it.key;
  }

  pub settling_keeps : (j : Lists F (PageBlob S gs)) (IsNamed : ℕ → Type 0) → Always old new (Each (Settling seal j IsNamed (disk old))) → IsOtherOrAt j.sections IsNamed q u → KeepsPromise seal (shown u) q old new
  settling_keeps j IsNamed always at = always_weaker old new (Each (Settling seal j IsNamed (disk old))) (λ (d : Disk). Promises seal (shown u) (disk old q) (d q)) (λ d each. settling_here j IsNamed d at (each q)) always

  module _ (size : ℕ) (w : Walk F (PageBlob S gs)) where
    -- a replay that is refused below a floor leaves the blob
    refused_here : (s : ℕ) (d : Disk) → w.journal.sections.held s ≡ Some u → q ≡ key_of w.journal.sections s → IsRefusedAt seal size w (disk old) q u s → Replaying seal size w (disk old) q (d q) → d q ≡ disk old q
    refused_here s d held key refused at = elim (at.cut s u held refused.owes key) [
      | inl same ↦ same
      | inr cut ↦ absurd (omega (arith, cut.0, refused.below))
    ]

    replaying_here : (d : Disk) → CutsNothing seal size w (disk old) q u → Replaying seal size w (disk old) q (d q) → Promises seal (shown u) (disk old q) (d q)
    replaying_here d (inl apart) at = as_before seal (shown u) q old new begun d (at.others apart)
    replaying_here d (inr uncut) at = elim uncut.whole [
      | inl free ↦ record {
        sealed = λ sealed. at.flushed uncut.section u uncut.held free sealed uncut.key;
        prefix = λ un. at.prefix uncut.section u uncut.held free un uncut.key;
      }
      | inr (inl still) ↦ as_before seal (shown u) q old new begun d (at.still uncut.section u uncut.held still uncut.key)
      | inr (inr refused) ↦ as_before seal (shown u) q old new begun d (refused_here uncut.section d uncut.held uncut.key refused at)
    ]

    pub replaying_keeps : Always old new (Each (Replaying seal size w (disk old))) → CutsNothing seal size w (disk old) q u → KeepsPromise seal (shown u) q old new
    replaying_keeps always nothing = always_weaker old new (Each (Replaying seal size w (disk old))) (λ (d : Disk). Promises seal (shown u) (disk old q) (d q)) (λ d each. replaying_here d nothing (each q)) always
