-- The second cut of a section, to its whole frames.
use Rattle.std.specs.Prelude.{◌≡◌, ◌≢◌, ◌⊎◌, ◌↔◌, ℕ, ◌/◌, ◌^◌, cond, eqb, ◌<◌, ◌≤◌, Bool, false, true, List, [], length, take, Option, Some, None, Result, Ok, Err, OnOk, OnErr, IsTrue, IsSome, IsSomeAnd}
use Rattle.std.proofs.Common.{inl, inr, refl, sym, ap, ◌∙◌, subst, arith}
use Rattle.std.proofs.lemmas.Bool.{cases_eq}
use Rattle.blob_device.specs.Disk.{Key, Blob, Disk}
use Rattle.blob_device.specs.Timeline.{Timeline, disk, Always, Each, OnlyAt}
use Rattle.blob_device.specs.declared.device.Device as device
use Rattle.blob_device.specs.lemmas.Moments.{always_now, always_then, always_weaker}
use Rattle.blob_device.specs.lemmas.Puts.{same_or_other}
use Rattle.sealed_pages.specs.Buffer.{bytes_of, IsSealed}
use Rattle.sealed_pages.specs.ChanceSeal.{Leaves}
use Rattle.sealed_pages.specs.SealedPrefix.{sealed_prefix}
use Rattle.sealed_pages.specs.Shown.{shown}
use Rattle.sealed_pages.specs.Unrecovered.{IsUnrecovered}
use Rattle.sealed_pages.specs.declared.page_blob.PageBlob.{PageBlob}
use Rattle.section_manager.specs.Sections.{section_key, key_of, HasOpened, IsHeld, IsKeyOf}
use Rattle.section_manager.specs.Setting.{Setting}
use Rattle.section_manager.specs.declared.buffer.SectionBuffer as buffer
use Rattle.section_manager.specs.declared.journal.Error.{Error}
use Rattle.section_manager.specs.lemmas.Keys.{keys_differ}
use Rattle.segments.specs.FixedCursor.{Shortens}
use Rattle.segments.specs.FixedLists.{bytes_held, section_bytes, section_size, size_held}
use Rattle.segments.specs.FixedReplay as bytes
use Rattle.segments.specs.FixedReplay.{Walk, Place, IsAhead, IsIn, IsGoneOver, IsSameOrCut, KeepsSections, SameWalk, StaysStill, first_of, kept_of}
use Rattle.segments.specs.FixedStepping.{IsCutBack}
use Rattle.segments.specs.lemmas.FixedOwed.{cut_then, same_or_cut}
use Rattle.segments.specs.lemmas.replay.Walks.{MayCut, MayFlush, MayPrefix}
use Rattle.variable_journal.specs.lemmas.Frame.{rest_none}
use Rattle.variable_journal.specs.lemmas.Offset.{cut_whole}
use Rattle.variable_journal.specs.lemmas.Running.{frames_cut, frames_same, frames_then}
use Rattle.variable_journal.specs.Frames.{rest_of, whole_end, HasBadLength}
use Rattle.variable_journal.specs.Lists.{AreFramed}
use Rattle.variable_journal.specs.Replaying.{AreWalked, IsBoundary, IsItemAt, IsItemLeft, IsStart, KeepsFrames, ReplayingFrames, given_bytes}
use Rattle.variable_journal.specs.Advancing.{HasPassed, Keeps, LeavesLess}
use Rattle.variable_journal.specs.Turning.{BytesGo}
use Rattle.blob_device.proofs.general.Options.{none_in, same_some, some_of, some_there}

-- a replay of bytes may leave as much of a blob that no call has touched
replaying_as : {F S : Type 0} {gs : _} (seal : List ℕ → ℕ) (old new : Walk F (PageBlob S gs)) (d e : Disk) (q : Key) (b : Blob) → e q ≡ d q
    → ((s : ℕ) → q ≡ key_of old.journal.sections s → new.journal.sections.held s ≡ old.journal.sections.held s)
    → ((s : ℕ) → new.journal.unrecovered s ≡ old.journal.unrecovered s) → ((s : ℕ) → new.journal.floor_of s ≡ old.journal.floor_of s)
    → ((s : ℕ) → key_of new.journal.sections s ≡ key_of old.journal.sections s)
    → ((s : ℕ) → q ≡ key_of old.journal.sections s → IsHeld new.journal.sections s × (IsAhead new s ⊎ IsIn new s) → IsHeld old.journal.sections s × (IsAhead old s ⊎ IsIn old s))
    → bytes.Replaying seal 1 new e q b → bytes.Replaying seal 1 old d q b
replaying_as {S = S} {gs = gs} seal old new d e q b blob held owes floors keys near rep = record {
  flushed = λ s u is free sealed here. subst (λ (x : Blob). MayFlush seal u x b) blob (rep.flushed s u (held s here ∙ is) (owes s ∙ free) (subst (IsSealed seal (shown u)) (sym blob) sealed) (here ∙ sym (keys s)));
  prefix = λ s u is free un here. subst (λ (x : Blob). MayPrefix seal u x b) blob (rep.prefix s u (held s here ∙ is) (owes s ∙ free) (subst (IsUnrecovered seal (shown u)) (sym blob) un) (here ∙ sym (keys s)));
  cut = λ s u is owed here. subst (λ (n : ℕ). MayCut seal 1 u n (d q) b) (floors s) (subst (λ (x : Blob). MayCut seal 1 u (new.journal.floor_of s) x b) blob
      (rep.cut s u (held s here ∙ is) (subst IsTrue (sym (owes s)) owed) (here ∙ sym (keys s))));
  still = λ s u is rest here. rep.still s u (held s here ∙ is) (subst (λ (o : Bool). StaysStill seal 1 o u (e q)) (sym (owes s)) (subst (StaysStill seal 1 (old.journal.unrecovered s) u) (sym blob) rest)) (here ∙ sym (keys s)) ∙ blob;
  others = λ never. rep.others (λ x. never (x.0, near x.0 (x.2 ∙ keys x.0) x.1, x.2 ∙ keys x.0)) ∙ blob;
}

ok_at : {P : Type 0} (y : Result (Unit {0}) Error) → y ≡ Ok tt → OnOk y P → P
ok_at (Ok y) same has = has
ok_at (Err y) same has = absurd (cc same)

err_at : {P : Type 0} (y : Result (Unit {0}) Error) (x : Error) → y ≡ Err x → OnErr y P → P
err_at (Ok y) x same has = absurd (cc same)
err_at (Err y) x same has = has

no_more : {A : Type 0} {o : Option A} {y : A} → o ≡ Some y → o ≡ None → ⊥
no_more is none = cc (is, none)

none_some : {A : Type 0} {o : Option A} → o ≡ None → IsSome o → ⊥
none_some is some = cc (subst IsSome is some)

module _ {F S D : Type 0} {gs : _} (g : buffer.Ghosts (PageBlob S gs)) (gives : F → Setting) (seal : List ℕ → ℕ) (dev : device.Ghosts D) (w k n : Walk F (PageBlob S gs)) (a c z : D) (s0 N : ℕ)
    (run : HasPassed g gives seal dev w k a c) (going : k.ended ≡ false) (over_k : BytesGo g gives seal dev k c) (none : k.place ≡ None) (not_ahead : IsAhead k s0 → ⊥) (near : IsAhead w s0 ⊎ IsIn w s0)
    (u0 : PageBlob S gs) (held0 : k.journal.sections.held s0 ≡ Some u0) (owes0 : IsTrue (k.journal.unrecovered s0))
    (bytes_k : dev.Tells → section_bytes k.journal.sections (disk (dev.time c)) s0 ≡ given_bytes seal k (disk (dev.time c)) s0)
    (given_k : dev.Tells → given_bytes seal k (disk (dev.time c)) s0 ≡ given_bytes seal w (disk (dev.time a)) s0)
    (end_of : dev.Tells → N ≡ whole_end (given_bytes seal w (disk (dev.time a)) s0))
    (short : dev.Tells → HasBadLength (rest_of (given_bytes seal w (disk (dev.time a)) s0)) → ⊥)
    (within : N ≤ section_size k.journal.sections s0) (free : (s : ℕ) → w.journal.floor_of s ≡ 0)
    (result : Result (Unit {0}) Error) (cut : Shortens seal 1 g gives dev s0 N result k n c z) where
  abbrev d : Disk
  d = disk (dev.time a)

  abbrev e : Disk
  e = disk (dev.time c)

  abbrev f : Disk
  f = disk (dev.time z)

  kept : Keeps g gives seal dev w k a c
  kept = run.gone.keeps

  abbrev K : Key
  K = key_of k.journal.sections s0

  key_n : (s : ℕ) → key_of n.journal.sections s ≡ key_of k.journal.sections s
  key_n s = ap (λ (p : List ℕ). section_key p s) cut.touches.bounds.place.partition

  key_k : (s : ℕ) → key_of k.journal.sections s ≡ key_of w.journal.sections s
  key_k s = ap (λ (p : List ℕ). section_key p s) kept.same.bounds.place.partition

  known : IsHeld k.journal.sections s0
  known = some_there (k.journal.sections.held s0) u0 held0

  -- the section's buffer before, and what is given of it
  uw : (u : PageBlob S gs) × (w.journal.sections.held s0 ≡ Some u)
  uw = some_of (w.journal.sections.held s0) ((run.gone.goes.held s0).0 known)

  page : u0.page_size ≡ uw.0.page_size
  page = (kept.floors s0 uw.0 u0 uw.1 held0).page_size

  owes_w : IsTrue (w.journal.unrecovered s0)
  owes_w = subst IsTrue (kept.same.unrecovered s0) owes0

  sealed_w : sealed_prefix seal uw.0.page_size (d (key_of w.journal.sections s0)).content ≡ given_bytes seal w d s0
  sealed_w = sym (λ i. kept_of seal (owes_w i) (uw.1 i) (d (key_of w.journal.sections s0)).content)

  sealed_k : sealed_prefix seal u0.page_size (e K).content ≡ given_bytes seal k e s0
  sealed_k = sym (λ i. kept_of seal (owes0 i) (held0 i) (e K).content)

  -- a section that is ahead is another one
  other_near : (s : ℕ) → IsAhead n s ⊎ IsIn n s → s ≢ s0
  other_near s (inl ahead) is = not_ahead (subst (IsAhead k) is (subst (λ (o : Option ℕ). IsSomeAnd o (λ m. m ≤ s)) cut.rest.next ahead))
  other_near s (inr there) is = none_in n.place (λ p. p.section ≡ s) (cut.rest.place ∙ none) there

  near_k : (s : ℕ) → IsAhead n s ⊎ IsIn n s → IsAhead k s ⊎ IsIn k s
  near_k s (inl ahead) = inl (subst (λ (o : Option ℕ). IsSomeAnd o (λ m. m ≤ s)) cut.rest.next ahead)
  near_k s (inr there) = inr (subst (λ (o : Option Place). IsSomeAnd o (λ p. p.section ≡ s)) cut.rest.place there)

  number : (s : ℕ) → IsHeld k.journal.sections s → s < 2 ^ 64
  number s held = over_k.over.opened_list.number s (inl held)

  key_other : (s : ℕ) → s ≢ s0 → IsHeld k.journal.sections s → key_of k.journal.sections s ≢ K
  key_other s other held = keys_differ k.journal.sections.partition s s0 (number s held) (number s0 known) other

  blob_other : dev.Tells → (s : ℕ) → s ≢ s0 → IsHeld k.journal.sections s → f (key_of n.journal.sections s) ≡ e (key_of k.journal.sections s)
  blob_other t s other held = ap f (key_n s) ∙ cut.touches.blobs t (key_of k.journal.sections s) (key_other s other held)

  -- what is given of another section is as before
  given_other : dev.Tells → (s : ℕ) → s ≢ s0 → given_bytes seal n f s ≡ given_bytes seal k e s
  given_other t s other = go (k.journal.sections.held s) refl
    where
      go : (o : Option (PageBlob S gs)) → k.journal.sections.held s ≡ o → given_bytes seal n f s ≡ given_bytes seal k e s
      go None is =
          ap (λ (h : Option (PageBlob S gs)). kept_of seal (n.journal.unrecovered s) h (f (key_of n.journal.sections s)).content) ((cut.touches.others s other).held ∙ is)
          ∙ sym (ap (λ (h : Option (PageBlob S gs)). kept_of seal (k.journal.unrecovered s) h (e (key_of k.journal.sections s)).content) is)
      go (Some u) is = (let there = blob_other t s other (some_there (k.journal.sections.held s) u is) in λ i. kept_of seal (cut.rest.unrecovered s i) ((cut.touches.others s other).held i) (there i).content)

  -- at each moment of the cut
  moments_cut : dev.Tells → Always (dev.time a) (dev.time z) (Each (ReplayingFrames seal w d))
  moments_cut t = always_then (dev.time a) (dev.time c) (dev.time z) (Each (ReplayingFrames seal w d)) (kept.moments t)
      (always_weaker (dev.time c) (dev.time z) (OnlyAt K e (Leaves seal u0.page_size (section_bytes k.journal.sections e s0) N)) (Each (ReplayingFrames seal w d)) each (cut.moments t u0 held0))
    where
      G : List ℕ
      G = given_bytes seal w d s0

      at_key : (x : Blob) → Leaves seal u0.page_size (section_bytes k.journal.sections e s0) N x → Leaves seal uw.0.page_size (sealed_prefix seal uw.0.page_size (d (key_of w.journal.sections s0)).content) (whole_end (sealed_prefix seal uw.0.page_size (d (key_of w.journal.sections s0)).content)) x
      at_key x has =
          subst (λ (l : List ℕ). Leaves seal uw.0.page_size l (whole_end l) x) (sym sealed_w)
          (subst (λ (m : ℕ). Leaves seal uw.0.page_size G m x) (end_of t)
          (subst (λ (l : List ℕ). Leaves seal uw.0.page_size l N x) (bytes_k t ∙ given_k t)
          (subst (λ (P : ℕ). Leaves seal P (section_bytes k.journal.sections e s0) N x) page has)))

      each : (x : Disk) → OnlyAt K e (Leaves seal u0.page_size (section_bytes k.journal.sections e s0) N) x → Each (ReplayingFrames seal w d) x
      each x only q = elim (same_or_other q K) [
        | inr other ↦ subst (ReplayingFrames seal w d q) (sym (only.others q other)) (always_now (dev.time a) (dev.time c) (Each (ReplayingFrames seal w d)) (kept.moments t) q)
        | inl is ↦
            let at : key_of w.journal.sections s0 ≡ q = sym (is ∙ key_k s0) in
            subst (λ (y : Key). ReplayingFrames seal w d y (x y)) at (inr (record {
              section = s0;
              buffer = uw.0;
              held = uw.1;
              owes = owes_w;
              near = near;
              key = refl;
              torn = λ bad. short t (subst (λ (l : List ℕ). HasBadLength (rest_of l)) sealed_w bad);
              leaves = at_key (x (key_of w.journal.sections s0)) (subst (λ (y : Key). Leaves seal u0.page_size (section_bytes k.journal.sections e s0) N (x y)) (key_k s0) only.here);
            }))
      ]

  same_cut : SameWalk w n
  same_cut = record {
    bounds = record {
      place = record { partition = cut.touches.bounds.place.partition ∙ kept.same.bounds.place.partition; factory = cut.touches.bounds.place.factory ∙ kept.same.bounds.place.factory };
      floor = cut.touches.bounds.floor ∙ kept.same.bounds.floor;
      ceiling = cut.touches.bounds.ceiling ∙ kept.same.bounds.ceiling;
    };
    unrecovered = λ s. cut.rest.unrecovered s ∙ kept.same.unrecovered s;
    floors = λ s. cut.rest.floors s ∙ kept.same.floors s;
    section = cut.rest.section ∙ kept.same.section;
    position = cut.rest.position ∙ kept.same.position;
  }

  entries_cut : (q : Key) → (IsKeyOf w.journal.sections (λ s. IsHeld w.journal.sections s × (IsAhead w s ⊎ IsIn w s)) q → ⊥) → dev.opened z q ≡ dev.opened a q
  entries_cut q never = cut.touches.entries q (λ is. never (s0, (some_there (w.journal.sections.held s0) uw.0 uw.1, near), is ∙ key_k s0)) ∙ kept.entries q never

  faults_cut : dev.faults a ≤ dev.faults z
  faults_cut = omega (arith, kept.faults, cut.faults)

  module _ (over_n : HasOpened g gives n.journal.sections (dev.opened z)) where
    was_held : (s : ℕ) → s ≢ s0 → IsHeld n.journal.sections s → IsHeld k.journal.sections s
    was_held s other held = subst IsSome (cut.touches.others s other).held held

    -- what had been gone over is as it was
    behind_cut : dev.Tells → (s : ℕ) → IsHeld w.journal.sections s → IsHeld n.journal.sections s → (IsAhead w s ⊎ IsIn w s → ⊥) → given_bytes seal n f s ≡ given_bytes seal w d s
    behind_cut t s before after far =
        let other : s ≢ s0 = λ is. far (subst (λ (y : ℕ). IsAhead w y ⊎ IsIn w y) (sym is) near) in
        given_other t s other ∙ (kept.on_disk t).behind s before (was_held s other after) far

    -- another section that owes no replay is whole frames still
    pub framed_other : dev.Tells → AreFramed k.journal e → (s : ℕ) → n.journal.unrecovered s ≡ false → rest_of (section_bytes n.journal.sections f s) ≡ []
    framed_other t framed s free = (
        let was : k.journal.unrecovered s ≡ false = sym (cut.rest.unrecovered s) ∙ free in
        let other : s ≢ s0 = λ is. free_owed (k.journal.unrecovered s0) (subst (λ (x : ℕ). k.journal.unrecovered x ≡ false) is was) owes0 in
        go other was (k.journal.sections.held s) refl)
      where
        free_owed : (o : Bool) → o ≡ false → IsTrue o → ⊥
        free_owed o off on = cc (off, on)

        go : s ≢ s0 → k.journal.unrecovered s ≡ false → (o : Option (PageBlob S gs)) → k.journal.sections.held s ≡ o → rest_of (section_bytes n.journal.sections f s) ≡ []
        go other was None is = ap (λ (h : Option (PageBlob S gs)). rest_of (bytes_held h (f (key_of n.journal.sections s)).content)) ((cut.touches.others s other).held ∙ is) ∙ rest_none
        go other was (Some u) is = (let there = blob_other t s other (some_there (k.journal.sections.held s) u is) in
            (λ i. rest_of (bytes_held ((cut.touches.others s other).held i) (there i).content)) ∙ framed s was)

    onward_cut : (s : ℕ) → IsAhead n s ⊎ IsIn n s → IsAhead w s ⊎ IsIn w s
    onward_cut s near_n = kept.onward s (near_k s near_n)

    -- the cut failed
    module _ (x : Error) (is : result ≡ Err x) where
      lost : ((n.journal.sections.held s0 ≡ None) × IsSome (n.journal.sections.unopened s0)) ⊎ ((n.journal.sections.held s0 ≡ k.journal.sections.held s0) × (dev.time z ≡ dev.time c))
      lost = err_at result x is cut.touches.lost

      -- what is held still is as it was
      same_held : (s : ℕ) (v : PageBlob S gs) → n.journal.sections.held s ≡ Some v → (k.journal.sections.held s ≡ Some v) × (dev.Tells → f (key_of n.journal.sections s) ≡ e (key_of k.journal.sections s))
      same_held s v held = elim (cases_eq s s0) [
        | inr other ↦ (let was : k.journal.sections.held s ≡ Some v = sym (cut.touches.others s other).held ∙ held in (was, λ t. blob_other t s other (some_there (k.journal.sections.held s) v was)))
        | inl at ↦ elim lost [
          | inl gone ↦ absurd (no_more (subst (λ (y : ℕ). n.journal.sections.held y ≡ Some v) at held) gone.0)
          | inr same ↦ (
            subst (λ (y : ℕ). k.journal.sections.held y ≡ Some v) (sym at) (sym same.0 ∙ subst (λ (y : ℕ). n.journal.sections.held y ≡ Some v) at held),
            λ t. ap f (key_n s) ∙ ap (λ (y : Timeline). disk y (key_of k.journal.sections s)) same.1,
          )
        ]
      ]

      stays_lost : KeepsSections k n
      stays_lost s none_there = elim (cases_eq s s0) [
        | inr other ↦ (let same = cut.touches.others s other in (sym same.unopened ∙ none_there, (λ h. subst IsSome same.held h, λ h. subst IsSome (sym same.held) h)))
        | inl at ↦ elim lost [
          | inl gone ↦ absurd (none_some (subst (λ (y : ℕ). n.journal.sections.unopened y ≡ None) at none_there) gone.1)
          | inr same ↦ (
            over_k.over.opened_list.apart s (subst (IsHeld k.journal.sections) (sym at) known),
            ((λ h. subst (IsHeld k.journal.sections) (sym at) known), (λ h. subst (IsHeld n.journal.sections) (sym at) (subst IsSome (sym same.0) known))),
          )
        ]
      ]

      pub keeps_lost : n.ended ≡ true → Keeps g gives seal dev w n a z
      keeps_lost ended = record {
        same = same_cut;
        stays = λ s never. (let more = stays_lost s never in let was = kept.stays s more.0 in (was.0, (λ h. was.1.0 (more.1.0 h), λ h. more.1.1 (was.1.1 h))));
        floors = λ s u v held now. kept.floors s u v held (same_held s v now).0;
        onward = onward_cut;
        on_disk = λ t. record {
          bytes = λ s u v held now free. (let was = same_held s v now in let first = (kept.on_disk t).bytes s u v held was.0 free in record {
            size = first.size;
            settled = first.settled;
            bytes = λ y. ap (λ (b : Blob). bytes_of (shown v) b.content) (ap f (sym (key_k s)) ∙ sym (ap f (key_n s)) ∙ was.1 t ∙ ap e (key_k s)) ∙ first.bytes y;
          });
          items = λ going_n s u held owed. absurd (cc (ended, going_n));
          behind = behind_cut t;
        };
        moments = moments_cut;
        entries = entries_cut;
        faults = faults_cut;
      }

    -- it was cut
    module _ (is : result ≡ Ok tt) where
      known_n : IsHeld n.journal.sections s0
      known_n = ok_at result is cut.touches.held

      v0 : (v : PageBlob S gs) × (n.journal.sections.held s0 ≡ Some v)
      v0 = some_of (n.journal.sections.held s0) known_n

      did : IsCutBack seal dev.Tells u0 (e K) v0.0 (f K) N
      did = ok_at result is cut.cut u0 v0.0 held0 v0.1

      held_same : (s : ℕ) → IsHeld n.journal.sections s ↔ IsHeld k.journal.sections s
      held_same s = elim (cases_eq s s0) [
        | inr other ↦ (λ h. subst IsSome (cut.touches.others s other).held h, λ h. subst IsSome (sym (cut.touches.others s other).held) h)
        | inl at ↦ (λ h. subst (IsHeld k.journal.sections) (sym at) known, λ h. subst (IsHeld n.journal.sections) (sym at) known_n)
      ]

      unopened_same : (s : ℕ) → n.journal.sections.unopened s ≡ k.journal.sections.unopened s
      unopened_same s = elim (cases_eq s s0) [
        | inr other ↦ (cut.touches.others s other).unopened
        | inl at ↦ over_n.apart s (subst (IsHeld n.journal.sections) (sym at) known_n) ∙ sym (over_k.over.opened_list.apart s (subst (IsHeld k.journal.sections) (sym at) known))
      ]

      -- the section's sealed prefix ends behind its whole frames
      sealed_cut : dev.Tells → sealed_prefix seal u0.page_size (f K).content ≡ take (whole_end (sealed_prefix seal u0.page_size (e K).content)) (sealed_prefix seal u0.page_size (e K).content)
      sealed_cut t = did.prefix t ∙ ap (λ (y : ℕ). take y (sealed_prefix seal u0.page_size (e K).content)) (end_of t ∙ ap whole_end (sym (sealed_k ∙ given_k t)))

      frames_here : (t : dev.Tells) → KeepsFrames seal u0.page_size (e K) (f K)
      frames_here t = frames_cut seal u0.page_size (e K) (f K) (sealed_cut t) (λ bad. short t (subst (λ (l : List ℕ). HasBadLength (rest_of l)) (sealed_k ∙ given_k t) bad)) (did.rests t)

      items_cut : (t : dev.Tells) (s : ℕ) (u : PageBlob S gs) → w.journal.sections.held s ≡ Some u → IsTrue (w.journal.unrecovered s) → KeepsFrames seal u.page_size (d (key_of w.journal.sections s)) (f (key_of w.journal.sections s))
      items_cut t s u held owed =
          frames_then seal u.page_size (d (key_of w.journal.sections s)) (e (key_of w.journal.sections s)) (f (key_of w.journal.sections s)) ((kept.on_disk t).items going s u held owed)
          (subst (λ (q : Key). KeepsFrames seal u.page_size (e q) (f q)) (key_k s) (elim (cases_eq s s0) [
            | inr other ↦ frames_same seal u.page_size (e (key_of k.journal.sections s)) (f (key_of k.journal.sections s)) (sym (ap f (key_n s)) ∙ blob_other t s other ((run.gone.goes.held s).1 (some_there (w.journal.sections.held s) u held)))
            | inl at ↦
                let same : u ≡ uw.0 = same_some (w.journal.sections.held s0) uw.0 u uw.1 (subst (λ (y : ℕ). w.journal.sections.held y ≡ Some u) at held) in
                subst (λ (P : ℕ). KeepsFrames seal P (e (key_of k.journal.sections s)) (f (key_of k.journal.sections s))) (page ∙ sym (ap (λ (y : PageBlob S gs). y.page_size) same))
                (subst (λ (y : ℕ). KeepsFrames seal u0.page_size (e (key_of k.journal.sections y)) (f (key_of k.journal.sections y))) (sym at) (frames_here t))
          ]))

      floors_cut : (s : ℕ) (u v : PageBlob S gs) → k.journal.sections.held s ≡ Some u → n.journal.sections.held s ≡ Some v → IsSameOrCut 0 u v
      floors_cut s u v held now = elim (cases_eq s s0) [
        | inr other ↦ same_or_cut 0 u v (same_some (k.journal.sections.held s) u v held (sym (cut.touches.others s other).held ∙ now))
        | inl at ↦
            let u_is : u ≡ u0 = same_some (k.journal.sections.held s0) u0 u held0 (subst (λ (y : ℕ). k.journal.sections.held y ≡ Some u) at held) in
            let v_is : v ≡ v0.0 = same_some (n.journal.sections.held s0) v0.0 v v0.1 (subst (λ (y : ℕ). n.journal.sections.held y ≡ Some v) at now) in
            subst (λ (y : PageBlob S gs). IsSameOrCut 0 y v) (sym u_is) (subst (IsSameOrCut 0 u0) (sym v_is) (record {
              page_size = did.page_size;
              shorter = omega (arith, did.size, within, ap size_held held0);
              reached = inr (omega arith);
            }))
      ]

      keeps_cut : Keeps g gives seal dev w n a z
      keeps_cut = record {
        same = same_cut;
        stays = λ s never. (let was = kept.stays s (sym (unopened_same s) ∙ never) in (was.0, (λ h. was.1.0 ((held_same s).0 h), λ h. (held_same s).1 (was.1.1 h))));
        floors = λ s u v held now. (let x = some_of (k.journal.sections.held s) ((held_same s).0 (some_there (n.journal.sections.held s) v now)) in
            cut_then (w.journal.floor_of s) u x.0 v (kept.floors s u x.0 held x.1) (subst (λ (y : ℕ). IsSameOrCut y x.0 v) (sym (free s)) (floors_cut s x.0 v x.1 now)));
        onward = onward_cut;
        on_disk = λ t. record {
          bytes = λ s u v held now unowed. (
              let other : s ≢ s0 = λ at. owed_free (w.journal.unrecovered s) (subst (λ (y : ℕ). IsTrue (w.journal.unrecovered y)) (sym at) owes_w) unowed in
              let was : k.journal.sections.held s ≡ Some v = sym (cut.touches.others s other).held ∙ now in
              let first = (kept.on_disk t).bytes s u v held was unowed in
              record {
                size = first.size;
                settled = first.settled;
                bytes = λ y. ap (λ (b : Blob). bytes_of (shown v) b.content) (ap f (sym (key_k s)) ∙ sym (ap f (key_n s)) ∙ blob_other t s other (some_there (k.journal.sections.held s) v was) ∙ ap e (key_k s)) ∙ first.bytes y;
              });
          items = λ still s u held owed. items_cut t s u held owed;
          behind = behind_cut t;
        };
        moments = moments_cut;
        entries = entries_cut;
        faults = faults_cut;
      }
        where
          owed_free : (o : Bool) → IsTrue o → o ≡ false → ⊥
          owed_free o on off = cc (off, on)

      -- what is left is as before: the section was gone over
      left_cut : (t : dev.Tells) (s o : ℕ) (i : List ℕ) → IsItemLeft seal n f s o i ↔ IsItemLeft seal k e s o i
      left_cut t s o i = (forth, back)
        where
          first_same : first_of n s ≡ first_of k s
          first_same = λ i. cond (eqb s (cut.rest.section i)) (cut.rest.position i) 0

          near_byte : (x : Walk F (PageBlob S gs)) (y : Disk) → bytes.IsLeft seal 1 x y s o → IsAhead x s ⊎ IsIn x s
          near_byte x y l = elim l.ahead [ inl here ↦ inl here.1 | inr there ↦ inr (in_of x.place there) ]
            where
              in_of : (p : Option Place) → IsSomeAnd p (λ q. (q.section ≡ s) × (q.position ≤ o)) → IsSomeAnd p (λ q. q.section ≡ s)
              in_of None has = has
              in_of (Some q) has = has.0

          other_k : IsAhead k s → s ≢ s0
          other_k ahead at = not_ahead (subst (IsAhead k) at ahead)

          forth : IsItemLeft seal n f s o i → IsItemLeft seal k e s o i
          forth l =
              let b = l.byte in
              let other = other_near s (near_byte n f b) in
              let same = given_other t s other in
              record {
                byte = record {
                  goes_on = going;
                  begun = subst (λ (y : ℕ). y ≤ o) first_same b.begun;
                  whole = subst (λ (y : List ℕ). o < length y / 1) same b.whole;
                  ahead = elim b.ahead [
                    | inl here ↦ inl ((held_same s).0 here.0, subst (λ (y : Option ℕ). IsSomeAnd y (λ m. m ≤ s)) cut.rest.next here.1)
                    | inr there ↦ absurd (none_in n.place (λ p. (p.section ≡ s) × (p.position ≤ o)) (cut.rest.place ∙ none) there)
                  ];
                };
                whole = subst (λ (y : List ℕ). IsItemAt y o i) same l.whole;
              }

          back : IsItemLeft seal k e s o i → IsItemLeft seal n f s o i
          back l =
              let b = l.byte in
              elim b.ahead [
                | inr there ↦ absurd (none_in k.place (λ p. (p.section ≡ s) × (p.position ≤ o)) none there)
                | inl here ↦
                    let same = given_other t s (other_k here.1) in
                    record {
                      byte = record {
                        goes_on = ok_at result is cut.going;
                        begun = subst (λ (y : ℕ). y ≤ o) (sym first_same) b.begun;
                        whole = subst (λ (y : List ℕ). o < length y / 1) (sym same) b.whole;
                        ahead = inl ((held_same s).1 here.0, subst (λ (y : Option ℕ). IsSomeAnd y (λ m. m ≤ s)) (sym cut.rest.next) here.1);
                      };
                      whole = subst (λ (y : List ℕ). IsItemAt y o i) (sym same) l.whole;
                    }
              ]

      -- and a later call may leave no more of a blob
      later_cut : dev.Tells → LeavesLess seal w n d f
      later_cut t q b how = elim how [
        | inr cuts ↦ (
            let other = other_near cuts.section cuts.near in
            let at : q ≡ key_of k.journal.sections cuts.section = cuts.key ∙ key_n cuts.section in
            let held : k.journal.sections.held cuts.section ≡ Some cuts.buffer = sym (cut.touches.others cuts.section other).held ∙ cuts.held in
            let blob : f q ≡ e q = ap f cuts.key ∙ blob_other t cuts.section other (some_there (k.journal.sections.held cuts.section) cuts.buffer held) ∙ sym (ap e at) in
            run.gone.later t q b (inr (record {
              section = cuts.section;
              buffer = cuts.buffer;
              held = held;
              owes = subst IsTrue (cut.rest.unrecovered cuts.section) cuts.owes;
              near = near_k cuts.section cuts.near;
              key = at;
              torn = λ bad. cuts.torn (subst (λ (x : Blob). HasBadLength (rest_of (sealed_prefix seal cuts.buffer.page_size x.content))) (sym blob) bad);
              leaves = subst (λ (x : Blob). Leaves seal cuts.buffer.page_size (sealed_prefix seal cuts.buffer.page_size x.content) (whole_end (sealed_prefix seal cuts.buffer.page_size x.content)) b) blob cuts.leaves;
            })))
        | inl rep ↦ elim (same_or_other q K) [
          | inl at ↦ subst (ReplayingFrames seal w d q) (sym (rep.others (λ x. not_here x.0 x.1.1 (x.2 ∙ key_n x.0) x.1.0 at))) (always_now (dev.time a) (dev.time z) (Each (ReplayingFrames seal w d)) (moments_cut t) q)
          | inr apart ↦ run.gone.later t q b (inl (replaying_as seal k n e f q b (cut.touches.blobs t q apart)
              (λ s here. (cut.touches.others s (λ at. apart (here ∙ ap (key_of k.journal.sections) at))).held)
              cut.rest.unrecovered cut.rest.floors key_n
              (λ s here x. ((held_same s).0 x.0, near_k s x.1)) rep))
        ]
      ]
        where
          not_here : (s : ℕ) → IsAhead n s ⊎ IsIn n s → q ≡ key_of k.journal.sections s → IsHeld n.journal.sections s → q ≡ K → ⊥
          not_here s near_n here held at = key_other s (other_near s near_n) ((held_same s).0 held) (sym here ∙ at)

      pub passed_cut : HasPassed g gives seal dev w n a z
      passed_cut = record {
        gone = record {
          keeps = keeps_cut;
          goes = record {
            failed = cut.rest.failed ∙ run.gone.goes.failed;
            ended = ok_at result is cut.going ∙ sym going ∙ run.gone.goes.ended;
            held = λ s. (λ h. (run.gone.goes.held s).0 ((held_same s).0 h), λ h. (held_same s).1 ((run.gone.goes.held s).1 h));
            known = λ s. unopened_same s ∙ run.gone.goes.known s;
          };
          later = later_cut;
        };
        rest = λ t. (let more = run.rest t in record {
          left = λ s o i. (λ l. (more.left s o i).0 ((left_cut t s o i).0 l), λ l. (left_cut t s o i).1 ((more.left s o i).1 l));
          kept = λ s near_n. given_other t s (other_near s near_n) ∙ more.kept s (near_k s near_n);
          sizes = λ s near_n. ap size_held (cut.touches.others s (other_near s near_n)).held ∙ more.sizes s (near_k s near_n);
        });
      }

      given_cut : (t : dev.Tells) → given_bytes seal n f s0 ≡ take (whole_end (sealed_prefix seal u0.page_size (e K).content)) (sealed_prefix seal u0.page_size (e K).content)
      given_cut t =
          (λ i. kept_of seal (cut.rest.unrecovered s0 i) (v0.1 i) (f (key_n s0 i)).content)
          ∙ (λ i. kept_of seal (owes0 i) (Some v0.0) (f K).content)
          ∙ ap (λ (P : ℕ). sealed_prefix seal P (f K).content) did.page_size
          ∙ sealed_cut t

      -- which is whole frames then
      pub whole_cut : dev.Tells → rest_of (given_bytes seal n f s0) ≡ []
      whole_cut t = ap rest_of (given_cut t) ∙ (cut_whole (sealed_prefix seal u0.page_size (e K).content)).1

      -- all sections that it has gone over are whole frames
      pub walked_cut : dev.Tells
          → (IsAhead k k.start_section ⊎ IsIn k k.start_section → IsHeld k.journal.sections k.start_section → IsStart seal k.journal e k.start_section k.start_position)
          → AreFramed k.journal e
          → (k.failed ≡ false → (s : ℕ) → s ≢ s0 → IsGoneOver k s → rest_of (given_bytes seal k e s) ≡ [])
          → AreWalked seal n f
      walked_cut t start framed gone = record {
        start = λ going_n near_n held.
            let at = cut.rest.section in
            let near_start = subst (λ (s : ℕ). IsAhead k s ⊎ IsIn k s) at (near_k n.start_section near_n) in
            let held_start = subst (IsHeld k.journal.sections) at ((held_same n.start_section).0 held) in
            let same : given_bytes seal k e k.start_section ≡ given_bytes seal n f n.start_section = ap (given_bytes seal k e) (sym at) ∙ sym (given_other t n.start_section (other_near n.start_section near_n)) in
            subst (λ (o : ℕ). IsBoundary (given_bytes seal n f n.start_section) o ⊎ (length (given_bytes seal n f n.start_section) < o)) (sym cut.rest.position)
            (subst (λ (l : List ℕ). IsBoundary l k.start_position ⊎ (length l < k.start_position)) same (start near_start held_start));
        framed = framed_other t framed;
        gone_over = λ fine s over. elim (cases_eq s s0) [
          | inr other ↦ ap rest_of (given_other t s other) ∙ gone (sym cut.rest.failed ∙ fine) s other (over_before s over)
          | inl at ↦ subst (λ (y : ℕ). rest_of (given_bytes seal n f y) ≡ []) (sym at) (whole_cut t)
        ];
      }
        where
          over_before : (s : ℕ) → IsGoneOver n s → IsGoneOver k s
          over_before s over = record {
            begun = subst (λ (y : ℕ). y ≤ s) cut.rest.section over.begun;
            not_ahead = λ ahead. over.not_ahead (subst (λ (o : Option ℕ). IsSomeAnd o (λ m. m ≤ s)) (sym cut.rest.next) ahead);
            not_in = λ there. none_in k.place (λ p. p.section ≡ s) none there;
          }
