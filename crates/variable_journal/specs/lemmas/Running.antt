-- Turns of a replay of frames, one after another: what holds from where the first began.
use Rattle.std.specs.Prelude.{◌≡◌, ◌⊎◌, ℕ, ◌<◌, ◌≤◌, Bool, false, true, List, [], length, take, Option, None, Some, Err, IsSomeAnd, IsTrue}
use Rattle.std.proofs.Common.{inl, inr, refl, sym, ap, ◌∙◌, subst, arith, length-take}
use Rattle.std.proofs.Math.Seq.{take-length}
use Rattle.std.proofs.lemmas.Bool.{cases_eq, cases_lt}
use Rattle.std.proofs.lemmas.List.{take-take}
use Rattle.blob_device.specs.Disk.{Key, Blob, Disk}
use Rattle.blob_device.specs.Timeline.{disk, Each}
use Rattle.blob_device.specs.declared.device.Device as device
use Rattle.blob_device.specs.lemmas.Moments.{always_start, always_then, always_weaker}
use Rattle.value_codec.specs.declared.codec.Error as codec
use Rattle.sealed_pages.specs.Cutting.{StandsSettled}
use Rattle.sealed_pages.specs.SealedPrefix.{sealed_prefix}
use Rattle.sealed_pages.specs.Buffer.{bytes_of}
use Rattle.sealed_pages.specs.Shown.{shown}
use Rattle.sealed_pages.specs.declared.page_blob.PageBlob.{PageBlob}
use Rattle.section_manager.specs.Sections.{section_key, key_of, IsHeld, IsKeyOf}
use Rattle.section_manager.specs.Setting.{Setting}
use Rattle.section_manager.specs.declared.buffer.SectionBuffer as buffer
use Rattle.section_manager.specs.declared.journal.Error.{Error}
use Rattle.segments.specs.FixedLists.{section_size}
use Rattle.segments.specs.FixedReplay.{Walk, Place, IsAhead, IsIn, IsDrained, IsLeft, IsSameOrCut, SameWalk, kept_of}
use Rattle.segments.specs.FixedStepping.{way_of, GoesOn}
use Rattle.segments.specs.lemmas.FixedOwed.{cut_then, same_or_cut}
use Rattle.segments.specs.lemmas.replay.Reading.{failed_since, not_read_since}
use Rattle.segments.specs.lemmas.replay.Walks.{same_bytes}
use Rattle.segments.specs.lemmas.replay.WalksOn.{replaying_start}
use Rattle.variable_journal.specs.lemmas.Frame.{rest_none}
use Rattle.variable_journal.specs.lemmas.Offset.{cut_whole, whole_within}
use Rattle.variable_journal.specs.Frames.{frames, items_of, rest_of, whole_end, HasBadLength}
use Rattle.variable_journal.specs.Replaying.{GivenItem, EndsSection, IsCuttingFrames, KeepsFrames, LeavesWhole, RefusesItem, ReplayingFrames, given_bytes}
use Rattle.variable_journal.specs.Advancing.{GivesError, GivesNone, GivesOne, HasGone, HasPassed, IsGoing, IsKept, Keeps}
use Rattle.blob_device.proofs.general.Options.{none_in, none_or_value, same_some, some_of, some_there}

module _ (seal : List ℕ → ℕ) (P : ℕ) where
  take_own : (xs : List ℕ) → xs ≡ take (length xs) xs
  take_own xs = sym (take-length xs)

  pub frames_same : (b c : Blob) → c ≡ b → KeepsFrames seal P b c
  frames_same b c same = subst (λ (x : Blob). KeepsFrames seal P b x) (sym same) (record {
    items = refl;
    first = take_own (sealed_prefix seal P b.content);
    all = λ bad. refl;
    rests = inl refl;
  })

  -- where the same bytes are sealed
  pub frames_sealed : (b c : Blob) → sealed_prefix seal P c.content ≡ sealed_prefix seal P b.content → (c ≡ b) ⊎ StandsSettled c → KeepsFrames seal P b c
  frames_sealed b c same rests = record {
    items = ap items_of same;
    first = same ∙ take_own (sealed_prefix seal P b.content) ∙ ap (λ (n : ℕ). take n (sealed_prefix seal P b.content)) (sym (ap length same));
    all = λ bad. same;
    rests = rests;
  }

  -- where what is behind its whole frames was cut off
  pub frames_cut : (b c : Blob) → sealed_prefix seal P c.content ≡ take (whole_end (sealed_prefix seal P b.content)) (sealed_prefix seal P b.content)
      → (HasBadLength (rest_of (sealed_prefix seal P b.content)) → ⊥) → (c ≡ b) ⊎ StandsSettled c → KeepsFrames seal P b c
  frames_cut b c cut short rests =
      let B = sealed_prefix seal P b.content in
      let long : length (sealed_prefix seal P c.content) ≡ whole_end B = omega (arith, ap length cut, length-take (whole_end B) B, whole_within B) in
      record {
        items = ap items_of cut ∙ (cut_whole B).0;
        first = cut ∙ ap (λ (n : ℕ). take n B) (sym long);
        all = λ bad. absurd (short bad);
        rests = rests;
      }

  pub frames_then : (b c d : Blob) → KeepsFrames seal P b c → KeepsFrames seal P c d → KeepsFrames seal P b d
  frames_then b c d one two =
      let B = sealed_prefix seal P b.content in
      let C = sealed_prefix seal P c.content in
      let D = sealed_prefix seal P d.content in
      let short : length D ≤ length C = omega (arith, ap length two.first, length-take (length D) C) in
      record {
        items = two.items ∙ one.items;
        first = two.first ∙ ap (take (length D)) one.first ∙ take-take (length D) (length C) B short;
        all = λ bad. two.all (subst (λ (l : List ℕ). HasBadLength (rest_of l)) (sym (one.all bad)) bad) ∙ one.all bad;
        rests = elim two.rests [
          | inr rest ↦ inr rest
          | inl same ↦ elim one.rests [ inl also ↦ inl (same ∙ also) | inr rest ↦ inr (subst StandsSettled (sym same) rest) ]
        ];
      }

-- whether a section is ahead
pub ahead_or_not : (o : Option ℕ) (s : ℕ) → IsSomeAnd o (λ n. n ≤ s) ⊎ (IsSomeAnd o (λ n. n ≤ s) → ⊥)
ahead_or_not None s = inr (λ never. never)
ahead_or_not (Some n) s = elim (cases_lt s n) [ inl before ↦ inr (λ le. omega (arith, le, before)) | inr after ↦ inl after ]

in_or_not : (o : Option Place) (s : ℕ) → IsSomeAnd o (λ p. p.section ≡ s) ⊎ (IsSomeAnd o (λ p. p.section ≡ s) → ⊥)
in_or_not None s = inr (λ never. never)
in_or_not (Some p) s = elim (cases_eq p.section s) [ inl same ↦ inl same | inr other ↦ inr other ]

-- whether a replay has still to go over it
pub near_or_not : {F B : Type 0} (w : Walk F B) (s : ℕ) → (IsAhead w s ⊎ IsIn w s) ⊎ (IsAhead w s ⊎ IsIn w s → ⊥)
near_or_not w s = elim (ahead_or_not w.next_section s) [
  | inl ahead ↦ inl (inl ahead)
  | inr far ↦ elim (in_or_not w.place s) [
    | inl there ↦ inl (inr there)
    | inr out ↦ inr (λ near. elim near [ inl ahead ↦ far ahead | inr there ↦ out there ])
  ]
]

-- of a section that is not held nothing is given
pub whole_none : {F S : Type 0} {gs : _} (seal : List ℕ → ℕ) (w : Walk F (PageBlob S gs)) (d : Disk) (s : ℕ) → w.journal.sections.held s ≡ None → rest_of (given_bytes seal w d s) ≡ []
whole_none {S = S} {gs = gs} seal w d s none = ap (λ (o : Option (PageBlob S gs)). rest_of (kept_of seal (w.journal.unrecovered s) o (d (key_of w.journal.sections s)).content)) none ∙ rest_none

module _ {F S D : Type 0} {gs : _} (g : buffer.Ghosts (PageBlob S gs)) (gives : F → Setting) (seal : List ℕ → ℕ) (dev : device.Ghosts D) where
  -- a replay that has not begun keeps all
  pub keeps_start : (w : Walk F (PageBlob S gs)) (at : D) → Keeps g gives seal dev w w at at
  keeps_start w at = record {
    same = record { bounds = record { place = record { partition = refl; factory = refl }; floor = refl; ceiling = refl }; unrecovered = λ s. refl; floors = λ s. refl; section = refl; position = refl };
    stays = λ s none. (none, (λ h. h, λ h. h));
    floors = λ s u v held also. same_or_cut (w.journal.floor_of s) u v (same_some (w.journal.sections.held s) u v held also);
    onward = λ s near. near;
    on_disk = λ t. record {
      bytes = λ s u v held also free. same_bytes (Unit {0}) u v (disk (dev.time at) (key_of w.journal.sections s)) (disk (dev.time at) (key_of w.journal.sections s)) (same_some (w.journal.sections.held s) u v held also) (λ x. refl);
      items = λ going s u held owed. frames_same seal u.page_size (disk (dev.time at) (key_of w.journal.sections s)) (disk (dev.time at) (key_of w.journal.sections s)) refl;
      behind = λ s held now far. refl;
    };
    moments = λ t. always_start (dev.time at) (Each (ReplayingFrames seal w (disk (dev.time at)))) (λ q. inl (replaying_start seal 1 w (disk (dev.time at)) q));
    entries = λ q never. refl;
    faults = omega arith;
  }

  pub passed_start : (w : Walk F (PageBlob S gs)) (at : D) → HasPassed g gives seal dev w w at at
  passed_start w at = record {
    gone = record {
      keeps = keeps_start w at;
      goes = record { failed = refl; ended = refl; held = λ s. (λ h. h, λ h. h); known = λ s. refl };
      later = λ t q b is. is;
    };
    rest = λ t. record { left = λ x q i. (λ l. l, λ l. l); kept = λ s near. refl; sizes = λ s near. refl };
  }

  -- a cut that was begun and has not settled has ended the replay
  pub cut_ends : (w k : Walk F (PageBlob S gs)) (a b : D) → Keeps g gives seal dev w k a b → dev.Tells → (s : ℕ) (u : PageBlob S gs) → w.journal.sections.held s ≡ Some u → IsTrue (w.journal.unrecovered s)
      → (disk (dev.time b) (key_of w.journal.sections s) ≡ disk (dev.time a) (key_of w.journal.sections s) → ⊥) → (StandsSettled (disk (dev.time b) (key_of w.journal.sections s)) → ⊥) → k.ended ≡ true
  cut_ends w k a b keeps t s u held owed changed unsettled = go k.ended refl
    where
      go : (o : Bool) → k.ended ≡ o → k.ended ≡ true
      go true is = is
      go false is = absurd (elim ((keeps.on_disk t).items is s u held owed).rests [ inl same ↦ changed same | inr rests ↦ unsettled rests ])

  -- calls that may have given items
  module _ (w m k : Walk F (PageBlob S gs)) (a b c : D) (one : HasGone g gives seal dev w m a b) (going : m.ended ≡ false) where
    goes : GoesOn w m
    goes = one.goes

    kept_one : Keeps g gives seal dev w m a b
    kept_one = one.keeps

    key_mid : (s : ℕ) → key_of m.journal.sections s ≡ key_of w.journal.sections s
    key_mid s = ap (λ (p : List ℕ). section_key p s) kept_one.same.bounds.place.partition

    -- the section's buffer after the first calls
    between : (s : ℕ) (u : PageBlob S gs) → w.journal.sections.held s ≡ Some u → (x : PageBlob S gs) × (m.journal.sections.held s ≡ Some x)
    between s u held = some_of (m.journal.sections.held s) ((goes.held s).1 (some_there (w.journal.sections.held s) u held))

    same_then : SameWalk m k → SameWalk w k
    same_then more = record {
      bounds = record {
        place = record { partition = more.bounds.place.partition ∙ kept_one.same.bounds.place.partition; factory = more.bounds.place.factory ∙ kept_one.same.bounds.place.factory };
        floor = more.bounds.floor ∙ kept_one.same.bounds.floor;
        ceiling = more.bounds.ceiling ∙ kept_one.same.bounds.ceiling;
      };
      unrecovered = λ s. more.unrecovered s ∙ kept_one.same.unrecovered s;
      floors = λ s. more.floors s ∙ kept_one.same.floors s;
      section = more.section ∙ kept_one.same.section;
      position = more.position ∙ kept_one.same.position;
    }

    never_now : (q : Key) → (IsKeyOf w.journal.sections (λ s. IsHeld w.journal.sections s × (IsAhead w s ⊎ IsIn w s)) q → ⊥)
        → IsKeyOf m.journal.sections (λ s. IsHeld m.journal.sections s × (IsAhead m s ⊎ IsIn m s)) q → ⊥
    never_now q never x = never (x.0, ((goes.held x.0).0 x.1.0, kept_one.onward x.0 x.1.1), x.2 ∙ key_mid x.0)

    disk_then : dev.Tells → IsKept seal m k (disk (dev.time b)) (disk (dev.time c)) → IsKept seal w k (disk (dev.time a)) (disk (dev.time c))
    disk_then t more = record {
      bytes = λ s u v held now free.
          let x = between s u held in
          let first = (kept_one.on_disk t).bytes s u x.0 held x.1 free in
          let then = more.bytes s x.0 v x.1 now (kept_one.same.unrecovered s ∙ free) in
          record {
            size = then.size ∙ first.size;
            settled = then.settled ∙ first.settled;
            bytes = λ y. subst (λ (q : Key). bytes_of (shown v) (disk (dev.time c) q).content ≡ bytes_of (shown x.0) (disk (dev.time b) q).content) (key_mid s) (then.bytes y) ∙ first.bytes y;
          };
      items = λ still s u held owed.
          let x = between s u held in
          let page : x.0.page_size ≡ u.page_size = (kept_one.floors s u x.0 held x.1).page_size in
          let then = more.items still s x.0 x.1 (subst IsTrue (sym (kept_one.same.unrecovered s)) owed) in
          let paged : KeepsFrames seal u.page_size (disk (dev.time b) (key_of m.journal.sections s)) (disk (dev.time c) (key_of m.journal.sections s)) =
          subst (λ (P : ℕ). KeepsFrames seal P (disk (dev.time b) (key_of m.journal.sections s)) (disk (dev.time c) (key_of m.journal.sections s))) page then in
          frames_then seal u.page_size (disk (dev.time a) (key_of w.journal.sections s)) (disk (dev.time b) (key_of w.journal.sections s)) (disk (dev.time c) (key_of w.journal.sections s))
          ((kept_one.on_disk t).items going s u held owed)
          (subst (λ (q : Key). KeepsFrames seal u.page_size (disk (dev.time b) q) (disk (dev.time c) q)) (key_mid s) paged);
      behind = λ s held now far. (let mid = (goes.held s).1 held in
          more.behind s mid now (λ near. far (kept_one.onward s near)) ∙ (kept_one.on_disk t).behind s held mid far);
    }

    -- where a length is refused, all bytes of the section are kept
    pub bad_stays : dev.Tells → (s : ℕ) → HasBadLength (rest_of (given_bytes seal w (disk (dev.time a)) s)) → given_bytes seal m (disk (dev.time b)) s ≡ given_bytes seal w (disk (dev.time a)) s
    bad_stays t s bad = go (w.journal.sections.held s) refl (w.journal.unrecovered s) refl
      where
        d : Disk
        d = disk (dev.time a)

        e : Disk
        e = disk (dev.time b)

        go : (o : Option (PageBlob S gs)) → w.journal.sections.held s ≡ o → (y : Bool) → w.journal.unrecovered s ≡ y → given_bytes seal m e s ≡ given_bytes seal w d s
        go None is y owes = absurd (let none = whole_none seal w d s is in omega (arith, bad.enough, ap length none))
        go (Some u) is false free =
            let x = between s u is in
            (λ i. kept_of seal ((kept_one.same.unrecovered s ∙ free) i) (x.1 i) (e (key_mid s i)).content)
            ∙ ((kept_one.on_disk t).bytes s u x.0 is x.1 free).bytes tt
            ∙ sym (λ i. kept_of seal (free i) (is i) (d (key_of w.journal.sections s)).content)
        go (Some u) is true owed =
            let x = between s u is in
            let own : given_bytes seal w d s ≡ sealed_prefix seal u.page_size (d (key_of w.journal.sections s)).content = (λ i. kept_of seal (owed i) (is i) (d (key_of w.journal.sections s)).content) in
            (λ i. kept_of seal ((kept_one.same.unrecovered s ∙ owed) i) (x.1 i) (e (key_mid s i)).content)
            ∙ ap (λ (P : ℕ). sealed_prefix seal P (e (key_of w.journal.sections s)).content) (kept_one.floors s u x.0 is x.1).page_size
            ∙ ((kept_one.on_disk t).items going s u is owed).all (subst (λ (l : List ℕ). HasBadLength (rest_of l)) own bad)
            ∙ sym own

    -- so none is in what was gone over
    pub none_refused : dev.Tells → LeavesWhole seal w m (disk (dev.time a)) (disk (dev.time b)) → (s : ℕ) → IsAhead w s ⊎ IsIn w s → (IsAhead m s ⊎ IsIn m s → ⊥)
        → HasBadLength (rest_of (given_bytes seal w (disk (dev.time a)) s)) → ⊥
    none_refused t whole s near far bad = (let none = ap rest_of (sym (bad_stays t s bad)) ∙ whole s near far in omega (arith, bad.enough, ap length none))

    pub keeps_on : Keeps g gives seal dev m k b c → Keeps g gives seal dev w k a c
    keeps_on two = record {
      same = same_then two.same;
      stays = λ s none. (let more = two.stays s none in let was = kept_one.stays s more.0 in (was.0, (λ h. was.1.0 (more.1.0 h), λ h. more.1.1 (was.1.1 h))));
      floors = λ s u v held now. (let x = between s u held in
          cut_then (w.journal.floor_of s) u x.0 v (kept_one.floors s u x.0 held x.1) (subst (λ (n : ℕ). IsSameOrCut n x.0 v) (kept_one.same.floors s) (two.floors s x.0 v x.1 now)));
      onward = λ s near. kept_one.onward s (two.onward s near);
      on_disk = λ t. disk_then t (two.on_disk t);
      moments = λ t. always_then (dev.time a) (dev.time b) (dev.time c) (Each (ReplayingFrames seal w (disk (dev.time a)))) (kept_one.moments t)
          (always_weaker (dev.time b) (dev.time c) (Each (ReplayingFrames seal m (disk (dev.time b)))) (Each (ReplayingFrames seal w (disk (dev.time a)))) (λ x each q. one.later t q (x q) (each q)) (two.moments t));
      entries = λ q never. two.entries q (never_now q never) ∙ kept_one.entries q never;
      faults = omega (arith, kept_one.faults, two.faults);
    }

    pub gone_on : HasGone g gives seal dev m k b c → HasGone g gives seal dev w k a c
    gone_on two = record {
      keeps = keeps_on two.keeps;
      goes = record {
        failed = two.goes.failed ∙ goes.failed;
        ended = two.goes.ended ∙ goes.ended;
        held = λ s. (λ h. (goes.held s).0 ((two.goes.held s).0 h), λ h. (two.goes.held s).1 ((goes.held s).1 h));
        known = λ s. two.goes.known s ∙ goes.known s;
      };
      later = λ t q x is. one.later t q x (two.later t q x is);
    }

  -- calls that gave none
  module _ (w m k : Walk F (PageBlob S gs)) (a b c : D) (one : HasPassed g gives seal dev w m a b) (going : m.ended ≡ false) where
    kept : Keeps g gives seal dev w m a b
    kept = one.gone.keeps

    pub passed_then : HasPassed g gives seal dev m k b c → HasPassed g gives seal dev w k a c
    passed_then two = record {
      gone = gone_on w m k a b c one.gone going two.gone;
      rest = λ t. (let first = one.rest t in let more = two.rest t in record {
        left = λ x q i. (λ l. (first.left x q i).0 ((more.left x q i).0 l), λ l. (more.left x q i).1 ((first.left x q i).1 l));
        kept = λ s near. more.kept s near ∙ first.kept s (two.gone.keeps.onward s near);
        sizes = λ s near. more.sizes s near ∙ first.sizes s (two.gone.keeps.onward s near);
      });
    }

    pub ends_then : dev.Tells → (s : ℕ) → EndsSection seal m k (disk (dev.time b)) (disk (dev.time c)) s → EndsSection seal w k (disk (dev.time a)) (disk (dev.time c)) s
    ends_then t s has = (let left = (one.rest t).left in record {
      first = λ x q i l lt. has.first x q i ((left x q i).1 l) lt;
      rest = λ x q i. (λ l. (let was = (has.rest x q i).0 l in ((left x q i).0 was.0, was.1)), λ l. (has.rest x q i).1 ((left x q i).1 l.0, l.1));
    })

    cutting_then : dev.Tells → IsCuttingFrames seal m (disk (dev.time b)) → IsCuttingFrames seal w (disk (dev.time a))
    cutting_then t has = (let first = one.rest t in record {
      section = has.section;
      near = kept.onward has.section has.near;
      owes = subst IsTrue (kept.same.unrecovered has.section) has.owes;
      longer = (let less = subst (λ (l : List ℕ). length (frames (items_of l)) < section_size m.journal.sections has.section) (first.kept has.section has.near) has.longer in omega (arith, less, first.sizes has.section has.near));
      given = λ x q i l. has.given x q i ((first.left x q i).1 l);
    })

    -- what the first calls went over is whole frames
    module _ (whole : dev.Tells → LeavesWhole seal w m (disk (dev.time a)) (disk (dev.time b))) where
      whole_far : Keeps g gives seal dev m k b c → ((s : ℕ) → IsHeld k.journal.sections s → IsHeld m.journal.sections s) → dev.Tells → (s : ℕ) → IsAhead w s ⊎ IsIn w s → (IsAhead m s ⊎ IsIn m s → ⊥)
          → rest_of (given_bytes seal k (disk (dev.time c)) s) ≡ []
      whole_far two held t s near far = elim (none_or_value (k.journal.sections.held s)) [
        | inl none ↦ whole_none seal k (disk (dev.time c)) s none
        | inr some ↦ (let now = some_there (k.journal.sections.held s) some.0 some.1 in ap rest_of ((two.on_disk t).behind s (held s now) now far) ∙ whole t s near far)
      ]

      -- so is what all went over
      pub whole_then : HasGone g gives seal dev m k b c → (dev.Tells → LeavesWhole seal m k (disk (dev.time b)) (disk (dev.time c))) → dev.Tells → LeavesWhole seal w k (disk (dev.time a)) (disk (dev.time c))
      whole_then two more t s near gone = elim (near_or_not m s) [
        | inl still ↦ more t s still gone
        | inr far ↦ whole_far two.keeps (λ x held. (two.goes.held x).0 held) t s near far
      ]

      module _ {V C : Type 0} (spelling : V → List ℕ) (accepted : V → C → Type 0) (refusal : List ℕ → C → Option codec.Error) (config : C) (nearer : way_of m ≤ way_of w) where
        pub one_then : (x : GivenItem V) → GivesOne g gives seal dev spelling accepted refusal config m k b c x → GivesOne g gives seal dev spelling accepted refusal config w k a c x
        one_then x two = record {
          over = two.over;
          gone = gone_on w m k a b c one.gone going two.gone;
          item = λ t. (let has = two.item t in let left = (one.rest t).left in record {
            item = has.item;
            left = (left x.0 x.1 has.item).0 has.left;
            first = λ y q i l. has.first y q i ((left y q i).1 l);
            lengths = λ s near lt bad. elim (near_or_not m s) [
              | inl still ↦ has.lengths s still lt (subst (λ (l : List ℕ). HasBadLength (rest_of l)) (sym ((one.rest t).kept s still)) bad)
              | inr far ↦ none_refused w m k a b c one.gone going t (whole t) s near far bad
            ];
            spells = has.spells;
            sized = has.sized;
            rest = λ y q i. (λ l. (let was = (has.rest y q i).0 l in ((left y q i).0 was.0, was.1)), λ l. (has.rest y q i).1 ((left y q i).1 l.0, l.1));
          });
          whole = whole_then two.gone two.whole;
          nearer = omega (arith, nearer, two.nearer);
        }

        refuses_then : Keeps g gives seal dev m k b c → ((s : ℕ) → IsHeld k.journal.sections s → IsHeld m.journal.sections s) → dev.Tells → (e : codec.Error)
            → RefusesItem seal m k (disk (dev.time b)) (disk (dev.time c)) refusal config e → RefusesItem seal w k (disk (dev.time a)) (disk (dev.time c)) refusal config e
        refuses_then two held t e has = (let first = one.rest t in let left = first.left in record {
          section = has.section;
          near = kept.onward has.section has.near;
          ends = ends_then t has.section has.ends;
          lengths = λ s near lt bad. elim (near_or_not m s) [
            | inl still ↦ has.lengths s still lt (subst (λ (l : List ℕ). HasBadLength (rest_of l)) (sym (first.kept s still)) bad)
            | inr far ↦ none_refused w m k a b c one.gone going t (whole t) s near far bad
          ];
          whole = λ s near lt. elim (near_or_not m s) [ inl still ↦ has.whole s still lt | inr far ↦ whole_far two held t s near far ];
          why = elim has.why [
            | inl item ↦ inl (item.0, item.1, (left has.section item.0 item.1).0 item.2, (λ q i l. item.3 q i ((left has.section q i).1 l)), item.4)
            | inr bad ↦ inr (bad.0, (λ q i l. bad.1 q i ((left has.section q i).1 l)), subst (λ (l : List ℕ). HasBadLength (rest_of l)) (first.kept has.section has.near) bad.2)
          ];
        })

        pub error_then : (e : Error) → GivesError g gives seal dev spelling accepted refusal config m k b c e → GivesError g gives seal dev spelling accepted refusal config w k a c e
        error_then e two = record {
          keeps = all;
          over = two.over;
          failed = two.failed;
          says = λ t. (let has = two.says t in record {
            stops = elim has.stops [
              | inl end ↦ inl end
              | inr some ↦ inr (some.0, ends_then t some.0 some.1, record { near = kept.onward some.0 some.2.near; left = some.2.left })
            ];
            ends = λ ended. (let was = has.ends ended in (cutting_then t was.0, failed_since (Err e) (dev.faults a) (dev.faults b) (dev.faults c) kept.faults was.1));
            cut = cut_ends w k a c all t;
            start = λ p is. (let was = has.start p is in (
              was.0 ∙ kept.same.position,
              subst (λ (s : ℕ). length (given_bytes seal w (disk (dev.time a)) s) < p) kept.same.section (subst (λ (l : List ℕ). length l < p) ((one.rest t).kept m.start_section was.2) was.1),
              subst (λ (s : ℕ). IsAhead w s ⊎ IsIn w s) kept.same.section (kept.onward m.start_section was.2),
              subst (λ (s : ℕ). EndsSection seal w k (disk (dev.time a)) (disk (dev.time c)) s) kept.same.section (ends_then t m.start_section was.3),
            ));
            refused = λ y is. refuses_then two.keeps (λ s held. (two.keeps.stays s (two.over.bytes.over.opened_list.apart s held)).1.0 held) t y (has.refused y is);
            damaged = has.damaged;
            floor = has.floor;
          });
          nearer = omega (arith, nearer, two.nearer);
          cause = elim two.cause [
            | inl start ↦ (let same = kept.same.position in inl (cc (start, same)))
            | inr (inl below) ↦ inr (inl below)
            | inr (inr failed) ↦ inr (inr (not_read_since (Err e) (dev.faults a) (dev.faults b) (dev.faults c) kept.faults failed))
          ];
        }
          where
            all : Keeps g gives seal dev w k a c
            all = keeps_on w m k a b c one.gone going two.keeps

  module _ {V C : Type 0} (spelling : V → List ℕ) (accepted : V → C → Type 0) (refusal : List ℕ → C → Option codec.Error) (w : Walk F (PageBlob S gs)) (a b : D) where
    -- by another name of what decoding needs to know, or of the replay
    pub one_as : (was config : C) → was ≡ config → (k : Walk F (PageBlob S gs)) (x : GivenItem V) → GivesOne g gives seal dev spelling accepted refusal was w k a b x → GivesOne g gives seal dev spelling accepted refusal config w k a b x
    one_as was config same k x has = subst (λ (c : C). GivesOne g gives seal dev spelling accepted refusal c w k a b x) same has

    pub error_as : (was config : C) → was ≡ config → (k j : Walk F (PageBlob S gs)) → j ≡ k → (x : Error) → GivesError g gives seal dev spelling accepted refusal was w k a b x → GivesError g gives seal dev spelling accepted refusal config w j a b x
    error_as was config same k j is x has = subst (λ (y : Walk F (PageBlob S gs)). GivesError g gives seal dev spelling accepted refusal config w y a b x) (sym is)
        (subst (λ (c : C). GivesError g gives seal dev spelling accepted refusal c w k a b x) same has)

  -- nothing is left where it is drained, or has ended
  pub none_then : (w m : Walk F (PageBlob S gs)) (a b : D) → HasPassed g gives seal dev w m a b → (dev.Tells → LeavesWhole seal w m (disk (dev.time a)) (disk (dev.time b))) → IsGoing g gives seal dev m b → IsDrained m ⊎ (m.ended ≡ true) → {V C : Type 0} (spelling : V → List ℕ) (accepted : V → C → Type 0) (refusal : List ℕ → C → Option codec.Error) (config : C)
      → GivesNone g gives seal dev spelling accepted refusal config w m a b
  none_then w m a b run whole was over spelling accepted refusal config = record {
    over = was;
    passed = run;
    whole = whole;
    none = λ t s o i l. none_left (((run.rest t).left s o i).1 l).byte;
    drained = over;
  }
    where
      none_left : {d : Disk} {s o : ℕ} → IsLeft seal 1 m d s o → ⊥
      none_left {s = s} {o = o} l = elim over [
        | inr ended ↦ (let on = l.goes_on in cc (ended, on))
        | inl drained ↦ elim l.ahead [
          | inl here ↦ drained.last s here.0 here.1
          | inr there ↦ none_in m.place (λ r. (r.section ≡ s) × (r.position ≤ o)) drained.between there
        ]
      ]
