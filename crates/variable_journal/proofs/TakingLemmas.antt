-- The frame at the place of a replay is taken, or passed over.
use Rattle.std.specs.Prelude.{◌≡◌, ◌⊎◌, ℕ, ◌+◌, ◌*◌, ◌/◌, ◌^◌, ◌<◌, ◌≤◌, false, true, List, ◌∷◌, length, take, drop, Option, Some, Ok, IsSomeAnd}
use Rattle.std.proofs.Common.{inl, inr, refl, sym, ap, ◌∙◌, subst, arith, length-append, length-drop, length-take}
use Rattle.blob_device.specs.Disk.{Disk}
use Rattle.blob_device.specs.Timeline.{disk}
use Rattle.blob_device.specs.declared.device.Device as device
use Rattle.value_codec.specs.declared.codec.Error as codec
use Rattle.value_codec.specs.Varint.{varint, BeginsWithVarint}
use Rattle.value_codec.specs.lemmas.Varint.{varint_only}
use Rattle.sealed_pages.specs.declared.page_blob.PageBlob.{PageBlob}
use Rattle.section_manager.specs.Setting.{Setting}
use Rattle.section_manager.specs.declared.buffer.SectionBuffer as buffer
use Rattle.segments.specs.FixedCursor.{Turns, after_items, passing}
use Rattle.segments.specs.FixedReplay.{Walk, Place, IsAhead, IsLeft, StandsBefore, StandsIn, first_of}
use Rattle.segments.specs.FixedStepping.{bytes_ahead, sections_ahead, way_of, word}
use Rattle.variable_journal.specs.Frames.{frame, BeginsWithFrame}
use Rattle.variable_journal.specs.Reading.{Spells}
use Rattle.variable_journal.specs.Replaying.{IsBoundary, IsItemAt, IsItemLeft, LeavesWhole, given_bytes}
use Rattle.variable_journal.specs.Advancing.{GivesOne, IsGoing}
use Rattle.variable_journal.specs.Turning.{HasReached, HasTurned, IsFurther, Looks}
use Rattle.variable_journal.proofs.LengthLemmas.{header_frame, header_only}
use Rattle.variable_journal.proofs.LookingLemmas.{and_at, at_some, disk_same, further_passed, looks_passed, looks_then, some_and}
use Rattle.variable_journal.proofs.OffsetLemmas.{behind_item, boundary_on, item_here, next_item}
use Rattle.variable_journal.proofs.TurningLemmas.{ahead_far, gone_looked, near_looked, passed_looked, walked_looked}

-- how many bytes a frame has whose length takes so many
frame_size : (bytes : List ℕ) (n len : ℕ) (item rest : List ℕ) → BeginsWithVarint (2 ^ 32) bytes n len → BeginsWithFrame bytes item rest → length (frame item) ≡ len + n
frame_size bytes n len item rest begins there =
    let only = header_only bytes n len item rest begins there in
    let head : take len bytes ≡ varint n = varint_only (take len bytes) n begins.spelled in
    let long : length (take len bytes) ≡ len = omega (arith, length-take len bytes, begins.within) in
    omega (arith, length-append (varint (length item)) item, ap (λ (k : ℕ). length (varint k)) only.0, ap length head, long, only.0)

module _ {F S D V C : Type 0} {gs : _} (g : buffer.Ghosts (PageBlob S gs)) (gives : F → Setting) (seal : List ℕ → ℕ) (dev : device.Ghosts D)
    (spelling : V → List ℕ) (accepted : V → C → Type 0) (refusal : List ℕ → C → Option codec.Error) (config : C)
    (w : Walk F (PageBlob S gs)) (r : Place) (at : w.place ≡ Some r) (a b : D) (was : IsGoing g gives seal dev w a) (going : w.ended ≡ false)
    (size header : ℕ) (begins : dev.Tells → BeginsWithVarint (2 ^ 32) (drop r.position (given_bytes seal w (disk (dev.time a)) r.section)) size header)
    (m : Walk F (PageBlob S gs)) (q : Place) (there : m.place ≡ Some q) (some : 1 ≤ header + size)
    (reach : HasReached g gives seal dev r w m a b (header + size) (Ok true)) where
  abbrev d : Disk
  d = disk (dev.time a)

  abbrev kept : List ℕ
  kept = given_bytes seal w d r.section

  abbrev p : Place
  p = after_items 1 (header + size) q

  first : IsFurther w m r q
  first = and_at m.place (IsFurther w m r) q there reach.looks.rest

  still : q.position ≡ r.position
  still = and_at m.place (λ (x : Place). x.position ≡ r.position) q there reach.still

  abbrev item : List ℕ
  item = take size (drop header (drop r.position kept))

  frame_there : (t : dev.Tells) → BeginsWithFrame (drop r.position kept) item (drop (header + size) (drop r.position kept))
  frame_there t = header_frame (drop r.position kept) size header (begins t) (omega (arith, reach.enough t refl, length-drop r.position kept))

  frame_long : (t : dev.Tells) → length (frame item) ≡ header + size
  frame_long t = frame_size (drop r.position kept) size header item (drop (header + size) (drop r.position kept)) (begins t) (frame_there t)

  next : (t : dev.Tells) → (more : List (List ℕ)) × ((was.place t r at).after ≡ item ∷ more)
  next t = next_item kept r.position item (drop (header + size) (drop r.position kept)) (was.place t r at) (frame_there t)

  not_ahead : IsAhead w r.section → ⊥
  not_ahead = (was.bytes.walk.come_to r at).1

  -- the item is left, and none before it in its section
  pub left_there : first_of w r.section ≤ r.position → dev.Tells → IsItemLeft seal w d r.section r.position item
  left_there begun t = record {
    byte = record {
      goes_on = going;
      begun = begun;
      whole = omega (arith, reach.enough t refl, some);
      ahead = inr (some_and w.place (λ (x : Place). (x.section ≡ r.section) × (x.position ≤ r.position)) r at (refl, omega arith));
    };
    whole = item_here kept r.position item (next t).0 (was.place t r at) (next t).1;
  }

  pub least_there : (o : ℕ) (i : List ℕ) → IsItemLeft seal w d r.section o i → r.position ≤ o
  least_there o i l = elim l.byte.ahead [
    | inl here ↦ absurd (not_ahead here.1)
    | inr inside ↦ (and_at w.place (λ (y : Place). (y.section ≡ r.section) × (y.position ≤ o)) r at inside).1
  ]

  module _ (k : Walk F (PageBlob S gs)) (turn : Turns seal 1 (passing 1 (header + size) m) m k) where
    place : k.place ≡ Some p
    place = ap (λ (x : Walk F (PageBlob S gs)). x.place) (further_passed m q k (header + size) there turn.goes).goes

    looks : Looks g gives seal dev r w k a b {T = Unit {0}} (Ok tt)
    looks = looks_then g gives seal dev w r at m k q a b b true (Ok tt) reach.looks there (looks_passed g gives seal dev m k q there b (header + size) reach.looks.over turn)

    over : IsGoing g gives seal dev k b
    over = record {
      bytes = looks.over;
      free = λ s. ap (λ (x : Walk F (PageBlob S gs)). x.journal.floor_of s) (and_at k.place (IsFurther w k r) p place looks.rest).goes ∙ was.free s;
      place = λ t x is. (
          let f = and_at k.place (IsFurther w k r) p place looks.rest in
          let same : x ≡ p = cc (is, place) in
          let end : r.position + length (frame item) ≡ p.position = omega (arith, frame_long t, still) in
          let bytes : kept ≡ given_bytes seal k (disk (dev.time b)) p.section = sym (λ i. given_bytes seal (f.goes i) (disk_same g gives seal dev a b (looks.unchanged t) i) (f.section i)) in
          subst (λ (y : Place). IsBoundary (given_bytes seal k (disk (dev.time b)) y.section) y.position) (sym same)
          (subst (λ (l : List ℕ). IsBoundary l p.position) bytes (subst (IsBoundary kept) end (boundary_on kept r.position item (next t).0 (was.place t r at) (next t).1))));
      walked = λ t. walked_looked g gives seal dev w r at a b was.bytes tt k p place looks t (was.walked t);
    }

    nearer : way_of k < way_of w
    nearer =
        let u = at_some (k.journal.sections.held p.section) (StandsIn 1 k p) (looks.over.walk.place p place) in
        let before : way_of w ≡ sections_ahead w.next_section * (word + 1) + bytes_ahead (Some r) = ap (λ (o : Option Place). sections_ahead w.next_section * (word + 1) + bytes_ahead o) at in
        let f = and_at k.place (IsFurther w k r) p place looks.rest in
        let after : way_of k ≡ sections_ahead w.next_section * (word + 1) + bytes_ahead (Some p) = ap way_of f.goes in
        let within = u.2.within in
        let long = u.2.blob_size in
        let spot = u.2.at in
        omega (arith, before, after, within, long, spot, some, first.size, first.at)

    -- no section is left
    whole : dev.Tells → LeavesWhole seal w k d (disk (dev.time b))
    whole t s near far = absurd (far (near_looked g gives seal dev w r at a b was.bytes tt k p place looks s near))

    -- an item that is left behind the frame
    behind : (t : dev.Tells) (o : ℕ) (i : List ℕ) → IsItemAt kept o i → r.position ≤ o → (o ≡ r.position) ⊎ (p.position ≤ o)
    behind t o i there_is le = elim (behind_item kept r.position o item i (next t).0 (was.place t r at) (next t).1 there_is le) [
      | inl here ↦ inl here.0
      | inr far ↦ inr (omega (arith, far, frame_long t, still))
    ]

    -- before the start
    pub frame_skipped : r.position < first_of w r.section → HasTurned g gives seal dev spelling accepted refusal config w k a b
    frame_skipped early = record {
      over = over;
      passed = passed_looked g gives seal dev w r at a b was.bytes tt k p place looks (λ t o i there_is le begun. elim (behind t o i there_is le) [
        | inl here ↦ absurd (omega (arith, here, begun, early))
        | inr far ↦ far
      ]);
      whole = whole;
      nearer = nearer;
    }

    -- an item is given
    pub frame_given : first_of w r.section ≤ r.position → (v : V) → (dev.Tells → Spells spelling accepted config item v) → GivesOne g gives seal dev spelling accepted refusal config w k a b (r.section, r.position, size, v)
    frame_given begun v spells = record {
      over = over;
      gone = gone_looked g gives seal dev w r at a b was.bytes tt k p place looks;
      item = λ t. record {
        item = item;
        left = left_there begun t;
        first = λ s o i l before. elim l.byte.ahead [
          | inl here ↦ (let far = ahead_far seal w r.section not_ahead own s here.1 in elim before [ inl lt ↦ omega (arith, far, lt) | inr same ↦ omega (arith, far, same.0) ])
          | inr inside ↦ (let x = and_at w.place (λ (y : Place). (y.section ≡ s) × (y.position ≤ o)) r at inside in elim before [ inl lt ↦ omega (arith, x.0, lt) | inr same ↦ omega (arith, x.1, same.1) ])
        ];
        lengths = λ s near lt. elim near [ inl ahead ↦ (let far = ahead_far seal w r.section not_ahead own s ahead in absurd (omega (arith, far, lt))) | inr inside ↦ (let is = own s inside in absurd (omega (arith, is, lt))) ];
        spells = spells t;
        sized = sym (header_only (drop r.position kept) size header item (drop (header + size) (drop r.position kept)) (begins t) (frame_there t)).0;
        rest = λ s o i. (forth t s o i, λ l. back t s o i l.0 l.1);
      };
      whole = whole;
      nearer = nearer;
    }
      where
        own : (s : ℕ) → IsSomeAnd w.place (λ x. x.section ≡ s) → s ≡ r.section
        own s is = sym (and_at w.place (λ (x : Place). x.section ≡ s) r at is)

        f : IsFurther w k r p
        f = and_at k.place (IsFurther w k r) p place looks.rest

        same_bytes : (t : dev.Tells) (s : ℕ) → given_bytes seal k (disk (dev.time b)) s ≡ given_bytes seal w d s
        same_bytes t s = λ i. given_bytes seal (f.goes i) (disk_same g gives seal dev a b (looks.unchanged t) i) s

        forth : (t : dev.Tells) (s o : ℕ) (i : List ℕ) → IsItemLeft seal k (disk (dev.time b)) s o i → IsItemLeft seal w d s o i × StandsBefore r.section r.position s o
        forth t s o i l =
            let y = subst (λ (x : Walk F (PageBlob S gs)). IsLeft seal 1 x (disk (dev.time b)) s o) f.goes l.byte in
            let whole = subst (λ (x : List ℕ). IsItemAt x o i) (same_bytes t s) l.whole in
            let long : o < length (given_bytes seal w d s) / 1 = subst (λ (x : List ℕ). o < length x / 1) (same_bytes t s) l.byte.whole in
            elim y.ahead [
              | inl here ↦ (record { byte = record { goes_on = going; begun = y.begun; whole = long; ahead = inl here }; whole = whole }, inl (ahead_far seal w r.section not_ahead own s here.1))
              | inr inside ↦ (
                record {
                  byte = record { goes_on = going; begun = y.begun; whole = long; ahead = inr (some_and w.place (λ (x : Place). (x.section ≡ s) × (x.position ≤ o)) r at (sym f.section ∙ inside.0, (let le = inside.1 in omega (arith, le, still)))) };
                  whole = whole;
                },
                inr (sym f.section ∙ inside.0, (let le = inside.1 in omega (arith, le, still, some))),
              )
            ]

        back : (t : dev.Tells) (s o : ℕ) (i : List ℕ) → IsItemLeft seal w d s o i → StandsBefore r.section r.position s o → IsItemLeft seal k (disk (dev.time b)) s o i
        back t s o i l before =
            let y = l.byte in
            let whole = subst (λ (x : List ℕ). IsItemAt x o i) (sym (same_bytes t s)) l.whole in
            let long : o < length (given_bytes seal k (disk (dev.time b)) s) / 1 = subst (λ (x : List ℕ). o < length x / 1) (sym (same_bytes t s)) y.whole in
            record {
              byte = subst (λ (x : Walk F (PageBlob S gs)). IsLeft seal 1 x (disk (dev.time b)) s o) (sym f.goes) (record {
                goes_on = going;
                begun = y.begun;
                whole = subst (λ (x : Walk F (PageBlob S gs)). o < length (given_bytes seal x (disk (dev.time b)) s) / 1) f.goes long;
                ahead = elim y.ahead [
                  | inl here ↦ inl here
                  | inr inside ↦ (
                      let x = and_at w.place (λ (z : Place). (z.section ≡ s) × (z.position ≤ o)) r at inside in
                      inr (
                        f.section ∙ x.0,
                        elim (behind t o i (subst (λ (z : ℕ). IsItemAt (given_bytes seal w d z) o i) (sym x.0) l.whole) x.1) [
                          | inr far ↦ far
                          | inl here ↦ absurd (elim before [ inl lt ↦ omega (arith, x.0, lt) | inr same ↦ (let past = same.1 in omega (arith, here, past)) ])
                        ],
                      ))
                ];
              });
              whole = whole;
            }
