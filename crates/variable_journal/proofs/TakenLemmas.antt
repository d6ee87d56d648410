-- A frame as the code comes to it: what `frame` asks, and each of its answers.
use Rattle.std.specs.Prelude.{◌≡◌, ◌⊎◌, ℕ, ◌+◌, ◌-◌, ◌*◌, ◌<◌, ◌≤◌, Bool, false, true, List, [], length, take, drop, Option, Some, None, Result, Ok, Err, IfSome, IsSome, IsSomeAnd, MatchOption}
use Rattle.std.proofs.Common.{inl, inr, refl, sym, ap, ◌∙◌, subst, arith, length-drop}
use Rattle.std.proofs.lemmas.List.{drop-take}
use Rattle.blob_device.specs.Timeline.{disk}
use Rattle.blob_device.specs.declared.device.Device as device
use Rattle.blob_device.specs.declared.runtime.RError.TheVariants.{InvalidChecksum}
use Rattle.value_codec.specs.declared.codec.Error as codec
use Rattle.value_codec.specs.declared.codec.Error.TheVariants as code
use Rattle.sealed_pages.specs.Readers.{Reader}
use Rattle.sealed_pages.specs.declared.page_blob.PageBlob.{PageBlob}
use Rattle.section_manager.specs.Raised.{raised_codec}
use Rattle.section_manager.specs.Setting.{Setting}
use Rattle.section_manager.specs.declared.buffer.SectionBuffer as buffer
use Rattle.section_manager.specs.declared.journal.Error.{Error}
use Rattle.section_manager.specs.declared.journal.Error.TheVariants.{Codec, Corruption, ItemOutOfRange, Mem, Runtime}
use Rattle.segments.specs.FixedBounds.{whole_of}
use Rattle.segments.specs.FixedCursor.{Turns, passing}
use Rattle.segments.specs.FixedReading.{HasNotRead}
use Rattle.segments.specs.FixedReplay.{Walk, Place, HasWalk, first_of}
use Rattle.segments.specs.FixedStepping.{bytes_ahead, sections_ahead, way_of, word}
use Rattle.variable_journal.specs.Reading.{IsPastLast}
use Rattle.variable_journal.specs.Replaying.{GivenItem, IsBoundary, LeavesWhole, given_bytes}
use Rattle.variable_journal.specs.Advancing.{GivesError, GivesOne, HasPassed, IsGoing}
use Rattle.variable_journal.specs.Turning.{BytesGo, HasReached, HasTurned, IsAtFrame, IsAtTorn, IsFurther, Looks, MayLook, TurnEnds, stopped}
use Rattle.variable_journal.proofs.LengthLemmas.{past_of_long}
use Rattle.variable_journal.proofs.LookingLemmas.{and_at, at_some, disk_same, match_at, some_and, whole_bytes}
use Rattle.variable_journal.proofs.ReadingLemmas.{mem_or}
use Rattle.variable_journal.specs.lemmas.Running.{error_then, one_then, passed_then, whole_then}
use Rattle.variable_journal.proofs.SteppingLemmas.{walk_left}
use Rattle.variable_journal.proofs.TakingLemmas.{frame_given, frame_skipped, least_there, left_there}
use Rattle.variable_journal.proofs.TornLemmas.{stands_at}
use Rattle.variable_journal.proofs.TurningLemmas.{error_looked, error_stopped, near_looked, passed_looked, walked_looked}

raised_never : (x : codec.Error) (y : Error) → (Mem ≡ y → ⊥) → (Codec x ≡ y → ⊥) → raised_codec x ≡ y → ⊥
raised_never x y memory code is = elim (mem_or x) [ inl none ↦ memory (sym (ap raised_codec none) ∙ is) | inr own ↦ code (sym own ∙ is) ]

part_size : (m n : ℕ) → m + n - m ≡ n
part_size m n = omega arith

module _ {F S D V C : Type 0} {gs : _} (g : buffer.Ghosts (PageBlob S gs)) (gives : F → Setting) (seal : List ℕ → ℕ) (dev : device.Ghosts D)
    (spelling : V → List ℕ) (accepted : V → C → Type 0) (refusal : List ℕ → C → Option codec.Error) (config : C) where
  -- Looks that left the replay where it stood.
  module _ {T : Type 0} (x : T) (w : Walk F (PageBlob S gs)) (r : Place) (at : w.place ≡ Some r) (a b : D) (was : IsGoing g gives seal dev w a) (going : w.ended ≡ false) (m : Walk F (PageBlob S gs))
      (looks : Looks g gives seal dev r w m a b {T = T} (Ok x)) (stood : IsSomeAnd m.place (λ q. q.position ≡ r.position)) where
    q : (y : Place) × (m.place ≡ Some y) × IsFurther w m r y
    q = at_some m.place (IsFurther w m r) looks.rest

    still_at : q.0.position ≡ r.position
    still_at = and_at m.place (λ (y : Place). y.position ≡ r.position) q.0 q.1 stood

    pub still_bytes : dev.Tells → given_bytes seal m (disk (dev.time b)) r.section ≡ given_bytes seal w (disk (dev.time a)) r.section
    still_bytes t = λ i. given_bytes seal (q.2.goes i) (disk_same g gives seal dev a b (looks.unchanged t) i) r.section

    pub still_passed : HasPassed g gives seal dev w m a b
    still_passed = passed_looked g gives seal dev w r at a b was.bytes x m q.0 q.1 looks (λ t o i there le begun. omega (arith, le, still_at))

    pub still_going : IsGoing g gives seal dev m b
    still_going = record {
      bytes = looks.over;
      free = λ s. ap (λ (y : Walk F (PageBlob S gs)). y.journal.floor_of s) q.2.goes ∙ was.free s;
      place = λ t y is. (
          let same : q.0 ≡ y = (let own = q.1 in cc (own, is)) in
          subst (λ (p : Place). IsBoundary (given_bytes seal m (disk (dev.time b)) p.section) p.position) same
          (subst (λ (s : ℕ). IsBoundary (given_bytes seal m (disk (dev.time b)) s) q.0.position) (sym q.2.section)
          (subst (λ (l : List ℕ). IsBoundary l q.0.position) (sym (still_bytes t)) (subst (IsBoundary (given_bytes seal w (disk (dev.time a)) r.section)) (sym still_at) (was.place t r at)))));
      walked = λ t. walked_looked g gives seal dev w r at a b was.bytes x m q.0 q.1 looks t (was.walked t);
    }

    pub still_ended : m.ended ≡ false
    still_ended = still_passed.gone.goes.ended ∙ going

    pub still_stands : IsSomeAnd m.place (λ y. (y.section ≡ r.section) × (y.position ≡ r.position))
    still_stands = some_and m.place (λ (y : Place). (y.section ≡ r.section) × (y.position ≡ r.position)) q.0 q.1 (q.2.section, still_at)

    still_way : way_of m ≤ way_of w
    still_way =
        let before : way_of w ≡ sections_ahead w.next_section * (word + 1) + bytes_ahead (Some r) = ap (λ (o : Option Place). sections_ahead w.next_section * (word + 1) + bytes_ahead o) at in
        let after : way_of m ≡ sections_ahead w.next_section * (word + 1) + bytes_ahead (Some q.0) = ap way_of q.2.goes in
        omega (arith, before, after, q.2.size, q.2.at)

    still_whole : dev.Tells → LeavesWhole seal w m (disk (dev.time a)) (disk (dev.time b))
    still_whole t s near far = absurd (far (near_looked g gives seal dev w r at a b was.bytes x m q.0 q.1 looks s near))

    -- what a turn from there answers, it answers from where it began
    pub still_turn : (n : Walk F (PageBlob S gs)) (c : D) (result : Result (Option (GivenItem V)) Error) → TurnEnds g gives seal dev spelling accepted refusal config m n b c result → TurnEnds g gives seal dev spelling accepted refusal config w n a c result
    still_turn n c (Ok None) did = record {
      over = did.over;
      passed = passed_then g gives seal dev w m n a b c still_passed still_ended did.passed;
      whole = whole_then g gives seal dev w m n a b c still_passed still_ended still_whole did.passed.gone did.whole;
      nearer = omega (arith, still_way, did.nearer);
    }
    still_turn n c (Ok (Some y)) did = one_then g gives seal dev w m n a b c still_passed still_ended still_whole spelling accepted refusal config still_way y did
    still_turn n c (Err e) did = error_then g gives seal dev w m (stopped n) a b c still_passed still_ended still_whole spelling accepted refusal config still_way e did

  module _ (section offset header size : ℕ) (w : Walk F (PageBlob S gs)) (a b : D) (frame : IsAtFrame g gives seal dev section offset header size w a) (m : Walk F (PageBlob S gs)) where
    stand : (x : Reader) × (w.place ≡ Some (record { section = section; position = offset; reader = x }))
    stand = stands_at w.place section offset frame.place.stands

    abbrev r : Place
    r = record { section = section; position = offset; reader = stand.0 }

    abbrev was : IsGoing g gives seal dev w a
    was = frame.place.over

    -- it may be looked whether the frame is whole
    pub frame_may : MayLook g gives seal dev w a
    frame_may = record { over = was.bytes; free = was.free; stands = subst IsSome (sym stand.1) refl }

    pub frame_at : IfSome w.place (λ y. y.position ≡ offset)
    frame_at = subst (λ (o : Option Place). IfSome o (λ y. y.position ≡ offset)) (sym stand.1) refl

    -- looking whether it is whole failed
    pub frame_stopped : (x : Error) → ((y : Place) → w.place ≡ Some y → HasReached g gives seal dev y w m a b (header + size) (Err x)) → GivesError g gives seal dev spelling accepted refusal config w (stopped m) a b x
    frame_stopped x reached = error_looked g gives seal dev w r stand.1 a b was.bytes spelling accepted refusal config m x was.free was.walked frame.place.going (reached r stand.1).looks

    module _ (enough : Bool) (reached : (y : Place) → w.place ≡ Some y → HasReached g gives seal dev y w m a b (header + size) (Ok enough)) where
      reach : HasReached g gives seal dev r w m a b (header + size) (Ok enough)
      reach = reached r stand.1

      -- it is cut short
      pub frame_torn : enough ≡ false → IsAtTorn g gives seal dev section offset m b
      frame_torn off = record {
        place = record {
          over = still_going enough w r stand.1 a b was frame.place.going m reach.looks reach.still;
          going = still_ended enough w r stand.1 a b was frame.place.going m reach.looks reach.still;
          stands = still_stands enough w r stand.1 a b was frame.place.going m reach.looks reach.still;
        };
        torn = λ t. subst (λ (l : List ℕ). IsPastLast (drop offset l)) (sym (still_bytes enough w r stand.1 a b was frame.place.going m reach.looks reach.still t))
            (past_of_long (drop offset (given_bytes seal w (disk (dev.time a)) section)) size header (frame.begins t)
            (let less = reach.short t (ap Ok off) in omega (arith, less, length-drop offset (given_bytes seal w (disk (dev.time a)) section), (frame.begins t).within)));
      }

      pub frame_turn : (n : Walk F (PageBlob S gs)) (c : D) (result : Result (Option (GivenItem V)) Error) → TurnEnds g gives seal dev spelling accepted refusal config m n b c result → TurnEnds g gives seal dev spelling accepted refusal config w n a c result
      frame_turn = still_turn enough w r stand.1 a b was frame.place.going m reach.looks reach.still

      pub frame_walk : HasWalk 1 m
      frame_walk = reach.looks.over.walk

      pub frame_hand : enough ≡ true → IfSome m.place (λ q. (header + size) * 1 ≤ length q.reader.bytes)
      frame_hand on = if_some m.place (reach.hand (ap Ok on))
        where
          if_some : (o : Option Place) → IsSomeAnd o (λ q. header + size ≤ length q.reader.bytes) → IfSome o (λ q. (header + size) * 1 ≤ length q.reader.bytes)
          if_some None has = absurd has
          if_some (Some q) has = omega (arith, has)

      reach_on : enough ≡ true → HasReached g gives seal dev r w m a b (header + size) (Ok true)
      reach_on on = subst (λ (x : Bool). HasReached g gives seal dev r w m a b (header + size) (Ok x)) on reach

      place : (y : Place) × (m.place ≡ Some y) × IsFurther w m r y
      place = at_some m.place (IsFurther w m r) reach.looks.rest

      some_bytes : 1 ≤ header + size
      some_bytes = omega (arith, frame.some)

      -- what is at hand of the item is what stands there
      pub frame_item : enough ≡ true → dev.Tells → IsSomeAnd m.place (λ y. take (header + size) y.reader.bytes ≡ take (header + size) (drop offset (given_bytes seal w (disk (dev.time a)) section)))
      frame_item on t = reach.bytes t (ap Ok on)

      module _ (on : enough ≡ true) (hand : List ℕ) (found : MatchOption m.place (hand ≡ []) (λ y. hand ≡ take (whole_of 1 (length y.reader.bytes)) y.reader.bytes)) where
        all_hand : hand ≡ place.0.reader.bytes
        all_hand = whole_bytes place.0.reader.bytes hand (match_at m.place place.0 (hand ≡ []) (λ (y : Place). hand ≡ take (whole_of 1 (length y.reader.bytes)) y.reader.bytes) place.1 found)

        -- all of the frame is at hand
        pub frame_long : header + size ≤ length hand
        frame_long = omega (arith, and_at m.place (λ (y : Place). header + size ≤ length y.reader.bytes) place.0 place.1 (reach.hand (ap Ok on)), ap length all_hand)

        -- and the item in it is what stands there
        pub frame_there : (t : dev.Tells) → take (header + size - header) (drop header hand) ≡ take size (drop header (drop offset (given_bytes seal w (disk (dev.time a)) section)))
        frame_there t = ap (λ (n : ℕ). take n (drop header hand)) (part_size header size)
            ∙ sym (drop-take header size hand)
            ∙ ap (drop header) (ap (take (header + size)) all_hand ∙ and_at m.place (λ (y : Place). take (header + size) y.reader.bytes ≡ take (header + size) (drop offset (given_bytes seal w (disk (dev.time a)) section))) place.0 place.1 (frame_item on t))
            ∙ drop-take header size (drop offset (given_bytes seal w (disk (dev.time a)) section))

      -- the start is that of the replay before
      frame_first : first_of m section ≡ first_of w section
      frame_first = ap (λ (y : Walk F (PageBlob S gs)). first_of y section) place.2.goes

      -- an error of the codec
      pub frame_refused : enough ≡ true → (x : codec.Error) (item : List ℕ) (first : ℕ) → first ≡ first_of m section → first ≤ offset
          → (dev.Tells → item ≡ take size (drop header (drop offset (given_bytes seal w (disk (dev.time a)) section)))) → (x ≡ code.Mem) ⊎ (refusal item config ≡ Some x)
          → GivesError g gives seal dev spelling accepted refusal config w (stopped m) a b (raised_codec x)
      frame_refused on x item first first_is begun item_is why =
          let same : stopped m ≡ stopped w = ap stopped (q enough w r stand.1 a b was frame.place.going m reach.looks reach.still).2.goes in
          subst (λ (y : Walk F (PageBlob S gs)). GivesError g gives seal dev spelling accepted refusal config w y a b (raised_codec x)) (sym same)
          (error_stopped g gives seal dev w r stand.1 a b was.bytes spelling accepted refusal config (raised_codec x) was.free was.walked frame.place.going
          (subst (λ (y : Walk F (PageBlob S gs)). BytesGo g gives seal dev y b) same (walk_left g gives seal dev m (dev.opened b) (disk (dev.time b)) reach.looks.over))
          reach.looks.entries reach.looks.unchanged reach.looks.faults
          (λ p is. raised_never x (ItemOutOfRange p) (λ at. cc at) (λ at. cc at) is)
          (λ t y is. inl (
            offset,
            take size (drop header (drop offset (given_bytes seal w (disk (dev.time a)) section))),
            left_there g gives seal dev spelling accepted refusal config w r stand.1 a b was frame.place.going size header frame.begins m place.0 place.1 some_bytes (reach_on on) (omega (arith, begun, first_is, frame_first)) t,
            least_there g gives seal dev spelling accepted refusal config w r stand.1 a b was frame.place.going size header frame.begins m place.0 place.1 some_bytes (reach_on on),
            subst (λ (l : List ℕ). refusal l config ≡ Some y) (item_is t) (refused_by y is),
          ))
          (λ t n is. raised_never x (Runtime (InvalidChecksum n)) (λ at. cc at) (λ at. cc at) is)
          (λ y is. raised_never x (Corruption y) (λ at. cc at) (λ at. cc at) is)
          cause_of)
        where
          refused_by : (y : codec.Error) → raised_codec x ≡ Codec y → refusal item config ≡ Some y
          refused_by y is = elim (mem_or x) [
            | inl none ↦ absurd (let at = ap raised_codec none in cc (at, is))
            | inr own ↦ elim why [
              | inl none ↦ absurd (let at = ap raised_codec none in cc (at, is))
              | inr refused ↦ (let same_error : x ≡ y = cc (own, is) in refused ∙ ap (λ (e : codec.Error). Some e) same_error)
            ]
          ]

          cause_of : HasNotRead {T = V} (Err (raised_codec x)) (dev.faults a) (dev.faults b)
          cause_of = elim (mem_or x) [
            | inl none ↦ inr (inr (inl (ap Err (ap raised_codec none))))
            | inr own ↦ inr (inl (x, ap Err own))
          ]

      module _ (on : enough ≡ true) (n : Walk F (PageBlob S gs)) (turn : Turns seal 1 (passing 1 (header + size) m) m n) where
        -- a frame before the start is passed over
        pub frame_passed : (first : ℕ) → first ≡ first_of m section → offset < first → HasTurned g gives seal dev spelling accepted refusal config w n a b
        frame_passed first is early = frame_skipped g gives seal dev spelling accepted refusal config w r stand.1 a b was frame.place.going size header frame.begins m place.0 place.1 some_bytes (reach_on on) n turn (omega (arith, early, is, frame_first))

        -- and an item is given
        pub frame_gave : (first : ℕ) → first ≡ first_of m section → first ≤ offset → (v : V) (item : List ℕ) → (dev.Tells → item ≡ take size (drop header (drop offset (given_bytes seal w (disk (dev.time a)) section)))) → spelling v ≡ item → accepted v config
            → GivesOne g gives seal dev spelling accepted refusal config w n a b (section, offset, size, v)
        frame_gave first is begun v item item_is spelled allowed = frame_given g gives seal dev spelling accepted refusal config w r stand.1 a b was frame.place.going size header frame.begins m place.0 place.1 some_bytes (reach_on on) n turn (omega (arith, begun, is, frame_first)) v
            (λ t. record { spelled = spelled ∙ item_is t; allowed = allowed })
