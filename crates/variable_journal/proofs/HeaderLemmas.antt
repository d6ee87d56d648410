-- What stands at the place of a replay, as the code comes to it: a length, one that is cut short, or none.
use Rattle.std.specs.Prelude.{◌≡◌, ℕ, ◌^◌, ◌<◌, ◌≤◌, Bool, true, List, [], ◌++◌, length, take, drop, Option, Some, None, IsSome, IsSomeAnd, MatchOption, Result, Ok, Err}
use Rattle.std.specs.Option.{option_map}
use Rattle.std.proofs.Common.{inl, inr, refl, sym, ap, ◌∙◌, subst, arith, length-drop, length-take, take-append-drop}
use Rattle.std.proofs.lemmas.List.{drop_all}
use Rattle.blob_device.specs.Timeline.{disk}
use Rattle.blob_device.specs.declared.device.Device as device
use Rattle.value_codec.specs.declared.codec.Error as codec
use Rattle.value_codec.specs.declared.codec.Error.TheVariants.{InvalidVarint}
use Rattle.value_codec.specs.Varint.{BeginsWithVarint}
use Rattle.sealed_pages.specs.Readers.{Reader}
use Rattle.sealed_pages.specs.declared.page_blob.PageBlob.{PageBlob}
use Rattle.section_manager.specs.Setting.{Setting}
use Rattle.section_manager.specs.declared.buffer.SectionBuffer as buffer
use Rattle.section_manager.specs.declared.journal.Error.{Error}
use Rattle.section_manager.specs.declared.journal.Error.TheVariants.{Codec}
use Rattle.segments.specs.FixedBounds.{whole_of}
use Rattle.segments.specs.FixedCursor.{Fills, kept_at}
use Rattle.segments.specs.FixedReplay.{Walk, Place}
use Rattle.variable_journal.specs.Frames.{rest_of, whole_end, HasBadLength}
use Rattle.variable_journal.specs.Reading.{IsPastLast}
use Rattle.variable_journal.specs.Replaying.{GivenItem, IsBoundary, IsItemAt, IsItemLeft, given_bytes}
use Rattle.variable_journal.specs.Advancing.{GivesError, IsGoing}
use Rattle.variable_journal.specs.Turning.{BytesGo, FindsHeader, HasLooked, IsAt, IsAtFrame, IsAtTorn, IsFurther, IsSmall, IsUnder, Looks, MayLook, Says, TurnEnds, stopped}
use Rattle.variable_journal.specs.declared.journal.replaying.Header.{Header}
use Rattle.variable_journal.specs.declared.journal.replaying.Header.TheVariants.{Length, Cut, Bad}
use Rattle.variable_journal.proofs.LengthLemmas.{none_of_bad}
use Rattle.variable_journal.proofs.LookingLemmas.{and_at, at_some, hand_filled, looks_err, looks_filled, looks_ok, match_at, still_filled, there_filled, whole_bytes}
use Rattle.variable_journal.proofs.OffsetLemmas.{item_before_end, last_boundary, rest_behind}
use Rattle.variable_journal.proofs.SteppingLemmas.{walk_left}
use Rattle.variable_journal.proofs.TakenLemmas.{still_bytes, still_ended, still_going, still_stands, still_turn}
use Rattle.variable_journal.proofs.TornLemmas.{stands_at}
use Rattle.variable_journal.proofs.TurningLemmas.{error_looked, error_stopped}

abbrev told_section : Option (ℕ × ℕ) → ℕ
told_section None = 0
told_section (Some x) = x.0

abbrev told_offset : Option (ℕ × ℕ) → ℕ
told_offset None = 0
told_offset (Some x) = x.1

-- the place as it is told
pub place_told : (o : Option Place) (p : Option (ℕ × ℕ)) (s q : ℕ) → p ≡ option_map (λ (r : Place). (r.section, r.position)) o → p ≡ Some (s, q) → IsSomeAnd o (λ r. (r.section ≡ s) × (r.position ≡ q))
place_told None p s q is some = absurd (cc (is, some))
place_told (Some r) p s q is some = (ap told_section (sym is ∙ some), ap told_offset (sym is ∙ some))

module _ (bytes : List ℕ) (o : ℕ) (at : IsBoundary bytes o) (bad : HasBadLength (drop o bytes)) where
  last : o ≡ whole_end bytes
  last = last_boundary bytes o at (none_of_bad (drop o bytes) bad)

  -- so no item stands from there on
  none_bad : (q : ℕ) (item : List ℕ) → IsItemAt bytes q item → o ≤ q → ⊥
  none_bad q item there le = omega (arith, le, item_before_end bytes q item there, last)

  -- and that is the rest behind all frames
  bad_rest : HasBadLength (rest_of bytes)
  bad_rest = subst HasBadLength (ap (λ (n : ℕ). drop n bytes) last ∙ rest_behind bytes) bad

module _ {F S D : Type 0} {gs : _} (g : buffer.Ghosts (PageBlob S gs)) (gives : F → Setting) (seal : List ℕ → ℕ) (dev : device.Ghosts D)
    (w : Walk F (PageBlob S gs)) (r : Place) (at : w.place ≡ Some r) (free : (s : ℕ) → w.journal.floor_of s ≡ 0) (m : Walk F (PageBlob S gs)) (a b : D) where
  -- looking for it failed
  pub header_err : (e : Error) → HasLooked g gives seal dev r w m a b (Err e) → FindsHeader g gives seal dev r w m a b (Err e)
  header_err e l = record { looks = looks_err g gives seal dev {T = ℕ} {U = Header} r w m a b e l.looks; still = tt; says = λ t. tt; small = tt }

  module _ (n : ℕ) (looked : HasLooked g gives seal dev r w m a b (Ok n)) where
    one : Looks g gives seal dev r w m a b {T = Unit {0}} (Ok tt)
    one = looks_ok g gives seal dev r w m a b n tt looked.looks

    q : (y : Place) × (m.place ≡ Some y) × IsFurther w m r y
    q = at_some m.place (IsFurther w m r) one.rest

    still : q.0.position ≡ r.position
    still = and_at m.place (λ (x : Place). x.position ≡ r.position) q.0 q.1 looked.still

    hand : n ≤ length q.0.reader.bytes
    hand = and_at m.place (λ (x : Place). n ≤ length x.reader.bytes) q.0 q.1 looked.hand.1

    pub header_stands : IsSome m.place
    header_stands = subst IsSome (sym q.1) refl

    module _ (k : Walk F (PageBlob S gs)) (c : D) (result : Result Bool Error) (fill : (x : Place) → m.place ≡ Some x → Fills seal 1 g gives dev n x result m k b c) where
      -- the bytes are at hand: this does not fail
      pub header_ready : result ≡ Ok true
      header_ready = ((fill q.0 q.1).ready (omega (arith, hand))).0

      did : Fills seal 1 g gives dev n q.0 (Ok true) m k b c
      did = subst (λ (x : Result Bool Error). Fills seal 1 g gives dev n q.0 x m k b c) header_ready (fill q.0 q.1)

      p : (y : Place) × (k.place ≡ Some y) × (n ≤ length y.reader.bytes)
      p = at_some k.place (λ (y : Place). n ≤ length y.reader.bytes) (hand_filled g gives seal dev w r at m k q.0 a b c one q.1 still free n (Ok true) did refl)

      module _ (bytes : List ℕ) (found : MatchOption k.place (bytes ≡ []) (λ y. bytes ≡ take (whole_of 1 (length y.reader.bytes)) y.reader.bytes)) where
        whole : bytes ≡ p.0.reader.bytes
        whole = whole_bytes p.0.reader.bytes bytes (match_at k.place p.0 (bytes ≡ []) (λ (y : Place). bytes ≡ take (whole_of 1 (length y.reader.bytes)) y.reader.bytes) p.1 found)

        pub header_long : n ≤ length bytes
        header_long = omega (arith, p.2, ap length whole)

        -- and they say what stands there
        pub header_found : (f : Header) → ((rest : List ℕ) → (length (take n bytes) < 5 → rest ≡ []) → Says f (take n bytes ++ rest)) → (length (take n bytes) ≤ 5 → IsSmall f) → FindsHeader g gives seal dev r w k a c (Ok f)
        header_found f says small = record {
          looks = looks_ok g gives seal dev r w k a c true f (looks_filled g gives seal dev w r at m k q.0 a b c one q.1 still free n (Ok true) did);
          still = still_filled g gives seal dev w r at m k q.0 a b c one q.1 still free n (Ok true) did;
          says = λ t. subst (Says f) (all t) (says (drop n (on t)) (none t));
          small = small (omega (arith, length-take n bytes, looked.hand.0));
        }
          where
            on : dev.Tells → List ℕ
            on t = drop r.position (kept_at seal 1 w r (disk (dev.time a)))

            head : (t : dev.Tells) → take n bytes ≡ take n (on t)
            head t = ap (take n) whole ∙ and_at k.place (λ (y : Place). take n y.reader.bytes ≡ take n (on t)) p.0 p.1 (there_filled g gives seal dev w r at m k q.0 a b c one q.1 still free n (Ok true) did t refl)

            all : (t : dev.Tells) → take n bytes ++ drop n (on t) ≡ on t
            all t = ap (λ (z : List ℕ). z ++ drop n (on t)) (head t) ∙ take-append-drop n (on t)

            none : (t : dev.Tells) → length (take n bytes) < 5 → drop n (on t) ≡ []
            none t few = drop_all n (on t) (let less : n < 5 = omega (arith, few, length-take n bytes, header_long) in let most = looked.all t less in omega (arith, most, length-drop r.position (kept_at seal 1 w r (disk (dev.time a)))))

module _ {F S D V C : Type 0} {gs : _} (g : buffer.Ghosts (PageBlob S gs)) (gives : F → Setting) (seal : List ℕ → ℕ) (dev : device.Ghosts D)
    (spelling : V → List ℕ) (accepted : V → C → Type 0) (refusal : List ℕ → C → Option codec.Error) (config : C)
    (section offset : ℕ) (w : Walk F (PageBlob S gs)) (a b : D) (under : IsUnder g gives seal dev w a) (stood : IsSomeAnd w.place (λ r. (r.section ≡ section) × (r.position ≡ offset))) where
  stand : (x : Reader) × (w.place ≡ Some (record { section = section; position = offset; reader = x }))
  stand = stands_at w.place section offset stood

  abbrev r : Place
  r = record { section = section; position = offset; reader = stand.0 }

  abbrev was : IsGoing g gives seal dev w a
  was = under.over

  -- a turn may look
  pub turn_may : MayLook g gives seal dev w a
  turn_may = record { over = was.bytes; free = was.free; stands = subst IsSome (sym stand.1) refl }

  module _ (m : Walk F (PageBlob S gs)) where
    -- looking failed
    pub turn_stopped : (x : Error) → ((y : Place) → w.place ≡ Some y → FindsHeader g gives seal dev y w m a b (Err x)) → GivesError g gives seal dev spelling accepted refusal config w (stopped m) a b x
    turn_stopped x found = error_looked g gives seal dev w r stand.1 a b was.bytes spelling accepted refusal config m x was.free was.walked under.going (found r stand.1).looks

    module _ (f : Header) (found : (y : Place) → w.place ≡ Some y → FindsHeader g gives seal dev y w m a b (Ok f)) where
      head : FindsHeader g gives seal dev r w m a b (Ok f)
      head = found r stand.1

      abbrev kept : dev.Tells → List ℕ
      kept t = given_bytes seal w (disk (dev.time a)) section

      same : (t : dev.Tells) → given_bytes seal m (disk (dev.time b)) section ≡ kept t
      same t = still_bytes g gives seal dev spelling accepted refusal config f w r stand.1 a b was under.going m head.looks head.still t

      on : IsAt g gives seal dev section offset m b
      on = record {
        over = still_going g gives seal dev spelling accepted refusal config f w r stand.1 a b was under.going m head.looks head.still;
        going = still_ended g gives seal dev spelling accepted refusal config f w r stand.1 a b was under.going m head.looks head.still;
        stands = still_stands g gives seal dev spelling accepted refusal config f w r stand.1 a b was under.going m head.looks head.still;
      }

      -- what a turn from there answers, this one answers
      pub turn_then : (n : Walk F (PageBlob S gs)) (c : D) (result : Result (Option (GivenItem V)) Error) → TurnEnds g gives seal dev spelling accepted refusal config m n b c result → TurnEnds g gives seal dev spelling accepted refusal config w n a c result
      turn_then = still_turn g gives seal dev spelling accepted refusal config f w r stand.1 a b was under.going m head.looks head.still

      -- a frame's length stands there
      pub turn_frame : (size header : ℕ) → f ≡ Length size header → IsAtFrame g gives seal dev section offset header size m b
      turn_frame size header is =
          let small : IsSmall (Length size header) = subst IsSmall is head.small in
          record {
            place = on;
            begins = λ t. subst (λ (l : List ℕ). BeginsWithVarint (2 ^ 32) (drop offset l) size header) (sym (same t)) (subst (λ (x : Header). Says x (drop offset (kept t))) is (head.says t));
            some = small.0;
            small = small.1;
          }

      -- it is cut short
      pub turn_torn : f ≡ Cut → IsAtTorn g gives seal dev section offset m b
      turn_torn is = record {
        place = on;
        torn = λ t. subst (λ (l : List ℕ). IsPastLast (drop offset l)) (sym (same t)) (subst (λ (x : Header). Says x (drop offset (kept t))) is (head.says t));
      }

      -- it is none
      pub turn_bad : f ≡ Bad → GivesError g gives seal dev spelling accepted refusal config w (stopped m) a b (Codec InvalidVarint)
      turn_bad is =
          let further = at_some m.place (IsFurther w m r) head.looks.rest in
          let left : stopped m ≡ stopped w = ap stopped further.2.goes in
          subst (λ (y : Walk F (PageBlob S gs)). GivesError g gives seal dev spelling accepted refusal config w y a b (Codec InvalidVarint)) (sym left)
          (error_stopped g gives seal dev w r stand.1 a b was.bytes spelling accepted refusal config (Codec InvalidVarint) was.free was.walked under.going
          (subst (λ (y : Walk F (PageBlob S gs)). BytesGo g gives seal dev y b) left (walk_left g gives seal dev m (dev.opened b) (disk (dev.time b)) head.looks.over))
          head.looks.entries head.looks.unchanged head.looks.faults
          (λ p no. cc no)
          (λ t y e. inr (
            (let own : InvalidVarint ≡ y = cc e in sym own),
            (λ o i l. none_bad (kept t) offset (was.place t r stand.1) (bad t) o i l.whole (least o i l)),
            bad_rest (kept t) offset (was.place t r stand.1) (bad t),
          ))
          (λ t n no. cc no)
          (λ y no. cc no)
          (inr (inl (InvalidVarint, refl))))
        where
          bad : (t : dev.Tells) → HasBadLength (drop offset (kept t))
          bad t = subst (λ (x : Header). Says x (drop offset (kept t))) is (head.says t)

          least : (o : ℕ) (i : List ℕ) → IsItemLeft seal w (disk (dev.time a)) section o i → offset ≤ o
          least o i l = elim l.byte.ahead [
            | inl here ↦ absurd ((was.bytes.walk.come_to r stand.1).1 here.1)
            | inr inside ↦ (and_at w.place (λ (y : Place). (y.section ≡ section) × (y.position ≤ o)) r stand.1 inside).1
          ]
