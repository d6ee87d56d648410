-- The end of a section as the code comes to it: what `end` asks, and each of its answers.
use Rattle.std.specs.Prelude.{◌≡◌, ℕ, ◌+◌, ◌*◌, ◌<◌, ◌≤◌, false, List, [], ◌∷◌, length, Option, Some, None, Ok, Err, IfSome, IsTrue, IsSomeAnd}
use Rattle.std.specs.Option.{option_map}
use Rattle.std.proofs.Common.{refl, sym, ap, ◌∙◌, arith}
use Rattle.blob_device.specs.Timeline.{disk}
use Rattle.blob_device.specs.declared.device.Device as device
use Rattle.value_codec.specs.Spelling.{size_refusal}
use Rattle.value_codec.specs.declared.codec.Error as codec
use Rattle.sealed_pages.specs.Readers.{Reader}
use Rattle.sealed_pages.specs.declared.page_blob.PageBlob.{PageBlob}
use Rattle.section_manager.specs.Setting.{Setting}
use Rattle.section_manager.specs.declared.buffer.SectionBuffer as buffer
use Rattle.section_manager.specs.declared.journal.Error.{Error}
use Rattle.section_manager.specs.declared.journal.Error.TheVariants.{Codec, ItemOutOfRange}
use Rattle.segments.specs.FixedCursor.{Ends, MayBeShortened, Shortens}
use Rattle.segments.specs.FixedReplay.{Walk, Place, first_of, kept_bytes}
use Rattle.variable_journal.specs.Advancing.{GivesError}
use Rattle.variable_journal.specs.Turning.{BytesGo, HasSkipped, HasTurned, IsAtTorn, IsFurther, stopped}
use Rattle.variable_journal.proofs.EndingLemmas.{ended_cut, ended_failed, ended_lost, ended_start, ended_unowed, ended_whole, going_k, going_m, last_m, may_shorten}
use Rattle.variable_journal.proofs.LookingLemmas.{at_some}
use Rattle.variable_journal.proofs.TurningLemmas.{error_looked}

-- the place at a section and an offset
pub stands_at : (o : Option Place) (section offset : ℕ) → IsSomeAnd o (λ r. (r.section ≡ section) × (r.position ≡ offset)) → (x : Reader) × (o ≡ Some (record { section = section; position = offset; reader = x }))
stands_at None section offset has = absurd has
stands_at (Some r) section offset has = (r.reader, λ i. Some (record { section = has.0 i; position = has.1 i; reader = r.reader }))

abbrev second : Option (ℕ × ℕ) → ℕ
second None = 0
second (Some x) = x.1

-- one byte is an item of one byte
pub one_byte : (l : List ℕ) → length l ≡ 1 → size_refusal 1 l ≡ None
one_byte [] is = absurd (omega (arith, is))
one_byte (x ∷ []) is = refl
one_byte (x ∷ y ∷ l) is = absurd (omega (arith, is))

module _ {F S D V C : Type 0} {gs : _} (g : buffer.Ghosts (PageBlob S gs)) (gives : F → Setting) (seal : List ℕ → ℕ) (dev : device.Ghosts D)
    (spelling : V → List ℕ) (accepted : V → C → Type 0) (refusal : List ℕ → C → Option codec.Error) (config : C)
    (section offset : ℕ) (w : Walk F (PageBlob S gs)) (a b : D) (torn : IsAtTorn g gives seal dev section offset w a) (m : Walk F (PageBlob S gs)) where
  stand : (x : Reader) × (w.place ≡ Some (record { section = section; position = offset; reader = x }))
  stand = stands_at w.place section offset torn.place.stands

  abbrev r : Place
  r = record { section = section; position = offset; reader = stand.0 }

  -- passing over what is left failed
  pub torn_stopped : (x : Error) → ((y : Place) → w.place ≡ Some y → HasSkipped g gives seal dev y w m a b (Err x)) → GivesError g gives seal dev spelling accepted refusal config w (stopped m) a b x
  torn_stopped x skipped = error_looked g gives seal dev w r stand.1 a b torn.place.over.bytes spelling accepted refusal config m x torn.place.over.free torn.place.over.walked torn.place.going (skipped r stand.1).looks

  module _ (skipped : (y : Place) → w.place ≡ Some y → HasSkipped g gives seal dev y w m a b (Ok tt)) where
    skip : HasSkipped g gives seal dev r w m a b (Ok tt)
    skip = skipped r stand.1

    q : (x : Place) × (m.place ≡ Some x) × IsFurther w m r x
    q = at_some m.place (IsFurther w m r) skip.looks.rest

    pub torn_over : BytesGo g gives seal dev m b
    torn_over = skip.looks.over

    pub torn_going : m.ended ≡ false
    torn_going = going_m g gives seal dev spelling accepted refusal config w r stand.1 a b torn.place.over torn.place.going torn.torn m q.0 q.1 skip

    pub torn_last : dev.Tells → IfSome m.place (λ y. length (kept_bytes seal 1 m (disk (dev.time b)) y.section) < (y.position + 1) * 1)
    torn_last t = last_m g gives seal dev spelling accepted refusal config w r stand.1 a b torn.place.over torn.place.going torn.torn m q.0 q.1 skip t

    -- what is seen of the place
    seen_place : (o : Option (ℕ × ℕ)) → o ≡ option_map (λ y. (y.section, y.position)) m.place → o ≡ Some (q.0.section, q.0.position)
    seen_place o is = is ∙ ap (option_map (λ (y : Place). (y.section, y.position))) q.1

    pub torn_none : (o : Option (ℕ × ℕ)) → o ≡ option_map (λ y. (y.section, y.position)) m.place → o ≡ None → ⊥
    torn_none o is none = (let some = seen_place o is in cc (some, none))

    place_is : (o : Option (ℕ × ℕ)) (s n : ℕ) → o ≡ option_map (λ y. (y.section, y.position)) m.place → o ≡ Some (s, n) → n ≡ q.0.position
    place_is o s n is at = sym (ap second at) ∙ ap second (seen_place o is)

    module _ {B : Type 0} (byte_spelling : B → List ℕ) (byte_accepted : B → Unit {0} → Type 0) (byte_refusal : List ℕ → Unit {0} → Option codec.Error) (k : Walk F (PageBlob S gs)) (c : D) where
      pub torn_failed : (x : Error) → ((l : List ℕ) → length l ≡ 1 → byte_refusal l tt ≡ None)
          → ((y : Place) → m.place ≡ Some y → Ends seal 1 g gives byte_spelling byte_accepted byte_refusal dev.Tells (Err x) m k (dev.opened b) (dev.opened c) (dev.time b) (dev.time c) (dev.faults b) (dev.faults c) y)
          → GivesError g gives seal dev spelling accepted refusal config w (stopped k) a c x
      torn_failed x one did = ended_failed g gives seal dev spelling accepted refusal config w r stand.1 a b torn.place.over torn.place.going torn.torn m q.0 q.1 skip byte_spelling byte_accepted byte_refusal k c x one (did q.0 q.1)

      module _ (did : (y : Place) → m.place ≡ Some y → Ends seal 1 g gives byte_spelling byte_accepted byte_refusal dev.Tells (Ok tt) m k (dev.opened b) (dev.opened c) (dev.time b) (dev.time c) (dev.faults b) (dev.faults c) y)
          (o : Option (ℕ × ℕ)) (s kept : ℕ) (seen : o ≡ option_map (λ y. (y.section, y.position)) m.place) (at : o ≡ Some (s, kept)) where
        pub torn_whole : kept ≤ offset → HasTurned g gives seal dev spelling accepted refusal config w k a c
        torn_whole whole = ended_whole g gives seal dev spelling accepted refusal config w r stand.1 a b torn.place.over torn.place.going torn.torn m q.0 q.1 skip byte_spelling byte_accepted byte_refusal k c (did q.0 q.1) (omega (arith, whole, place_is o s kept seen at))

        pub torn_unowed : offset < kept → k.journal.unrecovered section ≡ false → (x : codec.Error) → GivesError g gives seal dev spelling accepted refusal config w (stopped k) a c (Codec x)
        torn_unowed long free x = ended_unowed g gives seal dev spelling accepted refusal config w r stand.1 a b torn.place.over torn.place.going torn.torn m q.0 q.1 skip byte_spelling byte_accepted byte_refusal k c (did q.0 q.1) (omega (arith, long, place_is o s kept seen at)) free x

        pub torn_start : (first : ℕ) → first ≡ first_of k section → offset < first → GivesError g gives seal dev spelling accepted refusal config w (stopped k) a c (ItemOutOfRange first)
        torn_start first is less = ended_start g gives seal dev spelling accepted refusal config w r stand.1 a b torn.place.over torn.place.going torn.torn m q.0 q.1 skip byte_spelling byte_accepted byte_refusal k c (did q.0 q.1) first is less

        pub torn_goes : k.ended ≡ false
        torn_goes = going_k g gives seal dev spelling accepted refusal config w r stand.1 a b torn.place.over torn.place.going torn.torn m q.0 q.1 skip byte_spelling byte_accepted byte_refusal k c (did q.0 q.1)

        module _ (owed : IsTrue (k.journal.unrecovered section)) (first : ℕ) (is : first ≡ first_of k section) (from : first ≤ offset) where
          start : first_of k section ≤ offset
          start = omega (arith, is, from)

          pub torn_may : MayBeShortened seal 1 dev.Tells section offset k (disk (dev.time c))
          torn_may = may_shorten g gives seal dev spelling accepted refusal config w r stand.1 a b torn.place.over torn.place.going torn.torn m q.0 q.1 skip byte_spelling byte_accepted byte_refusal k c (did q.0 q.1) owed start

          module _ (n : Walk F (PageBlob S gs)) (z : D) where
            pub torn_cut : Shortens seal 1 g gives dev section offset (Ok tt) k n c z → HasTurned g gives seal dev spelling accepted refusal config w n a z
            torn_cut cut = ended_cut g gives seal dev spelling accepted refusal config w r stand.1 a b torn.place.over torn.place.going torn.torn m q.0 q.1 skip byte_spelling byte_accepted byte_refusal k c (did q.0 q.1) owed start n z cut

            pub torn_lost : offset < kept → (x : Error) → Shortens seal 1 g gives dev section offset (Err x) k n c z → GivesError g gives seal dev spelling accepted refusal config w (stopped n) a z x
            torn_lost long x cut = ended_lost g gives seal dev spelling accepted refusal config w r stand.1 a b torn.place.over torn.place.going torn.torn m q.0 q.1 skip byte_spelling byte_accepted byte_refusal k c (did q.0 q.1) owed start n z (omega (arith, long, place_is o s kept seen at)) x cut
