-- A replay passes over items that are at hand, or notes an error: it is a replay still.
use Rattle.std.specs.Prelude.{◌≡◌, ℕ, ◌+◌, ◌*◌, ◌^◌, ◌<◌, ◌≤◌, List, length, drop, IfSome, IsSomeAnd, Option, Some}
use Rattle.std.specs.Option.{option_map}
use Rattle.std.proofs.Common.{inl, inr, refl, sym, ◌∙◌, subst, arith, length-drop}
use Rattle.std.proofs.Math.Nat.{add-mul}
use Rattle.std.proofs.lemmas.Nat.{mul-le}
use Rattle.blob_device.specs.Disk.{Disk}
use Rattle.sealed_pages.specs.Readers.{next_of}
use Rattle.sealed_pages.specs.Reads.{IsCovered}
use Rattle.sealed_pages.specs.declared.page_blob.PageBlob.{PageBlob}
use Rattle.sealed_pages.specs.lemmas.memory.Holding.{fit_size}
use Rattle.section_manager.specs.Sections.{key_of}
use Rattle.segments.specs.FixedCursor.{after_items, leaving}
use Rattle.segments.specs.FixedReplay.{Place, Walk, IsAhead, StandsIn, ReadsIn, HasWalk, WalksOver}
use Rattle.segments.specs.FixedStepping.{failing, standing}
use Rattle.segments.proofs.replay.Ending.{place_fails, reads_fails}
use Rattle.segments.proofs.replay.Reading.{advanced, some_and}
use Rattle.blob_device.proofs.general.Options.{the_some}

module _ {F S : Type 0} {gs : _} (seal : List ℕ → ℕ) (size : ℕ) (w : Walk F (PageBlob S gs)) (r : Place) (count : ℕ) (has : count * size ≤ length r.reader.bytes) where
  abbrev on : Place
  on = after_items size count r

  module _ (within : next_of r.reader ≤ r.reader.size) (was : HasWalk size (standing w r)) where
    h : (u : PageBlob S gs) × (w.journal.sections.held r.section ≡ Some u) × StandsIn size (standing w r) r u
    h = the_some (w.journal.sections.held r.section) (was.place r refl_some)
      where
        refl_some : Some r ≡ Some r
        refl_some = λ i. Some r

    -- the place is within the section
    pub place_within : (r.position + count) * size ≤ r.reader.size
    place_within = omega (arith, h.2.at, within, has, add-mul r.position count size)

    -- its position is a number of 64 bits
    pub place_fits : 1 ≤ size → r.position + count < 2 ^ 64
    place_fits pos = omega (arith, place_within, mul-le (r.position + count) 1 (r.position + count) size (omega arith) pos, h.2.blob_size, fit_size _ _ _ _ h.0.fit)

    stands_on : StandsIn size (standing w on) on h.0
    stands_on = record {
      key = h.2.key;
      page_size = h.2.page_size;
      end = h.2.end;
      blob_size = h.2.blob_size;
      flushed = h.2.flushed;
      at = omega (arith, h.2.at, add-mul r.position count size);
      within = omega (arith, place_within, h.2.blob_size);
      begun = λ free. omega (arith, h.2.begun free);
    }

    pub walk_passed : HasWalk size (standing w on)
    walk_passed = record {
      owes_settled = was.owes_settled;
      owes_held = was.owes_held;
      place = λ x is. (let at : on ≡ x = cc is in
          subst (λ (y : Place). IsSomeAnd (w.journal.sections.held y.section) (StandsIn size (standing w on) y)) at
          (some_and (StandsIn size (standing w on) on) (w.journal.sections.held r.section) h.0 h.1 stands_on));
      come_to = λ x is. (let at : on ≡ x = cc is in
          subst (λ (y : Place). (w.start_section ≤ y.section) × (IsAhead w y.section → ⊥)) at (was.come_to r (λ i. Some r)));
      from_start = was.from_start;
      start_within = was.start_within;
      start_kept = λ fine gone. was.start_kept fine (record { begun = gone.begun; not_ahead = gone.not_ahead; not_in = λ there. gone.not_in there });
      ends = was.ends;
    }

  reads_on : (d : Disk) (u : PageBlob S gs) → ReadsIn seal (standing w r) d r u → ReadsIn seal (standing w on) d on u
  reads_on d u is = record {
    replays = advanced seal (d (key_of w.journal.sections r.section)).content (count * size) r.reader has is.replays;
    checked = λ read. (let same : r.reader.at + length r.reader.bytes ≡ r.reader.at + count * size + length (drop (count * size) r.reader.bytes) = omega (arith, has, length-drop (count * size) r.reader.bytes) in
        subst (λ (n : ℕ). IsCovered seal u.page_size (d (key_of w.journal.sections r.section)).content 0 n) same (is.checked (elim read [ inl owed ↦ inl owed | inr first ↦ inr first ])));
  }

  pub walks_passed : (d : Disk) → WalksOver seal size (standing w r) d → WalksOver seal size (standing w on) d
  walks_passed d is = record {
    sealed = is.sealed;
    gone_over = λ fine q u held over read. is.gone_over fine q u held (record { begun = over.begun; not_ahead = over.not_ahead; not_in = λ there. over.not_in there }) (elim read [ inl owed ↦ inl owed | inr first ↦ inr first ]);
    unopened = is.unopened;
    place = λ x here_x. (let at : on ≡ x = cc here_x in
        let u = the_some (w.journal.sections.held r.section) (is.place r (λ i. Some r)) in
        subst (λ (y : Place). IsSomeAnd (w.journal.sections.held y.section) (ReadsIn seal (standing w on) d y)) at
        (some_and (ReadsIn seal (standing w on) d on) (w.journal.sections.held r.section) u.0 u.1 (reads_on d u.0 u.2)));
  }

-- one that stands at a place, and has the items at hand
module _ {F S : Type 0} {gs : _} (seal : List ℕ → ℕ) (size : ℕ) (old : Walk F (PageBlob S gs)) (r : Place) (at : old.place ≡ Some r) (count : ℕ) (hand : IfSome old.place (λ (y : Place). count * size ≤ length y.reader.bytes)) where
  abbrev rest : Walk F (PageBlob S gs)
  rest = leaving old

  back : standing rest r ≡ old
  back = λ i. record old { place = sym at i }

  has : count * size ≤ length r.reader.bytes
  has = subst (λ (x : Option Place). IfSome x (λ (y : Place). count * size ≤ length y.reader.bytes)) at hand

  module _ (within : next_of r.reader ≤ r.reader.size) (is : HasWalk size old) where
    pub pass_fits : 1 ≤ size → r.position + count < 2 ^ 64
    pass_fits pos = place_fits seal size rest r count has within (subst (HasWalk size) (sym back) is) pos

  module _ (now : Place) (on : now ≡ after_items size count r) where
    to_on : standing rest now ≡ standing rest (after_items size count r)
    to_on = λ i. standing rest (on i)

    pub pass_goes : standing rest now ≡ record old { place = option_map (after_items size count) old.place }
    pass_goes = to_on ∙ (λ i. record old { place = option_map (after_items size count) (sym at i) })

    pub pass_walk : next_of r.reader ≤ r.reader.size → HasWalk size old → HasWalk size (standing rest now)
    pass_walk within is = subst (HasWalk size) (sym to_on) (walk_passed seal size rest r count has within (subst (HasWalk size) (sym back) is))

    pub pass_walks : (d : Disk) → WalksOver seal size old d → WalksOver seal size (standing rest now) d
    pass_walks d is = subst (λ (x : Walk F (PageBlob S gs)). WalksOver seal size x d) (sym to_on) (walks_passed seal size rest r count has d (subst (λ (x : Walk F (PageBlob S gs)). WalksOver seal size x d) (sym back) is))

module _ {F S : Type 0} {gs : _} (seal : List ℕ → ℕ) (size : ℕ) (w : Walk F (PageBlob S gs)) where
  -- one that has noted an error
  pub walk_failed : HasWalk size w → HasWalk size (failing w)
  walk_failed is = record {
    owes_settled = is.owes_settled;
    owes_held = λ fine. absurd (cc fine);
    place = λ r here. place_fails seal size w r (is.place r here);
    come_to = is.come_to;
    from_start = is.from_start;
    start_within = is.start_within;
    start_kept = λ fine. absurd (cc fine);
    ends = λ ended. refl;
  }

  pub walks_failed : (d : Disk) → WalksOver seal size w d → WalksOver seal size (failing w) d
  walks_failed d is = record {
    sealed = is.sealed;
    gone_over = λ fine. absurd (cc fine);
    unopened = λ fine. absurd (cc fine);
    place = λ r here. reads_fails seal size w d r (is.place r here);
  }

  -- one that has left its section by an error
  pub walk_left : HasWalk size w → HasWalk size (failing (leaving w))
  walk_left is = record {
    owes_settled = is.owes_settled;
    owes_held = λ fine. absurd (cc fine);
    place = λ r here. absurd (cc here);
    come_to = λ r here. absurd (cc here);
    from_start = is.from_start;
    start_within = is.start_within;
    start_kept = λ fine. absurd (cc fine);
    ends = λ ended. refl;
  }

  pub walks_left : (d : Disk) → WalksOver seal size w d → WalksOver seal size (failing (leaving w)) d
  walks_left d is = record {
    sealed = is.sealed;
    gone_over = λ fine. absurd (cc fine);
    unopened = λ fine. absurd (cc fine);
    place = λ r here. absurd (cc here);
  }
