-- What a cut of all that stands behind a byte of a section makes of a fixed journal, and what it leaves of the blobs.
use Rattle.std.proofs.Common.{◌≡◌, inl, inr, ℕ, ◌%◌, ◌<◌, ◌≤◌, min, false, List, length, None, Some, IsSome, IsSomeAnd, Result, Err, refl, sym, ◌∙◌, ap, subst, arith}
use Rattle.std.specs.Int.{w64, to_be_bytes}
use Rattle.std.proofs.lemmas.Bool.{cases_lt, cases_eq}
use Rattle.blob_device.specs.Disk.{Key, Blob}
use Rattle.blob_device.specs.Opened.{OpenedList}
use Rattle.blob_device.specs.Timeline.{Timeline, disk, Always}
use Rattle.blob_device.specs.declared.device.Device as device
use Rattle.blob_device.specs.lemmas.Moments.{always_weaker}
use Rattle.sealed_pages.specs.Buffer.{size_of, IsSealed}
use Rattle.sealed_pages.specs.SealedPrefix.{sealed_prefix}
use Rattle.sealed_pages.specs.Shown.{shown}
use Rattle.sealed_pages.specs.lemmas.Unrecovered.{prefix_settled}
use Rattle.segments.specs.lemmas.adding.Write.{ArePages, IsFine, fine_of, journal_of, leaves_prefix, leaves_sealed, proven_back}
use Rattle.segments.specs.lemmas.cutting.Cut.{settled_prefix}
use Rattle.segments.specs.lemmas.held.Sections.{is_held}
use Rattle.sealed_pages.specs.Unrecovered.{IsAdopted}
use Rattle.sealed_pages.specs.declared.page_blob.PageBlob.{PageBlob}
use Rattle.section_manager.specs.Answers.{seen}
use Rattle.section_manager.specs.Lasting.{Truncating}
use Rattle.section_manager.specs.Sections.{key_of, IsKnown, IsKeyOf, IsGone, IsSame, SamePlace, IsOver, IsCut}
use Rattle.section_manager.specs.Setting.{Setting}
use Rattle.section_manager.specs.declared.buffer.SectionBuffer as buffer
use Rattle.section_manager.specs.declared.journal.Error.{Error}
use Rattle.segments.specs.FixedBounds.{CuttingTail, CutsTail}
use Rattle.segments.specs.FixedLists.{Lists, IsJournal}
use Rattle.segments.proofs.cutting.RemoveLemmas.{same_number}
use Rattle.blob_device.proofs.general.Options.{has_value, none_or_value, some_same, value_of}

module _ {F S : Type 0} {gs : _} (seal : List ℕ → ℕ) (size : ℕ) (told : Type 0) (g : buffer.Ghosts (PageBlob S gs)) (pages : ArePages g seal) (gives : F → Setting)
    (j : Lists F (PageBlob S gs)) (old : OpenedList) (a b : Timeline) (journal : IsJournal g gives seal size told j old (disk a)) (s n : ℕ) where
  abbrev key : Key
  key = key_of j.sections s

  -- longer by the buffer's count is longer by what it shows
  longer : IsSomeAnd (j.sections.held s) (λ u. n < g.byte_count u) → IsSomeAnd (j.sections.held s) (λ u. n < size_of (shown u))
  longer is = (let u = value_of (j.sections.held s) (λ u. n < g.byte_count u) is in
      has_value (j.sections.held s) (λ u. n < size_of (shown u)) u.value u.is (omega (arith, u.has, pages.count u.value)))

  -- at each moment of the manager's cut the journal's sections are cut
  pub tail_moments : told → Always a b (Truncating g j.sections s n (disk a)) → Always a b (CuttingTail seal j s n (disk a))
  tail_moments t = always_weaker a b (Truncating g j.sections s n (disk a)) (CuttingTail seal j s n (disk a)) (λ d is. record {
    later = is.later;
    sealed = λ u held sealed. leaves_sealed seal g pages u (disk a key) (d key) (min (g.settled u) n) (min u.settled n) (ap (λ (m : ℕ). min m n) (pages.settled u)) sealed (is.cut u held);
    prefix = λ u held owes. settled_prefix seal g pages u (disk a key) (d key) (min (g.settled u) n) n (journal.owes_settled.settled s u held owes) (ap (λ (m : ℕ). min m n) (pages.settled u)) (adopted u held) (is.cut u held);
    unsealed = λ u held un. (let all : length (sealed_prefix seal u.page_size (disk a key).content) ≤ u.settled = prefix_settled seal (shown u) (disk a key) (omega (arith, u.fit.begun)) un in
        leaves_prefix seal g pages u (disk a key) (d key) (min (g.settled u) n) (min n (length (sealed_prefix seal u.page_size (disk a key).content))) (omega (arith, pages.settled u, all)) un (is.cut u held));
    last = elim is.last [ inl same ↦ inl same | inr (long, gone) ↦ inr (longer long, gone) ];
    others = is.others;
  })
    where
      adopted : (u : PageBlob S gs) → j.sections.held s ≡ Some u → IsAdopted seal (shown u) (disk a key)
      adopted u held = (pages.stands u (disk a key) ((journal.over.disk t).stands s u held)).adopted

  -- The journal k is j without the sections behind s, and with that one cut.
  module _ (k : Lists F (PageBlob S gs)) (bounded : s ≤ j.sections.ceiling) (place : SamePlace j.sections k.sections) (later : (q : ℕ) → s < q → IsGone k.sections q) (earlier : (q : ℕ) → q < s → IsSame j.sections k.sections q)
      (unopened : k.sections.unopened s ≡ j.sections.unopened s) (recovered : (q : ℕ) → s < q → k.unrecovered q ≡ false) (owes : (q : ℕ) → q ≤ s → k.unrecovered q ≡ j.unrecovered q) (floors : (q : ℕ) → q ≤ s → k.floor_of q ≡ j.floor_of q)
      (others : told → (q : Key) → (IsKeyOf j.sections (λ x. IsKnown j.sections x × (s ≤ x)) q → ⊥) → disk b q ≡ disk a q) where
    fine : (q : ℕ) → IsFine seal size told j (disk a) q
    fine = fine_of seal size told g gives j old (disk a) journal

    same_place : (q : ℕ) → key_of k.sections q ≡ key_of j.sections q
    same_place q = ap (λ (p : List ℕ). (p, to_be_bytes w64 q)) place.partition

    -- no section up to s is known and not held
    never : told → (q : ℕ) → q ≤ s → IsSome (j.sections.unopened q) → ⊥
    never t q le is = absurd (omega (arith, (fine q).later t is, bounded, le))

    -- an earlier section's blob is none of those that are removed or cut
    apart : (q : ℕ) (u : PageBlob S gs) → q < s → j.sections.held q ≡ Some u → IsKeyOf j.sections (λ x. IsKnown j.sections x × (s ≤ x)) (key_of j.sections q) → ⊥
    apart q u lt held (x, doomed, same) =
        let numbers = journal.over.opened_list.number in
        absurd (omega (arith, same_number q x (numbers q (inl (is_held j.sections q u held))) (numbers x doomed.0) (ap (λ (y : Key). y.1) same), doomed.1, lt))

    -- the section is as before, and so is its blob
    fine_still : (q : ℕ) → q ≤ s → IsSame j.sections k.sections q → (told → (u : PageBlob S gs) → j.sections.held q ≡ Some u → disk b (key_of j.sections q) ≡ disk a (key_of j.sections q)) → IsFine seal size told k (disk b) q
    fine_still q le same blob = record {
      owes_held = λ is. subst IsSome (sym same.held) ((fine q).owes_held (sym (owes q le) ∙ is));
      owes_settled = λ u held is. (fine q).owes_settled u (sym same.held ∙ held) (sym (owes q le) ∙ is);
      sealed = λ t u held is. (let was : j.sections.held q ≡ Some u = sym same.held ∙ held in
          subst (λ (x : Blob). IsSealed seal (shown u) x) (sym (ap (disk b) (same_place q) ∙ blob t u was)) ((fine q).sealed t u was (proven_back j k q (owes q le) (floors q le) is)));
      whole = λ t u held is. (fine q).whole t u (sym same.held ∙ held) (sym (owes q le) ∙ is);
      later = λ t is. absurd (never t q le (subst IsSome same.unopened is));
    }

    fine_gone : (q : ℕ) → s < q → IsFine seal size told k (disk b) q
    fine_gone q lt = record {
      owes_held = λ is. absurd (cc (is, recovered q lt));
      owes_settled = λ u held is. absurd (cc (held, (later q lt).held));
      sealed = λ t u held is. absurd (cc (held, (later q lt).held));
      whole = λ t u held is. absurd (cc (held, (later q lt).held));
      later = λ t is. absurd (cc (rw (later q lt).unopened at is));
    }

    fine_none : j.sections.held s ≡ None → k.sections.held s ≡ None → IsFine seal size told k (disk b) s
    fine_none was none = record {
      owes_held = λ is. absurd (cc (subst IsSome was ((fine s).owes_held (sym (owes s (omega arith)) ∙ is))));
      owes_settled = λ u held is. absurd (cc (held, none));
      sealed = λ t u held is. absurd (cc (held, none));
      whole = λ t u held is. absurd (cc (held, none));
      later = λ t is. absurd (never t s (omega arith) (subst IsSome unopened is));
    }

    module _ (u v : PageBlob S gs) (was : j.sections.held s ≡ Some u) (now : k.sections.held s ≡ Some v) (did : IsCut g told n u v (disk a key) (disk b key)) where
      fine_cut : n < size_of (shown u) → n % size ≡ 0 → IsFine seal size told k (disk b) s
      fine_cut lt whole = record {
        owes_held = λ is. subst IsSome (sym now) refl;
        owes_settled = λ w held is. subst (λ (x : PageBlob S gs). x.settled ≡ size_of (shown x)) (some_same v w (sym now ∙ held)) (sym (pages.settled v) ∙ did.settled long ∙ sym short);
        sealed = λ t w held is. subst (λ (x : PageBlob S gs). IsSealed seal (shown x) (disk b (key_of k.sections s))) (some_same v w (sym now ∙ held))
            (subst (λ (x : Key). IsSealed seal (shown v) (disk b x)) (sym (same_place s)) (pages.whole v (disk b key) (did.mended t long)));
        whole = λ t w held is. subst (λ (x : PageBlob S gs). size_of (shown x) % size ≡ 0) (some_same v w (sym now ∙ held)) (ap (λ (m : ℕ). m % size) short ∙ whole);
        later = λ t is. absurd (never t s (omega arith) (subst IsSome unopened is));
      }
        where
          long : n < g.byte_count u
          long = omega (arith, lt, pages.count u)

          short : size_of (shown v) ≡ n
          short = omega (arith, did.size, pages.count v, long)

      fine_uncut : size_of (shown u) ≤ n → IsFine seal size told k (disk b) s
      fine_uncut le = fine_still s (omega arith) (record { held = now ∙ ap Some (did.same past) ∙ sym was; unopened = unopened }) (λ t w held. did.stays t past)
        where
          past : g.byte_count u ≤ n
          past = omega (arith, le, pages.count u)

    -- it may be used
    pub tail_journal : (new : OpenedList) → IsOver g gives told k.sections new (disk b)
        → ((u : PageBlob S gs) → j.sections.held s ≡ Some u → IsSomeAnd (k.sections.held s) (λ v. IsCut g told n u v (disk a key) (disk b key)))
        → (j.sections.held s ≡ None → k.sections.held s ≡ None) → (IsSomeAnd (j.sections.held s) (λ u. n < size_of (shown u)) → n % size ≡ 0)
        → IsJournal g gives seal size told k new (disk b)
    tail_journal new over cut absent whole = journal_of seal size told g gives k new (disk b) over (λ q. elim (cases_lt q s) [
      | inl before ↦ fine_still q (omega (arith, before)) (earlier q before) (λ t u held. others t (key_of j.sections q) (apart q u before held))
      | inr from ↦ elim (cases_eq q s) [
        | inl is ↦ subst (IsFine seal size told k (disk b)) (sym is) here
        | inr other ↦ fine_gone q (omega (arith, from, other))
      ]
    ])
      where
        here : IsFine seal size told k (disk b) s
        here = elim (none_or_value (j.sections.held s)) [
          | inl none ↦ fine_none none (absent none)
          | inr u ↦
              let v = value_of (k.sections.held s) (λ v. IsCut g told n u.0 v (disk a key) (disk b key)) (cut u.0 u.1) in
              elim (cases_lt n (size_of (shown u.0))) [
                | inl lt ↦ fine_cut u.0 v.value u.1 v.is v.has lt (whole (has_value (j.sections.held s) (λ w. n < size_of (shown w)) u.0 u.1 lt))
                | inr le ↦ fine_uncut u.0 v.value u.1 v.is v.has le
              ]
        ]

-- An error that the caller passes on.
pub tail_err : {F S T D : Type 0} {gs : _} (g : buffer.Ghosts (PageBlob S gs)) (gives : F → Setting) (seal : List ℕ → ℕ) (size : ℕ) (told : Type 0) (j : Lists F (PageBlob S gs)) (s n : ℕ) (dev : device.Ghosts D)
    (see : T → Lists F (PageBlob S gs)) (r : Result T Error) (e : Error) (old new : D) → r ≡ Err e → CutsTail g gives seal size told j s n dev (Err e) old new → CutsTail g gives seal size told j s n dev (seen see r) old new
tail_err {F = F} {S = S} {gs = gs} g gives seal size told j s n dev see r e old new is has =
    subst (λ (x : Result (Lists F (PageBlob S gs)) Error). CutsTail g gives seal size told j s n dev x old new) (sym (ap (seen see) is)) has
