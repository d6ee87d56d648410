-- A replay of frames goes into its next section.
use Rattle.std.specs.Prelude.{◌≡◌, ◌≢◌, ◌⊎◌, ℕ, ◌<◌, ◌≤◌, eqb, cond, Bool, false, true, List, [], ◌∷◌, length, Option, Some, None, Ok}
use Rattle.std.proofs.Common.{inl, inr, refl, sym, ap, ◌∙◌, subst, arith}
use Rattle.std.proofs.lemmas.Bool.{cases_eq, cases_lt}
use Rattle.std.proofs.lemmas.Bool.Decides.{nat_tests}
use Rattle.blob_device.specs.Disk.{Disk}
use Rattle.blob_device.specs.Timeline.{disk}
use Rattle.blob_device.specs.declared.device.Device as device
use Rattle.value_codec.specs.declared.codec.Error as codec
use Rattle.sealed_pages.specs.Buffer.{size_of}
use Rattle.sealed_pages.specs.Shown.{shown}
use Rattle.sealed_pages.specs.declared.page_blob.PageBlob.{PageBlob}
use Rattle.section_manager.specs.Sections.{key_of, IsHeld}
use Rattle.section_manager.specs.Setting.{Setting}
use Rattle.section_manager.specs.declared.buffer.SectionBuffer as buffer
use Rattle.segments.specs.FixedCursor.{Enters, IsEntered}
use Rattle.segments.specs.FixedReplay as bytes
use Rattle.segments.specs.FixedReplay.{Walk, Place, IsAhead, IsGoneOver, IsIn, first_of, kept_of}
use Rattle.variable_journal.specs.Frames.{rest_of}
use Rattle.variable_journal.specs.Replaying.{IsBoundary, given_bytes}
use Rattle.variable_journal.specs.Advancing.{IsGoing}
use Rattle.variable_journal.specs.Turning.{HasTurned}
use Rattle.sealed_pages.specs.lemmas.memory.Holding.{bytes_length}
use Rattle.variable_journal.specs.lemmas.Frame.{rest_none}
use Rattle.variable_journal.specs.lemmas.Running.{ahead_or_not, whole_none}
use Rattle.variable_journal.proofs.LeavingLemmas.{near_left}
use Rattle.variable_journal.proofs.LookingLemmas.{and_at, at_some, some_and}
use Rattle.variable_journal.proofs.OffsetLemmas.{start_boundary}
use Rattle.variable_journal.proofs.SteppingLemmas.{given_same, passed_steps, walked_steps}
use Rattle.blob_device.proofs.general.Options.{none_in, none_or_value, some_of, some_there}

pub first_start : {F B : Type 0} (w : Walk F B) (s : ℕ) → s ≡ w.start_section → first_of w s ≡ w.start_position
first_start w s is = (let at : eqb s w.start_section ≡ true = grind (arith, nat_tests) in ap (λ (b : Bool). cond b w.start_position 0) at)

pub first_other : {F B : Type 0} (w : Walk F B) (s : ℕ) → s ≢ w.start_section → first_of w s ≡ 0
first_other w s other = (let at : eqb s w.start_section ≡ false = grind (arith, nat_tests) in ap (λ (b : Bool). cond b w.start_position 0) at)

-- between two sections all that is still to be gone over is ahead
pub only_ahead : {F B : Type 0} (w k : Walk F B) → w.place ≡ None → ((s : ℕ) → IsAhead k s ⊎ IsIn k s → IsAhead w s ⊎ IsIn w s) → (s : ℕ) → IsAhead k s → IsAhead w s
only_ahead w k none onward s ahead = elim (onward s (inl ahead)) [ inl far ↦ far | inr there ↦ absurd (none_in w.place (λ p. p.section ≡ s) none there) ]

no_bytes : (l : List ℕ) → length l ≤ 0 → l ≡ []
no_bytes [] le = refl
no_bytes (x ∷ l) le = absurd (omega (arith, le))

module _ {F S D B V C : Type 0} {gs : _} (g : buffer.Ghosts (PageBlob S gs)) (gives : F → Setting) (seal : List ℕ → ℕ) (dev : device.Ghosts D)
    (byte_spelling : B → List ℕ) (byte_accepted : B → Unit {0} → Type 0) (byte_refusal : List ℕ → Unit {0} → Option codec.Error)
    (spelling : V → List ℕ) (accepted : V → C → Type 0) (refusal : List ℕ → C → Option codec.Error) (config : C)
    (w k : Walk F (PageBlob S gs)) (a c : D) (was : IsGoing g gives seal dev w a) (none : w.place ≡ None) (going : w.ended ≡ false)
    (did : Enters seal 1 g gives byte_spelling byte_accepted byte_refusal dev.Tells (Ok tt) w k (dev.opened a) (dev.opened c) (dev.time a) (dev.time c) (dev.faults a) (dev.faults c)) where
  abbrev d : Disk
  d = disk (dev.time a)

  abbrev e : Disk
  e = disk (dev.time c)

  goes_on : k.ended ≡ false
  goes_on = did.steps.goes.ended ∙ going

  same_bytes : (t : dev.Tells) (s : ℕ) → IsHeld k.journal.sections s → given_bytes seal k e s ≡ given_bytes seal w d s
  same_bytes t s held = given_same g gives seal dev byte_spelling byte_accepted byte_refusal w k a c (Ok tt) did.steps did.steps.over.over t goes_on s held

  held_then : (s : ℕ) → IsHeld w.journal.sections s → IsHeld k.journal.sections s
  held_then s held = (did.steps.goes.held s).1 held

  -- it stands at the start of a section, or at that of the replay
  boundary : dev.Tells → (r : Place) → k.place ≡ Some r → IsBoundary (given_bytes seal k e r.section) r.position
  boundary t r at =
      let f = and_at k.place (IsEntered w) r at did.begun in
      subst (λ (l : List ℕ). IsBoundary l r.position) (sym (same_bytes t r.section (held_then r.section f.held)))
      (subst (IsBoundary (given_bytes seal w d r.section)) (sym f.position) (begun f (w.journal.unrecovered r.section) refl))
    where
      begun : IsEntered w r → (o : Bool) → w.journal.unrecovered r.section ≡ o → IsBoundary (given_bytes seal w d r.section) (cond o 0 (first_of w r.section))
      begun f true owed = start_boundary (given_bytes seal w d r.section)
      begun f false free = elim (cases_eq r.section w.start_section) [
        | inr other ↦ subst (IsBoundary (given_bytes seal w d r.section)) (sym (first_other w r.section other)) (start_boundary (given_bytes seal w d r.section))
        | inl is ↦ subst (IsBoundary (given_bytes seal w d r.section)) (sym (first_start w r.section is))
            (elim (subst (λ (s : ℕ). IsBoundary (given_bytes seal w d s) w.start_position ⊎ (length (given_bytes seal w d s) < w.start_position)) (sym is)
            ((was.walked t).start going (inl (subst (IsAhead w) is f.ahead)) (subst (IsHeld w.journal.sections) is f.held))) [
              | inl there ↦ there
              | inr less ↦ absurd (
                  let u = some_of (w.journal.sections.held r.section) f.held in
                  let long : length (given_bytes seal w d r.section) ≡ size_of (shown u.0) =
                  (λ i. length (kept_of seal (free i) (u.1 i) (d (key_of w.journal.sections r.section)).content)) ∙ bytes_length (shown u.0) (d (key_of w.journal.sections r.section)).content in
                  let within = was.bytes.walk.start_within (subst (IsAhead w) is f.ahead) u.0 (subst (λ (s : ℕ). w.journal.sections.held s ≡ Some u.0) is u.1) in
                  omega (arith, less, long, within))
            ])
      ]

  empty : (l : List ℕ) → l ≡ [] → rest_of l ≡ []
  empty l is = ap rest_of is ∙ rest_none

  -- what was ahead, and is not now, has no bytes
  module _ (t : dev.Tells) (s : ℕ) (far : IsAhead k s ⊎ IsIn k s → ⊥) (ahead : IsAhead w s) where
    -- the entered section is no later than any that was ahead
    none_left : IsHeld w.journal.sections s → length (given_bytes seal w d s) ≤ first_of w s
    none_left held = elim (cases_lt (first_of w s) (length (given_bytes seal w d s))) [
      | inr le ↦ le
      | inl some ↦ absurd (
          let left : bytes.IsLeft seal 1 w d s (first_of w s) = record { goes_on = going; begun = omega arith; whole = omega (arith, some); ahead = inl (held, ahead) } in
          far (near_left seal k e s (first_of w s) (((did.steps.carries t refl).left s (first_of w s)).1 left)))
    ]

    skipped : IsHeld w.journal.sections s → given_bytes seal w d s ≡ []
    skipped held = elim (cases_eq s w.start_section) [
      | inr other ↦ no_bytes (given_bytes seal w d s) (omega (arith, none_left held, first_other w s other))
      | inl is ↦ absurd (
          let r = at_some k.place (IsEntered w) did.begun in
          let le = r.2.least s held ahead in
          let n = at_some w.next_section (λ (m : ℕ). m ≤ r.0.section) r.2.ahead in
          let from = was.bytes.walk.from_start n.0 n.1 in
          far (inr (some_and k.place (λ (p : Place). p.section ≡ s) r.0 r.1 (omega (arith, le, n.2, from, is)))))
    ]

    passed_over : rest_of (given_bytes seal k e s) ≡ []
    passed_over = elim (none_or_value (k.journal.sections.held s)) [
      | inl none_held ↦ whole_none seal k e s none_held
      | inr some ↦ (let held = some_there (k.journal.sections.held s) some.0 some.1 in
          ap rest_of (same_bytes t s held) ∙ empty (given_bytes seal w d s) (skipped ((did.steps.goes.held s).0 held)))
    ]

  -- what it has gone over it had, or there are no bytes
  gone : dev.Tells → k.failed ≡ false → (s : ℕ) → IsGoneOver k s → rest_of (given_bytes seal k e s) ≡ []
  gone t fine s over = elim (ahead_or_not w.next_section s) [
    | inl ahead ↦ passed_over t s (λ near. elim near [ inl still ↦ over.not_ahead still | inr there ↦ over.not_in there ]) ahead
    | inr not ↦ elim (none_or_value (k.journal.sections.held s)) [
      | inl none_held ↦ whole_none seal k e s none_held
      | inr some ↦ ap rest_of (same_bytes t s (some_there (k.journal.sections.held s) some.0 some.1)) ∙ (was.walked t).gone_over (sym did.steps.goes.failed ∙ fine) s (record {
        begun = subst (λ (n : ℕ). n ≤ s) did.steps.same.section over.begun;
        not_ahead = not;
        not_in = λ there. none_in w.place (λ p. p.section ≡ s) none there;
      })
    ]
  ]

  pub entered : HasTurned g gives seal dev spelling accepted refusal config w k a c
  entered = record {
    over = record {
      bytes = did.steps.over;
      free = λ s. did.steps.same.floors s ∙ was.free s;
      place = boundary;
      walked = λ t. walked_steps g gives seal dev byte_spelling byte_accepted byte_refusal w k a c (Ok tt) did.steps did.steps.over.over t (was.walked t) going (gone t);
    };
    passed = passed_steps g gives seal dev byte_spelling byte_accepted byte_refusal w k a c (Ok tt) did.steps did.steps.over.over refl goes_on;
    whole = λ t s near far. elim near [ inl ahead ↦ passed_over t s far ahead | inr there ↦ absurd (none_in w.place (λ p. p.section ≡ s) none there) ];
    nearer = did.steps.nearer;
  }
