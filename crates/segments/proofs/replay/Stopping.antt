-- An error of a replay of a fixed journal ends the section that it names.
use Rattle.std.specs.Prelude.{◌≡◌, ◌↔◌, ℕ, ◌<◌, ◌≤◌, List, None}
use Rattle.std.proofs.Common.{inl, inr, arith}
use Rattle.std.proofs.lemmas.Bool.{cases_lt}
use Rattle.blob_device.specs.Disk.{Disk}
use Rattle.sealed_pages.specs.declared.page_blob.PageBlob.{PageBlob}
use Rattle.segments.specs.FixedReplay.{Place, Walk, IsAhead, IsLeft, IsEndedAt}
use Rattle.segments.specs.FixedStepping.{standing, failing}
use Rattle.segments.specs.lemmas.replay.Ending.{ahead_from}
use Rattle.blob_device.proofs.general.Options.{none_in}

module _ {F S : Type 0} {gs : _} (seal : List ℕ → ℕ) (size : ℕ) where
  -- what was left before is what is left where it began
  pub ended_back : (old now new : Walk F (PageBlob S gs)) (a b c : Disk) (s : ℕ) → ((t q : ℕ) → IsLeft seal size now b t q ↔ IsLeft seal size old a t q)
      → IsEndedAt seal size now new b c s → IsEndedAt seal size old new a c s
  ended_back old now new a b c s left has = record {
    first = λ t q l lt. has.first t q ((left t q).1 l) lt;
    rest = λ t q. (
      λ l. (let was = (has.rest t q).0 l in ((left t q).0 was.0, was.1)),
      λ l. (has.rest t q).1 ((left t q).1 l.0, l.1),
    );
  }

  -- that an error was given leaves as much
  pub ended_failing : (old new : Walk F (PageBlob S gs)) (d e : Disk) (s : ℕ) → IsEndedAt seal size old new d e s → IsEndedAt seal size old (failing new) d e s
  ended_failing old new d e s has = record {
    first = has.first;
    rest = λ t q. (
      λ l. (has.rest t q).0 (record { goes_on = l.goes_on; begun = l.begun; whole = l.whole; ahead = l.ahead }),
      λ l. (let now = (has.rest t q).1 l in record { goes_on = now.goes_on; begun = now.begun; whole = now.whole; ahead = now.ahead }),
    );
  }

  -- a reading that is given up ends its section
  pub ended_here : (w : Walk F (PageBlob S gs)) (r : Place) (d : Disk) → w.place ≡ None → (IsAhead w r.section → ⊥) → IsEndedAt seal size (standing w r) w d d r.section
  ended_here w r d none passed = record {
    first = λ t q l lt. elim l.ahead [
      | inl here ↦ passed (ahead_from w.next_section t r.section (omega (arith, lt)) here.1)
      | inr there ↦ omega (arith, there.0, lt)
    ];
    rest = λ t q. (
      λ l. elim l.ahead [
        | inl here ↦ (record { goes_on = l.goes_on; begun = l.begun; whole = l.whole; ahead = inl here }, behind t here.1)
        | inr there ↦ absurd (none_in w.place (λ x. (x.section ≡ t) × (x.position ≤ q)) none there)
      ],
      λ l. (let was = l.0 in record {
        goes_on = was.goes_on;
        begun = was.begun;
        whole = was.whole;
        ahead = elim was.ahead [ inl here ↦ inl here | inr there ↦ absurd (omega (arith, there.0, l.1)) ];
      }),
    );
  }
    where
      behind : (t : ℕ) → IsAhead w t → r.section < t
      behind t ahead = elim (cases_lt r.section t) [
        | inl lt ↦ lt
        | inr le ↦ absurd (passed (ahead_from w.next_section t r.section le ahead))
      ]
