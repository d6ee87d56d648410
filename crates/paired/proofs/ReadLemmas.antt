-- What a read of a frame says of the section's bytes.
use Rattle.std.specs.Prelude.{◌≡◌, ◌≢◌, ℕ, ◌+◌, ◌^◌, ◌<◌, ◌≤◌, List, length, None, Some, ◌↔◌, true, false, Result, Ok, Err, IfOk, OnOk, OnErr, IsTrue}
use Rattle.std.proofs.Common.{inl, inr, refl, sym, ◌∙◌, ap, arith}
use Rattle.std.specs.Result.{IsErrOf, is_ok, is_err}
use Rattle.blob_device.specs.Disk.{Key, Disk}
use Rattle.blob_device.specs.Opened.{OpenedList}
use Rattle.sealed_pages.specs.declared.write_blob.WriteBlob.{WriteBlob}
use Rattle.section_manager.specs.declared.journal.Error.{Error}
use Rattle.section_manager.specs.declared.journal.Error.TheVariants.{ChecksumMismatch}
use Rattle.section_manager.specs.Setting.{Setting}
use Rattle.section_manager.specs.Sections.{Sections, key_of}
use Rattle.section_manager.specs.unsealed.Buffer as unsealed
use Rattle.section_manager.specs.unsealed.Buffer.{content_of, count_of}
use Rattle.paired.specs.Frames.{bytes_at, with_number, frame, HasFrame, IsSealed, IsBroken, Differ}
use Rattle.paired.specs.glob.Reading.{IsInside, IsMismatch}
use Rattle.paired.specs.glob.Sections.{section_bytes, size_held, IsGlob}
use Rattle.paired.specs.lemmas.Frame as frames
use Rattle.paired.specs.lemmas.Glob.{buffers, held_bytes, no_bytes, section_counted}
use Rattle.blob_device.proofs.general.Options.{none_or_value, some_there}

module _ (seal : List ℕ → ℕ) where
  -- a number behind some bytes, which is not their seal
  abbrev pub Ends : List ℕ → ℕ → ℕ → Type 0
  Ends bytes stored computed = (stored ≢ computed) × (stored < 2 ^ 32) × ((prefix : List ℕ) × (computed ≡ seal prefix) × (bytes ≡ with_number prefix stored))

  pub broken_at : (all bytes : List ℕ) (at n stored computed : ℕ) → at + n ≤ length all → bytes ≡ bytes_at all at n → Ends bytes stored computed → IsBroken seal all at n stored computed
  broken_at all bytes at n stored computed inside is ends = record {
    inside = inside;
    spelled = ends.2.0;
    is = sym is ∙ ends.2.2;
    fits = ends.1;
    sealed = ends.2.1;
    differs = ends.0;
  }

  pub differ_so : (bytes : List ℕ) (n stored computed : ℕ) → length bytes ≡ n → Ends bytes stored computed → Differ seal n stored computed
  differ_so bytes n stored computed long ends = record {
    prefix = ends.2.0;
    size = sym (frames.length-with_number ends.2.0 stored) ∙ ap length (sym ends.2.2) ∙ long;
    fits = ends.1;
    sealed = ends.2.1;
    differs = ends.0;
  }

  pub frame_at : (all bytes prefix : List ℕ) (at n : ℕ) → at + n ≤ length all → bytes ≡ bytes_at all at n → bytes ≡ frame seal prefix → HasFrame seal all at n prefix
  frame_at all bytes prefix at n inside is sealed = record { inside = inside; is = sym is ∙ sealed }

  pub same_prefix : (all bytes prefix spelled : List ℕ) (at n : ℕ) → bytes ≡ bytes_at all at n → bytes ≡ frame seal prefix → HasFrame seal all at n spelled → spelled ≡ prefix
  same_prefix all bytes prefix spelled at n is sealed has = frames.one_prefix spelled prefix (seal spelled) (seal prefix) (sym has.is ∙ sym is ∙ sealed)

  module _ {F : Type 0} (m : Sections F WriteBlob) (d : Disk) where
    -- no frame stands in a section that is not held
    pub no_frame : (s at n : ℕ) (spelled : List ℕ) → m.held s ≡ None → HasFrame seal (section_bytes m d s) at n spelled → ⊥
    no_frame s at n spelled none has =
        absurd (omega (arith, has.inside, ap length (no_bytes m d s none), frames.size seal (section_bytes m d s) at n spelled has))

module _ {F : Type 0} (gives : F → Setting) {told : Type 0} (m : Sections F WriteBlob) (opened : OpenedList) (d : Disk) (glob : IsGlob buffers gives told m opened d) where
  -- nothing is held below the floor
  pub none_below : (s : ℕ) → s < m.floor → m.held s ≡ None
  none_below s below = elim (none_or_value (m.held s)) [
    | inl none ↦ none
    | inr some ↦ absurd (omega (arith, below, glob.over.opened_list.from_floor s (inl (some_there (m.held s) some.0 some.1))))
  ]

  module _ (s : ℕ) (u : WriteBlob) (held : m.held s ≡ Some u) where
    pub own_key : unsealed.key_of u ≡ key_of m s
    own_key = glob.over.opened_list.key s u held

    pub as_long : told → length (section_bytes m d s) ≡ count_of u
    as_long t = section_counted gives m opened d glob t s ∙ ap size_held held

    pub bytes_read : (bytes : List ℕ) (at n : ℕ) → bytes ≡ bytes_at (content_of u (d (unsealed.key_of u)).content) at n → bytes ≡ bytes_at (section_bytes m d s) at n
    bytes_read bytes at n is = is ∙ ap (λ (k : Key). bytes_at (content_of u (d k).content) at n) own_key ∙ ap (λ (l : List ℕ). bytes_at l at n) (sym (held_bytes m d s u held))

    -- a frame that stands there is inside, and has room for a seal
    pub frame_inside : told → (seal : List ℕ → ℕ) (at n : ℕ) (spelled : List ℕ) → HasFrame seal (section_bytes m d s) at n spelled → IsInside u at n
    frame_inside t seal at n spelled has = record {
      inside = omega (arith, has.inside, as_long t);
      enough = omega (arith, frames.size seal (section_bytes m d s) at n spelled has);
    }

pub refused_so : {T : Type 0} (r : Result T Error) (P : Type 0) → is_err r ≡ true → OnErr r P → P
refused_so (Ok v) P refused why = absurd (cc refused)
refused_so (Err e) P refused why = why

-- a seal that is checked holds exactly where the bytes are sealed
pub verdict : {T : Type 0} (r : Result T Error) (prefix_of : T → List ℕ) (seal : List ℕ → ℕ) → ((spelled : List ℕ) → seal spelled < 2 ^ 32) → (all bytes : List ℕ) (at n : ℕ) → at + n ≤ length all → bytes ≡ bytes_at all at n
    → IfOk r (λ v. bytes ≡ frame seal (prefix_of v)) → ((stored computed : ℕ) → IsErrOf r (ChecksumMismatch stored computed) → Ends seal bytes stored computed) → OnErr r (IsMismatch r)
    → IsTrue (is_ok r) ↔ IsSealed seal all at n
verdict (Ok v) prefix_of seal fits all bytes at n inside is sealed broken why = (λ yes. (prefix_of v, frame_at seal all bytes (prefix_of v) at n inside is sealed), λ yes. refl)
verdict (Err e) prefix_of seal fits all bytes at n inside is sealed broken why = (
  λ yes. absurd (cc yes),
  λ yes. absurd (frames.not_broken seal fits all at n why.0 why.1 (broken_at seal all bytes at n why.0 why.1 inside is (broken why.0 why.1 why.2)) yes),
)

pub taken_so : {T : Type 0} (r : Result T Error) (P : Type 0) → is_err r ≡ false → OnOk r P → P
taken_so (Ok v) P taken why = why
taken_so (Err e) P taken why = absurd (cc taken)
