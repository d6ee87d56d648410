-- A frame is sealed exactly where the test of soundness says so.
use Rattle.std.proofs.Common.{◌≡◌, ◌↔◌, ℕ, ◌+◌, ◌^◌, ◌<◌, ◌≤◌, List, length, Result, Ok, Err, refl, sym, ◌∙◌, ap, arith}
use Rattle.std.specs.Prelude.{IsTrue, is_ok, IfOk, OnErr}
use Rattle.std.specs.Int.{w32, from_be_bytes}
use Rattle.std.specs.Result.{IsErrOf}
use Rattle.std.proofs.lemmas.Nat.{from_be_bytes-to_be_bytes_4}
use Rattle.section_manager.specs.declared.journal.Error.{Error}
use Rattle.section_manager.specs.declared.journal.Error.TheVariants.{ChecksumMismatch}
use Rattle.paired.specs.Frames.{bytes_at, frame, IsSealed}
use Rattle.paired.specs.glob.Reading.{IsMismatch}
use Rattle.paired.specs.Records.{is_sound}
use Rattle.paired.specs.lemmas.Frame as frames
use Rattle.paired.specs.lemmas.Kept.{sound_from}
use Rattle.paired.specs.lemmas.pair.Reads.{frame_spells, sound_unbroken}
use Rattle.paired.proofs.ReadLemmas.{Ends, frame_at, broken_at}

module _ (seal : List ℕ → ℕ) (fits : (spelled : List ℕ) → seal spelled < 2 ^ 32) where
  pub sound_sealed : (bytes : List ℕ) (at n : ℕ) → IsSealed seal bytes at n → IsTrue (is_sound seal bytes (at, n))
  sound_sealed bytes at n (spelled, has) =
      let spells = frame_spells seal bytes at n spelled (seal spelled) has.inside has.is in
      sound_from seal bytes at n (omega (arith, frames.size seal bytes at n spelled has)) has.inside
      (ap seal spells.0 ∙ sym (from_be_bytes-to_be_bytes_4 (seal spelled) (fits spelled)) ∙ ap (from_be_bytes w32) (sym spells.1))

  -- a seal that is checked holds exactly where the bytes are sound
  pub sound_verdict : {T : Type 0} (r : Result T Error) (prefix_of : T → List ℕ) (all bytes : List ℕ) (at n : ℕ) → at + n ≤ length all → bytes ≡ bytes_at all at n
      → IfOk r (λ v. bytes ≡ frame seal (prefix_of v)) → ((stored computed : ℕ) → IsErrOf r (ChecksumMismatch stored computed) → Ends seal bytes stored computed) → OnErr r (IsMismatch r)
      → IsTrue (is_ok r) ↔ IsTrue (is_sound seal all (at, n))
  sound_verdict (Ok v) prefix_of all bytes at n inside is sealed broken why = (λ yes. sound_sealed all at n (prefix_of v, frame_at seal all bytes (prefix_of v) at n inside is sealed), λ yes. refl)
  sound_verdict (Err e) prefix_of all bytes at n inside is sealed broken why = (
    λ yes. absurd (cc yes),
    λ sound. absurd (sound_unbroken seal all at n why.0 why.1 sound (broken_at seal all bytes at n why.0 why.1 inside is (broken why.0 why.1 why.2))),
  )
