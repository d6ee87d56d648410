-- What was taken of an input, piece by piece.
use Rattle.std.proofs.Common.{◌≡◌, ℕ, ◌+◌, ◌≤◌, ◌^◌, Bool, true, false, List, [], ◌++◌, length, refl, sym, ap, subst, ◌∙◌, arith, append_assoc, length-append, append-nil, Result, Ok, Err}
use Rattle.blob_device.specs.declared.source.Source as source
use Rattle.archives.specs.Changes.{outcome}
use Rattle.archive_program.specs.declared.input.InputError.{InputError}
use Rattle.archive_program.specs.declared.input.InputError.TheVariants.{Fault, TooLong, Mem}
use Rattle.archive_program.specs.Input.{IsInputCause, ReadsInput, TakesAll, TakesPiece}
use Rattle.archive_program.specs.Taking.{TakesPrefix}

module _ (start old new so_far bytes : List ℕ) (kept : start ≡ so_far ++ old) where
  -- the bytes so far, with the piece, are a prefix of the input
  pub taken_more : (result : Result Bool InputError) (more : Bool) → result ≡ Ok more → TakesPiece result old new so_far bytes → start ≡ bytes ++ new
  taken_more (Ok b) more is took = kept ∙ ap (λ back. so_far ++ back) took.rest ∙ sym (append_assoc so_far took.piece new) ∙ ap (λ prefix. prefix ++ new) (sym took.added)
  taken_more (Err e) more is took = cc

  -- at the end nothing is left
  pub taken_all : (result : Result Bool InputError) → result ≡ Ok false → length so_far ≤ 2 ^ 24 → TakesPiece result old new so_far bytes → TakesAll start new bytes
  taken_all (Ok true) is limit took = cc
  taken_all (Ok false) is limit took =
      let done = took.ended refl in record {
        all = kept ∙ ap (λ back. so_far ++ back) done.0 ∙ append-nil so_far ∙ sym done.2;
        rest = done.1;
        limit = omega (arith, ap length done.2);
      }
  taken_all (Err e) is limit took = cc

  -- whatever came, no more than the limit and one byte was taken
  pub taken_at_most : (result : Result Bool InputError) → TakesPiece result old new so_far bytes → TakesPrefix start new (λ n. n ≤ 2 ^ 24 + 1)
  taken_at_most result took = record {
    taken = so_far ++ took.piece;
    number = omega (arith, length-append so_far took.piece, took.within);
    rest = kept ∙ ap (λ back. so_far ++ back) took.rest ∙ sym (append_assoc so_far took.piece new);
  }

  -- a source that failed gave nothing more
  pub taken_before : (e : InputError) → e ≡ Fault → length so_far ≤ 2 ^ 24 → TakesPiece (Err e) old new so_far bytes → TakesPrefix start new (λ n. n ≤ 2 ^ 24)
  taken_before e is limit took =
      let err : InputError → Result Bool InputError = λ x. Err x in
      record {
        taken = so_far;
        number = limit;
        rest = kept ∙ ap (λ (back : List ℕ). so_far ++ back) (took.rest ∙ ap (λ (piece : List ℕ). piece ++ new) (took.failed (ap err is)));
      }

-- there was no memory before a byte was taken
pub not_begun : {S B : Type 0} (input : source.Ghosts S) (x : S) (see : B → List ℕ) (r : Result B InputError) → r ≡ Err Mem → ReadsInput input x x (outcome see r)
not_begun {B = B} input x see r is = subst (λ (y : Result B InputError). ReadsInput input x x (outcome see y)) (sym is) (record {
  at_most = λ t. record { taken = []; number = omega arith; rest = refl };
  ends = record { cause = tt; within = λ t e. absurd (cc e); too_long = λ t e. absurd (cc e) };
})

-- a cause since a later moment is a cause since an earlier one
pub later_cause : (first old new : ℕ) (e : InputError) → first ≤ old → IsInputCause old new e → IsInputCause first new e
later_cause first old new Fault le rose = omega (arith, rose)
later_cause first old new TooLong le rose = tt
later_cause first old new Mem le rose = tt
