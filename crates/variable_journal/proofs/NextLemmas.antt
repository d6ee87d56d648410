-- A call of `next` of a replay of frames: turns that gave nothing, and the one that ends it.
use Rattle.std.specs.Prelude.{◌≡◌, ◌⊎◌, ℕ, ◌<◌, ◌≤◌, Bool, false, true, List, Option, None, Some, Result, Ok, Err, IsTrue}
use Rattle.std.proofs.Common.{inl, inr, refl, ◌∙◌, subst, arith}
use Rattle.blob_device.specs.Timeline.{disk, Always, Each}
use Rattle.blob_device.specs.declared.device.Device as device
use Rattle.blob_device.specs.lemmas.Moments.{always_weaker}
use Rattle.value_codec.specs.declared.codec.Error as codec
use Rattle.sealed_pages.specs.declared.page_blob.PageBlob.{PageBlob}
use Rattle.section_manager.specs.Setting.{Setting}
use Rattle.section_manager.specs.declared.buffer.SectionBuffer as buffer
use Rattle.section_manager.specs.declared.journal.Error.{Error}
use Rattle.segments.specs.FixedReplay.{Walk, IsDrained}
use Rattle.segments.specs.FixedStepping.{way_of}
use Rattle.segments.specs.lemmas.adding.Write.{ArePages}
use Rattle.variable_journal.specs.Replaying.{GivenItem, LeavesFrames, LeavesWhole, ReplayingFrames}
use Rattle.variable_journal.specs.Advancing.{GivesError, GivesOne, HasPassed, IsGoing, Keeps, Nexts}
use Rattle.variable_journal.specs.Turning.{HasTurned, IsUnder, TurnEnds, stopped}
use Rattle.variable_journal.specs.lemmas.Running.{error_as, error_then, none_then, one_as, one_then, passed_start, passed_then, whole_then}
use Rattle.variable_journal.proofs.LeavingLemmas.{leaves_frames}

not_true : (x : Bool) → (x ≡ true → ⊥) → x ≡ false
not_true true never = absurd (never refl)
not_true false never = refl

module _ {F S D : Type 0} {gs : _} (g : buffer.Ghosts (PageBlob S gs)) (gives : F → Setting) (seal : List ℕ → ℕ) (dev : device.Ghosts D) where
  -- Turns that gave nothing led from w to k.
  pub record HasRun (w k : Walk F (PageBlob S gs)) (old at : D) : Type 0 where
    pub over : IsGoing g gives seal dev k at
    pub passed : HasPassed g gives seal dev w k old at
    pub whole : dev.Tells → LeavesWhole seal w k (disk (dev.time old)) (disk (dev.time at))
    pub nearer : way_of k ≤ way_of w

  -- before the first
  pub run_start : (w : Walk F (PageBlob S gs)) (old : D) → IsGoing g gives seal dev w old → HasRun w w old old
  run_start w old over = record { over = over; passed = passed_start g gives seal dev w old; whole = λ t s near far. absurd (far near); nearer = omega arith }

  -- a turn is taken as long as the replay is not over
  pub run_under : (w k : Walk F (PageBlob S gs)) (old at : D) → HasRun w k old at → (is_over : Bool) → (IsDrained k ⊎ (k.ended ≡ true) → IsTrue is_over) → is_over ≡ false → IsUnder g gives seal dev k at
  run_under w k old at run is_over over off = record {
    over = run.over;
    going = not_true k.ended (λ ended. (let on = over (inr ended) in cc (on, off)));
    more = λ drained. (let on = over (inl drained) in cc (on, off));
  }

  module _ {V C : Type 0} (spelling : V → List ℕ) (accepted : V → C → Type 0) (refusal : List ℕ → C → Option codec.Error) (was : C) (w k n : Walk F (PageBlob S gs)) (old at new : D)
      (run : HasRun w k old at) (under : IsUnder g gives seal dev k at) (result : Result (Option (GivenItem V)) Error) (ends : TurnEnds g gives seal dev spelling accepted refusal was k n at new result) where
    -- it gave nothing
    module _ (is : result ≡ Ok None) where
      turned : HasTurned g gives seal dev spelling accepted refusal was k n at new
      turned = subst (TurnEnds g gives seal dev spelling accepted refusal was k n at new) is ends

      pub run_on : HasRun w n old new
      run_on = record {
        over = turned.over;
        passed = passed_then g gives seal dev w k n old at new run.passed under.going turned.passed;
        whole = whole_then g gives seal dev w k n old at new run.passed under.going run.whole turned.passed.gone turned.whole;
        nearer = omega (arith, run.nearer, turned.nearer);
      }

      pub run_nearer : way_of n < way_of k
      run_nearer = turned.nearer

    -- it ended the call
    module _ (laws : ArePages g seal) (start : IsGoing g gives seal dev w old) (config : C) (same : was ≡ config) (kept : C) (kept_is : kept ≡ was) where
      leaves : (j : Walk F (PageBlob S gs)) (now : D) → Keeps g gives seal dev w j old now → dev.Tells → Always (dev.time old) (dev.time now) (LeavesFrames seal w (disk (dev.time old)))
      leaves j now keeps t = always_weaker (dev.time old) (dev.time now) (Each (ReplayingFrames seal w (disk (dev.time old)))) (LeavesFrames seal w (disk (dev.time old)))
          (leaves_frames g gives seal dev laws w old start t) (keeps.moments t)

      not_ended : w.ended ≡ true → ⊥
      not_ended ended = (let at_k = run.passed.gone.goes.ended in let going = under.going in cc (at_k, ended, going))

      pub next_gave : (x : GivenItem V) → result ≡ Ok (Some x) → Nexts g gives seal dev spelling accepted refusal config w n old new (Some (Ok x)) kept
      next_gave x is =
          let one : GivesOne g gives seal dev spelling accepted refusal config w n old new x =
          one_then g gives seal dev w k n old at new run.passed under.going run.whole spelling accepted refusal config run.nearer x
          (one_as g gives seal dev spelling accepted refusal k at new was config same n x (subst (TurnEnds g gives seal dev spelling accepted refusal was k n at new) is ends)) in
          record { ends = one; same_config = kept_is ∙ same; leaves = leaves n new one.gone.keeps; ended = λ ended. absurd (not_ended ended) }

      pub next_failed : (e : Error) → result ≡ Err e → (j : Walk F (PageBlob S gs)) → j ≡ stopped n → Nexts g gives seal dev spelling accepted refusal config w j old new (Some (Err e)) kept
      next_failed e is j left =
          let error : GivesError g gives seal dev spelling accepted refusal config w j old new e =
          error_then g gives seal dev w k j old at new run.passed under.going run.whole spelling accepted refusal config run.nearer e
          (error_as g gives seal dev spelling accepted refusal k at new was config same (stopped n) j left e (subst (TurnEnds g gives seal dev spelling accepted refusal was k n at new) is ends)) in
          record { ends = error; same_config = kept_is ∙ same; leaves = leaves j new error.keeps; ended = λ ended. absurd (not_ended ended) }

  -- nothing is left
  pub next_none : {V C : Type 0} (spelling : V → List ℕ) (accepted : V → C → Type 0) (refusal : List ℕ → C → Option codec.Error) (config : C) (w k : Walk F (PageBlob S gs)) (old at : D)
      → HasRun w k old at → IsDrained k ⊎ (k.ended ≡ true) → ArePages g seal → IsGoing g gives seal dev w old → (kept : C) → kept ≡ config → (w.ended ≡ true → (k ≡ w) × (at ≡ old))
      → Nexts g gives seal dev spelling accepted refusal config w k old at None kept
  next_none spelling accepted refusal config w k old at run over laws start kept same ended = record {
    ends = none_then g gives seal dev w k old at run.passed run.whole run.over over spelling accepted refusal config;
    same_config = same;
    leaves = λ t. always_weaker (dev.time old) (dev.time at) (Each (ReplayingFrames seal w (disk (dev.time old)))) (LeavesFrames seal w (disk (dev.time old)))
        (leaves_frames g gives seal dev laws w old start t) (run.passed.gone.keeps.moments t);
    ended = λ is. (refl, (ended is).0, (ended is).1);
  }
