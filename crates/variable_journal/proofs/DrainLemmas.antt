-- Going over all that is left of a replay of frames, call by call.
use Rattle.std.specs.Prelude.{◌≡◌, ℕ, false, List, [], ◌∷◌, Option, Some, None, Result, Ok, Err}
use Rattle.std.proofs.Common.{inl, inr, refl, ◌∙◌, subst}
use Rattle.blob_device.specs.Timeline.{disk}
use Rattle.blob_device.specs.declared.device.Device as device
use Rattle.value_codec.specs.declared.codec.Error as codec
use Rattle.sealed_pages.specs.declared.page_blob.PageBlob.{PageBlob}
use Rattle.section_manager.specs.Setting.{Setting}
use Rattle.section_manager.specs.declared.buffer.SectionBuffer as buffer
use Rattle.section_manager.specs.declared.journal.Error.{Error}
use Rattle.segments.specs.FixedLists.{Lists}
use Rattle.segments.specs.FixedReplay.{Walk, IsDrained}
use Rattle.variable_journal.specs.Advancing.{GivesError, GivesNone, GivesOne, IsGoing, NextEnds}
use Rattle.variable_journal.specs.Draining.{DrainEnds, HasComeTo, HasStopped}
use Rattle.variable_journal.specs.Finishing.{Finishes, IsAsLeft}
use Rattle.variable_journal.specs.Replaying.{GivenItem}
use Rattle.variable_journal.specs.lemmas.Running.{error_as, gone_on, one_as, passed_start}

module _ {F S D V C : Type 0} {gs : _} (g : buffer.Ghosts (PageBlob S gs)) (gives : F → Setting) (seal : List ℕ → ℕ) (dev : device.Ghosts D)
    (spelling : V → List ℕ) (accepted : V → C → Type 0) (refusal : List ℕ → C → Option codec.Error) (config : C) (w : Walk F (PageBlob S gs)) (old : D) where
  -- a moment is as it was left
  as_left : (k : Walk F (PageBlob S gs)) (at : D) → IsAsLeft (record { walk = k; disk = disk (dev.time at) }) (record { walk = k; disk = disk (dev.time at) })
  as_left k at = record { walk = refl; blobs = λ s. refl }

  -- no call was made
  pub come_start : IsGoing g gives seal dev w old → w.ended ≡ false → HasComeTo g gives seal dev spelling accepted refusal config w old w old
  come_start over going = record {
    over = over;
    going = going;
    gone = (passed_start g gives seal dev w old).gone;
    calls = λ t. ([], as_left w old);
  }

  module _ (k m : Walk F (PageBlob S gs)) (at new : D) (come : HasComeTo g gives seal dev spelling accepted refusal config w old k at) where
    -- one gave an item
    come_on : (x : GivenItem V) → GivesOne g gives seal dev spelling accepted refusal config k m at new x → HasComeTo g gives seal dev spelling accepted refusal config w old m new
    come_on x one = record {
      over = one.over;
      going = one.gone.goes.ended ∙ come.going;
      gone = gone_on g gives seal dev w k m old at new come.gone come.going one.gone;
      calls = λ t. (let was = come.calls t in (
        record { old = record { walk = k; disk = disk (dev.time at) }; new = record { walk = m; disk = disk (dev.time new) }; gave = Some x } ∷ was.0,
        (as_left m new, one.item t, was.1),
      ));
    }

    -- none was left
    module _ (none : GivesNone g gives seal dev spelling accepted refusal config k m at new) where
      pub come_none : HasComeTo g gives seal dev spelling accepted refusal config w old m new
      come_none = record {
        over = none.over;
        going = none.passed.gone.goes.ended ∙ come.going;
        gone = gone_on g gives seal dev w k m old at new come.gone come.going none.passed.gone;
        calls = λ t. (let was = come.calls t in (
          record { old = record { walk = k; disk = disk (dev.time at) }; new = record { walk = m; disk = disk (dev.time new) }; gave = None } ∷ was.0,
          (as_left m new, (none.none t, none.drained), was.1),
        ));
      }

      come_drained : IsDrained m
      come_drained = elim none.drained [ inl drained ↦ drained | inr ended ↦ absurd (let going = none.passed.gone.goes.ended ∙ come.going in cc (ended, going)) ]

      -- so the journal is given back
      come_end : w.failed ≡ false → (result : Result (Lists F (PageBlob S gs)) Error) (kept : Result C Error) → Finishes seal spelling accepted config m result kept
          → DrainEnds g gives seal dev spelling accepted refusal config w old result kept new
      come_end fine (Ok j) kept finished = record { last = m; come = come_none; drained = come_drained; finished = finished }
      come_end fine (Err e) kept finished = elim (finished.replay_failed.0 finished.cause) [
        | inl failed ↦ absurd (let was = none.passed.gone.goes.failed ∙ (come.gone.goes.failed ∙ fine) in cc (failed, was))
        | inr not ↦ absurd (not come_drained)
      ]

    -- one gave an error
    come_error : (e : Error) → GivesError g gives seal dev spelling accepted refusal config k m at new e → HasStopped g gives seal dev spelling accepted refusal config w old e new
    come_error e error = record { last = k; after = m; at = at; come = come; error = error }

    -- as `next` answers it, by another name of what decoding needs to know
    module _ (was : C) (same : was ≡ config) (result : Option (Result (GivenItem V) Error)) (ends : NextEnds g gives seal dev spelling accepted refusal was k m at new result) where
      pub come_gave : (x : GivenItem V) → result ≡ Some (Ok x) → HasComeTo g gives seal dev spelling accepted refusal config w old m new
      come_gave x is = come_on x (one_as g gives seal dev spelling accepted refusal k at new was config same m x (subst (NextEnds g gives seal dev spelling accepted refusal was k m at new) is ends))

      pub come_failed : (e : Error) → result ≡ Some (Err e) → HasStopped g gives seal dev spelling accepted refusal config w old e new
      come_failed e is = come_error e (error_as g gives seal dev spelling accepted refusal k at new was config same m m refl e (subst (NextEnds g gives seal dev spelling accepted refusal was k m at new) is ends))

      pub come_over : result ≡ None → w.failed ≡ false → (j : Result (Lists F (PageBlob S gs)) Error) (kept : Result C Error) → Finishes seal spelling accepted config m j kept
          → DrainEnds g gives seal dev spelling accepted refusal config w old j kept new
      come_over is fine j kept finished = come_end
          (subst (λ (c : C). GivesNone g gives seal dev spelling accepted refusal c k m at new) same (subst (NextEnds g gives seal dev spelling accepted refusal was k m at new) is ends)) fine j kept finished
