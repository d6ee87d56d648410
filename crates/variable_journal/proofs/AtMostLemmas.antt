-- An opening of a journal of frames up to a byte of a section, as the code comes to it.
use Rattle.std.specs.Prelude.{◌≡◌, ℕ, ◌<◌, ◌≤◌, List, Option, Some, None, Result, Ok, Err, IfOk, IsSomeAnd}
use Rattle.std.proofs.Common.{inl, inr, refl, sym, ap, ◌∙◌, subst, arith}
use Rattle.blob_device.specs.Timeline.{disk, Always}
use Rattle.blob_device.specs.declared.device.Device as device
use Rattle.blob_device.specs.lemmas.Moments.{always_start, always_weaker}
use Rattle.value_codec.specs.declared.codec.Error as codec
use Rattle.sealed_pages.specs.declared.page_blob.PageBlob.{PageBlob}
use Rattle.sealed_pages.specs.declared.pages.Pages.{Pages}
use Rattle.sealed_pages.specs.lemmas.looking.Looking.{unchanged_start}
use Rattle.segments.specs.lemmas.adding.Write.{ArePages}
use Rattle.section_manager.specs.Refusing.{IsForeign}
use Rattle.section_manager.specs.Setting.{Setting}
use Rattle.section_manager.specs.declared.buffer.SectionBuffer as buffer
use Rattle.section_manager.specs.declared.journal.Error.{Error}
use Rattle.section_manager.specs.declared.journal.Error.TheVariants.{Mem}
use Rattle.section_manager.specs.declared.sealed.AppendFactory.{AppendFactory}
use Rattle.segments.specs.FixedBounds as bytes
use Rattle.segments.specs.FixedBounds.{Bounding, IsBoundCause, IsOpenedCut}
use Rattle.segments.specs.FixedLists.{Lists}
use Rattle.segments.specs.FixedReplay.{Walk, Begins}
use Rattle.variable_journal.specs.Draining.{DrainEnds}
use Rattle.variable_journal.specs.Lists.{IsJournal}
use Rattle.variable_journal.specs.OpeningAtMost.{BoundingFrames, OpensTo}
use Rattle.variable_journal.specs.Replaying.{IsStart, kept_here}
use Rattle.variable_journal.proofs.BoundLemmas.{begun, bounding_frames, bounding_start, framed_mid, settled_always}
use Rattle.variable_journal.proofs.OffsetLemmas.{start_boundary}
use Rattle.variable_journal.proofs.OpenedLemmas.{drained_opens, stopped_opens}

-- no size is below none
pub none_past : {T : Type 0} (o : Option T) (f : T → ℕ) → IsSomeAnd o (λ u. f u < 0) → ⊥
none_past None f has = has
none_past (Some u) f has = omega (arith, has)

module _ {S V C D : Type 0} {gs : _} (seal : List ℕ → ℕ) (g : buffer.Ghosts (PageBlob S gs)) (gives : AppendFactory S → Setting) (dev : device.Ghosts D) (last end : ℕ)
    (spelling : V → List ℕ) (accepted : V → C → Type 0) (config : C) (refusal : List ℕ → C → Option codec.Error) (old : D) where
  -- what an opening of bytes promises
  abbrev BoundsBytes : List ℕ → Pages → ℕ → Result (Lists (AppendFactory S) (PageBlob S gs)) Error → D → Type 0
  BoundsBytes place paged capacity result middle = bytes.Bounds seal paged.page_size 1 place last end dev result old middle
      (λ k. IsOpenedCut seal paged.page_size 1 place last end g gives dev.Tells paged capacity k (dev.opened middle) (disk (dev.time old)) (disk (dev.time middle)))

  -- and one of frames
  abbrev OpensFrames : List ℕ → Pages → ℕ → Result (Lists (AppendFactory S) (PageBlob S gs)) Error → Result C Error → D → Type 0
  OpensFrames place paged capacity result kept new = OpensTo seal paged.page_size place last end spelling accepted config refusal g gives paged capacity dev result kept old new

  -- there was no memory for the name of the partition
  pub unbegun : (place : List ℕ) (paged : Pages) → 1 ≤ paged.page_size → (capacity : ℕ) (kept : Result C Error) → IfOk kept (λ c. c ≡ config) → OpensFrames place paged capacity (Err Mem) kept old
  unbegun place paged pos capacity kept config_is = record {
    moments = moments;
    settled = λ t. settled_always seal paged.page_size pos place last end (dev.time old) (dev.time old) (moments t);
    ends = tt;
    same_config = config_is;
    names = record {
      foreign = λ t name bad. inr (inl refl);
      untouched = λ t name bad. unchanged_start (dev.time old);
      unopened = λ t name bad. refl;
      named = λ t n is. absurd (cc is);
      entries = λ n is. absurd (cc is);
    };
    entries = λ q never. refl;
    faults = omega arith;
    refused = λ t e is. absurd (cc is);
    cause = inr (inr (inl (inl refl)));
  }
    where
      moments : dev.Tells → Always (dev.time old) (dev.time old) (BoundingFrames seal paged.page_size place last end (disk (dev.time old)))
      moments t = always_start (dev.time old) (BoundingFrames seal paged.page_size place last end (disk (dev.time old))) (bounding_start seal paged.page_size place last end (disk (dev.time old)))

  module _ (place other : List ℕ) (paged held : Pages) (capacity most : ℕ) (same_place : other ≡ place) (same_pages : held ≡ paged) (same_capacity : most ≡ capacity) (middle : D) (pos : 1 ≤ paged.page_size) where
    -- by the names of the configuration
    bounds_as : (result : Result (Lists (AppendFactory S) (PageBlob S gs)) Error) → BoundsBytes other held most result middle → BoundsBytes place paged capacity result middle
    bounds_as result b = subst (λ (p : List ℕ). BoundsBytes p paged capacity result middle) same_place
        (subst (λ (p : Pages). BoundsBytes other p capacity result middle) same_pages (subst (λ (n : ℕ). BoundsBytes other held n result middle) same_capacity b))

    -- at each moment of it
    first : (dev.Tells → Always (dev.time old) (dev.time middle) (Bounding seal paged.page_size 1 place last end (disk (dev.time old))))
        → dev.Tells → Always (dev.time old) (dev.time middle) (BoundingFrames seal paged.page_size place last end (disk (dev.time old)))
    first moments t = always_weaker (dev.time old) (dev.time middle) (Bounding seal paged.page_size 1 place last end (disk (dev.time old))) (BoundingFrames seal paged.page_size place last end (disk (dev.time old)))
        (λ d is. bounding_frames seal paged.page_size place last end (disk (dev.time old)) d is) (moments t)

    -- the opening of bytes failed
    pub unopened : (e : Error) (kept : Result C Error) → IfOk kept (λ c. c ≡ config) → BoundsBytes other held most (Err e) middle
        → IsBoundCause seal held.page_size 1 other last end {T = Lists (AppendFactory S) (PageBlob S gs)} dev (Err e) old middle → OpensFrames place paged capacity (Err e) kept middle
    unopened e kept config_is b why =
        let own = bounds_as (Err e) b in
        record {
          moments = first own.moments;
          settled = λ t. settled_always seal paged.page_size pos place last end (dev.time old) (dev.time middle) (first own.moments t);
          ends = tt;
          same_config = config_is;
          names = own.names;
          entries = own.entries;
          faults = own.faults;
          refused = λ t x is. absurd (elim why [
            | inl called ↦ (let at = called.1 in cc (at, is))
            | inr (inl (inl none)) ↦ cc (none, is)
            | inr (inl (inr fault)) ↦ (let at = fault.0 in cc (at, is))
            | inr (inr damage) ↦ (let at = damage.0.1 in cc (at, is))
          ]);
          cause = elim why [
            | inl called ↦ inl called
            | inr (inl failed) ↦ inr (inr (inl failed))
            | inr (inr damage) ↦ inr (inr (inr (inr (inr damage.0), damage.1)))
          ];
        }

    module _ (laws : ArePages g seal) (sizes : (f : AppendFactory S) → (gives f).page_size ≡ f.pages.page_size) (j : Lists (AppendFactory S) (PageBlob S gs)) (b : BoundsBytes other held most (Ok j) middle) where
      own : BoundsBytes place paged capacity (Ok j) middle
      own = bounds_as (Ok j) b

      at : j.sections.partition ≡ place
      at = own.ends.whole.partition_is

      cut : IsOpenedCut seal paged.page_size 1 j.sections.partition last end g gives dev.Tells paged capacity j (dev.opened middle) (disk (dev.time old)) (disk (dev.time middle))
      cut = subst (λ (p : List ℕ). IsOpenedCut seal paged.page_size 1 p last end g gives dev.Tells paged capacity j (dev.opened middle) (disk (dev.time old)) (disk (dev.time middle))) (sym at) own.ends

      sized : (gives j.sections.factory).page_size ≡ paged.page_size
      sized = sizes j.sections.factory ∙ ap (λ (p : Pages). p.page_size) own.ends.whole.pages_are

      first_here : dev.Tells → Always (dev.time old) (dev.time middle) (BoundingFrames seal paged.page_size j.sections.partition last end (disk (dev.time old)))
      first_here t = subst (λ (p : List ℕ). Always (dev.time old) (dev.time middle) (BoundingFrames seal paged.page_size p last end (disk (dev.time old)))) (sym at) (first own.moments t)

      never : dev.Tells → (name : List ℕ) → IsForeign (disk (dev.time old)) place name → ⊥
      never t name bad = elim (own.names.foreign t name bad) [
        | inl called ↦ (let is = called.1 in cc is)
        | inr (inl none) ↦ cc none
        | inr (inr fault) ↦ (let is = fault.0 in cc is)
      ]

      -- it is a journal of frames
      pub opened_journal : IsJournal g gives seal dev.Tells j (dev.opened middle) (disk (dev.time middle))
      opened_journal = record {
        bytes = own.ends.whole.over;
        free = own.ends.whole.floors;
        framed = λ t. framed_mid seal paged.page_size g laws gives dev.Tells last end paged capacity j (dev.opened middle) (disk (dev.time old)) (disk (dev.time middle)) cut sized t;
      }

      -- which may be replayed from its start on
      pub opened_start : IsStart seal j (disk (dev.time middle)) 0 0
      opened_start = inl (start_boundary (kept_here seal j (disk (dev.time middle)) 0))

      drained_ends : (new : D) (result : Result (Lists (AppendFactory S) (PageBlob S gs)) Error) (kept : Result C Error) → IfOk kept (λ c. c ≡ config)
          → DrainEnds g gives seal dev spelling accepted refusal config (begun j) middle result kept new → OpensFrames place paged capacity result kept new
      drained_ends new (Ok k) kept config_is d = drained_opens seal paged.page_size pos g laws gives dev last end paged capacity j old middle cut sized first_here spelling accepted refusal config d.last new d.come k kept d.drained d.finished
          place at never own.entries own.faults
      drained_ends new (Err e) kept config_is d = stopped_opens seal paged.page_size pos g laws gives dev last end paged capacity j old middle cut sized first_here spelling accepted refusal config d.last d.at d.come d.after new e d.error
          place at kept config_is never own.entries own.faults

      -- and was gone over
      pub opened_drained : (w : Walk (AppendFactory S) (PageBlob S gs)) → Begins j 0 0 w → (here : D) → here ≡ middle → (same : C) → same ≡ config → (new : D) (result : Result (Lists (AppendFactory S) (PageBlob S gs)) Error) (kept : Result C Error)
          → IfOk kept (λ c. c ≡ same) → DrainEnds g gives seal dev spelling accepted refusal same w here result kept new → OpensFrames place paged capacity result kept new
      opened_drained w begins here is same config_same new result kept config_is d = drained_ends new result kept
          (subst (λ (c : C). IfOk kept (λ x. x ≡ c)) config_same config_is)
          (subst (λ (c : C). DrainEnds g gives seal dev spelling accepted refusal c (begun j) middle result kept new) config_same
          (subst (λ (x : D). DrainEnds g gives seal dev spelling accepted refusal same (begun j) x result kept new) is
          (subst (λ (x : Walk (AppendFactory S) (PageBlob S gs)). DrainEnds g gives seal dev spelling accepted refusal same x here result kept new) walk_is d)))
        where
          walk_is : w ≡ begun j
          walk_is = λ i. record {
            journal = begins.journal i;
            start_section = begins.section i;
            start_position = begins.position i;
            next_section = begins.first i;
            place = begins.between i;
            failed = begins.whole i;
            ended = begins.going i;
          }
