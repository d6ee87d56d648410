-- A step of a replay that stands in a section: it fills in one item, and then takes it, or ends the section.
use Rattle.std.specs.Prelude.{◌≡◌, ◌⊎◌, ℕ, ◌+◌, ◌*◌, ◌^◌, ◌<◌, ◌≤◌, Bool, true, false, List, length, take, IsSome, Option, Some, None, Result, Ok, Err, IfSome, OnOk, OnErr}
use Rattle.std.specs.Result.{IsErrOf}
use Rattle.std.proofs.Common.{refl, sym, ◌∙◌, arith}
use Rattle.std.proofs.lemmas.Nat.{mul-le}
use Rattle.blob_device.specs.Disk.{Blob}
use Rattle.blob_device.specs.Timeline.{disk}
use Rattle.blob_device.specs.declared.device.Device as device
use Rattle.sealed_pages.specs.Buffer.{size_of}
use Rattle.sealed_pages.specs.Readers.{next_of}
use Rattle.sealed_pages.specs.Shown.{shown}
use Rattle.sealed_pages.specs.Unrecovered.{IsAdopted}
use Rattle.sealed_pages.specs.declared.page_blob.PageBlob.{PageBlob}
use Rattle.sealed_pages.specs.lemmas.memory.Holding.{fit_size}
use Rattle.value_codec.specs.declared.codec.Error as codec
use Rattle.section_manager.specs.Setting.{Setting}
use Rattle.section_manager.specs.declared.buffer.SectionBuffer as buffer
use Rattle.section_manager.specs.declared.journal.Error.{Error}
use Rattle.section_manager.specs.declared.journal.Error.TheVariants.{Codec, Mem}
use Rattle.segments.specs.FixedCursor.{Fills, leaving}
use Rattle.segments.specs.FixedItems.{IsItem}
use Rattle.segments.specs.FixedReplay.{Place, Walk, IsWalk, first_of, kept_bytes}
use Rattle.segments.specs.FixedStepping.{standing, after_item, Steps}
use Rattle.segments.proofs.replay.Fills.{back, there}
use Rattle.segments.proofs.replay.Going.{going_filled, hand_filled, last_filled, stands_filled, step_filled, step_stopped}
use Rattle.segments.proofs.replay.Reading.{here, item_steps}
use Rattle.segments.proofs.replay.Running.{steps_same}
use Rattle.blob_device.proofs.general.Numbers.{times_next}
use Rattle.blob_device.proofs.general.Options.{some_of}
use Rattle.blob_device.proofs.general.Results.{on_err}

place_small : (p size n : ℕ) → 1 ≤ size → p * size + size ≤ n → n < 2 ^ 64 → p + 1 < 2 ^ 64
place_small p size n pos fits small = omega (arith, times_next p size, mul-le (p + 1) 1 (p + 1) size (omega arith) pos, fits, small)

module _ {F S D V : Type 0} {gs : _} (seal : List ℕ → ℕ) (size : ℕ) (g : buffer.Ghosts (PageBlob S gs)) (gives : F → Setting) (spelling : V → List ℕ) (accepted : V → Unit {0} → Type 0) (refusal : List ℕ → Unit {0} → Option codec.Error)
    (dev : device.Ghosts D) (pos : 1 ≤ size) (old mid : Walk F (PageBlob S gs)) (from via : D) (was : IsWalk g gives seal size dev.Tells old (dev.opened from) (disk (dev.time from))) (some : IsSome old.place) where
  r : (x : Place) × (old.place ≡ Some x)
  r = some_of old.place some

  -- the fill failed
  pub step_unfilled : (e : Error) → ((x : Place) → old.place ≡ Some x → Fills seal size g gives dev 1 x (Err e) old mid from via)
      → Steps seal size g gives spelling accepted refusal dev.Tells (Err e) old mid (dev.opened from) (dev.opened via) (dev.time from) (dev.time via) (dev.faults from) (dev.faults via)
  step_unfilled e fills = step_stopped seal size g gives spelling accepted refusal dev old r.0 from via was r.1 e mid (fills r.0 r.1) pos

  module _ (enough : Bool) (fills : (x : Place) → old.place ≡ Some x → Fills seal size g gives dev 1 x (Ok enough) old mid from via) where
    pub mid_over : IsWalk g gives seal size dev.Tells mid (dev.opened via) (disk (dev.time via))
    mid_over = (fills r.0 r.1).over

    pub mid_going : old.ended ≡ false → mid.ended ≡ false
    mid_going = going_filled seal size g gives spelling accepted refusal dev old r.0 from via was r.1 mid enough (fills r.0 r.1)

    pub mid_stands : IsSome mid.place
    mid_stands = stands_filled seal size g gives spelling accepted refusal dev old r.0 from via was r.1 mid enough (fills r.0 r.1)

    pub mid_last : enough ≡ false → dev.Tells → IfSome mid.place (λ (y : Place). length (kept_bytes seal size mid (disk (dev.time via)) y.section) < (y.position + 1) * size)
    mid_last = last_filled seal size g gives spelling accepted refusal dev old r.0 from via was r.1 mid enough (fills r.0 r.1)

    -- the section is ended from there
    pub step_ended : (result : Result (Option (ℕ × ℕ × V)) Error) (new : Walk F (PageBlob S gs)) (to : D)
        → ((x : Place) → mid.place ≡ Some x → Steps seal size g gives spelling accepted refusal dev.Tells result mid new (dev.opened via) (dev.opened to) (dev.time via) (dev.time to) (dev.faults via) (dev.faults to))
        → Steps seal size g gives spelling accepted refusal dev.Tells result old new (dev.opened from) (dev.opened to) (dev.time from) (dev.time to) (dev.faults from) (dev.faults to)
    step_ended result new to steps =
        let y = some_of mid.place mid_stands in
        step_filled seal size g gives spelling accepted refusal dev old r.0 from via was r.1 mid enough (fills r.0 r.1) result new to (steps y.0 y.1)

    -- the item that is at hand
    module _ (q : Place) (at : mid.place ≡ Some q) (yes : enough ≡ true) where
      pub mid_hand : size ≤ length q.reader.bytes
      mid_hand = hand_filled seal size g gives spelling accepted refusal dev old r.0 from via was r.1 mid enough (fills r.0 r.1) yes q at

      module _ (within : next_of q.reader ≤ q.reader.size) where
        abbrev stays : IsWalk g gives seal size dev.Tells (standing (leaving mid) q) (dev.opened via) (disk (dev.time via))
        stays = there seal size g gives mid q at (dev.opened via) (disk (dev.time via)) mid_over

        pub mid_room : q.position + 1 < 2 ^ 64
        mid_room =
            let h = here seal size g gives (leaving mid) q (dev.opened via) (disk (dev.time via)) stays in
            place_small q.position size (size_of (shown h.0)) pos (omega (arith, mid_hand, within, h.2.at, h.2.blob_size)) (fit_size _ _ _ _ h.0.fit)

        -- is taken
        pub step_taken : (adopt : (u : PageBlob S gs) (b : Blob) → g.Stands u b → IsAdopted seal (shown u) b) (going : old.ended ≡ false) (result : Result (Option (ℕ × ℕ × V)) Error) (new left : Walk F (PageBlob S gs)) → left ≡ leaving mid
            → ((s p : ℕ) (v : V) → result ≡ Ok (Some (s, p, v)) → (s ≡ q.section) × (p ≡ q.position) × (first_of (leaving mid) q.section ≤ q.position) × IsItem spelling accepted (take size q.reader.bytes) v)
            → (result ≡ Ok None → q.position < first_of (leaving mid) q.section) → OnOk result (new ≡ standing (leaving mid) (after_item size q)) → OnErr result (new ≡ left)
            → OnErr result (((e : codec.Error) × IsErrOf result (Codec e)) ⊎ IsErrOf result Mem)
            → ((e : codec.Error) → IsErrOf result (Codec e) → (first_of (leaving mid) q.section ≤ q.position) × (refusal (take size q.reader.bytes) tt ≡ Some e))
            → Steps seal size g gives spelling accepted refusal dev.Tells result old new (dev.opened from) (dev.opened via) (dev.time from) (dev.time via) (dev.faults from) (dev.faults via)
        step_taken adopt going result new left is given skipped goes stopped cause refused =
            step_filled seal size g gives spelling accepted refusal dev old r.0 from via was r.1 mid enough (fills r.0 r.1) result new via
            (steps_same seal size g gives spelling accepted refusal _ _ _ _ _ _ _ _ (sym (back seal size g gives mid q at (dev.opened via) (disk (dev.time via)) mid_over))
            (item_steps seal size g gives (leaving mid) q _ (dev.time via) stays pos mid_hand within spelling accepted refusal (mid_going going) adopt
            refl _ _ (omega arith) result new given skipped goes (on_err result (λ same. same ∙ is) stopped) cause refused))
