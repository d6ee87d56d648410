use Rattle.std.proofs.Common.{◌≡◌, ◌⊎◌, inl, inr, ℕ, List, Option, None, Some, IsSome, refl, sym, ◌∙◌, subst, arith}
use Rattle.std.specs.Prelude.{◌↔◌, ⊤}
use Rattle.std.specs.List.{Contains}
use Rattle.std.proofs.Math.Seq.{take-length}
use Rattle.blob_device.specs.Disk.{Key}
use Rattle.blob_device.specs.Timeline.{disk}
use Rattle.blob_device.specs.lemmas.Moments.{always_weaker}
use Rattle.section_manager.specs.Sections.{IsHeld}
use Rattle.paired.specs.lemmas.pair.Synced.{here_of}
use Rattle.segments.specs.lemmas.adding.Write.{are_pages}
use Rattle.paired.specs.Crashes.{IsBlobOf, IsCopy, IsIndexOf, IsValuesOf}
use Rattle.paired.specs.Pair.{list_of, synced_length}
use Rattle.paired.specs.PairShown.{shown}
use Rattle.paired.proofs.pair.FaultLemmas.{before_them, before_markers}
use Rattle.paired.proofs.pair.Failing.{only_failed}
use Rattle.paired.proofs.pair.Marked.{if_both, lists_keep}
use Rattle.paired.proofs.pair.Settling.{all_in_order, any_blob, blob_within, copy_no_blob, keeping_wider, parts_of}
use Rattle.paired.proofs.pair.Synced.{unheld_synced}
use Rattle.paired.proofs.oversized.Oversized.sync_all.Goals as goal
use Rattle.blob_device.proofs.general.Lists.{contains_or_not}
use Rattle.blob_device.proofs.general.Results.{map_ok}

not_held : {T : Type 0} (o : Option T) → (IsSome o → ⊥) → o ≡ None
not_held None never = refl
not_held (Some v) never = absurd (never refl)

pub returns-in_err-sections-clause-moments : goal.returns-in_err-sections-clause-moments
returns-in_err-sections-clause-moments g c t sound =
    let p = shown g.I.Record.place c.args.self in
    let here_p = here_of g.I.Record.place c.args.self g.met.I.CodecFixed.fixed.at_least in
    lists_keep _ _ g.D.Device.Tells p _ (g.D.Device.time c.args.dev.now) here_p c.requires.over t
    (parts_of _ _ g.D.Device.Tells p (are_pages g.row.S g.S.Seal g.S.Seal-dict) _ (disk (g.D.Device.time c.args.dev.now)) here_p c.requires.over t sound.sound) sound.floor (λ q. IsIndexOf p.layout (λ _. ⊤) q ⊎ IsValuesOf p.layout (λ _. ⊤) q)

pub returns-clause-synced : goal.returns-clause-synced
returns-clause-synced g c =
    let p = shown g.I.Record.place c.args.self in
    let here = here_of g.I.Record.place c.args.self g.met.I.CodecFixed.fixed.at_least in
    let named = Contains c.as_slice.result.now in
    let decides = contains_or_not c.as_slice.result.now in
    let a = g.D.Device.time c.args.dev.now in
    let b = g.D.Device.time c.settle.new.dev in
    let r = c.settle.result in
    let says = c.settle.ensures in
    let all : (s : ℕ) → named s ↔ IsHeld p.index.sections s = (λ s. subst (λ (l : List ℕ). Contains l s ↔ IsHeld p.index.sections s) (sym c.as_slice.ensures.value) (c.in_ok-sections.ensures.each s)) in
    if_both r _ _ _ (λ v is other s. elim (decides s) [
      | inl has ↦ is s has
      | inr out ↦ other s out ∙ unheld_synced p _ (disk a) here c.requires.over s (not_held (p.index.sections.held s) (λ held. out ((all s).1 held)))
    ]) says.named says.others

pub returns-clause-moments : goal.returns-clause-moments
returns-clause-moments g c t sound =
    let p = shown g.I.Record.place c.args.self in
    let here = here_of g.I.Record.place c.args.self g.met.I.CodecFixed.fixed.at_least in
    let named = Contains c.as_slice.result.now in
    let decides = contains_or_not c.as_slice.result.now in
    let a = g.D.Device.time c.args.dev.now in
    let b = g.D.Device.time c.settle.new.dev in
    let r = c.settle.result in
    let says = c.settle.ensures in
    keeping_wider p.layout (list_of p (disk a)) (list_of p (disk a)) (synced_length p) (synced_length p) (λ _. ⊥) (IsBlobOf p.layout named) (λ q. IsIndexOf p.layout (λ _. ⊤) q ⊎ IsValuesOf p.layout (λ _. ⊤) q) a b
    (λ s. take-length (list_of p (disk a) s)) (λ s. omega arith) (any_blob p.layout named) (says.moments t sound)

pub returns-clause-order : goal.returns-clause-order
returns-clause-order g c t =
    let p = shown g.I.Record.place c.args.self in
    let here = here_of g.I.Record.place c.args.self g.met.I.CodecFixed.fixed.at_least in
    let named = Contains c.as_slice.result.now in
    let decides = contains_or_not c.as_slice.result.now in
    let a = g.D.Device.time c.args.dev.now in
    let b = g.D.Device.time c.settle.new.dev in
    let r = c.settle.result in
    let says = c.settle.ensures in
    all_in_order p.layout c.requires.over.apart named decides a b (says.alone t) (says.order t)

pub returns-clause-cause : goal.returns-clause-cause
returns-clause-cause g c =
    let p = shown g.I.Record.place c.args.self in
    let here = here_of g.I.Record.place c.args.self g.met.I.CodecFixed.fixed.at_least in
    let named = Contains c.as_slice.result.now in
    let decides = contains_or_not c.as_slice.result.now in
    let a = g.D.Device.time c.args.dev.now in
    let b = g.D.Device.time c.settle.new.dev in
    let r = c.settle.result in
    let says = c.settle.ensures in
    let all : (s : ℕ) → named s ↔ IsHeld p.index.sections s = (λ s. subst (λ (l : List ℕ). Contains l s ↔ IsHeld p.index.sections s) (sym c.as_slice.ensures.value) (c.in_ok-sections.ensures.each s)) in
    only_failed r p.index.sections.floor _ _ says.cause (λ is. (let w = says.guard.0 is in
    absurd (omega (arith, w.2, c.requires.over.index.over.opened_list.from_floor w.0 (inl ((all w.0).0 w.1))))))

pub returns-clause-untouched : goal.returns-clause-untouched
returns-clause-untouched g c t =
    let p = shown g.I.Record.place c.args.self in
    let here = here_of g.I.Record.place c.args.self g.met.I.CodecFixed.fixed.at_least in
    let named = Contains c.as_slice.result.now in
    let decides = contains_or_not c.as_slice.result.now in
    let a = g.D.Device.time c.args.dev.now in
    let b = g.D.Device.time c.settle.new.dev in
    let r = c.settle.result in
    let says = c.settle.ensures in
    always_weaker a b (λ d. (q : Key) → (IsBlobOf p.layout (λ s. named s × IsHeld p.index.sections s) q → ⊥) → d q ≡ disk a q) (λ d. (q : Key) → (IsBlobOf p.layout (λ s. IsHeld p.index.sections s) q → ⊥) → d q ≡ disk a q)
    (λ d only q not. only q (λ is. not (blob_within p.layout (λ s. named s × IsHeld p.index.sections s) (λ s. IsHeld p.index.sections s) (λ s both. both.1) q is))) (says.untouched t)

pub returns-clause-idle : goal.returns-clause-idle
returns-clause-idle g c none =
    c.settle.ensures.idle (λ s is un. none s un)

pub returns-clause-settled : goal.returns-clause-settled
returns-clause-settled g c =
    let p = shown g.I.Record.place c.args.self in
    let here = here_of g.I.Record.place c.args.self g.met.I.CodecFixed.fixed.at_least in
    let named = Contains c.as_slice.result.now in
    let decides = contains_or_not c.as_slice.result.now in
    let a = g.D.Device.time c.args.dev.now in
    let b = g.D.Device.time c.settle.new.dev in
    let r = c.settle.result in
    let says = c.settle.ensures in
    let all : (s : ℕ) → named s ↔ IsHeld p.index.sections s = (λ s. subst (λ (l : List ℕ). Contains l s ↔ IsHeld p.index.sections s) (sym c.as_slice.ensures.value) (c.in_ok-sections.ensures.each s)) in
    map_ok r _ _ (λ v is s held. is s ((all s).1 (c.requires.over.whole.values_held s held)) held) says.settled

pub returns-clause-entries : goal.returns-clause-entries
returns-clause-entries g c q index values =
    let p = shown g.I.Record.place c.args.self in
    let named = Contains c.as_slice.result.now in
    c.settle.ensures.entries q (λ is. elim (any_blob p.layout named q is) [
      | inl of_index ↦ index of_index
      | inr of_values ↦ values of_values
    ])

pub returns-clause-fault : goal.returns-clause-fault
returns-clause-fault g c t =
    let p = shown g.I.Record.place c.args.self in
    let named = Contains c.as_slice.result.now in
    let a = g.D.Device.time c.args.dev.now in
    let b = g.D.Device.time c.settle.new.dev in
    let r = c.settle.result in
    let says = c.settle.ensures in
    before_markers p (λ _. ⊤) r _ _ a b
    (always_weaker a b (λ d. (q : Key) → (IsBlobOf p.layout named q → ⊥) → d q ≡ disk a q) (λ d. (q : Key) → IsCopy p.layout q → d q ≡ disk a q)
    (λ d only q is. only q (copy_no_blob p.layout named c.requires.over.apart q is)) (says.alone t))
    (before_them r _ _ _ _ _ says.cause)
