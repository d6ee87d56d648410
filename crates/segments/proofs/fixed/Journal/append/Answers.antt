-- The item is spelled, and its bytes are added.
use Rattle.std.proofs.Common.{◌≡◌, ◌∙◌, ◌%◌, ℕ, inl, inr, length, Err, refl, ap, arith}
use Rattle.std.proofs.Math.Nat.{mod_self}
use Rattle.section_manager.specs.declared.journal.Error.TheVariants.{Mem}
use Rattle.segments.specs.FixedShown.{shown}
use Rattle.segments.proofs.adding.Adding.{item_appended, item_overfills, pruned_not_full}
use Rattle.segments.specs.lemmas.adding.Adding.{along_nothing, error_is, failed, mem_not_full, mem_not_pruned}
use Rattle.segments.specs.lemmas.adding.Write.{are_pages}
use Rattle.segments.specs.lemmas.held.Passing.{guard_ok, guard_on, no_error}
use Rattle.segments.proofs.fixed.Journal.append.Goals as goal
use Rattle.blob_device.proofs.general.Results.{err_of}

pub append_bytes-requires-clause-whole : goal.append_bytes-requires-clause-whole
append_bytes-requires-clause-whole g c =
    let long : length c.as_slice.result.now ≡ g.A.CodecFixed.SIZE = ap length (c.as_slice.ensures.value ∙ c.in_ok-bytes.ensures.bytes) ∙ g.met.A.CodecFixed.fixed.sized c.args.item.now c.requires.accepted in
    ap (λ (n : ℕ). n % g.A.CodecFixed.SIZE) long ∙ mod_self g.A.CodecFixed.SIZE

pub returns-in_err-prune_guard : goal.returns-in_err-prune_guard
returns-in_err-prune_guard g c =
    let e = c.in_err-prune_guard.field-0.0 in
    let o = c.in_err-prune_guard.ensures in
    let pruned = error_is e _ o.cause in
    rw (err_of c.from_residual.result e c.from_residual.ensures.1)
    (failed g.S.Seal.seal_of g.A.CodecFixed.SIZE _ (are_pages g.row.S g.S.Seal g.S.Seal-dict) _ g.D.Device (shown c.args.self) c.args.section c.args.dev.now c.requires.over c.requires.recovered (g.A.Codec.spelling c.args.item.now) g.A.CodecFixed.SIZE _ _ c.args.dev.now e (along_nothing g.S.Seal.seal_of g.A.CodecFixed.SIZE _ (are_pages g.row.S g.S.Seal g.S.Seal-dict) _ g.D.Device (shown c.args.self) c.args.section c.args.dev.now c.requires.over c.requires.recovered (g.A.Codec.spelling c.args.item.now) g.A.CodecFixed.SIZE) (guard_on _ e _ _ refl o.guard) (λ lt. refl)
    (λ is which. absurd (pruned_not_full e _ pruned is)) (λ le u held big. absurd (omega (arith, le, o.guard.0 o.cause))) (inl (ap Err pruned)))

pub returns-in_err-bytes : goal.returns-in_err-bytes
returns-in_err-bytes g c =
    let e = c.in_err-bytes.field-0.0 in
    let mem : e ≡ Mem = error_is e Mem c.in_err-bytes.ensures.cause in
    rw (err_of c.from_residual-in_err-bytes.result e c.from_residual-in_err-bytes.ensures.1)
    (failed g.S.Seal.seal_of g.A.CodecFixed.SIZE _ (are_pages g.row.S g.S.Seal g.S.Seal-dict) _ g.D.Device (shown c.args.self) c.args.section c.args.dev.now c.requires.over c.requires.recovered (g.A.Codec.spelling c.args.item.now) g.A.CodecFixed.SIZE _ _ c.args.dev.now e (along_nothing g.S.Seal.seal_of g.A.CodecFixed.SIZE _ (are_pages g.row.S g.S.Seal g.S.Seal-dict) _ g.D.Device (shown c.args.self) c.args.section c.args.dev.now c.requires.over c.requires.recovered (g.A.Codec.spelling c.args.item.now) g.A.CodecFixed.SIZE)
    (λ pruned. absurd (mem_not_pruned e mem _ pruned), λ lt. absurd (no_error _ _ (c.in_ok-prune_guard.ensures.guard.1 lt))) (λ lt. refl)
    (λ is which. absurd (mem_not_full e mem is)) (λ le u held big. inr (ap Err mem)) (inr (inr (inl (ap Err mem)))))

pub returns-in_err-this : goal.returns-in_err-this
returns-in_err-this g c =
    let e = c.in_err-this.field-0.0 in
    rw (err_of c.from_residual-in_err-this.result e c.from_residual-in_err-this.ensures.1)
    (item_appended g.S.Seal.seal_of g.A.CodecFixed.SIZE _ _ g.D.Device (shown c.args.self) c.args.section c.args.dev.now c.append_bytes.new.dev (Err e) _ c.as_slice.result.now (g.A.Codec.spelling c.args.item.now) g.A.CodecFixed.SIZE
    (c.as_slice.ensures.value ∙ c.in_ok-bytes.ensures.bytes) (g.met.A.CodecFixed.fixed.sized c.args.item.now c.requires.accepted)
    (item_overfills (shown c.args.self) c.args.section g.A.CodecFixed.SIZE c.args.self.manager.factory.valid c.args.self.manager.factory.small g.met.A.CodecFixed.fixed.at_most (λ u held i. (c.requires.over.over.opened_list.setting c.args.section u held i).page_size))
    c.in_err-this.ensures)

pub returns : goal.returns
returns g c =
    let did = item_appended g.S.Seal.seal_of g.A.CodecFixed.SIZE _ _ g.D.Device (shown c.args.self) c.args.section c.args.dev.now c.append_bytes.new.dev _ _ c.as_slice.result.now (g.A.Codec.spelling c.args.item.now) g.A.CodecFixed.SIZE
    (c.as_slice.ensures.value ∙ c.in_ok-bytes.ensures.bytes) (g.met.A.CodecFixed.fixed.sized c.args.item.now c.requires.accepted)
    (item_overfills (shown c.args.self) c.args.section g.A.CodecFixed.SIZE c.args.self.manager.factory.valid c.args.self.manager.factory.small g.met.A.CodecFixed.fixed.at_most (λ u held i. (c.requires.over.over.opened_list.setting c.args.section u held i).page_size))
    c.in_ok-this.ensures in
    record {
      over = did.over;
      position = did.position;
      size = did.size;
      bytes = did.bytes;
      tail = did.tail;
      held = did.held;
      settled = did.settled;
      others = did.others;
      spares = did.spares;
      bounds = did.bounds;
      unrecovered = did.unrecovered;
      floors = did.floors;
      alone = did.alone;
      moments = did.moments;
      sealed = did.sealed;
      steady = did.steady;
      made = did.made;
      below = did.below;
      entries = did.entries;
      guard = guard_ok _ _ _ _ did.guard;
      refuses = did.refuses;
      full = λ is which. absurd (no_error _ _ is);
      full_first = λ le u held big. absurd (elim (did.full_first le u held big) [ inl is ↦ no_error _ _ is | inr is ↦ no_error _ _ is ]);
      room = did.room;
      faults = did.faults;
      cause = did.cause;
    }
