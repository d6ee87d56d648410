use Rattle.std.proofs.Common.{◌≡◌, ◌∙◌, Err, length, inl, inr, ap, subst, arith}
use Rattle.std.proofs.Math.Nat.{mod-one}
use Rattle.section_manager.specs.declared.journal.Error.TheVariants.{Full, Mem, ValueTooLarge}
use Rattle.section_manager.specs.lemmas.Seen.{err_same}
use Rattle.segments.specs.FixedAdding.{Overfills}
use Rattle.segments.specs.lemmas.adding.Adding.{error_is, mem_not_full, mem_not_pruned}
use Rattle.segments.specs.lemmas.adding.Write.{are_pages}
use Rattle.segments.specs.lemmas.held.Passing.{no_error}
use Rattle.variable_journal.specs.lemmas.Adding.{below_large}
use Rattle.variable_journal.specs.Frames.{frame}
use Rattle.variable_journal.specs.Shown.{shown}
use Rattle.variable_journal.proofs.AddingLemmas.{added, not_added, refused, spelled_as, does_overfill, would_overfill}
use Rattle.variable_journal.proofs.journal.Journal.append.Goals as goal
use Rattle.blob_device.proofs.general.Results.{err_of}

pub append_bytes-requires-clause-whole : goal.append_bytes-requires-clause-whole
append_bytes-requires-clause-whole g c = mod-one _

pub returns-in_err-size : goal.returns-in_err-size
returns-in_err-size g c =
    let e = c.in_err-size.field-0.0 in
    let o = c.in_err-size.ensures in
    let large : e ≡ ValueTooLarge = error_is e ValueTooLarge o.cause in
    rw (err_of c.from_residual.result e c.from_residual.ensures.1)
    (refused g.S.Seal.seal_of _ (are_pages g.row.S g.S.Seal g.S.Seal-dict) _ g.D.Device (shown c.args.self) c.args.section c.args.dev.now c.requires.over c.requires.recovered (g.V.Codec.spelling c.args.item.now) _ e
    (λ is. o.large.0 (err_same is), λ big. ap Err large)
    (λ is. absurd (cc (is, large)), λ low. absurd (let big = o.large.0 o.cause in omega (arith, big, low.0)))
    (λ is. absurd (cc (is, large))) (λ small le. absurd (let big = o.large.0 o.cause in omega (arith, big, small))) (inl (ap Err large)))

pub returns-in_err-prune_guard : goal.returns-in_err-prune_guard
returns-in_err-prune_guard g c =
    let e = c.in_err-prune_guard.field-0.0 in
    let o = c.in_err-prune_guard.ensures in
    let pruned = error_is e _ o.cause in
    let fits = c.in_ok-size.ensures.large in
    rw (err_of c.from_residual-in_err-prune_guard.result e c.from_residual-in_err-prune_guard.ensures.1)
    (refused g.S.Seal.seal_of _ (are_pages g.row.S g.S.Seal g.S.Seal-dict) _ g.D.Device (shown c.args.self) c.args.section c.args.dev.now c.requires.over c.requires.recovered (g.V.Codec.spelling c.args.item.now) _ e
    (λ is. absurd (cc (is, pruned)), λ big. absurd (no_error _ _ (fits.1 big)))
    (λ is. (below_large _ _ fits, o.guard.0 o.cause), λ low. ap Err pruned)
    (λ is. absurd (cc (is, pruned))) (λ less le. absurd (let low = o.guard.0 o.cause in omega (arith, le, low))) (inr (inl (ap Err pruned))))

pub returns-in_err-frame : goal.returns-in_err-frame
returns-in_err-frame g c =
    let e = c.in_err-frame.field-0.0 in
    let mem : e ≡ Mem = error_is e Mem c.in_err-frame.ensures.cause in
    let fits = c.in_ok-size.ensures.large in
    rw (err_of c.from_residual-in_err-frame.result e c.from_residual-in_err-frame.ensures.1)
    (refused g.S.Seal.seal_of _ (are_pages g.row.S g.S.Seal g.S.Seal-dict) _ g.D.Device (shown c.args.self) c.args.section c.args.dev.now c.requires.over c.requires.recovered (g.V.Codec.spelling c.args.item.now) _ e
    (λ is. absurd (cc (is, mem)), λ big. absurd (no_error _ _ (fits.1 big)))
    (λ is. absurd (mem_not_pruned e mem _ is), λ low. absurd (no_error _ _ (c.in_ok-prune_guard.ensures.guard.1 low.1)))
    (λ is. absurd (mem_not_full e mem is)) (λ less le. inr mem) (inr (inr (inr (inl (ap Err mem))))))

pub returns-in_err-guard_room : goal.returns-in_err-guard_room
returns-in_err-guard_room g c =
    let e = c.in_err-guard_room.field-0.0 in
    let o = c.in_err-guard_room.ensures in
    let fits = c.in_ok-size.ensures.large in
    let full : e ≡ Full = elim o.cause [ inl is ↦ error_is e Full is | inr is ↦ absurd (no_error _ _ (c.in_ok-prune_guard.ensures.guard.1 (o.guard.0 is))) ] in
    let long : c.len.result ≡ length (frame (g.V.Codec.spelling c.args.item.now)) = omega (arith, c.len.ensures, c.in_ok-frame.frame.ok.0, ap length c.in_ok-frame.ensures.frame) in
    rw (err_of c.from_residual-in_err-guard_room.result e c.from_residual-in_err-guard_room.ensures.1)
    (refused g.S.Seal.seal_of _ (are_pages g.row.S g.S.Seal g.S.Seal-dict) _ g.D.Device (shown c.args.self) c.args.section c.args.dev.now c.requires.over c.requires.recovered (g.V.Codec.spelling c.args.item.now) _ e
    (λ is. absurd (cc (is, full)), λ big. absurd (no_error _ _ (fits.1 big)))
    (λ is. absurd (cc (is, full)), λ low. absurd (no_error _ _ (c.in_ok-prune_guard.ensures.guard.1 low.1)))
    (λ is which. would_overfill (shown c.args.self) c.args.section _ (λ u held i. (c.requires.over.bytes.over.opened_list.setting c.args.section u held i).page_size)
    (subst (Overfills (shown c.args.self) c.args.section) long (o.full (err_same is))))
    (λ less le. inl full) (inr (inr (inl (ap Err full)))))

pub returns-in_err-bytes : goal.returns-in_err-bytes
returns-in_err-bytes g c =
    let e = c.in_err-bytes.field-0.0 in
    let long : length (frame (g.V.Codec.spelling c.args.item.now)) ≡ c.len.result = omega (arith, c.len.ensures, c.in_ok-frame.frame.ok.0, ap length c.in_ok-frame.ensures.frame) in
    rw (err_of c.from_residual-in_err-bytes.result e c.from_residual-in_err-bytes.ensures.1)
    (not_added g.S.Seal.seal_of _ (are_pages g.row.S g.S.Seal g.S.Seal-dict) _ g.D.Device (shown c.args.self) c.args.section c.args.dev.now c.requires.over c.requires.recovered (g.V.Codec.spelling c.args.item.now) _ _
    (below_large _ _ c.in_ok-size.ensures.large) c.append_bytes.new.dev e
    (λ held full. c.in_ok-guard_room.ensures.room (subst (Overfills (shown c.args.self) c.args.section) long
    (does_overfill (shown c.args.self) c.args.section _ (λ u is i. (c.requires.over.bytes.over.opened_list.setting c.args.section u is i).page_size) held full)))
    (spelled_as _ _ g.S.Seal.seal_of g.D.Device (shown c.args.self) c.args.section _ _ _ _ _ _ (c.as_slice.ensures.value ∙ c.in_ok-frame.ensures.frame) c.in_err-bytes.ensures))

pub returns : goal.returns
returns g c =
    added g.S.Seal.seal_of _ (are_pages g.row.S g.S.Seal g.S.Seal-dict) _ g.D.Device (shown c.args.self) c.args.section c.args.dev.now c.requires.over c.requires.recovered (g.V.Codec.spelling c.args.item.now) _ _
    (below_large _ _ c.in_ok-size.ensures.large) c.append_bytes.new.dev _ c.in_ok-size.size c.in_ok-size.ensures.size
    (spelled_as _ _ g.S.Seal.seal_of g.D.Device (shown c.args.self) c.args.section _ _ _ _ _ _ (c.as_slice.ensures.value ∙ c.in_ok-frame.ensures.frame) c.in_ok-bytes.ensures)
