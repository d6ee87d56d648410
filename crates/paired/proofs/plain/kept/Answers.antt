use Rattle.std.proofs.Common.{◌∙◌, ℕ, List, map, ap, arith}
use Rattle.paired.specs.Records.{records, is_sound, unbroken_prefix, entry_of}
use Rattle.paired.proofs.PlainLemmas.{found-all, found-end, found-more}
use Rattle.paired.proofs.plain.kept.Goals as goal

pub returns-then-not-keeps : goal.returns-then-not-keeps
returns-then-not-keeps g c =
    found-end g.S.Seal.seal_of g.I.Record.place c.args.values.now c.args.marker g.I.CodecFixed.SIZE c.as_slice-sealed.result.now _ c.records.kept.items c.records.position
    c.stored_at-stored.result.now c.in_ok-location.location c.is_kept-keeps.result (omega (arith, c.records-test.true, c.count_of-count.ensures)) c.stored_at-stored.ensures c.in_ok-location.ensures c.is_kept-keeps.ensures c.records.invariant c.if-not-keeps.true
    ∙ ap (λ (bytes : List ℕ). map (entry_of g.I.Record.place c.args.values.now) (unbroken_prefix (λ b. is_sound g.S.Seal.seal_of c.args.values.now (g.I.Record.place b)) c.args.marker 0 (records g.I.CodecFixed.SIZE bytes))) (c.as_slice-sealed.ensures.value ∙ c.in_ok-sealed.ensures)

pub records-preserved : goal.records-preserved
records-preserved g c =
    found-more g.S.Seal.seal_of g.I.Record.place c.args.values.now c.args.marker g.I.CodecFixed.SIZE c.as_slice-sealed.result.now _ c.records.kept.items c.records.position
    c.stored_at-stored.result.now c.in_ok-location.location c.is_kept-keeps.result (omega (arith, c.records-test.true, c.count_of-count.ensures)) c.stored_at-stored.ensures c.in_ok-location.ensures c.is_kept-keeps.ensures c.records.invariant c.if-not-keeps.false
    c.in_ok-found.found c.in_ok-found.ensures c.push.new.self.items c.in_ok-push.ensures.items

pub returns : goal.returns
returns g c =
    found-all g.S.Seal.seal_of g.I.Record.place c.args.values.now c.args.marker g.I.CodecFixed.SIZE c.as_slice-sealed.result.now _ c.records.kept.items c.records.position (omega (arith, c.records-test.false, c.count_of-count.ensures)) c.records.invariant
    ∙ ap (λ (bytes : List ℕ). map (entry_of g.I.Record.place c.args.values.now) (unbroken_prefix (λ b. is_sound g.S.Seal.seal_of c.args.values.now (g.I.Record.place b)) c.args.marker 0 (records g.I.CodecFixed.SIZE bytes))) (c.as_slice-sealed.ensures.value ∙ c.in_ok-sealed.ensures)
