use Rattle.std.proofs.Common.{◌≡◌, List, length, ap, arith}
use Rattle.std.proofs.lemmas.Bool.{leb-true, le-leb}
use Rattle.std.proofs.lemmas.List.{length-map}
use Rattle.sealed_pages.specs.SealedPrefix.{sealed_prefix}
use Rattle.paired.specs.Records.{Entry, records, is_sound, unbroken_prefix, entry_of}
use Rattle.paired.proofs.PlainLemmas.{prefix-sound}
use Rattle.paired.proofs.plain.has_sound.Goals as goal

pub returns : goal.returns
returns g c =
    let rs = records g.I.CodecFixed.SIZE (sealed_prefix g.S.Seal.seal_of c.args.page_size c.args.index.now) in
    let kept = unbroken_prefix (λ b. is_sound g.S.Seal.seal_of c.args.values.now (g.I.Record.place b)) 0 0 rs in
    let count : c.len.result ≡ length kept = omega (arith, c.len.ensures, c.in_ok-found.found.ok.0, ap (λ (es : List Entry). length es) c.in_ok-found.ensures, length-map kept (entry_of g.I.Record.place c.args.values.now)) in
    let are = prefix-sound (λ b. is_sound g.S.Seal.seal_of c.args.values.now (g.I.Record.place b)) rs c.args.marker in
    (λ is. are.0 (omega (arith, count, leb-true c.args.marker c.len.result is)), λ both. le-leb c.args.marker c.len.result (omega (arith, count, are.1 both)))
