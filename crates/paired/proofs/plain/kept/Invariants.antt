use Rattle.std.proofs.Common.{◌≡◌, ◌++◌, map}
use Rattle.paired.specs.Records.{records, is_sound, unbroken_prefix, entry_of}
use Rattle.paired.proofs.PlainLemmas.{kept_from}
use Rattle.paired.proofs.plain.kept.Given as goal

abbrev pub invariant-records : goal.invariant-records
invariant-records g l = l.kept.items ++ map (entry_of g.I.Record.place l.values) (kept_from (λ b. is_sound g.S.Seal.seal_of l.values (g.I.Record.place b)) l.marker g.I.CodecFixed.SIZE l.sealed l.position)
    ≡ map (entry_of g.I.Record.place l.values) (unbroken_prefix (λ b. is_sound g.S.Seal.seal_of l.values (g.I.Record.place b)) l.marker 0 (records g.I.CodecFixed.SIZE l.sealed))
