use Rattle.std.proofs.Common.{◌≡◌, ◌++◌}
use Rattle.std.specs.Int.{w64, to_be_bytes}
use Rattle.std.specs.List.{AllByRecursion}
use Rattle.meta_store.specs.Format.{format_of}
use Rattle.meta_store.specs.Copies.{IsStorable, entries_bytes}
use Rattle.meta_store.proofs.metadata.Metadata.body.Given as goal

abbrev pub invariant-entries : goal.invariant-entries
invariant-entries g l = record {
  written : l.body.items ++ entries_bytes g.K.Key.key_bytes g.V.Codec.spelling l.key-iterator ≡ to_be_bytes w64 l.count ++ entries_bytes g.K.Key.key_bytes g.V.Codec.spelling l.self.entries.entries;
  storable : AllByRecursion (λ e. IsStorable (format_of g.K.Ord.cmp g.K.Key.key_bytes g.V.Codec g.S.Seal l.self.codec_config) e.1) l.key-iterator;
}
