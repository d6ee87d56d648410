-- What the markers of a pair show of themselves, and how they are stored.
use Rattle.std.specs.Prelude.{ℕ}
use Rattle.std.specs.Ordering.{nat_cmp}
use Rattle.std.specs.BTreeMap as tree
use Rattle.value_codec.specs.declared.key.Key8.{Key8}
use Rattle.value_codec.specs.declared.seal.Seal as seal
use Rattle.value_codec.specs.contracts.key.Key8Ord.TheImpl as key_order
use Rattle.value_codec.specs.contracts.key.Key8Key.TheImpl as key
use Rattle.value_codec.specs.contracts.numbers.U64Codec.TheImpl as number
use Rattle.meta_store.specs.Format.{Format, format_of}
use Rattle.meta_store.specs.Store as store
use Rattle.paired.specs.declared.oversized.tracking.Tracking.{Tracking}
use Rattle.paired.specs.Tracked.{Tracked}

abbrev pub shown : {S : Type 0} → Tracking S → Tracked
shown t = record {
  store = store.shown t.metadata;
  trailing = tree.get nat_cmp t.trailing;
}

-- how markers are stored: keys of eight bytes, numbers of eight, under this seal
abbrev pub marker_format : {S : Type 0} → seal.Ghosts S → Format Key8 ℕ
marker_format sealing = format_of key_order.ghosts.cmp key.ghosts.key_bytes number.ghosts sealing tt
