use Rattle.std.proofs.Common.{◌≡◌, ◌∙◌, ap, ℕ, List, ◌++◌, append_assoc, if◌then◌else◌, Result, Ok}
use Rattle.std.specs.Int.{w32, w64, to_be_bytes}
use Rattle.std.specs.Result.{is_ok}
use Rattle.archives.specs.IndexRecord.{index_record}
use Rattle.archives.proofs.prunable.index_record.IndexRecordCodec.write.Goals as goal

-- what a call that was Ok leaves
appended : {A E : Type 0} (r : Result A E) (x : A) (old bytes new : List ℕ) → r ≡ Ok x → new ≡ (if is_ok r then old ++ bytes else old) → new ≡ old ++ bytes
appended {A} {E} r x old bytes new was is = is ∙ ap (λ (q : Result A E). if is_ok q then old ++ bytes else old) was

behind : (out a b c d : List ℕ) → out ++ a ++ b ++ c ++ d ≡ out ++ (a ++ b ++ c ++ d)
behind out a b c d = simp append_assoc

-- the parts, one behind the other, are the spelling
record_behind : (out key : List ℕ) (index offset size : ℕ)
    → out ++ to_be_bytes w64 index ++ key ++ to_be_bytes w64 offset ++ to_be_bytes w32 size ≡ out ++ index_record index key offset size
unfolding index_record
record_behind out key index offset size = behind out (to_be_bytes w64 index) key (to_be_bytes w64 offset) (to_be_bytes w32 size)

pub returns-clause-appended : goal.returns-clause-appended
returns-clause-appended g c =
    let r = c.args.self.now in
    let key = g.K.Key.key_bytes r.key in
    let out = c.args.out.now.items in
    let first = appended c.extend_from_slice.result c.unwrap.result c.reserve.new.self.items c.to_be_bytes.result c.extend_from_slice.new.self.items c.unwrap.ensures c.extend_from_slice.ensures.items in
    let second = appended c.extend_from_slice-2.result c.unwrap-2.result c.extend_from_slice.new.self.items c.as_bytes.result.now c.extend_from_slice-2.new.self.items c.unwrap-2.ensures c.extend_from_slice-2.ensures.items in
    let third = appended c.extend_from_slice-3.result c.unwrap-3.result c.extend_from_slice-2.new.self.items c.to_be_bytes-2.result c.extend_from_slice-3.new.self.items c.unwrap-3.ensures c.extend_from_slice-3.ensures.items in
    let fourth = appended c.extend_from_slice-4.result c.unwrap-4.result c.extend_from_slice-3.new.self.items c.to_be_bytes-3.result c.extend_from_slice-4.new.self.items c.unwrap-4.ensures c.extend_from_slice-4.ensures.items in
    let whole = record_behind out key r.index r.offset r.size in
    cc
