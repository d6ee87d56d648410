use Rattle.std.proofs.Common.{◌∙◌, ap, arith, ℕ, List}
use Rattle.archives.specs.IndexRecord.{index_record}
use Rattle.archives.specs.IndexRecordLaws.{index_record-joined}
use Rattle.archives.proofs.prunable.index_record.IndexRecord.from_bytes.Goals as goal

pub returns : goal.returns
returns g c =
    let first = c.split_at.result in
    let second = c.split_at-2.result in
    let third = c.split_at-3.result in
    record {
      size = omega (arith, c.if-bytes-SIZE.false, c.SIZE.ensures);
      spelled = ap (λ (key : List ℕ). index_record c.u64_in.result key c.u64_in-2.result c.u32_in.result) c.in_ok-from_bytes.ensures.same
          ∙ index_record-joined c.u64_in.result c.u64_in-2.result c.u32_in.result c.args.bytes.now
          first.0.now first.1.now second.0.now second.1.now third.0.now third.1.now
          c.u64_in.ensures c.u64_in-2.ensures c.u32_in.ensures
          c.split_at.ensures.by_index.0 c.split_at-2.ensures.by_index.0 c.split_at-3.ensures.by_index.0;
      in_range = (c.u64_in.type_inv, c.u64_in-2.type_inv, c.u32_in.type_inv);
    }
