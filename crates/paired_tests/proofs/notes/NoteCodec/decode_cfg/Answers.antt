use Rattle.std.specs.Prelude.{Ok}
use Rattle.std.proofs.Common.{inl, ℕ, List, take, drop, sym, ap, ◌∙◌, arith}
use Rattle.std.specs.Int.{w32, w64, from_be_bytes}
use Rattle.std.proofs.lemmas.Nat.{from_be_bytes-to_be_bytes_4, from_be_bytes-to_be_bytes_8}
use Rattle.paired_tests.proofs.NoteLemmas.{spelled_by}
use Rattle.paired_tests.proofs.notes.NoteCodec.decode_cfg.Goals as goal

pub returns-clause-spelled : goal.returns-clause-spelled
returns-clause-spelled c = spelled_by c.args.bytes.now c.u64_at.result c.u64_at-2.result c.u64_at-3.result c.u32_in.result (omega (arith, c.if-bytes-gt28.false)) c.u64_at.ensures.spelled c.u64_at-2.ensures.spelled c.u64_at-3.ensures.spelled c.u32_in.ensures.spelled

pub returns-clause-gives : goal.returns-clause-gives
returns-clause-gives c = λ v fits same. inl (λ i. Ok (record {
  number = (c.u64_at.ensures.value ∙ ap (λ (b : List ℕ). from_be_bytes w64 (take 8 (drop 0 b))) (sym same) ∙ from_be_bytes-to_be_bytes_8 v.number fits.0) i;
  tag = (c.u64_at-2.ensures.value ∙ ap (λ (b : List ℕ). from_be_bytes w64 (take 8 (drop 8 b))) (sym same) ∙ from_be_bytes-to_be_bytes_8 v.tag fits.1) i;
  offset = (c.u64_at-3.ensures.value ∙ ap (λ (b : List ℕ). from_be_bytes w64 (take 8 (drop 16 b))) (sym same) ∙ from_be_bytes-to_be_bytes_8 v.offset fits.2) i;
  size = (c.u32_in.ensures.value ∙ ap (λ (b : List ℕ). from_be_bytes w32 (take 4 (drop 24 b))) (sym same) ∙ from_be_bytes-to_be_bytes_4 v.size fits.3) i;
}))
