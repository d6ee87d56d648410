use Rattle.std.proofs.Common.{lit≤, lt_of_lt_of_le, inl, inr}
use Rattle.segments_tests.proofs.items.LowCodec.decode_cfg.Goals as goal
use Rattle.blob_device.proofs.general.Results.{err_of}

pub returns-in_err-number-clause-gives : goal.returns-in_err-number-clause-gives
returns-in_err-number-clause-gives c v low same =
    let is = err_of c.from_residual.result c.in_err-number.field-0.0 c.from_residual.ensures.1 in
    elim (c.in_err-number.ensures.gives v (lt_of_lt_of_le low (lit≤ tt)) same) [
      | inl one ↦ absurd (cc one)
      | inr none ↦ inr (cc (is, none))
    ]
