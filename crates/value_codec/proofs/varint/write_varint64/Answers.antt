use Rattle.std.proofs.Common.{◌≡◌, ℕ, ◌+◌, ◌/◌, ◌%◌, ◌<◌, List, ◌∷◌, [], ◌++◌, length, take, set, length-set, add-one, append_assoc, arith, ap, sym, ◌∙◌}
use Rattle.std.proofs.Math.Seq.{take-suc-set}
use Rattle.value_codec.specs.Varint.{varint}
use Rattle.value_codec.proofs.VarintLemmas.{less_room, room_below}
use Rattle.value_codec.proofs.varint.write_varint64.Goals as goal
use Rattle.value_codec.specs.lemmas.Varint.{varint_long, varint_short}

-- one more byte behind the first ones
stored : (bytes : List ℕ) (len b : ℕ) → len < length bytes → take (len + 1) (set bytes len b) ≡ take len bytes ++ b ∷ []
stored bytes len b inside = rw add-one (take-suc-set bytes len b inside)

pub loop-rest-preserved : goal.loop-rest-preserved
loop-rest-preserved c =
    let before = c.loop-rest.invariant in
    let inside = room_below c.loop-rest.len c.loop-rest.rest before.2 c.loop-rest-test.true in (
      inside,
      length-set _ _ _ ∙ before.1,
      less_room c.loop-rest.len c.loop-rest.rest inside before.2,
      ap (λ z. z ++ varint (c.loop-rest.rest / 128)) (stored c.loop-rest.bytes c.loop-rest.len (128 + c.loop-rest.rest % 128) (omega arith))
          ∙ append_assoc (take c.loop-rest.len c.loop-rest.bytes) ((128 + c.loop-rest.rest % 128) ∷ []) (varint (c.loop-rest.rest / 128))
          ∙ ap (λ z. take c.loop-rest.len c.loop-rest.bytes ++ z) (sym (varint_long c.loop-rest.rest c.loop-rest-test.true))
          ∙ before.3,
    )

pub returns-clause-appended : goal.returns-clause-appended
returns-clause-appended c =
    let before = c.loop-rest.invariant in
    c.in_ok-extend_from_slice.ensures.items
    ∙ ap (λ z. c.args.out.now.items ++ z)
    (stored c.loop-rest.bytes c.loop-rest.len c.loop-rest.rest (omega arith)
    ∙ ap (λ z. take c.loop-rest.len c.loop-rest.bytes ++ z) (sym (varint_short c.loop-rest.rest c.loop-rest-test.false))
    ∙ before.3)
