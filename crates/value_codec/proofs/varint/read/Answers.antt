use Rattle.std.proofs.Common.{◌+◌, ◌-◌, ◌^◌, ◌/◌, ◌≤◌, get_or, inl, inr, refl, sym, subst, arith}
use Rattle.value_codec.specs.Varint.{BeginsWithVarint}
use Rattle.value_codec.proofs.VarintLemmas.{IsReadTo, read_start, read_more, read_last, read_none, read_cut, last_none, more_none, not_cut_last, not_cut_full, in_place, sum_in_place}
use Rattle.value_codec.proofs.varint.read.Goals as goal
use Rattle.value_codec.proofs.varint.read.Goals.{then-byte-room-via-then-byte-room, then-byte-room-via-else-byte-room+then-at-gt0}

-- what a byte that goes on holds has room
seven_bits : (c : goal.Else-room-lt-GOES_ON) → get_or c.args.bytes.now c.loop-at.at 0 - 128 ≤ c.loop-at.room
seven_bits c = omega (arith, c.type_inv.bytes c.loop-at.at)

pub loop-at-init : goal.loop-at-init
loop-at-init c = read_start c.args.bits c.args.bytes.now c.requires.some c.requires.fits

pub returns-then-byte-room-clause-cut : goal.returns-then-byte-room-clause-cut
returns-then-byte-room-clause-cut c = λ cut. absurd (not_cut_last _ c.args.bytes.now c.loop-at.at c.loop-at-test.true c.if-byte-lt-GOES_ON.true cut)

pub returns-then-byte-room-clause-refused : goal.returns-then-byte-room-clause-refused
returns-then-byte-room-clause-refused c =
    inr (
      refl,
      read_none c.args.bits c.args.bytes.now c.loop-at.at c.loop-at.value c.loop-at.room _ c.loop-at.invariant c.loop-at-test.true refl
          (λ more high. last_none c.loop-at.room c.loop-at.at _ more high c.if-byte-lt-GOES_ON.true
          (elim c.then-byte-room.branch [
            | then-byte-room-via-then-byte-room w ↦ inl w.if-byte-room.true
            | then-byte-room-via-else-byte-room+then-at-gt0 w ↦ inr w.if-at-gt0.true
          ])),
    )

pub overflow_add-result : goal.overflow_add-result
overflow_add-result c = sum_in_place c.args.bits c.args.bytes.now c.loop-at.at c.loop-at.value c.loop-at.room _ c.loop-at.invariant c.loop-at.auto.at-end c.requires.fits c.if-byte-room.false

pub returns-then-byte-lt-GOES_ON-clause-cut : goal.returns-then-byte-lt-GOES_ON-clause-cut
returns-then-byte-lt-GOES_ON-clause-cut c = λ cut. absurd (not_cut_last _ c.args.bytes.now c.loop-at.at c.loop-at-test.true c.if-byte-lt-GOES_ON.true cut)

pub returns-then-byte-lt-GOES_ON-clause-found : goal.returns-then-byte-lt-GOES_ON-clause-found
returns-then-byte-lt-GOES_ON-clause-found c =
    let place = in_place c.args.bits c.args.bytes.now c.loop-at.at c.loop-at.value c.loop-at.room _ c.loop-at.invariant c.requires.fits c.if-byte-room.false in
    subst (λ z. BeginsWithVarint (2 ^ c.args.bits) c.args.bytes.now (c.loop-at.value + z) (c.loop-at.at + 1)) (sym place)
    (read_last c.args.bits c.args.bytes.now c.loop-at.at c.loop-at.value c.loop-at.room _ c.loop-at.invariant c.loop-at-test.true refl
    c.if-byte-lt-GOES_ON.true c.if-byte-room.false
    (elim c.if-at-gt0.either [ inl first ↦ λ h. absurd (omega (arith, first.1)) | inr some ↦ λ h. omega (arith, some) ]))

pub returns-then-room-lt-GOES_ON-clause-cut : goal.returns-then-room-lt-GOES_ON-clause-cut
returns-then-room-lt-GOES_ON-clause-cut c =
    λ cut. absurd (not_cut_full c.args.bits c.args.bytes.now c.loop-at.at c.loop-at.value c.loop-at.room c.loop-at.invariant c.loop-at-test.true c.if-room-lt-GOES_ON.true cut)

pub returns-then-room-lt-GOES_ON-clause-refused : goal.returns-then-room-lt-GOES_ON-clause-refused
returns-then-room-lt-GOES_ON-clause-refused c =
    inr (
      refl,
      read_none c.args.bits c.args.bytes.now c.loop-at.at c.loop-at.value c.loop-at.room _ c.loop-at.invariant c.loop-at-test.true refl
          (λ more high spelled some. more_none c.loop-at.room _ more high c.if-byte-lt-GOES_ON.false c.if-room-lt-GOES_ON.true spelled),
    )

pub overflow_add-value : goal.overflow_add-value
overflow_add-value c =
    sum_in_place c.args.bits c.args.bytes.now c.loop-at.at c.loop-at.value c.loop-at.room _ c.loop-at.invariant c.loop-at.auto.at-end c.requires.fits (seven_bits c)

pub loop-at-preserved : goal.loop-at-preserved
loop-at-preserved c =
    let place = in_place c.args.bits c.args.bytes.now c.loop-at.at c.loop-at.value c.loop-at.room _ c.loop-at.invariant c.requires.fits (seven_bits c) in
    subst (λ z. IsReadTo c.args.bits c.args.bytes.now (c.loop-at.at + 1) (c.loop-at.value + z) (c.loop-at.room / 128)) (sym place)
    (read_more c.args.bits c.args.bytes.now c.loop-at.at c.loop-at.value c.loop-at.room _ c.loop-at.invariant c.loop-at-test.true refl
    c.if-byte-lt-GOES_ON.false (omega (arith, c.type_inv.bytes c.loop-at.at)) c.if-room-lt-GOES_ON.false)

pub returns-clause-refused : goal.returns-clause-refused
returns-clause-refused c = inl (refl, read_cut c.args.bits c.args.bytes.now c.loop-at.at c.loop-at.value c.loop-at.room c.loop-at.invariant (omega arith))
