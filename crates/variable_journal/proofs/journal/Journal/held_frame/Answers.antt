use Rattle.std.proofs.Common.{◌≡◌, ◌∙◌, drop, length, inl, inr, sym, ap, arith, rules, List, ℕ}
use Rattle.std.proofs.lemmas.List.{take_at}
use Rattle.sealed_pages.specs.lemmas.memory.Holding.{fit_size}
use Rattle.variable_journal.proofs.TryingLemmas.{got_held, got_refused, none_behind, none_past}
use Rattle.variable_journal.proofs.journal.Journal.held_frame.Goals as goal

-- no length is held
pub returns-in_default : goal.returns-in_default
returns-in_default g c content item frame_there fine = (rw c.in_default.is at c.held_length.ensures) content item frame_there

pub overflow_add-whole : goal.overflow_add-whole
overflow_add-whole g c = omega (arith, c.in-Some.ensures.few, c.in-Some.ensures.small, c.from.ensures)

-- the frame runs past the end
pub returns-then-left-whole : goal.returns-then-left-whole
returns-then-left-whole g c content item frame_there fine =
    none_past g.S.Seal.seal_of c.args.buffer.now c.args.offset c.in-Some.size c.in-Some.header c.in-Some.ensures content item frame_there
    (omega (arith, c.if-left-whole.true, c.from.ensures, c.saturating_sub-left.ensures, c.size.ensures))

pub overflow_add-offset : goal.overflow_add-offset
overflow_add-offset g c = omega (arith, c.if-left-whole.false, c.from.ensures, c.saturating_sub-left.ensures, c.size.ensures, c.ranges.offset.fits, fit_size _ _ _ _ c.args.buffer.now.fit)

-- the item is not held
pub returns-then-not-try_read_held : goal.returns-then-not-try_read_held
returns-then-not-try_read_held g c content item frame_there fine =
    none_behind g.S.Seal.seal_of c.args.buffer.now c.args.offset c.in-Some.size c.in-Some.header c.in-Some.ensures content item frame_there
    _ _ _ c.try_read_held.ensures (search rules) c.if-not-try_read_held.true

pub returns-in-Ok : goal.returns-in-Ok
returns-in-Ok g c =
    got_held g.S.Seal.seal_of c.args.buffer.now c.args.offset c.in-Some.size c.in-Some.header c.in-Some.ensures
    _ _ _ c.try_read_held.ensures c.if-not-try_read_held.false (search rules) (omega (arith, c.if-left-whole.false, c.from.ensures, c.saturating_sub-left.ensures, c.size.ensures))
    g.V.Codec.spelling g.V.Codec.accepted c.args.self.now.codec_config c.in-Ok.item
    (c.in-Ok.ensures.spelled ∙ c.as_slice.ensures.value ∙ take_at c.try_read_held.new.buf (drop (length c.try_read_held.new.buf) c.in_ok-bytes.bytes.items) c.in_ok-bytes.bytes.len (search rules))
    c.in-Ok.ensures.allowed

pub returns : goal.returns
returns g c content item frame_there fine =
    let whole : length c.try_read_held.new.buf ≡ c.in_ok-bytes.bytes.len = search rules in
    let copy : c.as_slice.result.now ≡ c.try_read_held.new.buf = c.as_slice.ensures.value ∙ take_at c.try_read_held.new.buf (drop (length c.try_read_held.new.buf) c.in_ok-bytes.bytes.items) c.in_ok-bytes.bytes.len whole in
    elim c.in-Err.ensures.refused [
      | inl memory ↦ c.in_default-error.not-Mem memory
      | inr refused ↦ got_refused g.S.Seal.seal_of c.args.buffer.now c.args.offset c.in-Some.size c.in-Some.header c.in-Some.ensures
          _ _ _ c.try_read_held.ensures c.if-not-try_read_held.false (search rules) (omega (arith, c.if-left-whole.false, c.from.ensures, c.saturating_sub-left.ensures, c.size.ensures))
          g.V.Codec.refusal c.args.self.now.codec_config c.in-Err.error (ap (λ (l : List ℕ). g.V.Codec.refusal l c.args.self.now.codec_config) (sym copy) ∙ refused) content item frame_there fine
    ]
