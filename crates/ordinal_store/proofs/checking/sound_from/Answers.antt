use Rattle.std.proofs.Common.{◌+◌, ◌*◌, ◌≤◌, ℕ, List, drop, ap, ◌∙◌, subst, sym, arith}
use Rattle.std.specs.Prelude.{IfOk}
use Rattle.blob_device.specs.Timeline.{disk}
use Rattle.sealed_pages.specs.unsealed.Writing.{blob_key, bytes_of, shown, size_of}
use Rattle.sealed_pages.specs.lemmas.Entries.{only_read_of}
use Rattle.ordinal_store.specs.Reopening.{AreSound}
use Rattle.ordinal_store.specs.Slots.{part_at, stored_by}
use Rattle.ordinal_store.specs.Stores.{sight}
use Rattle.ordinal_store.proofs.SoundLemmas.{piece_read, sounding_failed}
use Rattle.ordinal_store.proofs.TrailLemmas.{failed_as}
use Rattle.ordinal_store.proofs.checking.sound_from.Goals as goal

pub overflow_mul-from : goal.overflow_mul-from
overflow_mul-from g c =
    let room : c.args.from * (c.SIZE-size.result + 4) + c.args.count * (c.SIZE-size.result + 4) ≤ size_of (shown c.args.buffer.now) =
    subst (λ (n : ℕ). c.args.from * (n + 4) + c.args.count * (n + 4) ≤ size_of (shown c.args.buffer.now)) (sym c.SIZE-size.ensures) c.requires.room in
    omega (arith, room, c.requires.fits)

pub overflow_mul-count : goal.overflow_mul-count
overflow_mul-count g c =
    let room : c.args.from * (c.SIZE-size.result + 4) + c.args.count * (c.SIZE-size.result + 4) ≤ size_of (shown c.args.buffer.now) =
    subst (λ (n : ℕ). c.args.from * (n + 4) + c.args.count * (n + 4) ≤ size_of (shown c.args.buffer.now)) (sym c.SIZE-size.ensures) c.requires.room in
    omega (arith, room, c.requires.fits)

pub read_part-requires : goal.read_part-requires
read_part-requires g c =
    let room : c.args.from * (c.SIZE-size.result + 4) + c.args.count * (c.SIZE-size.result + 4) ≤ size_of (shown c.args.buffer.now) =
    subst (λ (n : ℕ). c.args.from * (n + 4) + c.args.count * (n + 4) ≤ size_of (shown c.args.buffer.now)) (sym c.SIZE-size.ensures) c.requires.room in
    record { «open» = c.requires.ready.rested.is_open; room = room; fits = omega (arith, room, c.requires.fits) }

pub returns-in_err-piece : goal.returns-in_err-piece
returns-in_err-piece g c partition items =
    let key = blob_key (shown c.args.buffer.now) in
    sounding_failed g.D.Device.Tells (stored_by partition items g.A.CodecFixed.SIZE g.S.Seal.seal_of g.A.Codec.refusal) key (drop (c.args.from * (g.A.CodecFixed.SIZE + 4))) c.args.count (sight g.D.Device c.args.dev.now) (sight g.D.Device c.read_part.new.dev) c.read_part.ensures.unchanged (only_read_of key 1 (sight g.D.Device c.args.dev.now).opened (sight g.D.Device c.read_part.new.dev).opened c.read_part.ensures.reads) c.read_part.ensures.faults
    c.from_residual.result c.in_err-piece.field-0.0 c.from_residual.ensures.1 (failed_as c.in_err-piece.field-0.0 (sight g.D.Device c.args.dev.now) (sight g.D.Device c.args.dev.now) (sight g.D.Device c.read_part.new.dev) (omega arith) c.in_err-piece.ensures.cause)

pub returns : goal.returns
returns g c partition items =
    let u = c.args.buffer.now in
    let key = blob_key (shown u) in
    let content = bytes_of (shown u) (disk (g.D.Device.time c.args.dev.now) key).content in
    piece_read g.D.Device.Tells (stored_by partition items g.A.CodecFixed.SIZE g.S.Seal.seal_of g.A.Codec.refusal) u (sight g.D.Device c.args.dev.now) (sight g.D.Device c.read_part.new.dev) c.requires.ready c.args.from c.args.count c.requires.room c.read_part.ensures.unchanged (only_read_of key 1 (sight g.D.Device c.args.dev.now).opened (sight g.D.Device c.read_part.new.dev).opened c.read_part.ensures.reads) c.read_part.ensures.faults
    c.in_ok-piece.piece.items (λ t. c.in_ok-piece.ensures.bytes t ∙ ap (λ (n : ℕ). part_at content (c.args.from * (n + 4)) (c.args.count * (n + 4))) c.SIZE-size.ensures)
    c.sound_in.result (subst (λ (b : List ℕ). IfOk c.sound_in.result (AreSound (stored_by partition items g.A.CodecFixed.SIZE g.S.Seal.seal_of g.A.Codec.refusal) b c.args.count)) c.as_slice.ensures.value (c.sound_in.ensures.sound partition items)) c.sound_in.ensures.cause
