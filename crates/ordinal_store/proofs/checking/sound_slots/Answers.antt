use Rattle.std.proofs.Common.{◌+◌, [], arith}
use Rattle.sealed_pages.specs.unsealed.Writing.{blob_key, shown, size_of}
use Rattle.ordinal_store.specs.Slots.{stored_by}
use Rattle.ordinal_store.specs.Stores.{sight}
use Rattle.ordinal_store.proofs.SoundLemmas.{piece_room, ready_on, sounded_end, sounded_failed, sounded_on, sounded_start, sounded_stop}
use Rattle.ordinal_store.proofs.checking.sound_slots.Goals as goal

pub loop-sound-init : goal.loop-sound-init
loop-sound-init g c = record {
  slots = omega arith;
  far = λ partition items. sounded_start g.D.Device.Tells (stored_by partition items g.A.CodecFixed.SIZE g.S.Seal.seal_of g.A.Codec.refusal) (blob_key (shown c.args.buffer.now)) c.args.count (sight g.D.Device c.args.dev.now);
}

pub sound_from-requires : goal.sound_from-requires
sound_from-requires g c =
    let u = c.args.buffer.now in
    let far = c.loop-sound.invariant.far [] 0 in
    record {
      ready = ready_on g.D.Device.Tells (blob_key (shown u)) u.capacity u (sight g.D.Device c.args.dev.now) (sight g.D.Device c.loop-sound.dev) c.requires.ready far.unchanged far.entries;
      fits = c.requires.fits;
      room = piece_room c.loop-sound.sound c.min-more.result c.args.count (g.A.CodecFixed.SIZE + 4) (size_of (shown u)) (omega (arith, far.within, c.min-more.ensures, c.loop-sound-test.true)) c.requires.room;
    }

pub overflow_add-sound : goal.overflow_add-sound
overflow_add-sound g c = omega (arith, (c.loop-sound.invariant.far [] 0).within, c.min-more.ensures, c.loop-sound-test.true, (c.in_ok-held.ensures [] 0).within, c.ranges.count.fits)

pub returns-in_err-held : goal.returns-in_err-held
returns-in_err-held g c partition items =
    sounded_failed g.D.Device.Tells (stored_by partition items g.A.CodecFixed.SIZE g.S.Seal.seal_of g.A.Codec.refusal) (blob_key (shown c.args.buffer.now)) c.args.count c.loop-sound.sound (sight g.D.Device c.args.dev.now) (sight g.D.Device c.loop-sound.dev) (c.loop-sound.invariant.far partition items) c.min-more.result (omega (arith, (c.loop-sound.invariant.far partition items).within, c.min-more.ensures, c.loop-sound-test.true)) (sight g.D.Device c.sound_from.new.dev)
    c.from_residual.result c.in_err-held.field-0.0 c.from_residual.ensures.1 (c.in_err-held.ensures partition items)

pub returns-then-held-more : goal.returns-then-held-more
returns-then-held-more g c partition items =
    sounded_stop g.D.Device.Tells (stored_by partition items g.A.CodecFixed.SIZE g.S.Seal.seal_of g.A.Codec.refusal) (blob_key (shown c.args.buffer.now)) c.args.count c.loop-sound.sound (sight g.D.Device c.args.dev.now) (sight g.D.Device c.loop-sound.dev) (c.loop-sound.invariant.far partition items) c.min-more.result (omega (arith, (c.loop-sound.invariant.far partition items).within, c.min-more.ensures, c.loop-sound-test.true)) (sight g.D.Device c.sound_from.new.dev)
    c.in_ok-held.held (c.in_ok-held.ensures partition items) c.if-held-more.true

pub loop-sound-preserved : goal.loop-sound-preserved
loop-sound-preserved g c = record {
  slots = c.loop-sound.invariant.slots;
  far = λ partition items. (let l = stored_by partition items g.A.CodecFixed.SIZE g.S.Seal.seal_of g.A.Codec.refusal in
      let key = blob_key (shown c.args.buffer.now) in
      let old = sight g.D.Device c.args.dev.now in
      let mid = sight g.D.Device c.loop-sound.dev in
      let new = sight g.D.Device c.sound_from.new.dev in
      let far = c.loop-sound.invariant.far partition items in
      sounded_on g.D.Device.Tells l key c.args.count c.loop-sound.sound old mid far c.min-more.result (omega (arith, far.within, c.min-more.ensures, c.loop-sound-test.true)) new
      c.in_ok-held.held (c.in_ok-held.ensures partition items) c.if-held-more.false);
}

pub loop-sound-smaller : goal.loop-sound-smaller
loop-sound-smaller g c = omega (arith, c.min-more.ensures, c.loop-sound-test.true, c.if-held-more.false, c.loop-sound.invariant.slots)

pub returns : goal.returns
returns g c partition items =
    sounded_end g.D.Device.Tells (stored_by partition items g.A.CodecFixed.SIZE g.S.Seal.seal_of g.A.Codec.refusal) (blob_key (shown c.args.buffer.now)) c.args.count c.loop-sound.sound (sight g.D.Device c.args.dev.now) (sight g.D.Device c.loop-sound.dev)
    (c.loop-sound.invariant.far partition items) c.loop-sound-test.false
