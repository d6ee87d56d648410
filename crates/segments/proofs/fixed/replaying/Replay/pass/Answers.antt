-- The place is behind the items.
use Rattle.std.specs.Prelude.{◌≡◌, ℕ, ◌+◌, ◌*◌, drop, Some}
use Rattle.std.specs.Option.{option_map}
use Rattle.std.proofs.Common.{◌∙◌, ap, arith, length-drop}
use Rattle.sealed_pages.specs.Readers.{reading}
use Rattle.segments.specs.FixedCursor.{after_items}
use Rattle.segments.specs.FixedReplay.{Place}
use Rattle.segments.specs.FixedWalking.{walk_of, place_of}
use Rattle.segments.proofs.replay.Advancing.{pass_fits, pass_goes, pass_walk, pass_walks}
use Rattle.segments.proofs.fixed.replaying.Replay.pass.Goals as goal

pub overflow_add-reading : goal.overflow_add-reading
overflow_add-reading g c =
    let was : c.args.self.now.reading ≡ Some c.in-Some.reading = cc in
    let fits = pass_fits g.S.Seal.seal_of g.A.CodecFixed.SIZE (walk_of c.args.self.now) (place_of c.in-Some.reading) (ap (option_map place_of) was) c.args.count c.requires.at_hand
    (omega (arith, c.in-Some.reading.reader.inside, length-drop c.in-Some.reading.reader.used c.in-Some.reading.reader.held.items)) c.requires.walk g.met.A.CodecFixed.fixed.at_least in
    omega (arith, fits)

pub returns : goal.returns
returns g c =
    let old = walk_of c.args.self.now in
    let r = place_of c.in-Some.reading in
    let is : c.args.self.now.reading ≡ Some c.in-Some.reading = cc in
    let at : old.place ≡ Some r = ap (option_map place_of) is in
    let moved : reading c.advance.new.self ≡ (after_items g.A.CodecFixed.SIZE c.args.count r).reader = c.advance.ensures.goes
    ∙ ap (λ (n : ℕ). record r.reader { at = r.reader.at + n; bytes = drop n r.reader.bytes }) (ap (λ (m : ℕ). c.args.count * m) c.SIZE.ensures) in
    let now : Place = record { section = r.section; position = r.position + c.args.count; reader = reading c.advance.new.self } in
    let on : now ≡ after_items g.A.CodecFixed.SIZE c.args.count r = λ i. record { section = r.section; position = r.position + c.args.count; reader = moved i } in
    record {
      goes = pass_goes g.S.Seal.seal_of g.A.CodecFixed.SIZE old r at c.args.count c.requires.at_hand now on;
      walk = pass_walk g.S.Seal.seal_of g.A.CodecFixed.SIZE old r at c.args.count c.requires.at_hand now on (omega (arith, c.in-Some.reading.reader.inside, length-drop c.in-Some.reading.reader.used c.in-Some.reading.reader.held.items));
      walks = pass_walks g.S.Seal.seal_of g.A.CodecFixed.SIZE old r at c.args.count c.requires.at_hand now on;
    }
