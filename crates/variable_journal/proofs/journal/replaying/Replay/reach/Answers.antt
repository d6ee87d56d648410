-- The section is too short, or its bytes are filled in.
use Rattle.std.specs.Prelude.{◌≡◌, Option, Some, IfSome}
use Rattle.std.proofs.Common.{refl, subst, arith}
use Rattle.segments.specs.FixedReplay.{Place}
use Rattle.segments.specs.FixedWalking as bytes
use Rattle.variable_journal.specs.Walking.{walk_of}
use Rattle.variable_journal.proofs.LookingLemmas.{enough_filled, hand_filled, kept_most, looks_filled, looks_start, match_at, place_most, short_filled, some_and, still_filled, there_filled}
use Rattle.variable_journal.proofs.journal.replaying.Replay.reach.Goals as goal
use Rattle.blob_device.proofs.general.Options.{some_of}

if_at : {A : Type 0} (o : Option A) (v : A) (P : A → Type 0) → o ≡ Some v → IfSome o P → P v
if_at {A = A} o v P is has = subst (λ (x : Option A). IfSome x P) is has

pub overflow_sub-size : goal.overflow_sub-size
overflow_sub-size g c =
    let r = some_of (walk_of c.args.self.now).place c.requires.look.stands in
    let at = if_at (walk_of c.args.self.now).place r.0 (λ (p : Place). p.position ≡ c.args.offset) r.1 c.requires.at in
    let size = match_at (walk_of c.args.self.now).place r.0 _ (λ (p : Place). c.size.result ≡ p.reader.size) r.1 c.size.ensures in
    omega (arith, at, size, place_most _ _ g.S.Seal.seal_of g.D.Device (walk_of c.args.self.now) r.0 r.1 (λ u b stands. stands.adopted) c.args.dev.now c.requires.look.over)

pub returns-then-size-offset-clause-reached : goal.returns-then-size-offset-clause-reached
returns-then-size-offset-clause-reached g c r is =
    let at = if_at (walk_of c.args.self.now).place r (λ (p : Place). p.position ≡ c.args.offset) is c.requires.at in
    let size = match_at (walk_of c.args.self.now).place r _ (λ (p : Place). c.size.result ≡ p.reader.size) is c.size.ensures in
    record {
      looks = looks_start _ _ g.S.Seal.seal_of g.D.Device (walk_of c.args.self.now) r is _ c.args.dev.now c.requires.look.over;
      still = some_and (walk_of c.args.self.now).place (λ (p : Place). p.position ≡ r.position) r is refl;
      hand = λ no. absurd (cc no);
      bytes = λ t no. absurd (cc no);
      enough = λ t no. absurd (cc no);
      short = λ t _. omega (
        arith,
        at,
        size,
        c.if-size-offset.true,
        place_most _ _ g.S.Seal.seal_of g.D.Device (walk_of c.args.self.now) r is (λ u b stands. stands.adopted) c.args.dev.now c.requires.look.over,
        kept_most _ _ g.S.Seal.seal_of g.D.Device (walk_of c.args.self.now) r is (λ u b stands. stands.adopted) c.args.dev.now c.requires.look.over t,
      );
    }

pub returns-clause-reached : goal.returns-clause-reached
returns-clause-reached g c r is =
    let start = looks_start _ _ g.S.Seal.seal_of g.D.Device (walk_of c.args.self.now) r is tt c.args.dev.now c.requires.look.over in
    let fill = c.fill.ensures r is in
    record {
      looks = looks_filled _ _ g.S.Seal.seal_of g.D.Device (walk_of c.args.self.now) r is (walk_of c.args.self.now) (bytes.walk_of c.fill.new.self) r c.args.dev.now c.args.dev.now c.fill.new.dev start is refl c.requires.look.free c.args.count c.fill.result fill;
      still = still_filled _ _ g.S.Seal.seal_of g.D.Device (walk_of c.args.self.now) r is (walk_of c.args.self.now) (bytes.walk_of c.fill.new.self) r c.args.dev.now c.args.dev.now c.fill.new.dev start is refl c.requires.look.free c.args.count c.fill.result fill;
      hand = hand_filled _ _ g.S.Seal.seal_of g.D.Device (walk_of c.args.self.now) r is (walk_of c.args.self.now) (bytes.walk_of c.fill.new.self) r c.args.dev.now c.args.dev.now c.fill.new.dev start is refl c.requires.look.free c.args.count c.fill.result fill;
      bytes = there_filled _ _ g.S.Seal.seal_of g.D.Device (walk_of c.args.self.now) r is (walk_of c.args.self.now) (bytes.walk_of c.fill.new.self) r c.args.dev.now c.args.dev.now c.fill.new.dev start is refl c.requires.look.free c.args.count c.fill.result fill;
      enough = enough_filled _ _ g.S.Seal.seal_of g.D.Device (walk_of c.args.self.now) r is (walk_of c.args.self.now) (bytes.walk_of c.fill.new.self) r c.args.dev.now c.args.dev.now c.fill.new.dev start is refl c.requires.look.free c.args.count c.fill.result fill;
      short = short_filled _ _ g.S.Seal.seal_of g.D.Device (walk_of c.args.self.now) r is (walk_of c.args.self.now) (bytes.walk_of c.fill.new.self) r c.args.dev.now c.args.dev.now c.fill.new.dev start is refl c.requires.look.free c.args.count c.fill.result fill;
    }
