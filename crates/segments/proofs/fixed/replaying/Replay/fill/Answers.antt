-- What the reader answers: so many items are at hand, or the section is at its end, or a page is damaged.
use Rattle.std.specs.Prelude.{◌≡◌, ℕ, ◌*◌, None, Err}
use Rattle.std.specs.Option.{option_map}
use Rattle.std.proofs.Common.{refl, sym, ◌∙◌, ap, arith}
use Rattle.blob_device.specs.Timeline.{disk}
use Rattle.blob_device.specs.declared.runtime.RError.TheVariants.{InvalidChecksum}
use Rattle.sealed_pages.specs.Readers.{reading}
use Rattle.segments.specs.FixedWalking.{walk_of, place_of}
use Rattle.segments.specs.lemmas.FixedErrors.{runtime_of}
use Rattle.segments.proofs.replay.ErrorSteps.{raised_cut}
use Rattle.segments.proofs.replay.Filling.{page_alone, none_some}
use Rattle.segments.proofs.replay.Fills.{place_open, fills_read, fills_owed, fills_free, fills_failed}
use Rattle.segments.proofs.fixed.replaying.Replay.fill.Goals as goal

pub ensure-requires : goal.ensure-requires
ensure-requires g c =
    place_open g.S.Seal.seal_of g.A.CodecFixed.SIZE _ _ (walk_of c.args.self.now) (place_of c.in-Some.reading) (ap (option_map place_of) (sym c.take.ensures.value ∙ c.in-Some.is)) _ (disk (g.D.Device.time c.args.dev.now)) c.requires.over (λ u. refl)

pub returns-in_default : goal.returns-in_default
returns-in_default g c x at =
    let none : c.args.self.now.reading ≡ None = cc in
    absurd (none_some (sym (ap (option_map place_of) none) ∙ at))

pub returns-in-Ok : goal.returns-in-Ok
returns-in-Ok g c x at =
    fills_read g.S.Seal.seal_of g.A.CodecFixed.SIZE _ _ g.D.Device (λ u b stands. stands.adopted) g.met.A.CodecFixed.fixed.at_least (walk_of c.args.self.now) (place_of c.in-Some.reading) x (ap (option_map place_of) (sym c.take.ensures.value ∙ c.in-Some.is)) at c.args.dev.now c.ensure.new.dev c.requires.over c.args.count _ (ap (λ (m : ℕ). c.args.count * m) c.SIZE.ensures) (reading c.ensure.new.self) c.ensure.result c.ensure.ensures c.in-Ok.enough c.in-Ok.is

pub returns-then-not-owes : goal.returns-then-not-owes
returns-then-not-owes g c x at =
    let k = c.in-InvalidChecksum.page in
    let is : c.ensure.result ≡ Err (InvalidChecksum c.in-InvalidChecksum.page) = (let at = c.in-Err.is in let same = c.in-InvalidChecksum.is in cc (at, same)) in
    fills_free g.S.Seal.seal_of g.A.CodecFixed.SIZE _ _ g.D.Device (λ u b stands. stands.adopted) g.met.A.CodecFixed.fixed.at_least (walk_of c.args.self.now) (place_of c.in-Some.reading) x (ap (option_map place_of) (sym c.take.ensures.value ∙ c.in-Some.is)) at c.args.dev.now c.ensure.new.dev c.requires.over c.args.count _ (ap (λ (m : ℕ). c.args.count * m) c.SIZE.ensures) (reading c.ensure.new.self) c.ensure.result c.ensure.ensures k is
    _ (λ i. record (walk_of c.args.self.now) { place = option_map place_of (sym c.take.ensures.after i) }) (let owes = c.owes.ensures in let not = c.if-not-owes.true in cc (owes, not))

pub returns-else-not-owes : goal.returns-else-not-owes
returns-else-not-owes g c x at =
    fills_owed g.S.Seal.seal_of g.A.CodecFixed.SIZE _ _ g.D.Device (λ u b stands. stands.adopted) g.met.A.CodecFixed.fixed.at_least (walk_of c.args.self.now) (place_of c.in-Some.reading) x (ap (option_map place_of) (sym c.take.ensures.value ∙ c.in-Some.is)) at c.args.dev.now c.ensure.new.dev c.requires.over c.args.count _ (ap (λ (m : ℕ). c.args.count * m) c.SIZE.ensures) (reading c.ensure.new.self) c.ensure.result c.ensure.ensures c.in-InvalidChecksum.page (let at = c.in-Err.is in let same = c.in-InvalidChecksum.is in cc (at, same)) (let owes = c.owes.ensures in let yes = c.if-not-owes.false in cc (owes, yes))

pub returns-in_default-e : goal.returns-in_default-e
returns-in_default-e g c x at =
    fills_failed g.S.Seal.seal_of g.A.CodecFixed.SIZE _ _ g.D.Device (λ u b stands. stands.adopted) g.met.A.CodecFixed.fixed.at_least (walk_of c.args.self.now) (place_of c.in-Some.reading) x (ap (option_map place_of) (sym c.take.ensures.value ∙ c.in-Some.is)) at c.args.dev.now c.ensure.new.dev c.requires.over c.args.count _ (ap (λ (m : ℕ). c.args.count * m) c.SIZE.ensures) (reading c.ensure.new.self) c.ensure.result c.ensure.ensures
    _ (λ i. record (walk_of c.args.self.now) { place = option_map place_of (sym c.take.ensures.after i) }) c.in-Err.e c.from.result c.in-Err.is (raised_cut c.in-Err.e c.from.result c.from.ensures _ _ _ (omega arith) (page_alone c.in-Err.e c.in-Err.ensures.cause))
    (λ k page. c.in_default-e.not-InvalidChecksum k (runtime_of c.in-Err.e (InvalidChecksum k) (sym c.from.ensures ∙ page)))
