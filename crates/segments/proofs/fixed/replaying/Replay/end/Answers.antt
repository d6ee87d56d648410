-- The section is left as it is, unless there is something to be cut off.
use Rattle.std.specs.Prelude.{◌≡◌, Bool, false, IsTrue, Some, None, Err, IfSome}
use Rattle.std.specs.Option.{option_map}
use Rattle.std.proofs.Common.{refl, sym, ◌∙◌, ap, arith}
use Rattle.std.proofs.lemmas.Result.{err_from_is_err_and}
use Rattle.section_manager.specs.declared.journal.Error.TheVariants.{ItemOutOfRange}
use Rattle.segments.specs.FixedReplay.{Place, Walk}
use Rattle.segments.specs.FixedWalking.{walk_of, place_of}
use Rattle.segments.proofs.replay.Filling.{none_some}
use Rattle.segments.proofs.replay.Fills.{back, there, place_small, ends_cut, ends_refused, ends_whole}
use Rattle.segments.proofs.replay.Going.{ends_as, if_some_at}
use Rattle.segments.proofs.replay.Opening.{first_here}
use Rattle.segments.proofs.fixed.replaying.Replay.end.Goals as goal
use Rattle.blob_device.proofs.general.Options.{some_same}

false_true : (b : Bool) → b ≡ false → IsTrue b → ⊥
false_true b off on = cc (off, on)

-- what holds of the place where the replay stands
last_here : {F B Told : Type 0} (P : Place → Type 0) (w : Walk F B) (r : Place) → w.place ≡ Some r → (Told → IfSome w.place P) → Told → P r
last_here P w r at last t = if_some_at w.place r P at (last t)

pub is_torn-requires : goal.is_torn-requires
is_torn-requires g c = omega (arith, place_small g.S.Seal.seal_of g.A.CodecFixed.SIZE _ _ (walk_of c.args.self.now) (place_of c.in-Some.reading) (ap (option_map place_of) (sym c.take.ensures.value ∙ c.in-Some.is)) _ _ c.requires.over)

pub end_cut-requires-clause-over : goal.end_cut-requires-clause-over
end_cut-requires-clause-over g c = there g.S.Seal.seal_of g.A.CodecFixed.SIZE _ _ (walk_of c.args.self.now) (place_of c.in-Some.reading) (ap (option_map place_of) (sym c.take.ensures.value ∙ c.in-Some.is)) _ _ c.requires.over

pub end_cut-requires-clause-going : goal.end_cut-requires-clause-going
end_cut-requires-clause-going g c = c.requires.going

pub end_cut-requires-clause-between : goal.end_cut-requires-clause-between
end_cut-requires-clause-between g c = ap (option_map place_of) c.take.ensures.after

pub end_cut-requires-clause-owed : goal.end_cut-requires-clause-owed
end_cut-requires-clause-owed g c = (c.is_torn.ensures.0 c.if-is_torn.true).0

pub end_cut-requires-clause-last : goal.end_cut-requires-clause-last
end_cut-requires-clause-last g c t =
    ends_cut g.S.Seal.seal_of g.A.CodecFixed.SIZE _ _ g.A.Codec.spelling g.A.Codec.accepted g.A.Codec.refusal (λ u b stands. stands.adopted) g.met.A.CodecFixed.fixed.at_least (walk_of c.args.self.now) (place_of c.in-Some.reading) (place_of c.in-Some.reading) (ap (option_map place_of) (sym c.take.ensures.value ∙ c.in-Some.is)) (ap (option_map place_of) (sym c.take.ensures.value ∙ c.in-Some.is)) _ (g.D.Device.time c.args.dev.now) (g.D.Device.faults c.args.dev.now) c.requires.over (last_here _ (walk_of c.args.self.now) (place_of c.in-Some.reading) (ap (option_map place_of) (sym c.take.ensures.value ∙ c.in-Some.is)) c.requires.last) (omega (arith, (c.is_torn.ensures.0 c.if-is_torn.true).1)) t

pub returns-in_default : goal.returns-in_default
returns-in_default g c x at =
    let none : c.args.self.now.reading ≡ None = cc in
    absurd (none_some (sym (ap (option_map place_of) none) ∙ at))

pub returns-then-is_torn : goal.returns-then-is_torn
returns-then-is_torn g c x at =
    ends_as g.S.Seal.seal_of g.A.CodecFixed.SIZE _ _ g.A.Codec.spelling g.A.Codec.accepted g.A.Codec.refusal g.D.Device.Tells _ _ (walk_of c.args.self.now) _ _ _ _ _ _ _ _ (place_of c.in-Some.reading) x (some_same (place_of c.in-Some.reading) x (sym (ap (option_map place_of) (sym c.take.ensures.value ∙ c.in-Some.is)) ∙ at))
    (back g.S.Seal.seal_of g.A.CodecFixed.SIZE _ _ (walk_of c.args.self.now) (place_of c.in-Some.reading) (ap (option_map place_of) (sym c.take.ensures.value ∙ c.in-Some.is)) _ _ c.requires.over) refl c.end_cut.ensures

pub returns-in_err-check_start : goal.returns-in_err-check_start
returns-in_err-check_start g c x at =
    let p = err_from_is_err_and c.from_residual.result c.from_residual.ensures.1 in
    let refused = c.in_err-check_start.ensures.cause in
    let fewer = c.in_err-check_start.ensures.fewer (walk_of c.args.self.now).start_position refused in
    let is : c.from_residual.result ≡ Err (ItemOutOfRange (walk_of c.args.self.now).start_position) = (let at = p.1 in let same = p.2 in cc (at, same, refused)) in
    rw is (ends_refused g.S.Seal.seal_of g.A.CodecFixed.SIZE _ _ g.A.Codec.spelling g.A.Codec.accepted g.A.Codec.refusal (λ u b stands. stands.adopted) g.met.A.CodecFixed.fixed.at_least (walk_of c.args.self.now) (place_of c.in-Some.reading) x (ap (option_map place_of) (sym c.take.ensures.value ∙ c.in-Some.is)) at _ (g.D.Device.time c.args.dev.now) _ c.requires.over (last_here _ (walk_of c.args.self.now) (place_of c.in-Some.reading) (ap (option_map place_of) (sym c.take.ensures.value ∙ c.in-Some.is)) c.requires.last) (λ owed more. false_true c.is_torn.result c.if-is_torn.false (c.is_torn.ensures.1 (owed, more)))
    _ (λ i. record (walk_of c.args.self.now) { place = option_map place_of (sym c.take.ensures.after i) }) fewer.0 (omega (arith, fewer.2)))

pub returns : goal.returns
returns g c x at =
    ends_whole g.S.Seal.seal_of g.A.CodecFixed.SIZE _ _ g.A.Codec.spelling g.A.Codec.accepted g.A.Codec.refusal (λ u b stands. stands.adopted) g.met.A.CodecFixed.fixed.at_least (walk_of c.args.self.now) (place_of c.in-Some.reading) x (ap (option_map place_of) (sym c.take.ensures.value ∙ c.in-Some.is)) at _ (g.D.Device.time c.args.dev.now) _ c.requires.over (last_here _ (walk_of c.args.self.now) (place_of c.in-Some.reading) (ap (option_map place_of) (sym c.take.ensures.value ∙ c.in-Some.is)) c.requires.last) (λ owed more. false_true c.is_torn.result c.if-is_torn.false (c.is_torn.ensures.1 (owed, more)))
    _ (λ i. record (walk_of c.args.self.now) { place = option_map place_of (sym c.take.ensures.after i) })
    (λ start. omega (arith, c.in_ok-check_start.ensures.ok, first_here (walk_of c.args.self.now) (place_of c.in-Some.reading).section start))
