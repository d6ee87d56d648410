use Rattle.std.proofs.Common.{◌+◌, ◌*◌, ◌/◌, ◌≤◌, ℕ, sym, ap, ◌∙◌, subst, arith}
use Rattle.std.specs.Prelude.{string_bytes, None, Err}
use Rattle.std.proofs.Math.Nat.{div-mul-le_self}
use Rattle.sealed_pages.specs.unsealed.Writing.{blob_key, shown, size_of}
use Rattle.ordinal_store.specs.Reopening.{Checking}
use Rattle.ordinal_store.specs.Slots.{stored_by}
use Rattle.ordinal_store.specs.Stores.{sight}
use Rattle.ordinal_store.specs.declared.ordinal.Error.TheVariants.{InvalidRecord}
use Rattle.ordinal_store.proofs.CheckLemmas.{full_failed, full_long, full_missing, full_whole}
use Rattle.ordinal_store.proofs.store.Ordinal.check_full.Goals as goal

pub sound_slots-requires : goal.sound_slots-requires
sound_slots-requires g c =
    let n = size_of (shown c.args.buffer.now) in
    let k = g.A.CodecFixed.SIZE + 4 in
    record {
      ready = c.requires.ready;
      fits = omega (arith, c.size.ensures, c.size.type_inv);
      room = subst (λ (w : ℕ). c.size.result / (w + 4) * k ≤ n) (sym c.SIZE.ensures) (subst (λ (m : ℕ). m / k * k ≤ n) (sym c.size.ensures) (div-mul-le_self n k));
    }

pub returns-then-count-self : goal.returns-then-count-self
returns-then-count-self g c =
    let l = stored_by (string_bytes c.args.self.now.partition) c.args.self.now.items g.A.CodecFixed.SIZE g.S.Seal.seal_of g.A.Codec.refusal in
    subst (λ (n : ℕ). Checking g.D.Device.Tells l c.args.section None (blob_key (shown c.args.buffer.now)) c.args.buffer.now (Err (InvalidRecord n)) (sight g.D.Device c.args.dev.now) (sight g.D.Device c.args.dev.now)) (sym c.saturating_add.ensures)
    (full_long g.D.Device.Tells l c.args.section c.args.buffer.now (sight g.D.Device c.args.dev.now) c.requires.ready (c.size.result / (c.SIZE.result + 4)) (ap (λ (n : ℕ). n / (c.SIZE.result + 4)) c.size.ensures ∙ ap (λ (n : ℕ). size_of (shown c.args.buffer.now) / (n + 4)) c.SIZE.ensures) c.if-count-self.true)

pub returns-in_err-sound : goal.returns-in_err-sound
returns-in_err-sound g c =
    full_failed g.D.Device.Tells (stored_by (string_bytes c.args.self.now.partition) c.args.self.now.items g.A.CodecFixed.SIZE g.S.Seal.seal_of g.A.Codec.refusal) c.args.section c.args.buffer.now (sight g.D.Device c.args.dev.now) c.requires.ready (c.size.result / (c.SIZE.result + 4)) (ap (λ (n : ℕ). n / (c.SIZE.result + 4)) c.size.ensures ∙ ap (λ (n : ℕ). size_of (shown c.args.buffer.now) / (n + 4)) c.SIZE.ensures) c.if-count-self.false (sight g.D.Device c.sound_slots.new.dev) c.from_residual.result c.in_err-sound.field-0.0 c.from_residual.ensures.1 (c.in_err-sound.ensures (string_bytes c.args.self.now.partition) c.args.self.now.items)

pub returns-then-sound-self : goal.returns-then-sound-self
returns-then-sound-self g c =
    full_missing g.D.Device.Tells (stored_by (string_bytes c.args.self.now.partition) c.args.self.now.items g.A.CodecFixed.SIZE g.S.Seal.seal_of g.A.Codec.refusal) c.args.section c.args.buffer.now (sight g.D.Device c.args.dev.now) c.requires.ready (c.size.result / (c.SIZE.result + 4)) (ap (λ (n : ℕ). n / (c.SIZE.result + 4)) c.size.ensures ∙ ap (λ (n : ℕ). size_of (shown c.args.buffer.now) / (n + 4)) c.SIZE.ensures) c.if-count-self.false (sight g.D.Device c.sound_slots.new.dev) c.in_ok-sound.sound (c.in_ok-sound.ensures (string_bytes c.args.self.now.partition) c.args.self.now.items) c.if-sound-self.true

pub returns : goal.returns
returns g c =
    full_whole g.D.Device.Tells (stored_by (string_bytes c.args.self.now.partition) c.args.self.now.items g.A.CodecFixed.SIZE g.S.Seal.seal_of g.A.Codec.refusal) c.args.section c.args.buffer.now (sight g.D.Device c.args.dev.now) c.requires.ready (c.size.result / (c.SIZE.result + 4)) (ap (λ (n : ℕ). n / (c.SIZE.result + 4)) c.size.ensures ∙ ap (λ (n : ℕ). size_of (shown c.args.buffer.now) / (n + 4)) c.SIZE.ensures) c.if-count-self.false (sight g.D.Device c.sound_slots.new.dev) c.in_ok-sound.sound (c.in_ok-sound.ensures (string_bytes c.args.self.now.partition) c.args.self.now.items) c.if-sound-self.false
