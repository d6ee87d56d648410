use Rattle.std.proofs.Common.{◌≡◌, ◌∙◌, ◌+◌, ◌++◌, ◌∷◌, ◌%◌, [], ℕ, length, ap, arith, rules}
use Rattle.blob_device.specs.Picked.{free_below, mixed_byte, mixed_length}
use Rattle.blob_device.proofs.MixedLemmas.{free_none, number_more, bytes_more}
use Rattle.blob_device.proofs.memory.history.History.mixed.Goals as goal

pub loop-i-init : goal.loop-i-init
loop-i-init c =
    let none : c.new-bytes.result.items ≡ [] = search rules in
    record {
      small = c.requires;
      size = ap length none;
      number = λ b n is e. e ∙ ap (λ (x : ℕ). x % 64) (let same : n ≡ n + free_below b 0 = omega (arith, free_none b) in same);
      each = λ b n is e j lt. absurd (omega arith);
    }

pub loop-i-preserved : goal.loop-i-preserved
loop-i-preserved c =
    let i = c.loop-i.i in
    let pushed : c.push.new.self.items ≡ c.loop-i.bytes.items ++ c.mixed_byte.result ∷ [] = search rules in
    record {
      small = c.number_after-number.ensures.small;
      size = omega (arith, c.loop-i.invariant.size, c.push.new.self.ok.0, c.in_ok-push.ensures.len, c.loop-i.bytes.ok.0);
      number = λ b n is e. number_more b n i c.loop-i.number c.number_after-number.result c.is_free.result (c.loop-i.invariant.number b n is e) (c.is_free.ensures b is) c.number_after-number.ensures.next;
      each = λ b n is e. bytes_more (mixed_byte c.args.bits n b) c.loop-i.bytes.items c.push.new.self.items c.mixed_byte.result i pushed c.loop-i.invariant.size (c.mixed_byte.ensures b n is (c.loop-i.invariant.number b n is e)) (c.loop-i.invariant.each b n is e);
    }

pub returns-clause-next : goal.returns-clause-next
returns-clause-next c b n is e =
    let end : c.loop-i.i ≡ mixed_length c.args.bits b = omega (arith, c.mixed_length-i-end.ensures b is, c.loop-i-test.false, c.loop-i.auto.i-end) in
    c.loop-i.invariant.number b n is e ∙ ap (λ (k : ℕ). (n + free_below b k) % 64) end
