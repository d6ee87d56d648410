use Rattle.sealed_pages.specs.lemmas.memory.Held.{held_to}
use Rattle.sealed_pages.specs.lemmas.memory.Holding.{fit_size}
use Rattle.sealed_pages.specs.Buffer.{bytes_of}
use Rattle.std.proofs.Common.{rules, ◌≡◌, ◌≤◌, ◌<◌, ◌+◌, ◌-◌, ◌*◌, ◌++◌, ◌∙◌, ℕ, List, length, take, drop, length-take, length-drop, refl, ap, arith, false, Bool, Result, Ok, Err}
use Rattle.std.specs.Prelude.{OnOk}
use Rattle.std.specs.Result.{is_err}
use Rattle.sealed_pages.specs.Shown.{shown}
use Rattle.sealed_pages.specs.View.{view}
use Rattle.sealed_pages.proofs.memory.CacheLemmas.{full_whole}
use Rattle.sealed_pages.proofs.memory.HeldLemmas.{held_fits}
use Rattle.sealed_pages.proofs.looking.ReadLemmas.{read_whole, put_tail, prefix_of, none_taken, refused_range}
use Rattle.sealed_pages.proofs.page_blob.PageBlob.try_read_held.Goals as goal

in_range : {T E : Type 0} (r : Result T E) (b : Bool) {A : Type 0} → b ≡ is_err r → b ≡ false → OnOk r A → A
in_range (Ok v) b is ok_ a = a
in_range (Err e) b is ok_ a = absurd (cc (is, ok_))

pub copy_out-requires-clause-whole : goal.copy_out-requires-clause-whole
copy_out-requires-clause-whole g c = full_whole c.args.self.now.page_size c.args.self.now.first (shown c.args.self.now).cache c.args.self.now.full

pub returns-then-is_empty : goal.returns-then-is_empty
returns-then-is_empty g c =
    record {
      held = search rules;
      bytes = λ e content cache. let none : length c.args.buf.now ≡ 0 = search rules in none_taken c.args.buf.now (drop c.args.offset (bytes_of (shown c.args.self.now) content)) none;
      same = search rules;
    }

pub returns-then-is_err : goal.returns-then-is_err
returns-then-is_err g c =
    record {
      held = (
        λ e. absurd (cc e),
        λ held.
            let some : 0 < length c.args.buf.now = search rules in
            let fits = held_fits (shown c.args.self.now) c.args.offset (length c.args.buf.now) some held in
            absurd (refused_range c.check_range.result _ (c.args.offset + length c.args.buf.now) c.size.result c.is_err.ensures.value c.if-is_err.true c.check_range.ensures.cause c.check_range.ensures.overflow.0 c.check_range.ensures.short.0
            (omega (arith, fits, c.size.ensures)) (omega (arith, fits, fit_size _ _ _ _ c.args.self.now.fit))),
      );
      bytes = search rules;
      same = search rules;
    }

pub returns-then-not-has_below : goal.returns-then-not-has_below
returns-then-not-has_below g c =
    record {
      held = (λ e. absurd (cc e), λ held. absurd (cc (c.if-not-has_below.true, c.has_below.ensures.1 (held_to (shown c.args.self.now) c.args.offset (length c.args.buf.now) c.below_tip-below.result (omega (arith, c.args.self.now.fit.begun)) c.below_tip-below.ensures held))));
      bytes = λ e. absurd (cc e);
      same = λ e. refl;
    }

pub returns : goal.returns
returns g c =
    record {
      held = search rules;
      bytes = λ e content cache.
          let fits : c.args.offset + length c.args.buf.now ≤ c.size.result = in_range c.check_range.result _ c.is_err.ensures.value c.if-is_err.false c.check_range.ensures.fits in
          let wide : c.below_tip-below.result ≤ length c.args.buf.now = omega (arith, c.below_tip-below.ensures) in
          let long : length c.copy_out.new.out ≡ c.below_tip-below.result = search rules in
          let xs : List ℕ = c.copy_out.new.out ++ drop c.below_tip-below.result c.args.buf.now in
          let all : length (c.copy_out.new.out ++ drop c.below_tip-below.result c.args.buf.now) ≡ length c.args.buf.now = search rules in
          let rest : length c.copy_held.new.buf ≡ length (c.copy_out.new.out ++ drop c.below_tip-below.result c.args.buf.now) - c.below_tip-below.result = search rules in
          let prefix : take c.below_tip-below.result (c.copy_out.new.out ++ drop c.below_tip-below.result c.args.buf.now) ≡ c.copy_out.new.out = prefix_of c.below_tip-below.result c.copy_out.new.out (drop c.below_tip-below.result c.args.buf.now) long in
          put_tail c.below_tip-below.result (c.copy_out.new.out ++ drop c.below_tip-below.result c.args.buf.now) c.copy_held.new.buf (omega (arith, wide, all)) rest
          ∙ ap (λ (l : List ℕ). l ++ c.copy_held.new.buf) prefix
          ∙ read_whole c.args.self.now.page_size c.args.self.now.first c.args.offset (length c.args.buf.now) c.below_tip-below.result (view content) c.args.self.now.tip.items c.copy_out.new.out c.copy_held.new.buf
          c.below_tip-below.ensures (omega (arith, fits, c.size.ensures)) long
          (λ i lt. c.copy_out.ensures g.S.Seal.seal_of content (cache (omega (arith, lt, c.below_tip-below.ensures))) i (omega (arith, lt, long, c.copy_out.auto.out)))
          (c.copy_held.ensures ∙ (let e : length (take (length (c.copy_out.new.out ++ drop c.below_tip-below.result c.args.buf.now) - c.below_tip-below.result) (drop c.below_tip-below.result (c.copy_out.new.out ++ drop c.below_tip-below.result c.args.buf.now))) ≡ length c.args.buf.now - c.below_tip-below.result
          = omega (arith, length-take (length (c.copy_out.new.out ++ drop c.below_tip-below.result c.args.buf.now) - c.below_tip-below.result) (drop c.below_tip-below.result (c.copy_out.new.out ++ drop c.below_tip-below.result c.args.buf.now)), length-drop c.below_tip-below.result (c.copy_out.new.out ++ drop c.below_tip-below.result c.args.buf.now), all) in
          ap (λ (n : ℕ). take n (drop (c.args.offset + c.below_tip-below.result - c.args.self.now.first * c.args.self.now.page_size) c.args.self.now.tip.items)) e));
      same = λ e. absurd (cc e);
    }
