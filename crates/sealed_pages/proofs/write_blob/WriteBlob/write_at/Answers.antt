use Rattle.std.proofs.lemmas.Grind.{common_steps}
use Rattle.std.proofs.Common.{rules, arith, inl, inr, ◌∙◌, ◌≡◌, [], length, Err, refl, ap}
use Rattle.blob_device.specs.declared.runtime.RError.TheVariants.{OffsetOverflow}
use Rattle.sealed_pages.specs.unsealed.Writing.{WriteBuffer, shown, blob_key}
use Rattle.sealed_pages.specs.lemmas.Entries.{no_reads_start, open_some}
use Rattle.sealed_pages.proofs.unsealed.Put.{PutBy, put_none, put_lasts, put_kept, put_moved, put_settled, put_is, put_only, put_leaves, flush_leaves, not_below, unmoved, put_flushed, flushed_is, put_failed}
use Rattle.sealed_pages.proofs.write_blob.WriteBlob.write_at.Given as given
use Rattle.sealed_pages.proofs.write_blob.WriteBlob.write_at.Goals as goal
use Rattle.sealed_pages.proofs.write_blob.WriteBlob.write_at.Goals.{After-moved, After-len, After-flushed}

-- what has been done to the blob by the end of each call
by_move : (g : given.Over) (c : After-moved g) → g.D.Device.Tells → PutBy (shown c.args.self) c.args.offset c.args.bytes.now (g.D.Device.time c.args.dev.now) (g.D.Device.time c.moved.new.dev)
by_move g c t = put_moved g.D.Device (shown c.args.self) c.args.offset c.args.bytes.now c.args.dev.now c.moved.new.dev shown c.moved.result t c.moved.ensures

by_flush : (g : given.Over) (c : After-flushed g) → g.D.Device.Tells → PutBy (shown c.args.self) c.args.offset c.args.bytes.now (g.D.Device.time c.args.dev.now) (g.D.Device.time c.flushed.new.dev)
by_flush g c t = put_flushed g.D.Device (shown c.args.self) c.args.offset c.args.bytes.now c.args.dev.now c.moved.new.dev shown c.in_ok-this.this c.in_ok-this-2.this c.in_ok-this.ensures c.in_ok-this-2.ensures c.flushed.new.dev c.flushed.result t c.flushed.ensures

-- how long the run is with the bytes in it
long : (g : given.Over) (c : After-len g) → c.len.result ≡ length c.in_ok-this-2.this.pending.items
long g c = search rules

pub returns-then-bytes-offset : goal.returns-then-bytes-offset
returns-then-bytes-offset g c = put_failed g.D.Device (shown c.args.self) c.args.offset c.args.bytes.now shown c.args.dev.now c.args.dev.now (Err OffsetOverflow) refl
    (λ t. put_none (shown c.args.self) c.args.offset c.args.bytes.now (g.D.Device.time c.args.dev.now))
    (λ x. refl) (λ x y z. refl) (λ x. omega arith) (omega arith)
    (no_reads_start (g.D.Device.opened c.args.dev.now) (blob_key (shown c.args.self)) (open_some (g.D.Device.opened c.args.dev.now) (blob_key (shown c.args.self)) c.args.self.end c.requires.«open»))
    (search rules) (λ x. refl) (omega arith) (inl refl)

pub returns-in_err-this : goal.returns-in_err-this
returns-in_err-this g c = put_failed g.D.Device (shown c.args.self) c.args.offset c.args.bytes.now shown c.args.dev.now c.moved.new.dev c.from_residual.result c.from_residual.ensures.0
    (by_move g (goal.at.returns-in_err-this g c).After-moved)
    (search rules) (search rules) (search rules) (search rules) c.in_err-this.ensures.entries (search rules) (search rules) c.in_err-this.ensures.faults (search rules)

pub returns-in_err-this-2 : goal.returns-in_err-this-2
returns-in_err-this-2 g c = put_failed g.D.Device (shown c.args.self) c.args.offset c.args.bytes.now shown c.args.dev.now c.moved.new.dev c.from_residual-in_err-this-2.result c.from_residual-in_err-this-2.ensures.0
    (by_move g (goal.at.returns-in_err-this-2 g c).After-moved)
    (search rules) (search rules) (search rules) (search rules) (search rules) (search rules) (search rules) (search rules) (search rules)

pub returns-then-len-this : goal.returns-then-len-this
returns-then-len-this g c =
    let moved = by_move g (goal.at.returns-then-len-this g c).After-moved in
    let is = put_is g.D.Device (shown c.args.self) c.args.offset c.args.bytes.now c.args.dev.now c.moved.new.dev shown c.in_ok-this.this c.in_ok-this-2.this c.in_ok-this.ensures c.in_ok-this-2.ensures in
    let only = put_only g.D.Device (shown c.args.self) c.args.offset c.args.bytes.now c.args.dev.now c.moved.new.dev shown c.in_ok-this.this c.in_ok-this-2.this c.in_ok-this.ensures c.in_ok-this-2.ensures in
    let settled = put_settled g.D.Device (shown c.args.self) c.args.offset c.args.bytes.now c.args.dev.now c.moved.new.dev shown c.in_ok-this.this c.in_ok-this-2.this c.in_ok-this.ensures c.in_ok-this-2.ensures in
    record {
      spares = λ t. (moved t).spares;
      over = search rules;
      lasts = λ t kept. put_lasts (shown c.args.self) c.args.offset c.args.bytes.now (g.D.Device.time c.args.dev.now) (g.D.Device.time c.moved.new.dev) (moved t) kept;
      kept = λ t kept far. put_kept (shown c.args.self) (shown c.in_ok-this-2.this) c.args.offset c.args.bytes.now (g.D.Device.time c.args.dev.now) (g.D.Device.time c.moved.new.dev) (moved t) kept far settled (is t) only;
      since = λ t. (moved t).since;
      bytes = λ t. is t;
      size = grind (arith, common_steps);
      same = search rules;
      run = only;
      tail = put_leaves g.D.Device (shown c.args.self) c.args.offset c.args.bytes.now c.args.dev.now c.moved.new.dev shown c.in_ok-this.this c.in_ok-this-2.this c.in_ok-this.ensures c.in_ok-this-2.ensures c.len.result (long g (goal.at.returns-then-len-this g c).After-len) c.if-len-this.true;
      behind = λ far behind. inl (omega (arith, ap (λ (x : WriteBuffer). x.end) c.in_ok-this-2.ensures, ap (λ (x : WriteBuffer). x.at) c.in_ok-this-2.ensures, c.in_ok-this.ensures.behind far behind));
      joined = search rules;
      below = search rules;
      nothing = search rules;
      once = search rules;
      calls = search rules;
      full = search rules;
      «open» = search rules;
      entries = search rules;
      overflow = search rules;
      refused = search rules;
      faults = search rules;
      cause = search rules;
    }

pub returns-in_err-flushed : goal.returns-in_err-flushed
returns-in_err-flushed g c = put_failed g.D.Device (shown c.args.self) c.args.offset c.args.bytes.now shown c.args.dev.now c.flushed.new.dev c.from_residual-in_err-flushed.result c.from_residual-in_err-flushed.ensures.0
    (by_flush g (goal.at.returns-in_err-flushed g c).After-flushed)
    (λ below. absurd (not_below g.D.Device (shown c.args.self) c.args.offset c.args.bytes.now c.args.dev.now c.moved.new.dev shown c.in_ok-this.this c.in_ok-this-2.this c.in_ok-this.ensures c.in_ok-this-2.ensures c.len.result (long g (goal.at.returns-in_err-flushed g c).After-len) c.if-len-this.false below))
    (grind (arith, common_steps)) (grind (arith, common_steps)) (search rules) (search rules) (search rules) (search rules) (search rules) (search rules)

pub returns : goal.returns
returns g c =
    let len = long g (goal.at.returns g c).After-len in
    let flush = by_flush g (goal.at.returns g c).After-flushed in
    let stands = flushed_is g.D.Device (shown c.args.self) c.args.offset c.args.bytes.now c.args.dev.now c.moved.new.dev shown c.in_ok-this.this c.in_ok-this-2.this c.in_ok-this.ensures c.in_ok-this-2.ensures c.flushed.new.dev c.in_ok-flushed.field-0 in
    let none : c.in_ok-flushed.field-0.pending.items ≡ [] = ap (λ (x : WriteBuffer). x.pending) c.in_ok-flushed.ensures.same in
    record {
      spares = λ t. (flush t).spares;
      over = search rules;
      lasts = λ t kept. put_lasts (shown c.args.self) c.args.offset c.args.bytes.now (g.D.Device.time c.args.dev.now) (g.D.Device.time c.flushed.new.dev) (flush t) kept;
      kept = λ t kept far. put_kept (shown c.args.self) (shown c.in_ok-flushed.field-0) c.args.offset c.args.bytes.now (g.D.Device.time c.args.dev.now) (g.D.Device.time c.flushed.new.dev) (flush t) kept far
          (ap (λ (x : WriteBuffer). x.settled) c.in_ok-flushed.ensures.same ∙ put_settled g.D.Device (shown c.args.self) c.args.offset c.args.bytes.now c.args.dev.now c.moved.new.dev shown c.in_ok-this.this c.in_ok-this-2.this c.in_ok-this.ensures c.in_ok-this-2.ensures)
          (stands t c.in_ok-flushed.ensures) (inr (inr none));
      since = λ t. (flush t).since;
      bytes = λ t. stands t c.in_ok-flushed.ensures;
      size = grind (arith, common_steps);
      same = search rules;
      run = search rules;
      tail = flush_leaves g.D.Device (shown c.args.self) c.args.offset c.args.bytes.now c.args.dev.now c.moved.new.dev shown c.in_ok-this.this c.in_ok-this-2.this c.in_ok-this.ensures c.in_ok-this-2.ensures c.len.result len c.if-len-this.false (shown c.in_ok-flushed.field-0) none;
      behind = λ far behind. inr (ap length none);
      joined = search rules;
      below = λ below. absurd (not_below g.D.Device (shown c.args.self) c.args.offset c.args.bytes.now c.args.dev.now c.moved.new.dev shown c.in_ok-this.this c.in_ok-this-2.this c.in_ok-this.ensures c.in_ok-this-2.ensures c.len.result len c.if-len-this.false below);
      nothing = grind (arith, common_steps);
      once = λ few. omega (
        arith,
        c.flushed.ensures.once,
        ap (λ d. (g.D.Device.time d).calls) (unmoved g.D.Device (shown c.args.self) c.args.offset c.args.bytes.now c.args.dev.now c.moved.new.dev shown c.in_ok-this.this c.in_ok-this-2.this c.in_ok-this.ensures c.in_ok-this-2.ensures c.len.result len c.if-len-this.false few),
      );
      calls = search rules;
      full = search rules;
      «open» = search rules;
      entries = search rules;
      overflow = search rules;
      refused = search rules;
      faults = search rules;
      cause = tt;
    }
