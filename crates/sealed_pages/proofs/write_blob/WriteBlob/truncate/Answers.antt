use Rattle.std.proofs.lemmas.Grind.{common_steps}
use Rattle.std.proofs.lemmas.List.{take_all}
use Rattle.std.proofs.Common.{refl, take, arith, rules, sym}
use Rattle.blob_device.specs.Timeline.{disk}
use Rattle.sealed_pages.specs.unsealed.Writing.{WriteBuffer, shown, blob_key, bytes_of}
use Rattle.sealed_pages.specs.lemmas.Entries.{no_reads_start, open_some}
use Rattle.sealed_pages.specs.lemmas.looking.Looking.{content_length}
use Rattle.sealed_pages.proofs.unsealed.Cut.{CutBy, cut_none, cut_lasts, cut_flushed, cut_resized, cut_rested, cut_to, cut_failed}
use Rattle.sealed_pages.proofs.unsealed.Settled.{SettledAs}
use Rattle.sealed_pages.proofs.write_blob.WriteBlob.truncate.Given as given
use Rattle.sealed_pages.proofs.write_blob.WriteBlob.truncate.Goals as goal
use Rattle.sealed_pages.proofs.write_blob.WriteBlob.truncate.Goals.{After-flushed, After-shortened, After-rested}
use Rattle.blob_device.specs.Lengths.{length-written}

-- what has been done to the blob by the end of each call
by_flush : (g : given.Over) (c : After-flushed g) → g.D.Device.Tells → CutBy (shown c.args.self) c.args.len (g.D.Device.time c.args.dev.now) (g.D.Device.time c.flushed.new.dev)
by_flush g c t = cut_flushed g.D.Device t (g.met.D.Device.opened_stands t) (shown c.args.self) (shown c.cut_run.result) c.args.len c.cut_run.ensures (omega (arith, c.size.ensures, c.if-len-size.false)) c.args.dev.now c.flushed.new.dev c.requires.«open»
    shown c.flushed.result c.flushed.ensures

by_resize : (g : given.Over) (c : After-shortened g) → g.D.Device.Tells → CutBy (shown c.args.self) c.args.len (g.D.Device.time c.args.dev.now) (g.D.Device.time c.shortened.new.dev)
by_resize g c t = cut_resized g.D.Device t (g.met.D.Device.opened_stands t) (shown c.args.self) (shown c.cut_run.result) c.args.len c.cut_run.ensures (omega (arith, c.size.ensures, c.if-len-size.false)) c.args.dev.now c.flushed.new.dev c.requires.«open»
    shown c.in_ok-this.this c.in_ok-this.ensures c.shortened.new.dev c.shortened.result c.shortened.ensures

by_rest : (g : given.Over) (c : After-rested g) → g.D.Device.Tells → CutBy (shown c.args.self) c.args.len (g.D.Device.time c.args.dev.now) (g.D.Device.time c.rested.new.dev)
by_rest g c t = cut_rested g.D.Device t (g.met.D.Device.opened_stands t) (shown c.args.self) (shown c.cut_run.result) c.args.len c.cut_run.ensures (omega (arith, c.size.ensures, c.if-len-size.false)) c.args.dev.now c.flushed.new.dev c.requires.«open»
    shown c.in_ok-this.this c.in_ok-this.ensures c.shortened.new.dev c.in_ok-this-2.this c.in_ok-this-2.ensures c.rested.new.dev c.rested.result c.rested.ensures

-- what it has come to then
ends : (g : given.Over) (c : goal.In_ok-rested g) → g.D.Device.Tells → SettledAs (shown c.in_ok-rested.field-0) (take c.args.len (bytes_of (shown c.args.self) (disk (g.D.Device.time c.args.dev.now) (blob_key (shown c.args.self))).content)) (disk (g.D.Device.time c.rested.new.dev) (blob_key (shown c.args.self)))
ends g c t = cut_to g.D.Device t (g.met.D.Device.opened_stands t) (shown c.args.self) (shown c.cut_run.result) c.args.len c.cut_run.ensures (omega (arith, c.size.ensures, c.if-len-size.false)) c.args.dev.now c.flushed.new.dev c.requires.«open»
    shown c.in_ok-this.this c.in_ok-this.ensures c.shortened.new.dev c.in_ok-this-2.this c.in_ok-this-2.ensures c.rested.new.dev c.in_ok-rested.field-0 c.in_ok-rested.ensures

pub returns-then-len-size : goal.returns-then-len-size
returns-then-len-size g c =
    let u : WriteBuffer = shown c.args.self in
    let none : CutBy (shown c.args.self) c.args.len (g.D.Device.time c.args.dev.now) (g.D.Device.time c.args.dev.now) = cut_none (shown c.args.self) c.args.len (g.D.Device.time c.args.dev.now) in
    record {
      spares = λ t. none.spares;
      loose = λ t. none.loose;
      over = λ t over. over;
      lasts = λ t kept. cut_lasts u c.args.len (g.D.Device.time c.args.dev.now) (g.D.Device.time c.args.dev.now) none kept;
      kept = λ t kept. kept;
      since = λ t. none.since;
      since_cut = λ t few. none.since_cut few;
      settles = search rules;
      bytes = λ t. sym (take_all c.args.len (bytes_of (shown c.args.self) (disk (g.D.Device.time c.args.dev.now) (blob_key (shown c.args.self))).content)
          (omega (arith, content_length (g.D.Device.opened c.args.dev.now) (blob_key (shown c.args.self)) c.args.self.end _ _ (g.met.D.Device.opened_stands t c.args.dev.now (blob_key (shown c.args.self))) c.requires.«open», length-written (disk (g.D.Device.time c.args.dev.now) (blob_key (shown c.args.self))).content c.args.self.at c.args.self.pending.items, c.size.ensures, c.if-len-size.true)));
      cut = search rules;
      size = search rules;
      key = refl;
      capacity = refl;
      untouched = λ past. refl;
      stays = λ past. refl;
      calls = omega arith;
      once = λ x. omega arith;
      «open» = c.requires.«open»;
      entries = no_reads_start (g.D.Device.opened c.args.dev.now) (blob_key (shown c.args.self)) (open_some (g.D.Device.opened c.args.dev.now) (blob_key (shown c.args.self)) c.args.self.end c.requires.«open»);
      faults = omega arith;
      cause = search rules;
    }

pub returns-in_err-this : goal.returns-in_err-this
returns-in_err-this g c = cut_failed g.D.Device (shown c.args.self) c.args.len shown c.args.dev.now c.flushed.new.dev c.from_residual.result c.from_residual.ensures.0
    (omega (arith, c.size.ensures, c.if-len-size.false)) (by_flush g (goal.at.returns-in_err-this g c).After-flushed)
    (search rules) (search rules) (search rules) c.in_err-this.ensures.faults (search rules)

pub returns-in_err-this-2 : goal.returns-in_err-this-2
returns-in_err-this-2 g c = cut_failed g.D.Device (shown c.args.self) c.args.len shown c.args.dev.now c.shortened.new.dev c.from_residual-in_err-this-2.result c.from_residual-in_err-this-2.ensures.0
    (omega (arith, c.size.ensures, c.if-len-size.false)) (by_resize g (goal.at.returns-in_err-this-2 g c).After-shortened)
    (search rules) (search rules) (search rules) (search rules) (search rules)

pub returns-in_err-rested : goal.returns-in_err-rested
returns-in_err-rested g c = cut_failed g.D.Device (shown c.args.self) c.args.len shown c.args.dev.now c.rested.new.dev c.from_residual-in_err-rested.result c.from_residual-in_err-rested.ensures.0
    (omega (arith, c.size.ensures, c.if-len-size.false)) (by_rest g (goal.at.returns-in_err-rested g c).After-rested)
    (search rules) (grind (arith, common_steps)) (search rules) (search rules) (search rules)

pub returns : goal.returns
returns g c =
    let called = by_rest g (goal.at.returns g c).After-rested in
    let ended = ends g c in
    record {
      spares = λ t. (called t).spares;
      loose = λ t. (called t).loose;
      over = λ t over. (ended t).over;
      lasts = λ t kept. cut_lasts (shown c.args.self) c.args.len (g.D.Device.time c.args.dev.now) (g.D.Device.time c.rested.new.dev) (called t) kept;
      kept = λ t kept. (ended t).kept;
      since = λ t. (called t).since;
      since_cut = λ t few. (called t).since_cut few;
      settles = λ t less. (ended t).settles;
      bytes = λ t. (ended t).bytes;
      cut = search rules;
      size = search rules;
      key = search rules;
      capacity = search rules;
      untouched = search rules;
      stays = search rules;
      calls = search rules;
      once = grind (arith, common_steps);
      «open» = search rules;
      entries = search rules;
      faults = search rules;
      cause = tt;
    }
