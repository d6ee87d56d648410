use Rattle.std.proofs.Common.{◌≡◌, ◌∙◌, false, sym, arith, rules, refl}
use Rattle.blob_device.specs.Timeline.{disk}
use Rattle.sealed_pages.specs.unsealed.Writing.{shown, blob_key, bytes_of, is_unsettled, Over}
use Rattle.sealed_pages.specs.lemmas.Entries.{no_reads_start, open_some}
use Rattle.sealed_pages.specs.lemmas.looking.Looking.{content_length}
use Rattle.sealed_pages.specs.lemmas.unsealed.Writing.{settled_parts}
use Rattle.sealed_pages.proofs.unsealed.Settled.{SettledAs}
use Rattle.sealed_pages.proofs.unsealed.Sync.{FlushBy, flush_none, flush_lasts, rested_as, rested_same, flush_run, sync_rested, sync_to, sync_failed}
use Rattle.sealed_pages.proofs.write_blob.WriteBlob.sync.Given as given
use Rattle.sealed_pages.proofs.write_blob.WriteBlob.sync.Goals as goal
use Rattle.sealed_pages.proofs.write_blob.WriteBlob.sync.Goals.{After-flushed, After-rested}

-- what has been done to the blob by the end of each call
by_flush : (g : given.Over) (c : After-flushed g) → g.D.Device.Tells → FlushBy (shown c.args.self) (g.D.Device.time c.args.dev.now) (g.D.Device.time c.flushed.new.dev)
by_flush g c t = flush_run g.D.Device t (shown c.args.self) c.args.dev.now c.flushed.new.dev shown c.flushed.result c.flushed.ensures

by_rest : (g : given.Over) (c : After-rested g) → g.D.Device.Tells → FlushBy (shown c.args.self) (g.D.Device.time c.args.dev.now) (g.D.Device.time c.rested.new.dev)
by_rest g c t = sync_rested g.D.Device t (shown c.args.self) c.args.dev.now c.flushed.new.dev shown c.in_ok-this.this c.in_ok-this.ensures (g.met.D.Device.opened_stands t) c.rested.new.dev c.rested.result c.rested.ensures

-- what they have come to then
ends : (g : given.Over) (c : goal.In_ok-rested g) → g.D.Device.Tells → SettledAs (shown c.in_ok-rested.field-0) (bytes_of (shown c.args.self) (disk (g.D.Device.time c.args.dev.now) (blob_key (shown c.args.self))).content) (disk (g.D.Device.time c.rested.new.dev) (blob_key (shown c.args.self)))
ends g c t = sync_to g.D.Device t (shown c.args.self) c.args.dev.now c.flushed.new.dev shown c.in_ok-this.this c.in_ok-this.ensures (g.met.D.Device.opened_stands t) c.rested.new.dev c.in_ok-rested.field-0 c.in_ok-rested.ensures

-- where nothing is unsettled, all of it has settled
rests : (g : given.Over) (c : goal.Then-not-needs_sync g) → is_unsettled (shown c.args.self) ≡ false
rests g c = sym c.needs_sync.ensures ∙ c.if-not-needs_sync.true

all : (g : given.Over) (c : goal.Then-not-needs_sync g) → c.args.self.settled ≡ c.args.self.end
all g c = c.args.self.rests (settled_parts (shown c.args.self) (rests g c)).0

settled : (g : given.Over) (c : goal.Then-not-needs_sync g) → g.D.Device.Tells → Over (shown c.args.self) (disk (g.D.Device.time c.args.dev.now) (blob_key (shown c.args.self)))
    → SettledAs (shown c.args.self) (bytes_of (shown c.args.self) (disk (g.D.Device.time c.args.dev.now) (blob_key (shown c.args.self))).content) (disk (g.D.Device.time c.args.dev.now) (blob_key (shown c.args.self)))
settled g c t = rested_as (shown c.args.self) (rests g c) (disk (g.D.Device.time c.args.dev.now) (blob_key (shown c.args.self)))
    (content_length (g.D.Device.opened c.args.dev.now) (blob_key (shown c.args.self)) c.args.self.end _ _ (g.met.D.Device.opened_stands t c.args.dev.now (blob_key (shown c.args.self))) c.requires.«open») (all g c)

pub returns-then-not-needs_sync : goal.returns-then-not-needs_sync
returns-then-not-needs_sync g c =
    let none : FlushBy (shown c.args.self) (g.D.Device.time c.args.dev.now) (g.D.Device.time c.args.dev.now) = flush_none (shown c.args.self) (g.D.Device.time c.args.dev.now) in
    record {
      spares = λ t. none.spares;
      over = λ t over. over;
      lasts = λ t kept. flush_lasts (shown c.args.self) (g.D.Device.time c.args.dev.now) (g.D.Device.time c.args.dev.now) none kept;
      kept = λ t over. (settled g c t over).kept;
      since = λ t. none.since;
      settles = λ t over. (settled g c t over).settles;
      bytes = λ t. refl;
      idle = search rules;
      same = rested_same (shown c.args.self) (rests g c) (all g c);
      untouched = λ idle. refl;
      stays = λ idle. refl;
      calls = omega arith;
      «open» = c.requires.«open»;
      entries = no_reads_start (g.D.Device.opened c.args.dev.now) (blob_key (shown c.args.self)) (open_some (g.D.Device.opened c.args.dev.now) (blob_key (shown c.args.self)) c.args.self.end c.requires.«open»);
      faults = omega arith;
      cause = search rules;
    }

pub returns-in_err-this : goal.returns-in_err-this
returns-in_err-this g c = sync_failed g.D.Device (shown c.args.self) shown c.args.dev.now c.flushed.new.dev c.from_residual.result c.from_residual.ensures.0
    (sym c.needs_sync.ensures ∙ c.if-not-needs_sync.false) (by_flush g (goal.at.returns-in_err-this g c).After-flushed)
    (search rules) c.in_err-this.ensures.entries c.in_err-this.ensures.faults (search rules)

pub returns-in_err-rested : goal.returns-in_err-rested
returns-in_err-rested g c = sync_failed g.D.Device (shown c.args.self) shown c.args.dev.now c.rested.new.dev c.from_residual-in_err-rested.result c.from_residual-in_err-rested.ensures.0
    (sym c.needs_sync.ensures ∙ c.if-not-needs_sync.false) (by_rest g (goal.at.returns-in_err-rested g c).After-rested)
    (search rules) (search rules) (search rules) (search rules)

pub returns : goal.returns
returns g c =
    let called = by_rest g (goal.at.returns g c).After-rested in
    let ended = ends g c in
    record {
      spares = λ t. (called t).spares;
      over = λ t over. (ended t).over;
      lasts = λ t kept. flush_lasts (shown c.args.self) (g.D.Device.time c.args.dev.now) (g.D.Device.time c.rested.new.dev) (called t) kept;
      kept = λ t over. (ended t).kept;
      since = λ t. (called t).since;
      settles = λ t over. (ended t).settles;
      bytes = search rules;
      idle = search rules;
      same = search rules;
      untouched = search rules;
      stays = search rules;
      calls = search rules;
      «open» = search rules;
      entries = search rules;
      faults = search rules;
      cause = tt;
    }
