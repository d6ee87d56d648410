use Rattle.std.specs.Prelude.{◌≡◌, true, None, Some, IsSome, Ok, Err}
use Rattle.std.proofs.Common.{refl, sym, ◌∙◌, ap, subst}
use Rattle.blob_device.specs.Timeline.{disk}
use Rattle.section_manager.specs.contracts.sealed.PageBlobSectionBuffer.TheImpl as page_blob
use Rattle.section_manager.specs.Sections.{key_of}
use Rattle.segments.specs.FixedReplay.{SameWalk}
use Rattle.segments.specs.FixedWalking.{walk_of}
use Rattle.paired.specs.lemmas.next.Clauses.{Clauses}
use Rattle.paired.specs.lemmas.next.Glue.{here_run, loop_then, parts_start, run_moved, run_then, values_unfloored}
use Rattle.paired.specs.lemmas.next.Going.{running_start}
use Rattle.paired.specs.lemmas.next.Running.{moved}
use Rattle.paired.specs.lemmas.pair.Synced.{page_setting}
use Rattle.segments.specs.lemmas.adding.Write.{are_pages}
use Rattle.paired.specs.Replaying.{Run}
use Rattle.paired.specs.ReplayShown.{limits_of, run_of}
use Rattle.paired.proofs.next.Clauses.{no_clauses, some_clauses, err_clauses}
use Rattle.paired.proofs.next.Glue.{glob_as, config_as, ends_as, section_as, sorts_as, open_there}
use Rattle.paired.proofs.next.Going.{running_on, all_went, next_glob}
use Rattle.paired.proofs.next.Says.{Says, gave_going, ended_on}
use Rattle.paired.proofs.next.Turn.{Sorted}
use Rattle.paired.proofs.oversized.replaying.Replay.next.Given as given
use Rattle.paired.proofs.oversized.replaying.Replay.next.Goals as goal

-- what holds where a record is given
in_some : (g : given.Over) (c : goal.In-Ok-Some g) → Clauses g.I.Codec.refusal g.D.Device.Tells (run_of g.I.Record.place c.args.self.now) (run_of g.I.Record.place c.sorted.new.self) (g.D.Device.time c.args.dev.now) (g.D.Device.time c.sorted.new.dev) {V = g.row.I.Denot} (page_blob.ghosts g.row.S g.S.Seal g.S.Seal-dict) page_setting (λ f. record { page_size = 1; capacity = f.capacity; cache_pages = 0 }) g.I.Codec.spelling g.I.Codec.accepted (Some (Ok c.in-Ok-Some.record)) (g.D.Device.opened c.args.dev.now) (g.D.Device.opened c.sorted.new.dev) (g.D.Device.faults c.args.dev.now) (g.D.Device.faults c.sorted.new.dev)
in_some g c =
    let says : Says g.S.Seal.seal_of g.I.CodecFixed.SIZE (page_blob.ghosts g.row.S g.S.Seal g.S.Seal-dict) page_setting g.D.Device.Tells g.I.Codec.spelling g.I.Codec.accepted g.I.Codec.refusal c.next.result (walk_of c.records.self.index) (walk_of c.next.new.self) (g.D.Device.opened c.records.dev) (g.D.Device.opened c.next.new.dev) (g.D.Device.time c.records.dev) (g.D.Device.time c.next.new.dev) (g.D.Device.faults c.records.dev) (g.D.Device.faults c.next.new.dev) = record { over = c.next.ensures.over; same = c.next.ensures.same; item = c.next.ensures.item; going = c.next.ensures.going; stays = c.next.ensures.stays; known = c.next.ensures.known; items = c.next.ensures.items; floors = c.next.ensures.floors; held = c.next.ensures.held; bytes = c.next.ensures.bytes; unsettled = c.next.ensures.unsettled; nearer = c.next.ensures.nearer; none = c.next.ensures.none; drained = c.next.ensures.drained; whole = c.next.ensures.whole; onward = c.next.ensures.onward; later = c.next.ensures.later; failed = c.next.ensures.failed; stops = c.next.ensures.stops; start = λ t p is. (let x = c.next.ensures.start t p is in (x.0, x.1)); damage = λ t y is. (let x = c.next.ensures.damage t y is in (x.0, x.1)); damaged = λ t k is. (c.next.ensures.damaged t k is).damage; refused = c.next.ensures.refused; ends = c.next.ensures.ends; ends_cut = c.next.ensures.ends_cut; moments = c.next.ensures.moments; entries = c.next.ensures.entries; faults = c.next.ensures.faults; cause = c.next.ensures.cause; ended = λ is. (let p = c.next.ensures.ended is in (p.0, ap walk_of p.1, ap g.D.Device.opened p.2, ap g.D.Device.time p.2)) } in
    let same : SameWalk (walk_of c.args.self.now.index) (walk_of c.next.new.self) = (all_went (page_blob.ghosts g.row.S g.S.Seal g.S.Seal-dict) page_setting (λ f. record { page_size = 1; capacity = f.capacity; cache_pages = 0 }) g.D.Device.Tells (run_of g.I.Record.place c.args.self.now) (are_pages g.row.S g.S.Seal g.S.Seal-dict) g.I.Codec.spelling g.I.Codec.accepted g.I.Codec.refusal g.I.Record.location g.met.I.Record.spelled (g.D.Device.opened c.args.dev.now) (g.D.Device.time c.args.dev.now) (g.D.Device.faults c.args.dev.now) (here_run g.I.Record.place c.args.self.now g.met.I.CodecFixed.fixed.at_least) (walk_of c.records.self.index) (limits_of c.records.self.ends) c.records.self.ended_section c.records.self.has_failed (g.D.Device.opened c.records.dev) (g.D.Device.time c.records.dev) (g.D.Device.faults c.records.dev) c.records.invariant.0 c.next.result (walk_of c.next.new.self) (g.D.Device.opened c.next.new.dev) (g.D.Device.time c.next.new.dev) (g.D.Device.faults c.next.new.dev) says).same in
    let first : Sorted (λ f. record { page_size = 1; capacity = f.capacity; cache_pages = 0 }) g.D.Device.Tells (run_of g.I.Record.place (record c.records.self { index = c.next.new.self })) g.I.Record.location c.in-Some.given c.sorted.result (limits_of c.sorted.new.self.ends) c.sorted.new.self.ended_section (g.D.Device.opened c.next.new.dev) (g.D.Device.opened c.sorted.new.dev) (g.D.Device.time c.next.new.dev) (g.D.Device.time c.sorted.new.dev) (g.D.Device.faults c.next.new.dev) (g.D.Device.faults c.sorted.new.dev) = record { passed = λ x is. (let p = c.sorted.ensures.passed x is in (p.0, ends_as p.1, section_as p.1, ap g.D.Device.opened p.2, ap g.D.Device.time p.2, ap g.D.Device.faults p.2)); kept = c.sorted.ensures.kept; sorts = λ t s p v is. sorts_as (run_of g.I.Record.place (record c.records.self { index = c.next.new.self })) (run_of g.I.Record.place c.sorted.new.self) c.sorted.new.self.ended_section (disk (g.D.Device.time c.next.new.dev)) s p (g.I.Record.location v) (λ r. IsSome r) c.sorted.result (c.sorted.ensures.sorts t s p v is); ends_from = c.sorted.ensures.ends_from; live = λ un. (let p = c.sorted.ensures.live un in (ends_as p, section_as p)); goes_on = c.sorted.ensures.goes_on; breaks = c.sorted.ensures.ended; stays = c.sorted.ensures.stays; glob = glob_as c.sorted.ensures.values (λ f. record { page_size = 1; capacity = f.capacity; cache_pages = 0 }) g.D.Device.Tells (g.D.Device.opened c.sorted.new.dev) (disk (g.D.Device.time c.sorted.new.dev)) c.sorted.ensures.glob; unchanged = c.sorted.ensures.unchanged; read = c.sorted.ensures.read; idle = λ s p v is why. ap g.D.Device.opened (c.sorted.ensures.idle s p v is why); faults = c.sorted.ensures.faults; cause = c.sorted.ensures.cause } in
    let sorted : Sorted (λ f. record { page_size = 1; capacity = f.capacity; cache_pages = 0 }) g.D.Device.Tells (moved (run_of g.I.Record.place c.args.self.now) (walk_of c.next.new.self) (limits_of c.records.self.ends) c.records.self.ended_section c.records.self.has_failed) g.I.Record.location c.in-Some.given c.sorted.result (limits_of c.sorted.new.self.ends) c.sorted.new.self.ended_section (g.D.Device.opened c.next.new.dev) (g.D.Device.opened c.sorted.new.dev) (g.D.Device.time c.next.new.dev) (g.D.Device.time c.sorted.new.dev) (g.D.Device.faults c.next.new.dev) (g.D.Device.faults c.sorted.new.dev) =
    subst (λ (m : Run _ _). Sorted (λ f. record { page_size = 1; capacity = f.capacity; cache_pages = 0 }) g.D.Device.Tells m g.I.Record.location c.in-Some.given c.sorted.result (limits_of c.sorted.new.self.ends) c.sorted.new.self.ended_section (g.D.Device.opened c.next.new.dev) (g.D.Device.opened c.sorted.new.dev) (g.D.Device.time c.next.new.dev) (g.D.Device.time c.sorted.new.dev) (g.D.Device.faults c.next.new.dev) (g.D.Device.faults c.sorted.new.dev)) (sym (run_moved g.I.Record.place c.args.self.now (record c.records.self { index = c.next.new.self }) (record { values = c.records.invariant.1.values; tracking = c.records.invariant.1.tracking; tracked = c.records.invariant.1.tracked }) same)) first in
    let ok : c.sorted.result ≡ Ok (Some c.in-Ok-Some.record) = (let at = c.in-Ok-Some.field-0-is in let is = c.in-Ok-Some.is in cc (is, at)) in
    subst (λ (x : Run _ _). Clauses g.I.Codec.refusal g.D.Device.Tells (run_of g.I.Record.place c.args.self.now) x (g.D.Device.time c.args.dev.now) (g.D.Device.time c.sorted.new.dev) {V = g.row.I.Denot} (page_blob.ghosts g.row.S g.S.Seal g.S.Seal-dict) page_setting (λ f. record { page_size = 1; capacity = f.capacity; cache_pages = 0 }) g.I.Codec.spelling g.I.Codec.accepted (Some (Ok c.in-Ok-Some.record)) (g.D.Device.opened c.args.dev.now) (g.D.Device.opened c.sorted.new.dev) (g.D.Device.faults c.args.dev.now) (g.D.Device.faults c.sorted.new.dev))
    (run_then g.I.Record.place c.args.self.now c.sorted.new.self (record { values = c.sorted.ensures.values ∙ c.records.invariant.1.values; tracking = c.sorted.ensures.tracking ∙ c.records.invariant.1.tracking; tracked = c.sorted.ensures.tracked ∙ c.records.invariant.1.tracked }) (walk_of c.next.new.self) (ap walk_of (sym c.sorted.ensures.index)) c.records.self.has_failed (sym c.sorted.ensures.failed) same)
    (some_clauses (page_blob.ghosts g.row.S g.S.Seal g.S.Seal-dict) page_setting (λ f. record { page_size = 1; capacity = f.capacity; cache_pages = 0 }) g.D.Device.Tells (run_of g.I.Record.place c.args.self.now) (are_pages g.row.S g.S.Seal g.S.Seal-dict) g.I.Codec.spelling g.I.Codec.accepted g.I.Codec.refusal g.I.Record.location g.met.I.Record.spelled (g.D.Device.opened c.args.dev.now) (g.D.Device.time c.args.dev.now) (g.D.Device.faults c.args.dev.now) (here_run g.I.Record.place c.args.self.now g.met.I.CodecFixed.fixed.at_least) (walk_of c.records.self.index) (limits_of c.records.self.ends) c.records.self.ended_section c.records.self.has_failed (g.D.Device.opened c.records.dev) (g.D.Device.time c.records.dev) (g.D.Device.faults c.records.dev) c.records.invariant.0 c.next.result (walk_of c.next.new.self) (g.D.Device.opened c.next.new.dev) (g.D.Device.time c.next.new.dev) (g.D.Device.faults c.next.new.dev) says c.requires (λ t q. g.met.D.Device.as_read t c.args.dev.now q) (λ t s u held. open_there (g.D.Device.opened c.args.dev.now (key_of (run_of g.I.Record.place c.args.self.now).walk.journal.sections s)) _ _ _ (c.requires.index.over.opened_list.is_open s u held) (g.met.D.Device.opened_stands t c.args.dev.now (key_of (run_of g.I.Record.place c.args.self.now).walk.journal.sections s))) c.in-Some.given c.in-Some.is c.sorted.result (limits_of c.sorted.new.self.ends) c.sorted.new.self.ended_section (g.D.Device.opened c.sorted.new.dev) (g.D.Device.time c.sorted.new.dev) (g.D.Device.faults c.sorted.new.dev) sorted (λ t q. g.met.D.Device.as_read t c.next.new.dev q) c.in-Ok-Some.record ok)

-- where an error is
in_error : (g : given.Over) (c : goal.After-self-1 g) → Clauses g.I.Codec.refusal g.D.Device.Tells (run_of g.I.Record.place c.args.self.now) (run_of g.I.Record.place (record c.sorted.new.self { has_failed = true })) (g.D.Device.time c.args.dev.now) (g.D.Device.time c.sorted.new.dev) {V = g.row.I.Denot} (page_blob.ghosts g.row.S g.S.Seal g.S.Seal-dict) page_setting (λ f. record { page_size = 1; capacity = f.capacity; cache_pages = 0 }) g.I.Codec.spelling g.I.Codec.accepted (Some (Err c.in-Err.e)) (g.D.Device.opened c.args.dev.now) (g.D.Device.opened c.sorted.new.dev) (g.D.Device.faults c.args.dev.now) (g.D.Device.faults c.sorted.new.dev)
in_error g c =
    let says : Says g.S.Seal.seal_of g.I.CodecFixed.SIZE (page_blob.ghosts g.row.S g.S.Seal g.S.Seal-dict) page_setting g.D.Device.Tells g.I.Codec.spelling g.I.Codec.accepted g.I.Codec.refusal c.next.result (walk_of c.records.self.index) (walk_of c.next.new.self) (g.D.Device.opened c.records.dev) (g.D.Device.opened c.next.new.dev) (g.D.Device.time c.records.dev) (g.D.Device.time c.next.new.dev) (g.D.Device.faults c.records.dev) (g.D.Device.faults c.next.new.dev) = record { over = c.next.ensures.over; same = c.next.ensures.same; item = c.next.ensures.item; going = c.next.ensures.going; stays = c.next.ensures.stays; known = c.next.ensures.known; items = c.next.ensures.items; floors = c.next.ensures.floors; held = c.next.ensures.held; bytes = c.next.ensures.bytes; unsettled = c.next.ensures.unsettled; nearer = c.next.ensures.nearer; none = c.next.ensures.none; drained = c.next.ensures.drained; whole = c.next.ensures.whole; onward = c.next.ensures.onward; later = c.next.ensures.later; failed = c.next.ensures.failed; stops = c.next.ensures.stops; start = λ t p is. (let x = c.next.ensures.start t p is in (x.0, x.1)); damage = λ t y is. (let x = c.next.ensures.damage t y is in (x.0, x.1)); damaged = λ t k is. (c.next.ensures.damaged t k is).damage; refused = c.next.ensures.refused; ends = c.next.ensures.ends; ends_cut = c.next.ensures.ends_cut; moments = c.next.ensures.moments; entries = c.next.ensures.entries; faults = c.next.ensures.faults; cause = c.next.ensures.cause; ended = λ is. (let p = c.next.ensures.ended is in (p.0, ap walk_of p.1, ap g.D.Device.opened p.2, ap g.D.Device.time p.2)) } in
    let same : SameWalk (walk_of c.args.self.now.index) (walk_of c.next.new.self) = (all_went (page_blob.ghosts g.row.S g.S.Seal g.S.Seal-dict) page_setting (λ f. record { page_size = 1; capacity = f.capacity; cache_pages = 0 }) g.D.Device.Tells (run_of g.I.Record.place c.args.self.now) (are_pages g.row.S g.S.Seal g.S.Seal-dict) g.I.Codec.spelling g.I.Codec.accepted g.I.Codec.refusal g.I.Record.location g.met.I.Record.spelled (g.D.Device.opened c.args.dev.now) (g.D.Device.time c.args.dev.now) (g.D.Device.faults c.args.dev.now) (here_run g.I.Record.place c.args.self.now g.met.I.CodecFixed.fixed.at_least) (walk_of c.records.self.index) (limits_of c.records.self.ends) c.records.self.ended_section c.records.self.has_failed (g.D.Device.opened c.records.dev) (g.D.Device.time c.records.dev) (g.D.Device.faults c.records.dev) c.records.invariant.0 c.next.result (walk_of c.next.new.self) (g.D.Device.opened c.next.new.dev) (g.D.Device.time c.next.new.dev) (g.D.Device.faults c.next.new.dev) says).same in
    let first : Sorted (λ f. record { page_size = 1; capacity = f.capacity; cache_pages = 0 }) g.D.Device.Tells (run_of g.I.Record.place (record c.records.self { index = c.next.new.self })) g.I.Record.location c.in-Some.given c.sorted.result (limits_of c.sorted.new.self.ends) c.sorted.new.self.ended_section (g.D.Device.opened c.next.new.dev) (g.D.Device.opened c.sorted.new.dev) (g.D.Device.time c.next.new.dev) (g.D.Device.time c.sorted.new.dev) (g.D.Device.faults c.next.new.dev) (g.D.Device.faults c.sorted.new.dev) = record { passed = λ x is. (let p = c.sorted.ensures.passed x is in (p.0, ends_as p.1, section_as p.1, ap g.D.Device.opened p.2, ap g.D.Device.time p.2, ap g.D.Device.faults p.2)); kept = c.sorted.ensures.kept; sorts = λ t s p v is. sorts_as (run_of g.I.Record.place (record c.records.self { index = c.next.new.self })) (run_of g.I.Record.place c.sorted.new.self) c.sorted.new.self.ended_section (disk (g.D.Device.time c.next.new.dev)) s p (g.I.Record.location v) (λ r. IsSome r) c.sorted.result (c.sorted.ensures.sorts t s p v is); ends_from = c.sorted.ensures.ends_from; live = λ un. (let p = c.sorted.ensures.live un in (ends_as p, section_as p)); goes_on = c.sorted.ensures.goes_on; breaks = c.sorted.ensures.ended; stays = c.sorted.ensures.stays; glob = glob_as c.sorted.ensures.values (λ f. record { page_size = 1; capacity = f.capacity; cache_pages = 0 }) g.D.Device.Tells (g.D.Device.opened c.sorted.new.dev) (disk (g.D.Device.time c.sorted.new.dev)) c.sorted.ensures.glob; unchanged = c.sorted.ensures.unchanged; read = c.sorted.ensures.read; idle = λ s p v is why. ap g.D.Device.opened (c.sorted.ensures.idle s p v is why); faults = c.sorted.ensures.faults; cause = c.sorted.ensures.cause } in
    let sorted : Sorted (λ f. record { page_size = 1; capacity = f.capacity; cache_pages = 0 }) g.D.Device.Tells (moved (run_of g.I.Record.place c.args.self.now) (walk_of c.next.new.self) (limits_of c.records.self.ends) c.records.self.ended_section c.records.self.has_failed) g.I.Record.location c.in-Some.given c.sorted.result (limits_of c.sorted.new.self.ends) c.sorted.new.self.ended_section (g.D.Device.opened c.next.new.dev) (g.D.Device.opened c.sorted.new.dev) (g.D.Device.time c.next.new.dev) (g.D.Device.time c.sorted.new.dev) (g.D.Device.faults c.next.new.dev) (g.D.Device.faults c.sorted.new.dev) =
    subst (λ (m : Run _ _). Sorted (λ f. record { page_size = 1; capacity = f.capacity; cache_pages = 0 }) g.D.Device.Tells m g.I.Record.location c.in-Some.given c.sorted.result (limits_of c.sorted.new.self.ends) c.sorted.new.self.ended_section (g.D.Device.opened c.next.new.dev) (g.D.Device.opened c.sorted.new.dev) (g.D.Device.time c.next.new.dev) (g.D.Device.time c.sorted.new.dev) (g.D.Device.faults c.next.new.dev) (g.D.Device.faults c.sorted.new.dev)) (sym (run_moved g.I.Record.place c.args.self.now (record c.records.self { index = c.next.new.self }) (record { values = c.records.invariant.1.values; tracking = c.records.invariant.1.tracking; tracked = c.records.invariant.1.tracked }) same)) first in
    subst (λ (x : Run _ _). Clauses g.I.Codec.refusal g.D.Device.Tells (run_of g.I.Record.place c.args.self.now) x (g.D.Device.time c.args.dev.now) (g.D.Device.time c.sorted.new.dev) {V = g.row.I.Denot} (page_blob.ghosts g.row.S g.S.Seal g.S.Seal-dict) page_setting (λ f. record { page_size = 1; capacity = f.capacity; cache_pages = 0 }) g.I.Codec.spelling g.I.Codec.accepted (Some (Err c.in-Err.e)) (g.D.Device.opened c.args.dev.now) (g.D.Device.opened c.sorted.new.dev) (g.D.Device.faults c.args.dev.now) (g.D.Device.faults c.sorted.new.dev))
    (run_then g.I.Record.place c.args.self.now (record c.sorted.new.self { has_failed = true }) (record { values = c.sorted.ensures.values ∙ c.records.invariant.1.values; tracking = c.sorted.ensures.tracking ∙ c.records.invariant.1.tracking; tracked = c.sorted.ensures.tracked ∙ c.records.invariant.1.tracked }) (walk_of c.next.new.self) (ap walk_of (sym c.sorted.ensures.index)) true refl same)
    (err_clauses (page_blob.ghosts g.row.S g.S.Seal g.S.Seal-dict) page_setting (λ f. record { page_size = 1; capacity = f.capacity; cache_pages = 0 }) g.D.Device.Tells (run_of g.I.Record.place c.args.self.now) (are_pages g.row.S g.S.Seal g.S.Seal-dict) g.I.Codec.spelling g.I.Codec.accepted g.I.Codec.refusal g.I.Record.location g.met.I.Record.spelled (g.D.Device.opened c.args.dev.now) (g.D.Device.time c.args.dev.now) (g.D.Device.faults c.args.dev.now) (here_run g.I.Record.place c.args.self.now g.met.I.CodecFixed.fixed.at_least) (walk_of c.records.self.index) (limits_of c.records.self.ends) c.records.self.ended_section c.records.self.has_failed (g.D.Device.opened c.records.dev) (g.D.Device.time c.records.dev) (g.D.Device.faults c.records.dev) c.records.invariant.0 c.next.result (walk_of c.next.new.self) (g.D.Device.opened c.next.new.dev) (g.D.Device.time c.next.new.dev) (g.D.Device.faults c.next.new.dev) says c.requires (λ t q. g.met.D.Device.as_read t c.args.dev.now q) (λ t s u held. open_there (g.D.Device.opened c.args.dev.now (key_of (run_of g.I.Record.place c.args.self.now).walk.journal.sections s)) _ _ _ (c.requires.index.over.opened_list.is_open s u held) (g.met.D.Device.opened_stands t c.args.dev.now (key_of (run_of g.I.Record.place c.args.self.now).walk.journal.sections s))) c.in-Some.given c.in-Some.is c.sorted.result (limits_of c.sorted.new.self.ends) c.sorted.new.self.ended_section (g.D.Device.opened c.sorted.new.dev) (g.D.Device.time c.sorted.new.dev) (g.D.Device.faults c.sorted.new.dev) sorted (λ t q. g.met.D.Device.as_read t c.next.new.dev q) c.in-Err.e c.in-Err.is)

-- where nothing is
in_none : (g : given.Over) (c : goal.In_default g) → Clauses g.I.Codec.refusal g.D.Device.Tells (run_of g.I.Record.place c.args.self.now) (run_of g.I.Record.place (record c.records.self { index = c.next.new.self })) (g.D.Device.time c.args.dev.now) (g.D.Device.time c.next.new.dev) {V = g.row.I.Denot} (page_blob.ghosts g.row.S g.S.Seal g.S.Seal-dict) page_setting (λ f. record { page_size = 1; capacity = f.capacity; cache_pages = 0 }) g.I.Codec.spelling g.I.Codec.accepted None (g.D.Device.opened c.args.dev.now) (g.D.Device.opened c.next.new.dev) (g.D.Device.faults c.args.dev.now) (g.D.Device.faults c.next.new.dev)
in_none g c =
    let says : Says g.S.Seal.seal_of g.I.CodecFixed.SIZE (page_blob.ghosts g.row.S g.S.Seal g.S.Seal-dict) page_setting g.D.Device.Tells g.I.Codec.spelling g.I.Codec.accepted g.I.Codec.refusal c.next.result (walk_of c.records.self.index) (walk_of c.next.new.self) (g.D.Device.opened c.records.dev) (g.D.Device.opened c.next.new.dev) (g.D.Device.time c.records.dev) (g.D.Device.time c.next.new.dev) (g.D.Device.faults c.records.dev) (g.D.Device.faults c.next.new.dev) = record { over = c.next.ensures.over; same = c.next.ensures.same; item = c.next.ensures.item; going = c.next.ensures.going; stays = c.next.ensures.stays; known = c.next.ensures.known; items = c.next.ensures.items; floors = c.next.ensures.floors; held = c.next.ensures.held; bytes = c.next.ensures.bytes; unsettled = c.next.ensures.unsettled; nearer = c.next.ensures.nearer; none = c.next.ensures.none; drained = c.next.ensures.drained; whole = c.next.ensures.whole; onward = c.next.ensures.onward; later = c.next.ensures.later; failed = c.next.ensures.failed; stops = c.next.ensures.stops; start = λ t p is. (let x = c.next.ensures.start t p is in (x.0, x.1)); damage = λ t y is. (let x = c.next.ensures.damage t y is in (x.0, x.1)); damaged = λ t k is. (c.next.ensures.damaged t k is).damage; refused = c.next.ensures.refused; ends = c.next.ensures.ends; ends_cut = c.next.ensures.ends_cut; moments = c.next.ensures.moments; entries = c.next.ensures.entries; faults = c.next.ensures.faults; cause = c.next.ensures.cause; ended = λ is. (let p = c.next.ensures.ended is in (p.0, ap walk_of p.1, ap g.D.Device.opened p.2, ap g.D.Device.time p.2)) } in
    let same : SameWalk (walk_of c.args.self.now.index) (walk_of c.next.new.self) = (all_went (page_blob.ghosts g.row.S g.S.Seal g.S.Seal-dict) page_setting (λ f. record { page_size = 1; capacity = f.capacity; cache_pages = 0 }) g.D.Device.Tells (run_of g.I.Record.place c.args.self.now) (are_pages g.row.S g.S.Seal g.S.Seal-dict) g.I.Codec.spelling g.I.Codec.accepted g.I.Codec.refusal g.I.Record.location g.met.I.Record.spelled (g.D.Device.opened c.args.dev.now) (g.D.Device.time c.args.dev.now) (g.D.Device.faults c.args.dev.now) (here_run g.I.Record.place c.args.self.now g.met.I.CodecFixed.fixed.at_least) (walk_of c.records.self.index) (limits_of c.records.self.ends) c.records.self.ended_section c.records.self.has_failed (g.D.Device.opened c.records.dev) (g.D.Device.time c.records.dev) (g.D.Device.faults c.records.dev) c.records.invariant.0 c.next.result (walk_of c.next.new.self) (g.D.Device.opened c.next.new.dev) (g.D.Device.time c.next.new.dev) (g.D.Device.faults c.next.new.dev) says).same in
    subst (λ (x : Run _ _). Clauses g.I.Codec.refusal g.D.Device.Tells (run_of g.I.Record.place c.args.self.now) x (g.D.Device.time c.args.dev.now) (g.D.Device.time c.next.new.dev) {V = g.row.I.Denot} (page_blob.ghosts g.row.S g.S.Seal g.S.Seal-dict) page_setting (λ f. record { page_size = 1; capacity = f.capacity; cache_pages = 0 }) g.I.Codec.spelling g.I.Codec.accepted None (g.D.Device.opened c.args.dev.now) (g.D.Device.opened c.next.new.dev) (g.D.Device.faults c.args.dev.now) (g.D.Device.faults c.next.new.dev))
    (run_then g.I.Record.place c.args.self.now (record c.records.self { index = c.next.new.self }) (record { values = c.records.invariant.1.values; tracking = c.records.invariant.1.tracking; tracked = c.records.invariant.1.tracked }) (walk_of c.next.new.self) refl c.records.self.has_failed refl same)
    (no_clauses (page_blob.ghosts g.row.S g.S.Seal g.S.Seal-dict) page_setting (λ f. record { page_size = 1; capacity = f.capacity; cache_pages = 0 }) g.D.Device.Tells (run_of g.I.Record.place c.args.self.now) (are_pages g.row.S g.S.Seal g.S.Seal-dict) g.I.Codec.spelling g.I.Codec.accepted g.I.Codec.refusal g.I.Record.location g.met.I.Record.spelled (g.D.Device.opened c.args.dev.now) (g.D.Device.time c.args.dev.now) (g.D.Device.faults c.args.dev.now) (here_run g.I.Record.place c.args.self.now g.met.I.CodecFixed.fixed.at_least) (walk_of c.records.self.index) (limits_of c.records.self.ends) c.records.self.ended_section c.records.self.has_failed (g.D.Device.opened c.records.dev) (g.D.Device.time c.records.dev) (g.D.Device.faults c.records.dev) c.records.invariant.0 c.next.result (walk_of c.next.new.self) (g.D.Device.opened c.next.new.dev) (g.D.Device.time c.next.new.dev) (g.D.Device.faults c.next.new.dev) says c.requires (λ t q. g.met.D.Device.as_read t c.args.dev.now q) (λ t s u held. open_there (g.D.Device.opened c.args.dev.now (key_of (run_of g.I.Record.place c.args.self.now).walk.journal.sections s)) _ _ _ (c.requires.index.over.opened_list.is_open s u held) (g.met.D.Device.opened_stands t c.args.dev.now (key_of (run_of g.I.Record.place c.args.self.now).walk.journal.sections s))) c.in_default.is (λ t q. g.met.D.Device.as_read t c.next.new.dev q))

pub records-init : goal.records-init
records-init g c = (running_start (page_blob.ghosts g.row.S g.S.Seal g.S.Seal-dict) page_setting (λ f. record { page_size = 1; capacity = f.capacity; cache_pages = 0 }) g.D.Device.Tells (run_of g.I.Record.place c.args.self.now) (g.D.Device.opened c.args.dev.now) (g.D.Device.time c.args.dev.now) (g.D.Device.faults c.args.dev.now) c.requires, parts_start g.I.Record.place c.args.self.now, λ is. refl)

pub sorted-requires-clause-values : goal.sorted-requires-clause-values
sorted-requires-clause-values g c =
    let says : Says g.S.Seal.seal_of g.I.CodecFixed.SIZE (page_blob.ghosts g.row.S g.S.Seal g.S.Seal-dict) page_setting g.D.Device.Tells g.I.Codec.spelling g.I.Codec.accepted g.I.Codec.refusal c.next.result (walk_of c.records.self.index) (walk_of c.next.new.self) (g.D.Device.opened c.records.dev) (g.D.Device.opened c.next.new.dev) (g.D.Device.time c.records.dev) (g.D.Device.time c.next.new.dev) (g.D.Device.faults c.records.dev) (g.D.Device.faults c.next.new.dev) = record { over = c.next.ensures.over; same = c.next.ensures.same; item = c.next.ensures.item; going = c.next.ensures.going; stays = c.next.ensures.stays; known = c.next.ensures.known; items = c.next.ensures.items; floors = c.next.ensures.floors; held = c.next.ensures.held; bytes = c.next.ensures.bytes; unsettled = c.next.ensures.unsettled; nearer = c.next.ensures.nearer; none = c.next.ensures.none; drained = c.next.ensures.drained; whole = c.next.ensures.whole; onward = c.next.ensures.onward; later = c.next.ensures.later; failed = c.next.ensures.failed; stops = c.next.ensures.stops; start = λ t p is. (let x = c.next.ensures.start t p is in (x.0, x.1)); damage = λ t y is. (let x = c.next.ensures.damage t y is in (x.0, x.1)); damaged = λ t k is. (c.next.ensures.damaged t k is).damage; refused = c.next.ensures.refused; ends = c.next.ensures.ends; ends_cut = c.next.ensures.ends_cut; moments = c.next.ensures.moments; entries = c.next.ensures.entries; faults = c.next.ensures.faults; cause = c.next.ensures.cause; ended = λ is. (let p = c.next.ensures.ended is in (p.0, ap walk_of p.1, ap g.D.Device.opened p.2, ap g.D.Device.time p.2)) } in
    glob_as (sym c.records.invariant.1.values) (λ f. record { page_size = 1; capacity = f.capacity; cache_pages = 0 }) g.D.Device.Tells (g.D.Device.opened c.next.new.dev) (disk (g.D.Device.time c.next.new.dev)) (next_glob (page_blob.ghosts g.row.S g.S.Seal g.S.Seal-dict) page_setting (λ f. record { page_size = 1; capacity = f.capacity; cache_pages = 0 }) g.D.Device.Tells (run_of g.I.Record.place c.args.self.now) (are_pages g.row.S g.S.Seal g.S.Seal-dict) g.I.Codec.spelling g.I.Codec.accepted g.I.Codec.refusal g.I.Record.location g.met.I.Record.spelled (g.D.Device.opened c.args.dev.now) (g.D.Device.time c.args.dev.now) (g.D.Device.faults c.args.dev.now) (here_run g.I.Record.place c.args.self.now g.met.I.CodecFixed.fixed.at_least) (walk_of c.records.self.index) (limits_of c.records.self.ends) c.records.self.ended_section c.records.self.has_failed (g.D.Device.opened c.records.dev) (g.D.Device.time c.records.dev) (g.D.Device.faults c.records.dev) c.records.invariant.0 c.next.result (walk_of c.next.new.self) (g.D.Device.opened c.next.new.dev) (g.D.Device.time c.next.new.dev) (g.D.Device.faults c.next.new.dev) says)

pub sorted-requires-clause-floor : goal.sorted-requires-clause-floor
sorted-requires-clause-floor g c tracked = values_unfloored g.I.Record.place c.args.self.now c.records.self c.records.invariant.1 (λ is. (c.requires.opening is).values_floor) tracked

pub records-preserved : goal.records-preserved
records-preserved g c =
    let says : Says g.S.Seal.seal_of g.I.CodecFixed.SIZE (page_blob.ghosts g.row.S g.S.Seal g.S.Seal-dict) page_setting g.D.Device.Tells g.I.Codec.spelling g.I.Codec.accepted g.I.Codec.refusal c.next.result (walk_of c.records.self.index) (walk_of c.next.new.self) (g.D.Device.opened c.records.dev) (g.D.Device.opened c.next.new.dev) (g.D.Device.time c.records.dev) (g.D.Device.time c.next.new.dev) (g.D.Device.faults c.records.dev) (g.D.Device.faults c.next.new.dev) = record { over = c.next.ensures.over; same = c.next.ensures.same; item = c.next.ensures.item; going = c.next.ensures.going; stays = c.next.ensures.stays; known = c.next.ensures.known; items = c.next.ensures.items; floors = c.next.ensures.floors; held = c.next.ensures.held; bytes = c.next.ensures.bytes; unsettled = c.next.ensures.unsettled; nearer = c.next.ensures.nearer; none = c.next.ensures.none; drained = c.next.ensures.drained; whole = c.next.ensures.whole; onward = c.next.ensures.onward; later = c.next.ensures.later; failed = c.next.ensures.failed; stops = c.next.ensures.stops; start = λ t p is. (let x = c.next.ensures.start t p is in (x.0, x.1)); damage = λ t y is. (let x = c.next.ensures.damage t y is in (x.0, x.1)); damaged = λ t k is. (c.next.ensures.damaged t k is).damage; refused = c.next.ensures.refused; ends = c.next.ensures.ends; ends_cut = c.next.ensures.ends_cut; moments = c.next.ensures.moments; entries = c.next.ensures.entries; faults = c.next.ensures.faults; cause = c.next.ensures.cause; ended = λ is. (let p = c.next.ensures.ended is in (p.0, ap walk_of p.1, ap g.D.Device.opened p.2, ap g.D.Device.time p.2)) } in
    let same : SameWalk (walk_of c.args.self.now.index) (walk_of c.next.new.self) = (all_went (page_blob.ghosts g.row.S g.S.Seal g.S.Seal-dict) page_setting (λ f. record { page_size = 1; capacity = f.capacity; cache_pages = 0 }) g.D.Device.Tells (run_of g.I.Record.place c.args.self.now) (are_pages g.row.S g.S.Seal g.S.Seal-dict) g.I.Codec.spelling g.I.Codec.accepted g.I.Codec.refusal g.I.Record.location g.met.I.Record.spelled (g.D.Device.opened c.args.dev.now) (g.D.Device.time c.args.dev.now) (g.D.Device.faults c.args.dev.now) (here_run g.I.Record.place c.args.self.now g.met.I.CodecFixed.fixed.at_least) (walk_of c.records.self.index) (limits_of c.records.self.ends) c.records.self.ended_section c.records.self.has_failed (g.D.Device.opened c.records.dev) (g.D.Device.time c.records.dev) (g.D.Device.faults c.records.dev) c.records.invariant.0 c.next.result (walk_of c.next.new.self) (g.D.Device.opened c.next.new.dev) (g.D.Device.time c.next.new.dev) (g.D.Device.faults c.next.new.dev) says).same in
    let first : Sorted (λ f. record { page_size = 1; capacity = f.capacity; cache_pages = 0 }) g.D.Device.Tells (run_of g.I.Record.place (record c.records.self { index = c.next.new.self })) g.I.Record.location c.in-Some.given c.sorted.result (limits_of c.sorted.new.self.ends) c.sorted.new.self.ended_section (g.D.Device.opened c.next.new.dev) (g.D.Device.opened c.sorted.new.dev) (g.D.Device.time c.next.new.dev) (g.D.Device.time c.sorted.new.dev) (g.D.Device.faults c.next.new.dev) (g.D.Device.faults c.sorted.new.dev) = record { passed = λ x is. (let p = c.sorted.ensures.passed x is in (p.0, ends_as p.1, section_as p.1, ap g.D.Device.opened p.2, ap g.D.Device.time p.2, ap g.D.Device.faults p.2)); kept = c.sorted.ensures.kept; sorts = λ t s p v is. sorts_as (run_of g.I.Record.place (record c.records.self { index = c.next.new.self })) (run_of g.I.Record.place c.sorted.new.self) c.sorted.new.self.ended_section (disk (g.D.Device.time c.next.new.dev)) s p (g.I.Record.location v) (λ r. IsSome r) c.sorted.result (c.sorted.ensures.sorts t s p v is); ends_from = c.sorted.ensures.ends_from; live = λ un. (let p = c.sorted.ensures.live un in (ends_as p, section_as p)); goes_on = c.sorted.ensures.goes_on; breaks = c.sorted.ensures.ended; stays = c.sorted.ensures.stays; glob = glob_as c.sorted.ensures.values (λ f. record { page_size = 1; capacity = f.capacity; cache_pages = 0 }) g.D.Device.Tells (g.D.Device.opened c.sorted.new.dev) (disk (g.D.Device.time c.sorted.new.dev)) c.sorted.ensures.glob; unchanged = c.sorted.ensures.unchanged; read = c.sorted.ensures.read; idle = λ s p v is why. ap g.D.Device.opened (c.sorted.ensures.idle s p v is why); faults = c.sorted.ensures.faults; cause = c.sorted.ensures.cause } in
    let sorted : Sorted (λ f. record { page_size = 1; capacity = f.capacity; cache_pages = 0 }) g.D.Device.Tells (moved (run_of g.I.Record.place c.args.self.now) (walk_of c.next.new.self) (limits_of c.records.self.ends) c.records.self.ended_section c.records.self.has_failed) g.I.Record.location c.in-Some.given c.sorted.result (limits_of c.sorted.new.self.ends) c.sorted.new.self.ended_section (g.D.Device.opened c.next.new.dev) (g.D.Device.opened c.sorted.new.dev) (g.D.Device.time c.next.new.dev) (g.D.Device.time c.sorted.new.dev) (g.D.Device.faults c.next.new.dev) (g.D.Device.faults c.sorted.new.dev) =
    subst (λ (m : Run _ _). Sorted (λ f. record { page_size = 1; capacity = f.capacity; cache_pages = 0 }) g.D.Device.Tells m g.I.Record.location c.in-Some.given c.sorted.result (limits_of c.sorted.new.self.ends) c.sorted.new.self.ended_section (g.D.Device.opened c.next.new.dev) (g.D.Device.opened c.sorted.new.dev) (g.D.Device.time c.next.new.dev) (g.D.Device.time c.sorted.new.dev) (g.D.Device.faults c.next.new.dev) (g.D.Device.faults c.sorted.new.dev)) (sym (run_moved g.I.Record.place c.args.self.now (record c.records.self { index = c.next.new.self }) (record { values = c.records.invariant.1.values; tracking = c.records.invariant.1.tracking; tracked = c.records.invariant.1.tracked }) same)) first in
    let going = gave_going g.S.Seal.seal_of g.I.CodecFixed.SIZE (page_blob.ghosts g.row.S g.S.Seal g.S.Seal-dict) page_setting g.D.Device.Tells g.I.Codec.spelling g.I.Codec.accepted g.I.Codec.refusal c.next.result (walk_of c.records.self.index) (walk_of c.next.new.self) (g.D.Device.opened c.records.dev) (g.D.Device.opened c.next.new.dev) (g.D.Device.time c.records.dev) (g.D.Device.time c.next.new.dev) (g.D.Device.faults c.records.dev) (g.D.Device.faults c.next.new.dev) says c.in-Some.given c.in-Some.is in
    let ok : c.sorted.result ≡ Ok None = (let at = c.in-Ok-None.field-0-is in let is = c.in-Ok-None.is in cc (is, at)) in (
      loop_then g.I.Record.place (page_blob.ghosts g.row.S g.S.Seal g.S.Seal-dict) page_setting (λ f. record { page_size = 1; capacity = f.capacity; cache_pages = 0 }) g.D.Device.Tells c.args.self.now c.sorted.new.self (g.D.Device.opened c.args.dev.now) (g.D.Device.time c.args.dev.now) (g.D.Device.faults c.args.dev.now) (walk_of c.next.new.self) (ap walk_of (sym c.sorted.ensures.index)) c.records.self.has_failed (sym c.sorted.ensures.failed) (g.D.Device.opened c.sorted.new.dev) (g.D.Device.time c.sorted.new.dev) (g.D.Device.faults c.sorted.new.dev) (running_on (page_blob.ghosts g.row.S g.S.Seal g.S.Seal-dict) page_setting (λ f. record { page_size = 1; capacity = f.capacity; cache_pages = 0 }) g.D.Device.Tells (run_of g.I.Record.place c.args.self.now) (are_pages g.row.S g.S.Seal g.S.Seal-dict) g.I.Codec.spelling g.I.Codec.accepted g.I.Codec.refusal g.I.Record.location g.met.I.Record.spelled (g.D.Device.opened c.args.dev.now) (g.D.Device.time c.args.dev.now) (g.D.Device.faults c.args.dev.now) (here_run g.I.Record.place c.args.self.now g.met.I.CodecFixed.fixed.at_least) (walk_of c.records.self.index) (limits_of c.records.self.ends) c.records.self.ended_section c.records.self.has_failed (g.D.Device.opened c.records.dev) (g.D.Device.time c.records.dev) (g.D.Device.faults c.records.dev) c.records.invariant.0 c.next.result (walk_of c.next.new.self) (g.D.Device.opened c.next.new.dev) (g.D.Device.time c.next.new.dev) (g.D.Device.faults c.next.new.dev) says c.in-Some.given c.in-Some.is c.sorted.result (limits_of c.sorted.new.self.ends) c.sorted.new.self.ended_section (g.D.Device.opened c.sorted.new.dev) (g.D.Device.time c.sorted.new.dev) (g.D.Device.faults c.sorted.new.dev) sorted (λ t q. g.met.D.Device.as_read t c.next.new.dev q) ok),
      record { values = c.sorted.ensures.values ∙ c.records.invariant.1.values; tracking = c.sorted.ensures.tracking ∙ c.records.invariant.1.tracking; tracked = c.sorted.ensures.tracked ∙ c.records.invariant.1.tracked },
      λ is. (let ended = c.records.invariant.0.goes.ended ∙ is in absurd (cc (going, ended))),
    )

pub returns-in-Ok-Some-clause-over : goal.returns-in-Ok-Some-clause-over
returns-in-Ok-Some-clause-over g c = (in_some g c).over

pub returns-in-Ok-Some-clause-same : goal.returns-in-Ok-Some-clause-same
returns-in-Ok-Some-clause-same g c = (in_some g c).same

pub returns-in-Ok-Some-clause-codec_config : goal.returns-in-Ok-Some-clause-codec_config
returns-in-Ok-Some-clause-codec_config g c = config_as (c.sorted.ensures.values ∙ c.records.invariant.1.values)

pub returns-in-Ok-Some-clause-item : goal.returns-in-Ok-Some-clause-item
returns-in-Ok-Some-clause-item g c = (in_some g c).item

pub returns-in-Ok-Some-clause-going : goal.returns-in-Ok-Some-clause-going
returns-in-Ok-Some-clause-going g c = (in_some g c).going

pub returns-in-Ok-Some-clause-none : goal.returns-in-Ok-Some-clause-none
returns-in-Ok-Some-clause-none g c = (in_some g c).none

pub returns-in-Ok-Some-clause-drained : goal.returns-in-Ok-Some-clause-drained
returns-in-Ok-Some-clause-drained g c = (in_some g c).drained

pub returns-in-Ok-Some-clause-whole : goal.returns-in-Ok-Some-clause-whole
returns-in-Ok-Some-clause-whole g c = (in_some g c).whole

pub returns-in-Ok-Some-clause-failed : goal.returns-in-Ok-Some-clause-failed
returns-in-Ok-Some-clause-failed g c = (in_some g c).failed

pub returns-in-Ok-Some-clause-stops : goal.returns-in-Ok-Some-clause-stops
returns-in-Ok-Some-clause-stops g c = (in_some g c).stops

pub returns-in-Ok-Some-clause-nearer : goal.returns-in-Ok-Some-clause-nearer
returns-in-Ok-Some-clause-nearer g c = (in_some g c).nearer

pub returns-in-Ok-Some-clause-ends : goal.returns-in-Ok-Some-clause-ends
returns-in-Ok-Some-clause-ends g c = (in_some g c).ends

pub returns-in-Ok-Some-clause-ends_cut : goal.returns-in-Ok-Some-clause-ends_cut
returns-in-Ok-Some-clause-ends_cut g c = (in_some g c).ends_cut

pub returns-in-Ok-Some-clause-ended : goal.returns-in-Ok-Some-clause-ended
returns-in-Ok-Some-clause-ended g c = λ is.
    let says : Says g.S.Seal.seal_of g.I.CodecFixed.SIZE (page_blob.ghosts g.row.S g.S.Seal g.S.Seal-dict) page_setting g.D.Device.Tells g.I.Codec.spelling g.I.Codec.accepted g.I.Codec.refusal c.next.result (walk_of c.records.self.index) (walk_of c.next.new.self) (g.D.Device.opened c.records.dev) (g.D.Device.opened c.next.new.dev) (g.D.Device.time c.records.dev) (g.D.Device.time c.next.new.dev) (g.D.Device.faults c.records.dev) (g.D.Device.faults c.next.new.dev) = record { over = c.next.ensures.over; same = c.next.ensures.same; item = c.next.ensures.item; going = c.next.ensures.going; stays = c.next.ensures.stays; known = c.next.ensures.known; items = c.next.ensures.items; floors = c.next.ensures.floors; held = c.next.ensures.held; bytes = c.next.ensures.bytes; unsettled = c.next.ensures.unsettled; nearer = c.next.ensures.nearer; none = c.next.ensures.none; drained = c.next.ensures.drained; whole = c.next.ensures.whole; onward = c.next.ensures.onward; later = c.next.ensures.later; failed = c.next.ensures.failed; stops = c.next.ensures.stops; start = λ t p is. (let x = c.next.ensures.start t p is in (x.0, x.1)); damage = λ t y is. (let x = c.next.ensures.damage t y is in (x.0, x.1)); damaged = λ t k is. (c.next.ensures.damaged t k is).damage; refused = c.next.ensures.refused; ends = c.next.ensures.ends; ends_cut = c.next.ensures.ends_cut; moments = c.next.ensures.moments; entries = c.next.ensures.entries; faults = c.next.ensures.faults; cause = c.next.ensures.cause; ended = λ is. (let p = c.next.ensures.ended is in (p.0, ap walk_of p.1, ap g.D.Device.opened p.2, ap g.D.Device.time p.2)) } in
    let going = gave_going g.S.Seal.seal_of g.I.CodecFixed.SIZE (page_blob.ghosts g.row.S g.S.Seal g.S.Seal-dict) page_setting g.D.Device.Tells g.I.Codec.spelling g.I.Codec.accepted g.I.Codec.refusal c.next.result (walk_of c.records.self.index) (walk_of c.next.new.self) (g.D.Device.opened c.records.dev) (g.D.Device.opened c.next.new.dev) (g.D.Device.time c.records.dev) (g.D.Device.time c.next.new.dev) (g.D.Device.faults c.records.dev) (g.D.Device.faults c.next.new.dev) says c.in-Some.given c.in-Some.is in
    let ended = c.records.invariant.0.goes.ended ∙ is in
    absurd (cc (going, ended))

pub returns-in-Ok-Some-clause-kept : goal.returns-in-Ok-Some-clause-kept
returns-in-Ok-Some-clause-kept g c = (in_some g c).images.kept

pub returns-in-Ok-Some-clause-given : goal.returns-in-Ok-Some-clause-given
returns-in-Ok-Some-clause-given g c = (in_some g c).images.given

pub returns-in-Ok-Some-clause-lawful : goal.returns-in-Ok-Some-clause-lawful
returns-in-Ok-Some-clause-lawful g c = (in_some g c).images.lawful

pub returns-in-Ok-Some-clause-spelled : goal.returns-in-Ok-Some-clause-spelled
returns-in-Ok-Some-clause-spelled g c = (in_some g c).images.spelled

pub returns-in-Ok-Some-clause-moments : goal.returns-in-Ok-Some-clause-moments
returns-in-Ok-Some-clause-moments g c = (in_some g c).images.moments

pub returns-in-Ok-Some-clause-opened : goal.returns-in-Ok-Some-clause-opened
returns-in-Ok-Some-clause-opened g c = (in_some g c).images.opened

pub returns-in-Ok-Some-clause-lists : goal.returns-in-Ok-Some-clause-lists
returns-in-Ok-Some-clause-lists g c = (in_some g c).images.lists

pub returns-in-Ok-Some-clause-sound : goal.returns-in-Ok-Some-clause-sound
returns-in-Ok-Some-clause-sound g c = (in_some g c).images.sound

pub returns-in-Ok-Some-clause-keeps : goal.returns-in-Ok-Some-clause-keeps
returns-in-Ok-Some-clause-keeps g c = (in_some g c).images.keeps

pub returns-in-Ok-Some-clause-flushed : goal.returns-in-Ok-Some-clause-flushed
returns-in-Ok-Some-clause-flushed g c = (in_some g c).images.flushed

pub returns-in-Ok-Some-clause-untouched : goal.returns-in-Ok-Some-clause-untouched
returns-in-Ok-Some-clause-untouched g c = (in_some g c).images.untouched

pub returns-in-Ok-Some-clause-still : goal.returns-in-Ok-Some-clause-still
returns-in-Ok-Some-clause-still g c = (in_some g c).images.still

pub returns-in-Ok-Some-clause-idle : goal.returns-in-Ok-Some-clause-idle
returns-in-Ok-Some-clause-idle g c = (in_some g c).images.idle

pub returns-in-Ok-Some-clause-reads : goal.returns-in-Ok-Some-clause-reads
returns-in-Ok-Some-clause-reads g c = (in_some g c).reads

pub returns-in-Ok-Some-clause-unread : goal.returns-in-Ok-Some-clause-unread
returns-in-Ok-Some-clause-unread g c = (in_some g c).unread

pub returns-in-Ok-Some-clause-entries : goal.returns-in-Ok-Some-clause-entries
returns-in-Ok-Some-clause-entries g c = (in_some g c).entries

pub returns-in-Ok-Some-clause-start : goal.returns-in-Ok-Some-clause-start
returns-in-Ok-Some-clause-start g c = (in_some g c).start

pub returns-in-Ok-Some-clause-damage : goal.returns-in-Ok-Some-clause-damage
returns-in-Ok-Some-clause-damage g c = (in_some g c).damage

pub returns-in-Ok-Some-clause-damaged : goal.returns-in-Ok-Some-clause-damaged
returns-in-Ok-Some-clause-damaged g c = (in_some g c).damaged

pub returns-in-Ok-Some-clause-refused : goal.returns-in-Ok-Some-clause-refused
returns-in-Ok-Some-clause-refused g c = (in_some g c).refused

pub returns-in-Ok-Some-clause-complete : goal.returns-in-Ok-Some-clause-complete
returns-in-Ok-Some-clause-complete g c = (in_some g c).complete

pub returns-in-Ok-Some-clause-faults : goal.returns-in-Ok-Some-clause-faults
returns-in-Ok-Some-clause-faults g c = (in_some g c).faults

pub returns-in-Ok-Some-clause-cause : goal.returns-in-Ok-Some-clause-cause
returns-in-Ok-Some-clause-cause g c = (in_some g c).cause

pub returns-in-Err-clause-over : goal.returns-in-Err-clause-over
returns-in-Err-clause-over g c = (in_error g c).over

pub returns-in-Err-clause-same : goal.returns-in-Err-clause-same
returns-in-Err-clause-same g c = (in_error g c).same

pub returns-in-Err-clause-codec_config : goal.returns-in-Err-clause-codec_config
returns-in-Err-clause-codec_config g c = config_as (c.sorted.ensures.values ∙ c.records.invariant.1.values)

pub returns-in-Err-clause-item : goal.returns-in-Err-clause-item
returns-in-Err-clause-item g c = (in_error g c).item

pub returns-in-Err-clause-going : goal.returns-in-Err-clause-going
returns-in-Err-clause-going g c = (in_error g c).going

pub returns-in-Err-clause-none : goal.returns-in-Err-clause-none
returns-in-Err-clause-none g c = (in_error g c).none

pub returns-in-Err-clause-drained : goal.returns-in-Err-clause-drained
returns-in-Err-clause-drained g c = (in_error g c).drained

pub returns-in-Err-clause-whole : goal.returns-in-Err-clause-whole
returns-in-Err-clause-whole g c = (in_error g c).whole

pub returns-in-Err-clause-failed : goal.returns-in-Err-clause-failed
returns-in-Err-clause-failed g c = (in_error g c).failed

pub returns-in-Err-clause-stops : goal.returns-in-Err-clause-stops
returns-in-Err-clause-stops g c = (in_error g c).stops

pub returns-in-Err-clause-nearer : goal.returns-in-Err-clause-nearer
returns-in-Err-clause-nearer g c = (in_error g c).nearer

pub returns-in-Err-clause-ends : goal.returns-in-Err-clause-ends
returns-in-Err-clause-ends g c = (in_error g c).ends

pub returns-in-Err-clause-ends_cut : goal.returns-in-Err-clause-ends_cut
returns-in-Err-clause-ends_cut g c = (in_error g c).ends_cut

pub returns-in-Err-clause-ended : goal.returns-in-Err-clause-ended
returns-in-Err-clause-ended g c = λ is.
    let says : Says g.S.Seal.seal_of g.I.CodecFixed.SIZE (page_blob.ghosts g.row.S g.S.Seal g.S.Seal-dict) page_setting g.D.Device.Tells g.I.Codec.spelling g.I.Codec.accepted g.I.Codec.refusal c.next.result (walk_of c.records.self.index) (walk_of c.next.new.self) (g.D.Device.opened c.records.dev) (g.D.Device.opened c.next.new.dev) (g.D.Device.time c.records.dev) (g.D.Device.time c.next.new.dev) (g.D.Device.faults c.records.dev) (g.D.Device.faults c.next.new.dev) = record { over = c.next.ensures.over; same = c.next.ensures.same; item = c.next.ensures.item; going = c.next.ensures.going; stays = c.next.ensures.stays; known = c.next.ensures.known; items = c.next.ensures.items; floors = c.next.ensures.floors; held = c.next.ensures.held; bytes = c.next.ensures.bytes; unsettled = c.next.ensures.unsettled; nearer = c.next.ensures.nearer; none = c.next.ensures.none; drained = c.next.ensures.drained; whole = c.next.ensures.whole; onward = c.next.ensures.onward; later = c.next.ensures.later; failed = c.next.ensures.failed; stops = c.next.ensures.stops; start = λ t p is. (let x = c.next.ensures.start t p is in (x.0, x.1)); damage = λ t y is. (let x = c.next.ensures.damage t y is in (x.0, x.1)); damaged = λ t k is. (c.next.ensures.damaged t k is).damage; refused = c.next.ensures.refused; ends = c.next.ensures.ends; ends_cut = c.next.ensures.ends_cut; moments = c.next.ensures.moments; entries = c.next.ensures.entries; faults = c.next.ensures.faults; cause = c.next.ensures.cause; ended = λ is. (let p = c.next.ensures.ended is in (p.0, ap walk_of p.1, ap g.D.Device.opened p.2, ap g.D.Device.time p.2)) } in
    let going = gave_going g.S.Seal.seal_of g.I.CodecFixed.SIZE (page_blob.ghosts g.row.S g.S.Seal g.S.Seal-dict) page_setting g.D.Device.Tells g.I.Codec.spelling g.I.Codec.accepted g.I.Codec.refusal c.next.result (walk_of c.records.self.index) (walk_of c.next.new.self) (g.D.Device.opened c.records.dev) (g.D.Device.opened c.next.new.dev) (g.D.Device.time c.records.dev) (g.D.Device.time c.next.new.dev) (g.D.Device.faults c.records.dev) (g.D.Device.faults c.next.new.dev) says c.in-Some.given c.in-Some.is in
    let ended = c.records.invariant.0.goes.ended ∙ is in
    absurd (cc (going, ended))

pub returns-in-Err-clause-kept : goal.returns-in-Err-clause-kept
returns-in-Err-clause-kept g c = (in_error g c).images.kept

pub returns-in-Err-clause-given : goal.returns-in-Err-clause-given
returns-in-Err-clause-given g c = (in_error g c).images.given

pub returns-in-Err-clause-lawful : goal.returns-in-Err-clause-lawful
returns-in-Err-clause-lawful g c = (in_error g c).images.lawful

pub returns-in-Err-clause-spelled : goal.returns-in-Err-clause-spelled
returns-in-Err-clause-spelled g c = (in_error g c).images.spelled

pub returns-in-Err-clause-moments : goal.returns-in-Err-clause-moments
returns-in-Err-clause-moments g c = (in_error g c).images.moments

pub returns-in-Err-clause-opened : goal.returns-in-Err-clause-opened
returns-in-Err-clause-opened g c = (in_error g c).images.opened

pub returns-in-Err-clause-lists : goal.returns-in-Err-clause-lists
returns-in-Err-clause-lists g c = (in_error g c).images.lists

pub returns-in-Err-clause-sound : goal.returns-in-Err-clause-sound
returns-in-Err-clause-sound g c = (in_error g c).images.sound

pub returns-in-Err-clause-keeps : goal.returns-in-Err-clause-keeps
returns-in-Err-clause-keeps g c = (in_error g c).images.keeps

pub returns-in-Err-clause-flushed : goal.returns-in-Err-clause-flushed
returns-in-Err-clause-flushed g c = (in_error g c).images.flushed

pub returns-in-Err-clause-untouched : goal.returns-in-Err-clause-untouched
returns-in-Err-clause-untouched g c = (in_error g c).images.untouched

pub returns-in-Err-clause-still : goal.returns-in-Err-clause-still
returns-in-Err-clause-still g c = (in_error g c).images.still

pub returns-in-Err-clause-idle : goal.returns-in-Err-clause-idle
returns-in-Err-clause-idle g c = (in_error g c).images.idle

pub returns-in-Err-clause-reads : goal.returns-in-Err-clause-reads
returns-in-Err-clause-reads g c = (in_error g c).reads

pub returns-in-Err-clause-unread : goal.returns-in-Err-clause-unread
returns-in-Err-clause-unread g c = (in_error g c).unread

pub returns-in-Err-clause-entries : goal.returns-in-Err-clause-entries
returns-in-Err-clause-entries g c = (in_error g c).entries

pub returns-in-Err-clause-start : goal.returns-in-Err-clause-start
returns-in-Err-clause-start g c = (in_error g c).start

pub returns-in-Err-clause-damage : goal.returns-in-Err-clause-damage
returns-in-Err-clause-damage g c = (in_error g c).damage

pub returns-in-Err-clause-damaged : goal.returns-in-Err-clause-damaged
returns-in-Err-clause-damaged g c = (in_error g c).damaged

pub returns-in-Err-clause-refused : goal.returns-in-Err-clause-refused
returns-in-Err-clause-refused g c = (in_error g c).refused

pub returns-in-Err-clause-complete : goal.returns-in-Err-clause-complete
returns-in-Err-clause-complete g c = (in_error g c).complete

pub returns-in-Err-clause-faults : goal.returns-in-Err-clause-faults
returns-in-Err-clause-faults g c = (in_error g c).faults

pub returns-in-Err-clause-cause : goal.returns-in-Err-clause-cause
returns-in-Err-clause-cause g c = (in_error g c).cause

pub returns-clause-over : goal.returns-clause-over
returns-clause-over g c = (in_none g c).over

pub returns-clause-same : goal.returns-clause-same
returns-clause-same g c = (in_none g c).same

pub returns-clause-codec_config : goal.returns-clause-codec_config
returns-clause-codec_config g c = config_as c.records.invariant.1.values

pub returns-clause-item : goal.returns-clause-item
returns-clause-item g c = (in_none g c).item

pub returns-clause-going : goal.returns-clause-going
returns-clause-going g c = (in_none g c).going

pub returns-clause-none : goal.returns-clause-none
returns-clause-none g c = (in_none g c).none

pub returns-clause-drained : goal.returns-clause-drained
returns-clause-drained g c = (in_none g c).drained

pub returns-clause-whole : goal.returns-clause-whole
returns-clause-whole g c = (in_none g c).whole

pub returns-clause-failed : goal.returns-clause-failed
returns-clause-failed g c = (in_none g c).failed

pub returns-clause-stops : goal.returns-clause-stops
returns-clause-stops g c = (in_none g c).stops

pub returns-clause-nearer : goal.returns-clause-nearer
returns-clause-nearer g c = (in_none g c).nearer

pub returns-clause-ends : goal.returns-clause-ends
returns-clause-ends g c = (in_none g c).ends

pub returns-clause-ends_cut : goal.returns-clause-ends_cut
returns-clause-ends_cut g c = (in_none g c).ends_cut

pub returns-clause-ended : goal.returns-clause-ended
returns-clause-ended g c = λ is.
    let says : Says g.S.Seal.seal_of g.I.CodecFixed.SIZE (page_blob.ghosts g.row.S g.S.Seal g.S.Seal-dict) page_setting g.D.Device.Tells g.I.Codec.spelling g.I.Codec.accepted g.I.Codec.refusal c.next.result (walk_of c.records.self.index) (walk_of c.next.new.self) (g.D.Device.opened c.records.dev) (g.D.Device.opened c.next.new.dev) (g.D.Device.time c.records.dev) (g.D.Device.time c.next.new.dev) (g.D.Device.faults c.records.dev) (g.D.Device.faults c.next.new.dev) = record { over = c.next.ensures.over; same = c.next.ensures.same; item = c.next.ensures.item; going = c.next.ensures.going; stays = c.next.ensures.stays; known = c.next.ensures.known; items = c.next.ensures.items; floors = c.next.ensures.floors; held = c.next.ensures.held; bytes = c.next.ensures.bytes; unsettled = c.next.ensures.unsettled; nearer = c.next.ensures.nearer; none = c.next.ensures.none; drained = c.next.ensures.drained; whole = c.next.ensures.whole; onward = c.next.ensures.onward; later = c.next.ensures.later; failed = c.next.ensures.failed; stops = c.next.ensures.stops; start = λ t p is. (let x = c.next.ensures.start t p is in (x.0, x.1)); damage = λ t y is. (let x = c.next.ensures.damage t y is in (x.0, x.1)); damaged = λ t k is. (c.next.ensures.damaged t k is).damage; refused = c.next.ensures.refused; ends = c.next.ensures.ends; ends_cut = c.next.ensures.ends_cut; moments = c.next.ensures.moments; entries = c.next.ensures.entries; faults = c.next.ensures.faults; cause = c.next.ensures.cause; ended = λ is. (let p = c.next.ensures.ended is in (p.0, ap walk_of p.1, ap g.D.Device.opened p.2, ap g.D.Device.time p.2)) } in
    let ended = c.records.invariant.0.goes.ended ∙ is in
    (refl, ended_on g.S.Seal.seal_of g.I.CodecFixed.SIZE (page_blob.ghosts g.row.S g.S.Seal g.S.Seal-dict) page_setting g.D.Device.Tells g.I.Codec.spelling g.I.Codec.accepted g.I.Codec.refusal c.next.result (walk_of c.records.self.index) (walk_of c.next.new.self) (g.D.Device.opened c.records.dev) (g.D.Device.opened c.next.new.dev) (g.D.Device.time c.records.dev) (g.D.Device.time c.next.new.dev) (g.D.Device.faults c.records.dev) (g.D.Device.faults c.next.new.dev) says ended, (c.next.ensures.ended ended).2 ∙ c.records.invariant.2 is)

pub returns-clause-kept : goal.returns-clause-kept
returns-clause-kept g c = (in_none g c).images.kept

pub returns-clause-given : goal.returns-clause-given
returns-clause-given g c = (in_none g c).images.given

pub returns-clause-lawful : goal.returns-clause-lawful
returns-clause-lawful g c = (in_none g c).images.lawful

pub returns-clause-spelled : goal.returns-clause-spelled
returns-clause-spelled g c = (in_none g c).images.spelled

pub returns-clause-moments : goal.returns-clause-moments
returns-clause-moments g c = (in_none g c).images.moments

pub returns-clause-opened : goal.returns-clause-opened
returns-clause-opened g c = (in_none g c).images.opened

pub returns-clause-lists : goal.returns-clause-lists
returns-clause-lists g c = (in_none g c).images.lists

pub returns-clause-sound : goal.returns-clause-sound
returns-clause-sound g c = (in_none g c).images.sound

pub returns-clause-keeps : goal.returns-clause-keeps
returns-clause-keeps g c = (in_none g c).images.keeps

pub returns-clause-flushed : goal.returns-clause-flushed
returns-clause-flushed g c = (in_none g c).images.flushed

pub returns-clause-untouched : goal.returns-clause-untouched
returns-clause-untouched g c = (in_none g c).images.untouched

pub returns-clause-still : goal.returns-clause-still
returns-clause-still g c = (in_none g c).images.still

pub returns-clause-idle : goal.returns-clause-idle
returns-clause-idle g c = (in_none g c).images.idle

pub returns-clause-reads : goal.returns-clause-reads
returns-clause-reads g c = (in_none g c).reads

pub returns-clause-unread : goal.returns-clause-unread
returns-clause-unread g c = (in_none g c).unread

pub returns-clause-entries : goal.returns-clause-entries
returns-clause-entries g c = (in_none g c).entries

pub returns-clause-start : goal.returns-clause-start
returns-clause-start g c = (in_none g c).start

pub returns-clause-damage : goal.returns-clause-damage
returns-clause-damage g c = (in_none g c).damage

pub returns-clause-damaged : goal.returns-clause-damaged
returns-clause-damaged g c = (in_none g c).damaged

pub returns-clause-refused : goal.returns-clause-refused
returns-clause-refused g c = (in_none g c).refused

pub returns-clause-complete : goal.returns-clause-complete
returns-clause-complete g c = (in_none g c).complete

pub returns-clause-faults : goal.returns-clause-faults
returns-clause-faults g c = (in_none g c).faults

pub returns-clause-cause : goal.returns-clause-cause
returns-clause-cause g c = (in_none g c).cause
