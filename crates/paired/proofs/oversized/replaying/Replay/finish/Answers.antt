use Rattle.std.proofs.Common.{◌≡◌, true, false, inl, refl, ap}
use Rattle.section_manager.specs.managing.Managed as managed
use Rattle.segments.specs.FixedLists as lists
use Rattle.segments.specs.FixedShown as fixed
use Rattle.paired.specs.glob.Sections as glob
use Rattle.paired.specs.Records.{entries_of}
use Rattle.paired.specs.ReplayShown.{run_of}
use Rattle.paired.specs.Replaying.{IsLiveRun, HasLostNone}
use Rattle.paired.proofs.SortLemmas.{proven_back, whole_back, markers_back, settled_back, sound_back}
use Rattle.paired.proofs.oversized.replaying.Replay.finish.Goals as goal

going : (b : _) → (b ≡ true → ⊥) → b ≡ false
going true never = absurd (never refl)
going false never = refl

pub returns-clause-back : goal.returns-clause-back
returns-clause-back g c =
    let run = run_of g.I.Record.place c.args.self in
    let says = c.in_ok-index.ensures in
    let values : managed.shown c.from.result.manager ≡ run.values = ap managed.shown c.from.ensures.0 in
    let none : IsLiveRun run → HasLostNone run = λ live. live.known (going run.walk.failed (λ failed. absurd (cc (says.replay_failed.1 (inl failed))))) in
    record {
      layout = record {
        index = ap (λ m. m.partition) says.sections;
        values = ap (λ m. m.partition) values;
        marked = refl;
        metadata = refl;
        page_size = ap (λ m. m.factory.pages.page_size) says.sections;
      };
      sections = says.sections;
      values = values;
      store = refl;
      trailing = refl;
      live = λ live. (
        whole_back run _ says.sections values refl refl refl (proven_back run.walk.journal (fixed.shown c.in_ok-index.index) run.walk.start_section run.walk.start_position says.recovered says.unrecovered says.lifted says.floors live.proven) (live.whole (none live)),
        markers_back run _ says.sections values refl refl refl (live.markers (none live)),
        settled_back run _ says.sections values refl refl refl (live.settled (none live)),
      );
      owes = λ walk. (says.held walk, says.settled walk);
      sealed = λ d over. (says.sealed d over, says.unopened d over);
    }

pub returns-clause-lists : goal.returns-clause-lists
returns-clause-lists g c d s =
    let run = run_of g.I.Record.place c.args.self in
    let says = c.in_ok-index.ensures in
    let values : managed.shown c.from.result.manager ≡ run.values = ap managed.shown c.from.ensures.0 in
    λ i. entries_of g.I.Record.place g.I.CodecFixed.SIZE (lists.section_bytes (says.sections i) d s) (glob.section_bytes (values i) d s)

pub returns-clause-sound : goal.returns-clause-sound
returns-clause-sound g c d sound =
    let run = run_of g.I.Record.place c.args.self in
    let says = c.in_ok-index.ensures in
    let values : managed.shown c.from.result.manager ≡ run.values = ap managed.shown c.from.ensures.0 in
    sound_back run _ says.sections values refl refl refl refl refl (ap (λ m. m.partition) says.sections) d sound
