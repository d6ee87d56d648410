use Rattle.std.proofs.Common.{refl, sym, ◌∙◌}
use Rattle.archives.specs.Machine.{after_multi, after_put}
use Rattle.archives.specs.plain.Machine.{state_of}
use Rattle.archives.proofs.machine.Changes.{turned_as}
use Rattle.archives.proofs.machine.Lemmas.{put_free, put_taken}
use Rattle.archives.proofs.plain.Machine.put.Goals as goal

pub returns-then-has : goal.returns-then-has
returns-then-has g c =
    let m = c.args.self.now in
    record {
      done = refl;
      state = put_taken m.items_per_section c.args.index (g.K.Key.key_bytes c.args.key) c.args.value.now (state_of g.K.Key.key_bytes m) (sym c.has.ensures ∙ c.if-has.true);
      same = refl;
    }

pub returns : goal.returns
returns g c =
    let m = c.args.self.now in
    let kb = g.K.Key.key_bytes in
    turned_as kb m c.multi.new.self (after_multi m.items_per_section c.args.index (kb c.args.key) c.args.value.now) (after_put m.items_per_section c.args.index (kb c.args.key) c.args.value.now)
    (put_free m.items_per_section c.args.index (kb c.args.key) c.args.value.now (state_of kb m) (sym c.has.ensures ∙ c.if-has.false)) c.multi.result c.multi.ensures
