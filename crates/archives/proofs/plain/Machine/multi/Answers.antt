use Rattle.std.proofs.Common.{◌∙◌, ap, refl, false}
use Rattle.std.proofs.lemmas.Bool.{le-ltb, lt-ltb}
use Rattle.archives.specs.Machine.{after_multi}
use Rattle.archives.specs.plain.Machine.{state_of, state_with}
use Rattle.archives.specs.declared.error.Error.TheVariants.{Mem}
use Rattle.archives.proofs.machine.Changes.{multi_low, multi_more, turned_not}
use Rattle.archives.proofs.plain.Machine.multi.Goals as goal
use Rattle.blob_device.proofs.general.Results.{err_of}

pub returns-then-index-self : goal.returns-then-index-self
returns-then-index-self g c =
    let m = c.args.self.now in
    record { done = refl; state = multi_low m.items_per_section c.args.index (g.K.Key.key_bytes c.args.key) c.args.value.now (state_of g.K.Key.key_bytes m) (lt-ltb c.args.index m.floor c.if-index-self.true); same = refl }

pub returns-in_err-value : goal.returns-in_err-value
returns-in_err-value g c =
    let m = c.args.self.now in
    turned_not g.K.Key.key_bytes m m (after_multi m.items_per_section c.args.index (g.K.Key.key_bytes c.args.key) c.args.value.now) c.from_residual.result Mem
    (err_of c.from_residual.result Mem c.from_residual.ensures.1) (record { cause = refl; unchanged = refl; same = refl })

pub returns-in_err-push : goal.returns-in_err-push
returns-in_err-push g c =
    let m = c.args.self.now in
    turned_not g.K.Key.key_bytes m _ (after_multi m.items_per_section c.args.index (g.K.Key.key_bytes c.args.key) c.args.value.now) c.from_residual-in_err-push.result Mem
    (err_of c.from_residual-in_err-push.result Mem c.from_residual-in_err-push.ensures.1)
    (record { cause = refl; unchanged = ap (state_with g.K.Key.key_bytes m.items_per_section m.floor m.is_open) c.in_err-push.ensures.items; same = refl })

pub returns : goal.returns
returns g c =
    let m = c.args.self.now in
    let kb = g.K.Key.key_bytes in
    record {
      done = refl;
      state = ap (state_with kb m.items_per_section m.floor m.is_open) c.in_ok-push.ensures.items
          ∙ multi_more kb m.items_per_section (record { index = c.args.index; key = c.args.key; value = c.in_ok-value.value; is_synced = false }) m.floor m.is_open m.items.items refl (le-ltb c.args.index m.floor c.if-index-self.false)
          ∙ ap (λ v. after_multi m.items_per_section c.args.index (kb c.args.key) v (state_of kb m)) (c.requires c.args.value.now c.in_ok-value.value c.in_ok-value.ensures.cases);
      same = refl;
    }
