use Rattle.std.proofs.Common.{◌≡◌, Err, Ok, refl, subst}
use Rattle.archives.specs.Commands.{Get, GetKey}
use Rattle.archives.specs.Machine.{after_destroy, after_multi, after_prune, after_put, after_sync}
use Rattle.archives.specs.declared.commands.Reply.TheVariants as answer
use Rattle.archives.proofs.machine.Indices.{reopened_carries, told_all, told_carries, told_none, told_value, turned_carries, turned_either}
use Rattle.archives.proofs.machine.Steps.{get_key_steps, has_key_steps}
use Rattle.archives.proofs.plain.Machine.step.Goals as goal
use Rattle.blob_device.proofs.general.Results.{err_of}

pub returns-in-All : goal.returns-in-All
returns-in-All g c = told_carries g.K.Key.key_bytes c.args.self.now c.if-not-self.false c.args.command.now _ c.in-All.is c.all.result c.all.ensures

pub returns-in-Gap : goal.returns-in-Gap
returns-in-Gap g c = told_carries g.K.Key.key_bytes c.args.self.now c.if-not-self.false c.args.command.now _ c.in-Gap.is c.next_gap.result c.next_gap.ensures

pub returns-in-Missing : goal.returns-in-Missing
returns-in-Missing g c = told_carries g.K.Key.key_bytes c.args.self.now c.if-not-self.false c.args.command.now _ c.in-Missing.is c.missing_items.result c.missing_items.ensures

pub returns-in-Ranges : goal.returns-in-Ranges
returns-in-Ranges g c = told_carries g.K.Key.key_bytes c.args.self.now c.if-not-self.false c.args.command.now _ c.in-Ranges.is c.ranges_from.result (told_all g.K.Key.key_bytes c.args.self.now c.ranges_from.result c.ranges_from.ensures)

pub returns-in-RangesFrom : goal.returns-in-RangesFrom
returns-in-RangesFrom g c = told_carries g.K.Key.key_bytes c.args.self.now c.if-not-self.false c.args.command.now _ c.in-RangesFrom.is c.ranges_from-in-RangesFrom.result c.ranges_from-in-RangesFrom.ensures

pub returns-in-First : goal.returns-in-First
returns-in-First g c = told_carries g.K.Key.key_bytes c.args.self.now c.if-not-self.false c.args.command.now _ c.in-First.is c.first_index.result c.first_index.ensures

pub returns-in-Last : goal.returns-in-Last
returns-in-Last g c = told_carries g.K.Key.key_bytes c.args.self.now c.if-not-self.false c.args.command.now _ c.in-Last.is c.last_index.result c.last_index.ensures

pub returns-in_ok-get-in-Get : goal.returns-in_ok-get-in-Get
returns-in_ok-get-in-Get g c = told_carries g.K.Key.key_bytes c.args.self.now c.if-not-self.false c.args.command.now _ c.in-Get.is (Ok (answer.Value c.in_ok-get-in-Get.field-0)) (told_value g.K.Key.key_bytes c.args.self.now c.in-Get.index c.in_ok-get-in-Get.field-0 c.in_ok-get-in-Get.ensures.value)

pub returns-in_ok-get_key-in-GetKey : goal.returns-in_ok-get_key-in-GetKey
returns-in_ok-get_key-in-GetKey g c = told_carries g.K.Key.key_bytes c.args.self.now c.if-not-self.false c.args.command.now _ c.in-GetKey.is (Ok (answer.Value c.in_ok-get_key-in-GetKey.field-0)) (get_key_steps g.K.Key.key_bytes c.args.self.now.items_per_section c.args.self.now.floor c.args.self.now.is_open g.K.PartialEq.eq g.met.K.Key.eq_by_bytes c.in-GetKey.key c.args.self.now.items.items c.in_ok-get_key-in-GetKey.field-0 c.in_ok-get_key-in-GetKey.ensures.value)

pub returns-in-Has : goal.returns-in-Has
returns-in-Has g c = told_carries g.K.Key.key_bytes c.args.self.now c.if-not-self.false c.args.command.now _ c.in-Has.is (Ok (answer.Flag c.has.result)) (c.has.ensures, refl)

pub returns-in-HasKey : goal.returns-in-HasKey
returns-in-HasKey g c = told_carries g.K.Key.key_bytes c.args.self.now c.if-not-self.false c.args.command.now _ c.in-HasKey.is (Ok (answer.Flag c.has_key.result)) (has_key_steps g.K.Key.key_bytes c.args.self.now.items_per_section c.args.self.now.floor c.args.self.now.is_open g.K.PartialEq.eq g.met.K.Key.eq_by_bytes c.in-HasKey.key c.args.self.now.items.items c.has_key.result c.has_key.ensures)

pub returns-in-HasAt : goal.returns-in-HasAt
returns-in-HasAt g c = told_carries g.K.Key.key_bytes c.args.self.now c.if-not-self.false c.args.command.now _ c.in-HasAt.is (Ok (answer.Flag c.has_at.result)) (c.has_at.ensures, refl)

pub returns-in-Put : goal.returns-in-Put
returns-in-Put g c = turned_carries g.K.Key.key_bytes c.args.self.now c.if-not-self.false c.put.new.self c.args.command.now _ (after_put c.args.self.now.items_per_section c.in-Put.index (g.K.Key.key_bytes c.in-Put.key) c.in-Put.value) c.in-Put.is (λ st. refl) c.put.result c.put.ensures

pub returns-in-PutSync : goal.returns-in-PutSync
returns-in-PutSync g c = turned_either g.K.Key.key_bytes c.args.self.now c.if-not-self.false c.put_and_sync.new.self c.args.command.now _ _ (λ st. after_sync (after_put c.args.self.now.items_per_section c.in-PutSync.index (g.K.Key.key_bytes c.in-PutSync.key) c.in-PutSync.value st)) c.in-PutSync.is (λ st. (refl, refl)) c.put_and_sync.result c.put_and_sync.ensures

pub returns-in-Multi : goal.returns-in-Multi
returns-in-Multi g c = turned_carries g.K.Key.key_bytes c.args.self.now c.if-not-self.false c.multi.new.self c.args.command.now _ (after_multi c.args.self.now.items_per_section c.in-Multi.index (g.K.Key.key_bytes c.in-Multi.key) c.in-Multi.value) c.in-Multi.is (λ st. refl) c.multi.result c.multi.ensures

pub returns-in-MultiSync : goal.returns-in-MultiSync
returns-in-MultiSync g c = turned_either g.K.Key.key_bytes c.args.self.now c.if-not-self.false c.multi_and_sync.new.self c.args.command.now _ _ (λ st. after_sync (after_multi c.args.self.now.items_per_section c.in-MultiSync.index (g.K.Key.key_bytes c.in-MultiSync.key) c.in-MultiSync.value st)) c.in-MultiSync.is (λ st. (refl, refl)) c.multi_and_sync.result c.multi_and_sync.ensures

pub returns-in-Sync : goal.returns-in-Sync
returns-in-Sync g c = turned_either g.K.Key.key_bytes c.args.self.now c.if-not-self.false c.sync.new.self c.args.command.now _ _ after_sync c.in-Sync.is (λ st. (refl, refl)) (Ok c.sync.result) c.sync.ensures

pub returns-in-Prune : goal.returns-in-Prune
returns-in-Prune g c = turned_carries g.K.Key.key_bytes c.args.self.now c.if-not-self.false c.prune.new.self c.args.command.now _ (after_prune c.args.self.now.items_per_section c.in-Prune.bound) c.in-Prune.is (λ st. refl) (Ok c.prune.result) c.prune.ensures

pub returns-in-Reopen : goal.returns-in-Reopen
returns-in-Reopen g c = reopened_carries g.K.Key.key_bytes c.args.self.now c.reopen.new.self c.args.command.now c.in-Reopen.is c.reopen.result c.reopen.ensures

pub returns-in-Destroy : goal.returns-in-Destroy
returns-in-Destroy g c = turned_carries g.K.Key.key_bytes c.args.self.now c.if-not-self.false c.destroy.new.self c.args.command.now _ after_destroy c.in-Destroy.is (λ st. refl) (Ok c.destroy.result) c.destroy.ensures

pub returns-then-not-self : goal.returns-then-not-self
returns-then-not-self g c = c.step_closed.ensures

pub returns-in_err-get-in-Get : goal.returns-in_err-get-in-Get
returns-in_err-get-in-Get g c =
    told_carries g.K.Key.key_bytes c.args.self.now c.if-not-self.false c.args.command.now _ c.in-Get.is c.from_residual.result
    (told_none g.K.Key.key_bytes c.args.self.now (Get c.in-Get.index) c.from_residual.result (subst (λ e. c.from_residual.result ≡ Err e) c.in_err-get-in-Get.ensures.memory (err_of c.from_residual.result c.in_err-get-in-Get.field-0.0 c.from_residual.ensures.1)))

pub returns-in_err-get_key-in-GetKey : goal.returns-in_err-get_key-in-GetKey
returns-in_err-get_key-in-GetKey g c =
    told_carries g.K.Key.key_bytes c.args.self.now c.if-not-self.false c.args.command.now _ c.in-GetKey.is c.from_residual-in_err-get_key-in-GetKey.result
    (told_none g.K.Key.key_bytes c.args.self.now (GetKey (g.K.Key.key_bytes c.in-GetKey.key)) c.from_residual-in_err-get_key-in-GetKey.result (subst (λ e. c.from_residual-in_err-get_key-in-GetKey.result ≡ Err e) c.in_err-get_key-in-GetKey.ensures.memory (err_of c.from_residual-in_err-get_key-in-GetKey.result c.in_err-get_key-in-GetKey.field-0.0 c.from_residual-in_err-get_key-in-GetKey.ensures.1)))
