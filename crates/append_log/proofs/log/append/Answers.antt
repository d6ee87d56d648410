use Rattle.std.proofs.Common.{IsSome, length, sym, subst, arith}
use Rattle.blob_device.specs.Disk.{Key}
use Rattle.blob_device.specs.lemmas.Stays.{stays_on, stays_start}
use Rattle.blob_device.specs.lemmas.Opened.{entered_open, entered_other, updated_open}
use Rattle.blob_device.specs.Opened.{OpenedList}
use Rattle.append_log.proofs.AppendedLemmas.{leaves, holds_stays, len_is, added, no_room, others_opened, others_grown}
use Rattle.append_log.proofs.log.append.Goals as goal

pub write_at-requires-clause-open : goal.write_at-requires-clause-open
write_at-requires-clause-open g c = entered_open _ _ _ _ c.in_ok-len.ensures.opened

pub sync-requires : goal.sync-requires
sync-requires g c = updated_open _ _ _ _ c.in_ok-write_at.ensures.opened (entered_open _ _ _ _ c.in_ok-len.ensures.opened)

pub returns-in_err-len-clause-any_moment : goal.returns-in_err-len-clause-any_moment
returns-in_err-len-clause-any_moment g c t =
    let k : Key = (c.args.partition.now, c.args.name.now) in
    let start = stays_start (g.D.Device.time c.args.dev.now) k _ _ (holds_stays (length c.args.bytes.now) _ (c.requires t)) in
    leaves (stays_on start (c.open_blob.ensures.told t) tt tt)

pub returns-then-bytes-len-clause-any_moment : goal.returns-then-bytes-len-clause-any_moment
returns-then-bytes-len-clause-any_moment g c t =
    let k : Key = (c.args.partition.now, c.args.name.now) in
    let start = stays_start (g.D.Device.time c.args.dev.now) k _ _ (holds_stays (length c.args.bytes.now) _ (c.requires t)) in
    leaves (stays_on start (c.open_blob.ensures.told t) tt tt)

pub returns-in_err-write_at-clause-any_moment : goal.returns-in_err-write_at-clause-any_moment
returns-in_err-write_at-clause-any_moment g c t =
    let k : Key = (c.args.partition.now, c.args.name.now) in
    let start = stays_start (g.D.Device.time c.args.dev.now) k _ _ (holds_stays (length c.args.bytes.now) _ (c.requires t)) in
    let is = len_is _ c.args.bytes.now _ (c.requires t) (c.in_ok-len.ensures.told t) (c.in_ok-len.ensures.length t) in
    leaves (stays_on (stays_on start (c.open_blob.ensures.told t) tt tt) (c.write_at.ensures.told t) (omega (arith, is)) (omega (arith, is)))

pub returns-in_err-sync-clause-any_moment : goal.returns-in_err-sync-clause-any_moment
returns-in_err-sync-clause-any_moment g c t =
    let k : Key = (c.args.partition.now, c.args.name.now) in
    let start = stays_start (g.D.Device.time c.args.dev.now) k _ _ (holds_stays (length c.args.bytes.now) _ (c.requires t)) in
    let is = len_is _ c.args.bytes.now _ (c.requires t) (c.in_ok-len.ensures.told t) (c.in_ok-len.ensures.length t) in
    leaves (stays_on (stays_on (stays_on start (c.open_blob.ensures.told t) tt tt) (c.write_at.ensures.told t) (omega (arith, is)) (omega (arith, is))) (c.sync.ensures.told t) tt tt)

pub returns-clause-any_moment : goal.returns-clause-any_moment
returns-clause-any_moment g c t =
    let k : Key = (c.args.partition.now, c.args.name.now) in
    let start = stays_start (g.D.Device.time c.args.dev.now) k _ _ (holds_stays (length c.args.bytes.now) _ (c.requires t)) in
    let is = len_is _ c.args.bytes.now _ (c.requires t) (c.in_ok-len.ensures.told t) (c.in_ok-len.ensures.length t) in
    leaves (stays_on (stays_on (stays_on start (c.open_blob.ensures.told t) tt tt) (c.write_at.ensures.told t) (omega (arith, is)) (omega (arith, is))) (c.sync.ensures.told t) tt tt)

pub returns-clause-done : goal.returns-clause-done
returns-clause-done g c t =
    added _ c.args.bytes.now _ (c.requires t) (c.in_ok-len.ensures.told t) (c.in_ok-len.ensures.length t) _ _ (c.in_ok-write_at.ensures.told t) (c.in_ok-sync.ensures.told t)

pub returns-then-bytes-len-clause-other_entries : goal.returns-then-bytes-len-clause-other_entries
returns-then-bytes-len-clause-other_entries g c q other = entered_other _ _ _ q _ c.in_ok-len.ensures.opened other

pub returns-then-bytes-len-clause-full : goal.returns-then-bytes-len-clause-full
returns-then-bytes-len-clause-full g c t is =
    no_room c.in_ok-len.len (length c.args.bytes.now) _ (len_is _ c.args.bytes.now _ (c.requires t) (c.in_ok-len.ensures.told t) (c.in_ok-len.ensures.length t)) c.if-bytes-len.true

pub returns-in_err-write_at-clause-other_entries : goal.returns-in_err-write_at-clause-other_entries
returns-in_err-write_at-clause-other_entries g c q other = others_grown _ _ _ (c.args.partition.now, c.args.name.now) _ _ c.in_ok-len.ensures.opened c.in_err-write_at.ensures.opened_err q other

pub returns-in_err-sync-clause-other_entries : goal.returns-in_err-sync-clause-other_entries
returns-in_err-sync-clause-other_entries g c q other = others_opened _ _ _ _ (c.args.partition.now, c.args.name.now) _ _ c.in_ok-len.ensures.opened c.in_ok-write_at.ensures.opened c.sync.ensures.opened q other

pub returns-clause-other_entries : goal.returns-clause-other_entries
returns-clause-other_entries g c q other = others_opened _ _ _ _ (c.args.partition.now, c.args.name.now) _ _ c.in_ok-len.ensures.opened c.in_ok-write_at.ensures.opened c.sync.ensures.opened q other

pub returns-clause-open : goal.returns-clause-open
returns-clause-open g c = subst (λ (o : OpenedList). IsSome (o (c.args.partition.now, c.args.name.now))) (sym c.sync.ensures.opened) (updated_open _ _ _ _ c.in_ok-write_at.ensures.opened (entered_open _ _ _ _ c.in_ok-len.ensures.opened))

pub returns-clause-room : goal.returns-clause-room
returns-clause-room g c t =
    let is = len_is _ c.args.bytes.now _ (c.requires t) (c.in_ok-len.ensures.told t) (c.in_ok-len.ensures.length t) in
    omega (arith, is, c.if-bytes-len.false)
