use Rattle.std.proofs.Common.{rules, ◌<◌, ◌^◌}
use Rattle.archives.proofs.KeyLemmas.{get_absent, get_by_key, get_unfound, get_unread}
use Rattle.archives.proofs.prunable.Archive.get_by.Goals as goal
use Rattle.blob_device.proofs.general.Results.{err_of}

pub returns-in_err-section : goal.returns-in_err-section
returns-in_err-section g c =
    let e = c.in_err-section.field-0.0 in
    get_unfound _ g.D.Device g.K.Key.key_bytes c.args.self.now (g.K.Key.key_bytes c.args.key.now) c.args.dev.now c.requires.over c.requires.over.pair.apart.values
    e c.find.new.dev c.in_err-section.ensures c.from_residual.result (err_of _ e c.from_residual.ensures.1)

pub returns-in_err-value_of-in-Some : goal.returns-in_err-value_of-in-Some
returns-in_err-value_of-in-Some g c =
    let small : c.in-Some.section < 2 ^ 64 = search rules in
    let e = c.in_err-value_of-in-Some.field-0.0 in
    get_unread _ g.D.Device g.K.Key.key_bytes c.args.self.now (g.K.Key.key_bytes c.args.key.now) c.args.dev.now c.requires.over c.requires.over.pair.apart.values
    c.find.new.dev c.value_of.new.dev c.in_ok-section.field-0 c.in_ok-section.ensures c.in-Some.section small c.in-Some.record c.in-Some.is
    g.met.K.Key.sized e c.in_err-value_of-in-Some.ensures c.from_residual-in_err-value_of-in-Some.result (err_of _ e c.from_residual-in_err-value_of-in-Some.ensures.1)

pub returns-in_ok-value_of-in-Some : goal.returns-in_ok-value_of-in-Some
returns-in_ok-value_of-in-Some g c =
    let small : c.in-Some.section < 2 ^ 64 = search rules in
    get_by_key _ g.D.Device g.K.Key.key_bytes c.args.self.now (g.K.Key.key_bytes c.args.key.now) c.args.dev.now c.requires.over c.requires.over.pair.apart.values
    c.find.new.dev c.value_of.new.dev c.in_ok-section.field-0 c.in_ok-section.ensures c.in-Some.section small c.in-Some.record c.in-Some.is
    g.met.K.Key.sized c.in_ok-value_of-in-Some.field-0 c.in_ok-value_of-in-Some.ensures

pub returns-in-None : goal.returns-in-None
returns-in-None g c =
    get_absent _ g.D.Device g.K.Key.key_bytes c.args.self.now (g.K.Key.key_bytes c.args.key.now) c.args.dev.now c.requires.over c.requires.over.pair.apart.values
    c.find.new.dev c.in_ok-section.field-0 c.in_ok-section.ensures c.in-None.is
