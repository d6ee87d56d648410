use Rattle.std.proofs.Common.{ap, rules, sym}
use Rattle.std.specs.Option.{option_and_then}
use Rattle.blob_device.specs.Tables.{at_name}
use Rattle.blob_device.specs.Tracks.{tracks_of, track_at}
use Rattle.blob_device.specs.NameList.{names_of}
use Rattle.blob_device.proofs.NamesLemmas.{names_found, no_names_found}
use Rattle.blob_device.proofs.memory.logs.names_at.Goals as goal
use Rattle.blob_device.proofs.general.Results.{if_ok_with}

pub returns-in-Some : goal.returns-in-Some
returns-in-Some c =
    if_ok_with c.there_names.result c.there_names.ensures.ordered c.there_names.ensures.names
    (λ v sorted is. names_found (tracks_of c.args.logs.now) c.args.partition.now c.in-Some.names.now.entries (names_of v.items) sorted is
    (λ name. ap (λ o. track_at (option_and_then (λ names. at_name names name) o)) (sym c.in-Some.ensures.value)))

pub returns-in-None : goal.returns-in-None
returns-in-None c = no_names_found (tracks_of c.args.logs.now) c.args.partition.now (names_of c.new.result.items) (search rules)
    (λ name. ap (λ o. track_at (option_and_then (λ names. at_name names name) o)) (sym c.in-None.ensures.value))
