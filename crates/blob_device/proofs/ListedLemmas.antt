-- The opened list of a device over files after a change of its table.
use Rattle.std.proofs.Common.{◌≡◌, Option, Some, None, sym, ◌∙◌, ap}
use Rattle.std.specs.Option.{option_map}
use Rattle.blob_device.specs.declared.file_device.opened.Entry.{Entry}
use Rattle.blob_device.specs.Disk.{Key, put}
use Rattle.blob_device.specs.Opened.{Opened, OpenedList, updated}
use Rattle.blob_device.specs.Tables.{Partitions, at_key}
use Rattle.blob_device.specs.Listed.{shown}
use Rattle.blob_device.specs.lemmas.Puts.{put_mapped, put_there}

-- the list that a table shows
abbrev pub list_of : Partitions Entry → OpenedList
list_of p k = option_map shown (at_key p k)

pub list_of-put : (old new : Partitions Entry) (k : Key) (x : Option Entry) → at_key new ≡ put (at_key old) k x → list_of new ≡ put (list_of old) k (option_map shown x)
list_of-put old new k x same = ap (λ (f : Key → Option Entry). λ q. option_map shown (f q)) same ∙ put_mapped (option_map shown) (at_key old) k x

pub list_of-same : (old new : Partitions Entry) → at_key new ≡ at_key old → list_of new ≡ list_of old
list_of-same old new same = ap (λ (f : Key → Option Entry). λ q. option_map shown (f q)) same

-- an entry that was there is replaced
shown_replaced : (o : Option Entry) (was now : Entry) (f : Opened → Opened) → Some (shown was) ≡ option_map shown o → shown now ≡ f (shown was) → option_map shown (option_map (λ _. now) o) ≡ option_map f (option_map shown o)
shown_replaced None was now f there same = absurd (cc there)
shown_replaced (Some x) was now f there same = let some : Opened → Option Opened = λ y. Some y in ap some same ∙ ap (option_map f) there

pub list_of-replace : (old new : Partitions Entry) (k : Key) (was now : Entry) (f : Opened → Opened) → at_key new ≡ put (at_key old) k (option_map (λ _. now) (at_key old k))
    → Some (shown was) ≡ list_of old k → shown now ≡ f (shown was) → list_of new ≡ updated (list_of old) k f
list_of-replace old new k was now f same there is = list_of-put old new k (option_map (λ _. now) (at_key old k)) same ∙ ap (put (list_of old) k) (shown_replaced (at_key old k) was now f there is)

-- a blob that is not opened has no entry to change
pub updated_absent : (opened : OpenedList) (k : Key) (f : Opened → Opened) → None ≡ opened k → opened ≡ updated opened k f
updated_absent opened k f none = sym (put_there opened k (option_map f (opened k)) (sym none ∙ ap (option_map f) none))
