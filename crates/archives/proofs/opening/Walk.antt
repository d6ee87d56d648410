-- What a stretch of an opening's walk leaves of the pair's blobs; and what two stretches, one after the other, leave.
use Rattle.std.specs.Prelude.{◌≡◌, ℕ, ◌^◌, ◌<◌, ⊤}
use Rattle.std.proofs.Common.{inl, refl, sym, ◌∙◌}
use Rattle.std.proofs.Math.Seq.{take-length}
use Rattle.blob_device.specs.Disk.{Key, Disk}
use Rattle.blob_device.specs.Opened.{OpenedList}
use Rattle.blob_device.specs.Timeline.{Timeline, disk, Always}
use Rattle.blob_device.specs.lemmas.Moments.{always_now, always_start, always_then, always_weaker}
use Rattle.paired.specs.Crashes.{IsIndexOf, IsOwn}
use Rattle.paired.specs.Kept.{Layout, Markers, kept, marker_of, stored_records}
use Rattle.paired.specs.Opening.{as_read, IsLawful, MayBeOpened, Recalls, RecallsAlone}
use Rattle.paired.specs.lemmas.opening.Laws.{recalls_on}

module _ (l : Layout) (markers : Markers) (told : Type 0) where
  -- At each moment each crash leaves what a crash at the beginning would have left, and no blob changes but those of the pair.
  pub record Moves (a e : Timeline) (before after : OpenedList) : Type 0 where
    pub moments : told → MayBeOpened l (disk a) → Always a e (RecallsAlone l (IsOwn l (λ _. ⊤)) (disk a))
    pub untouched : told → Always a e (λ d. (q : Key) → (IsOwn l (λ _. ⊤) q → ⊥) → d q ≡ disk a q)
    pub entries : (q : Key) → (IsOwn l (λ _. ⊤) q → ⊥) → after q ≡ before q

  -- What is kept stays, an image that was lawful is, and what could be opened can.
  pub record Stays (a e : Timeline) : Type 0 where
    pub keeps : told → (s : ℕ) → s < 2 ^ 64 → kept l (as_read (disk e)) (marker_of markers.entries s) s ≡ kept l (as_read (disk a)) (marker_of markers.entries s) s
    pub lawful : told → IsLawful l (as_read (disk a)) markers → IsLawful l (as_read (disk e)) markers
    pub opened : told → MayBeOpened l (disk a) → MayBeOpened l (disk e)

  recalls_self : (d : Disk) → Recalls l d d
  recalls_self d image crash fresh = record {
    old = image;
    crash = crash;
    no_chance = fresh;
    keeps = λ now lawful. record {
      markers = now;
      lawful = lawful;
      same = λ s small. refl;
      stored = λ s small. sym (take-length (stored_records l image s));
    };
  }

  pub moves_start : (a : Timeline) (before : OpenedList) → Moves a a before before
  moves_start a before = record {
    moments = λ t may. always_start a (RecallsAlone l (IsOwn l (λ _. ⊤)) (disk a)) (record { recalls = recalls_self (disk a); others = λ q not. refl });
    untouched = λ t. always_start a (λ d. (q : Key) → (IsOwn l (λ _. ⊤) q → ⊥) → d q ≡ disk a q) (λ q not. refl);
    entries = λ q not. refl;
  }

  pub stays_start : (a : Timeline) → Stays a a
  stays_start a = record { keeps = λ t s small. refl; lawful = λ t lawful. lawful; opened = λ t may. may }

  pub stays_then : (a e f : Timeline) → Stays a e → Stays e f → Stays a f
  stays_then a e f first second = record {
    keeps = λ t s small. second.keeps t s small ∙ first.keeps t s small;
    lawful = λ t lawful. second.lawful t (first.lawful t lawful);
    opened = λ t may. second.opened t (first.opened t may);
  }

  recalls_alone_on : (a e d : Disk) → RecallsAlone l (IsOwn l (λ _. ⊤)) a e → RecallsAlone l (IsOwn l (λ _. ⊤)) e d → RecallsAlone l (IsOwn l (λ _. ⊤)) a d
  recalls_alone_on a e d first second = record {
    recalls = recalls_on l a e d first.recalls second.recalls;
    others = λ q not. second.others q not ∙ first.others q not;
  }

  pub moves_then : (a e f : Timeline) (before after new : OpenedList) → Moves a e before after → Stays a e → Moves e f after new → Moves a f before new
  moves_then a e f before after new first stays second = record {
    moments = λ t may.
        let to = first.moments t may in
        always_then a e f (RecallsAlone l (IsOwn l (λ _. ⊤)) (disk a)) to
        (always_weaker e f (RecallsAlone l (IsOwn l (λ _. ⊤)) (disk e)) (RecallsAlone l (IsOwn l (λ _. ⊤)) (disk a))
        (λ d more. recalls_alone_on (disk a) (disk e) d (always_now a e (RecallsAlone l (IsOwn l (λ _. ⊤)) (disk a)) to) more) (second.moments t (stays.opened t may)));
    untouched = λ t.
        let to = first.untouched t in
        always_then a e f (λ d. (q : Key) → (IsOwn l (λ _. ⊤) q → ⊥) → d q ≡ disk a q) to
        (always_weaker e f (λ d. (q : Key) → (IsOwn l (λ _. ⊤) q → ⊥) → d q ≡ disk e q) (λ d. (q : Key) → (IsOwn l (λ _. ⊤) q → ⊥) → d q ≡ disk a q)
        (λ d same q not. same q not ∙ always_now a e (λ x. (k : Key) → (IsOwn l (λ _. ⊤) k → ⊥) → x k ≡ disk a k) to q not) (second.untouched t));
    entries = λ q not. second.entries q not ∙ first.entries q not;
  }

  -- What touches blobs of records alone touches blobs of the pair alone.
  pub moves_index : (a e : Timeline) (before after : OpenedList) (P : ℕ → Type 0) → (told → MayBeOpened l (disk a) → Always a e (RecallsAlone l (IsIndexOf l (λ _. ⊤)) (disk a)))
      → (told → Always a e (λ d. (q : Key) → (IsIndexOf l P q → ⊥) → d q ≡ disk a q)) → ((q : Key) → (IsOwn l (λ _. ⊤) q → ⊥) → after q ≡ before q) → Moves a e before after
  moves_index a e before after P moments untouched entries = record {
    moments = λ t may. always_weaker a e (RecallsAlone l (IsIndexOf l (λ _. ⊤)) (disk a)) (RecallsAlone l (IsOwn l (λ _. ⊤)) (disk a))
        (λ d is. record { recalls = is.recalls; others = λ q not. is.others q (λ index. not (inl index)) }) (moments t may);
    untouched = λ t. always_weaker a e (λ d. (q : Key) → (IsIndexOf l P q → ⊥) → d q ≡ disk a q) (λ d. (q : Key) → (IsOwn l (λ _. ⊤) q → ⊥) → d q ≡ disk a q)
        (λ d is q not. is q (λ index. not (inl (index.0, index.1, tt, index.3)))) (untouched t);
    entries = entries;
  }
