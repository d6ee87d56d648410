-- Buffers of which all has settled, and contents that are prefixes of more bytes.
use Rattle.std.specs.Prelude.{◌≡◌, ℕ, ◌++◌, ◌||◌, not, Bool, true, false, List, length}
use Rattle.std.proofs.Common.{inr, refl, sym, ◌∙◌, ap, subst, arith}
use Rattle.std.proofs.lemmas.List.{length-take, take-append-le}
use Rattle.blob_device.specs.Disk.{Blob, past}
use Rattle.sealed_pages.specs.declared.write_blob.WriteBlob.{WriteBlob}
use Rattle.sealed_pages.specs.Cutting.{StandsSettled}
use Rattle.sealed_pages.specs.unsealed.Writing.{shown, is_idle, StandsBehind}
use Rattle.section_manager.specs.Prefixes.{IsPrefixOf}
use Rattle.section_manager.specs.unsealed.Buffer.{Stands, content_of, is_unsettled}
use Rattle.section_manager.specs.unsealed.Laws.{all_weaker, idle_parts, rested, found_again}
use Rattle.section_manager.specs.lemmas.buffers.UnsealedCalls.{prefix_itself}
use Rattle.paired.specs.glob.Sections.{HadPrefixes, TakesMore}
use Rattle.paired.specs.lemmas.Glob.{Serves, idle_whole}

or_not : (a b : Bool) → (a || not b) ≡ false → b ≡ true
or_not true b is = absurd (cc is)
or_not false true is = refl
or_not false false is = absurd (cc is)

pub idle_of : (u : WriteBlob) → is_unsettled u ≡ false → is_idle (shown u) ≡ true
idle_of u is = or_not u.dirty (is_idle (shown u)) is

-- a buffer of which nothing is unsettled takes more bytes at its end
pub idle_takes : (u : WriteBlob) → is_unsettled u ≡ false → TakesMore u
idle_takes u is = inr (idle_of u is)

-- nothing is pending
pub idle_behind : (u : WriteBlob) → is_unsettled u ≡ false → StandsBehind (shown u)
idle_behind u is = inr (idle_parts u.dirty (length u.pending.items) u.at u.end is).1.0

-- a prefix of bytes is one of more bytes
pub prefix_longer : (c bytes added : List ℕ) → IsPrefixOf c bytes → IsPrefixOf c (bytes ++ added)
prefix_longer c bytes added prefix = take-append-le (length c) bytes added (omega (arith, ap length prefix, length-take (length c) bytes)) ∙ prefix

pub prefixes_longer : (bytes added : List ℕ) (b : Blob) → HadPrefixes bytes b → HadPrefixes (bytes ++ added) b
prefixes_longer bytes added b had = all_weaker (λ c. IsPrefixOf c bytes) (λ c. IsPrefixOf c (bytes ++ added)) (past b) (λ c prefix. prefix_longer c bytes added prefix) had

-- a settled blob, over which a new buffer would have the same bytes
pub rested_prefixes : (u : WriteBlob) (b : Blob) → StandsSettled b → b.content ≡ content_of u b.content → HadPrefixes (content_of u b.content) b
rested_prefixes u b rests again = subst (HadPrefixes (content_of u b.content)) (sym rests) (subst (IsPrefixOf b.content) again (prefix_itself b.content), tt)

-- a buffer of which nothing is unsettled serves
pub idle_serves : {told : Type 0} (u : WriteBlob) (b : Blob) → (told → Stands u b) → is_unsettled u ≡ false → Serves told u b
idle_serves u b stands is = record {
  ends = idle_takes u is;
  behind = idle_behind u is;
  whole = λ t. idle_whole u b (stands t) is;
  prefixes = λ t. rested_prefixes u b (rested u b (stands t) is) (found_again u b (stands t) (idle_whole u b (stands t) is) is);
}
