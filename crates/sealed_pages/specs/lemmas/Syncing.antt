-- What is flushed stays so where bytes are added.
use Rattle.std.proofs.Common.{◌≡◌, ℕ, ◌*◌, ◌≤◌, List, ◌++◌, length, sym, subst, arith, append_assoc}
use Rattle.sealed_pages.specs.lemmas.memory.Holding.{bytes_length}
use Rattle.sealed_pages.specs.lemmas.slots.PageCalls.{data_more}
use Rattle.sealed_pages.specs.Buffer.{Buffer, flushed_of, bytes_of, HasFlushed}
use Rattle.sealed_pages.specs.Flushing.{Data}
use Rattle.sealed_pages.specs.SealedPrefix.{data_from}
use Rattle.sealed_pages.specs.View.{view}

pub bytes_longer : (u : Buffer) (more c : List ℕ) → bytes_of (record u { tip = u.tip ++ more }) c ≡ bytes_of u c ++ more
bytes_longer u more c = sym (append_assoc (data_from u.page_size (view c) 0 (u.first * u.page_size)) u.tip more)

pub backed_more : (u v : Buffer) (more c : List ℕ) → v ≡ record u { tip = u.tip ++ more } → u.from ≤ length u.tip → HasFlushed u c → HasFlushed v c
backed_more u v more c is within backed = subst (λ (x : Buffer). HasFlushed x c) (sym is)
    (subst (λ (l : List ℕ). Data u.page_size l (flushed_of u) (view c)) (sym (bytes_longer u more c)) (data_more (λ x. 0) u.page_size (bytes_of u c) more (flushed_of u) (view c) (omega (arith, bytes_length u c, within)) backed))
