-- What an answer of writing a text over a buffer tells. Assumes nothing.
use Prim.Native.Nat.{ℕ, ◌≤◌, ◌<◌}
use native.Mathlib.Nat.{lt_of_not-le}
use native.Mathlib.Decide.{dec_le}
use native.Mathlib.Omega.{arith}
use mathlib.Core.Path.{◌≡◌, ap}
use mathlib.Core.List.{List, ◌++◌}
use lib.ListN.{length, drop}
use borrow.Author.Tests.{lt-leb, le-leb}
use Rattle.std.specs.Prelude.{Ok, Err}
use Rattle.line.specs.declared.Short.{Short}
use Rattle.line.specs.Answer.{Writing, writing_of, writing}

module _ (text old : List ℕ) {new : List ℕ} where
  -- 19: the text has no room, and the buffer is as it was
  pub short_told : {short : Short} → writing_of (Err short) new ≡ writing text old → (length old < length text) × (new ≡ old)
  short_told {short} = go (dec_le (length text) (length old))
    where
      go : Dec (length text ≤ length old) → writing_of (Err short) new ≡ writing text old → (length old < length text) × (new ≡ old)
      go (yes h) e = absurd (omega (arith, ap (λ (w : Writing). w.number) (rw (le-leb _ _ h) at e)))
      go (no n) e = (lt_of_not-le n, ap (λ (w : Writing). w.buffer) (rw (lt-leb _ _ (lt_of_not-le n)) at e))

  -- the bytes written: those of the text, which has room and lies over the start
  pub bytes_told : {n : ℕ} → writing_of (Ok n) new ≡ writing text old
      → (length text ≤ length old) × (n ≡ length text) × (new ≡ text ++ drop (length text) old)
  bytes_told {n} = go (dec_le (length text) (length old))
    where
      go : Dec (length text ≤ length old) → writing_of (Ok n) new ≡ writing text old
          → (length text ≤ length old) × (n ≡ length text) × (new ≡ text ++ drop (length text) old)
      go (yes h) e = let f = rw (le-leb _ _ h) at e in
          (h, ap (λ (w : Writing). w.written) f, ap (λ (w : Writing). w.buffer) f)
      go (no n) e = absurd (omega (arith, ap (λ (w : Writing). w.number) (rw (lt-leb _ _ (lt_of_not-le n)) at e)))
