-- Laws of runs, the bytes at the front that pass a test. Assumes nothing.
use Prim.Native.Nat.{ℕ, suc, ◌+◌, ◌≤◌, ◌<◌}
use native.Mathlib.Nat.{add-zero}
use native.Mathlib.Numerals.{add-one}
use native.Mathlib.Omega.{arith}
use mathlib.Core.Path.{◌≡◌, refl, sym, ap, ◌∙◌}
use mathlib.Core.Bool.{Bool, true, false}
use mathlib.Core.List.{List, [], ◌∷◌, ◌++◌}
use lib.ListN.{length, get_or, take, drop, length-drop, take-append-drop, drop_of_length-le}
use lib.Seq.{drop-cons, drop-drop, get_or-drop, length-take-le}
use Rattle.octets.specs.Choice.{pick}
use Rattle.octets.specs.Lists.{Every, every_none, every_more}
use Rattle.token.specs.Next.{run, run_end}

module _ (test : ℕ → Bool) where
  -- a byte that passes
  run_on : (b : ℕ) (bs : List ℕ) → test b ≡ true → run test (b ∷ bs) ≡ suc (run test bs)
  unfolding run
  run_on b bs e = rw e

  -- a byte that doesn't
  run_off : (b : ℕ) (bs : List ℕ) → test b ≡ false → run test (b ∷ bs) ≡ 0
  unfolding run
  run_off b bs e = rw e

  -- a run is within the bytes
  pub run_within : (l : List ℕ) → run test l ≤ length l
  unfolding run
  run_within [] = omega arith
  run_within (b ∷ bs) = go (test b) (run_within bs)
    where
      go : (t : Bool) → run test bs ≤ length bs → pick t (suc (run test bs)) 0 ≤ suc (length bs)
      go true h = omega arith
      go false h = omega arith

  -- a byte behind it doesn't pass
  pub run_behind : (l : List ℕ) → run test l < length l → test (get_or l (run test l) 0) ≡ false
  unfolding run
  run_behind [] h = absurd (omega arith)
  run_behind (b ∷ bs) h = go (test b) refl (run_behind bs) h
    where
      go : (t : Bool) → test b ≡ t → (run test bs < length bs → test (get_or bs (run test bs) 0) ≡ false)
          → pick t (suc (run test bs)) 0 < suc (length bs) → test (get_or (b ∷ bs) (pick t (suc (run test bs)) 0) 0) ≡ false
      go true e f k = f (omega arith)
      go false e f k = e

  -- each of its bytes is as the test says
  pub run_every : {P : ℕ → Type 0} → ((b : ℕ) → test b ≡ true → P b) → (l : List ℕ) → Every P (take (run test l) l)
  unfolding run
  run_every f [] = every_none
  run_every {P} f (b ∷ bs) = go (test b) refl (run_every f bs)
    where
      go : (t : Bool) → test b ≡ t → Every P (take (run test bs) bs) → Every P (take (pick t (suc (run test bs)) 0) (b ∷ bs))
      go true e a = every_more (f b e) a
      go false e a = every_none

  -- bytes that all pass are a run
  pub run_whole : {P : ℕ → Type 0} → ((b : ℕ) → P b → test b ≡ true) → {l : List ℕ} → Every P l → run test l ≡ length l
  unfolding run
  run_whole f every_none = refl
  run_whole f (every_more {a = b} {xs = bs} p a) = run_on b bs (f b p) ∙ ap suc (run_whole f a)

  -- ---- from a place on

  -- the byte there passes
  pub end_on : (text : List ℕ) (at : ℕ) → at < length text → test (get_or text at 0) ≡ true → run_end test text (at + 1) ≡ run_end test text at
  end_on text at h e = rw (drop-cons text at 0 h, run_on (get_or text at 0) (drop (suc at) text) e, add-one at) (omega arith)

  -- it doesn't
  pub end_off : (text : List ℕ) (at : ℕ) → at < length text → test (get_or text at 0) ≡ false → run_end test text at ≡ at
  end_off text at h e = rw (drop-cons text at 0 h, run_off (get_or text at 0) (drop (suc at) text) e) (add-zero at)

  -- nothing is left
  pub end_past : (text : List ℕ) (at : ℕ) → length text ≤ at → run_end test text at ≡ at
  unfolding run
  end_past text at h = rw (drop_of_length-le text h) (add-zero at)

  -- it ends within the text
  pub end_within : (text : List ℕ) (at : ℕ) → at ≤ length text → run_end test text at ≤ length text
  end_within text at h = omega (arith, run_within (drop at text), length-drop at text)

  -- a byte where it ends doesn't pass
  pub end_fails : (text : List ℕ) (at : ℕ) → run_end test text at < length text → test (get_or text (run_end test text at) 0) ≡ false
  end_fails text at h = rw (get_or-drop at text (run test (drop at text)) 0) at (run_behind (drop at text) (omega (arith, length-drop at text)))

  -- its bytes, and what follows them
  pub run_split : (text : List ℕ) (at : ℕ) → drop at text ≡ take (run test (drop at text)) (drop at text) ++ drop (run_end test text at) text
  run_split text at =
      sym (take-append-drop (run test (drop at text)) (drop at text))
      ∙ ap (λ l. take (run test (drop at text)) (drop at text) ++ l) (drop-drop (run test (drop at text)) at text)

  -- as many as they are
  pub run_long : (l : List ℕ) → length (take (run test l) l) ≡ run test l
  run_long l = length-take-le (run test l) l (run_within l)
