-- Which bytes a text may have, as a test, and the place of the first that it may not. Assumes nothing.
use Prim.Native.Nat.{ℕ, ◌≤◌, ◌<◌}
use native.Mathlib.Omega.{arith}
use native.Mathlib.Decide.{dec_le}
use native.Mathlib.Nat.{lt_of_not-le}
use mathlib.Core.Path.{◌≡◌, refl, sym, ◌∙◌}
use mathlib.Core.Bool.{true, false}
use mathlib.Core.List.{List}
use mathlib.Core.Logic.{◌↔◌}
use lib.Dec.{leb, eqb}
use lib.ListN.{length, get_or}
use lib.Seq.{take_all, get_or-take}
use borrow.Author.Tests.{eqb-true, leb-true, le-leb}
use Rattle.octets.specs.Choice.{pick}
use Rattle.octets.specs.Lists.{Every}
use Rattle.octets.proofs.Choices.{never, either, second, each}
use Rattle.octets.proofs.Every.{every_place}
use Rattle.token.specs.Texts.{Allowed, printed, tab, line_feed, Forbidden, allowed}
use Rattle.token.specs.Next.{allowed_front}
use Rattle.token.proofs.Runs.{run_within, run_behind, run_every, run_whole, run_long}

-- what the test allows is allowed
allowed_sound : (b : ℕ) → allowed b ≡ true → Allowed b
allowed_sound b e =
    either (eqb b 9) (pick (eqb b 10) true (pick (leb 32 b) (leb b 126) false)) e (λ t. rw (eqb-true b 9 t) tab)
    (λ f. either (eqb b 10) (pick (leb 32 b) (leb b 126) false) f (λ t. rw (eqb-true b 10 t) line_feed)
    (λ g. let r = each (leb 32 b) (leb b 126) g in printed (leb-true 32 b r.0) (leb-true b 126 r.1)))

-- and nothing else is
allowed_complete : {b : ℕ} → Allowed b → allowed b ≡ true
allowed_complete tab = refl
allowed_complete line_feed = refl
allowed_complete (printed {b} h k) = second (eqb b 9) (second (eqb b 10) (rw (le-leb 32 b h, le-leb b 126 k)))

-- a byte that the test refuses is forbidden
allowed_not : (b : ℕ) → allowed b ≡ false → Allowed b → ⊥
allowed_not b e a = never (sym e ∙ allowed_complete a)

-- where every byte is allowed none is forbidden
pub forbidden_none : {text : List ℕ} {p : ℕ} → Forbidden text p → Every Allowed text → ⊥
forbidden_none {p = p} f a = f.here (every_place a 0 p f.within)

-- the first is one
pub forbidden_once : {text : List ℕ} {p q : ℕ} → Forbidden text p → Forbidden text q → p ≡ q
forbidden_once {text} {p} {q} f g = go (dec_le p q) (dec_le q p)
  where
    go : Dec (p ≤ q) → Dec (q ≤ p) → p ≡ q
    go (yes h) (yes k) = omega arith
    go (no h) k = absurd (g.here (f.earlier q (lt_of_not-le h)))
    go (yes h) (no k) = absurd (f.here (g.earlier p (lt_of_not-le k)))

-- ---- the place of the first forbidden byte, as the code finds it

-- it is within the text, or its end
pub front_most : (text : List ℕ) → allowed_front text ≤ length text
front_most text = run_within allowed text

-- it is the end exactly where every byte is allowed
pub allowed_front_lem : (text : List ℕ) → (allowed_front text ≡ length text) ↔ Every Allowed text
allowed_front_lem text = (λ e. rw (take_all (allowed_front text) text (omega arith)) at (run_every allowed allowed_sound text), run_whole allowed (λ b a. allowed_complete a))

-- it is within exactly where the first forbidden byte stands there
pub front_forbidden : (text : List ℕ) → (allowed_front text < length text) ↔ Forbidden text (allowed_front text)
front_forbidden text = (go, λ f. f.within)
  where
    go : allowed_front text < length text → Forbidden text (allowed_front text)
    go h = record {
      within = h;
      earlier = λ i k. rw (get_or-take (allowed_front text) text i 0 k) at
          (every_place (run_every allowed allowed_sound text) 0 i (omega (arith, run_long allowed text)));
      here = allowed_not (get_or text (allowed_front text) 0) (run_behind allowed text h);
    }
