-- The bytes of each token stand in the text at the token's place. Assumes nothing.
use Prim.Native.Nat.{ℕ, ◌+◌, ◌≤◌, ◌<◌}
use native.Mathlib.Nat.{add-zero}
use native.Mathlib.Omega.{arith}
use mathlib.Core.Path.{◌≡◌, refl, sym, ap, ◌∙◌}
use mathlib.Core.List.{List, [], ◌∷◌, ◌++◌, append_assoc}
use lib.ListN.{length, length-append}
use Rattle.octets.specs.Lists.{Every, every_none, every_more}
use Rattle.octets.proofs.Every.{every_weaker}
use Rattle.token.specs.Tokens.{Token, word, quoted, Mark, opening, closing, banging, Placed, placed, Lexes, nothing, blanks, marks, words, quotes}
use Rattle.filter.proofs.Spelling.{spelled}

-- in bytes, the first of them at n, those of a token stand at its place, and there is one
pub record Stood (n : ℕ) (bytes : List ℕ) (q : Placed) : Type 0 where
  pub before : List ℕ
  pub behind : List ℕ
  pub joined : bytes ≡ before ++ (spelled q.token ++ behind)
  pub place : n + length before ≡ q.place
  pub some : 1 ≤ length (spelled q.token)

-- and so behind more bytes
further : {m n : ℕ} (front : List ℕ) {bytes : List ℕ} {q : Placed} → m ≡ n + length front → Stood m bytes q → Stood n (front ++ bytes) q
further front {q = q} e s = record {
  before = front ++ s.before;
  behind = s.behind;
  joined = ap (λ (l : List ℕ). front ++ l) s.joined ∙ sym (append_assoc front s.before (spelled q.token ++ s.behind));
  place = omega (arith, s.place, length-append front s.before);
  some = s.some;
}

-- as all tokens do
all_further : {m n : ℕ} (front : List ℕ) {bytes : List ℕ} {qs : List Placed} → m ≡ n + length front → Every (Stood m bytes) qs
    → Every (Stood n (front ++ bytes)) qs
all_further front e ss = every_weaker (λ q s. further front e s) ss

-- a token at the front
at_front : (n : ℕ) (t : Token) (behind : List ℕ) → 1 ≤ length (spelled t) → Stood n (spelled t ++ behind) (placed n t)
at_front n t behind h = record { before = []; behind = behind; joined = refl; place = add-zero n; some = h }

-- a mark is its byte
mark_spelled : {b : ℕ} {t : Token} → Mark b t → spelled t ≡ b ∷ []
unfolding spelled
mark_spelled opening = refl
mark_spelled closing = refl
mark_spelled banging = refl

-- a token and those behind it
then : (n : ℕ) (t : Token) {m : ℕ} {bs bytes : List ℕ} {qs : List Placed} → 1 ≤ length (spelled t) → m ≡ n + length (spelled t) → bytes ≡ spelled t ++ bs
    → Every (Stood m bs) qs → Every (Stood n bytes) (placed n t ∷ qs)
then n t {bs = bs} h i e ss = rw e (every_more (at_front n t bs h) (all_further (spelled t) i ss))

-- the tokens of bytes stand so
pub lexes_stood : {n : ℕ} {bytes : List ℕ} {qs : List Placed} → Lexes n bytes qs → Every (Stood n bytes) qs
unfolding spelled
lexes_stood nothing = every_none
lexes_stood (blanks {b = b} k d) = all_further (b ∷ []) (omega arith) (lexes_stood d)
lexes_stood (marks {n} {bs = bs} {t = t} k d) =
    let e : length (spelled t) ≡ 1 = ap length (mark_spelled k) in
    then n t (omega arith) (omega arith) (ap (λ (l : List ℕ). l ++ bs) (sym (mark_spelled k))) (lexes_stood d)
lexes_stood (words {n} {b} w k a z d e) = then n (word (b ∷ w)) (omega arith) (omega arith) e (lexes_stood d)
lexes_stood (quotes {n} w {bs = bs} a d e) =
    then n (quoted w) (omega arith) (omega (arith, length-append w (39 ∷ []))) (e ∙ ap (λ (l : List ℕ). 39 ∷ l) (sym (append_assoc w (39 ∷ []) bs))) (lexes_stood d)

-- one of several
pub every_one : {A : Type 0} {P : A → Type 0} (xs : List A) (y : A) (ys : List A) → Every P (xs ++ (y ∷ ys)) → P y
every_one [] y ys (every_more p ps) = p
every_one (x ∷ xs) y ys (every_more p ps) = every_one xs y ys ps

-- they stand within
pub stood_within : {bytes : List ℕ} {q : Placed} → Stood 0 bytes q → q.place < length bytes
stood_within {bytes} {q} s =
    omega (arith, s.place, s.some, ap length s.joined, length-append s.before (spelled q.token ++ s.behind), length-append (spelled q.token) s.behind)
