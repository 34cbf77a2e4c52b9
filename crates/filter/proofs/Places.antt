-- Judgements on tokens as answers for the text that they are written in, with places. Assumes nothing.
use Prim.Native.Nat.{ℕ, suc, ◌+◌, ◌-◌, ◌≤◌}
use native.Mathlib.Omega.{arith}
use mathlib.Core.Path.{◌≡◌, refl, ap, sym}
use mathlib.Core.List.{List, [], ◌∷◌, ◌++◌, append-nil, nil≢cons, head-eq_of_cons-eq, tail-eq_of_cons-eq}
use lib.ListN.{length, length-append}
use lib.Seq.{drop_at}
use Rattle.program.specs.Readings.{Reading}
use Rattle.token.specs.Tokens.{Token, Placed, placed, Lexes}
use Rattle.filter.specs.Grammar.{expression, Reads}
use Rattle.filter.specs.Levels.{level_limit, open_at}
use Rattle.filter.specs.Answers.{Leads, Has, bare, Fine, Reaches, DerivedWithin, TextAnswers}
use Rattle.filter.specs.Answers as answers
use Rattle.filter.specs.Answering.{refusal_of, start_of, place_of}
use Rattle.filter.specs.Reader.{Why, refused, read}
use Rattle.filter.proofs.Refusals.{Judged, at_token, bad_end, only}

-- tokens of joined lists are joined
pub bare_append : (ps qs : List Placed) → bare (ps ++ qs) ≡ bare ps ++ bare qs
unfolding bare
bare_append [] qs = refl
bare_append (p ∷ ps) qs = ap (λ x. p.token ∷ x) (bare_append ps qs)

-- there are as many tokens as placed tokens
length_bare : (ps : List Placed) → length (bare ps) ≡ length ps
unfolding bare
length_bare [] = refl
length_bare (p ∷ ps) = ap suc (length_bare ps)

-- what is left of placed tokens starts where it stands
pub place_left : (e : ℕ) (ps qs : List Placed) → place_of e (ps ++ qs) (bare qs) ≡ start_of e qs
unfolding place_of
place_left e ps qs = rw (length_bare qs, length-append ps qs, drop_at ps qs (length ps + length qs - length qs) (omega arith))

-- a token's place is found from the tokens that are left with it
place_token : (e : ℕ) (ps : List Placed) (p : ℕ) (t : Token) (qs : List Placed) → place_of e (ps ++ (placed p t ∷ qs)) (t ∷ bare qs) ≡ p
unfolding bare start_of
place_token e ps p t qs = place_left e ps (placed p t ∷ qs)

-- the end's place is found where no token is left
pub place_end : (e : ℕ) (ps : List Placed) → place_of e ps [] ≡ e
unfolding bare start_of
place_end e ps = rw (append-nil ps) at (place_left e ps [])

-- placed tokens parted as their tokens are
pub record Parted (ps : List Placed) (ts us : List Token) : Type 0 where
  pub front : List Placed
  pub back : List Placed
  pub joined : ps ≡ front ++ back
  pub front_is : bare front ≡ ts
  pub back_is : bare back ≡ us

-- placed tokens are parted wherever their tokens are
pub parted : (ps : List Placed) (ts us : List Token) → bare ps ≡ ts ++ us → Parted ps ts us
unfolding bare
parted ps [] us e = record { front = []; back = ps; joined = refl; front_is = refl; back_is = e }
parted [] (t ∷ ts) us e = absurd (nil≢cons e)
parted (p ∷ ps) (t ∷ ts) us e = by_rest (parted ps ts us (tail-eq_of_cons-eq e))
  where
    by_rest : Parted ps ts us → Parted (p ∷ ps) (t ∷ ts) us
    by_rest q = record {
      front = p ∷ q.front;
      back = q.back;
      joined = ap (λ x. p ∷ x) q.joined;
      front_is = cc (head-eq_of_cons-eq e, q.front_is);
      back_is = q.back_is;
    }

-- tokens that lead on up to one: the text reaches it, at its place
pub reaches : (text : List ℕ) (e : ℕ) (ps : List Placed) (ts : List Token) (t : Token) (us : List Token) → Lexes 0 text ps → bare ps ≡ ts ++ (t ∷ us)
    → Leads level_limit ts → Reaches text ts t (place_of e ps (t ∷ us))
unfolding bare start_of
reaches text e ps ts t us l q w = by_parts (parted ps ts (t ∷ us) q)
  where
    by_back : (front back : List Placed) → ps ≡ front ++ back → bare front ≡ ts → bare back ≡ t ∷ us → Reaches text ts t (place_of e ps (t ∷ us))
    by_back front [] f g h = absurd (nil≢cons h)
    by_back front (b ∷ back) f g h =
        let i : b.token ≡ t = head-eq_of_cons-eq h in
        let j : placed b.place t ≡ b = ap (placed b.place) (sym i) in
        let k : place_of e ps (t ∷ us) ≡ b.place = rw (f, ← h) (place_left e front (b ∷ back)) in
        rw k record { front = front; back = back; lexed = rw j (rw f at l); tokens = g; leads = w }

    by_parts : Parted ps ts (t ∷ us) → Reaches text ts t (place_of e ps (t ∷ us))
    by_parts x = by_back x.front x.back x.joined x.front_is x.back_is

module _ {text : List ℕ} {room : ℕ} (ps : List Placed) (fine : Fine text) (lexed : Lexes 0 text ps) where
  -- the same, with the tokens named
  judged_answers : {ts us : List Token} {w : Why} → bare ps ≡ ts → Judged level_limit ts (refused w us) → TextAnswers text room (answers.refused (refusal_of w) (place_of (length text) ps us))
  judged_answers e (at_token ts t us l h) = answers.bad_first fine (reaches text (length text) ps ts t us lexed e l) h
  judged_answers e (bad_end l f) = rw (place_end (length text) ps) (answers.bad_end ps fine lexed (rw e l) (rw e f))

  -- a refusal of the text's tokens is the text's answer
  pub refused_answers : {us : List Token} {w : Why} → Judged level_limit (bare ps) (refused w us) → TextAnswers text room (answers.refused (refusal_of w) (place_of (length text) ps us))
  refused_answers j = judged_answers refl j

-- a reading of the text's tokens is derived for the text
pub read_derived : {text : List ℕ} {r : Reading} (ps : List Placed) → Lexes 0 text ps → (d : Reads expression (bare ps) r) → ((n : ℕ) → open_at d n ≤ level_limit) → DerivedWithin text r
read_derived ps l d w = record { derived = record { tokens = ps; lexed = l; reads = d }; within = w }

-- the tokens of a text that reaches one
abbrev pub tokens_of : {text : List ℕ} {ts : List Token} {t : Token} {p : ℕ} → Reaches text ts t p → List Placed
tokens_of {t = t} {p} x = x.front ++ (placed p t ∷ x.back)

module _ {text : List ℕ} {ts : List Token} {t : Token} {p : ℕ} (x : Reaches text ts t p) where
  -- where that one is refused, the reader stops at it
  pub reader_stops : (w : Why) → Has level_limit ts t (refusal_of w) → read level_limit (bare (tokens_of x)) ≡ refused w (t ∷ bare x.back)
  unfolding bare
  reader_stops w h = rw (bare_append x.front (placed p t ∷ x.back), x.tokens) (only level_limit (at_token ts t (bare x.back) x.leads h))

  -- and that is its place
  pub place_reached : place_of (length text) (tokens_of x) (t ∷ bare x.back) ≡ p
  place_reached = place_token (length text) x.front p t x.back
