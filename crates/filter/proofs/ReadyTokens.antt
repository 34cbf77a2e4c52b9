-- The token that a grammar function stands at: its place, its sort, its role, and the token behind it. Assumes nothing.
use Prim.Native.Nat.{ℕ, ◌+◌, ◌≤◌, ◌<◌}
use native.Mathlib.Omega.{arith}
use mathlib.Core.Path.{◌≡◌, refl, sym, ap, ◌∙◌}
use mathlib.Core.Bool.{Bool, true, false}
use Rattle.std.specs.Prelude.{Option, Some, None}
use mathlib.Core.Logic.{◌⊎◌, inl, inr}
use mathlib.Core.List.{List}
use lib.ListN.{length}
use Rattle.program.specs.Readings.{Operator, and, or}
use Rattle.token.specs.Texts.{text_limit}
use Rattle.token.specs.Tokens.{Word, Token, open', close, bang, word, quoted}
use Rattle.token.specs.Next.{next_at, bytes_in, token_of, token_in}
use Rattle.token.specs.declared.Sort.{Sort}
use Rattle.token.specs.declared.Sort.TheVariants.{End, Open, Close, Bang, Word as aWord, Quoted, Unclosed}
use Rattle.token.specs.declared.Lexeme.{Lexeme}
use Rattle.token.proofs.Nexts.{sort_token, next_closed, next_token}
use Rattle.filter.specs.Words.{Role, joins, flag, name, role_of}
use Rattle.filter.specs.Answering.{start_of}
use Rattle.filter.specs.Parsing.{role_meant, role_said, role_in, first_role, from, Ready, opens_level}
use Rattle.operand.specs.declared.Name.{Name}
use Rattle.filter.specs.declared.Role.{Role as Said}
use Rattle.filter.specs.declared.Role.TheVariants.{And, Or, Loops, Bogons, Named}
use Rattle.filter.proofs.Steps.{end_none, ready_next, from_next, fewer_next, start_token, start_end}

module _ {text : List ℕ} {t : Lexeme} {n : ℕ} (ready : Ready text t n) where
  -- every quote is closed
  pub ready_closed : t.sort ≡ Unclosed → ⊥
  ready_closed k = next_closed ready.closed (ap (λ (l : Lexeme). l.sort) ready.here ∙ k)

  -- the bytes of a token are no more than its places
  pub token_sized : {a : Token} → token_in text t ≡ Some a → length (bytes_in text t) + t.start ≤ t.end
  token_sized token = rw ready.here at (next_token ready.closed (ap (token_in text) ready.here ∙ token)).sized

-- a token that is ready is the end, or one of the language
pub end_or_token : {text : List ℕ} {t : Lexeme} {n : ℕ} → Ready text t n → (t.sort ≡ End) ⊎ ((a : Token) × (token_in text t ≡ Some a))
end_or_token {text} {t} ready = by_sort t.sort refl
  where
    by_sort : (k : Sort) → t.sort ≡ k → (t.sort ≡ End) ⊎ ((a : Token) × (token_in text t ≡ Some a))
    by_sort End e = inl e
    by_sort Open e = inr (open', sort_token text t e)
    by_sort Close e = inr (close, sort_token text t e)
    by_sort Bang e = inr (bang, sort_token text t e)
    by_sort aWord e = inr (word (bytes_in text t), sort_token text t e)
    by_sort Quoted e = inr (quoted (bytes_in text t), sort_token text t e)
    by_sort Unclosed e = absurd (ready_closed ready e)

-- its place is where the tokens from it on start
pub start_here : {text : List ℕ} {t : Lexeme} {n : ℕ} → Ready text t n → start_of (length text) (from text t) ≡ t.start
start_here {text} {t} ready = go (end_or_token ready)
  where
    go : (t.sort ≡ End) ⊎ ((a : Token) × (token_in text t ≡ Some a)) → start_of (length text) (from text t) ≡ t.start
    go (inl e) = start_end ready e
    go (inr (a, e)) = start_token ready e

-- its role is the first of the tokens from it on
pub first_role_lem : {text : List ℕ} {t : Lexeme} {n : ℕ} → Ready text t n → first_role (from text t) ≡ role_in (token_in text t)
unfolding first_role
first_role_lem {text} {t} ready = go (end_or_token ready)
  where
    go : (t.sort ≡ End) ⊎ ((a : Token) × (token_in text t ≡ Some a)) → first_role (from text t) ≡ role_in (token_in text t)
    go (inl e) = ap first_role (end_none ready e).0 ∙ sym (ap role_in (sort_token text t e))
    go (inr (a, e)) = ap first_role (from_next ready e) ∙ sym (ap role_in e)

-- a token with a role is a word
pub record Worded (o : Option Token) (r : Role) : Type 0 where
  pub bytes : List ℕ
  pub token : o ≡ Some (word bytes)
  pub role : role_of bytes ≡ Some r

-- and its bytes say that role
pub worded : (o : Option Token) {r : Role} → role_in o ≡ Some r → Worded o r
worded None e = let z : ◌≡◌ {A = ℕ} 0 1 = cc in absurd (omega arith)
worded (Some open') e = let z : ◌≡◌ {A = ℕ} 0 1 = cc in absurd (omega arith)
worded (Some close) e = let z : ◌≡◌ {A = ℕ} 0 1 = cc in absurd (omega arith)
worded (Some bang) e = let z : ◌≡◌ {A = ℕ} 0 1 = cc in absurd (omega arith)
worded (Some (word w)) e = record { bytes = w; token = refl; role = e }
worded (Some (quoted w)) e = let z : ◌≡◌ {A = ℕ} 0 1 = cc in absurd (omega arith)

-- few records stand for what is before a token
pub ready_small : {text : List ℕ} {t : Lexeme} {n : ℕ} → Ready text t n → n ≤ text_limit
ready_small ready = omega (arith, ready.few, ready.closed.here, ready.short)

module _ {text : List ℕ} {t : Lexeme} {n : ℕ} (ready : Ready text t n) {a : Token} (token : token_in text t ≡ Some a) {l : Lexeme} (next : l ≡ next_at text t.end) where
  -- the token behind one is ready, for as many records
  pub next_ready : Ready text l n
  next_ready = let r = ready_next ready token in rw next record { short = r.short; closed = r.closed; here = r.here; few = omega (arith, r.few) }

  -- fewer tokens are left there
  pub next_fewer : length (from text l) < length (from text t)
  next_fewer = rw next (fewer_next ready token)

-- ---- sorts and roles

-- the answer that says an operator
abbrev pub operator_said : Operator → Said
operator_said and = And
operator_said or = Or

-- a role that is an operator is that one
joint_meant : (o : Operator) (r : Said) → role_meant r ≡ joins o → r ≡ operator_said o
joint_meant o And e = let x : and ≡ o = cc in ap operator_said x
joint_meant o Or e = let x : or ≡ o = cc in ap operator_said x
joint_meant o Loops e = let z : ◌≡◌ {A = ℕ} 0 1 = cc in absurd (omega arith)
joint_meant o Bogons e = let z : ◌≡◌ {A = ℕ} 0 1 = cc in absurd (omega arith)
joint_meant o (Named k) e = let z : ◌≡◌ {A = ℕ} 0 1 = cc in absurd (omega arith)

-- an answer that says an operator says that one
joint_said : (o : Operator) (r : Option Said) → role_said r ≡ Some (joins o) → r ≡ Some (operator_said o)
joint_said o None e = let z : ◌≡◌ {A = ℕ} 0 1 = cc in absurd (omega arith)
joint_said o (Some r) e = let x : role_meant r ≡ joins o = cc in ap (λ r. Some r) (joint_meant o r x)

-- an operator was said
pub joined_by : (o : Operator) {x : Option Role} {r : Option Said} {s : Said} → role_said r ≡ x → r ≡ Some s → s ≡ operator_said o → x ≡ Some (joins o)
joined_by o p e k = sym p ∙ ap role_said e ∙ ap (λ s. Some (role_meant s)) k ∙ said_joins o
  where
    said_joins : (o : Operator) → role_said (Some (operator_said o)) ≡ Some (joins o)
    said_joins and = refl
    said_joins or = refl

-- none was
pub not_joint : (o : Operator) {x : Option Role} {r : Option Said} → role_said r ≡ x → (r ≡ Some (operator_said o) → ⊥) → x ≡ Some (joins o) → ⊥
not_joint o {r = r} s n e = n (joint_said o r (s ∙ e))

-- another role was said
pub other_role : {r : Option Said} {s other : Said} → r ≡ Some s → (s ≡ other → ⊥) → r ≡ Some other → ⊥
other_role {s = s} {other} e n f = let x : s ≡ other = cc in n x

-- nothing was
pub no_role : {r : Option Said} {other : Said} → r ≡ None → r ≡ Some other → ⊥
no_role e f = let z : ◌≡◌ {A = ℕ} 0 1 = cc in absurd (omega arith)

-- `)` has its sort
pub close_sort : (k : Sort) (w : Word) → token_of k w ≡ Some close → k ≡ Close
close_sort End w e = let z : ◌≡◌ {A = ℕ} 0 1 = cc in absurd (omega arith)
close_sort Open w e = let z : ◌≡◌ {A = ℕ} 0 1 = cc in absurd (omega arith)
close_sort Close w e = refl
close_sort Bang w e = let z : ◌≡◌ {A = ℕ} 0 1 = cc in absurd (omega arith)
close_sort aWord w e = let z : ◌≡◌ {A = ℕ} 0 1 = cc in absurd (omega arith)
close_sort Quoted w e = let z : ◌≡◌ {A = ℕ} 0 1 = cc in absurd (omega arith)
close_sort Unclosed w e = let z : ◌≡◌ {A = ℕ} 0 1 = cc in absurd (omega arith)

-- where `(` and `!` are dealt with, no level is opened
pub no_level : (k : Sort) → (k ≡ Bang → ⊥) → (k ≡ Open → ⊥) → opens_level k ≡ false
no_level End b o = refl
no_level Open b o = absurd (o refl)
no_level Close b o = refl
no_level Bang b o = absurd (b refl)
no_level aWord b o = refl
no_level Quoted b o = refl
no_level Unclosed b o = refl

-- a role that no test has
abbrev pub no_test : Option Role → Bool
no_test None = true
no_test (Some (joins o)) = true
no_test (Some (flag x)) = false
no_test (Some (name k)) = false

-- a word whose role is no test's
pub no_test_meant : (r : Said) → (r ≡ Loops → ⊥) → (r ≡ Bogons → ⊥) → ((k : Name) → r ≡ Named k → ⊥) → no_test (Some (role_meant r)) ≡ true
no_test_meant And l b n = refl
no_test_meant Or l b n = refl
no_test_meant Loops l b n = absurd (l refl)
no_test_meant Bogons l b n = absurd (b refl)
no_test_meant (Named k) l b n = absurd (n k refl)
