-- The operand of a test: the token, the test that it stands for, and how many records follow the head of that. Assumes nothing.
use Prim.Native.Nat.{ℕ, ◌≤◌}
use native.Mathlib.Omega.{arith}
use mathlib.Core.Path.{◌≡◌, refl, ap}
use mathlib.Core.Bool.{true}
use Rattle.std.specs.Prelude.{Option, Some, None}
use mathlib.Core.List.{List, map}
use lib.ListN.{length, length-append, length-map}
use Rattle.aspath.specs.declared.Item.TheVariants.{Number}
use Rattle.program.specs.Readings.{Test}
use Rattle.program.specs.Records.{item}
use Rattle.program.specs.Layout.{head_fields}
use Rattle.program.specs.Compiling.{head_of, items_of, following_of}
use Rattle.token.specs.Texts.{text_limit}
use Rattle.token.specs.Tokens.{Token, word, quoted}
use Rattle.token.specs.Next.{bytes_in, token_in}
use Rattle.token.specs.declared.Sort.{Sort}
use Rattle.token.specs.declared.Sort.TheVariants.{End, Open, Close, Bang, Quoted, Unclosed, Word}
use Rattle.token.specs.declared.Lexeme.{Lexeme}
use Rattle.token.proofs.Nexts.{sort_token}
use Rattle.filter.specs.Grammar.{factor}
use Rattle.filter.specs.Reader.{Hole, move, operand, fill}
use Rattle.filter.specs.Parsing.{operand_sort}
use borrow.Author.Tests.{le-ltb}
use Rattle.octets.proofs.Choices.{never}
use Rattle.operand.specs.declared.Name.{Name}
use Rattle.operand.specs.declared.Head.{Head}
use Rattle.operand.proofs.Holding.{some_once}
use Rattle.operand.specs.Tests.{StandsFor, type, attribute, path, peer, network, time, communities, meaning, operand_meaning, meant_of}
use Rattle.operand.proofs.PartedLaws.{parted_short}
use Rattle.operand.proofs.OperandItems.{item_reads}
use Rattle.operand.proofs.OperandCommunities.{community_reads}

-- a token whose bytes decide where an operand is wanted
pub record Offered (text : List ℕ) (o : Lexeme) : Type 0 where
  pub token : Token
  pub is : token_in text o ≡ Some token
  pub moves : (k : Name) (h : Hole factor) → move (operand k h) token ≡ fill h (meaning k (bytes_in text o))

-- a lexeme that may be an operand is such a token
pub offered : (text : List ℕ) (o : Lexeme) → operand_sort o.sort ≡ true → Offered text o
unfolding move
offered text o e = go o.sort refl e
  where
    go : (k : Sort) → o.sort ≡ k → operand_sort k ≡ true → Offered text o
    go End k e = never e
    go Open k e = never e
    go Close k e = never e
    go Bang k e = never e
    go Word k e = record { token = word (bytes_in text o); is = sort_token text o k; moves = λ m h. refl }
    go Quoted k e = record { token = quoted (bytes_in text o); is = sort_token text o k; moves = λ m h. refl }
    go Unclosed k e = never e

-- the test that an answer's head is of, and how many records follow that
pub record Headed (k : Name) (v : List ℕ) (h : Head) : Type 0 where
  pub test : Test
  pub means : operand_meaning k v ≡ Some test
  pub head : h.fields ≡ head_fields (head_of test)
  pub following : h.following ≡ length (following_of test)

-- a head was answered
pub headed : (k : Name) (v : List ℕ) {h : Head} → Some h ≡ meant_of (operand_meaning k v) → Headed k v h
headed k v {h} e = go (operand_meaning k v) refl e
  where
    go : (o : Option Test) → operand_meaning k v ≡ o → Some h ≡ meant_of o → Headed k v h
    go None m e = let z : ◌≡◌ {A = ℕ} 0 1 = cc in absurd (omega arith)
    go (Some x) m e =
        let q : h ≡ record { fields = head_fields (head_of x); following = length (following_of x) } = some_once {o = Some h} refl e in
        record { test = x; means = m; head = ap (λ (i : Head). i.fields) q; following = ap (λ (i : Head). i.following) q }

-- the operand breaks its test's rule
pub none_meant : (k : Name) (v : List ℕ) → None ≡ meant_of (operand_meaning k v) → operand_meaning k v ≡ None
none_meant k v e = go (operand_meaning k v) refl e
  where
    go : (o : Option Test) → operand_meaning k v ≡ o → None ≡ meant_of o → operand_meaning k v ≡ None
    go None m e = m
    go (Some x) m e = let z : ◌≡◌ {A = ℕ} 0 1 = cc in absurd (omega arith)

-- an operand of at most a text's size means what is answered
pub meaning_answered : (k : Name) (v : List ℕ) → length v ≤ text_limit → operand_meaning k v ≡ meaning k v
unfolding operand_meaning
meaning_answered k v h = rw (le-ltb text_limit (length v) h)

-- no more records follow a test's head than its operand has bytes
pub means_few : {k : Name} {v : List ℕ} {x : Test} → StandsFor k v x → length (following_of x) ≤ length v
unfolding items_of
means_few (type c) = omega arith
means_few (attribute c) = omega arith
means_few (path {p = p} y) = omega (arith, length-map p.items item, parted_short item_reads y.items_are, simp length-append at (ap length y.joined))
means_few (peer y) = omega arith
means_few (network y) = omega arith
means_few (time y) = omega arith
means_few (communities {cs = cs} y) = omega (arith, length-map (map Number cs) item, length-map cs Number, parted_short community_reads y.parted)
