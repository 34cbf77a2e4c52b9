-- The grammar over tokens: which lists of tokens are expressions, and what each reads as. There is no parser here.
use Rattle.std.specs.Prelude.{List, [], ◌∷◌, ◌++◌}
use Rattle.program.specs.Readings.{Test, and, or, Reading, test, neg, joint}
use Rattle.token.specs.Tokens.{Word, Token, open', close, bang, word, quoted}
use Rattle.filter.specs.Words.{joins, flag, name, Says}
use Rattle.operand.specs.declared.Name.{Name}
use Rattle.operand.specs.Tests.{StandsFor}

-- an operand is any one word or quoted token; these are its bytes
pub data Operand : Token → Word → Type 0 where
  a_word : {v : Word} → Operand (word v) v
  a_quoted : {v : Word} → Operand (quoted v) v

-- what the grammar derives
pub data Part : Type 0 where
  expression conjunction factor : Part

-- these tokens make up such a part, and it reads so
-- expression: conjunctions joined by `-or`, grouped to the left
-- conjunction: factors joined by `-and`, grouped to the left
-- factor: `!` factor, `(` expression `)`, or a test
pub data Reads : Part → List Token → Reading → Type 0 where
  flagged : {w : Word} {x : Test} → Says w (flag x) → Reads factor (word w ∷ []) (test x)
  tested : {w v : Word} {k : Name} {x : Test} {o : Token} → Says w (name k) → Operand o v → StandsFor k v x → Reads factor (word w ∷ o ∷ []) (test x)
  negated : {ts : List Token} {r : Reading} → Reads factor ts r → Reads factor (bang ∷ ts) (neg r)
  grouped : {ts : List Token} {r : Reading} → Reads expression ts r → Reads factor (open' ∷ (ts ++ (close ∷ []))) r
  single : {ts : List Token} {r : Reading} → Reads factor ts r → Reads conjunction ts r
  anded : {ts us : List Token} {a b : Reading} (w : Word) → Reads conjunction ts a → Says w (joins and) → Reads factor us b
      → Reads conjunction (ts ++ (word w ∷ us)) (joint and a b)
  lone : {ts : List Token} {r : Reading} → Reads conjunction ts r → Reads expression ts r
  ored : {ts us : List Token} {a b : Reading} (w : Word) → Reads expression ts a → Says w (joins or) → Reads conjunction us b
      → Reads expression (ts ++ (word w ∷ us)) (joint or a b)
