-- Laws of the fields of attributes: what is found says the field. Assumes nothing.
use Prim.Native.Nat.{ℕ}
use mathlib.Core.Path.{◌≡◌, refl}
use mathlib.Core.List.{List, [], ◌∷◌, ◌++◌}
use Rattle.std.specs.Prelude.{Option, Some, None, option_map}
use Rattle.octets.specs.Writes.{Written}
use Rattle.octets.specs.Numbers.{number_at}
use Rattle.octets.specs.Decimal.{decimal}
use Rattle.network.specs.Networks.{address_size}
use Rattle.network.specs.Text.{address_text}
use Rattle.attributes.specs.Attribute.{Attribute, first_of}
use Rattle.attributes.specs.Bodies.{aggregator_of, attributes_of}
use Rattle.attributes.specs.Finding.{body_at, find_of}
use Rattle.attributes.proofs.Lookup.{Asks, first_found}
use Rattle.line.specs.Text.{space, bar, optional}
use Rattle.line.specs.Line.{aggregator_text}

-- what is written of the body with a code is the field of what the attributes say
pub field_written : {A : Type 0} {w : ℕ} {ask : Attribute → Option A} {give : List ℕ → A} {code : ℕ} → Asks w ask give code → (text : A → List ℕ) (s : List ℕ)
    → {old new : List ℕ} {at next : ℕ} → Written old at ((bar ∷ []) ++ optional (λ body. text (give body)) (body_at s (find_of code s))) new next
    → Written old at ((bar ∷ []) ++ optional text (first_of ask (attributes_of w s))) new next
field_written {give = give} {code = code} asks text s w = rw (first_found asks s, same (body_at s (find_of code s))) w
  where
    same : (o : Option (List ℕ)) → optional text (option_map give o) ≡ optional (λ body. text (give body)) o
    same (Some body) = unfold optional in refl
    same None = unfold optional in refl

-- the text of an aggregator, by the numbers read of its body
pub aggregator_read : {n d : ℕ} (w : ℕ) (body : List ℕ) → n ≡ number_at body 0 w → d ≡ number_at body w address_size
    → aggregator_text (aggregator_of w body) ≡ decimal n ++ ((space ∷ []) ++ address_text d)
unfolding aggregator_of
aggregator_read w body e f = rw (e, f) refl
