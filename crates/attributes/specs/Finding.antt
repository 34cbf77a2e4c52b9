-- The first attribute of a section with a code.
use Rattle.std.specs.Prelude.{ℕ, zero, suc, ◌+◌, List, [], ◌∷◌, length, get_or, drop, eqb, Option, Some, None}
use Rattle.octets.specs.Choice.{pick}
use Rattle.octets.specs.Parts.{part_at}
use Rattle.attributes.specs.declared.Body.{Body}
use Rattle.attributes.specs.Wire.{Raw, attribute_header, body_size, attribute_size}

-- its body
unfoldable pub first_body : ℕ → List Raw → Option (List ℕ)
first_body code [] = None
first_body code (r ∷ more) = pick (eqb r.code code) (Some r.body) (first_body code more)

-- the bytes that an answer stands for
abbrev pub body_at : List ℕ → Option Body → Option (List ℕ)
body_at s (Some b) = Some (part_at s b.start b.len)
body_at s None = None

-- ---- what the code computes: l is what is left of the section from a place on, f bounds the attributes

unfoldable pub find_in : ℕ → ℕ → ℕ → List ℕ → Option Body
find_in zero code at l = None
find_in (suc f) code at l =
    pick (eqb (attribute_size l) 0) None
    (pick (eqb (get_or l 1 0) code) (Some (record { start = at + attribute_header l; len = body_size l }))
    (find_in f code (at + attribute_size l) (drop (attribute_size l) l)))

abbrev pub find_of : ℕ → List ℕ → Option Body
find_of code l = find_in (length l) code 0 l
