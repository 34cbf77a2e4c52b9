-- `-type` and `-attr`: a name of a table or a code, decided; at most one code where the names differ and none is a code. Assumes nothing.
use Prim.Native.Nat.{ℕ}
use mathlib.Core.Path.{◌≡◌, refl}
use mathlib.Core.Bool.{true}
use Rattle.std.specs.Prelude.{Some}
use mathlib.Core.List.{List}
use Rattle.octets.specs.Lists.{every_passes}
use Rattle.operand.proofs.Holding.{AnswerHolds, holds_else, holds_map}
use Rattle.operand.proofs.NameTables.{found_holds, unread, found_none}
use Rattle.names.proofs.Finding.{distinct, found_row}
use Rattle.operand.proofs.Decimals.{numeral_sound, numeral_complete}
use Rattle.names.specs.Tables.{Row}
use Rattle.names.specs.Names.{type_names, attribute_names}
use Rattle.names.proofs.NamesDiffer.{types_differ, attributes_differ}
use Rattle.operand.specs.Codes.{CodeOperand, by_name, by_code, coded}
use Rattle.operand.specs.Decimals.{byte_limit, is_digit, number_on, number, numeral}

-- a code that was found is meant
pub coded_sound : (names : List (Row ℕ)) (l : List ℕ) → AnswerHolds (CodeOperand names l) (coded names l)
unfolding coded
coded_sound names l = holds_else (holds_map (λ a x. by_name x) (found_holds names l)) (holds_map (λ a b. by_code b) (numeral_sound byte_limit l))

-- the names of a table tell codes apart: they differ and none is a code
pub record Telling (names : List (Row ℕ)) : Type 0 where
  pub differ : distinct names ≡ true
  pub letters : unread (numeral byte_limit) names ≡ true

-- every code is found
pub coded_complete : {names : List (Row ℕ)} {l : List ℕ} {c : ℕ} → Telling names → CodeOperand names l c → coded names l ≡ Some c
unfolding coded
coded_complete t (by_name x) = rw (found_row t.differ x)
coded_complete {names} {l} t (by_code b) = rw (found_none (numeral byte_limit) names l t.letters (numeral_complete b), numeral_complete b)

-- no name of a message type is a code
pub types_tell : Telling type_names
unfolding type_names every_passes numeral number number_on is_digit
types_tell = record { differ = types_differ; letters = refl }

-- nor of an attribute
pub attributes_tell : Telling attribute_names
unfolding attribute_names every_passes numeral number number_on is_digit
attributes_tell = record { differ = attributes_differ; letters = refl }
