-- The names of each table differ, by one computed test. Assumes nothing.
use mathlib.Core.Path.{◌≡◌, refl}
use mathlib.Core.Bool.{true}
use lib.ListN.{drop}
use Rattle.octets.specs.Equal.{same}
use Rattle.names.specs.Tables.{found}
use Rattle.names.specs.Names.{type_names, attribute_names}
use Rattle.names.proofs.Finding.{distinct}

-- those of message types
pub types_differ : distinct type_names ≡ true
unfolding type_names distinct found same
types_differ = refl

-- those of attributes
pub attributes_differ : distinct attribute_names ≡ true
unfolding attribute_names distinct found same
attributes_differ = refl

-- and the later ones of these
pub later_differ : distinct (drop 8 attribute_names) ≡ true
unfolding attribute_names distinct found same
later_differ = refl
