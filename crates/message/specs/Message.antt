-- What a record says.
use Rattle.std.specs.Prelude.{ℕ, List}
use Rattle.network.specs.Networks.{Network}
use Rattle.aspath.specs.declared.Width.{Width}
use Rattle.attributes.specs.Attribute.{Attribute}

-- the type of an UPDATE
abbrev pub update : ℕ
update = 2

-- a message as a collector stored it; of a message that is no UPDATE the three lists are empty
pub record Message : Type 0 where
  pub seconds : ℕ
  pub width : Width
  pub peer_as : ℕ
  pub peer_address : ℕ
  pub type : ℕ
  pub withdrawn : List Network
  pub attributes : List Attribute
  pub announced : List Network
