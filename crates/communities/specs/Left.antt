-- What the iterator over a body's communities has left.
use Rattle.std.specs.Prelude.{ℕ, List}
use Rattle.communities.specs.declared.Communities.{Communities}
use Rattle.communities.specs.Communities.{communities_of}

-- the communities of the bytes that it stands before, up to the end, or up to the first that isn't whole
abbrev pub communities_left : Communities → List ℕ
communities_left c = communities_of c.0.now
