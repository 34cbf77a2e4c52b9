-- What the iterator over a section's attributes has left.
use Rattle.std.specs.Prelude.{ℕ, ◌+◌, ◌-◌, List, length, get_or, drop}
use Rattle.octets.specs.Rows.{items}
use Rattle.attributes.specs.declared.Placed.{Placed}
use Rattle.attributes.specs.declared.Attributes.{Attributes}
use Rattle.attributes.specs.Wire.{attribute_header, body_size, attribute_size}

-- the attribute at the front of l, which is what is left of a section
unfoldable pub placed_of : List ℕ → List ℕ → Placed
placed_of section l = record {
  code = get_or l 1 0;
  body = record { start = length section - length l + attribute_header l; len = body_size l };
}

-- those from its place on, up to the end, or up to the first that isn't whole
abbrev pub attributes_left : Attributes → List Placed
attributes_left a = items attribute_size (placed_of a.section.now) (drop a.at a.section.now)
