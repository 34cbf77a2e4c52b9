-- What the iterator over a section's prefixes has left.
use Rattle.std.specs.Prelude.{List}
use Rattle.octets.specs.Rows.{items}
use Rattle.network.specs.Networks.{address_bits, Network}
use Rattle.network.specs.Wire.{prefix_size, network_of}
use Rattle.network.specs.declared.Networks.{Networks}

-- the networks of the bytes that it stands before, up to the end, or up to the first prefix that isn't whole
abbrev pub networks_left : Networks → List Network
networks_left p = items (prefix_size address_bits) (network_of address_bits) p.0.now
