-- Addresses and networks as text.
use Rattle.std.specs.Prelude.{ℕ, ◌/◌, ◌%◌, List, [], ◌∷◌, ◌++◌}
use Rattle.octets.specs.Decimal.{decimal}
use Rattle.network.specs.Networks.{Network}

-- the four parts of an address in decimal, with dots between
unfoldable pub address_text : ℕ → List ℕ
address_text a =
    decimal (a / 16777216)
    ++ ((46 ∷ []) ++ (decimal (a / 65536 % 256)
    ++ ((46 ∷ []) ++ (decimal (a / 256 % 256)
    ++ ((46 ∷ []) ++ decimal (a % 256))))))

-- `a.b.c.d/len`
unfoldable pub network_text : Network → List ℕ
network_text n = address_text n.address ++ ((47 ∷ []) ++ decimal n.len)
