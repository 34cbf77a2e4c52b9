-- A program is bytes. Assumes nothing.
use Prim.Native.Nat.{ℕ}
use native.Mathlib.Omega.{arith}
use mathlib.Core.List.{List, [], ◌∷◌}
use Rattle.octets.specs.Numbers.{Octets}
use Rattle.octets.proofs.Bytes.{octets_append}
use Rattle.octets.proofs.Encode.{octets_one, bytes_octets}
use Rattle.program.specs.declared.Fields.{Fields}
use Rattle.program.specs.Readings.{Reading}
use Rattle.program.specs.Records.{Record}
use Rattle.program.specs.Layout.{fields_of, laid, encode_all}
use Rattle.program.specs.Compiling.{records, program_of}

zero_octets : {l : List ℕ} → Octets l → Octets (0 ∷ l)
zero_octets o = octets_append (octets_one 0 (omega arith)) o

laid_octets : (f : Fields) → Octets (laid f)
unfolding laid
laid_octets f =
    octets_append (bytes_octets 1 f.kind)
    (octets_append (bytes_octets 1 f.variant)
    (octets_append (bytes_octets 2 f.count)
    (octets_append (bytes_octets 4 f.a)
    (octets_append (bytes_octets 4 f.b) (zero_octets (zero_octets (zero_octets (octets_one 0 (omega arith)))))))))

all_octets : (rs : List Record) → Octets (encode_all rs)
unfolding encode_all
all_octets [] = record { below = λ i. omega arith }
all_octets (r ∷ rs) = octets_append (laid_octets (fields_of r)) (all_octets rs)

pub program_octets : (r : Reading) → Octets (program_of r)
program_octets r = all_octets (records r)
