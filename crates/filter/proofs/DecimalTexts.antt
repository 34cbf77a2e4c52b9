-- The text of an address is that address; it and decimals can be quoted. Assumes nothing.
use Prim.Native.Nat.{ℕ, suc, ◌+◌, ◌/◌, ◌%◌, ◌^◌, ◌≤◌, ◌<◌}
use native.Mathlib.Omega.{arith}
use mathlib.Core.Path.{◌≡◌, refl}
use mathlib.Core.Bool.{Bool, true, false}
use mathlib.Core.List.{List, [], ◌∷◌, ◌++◌}
use lib.Dec.{leb}
use lib.ListN.{length, length-append}
use borrow.Author.Tests.{leb-true}
use Rattle.octets.specs.Choice.{pick}
use Rattle.octets.specs.Decimal.{Decimal, digit}
use Rattle.octets.specs.Decimal as octets
use Rattle.octets.specs.Lists.{Every, every_none, every_more}
use Rattle.octets.proofs.Choices.{either, each}
use Rattle.octets.proofs.Decimal.{digits_length}
use Rattle.octets.proofs.Decimal as law
use Rattle.octets.proofs.Every.{every_append}
use Rattle.network.specs.Text.{address_text}
use Rattle.operand.specs.Decimals.{byte_limit, Below}
use Rattle.operand.specs.AsNumbers.{as_limit, AsNumber, plain}
use Rattle.operand.specs.Addresses.{Address}
use Rattle.filter.proofs.Spelling.{Plain}

-- ---- bytes that may stand in an operand

-- bytes that can be quoted, at most so many
pub record Quotable (most : ℕ) (bs : List ℕ) : Type 0 where
  pub plain : Every Plain bs
  pub short : length bs ≤ most

-- a printed byte that is no quote, as a test
abbrev pub is_plain : ℕ → Bool
is_plain b = pick (pick (leb 32 b) (leb b 38) false) true (pick (leb 40 b) (leb b 126) false)

-- what passes it is plain
plain_sound : (b : ℕ) → is_plain b ≡ true → Plain b
plain_sound b e = either (pick (leb 32 b) (leb b 38) false) (pick (leb 40 b) (leb b 126) false) e low high
  where
    low : pick (leb 32 b) (leb b 38) false ≡ true → Plain b
    low t =
        let p = each (leb 32 b) (leb b 38) t in
        let h : 32 ≤ b = leb-true 32 b p.0 in
        let k : b ≤ 38 = leb-true b 38 p.1 in
        record { low = h; high = omega arith; no_quote = λ q. omega arith }

    high : pick (leb 40 b) (leb b 126) false ≡ true → Plain b
    high t =
        let p = each (leb 40 b) (leb b 126) t in
        let h : 40 ≤ b = leb-true 40 b p.0 in
        let k : b ≤ 126 = leb-true b 126 p.1 in
        record { low = omega arith; high = k; no_quote = λ q. omega arith }

-- a digit
pub digit_plain : (d : ℕ) → d ≤ 9 → Plain (48 + d)
digit_plain d h = record { low = omega arith; high = omega arith; no_quote = λ e. omega arith }

-- no bytes
pub nothing : Quotable 0 []
nothing = record { plain = every_none; short = omega arith }

-- a byte before others
pub before : {n : ℕ} (b : ℕ) {bs : List ℕ} → is_plain b ≡ true → Quotable n bs → Quotable (suc n) (b ∷ bs)
before b e x = record { plain = every_more (plain_sound b e) x.plain; short = omega (arith, x.short) }

-- joined bytes
pub join : {m n : ℕ} {xs ys : List ℕ} → Quotable m xs → Quotable n ys → Quotable (m + n) (xs ++ ys)
join {xs = xs} {ys} x y = record { plain = every_append x.plain y.plain; short = omega (arith, length-append xs ys, x.short, y.short) }

-- with a larger bound
pub shorter : {m : ℕ} (n : ℕ) {bs : List ℕ} → m ≤ n → Quotable m bs → Quotable n bs
shorter n h x = record { plain = x.plain; short = omega (arith, x.short) }

-- ---- decimals

-- the digits of a number below a limit are its decimal
pub decimal_is : (limit n : ℕ) → n < limit → n < 2 ^ 32 → Below limit (octets.decimal n) n
decimal_is limit n h w = record { decimal = law.decimal_is n w; below = h }

-- and an AS number
pub as_number_is : (n : ℕ) → n < 2 ^ 32 → AsNumber (octets.decimal n) n
as_number_is n w = plain (decimal_is as_limit n w w)

-- digits can be quoted
decimal_plain : {bs : List ℕ} {n : ℕ} → Decimal bs n → Every Plain bs
decimal_plain (digit d h) = every_more (digit_plain d h) every_none
decimal_plain (octets.more d x m h e) = rw e (every_append (decimal_plain x) (every_more (digit_plain d h) every_none))

-- ten at most
pub decimal_quotable : (n : ℕ) → n < 2 ^ 32 → Quotable 10 (octets.decimal n)
decimal_quotable n w = record { plain = decimal_plain (law.decimal_is n w); short = digits_length 10 n }

-- ---- addresses

-- the text of an address is that address
pub address_is : (a : ℕ) → a < 2 ^ 32 → Address (address_text a) a
unfolding address_text
address_is a h =
    record {
      a = a / 16777216;
      b = a / 65536 % 256;
      c = a / 256 % 256;
      d = a % 256;
      aText = octets.decimal (a / 16777216);
      bText = octets.decimal (a / 65536 % 256);
      cText = octets.decimal (a / 256 % 256);
      dText = octets.decimal (a % 256);
      joined = refl;
      a_is = decimal_is byte_limit (a / 16777216) (omega arith) (omega arith);
      b_is = decimal_is byte_limit (a / 65536 % 256) (omega arith) (omega arith);
      c_is = decimal_is byte_limit (a / 256 % 256) (omega arith) (omega arith);
      d_is = decimal_is byte_limit (a % 256) (omega arith) (omega arith);
      value = omega arith;
    }

-- and can be quoted
pub address_quotable : (a : ℕ) → a < 2 ^ 32 → Quotable 43 (address_text a)
unfolding address_text
address_quotable a h =
    shorter 43 (omega arith)
    (join (decimal_quotable (a / 16777216) (omega arith))
    (before 46 refl (join (decimal_quotable (a / 65536 % 256) (omega arith))
    (before 46 refl (join (decimal_quotable (a / 256 % 256) (omega arith))
    (before 46 refl (decimal_quotable (a % 256) (omega arith))))))))
