-- Laws of prefixes on the wire, over the width: reading them back, and that each network has one. Assumes nothing.
use Prim.Native.Nat.{ℕ, ◌+◌, ◌-◌, ◌*◌, ◌/◌, ◌^◌, ◌≤◌, ◌<◌}
use native.Mathlib.Nat.{lt_of_not-le, add-zero}
use native.Mathlib.Numerals.{one-add}
use native.Mathlib.Decide.{dec_le, ℕ_discrete}
use native.Mathlib.Omega.{arith}
use mathlib.Core.Path.{◌≡◌, refl, sym, ap, ◌∙◌}
use mathlib.Core.List.{List, [], ◌∷◌, ◌++◌}
use lib.ListN.{length, get_or, take, drop, length-drop, length-append}
use lib.Seq.{get_or-drop, drop-drop, take_at, length-take-le}
use lib.Dec.{ltb}
use borrow.Author.Tests.{lt-ltb, le-ltb}
use Rattle.octets.specs.Choice.{pick}
use Rattle.octets.specs.Numbers.{Octets, number_at, bytes_of}
use Rattle.octets.proofs.Bytes.{octets_drop, octets_take}
use Rattle.octets.proofs.Numbers.{number_lt, number_drop, number_take, number_high, pow_bytes}
use Rattle.octets.proofs.Rows.{Sizes, Reads}
use Rattle.network.specs.Networks.{Network, cleared, masked}
use Rattle.network.specs.Wire.{bytes_for, PrefixBytes, prefix_size, network_of}
use Rattle.network.proofs.Clearing.{cleared_le, cleared_again, cleared_same}
use Rattle.octets.proofs.Encode.{bytes_field}

-- a length's bytes hold it
pub bytes_for_holds : (len : ℕ) → len ≤ 8 * bytes_for len
bytes_for_holds len = omega arith

-- and no fewer do
pub bytes_for_least : (len n : ℕ) → len ≤ 8 * n → bytes_for len ≤ n
bytes_for_least len n h = omega arith

-- ---- sizes

-- the size of the prefix at a place, by the byte there
pub size_at : (w : ℕ) (s : List ℕ) (at : ℕ)
    → prefix_size w (drop at s) ≡ pick (ltb w (get_or s at 0)) 0 (pick (ltb (length s - at) (1 + bytes_for (get_or s at 0))) 0 (1 + bytes_for (get_or s at 0)))
unfolding prefix_size
size_at w s at = rw (length-drop at s, get_or-drop at s 0 0, add-zero at) refl

-- a whole prefix stands at the front
pub record Stands (w : ℕ) (l : List ℕ) : Type 0 where
  pub short : get_or l 0 0 ≤ w
  pub fits : 1 + bytes_for (get_or l 0 0) ≤ length l
  pub size : prefix_size w l ≡ 1 + bytes_for (get_or l 0 0)

-- it stands where its length is at most the width and its bytes are there
pub stands : (w : ℕ) (l : List ℕ) → get_or l 0 0 ≤ w → 1 + bytes_for (get_or l 0 0) ≤ length l → Stands w l
unfolding prefix_size
stands w l h k = record { short = h; fits = k; size = simp (le-ltb _ _ h, le-ltb _ _ k) }

-- and where the size isn't 0
pub size_stands : (w : ℕ) (l : List ℕ) → (prefix_size w l ≡ 0 → ⊥) → Stands w l
unfolding prefix_size
size_stands w l n = go (dec_le (get_or l 0 0) w) (dec_le (1 + bytes_for (get_or l 0 0)) (length l))
  where
    go : Dec (get_or l 0 0 ≤ w) → Dec (1 + bytes_for (get_or l 0 0) ≤ length l) → Stands w l
    go (yes h) (yes k) = stands w l h k
    go (yes h) (no k) = absurd (n (simp (le-ltb _ _ h, lt-ltb _ _ (lt_of_not-le k))))
    go (no h) d = absurd (n (simp (lt-ltb _ _ (lt_of_not-le h))))

-- a prefix has no more bytes than there are
pub prefix_sizes : (w : ℕ) → Sizes (prefix_size w)
prefix_sizes w = record { fits = λ l. go l (ℕ_discrete (prefix_size w l) 0) }
  where
    go : (l : List ℕ) → Dec (prefix_size w l ≡ 0) → prefix_size w l ≤ length l
    go l (yes e) = omega arith
    go l (no n) = let s = size_stands w l n in omega arith

-- ---- networks

-- the bytes past those that hold the length make no difference to the address
own_bytes : (w len : ℕ) {s : List ℕ} → 8 * (w / 8) ≡ w → Octets s → cleared w len (number_at (take (bytes_for len) s) 0 (w / 8)) ≡ cleared w len (number_at s 0 (w / 8))
own_bytes w len {s} e o = go (w / 8) e (dec_le (w / 8) (bytes_for len))
  where
    go : (n : ℕ) → 8 * n ≡ w → Dec (n ≤ bytes_for len) → cleared w len (number_at (take (bytes_for len) s) 0 n) ≡ cleared w len (number_at s 0 n)
    go n f (yes h) = ap (cleared w len) (number_take s (bytes_for len) 0 n (omega arith))
    go n f (no h) =
        let k = bytes_for len in
        let m = n - k in
        let l : k < n = lt_of_not-le h in
        let d : n ≡ k + m = omega arith in
        rw d
        (cleared_same w len (8 * m) (number_at (take k s) 0 (k + m)) (number_at s 0 (k + m)) (omega arith)
        (number_high (octets_take k o) 0 k m ∙ number_take s k 0 k (omega arith) ∙ sym (number_high o 0 k m)))

-- the network of the prefix at a place, by the bytes there
pub network_here : (w : ℕ) {s : List ℕ} (at : ℕ) → 8 * (w / 8) ≡ w → Octets s → network_of w (drop at s) ≡ masked w (number_at s (at + 1) (w / 8)) (get_or s at 0)
unfolding network_of
network_here w {s} at e o =
    rw (get_or-drop at s 0 0, add-zero at, drop-drop 1 at s, own_bytes w (get_or s at 0) e (octets_drop (at + 1) o), number_drop s (at + 1) 0 (w / 8), add-zero (at + 1))
    refl

-- prefixes are read back
pub prefix_reads : (w : ℕ) → Reads (PrefixBytes w) (prefix_size w) (network_of w)
unfolding network_of
prefix_reads w = record {
  fits = (prefix_sizes w).fits;
  some = λ p. rw p.joined (omega arith);
  exact = exact;
  same = same;
  sound = sound;
}
  where
    exact : {n : Network} {bytes : List ℕ} → PrefixBytes w n bytes → (rest : List ℕ) → prefix_size w (bytes ++ rest) ≡ length bytes
    exact {n} {bytes} p rest =
        let s = stands w ((n.len ∷ p.address) ++ rest) p.sized (simp length-append (omega (arith, p.few.long))) in
        rw p.joined (omega (arith, s.size, p.few.long))

    same : {n : Network} {bytes : List ℕ} → PrefixBytes w n bytes → (rest : List ℕ) → network_of w (bytes ++ rest) ≡ n
    same {n} {bytes} p rest = rw (p.joined, take_at p.address rest (bytes_for n.len) p.few.long) (sym p.network)

    sound : (l : List ℕ) → Octets l → (prefix_size w l ≡ 0 → ⊥) → PrefixBytes w (network_of w l) (take (prefix_size w l) l)
    sound [] o n = absurd (omega (arith, (size_stands w [] n).fits))
    sound (b ∷ l) o n =
        let s = size_stands w (b ∷ l) n in
        record {
          sized = s.short;
          address = take (bytes_for b) l;
          joined = rw (s.size, one-add) refl;
          few = record { long = length-take-le (bytes_for b) l (omega arith); octets = octets_take (bytes_for b) (octets_drop 1 o); value = refl };
          network = refl;
        }

-- each network has a prefix, of as few bytes as hold its length and one for that
pub prefix_exists : (w : ℕ) (n : Network) → 8 * (w / 8) ≡ w → n.len ≤ w → n.address < 2 ^ w → n ≡ masked w n.address n.len
    → (bytes : List ℕ) × PrefixBytes w n bytes × (length bytes ≡ 1 + bytes_for n.len)
prefix_exists w n e h k m =
    let k' : n.address < 256 ^ (w / 8) = rw (pow_bytes (w / 8), e) k in
    let f = bytes_field (w / 8) n.address k' in
    let s = bytes_of (w / 8) n.address in
    let l = length-take-le (bytes_for n.len) s (omega arith) in (
      n.len ∷ take (bytes_for n.len) s,
      record {
        sized = h;
        address = take (bytes_for n.len) s;
        joined = refl;
        few = record { long = l; octets = octets_take (bytes_for n.len) f.octets; value = refl };
        network = rw (own_bytes w n.len e f.octets, f.value) m;
      },
      omega arith,
    )

-- and a network that has a prefix is so: its address has w bits, and those past its length are cleared
module _ (w : ℕ) {n : Network} {bytes : List ℕ} (p : PrefixBytes w n bytes) where
  pub prefix_length : length bytes ≡ 1 + bytes_for n.len
  prefix_length = ap length p.joined ∙ omega (arith, p.few.long)

  address_is : n.address ≡ cleared w n.len (number_at p.address 0 (w / 8))
  address_is = ap (λ (m : Network). m.address) p.network

  pub prefix_below : 8 * (w / 8) ≡ w → n.address < 2 ^ w
  prefix_below e =
      let a = number_at p.address 0 (w / 8) in
      let h : a < 2 ^ w = rw (pow_bytes (w / 8), e) at (number_lt p.address 0 (w / 8) p.few.octets.below) in
      omega (arith, address_is, cleared_le w n.len a)

  pub prefix_clear : n ≡ masked w n.address n.len
  prefix_clear =
      let of : ℕ → Network = λ a. record { bits = w; address = a; len = n.len } in
      p.network ∙ ap of (sym (ap (cleared w n.len) address_is ∙ cleared_again w n.len (number_at p.address 0 (w / 8))))
