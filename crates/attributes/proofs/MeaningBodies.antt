-- What `body_right` and `all_right` decide: a raw attribute says an attribute, and each of a list does. Assumes nothing.
use Prim.Native.Nat.{ℕ}
use native.Mathlib.Omega.{arith}
use mathlib.Core.Path.{◌≡◌, refl, sym, ap, ◌∙◌}
use mathlib.Core.Bool.{Bool, true, false}
use mathlib.Core.List.{List, [], ◌∷◌}
use lib.ListN.{length, get_or, drop_of_length-le}
use borrow.Author.Tests.{eq-eqb, eqb-true, leb-true, le-leb}
use Rattle.octets.specs.Numbers.{Octets}
use Rattle.octets.specs.Lists.{Every, every_none, every_more, some_here, some_there}
use Rattle.octets.proofs.Bytes.{octets_take, octets_drop}
use Rattle.octets.proofs.Rows.{joined_whole, joined_items, whole_joined}
use Rattle.aspath.proofs.SegmentReads.{segment_reads}
use Rattle.communities.proofs.Bodies.{community_reads}
use Rattle.attributes.specs.Attribute.{Attribute, origin, as_path, next_hop, atomic_aggregate, aggregator, communities, other, code_of, incomplete}
use Rattle.attributes.specs.Wire.{Raw, attribute_header, body_size, attribute_size, raw_of, raws_of}
use Rattle.attributes.specs.Bodies.{HasBody, Says, SomeWrong, body_right, all_right, said}
use Rattle.octets.proofs.Choices.{never, each, alike}
use Rattle.octets.proofs.Items.{items_every}
use Rattle.attributes.proofs.Aggregators.{aggregator_sound, aggregator_long, aggregator_same}
use Rattle.attributes.proofs.ByCode.{by_code, said_other, right_other}

-- ---- all bodies are bytes

-- a raw attribute's body is bytes
abbrev OctetBody : Raw → Type 0
OctetBody r = Octets r.body

-- the raw attributes of bytes have bytes for bodies
pub raws_octets : {l : List ℕ} → Octets l → Every OctetBody (raws_of l)
unfolding raw_of
raws_octets o = items_every attribute_size raw_of (λ l o. octets_take (body_size l) (octets_drop (attribute_header l) o)) o

-- ---- one body

-- a list of one member
single : (l : List ℕ) → length l ≡ 1 → l ≡ get_or l 0 0 ∷ []
single [] e = absurd (omega arith)
single (a ∷ []) e = refl
single (a ∷ b ∷ l) e = absurd (omega arith)

module _ (w : ℕ) where
  -- a raw attribute whose body is right says what is read of it
  pub right_says : (r : Raw) → body_right w r.code r.body ≡ true → Octets r.body → Says w (said w r) r
  unfolding body_right said code_of
  right_says = by_code
      (λ body h o. let b = each _ _ h in record { coded = refl; body = (leb-true _ _ b.1, single body (eqb-true _ _ b.0)) })
      (λ body h o. record { coded = refl; body = whole_joined (segment_reads w) o h })
      (λ body h o. record { coded = refl; body = record { long = eqb-true _ _ h; octets = o; value = refl } })
      (λ body h o. record { coded = refl; body = drop_of_length-le body {i = 0} (omega (arith, eqb-true (length body) 0 h)) })
      (λ body h o. record { coded = refl; body = aggregator_sound w o (eqb-true _ _ h) })
      (λ body h o. record { coded = refl; body = whole_joined community_reads o h })
      (λ r u h o. rw (said_other w r u) (record { coded = refl; body = (u, refl) }))

  right_of : (a : Attribute) (r : Raw) → code_of a ≡ r.code → HasBody w a r.body → body_right w r.code r.body ≡ true
  unfolding body_right code_of
  right_of (origin n) r e b = rw (← e, b.1) (le-leb n incomplete b.0)
  right_of (as_path ss) r e b = rw (← e) (joined_whole (segment_reads w) b)
  right_of (next_hop a) r e b = rw (← e) (eq-eqb _ _ b.long)
  right_of atomic_aggregate r e b = rw (← e, b)
  right_of (aggregator a) r e b = rw (← e) (eq-eqb _ _ (aggregator_long w b))
  right_of (communities cs) r e b = rw (← e) (joined_whole community_reads b)
  right_of (other code bytes) r e b = rw (← e) (right_other w code r.body b.0)

  -- the body of a raw attribute that says an attribute is right
  pub says_right : {a : Attribute} {r : Raw} → Says w a r → body_right w r.code r.body ≡ true
  says_right {a} {r} s = right_of a r s.coded s.body

  said_of : (a : Attribute) (r : Raw) → code_of a ≡ r.code → HasBody w a r.body → said w r ≡ a
  unfolding said code_of
  said_of (origin n) r e b = rw (← e, b.1)
  said_of (as_path ss) r e b = rw (← e) (ap as_path (joined_items (segment_reads w) b))
  said_of (next_hop a) r e b = rw (← e) (ap next_hop b.value)
  said_of atomic_aggregate r e b = rw (← e)
  said_of (aggregator a) r e b = rw (← e) (ap aggregator (aggregator_same w b))
  said_of (communities cs) r e b = rw (← e) (ap communities (joined_items community_reads b))
  said_of (other code bytes) r e b = said_other w r (rw e at b).0 ∙ cc

  -- and that attribute is what is read of it
  pub says_said : {a : Attribute} {r : Raw} → Says w a r → said w r ≡ a
  says_said {a} {r} s = said_of a r s.coded s.body

  -- ---- a list of them

  -- where not all bodies are right, some attribute says nothing
  pub wrong_sound : (raws : List Raw) → all_right w raws ≡ false → SomeWrong w raws
  unfolding all_right
  wrong_sound [] e = never (sym e)
  wrong_sound (r ∷ raws) e = go (body_right w r.code r.body) refl (wrong_sound raws)
    where
      go : (b : Bool) → body_right w r.code r.body ≡ b → (all_right w raws ≡ false → SomeWrong w raws) → SomeWrong w (r ∷ raws)
      go false b ih = some_here (record { silent = λ a s. never (sym b ∙ says_right s) })
      go true b ih = some_there (ih (rw b at e))

  -- where some attribute says nothing, not all bodies are right
  pub wrong_complete : {raws : List Raw} → Every OctetBody raws → SomeWrong w raws → all_right w raws ≡ false
  unfolding all_right
  wrong_complete every_none x = elim x [ ]
  wrong_complete (every_more {a = r} {xs = raws} o os) (some_here x) = go (body_right w r.code r.body) refl
    where
      go : (b : Bool) → body_right w r.code r.body ≡ b → all_right w (r ∷ raws) ≡ false
      go false b = rw b
      go true b = absurd (x.silent (said w r) (right_says r b o))
  wrong_complete (every_more {a = r} o os) (some_there x) = alike (body_right w r.code r.body) (wrong_complete os x) refl
