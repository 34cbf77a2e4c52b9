-- Each check of a record's header, peer part and frame decides the condition of its row. Assumes nothing.
use Prim.Native.Nat.{ℕ}
use mathlib.Core.Path.{◌≡◌}
use mathlib.Core.Bool.{true}
use mathlib.Core.List.{List}
use lib.ListN.{take, replicate}
use borrow.Author.Tests.{ltb-true, eqb-false, not-true, lt-ltb, ne_eqb}
use Rattle.octets.proofs.Choices.{either}
use Rattle.aspath.specs.declared.Width.{Width}
use Rattle.aspath.specs.declared.Width.TheVariants.{Two, Four}
use Rattle.message.specs.Represents.{marker_size, subtype_of}
use Rattle.message.specs.Fields.{width_of}
use Rattle.message.specs.Refusals.{WrongSize, WrongMrtType, WrongPeer, WrongFrame}
use Rattle.message.specs.Decode.{wrong_size, wrong_mrt_type, wrong_peer, ones, wrong_frame}
use Rattle.message.proofs.Ones.{ones_sound, ones_complete}
use Rattle.message.proofs.Deciding.{Decides, decides_false, decides_not, settled, unless, without}

-- row 11
pub size_decides : (s : List ℕ) → Decides (wrong_size s) (WrongSize s)
unfolding wrong_size
size_decides s = record { sound = sound; complete = complete }
  where
    sound : wrong_size s ≡ true → WrongSize s
    sound e =
        either _ _ e
        (λ h. WrongSize.short (ltb-true _ _ h))
        (λ f. either _ _ f (λ h. WrongSize.long (ltb-true _ _ h)) (λ h. WrongSize.uneven (eqb-false _ _ (not-true _ h))))

    complete : WrongSize s → wrong_size s ≡ true
    complete (WrongSize.short h) = simp (lt-ltb _ _ h)
    complete (WrongSize.long h) = simp (lt-ltb _ _ h, settled)
    complete (WrongSize.uneven n) = simp (ne_eqb _ _ n, settled)

-- a number that is the subtype of neither width is that of none
neither_width : {n : ℕ} → (n ≡ subtype_of Two → ⊥) → (n ≡ subtype_of Four → ⊥) → (w : Width) → n ≡ subtype_of w → ⊥
neither_width two four Two = two
neither_width two four Four = four

-- row 12
pub mrt_type_decides : (s : List ℕ) → Decides (wrong_mrt_type s) (WrongMrtType s)
unfolding wrong_mrt_type
mrt_type_decides s = record { sound = sound; complete = complete }
  where
    sound : wrong_mrt_type s ≡ true → WrongMrtType s
    sound e =
        unless _ _ e
        (λ h. WrongMrtType.other_type (eqb-false _ _ h))
        (λ f. let b = without _ _ f in WrongMrtType.other_subtype (neither_width (eqb-false _ _ b.0) (eqb-false _ _ (not-true _ b.1))))

    complete : WrongMrtType s → wrong_mrt_type s ≡ true
    complete (WrongMrtType.other_type n) = simp (ne_eqb _ _ n)
    complete (WrongMrtType.other_subtype n) = simp (ne_eqb _ _ (n Two), ne_eqb _ _ (n Four), settled)

-- row 13
pub peer_decides : (s : List ℕ) → Decides (wrong_peer (width_of s) s) (WrongPeer s)
unfolding wrong_peer
peer_decides s = record { sound = sound; complete = complete }
  where
    sound : wrong_peer (width_of s) s ≡ true → WrongPeer s
    sound e = either _ _ e (λ h. WrongPeer.cut (ltb-true _ _ h)) (λ h. WrongPeer.other_family (eqb-false _ _ (not-true _ h)))

    complete : WrongPeer s → wrong_peer (width_of s) s ≡ true
    complete (WrongPeer.cut h) = simp (lt-ltb _ _ h)
    complete (WrongPeer.other_family n) = simp (ne_eqb _ _ n, settled)

-- the marker
ones_decides : (n : ℕ) (m : List ℕ) → Decides (ones n m) (take n m ≡ replicate n 255)
ones_decides n m = record { sound = ones_sound n m; complete = ones_complete n m }

-- row 14
pub frame_decides : (m : List ℕ) → Decides (wrong_frame m) (WrongFrame m)
unfolding wrong_frame
frame_decides m = record { sound = sound; complete = complete }
  where
    sound : wrong_frame m ≡ true → WrongFrame m
    sound e =
        either _ _ e
        (λ h. WrongFrame.short (ltb-true _ _ h))
        (λ f. either _ _ f (λ h. WrongFrame.long (ltb-true _ _ h))
        (λ g. unless _ _ g (λ h. WrongFrame.unmarked (decides_false (ones_decides marker_size m) h)) (λ h. WrongFrame.uneven (eqb-false _ _ (not-true _ h)))))

    complete : WrongFrame m → wrong_frame m ≡ true
    complete (WrongFrame.short h) = simp (lt-ltb _ _ h)
    complete (WrongFrame.long h) = simp (lt-ltb _ _ h, settled)
    complete (WrongFrame.unmarked n) = simp (decides_not (ones_decides marker_size m) n, settled)
    complete (WrongFrame.uneven n) = simp (ne_eqb _ _ n, settled)
