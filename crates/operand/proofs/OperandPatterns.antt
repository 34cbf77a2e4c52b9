-- Patterns of AS paths: decided, and at most one. Assumes nothing.
use Prim.Native.Nat.{ℕ}
use native.Mathlib.Omega.{arith}
use mathlib.Core.Path.{◌≡◌, refl, sym, ap, ◌∙◌}
use mathlib.Core.Bool.{Bool, true, false}
use Rattle.std.specs.Prelude.{Some}
use mathlib.Core.List.{List, [], ◌∷◌, ◌++◌, append_assoc, append-nil}
use Rattle.octets.specs.Choice.{pick}
use Rattle.octets.specs.Lists.{Every, every_none}
use Rattle.octets.proofs.Choices.{never}
use Rattle.octets.proofs.Every.{every_append}
use Rattle.aspath.specs.declared.Item.{Item}
use Rattle.aspath.specs.Patterns.{Pattern}
use Rattle.token.specs.Texts.{Blank}
use Rattle.operand.proofs.Holding.{AnswerHolds, nothing, held, holds_pick, holds_some}
use Rattle.operand.proofs.FrontReads.{end, other, optional_sound, optional_yes, optional_not, cut_joined, cut_run, cut_exact, cut_again}
use Rattle.operand.proofs.Blanks.{blanks_sound, blanks_complete}
use Rattle.operand.proofs.AsNumberLaws.{as_none}
use Rattle.operand.proofs.PartedLaws.{Listed, parted_sound, parted_complete}
use Rattle.operand.proofs.OperandItems.{item_reads, end_closes, dollar_closes}
use Rattle.operand.specs.Patterns.{ItemText, PatternOperand, item_read, has_part, pattern_closed, pattern_opened, pattern_items, pattern_operand}
use Rattle.operand.specs.Parted.{PartedText, parted_read, all_parted}
use Rattle.operand.specs.Fronts.{Read, read, ended, after, optional, cut}
use Rattle.token.specs.Next.{is_blank}
use Rattle.operand.specs.Decimals.{is_digit}

-- a pattern that was found is not wholly empty
some_of : (s e : Bool) (is : List Item) → has_part s is e ≡ true → s ≡ false → e ≡ false → is ≡ [] → ⊥
some_of true e is h p q r = never (sym p)
some_of false true is h p q r = never (sym q)
some_of false false [] h p q r = never h
some_of false false (i ∷ is) h p q r = let z : ◌≡◌ {A = ℕ} 0 1 = cc in omega arith

-- a text from its parts
chain : {l m n o p q r : List ℕ} (a b c d e f g : List ℕ) → l ≡ a ++ m → m ≡ b ++ n → n ≡ c ++ o → o ≡ d ++ (e ++ p) → p ≡ f ++ q → q ≡ g ++ r → r ≡ []
    → l ≡ a ++ (b ++ (c ++ (d ++ (e ++ (f ++ g)))))
chain a b c d e f g s t u v w x y = rw (s, t, u, v, w, x, y, append-nil g)

-- a pattern that was read is meant
pub pattern_sound : (l : List ℕ) → AnswerHolds (PatternOperand l) (pattern_operand l)
unfolding pattern_operand
pattern_sound l = holds_pick _ (λ t. go (pattern_items l) (parted_sound item_reads _ m) t (cut is_blank (optional 36 (pattern_items l).rest).rest).rest refl) (λ t. nothing)
  where
    m : List ℕ
    m = (cut is_blank (pattern_opened l).rest).rest

    go : (is : Read (List Item)) → Listed ItemText m is → has_part (pattern_opened l).value is.value (optional 36 is.rest).value ≡ true
        → (left : List ℕ) → (cut is_blank (optional 36 is.rest).rest).rest ≡ left
        → AnswerHolds (PatternOperand l) (ended left (record { start = (pattern_opened l).value; items = is.value; end = (optional 36 is.rest).value }))
    go is x t (b ∷ bs) e = nothing
    go is x t [] e = held (record {
      before = (cut is_blank l).value;
      between = (cut is_blank (pattern_opened l).rest).value;
      text = x.text;
      behind = x.behind;
      after = (cut is_blank (optional 36 is.rest).rest).value;
      joined = chain (cut is_blank l).value (pick (pattern_opened l).value (94 ∷ []) []) (cut is_blank (pattern_opened l).rest).value x.text x.behind (pick (optional 36 is.rest).value (36 ∷ []) []) (cut is_blank (optional 36 is.rest).rest).value
          (cut_joined is_blank l) (optional_sound 94 (cut is_blank l).rest) (cut_joined is_blank (pattern_opened l).rest) x.joined (optional_sound 36 is.rest) (cut_joined is_blank (optional 36 is.rest).rest) e;
      before_blank = blanks_sound (cut_run is_blank l);
      between_blank = blanks_sound (cut_run is_blank (pattern_opened l).rest);
      behind_blank = x.blank;
      after_blank = blanks_sound (cut_run is_blank (optional 36 is.rest).rest);
      items_are = x.says;
      not_empty = some_of (pattern_opened l).value (optional 36 is.rest).value is.value t;
    })

-- only `$` or nothing is left behind the items
abbrev left : Bool → List ℕ → List ℕ
left true l = 36 ∷ l
left false l = []

-- the items of a pattern are read up to what is left
items_left : (e : Bool) {before text behind after' : List ℕ} {is : List Item} → Every Blank before → PartedText ItemText text is → Every Blank behind → Every Blank after'
    → all_parted item_read (cut is_blank (before ++ (text ++ (behind ++ (pick e (36 ∷ []) [] ++ after'))))).rest ≡ read is (left e after')
items_left true {after' = after'} b x k a = parted_complete item_reads b x k (dollar_closes after')
items_left false {before} {text} {behind} {after'} b x k a =
    let z : behind ++ after' ≡ (behind ++ after') ++ [] = sym (append-nil (behind ++ after')) in
    rw z (parted_complete item_reads b x (every_append k a) end_closes)

-- a pattern that is not wholly empty is found so
not_empty_of : (s e : Bool) (is : List Item) → (s ≡ false → e ≡ false → is ≡ [] → ⊥) → has_part s is e ≡ true
not_empty_of true e is f = refl
not_empty_of false true is f = refl
not_empty_of false false [] f = absurd (f refl refl refl)
not_empty_of false false (i ∷ is) f = refl

-- nothing has no front byte
no_byte : {b : ℕ} {r : List ℕ} → ◌≡◌ {A = List ℕ} [] (b ∷ r) → ⊥
no_byte e = let z : ◌≡◌ {A = ℕ} 0 1 = cc in omega arith

-- `$` and blanks end a pattern
closed_complete : (s e : Bool) (is : List Item) {after' : List ℕ} → Every Blank after' → (s ≡ false → e ≡ false → is ≡ [] → ⊥)
    → pattern_closed s is (optional 36 (left e after')) ≡ Some (record { start = s; items = is; end = e })
closed_complete s true is {after'} a f =
    let z : cut is_blank after' ≡ read after' [] = rw (append-nil after') at (cut_exact is_blank (blanks_complete a) end) in
    rw (optional_yes 36 after', not_empty_of s true is f, z)
closed_complete s false is a f = rw (optional_not 36 {l = []} (λ r e. no_byte e), not_empty_of s false is f, cut_exact is_blank every_none end)

-- from the items on a pattern is read
opened_complete : (s e : Bool) (l : List ℕ) {m after' : List ℕ} {is : List Item} → Every Blank after' → (s ≡ false → e ≡ false → is ≡ [] → ⊥)
    → pattern_opened l ≡ read s m → all_parted item_read (cut is_blank m).rest ≡ read is (left e after') → pattern_operand l ≡ Some (record { start = s; items = is; end = e })
unfolding pattern_operand
opened_complete s e l {is = is} a h o r = rw (o, r) (closed_complete s e is a h)

-- at `^` no items are read
caret : (r : List ℕ) → all_parted item_read (94 ∷ r) ≡ read [] (94 ∷ r)
unfolding parted_read item_read is_digit after
caret r = rw (as_none {l = 94 ∷ r} (other refl))

-- so no items start with it
no_caret : (e : Bool) (m after' : List ℕ) {is : List Item} → all_parted item_read m ≡ read is (left e after') → (r : List ℕ) → m ≡ 94 ∷ r → ⊥
no_caret e m after' {is} h r z = go e (ap (λ (t : Read (List Item)). t.rest) (sym (rw z at h) ∙ caret r))
  where
    go : (e : Bool) → left e after' ≡ 94 ∷ r → ⊥
    go true x = let w : ◌≡◌ {A = ℕ} 36 94 = cc in omega arith
    go false x = no_byte x

-- a sign in front
pattern_by : (s e : Bool) {before between text behind after' : List ℕ} {is : List Item} → Every Blank before → Every Blank between → PartedText ItemText text is → Every Blank behind → Every Blank after'
    → (s ≡ false → e ≡ false → is ≡ [] → ⊥)
    → pattern_operand (before ++ (pick s (94 ∷ []) [] ++ (between ++ (text ++ (behind ++ (pick e (36 ∷ []) [] ++ after')))))) ≡ Some (record { start = s; items = is; end = e })
unfolding is_blank
pattern_by true e {between = between} {text} {behind} {after'} b c x k a n =
    let m : List ℕ = between ++ (text ++ (behind ++ (pick e (36 ∷ []) [] ++ after'))) in
    opened_complete true e _ {m = m} a n (rw (cut_exact is_blank {ys = 94 ∷ m} (blanks_complete b) (other refl)) (optional_yes 94 m)) (items_left e c x k a)
pattern_by false e {before} {between} {text} {behind} {after'} {is} b c x k a n =
    let w : List ℕ = text ++ (behind ++ (pick e (36 ∷ []) [] ++ after')) in
    let m : List ℕ = (cut is_blank (before ++ (between ++ w))).rest in
    let r : all_parted item_read m ≡ read is (left e after') = rw (← (append_assoc before between w)) (items_left e (every_append b c) x k a) in
    opened_complete false e _ {m = m} a n (optional_not 94 (no_caret e m after' r)) (rw (cut_again is_blank (before ++ (between ++ w))) r)

-- no pattern is missed
pub pattern_complete : {l : List ℕ} {p : Pattern} → PatternOperand l p → pattern_operand l ≡ Some p
pattern_complete {l} {p} x = rw (← x.joined) at (pattern_by p.start p.end x.before_blank x.between_blank x.items_are x.behind_blank x.after_blank x.not_empty)

-- the items of an operand that is a pattern are the pattern's
pub items_in : (v : List ℕ) {p : Pattern} → pattern_operand v ≡ Some p → (pattern_items v).value ≡ p.items
unfolding pattern_operand
items_in v h =
    let e = optional 36 (pattern_items v).rest in
    holds_some (holds_pick (has_part (pattern_opened v).value (pattern_items v).value e.value) (λ t. go e.value (cut is_blank e.rest).rest) (λ t. nothing)) h
  where
    go : (e : Bool) (rest : List ℕ) → AnswerHolds (λ (q : Pattern). (pattern_items v).value ≡ q.items) (ended rest (record { start = (pattern_opened v).value; items = (pattern_items v).value; end = e }))
    go e [] = held refl
    go e (b ∷ bs) = nothing
