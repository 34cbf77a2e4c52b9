-- Communities: one at the front of a text, and those of an operand; decided, and at most one list. Assumes nothing.
use Prim.Native.Nat.{ℕ, ◌+◌, ◌-◌, ◌≤◌}
use native.Mathlib.Omega.{arith}
use mathlib.Core.Path.{◌≡◌, refl, sym, ◌∙◌}
use mathlib.Core.Bool.{true, false}
use Rattle.std.specs.Prelude.{Some}
use mathlib.Core.List.{List, [], ◌∷◌, ◌++◌, append_assoc, append-nil}
use lib.Dec.{leb}
use lib.ListN.{length, get_or, length-append}
use lib.Seq.{get_or-append-add}
use borrow.Author.Tests.{leb-true}
use Rattle.octets.specs.Choice.{onward}
use Rattle.octets.specs.Equal.{same}
use Rattle.octets.specs.Lists.{Every, every_more, every_passes}
use Rattle.octets.proofs.Choices.{never}
use Rattle.octets.proofs.Every.{every_append, every_weaker, every_place, all_sound}
use Rattle.names.specs.Tables.{In, found}
use Rattle.names.proofs.Finding.{found_row}
use Rattle.communities.specs.Communities.{half_limit, community}
use Rattle.communities.specs.Names.{community_names}
use Rattle.communities.proofs.NamesDiffer.{communities_differ}
use Rattle.token.specs.Texts.{Blank}
use Rattle.token.specs.Next.{is_blank, is_letter, run}
use Rattle.token.proofs.ByteTests.{blank_complete}
use Rattle.operand.specs.Fronts.{read, ended, cut}
use Rattle.operand.specs.Decimals.{Below, is_digit, number_on, number}
use Rattle.operand.specs.Parted.{PartedText, all_parted}
use Rattle.operand.specs.Communities.{CommunityText, halves, by_name, CommunitiesOperand, halves_read, name_read, community_read, blank_end, one_or_more, communities_operand}
use Rattle.operand.proofs.Holding.{AnswerHolds, nothing, held, holds_onward, holds_else, holds_pick, holds_some}
use Rattle.operand.proofs.FrontReads.{Got, Run, Stops, end, other, stops_narrower, after_sound, after_complete, cut_joined, cut_exact}
use Rattle.operand.proofs.Decimals.{decimal_run, number_sound, number_complete}
use Rattle.operand.proofs.Blanks.{letter_no_blank, digit_letter, blank_stops_letters, run_stops}
use Rattle.operand.proofs.NameTables.{found_holds, row_passes, unread, found_none}
use Rattle.operand.proofs.PartedLaws.{ReadsOne, Closes, Listed, parted_end, parted_sound, parted_whole}

-- nothing, or a byte that no word goes on with
abbrev pub BehindCommunity : List ℕ → Type 0
BehindCommunity l = Stops is_letter l

-- ---- its bytes are letters

-- those of a name
name_letters : {w : List ℕ} {c : ℕ} → In community_names w c → Run is_letter w
unfolding every_passes community_names is_letter is_blank
name_letters x = all_sound (λ b e. e) (row_passes (λ w c. every_passes is_letter w) refl x)

-- of each
text_letters : {text : List ℕ} {c : ℕ} → CommunityText text c → Run is_letter text
unfolding is_letter is_blank
text_letters (halves x y e) = rw e (every_append (every_weaker digit_letter (decimal_run x.decimal)) (every_more refl (every_weaker digit_letter (decimal_run y.decimal))))
text_letters (by_name x) = name_letters x

-- there is one at least
text_some : {text : List ℕ} {c : ℕ} → CommunityText text c → 1 ≤ length text
unfolding every_passes community_names
text_some (halves {bs} x y e) = rw (e, length-append bs) (omega arith)
text_some {text} (by_name x) = leb-true 1 (length text) (row_passes (λ w c. leb 1 (length w)) refl x)

-- ---- at the front of a text

-- halves that were read stand there
halves_sound : (l : List ℕ) → AnswerHolds (Got CommunityText l) (halves_read l)
unfolding halves_read
halves_sound l =
    holds_onward (number_sound half_limit l) (λ n g. holds_onward (after_sound 58 n.rest) (λ r e. holds_onward (number_sound half_limit r) (λ m h.
    held (record { text = g.text ++ (58 ∷ h.text); joined = g.joined ∙ rw (e, h.joined) (simp append_assoc); says = halves g.says h.says refl }))))

-- and all halves before no digit are read
halves_complete : {bs cs l rest : List ℕ} {n m : ℕ} → Below half_limit bs n → Below half_limit cs m → l ≡ bs ++ (58 ∷ cs) → Stops is_digit rest → halves_read (l ++ rest) ≡ Some (read (community n m) rest)
unfolding halves_read is_digit
halves_complete {bs} {cs} {rest = rest} x y e s =
    rw (e, append_assoc bs, number_complete {rest = 58 ∷ (cs ++ rest)} x (other refl), after_complete 58 (cs ++ rest), number_complete y s)

-- no name is halves
names_unread : unread halves_read community_names ≡ true
unfolding every_passes community_names halves_read number number_on is_digit
names_unread = refl

-- a community that was read stands there
community_sound : (l : List ℕ) → AnswerHolds (Got CommunityText l) (community_read l)
unfolding community_read name_read
community_sound l =
    holds_else (holds_onward (found_holds community_names (cut is_letter l).value) (λ c x. held (record { text = (cut is_letter l).value; joined = cut_joined is_letter l; says = by_name x })))
    (halves_sound l)

-- and every one is read where no letter follows
community_complete : {text rest : List ℕ} {c : ℕ} → CommunityText text c → BehindCommunity rest → community_read (text ++ rest) ≡ Some (read c rest)
unfolding community_read name_read
community_complete {text} {rest} (halves {n = n} {m} x y e) s =
    let h : halves_read text ≡ Some (read (community n m) []) = rw (append-nil text) at (halves_complete x y e end) in
    rw (cut_exact is_letter (text_letters (halves x y e)) s, found_none halves_read community_names text names_unread h) (halves_complete x y e (stops_narrower is_letter is_digit digit_letter s))
community_complete (by_name x) s = rw (cut_exact is_letter (name_letters x) s, found_row communities_differ x)

-- the reader of one
pub community_reads : ReadsOne CommunityText community_read BehindCommunity
community_reads = record {
  sound = community_sound;
  complete = community_complete;
  some_byte = text_some;
  front = λ t rest. run_stops is_letter is_blank letter_no_blank (text_letters t) (text_some t) rest;
  gap_behind = blank_stops_letters;
}

-- nothing closes them
pub end_closes : Closes community_read BehindCommunity []
unfolding community_read name_read halves_read community_names found same cut run number number_on
end_closes = record { no_blank = end; behind = end; no_more = refl }

-- ---- the end of a text

-- a blank at the end is one of the bytes behind
blank_end_lem : (front bs : List ℕ) → 1 ≤ length bs → blank_end (front ++ bs) ≡ is_blank (get_or bs (length bs - 1) 0)
unfolding blank_end
blank_end_lem front bs h =
    let e : length (front ++ bs) - 1 ≡ length front + (length bs - 1) = omega (arith, length-append front bs) in
    rw (e, get_or-append-add front bs (length bs - 1) 0)

-- none stands behind a community
community_end : (front : List ℕ) {bs : List ℕ} {c : ℕ} → CommunityText bs c → blank_end (front ++ bs) ≡ false
community_end front {bs} t = blank_end_lem front bs (text_some t) ∙ letter_no_blank _ (every_place (text_letters t) 0 (length bs - 1) (omega (arith, text_some t)))

-- one stands behind blanks
blanks_end : (front : List ℕ) {gap : List ℕ} → Every Blank gap → 1 ≤ length gap → blank_end (front ++ gap) ≡ true
blanks_end front {gap} g h = blank_end_lem front gap h ∙ blank_complete (every_place g 0 (length gap - 1) (omega arith))

-- ---- an operand

-- what was read is meant
pub communities_sound : (l : List ℕ) → AnswerHolds (CommunitiesOperand l) (communities_operand l)
unfolding communities_operand
communities_sound l = holds_pick (blank_end l) (λ e. nothing) (λ e. go e (all_parted community_read l).rest (all_parted community_read l).value (parted_sound community_reads _ l))
  where
    whole : blank_end l ≡ false → (text behind : List ℕ) {cs : List ℕ} → l ≡ text ++ (behind ++ []) → Every Blank behind → PartedText CommunityText text cs → PartedText CommunityText l cs
    whole e text [] j b p = rw (j, append-nil text) p
    whole e text (g ∷ gs) j b p =
        let z : l ≡ text ++ (g ∷ gs) = rw (append-nil gs) at j in
        never (sym (rw z at e) ∙ blanks_end text b (omega arith))

    go : blank_end l ≡ false → (rest cs : List ℕ) → Listed CommunityText l (read cs rest) → AnswerHolds (CommunitiesOperand l) (onward (ended rest cs) one_or_more)
    go e (b ∷ bs) cs x = nothing
    go e [] [] x = nothing
    go e [] (c ∷ cs) x = held (record { parted = whole e x.text x.behind x.joined x.blank x.says; some = omega arith })

-- and none is missed
pub communities_complete : {l cs : List ℕ} → CommunitiesOperand l cs → communities_operand l ≡ Some cs
unfolding communities_operand
communities_complete {l} {cs} x = go cs x.parted x.some
  where
    go : (cs : List ℕ) → PartedText CommunityText l cs → 1 ≤ length cs → communities_operand l ≡ Some cs
    go [] p h = absurd (omega arith)
    go (c ∷ cs) p h = rw (parted_end (λ m. blank_end m ≡ false) (λ front bs d t. community_end front t) p, parted_whole community_reads p end_closes)

-- the communities of an operand are all that are read from its front on
pub asked_in : (v : List ℕ) {cs : List ℕ} → communities_operand v ≡ Some cs → (all_parted community_read v).value ≡ cs
unfolding communities_operand
asked_in v h = holds_some (holds_pick (blank_end v) (λ e. nothing) (λ e. go (all_parted community_read v).rest (all_parted community_read v).value)) h
  where
    go : (rest cs : List ℕ) → AnswerHolds (λ (ds : List ℕ). cs ≡ ds) (onward (ended rest cs) one_or_more)
    go (b ∷ bs) cs = nothing
    go [] [] = nothing
    go [] (c ∷ cs) = held refl
