-- A record satisfies validity's record rule exactly when some text compiles to a program that contains it. Assumes nothing.
use Prim.Native.Nat.{ℕ, zero, suc, ◌+◌, ◌*◌, ◌≤◌, ◌<◌}
use native.Mathlib.Omega.{arith}
use mathlib.Core.Path.{◌≡◌, refl, sym, ap}
use mathlib.Core.Bool.{true, false}
use mathlib.Core.List.{List, [], ◌∷◌, ◌++◌}
use mathlib.Core.Logic.{◌↔◌}
use lib.ListN.{length, length-append, length-replicate}
use Rattle.octets.specs.Lists.{Every, every_none, every_more}
use Rattle.octets.proofs.Choices.{never}
use Rattle.octets.proofs.Every.{every_append, every_place}
use Rattle.aspath.specs.declared.Item.TheVariants.{Any}
use Rattle.program.specs.Readings.{Test, path_matches, has_loop, item_count, Operator, and, or, Reading, test, neg, joint, weight}
use Rattle.program.specs.Records.{Head, type, attribute, path, peer, loops, bogon, network, time, communities, PossibleHead}
use Rattle.program.specs.Records.{Record, head, item, flip, pass, weight_limit, Possible}
use Rattle.program.specs.Layout.{record_size}
use Rattle.program.specs.Compiling.{head_of, items_of, records}
use Rattle.program.proofs.MachineLaws.{length_records}
use Rattle.program.proofs.ReadingValid.{records_possible}
use Rattle.token.specs.Texts.{text_limit}
use Rattle.token.specs.Tokens.{Token, bang, word, quoted}
use Rattle.operand.specs.declared.Name.{Name}
use Rattle.filter.specs.Words.{flag, name}
use Rattle.filter.specs.Grammar.{factor, a_quoted, Reads, flagged, tested, negated, single, anded, lone, ored}
use Rattle.filter.proofs.Counts.{levels}
use Rattle.filter.specs.Answers.{TextAnswers, compiles, compiled}
use Rattle.filter.specs.Given.{Given}
use Rattle.filter.proofs.CompiledValid.{reads_possible}
use Rattle.filter.proofs.OperandTexts.{Meant, type_meant, attribute_meant, peer_meant, network_meant, time_meant, communities_meant, dotted, dotted_meant, alone, alone_meant}
use Rattle.filter.proofs.Sayings.{Written, said_written, Said, loop_said, bogon_said, join_said, name_most, name_said}
use Rattle.filter.proofs.Spelling.{Proper, spelled, spell, spell_append, spelled_compiles}

-- ---- texts that compile

-- tokens of a test that can be written: they open no level, and their text has at most so many bytes
record Factor (most : ℕ) (x : Test) : Type 0 where
  pub tokens : List Token
  pub reads : Reads factor tokens (test x)
  pub flat : levels reads ≡ 0
  pub proper : Every Proper tokens
  pub short : length (spell tokens) ≤ most

-- a word of the language can be written
word_proper : {w : List ℕ} → Written w → Proper (word w)
word_proper x = (x.some, x.bytes)

-- a test that a word alone says, with a space
flag_factor : {most : ℕ} {x : Test} → Said most (flag x) → Factor (most + 1) x
unfolding spell spelled levels
flag_factor s = record {
  tokens = word s.word ∷ [];
  reads = flagged s.says;
  flat = refl;
  proper = every_more (word_proper (said_written s.says)) every_none;
  short = omega (arith, s.few, length-append s.word (32 ∷ []));
}

-- a name and its operand in quotes, with two spaces
test_factor : {k : Name} {most : ℕ} {x : Test} → Meant k most x → Factor (name_most k + most + 4) x
unfolding spell spelled levels
test_factor {k} {most} {x} m = by_word (name_said k)
  where
    by_word : Said (name_most k) (name k) → Factor (name_most k + most + 4) x
    by_word s = record {
      tokens = word s.word ∷ quoted m.bytes ∷ [];
      reads = tested s.says a_quoted m.means;
      flat = refl;
      proper = every_more (word_proper (said_written s.says)) (every_more m.quotable.plain every_none);
      short = simp length-append (omega (arith, s.few, m.quotable.short));
    }

-- a test alone
test_compiles : {most : ℕ} {x : Test} (f : Factor most x) → most ≤ text_limit → item_count x < weight_limit → TextAnswers (spell f.tokens) (record_size * weight_limit) (compiled (test x))
unfolding weight levels
test_compiles f s h = spelled_compiles (lone (single f.reads)) (omega (arith, f.flat)) f.proper (omega (arith, f.short)) (omega arith)

-- `!` and a test, with a space
not_compiles : {most : ℕ} {x : Test} (f : Factor most x) → 2 + most ≤ text_limit → 1 + item_count x < weight_limit → TextAnswers (spell (bang ∷ f.tokens)) (record_size * weight_limit) (compiled (neg (test x)))
unfolding weight levels spell spelled
not_compiles f s h =
    spelled_compiles (lone (single (negated f.reads))) (omega (arith, f.flat)) (every_more tt f.proper) (omega (arith, f.short)) (omega arith)

-- the tokens of two tests joined
abbrev both : {m n : ℕ} {x y : Test} (o : Operator) → Factor m x → Factor n y → List Token
both o f g = f.tokens ++ (word (join_said o).word ∷ g.tokens)

-- two tests joined, by a word of at most four bytes and a space
joint_compiles : {m n : ℕ} {x y : Test} (o : Operator) (f : Factor m x) (g : Factor n y) → m + 5 + n ≤ text_limit → 2 + item_count x + item_count y < weight_limit
    → TextAnswers (spell (both o f g)) (record_size * weight_limit) (compiled (joint o (test x) (test y)))
unfolding weight levels spell spelled
joint_compiles {x = x} {y} o f g s h = by_operator o
  where
    proper : (o : Operator) → Every Proper (both o f g)
    proper o = every_append f.proper (every_more (word_proper (said_written (join_said o).says)) g.proper)

    short : (o : Operator) → length (spell (both o f g)) ≤ text_limit
    short o =
        omega (
          arith,
          f.short,
          g.short,
          (join_said o).few,
          ap length (spell_append f.tokens (word (join_said o).word ∷ g.tokens)),
          length-append (spell f.tokens) (spell (word (join_said o).word ∷ g.tokens)),
          length-append (join_said o).word (32 ∷ spell g.tokens),
        )

    by_operator : (o : Operator) → TextAnswers (spell (both o f g)) (record_size * weight_limit) (compiled (joint o (test x) (test y)))
    by_operator and =
        spelled_compiles (lone (anded (join_said and).word (single f.reads) (join_said and).says g.reads)) (omega (arith, f.flat, g.flat))
        (proper and) (short and) (omega arith)
    by_operator or =
        spelled_compiles (ored (join_said or).word (lone (single f.reads)) (join_said or).says (single g.reads)) (omega (arith, f.flat, g.flat))
        (proper or) (short or) (omega arith)

-- ---- heads

-- a test of this head, that a text writes
record Shown (h : Head) : Type 0 where
  pub test : Test
  pub most : ℕ
  pub factor : Factor most test
  pub heads : head_of test ≡ h
  pub short : most ≤ text_limit
  pub few : item_count test < weight_limit

shows : {most : ℕ} {x : Test} {h : Head} → Factor most x → head_of x ≡ h → most ≤ text_limit → item_count x < weight_limit → Shown h
shows {most} {x} f e s w = record { test = x; most = most; factor = f; heads = e; short = s; few = w }

-- every possible head is that of a test
shown : (h : Head) → PossibleHead h → Shown h
unfolding head_of item_count
shown (type c) p = shows (test_factor (type_meant p)) refl (omega arith) (omega arith)
shown (attribute c) p = shows (test_factor (attribute_meant p)) refl (omega arith) (omega arith)
shown (path s e n) p =
    shows (test_factor (dotted_meant p)) (ap (path s e) (length-replicate n Any)) (omega (arith, p.few)) (omega (arith, p.few, length-replicate n Any))
shown (peer q) p = shows (test_factor (peer_meant q p)) refl (omega arith) (omega arith)
shown loops p = shows (flag_factor loop_said) refl (omega arith) (omega arith)
shown bogon p = shows (flag_factor bogon_said) refl (omega arith) (omega arith)
shown (network r n s) p = shows (test_factor (network_meant r s p)) refl (omega arith) (omega arith)
shown (time c s m) p = shows (test_factor (time_meant c p)) refl (omega arith) (omega arith)
shown (communities n) p =
    shows (test_factor (communities_meant p)) (ap communities (length-replicate {A = ℕ} n 0)) (omega (arith, p.few)) (omega (arith, p.few, length-replicate {A = ℕ} n 0))

-- so it is given
head_given : {h : Head} → Shown h → Given (head h)
unfolding records
head_given s = record {
  text = spell s.factor.tokens;
  reading = test s.test;
  compiles = test_compiles s.factor s.short s.few;
  place = 0;
  within = omega arith;
  stands = ap head s.heads;
}

-- ---- the other records

-- a test that stands beside another, or behind `!`
a_loop : Factor 7 has_loop
a_loop = flag_factor loop_said

-- a pass over a pattern of `^` and items, and over these
pass_given : (o : Operator) (n : ℕ) → 3 + n ≤ weight_limit → Given (pass o (suc n))
unfolding records item_count weight head_of items_of
pass_given o n h =
    let q : Test = path_matches (dotted true false n) in
    let e : length (records (test q)) ≡ suc n = omega (arith, length_records (test q), length-replicate n Any) in
    let g = test_factor (dotted_meant {s = true} {e = false} {n = n} (record { few = omega arith; some = λ s e i. never (sym s) })) in
    record {
      text = spell (both o a_loop g);
      reading = joint o (test has_loop) (test q);
      compiles = joint_compiles o a_loop g (omega arith) (omega (arith, length-replicate n Any));
      place = 1;
      within = omega arith;
      stands = ap (pass o) e;
    }

-- every possible record is given
possible_given : (r : Record) → Possible r → Given r
unfolding items_of item_count records
possible_given (head h) p = head_given (shown h p)
possible_given (item i) p =
    let f = test_factor (alone_meant i p) in
    record { text = spell f.tokens; reading = test (path_matches (alone i)); compiles = test_compiles f (omega arith) (omega arith); place = 1; within = omega arith; stands = refl }
possible_given flip p =
    record { text = spell (bang ∷ a_loop.tokens); reading = neg (test has_loop); compiles = not_compiles a_loop (omega arith) (omega arith); place = 1; within = omega arith; stands = refl }
possible_given (pass o zero) p = absurd (omega (arith, p.some))
possible_given (pass o (suc n)) p = pass_given o n (omega (arith, p.few))

-- every given record is possible
given_is_possible : {r : Record} → Given r → Possible r
given_is_possible g = rw g.stands at (every_place (by_answer g.compiles) flip g.place g.within)
  where
    by_answer : {text : List ℕ} {room : ℕ} {r : Reading} → TextAnswers text room (compiled r) → Every Possible (records r)
    by_answer {r = r} (compiles f d w l) = records_possible r (reads_possible d.derived.reads) w

-- validity's record rule says what compiling some text could give
pub given_possible : (r : Record) → Possible r ↔ Given r
given_possible r = (possible_given r, given_is_possible)
