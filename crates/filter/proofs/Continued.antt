-- What is allowed can be gone on with in writing: the continuations of `Alive` are any tokens, and some that a text can have are among them. Assumes nothing.
use Prim.Native.Nat.{ℕ, suc, ◌≤◌}
use native.Mathlib.Omega.{arith}
use native.Mathlib.Nat.{zero-add}
use mathlib.Core.Path.{◌≡◌, refl}
use mathlib.Core.List.{List, ◌∷◌, ◌++◌}
use lib.ListN.{length}
use Rattle.octets.specs.Lists.{Every, every_none, every_more}
use Rattle.program.specs.Readings.{Reading}
use Rattle.token.specs.Texts.{space, Allowed}
use Rattle.token.specs.Tokens.{word, Placed, Lexes, blanks}
use Rattle.token.proofs.Lexing.{lexes_append}
use Rattle.operand.specs.declared.Name.{Name}
use Rattle.operand.specs.declared.Name.TheVariants.{MessageType as type_name, Attribute as attribute_name, Path as path_name, Peer as peer_name, Time as time_name, Network as network_name, Communities as communities_name}
use Rattle.operand.proofs.Samples.{sample_text}
use Rattle.filter.specs.Grammar.{Part, expression, Reads}
use Rattle.filter.specs.Answers.{Alive, bare}
use Rattle.filter.specs.Reader.{Hole, whole, grouping, first, oring, head, anding, negating, ReaderState, want, operand, have, came, start, walk}
use Rattle.filter.proofs.Roles.{loops_word, loops_said}
use Rattle.filter.proofs.Sayings.{wordly, wordly_sound, said_written}
use Rattle.filter.proofs.Spelling.{Proper, spell, positioned, space_stops, spell_lexes, bare_positioned, seen, spell_allowed}
use Rattle.filter.proofs.Sound.{walk_at}
use Rattle.filter.proofs.Endings.{closers, closing, closed_at}
use Rattle.filter.proofs.Operands.{alive_reached}
use Rattle.filter.proofs.Places.{bare_append}

-- a text with these tokens goes on with allowed bytes, whose tokens come after its own; and all together are derived
pub record Continued (text : List ℕ) (ps : List Placed) : Type 0 where
  pub bytes : List ℕ
  pub tokens : List Placed
  pub reading : Reading
  pub allowed : Every Allowed bytes
  pub lexed : Lexes 0 (text ++ bytes) (ps ++ tokens)
  pub reads : Reads expression (bare (ps ++ tokens)) reading

-- the tokens that bring a state to the end of a text can be written
closers_proper : {p : Part} (h : Hole p) → Every Proper (closers h)
unfolding closers
closers_proper whole = every_none
closers_proper (grouping h) = every_more tt (closers_proper h)
closers_proper (first h) = closers_proper h
closers_proper (oring a h) = closers_proper h
closers_proper (head h) = closers_proper h
closers_proper (anding a h) = closers_proper h
closers_proper (negating h) = closers_proper h

sample_proper : (k : Name) → Proper (word (sample_text k))
unfolding wordly
sample_proper type_name = (omega arith, wordly_sound (sample_text type_name) refl)
sample_proper attribute_name = (omega arith, wordly_sound (sample_text attribute_name) refl)
sample_proper path_name = (omega arith, wordly_sound (sample_text path_name) refl)
sample_proper peer_name = (omega arith, wordly_sound (sample_text peer_name) refl)
sample_proper time_name = (omega arith, wordly_sound (sample_text time_name) refl)
sample_proper communities_name = (omega arith, wordly_sound (sample_text communities_name) refl)
sample_proper (network_name r) = (omega arith, wordly_sound (sample_text (network_name r)) refl)

closing_proper : (s : ReaderState) → Every Proper (closing s)
unfolding closing
closing_proper (want h) = let w = said_written loops_said in every_more {a = word loops_word} (w.some, w.bytes) (closers_proper h)
closing_proper (operand k h) = every_more (sample_proper k) (closers_proper h)
closing_proper (have r h) = closers_proper h

-- what is allowed can be gone on with in writing
pub alive_written : {text : List ℕ} {ps : List Placed} → Lexes 0 text ps → Alive (bare ps) → Continued text ps
alive_written {text} {ps} l a = by_walk (alive_reached 0 (bare ps) a)
  where
    by_walk : (M : ℕ) × (s : ReaderState) × (0 ≤ M) × (walk M start (bare ps) ≡ came s) → Continued text ps
    by_walk (M, s, z, e) =
        let d = closed_at (bare ps) s (walk_at M (bare ps) s e) in
        record {
          bytes = 32 ∷ spell (closing s);
          tokens = positioned (suc (length text)) (closing s);
          reading = d.0;
          allowed = every_more (seen 32 (omega arith) (omega arith)) (spell_allowed (closing_proper s));
          lexed = lexes_append l space_stops (rw (zero-add (length text)) (blanks space (spell_lexes (closing_proper s) (suc (length text)))));
          reads = rw (bare_append ps (positioned (suc (length text)) (closing s)), bare_positioned (suc (length text)) (closing s)) d.1;
        }
