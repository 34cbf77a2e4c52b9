-- `filter::role_of` meets its contract: the words in the order of the table. Assumes nothing.
use mathlib.Core.Path.{sym, ap, ◌∙◌}
use Rattle.token.proofs.Nexts.{sort_token}
use Rattle.filter.specs.Words.{vocabulary, role_of}
use Rattle.filter.specs.Parsing.{role_said, role_in}
use Rattle.filter.proofs.Roles.{no_word, found_meant}
use Rattle.filter.proofs.role_of.Goals as goal

pub returns-in_default : goal.returns-in_default
returns-in_default c = sym (no_word c.args.text.now c.args.t c.in_default.not-Word)

pub returns-in-Word : goal.returns-in-Word
unfolding vocabulary role_of
returns-in-Word c =
    ap role_said c.value_in.ensures ∙ found_meant _ _ ∙ ap role_of c.bytes.ensures ∙ sym (ap role_in (sort_token c.args.text.now c.args.t c.in-Word.is))
