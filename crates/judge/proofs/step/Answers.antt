-- `judge::step` meets its contract: a return for each class of records. Assumes nothing.
use mathlib.Core.Path.{sym, ap, ◌∙◌}
use Rattle.std.specs.Prelude.{Some, None}
use Rattle.message.specs.Decode.{message_at}
use Rattle.program.specs.declared.Class.TheVariants.{Test as aTest, Item as an_item, Flip as aFlip, Pass as aPass}
use Rattle.judge.proofs.Execution.{on_next, after_class}
use Rattle.judge.proofs.step.Goals as goal

pub returns-in-Some-Test : goal.returns-in-Some-Test
returns-in-Some-Test c = let a = c.args in
    rw (c.stepped.ensures, c.holds.ensures, c.past.ensures, c.following.ensures)
    (after_class (message_at a.bytes.now a.parts) a.program.now a.state _ c.fields_at-f.ensures (Some aTest) (sym c.class_of.ensures ∙ c.in-Some-Test.is ∙ ap Some c.in-Some-Test.field-0-is))

pub returns-in-Some-Flip : goal.returns-in-Some-Flip
returns-in-Some-Flip c = let a = c.args in
    rw c.stepped-in-Some-Flip.ensures (on_next a.state _ _ ∙ after_class
    (message_at a.bytes.now a.parts) a.program.now a.state _ c.fields_at-f.ensures (Some aFlip) (sym c.class_of.ensures ∙ c.in-Some-Flip.is ∙ ap Some c.in-Some-Flip.field-0-is))

pub returns-in-Some-Pass : goal.returns-in-Some-Pass
returns-in-Some-Pass c = let a = c.args in
    rw (c.stepped-in-Some-Pass.ensures, c.past-in-Some-Pass.ensures, c.passed_over.ensures)
    (after_class (message_at a.bytes.now a.parts) a.program.now a.state _ c.fields_at-f.ensures (Some aPass) (sym c.class_of.ensures ∙ c.in-Some-Pass.is ∙ ap Some c.in-Some-Pass.field-0-is))

pub returns-in-Some-Item : goal.returns-in-Some-Item
returns-in-Some-Item c = let a = c.args in
    on_next a.state _ _ ∙ after_class (message_at a.bytes.now a.parts) a.program.now a.state _ c.fields_at-f.ensures (Some an_item) (sym c.class_of.ensures ∙ c.in-Some-Item.is ∙ ap Some c.in-Some-Item.field-0-is)

pub returns-in-None : goal.returns-in-None
returns-in-None c = let a = c.args in
    on_next a.state _ _ ∙ after_class (message_at a.bytes.now a.parts) a.program.now a.state _ c.fields_at-f.ensures None
    (sym c.class_of.ensures ∙ c.in-None.is)
