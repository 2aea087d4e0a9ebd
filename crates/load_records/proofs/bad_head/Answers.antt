-- `load_records::bad_head` meets its contract, a law for each exit.
use native.Mathlib.Omega.{arith}
use mathlib.Core.Path.{sym, ◌∙◌}
use Rattle.load_records.proofs.Tests as law
use Rattle.load_records.proofs.bad_head.Goals as goal

pub returns-then-no_mark : goal.returns-then-no_mark
returns-then-no_mark c = sym (law.head-1 _ (sym c.no_mark.ensures ∙ c.if-no_mark.true))

pub bounds-code-2 : goal.bounds-code-2
bounds-code-2 c = let h = law.room _ _ _ _ _ (sym c.no_mark.ensures ∙ c.if-no_mark.false) in omega arith

pub returns-then-code-gt-CLASSES : goal.returns-then-code-gt-CLASSES
returns-then-code-gt-CLASSES c = sym (law.head-2 _ (sym c.no_mark.ensures ∙ c.if-no_mark.false) (omega arith))

pub bounds-code-3 : goal.bounds-code-3
bounds-code-3 c =
    let if1 = c.if-no_mark in
    let no-mark = c.no_mark in
    let h = law.room _ _ _ _ _ (sym no-mark.ensures ∙ if1.false) in
    omega arith

pub returns-then-code-lt1 : goal.returns-then-code-lt1
returns-then-code-lt1 c =
    let if1 = c.if-no_mark in
    let no-mark = c.no_mark in
    sym (law.head-3 _ (sym no-mark.ensures ∙ if1.false) (omega arith) (omega arith))

pub returns : goal.returns
returns c =
    let if1 = c.if-no_mark in
    let no-mark = c.no_mark in
    sym (law.head-4 _ (sym no-mark.ensures ∙ if1.false) (omega arith) (omega arith))
