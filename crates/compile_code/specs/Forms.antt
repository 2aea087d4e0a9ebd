-- Where the compiled code of three constructs could be plausibly wrong (paper 01, Plausible ways to get it wrong), by evaluation: a wrong definition is refused here at once.
use Rattle.std.specs.Prelude.{◌≡◌, refl, true, false, List, [], ◌∷◌, pos}
use Rattle.std.proofs.Math.Option.{none}
use Rattle.values.specs.Types.{integer}
use Rattle.values.specs.Operators.{both}
use Rattle.values.specs.Values.{int, log}
use Rattle.language.specs.Tree.{typed, declare, holding, block, assign, goto, assert, no_item, label, item, to_variable, truth, number, operate2}
use Rattle.language.specs.Tree.{Items}
use Rattle.language.specs.Computes.{language_computes}
use Rattle.bytecode.specs.Instructions.{Instr, own, push, store, go, go_unless, take_hold, let_hold}
use Rattle.bytecode.specs.Instructions.{assert as assert_op}
use Rattle.compile_code.specs.Code.{at, Line, lay}
use Rattle.compile_code.specs.Compile.{labels, code_items}
use Rattle.compile_code.specs.Computes.{compiling_computes}

unfoldable ops_of : List Line → List Instr
ops_of [] = []
ops_of (l ∷ ls) = l.instr ∷ ops_of ls

-- the instructions of statements that stand alone
abbrev instructions : Items → List Instr
instructions is = ops_of (lay (code_items [] is (labels is 0 ∷ []) [] (at 0 0)) none (λ o. []))

-- "A goto that releases the innermost block's holds only.": out of two blocks with a hold each, both are let go before the jump
goto-out-of-two : instructions (item (block (holding 1 ∷ []) (item (block (holding 2 ∷ []) (item (goto 5) no_item)) no_item)) (label 5 (item (block [] no_item) no_item)))
    ≡ take_hold 1 ∷ take_hold 2 ∷ let_hold ∷ let_hold ∷ go 7 ∷ let_hold ∷ let_hold ∷ []
unfolding compiling_computes language_computes ops_of
goto-out-of-two = refl

-- "Resetting a block's variables on a backward goto inside it.": the jump goes back to the statements, behind the variable's initial value
backward-goto : instructions (item (block (declare (typed 1 integer) ∷ []) (label 5 (item (assign (to_variable 1) (number (pos 7))) (item (goto 5) no_item)))) no_item)
    ≡ push (int (pos 0)) ∷ store own 0 ∷ push (int (pos 7)) ∷ store own 0 ∷ go 2 ∷ []
unfolding compiling_computes language_computes ops_of
backward-goto = refl

-- "Logical `X and Y` is Y only where X is true": Y's code is passed by where X is false
short_cut : instructions (item (assert (operate2 both (truth false) (truth true))) no_item)
    ≡ push (log false) ∷ go_unless 4 ∷ push (log true) ∷ go 5 ∷ push (log false) ∷ assert_op ∷ []
unfolding compiling_computes language_computes ops_of
short_cut = refl
