-- Paper 01's examples on the rules of language's Formed: the listing's tree is derived by them, and trees that 3 to 6 refuse are not.
use Rattle.std.specs.Prelude.{◌≡◌, refl, true, List, [], ◌∷◌, ℕ, zero, suc, pos}
use Rattle.std.proofs.Common.{arith}
use Rattle.values.specs.Types.{Ty, integer}
use Rattle.values.specs.Operators.{plus}
use Rattle.language.specs.Tree.{typed, declare, holding, Stmt, block, set_level, goto, Items, item, label, no_item, number, truth, operate2, proper, Global, local, procedure, Tree}
use Rattle.language.specs.Names.{Definition, nowhere, first_of}
use Rattle.language.specs.Formed.{Blocks, Reachable, Defines, d-none, d-more, HasType, t-number, t-truth, t-operate2, Formed, s-block, s-goto, s-set, ItemsFormed, i-none}
use Rattle.language.specs.Formed.{i-label, i-item, BodyFormed, b-proper, WellFormed, KeepsLimits}
use Rattle.examples.specs.Cases.{cases_compute}
use Rattle.logic.specs.Tests.{clash}

-- the listing
abbrev pub listing_tree : Tree
listing_tree = record {
  head = [];
  items = item (block (holding 7 ∷ []) (item (set_level (number (pos 3)) (number (pos 200))) (item (goto 5) no_item)))
      (item (set_level (number (pos 4)) (number (pos 9))) (label 5 no_item));
}

pub listing-formed : WellFormed listing_tree
unfolding cases_compute
listing-formed = record {
  names = d-more refl tt d-none;
  procedures = λ i a xs b e. clash (cc);
  items = i-item (s-block d-none (i-item (s-set t-number t-number) (i-item (s-goto refl) i-none))) (i-item (s-set t-number t-number) (i-label i-none));
}

pub listing-within : KeepsLimits listing_tree
unfolding cases_compute
listing-within = record {
  procedures = λ i a xs b e. clash (cc);
  root = record { cells = omega arith; holds = omega arith; need = omega arith };
}

-- what the rules ask of a goto, of a block's first statement, of its first definition
reached : {ss : Blocks} {a : ℕ} → Formed ss (goto a) → Reachable ss a
reached (s-goto r) = r

first-item : {ss : Blocks} {s : Stmt} {is : Items} → ItemsFormed ss (item s is) → Formed ss s
first-item (i-item h k) = h

first-once : {ss : Blocks} {d : Definition} {ds : List Definition} → Defines ss (d ∷ ds) → first_of d.name ds ≡ nowhere
first-once (d-more f k r) = f

-- 3: "goto 5, no label 5"; a variable and a label of one name in one block
three-undefined : WellFormed (record { head = []; items = item (goto 5) no_item }) → ⊥
unfolding cases_compute
three-undefined w = clash (cc (reached (first-item w.items)))

three-twice : WellFormed (record { head = local (declare (typed 5 integer)) ∷ []; items = label 5 no_item }) → ⊥
unfolding cases_compute
three-twice w = clash (cc (first-once w.names))

-- 4: "true + 1" has no type, wherever it stands
four : (ss : Blocks) (t : Ty) → HasType ss (operate2 plus (truth true) (number (pos 1))) t → ⊥
unfolding cases_compute
four ss t (t-operate2 t-truth t-number o) = clash (cc o)

-- 5: "goto out of a procedure"
body-statement : {ss : Blocks} {s : Stmt} → BodyFormed ss (proper s) → Formed ss s
body-statement (b-proper h) = h

five : WellFormed (record { head = procedure 9 [] (proper (goto 5)) ∷ []; items = label 5 no_item }) → ⊥
unfolding cases_compute
five w = clash (cc (reached (body-statement (w.procedures 0 9 [] (proper (goto 5)) refl).body)))

-- 6: "33 variables"
unfoldable variables : ℕ → List Global
variables zero = []
variables (suc n) = local (declare (typed n integer)) ∷ variables n

six : KeepsLimits (record { head = variables 33; items = no_item }) → ⊥
unfolding cases_compute variables
six k = let n = k.root.cells in omega arith
