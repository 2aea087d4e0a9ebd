-- The trace of a list of runs, in order, beside that of the machine with an oracle, which has the latest item first.
use Rattle.std.specs.Prelude.{◌≡◌, refl}
use Rattle.std.proofs.Common.{ap, sym, ◌∙◌}
use mathlib.Core.List.{List, [], ◌∷◌, ◌++◌, reverse, reverse_aux, append_assoc}
use Rattle.values.specs.Trace.{Item}
use Rattle.bytecode.specs.Runs.{Ran}

abbrev pub trace_of : List Ran → List Item
trace_of [] = []
trace_of (r ∷ rs) = r.trace ++ trace_of rs

pub trace-split : (rs qs : List Ran) → trace_of (rs ++ qs) ≡ trace_of rs ++ trace_of qs
trace-split [] qs = refl
trace-split (r ∷ rs) qs = ap (λ (is : List Item). r.trace ++ is) (trace-split rs qs) ∙ sym (append_assoc r.trace (trace_of rs) (trace_of qs))

-- ── lists turned round ──
pub turned-append : (xs ys zs : List Item) → reverse_aux (xs ++ ys) zs ≡ reverse_aux ys (reverse_aux xs zs)
turned-append [] ys zs = refl
turned-append (x ∷ xs) ys zs = turned-append xs ys (x ∷ zs)

turned-onto : (xs zs : List Item) → reverse_aux xs zs ≡ reverse xs ++ zs
turned-onto [] zs = refl
turned-onto (x ∷ xs) zs =
    turned-onto xs (x ∷ zs) ∙ sym (append_assoc (reverse xs) (x ∷ []) zs) ∙ ap (λ (l : List Item). l ++ zs) (sym (turned-onto xs (x ∷ [])))

pub reverse-append : (xs ys : List Item) → reverse (xs ++ ys) ≡ reverse ys ++ reverse xs
reverse-append xs ys = turned-append xs ys [] ∙ turned-onto ys (reverse xs)

turned-back : (xs ys : List Item) → reverse (reverse_aux xs ys) ≡ reverse_aux ys xs
turned-back [] ys = refl
turned-back (x ∷ xs) ys = turned-back xs (x ∷ ys)

pub reverse_twice : (xs : List Item) → reverse (reverse xs) ≡ xs
reverse_twice xs = turned-back xs []
