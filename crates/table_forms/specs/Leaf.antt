-- An expression with nothing below it, whose name is looked up below the types of i operands.
use Rattle.std.specs.Prelude.{◌≡◌, refl, true, false, List, ℕ, ◌+◌, ◌-◌, ◌<◌, eqb}
use Rattle.std.proofs.Common.{sym, ◌∙◌, arith, ne_eqb}
use Rattle.words.specs.Numbers.{half_at, word_at}
use Rattle.table_scopes.specs.Flaws.{Verdict}
use Rattle.table_scopes.specs.Environment.{Found, env_of, find}
use Rattle.table_types.specs.Settle.{values, is_leaf, leaf_by, leaf-kind, leaf-settled}
use Rattle.table_forms.specs.Forms.{Form, ExprForm, is-simple}
use Rattle.table_forms.specs.Walk.{Asks, Typed, Alike, fixed_by, operands_by}
use Rattle.table_forms.specs.Part.{below}
use Rattle.table_forms.specs.OperandList.{es-start, es-end}
use Rattle.table_forms.specs.ByKind.{typed-as}
use Rattle.table_forms.specs.Simple.{small-name, simple-judged}

leaf-count : (k b : ℕ) → is_leaf k ≡ true → 0 ≡ operands_by k b
unfolding operands_by
leaf-count k b e =
    let h = leaf-kind k e in
    let n : (m : ℕ) → m < 40 → eqb k m ≡ false = λ m z. ne_eqb k m (λ y. omega (arith, h.0)) in
    let o : (m : ℕ) → 44 < m → eqb k m ≡ false = λ m z. ne_eqb k m (λ y. omega (arith, h.1)) in
    rw (
      n 21 (omega arith),
      n 26 (omega arith),
      n 27 (omega arith),
      n 28 (omega arith),
      o 45 (omega arith),
      o 46 (omega arith),
      o 47 (omega arith),
      o 48 (omega arith),
      o 49 (omega arith),
      o 50 (omega arith),
      o 51 (omega arith),
    )

-- it is no assignment
leaf-free : (part : List ℕ) (f : Found) → is_leaf (half_at part 0) ≡ true → fixed_by part f ≡ false
unfolding fixed_by
leaf-free part f e = rw (ne_eqb (half_at part 0) 21 (λ y. omega (arith, (leaf-kind (half_at part 0) e).0)))

pub leaf-judged : {l part : List ℕ} {nesting at : ℕ} {sizes env : List ℕ} {top i : ℕ} {r : Verdict} → is_leaf (half_at part 0) ≡ true → Alike env top i
    → r ≡ leaf_by (half_at part 0) (half_at part 2) at (find (half_at part 2) (env_of env top))
    → half_at part 2 < 65536 → Typed ExprForm l part nesting at sizes env env (top + i) r
unfolding values
leaf-judged {l} {part} {nesting} {at} {sizes} {env} {top} {i} {r} e h z small =
    let k = leaf-kind (half_at part 0) e in
    let n = es-end (es-start l (below part 8) 0 (nesting - 1) (at + 1) sizes env (top + i)) (omega arith) in
    typed-as (λ f x y. is-simple f x (λ w. omega (arith, k.0, k.1)))
    (simple-judged 0 (leaf-count (half_at part 0) (word_at part 4) e) n (leaf-free part (find (half_at part 10) (env_of env (top + i))) e) 0 refl
    (z ∙ rw (h.finds (half_at part 2) small) (sym (leaf-settled l (half_at part 0) (half_at part 2) at (find (half_at part 2) (env_of env top)) e))))

pub leaf-small : {P : Form → Type 0} {l part : List ℕ} {nesting at : ℕ} {sizes env : List ℕ} {top : ℕ} → Asks P l part nesting at sizes env top → half_at part 2 < 65536
leaf-small q = small-name q.ready.table
