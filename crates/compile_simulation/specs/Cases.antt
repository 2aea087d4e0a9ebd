-- A case: the index in its cell, compared with each number in turn.
use Rattle.std.specs.Prelude.{Bool, true, false, ◌&&◌, ◌≡◌, refl, ℕ, zero, suc, ◌+◌, ◌≤◌, ◌<◌, T, leb, ℤ, pos, negsuc}
use Rattle.std.proofs.Common.{ap, ap₂, sym, ◌∙◌, subst, arith, leb→le, le→leb}
use mathlib.Core.List.{List, [], ◌∷◌}
use Rattle.std.proofs.Math.Option.{some}
use Rattle.values.specs.Operators.{binary, equal}
use Rattle.values.specs.Values.{Value, int, log, assigned, size, same_integer, apply2}
use Rattle.language.specs.Execute.{Store, Result}
use Rattle.language.specs.Tree.{Global}
use Rattle.bytecode.specs.Instructions.{own, push, load, operate, go_unless}
use Rattle.bytecode.specs.Machine.{Activation, fetch, act, do_operate}
use Rattle.compile_simulation.specs.Meets.{Conf, Setting, Meets}
use Rattle.compile_simulation.specs.View.{Data, cell_at, found_at}
use Rattle.compile_simulation.specs.Ops.{conf, op-at, pushes, loads, forks, goes-on}
use Rattle.logic.specs.Tests.{and-false}

-- the tree counts the index down; here it is n where the i-th alternative is next
abbrev pub Index : ℤ → ℕ → ℕ → Type 0
Index z i zero = (j : ℕ) → i ≤ j → same_integer z (pos j) ≡ false
Index z i (suc k) = z ≡ pos (k + i)

not-leb : (x y : ℕ) → y < x → leb x y ≡ false
not-leb x y h = go (leb x y) refl
  where
    go : (b : Bool) → leb x y ≡ b → b ≡ false
    go false e = refl
    go true e = let q = leb→le x y (subst T (sym e) tt) in absurd (omega arith)

yes_leb : (x y : ℕ) → x ≤ y → leb x y ≡ true
yes_leb x y h = go (leb x y) (le→leb x y h)
  where
    go : (b : Bool) → T b → b ≡ true
    go true t = refl
    go false t = absurd t

pub starts : (z : ℤ) → Index z 1 (size z)
starts (pos zero) = λ j h. ap (λ b. leb 0 j && b) (not-leb j 0 (omega arith)) ∙ and-false (leb 0 j)
starts (pos (suc k)) = ap pos (omega arith)
starts (negsuc m) = λ j h. refl

pub hits : (z : ℤ) (i : ℕ) → Index z i 1 → same_integer z (pos i) ≡ true
hits z i h = subst (λ x. same_integer x (pos i) ≡ true) (sym h) (ap₂ (λ a b. a && b) (yes_leb (0 + i) i (omega arith)) (yes_leb i (0 + i) (omega arith)))

pub misses : (z : ℤ) (i k : ℕ) → Index z i (suc (suc k)) → same_integer z (pos i) ≡ false
misses z i k h = subst (λ x. same_integer x (pos i) ≡ false) (sym h) (ap (λ a. a && leb i (suc k + i)) (not-leb (suc k + i) i (omega arith)))

pub nexts : (z : ℤ) (i k : ℕ) → Index z i (suc (suc k)) → Index z (suc i) (suc k)
nexts z i k h = h ∙ ap pos (omega arith)

module _ (W : Setting) (gs : List Global) (k : ℕ) (fs : List Activation) {A : Type 0} {n : ℕ} {L : ℕ → Store → Conf → Type 0} {F : A → Store → Conf → Type 0} {r : Result A} where
  -- load, push, compare, jump
  pub tests : (z : ℤ) (i c t a : ℕ) (st : List Value) (K : List ℕ) (D : Data) (b : Bool) → same_integer z (pos i) ≡ b → cell_at D.cells c ≡ assigned (int z)
      → fetch W.macro k a ≡ some (load own c) → fetch W.macro k (suc a) ≡ some (push (int (pos i)))
      → fetch W.macro k (suc (suc a)) ≡ some (operate (binary equal)) → fetch W.macro k (suc (suc (suc a))) ≡ some (go_unless t)
      → (b ≡ true → Meets W n L F (conf W gs k fs (suc (suc (suc (suc a)))) st K D) r) → (b ≡ false → Meets W n L F (conf W gs k fs t st K D) r) → Meets W n L F (conf W gs k fs a st K D) r
  unfolding act do_operate apply2
  tests z i c t a st K D b e g p₁ p₂ p₃ p₄ f h = loads W gs k fs own c a st K D tt p₁ (λ v q.
      let u : v ≡ int z = cc (sym (found_at D.cells c (assigned v) q) ∙ g) in
      rw u (pushes W gs k fs (int (pos i)) (suc a) (int z ∷ st) K D p₂
      (op-at W gs k fs (operate (binary equal)) (suc (suc a)) (int (pos i) ∷ (int z ∷ st)) K D p₃
      (goes-on W gs k fs [] (log (same_integer z (pos i)) ∷ st) (suc (suc a)) (int (pos i) ∷ (int z ∷ st)) K D
      (forks W gs k fs t (log (same_integer z (pos i))) (suc (suc (suc a))) st K D p₄ (λ y. f (cc (y, e))) (λ y. h (cc (y, e))))))))
