-- The condition of exits: by whichever way control leaves a block, every hold of the block has been released, last first; and after a condition
-- no hold is open at all. All that is said stands in `EveryExit`, with the definitions above it and in Holds; execution is language/specs/Execute.
use Rattle.std.specs.Prelude.{◌≡◌, List, [], ◌++◌, reverse, ℕ, ◌+◌}
use Rattle.std.proofs.Common.{sym, ◌∙◌, subst, append-nil, arith}
use Rattle.std.proofs.lemmas.List.{reverse-reverse}
use Rattle.values.specs.Trace.{Item}
use Rattle.language.specs.Tree.{Decl, Stmt, block, Items, Expr, block_expr, Body, Tree, locals}
use Rattle.language.specs.Execute.{Store, Result, done, jump, ended, later, wrong, Place, World, exec, eval, exec_body, eval_body, fueled}
use Rattle.language.specs.Execute.{Ran, finished, going, ill_formed, ran, execute, outermost, at_start}
use Rattle.language_laws.specs.Holds.{times_held, times_released, times_open, LastFirst, count, is_hold, is_release, accounts, count-reverse}
use Rattle.language_laws.specs.Induction.{statement, expression, root, body_s, body_e}
use Rattle.language_laws.specs.Leaving.{Passage, Leaves, Leaving, lawful, below}

-- the trace since a part's entry with the store σ, up to its exit with the store τ: the latest first
pub record Since (σ τ : Store) (P : List Item → Type 0) : Type 0 where
  pub since : List Item
  pub trace-is : since ++ σ.trace ≡ τ.trace
  pub so : P since

-- "Holds are taken in order when a block is entered, and released last first on every way out." So the open holds are again those of the place X.
pub record Balanced (X : Place) (since : List Item) : Type 0 where
  pub as_many : (g : ℕ) → times_released g since ≡ times_held g since
  pub last-first : LastFirst X.holds since X.holds

-- "A condition (20 to 27) stops execution, releases every open hold, last first, and ends." Those of the place X are released, too: of the blocks around, and of callers.
pub record AllReleased (X : Place) (since : List Item) : Type 0 where
  pub as_many : (g : ℕ) → times_released g since ≡ times_held g since + times_open g X.holds
  pub last-first : LastFirst X.holds since []

-- the ways out of a part that is entered with the store σ at the place X, whose holds are the open ones, and that comes to the result r
pub record Exits {A : Type 0} (X : Place) (σ : Store) (r : Result A) : Type 0 where
  pub at-its-end : (v : A) (τ : Store) → r ≡ done v τ → Since σ τ (Balanced X)
  pub by-a-goto : (a : ℕ) (τ : Store) → r ≡ jump a τ → Since σ τ (Balanced X)
  pub by-a-condition : (c : ℕ) (τ : Store) → r ≡ ended c τ → Since σ τ (AllReleased X)

-- a whole execution, ended by 0 or a condition: `is` is its trace in order
pub record Closed (is : List Item) : Type 0 where
  pub as_many : (g : ℕ) → times_released g is ≡ times_held g is
  pub last-first : LastFirst [] (reverse is) []

-- ── the statement: for every fuel n, and so for every part that is executed ──
pub record EveryExit : Type 0 where
  pub of-block : (W : World) (n : ℕ) (ds : List Decl) (is : Items) (X : Place) (σ : Store) → Exits X σ (exec W (fueled W n) (block ds is) X σ)
  pub of-block-expression : (W : World) (n : ℕ) (ds : List Decl) (is : Items) (e : Expr) (X : Place) (σ : Store) → Exits X σ (eval W (fueled W n) (block_expr ds is e) X σ)
  pub of-proper-procedure : (W : World) (n : ℕ) (b : Body) (X : Place) (σ : Store) → Exits X σ (exec_body W (fueled W n) b X σ)
  pub of-function-procedure : (W : World) (n : ℕ) (b : Body) (X : Place) (σ : Store) → Exits X σ (eval_body W (fueled W n) b X σ)
  pub of-execution : (oracle : ℕ → ℕ → ℕ) (t : Tree) (n c : ℕ) (is : List Item) → execute oracle t n ≡ finished is c → Closed is

-- ── its proof, from what holds of every part (Leaving) ──
balanced : {X : Place} {σ τ : Store} → Passage X.holds X.holds σ τ → Since σ τ (Balanced X)
balanced p = record { since = p.since; trace-is = p.trace-is; so = record { as_many = λ g. omega (arith, accounts g p.last-first); last-first = p.last-first } }

all-released : {X : Place} {σ τ : Store} → Passage X.holds [] σ τ → Since σ τ (AllReleased X)
unfolding count
all-released p = record { since = p.since; trace-is = p.trace-is; so = record { as_many = λ g. omega (arith, accounts g p.last-first); last-first = p.last-first } }

ways-out : {A : Type 0} {X : Place} {σ : Store} {r : Result A} → Leaves X σ r → Exits X σ r
ways-out {X = X} {σ = σ} h = record {
  at-its-end = λ v τ e. balanced (subst (Leaves X σ) e h).leave;
  by-a-goto = λ a τ e. balanced (subst (Leaves X σ) e h).leave;
  by-a-condition = λ c τ e. all-released (subst (Leaves X σ) e h).leave;
}

closed : (τ : Store) → Passage [] [] at_start τ → Closed (reverse τ.trace)
closed τ p =
    let h : LastFirst [] τ.trace [] = subst (λ l. LastFirst [] l []) (sym (append-nil p.since) ∙ p.trace-is) p.last-first in record {
      as_many = λ g. let a = accounts g h in let b = count-reverse (is_hold g) τ.trace in let c = count-reverse (is_release g) τ.trace in omega arith;
      last-first = subst (λ l. LastFirst [] l []) (sym (reverse-reverse τ.trace)) h;
    }

abbrev EndsClosed : Ran → Type 0
EndsClosed (finished is c) = Closed is
EndsClosed (going is) = Unit {0}
EndsClosed ill_formed = Unit {0}

ends-closed : (r : Result (Unit {0})) → Leaves outermost at_start r → EndsClosed (ran r)
unfolding ran
ends-closed (done u τ) h = closed τ h.leave
ends-closed (jump a τ) h = tt
ends-closed (ended c τ) h = closed τ h.leave
ends-closed (later τ) h = tt
ends-closed wrong h = tt

module _ (W : World) (n : ℕ) where
  -- it holds of every statement and of every expression, also a call
  pub of-statement : (s : Stmt) (X : Place) (σ : Store) → Exits X σ (exec W (fueled W n) s X σ)
  of-statement s X σ = ways-out (statement Leaving lawful W (fueled W n) (fueled W n) (below W n) s X σ)

  pub of-expression : (e : Expr) (X : Place) (σ : Store) → Exits X σ (eval W (fueled W n) e X σ)
  of-expression e X σ = ways-out (expression Leaving lawful W (fueled W n) (fueled W n) (below W n) e X σ)

pub exits : EveryExit
unfolding execute
exits = record {
  of-block = λ W n ds is X σ. of-statement W n (block ds is) X σ;
  of-block-expression = λ W n ds is e X σ. of-expression W n (block_expr ds is e) X σ;
  of-proper-procedure = λ W n b X σ. ways-out (body_s Leaving lawful W (fueled W n) (fueled W n) (below W n) b X σ);
  of-function-procedure = λ W n b X σ. ways-out (body_e Leaving lawful W (fueled W n) (fueled W n) (below W n) b X σ);
  of-execution = λ oracle t n c is e. let W : World = record { oracle = oracle; globals = t.head } in
      subst EndsClosed e (ends-closed _ (root Leaving lawful W (fueled W n) (fueled W n) (below W n) (locals t.head) t.items outermost at_start));
}
