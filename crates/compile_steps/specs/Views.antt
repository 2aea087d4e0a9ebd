-- Which node it is, by the kind of its entry.
use Rattle.std.specs.Prelude.{◌≡◌, refl, Bool, true, false, List, ℕ, ◌<◌, ◌≤◌, eqb}
use Rattle.std.proofs.Common.{arith}
use Rattle.values.specs.Operators.{Binary}
use Rattle.language.specs.Tree.{Decl, Stmt, block, assign, when, choose, while, goto, assert, call, set_level, select, for, Items, Arms, Target, Expr, number, truth, pattern, null, variable, invoke}
use Rattle.language.specs.Tree.{field, make, operate1, operate2, conditional, fader, block_expr}
use Rattle.compile_nodes.specs.Ready.{Node, stmt, expr, name, kind_n}

abbrev pub IsExpr : Node → Type 0
IsExpr (stmt s) = ⊥
IsExpr (expr e) = Unit {0}
IsExpr (name a) = ⊥

-- a statement, or a label among them
abbrev pub IsStmt : Node → Type 0
IsStmt (stmt s) = Unit {0}
IsStmt (expr e) = ⊥
IsStmt (name a) = Unit {0}

abbrev pub IsKind : ℕ → Node → Type 0
IsKind k n = kind_n n ≡ k

-- an expression with nothing below it
abbrev pub IsLeaf : Node → Type 0
IsLeaf (stmt s) = ⊥
IsLeaf (expr (number z)) = Unit {0}
IsLeaf (expr (truth b)) = Unit {0}
IsLeaf (expr (pattern z)) = Unit {0}
IsLeaf (expr (null c)) = Unit {0}
IsLeaf (expr (variable a)) = Unit {0}
IsLeaf (expr (invoke a es)) = ⊥
IsLeaf (expr (field a e)) = ⊥
IsLeaf (expr (make c es)) = ⊥
IsLeaf (expr (operate1 o e)) = ⊥
IsLeaf (expr (operate2 o e f)) = ⊥
IsLeaf (expr (conditional e f g)) = ⊥
IsLeaf (expr (fader e)) = ⊥
IsLeaf (expr (block_expr ds is e)) = ⊥
IsLeaf (name a) = ⊥

-- expressions only below it, and one instruction after them
abbrev pub IsSimple : Node → Type 0
IsSimple (stmt (block ds is)) = ⊥
IsSimple (stmt (assign x e)) = ⊥
IsSimple (stmt (when e s)) = ⊥
IsSimple (stmt (choose e s t)) = ⊥
IsSimple (stmt (while e s)) = ⊥
IsSimple (stmt (goto a)) = ⊥
IsSimple (stmt (assert e)) = Unit {0}
IsSimple (stmt (call a es)) = Unit {0}
IsSimple (stmt (set_level e f)) = Unit {0}
IsSimple (stmt (select e r)) = ⊥
IsSimple (stmt (for a e f g s)) = ⊥
IsSimple (expr (number z)) = ⊥
IsSimple (expr (truth b)) = ⊥
IsSimple (expr (pattern z)) = ⊥
IsSimple (expr (null c)) = ⊥
IsSimple (expr (variable a)) = ⊥
IsSimple (expr (invoke a es)) = Unit {0}
IsSimple (expr (field a e)) = Unit {0}
IsSimple (expr (make c es)) = Unit {0}
IsSimple (expr (operate1 o e)) = Unit {0}
IsSimple (expr (operate2 o e f)) = ⊥
IsSimple (expr (conditional e f g)) = ⊥
IsSimple (expr (fader e)) = Unit {0}
IsSimple (expr (block_expr ds is e)) = ⊥
IsSimple (name a) = ⊥

pub leaf-of : (n : Node) → IsExpr n → ¬ (kind_n n ≡ 49) → ¬ (kind_n n ≡ 50) → ¬ (kind_n n ≡ 53) → kind_n n < 45 → IsLeaf n
leaf-of (stmt s) h i j k m = absurd h
leaf-of (expr (number z)) h i j k m = tt
leaf-of (expr (truth b)) h i j k m = tt
leaf-of (expr (pattern z)) h i j k m = tt
leaf-of (expr (null c)) h i j k m = tt
leaf-of (expr (variable a)) h i j k m = tt
leaf-of (expr (invoke a es)) h i j k m = absurd (omega arith)
leaf-of (expr (field a e)) h i j k m = absurd (omega arith)
leaf-of (expr (make c es)) h i j k m = absurd (omega arith)
leaf-of (expr (operate1 o e)) h i j k m = absurd (omega arith)
leaf-of (expr (operate2 o e f)) h i j k m = absurd (omega arith)
leaf-of (expr (conditional e f g)) h i j k m = absurd (omega arith)
leaf-of (expr (fader e)) h i j k m = absurd (omega arith)
leaf-of (expr (block_expr ds is e)) h i j k m = absurd (omega arith)
leaf-of (name a) h i j k m = absurd h

pub simple-expr : (n : Node) → IsExpr n → ¬ (kind_n n ≡ 49) → ¬ (kind_n n ≡ 50) → ¬ (kind_n n ≡ 53) → 45 ≤ kind_n n → IsSimple n
simple-expr (stmt s) h i j k m = absurd h
simple-expr (expr (number z)) h i j k m = absurd (omega arith)
simple-expr (expr (truth b)) h i j k m = absurd (omega arith)
simple-expr (expr (pattern z)) h i j k m = absurd (omega arith)
simple-expr (expr (null c)) h i j k m = absurd (omega arith)
simple-expr (expr (variable a)) h i j k m = absurd (omega arith)
simple-expr (expr (invoke a es)) h i j k m = tt
simple-expr (expr (field a e)) h i j k m = tt
simple-expr (expr (make c es)) h i j k m = tt
simple-expr (expr (operate1 o e)) h i j k m = tt
simple-expr (expr (operate2 o e f)) h i j k m = absurd (i refl)
simple-expr (expr (conditional e f g)) h i j k m = absurd (j refl)
simple-expr (expr (fader e)) h i j k m = tt
simple-expr (expr (block_expr ds is e)) h i j k m = absurd (k refl)
simple-expr (name a) h i j k m = absurd h

pub simple-stmt : (n : Node) → IsStmt n → ¬ (kind_n n ≡ 1) → ¬ (kind_n n ≡ 20) → ¬ (kind_n n ≡ 21) → ¬ (kind_n n ≡ 22) → ¬ (kind_n n ≡ 23)
    → ¬ (kind_n n ≡ 24) → ¬ (kind_n n ≡ 25) → ¬ (kind_n n ≡ 30) → ¬ (kind_n n ≡ 31) → IsSimple n
simple-stmt (stmt (block ds is)) h h1 h20 h21 h22 h23 h24 h25 h30 h31 = absurd (h1 refl)
simple-stmt (stmt (assign x e)) h h1 h20 h21 h22 h23 h24 h25 h30 h31 = absurd (h21 refl)
simple-stmt (stmt (when e s)) h h1 h20 h21 h22 h23 h24 h25 h30 h31 = absurd (h22 refl)
simple-stmt (stmt (choose e s t)) h h1 h20 h21 h22 h23 h24 h25 h30 h31 = absurd (h23 refl)
simple-stmt (stmt (while e s)) h h1 h20 h21 h22 h23 h24 h25 h30 h31 = absurd (h24 refl)
simple-stmt (stmt (goto a)) h h1 h20 h21 h22 h23 h24 h25 h30 h31 = absurd (h25 refl)
simple-stmt (stmt (assert e)) h h1 h20 h21 h22 h23 h24 h25 h30 h31 = tt
simple-stmt (stmt (call a es)) h h1 h20 h21 h22 h23 h24 h25 h30 h31 = tt
simple-stmt (stmt (set_level e f)) h h1 h20 h21 h22 h23 h24 h25 h30 h31 = tt
simple-stmt (stmt (select e r)) h h1 h20 h21 h22 h23 h24 h25 h30 h31 = absurd (h30 refl)
simple-stmt (stmt (for a e f g s)) h h1 h20 h21 h22 h23 h24 h25 h30 h31 = absurd (h31 refl)
simple-stmt (expr e) h h1 h20 h21 h22 h23 h24 h25 h30 h31 = absurd h
simple-stmt (name a) h h1 h20 h21 h22 h23 h24 h25 h30 h31 = absurd (h20 refl)

pub record When (n : Node) : Type 0 where
  pub e : Expr
  pub s : Stmt
  pub same : n ≡ stmt (when e s)

pub record Choose (n : Node) : Type 0 where
  pub e : Expr
  pub s : Stmt
  pub t : Stmt
  pub same : n ≡ stmt (choose e s t)

pub record While (n : Node) : Type 0 where
  pub e : Expr
  pub s : Stmt
  pub same : n ≡ stmt (while e s)

pub record Goto (n : Node) : Type 0 where
  pub a : ℕ
  pub same : n ≡ stmt (goto a)

pub record Select (n : Node) : Type 0 where
  pub e : Expr
  pub r : Arms
  pub same : n ≡ stmt (select e r)

pub record For (n : Node) : Type 0 where
  pub a : ℕ
  pub e : Expr
  pub f : Expr
  pub g : Expr
  pub s : Stmt
  pub same : n ≡ stmt (for a e f g s)

pub record Assign (n : Node) : Type 0 where
  pub x : Target
  pub e : Expr
  pub same : n ≡ stmt (assign x e)

pub record Pair (n : Node) : Type 0 where
  pub o : Binary
  pub e : Expr
  pub f : Expr
  pub same : n ≡ expr (operate2 o e f)

pub record Conditional (n : Node) : Type 0 where
  pub e : Expr
  pub f : Expr
  pub g : Expr
  pub same : n ≡ expr (conditional e f g)

pub record Label (n : Node) : Type 0 where
  pub a : ℕ
  pub same : n ≡ name a

pub record Block (n : Node) : Type 0 where
  pub ds : List Decl
  pub is : Items
  pub same : n ≡ stmt (block ds is)

pub record Body (n : Node) : Type 0 where
  pub ds : List Decl
  pub is : Items
  pub e : Expr
  pub same : n ≡ expr (block_expr ds is e)

-- the record of a node whose entry is of a kind
abbrev Pick : Bool → Type 0 → Type 0 → Type 0
Pick true A B = A
Pick false A B = B

abbrev Viewed : ℕ → Node → Type 0
Viewed k n =
    Pick (eqb k 1) (Block n) (
    Pick (eqb k 20) (Label n) (
    Pick (eqb k 21) (Assign n) (
    Pick (eqb k 22) (When n) (
    Pick (eqb k 23) (Choose n) (
    Pick (eqb k 24) (While n) (
    Pick (eqb k 25) (Goto n) (
    Pick (eqb k 30) (Select n) (
    Pick (eqb k 31) (For n) (
    Pick (eqb k 49) (Pair n) (
    Pick (eqb k 50) (Conditional n) (
    Pick (eqb k 53) (Body n) (Unit {0}))))))))))))

viewed : (n : Node) → Viewed (kind_n n) n
viewed (stmt (block ds is)) = record { ds = ds; is = is; same = refl }
viewed (stmt (assign x e)) = record { x = x; e = e; same = refl }
viewed (stmt (when e s)) = record { e = e; s = s; same = refl }
viewed (stmt (choose e s t)) = record { e = e; s = s; t = t; same = refl }
viewed (stmt (while e s)) = record { e = e; s = s; same = refl }
viewed (stmt (goto a)) = record { a = a; same = refl }
viewed (stmt (assert e)) = tt
viewed (stmt (call a es)) = tt
viewed (stmt (set_level e f)) = tt
viewed (stmt (select e r)) = record { e = e; r = r; same = refl }
viewed (stmt (for a e f g s)) = record { a = a; e = e; f = f; g = g; s = s; same = refl }
viewed (expr (number z)) = tt
viewed (expr (truth b)) = tt
viewed (expr (pattern z)) = tt
viewed (expr (null c)) = tt
viewed (expr (variable a)) = tt
viewed (expr (invoke a es)) = tt
viewed (expr (field a e)) = tt
viewed (expr (make c es)) = tt
viewed (expr (operate1 o e)) = tt
viewed (expr (operate2 o e f)) = record { o = o; e = e; f = f; same = refl }
viewed (expr (conditional e f g)) = record { e = e; f = f; g = g; same = refl }
viewed (expr (fader e)) = tt
viewed (expr (block_expr ds is e)) = record { ds = ds; is = is; e = e; same = refl }
viewed (name a) = record { a = a; same = refl }

pub when-of : (n : Node) → IsKind 22 n → When n
when-of n h = rw h at (viewed n)

pub choose-of : (n : Node) → IsKind 23 n → Choose n
choose-of n h = rw h at (viewed n)

pub while-of : (n : Node) → IsKind 24 n → While n
while-of n h = rw h at (viewed n)

pub goto-of : (n : Node) → IsKind 25 n → Goto n
goto-of n h = rw h at (viewed n)

pub select-of : (n : Node) → IsKind 30 n → Select n
select-of n h = rw h at (viewed n)

pub for-of : (n : Node) → IsKind 31 n → For n
for-of n h = rw h at (viewed n)

pub assign-of : (n : Node) → IsKind 21 n → Assign n
assign-of n h = rw h at (viewed n)

pub pair_of : (n : Node) → IsKind 49 n → Pair n
pair_of n h = rw h at (viewed n)

pub conditional-of : (n : Node) → IsKind 50 n → Conditional n
conditional-of n h = rw h at (viewed n)

pub label_of : (n : Node) → IsKind 20 n → Label n
label_of n h = rw h at (viewed n)

pub block-of : (n : Node) → IsKind 1 n → Block n
block-of n h = rw h at (viewed n)

pub body_of : (n : Node) → IsKind 53 n → Body n
body_of n h = rw h at (viewed n)
