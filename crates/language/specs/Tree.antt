-- The tree of a macro: what the entries of a table stand for. (paper 01, The syntax table)
use Rattle.std.specs.Prelude.{Bool, List, [], ◌∷◌, ℕ, suc, ℤ}
use Rattle.values.specs.Types.{Ty}
use Rattle.values.specs.Operators.{Unary, Binary}

-- a kind 10: a variable, field or parameter with its type
pub record Typed : Type 0 where
  pub name : ℕ
  pub type : Ty

abbrev pub typed : ℕ → Ty → Typed
typed a t = record { name = a; type = t }

-- what may stand in every head
pub data Decl : Type 0 where
  declare : Typed → Decl  -- 10
  holding : ℕ → Decl  -- 14

mutual
  pub data Stmt : Type 0 where
    block : List Decl → Items → Stmt  -- 1
    assign : Target → Expr → Stmt  -- 21
    when : Expr → Stmt → Stmt  -- 22
    choose : Expr → Stmt → Stmt → Stmt  -- 23
    while : Expr → Stmt → Stmt  -- 24
    goto : ℕ → Stmt  -- 25
    assert : Expr → Stmt  -- 26
    call : ℕ → Exprs → Stmt  -- 27
    set_level : Expr → Expr → Stmt  -- 28
    select : Expr → Arms → Stmt  -- 30
    for : ℕ → Expr → Expr → Expr → Stmt → Stmt  -- 31: the control name; start, step and limit; the statement

  -- the statements of a block: "20 label a, standing only directly among the statements of a block or block expression"
  pub data Items : Type 0 where
    no_item : Items
    label : ℕ → Items → Items  -- 20
    item : Stmt → Items → Items

  -- the statements of a case, "a at least 1"
  pub data Arms : Type 0 where
    last_arm : Stmt → Arms
    arm : Stmt → Arms → Arms

  -- "21 assign (variable or field E, value E)"
  pub data Target : Type 0 where
    to_variable : ℕ → Target  -- 44
    to_field : ℕ → Expr → Target  -- 46

  pub data Expr : Type 0 where
    number : ℤ → Expr  -- 40
    truth : Bool → Expr  -- 41
    pattern : ℤ → Expr  -- 42
    null : ℕ → Expr  -- 43
    variable : ℕ → Expr  -- 44
    invoke : ℕ → Exprs → Expr  -- 45
    field : ℕ → Expr → Expr  -- 46
    make : ℕ → Exprs → Expr  -- 47
    operate1 : Unary → Expr → Expr  -- 48
    operate2 : Binary → Expr → Expr → Expr  -- 49
    conditional : Expr → Expr → Expr → Expr  -- 50
    fader : Expr → Expr  -- 51
    block_expr : List Decl → Items → Expr → Expr  -- 53

  pub data Exprs : Type 0 where
    no_expr : Exprs
    expr : Expr → Exprs → Exprs

-- "its body: S when result is 0, E when result is 1, 2 or 3"
pub data Body : Type 0 where
  proper : Stmt → Body
  function : Ty → Expr → Body

-- "Kinds 11 and 12 stand only in the root's head"
pub data Global : Type 0 where
  local : Decl → Global
  class : ℕ → List Typed → Global  -- 11
  procedure : ℕ → List Typed → Body → Global  -- 12

-- the root, a block
pub record Tree : Type 0 where
  pub head : List Global
  pub items : Items

-- the root's own declarations; classes and procedures have no cell and no hold
unfoldable pub locals : List Global → List Decl
locals [] = []
locals (local d ∷ gs) = d ∷ locals gs
locals (class c xs ∷ gs) = locals gs
locals (procedure a xs b ∷ gs) = locals gs

-- how many there are
unfoldable pub count_items : Items → ℕ
count_items no_item = 0
count_items (label a is) = suc (count_items is)
count_items (item s is) = suc (count_items is)

unfoldable pub count_arms : Arms → ℕ
count_arms (last_arm s) = 1
count_arms (arm s r) = suc (count_arms r)

unfoldable pub count_exprs : Exprs → ℕ
count_exprs no_expr = 0
count_exprs (expr e es) = suc (count_exprs es)
