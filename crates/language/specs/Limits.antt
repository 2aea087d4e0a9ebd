-- A body's limits (refusal 6): "at most 32 cells (…), 16 holds open together, and a working need of 32."
use Rattle.std.specs.Prelude.{Bool, true, false, not, ◌&&◌, List, [], ◌∷◌, ◌++◌, ℕ, suc, ◌+◌, max, leb, length}
use Rattle.values.specs.Ends.{Refusal}
use Rattle.language.specs.Tree.{Typed, Decl, declare, holding, Stmt, Items, Arms, Target, Expr, Exprs, Body, proper, function, Global, local, class, procedure, Tree, locals}
use Rattle.language.specs.Measure.{Measure, measure_s, measure_items, measure_arms, measure_target, measure_e, measure_es}
use Rattle.language.specs.Faults.{fault_if, size_global}

-- ── cells: "parameters, variables of all its blocks, one per case"; "Each loop counts three cells." (ticket 1); siblings share none (L4) ──
abbrev pub decl_cells : Decl → ℕ
decl_cells (declare x) = 1
decl_cells (holding g) = 0

unfoldable pub head_cells : List Decl → ℕ
head_cells [] = 0
head_cells (d ∷ ds) = decl_cells d + head_cells ds

abbrev pub case_cells : ℕ
case_cells = 1

abbrev pub loop_cells : ℕ
loop_cells = 3

abbrev pub by_cells : Measure
by_cells =
    record {
      of_none = 0;
      of_parts = ◌+◌;
      of_entry = λ n. n;
      of_label = λ n. n;
      of_case = λ n. case_cells + n;
      of_loop = λ n. loop_cells + n;
      of_block = λ ds n. head_cells ds + n;
      stacked = false;
    }

abbrev pub cells_s : Stmt → ℕ
cells_s s = measure_s by_cells s

abbrev pub cells_items : Items → ℕ
cells_items is = measure_items by_cells is

abbrev pub cells_arms : Arms → ℕ
cells_arms r = measure_arms by_cells r

abbrev pub cells_target : Target → ℕ
cells_target x = measure_target by_cells x

abbrev pub cells_e : Expr → ℕ
cells_e e = measure_e by_cells e

abbrev pub cells_es : Exprs → ℕ
cells_es es = measure_es by_cells 0 es

-- ── holds open together: the largest sum along nested blocks (L2) of the body, its callers' not counted (L3) ──
abbrev pub decl_holds : Decl → ℕ
decl_holds (declare x) = 0
decl_holds (holding g) = 1

unfoldable pub head_holds : List Decl → ℕ
head_holds [] = 0
head_holds (d ∷ ds) = decl_holds d + head_holds ds

abbrev pub by_holds : Measure
by_holds =
    record { of_none = 0; of_parts = max; of_entry = λ n. n; of_label = λ n. n; of_case = λ n. n; of_loop = λ n. n; of_block = λ ds n. head_holds ds + n; stacked = false }

abbrev pub holds_s : Stmt → ℕ
holds_s s = measure_s by_holds s

abbrev pub holds_items : Items → ℕ
holds_items is = measure_items by_holds is

abbrev pub holds_arms : Arms → ℕ
holds_arms r = measure_arms by_holds r

abbrev pub holds_target : Target → ℕ
holds_target x = measure_target by_holds x

abbrev pub holds_e : Expr → ℕ
holds_e e = measure_e by_holds e

abbrev pub holds_es : Exprs → ℕ
holds_es es = measure_es by_holds 0 es

-- ── working need ──
-- "An entry needs the largest over i of i − 1 plus the need of its i-th operand, at least 1; an operand that is a statement counts its
-- own need alone, a case needs at least 2, a declaration 1, and a block or block expression counts as its neediest part." (L7 to L9)
abbrev pub by_need : Measure
by_need =
    record {
      of_none = 1;  -- "at least 1"; a declaration needs 1, too
      of_parts = max;  -- "the largest"
      of_entry = λ n. n;
      of_label = λ n. n;
      of_case = max 2;  -- "a case needs at least 2"
      of_loop = λ n. n;
      of_block = λ ds n. n;  -- "counts as its neediest part"
      stacked = true;  -- "i − 1 plus the need of its i-th operand"
    }

abbrev pub need_s : Stmt → ℕ
need_s s = measure_s by_need s

abbrev pub need_items : Items → ℕ
need_items is = measure_items by_need is

abbrev pub need_arms : Arms → ℕ
need_arms r = measure_arms by_need r

abbrev pub need_target : Target → ℕ
need_target x = measure_target by_need x

abbrev pub need_e : Expr → ℕ
need_e e = measure_e by_need e

-- operands of which i stand before; at least 1
abbrev pub need_es : ℕ → Exprs → ℕ
need_es i es = measure_es by_need i es

-- ── the bodies: "6 the body's entry, procedures first" (L1) ──
pub record Usage : Type 0 where
  pub cells : ℕ
  pub holds : ℕ
  pub need : ℕ

abbrev pub keeps_limits : Usage → Bool
keeps_limits u = leb u.cells 32 && (leb u.holds 16 && leb u.need 32)

-- a procedure's parameters are cells and need nothing (L6)
abbrev pub body_usage : List Typed → Body → Usage
body_usage xs (proper s) = record { cells = length xs + cells_s s; holds = holds_s s; need = need_s s }
body_usage xs (function t e) = record { cells = length xs + cells_e e; holds = holds_e e; need = need_e e }

abbrev pub root_usage : Tree → Usage
root_usage t =
    let ds = locals t.head in
    record { cells = head_cells ds + cells_items t.items; holds = head_holds ds + holds_items t.items; need = need_items t.items }

abbrev pub over_limits : Usage → ℕ → List Refusal
over_limits u p = fault_if (not (keeps_limits u)) 6 p

unfoldable pub procedure_limits : ℕ → List Global → List Refusal
procedure_limits p [] = []
procedure_limits p (local d ∷ gs) = procedure_limits (suc p) gs
procedure_limits p (class c xs ∷ gs) = procedure_limits (p + size_global (class c xs)) gs
procedure_limits p (procedure a xs b ∷ gs) = over_limits (body_usage xs b) p ++ procedure_limits (p + size_global (procedure a xs b)) gs

unfoldable pub limits : Tree → List Refusal
limits t = procedure_limits 1 t.head ++ over_limits (root_usage t) 0
