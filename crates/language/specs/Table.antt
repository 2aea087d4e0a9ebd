-- Entries, their layout, and the table read as a tree (refusals 1 and 2).
use Rattle.std.specs.Prelude.{Bool, true, false, not, ◌&&◌, ◌||◌, List, [], ◌∷◌, ℕ, zero, suc, ◌+◌, ◌-◌, ◌/◌, ◌%◌, eqb, leb, ltb, ℤ, pos, negsuc, nat_abs, length, drop}
use Rattle.std.proofs.Math.Option.{Option, none, some, get_or}
use Rattle.logic.specs.Choice.{If◌then◌else◌}
use Rattle.logic.specs.Options.{is_some}
use Rattle.words.specs.Numbers.{half_at, word_at, integer_of}
use Rattle.values.specs.Types.{Ty, integer, logical, bits, reference}
use Rattle.values.specs.Ends.{refusal, Judged, accepted, refused}
use Rattle.values.specs.Operators.{negate, plus, unary_of, binary_of}
use Rattle.values.specs.Arithmetic.{is_zero}
use Rattle.values.specs.Values.{between}
use Rattle.language.specs.Tree.{Typed, typed, Decl, declare, holding, Stmt, block, assign, when, choose, while, goto, assert, call, set_level, select, for, Items, no_item}
use Rattle.language.specs.Tree.{label, item, Arms, last_arm, arm, Target, to_variable, to_field, Expr, number, truth, pattern, null, variable, invoke, field, make}
use Rattle.language.specs.Tree.{operate1, operate2, conditional, fader, block_expr, Exprs, no_expr, expr, Body, proper, function, Global, local, class, procedure}
use Rattle.language.specs.Tree.{Tree}

-- "Entries of 8 bytes: kind (u16), a (u16), b (32 bits, signed), in prefix order."
pub record Entry : Type 0 where
  pub kind : ℕ
  pub a : ℕ
  pub b : ℤ

abbrev pub entry : ℕ → ℕ → ℤ → Entry
entry k a b = record { kind = k; a = a; b = b }

-- ── the layout of one entry ──
abbrev pub natural : ℤ → Bool
natural (pos n) = true
natural (negsuc n) = false

-- "Types: 1 integer, 2 logical, 3 bits, 65,536 + class name for a reference."
abbrev pub ty_of_code : ℕ → Option Ty
ty_of_code n =
    If eqb n 1 then some integer else
    If eqb n 2 then some logical else
    If eqb n 3 then some bits else
    If leb 65536 n && leb n 131071 then some (reference (n - 65536)) else none

-- "12 procedure a, b = 256 × parameters (0 to 8) + result"
abbrev pub is_heading : ℕ → Bool
is_heading n = leb (n / 256) 8 && leb (n % 256) 3

-- what a and b of each kind may be (R5 to R14): "A field not named below is 0."
unfoldable pub in_layout : Entry → Bool
in_layout e =
    let k = e.kind in let x = e.a in let z = e.b in
    If eqb k 1 then natural z else  -- 1 block (a declarations, b statements)
    If eqb k 10 then natural z && is_some (ty_of_code (nat_abs z)) else  -- 10 variable a of type b
    If eqb k 11 then between 1 8 z else  -- 11 class a with b fields, 1 to 8
    If eqb k 12 then natural z && is_heading (nat_abs z) else  -- 12 procedure a
    If eqb k 14 then leb x 63 && is_zero z else  -- 14 hold group a (0 to 63)
    If eqb k 20 then is_zero z else  -- 20 label a
    If eqb k 21 then eqb x 0 && is_zero z else  -- 21 assign
    If eqb k 22 then eqb x 0 && is_zero z else  -- 22 if
    If eqb k 23 then eqb x 0 && is_zero z else  -- 23 if-else
    If eqb k 24 then eqb x 0 && is_zero z else  -- 24 while
    If eqb k 25 then is_zero z else  -- 25 goto a
    If eqb k 26 then eqb x 0 && is_zero z else  -- 26 assert
    If eqb k 27 then natural z else  -- 27 call a with b arguments
    If eqb k 28 then eqb x 0 && is_zero z else  -- 28 set
    If eqb k 30 then leb 1 x && is_zero z else  -- 30 case, a at least 1
    If eqb k 31 then is_zero z else  -- "Kind 31, a the control name" (ticket 1)
    If eqb k 40 then eqb x 0 else  -- 40 integer b
    If eqb k 41 then eqb x 0 && between 0 1 z else  -- 41 logical b (0 or 1)
    If eqb k 42 then eqb x 0 else  -- 42 bits b
    If eqb k 43 then is_zero z else  -- 43 null of class a
    If eqb k 44 then is_zero z else  -- 44 variable a
    If eqb k 45 then natural z else  -- 45 function a with b arguments
    If eqb k 46 then is_zero z else  -- 46 field a of (E)
    If eqb k 47 then natural z else  -- 47 record of class a from b values
    If eqb k 48 then is_some (unary_of x) && is_zero z else  -- 48 unary a
    If eqb k 49 then is_some (binary_of x) && is_zero z else  -- 49 binary a
    If eqb k 50 then eqb x 0 && is_zero z else  -- 50 if-expression
    If eqb k 51 then eqb x 0 && is_zero z else  -- 51 fader
    If eqb k 53 then natural z else false  -- 53 block expression (a declarations, b statements)

-- ── reading, from left to right ──
-- a part that was read and the entries after it, or the entries from the first that does not read
pub data Read (A : Type 0) : Type 0 where
  took : A → List Entry → Read A
  stop : List Entry → Read A

abbrev pub Reader : Type 0 → Type 0
Reader A = List Entry → Read A

unfoldable pub after : {A B : Type 0} → Read A → (A → Reader B) → Read B
after (took x es) f = f x es
after (stop es) f = stop es

abbrev pub made : {A B : Type 0} → (A → B) → Reader A → Reader B
made f r es = after (r es) (λ x. took (f x))

abbrev pub two : {A B C : Type 0} → (A → B → C) → Reader A → Reader B → Reader C
two f r q es = after (r es) (λ x. made (f x) q)

abbrev pub three : {A B C D : Type 0} → (A → B → C → D) → Reader A → Reader B → Reader C → Reader D
three f r q p es = after (r es) (λ x. two (f x) q p)

abbrev pub four : {A B C D E : Type 0} → (A → B → C → D → E) → Reader A → Reader B → Reader C → Reader D → Reader E
four f r q p o es = after (r es) (λ x. three (f x) q p o)

-- one after the other, as many as the count says
unfoldable pub repeated : {A : Type 0} → ℕ → Reader A → Reader (List A)
repeated zero r es = took [] es
repeated (suc n) r es = after (r es) (λ x rest. after (repeated n r rest) (λ xs. took (x ∷ xs)))

-- the entry that stands here, where it keeps to the layout
unfoldable pub first : {A : Type 0} → (Entry → Reader A) → Reader A
first f [] = stop []
first f (e ∷ es) = If in_layout e then f e es else stop (e ∷ es)

-- the type of a kind 10 that keeps to the layout
abbrev pub as_typed : Entry → Typed
as_typed e = typed e.a (get_or (ty_of_code (nat_abs e.b)) integer)

unfoldable pub form_typed : Entry → Reader Typed
form_typed e es = If eqb e.kind 10 then took (as_typed e) es else stop (e ∷ es)

unfoldable pub form_decl : Entry → Reader Decl
form_decl e es =
    If eqb e.kind 10 then took (declare (as_typed e)) es else
    If eqb e.kind 14 then took (holding e.a) es else stop (e ∷ es)

-- lists as the tree has them
pub data Part : Type 0 where
  label_part : ℕ → Part
  stmt_part : Stmt → Part

unfoldable pub items_of : List Part → Items
items_of [] = no_item
items_of (label_part a ∷ ps) = label a (items_of ps)
items_of (stmt_part s ∷ ps) = item s (items_of ps)

unfoldable pub arms_of : Stmt → List Stmt → Arms
arms_of s [] = last_arm s
arms_of s (t ∷ ts) = arm s (arms_of t ts)

unfoldable pub exprs_of : List Expr → Exprs
exprs_of [] = no_expr
exprs_of (e ∷ es) = expr e (exprs_of es)

-- the readers of what stands below an entry
pub record Below : Type 0 where
  pub typed : Reader Typed
  pub decl : Reader Decl
  pub part : Reader Part  -- a label or a statement
  pub stmt : Reader Stmt
  pub target : Reader Target
  pub expr : Reader Expr

abbrev pub items_below : Below → Entry → Reader Items
items_below r e = made items_of (repeated (nat_abs e.b) r.part)

abbrev pub exprs_below : Below → Entry → Reader Exprs
exprs_below r e = made exprs_of (repeated (nat_abs e.b) r.expr)

-- a statement, by the kind of its entry
unfoldable pub form_s : Below → Entry → Reader Stmt
form_s r e es =
    let k = e.kind in
    If eqb k 1 then two block (repeated e.a r.decl) (items_below r e) es else
    If eqb k 21 then two assign r.target r.expr es else
    If eqb k 22 then two when r.expr r.stmt es else
    If eqb k 23 then three choose r.expr r.stmt r.stmt es else
    If eqb k 24 then two while r.expr r.stmt es else
    If eqb k 25 then took (goto e.a) es else
    If eqb k 26 then made assert r.expr es else
    If eqb k 27 then made (call e.a) (exprs_below r e) es else
    If eqb k 28 then two set_level r.expr r.expr es else
    If eqb k 30 then three (λ x s ss. select x (arms_of s ss)) r.expr r.stmt (repeated (e.a - 1) r.stmt) es else
    If eqb k 31 then four (for e.a) r.expr r.expr r.expr r.stmt es else
    stop (e ∷ es)

-- a label or a statement (R15); b of a block counts both (R20)
unfoldable pub form_part : Below → Entry → Reader Part
form_part r e es = If eqb e.kind 20 then took (label_part e.a) es else made stmt_part (form_s r e) es

-- what may be assigned to, refused at the target itself (R4)
unfoldable pub form_target : Below → Entry → Reader Target
form_target r e es =
    If eqb e.kind 44 then took (to_variable e.a) es else
    If eqb e.kind 46 then made (to_field e.a) r.expr es else stop (e ∷ es)

-- an expression, by the kind of its entry
unfoldable pub form_e : Below → Entry → Reader Expr
form_e r e es =
    let k = e.kind in
    If eqb k 40 then took (number e.b) es else
    If eqb k 41 then took (truth (not (is_zero e.b))) es else
    If eqb k 42 then took (pattern e.b) es else
    If eqb k 43 then took (null e.a) es else
    If eqb k 44 then took (variable e.a) es else
    If eqb k 45 then made (invoke e.a) (exprs_below r e) es else
    If eqb k 46 then made (field e.a) r.expr es else
    If eqb k 47 then made (make e.a) (exprs_below r e) es else
    If eqb k 48 then made (operate1 (get_or (unary_of e.a) negate)) r.expr es else
    If eqb k 49 then two (operate2 (get_or (binary_of e.a) plus)) r.expr r.expr es else
    If eqb k 50 then three conditional r.expr r.expr r.expr es else
    If eqb k 51 then made fader r.expr es else
    If eqb k 53 then three block_expr (repeated e.a r.decl) (items_below r e) r.expr es else
    stop (e ∷ es)

-- the readers where so much nesting is left; the entry at depth 65 does not read (R19)
unfoldable pub below : ℕ → Below
below zero = record { typed = stop; decl = stop; part = stop; stmt = stop; target = stop; expr = stop }
below (suc d) = let r = below d in record {
  typed = first form_typed;
  decl = first form_decl;
  part = first (form_part r);
  stmt = first (form_s r);
  target = first (form_target r);
  expr = first (form_e r);
}

-- ── the root: "Kinds 11 and 12 stand only in the root's head, at most 16 and 63." ──
-- "its body: S when result is 0, E when result is 1, 2 or 3"
abbrev pub body_below : Below → ℕ → Reader Body
body_below r t = If eqb t 0 then made proper r.stmt else made (function (get_or (ty_of_code t) integer)) r.expr

-- classes and procedures here only, the 17th and the 64th refused at itself (R16, R18)
unfoldable pub form_global : Below → ℕ → ℕ → Entry → Reader Global
form_global r classes procedures e es =
    let n = nat_abs e.b in
    If eqb e.kind 11 then
    (If ltb classes 16 then made (class e.a) (repeated n r.typed) es else stop (e ∷ es)) else
    If eqb e.kind 12 then
    (If ltb procedures 63 then two (procedure e.a) (repeated (n / 256) r.typed) (body_below r (n % 256)) es else stop (e ∷ es)) else
    made local (form_decl e) es

abbrev pub class_count : Global → ℕ
class_count (local d) = 0
class_count (class c xs) = 1
class_count (procedure a xs b) = 0

abbrev pub procedure_count : Global → ℕ
procedure_count (local d) = 0
procedure_count (class c xs) = 0
procedure_count (procedure a xs b) = 1

unfoldable pub read_head : Below → ℕ → ℕ → ℕ → Reader (List Global)
read_head r zero c p es = took [] es
read_head r (suc n) c p es =
    after (first (form_global r c p) es) (λ g rest. after (read_head r n (c + class_count g) (p + procedure_count g) rest) (λ gs. took (g ∷ gs)))

abbrev pub tree_of : List Global → Items → Tree
tree_of gs is = record { head = gs; items = is }

-- "nesting at most 64 deep; the root, a block (kind 1), is depth 1"
unfoldable pub form_root : Entry → Reader Tree
form_root e es = If eqb e.kind 1 then two tree_of (read_head (below 62) e.a 0 0) (items_below (below 63) e) es else stop (e ∷ es)

-- ── the table ──
unfoldable pub entries : ℕ → List ℕ → List Entry
entries zero l = []
entries (suc n) l = entry (half_at l 0) (half_at l 2) (integer_of (word_at l 4)) ∷ entries n (drop 8 l)

-- "2: the first that does not read, or the entry count where the table ends early"; an entry after the one tree does not read (R1 to R3)
unfoldable pub one_tree : List Entry → Read Tree → Judged Tree
one_tree es (took t []) = accepted t
one_tree es (took t (x ∷ xs)) = refused (refusal 2 (length es - length (x ∷ xs)))
one_tree es (stop xs) = refused (refusal 2 (length es - length xs))

-- 1: "empty, over 16,384 bytes, or not in eights"
unfoldable pub read_table : List ℕ → Judged Tree
read_table l =
    let n = length l in
    let es = entries (n / 8) l in
    If eqb n 0 || (ltb 16384 n || not (eqb (n % 8) 0)) then refused (refusal 1 0) else one_tree es (first form_root es)
