-- An entry with expressions only below it.
use Rattle.std.specs.Prelude.{◌≡◌, Bool, List, ◌++◌, map, ℕ, suc, ◌+◌, ◌-◌, ◌*◌, ◌≤◌, ◌<◌, pos, length, Ok, Err}
use Rattle.std.proofs.Math.Path.{refl}
use Rattle.std.proofs.Common.{ap, sym, ◌∙◌, arith, add-one, length-append, eq-eqb}
use Rattle.std.proofs.Math.Bool.{true, false}
use Rattle.std.proofs.Math.Dec.{eqb}
use Rattle.logic.specs.Choice.{If◌then◌else◌}
use Rattle.logic.specs.Tests.{clash}
use Rattle.language.specs.Program.{flat_e, flat_es}
use Rattle.words.specs.Numbers.{half_at, word_at}
use Rattle.language.specs.Tree.{Expr, number, truth, pattern, null, variable, invoke, field, make, operate1, operate2, conditional, fader, block_expr, Exprs, no_expr, expr}
use Rattle.language.specs.Tree.{count_exprs}
use Rattle.language.specs.Names.{Scope, lookup}
use Rattle.language.specs.Faults.{fault_if, faults_es}
use Rattle.table_entries.specs.declared.Fault.{Fault}
use Rattle.table_scopes.specs.Environment.{env_of, find}
use Rattle.table_entries.specs.Entries.{half-part, rest}
use Rattle.table_entries.specs.Stands.{stands-left, stands-tail}
use Rattle.table_entries.specs.declared.Fault.TheVariants.{Mistyped}
use Rattle.table_scopes.specs.Flaws.{Verdict, says_first, says_then}
use Rattle.table_scopes.specs.Trees.{length-E}
use Rattle.table_scopes.specs.Defines.{name-small}
use Rattle.table_types.specs.Settle.{values, settled_by, controls, Within}
use Rattle.table_types.specs.Operations as op
use Rattle.table_types.specs.Operations.{Operation, kind_op, name_op, number_op, Takes, gives, own}
use Rattle.table_types.specs.Types.{ty_num}
use Rattle.table_types.specs.Settles.{Settled, settles, found_within, control-found}
use Rattle.table_forms.specs.Forms.{Form, simple, guard, counted, blocked, bodied, labelled, head_f, Valid, types_of, type_f, fixed_e, fixed, faults_f, form_e}
use Rattle.table_forms.specs.Forms.{SimpleForm, flat-E}
use Rattle.table_forms.specs.Walk.{Table, Ready, Asks, Typed, ReadyEs, AsksEs, Listed, AnswersEs, fixed_by, operands_by}
use Rattle.table_forms.specs.Part.{Head, head_of, table-next, size-one, fine-held, below}

abbrev op_of : Form → Operation
op_of (simple o es) = o
op_of (guard g e is) = op.reads
op_of (counted a e f g s) = op.reads
op_of (blocked ds is) = op.reads
op_of (bodied ds is e) = op.reads
op_of (labelled a) = op.reads

abbrev es_of : Form → Exprs
es_of (simple o es) = es
es_of (guard g e is) = no_expr
es_of (counted a e f g s) = no_expr
es_of (blocked ds is) = no_expr
es_of (bodied ds is e) = no_expr
es_of (labelled a) = no_expr

operands-count : (o : Operation) (n b : ℕ) → Takes o n → ((m : ℕ) → number_op o n ≡ pos m → b ≡ m) → operands_by (kind_op o) b ≡ n
unfolding operands_by
operands-count (op.numeral z) n b t h = sym t
operands-count (op.truth z) n b t h = sym t
operands-count (op.pattern z) n b t h = sym t
operands-count (op.null_of c) n b t h = sym t
operands-count (op.variable_of a) n b t h = sym t
operands-count (op.invokes a) n b t h = h n refl
operands-count (op.field_at a) n b t h = sym t
operands-count (op.makes c) n b t h = h n refl
operands-count (op.calls a) n b t h = h n refl
operands-count (op.goes_to a) n b t h = sym t
operands-count (op.unary_op o) n b t h = sym t
operands-count (op.binary_op o) n b t h = sym t
operands-count op.chooses n b t h = sym t
operands-count op.reads n b t h = sym t
operands-count op.assigns n b t h = sym t
operands-count op.asserts n b t h = sym t
operands-count op.sets n b t h = sym t

pub count-le : (es : Exprs) → count_exprs es ≤ length (flat_es es)
unfolding count_exprs flat_es
count-le no_expr = omega arith
count-le (expr e es) = omega (arith, count-le es, length-append (flat_e e) (flat_es es), length-E e, size-one e)

length-types_of : (ss : List Scope) (es : Exprs) → length (types_of ss es) ≡ count_exprs es
unfolding types_of count_exprs
length-types_of ss no_expr = refl
length-types_of ss (expr e es) = ap suc (length-types_of ss es)

simple-faults : (at : ℕ) (f : Form) → SimpleForm f → (ss : List Scope) (seen : List ℕ)
    → faults_f ss seen at f ≡ fixed ss (op_of f) (es_of f) (at + 1) ++ (faults_es ss (at + 1) (es_of f) ++ own ss (op_of f) (types_of ss (es_of f)) at)
simple-faults at (simple o es) h ss seen = rw (add-one at)
simple-faults at (guard g e is) h ss seen = absurd h
simple-faults at (counted a e f g s) h ss seen = absurd h
simple-faults at (blocked ds is) h ss seen = absurd h
simple-faults at (bodied ds is e) h ss seen = absurd h
simple-faults at (labelled a) h ss seen = absurd h

simple-type : (f : Form) → SimpleForm f → (ss : List Scope) → type_f ss f ≡ gives ss (op_of f) (types_of ss (es_of f))
simple-type (simple o es) h ss = refl
simple-type (guard g e is) h ss = absurd h
simple-type (counted a e f g s) h ss = absurd h
simple-type (blocked ds is) h ss = absurd h
simple-type (bodied ds is e) h ss = absurd h
simple-type (labelled a) h ss = absurd h

simple-valid : (f : Form) → SimpleForm f → Valid f → (ss : List Scope) → Takes (op_of f) (length (types_of ss (es_of f)))
simple-valid (simple o es) h v ss = rw (length-types_of ss es) v
simple-valid (guard g e is) h v ss = absurd h
simple-valid (counted a e f g s) h v ss = absurd h
simple-valid (blocked ds is) h v ss = absurd h
simple-valid (bodied ds is e) h v ss = absurd h
simple-valid (labelled a) h v ss = absurd h

simple-head : (f : Form) → SimpleForm f → ((head_f f).kind ≡ kind_op (op_of f)) × ((head_f f).a ≡ name_op (op_of f))
simple-head (simple o es) h = (refl, refl)
simple-head (guard g e is) h = absurd h
simple-head (counted a e f g s) h = absurd h
simple-head (blocked ds is) h = absurd h
simple-head (bodied ds is e) h = absurd h
simple-head (labelled a) h = absurd h

name-here : (f : Form) → SimpleForm f → {ss : List Scope} {seen l part : List ℕ} {nesting at : ℕ} {sizes old : List ℕ} {top : ℕ}
    → Ready f ss seen l part nesting at sizes old top → (half_at part 0 ≡ kind_op (op_of f)) × (half_at part 2 ≡ name_op (op_of f))
name-here f h q = let d = head_of _ _ q.table q.stands in let g = simple-head f h in (d.kind ∙ g.0, d.a ∙ g.1)

pub small-name : {l part sizes : List ℕ} {at : ℕ} → Table l part sizes at → half_at part 2 < 65536
small-name {l} {part} {sizes} {at} u = rw (u.whole, half-part l (8 * at) 2) (name-small u.legible at)

-- ── a control name as an assignment's target ──
takes_two : (o : Operation) (n : ℕ) → eqb (kind_op o) 21 ≡ true → Takes o n → n ≡ 2
takes_two (op.numeral z) n e t = clash (cc)
takes_two (op.truth z) n e t = clash (cc)
takes_two (op.pattern z) n e t = clash (cc)
takes_two (op.null_of c) n e t = clash (cc)
takes_two (op.variable_of a) n e t = clash (cc)
takes_two (op.invokes a) n e t = clash (cc)
takes_two (op.field_at a) n e t = clash (cc)
takes_two (op.makes c) n e t = clash (cc)
takes_two (op.calls a) n e t = clash (cc)
takes_two (op.goes_to a) n e t = clash (cc)
takes_two (op.unary_op o) n e t = clash (cc)
takes_two (op.binary_op o) n e t = clash (cc)
takes_two op.chooses n e t = clash (cc)
takes_two op.reads n e t = clash (cc)
takes_two op.assigns n e t = t
takes_two op.asserts n e t = clash (cc)
takes_two op.sets n e t = clash (cc)

next-half : (part : List ℕ) (i : ℕ) → half_at (below part 8) i ≡ half_at part (8 + i)
next-half part i = rw (rest 8 part) (half-part part 8 i)

module _ {l part : List ℕ} {nesting at : ℕ} {sizes old : List ℕ} {top : ℕ} where
  -- the first operand's entry
  first_head : {o : Operation} {e : Expr} {es : Exprs} {ss : List Scope} {seen : List ℕ} → Ready (simple o (expr e es)) ss seen l part nesting at sizes old top
      → Head l (below part 8) (at + 1) (head_f (form_e e))
  unfolding flat_es
  first_head {e = e} {es} q =
      head_of _ _ (table-next q.table 8 1 refl) (rw (flat-E e) at (stands-left (flat_e e) (flat_es es) (stands-tail _ _ q.stands)))

  fixed-first : (o : Operation) (e : Expr) (es : Exprs) {ss : List Scope} {seen : List ℕ} → eqb (half_at part 0) 21 ≡ true
      → Ready (simple o (expr e es)) ss seen l part nesting at sizes old top → fixed_e ss e (at + 1) ≡ fault_if (fixed_by part (find (half_at part 10) (env_of old top))) 4 (at + 1)
  unfolding fixed_by
  fixed-first o e es {ss} {seen} k q = go e (sym (next-half part 0) ∙ (first_head q).kind) (sym (next-half part 2) ∙ (first_head q).a)
    where
      go : (e : Expr) → half_at part 8 ≡ (head_f (form_e e)).kind → half_at part 10 ≡ (head_f (form_e e)).a
          → fixed_e ss e (at + 1) ≡ fault_if (If eqb (half_at part 0) 21 then If eqb (half_at part 8) 44 then controls (find (half_at part 10) (env_of old top)) else false else false) 4 (at + 1)
      go (number z) i j = rw (k, i)
      go (truth b) i j = rw (k, i)
      go (pattern z) i j = rw (k, i)
      go (null c) i j = rw (k, i)
      go (variable a) i j =
          let small : a < 65536 = rw (next-half part 2, j) at (small-name (table-next q.table 8 1 refl)) in
          rw (k, i, j, control-found l (find a (env_of old top)) (lookup a ss) (q.sees.sees a small))
      go (invoke a xs) i j = rw (k, i)
      go (field a x) i j = rw (k, i)
      go (make c xs) i j = rw (k, i)
      go (operate1 p x) i j = rw (k, i)
      go (operate2 p x y) i j = rw (k, i)
      go (conditional x y z) i j = rw (k, i)
      go (fader x) i j = rw (k, i)
      go (block_expr ds is x) i j = rw (k, i)

  fixed-simple : (o : Operation) (es : Exprs) {ss : List Scope} {seen : List ℕ} → half_at part 0 ≡ kind_op o → Ready (simple o es) ss seen l part nesting at sizes old top
      → fixed ss o es (at + 1) ≡ fault_if (fixed_by part (find (half_at part 10) (env_of old top))) 4 (at + 1)
  unfolding fixed_by count_exprs
  fixed-simple o no_expr {ss} k q = go (eqb (kind_op o) 21) refl
    where
      go : (b : Bool) → eqb (kind_op o) 21 ≡ b → fixed ss o no_expr (at + 1) ≡ fault_if (fixed_by part (find (half_at part 10) (env_of old top))) 4 (at + 1)
      go true e = absurd (omega (arith, takes_two o 0 e q.valid))
      go false e = rw (k, e)
  fixed-simple o (expr x es) {ss} k q = go (eqb (kind_op o) 21) refl
    where
      go : (b : Bool) → eqb (kind_op o) 21 ≡ b → fixed ss o (expr x es) (at + 1) ≡ fault_if (fixed_by part (find (half_at part 10) (env_of old top))) 4 (at + 1)
      go true e = rw e (fixed-first o x es (rw k e) q)
      go false e = rw (k, e)

  fixed-is : (f : Form) → SimpleForm f → {ss : List Scope} {seen : List ℕ} → Ready f ss seen l part nesting at sizes old top
      → fixed ss (op_of f) (es_of f) (at + 1) ≡ fault_if (fixed_by part (find (half_at part 10) (env_of old top))) 4 (at + 1)
  fixed-is (simple o es) h q = fixed-simple o es (name-here (simple o es) h q).0 q
  fixed-is (guard g e is) h q = absurd h
  fixed-is (counted a e f g s) h q = absurd h
  fixed-is (blocked ds is) h q = absurd h
  fixed-is (bodied ds is e) h q = absurd h
  fixed-is (labelled a) h q = absurd h

  -- it is one, and that is the first fault
  pub simple-fixed : fixed_by part (find (half_at part 10) (env_of old top)) ≡ true → Typed SimpleForm l part nesting at sizes old old top (Err (Mistyped (at + 1)))
  simple-fixed e =
      record {
        kept = refl;
        same = refl;
        judged = λ f ss seen h q.
            record {
              says = (
                faults_es ss (at + 1) (es_of f) ++ own ss (op_of f) (types_of ss (es_of f)) at,
                rw (simple-faults at f h ss seen, fixed-is f h q, e),
              );
              types = tt;
            };
      }

  -- where it is looked for there is an entry
  fixed-within : (f : Form) → SimpleForm f → {ss : List Scope} {seen : List ℕ} → Ready f ss seen l part nesting at sizes old top → eqb (half_at part 0) 21 ≡ true → 16 ≤ length part
  unfolding count_exprs
  fixed-within (simple o no_expr) h q e = absurd (omega (arith, takes_two o 0 (rw (name-here (simple o no_expr) h q).0 at e) q.valid))
  fixed-within (simple o (expr x es)) h q e = omega (arith, (first_head q).within, (head_of _ _ q.table q.stands).long)
  fixed-within (guard g x is) h q e = absurd h
  fixed-within (counted a x y z s) h q e = absurd h
  fixed-within (blocked ds is) h q e = absurd h
  fixed-within (bodied ds is x) h q e = absurd h
  fixed-within (labelled a) h q e = absurd h

  pub fixed-long : Asks SimpleForm l part nesting at sizes old top → half_at part 0 ≡ 21 → 16 ≤ length part
  fixed-long q e = fixed-within q.form q.holds q.ready (eq-eqb _ _ e)

module _ {l part : List ℕ} {nesting at : ℕ} {sizes old : List ℕ} {top : ℕ} (count : ℕ) (c : count ≡ operands_by (half_at part 0) (word_at part 4)) where
  simple-ready : (f : Form) → SimpleForm f → {ss : List Scope} {seen : List ℕ} → Ready f ss seen l part nesting at sizes old top
      → ReadyEs (es_of f) ss l (below part 8) count (nesting - 1) (at + 1) sizes old top
  simple-ready (simple o es) h q =
      let d = head_of _ _ q.table q.stands in
      record {
        table = table-next q.table 8 1 refl;
        stands = stands-tail _ _ q.stands;
        deep = omega (arith, q.deep);
        room = omega (arith, q.room);
        sees = q.sees;
        many = c ∙ rw d.kind (operands-count o (count_exprs es) (word_at part 4) q.valid d.b);
      }
  simple-ready (guard g e is) h q = absurd h
  simple-ready (counted a e f g s) h q = absurd h
  simple-ready (blocked ds is) h q = absurd h
  simple-ready (bodied ds is e) h q = absurd h
  simple-ready (labelled a) h q = absurd h

  pub simple-asks : Asks SimpleForm l part nesting at sizes old top → AsksEs l (below part 8) count (nesting - 1) (at + 1) sizes old top
  simple-asks q = record { exprs = es_of q.form; scopes = q.scopes; ready = simple-ready q.form q.holds q.ready }

  module _ {mid : List ℕ} {r : Verdict} (t : AnswersEs l (below part 8) count (nesting - 1) (at + 1) sizes old mid top r) where
    pub simple-stop : fixed_by part (find (half_at part 10) (env_of old top)) ≡ false → (bad : Fault) → r ≡ Err bad → Typed SimpleForm l part nesting at sizes old mid top (Err bad)
    simple-stop free bad e =
        record {
          kept = t.kept;
          same = t.same;
          judged = λ f ss seen h q.
              record {
                says = rw (simple-faults at f h ss seen, fixed-is f h q, free) (says_first r bad (faults_es ss (at + 1) (es_of f))
                    (own ss (op_of f) (types_of ss (es_of f)) at) e (t.judged (es_of f) ss (simple-ready f h q)).says);
                types = tt;
              };
        }

    pub settle-asks : Asks SimpleForm l part nesting at sizes old top → (4 * (top + count) ≤ length mid) × (half_at part 2 < 65536) × Within l (find (half_at part 2) (env_of mid top))
    settle-asks q =
        let y = simple-ready q.form q.holds q.ready in
        let w = small-name q.ready.table in (
          omega (arith, y.room, y.many, count-le (es_of q.form), t.same),
          w,
          rw t.kept (found_within q.ready.table.legible (find (half_at part 2) (env_of old top)) (lookup (half_at part 2) q.scopes)
              (q.ready.sees.sees (half_at part 2) w)),
        )

    pub simple-judged : fixed_by part (find (half_at part 10) (env_of old top)) ≡ false → (u : ℕ) {s : Verdict} → r ≡ Ok u
        → s ≡ settled_by l (half_at part 0) (half_at part 2) at (find (half_at part 2) (env_of mid top)) (values count (env_of mid (top + count)))
        → Typed SimpleForm l part nesting at sizes old mid top s
    simple-judged free u {s} e z =
        record { kept = t.kept; same = t.same; judged = λ f ss seen h q. go f ss seen h q (t.judged (es_of f) ss (simple-ready f h q)) }
      where
        go : (f : Form) (ss : List Scope) (seen : List ℕ) → SimpleForm f → Ready f ss seen l part nesting at sizes old top
            → Listed r (faults_es ss (at + 1) (es_of f)) (values count (env_of mid (top + count))) (map ty_num (types_of ss (es_of f))) → Settled s (faults_f ss seen at f) (type_f ss f)
        go f ss seen h q y =
            let n = name-here f h q in
            let held = fine-held r u e y.held in
            let small : name_op (op_of f) < 65536 = rw (← n.1) (small-name q.table) in
            let d : Settled s (own ss (op_of f) (types_of ss (es_of f)) at) (gives ss (op_of f) (types_of ss (es_of f)))
            = rw (z, n.0, n.1, held, t.kept) (settles q.table.legible at q.sees (op_of f) (types_of ss (es_of f)) (simple-valid f h q.valid ss) small) in
            record {
              says = rw (simple-faults at f h ss seen, fixed-is f h q, free) (says_then r s u (faults_es ss (at + 1) (es_of f)) (own ss (op_of f) (types_of ss (es_of f)) at) e y.says d.says);
              types = rw (simple-type f h ss) d.types;
            }
