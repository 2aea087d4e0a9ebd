-- Expressions one after the other: what is asked and answered while some of them are judged and their types stand above the names.
use Rattle.std.specs.Prelude.{◌≡◌, refl, ℕ, ◌+◌, ◌-◌, ◌*◌, ◌≤◌, ◌<◌, length, drop, take, get_or, Ok, Err}
use Rattle.std.proofs.Common.{ap, sym, ◌∙◌, arith, add-zero, add_assoc, add-one, length-append}
use mathlib.Core.List.{List, [], ◌∷◌, ◌++◌, map, append_assoc, append-nil}
use Rattle.std.proofs.Math.Nat.{sub-zero}
use Rattle.language.specs.Measure.{measure_s}
use Rattle.language.specs.Program.{flat_e, flat_es}
use Rattle.language.specs.Tree.{Expr, Exprs, no_expr, expr, count_exprs}
use Rattle.language.specs.Names.{Scope}
use Rattle.language.specs.Faults.{type_e, size_e, faults_e, faults_es}
use Rattle.table_entries.specs.declared.Fault.{Fault}
use Rattle.table_scopes.specs.Environment.{item as pushed, env_of, find, Grown, value}
use Rattle.table_scopes.specs.EnvironmentLaws.{fewer, grown-push, stored, past-mark, passing-none}
use Rattle.table_entries.specs.Stands.{stands-left, stands-right}
use Rattle.table_scopes.specs.Flaws.{Verdict, says_first, says-fine}
use Rattle.table_scopes.specs.Trees.{length-E}
use Rattle.table_scopes.specs.Sees.{sees-value}
use Rattle.table_types.specs.Settle.{values}
use Rattle.table_types.specs.Types.{ty_num}
use Rattle.table_forms.specs.Forms.{types_of, type_f, form_e, ExprForm, flat-E, deep-E, valid-E, type-E, faults-E, form-expr, once-E}
use Rattle.table_forms.specs.Walk.{Ready, Asks, Typed, ReadyEs, AsksEs, Listed, AnswersEs, Alike}
use Rattle.table_forms.specs.Part.{table-next, size-here, room-le, Passes, passes, size-one, expr-room, spans-form, fine-type}

pub record Going (es : Exprs) (ss : List Scope) (l rest : List ℕ) (count nesting at : ℕ) (sizes env : List ℕ) (top place i : ℕ) : Type 0 where
  pub left : Exprs
  pub ready : ReadyEs left ss l rest (count - i) nesting place sizes env (top + i)
  pub same : faults_es ss at es ≡ faults_es ss place left
  pub held : map ty_num (types_of ss es) ≡ values i (env_of env (top + i)) ++ map ty_num (types_of ss left)

pub record EsSoFar (l part : List ℕ) (count nesting at : ℕ) (sizes old : List ℕ) (top : ℕ) (env rest : List ℕ) (place i : ℕ) : Type 0 where
  pub kept : env_of env top ≡ env_of old top
  pub same : length env ≡ length old
  pub most : i ≤ count
  pub alike : Alike env top i
  pub goes : (es : Exprs) (ss : List Scope) → ReadyEs es ss l part count nesting at sizes old top → Going es ss l rest count nesting at sizes env top place i

pub es-start : (l part : List ℕ) (count nesting at : ℕ) (sizes old : List ℕ) (top : ℕ) → EsSoFar l part count nesting at sizes old top old part at 0
unfolding values
es-start l part count nesting at sizes old top =
    record {
      kept = refl;
      same = refl;
      most = omega arith;
      alike = record { finds = λ a h. rw (add-zero top) };
      goes = λ es ss r. record { left = es; ready = rw (sub-zero count, add-zero top) r; same = refl; held = refl };
    }

-- the next expression
pub record NextE (left : Exprs) (ss : List Scope) (l rest : List ℕ) (nesting place : ℕ) (sizes env : List ℕ) (top : ℕ) : Type 0 where
  pub this : Expr
  pub later : Exprs
  pub is : left ≡ expr this later
  pub ready : Ready (form_e this) ss [] l rest nesting place sizes env top

next-e : (left : Exprs) (ss : List Scope) {l rest : List ℕ} {n nesting place : ℕ} {sizes env : List ℕ} {top : ℕ}
    → ReadyEs left ss l rest n nesting place sizes env top → 0 < n → NextE left ss l rest nesting place sizes env top
unfolding count_exprs flat_es measure_s
next-e no_expr ss r h = absurd (omega (arith, r.many))
next-e (expr e es) ss {l} {rest} {n} {nesting} {place} {sizes} {env} {top} r h =
    record {
      this = e;
      later = es;
      is = refl;
      ready = record {
        table = r.table;
        valid = valid-E e;
        stands = rw (flat-E e) at (stands-left (flat_e e) (flat_es es) r.stands);
        deep = omega (arith, deep-E e, r.deep);
        room = omega (arith, r.room, length-append (flat_e e) (flat_es es), room-le (form_e e), ap length (flat-E e));
        sees = r.sees;
        once = once-E (env_of env top) [] place (form_e e) (form-expr e);
      };
    }

-- the stack above, after one more
above-is : {mid new : List ℕ} (top i t : ℕ) (env : List ℕ) → Grown (top + i) mid new (top + i + 1) (pushed value 0 t 0 ∷ env_of mid (top + i)) 1 → env_of mid (top + i) ≡ env_of env (top + i)
    → env_of new (top + (i + 1)) ≡ pushed value 0 t 0 ∷ env_of env (top + i)
above-is top i t env g e = rw (← add_assoc top i 1) (g.now ∙ rw e)

alike_next : {env mid new : List ℕ} (top i t : ℕ) → Grown (top + i) mid new (top + i + 1) (pushed value 0 t 0 ∷ env_of mid (top + i)) 1
    → env_of mid (top + i) ≡ env_of env (top + i) → env_of new top ≡ env_of env top
    → Alike env top i → Alike new top (i + 1)
alike_next {env} top i t g e k h =
    record {
      finds = λ a small. rw (above-is top i t env g e, k) (past-mark a small value 0 t 0 (env_of env (top + i)) (omega arith)
          ∙ sym (passing-none (find a (env_of env (top + i)))) ∙ h.finds a small);
    }

es-moves : {es : Exprs} {ss : List Scope} {l rest : List ℕ} {count nesting at : ℕ} {sizes env : List ℕ} {top place i : ℕ} (g : Going es ss l rest count nesting at sizes env top place i)
    (x : NextE g.left ss l rest nesting place sizes env (top + i)) {mid new : List ℕ} {r : Verdict} (t n : ℕ)
    → Typed ExprForm l rest nesting place sizes env mid (top + i) r → r ≡ Ok t → n ≡ get_or sizes place 0
    → Grown (top + i) mid new (top + i + 1) (pushed value 0 t 0 ∷ env_of mid (top + i)) 1 → n ≡ size_e x.this → t ≡ ty_num (type_e ss x.this)
    → Going es ss l (take (length rest - 8 * n) (drop (8 * n) rest)) count nesting at sizes new top (place + n) (i + 1)
unfolding faults_es types_of count_exprs flat_es measure_s values
es-moves {es} {ss} {l} {rest} {count} {nesting} {at} {sizes} {env} {top} {place} {i} g x {mid} {new} {r} t n y e k w size type =
    let q = rw x.is at g.ready in
    let v = above-is top i t env w y.kept in
    let none : faults_e ss place x.this ≡ [] = faults-E ss [] place x.this ∙ says-fine r t _ e (y.judged (form_e x.this) ss [] (form-expr x.this) x.ready).says in
    record {
      left = x.later;
      ready = record {
        table = table-next q.table (8 * n) n refl;
        stands = rw (length-E x.this, ← size) at (stands-right (flat_e x.this) (flat_es x.later) q.stands);
        deep = omega (arith, q.deep);
        room = omega (arith, q.room, w.same, y.same, length-append (flat_e x.this) (flat_es x.later), length-E x.this, size-one x.this);
        sees = rw v (sees-value t q.sees);
        many = omega (arith, q.many);
      };
      same = g.same ∙ rw (x.is, none, size);
      held = g.held ∙ rw (x.is, v, ← type, add-one i, append_assoc (values i (env_of env (top + i))) (t ∷ []) (map ty_num (types_of ss x.later)));
    }

module _ {l part : List ℕ} {count nesting at : ℕ} {sizes old : List ℕ} {top : ℕ} {env rest : List ℕ} {place i : ℕ}
    (s : EsSoFar l part count nesting at sizes old top env rest place i) (h : i < count) where
  this-e : (es : Exprs) (ss : List Scope) (r : ReadyEs es ss l part count nesting at sizes old top) → NextE (s.goes es ss r).left ss l rest nesting place sizes env (top + i)
  this-e es ss r = next-e (s.goes es ss r).left ss (s.goes es ss r).ready (omega arith)

  pub es-asks : AsksEs l part count nesting at sizes old top → Asks ExprForm l rest nesting place sizes env (top + i)
  es-asks q = let n = this-e q.exprs q.scopes q.ready in
      record { form = form_e n.this; scopes = q.scopes; seen = []; holds = form-expr n.this; ready = n.ready }

  -- it has a fault, and that is the first
  pub es-stop : {new : List ℕ} {r : Verdict} (bad : Fault) → Typed ExprForm l rest nesting place sizes env new (top + i) r → r ≡ Err bad
      → AnswersEs l part count nesting at sizes old new top (Err bad)
  unfolding faults_es
  es-stop {new} {r} bad t e =
      record {
        kept = fewer new env top (top + i) (omega arith) t.kept ∙ s.kept;
        same = t.same ∙ s.same;
        judged = λ es ss q. let g = s.goes es ss q in let x = this-e es ss q in
            record {
              held = tt;
              says = rw (g.same, x.is) (says_first r bad (faults_e ss place x.this) (faults_es ss (place + size_e x.this) x.later) e
                  (rw (faults-E ss [] place x.this) (t.judged (form_e x.this) ss [] (form-expr x.this) x.ready).says));
            };
      }

  -- it has none, and its type is pushed
  module _ {mid new : List ℕ} {r : Verdict} (t n : ℕ) (y : Typed ExprForm l rest nesting place sizes env mid (top + i) r) (e : r ≡ Ok t)
      (z : new ≡ stored mid (top + i) value 0 t 0) (k : n ≡ get_or sizes place 0) where
    module _ (es : Exprs) (ss : List Scope) (q : ReadyEs es ss l part count nesting at sizes old top) where
      size-e : n ≡ size_e (this-e es ss q).this
      size-e = let x = this-e es ss q in k ∙ size-here _ _ x.ready.table (spans-form x.this) x.ready.stands ∙ sym (ap length (flat-E x.this)) ∙ length-E x.this

      type-e : t ≡ ty_num (type_e ss (this-e es ss q).this)
      type-e = let x = this-e es ss q in rw (type-E ss x.this) (fine-type r t (type_f ss (form_e x.this)) e (y.judged (form_e x.this) ss [] (form-expr x.this) x.ready).types)

    fresh : 4 * (top + i + 1) ≤ length mid → Grown (top + i) mid new (top + i + 1) (pushed value 0 t 0 ∷ env_of mid (top + i)) 1
    fresh w = grown-push mid new (top + i) value 0 t 0 w z

    pub es-next : 4 * (top + i + 1) ≤ length mid → EsSoFar l part count nesting at sizes old top new (take (length rest - 8 * n) (drop (8 * n) rest)) (place + n) (i + 1)
    es-next w =
        let g = fresh w in
        let k = fewer new mid top (top + i) (omega arith) g.kept ∙ fewer mid env top (top + i) (omega arith) y.kept in
        record {
          kept = k ∙ s.kept;
          same = g.same ∙ y.same ∙ s.same;
          most = omega arith;
          alike = alike_next top i t g y.kept k s.alike;
          goes = λ es ss q. go es ss q g;
        }
      where
        go : (es : Exprs) (ss : List Scope) (q : ReadyEs es ss l part count nesting at sizes old top) → Grown (top + i) mid new (top + i + 1) (pushed value 0 t 0 ∷ env_of mid (top + i)) 1
            → Going es ss l (take (length rest - 8 * n) (drop (8 * n) rest)) count nesting at sizes new top (place + n) (i + 1)
        go es ss q g = es-moves (s.goes es ss q) (this-e es ss q) t n y e k g (size-e es ss q) (type-e es ss q)

  pub es-room : AsksEs l part count nesting at sizes old top → 4 * (top + i + 1) ≤ length env
  es-room q = let x = this-e q.exprs q.scopes q.ready in expr-room (form_e x.this) (form-expr x.this) (top + i) (length env) x.ready.room

  pub es-passes : AsksEs l part count nesting at sizes old top → (n : ℕ) → n ≡ get_or sizes place 0 → Passes rest sizes place n
  es-passes q n k = let x = this-e q.exprs q.scopes q.ready in passes _ _ x.ready.table (spans-form x.this) x.ready.stands n k

no-exprs : (es : Exprs) (n : ℕ) → n ≡ count_exprs es → n ≡ 0 → es ≡ no_expr
unfolding count_exprs
no-exprs no_expr n e z = refl
no-exprs (expr e es) n k z = absurd (omega arith)

going_end : {es : Exprs} {ss : List Scope} {l rest : List ℕ} {count nesting at : ℕ} {sizes env : List ℕ} {top place i : ℕ} → Going es ss l rest count nesting at sizes env top place i → count ≡ i
    → Listed (Ok 0) (faults_es ss at es) (values count (env_of env (top + count))) (map ty_num (types_of ss es))
unfolding faults_es types_of
going_end {ss = ss} {count = count} {env = env} {top = top} {i = i} g e =
    let z = no-exprs g.left (count - i) g.ready.many (omega arith) in
    record { says = g.same ∙ rw z; held = sym (g.held ∙ rw (z, append-nil (values i (env_of env (top + i))), e)) }

pub es-end : {l part : List ℕ} {count nesting at : ℕ} {sizes old : List ℕ} {top : ℕ} {env rest : List ℕ} {place i : ℕ} → EsSoFar l part count nesting at sizes old top env rest place i → count ≤ i
    → AnswersEs l part count nesting at sizes old env top (Ok 0)
es-end s h = record { kept = s.kept; same = s.same; judged = λ es ss q. going_end (s.goes es ss q) (omega (arith, s.most)) }
