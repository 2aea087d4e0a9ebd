-- A for: its three expressions, and then its statement among one more scope, that of its control name.
use Rattle.std.specs.Prelude.{◌≡◌, refl, ◌&&◌, List, [], ◌∷◌, ◌++◌, ℕ, ◌+◌, ◌-◌, ◌*◌, ◌/◌, ◌≤◌, length, drop, Ok, Err}
use Rattle.std.proofs.Common.{ap, ◌∙◌, arith, add_assoc, add-one, length-append}
use Rattle.language.specs.Program.{flat_s, flat_es}
use Rattle.words.specs.Numbers.{half_at}
use Rattle.values.specs.Types.{integer}
use Rattle.language.specs.Tree.{Stmt, Expr, count_exprs}
use Rattle.language.specs.Table.{Entry}
use Rattle.language.specs.Names.{Scope, loop_of}
use Rattle.language.specs.Faults.{type_e, is_ty, mistyped_unless, size_es, faults_s, faults_es}
use Rattle.language_laws.specs.Claims.{entries_of}
use Rattle.table_entries.specs.Entries.{length-entries}
use Rattle.table_entries.specs.Sizes.{Known}
use Rattle.table_entries.specs.Spans.{span}
use Rattle.table_entries.specs.Stands.{stands-left, stands-right, stands-tail, stands-within}
use Rattle.table_entries.specs.declared.Fault.{Fault}
use Rattle.table_scopes.specs.Environment.{item as pushed, env_of, opened, Grown}
use Rattle.table_scopes.specs.EnvironmentLaws.{fewer}
use Rattle.table_scopes.specs.Flaws.{Verdict, Says, says_first, says_then}
use Rattle.table_scopes.specs.Sees.{sees-loop}
use Rattle.table_scopes.specs.Trees.{length-Es, spans-Es}
use Rattle.table_types.specs.Settle.{values, counted_by}
use Rattle.table_types.specs.Settles.{counted-says}
use Rattle.table_forms.specs.Forms.{Form, simple, guard, counted, blocked, bodied, labelled, three, types_of, faults_f, form_s, StmtForm, CountForm, flat-S, deep-S, valid-S}
use Rattle.table_forms.specs.Forms.{faults-S, form-stmt, once-S}
use Rattle.table_forms.specs.Walk.{Ready, Asks, Answers, ReadyEs, AsksEs, AnswersEs}
use Rattle.table_forms.specs.Part.{head_of, table-next, room-le, fine-held, below}
use Rattle.table_forms.specs.Simple.{count-le, small-name}

-- the stack with a for's control name, which is that of the entry where a part begins
abbrev pub Looped : List ℕ → ℕ → ℕ → List ℕ → List ℕ → ℕ → Type 0
Looped part at top mid new up = (up ≡ top + 2) × Grown top mid new up (pushed (half_at part 2) 8 1 at ∷ (pushed opened 0 0 0 ∷ env_of mid top)) 2

-- a for's parts, once it is known to be one
pub record Counted (f : Form) (ss : List Scope) (seen l part : List ℕ) (nesting at : ℕ) (sizes env : List ℕ) (top : ℕ) : Type 0 where
  pub control : ℕ
  pub start : Expr
  pub step : Expr
  pub limit : Expr
  pub inner : Stmt
  pub ready : ReadyEs (three start step limit) ss l (below part 8) 3 (nesting - 1) (at + 1) sizes env top
  pub size : span 3 (drop (at + 1) (entries_of l)) ≡ size_es (three start step limit)
  pub next : (mid new : List ℕ) (up n : ℕ) → env_of mid top ≡ env_of env top → length mid ≡ length env → Looped part at top mid new up → n ≡ size_es (three start step limit)
      → Ready (form_s inner) (loop_of control ∷ ss) [] l (below part (8 * (1 + n))) (nesting - 1) (at + 1 + n) sizes new up
  pub room : 4 * (top + 3) ≤ length env
  pub within : at + 1 + size_es (three start step limit) ≤ length l / 8
  pub faults : faults_f ss seen at f
      ≡ faults_es ss (at + 1) (three start step limit) ++ (faults_s (loop_of control ∷ ss) (at + 1 + size_es (three start step limit)) inner
      ++ mistyped_unless (is_ty integer (type_e ss start) && (is_ty integer (type_e ss step) && is_ty integer (type_e ss limit))) at)

pub counted_of : (f : Form) → CountForm f → {ss : List Scope} {seen l part : List ℕ} {nesting at : ℕ} {sizes env : List ℕ} {top : ℕ}
    → Ready f ss seen l part nesting at sizes env top → Counted f ss seen l part nesting at sizes env top
unfolding count_exprs
counted_of (simple o es) h q = absurd h
counted_of (guard g e is) h q = absurd h
counted_of (blocked ds is) h q = absurd h
counted_of (bodied ds is e) h q = absurd h
counted_of (labelled a) h q = absurd h
counted_of (counted a e f g s) h {ss} {seen} {l} {part} {nesting} {at} {sizes} {env} {top} q =
    let es = three e f g in
    let d = head_of _ _ q.table q.stands in
    let w = stands-tail _ _ q.stands in
    let v = stands-left (flat_es es) (flat_s s) w in
    let z = length-append (flat_es es) (flat_s s) in
    record {
      control = a;
      start = e;
      step = f;
      limit = g;
      inner = s;
      ready = record {
        table = table-next q.table 8 1 refl;
        stands = v;
        deep = omega (arith, q.deep);
        room = omega (arith, q.room, z);
        sees = q.sees;
        many = refl;
      };
      size = ap (λ (us : List Entry). span 3 us) v.split ∙ (spans-Es es).spans v.rest ∙ length-Es es;
      next = λ mid new up n k m x y. record {
        table = rw (add_assoc at 1 n) (table-next q.table (8 * (1 + n)) (1 + n) refl);
        valid = valid-S s;
        stands = rw (flat-S s) at (rw (length-Es es, ← y) at (stands-right (flat_es es) (flat_s s) w));
        deep = omega (arith, q.deep, deep-S s);
        room = omega (arith, q.room, z, count-le es, room-le (form_s s), ap length (flat-S s), m, x.1.same, x.0);
        sees = rw (x.1.now, k, d.a) (sees-loop q.sees a at (rw d.a at (small-name q.table)));
        once = once-S (env_of new up) [] (at + 1 + n) s;
      };
      room = omega (arith, q.room, z, count-le es);
      within = omega (arith, stands-within _ _ q.stands, length-entries (length l / 8) l, z, length-Es es);
      faults = rw (add-one at);
    }

-- ── asked and answered ──
module _ {l part : List ℕ} {nesting at : ℕ} {sizes old : List ℕ} {top : ℕ} where
  pub count-asks : Asks CountForm l part nesting at sizes old top → AsksEs l (below part 8) 3 (nesting - 1) (at + 1) sizes old top
  count-asks q = let g = counted_of q.form q.holds q.ready in record { exprs = three g.start g.step g.limit; scopes = q.scopes; ready = g.ready }

  -- what is asked after the expressions
  pub count_room : Asks CountForm l part nesting at sizes old top → 4 * (top + 3) ≤ length old
  count_room q = (counted_of q.form q.holds q.ready).room

  pub count-spans : Asks CountForm l part nesting at sizes old top → Known l sizes × (at + 1 ≤ length l / 8)
  count-spans q = (q.ready.table.known, omega (arith, (counted_of q.form q.holds q.ready).within))

  pub count_fits : Asks CountForm l part nesting at sizes old top → (n : ℕ) → n ≡ span 3 (drop (at + 1) (entries_of l)) → (8 * (1 + n) ≤ length part) × (at + 1 + n ≤ 2048)
  count_fits q n k =
      let g = counted_of q.form q.holds q.ready in
      let d = head_of _ _ q.ready.table q.ready.stands in
      (omega (arith, k, g.size, g.within, d.long), omega (arith, k, g.size, g.within, q.ready.table.legible.short))

  module _ {mid : List ℕ} {r : Verdict} (y : AnswersEs l (below part 8) 3 (nesting - 1) (at + 1) sizes old mid top r) where
    pub count-stop : (bad : Fault) → r ≡ Err bad → Answers CountForm l part nesting at sizes old mid top (Err bad)
    count-stop bad e =
        record {
          kept = y.kept;
          same = y.same;
          judged = λ f ss seen h q. let g = counted_of f h q in
              rw g.faults (says_first r bad _ _ e (y.judged (three g.start g.step g.limit) ss g.ready).says);
        }

    module _ (t n : ℕ) (e : r ≡ Ok t) (k : n ≡ span 3 (drop (at + 1) (entries_of l))) {new : List ℕ} {up : ℕ} (x : Looped part at top mid new up) where
      ready-inner : (f : Form) (h : CountForm f) (ss : List Scope) (seen : List ℕ) (q : Ready f ss seen l part nesting at sizes old top)
          → Ready (form_s (counted_of f h q).inner) (loop_of (counted_of f h q).control ∷ ss) [] l (below part (8 * (1 + n))) (nesting - 1) (at + 1 + n) sizes new up
      ready-inner f h ss seen q = let g = counted_of f h q in g.next mid new up n y.kept y.same x (k ∙ g.size)

      pub count-inner : Asks CountForm l part nesting at sizes old top → Asks StmtForm l (below part (8 * (1 + n))) (nesting - 1) (at + 1 + n) sizes new up
      count-inner q =
          record {
            form = form_s (counted_of q.form q.holds q.ready).inner;
            scopes = _;
            seen = [];
            holds = form-stmt (counted_of q.form q.holds q.ready).inner;
            ready = ready-inner q.form q.holds q.scopes q.seen q.ready;
          }

      module _ {late : List ℕ} {s : Verdict} (z : Answers StmtForm l (below part (8 * (1 + n))) (nesting - 1) (at + 1 + n) sizes new late up s) where
        says-inner : (f : Form) (h : CountForm f) (ss : List Scope) (seen : List ℕ) (q : Ready f ss seen l part nesting at sizes old top)
            → Says s (faults_s (loop_of (counted_of f h q).control ∷ ss)
            (at + 1 + size_es (three (counted_of f h q).start (counted_of f h q).step (counted_of f h q).limit)) (counted_of f h q).inner)
        says-inner f h ss seen q =
            let g = counted_of f h q in
            let m : n ≡ size_es (three g.start g.step g.limit) = k ∙ g.size in
            rw (← m, faults-S (loop_of g.control ∷ ss) [] (at + 1 + n) g.inner)
            (z.judged (form_s g.inner) (loop_of g.control ∷ ss) [] (form-stmt g.inner) (ready-inner f h ss seen q))

        pub count-stop-2 : (bad : Fault) → s ≡ Err bad → Answers CountForm l part nesting at sizes old late top (Err bad)
        count-stop-2 bad w =
            record {
              kept = fewer late new top up x.1.least z.kept ∙ x.1.kept ∙ y.kept;
              same = z.same ∙ x.1.same ∙ y.same;
              judged = λ f ss seen h q. let g = counted_of f h q in
                  rw g.faults (says_then r (Err bad) t _ _ e (y.judged (three g.start g.step g.limit) ss g.ready).says
                  (says_first s bad _ _ w (says-inner f h ss seen q)));
            }

        pub count-judged : (u : ℕ) {v : Verdict} → s ≡ Ok u → v ≡ counted_by at (values 3 (env_of mid (top + 3))) → Answers CountForm l part nesting at sizes old late top v
        unfolding types_of
        count-judged u {v} w o =
            record {
              kept = fewer late new top up x.1.least z.kept ∙ x.1.kept ∙ y.kept;
              same = z.same ∙ x.1.same ∙ y.same;
              judged = λ f ss seen h q. let g = counted_of f h q in
                  let j = y.judged (three g.start g.step g.limit) ss g.ready in
                  rw g.faults (says_then r v t _ _ e j.says (says_then s v u _ _ w (says-inner f h ss seen q)
                  (rw (o, fine-held r t e j.held) (counted-says (type_e ss g.start) (type_e ss g.step) (type_e ss g.limit) at))));
            }
