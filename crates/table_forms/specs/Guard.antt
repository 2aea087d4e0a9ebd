-- An expression and the statements that it guards: what is ready below the entry, and what is asked and answered.
use Rattle.std.specs.Prelude.{◌≡◌, refl, Bool, true, false, List, [], ◌++◌, ℕ, ◌+◌, ◌-◌, ◌*◌, ◌≤◌, ◌<◌, eqb, length, get_or, Ok, Err}
use Rattle.std.proofs.Common.{ap, sym, ◌∙◌, arith, add_assoc, add-one, length-append}
use Rattle.std.proofs.Math.Option.{Option}
use Rattle.language.specs.Program.{flat_items, flat_e}
use Rattle.logic.specs.Choice.{If◌then◌else◌}
use Rattle.words.specs.Numbers.{half_at}
use Rattle.values.specs.Types.{Ty, integer, logical}
use Rattle.language.specs.Tree.{Items, Expr, count_items}
use Rattle.language.specs.Names.{Scope}
use Rattle.language.specs.Faults.{type_e, is_ty, mistyped_unless, size_e, faults_items, faults_e}
use Rattle.table_entries.specs.declared.Fault.{Fault}
use Rattle.table_scopes.specs.Environment.{env_of}
use Rattle.table_entries.specs.Stands.{stands-left, stands-right, stands-tail}
use Rattle.table_entries.specs.declared.Fault.TheVariants.{Mistyped}
use Rattle.table_scopes.specs.Flaws.{Verdict, Says, says_first, says_then}
use Rattle.table_scopes.specs.Trees.{length-E, length-Items}
use Rattle.table_scopes.specs.Defines.{labels-bulk}
use Rattle.table_types.specs.Types.{ty_num, is_number}
use Rattle.table_forms.specs.Forms.{Guard, if_only, if_else, loops, cases, kind_g, count_g, TakesG, ask_g, Form, simple, guard, counted, blocked, bodied, labelled, type_f}
use Rattle.table_forms.specs.Forms.{faults_f, form_e, ExprForm, GuardForm, flat-E, deep-E, valid-E, type-E, faults-E, form-expr, once-E, unlabelled-once}
use Rattle.table_forms.specs.Walk.{Ready, Asks, Answers, Typed, ReadyItems, AsksItems, AnswersItems, guarded_by, tested_by}
use Rattle.table_forms.specs.Part.{head_of, table-next, size-here, room-le, passes, spans-form, fine-type, below}

guard-count : (g : Guard) (n a : ℕ) → TakesG g n → a ≡ count_g g n → guarded_by (kind_g g) a ≡ n
unfolding guarded_by
guard-count if_only n a t e = sym t
guard-count if_else n a t e = sym t
guard-count loops n a t e = sym t
guard-count cases n a t e = e

-- a test, by whether the type is the one that is asked for
says-tested : (b : Bool) (p : ℕ) → Says (If b then Ok 1 else Err (Mistyped p)) (mistyped_unless b p)
says-tested true p = refl
says-tested false p = ([], refl)

pub guard-tested : (g : Guard) (o : Option Ty) (t p : ℕ) → t ≡ ty_num o → Says (tested_by (kind_g g) t p) (mistyped_unless (is_ty (ask_g g) o) p)
unfolding tested_by
guard-tested if_only o t p e = rw (is_number logical o, ← e) (says-tested (eqb t 2) p)
guard-tested if_else o t p e = rw (is_number logical o, ← e) (says-tested (eqb t 2) p)
guard-tested loops o t p e = rw (is_number logical o, ← e) (says-tested (eqb t 2) p)
guard-tested cases o t p e = rw (is_number integer o, ← e) (says-tested (eqb t 1) p)

-- a guard's parts, once it is known to be one
pub record Guarded (f : Form) (ss : List Scope) (seen l part : List ℕ) (count nesting at : ℕ) (sizes env : List ℕ) (top : ℕ) : Type 0 where
  pub guard : Guard
  pub test : Expr
  pub items : Items
  pub kind : half_at part 0 ≡ kind_g guard
  pub ready : Ready (form_e test) ss [] l (below part 8) (nesting - 1) (at + 1) sizes env top
  pub next : (new : List ℕ) (n : ℕ) → env_of new top ≡ env_of env top → length new ≡ length env → n ≡ size_e test
      → ReadyItems items ss [] l (below part (8 * (1 + n))) count (nesting - 1) (at + 1 + n) sizes new top
  pub faults : faults_f ss seen at f ≡ faults_e ss (at + 1) test ++ (faults_items ss [] (at + 1 + size_e test) items ++ mistyped_unless (is_ty (ask_g guard) (type_e ss test)) at)

pub guarded : (f : Form) → GuardForm f → {ss : List Scope} {seen l part : List ℕ} {nesting at : ℕ} {sizes env : List ℕ} {top : ℕ} (count : ℕ) → count ≡ guarded_by (half_at part 0) (half_at part 2)
    → Ready f ss seen l part nesting at sizes env top → Guarded f ss seen l part count nesting at sizes env top
guarded (simple o es) h count c q = absurd h
guarded (counted a e f g s) h count c q = absurd h
guarded (blocked ds is) h count c q = absurd h
guarded (bodied ds is e) h count c q = absurd h
guarded (labelled a) h count c q = absurd h
guarded (guard g e is) h {ss} {seen} {l} {part} {nesting} {at} {sizes} {env} {top} count c q =
    let d = head_of _ _ q.table q.stands in
    let w = stands-tail _ _ q.stands in
    record {
      guard = g;
      test = e;
      items = is;
      kind = d.kind;
      ready = record {
        table = table-next q.table 8 1 refl;
        valid = valid-E e;
        stands = rw (flat-E e) at (stands-left (flat_e e) (flat_items is) w);
        deep = omega (arith, q.deep, deep-E e);
        room = omega (arith, q.room, room-le (form_e e), ap length (flat-E e), length-append (flat_e e) (flat_items is));
        sees = q.sees;
        once = once-E (env_of env top) [] (at + 1) (form_e e) (form-expr e);
      };
      next = λ new n k s z. record {
        table = rw (add_assoc at 1 n) (table-next q.table (8 * (1 + n)) (1 + n) refl);
        stands = rw (length-E e, ← z) at (stands-right (flat_e e) (flat_items is) w);
        deep = omega (arith, q.deep);
        room = omega (arith, q.room, s, labels-bulk is, length-Items is, length-append (flat_e e) (flat_items is));
        sees = rw k q.sees;
        once = unlabelled-once (env_of new top) [] (at + 1 + n) is q.valid.1;
        many = c ∙ rw d.kind (guard-count g (count_items is) (half_at part 2) q.valid.0 d.a);
      };
      faults = rw (add-one at);
    }

-- ── asked and answered ──
pub record PassesTest (part sizes : List ℕ) (at n : ℕ) : Type 0 where
  pub known : at + 1 < length sizes
  pub fits : 8 * (1 + n) ≤ length part
  pub small : at + 1 + n ≤ 2048

module _ {l part : List ℕ} {nesting at : ℕ} {sizes old : List ℕ} {top : ℕ} (count : ℕ) (c : count ≡ guarded_by (half_at part 0) (half_at part 2)) where
  pub guard-asks : Asks GuardForm l part nesting at sizes old top → Asks ExprForm l (below part 8) (nesting - 1) (at + 1) sizes old top
  guard-asks q = let g = guarded q.form q.holds count c q.ready in
      record { form = form_e g.test; scopes = q.scopes; seen = []; holds = form-expr g.test; ready = g.ready }

  pub guard-passes : Asks GuardForm l part nesting at sizes old top → (n : ℕ) → n ≡ get_or sizes (at + 1) 0 → PassesTest part sizes at n
  guard-passes q n k =
      let g = guarded q.form q.holds count c q.ready in
      let p = passes _ _ g.ready.table (spans-form g.test) g.ready.stands n k in
      let d = head_of _ _ q.ready.table q.ready.stands in
      let e = head_of _ _ g.ready.table g.ready.stands in
      record { known = p.known; fits = omega (arith, p.fits, d.long, d.within, e.long); small = p.small }

  module _ {mid : List ℕ} {r : Verdict} (y : Typed ExprForm l (below part 8) (nesting - 1) (at + 1) sizes old mid top r) where
    says-test : (f : Form) (h : GuardForm f) (ss : List Scope) (seen : List ℕ) (q : Ready f ss seen l part nesting at sizes old top) → Says r (faults_e ss (at + 1) (guarded f h count c q).test)
    says-test f h ss seen q = let g = guarded f h count c q in rw (faults-E ss [] (at + 1) g.test) (y.judged (form_e g.test) ss [] (form-expr g.test) g.ready).says

    pub guard-stop : (bad : Fault) → r ≡ Err bad → Answers GuardForm l part nesting at sizes old mid top (Err bad)
    guard-stop bad e =
        record {
          kept = y.kept;
          same = y.same;
          judged = λ f ss seen h q.
              let g = guarded f h count c q in rw g.faults (says_first r bad (faults_e ss (at + 1) g.test) _ e (says-test f h ss seen q));
        }

    module _ (t n : ℕ) (e : r ≡ Ok t) (k : n ≡ get_or sizes (at + 1) 0) where
      size-test : (f : Form) (h : GuardForm f) (ss : List Scope) (seen : List ℕ) (q : Ready f ss seen l part nesting at sizes old top) → n ≡ size_e (guarded f h count c q).test
      size-test f h ss seen q = let g = guarded f h count c q in k ∙ size-here _ _ g.ready.table (spans-form g.test) g.ready.stands ∙ sym (ap length (flat-E g.test)) ∙ length-E g.test

      ready-items : (f : Form) (h : GuardForm f) (ss : List Scope) (seen : List ℕ) (q : Ready f ss seen l part nesting at sizes old top)
          → ReadyItems (guarded f h count c q).items ss [] l (below part (8 * (1 + n))) count (nesting - 1) (at + 1 + n) sizes mid top
      ready-items f h ss seen q = (guarded f h count c q).next mid n y.kept y.same (size-test f h ss seen q)

      pub guard-items : Asks GuardForm l part nesting at sizes old top → AsksItems l (below part (8 * (1 + n))) count (nesting - 1) (at + 1 + n) sizes mid top
      guard-items q = record { items = _; scopes = q.scopes; seen = []; ready = ready-items q.form q.holds q.scopes q.seen q.ready }

      module _ {new : List ℕ} {s : Verdict} (z : AnswersItems l (below part (8 * (1 + n))) count (nesting - 1) (at + 1 + n) sizes mid new top s) where
        says-items : (f : Form) (h : GuardForm f) (ss : List Scope) (seen : List ℕ) (q : Ready f ss seen l part nesting at sizes old top)
            → Says s (faults_items ss [] (at + 1 + size_e (guarded f h count c q).test) (guarded f h count c q).items)
        says-items f h ss seen q = rw (← size-test f h ss seen q) (z.judged (guarded f h count c q).items ss [] (ready-items f h ss seen q))

        pub guard-stop-2 : (bad : Fault) → s ≡ Err bad → Answers GuardForm l part nesting at sizes old new top (Err bad)
        guard-stop-2 bad w =
            record {
              kept = z.kept ∙ y.kept;
              same = z.same ∙ y.same;
              judged = λ f ss seen h q.
                  let g = guarded f h count c q in
                  rw g.faults (says_then r (Err bad) t (faults_e ss (at + 1) g.test) _ e (says-test f h ss seen q)
                  (says_first s bad (faults_items ss [] (at + 1 + size_e g.test) g.items) _ w (says-items f h ss seen q)));
            }

        pub guard-judged : (u : ℕ) {v : Verdict} → s ≡ Ok u → v ≡ tested_by (half_at part 0) t at → Answers GuardForm l part nesting at sizes old new top v
        guard-judged u {v} w x =
            record {
              kept = z.kept ∙ y.kept;
              same = z.same ∙ y.same;
              judged = λ f ss seen h q.
                  let g = guarded f h count c q in
                  let d : Says v (mistyped_unless (is_ty (ask_g g.guard) (type_e ss g.test)) at)
                  = rw (x, g.kind) (guard-tested g.guard (type_e ss g.test) t at
                  (rw (type-E ss g.test) (fine-type r t (type_f ss (form_e g.test)) e (y.judged (form_e g.test) ss [] (form-expr g.test) g.ready).types))) in
                  rw g.faults (says_then r v t (faults_e ss (at + 1) g.test) _ e (says-test f h ss seen q)
                  (says_then s v u (faults_items ss [] (at + 1 + size_e g.test) g.items) _ w (says-items f h ss seen q) d));
            }
