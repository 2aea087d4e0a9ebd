-- Labels and statements one after the other: what is asked and answered while some of them are judged.
use Rattle.std.specs.Prelude.{◌≡◌, refl, List, [], ◌∷◌, ◌++◌, ℕ, suc, ◌+◌, ◌-◌, ◌*◌, ◌≤◌, ◌<◌, pos, length, drop, take, get_or, Ok, Err}
use Rattle.std.proofs.Common.{ap, sym, ◌∙◌, arith, add-zero, add-one}
use Rattle.language.specs.Measure.{measure_s}
use Rattle.language.specs.Program.{flat_s, flat_items, deep_items}
use Rattle.language.specs.Tree.{Items, no_item, label, item, count_items}
use Rattle.language.specs.Table.{entry}
use Rattle.language.specs.Names.{Scope}
use Rattle.language.specs.Faults.{size_s, faults_items}
use Rattle.table_entries.specs.declared.Fault.{Fault}
use Rattle.table_scopes.specs.Environment.{env_of}
use Rattle.table_entries.specs.Spans.{Spans}
use Rattle.table_entries.specs.Stands.{stands-left, stands-right}
use Rattle.table_scopes.specs.Flaws.{Verdict, says_first, says-fine}
use Rattle.table_scopes.specs.Trees.{length-S}
use Rattle.table_scopes.specs.Defines.{OnceItems, bulk}
use Rattle.table_forms.specs.Forms.{Form, labelled, flat_f, faults_f, form_s, StmtForm, flat-S, deep-S, valid-S, faults-S, form-stmt, once-S}
use Rattle.table_forms.specs.Walk.{Ready, Asks, Answers, ReadyItems, AsksItems, AnswersItems}
use Rattle.table_forms.specs.Part.{table-next, size-here, room-le, Passes, passes, spans-stmt, spans-label}

pub record GoingItems (is : Items) (ss : List Scope) (seen l rest : List ℕ) (nesting at : ℕ) (sizes env : List ℕ) (top place left : ℕ) : Type 0 where
  pub items : Items
  pub before : List ℕ
  pub ready : ReadyItems items ss before l rest left nesting place sizes env top
  pub same : faults_items ss seen at is ≡ faults_items ss before place items

pub record ItemsSoFar (l part : List ℕ) (count nesting at : ℕ) (sizes old : List ℕ) (top : ℕ) (env rest : List ℕ) (place left : ℕ) : Type 0 where
  pub kept : env_of env top ≡ env_of old top
  pub same : length env ≡ length old
  pub goes : (is : Items) (ss : List Scope) (seen : List ℕ) → ReadyItems is ss seen l part count nesting at sizes old top → GoingItems is ss seen l rest nesting at sizes env top place left

pub items-start : (l part : List ℕ) (count nesting at : ℕ) (sizes old : List ℕ) (top : ℕ) → ItemsSoFar l part count nesting at sizes old top old part at count
items-start l part count nesting at sizes old top =
    record { kept = refl; same = refl; goes = λ is ss seen r. record { items = is; before = seen; ready = r; same = refl } }

-- the next item: its form, and what is after it
pub record NextI (is : Items) (ss : List Scope) (seen l rest : List ℕ) (nesting place : ℕ) (sizes env : List ℕ) (top left : ℕ) : Type 0 where
  pub form : Form
  pub later : Items
  pub after : List ℕ
  pub holds : StmtForm form
  pub ready : Ready form ss seen l rest nesting place sizes env top
  pub spans : Spans 1 (flat_f form)
  pub flat : flat_items is ≡ flat_f form ++ flat_items later
  pub deep : deep_items later ≤ nesting
  pub room : 4 * (top + bulk later) ≤ length env
  pub once : OnceItems (env_of env top) after (place + length (flat_f form)) later
  pub many : left ≡ suc (count_items later)
  pub faults : faults_items ss seen place is ≡ faults_f ss seen place form ++ faults_items ss after (place + length (flat_f form)) later

next-i : (is : Items) (ss : List Scope) (seen : List ℕ) {l rest : List ℕ} {nesting place : ℕ} {sizes env : List ℕ} {top left : ℕ}
    → ReadyItems is ss seen l rest left nesting place sizes env top → 0 < left
    → NextI is ss seen l rest nesting place sizes env top left
unfolding count_items flat_items measure_s bulk OnceItems faults_items
next-i no_item ss seen r h = absurd (omega (arith, r.many))
next-i (label a is) ss seen {l} {rest} {nesting} {place} {sizes} {env} {top} r h =
    record {
      form = labelled a;
      later = is;
      after = a ∷ seen;
      holds = tt;
      ready =
          record {
            table = r.table;
            valid = tt;
            stands = stands-left (entry 20 a (pos 0) ∷ []) (flat_items is) r.stands;
            deep = omega (arith, r.deep);
            room = rw (add-zero top) (omega (arith, r.room));
            sees = r.sees;
            once = r.once.0;
          };
      spans = spans-label a;
      flat = refl;
      deep = omega (arith, r.deep);
      room = r.room;
      once = rw (add-one place) r.once.1;
      many = r.many;
      faults = rw (add-one place);
    }
next-i (item s is) ss seen {l} {rest} {nesting} {place} {sizes} {env} {top} r h =
    let z : size_s s ≡ length (flat_f (form_s s)) = sym (length-S s) ∙ ap length (flat-S s) in
    record {
      form = form_s s;
      later = is;
      after = seen;
      holds = form-stmt s;
      ready =
          record {
            table = r.table;
            valid = valid-S s;
            stands = rw (flat-S s) at (stands-left (flat_s s) (flat_items is) r.stands);
            deep = omega (arith, r.deep, deep-S s);
            room = omega (arith, r.room, room-le (form_s s));
            sees = r.sees;
            once = once-S (env_of env top) seen place s;
          };
      spans = spans-stmt s;
      flat = rw (flat-S s);
      deep = omega (arith, r.deep);
      room = omega (arith, r.room);
      once = rw z at r.once;
      many = r.many;
      faults = rw (faults-S ss seen place s, z);
    }

module _ {l part : List ℕ} {count nesting at : ℕ} {sizes old : List ℕ} {top : ℕ} {env rest : List ℕ} {place left : ℕ}
    (s : ItemsSoFar l part count nesting at sizes old top env rest place left) (h : 0 < left) where
  this-i : (is : Items) (ss : List Scope) (seen : List ℕ) (r : ReadyItems is ss seen l part count nesting at sizes old top)
      → NextI (s.goes is ss seen r).items ss (s.goes is ss seen r).before l rest nesting place sizes env top left
  this-i is ss seen r = let g = s.goes is ss seen r in next-i g.items ss g.before g.ready h

  pub items-asks : AsksItems l part count nesting at sizes old top → Asks StmtForm l rest nesting place sizes env top
  items-asks q = let n = this-i q.items q.scopes q.seen q.ready in
      record { form = n.form; scopes = q.scopes; seen = (s.goes q.items q.scopes q.seen q.ready).before; holds = n.holds; ready = n.ready }

  pub items-passes : AsksItems l part count nesting at sizes old top → (n : ℕ) → n ≡ get_or sizes place 0 → Passes rest sizes place n
  items-passes q n k = let x = this-i q.items q.scopes q.seen q.ready in passes _ _ x.ready.table x.spans x.ready.stands n k

  pub items-stop : {new : List ℕ} {r : Verdict} (bad : Fault) → Answers StmtForm l rest nesting place sizes env new top r → r ≡ Err bad
      → AnswersItems l part count nesting at sizes old new top (Err bad)
  items-stop {new} {r} bad t e =
      record {
        kept = t.kept ∙ s.kept;
        same = t.same ∙ s.same;
        judged = λ is ss seen q. let g = s.goes is ss seen q in let x = this-i is ss seen q in
            rw (g.same, x.faults) (says_first r bad (faults_f ss g.before place x.form) (faults_items ss x.after (place + length (flat_f x.form)) x.later) e
            (t.judged x.form ss g.before x.holds x.ready));
      }

  pub items-next : {new : List ℕ} {r : Verdict} (t n : ℕ) → Answers StmtForm l rest nesting place sizes env new top r → r ≡ Ok t → n ≡ get_or sizes place 0
      → ItemsSoFar l part count nesting at sizes old top new (take (length rest - 8 * n) (drop (8 * n) rest)) (place + n) (left - 1)
  items-next {new} {r} t n y e k =
      record {
        kept = y.kept ∙ s.kept;
        same = y.same ∙ s.same;
        goes = λ is ss seen q. moves is ss seen q (this-i is ss seen q);
      }
    where
      moves : (is : Items) (ss : List Scope) (seen : List ℕ) (q : ReadyItems is ss seen l part count nesting at sizes old top)
          → NextI (s.goes is ss seen q).items ss (s.goes is ss seen q).before l rest nesting place sizes env top left
          → GoingItems is ss seen l (take (length rest - 8 * n) (drop (8 * n) rest)) nesting at sizes new top (place + n) (left - 1)
      moves is ss seen q x =
          let g = s.goes is ss seen q in
          let z : n ≡ length (flat_f x.form) = k ∙ size-here _ _ x.ready.table x.spans x.ready.stands in
          let none = says-fine r t _ e (y.judged x.form ss g.before x.holds x.ready) in
          record {
            items = x.later;
            before = x.after;
            same = g.same ∙ x.faults ∙ rw (none, z);
            ready = record {
              table = table-next x.ready.table (8 * n) n refl;
              stands = rw z (stands-right (flat_f x.form) (flat_items x.later) (rw x.flat at g.ready.stands));
              deep = x.deep;
              room = rw y.same x.room;
              sees = rw y.kept x.ready.sees;
              once = rw (y.kept, z) x.once;
              many = omega (arith, x.many);
            };
          }

no_items : (is : Items) (n : ℕ) → n ≡ count_items is → n ≡ 0 → is ≡ no_item
unfolding count_items
no_items no_item n e z = refl
no_items (label a is) n k z = absurd (omega arith)
no_items (item s is) n k z = absurd (omega arith)

pub items-end : {l part : List ℕ} {count nesting at : ℕ} {sizes old : List ℕ} {top : ℕ} {env rest : List ℕ} {place left : ℕ}
    → ItemsSoFar l part count nesting at sizes old top env rest place left → left ≡ 0
    → AnswersItems l part count nesting at sizes old env top (Ok 0)
unfolding faults_items
items-end {left = left} s h =
    record { kept = s.kept; same = s.same; judged = λ is ss seen q. let g = s.goes is ss seen q in g.same ∙ rw (no_items g.items left g.ready.many h) }
