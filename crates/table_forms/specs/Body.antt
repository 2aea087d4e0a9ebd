-- A block expression: what a block has, behind a wall, and then its expression.
use Rattle.std.specs.Prelude.{◌≡◌, refl, List, [], ◌∷◌, ◌++◌, map, ℕ, ◌+◌, ◌-◌, ◌*◌, ◌/◌, ◌≤◌, length, drop, Ok, Err}
use Rattle.std.proofs.Common.{ap, ◌∙◌, append_assoc, arith, add-one, length-append}
use Rattle.language.specs.Program.{flat_decl, flat_items, flat_e, deep_e}
use Rattle.values.specs.Ends.{Refusal}
use Rattle.language.specs.Tree.{Decl, Items, Expr, count_items}
use Rattle.language.specs.Table.{Entry}
use Rattle.language.specs.Names.{Scope, expression_of}
use Rattle.language.specs.Faults.{type_e, size_items, faults_head, names_head, faults_items, faults_e}
use Rattle.language_laws.specs.Claims.{entries_of}
use Rattle.table_entries.specs.declared.Fault.{Fault}
use Rattle.table_scopes.specs.Environment.{item as pushed, env_of, add_all, shut}
use Rattle.table_scopes.specs.EnvironmentLaws.{fewer}
use Rattle.table_entries.specs.Spans.{span}
use Rattle.table_entries.specs.Entries.{length-entries}
use Rattle.table_entries.specs.Stands.{Stands, stands-left, stands-right, stands-tail, stands-within}
use Rattle.table_scopes.specs.Items.{block_items}
use Rattle.table_scopes.specs.Flaws.{Verdict, Says, says_first, says_then}
use Rattle.table_scopes.specs.Trees.{length-map, length-Items, spans-Items}
use Rattle.table_scopes.specs.Defines.{labels-bulk, Entered}
use Rattle.table_scopes.proofs.EnteredBlocks.{entered-expression}
use Rattle.table_forms.specs.Forms.{Form, simple, guard, counted, blocked, bodied, labelled, flat_f, type_f, faults_f, form_e, ExprForm, BodyForm, flat-E, deep-E, valid-E}
use Rattle.table_forms.specs.Forms.{type-E, faults-E, form-expr, once-E}
use Rattle.table_forms.specs.Walk.{room_f, Ready, Asks, Typed, ReadyItems}
use Rattle.table_forms.specs.Part.{head_of, table-next, room-le, below}
use Rattle.table_forms.specs.Block.{Block, EnterAsks, enter-asks, block-items, block-inner, block-says, block-most, AsksContents, AnswersContents, Counts, Pushed}

pub record Bodied (f : Form) (ss : List Scope) (seen l part : List ℕ) (heads count nesting at : ℕ) (sizes env : List ℕ) (top : ℕ) : Type 0 where
  pub ds : List Decl
  pub is : Items
  pub result : Expr
  pub block : Block ds is l part heads count nesting at sizes env top
  pub entered : Entered l (add_all (block_items l (at + 1) (length ds) (count_items is)) (pushed shut 0 0 0 ∷ env_of env top)) (expression_of ds is ∷ ss) (at + 1) ds is
  pub faults : faults_f ss seen at f
      ≡ faults_head (expression_of ds is ∷ ss) [] (at + 1) ds ++ (faults_items (expression_of ds is ∷ ss) (names_head ds) (at + 1 + heads) is
      ++ faults_e (expression_of ds is ∷ ss) (at + 1 + heads + size_items is) result)
  pub type : type_f ss f ≡ type_e (expression_of ds is ∷ ss) result
  pub last : Stands (entries_of l) (at + 1 + heads) (flat_items is ++ flat_e result)
  pub deep : deep_e result ≤ nesting - 1
  pub room : 4 * (top + (1 + (length ds + size_items is)) + length (flat_e result)) ≤ length env

pub bodied-of : (f : Form) → BodyForm f → {ss : List Scope} {seen l part : List ℕ} {nesting at : ℕ} {sizes env : List ℕ} {top : ℕ} (heads count : ℕ) → Counts part heads count
    → Ready f ss seen l part nesting at sizes env top → Bodied f ss seen l part heads count nesting at sizes env top
bodied-of (simple o es) h heads count c q = absurd h
bodied-of (guard g e is) h heads count c q = absurd h
bodied-of (counted a e f g s) h heads count c q = absurd h
bodied-of (blocked ds is) h heads count c q = absurd h
bodied-of (labelled a) h heads count c q = absurd h
bodied-of (bodied ds is e) h {l = l} {at = at} heads count c q =
    let d = head_of _ _ q.table q.stands in
    let w = stands-tail _ _ q.stands in
    let z = stands-within _ _ q.stands in
    let v : Stands (entries_of l) (at + 1) (map flat_decl ds ++ flat_items is) =
    stands-left (map flat_decl ds ++ flat_items is) (flat_e e) (rw (append_assoc (map flat_decl ds) (flat_items is) (flat_e e)) w) in
    record {
      ds = ds;
      is = is;
      result = e;
      block = record {
        table = q.table;
        many = c.0 ∙ d.a;
        parts = c.1 ∙ d.b (count_items is) refl;
        stands = v;
        deep = omega (arith, q.deep);
        room = omega (arith, q.room, length-append (map flat_decl ds) (flat_items is ++ flat_e e), length-append (flat_items is) (flat_e e), length-map flat_decl ds, length-Items is);
        within = omega (arith, z, length-entries (length l / 8) l, length-append (map flat_decl ds) (flat_items is ++ flat_e e), length-map flat_decl ds);
      };
      entered = entered-expression q.table.legible (at + 1) ds is v q.sees;
      faults = rw (c.0 ∙ d.a, add-one at);
      type = refl;
      last = rw (c.0 ∙ d.a) (rw (length-map flat_decl ds) at (stands-right (map flat_decl ds) (flat_items is ++ flat_e e) w));
      deep = omega (arith, q.deep);
      room = omega (arith, q.room, length-append (map flat_decl ds) (flat_items is ++ flat_e e), length-append (flat_items is) (flat_e e), length-map flat_decl ds, length-Items is);
    }

-- ── asked and answered ──
items-size : {f : Form} {ss : List Scope} {seen l part : List ℕ} {heads count nesting at : ℕ} {sizes env : List ℕ} {top : ℕ}
    (b : Bodied f ss seen l part heads count nesting at sizes env top) → span count (drop (at + 1 + heads) (entries_of l)) ≡ size_items b.is
items-size {l = l} {heads = heads} {at = at} b =
    ap (λ (n : ℕ). span n (drop (at + 1 + heads) (entries_of l))) b.block.parts
    ∙ ap (λ (us : List Entry). span (count_items b.is) us) (b.last.split ∙ append_assoc (flat_items b.is) (flat_e b.result) b.last.rest)
    ∙ (spans-Items b.is).spans (flat_e b.result ++ b.last.rest) ∙ length-Items b.is

body-room : {f : Form} {ss inner : List Scope} {seen names l part : List ℕ} {heads count nesting at : ℕ} {sizes env : List ℕ} {top : ℕ}
    (b : Bodied f ss seen l part heads count nesting at sizes env top)
    {rest mid : List ℕ} (late : List ℕ) {place up n : ℕ} → ReadyItems b.is inner names l rest count n place sizes mid up
    → room_f (form_e b.result) ≤ length (flat_f (form_e b.result)) → length (flat_e b.result) ≡ length (flat_f (form_e b.result))
    → length late ≡ length mid → length mid ≡ length env → up ≤ top + (1 + length (block_items l (at + 1) heads count)) → 4 * (up + room_f (form_e b.result)) ≤ length late
body-room b late i h e j k m = let w = block-most b.block in omega (arith, b.room, w, labels-bulk b.is)

-- the faults of its head and its items
abbrev inner_faults : List Scope → List Decl → Items → ℕ → ℕ → List Refusal
inner_faults ss ds is at heads = faults_head ss [] (at + 1) ds ++ faults_items ss (names_head ds) (at + 1 + heads) is

body-says : (r : Verdict) {f : Form} {ss : List Scope} {seen l part : List ℕ} {heads count nesting at : ℕ} {sizes env : List ℕ} {top : ℕ}
    (b : Bodied f ss seen l part heads count nesting at sizes env top)
    → Says r (inner_faults (expression_of b.ds b.is ∷ ss) b.ds b.is at heads
    ++ faults_e (expression_of b.ds b.is ∷ ss) (at + 1 + heads + size_items b.is) b.result)
    → Says r (faults_f ss seen at f)
body-says r {ss = ss} {heads = heads} {at = at} b h =
    let inner = expression_of b.ds b.is ∷ ss in
    rw b.faults (rw (append_assoc (faults_head inner [] (at + 1) b.ds) (faults_items inner (names_head b.ds) (at + 1 + heads) b.is)
    (faults_e inner (at + 1 + heads + size_items b.is) b.result)) at h)

module _ {l part : List ℕ} {nesting at : ℕ} {sizes old : List ℕ} {top : ℕ} (heads count : ℕ) (c : Counts part heads count) where
  pub body-asks : Asks BodyForm l part nesting at sizes old top → EnterAsks l sizes old (at + 1) heads count top
  body-asks q = enter-asks (bodied-of q.form q.holds heads count c q.ready).block

  module _ {mid : List ℕ} {up : ℕ} (g : Pushed shut l at heads count top old mid up) where
    pub body-contents : Asks BodyForm l part nesting at sizes old top → AsksContents l part heads count (nesting - 1) at sizes mid up
    body-contents q = let b = bodied-of q.form q.holds heads count c q.ready in block-inner b.block shut g b.entered q.ready.stands

    module _ {late : List ℕ} {s : Verdict} (z : AnswersContents l part heads count (nesting - 1) at sizes mid late up s) where
      says-inner : {f : Form} {ss : List Scope} {seen : List ℕ} (b : Bodied f ss seen l part heads count nesting at sizes old top)
          → Says s (inner_faults (expression_of b.ds b.is ∷ ss) b.ds b.is at heads)
      says-inner b = block-says b.block shut g b.entered z

      pub body-stop : (bad : Fault) → s ≡ Err bad → Typed BodyForm l part nesting at sizes old late top (Err bad)
      body-stop bad w =
          record {
            kept = fewer late mid top up g.least z.kept ∙ g.kept;
            same = z.same ∙ g.same;
            judged = λ f ss seen h q.
                let b = bodied-of f h heads count c q in
                record { says = body-says (Err bad) b (says_first s bad _ _ w (says-inner b)); types = tt };
          }

      module _ (u n : ℕ) (w : s ≡ Ok u) (k : n ≡ span count (drop (at + 1 + heads) (entries_of l))) where
        size-items : (f : Form) (h : BodyForm f) {ss : List Scope} {seen : List ℕ} (q : Ready f ss seen l part nesting at sizes old top) → n ≡ size_items (bodied-of f h heads count c q).is
        size-items f h q = let b = bodied-of f h heads count c q in
            k ∙ items-size b

        ready-result : (f : Form) (h : BodyForm f) (ss : List Scope) (seen : List ℕ) (q : Ready f ss seen l part nesting at sizes old top)
            → Ready (form_e (bodied-of f h heads count c q).result) (expression_of (bodied-of f h heads count c q).ds
            (bodied-of f h heads count c q).is ∷ ss) [] l (below part (8 * (1 + heads + n))) (nesting - 1) (at + 1 + heads + n) sizes late up
        ready-result f h ss seen q =
            let b = bodied-of f h heads count c q in
            let i = block-items b.block shut g b.entered in
            let x = size-items f h q in
            let a : at + (1 + heads + n) ≡ at + 1 + heads + n = omega arith in
            record {
              table = rw (← a) (table-next b.block.table (8 * (1 + heads + n)) (1 + heads + n) refl);
              valid = valid-E b.result;
              stands = rw (flat-E b.result) at (rw (length-Items b.is, ← x) at (stands-right (flat_items b.is) (flat_e b.result) b.last));
              deep = omega (arith, b.deep, deep-E b.result);
              room = body-room b late i (room-le (form_e b.result)) (ap length (flat-E b.result)) z.same g.same g.most;
              sees = rw z.kept i.sees;
              once = once-E (env_of late up) [] (at + 1 + heads + n) (form_e b.result) (form-expr b.result);
            }

        pub body-result : Asks BodyForm l part nesting at sizes old top → Asks ExprForm l (below part (8 * (1 + heads + n))) (nesting - 1) (at + 1 + heads + n) sizes late up
        body-result q =
            record {
              form = form_e (bodied-of q.form q.holds heads count c q.ready).result;
              scopes = _;
              seen = [];
              holds = form-expr (bodied-of q.form q.holds heads count c q.ready).result;
              ready =
                  ready-result q.form q.holds q.scopes q.seen q.ready;
            }

        pub body-fits : Asks BodyForm l part nesting at sizes old top → (8 * (1 + heads + n) ≤ length part) × (at + 1 + heads + n ≤ 2048)
        body-fits q =
            let v = ready-result q.form q.holds q.scopes q.seen q.ready in
            let d = head_of _ _ q.ready.table q.ready.stands in
            let x = head_of _ _ v.table v.stands in
            (omega (arith, d.long, x.within), omega (arith, x.within, q.ready.table.legible.short))

        pub body-judged : {new : List ℕ} {v : Verdict} → Typed ExprForm l (below part (8 * (1 + heads + n))) (nesting - 1)
            (at + 1 + heads + n) sizes late new up v → Typed BodyForm l part nesting at sizes old new top v
        body-judged {new} {v} x =
            record {
              kept = fewer new late top up g.least x.kept ∙ fewer late mid top up g.least z.kept ∙ g.kept;
              same = x.same ∙ z.same ∙ g.same;
              judged = λ f ss seen h q.
                  let b = bodied-of f h heads count c q in
                  let d = x.judged (form_e b.result) (expression_of b.ds b.is ∷ ss) [] (form-expr b.result) (ready-result f h ss seen q) in
                  let m = size-items f h q in
                  record {
                    says = body-says v b (says_then s v u _ _ w (says-inner b)
                        (rw (← m, faults-E (expression_of b.ds b.is ∷ ss) [] (at + 1 + heads + n) b.result) d.says));
                    types = rw (b.type, type-E (expression_of b.ds b.is ∷ ss) b.result) d.types;
                  };
            }
