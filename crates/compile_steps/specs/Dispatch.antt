-- What the walkers ask and answer of entries that they pass on by their kind, and of those that have no statements below them.
use Rattle.std.specs.Prelude.{◌≡◌, refl, List, ℕ, ◌+◌, ◌-◌, ◌*◌, ◌≤◌, ◌<◌, length, get_or, take, set}
use Rattle.std.proofs.Common.{sym, ◌∙◌, arith, length-set, take_all}
use Rattle.std.proofs.lemmas.List.{take-set-le}
use Rattle.words.specs.Numbers.{half_at, word_at}
use Rattle.language.specs.Tree.{goto}
use Rattle.table_scopes.specs.Environment.{env_of}
use Rattle.compile_output.specs.declared.Cursor.{Cursor}
use Rattle.compile_output.specs.EmitRecord.{Fits, moved, cursor_shaped, emit_shape}
use Rattle.compile_symbols.specs.Meaning.{meaning_of}
use Rattle.compile_emit.specs.EmitEntry.{known_for, emit_leaf, leaf_type, operands_by, emit_last, last_type, cursor_goto, emit_goto}
use Rattle.compile_nodes.specs.Knows.{Walk, passed_to}
use Rattle.compile_nodes.specs.Ready.{Node, stmt, name, kind_n, Place, Lent, Ready, Done, Asks, Answers, ReadyEs, DoneEs, AsksEs, AnswersEs}
use Rattle.compile_steps.specs.Parts.{below, lent, asked, head-N, kept_then, kept-stack}
use Rattle.compile_steps.specs.Shared.{Shaping, ready-as, done-as, kept-done}
use Rattle.compile_steps.specs.Views.{IsKind, IsLeaf, IsSimple, label_of, goto-of}
use Rattle.compile_steps.specs.Leaves.{leaf-fits, leaf-done, label-fits, label_small, label-done, goto-fits, goto-end, goto-done}
use Rattle.compile_steps.specs.Simples.{ops_of, simple-operands, simple-fits, simple-small, simple-done}

-- ── the same entry, as another walker names it ──
kind-here : {n : Node} {W : Walk} {X : Place} {l part : List ℕ} {nesting at : ℕ} {sizes : List ℕ} {L : Lent} {top holds depth : ℕ} {cursor : Cursor}
    → Ready n W X l part nesting at sizes L top holds depth cursor → kind_n n ≡ half_at part 0
kind-here {n} r = sym (head-N n r.table r.laid.stands).kind

module _ {P Q : Node → Type 0} {known aims l part : List ℕ} {nesting at : ℕ} {sizes : List ℕ} {L : Lent} {top holds depth : ℕ} {cursor : Cursor}
    (to : (n : Node) → P n → kind_n n ≡ half_at part 0 → Q n) where
  pub ask-as : Asks P known aims l part nesting at sizes L top holds depth cursor → Asks Q known aims l part nesting at sizes L top holds depth cursor
  ask-as a =
      record { node = a.node; walk = a.walk; place = a.place; such = to a.node a.such (kind-here a.ready); same_known = a.same_known; same-aims = a.same-aims; ready = a.ready }

  pub answer-as : {M : Lent} {r : Cursor} → Answers Q known aims l part nesting at sizes L M top holds depth cursor r → Answers P known aims l part nesting at sizes L M top holds depth cursor r
  answer-as b = record { kept = b.kept; done = λ n W X h x y g. b.done n W X (to n h (kind-here g)) x y g }

-- a part that is built anew is the part
whole : (part : List ℕ) → below part 0 ≡ part
whole part = take_all (length part - 0) part (omega arith)

module _ {Q : Node → Type 0} {known aims l : List ℕ} (part : List ℕ) {nesting at : ℕ} {sizes : List ℕ} {L : Lent} {top holds depth : ℕ} {cursor : Cursor} where
  pub asks-anew : Asks Q known aims l part nesting at sizes L top holds depth cursor → Asks Q known aims l (below part 0) nesting at sizes L top holds depth cursor
  asks-anew a = rw (whole part) a

  pub answers-anew : {M : Lent} {r : Cursor} → Answers Q known aims l (below part 0) nesting at sizes L M top holds depth cursor r
      → Answers Q known aims l part nesting at sizes L M top holds depth cursor r
  answers-anew b = rw (← whole part) b

-- ── an expression with nothing below it ──
module _ {known aims l part : List ℕ} {nesting at : ℕ} {sizes : List ℕ} {L : Lent} {top holds depth : ℕ} {cursor : Cursor}
    (a : Asks IsLeaf known aims l part nesting at sizes L top holds depth cursor) where
  pub asks-leaf : Fits (moved cursor) (length L.out)
  asks-leaf = leaf-fits a.node a.such a.ready

  pub asks-leaf-finish : {q : Cursor} → q ≡ moved cursor → (at < length L.ends) × (q.address < 65536)
  asks-leaf-finish e = ((asked a).ending, rw e asks-leaf.address-small)

  module _ {kind c b k v : ℕ} (kd : kind ≡ half_at part 0) (ks : c ≡ half_at part 2) (kb : b ≡ word_at part 4) (kn : k ≡ known_for kind c (env_of L.env top) known) (ty : v ≡ leaf_type kind k)
      {q : Cursor} {out : List ℕ} (j : (q ≡ moved cursor) × (out ≡ emit_leaf kind b k cursor L.out)) {r : Cursor} {ends : List ℕ} (f : (r ≡ q) × (ends ≡ set L.ends at q.address)) where
    leaf-all : (n : Node) (W : Walk) (X : Place) → IsLeaf n → W.known ≡ known → Ready n W X l part nesting at sizes L top holds depth cursor
        → Done n W X at L (lent L.env ends (set L.stack depth v) out) depth cursor r
    leaf-all n W X h x g =
        rw f.0
        (leaf-done k v (kn ∙ rw (kd, ks, x)) (ty ∙ rw kd) (j.0, j.1 ∙ rw (kd, kb)) f.1 n h g)

    pub answers-leaf : Answers IsLeaf known aims l part nesting at sizes L (lent L.env ends (set L.stack depth v) out) top holds depth cursor r
    answers-leaf =
        record {
          kept =
              kept-done top depth (leaf-all a.node a.walk a.place a.such a.same_known a.ready) refl refl
              (take-set-le depth L.stack depth v (omega arith)) (length-set L.stack depth v);
          done = λ n W X h x y g. leaf-all n W X h x g;
        }

-- ── a label ──
module _ {known aims l part : List ℕ} {nesting at : ℕ} {sizes : List ℕ} {L : Lent} {top holds depth : ℕ} {cursor : Cursor}
    (a : Asks (IsKind 20) known aims l part nesting at sizes L top holds depth cursor) where
  label-ready : Ready (name (label_of a.node a.such).a) a.walk a.place l part nesting at sizes L top holds depth cursor
  label-ready = ready-as (label_of a.node a.such).same a.ready

  pub asks-label-shape : Shaping L.stack L.out holds depth cursor
  asks-label-shape = let q = asked a in (omega (arith, q.deep, q.stacked), omega (arith, q.deep), omega (arith, q.held), label-fits _ label-ready)

  module _ {q : Cursor} {out : List ℕ} (j : (q ≡ cursor_shaped depth cursor) × (out ≡ emit_shape cursor L.out holds depth (take depth L.stack))) where
    pub asks-label-finish : (at < length L.ends) × (q.address < 65536)
    asks-label-finish = ((asked a).ending, label_small _ label-ready j)

    module _ {r : Cursor} {ends : List ℕ} (f : (r ≡ q) × (ends ≡ set L.ends at q.address)) where
      label-all : {b : ℕ} {W : Walk} {X : Place} → Ready (name b) W X l part nesting at sizes L top holds depth cursor → Done (name b) W X at L (lent L.env ends L.stack out) depth cursor r
      label-all {b} h = rw f.0 (label-done b h j f.1)

      pub answers-label : Answers (IsKind 20) known aims l part nesting at sizes L (lent L.env ends L.stack out) top holds depth cursor r
      answers-label =
          record { kept = kept-done top depth (label-all label-ready) refl refl refl refl; done = λ n W X c x y g. let v = label_of n c in done-as v.same (label-all (ready-as v.same g)) }

-- ── a goto ──
module _ {known aims l part : List ℕ} {nesting at : ℕ} {sizes : List ℕ} {L : Lent} {top holds depth : ℕ} {cursor : Cursor}
    (a : Asks (IsKind 25) known aims l part nesting at sizes L top holds depth cursor) {c : ℕ} (cs : c ≡ half_at part 2) where
  goto-ready : Ready (stmt (goto (goto-of a.node a.such).a)) a.walk a.place l part nesting at sizes L top holds depth cursor
  goto-ready = ready-as (goto-of a.node a.such).same a.ready

  pub asks-goto : (4 * top ≤ length L.env) × (depth ≤ length L.stack) × (depth < 256) × (holds < 256) × Fits (cursor_goto (passed_to c (env_of L.env top)) depth cursor) (length L.out)
  asks-goto = let q = asked a in (q.room, omega (arith, q.deep, q.stacked), omega (arith, q.deep), omega (arith, q.held), rw cs (goto-fits _ goto-ready))

  module _ {q : Cursor} {out : List ℕ}
      (j : (q ≡ cursor_goto (passed_to c (env_of L.env top)) depth cursor) ×
      (out ≡ emit_goto (passed_to c (env_of L.env top)) (meaning_of c (env_of L.env top) aims) holds L.stack depth cursor L.out)) where
    goto-wrote : (W : Walk) → W.aims ≡ aims → (q ≡ cursor_goto (passed_to (half_at part 2) (env_of L.env top)) depth cursor)
        × (out ≡ emit_goto (passed_to (half_at part 2) (env_of L.env top)) (meaning_of (half_at part 2) (env_of L.env top) W.aims) holds L.stack depth cursor L.out)
    goto-wrote W y = (j.0 ∙ rw cs, j.1 ∙ rw (cs, y))

    pub asks-goto-finish : (at < length L.ends) × (q.address < 65536)
    asks-goto-finish = ((asked a).ending, goto-end _ goto-ready (goto-wrote a.walk a.same-aims))

    module _ {r : Cursor} {ends : List ℕ} (f : (r ≡ q) × (ends ≡ set L.ends at q.address)) where
      goto-all : {b : ℕ} {W : Walk} {X : Place} → W.aims ≡ aims → Ready (stmt (goto b)) W X l part nesting at sizes L top holds depth cursor
          → Done (stmt (goto b)) W X at L (lent L.env ends L.stack out) depth cursor r
      goto-all {b} {W} y h = rw f.0 (goto-done b h (goto-wrote W y) f.1)

      pub answers-goto : Answers (IsKind 25) known aims l part nesting at sizes L (lent L.env ends L.stack out) top holds depth cursor r
      answers-goto =
          record {
            kept = kept-done top depth (goto-all a.same-aims goto-ready) refl refl refl refl;
            done = λ n W X s x y g. let v = goto-of n s in done-as v.same (goto-all y (ready-as v.same g));
          }

-- ── an entry with expressions only below it ──
module _ {known aims l part : List ℕ} {nesting at : ℕ} {sizes : List ℕ} {L : Lent} {top holds depth : ℕ} {cursor : Cursor}
    (a : Asks IsSimple known aims l part nesting at sizes L top holds depth cursor) {kind c b count : ℕ}
    (kd : kind ≡ half_at part 0) (ks : c ≡ half_at part 2) (kb : b ≡ word_at part 4) (ct : count ≡ operands_by kind b) where
  simple-below : {n : Node} {W : Walk} {X : Place} → IsSimple n → Ready n W X l part nesting at sizes L top holds depth cursor
      → ReadyEs (ops_of n) W X l (below part 8) count (nesting - 1) (at + 1) sizes L top holds depth cursor
  simple-below {n} h g = simple-operands n h g count (ct ∙ rw (kd, kb))

  pub asks-simple-first : AsksEs known aims l (below part 8) count (nesting - 1) (at + 1) sizes L top holds depth cursor
  asks-simple-first = record { exprs = ops_of a.node; walk = a.walk; place = a.place; same_known = a.same_known; same-aims = a.same-aims; ready = simple-below a.such a.ready }

  module _ {M : Lent} {p : Cursor} (b₁ : AnswersEs known aims l (below part 8) count (nesting - 1) (at + 1) sizes L M top holds depth cursor p) where
    simple-one : {n : Node} {W : Walk} {X : Place} → IsSimple n → W.known ≡ known → W.aims ≡ aims
        → Ready n W X l part nesting at sizes L top holds depth cursor → DoneEs (ops_of n) W X (at + 1) L M depth cursor p
    simple-one {n} {W} {X} h x y g = b₁.done (ops_of n) W X x y (simple-below h g)

    pub asks-simple-room : 4 * top ≤ length M.env
    asks-simple-room = omega (arith, (asked a).room, b₁.kept.same-env)

    pub asks-simple-read : depth < length M.stack
    asks-simple-read = omega (arith, (asked a).deep, (asked a).stacked, b₁.kept.same-stack)

    module _ {k : ℕ} (kn : k ≡ known_for kind c (env_of M.env top) known) where
      simple-known : (W : Walk) → W.known ≡ known → k ≡ known_for (half_at part 0) (half_at part 2) (env_of L.env top) W.known
      simple-known W x = kn ∙ rw (kd, ks, x, b₁.kept.env)

      pub asks-simple-last : Fits (moved p) (length M.out)
      asks-simple-last = simple-fits k (simple-known a.walk a.same_known) a.node a.such a.ready b₁.kept (simple-one a.such a.same_known a.same-aims a.ready)

      module _ {q : Cursor} {out : List ℕ} (j : (q ≡ moved p) × (out ≡ emit_last kind c k p M.out)) where
        simple-emits : (q ≡ moved p) × (out ≡ emit_last (half_at part 0) (half_at part 2) k p M.out)
        simple-emits = (j.0, j.1 ∙ rw (kd, ks))

        pub asks-simple-finish : (at < length M.ends) × (q.address < 65536)
        asks-simple-finish = (
          omega (arith, (asked a).ending, b₁.kept.same_ends),
          simple-small k (simple-known a.walk a.same_known) a.node a.such a.ready b₁.kept (simple-one a.such a.same_known a.same-aims a.ready) simple-emits,
        )

        module _ {v : ℕ} (ty : v ≡ last_type kind c k (get_or M.stack depth 0)) {r : Cursor} {ends : List ℕ} (f : (r ≡ q) × (ends ≡ set M.ends at q.address)) where
          simple-all : (n : Node) (W : Walk) (X : Place) → IsSimple n → W.known ≡ known → W.aims ≡ aims → Ready n W X l part nesting at sizes L top holds depth cursor
              → Done n W X at L (lent M.env ends (set M.stack depth v) out) depth cursor r
          simple-all n W X h x y g = rw f.0 (simple-done k (simple-known W x) n h g b₁.kept (simple-one h x y g) simple-emits v (ty ∙ rw (kd, ks)) f.1)

          pub answers-simple : Answers IsSimple known aims l part nesting at sizes L (lent M.env ends (set M.stack depth v) out) top holds depth cursor r
          answers-simple =
              let kept = kept_then b₁.kept (kept-stack M depth v (omega arith)) in
              record {
                kept =
                    kept-done top depth (simple-all a.node a.walk a.place a.such a.same_known a.same-aims a.ready) kept.env
                    kept.same-env kept.stack kept.same-stack;
                done = λ n W X h x y g. simple-all n W X h x y g;
              }
