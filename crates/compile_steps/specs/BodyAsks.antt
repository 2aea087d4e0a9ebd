-- A block expression, for its walker: what each of its calls is asked, in their order, and that it has done its code when its items and its value have done theirs.
use Rattle.std.specs.Prelude.{◌≡◌, List, ℕ, ◌+◌, ◌-◌, ◌*◌, ◌/◌, ◌≤◌, ◌<◌, length, drop, set}
use Rattle.std.proofs.Common.{ap, ◌∙◌, arith, length-set}
use Rattle.words.specs.Numbers.{half_at, word_at}
use Rattle.language.specs.Tree.{Decl, Items, Expr, block_expr, count_items}
use Rattle.language.specs.Names.{expression_of}
use Rattle.language.specs.Measure.{measure_s}
use Rattle.table_scopes.specs.Environment.{shut}
use Rattle.language_laws.specs.Claims.{entries_of}
use Rattle.table_entries.specs.Spans.{span}
use Rattle.table_entries.specs.Sizes.{Known}
use Rattle.compile_code.specs.Code.{after}
use Rattle.compile_code.specs.Compile.{code_items}
use Rattle.compile_output.specs.declared.Cursor.{Cursor}
use Rattle.compile_output.specs.EmitRecord.{Fits}
use Rattle.compile_output.specs.EmitCode.{cursor_after, emitted, lets, length-emitted}
use Rattle.compile_emit.specs.declared.Opened.{Opened}
use Rattle.compile_emit.specs.Opens.{OpenAsks, OpenGives, Declared}
use Rattle.compile_nodes.specs.Ends.{at_head}
use Rattle.compile_nodes.specs.Knows.{Walk}
use Rattle.compile_nodes.specs.Ready.{expr, Place, Lent, Kept, Ready, Done, Asks, Answers, ReadyItems, DoneItems, AsksItems, AnswersItems}
use Rattle.compile_scopes.specs.Blocks.{around_value, around_items}
use Rattle.compile_steps.specs.Parts.{lent, below, asked, kept_then, kept_out, kept-ends}
use Rattle.compile_steps.specs.Views.{IsExpr, IsKind, Body, body_of}
use Rattle.compile_steps.specs.Shared.{ready-as, done-as}
use Rattle.compile_scopes.specs.HeadOps.{holds-open}
use Rattle.compile_steps.specs.Headed.{headed-within, headed-asks, headed-open, headed-kept}
use Rattle.compile_steps.specs.Bodies.{body-headed, body-heads, body-count, body-ready, body-passes, body-ready-2, body-fits, body-small, body-done}

-- where its items stand, and its value
abbrev in_items : List Decl → Items → Place → Place
in_items ds is X = record { around = around_items (expression_of ds is) ds is X.around X.start; types = X.types; start = at_head ds X.start }

abbrev in_value : List Decl → Items → Walk → Place → Place
in_value ds is W X =
    let q = at_head ds X.start in
    record {
      around = around_value (expression_of ds is) ds X.around X.start;
      types = X.types;
      start = after (code_items W.globals is (around_items (expression_of ds is) ds is X.around X.start) X.types q) q;
    }

module _ {known aims l part : List ℕ} {nesting at : ℕ} {sizes : List ℕ} {L : Lent} {top holds depth : ℕ} {cursor : Cursor}
    (a : Asks (IsKind 53) known aims l part nesting at sizes L top holds depth cursor)
    {heads count : ℕ} (ha : heads ≡ half_at part 2) (co : count ≡ word_at part 4) where
  v : Body a.node
  v = body_of a.node a.such

  ready : Ready (expr (block_expr v.ds v.is v.e)) a.walk a.place l part nesting at sizes L top holds depth cursor
  ready = ready-as v.same a.ready

  hs : {ds : List Decl} {is : Items} {e : Expr} {W : Walk} {X : Place} → Ready (expr (block_expr ds is e)) W X l part nesting at sizes L top holds depth cursor → heads ≡ length ds
  hs h = body-heads _ _ _ h heads ha

  cs : {ds : List Decl} {is : Items} {e : Expr} {W : Walk} {X : Place} → Ready (expr (block_expr ds is e)) W X l part nesting at sizes L top holds depth cursor → count ≡ count_items is
  cs h = body-count _ _ _ h count co

  pub asks-body-within : (8 * (1 + heads) ≤ length part) × (at + 1 + heads ≤ 2048)
  asks-body-within = headed-within ready (body-headed _ _ _ ready) (hs ready) (cs ready)

  pub asks-body-open : OpenAsks l (below part 8) (at + 1) heads count sizes L.env top L.ends L.out cursor
  asks-body-open = headed-asks ready (body-headed _ _ _ ready) (hs ready) (cs ready)

  -- before the entries of the items are counted
  pub asks-body-spanned : Known l sizes × (at + 1 + heads ≤ length l / 8)
  asks-body-spanned = (ready.table.known, omega (arith, asks-body-open.within))

  module _ {r : Opened} {new ends out : List ℕ}
      (o : OpenGives shut l (below part 8) (at + 1) heads count L.env top known L.ends L.out cursor r new ends out) where
    pub asks-body-few : holds + r.holds ≤ 16
    unfolding measure_s
    asks-body-few = omega (arith, ready.few-holds, headed-open ready (body-headed _ _ _ ready) (hs ready) (cs ready) o.opens, holds-open v.ds)

    -- the walk knows the same of the head's entries
    declared : (W : Walk) → W.known ≡ known → Declared (below part 8) W.known (at + 1) heads L.ends L.out cursor r.cursor ends out
    declared W x = rw x o.declared

    items-ready : {ds : List Decl} {is : Items} {e : Expr} {W : Walk} {X : Place} → W.known ≡ known → (h : Ready (expr (block_expr ds is e)) W X l part nesting at sizes L top holds depth cursor)
        → ReadyItems is W (in_items ds is X) l (below part (8 * (1 + heads))) count (nesting - 1) (at + 1 + heads) sizes (lent new ends L.stack out) r.top (holds + r.holds) depth r.cursor
    items-ready {ds} {is} {e} {W} x h = body-ready ds is e h (hs h) (cs h) o.opens o.pushed (declared W x)

    pub asks-body-items : AsksItems known aims l (below part (8 * (1 + heads))) count (nesting - 1) (at + 1 + heads) sizes (lent new ends L.stack out) r.top (holds + r.holds) depth r.cursor
    asks-body-items = record { items = v.is; walk = a.walk; place = _; same_known = a.same_known; same-aims = a.same-aims; ready = items-ready a.same_known ready }

    module _ {N : Lent} {q : Cursor}
        (b₁ : AnswersItems known aims l (below part (8 * (1 + heads))) count (nesting - 1) (at + 1 + heads) sizes (lent new ends L.stack out) N r.top (holds + r.holds) depth r.cursor q)
        {n : ℕ} (size : n ≡ span count (drop (at + 1 + heads) (entries_of l))) where
      items-done : {ds : List Decl} {is : Items} {e : Expr} {W : Walk} {X : Place} → W.known ≡ known → W.aims ≡ aims
          → (h : Ready (expr (block_expr ds is e)) W X l part nesting at sizes L top holds depth cursor)
          → DoneItems is W (in_items ds is X) (at + 1 + heads) (lent new ends L.stack out) N depth r.cursor q
      items-done {ds} {is} {e} {W} {X} x y h = b₁.done is W (in_items ds is X) x y (items-ready x h)

      pub asks-body-passes : (8 * (1 + heads + n) ≤ length part) × (at + 1 + heads + n ≤ 2048)
      asks-body-passes =
          body-passes _ _ _ ready (hs ready) (cs ready) o.opens o.pushed (declared a.walk a.same_known) b₁.kept (items-done a.same_known a.same-aims ready) size

      value-ready : {ds : List Decl} {is : Items} {e : Expr} {W : Walk} {X : Place} → W.known ≡ known → W.aims ≡ aims
          → (h : Ready (expr (block_expr ds is e)) W X l part nesting at sizes L top holds depth cursor)
          → Ready (expr e) W (in_value ds is W X) l (below part (8 * (1 + heads + n))) (nesting - 1) (at + 1 + heads + n) sizes N r.top (holds + r.holds) depth q
      value-ready {ds} {is} {e} {W} x y h = body-ready-2 ds is e h (hs h) (cs h) o.opens o.pushed (declared W x) b₁.kept (items-done x y h) size

      pub asks-body-value : Asks IsExpr known aims l (below part (8 * (1 + heads + n))) (nesting - 1) (at + 1 + heads + n) sizes N r.top (holds + r.holds) depth q
      asks-body-value =
          record {
            node = expr v.e;
            walk = a.walk;
            place = _;
            such = tt;
            same_known = a.same_known;
            same-aims = a.same-aims;
            ready = value-ready a.same_known a.same-aims ready;
          }

      module _ {O : Lent} {t : Cursor}
          (b₂ : Answers IsExpr known aims l (below part (8 * (1 + heads + n))) (nesting - 1) (at + 1 + heads + n) sizes N O r.top (holds + r.holds) depth q t) where
        value-done : {ds : List Decl} {is : Items} {e : Expr} {W : Walk} {X : Place} → W.known ≡ known → W.aims ≡ aims
            → (h : Ready (expr (block_expr ds is e)) W X l part nesting at sizes L top holds depth cursor)
            → Done (expr e) W (in_value ds is W X) (at + 1 + heads + n) N O depth q t
        value-done {ds} {is} {e} {W} {X} x y h = b₂.done (expr e) W (in_value ds is W X) tt x y (value-ready x y h)

        kept-value : Kept L O top depth
        kept-value =
            let k = b₂.kept in
            let m : Kept (lent new ends L.stack out) O r.top depth = kept_then b₁.kept k in
            headed-kept ready (body-headed _ _ _ ready) (hs ready) (cs ready) o.opens o.pushed (declared a.walk a.same_known) m

        pub asks-body-releases : Fits (cursor_after (lets r.holds) t) (length O.out)
        asks-body-releases =
            let x = a.same_known in let y = a.same-aims in
            body-fits _ _ _ ready (hs ready) (cs ready) o.opens o.pushed (declared a.walk x) b₁.kept (items-done x y ready) size (value-done x y ready)

        module _ {late : List ℕ} {u : Cursor} (j : (u ≡ cursor_after (lets r.holds) t) × (late ≡ emitted (lets r.holds) t O.out)) where
          pub asks-body-finish : (at < length O.ends) × (u.address < 65536)
          asks-body-finish =
              let x = a.same_known in let y = a.same-aims in (
                omega (arith, (asked a).ending, kept-value.same_ends),
                body-small _ _ _ ready (hs ready) (cs ready) o.opens o.pushed (declared a.walk x) b₁.kept (items-done x y ready) size (value-done x y ready) j,
              )

          pub answers-body : {e : Cursor} {last : List ℕ} → (e ≡ u) × (last ≡ set O.ends at u.address)
              → Answers (IsKind 53) known aims l part nesting at sizes L (lent O.env last O.stack late) top holds depth cursor e
          answers-body {e} {last} f =
              record {
                kept = kept_then kept-value (kept_then (kept_out O late (ap (length {A = ℕ}) j.1 ∙ length-emitted (lets r.holds) t O.out))
                    (kept-ends (lent O.env O.ends O.stack late) last (ap (length {A = ℕ}) f.1 ∙ length-set O.ends at u.address)));
                done = λ m W X is x y h. let s = body_of m is in let i = ready-as s.same h in
                    done-as s.same (rw f.0 (body-done s.ds s.is s.e i (hs i) (cs i) o.opens o.pushed (declared W x) b₁.kept
                    (items-done x y i) size (value-done x y i) j f.1));
              }
