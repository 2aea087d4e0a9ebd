-- A block, for its walker: what each of its calls is asked, in their order, and that it has done its code when its items have done theirs.
use Rattle.std.specs.Prelude.{◌≡◌, List, ℕ, ◌+◌, ◌-◌, ◌*◌, ◌≤◌, ◌<◌, length, set}
use Rattle.std.proofs.Common.{ap, ◌∙◌, arith, length-set}
use Rattle.words.specs.Numbers.{half_at, word_at}
use Rattle.language.specs.Tree.{Decl, Items, block, count_items}
use Rattle.language.specs.Names.{block_of}
use Rattle.language.specs.Measure.{measure_s}
use Rattle.table_scopes.specs.Environment.{opened}
use Rattle.compile_output.specs.declared.Cursor.{Cursor}
use Rattle.compile_output.specs.EmitRecord.{Fits}
use Rattle.compile_output.specs.EmitCode.{cursor_after, emitted, lets, length-emitted}
use Rattle.compile_emit.specs.declared.Opened.{Opened}
use Rattle.compile_emit.specs.Opens.{OpenAsks, OpenGives, Declared}
use Rattle.compile_nodes.specs.Ends.{at_head}
use Rattle.compile_nodes.specs.Knows.{Walk}
use Rattle.compile_nodes.specs.Ready.{stmt, Place, Lent, Kept, Ready, Asks, Answers, ReadyItems, DoneItems, AsksItems, AnswersItems}
use Rattle.compile_scopes.specs.Blocks.{around_items}
use Rattle.compile_steps.specs.Parts.{lent, below, asked, kept_then, kept_out, kept-ends}
use Rattle.compile_steps.specs.Views.{IsKind, Block, block-of}
use Rattle.compile_steps.specs.Shared.{ready-as, done-as}
use Rattle.compile_scopes.specs.HeadOps.{holds-open}
use Rattle.compile_steps.specs.Headed.{headed-within, headed-asks, headed-open, headed-kept}
use Rattle.compile_steps.specs.Blocks.{block-headed, block-heads, block-count, block-ready, block-fits, block-small, block-done}

-- where its items stand
abbrev in_block : List Decl → Items → Place → Place
in_block ds is X = record { around = around_items (block_of ds is) ds is X.around X.start; types = X.types; start = at_head ds X.start }

module _ {known aims l part : List ℕ} {nesting at : ℕ} {sizes : List ℕ} {L : Lent} {top holds depth : ℕ} {cursor : Cursor}
    (a : Asks (IsKind 1) known aims l part nesting at sizes L top holds depth cursor)
    {heads count : ℕ} (ha : heads ≡ half_at part 2) (co : count ≡ word_at part 4) where
  v : Block a.node
  v = block-of a.node a.such

  ready : Ready (stmt (block v.ds v.is)) a.walk a.place l part nesting at sizes L top holds depth cursor
  ready = ready-as v.same a.ready

  hs : {ds : List Decl} {is : Items} {W : Walk} {X : Place} → Ready (stmt (block ds is)) W X l part nesting at sizes L top holds depth cursor → heads ≡ length ds
  hs h = block-heads _ _ h heads ha

  cs : {ds : List Decl} {is : Items} {W : Walk} {X : Place} → Ready (stmt (block ds is)) W X l part nesting at sizes L top holds depth cursor → count ≡ count_items is
  cs h = block-count _ _ h count co

  pub asks-block-within : (8 * (1 + heads) ≤ length part) × (at + 1 + heads ≤ 2048)
  asks-block-within = headed-within ready (block-headed _ _ ready) (hs ready) (cs ready)

  pub asks-block-open : OpenAsks l (below part 8) (at + 1) heads count sizes L.env top L.ends L.out cursor
  asks-block-open = headed-asks ready (block-headed _ _ ready) (hs ready) (cs ready)

  module _ {r : Opened} {new ends out : List ℕ}
      (o : OpenGives opened l (below part 8) (at + 1) heads count L.env top known L.ends L.out cursor r new ends out) where
    pub asks-block-few : holds + r.holds ≤ 16
    unfolding measure_s
    asks-block-few = omega (arith, ready.few-holds, headed-open ready (block-headed _ _ ready) (hs ready) (cs ready) o.opens, holds-open v.ds)

    -- the walk knows the same of the head's entries
    declared : (W : Walk) → W.known ≡ known → Declared (below part 8) W.known (at + 1) heads L.ends L.out cursor r.cursor ends out
    declared W x = rw x o.declared

    items-ready : {ds : List Decl} {is : Items} {W : Walk} {X : Place} → W.known ≡ known → (h : Ready (stmt (block ds is)) W X l part nesting at sizes L top holds depth cursor)
        → ReadyItems is W (in_block ds is X) l (below part (8 * (1 + heads))) count (nesting - 1) (at + 1 + heads) sizes (lent new ends L.stack out) r.top (holds + r.holds) depth r.cursor
    items-ready {ds} {is} {W} x h = block-ready ds is h (hs h) (cs h) o.opens o.pushed (declared W x)

    pub asks-block-items : AsksItems known aims l (below part (8 * (1 + heads))) count (nesting - 1) (at + 1 + heads) sizes (lent new ends L.stack out) r.top (holds + r.holds) depth r.cursor
    asks-block-items = record { items = v.is; walk = a.walk; place = _; same_known = a.same_known; same-aims = a.same-aims; ready = items-ready a.same_known ready }

    module _ {N : Lent} {q : Cursor}
        (b : AnswersItems known aims l (below part (8 * (1 + heads))) count (nesting - 1) (at + 1 + heads) sizes (lent new ends L.stack out) N r.top (holds + r.holds) depth r.cursor q) where
      items-done : {ds : List Decl} {is : Items} {W : Walk} {X : Place} → W.known ≡ known → W.aims ≡ aims → (h : Ready (stmt (block ds is)) W X l part nesting at sizes L top holds depth cursor)
          → DoneItems is W (in_block ds is X) (at + 1 + heads) (lent new ends L.stack out) N depth r.cursor q
      items-done {ds} {is} {W} {X} x y h = b.done is W (in_block ds is X) x y (items-ready x h)

      kept-items : Kept L N top depth
      kept-items = headed-kept ready (block-headed _ _ ready) (hs ready) (cs ready) o.opens o.pushed (declared a.walk a.same_known) b.kept

      pub asks-block-releases : Fits (cursor_after (lets r.holds) q) (length N.out)
      asks-block-releases = block-fits _ _ ready (hs ready) (cs ready) o.opens o.pushed (declared a.walk a.same_known) (items-done a.same_known a.same-aims ready)

      module _ {late : List ℕ} {u : Cursor} (j : (u ≡ cursor_after (lets r.holds) q) × (late ≡ emitted (lets r.holds) q N.out)) where
        pub asks-block-finish : (at < length N.ends) × (u.address < 65536)
        asks-block-finish = (
          omega (arith, (asked a).ending, kept-items.same_ends),
          block-small _ _ ready (hs ready) (cs ready) o.opens o.pushed (declared a.walk a.same_known) (items-done a.same_known a.same-aims ready) j,
        )

        pub answers-block : {e : Cursor} {last : List ℕ} → (e ≡ u) × (last ≡ set N.ends at u.address)
            → Answers (IsKind 1) known aims l part nesting at sizes L (lent N.env last N.stack late) top holds depth cursor e
        answers-block {e} {last} f =
            record {
              kept = kept_then kept-items (kept_then (kept_out N late (ap (length {A = ℕ}) j.1 ∙ length-emitted (lets r.holds) q N.out))
                  (kept-ends (lent N.env N.ends N.stack late) last (ap (length {A = ℕ}) f.1 ∙ length-set N.ends at u.address)));
              done = λ m W X is x y h. let s = block-of m is in let t = ready-as s.same h in
                  done-as s.same (rw f.0 (block-done s.ds s.is t (hs t) (cs t) o.opens o.pushed (declared W x) (items-done x y t) j f.1));
            }
