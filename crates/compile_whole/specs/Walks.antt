-- The root's body, and one walk of the whole table from a cursor.
use Rattle.std.specs.Prelude.{◌≡◌, false, ℕ, ◌-◌, ◌*◌, ◌/◌, ◌≤◌, ◌<◌, length, drop}
use Rattle.std.proofs.Math.Path.{refl, ap, sym}
use Rattle.std.proofs.Common.{◌∙◌, arith, length-drop, length-set, take_all}
use Rattle.std.proofs.Math.Bool.{true}
use mathlib.Core.List.{List, [], ◌∷◌, append-nil}
use Rattle.std.proofs.Math.ListN.{set}
use Rattle.std.proofs.Math.Seq.{sets}
use Rattle.language.specs.Program.{flatten}
use Rattle.words.specs.Numbers.{word_at}
use Rattle.language.specs.Tree.{count_items, locals}
use Rattle.language.specs.Limits.{head_holds}
use Rattle.language_laws.specs.Claims.{entries_of}
use Rattle.table_entries.specs.Stands.{Stands}
use Rattle.table_forms.specs.Part.{head_of, below}
use Rattle.bytecode.specs.Instructions.{end}
use Rattle.compile_code.specs.Code.{op, at}
use Rattle.compile_code.specs.Compile.{procs_of}
use Rattle.compile_code.specs.Encode.{record_of, code_root, proc_parts, parts}
use Rattle.compile_output.specs.declared.Cursor.{Cursor}
use Rattle.compile_output.specs.EmitRecord.{moved, emit_op, Fits, length-emit}
use Rattle.compile_output.specs.EmitCode.{lets, cursor_after, emitted, emitted-op, grows, later-moved, fits-before, address-after, length-emitted, within}
use Rattle.compile_bytes.specs.Bytes.{cursor_all, emitted_all, codes_of}
use Rattle.compile_bytes.specs.Room.{fits-first, fits-within, all-within, emitted-all-within}
use Rattle.compile_nodes.specs.Knows.{Lies}
use Rattle.compile_nodes.specs.Ready.{Lent, Kept, ReadyItems, DoneItems, AsksItems, AnswersItems}
use Rattle.compile_symbols.specs.Tabled.{the_tree, Headed}
use Rattle.compile_scopes.specs.Sight.{after_head, start_of_items, around_root}
use Rattle.compile_scopes.specs.HeadOps.{head-address}
use Rattle.compile_whole.specs.Heads.{root_head, root_items, root_lets, root-cursor, root-emitted}
use Rattle.compile_whole.specs.Ends.{items_ends, root_end, ended_root, ended_procs, ended, Aims}
use Rattle.compile_whole.specs.Stage.{Stage, walk_of, lent_of, items-fit, ready-items}
use Rattle.compile_whole.specs.Loop.{AsksProcs, AnswersProcs, kept_then, cursor_procs, emit_procs}

-- ── the root ──
pub record AsksRoot (l : List ℕ) (count behind : ℕ) (sizes : List ℕ) (L : Lent) (top : ℕ) (known aims : List ℕ) (cursor : Cursor) : Type 0 where
  pub stage : Stage (the_tree l) l sizes L.env top known
  pub counted : count ≡ length (the_tree l).head
  pub placed : behind ≡ after_head (the_tree l)
  pub aimed : cursor.dry ≡ false → Lies aims (after_head (the_tree l)) (items_ends (the_tree l))
  pub ending : length l / 8 ≤ length L.ends
  pub stacked : 32 ≤ length L.stack
  pub first : cursor.address ≡ 0
  pub outer : cursor.inside ≡ false
  pub fits : Fits (cursor_after (code_root (the_tree l)) cursor) (length L.out)

pub record AnswersRoot (l : List ℕ) (L M : Lent) (top : ℕ) (cursor r : Cursor) : Type 0 where
  pub kept : Kept L M top 0
  pub advanced : r ≡ cursor_after (code_root (the_tree l)) cursor
  pub written : M.out ≡ emitted (code_root (the_tree l)) cursor L.out
  pub ended : M.ends ≡ ended_root (the_tree l) L.ends

module _ {l : List ℕ} {count behind : ℕ} {sizes : List ℕ} {L : Lent} {top : ℕ} {known aims : List ℕ} {cursor : Cursor} (q : AsksRoot l count behind sizes L top known aims cursor) where
  root_stands : Stands (entries_of l) 0 (flatten (the_tree l))
  root_stands = record { rest = []; split = q.stage.prepared.tabled.same ∙ sym (append-nil (flatten (the_tree l))) }

  pub root-long : (8 ≤ length l) × (word_at l 4 ≡ count_items (the_tree l).items)
  unfolding flatten
  root-long =
      let t = q.stage.prepared.tabled in
      let d = head_of _ _ (record { whole = refl; legible = t.legible; known = t.known }) root_stands in
      (omega (arith, d.within), d.b (count_items (the_tree l).items) refl)

  pub root-place : (8 * behind ≤ length l) × (behind ≤ 2048)
  root-place = let e = items-fit q.stage in (omega (arith, q.placed, e), omega (arith, q.placed, e, q.stage.prepared.tabled.legible.short))

  pub root-headed : Headed l sizes count
  root-headed = record { tabled = q.stage.prepared.tabled; counted = q.counted }

  -- the whole fits, and so does each part of it
  root-fits : Fits (moved (cursor_after (root_lets (the_tree l)) (cursor_after (root_items (the_tree l)) (cursor_after (root_head (the_tree l)) cursor)))) (length L.out)
  root-fits = rw (root-cursor (the_tree l) cursor) at q.fits

  lets-fits : Fits (cursor_after (root_lets (the_tree l)) (cursor_after (root_items (the_tree l)) (cursor_after (root_head (the_tree l)) cursor))) (length L.out)
  lets-fits = fits-before (length L.out) (later-moved _) root-fits

  items-fits : Fits (cursor_after (root_items (the_tree l)) (cursor_after (root_head (the_tree l)) cursor)) (length L.out)
  items-fits = fits-before (length L.out) (grows (root_lets (the_tree l)) _) lets-fits

  pub head-fits : Fits (cursor_after (root_head (the_tree l)) cursor) (length L.out)
  head-fits = fits-before (length L.out) (grows (root_items (the_tree l)) _) items-fits

  -- ── its items ──
  module _ (items held : ℕ) (i : items ≡ word_at l 4) (o : held ≡ head_holds (locals (the_tree l).head)) {p : Cursor} {out : List ℕ}
      (h : (p ≡ cursor_after (root_head (the_tree l)) cursor) × (out ≡ emitted (root_head (the_tree l)) cursor L.out)) where
    same_out : length out ≡ length L.out
    same_out = ap (length {A = ℕ}) h.1 ∙ length-emitted (root_head (the_tree l)) cursor L.out

    same-dry : p.dry ≡ cursor.dry
    same-dry = ap (λ (z : Cursor). z.dry) h.0 ∙ (grows (root_head (the_tree l)) cursor).same-dry

    items-ready : ReadyItems (the_tree l).items (walk_of (the_tree l) known aims p)
        (record { around = around_root (the_tree l); types = []; start = start_of_items (the_tree l) }) l (below l (8 * behind)) items 63 behind sizes
        (lent_of L.env L.ends L.stack out) top held 0 p
    items-ready =
        let t = the_tree l in
        rw (i ∙ root-long.1, o)
        (ready-items q.stage aims L.ends L.stack out p (below l (8 * behind)) behind q.placed
        (take_all (length l - 8 * behind) (drop (8 * behind) l) (omega (arith, length-drop (8 * behind) l)))
        (λ d. q.aimed (sym same-dry ∙ d)) q.ending q.stacked
        (ap (λ (z : Cursor). z.address) h.0 ∙ head-address t.head (locals t.head) (at 0 0) cursor q.first)
        (ap (λ (z : Cursor). z.inside) h.0 ∙ ((grows (root_head t) cursor).same-inside ∙ q.outer))
        (rw (h.0, same_out) items-fits))

    pub root-asks : AsksItems known aims l (below l (8 * behind)) items 63 behind sizes (lent_of L.env L.ends L.stack out) top held 0 p
    root-asks = record {
      items = (the_tree l).items;
      walk = walk_of (the_tree l) known aims p;
      place = record { around = around_root (the_tree l); types = []; start = start_of_items (the_tree l) };
      same_known = refl;
      same-aims = refl;
      ready = items-ready;
    }

    -- ── the releases and the end ──
    module _ {M : Lent} {r : Cursor} (y : AnswersItems known aims l (below l (8 * behind)) items 63 behind sizes (lent_of L.env L.ends L.stack out) M top held 0 p r) where
      items-done : DoneItems (the_tree l).items (walk_of (the_tree l) known aims p) (record { around = around_root (the_tree l); types = []; start = start_of_items (the_tree l) }) behind
          (lent_of L.env L.ends L.stack out) M 0 p r
      items-done = y.done (the_tree l).items (walk_of (the_tree l) known aims p) (record { around = around_root (the_tree l); types = []; start = start_of_items (the_tree l) }) refl refl items-ready

      items-cursor : r ≡ cursor_after (root_items (the_tree l)) (cursor_after (root_head (the_tree l)) cursor)
      items-cursor = items-done.wrote.advanced ∙ ap (cursor_after (root_items (the_tree l))) h.0

      items-emit : M.out ≡ emitted (root_items (the_tree l)) (cursor_after (root_head (the_tree l)) cursor) (emitted (root_head (the_tree l)) cursor L.out)
      items-emit =
          items-done.wrote.written ∙ (ap (λ (z : Cursor). emitted (root_items (the_tree l)) z out) h.0
          ∙ ap (emitted (root_items (the_tree l)) (cursor_after (root_head (the_tree l)) cursor)) h.1)

      lets-cursor : cursor_after (lets held) r ≡ cursor_after (root_lets (the_tree l)) (cursor_after (root_items (the_tree l)) (cursor_after (root_head (the_tree l)) cursor))
      lets-cursor = rw (o, items-cursor)

      lets-emit : emitted (lets held) r M.out ≡ emitted (root_lets (the_tree l)) (cursor_after (root_items (the_tree l)) (cursor_after (root_head (the_tree l)) cursor))
          (emitted (root_items (the_tree l)) (cursor_after (root_head (the_tree l)) cursor) (emitted (root_head (the_tree l)) cursor L.out))
      lets-emit = ap (λ (n : ℕ). emitted (lets n) r M.out) o ∙ (ap (λ (z : Cursor). emitted (root_lets (the_tree l)) z M.out) items-cursor
          ∙ ap (emitted (root_lets (the_tree l)) (cursor_after (root_items (the_tree l)) (cursor_after (root_head (the_tree l)) cursor))) items-emit)

      same-items : length M.out ≡ length L.out
      same-items = y.kept.same_out ∙ same_out

      pub releases-fit : Fits (cursor_after (lets held) r) (length M.out)
      releases-fit = rw (lets-cursor, same-items) lets-fits

      module _ {s : Cursor} {freed : List ℕ} (f : (s ≡ cursor_after (lets held) r) × (freed ≡ emitted (lets held) r M.out)) where
        same-freed : length freed ≡ length L.out
        same-freed = ap (length {A = ℕ}) f.1 ∙ (length-emitted (lets held) r M.out ∙ same-items)

        pub end_fits : Fits (moved s) (length freed)
        end_fits = rw (f.0, lets-cursor, same-freed) root-fits

        pub ends_some : 0 < length M.ends
        ends_some = omega (arith, y.kept.same_ends, q.ending, root-long.0)

        pub root-done : {u v : Cursor} {last later : List ℕ} → (v ≡ moved s) × (last ≡ emit_op s freed 0 0 0) → (u ≡ v)
            × (later ≡ set M.ends 0 v.address) → AnswersRoot l L (lent_of M.env later M.stack last) top cursor u
        unfolding emitted record_of
        root-done {u} {v} {last} {later} d g =
            let t = the_tree l in
            let a = g.0 ∙ d.0 in
            let b = d.1 in
            let c : later ≡ set M.ends 0 u.address = g.1 ∙ ap (λ (x : Cursor). set M.ends 0 x.address) (sym g.0) in
            let pu : u ≡ cursor_after (code_root t) cursor = a ∙ (ap moved (f.0 ∙ lets-cursor) ∙ sym (root-cursor t cursor)) in
            let z : u.address ≡ root_end t = ap (λ (x : Cursor). x.address) pu ∙ address-after (code_root t) cursor (at 0 0) q.first in
            record {
              kept = record {
                env = y.kept.env;
                same-env = y.kept.same-env;
                same_ends = ap (length {A = ℕ}) c ∙ (length-set M.ends 0 u.address ∙ y.kept.same_ends);
                stack = refl;
                same-stack = y.kept.same-stack;
                same_out = ap (length {A = ℕ}) b ∙ (length-emit s freed 0 0 0 ∙ same-freed);
              };
              advanced = pu;
              written =
                  b ∙ (emitted-op end 0 0 0 s (λ e. refl) freed ∙ (ap (λ (x : Cursor). emitted (op end) x freed) (f.0 ∙ lets-cursor)
                  ∙ (ap (emitted (op end) (cursor_after (root_lets t) (cursor_after (root_items t) (cursor_after (root_head t) cursor)))) (f.1 ∙ lets-emit)
                  ∙ sym (root-emitted t cursor L.out))));
              ended = c ∙ (ap (λ (n : ℕ). set M.ends 0 n) z ∙ ap (λ (m : List ℕ). set m 0 (root_end t)) (items-done.ended ∙ ap (λ (n : ℕ). sets L.ends n (items_ends t)) q.placed));
            }

-- ── the whole table ──
pub record AsksWalk (l : List ℕ) (count behind : ℕ) (sizes env : List ℕ) (top : ℕ) (known aims ends out : List ℕ) (cursor : Cursor) : Type 0 where
  pub stage : Stage (the_tree l) l sizes env top known
  pub counted : count ≡ length (the_tree l).head
  pub placed : behind ≡ after_head (the_tree l)
  pub aimed : cursor.dry ≡ false → Aims (the_tree l) aims
  pub ending : length l / 8 ≤ length ends
  pub first : cursor.address ≡ 0
  pub outer : cursor.inside ≡ false
  pub fits : Fits (cursor_all (codes_of (parts (the_tree l))) cursor) (length out)

pub record AnswersWalk (l : List ℕ) (L M : Lent) (top : ℕ) (cursor r : Cursor) : Type 0 where
  pub kept : Kept L M top 0
  pub advanced : r ≡ within true (cursor_all (codes_of (parts (the_tree l))) cursor)
  pub written : M.out ≡ emitted_all (codes_of (parts (the_tree l))) cursor L.out
  pub ended : M.ends ≡ ended (the_tree l) L.ends

module _ {l : List ℕ} {count behind : ℕ} {sizes env : List ℕ} {top : ℕ} {known aims ends out : List ℕ} {cursor : Cursor}
    (q : AsksWalk l count behind sizes env top known aims ends out cursor) (stack : List ℕ) where
  parts_are : codes_of (parts (the_tree l)) ≡ code_root (the_tree l) ∷ codes_of (proc_parts (the_tree l) (procs_of (the_tree l).head) (root_end (the_tree l)))
  unfolding parts
  parts_are = refl

  whole-fits : Fits (cursor_all (code_root (the_tree l) ∷ codes_of (proc_parts (the_tree l) (procs_of (the_tree l).head) (root_end (the_tree l)))) cursor) (length out)
  whole-fits = rw parts_are at q.fits

  pub walk-root : 32 ≤ length stack → AsksRoot l count behind sizes (lent_of env ends stack out) top known aims cursor
  walk-root h = record {
    stage = q.stage;
    counted = q.counted;
    placed = q.placed;
    aimed = λ d. (q.aimed d).of-items;
    ending = q.ending;
    stacked = h;
    first = q.first;
    outer = q.outer;
    fits = fits-first (code_root (the_tree l)) (codes_of (proc_parts (the_tree l) (procs_of (the_tree l).head) (root_end (the_tree l)))) cursor (length out) whole-fits;
  }

  module _ {M : Lent} {r : Cursor} (y : AnswersRoot l (lent_of env ends stack out) M top cursor r) where
    root-address : r.address ≡ root_end (the_tree l)
    root-address = ap (λ (x : Cursor). x.address) y.advanced ∙ address-after (code_root (the_tree l)) cursor (at 0 0) q.first

    procs-cursor : cursor_procs (the_tree l) (the_tree l).head (within true r) ≡ within true (cursor_all (codes_of (parts (the_tree l))) cursor)
    unfolding parts cursor_all
    procs-cursor =
        ap (λ (n : ℕ). cursor_all (codes_of (proc_parts (the_tree l) (procs_of (the_tree l).head) n)) (within true r)) root-address
        ∙ (all-within true (codes_of (proc_parts (the_tree l) (procs_of (the_tree l).head) (root_end (the_tree l)))) r
        ∙ ap (λ (z : Cursor). within true (cursor_all (codes_of (proc_parts (the_tree l) (procs_of (the_tree l).head) (root_end (the_tree l)))) z)) y.advanced)

    procs-emit : emit_procs (the_tree l) (the_tree l).head (within true r) M.out ≡ emitted_all (codes_of (parts (the_tree l))) cursor out
    unfolding parts emitted_all
    procs-emit =
        let C = codes_of (proc_parts (the_tree l) (procs_of (the_tree l).head) (root_end (the_tree l))) in
        ap (λ (n : ℕ). emitted_all (codes_of (proc_parts (the_tree l) (procs_of (the_tree l).head) n)) (within true r) M.out) root-address
        ∙ (emitted-all-within true C r M.out ∙ (ap (λ (z : Cursor). emitted_all C z M.out) y.advanced ∙ ap (emitted_all C (cursor_after (code_root (the_tree l)) cursor)) y.written))

    pub walk-procs : (w : Cursor) → w ≡ within true r → 32 ≤ length stack → AsksProcs l count sizes M top known aims w
    walk-procs w e h = rw e (record {
      stage = record { prepared = q.stage.prepared; sight = y.kept.env ∙ q.stage.sight; room = omega (arith, q.stage.room, y.kept.same-env) };
      counted = q.counted;
      aimed = λ d. rw root-address (q.aimed (sym (ap (λ (z : Cursor). z.dry) y.advanced ∙ (grows (code_root (the_tree l)) cursor).same-dry) ∙ d)).of-procs;
      ending = omega (arith, q.ending, y.kept.same_ends);
      stacked = omega (arith, y.kept.same-stack);
      within = refl;
      fits = rw (procs-cursor, y.kept.same_out) (fits-within true (cursor_all (codes_of (parts (the_tree l))) cursor) (length out) q.fits);
    })

    pub walk-done : (w : Cursor) → w ≡ within true r → {N : Lent} {u : Cursor} → AnswersProcs l M N top w u → AnswersWalk l (lent_of env ends stack out) N top cursor u
    walk-done w e {N} {u} z = record {
      kept = kept_then y.kept z.kept;
      advanced = z.advanced ∙ (ap (cursor_procs (the_tree l) (the_tree l).head) e ∙ procs-cursor);
      written = z.written ∙ (ap (λ (x : Cursor). emit_procs (the_tree l) (the_tree l).head x M.out) e ∙ procs-emit);
      ended =
          z.ended ∙ (ap (λ (x : Cursor). ended_procs (the_tree l) (the_tree l).head 1 x.address M.ends) e
          ∙ (ap (λ (n : ℕ). ended_procs (the_tree l) (the_tree l).head 1 n M.ends) root-address
          ∙ ap (ended_procs (the_tree l) (the_tree l).head 1 (root_end (the_tree l))) y.ended));
    }
