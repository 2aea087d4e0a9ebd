-- Block expressions: what is ready below them, and what is done of them where it is done of what is below.
use Rattle.std.specs.Prelude.{◌≡◌, refl, ℕ, suc, ◌+◌, ◌-◌, ◌*◌, ◌/◌, ◌≤◌, ◌<◌, drop, set}
use Rattle.std.proofs.Math.Path.{ap, sym}
use Rattle.std.proofs.Common.{◌∙◌, append_assoc}
use mathlib.Core.List.{List, [], ◌∷◌, ◌++◌, map}
use native.Mathlib.Omega.{arith}
use Rattle.std.proofs.Math.ListN.{length, length-append}
use Rattle.language.specs.Measure.{measure_s}
use Rattle.language.specs.Program.{flat_decl, flat_items, flat_e}
use Rattle.words.specs.Numbers.{half_at, word_at}
use Rattle.values.specs.Types.{ty_byte}
use Rattle.language.specs.Tree.{Decl, Items, Expr, block_expr, count_items}
use Rattle.language.specs.Table.{Entry}
use Rattle.language.specs.Names.{Scope, expression_of}
use Rattle.language_laws.specs.Claims.{entries_of}
use Rattle.table_scopes.specs.Environment.{env_of, shut}
use Rattle.table_entries.specs.Entries.{length-entries}
use Rattle.table_entries.specs.Stands.{Stands, stands-left, stands-within}
use Rattle.table_scopes.specs.Trees.{length-map, length-Items}
use Rattle.table_scopes.specs.Defines.{heads-stand}
use Rattle.table_forms.specs.Part.{table-next}
use Rattle.compile_code.specs.Code.{Code, ◌▸◌, At, after}
use Rattle.compile_code.specs.Compile.{Around, inside, labels, scopes_of, held_in, code_items, code_e}
use Rattle.compile_names.specs.Good.{GoodE}
use Rattle.compile_output.specs.declared.Cursor.{Cursor}
use Rattle.compile_output.specs.EmitRecord.{Fits}
use Rattle.compile_output.specs.EmitCode.{cursor_after, emitted, lets, grows, fits-before}
use Rattle.compile_nodes.specs.Knows.{Walk}
use Rattle.compile_nodes.specs.Ends.{at_head, ends_head, below_e, ends_items, ends_e}
use Rattle.compile_nodes.specs.Ready.{expr, flat_n, Place, Lent, Laid, Stood, Kept, Ready, Done, ReadyItems, DoneItems}
use Rattle.compile_emit.specs.EmitEntry.{holds_head}
use Rattle.compile_emit.specs.Opens.{Pushed, Declared}
use Rattle.compile_scopes.specs.Marks.{open_in}
use Rattle.compile_scopes.specs.Lengths.{length-head}
use Rattle.compile_scopes.specs.Heads.{classes-known, classes-expression, bytes-head, Bytes}
use Rattle.compile_scopes.specs.Blocks.{within, around_value, around_items, scopes-value, scopes-items}
use Rattle.compile_scopes.specs.Sight.{sees-in-expression, sees-in-value, knows-in-value, knows-in-expression, lands-in-expression}
use Rattle.compile_steps.specs.Parts.{below, lent, laid-tail, laid-left, laid-right, laid-at, head-N, wrote_then, wrote-later, wrote-length, wrote-address, fits-first, ended-then}
use Rattle.compile_steps.specs.Stages.{Finished, finished-done}
use Rattle.compile_steps.specs.Cells.{at-head-cell, cell-items}
use Rattle.compile_scopes.specs.HeadOps.{head_ops, head-cursor, head-emitted, holds-open}
use Rattle.compile_steps.specs.HeadCode.{head_read}
use Rattle.compile_scopes.specs.Lengths.{length-items}
use Rattle.compile_steps.specs.Headed.{held-head, Headed, headed-open, headed-now, headed-same, headed-most, headed-wrote, headed-ended, headed-ends, headed-fits, headed-stood}
use Rattle.table_entries.specs.Spans.{span}
use Rattle.table_scopes.specs.Trees.{spans-Items}
use Rattle.language.specs.Faults.{type_e}
use Rattle.compile_code.specs.Compile.{bound, ty_in, or_integer}

module _ (ds : List Decl) (is : Items) (v : Expr) {W : Walk} {X : Place} {l part : List ℕ} {nesting at : ℕ} {sizes : List ℕ} {L : Lent}
    {top holds depth : ℕ} {cursor : Cursor} (r : Ready (expr (block_expr ds is v)) W X l part nesting at sizes L top holds depth cursor) where
  abbrev body-Γ : List Around
  body-Γ = around_items (expression_of ds is) ds is X.around X.start

  abbrev body-q : At
  body-q = at_head ds X.start

  abbrev body-place : Place
  body-place = record { around = body-Γ; types = X.types; start = body-q }

  abbrev body-head : Code
  body-head = head_ops W.globals ds X.start.cell

  abbrev body-f : List Around → At → Code
  body-f Δ q = let y = code_items W.globals is (labels is q.address ∷ Δ) X.types q in y ▸ code_e W.globals v Δ X.types (after y q)

  abbrev body-x : Code
  body-x = code_items W.globals is body-Γ X.types body-q

  abbrev body-es : List ℕ
  body-es = ends_head ds X.start

  abbrev body-fs : List ℕ
  body-fs = ends_items W.globals is body-Γ X.types body-q

  abbrev body-Δ : List Around
  body-Δ = around_value (expression_of ds is) ds X.around X.start

  abbrev body-s : At
  body-s = after body-x body-q

  abbrev body-value : Place
  body-value = record { around = body-Δ; types = X.types; start = body-s }

  abbrev body-y : Code
  body-y = code_e W.globals v body-Δ X.types body-s

  abbrev body-gs : List ℕ
  body-gs = ends_e W.globals v body-Δ X.types body-s

  body-laid : Laid W l (at + 1) X.start (map flat_decl ds ++ (flat_items is ++ flat_e v)) (body-es ++ (body-fs ++ body-gs))
  unfolding flat_e below_e
  body-laid = laid-tail _ _ _ _ X.start (omega arith) r.laid

  body-length : length (flat_n (expr (block_expr ds is v))) ≡ suc (length ds + (length (flat_items is) + length (flat_e v)))
  unfolding flat_e
  body-length = omega (arith, length-append (map flat_decl ds) (flat_items is ++ flat_e v), length-append (flat_items is) (flat_e v), length-map flat_decl ds)

  body-rest : Laid W l (at + 1 + length ds) body-q (flat_items is ++ flat_e v) (body-fs ++ body-gs)
  body-rest =
      laid-at (ap (λ (n : ℕ). at + 1 + n) (length-map flat_decl ds))
      (laid-right (map flat_decl ds) (flat_items is ++ flat_e v) body-es (body-fs ++ body-gs) body-q (length-head ds X.start ∙ sym (length-map flat_decl ds)) (at-head-cell ds X.start) body-laid)

  body-inner : Laid W l (at + 1 + length ds) body-q (flat_items is) body-fs
  body-inner = laid-left (flat_items is) (flat_e v) body-fs body-gs body-rest

  body-last : Laid W l (at + 1 + length ds + length (flat_items is)) body-s (flat_e v) body-gs
  body-last =
      laid-right (flat_items is) (flat_e v) body-fs body-gs body-s (length-items W.globals is body-Γ X.types body-q ∙ sym (length-Items is))
      (cell-items W.globals is body-Γ X.types body-q) body-rest

  body-block : Stands (entries_of l) (at + 1) (map flat_decl ds ++ flat_items is)
  body-block = stands-left (map flat_decl ds ++ flat_items is) (flat_e v) (rw (← append_assoc (map flat_decl ds) (flat_items is) (flat_e v)) at body-laid.stands)

  body-bytes : Bytes W.globals ds
  unfolding GoodE
  body-bytes =
      bytes-head r.table.legible W.globals (expression_of ds is ∷ scopes_of X.around)
      (classes-expression W.globals ds is (scopes_of X.around) (classes-known r.stood.sees r.stood.knows))
      (at + 1) [] ds (heads-stand r.table.legible (at + 1) ds is body-block) r.good.0

  pub body-headed : Headed (expr (block_expr ds is v)) ds is (body-x ▸ body-y) W X l at L top cursor
  unfolding code_e cursor_after
  body-headed =
      let u = laid-left (map flat_decl ds) (flat_items is ++ flat_e v) body-es (body-fs ++ body-gs) body-laid in
      record {
        long = omega (arith, body-length);
        room = r.room;
        stands = body-block;
        read = head_read W l ds (at + 1) X.start cursor L.out u.stands u.numbered body-bytes u.cells;
        left = rw (head-cursor W.globals bound body-f ds (inside (expression_of ds is) ∷ X.around) X.start cursor) at r.fits;
      }

  pub body-heads : (heads : ℕ) → heads ≡ half_at part 2 → heads ≡ length ds
  body-heads heads h = h ∙ (head-N (expr (block_expr ds is v)) r.table r.laid.stands).a

  pub body-count : (count : ℕ) → count ≡ word_at part 4 → count ≡ count_items is
  body-count count c = c ∙ (head-N (expr (block_expr ds is v)) r.table r.laid.stands).b (count_items is) refl

  module _ {heads count : ℕ} (hs : heads ≡ length ds) (cs : count ≡ count_items is) {opens : ℕ} (o : opens ≡ holds_head (below part 8) heads)
      {new : List ℕ} {up : ℕ} (g : Pushed shut l (at + 1) heads count top opens L.env new up) {ends out : List ℕ} {p : Cursor}
      (w : Declared (below part 8) W.known (at + 1) heads L.ends L.out cursor p ends out) where
    abbrev body-M : Lent
    body-M = lent new ends L.stack out

    body-stood : Stood W body-place l body-M up (holds + opens) depth p
    unfolding held_in GoodE
    body-stood =
        headed-stood r body-headed hs cs o g w body-Γ (sees-in-expression r.table.legible at ds is v X.start r.laid.stands X.around r.stood.sees)
        (knows-in-expression r.table.legible at ds is v X.start r.laid.stands r.stood.sees r.stood.knows r.good.0 r.laid.numbered r.laid.cells)
        (held-head ds (inside (expression_of ds is) ∷ X.around) X.start)

    pub body-ready : ReadyItems is W body-place l (below part (8 * (1 + heads))) count (nesting - 1) (at + 1 + heads) sizes body-M up (holds + opens) depth p
    unfolding measure_s GoodE
    body-ready =
        let z : at + (1 + heads) ≡ at + 1 + heads = omega arith in
        record {
          table = rw z at (table-next r.table (8 * (1 + heads)) (1 + heads) refl);
          laid = rw hs body-inner;
          stood = body-stood;
          room = omega (arith, r.room, headed-same r body-headed hs cs o g w, headed-most r body-headed hs cs o g w, body-length);
          ending = omega (arith, r.ending, headed-ends r body-headed hs cs o g w, body-length, hs);
          fits = fits-first body-x body-y p (length out) (fits-before (length out) (grows (lets (open_in ds)) (cursor_after (body-x ▸ body-y) p)) (headed-fits r body-headed hs cs o g w));
          deep = omega (arith, r.deep);
          good = rw (scopes-items (expression_of ds is) ds is X.around X.start) r.good.1;
          lands = rw (headed-now r body-headed hs cs o g w)
              (lands-in-expression r.table.legible at ds is v X.start r.laid.stands W (env_of L.env top) X.around X.types r.laid.aimed);
          few-holds = omega (arith, r.few-holds, headed-open r body-headed hs cs o, holds-open ds);
          few-values = omega (arith, r.few-values);
          many = cs;
        }

    module _ {N : Lent} {q : Cursor} (k : Kept body-M N up depth) (d : DoneItems is W body-place (at + 1 + heads) body-M N depth p q) where
      body-fits-2 : Fits (cursor_after (lets (open_in ds)) (cursor_after body-y q)) (length N.out)
      unfolding cursor_after
      body-fits-2 = rw (d.wrote.advanced, wrote-length d.wrote) (headed-fits r body-headed hs cs o g w)

      body-now : env_of N.env up ≡ within shut l at ds is (env_of L.env top)
      body-now = k.env ∙ headed-now r body-headed hs cs o g w

      body-stood-2 : Stood W body-value l N up (holds + opens) depth q
      unfolding held_in GoodE
      body-stood-2 =
          record {
            sees = rw body-now (sees-in-value r.table.legible at ds is v X.start r.laid.stands X.around r.stood.sees);
            knows = rw body-now (knows-in-value r.table.legible at ds is v X.start r.laid.stands r.stood.sees r.stood.knows r.good.0 r.laid.numbered r.laid.cells);
            held = body-stood.held;
            deep = r.stood.deep;
            typed = r.stood.typed ∙ sym k.stack;
            stacked = rw k.same-stack r.stood.stacked;
            address = wrote-address body-q d.wrote body-stood.address;
            dryness = (wrote-later d.wrote).same-dry ∙ body-stood.dryness;
            inside = (wrote-later d.wrote).same-inside ∙ body-stood.inside;
          }

      module _ {n : ℕ} (size : n ≡ span count (drop (at + 1 + heads) (entries_of l))) where
        body-size : n ≡ length (flat_items is)
        body-size =
            let s = body-rest.stands in
            size
            ∙ (rw (cs, hs) (ap (λ (us : List Entry). span (count_items is) us) (s.split ∙ append_assoc (flat_items is) (flat_e v) s.rest) ∙ (spans-Items is).spans (flat_e v ++ s.rest)))

        pub body-passes : (8 * (1 + heads + n) ≤ length part) × (at + 1 + heads + n ≤ 2048)
        unfolding flat_e
        body-passes =
            let w = head-N (expr (block_expr ds is v)) r.table r.laid.stands in
            let e = length-entries (length l / 8) l in
            let y = stands-within _ _ r.laid.stands in
            let m = body-size in
            (omega (arith, y, e, hs, m, body-length, w.long), omega (arith, y, e, hs, m, body-length, r.table.legible.short))

        pub body-ready-2 : Ready (expr v) W body-value l (below part (8 * (1 + heads + n))) (nesting - 1) (at + 1 + heads + n) sizes N up (holds + opens) depth q
        unfolding measure_s GoodE
        body-ready-2 =
            let z : at + (1 + heads + n) ≡ at + 1 + heads + n = omega arith in
            let m = body-size in
            let a : at + 1 + length ds + length (flat_items is) ≡ at + 1 + heads + n = omega (arith, hs, m) in
            record {
              table = rw z at (table-next r.table (8 * (1 + heads + n)) (1 + heads + n) refl);
              laid = laid-at a body-last;
              stood = body-stood-2;
              room = omega (arith, r.room, k.same-env, headed-same r body-headed hs cs o g w, headed-most r body-headed hs cs o g w, body-length);
              ending = omega (arith, r.ending, k.same_ends, headed-ends r body-headed hs cs o g w, body-length, hs, m);
              fits = fits-before (length N.out) (grows (lets (open_in ds)) (cursor_after body-y q)) body-fits-2;
              deep = omega (arith, r.deep);
              good = rw (scopes-value (expression_of ds is) ds X.around X.start) r.good.2;
              lands = tt;
              few-holds = omega (arith, r.few-holds, headed-open r body-headed hs cs o, holds-open ds);
              few-values = omega (arith, r.few-values);
            }

        module _ {O : Lent} {t : Cursor} (d2 : Done (expr v) W body-value (at + 1 + heads + n) N O depth q t) where
          pub body-fits : Fits (cursor_after (lets opens) t) (length O.out)
          body-fits = rw (headed-open r body-headed hs cs o, d2.wrote.advanced, wrote-length d2.wrote) body-fits-2

          module _ {late : List ℕ} {u : Cursor} (j : (u ≡ cursor_after (lets opens) t) × (late ≡ emitted (lets opens) t O.out)) where
            body-over : Finished L cursor at late O.ends u ((body-head ▸ body-x) ▸ (body-y ▸ lets (open_in ds))) ((body-es ++ body-fs) ++ body-gs)
            body-over =
                let m = body-size in
                let e = headed-open r body-headed hs cs o in
                let f : Fits u (length O.out) = rw j.0 body-fits in
                record {
                  wrote = wrote_then (wrote_then (headed-wrote r body-headed hs cs o g w) d.wrote) (wrote_then d2.wrote (record { advanced = rw e at j.0; written = rw e at j.1 }));
                  ended = ended-then L.ends N.ends O.ends (at + 1) (at + 1 + heads + n) (body-es ++ body-fs) body-gs
                      (ended-then L.ends ends N.ends (at + 1) (at + 1 + heads) body-es body-fs (headed-ended r body-headed hs cs o g w) d.ended (omega (arith, hs, length-head ds X.start)))
                      d2.ended (omega (arith, hs, m, length-head ds X.start, length-append body-es body-fs, length-items W.globals is body-Γ X.types body-q, length-Items is));
                  small = f.address-small;
                }

            pub body-small : u.address < 65536
            body-small = body-over.small

            pub body-done : {last : List ℕ} → last ≡ set O.ends at u.address → Done (expr (block_expr ds is v)) W X at L (lent O.env last O.stack late) depth cursor u
            unfolding code_e cursor_after emitted below_e type_e
            body-done f =
                finished-done (expr (block_expr ds is v)) X body-over r.stood.address
                (sym (head-cursor W.globals bound body-f ds (inside (expression_of ds is) ∷ X.around) X.start cursor))
                (sym (head-emitted W.globals bound body-f ds (inside (expression_of ds is) ∷ X.around) X.start cursor L.out))
                (ap (λ (us : List ℕ). (after (code_e W.globals (block_expr ds is v) X.around X.types X.start) X.start).address ∷ us) (sym (append_assoc body-es body-fs body-gs))) f
                O.env O.stack
                (d2.leaves ∙ ap (λ (ss : List Scope). ty_byte (ty_in W.globals (or_integer (type_e ss v)))) (scopes-value (expression_of ds is) ds X.around X.start))
