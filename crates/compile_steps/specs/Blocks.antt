-- Blocks: what is ready below them, and what is done of them where it is done of what is below.
use Rattle.std.specs.Prelude.{◌≡◌, set}
use Rattle.std.proofs.Math.Path.{refl, ap}
use Rattle.std.proofs.Common.{sym, ◌∙◌, length-append}
use mathlib.Core.List.{List, [], ◌∷◌, ◌++◌, map}
use Prim.Native.Nat.{ℕ, suc, ◌+◌, ◌-◌, ◌*◌, ◌<◌}
use native.Mathlib.Omega.{arith}
use Rattle.std.proofs.Math.ListN.{length}
use Rattle.language.specs.Measure.{measure_s}
use Rattle.language.specs.Program.{flat_decl, flat_s, flat_items}
use Rattle.words.specs.Numbers.{half_at, word_at}
use Rattle.language.specs.Tree.{Decl, block, Items, count_items}
use Rattle.language.specs.Names.{block_of}
use Rattle.table_scopes.specs.Environment.{opened}
use Rattle.table_scopes.specs.Trees.{length-map}
use Rattle.table_scopes.specs.Defines.{heads-stand}
use Rattle.table_forms.specs.Part.{table-next}
use Rattle.compile_code.specs.Code.{Code, ◌▸◌, At}
use Rattle.compile_code.specs.Compile.{Around, inside, bound, labels, scopes_of, held_in, code_s, code_items}
use Rattle.compile_names.specs.Good.{GoodS}
use Rattle.compile_output.specs.declared.Cursor.{Cursor}
use Rattle.compile_output.specs.EmitRecord.{Fits}
use Rattle.compile_output.specs.EmitCode.{cursor_after, emitted, lets, grows, fits-before}
use Rattle.compile_nodes.specs.Knows.{Walk}
use Rattle.compile_nodes.specs.Ends.{at_head, ends_head, below_s, ends_items}
use Rattle.compile_nodes.specs.Ready.{stmt, flat_n, Place, Lent, Laid, Ready, Done, ReadyItems, DoneItems}
use Rattle.compile_emit.specs.EmitEntry.{holds_head}
use Rattle.compile_emit.specs.Opens.{Pushed, Declared}
use Rattle.compile_scopes.specs.Marks.{open_in}
use Rattle.compile_scopes.specs.Lengths.{length-head}
use Rattle.compile_scopes.specs.Heads.{classes-known, classes-block, bytes-head, Bytes}
use Rattle.compile_scopes.specs.Blocks.{around_items, scopes-items}
use Rattle.compile_scopes.specs.Sight.{sees-in-block, knows-in-block, lands-in-block}
use Rattle.compile_steps.specs.Parts.{below, lent, laid-tail, laid-left, laid-right, laid-at, head-N, wrote_then, wrote-length, ended-then}
use Rattle.compile_steps.specs.Stages.{Finished, finished-done}
use Rattle.compile_steps.specs.Cells.{at-head-cell}
use Rattle.compile_scopes.specs.HeadOps.{head_ops, head-cursor, head-emitted, holds-open}
use Rattle.compile_steps.specs.HeadCode.{head_read}
use Rattle.compile_steps.specs.Headed.{held-head, Headed, headed-open, headed-now, headed-same, headed-most, headed-wrote, headed-ended, headed-ends, headed-fits, headed-stood}

module _ (ds : List Decl) (is : Items) {W : Walk} {X : Place} {l part : List ℕ} {nesting at : ℕ} {sizes : List ℕ} {L : Lent} {top holds depth : ℕ}
    {cursor : Cursor} (r : Ready (stmt (block ds is)) W X l part nesting at sizes L top holds depth cursor) where
  abbrev block-Γ : List Around
  block-Γ = around_items (block_of ds is) ds is X.around X.start

  abbrev block-q : At
  block-q = at_head ds X.start

  abbrev block-place : Place
  block-place = record { around = block-Γ; types = X.types; start = block-q }

  abbrev block-head : Code
  block-head = head_ops W.globals ds X.start.cell

  abbrev block-f : List Around → At → Code
  block-f Δ q = code_items W.globals is (labels is q.address ∷ Δ) X.types q

  abbrev block-x : Code
  block-x = code_items W.globals is block-Γ X.types block-q

  abbrev block-es : List ℕ
  block-es = ends_head ds X.start

  abbrev block-fs : List ℕ
  block-fs = ends_items W.globals is block-Γ X.types block-q

  block-laid : Laid W l (at + 1) X.start (map flat_decl ds ++ flat_items is) (block-es ++ block-fs)
  unfolding flat_s below_s
  block-laid = laid-tail _ _ _ _ X.start (omega arith) r.laid

  block-length : length (flat_n (stmt (block ds is))) ≡ suc (length ds + length (flat_items is))
  unfolding flat_s
  block-length = ap suc (length-append (map flat_decl ds) (flat_items is) ∙ ap (λ (n : ℕ). n + length (flat_items is)) (length-map flat_decl ds))

  block-inner : Laid W l (at + 1 + length ds) block-q (flat_items is) block-fs
  block-inner =
      laid-at (ap (λ (n : ℕ). at + 1 + n) (length-map flat_decl ds))
      (laid-right (map flat_decl ds) (flat_items is) block-es block-fs block-q (length-head ds X.start ∙ sym (length-map flat_decl ds)) (at-head-cell ds X.start) block-laid)

  block-bytes : Bytes W.globals ds
  unfolding GoodS
  block-bytes =
      bytes-head r.table.legible W.globals (block_of ds is ∷ scopes_of X.around) (classes-block W.globals ds is (scopes_of X.around) (classes-known r.stood.sees r.stood.knows))
      (at + 1) [] ds (heads-stand r.table.legible (at + 1) ds is block-laid.stands) r.good.0

  pub block-headed : Headed (stmt (block ds is)) ds is block-x W X l at L top cursor
  unfolding code_s
  block-headed =
      let v = laid-left (map flat_decl ds) (flat_items is) block-es block-fs block-laid in
      record {
        long = omega (arith, block-length);
        room = r.room;
        stands = block-laid.stands;
        read = head_read W l ds (at + 1) X.start cursor L.out v.stands v.numbered block-bytes v.cells;
        left = rw (head-cursor W.globals bound block-f ds (inside (block_of ds is) ∷ X.around) X.start cursor) at r.fits;
      }

  pub block-heads : (heads : ℕ) → heads ≡ half_at part 2 → heads ≡ length ds
  block-heads heads h = h ∙ (head-N (stmt (block ds is)) r.table r.laid.stands).a

  pub block-count : (count : ℕ) → count ≡ word_at part 4 → count ≡ count_items is
  block-count count c = c ∙ (head-N (stmt (block ds is)) r.table r.laid.stands).b (count_items is) refl

  module _ {heads count : ℕ} (hs : heads ≡ length ds) (cs : count ≡ count_items is) {opens : ℕ} (o : opens ≡ holds_head (below part 8) heads)
      {new : List ℕ} {up : ℕ} (g : Pushed opened l (at + 1) heads count top opens L.env new up) {ends out : List ℕ} {p : Cursor}
      (w : Declared (below part 8) W.known (at + 1) heads L.ends L.out cursor p ends out) where
    abbrev block-M : Lent
    block-M = lent new ends L.stack out

    pub block-ready : ReadyItems is W block-place l (below part (8 * (1 + heads))) count (nesting - 1) (at + 1 + heads) sizes block-M up (holds + opens) depth p
    unfolding measure_s GoodS held_in
    block-ready =
        let z : at + (1 + heads) ≡ at + 1 + heads = omega arith in
        record {
          table = rw z at (table-next r.table (8 * (1 + heads)) (1 + heads) refl);
          laid = rw hs block-inner;
          stood = headed-stood r block-headed hs cs o g w block-Γ (sees-in-block r.table.legible at ds is X.start r.laid.stands X.around r.stood.sees)
              (knows-in-block r.table.legible at ds is X.start r.laid.stands r.stood.sees r.stood.knows r.good.0 r.laid.numbered r.laid.cells)
              (held-head ds (inside (block_of ds is) ∷ X.around) X.start);
          room = omega (arith, r.room, headed-same r block-headed hs cs o g w, headed-most r block-headed hs cs o g w, block-length);
          ending = omega (arith, r.ending, headed-ends r block-headed hs cs o g w, block-length, hs);
          fits = fits-before (length out) (grows (lets (open_in ds)) (cursor_after block-x p)) (headed-fits r block-headed hs cs o g w);
          deep = omega (arith, r.deep);
          good = rw (scopes-items (block_of ds is) ds is X.around X.start) r.good.1;
          lands = rw (headed-now r block-headed hs cs o g w) (lands-in-block r.table.legible at ds is X.start r.laid.stands X.types r.lands r.laid.aimed);
          few-holds = omega (arith, r.few-holds, headed-open r block-headed hs cs o, holds-open ds);
          few-values = omega (arith, r.few-values);
          many = cs;
        }

    module _ {N : Lent} {q : Cursor} (d : DoneItems is W block-place (at + 1 + heads) block-M N depth p q) where
      pub block-fits : Fits (cursor_after (lets opens) q) (length N.out)
      block-fits = rw (headed-open r block-headed hs cs o, d.wrote.advanced, wrote-length d.wrote) (headed-fits r block-headed hs cs o g w)

      module _ {late : List ℕ} {u : Cursor} (j : (u ≡ cursor_after (lets opens) q) × (late ≡ emitted (lets opens) q N.out)) where
        block-over : Finished L cursor at late N.ends u (block-head ▸ (block-x ▸ lets (open_in ds))) (block-es ++ block-fs)
        block-over =
            let e = headed-open r block-headed hs cs o in
            let f : Fits u (length N.out) = rw j.0 block-fits in
            record {
              wrote = wrote_then (headed-wrote r block-headed hs cs o g w) (wrote_then d.wrote (record { advanced = rw e at j.0; written = rw e at j.1 }));
              ended = ended-then L.ends ends N.ends (at + 1) (at + 1 + heads) block-es block-fs (headed-ended r block-headed hs cs o g w) d.ended
                  (omega (arith, hs, length-head ds X.start));
              small = f.address-small;
            }

        pub block-small : u.address < 65536
        block-small = block-over.small

        pub block-done : {last : List ℕ} → last ≡ set N.ends at u.address → Done (stmt (block ds is)) W X at L (lent N.env last N.stack late) depth cursor u
        unfolding code_s cursor_after emitted below_s
        block-done f =
            finished-done (stmt (block ds is)) X block-over r.stood.address
            (sym (head-cursor W.globals bound block-f ds (inside (block_of ds is) ∷ X.around) X.start cursor))
            (sym (head-emitted W.globals bound block-f ds (inside (block_of ds is) ∷ X.around) X.start cursor L.out)) refl f N.env N.stack tt
