-- A walk through the code of one entry, stage by stage: what is done, what is left, and that what is lent agrees with the place reached.
use Rattle.std.specs.Prelude.{◌≡◌, refl, false, List, [], ◌∷◌, ◌++◌, ℕ, ◌+◌, ◌≤◌, ◌<◌, length, get_or, take, set}
use Rattle.std.proofs.Common.{ap, sym, ◌∙◌, arith}
use Rattle.std.proofs.lemmas.List.Edits.{sets}
use Rattle.values.specs.Types.{Ty, ty_byte}
use Rattle.bytecode.specs.Instructions.{Instr}
use Rattle.compile_code.specs.Code.{Code, nil, op, mark, ◌▸◌, at, skip, after}
use Rattle.compile_code.specs.Compile.{found}
use Rattle.compile_code.specs.Encode.{rec, record_of}
use Rattle.compile_output.specs.declared.Cursor.{Cursor}
use Rattle.compile_output.specs.EmitRecord.{Fits, moved, cursor_shaped, emit_op, emit_shape}
use Rattle.compile_output.specs.EmitCode.{cursor_after, emitted, later-self, address-after}
use Rattle.compile_nodes.specs.Knows.{Walk}
use Rattle.compile_nodes.specs.Ready.{Node, code_n, ends_n, LeavesN, Place, Lent, Stood, Kept, Wrote, Done}
use Rattle.compile_steps.specs.Parts.{lent, kept_self, kept_then, kept_less, kept_out, wrote-nil, wrote_then, wrote-op, wrote-mark, wrote-length, wrote-later, wrote-address, fits-rest}
use Rattle.compile_steps.specs.Parts.{fits-first, moved_to, held_on, stood-next, stood-push, stood-shape, ended-own, ended-then}

-- from what was lent at first (L, with the cursor) to what is now (M, with the cursor p): the place reached is Y, with d values on the stack
pub record Stage (W : Walk) (l : List ℕ) (L : Lent) (top holds depth : ℕ) (cursor : Cursor) (at : ℕ) (M : Lent) (Y : Place) (d : ℕ) (p : Cursor) (before left : Code) (es : List ℕ) : Type 0 where
  pub kept : Kept L M top depth
  pub more : depth ≤ d
  pub stood : Stood W Y l M top holds d p
  pub wrote : Wrote L.out M.out cursor p before
  pub fits : Fits (cursor_after left p) (length M.out)
  pub ended : M.ends ≡ sets L.ends (at + 1) es

pub stage-start : {W : Walk} {X : Place} {l : List ℕ} {L : Lent} {top holds depth : ℕ} {cursor : Cursor} (at : ℕ) (left : Code)
    → Stood W X l L top holds depth cursor → Fits (cursor_after left cursor) (length L.out)
    → Stage W l L top holds depth cursor at L X depth cursor nil left []
stage-start {L = L} {cursor = cursor} at left h f = record { kept = kept_self L; more = omega arith; stood = h; wrote = wrote-nil L.out cursor; fits = f; ended = refl }

module _ {W : Walk} {l : List ℕ} {L : Lent} {top holds depth : ℕ} {cursor : Cursor} {at : ℕ} {M : Lent} {Y : Place} {d : ℕ} {p : Cursor} {before : Code} {es : List ℕ} where
  -- what is asked before an instruction or a shape
  pub stage-fits-op : (i : Instr) (left : Code) → Stage W l L top holds depth cursor at M Y d p before (op i ▸ left) es → Fits (moved p) (length M.out)
  unfolding cursor_after
  stage-fits-op i left h = fits-first (op i) left p (length M.out) h.fits

  pub stage-fits-mark : (left : Code) → Stage W l L top holds depth cursor at M Y d p before (mark (found Y.around Y.types) ▸ left) es → Fits (cursor_shaped d p) (length M.out)
  unfolding cursor_after
  stage-fits-mark left h = rw h.stood.deep (fits-first (mark (found Y.around Y.types)) left p (length M.out) h.fits)

  -- an instruction
  module _ (i : Instr) (left : Code) (h : Stage W l L top holds depth cursor at M Y d p before (op i ▸ left) es) {out : List ℕ} {q : Cursor}
      (k a b : ℕ) (e : (q ≡ moved p) × (out ≡ emit_op p M.out k a b))
      (same : W.dry ≡ false → record_of i ≡ rec k a b) where
    op-wrote : Wrote M.out out p q (op i)
    op-wrote = wrote-op i k a b e (λ z. same (sym h.stood.dryness ∙ z))

    pub stage-op : Stage W l L top holds depth cursor at (lent M.env M.ends M.stack out) (moved_to Y (skip 1 Y.start)) d q (before ▸ op i) left es
    stage-op =
        let w = op-wrote in
        record {
          kept = kept_then h.kept (kept_out M out (wrote-length w));
          more = h.more;
          stood = stood-next h.stood (kept_out M out (wrote-length w)) (wrote-later w) (skip 1 Y.start) (ap (λ (t : Cursor). t.address) e.0 ∙ omega (arith, h.stood.address));
          wrote = wrote_then h.wrote w;
          fits = fits-rest (op i) left w h.fits;
          ended = h.ended;
        }

  -- a shape
  module _ (left : Code) (h : Stage W l L top holds depth cursor at M Y d p before (mark (found Y.around Y.types) ▸ left) es) {out : List ℕ} {q : Cursor}
      (e : (q ≡ cursor_shaped d p) × (out ≡ emit_shape p M.out holds d (take d M.stack))) where
    mark-wrote : Wrote M.out out p q (mark (found Y.around Y.types))
    mark-wrote = wrote-mark (found Y.around Y.types) holds d M.stack (stood-shape h.stood) e

    pub stage-mark : Stage W l L top holds depth cursor at (lent M.env M.ends M.stack out) Y d q (before ▸ mark (found Y.around Y.types)) left es
    unfolding after
    stage-mark =
        let w = mark-wrote in
        record {
          kept = kept_then h.kept (kept_out M out (wrote-length w));
          more = h.more;
          stood = stood-next h.stood (kept_out M out (wrote-length w)) (wrote-later w) Y.start (wrote-address Y.start w h.stood.address);
          wrote = wrote_then h.wrote w;
          fits = fits-rest (mark (found Y.around Y.types)) left w h.fits;
          ended = h.ended;
        }

  -- a part that was walked
  module _ (x left : Code) (fs : List ℕ) (h : Stage W l L top holds depth cursor at M Y d p before (x ▸ left) es) {N : Lent} {q : Cursor} (place : ℕ) (k : Kept M N top d)
      (w : Wrote M.out N.out p q x) (ends : N.ends ≡ sets M.ends place fs) (where-at : place ≡ at + 1 + length es) where
    pub stage-part : Stage W l L top holds depth cursor at N (moved_to Y (after x Y.start)) d q (before ▸ x) left (es ++ fs)
    stage-part =
        record {
          kept = kept_then h.kept (kept_less h.more k);
          more = h.more;
          stood = stood-next h.stood k (wrote-later w) (after x Y.start) (wrote-address Y.start w h.stood.address);
          wrote = wrote_then h.wrote w;
          fits = fits-rest x left w h.fits;
          ended = ended-then L.ends M.ends N.ends (at + 1) place es fs h.ended ends where-at;
        }

    pub stage-push : (t : Ty) → get_or N.stack d 0 ≡ ty_byte t → d < 32 → Stage W l L top holds depth cursor at N (held_on t Y (after x Y.start)) (d + 1) q (before ▸ x) left (es ++ fs)
    stage-push t g small =
        record {
          kept = kept_then h.kept (kept_less h.more k);
          more = omega (arith, h.more);
          stood = stood-push h.stood k (wrote-later w) (after x Y.start) (wrote-address Y.start w h.stood.address) t g small;
          wrote = wrote_then h.wrote w;
          fits = fits-rest x left w h.fits;
          ended = ended-then L.ends M.ends N.ends (at + 1) place es fs h.ended ends where-at;
        }

  -- the end
  pub stage-done : (n : Node) (X : Place) → Stage W l L top holds depth cursor at M Y d p before nil es → cursor.address ≡ X.start.address
      → cursor_after before cursor ≡ cursor_after (code_n W.globals n X.around X.types X.start) cursor
      → emitted before cursor L.out ≡ emitted (code_n W.globals n X.around X.types X.start) cursor L.out
      → ends_n W.globals n X.around X.types X.start ≡ (after (code_n W.globals n X.around X.types X.start) X.start).address ∷ es
      → {ends : List ℕ} → ends ≡ set M.ends at p.address → (stack : List ℕ) → LeavesN W.globals n X.around stack depth
      → Done n W X at L (lent M.env ends stack M.out) depth cursor p
  stage-done n X h a e f g {ends} k stack leaves =
      let code = code_n W.globals n X.around X.types X.start in
      let z : p.address ≡ (after code X.start).address = ap (λ (t : Cursor). t.address) (h.wrote.advanced ∙ e) ∙ address-after code cursor X.start a in
      record {
        wrote = record { advanced = h.wrote.advanced ∙ e; written = h.wrote.written ∙ f };
        ended = ended-own L.ends M.ends ends at p.address es h.ended k ∙ rw (g, z);
        leaves = leaves;
      }

  -- the same code, written otherwise
  pub stage-as : {left : Code} (other rest : Code) → Stage W l L top holds depth cursor at M Y d p before left es
      → cursor_after before cursor ≡ cursor_after other cursor → emitted before cursor L.out ≡ emitted other cursor L.out → cursor_after left p ≡ cursor_after rest p
      → Stage W l L top holds depth cursor at M Y d p other rest es
  stage-as other rest h e f g =
      record { kept = h.kept; more = h.more; stood = h.stood; wrote = record { advanced = h.wrote.advanced ∙ e; written = h.wrote.written ∙ f }; fits = rw g at h.fits; ended = h.ended }

  -- a value on the stack is counted
  pub stage-hold : {left : Code} (t : Ty) → Stage W l L top holds depth cursor at M Y d p before left es → get_or M.stack d 0 ≡ ty_byte t → d < 32
      → Stage W l L top holds depth cursor at M (held_on t Y Y.start) (d + 1) p before left es
  stage-hold t h g small =
      record {
        kept = h.kept;
        more = omega (arith, h.more);
        stood = stood-push h.stood (kept_self M) (later-self p) Y.start
            h.stood.address t g small;
        wrote = h.wrote;
        fits = h.fits;
        ended = h.ended;
      }

-- what is done at the end, and that its last address is one
pub record Finished (L : Lent) (cursor : Cursor) (at : ℕ) (out ends : List ℕ) (r : Cursor) (before : Code) (es : List ℕ) : Type 0 where
  pub wrote : Wrote L.out out cursor r before
  pub ended : ends ≡ sets L.ends (at + 1) es
  pub small : r.address < 65536

pub finished : {W : Walk} {l : List ℕ} {L : Lent} {top holds depth : ℕ} {cursor : Cursor} {at : ℕ} {M : Lent} {Y : Place} {d : ℕ} {p : Cursor} {before : Code} {es : List ℕ}
    → Stage W l L top holds depth cursor at M Y d p before nil es → Finished L cursor at M.out M.ends p before es
unfolding cursor_after
finished h = record { wrote = h.wrote; ended = h.ended; small = h.fits.address-small }

pub finished-done : {W : Walk} {L : Lent} {cursor : Cursor} {at : ℕ} {out ends : List ℕ} {r : Cursor} {before : Code} {es : List ℕ} {depth : ℕ} (n : Node)
    (X : Place) → Finished L cursor at out ends r before es → cursor.address ≡ X.start.address
    → cursor_after before cursor ≡ cursor_after (code_n W.globals n X.around X.types X.start) cursor
    → emitted before cursor L.out ≡ emitted (code_n W.globals n X.around X.types X.start) cursor L.out
    → ends_n W.globals n X.around X.types X.start ≡ (after (code_n W.globals n X.around X.types X.start) X.start).address ∷ es
    → {late : List ℕ} → late ≡ set ends at r.address → (env stack : List ℕ) → LeavesN W.globals n X.around stack depth
    → Done n W X at L (lent env late stack out) depth cursor r
finished-done {W} {L} {cursor} {at} {out} {ends} {r} {before} {es} n X h a e f g {late} k env stack leaves =
    let code = code_n W.globals n X.around X.types X.start in
    let z : r.address ≡ (after code X.start).address = ap (λ (t : Cursor). t.address) (h.wrote.advanced ∙ e) ∙ address-after code cursor X.start a in
    record {
      wrote = record { advanced = h.wrote.advanced ∙ e; written = h.wrote.written ∙ f };
      ended = ended-own L.ends ends late at r.address es h.ended k ∙ rw (g, z);
      leaves = leaves;
    }
