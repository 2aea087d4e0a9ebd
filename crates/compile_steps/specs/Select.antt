-- A case: what its walker asks of its index and of its statements, and that it has done its code when they have done theirs.
use Rattle.std.specs.Prelude.{◌≡◌, false, List, ◌∷◌, ◌++◌, ℕ, suc, ◌+◌, ◌-◌, ◌*◌, ◌≤◌, ◌<◌, pos, length, set, take}
use Rattle.std.proofs.Math.Path.{refl, ap, sym}
use Rattle.std.proofs.Common.{◌∙◌, arith, length-set}
use Rattle.std.proofs.Math.ListN.{get_or, length-append}
use Rattle.language.specs.Measure.{measure_s}
use Rattle.language.specs.Program.{flat_s, flat_arms, flat_e}
use Rattle.words.specs.Numbers.{half_at}
use Rattle.values.specs.Types.{Ty, integer}
use Rattle.values.specs.Ends.{case_index}
use Rattle.bytecode.specs.Instructions.{own, store, stop}
use Rattle.language.specs.Tree.{Expr, Arms, last_arm, arm, select, count_arms, Global}
use Rattle.language.specs.Table.{entry}
use Rattle.table_forms.specs.Part.{head_of, table-next, Passes}
use Rattle.compile_simulation.specs.Sizes.{len_arms}
use Rattle.compile_code.specs.Code.{Code, op, mark, cell, ◌▸◌, At, skip, taken, after}
use Rattle.compile_code.specs.Compile.{Around, scopes_of, passing, found, code_s, code_e, code_arms, ops_arms}
use Rattle.compile_code.specs.Encode.{rec, record_of}
use Rattle.compile_symbols.specs.Numbers.{numbers_from, cells_within, second_in, packed}
use Rattle.compile_symbols.specs.Packed.{second-packed}
use Rattle.compile_names.specs.Good.{GoodS}
use Rattle.compile_output.specs.declared.Cursor.{Cursor}
use Rattle.compile_output.specs.EmitRecord.{Fits, moved, cursor_shaped, emit_op, emit_shape}
use Rattle.compile_output.specs.EmitCode.{cursor_after, emitted}
use Rattle.compile_nodes.specs.Ends.{below_s, ends_e, ends_arms}
use Rattle.compile_nodes.specs.Knows.{Walk}
use Rattle.compile_nodes.specs.Ready.{stmt, expr, Place, Lent, Stood, Kept, Wrote, Ready, Done, Asks, Answers, code_cases, ReadyArms, DoneArms, Owner, AsksArms, AnswersArms}
use Rattle.compile_scopes.specs.Lies.{lies-here}
use Rattle.compile_steps.specs.Parts.{lent, below, moved_to, size-N, passes-N, flat-one, laid-aim, kept_then, kept_out, kept-ends, wrote_then, wrote-op, wrote-cell}
use Rattle.compile_steps.specs.Parts.{wrote-address, wrote-length, fits-first}
use Rattle.compile_steps.specs.Views.{IsExpr, IsKind, Select, select-of}
use Rattle.compile_steps.specs.Shared.{Rest, rest-enter, rest-left, rest-node, rest-own, rest-stood, rest-fits, rest-ready, lands-kept, Shaping, shaping-last}
use Rattle.compile_steps.specs.Shared.{shaped-wrote, fits-op, ends-then, ends-own, ends-N, table-from, finishing, ready-as, done-as}

-- ── the code of the statements is that of the cases, and a stop ──
module _ (gs : List Global) where
  arms-cursor : (r : Arms) (c i z : ℕ) (Γ : List Around) (st : List Ty) (p : At) (cursor : Cursor)
      → cursor_after (code_arms gs r c i z Γ st p) cursor ≡ cursor_after (code_cases gs r c i z Γ st p ▸ op (stop case_index)) cursor
  unfolding code_arms code_cases cursor_after
  arms-cursor (last_arm s) c i z Γ st p cursor = refl
  arms-cursor (arm s r) c i z Γ st p cursor = arms-cursor r c (suc i) z Γ st _ _

  arms-emitted : (r : Arms) (c i z : ℕ) (Γ : List Around) (st : List Ty) (p : At) (cursor : Cursor) (l : List ℕ)
      → emitted (code_arms gs r c i z Γ st p) cursor l ≡ emitted (code_cases gs r c i z Γ st p ▸ op (stop case_index)) cursor l
  unfolding code_arms code_cases cursor_after emitted
  arms-emitted (last_arm s) c i z Γ st p cursor l = refl
  arms-emitted (arm s r) c i z Γ st p cursor l = arms-emitted r c (suc i) z Γ st _ _ _

  arms-wrote : (r : Arms) (c i z : ℕ) (Γ : List Around) (st : List Ty) (p : At) {a b : List ℕ} {cursor t : Cursor}
      → Wrote a b cursor t (code_cases gs r c i z Γ st p ▸ op (stop case_index)) → Wrote a b cursor t (code_arms gs r c i z Γ st p)
  arms-wrote r c i z Γ st p {a} {b} {cursor} {t} w = record { advanced = w.advanced ∙ sym (arms-cursor r c i z Γ st p cursor); written = w.written ∙ sym (arms-emitted r c i z Γ st p cursor a) }

count_most : (r : Arms) → count_arms r ≤ length (flat_arms r)
unfolding count_arms flat_arms
count_most (last_arm s) = flat-one (stmt s)
count_most (arm s r) = omega (arith, length-append (flat_s s) (flat_arms r), flat-one (stmt s), count_most r)

module _ {e : Expr} {r : Arms} {W : Walk} {X : Place} {l part : List ℕ} {nesting at : ℕ} {sizes : List ℕ} {L : Lent} {top holds depth : ℕ} {cursor : Cursor}
    (h : Ready (stmt (select e r)) W X l part nesting at sizes L top holds depth cursor) where
  -- its own cell
  abbrev c : ℕ
  c = X.start.cell

  abbrev q : At
  q = taken X.start

  abbrev x : Code
  x = code_e W.globals e X.around X.types q

  abbrev b : At
  b = skip 1 (after x q)

  abbrev exit : ℕ
  exit = b.address + ops_arms r (scopes_of X.around) (passing X.around)

  abbrev y : Code
  y = code_cases W.globals r c 1 exit X.around X.types b

  abbrev es : List ℕ
  es = ends_e W.globals e X.around X.types q

  abbrev fs : List ℕ
  fs = ends_arms W.globals r X.around X.types b

  abbrev seen : Code
  seen = mark (found X.around X.types)

  abbrev all : Code
  all = cell integer ▸ (x ▸ (op (store own c) ▸ (code_arms W.globals r c 1 exit X.around X.types b ▸ seen)))

  in_all : Rest W X l at L top holds depth cursor (entry 30 (count_arms r) (pos 0) ∷ (flat_e e ++ flat_arms r)) ((after all X.start).address ∷ (es ++ fs))
      (x ▸ (op (store own c) ▸ (y ▸ (op (stop case_index) ▸ seen))))
  unfolding flat_s code_s below_s cursor_after
  in_all =
      record {
        laid = h.laid;
        stood = h.stood;
        room = h.room;
        ending = h.ending;
        fits = rw (arms-cursor W.globals r c 1 exit X.around X.types b (moved (cursor_after x cursor))) at h.fits;
      }

  below_all : Rest W (moved_to X q) l (at + 1) L top holds depth cursor (flat_e e ++ flat_arms r) (es ++ fs) (x ▸ (op (store own c) ▸ (y ▸ (op (stop case_index) ▸ seen))))
  below_all = rest-enter (entry 30 (count_arms r) (pos 0)) (flat_e e ++ flat_arms r) _ _ _ q (omega arith) refl in_all

  pub select-first : Ready (expr e) W (moved_to X q) l (below part 8) (nesting - 1) (at + 1) sizes L top holds depth cursor
  unfolding measure_s GoodS
  select-first =
      rest-ready (expr e) (table-next h.table 8 1 refl) (omega (arith, h.deep)) h.good.0 tt (omega (arith, h.few-holds))
      (omega (arith, h.few-values)) (rest-left (flat_e e) (flat_arms r) _ _ below_all)

  few : holds ≤ 16
  few = omega (arith, h.few-holds)

  more : depth ≤ 32
  more = omega (arith, h.few-values)

  many : half_at part 2 ≡ count_arms r
  many = (head_of _ _ h.table in_all.laid.stands).a

  short : 1 + count_arms r ≤ 65536
  unfolding flat_s
  short =
      let p = passes-N (stmt (select e r)) h.table h.laid.stands (get_or sizes at 0) refl in
      omega (arith, p.small, size-N (stmt (select e r)) h.table h.laid.stands, count_most r, length-append (flat_e e) (flat_arms r))

  -- what is known of it, and where it ends
  pub select-cell : second_in (get_or W.known at 0) ≡ c
  unfolding numbers_from cells_within
  select-cell =
      let z : get_or W.known at 0 ≡ packed 1 0 c = lies-here _ _ in_all.laid.numbered in
      ap second_in z ∙ second-packed 1 0 c (omega arith) (omega arith) (omega (arith, in_all.laid.cells))

  pub select-exit : W.dry ≡ false → get_or W.aims at 0 ≡ exit
  unfolding after
  select-exit d = laid-aim _ _ _ in_all.laid d ∙ len_arms W.globals r c 1 exit X.around X.types b

  module _ (n : ℕ) (z : n ≡ get_or sizes (at + 1) 0) where
    size-first : n ≡ length (flat_e e)
    size-first = z ∙ size-N (expr e) select-first.table select-first.laid.stands

    pub select-passes : Passes (below part 8) sizes (at + 1) n
    select-passes = passes-N (expr e) select-first.table select-first.laid.stands n z

    module _ {M : Lent} {p : Cursor} (k : Kept L M top depth) (d : Done (expr e) W (moved_to X q) (at + 1) L M depth cursor p) where
      after_first : Rest W (moved_to X (after x q)) l (at + 1 + n) M top holds depth p (flat_arms r) fs (op (store own c) ▸ (y ▸ (op (stop case_index) ▸ seen)))
      after_first = rest-node (expr e) (flat_arms r) _ n size-first k d.wrote below_all

      pub select-fits : Fits (moved p) (length M.out)
      select-fits = fits-op (store own c) _ p (length M.out) after_first.fits

      module _ {v : ℕ} {p₂ : Cursor} {o : List ℕ} (cl : v ≡ c) (i : (p₂ ≡ moved p) × (o ≡ emit_op p M.out 6 0 v)) where
        stored : Wrote M.out o p p₂ (op (store own c))
        unfolding record_of
        stored = wrote-op (store own c) 6 0 v i (λ w. ap (λ (a : ℕ). rec 6 0 a) (sym cl))

        after_store : Rest W (moved_to X b) l (at + 1 + n) (lent M.env M.ends M.stack o) top holds depth p₂ (flat_arms r) fs (y ▸ (op (stop case_index) ▸ seen))
        unfolding after
        after_store = rest-own b refl (kept_out M o (wrote-length stored)) stored (flat_arms r) _ refl after_first

        pub select-second : (count : ℕ) → count ≡ half_at part 2
            → ReadyArms r c 1 exit W (moved_to X b) l (below part (8 * (at + 1 + n - at))) count (nesting - 1) (at + 1 + n) sizes (lent M.env M.ends M.stack o) top holds depth p₂
        unfolding measure_s GoodS
        select-second count f =
            record {
              table = table-from (at + 1 + n) (omega arith) h.table;
              laid = after_store.laid;
              stood = after_store.stood;
              room = after_store.room;
              ending = after_store.ending;
              fits = fits-first y (op (stop case_index) ▸ seen) p₂ (length o) after_store.fits;
              deep = omega (arith, h.deep);
              good = h.good.2;
              lands = lands-kept k h.lands;
              few-holds = omega (arith, h.few-holds);
              few-values = omega (arith, h.few-values);
              many = f ∙ many;
              few = omega (arith, short, f, many);
            }

        module _ {N : Lent} {t : Cursor} (k₂ : Kept (lent M.env M.ends M.stack o) N top depth)
            (d₂ : DoneArms r c 1 exit W (moved_to X b) (at + 1 + n) (lent M.env M.ends M.stack o) N depth p₂ t) where
          -- no more entries are passed from here on, so that the cell does not matter
          abbrev there : At
          there = record { address = (after y b).address; cell = b.cell }

          after-arms : Rest W (moved_to X there) l (at + 1 + n) N top holds depth t (flat_arms r) fs (op (stop case_index) ▸ seen)
          after-arms = rest-own there refl k₂ d₂.wrote (flat_arms r) _ refl after_store

          kept-two : Kept L N top depth
          kept-two = kept_then k (kept_then (kept_out M o (wrote-length stored)) k₂)

          pub select-fits₂ : Fits (moved t) (length N.out)
          select-fits₂ = fits-op (stop case_index) _ t (length N.out) after-arms.fits

          module _ {p₃ : Cursor} {o₂ : List ℕ} (i₂ : (p₃ ≡ moved t) × (o₂ ≡ emit_op t N.out 20 24 0)) where
            stopped : Wrote N.out o₂ t p₃ (op (stop case_index))
            unfolding record_of
            stopped = wrote-op (stop case_index) 20 24 0 i₂ (λ w. refl)

            stood-last : Stood W (moved_to X (skip 1 there)) l (lent N.env N.ends N.stack o₂) top holds depth p₃
            unfolding after
            stood-last = rest-stood (skip 1 there) refl (kept_out N o₂ (wrote-length stopped)) stopped after-arms

            pub select-shape : Shaping N.stack o₂ holds depth p₃
            unfolding after
            select-shape = shaping-last stood-last few more (rest-fits (skip 1 there) refl (kept_out N o₂ (wrote-length stopped)) stopped after-arms)

            module _ {p₄ : Cursor} {o₃ : List ℕ} (j : (p₄ ≡ cursor_shaped depth p₃) × (o₃ ≡ emit_shape p₃ o₂ holds depth (take depth N.stack))) where
              pub select-finish : (at < length N.ends) × (p₄.address < 65536)
              select-finish = finishing h.ending (flat-one (stmt (select e r))) kept-two.same_ends j.0 select-shape.3

              wrote-all : Wrote L.out o₃ cursor p₄ all
              wrote-all =
                  wrote_then (wrote-cell integer L.out cursor) (wrote_then d.wrote (wrote_then stored
                  (wrote_then (arms-wrote W.globals r c 1 exit X.around X.types b (wrote_then d₂.wrote stopped)) (shaped-wrote stood-last few more j))))

              pub select-done : {u : Cursor} {ends : List ℕ} → (u ≡ p₄) × (ends ≡ set N.ends at p₄.address) → Done (stmt (select e r)) W X at L (lent N.env ends N.stack o₃) depth cursor u
              unfolding code_s below_s
              select-done {u} {ends} f =
                  record {
                    wrote = rw f.0 wrote-all;
                    ended =
                        ends-own L.ends at p₄.address (after all X.start).address (es ++ fs)
                        (ends-then L.ends (at + 1) n es fs (size-first ∙ sym (ends-N (expr e) W (moved_to X q))) d.ended d₂.ended) f.1
                        (wrote-address X.start wrote-all h.stood.address);
                    leaves = tt;
                  }

              pub select_kept : {ends : List ℕ} → ends ≡ set N.ends at p₄.address → Kept L (lent N.env ends N.stack o₃) top depth
              select_kept {ends} f =
                  kept_then kept-two (kept_then (kept_out N o₃ (wrote-length (shaped-wrote stood-last few more j) ∙ wrote-length stopped))
                  (kept-ends (lent N.env N.ends N.stack o₃) ends (rw f (length-set N.ends at p₄.address))))

-- ── for the walker ──
module _ {known aims l part : List ℕ} {nesting at : ℕ} {sizes : List ℕ} {L : Lent} {top holds depth : ℕ} {cursor : Cursor}
    (a : Asks (IsKind 30) known aims l part nesting at sizes L top holds depth cursor) where
  v : Select a.node
  v = select-of a.node a.such

  ready : Ready (stmt (select v.e v.r)) a.walk a.place l part nesting at sizes L top holds depth cursor
  ready = ready-as v.same a.ready

  pub asks-select-first : Asks IsExpr known aims l (below part 8) (nesting - 1) (at + 1) sizes L top holds depth cursor
  asks-select-first = record { node = expr v.e; walk = a.walk; place = _; such = tt; same_known = a.same_known; same-aims = a.same-aims; ready = select-first ready }

  module _ (n : ℕ) (z : n ≡ get_or sizes (at + 1) 0) where
    pub asks-select-passes : Passes (below part 8) sizes (at + 1) n
    asks-select-passes = select-passes ready n z

    module _ {M : Lent} {p : Cursor} (b₁ : Answers IsExpr known aims l (below part 8) (nesting - 1) (at + 1) sizes L M top holds depth cursor p) where
      done_first : {W : Walk} {X : Place} {e : Expr} {r : Arms} → W.known ≡ known → W.aims ≡ aims → Ready (stmt (select e r)) W X l part nesting at sizes L top holds depth cursor
          → Done (expr e) W (moved_to X (taken X.start)) (at + 1) L M depth cursor p
      done_first {W} {X} {e} x y h = b₁.done (expr e) W _ tt x y (select-first h)

      pub asks-select-emit : Fits (moved p) (length M.out)
      asks-select-emit = select-fits ready n z b₁.kept (done_first a.same_known a.same-aims ready)

      module _ {count cell : ℕ} {p₂ : Cursor} {o : List ℕ} (ct : count ≡ half_at part 2) (cl : cell ≡ second_in (get_or known at 0)) (i : (p₂ ≡ moved p) × (o ≡ emit_op p M.out 6 0 cell)) where
        cell-is : {W : Walk} {X : Place} {e : Expr} {r : Arms} → W.known ≡ known → Ready (stmt (select e r)) W X l part nesting at sizes L top holds depth cursor → cell ≡ X.start.cell
        cell-is x h = cl ∙ (ap (λ (k : List ℕ). second_in (get_or k at 0)) (sym x) ∙ select-cell h)

        owner-is : {W : Walk} {X : Place} {e : Expr} {r : Arms} (h : Ready (stmt (select e r)) W X l part nesting at sizes L top holds depth cursor) → Owner W at X.start.cell (exit h)
        owner-is h = record { celled = select-cell h; leaving = λ d. select-exit h d }

        second_is : {W : Walk} {X : Place} {e : Expr} {r : Arms} → W.known ≡ known → W.aims ≡ aims → (h : Ready (stmt (select e r)) W X l part nesting at sizes L top holds depth cursor)
            → ReadyArms r X.start.cell 1 (exit h) W (moved_to X (b h)) l (below part (8 * (at + 1 + n - at))) count (nesting - 1)
            (at + 1 + n) sizes (lent M.env M.ends M.stack o) top holds depth p₂
        second_is x y h = select-second h n z b₁.kept (done_first x y h) (cell-is x h) i count ct

        pub asks-select-second : AsksArms known aims l (below part (8 * (at + 1 + n - at))) at count (nesting - 1) (at + 1 + n) sizes (lent M.env M.ends M.stack o) top holds depth p₂
        asks-select-second =
            record {
              arms = v.r;
              cell = a.place.start.cell;
              exit = exit ready;
              walk = a.walk;
              place = _;
              same_known = a.same_known;
              same-aims = a.same-aims;
              owned = owner-is ready;
              ready = second_is a.same_known a.same-aims ready;
            }

        module _ {N : Lent} {t : Cursor} (b₂ : AnswersArms known aims l (below part (8 * (at + 1 + n - at))) at count (nesting - 1) (at + 1 + n) sizes
            (lent M.env M.ends M.stack o) N top holds depth p₂ t) where
          done-second : {W : Walk} {X : Place} {e : Expr} {r : Arms} → W.known ≡ known → W.aims ≡ aims → (h : Ready (stmt (select e r)) W X l part nesting at sizes L top holds depth cursor)
              → DoneArms r X.start.cell 1 (exit h) W (moved_to X (b h)) (at + 1 + n) (lent M.env M.ends M.stack o) N depth p₂ t
          done-second {W} {X} {e} {r} x y h = b₂.done r X.start.cell (exit h) W _ x y (owner-is h) (second_is x y h)

          pub asks-select-emit₂ : Fits (moved t) (length N.out)
          asks-select-emit₂ =
              let x = a.same_known in let y = a.same-aims in
              select-fits₂ ready n z b₁.kept (done_first x y ready) (cell-is x ready) i b₂.kept (done-second x y ready)

          module _ {p₃ : Cursor} {o₂ : List ℕ} (i₂ : (p₃ ≡ moved t) × (o₂ ≡ emit_op t N.out 20 24 0)) where
            pub asks-select-shape : Shaping N.stack o₂ holds depth p₃
            asks-select-shape =
                let x = a.same_known in let y = a.same-aims in
                select-shape ready n z b₁.kept (done_first x y ready) (cell-is x ready) i b₂.kept (done-second x y ready) i₂

            module _ {p₄ : Cursor} {o₃ : List ℕ} (j : (p₄ ≡ cursor_shaped depth p₃) × (o₃ ≡ emit_shape p₃ o₂ holds depth (take depth N.stack))) where
              pub asks-select-finish : (at < length N.ends) × (p₄.address < 65536)
              asks-select-finish =
                  let x = a.same_known in let y = a.same-aims in
                  select-finish ready n z b₁.kept (done_first x y ready) (cell-is x ready) i b₂.kept (done-second x y ready) i₂ j

              pub answers_select : {u : Cursor} {ends : List ℕ} → (u ≡ p₄) × (ends ≡ set N.ends at p₄.address)
                  → Answers (IsKind 30) known aims l part nesting at sizes L (lent N.env ends N.stack o₃) top holds depth cursor u
              answers_select f =
                  let x = a.same_known in let y = a.same-aims in
                  record {
                    kept = select_kept ready n z b₁.kept (done_first x y ready) (cell-is x ready) i b₂.kept (done-second x y ready) i₂ j f.1;
                    done = λ m W X is x y g. let w = select-of m is in let h = ready-as w.same g in
                        done-as w.same (select-done h n z b₁.kept (done_first x y h) (cell-is x h) i b₂.kept (done-second x y h) i₂ j f);
                  }
