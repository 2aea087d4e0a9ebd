-- A for: what its walker asks of its three expressions and of its statement, and that it has done its code when they have done theirs.
use Rattle.std.specs.Prelude.{◌≡◌, Bool, true, false, ℕ, ◌+◌, ◌-◌, ◌*◌, ◌/◌, ◌≤◌, ◌<◌, max, pos, get_or, drop, set, take}
use Rattle.std.proofs.Math.Path.{refl, ap, sym}
use Rattle.std.proofs.Common.{◌∙◌, add_assoc, arith, length-set}
use mathlib.Core.List.{List, ◌∷◌, ◌++◌, append_assoc, append-nil}
use Rattle.std.proofs.Math.ListN.{length, length-append}
use Rattle.words.specs.Numbers.{half_at}
use Rattle.bytecode.specs.Macro.{Shape}
use Rattle.language.specs.Tree.{Stmt, Expr, Exprs, for, count_exprs}
use Rattle.language.specs.Table.{Entry, entry}
use Rattle.language.specs.Measure.{measure_s}
use Rattle.language.specs.Limits.{holds_s, holds_e, need_s, need_e}
use Rattle.language.specs.Program.{flat_s, flat_es, deep_s, deep_es}
use Rattle.language_laws.specs.Claims.{entries_of}
use Rattle.table_entries.specs.Entries.{length-entries}
use Rattle.table_entries.specs.Sizes.{Known}
use Rattle.table_entries.specs.Spans.{span}
use Rattle.table_entries.specs.Stands.{stands-left, stands-within}
use Rattle.table_scopes.specs.Environment.{item, opened, env_of, Grown}
use Rattle.table_scopes.specs.EnvironmentLaws.{fewer}
use Rattle.table_scopes.specs.Trees.{length-Es, spans-Es}
use Rattle.table_forms.specs.Forms.{three, flat-S, deep-S}
use Rattle.table_forms.specs.Part.{head_of, table-next}
use Rattle.table_forms.specs.Simple.{count-le, small-name}
use Rattle.compile_code.specs.Code.{Code, mark, ◌▸◌, At, at, ahead, skip, taken, after}
use Rattle.compile_code.specs.Compile.{found, code_s, code_e, code_es, ty_e, code_stored, code_downward, code_upward, code_once, code_entered, code_turned}
use Rattle.compile_names.specs.Good.{GoodS}
use Rattle.compile_symbols.specs.Numbers.{numbers_from, cells_within, second_in, packed}
use Rattle.compile_symbols.specs.Packed.{second-packed}
use Rattle.compile_output.specs.declared.Cursor.{Cursor}
use Rattle.compile_output.specs.EmitRecord.{Fits, cursor_shaped, emit_shape}
use Rattle.compile_output.specs.EmitCode.{cursor_after, emitted, dry-emitted, address-small, cursor-mark, Stacked}
use Rattle.compile_nodes.specs.Ends.{below_s, ends_s, ends_e, ends_es}
use Rattle.compile_nodes.specs.Knows.{Walk}
use Rattle.compile_nodes.specs.Ready.{stmt, Place, Lent, Laid, Kept, Wrote, Ready, Done, Asks, Answers, pushed, ValuesEs, ReadyEs, DoneEs, AsksEs, AnswersEs}
use Rattle.compile_scopes.specs.Lies.{lies-here}
use Rattle.compile_scopes.specs.Lengths.{length-es}
use Rattle.compile_scopes.specs.Turns.{in_turn, around_turn, scopes-turn, held-turn, sees-in-turn, knows-in-turn, lands-in-turn}
use Rattle.compile_steps.specs.Cells.{cell-Es}
use Rattle.compile_steps.specs.Parts.{lent, below, moved_to, flat-one, laid-aim, laid-at, laid-left, laid-right, kept_then, kept_out, kept-ends, wrote_then, wrote-mark}
use Rattle.compile_steps.specs.Parts.{wrote-length, wrote-later, fits-first, fits-rest, stood-shape, need-E}
use Rattle.compile_steps.specs.Views.{IsStmt, IsKind, For, for-of}
use Rattle.compile_steps.specs.Stages.{Finished, finished-done}
use Rattle.compile_steps.specs.Shared.{Rest, rest-enter, rest-own, rest-stood, rest-fits, Shaping, ends-then, ready-as, done-as}

-- ── the code before and after a turn: where it goes on is known on the second walk only ──
-- all that it is asked with
abbrev pub Entering : ℕ → List ℕ → ℕ → ℕ → Cursor → ℕ → ℕ → Type 0
Entering c stack depth holds p z n = (c < 65536) × (depth ≤ length stack) × (depth < 256) × (holds < 256)
    × ((s : Shape) × Stacked s holds stack depth × Fits (cursor_after (code_entered c p.address z s) p) n)

abbrev pub Entered : ℕ → List ℕ → ℕ → ℕ → Cursor → ℕ → List ℕ → Cursor → List ℕ → Type 0
Entered c stack depth holds p z out q late = (s : Shape) → Stacked s holds stack depth
    → (q ≡ cursor_after (code_entered c p.address z s) p) × (late ≡ emitted (code_entered c p.address z s) p out)

abbrev pub Leaving : ℕ → ℕ → List ℕ → ℕ → ℕ → Cursor → ℕ → ℕ → Type 0
Leaving c b stack depth holds p z n = (c < 65536) × (b < 65536) × (depth ≤ length stack) × (depth < 256) × (holds < 256)
    × ((s : Shape) × Stacked s holds stack depth × Fits (cursor_after (code_turned c b z s) p) n)

abbrev pub Left : ℕ → ℕ → List ℕ → ℕ → ℕ → Cursor → ℕ → List ℕ → Cursor → List ℕ → Type 0
Left c b stack depth holds p z out q late = (s : Shape) → Stacked s holds stack depth
    → (q ≡ cursor_after (code_turned c b z s) p) × (late ≡ emitted (code_turned c b z s) p out)

entered-cursor : (c x z w : ℕ) (m : Shape) (p : Cursor) → cursor_after (code_entered c x z m) p ≡ cursor_after (code_entered c x w m) p
unfolding cursor_after code_stored code_downward code_upward code_once
entered-cursor c x z w m p = refl

turned-cursor : (c b z w : ℕ) (m : Shape) (p : Cursor) → cursor_after (code_turned c b z m) p ≡ cursor_after (code_turned c b w m) p
unfolding cursor_after code_turned
turned-cursor c b z w m p = refl

-- codes that differ by an address which only the second walk knows
module _ (f : ℕ → Code) {v : ℕ} (z : ℕ) {y : Code} (p : Cursor) (e : y ≡ f v) (same : cursor_after (f v) p ≡ cursor_after (f z) p) where
  fits-aimed : {n : ℕ} → Fits (cursor_after (f z) p) n → Fits (cursor_after y p) n
  fits-aimed k = rw (e, same) k

  wrote-aimed : (d : Bool) {a b : List ℕ} {q : Cursor} → p.dry ≡ d → (d ≡ false → v ≡ z) → (q ≡ cursor_after y p) × (b ≡ emitted y p a) → Wrote a b p q (f z)
  wrote-aimed true {a} d h w = record { advanced = w.0 ∙ (ap (λ (u : Code). cursor_after u p) e ∙ same); written = w.1 ∙ (dry-emitted y p a d ∙ sym (dry-emitted (f z) p a d)) }
  wrote-aimed false d h w = rw (← h refl, ← e) (record { advanced = w.0; written = w.1 })

-- ── expressions before others ──
rest-es : {W : Walk} {X : Place} {l : List ℕ} {at : ℕ} {L M : Lent} {top holds depth : ℕ} {cursor p : Cursor} (es : Exprs) (us : List Entry) (fs : List ℕ) {y : Code} (k : ℕ)
    → k ≡ length (flat_es es) → Kept L M top depth → DoneEs es W X at L M depth cursor p
    → Rest W X l at L top holds depth cursor (flat_es es ++ us) (ends_es W.globals es X.around X.types X.start ++ fs) (code_es W.globals es X.around X.types X.start ▸ y)
    → Rest W (moved_to X (after (code_es W.globals es X.around X.types X.start) X.start)) l (at + k) M top holds depth p us fs y
rest-es {W} {X} {at = at} es us fs k e kept d h =
    let x = code_es W.globals es X.around X.types X.start in
    let q = after x X.start in
    record {
      laid = laid-at (ap (λ (i : ℕ). at + i) (sym e)) (laid-right (flat_es es) us (ends_es W.globals es X.around X.types X.start) fs q
          (length-es W.globals es X.around X.types X.start ∙ sym (length-Es es)) (cell-Es W.globals es X.around X.types X.start) h.laid);
      stood = rest-stood q refl kept d.wrote h;
      room = omega (arith, h.room, length-append (flat_es es) us, kept.same-env);
      ending = omega (arith, h.ending, length-append (flat_es es) us, kept.same_ends, e);
      fits = rest-fits q refl kept d.wrote h;
    }

first_three : (a b c n : ℕ) → max a (max b (max c 0)) ≤ max a (max b (max c n))
first_three a b c n =
    let i : max c 0 ≤ max c n = omega arith in
    let j : max b (max c 0) ≤ max b (max c n) = omega (arith, i) in
    omega (arith, j)

each-of-four : (a b c n : ℕ) → (a ≤ max a (max b (max c n))) × (b ≤ max a (max b (max c n))) × (c ≤ max a (max b (max c n))) × (n ≤ max a (max b (max c n)))
each-of-four a b c n =
    let i : (c ≤ max c n) × (n ≤ max c n) = (omega arith, omega arith) in
    let j : (b ≤ max b (max c n)) × (max c n ≤ max b (max c n)) = (omega arith, omega arith) in
    let k : (a ≤ max a (max b (max c n))) × (max b (max c n) ≤ max a (max b (max c n))) = (omega arith, omega arith) in
    (k.0, omega (arith, j.0, k.1), omega (arith, i.0, j.1, k.1), omega (arith, i.1, j.1, k.1))

laid_as : {W : Walk} {l : List ℕ} {at : ℕ} {p : At} {us vs : List Entry} {es fs : List ℕ} → us ≡ vs → es ≡ fs → Laid W l at p us es → Laid W l at p vs fs
laid_as e f h = rw (← e, ← f) h

module _ {a : ℕ} {e f g : Expr} {s : Stmt} {W : Walk} {X : Place} {l part : List ℕ} {nesting at : ℕ} {sizes : List ℕ} {L : Lent} {top holds depth : ℕ} {cursor : Cursor}
    (h : Ready (stmt (for a e f g s)) W X l part nesting at sizes L top holds depth cursor) where
  -- its first cell, and where its expressions begin
  abbrev c : ℕ
  c = X.start.cell

  abbrev q : At
  q = taken (taken (taken X.start))

  abbrev es : Exprs
  es = three e f g

  abbrev x : Code
  x = code_es W.globals es X.around X.types q

  abbrev entry-at : At
  entry-at = after x q

  -- where its turns begin, and what lies around its statement
  abbrev b : At
  b = skip 48 entry-at

  abbrev Y : Place
  Y = record { around = around_turn a c X.around; types = X.types; start = b }

  abbrev w : Code
  w = code_s W.globals s Y.around X.types b

  abbrev exit : ℕ
  exit = ahead 13 (after w b).address

  abbrev m : Shape
  m = found X.around X.types

  abbrev m₃ : Shape
  m₃ = found X.around (pushed W.globals X.around es X.types)

  abbrev enter : Code
  enter = code_entered c entry-at.address exit m

  abbrev turned : Code
  turned = code_turned c b.address exit m

  abbrev all : Code
  all = x ▸ (mark m₃ ▸ (enter ▸ (w ▸ turned)))

  abbrev whole : Code
  whole = code_s W.globals (for a e f g s) X.around X.types X.start

  abbrev us : List ℕ
  us = ends_es W.globals es X.around X.types q

  abbrev fs : List ℕ
  fs = ends_s W.globals s Y.around X.types b

  ends-all : ends_s W.globals (for a e f g s) X.around X.types X.start ≡ (after whole X.start).address ∷ (us ++ fs)
  unfolding below_s ends_es code_es after
  ends-all =
      let es₁ = ends_e W.globals e X.around X.types q in let q₁ = after (code_e W.globals e X.around X.types q) q in
      let ts = ty_e W.globals X.around e ∷ X.types in let es₂ = ends_e W.globals f X.around ts q₁ in let q₂ = after (code_e W.globals f X.around ts q₁) q₁ in
      let es₃ = ends_e W.globals g X.around (ty_e W.globals X.around f ∷ ts) q₂ in
      ap (λ (v : List ℕ). (after whole X.start).address ∷ v) (rw (append-nil es₃, append_assoc es₁ (es₂ ++ es₃) fs, append_assoc es₂ es₃ fs))

  in_all : Rest W X l at L top holds depth cursor (entry 31 a (pos 0) ∷ (flat_es es ++ flat_s s)) ((after whole X.start).address ∷ (us ++ fs)) all
  unfolding code_s code_es cursor_after pushed after
  in_all =
      record {
        laid = laid_as (flat-S (for a e f g s)) ends-all h.laid;
        stood = h.stood;
        room = omega (arith, h.room, ap (length {A = Entry}) (flat-S (for a e f g s)));
        ending = omega (arith, h.ending, ap (length {A = Entry}) (flat-S (for a e f g s)));
        fits = h.fits;
      }

  below_all : Rest W (moved_to X q) l (at + 1) L top holds depth cursor (flat_es es ++ flat_s s) (us ++ fs) all
  below_all = rest-enter (entry 31 a (pos 0)) (flat_es es ++ flat_s s) _ _ _ q (omega arith) refl in_all

  nested : (deep_es es ≤ nesting - 1) × (deep_s s ≤ nesting - 1)
  nested = (omega (arith, h.deep, deep-S (for a e f g s)), omega (arith, h.deep, deep-S (for a e f g s)))

  abbrev need : ℕ
  need = max (need_e e) (max (1 + need_e f) (max (2 + need_e g) (need_s s)))

  needs : (need_e e ≤ need) × (1 + need_e f ≤ need) × (2 + need_e g ≤ need) × (need_s s ≤ need)
  needs = each-of-four (need_e e) (1 + need_e f) (2 + need_e g) (need_s s)

  values : depth + need ≤ 32
  unfolding measure_s
  values = h.few-values

  pub turn-first : ReadyEs es W (moved_to X q) l (below part 8) 3 (nesting - 1) (at + 1) sizes L top holds depth cursor
  unfolding measure_s GoodS ValuesEs count_exprs
  turn-first =
      record {
        table = table-next h.table 8 1 refl;
        laid = laid-left (flat_es es) (flat_s s) _ _ below_all.laid;
        stood = below_all.stood;
        room = omega (arith, below_all.room, length-append (flat_es es) (flat_s s));
        ending = omega (arith, below_all.ending, length-append (flat_es es) (flat_s s));
        fits = fits-first x _ cursor (length L.out) below_all.fits;
        deep = nested.0;
        good = (h.good.0, (h.good.2, (h.good.4, tt)));
        few-holds = omega (arith, h.few-holds, first_three (holds_e e) (holds_e f) (holds_e g) (holds_s s));
        few-values = (omega (arith, values, needs.0), (omega (arith, values, needs.1), (omega (arith, values, needs.2), tt)));
        many = refl;
      }

  few : holds ≤ 16
  few = omega (arith, h.few-holds)

  more-values : depth + 3 ≤ 32
  more-values = omega (arith, values, needs.2, need-E g)

  -- what is known of it, and where it ends
  number : get_or W.known at 0 ≡ packed 1 0 c
  unfolding numbers_from
  number = lies-here _ _ in_all.laid.numbered

  cells : c + 3 ≤ 32
  unfolding cells_within
  cells = omega (arith, in_all.laid.cells)

  pub turn-cell : second_in (get_or W.known at 0) ≡ c
  turn-cell = ap second_in number ∙ second-packed 1 0 c (omega arith) (omega arith) (omega (arith, cells))

  pub turn-exit : W.dry ≡ false → get_or W.aims at 0 ≡ exit
  unfolding code_s code_es after code_stored code_downward code_upward code_once code_turned
  turn-exit d = laid-aim _ _ _ in_all.laid d

  entries : at + 1 + length (flat_es es) ≤ length l / 8
  entries = omega (arith, stands-within _ _ in_all.laid.stands, length-entries (length l / 8) l, length-append (flat_es es) (flat_s s))

  pub turn-spans : Known l sizes × (at + 1 ≤ length l / 8)
  turn-spans = (h.table.known, omega (arith, entries))

  at_least : 3 ≤ length (flat_es es)
  unfolding count_exprs
  at_least = count-le es

  module _ (n : ℕ) (z : n ≡ span 3 (drop (at + 1) (entries_of l))) where
    size : n ≡ length (flat_es es)
    unfolding count_exprs
    size = let v = stands-left (flat_es es) (flat_s s) below_all.laid.stands in z ∙ ap (λ (us : List Entry). span 3 us) v.split ∙ (spans-Es es).spans v.rest

    pub turn-within : (8 * (1 + n) ≤ length part) × (at + 1 + n ≤ 2048)
    turn-within = (omega (arith, size, entries, (head_of _ _ h.table in_all.laid.stands).long), omega (arith, size, entries, h.table.legible.short))

    module _ {M : Lent} {p : Cursor} (k : Kept L M top depth) (d : DoneEs es W (moved_to X q) (at + 1) L M depth cursor p) where
      after_first : Rest W (moved_to X entry-at) l (at + 1 + n) M top holds depth p (flat_s s) fs (mark m₃ ▸ (enter ▸ (w ▸ turned)))
      after_first = rest-es es (flat_s s) fs n size k d below_all

      three-held : Stacked m₃ holds M.stack (depth + 3)
      unfolding pushed count_exprs
      three-held = record { same-holds = sym h.stood.held; same-depth = omega (arith, h.stood.deep); same-types = d.typed }

      pub turn-shape : Shaping M.stack M.out holds (depth + 3) p
      turn-shape = (
        omega (arith, more-values, h.stood.stacked, k.same-stack),
        omega (arith, more-values),
        omega (arith, few),
        rw (cursor-mark m₃ holds (depth + 3) M.stack three-held p) (fits-first (mark m₃) _ p (length M.out) after_first.fits),
      )

      module _ {p₂ : Cursor} {o : List ℕ} (j : (p₂ ≡ cursor_shaped (depth + 3) p) × (o ≡ emit_shape p M.out holds (depth + 3) (take (depth + 3) M.stack))) where
        shaped : Wrote M.out o p p₂ (mark m₃)
        shaped = wrote-mark m₃ holds (depth + 3) M.stack three-held j

        after-shape : Rest W (moved_to X entry-at) l (at + 1 + n) (lent M.env M.ends M.stack o) top holds depth p₂ (flat_s s) fs (enter ▸ (w ▸ turned))
        unfolding after
        after-shape = rest-own entry-at refl (kept_out M o (wrote-length shaped)) shaped (flat_s s) fs refl after_first

        module _ {cl v : ℕ} (cs : cl ≡ c) (vs : W.dry ≡ false → v ≡ exit) where
          entered-same : code_entered cl p₂.address v m ≡ code_entered c entry-at.address v m
          entered-same = ap (λ (y : ℕ). code_entered y p₂.address v m) cs ∙ ap (λ (y : ℕ). code_entered c y v m) after-shape.stood.address

          pub turn-enter : Entering cl M.stack depth holds p₂ v (length o)
          turn-enter = (
            omega (arith, cs, cells),
            omega (arith, more-values, after-shape.stood.stacked),
            omega (arith, more-values),
            omega (arith, few),
            (
              m,
              stood-shape after-shape.stood,
              fits-aimed (λ y. code_entered c entry-at.address y m) exit p₂ entered-same (entered-cursor c entry-at.address v exit m p₂) (fits-first enter _ p₂ (length o) after-shape.fits),
            ),
          )

          module _ {p₃ : Cursor} {o₂ : List ℕ} (i : Entered cl M.stack depth holds p₂ v o p₃ o₂) where
            entered : Wrote o o₂ p₂ p₃ enter
            entered =
                wrote-aimed (λ y. code_entered c entry-at.address y m) exit p₂ entered-same (entered-cursor c entry-at.address v exit m p₂)
                W.dry after-shape.stood.dryness vs (i m (stood-shape after-shape.stood))

            after-enter : Rest W (moved_to X b) l (at + 1 + n) (lent M.env M.ends M.stack o₂) top holds depth p₃ (flat_s s) fs (w ▸ turned)
            unfolding after code_stored code_downward code_upward code_once
            after-enter = rest-own b refl (kept_out (lent M.env M.ends M.stack o) o₂ (wrote-length entered)) entered (flat_s s) fs refl after-shape

            pub turn-began : p₃.address < 65536
            turn-began = address-small (w ▸ turned) p₃ (length o₂) after-enter.fits

            pub turn-room : (at < 2048) × (4 * (top + 2) ≤ length M.env)
            turn-room = (omega (arith, entries, h.table.legible.short), omega (arith, below_all.room, length-append (flat_es es) (flat_s s), at_least, k.same-env))

            module _ {name : ℕ} (ns : name ≡ half_at part 2) {new : List ℕ} {up : ℕ}
                (u : (up ≡ top + 2) × Grown top M.env new up (item name 8 1 at ∷ (item opened 0 0 0 ∷ env_of M.env top)) 2) where
              control : half_at part 2 ≡ a
              control = (head_of _ _ h.table in_all.laid.stands).a

              small : a < 65536
              small = rw control at (small-name h.table)

              within-turn : env_of new up ≡ in_turn a at (env_of L.env top)
              within-turn = u.1.now ∙ rw (ns, control, k.env)

              pub turn-second : Ready (stmt s) W Y l (below part (8 * (1 + n))) (nesting - 1) (at + 1 + n) sizes (lent new M.ends M.stack o₂) up holds depth p₃
              unfolding measure_s GoodS
              turn-second =
                  record {
                    table = rw (add_assoc at 1 n) (table-next h.table (8 * (1 + n)) (1 + n) refl);
                    laid = after-enter.laid;
                    stood =
                        record {
                          sees = rw within-turn (sees-in-turn X.around a at c small h.stood.sees);
                          knows = rw within-turn (knows-in-turn a at c small number (omega (arith, cells)) h.stood.knows);
                          held = h.stood.held ∙ sym (ap length (held-turn a c X.around));
                          deep = h.stood.deep;
                          typed = after-enter.stood.typed;
                          stacked = after-enter.stood.stacked;
                          address = after-enter.stood.address;
                          dryness = after-enter.stood.dryness;
                          inside = after-enter.stood.inside;
                        };
                    room = omega (arith, below_all.room, length-append (flat_es es) (flat_s s), at_least, k.same-env, u.0, u.1.same);
                    ending = after-enter.ending;
                    fits = fits-first w turned p₃ (length o₂) after-enter.fits;
                    deep = nested.1;
                    good = rw (scopes-turn a c X.around) h.good.6;
                    lands = rw within-turn (lands-in-turn a at c small h.lands);
                    few-holds = omega (arith, h.few-holds, (each-of-four (holds_e e) (holds_e f) (holds_e g) (holds_s s)).3);
                    few-values = omega (arith, values, needs.3);
                  }

              module _ {N : Lent} {t : Cursor} (k₂ : Kept (lent new M.ends M.stack o₂) N up depth)
                  (d₂ : Done (stmt s) W Y (at + 1 + n) (lent new M.ends M.stack o₂) N depth p₃ t) where
                kept-two : Kept L N top depth
                kept-two =
                    kept_then k (record {
                      env = fewer N.env new top up u.1.least k₂.env ∙ u.1.kept;
                      same-env = k₂.same-env ∙ u.1.same;
                      same_ends = k₂.same_ends;
                      stack = k₂.stack;
                      same-stack = k₂.same-stack;
                      same_out = k₂.same_out ∙ (wrote-length entered ∙ wrote-length shaped);
                    })

                found-again : Stacked m holds N.stack depth
                found-again = record { same-holds = sym h.stood.held; same-depth = sym h.stood.deep; same-types = h.stood.typed ∙ sym kept-two.stack }

                left-fits : Fits (cursor_after turned t) (length N.out)
                left-fits = fits-rest w turned d₂.wrote after-enter.fits

                turned_same : code_turned cl p₃.address v m ≡ code_turned c b.address v m
                turned_same = ap (λ (y : ℕ). code_turned y p₃.address v m) cs ∙ ap (λ (y : ℕ). code_turned c y v m) after-enter.stood.address

                pub turn-leave : Leaving cl p₃.address N.stack depth holds t v (length N.out)
                turn-leave = (
                  omega (arith, cs, cells),
                  turn-began,
                  omega (arith, more-values, h.stood.stacked, kept-two.same-stack),
                  omega (arith, more-values),
                  omega (arith, few),
                  (m, found-again, fits-aimed (λ y. code_turned c b.address y m) exit t turned_same (turned-cursor c b.address v exit m t) left-fits),
                )

                module _ {t₂ : Cursor} {o₃ : List ℕ} (i₂ : Left cl p₃.address N.stack depth holds t v N.out t₂ o₃) where
                  left : Wrote N.out o₃ t t₂ turned
                  left =
                      wrote-aimed (λ y. code_turned c b.address y m) exit t turned_same (turned-cursor c b.address v exit m t)
                      W.dry ((wrote-later d₂.wrote).same-dry ∙ after-enter.stood.dryness) vs (i₂ m found-again)

                  over : Finished L cursor at o₃ N.ends t₂ all (us ++ fs)
                  over =
                      let y : Fits t₂ (length N.out) = rw left.advanced left-fits in
                      record {
                        wrote = wrote_then d.wrote (wrote_then shaped (wrote_then entered (wrote_then d₂.wrote left)));
                        ended = ends-then L.ends (at + 1) n us fs (size ∙ (length-Es es ∙ sym (length-es W.globals es X.around X.types q))) d.ended d₂.ended;
                        small = y.address-small;
                      }

                  pub turn-finish : (at < length N.ends) × (t₂.address < 65536)
                  turn-finish = (omega (arith, h.ending, flat-one (stmt (for a e f g s)), kept-two.same_ends), over.small)

                  pub turn-done : {r : Cursor} {ends : List ℕ} → (r ≡ t₂) × (ends ≡ set N.ends at t₂.address)
                      → Done (stmt (for a e f g s)) W X at L (lent N.env ends N.stack o₃) depth cursor r
                  unfolding code_s code_es cursor_after emitted pushed after
                  turn-done y = rw y.0 (finished-done (stmt (for a e f g s)) X over h.stood.address refl refl ends-all y.1 N.env N.stack tt)

                  pub turn-kept : {ends : List ℕ} → ends ≡ set N.ends at t₂.address → Kept L (lent N.env ends N.stack o₃) top depth
                  turn-kept {ends} y =
                      kept_then kept-two (kept_then (kept_out N o₃ (wrote-length left))
                      (kept-ends (lent N.env N.ends N.stack o₃) ends (ap (length {A = ℕ}) y ∙ length-set N.ends at t₂.address)))

-- ── for the walker ──
module _ {known aims l part : List ℕ} {nesting at : ℕ} {sizes : List ℕ} {L : Lent} {top holds depth : ℕ} {cursor : Cursor}
    (r : Asks (IsKind 31) known aims l part nesting at sizes L top holds depth cursor) where
  abbrev Readied : Stmt → Walk → Place → Type 0
  Readied s W X = Ready (stmt s) W X l part nesting at sizes L top holds depth cursor

  its : For r.node
  its = for-of r.node r.such

  ready : Readied (for its.a its.e its.f its.g its.s) r.walk r.place
  ready = ready-as its.same r.ready

  pub asks-turn-first : AsksEs known aims l (below part 8) 3 (nesting - 1) (at + 1) sizes L top holds depth cursor
  asks-turn-first =
      record {
        exprs = three its.e its.f its.g;
        walk = r.walk;
        place = _;
        same_known = r.same_known;
        same-aims = r.same-aims;
        ready = turn-first ready;
      }

  pub asks-turn-spans : Known l sizes × (at + 1 ≤ length l / 8)
  asks-turn-spans = turn-spans ready

  module _ (n : ℕ) (z : n ≡ span 3 (drop (at + 1) (entries_of l))) where
    pub asks-turn-within : (8 * (1 + n) ≤ length part) × (at + 1 + n ≤ 2048)
    asks-turn-within = turn-within ready n z

    module _ {M : Lent} {p : Cursor} (b₁ : AnswersEs known aims l (below part 8) 3 (nesting - 1) (at + 1) sizes L M top holds depth cursor p) where
      done_first : {a : ℕ} {e f g : Expr} {s : Stmt} {W : Walk} {X : Place} → W.known ≡ known → W.aims ≡ aims → (h : Readied (for a e f g s) W X)
          → DoneEs (three e f g) W (moved_to X (taken (taken (taken X.start)))) (at + 1) L M depth cursor p
      done_first {e = e} {f} {g} {W = W} x y h = b₁.done (three e f g) W _ x y (turn-first h)

      d : DoneEs (three its.e its.f its.g) r.walk (moved_to r.place (taken (taken (taken r.place.start)))) (at + 1) L M depth cursor p
      d = done_first r.same_known r.same-aims ready

      pub asks-turn-shape : Shaping M.stack M.out holds (depth + 3) p
      asks-turn-shape = turn-shape ready n z b₁.kept d

      module _ {p₂ : Cursor} {o : List ℕ} (j : (p₂ ≡ cursor_shaped (depth + 3) p) × (o ≡ emit_shape p M.out holds (depth + 3) (take (depth + 3) M.stack)))
          {cl v : ℕ} (cs : cl ≡ second_in (get_or known at 0)) (vs : v ≡ get_or aims at 0) where
        cell-of : {a : ℕ} {e f g : Expr} {s : Stmt} {W : Walk} {X : Place} → W.known ≡ known → Readied (for a e f g s) W X → cl ≡ X.start.cell
        cell-of x h = cs ∙ rw (← x) (turn-cell h)

        exit-of : {W : Walk} {X : Place} {a : ℕ} {e f g : Expr} {s : Stmt} → W.aims ≡ aims → (h : Readied (for a e f g s) W X) → W.dry ≡ false → v ≡ exit h
        exit-of y h i = vs ∙ rw (← y) (turn-exit h i)

        pub asks-turn-enter : Entering cl M.stack depth holds p₂ v (length o)
        asks-turn-enter = turn-enter ready n z b₁.kept d j (cell-of r.same_known ready) (exit-of r.same-aims ready)

        module _ {p₃ : Cursor} {o₂ : List ℕ} (i : Entered cl M.stack depth holds p₂ v o p₃ o₂) where
          pub asks-turn-began : p₃.address < 65536
          asks-turn-began = turn-began ready n z b₁.kept d j (cell-of r.same_known ready) (exit-of r.same-aims ready) i

          pub asks-turn-room : (at < 2048) × (4 * (top + 2) ≤ length M.env)
          asks-turn-room = turn-room ready n z b₁.kept d j (cell-of r.same_known ready) (exit-of r.same-aims ready) i

          module _ {name : ℕ} (ns : name ≡ half_at part 2) {new : List ℕ} {up : ℕ}
              (u : (up ≡ top + 2) × Grown top M.env new up (item name 8 1 at ∷ (item opened 0 0 0 ∷ env_of M.env top)) 2) where
            ready-second : {a : ℕ} {e f g : Expr} {s : Stmt} {W : Walk} {X : Place} (x : W.known ≡ known) (y : W.aims ≡ aims) (h : Readied (for a e f g s) W X)
                → Ready (stmt s) W (Y h) l (below part (8 * (1 + n))) (nesting - 1) (at + 1 + n) sizes (lent new M.ends M.stack o₂) up holds depth p₃
            ready-second x y h = turn-second h n z b₁.kept (done_first x y h) j (cell-of x h) (exit-of y h) i ns u

            pub asks-turn-second : Asks IsStmt known aims l (below part (8 * (1 + n))) (nesting - 1) (at + 1 + n) sizes (lent new M.ends M.stack o₂) up holds depth p₃
            asks-turn-second =
                record {
                  node = stmt its.s;
                  walk = r.walk;
                  place = Y ready;
                  such = tt;
                  same_known = r.same_known;
                  same-aims = r.same-aims;
                  ready = ready-second r.same_known r.same-aims ready;
                }

            module _ {N : Lent} {t : Cursor}
                (b₂ : Answers IsStmt known aims l (below part (8 * (1 + n))) (nesting - 1) (at + 1 + n) sizes (lent new M.ends M.stack o₂) N up holds depth p₃ t) where
              done-second : {a : ℕ} {e f g : Expr} {s : Stmt} {W : Walk} {X : Place} (x : W.known ≡ known) (y : W.aims ≡ aims) (h : Readied (for a e f g s) W X)
                  → Done (stmt s) W (Y h) (at + 1 + n) (lent new M.ends M.stack o₂) N depth p₃ t
              done-second {s = s} {W} x y h = b₂.done (stmt s) W (Y h) tt x y (ready-second x y h)

              pub asks-turn-leave : Leaving cl p₃.address N.stack depth holds t v (length N.out)
              asks-turn-leave =
                  turn-leave ready n z b₁.kept d j (cell-of r.same_known ready) (exit-of r.same-aims ready) i ns u b₂.kept
                  (done-second r.same_known r.same-aims ready)

              module _ {t₂ : Cursor} {o₃ : List ℕ} (i₂ : Left cl p₃.address N.stack depth holds t v N.out t₂ o₃) where
                pub asks-turn-finish : (at < length N.ends) × (t₂.address < 65536)
                asks-turn-finish =
                    turn-finish ready n z b₁.kept d j (cell-of r.same_known ready) (exit-of r.same-aims ready) i ns u b₂.kept
                    (done-second r.same_known r.same-aims ready) i₂

                pub answers-turn : {q₂ : Cursor} {ends : List ℕ} → (q₂ ≡ t₂) × (ends ≡ set N.ends at t₂.address)
                    → Answers (IsKind 31) known aims l part nesting at sizes L (lent N.env ends N.stack o₃) top holds depth cursor q₂
                answers-turn {q₂} {ends} y₂ =
                    record {
                      kept = turn-kept ready n z b₁.kept d j (cell-of r.same_known ready) (exit-of r.same-aims ready) i ns u b₂.kept
                          (done-second r.same_known r.same-aims ready) i₂ y₂.1;
                      done = λ k W X is x y g. let v' = for-of k is in let h = ready-as v'.same g in
                          done-as v'.same (turn-done h n z b₁.kept (done_first x y h) j (cell-of x h) (exit-of y h) i ns u b₂.kept (done-second x y h) i₂ y₂);
                    }
