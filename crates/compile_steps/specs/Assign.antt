-- An assignment, to a variable or to a field: what its walker asks of its parts, and that it has done its code when they have done theirs.
use Rattle.std.specs.Prelude.{◌≡◌, List, [], ◌∷◌, ◌++◌, ℕ, suc, ◌+◌, ◌-◌, ◌*◌, ◌≤◌, ◌<◌, pos, get_or, set}
use Rattle.std.proofs.Math.Path.{refl}
use Rattle.std.proofs.Common.{ap, sym, ◌∙◌, subst, length-set}
use native.Mathlib.Omega.{arith}
use Rattle.std.proofs.Math.ListN.{length}
use Rattle.std.proofs.lemmas.List.Edits.{sets}
use Rattle.language.specs.Measure.{measure_s}
use Rattle.language.specs.Program.{flat_s, flat_e}
use Rattle.words.specs.Numbers.{half_at}
use Rattle.bytecode.specs.Instructions.{Instr, put_field}
use Rattle.language.specs.Tree.{assign, Target, to_variable, to_field, Expr, variable, field}
use Rattle.language.specs.Table.{entry}
use Rattle.language.specs.Names.{is_variable, is_field}
use Rattle.language_laws.specs.Claims.{entries_of}
use Rattle.table_scopes.specs.Environment.{Item, env_of}
use Rattle.table_entries.specs.Entries.{half-part}
use Rattle.table_entries.specs.Stands.{Stands, stands-left, stands-tail}
use Rattle.table_scopes.specs.Defines.{name-small}
use Rattle.table_forms.specs.Part.{Head, head_of, table-next, Passes}
use Rattle.table_forms.specs.Walk.{Table}
use Rattle.compile_code.specs.Code.{Code, nil, op, ◌▸◌, after}
use Rattle.compile_code.specs.Compile.{storing, cell_of, field_number, code_s, code_e, ty_e}
use Rattle.compile_code.specs.Encode.{rec, record_of}
use Rattle.compile_symbols.specs.Numbers.{first_in, second_in}
use Rattle.compile_symbols.specs.Meaning.{meaning_of}
use Rattle.compile_names.specs.Good.{GoodS}
use Rattle.compile_output.specs.declared.Cursor.{Cursor}
use Rattle.compile_output.specs.EmitRecord.{Fits, moved, emit_op}
use Rattle.compile_output.specs.EmitCode.{cursor_after, emitted, cursor-op}
use Rattle.compile_emit.specs.EmitEntry.{owner_by}
use Rattle.compile_nodes.specs.Ends.{below_s, ends_e}
use Rattle.compile_nodes.specs.Knows.{Walk}
use Rattle.compile_nodes.specs.Ready.{Node, stmt, expr, Place, Lent, Stood, Kept, Wrote, Ready, Done, Asks, Answers}
use Rattle.compile_steps.specs.Named.{meaning-of, variable-store, field-first, field-second}
use Rattle.compile_steps.specs.Parts.{lent, below, moved_to, held_on, size-N, passes-N, flat-one, kept_then, kept_out, kept-ends, kept_less, wrote_then, wrote-op, wrote-address, wrote-length}
use Rattle.compile_steps.specs.Parts.{fits-start}
use Rattle.compile_steps.specs.Views.{IsExpr, IsKind, assign-of}
use Rattle.compile_steps.specs.Shared.{Rest, rest-enter, rest-left, rest-push, rest-lent, rest_at, rest-ready, rest-stood, rest-fits, ends-then, ends-own, ends-N, table-from, finishing}
use Rattle.compile_steps.specs.Shared.{ready-as, done-as}

-- ── the second entry: the target's ──
half-second : {l part sizes : List ℕ} {at : ℕ} → Table l part sizes at → (i : ℕ) → half_at part (8 + i) ≡ half_at (below part 8) i
half-second {l} {part} {sizes} {at} t i =
    let n = table-next t 8 1 refl in
    let z : 8 * at + (8 + i) ≡ 8 * (at + 1) + i = omega arith in
    rw (n.whole, t.whole, half-part l (8 * at) (8 + i), half-part l (8 * (at + 1)) i, z)

module _ {x : Target} {e : Expr} {W : Walk} {X : Place} {l part : List ℕ} {nesting at : ℕ} {sizes : List ℕ} {L : Lent} {top holds depth : ℕ}
    {cursor : Cursor} (h : Ready (stmt (assign x e)) W X l part nesting at sizes L top holds depth cursor) where
  pub assign-room : 4 * top ≤ length L.env
  assign-room = omega (arith, h.room)

  target-table : Table l (below part 8) sizes (at + 1)
  target-table = table-next h.table 8 1 refl

  -- its name
  name_below : (a : ℕ) → half_at part 10 ≡ a → a < 65536
  name_below a e =
      let z : half_at part 10 ≡ half_at l (8 * (at + 1) + 2) = half-second h.table 2 ∙ (rw target-table.whole (half-part l (8 * (at + 1)) 2)) in
      subst (λ (k : ℕ). k < 65536) (sym z ∙ e) (name-small h.table.legible (at + 1))

-- ── to a variable ──
module _ {a : ℕ} {e : Expr} {W : Walk} {X : Place} {l part : List ℕ} {nesting at : ℕ} {sizes : List ℕ} {L : Lent} {top holds depth : ℕ} {cursor : Cursor}
    (h : Ready (stmt (assign (to_variable a) e)) W X l part nesting at sizes L top holds depth cursor) where
  abbrev y : Code
  y = code_e W.globals e X.around X.types X.start

  abbrev es : List ℕ
  es = ends_e W.globals e X.around X.types X.start

  abbrev put : Instr
  put = storing (cell_of a X.around)

  abbrev all : Code
  all = nil ▸ (y ▸ op put)

  in_all : Rest W X l at L top holds depth cursor (entry 21 0 (pos 0) ∷ (entry 44 a (pos 0) ∷ flat_e e)) ((after all X.start).address ∷ (X.start.address ∷ es)) all
  unfolding flat_s code_s below_s after
  in_all = record { laid = h.laid; stood = h.stood; room = h.room; ending = h.ending; fits = h.fits }

  target-head : Head l (below part 8) (at + 1) (entry 44 a (pos 0))
  target-head = head_of _ (flat_e e) (target-table h) (stands-tail _ _ in_all.laid.stands)

  pub variable-kind : half_at part 8 ≡ 44
  variable-kind = half-second h.table 0 ∙ target-head.kind

  variable-name : half_at part 10 ≡ a
  variable-name = half-second h.table 2 ∙ target-head.a

  pub variable-long : (16 ≤ length part) × (1 ≤ nesting)
  unfolding measure_s
  variable-long = let d = head_of _ _ h.table in_all.laid.stands in (omega (arith, d.long, d.within, target-head.within), omega (arith, h.deep))

  target_one : Stands (entries_of l) (at + 1) (flat_e (variable a))
  unfolding flat_e
  target_one = record { rest = flat_e e ++ s.rest; split = s.split }
    where
      s : Stands (entries_of l) (at + 1) (entry 44 a (pos 0) ∷ flat_e e)
      s = stands-tail _ _ in_all.laid.stands

  module _ (n : ℕ) (z : n ≡ get_or sizes (at + 1) 0) where
    size-one : n ≡ 1
    unfolding flat_e
    size-one = z ∙ size-N (expr (variable a)) (target-table h) target_one

    pub variable-passes : Passes (below part 8) sizes (at + 1) n
    variable-passes = passes-N (expr (variable a)) (target-table h) target_one n z

    pub variable-first : (at + 1 < length L.ends) × (cursor.address < 65536)
    variable-first = (omega (arith, in_all.ending), (fits-start all cursor (length L.out) in_all.fits).address-small)

    module _ {p : Cursor} {ends : List ℕ} (f : (p ≡ cursor) × (ends ≡ set L.ends (at + 1) cursor.address)) where
      kept-first : Kept L (lent L.env ends L.stack L.out) top depth
      kept-first = kept-ends L ends (rw f.1 (length-set L.ends (at + 1) cursor.address))

      after-target : Rest W X l (at + 1 + n) (lent L.env ends L.stack L.out) top holds depth p (flat_e e) es (y ▸ op put)
      unfolding cursor_after
      after-target =
          let r = rest-enter (entry 21 0 (pos 0)) _ _ _ _ X.start (omega arith) refl in_all in
          let s = rest-enter (entry 44 a (pos 0)) (flat_e e) _ _ _ X.start (omega arith) refl r in
          let t = rest-lent (flat_e e) es kept-first f.0 (rest_at (let w : at + 1 + 1 ≡ at + 1 + n = omega (arith, size-one) in w) s) in
          record { laid = t.laid; stood = t.stood; room = t.room; ending = t.ending; fits = t.fits }

      pub variable-second : Ready (expr e) W X l (below part (8 * (at + 1 + n - at))) (nesting - 1) (at + 1 + n) sizes (lent L.env ends L.stack L.out) top holds depth p
      unfolding measure_s GoodS
      variable-second =
          rest-ready (expr e) (table-from (at + 1 + n) (omega arith) h.table) (omega (arith, h.deep)) h.good.1 tt (omega (arith, h.few-holds)) (omega (arith, h.few-values)) after-target

      module _ {N : Lent} {q : Cursor} (k : Kept (lent L.env ends L.stack L.out) N top depth) (d : Done (expr e) W X (at + 1 + n) (lent L.env ends L.stack L.out) N depth p q) where
        stood-second : Stood W (moved_to X (after y X.start)) l N top holds depth q
        stood-second = rest-stood (after y X.start) refl k d.wrote after-target

        pub variable-fits : Fits (moved q) (length N.out)
        variable-fits = rw (cursor-op put q) (rest-fits (after y X.start) refl k d.wrote after-target)

        module _ {m : ℕ} {r : Cursor} {o : List ℕ} (mean : m ≡ meaning_of (half_at part 10) (env_of L.env top) W.known)
            (i : (r ≡ moved q) × (o ≡ emit_op q N.out 6 (owner_by q.inside m) (second_in m))) where
          meant : record_of put ≡ rec 6 (owner_by q.inside m) (second_in m)
          unfolding GoodS
          meant =
              variable-store (meaning-of h.stood.sees h.stood.knows a (name_below h a variable-name) (is_variable h.good.0.0)
              h.good.0.1.0 h.good.0.1.1) m (rw variable-name at mean) q.inside stood-second.inside

          stored : Wrote N.out o q r (op put)
          stored = wrote-op put 6 (owner_by q.inside m) (second_in m) i (λ w. meant)

          kept-all : Kept L N top depth
          kept-all = kept_then kept-first k

          pub variable-finish : (at < length N.ends) × (r.address < 65536)
          variable-finish = finishing h.ending (flat-one (stmt (assign (to_variable a) e))) kept-all.same_ends i.0 variable-fits

          wrote-all : Wrote L.out o cursor r all
          unfolding cursor_after emitted
          wrote-all = wrote_then (record { advanced = f.0; written = refl }) (wrote_then d.wrote stored)

          ended-below : N.ends ≡ sets L.ends (at + 1) ((X.start.address ∷ []) ++ es)
          ended-below = ends-then L.ends (at + 1) n (X.start.address ∷ []) es size-one (f.1 ∙ ap (λ (v : ℕ). set L.ends (at + 1) v) h.stood.address) d.ended

          pub variable-done : {u : Cursor} {last : List ℕ} → (u ≡ r) × (last ≡ set N.ends at r.address)
              → Done (stmt (assign (to_variable a) e)) W X at L (lent N.env last N.stack o) depth cursor u
          unfolding code_s below_s after
          variable-done g =
              record {
                wrote = rw g.0 wrote-all;
                ended = ends-own L.ends at r.address (after all X.start).address (X.start.address ∷ es) ended-below g.1 (wrote-address X.start wrote-all h.stood.address);
                leaves = tt;
              }

          pub variable-kept : {last : List ℕ} → last ≡ set N.ends at r.address → Kept L (lent N.env last N.stack o) top depth
          variable-kept {last} g =
              kept_then kept-all (kept_then (kept_out N o (wrote-length stored))
              (kept-ends (lent N.env N.ends N.stack o) last (rw g (length-set N.ends at r.address))))

-- ── to a field ──
module _ {a : ℕ} {f e : Expr} {W : Walk} {X : Place} {l part : List ℕ} {nesting at : ℕ} {sizes : List ℕ} {L : Lent} {top holds depth : ℕ} {cursor : Cursor}
    (h : Ready (stmt (assign (to_field a f) e)) W X l part nesting at sizes L top holds depth cursor) where
  abbrev x : Code
  x = code_e W.globals f X.around X.types X.start

  -- the reference waits while the value is computed
  abbrev Y : Place
  Y = held_on (ty_e W.globals X.around f) X (after x X.start)

  abbrev v : Code
  v = code_e W.globals e X.around Y.types Y.start

  abbrev fs : List ℕ
  fs = ends_e W.globals f X.around X.types X.start

  abbrev ks : List ℕ
  ks = ends_e W.globals e X.around Y.types Y.start

  abbrev into : Instr
  into = put_field (field_number W.globals a).class (field_number W.globals a).index

  abbrev whole : Code
  whole = x ▸ (v ▸ op into)

  in_both : Rest W X l at L top holds depth cursor (entry 21 0 (pos 0) ∷ (entry 46 a (pos 0) ∷ (flat_e f ++ flat_e e)))
      ((after whole X.start).address ∷ ((after x X.start).address ∷ (fs ++ ks))) whole
  unfolding flat_s code_s below_s
  in_both = record { laid = h.laid; stood = h.stood; room = h.room; ending = h.ending; fits = h.fits }

  field-head : Head l (below part 8) (at + 1) (entry 46 a (pos 0))
  field-head = head_of _ (flat_e f ++ flat_e e) (target-table h) (stands-tail _ _ in_both.laid.stands)

  pub field-kind : half_at part 8 ≡ 46
  field-kind = half-second h.table 0 ∙ field-head.kind

  field-name : half_at part 10 ≡ a
  field-name = half-second h.table 2 ∙ field-head.a

  pub field-long : (16 ≤ length part) × (2 ≤ nesting)
  unfolding measure_s
  field-long = let d = head_of _ _ h.table in_both.laid.stands in (omega (arith, d.long, d.within, field-head.within), omega (arith, h.deep))

  below_both : Rest W X l (at + 2) L top holds depth cursor (flat_e f ++ flat_e e) (fs ++ ks) whole
  below_both =
      let r = rest-enter (entry 21 0 (pos 0)) _ _ _ _ X.start (omega arith) refl in_both in
      let s = rest-enter (entry 46 a (pos 0)) (flat_e f ++ flat_e e) _ _ _ X.start (omega arith) refl r in
      rest_at (let w : at + 1 + 1 ≡ at + 2 = omega arith in w) s

  field-stands : Stands (entries_of l) (at + 1) (flat_e (field a f))
  unfolding flat_e
  field-stands = stands-left (entry 46 a (pos 0) ∷ flat_e f) (flat_e e) (stands-tail _ _ in_both.laid.stands)

  pub field-first-ready : Ready (expr f) W X l (below part 16) (nesting - 2) (at + 2) sizes L top holds depth cursor
  unfolding measure_s GoodS
  field-first-ready =
      rest-ready (expr f) (table-next h.table 16 2 refl) (omega (arith, h.deep)) h.good.0.0 tt (omega (arith, h.few-holds))
      (omega (arith, h.few-values)) (rest-left (flat_e f) (flat_e e) _ _ below_both)

  module _ (n : ℕ) (z : n ≡ get_or sizes (at + 1) 0) where
    size-field : n ≡ 1 + length (flat_e f)
    unfolding flat_e
    size-field = z ∙ (size-N (expr (field a f)) (target-table h) field-stands ∙ (let w : length (flat_e (field a f)) ≡ 1 + length (flat_e f) = omega arith in w))

    pub field-passes : Passes (below part 8) sizes (at + 1) n
    field-passes = passes-N (expr (field a f)) (target-table h) field-stands n z

    module _ {M : Lent} {p : Cursor} (k : Kept L M top depth) (d : Done (expr f) W X (at + 2) L M depth cursor p) where
      few : depth < 32
      unfolding measure_s
      few = omega (arith, h.few-values)

      after_first : Rest W Y l (at + 2 + length (flat_e f)) M top holds (depth + 1) p (flat_e e) ks (v ▸ op into)
      after_first = rest-push f (flat_e e) ks (length (flat_e f)) refl k d.wrote d.leaves few below_both

      pub field-mid : (at + 1 < length M.ends) × (p.address < 65536)
      field-mid = (omega (arith, in_both.ending, k.same_ends), (fits-start _ p (length M.out) after_first.fits).address-small)

      module _ {q : Cursor} {ends : List ℕ} (g : (q ≡ p) × (ends ≡ set M.ends (at + 1) p.address)) where
        abbrev M₂ : Lent
        M₂ = lent M.env ends M.stack M.out

        long-ends : length ends ≡ length M.ends
        long-ends = rw g.1 (length-set M.ends (at + 1) p.address)

        after-field : Rest W Y l (at + 1 + n) M₂ top holds (depth + 1) q (flat_e e) ks (v ▸ op into)
        after-field = rest-lent (flat_e e) ks (kept-ends M ends long-ends) g.0 (rest_at (let w : at + 2 + length (flat_e f) ≡ at + 1 + n = omega (arith, size-field) in w) after_first)

        pub field-second-ready : Ready (expr e) W Y l (below part (8 * (at + 1 + n - at))) (nesting - 1) (at + 1 + n) sizes (lent M.env ends M.stack M.out) top holds (depth + 1) q
        unfolding measure_s GoodS
        field-second-ready =
            rest-ready (expr e) (table-from (at + 1 + n) (omega arith) h.table) (omega (arith, h.deep)) h.good.1 tt (omega (arith, h.few-holds)) (omega (arith, h.few-values)) after-field

        module _ {N : Lent} {r : Cursor} (k₂ : Kept (lent M.env ends M.stack M.out) N top (depth + 1))
            (d₂ : Done (expr e) W Y (at + 1 + n) (lent M.env ends M.stack M.out) N (depth + 1) q r) where
          pub field_fits : Fits (moved r) (length N.out)
          field_fits = rw (cursor-op into r) (rest-fits (after v Y.start) refl k₂ d₂.wrote after-field)

          kept-both : Kept L N top depth
          kept-both = kept_then k (kept_then (kept-ends M ends long-ends) (kept_less (omega arith) k₂))

          module _ {m : ℕ} {s : Cursor} {o : List ℕ} (mean : m ≡ meaning_of (half_at part 10) (env_of L.env top) W.known)
              (i : (s ≡ moved r) × (o ≡ emit_op r N.out 14 (first_in m) (second_in m))) where
            field-meant : record_of into ≡ rec 14 (first_in m) (second_in m)
            unfolding GoodS record_of
            field-meant =
                let t = h.good.0.1 in
                let w = meaning-of h.stood.sees h.stood.knows a (name_below h a field-name) (is_field t.0 t.1) t.2.0 t.2.1 in
                let u = rw field-name at mean in
                rw (field-first w m u, field-second w m u)

            put_in : Wrote N.out o r s (op into)
            put_in = wrote-op into 14 (first_in m) (second_in m) i (λ w. field-meant)

            pub field-finish : (at < length N.ends) × (s.address < 65536)
            field-finish = finishing h.ending (flat-one (stmt (assign (to_field a f) e))) kept-both.same_ends i.0 field_fits

            wrote-both : Wrote L.out o cursor s whole
            wrote-both = wrote_then d.wrote (wrote_then (rw g.0 at d₂.wrote) put_in)

            ended-both : N.ends ≡ sets L.ends (at + 1) (((after x X.start).address ∷ fs) ++ ks)
            ended-both =
                let w : at + 2 ≡ at + 1 + 1 = omega arith in
                let own = ends-own L.ends (at + 1) p.address (after x X.start).address fs (d.ended ∙ ap (λ (j : ℕ). sets L.ends j fs) w)
                g.1 (wrote-address X.start d.wrote h.stood.address) in
                ends-then L.ends (at + 1) n ((after x X.start).address ∷ fs) ks
                (size-field ∙ (let u : 1 + length (flat_e f) ≡ suc (length fs) = omega (arith, ends-N (expr f) W X) in u)) own d₂.ended

            pub field-done : {u : Cursor} {last : List ℕ} → (u ≡ s) × (last ≡ set N.ends at s.address)
                → Done (stmt (assign (to_field a f) e)) W X at L (lent N.env last N.stack o) depth cursor u
            unfolding code_s below_s
            field-done j =
                record {
                  wrote = rw j.0 wrote-both;
                  ended =
                      ends-own L.ends at s.address (after whole X.start).address ((after x X.start).address ∷ (fs ++ ks)) ended-both
                      j.1 (wrote-address X.start wrote-both h.stood.address);
                  leaves = tt;
                }

            pub field-kept : {last : List ℕ} → last ≡ set N.ends at s.address → Kept L (lent N.env last N.stack o) top depth
            field-kept {last} j =
                kept_then kept-both (kept_then (kept_out N o (wrote-length put_in))
                (kept-ends (lent N.env N.ends N.stack o) last (rw j (length-set N.ends at s.address))))

-- ── for the walker ──
mean-as : {us vs : List ℕ} {m : ℕ} (b : ℕ) (v : List Item) → vs ≡ us → m ≡ meaning_of b v us → m ≡ meaning_of b v vs
mean-as b v e h = rw e h

pub record ToVariable (m : Node) : Type 0 where
  pub a : ℕ
  pub e : Expr
  pub same : m ≡ stmt (assign (to_variable a) e)

pub record ToField (m : Node) : Type 0 where
  pub a : ℕ
  pub f : Expr
  pub e : Expr
  pub same : m ≡ stmt (assign (to_field a f) e)

module _ {m : Node} {W : Walk} {X : Place} {l part : List ℕ} {nesting at : ℕ} {sizes : List ℕ} {L : Lent} {top holds depth : ℕ} {cursor : Cursor} where
  to-variable : IsKind 21 m → Ready m W X l part nesting at sizes L top holds depth cursor → half_at part 8 ≡ 44 → ToVariable m
  to-variable k h e = let g = assign-of m k in go g.x g.e g.same (ready-as g.same h)
    where
      go : (x : Target) (y : Expr) → m ≡ stmt (assign x y) → Ready (stmt (assign x y)) W X l part nesting at sizes L top holds depth cursor → ToVariable m
      go (to_variable a) y s h = record { a = a; e = y; same = s }
      go (to_field a f) y s h = absurd (omega (arith, field-kind h, e))

  to-field : IsKind 21 m → Ready m W X l part nesting at sizes L top holds depth cursor → ¬ (half_at part 8 ≡ 44) → ToField m
  to-field k h e = let g = assign-of m k in go g.x g.e g.same (ready-as g.same h)
    where
      go : (x : Target) (y : Expr) → m ≡ stmt (assign x y) → Ready (stmt (assign x y)) W X l part nesting at sizes L top holds depth cursor → ToField m
      go (to_variable a) y s h = absurd (e (variable-kind h))
      go (to_field a f) y s h = record { a = a; f = f; e = y; same = s }

pub record Opens (part sizes : List ℕ) (nesting at top : ℕ) (env : List ℕ) : Type 0 where
  pub long : 16 ≤ length part
  pub nests : 1 ≤ nesting
  pub room : 4 * top ≤ length env
  pub passes : (n : ℕ) → n ≡ get_or sizes (at + 1) 0 → Passes (below part 8) sizes (at + 1) n

opens_by : (x : Target) (e : Expr) {W : Walk} {X : Place} {l part : List ℕ} {nesting at : ℕ} {sizes : List ℕ} {L : Lent} {top holds depth : ℕ}
    {cursor : Cursor} → Ready (stmt (assign x e)) W X l part nesting at sizes L top holds depth cursor
    → Opens part sizes nesting at top L.env
opens_by (to_variable a) e h = record { long = (variable-long h).0; nests = (variable-long h).1; room = assign-room h; passes = λ n z. variable-passes h n z }
opens_by (to_field a f) e h = record { long = (field-long h).0; nests = omega (arith, field-long h); room = assign-room h; passes = λ n z. field-passes h n z }

module _ {known aims l part : List ℕ} {nesting at : ℕ} {sizes : List ℕ} {L : Lent} {top holds depth : ℕ} {cursor : Cursor}
    (a : Asks (IsKind 21) known aims l part nesting at sizes L top holds depth cursor) where
  -- what is asked before it is known which it is
  pub asks-assign : Opens part sizes nesting at top L.env
  asks-assign = let g = assign-of a.node a.such in opens_by g.x g.e (ready-as g.same a.ready)

  module _ (n : ℕ) (z : n ≡ get_or sizes (at + 1) 0) (m : ℕ) (mean : m ≡ meaning_of (half_at part 10) (env_of L.env top) known) where
    -- a variable
    module _ (is : half_at part 8 ≡ 44) where
      pub asks-variable-first : (at + 1 < length L.ends) × (cursor.address < 65536)
      asks-variable-first = let g = to-variable a.such a.ready is in variable-first (ready-as g.same a.ready) n z

      module _ {p : Cursor} {ends : List ℕ} (f : (p ≡ cursor) × (ends ≡ set L.ends (at + 1) cursor.address)) where
        pub asks-variable-second : Asks IsExpr known aims l (below part (8 * (at + 1 + n - at))) (nesting - 1) (at + 1 + n) sizes (lent L.env ends L.stack L.out) top holds depth p
        asks-variable-second =
            let g = to-variable a.such a.ready is in
            record {
              node = expr g.e;
              walk = a.walk;
              place = a.place;
              such = tt;
              same_known = a.same_known;
              same-aims = a.same-aims;
              ready = variable-second (ready-as g.same a.ready) n z f;
            }

        module _ {N : Lent} {q : Cursor} (b : Answers IsExpr known aims l (below part (8 * (at + 1 + n - at))) (nesting - 1) (at + 1 + n) sizes
            (lent L.env ends L.stack L.out) N top holds depth p q) where
          done-variable : {W : Walk} {X : Place} {c : ℕ} {e : Expr} → W.known ≡ known → W.aims ≡ aims → Ready (stmt (assign (to_variable c) e)) W X l part nesting at sizes L top holds depth cursor
              → Done (expr e) W X (at + 1 + n) (lent L.env ends L.stack L.out) N depth p q
          done-variable {W} {X} {c} {e} i j h = b.done (expr e) W X tt i j (variable-second h n z f)

          pub asks-variable-emit : Fits (moved q) (length N.out)
          asks-variable-emit =
              let g = to-variable a.such a.ready is in let h = ready-as g.same a.ready in
              variable-fits h n z f b.kept (done-variable a.same_known a.same-aims h)

          module _ {r : Cursor} {o : List ℕ} (i : (r ≡ moved q) × (o ≡ emit_op q N.out 6 (owner_by q.inside m) (second_in m))) where
            pub asks-variable-finish : (at < length N.ends) × (r.address < 65536)
            asks-variable-finish =
                let g = to-variable a.such a.ready is in let h = ready-as g.same a.ready in let s = a.same_known in
                variable-finish h n z f b.kept (done-variable s a.same-aims h) (mean-as _ _ s mean) i

            pub answers-variable : {u : Cursor} {last : List ℕ} → (u ≡ r) × (last ≡ set N.ends at r.address)
                → Answers (IsKind 21) known aims l part nesting at sizes L (lent N.env last N.stack o) top holds depth cursor u
            answers-variable j =
                let g = to-variable a.such a.ready is in let h = ready-as g.same a.ready in let s = a.same_known in
                record {
                  kept = variable-kept h n z f b.kept (done-variable s a.same-aims h) (mean-as _ _ s mean) i j.1;
                  done = λ c W X k s t w. let g = to-variable k w is in let h = ready-as g.same w in
                      done-as g.same (variable-done h n z f b.kept (done-variable s t h) (mean-as _ _ s mean) i j);
                }

    -- a field
    module _ (is : ¬ (half_at part 8 ≡ 44)) where
      pub asks-field-nests : 2 ≤ nesting
      asks-field-nests = let g = to-field a.such a.ready is in (field-long (ready-as g.same a.ready)).1

      pub asks-field-first : Asks IsExpr known aims l (below part 16) (nesting - 2) (at + 2) sizes L top holds depth cursor
      asks-field-first =
          let g = to-field a.such a.ready is in
          record { node = expr g.f; walk = a.walk; place = a.place; such = tt; same_known = a.same_known; same-aims = a.same-aims; ready = field-first-ready (ready-as g.same a.ready) }

      module _ {M : Lent} {p : Cursor} (b₁ : Answers IsExpr known aims l (below part 16) (nesting - 2) (at + 2) sizes L M top holds depth cursor p) where
        done-one : {W : Walk} {X : Place} {c : ℕ} {f e : Expr} → W.known ≡ known → W.aims ≡ aims
            → Ready (stmt (assign (to_field c f) e)) W X l part nesting at sizes L top holds depth cursor → Done (expr f) W X (at + 2) L M depth cursor p
        done-one {W} {X} {c} {f} i j h = b₁.done (expr f) W X tt i j (field-first-ready h)

        pub asks-field-mid : (at + 1 < length M.ends) × (p.address < 65536)
        asks-field-mid =
            let g = to-field a.such a.ready is in let h = ready-as g.same a.ready in
            field-mid h n z b₁.kept (done-one a.same_known a.same-aims h)

        module _ {q : Cursor} {ends : List ℕ} (w : (q ≡ p) × (ends ≡ set M.ends (at + 1) p.address)) where
          pub asks-field-second : Asks IsExpr known aims l (below part (8 * (at + 1 + n - at))) (nesting - 1) (at + 1 + n) sizes (lent M.env ends M.stack M.out) top holds (depth + 1) q
          asks-field-second =
              let g = to-field a.such a.ready is in let h = ready-as g.same a.ready in
              record {
                node = expr g.e;
                walk = a.walk;
                place = _;
                such = tt;
                same_known = a.same_known;
                same-aims = a.same-aims;
                ready = field-second-ready h n z b₁.kept (done-one a.same_known a.same-aims h) w;
              }

          module _ {N : Lent} {r : Cursor} (b₂ : Answers IsExpr known aims l (below part (8 * (at + 1 + n - at))) (nesting - 1) (at + 1 + n) sizes
              (lent M.env ends M.stack M.out) N top holds (depth + 1) q r) where
            done-two : {W : Walk} {X : Place} {c : ℕ} {f e : Expr} → W.known ≡ known → W.aims ≡ aims
                → (h : Ready (stmt (assign (to_field c f) e)) W X l part nesting at sizes L top holds depth cursor)
                → Done (expr e) W (Y h) (at + 1 + n) (lent M.env ends M.stack M.out) N (depth + 1) q r
            done-two {W} {X} {c} {f} {e} i j h = b₂.done (expr e) W _ tt i j (field-second-ready h n z b₁.kept (done-one i j h) w)

            pub asks-field-emit : Fits (moved r) (length N.out)
            asks-field-emit =
                let g = to-field a.such a.ready is in let h = ready-as g.same a.ready in let s = a.same_known in let t = a.same-aims in
                field_fits h n z b₁.kept (done-one s t h) w b₂.kept (done-two s t h)

            module _ {u : Cursor} {o : List ℕ} (i : (u ≡ moved r) × (o ≡ emit_op r N.out 14 (first_in m) (second_in m))) where
              pub asks-field-finish : (at < length N.ends) × (u.address < 65536)
              asks-field-finish =
                  let g = to-field a.such a.ready is in let h = ready-as g.same a.ready in let s = a.same_known in let t = a.same-aims in
                  field-finish h n z b₁.kept (done-one s t h) w b₂.kept (done-two s t h) (mean-as _ _ s mean) i

              pub answers-field : {e : Cursor} {last : List ℕ} → (e ≡ u) × (last ≡ set N.ends at u.address)
                  → Answers (IsKind 21) known aims l part nesting at sizes L (lent N.env last N.stack o) top holds depth cursor e
              answers-field j =
                  let g = to-field a.such a.ready is in let h = ready-as g.same a.ready in let s = a.same_known in let t = a.same-aims in
                  record {
                    kept = field-kept h n z b₁.kept (done-one s t h) w b₂.kept (done-two s t h) (mean-as _ _ s mean) i j.1;
                    done = λ c W X k s t v. let g = to-field k v is in let h = ready-as g.same v in
                        done-as g.same (field-done h n z b₁.kept (done-one s t h) w b₂.kept (done-two s t h) (mean-as _ _ s mean) i j);
                  }
