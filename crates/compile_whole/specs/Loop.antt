-- The loop over the root's declarations that walks its procedures, one after the other.
use Rattle.std.specs.Prelude.{◌≡◌, true, false, List, [], ◌∷◌, ℕ, suc, ◌+◌, ◌-◌, ◌*◌, ◌/◌, ◌≤◌, ◌<◌, drop, get_or}
use Rattle.std.proofs.Math.Path.{refl, ap}
use Rattle.std.proofs.Common.{sym, ◌∙◌, arith, length-drop, take_all}
use Rattle.std.proofs.Math.ListN.{length}
use Rattle.language.specs.Program.{flat_typed, flat_decl, flat_global, deep_globals, nesting}
use Rattle.words.specs.Numbers.{half_at}
use Rattle.language.specs.Tree.{Typed, Body, Global, local, class, procedure, Tree}
use Rattle.language.specs.Tree.{declare, holding}
use Rattle.language.specs.Names.{root_of}
use Rattle.language.specs.Faults.{size_global}
use Rattle.language.specs.Limits.{body_usage}
use Rattle.language.specs.Formed.{EveryProcedure, InLimits}
use Rattle.language_laws.specs.Claims.{entries_of}
use Rattle.table_entries.specs.Stands.{Stands}
use Rattle.table_scopes.specs.Trees.{length-Global}
use Rattle.table_forms.specs.Walk.{Table}
use Rattle.table_forms.specs.Part.{head_of, below}
use Rattle.compile_code.specs.Code.{at}
use Rattle.compile_code.specs.Compile.{procs_of}
use Rattle.compile_code.specs.Encode.{code_proc, proc_parts}
use Rattle.compile_names.specs.Globals.{GoodGlobals, good-tree}
use Rattle.compile_output.specs.declared.Cursor.{Cursor}
use Rattle.compile_output.specs.EmitRecord.{Fits}
use Rattle.compile_output.specs.EmitCode.{cursor_after, grows, address-after}
use Rattle.compile_bytes.specs.Bytes.{cursor_all, emitted_all, codes_of}
use Rattle.compile_bytes.specs.Room.{fits-first}
use Rattle.compile_nodes.specs.Ready.{Lent, Kept}
use Rattle.compile_symbols.specs.Tabled.{Tabled, the_tree, Left, left-start, Next, next-global, Within}
use Rattle.compile_whole.specs.Numbers.{classes_by, items_by, Numbers, numbers-next, numbers-procedure, numbers-all}
use Rattle.compile_whole.specs.Ends.{proc_of, proc_end, ended_procs, AimsProcs}
use Rattle.compile_whole.specs.Stage.{Stage, ReadyProc}
use Rattle.compile_whole.specs.Procs.{AsksProc, DoneProc, AnswersProc}
use Rattle.compile_symbols.specs.Classes.{none_left}

-- ── one declaration: only procedures have code of their own ──
abbrev pub ReadyG : Global → List ℕ → List ℕ → ℕ → List ℕ → Lent → ℕ → List ℕ → List ℕ → Cursor → Type 0
ReadyG (local d) l part place sizes L top known aims cursor = Unit {0}
ReadyG (class c xs) l part place sizes L top known aims cursor = Unit {0}
ReadyG (procedure a xs b) l part place sizes L top known aims cursor =
    ReadyProc (the_tree l) (proc_of a xs b) l part place sizes L.env top known aims L.ends L.stack L.out cursor

abbrev pub DoneG : Global → List ℕ → ℕ → Lent → Lent → Cursor → Cursor → Type 0
DoneG (local d) l place L M cursor r = (r ≡ cursor) × (M.out ≡ L.out) × (M.ends ≡ L.ends)
DoneG (class c xs) l place L M cursor r = (r ≡ cursor) × (M.out ≡ L.out) × (M.ends ≡ L.ends)
DoneG (procedure a xs b) l place L M cursor r = DoneProc (the_tree l) (proc_of a xs b) place L.ends L.out M.ends M.out cursor r

pub record AsksGlobal (l part : List ℕ) (place : ℕ) (sizes : List ℕ) (L : Lent) (top : ℕ) (known aims : List ℕ) (cursor : Cursor) : Type 0 where
  pub global : Global
  pub table : Table l part sizes place
  pub stands : Stands (entries_of l) place (flat_global global)
  pub ready : ReadyG global l part place sizes L top known aims cursor

pub record AnswersGlobal (l part : List ℕ) (place : ℕ) (sizes : List ℕ) (L M : Lent) (top : ℕ) (known aims : List ℕ) (cursor r : Cursor) : Type 0 where
  pub kept : Kept L M top 0
  pub done : (g : Global) → Table l part sizes place → Stands (entries_of l) place (flat_global g) → ReadyG g l part place sizes L top known aims cursor → DoneG g l place L M cursor r

module _ {l part : List ℕ} {place : ℕ} {sizes : List ℕ} {L : Lent} {top : ℕ} {known aims : List ℕ} {cursor : Cursor} where
  pub global-long : AsksGlobal l part place sizes L top known aims cursor → 8 ≤ length part
  unfolding flat_global
  global-long q = long-in q.global q.stands
    where
      long-in : (g : Global) → Stands (entries_of l) place (flat_global g) → 8 ≤ length part
      long-in (local d) h = let e = head_of _ _ q.table h in omega (arith, e.long, e.within)
      long-in (class c xs) h = let e = head_of _ _ q.table h in omega (arith, e.long, e.within)
      long-in (procedure a xs b) h = let e = head_of _ _ q.table h in omega (arith, e.long, e.within)

  -- a procedure
  pub global-asks : AsksGlobal l part place sizes L top known aims cursor → half_at part 0 ≡ 12 → AsksProc l part place sizes L.env top known aims L.ends L.stack L.out cursor
  unfolding flat_global flat_decl flat_typed
  global-asks q e = of q.global q.stands q.ready
    where
      of : (g : Global) → Stands (entries_of l) place (flat_global g) → ReadyG g l part place sizes L top known aims cursor
          → AsksProc l part place sizes L.env top known aims L.ends L.stack L.out cursor
      of (local (declare x)) h r = absurd (omega (arith, (head_of _ _ q.table h).kind))
      of (local (holding g)) h r = absurd (omega (arith, (head_of _ _ q.table h).kind))
      of (class c xs) h r = absurd (omega (arith, (head_of _ _ q.table h).kind))
      of (procedure a xs b) h r = record { proc = proc_of a xs b; ready = r }

  pub global-done : {M : Lent} {r : Cursor} → half_at part 0 ≡ 12 → AnswersProc l part place sizes L M top known aims cursor r → AnswersGlobal l part place sizes L M top known aims cursor r
  unfolding flat_global flat_decl flat_typed
  global-done {M} {r} e y = record { kept = y.kept; done = of }
    where
      of : (g : Global) → Table l part sizes place → Stands (entries_of l) place (flat_global g) → ReadyG g l part place sizes L top known aims cursor → DoneG g l place L M cursor r
      of (local (declare x)) t h k = absurd (omega (arith, (head_of _ _ t h).kind))
      of (local (holding g)) t h k = absurd (omega (arith, (head_of _ _ t h).kind))
      of (class c xs) t h k = absurd (omega (arith, (head_of _ _ t h).kind))
      of (procedure a xs b) t h k = y.done (proc_of a xs b) k

  pub global-none : ¬ (half_at part 0 ≡ 12) → AnswersGlobal l part place sizes L L top known aims cursor cursor
  unfolding flat_global flat_decl flat_typed
  global-none e = record { kept = record { env = refl; same-env = refl; same_ends = refl; stack = refl; same-stack = refl; same_out = refl }; done = of }
    where
      of : (g : Global) → Table l part sizes place → Stands (entries_of l) place (flat_global g) → ReadyG g l part place sizes L top known aims cursor → DoneG g l place L L cursor cursor
      of (local d) t h k = (refl, refl, refl)
      of (class c xs) t h k = (refl, refl, refl)
      of (procedure a xs b) t h k = absurd (e (head_of _ _ t h).kind)

-- ── the loop ──
-- the cursor, the output and the ends after the procedures among declarations from a place on
abbrev pub cursor_procs : Tree → List Global → Cursor → Cursor
cursor_procs t gs p = cursor_all (codes_of (proc_parts t (procs_of gs) p.address)) p

abbrev pub emit_procs : Tree → List Global → Cursor → List ℕ → List ℕ
emit_procs t gs p l = emitted_all (codes_of (proc_parts t (procs_of gs) p.address)) p l

-- what the code of the remaining procedures asks
pub record Remaining (t : Tree) (l sizes known aims : List ℕ) (cursor : Cursor) (gs : List Global) (place : ℕ) : Type 0 where
  pub cells : ℕ
  pub numbers : Numbers (classes_by t) (items_by t) known place cells gs
  pub seen : List ℕ
  pub good : GoodGlobals (root_of t ∷ []) seen gs
  pub limited : EveryProcedure gs (λ xs b. InLimits (body_usage xs b))
  pub deep : deep_globals gs ≤ 63
  pub aimed : cursor.dry ≡ false → AimsProcs t aims gs place cursor.address

pub record ProcsSoFar (l sizes known aims : List ℕ) (top : ℕ) (old : Lent) (cursor : Cursor) (new : Lent) (place left : ℕ) (p : Cursor) : Type 0 where
  pub globals : List Global
  pub remain : Left l place left globals
  pub asks : Remaining (the_tree l) l sizes known aims p globals place
  pub kept : Kept old new top 0
  pub within : p.inside ≡ true
  pub advanced : cursor_procs (the_tree l) globals p ≡ cursor_procs (the_tree l) (the_tree l).head cursor
  pub written : emit_procs (the_tree l) globals p new.out ≡ emit_procs (the_tree l) (the_tree l).head cursor old.out
  pub ended : ended_procs (the_tree l) globals place p.address new.ends ≡ ended_procs (the_tree l) (the_tree l).head 1 cursor.address old.ends

-- what is asked before it
pub record AsksProcs (l : List ℕ) (count : ℕ) (sizes : List ℕ) (L : Lent) (top : ℕ) (known aims : List ℕ) (cursor : Cursor) : Type 0 where
  pub stage : Stage (the_tree l) l sizes L.env top known
  pub counted : count ≡ length (the_tree l).head
  pub aimed : cursor.dry ≡ false → AimsProcs (the_tree l) aims (the_tree l).head 1 cursor.address
  pub ending : length l / 8 ≤ length L.ends
  pub stacked : 32 ≤ length L.stack
  pub within : cursor.inside ≡ true
  pub fits : Fits (cursor_procs (the_tree l) (the_tree l).head cursor) (length L.out)

pub record AnswersProcs (l : List ℕ) (L M : Lent) (top : ℕ) (cursor r : Cursor) : Type 0 where
  pub kept : Kept L M top 0
  pub advanced : r ≡ cursor_procs (the_tree l) (the_tree l).head cursor
  pub written : M.out ≡ emit_procs (the_tree l) (the_tree l).head cursor L.out
  pub ended : M.ends ≡ ended_procs (the_tree l) (the_tree l).head 1 cursor.address L.ends

pub procs-start : {l : List ℕ} {count : ℕ} {sizes : List ℕ} {L : Lent} {top : ℕ} {known aims : List ℕ} {cursor : Cursor}
    → AsksProcs l count sizes L top known aims cursor → ProcsSoFar l sizes known aims top L cursor L 1 count cursor
unfolding nesting
procs-start {l} q =
    let h = q.stage.prepared in let t = the_tree l in
    record {
      globals = t.head;
      remain = left-start (record { tabled = h.tabled; counted = q.counted });
      asks = record {
        cells = 0;
        numbers = numbers-all t h.numbered;
        seen = [];
        good = (good-tree t h.faultless).0;
        limited = h.limited.procedures;
        deep = omega (arith, h.tabled.readable.depth);
        aimed = q.aimed;
      };
      kept = record { env = refl; same-env = refl; same_ends = refl; stack = refl; same-stack = refl; same_out = refl };
      within = q.within;
      advanced = refl;
      written = refl;
      ended = refl;
    }

-- ── a turn ──
pub kept_then : {L M N : Lent} {top : ℕ} → Kept L M top 0 → Kept M N top 0 → Kept L N top 0
kept_then a b =
    record {
      env = b.env ∙ a.env;
      same-env = b.same-env ∙ a.same-env;
      same_ends = b.same_ends ∙ a.same_ends;
      stack = refl;
      same-stack = b.same-stack ∙ a.same-stack;
      same_out = b.same_out ∙ a.same_out;
    }

-- what is ready of the next declaration
ready-next : (l part : List ℕ) (place : ℕ) (sizes : List ℕ) (L : Lent) (top : ℕ) (known aims : List ℕ) (p : Cursor) (g : Global) (gs : List Global)
    → Stage (the_tree l) l sizes L.env top known → part ≡ drop (8 * place) l → Stands (entries_of l) place (flat_global g) → Remaining (the_tree l) l sizes known aims p (g ∷ gs) place
    → length l / 8 ≤ length L.ends → 32 ≤ length L.stack → p.inside ≡ true → Fits (cursor_procs (the_tree l) (g ∷ gs) p) (length L.out) → ReadyG g l part place sizes L top known aims p
unfolding GoodGlobals deep_globals procs_of proc_parts AimsProcs
ready-next l part place sizes L top known aims p (local d) gs s e h r ending stacked within fits = tt
ready-next l part place sizes L top known aims p (class c xs) gs s e h r ending stacked within fits = tt
ready-next l part place sizes L top known aims p (procedure a xs b) gs s e h r ending stacked within fits =
    let t = the_tree l in
    record {
      stage = s;
      whole = e;
      stands = h;
      deep = omega (arith, r.deep);
      good = r.good.0.1;
      keeps = r.limited 0 a xs b refl;
      numbered = numbers-procedure (classes_by t) (items_by t) a xs b gs r.numbers;
      aimed = λ d. (r.aimed d).1;
      ending = ending;
      stacked = stacked;
      within = within;
      fits = fits-first (code_proc t (proc_of a xs b) p.address) (codes_of (proc_parts t (procs_of gs) (proc_end t (proc_of a xs b) p.address))) p (length L.out) fits;
    }

-- and of those behind it, when it is done
done-address : (l : List ℕ) (place : ℕ) (L M : Lent) (p q : Cursor) (a : ℕ) (xs : List Typed) (b : Body) → DoneG (procedure a xs b) l place L M p q
    → q.address ≡ proc_end (the_tree l) (proc_of a xs b) p.address
done-address l place L M p q a xs b d = ap (λ (z : Cursor). z.address) d.advanced ∙ address-after (code_proc (the_tree l) (proc_of a xs b) p.address) p (at p.address 0) refl

done-dry : (l : List ℕ) (place : ℕ) (L M : Lent) (p q : Cursor) (g : Global) → DoneG g l place L M p q → (q.dry ≡ p.dry) × (q.inside ≡ p.inside)
done-dry l place L M p q (local d) e = (ap (λ (z : Cursor). z.dry) e.0, ap (λ (z : Cursor). z.inside) e.0)
done-dry l place L M p q (class c xs) e = (ap (λ (z : Cursor). z.dry) e.0, ap (λ (z : Cursor). z.inside) e.0)
done-dry l place L M p q (procedure a xs b) e =
    let y = grows (code_proc (the_tree l) (proc_of a xs b) p.address) p in
    (ap (λ (z : Cursor). z.dry) e.advanced ∙ y.same-dry, ap (λ (z : Cursor). z.inside) e.advanced ∙ y.same-inside)

remaining-next : (l : List ℕ) (place : ℕ) (sizes : List ℕ) (L M : Lent) (known aims : List ℕ) (p q : Cursor) (g : Global) (gs : List Global) → DoneG g l place L M p q
    → Remaining (the_tree l) l sizes known aims p (g ∷ gs) place → Remaining (the_tree l) l sizes known aims q gs (place + size_global g)
unfolding GoodGlobals deep_globals AimsProcs
remaining-next l place sizes L M known aims p q (local d) gs e r =
    record {
      cells = _;
      numbers = numbers-next (classes_by (the_tree l)) (items_by (the_tree l)) (local d) gs r.numbers;
      seen = _;
      good = r.good.1;
      limited = λ i. r.limited (suc i);
      deep = omega (arith, r.deep);
      aimed = λ z. rw e.0 (r.aimed (sym (ap (λ (y : Cursor). y.dry) e.0) ∙ z));
    }
remaining-next l place sizes L M known aims p q (class c xs) gs e r =
    record {
      cells = _;
      numbers = numbers-next (classes_by (the_tree l)) (items_by (the_tree l)) (class c xs) gs r.numbers;
      seen = _;
      good = r.good.1;
      limited = λ i. r.limited (suc i);
      deep = omega (arith, r.deep);
      aimed = λ z. rw e.0 (r.aimed (sym (ap (λ (y : Cursor). y.dry) e.0) ∙ z));
    }
remaining-next l place sizes L M known aims p q (procedure a xs b) gs e r =
    record {
      cells = _;
      numbers = numbers-next (classes_by (the_tree l)) (items_by (the_tree l)) (procedure a xs b) gs r.numbers;
      seen = _;
      good = r.good.1;
      limited = λ i. r.limited (suc i);
      deep = omega (arith, r.deep);
      aimed = λ z. rw (done-address l place L M p q a xs b e) (r.aimed (sym (done-dry l place L M p q (procedure a xs b) e).0 ∙ z)).2;
    }

module _ (l : List ℕ) (place : ℕ) (L M : Lent) (p q : Cursor) (gs : List Global) where
  cursor-next : (g : Global) → DoneG g l place L M p q → cursor_procs (the_tree l) gs q ≡ cursor_procs (the_tree l) (g ∷ gs) p
  unfolding procs_of proc_parts cursor_all
  cursor-next (local d) e = rw e.0
  cursor-next (class c xs) e = rw e.0
  cursor-next (procedure a xs b) e =
      let t = the_tree l in let z = proc_end t (proc_of a xs b) p.address in
      ap (λ (n : ℕ). cursor_all (codes_of (proc_parts t (procs_of gs) n)) q) (done-address l place L M p q a xs b e) ∙ ap (cursor_all (codes_of (proc_parts t (procs_of gs) z))) e.advanced

  emit-next : (g : Global) → DoneG g l place L M p q → emit_procs (the_tree l) gs q M.out ≡ emit_procs (the_tree l) (g ∷ gs) p L.out
  unfolding procs_of proc_parts emitted_all
  emit-next (local d) e = rw (e.0, e.1)
  emit-next (class c xs) e = rw (e.0, e.1)
  emit-next (procedure a xs b) e =
      let t = the_tree l in let x = proc_of a xs b in let C = codes_of (proc_parts t (procs_of gs) (proc_end t x p.address)) in
      ap (λ (n : ℕ). emitted_all (codes_of (proc_parts t (procs_of gs) n)) q M.out) (done-address l place L M p q a xs b e)
      ∙ (ap (λ (z : Cursor). emitted_all C z M.out) e.advanced ∙ ap (emitted_all C (cursor_after (code_proc t x p.address) p)) e.emits)

  ends_next : (g : Global) → DoneG g l place L M p q → ended_procs (the_tree l) gs (place + size_global g) q.address M.ends ≡ ended_procs (the_tree l) (g ∷ gs) place p.address L.ends
  unfolding ended_procs
  ends_next (local d) e = rw (e.0, e.2)
  ends_next (class c xs) e = rw (e.0, e.2)
  ends_next (procedure a xs b) e = rw (done-address l place L M p q a xs b e, e.ended)

record NextProc (l sizes known aims : List ℕ) (top : ℕ) (old : Lent) (cursor : Cursor) (new : Lent) (place left : ℕ) (p : Cursor) : Type 0 where
  pub this : Global
  pub later : List Global
  pub next : Next l sizes place left this later
  pub asks : Remaining (the_tree l) l sizes known aims p (this ∷ later) place
  pub advanced : cursor_procs (the_tree l) (this ∷ later) p ≡ cursor_procs (the_tree l) (the_tree l).head cursor
  pub written : emit_procs (the_tree l) (this ∷ later) p new.out ≡ emit_procs (the_tree l) (the_tree l).head cursor old.out
  pub ended : ended_procs (the_tree l) (this ∷ later) place p.address new.ends ≡ ended_procs (the_tree l) (the_tree l).head 1 cursor.address old.ends

next-proc : (gs : List Global) {l sizes known aims : List ℕ} {top : ℕ} {old : Lent} {cursor : Cursor} {new : Lent} {place left : ℕ} {p : Cursor}
    → Tabled l sizes (the_tree l) → 0 < left → Left l place left gs
    → Remaining (the_tree l) l sizes known aims p gs place → cursor_procs (the_tree l) gs p ≡ cursor_procs (the_tree l) (the_tree l).head cursor
    → emit_procs (the_tree l) gs p new.out ≡ emit_procs (the_tree l) (the_tree l).head cursor old.out
    → ended_procs (the_tree l) gs place p.address new.ends ≡ ended_procs (the_tree l) (the_tree l).head 1 cursor.address old.ends
    → NextProc l sizes known aims top old cursor new place left p
next-proc [] t h k r e f g = absurd (omega (arith, k.many))
next-proc (x ∷ xs) t h k r e f g = record { this = x; later = xs; next = next-global x xs t k; asks = r; advanced = e; written = f; ended = g }

module _ {l : List ℕ} {count : ℕ} {sizes : List ℕ} {old : Lent} {top : ℕ} {known aims : List ℕ} {cursor : Cursor} (q : AsksProcs l count sizes old top known aims cursor)
    {new : Lent} {place left : ℕ} {p : Cursor} (s : ProcsSoFar l sizes known aims top old cursor new place left p) where
  -- the root's names are still in sight
  stage-here : Stage (the_tree l) l sizes new.env top known
  stage-here = record { prepared = q.stage.prepared; sight = s.kept.env ∙ q.stage.sight; room = omega (arith, q.stage.room, s.kept.same-env) }

  module _ (m : 0 < left) where
    proc-here : NextProc l sizes known aims top old cursor new place left p
    proc-here = next-proc s.globals q.stage.prepared.tabled m s.remain s.asks s.advanced s.written s.ended

    pub procs-within : Within l sizes place
    procs-within = proc-here.next.within

    part-is : below l (8 * place) ≡ drop (8 * place) l
    part-is = take_all (length l - 8 * place) (drop (8 * place) l) (omega (arith, length-drop (8 * place) l))

    table_here : Table l (below l (8 * place)) sizes place
    table_here = record { whole = part-is; legible = q.stage.prepared.tabled.legible; known = q.stage.prepared.tabled.known }

    ready-here : ReadyG proc-here.this l (below l (8 * place)) place sizes new top known aims p
    ready-here =
        let x = proc-here in
        ready-next l (below l (8 * place)) place sizes new top known aims p x.this x.later stage-here part-is x.next.stands x.asks
        (omega (arith, q.ending, s.kept.same_ends)) (omega (arith, q.stacked, s.kept.same-stack)) s.within (rw (x.advanced, s.kept.same_out) q.fits)

    pub procs-asks : AsksGlobal l (below l (8 * place)) place sizes new top known aims p
    procs-asks = record { global = proc-here.this; table = table_here; stands = proc-here.next.stands; ready = ready-here }

    pub procs-next : (n : ℕ) {M : Lent} {r : Cursor} → AnswersGlobal l (below l (8 * place)) place sizes new M top known aims p r → n ≡ get_or sizes place 0
        → ProcsSoFar l sizes known aims top old cursor M (place + n) (left - 1) r
    procs-next n {M} {r} y e =
        let x = proc-here in
        let d = y.done x.this table_here x.next.stands ready-here in
        let z : n ≡ size_global x.this = e ∙ x.next.size ∙ length-Global x.this in
        record {
          globals = x.later;
          remain = rw e x.next.next;
          asks = rw z (remaining-next l place sizes new M known aims p r x.this x.later d x.asks);
          kept = kept_then s.kept y.kept;
          within = (done-dry l place new M p r x.this d).1 ∙ s.within;
          advanced = cursor-next l place new M p r x.later x.this d ∙ x.advanced;
          written = emit-next l place new M p r x.later x.this d ∙ x.written;
          ended = rw z (ends_next l place new M p r x.later x.this d ∙ x.ended);
        }

  pub procs-end : left ≡ 0 → AnswersProcs l old new top cursor p
  unfolding procs_of proc_parts cursor_all emitted_all ended_procs
  procs-end m =
      let e = none_left s.globals s.remain m in
      record { kept = s.kept; advanced = rw e at s.advanced; written = rw e at s.written; ended = rw e at s.ended }
