-- From a table that the check accepts to the bytes of its macro: what is asked before the walks, what the dry walk tells, and what the real one leaves.
use Rattle.std.specs.Prelude.{◌≡◌, Bool, true, false, ℕ, suc, ◌+◌, ◌-◌, ◌*◌, ◌/◌, ◌^◌, ◌≤◌, ◌<◌, drop}
use Rattle.std.proofs.Math.Path.{refl, ap, sym}
use Rattle.std.proofs.Common.{◌∙◌, subst, arith, le-leb}
use mathlib.Core.List.{List, [], ◌∷◌, ◌++◌}
use Rattle.std.proofs.Math.ListN.{length, set}
use Rattle.std.proofs.Math.Seq.{sets, length-sets}
use Rattle.std.proofs.lemmas.Bool.{lt-leb}
use Rattle.logic.specs.Choice.{If◌then◌else◌}
use Rattle.words.specs.Laws.{Bytes}
use Rattle.values.specs.Ends.{Refusal, refusal, Judged, accepted, refused}
use Rattle.language.specs.Tree.{Decl, declare, holding, Global, local, class, procedure, Tree}
use Rattle.language.specs.Table.{read_table}
use Rattle.language.specs.Faults.{faults, size_global}
use Rattle.language.specs.Limits.{limits}
use Rattle.language.specs.Formed.{KeepsLimits}
use Rattle.language.specs.Judge.{first_fault, judge_tree, judge_table, compile_on}
use Rattle.bytecode.specs.Macro.{Body}
use Rattle.logic.specs.Tests.{clash}
use Rattle.logic.specs.Lists.{Each}
use Rattle.language_laws.proofs.Programs.{accepted-program}
use Rattle.language_laws.specs.Trees.{formed-faultless}
use Rattle.table_scopes.specs.Environment.{env_of}
use Rattle.table_entries.specs.Sizes.{Known}
use Rattle.table_scopes.specs.Trees.{length-Global}
use Rattle.table_forms.specs.Tables.{Counted, Whole, Held, read_held, held_whole, parts as parts_of, RootPushed, ready-globals}
use Rattle.compile_code.specs.Code.{Code}
use Rattle.compile_code.specs.Compile.{classes_of, procs_of}
use Rattle.compile_code.specs.Encode.{parts, heads_of, compiled, macro_of, each, shape_bytes}
use Rattle.compile_records.specs.Writing.{SmallBody}
use Rattle.compile_macro.specs.Built.{InOrder, writable}
use Rattle.compile_order.specs.Order.{in_order}
use Rattle.compile_output.specs.declared.Cursor.{Cursor}
use Rattle.compile_output.specs.EmitCode.{cursor_after, emitted, grows, dry-emitted, within}
use Rattle.compile_bytes.specs.Bytes.{cursor_all, emitted_all, codes_of}
use Rattle.compile_bytes.specs.Whole.{front, zz, front_length, macro-length, Measured, measured, whole}
use Rattle.compile_bytes.specs.Room.{fits-dry, fits-real, macro-small}
use Rattle.compile_nodes.specs.Ready.{Lent}
use Rattle.compile_symbols.specs.declared.Numbers.{Numbers}
use Rattle.compile_symbols.specs.Numbers.{numbers_of}
use Rattle.compile_symbols.specs.Tabled.{Tabled, the_tree, the-tree, Holding}
use Rattle.compile_symbols.specs.Whole.{Numbered, kind_of, numbers-lie}
use Rattle.compile_front.specs.Front.{Firsts, next_first, Few, Measuring, Fronted}
use Rattle.compile_front.specs.Writing.{Wrote}
use Rattle.compile_scopes.specs.Sight.{after_head, root_sight}
use Rattle.compile_whole.specs.Ends.{proc_of, proc_end, root_end, ended, AimsProcs, Aims}
use Rattle.compile_whole.specs.Ends as ends-laws
use Rattle.compile_whole.specs.Stage.{Stage, lent_of, items-fit}
use Rattle.compile_whole.specs.Walks.{AsksWalk, AnswersWalk}
use Rattle.compile_code.specs.Counts.{length-field-types, length-heads}

-- ── what the check accepts ──
accepted-read : (l : List ℕ) (t : Tree) → judge_table l ≡ accepted t → read_table l ≡ accepted t
unfolding judge_table
accepted-read l t e = go (read_table l) refl e
  where
    same_in : (u : Tree) (fs : List Refusal) → first_fault u fs ≡ accepted t → u ≡ t
    same_in u [] h = cc
    same_in u (f ∷ fs) h = clash (cc)

    go : (j : Judged Tree) → read_table l ≡ j → judge_tree j ≡ accepted t → read_table l ≡ accepted t
    go (accepted u) h k = h ∙ ap accepted (same_in u (faults u ++ limits u) k)
    go (refused r) h k = clash (cc)

pub accepted-short : (l : List ℕ) (t : Tree) → judge_table l ≡ accepted t → length l ≤ 16384
accepted-short l t e = (read_held l t (accepted-read l t e)).short

-- what is asked of a table, and of what is lent
pub record AsksCompile (l sizes env known aims ends : List ℕ) : Type 0 where
  pub tree : Tree
  pub judged : judge_table l ≡ accepted tree
  pub sized : Known l sizes
  pub wide-env : length l ≤ length env
  pub wide-known : length l / 8 ≤ length known
  pub wide-aims : length l / 8 ≤ length aims
  pub wide-ends : length l / 8 ≤ length ends

-- what is asked once its entries are numbered, and the root's names entered
pub record Writes (t : Tree) (l : List ℕ) (count behind classes bodies : ℕ) (sizes env : List ℕ) (top : ℕ) (known aims ends : List ℕ) : Type 0 where
  pub judged : judge_table l ≡ accepted t
  pub order : InOrder t
  pub stage : Stage t l sizes env top known
  pub counted : count ≡ length t.head
  pub placed : behind ≡ after_head t
  pub classes-are : classes ≡ length (classes_of t.head)
  pub bodies-are : bodies ≡ 1 + length (procs_of t.head)
  pub wide-known : length l / 8 ≤ length known
  pub wide-aims : length l / 8 ≤ length aims
  pub wide-ends : length l / 8 ≤ length ends

abbrev pub AsksWrite : List ℕ → ℕ → ℕ → ℕ → ℕ → List ℕ → List ℕ → ℕ → List ℕ → List ℕ → List ℕ → Type 0
AsksWrite l count behind classes bodies sizes env top known aims ends = Writes (the_tree l) l count behind classes bodies sizes env top known aims ends

module _ {l sizes env known aims ends : List ℕ} (q : AsksCompile l sizes env known aims ends) (b : Bytes l) where
  held : Held l q.tree
  held = read_held l q.tree (accepted-read l q.tree q.judged)

  pub compile-short : length l ≤ 16384
  compile-short = held.short

  pub compile-whole : Whole q.tree l sizes env
  compile-whole = held_whole q.tree b q.sized q.wide-env held

  tabled-here : Tabled l sizes q.tree
  tabled-here = record { legible = compile-whole.legible; known = q.sized; same = compile-whole.same; readable = held.readable }

  tree_is : the_tree l ≡ q.tree
  tree_is = the-tree q.tree tabled-here

  module _ {count items behind : ℕ} (c : Counted l count items behind) where
    pub compile-holding : Holding l sizes count
    compile-holding = record { tree = q.tree; tabled = tabled-here; counted = (parts_of compile-whole c).many }

    module _ {mid : List ℕ} {top : ℕ} (g : RootPushed l count behind items env mid top) where
      sight-here : env_of mid top ≡ root_sight l q.tree
      unfolding env_of
      sight-here = let p = parts_of compile-whole c in g.now ∙ rw (p.many, p.count, p.place)

      pub compile-write : {numbers : List ℕ} {n : Numbers} → ((t : Tree) → Tabled l sizes t → Numbered t known numbers n)
          → AsksWrite l count behind n.classes n.bodies sizes mid top numbers aims ends
      compile-write {numbers} {n} f =
          let t = q.tree in let p = parts_of compile-whole c in let d = f t tabled-here in
          let a = accepted-program l b t q.judged in
          rw tree_is (record {
            judged = q.judged;
            order = subst InOrder a.1 (in_order l a.0);
            stage = record {
              prepared = record {
                tabled = tabled-here;
                faultless = subst (λ (u : Tree). faults u ≡ []) a.1 (formed-faultless _ a.0.well-formed);
                limited = subst KeepsLimits a.1 a.0.keeps-limits;
                numbered = record { rest = drop (1 + length (numbers_of t)) known; split = numbers-lie known t tabled-here q.wide-known d.known };
              };
              sight = sight-here;
              room = (ready-globals compile-whole c g).room;
            };
            counted = p.many;
            placed = p.place;
            classes-are = d.classes;
            bodies-are = d.bodies;
            wide-known = rw (d.known, length-sets known 1 (numbers_of t)) q.wide-known;
            wide-aims = q.wide-aims;
            wide-ends = q.wide-ends;
          })

-- ── the cursors ──
abbrev pub cursor_at : ℕ → ℕ → Bool → Cursor
cursor_at at sh dry = record { at = at; address = 0; sh = sh; shapes = 0; waits = false; dry = dry; inside = false }

dry-all : (xs : List Code) (p : Cursor) (l : List ℕ) → p.dry ≡ true → emitted_all xs p l ≡ l
unfolding emitted_all
dry-all [] p l d = refl
dry-all (x ∷ xs) p l d = dry-all xs (cursor_after x p) (emitted x p l) ((grows x p).same-dry ∙ d) ∙ dry-emitted x p l d

-- the ends tell where each body begins
firsts-in : (t : Tree) (l : List ℕ) (gs : List Global) (p a : ℕ) → AimsProcs t l gs p a → Firsts t l gs p a
unfolding AimsProcs Firsts next_first kind_of
firsts-in t l [] p a h = tt
firsts-in t l (local d ∷ gs) p a h = (λ e. absurd (not-here d e), rw (length-Global (local d)) (firsts-in t l gs (p + size_global (local d)) a h))
  where
    not-here : (d : Decl) → kind_of (local d) ≡ 12 → ⊥
    not-here (declare x) e = omega arith
    not-here (holding g) e = omega arith
firsts-in t l (class c xs ∷ gs) p a h = (λ e. absurd (omega arith), rw (length-Global (class c xs)) (firsts-in t l gs (p + size_global (class c xs)) a h))
firsts-in t l (procedure n xs b ∷ gs) p a h = (λ e. h.0, rw (length-Global (procedure n xs b)) (firsts-in t l gs (p + size_global (procedure n xs b)) (proc_end t (proc_of n xs b) a) h.2))

few-in : (bs : List Body) → Each SmallBody bs → Few bs
few-in [] h = tt
few-in (b ∷ bs) h = let a = h.0 in (omega arith, few-in bs h.1)

length-bodies : (t : Tree) → length (heads_of (parts t)) ≡ 1 + length (procs_of t.head)
unfolding heads_of parts
length-bodies t = let n = length-heads t (procs_of t.head) (root_end t) in omega arith

-- the last two bytes
two-set : (l : List ℕ) (n : ℕ) → 2 ≤ n → set (set l (n - 2) 90) (n - 1) 90 ≡ sets l (n - 2) zz
two-set l n h = let e : n - 1 ≡ suc (n - 2) = omega arith in ap (λ (i : ℕ). set (set l (n - 2) 90) i 90) e

-- ── the walks ──
module _ {l : List ℕ} {count behind classes bodies : ℕ} {sizes env : List ℕ} {top : ℕ} {known aims ends : List ℕ} (q : AsksWrite l count behind classes bodies sizes env top known aims ends) where
  code-small : length (compiled (the_tree l)).code < 65536
  code-small = (writable (the_tree l) q.order).narrow.few-instructions

  pub whole-small : length (macro_of (the_tree l)) < 2 ^ 62
  whole-small = macro-small (the_tree l) (writable (the_tree l) q.order)

  -- the dry one finds the ends: `aims` gets them
  pub write-dry : (out : List ℕ) {p : Cursor} → p ≡ cursor_at 0 0 true → AsksWalk l count behind sizes env top known ends aims out p
  write-dry out {p} e = rw e (record {
    stage = q.stage;
    counted = q.counted;
    placed = q.placed;
    aimed = λ d. clash (cc);
    ending = q.wide-aims;
    first = refl;
    outer = refl;
    fits = fits-dry (the_tree l) code-small whole-small (cursor_at 0 0 true) (length out) refl refl refl refl refl refl;
  })

  pub write-front : Measuring (the_tree l) l classes bodies
  write-front = record { short = q.stage.prepared.tabled.legible.short; same = q.stage.prepared.tabled.same; classes-are = q.classes-are; bodies-are = q.bodies-are }

  module _ {stack out : List ℕ} {M : Lent} {p r : Cursor} (e : p ≡ cursor_at 0 0 true) (y : AnswersWalk l (lent_of env aims stack out) M top p r) where
    told : Measured (compiled (the_tree l)) (cursor_at 0 0 true) (cursor_all (codes_of (parts (the_tree l))) (cursor_at 0 0 true))
    told = measured (the_tree l) (cursor_at 0 0 true) refl refl

    cursor-is : r ≡ within true (cursor_all (codes_of (parts (the_tree l))) (cursor_at 0 0 true))
    cursor-is = y.advanced ∙ ap (λ (z : Cursor). within true (cursor_all (codes_of (parts (the_tree l))) z)) e

    pub dry-out : M.out ≡ out
    dry-out = y.written ∙ (ap (λ (z : Cursor). emitted_all (codes_of (parts (the_tree l))) z out) e ∙ dry-all (codes_of (parts (the_tree l))) (cursor_at 0 0 true) out refl)

    -- what it has counted
    pub dry-address : r.address ≡ length (compiled (the_tree l)).code
    dry-address = ap (λ (z : Cursor). z.address) cursor-is ∙ told.address-measured

    dry-shapes : r.shapes ≡ length (compiled (the_tree l)).shapes
    dry-shapes = ap (λ (z : Cursor). z.shapes) cursor-is ∙ (told.shapes-measured ∙ omega arith)

    dry-sh : r.sh ≡ length (each shape_bytes (compiled (the_tree l)).shapes [])
    dry-sh = ap (λ (z : Cursor). z.sh) cursor-is ∙ (told.sh-measured ∙ omega arith)

    pub dry-length : {f : ℕ} → f ≡ length (front (compiled (the_tree l))) → f + 8 * r.address + r.sh + 2 ≡ length (macro_of (the_tree l))
    unfolding macro_of
    dry-length {f} h = omega (arith, h, front_length (compiled (the_tree l)), macro-length (compiled (the_tree l)), dry-address, dry-sh)

    dry-aims : Aims (the_tree l) M.ends
    dry-aims = rw y.ended (ends-laws.aims (the_tree l) aims (omega (arith, items-fit q.stage, q.wide-aims)))

    -- 7: "output shorter than the macro"
    pub write-refused : {n : ℕ} → n ≡ length (macro_of (the_tree l)) → length M.out < n → compile_on macro_of l out ≡ record { verdict = refused (refusal 7 0); bytes = M.out }
    unfolding compile_on
    write-refused {n} h k =
        rw q.judged (ap (λ (b : Bool). If b then record {
          verdict = accepted (length (macro_of (the_tree l)));
          bytes = sets out 0 (macro_of (the_tree l));
        } else record { verdict = refused (refusal 7 0); bytes = out })
        (lt-leb (length (macro_of (the_tree l))) (length out) (omega (arith, ap (length {A = ℕ}) dry-out))) ∙ ap (λ (o : List ℕ). record { verdict = refused (refusal 7 0); bytes = o }) (sym dry-out))

    pub write-put : (room : ℕ) → length (macro_of (the_tree l)) ≤ room → Fronted (the_tree l) l count behind sizes known M.ends classes bodies r.address r.shapes room
    unfolding macro_of compiled
    write-put room h =
        let w = writable (the_tree l) q.order in
        record {
          tabled = q.stage.prepared.tabled;
          counted = q.counted;
          items = q.placed;
          wide-known = q.wide-known;
          more = q.stage.prepared.numbered.rest;
          numbered = q.stage.prepared.numbered.split;
          wide-ends = omega (arith, q.wide-aims, y.kept.same_ends);
          root-end = dry-aims.of-root;
          firsts = firsts-in (the_tree l) M.ends (the_tree l).head 1 (root_end (the_tree l)) dry-aims.of-procs;
          classes-are = q.classes-are ∙ sym (length-field-types (the_tree l).head (classes_of (the_tree l).head));
          bodies-are = q.bodies-are ∙ sym (length-bodies (the_tree l));
          instructions-are = dry-address;
          shapes-are = dry-shapes;
          few-instructions = omega (arith, dry-address, code-small);
          few-shapes = omega (arith, dry-shapes, w.few-shapes);
          few-cells = few-in (compiled (the_tree l)).bodies w.small-bodies;
          fits = omega (arith, front_length (compiled (the_tree l)), macro-length (compiled (the_tree l)));
        }

    -- ── the real one, behind the front ──
    module _ {f : ℕ} (h : f ≡ length (front (compiled (the_tree l)))) (fit : length (macro_of (the_tree l)) ≤ length M.out) {put : List ℕ} {at : ℕ}
        (w : Wrote M.out 0 (front (compiled (the_tree l))) put at)
        {d : Cursor} (g : d ≡ cursor_at f (f + 8 * r.address) false) where
      sh-is : f + 8 * r.address ≡ f + 8 * length (compiled (the_tree l)).code
      sh-is = omega (arith, dry-address)

      same-put : length put ≡ length M.out
      same-put = ap (length {A = ℕ}) w.written ∙ length-sets M.out 0 (front (compiled (the_tree l)))

      pub write-real : AsksWalk l count behind sizes M.env top known M.ends ends put d
      write-real = rw g (record {
        stage = record { prepared = q.stage.prepared; sight = y.kept.env ∙ q.stage.sight; room = omega (arith, q.stage.room, y.kept.same-env) };
        counted = q.counted;
        placed = q.placed;
        aimed = λ z. dry-aims;
        ending = q.wide-ends;
        first = refl;
        outer = refl;
        fits = fits-real (the_tree l) code-small whole-small (cursor_at f (f + 8 * r.address) false) (length put) h refl sh-is refl refl (omega (arith, same-put));
      })

      module _ {used : List ℕ} {N : Lent} {s : Cursor} (z : AnswersWalk l (lent_of M.env ends used put) N top d s) where
        pub real-long : length N.out ≡ length M.out
        real-long = z.kept.same_out ∙ same-put

        real-sh : (cursor_all (codes_of (parts (the_tree l))) (cursor_at f (f + 8 * r.address) false)).sh ≡ f + 8 * r.address + r.sh
        real-sh = (measured (the_tree l) (cursor_at f (f + 8 * r.address) false) refl refl).sh-measured ∙ omega (arith, dry-sh)

        pub write_done : {n : ℕ} → n ≡ f + 8 * r.address + r.sh + 2 → compile_on macro_of l out ≡ record { verdict = accepted n; bytes = set (set N.out (n - 2) 90) (n - 1) 90 }
        unfolding compile_on
        write_done {n} k =
            let t = the_tree l in
            let c = codes_of (parts t) in
            let m : n ≡ length (macro_of t) = k ∙ dry-length h in
            let o : N.out ≡ emitted_all c (cursor_at f (f + 8 * r.address) false) (sets out 0 (front (compiled t)))
            =
            z.written ∙ (ap (λ (x : Cursor). emitted_all c x put) g
            ∙ ap (emitted_all c (cursor_at f (f + 8 * r.address) false)) (w.written ∙ ap (λ (x : List ℕ). sets x 0 (front (compiled t))) dry-out)) in
            let i : n - 2 ≡ (cursor_all c (cursor_at f (f + 8 * r.address) false)).sh = omega (arith, real-sh) in
            let last : set (set N.out (n - 2) 90) (n - 1) 90 ≡ sets out 0 (macro_of t)
            = two-set N.out n (omega arith) ∙ (ap (λ (j : ℕ). sets N.out j zz) i ∙ (ap (λ (x : List ℕ). sets x (cursor_all c (cursor_at f (f + 8 * r.address) false)).sh zz) o
            ∙ whole t (cursor_at f (f + 8 * r.address) false) refl refl out refl h sh-is)) in
            rw q.judged (ap (λ (b : Bool). If b then record { verdict = accepted (length (macro_of t)); bytes = sets out 0 (macro_of t) } else record { verdict = refused (refusal 7 0); bytes = out })
            (le-leb (length (macro_of t)) (length out) (omega (arith, ap (length {A = ℕ}) dry-out)))
            ∙ (ap (λ (j : ℕ). record { verdict = accepted j; bytes = sets out 0 (macro_of t) }) (sym m) ∙ ap (λ (x : List ℕ). record { verdict = accepted n; bytes = x }) (sym last)))
