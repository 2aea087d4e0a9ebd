-- What is asked of every body of a program, and what its walkers then ask: the root's items, and the body of a procedure.
use Rattle.std.specs.Prelude.{◌≡◌, Bool, true, false, List, [], ◌∷◌, ◌++◌, map, ℕ, zero, suc, ◌+◌, ◌-◌, ◌*◌, ◌/◌, ◌%◌, ◌≤◌, eqb, drop}
use Rattle.std.proofs.Math.Path.{refl, sym}
use Rattle.std.proofs.Common.{ap, ◌∙◌, add_assoc}
use native.Mathlib.Omega.{arith}
use Rattle.std.proofs.Math.ListN.{length, length-append}
use Rattle.language.specs.Program.{flat_typed, flat_s, flat_items, result_code, flat_body, flat_global, flat_head, flatten, deep_global, nesting}
use Rattle.language.specs.Tree.{Typed, Body, proper, function, Global, procedure, Tree, count_items, locals}
use Rattle.language.specs.Names.{Scope, procedure_of, root_of}
use Rattle.language.specs.Faults.{faults}
use Rattle.language.specs.Limits.{body_usage, head_cells, head_holds}
use Rattle.language.specs.Formed.{InLimits, KeepsLimits}
use Rattle.logic.specs.Choice.{If◌then◌else◌}
use Rattle.words.specs.Numbers.{word_at}
use Rattle.language_laws.specs.Claims.{entries_of}
use Rattle.table_scopes.specs.Environment.{Item, item, env_of}
use Rattle.table_entries.specs.Entries.{length-entries}
use Rattle.table_entries.specs.Stands.{Stands, stands-right, stands-tail, stands-within}
use Rattle.table_scopes.specs.Items.{kind_at, a_at, b_at, one_at, items_at}
use Rattle.table_scopes.specs.Trees.{Heads, length-map, length-Items}
use Rattle.table_scopes.specs.Defines.{labels-bulk}
use Rattle.table_forms.specs.Walk.{Table}
use Rattle.table_forms.specs.Part.{head_of, table-next, below}
use Rattle.table_forms.specs.Globals.{heads-here}
use Rattle.table_forms.specs.Procedures.{Walled}
use Rattle.bytecode.specs.Instructions.{own}
use Rattle.compile_code.specs.Code.{at}
use Rattle.compile_code.specs.Compile.{Around, inside, global, scopes_of, held_in, Proc}
use Rattle.compile_code.specs.Encode.{start_of_root, around_body, code_proc, code_body}
use Rattle.compile_names.specs.Known.{of_root, of_shared, scopes-parameters}
use Rattle.compile_names.specs.Globals.{GoodBody, good-tree}
use Rattle.compile_symbols.specs.Numbers.{numbers_from, numbers_of}
use Rattle.compile_symbols.specs.Tabled.{Tabled}
use Rattle.compile_output.specs.declared.Cursor.{Cursor}
use Rattle.compile_output.specs.EmitRecord.{Fits}
use Rattle.compile_output.specs.EmitCode.{cursor_after, fits-before, later-moved}
use Rattle.compile_nodes.specs.Knows.{Lies, Walk}
use Rattle.compile_nodes.specs.Ready.{Node, stmt, expr, Place, Lent, Stood, Ready, ReadyItems}
use Rattle.compile_scopes.specs.Heads.{Anything, around-root, around-shared, scopes-entering}
use Rattle.compile_code.specs.Counts.{length-classes, held-parameters, held-roots}
use Rattle.compile_scopes.specs.Roots.{root-items-stand}
use Rattle.compile_scopes.specs.Sight.{after_head, root_sight, start_of_items, around_root, around_procedures, Rooted, sees-in-root, sees-in-procedures, knows-in-root}
use Rattle.compile_scopes.specs.Sight.{knows-in-procedures, lands-in-root, procedure_sight, sees-in-procedure, knows-in-procedure, lands-in-procedure}
use Rattle.compile_scopes.specs.Cells.{within-items, within-S, within-E}
use Rattle.compile_scopes.specs.HeadOps.{head-held, head-cells, holds-open}
use Rattle.compile_whole.specs.Heads.{root_items}
use Rattle.compile_whole.specs.Numbers.{classes_by, numbers-items, numbers-body}
use Rattle.compile_whole.specs.Ends.{items_ends, proc_of, proc_ends}

-- ── the table, the tree that it holds, what its entries stand for; and the root's names in sight ──
pub record Prepared (t : Tree) (l sizes known : List ℕ) : Type 0 where
  pub tabled : Tabled l sizes t
  pub faultless : faults t ≡ []
  pub limited : KeepsLimits t
  pub numbered : Lies known 1 (numbers_of t)

pub record Stage (t : Tree) (l sizes env : List ℕ) (top : ℕ) (known : List ℕ) : Type 0 where
  pub prepared : Prepared t l sizes known
  pub sight : env_of env top ≡ root_sight l t
  pub room : 4 * (top + length l / 8) ≤ length env

-- what is the same while a body is walked
abbrev pub walk_of : Tree → List ℕ → List ℕ → Cursor → Walk
walk_of t known aims cursor = record { globals = t.head; known = known; aims = aims; dry = cursor.dry; within = cursor.inside }

abbrev pub lent_of : List ℕ → List ℕ → List ℕ → List ℕ → Lent
lent_of env ends stack out = record { env = env; ends = ends; stack = stack; out = out }

module _ {t : Tree} {l sizes env : List ℕ} {top : ℕ} {known : List ℕ} (s : Stage t l sizes env top known) where
  abbrev rooted : (aims : List ℕ) (cursor : Cursor) → Rooted t (walk_of t known aims cursor)
  rooted aims cursor =
      record {
        readable = s.prepared.tabled.readable;
        good = s.prepared.faultless;
        cells = omega (arith, s.prepared.limited.root.cells);
        globals = refl;
        numbered = s.prepared.numbered;
      }

  entries_fit : length (flatten t) ≡ length l / 8
  entries_fit = ap length (sym s.prepared.tabled.same) ∙ length-entries (length l / 8) l

  pub items-fit : after_head t + length (flat_items t.items) ≡ length l / 8
  unfolding flatten
  items-fit = omega (arith, entries_fit, length-append (flat_head t.head) (flat_items t.items))

-- ── the root's items, a cursor having written its head ──
root-scopes : (t : Tree) → scopes_of (around_root t) ≡ root_of t ∷ []
unfolding scopes_of
root-scopes t = ap scopes_of (around-root (locals t.head) (start_of_root t) (at 0 0)) ∙ scopes-entering of_root (locals t.head) 0 (start_of_root t)

global-held : (a n : ℕ) (Γ : List Around) → held_in (global own a n ∷ Γ) ≡ held_in Γ
unfolding held_in
global-held a n Γ = refl

root-held : (t : Tree) → length (held_in (around_root t)) ≡ head_holds (locals t.head)
unfolding held_in
root-held t = omega (arith, head-held (global own) global-held (locals t.head) (start_of_root t) (at 0 0), holds-open (locals t.head))

module _ {t : Tree} {l sizes env : List ℕ} {top : ℕ} {known : List ℕ} (s : Stage t l sizes env top known)
    (aims ends stack out : List ℕ) (cursor : Cursor) where
  pub ready-items : (part : List ℕ) (after : ℕ) → after ≡ after_head t → part ≡ drop (8 * after) l
      → (cursor.dry ≡ false → Lies aims (after_head t) (items_ends t))
      → length l / 8 ≤ length ends → 32 ≤ length stack → cursor.address ≡ (start_of_items t).address → cursor.inside ≡ false → Fits (cursor_after (root_items t) cursor) (length out)
      → ReadyItems t.items (walk_of t known aims cursor) (record { around = around_root t; types = []; start = start_of_items t }) l part (count_items t.items) 63 after sizes
      (lent_of env ends stack out) top (head_holds (locals t.head)) 0 cursor
  unfolding nesting
  ready-items part after a e aimed ending stacked address outer fits =
      let k = s.prepared.limited.root in
      let n : (start_of_items t).cell ≡ head_cells (locals t.head) = head-cells (locals t.head) (at 0 0) ∙ omega arith in
      let r = rooted s aims cursor in
      record {
        table = record { whole = e; legible = s.prepared.tabled.legible; known = s.prepared.tabled.known };
        laid = record {
          stands = rw a (root-items-stand s.prepared.tabled.legible t s.prepared.tabled.same);
          cells = omega (arith, within-items t.items, k.cells);
          numbered = rw (a, n) (numbers-items t s.prepared.numbered);
          aimed = λ d. rw a (aimed d);
        };
        stood = record {
          sees = rw s.sight (sees-in-root s.prepared.tabled.legible t s.prepared.tabled.same);
          knows = rw s.sight (knows-in-root s.prepared.tabled.legible t s.prepared.tabled.same r outer);
          held = sym (root-held t);
          deep = refl;
          typed = refl;
          stacked = stacked;
          address = address;
          dryness = refl;
          inside = refl;
        };
        room = omega (arith, s.room, items-fit s, labels-bulk t.items, length-Items t.items);
        ending = omega (arith, ending, items-fit s);
        fits = fits;
        deep = omega (arith, s.prepared.tabled.readable.depth);
        good = rw (root-scopes t) (good-tree t s.prepared.faultless).1;
        lands = rw s.sight (lands-in-root s.prepared.tabled.legible t s.prepared.tabled.same (walk_of t known aims cursor) aimed);
        few-holds = omega (arith, k.holds);
        few-values = omega (arith, k.need);
        many = refl;
      }

-- ── a procedure that stands at a place ──
abbrev pub global_of : Proc → Global
global_of q = procedure q.name q.parameters q.body

pub record ReadyProc (t : Tree) (q : Proc) (l part : List ℕ) (place : ℕ) (sizes env : List ℕ) (top : ℕ) (known aims ends stack out : List ℕ) (cursor : Cursor) : Type 0 where
  pub stage : Stage t l sizes env top known
  pub whole : part ≡ drop (8 * place) l
  pub stands : Stands (entries_of l) place (flat_global (global_of q))
  pub deep : deep_global (global_of q) ≤ 63
  pub good : GoodBody (procedure_of q.parameters ∷ root_of t ∷ []) q.body
  pub keeps : InLimits (body_usage q.parameters q.body)
  pub numbered : Lies known (place + 1) (numbers_from (classes_by t) 0 (map flat_typed q.parameters ++ flat_body q.body))
  pub aimed : cursor.dry ≡ false → Lies aims (place + 1 + length q.parameters) (proc_ends t q cursor.address)
  pub ending : length l / 8 ≤ length ends
  pub stacked : 32 ≤ length stack
  pub within : cursor.inside ≡ true
  pub fits : Fits (cursor_after (code_proc t q cursor.address) cursor) (length out)

-- what its heading says
pub record Heading (l part : List ℕ) (place heading : ℕ) (q : Proc) : Type 0 where
  pub many : heading / 256 ≡ length q.parameters
  pub result : heading % 256 ≡ result_code q.body
  pub long : length part ≡ length l - 8 * place
  pub within : 8 * (place + 1 + length q.parameters) + 8 * length (flat_body q.body) ≤ length l

module _ {t : Tree} {q : Proc} {l part : List ℕ} {place : ℕ} {sizes env : List ℕ} {top : ℕ} {known aims ends stack out : List ℕ} {cursor : Cursor}
    (r : ReadyProc t q l part place sizes env top known aims ends stack out cursor) where
  proc-table : Table l part sizes place
  proc-table = record { whole = r.whole; legible = r.stage.prepared.tabled.legible; known = r.stage.prepared.tabled.known }

  pub heading-of : (heading : ℕ) → heading ≡ word_at part 4 → Heading l part place heading q
  unfolding flat_global Heads
  heading-of heading e =
      let d = head_of _ _ proc-table r.stands in
      let k = heads-here r.stage.prepared.tabled.legible (global_of q) r.stands in
      let n : heading ≡ 256 * length q.parameters + result_code q.body = e ∙ d.b (256 * length q.parameters + result_code q.body) refl in
      record {
        many = omega arith;
        result = omega arith;
        long = d.long;
        within =
            omega (
              arith,
              stands-within _ _ r.stands,
              length-append (map flat_typed q.parameters) (flat_body q.body),
              length-map flat_typed q.parameters,
              length-entries (length l / 8) l,
            );
      }

-- its parameters are pushed behind a wall: so many at most
pub items-few : (sort : ℕ) (l : List ℕ) (p n : ℕ) → length (items_at sort l p n) ≤ n
unfolding items_at one_at
items-few sort l p zero = omega arith
items-few sort l p (suc n) = by (eqb (kind_at l p) 10) (items-few sort l (p + 1) n)
  where
    by : (b : Bool) → length (items_at sort l (p + 1) n) ≤ n → length ((If b then item (a_at l p) sort (b_at l p) p ∷ [] else []) ++ items_at sort l (p + 1) n) ≤ suc n
    by true h = omega arith
    by false h = omega arith

abbrev pub node_of : Body → Node
node_of (proper s) = stmt s
node_of (function u e) = expr e

abbrev pub body_place : Tree → List Typed → ℕ → Place
body_place t xs a = record { around = around_body t xs; types = []; start = at a (length xs) }

body-scopes : (t : Tree) (xs : List Typed) → scopes_of (around_body t xs) ≡ procedure_of xs ∷ root_of t ∷ []
unfolding scopes_of
body-scopes t xs =
    scopes-parameters Anything xs 0 (inside (procedure_of xs) ∷ around_procedures t)
    ∙ ap (λ (ss : List Scope). procedure_of xs ∷ ss) (ap scopes_of (around-shared (locals t.head) 0 (start_of_root t)) ∙ scopes-entering of_shared (locals t.head) 0 (start_of_root t))

body-held : (t : Tree) (xs : List Typed) → 0 ≡ length (held_in (around_body t xs))
unfolding held_in
body-held t xs = sym (ap length (held-parameters xs 0 (inside (procedure_of xs) ∷ around_procedures t) ∙ held-roots (locals t.head) 0 (start_of_root t)))

-- all parameters are cells
few-parameters : (xs : List Typed) (b : Body) → InLimits (body_usage xs b) → length xs ≤ 32
few-parameters xs (proper s) k = omega (arith, k.cells)
few-parameters xs (function u e) k = omega (arith, k.cells)

module _ (t : Tree) (l part : List ℕ) (place : ℕ) (sizes env : List ℕ) (top : ℕ) (known aims ends stack out : List ℕ) (cursor : Cursor) (a : ℕ) (xs : List Typed) where
  abbrev Here : Body → Type 0
  Here b = ReadyProc t (proc_of a xs b) l part place sizes env top known aims ends stack out cursor

  tail : (b : Body) → Here b → Stands (entries_of l) (place + 1) (map flat_typed xs ++ flat_body b)
  unfolding flat_global
  tail b r = stands-tail _ _ r.stands

  module _ (mid : List ℕ) (up : ℕ) (w : Walled l place (length xs) top env mid up) where
    abbrev Body-ready : Body → Type 0
    Body-ready b =
        Ready (node_of b) (walk_of t known aims cursor) (body_place t xs cursor.address) l (below part (8 * (1 + length xs))) 62
        (place + 1 + length xs) sizes (lent_of mid ends stack out) up 0 0 cursor

    sight-here : (b : Body) → Here b → env_of mid up ≡ procedure_sight l place xs (root_sight l t)
    sight-here b r = w.now ∙ ap (λ (v : List Item). procedure_sight l place xs v) r.stage.sight

    stood : (b : Body) → Here b → Stood (walk_of t known aims cursor) (body_place t xs cursor.address) l (lent_of mid ends stack out) up 0 0 cursor
    stood b r =
        let s = r.stage in
        record {
          sees =
              rw (sight-here b r) (sees-in-procedure s.prepared.tabled.legible place xs (flat_body b) (tail b r) (around_procedures t)
              (sees-in-procedures s.prepared.tabled.legible t s.prepared.tabled.same));
          knows =
              rw (sight-here b r) (knows-in-procedure s.prepared.tabled.legible place xs (flat_body b) (tail b r)
              (knows-in-procedures s.prepared.tabled.legible t s.prepared.tabled.same (rooted s aims cursor) r.within)
              (omega (arith, length-classes t.head, s.prepared.tabled.readable.classes)) (few-parameters xs b r.keeps) r.numbered);
          held = body-held t xs;
          deep = refl;
          typed = refl;
          stacked = r.stacked;
          address = refl;
          dryness = refl;
          inside = refl;
        }

    table_here : (b : Body) → Here b → Table l (below part (8 * (1 + length xs))) sizes (place + 1 + length xs)
    table_here b r =
        rw (add_assoc place 1 (length xs)) (table-next (record {
          whole = r.whole;
          legible = r.stage.prepared.tabled.legible;
          known = r.stage.prepared.tabled.known;
        }) (8 * (1 + length xs)) (1 + length xs) refl)

    stands_here : (b : Body) → Here b → Stands (entries_of l) (place + 1 + length xs) (flat_body b)
    stands_here b r = rw (length-map flat_typed xs) at (stands-right (map flat_typed xs) (flat_body b) (tail b r))

    fits-here : (b : Body) → Here b → Fits (cursor_after (code_body t.head b (around_body t xs) (at cursor.address (length xs))) cursor) (length out)
    unfolding cursor_after
    fits-here b r = fits-before (length out) (later-moved _) r.fits

    entries-here : (b : Body) → Here b → place + 1 + length xs + length (flat_body b) ≤ length l / 8
    unfolding flat_global
    entries-here b r = omega (arith, stands-within _ _ r.stands, length-append (map flat_typed xs) (flat_body b), length-map flat_typed xs, length-entries (length l / 8) l)

    room-here : (b : Body) → Here b → 4 * (up + length (flat_body b)) ≤ length mid
    room-here b r = omega (arith, r.stage.room, w.most, w.same, items-few 4 l (place + 1) (length xs), entries-here b r)

    pub ready-body : (b : Body) → Here b → Body-ready b
    unfolding flat_body
    ready-body (proper z) r =
        record {
          table = table_here (proper z) r;
          laid =
              record {
                stands = stands_here (proper z) r;
                cells = omega (arith, within-S z, r.keeps.cells);
                numbered = numbers-body (classes_by t) place xs (proper z) r.numbered;
                aimed = r.aimed;
              };
          stood = stood (proper z) r;
          room = room-here (proper z) r;
          ending = omega (arith, entries-here (proper z) r, r.ending);
          fits = fits-here (proper z) r;
          deep = omega (arith, r.deep);
          good = rw (body-scopes t xs) r.good;
          lands =
              rw (sight-here (proper z) r) (lands-in-procedure r.stage.prepared.tabled.legible place xs (flat_s z) (tail (proper z) r)
              (walk_of t known aims cursor) (root_sight l t) (around_body t xs));
          few-holds = omega (arith, r.keeps.holds);
          few-values = omega (arith, r.keeps.need);
        }
    ready-body (function u e) r =
        record {
          table = table_here (function u e) r;
          laid =
              record {
                stands = stands_here (function u e) r;
                cells = omega (arith, within-E e, r.keeps.cells);
                numbered = numbers-body (classes_by t) place xs (function u e) r.numbered;
                aimed = r.aimed;
              };
          stood = stood (function u e) r;
          room = room-here (function u e) r;
          ending = omega (arith, entries-here (function u e) r, r.ending);
          fits = fits-here (function u e) r;
          deep = omega (arith, r.deep);
          good = rw (body-scopes t xs) r.good.0;
          lands = tt;
          few-holds = omega (arith, r.keeps.holds);
          few-values = omega (arith, r.keeps.need);
        }
