-- All declarations of the root, and the whole table.
use Rattle.std.specs.Prelude.{◌≡◌, Bool, true, false, ℕ, zero, suc, ◌+◌, ◌-◌, ◌*◌, ◌/◌, ◌%◌, ◌≤◌, ◌<◌, eqb, ltb, drop, get_or, Ok, Err}
use Rattle.std.proofs.Math.Path.{refl}
use Rattle.std.proofs.Common.{ap, sym, ◌∙◌, arith, zero-add, length-drop, ltb-false, take_all}
use mathlib.Core.List.{List, [], ◌∷◌, ◌++◌, append-nil}
use Rattle.std.proofs.Math.ListN.{length, length-append}
use Rattle.language.specs.Program.{flat_items, flat_global, flat_head, flatten, deep_globals, nesting}
use Rattle.logic.specs.Lists.{all}
use Rattle.words.specs.Numbers.{half_at, word_at}
use Rattle.words.specs.Laws.{Bytes}
use Rattle.values.specs.Ends.{accepted}
use Rattle.language.specs.Tree.{Global, Tree, count_items}
use Rattle.language.specs.Table.{Entry, in_layout, Read, took, stop, first, form_root, one_tree, read_table}
use Rattle.language.specs.Names.{Scope, defines_globals, defines_items, root_of}
use Rattle.language.specs.Faults.{faults_items, names_global, faults_global, faults, size_global}
use Rattle.logic.specs.Tests.{clash, both_left, both_right}
use Rattle.language_laws.specs.Claims.{entries_of, Readable}
use Rattle.language_laws.proofs.Programs.{flatten-read}
use Rattle.table_entries.specs.declared.Fault.{Fault}
use Rattle.table_scopes.specs.Environment.{item, env_of, add_all, opened, Grown}
use Rattle.table_scopes.specs.EnvironmentLaws.{Small, small-append}
use Rattle.table_entries.specs.Spans.{Spans, span}
use Rattle.table_entries.specs.Entries.{length-entries}
use Rattle.table_entries.specs.Stands.{Stands, stands-left, stands-right, stands-tail, stands-within}
use Rattle.table_entries.specs.Sizes.{Known}
use Rattle.table_scopes.specs.Items.{labels_from, globals_from, root_items, Reach, ReachGlobals}
use Rattle.table_scopes.specs.Flaws.{Verdict, Says, says_first, says_then, says-fine}
use Rattle.table_scopes.specs.Trees.{length-Global, length-Items, spans-Global}
use Rattle.table_scopes.specs.Sees.{Legible, Sees, matches-append, sees-none, sees-block}
use Rattle.table_scopes.proofs.OnceBlocks.{once-block}
use Rattle.table_scopes.specs.Defines.{labels-small, label_items, label-items, label-matches, label-rising, labels-bulk, length-labels, OnceItems, once-items}
use Rattle.table_forms.specs.Walk.{Table, ReadyItems, AsksItems, AnswersItems}
use Rattle.table_forms.specs.Part.{head_of, table-next, below}
use Rattle.table_forms.specs.Globals.{items_of, global_items, heads-here, globals-at, globals-small, globals-match, length-items, globals-rising}
use Rattle.table_entries.specs.Spans.{spans-none, spans-then, spans-as}
use Rattle.table_scopes.specs.Defines.{span-here}
use Rattle.table_forms.specs.Root.{OnceGlobals, seen_globals, once-globals, faults_declared, faults-then, ReadyGlobal, AsksGlobal, AnswersGlobal, Any, global-head, size-least}

-- ── declarations one after the other ──
pub record ReadyGlobals (gs : List Global) (ss : List Scope) (seen l : List ℕ) (count place : ℕ) (sizes env : List ℕ) (top : ℕ) : Type 0 where
  pub legible : Legible l
  pub known : Known l sizes
  pub stands : Stands (entries_of l) place (flat_head gs)
  pub deep : deep_globals gs ≤ 63
  pub room : 4 * (top + length l / 8) ≤ length env
  pub sees : Sees l (env_of env top) ss
  pub once : OnceGlobals (env_of env top) seen place gs
  pub many : count ≡ length gs

pub record AsksGlobals (l : List ℕ) (count : ℕ) (sizes env : List ℕ) (top : ℕ) : Type 0 where
  pub globals : List Global
  pub scopes : List Scope
  pub ready : ReadyGlobals globals scopes [] l count 1 sizes env top

pub record AnswersGlobals (l : List ℕ) (count : ℕ) (sizes old new : List ℕ) (top : ℕ) (r : Verdict) : Type 0 where
  pub kept : env_of new top ≡ env_of old top
  pub same : length new ≡ length old
  pub judged : (gs : List Global) (ss : List Scope) → ReadyGlobals gs ss [] l count 1 sizes old top → Says r (faults_declared ss [] 1 gs)

pub record GoingGlobals (gs : List Global) (ss : List Scope) (l : List ℕ) (sizes env : List ℕ) (top place left : ℕ) : Type 0 where
  pub globals : List Global
  pub before : List ℕ
  pub ready : ReadyGlobals globals ss before l left place sizes env top
  pub same : faults_declared ss [] 1 gs ≡ faults_declared ss before place globals

pub record GlobalsSoFar (l : List ℕ) (count : ℕ) (sizes old : List ℕ) (top : ℕ) (env : List ℕ) (place left : ℕ) : Type 0 where
  pub kept : env_of env top ≡ env_of old top
  pub same : length env ≡ length old
  pub goes : (gs : List Global) (ss : List Scope) → ReadyGlobals gs ss [] l count 1 sizes old top → GoingGlobals gs ss l sizes env top place left

pub globals-start : (l : List ℕ) (count : ℕ) (sizes old : List ℕ) (top : ℕ) → GlobalsSoFar l count sizes old top old 1 count
globals-start l count sizes old top = record { kept = refl; same = refl; goes = λ gs ss r. record { globals = gs; before = []; ready = r; same = refl } }

pub record NextG (gs : List Global) (ss : List Scope) (seen l : List ℕ) (place : ℕ) (sizes env : List ℕ) (top left : ℕ) : Type 0 where
  pub this : Global
  pub later : List Global
  pub is : gs ≡ this ∷ later
  pub ready : ReadyGlobal this ss seen l (below l (8 * place)) place sizes env top
  pub next : Stands (entries_of l) (place + size_global this) (flat_head later)
  pub deep : deep_globals later ≤ 63
  pub once : OnceGlobals (env_of env top) (names_global this seen) (place + size_global this) later
  pub many : left ≡ suc (length later)

size-bound : (l : List ℕ) {place : ℕ} (g : Global) → Stands (entries_of l) place (flat_global g) → size_global g ≤ length l / 8
size-bound l {place} g h = omega (arith, length-drop place (entries_of l), ap length h.split, length-append (flat_global g) h.rest, length-Global g, length-entries (length l / 8) l)

next-g : (gs : List Global) (ss : List Scope) (seen : List ℕ) {l : List ℕ} {place left : ℕ} {sizes env : List ℕ} {top : ℕ}
    → ReadyGlobals gs ss seen l left place sizes env top → 0 < left → NextG gs ss seen l place sizes env top left
unfolding flat_head deep_globals OnceGlobals
next-g [] ss seen r h = absurd (omega (arith, r.many))
next-g (g ∷ gs) ss seen {l} {place} {left} {sizes} {env} {top} r h =
    let w = stands-left (flat_global g) (flat_head gs) r.stands in
    record {
      this = g;
      later = gs;
      is = refl;
      ready = record {
        table = record { whole = take_all (length l - 8 * place) (drop (8 * place) l) (omega (arith, length-drop (8 * place) l)); legible = r.legible; known = r.known };
        stands = w;
        deep = omega (arith, r.deep);
        room = omega (arith, r.room, size-bound l g w);
        sees = r.sees;
        once = r.once.0;
      };
      next = rw (length-Global g) at (stands-right (flat_global g) (flat_head gs) r.stands);
      deep = omega (arith, r.deep);
      once = r.once.1;
      many = r.many;
    }

pub record PassesGlobal (l sizes : List ℕ) (place n : ℕ) : Type 0 where
  pub start : 8 * place ≤ length l
  pub known : place < length sizes
  pub small : place + n ≤ 2048

module _ {l : List ℕ} {count : ℕ} {sizes old : List ℕ} {top : ℕ} {env : List ℕ} {place left : ℕ} (s : GlobalsSoFar l count sizes old top env place left) (h : 0 < left) where
  this-g : (gs : List Global) (ss : List Scope) (r : ReadyGlobals gs ss [] l count 1 sizes old top) → NextG (s.goes gs ss r).globals ss (s.goes gs ss r).before l place sizes env top left
  this-g gs ss r = let g = s.goes gs ss r in next-g g.globals ss g.before g.ready h

  pub globals-asks : AsksGlobals l count sizes old top → AsksGlobal Any l (below l (8 * place)) place sizes env top
  globals-asks q =
      let n = this-g q.globals q.scopes q.ready in record {
        global = n.this;
        scopes = q.scopes;
        seen = (s.goes q.globals q.scopes q.ready).before;
        holds = tt;
        ready = n.ready;
      }

  size-g : (gs : List Global) (ss : List Scope) (r : ReadyGlobals gs ss [] l count 1 sizes old top) (n : ℕ) → n ≡ get_or sizes place 0 → n ≡ size_global (this-g gs ss r).this
  size-g gs ss r n k =
      let x = this-g gs ss r in
      let d = global-head x.this x.ready in
      k ∙ x.ready.table.known.sized place (omega (arith, d.fits, size-least x.this))
      ∙ span-here l (flat_global x.this) (spans-Global x.this (heads-here x.ready.table.legible x.this x.ready.stands))
      x.ready.stands ∙ length-Global x.this

  pub globals-passes : AsksGlobals l count sizes old top → (n : ℕ) → n ≡ get_or sizes place 0 → PassesGlobal l sizes place n
  globals-passes q n k =
      let x = this-g q.globals q.scopes q.ready in
      let d = global-head x.this x.ready in
      let z = size-g q.globals q.scopes q.ready n k in
      record { start = omega (arith, d.fits); known = omega (arith, d.fits, size-least x.this, x.ready.table.known.wide); small = omega (arith, d.fits, x.ready.table.legible.short) }

  pub globals-stop : {new : List ℕ} {r : Verdict} (bad : Fault) → AnswersGlobal Any l (below l (8 * place)) place sizes env new top r → r ≡ Err bad
      → AnswersGlobals l count sizes old new top (Err bad)
  unfolding faults_declared
  globals-stop {new} {r} bad t e =
      record {
        kept = t.kept ∙ s.kept;
        same = t.same ∙ s.same;
        judged = λ gs ss q.
            let g = s.goes gs ss q in let x = this-g gs ss q in
            rw (g.same, x.is) (says_first r bad (faults_global ss g.before place x.this) _ e (t.judged x.this ss g.before tt x.ready));
      }

  pub globals-next : {new : List ℕ} {r : Verdict} (t n : ℕ) → AnswersGlobal Any l (below l (8 * place)) place sizes env new top r → r ≡ Ok t
      → n ≡ get_or sizes place 0 → GlobalsSoFar l count sizes old top new (place + n) (left - 1)
  unfolding faults_declared
  globals-next {new} {r} t n y e k =
      record {
        kept = y.kept ∙ s.kept;
        same = y.same ∙ s.same;
        goes = λ gs ss q.
            let g = s.goes gs ss q in let x = this-g gs ss q in let z = size-g gs ss q n k in
            let none = says-fine r t _ e (y.judged x.this ss g.before tt x.ready) in
            record {
              globals = x.later;
              before = names_global x.this g.before;
              same = g.same ∙ rw (x.is, none, z);
              ready =
                  record {
                    legible = g.ready.legible;
                    known = g.ready.known;
                    stands = rw z x.next;
                    deep = x.deep;
                    room = rw y.same g.ready.room;
                    sees = rw y.kept g.ready.sees;
                    once = rw (y.kept, z) x.once;
                    many = omega (arith, x.many);
                  };
            };
      }

no-globals : (gs : List Global) (n : ℕ) → n ≡ length gs → n ≡ 0 → gs ≡ []
no-globals [] n e z = refl
no-globals (g ∷ gs) n e z = absurd (omega arith)

pub globals-end : {l : List ℕ} {count : ℕ} {sizes old : List ℕ} {top : ℕ} {env : List ℕ} {place left : ℕ}
    → GlobalsSoFar l count sizes old top env place left → left ≡ 0 → AnswersGlobals l count sizes old env top (Ok 0)
unfolding faults_declared
globals-end {left = left} s h = record { kept = s.kept; same = s.same; judged = λ gs ss q. let g = s.goes gs ss q in g.same ∙ rw (no-globals g.globals left g.ready.many h) }

-- ── the whole table ──
spans-head : {l : List ℕ} (legible : Legible l) {p : ℕ} (gs : List Global) → Stands (entries_of l) p (flat_head gs) → Spans (length gs) (flat_head gs)
unfolding flat_head
spans-head legible [] h = spans-none
spans-head legible {p = p} (g ∷ gs) h =
    spans-as (1 + length gs) (suc (length gs)) (flat_global g ++ flat_head gs)
    (spans-then 1 (length gs) (flat_global g) (flat_head gs) (spans-Global g (heads-here legible g (stands-left (flat_global g) (flat_head gs) h)))
    (spans-head legible {p = p + length (flat_global g)} gs (stands-right (flat_global g) (flat_head gs) h))) (omega arith)

pub record Whole (t : Tree) (l sizes env : List ℕ) : Type 0 where
  pub legible : Legible l
  pub known : Known l sizes
  pub same : entries_of l ≡ flatten t
  pub depth : nesting t ≤ 64
  pub room : length l ≤ length env

length-globals : (p : ℕ) (gs : List Global) → length (global_items p gs) ≤ length (flat_head gs)
unfolding global_items flat_head
length-globals p [] = omega arith
length-globals p (g ∷ gs) =
    omega (
      arith,
      length-append (items_of p g) (global_items (p + size_global g) gs),
      length-append (flat_global g) (flat_head gs),
      length-items p g,
      length-Global g,
      length-globals (p + size_global g) gs,
    )

-- the counts in the root's entry, and where its items begin
pub record Counted (l : List ℕ) (heads rest after : ℕ) : Type 0 where
  pub first : heads ≡ half_at l 2
  pub second : rest ≡ word_at l 4
  pub third : after ≡ 1 + span heads (drop 1 (entries_of l))

pub record Parts (t : Tree) (l : List ℕ) (heads rest after : ℕ) : Type 0 where
  pub long : 8 ≤ length l
  pub many : heads ≡ length t.head
  pub count : rest ≡ count_items t.items
  pub place : after ≡ 1 + length (flat_head t.head)
  pub head : Stands (entries_of l) 1 (flat_head t.head)
  pub items : Stands (entries_of l) (1 + length (flat_head t.head)) (flat_items t.items)
  pub fits : 8 * (1 + length (flat_head t.head) + length (flat_items t.items)) ≤ length l

module _ {t : Tree} {l sizes env : List ℕ} (w : Whole t l sizes env) where
  root_stands : Stands (entries_of l) 0 (flatten t)
  root_stands = record { rest = []; split = w.same ∙ sym (append-nil (flatten t)) }

  table-0 : Table l l sizes 0
  table-0 = record { whole = refl; legible = w.legible; known = w.known }

  pub root-long : (8 ≤ length l) × (half_at l 2 ≡ length t.head) × (word_at l 4 ≡ count_items t.items) × (1 ≤ length l / 8)
  unfolding flatten
  root-long = let d = head_of _ _ table-0 root_stands in (omega (arith, d.within), d.a, d.b (count_items t.items) refl, omega (arith, d.within))

  pub parts : {heads rest after : ℕ} → Counted l heads rest after → Parts t l heads rest after
  unfolding flatten
  parts {heads} {rest} {after} c =
      let d = head_of _ _ table-0 root_stands in
      let u : Stands (entries_of l) 1 (flat_head t.head ++ flat_items t.items) = stands-tail _ _ root_stands in
      let g = stands-left (flat_head t.head) (flat_items t.items) u in
      let m : heads ≡ length t.head = c.first ∙ d.a in
      let z : span (length t.head) (drop 1 (entries_of l)) ≡ length (flat_head t.head) = rw g.split ((spans-head w.legible t.head g).spans g.rest) in
      record {
        long = omega (arith, d.within);
        many = m;
        count = c.second ∙ d.b (count_items t.items) refl;
        place = c.third ∙ rw (m, z);
        head = g;
        items = stands-right (flat_head t.head) (flat_items t.items) u;
        fits = omega (arith, stands-within _ _ root_stands, length-entries (length l / 8) l, length-append (flat_head t.head) (flat_items t.items));
      }

  -- what the root pushes
  module _ {heads rest after : ℕ} (c : Counted l heads rest after) where
    root-items : root_items l heads after rest ≡ global_items 1 t.head ++ label_items (1 + length (flat_head t.head)) t.items
    root-items = let p = parts c in
        rw (p.many, p.place, p.count, (globals-at w.legible 1 t.head p.head).1, (label-items w.legible (1 + length (flat_head t.head)) t.items p.items).1)

    pub root-reach : ReachGlobals l 1 heads × Reach l after rest
    root-reach =
        let p = parts c in rw (p.many, p.place, p.count) (
          (globals-at w.legible 1 t.head p.head).0,
          (label-items w.legible (1 + length (flat_head t.head)) t.items p.items).0,
        )

    most : 1 + length (root_items l heads after rest) ≤ length l / 8
    most = let p = parts c in
        omega (
          arith,
          ap length root-items,
          length-append (global_items 1 t.head) (label_items (1 + length (flat_head t.head)) t.items),
          length-globals 1 t.head,
          length-labels (1 + length (flat_head t.head)) t.items,
          labels-bulk t.items,
          length-Items t.items,
          p.fits,
          w.legible.short,
        )

    pub root-room : 4 * (1 + length (root_items l heads after rest)) ≤ length env
    root-room = omega (arith, most, w.room)

    root-small : Small (root_items l heads after rest)
    root-small = small-append (globals_from l 1 heads) (labels_from l after rest) (globals-small w.legible 1 heads) (labels-small w.legible after rest)

    module _ {mid : List ℕ} {up : ℕ} (g : Grown 0 env mid up (add_all (root_items l heads after rest) (item opened 0 0 0 ∷ env_of env 0)) (1 + length (root_items l heads after rest))) where
      now-is : env_of mid up ≡ add_all (global_items 1 t.head ++ label_items (1 + length (flat_head t.head)) t.items) (item opened 0 0 0 ∷ [])
      unfolding env_of
      now-is = g.now ∙ rw root-items

      root-sees : Sees l (env_of mid up) (root_of t ∷ [])
      root-sees = let p = parts c in
          rw now-is (sees-block (sees-none l) (global_items 1 t.head ++ label_items (1 + length (flat_head t.head)) t.items) (defines_globals t.head ++ defines_items t.items)
          (matches-append l (global_items 1 t.head) (label_items (1 + length (flat_head t.head)) t.items) (defines_globals t.head)
          (defines_items t.items) (globals-match w.legible 1 t.head p.head) (label-matches l (1 + length (flat_head t.head)) t.items))
          (rw root-items at root-small))

      root-once : OnceGlobals (env_of mid up) [] 1 t.head × OnceItems (env_of mid up) (seen_globals t.head []) (1 + length (flat_head t.head)) t.items
      root-once =
          let js = label_items (1 + length (flat_head t.head)) t.items in
          let o = once-globals (env_of mid up) [] 1 t.head js (rw now-is
          (once-block opened (global_items 1 t.head ++ js) [] 1 (omega arith) (rw root-items at root-small)
          (globals-rising 1 t.head js (label-rising (1 + length (flat_head t.head)) t.items)))) in
          (o.0, once-items (env_of mid up) (seen_globals t.head []) (1 + length (flat_head t.head)) t.items o.1)

      top-most : up ≤ length l / 8
      top-most = omega (arith, g.most, most)

      pub ready-globals : ReadyGlobals t.head (root_of t ∷ []) [] l heads 1 sizes mid up
      unfolding nesting
      ready-globals = let p = parts c in
          record {
            legible = w.legible;
            known = w.known;
            stands = p.head;
            deep = omega (arith, w.depth);
            room = omega (arith, top-most, g.same, w.room);
            sees = root-sees;
            once = root-once.0;
            many = p.many;
          }

      pub ready-rest : {new : List ℕ} → env_of new up ≡ env_of mid up → length new ≡ length mid
          → ReadyItems t.items (root_of t ∷ []) (seen_globals t.head []) l (below l (8 * after)) rest 63 after sizes new up
      unfolding nesting
      ready-rest {new} k e = let p = parts c in
          record {
            table = rw (zero-add after) at (table-next table-0 (8 * after) after refl);
            stands = rw p.place p.items;
            deep = omega (arith, w.depth);
            room = omega (arith, top-most, e, g.same, w.room, labels-bulk t.items, length-Items t.items, p.fits, w.legible.short);
            sees = rw k root-sees;
            once = rw (k, p.place) root-once.1;
            many = p.count;
          }

      pub root-says : (r s : Verdict) (u : ℕ) → r ≡ Ok u → Says r (faults_declared (root_of t ∷ []) [] 1 t.head)
          → Says s (faults_items (root_of t ∷ []) (seen_globals t.head []) after t.items) → Says s (faults t)
      unfolding faults
      root-says r s u e x y = let p = parts c in
          rw (faults-then (root_of t ∷ []) [] 1 t.head (λ seen q. faults_items (root_of t ∷ []) seen q t.items))
          (says_then r s u (faults_declared (root_of t ∷ []) [] 1 t.head) _ e x (rw p.place at y))

      pub root-stops : (r : Verdict) (bad : Fault) → r ≡ Err bad → Says r (faults_declared (root_of t ∷ []) [] 1 t.head) → Says (Err bad) (faults t)
      unfolding faults
      root-stops r bad e x =
          rw (faults-then (root_of t ∷ []) [] 1 t.head (λ seen p. faults_items (root_of t ∷ []) seen p t.items)) (says_first r bad (faults_declared (root_of t ∷ []) [] 1 t.head) _ e x)

-- ── a table that reads ──
pub record AsksRoot (l sizes env : List ℕ) : Type 0 where
  pub tree : Tree
  pub whole : Whole tree l sizes env

pub record AnswersRoot (l sizes old : List ℕ) (r : Verdict) : Type 0 where
  pub judged : (t : Tree) → Whole t l sizes old → Says r (faults t)

abbrev pub Reads : List ℕ → Type 0
Reads l = (t : Tree) × (read_table l ≡ accepted t)

pub record Held (l : List ℕ) (t : Tree) : Type 0 where
  pub short : length l ≤ 16384
  pub same : entries_of l ≡ flatten t
  pub readable : Readable t

one-tree : (es : List Entry) (x : Read Tree) (t : Tree) → one_tree es x ≡ accepted t → x ≡ took t []
unfolding one_tree
one-tree es (took u []) t e = cc
one-tree es (took u (x ∷ xs)) t e = clash (cc)
one-tree es (stop xs) t e = clash (cc)

pub read_held : (l : List ℕ) (t : Tree) → read_table l ≡ accepted t → Held l t
unfolding read_table
read_held l t e = go (eqb (length l) 0) refl (ltb 16384 (length l)) refl (eqb (length l % 8) 0) refl
  where
    go : (x : Bool) → eqb (length l) 0 ≡ x → (y : Bool) → ltb 16384 (length l) ≡ y → (z : Bool) → eqb (length l % 8) 0 ≡ z → Held l t
    go true a y b z d = clash (let k = rw a at e in cc)
    go false a true b z d = clash (let k = rw (a, b) at e in cc)
    go false a false b false d = clash (let k = rw (a, b, d) at e in cc)
    go false a false b true d =
        let k = one-tree (entries_of l) (first form_root (entries_of l)) t (rw (a, b, d) at e) in
        let f = flatten-read (entries_of l) [] t k in
        record { short = ltb-false 16384 (length l) b; same = f.0 ∙ append-nil (flatten t); readable = f.1 }

all-at : (xs : List Entry) (p : ℕ) (e : Entry) (ys : List Entry) → all in_layout xs ≡ true → drop p xs ≡ e ∷ ys → in_layout e ≡ true
unfolding all
all-at [] zero e ys h k = clash (cc)
all-at [] (suc p) e ys h k = clash (cc)
all-at (x ∷ xs) zero e ys h k = let z : x ≡ e = cc in rw z at (both_left (in_layout x) (all in_layout xs) h)
all-at (x ∷ xs) (suc p) e ys h k = all-at xs p e ys (both_right (in_layout x) (all in_layout xs) h) k

pub held_whole : {l sizes env : List ℕ} (t : Tree) → Bytes l → Known l sizes → length l ≤ length env → Held l t → Whole t l sizes env
held_whole {l} t b k r h =
    record {
      legible = record {
        bytes = b;
        short = h.short;
        layout = λ p e us s.
            all-at (flatten t) p e (us ++ s.rest) h.readable.layout (rw h.same at s.split);
      };
      known = k;
      same = h.same;
      depth = h.readable.depth;
      room = r;
    }

-- ── what the root asks and answers ──
abbrev pub RootPushed : List ℕ → ℕ → ℕ → ℕ → List ℕ → List ℕ → ℕ → Type 0
RootPushed l heads after rest env mid up = Grown 0 env mid up (add_all (root_items l heads after rest) (item opened 0 0 0 ∷ env_of env 0)) (1 + length (root_items l heads after rest))

module _ {l sizes env : List ℕ} {heads rest after : ℕ} (c : Counted l heads rest after) {mid : List ℕ} {up : ℕ} (g : RootPushed l heads after rest env mid up) where
  pub root-globals : AsksRoot l sizes env → AsksGlobals l heads sizes mid up
  root-globals q = record { globals = q.tree.head; scopes = root_of q.tree ∷ []; ready = ready-globals q.whole c g }

  module _ {new : List ℕ} {r : Verdict} (y : AnswersGlobals l heads sizes mid new up r) where
    pub root-rest : AsksRoot l sizes env → AsksItems l (below l (8 * after)) rest 63 after sizes new up
    root-rest q = record { items = q.tree.items; scopes = root_of q.tree ∷ []; seen = seen_globals q.tree.head []; ready = ready-rest q.whole c g y.kept y.same }

    pub root-stop : (bad : Fault) → r ≡ Err bad → AnswersRoot l sizes env (Err bad)
    root-stop bad e = record { judged = λ t w. root-stops w c g r bad e (y.judged t.head (root_of t ∷ []) (ready-globals w c g)) }

    pub root-judged : (u : ℕ) {late : List ℕ} {s : Verdict} → r ≡ Ok u → AnswersItems l (below l (8 * after)) rest 63 after sizes new late up s → AnswersRoot l sizes env s
    root-judged u {late} {s} e z =
        record {
          judged = λ t w. root-says w c g r s u e (y.judged t.head (root_of t ∷ []) (ready-globals w c g))
              (z.judged t.items (root_of t ∷ []) (seen_globals t.head []) (ready-rest w c g y.kept y.same));
        }

pub root-place : {l sizes env : List ℕ} {heads rest after : ℕ} → AsksRoot l sizes env → Counted l heads rest after → (8 * after ≤ length l) × (after ≤ 2048)
root-place q c = let p = parts q.whole c in (omega (arith, p.place, p.fits), omega (arith, p.place, p.fits, q.whole.legible.short))
