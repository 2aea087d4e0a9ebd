-- The root's head, the root and the table are read as the walk says. Assumes nothing.
use mathlib.Core.Path.{◌≡◌, refl, ap, sym, ◌∙◌}
use mathlib.Core.Bool.{Bool, true, false, ◌&&◌}
use mathlib.Core.List.{List, [], ◌∷◌}
use mathlib.Core.Option.{get_or}
use Prim.Native.Nat.{ℕ, zero, suc, ◌+◌, ◌-◌, ◌*◌, ◌/◌, ◌%◌, ◌≤◌, ◌<◌}
use native.Mathlib.Omega.{arith}
use native.Mathlib.Nat.{add-zero}
use native.Mathlib.Decide.{ℕ_discrete}
use lib.Dec.{eqb, ltb}
use lib.IntN.{nat_abs}
use lib.ListN.{length, take, drop, replicate, length-drop}
use lib.Seq.{drop-length, drop-drop}
use borrow.Author.Tests.{ne_eqb, eq-eqb, lt-ltb, le-ltb}
use Rattle.logic.specs.Choice.{If◌then◌else◌}
use Rattle.values.specs.Ends.{Refusal, refusal}
use Rattle.values.specs.Types.{integer}
use Rattle.language.specs.Tree as tree
use Rattle.language.specs.Tree.{proper, function, Global, local, class, procedure}
use Rattle.language.specs.Table as table
use Rattle.language.specs.Table.{Entry, in_layout, took, stop, Reader, after, made, two, repeated, first, Below, items_of, items_below, form_decl, below, body_below, ty_of_code}
use Rattle.language.specs.Table.{form_global, class_count, procedure_count, read_head, tree_of, form_root, one_tree, read_table}
use Rattle.logic.specs.Tests.{clash, and-false}
use Rattle.language_laws.specs.Claims.{entries_of}
use Rattle.table_read.specs.declared.kinds.Sort.{Sort}
use Rattle.table_read.specs.declared.kinds.Sort.TheVariants.{Typed, Part, Stmt, Expr}
use Rattle.std.specs.Prelude.{Result, Ok, Err}
use Rattle.std.specs.Prelude.{⊤}
use Rattle.table_read.specs.Operands.{sorts, body_sort}
use Rattle.table_read.specs.Walk.{reading_of, counted, moved, placed, onward, chain, kind_at, name_at, size_at, laid_at}
use Rattle.table_read.specs.Walk.{stands_at, sorts_of, sorts_at, entered, walk, is_global, tally, walk_head, walk_below, walk_root}
use Rattle.table_read.proofs.Ends.{Ends, ended, halted, Same, Chained, ends-count, ends-moved, ends-made, ends-then, ends-entry, ends-if, ends-stop, same-made}
use Rattle.table_read.proofs.Ends.{same-one, same-times, times-then, same_first}
use Rattle.table_read.proofs.Forms.{reads, below-entry, declaration, walks}
use Rattle.table_entries.specs.Entries.{entries-length, entries-rest, rest as back}
use Rattle.table_entries.specs.Sizes.{Sized, sized-none, sized-then}
use Rattle.table_read.specs.Filling.{Fills}
use Rattle.table_read.proofs.Parts.{laid-here}
use Rattle.table_read.proofs.Steps.{moved-zero, moved-moved, placed-ok, stop-moved, counted-moved, chain-count}

-- ── a declaration of the root's head ──
module _ (r : Below) (w : Sort → List Entry → Result ℕ ℕ) (h : (s : Sort) → Same (reads s r) (w s)) where
  body : (t : ℕ) → Chained w (body_below r t) (body_sort t ∷ [])
  body t = go (eqb t 0)
    where
      go : (b : Bool) → Chained w (If b then made proper r.stmt else made (function (get_or (ty_of_code t) integer)) r.expr) ((If b then Stmt else Expr) ∷ [])
      go true = same-made w proper (same-one w (h Stmt))
      go false = same-made w (function (get_or (ty_of_code t) integer)) (same-one w (h Expr))

  global : (c p : ℕ) (e : Entry) (es : List Entry) → Ends (e ∷ es) (form_global r c p e es) (If is_global c p e.kind then moved 1 (chain w (sorts_of e) es) else Err 0)
  unfolding form_global is_global sorts
  global c p e es =
      let n = nat_abs e.b in
      elim (ℕ_discrete e.kind 11) [
        | yes q ↦ rw q (ends-if (ltb c 16) (below-entry r w h e es (same-made w (class e.a) (same-times w (h Typed) n))) (ends-stop _))
        | no n11 ↦
            elim (ℕ_discrete e.kind 12) [
              | yes q ↦ rw q (ends-if (ltb p 63) (below-entry r w h e es
                  (times-then w (h Typed) (n / 256) (λ xs. made (procedure e.a xs) (body_below r (n % 256))) (λ xs. same-made w (procedure e.a xs) (body (n % 256))))) (ends-stop _))
              | no n12 ↦
                  rw (ne_eqb _ _ n11, ne_eqb _ _ n12) (ends-made local (rw (ne_eqb _ _ n11, ne_eqb _ _ n12) at (declaration r w h e es)))
            ]
      ]

  globals : (c p : ℕ) → Same (first (form_global r c p)) (entered w (is_global c p))
  globals c p = same_first w (is_global c p) (form_global r c p) (λ e es l. global c p e es)

-- what a kind counts, as the declaration does
abbrev Counts : ℕ → Global → Type 0
Counts k g = (class_count g ≡ tally k 11) × (procedure_count g ≡ tally k 12)

after-took : {A B : Type 0} {C : Type 0} (x : table.Read A) (f : A → Reader B) (y : B) (rest : List Entry) → after x f ≡ took y rest
    → ((z : A) (es : List Entry) → f z es ≡ took y rest → C) → C
unfolding after
after-took (took z es) f y rest e k = k z es e
after-took (stop es) f y rest e k = clash (cc)

made-took : {A : Type 0} (x : table.Read A) (f : A → Global) (k : ℕ) (g : Global) (rest : List Entry) → after x (λ y. took (f y)) ≡ took g rest
    → ((y : A) → Counts k (f y)) → Counts k g
made-took x f k g rest e c = after-took x (λ y. took (f y)) g rest e (λ z es q. let s : f z ≡ g = cc in rw s at (c z))

if-took : {A C : Type 0} (b : Bool) (x y : table.Read A) (z : A) (rest : List Entry) → (If b then x else y) ≡ took z rest → (x ≡ took z rest → C) → (y ≡ took z rest → C) → C
if-took true x y z rest e f g = f e
if-took false x y z rest e f g = g e

stop-took : {A C : Type 0} {es : List Entry} {x : A} {rest : List Entry} → stop es ≡ took x rest → C
stop-took e = clash (cc)

form-counts : (r : Below) (c p : ℕ) (e : Entry) (es : List Entry) (g : Global) (rest : List Entry) → form_global r c p e es ≡ took g rest → Counts e.kind g
unfolding form_global
form-counts r c p e es g rest q =
    let n = nat_abs e.b in
    elim (ℕ_discrete e.kind 11) [
      | yes k ↦ rw k
          (if-took (ltb c 16) (made (class e.a) (repeated n r.typed) es) (stop _) g rest (rw k at q)
          (λ m. made-took (repeated n r.typed es) (class e.a) 11 g rest m (λ y. (refl, refl))) stop-took)
      | no n11 ↦
          elim (ℕ_discrete e.kind 12) [
            | yes k ↦ rw k
                (if-took (ltb p 63) (two (procedure e.a) (repeated (n / 256) r.typed) (body_below r (n % 256)) es) (stop _) g rest (rw k at q)
                (λ m. after-took (repeated (n / 256) r.typed es) (λ xs. made (procedure e.a xs) (body_below r (n % 256))) g rest m
                (λ xs fs u. made-took (body_below r (n % 256) fs) (procedure e.a xs) 12 g rest u (λ b. (refl, refl)))) stop-took)
            | no n12 ↦
                made-took (form_decl e es) local e.kind g rest (rw (ne_eqb _ _ n11, ne_eqb _ _ n12) at q) (λ d. (rw (ne_eqb _ _ n11), rw (ne_eqb _ _ n12)))
          ]
    ]

global-counts : (r : Below) (c p : ℕ) (es : List Entry) (g : Global) (rest : List Entry) → first (form_global r c p) es ≡ took g rest → Counts (kind_at es) g
unfolding first
global-counts r c p [] g rest q = stop-took q
global-counts r c p (e ∷ es) g rest q =
    if-took (in_layout e) (form_global r c p e es) (stop (e ∷ es)) g rest q (form-counts r c p e es g rest) stop-took

-- ── the head ──
head_step : (n c p : ℕ) → ((c p : ℕ) → Same (read_head (below 62) n c p) (walk_head n c p)) → (es : List Entry) {x : table.Read Global} {a : Result ℕ ℕ}
    → first (form_global (below 62) c p) es ≡ x → Ends es x a
    → Ends es (after x (λ g rest. after (read_head (below 62) n (c + class_count g) (p + procedure_count g) rest) (λ gs. took (g ∷ gs))))
    (onward a (λ m. walk_head n (c + tally (kind_at es) 11) (p + tally (kind_at es) 12) (drop m es)))
unfolding after
head_step n c p more es e (ended g m l) =
    let k = global-counts (below 62) c p es g (drop m es) e in
    rw (k.0, k.1) (ends-moved es m l (ends-made (λ gs. g ∷ gs) ((more (c + tally (kind_at es) 11) (p + tally (kind_at es) 12)).ends (drop m es))))
head_step n c p more es e (halted m l) = halted m l

pub heads : (n c p : ℕ) → Same (read_head (below 62) n c p) (walk_head n c p)
unfolding read_head walk_head
heads zero c p = record { ends = λ es. ended [] 0 (omega arith) }
heads (suc n) c p = record { ends = λ es. head_step n c p (heads n) es refl ((globals (below 62) (walk 62) (walks 62) c p).ends es) }

-- ── the root ──
pub roots : Same (first form_root) walk_root
unfolding first form_root walk_root walk_below
roots = record { ends = at }
  where
    whole : (e : Entry) (es : List Entry) → Ends (e ∷ es) (two tree_of (read_head (below 62) e.a 0 0) (items_below (below 63) e) es)
        (moved 1 (onward (walk_head e.a 0 0 es) (λ n. chain (walk 63) (replicate (nat_abs e.b) Part) (drop n es))))
    whole e es =
        ends-entry e es
        (ends-then es (λ gs. made (tree_of gs) (items_below (below 63) e)) (chain (walk 63) (replicate (nat_abs e.b) Part)) ((heads e.a 0 0).ends es)
        (λ gs fs. ends-made (tree_of gs) ((same-made (walk 63) items_of (same-times (walk 63) (walks 63 Part) (nat_abs e.b))).ends fs)))

    here : (e : Entry) (es : List Entry) (b : Bool) → Ends (e ∷ es) (If b then form_root e es else stop (e ∷ es))
        (If eqb e.kind 1 && b then moved 1 (onward (walk_head e.a 0 0 es) (λ n. chain (walk 63) (replicate (nat_abs e.b) Part) (drop n es))) else Err 0)
    here e es true =
        elim (ℕ_discrete e.kind 1) [ yes q ↦ rw (eq-eqb _ _ q) (whole e es) | no n ↦ rw (ne_eqb _ _ n) (ends-stop (e ∷ es)) ]
    here e es false = rw (and-false (eqb e.kind 1)) (ends-stop (e ∷ es))

    at : (es : List Entry) → Ends es (first form_root es) (walk_root es)
    at [] = ends-stop []
    at (e ∷ es) = here e es (in_layout e)

-- ── what the code comes to ──
pub head-fits : (n : ℕ) (l : List ℕ) {k : ℕ} → walk_head n 0 0 (entries_of l) ≡ Ok k → 8 * k ≤ length l
head-fits n l e = omega (arith, ap counted e, ends-count ((heads n 0 0).ends (entries_of l)), entries-length l)

entered-laid : (w : Sort → List Entry → Result ℕ ℕ) (q : ℕ → Bool) (es : List Entry) {k : ℕ} → entered w q es ≡ Ok k → laid_at es ≡ true
unfolding entered
entered-laid w q es {k} e = go (laid_at es) e
  where
    go : (b : Bool) → (If b && q (kind_at es) then moved 1 (chain w (sorts_at es) (drop 1 es)) else Err 0) ≡ Ok k → b ≡ true
    go true e = refl
    go false e = clash (cc)

pub tally-small : (k j : ℕ) → tally k j ≤ 1
tally-small k j = go (eqb k j)
  where
    go : (b : Bool) → (If b then 1 else 0) ≤ 1
    go true = omega arith
    go false = omega arith

module _ (n c p : ℕ) (es : List Entry) where
  walk-head-step : {k m : ℕ} → n ≡ suc m → entered (walk 62) (is_global c p) es ≡ Ok k
      → walk_head n c p es ≡ moved k (walk_head m (c + tally (kind_at es) 11) (p + tally (kind_at es) 12) (drop k es))
  unfolding walk_head
  walk-head-step h e = rw (h, e)

  walk-head-stop : {f m : ℕ} → n ≡ suc m → entered (walk 62) (is_global c p) es ≡ Err f → walk_head n c p es ≡ Err f
  unfolding walk_head
  walk-head-stop h e = rw (h, e)

  walk-head-end : n ≡ 0 → walk_head n c p es ≡ Ok 0
  unfolding walk_head
  walk-head-end h = rw h

-- declarations, as the loop passes them
pub record Declared (count : ℕ) (part old new rest : List ℕ) (passed classes procedures left : ℕ) : Type 0 where
  pub same : walk_head count 0 0 (entries_of part) ≡ moved passed (walk_head left classes procedures (entries_of rest))
  pub behind : entries_of rest ≡ drop passed (entries_of part)
  pub long : 8 * passed + length rest ≡ length part
  pub few : classes + left ≤ count
  pub fewer : procedures + left ≤ count
  pub sized : Sized (entries_of part) 1 passed old new

pub declared-none : (count left : ℕ) (part old : List ℕ) → left ≡ count → Declared count part old old part 0 0 0 left
declared-none count left part old e =
    record { same = rw e (moved-zero _); behind = refl; long = omega arith; few = omega arith; fewer = omega arith; sized = sized-none (entries_of part) 1 old }

module _ {count : ℕ} {part old new rest : List ℕ} {passed classes procedures left : ℕ} (h : Declared count part old new rest passed classes procedures left) where
  pub declared-end : left ≡ 0 → Ok passed ≡ placed 1 (walk_head count 0 0 (entries_of part))
  declared-end e = ap (placed 1) (sym (h.same ∙ ap (moved passed) (walk-head-end left classes procedures (entries_of rest) e) ∙ ap Ok (add-zero passed)))

  module _ {less : ℕ} (more : left ≡ suc less) {x : Result ℕ ℕ} (r : x ≡ placed (1 + passed) (entered (walk 62) (is_global classes procedures) (entries_of rest))) where
    abbrev one : Result ℕ ℕ
    one = entered (walk 62) (is_global classes procedures) (entries_of rest)

    pub declared-fits : {k : ℕ} → x ≡ Ok k → 8 * k ≤ length rest
    declared-fits c =
        omega (
          arith,
          ap counted (placed-ok (1 + passed) one r c),
          ends-count ((globals (below 62) (walk 62) (walks 62) classes procedures).ends (entries_of rest)),
          entries-length rest,
        )

    pub declared-stop : {p : ℕ} → x ≡ Err p → Err p ≡ placed 1 (walk_head count 0 0 (entries_of part))
    declared-stop c =
        stop-moved 1 passed one (λ m u. h.same ∙ ap (moved passed) (walk-head-stop left classes procedures (entries_of rest) more u)) r c

    pub declared-here : {k : ℕ} → x ≡ Ok k → 8 ≤ length rest
    declared-here c = laid-here rest (entered-laid (walk 62) (is_global classes procedures) (entries_of rest) (placed-ok (1 + passed) one r c))

    pub declared-next : {k kind u v : ℕ} {late : List ℕ} → x ≡ Ok k → Fills (entries_of rest) (1 + passed) new late x → kind ≡ kind_at (entries_of rest)
        → u ≡ tally kind 11 → v ≡ tally kind 12
        → Declared count part old late (take (length rest - 8 * k) (drop (8 * k) rest)) (passed + k) (classes + u) (procedures + v) less
    declared-next {k} {kind} {u} {v} c f e p q =
        let long = declared-fits c in
        let g : Sized (entries_of rest) (1 + passed) k new _ = rw c at f in
        let on = walk_head less (classes + tally (kind_at (entries_of rest)) 11) (procedures + tally (kind_at (entries_of rest)) 12) (drop k (entries_of rest)) in
        record {
          same = h.same ∙ ap (moved passed) (walk-head-step left classes procedures (entries_of rest) more (placed-ok (1 + passed) one r c))
              ∙ rw (p, q, e, entries-rest k rest) (moved-moved passed k on);
          behind = entries-rest k rest ∙ ap (drop k) h.behind ∙ drop-drop k passed (entries_of part);
          long = rw (back (8 * k) rest) (omega (arith, h.long, length-drop (8 * k) rest));
          few = omega (arith, h.few, tally-small kind 11);
          fewer = omega (arith, h.fewer, tally-small kind 12);
          sized = sized-then h.sized (rw h.behind at g);
        }

-- what stands below the root: its declarations, and then its statements
below-count : (a b : ℕ) (es : List Entry) → counted (walk_below a b es) ≤ length es
unfolding walk_below
below-count a b es = go (walk_head a 0 0 es) (ends-count ((heads a 0 0).ends es))
  where
    go : (r : Result ℕ ℕ) → counted r ≤ length es → counted (onward r (λ n. chain (walk 63) (replicate b Part) (drop n es))) ≤ length es
    go (Ok n) h =
        omega (arith, counted-moved n (chain (walk 63) (replicate b Part) (drop n es)), chain-count 63 (replicate b Part) (drop n es), length-drop n es)
    go (Err p) h = h

pub below-fits : (a b : ℕ) (l : List ℕ) {n : ℕ} → walk_below a b (entries_of l) ≡ Ok n → 8 * n ≤ length l
below-fits a b l e = omega (arith, ap counted e, below-count a b (entries_of l), entries-length l)

module _ (a b : ℕ) (es : List Entry) where
  pub walk-below-stop : {x : Result ℕ ℕ} {q : ℕ} → x ≡ placed 1 (walk_head a 0 0 es) → x ≡ Err q → Err q ≡ placed 1 (walk_below a b es)
  unfolding walk_below
  walk-below-stop e c = go (walk_head a 0 0 es) e c
    where
      go : (r : Result ℕ ℕ) {x : Result ℕ ℕ} {q : ℕ} → x ≡ placed 1 r → x ≡ Err q → Err q ≡ placed 1 (onward r (λ m. chain (walk 63) (replicate b Part) (drop m es)))
      go (Ok m) e c = clash (cc)
      go (Err p) e c = cc

  -- the statements after a head of k entries
  pub walk-below-whole : {k : ℕ} → walk_head a 0 0 es ≡ Ok k → walk_below a b es ≡ moved k (chain (walk 63) (sorts 1 0 b) (drop k es))
  unfolding walk_below sorts
  walk-below-whole e = rw e

module _ (es : List Entry) where
  pub walk-root-none : stands_at 1 es ≡ false → walk_root es ≡ Err 0
  unfolding walk_root
  walk-root-none e = rw e

  pub walk-root-whole : stands_at 1 es ≡ true → walk_root es ≡ moved 1 (walk_below (name_at es) (size_at es) (drop 1 es))
  unfolding walk_root
  walk-root-whole e = rw e

-- ── the table ──
module _ (l : List ℕ) where
  pub table_empty : length l ≡ 0 → Err (refusal 1 0) ≡ reading_of (read_table l)
  unfolding read_table
  table_empty h = rw (eq-eqb _ _ h)

  module _ (some : length l ≡ 0 → ⊥) where
    pub table-over : 16384 < length l → Err (refusal 1 0) ≡ reading_of (read_table l)
    unfolding read_table
    table-over h = rw (ne_eqb _ _ some, lt-ltb _ _ h)

    pub table-uneven : length l ≤ 16384 → (length l % 8 ≡ 0 → ⊥) → Err (refusal 1 0) ≡ reading_of (read_table l)
    unfolding read_table
    table-uneven h k = rw (ne_eqb _ _ some, le-ltb _ _ h, ne_eqb _ _ k)

    pub table-shaped : length l ≤ 16384 → length l % 8 ≡ 0 → read_table l ≡ one_tree (entries_of l) (first form_root (entries_of l))
    unfolding read_table
    table-shaped h k = rw (ne_eqb _ _ some, le-ltb _ _ h, eq-eqb _ _ k)

module _ (es : List Entry) where
  abbrev answered : table.Read tree.Tree → Result ⊤ Refusal
  answered x = reading_of (one_tree es x)

  pub one-tree : {n : ℕ} {x : Result ℕ ℕ} → x ≡ walk_root es → x ≡ Ok n → n ≡ length es → Ok tt ≡ answered (first form_root es)
  unfolding one_tree
  one-tree e q h = go (roots.ends es) (sym e ∙ q) h
    where
      go : {y : table.Read tree.Tree} {a : Result ℕ ℕ} {n : ℕ} → Ends es y a → a ≡ Ok n → n ≡ length es → Ok tt ≡ answered y
      go (ended t m l) q h = let s : m ≡ length es = cc in rw (s, drop-length es)
      go (halted m l) q h = clash (cc)

  left : (t : tree.Tree) (n : ℕ) (rest : List Entry) → length rest ≡ length es - n → n ≤ length es → (n ≡ length es → ⊥) → Err (refusal 2 n) ≡ answered (took t rest)
  unfolding one_tree
  left t n [] e l h = absurd (omega arith)
  left t n (f ∷ fs) e l h = let z : length es - length (f ∷ fs) ≡ n = omega arith in rw z

  pub more-entries : {n : ℕ} {x : Result ℕ ℕ} → x ≡ walk_root es → x ≡ Ok n → (n ≡ length es → ⊥) → Err (refusal 2 n) ≡ answered (first form_root es)
  more-entries e q h = go (roots.ends es) (sym e ∙ q) h
    where
      go : {y : table.Read tree.Tree} {a : Result ℕ ℕ} {n : ℕ} → Ends es y a → a ≡ Ok n → (n ≡ length es → ⊥) → Err (refusal 2 n) ≡ answered y
      go {n = n} (ended t m l) q h = let s : m ≡ n = cc in rw (← s) (left t m (drop m es) (length-drop m es) l (λ z. h (sym s ∙ z)))
      go (halted m l) q h = clash (cc)

  pub no-tree : {p : ℕ} {x : Result ℕ ℕ} → x ≡ walk_root es → x ≡ Err p → Err (refusal 2 p) ≡ answered (first form_root es)
  unfolding one_tree
  no-tree e q = go (roots.ends es) (sym e ∙ q)
    where
      go : {y : table.Read tree.Tree} {a : Result ℕ ℕ} {p : ℕ} → Ends es y a → a ≡ Err p → Err (refusal 2 p) ≡ answered y
      go (ended t m l) q = clash (cc)
      go {p = p} (halted m l) q = let s : m ≡ p = cc in let z : length es - length (drop p es) ≡ p = omega (arith, length-drop p es) in rw (s, z)
