-- What the walk counts is what the entries span: an entry with all that stands below it, or so many one after the other. So what the reader notes
-- of an entry is its size. Assumes nothing.
use mathlib.Core.Path.{◌≡◌, refl, ap, sym, ◌∙◌}
use mathlib.Core.Bool.{Bool, true, false, ◌&&◌}
use mathlib.Core.List.{List, [], ◌∷◌, ◌++◌}
use Prim.Native.Nat.{ℕ, zero, suc, ◌+◌, ◌/◌, ◌%◌, ◌≤◌, ◌<◌}
use native.Mathlib.Omega.{arith}
use native.Mathlib.Nat.{add-zero}
use lib.Dec.{eqb}
use lib.IntN.{nat_abs}
use lib.ListN.{length, drop, set, replicate, length-replicate, length-append}
use borrow.Author.Tests.{eqb-true}
use Rattle.logic.specs.Choice.{If◌then◌else◌}
use Rattle.logic.specs.Tests.{clash, both_left}
use Rattle.language.specs.Table.{Entry}
use Rattle.table_entries.specs.Arity.{parts}
use Rattle.language_laws.specs.Claims.{entries_of}
use Rattle.table_entries.specs.Entries.{entries-length}
use Rattle.table_entries.specs.Sizes.{Sized, sized-entry}
use Rattle.table_entries.specs.Spans.{arity, span_of, span, span-zero, span-then}
use Rattle.table_read.specs.declared.kinds.Sort.{Sort}
use Rattle.table_read.specs.declared.kinds.Sort.TheVariants.{Typed, Decl, Part, Stmt, Target, Expr}
use Rattle.std.specs.Prelude.{Result, Ok, Err}
use Rattle.table_read.proofs.Steps.{under_whole, stop-moved, stop-first}
use Rattle.table_read.proofs.Roots.{walk-root-whole}
use Rattle.table_read.specs.Operands.{sorts, body_sort}
use Rattle.table_read.specs.Walk.{moved, placed, onward, chain, kind_at, name_at, size_at, laid_at, stands_at, sorts_of, under, entered, admits, walk, is_global, tally, walk_head, walk_below, walk_root}

-- ── how many operands an entry has ──
either : (b : Bool) (x y : List Sort) {m n : ℕ} → length x ≡ m → length y ≡ n → length (If b then x else y) ≡ (If b then m else n)
either true x y h k = h
either false x y h k = k

sorts-parts : (k a n : ℕ) → length (sorts k a n) ≡ parts k a n
unfolding sorts parts
sorts-parts k a n =
    either (eqb k 1) (replicate a Decl ++ replicate n Part) _ (simp (length-append, length-replicate))
    (either (eqb k 11) (replicate n Typed) _ (length-replicate n Typed)
    (either (eqb k 12) (replicate (n / 256) Typed ++ (body_sort (n % 256) ∷ [])) _ (simp (length-append, length-replicate))
    (either (eqb k 21) (Target ∷ Expr ∷ []) _ refl
    (either (eqb k 22) (Expr ∷ Stmt ∷ []) _ refl
    (either (eqb k 23) (Expr ∷ Stmt ∷ Stmt ∷ []) _ refl
    (either (eqb k 24) (Expr ∷ Stmt ∷ []) _ refl
    (either (eqb k 26) (Expr ∷ []) _ refl
    (either (eqb k 27) (replicate n Expr) _ (length-replicate n Expr)
    (either (eqb k 28) (Expr ∷ Expr ∷ []) _ refl
    (either (eqb k 30) (Expr ∷ replicate a Stmt) _ (simp length-replicate (omega arith))
    (either (eqb k 31) (Expr ∷ Expr ∷ Expr ∷ Stmt ∷ []) _ refl
    (either (eqb k 45) (replicate n Expr) _ (length-replicate n Expr)
    (either (eqb k 46) (Expr ∷ []) _ refl
    (either (eqb k 47) (replicate n Expr) _ (length-replicate n Expr)
    (either (eqb k 48) (Expr ∷ []) _ refl
    (either (eqb k 49) (Expr ∷ Expr ∷ []) _ refl
    (either (eqb k 50) (Expr ∷ Expr ∷ Expr ∷ []) _ refl
    (either (eqb k 51) (Expr ∷ []) _ refl
    (either (eqb k 53) (replicate a Decl ++ (replicate n Part ++ (Expr ∷ []))) [] (simp (length-append, length-replicate) (omega arith)) refl)))))))))))))))))))

-- ── answers ──
-- w counts what one entry spans
abbrev Counts : (List Entry → Result ℕ ℕ) → Type 0
Counts w = (es : List Entry) (n : ℕ) → w es ≡ Ok n → n ≡ span 1 es

moved-tree : {A : Type 0} (k n : ℕ) (r : Result ℕ ℕ) → moved k r ≡ Ok n → ((m : ℕ) → r ≡ Ok m → n ≡ k + m → A) → A
moved-tree k n (Ok m) e f = f m refl (cc)
moved-tree k n (Err p) e f = clash (cc)

onward-tree : {A : Type 0} (r : Result ℕ ℕ) (g : ℕ → Result ℕ ℕ) (n : ℕ) → onward r g ≡ Ok n → ((k m : ℕ) → r ≡ Ok k → g k ≡ Ok m → n ≡ k + m → A) → A
onward-tree (Ok k) g n e f = moved-tree k n (g k) e (λ m q z. f k m refl q z)
onward-tree (Err p) g n e f = clash (cc)

-- one that counts k parts, and then one that counts m
both_span : (es : List Entry) (i j k m n : ℕ) → k ≡ span i es → m ≡ span j (drop k es) → n ≡ k + m → n ≡ span (i + j) es
both_span es i j k m n h g e = omega (arith, span-then es i j, h, g, ap (λ (x : ℕ). span j (drop x es)) h)

module _ (w : Sort → List Entry → Result ℕ ℕ) (h : (s : Sort) → Counts (w s)) where
  chain-span : (ss : List Sort) (es : List Entry) (n : ℕ) → chain w ss es ≡ Ok n → n ≡ span (length ss) es
  unfolding chain
  chain-span [] es n e = let z : n ≡ 0 = cc in z ∙ sym (span-zero es)
  chain-span (s ∷ ss) es n e =
      let l : 1 + length ss ≡ length (s ∷ ss) = omega arith in
      onward-tree (w s es) (λ k. chain w ss (drop k es)) n e
      (λ k m p q z. both_span es 1 (length ss) k m n (h s es k p) (chain-span ss (drop k es) m q) z ∙ ap (λ (x : ℕ). span x es) l)

  -- an entry and its operands
  below_span : (e : Entry) (es : List Entry) (n : ℕ) → chain w (sorts_of e) es ≡ Ok n → 1 + n ≡ span 1 (e ∷ es)
  unfolding span_of
  below_span e es n q =
      let k : n ≡ span (arity e) es = chain-span (sorts_of e) es n q ∙ ap (λ (x : ℕ). span x es) (sorts-parts e.kind e.a (nat_abs e.b)) in
      rw (add-zero (arity e)) (omega arith)

  entered-span : (p : ℕ → Bool) → Counts (entered w p)
  unfolding entered
  entered-span p [] n e = clash (let z : Err 0 ≡ Ok n = e in cc)
  entered-span p (f ∷ es) n e = go (laid_at (f ∷ es) && p f.kind) e
    where
      go : (b : Bool) → (If b then moved 1 (chain w (sorts_of f) es) else Err 0) ≡ Ok n → n ≡ span 1 (f ∷ es)
      go true q = moved-tree 1 n (chain w (sorts_of f) es) q (λ m k z. z ∙ below_span f es m k)
      go false q = clash (cc)

walk-span : (d : ℕ) (s : Sort) → Counts (walk d s)
unfolding walk
walk-span zero s es n e = clash (let z : Err 0 ≡ Ok n = e in cc)
walk-span (suc d) s es n e = entered-span (λ t x. walk d t x) (walk-span d) (admits s) es n e

-- ── the root ──
head-span : (m c p : ℕ) (es : List Entry) (n : ℕ) → walk_head m c p es ≡ Ok n → n ≡ span m es
unfolding walk_head
head-span zero c p es n e = let z : n ≡ 0 = cc in z ∙ sym (span-zero es)
head-span (suc m) c p es n e =
    let l : 1 + m ≡ suc m = omega arith in
    onward-tree (entered (walk 62) (is_global c p) es) (λ k. walk_head m (c + tally (kind_at es) 11) (p + tally (kind_at es) 12) (drop k es)) n e
    (λ k j q r z. both_span es 1 m k j n (entered-span (walk 62) (walk-span 62) (is_global c p) es k q)
    (head-span m (c + tally (kind_at es) 11) (p + tally (kind_at es) 12) (drop k es) j r) z ∙ ap (λ (x : ℕ). span x es) l)

below_root : (a b : ℕ) (es : List Entry) (n : ℕ) → walk_below a b es ≡ Ok n → n ≡ span (a + b) es
unfolding walk_below
below_root a b es n e =
    onward-tree (walk_head a 0 0 es) (λ k. chain (walk 63) (replicate b Part) (drop k es)) n e
    (λ k m p q z. both_span es a b k m n (head-span a 0 0 es k p)
    (chain-span (walk 63) (walk-span 63) (replicate b Part) (drop k es) m q ∙ ap (λ (x : ℕ). span x (drop k es)) (length-replicate b Part)) z)

root-span : (es : List Entry) (n : ℕ) → stands_at 1 es ≡ true → walk_below (name_at es) (size_at es) (drop 1 es) ≡ Ok n → 1 + n ≡ span 1 es
unfolding span_of parts
root-span [] n s e = clash (let z : false ≡ true = s in cc)
root-span (f ∷ es) n s e =
    let k = eqb-true f.kind 1 (both_left (eqb f.kind 1) (laid_at (f ∷ es)) s) in
    let z = below_root f.a (nat_abs f.b) es n e in
    rw (k, add-zero (f.a + nat_abs f.b)) (omega arith)

-- ── what the code notes and answers ──
-- an entry, after its operands
module _ (d : ℕ) (l : List ℕ) (at : ℕ) where
  abbrev below : Result ℕ ℕ
  below = chain (walk d) (sorts (kind_at (entries_of l)) (name_at (entries_of l)) (size_at (entries_of l))) (drop 1 (entries_of l))

  pub entry-stop : {x : Result ℕ ℕ} {q : ℕ} → x ≡ placed (at + 1) below → x ≡ Err q → Err q ≡ placed at (under (walk d) (entries_of l))
  entry-stop e c = stop-moved at 1 below (λ p u. under_whole (walk d) (entries_of l) ∙ ap (moved 1) u) e c

  pub entry_read : 8 ≤ length l → {n : ℕ} → below ≡ Ok n → {old mid : List ℕ} → Sized (drop 1 (entries_of l)) (at + 1) n old mid → at < length mid
      → {x : ℕ} {new : List ℕ} → x ≡ 1 + n → new ≡ set mid at (1 + n)
      → (Ok x ≡ placed at (under (walk d) (entries_of l))) × Sized (entries_of l) at x old new
  entry_read some {n} e f w p q =
      rw (p, q) (
        ap (placed at) (sym (under_whole (walk d) (entries_of l) ∙ ap (moved 1) e)),
        sized-entry f w (go (entries_of l) (omega (arith, entries-length l)) e),
      )
    where
      go : (es : List Entry) → 1 ≤ length es → chain (walk d) (sorts (kind_at es) (name_at es) (size_at es)) (drop 1 es) ≡ Ok n → 1 + n ≡ span 1 es
      go [] h z = absurd (omega arith)
      go (f ∷ es) h z = below_span (walk d) (walk-span d) f es n z

-- the root, after all that stands below it
module _ (es : List Entry) (s : stands_at 1 es ≡ true) where
  abbrev all-below : Result ℕ ℕ
  all-below = walk_below (name_at es) (size_at es) (drop 1 es)

  pub root-stop : {x : Result ℕ ℕ} {q : ℕ} → x ≡ placed 1 all-below → x ≡ Err q → Err q ≡ walk_root es
  root-stop e c = stop-first all-below e c ∙ sym (walk-root-whole es s)

  pub root-read : {n : ℕ} → all-below ≡ Ok n → {old mid : List ℕ} → Sized (drop 1 es) 1 n old mid → 0 < length mid
      → {x : ℕ} {new : List ℕ} → x ≡ 1 + n → new ≡ set mid 0 (1 + n) → (Ok x ≡ walk_root es) × Sized es 0 x old new
  root-read {n} e f w p q = rw (p, q) (sym (walk-root-whole es s ∙ ap (moved 1) e), sized-entry f w (root-span es n s e))
