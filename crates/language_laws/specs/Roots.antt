-- The root: what the entries of a tree are read as, and what a tree that was read is written as.
use Rattle.std.specs.Prelude.{◌≡◌, true, eqb, leb, ltb}
use Rattle.std.proofs.Math.Path.{refl, ap}
use mathlib.Core.List.{List, [], ◌∷◌, map}
use Prim.Native.Nat.{ℕ, zero, suc, ◌+◌, ◌*◌, ◌/◌, ◌%◌, ◌≤◌, ◌<◌}
use native.Mathlib.Omega.{arith}
use Rattle.std.proofs.Math.IntN.{nat_abs}
use Rattle.std.proofs.Math.ListN.{length}
use borrow.Author.Tests.{leb-true, ltb-true, lt-ltb}
use Rattle.language.specs.Program.{flat_typed, flat_decl, result_code, flat_body, flat_global, flat_head, flatten, deep_list, deep_body, deep_global, deep_globals, nesting, total}
use Rattle.logic.specs.Choice.{If◌then◌else◌}
use Rattle.values.specs.Types.{integer, logical, bits, reference}
use Rattle.language.specs.Tree.{Typed, declare, holding, Body, proper, function, Global, local, class, procedure, Tree}
use Rattle.language.specs.Table.{Entry, in_layout, natural, is_heading, took, stop, Reader, after, two, repeated, first, Below, items_below, below, body_below, form_global}
use Rattle.language.specs.Table.{class_count, procedure_count, read_head, tree_of, form_root}
use Rattle.logic.specs.Tests.{both_left, both_right}
use Rattle.language_laws.specs.Claims.{Readable}
use Rattle.language_laws.specs.Codes.{within-natural}
use Rattle.language_laws.specs.Takes.{Fits, fits_head, Takes, takes-eq, takes-here, takes-made, takes-then, takes_two, takes_first}
use Rattle.language_laws.specs.Yields.{Yields, yields-here, yields-stop, yields-if, yields-after, yields-made, yields-two, yields-times, yields-first}
use Rattle.language_laws.specs.ReadBack.{Reads, reads, leaves, takes-leaves, takes-items, decl-form}
use Rattle.language_laws.specs.WriteBack.{Kept, kept-none, kept_cons, kept-join, kept-leaf, counted_is, kind-if, Gives, gives, decl-yields, yields-items}

pub deep-list : (xs : List Typed) → deep_list xs ≡ leaves xs
deep-list [] = refl
deep-list (x ∷ xs) = refl

-- a result that stands in b of a procedure's entry
pub small_result : (b : Body) (n : ℕ) → (256 * n + result_code b) / 256 ≤ 8 → result_code b ≤ 3
small_result (proper s) n h = omega arith
small_result (function integer e) n h = omega arith
small_result (function logical e) n h = omega arith
small_result (function bits e) n h = omega arith
small_result (function (reference c) e) n h = absurd (omega arith)

-- "result 1, 2 or 3": the layout of the heading
pub result-small : (n : ℕ) (b : Body) → leb ((256 * n + result_code b) / 256) 8 ≡ true → result_code b < 256
result-small n (proper s) h = omega arith
result-small n (function integer e) h = omega arith
result-small n (function logical e) h = omega arith
result-small n (function bits e) h = omega arith
result-small n (function (reference c) e) h = absurd (let k = leb-true ((256 * n + (65536 + c)) / 256) 8 h in omega arith)

-- ── what is read ──
module _ {r : Below} {d : ℕ} (G : Reads r d) where
  takes-list : (xs : List Typed) → Fits d (map flat_typed xs) (deep_list xs) → Takes (repeated (length xs) r.typed) (map flat_typed xs) xs
  takes-list xs h = takes-leaves flat_typed G.typed xs (rw (deep-list xs) at h)

  takes-body : (b : Body) → result_code b ≤ 3 → Fits d (flat_body b) (deep_body b) → Takes (body_below r (result_code b)) (flat_body b) b
  unfolding flat_body
  takes-body (proper s) j h = takes-made proper (G.stmt s h)
  takes-body (function integer e) j h = takes-made (function integer) (G.expr e h)
  takes-body (function logical e) j h = takes-made (function logical) (G.expr e h)
  takes-body (function bits e) j h = takes-made (function bits) (G.expr e h)
  takes-body (function (reference c) e) j h = absurd (omega arith)

  takes-global : (c p : ℕ) (g : Global) → c + class_count g ≤ 16 → p + procedure_count g ≤ 63 → Fits (suc d) (flat_global g) (deep_global g)
      → Takes (first (form_global r c p)) (flat_global g) g
  unfolding form_global flat_global flat_decl flat_typed in_layout
  takes-global c p (local (declare x)) i j h = takes_first (form_global r c p) h (λ k. takes-made local (decl-form (declare x) (fits_head h)))
  takes-global c p (local (holding x)) i j h = takes_first (form_global r c p) h (λ k. takes-made local (decl-form (holding x) (fits_head h)))
  takes-global c p (class x xs) i j h =
      takes_first (form_global r c p) h (λ k. takes-eq (takes-made (class x) (takes-list xs k)) (λ es. rw (lt-ltb c 16 (omega arith))))
  takes-global c p (procedure x xs b) i j h =
      let n = 256 * length xs + result_code b in
      let l : result_code b ≤ 3 = small_result b (length xs) (leb-true (n / 256) 8 (both_left (leb (n / 256) 8) (leb (n % 256) 3) (fits_head h))) in
      let q : n / 256 ≡ length xs = omega arith in
      let s : n % 256 ≡ result_code b = omega arith in
      takes_first (form_global r c p) h (λ k. takes-eq (takes_two (procedure x) k (takes-list xs) (takes-body b l)) (λ es. rw (lt-ltb p 63 (omega arith), q, s)))

  takes-globals : (c p : ℕ) (gs : List Global) → c + total class_count gs ≤ 16 → p + total procedure_count gs ≤ 63
      → Fits (suc d) (flat_head gs) (deep_globals gs) → Takes (read_head r (length gs) c p) (flat_head gs) gs
  unfolding total read_head flat_head deep_globals
  takes-globals c p [] i j h = takes-here
  takes-globals c p (g ∷ gs) i j h =
      takes-then (λ x rest. after (read_head r (length gs) (c + class_count x) (p + procedure_count x) rest) (λ xs. took (x ∷ xs))) h
      (takes-global c p g (omega arith) (omega arith))
      (λ k. takes-made (λ xs. g ∷ xs) (takes-globals (c + class_count g) (p + procedure_count g) gs (omega arith) (omega arith) k))

-- the root's form, where so much nesting is left below its declarations
unfoldable pub form_root_at : ℕ → Entry → Reader Tree
form_root_at n e es = If eqb e.kind 1 then two tree_of (read_head (below n) e.a 0 0) (items_below (below (suc n)) e) es else stop (e ∷ es)

pub takes-root-at : (n : ℕ) (t : Tree) → Fits (suc (suc n)) (flatten t) (nesting t) → total class_count t.head ≤ 16 → total procedure_count t.head ≤ 63
    → Takes (first (form_root_at n)) (flatten t) t
unfolding form_root_at flatten nesting
takes-root-at n t h c p =
    takes_first (form_root_at n) h
    (λ k. takes_two tree_of k (takes-globals (reads n) 0 0 t.head (omega arith) (omega arith)) (takes-items (reads (suc n)) t.items))

pub takes-root : (t : Tree) → Readable t → Takes (first form_root) (flatten t) t
unfolding form_root form_root_at
takes-root t h = takes-root-at 62 t (record { layout = h.layout; depth = h.depth }) h.classes h.procedures

-- ── what is written ──
module _ {r : Below} {d : ℕ} (G : Gives r d) where
  yields-list : (n : ℕ) → Yields (repeated n r.typed) (λ us xs. Kept d us (map flat_typed xs) (deep_list xs) × (length xs ≡ n))
  yields-list n = yields-times (λ us xs. Kept d us (map flat_typed xs) (deep_list xs)) kept-none (λ us vs x xs a b. kept-leaf a b) G.typed n

  yields-body : (n : ℕ) → n ≤ 3 → Yields (body_below r n) (λ us b. Kept d us (flat_body b) (deep_body b) × (result_code b ≡ n))
  unfolding flat_body
  yields-body zero h = yields-made proper G.stmt (λ us s a. (a, refl))
  yields-body (suc zero) h = yields-made (function integer) G.expr (λ us e a. (a, refl))
  yields-body (suc (suc zero)) h = yields-made (function logical) G.expr (λ us e a. (a, refl))
  yields-body (suc (suc (suc zero))) h = yields-made (function bits) G.expr (λ us e a. (a, refl))
  yields-body (suc (suc (suc (suc n)))) h = absurd (omega arith)

  yields-global : (c p : ℕ) → c ≤ 16 → p ≤ 63
      → Yields (first (form_global r c p)) (λ us g. Kept (suc d) us (flat_global g) (deep_global g) × (c + class_count g ≤ 16) × (p + procedure_count g ≤ 63))
  unfolding form_global flat_global in_layout
  yields-global c p i j =
      yields-first (form_global r c p) λ e l.
      let n = nat_abs e.b in
      kind-if e 11 l (λ q m. yields-if (ltb c 16)
      (λ t. yields-made (class e.a) (yields-list n) (λ us xs a. (kept_cons l (counted_is e q (within-natural 1 8 e.b m) refl a.1) a.0, omega (arith, ltb-true c 16 t), omega arith)))
      (λ t. yields-stop))
      (kind-if e 12 l (λ q m.
      let o = both_right (natural e.b) (is_heading n) m in
      yields-if (ltb p 63)
      (λ t. yields-two (procedure e.a) (yields-list (n / 256)) (yields-body (n % 256) (leb-true (n % 256) 3 (both_right (leb (n / 256) 8) (leb (n % 256) 3) o)))
      (λ us vs xs b a c. (
        kept_cons l (counted_is e q (both_left (natural e.b) (is_heading n) m) refl (omega (arith, a.1, c.1)))
            (kept-join a.0 c.0),
        omega arith,
        omega (arith, ltb-true p 63 t),
      )))
      (λ t. yields-stop))
      (yields-made local (decl-yields e l) (λ us x a. (a, omega arith, omega arith))))

  yields-globals : (n c p : ℕ) → c ≤ 16 → p ≤ 63
      → Yields (read_head r n c p) (λ us gs. Kept (suc d) us (flat_head gs) (deep_globals gs) × (length gs ≡ n) × (c + total class_count gs ≤ 16) × (p + total procedure_count gs ≤ 63))
  unfolding total read_head flat_head deep_globals
  yields-globals zero c p i j = yields-here (kept-none, refl, omega arith, omega arith)
  yields-globals (suc n) c p i j =
      yields-after (λ x rest. after (read_head r n (c + class_count x) (p + procedure_count x) rest) (λ xs. took (x ∷ xs))) (yields-global c p i j)
      (λ us g a. yields-made (λ gs. g ∷ gs) (yields-globals n (c + class_count g) (p + procedure_count g) a.1 a.2)
      (λ vs gs b. (kept-join a.0 b.0, ap suc b.1, omega (arith, b.2), omega (arith, b.3))))

-- a tree, its entries, and how it keeps to the layout, the nesting and the counts
pub record Written (d : ℕ) (us : List Entry) (t : Tree) : Type 0 where
  pub same : us ≡ flatten t
  pub fits : Fits d (flatten t) (nesting t)
  pub classes : total class_count t.head ≤ 16
  pub procedures : total procedure_count t.head ≤ 63

root-written : {d : ℕ} {us : List Entry} (t : Tree) → Kept d us (flatten t) (nesting t) → total class_count t.head ≤ 16
    → total procedure_count t.head ≤ 63 → Written d us t
root-written t k c p =
    record { same = k.written; fits = record { layout = rw k.written at k.fits.layout; depth = k.fits.depth }; classes = c; procedures = p }

pub yields-root-at : (n : ℕ) → Yields (first (form_root_at n)) (Written (suc (suc n)))
unfolding form_root_at flatten nesting in_layout
yields-root-at n =
    yields-first (form_root_at n) λ e l.
    kind-if e 1 l (λ q m. yields-two tree_of (yields-globals (gives n) e.a 0 0 (omega arith) (omega arith)) (yields-items (gives (suc n)) (nat_abs e.b))
    (λ us vs gs is a b. root-written (tree_of gs is) (kept_cons l (counted_is e q m a.1 b.1) (kept-join a.0 b.0)) (omega (arith, a.2)) (omega (arith, a.3))))
    yields-stop

pub yields-root : Yields (first form_root) (λ us t. (us ≡ flatten t) × Readable t)
unfolding form_root form_root_at
yields-root =
    record {
      yields = λ es rest t e.
          let a = (yields-root-at 62).yields es rest t e in
          let w = a.holds in
          let k : Readable t = record { layout = w.fits.layout; depth = w.fits.depth; classes = w.classes; procedures = w.procedures } in
          record { used = a.used; split = a.split; holds = (w.same, k) };
    }
