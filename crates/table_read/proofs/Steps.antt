-- What the walk answers, case by case, as the code comes to it. Assumes nothing.
use mathlib.Core.Path.{◌≡◌, refl, ap, sym, ◌∙◌}
use mathlib.Core.Bool.{Bool, true, false, ◌&&◌}
use mathlib.Core.List.{List, [], ◌∷◌}
use Prim.Native.Nat.{ℕ, zero, suc, ◌+◌, ◌-◌, ◌*◌, ◌≤◌, ◌<◌}
use native.Mathlib.Omega.{arith}
use native.Mathlib.Nat.{add_assoc, add-zero, zero-add}
use native.Mathlib.Numerals.{add-one}
use lib.Dec.{ltb}
use lib.ListN.{length, get_or, take, drop, length-drop}
use lib.Seq.{drop-cons, drop-length, drop-drop}
use borrow.Author.Tests.{lt-ltb, ltb-true}
use Rattle.language.specs.Table.{Entry}
use Rattle.logic.specs.Tests.{clash, both_left, both_right}
use Rattle.language_laws.specs.Claims.{entries_of}
use Rattle.table_read.specs.declared.kinds.Sort.{Sort}
use Rattle.table_read.specs.declared.kinds.Sort.TheVariants.{Expr}
use Rattle.std.specs.Prelude.{Result, Ok, Err}
use Rattle.table_read.specs.Operands.{is_leaf, sorts}
use Rattle.table_read.specs.Walk.{counted, moved, placed, onward, chain, kind_at, name_at, size_at, laid_at, sorts_at, under, entered, admits, admitted_at, walk}
use Rattle.table_read.proofs.Parts.{laid-here}
use Rattle.table_read.proofs.Sorts.{leaf-sorts}
use Rattle.table_read.proofs.Ends.{ends-count}
use Rattle.table_read.proofs.Forms.{walks}
use Rattle.table_entries.specs.Entries.{entries_none, entries-length, entries-rest, rest as back}
use Rattle.table_entries.specs.Sizes.{Sized, sized-none, sized-then}
use Rattle.table_read.specs.Filling.{Fills}

-- no answer counts more entries than there are bytes for
walk-fits : (d : ℕ) (s : Sort) (l : List ℕ) {n : ℕ} → walk d s (entries_of l) ≡ Ok n → 8 * n ≤ length l
walk-fits d s l e = omega (arith, ap counted e, ends-count ((walks d s).ends (entries_of l)), entries-length l)

-- ── answers ──
pub moved-zero : (r : Result ℕ ℕ) → r ≡ moved 0 r
moved-zero (Ok m) = simp zero-add
moved-zero (Err p) = simp zero-add

pub moved-moved : (k n : ℕ) (r : Result ℕ ℕ) → moved k (moved n r) ≡ moved (k + n) r
moved-moved k n (Ok m) = ap Ok (sym (add_assoc k n m))
moved-moved k n (Err p) = ap Err (sym (add_assoc k n p))

-- a fault is told by its place
pub placed-ok : (at : ℕ) (r : Result ℕ ℕ) {x : Result ℕ ℕ} {n : ℕ} → x ≡ placed at r → x ≡ Ok n → r ≡ Ok n
placed-ok at (Ok m) e c = cc
placed-ok at (Err p) e c = clash (cc)

placed-err : {A : Type 0} (at : ℕ) (r : Result ℕ ℕ) {x : Result ℕ ℕ} {q : ℕ} → x ≡ placed at r → x ≡ Err q → ((p : ℕ) → r ≡ Err p → q ≡ at + p → A) → A
placed-err at (Ok m) e c f = clash (cc)
placed-err at (Err p) e c f = f p refl (cc)

-- one that is read k entries further on, where what follows it is not read
pub stop-moved : (at k : ℕ) (r : Result ℕ ℕ) {x y : Result ℕ ℕ} {q : ℕ} → ((p : ℕ) → r ≡ Err p → y ≡ moved k (Err p)) → x ≡ placed (at + k) r → x ≡ Err q
    → Err q ≡ placed at y
stop-moved at k r f e c = placed-err (at + k) r e c (λ p u v. ap Err (v ∙ add_assoc at k p) ∙ sym (ap (placed at) (f p u)))

pub stop-first : (r : Result ℕ ℕ) {x : Result ℕ ℕ} {q : ℕ} → x ≡ placed 1 r → x ≡ Err q → Err q ≡ moved 1 r
stop-first (Ok m) e c = clash (cc)
stop-first (Err p) e c = cc

pub counted-moved : (k : ℕ) (r : Result ℕ ℕ) → counted (moved k r) ≡ k + counted r
counted-moved k (Ok n) = refl
counted-moved k (Err p) = refl

-- ── operands ──
pub chain-count : (d : ℕ) (ss : List Sort) (es : List Entry) → counted (chain (walk d) ss es) ≤ length es
unfolding chain
chain-count d [] es = omega arith
chain-count d (s ∷ ss) es = go (walk d s es) (ends-count ((walks d s).ends es)) (λ n. chain-count d ss (drop n es))
  where
    go : (r : Result ℕ ℕ) → counted r ≤ length es → ((n : ℕ) → counted (chain (walk d) ss (drop n es)) ≤ length (drop n es))
        → counted (onward r (λ n. chain (walk d) ss (drop n es))) ≤ length es
    go (Ok n) h k = omega (arith, counted-moved n (chain (walk d) ss (drop n es)), k n, length-drop n es)
    go (Err p) h k = h

pub chain_fits : (d : ℕ) (ss : List Sort) (l : List ℕ) {n : ℕ} → chain (walk d) ss (entries_of l) ≡ Ok n → 8 * n ≤ length l
chain_fits d ss l e = omega (arith, ap counted e, chain-count d ss (entries_of l), entries-length l)

module _ (w : Sort → List Entry → Result ℕ ℕ) (ss : List Sort) (i : ℕ) (es : List Entry) where
  chain-step : {k : ℕ} → i < length ss → w (get_or ss i Expr) es ≡ Ok k → chain w (drop i ss) es ≡ moved k (chain w (drop (i + 1) ss) (drop k es))
  unfolding chain
  chain-step h e = rw (add-one, drop-cons ss i Expr h, e)

  chain-stop : {p : ℕ} → i < length ss → w (get_or ss i Expr) es ≡ Err p → chain w (drop i ss) es ≡ Err p
  unfolding chain
  chain-stop h e = rw (drop-cons ss i Expr h, e)

  chain-end : i ≡ length ss → chain w (drop i ss) es ≡ Ok 0
  unfolding chain
  chain-end h = rw (h, drop-length ss)

-- ── an entry ──
sorts-at : (es : List Entry) → sorts_at es ≡ sorts (kind_at es) (name_at es) (size_at es)
unfolding sorts
sorts-at [] = refl
sorts-at (e ∷ es) = refl

pub under_whole : (w : Sort → List Entry → Result ℕ ℕ) (es : List Entry) → under w es ≡ moved 1 (chain w (sorts (kind_at es) (name_at es) (size_at es)) (drop 1 es))
under_whole w es = rw (sorts-at es)

module _ (w : Sort → List Entry → Result ℕ ℕ) (p : ℕ → Bool) (es : List Entry) where
  pub entered-unlaid : laid_at es ≡ false → entered w p es ≡ Err 0
  unfolding entered
  entered-unlaid e = rw e

  pub entered-other : laid_at es ≡ true → p (kind_at es) ≡ false → entered w p es ≡ Err 0
  unfolding entered
  entered-other l e = rw (l, e)

  pub entered-whole : laid_at es ≡ true → p (kind_at es) ≡ true → entered w p es ≡ under w es
  unfolding entered
  entered-whole l e = rw (l, e)

-- with no operands
pub leaf-below : (w : Sort → List Entry → Result ℕ ℕ) (es : List Entry) → is_leaf (kind_at es) ≡ true → Ok 0 ≡ chain w (sorts (kind_at es) (name_at es) (size_at es)) (drop 1 es)
unfolding chain
leaf-below w es t = rw (leaf-sorts (kind_at es) (name_at es) (size_at es) t)

-- no more entries stand below an entry than there are bytes for
pub below-fits : (d : ℕ) (l : List ℕ) → 8 ≤ length l → {n : ℕ} → chain (walk d) (sorts (kind_at (entries_of l)) (name_at (entries_of l)) (size_at (entries_of l))) (drop 1 (entries_of l)) ≡ Ok n
    → 8 * n + 8 ≤ length l
below-fits d l h e =
    let es = entries_of l in
    omega (arith, ap counted e, chain-count d (sorts (kind_at es) (name_at es) (size_at es)) (drop 1 es), length-drop 1 es, entries-length l)

-- ── an operand ──
pub admitted-none : (d : ℕ) (s : Sort) (l : List ℕ) → length l < 8 → false ≡ admitted_at d s (entries_of l)
admitted-none d s l h = rw (entries_none l h) (never (ltb 0 d))
  where
    never : (b : Bool) → false ≡ (b && false)
    never true = refl
    never false = refl

pub admitted-laid : (d : ℕ) (s : Sort) (es : List Entry) → (d ≡ 0 → ⊥) → admits s (kind_at es) ≡ true → laid_at es ≡ admitted_at d s es
admitted-laid d s es h e = rw (lt-ltb 0 d (omega arith), e) (plain (laid_at es))
  where
    plain : (b : Bool) → b ≡ (b && true)
    plain true = refl
    plain false = refl

admitted-here : (d : ℕ) (s : Sort) (l : List ℕ) → admitted_at d s (entries_of l) ≡ true → (0 < d) × (8 ≤ length l)
admitted-here d s l t =
    let laid = laid_at (entries_of l) in
    let kind = admits s (kind_at (entries_of l)) in
    (ltb-true 0 d (both_left (ltb 0 d) (laid && kind) t), laid-here l (both_left laid kind (both_right (ltb 0 d) (laid && kind) t)))

deep : (m : ℕ) (s : Sort) (es : List Entry) → admitted_at (suc m) s es ≡ (laid_at es && admits s (kind_at es))
deep m s es = rw (lt-ltb 0 (suc m) (omega arith))

walk_refused : (d : ℕ) (s : Sort) (es : List Entry) → admitted_at d s es ≡ false → walk d s es ≡ Err 0
unfolding walk entered
walk_refused zero s es e = refl
walk_refused (suc m) s es e = rw (sym (deep m s es) ∙ e)

walk-admitted : (d : ℕ) (s : Sort) (es : List Entry) → admitted_at d s es ≡ true → walk d s es ≡ under (walk (d - 1)) es
unfolding walk entered
walk-admitted zero s es e = clash (let z : false ≡ true = e in cc)
walk-admitted (suc m) s es e = let h : suc m - 1 ≡ m = omega arith in rw (h, sym (deep m s es) ∙ e)

-- ── operands, as the loop passes them ──
pub record Passed (d : ℕ) (ss : List Sort) (part : List ℕ) (place : ℕ) (old new rest : List ℕ) (passed i : ℕ) : Type 0 where
  pub same : chain (walk d) ss (entries_of part) ≡ moved passed (chain (walk d) (drop i ss) (entries_of rest))
  pub behind : entries_of rest ≡ drop passed (entries_of part)
  pub long : 8 * passed + length rest ≡ length part
  pub few : i ≤ length ss
  pub sized : Sized (entries_of part) place passed old new

pub passed_none : (d : ℕ) (ss : List Sort) (part : List ℕ) (place : ℕ) (old : List ℕ) → Passed d ss part place old old part 0 0
passed_none d ss part place old =
    record { same = moved-zero _; behind = refl; long = omega arith; few = omega arith; sized = sized-none (entries_of part) place old }

module _ {d : ℕ} {ss : List Sort} {part : List ℕ} {place : ℕ} {old new rest : List ℕ} {passed i : ℕ} (h : Passed d ss part place old new rest passed i) where
  pub passed-end : i ≡ length ss → Ok passed ≡ placed place (chain (walk d) ss (entries_of part))
  passed-end e = ap (placed place) (sym (h.same ∙ ap (moved passed) (chain-end (walk d) ss i (entries_of rest) e) ∙ ap Ok (add-zero passed)))

  module _ (less : i < length ss) {s : Sort} (q : s ≡ get_or ss i Expr) {b : Bool} (e : b ≡ admitted_at d s (entries_of rest)) where
    at-sort : walk d (get_or ss i Expr) (entries_of rest) ≡ walk d s (entries_of rest)
    at-sort = ap (λ (t : Sort). walk d t (entries_of rest)) (sym q)

    pub passed-refused : b ≡ false → Err (place + passed) ≡ placed place (chain (walk d) ss (entries_of part))
    passed-refused n =
        let z = chain-stop (walk d) ss i (entries_of rest) less (at-sort ∙ walk_refused d s (entries_of rest) (sym e ∙ n)) in
        ap (placed place) (sym (h.same ∙ ap (moved passed) z ∙ ap Err (add-zero passed)))

    module _ (t : b ≡ true) where
      pub passed_deep : (0 < d) × (8 ≤ length rest)
      passed_deep = admitted-here d s rest (sym e ∙ t)

      module _ {x : Result ℕ ℕ} (r : x ≡ placed (place + passed) (under (walk (d - 1)) (entries_of rest))) where
        here : walk d s (entries_of rest) ≡ under (walk (d - 1)) (entries_of rest)
        here = walk-admitted d s (entries_of rest) (sym e ∙ t)

        pub passed-fits : {k : ℕ} → x ≡ Ok k → 8 * k ≤ length rest
        passed-fits c = walk-fits d s rest (here ∙ placed-ok (place + passed) _ r c)

        pub passed-stop : {p : ℕ} → x ≡ Err p → Err p ≡ placed place (chain (walk d) ss (entries_of part))
        passed-stop c =
            stop-moved place passed (under (walk (d - 1)) (entries_of rest))
            (λ m u. h.same ∙ ap (moved passed) (chain-stop (walk d) ss i (entries_of rest) less (at-sort ∙ here ∙ u))) r c

        pub passed-next : {k : ℕ} {more : List ℕ} → x ≡ Ok k → Fills (entries_of rest) (place + passed) new more x
            → Passed d ss part place old more (take (length rest - 8 * k) (drop (8 * k) rest)) (passed + k) (i + 1)
        passed-next {k} c f =
            let long = passed-fits c in
            let g : Sized (entries_of rest) (place + passed) k new _ = rw c at f in
            record {
              same = h.same ∙ ap (moved passed) (chain-step (walk d) ss i (entries_of rest) less (at-sort ∙ here ∙ placed-ok (place + passed) _ r c))
                  ∙ rw (entries-rest k rest) (moved-moved passed k (chain (walk d) (drop (i + 1) ss) (drop k (entries_of rest))));
              behind = entries-rest k rest ∙ ap (drop k) h.behind ∙ drop-drop k passed (entries_of part);
              long = rw (back (8 * k) rest) (omega (arith, h.long, length-drop (8 * k) rest));
              few = omega arith;
              sized = sized-then h.sized (rw h.behind at g);
            }
