-- Where the reader of the root stops, and that this is the first entry that does not read.
use Rattle.std.specs.Prelude.{◌≡◌, eqb, ltb, pos, length, take, drop, get_or}
use Rattle.std.proofs.Math.Path.{refl}
use Rattle.std.proofs.Common.{sym, ◌∙◌, ap, subst, arith, length-append, take-append-drop, take-take}
use mathlib.Core.List.{List, [], ◌∷◌, ◌++◌, append_assoc, append-nil}
use Rattle.std.proofs.Math.Option
use Prim.Native.Nat.{ℕ, zero, suc, ◌+◌, ◌-◌, ◌/◌, ◌%◌, ◌≤◌, ◌<◌}
use Rattle.std.proofs.Math.IntN.{nat_abs}
use Rattle.std.proofs.Math.Seq.{take-append_seam, take-append-add}
use Rattle.language.specs.Program.{flatten, nesting}
use Rattle.values.specs.Types.{integer}
use Rattle.language.specs.Tree.{holding, no_item, Body, proper, function, Global, local, class, procedure, Tree}
use Rattle.language.specs.Table.{Entry, entry, in_layout, ty_of_code, Read, took, stop, after, repeated, first, form_decl, items_of, Below, body_below, form_global, read_head}
use Rattle.language.specs.Table.{class_count, procedure_count, tree_of, form_root}
use Rattle.logic.specs.Tests.{clash}
use Rattle.language_laws.specs.Claims.{Readable, Begins, FirstUnread}
use Rattle.language_laws.specs.Outline.{size, depths, leaves_of, outline_body, outline_global, outline_head, outline_s, outline}
use Rattle.language_laws.specs.Roots.{form_root_at, takes-root, takes-root-at, Written, yields-root-at}
use Rattle.language_laws.specs.Sizes.{length-depths}
use Rattle.language_laws.specs.StopForms.{leaves_at, Beside, beside, decl-form, stops-items}
use Rattle.language_laws.specs.Stops.{Whole, Through, Stopped, Fate, Stops, stops-here, stops-if, stops-with, stops-made, stops-two, stops-times, Forms, goes}
use Rattle.language_laws.specs.Stops.{forms-stop, forms-if, forms-made, Rooted, stops_first}
use Rattle.language_laws.specs.Takes.{Takes}

abbrev body_at : ℕ → Body → List ℕ
body_at d b = depths d (outline_body b)

abbrev global_at : ℕ → Global → List ℕ
global_at d g = depths d (outline_global g)

abbrev head_at : ℕ → List Global → List ℕ
head_at d gs = depths d (outline_head gs)

abbrev tree_at : Tree → List ℕ
tree_at t = depths 1 (outline t)

root-global : (d : ℕ) → Rooted d (global_at d)
unfolding depths
root-global d (local x) = refl
root-global d (class c xs) = refl
root-global d (procedure a xs b) = refl

-- ── the root's head ──
module _ {r q : Below} {d : ℕ} (G : Beside r q (suc d)) (s : d ≤ 64) where
  stops-list : (n : ℕ) → Stops (repeated n r.typed) (repeated n q.typed) (leaves_at (suc d))
  unfolding depths leaves_of
  stops-list n = stops-times (leaves_at (suc d)) refl (λ x xs. refl) G.typed n

  stops-body : (t : ℕ) → Stops (body_below r t) (body_below q t) (body_at (suc d))
  stops-body t =
      stops-if (eqb t 0) (stops-made proper G.stmt (λ x. refl))
      (stops-made (function (Option.get_or (ty_of_code t) integer)) G.expr (λ x. refl))

  global-form : (c p : ℕ) (e : Entry) → Forms e (form_global r c p e) (form_global q c p e) (global_at d)
  unfolding depths form_global
  global-form c p e =
      let n = nat_abs e.b in
      forms-if (eqb e.kind 11) (forms-if (ltb c 16) (goes (stops-made (class e.a) (stops-list n) (λ xs. refl))) forms-stop)
      (forms-if (eqb e.kind 12) (forms-if (ltb p 63) (goes (stops-two (procedure e.a) (stops-list (n / 256)) (stops-body (n % 256)) (λ xs b. refl))) forms-stop)
      (forms-made local (decl-form e) (λ x. refl)))

  blank-global : (c p : ℕ) → Whole (first (form_global q c p)) (global_at d) (entry 14 0 (pos 0) ∷ []) (local (holding 0))
  unfolding depths first in_layout form_global form_decl after
  blank-global c p = record { takes = record { takes = λ rest. refl }; count = refl }

  stops-globals : (n c p : ℕ) → Stops (read_head r n c p) (read_head q n c p) (head_at d)
  unfolding depths outline_head read_head
  stops-globals zero c p = stops-here [] refl
  stops-globals (suc n) c p =
      stops-with (λ g gs. g ∷ gs) (stops_first (form_global r c p) (form_global q c p) (root-global d) s (blank-global c p) (global-form c p))
      (λ g. stops-globals n (c + class_count g) (p + procedure_count g)) (λ g gs. refl)

-- ── the root ──
blank-root : (m : ℕ) → Whole (first (form_root_at m)) tree_at (entry 1 0 (pos 0) ∷ []) (tree_of [] no_item)
unfolding form_root_at first in_layout read_head after repeated items_of depths outline outline_head outline_s
blank-root m = record { takes = record { takes = λ rest. refl }; count = refl }

stops-root : (m : ℕ) → 62 < m → Stops (first form_root) (first (form_root_at m)) tree_at
unfolding form_root form_root_at depths outline
stops-root m h =
    stops_first form_root (form_root_at m) (λ t. refl) (omega arith) (blank-root m)
    (λ e. forms-if (eqb e.kind 1)
    (goes (stops-two tree_of (stops-globals (beside 62 m 3 (omega arith) h) (omega arith) e.a 0 0) (stops-items (beside 63 (suc m) 2 (omega arith) (omega arith)) (nat_abs e.b)) (λ gs is. refl)))
    forms-stop)

-- ── the first entry that does not read ──
-- what became of reading es, beside a reader that goes to depth 65 or deeper
fate : (m : ℕ) → 62 < m → (es : List Entry) (y : Read Tree) → first form_root es ≡ y → Fate (first (form_root_at m)) tree_at es y
fate m h es y e = subst (λ (z : Read Tree). Fate (first (form_root_at m)) tree_at es z) e ((stops-root m h).reads es)

-- entries that are taken as a tree are written as it
written : (m : ℕ) {us : List Entry} {t : Tree} → Takes (first (form_root_at m)) us t → Written (suc (suc m)) us t
written m {us} {t} h =
    let a = (yields-root-at m).yields (us ++ []) [] t (h.takes []) in
    let e : a.used ≡ us = sym (append-nil a.used) ∙ sym a.split ∙ append-nil us in
    rw e at a.holds

module _ {es : List Entry} (us ws : List Entry) (split : es ≡ us ++ ws) where
  length-used : length es - length ws ≡ length us
  length-used = omega (arith, ap length split, length-append us ws)

  -- some entries complete those that were read to a tree
  begins : (m : ℕ) (vs : List Entry) {t : Tree} → Whole (first (form_root_at m)) tree_at (us ++ vs) t
      → ((i : ℕ) → i < length us → get_or (tree_at t) i 0 ≤ 64) → Begins es (length us)
  begins m vs {t} h d =
      let w = written m h.takes in
      let e : take (length us) es ≡ us = ap (take (length us)) split ∙ take-append_seam us ws in
      record { tree = t; rest = vs; same = rw e (sym w.same); layout = w.fits.layout; depth = d; classes = w.classes; procedures = w.procedures }

-- a tree that goes on with the entry there is taken by a reader that reads deep enough
taken : {es : List Entry} {n : ℕ} (us ws : List Entry) (y : Entry) → es ≡ us ++ (y ∷ ws) → n ≡ suc (length us) → (b : Begins es n)
    → first (form_root_at (63 + nesting b.tree)) (us ++ (y ∷ b.rest)) ≡ took b.tree []
taken {es} {n} us ws y split i b =
    let t = b.tree in
    let h = (takes-root-at (63 + nesting t) t (record { layout = b.layout; depth = omega arith }) b.classes b.procedures).takes [] in
    let k : n ≡ length us + 1 = omega arith in
    let e : take n es ≡ us ++ (y ∷ []) = rw (k, split) (take-append-add us (y ∷ ws) 1) in
    let s : flatten t ≡ us ++ (y ∷ b.rest) = rw (← append_assoc us (y ∷ []) b.rest, ← e) b.same in
    rw (append-nil (flatten t), s) at h

-- where the reader stops
no-further : (es xs : List Entry) → first form_root es ≡ stop xs → length es - length xs < length es → Begins es (suc (length es - length xs)) → ⊥
no-further es [] e h b = omega arith
no-further es (y ∷ ys) e h b =
    let s : Stopped (first (form_root_at (63 + nesting b.tree))) tree_at es (y ∷ ys) = fate (63 + nesting b.tree) (omega arith) es (stop (y ∷ ys)) e in
    let n = length-used s.used (y ∷ ys) s.split in
    let d = s.deep y ys b.rest [] b.tree refl (taken s.used ys y s.split (ap suc n) b) in
    let l = b.depth (length s.used) (omega (arith, n)) in
    omega arith

pub first-stop : (es xs : List Entry) → first form_root es ≡ stop xs → FirstUnread es (length es - length xs)
first-stop es xs e =
    let s : Stopped (first (form_root_at 63)) tree_at es xs = fate 63 (omega arith) es (stop xs) e in
    record {
      within = omega arith;
      before = rw (length-used s.used xs s.split) (begins s.used xs s.split 63 s.rest s.whole s.shallow);
      here = no-further es xs e;
    }

-- an entry after the tree
pub first-after : (es : List Entry) (t : Tree) (x : Entry) (xs : List Entry) → first form_root es ≡ took t (x ∷ xs) → FirstUnread es (length es - length (x ∷ xs))
first-after es t x xs e =
    let s : Through (first (form_root_at 63)) tree_at es (x ∷ xs) t = fate 63 (omega arith) es (took t (x ∷ xs)) e in
    let w : Whole (first (form_root_at 63)) tree_at (s.used ++ []) t = rw (append-nil s.used) s.whole in
    record {
      within = omega arith;
      before = rw (length-used s.used (x ∷ xs) s.split) (begins s.used (x ∷ xs) s.split 63 [] w s.shallow);
      here = λ h b.
          let u : Through (first (form_root_at (63 + nesting b.tree))) tree_at es (x ∷ xs) t = fate (63 + nesting b.tree) (omega arith) es (took t (x ∷ xs)) e in
          clash (cc (taken u.used xs x u.split (ap suc (length-used u.used (x ∷ xs) u.split)) b, u.whole.takes.takes (x ∷ b.rest)));
    }

-- ── there is only one ──
begins-fewer : {es : List Entry} {n m : ℕ} → Begins es n → m ≤ n → Begins es m
begins-fewer {es} {n} {m} b h =
    let us = drop m (take n es) in
    let e : take n es ≡ take m es ++ us = rw (take-take m n es) at (sym (take-append-drop m (take n es))) in
    record {
      tree = b.tree;
      rest = us ++ b.rest;
      same = rw (← append_assoc (take m es) us b.rest, ← e) b.same;
      layout = b.layout;
      depth = λ i k. b.depth i (omega arith);
      classes = b.classes;
      procedures = b.procedures;
    }

pub one-unread : {es : List Entry} {p q : ℕ} → FirstUnread es p → FirstUnread es q → p ≡ q
one-unread {es} {p} {q} f g =
    let l : p < q → ⊥ = λ h. f.here (omega arith) (begins-fewer g.before h) in
    let r : q < p → ⊥ = λ h. g.here (omega arith) (begins-fewer f.before h) in
    omega arith

-- a tree that was read has as many entries as its outline
pub size-flatten : (t : Tree) → Readable t → size (outline t) ≡ length (flatten t)
size-flatten t h =
    let s : Through (first (form_root_at 63)) tree_at (flatten t) [] t = fate 63 (omega arith) (flatten t) (took t []) (rw (append-nil (flatten t)) at ((takes-root t h).takes [])) in
    omega (arith, s.whole.count, length-depths (outline t) 1, ap length s.split, length-append s.used [])
