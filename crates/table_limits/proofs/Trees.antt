-- Where entries are those of a tree, they take what the definitions of Limits say. Assumes nothing.
use Rattle.std.specs.Prelude.{Option, Some}
use mathlib.Core.Path.{◌≡◌, refl, ap, ◌∙◌}
use mathlib.Core.Bool.{Bool, true, false, ◌&&◌}
use mathlib.Core.List.{List, [], ◌∷◌, ◌++◌, map, append_assoc}
use Prim.Native.Nat.{ℕ, suc, ◌+◌, ◌-◌, ◌≤◌, max}
use native.Mathlib.Nat.{zero-add, suc-add}
use native.Mathlib.Omega.{arith}
use lib.Dec.{eqb}
use lib.IntN.{pos}
use lib.ListN.{length, length-append, length-replicate, length-map}
use lib.Seq.{drop_at}
use borrow.Author.Tests.{lt-ltb, le-ltb}
use Rattle.language.specs.Measure.{measure_s}
use Rattle.language.specs.Program.{flat_typed, flat_decl, flag, flat_s, flat_items, flat_arms, flat_target, flat_e, flat_es, deep_head, deep_s, deep_items, deep_arms, deep_target, deep_e, deep_es}
use Rattle.logic.specs.Choice.{If◌then◌else◌}
use Rattle.values.specs.Operators.{unary_code, binary_code}
use Rattle.language.specs.Tree.{Decl, declare, holding, Stmt, block, assign, when, choose, while, goto, assert, call, set_level, select, for, Items, no_item, label, item, Arms}
use Rattle.language.specs.Tree.{last_arm, arm, Target, to_variable, to_field, Expr, number, truth, pattern, null, variable, invoke, field, make, operate1, operate2}
use Rattle.language.specs.Tree.{conditional, fader, block_expr, Exprs, no_expr, expr, count_items, count_arms, count_exprs}
use Rattle.language.specs.Table.{Entry, entry}
use Rattle.language.specs.Faults.{size_s, size_items, size_arms, size_target, size_e, size_es}
use Rattle.language.specs.Limits.{decl_cells, head_cells, cells_s, cells_items, cells_arms, cells_target, cells_e, cells_es, decl_holds, head_holds, holds_s, holds_items, holds_arms}
use Rattle.language.specs.Limits.{holds_target, holds_e, holds_es, need_s, need_items, need_arms, need_target, need_e, need_es}
use Rattle.table_read.specs.Operands.{sorts}
use Rattle.table_read.specs.Walk.{sorts_of}
use Rattle.table_limits.specs.declared.sums.Used.{Used}
use Rattle.table_limits.specs.Sums.{used, alone_of, stacks, weight_of, head_of, kept_of, joined}
use Rattle.table_limits.specs.Usage.{through, usage_at}
use Rattle.table_limits.proofs.Steps.{alone-level}

-- ── what a part takes ──
abbrev pub used_s : Stmt → Used
used_s x = used (size_s x) (need_s x) (cells_s x) (holds_s x)

abbrev pub used_t : Target → Used
used_t x = used (size_target x) (need_target x) (cells_target x) (holds_target x)

abbrev pub used_e : Expr → Used
used_e x = used (size_e x) (need_e x) (cells_e x) (holds_e x)

abbrev pub used_d : Decl → Used
used_d x = used 1 1 (decl_cells x) (decl_holds x)

-- every part needs at least 1
mutual
  unfolding measure_s

  pub needs-S : (x : Stmt) → 1 ≤ need_s x
  needs-S (block ds is) = needs-items is
  needs-S (assign x e) = omega arith
  needs-S (when e s) = omega (arith, needs-E e)
  needs-S (choose e s t) = omega (arith, needs-E e)
  needs-S (while e s) = omega (arith, needs-E e)
  needs-S (goto a) = omega arith
  needs-S (assert e) = needs-E e
  needs-S (call a es) = needs-Es 0 es
  needs-S (set_level e f) = omega arith
  needs-S (select e r) = omega arith
  needs-S (for a e f g s) = omega (arith, needs-E e)

  pub needs-items : (is : Items) → 1 ≤ need_items is
  needs-items no_item = omega arith
  needs-items (label a is) = needs-items is
  needs-items (item s is) = omega (arith, needs-S s)

  needs-T : (x : Target) → 1 ≤ need_target x
  needs-T (to_variable a) = omega arith
  needs-T (to_field a e) = needs-E e

  pub needs-E : (x : Expr) → 1 ≤ need_e x
  needs-E (number z) = omega arith
  needs-E (truth b) = omega arith
  needs-E (pattern z) = omega arith
  needs-E (null c) = omega arith
  needs-E (variable a) = omega arith
  needs-E (invoke a es) = needs-Es 0 es
  needs-E (field a e) = needs-E e
  needs-E (make c es) = needs-Es 0 es
  needs-E (operate1 o e) = needs-E e
  needs-E (operate2 o e f) = omega arith
  needs-E (conditional e f g) = omega arith
  needs-E (fader e) = needs-E e
  needs-E (block_expr ds is e) = omega (arith, needs-E e)

  needs-Es : (i : ℕ) (es : Exprs) → 1 ≤ need_es i es
  needs-Es i no_expr = omega arith
  needs-Es i (expr e es) = omega (arith, needs-E e)

-- ── sums ──
pub used-same : {n n' d d' c c' h h' : ℕ} → n ≡ n' → d ≡ d' → c ≡ c' → h ≡ h' → used n d c h ≡ used n' d' c' h'
used-same p q r s = λ i. used (p i) (q i) (r i) (s i)

module _ (f : List Entry → Option Used) (k head : ℕ) where
  pub through_same : {n n' i i' o o' : ℕ} {u u' : Used} (es : List Entry) → n ≡ n' → i ≡ i' → o ≡ o' → u ≡ u'
      → through f k head n i o u es ≡ through f k head n' i' o' u' es
  through_same es p q r s = λ j. through f k head (p j) (q j) (r j) (s j) es

  pub through-end : (i o : ℕ) (u : Used) (es : List Entry) → through f k head 0 i o u es ≡ Some u
  unfolding through
  through-end i o u es = refl

-- a kind all of whose operands wait for the last
abbrev Stacked : ℕ → Type 0
Stacked k = (i : ℕ) → weight_of k i ≡ i

-- ── entries that are found to take v ──
pub record Uses (f : List Entry → Option Used) (us : List Entry) (v : Used) : Type 0 where
  pub value : (rest : List Entry) → f (us ++ rest) ≡ Some v
  pub size : length us ≡ v.entries

module _ {f : List Entry → Option Used} {us : List Entry} {v : Used} (k head n i o : ℕ) (u : Used) (rest : List Entry) (h : Uses f us v) where
  pub step : through f k head (suc n) i o u (us ++ rest)
      ≡ through f k head n (suc i) (o + kept_of head i v.holds) (joined (weight_of k i) o u v) rest
  unfolding through
  step = rw (h.value rest, drop_at us rest v.entries h.size)

  -- past a head its holds stay as they are
  module _ (past : head ≤ i) where
    plain-holds : o + kept_of head i v.holds ≡ o
    plain-holds = rw (le-ltb i head past) (omega arith)

    pub step-plain : stacks k ≡ false → through f k head (suc n) i o u (us ++ rest) ≡ through f k head n (suc i) o (joined 0 o u v) rest
    step-plain s = step ∙ rw (s, plain-holds)

    pub step-stacked : (w : ℕ) → weight_of k i ≡ w → through f k head (suc n) i o u (us ++ rest) ≡ through f k head n (suc i) o (joined w o u v) rest
    step-stacked w s = step ∙ rw (s, plain-holds)

-- an entry, of which the operands are us
module _ (d : ℕ) (e : Entry) (deep : 1 ≤ d) where
  entry-open : (es : List Entry)
      → usage_at d (e ∷ es) ≡ through (usage_at (d - 1)) e.kind (head_of e.kind e.a) (length (sorts_of e)) 0 0 (alone_of e.kind) es
  unfolding usage_at
  entry-open es = let h : d ≡ suc (d - 1) = omega arith in ap (λ (m : ℕ). usage_at m (e ∷ es)) h

  pub uses-entry : {us : List Entry} {x : Used} → length (e ∷ us) ≡ x.entries
      → ((rest : List Entry) → through (usage_at (d - 1)) e.kind (head_of e.kind e.a) (length (sorts_of e)) 0 0 (alone_of e.kind) (us ++ rest) ≡ Some x)
      → Uses (usage_at d) (e ∷ us) x
  uses-entry {us} s g = record { value = λ rest. entry-open (us ++ rest) ∙ g rest; size = s }

  module _ (flat : head_of e.kind e.a ≡ 0) where
    pub uses-none : {x : Used} → length (sorts_of e) ≡ 0 → alone_of e.kind ≡ x → Uses (usage_at d) (e ∷ []) x
    uses-none {x} n p =
        uses-entry (omega (arith, ap (λ (u : Used). u.entries) p, (alone-level e.kind).1))
        (λ rest. rw (n, p) (through-end (usage_at (d - 1)) e.kind (head_of e.kind e.a) 0 0 x rest))

    module _ (bare : alone_of e.kind ≡ used 1 1 0 0) {us : List Entry} {v : Used} (a : Uses (usage_at (d - 1)) us v) (some : 1 ≤ v.need) where
      pub uses-one : length (sorts_of e) ≡ 1 → Uses (usage_at d) (e ∷ us) (used (suc v.entries) v.need v.cells v.holds)
      uses-one n =
          uses-entry (omega (arith, a.size))
          (λ rest. rw (n, flat, bare) (step e.kind 0 0 0 0 (used 1 1 0 0) rest a
          ∙ through-end (usage_at (d - 1)) e.kind 0 _ _ _ rest ∙ ap Some (used-same (omega arith) (first-need (stacks e.kind) (eqb e.kind 31 && eqb 0 3)) (omega arith) (omega arith))))
        where
          first-need : (b c : Bool) → max 1 ((If b then If c then 0 else 0 else 0) + v.need) ≡ v.need
          first-need true true = omega arith
          first-need true false = omega arith
          first-need false c = omega arith

      module _ {vs : List Entry} {w : Used} (b : Uses (usage_at (d - 1)) vs w) where
        -- two operands, of which only the last leaves something
        pub uses-pair : stacks e.kind ≡ false → length (sorts_of e) ≡ 2
            → Uses (usage_at d) (e ∷ (us ++ vs)) (used (suc (v.entries + w.entries)) (max v.need w.need) (v.cells + w.cells) (max v.holds w.holds))
        uses-pair t n =
            uses-entry (omega (arith, a.size, b.size, length-append us vs))
            (λ rest. rw (n, flat, bare, append_assoc us vs rest)
            (step-plain e.kind 0 1 0 0 (used 1 1 0 0) (vs ++ rest) a (omega arith) t
            ∙ step-plain e.kind 0 0 1 0 (joined 0 0 (used 1 1 0 0) v) rest b (omega arith) t
            ∙ through-end (usage_at (d - 1)) e.kind 0 _ _ _ rest ∙ ap Some (used-same (omega arith) (omega arith) (omega arith) (omega arith))))

        -- two operands, of which the first waits for the second
        pub uses-stack2 : Stacked e.kind → length (sorts_of e) ≡ 2
            → Uses (usage_at d) (e ∷ (us ++ vs)) (used (suc (v.entries + w.entries)) (max v.need (1 + w.need)) (v.cells + w.cells) (max v.holds w.holds))
        uses-stack2 t n =
            uses-entry (omega (arith, a.size, b.size, length-append us vs))
            (λ rest. rw (n, flat, bare, append_assoc us vs rest)
            (step-stacked e.kind 0 1 0 0 (used 1 1 0 0) (vs ++ rest) a (omega arith) 0 (t 0)
            ∙ step-stacked e.kind 0 0 1 0 (joined 0 0 (used 1 1 0 0) v) rest b (omega arith) 1 (t 1)
            ∙ through-end (usage_at (d - 1)) e.kind 0 _ _ _ rest ∙ ap Some (used-same (omega arith) (omega arith) (omega arith) (omega arith))))

        module _ {ws : List Entry} {z : Used} (c : Uses (usage_at (d - 1)) ws z) where
          abbrev three : ℕ → Used
          three n = used (suc (v.entries + (w.entries + z.entries))) n (v.cells + (w.cells + z.cells)) (max v.holds (max w.holds z.holds))

          long : length (e ∷ (us ++ (vs ++ ws))) ≡ suc (v.entries + (w.entries + z.entries))
          long = omega (arith, a.size, b.size, c.size, length-append us (vs ++ ws), length-append vs ws)

          pub uses-triple : stacks e.kind ≡ false → length (sorts_of e) ≡ 3
              → Uses (usage_at d) (e ∷ (us ++ (vs ++ ws))) (three (max v.need (max w.need z.need)))
          uses-triple t n =
              uses-entry long
              (λ rest. rw (n, flat, bare, append_assoc us (vs ++ ws) rest, append_assoc vs ws rest)
              (step-plain e.kind 0 2 0 0 (used 1 1 0 0) (vs ++ (ws ++ rest)) a (omega arith) t
              ∙ step-plain e.kind 0 1 1 0 (joined 0 0 (used 1 1 0 0) v) (ws ++ rest) b (omega arith) t
              ∙ step-plain e.kind 0 0 2 0 (joined 0 0 (joined 0 0 (used 1 1 0 0) v) w) rest c (omega arith) t
              ∙ through-end (usage_at (d - 1)) e.kind 0 _ _ _ rest ∙ ap Some (used-same (omega arith) (omega arith) (omega arith) (omega arith))))

          pub uses-stack3 : Stacked e.kind → length (sorts_of e) ≡ 3
              → Uses (usage_at d) (e ∷ (us ++ (vs ++ ws))) (three (max v.need (max (1 + w.need) (2 + z.need))))
          uses-stack3 t n =
              uses-entry long
              (λ rest. rw (n, flat, bare, append_assoc us (vs ++ ws) rest, append_assoc vs ws rest)
              (step-stacked e.kind 0 2 0 0 (used 1 1 0 0) (vs ++ (ws ++ rest)) a (omega arith) 0 (t 0)
              ∙ step-stacked e.kind 0 1 1 0 (joined 0 0 (used 1 1 0 0) v) (ws ++ rest) b (omega arith) 1 (t 1)
              ∙ step-stacked e.kind 0 0 2 0 (joined 1 0 (joined 0 0 (used 1 1 0 0) v) w) rest c (omega arith) 2 (t 2)
              ∙ through-end (usage_at (d - 1)) e.kind 0 _ _ _ rest ∙ ap Some (used-same (omega arith) (omega arith) (omega arith) (omega arith))))

-- ── declarations ──
pub uses-decl : (x : Decl) (d : ℕ) → 1 ≤ d → Uses (usage_at d) (flat_decl x ∷ []) (used_d x)
unfolding flat_decl flat_typed head_of sorts alone_of
uses-decl (declare x) d h = uses-none d (flat_decl (declare x)) h refl refl refl
uses-decl (holding g) d h = uses-none d (flat_decl (holding g)) h refl refl refl

-- the head of a block, of which head declarations are all
module _ (d k head : ℕ) (m : ℕ) (rest : List Entry) (s : stacks k ≡ false) where
  pub through-head : (ds : List Decl) (i : ℕ) (u : Used) → deep_head ds ≤ d → i + length ds ≡ head → 1 ≤ u.need
      → through (usage_at d) k head (length ds + m) i u.holds u (map flat_decl ds ++ rest)
      ≡ through (usage_at d) k head m head (u.holds + head_holds ds) (used (u.entries + length ds) u.need (u.cells + head_cells ds) (u.holds + head_holds ds)) rest
  unfolding head_holds head_cells
  through-head [] i u h e l =
      through_same (usage_at d) k head rest (omega arith) (omega arith) (omega arith) (used-same (omega arith) refl (omega arith) (omega arith))
  through-head (x ∷ ds) i u h e l =
      let v = used (u.entries + 1) u.need (u.cells + decl_cells x) (u.holds + decl_holds x) in
      let b : kept_of head i (decl_holds x) ≡ decl_holds x = rw (lt-ltb i head (omega arith)) in
      through_same (usage_at d) k head (map flat_decl (x ∷ ds) ++ rest) (suc-add (length ds) m) refl refl refl
      ∙ step k head (length ds + m) i u.holds u (map flat_decl ds ++ rest) (uses-decl x d h)
      ∙ through_same (usage_at d) k head (map flat_decl ds ++ rest) refl refl (rw b) (used-same refl (rw s (omega arith)) refl (omega arith))
      ∙ through-head ds (suc i) v (deep-tail ds) (omega arith) l
      ∙ through_same (usage_at d) k head rest refl refl (omega arith) (used-same (omega arith) refl (omega arith) (omega arith))
    where
      deep-tail : (ds : List Decl) → deep_head ds ≤ d
      deep-tail [] = omega arith
      deep-tail (y ∷ ds) = h

-- ── statements and expressions ──
-- after statements and labels: u is what was taken before them
abbrev with_items : ℕ → Used → Items → Used
with_items o u is = used (u.entries + size_items is) (max u.need (need_items is)) (u.cells + cells_items is) (max u.holds (o + holds_items is))

abbrev with_arms : Used → Arms → Used
with_arms u r = used (u.entries + size_arms r) (max u.need (need_arms r)) (u.cells + cells_arms r) (max u.holds (holds_arms r))

abbrev with_exprs : ℕ → Used → Exprs → Used
with_exprs i u es = used (u.entries + size_es es) (max u.need (need_es i es)) (u.cells + cells_es es) (max u.holds (holds_es es))

abbrev ThroughItems : ℕ → Items → Type 0
ThroughItems d is =
    (k head m i o : ℕ) (u : Used) (rest : List Entry) → head ≤ i → stacks k ≡ false → 1 ≤ u.need → o ≤ u.holds
    → through (usage_at d) k head (count_items is + m) i o u (flat_items is ++ rest) ≡ through (usage_at d) k head m (i + count_items is) o (with_items o u is) rest

-- a block's head, statements and labels, and what follows them
module _ (d k : ℕ) (ds : List Decl) (is : Items) (s : stacks k ≡ false) (h : deep_head ds ≤ d) (go : ThroughItems d is) where
  abbrev body_used : Used
  body_used = used (suc (length ds + size_items is)) (need_items is) (head_cells ds + cells_items is) (head_holds ds + holds_items is)

  through-body : (m : ℕ) (rest : List Entry)
      → through (usage_at d) k (length ds) (length ds + (count_items is + m)) 0 0 (used 1 1 0 0) (map flat_decl ds ++ (flat_items is ++ rest))
      ≡ through (usage_at d) k (length ds) m (length ds + count_items is) (head_holds ds) body_used rest
  through-body m rest =
      through-head d k (length ds) (count_items is + m) (flat_items is ++ rest) s ds 0 (used 1 1 0 0) h (omega arith) (omega arith)
      ∙ go k (length ds) m (length ds) (0 + head_holds ds) (used (1 + length ds) 1 (0 + head_cells ds) (0 + head_holds ds)) rest (omega arith) s (omega arith) (omega arith)
      ∙ through_same (usage_at d) k (length ds) rest refl refl (omega arith)
      (used-same (omega arith) (omega (arith, needs-items is)) (omega arith) (omega arith))

uses-block : (d : ℕ) (ds : List Decl) (is : Items) → 1 ≤ d → deep_head ds ≤ d - 1 → length (flat_items is) ≡ size_items is → ThroughItems (d - 1) is
    → Uses (usage_at d) (flat_s (block ds is)) (used_s (block ds is))
unfolding flat_s measure_s head_of sorts stacks alone_of through
uses-block d ds is l h z go =
    let n : length (sorts 1 (length ds) (count_items is)) ≡ length ds + (count_items is + 0) = simp (length-append, length-replicate) (omega arith) in
    uses-entry d (entry 1 (length ds) (pos (count_items is))) l (omega (arith, length-append (map flat_decl ds) (flat_items is), length-map ds flat_decl))
    (λ rest. rw (n, append_assoc (map flat_decl ds) (flat_items is) rest) (through-body (d - 1) 1 ds is refl h go 0 rest))

uses-body : (d : ℕ) (ds : List Decl) (is : Items) (e : Expr) → 1 ≤ d → deep_head ds ≤ d - 1 → length (flat_items is) ≡ size_items is → ThroughItems (d - 1) is
    → Uses (usage_at (d - 1)) (flat_e e) (used_e e) → Uses (usage_at d) (flat_e (block_expr ds is e)) (used_e (block_expr ds is e))
unfolding flat_s measure_s head_of sorts stacks alone_of through
uses-body d ds is e l h z go a =
    let n : length (sorts 53 (length ds) (count_items is)) ≡ length ds + (count_items is + 1) = simp (length-append, length-replicate) (omega arith) in
    uses-entry d (entry 53 (length ds) (pos (count_items is))) l
    (omega (arith, a.size, length-append (map flat_decl ds) (flat_items is ++ flat_e e), length-append (flat_items is) (flat_e e), length-map ds flat_decl))
    (λ rest. rw (n, append_assoc (map flat_decl ds) (flat_items is ++ flat_e e) rest, append_assoc (flat_items is) (flat_e e) rest)
    (through-body (d - 1) 53 ds is refl h go 1 (flat_e e ++ rest)
    ∙ step-plain 53 (length ds) 0 (length ds + count_items is) (head_holds ds) (body_used (d - 1) 53 ds is refl h go) rest a (omega arith) refl
    ∙ ap Some (used-same (omega arith) (omega (arith, needs-items is)) (omega arith) (omega arith))))

-- arguments, each waiting for the last
uses-list : (d : ℕ) (e : Entry) (es : Exprs) → 1 ≤ d → head_of e.kind e.a ≡ 0 → alone_of e.kind ≡ used 1 1 0 0 → length (sorts_of e) ≡ count_exprs es → length (flat_es es) ≡ size_es es
    → ((rest : List Entry) → through (usage_at (d - 1)) e.kind 0 (count_exprs es) 0 0 (used 1 1 0 0) (flat_es es ++ rest) ≡ Some (with_exprs 0 (used 1 1 0 0) es))
    → Uses (usage_at d) (e ∷ flat_es es) (used (suc (size_es es)) (need_es 0 es) (cells_es es) (holds_es es))
uses-list d e es l flat bare n z go =
    uses-entry d e l (omega arith)
    (λ rest. rw (flat, bare, n) (go rest ∙ ap Some (used-same (omega arith) (omega (arith, needs-Es 0 es)) (omega arith) (omega arith))))

uses-case : (d : ℕ) (e : Expr) (r : Arms) → 1 ≤ d → Uses (usage_at (d - 1)) (flat_e e) (used_e e) → length (flat_arms r) ≡ size_arms r
    → ((i : ℕ) (u : Used) (rest : List Entry) → 1 ≤ u.need → through (usage_at (d - 1)) 30 0 (count_arms r) i 0 u (flat_arms r ++ rest) ≡ Some (with_arms u r))
    → Uses (usage_at d) (flat_s (select e r)) (used_s (select e r))
unfolding flat_s measure_s head_of sorts stacks alone_of
uses-case d e r l a z go =
    let n : length (sorts 30 (count_arms r) 0) ≡ suc (count_arms r) = ap suc (length-replicate _ _) in
    uses-entry d (entry 30 (count_arms r) (pos 0)) l (omega (arith, a.size, length-append (flat_e e) (flat_arms r)))
    (λ rest. rw (n, append_assoc (flat_e e) (flat_arms r) rest)
    (step-plain 30 0 (count_arms r) 0 0 (used 1 2 1 0) (flat_arms r ++ rest) a (omega arith) refl
    ∙ go 1 (joined 0 0 (used 1 2 1 0) (used_e e)) rest (omega arith)
    ∙ ap Some (used-same (omega arith) (omega arith) (omega arith) (omega arith))))

-- the largest of four, in either order
regroup : (a b c : ℕ) → max (max a b) c ≡ max a (max b c)
regroup a b c = omega arith

largest : (m a b c n : ℕ) → m ≤ a → max (max (max (max m (0 + a)) b) c) n ≡ max a (max b (max c n))
largest m a b c n h =
    let e : max m (0 + a) ≡ a = omega arith in
    rw (e, regroup (max a b) c n, regroup a b (max c n))

-- a for: its expressions wait for the last of them, and its statement counts alone
uses-for : (d a : ℕ) (e f g : Expr) (s : Stmt) → 1 ≤ d → Uses (usage_at (d - 1)) (flat_e e) (used_e e) → Uses (usage_at (d - 1)) (flat_e f) (used_e f)
    → Uses (usage_at (d - 1)) (flat_e g) (used_e g) → Uses (usage_at (d - 1)) (flat_s s) (used_s s)
    → Uses (usage_at d) (flat_s (for a e f g s)) (used_s (for a e f g s))
unfolding flat_s measure_s head_of sorts stacks alone_of
uses-for d a e f g s l p q r t =
    let one = joined 0 0 (used 1 1 3 0) (used_e e) in
    let two = joined 1 0 one (used_e f) in
    let three = joined 2 0 two (used_e g) in
    let held : max (max (max (max 0 (0 + holds_e e)) (0 + holds_e f)) (0 + holds_e g)) (0 + holds_s s) ≡ max (holds_e e) (max (holds_e f) (max (holds_e g) (holds_s s)))
    = rw (zero-add (holds_e f), zero-add (holds_e g), zero-add (holds_s s)) (largest 0 (holds_e e) (holds_e f) (holds_e g) (holds_s s) (omega arith)) in
    let need : max (max (max (max 1 (0 + need_e e)) (1 + need_e f)) (2 + need_e g)) (0 + need_s s) ≡ max (need_e e) (max (1 + need_e f) (max (2 + need_e g) (need_s s)))
    = rw (zero-add (need_s s)) (largest 1 (need_e e) (1 + need_e f) (2 + need_e g) (need_s s) (needs-E e)) in
    uses-entry d (entry 31 a (pos 0)) l
    (omega (
      arith,
      p.size,
      q.size,
      r.size,
      t.size,
      length-append (flat_e e) (flat_e f ++ (flat_e g ++ flat_s s)),
      length-append (flat_e f) (flat_e g ++ flat_s s),
      length-append (flat_e g) (flat_s s),
    ))
    (λ rest. rw (append_assoc (flat_e e) (flat_e f ++ (flat_e g ++ flat_s s)) rest, append_assoc (flat_e f) (flat_e g ++ flat_s s) rest, append_assoc (flat_e g) (flat_s s) rest)
    (step-stacked 31 0 3 0 0 (used 1 1 3 0) (flat_e f ++ (flat_e g ++ (flat_s s ++ rest))) p (omega arith) 0 refl
    ∙ step-stacked 31 0 2 1 0 one (flat_e g ++ (flat_s s ++ rest)) q (omega arith) 1 refl
    ∙ step-stacked 31 0 1 2 0 two (flat_s s ++ rest) r (omega arith) 2 refl
    ∙ step-stacked 31 0 0 3 0 three rest t (omega arith) 0 refl
    ∙ through-end (usage_at (d - 1)) 31 0 _ _ _ rest ∙ ap Some (used-same (omega arith) need (omega arith) held)))

mutual
  unfolding flat_s measure_s count_items count_arms count_exprs head_of sorts stacks alone_of

  pub uses-S : (x : Stmt) (d : ℕ) → deep_s x ≤ d → Uses (usage_at d) (flat_s x) (used_s x)
  uses-S (block ds is) d h =
      uses-block d ds is (omega arith) (omega arith) (size-items is) (λ k head m i o u rest p s l q. through_items is (d - 1) (omega arith) k head m i o u rest p s l q)
  uses-S (assign x e) d h = uses-stack2 d (entry 21 0 (pos 0)) (omega arith) refl refl (uses-T x (d - 1) (omega arith)) (needs-T x) (uses-E e (d - 1) (omega arith)) (λ i. refl) refl
  uses-S (when e s) d h = uses-pair d (entry 22 0 (pos 0)) (omega arith) refl refl (uses-E e (d - 1) (omega arith)) (needs-E e) (uses-S s (d - 1) (omega arith)) refl refl
  uses-S (choose e s t) d h =
      uses-triple d (entry 23 0 (pos 0)) (omega arith) refl refl (uses-E e (d - 1) (omega arith)) (needs-E e) (uses-S s (d - 1) (omega arith)) (uses-S t (d - 1) (omega arith)) refl refl
  uses-S (while e s) d h = uses-pair d (entry 24 0 (pos 0)) (omega arith) refl refl (uses-E e (d - 1) (omega arith)) (needs-E e) (uses-S s (d - 1) (omega arith)) refl refl
  uses-S (goto a) d h = uses-none d (entry 25 a (pos 0)) (omega arith) refl refl refl
  uses-S (assert e) d h = uses-one d (entry 26 0 (pos 0)) (omega arith) refl refl (uses-E e (d - 1) (omega arith)) (needs-E e) refl
  uses-S (call a es) d h =
      uses-list d (entry 27 a (pos (count_exprs es))) es (omega arith) refl refl (length-replicate _ _) (size-Es es)
      (λ rest. through-exprs es (d - 1) (omega arith) 27 (λ i. refl) 0 (used 1 1 0 0) (omega arith) rest)
  uses-S (set_level e f) d h = uses-stack2 d (entry 28 0 (pos 0)) (omega arith) refl refl (uses-E e (d - 1) (omega arith)) (needs-E e) (uses-E f (d - 1) (omega arith)) (λ i. refl) refl
  uses-S (select e r) d h = uses-case d e r (omega arith) (uses-E e (d - 1) (omega arith)) (size-arms r) (λ i u rest l. through-arms r (d - 1) (omega arith) i u rest l)
  uses-S (for a e f g s) d h =
      uses-for d a e f g s (omega arith) (uses-E e (d - 1) (omega arith)) (uses-E f (d - 1) (omega arith)) (uses-E g (d - 1) (omega arith)) (uses-S s (d - 1) (omega arith))

  pub through_items : (is : Items) (d : ℕ) → deep_items is ≤ d → (k head m i o : ℕ) (u : Used) (rest : List Entry) → head ≤ i → stacks k ≡ false → 1 ≤ u.need → o ≤ u.holds
      → through (usage_at d) k head (count_items is + m) i o u (flat_items is ++ rest) ≡ through (usage_at d) k head m (i + count_items is) o (with_items o u is) rest
  through_items no_item d h k head m i o u rest p s l q =
      through_same (usage_at d) k head rest (omega arith) (omega arith) refl (used-same (omega arith) (omega arith) (omega arith) (omega arith))
  through_items (label a is) d h k head m i o u rest p s l q =
      through_same (usage_at d) k head (flat_items (label a is) ++ rest) (suc-add (count_items is) m) refl refl refl
      ∙ step-plain k head (count_items is + m) i o u (flat_items is ++ rest) (uses-none d (entry 20 a (pos 0)) (omega arith) refl refl refl) p s
      ∙ through_items is d (omega arith) k head m (suc i) o (joined 0 o u (used 1 1 0 0)) rest (omega arith) s (omega arith) (omega arith)
      ∙ through_same (usage_at d) k head rest refl (omega arith) refl (used-same (omega arith) (omega arith) (omega arith) (omega arith))
  through_items (item x is) d h k head m i o u rest p s l q =
      through_same (usage_at d) k head (flat_items (item x is) ++ rest) (suc-add (count_items is) m) refl refl refl
      ∙ rw (append_assoc (flat_s x) (flat_items is) rest)
      (step-plain k head (count_items is + m) i o u (flat_items is ++ rest) (uses-S x d (omega arith)) p s
      ∙ through_items is d (omega arith) k head m (suc i) o (joined 0 o u (used_s x)) rest (omega arith) s (omega arith) (omega arith)
      ∙ through_same (usage_at d) k head rest refl (omega arith) refl (used-same (omega arith) (omega arith) (omega arith) (omega arith)))

  pub uses-T : (x : Target) (d : ℕ) → deep_target x ≤ d → Uses (usage_at d) (flat_target x) (used_t x)
  uses-T (to_variable a) d h = uses-none d (entry 44 a (pos 0)) (omega arith) refl refl refl
  uses-T (to_field a e) d h = uses-one d (entry 46 a (pos 0)) (omega arith) refl refl (uses-E e (d - 1) (omega arith)) (needs-E e) refl

  pub uses-E : (x : Expr) (d : ℕ) → deep_e x ≤ d → Uses (usage_at d) (flat_e x) (used_e x)
  uses-E (number z) d h = uses-none d (entry 40 0 z) (omega arith) refl refl refl
  uses-E (truth b) d h = uses-none d (entry 41 0 (flag b)) (omega arith) refl refl refl
  uses-E (pattern z) d h = uses-none d (entry 42 0 z) (omega arith) refl refl refl
  uses-E (null c) d h = uses-none d (entry 43 c (pos 0)) (omega arith) refl refl refl
  uses-E (variable a) d h = uses-none d (entry 44 a (pos 0)) (omega arith) refl refl refl
  uses-E (invoke a es) d h =
      uses-list d (entry 45 a (pos (count_exprs es))) es (omega arith) refl refl (length-replicate _ _) (size-Es es)
      (λ rest. through-exprs es (d - 1) (omega arith) 45 (λ i. refl) 0 (used 1 1 0 0) (omega arith) rest)
  uses-E (field a e) d h = uses-one d (entry 46 a (pos 0)) (omega arith) refl refl (uses-E e (d - 1) (omega arith)) (needs-E e) refl
  uses-E (make c es) d h =
      uses-list d (entry 47 c (pos (count_exprs es))) es (omega arith) refl refl (length-replicate _ _) (size-Es es)
      (λ rest. through-exprs es (d - 1) (omega arith) 47 (λ i. refl) 0 (used 1 1 0 0) (omega arith) rest)
  uses-E (operate1 o e) d h = uses-one d (entry 48 (unary_code o) (pos 0)) (omega arith) refl refl (uses-E e (d - 1) (omega arith)) (needs-E e) refl
  uses-E (operate2 o e f) d h = uses-stack2 d (entry 49 (binary_code o) (pos 0)) (omega arith) refl refl (uses-E e (d - 1) (omega arith)) (needs-E e) (uses-E f (d - 1) (omega arith)) (λ i. refl) refl
  uses-E (conditional e f g) d h =
      uses-stack3 d (entry 50 0 (pos 0)) (omega arith) refl refl (uses-E e (d - 1) (omega arith)) (needs-E e) (uses-E f (d - 1) (omega arith)) (uses-E g (d - 1) (omega arith)) (λ i. refl) refl
  uses-E (fader e) d h = uses-one d (entry 51 0 (pos 0)) (omega arith) refl refl (uses-E e (d - 1) (omega arith)) (needs-E e) refl
  uses-E (block_expr ds is e) d h =
      uses-body d ds is e (omega arith) (omega arith) (size-items is) (λ k head m i o u rest p s l q.
      through_items is (d - 1) (omega arith) k head m i o u rest p s l q) (uses-E e (d - 1) (omega arith))

  through-arms : (r : Arms) (d : ℕ) → deep_arms r ≤ d → (i : ℕ) (u : Used) (rest : List Entry) → 1 ≤ u.need
      → through (usage_at d) 30 0 (count_arms r) i 0 u (flat_arms r ++ rest) ≡ Some (with_arms u r)
  through-arms (last_arm s) d h i u rest l =
      step-plain 30 0 0 i 0 u rest (uses-S s d h) (omega arith) refl ∙ through-end (usage_at d) 30 0 _ _ _ rest ∙ ap Some (used-same refl (omega arith) refl (omega arith))
  through-arms (arm s r) d h i u rest l =
      rw (append_assoc (flat_s s) (flat_arms r) rest)
      (step-plain 30 0 (count_arms r) i 0 u (flat_arms r ++ rest) (uses-S s d (omega arith)) (omega arith) refl
      ∙ through-arms r d (omega arith) (suc i) (joined 0 0 u (used_s s)) rest (omega arith)
      ∙ ap Some (used-same (omega arith) (omega arith) (omega arith) (omega arith)))

  through-exprs : (es : Exprs) (d : ℕ) → deep_es es ≤ d → (k : ℕ) → Stacked k → (i : ℕ) (u : Used) → 1 ≤ u.need → (rest : List Entry)
      → through (usage_at d) k 0 (count_exprs es) i 0 u (flat_es es ++ rest) ≡ Some (with_exprs i u es)
  through-exprs no_expr d h k s i u l rest = through-end (usage_at d) k 0 i 0 u rest ∙ ap Some (used-same (omega arith) (omega arith) (omega arith) (omega arith))
  through-exprs (expr e es) d h k s i u l rest =
      rw (append_assoc (flat_e e) (flat_es es) rest)
      (step-stacked k 0 (count_exprs es) i 0 u (flat_es es ++ rest) (uses-E e d (omega arith)) (omega arith) i (s i)
      ∙ through-exprs es d (omega arith) k s (suc i) (joined i 0 u (used_e e)) (omega arith) rest
      ∙ ap Some (used-same (omega arith) (omega arith) (omega arith) (omega arith)))

  -- how many entries they are
  pub size-items : (is : Items) → length (flat_items is) ≡ size_items is
  size-items no_item = refl
  size-items (label a is) = ap suc (size-items is)
  size-items (item s is) = omega (arith, length-append (flat_s s) (flat_items is), (uses-S s (deep_s s) (omega arith)).size, size-items is)

  size-arms : (r : Arms) → length (flat_arms r) ≡ size_arms r
  size-arms (last_arm s) = (uses-S s (deep_s s) (omega arith)).size
  size-arms (arm s r) = omega (arith, length-append (flat_s s) (flat_arms r), (uses-S s (deep_s s) (omega arith)).size, size-arms r)

  size-Es : (es : Exprs) → length (flat_es es) ≡ size_es es
  size-Es no_expr = refl
  size-Es (expr e es) = omega (arith, length-append (flat_e e) (flat_es es), (uses-E e (deep_e e) (omega arith)).size, size-Es es)
