-- What the code finds of a table's bodies is what the definitions of Limits say of its tree. Assumes nothing.
use Rattle.std.specs.Prelude.{Option, Some, None, Result, Ok, Err}
use mathlib.Core.Path.{◌≡◌, refl, ap, sym, ◌∙◌}
use mathlib.Core.Bool.{Bool, true, false, not, ◌||◌}
use mathlib.Core.List.{List, [], ◌∷◌, ◌++◌, map, append_assoc, append-nil}
use Prim.Native.Nat.{ℕ, suc, ◌+◌, ◌*◌, ◌/◌, ◌%◌, ◌≤◌, ◌<◌}
use native.Mathlib.Nat.{suc-add}
use native.Mathlib.Omega.{arith}
use lib.Dec.{eqb, leb, ltb}
use lib.IntN.{pos}
use lib.ListN.{length, drop, length-append, length-replicate, length-map}
use lib.Seq.{drop_at}
use borrow.Author.Tests.{leb-true}
use Rattle.language.specs.Program.{flat_typed, flat_decl, flat_items, result_code, flat_body, flat_global, flat_head, flatten, deep_items, deep_list, deep_body, deep_global, deep_globals, nesting}
use Rattle.logic.specs.Choice.{If◌then◌else◌}
use Rattle.values.specs.Ends.{Refusal, refusal, accepted, refused}
use Rattle.language.specs.Tree.{Typed, declare, holding, Body, proper, function, Global, local, class, procedure, Tree, count_items, locals}
use Rattle.language.specs.Table as table
use Rattle.language.specs.Table.{Entry, entry, in_layout, took, stop, first, form_root, one_tree, read_table}
use Rattle.language.specs.Faults.{fault_if, size_body, size_global, size_items}
use Rattle.language.specs.Limits.{head_cells, head_holds, need_items, keeps_limits, body_usage, root_usage, over_limits, procedure_limits, limits}
use Rattle.logic.specs.Tests.{clash, both_left}
use Rattle.language_laws.specs.Claims.{Readable, entries_of}
use Rattle.language_laws.proofs.Programs.{flatten-read}
use Rattle.language_laws.specs.Roots.{small_result}
use Rattle.language_laws.specs.Takes.{Fits, fits_head, fits-tail, fits-left, fits-right}
use Rattle.table_entries.specs.Entries.{entries_none}
use Rattle.table_read.specs.Operands.{sorts}
use Rattle.table_read.specs.Walk.{kind_at, name_at, size_at}
use Rattle.table_limits.specs.declared.sums.Used.{Used}
use Rattle.table_limits.specs.Sums.{used, alone_of, stacks, head_of, keeps_all, over_of, declared_of}
use Rattle.table_limits.specs.Usage.{through, usage_at, head_from, head_at, items_at, root_of, bodies_of, limits_at, limited_of}
use Rattle.table_limits.proofs.Trees.{used_s, used_e, used_d, needs-S, needs-E, needs-items, used-same, through_same, through-end, Uses, step-plain, uses-entry}
use Rattle.table_limits.proofs.Trees.{uses-decl, uses-S, uses-E, through_items}

-- ── procedures and classes ──
abbrev used_b : Body → Used
used_b (proper s) = used_s s
used_b (function t e) = used_e e

abbrev used_g : Global → Used
used_g (local d) = used_d d
used_g (class c xs) = used (suc (length xs)) 1 (length xs) 0
used_g (procedure a xs b) = used (suc (length xs + size_body b)) (used_b b).need (length xs + (used_b b).cells) (used_b b).holds

needs-B : (b : Body) → 1 ≤ (used_b b).need
needs-B (proper s) = needs-S s
needs-B (function t e) = needs-E e

uses-B : (b : Body) (d : ℕ) → deep_body b ≤ d → Uses (usage_at d) (flat_body b) (used_b b)
unfolding flat_body
uses-B (proper s) d h = uses-S s d h
uses-B (function t e) d h = uses-E e d h

size-B : (b : Body) → (used_b b).entries ≡ size_body b
size-B (proper s) = refl
size-B (function t e) = refl

-- fields or parameters
through-typed : (xs : List Typed) (d k m i : ℕ) (u : Used) (rest : List Entry) → deep_list xs ≤ d → stacks k ≡ false → 1 ≤ u.need
    → through (usage_at d) k 0 (length xs + m) i 0 u (map flat_typed xs ++ rest)
    ≡ through (usage_at d) k 0 m (i + length xs) 0 (used (u.entries + length xs) u.need (u.cells + length xs) u.holds) rest
unfolding flat_decl
through-typed [] d k m i u rest h s l =
    through_same (usage_at d) k 0 rest (omega arith) (omega arith) refl (used-same (omega arith) refl (omega arith) refl)
through-typed (x ∷ xs) d k m i u rest h s l =
    through_same (usage_at d) k 0 (map flat_typed (x ∷ xs) ++ rest) (suc-add (length xs) m) refl refl refl
    ∙ step-plain k 0 (length xs + m) i 0 u (map flat_typed xs ++ rest) (uses-decl (declare x) d h) (omega arith) s
    ∙ through_same (usage_at d) k 0 (map flat_typed xs ++ rest) refl refl refl (used-same refl (omega arith) refl (omega arith))
    ∙ through-typed xs d k m (suc i) (used (u.entries + 1) u.need (u.cells + 1) u.holds) rest (deep xs) s l
    ∙ through_same (usage_at d) k 0 rest refl (omega arith) refl (used-same (omega arith) refl (omega arith) refl)
  where
    deep : (ys : List Typed) → deep_list ys ≤ d
    deep [] = omega arith
    deep (y ∷ ys) = h

uses-class : (c : ℕ) (xs : List Typed) → deep_list xs ≤ 62 → Uses (usage_at 63) (flat_global (class c xs)) (used_g (class c xs))
unfolding flat_global head_of sorts stacks alone_of
uses-class c xs h =
    let n : length (sorts 11 c (length xs)) ≡ length xs + 0 = simp length-replicate (omega arith) in
    uses-entry 63 (entry 11 c (pos (length xs))) (omega arith) (omega (arith, length-map xs flat_typed))
    (λ rest. rw n (through-typed xs 62 11 0 0 (used 1 1 0 0) rest h refl (omega arith) ∙ through-end (usage_at 62) 11 0 _ _ _ rest
    ∙ ap Some (used-same (omega arith) refl (omega arith) refl)))

uses-procedure : (a : ℕ) (xs : List Typed) (b : Body) → result_code b ≤ 3 → deep_list xs ≤ 62 → deep_body b ≤ 62
    → Uses (usage_at 63) (flat_global (procedure a xs b)) (used_g (procedure a xs b))
unfolding flat_global head_of sorts stacks alone_of
uses-procedure a xs b r h k =
    let q : (256 * length xs + result_code b) / 256 ≡ length xs = omega arith in
    let n : length (sorts 12 a (256 * length xs + result_code b)) ≡ length xs + 1 = rw q (simp (length-append, length-replicate)) in
    let u = uses-B b 62 k in
    uses-entry 63 (entry 12 a (pos (256 * length xs + result_code b))) (omega arith)
    (omega (arith, length-append (map flat_typed xs) (flat_body b), length-map xs flat_typed, u.size, size-B b))
    (λ rest. rw (n, append_assoc (map flat_typed xs) (flat_body b) rest)
    (through-typed xs 62 12 1 0 (used 1 1 0 0) (flat_body b ++ rest) h refl (omega arith)
    ∙ step-plain 12 0 0 (0 + length xs) 0 (used (1 + length xs) 1 (0 + length xs) 0) rest u (omega arith) refl
    ∙ through-end (usage_at 62) 12 0 _ _ _ rest
    ∙ ap Some (used-same (omega (arith, size-B b)) (omega (arith, needs-B b)) (omega arith) (omega arith))))

uses-global : (g : Global) → Fits 63 (flat_global g) (deep_global g) → Uses (usage_at 63) (flat_global g) (used_g g)
unfolding flat_global in_layout
uses-global (local d) h = uses-decl d 63 (omega arith)
uses-global (class c xs) h = uses-class c xs (omega (arith, h.depth))
uses-global (procedure a xs b) h =
    let n = 256 * length xs + result_code b in
    uses-procedure a xs b (small_result b (length xs) (leb-true (n / 256) 8 (both_left (leb (n / 256) 8) (leb (n % 256) 3) (fits_head h))))
    (omega (arith, h.depth)) (omega (arith, h.depth))

-- ── the root's head ──
abbrev headed : List Refusal → Used → Result (Option Used) ℕ
headed [] u = Ok (Some u)
headed (r ∷ rs) u = Err r.place

abbrev own_after : Used → List Global → Used
own_after own gs = used (own.entries + length (flat_head gs)) own.need (own.cells + head_cells (locals gs)) (own.holds + head_holds (locals gs))

-- the code's answer where so many declarations are left
abbrev Answers : Used → List Global → List Entry → Type 0
Answers own gs rest = head_from (length gs) own (flat_head gs ++ rest) ≡ headed (procedure_limits own.entries gs) (own_after own gs)

next-global : {us : List Entry} {v : Used} (k n : ℕ) (own : Used) (rest : List Entry) → Uses (usage_at 63) us v → kind_at (us ++ rest) ≡ k
    → head_from (suc n) own (us ++ rest) ≡ (If over_of k v then Err own.entries else head_from n (declared_of k own v) rest)
unfolding head_from
next-global {us} {v} k n own rest a e = rw (a.value rest, e, drop_at us rest v.entries a.size)

headed-same : (gs : List Global) {p q : ℕ} {u v : Used} → p ≡ q → u ≡ v → headed (procedure_limits p gs) u ≡ headed (procedure_limits q gs) v
headed-same gs p q = λ i. headed (procedure_limits (p i) gs) (q i)

-- a procedure within its limits goes on, another is the answer
judged : (b : Bool) (p : ℕ) (rs : List Refusal) {x : Result (Option Used) ℕ} (u : Used) → x ≡ headed rs u
    → (If b then Err p else x) ≡ headed (fault_if b 6 p ++ rs) u
judged true p rs u e = refl
judged false p rs u e = e

keeps_same : (a : ℕ) (xs : List Typed) (b : Body) → keeps_all (used_g (procedure a xs b)) ≡ keeps_limits (body_usage xs b)
keeps_same a xs (proper s) = refl
keeps_same a xs (function t e) = refl

head-limits : (gs : List Global) (own : Used) (rest : List Entry) → Fits 63 (flat_head gs) (deep_globals gs) → Answers own gs rest
unfolding flat_head deep_globals procedure_limits locals head_cells head_holds head_from flat_global flat_decl flat_typed
head-limits [] own rest h = ap (λ (w : Used). Ok (Some w)) (used-same (omega arith) refl (omega arith) (omega arith))
head-limits (g ∷ gs) own rest h =
    rw (append_assoc (flat_global g) (flat_head gs) rest)
    (step g (uses-global g (fits-left (deep_global g) (deep_globals gs) (flat_global g) (flat_head gs) h))
    (λ v. head-limits gs v rest (fits-right (deep_global g) (deep_globals gs) (flat_global g) (flat_head gs) h)))
  where
    step : (g : Global) → Uses (usage_at 63) (flat_global g) (used_g g) → ((v : Used) → Answers v gs rest)
        → head_from (suc (length gs)) own (flat_global g ++ (flat_head gs ++ rest)) ≡ headed (procedure_limits own.entries (g ∷ gs)) (own_after own (g ∷ gs))
    step (local (declare x)) a go =
        next-global 10 (length gs) own (flat_head gs ++ rest) a refl ∙ go (declared_of 10 own (used_d (declare x)))
        ∙ headed-same gs (omega arith) (used-same (omega arith) refl (omega arith) (omega arith))
    step (local (holding x)) a go =
        next-global 14 (length gs) own (flat_head gs ++ rest) a refl ∙ go (declared_of 14 own (used_d (holding x)))
        ∙ headed-same gs (omega arith) (used-same (omega arith) refl (omega arith) (omega arith))
    step (class c xs) a go =
        next-global 11 (length gs) own (flat_head gs ++ rest) a refl ∙ go (declared_of 11 own (used_g (class c xs)))
        ∙ headed-same gs refl (used-same (omega (arith, a.size, length-append (flat_global (class c xs)) (flat_head gs))) refl (omega arith) (omega arith))
    step (procedure c xs b) a go =
        next-global 12 (length gs) own (flat_head gs ++ rest) a refl
        ∙ rw (keeps_same c xs b)
        (judged (not (keeps_limits (body_usage xs b))) own.entries (procedure_limits (own.entries + size_global (procedure c xs b)) gs) (own_after own (procedure c xs b ∷ gs))
        (go (declared_of 12 own (used_g (procedure c xs b)))
        ∙ headed-same gs refl (used-same (omega (arith, a.size, length-append (flat_global (procedure c xs b)) (flat_head gs))) refl (omega arith) (omega arith))))

-- ── the table ──
-- a table that reads is the entries of its tree
read-tree : (l : List ℕ) (t : Tree) → read_table l ≡ accepted t → (entries_of l ≡ flatten t) × Readable t
unfolding read_table one_tree
read-tree l t e = go (eqb (length l) 0 || (ltb 16384 (length l) || not (eqb (length l % 8) 0))) e
  where
    whole : (x : table.Read Tree) → first form_root (entries_of l) ≡ x → one_tree (entries_of l) x ≡ accepted t → (entries_of l ≡ flatten t) × Readable t
    whole (took u []) q a =
        let s : u ≡ t = cc in
        let r = flatten-read (entries_of l) [] t (rw s at q) in
        (r.0 ∙ append-nil (flatten t), r.1)
    whole (took u (f ∷ fs)) q a = clash (cc)
    whole (stop fs) q a = clash (cc)

    go : (b : Bool) → (If b then refused (refusal 1 0) else one_tree (entries_of l) (first form_root (entries_of l))) ≡ accepted t → (entries_of l ≡ flatten t) × Readable t
    go true a = clash (cc)
    go false a = whole (first form_root (entries_of l)) refl a

-- the root's statements, after a head that is within its limits
module _ (t : Tree) (h : deep_items t.items ≤ 63) where
  own : Used
  own = own_after (used 1 1 0 0) t.head

  root-items : items_at (count_items t.items) own (flat_items t.items)
      ≡ Some (used (own.entries + size_items t.items) (need_items t.items) (root_usage t).cells (root_usage t).holds)
  unfolding own stacks
  root-items =
      let is = t.items in
      ap (λ (es : List Entry). items_at (count_items is) own es) (sym (append-nil (flat_items is)))
      ∙ through_same (usage_at 63) 1 0 (flat_items is ++ []) (omega arith) refl refl refl
      ∙ through_items is 63 h 1 0 0 0 own.holds own [] (omega arith) refl (omega arith) (omega arith)
      ∙ through-end (usage_at 63) 1 0 _ _ _ []
      ∙ ap Some (used-same refl (omega (arith, needs-items is)) (omega arith) (omega arith))

  -- past the root's entry and its head its statements stand
  past_head : (e : Entry) → drop own.entries (e ∷ (flat_head t.head ++ flat_items t.items)) ≡ flat_items t.items
  unfolding own
  past_head e =
      let es = flat_head t.head ++ flat_items t.items in
      let n : 1 + length (flat_head t.head) ≡ suc (length (flat_head t.head)) = omega arith in
      ap (λ (m : ℕ). drop m (e ∷ es)) n ∙ drop_at (flat_head t.head) (flat_items t.items) (length (flat_head t.head)) refl

  root-judged : (e : Entry) → root_of (items_at (count_items t.items) own (drop own.entries (e ∷ (flat_head t.head ++ flat_items t.items))))
      ≡ limited_of (over_limits (root_usage t) 0)
  root-judged e = rw (past_head e, root-items) (answer (keeps_limits (root_usage t)))
    where
      answer : (b : Bool) → (If b then Ok tt else Err 0) ≡ limited_of (fault_if (not b) 6 0)
      answer true = refl
      answer false = refl

limits-tree : (t : Tree) → Readable t → limits_at (flatten t) ≡ limited_of (limits t)
unfolding limits_at limits flatten nesting alone_of own
limits-tree t h =
    let e = entry 1 (length t.head) (pos (count_items t.items)) in
    let gs = deep_globals t.head in
    let is = deep_items t.items in
    let f = fits-tail (record { layout = h.layout; depth = h.depth }) in
    ap (bodies_of (flatten t)) (head-limits t.head (used 1 1 0 0) (flat_items t.items) (fits-left gs is (flat_head t.head) (flat_items t.items) f))
    ∙ go (procedure_limits 1 t.head) (root-judged t (omega (arith, h.depth)) e)
  where
    go : (rs : List Refusal) → bodies_of (flatten t) (headed [] (own_after (used 1 1 0 0) t.head)) ≡ limited_of (over_limits (root_usage t) 0)
        → bodies_of (flatten t) (headed rs (own_after (used 1 1 0 0) t.head)) ≡ limited_of (rs ++ over_limits (root_usage t) 0)
    go [] q = q
    go (r ∷ rs) q = refl

pub limits-right : (l : List ℕ) (t : Tree) → read_table l ≡ accepted t → limits_at (entries_of l) ≡ limited_of (limits t)
limits-right l t e = let r = read-tree l t e in rw r.0 (limits-tree t r.1)

-- ── what the code comes to ──
pub limits-short : (l : List ℕ) → length l < 8 → limits_at (entries_of l) ≡ Ok tt
unfolding limits_at head_from through alone_of
limits-short l h = rw (entries_none l h)

module _ (es : List Entry) {x : Result (Option Used) ℕ} (e : x ≡ head_at (name_at es) (drop 1 es)) where
  pub limits-own : {u : Used} → x ≡ Ok (Some u) → limits_at es ≡ root_of (items_at (size_at es) u (drop u.entries es))
  unfolding limits_at
  limits-own q = ap (bodies_of es) (sym e ∙ q)

  pub limits-exceeds : {p : ℕ} → x ≡ Err p → limits_at es ≡ Err p
  unfolding limits_at
  limits-exceeds q = ap (bodies_of es) (sym e ∙ q)

  pub limits-ended : x ≡ Ok None → limits_at es ≡ Ok tt
  unfolding limits_at
  limits-ended q = ap (bodies_of es) (sym e ∙ q)
