-- The declarations of the root: their items, what they match, and the faults of each.
use Rattle.std.specs.Prelude.{◌≡◌, Bool, eqb, leb, pos}
use Rattle.std.proofs.Math.Path.{refl, ap}
use Rattle.std.proofs.Common.{sym, ◌∙◌, arith, add-zero, add-one, length-append}
use Rattle.std.proofs.Math.Bool.{true, false}
use mathlib.Core.List.{List, [], ◌∷◌, ◌++◌, map, append_assoc}
use Prim.Native.Nat.{ℕ, zero, suc, ◌+◌, ◌*◌, ◌/◌, ◌%◌, ◌≤◌, ◌<◌}
use Rattle.std.proofs.Math.ListN.{length}
use Rattle.language.specs.Program.{flat_typed, flat_decl, result_code, flat_body, flat_global, flat_head}
use Rattle.logic.specs.Choice.{If◌then◌else◌}
use Rattle.values.specs.Types.{ty_code}
use Rattle.language.specs.Tree.{declare, holding, Body, proper, function, Global, local, class, procedure}
use Rattle.language.specs.Table.{entry, in_layout}
use Rattle.language.specs.Names.{defines_head, defines_fields, defines_globals, results}
use Rattle.language.specs.Faults.{size_global}
use Rattle.logic.specs.Tests.{both_left}
use Rattle.language_laws.specs.Claims.{entries_of}
use Rattle.table_scopes.specs.Environment.{Item, item}
use Rattle.table_scopes.specs.EnvironmentLaws.{Small, small-append}
use Rattle.table_entries.specs.Entries.{length-entries}
use Rattle.table_entries.specs.Stands.{Stands, stands-left, stands-right, stands-tail, stands-within, fields}
use Rattle.table_scopes.specs.Items.{kind_at, a_at, b_at, after, one_at, items_at, global_at, globals_from, WithinGlobal, ReachGlobals, one-is, one-not, global-class, global-procedure, global-local}
use Rattle.table_scopes.specs.Trees.{length-map, typed-decls, length-Global, Heads, spans-Global}
use Rattle.table_scopes.specs.Sees.{Legible, Result, Matches, matches-append}
use Rattle.table_scopes.specs.Once.{Rising, rising-later}
use Rattle.table_scopes.specs.Defines.{head_items, head-items, number-here, span-here, one-small, items-small, head-matches, field-matches, head-rising, length-heads}
use Rattle.language_laws.specs.Roots.{result-small}

-- ── the items ──
unfoldable pub items_of : ℕ → Global → List Item
items_of p (local d) = head_items 4 p (d ∷ [])
items_of p (class c xs) = item c 6 (length xs) p ∷ head_items (65536 + c) (suc p) (map declare xs)
items_of p (procedure a xs b) = item a 7 (256 * length xs + result_code b) p ∷ []

unfoldable pub global_items : ℕ → List Global → List Item
global_items p [] = []
global_items p (g ∷ gs) = items_of p g ++ global_items (p + size_global g) gs

pub heads-here : {l : List ℕ} (legible : Legible l) {p : ℕ} (g : Global) → Stands (entries_of l) p (flat_global g) → Heads g
unfolding flat_global Heads in_layout
heads-here legible (local d) h = tt
heads-here legible (class c xs) h = tt
heads-here legible {p} (procedure a xs b) h =
    let k = legible.layout p (entry 12 a (pos (256 * length xs + result_code b))) _ h in
    result-small (length xs) b (both_left (leb ((256 * length xs + result_code b) / 256) 8) (leb ((256 * length xs + result_code b) % 256) 3) k)

pub record GlobalAt (l : List ℕ) (p : ℕ) (g : Global) : Type 0 where
  pub within : WithinGlobal l p
  pub items : global_at l p ≡ items_of p g
  pub next : after l p ≡ p + size_global g

module _ {l : List ℕ} (legible : Legible l) where
  after-global : {p : ℕ} (g : Global) → Stands (entries_of l) p (flat_global g) → after l p ≡ p + size_global g
  after-global {p} g h = ap (λ (n : ℕ). p + n) (span-here l (flat_global g) (spans-Global g (heads-here legible g h)) h ∙ length-Global g)

  pub global-at : {p : ℕ} (g : Global) → Stands (entries_of l) p (flat_global g) → GlobalAt l p g
  unfolding flat_global flat_decl flat_typed items_of head_items
  global-at {p} (local (declare x)) h =
      let f = fields l p _ _ h in
      record {
        within = record { within = f.within; fields = λ z. absurd (omega (arith, f.kind)) };
        items = global-local l p (λ z. omega (arith, f.kind)) (λ z. omega (arith, f.kind)) ∙ one-is 10 4 l p f.kind ∙ rw (f.a, number-here legible (ty_code x.type) f refl);
        next = after-global (local (declare x)) h;
      }
  global-at {p} (local (holding g)) h =
      let f = fields l p _ _ h in
      record {
        within = record { within = f.within; fields = λ z. absurd (omega (arith, f.kind)) };
        items = global-local l p (λ z. omega (arith, f.kind)) (λ z. omega (arith, f.kind)) ∙ one-not 10 4 l p (λ z. omega (arith, f.kind));
        next = after-global (local (holding g)) h;
      }
  global-at {p} (class c xs) h =
      let f = fields l p _ _ h in
      let b : b_at l p ≡ length xs = number-here legible (length xs) f refl in
      let w = stands-within _ _ h in
      let s : Stands (entries_of l) (p + 1) (map flat_decl (map declare xs)) = rw (typed-decls xs) at (stands-tail _ _ h) in
      let i : items_at (65536 + c) l (p + 1) (length xs) ≡ head_items (65536 + c) (suc p) (map declare xs)
      = ap (items_at (65536 + c) l (p + 1)) (sym (length-map declare xs)) ∙ head-items legible (65536 + c) (p + 1) (map declare xs) s ∙ rw (add-one p) in
      record {
        within = record { within = f.within; fields = λ z. rw b (omega (arith, w, length-map flat_typed xs, length-entries (length l / 8) l)) };
        items = global-class l p f.kind ∙ rw (one-is 11 6 l p f.kind, f.a, b, i);
        next = after-global (class c xs) h;
      }
  global-at {p} (procedure a xs b) h =
      let f = fields l p _ _ h in
      record {
        within = record { within = f.within; fields = λ z. absurd (omega (arith, f.kind)) };
        items = global-procedure l p f.kind ∙ one-is 12 7 l p f.kind ∙ rw (f.a, number-here legible (256 * length xs + result_code b) f refl);
        next = after-global (procedure a xs b) h;
      }

  pub globals-at : (p : ℕ) (gs : List Global) → Stands (entries_of l) p (flat_head gs) → ReachGlobals l p (length gs) × (globals_from l p (length gs) ≡ global_items p gs)
  unfolding flat_head ReachGlobals globals_from global_items
  globals-at p [] h = (tt, refl)
  globals-at p (g ∷ gs) h =
      let a = global-at g (stands-left (flat_global g) (flat_head gs) h) in
      let r = globals-at (p + size_global g) gs (rw (length-Global g) at (stands-right (flat_global g) (flat_head gs) h)) in
      rw (a.next, a.items) ((a.within, r.0), ap (λ (v : List Item). items_of p g ++ v) r.1)

  global-small : (p : ℕ) → Small (global_at l p)
  unfolding global_at
  global-small p = go (eqb (kind_at l p) 11) (eqb (kind_at l p) 12)
    where
      go : (x y : Bool) → Small (If x then one_at 11 6 l p ++ items_at (65536 + a_at l p) l (p + 1) (b_at l p) else If y then one_at 12 7 l p else one_at 10 4 l p)
      go true y = small-append (one_at 11 6 l p) (items_at (65536 + a_at l p) l (p + 1) (b_at l p)) (one-small legible 11 6 p) (items-small legible (65536 + a_at l p) (p + 1) (b_at l p))
      go false true = one-small legible 12 7 p
      go false false = one-small legible 10 4 p

  pub globals-small : (p n : ℕ) → Small (globals_from l p n)
  unfolding globals_from Small
  globals-small p zero = tt
  globals-small p (suc n) = small-append (global_at l p) (globals_from l (after l p) n) (global-small p) (globals-small (after l p) n)

  -- ── they match the definitions ──
  result-is : (n : ℕ) (b : Body) → result_code b < 256 → Result ((256 * n + result_code b) % 256) (results b)
  result-is n (proper s) h = omega arith
  result-is n (function t e) h = omega arith

  pub globals-match : (p : ℕ) (gs : List Global) → Stands (entries_of l) p (flat_head gs) → Matches l (global_items p gs) (defines_globals gs)
  unfolding flat_head flat_global global_items items_of defines_globals Matches Heads
  globals-match p [] h = tt
  globals-match p (local d ∷ gs) h =
      matches-append l (head_items 4 p (d ∷ [])) (global_items (p + 1) gs) (defines_head (d ∷ [])) (defines_globals gs) (head-matches l p (d ∷ []))
      (globals-match (p + 1) gs (stands-right (flat_global (local d)) (flat_head gs) h))
  globals-match p (class c xs ∷ gs) h =
      let f = fields l p _ _ h in
      let t = stands-left (flat_global (class c xs)) (flat_head gs) h in (
        refl,
        (refl, record { declarations = xs; same = refl; count = refl; stands = stands-tail _ _ t; within = f.within }),
        matches-append l (head_items (65536 + c) (suc p) (map declare xs)) (global_items (p + size_global (class c xs)) gs) (defines_fields c xs) (defines_globals gs) (field-matches l c (suc p) xs)
            (globals-match (p + size_global (class c xs)) gs (rw (length-Global (class c xs)) at (stands-right (flat_global (class c xs)) (flat_head gs) h))),
      )
  globals-match p (procedure a xs b ∷ gs) h =
      let f = fields l p _ _ h in
      let t = stands-left (flat_global (procedure a xs b)) (flat_head gs) h in
      let k = heads-here legible (procedure a xs b) t in (
        refl,
        (refl, record { declarations = xs; same = refl; count = omega arith; stands = stands-left (map flat_typed xs) (flat_body b) (stands-tail _ _ t); within = f.within }, result-is (length xs) b k),
        globals-match (p + size_global (procedure a xs b)) gs (rw (length-Global (procedure a xs b)) at (stands-right (flat_global (procedure a xs b)) (flat_head gs) h)),
      )

-- ── their places rise ──
pub length-items : (p : ℕ) (g : Global) → length (items_of p g) ≤ size_global g
unfolding items_of
length-items p (local d) = length-heads 4 p (d ∷ [])
length-items p (class c xs) = omega (arith, length-heads (65536 + c) (suc p) (map declare xs), length-map declare xs)
length-items p (procedure a xs b) = omega arith

global-rising : (p : ℕ) (g : Global) (ys : List Item) → Rising (p + size_global g) ys → Rising p (items_of p g ++ ys)
unfolding items_of Rising
global-rising p (local d) ys h = head-rising 4 p (d ∷ []) ys h
global-rising p (class c xs) ys h =
    (omega arith, head-rising (65536 + c) (suc p) (map declare xs) ys (rising-later (p + suc (length xs)) (suc p + length (map declare xs)) ys (omega (arith, length-map declare xs)) h))
global-rising p (procedure a xs b) ys h = (omega arith, rising-later (p + size_global (procedure a xs b)) (suc p) ys (omega arith) h)

pub globals-rising : (p : ℕ) (gs : List Global) (js : List Item) → Rising (p + length (flat_head gs)) js → Rising p (global_items p gs ++ js)
unfolding flat_head global_items items_of Rising
globals-rising p [] js r = rw (add-zero p) at r
globals-rising p (g ∷ gs) js r =
    let e : p + length (flat_global g ++ flat_head gs) ≡ p + size_global g + length (flat_head gs) = omega (arith, length-append (flat_global g) (flat_head gs), length-Global g) in
    rw (append_assoc (items_of p g) (global_items (p + size_global g) gs) js) (global-rising p g (global_items (p + size_global g) gs ++ js) (globals-rising (p + size_global g) gs js (rw e at r)))
