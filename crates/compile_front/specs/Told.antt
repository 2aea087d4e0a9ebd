-- The numbers of a table's entries tell the bytes of their types.
use Rattle.std.specs.Prelude.{◌≡◌, refl, Bool, false, ℕ, zero, suc, ◌+◌, ◌-◌, ◌*◌, ◌/◌, ◌≤◌, ◌<◌, eqb, pos, nat_abs, drop, get_or}
use Rattle.std.proofs.Common.{ap, sym, ◌∙◌, arith, get_or-drop, drop-drop, eqb-true}
use Rattle.std.proofs.Math.Bool.{true}
use mathlib.Core.List.{List, [], ◌∷◌, ◌++◌, map, append_assoc}
use Rattle.std.proofs.Math.ListN.{length, length-append}
use Rattle.language.specs.Program.{flat_typed, flat_decl, flat_items, result_code, flat_body, flat_global, flat_head, flatten}
use Rattle.logic.specs.Lists.{all}
use Rattle.logic.specs.Choice.{If◌then◌else◌}
use Rattle.words.specs.Laws.{Bytes}
use Rattle.language.specs.Tree.{declare, holding, Global, local, class, procedure, count_items}
use Rattle.language.specs.Table.{Entry, entry, in_layout}
use Rattle.logic.specs.Tests.{clash, both_left, both_right}
use Rattle.language_laws.specs.Claims.{entries_of}
use Rattle.table_entries.specs.Entries.{entry_at, entry_here, length-entries}
use Rattle.compile_code.specs.Compile.{classes_of}
use Rattle.compile_symbols.specs.declared.Numbers.{Numbers}
use Rattle.compile_symbols.specs.Numbers.{packed, type_in, byte_of, cells_of, number_of, numbers_from, numbers_globals, numbers_of}
use Rattle.compile_symbols.specs.Tabled.{Tabled, the_tree, classes_in, entries-few, some-entry, layout-heads}
use Rattle.compile_symbols.specs.Entries.{one_if, cells_of_kind, cells-few, numbers_owned, numbers_global, layout-byte}
use Rattle.compile_symbols.specs.Whole.{owned-body, kind_of, global-first, has}
use Rattle.compile_code.specs.Counts.{length-classes, length-class-names}

-- the byte of an entry that has cells
abbrev pub type_byte : List ℕ → Entry → ℕ
type_byte cs e = If eqb e.kind 10 then byte_of cs (nat_abs e.b) else 1

abbrev pub Tells : List ℕ → Entry → ℕ → Type 0
Tells cs e n = 0 < cells_of e → type_in n ≡ type_byte cs e

unfoldable pub Agrees : List ℕ → List Entry → List ℕ → Type 0
Agrees cs [] [] = Unit {0}
Agrees cs [] (n ∷ ns) = ⊥
Agrees cs (e ∷ es) [] = ⊥
Agrees cs (e ∷ es) (n ∷ ns) = Tells cs e n × Agrees cs es ns

all_left : (us vs : List Entry) → all in_layout (us ++ vs) ≡ true → all in_layout us ≡ true
unfolding all
all_left [] vs h = refl
all_left (u ∷ us) vs h = rw (both_left (in_layout u) (all in_layout (us ++ vs)) h, all_left us vs (both_right (in_layout u) (all in_layout (us ++ vs)) h))

all_right : (us vs : List Entry) → all in_layout (us ++ vs) ≡ true → all in_layout vs ≡ true
unfolding all
all_right [] vs h = h
all_right (u ∷ us) vs h = all_right us vs (both_right (in_layout u) (all in_layout (us ++ vs)) h)

module _ (cs : List ℕ) (few : length cs ≤ 16) where
  number-tells : (o n : ℕ) (e : Entry) → o ≤ 16 → n ≤ 8192 → in_layout e ≡ true → Tells cs e (number_of cs o n e)
  number-tells o n e h k y = go (eqb e.kind 10) refl (eqb e.kind 30) (eqb e.kind 31)
    where
      go : (a : Bool) → eqb e.kind 10 ≡ a → (b c : Bool) → 0 < (If a then 1 else If b then 1 else If c then 3 else 0)
          → type_in (If a then packed (byte_of cs (nat_abs e.b)) o n else If b then packed 1 0 n else If c then packed 1 0 n else 0)
          ≡ (If a then byte_of cs (nat_abs e.b) else 1)
      go true i b c w = let z = layout-byte cs e y (eqb-true e.kind 10 i) in omega arith
      go false i true c w = omega arith
      go false i false true w = omega arith
      go false i false false w = absurd (omega arith)

  owned-agrees : (o n : ℕ) (es : List Entry) → o ≤ 16 → n + 3 * length es ≤ 8192 → all in_layout es ≡ true → Agrees cs es (numbers_owned cs o n es)
  unfolding Agrees numbers_owned all
  owned-agrees o n [] h k y = tt
  owned-agrees o n (e ∷ es) h k y = (
    number-tells o n e h (omega arith) (both_left (in_layout e) (all in_layout es) y),
    owned-agrees o (n + cells_of e) es h (omega (arith, cells-few e.kind)) (both_right (in_layout e) (all in_layout es) y),
  )

  global-agrees : (n : Numbers) (g : Global) → n.classes ≤ 16 → n.cells + 3 * length (flat_global g) ≤ 8192 → all in_layout (flat_global g) ≡ true
      → Agrees cs (flat_global g) (numbers_global cs n (flat_global g))
  unfolding Agrees numbers_global flat_global flat_decl flat_typed all
  global-agrees n (local (declare x)) h k y = (number-tells 1 n.cells (flat_decl (declare x)) (omega arith) (omega arith) (both_left (in_layout (flat_decl (declare x))) true y), tt)
  global-agrees n (local (holding g)) h k y = ((λ w. absurd (omega arith)), tt)
  global-agrees n (class c xs) h k y =
      ((λ w. absurd (omega arith)), owned-agrees n.classes 0 (map flat_typed xs) h (omega arith) (both_right (in_layout (entry 11 c (pos (length xs)))) (all in_layout (map flat_typed xs)) y))
  global-agrees n (procedure a xs b) h k y = (
    (λ w. absurd (omega arith)),
    owned-agrees 0 0 (map flat_typed xs ++ flat_body b) (omega arith) (omega arith)
        (both_right (in_layout (entry 12 a (pos (256 * length xs + result_code b)))) (all in_layout (map flat_typed xs ++ flat_body b)) y),
  )

  agrees-append : (us vs : List Entry) (ms ns : List ℕ) → Agrees cs us ms → Agrees cs vs ns → Agrees cs (us ++ vs) (ms ++ ns)
  unfolding Agrees
  agrees-append [] vs [] ns h k = k
  agrees-append [] vs (m ∷ ms) ns h k = absurd h
  agrees-append (u ∷ us) vs [] ns h k = absurd h
  agrees-append (u ∷ us) vs (m ∷ ms) ns h k = (h.0, agrees-append us vs ms ns h.1 k)

  -- all declarations, and then others
  globals-agree : (gs : List Global) (n : Numbers) (us : List Entry) (f : ℕ → List ℕ) → ((m : ℕ) → m + 3 * length us ≤ 8192 → Agrees cs us (f m)) → n.classes + length (classes_of gs) ≤ 16
      → n.cells + 3 * length (flat_head gs) + 3 * length us ≤ 8192 → all in_layout (flat_head gs) ≡ true
      → Agrees cs (flat_head gs ++ us) (numbers_globals cs n.cells n.classes n.bodies gs f)
  unfolding flat_head numbers_globals
  globals-agree [] n us f h a b y = h n.cells (omega arith)
  globals-agree (g ∷ gs) n us f h a b y =
      let yg = all_left (flat_global g) (flat_head gs) y in
      let v = has g gs in
      let m = length-append (flat_global g) (flat_head gs) in
      let r : Numbers = record { cells = n.cells + cells_of_kind (kind_of g); classes = n.classes + one_if (kind_of g) 11; bodies = n.bodies + one_if (kind_of g) 12 } in
      let w : Agrees cs (flat_head gs ++ us) (numbers_globals cs r.cells r.classes r.bodies gs f) =
      globals-agree gs r us f h (omega (arith, v.classes)) (omega (arith, cells-few (kind_of g), some-entry g)) (all_right (flat_global g) (flat_head gs) y) in
      rw (append_assoc (flat_global g) (flat_head gs) us, global-first cs n f g gs (layout-heads g yg))
      (agrees-append (flat_global g) (flat_head gs ++ us) (numbers_global cs n (flat_global g)) _ (global-agrees n g (omega arith) (omega arith) yg) w)

-- ── by the place ──
agrees_at : (cs : List ℕ) (es : List Entry) (ns more : List ℕ) (i : ℕ) (e : Entry) (us : List Entry) → Agrees cs es ns → drop i es ≡ e ∷ us → Tells cs e (get_or (ns ++ more) i 0)
unfolding Agrees
agrees_at cs [] [] more zero e us h k = clash (cc)
agrees_at cs [] [] more (suc i) e us h k = clash (cc)
agrees_at cs [] (n ∷ ns) more i e us h k = absurd h
agrees_at cs (x ∷ es) [] more i e us h k = absurd h
agrees_at cs (x ∷ es) (n ∷ ns) more zero e us h k = let z : x ≡ e = cc in rw (sym z) h.0
agrees_at cs (x ∷ es) (n ∷ ns) more (suc i) e us h k = agrees_at cs es ns more i e us h.1 k

-- what the functions ask of the numbers: they tell the types
pub record TypesKnown (l known : List ℕ) : Type 0 where
  pub bytes : Bytes l
  pub wide : length l / 8 ≤ length known
  pub tells : (i : ℕ) → 1 ≤ i → i < length l / 8 → Tells (classes_in l) (entry_at l i) (get_or known i 0)

pub types-known : {l sizes : List ℕ} (known more : List ℕ) → Tabled l sizes (the_tree l) → length l / 8 ≤ length known → drop 1 known ≡ numbers_of (the_tree l) ++ more → TypesKnown l known
unfolding flatten all
types-known {l} known more h w e =
    let t = the_tree l in
    let cs = classes_in l in
    let us = flat_head t.head in
    let vs = flat_items t.items in
    let a : length (classes_of t.head) ≤ 16 = omega (arith, length-classes t.head, h.readable.classes) in
    let few : length cs ≤ 16 = omega (arith, length-class-names (classes_of t.head)) in
    let y : all in_layout (us ++ vs) ≡ true = both_right (in_layout (entry 1 (length t.head) (pos (count_items t.items)))) (all in_layout (us ++ vs)) h.readable.layout in
    let d : drop 1 (entries_of l) ≡ us ++ vs = ap (λ (es : List Entry). drop 1 es) h.same in
    let m : length us + length vs ≤ 2048 = omega (arith, length-append us vs, ap length h.same, length-entries (length l / 8) l, entries-few h) in
    let f : (k : ℕ) → k + 3 * length vs ≤ 8192 → Agrees cs vs (numbers_from cs k vs) = λ k q. rw (owned-body cs k vs) (owned-agrees cs few 0 k vs (omega arith) q (all_right us vs y)) in
    let g : Agrees cs (us ++ vs) (numbers_of t) =
    globals-agree cs few t.head (record { cells = 0; classes = 0; bodies = 1 }) vs (λ k. numbers_from cs k vs) f (omega arith) (omega arith) (all_left us vs y) in
    record {
      bytes = h.legible.bytes;
      wide = w;
      tells = λ i j k.
          let z : 1 + (i - 1) ≡ i = omega arith in
          let x : drop (i - 1) (us ++ vs) ≡ entry_at l i ∷ drop (i + 1) (entries_of l) = ap (drop (i - 1)) (sym d) ∙ (drop-drop (i - 1) 1 (entries_of l) ∙ rw z (entry_here l i k)) in
          let n : get_or (numbers_of t ++ more) (i - 1) 0 ≡ get_or known i 0 = rw (sym e) (get_or-drop 1 known (i - 1) 0 ∙ rw z) in
          rw n at (agrees_at cs (us ++ vs) (numbers_of t) more (i - 1) (entry_at l i) _ g x);
    }
