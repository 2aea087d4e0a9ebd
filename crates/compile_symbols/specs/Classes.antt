-- The number of a class by its name: the loop over the root's declarations.
use Rattle.std.specs.Prelude.{◌≡◌, refl, ℕ, ◌+◌, ◌-◌, ◌*◌, ◌/◌, ◌≤◌, ◌<◌, length, get_or}
use Rattle.std.proofs.Common.{ap, ◌∙◌, length-append}
use Rattle.std.proofs.Math.Path.{sym}
use Rattle.std.proofs.Math.Bool.{true, false}
use mathlib.Core.List.{List, [], ◌∷◌, ◌++◌, map}
use native.Mathlib.Omega.{arith}
use Rattle.std.proofs.Math.Dec.{eqb}
use Rattle.language.specs.Program.{flat_typed, flat_decl, flat_items, flat_body, flat_global, flat_head, flatten}
use Rattle.words.specs.Numbers.{half_at}
use Rattle.language.specs.Tree.{declare, holding, Global, local, class, procedure, Tree}
use Rattle.language.specs.Table.{Entry}
use Rattle.logic.specs.Tests.{clash}
use Rattle.language_laws.specs.Claims.{entries_of}
use Rattle.table_entries.specs.Entries.{entry_at, length-entries}
use Rattle.table_entries.specs.Stands.{Stands, fields}
use Rattle.compile_code.specs.Compile.{index_of, classes_of, class_names}
use Rattle.compile_symbols.specs.Tabled.{Tabled, Headed, entries-few, classes_in, the_tree, Within, Left, left-start, next-global}
use Rattle.compile_code.specs.Counts.{index-most}
use Rattle.compile_symbols.specs.Entries.{one_if, names_class, one-few}

-- the entry that stands at a place
pub entry-at : (l : List ℕ) (p : ℕ) (e : Entry) (us : List Entry) → Stands (entries_of l) p (e ∷ us) → entry_at l p ≡ e
entry-at l p e us h = let f = fields l p e us h in rw (f.kind, f.a, f.b)

pub left-within : {l sizes : List ℕ} {t : Tree} {place left : ℕ} (gs : List Global) → Tabled l sizes t → Left l place left gs → 0 < left → Within l sizes place
left-within [] h k m = absurd (omega (arith, k.many))
left-within (g ∷ gs) h k m = (next-global g gs h k).within

pub record ClassSoFar (l : List ℕ) (name place left n : ℕ) : Type 0 where
  pub globals : List Global
  pub remain : Left l place left globals
  pub same : n + index_of name (class_names (classes_of globals)) ≡ index_of name (classes_in l)
  pub few : n ≤ place

pub class-start : {l sizes : List ℕ} {count : ℕ} (name : ℕ) → Headed l sizes count → ClassSoFar l name 1 count 0
class-start {l} name h = record { globals = (the_tree l).head; remain = left-start h; same = omega arith; few = omega arith }

-- the others, and what is counted of the first
record Missed (l sizes : List ℕ) (name place left : ℕ) (gs : List Global) : Type 0 where
  pub others : List Global
  pub next : Left l (place + get_or sizes place 0) (left - 1) others
  pub counts : index_of name (class_names (classes_of gs)) ≡ one_if (half_at l (8 * place)) 11 + index_of name (class_names (classes_of others))

module _ {l sizes : List ℕ} {t : Tree} (h : Tabled l sizes t) (name : ℕ) {place left : ℕ} (k : 0 < left) where
  hit-in : (gs : List Global) → Left l place left gs → names_class name (entry_at l place) ≡ true → index_of name (class_names (classes_of gs)) ≡ 0
  unfolding flat_global flat_decl flat_typed classes_of class_names index_of
  hit-in [] q e = absurd (omega (arith, q.many))
  hit-in (local (declare x) ∷ gs) q e = let z = entry-at l place _ _ (next-global _ gs h q).stands in clash (let y = sym (ap (names_class name) z) ∙ e in cc)
  hit-in (local (holding g) ∷ gs) q e = let z = entry-at l place _ _ (next-global _ gs h q).stands in clash (let y = sym (ap (names_class name) z) ∙ e in cc)
  hit-in (class c xs ∷ gs) q e = let z = entry-at l place _ _ (next-global _ gs h q).stands in let y : eqb c name ≡ true = sym (ap (names_class name) z) ∙ e in rw y
  hit-in (procedure a xs b ∷ gs) q e = let z = entry-at l place _ _ (next-global _ gs h q).stands in clash (let y = sym (ap (names_class name) z) ∙ e in cc)

  missed : (gs : List Global) → Left l place left gs → names_class name (entry_at l place) ≡ false → Missed l sizes name place left gs
  unfolding flat_global flat_decl flat_typed classes_of class_names index_of
  missed [] q e = absurd (omega (arith, q.many))
  missed (local (declare x) ∷ gs) q e = let y = next-global _ gs h q in let f = fields l place _ _ y.stands in record { others = gs; next = y.next; counts = rw f.kind (omega arith) }
  missed (local (holding g) ∷ gs) q e = let y = next-global _ gs h q in let f = fields l place _ _ y.stands in record { others = gs; next = y.next; counts = rw f.kind (omega arith) }
  missed (class c xs ∷ gs) q e =
      let y = next-global _ gs h q in let f = fields l place _ _ y.stands in
      let z : eqb c name ≡ false = sym (ap (names_class name) (entry-at l place _ _ y.stands)) ∙ e in
      record { others = gs; next = y.next; counts = rw (f.kind, z) (omega arith) }
  missed (procedure a xs b ∷ gs) q e = let y = next-global _ gs h q in let f = fields l place _ _ y.stands in record { others = gs; next = y.next; counts = rw f.kind (omega arith) }

pub none_left : {l : List ℕ} {place left : ℕ} (gs : List Global) → Left l place left gs → left ≡ 0 → gs ≡ []
none_left [] q e = refl
none_left (g ∷ gs) q e = absurd (omega (arith, q.many))

module _ {l sizes : List ℕ} {t : Tree} (h : Tabled l sizes t) {name place left n : ℕ} (s : ClassSoFar l name place left n) where
  pub class-within : 0 < left → Within l sizes place
  class-within k = left-within s.globals h s.remain k

  pub class-hit : 0 < left → names_class name (entry_at l place) ≡ true → n ≡ index_of name (classes_in l)
  class-hit k e = omega (arith, hit-in h name k s.globals s.remain e, s.same)

  pub class-next : (m size : ℕ) → 0 < left → names_class name (entry_at l place) ≡ false → m ≡ one_if (half_at l (8 * place)) 11 → size ≡ get_or sizes place 0
      → ClassSoFar l name (place + size) (left - 1) (n + m)
  class-next m size k e d z =
      let q = missed h name k s.globals s.remain e in
      let w = class-within k in
      record { globals = q.others; remain = rw z q.next; same = omega (arith, q.counts, s.same); few = omega (arith, s.few, one-few (half_at l (8 * place)) 11, w.some) }

  pub class-end : left ≡ 0 → n ≡ index_of name (classes_in l)
  unfolding classes_of class_names index_of
  class-end k = let e = rw (none_left s.globals s.remain k) at s.same in omega arith

-- ── they are few ──
names-few : (gs : List Global) → length (class_names (classes_of gs)) ≤ length (flat_head gs)
unfolding classes_of class_names flat_head flat_global
names-few [] = omega arith
names-few (local d ∷ gs) = omega (arith, names-few gs)
names-few (class c xs ∷ gs) = omega (arith, names-few gs, length-append (map flat_typed xs) (flat_head gs))
names-few (procedure a xs b ∷ gs) = omega (arith, names-few gs, length-append (map flat_typed xs ++ flat_body b) (flat_head gs))

pub classes-few : {l sizes : List ℕ} {count : ℕ} → Headed l sizes count → length (classes_in l) ≤ 2048
unfolding flatten
classes-few {l} h =
    let t = the_tree l in
    let e = ap length h.tabled.same in
    omega (arith, names-few t.head, length-append (flat_head t.head) (flat_items t.items), length-entries (length l / 8) l, entries-few h.tabled)

pub class-few : {l sizes : List ℕ} {count : ℕ} → Headed l sizes count → (name : ℕ) → index_of name (classes_in l) ≤ 2048
class-few {l} h name = omega (arith, index-most name (classes_in l), classes-few h)
