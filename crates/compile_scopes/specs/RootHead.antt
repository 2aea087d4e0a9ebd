-- The root's head: its variables, classes, fields and procedures stand for what the definition of the code finds. One induction over the head, for
-- the root's own body and for the bodies of its procedures.
use Rattle.std.specs.Prelude.{◌≡◌, Bool, ◌||◌, eqb, leb, pos, get_or}
use Rattle.std.proofs.Math.Path.{refl, ap}
use Rattle.std.proofs.Common.{sym, ◌∙◌, zero-add, add-one}
use Rattle.std.proofs.Math.Bool.{true, false}
use mathlib.Core.List.{List, [], ◌∷◌, ◌++◌, map}
use Rattle.std.proofs.Math.Option.{some}
use Prim.Native.Nat.{ℕ, suc, ◌+◌, ◌*◌, ◌≤◌, ◌<◌}
use native.Mathlib.Omega.{arith}
use Rattle.std.proofs.Math.Nat.{add-zero}
use Rattle.std.proofs.Math.ListN.{length, length-append}
use borrow.Author.Tests.{leb-true}
use Rattle.language.specs.Program.{flat_typed, flat_decl, result_code, flat_body, flat_global, flat_head}
use Rattle.logic.specs.Choice.{If◌then◌else◌}
use Rattle.values.specs.Types.{Ty, integer, logical, bits, reference, ty_code, ty_byte}
use Rattle.language.specs.Tree.{Typed, declare, holding, Body, proper, function, Global, local, class, procedure, locals}
use Rattle.language.specs.Table.{entry, in_layout}
use Rattle.language.specs.Names.{Sort, is_variable, is_label, is_class, is_field, is_procedure, is_control, types, results, defines_head, defines_fields}
use Rattle.language.specs.Names.{defines_globals, Scope, nowhere, found, first_of, otherwise}
use Rattle.language.specs.Names as names
use Rattle.language.specs.Faults.{names_head, names_typed, size_body, size_global}
use Rattle.language.specs.Limits.{head_cells}
use Rattle.logic.specs.Tests.{both_right}
use Rattle.language_laws.specs.Claims.{entries_of}
use Rattle.table_entries.specs.Stands.{Stands, stands-left, stands-right}
use Rattle.table_scopes.specs.Trees.{length-map, length-Body, length-Global, Heads}
use Rattle.table_scopes.specs.Sees.{Legible}
use Rattle.table_scopes.specs.Defines.{head_items}
use Rattle.table_forms.specs.Globals.{items_of, global_items, heads-here}
use Rattle.compile_code.specs.Compile.{Around, kept, index_of, among_names, names_of, Class, classes_of, class_names, Proc, procs_of, proc_names, field_in, ty_in}
use Rattle.compile_names.specs.Known.{Style, first-append, nothing}
use Rattle.compile_names.specs.Globals.{GoodGlobals, good-locals}
use Rattle.compile_symbols.specs.Numbers.{packed, numbers_from, numbers_fields, numbers_globals}
use Rattle.table_scopes.specs.Environment.{Found, Nothing, Def}
use Rattle.table_scopes.specs.EnvironmentLaws.{first_in, or_outer}
use Rattle.compile_nodes.specs.Knows.{Lies, Walk, result_of}
use Rattle.compile_scopes.specs.Lies.{lies-right, lies-tail, lies-next, lies-here}
use Rattle.compile_scopes.specs.Lengths.{length-numbers}
use Rattle.compile_scopes.specs.Means.{Both, in-append, byte-type}
use Rattle.compile_scopes.specs.Heads.{entering, new-entering, number-typed}

pub sum : (p n : ℕ) → suc p + n ≡ p + suc n
sum p n = omega arith

pub length_fields : (cs : List ℕ) (k i : ℕ) (xs : List Typed) → length (numbers_fields cs k i xs) ≡ length xs
unfolding numbers_fields
length_fields cs k i [] = refl
length_fields cs k i (x ∷ xs) = ap suc (length_fields cs k (suc i) xs)

-- ── both lookups, step by step ──
pub both-more : (P Q : ℕ → Sort → Type 0) (f : Found) (x : names.Found) → ((q : ℕ) (t : Sort) → P q t → Q q t) → Both P f x → Both Q f x
both-more P Q Nothing nowhere h k = tt
both-more P Q Nothing (found t b) h k = absurd k
both-more P Q (Def s n q w) nowhere h k = absurd k
both-more P Q (Def s n q w) (found t b) h k = h q t k

both-then : (Q : ℕ → Sort → Type 0) (f g : Found) (x y : names.Found) → Both Q f x → (x ≡ nowhere → Both Q g y) → Both Q (or_outer f g) (otherwise x y)
both-then Q Nothing g nowhere y h k = k refl
both-then Q Nothing g (found t b) y h k = absurd h
both-then Q (Def s n q w) g nowhere y h k = absurd h
both-then Q (Def s n q w) g (found t b) y h k = h

both_if : (Q : ℕ → Sort → Type 0) (b : Bool) (s n q : ℕ) (t : Sort) (f : Found) (x : names.Found) → (b ≡ true → Q q t) → (b ≡ false → Both Q f x)
    → Both Q (If b then Def s n q false else f) (If b then found t false else x)
both_if Q true s n q t f x h k = h refl
both_if Q false s n q t f x h k = k refl

-- ── numbers from the place of a declaration on: cl and ps are the classes and procedures from there on, k and b the numbers of the first ──
module _ (W : Walk) (S : Style) (a : ℕ) where
  abbrev classes : List ℕ
  classes = class_names (classes_of W.globals)

  pub record VariableIn (Γ : List Around) (q : ℕ) (t : Ty) : Type 0 where
    pub cell : ℕ
    pub found : S.look a Γ ≡ some (kept S.owner cell)
    pub number : get_or W.known q 0 ≡ packed (ty_byte (ty_in W.globals t)) 1 cell
    pub small : cell < 32

  pub record FieldIn (cl : List Class) (k q : ℕ) (t : Ty) : Type 0 where
    pub number : get_or W.known q 0 ≡ packed (ty_byte (ty_in W.globals t)) (field_in a k cl).class (field_in a k cl).index
    pub small : (field_in a k cl).index < 256

  pub record ProcIn (ps : List Proc) (b q : ℕ) (us : List Ty) : Type 0 where
    pub number : get_or W.known q 0 ≡ packed (result_of W.globals us) 0 (b + index_of a (proc_names ps))
    pub small : result_of W.globals us < 256

  abbrev pub Numbered : List Class → List Proc → ℕ → ℕ → List Around → ℕ → Sort → Type 0
  Numbered cl ps k b Γ q (is_variable t) = VariableIn Γ q t
  Numbered cl ps k b Γ q is_label = Unit {0}
  Numbered cl ps k b Γ q (is_class ts) = get_or W.known q 0 ≡ packed (16 + (k + index_of a (class_names cl))) (k + index_of a (class_names cl)) 0
  Numbered cl ps k b Γ q (is_field c t) = FieldIn cl k q t
  Numbered cl ps k b Γ q (is_procedure ts us) = ProcIn ps b q us
  Numbered cl ps k b Γ q is_control = ⊥

  -- past a class, past a procedure
  past-class : (c : Class) (cl : List Class) (ps : List Proc) (k b : ℕ) (Γ : List Around) → eqb c.name a ≡ false → among_names a (names_of c.fields) ≡ false
      → (q : ℕ) (t : Sort) → Numbered cl ps (suc k) b Γ q t → Numbered (c ∷ cl) ps k b Γ q t
  unfolding class_names index_of field_in
  past-class c cl ps k b Γ e f q (is_variable t) h = h
  past-class c cl ps k b Γ e f q is_label h = h
  past-class c cl ps k b Γ e f q (is_class ts) h =
      let z : k + suc (index_of a (class_names cl)) ≡ suc k + index_of a (class_names cl) = omega arith in rw (e, z) h
  past-class c cl ps k b Γ e f q (is_field d t) h = record { number = rw f h.number; small = rw f h.small }
  past-class c cl ps k b Γ e f q (is_procedure ts us) h = h
  past-class c cl ps k b Γ e f q is_control h = h

  past-procedure : (p : Proc) (cl : List Class) (ps : List Proc) (k b : ℕ) (Γ : List Around) → eqb p.name a ≡ false
      → (q : ℕ) (t : Sort) → Numbered cl ps k (suc b) Γ q t → Numbered cl (p ∷ ps) k b Γ q t
  unfolding proc_names index_of
  past-procedure p cl ps k b Γ e q (is_variable t) h = h
  past-procedure p cl ps k b Γ e q is_label h = h
  past-procedure p cl ps k b Γ e q (is_class ts) h = h
  past-procedure p cl ps k b Γ e q (is_field d t) h = h
  past-procedure p cl ps k b Γ e q (is_procedure ts us) h =
      let z : b + suc (index_of a (proc_names ps)) ≡ suc b + index_of a (proc_names ps) = omega arith in
      record { number = rw (e, z) h.number; small = h.small }
  past-procedure p cl ps k b Γ e q is_control h = h

  -- ── the fields of a class ──
  record FieldAt (k i : ℕ) (xs : List Typed) (q : ℕ) (t : Ty) : Type 0 where
    number : get_or W.known q 0 ≡ packed (ty_byte (ty_in W.globals t)) k (i + index_of a (names_of xs))
    most : index_of a (names_of xs) < length xs
    there : among_names a (names_of xs) ≡ true

  abbrev Fielded : ℕ → ℕ → List Typed → ℕ → Sort → Type 0
  Fielded k i xs q (is_variable t) = ⊥
  Fielded k i xs q is_label = ⊥
  Fielded k i xs q (is_class ts) = ⊥
  Fielded k i xs q (is_field c t) = FieldAt k i xs q t
  Fielded k i xs q (is_procedure ts us) = ⊥
  Fielded k i xs q is_control = ⊥

  later-field : (k i : ℕ) (x : Typed) (xs : List Typed) → eqb x.name a ≡ false → (q : ℕ) (t : Sort) → Fielded k (suc i) xs q t → Fielded k i (x ∷ xs) q t
  unfolding names_of index_of among_names
  later-field k i x xs e q (is_variable t) m = m
  later-field k i x xs e q is_label m = m
  later-field k i x xs e q (is_class ts) m = m
  later-field k i x xs e q (is_field c t) m =
      let z : i + suc (index_of a (names_of xs)) ≡ suc i + index_of a (names_of xs) = omega arith in
      record { number = rw (e, z) m.number; most = rw e (omega (arith, m.most)); there = rw e m.there }
  later-field k i x xs e q (is_procedure ts us) m = m
  later-field k i x xs e q is_control m = m

  fields-mean : (xs : List Typed) (c s p k i : ℕ) (us : List ℕ) → Lies W.known p (numbers_fields classes k i xs ++ us)
      → Both (λ q t. Fielded k i xs q t) (first_in a (head_items s p (map declare xs))) (first_of a (defines_fields c xs))
  unfolding numbers_fields flat_typed head_items defines_fields first_in first_of names_of index_of among_names
  fields-mean [] c s p k i us m = tt
  fields-mean (x ∷ xs) c s p k i us m =
      both_if (λ q t. Fielded k i (x ∷ xs) q t) (eqb x.name a) s (ty_code x.type) p (is_field c x.type) (first_in a (head_items s (suc p) (map declare xs))) (first_of a (defines_fields c xs))
      (λ e. record { number = rw (e, add-zero i) (lies-here _ _ m ∙ ap (λ t. packed t k i) (byte-type classes x.type)); most = rw e (omega arith); there = rw e })
      (λ e. both-more (λ q t. Fielded k (suc i) xs q t) (λ q t. Fielded k i (x ∷ xs) q t) (first_in a (head_items s (suc p) (map declare xs))) (first_of a (defines_fields c xs))
      (λ q t y. later-field k i x xs e q t y) (fields-mean xs c s (suc p) k (suc i) us (lies-tail _ _ m)))

  no_field : (xs : List Typed) (c : ℕ) → first_of a (defines_fields c xs) ≡ nowhere → among_names a (names_of xs) ≡ false
  unfolding first_of defines_fields among_names names_of
  no_field [] c h = refl
  no_field (x ∷ xs) c h = pick (eqb x.name a) h (λ k. no_field xs c k)
    where
      pick : (b : Bool) → (If b then found (is_field c x.type) false else first_of a (defines_fields c xs)) ≡ nowhere
          → (first_of a (defines_fields c xs) ≡ nowhere → among_names a (names_of xs) ≡ false) → (b || among_names a (names_of xs)) ≡ false
      pick true k f = nothing (is_field c x.type) false (sym k)
      pick false k f = f k

  field-here : (c : Class) (cl : List Class) (ps : List Proc) (k b : ℕ) (Γ : List Around) → length c.fields ≤ 8 → (q : ℕ) (t : Sort) → Fielded k 0 c.fields q t → Numbered (c ∷ cl) ps k b Γ q t
  unfolding field_in
  field-here c cl ps k b Γ h q (is_variable t) m = absurd m
  field-here c cl ps k b Γ h q is_label m = absurd m
  field-here c cl ps k b Γ h q (is_class ts) m = absurd m
  field-here c cl ps k b Γ h q (is_field d t) m = record { number = rw m.there (rw (zero-add (index_of a (names_of c.fields))) at m.number); small = rw m.there (omega (arith, m.most)) }
  field-here c cl ps k b Γ h q (is_procedure ts us) m = absurd m
  field-here c cl ps k b Γ h q is_control m = absurd m

  result-byte : (d : Body) → result_code d < 256 → result_code d ≡ result_of W.globals (results d)
  result-byte (proper s) h = refl
  result-byte (function integer e) h = refl
  result-byte (function logical e) h = refl
  result-byte (function bits e) h = refl
  result-byte (function (reference c) e) h = absurd (omega arith)

  -- ── all declarations ──
  module _ {l : List ℕ} (legible : Legible l) where
    few-fields : {p : ℕ} (c : ℕ) (xs : List Typed) → Stands (entries_of l) p (flat_global (class c xs)) → length xs ≤ 8
    unfolding flat_global in_layout
    few-fields {p} c xs h = leb-true (length xs) 8 (both_right (leb 1 (length xs)) (leb (length xs) 8) (legible.layout p (entry 11 c (pos (length xs))) _ h))

    pub globals-mean : (gs : List Global) (p n k b : ℕ) (Γ : List Around) (ss : List Scope) (seen : List ℕ) (f : ℕ → List ℕ)
        → Stands (entries_of l) p (flat_head gs) → GoodGlobals ss seen gs → n + head_cells (locals gs) ≤ 32 → Lies W.known p (numbers_globals classes n k b gs f)
        → Both (λ q t. Numbered (classes_of gs) (procs_of gs) k b (entering S (locals gs) n Γ) q t) (first_in a (global_items p gs)) (first_of a (defines_globals gs))
    unfolding flat_head GoodGlobals head_cells locals numbers_globals classes_of procs_of entering global_items items_of head_items defines_globals defines_head
        names_head first_in first_of flat_decl flat_typed flat_global class_names proc_names index_of Heads
    globals-mean [] p n k b Γ ss seen f h g c m = tt
    globals-mean (local (declare x) ∷ gs) p n k b Γ ss seen f h g c m =
        both_if (λ q t. Numbered (classes_of gs) (procs_of gs) k b (entering S (locals gs) (suc n) (S.name x.name n ∷ Γ)) q t)
        (eqb x.name a) 4 (ty_code x.type) p (is_variable x.type) (first_in a (global_items (p + 1) gs)) (first_of a (defines_globals gs))
        (λ e. record {
          cell = n;
          found = new-entering S a x.name n (locals gs) (suc n) Γ ss seen e (good-locals gs ss (x.name ∷ seen) (x.name ∷ seen) (λ y z. z) g.1);
          number = lies-here _ _ m ∙ number-typed classes 1 n x;
          small = omega arith;
        })
        (λ e. globals-mean gs (p + 1) (suc n) k b (S.name x.name n ∷ Γ) ss (x.name ∷ seen) f (stands-right (flat_global (local (declare x))) (flat_head gs) h) g.1 (omega arith)
        (rw (add-one n) at (lies-next _ _ m)))
    globals-mean (local (holding y) ∷ gs) p n k b Γ ss seen f h g c m =
        globals-mean gs (p + 1) n k b (S.hold y Γ) ss seen f (stands-right (flat_global (local (holding y))) (flat_head gs) h) g.1 (omega arith) (rw (add-zero n) at (lies-next _ _ m))
    globals-mean (class d xs ∷ gs) p n k b Γ ss seen f h g c m =
        let r : Class = record { name = d; fields = xs } in
        let Δ = entering S (locals gs) n Γ in
        let hs = head_items (65536 + d) (suc p) (map declare xs) in let js = global_items (p + suc (length xs)) gs in
        let rest : ℕ → Sort → Type 0 = λ q t. Numbered (classes_of gs) (procs_of gs) (suc k) b Δ q t in
        let all : ℕ → Sort → Type 0 = λ q t. Numbered (r ∷ classes_of gs) (procs_of gs) k b Δ q t in
        let numbers = rw (length_fields classes k 0 xs, sum p (length xs)) at (lies-right (numbers_fields classes k 0 xs) (numbers_globals classes n (suc k) b gs f) (lies-tail _ _ m)) in
        both_if all (eqb d a) 6 (length xs) p (is_class (types xs)) (first_in a (hs ++ js)) (first_of a (defines_fields d xs ++ defines_globals gs))
        (λ e. rw (e, add-zero k) (lies-here _ _ m))
        (λ e. rw (in-append a hs js, first-append a (defines_fields d xs) (defines_globals gs))
        (both-then all (first_in a hs) (first_in a js) (first_of a (defines_fields d xs)) (first_of a (defines_globals gs))
        (both-more (λ q t. Fielded k 0 xs q t) all (first_in a hs) (first_of a (defines_fields d xs))
        (λ q t y. field-here r (classes_of gs) (procs_of gs) k b Δ (few-fields d xs (stands-left (flat_global (class d xs)) (flat_head gs) h)) q t y)
        (fields-mean xs d (65536 + d) (suc p) k 0 _ (lies-tail _ _ m)))
        (λ z. both-more rest all (first_in a js) (first_of a (defines_globals gs)) (λ q t y. past-class r (classes_of gs) (procs_of gs) k b Δ e (no_field xs d z) q t y)
        (globals-mean gs (p + suc (length xs)) n (suc k) b Γ ss (names_typed xs (d ∷ seen)) f (rw (length-Global (class d xs)) at (stands-right (flat_global (class d xs)) (flat_head gs) h))
        g.1 c numbers))))
    globals-mean (procedure d xs y ∷ gs) p n k b Γ ss seen f h g c m =
        let r : Proc = record { name = d; parameters = xs; body = y } in
        let Δ = entering S (locals gs) n Γ in let js = global_items (p + size_global (procedure d xs y)) gs in
        let rest : ℕ → Sort → Type 0 = λ q t. Numbered (classes_of gs) (procs_of gs) k (suc b) Δ q t in
        let all : ℕ → Sort → Type 0 = λ q t. Numbered (classes_of gs) (r ∷ procs_of gs) k b Δ q t in
        let us = map flat_typed xs ++ flat_body y in
        let long : length (numbers_from classes 0 us) ≡ length xs + size_body y
        = length-numbers classes 0 us ∙ length-append (map flat_typed xs) (flat_body y) ∙ rw (length-map flat_typed xs, length-Body y) in
        let numbers = rw (long, sum p (length xs + size_body y)) at (lies-right (numbers_from classes 0 us) (numbers_globals classes n k (suc b) gs f) (lies-tail _ _ m)) in
        let head = heads-here legible (procedure d xs y) (stands-left (flat_global (procedure d xs y)) (flat_head gs) h) in
        let same = result-byte y head in
        both_if all (eqb d a) 7 (256 * length xs + result_code y) p (is_procedure (types xs) (results y)) (first_in a js) (first_of a (defines_globals gs))
        (λ e. record { number = rw (e, add-zero b, ← same) (lies-here _ _ m); small = omega arith })
        (λ e. both-more rest all (first_in a js) (first_of a (defines_globals gs)) (λ q t z. past-procedure r (classes_of gs) (procs_of gs) k b Δ e q t z)
        (globals-mean gs (p + size_global (procedure d xs y)) n k (suc b) Γ ss (d ∷ seen) f
        (rw (length-Global (procedure d xs y)) at (stands-right (flat_global (procedure d xs y)) (flat_head gs) h)) g.1 c numbers))
