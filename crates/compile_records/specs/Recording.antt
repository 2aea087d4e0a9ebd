-- A macro that is well-formed reads back from its bytes; where its numbers are narrow these are bytes.
use Rattle.std.specs.Prelude.{◌≡◌, true}
use Rattle.std.proofs.Math.Path.{refl}
use Rattle.std.proofs.Common.{ap, sym, ◌∙◌}
use mathlib.Core.List.{List, [], ◌∷◌, ◌++◌, map, reverse, reverse_aux}
use Rattle.std.proofs.Math.Option.{Option, some}
use Prim.Native.Nat.{ℕ, suc, ◌+◌, ◌-◌, ◌*◌, ◌/◌, ◌%◌, ◌≤◌}
use native.Mathlib.Omega.{arith}
use Rattle.std.proofs.Math.ListN.{length, get_elem?}
use borrow.Author.Tests.{le-leb, lt-ltb, ne_eqb, eq-eqb}
use Rattle.values.specs.Types.{Ty, integer, logical, bits, reference, ty_byte}
use Rattle.values.specs.Ends.{accepted}
use Rattle.bytecode.specs.Macro.{Body, Code, Placed, Macro, Cut, cut, ty_of_byte, read_types, read_class, read_result, rises, read_body, read_code, follows, read_shape, parsed}
use Rattle.bytecode.specs.Macro.{or_unread, records, onward, head_reads, read_end, parse_macro, read_macro}
use Rattle.logic.specs.Lists.{Each}
use Rattle.logic.specs.ListLaws.{app_nil}
use Rattle.bytecode_laws.specs.Terms.{Named, ReadClass, ReadBody, ReadShape, RisesFrom, Ascends, WellFormed}
use Rattle.compile_code.specs.Encode.{class_bytes, result_byte, body_bytes, code_bytes, shape_bytes, each, macro_bytes}

-- ── lists ──
rev-aux : {A : Type 0} (xs ys zs : List A) → reverse_aux (reverse_aux xs ys) zs ≡ reverse_aux ys (xs ++ zs)
rev-aux [] ys zs = refl
rev-aux (x ∷ xs) ys zs = rev-aux xs (x ∷ ys) zs

pub twice : {A : Type 0} (xs : List A) → reverse (reverse xs) ≡ xs
twice xs = rev-aux xs [] [] ∙ app_nil xs

pub len-rev : {A : Type 0} (xs ys : List A) → length (reverse_aux xs ys) ≡ length xs + length ys
len-rev [] ys = omega arith
len-rev (x ∷ xs) ys = len-rev xs (x ∷ ys) ∙ omega arith

pub each_rev : {A : Type 0} (P : A → Type 0) (ys zs : List A) → Each P ys → Each P zs → Each P (reverse_aux ys zs)
each_rev P [] zs p q = q
each_rev P (y ∷ ys) zs p q = each_rev P ys (y ∷ zs) p.1 (p.0, q)

-- ── types ──
type-back : (n : ℕ) (t : Ty) → Named n t → ty_of_byte n (ty_byte t) ≡ some t
unfolding ty_of_byte
type-back n integer h = refl
type-back n logical h = refl
type-back n bits h = refl
type-back n (reference c) h =
    let e : 16 + c - 16 ≡ c = omega arith in
    rw (ne_eqb (16 + c) 1 (λ z. omega arith), ne_eqb (16 + c) 2 (λ z. omega arith), ne_eqb (16 + c) 3 (λ z. omega arith), le-leb 16 (16 + c) (omega arith), e, lt-ltb c n h) refl

pub types-back : (n : ℕ) (ts : List Ty) (r : List ℕ) → Each (Named n) ts → read_types n (length ts) (map ty_byte ts ++ r) ≡ some (cut ts r)
unfolding read_types
types-back n [] r h = refl
types-back n (t ∷ ts) r h = rw (type-back n t h.0, types-back n ts r h.1) refl

result-back : (n : ℕ) (ts : List Ty) → length ts ≤ 1 → Each (Named n) ts → read_result n (result_byte ts) ≡ some ts
unfolding read_result
result-back n [] l h = refl
result-back n (t ∷ []) l h = rw (ne_eqb (ty_byte t) 0 (not-nothing t), type-back n t h.0) refl
  where
    not-nothing : (t : Ty) → ty_byte t ≡ 0 → ⊥
    not-nothing integer e = omega arith
    not-nothing logical e = omega arith
    not-nothing bits e = omega arith
    not-nothing (reference c) e = omega arith
result-back n (t ∷ (u ∷ ts)) l h = absurd (omega arith)

-- ── single records ──
class_back : (n : ℕ) (before : List (List Ty)) (ts : List Ty) (r : List ℕ) → ReadClass n ts → read_class n before (class_bytes ts ++ r) ≡ some (cut ts r)
unfolding read_class
class_back n before ts r h =
    rw (le-leb 3 (length (class_bytes ts ++ r)) (omega arith), le-leb 1 (length ts) h.some-field, le-leb (length ts) 8 h.few-fields) (types-back n ts r h.named)

body_back : (n size : ℕ) (before : List Body) (b : Body) (r : List ℕ) → ReadBody n size b → rises before b.first ≡ true → read_body n size before (body_bytes b ++ r) ≡ some (cut b r)
unfolding read_body
body_back n size before b r h e =
    let f : b.first % 256 + b.first / 256 * 256 ≡ b.first = omega arith in
    rw (
      f,
      e,
      le-leb 7 (length (body_bytes b ++ r)) (omega arith),
      lt-ltb b.first size h.begins,
      le-leb b.parameters (length b.cells) h.fewer-parameters,
      result-back n b.results h.one-result h.named-results,
      types-back n b.cells r h.named-cells,
    ) refl

code-back : (before : List Code) (c : Code) (r : List ℕ) → read_code before (code_bytes c ++ r) ≡ some (cut c r)
unfolding read_code
code-back before c r =
    let n = c.b in
    let f : n % 256 + n / 256 % 256 * 256 + n / 65536 % 256 * 65536 + n / 16777216 * 16777216 ≡ n = omega arith in
    rw (le-leb 8 (length (code_bytes c ++ r)) (omega arith), f) refl

shape-back : (n size : ℕ) (before : List Placed) (p : Placed) (r : List ℕ) → ReadShape n size p → follows before p.address ≡ true
    → read_shape n size before (shape_bytes p ++ r) ≡ some (cut p r)
unfolding read_shape
shape-back n size before p r h e =
    let f : p.address % 256 + p.address / 256 * 256 ≡ p.address = omega arith in
    let ts = p.found.operands in
    let l : length ts ≡ length (reverse ts) = sym (len-rev ts [] ∙ omega arith) in
    rw (f, e, le-leb 6 (length (shape_bytes p ++ r)) (omega arith), lt-ltb p.address size h.stands, l, types-back n (reverse ts) r (each_rev (Named n) ts [] h.named tt), twice ts) refl

-- ── lists of records ──
-- what is read one after the other, where I holds of those before and those to come
all_back : {A : Type 0} (f : List A → List ℕ → Option (Cut A)) (g : A → List ℕ) (I : List A → List A → Type 0)
    → ((before : List A) (x : A) (xs : List A) (r : List ℕ) → I before (x ∷ xs) → (f before (g x ++ r) ≡ some (cut x r)) × I (x ∷ before) xs)
    → (xs before : List A) (i : ℕ) (l : List ℕ) → I before xs → (j : ℕ) × (records f (length xs) before i (each g xs l) ≡ parsed (reverse (reverse_aux xs before)) j l)
unfolding records each or_unread
all_back f g I s [] before i l h = (i, refl)
all_back f g I s (x ∷ xs) before i l h =
    let q = s before x xs (each g xs l) h in
    let z = all_back f g I s xs (x ∷ before) (suc i) l q.1 in
    (z.0, rw q.0 z.1)

-- bodies rise, and so do shapes
abbrev Rising : List Body → List Body → Type 0
Rising [] [] = Unit {0}
Rising [] (b ∷ bs) = (b.first ≡ 0) × RisesFrom (suc b.first) bs
Rising (c ∷ cs) bs = RisesFrom (suc c.first) bs

rising : (before : List Body) (b : Body) (bs : List Body) → Rising before (b ∷ bs) → (rises before b.first ≡ true) × Rising (b ∷ before) bs
rising [] b bs h = (eq-eqb b.first 0 h.0, h.1)
rising (c ∷ cs) b bs h = (lt-ltb c.first b.first h.0, h.1)

abbrev Ascending : List Placed → List Placed → Type 0
Ascending [] ps = Ascends 0 ps
Ascending (q ∷ qs) ps = Ascends (suc q.address) ps

ascending : (before : List Placed) (p : Placed) (ps : List Placed) → Ascending before (p ∷ ps) → (follows before p.address ≡ true) × Ascending (p ∷ before) ps
ascending [] p ps h = (refl, h.1)
ascending (q ∷ qs) p ps h = (lt-ltb q.address p.address h.0, h.1)

end_back : {A : Type 0} (x : A) (i : ℕ) → read_end x i (90 ∷ 90 ∷ []) ≡ parsed x (suc i) []
unfolding read_end
end_back x i = refl

-- ── the macro ──
module _ (m : Macro) (w : WellFormed m) where
  classes-back : (i : ℕ) (l : List ℕ) → (j : ℕ) × (records (read_class (length m.classes)) (length m.classes) [] i (each class_bytes m.classes l) ≡ parsed m.classes j l)
  classes-back i l =
      let q = all_back (read_class (length m.classes)) class_bytes (λ before xs. Each (ReadClass (length m.classes)) xs)
      (λ before x xs r h. (class_back (length m.classes) before x r h.0, h.1)) m.classes [] i l w.classes-read in
      (q.0, q.1 ∙ ap (λ xs. parsed xs q.0 l) (twice m.classes))

  from-root : (bs : List Body) → m.bodies ≡ bs → RisesFrom 0 bs → Rising [] bs
  from-root [] e r = tt
  from-root (b ∷ bs) e r = (w.root-first b (ap (λ (x : List Body). get_elem? x 0) e), r.1)

  bodies-back : (i : ℕ) (l : List ℕ) → (j : ℕ) × (records (read_body (length m.classes) (length m.code)) (length m.bodies) [] i (each body_bytes m.bodies l) ≡ parsed m.bodies j l)
  bodies-back i l =
      let q = all_back (read_body (length m.classes) (length m.code)) body_bytes (λ before xs. Each (ReadBody (length m.classes) (length m.code)) xs × Rising before xs)
      (λ before x xs r h. let u = rising before x xs h.1 in (
        body_back (length m.classes) (length m.code) before x r h.0.0 u.0,
        (h.0.1, u.1),
      )) m.bodies [] i l (w.bodies-read, from-root m.bodies refl w.rises) in
      (q.0, q.1 ∙ ap (λ xs. parsed xs q.0 l) (twice m.bodies))

  codes-back : (i : ℕ) (l : List ℕ) → (j : ℕ) × (records read_code (length m.code) [] i (each code_bytes m.code l) ≡ parsed m.code j l)
  codes-back i l =
      let q = all_back read_code code_bytes (λ before xs. Unit {0}) (λ before x xs r h. (code-back before x r, tt)) m.code [] i l tt in
      (q.0, q.1 ∙ ap (λ xs. parsed xs q.0 l) (twice m.code))

  shapes-back : (i : ℕ) (l : List ℕ) → (j : ℕ) × (records (read_shape (length m.classes) (length m.code)) (length m.shapes) [] i (each shape_bytes m.shapes l) ≡ parsed m.shapes j l)
  shapes-back i l =
      let q = all_back (read_shape (length m.classes) (length m.code)) shape_bytes (λ before xs. Each (ReadShape (length m.classes) (length m.code)) xs × Ascending before xs)
      (λ before x xs r h. let u = ascending before x xs h.1 in (
        shape-back (length m.classes) (length m.code) before x r h.0.0 u.0,
        (h.0.1, u.1),
      )) m.shapes [] i l (w.shapes-read, w.ascends) in
      (q.0, q.1 ∙ ap (λ xs. parsed xs q.0 l) (twice m.shapes))

  pub read_back : read_macro (macro_bytes m) ≡ accepted m
  unfolding read_macro parse_macro macro_bytes head_reads onward
  read_back =
      let zz : List ℕ = 90 ∷ 90 ∷ [] in
      let l4 = each shape_bytes m.shapes zz in let l3 = each code_bytes m.code l4 in let l2 = each body_bytes m.bodies l3 in let l1 = each class_bytes m.classes l2 in
      let c = classes-back 1 l2 in let b = bodies-back c.0 l3 in let x = codes-back b.0 l4 in let s = shapes-back x.0 zz in
      let k = length m.code in let h = length m.shapes in
      let e : k % 256 + k / 256 * 256 ≡ k = omega arith in
      let f : h % 256 + h / 256 * 256 ≡ h = omega arith in
      rw (
        le-leb 8 (length (macro_bytes m)) (omega arith),
        le-leb (length m.classes) 16 w.few-classes,
        le-leb 1 (length m.bodies) w.some-body,
        le-leb (length m.bodies) 64 w.few-bodies,
        e,
        f,
        c.1,
        b.1,
        x.1,
        s.1,
        end_back m s.0,
      ) refl
