-- A macro that can be written: its bytes are bytes, they read back, and where no address has a fault they are accepted.
use Rattle.std.specs.Prelude.{◌≡◌, false, List, [], ◌∷◌, ◌++◌, map, reverse, ℕ, zero, suc, ◌≤◌, ◌<◌}
use native.Mathlib.Omega.{arith}
use Rattle.std.proofs.Math.ListN.{length}
use Rattle.words.specs.Numbers.{word}
use Rattle.words.specs.Laws.{Bytes}
use Rattle.values.specs.Types.{Ty, integer, logical, bits, reference, ty_byte}
use Rattle.values.specs.Ends.{accepted}
use Rattle.bytecode.specs.Macro.{Body, Code, Placed, Macro, read_macro}
use Rattle.bytecode.specs.Rules.{fault_at, judge_macro}
use Rattle.logic.specs.Lists.{Each}
use Rattle.bytecode_laws.specs.Terms.{Named, ReadClass, ReadBody, ReadShape, WellFormed, OfBytes, Narrow, Passed}
use Rattle.bytecode_laws.specs.Promises.{passes-exactly}
use Rattle.compile_code.specs.Encode.{class_bytes, result_byte, body_bytes, code_bytes, shape_bytes, each, macro_bytes}
use Rattle.compile_records.specs.Recording.{read_back, each_rev}

abbrev pub SmallBody : Body → Type 0
SmallBody b = length b.cells < 256

abbrev pub SmallShape : Placed → Type 0
SmallShape p = (p.found.holds < 256) × (length p.found.operands < 256)

-- well-formed, and every number within the bytes that it is written in
pub record Writable (m : Macro) : Type 0 where
  pub well-formed : WellFormed m
  pub narrow : Narrow m
  pub few-shapes : length m.shapes < 65536
  pub small-bodies : Each SmallBody m.bodies
  pub small-shapes : Each SmallShape m.shapes

-- every element is below 256, pair by pair
abbrev Small : List ℕ → Type 0
Small l = Each (λ x. x < 256) l

small_bytes : (l : List ℕ) → Small l → Bytes l
small_bytes [] h k = omega arith
small_bytes (x ∷ l) h zero = h.0
small_bytes (x ∷ l) h (suc k) = small_bytes l h.1 k

of_word : (n : ℕ) (l : List ℕ) → n < 4294967296 → Small l → Small (word n ++ l)
of_word n l h b = (omega arith, (omega arith, (omega arith, (omega arith, b))))

of-type : (n : ℕ) (t : Ty) → n ≤ 16 → Named n t → ty_byte t < 256
of-type n integer l h = omega arith
of-type n logical l h = omega arith
of-type n bits l h = omega arith
of-type n (reference c) l h = omega arith

of_types : (n : ℕ) (ts : List Ty) (l : List ℕ) → n ≤ 16 → Each (Named n) ts → Small l → Small (map ty_byte ts ++ l)
of_types n [] l p h b = b
of_types n (t ∷ ts) l p h b = (of-type n t p h.0, of_types n ts l p h.1 b)

of-result : (n : ℕ) (ts : List Ty) → n ≤ 16 → Each (Named n) ts → result_byte ts < 256
of-result n [] p h = omega arith
of-result n (t ∷ ts) p h = of-type n t p h.0

of-each : {A : Type 0} (g : A → List ℕ) (P : A → Type 0) → ((x : A) (r : List ℕ) → P x → Small r → Small (g x ++ r)) → (xs : List A) (l : List ℕ) → Each P xs → Small l → Small (each g xs l)
unfolding each
of-each g P f [] l h b = b
of-each g P f (x ∷ xs) l h b = f x (each g xs l) h.0 (of-each g P f xs l h.1 b)

two : {A : Type 0} (P Q : A → Type 0) (xs : List A) → Each P xs → Each Q xs → Each (λ x. P x × Q x) xs
two P Q [] p q = tt
two P Q (x ∷ xs) p q = ((p.0, q.0), two P Q xs p.1 q.1)

of-class : (n : ℕ) (ts : List Ty) (r : List ℕ) → n ≤ 16 → ReadClass n ts → Small r → Small (class_bytes ts ++ r)
of-class n ts r p h b = (omega arith, (omega arith, (let z = h.few-fields in omega arith, of_types n ts r p h.named b)))

of-body : (n size : ℕ) (x : Body) (r : List ℕ) → n ≤ 16 → size < 65536 → ReadBody n size x → SmallBody x → Small r → Small (body_bytes x ++ r)
of-body n size x r p q h s b =
    let y = h.begins in let z = h.fewer-parameters in
    (omega arith, (omega arith, (omega arith, (omega arith, (omega arith, (of-result n x.results p h.named-results, (s, of_types n x.cells r p h.named-cells b)))))))

of_code : (c : Code) (r : List ℕ) → OfBytes c → Small r → Small (code_bytes c ++ r)
of_code c r h b = (omega arith, (omega arith, (h.op-byte, (h.a_byte, of_word c.b r h.b-word b))))

of-shape : (n size : ℕ) (x : Placed) (r : List ℕ) → n ≤ 16 → size < 65536 → ReadShape n size x → SmallShape x → Small r → Small (shape_bytes x ++ r)
of-shape n size x r p q h s b =
    let ts = x.found.operands in let z = h.stands in
    (omega arith, (omega arith, (omega arith, (omega arith, (s.0, (s.1, of_types n (reverse ts) r p (each_rev (Named n) ts [] h.named tt) b))))))

module _ (m : Macro) (w : Writable m) where
  pub bytes : Bytes (macro_bytes m)
  unfolding macro_bytes
  bytes =
      let f = w.well-formed in let n = length m.classes in let size = length m.code in
      let p = f.few-classes in let q = w.narrow.few-instructions in
      let l4 = each shape_bytes m.shapes (90 ∷ 90 ∷ []) in let l3 = each code_bytes m.code l4 in let l2 = each body_bytes m.bodies l3 in
      let ss = of-each shape_bytes (λ x. ReadShape n size x × SmallShape x) (λ x r h b. of-shape n size x r p q h.0 h.1 b) m.shapes
      (90 ∷ 90 ∷ []) (two (ReadShape n size) SmallShape m.shapes f.shapes-read w.small-shapes) (omega arith, (omega arith, tt)) in
      let xs = of-each code_bytes OfBytes (λ x r h b. of_code x r h b) m.code l4 w.narrow.instructions-narrow ss in
      let bs = of-each body_bytes (λ x. ReadBody n size x × SmallBody x) (λ x r h b. of-body n size x r p q h.0 h.1 b) m.bodies l3
      (two (ReadBody n size) SmallBody m.bodies f.bodies-read w.small-bodies) xs in
      let cs = of-each class_bytes (ReadClass n) (λ x r h b. of-class n x r p h b) m.classes l2 f.classes-read bs in
      let z = f.few-bodies in
      small_bytes (macro_bytes m) (omega arith, (omega arith, (omega arith, (omega arith, (let u = w.few-shapes in (omega arith, (omega arith, (omega arith, (omega arith, cs)))))))))

  pub reads : read_macro (macro_bytes m) ≡ accepted m
  reads = read_back m w.well-formed

  module _ (right : (i : ℕ) → i < length m.code → fault_at m i ≡ false) where
    pub judged : judge_macro (macro_bytes m) ≡ accepted m
    judged = (passes-exactly (macro_bytes m) m).1 (reads, right)

    pub passes : Passed m
    passes = record { well-formed = w.well-formed; narrow = w.narrow; faultless = right }
